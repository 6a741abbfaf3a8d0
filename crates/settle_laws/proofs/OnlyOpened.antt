-- A function that is shut nowhere, and whose registers stay, is written only to switch it on.
use Rattle.std.proofs.Common.{◌≡◌, ℕ, inl, inr, List, [], ◌∷◌, ◌++◌, refl, Bool, true, false, cond, ◌&&◌, not, arith, sym, ◌∙◌, ap, subst}
use Rattle.std.specs.Bool.{◌==◌, nat_lt}
use Rattle.std.specs.List.{Contains, flat_map}
use Rattle.std.proofs.lemmas.Bool.{and_right, cases_Bool, eq-eqb, not_from_false, not_from_true}
use Rattle.std.proofs.lemmas.List.Elements.{Contains-append_cases}
use Rattle.pci_spec.specs.Number.{number_at}
use Rattle.pci_spec.specs.Registers.{COMMAND}
use Rattle.pci_spec.specs.Slot.{slot_number}
use Rattle.pci_spec.specs.Header.{command, layout, address_registers, registers_by}
use Rattle.pci_spec.specs.Window.{WindowKind, IoWindow, MemoryWindow, PrefetchWindow}
use Rattle.pci_spec.specs.System.{System, Function, IsSystem, Space, Io, Window, is_bridge, is_space_on}
use Rattle.pci_spec.specs.Machine.{Write}
use Rattle.pci_spec.proofs.Members.{in_nil, in_cons_cases, in_head, in_tail, IsInPiece, in_flat_map_to}
use Rattle.pci_spec.proofs.Nesting.{one_function}
use Rattle.plan_spec.specs.Planning.Building.{command_write}
use Rattle.plan_spec.specs.Planning.PlanWrites.{Change, register_write}
use Rattle.plan_spec.proofs.Planning.Kept.{images_of}
use Rattle.settle_spec.specs.Lists.{Request}
use Rattle.settle_spec.specs.Parts.{has_left, are_same_space}
use Rattle.settle_spec.specs.Keeping.Registers.{settled_function, settled_command}
use Rattle.settle_spec.specs.Writes.{differs_at, part_registers, closing_registers, setting_registers, upper_halves}
use Rattle.settle_spec.specs.Keeping.Writes.{changes_window, is_left_on, is_replaced, closed_function, change_to_closed, setting_of, closing_from, setting_from, opening_from, closings, settle_writes}
use Rattle.settle_laws.specs.WriteLaws.{KeepsRegisters}
use Rattle.settle_laws.proofs.ClosedSame.{none_flat, no_difference}
use Rattle.settle_laws.proofs.Keeping.ChangedWindows.{no_window_changes}
use Rattle.settle_laws.proofs.Keeping.ClosedSame.{closed_same, closed_layout}
use Rattle.settle_laws.proofs.Keeping.Commands.{left_by, left_is_enabled, on_settled, settled_is}
use Rattle.settle_laws.proofs.Keeping.Few.{own_writes, own_write}
use Rattle.settle_laws.proofs.Pieces.{in_command}
use Rattle.settle_laws.proofs.Keeping.Shown.{settled_image_is}
use Rattle.settle_laws.proofs.NonePasses.{none_by}
use Rattle.settle_spec.specs.Stands.{window_part}
use Rattle.settle_spec.specs.Kept.{Kept}

-- ---- the registers of windows, and those that are set, are address registers

abbrev In : Bool → ℕ × ℕ → Type 0
In bridge r = Contains (registers_by bridge) r

one_of : (bridge : Bool) (x : ℕ × ℕ) (more : List (ℕ × ℕ)) → In bridge x → ((r : ℕ × ℕ) → Contains more r → In bridge r) → (r : ℕ × ℕ) → Contains (x ∷ more) r → In bridge r
one_of bridge x more first rest r has = elim (in_cons_cases x more r has) [
  | inl is ↦ subst (In bridge) is first
  | inr later ↦ rest r later
]

no_more : (bridge : Bool) (r : ℕ × ℕ) → Contains [] r → In bridge r
no_more bridge r none = absurd (in_nil r none)

pub window_registers_are : (f : Function) (c : WindowKind) (r : ℕ × ℕ) → Contains (part_registers f (Window c)) r → In true r
window_registers_are f IoWindow = one_of true (0x1c, 2) ((0x30, 4) ∷ []) (2, omega arith, refl) (one_of true (0x30, 4) [] (7, omega arith, refl) (no_more true))
window_registers_are f MemoryWindow = one_of true (0x20, 4) [] (3, omega arith, refl) (no_more true)
window_registers_are f PrefetchWindow = one_of true (0x24, 4) ((0x28, 4) ∷ (0x2c, 4) ∷ []) (4, omega arith, refl) (one_of true (0x28, 4) ((0x2c, 4) ∷ []) (5, omega arith, refl) (one_of true (0x2c, 4) [] (6, omega arith, refl) (no_more true)))

halves_are : (c : Change) (r : ℕ × ℕ) → Contains (upper_halves c) r → In true r
halves_are c = elim (cases_Bool (nat_lt (number_at c.new.image 0x28 4) (number_at c.old.image 0x2c 4))) [
  | inl first ↦ subst (λ t. (r : ℕ × ℕ) → Contains (cond {A = List (ℕ × ℕ)} t ((0x2c, 4) ∷ (0x28, 4) ∷ []) ((0x28, 4) ∷ (0x2c, 4) ∷ [])) r → In true r) (sym first)
      (one_of true (0x2c, 4) ((0x28, 4) ∷ []) (6, omega arith, refl) (one_of true (0x28, 4) [] (5, omega arith, refl) (no_more true)))
  | inr later ↦ subst (λ t. (r : ℕ × ℕ) → Contains (cond {A = List (ℕ × ℕ)} t ((0x2c, 4) ∷ (0x28, 4) ∷ []) ((0x28, 4) ∷ (0x2c, 4) ∷ [])) r → In true r) (sym later)
      (one_of true (0x28, 4) ((0x2c, 4) ∷ []) (5, omega arith, refl) (one_of true (0x2c, 4) [] (6, omega arith, refl) (no_more true)))
]

pub setting_registers_are : (c : Change) (r : ℕ × ℕ) → Contains (setting_registers c) r → Contains (address_registers (layout c.old.image)) r
setting_registers_are c = elim (cases_Bool (is_bridge c.old)) [
  | inr device ↦ subst (λ t. (r : ℕ × ℕ) → Contains (cond {A = List (ℕ × ℕ)} t ((0x10, 4) ∷ (0x14, 4) ∷ (0x30, 4) ∷ (0x1c, 2) ∷ (0x20, 4) ∷ (upper_halves c ++ ((0x24, 4) ∷ (0x38, 4) ∷ []))) (address_registers (layout c.old.image))) r → Contains (address_registers (layout c.old.image)) r) (sym device) (λ r has. has)
  | inl bridge ↦
      let last = one_of true (0x24, 4) ((0x38, 4) ∷ []) (4, omega arith, refl) (one_of true (0x38, 4) [] (8, omega arith, refl) (no_more true)) in
      let behind : (r : ℕ × ℕ) → Contains (upper_halves c ++ ((0x24, 4) ∷ (0x38, 4) ∷ [])) r → In true r = λ r has. elim (Contains-append_cases (upper_halves c) ((0x24, 4) ∷ (0x38, 4) ∷ []) r has) [
        | inl half ↦ halves_are c r half
        | inr low ↦ last r low
      ] in
      let all = one_of true (0x10, 4) ((0x14, 4) ∷ (0x30, 4) ∷ (0x1c, 2) ∷ (0x20, 4) ∷ (upper_halves c ++ ((0x24, 4) ∷ (0x38, 4) ∷ []))) (0, omega arith, refl)
      (one_of true (0x14, 4) ((0x30, 4) ∷ (0x1c, 2) ∷ (0x20, 4) ∷ (upper_halves c ++ ((0x24, 4) ∷ (0x38, 4) ∷ []))) (1, omega arith, refl)
      (one_of true (0x30, 4) ((0x1c, 2) ∷ (0x20, 4) ∷ (upper_halves c ++ ((0x24, 4) ∷ (0x38, 4) ∷ []))) (7, omega arith, refl)
      (one_of true (0x1c, 2) ((0x20, 4) ∷ (upper_halves c ++ ((0x24, 4) ∷ (0x38, 4) ∷ []))) (2, omega arith, refl)
      (one_of true (0x20, 4) (upper_halves c ++ ((0x24, 4) ∷ (0x38, 4) ∷ [])) (3, omega arith, refl) behind)))) in
      subst (λ t. (r : ℕ × ℕ) → Contains (cond {A = List (ℕ × ℕ)} t ((0x10, 4) ∷ (0x14, 4) ∷ (0x30, 4) ∷ (0x1c, 2) ∷ (0x20, 4) ∷ (upper_halves c ++ ((0x24, 4) ∷ (0x38, 4) ∷ []))) (address_registers (layout c.old.image))) r → Contains (registers_by t) r) (sym bridge) all
]

-- ---- which function a write is of

module _ (q : Request) (s : System) (k : Kept) where
  pub closing_piece : (t : System) (w : Write) → Contains (closings q s k t) w → IsInPiece (closing_from q s k) t w
  closing_piece [] w has = absurd (in_nil w has)
  closing_piece (f ∷ t) w has = elim (Contains-append_cases (closings q s k t) (closing_from q s k f) w has) [
    | inl more ↦ let r : IsInPiece (closing_from q s k) t w = closing_piece t w more in record { of = r.of; has = in_tail f t r.of r.has; piece = r.piece }
    | inr here ↦ record { of = f; has = in_head f t; piece = here }
  ]

module _ (q : Request) (s : System) (k : Kept) (system : IsSystem s) (f : Function) (listed : Contains s f) (keeps : KeepsRegisters q s k f) where
  unreplaced : (c : WindowKind) → is_replaced q s k f c ≡ false
  unreplaced c = elim (cases_Bool (is_bridge f)) [
    | inr device ↦ ap (λ t. t && not (k.stays (window_part c f)) && changes_window q s k c f) device
    | inl bridge ↦
        and_right (is_bridge f && not (k.stays (window_part c f))) (changes_window q s k c f) (no_window_changes q s k c f (none_by (differs_at f (settled_function q s k f)) (part_registers f (Window c))
        (λ r has. not_from_true (number_at (settled_function q s k f).image r.0 r.1 == number_at f.image r.0 r.1)
        (eq-eqb (number_at (settled_function q s k f).image r.0 r.1) (number_at f.image r.0 r.1)
        (keeps.same r (subst (λ t. Contains (registers_by t) r) (sym bridge) (window_registers_are f c r has)))))))
  ]

  unleft_in : (space : Space) → not (are_same_space space Io && has_left q s f) ≡ true
  unleft_in space = not_from_false (are_same_space space Io && has_left q s f) (and_right (are_same_space space Io) (has_left q s f) keeps.unleft)

  left_as_on : (space : Space) → is_left_on q s k space f ≡ is_space_on f space
  left_as_on space =
      ap (λ t. not t && (not (are_same_space space Io && has_left q s f) && is_space_on f space)) (keeps.unshut space)
      ∙ ap (λ t. t && is_space_on f space) (unleft_in space)

  closed_is : closed_function q s k f ≡ f
  closed_is = closed_same q s k f (images_of s system f listed) unreplaced left_as_on

  at_slot : (g : Function) → Contains s g → g.slot ≡ f.slot → g ≡ f
  at_slot g in_g same = one_function s system g f in_g listed (ap slot_number same)

  no_closing : closing_from q s k f ≡ []
  no_closing = none_flat (register_write (change_to_closed q s k f)) (closing_registers f) (λ r has. no_difference (change_to_closed q s k f) r (ap (λ (g : Function). number_at g.image r.0 r.1) closed_is))

  no_setting : setting_from q s k f ≡ []
  no_setting = none_flat (register_write (setting_of q s k f)) (setting_registers (setting_of q s k f)) (λ r has.
      no_difference (setting_of q s k f) r
      (keeps.same r (subst (λ n. Contains (address_registers n) r) (closed_layout q s k f) (setting_registers_are (setting_of q s k f) r has))
      ∙ ap (λ (g : Function). number_at g.image r.0 r.1) (sym closed_is)))

  command_settled : command (settled_function q s k f).image ≡ settled_command q s k f
  command_settled = settled_is q s k f (images_of s system f listed) (settled_image_is q s k f (images_of s system f listed))

  -- The law: it is only switched on.
  pub only_opened : (w : Write) → Contains (settle_writes q s k) w → w.slot ≡ f.slot → w ≡ command_write f (settled_command q s k f)
  only_opened w has same = elim (Contains-append_cases (closings q s k s) (flat_map (setting_from q s k) s ++ flat_map (opening_from q s k) s) w has) [
    | inl closing ↦
        let piece : IsInPiece (closing_from q s k) s w = closing_piece q s k s w closing in
        let is = at_slot piece.of piece.has (sym (own_writes q s k system (change_to_closed q s k piece.of) (closing_registers piece.of) w piece.piece) ∙ same) in
        absurd (in_nil w (subst (λ ws. Contains ws w) (ap (closing_from q s k) is ∙ no_closing) piece.piece))
    | inr later ↦ elim (Contains-append_cases (flat_map (setting_from q s k) s) (flat_map (opening_from q s k) s) w later) [
      | inl setting ↦
          let piece : IsInPiece (setting_from q s k) s w = in_flat_map_to (setting_from q s k) s w setting in
          let is = at_slot piece.of piece.has (sym (own_writes q s k system (setting_of q s k piece.of) (setting_registers (setting_of q s k piece.of)) w piece.piece) ∙ same) in
          absurd (in_nil w (subst (λ ws. Contains ws w) (ap (setting_from q s k) is ∙ no_setting) piece.piece))
      | inr opening ↦
          let piece : IsInPiece (opening_from q s k) s w = in_flat_map_to (opening_from q s k) s w opening in
          let is = at_slot piece.of piece.has (sym (own_write q s k system (setting_of q s k piece.of) (COMMAND, 2) w piece.piece) ∙ same) in
          let made = in_command (number_at (settled_function q s k piece.of).image 4 2 == number_at (closed_function q s k piece.of).image 4 2) (command_write piece.of (command (settled_function q s k piece.of).image)) w piece.piece in
          sym made.1 ∙ ap (λ g. command_write g (command (settled_function q s k g).image)) is ∙ ap (command_write f) command_settled
    ]
  ]

  pub stays_on : (space : Space) → is_space_on f space ≡ true → is_space_on (settled_function q s k f) space ≡ true
  stays_on space on =
      on_settled q s k f (settled_function q s k f) command_settled space
      ∙ left_is_enabled q s k f space (left_by q s k f space record { unshut = keeps.unshut space; unleft = unleft_in space; was = on })
