-- What settling writes: Command and address registers, and of a device such registers of which some bits are address bits.
use Rattle.std.proofs.Common.{◌≡◌, ◌⊎◌, ℕ, suc, ◌+◌, ◌<◌, ◌≤◌, List, [], ◌∷◌, ◌++◌, Bool, true, false, ◌&&◌, inl, inr, refl, sym, ◌∙◌, ap, subst, arith, ◌||◌}
use Rattle.std.specs.Bool.{nat_le, nat_lt, ◌==◌, if◌then◌else◌}
use Rattle.std.specs.List.{Contains, flat_map, list_all}
use Rattle.std.proofs.lemmas.Bool.{and_left, and_parts, both_ways, cases_Bool, eq-eqb, leb-true, ne_eqb, or_cases, eqb-true}
use Rattle.std.proofs.lemmas.List.Elements.{Contains-append_cases, Contains-append_left}
use Rattle.std.proofs.lemmas.Nat.Bits.{same_from_bits_below}
use Rattle.pci_spec.specs.Number.{byte_at, number_at, IsImage}
use Rattle.pci_spec.specs.Header.{registers_by}
use Rattle.pci_spec.specs.Registers.{COMMAND}
use Rattle.pci_spec.specs.Slot.{same_slot}
use Rattle.pci_spec.specs.System.{Function, System, is_bridge}
use Rattle.pci_spec.specs.Machine.{Write, address_fields, in_fields}
use Rattle.pci_spec.proofs.BusRanges.{all_gives}
use Rattle.pci_spec.proofs.Members.{in_cons_cases, in_flat_map_to, in_nil}
use Rattle.pci_spec.proofs.Nesting.{one_function}
use Rattle.plan_spec.specs.Plan.{IsMoved}
use Rattle.plan_spec.specs.Planning.PlanWrites.{Change, register_write}
use Rattle.plan_spec.proofs.Planning.Kept.{images_of}
use Rattle.plan_spec.proofs.Planning.Moved.{bridge_same}
use Rattle.plan_spec.proofs.Planning.SameBytes.{number_same}
use Rattle.plan_spec.proofs.Planning.Writes.{same_number}
use Rattle.settle_spec.specs.Kept.{Kept}
use Rattle.settle_spec.specs.Lists.{Request}
use Rattle.settle_spec.specs.Keeping.Registers.{settled_function}
use Rattle.settle_spec.specs.Keeping.Writes.{closed_function, closing_from, change_to_closed, closings, opening_from, setting_from, setting_of, settle_writes}
use Rattle.settle_spec.specs.Writes.{closing_registers, setting_registers}
use Rattle.settle_laws.specs.Keeping.PlacesLaws.{CanSettle}
use Rattle.settle_laws.proofs.Keeping.Few.{own_write, own_writes}
use Rattle.settle_laws.proofs.Keeping.SettlingStages.{are_states}
use Rattle.settle_laws.proofs.Stages.{AreStates}

-- a write of an address register of a device, some of whose bits are address bits
pub record IsRegisterOf (f : Function) (u : Write) : Type 0 where
  pub r : ℕ × ℕ
  pub listed : Contains (registers_by false) r
  pub offset : u.offset ≡ r.0
  pub width : u.width ≡ r.1
  pub address : ((place i : ℕ) → r.0 ≤ place → place < r.0 + r.1 → i < 8 → in_fields (address_fields f.image f.probe) place i ≡ false) → ⊥

abbrev pub IsDeviceWrite : Function → Write → Type 0
IsDeviceWrite f u = ((u.offset ≡ COMMAND) × (u.width ≡ 2)) ⊎ IsRegisterOf f u

-- ---- bytes

-- what moves keeps a byte without address bits
byte_kept : (f g : Function) → IsImage f.image → IsMoved f g → (place : ℕ) → place < 256 → 6 ≤ place → ((i : ℕ) → i < 8 → in_fields (address_fields f.image f.probe) place i ≡ false) → byte_at g.image place ≡ byte_at f.image place
byte_kept f g is m place inside past none =
    same_from_bits_below 8 (byte_at g.image place) (byte_at f.image place) (m.image.bytes place) (is.bytes place)
    (λ i small. m.same place i inside small (none i small) (and_left (place == 4) (nat_lt i 2) (ne_eqb place 4 (λ e. omega (arith, e, past)))))

-- ---- what a write is of

abbrev number_write : Change → ℕ × ℕ → Write
number_write c r = record { slot = c.old.slot; offset = r.0; width = r.1; value = number_at c.new.image r.0 r.1 }

-- the write of a register that changes
record IsChangeAt (c : Change) (registers : List (ℕ × ℕ)) (u : Write) : Type 0 where
  r : ℕ × ℕ
  listed : Contains registers r
  differs : (number_at c.new.image r.0 r.1 == number_at c.old.image r.0 r.1) ≡ false
  is : number_write c r ≡ u

change_at : (c : Change) (registers : List (ℕ × ℕ)) (u : Write) → Contains (flat_map (register_write c) registers) u → IsChangeAt c registers u
change_at c registers u has =
    let one = in_flat_map_to (register_write c) registers u has in
    let r = one.of in
    let w = number_write c r in
    elim (cases_Bool (number_at c.new.image r.0 r.1 == number_at c.old.image r.0 r.1)) [
      | inl same ↦ absurd (in_nil u (subst (λ b. Contains (if b then [] else w ∷ []) u) same one.piece))
      | inr differs ↦ elim (in_cons_cases w [] u (subst (λ b. Contains (if b then [] else w ∷ []) u) differs one.piece)) [
        | inl is ↦ record { r = r; listed = one.has; differs = differs; is = is }
        | inr none ↦ absurd (in_nil u none)
      ]
    ]

-- ---- of which registers it is

-- a write of Command, or of registers from 10h to 3Bh
abbrev pub IsSettledWrite : Write → Type 0
IsSettledWrite u = ((u.offset ≡ COMMAND) × (u.width ≡ 2)) ⊎ ((16 ≤ u.offset) × (u.offset + u.width ≤ 60))

abbrev is_settled_at : ℕ × ℕ → Bool
is_settled_at r = (r.0 == 4 && r.1 == 2) || (nat_le 16 r.0 && nat_le (r.0 + r.1) 60)

settled_at : (c : Change) (registers : List (ℕ × ℕ)) → list_all is_settled_at registers ≡ true → (u : Write) → Contains (flat_map (register_write c) registers) u → IsSettledWrite u
settled_at c registers all u has =
    let x = change_at c registers u has in
    let r = x.r in
    let offset : u.offset ≡ r.0 = sym (ap (λ (w : Write). w.offset) x.is) in
    let width : u.width ≡ r.1 = sym (ap (λ (w : Write). w.width) x.is) in
    elim (or_cases (r.0 == 4 && r.1 == 2) (nat_le 16 r.0 && nat_le (r.0 + r.1) 60) (all_gives is_settled_at registers all r x.listed)) [
      | inl one ↦ (let parts = and_parts (r.0 == 4) (r.1 == 2) one in inl (offset ∙ eqb-true r.0 4 parts.0, width ∙ eqb-true r.1 2 parts.1))
      | inr other ↦ (
          let parts = and_parts (nat_le 16 r.0) (nat_le (r.0 + r.1) 60) other in
          let from = leb-true 16 r.0 parts.0 in
          let to = leb-true (r.0 + r.1) 60 parts.1 in
          inr (omega (arith, offset, from), omega (arith, offset, width, to))
          )
    ]

closing_table : (bridge : Bool) → list_all is_settled_at ((COMMAND, 2) ∷ (if bridge then (0x1c, 2) ∷ (0x30, 4) ∷ (0x20, 4) ∷ (0x24, 4) ∷ (0x2c, 4) ∷ [] else [])) ≡ true
closing_table true = refl
closing_table false = refl

setting_table : (bridge limit_first : Bool) → list_all is_settled_at
    (if bridge then (0x10, 4) ∷ (0x14, 4) ∷ (0x30, 4) ∷ (0x1c, 2) ∷ (0x20, 4) ∷ ((if limit_first then (0x2c, 4) ∷ (0x28, 4) ∷ [] else (0x28, 4) ∷ (0x2c, 4) ∷ []) ++ (0x24, 4) ∷ (0x38, 4) ∷ []) else registers_by bridge) ≡ true
setting_table true true = refl
setting_table true false = refl
setting_table false limit_first = refl

module _ (q : Request) (s : System) (k : Kept) where
  pub settled_write : (u : Write) → Contains (settle_writes q s k) u → IsSettledWrite u
  settled_write u has = elim (Contains-append_cases (closings q s k s) (flat_map (setting_from q s k) s ++ flat_map (opening_from q s k) s) u has) [
    | inl closing ↦ in_closing s closing
    | inr more ↦ elim (Contains-append_cases (flat_map (setting_from q s k) s) (flat_map (opening_from q s k) s) u more) [
      | inl setting ↦
          let found = in_flat_map_to (setting_from q s k) s u setting in
          let c = setting_of q s k found.of in
          settled_at c (setting_registers c) (setting_table (is_bridge c.old) (nat_lt (number_at c.new.image 0x28 4) (number_at c.old.image 0x2c 4))) u found.piece
      | inr opening ↦
          let found = in_flat_map_to (opening_from q s k) s u opening in
          let c = setting_of q s k found.of in
          settled_at c ((COMMAND, 2) ∷ []) refl u (Contains-append_left (register_write c (COMMAND, 2)) [] u found.piece)
    ]
  ]
    where
      in_closing : (r : System) → Contains (closings q s k r) u → IsSettledWrite u
      in_closing [] has = absurd (in_nil u has)
      in_closing (f ∷ r) has = elim (Contains-append_cases (closings q s k r) (closing_from q s k f) u has) [
        | inl later ↦ in_closing r later
        | inr here ↦ settled_at (change_to_closed q s k f) (closing_registers f) (closing_table (is_bridge f)) u here
      ]

-- ---- writes of a device

module _ (q : Request) (s : System) (k : Kept) (can : CanSettle q s k) where
  -- a closing write is one of a function
  in_closings : (r : System) (u : Write) → Contains (closings q s k r) u → (f : Function) × Contains r f × Contains (closing_from q s k f) u
  in_closings [] u has = absurd (in_nil u has)
  in_closings (f ∷ r) u has = elim (Contains-append_cases (closings q s k r) (closing_from q s k f) u has) [
    | inl later ↦ (let found = in_closings r u later in (found.0, behind f r found.0 found.1, found.2))
    | inr here ↦ (f, head f r, here)
  ]
    where
      head : (f : Function) (r : System) → Contains (f ∷ r) f
      head f r = (0, omega arith, refl)

      behind : (f : Function) (r : System) (g : Function) → Contains r g → Contains (f ∷ r) g
      behind f r g (i, less, at) = (suc i, omega (arith, less), at)

  states : AreStates s (closed_function q s k) (settled_function q s k)
  states = are_states q s k can

  module _ (h : Function) (listed : Contains s h) (device : is_bridge h ≡ false) (u : Write) (at : same_slot h.slot u.slot ≡ true) where
    is : IsImage h.image
    is = images_of s can.system h listed

    abbrev closed : Function
    closed = closed_function q s k h

    abbrev final : Function
    final = settled_function q s k h

    closed_m : IsMoved h closed
    closed_m = states.closed_moved h listed

    final_m : IsMoved h final
    final_m = states.final_moved h listed

    -- it is of this function
    own : (f : Function) → Contains s f → u.slot ≡ f.slot → f ≡ h
    own f has slot = one_function s can.system f h has listed (sym (same_number h.slot f.slot (ap (same_slot h.slot) (sym slot) ∙ at)))

    command_at : (c : Change) (registers : List (ℕ × ℕ)) → ((r : ℕ × ℕ) → Contains registers r → r ≡ (COMMAND, 2)) → IsChangeAt c registers u → IsDeviceWrite h u
    command_at c registers only x =
        let r_is = only x.r x.listed in
        inl (sym (ap (λ (w : Write). w.offset) x.is) ∙ ap (λ (a : ℕ × ℕ). a.0) r_is, sym (ap (λ (w : Write). w.width) x.is) ∙ ap (λ (a : ℕ × ℕ). a.1) r_is)

    only_command : (registers : List (ℕ × ℕ)) → registers ≡ (COMMAND, 2) ∷ [] → (r : ℕ × ℕ) → Contains registers r → r ≡ (COMMAND, 2)
    only_command registers are r has = elim (in_cons_cases (COMMAND, 2) [] r (subst (λ (rs : List (ℕ × ℕ)). Contains rs r) are has)) [ inl first ↦ sym first | inr none ↦ absurd (in_nil r none) ]

    closing_is : Contains (closing_from q s k h) u → IsDeviceWrite h u
    closing_is has =
        command_at (change_to_closed q s k h) (closing_registers h)
        (only_command (closing_registers h) (ap (λ b. (COMMAND, 2) ∷ (if b then (0x1c, 2) ∷ (0x30, 4) ∷ (0x20, 4) ∷ (0x24, 4) ∷ (0x2c, 4) ∷ [] else [])) device))
        (change_at (change_to_closed q s k h) (closing_registers h) u has)

    opening_is : Contains (opening_from q s k h) u → IsDeviceWrite h u
    opening_is has =
        let c = setting_of q s k h in
        let w = number_write c (COMMAND, 2) in
        elim (cases_Bool (number_at c.new.image COMMAND 2 == number_at c.old.image COMMAND 2)) [
          | inl same ↦ absurd (in_nil u (subst (λ b. Contains (if b then [] else w ∷ []) u) same has))
          | inr differs ↦ elim (in_cons_cases w [] u (subst (λ b. Contains (if b then [] else w ∷ []) u) differs has)) [
            | inl is ↦ inl (sym (ap (λ (x : Write). x.offset) is), sym (ap (λ (x : Write). x.width) is))
            | inr none ↦ absurd (in_nil u none)
          ]
        ]

    -- the registers of a device are behind Command
    behind_command : (r : ℕ × ℕ) → Contains (registers_by false) r → (6 ≤ r.0) × (r.0 + r.1 ≤ 256)
    behind_command r has =
        let parts = and_parts (nat_le 6 r.0) (nat_le (r.0 + r.1) 256) (all_gives (λ (x : ℕ × ℕ). nat_le 6 x.0 && nat_le (x.0 + x.1) 256) (registers_by false) refl r has) in
        (leb-true 6 r.0 parts.0, leb-true (r.0 + r.1) 256 parts.1)

    setting_is : Contains (setting_from q s k h) u → IsDeviceWrite h u
    setting_is has =
        let c = setting_of q s k h in
        let kind : is_bridge closed ≡ false = bridge_same h closed closed_m is ∙ device in
        let x = change_at c (setting_registers c) u has in
        let in_table : Contains (registers_by false) x.r = subst (λ b. Contains (registers_by b) x.r) kind (of_device x.r kind x.listed) in
        let range = behind_command x.r in_table in
        let from = range.0 in
        let to = range.1 in
        inr record {
          r = x.r;
          listed = in_table;
          offset = sym (ap (λ (w : Write). w.offset) x.is);
          width = sym (ap (λ (w : Write). w.width) x.is);
          address = λ none.
              let kept : (g : Function) → IsMoved h g → (j : ℕ) → j < x.r.1 → byte_at g.image (x.r.0 + j) ≡ byte_at h.image (x.r.0 + j) = λ g m j less.
              byte_kept h g is m (x.r.0 + j) (omega (arith, to, less)) (omega (arith, from)) (λ i small. none (x.r.0 + j) i (omega arith) (omega (arith, less)) small) in
              both_ways (number_at final.image x.r.0 x.r.1 == number_at closed.image x.r.0 x.r.1) x.differs
              (eq-eqb _ _ (number_same final.image h.image x.r.0 x.r.1 (kept final final_m) ∙ sym (number_same closed.image h.image x.r.0 x.r.1 (kept closed closed_m))));
        }
      where
        of_device : (r : ℕ × ℕ) → is_bridge closed ≡ false → Contains (setting_registers (setting_of q s k h)) r → Contains (registers_by (is_bridge closed)) r
        of_device r kind has = subst (λ (rs : List (ℕ × ℕ)). Contains rs r) (if_off (is_bridge closed) kind _ _) has
          where
            if_off : (b : Bool) → b ≡ false → (one other : List (ℕ × ℕ)) → (if b then one else other) ≡ other
            if_off b is_off one other = ap (λ b. if b then one else other) is_off

    pub device_write : Contains (settle_writes q s k) u → IsDeviceWrite h u
    device_write has = elim (Contains-append_cases (closings q s k s) (flat_map (setting_from q s k) s ++ flat_map (opening_from q s k) s) u has) [
      | inl closing ↦
          let found = in_closings s u closing in
          let slot = own_writes q s k can.system (change_to_closed q s k found.0) (closing_registers found.0) u found.2 in
          closing_is (subst (λ f. Contains (closing_from q s k f) u) (own found.0 found.1 slot) found.2)
      | inr more ↦ elim (Contains-append_cases (flat_map (setting_from q s k) s) (flat_map (opening_from q s k) s) u more) [
        | inl setting ↦
            let found = in_flat_map_to (setting_from q s k) s u setting in
            let f = found.of in
            let slot = own_writes q s k can.system (setting_of q s k f) (setting_registers (setting_of q s k f)) u found.piece in
            setting_is (subst (λ f. Contains (setting_from q s k f) u) (own f found.has slot) found.piece)
        | inr opening ↦
            let found = in_flat_map_to (opening_from q s k) s u opening in
            let f = found.of in
            opening_is (subst (λ f. Contains (opening_from q s k f) u) (own f found.has (own_write q s k can.system (setting_of q s k f) (COMMAND, 2) u found.piece)) found.piece)
      ]
    ]
