-- A function whose parts stay, and those of the bridges above it, is neither shut nor written but for Command's enables.
use Rattle.std.proofs.Common.{◌≡◌, ℕ, zero, suc, ◌≤◌, inl, inr, List, [], ◌∷◌, Bool, true, false, cond, ◌&&◌, ◌||◌, not, Option, None, Some, arith, refl, sym, ◌∙◌, ap, subst}
use Rattle.std.specs.Bool.{◌==◌, nat_le, if◌then◌else◌}
use Rattle.std.specs.Int.{bit_at}
use Rattle.std.specs.List.{Contains, list_all, list_any}
use Rattle.std.proofs.lemmas.Bool.{and_from, and_right, both_ways, false_from_ne_true, cases_Bool, eq-eqb, eqb-true, leb-true, not_from_true, or_from}
use Rattle.pci_spec.specs.Number.{has_bit, number_at, byte_at}
use Rattle.pci_spec.specs.Registers.{COMMAND}
use Rattle.pci_spec.specs.Header.{command, layout, address_registers, registers_by, bar_register, rom_register}
use Rattle.pci_spec.specs.Bar.{bar_at, is_wide}
use Rattle.pci_spec.specs.Window.{WindowKind, IoWindow, MemoryWindow, PrefetchWindow, closed_bounds}
use Rattle.pci_spec.specs.System.{System, Function, IsSystem, Space, Io, Memory, Part, Bar, Rom, Window, has_part, is_window, space_of}
use Rattle.pci_spec.specs.Bus.{IsNested}
use Rattle.pci_spec.specs.Machine.{without_low}
use Rattle.pci_spec.proofs.Bits.{bit_at-without_low}
use Rattle.pci_spec.proofs.Members.{in_cons_cases, in_filter_from, in_map_from, in_nil, IsMade, in_map_to}
use Rattle.plan_spec.specs.Plan.{bridges_above}
use Rattle.plan_spec.specs.Place.{nibble_of}
use Rattle.plan_spec.proofs.Planning.AboveBuses.{above_to}
use Rattle.plan_spec.proofs.Planning.Behind.{all_gives}
use Rattle.plan_spec.proofs.Planning.Kept.{images_of}
use Rattle.settle_spec.specs.Lists.{Request}
use Rattle.settle_spec.specs.Parts.{FunctionPart, addresses, header_parts, parts_of, function_parts, is_part, class_in, are_same_space}
use Rattle.settle_spec.specs.Stands.{part_space, rank}
use Rattle.settle_spec.specs.Items.{PlacingItem, Placed, Placing, AllPlaced, Lacks, new_window}
use Rattle.settle_spec.specs.Places.{placed_of}
use Rattle.settle_spec.specs.Keeping.Places.{place_of_item, new_place, placing_on, placing_within, space_items, taken_at}
use Rattle.settle_spec.specs.Registers.{closed_if_open, changing}
use Rattle.judge_spec.specs.Windows.{with_bounds}
use Rattle.settle_spec.specs.Keeping.Registers.{is_same_range, with_range, with_kept, is_enabled_in, settled_command, settled_function, settled_image, shown}
use Rattle.settle_spec.specs.Writes.{differs_at, part_registers, is_cut_off_in}
use Rattle.settle_spec.specs.Keeping.Writes.{changes_at, changes_window, changes_above, moves, has_moving, is_shut_itself, is_shut}
use Rattle.settle_laws.specs.RestLaws.{HasAllOf, IsLeftAlone, KeepsParts, KeptStands}
use Rattle.settle_laws.proofs.Keeping.Commands.{settled_is}
use Rattle.settle_laws.specs.WriteLaws.{KeepsRegisters}
use Rattle.settle_laws.proofs.OnlyOpened.{stays_on}
use Rattle.settle_laws.proofs.Finding.{found}
use Rattle.settle_laws.proofs.HeaderParts.{part_cases, rom_at_end}
use Rattle.settle_laws.proofs.Keeping.Held.{above_above}
use Rattle.settle_laws.proofs.ItemForms.{IsNewWindow, IsOwnPart, IsPlaceable, header_has, item_by, item_moves}
use Rattle.settle_laws.proofs.Keeping.Items.{IsItemIn, same_rank, space_items_are}
use Rattle.settle_laws.proofs.Keeping.Buses.{placing_step}
use Rattle.settle_laws.proofs.EachPlaced.{each_items}
use Rattle.settle_laws.proofs.Standing.{stands_by_itself}
use Rattle.pci_spec.specs.Decoded.{Range}
use Rattle.settle_laws.proofs.KeptAside.{enables_alone}
use Rattle.settle_laws.proofs.Numbers.{with_elsewhere}
use Rattle.settle_laws.proofs.Shown.{fold_keeps}
use Rattle.settle_laws.proofs.Keeping.ChangedWindows.{no_window_changes}
use Rattle.settle_laws.proofs.Keeping.Shown.{IsChanging, can_change, changing_is, step, step_plain, step_unwished, settled_image_is, window_bridge}
use Rattle.settle_laws.proofs.WindowBytes.{number_elsewhere}
use Rattle.settle_laws.proofs.NonePasses.{none_by}
use Rattle.settle_spec.specs.Kept.{Kept}
use Rattle.settle_spec.specs.Lines.{taken_for}

pub range_itself : (r : Range) → is_same_range r r ≡ true
range_itself r = and_from (r.first == r.first) (r.last == r.last) (eq-eqb r.first r.first refl) (eq-eqb r.last r.last refl)

module _ (q : Request) (s : System) (k : Kept) (system : IsSystem s) (nested : IsNested q.roots s) (kept : KeptStands q s k) where
  -- what stays is looked at
  only : (r : FunctionPart) → Contains s r.function → k.stays r ≡ true → is_part q s r.function r.part ≡ true
  only r listed is = (stands_by_itself q s nested).only r listed (kept r is)

  -- ---- what gets a place

  -- what is placed on a bus is an item of it
  is_item : (space : Space) (bus : ℕ) (placing : Placing) → placing_on q s k space bus ≡ placing → (x : Placed) → Contains (placed_of placing) x → Contains (space_items q s k space bus) x.item
  is_item space bus (Lacks i) e x has = absurd (in_nil x has)
  is_item space bus (AllPlaced placed) e x has =
      let find : PlacingItem → List Range → Option ℕ = λ i xs. place_of_item q s k (λ over. placed_of (placing_within q s k space 255 over)) i (taken_for q i.region xs) in
      subst (λ items. Contains items x.item) (each_items find (taken_at q s k space bus) (space_items q s k space bus) placed (sym (placing_step q s k space 255 bus) ∙ e)) (in_map_from (λ (y : Placed). y.item) placed x has)

  record GetsPlace (f : Function) (p : Part) : Type 0 where
    placeable : IsPlaceable q s (class_in q s f p) f p
    moves : k.stays record { function = f; part = p } ≡ false

  gets_place : (f : Function) (p : Part) → Contains s f → has_part f p ≡ true → (x : Placed) → new_place q s k record { function = f; part = p } ≡ Some x → GetsPlace f p
  gets_place f p listed there x e =
      let space = space_of f p in
      let bus = f.slot.bus in
      let r : FunctionPart = record { function = f; part = p } in
      let at = found (λ (y : Placed). rank y.item.region == rank r) (placed_of (placing_on q s k space bus)) x e in
      let is : IsItemIn q s k space bus x.item = space_items_are q s k space bus x.item (is_item space bus (placing_on q s k space bus) refl x at.0) in
      let item : x.item ≡ item_by (new_window q s) (class_in q s f p) f p = same_rank q s k system space bus x.item is f p listed there (eqb-true (rank x.item.region) (rank r) at.1) in
      let region : record { function = is.of.f; part = is.of.p } ≡ r = ap (λ (i : PlacingItem). i.region) (is.of.is ∙ item) in
      let function : is.of.f ≡ f = ap (λ (z : FunctionPart). z.function) region in
      let part : is.of.p ≡ p = ap (λ (z : FunctionPart). z.part) region in
      let class : is.c ≡ class_in q s f p = ap (λ (i : PlacingItem). i.class) (is.of.is ∙ item) in
      record {
        placeable = subst (λ o. IsPlaceable q s (class_in q s f p) f o) part (subst (λ g. IsPlaceable q s (class_in q s f p) g is.of.p) function (subst (λ c. IsPlaceable q s c is.of.f is.of.p) class is.of.can));
        moves = ap (λ (i : PlacingItem). k.stays i.region) (sym item) ∙ item_moves q s (new_window q s) is.c k.stays bus x.item is.has;
      }

  -- ---- registers

  -- what can change is a part of the header's layout
  changing_part : (f : Function) (r : FunctionPart) (c : IsChanging q s k f r) → has_part f c.p ≡ true
  changing_part f r c = elim (part_cases f c.p c.there) [
    | inl bar ↦ header_has f c.p c.there (sym (ap is_window bar.is))
    | inr (inl window) ↦ subst (λ o. has_part f o ≡ true) window.is (window_bridge q s k f window.kind (ap (can_change q s k f) window.is ∙ c.can))
    | inr (inr rom) ↦ subst (λ o. has_part f o ≡ true) rom refl
  ]

  module _ (f : Function) (listed : Contains s f) (keeps : KeepsParts q s k f) where
    abbrev region : Part → FunctionPart
    region p = record { function = f; part = p }

    part_stays : (p : Part) → Contains (header_parts f) p → is_part q s f p ≡ true → k.stays (region p) ≡ true
    part_stays p there part = keeps.parts p (in_filter_from (is_part q s f) (header_parts f) p there part)

    part_same : (p : Part) → Contains (header_parts f) p → is_part q s f p ≡ true → k.range (region p) ≡ addresses (region p)
    part_same p there part = keeps.same p (in_filter_from (is_part q s f) (header_parts f) p there part)

    no_place : (p : Part) → Contains (header_parts f) p → has_part f p ≡ true → new_place q s k (region p) ≡ None
    no_place p there has = by (new_place q s k (region p)) refl
      where
        stays_though : (c : WindowKind) → GetsPlace f p → IsPlaceable q s c f p → is_part q s f p ≡ true
        stays_though c gets (IsOwnPart plain part) = part
        stays_though c gets (IsNewWindow window bridge needed) = subst (λ o. is_part q s f o ≡ true) (sym window) (keeps.windows c bridge needed)

        by : (o : Option Placed) → new_place q s k (region p) ≡ o → new_place q s k (region p) ≡ None
        by None e = e
        by (Some x) e =
            let gets = gets_place f p listed has x e in
            absurd (both_ways (k.stays (region p)) gets.moves (part_stays p there (stays_though (class_in q s f p) gets gets.placeable)))

    -- what isn't looked at doesn't stay
    goes : (p : Part) → is_part q s f p ≡ false → k.stays (region p) ≡ false
    goes p none = false_from_ne_true (k.stays (region p)) (λ is. both_ways (is_part q s f p) none (only (region p) listed is))

    -- a step of the settled image
    step_leaves : (p : Part) → Contains (header_parts f) p → has_part f p ≡ true → (image : List ℕ) → step q s k f image (region p) ≡ image
    step_leaves p there has image =
        unwished p image ∙ ap (λ o. shown k (region p) o image) (no_place p there has)
        ∙ elim (cases_Bool (is_part q s f p)) [
          | inl part ↦
              ap (λ t. cond t (with_kept k (region p) image) (closed_if_open f p image)) (part_stays p there part)
              ∙ ap (λ t. cond (is_same_range t (addresses (region p))) image (with_range f p t image)) (part_same p there part)
              ∙ ap (λ t. cond t image (with_range f p (addresses (region p)) image)) (range_itself (addresses (region p)))
          | inr none ↦ not_open p none
        ]
      where
        unwished : (p : Part) (image : List ℕ) → step q s k f image (region p) ≡ shown k (region p) (new_place q s k (region p)) image
        unwished (Bar n) image = step_plain q s k f (Bar n) refl image
        unwished Rom image = step_plain q s k f Rom refl image
        unwished (Window c) image = step_unwished q s k f (region (Window c)) (keeps.unwished c) image

        one_of : (b : Bool) (x : List ℕ) → cond b x x ≡ x
        one_of true x = refl
        one_of false x = refl

        -- what isn't looked at is no window that is open
        not_open : (p : Part) → is_part q s f p ≡ false → cond (k.stays (region p)) (with_kept k (region p) image) (closed_if_open f p image) ≡ image
        not_open (Bar n) none = ap (λ t. cond (k.stays (region (Bar n))) t image) (one_of (is_same_range (k.range (region (Bar n))) (addresses (region (Bar n)))) image) ∙ one_of (k.stays (region (Bar n))) image
        not_open Rom none = ap (λ t. cond (k.stays (region Rom)) t image) (one_of (is_same_range (k.range (region Rom)) (addresses (region Rom))) image) ∙ one_of (k.stays (region Rom)) image
        not_open (Window c) none =
            ap (λ t. cond t (with_kept k (region (Window c)) image) (closed_if_open f (Window c) image)) (goes (Window c) none)
            ∙ ap (λ t. cond t (with_bounds c (closed_bounds c (nibble_of c f)) image) image) none

    image_rests : settled_image q s k f ≡ f.image
    image_rests = fold_keeps (λ x. x ≡ f.image) (step q s k f) (changing q s f)
        (λ r has x same.
        let c : IsChanging q s k f r = changing_is q s k f r has in
        subst (λ (t : FunctionPart). step q s k f x t ≡ f.image) c.is (step_leaves c.p c.there (changing_part f r c) x ∙ same)) f.image refl

    first_above : (x : ℕ × ℕ) (more : List (ℕ × ℕ)) → 6 ≤ x.0 → ((r : ℕ × ℕ) → Contains more r → 6 ≤ r.0) → (r : ℕ × ℕ) → Contains (x ∷ more) r → 6 ≤ r.0
    first_above x more first rest r has = elim (in_cons_cases x more r has) [
      | inl is ↦ subst (λ (y : ℕ × ℕ). 6 ≤ y.0) is first
      | inr later ↦ rest r later
    ]

    none_above : (r : ℕ × ℕ) → Contains [] r → 6 ≤ r.0
    none_above r none = absurd (in_nil r none)

    -- no address register is where Command is
    above_command : (bridge : Bool) → list_all (λ (r : ℕ × ℕ). nat_le 6 r.0) (registers_by bridge) ≡ true
    above_command true = refl
    above_command false = refl

    number_rests : (r : ℕ × ℕ) → 6 ≤ r.0 → number_at (settled_function q s k f).image r.0 r.1 ≡ number_at f.image r.0 r.1
    number_rests r high = number_elsewhere 2 COMMAND (settled_command q s k f) r.0 r.1 (settled_image q s k f) (inr (omega (arith, high))) ∙ ap (λ x. number_at x r.0 r.1) image_rests

    register_rests : (r : ℕ × ℕ) → Contains (address_registers (layout f.image)) r → number_at (settled_function q s k f).image r.0 r.1 ≡ number_at f.image r.0 r.1
    register_rests r has = number_rests r (leb-true 6 r.0 (all_gives (λ (r : ℕ × ℕ). nat_le 6 r.0) (registers_by (layout f.image == 1)) r (above_command (layout f.image == 1)) has))

    -- the registers of a part are above Command
    part_above : (p : Part) (r : ℕ × ℕ) → Contains (part_registers f p) r → 6 ≤ r.0
    part_above (Bar n) = first_above (bar_register n, if is_wide (bar_at f.probe n) then 8 else 4) [] (omega arith) none_above
    part_above Rom = first_above (rom_register (layout f.image), 4) [] (elim (rom_at_end f) [ inl e ↦ omega (arith, e) | inr e ↦ omega (arith, e) ]) none_above
    part_above (Window IoWindow) = first_above (0x1c, 2) ((0x30, 4) ∷ []) (omega arith) (first_above (0x30, 4) [] (omega arith) none_above)
    part_above (Window MemoryWindow) = first_above (0x20, 4) [] (omega arith) none_above
    part_above (Window PrefetchWindow) = first_above (0x24, 4) ((0x28, 4) ∷ (0x2c, 4) ∷ []) (omega arith) (first_above (0x28, 4) ((0x2c, 4) ∷ []) (omega arith) (first_above (0x2c, 4) [] (omega arith) none_above))

    changes_nowhere : (p : Part) → changes_at q s k f p ≡ false
    changes_nowhere p = none_by (differs_at f (settled_function q s k f)) (part_registers f p)
        (λ r has. not_from_true (number_at (settled_function q s k f).image r.0 r.1 == number_at f.image r.0 r.1)
        (eq-eqb (number_at (settled_function q s k f).image r.0 r.1) (number_at f.image r.0 r.1) (number_rests r (part_above p r has))))

  -- where no window above changes either, nothing moves
  module _ (space : Space) (f : Function) (listed : Contains s f) (keeps : KeepsParts q s k f) (over : (b : Function) → Contains (bridges_above s f.slot.bus) b → KeepsParts q s k b) where
    moves_nowhere : (p : Part) → moves q s k record { function = f; part = p } ≡ false
    moves_nowhere p =
        and_right (not (k.stays record { function = f; part = p })) (changes_at q s k f p || changes_above q s k (class_in q s f p) f.slot.bus)
        (or_from (changes_at q s k f p) (changes_above q s k (class_in q s f p) f.slot.bus) (changes_nowhere f listed keeps p)
        (none_by (changes_window q s k (class_in q s f p)) (bridges_above s f.slot.bus)
        (λ b has. no_window_changes q s k (class_in q s f p) b (changes_nowhere b (above_to s f.slot.bus b has).listed (over b has) (Window (class_in q s f p))))))

    none_moves : has_moving q s k space f ≡ false
    none_moves = none_by (λ r. are_same_space space (part_space r) && not (is_window r.part) && moves q s k r) (function_parts q s f)
        (λ r has.
        let made : IsMade (λ p. record { function = f; part = p }) (parts_of q s f) r = in_map_to (λ p. record { function = f; part = p }) (parts_of q s f) r has in
        subst (λ (t : FunctionPart). (are_same_space space (part_space t) && not (is_window t.part) && moves q s k t) ≡ false) made.is
        (and_right (are_same_space space (space_of f made.from) && not (is_window made.from)) (moves q s k record { function = f; part = made.from }) (moves_nowhere made.from)))

    not_shut_itself : is_shut_itself q s k space f ≡ false
    not_shut_itself = or_from (has_moving q s k space f) (is_cut_off_in q s f space) none_moves (keeps.reached space)

  -- ---- the laws

  module _ (f : Function) (listed : Contains s f) (alone : IsLeftAlone q s k f) where
    not_shut : (space : Space) → is_shut q s k space f ≡ false
    not_shut space =
        or_from (is_shut_itself q s k space f) (list_any (is_shut_itself q s k space) (bridges_above s f.slot.bus)) (not_shut_itself space f listed alone.itself alone.above)
        (none_by (is_shut_itself q s k space) (bridges_above s f.slot.bus)
        (λ b has. not_shut_itself space b (above_to s f.slot.bus b has).listed (alone.above b has) (λ d in_d. alone.above d (above_above q s k system nested f b d has in_d))))

    pub keeps_registers : KeepsRegisters q s k f
    keeps_registers = record { unshut = not_shut; same = register_rests f listed alone.itself; unleft = alone.unleft }

    abbrev now : Function
    now = settled_function q s k f

    command_now : command now.image ≡ settled_command q s k f
    command_now = let is = images_of s system f listed in settled_is q s k f is (settled_image_is q s k f is)

    others_same : without_low 4 (command now.image) ≡ without_low 4 (command f.image)
    others_same = ap (without_low 4) command_now ∙ enables_alone (command f.image) (is_enabled_in q s k Io f) (is_enabled_in q s k Memory f)

    -- each bit of Command stays set
    bit_stays : (i : ℕ) → has_bit (command f.image) i ≡ true → has_bit (command now.image) i ≡ true
    bit_stays zero on = stays_on q s k system f listed keeps_registers Io on
    bit_stays (suc zero) on = stays_on q s k system f listed keeps_registers Memory on
    bit_stays (suc (suc i)) on =
        ap (λ n. n == 1)
        (sym (bit_at-without_low (command now.image) 2 (suc (suc i)) (omega arith)) ∙ ap (λ n. bit_at n (suc (suc i))) others_same ∙ bit_at-without_low (command f.image) 2 (suc (suc i)) (omega arith))
        ∙ on

    pub written_on : (i : ℕ) → has_bit (command f.image) i ≡ true → has_bit (settled_command q s k f) i ≡ true
    written_on i on = subst (λ n. has_bit n i ≡ true) command_now (bit_stays i on)

    pub has_all : HasAllOf f now
    has_all = record {
      slot = refl;
      probe = refl;
      bytes = λ place apart. with_elsewhere 2 COMMAND (settled_command q s k f) place (settled_image q s k f) apart ∙ ap (λ x. byte_at x place) (image_rests f listed alone.itself);
      others = others_same;
      enables = bit_stays;
    }

    pub has_itself : HasAllOf f f
    has_itself = record {
      slot = refl;
      probe = refl;
      bytes = λ place apart. refl;
      others = refl;
      enables = λ i on. on;
    }
