-- What is there is told by what is there on the bus behind and before it on its own bus: 256 buses behind one another are all.
use Rattle.std.proofs.Common.{◌≡◌, ℕ, zero, suc, ◌+◌, ◌<◌, ◌≤◌, inl, inr, List, [], length, Option, None, Some, Bool, true, false, ◌&&◌, arith, ap, sym, ◌∙◌, refl, ◌++◌}
use Rattle.std.specs.Bool.{◌==◌, if◌then◌else◌}
use Rattle.std.specs.List.{Contains}
use Rattle.std.specs.Option.{is_some}
use Rattle.std.proofs.lemmas.Bool.{cases_Bool, and_parts, eqb-true, false_from_ne_true, or_cases}
use Rattle.pci_spec.specs.Window.{WindowKind}
use Rattle.pci_spec.specs.Decoded.{Range}
use Rattle.pci_spec.specs.System.{System, Function, IsSystem, Part, Bar, Rom, Window, is_bridge, window_space}
use Rattle.pci_spec.specs.Bus.{is_root, secondary, are_siblings, IsNested}
use Rattle.plan_spec.specs.Plan.{same_class, is_open}
use Rattle.plan_spec.proofs.Planning.Safe.{slots_of, order_of}
use Rattle.settle_spec.specs.Lines.{lines_on, taken_for}
use Rattle.settle_spec.specs.Lists.{Request}
use Rattle.settle_spec.specs.Parts.{FunctionPart, system_parts, header_parts, addresses, class_in, are_same_space}
use Rattle.settle_spec.specs.Stands.{are_beside, window_part, part_space, stands}
use Rattle.settle_spec.specs.Items.{PlacingItem, bus_items, new_window, has_room_behind, place_each}
use Rattle.settle_spec.specs.Reach.{reach}
use Rattle.settle_spec.specs.Growth.{place_around, grown_around, range_list, there_on, taken_around, window_comes_to, part_comes_to, is_clear, there_if, there_beside, there_within, there, comes_to}
use Rattle.settle_spec.proofs.Nested.{at_secondary, is_no_root, on_it}
use Rattle.settle_laws.specs.There.{height}
use Rattle.settle_laws.proofs.Holding.{pieces_same, items_same_on}
use Rattle.settle_laws.proofs.Standing.{part_of, stands_by_itself}
use Rattle.settle_laws.proofs.There.{beside_zero, beside_next, within_next}
use Rattle.settle_laws.proofs.ThereApart.{if_same, enough, few}

module _ (q : Request) (s : System) where
  -- ---- what a window comes to is told by what is there on the bus behind it

  module _ (one other : FunctionPart → Option Range) (bus : ℕ) (same : (t : FunctionPart) → Contains s t.function → Contains (header_parts t.function) t.part → are_siblings q.roots bus t.function.slot.bus ≡ true → one t ≡ other t) where
    abbrev piece : (FunctionPart → Bool) → (FunctionPart → Option Range) → FunctionPart → List Range
    piece test there r = if are_siblings q.roots bus r.function.slot.bus && test r then range_list (there r) else []

    on_same : (test : FunctionPart → Bool) → there_on q s one test bus ≡ there_on q s other test bus
    on_same test = pieces_same (piece test one) (piece test other) (system_parts q s) (λ r listed. let is = part_of q s r listed in of r is.listed is.there)
      where
        of : (r : FunctionPart) → Contains s r.function → Contains (header_parts r.function) r.part → piece test one r ≡ piece test other r
        of r in_r there = elim (cases_Bool (are_siblings q.roots bus r.function.slot.bus)) [
          | inl beside ↦ ap (λ o. if are_siblings q.roots bus r.function.slot.bus && test r then range_list o else []) (same r in_r there beside)
          | inr apart ↦ ap (λ b. if b && test r then range_list (one r) else []) apart ∙ sym (ap (λ b. if b && test r then range_list (other r) else []) apart)
        ]

  comes_same : (one other : FunctionPart → Option Range) (c : WindowKind) (b : Function) → ((t : FunctionPart) → Contains s t.function → Contains (header_parts t.function) t.part → are_siblings q.roots (secondary b) t.function.slot.bus ≡ true → one t ≡ other t)
      → window_comes_to q s one c b ≡ window_comes_to q s other c b
  comes_same one other c b same =
      ap (λ xs. grown_around c w xs (taken_around q s one c b)) (on_same one other (secondary b) same of_class)
      ∙ ap (λ xs. grown_around c w (there_on q s other of_class (secondary b)) (place_each find (lines_on q (window_space c) (secondary b) ++ xs) (items one))) (on_same one other (secondary b) same of_space)
      ∙ ap (λ is. grown_around c w (there_on q s other of_class (secondary b)) (place_each find (lines_on q (window_space c) (secondary b) ++ there_on q s other of_space (secondary b)) is))
      (items_same_on q s (λ r. is_some (one r)) (λ r. is_some (other r)) (secondary b) c (λ t listed there beside class. ap is_some (same t listed there beside)))
    where
      w : Range
      w = addresses (window_part c b)

      of_class : FunctionPart → Bool
      of_class r = same_class c (class_in q s r.function r.part)

      of_space : FunctionPart → Bool
      of_space r = are_same_space (window_space c) (part_space r)

      find : PlacingItem → List Range → Option ℕ
      find i taken = place_around (addresses (window_part c b)) (reach q s c b) (taken_for q i.region taken) i.extent

      items : (FunctionPart → Option Range) → List PlacingItem
      items there = bus_items q s c (λ r. is_some (there r)) (new_window q s c) (secondary b)

  -- ---- buses of one height: all roots are one

  pub height_low : (f : Function) → height q f.slot.bus ≤ f.slot.bus
  height_low f = by (is_root q.roots f.slot.bus)
    where
      by : (root : Bool) → (if root then 0 else f.slot.bus) ≤ f.slot.bus
      by true = omega arith
      by false = omega arith

  pub beside_height : (u r : FunctionPart) → are_beside q u r ≡ true → height q u.function.slot.bus ≡ height q r.function.slot.bus
  beside_height u r beside =
      elim (or_cases (u.function.slot.bus == r.function.slot.bus) (is_root q.roots u.function.slot.bus && is_root q.roots r.function.slot.bus) (and_parts (are_siblings q.roots u.function.slot.bus r.function.slot.bus) (are_same_space (part_space u) (part_space r)) beside).0) [
        | inl same ↦ ap (height q) (eqb-true u.function.slot.bus r.function.slot.bus same)
        | inr roots ↦
            let both = and_parts (is_root q.roots u.function.slot.bus) (is_root q.roots r.function.slot.bus) roots in
            ap (λ b. if b then 0 else u.function.slot.bus) both.0 ∙ sym (ap (λ b. if b then 0 else r.function.slot.bus) both.1)
      ]

  module _ (system : IsSystem s) (nested : IsNested q.roots s) where
    bridge_of : (g : Function) (k : WindowKind) → is_open g k ≡ true → is_bridge g ≡ true
    bridge_of g k opens = (and_parts (is_bridge g) _ (and_parts _ _ opens).0).0

    pub part_same : (one other : FunctionPart → Option Range) (f : Function) (p : Part) → Contains s f → ((t : FunctionPart) → Contains s t.function → Contains (header_parts t.function) t.part → height q f.slot.bus < height q t.function.slot.bus → one t ≡ other t)
        → part_comes_to q s one f p ≡ part_comes_to q s other f p
    part_same one other f (Bar n) listed same = refl
    part_same one other f Rom listed same = refl
    part_same one other f (Window c) listed same = elim (cases_Bool (stands q s (window_part c f))) [
      | inl stand ↦
          let bridge = bridge_of f c ((stands_by_itself q s nested).only (window_part c f) listed stand) in
          ap (λ o. if stands q s (window_part c f) then o else None)
          (comes_same one other c f (λ t in_t there beside.
          let on = on_it q.roots s system nested f t.function.slot.bus listed bridge beside in
          let off = false_from_ne_true (is_root q.roots t.function.slot.bus) (is_no_root q.roots s system nested f t.function.slot.bus listed bridge (at_secondary q.roots s system nested f t.function.slot.bus listed bridge on)) in
          let high : height q t.function.slot.bus ≡ t.function.slot.bus = ap (λ b. if b then 0 else t.function.slot.bus) off in
          let up = order_of q.roots s nested f listed bridge in
          let low = height_low f in
          same t in_t there (omega (arith, up, on, low, high))))
      | inr off ↦ ap (λ b. if b then window_comes_to q s one c f else None) off ∙ sym (ap (λ b. if b then window_comes_to q s other c f else None) off)
    ]

    -- ---- what is there on a bus is told by what parts on it come to

    beside_same : (one other : FunctionPart → Option Range) (level : ℕ) → ((t : FunctionPart) → Contains s t.function → height q t.function.slot.bus ≡ level → one t ≡ other t)
        → (n : ℕ) (r : FunctionPart) → Contains s r.function → height q r.function.slot.bus ≡ level → there_beside q s one n r ≡ there_beside q s other n r
    beside_same one other level same zero r listed at = beside_zero q s one r ∙ sym (beside_zero q s other r)
    beside_same one other level same (suc n) r listed at =
        beside_next q s one n r
        ∙ ap (λ o. if is_clear q s (there_beside q s one n) r o then o else if has_room_behind q s r then Some (addresses r) else None) (same r listed at)
        ∙ if_same q s other (there_beside q s one n) (there_beside q s other n) r (λ u has before.
        let beside = (and_parts (are_beside q u r) _ before).0 in
        beside_same one other level same n u (part_of q s u has).listed (beside_height u r beside ∙ at))
        ∙ sym (beside_next q s other n r)

    abbrev comes : ℕ → FunctionPart → Option Range
    comes depth r = part_comes_to q s (there_within q s depth) r.function r.part

    deep : (d e : ℕ) (r : FunctionPart) → Contains s r.function → 256 ≤ height q r.function.slot.bus + d → 256 ≤ height q r.function.slot.bus + e → there_within q s d r ≡ there_within q s e r
    deep zero e r listed hd he = absurd (let small = (slots_of s system r.function listed).0 in let low = height_low r.function in let no : ⊥ = omega (arith, small, low, hd) in no)
    deep (suc d) zero r listed hd he = absurd (let small = (slots_of s system r.function listed).0 in let low = height_low r.function in let no : ⊥ = omega (arith, small, low, he) in no)
    deep (suc d) (suc e) r listed hd he =
        within_next q s d r
        ∙ beside_same (comes d) (comes e) (height q r.function.slot.bus) (λ t in_t at.
        part_same (there_within q s d) (there_within q s e) t.function t.part in_t (λ u in_u there up. deep d e u in_u (omega (arith, hd, at, up)) (omega (arith, he, at, up))))
        (length (system_parts q s)) r listed refl
        ∙ sym (within_next q s e r)

    pub there_beside_all : (r : FunctionPart) → Contains s r.function → there q s r ≡ there_beside q s (comes_to q s) (length (system_parts q s)) r
    there_beside_all r listed =
        within_next q s 255 r
        ∙ beside_same (comes 255) (comes_to q s) (height q r.function.slot.bus) (λ t in_t at.
        part_same (there_within q s 255) (there q s) t.function t.part in_t (λ u in_u there up. deep 255 256 u in_u (omega (arith, up)) (omega (arith, up))))
        (length (system_parts q s)) r listed refl

    -- The law: what is there tells itself.
    pub there_by_bus : (r : FunctionPart) → Contains (system_parts q s) r → there q s r ≡ there_if q s (comes_to q s) (there q s) r
    there_by_bus r has =
        let all = length (system_parts q s) in
        let less = few q s (comes_to q s) r has in
        there_beside_all r (part_of q s r has).listed
        ∙ enough q s (comes_to q s) all (suc all) r has less (omega (arith, less))
        ∙ beside_next q s (comes_to q s) all r
        ∙ if_same q s (comes_to q s) (there_beside q s (comes_to q s) all) (there q s) r (λ u in_u before. sym (there_beside_all u (part_of q s u in_u).listed))
