-- No two items of a bus have one slot and register.
use Rattle.std.proofs.Common.{◌≡◌, ℕ, ◌+◌, ◌*◌, ◌<◌, ◌≤◌, inl, inr, List, [], ◌∷◌, map, Bool, true, false, cond, ◌&&◌, not, arith, ap, sym, subst, ◌∙◌}
use Rattle.std.specs.List.{Contains, AllPairs, filter, flat_map}
use Rattle.std.proofs.lemmas.Bool.{both_ways}
use Rattle.pci_spec.specs.Slot.{slot_number}
use Rattle.pci_spec.specs.Window.{WindowKind, IoWindow, MemoryWindow, PrefetchWindow, window_register}
use Rattle.pci_spec.specs.System.{System, Function, Part, Window, IsSystem, is_bridge, is_window, register_of}
use Rattle.pci_spec.specs.Bus.{are_siblings}
use Rattle.pci_spec.proofs.Members.{IsMade, in_nil, in_cons_cases, in_map_to, in_map_from, in_filter_to, in_filter_from, pairs_nil, pairs_cons, pairs_append, pairs_map, pairs_filter, pairs_flat_map}
use Rattle.plan_spec.proofs.Planning.AllItems.{slots_rise}
use Rattle.plan_spec.proofs.Planning.OwnItems.{in_cond}
use Rattle.settle_spec.specs.FirstPlace.{Extent}
use Rattle.settle_spec.specs.Lists.{Request}
use Rattle.settle_spec.specs.Parts.{FunctionPart, is_part, parts_of, header_parts, function_parts}
use Rattle.settle_spec.specs.Stands.{rank, window_part}
use Rattle.settle_spec.specs.Items.{PlacingItem, in_turn, own_item, is_own, has_of, items_of, bus_items}
use Rattle.settle_spec.specs.PlacingLaws.{HasOtherRank}
use Rattle.settle_spec.proofs.InTurn.{turn_same}
use Rattle.settle_spec.proofs.ItemsOn.{each_of, opened, placed_part}
use Rattle.settle_spec.proofs.Moved.{pairs_moved}
use Rattle.settle_laws.proofs.Ranks.{own_rise, in_slot}
use Rattle.settle_laws.proofs.HeaderParts.{IsPart, one_part, window_of}

window_low : (c : WindowKind) → window_register c < 64
window_low IoWindow = omega arith
window_low MemoryWindow = omega arith
window_low PrefetchWindow = omega arith

module _ (q : Request) (s : System) (c : WindowKind) (keeps : FunctionPart → Bool) (extent : Function → Extent) where
  abbrev moves : FunctionPart → Bool
  moves r = is_own q s c r && not (keeps r)

  abbrev opens : Function → Bool
  opens f = is_bridge f && has_of q s c f && not (keeps (window_part c f))

  abbrev window : Function → PlacingItem
  window f = record { region = window_part c f; class = c; extent = extent f }

  abbrev own : Function → List PlacingItem
  own f = map (own_item c) (filter moves (function_parts q s f))

  abbrev later : Function → List PlacingItem
  later f = cond (opens f) (window f ∷ []) []

  -- ---- of a function

  abbrev InSlot : Function → PlacingItem → Type 0
  InSlot f i = (slot_number f.slot * 256 ≤ rank i.region) × (rank i.region < slot_number f.slot * 256 + 64)

  items_in_slot : (f : Function) (i : PlacingItem) → Contains (items_of q s c keeps extent f) i → InSlot f i
  items_in_slot f = each_of q s c keeps extent f (InSlot f)
      (λ p is. in_slot q s f (record { function = f; part = p }) (in_map_from (λ p. record { function = f; part = p }) (parts_of q s f) p (in_filter_from (is_part q s f) (header_parts f) p is.there is.part)))
      (λ is. let low = window_low c in (omega arith, omega (arith, low)))

  own_differ : (f : Function) → AllPairs HasOtherRank (own f)
  own_differ f = pairs_map HasOtherRank (own_item c) (filter moves (function_parts q s f))
      (λ i j d up inside same. let less = pairs_filter (λ r t. rank r < rank t) moves (function_parts q s f) (own_rise q s f) i j d up inside in let no : ⊥ = omega (arith, less, same) in no)

  one : (b : Bool) (i : PlacingItem) → AllPairs HasOtherRank (cond b (i ∷ []) [])
  one true i = pairs_cons HasOtherRank i [] (λ j listed. absurd (in_nil j listed)) (pairs_nil HasOtherRank)
  one false i = pairs_nil HasOtherRank

  -- a BAR or ROM isn't a window
  record IsPlain (f : Function) (i : PlacingItem) : Type 0 where
    p : Part
    region : record { function = f; part = p } ≡ i.region
    there : Contains (header_parts f) p
    plain : is_window p ≡ false

  in_own : (f : Function) (i : PlacingItem) → Contains (own f) i → IsPlain f i
  in_own f i has =
      let made : IsMade (own_item c) (filter moves (function_parts q s f)) i = in_map_to (own_item c) (filter moves (function_parts q s f)) i has in
      let passed = in_filter_to moves (function_parts q s f) made.from made.has in
      let of : IsMade (λ p. record { function = f; part = p }) (parts_of q s f) made.from = in_map_to (λ p. record { function = f; part = p }) (parts_of q s f) made.from passed.0 in
      let is = placed_part q s c keeps extent f of.from of.has (ap moves of.is ∙ passed.1) in
      record { p = of.from; region = of.is ∙ ap (λ (j : PlacingItem). j.region) made.is; there = is.there; plain = is.plain }

  other_window : (f : Function) (i : PlacingItem) → Contains (own f) i → opens f ≡ true → HasOtherRank i (window f)
  other_window f i has is same =
      let at = in_own f i has in
      let p = at.p in
      let ranks : rank (record { function = f; part = p }) ≡ rank (window_part c f) = ap rank at.region ∙ same in
      let register : register_of f p ≡ register_of f (Window c) = omega (arith, ranks) in
      let bridge = (opened q s c keeps extent f is).bridge in
      let own_part : IsPart f p = record { there = at.there; bridge = λ window. absurd (both_ways (is_window p) at.plain window) } in
      let other : IsPart f (Window c) = record { there = window_of f c; bridge = λ window. bridge } in
      both_ways (is_window p) at.plain (ap is_window (one_part f p (Window c) own_part other register))

  items_of_differ : (f : Function) → AllPairs HasOtherRank (items_of q s c keeps extent f)
  items_of_differ f =
      pairs_append HasOtherRank (own f) (later f) (own_differ f) (one (opens f) (window f))
      (λ i j in_i in_j.
      let split = in_cond (opens f) (window f ∷ []) j in_j in
      elim (in_cons_cases (window f) [] j split.1) [
        | inl here ↦ subst (HasOtherRank i) here (other_window f i in_i split.0)
        | inr none ↦ absurd (in_nil j none)
      ])

  -- ---- of a bus

  abbrev on_bus : ℕ → Function → List PlacingItem
  on_bus bus f = cond (are_siblings q.roots bus f.slot.bus) (items_of q s c keeps extent f) []

  if_differ : (b : Bool) (f : Function) → AllPairs HasOtherRank (cond b (items_of q s c keeps extent f) [])
  if_differ true f = items_of_differ f
  if_differ false f = pairs_nil HasOtherRank

  pub items_differ : IsSystem s → (bus : ℕ) → AllPairs HasOtherRank (bus_items q s c keeps extent bus)
  items_differ system bus =
      let all = flat_map (on_bus bus) s in
      pairs_moved HasOtherRank (λ i j differ same. differ (sym same)) all (in_turn all) (turn_same all)
      (pairs_flat_map (λ (f g : Function). slot_number f.slot < slot_number g.slot) HasOtherRank (on_bus bus) s (slots_rise s system)
      (λ f listed. if_differ (are_siblings q.roots bus f.slot.bus) f)
      (λ f g i j in_f in_g less at_i at_j same.
      let low = items_in_slot f i (in_cond (are_siblings q.roots bus f.slot.bus) (items_of q s c keeps extent f) i at_i).1 in
      let high = items_in_slot g j (in_cond (are_siblings q.roots bus g.slot.bus) (items_of q s c keeps extent g) j at_j).1 in
      let below = low.1 in
      let above = high.0 in
      let no : ⊥ = omega (arith, less, below, above, same) in
      no))
