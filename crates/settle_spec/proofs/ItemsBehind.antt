-- A BAR or ROM of a class is behind a bridge exactly where the bus behind it has an item.
use Rattle.std.proofs.Common.{◌≡◌, ℕ, zero, suc, ◌<◌, inl, inr, List, [], ◌∷◌, map, length, Bool, true, false, cond, ◌&&◌, not, arith, sym, ◌∙◌, subst, refl}
use Rattle.std.specs.Bool.{nat_lt, ◌==◌}
use Rattle.std.specs.List.{Contains, list_any, filter, flat_map}
use Rattle.std.proofs.lemmas.Bool.{and_parts, and_from, or_left, eq-eqb, cases_Bool, cases_lt, cases_eq, both_ways, lt-ltb, le-ltb, false_from_ne_true}
use Rattle.std.proofs.lemmas.List.Elements.{Contains-append_cases, Contains-append_left, Contains-append_right}
use Rattle.std.proofs.lemmas.List.Sorted.{IsPermutation-sym, Contains-permutation}
use Rattle.pci_spec.specs.Window.{WindowKind}
use Rattle.pci_spec.specs.System.{System, Function, IsSystem, is_bridge}
use Rattle.pci_spec.specs.Bus.{secondary, is_behind, is_root, are_siblings, IsNested}
use Rattle.pci_spec.proofs.Members.{in_head, in_flat_map_to, in_flat_map_from, IsInPiece, in_map_to, in_map_from, IsMade, in_filter_to, in_filter_from}
use Rattle.plan_spec.proofs.Planning.Behind.{any_gives, any_from, behind_range, bridge_between}
use Rattle.plan_spec.proofs.Planning.OwnItems.{in_cond}
use Rattle.plan_spec.proofs.Planning.Safe.{order_of}
use Rattle.settle_spec.specs.FirstPlace.{Extent}
use Rattle.settle_spec.specs.Lists.{Request}
use Rattle.settle_spec.specs.Parts.{FunctionPart, function_parts}
use Rattle.settle_spec.specs.Stands.{window_part}
use Rattle.settle_spec.specs.Items.{PlacingItem, in_turn, own_item, is_own, has_of, items_of, bus_items, nothing}
use Rattle.settle_spec.proofs.InTurn.{turn_same}
use Rattle.settle_spec.proofs.Nested.{at_secondary, behind_outer, is_no_root, on_it}
use Rattle.settle_spec.proofs.NewWindows.{on_bus}

some_long : (xs : List PlacingItem) (i : PlacingItem) → Contains xs i → 0 < length xs
some_long xs i (k, less, at) = omega (arith, less)

long_some : (xs : List PlacingItem) → 0 < length xs → (i : PlacingItem) × Contains xs i
long_some [] some = absurd (let no : ⊥ = omega (arith, some) in no)
long_some (i ∷ xs) some = (i, in_head i xs)

module _ (q : Request) (s : System) (c : WindowKind) (e : Function → Extent) where
  abbrev has_own : Function → Bool
  has_own f = list_any (is_own q s c) (function_parts q s f)

  abbrev moves : FunctionPart → Bool
  moves r = is_own q s c r && not (nothing r)

  abbrev own : Function → List PlacingItem
  own f = map (own_item c) (filter moves (function_parts q s f))

  abbrev opens : Function → Bool
  opens f = is_bridge f && has_of q s c f && not (nothing (window_part c f))

  abbrev window : Function → PlacingItem
  window f = record { region = window_part c f; class = c; extent = e f }

  has_by : (b f : Function) → Contains s f → is_behind b f.slot.bus ≡ true → has_own f ≡ true → has_of q s c b ≡ true
  has_by b f listed behind has =
      any_from (λ g. is_behind b g.slot.bus && has_own g) s f listed (and_from (is_behind b f.slot.bus) (has_own f) behind has)

  -- an item of a function is one of its bus
  put : (f : Function) (i : PlacingItem) → Contains s f → Contains (items_of q s c nothing e f) i → Contains (bus_items q s c nothing e f.slot.bus) i
  put f i listed item =
      let all = flat_map (on_bus q s c e f.slot.bus) s in
      let beside : are_siblings q.roots f.slot.bus f.slot.bus ≡ true = or_left (f.slot.bus == f.slot.bus) (is_root q.roots f.slot.bus && is_root q.roots f.slot.bus) (eq-eqb f.slot.bus f.slot.bus refl) in
      Contains-permutation all (in_turn all) i (turn_same all)
      (in_flat_map_from (on_bus q s c e f.slot.bus) s f i listed (subst (λ b. Contains (cond b (items_of q s c nothing e f) []) i) (sym beside) item))

  own_in : (f : Function) → has_own f ≡ true → (i : PlacingItem) × Contains (items_of q s c nothing e f) i
  own_in f has =
      let found = any_gives (is_own q s c) (function_parts q s f) has in (
        own_item c found.x,
        Contains-append_left (own f) (cond (opens f) (window f ∷ []) []) (own_item c found.x)
            (in_map_from (own_item c) (filter moves (function_parts q s f)) found.x
            (in_filter_from moves (function_parts q s f) found.x found.listed (and_from (is_own q s c found.x) true found.is refl))),
      )

  window_in : (f : Function) → is_bridge f ≡ true → has_of q s c f ≡ true → Contains (items_of q s c nothing e f) (window f)
  window_in f bridge has =
      let open_now : opens f ≡ true = and_from (is_bridge f && has_of q s c f) true (and_from (is_bridge f) (has_of q s c f) bridge has) refl in
      Contains-append_right (own f) (cond (opens f) (window f ∷ []) []) (window f) (subst (λ b. Contains (cond b (window f ∷ []) []) (window f)) (sym open_now) (in_head (window f) []))

  module _ (system : IsSystem s) (nested : IsNested q.roots s) where
    -- what is behind a bridge is behind each bridge that it is behind
    has_up : (b outer : Function) → Contains s b → Contains s outer → is_bridge b ≡ true → is_bridge outer ≡ true → is_behind outer b.slot.bus ≡ true → has_of q s c b ≡ true → has_of q s c outer ≡ true
    has_up b outer in_b in_outer bridge_b bridge_outer is has =
        let found = any_gives (λ g. is_behind b g.slot.bus && has_own g) s has in
        let parts = and_parts (is_behind b found.x.slot.bus) (has_own found.x) found.is in
        has_by outer found.x found.listed (behind_outer q.roots s system nested b outer found.x.slot.bus in_b in_outer bridge_b bridge_outer is parts.0) parts.1

    -- ---- an item comes of something behind

    of_item : (b f : Function) (i : PlacingItem) → Contains s b → Contains s f → is_bridge b ≡ true → secondary b ≡ f.slot.bus → Contains (items_of q s c nothing e f) i → has_of q s c b ≡ true
    of_item b f i in_b in_f bridge at item =
        let behind = at_secondary q.roots s system nested b f.slot.bus in_b bridge at in
        elim (Contains-append_cases (own f) (cond (opens f) (window f ∷ []) []) i item) [
          | inl here ↦
              let made : IsMade (own_item c) (filter moves (function_parts q s f)) i = in_map_to (own_item c) (filter moves (function_parts q s f)) i here in
              let kept = in_filter_to moves (function_parts q s f) made.from made.has in
              has_by b f in_f behind (any_from (is_own q s c) (function_parts q s f) made.from kept.0 (and_parts (is_own q s c made.from) (not (nothing made.from)) kept.1).0)
          | inr later ↦
              let is = (in_cond (opens f) (window f ∷ []) i later).0 in
              let parts = and_parts (is_bridge f) (has_of q s c f) (and_parts (is_bridge f && has_of q s c f) (not (nothing (window_part c f))) is).0 in
              has_up f b in_f in_b parts.0 bridge behind parts.1
        ]

    of_bus : (b : Function) (i : PlacingItem) → Contains s b → is_bridge b ≡ true → Contains (bus_items q s c nothing e (secondary b)) i → has_of q s c b ≡ true
    of_bus b i in_b bridge listed =
        let all = flat_map (on_bus q s c e (secondary b)) s in
        let piece : IsInPiece (on_bus q s c e (secondary b)) s i =
        in_flat_map_to (on_bus q s c e (secondary b)) s i (Contains-permutation (in_turn all) all i (IsPermutation-sym all (in_turn all) (turn_same all)) listed) in
        let f = piece.of in
        let split = in_cond (are_siblings q.roots (secondary b) f.slot.bus) (items_of q s c nothing e f) i piece.piece in
        of_item b f i in_b piece.has bridge (on_it q.roots s system nested b f.slot.bus in_b bridge split.0) split.1

    -- ---- something behind makes an item

    -- an item on a bus behind a bridge makes one on the bus right behind it
    item_up : (n : ℕ) (b f : Function) (i : PlacingItem) → f.slot.bus < n → Contains s b → Contains s f → is_bridge b ≡ true → is_behind b f.slot.bus ≡ true → Contains (items_of q s c nothing e f) i
        → (j : PlacingItem) × Contains (bus_items q s c nothing e (secondary b)) j
    item_up zero b f i less in_b in_f bridge behind item = absurd (let no : ⊥ = omega (arith, less) in no)
    item_up (suc n) b f i less in_b in_f bridge behind item =
        let low = (behind_range b f.slot.bus behind).0 in
        elim (cases_eq f.slot.bus (secondary b)) [
          | inl at ↦ (i, subst (λ bus. Contains (bus_items q s c nothing e bus) i) at (put f i in_f item))
          | inr above ↦
              let off : is_root q.roots f.slot.bus ≡ false = false_from_ne_true (is_root q.roots f.slot.bus) (is_no_root q.roots s system nested b f.slot.bus in_b bridge behind) in
              let one = nested.one f in_f off in
              let d = one.0 in
              let leads = one.1 in
              let to = leads.2 in
              let up = order_of q.roots s nested d leads.0 leads.1 in
              let behind_d : is_behind b (secondary d) ≡ true = subst (λ bus. is_behind b bus ≡ true) (sym to) behind in
              let between = bridge_between q.roots s system nested b d in_b leads.0 bridge leads.1 behind_d (omega (arith, low, above, to)) in
              item_up n b d (window d) (omega (arith, less, up, to)) in_b leads.0 bridge between
              (window_in d leads.1 (of_item d f i leads.0 in_f leads.1 to item))
        ]

    of_behind : (b : Function) → Contains s b → is_bridge b ≡ true → has_of q s c b ≡ true → (j : PlacingItem) × Contains (bus_items q s c nothing e (secondary b)) j
    of_behind b listed bridge has =
        let found = any_gives (λ g. is_behind b g.slot.bus && has_own g) s has in
        let f = found.x in
        let parts = and_parts (is_behind b f.slot.bus) (has_own f) found.is in
        let item = own_in f parts.1 in
        item_up (suc f.slot.bus) b f item.0 (omega arith) listed found.listed bridge parts.0 item.1

    pub items_are_behind : (b : Function) → Contains s b → is_bridge b ≡ true → has_of q s c b ≡ nat_lt 0 (length (bus_items q s c nothing e (secondary b)))
    items_are_behind b listed bridge =
        let items = bus_items q s c nothing e (secondary b) in
        elim (cases_Bool (has_of q s c b)) [
          | inl has ↦ let one = of_behind b listed bridge has in has ∙ sym (lt-ltb 0 (length items) (some_long items one.0 one.1))
          | inr none ↦ elim (cases_lt 0 (length items)) [
            | inl some ↦ let one = long_some items some in absurd (both_ways (has_of q s c b) none (of_bus b one.0 listed bridge one.1))
            | inr empty ↦ none ∙ sym (le-ltb 0 (length items) empty)
          ]
        ]
