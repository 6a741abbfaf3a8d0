-- Where every part stands, each bus has no item to place, and everything stays.
use Rattle.std.proofs.Common.{◌≡◌, ◌&&◌, ℕ, zero, suc, ◌<◌, inl, inr, List, [], ◌∷◌, Bool, true, false, arith, refl, sym, ◌∙◌, ap, subst}
use Rattle.std.specs.List.{Contains}
use Rattle.std.proofs.lemmas.Bool.{and_from, both_ways, cases_eq}
use Rattle.pci_spec.specs.Window.{WindowKind}
use Rattle.pci_spec.specs.System.{System, Function, IsSystem, Part, Bar, Rom, Window, is_bridge}
use Rattle.pci_spec.specs.Bus.{secondary, is_behind, IsNested}
use Rattle.pci_spec.proofs.BusRanges.{root_means}
use Rattle.pci_spec.proofs.Members.{in_head}
use Rattle.plan_spec.specs.Plan.{bridges_above}
use Rattle.plan_spec.proofs.Planning.AboveBuses.{above_to, above_from, root_or_led}
use Rattle.plan_spec.proofs.Planning.Behind.{behind_range, bridge_between}
use Rattle.plan_spec.proofs.Planning.Safe.{order_of}
use Rattle.settle_spec.specs.Lines.{taken_for}
use Rattle.settle_spec.specs.Lists.{Request}
use Rattle.settle_spec.specs.Parts.{FunctionPart, system_parts, addresses, class_in}
use Rattle.settle_spec.specs.Stands.{window_part, stands}
use Rattle.settle_spec.specs.Items.{PlacingItem, place_each, place_in, are_placed, taken_on, bus_items, has_of, has_room, has_room_behind, stays, new_window}
use Rattle.settle_spec.proofs.Nested.{is_no_root, one_bridge}
use Rattle.settle_laws.specs.Holding.{TellsRoom}
use Rattle.settle_laws.proofs.Holding.{holds_alone, stays_on_root, stays_by_bus}
use Rattle.settle_laws.proofs.Standing.{part_of}
use Rattle.settle_laws.proofs.HeaderParts.{header_of}
use Rattle.settle_laws.proofs.ItemForms.{IsItemOf, IsPlaceable, IsOwnPart, IsNewWindow, items_are, item_moves}
use Rattle.settle_laws.proofs.Kept.{in_regions, window_listed, within_over}
use Rattle.settle_laws.proofs.PartPlaces.{IsBehindOf, behind_of}

none_in : (xs : List PlacingItem) → ((i : PlacingItem) → Contains xs i → ⊥) → xs ≡ []
none_in [] none = refl
none_in (i ∷ xs) none = absurd (none i (in_head i xs))

module _ (q : Request) (s : System) (system : IsSystem s) (nested : IsNested q.roots s) (all : (r : FunctionPart) → Contains (system_parts q s) r → stands q s r ≡ true) where
  -- ---- windows above

  -- the windows above a part stand
  over_stands : (n : ℕ) (r : FunctionPart) (b : Function) → r.function.slot.bus < n → Contains (system_parts q s) r → Contains (bridges_above s r.function.slot.bus) b
      → stands q s (window_part (class_in q s r.function r.part) b) ≡ true
  over_stands zero r b less listed above = absurd (let no : ⊥ = omega (arith, less) in no)
  over_stands (suc n) r b less listed above =
      let f = r.function in
      let in_f = (part_of q s r listed).listed in
      let c = class_in q s f r.part in
      let is = above_to s f.slot.bus b above in
      elim (root_or_led q.roots s system nested f in_f) [
        | inl root ↦ absurd (is_no_root q.roots s system nested b f.slot.bus is.listed is.bridge is.behind ((root_means q.roots f.slot.bus).1 root))
        | inr (d, leader) ↦
            let to = leader.leads in
            let up = order_of q.roots s nested d leader.listed leader.bridge in
            let stands_d = (within_over q s system nested d leader.listed leader.bridge r listed to (all r listed)).1 in
            elim (cases_eq (secondary b) (secondary d)) [
              | inl same ↦ subst (λ x. stands q s (window_part c x) ≡ true) (sym (one_bridge q.roots s system nested b d is.listed leader.listed is.bridge leader.bridge same)) stands_d
              | inr differ ↦
                  let behind = subst (λ bus. is_behind b bus ≡ true) (sym to) is.behind in
                  let low = (behind_range b (secondary d) behind).0 in
                  let between = bridge_between q.roots s system nested b d is.listed leader.listed is.bridge leader.bridge behind (omega (arith, low, differ)) in
                  over_stands n (window_part c d) b (omega (arith, less, to, up)) (window_listed q s system nested d leader.listed leader.bridge c stands_d)
                  (above_from s d.slot.bus b record { listed = is.listed; bridge = is.bridge; behind = between })
            ]
      ]

  -- so does the window of a bridge with a BAR or ROM of its class behind it
  window_stands : (c : WindowKind) (b : Function) → Contains s b → is_bridge b ≡ true → has_of q s c b ≡ true → stands q s (window_part c b) ≡ true
  window_stands c b listed bridge has =
      let is : IsBehindOf q s c b = behind_of q s c b listed bridge has in
      ap (λ k. stands q s (window_part k b)) (sym is.class)
      ∙ over_stands (suc is.f.slot.bus) record { function = is.f; part = is.p } b (omega arith) (in_regions q s is.f is.p is.listed is.there is.part) is.above

  -- ---- nothing is to be placed

  pub no_items : (keeps : FunctionPart → Bool) → ((r : FunctionPart) → Contains (system_parts q s) r → keeps r ≡ true) → (c : WindowKind) (bus : ℕ) → bus_items q s c keeps (new_window q s c) bus ≡ []
  no_items keeps each c bus = none_in (bus_items q s c keeps (new_window q s c) bus) (λ i has.
      let is = items_are q s (new_window q s) c keeps bus i has in
      let moves = ap (λ (j : PlacingItem). keeps j.region) is.is ∙ item_moves q s (new_window q s) c keeps bus i has in
      both_ways (keeps record { function = is.f; part = is.p }) moves (each record { function = is.f; part = is.p } (looked_at c bus i is is.can)))
    where
      looked_at : (c : WindowKind) (bus : ℕ) (i : PlacingItem) (is : IsItemOf q s (new_window q s) c bus i) → IsPlaceable q s c is.f is.p → Contains (system_parts q s) record { function = is.f; part = is.p }
      looked_at c bus i is (IsOwnPart plain part) = in_regions q s is.f is.p is.listed (header_of is.f is.p is.there) part
      looked_at c bus i is (IsNewWindow window bridge has) =
          subst (λ o. Contains (system_parts q s) record { function = is.f; part = o }) (sym window)
          (window_listed q s system nested is.f is.listed bridge c (window_stands c is.f is.listed bridge has))

  -- ---- so everything stays

  has_its_room : (f : Function) (p : Part) → has_room q s (stands q s) f p ≡ true
  has_its_room f (Bar n) = refl
  has_its_room f Rom = refl
  has_its_room f (Window c) =
      ap (λ items. are_placed (place_each (λ i taken. place_in (addresses (window_part c f)) i (taken_for q i.region taken)) (taken_on q s c (stands q s) (secondary f)) items)) (no_items (stands q s) all c (secondary f))

  holding : TellsRoom q s (stands q s)
  holding r listed = sym (ap (λ b. stands q s r && b) (has_its_room r.function r.part) ∙ and_true (stands q s r))
    where
      and_true : (b : Bool) → (b && true) ≡ b
      and_true true = refl
      and_true false = refl

  pub all_hold : (r : FunctionPart) → Contains (system_parts q s) r → has_room_behind q s r ≡ true
  all_hold r listed = sym (holds_alone q s system nested (stands q s) holding r (part_of q s r listed).listed) ∙ all r listed

  stays_within : (n : ℕ) (r : FunctionPart) → r.function.slot.bus < n → Contains (system_parts q s) r → stays q s r ≡ true
  stays_within zero r less listed = absurd (let no : ⊥ = omega (arith, less) in no)
  stays_within (suc n) r less listed =
      let f = r.function in
      let c = class_in q s f r.part in
      elim (root_or_led q.roots s system nested f (part_of q s r listed).listed) [
        | inl root ↦ stays_on_root q s system nested r ((root_means q.roots f.slot.bus).1 root) ∙ all_hold r listed
        | inr (b, leader) ↦
            let to = leader.leads in
            let up = order_of q.roots s nested b leader.listed leader.bridge in
            let over = window_listed q s system nested b leader.listed leader.bridge c (within_over q s system nested b leader.listed leader.bridge r listed to (all r listed)).1 in
            stays_by_bus q s system nested r b (leader.listed, leader.bridge, to)
            ∙ and_from (has_room_behind q s r) (stays q s (window_part c b)) (all_hold r listed) (stays_within n (window_part c b) (omega (arith, less, to, up)) over)
      ]

  pub all_stay : (r : FunctionPart) → Contains (system_parts q s) r → stays q s r ≡ true
  all_stay r listed = stays_within (suc r.function.slot.bus) r (omega arith) listed
