-- 256 buses behind one another are all, so a new window is told by the items of the bus behind its bridge.
use Rattle.std.proofs.Common.{◌≡◌, ℕ, zero, suc, ◌+◌, ◌≤◌, inl, inr, List, [], ◌∷◌, ◌++◌, map, Bool, true, false, cond, ◌&&◌, not, arith, sym, ◌∙◌, ap, refl}
use Rattle.std.specs.List.{Contains, filter, flat_map}
use Rattle.std.proofs.lemmas.Bool.{and_left, cases_Bool, false_from_ne_true}
use Rattle.pci_spec.specs.Window.{WindowKind}
use Rattle.pci_spec.specs.System.{System, Function, IsSystem, is_bridge}
use Rattle.pci_spec.specs.Bus.{secondary, are_siblings, IsNested}
use Rattle.pci_spec.proofs.Members.{in_head, in_tail}
use Rattle.plan_spec.proofs.Planning.Safe.{slots_of, order_of}
use Rattle.settle_spec.specs.FirstPlace.{Extent}
use Rattle.settle_spec.specs.Lists.{Request}
use Rattle.settle_spec.specs.Parts.{function_parts}
use Rattle.settle_spec.specs.Stands.{window_part}
use Rattle.settle_spec.specs.Items.{PlacingItem, in_turn, own_item, is_own, has_of, items_of, bus_items, nothing, window_around, window_within, new_window}
use Rattle.settle_spec.proofs.Nested.{on_it}

window_step : (q : Request) (s : System) (c : WindowKind) (depth : ℕ) (b : Function)
    → window_within q s c (suc depth) b ≡ window_around q c b (bus_items q s c nothing (window_within q s c depth) (secondary b))
unfolding window_within
window_step q s c depth b = refl

window_none : (q : Request) (s : System) (c : WindowKind) (b : Function) → window_within q s c 0 b ≡ window_around q c b []
unfolding window_within
window_none q s c b = refl

flat_map_same : (f g : Function → List PlacingItem) (s : System) → ((x : Function) → Contains s x → f x ≡ g x) → flat_map f s ≡ flat_map g s
flat_map_same f g [] same = refl
flat_map_same f g (x ∷ s) same =
    ap (λ ys. ys ++ flat_map f s) (same x (in_head x s)) ∙ ap (λ ys. g x ++ ys) (flat_map_same f g s (λ y listed. same y (in_tail x s y listed)))

flat_map_none : (f : Function → List PlacingItem) (s : System) → ((x : Function) → Contains s x → f x ≡ []) → flat_map f s ≡ []
flat_map_none f [] none = refl
flat_map_none f (x ∷ s) none =
    ap (λ ys. ys ++ flat_map f s) (none x (in_head x s)) ∙ flat_map_none f s (λ y listed. none y (in_tail x s y listed))

module _ (q : Request) (s : System) (c : WindowKind) where
  abbrev own : Function → List PlacingItem
  own f = map (own_item c) (filter (λ r. is_own q s c r && not (nothing r)) (function_parts q s f))

  abbrev opens : Function → Bool
  opens f = is_bridge f && has_of q s c f && not (nothing (window_part c f))

  abbrev window : Function → Extent → PlacingItem
  window f e = record { region = window_part c f; class = c; extent = e }

  -- the extents of windows count for bridges alone
  same_items : (d e : Function → Extent) (f : Function) → (is_bridge f ≡ true → d f ≡ e f) → items_of q s c nothing d f ≡ items_of q s c nothing e f
  same_items d e f same = elim (cases_Bool (is_bridge f)) [
    | inl is ↦ ap (λ x. own f ++ cond (opens f) (window f x ∷ []) []) (same is)
    | inr other ↦
        let off : opens f ≡ false = and_left (is_bridge f && has_of q s c f) (not (nothing (window_part c f))) (and_left (is_bridge f) (has_of q s c f) other) in
        ap (λ b. own f ++ cond b (window f (d f) ∷ []) []) off ∙ sym (ap (λ b. own f ++ cond b (window f (e f) ∷ []) []) off)
  ]

  abbrev pub on_bus : (Function → Extent) → ℕ → Function → List PlacingItem
  on_bus e bus f = cond (are_siblings q.roots bus f.slot.bus) (items_of q s c nothing e f) []

  same_on : (d e : Function → Extent) (bus : ℕ) → ((f : Function) → Contains s f → are_siblings q.roots bus f.slot.bus ≡ true → is_bridge f ≡ true → d f ≡ e f)
      → bus_items q s c nothing d bus ≡ bus_items q s c nothing e bus
  same_on d e bus same =
      ap in_turn (flat_map_same (on_bus d bus) (on_bus e bus) s (λ f listed. elim (cases_Bool (are_siblings q.roots bus f.slot.bus)) [
        | inl is ↦ ap (λ b. cond b (items_of q s c nothing d f) []) is ∙ same_items d e f (same f listed is) ∙ sym (ap (λ b. cond b (items_of q s c nothing e f) []) is)
        | inr other ↦ ap (λ b. cond b (items_of q s c nothing d f) []) other ∙ sym (ap (λ b. cond b (items_of q s c nothing e f) []) other)
      ]))

  module _ (system : IsSystem s) (nested : IsNested q.roots s) where
    -- no function stands on a bus above 255
    none_on : (e : Function → Extent) (b : Function) → Contains s b → is_bridge b ≡ true → 256 ≤ secondary b → bus_items q s c nothing e (secondary b) ≡ []
    none_on e b listed bridge high =
        ap in_turn (flat_map_none (on_bus e (secondary b)) s (λ f in_f. ap (λ t. cond t (items_of q s c nothing e f) [])
        (false_from_ne_true (are_siblings q.roots (secondary b) f.slot.bus) (λ beside.
        let at = on_it q.roots s system nested b f.slot.bus listed bridge beside in
        let low = (slots_of s system f in_f).0 in
        let no : ⊥ = omega (arith, at, low, high) in no))))

    enough : (d e : ℕ) (b : Function) → Contains s b → is_bridge b ≡ true → 256 ≤ secondary b + d → 256 ≤ secondary b + e → window_within q s c d b ≡ window_within q s c e b
    enough zero zero b listed bridge hd he = refl
    enough zero (suc e) b listed bridge hd he =
        window_none q s c b ∙ sym (window_step q s c e b ∙ ap (window_around q c b) (none_on (window_within q s c e) b listed bridge (omega (arith, hd))))
    enough (suc d) zero b listed bridge hd he =
        window_step q s c d b ∙ ap (window_around q c b) (none_on (window_within q s c d) b listed bridge (omega (arith, he))) ∙ sym (window_none q s c b)
    enough (suc d) (suc e) b listed bridge hd he =
        window_step q s c d b
        ∙ ap (window_around q c b) (same_on (window_within q s c d) (window_within q s c e) (secondary b) (λ f in_f beside is_f.
        let at = on_it q.roots s system nested b f.slot.bus listed bridge beside in
        let up = order_of q.roots s nested f in_f is_f in
        enough d e f in_f is_f (omega (arith, hd, at, up)) (omega (arith, he, at, up))))
        ∙ sym (window_step q s c e b)

    pub window_is_around : (b : Function) → Contains s b → is_bridge b ≡ true → new_window q s c b ≡ window_around q c b (bus_items q s c nothing (new_window q s c) (secondary b))
    window_is_around b listed bridge =
        window_step q s c 255 b
        ∙ ap (window_around q c b) (same_on (window_within q s c 255) (window_within q s c 256) (secondary b) (λ f in_f beside is_f.
        let up = order_of q.roots s nested f in_f is_f in
        enough 255 256 f in_f is_f (omega (arith, up)) (omega arith)))
