-- 256 buses below one another are all: the items of a bus by those of the buses behind its bridges.
use Rattle.std.proofs.Common.{◌≡◌, ℕ, zero, suc, ◌+◌, ◌<◌, ◌≤◌, inl, inr, List, [], ◌∷◌, ◌++◌, refl, false, cond, ◌&&◌, arith, sym, ◌∙◌, ap}
use Rattle.std.specs.Bool.{IsTrue, nat_lt, ◌==◌}
use Rattle.std.specs.List.{Contains, flat_map, sum}
use Rattle.std.proofs.lemmas.Bool.{and_parts, and_left, and_right, eqb-true, ne_eqb, cases_Bool}
use Rattle.pci_spec.specs.Slot.{IsSlot}
use Rattle.pci_spec.specs.Window.{WindowKind}
use Rattle.pci_spec.specs.System.{System, Function, is_bridge}
use Rattle.pci_spec.specs.Bus.{secondary}
use Rattle.plan_spec.specs.Plan.{own_sizes, window_over, Pools, sizes_in, window_size, limited, items_within, items_on}

-- flat_maps of functions that agree on the list
pub flat_map_same : (f g : Function → List ℕ) (s : System) → ((x : Function) → Contains s x → f x ≡ g x) → flat_map f s ≡ flat_map g s
flat_map_same f g [] same = refl
flat_map_same f g (x ∷ s) same =
    ap (λ ys. ys ++ flat_map f s) (same x (0, omega arith, refl))
    ∙ ap (λ ys. g x ++ ys) (flat_map_same f g s (λ y in_y. same y (suc in_y.0, (let l = in_y.1 in omega (arith, l)), in_y.2)))

flat_map_none : (f : Function → List ℕ) (s : System) → ((x : Function) → Contains s x → f x ≡ []) → flat_map f s ≡ []
flat_map_none f [] none = refl
flat_map_none f (x ∷ s) none =
    ap (λ ys. ys ++ flat_map f s) (none x (0, omega arith, refl))
    ∙ flat_map_none f s (λ y in_y. none y (suc in_y.0, (let l = in_y.1 in omega (arith, l)), in_y.2))

pub items_step : (s : System) (pools : Pools) (c : WindowKind) (depth bus : ℕ)
    → items_within s pools c (suc depth) bus ≡ flat_map (own_sizes s pools c bus) s ++ flat_map (λ b. window_over c bus b (sum (items_within s pools c depth (secondary b)))) s
unfolding items_within
items_step s pools c depth bus = refl

pub items_none : (s : System) (pools : Pools) (c : WindowKind) (bus : ℕ) → items_within s pools c 0 bus ≡ []
unfolding items_within
items_none s pools c bus = refl

module _ (s : System) (pools : Pools) (c : WindowKind) (slots : (f : Function) → Contains s f → IsSlot f.slot)
    (order : (b : Function) → Contains s b → IsTrue (is_bridge b) → b.slot.bus < secondary b) where
  not_there : (bus : ℕ) → 256 ≤ bus → (f : Function) → Contains s f → (f.slot.bus == bus) ≡ false
  not_there bus high f listed = ne_eqb f.slot.bus bus (λ e. let is = slots f listed in let b = is.0 in let impossible : ⊥ = omega (arith, e, high, b) in impossible)

  no_window : (bus : ℕ) (b : Function) (need : ℕ) → (is_bridge b && b.slot.bus == bus) ≡ false → window_over c bus b need ≡ []
  no_window bus b need other = ap (λ t. cond t (window_size c (limited need) ∷ []) []) (and_left (is_bridge b && b.slot.bus == bus) (nat_lt 0 need) other)

  above_all : (depth bus : ℕ) → 256 ≤ bus → items_within s pools c depth bus ≡ []
  above_all zero bus high = items_none s pools c bus
  above_all (suc depth) bus high =
      items_step s pools c depth bus
      ∙ ap (λ xs. xs ++ flat_map (λ b. window_over c bus b (sum (items_within s pools c depth (secondary b)))) s)
      (flat_map_none (own_sizes s pools c bus) s (λ f listed. ap (λ t. cond t (sizes_in s pools c f) []) (not_there bus high f listed)))
      ∙ flat_map_none (λ b. window_over c bus b (sum (items_within s pools c depth (secondary b)))) s
      (λ b listed. no_window bus b (sum (items_within s pools c depth (secondary b))) (and_right (is_bridge b) (b.slot.bus == bus) (not_there bus high b listed)))

  pub depth_enough : (d e bus : ℕ) → 256 ≤ bus + d → 256 ≤ bus + e → items_within s pools c d bus ≡ items_within s pools c e bus
  depth_enough zero e bus hd he = above_all zero bus (omega (arith, hd)) ∙ sym (above_all e bus (omega (arith, hd)))
  depth_enough (suc d) zero bus hd he = above_all (suc d) bus (omega (arith, he)) ∙ sym (above_all zero bus (omega (arith, he)))
  depth_enough (suc d) (suc e) bus hd he =
      items_step s pools c d bus
      ∙ ap (λ xs. flat_map (own_sizes s pools c bus) s ++ xs)
      (flat_map_same (λ b. window_over c bus b (sum (items_within s pools c d (secondary b)))) (λ b. window_over c bus b (sum (items_within s pools c e (secondary b)))) s
      (λ b listed. elim (cases_Bool (is_bridge b && b.slot.bus == bus)) [
        | inl here ↦
            let is = and_parts (is_bridge b) (b.slot.bus == bus) here in
            let on = eqb-true b.slot.bus bus is.1 in
            let up = order b listed is.0 in
            ap (λ items. window_over c bus b (sum items)) (depth_enough d e (secondary b) (omega (arith, hd, on, up)) (omega (arith, he, on, up)))
        | inr other ↦ no_window bus b (sum (items_within s pools c d (secondary b))) other ∙ sym (no_window bus b (sum (items_within s pools c e (secondary b))) other)
      ]))
      ∙ sym (items_step s pools c e bus)

  -- the equation that a pass over the buses from the highest down computes by
  pub items_by_behind : (bus : ℕ) → items_on s pools c bus ≡ flat_map (own_sizes s pools c bus) s ++ flat_map (λ b. window_over c bus b (sum (items_on s pools c (secondary b)))) s
  items_by_behind bus =
      items_step s pools c 255 bus
      ∙ ap (λ xs. flat_map (own_sizes s pools c bus) s ++ xs)
      (flat_map_same (λ b. window_over c bus b (sum (items_within s pools c 255 (secondary b)))) (λ b. window_over c bus b (sum (items_within s pools c 256 (secondary b)))) s
      (λ b listed. elim (cases_Bool (is_bridge b && b.slot.bus == bus)) [
        | inl here ↦
            let is = and_parts (is_bridge b) (b.slot.bus == bus) here in
            let up = order b listed is.0 in
            ap (λ items. window_over c bus b (sum items)) (depth_enough 255 256 (secondary b) (omega (arith, up)) (omega arith))
        | inr other ↦ no_window bus b (sum (items_within s pools c 255 (secondary b))) other ∙ sym (no_window bus b (sum (items_within s pools c 256 (secondary b))) other)
      ]))
