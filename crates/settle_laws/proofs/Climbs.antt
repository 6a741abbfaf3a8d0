-- What goes over from a part to the window of its class on the bridge over its bus goes up to all bridges above.
use Rattle.std.proofs.Common.{◌≡◌, ℕ, zero, suc, ◌<◌, inl, inr, true, arith, sym, subst}
use Rattle.std.specs.List.{Contains}
use Rattle.std.proofs.lemmas.Bool.{cases_eq}
use Rattle.pci_spec.specs.System.{System, Function, IsSystem}
use Rattle.pci_spec.specs.Bus.{secondary, is_behind, IsNested, LeadsTo}
use Rattle.pci_spec.proofs.BusRanges.{root_means}
use Rattle.plan_spec.specs.Plan.{bridges_above}
use Rattle.plan_spec.proofs.Planning.AboveBuses.{root_or_led, above_to, above_from}
use Rattle.plan_spec.proofs.Planning.Behind.{behind_range, bridge_between}
use Rattle.plan_spec.proofs.Planning.Safe.{order_of}
use Rattle.settle_spec.specs.Lists.{Request}
use Rattle.settle_spec.specs.Parts.{FunctionPart, class_in}
use Rattle.settle_spec.specs.Stands.{window_part}
use Rattle.settle_spec.proofs.Nested.{is_no_root, one_bridge}

module _ (q : Request) (s : System) (system : IsSystem s) (nested : IsNested q.roots s) (P : FunctionPart → Type 0)
    (step : (r : FunctionPart) (d : Function) → Contains s r.function → P r → LeadsTo s d r.function.slot.bus → P (window_part (class_in q s r.function r.part) d)) where
  climbs_to : (n : ℕ) (r : FunctionPart) → r.function.slot.bus < n → Contains s r.function → P r → (b : Function) → Contains (bridges_above s r.function.slot.bus) b → P (window_part (class_in q s r.function r.part) b)
  climbs_to zero r less listed is b above = absurd (let no : ⊥ = omega (arith, less) in no)
  climbs_to (suc n) r less listed is b above = elim (root_or_led q.roots s system nested r.function listed) [
    | inl root ↦ (let at = above_to s r.function.slot.bus b above in absurd (is_no_root q.roots s system nested b r.function.slot.bus at.listed at.bridge at.behind ((root_means q.roots r.function.slot.bus).1 root)))
    | inr (d, leader) ↦
        let at = above_to s r.function.slot.bus b above in
        let to = leader.leads in
        let up = order_of q.roots s nested d leader.listed leader.bridge in
        let c = class_in q s r.function r.part in
        let over = step r d listed is (leader.listed, leader.bridge, to) in
        elim (cases_eq (secondary b) (secondary d)) [
          | inl same ↦ subst (λ x. P (window_part c x)) (sym (one_bridge q.roots s system nested b d at.listed leader.listed at.bridge leader.bridge same)) over
          | inr differ ↦
              let behind = subst (λ bus. is_behind b bus ≡ true) (sym to) at.behind in
              let low = (behind_range b (secondary d) behind).0 in
              let between = bridge_between q.roots s system nested b d at.listed leader.listed at.bridge leader.bridge behind (omega (arith, low, differ)) in
              climbs_to n (window_part c d) (omega (arith, less, to, up)) leader.listed over b (above_from s d.slot.bus b record { listed = at.listed; bridge = at.bridge; behind = between })
        ]
  ]

  pub climbs : (r : FunctionPart) → Contains s r.function → P r → (b : Function) → Contains (bridges_above s r.function.slot.bus) b → P (window_part (class_in q s r.function r.part) b)
  climbs r listed is b above = climbs_to (suc r.function.slot.bus) r (omega arith) listed is b above
