-- Once settled, each bridge above what claims an address holds the address in its window of the class.
use Rattle.std.proofs.Common.{◌≡◌, ℕ, zero, suc, ◌<◌, inl, inr, true, arith, sym, ◌∙◌, ap, subst}
use Rattle.std.specs.List.{Contains}
use Rattle.std.proofs.lemmas.Bool.{and_parts, cases_eq}
use Rattle.pci_spec.specs.Window.{holds}
use Rattle.pci_spec.specs.Decoded.{InRange}
use Rattle.pci_spec.specs.System.{System, Function, Part, Window, is_space_on, space_of, window_space, window_claims}
use Rattle.pci_spec.specs.Bus.{secondary, is_behind}
use Rattle.pci_spec.proofs.BusRanges.{root_means}
use Rattle.pci_spec.proofs.WindowLaws.{held, window_holds_its_pages}
use Rattle.plan_spec.specs.Plan.{bridges_above}
use Rattle.plan_spec.specs.Planning.Layout.{range_of}
use Rattle.plan_spec.proofs.Planning.AboveBuses.{above_to, above_from, root_or_led}
use Rattle.plan_spec.proofs.Planning.Behind.{behind_range, bridge_between}
use Rattle.plan_spec.proofs.Planning.Safe.{order_of}
use Rattle.settle_spec.specs.Lists.{Request}
use Rattle.settle_spec.specs.Parts.{class_in}
use Rattle.settle_spec.specs.Keeping.Registers.{is_enabled_in, settled_function}
use Rattle.settle_spec.proofs.Nested.{at_secondary, is_no_root, one_bridge}
use Rattle.settle_laws.specs.Keeping.PlacesLaws.{CanSettle}
use Rattle.settle_laws.proofs.Keeping.Claimed.{HasEnd, window_end, passed_over}
use Rattle.settle_laws.proofs.Keeping.Held.{above_above}
use Rattle.settle_laws.proofs.PartClasses.{space_of_class}
use Rattle.settle_spec.specs.Kept.{Kept}

module _ (q : Request) (s : System) (k : Kept) (can : CanSettle q s k) where
  -- bridges that are enabled pass what ends behind them, from its own bus up
  pub passed_above : (n : ℕ) (f : Function) (p : Part) (a : ℕ) → f.slot.bus < n → Contains s f → (h : HasEnd q s k can f p) → InRange (range_of (settled_function q s k f) p) a
      → ((d : Function) → Contains (bridges_above s f.slot.bus) d → is_enabled_in q s k (space_of f p) d ≡ true)
      → (b : Function) → Contains (bridges_above s f.slot.bus) b → window_claims (settled_function q s k b) (class_in q s f p) a ≡ true
  passed_above zero f p a less listed h range on b above = absurd (let no : ⊥ = omega (arith, less) in no)
  passed_above (suc n) f p a less listed h range on b above = elim (root_or_led q.roots s can.system can.nested f listed) [
    | inl root ↦ (let is = above_to s f.slot.bus b above in absurd (is_no_root q.roots s can.system can.nested b f.slot.bus is.listed is.bridge is.behind ((root_means q.roots f.slot.bus).1 root)))
    | inr (d, leader) ↦
        let c = class_in q s f p in
        let is = above_to s f.slot.bus b above in
        let to = leader.leads in
        let up = order_of q.roots s can.nested d leader.listed leader.bridge in
        let in_d = above_from s f.slot.bus d record { listed = leader.listed; bridge = leader.bridge; behind = at_secondary q.roots s can.system can.nested d f.slot.bus leader.listed leader.bridge to } in
        let first = passed_over q s k can f d p a listed h range (leader.listed, leader.bridge, to) (on d in_d) in
        elim (cases_eq (secondary b) (secondary d)) [
          | inl same ↦ subst (λ x. window_claims (settled_function q s k x) c a ≡ true) (sym (one_bridge q.roots s can.system can.nested b d is.listed leader.listed is.bridge leader.bridge same)) first
          | inr differ ↦
              let behind = subst (λ bus. is_behind b bus ≡ true) (sym to) is.behind in
              let low = (behind_range b (secondary d) behind).0 in
              let between = bridge_between q.roots s can.system can.nested b d is.listed leader.listed is.bridge leader.bridge behind (omega (arith, low, differ)) in
              let g = settled_function q s k d in
              let inside = (and_parts (is_space_on g (window_space c)) (holds c g.image d.probe a) first).1 in
              let there = (held c g.image d.probe a inside).there in
              passed_above n d (Window c) a (omega (arith, less, to, up)) leader.listed (window_end q s k can d leader.listed c a leader.bridge inside) ((window_holds_its_pages c g.image d.probe a there).0 inside)
              (λ e in_e. ap (λ space. is_enabled_in q s k space e) (space_of_class q s f p) ∙ on e (above_above q s k can.system can.nested f d e in_d in_e))
              b (above_from s d.slot.bus b record { listed = is.listed; bridge = is.bridge; behind = between })
        ]
  ]
