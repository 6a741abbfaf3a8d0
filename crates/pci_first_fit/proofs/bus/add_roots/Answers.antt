use Rattle.std.proofs.Common.{◌≡◌, ◌+◌, sym, ◌∙◌, ap, subst}
use Rattle.pci_spec.specs.Bus.{is_root}
use Rattle.pci_first_fit.specs.Buses.{listing_value, AreBelow}
use Rattle.pci_first_fit.proofs.OnBus.{below_skip, roots_beside, roots_apart}
use Rattle.pci_first_fit.proofs.bus.add_roots.Goals as goal
use Rattle.pci_first_fit.proofs.bus.add_roots.Goals.{then-is_root+in_ok-add_bus, else-is_root}

pub loop-bus-preserved : goal.loop-bus-preserved
loop-bus-preserved g c = λ on root below.
    let roots = c.args.listing.now.classing.now.admitted.now.roots in
    let bus = c.loop-bus.bus in
    let before = c.loop-bus.invariant on root below in
    let is : c.is_root.result ≡ is_root roots bus = c.is_root.ensures ∙ ap (λ xs. is_root xs bus) (c.roots-roots.ensures ∙ c.outline.ensures.roots) in
    elim c.if-is_root.branch [
      | then-is_root+in_ok-add_bus w ↦
          subst (λ v. AreBelow (listing_value c.args.listing.now on) (bus + 1) v) (sym (ap (λ v. v.items) w.items-is))
          (w.in_ok-add_bus.ensures on (roots_beside roots on bus root (sym is ∙ w.if-is_root.true)) before)
      | else-is_root w ↦
          subst (λ v. AreBelow (listing_value c.args.listing.now on) (bus + 1) v) (sym (ap (λ v. v.items) w.items-is))
          (below_skip (listing_value c.args.listing.now on) c.outline.ensures.admitted.system bus _ (roots_apart roots on bus root (sym is ∙ w.if-is_root.false)) before)
    ]
