use Rattle.std.proofs.Common.{◌≡◌, length, sym, ◌∙◌, ap, subst}
use Rattle.std.specs.List.{All}
use Rattle.pci_spec.specs.Bus.{is_root}
use Rattle.pci_place.specs.Above.{system_in}
use Rattle.pci_first_fit.specs.Buses.{listing_value, AreOnBusTo, AreBelow}
use Rattle.pci_first_fit.specs.Turns.{HasExtent}
use Rattle.pci_first_fit.proofs.OnBus.{itself_beside, below_none, below_own, below_roots, below_bus, all_on_bus}
use Rattle.pci_first_fit.proofs.bus.items_on.Goals as goal
use Rattle.pci_first_fit.proofs.bus.items_on.Goals.{then-is_root+in_ok-add_roots, else-is_root+in_ok-add_bus}

pub returns-clause-items : goal.returns-clause-items
returns-clause-items g c =
    let roots = c.args.listing.now.classing.now.admitted.now.roots in
    let s = system_in c.args.listing.now.classing.now.admitted.now in
    let system = c.outline.ensures.admitted.system in
    let bus = c.args.bus in
    let l = listing_value c.args.listing.now bus in
    let is : c.is_root.result ≡ is_root roots bus = c.is_root.ensures ∙ ap (λ xs. is_root xs bus) (c.roots.ensures ∙ c.outline.ensures.roots) in
    all_on_bus l system _ (elim c.if-is_root.branch [
      | then-is_root+in_ok-add_roots w ↦
          subst (AreOnBusTo l (length s)) (sym (ap (λ v. v.items) w.items-is))
          (below_roots l system _ (w.in_ok-add_roots.ensures bus (sym is ∙ w.if-is_root.true)
          (subst (AreBelow l 0) (sym c.new-items.ensures.items) (below_none l system))))
      | else-is_root+in_ok-add_bus w ↦
          let other = sym is ∙ w.if-is_root.false in
          subst (AreOnBusTo l (length s)) (sym (ap (λ v. v.items) w.items-is))
          (below_bus l system _ other (w.in_ok-add_bus.ensures bus (itself_beside roots bus)
          (subst (AreBelow l bus) (sym c.new-items.ensures.items) (below_own l system other))))
    ])

pub returns-clause-lawful : goal.returns-clause-lawful
returns-clause-lawful g c windows_lawful =
    let roots = c.args.listing.now.classing.now.admitted.now.roots in
    let system = c.outline.ensures.admitted.system in
    let bus = c.args.bus in
    let l = listing_value c.args.listing.now bus in
    let is : c.is_root.result ≡ is_root roots bus = c.is_root.ensures ∙ ap (λ xs. is_root xs bus) (c.roots.ensures ∙ c.outline.ensures.roots) in
    elim c.if-is_root.branch [
      | then-is_root+in_ok-add_roots w ↦
          subst (All HasExtent) (sym (ap (λ v. v.items) w.items-is))
          ((below_roots l system _ (w.in_ok-add_roots.ensures bus (sym is ∙ w.if-is_root.true)
          (subst (AreBelow l 0) (sym c.new-items.ensures.items) (below_none l system)))).lawful windows_lawful)
      | else-is_root+in_ok-add_bus w ↦
          let other = sym is ∙ w.if-is_root.false in
          subst (All HasExtent) (sym (ap (λ v. v.items) w.items-is))
          ((below_bus l system _ other (w.in_ok-add_bus.ensures bus (itself_beside roots bus)
          (subst (AreBelow l bus) (sym c.new-items.ensures.items) (below_own l system other)))).lawful windows_lawful)
    ]
