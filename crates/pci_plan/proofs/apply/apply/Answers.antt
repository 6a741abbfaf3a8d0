use Rattle.std.proofs.Common.{inl, inr, ◌∙◌, ap, subst, map, get_or}
use Rattle.std.specs.List.{Contains}
use Rattle.std.specs.declared.result.Result.TheVariants.{Err}
use Rattle.std.proofs.lemmas.Result.{err_from_is_err_and}
use Rattle.std.proofs.lemmas.List.Elements.{Contains-get_or}
use Rattle.pci_spec.proofs.Members.{in_map_from}
use Rattle.pci_tree.specs.Admission.{Admission}
use Rattle.pci_plan.specs.Comparing.{StartsAs, IsStartFault, moment}
use Rattle.pci_plan.specs.Writes.{write_value}
use Rattle.pci_plan.specs.Making.{AreMadeBy}
use Rattle.pci_plan.proofs.Compares.{same_moment}
use Rattle.pci_plan.proofs.Applied.{writable}
use Rattle.pci_plan.proofs.Applies.{applied}
use Rattle.pci_plan.proofs.apply.apply.Goals as goal

pub make-requires : goal.make-requires
make-requires g c = λ k d less.
    let w = get_or c.writes.result.now k d in
    writable c.args.moving.now c.start.ensures.moves (write_value w)
    (subst (λ ws. Contains ws (write_value w)) c.writes.ensures.value (in_map_from write_value c.writes.result.now w (Contains-get_or c.writes.result.now k d less)))

pub returns-in_err-compare : goal.returns-in_err-compare
returns-in_err-compare g c =
    let before = moment (g.P.ConfigPort.targets c.args.port.now) (g.P.ConfigPort.failures c.args.port.now) in
    let after = moment (g.P.ConfigPort.targets c.compare.new.port) (g.P.ConfigPort.failures c.compare.new.port) in
    let blocks = c.blocks-2.ensures.value ∙ c.dump.ensures ∙ ap (λ (a : Admission). a.dump) c.start.ensures.value in
    let fault = c.in_err-compare.field-0.0 in
    let p = err_from_is_err_and c.from_residual.result c.from_residual.ensures.1 in
    rw (p.1, p.2)
    (applied c.args.moving.now c.start.ensures.moves before after (Err fault)
    (inl (c.in_err-compare.ensures.same, subst (λ bs. IsStartFault before bs after.failures fault) blocks c.in_err-compare.ensures.fault)))

pub returns : goal.returns
returns g c =
    let plan = c.args.moving.now in
    let before = moment (g.P.ConfigPort.targets c.args.port.now) (g.P.ConfigPort.failures c.args.port.now) in
    let now = moment (g.P.ConfigPort.targets c.compare.new.port) (g.P.ConfigPort.failures c.compare.new.port) in
    let after = moment (g.P.ConfigPort.targets c.make.new.port) (g.P.ConfigPort.failures c.make.new.port) in
    let blocks = c.blocks-2.ensures.value ∙ c.dump.ensures ∙ ap (λ (a : Admission). a.dump) c.start.ensures.value in
    applied plan c.start.ensures.moves before after c.make.result (inr (
      subst (StartsAs before.targets) blocks c.in_ok-compare.ensures.started,
      subst (λ m. AreMadeBy m plan.writes after c.make.result) (same_moment now before c.in_ok-compare.ensures.same c.in_ok-compare.ensures.counted)
          (subst (λ ws. AreMadeBy now ws after c.make.result) c.writes.ensures.value c.make.ensures),
    ))
