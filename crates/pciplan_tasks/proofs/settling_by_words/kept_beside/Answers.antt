use Rattle.std.proofs.Common.{◌≡◌, ◌<◌, List, Err, length, map, sym, ◌∙◌, ap, subst}
use Rattle.pci_base.specs.declared.memory.Refused.TheVariants as refusals
use Rattle.judge_spec.specs.Told.{ToldRange}
use Rattle.pci_model_settle.specs.ClaimLines.{own_lines}
use Rattle.pci_model_settle.specs.LineValues.{line_value}
use Rattle.pciplan_tasks.specs.Also.{ranges_told}
use Rattle.pciplan_tasks.specs.WordsSettling.{claims_by}
use Rattle.pci_claims.specs.Values.{legacy_value}
use Rattle.pciplan_tasks.proofs.ByWords.{legacy_rise, palette_rise, too_many_already}
use Rattle.pciplan_tasks.proofs.settling_by_words.kept_beside.Goals as goal

pub lines_with_claims-requires-clause-legacy : goal.lines_with_claims-requires-clause-legacy
lines_with_claims-requires-clause-legacy g c =
    legacy_rise c.args.asked.now.words c.args.dump.now c.blocks-2.ensures.dump (map legacy_value c.deref-2.result.now) (ap (map legacy_value) c.deref-2.ensures.value ∙ c.in_ok-bridges.ensures.legacy)

pub lines_with_claims-requires-clause-palette : goal.lines_with_claims-requires-clause-palette
lines_with_claims-requires-clause-palette g c =
    palette_rise c.args.asked.now.words c.args.dump.now c.blocks-2.ensures.dump (map legacy_value c.deref-3.result.now) (ap (map legacy_value) c.deref-3.ensures.value ∙ c.in_ok-bridges.ensures.palette)

pub returns-in_err-lines-clause-many : goal.returns-in_err-lines-clause-many
returns-in_err-lines-clause-many g c e =
    let inner : c.in_err-lines.field-0.0 ≡ refusals.Fault record {} = sym (rw e at c.from_residual-in_err-lines.ensures.1) in
    too_many_already (own_lines (ranges_told c.args.asked.now.request.now.also) (map line_value c.args.devices.now)) (claims_by c.args.asked.now.words c.args.dump.now)
    (subst (λ (rs : List ToldRange). 4096 < length (own_lines rs (map line_value c.args.devices.now))) c.ranges-ranges.ensures.value (c.in_err-lines.ensures.fault.0 (ap Err inner)))
