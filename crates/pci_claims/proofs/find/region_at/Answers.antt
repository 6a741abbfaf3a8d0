use Rattle.std.proofs.Common.{sym, subst, List}
use Rattle.std.proofs.lemmas.Result.{IfOk-weaker}
use Rattle.std.proofs.lemmas.List.Elements.{All-contains}
use Rattle.pci_spec.specs.Decoded.{HasRecords, Record}
use Rattle.pci_base.specs.Space.{space_of}
use Rattle.pci_tree.specs.Regions.{IsLawful}
use Rattle.pci_claims.proofs.Founds.{none_without_record, found_or_none}
use Rattle.pci_claims.proofs.find.region_at.Goals as goal

pub returns-in-None-clause-found : goal.returns-in-None-clause-found
returns-in-None-clause-found g c = λ s has.
    none_without_record s c.records.result.now c.args.slot c.args.reg (space_of c.args.space) (subst (λ (rs : List Record). HasRecords s rs) (sym c.records.ensures.value) has) c.in-None.ensures

pub returns-in-Some-clause-found : goal.returns-in-Some-clause-found
returns-in-Some-clause-found g c = IfOk-weaker c.region_of.result _ _
    (λ o is s has. found_or_none s c.records.result.now c.in-Some.function.now c.args.slot c.args.reg (space_of c.args.space) o
    (subst (λ (rs : List Record). HasRecords s rs) (sym c.records.ensures.value) has) c.records.ensures.rising c.in-Some.ensures.0 c.in-Some.ensures.1
    (All-contains IsLawful c.records.result.now c.in-Some.function.now c.records.ensures.lawful c.in-Some.ensures.0) is)
    c.region_of.ensures
