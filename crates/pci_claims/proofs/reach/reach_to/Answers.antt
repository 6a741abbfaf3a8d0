use Rattle.std.proofs.Common.{ℕ, List, map, subst, sym}
use Rattle.std.specs.List.{Contains}
use Rattle.std.proofs.lemmas.Bool.{iff_false}
use Rattle.std.proofs.lemmas.List.Elements.{All-contains}
use Rattle.std.proofs.lemmas.Result.{IfOk-weaker}
use Rattle.pci_spec.specs.Decoded.{HasRecords}
use Rattle.pci_spec.specs.Decoded as decoded
use Rattle.pci_spec.proofs.Members.{in_map_from}
use Rattle.pci_base.specs.declared.range.Range.{Range}
use Rattle.pci_base.specs.Space.{space_of}
use Rattle.pci_function.specs.Values.{record_value}
use Rattle.pci_tree.specs.Reaches.{HasSpans}
use Rattle.pci_tree.proofs.Outlines.{have_spans}
use Rattle.pci_claims.specs.Values.{code_given_value}
use Rattle.pci_claims.specs.declared.passed.Through.TheVariants.{Accesses}
use Rattle.pci_claims.specs.Passed.{IsLetOn}
use Rattle.pci_claims.proofs.ToBus.{root_reach, unled_reach, behind_reach}
use Rattle.pci_claims.proofs.reach.reach_to.Goals as goal

pub returns-then-has-clause-exact : goal.returns-then-has-clause-exact
returns-then-has-clause-exact g c =
    IfOk-weaker c.sent_to.result _ _
    (λ v is s has. root_reach (code_given_value c.args.given.now) c.args.outline.now.roots s (c.records-records.ensures.nested s has) (space_of c.args.space) c.args.bus v.items
    (subst (λ (roots : List ℕ). Contains roots c.args.bus) c.roots.ensures (c.has.ensures.0 c.if-has.true)) is)
    c.sent_to.ensures

pub returns-in_default-clause-exact : goal.returns-in_default-clause-exact
returns-in_default-clause-exact g c s has =
    unled_reach (code_given_value c.args.given.now) c.args.outline.now.roots s c.records-records.result.now (subst (λ (rs : List decoded.Record). HasRecords s rs) (sym c.records-records.ensures.value) has)
    c.records-records.ensures.rising (c.records-records.ensures.nested s has) (space_of c.args.space) c.args.bus
    (λ root. iff_false c.has.ensures c.if-has.false (subst (λ (roots : List ℕ). Contains roots c.args.bus) (sym c.roots.ensures) root))
    c.new.result.items c.new.ensures.items c.in_default.ensures

pub returns-in_default-2-clause-exact : goal.returns-in_default-2-clause-exact
returns-in_default-2-clause-exact g c s has = absurd ((rw c.in_default-2.is at c.in_ok-above.ensures.exact)
    (subst (λ (rs : List decoded.Record). Contains (map (λ x. x.slot) rs) c.in-Some.bridge.now.slot) c.records-records.ensures.value
    (in_map_from (λ x. x.slot) (map record_value c.records-records.result.now) (record_value c.in-Some.bridge.now) (in_map_from record_value c.records-records.result.now c.in-Some.bridge.now c.in-Some.ensures.0.has))))

pub passed_on-requires-clause-spans : goal.passed_on-requires-clause-spans
passed_on-requires-clause-spans g c = All-contains HasSpans c.records-records.result.now c.in-Some.bridge.now (have_spans c.records-records.result.now c.records-records.ensures.lawful) c.in-Some.ensures.0.has

pub returns-clause-exact : goal.returns-clause-exact
returns-clause-exact g c =
    IfOk-weaker c.passed_on.result _ _
    (λ v is s has. behind_reach (code_given_value c.args.given.now) c.args.outline.now.roots s c.records-records.result.now (subst (λ (rs : List decoded.Record). HasRecords s rs) (sym c.records-records.ensures.value) has)
    c.records-records.ensures.rising (c.records-records.ensures.nested s has) (space_of c.args.space) c.args.bus
    (λ root. iff_false c.has.ensures c.if-has.false (subst (λ (roots : List ℕ). Contains roots c.args.bus) (sym c.roots.ensures) root))
    c.in-Some.bridge.now c.in-Some-2.above.items v.items c.in-Some.ensures.0 c.in-Some.ensures.1
    ((rw c.in-Some-2.is at c.in_ok-above.ensures.exact) s has) is.canonical
    (subst (λ (xs : List Range). IsLetOn (code_given_value c.args.given.now) (Accesses c.args.space) xs c.in-Some.bridge.now v.items) c.deref.ensures.value is).exact)
    c.passed_on.ensures
