use Rattle.std.proofs.Common.{List, ◌≤◌, ◌≡◌, ◌++◌, ◌&&◌, true, false, subst, sym, ap, ◌∙◌}
use Rattle.std.specs.List.{All}
use Rattle.std.specs.Option.{is_some}
use Rattle.std.proofs.lemmas.Result.{IfOk-weaker}
use Rattle.pci_spec.specs.System.{Space}
use Rattle.pci_base.specs.declared.range.Range.{Range}
use Rattle.pci_base.specs.Space.{space_of, is_on}
use Rattle.pci_base.specs.WindowKinds.{kind_value}
use Rattle.pci_claims.specs.Values.{code_given_value}
use Rattle.pci_claims.specs.Passed.{ArePassedElse, ArePassed}
use Rattle.pci_claims.proofs.Bridging.{lawful_both, passed_both, passed_windows}
use Rattle.pci_claims.proofs.Linking.{passed_by_bridge}
use Rattle.pci_claims.proofs.passed.passed_with.Goals as goal
use Rattle.pci_claims.proofs.passed.passed_with.Goals.{then-is_bridge_on+in_ok-more+in_ok-extend_from_slice, else-is_bridge_on}

pub returns-clause-record : goal.returns-clause-record
returns-clause-record g c = elim c.if-is_bridge_on.branch [
  | then-is_bridge_on+in_ok-more+in_ok-extend_from_slice w ↦
      IfOk-weaker c.gathered.result _ _
      (λ v is. passed_both (code_given_value c.args.given.now) (kind_value c.args.kind) c.args.function.now c.in_ok-ranges.ranges.items c.in_ok-ranges.ensures.canonical c.in_ok-ranges.ensures.exact
      w.in_ok-more.more.items c.if-is_bridge_on.ranges.items v.items
      (subst (λ (sp : Space). (is_some c.args.function.now.bridge && is_on c.args.function.now.command sp) ≡ true) c.of-space.ensures (sym c.is_bridge_on.ensures ∙ w.if-is_bridge_on.true))
      (subst (λ (sp : Space). ArePassedElse (code_given_value c.args.given.now) c.args.function.now.slot sp w.in_ok-more.more.items) c.of-space.ensures w.in_ok-more.ensures)
      (ap (λ v. v.items) w.ranges-is ∙ w.in_ok-extend_from_slice.ensures.items ∙ ap (λ xs. c.in_ok-ranges.ranges.items ++ xs) w.deref.ensures.value) is)
      c.gathered.ensures
  | else-is_bridge_on w ↦
      IfOk-weaker c.gathered.result _ _
      (λ v is. passed_windows (code_given_value c.args.given.now) (kind_value c.args.kind) c.args.function.now c.in_ok-ranges.ranges.items c.in_ok-ranges.ensures.canonical c.in_ok-ranges.ensures.exact
      c.if-is_bridge_on.ranges.items v.items
      (subst (λ (sp : Space). (is_some c.args.function.now.bridge && is_on c.args.function.now.command sp) ≡ false) c.of-space.ensures (sym c.is_bridge_on.ensures ∙ w.if-is_bridge_on.false))
      (ap (λ v. v.items) w.ranges-is) is)
      c.gathered.ensures
]

pub returns-clause-bridge : goal.returns-clause-bridge
returns-clause-bridge g c =
    IfOk-weaker c.gathered.result (λ v. ArePassed (code_given_value c.args.given.now) (kind_value c.args.kind) c.args.function.now v.items) _
    (λ v is. passed_by_bridge (code_given_value c.args.given.now) (kind_value c.args.kind) c.args.function.now v.items is) (returns-clause-record g c)

pub gathered-requires : goal.gathered-requires
gathered-requires g c = elim c.if-is_bridge_on.branch [
  | then-is_bridge_on+in_ok-more+in_ok-extend_from_slice w ↦
      lawful_both (code_given_value c.args.given.now) (kind_value c.args.kind) c.args.function.now c.in_ok-ranges.ranges.items c.in_ok-ranges.ensures.canonical c.in_ok-ranges.ensures.exact
      w.in_ok-more.more.items c.if-is_bridge_on.ranges.items (space_of c.of-space.result) w.in_ok-more.ensures
      (ap (λ v. v.items) w.ranges-is ∙ w.in_ok-extend_from_slice.ensures.items ∙ ap (λ xs. c.in_ok-ranges.ranges.items ++ xs) w.deref.ensures.value)
  | else-is_bridge_on w ↦ subst (λ (xs : List Range). All (λ r. r.first ≤ r.last) xs) (sym (ap (λ v. v.items) w.ranges-is)) c.in_ok-ranges.ensures.canonical.each
]
