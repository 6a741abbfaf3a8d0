use Rattle.std.proofs.Common.{◌≡◌, List, [], Bool, subst, sym, ◌∙◌}
use Rattle.std.proofs.lemmas.Bool.{eqb-true}
use Rattle.std.proofs.lemmas.List.{nil_from_length}
use Rattle.pci_spec.specs.Slot.{Slot}
use Rattle.judge_spec.specs.Given.{TakingBridge}
use Rattle.judge_spec.specs.Unclaimed.{AreTaking}
use Rattle.pci_claims.specs.Values.{code_given_value, told_value}
use Rattle.pci_claims.specs.BusClaims.{AreBridgesOf}
use Rattle.pci_claims.specs.ToldOn.{AreOnIn}
use Rattle.pci_faults.proofs.taken.taken.Goals as goal

pub returns-then-is_empty : goal.returns-then-is_empty
returns-then-is_empty g c s tree =
    let none : c.args.said.now.taking.now ≡ [] = nil_from_length c.args.said.now.taking.now (eqb-true _ 0 (sym c.is_empty.ensures ∙ c.if-is_empty.true)) in
    subst (λ (slots : List Slot). AreTaking (told_value c.args.said.now.told) (code_given_value c.args.said.now.given) s slots c.new.result.items) (sym none)
    (subst (λ (bs : List TakingBridge). AreTaking (told_value c.args.said.now.told) (code_given_value c.args.said.now.given) s [] bs) (sym c.new.ensures.items) tt)

pub taking_bridges-requires : goal.taking_bridges-requires
taking_bridges-requires g c = record {
  lawful = c.requires;
  each_on = subst (λ (l : List Bool). AreOnIn (told_value c.args.said.now.told) c.args.outline.now l) (sym c.deref.ensures.value) c.in_ok-on.ensures;
  all_bridges = subst (λ (l : List Slot). AreBridgesOf c.args.outline.now l) (sym c.deref-2.ensures.value) c.in_ok-bridges.ensures;
}
