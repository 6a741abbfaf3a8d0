use Rattle.std.proofs.Common.{◌≡◌, ◌+◌, ◌++◌, ◌∷◌, [], List, map, take, ◌∙◌, ap, sym, subst}
use Rattle.std.proofs.lemmas.List.{map-append, take_more}
use Rattle.std.specs.String.{string_bytes}
use Rattle.pci_spec.specs.Mark.{all_named}
use Rattle.judge_spec.specs.ToldFault as spec
use Rattle.pci_claims.specs.Values.{code_given_value, told_value}
use Rattle.pci_faults.specs.AllLines.{any_fault_value}
use Rattle.pci_why.specs.Lists.{AreReasonedTold}
use Rattle.pci_why.proofs.Reasoned.{none_reasoned, one_more_reasoned}
use Rattle.pci_why.proofs.list.push_reasoned.Goals as goal

pub loop-fault-init : goal.loop-fault-init
loop-fault-init g c =
    let told = told_value c.args.judged.now.told.now in
    let given = code_given_value c.args.judged.now.given.now in
    record {
      kept = c.no_rooms-rooms.ensures told given c.args.judged.now.outline.now c.requires.told c.requires.on;
      told = none_reasoned (all_named c.args.judged.now.probe.now) told given c.args.judged.now.outline.now (string_bytes c.args.text.now);
    }

pub loop-fault-preserved : goal.loop-fault-preserved
loop-fault-preserved g c =
    let told = told_value c.args.judged.now.told.now in
    let given = code_given_value c.args.judged.now.given.now in
    let i = c.loop-fault.fault-index in
    let all = c.args.faults.now in
    let fault = c.fault-item.result in
    let old = string_bytes c.args.text.now in
    let taken : map any_fault_value (take (i + 1) all) ≡ map any_fault_value (take i all) ++ any_fault_value fault ∷ [] =
    ap (map any_fault_value) (take_more all i fault c.loop-fault-test.true ∙ ap (λ f. take i all ++ f ∷ []) (sym c.fault-item.is)) ∙ map-append any_fault_value (take i all) (fault ∷ []) in
    record {
      kept = c.in_ok-push_why.ensures.kept;
      told = subst (λ (fs : List spec.Fault). AreReasonedTold (all_named c.args.judged.now.probe.now) told given c.args.judged.now.outline.now fs old (string_bytes c.push_why.new.text)) (sym taken)
          (one_more_reasoned (all_named c.args.judged.now.probe.now) told given c.args.judged.now.outline.now (map any_fault_value (take i all)) (any_fault_value fault) old (string_bytes c.loop-fault.text) (string_bytes c.push_fault.new.text)
          (string_bytes c.push_why.new.text) c.loop-fault.invariant.told c.in_ok-push_fault.ensures c.in_ok-push_why.ensures.told);
    }
