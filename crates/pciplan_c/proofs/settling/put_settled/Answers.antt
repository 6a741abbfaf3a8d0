use Rattle.std.proofs.Common.{map, ap, sym, subst, ◌∙◌}
use Rattle.std.proofs.lemmas.List.{length-map}
use Rattle.settle_spec.specs.Sparing.{without_slots}
use Rattle.pci_plan.specs.Writes.{write_value}
use Rattle.pci_settle.specs.Denied.{denied_value}
use Rattle.pci_settle.specs.Endings.{IsRefusal}
use Rattle.pciplan_c.proofs.PlanWrites.{write_of_c, writes_as_planned}
use Rattle.pciplan_c.specs.SettleAnswers.{asked_request, IsNotSettled}
use Rattle.pciplan_c.proofs.Settlings.{are_settled, denied_of_c, denied_as_settled, not_settled}
use Rattle.pciplan_c.proofs.settling.put_settled.Goals as goal

pub returns-in-Err-Fault-clause-why : goal.returns-in-Err-Fault-clause-why
returns-in-Err-Fault-clause-why g c = λ roots dump probe words texts by.
    let a = c.args.admitted.now in
    subst (λ fault. IsNotSettled roots dump probe words fault) (sym c.in-Err-Fault.fault-is)
    (not_settled roots dump probe words c.args.asked.now a texts c.outline-outline.ensures.admitted by c.in-Err-Fault.fault
    (subst (λ fault. IsRefusal a (without_slots (asked_request a c.args.asked.now)) fault) c.in-Err-Fault.field-0-is c.in-Err-Fault.ensures.refusal))

pub returns-then-denied-lacking-clause-why : goal.returns-then-denied-lacking-clause-why
returns-then-denied-lacking-clause-why g c = λ roots dump probe words texts by.
    let settled = c.in-Ok.settled in
    record {
      writes = map write_of_c settled.writes.all.items;
      safe_from = c.in-Ok-safe_from.safe_from;
      denied = map denied_of_c c.as_slice-lacking.result.now;
      so = are_settled roots dump probe words c.args.asked.now c.args.admitted.now texts c.outline-outline.ensures.admitted by settled c.in-Ok.ensures.settled
          (map denied_of_c c.as_slice-lacking.result.now) (map write_of_c settled.writes.all.items) c.in-Ok-safe_from.safe_from c.in-Ok-safe_from.ensures
          (denied_as_settled c.as_slice-lacking.result.now ∙ ap (λ denied. map denied_value denied) c.as_slice-lacking.ensures.value)
          (writes_as_planned settled.writes.all.items);
      number = sym (length-map c.as_slice-lacking.result.now denied_of_c);
      more = c.if-denied-lacking.true;
    }

pub returns-in-Ok-put_writes-clause-put : goal.returns-in-Ok-put_writes-clause-put
returns-in-Ok-put_writes-clause-put g c = λ roots dump probe words texts by.
    let settled = c.in-Ok.settled in
    let put = c.in-Ok-put_writes.ensures.put in
    let spares = c.put_denied-denied.ensures in
    record {
      denied = spares.items;
      put = spares.put;
      number = spares.number;
      writes = record {
        writes = put.items;
        so = are_settled roots dump probe words c.args.asked.now c.args.admitted.now texts c.outline-outline.ensures.admitted by settled c.in-Ok.ensures.settled
            spares.items put.items c.in-Ok-safe_from.safe_from c.in-Ok-safe_from.ensures
            (spares.are ∙ ap (λ denied. map denied_value denied) c.as_slice-lacking.ensures.value)
            (put.are ∙ ap (λ writes. map write_value writes) c.as_slice.ensures.value);
        put = put.put;
        number = put.number;
      };
    }

pub returns-clause-why : goal.returns-clause-why
returns-clause-why g c = λ roots dump probe words texts by.
    let settled = c.in-Ok.settled in
    record {
      writes = map write_of_c c.as_slice.result.now;
      safe_from = c.in-Ok-safe_from.safe_from;
      so = record {
        denied = map denied_of_c settled.denied.items;
        are = are_settled roots dump probe words c.args.asked.now c.args.admitted.now texts c.outline-outline.ensures.admitted by settled c.in-Ok.ensures.settled
            (map denied_of_c settled.denied.items) (map write_of_c c.as_slice.result.now) c.in-Ok-safe_from.safe_from c.in-Ok-safe_from.ensures
            (denied_as_settled settled.denied.items) (writes_as_planned c.as_slice.result.now ∙ ap (λ writes. map write_value writes) c.as_slice.ensures.value);
      };
      number = c.in-Err.ensures.needed.0 ∙ sym (length-map c.as_slice.result.now write_of_c);
      more = c.in-Err.ensures.needed.1;
    }
