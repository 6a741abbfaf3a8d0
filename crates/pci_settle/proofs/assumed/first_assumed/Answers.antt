use Rattle.std.proofs.Common.{◌≡◌, ◌∙◌, ap, sym}
use Rattle.std.specs.Option.{option_map}
use Rattle.pci_spec.specs.Mark.{all_named}
use Rattle.pci_spec.specs.System.{System}
use Rattle.settle_spec.specs.Assumed.{is_assumed_register, all_parts_of, assumed_region}
use Rattle.pci_function.specs.declared.record.Record.{Record}
use Rattle.pci_place.specs.Above.{system_in}
use Rattle.pci_place.proofs.Records.{FunctionAt, function_read}
use Rattle.pci_settle.specs.Fixed.{assumed_part, first}
use Rattle.pci_settle.specs.Assumed.{record_assumed}
use Rattle.pci_settle.proofs.AssumedParts.{none_named, record_is}
use Rattle.pci_settle.proofs.FixedFunctions.{found_here, found_later}
use Rattle.pci_settle.proofs.assumed.first_assumed.Goals as goal
use Rattle.pci_settle.proofs.assumed.first_assumed.Goals.{After-record_assumed-fault}
use Rattle.pci_settle.proofs.assumed.first_assumed.Given.{Over}

pub returns-then-not-names_any : goal.returns-then-not-names_any
returns-then-not-names_any g c =
    let s = system_in c.args.admitted.now in
    let none = sym (ap all_named (c.blocks-probe.ensures.value ∙ c.probe.ensures)) ∙ c.names_any.ensures c.if-not-names_any.true in
    sym (ap (λ named. option_map assumed_part (assumed_region named s)) none ∙ none_named s)

module _ (g : Over) (c : After-record_assumed-fault g) where
  abbrev s : System
  s = system_in c.args.admitted.now

  abbrev r : Record
  r = c.index-records-k.result

  here : FunctionAt s r c.loop-k.k
  here = function_read s c.records-records.result.now c.records-records.ensures.value c.outline-outline.ensures.records c.loop-k.k r c.loop-k-test.true c.index-records-k.is

  fault_is : c.record_assumed-fault.result ≡ first assumed_part (is_assumed_register (all_named c.args.admitted.now.probe)) (all_parts_of here.f)
  fault_is =
      c.record_assumed-fault.ensures ∙ ap (λ probe. record_assumed (all_named probe) r) (c.blocks-probe.ensures.value ∙ c.probe.ensures)
      ∙ record_is (all_named c.args.admitted.now.probe) s here.f r here.is

pub returns-then-is_some : goal.returns-then-is_some
returns-then-is_some g c =
    let first = (goal.at.returns-then-is_some g c).After-record_assumed-fault in
    sym (c.loop-k.invariant
    ∙ found_here assumed_part all_parts_of (is_assumed_register (all_named c.args.admitted.now.probe)) (s g first) c.loop-k.k (here g first).f (here g first).at c.record_assumed-fault.result (fault_is g first)
    (sym c.is_some.ensures ∙ c.if-is_some.true))

pub loop-k-preserved : goal.loop-k-preserved
loop-k-preserved g c =
    let first = (goal.at.loop-k-preserved g c).After-record_assumed-fault in
    c.loop-k.invariant
    ∙ found_later assumed_part all_parts_of (is_assumed_register (all_named c.args.admitted.now.probe)) (s g first) c.loop-k.k (here g first).f (here g first).at c.record_assumed-fault.result (fault_is g first)
    (sym c.is_some.ensures ∙ c.if-is_some.false)
