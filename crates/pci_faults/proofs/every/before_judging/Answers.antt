use Rattle.std.proofs.Common.{◌≡◌, true, List, map, subst, ap, [], rules}
use Rattle.std.proofs.lemmas.Bool.{both_ways}
use Rattle.std.proofs.lemmas.List.{nil_from_length}
use Rattle.pci_spec.specs.Text.{Block}
use Rattle.pci_tree.specs.Roots.{buses_of}
use Rattle.pci_function.specs.declared.fault.Fault.{Fault}
use Rattle.pci_function.specs.Fault as plain
use Rattle.judge_spec.specs.Given.{nothing_given}
use Rattle.pci_claims.specs.Values.{told_value}
use Rattle.pci_faults.specs.AllLines.{any_fault_value}
use Rattle.pci_faults.specs.Every.{AreEarlyWith}
use Rattle.pci_faults.proofs.EveryTold.{every_of_first, every_of_told, judgeable}
use Rattle.pci_faults.proofs.every.before_judging.Goals as goal

pub returns-then-not-is_empty : goal.returns-then-not-is_empty
returns-then-not-is_empty g c = λ given.
    let list = c.in_ok-early-in-Ok.early.items in
    let with : AreEarlyWith c.args.told.now.ranges.now (buses_of c.args.roots) c.args.dump.now [] (map any_fault_value list) =
    subst (λ (early : List Fault). AreEarlyWith c.args.told.now.ranges.now (buses_of c.args.roots) c.args.dump.now early (map any_fault_value list)) c.new-none.ensures.items
    (subst (λ (dump : List Block). AreEarlyWith c.args.told.now.ranges.now (buses_of c.args.roots) dump c.new-none.result.items (map any_fault_value list)) c.blocks-in-Ok.ensures.value c.in_ok-early-in-Ok.ensures) in
    every_of_told (told_value c.args.told.now) c.requires given (buses_of c.args.roots) c.args.dump.now c.args.probe.now c.blocks-in-Ok.ensures.dump c.in-Ok.outline c.in-Ok.ensures list with
    (λ none. both_ways c.is_empty.result c.if-not-is_empty.true (some_empty none))
  where
    some_empty : c.in_ok-early-in-Ok.early.items ≡ [] → c.is_empty.result ≡ true
    some_empty none = search (rules)

pub returns-else-not-is_empty : goal.returns-else-not-is_empty
returns-else-not-is_empty g c =
    let told_list = c.in_ok-early-in-Ok.early.items in
    let with : AreEarlyWith c.args.told.now.ranges.now (buses_of c.args.roots) c.args.dump.now [] (map any_fault_value told_list) =
    subst (λ (early : List Fault). AreEarlyWith c.args.told.now.ranges.now (buses_of c.args.roots) c.args.dump.now early (map any_fault_value told_list)) c.new-none.ensures.items
    (subst (λ (dump : List Block). AreEarlyWith c.args.told.now.ranges.now (buses_of c.args.roots) dump c.new-none.result.items (map any_fault_value told_list)) c.blocks-in-Ok.ensures.value c.in_ok-early-in-Ok.ensures) in (
      judgeable (told_value c.args.told.now) c.requires nothing_given (buses_of c.args.roots) c.args.dump.now c.args.probe.now c.blocks-in-Ok.ensures.dump c.in-Ok.outline c.in-Ok.ensures
          (map any_fault_value told_list) with (ap (map any_fault_value) none_told),
      c.in-Ok.ensures,
    )
  where
    none_told : c.in_ok-early-in-Ok.early.items ≡ []
    none_told = nil_from_length c.in_ok-early-in-Ok.early.items (search (rules))

pub returns-in_ok-faults-in-Err-Fault : goal.returns-in_ok-faults-in-Err-Fault
returns-in_ok-faults-in-Err-Fault g c = λ given.
    let refused = rw c.in-Err-Fault.field-0-is at c.in-Err-Fault.ensures in
    let found = c.in_ok-early-in-Err-Fault.ensures in
    let list = c.in_ok-faults-in-Err-Fault.faults.items in
    let early = c.in_ok-early-in-Err-Fault.early.items in
    every_of_first (told_value c.args.told.now) c.requires given (buses_of c.args.roots) c.args.dump.now c.args.probe.now c.blocks-in-Err-Fault.ensures.dump
    (plain.fault_of c.in-Err-Fault.first) early list refused.0 refused.1 found.all found.head
    (subst (λ (dump : List Block). AreEarlyWith c.args.told.now.ranges.now (buses_of c.args.roots) dump early (map any_fault_value list)) c.blocks-in-Err-Fault.ensures.value c.in_ok-faults-in-Err-Fault.ensures)
