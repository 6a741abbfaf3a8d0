use Rattle.std.proofs.Common.{◌≡◌, true, false, ltb, rules}
use Rattle.std.specs.List.Sorted.{IsPartitionPoint}
use Rattle.std.proofs.lemmas.List.Sorted.{IsPartitionPoint-from_clause, IsPartitionedBy-ltb}
use Rattle.pci_picture.specs.declared.function.Function.{Function}
use Rattle.pci_picture.proofs.Found.{is_found, none_found, other_found}
use Rattle.pci_picture.proofs.board.find.Goals as goal
use Rattle.pci_picture.proofs.board.find.Goals.{in_default-via-in-Some+else-function-number, in_default-via-in_default}

pub returns-in-Some-clause-at : goal.returns-in-Some-clause-at
returns-in-Some-clause-at c = λ rises.
    let functions = c.args.functions.now in
    let slot = c.args.number in
    let index = c.partition_point-index.result in
    is_found functions slot index c.in-Some.function.now rises
    (IsPartitionPoint-from_clause (λ (function : Function). ltb function.number slot) functions index c.partition_point-index.ensures.partitioned
    (IsPartitionedBy-ltb (λ (function : Function). function.number) functions slot rises) (λ a r f q. search rules))
    (c.in-Some.ensures.lookup.0) (c.in-Some.ensures.lookup.1) c.if-function-number.true

pub returns-in_default-clause-at : goal.returns-in_default-clause-at
returns-in_default-clause-at c = λ rises.
    let functions = c.args.functions.now in
    let slot = c.args.number in
    let index = c.partition_point-index.result in
    let point : IsPartitionPoint (λ (function : Function). ltb function.number slot ≡ true) (λ (function : Function). ltb function.number slot ≡ false) functions index =
    IsPartitionPoint-from_clause (λ (function : Function). ltb function.number slot) functions index c.partition_point-index.ensures.partitioned
    (IsPartitionedBy-ltb (λ (function : Function). function.number) functions slot rises) (λ a r f q. search rules) in
    elim c.in_default.branch [
      | in_default-via-in-Some+else-function-number w ↦
          other_found functions slot index w.in-Some.function.now rises point (w.in-Some.ensures.lookup.0) (w.in-Some.ensures.lookup.1) w.if-function-number.false
      | in_default-via-in_default w ↦ none_found functions slot index rises point (w.in_default.ensures.lookup.0)
    ]
