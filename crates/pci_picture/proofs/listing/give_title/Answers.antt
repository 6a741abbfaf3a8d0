use Rattle.std.proofs.Common.{false, get_or, ltb, refl, rules, sym, true, arith, ap, ◌∙◌}
use Rattle.std.specs.List.Sorted.{IsPartitionPoint}
use Rattle.std.proofs.lemmas.List.{get_or_default, take_rest}
use Rattle.std.proofs.lemmas.List.Sorted.{IsPartitionPoint-from_clause, IsPartitionedBy-ltb}
use Rattle.pci_picture.proofs.Named.{is_titled, numbers_rise, title_given, title_missed}
use Rattle.pci_picture.specs.Named.{function_titled}
use Rattle.pci_picture.specs.Roots.{listed_function}
use Rattle.pci_picture.specs.declared.function.Function.{Function}
use Rattle.pci_picture.proofs.listing.give_title.Goals as goal
use Rattle.pci_picture.proofs.listing.give_title.Goals.{else-index-functions-via-then-index-functions+else-functions-index, else-index-functions-via-else-index-functions}

pub returns-then-functions-index : goal.returns-then-functions-index
returns-then-functions-index c =
    let functions = c.args.functions.now in
    let index = c.partition_point-index.result in
    let old : Function = get_or functions index c.index-functions-index-then-functions-index.result in
    title_given functions _ _ c.args.line.now index c.in-Some.number c.index-functions-index-then-functions-index.result refl
    (is_titled c.args.line.now (omega (arith, c.if-line-lt9.false)) c.if-line-ne32.false (sym c.in-Some.ensures.some)) c.in-Some.ensures.value (omega arith)
    (IsPartitionPoint-from_clause (λ x. ltb x.number c.in-Some.number) functions index c.partition_point-index.ensures.partitioned
    (IsPartitionedBy-ltb (λ x. x.number) functions c.in-Some.number (numbers_rise functions c.requires)) (λ a r f q. search rules))
    (ap (λ f. f.number) (get_or_default functions index c.index-functions-index-then-functions-index.result c.index-functions-index.result c.if-index-functions.true)
    ∙ c.if-functions-index.true) (ap (function_titled (listed_function old)) (take_rest c.args.line.now 8))

pub returns-else-index-functions : goal.returns-else-index-functions
returns-else-index-functions c =
    let functions = c.args.functions.now in
    let index = c.partition_point-index.result in
    title_missed functions c.args.line.now index c.in-Some.number
    (is_titled c.args.line.now (omega (arith, c.if-line-lt9.false)) c.if-line-ne32.false (sym c.in-Some.ensures.some)) c.in-Some.ensures.value
    (IsPartitionPoint-from_clause (λ x. ltb x.number c.in-Some.number) functions index c.partition_point-index.ensures.partitioned
    (IsPartitionedBy-ltb (λ x. x.number) functions c.in-Some.number (numbers_rise functions c.requires)) (λ a r f q. search rules))
    (numbers_rise functions c.requires)
    (λ d inside same. elim c.else-index-functions.branch [
      | else-index-functions-via-then-index-functions+else-functions-index w ↦
          w.if-functions-index.false (ap (λ f. f.number) (get_or_default functions index w.index-functions-index.result d inside) ∙ same)
      | else-index-functions-via-else-index-functions w ↦ absurd (omega (arith, inside, w.if-index-functions.false))
    ])
