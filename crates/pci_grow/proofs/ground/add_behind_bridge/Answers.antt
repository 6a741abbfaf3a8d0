use Rattle.std.proofs.Common.{sym, subst, ◌∙◌, ap, arith}
use Rattle.pci_first_fit.specs.Lines.{AreAdded}
use Rattle.pci_base.specs.WindowKinds.{kind_value}
use Rattle.pci_function.specs.declared.record.Record.{Record}
use Rattle.pci_place.specs.Items.{function_in}
use Rattle.pci_grow.specs.Grounds.{ground_value}
use Rattle.pci_grow.proofs.Behind.{has_record, has_bridge, secondary_is, subordinate_is, held_same, record_there}
use Rattle.pci_grow.proofs.ground.add_behind_bridge.Goals as goal

pub returns-then-function-ground-clause-added : goal.returns-then-function-ground-clause-added
returns-then-function-ground-clause-added g c = λ i held same window is.
    absurd (let less = has_record (ground_value c.args.ground.now) i held is window in let past = c.if-function-ground.true in let no : ⊥ = omega (arith, less, past, same) in no)

pub returns-in_default-clause-added : goal.returns-in_default-clause-added
returns-in_default-clause-added g c = λ i held same window is.
    absurd (has_bridge (ground_value c.args.ground.now) i held is window c.index-ground-function.result (record_there i c.args.function same c.args.ground.now.records.now c.index-ground-function.result c.index-ground-function.is) (ap (λ (y : Record). y.bridge) c.index-ground-function.is ∙ c.in_default.is))

pub returns-clause-added : goal.returns-clause-added
returns-clause-added g c = λ i held same window is.
    let x = c.index-ground-function.result in
    let x_is = record_there i c.args.function same c.args.ground.now.records.now x c.index-ground-function.is in
    let bridge = ap (λ (y : Record). y.bridge) c.index-ground-function.is ∙ c.in-Some.is in
    subst (AreAdded c.args.out.now.items c.add_lines_behind.new.out.items)
    (held_same (ground_value c.args.ground.now) i held is window x x_is)
    (c.in_ok-add_lines_behind.ensures.added is.q (function_in is.s i.function) (kind_value c.args.ground.now.class) is.rows
    (secondary_is (ground_value c.args.ground.now) i held is window x x_is c.in-Some.bridge bridge) (subordinate_is (ground_value c.args.ground.now) i held is window x x_is c.in-Some.bridge bridge) (sym c.of.ensures))
