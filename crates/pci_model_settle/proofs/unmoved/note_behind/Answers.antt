use Rattle.std.specs.Prelude.{◌&&◌, ◌||◌}
use Rattle.std.proofs.Common.{◌+◌, false, get_or, leb, ◌∙◌, arith, ap}
use Rattle.std.specs.List.{slice_index}
use Rattle.pci_model_settle.proofs.Sleeping.{noted_none, noted_more, noted_all}
use Rattle.pci_model_settle.proofs.unmoved.note_behind.Goals as goal

pub loop-bus-init : goal.loop-bus-init
loop-bus-init c = noted_none c.args.table.now c.from-first.result (c.from-end.result + 1) c.told-table

pub loop-bus-preserved : goal.loop-bus-preserved
loop-bus-preserved c =
    noted_more c.args.table.now c.loop-bus.table c.from-first.result (c.from-end.result + 1) c.loop-bus.bus c.loop-bus-test.true
    (omega (arith, c.from-end.ensures, c.u8-2.type_inv)) c.loop-bus.invariant

pub returns-clause-behind : goal.returns-clause-behind
returns-clause-behind c slot probe bus small =
    noted_all c.args.table.now c.loop-bus.table c.from-first.result c.from-end.result c.loop-bus.bus c.loop-bus-test.false c.loop-bus.invariant bus small
    ∙ ap (λ n. get_or c.args.table.now bus false || (leb n bus && leb bus c.from-end.result)) (c.from-first.ensures ∙ c.u8.ensures)
    ∙ ap (λ n. get_or c.args.table.now bus false || (leb (slice_index c.args.bridge.now.0 25) bus && leb bus n)) (c.from-end.ensures ∙ c.u8-2.ensures)
