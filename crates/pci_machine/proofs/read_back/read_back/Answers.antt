use Rattle.std.proofs.Common.{◌∙◌}
use Rattle.std.proofs.lemmas.Bool.{and_parts}
use Rattle.std.proofs.lemmas.Result.{err_from_is_err_and}
use Rattle.pci_spec.specs.Port.{is_access, fits}
use Rattle.pci_machine.proofs.Sizing.{left-same, left-written, written_from, restored}
use Rattle.pci_machine.proofs.read_back.read_back.Goals as goal

pub returns-in_err-value-clause-left : goal.returns-in_err-value-clause-left
returns-in_err-value-clause-left g c =
    rw (err_from_is_err_and c.from_residual.result c.from_residual.ensures.1).1 (left-same (g.P.ConfigPort.targets c.args.port.now) (g.P.ConfigPort.targets c.read_at.new.port) c.args.slot c.args.off c.args.width c.requires.lawful c.requires.there
    c.in_err-value.ensures.same)

pub returns-in_err-write_at-clause-left : goal.returns-in_err-write_at-clause-left
returns-in_err-write_at-clause-left g c =
    rw (err_from_is_err_and c.from_residual-in_err-write_at.result c.from_residual-in_err-write_at.ensures.1).1 (left-same (g.P.ConfigPort.targets c.args.port.now) (g.P.ConfigPort.targets c.write_at.new.port) c.args.slot c.args.off c.args.width c.requires.lawful c.requires.there
    (c.in_err-write_at.ensures.kept ∙ c.in_ok-value.ensures.same))

pub returns-in_err-found-clause-left : goal.returns-in_err-found-clause-left
returns-in_err-found-clause-left g c =
    let before = g.P.ConfigPort.targets c.args.port.now in
    let changed = g.P.ConfigPort.targets c.write_at.new.port in
    rw (err_from_is_err_and c.from_residual-in_err-found.result c.from_residual-in_err-found.ensures.1).1 (left-written before (g.P.ConfigPort.targets c.read_at-2.new.port) c.args.slot c.args.off c.args.width c.args.ones c.requires.lawful c.requires.there
    (c.in_err-found.ensures.same
    ∙ written_from before (g.P.ConfigPort.targets c.read_at.new.port) changed c.args.slot c.args.off c.args.width c.args.ones c.in_ok-value.ensures.same c.in_ok-write_at.ensures.written))

pub returns-clause-kept : goal.returns-clause-kept
returns-clause-kept g c =
    let before = g.P.ConfigPort.targets c.args.port.now in
    let changed = g.P.ConfigPort.targets c.write_at.new.port in
    let read = g.P.ConfigPort.targets c.read_at-2.new.port in
    let access = (and_parts (is_access c.args.off c.args.width) (fits c.args.width c.args.ones) c.requires.access).0 in
    restored before read (g.P.ConfigPort.targets c.write_at-2.new.port) c.args.slot c.args.off c.args.width c.args.ones c.in_ok-value.value c.requires.lawful c.requires.there access c.requires.plain
    (c.in_ok-found.ensures.same
    ∙ written_from before (g.P.ConfigPort.targets c.read_at.new.port) changed c.args.slot c.args.off c.args.width c.args.ones c.in_ok-value.ensures.same c.in_ok-write_at.ensures.written)
    c.in_ok-value.ensures.value c.in_ok-write_at-2.ensures.written

pub returns-in_err-write_at-2-clause-left : goal.returns-in_err-write_at-2-clause-left
returns-in_err-write_at-2-clause-left g c =
    let before = g.P.ConfigPort.targets c.args.port.now in
    let changed = g.P.ConfigPort.targets c.write_at.new.port in
    rw (err_from_is_err_and c.from_residual-in_err-write_at-2.result c.from_residual-in_err-write_at-2.ensures.1).1 (left-written before (g.P.ConfigPort.targets c.write_at-2.new.port) c.args.slot c.args.off c.args.width c.args.ones c.requires.lawful c.requires.there
    (c.in_err-write_at-2.ensures.kept ∙ c.in_ok-found.ensures.same
    ∙ written_from before (g.P.ConfigPort.targets c.read_at.new.port) changed c.args.slot c.args.off c.args.width c.args.ones c.in_ok-value.ensures.same c.in_ok-write_at.ensures.written))
