use Rattle.std.proofs.Common.{refl}
use Rattle.std.proofs.lemmas.Bool.{eq-eqb}
use Rattle.std.proofs.lemmas.Result.{err_from_is_err_and}
use Rattle.pci_spec.specs.Window.{IoWindow, MemoryWindow, PrefetchWindow}
use Rattle.pci_image.proofs.WindowRules.{in_window-holds, in_optional-holds, has_memory_window, io_window-lowest, memory_window-lowest, prefetch_window-lowest, header_fault-no_window}
use Rattle.pci_image.proofs.window.Windows.of.Goals as goal

pub returns-clause-compared : goal.returns-clause-compared
returns-clause-compared c = record {
  io = in_optional-holds IoWindow c.args.image.now.0 c.args.probe.now.0 c.in_ok-optional.field-0 c.in_ok-optional.ensures.1;
  memory =
      rw c.in_ok-implemented.ensures.1 (in_window-holds MemoryWindow c.args.image.now.0 c.args.probe.now.0 (has_memory_window c.args.image.now.0 c.args.probe.now.0 c.in_ok-implemented.ensures.0));
  prefetch = in_optional-holds PrefetchWindow c.args.image.now.0 c.args.probe.now.0 c.in_ok-optional-2.field-0 c.in_ok-optional-2.ensures.1;
}

pub returns-in_err-optional-2-clause-fault : goal.returns-in_err-optional-2-clause-fault
returns-in_err-optional-2-clause-fault c =
    let p = err_from_is_err_and c.from_residual-in_err-optional-2.result c.from_residual-in_err-optional-2.ensures.1 in
    let h = c.in_err-optional-2.ensures in
    let header = rw c.in-Type1.is at c.in_ok-of.ensures.header in
    rw (p.1, p.2, h.1) (PrefetchWindow, eq-eqb _ 1 header.0, refl, h.0)

pub returns-in_err-of-clause-lowest : goal.returns-in_err-of-clause-lowest
returns-in_err-of-clause-lowest c =
    let p = err_from_is_err_and c.from_residual.result c.from_residual.ensures.1 in
    rw (p.1, p.2) (header_fault-no_window c.args.image.now.0 c.args.probe.now.0 c.in_err-of.field-0.0 c.in_err-of.ensures.fault.1)

pub returns-in_err-optional-clause-lowest : goal.returns-in_err-optional-clause-lowest
returns-in_err-optional-clause-lowest c =
    let p = err_from_is_err_and c.from_residual-in_err-optional.result c.from_residual-in_err-optional.ensures.1 in
    let h = c.in_err-optional.ensures in
    rw (p.1, p.2, h.1) (io_window-lowest c.args.image.now.0 c.args.probe.now.0)

pub returns-in_err-implemented-clause-lowest : goal.returns-in_err-implemented-clause-lowest
returns-in_err-implemented-clause-lowest c =
    let p = err_from_is_err_and c.from_residual-in_err-implemented.result c.from_residual-in_err-implemented.ensures.1 in
    let h = c.in_err-implemented.ensures in
    rw (p.1, p.2, h.1) (memory_window-lowest c.args.image.now.0 c.args.probe.now.0 c.in_ok-optional.ensures.0)

pub returns-in_err-optional-2-clause-lowest : goal.returns-in_err-optional-2-clause-lowest
returns-in_err-optional-2-clause-lowest c =
    let p = err_from_is_err_and c.from_residual-in_err-optional-2.result c.from_residual-in_err-optional-2.ensures.1 in
    let h = c.in_err-optional-2.ensures in
    rw (p.1, p.2, h.1) (prefetch_window-lowest c.args.image.now.0 c.args.probe.now.0 c.in_ok-optional.ensures.0 c.in_ok-implemented.ensures.0)
