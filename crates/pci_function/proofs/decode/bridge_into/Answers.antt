use Rattle.std.proofs.Common.{refl}
use Rattle.std.proofs.lemmas.Result.{err_from_is_err_and}
use Rattle.pci_image.proofs.WindowRules.{header_fault-no_window}
use Rattle.pci_function.proofs.Decodes.{bridge_is_at}
use Rattle.pci_function.proofs.decode.bridge_into.Goals as goal

pub returns-in_ok-windows-in-Type1-clause-bridge : goal.returns-in_ok-windows-in-Type1-clause-bridge
returns-in_ok-windows-in-Type1-clause-bridge c =
    bridge_is_at c.args.image.now.0 c.args.probe.now.0 _ (c.in_ok-windows-in-Type1.ensures.lawful.0 refl) c.u8.ensures c.u8-in-Type1.ensures c.u8-in-Type1-2.ensures
    c.in_ok-windows-in-Type1.ensures.decoded

pub returns-in_err-of-clause-lowest : goal.returns-in_err-of-clause-lowest
returns-in_err-of-clause-lowest c =
    let p = err_from_is_err_and c.from_residual.result c.from_residual.ensures.1 in
    rw (p.1, p.2) (header_fault-no_window c.args.image.now.0 c.args.probe.now.0 c.in_err-of.field-0.0 c.in_err-of.ensures.fault.1)
