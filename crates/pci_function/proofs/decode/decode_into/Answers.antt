use Rattle.std.proofs.Common.{◌≡◌, ◌≤◌, ℕ, List, lit≤, refl}
use Rattle.std.proofs.lemmas.Result.{err_from_is_err_and}
use Rattle.pci_spec.specs.System.{Function}
use Rattle.pci_spec.specs.Decoded.{IsDecodable, record_of}
use Rattle.pci_image.specs.declared.fault.ImageFault.{ImageFault}
use Rattle.pci_image.specs.declared.fault.ImageFault.TheVariants.{NoVendor, HeaderKind, WindowMask}
use Rattle.pci_image.specs.Faults.{image_fault_number}
use Rattle.pci_image.specs.Windows.{IsLowestWindowFault}
use Rattle.pci_image.specs.Bars.{HasLawfulBars}
use Rattle.pci_image.specs.Roms.{HasLawfulRom}
use Rattle.pci_function.specs.declared.record.Record.{Record}
use Rattle.pci_function.specs.Values.{record_value}
use Rattle.pci_function.proofs.Decodes.{record_is}
use Rattle.pci_function.proofs.FirstDecoded.{first_of_bars, first_of_rom, first_of_windows}
use Rattle.pci_function.proofs.decode.decode_into.Goals as goal

pub returns-clause-decoded : goal.returns-clause-decoded
returns-clause-decoded c =
    let f : Function = record { slot = c.args.slot; image = c.args.image.now.0; probe = c.args.probe.now.0 } in
    let r : Record = record { slot = c.args.slot; command = c.u16-decoded.result; bars = c.bars_into.new.found; rom = c.in_ok-decoded.field-0; bridge = c.bridge_into.new.bridge } in
    let bars : HasLawfulBars f.image f.probe = c.in_ok-bars_into.ensures.lawful.0 refl in
    let rom : HasLawfulRom f.image f.probe = c.in_ok-decoded.ensures.lawful.0 refl in
    let decodable : IsDecodable f = record { vendor = bars.vendor; header = bars.header; bars = bars.each; rom = rom.rom; windows = c.in_ok-bridge_into.ensures.bridge.windows } in
    let same : record_value r ≡ record_of f = record_is r f refl c.u16-decoded.ensures c.in_ok-bars_into.ensures.decoded c.in_ok-decoded.ensures.decoded c.in_ok-bridge_into.ensures.bridge.same in
    record { decodable = decodable; same = same }

pub returns-in_err-bars_into-clause-first : goal.returns-in_err-bars_into-clause-first
returns-in_err-bars_into-clause-first c =
    let f : Function = record { slot = c.args.slot; image = c.args.image.now.0; probe = c.args.probe.now.0 } in
    let p = err_from_is_err_and c.from_residual.result c.from_residual.ensures.1 in
    rw (p.1, p.2) (first_of_bars f c.in_err-bars_into.field-0.0 c.in_err-bars_into.ensures.lowest)

pub returns-in_err-decoded-clause-first : goal.returns-in_err-decoded-clause-first
returns-in_err-decoded-clause-first c =
    let f : Function = record { slot = c.args.slot; image = c.args.image.now.0; probe = c.args.probe.now.0 } in
    let bars : HasLawfulBars f.image f.probe = c.in_ok-bars_into.ensures.lawful.0 refl in
    let p = err_from_is_err_and c.from_residual-in_err-decoded.result c.from_residual-in_err-decoded.ensures.1 in
    rw (p.1, p.2) (first_of_rom f c.in_err-decoded.field-0.0 bars.each c.in_err-decoded.ensures.fault.1)

pub returns-in_err-bridge_into-clause-first : goal.returns-in_err-bridge_into-clause-first
returns-in_err-bridge_into-clause-first c =
    let f : Function = record { slot = c.args.slot; image = c.args.image.now.0; probe = c.args.probe.now.0 } in
    let bars : HasLawfulBars f.image f.probe = c.in_ok-bars_into.ensures.lawful.0 refl in
    let rom : HasLawfulRom f.image f.probe = c.in_ok-decoded.ensures.lawful.0 refl in
    let p = err_from_is_err_and c.from_residual-in_err-bridge_into.result c.from_residual-in_err-bridge_into.ensures.1 in
    rw (p.1, p.2) (first_of_windows f c.in_err-bridge_into.field-0.0 bars.each rom.rom c.in_err-bridge_into.ensures.lowest)

window_number : (image probe : List ℕ) (fault : ImageFault) → IsLowestWindowFault image probe fault → image_fault_number fault ≤ 26
window_number image probe NoVendor is = lit≤ tt
window_number image probe HeaderKind is = lit≤ tt
window_number image probe (WindowMask register) is = lit≤ tt
window_number image probe _ is = absurd is

pub returns-in_err-bridge_into-clause-number : goal.returns-in_err-bridge_into-clause-number
returns-in_err-bridge_into-clause-number c =
    let p = err_from_is_err_and c.from_residual-in_err-bridge_into.result c.from_residual-in_err-bridge_into.ensures.1 in
    rw (p.1, p.2) (window_number c.args.image.now.0 c.args.probe.now.0 c.in_err-bridge_into.field-0.0 c.in_err-bridge_into.ensures.lowest)
