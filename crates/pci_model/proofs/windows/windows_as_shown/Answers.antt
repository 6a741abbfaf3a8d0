use Rattle.pci_spec.specs.System.{Function}
use Rattle.pci_model.proofs.ShownWindows.{three_shown}
use Rattle.pci_model.proofs.windows.windows_as_shown.Goals as goal

pub returns : goal.returns
returns c slot =
    let f : Function = record { slot = slot; image = c.args.image.now.0; probe = c.args.probe.now.0 } in
    let io : Function = record { slot = slot; image = c.window_as_shown.new.image.0; probe = c.window_as_shown.new.probe.0 } in
    let memory : Function = record { slot = slot; image = c.window_as_shown-2.new.image.0; probe = c.window_as_shown-2.new.probe.0 } in
    let prefetch : Function = record { slot = slot; image = c.window_as_shown-3.new.image.0; probe = c.window_as_shown-3.new.probe.0 } in
    three_shown f io memory prefetch (c.window_as_shown.ensures slot) (c.window_as_shown-2.ensures slot) (c.window_as_shown-3.ensures slot)
