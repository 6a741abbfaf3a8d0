use Rattle.std.proofs.Common.{sym, ◌∙◌}
use Rattle.pci_spec.specs.System.{Function}
use Rattle.pci_model.specs.WordsValue.{words_value}
use Rattle.pci_model.proofs.ShownWindows.{counted}
use Rattle.pci_model.proofs.windows.windows_aside.Goals as goal

pub returns-then-is_bridge : goal.returns-then-is_bridge
returns-then-is_bridge c slot =
    let f : Function = record { slot = slot; image = c.args.image.now.0; probe = c.args.probe.now.0 } in
    let g : Function = record { slot = slot; image = c.windows_as_shown.new.image.0; probe = c.windows_as_shown.new.probe.0 } in
    counted (words_value c.args.words) f g c.if-words.true (sym c.is_bridge.ensures ∙ c.if-is_bridge.true) (c.windows_as_shown.ensures slot)
