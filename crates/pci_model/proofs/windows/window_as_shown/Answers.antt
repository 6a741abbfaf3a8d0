use Rattle.std.proofs.Common.{◌≡◌, true, Some, sym, ◌∙◌, ap}
use Rattle.pci_spec.specs.Window.{bounds_at, breaks_window_rule}
use Rattle.pci_spec.specs.System.{Function}
use Rattle.pci_base.specs.WindowKinds.{kind_value}
use Rattle.judge_spec.specs.Windows.{shown_nibble}
use Rattle.pci_model.proofs.ShownWindows.{one_shown}
use Rattle.pci_model.proofs.windows.window_as_shown.Goals as goal

pub returns-in-Some : goal.returns-in-Some
returns-in-Some c slot =
    let kind = kind_value c.args.kind in
    let f : Function = record { slot = slot; image = c.args.image.now.0; probe = c.args.probe.now.0 } in
    let breaks : breaks_window_rule kind f.image f.probe ≡ true = sym c.breaks_rule.ensures ∙ c.if-not-breaks_rule.false in
    let found : shown_nibble kind (bounds_at kind f.image) ≡ Some c.in-Some.nibble = sym (c.shown_nibble.ensures ∙ ap (shown_nibble kind) c.bounds.ensures) ∙ c.in-Some.is in
    one_shown kind f c.in-Some.nibble breaks found _ _ (c.make_window.ensures.image slot) c.make_window.ensures.probe
