use Rattle.std.proofs.Common.{◌&&◌, not, sym, ◌∙◌, ap}
use Rattle.std.specs.List.{list_any}
use Rattle.pci_spec.specs.System.{Function}
use Rattle.pci_model.specs.Subtractive.{is_rival_block}
use Rattle.pci_model.proofs.Rivals.{alone_shown}
use Rattle.pci_model.proofs.subtractive.is_alone.Goals as goal

pub returns-then-is_subtractive_bridge : goal.returns-then-is_subtractive_bridge
returns-then-is_subtractive_bridge c read_backs probe same =
    let f : Function = record { slot = c.args.slot; image = c.args.image.now.0; probe = probe } in
    let some = list_any (is_rival_block c.args.slot) c.args.blocks.now in
    ap not c.has_rival.ensures ∙ sym (ap (λ x. x && not some) (sym c.is_subtractive_bridge.ensures ∙ c.if-is_subtractive_bridge.true)) ∙ sym (alone_shown c.args.blocks.now read_backs f same)

pub returns-else-is_subtractive_bridge : goal.returns-else-is_subtractive_bridge
returns-else-is_subtractive_bridge c read_backs probe same =
    let f : Function = record { slot = c.args.slot; image = c.args.image.now.0; probe = probe } in
    let some = list_any (is_rival_block c.args.slot) c.args.blocks.now in
    c.if-is_subtractive_bridge.false ∙ sym (ap (λ x. x && not some) (sym c.is_subtractive_bridge.ensures ∙ c.if-is_subtractive_bridge.false)) ∙ sym (alone_shown c.args.blocks.now read_backs f same)
