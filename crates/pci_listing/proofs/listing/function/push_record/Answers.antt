use Rattle.std.proofs.Common.{◌++◌, map, sym, ◌∙◌, ap}
use Rattle.std.specs.Option.{option_map}
use Rattle.std.specs.List.{flat_map}
use Rattle.std.specs.String.{string_bytes}
use Rattle.std.proofs.lemmas.Result.{on_ok_weaker}
use Rattle.pci_spec.specs.Listing.{bar_line, rom_lines}
use Rattle.pci_image.specs.Bars.{decoded_bar_of}
use Rattle.pci_image.specs.Roms.{decoded_rom_of}
use Rattle.pci_function.specs.Values.{bridge_value}
use Rattle.pci_listing.specs.FunctionLines.{lines_of_bridge}
use Rattle.pci_listing.proofs.Functions.{three_more}
use Rattle.pci_listing.proofs.listing.function.push_record.Goals as goal

pub returns-in-Some : goal.returns-in-Some
returns-in-Some g c =
    let r = c.args.decoded.now in
    let start = string_bytes c.args.text.now in
    on_ok_weaker c.push_bridge.result
    (λ last. three_more start (flat_map bar_line (map decoded_bar_of r.bars.items)) (rom_lines (option_map decoded_rom_of r.rom)) (lines_of_bridge (option_map bridge_value r.bridge))
    (c.in_ok-push_bars.ensures ∙ ap (λ xs. start ++ flat_map bar_line (map decoded_bar_of xs)) c.as_slice.ensures.value)
    c.in_ok-push_rom.ensures
    (last ∙ ap (λ o. string_bytes c.push_rom.new.text ++ lines_of_bridge (option_map bridge_value o)) (sym c.in-Some.is)))
    c.push_bridge.ensures
