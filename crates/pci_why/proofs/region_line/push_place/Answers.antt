use Rattle.std.specs.String.{string_bytes}
use Rattle.std.proofs.lemmas.Result.{on_ok_weaker}
use Rattle.pci_spec.specs.Text.{slot_text, hex_byte}
use Rattle.pci_spec.specs.Why.{extent_words}
use Rattle.pci_base.specs.Ranges.{decoded_range_of}
use Rattle.pci_base.specs.Space.{space_of}
use Rattle.pci_why.specs.Lines.{ended}
use Rattle.pci_listing.proofs.Texts.{three_words}
use Rattle.pci_why.proofs.region_line.push_place.Goals as goal

pub returns : goal.returns
returns g c =
    on_ok_weaker c.push_extent.result
    (λ last. three_words (string_bytes c.args.text.now) _ _ _ _ _ _ (string_bytes c.push_extent.new.text) (slot_text c.args.place.slot) (hex_byte c.args.place.reg) c.args.part.now
    (ended (extent_words (space_of c.args.place.space) (decoded_range_of c.args.range)) c.args.end.now)
    c.in_ok-push_str.ensures.bytes c.in_ok-push_slot.ensures c.in_ok-push_str-2.ensures.bytes c.in_ok-push_byte.ensures c.in_ok-push_str-3.ensures.bytes c.in_ok-push_str-4.ensures.bytes last)
    c.push_extent.ensures
