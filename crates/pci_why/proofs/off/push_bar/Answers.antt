use Rattle.std.specs.String.{string_bytes}
use Rattle.std.proofs.lemmas.Result.{on_ok_weaker}
use Rattle.pci_spec.specs.Listing.{kind_space}
use Rattle.pci_image.specs.Bars.{decoded_kind_of}
use Rattle.pci_base.specs.Space.{space_of}
use Rattle.pci_why.proofs.OffLines.{off_pushed}
use Rattle.pci_why.proofs.off.push_bar.Goals as goal

pub returns : goal.returns
returns g c =
    on_ok_weaker c.push_place.result
    (λ last. off_pushed (string_bytes c.args.text.now) _ (string_bytes c.push_place.new.text) c.args.slot c.args.bar.reg c.bar_name.result.now (space_of c.space-space.result)
    (kind_space (decoded_kind_of c.args.bar.kind)) c.args.bar.prefetch (record { first = c.args.bar.first; last = c.args.bar.last })
    c.in_ok-push_str.ensures.bytes last c.bar_name.ensures c.space-space.ensures)
    c.push_place.ensures
