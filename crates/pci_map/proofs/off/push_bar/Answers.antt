use Rattle.std.proofs.Common.{◌-◌, ◌/◌}
use Rattle.std.proofs.lemmas.Result.{on_ok_weaker}
use Rattle.std.specs.String.{string_bytes}
use Rattle.pci_spec.specs.Listing.{kind_space}
use Rattle.pci_image.specs.Bars.{decoded_bar_of}
use Rattle.pci_map.proofs.Offs.{off_pushed}
use Rattle.pci_map.proofs.off.push_bar.Goals as goal

pub returns : goal.returns
returns g c =
    let b = decoded_bar_of c.args.bar in
    on_ok_weaker c.push_region_line.result
    (λ pushed. off_pushed (string_bytes c.args.text.now) (string_bytes c.push_region_line.new.text) c.args.slot b.register ((b.register - 16) / 4) _ (kind_space b.kind) b.prefetchable b.range
    pushed c.space.ensures)
    c.push_region_line.ensures
