use Rattle.pci_listing.proofs.Headers.{header_line_by_numbers}
use Rattle.pci_listing.proofs.listing.header.HeaderLine.of.Goals as goal

pub returns : goal.returns
returns c =
    header_line_by_numbers c.args.slot c.args.image.now.0 c.requires c.u16.ensures c.u16-2.ensures
    c.class_code.ensures c.u16-3.ensures c.u16-4.ensures
