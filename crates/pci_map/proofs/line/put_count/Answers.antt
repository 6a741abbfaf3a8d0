use Rattle.std.proofs.Common.{subst, IsAscii}
use Rattle.std.specs.Fmt.{decimal}
use Rattle.std.proofs.lemmas.Str.{IsAscii-append}
use Rattle.pci_listing.specs.Amounts.{unit_text}
use Rattle.pci_map.proofs.Asciis.{unit_ascii}
use Rattle.pci_map.proofs.line.put_count.Goals as goal

pub returns-clause-ascii : goal.returns-clause-ascii
returns-clause-ascii c =
    let amount = c.amount_of-amount.result in
    subst IsAscii c.amount_of-amount.ensures.text
    (IsAscii-append (decimal amount.number) (unit_text amount.unit) (subst IsAscii c.format.ensures.text c.format.ensures.ascii) (unit_ascii amount.unit))
