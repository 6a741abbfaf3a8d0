use Rattle.std.proofs.Common.{rules}
use Rattle.std.proofs.lemmas.Fmt.{hex_byte}
use Rattle.std.proofs.lemmas.List.{append_assoc}
use Rattle.pci_faults.proofs.named.NameDisplay.fmt.Goals as goal

pub returns-then-register-lt256-clause-writes : goal.returns-then-register-lt256-clause-writes
returns-then-register-lt256-clause-writes g c = search (rules, hex_byte, append_assoc)
