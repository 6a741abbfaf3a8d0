use Rattle.std.proofs.Common.{take, map, string_bytes}
use Rattle.pci_here.specs.Places.{AreDomainsIn}
use Rattle.pci_here.proofs.domain.domains_in.Given as goal

abbrev pub invariant-loop-name : goal.invariant-loop-name
invariant-loop-name l = AreDomainsIn (map string_bytes (take l.name-index l.names)) l.domains.items
