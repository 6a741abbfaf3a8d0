use Rattle.std.proofs.Common.{rules}
use Rattle.std.proofs.lemmas.Fmt.{hex_byte}
use Rattle.std.proofs.lemmas.List.{append_assoc}
use Rattle.pci_function.proofs.fault.FaultDisplay.fmt.Goals as goal

pub returns-in-BarType-clause-writes : goal.returns-in-BarType-clause-writes
returns-in-BarType-clause-writes g c = search (rules, hex_byte)

pub returns-in-BarMask-clause-writes : goal.returns-in-BarMask-clause-writes
returns-in-BarMask-clause-writes g c = search (rules, hex_byte)

pub returns-in-BarPair-clause-writes : goal.returns-in-BarPair-clause-writes
returns-in-BarPair-clause-writes g c = search (rules, hex_byte)

pub returns-in-RomMask-clause-writes : goal.returns-in-RomMask-clause-writes
returns-in-RomMask-clause-writes g c = search (rules, hex_byte)

pub returns-in-WindowMask-clause-writes : goal.returns-in-WindowMask-clause-writes
returns-in-WindowMask-clause-writes g c = search (rules, hex_byte)

pub returns-in-CapRange-clause-writes : goal.returns-in-CapRange-clause-writes
returns-in-CapRange-clause-writes g c = search (rules, hex_byte)

pub returns-in-CapLoop-clause-writes : goal.returns-in-CapLoop-clause-writes
returns-in-CapLoop-clause-writes g c = search (rules, hex_byte)

pub returns-in-CapCut-clause-writes : goal.returns-in-CapCut-clause-writes
returns-in-CapCut-clause-writes g c = search (rules, hex_byte)

pub returns-in-StrayProbe-clause-writes : goal.returns-in-StrayProbe-clause-writes
returns-in-StrayProbe-clause-writes g c = search (rules, hex_byte)

pub returns-in-Unreached-clause-writes : goal.returns-in-Unreached-clause-writes
returns-in-Unreached-clause-writes g c = search (rules, hex_byte, append_assoc)

pub returns-in-Clash-clause-writes : goal.returns-in-Clash-clause-writes
returns-in-Clash-clause-writes g c = search (rules, hex_byte, append_assoc)

pub returns-in-Split-clause-writes : goal.returns-in-Split-clause-writes
returns-in-Split-clause-writes g c = search (rules, hex_byte, append_assoc)
