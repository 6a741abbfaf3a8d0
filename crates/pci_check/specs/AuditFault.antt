-- The numbers of what stops an audit.
use Rattle.std.specs.Prelude.{ℕ}
use Rattle.pci_dump.specs.ReadFault.{read_fault_number}
use Rattle.pci_check.specs.declared.outcome.AuditFault.{AuditFault}
use Rattle.pci_check.specs.declared.outcome.AuditFault.TheVariants.{Dump, Probe, Memory, Write}

abbrev pub audit_fault_number : AuditFault → ℕ
audit_fault_number (Dump fault) = read_fault_number fault
audit_fault_number (Probe fault) = read_fault_number fault
audit_fault_number Memory = 2
audit_fault_number Write = 10
