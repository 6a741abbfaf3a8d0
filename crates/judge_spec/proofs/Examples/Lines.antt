-- The line of a region outside the host's ranges.
use Rattle.std.proofs.Common.{◌≡◌, refl}
use Rattle.std.specs.Prelude.{codes}
use Rattle.pci_spec.specs.System.{Memory}
use Rattle.pci_spec.specs.Fault.{OfProfile, VgaEnable}
use Rattle.pci_spec.proofs.Examples.Samples.{slot}
use Rattle.judge_spec.specs.Fault.{Known, Outside}
use Rattle.judge_spec.specs.Line.{fault_text}

outside : fault_text (Outside (slot 0 1 0) 0x10 Memory 0x8080000000) ≡ codes "63 Outside 00:01.0 10 mem 0000008080000000"
outside = refl

known : fault_text (Known (OfProfile VgaEnable (slot 0 4 0))) ≡ codes "52 VgaEnable 00:04.0"
known = refl
