-- What a plan's faults read.
use Rattle.std.proofs.Common.{◌≡◌, refl}
use Rattle.std.specs.Prelude.{codes}
use Rattle.pci_spec.specs.Slot.{Slot}
use Rattle.pci_spec.specs.Window.{IoWindow, MemoryWindow, PrefetchWindow}
use Rattle.pci_spec.specs.Fault.{Orphan}
use Rattle.plan_spec.specs.Plan.{BadPools, NoWindow, NoRoom, NotAccepted}
use Rattle.plan_spec.specs.PlanLine.{plan_fault_text}
use Rattle.pci_spec.proofs.Examples.Samples.{slot}

abbrev place : Slot
place = slot 0x0a 0x1f 3

bad_pools : plan_fault_text BadPools ≡ codes "70 BadPools"
bad_pools = refl

no_window : plan_fault_text (NoWindow place) ≡ codes "71 NoWindow 0a:1f.3"
no_window = refl

no_room_for_io : plan_fault_text (NoRoom IoWindow) ≡ codes "72 NoRoom io"
no_room_for_io = refl

no_room_for_memory : plan_fault_text (NoRoom MemoryWindow) ≡ codes "72 NoRoom mem"
no_room_for_memory = refl

no_room_for_prefetchable_memory : plan_fault_text (NoRoom PrefetchWindow) ≡ codes "72 NoRoom pref"
no_room_for_prefetchable_memory = refl

plan_not_accepted : plan_fault_text (NotAccepted (Orphan place)) ≡ codes "73 NotAccepted 58 Orphan 0a:1f.3"
plan_not_accepted = refl
