-- Told ranges stand by slot, so those of lower slots are found by halving.
use Rattle.std.proofs.Common.{ℕ, List, ltb}
use Rattle.std.specs.List.Sorted.{IsPartitionedBy}
use Rattle.std.proofs.lemmas.List.Sorted.{IsPartitionedBy-ltb}
use Rattle.pci_spec.specs.Slot.{slot_number}
use Rattle.judge_spec.specs.Told.{ToldRange, IsTold}

pub parted_by_slot : (ranges : List ToldRange) (n : ℕ) → IsTold ranges → IsPartitionedBy (λ r. ltb (slot_number r.slot) n) ranges
parted_by_slot ranges n told = IsPartitionedBy-ltb (λ (r : ToldRange). slot_number r.slot) ranges n told.order
