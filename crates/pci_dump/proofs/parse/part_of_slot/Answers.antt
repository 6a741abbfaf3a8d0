use Rattle.std.proofs.Common.{ap, List, ℕ, ◌++◌, drop, length}
use Rattle.pci_dump.proofs.Whole.{slot_refused, slot_taken, sample_slot}
use Rattle.pci_dump.proofs.parse.part_of_slot.Goals as goal

pub returns-in-None : goal.returns-in-None
returns-in-None c = slot_refused _ _ c.requires (ap (λ (t : List ℕ). t ++ drop (length c.args.part.now) sample_slot) c.copy_from_slice.ensures.after) c.in-None.ensures.none

pub returns-in-Some : goal.returns-in-Some
returns-in-Some c = slot_taken _ _ _ c.requires (ap (λ (t : List ℕ). t ++ drop (length c.args.part.now) sample_slot) c.copy_from_slice.ensures.after) c.in-Some.ensures.some
