use Rattle.pci_spec.proofs.CapabilityLaws.{walk_starts_at_pointer, no_list_has_no_walk, walk_goes_on_by_next_byte, pointer_is_aligned, walk_stays_ended, walk_has_at_most_48_places}
use Rattle.pci_spec.proofs.capability_laws.walks_go_by_pointers.Goals as goal

pub returns-clause-start : goal.returns-clause-start
returns-clause-start c = walk_starts_at_pointer

pub returns-clause-empty : goal.returns-clause-empty
returns-clause-empty c = no_list_has_no_walk

pub returns-clause-next : goal.returns-clause-next
returns-clause-next c = walk_goes_on_by_next_byte

pub returns-clause-aligned : goal.returns-clause-aligned
returns-clause-aligned c = pointer_is_aligned

pub returns-clause-ended : goal.returns-clause-ended
returns-clause-ended c = walk_stays_ended

pub returns-clause-most : goal.returns-clause-most
returns-clause-most c = walk_has_at_most_48_places
