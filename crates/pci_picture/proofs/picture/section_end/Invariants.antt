use Rattle.std.proofs.Common.{◌≡◌, ◌<◌, ◌≤◌, ℕ, slice_index_or}
use Rattle.pci_picture.specs.declared.plan.Member.{Member}
use Rattle.pci_picture.proofs.picture.section_end.Given as goal

abbrev pub invariant-loop-index : goal.invariant-loop-index
invariant-loop-index l =
    (i : ℕ) (d : Member) → l.begin ≤ i → i < l.index → (slice_index_or l.members i d).section ≡ (slice_index_or l.members l.begin d).section
