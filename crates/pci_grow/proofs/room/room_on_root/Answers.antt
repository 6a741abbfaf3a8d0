use Rattle.std.proofs.Common.{ap, sym, ◌∙◌}
use Rattle.std.specs.List.{find}
use Rattle.settle_spec.specs.Parts.{lies_within}
use Rattle.settle_spec.specs.Reach.{root_window_ranges}
use Rattle.pci_base.specs.Ranges.{decoded_range_of}
use Rattle.pci_base.specs.WindowKinds.{kind_value}
use Rattle.pci_grow.proofs.Found.{memory_room, prefetch_room}
use Rattle.pci_grow.proofs.room.room_on_root.Goals as goal

pub returns-in-Memory : goal.returns-in-Memory
returns-in-Memory c = λ q is.
    c.range_of_either.ensures ∙ memory_room q c.args.lists.now c.args.bus (decoded_range_of c.args.range) is
    ∙ ap (λ k. find (lies_within (decoded_range_of c.args.range)) (root_window_ranges q (kind_value k) c.args.bus)) (sym c.in-Memory.is)

pub returns-in-Prefetchable : goal.returns-in-Prefetchable
returns-in-Prefetchable c = λ q is.
    c.range_of_either-in-Prefetchable.ensures ∙ prefetch_room q c.args.lists.now c.args.bus (decoded_range_of c.args.range) is
    ∙ ap (λ k. find (lies_within (decoded_range_of c.args.range)) (root_window_ranges q (kind_value k) c.args.bus)) (sym c.in-Prefetchable.is)
