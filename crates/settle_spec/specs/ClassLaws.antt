-- A law of classes where nothing stays: they are those of planning.
use Rattle.std.specs.Prelude.{◌≡◌, IsTrue, IsFalse}
use Rattle.pci_spec.specs.System.{System, Function, Part}
use Rattle.plan_spec.specs.Plan.{class_of}
use Rattle.settle_spec.specs.Lists.{Request}
use Rattle.settle_spec.specs.Parts.{is_empty, upper_pools, class_in}

-- Where nothing stays and there are ranges of prefetchable memory, classes are those of planning with a pool that ends where
-- those ranges do.
abbrev pub ClassIsPlanned : Type 0
ClassIsPlanned =
    (q : Request) (s : System) (f : Function) (p : Part) → IsTrue q.anew
    → IsFalse (is_empty q.lists.prefetch)
    → class_in q s f p ≡ class_of s (upper_pools q.lists.prefetch) f p
