-- Lists of ranges of the code as those of the definitions.
use Rattle.std.specs.Prelude.{ℕ, Bool, ◌&&◌, map}
use Rattle.pci_spec.specs.Decoded.{Range}
use Rattle.settle_spec.specs.Lists as lists
use Rattle.settle_spec.specs.Parts.{lies_within}
use Rattle.pci_base.specs.Ranges.{decoded_range_of}
use Rattle.pci_base.specs.declared.range.RootRange.{RootRange}
use Rattle.pci_first_fit.specs.declared.list.Lists.{Lists}

abbrev pub root_range_value : RootRange → lists.RootRange
root_range_value r = record { root = r.root; range = decoded_range_of r.range }

abbrev pub lists_value : Lists → lists.Lists
lists_value l = record {
  io = map root_range_value l.io.now;
  memory = map root_range_value l.mem.now;
  prefetch = map root_range_value l.pref.now;
}

-- whether a root has a range that holds another
abbrev pub root_range_holds : ℕ → Range → lists.RootRange → Bool
root_range_holds bus range one = lists.is_had_by one.root bus && lies_within range one.range
