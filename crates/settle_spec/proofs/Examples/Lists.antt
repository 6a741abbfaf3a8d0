-- Lists of ranges: which are refused, which root has a range, and which range is used first.
use Rattle.std.proofs.Common.{◌≡◌, List, [], ◌∷◌, refl}
use Rattle.pci_spec.specs.System.{System}
use Rattle.pci_spec.proofs.Examples.Samples.{slot, write}
use Rattle.settle_spec.specs.Lists.{RootRange, Request}
use Rattle.settle_spec.specs.Stands.{stands_within}
use Rattle.settle_spec.specs.Items.{window_within, holds_within}
use Rattle.settle_spec.specs.Keeping.Places.{placing_within}
use Rattle.settle_spec.specs.Keeping.Registers.{is_live_within}
use Rattle.settle_spec.specs.Writes.{Settled, BadLists}
use Rattle.settle_spec.proofs.Examples.Settlings.{settle, all_roots, of_root, lists, request, with_memory, plain, refused}

-- ---- of one root alone

-- buses 00 and 40 are roots, and each has 1 MB of memory
abbrev pub two_roots : Request
two_roots = record request { roots = 0 ∷ 0x40 ∷ []; lists = record lists { memory = of_root 0 0xe0000000 0xe00fffff ∷ of_root 0x40 0xe0100000 0xe01fffff ∷ [] } }

-- a BAR gets a range of its own root, and not the first of the list
second_root_alone : settle two_roots (plain (slot 0x40 1 0) 0 0 0xfff00000 ∷ [])
    ≡ Settled (write (slot 0x40 1 0) 0x10 4 0xe0100000 ∷ write (slot 0x40 1 0) 0x04 2 0x0002 ∷ [])
unfolding stands_within window_within holds_within placing_within is_live_within
second_root_alone = refl

-- a BAR that lies in the range of another root doesn't stay
in_range_of_other_root : settle two_roots (plain (slot 0x40 1 0) 2 0xe0000000 0xfff00000 ∷ [])
    ≡ Settled (write (slot 0x40 1 0) 0x04 2 0x0000 ∷ write (slot 0x40 1 0) 0x10 4 0xe0100000 ∷ write (slot 0x40 1 0) 0x04 2 0x0002 ∷ [])
unfolding stands_within window_within holds_within placing_within is_live_within
in_range_of_other_root = refl

in_range_of_its_root : settle two_roots (plain (slot 0x40 1 0) 2 0xe0100000 0xfff00000 ∷ [])
    ≡ Settled []
unfolding stands_within window_within holds_within placing_within is_live_within
in_range_of_its_root = refl

-- ---- which is used first

abbrev three_ranges : List RootRange
three_ranges = all_roots 0xe0000000 0xe00fffff ∷ all_roots 0xe0200000 0xe02fffff ∷ all_roots 0xe0400000 0xe04fffff ∷ []

abbrev three_devices : System
three_devices = plain (slot 0 1 0) 0 0 0xfff00000 ∷ plain (slot 0 2 0) 0 0 0xfff00000 ∷ plain (slot 0 3 0) 0 0 0xfff00000 ∷ []

-- the third range is used where the first two are full
third_range : settle (with_memory three_ranges) three_devices
    ≡ Settled (write (slot 0 1 0) 0x10 4 0xe0000000 ∷ write (slot 0 2 0) 0x10 4 0xe0200000 ∷ write (slot 0 3 0) 0x10 4 0xe0400000 ∷ write (slot 0 1 0) 0x04 2 0x0002 ∷ write (slot 0 2 0) 0x04 2 0x0002 ∷ write (slot 0 3 0) 0x04 2 0x0002 ∷ [])
unfolding stands_within window_within holds_within placing_within is_live_within
third_range = refl

-- what stands in the third one stays there
stands_in_third_range : settle (with_memory three_ranges) (plain (slot 0 1 0) 2 0xe0400000 0xfff00000 ∷ [])
    ≡ Settled []
unfolding stands_within window_within holds_within placing_within is_live_within
stands_in_third_range = refl

-- the list counts, and not the address
higher_range_listed_first : settle (with_memory (all_roots 0xe0200000 0xe02fffff ∷ all_roots 0xe0000000 0xe00fffff ∷ [])) (plain (slot 0 1 0) 0 0 0xfff00000 ∷ [])
    ≡ Settled (write (slot 0 1 0) 0x10 4 0xe0200000 ∷ write (slot 0 1 0) 0x04 2 0x0002 ∷ [])
unfolding stands_within window_within holds_within placing_within is_live_within
higher_range_listed_first = refl

-- ---- which are refused

second_and_third_share : refused (record lists { memory = all_roots 0x1000 0x1fff ∷ all_roots 0x3000 0x3fff ∷ all_roots 0x3fff 0x4fff ∷ [] }) ≡ BadLists
second_and_third_share = refl

first_and_third_share : refused (record lists { memory = all_roots 0x1000 0x1fff ∷ all_roots 0x3000 0x3fff ∷ all_roots 0x1fff 0x2fff ∷ [] }) ≡ BadLists
first_and_third_share = refl

-- also where two roots alone have them
ranges_of_two_roots_share : settle (record two_roots { lists = record lists { memory = of_root 0 0x1000 0x1fff ∷ of_root 0x40 0x1000 0x1fff ∷ [] } }) [] ≡ BadLists
ranges_of_two_roots_share = refl

-- each of the three lists is looked at
backward_io : refused (record lists { io = all_roots 2 1 ∷ [] }) ≡ BadLists
backward_io = refl

backward_prefetch : refused (record lists { prefetch = all_roots 2 1 ∷ [] }) ≡ BadLists
backward_prefetch = refl

-- and each range of a list
second_is_backward : refused (record lists { memory = all_roots 0x1000 0x1fff ∷ all_roots 0x5000 0x4fff ∷ [] }) ≡ BadLists
second_is_backward = refl

second_above_32_bits : refused (record lists { memory = all_roots 0x1000 0x1fff ∷ all_roots 0x3000 0x100000000 ∷ [] }) ≡ BadLists
second_above_32_bits = refl

-- memory may go up to FFFFFFFFh, and a range may have one address
up_to_4_gb : refused (record lists { memory = all_roots 0x1000 0xffffffff ∷ all_roots 0 0 ∷ [] }) ≡ Settled []
unfolding placing_within
up_to_4_gb = refl

-- ranges that touch share no address, in whatever order they are listed
ranges_that_touch : refused (record lists { memory = all_roots 0x2000 0x2fff ∷ all_roots 0x1000 0x1fff ∷ all_roots 0x3000 0x3fff ∷ [] }) ≡ Settled []
unfolding placing_within
ranges_that_touch = refl

-- bad lists are told before want of room
before_want_of_room : settle (with_memory (all_roots 2 1 ∷ [])) (plain (slot 0 1 0) 0 0 0xfff00000 ∷ [])
    ≡ BadLists
before_want_of_room = refl
