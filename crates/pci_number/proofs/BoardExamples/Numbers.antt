-- Which numbers bridges get.
use Rattle.std.proofs.Common.{◌≡◌, ℕ, [], ◌∷◌, refl, ap, arith, true, false, map}
use Rattle.pci_spec.specs.Number.{byte_at}
use Rattle.pci_number.specs.Board.{Nodes, NoMore, Node}
use Rattle.pci_number.specs.Numbered.{without_numbers, secondaries, secondary_number, greatest_from, have_ranges, IsNumbered}
use Rattle.pci_number.proofs.BoardExamples.Boards.{image, bridge, first_bridge, one, devices, single_bridge, tree, pair, fork, two_functions, row}

-- no bridge, no number
devices_get_none : IsNumbered 0 0xff devices devices
devices_get_none = record { same = refl; order = refl; ranges = refl }

single_bridge_gets_1 : IsNumbered 0 0xff (single_bridge 0) (single_bridge 0x000101)
single_bridge_gets_1 = record { same = refl; order = refl; ranges = refl }

-- a bridge before what is behind it, and that before what follows on its own bus
tree_gets_4 : IsNumbered 0 0xff (tree 0 0 0 0) (tree 0x000103 0x010202 0x010303 0x000404)
tree_gets_4 = record { same = refl; order = refl; ranges = refl }

-- the fourth would be above the last
tree_gets_3 : IsNumbered 0 3 (tree 0 0 0 0) (tree 0x000103 0x010202 0x010303 0)
tree_gets_3 = record { same = refl; order = refl; ranges = refl }

-- old numbers don't matter
pair_gets_2 : IsNumbered 0 0xff (pair 0x000509 0x000505) (pair 0x000101 0x000202)
pair_gets_2 = record { same = refl; order = refl; ranges = refl }

fork_gets_3 : IsNumbered 0 0xff (fork 0 0x010707 0x010707) (fork 0x000103 0x010202 0x010303)
fork_gets_3 = record { same = refl; order = refl; ranges = refl }

two_functions_get_2 : IsNumbered 0 0xff (two_functions 0 0) (two_functions 0x000101 0x000202)
two_functions_get_2 = record { same = refl; order = refl; ranges = refl }

-- behind another root
fork_behind_root_40 : IsNumbered 0x40 0xff (fork 0 0 0) (fork 0x404143 0x414242 0x414343)
fork_behind_root_40 = record { same = refl; order = refl; ranges = refl }

-- the number that is the last is given, and the one above it isn't
fork_up_to_root_42 : IsNumbered 0x40 0x42 (fork 0 0 0) (fork 0x404142 0x414242 0x000000)
fork_up_to_root_42 = record { same = refl; order = refl; ranges = refl }

-- where no bridge gets a number each shows none, and what is behind is out of reach
fork_without_numbers : IsNumbered 0x40 0x40 (fork 0x010203 0x010707 0x010707) (fork 0 0x010707 0x010707)
fork_without_numbers = record { same = refl; order = refl; ranges = refl }

row_gets_3 : IsNumbered 0 0xff (row 0 0 0) (row 0x000103 0x010203 0x020303)
row_gets_3 = record { same = refl; order = refl; ranges = refl }

row_up_to_2 : IsNumbered 0 2 (row 0 0 0) (row 0x000102 0x010202 0)
row_up_to_2 = record { same = refl; order = refl; ranges = refl }

-- ---- numbers that are wrong

-- the order is that of the walk: not by bus, not from the last bridge on, and no number is left out
wrong_orders : map secondaries (tree 0x000103 0x010202 0x010303 0x000404 ∷ tree 0x000104 0x010303 0x010404 0x000202 ∷ tree 0x000203 0x010202 0x010303 0x000101 ∷ []) ≡ (1 ∷ 2 ∷ 3 ∷ 4 ∷ []) ∷ (1 ∷ 3 ∷ 4 ∷ 2 ∷ []) ∷ (2 ∷ 2 ∷ 3 ∷ 1 ∷ []) ∷ []
wrong_orders = refl

order_by_bus_is_wrong : IsNumbered 0 0xff (tree 0 0 0 0) (tree 0x000104 0x010303 0x010404 0x000202) → ⊥
order_by_bus_is_wrong numbered = cc numbered.order

left_out_number_is_wrong : IsNumbered 0 0xff (single_bridge 0) (single_bridge 0x000202) → ⊥
left_out_number_is_wrong numbered = cc numbered.order

number_of_the_root_is_wrong : IsNumbered 2 0xff (single_bridge 0) (single_bridge 0x020202) → ⊥
number_of_the_root_is_wrong numbered = cc numbered.order

-- a bridge that would be above the last bus doesn't keep its old numbers
old_number_above_the_last_is_wrong : IsNumbered 0 3 (tree 0 0 0 0x000505) (tree 0x000103 0x010202 0x010303 0x000505) → ⊥
old_number_above_the_last_is_wrong numbered = cc numbered.order

number_up_to_last : map (secondary_number 2 4) (1 ∷ 2 ∷ 3 ∷ 4 ∷ []) ≡ 3 ∷ 4 ∷ 0 ∷ 0 ∷ []
number_up_to_last = refl

-- the last two registers mixed up, the bus behind as the primary one, the bridge's own number alone though
-- others are behind it, one too many, and the second bridge behind it left out
wrong_ranges : map (have_ranges 0) (fork 0x000301 0x010202 0x010303 ∷ fork 0x010103 0x010202 0x010303 ∷ fork 0x000101 0x010202 0x010303 ∷ fork 0x000104 0x010202 0x010303 ∷ fork 0x000102 0x010202 0x010303 ∷ []) ≡ false ∷ false ∷ false ∷ false ∷ false ∷ []
wrong_ranges = refl

-- a bridge's own number counts where none is behind it
wrong_ranges_behind_the_first : map (have_ranges 0) (fork 0x000103 0x010200 0x010303 ∷ fork 0x000103 0x000202 0x010303 ∷ fork 0x000103 0x010202 0x010302 ∷ fork 0x000103 0x020202 0x010303 ∷ []) ≡ false ∷ false ∷ false ∷ false ∷ []
wrong_ranges_behind_the_first = refl

-- one without a bus shows 0 in all three
no_bus_is_0_in_all_three : map (λ m. have_ranges 0 (single_bridge m)) (0x000000 ∷ 0x010000 ∷ 0x000005 ∷ []) ≡ true ∷ false ∷ false ∷ []
no_bus_is_0_in_all_three = refl

-- a device shows something else there
device_shows_no_numbers : have_ranges 0 (Node 1 0 (image 0 0x010005) NoMore NoMore) ≡ true
device_shows_no_numbers = refl

greatest_wherever_it_is : map (greatest_from 2) ([] ∷ (1 ∷ []) ∷ (3 ∷ []) ∷ (1 ∷ 5 ∷ 3 ∷ []) ∷ []) ≡ 2 ∷ 2 ∷ 3 ∷ 5 ∷ []
greatest_wherever_it_is = refl

-- ---- nodes stay what they are

-- the byte at an offset of the first node
abbrev first_byte : ℕ → Nodes → ℕ
first_byte offset NoMore = 0
first_byte offset (Node d f image behind others) = byte_at image offset

bytes_stay : (before after : Nodes) → IsNumbered 0 0xff before after → (offset : ℕ) → first_byte offset (without_numbers before) ≡ first_byte offset (without_numbers after)
bytes_stay before after numbered offset = ap (first_byte offset) numbered.same

-- a device has other registers where a bridge has its numbers
device_keeps_its_bytes : IsNumbered 0 0xff (Node 1 0 (image 0 0x000505) NoMore NoMore) (Node 1 0 (image 0 0) NoMore NoMore) → ⊥
device_keeps_its_bytes numbered = absurd (omega (arith, bytes_stay (Node 1 0 (image 0 0x000505) NoMore NoMore) (Node 1 0 (image 0 0) NoMore NoMore) numbered 0x19))

bridge_keeps_its_other_bytes : IsNumbered 0 0xff (single_bridge 0) (first_bridge 1 0x000101 one NoMore) → ⊥
bridge_keeps_its_other_bytes numbered = absurd (omega (arith, bytes_stay (single_bridge 0) (first_bridge 1 0x000101 one NoMore) numbered 0x0e))

node_stays_where_it_is : IsNumbered 0 0xff (single_bridge 0) (bridge 2 0 0x000101 one NoMore) → ⊥
node_stays_where_it_is numbered = cc numbered.same

no_node_is_lost : IsNumbered 0 0xff (single_bridge 0) (bridge 1 0 0x000101 NoMore NoMore) → ⊥
no_node_is_lost numbered = cc numbered.same
