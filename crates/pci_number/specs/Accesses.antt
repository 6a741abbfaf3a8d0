-- How many accesses numbering makes at most, reads and writes together. Those that fail don't count.
use Rattle.std.specs.Prelude.{ℕ, ◌+◌, ◌*◌, ◌-◌}

-- The Vendor ID has two bytes, the Header Type one.
abbrev pub most_of_look : ℕ
most_of_look = 3

-- A bus number is read, written and read back.
abbrev pub most_of_put : ℕ
most_of_put = 3

-- A bridge has three of them.
abbrev pub most_of_three : ℕ
most_of_three = 3 * most_of_put

-- A bus has 256 places, and on each may be a bridge whose numbers are cleared.
abbrev pub most_of_hush : ℕ
most_of_hush = 256 * (most_of_look + most_of_three)

-- A bridge gets its three numbers, the bus behind it is hushed, and the subordinate number is put once more.
abbrev pub most_of_open : ℕ
most_of_open = most_of_three + most_of_hush + most_of_put

-- Status and the first pointer are read. Then there are, at each of 48 places, a Capability ID, two registers of a
-- PCI Express capability, and the pointer to the next place.
abbrev pub most_of_room : ℕ
most_of_room = 2 + 48 * 4

-- the room that is kept free behind a bridge, and its subordinate number
abbrev pub most_of_lead : ℕ
most_of_lead = most_of_room + most_of_put

-- the 256 places of a bus
abbrev pub most_of_places : ℕ
most_of_places = 256 * most_of_look

-- Each number that is given has a bridge, which is opened and led, and a bus, which is walked over once.
abbrev pub most_of_numbers : ℕ → ℕ → ℕ
most_of_numbers last taken = (most_of_open + most_of_places + most_of_lead) * (last - taken)

-- the walk over a bus, where `taken` is the greatest number in use: the numbers up to `last` are left
abbrev pub most_of_walk : ℕ → ℕ → ℕ
most_of_walk last taken = most_of_places + most_of_numbers last taken

-- Behind a root these are 3840 + 4049 * (last - root).
abbrev pub most_accesses : ℕ → ℕ → ℕ
most_accesses root last = most_of_hush + most_of_walk last root
