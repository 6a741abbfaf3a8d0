-- How many accesses a walk over a bus made so far.
use Rattle.std.proofs.Common.{ℕ, ◌+◌, ◌*◌, ◌<◌, ◌≤◌, arith}
use Rattle.pci_number.specs.Accesses.{most_of_look, most_of_open, most_of_lead, most_of_numbers, most_of_walk}

-- At a place of the bus so many accesses were made since `before`, with those of the numbers that are left.
abbrev pub IsSpent : ℕ → ℕ → ℕ → ℕ → ℕ → ℕ → Type 0
IsSpent last before start place taken total = total + most_of_numbers last taken ≤ before + most_of_look * place + most_of_numbers last start

pub spent_look : (last before start place taken total looked : ℕ) → place < 256 → IsSpent last before start place taken total → looked ≤ total + most_of_look → looked ≤ before + most_of_walk last start
spent_look last before start place taken total looked within so_far looks = omega (arith, within, so_far, looks)

-- a number is given: a bridge is opened, and perhaps the bus behind it walked over
pub spent_open : (last before start place taken total looked opened : ℕ) → place < 256 → taken < last → IsSpent last before start place taken total → looked ≤ total + most_of_look → opened ≤ looked + most_of_open → opened ≤ before + most_of_walk last start
spent_open last before start place taken total looked opened within left so_far looks opens = omega (arith, within, left, so_far, looks, opens)

pub spent_bus : (last before start place taken total looked opened gone : ℕ) → place < 256 → taken < last → IsSpent last before start place taken total → looked ≤ total + most_of_look → opened ≤ looked + most_of_open → gone ≤ opened + most_of_walk last (taken + 1) → gone ≤ before + most_of_walk last start
spent_bus last before start place taken total looked opened gone within left so_far looks opens walks = omega (arith, within, left, so_far, looks, opens, walks)

pub spent_led : (last before start place taken far total looked opened gone led : ℕ) → place < 256 → taken < last → IsSpent last before start place taken total → looked ≤ total + most_of_look → opened ≤ looked + most_of_open → gone + most_of_numbers last far ≤ opened + most_of_walk last (taken + 1) → led ≤ gone + most_of_lead → led ≤ before + most_of_walk last start
spent_led last before start place taken far total looked opened gone led within left so_far looks opens walks leads = omega (arith, within, left, so_far, looks, opens, walks, leads)

pub spent_on : (last before start place taken far after total looked opened gone led : ℕ) → taken < last → IsSpent last before start place taken total → looked ≤ total + most_of_look → opened ≤ looked + most_of_open → gone + most_of_numbers last far ≤ opened + most_of_walk last (taken + 1) → led ≤ gone + most_of_lead → far ≤ after → IsSpent last before start (place + 1) after led
spent_on last before start place taken far after total looked opened gone led left so_far looks opens walks leads above = omega (arith, left, so_far, looks, opens, walks, leads, above)
