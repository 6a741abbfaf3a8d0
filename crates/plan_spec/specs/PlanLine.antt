-- How it is printed that nothing is planned, and what is lacking.
use Rattle.std.specs.Prelude.{ℕ, ◌/◌, ◌%◌, ◌^◌, ◌==◌, false, if◌then◌else◌, List, [], ◌∷◌, ◌++◌, codes}
use Rattle.std.specs.Fmt.{digits}
use Rattle.pci_spec.specs.Window.{WindowKind}
use Rattle.pci_spec.specs.System.{Space, Io, Memory, window_space}
use Rattle.pci_spec.specs.Line.{two_digits, field, slot_field, window_name, fault_text, hex_number}
use Rattle.pci_spec.specs.Why.{amount_text}
use Rattle.plan_spec.specs.Plan.{PlanFault, BadPools, NoWindow, NoRoom, NotAccepted, plan_fault_number, Shortage}

-- why nothing is planned: a number, a name and its fields
abbrev pub plan_fault_words : PlanFault → List ℕ
plan_fault_words BadPools = codes "BadPools"
plan_fault_words (NoWindow slot) = codes "NoWindow" ++ slot_field slot
plan_fault_words (NoRoom class) = codes "NoRoom" ++ field (window_name class)
plan_fault_words (NotAccepted fault) = codes "NotAccepted" ++ field (fault_text fault)

abbrev pub plan_fault_text : PlanFault → List ℕ
plan_fault_text fault = two_digits (plan_fault_number fault) ++ field (plan_fault_words fault)

-- ---- what is lacking

-- a number of addresses, of which there may be none
abbrev pub count_text : ℕ → List ℕ
count_text n = if n == 0 then codes "0" else amount_text n

-- the hex digits of what stands above the last ones, where anything does
abbrev pub digits_above : ℕ → List ℕ
digits_above n = if n == 0 then [] else digits 16 false n

-- a number in so many hex digits, or as many more as it wants
abbrev pub long_hex : ℕ → ℕ → List ℕ
long_hex width n = digits_above (n / 16 ^ width) ++ hex_number width (n % 16 ^ width)

-- an address: at least 8 digits in I/O space, and 16 in memory space
abbrev pub start_text : Space → ℕ → List ℕ
start_text Io start = long_hex 8 start
start_text Memory start = long_hex 16 start

-- the line behind that of a class that doesn't fit its pool
abbrev pub shortage_line : WindowKind → Shortage → List ℕ
shortage_line c lacking =
    codes "  needs " ++ count_text lacking.needed
    ++ codes " from " ++ start_text (window_space c) lacking.start
    ++ codes ", has " ++ count_text lacking.available ++ 10 ∷ []
