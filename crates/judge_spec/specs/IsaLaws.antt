-- Laws of ISA Enable (Bridge 1.2, 3.2.5.18).
use Rattle.std.specs.Prelude.{◌≡◌, ◌↔◌, ℕ, ◌/◌, Bool, IsFalse, []}
use Rattle.pci_spec.specs.System.{Function, Space}
use Rattle.judge_spec.specs.Given.{Given, has_isa, is_isa_port}
use Rattle.judge_spec.specs.Claims.{Part, Claims, forwards, passes}

-- what is given, where no bridge has ISA Enable
abbrev pub nobody_has_isa : Given → Given
nobody_has_isa given = record given { isa = [] }

-- A function without it claims what it does where nobody has it,
abbrev pub IsaLeavesClaims : Type 0
IsaLeavesClaims =
    (given : Given) (f : Function) (part : Part) (space : Space) (a : ℕ)
    → IsFalse (has_isa given f.slot)
    → Claims given f part space a ↔ Claims (nobody_has_isa given) f part space a

-- forwards it,
abbrev pub IsaLeavesForwards : Type 0
IsaLeavesForwards =
    (given : Given) (space : Space) (a : ℕ) (b : Function) → IsFalse (has_isa given b.slot)
    → forwards given space a b ≡ forwards (nobody_has_isa given) space a b

-- and passes it.
abbrev pub IsaLeavesPasses : Type 0
IsaLeavesPasses =
    (given : Given) (space : Space) (prefetchable : Bool) (a : ℕ) (b : Function)
    → IsFalse (has_isa given b.slot)
    → passes given space prefetchable a b ≡ passes (nobody_has_isa given) space prefetchable a b

-- Of 256 addresses from a multiple of 256 on ISA Enable takes all or none. So a window passes a BAR of I/O space, which has
-- at most 256 addresses, as a whole or not at all.
abbrev pub IsaTakesWhole : Type 0
IsaTakesWhole = (a b : ℕ) → a / 256 ≡ b / 256 → is_isa_port a ≡ is_isa_port b
