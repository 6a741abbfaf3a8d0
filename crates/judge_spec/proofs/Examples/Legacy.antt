-- Legacy parts of bridges.
use Rattle.std.proofs.Common.{◌≡◌, ◌*◌, ℕ, List, [], ◌∷◌, refl, Bool, true, false, map, None}
use Rattle.pci_spec.specs.System.{Function, Io, Memory}
use Rattle.pci_spec.proofs.Examples.Samples.{slot, device, bridge}
use Rattle.judge_spec.specs.Given.{Given, LegacyBridge, legacy_holds, legacy_claims}
use Rattle.judge_spec.specs.Claims.{forwards, passes}
use Rattle.judge_spec.specs.Words.{Vga, Vga16, legacy_bridges}

-- ---- what they hold

frame_buffer : map (legacy_holds false Memory) (0x9ffff ∷ 0xa0000 ∷ 0xbffff ∷ 0xc0000 ∷ []) ≡ false ∷ true ∷ true ∷ false ∷ []
frame_buffer = refl

ports : map (legacy_holds true Io) (0x3af ∷ 0x3b0 ∷ 0x3bb ∷ 0x3bc ∷ 0x3bf ∷ 0x3c0 ∷ 0x3df ∷ 0x3e0 ∷ []) ≡ false ∷ true ∷ true ∷ false ∷ false ∷ true ∷ true ∷ false ∷ []
ports = refl

-- with 10 bits they are there in each KB, with 16 in the first; neither has them above 64 KB
each_kilobyte : map (legacy_holds false Io) (0x3b0 ∷ 0x7b0 ∷ 0x13b0 ∷ 0xc3c0 ∷ 0xfbdf ∷ 0xffdf ∷ 0xffe0 ∷ 0x103b0 ∷ 0x103c0 ∷ []) ≡ true ∷ true ∷ true ∷ true ∷ true ∷ true ∷ false ∷ false ∷ false ∷ []
each_kilobyte = refl

first_kilobyte : map (legacy_holds true Io) (0x3b0 ∷ 0x7b0 ∷ 0x13b0 ∷ 0xc3c0 ∷ 0x103b0 ∷ 0x103c0 ∷ []) ≡ true ∷ false ∷ false ∷ false ∷ false ∷ false ∷ []
first_kilobyte = refl

-- ---- which bridges have them

abbrev with_control : ℕ → Function
with_control control = bridge (slot 0 1 0) 3 0x010100 ((0x20, 0x0000fff0) ∷ (0x3c, control * 65536) ∷ []) []

abbrev entry : Bool → List LegacyBridge
entry wide = record { slot = slot 0 1 0; is_wide = wide } ∷ []

by_control : map (λ control. legacy_bridges Vga (with_control control ∷ [])) (0 ∷ 0x0008 ∷ 0x0018 ∷ 0x0010 ∷ []) ≡ [] ∷ entry false ∷ entry true ∷ [] ∷ []
by_control = refl

all_wide : map (λ control. legacy_bridges Vga16 (with_control control ∷ [])) (0 ∷ 0x0008 ∷ 0x0018 ∷ 0x0010 ∷ []) ≡ [] ∷ entry true ∷ entry true ∷ [] ∷ []
all_wide = refl

-- no device has one: 3Eh is Min_Gnt there
no_device : legacy_bridges Vga (device (slot 0 1 0) 3 ((0x3c, 0x00080000) ∷ []) [] ∷ []) ≡ []
no_device = refl

-- ---- what they claim: by Command, as windows do

abbrev pub legacy_at : List LegacyBridge → Given
legacy_at entries = record { io = None; memory = None; legacy = entries; isa = []; palette = []; unclaimed = [] }

abbrev with_command : ℕ → Function
with_command command = bridge (slot 0 1 0) command 0x010100 ((0x20, 0x0000fff0) ∷ []) []

by_command : map (λ command. legacy_claims (legacy_at (entry false)) Io 0x3c0 (with_command command)) (0 ∷ 1 ∷ 2 ∷ []) ≡ false ∷ true ∷ false ∷ []
by_command = refl

memory_by_command : map (λ command. legacy_claims (legacy_at (entry false)) Memory 0xa0000 (with_command command)) (0 ∷ 1 ∷ 2 ∷ []) ≡ false ∷ false ∷ true ∷ []
memory_by_command = refl

of_another_bridge : legacy_claims (legacy_at (record { slot = slot 0 2 0; is_wide = false } ∷ [])) Io 0x3c0 (with_command 1) ≡ false
of_another_bridge = refl

forwarded : map (λ a. forwards (legacy_at (entry false)) Memory a (with_command 2)) (0x9ffff ∷ 0xa0000 ∷ 0xc0000 ∷ []) ≡ false ∷ true ∷ false ∷ []
forwarded = refl

-- also what isn't prefetchable passes
passed : map (λ prefetchable. passes (legacy_at (entry false)) Memory prefetchable 0xa0000 (with_command 2)) (false ∷ true ∷ []) ≡ true ∷ true ∷ []
passed = refl
