-- What the changes of images are for.
use Rattle.std.proofs.Common.{◌≡◌, ℕ, zero, suc, ◌+◌, ◌*◌, ◌/◌, ◌%◌, ◌==◌, ◌<◌, List, length, set, false, inl, inr, refl, sym, ◌∙◌, ap, arith}
use Rattle.std.specs.Int.{bit_at}
use Rattle.std.proofs.lemmas.Bool.{both_ways, cases_lt, ne_eqb}
use Rattle.std.proofs.Math.Bool.{and-false}
use Rattle.std.proofs.lemmas.List.{get_or-set_same, get_or-set_other, get_or_past, length-set}
use Rattle.pci_spec.specs.Number.{byte_at, has_bit, IsImage}
use Rattle.pci_spec.specs.Registers.{COMMAND, STATUS, INTERFACE, HEADER_TYPE, PRIMARY_BUS, BRIDGE_CONTROL, SECONDARY_BUS_RESET}
use Rattle.pci_spec.specs.Header.{command, status, class_code, layout, bridge_control}
use Rattle.pci_spec.specs.Capability.{pointer}
use Rattle.pci_spec.specs.System.{Function, Space, Io, Memory, Part, Bar, Rom, Window, Claims, is_space_on, is_enabled, is_bridge, space_of, window_space}
use Rattle.pci_spec.specs.Fault.{IsNotInD0, controls_bridge, is_subtractive_bridge}
use Rattle.judge_spec.specs.Bytes.{as_bare_device, cleared, as_device, out_of_reset, positive, switched_off, without_registers}
use Rattle.judge_spec.specs.Taken.{function_with_image, without_buses}

-- ---- off

pub without_low_bits : (image : List ℕ) → length image ≡ 256 → byte_at (switched_off image) COMMAND ≡ byte_at image COMMAND / 4 * 4
without_low_bits image full =
    get_or-set_other (set image COMMAND (byte_at image COMMAND / 4 * 4)) STATUS COMMAND _ 0 (λ e. cc e)
    ∙ get_or-set_same image COMMAND _ 0 (omega (arith, full))

off_space : (image : List ℕ) (i : ℕ) → IsImage image → i < 2 → has_bit (command (switched_off image)) i ≡ false
off_space image zero is small =
    let low = without_low_bits image is.full in
    ne_eqb (bit_at (command (switched_off image)) 0) 1 (λ one. omega (arith, one, low))
off_space image (suc zero) is small =
    let low = without_low_bits image is.full in
    ne_eqb (bit_at (command (switched_off image)) 1) 1 (λ one. omega (arith, one, low))
off_space image (suc (suc i)) is small = absurd (omega (arith, small))

off_in : (f : Function) (space : Space) → IsImage f.image → is_space_on (function_with_image f (switched_off f.image)) space ≡ false
off_in f Io is = off_space f.image 0 is (omega arith)
off_in f Memory is = off_space f.image 1 is (omega arith)

not_enabled : (f : Function) (part : Part) → IsImage f.image → is_enabled (function_with_image f (switched_off f.image)) part ≡ false
not_enabled f (Bar n) is = off_in f (space_of (function_with_image f (switched_off f.image)) (Bar n)) is
not_enabled f Rom is = rw (off_in f Memory is) refl
not_enabled f (Window kind) is = off_in f (window_space kind) is

pub off_claims_nothing : (f : Function) → IsImage f.image → (part : Part) (space : Space) (a : ℕ) → Claims (function_with_image f (switched_off f.image)) part space a → ⊥
off_claims_nothing f is part space a claims = both_ways _ (not_enabled f part is) claims.enabled

no_list : (image : List ℕ) → IsImage image → has_bit (status (switched_off image)) 4 ≡ false
no_list image is =
    let full = is.full in
    let long = length-set image COMMAND (byte_at image COMMAND / 4 * 4) in
    let low : byte_at (switched_off image) STATUS ≡ byte_at image STATUS / 32 * 32 + byte_at image STATUS % 16 =
    get_or-set_same (set image COMMAND (byte_at image COMMAND / 4 * 4)) STATUS _ 0 (omega (arith, full, long)) in
    ne_eqb (bit_at (status (switched_off image)) 4) 1 (λ one. omega (arith, one, low))

pub no_pointer : (image : List ℕ) (n : ℕ) → has_bit (status image) 4 ≡ false → pointer image n ≡ 0
no_pointer image zero none = rw none refl
no_pointer image (suc n) none = rw (no_pointer image n none) refl

pub off_shows_no_state : (image : List ℕ) → IsImage image → IsNotInD0 (switched_off image) → ⊥
off_shows_no_state image is (place, (n, at, some), shows) = some (sym at ∙ no_pointer (switched_off image) n (no_list image is))

-- ---- bridges

pub out_of_reset_is : (image : List ℕ) → IsImage image → controls_bridge (out_of_reset image) SECONDARY_BUS_RESET ≡ false
out_of_reset_is image is =
    let full = is.full in
    let low : byte_at (out_of_reset image) BRIDGE_CONTROL ≡ byte_at image BRIDGE_CONTROL / 128 * 128 + byte_at image BRIDGE_CONTROL % 64 =
    get_or-set_same image BRIDGE_CONTROL _ 0 (omega (arith, full)) in
    let none : has_bit (bridge_control (out_of_reset image)) SECONDARY_BUS_RESET ≡ false =
    ne_eqb (bit_at (bridge_control (out_of_reset image)) 6) 1 (λ one. omega (arith, one, low)) in
    rw none (and-false _)

pub positive_is : (image : List ℕ) → IsImage image → is_subtractive_bridge (positive image) ≡ false
positive_is image is =
    let full = is.full in
    let low : byte_at (positive image) INTERFACE ≡ 0 = get_or-set_same image INTERFACE 0 0 (omega (arith, full)) in
    let other = ne_eqb (class_code (positive image)) 0x060401 (λ same. omega (arith, same, low)) in
    rw other (and-false _)

pub length_cleared : (offset count : ℕ) (image : List ℕ) → length (cleared offset count image) ≡ length image
length_cleared offset zero image = refl
length_cleared offset (suc count) image = length-set (cleared offset count image) (offset + count) 0 ∙ length_cleared offset count image

-- Header Type without its layout
header_put : (image : List ℕ) (n : ℕ) → layout (set image HEADER_TYPE (n / 128 * 128)) ≡ 0
header_put image n =
    let put = set image HEADER_TYPE (n / 128 * 128) in
    elim (cases_lt HEADER_TYPE (length image)) [
      | inl within ↦ (let is : byte_at put HEADER_TYPE ≡ n / 128 * 128 = get_or-set_same image HEADER_TYPE _ 0 within in omega (arith, is))
      | inr past ↦ (let long = length-set image HEADER_TYPE (n / 128 * 128) in let none : byte_at put HEADER_TYPE ≡ 0 = get_or_past put HEADER_TYPE 0 (omega (arith, past, long)) in omega (arith, none))
    ]

pub device_is_device : (image : List ℕ) → layout (as_device image) ≡ 0
device_is_device image = header_put (cleared PRIMARY_BUS 28 image) (byte_at image HEADER_TYPE)

pub device_is_none : (image : List ℕ) → (layout (as_device image) == 1) ≡ false
device_is_none image = ne_eqb (layout (as_device image)) 1 (let zero = device_is_device image in λ one. omega (arith, one, zero))

pub device_leads_nowhere : (f : Function) → IsImage f.image → is_bridge (without_buses f) ≡ false
device_leads_nowhere f is = device_is_none f.image

-- ---- CardBus bridges

pub bare_is_device : (image : List ℕ) → layout (as_bare_device image) ≡ 0
bare_is_device image =
    let put = set (without_registers image) HEADER_TYPE (byte_at image HEADER_TYPE / 128 * 128) in
    ap (λ n. n % 128) (get_or-set_other put STATUS HEADER_TYPE _ 0 (λ e. cc e)) ∙ header_put (without_registers image) (byte_at image HEADER_TYPE)
