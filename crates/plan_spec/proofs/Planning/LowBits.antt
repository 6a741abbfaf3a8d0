-- The low bits of a whole BAR are those of its register.
use Rattle.std.proofs.Common.{◌≡◌, ℕ, ◌+◌, ◌*◌, ◌%◌, ◌^◌, Bool, true, false, ◌&&◌, not, arith, refl}
use Rattle.std.specs.Bool.{◌==◌, if◌then◌else◌}
use Rattle.pci_spec.specs.Bar.{BarKind, IoBar, Memory32, Memory64, Reserved, bar_at, bar_kind, first_bit, is_io, type_bits, whole_bar}
use Rattle.pci_spec.specs.System.{Function}

low_wide : (low high : ℕ) → (low + 2 ^ 32 * high) % 2 ^ 4 ≡ low % 2 ^ 4
low_wide low high = omega arith

abbrev kind_by : Bool → Bool → Bool → BarKind
kind_by io wide narrow = if io then IoBar else if wide then Memory64 else if narrow then Memory32 else Reserved

low_by : (io wide narrow : Bool) (low high : ℕ) → (if not io && wide then low + 2 ^ 32 * high else low) % 2 ^ first_bit (kind_by io wide narrow) ≡ low % 2 ^ first_bit (kind_by io wide narrow)
low_by true wide narrow low high = refl
low_by false true narrow low high = low_wide low high
low_by false false narrow low high = refl

pub low_bits : (f : Function) (n : ℕ) → whole_bar f.probe f.image n % 2 ^ first_bit (bar_kind (bar_at f.probe n)) ≡ bar_at f.image n % 2 ^ first_bit (bar_kind (bar_at f.probe n))
low_bits f n =
    let mask = bar_at f.probe n in
    low_by (is_io mask) (type_bits mask == 2) (type_bits mask == 0) (bar_at f.image n) (bar_at f.image (n + 1))
