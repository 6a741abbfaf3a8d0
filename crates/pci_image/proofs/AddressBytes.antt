-- Which bytes of a header lie in registers that address decoding is set by.
use Rattle.std.proofs.Common.{◌≡◌, ℕ, ◌<◌, Bool, true, false, not, refl, arith, sym, get_or}
use Rattle.std.specs.List.{list_any}
use Rattle.pci_spec.specs.Number.{each_from}
use Rattle.pci_spec.specs.Header.{registers_by, is_in_register}
use Rattle.pci_spec.proofs.Bits.{each_from-at}
use Rattle.pci_image.specs.declared.register.TheConstants.{DEVICE_BYTES, BRIDGE_BYTES}

-- both are true, or neither
abbrev is_same : Bool → Bool → Bool
is_same true b = b
is_same false b = not b

from_same : (a b : Bool) → is_same a b ≡ true → a ≡ b
from_same true true e = refl
from_same true false e = sym e
from_same false true e = e
from_same false false e = refl

abbrev pub is_in : Bool → ℕ → Bool
is_in bridge offset = list_any (is_in_register offset) (registers_by bridge)

abbrev is_right_of_device : ℕ → Bool
is_right_of_device offset = is_same (get_or DEVICE_BYTES offset false) (is_in false offset)

abbrev is_right_of_bridge : ℕ → Bool
is_right_of_bridge offset = is_same (get_or BRIDGE_BYTES offset false) (is_in true offset)

all_of_device : each_from 0 64 is_right_of_device ≡ true
unfolding each_from
all_of_device = refl

all_of_bridge : each_from 0 64 is_right_of_bridge ≡ true
unfolding each_from
all_of_bridge = refl

pub device_bytes : (offset : ℕ) → offset < 64 → get_or DEVICE_BYTES offset false ≡ is_in false offset
device_bytes offset within = from_same _ _ (each_from-at 0 64 is_right_of_device all_of_device offset (omega arith) (omega (arith, within)))

pub bridge_bytes : (offset : ℕ) → offset < 64 → get_or BRIDGE_BYTES offset false ≡ is_in true offset
bridge_bytes offset within = from_same _ _ (each_from-at 0 64 is_right_of_bridge all_of_bridge offset (omega arith) (omega (arith, within)))
