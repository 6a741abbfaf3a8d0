-- How many accesses may be made behind root bus 0.
use Rattle.std.proofs.Common.{◌≡◌, refl}
use Rattle.pci_number.specs.Accesses.{most_accesses}

no_number : most_accesses 0 0 ≡ 3840
no_number = refl

ten_numbers : most_accesses 0 10 ≡ 44330
ten_numbers = refl

all_numbers : most_accesses 0 255 ≡ 1036335
all_numbers = refl
