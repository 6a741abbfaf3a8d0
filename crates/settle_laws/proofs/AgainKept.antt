-- The class of a BAR of memory, by tests of it.
use Rattle.std.proofs.Common.{◌≡◌, Bool, true, false, refl}
use Rattle.pci_spec.specs.Window.{WindowKind}
use Rattle.settle_laws.proofs.PartClasses.{by_tests}

pub tests_same : (io prefetchable : Bool) (x y : WindowKind) → (io ≡ false → prefetchable ≡ true → x ≡ y) → by_tests io prefetchable x ≡ by_tests io prefetchable y
tests_same true prefetchable x y same = refl
tests_same false true x y same = same refl refl
tests_same false false x y same = refl
