-- Where nothing is wished, an empty table tells it, and the dump is the same with what is wished and without.
use Rattle.std.proofs.Common.{◌≡◌, [], refl, sym, ◌∙◌, ap, None}
use Rattle.std.specs.Option.{option_map}
use Rattle.pci_spec.specs.Window.{WindowKind, IoWindow, MemoryWindow, PrefetchWindow}
use Rattle.pci_spec.specs.System.{System}
use Rattle.settle_spec.specs.Stands.{window_part}
use Rattle.settle_spec.specs.Kept.{Kept, unwished}
use Rattle.settle_laws.specs.KeptLaws.{WishesNothing}
use Rattle.pci_base.specs.Ranges.{decoded_range_of}
use Rattle.pci_first_fit.specs.Keeping.{told_of_kind}
use Rattle.pci_first_fit.specs.Tables.{untold}
use Rattle.pci_settle.specs.Wished.{TellsWishes}

pub is_unwished : (k : Kept) → WishesNothing k → unwished k ≡ k
is_unwished k none = ap (λ w. record k { wished = w }) (sym none)

none_told : (c : WindowKind) → option_map decoded_range_of (told_of_kind untold c) ≡ None
none_told IoWindow = refl
none_told MemoryWindow = refl
none_told PrefetchWindow = refl

pub tells_nothing : (s : System) (k : Kept) → WishesNothing k → TellsWishes s k []
tells_nothing s k none = record {
  each = λ n f c at. ap (λ w. w (window_part c f)) none ∙ sym (none_told c);
  others = λ f p listed there other. ap (λ w. w record { function = f; part = p }) none;
}
