-- What tables tell of windows that grow, and of the places of items in these.
use Rattle.std.proofs.Common.{◌≡◌, ℕ, List, refl, Option, None, Some}
use Rattle.std.specs.Option.{option_map}
use Rattle.settle_spec.specs.FirstPlace.{else_at}
use Rattle.pci_base.specs.declared.range.Range.{Range}
use Rattle.pci_base.specs.declared.window_kind.WindowKind.{WindowKind as Class}
use Rattle.pci_base.specs.declared.window_kind.WindowKind.TheVariants as kinds
use Rattle.pci_base.specs.declared.window_kind.ByKind.{ByKind}
use Rattle.pci_base.specs.Ranges.{decoded_range_of}
use Rattle.pci_base.specs.WindowKinds.{by_kind, kind_value}
use Rattle.pci_first_fit.specs.declared.item.Item.{Item}
use Rattle.pci_first_fit.specs.declared.place.Places.{Places}
use Rattle.pci_first_fit.specs.Tables.{untold}
use Rattle.pci_first_fit.specs.Keeping.{told_of_kind}
use Rattle.pci_settle_places.specs.declared.candidate.Candidate.{Candidate}
use Rattle.pci_settle_places.specs.Columns.{told_place}

pub kind_told : (grown : ByKind (Option Range)) (class : Class) → told_of_kind grown (kind_value class) ≡ by_kind grown class
kind_told grown kinds.Io = refl
kind_told grown kinds.Memory = refl
kind_told grown kinds.Prefetchable = refl

pub grown_is : (grown : ByKind (Option Range)) (class : Class) → option_map decoded_range_of (told_of_kind grown (kind_value class)) ≡ option_map decoded_range_of (by_kind grown class)
grown_is grown kinds.Io = refl
grown_is grown kinds.Memory = refl
grown_is grown kinds.Prefetchable = refl

by_class : (places : List Places) (class : Class) (item : Item) → told_place places untold (record { class = class; item = item }) ≡ None
by_class places kinds.Io item = refl
by_class places kinds.Memory item = refl
by_class places kinds.Prefetchable item = refl

pub nothing_told : (places : List Places) (c : Candidate) → told_place places untold c ≡ None
nothing_told places c = by_class places c.class c.item

pub told_alone : (o : Option ℕ) → else_at o None ≡ o
told_alone None = refl
told_alone (Some a) = refl
