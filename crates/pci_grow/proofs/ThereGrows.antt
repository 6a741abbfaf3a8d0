-- What tables tell to be there tells what each window that takes comes to.
use Rattle.std.proofs.Common.{◌≡◌, ℕ, inl, inr, cond, ap, sym, ◌∙◌, Some, None}
use Rattle.std.specs.List.{Contains, slice_get}
use Rattle.std.specs.Option.{option_map}
use Rattle.std.proofs.lemmas.Bool.{cases_Bool, both_ways, false_from_ne_true}
use Rattle.std.proofs.lemmas.Option.{slice_get_within, get_or_from_slice_get}
use Rattle.pci_spec.specs.System.{System, Function, IsSystem}
use Rattle.pci_spec.specs.Bus.{IsNested}
use Rattle.settle_spec.specs.Lists.{Request}
use Rattle.settle_spec.specs.Parts.{FunctionPart}
use Rattle.settle_spec.specs.Stands.{window_part, stands}
use Rattle.settle_spec.specs.Growth.{comes_to, takes_growth}
use Rattle.settle_laws.proofs.GrowingKept.{takes_stands}
use Rattle.settle_laws.proofs.Standing.{in_header, window_listed, stands_by_itself}
use Rattle.pci_base.specs.declared.window_kind.WindowKind.{WindowKind as CodeKind}
use Rattle.pci_base.specs.Ranges.{decoded_range_of}
use Rattle.pci_base.specs.WindowKinds.{kind_value}
use Rattle.pci_place.specs.Items.{no_function}
use Rattle.pci_first_fit.specs.declared.kept.Part.TheVariants as parts
use Rattle.pci_grow.specs.Growing.{AreComing, ArePlacedThere}
use Rattle.pci_first_fit.specs.Tables.{told}
use Rattle.pci_grow.specs.There.{Tables, grown_told}
use Rattle.pci_grow.specs.Telling.{AreThere}
use Rattle.pci_grow.proofs.Told.{grown_at}

module _ (q : Request) (s : System) (system : IsSystem s) (nested : IsNested q.roots s) (t : Tables) (are : AreThere q s t) where
  module _ (k : ℕ) (f : Function) (class : CodeKind) (at : slice_get s k ≡ Some f) where
    abbrev w : FunctionPart
    w = window_part (kind_value class) f

    listed : Contains s f
    listed = (k, slice_get_within s k f at, get_or_from_slice_get s k f f at)

    -- what the tables tell of the window
    of_window : grown_told s t w ≡ option_map decoded_range_of (told t.grown k class)
    of_window =
        ap (λ (g : Function). grown_told s t (window_part (kind_value class) g)) (sym (get_or_from_slice_get s k f no_function at))
        ∙ grown_at s system t k (parts.Window class) (slice_get_within s k f at)

    each_comes : option_map decoded_range_of (told t.grown k class) ≡ cond (takes_growth q s w) (comes_to q s w) None
    each_comes = sym of_window ∙ elim (cases_Bool (stands q s w)) [
      | inl stand ↦ (are.each w (window_listed q s (kind_value class) f listed ((stands_by_itself q s nested).only w listed stand))).grown_is
      | inr off ↦
          (are.off w listed (in_header q s f (kind_value class)) off).grown_is
          ∙ sym (ap (λ b. cond b (comes_to q s w) None) (false_from_ne_true (takes_growth q s w) (λ is. both_ways (stands q s w) off (takes_stands q s w is))))
    ]

  pub coming_there : AreComing q s (takes_growth q s) t.grown
  coming_there = record { count = are.grown; each = each_comes }

  pub placed_there : ArePlacedThere q s t.places
  placed_there = record { count = are.places; each = are.around }
