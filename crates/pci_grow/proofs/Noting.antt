-- What a window has come to is noted in slices of tables.
use Rattle.std.proofs.Common.{◌≡◌, ℕ, List, length, get_or, Option, Some, true, ap, ◌∙◌}
use Rattle.pci_spec.specs.System.{Part, Window}
use Rattle.pci_base.specs.declared.range.Range.{Range}
use Rattle.pci_base.specs.declared.window_kind.WindowKind.{WindowKind as CodeKind}
use Rattle.pci_base.specs.declared.window_kind.ByKind.{ByKind}
use Rattle.pci_base.specs.WindowKinds.{kind_value}
use Rattle.pci_first_fit.specs.declared.kept.Kept.{Kept}
use Rattle.pci_first_fit.specs.Kept.{kept_of, nothing_kept}
use Rattle.pci_first_fit.specs.declared.place.Places.{Places}
use Rattle.pci_first_fit.specs.Tables.{told, TellsSame}
use Rattle.pci_grow.specs.There.{Tables}
use Rattle.pci_grow.specs.Telling.{IsWindowNoted}

-- of other parts a table tells the same to be kept
abbrev pub KeepsSame : List Kept → List Kept → ℕ → Part → Type 0
KeepsSame old new k noted =
    (j : ℕ) (part : Part) → ((j ≡ k) → (part ≡ noted) → ⊥)
    → kept_of (get_or new j nothing_kept) part ≡ kept_of (get_or old j nothing_kept) part

pub noted_from : (old : Tables) (k : ℕ) (class : CodeKind) (range : Range) (kept_from kept_to kept : List Kept) (grown_from grown_to grown : List (ByKind (Option Range))) (places_from places_to places : List Places)
    → kept_from ≡ old.kept → kept ≡ kept_to → length kept_to ≡ length kept_from → kept_of (get_or kept_to k nothing_kept) (Window (kind_value class)) ≡ true → KeepsSame kept_from kept_to k (Window (kind_value class))
    → grown_from ≡ old.grown → grown ≡ grown_to → length grown_to ≡ length grown_from → told grown_to k class ≡ Some range → TellsSame grown_from grown_to k class
    → places_from ≡ old.places → places ≡ places_to → length places_to ≡ length places_from
    → IsWindowNoted old (record { kept = kept; grown = grown; places = places }) k class range
noted_from old k class range kept_from kept_to kept grown_from grown_to grown places_from places_to places from_kept to_kept size_kept on same_kept from_grown to_grown size_grown tells same_grown from_places to_places size_places = record {
  kept_size = ap length to_kept ∙ size_kept ∙ ap length from_kept;
  grown_size = ap length to_grown ∙ size_grown ∙ ap length from_grown;
  places_size = ap length to_places ∙ size_places ∙ ap length from_places;
  grown = ap (λ (xs : List (ByKind (Option Range))). told xs k class) to_grown ∙ tells;
  other_grown = λ j other never.
      ap (λ (xs : List (ByKind (Option Range))). told xs j other) to_grown ∙ same_grown j other never ∙ ap (λ (xs : List (ByKind (Option Range))). told xs j other) from_grown;
  kept = ap (λ xs. kept_of (get_or xs k nothing_kept) (Window (kind_value class))) to_kept ∙ on;
  other_kept = λ j part never.
      ap (λ xs. kept_of (get_or xs j nothing_kept) part) to_kept ∙ same_kept j part never ∙ ap (λ xs. kept_of (get_or xs j nothing_kept) part) from_kept;
}
