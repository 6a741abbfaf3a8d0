-- Tables in which no part gets a place.
use Rattle.std.proofs.Common.{◌≡◌, ℕ, List, [], ◌∷◌, ◌++◌, get_or, subst, sym, replicate, refl, inl, inr, None, Option}
use Rattle.std.proofs.lemmas.Bool.{cases_lt}
use Rattle.std.proofs.lemmas.List.{get_or-replicate, get_or_past}
use Rattle.std.proofs.lemmas.List.Elements.{All-nil, All-cons, All-append}
use Rattle.pci_spec.specs.Window.{IoWindow, MemoryWindow, PrefetchWindow}
use Rattle.pci_spec.specs.System.{Part, Bar, Rom, Window}
use Rattle.pci_first_fit.specs.declared.place.Places.{Places}
use Rattle.pci_first_fit.specs.PlaceTables.{part_place, ArePlaceless}

abbrev pub none_placed : Places
none_placed = record {
  bars = replicate 6 None;
  rom = None;
  windows = record { io = None; memory = None; prefetchable = None };
}

six_none : (n : ℕ) → get_or {A = Option ℕ} (replicate 6 None) n None ≡ None
six_none n = elim (cases_lt n 6) [ inl low ↦ get_or-replicate 6 n None None low | inr high ↦ get_or_past (replicate 6 None) n None high ]

no_part : (p : Part) → part_place none_placed p ≡ None
no_part (Bar n) = six_none n
no_part Rom = refl
no_part (Window IoWindow) = refl
no_part (Window MemoryWindow) = refl
no_part (Window PrefetchWindow) = refl

pub placeless_first : (table : List Places) → table ≡ [] → ArePlaceless table
placeless_first table none = subst ArePlaceless (sym none) (All-nil (λ t. (part : Part) → part_place t part ≡ None))

pub placeless_more : (old new : List Places) → ArePlaceless old → new ≡ old ++ none_placed ∷ [] → ArePlaceless new
placeless_more old new none put =
    subst ArePlaceless (sym put)
    (All-append (λ t. (part : Part) → part_place t part ≡ None) old (none_placed ∷ []) none
    (All-cons (λ t. (part : Part) → part_place t part ≡ None) none_placed [] no_part (All-nil (λ t. (part : Part) → part_place t part ≡ None))))
