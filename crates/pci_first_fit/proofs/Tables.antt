-- Tables in which nothing keeps its place.
use Rattle.std.proofs.Common.{◌≡◌, ℕ, List, [], ◌∷◌, ◌++◌, false, get_or, subst, sym, ◌∙◌, replicate, refl, inl, inr}
use Rattle.std.proofs.lemmas.Bool.{cases_lt}
use Rattle.std.proofs.lemmas.List.{get_or-replicate, get_or_past}
use Rattle.std.proofs.lemmas.List.Elements.{All-nil, All-cons, All-append}
use Rattle.pci_spec.specs.Window.{IoWindow, MemoryWindow, PrefetchWindow}
use Rattle.pci_spec.specs.System.{Part, Bar, Rom, Window}
use Rattle.pci_first_fit.specs.declared.kept.Kept.{Kept}
use Rattle.pci_first_fit.specs.Kept.{kept_of, nothing_kept, AreNone}

abbrev pub nothing_at_all : Kept
nothing_at_all = record {
  bars = replicate 6 false;
  rom = false;
  windows = record { io = false; memory = false; prefetchable = false };
}

six_none : (n : ℕ) → get_or (replicate 6 false) n false ≡ false
six_none n = elim (cases_lt n 6) [ inl low ↦ get_or-replicate 6 n false false low | inr high ↦ get_or_past (replicate 6 false) n false high ]

no_part : (p : Part) → kept_of nothing_at_all p ≡ false
no_part (Bar n) = six_none n
no_part Rom = refl
no_part (Window IoWindow) = refl
no_part (Window MemoryWindow) = refl
no_part (Window PrefetchWindow) = refl

-- a function without an entry keeps nothing
pub none_noted : (p : Part) → kept_of nothing_kept p ≡ false
none_noted (Bar n) = refl
none_noted Rom = refl
none_noted (Window IoWindow) = refl
none_noted (Window MemoryWindow) = refl
none_noted (Window PrefetchWindow) = refl

-- and neither does one of which nothing is noted
pub none_at_all : (p : Part) → kept_of nothing_at_all p ≡ kept_of nothing_kept p
none_at_all p = no_part p ∙ sym (none_noted p)

pub none_first : (table : List Kept) → table ≡ [] → AreNone table
none_first table none = subst AreNone (sym none) (All-nil (λ t. (part : Part) → kept_of t part ≡ false))

pub none_more : (old new : List Kept) → AreNone old → new ≡ old ++ nothing_at_all ∷ [] → AreNone new
none_more old new none put =
    subst AreNone (sym put)
    (All-append (λ t. (part : Part) → kept_of t part ≡ false) old (nothing_at_all ∷ []) none
    (All-cons (λ t. (part : Part) → kept_of t part ≡ false) nothing_at_all [] no_part (All-nil (λ t. (part : Part) → kept_of t part ≡ false))))
