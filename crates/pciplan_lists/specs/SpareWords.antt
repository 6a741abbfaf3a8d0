-- The word of `--spare`: how many addresses of each class are wanted behind a hot-plug slot.
use Rattle.std.specs.Prelude.{◌≡◌, ◌≢◌, ℕ, zero, suc, List, [], ◌∷◌, ◌++◌, Option}
use Rattle.std.specs.Borrow.{Bor}
use Rattle.pci_spec.specs.Window.{WindowKind, IoWindow, MemoryWindow, PrefetchWindow}
use Rattle.pci_spec.specs.Line.{window_name}
use Rattle.pci_base.specs.declared.window_kind.ByKind.{ByKind}
use Rattle.pciplan_lists.specs.PoolWords.{IsAddressWord}
use Rattle.pciplan_lists.specs.Joined.{AreJoined, rest_with_comma}

-- so many addresses of a class, not 0
pub record Wanted : Type 0 where
  pub class : WindowKind
  pub before : ℕ

abbrev pub wanted_size : Wanted → ℕ
wanted_size w = suc w.before

-- such as `mem:200000`: a class, a colon, and the number in 1 to 16 lower-case hex digits
pub record IsWantedWord (word : List ℕ) (w : Wanted) : Type 0 where
  pub digits : List ℕ
  pub text : word ≡ window_name w.class ++ 58 ∷ digits
  pub size : IsAddressWord digits (wanted_size w)

-- what is said of a class: nothing where none are wanted
abbrev pub said_of : WindowKind → ℕ → List Wanted
said_of c zero = []
said_of c (suc n) = record { class = c; before = n } ∷ []

-- I/O first, then memory, then prefetchable memory
abbrev pub said : ByKind ℕ → List Wanted
said sizes =
    said_of IoWindow sizes.io ++ (said_of MemoryWindow sizes.memory ++ said_of PrefetchWindow sizes.prefetchable)

-- one to three of them joined by commas: with a comma before the first too, each has one
abbrev pub IsSpareWord : List ℕ → ByKind ℕ → Type 0
IsSpareWord word sizes = AreJoined IsWantedWord (44 ∷ word) (said sizes)

-- ---- part by part

-- what stands behind the name of a class and a colon
abbrev pub IsDigitsOf : List ℕ → WindowKind → List ℕ → Type 0
IsDigitsOf word c digits = word ≡ window_name c ++ 58 ∷ digits

-- the first one is of another class, if there is any
abbrev pub StartsOtherwise : WindowKind → List Wanted → Type 0
StartsOtherwise c [] = Unit {0}
StartsOtherwise c (w ∷ more) = w.class ≢ c

-- the first part of what is left says a number of a class, 0 where it says none, and the rest is left
pub record HasFirst (left : Option (Bor (List ℕ))) (c : WindowKind) (size : ℕ) (rest : Option (Bor (List ℕ))) : Type 0 where
  pub on : (more : List Wanted) → AreJoined IsWantedWord (rest_with_comma rest) more → AreJoined IsWantedWord (rest_with_comma left) (said_of c size ++ more)
  pub back : (n : ℕ) (more : List Wanted) → StartsOtherwise c more → AreJoined IsWantedWord (rest_with_comma left) (said_of c n ++ more)
      → (n ≡ size) × AreJoined IsWantedWord (rest_with_comma rest) more

-- it says no number of the class, and nothing else
abbrev pub HasNoFirst : Option (Bor (List ℕ)) → WindowKind → Type 0
HasNoFirst left c = (n : ℕ) (more : List Wanted) → StartsOtherwise c more → AreJoined IsWantedWord (rest_with_comma left) (said_of c n ++ more) → ⊥
