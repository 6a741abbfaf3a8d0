-- What the words of options say.
use Rattle.std.specs.Prelude.{◌≡◌, ◌⊎◌, ℕ, ◌∷◌, [], List, Option, None, Some}
use Rattle.std.specs.Borrow.{Bor}
use Rattle.std.specs.Global.{Vec}
use Rattle.judge_spec.specs.ModelWords as model
use Rattle.pci_base.specs.declared.range.RootRange.{RootRange}
use Rattle.pci_base.specs.declared.space.Space.{Space}
use Rattle.pci_model.specs.declared.words.Words.{Words}
use Rattle.pci_model.specs.WordsValue.{words_value}
use Rattle.pci_tree.specs.Roots.{buses_of}
use Rattle.pci_tree.specs.declared.roots.Roots.{Roots}
use Rattle.pciplan_lists.specs.ListWords.{HasListedRanges, IsListWord}
use Rattle.pciplan_lists.specs.HostLists.{IsGoodHostList}
use Rattle.pciplan_lists.specs.ModelWords.{IsModelWord}
use Rattle.pciplan_cli.specs.RootWords.{IsRootWord}
use Rattle.pciplan_tasks.specs.declared.failure.Failure.{Failure}
use Rattle.pciplan_tasks.specs.declared.failure.Failure.TheVariants.{Host, Memory}

-- the roots of the word of `--root`: bus 00 alone where there is none
abbrev pub AreRootsOf : Option (Bor (List ℕ)) → Roots → Type 0
AreRootsOf None roots = buses_of roots ≡ 0 ∷ []
AreRootsOf (Some word) roots = IsRootWord word.now (buses_of roots)

abbrev pub HasNoRoots : Option (Bor (List ℕ)) → Type 0
HasNoRoots None = ⊥
HasNoRoots (Some word) = (buses : List ℕ) → IsRootWord word.now buses → ⊥

-- the words of the list of `--model`: none where there is no list
abbrev pub AreWordsOf : Option (Bor (List ℕ)) → Option Words → Type 0
AreWordsOf None words = words ≡ None
AreWordsOf (Some list) None = ⊥
AreWordsOf (Some list) (Some words) = IsModelWord list.now (words_value words)

abbrev pub HasNoWords : Option (Bor (List ℕ)) → Type 0
HasNoWords None = ⊥
HasNoWords (Some list) = (words : model.Words) → IsModelWord list.now words → ⊥

-- the ranges of the list of what the host sends, which it can send to these roots: none are said where there is no list
abbrev pub AreOptionRanges : Option (Bor (List ℕ)) → List ℕ → Option (Vec RootRange) → Type 0
AreOptionRanges None roots ranges = ranges ≡ None
AreOptionRanges (Some word) roots None = ⊥
AreOptionRanges (Some word) roots (Some list) =
    IsListWord word.now list.items × IsGoodHostList roots list.items

abbrev pub HasNoRanges : Option (Bor (List ℕ)) → List ℕ → Type 0
HasNoRanges None roots = ⊥
HasNoRanges (Some word) roots =
    (list : List RootRange) → IsListWord word.now list → IsGoodHostList roots list → ⊥

-- the word is a list with ranges, for which memory is asked
abbrev pub SpellsRanges : Option (Bor (List ℕ)) → Type 0
SpellsRanges None = ⊥
SpellsRanges (Some word) = HasListedRanges word.now

-- why there are no ranges: the word is no such list, or a growth was refused for the ranges that it spells
abbrev pub IsNoListFor : Option (Bor (List ℕ)) → List ℕ → Space → Failure → Type 0
IsNoListFor word roots space failure =
    ((failure ≡ Memory) × SpellsRanges word)
    ⊎ ((failure ≡ Host space) × HasNoRanges word roots)
