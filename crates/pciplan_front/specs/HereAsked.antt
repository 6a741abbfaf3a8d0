-- What the words of `here` ask for.
use Rattle.std.specs.Prelude.{◌≡◌, ◌⊎◌, ℕ, List, Option, None, Some, String, codes, string_bytes}
use Rattle.std.specs.Borrow.{Bor}
use Rattle.std.specs.Global.{Global}
use Rattle.pci_here.specs.Place.{IsDomainWord}
use Rattle.pciplan_words.specs.FurtherWords.{IsFurther, IsNoFurther}
use Rattle.pciplan_words.specs.declared.further.Further.{Further}
use Rattle.pciplan_words.specs.declared.further.Further.TheVariants as further
use Rattle.pciplan_words.specs.declared.further.HereWords.{HereWords}
use Rattle.pciplan_front.specs.declared.here_asked.HereAsked.{HereAsked}
use Rattle.pciplan_front.specs.declared.here_asked.What.{What}
use Rattle.pciplan_front.specs.declared.here_asked.What.TheVariants.{Faults, Map, Dump, Probe, Words}

-- the word that asks for it
abbrev pub what_text : What → List ℕ
what_text Faults = codes "faults"
what_text Map = codes "map"
what_text Dump = codes "dump"
what_text Probe = codes "probe"
what_text Words = codes "words"

-- all faults where there is no word
abbrev pub IsWhatOf : Option (Bor (List ℕ)) → What → Type 0
IsWhatOf None what = what ≡ Faults
IsWhatOf (Some word) what = word.now ≡ what_text what

-- every domain where there is no word
abbrev pub IsDomainOf : Option (Bor (List ℕ)) → Option ℕ → Type 0
IsDomainOf None domain = domain ≡ None
IsDomainOf (Some word) None = ⊥
IsDomainOf (Some word) (Some domain) = IsDomainWord word.now domain

-- the folder of `sys` and `proc`: the root folder where there is no word
abbrev pub folder_of : Option (Bor (List ℕ)) → List ℕ
folder_of None = codes "/"
folder_of (Some word) = word.now

-- the path of a file, where there is a word
abbrev pub IsPathOf : Option (Bor (List ℕ)) → Option (String Global) → Type 0
IsPathOf None path = path ≡ None
IsPathOf (Some word) None = ⊥
IsPathOf (Some word) (Some path) = string_bytes path ≡ word.now

-- what these words of `here` say
pub record IsSaidBy (words : HereWords) (asked : HereAsked) : Type 0 where
  pub what : IsWhatOf words.what asked.what
  pub domain : IsDomainOf words.domain asked.domain
  pub folder : string_bytes asked.folder ≡ folder_of words.from
  pub log : IsPathOf words.log asked.log

pub record IsHereAsked (words : List (List ℕ)) (asked : HereAsked) : Type 0 where
  pub said : HereWords
  pub given : IsFurther words (further.Here said)
  pub is : IsSaidBy said asked

-- nothing is asked for by the word, or the domain is none
abbrev pub SayNothing : HereWords → Type 0
SayNothing words =
    ((what : What) → IsWhatOf words.what what → ⊥)
    ⊎ ((domain : Option ℕ) → IsDomainOf words.domain domain → ⊥)

-- it is another command
abbrev pub IsOtherCommand : Further → Type 0
IsOtherCommand (further.Here words) = ⊥
IsOtherCommand asked = Unit {0}

-- the words are no command line, are those of another command, or one of them says nothing
abbrev pub AskForNothing : List (List ℕ) → Type 0
AskForNothing words =
    IsNoFurther words
    ⊎ ((asked : Further) × IsFurther words asked × IsOtherCommand asked)
    ⊎ ((said : HereWords) × IsFurther words (further.Here said) × SayNothing said)
