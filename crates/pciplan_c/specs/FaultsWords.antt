-- What words of C say that is given beside two texts whose faults are to be listed.
use Rattle.std.specs.Prelude.{◌≡◌, ◌⊎◌, ℕ, List, [], ◌∷◌, Option, None, Some, codes}
use Rattle.std.specs.Global.{Vec}
use Rattle.judge_spec.specs.ModelWords as model
use Rattle.pci_base.specs.declared.memory.Refused.{Refused}
use Rattle.pci_base.specs.declared.memory.Refused.TheVariants as refused
use Rattle.pci_base.specs.declared.range.RootRange.{RootRange}
use Rattle.pci_model.specs.WordsValue.{words_value}
use Rattle.pci_model.specs.declared.words.Words.{Words}
use Rattle.pci_tree.specs.Roots.{buses_of}
use Rattle.pciplan_lists.specs.HostLists.{IsGoodHostList}
use Rattle.pciplan_lists.specs.ListWords.{HasListedRanges, IsListWord}
use Rattle.pciplan_lists.specs.ModelWords.{IsModelWord}
use Rattle.pciplan_tasks.specs.declared.task.Also.TheVariants.{Told}
use Rattle.pciplan_tasks.specs.declared.task.Beside.{Beside}
use Rattle.pciplan_c.specs.declared.faults_words.FaultsWord.{FaultsWord}
use Rattle.pciplan_c.specs.declared.faults_words.FaultsWord.TheVariants.{Model, HostIo, HostMem}
use Rattle.pciplan_c.specs.declared.faults_words.FaultsWords.{FaultsWords}

-- the message of a word without a meaning
abbrev pub faults_word_text : FaultsWord → List ℕ
faults_word_text Model = codes "model"
faults_word_text HostIo = codes "host io"
faults_word_text HostMem = codes "host mem"

-- ---- a word of no byte isn't said

-- the words by which functions are taken
abbrev pub AreWordsBy : List ℕ → Option Words → Type 0
AreWordsBy [] words = words ≡ None
AreWordsBy (byte ∷ more) None = ⊥
AreWordsBy (byte ∷ more) (Some words) = IsModelWord (byte ∷ more) (words_value words)

-- the ranges that the host sends, which it can send to these roots
abbrev pub AreRangesBy : List ℕ → List ℕ → Option (Vec RootRange) → Type 0
AreRangesBy [] roots ranges = ranges ≡ None
AreRangesBy (byte ∷ more) roots None = ⊥
AreRangesBy (byte ∷ more) roots (Some list) =
    IsListWord (byte ∷ more) list.items × IsGoodHostList roots list.items

-- below these roots the words say this; no third text is read
pub record IsSaidByFaultsWords (roots : List ℕ) (words : FaultsWords) (said : Beside) : Type 0 where
  pub are_roots : buses_of said.roots ≡ roots
  pub are_words : AreWordsBy words.model.now said.words
  pub io : AreRangesBy words.host_io.now roots said.host.io
  pub mem : AreRangesBy words.host_mem.now roots said.host.mem
  pub also : said.also ≡ Told []

-- ---- the first word that has no meaning

abbrev pub HasNoModelWords : List ℕ → Type 0
HasNoModelWords [] = ⊥
HasNoModelWords (byte ∷ more) = (words : model.Words) → IsModelWord (byte ∷ more) words → ⊥

abbrev pub HasNoHostRanges : List ℕ → List ℕ → Type 0
HasNoHostRanges [] roots = ⊥
HasNoHostRanges (byte ∷ more) roots =
    (list : List RootRange) → IsListWord (byte ∷ more) list → IsGoodHostList roots list → ⊥

abbrev pub HasWords : List ℕ → Type 0
HasWords word = (words : Option Words) × AreWordsBy word words

abbrev pub HasHostRanges : List ℕ → List ℕ → Type 0
HasHostRanges word roots = (ranges : Option (Vec RootRange)) × AreRangesBy word roots ranges

-- they are looked at in this order
abbrev pub IsBadWord : List ℕ → FaultsWords → FaultsWord → Type 0
IsBadWord roots words Model = HasNoModelWords words.model.now
IsBadWord roots words HostIo = HasWords words.model.now × HasNoHostRanges words.host_io.now roots
IsBadWord roots words HostMem =
    HasWords words.model.now × HasHostRanges words.host_io.now roots
    × HasNoHostRanges words.host_mem.now roots

-- all words have a meaning
abbrev pub HaveMeaning : List ℕ → FaultsWords → Type 0
HaveMeaning roots words =
    HasWords words.model.now × HasHostRanges words.host_io.now roots
    × HasHostRanges words.host_mem.now roots

-- ---- what is read of them

-- a list has no meaning, or a growth was refused for its ranges
abbrev pub IsNoRanges : FaultsWord → List ℕ → List ℕ → Refused FaultsWord → Type 0
IsNoRanges named word roots (refused.Fault bad) = (bad ≡ named) × HasNoHostRanges word roots
IsNoRanges named word roots refused.Memory = HasListedRanges word

-- a growth was refused for what a word spells: those before it have a meaning
abbrev pub IsWordWant : List ℕ → FaultsWords → Type 0
IsWordWant roots words =
    HasWords words.model.now
    × (HasListedRanges words.host_io.now
    ⊎ (HasHostRanges words.host_io.now roots × HasListedRanges words.host_mem.now))

abbrev pub IsNotSaid : List ℕ → FaultsWords → Refused FaultsWord → Type 0
IsNotSaid roots words (refused.Fault bad) = IsBadWord roots words bad
IsNotSaid roots words refused.Memory = IsWordWant roots words
