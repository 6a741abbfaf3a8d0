-- What is answered where all faults of two texts are to be listed.
use Rattle.std.specs.Prelude.{◌≡◌, ◌<◌, ◌≤◌, ◌⊎◌, ℕ, ◌==◌, Bool, true, false, not, List, length}
use Rattle.pci_spec.specs.Text.{Block, IsTextOf}
use Rattle.pci_tree.specs.Roots.{IsRootList}
use Rattle.pciplan_tasks.specs.Answers.{Answer, done, refused}
use Rattle.pciplan_tasks.specs.FaultsAnswers.{IsFaultsAnswer}
use Rattle.pciplan_tasks.specs.declared.task.Beside.{Beside}
use Rattle.pciplan_c.specs.Puts.{IsPutInto}
use Rattle.pciplan_c.specs.Refusals.{IsHeldRefusal}
use Rattle.pciplan_c.specs.declared.refusal.Refusal.{Refusal}
use Rattle.pciplan_c.specs.declared.refusal.Refusal.TheVariants.{Root}
use Rattle.pci_base.specs.declared.memory.Refused.{Refused as RefusedOf}
use Rattle.pci_base.specs.declared.memory.Refused.TheVariants as refusals
use Rattle.pciplan_c.specs.FaultsWords.{HaveMeaning, IsBadWord, IsSaidByFaultsWords, IsWordWant}
use Rattle.pciplan_c.specs.NoLists.{no_list_text}
use Rattle.pciplan_c.specs.declared.faults_words.FaultsWords.{FaultsWords}
use Rattle.pciplan_c.specs.declared.listing.Listing.{Listing}
use Rattle.pciplan_c.specs.declared.listing.Listing.TheVariants.{Sound, Faults, Refused}
use Rattle.pciplan_c.specs.declared.no_list.NoList.{NoList}
use Rattle.pciplan_c.specs.declared.no_list.NoList.TheVariants.{BadWord, Unread}

-- whether reasons are told
abbrev pub is_why : ℕ → Bool
is_why why = not (why == 0)

-- `faults` answers this to the two texts, with what the words say beside them
pub record AreFaultsListed (roots dump probe : List ℕ) (words : FaultsWords)
    (answer : Answer) : Type 0 where
  pub rising : IsRootList roots
  pub beside : Beside
  pub said : IsSaidByFaultsWords roots words beside
  pub listed : List Block
  pub read_back : List Block
  pub dump_text : IsTextOf dump listed
  pub probe_text : IsTextOf probe read_back
  pub is : IsFaultsAnswer beside (is_why words.why) listed read_back answer

-- the list of root buses is looked at before the words, and these before the texts
abbrev pub IsRefusedBehind : List ℕ → List ℕ → List ℕ → FaultsWords → Refusal → Type 0
IsRefusedBehind roots dump probe words Root = IsHeldRefusal roots dump probe Root
IsRefusedBehind roots dump probe words other =
    HaveMeaning roots words × IsHeldRefusal roots dump probe other

-- why there is no list
abbrev pub IsNoListOf : List ℕ → List ℕ → List ℕ → FaultsWords → NoList → Type 0
IsNoListOf roots dump probe words (BadWord bad) = IsRootList roots × IsBadWord roots words bad
IsNoListOf roots dump probe words (Unread refusal) =
    IsRefusedBehind roots dump probe words refusal

-- what is answered, with its text: the list that `faults` prints at status 0 or 1, or the message
abbrev pub IsListing : List ℕ → List ℕ → List ℕ → FaultsWords → Listing → List ℕ → Type 0
IsListing roots dump probe words Sound text = AreFaultsListed roots dump probe words (done text)
IsListing roots dump probe words Faults text = AreFaultsListed roots dump probe words (refused text)
IsListing roots dump probe words (Refused why) text =
    IsNoListOf roots dump probe words why × (text ≡ no_list_text why)

abbrev pub listing_of : Bool → Listing
listing_of false = Sound
listing_of true = Faults

-- a text that is so stands at the front of the bytes
pub record IsTextPut (IsSo : List ℕ → Type 0) (old new : List ℕ) (used : ℕ) : Type 0 where
  pub text : List ℕ
  pub is : IsSo text
  pub put : IsPutInto old new text
  pub count : used ≡ length text

-- there is an answer, whose text needs so many bytes: more than there are. A message needs 96 at most.
pub record IsListingTooLong (roots dump probe : List ℕ) (words : FaultsWords) (bytes : List ℕ)
    (needed : ℕ) : Type 0 where
  pub listing : Listing
  pub text : List ℕ
  pub is : IsListing roots dump probe words listing text
  pub count : needed ≡ length text
  pub more : length bytes < needed
  pub short : (why : NoList) → listing ≡ Refused why → needed ≤ 96

-- where memory may be wanted: the root list is one, and what a word spells takes memory or all words have a meaning
abbrev pub MayWantToList : List ℕ → FaultsWords → Type 0
MayWantToList roots words = IsRootList roots × (IsWordWant roots words ⊎ HaveMeaning roots words)

-- why nothing is listed
abbrev pub IsWhyNoFaultsListed : List ℕ → List ℕ → List ℕ → FaultsWords → RefusedOf NoList → Type 0
IsWhyNoFaultsListed roots dump probe words (refusals.Fault why) = IsNoListOf roots dump probe words why
IsWhyNoFaultsListed roots dump probe words refusals.Memory = MayWantToList roots words
