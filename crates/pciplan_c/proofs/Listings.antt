-- The list of faults, or the message of why there is none, as it is put.
use Rattle.std.proofs.Common.{Result, Ok, Err, IfOk, ◌≡◌, ℕ, ◌<◌, ◌≤◌, Bool, true, false, List, [], ◌∷◌, length, refl, ap, sym, subst, ◌∙◌, inl, inr, if◌then◌else◌}
use Rattle.pci_spec.specs.Text.{Block, IsTextOf}
use Rattle.pci_base.specs.declared.memory.Refused.TheVariants as refusals
use Rattle.pci_dump.specs.ReadFault.{IsTextFault}
use Rattle.pci_dump.specs.declared.read_fault.ReadFault.{ReadFault}
use Rattle.pci_tree.specs.Roots.{IsRootList}
use Rattle.pciplan_tasks.specs.Answers.{Answer, answer_of, text_bytes}
use Rattle.pciplan_tasks.specs.FaultsAnswers.{IsFaultsAnswer, list_answer}
use Rattle.pciplan_tasks.specs.declared.reply.Reply.{Reply}
use Rattle.pciplan_tasks.specs.declared.task.Beside.{Beside}
use Rattle.pciplan_c.specs.Puts.{IsPutInto}
use Rattle.pciplan_c.specs.declared.put.Withheld.{Withheld}
use Rattle.pciplan_c.specs.declared.put.Withheld.TheVariants.{Memory, NoRoom}
use Rattle.pciplan_c.specs.declared.refusal.Refusal.TheVariants.{Root, Dump, Probe}
use Rattle.pciplan_c.specs.FaultsWords.{HaveMeaning, IsBadWord, IsNotSaid, IsSaidByFaultsWords, IsWordWant}
use Rattle.pciplan_c.specs.Listings.{AreFaultsListed, IsListing, IsListingTooLong, IsNoListOf, IsWhyNoFaultsListed, IsTextPut, MayWantToList, is_why, listing_of}
use Rattle.pciplan_c.specs.NoLists.{IsListMade, no_list_text}
use Rattle.pciplan_c.specs.declared.faults_words.FaultsWord.{FaultsWord}
use Rattle.pciplan_c.specs.declared.faults_words.FaultsWords.{FaultsWords}
use Rattle.pciplan_c.specs.declared.listing.Listed.{Listed}
use Rattle.pciplan_c.specs.declared.listing.Listing.TheVariants.{Refused}
use Rattle.pciplan_c.specs.declared.no_list.NoList.{NoList}
use Rattle.pciplan_c.specs.declared.no_list.NoList.TheVariants.{BadWord, Unread}

-- ---- the words

pub have_meaning : (roots : List ℕ) (words : FaultsWords) (beside : Beside) → IsSaidByFaultsWords roots words beside → HaveMeaning roots words
have_meaning roots words beside said =
    ((beside.words, said.are_words), (beside.host.io, said.io), (beside.host.mem, said.mem))

-- memory is wanted for a message that is put together
pub list_wants : (roots dump probe : List ℕ) (words : FaultsWords) (why : NoList)
    → IsNoListOf roots dump probe words why → IsListMade why → MayWantToList roots words
list_wants roots dump probe words (BadWord bad) is made = absurd made
list_wants roots dump probe words (Unread Root) is made = absurd made
list_wants roots dump probe words (Unread (Dump fault)) is made = (is.1.0, inr is.0)
list_wants roots dump probe words (Unread (Probe fault)) is made = (is.1.0, inr is.0)

-- ---- what is read, below root buses of which the flags are kept

said_below : (buses roots : List ℕ) (words : FaultsWords) (beside : Beside) → buses ≡ roots → IsSaidByFaultsWords buses words beside → IsSaidByFaultsWords roots words beside
said_below buses roots words beside same said = subst (λ rs. IsSaidByFaultsWords rs words beside) same said

pub bad_word : (buses roots dump probe : List ℕ) (words : FaultsWords) (bad : FaultsWord) → buses ≡ roots → IsRootList roots
    → IsNotSaid buses words (refusals.Fault bad) → IsWhyNoFaultsListed roots dump probe words (refusals.Fault (BadWord bad))
bad_word buses roots dump probe words bad same rising is = (rising, subst (λ rs. IsBadWord rs words bad) same is)

pub word_want : (buses roots dump probe : List ℕ) (words : FaultsWords) → buses ≡ roots → IsRootList roots
    → IsNotSaid buses words refusals.Memory → IsWhyNoFaultsListed roots dump probe words refusals.Memory
word_want buses roots dump probe words same rising is = (rising, inl (subst (λ rs. IsWordWant rs words) same is))

pub text_want : (buses roots dump probe : List ℕ) (words : FaultsWords) (beside : Beside) → buses ≡ roots → IsRootList roots
    → IsSaidByFaultsWords buses words beside → IsWhyNoFaultsListed roots dump probe words refusals.Memory
text_want buses roots dump probe words beside same rising said =
    (rising, inr (have_meaning roots words beside (said_below buses roots words beside same said)))

pub bad_dump : (buses roots dump probe : List ℕ) (words : FaultsWords) (beside : Beside) (fault : ReadFault) → buses ≡ roots → IsRootList roots
    → IsSaidByFaultsWords buses words beside → IsTextFault dump fault → IsWhyNoFaultsListed roots dump probe words (refusals.Fault (Unread (Dump fault)))
bad_dump buses roots dump probe words beside fault same rising said is =
    (have_meaning roots words beside (said_below buses roots words beside same said), (rising, is))

pub bad_probe : (buses roots dump probe : List ℕ) (words : FaultsWords) (beside : Beside) (listed : List Block) (fault : ReadFault) → buses ≡ roots
    → IsRootList roots → IsSaidByFaultsWords buses words beside → IsTextOf dump listed → IsTextFault probe fault
    → IsWhyNoFaultsListed roots dump probe words (refusals.Fault (Unread (Probe fault)))
bad_probe buses roots dump probe words beside listed fault same rising said text is =
    (have_meaning roots words beside (said_below buses roots words beside same said), (rising, (listed, text), is))

pub are_listed : (buses roots dump probe : List ℕ) (words : FaultsWords) (beside : Beside) (why : Bool) (listed read_back : List Block) (answer : Answer)
    → buses ≡ roots → IsRootList roots → IsSaidByFaultsWords buses words beside → IsTextOf dump listed → IsTextOf probe read_back → why ≡ is_why words.why
    → IsFaultsAnswer beside why listed read_back answer → AreFaultsListed roots dump probe words answer
are_listed buses roots dump probe words beside why listed read_back answer same rising said dump_text probe_text asked is = record {
  rising = rising;
  beside = beside;
  said = said_below buses roots words beside same said;
  listed = listed;
  read_back = read_back;
  dump_text = dump_text;
  probe_text = probe_text;
  is = subst (λ w. IsFaultsAnswer beside w listed read_back answer) asked is;
}

-- ---- a list that is put

-- there are no remarks on it
no_remarks : {X : Type 0} (faults : List X) (text : List ℕ) (answer : Answer) → answer ≡ list_answer faults text → answer.remarks ≡ []
no_remarks [] text answer is = ap (λ (a : Answer). a.remarks) is
no_remarks (x ∷ rest) text answer is = ap (λ (a : Answer). a.remarks) is

by_status : (roots dump probe : List ℕ) (words : FaultsWords) (refused : Bool) (text : List ℕ)
    → AreFaultsListed roots dump probe words (record { status = if refused then 1 else 0; text = text; remarks = [] })
    → IsListing roots dump probe words (listing_of refused) text
by_status roots dump probe words false text is = is
by_status roots dump probe words true text is = is

list_is : {A : Type 0} (roots dump probe : List ℕ) (words : FaultsWords) (reply : Reply A)
    → AreFaultsListed roots dump probe words (answer_of reply)
    → IsListing roots dump probe words (listing_of reply.refused) (answer_of reply).text
list_is roots dump probe words reply is =
    let told = is.is.is.means.are in
    by_status roots dump probe words reply.refused (text_bytes reply.text)
    (subst (λ remarks. AreFaultsListed roots dump probe words (record { status = if reply.refused then 1 else 0; text = text_bytes reply.text; remarks = remarks }))
    (no_remarks told.faults told.text (answer_of reply) told.line) is)

pub list_put : {A : Type 0} (roots dump probe : List ℕ) (words : FaultsWords) (reply : Reply A) (old new : List ℕ) (listed : Listed)
    → AreFaultsListed roots dump probe words (answer_of reply) → IsPutInto old new (answer_of reply).text
    → (listed.listing ≡ listing_of reply.refused) × (listed.used ≡ length (answer_of reply).text)
    → IsTextPut (IsListing roots dump probe words listed.listing) old new listed.used
list_put roots dump probe words reply old new listed is put told = record {
  text = (answer_of reply).text;
  is = subst (λ l. IsListing roots dump probe words l (answer_of reply).text) (sym told.0) (list_is roots dump probe words reply is);
  put = put;
  count = told.1;
}

-- where it is put at all
pub list_put_if : {A : Type 0} (roots dump probe : List ℕ) (words : FaultsWords) (reply : Reply A) (old new : List ℕ) (r : Result Listed Withheld)
    → AreFaultsListed roots dump probe words (answer_of reply) → IfOk r (λ _. IsPutInto old new (answer_of reply).text)
    → IfOk r (λ listed. (listed.listing ≡ listing_of reply.refused) × (listed.used ≡ length (answer_of reply).text))
    → IfOk r (λ listed. IsTextPut (IsListing roots dump probe words listed.listing) old new listed.used)
list_put_if roots dump probe words reply old new (Ok listed) is put told = list_put roots dump probe words reply old new listed is put told
list_put_if roots dump probe words reply old new (Err held) is put told = tt

abbrev room_of : Withheld → ℕ
room_of Memory = 0
room_of (NoRoom n) = n

no_message : (refused : Bool) (why : NoList) → listing_of refused ≡ Refused why → ⊥
no_message false why is = cc is
no_message true why is = cc is

pub list_too_long : {A : Type 0} (roots dump probe : List ℕ) (words : FaultsWords) (reply : Reply A) (bytes : List ℕ) (held : Withheld)
    → AreFaultsListed roots dump probe words (answer_of reply)
    → (held ≡ NoRoom (length (answer_of reply).text)) × (length bytes < length (answer_of reply).text)
    → (needed : ℕ) → held ≡ NoRoom needed → IsListingTooLong roots dump probe words bytes needed
list_too_long roots dump probe words reply bytes held is longer needed named =
    let same : needed ≡ length (answer_of reply).text = ap room_of (sym named ∙ longer.0) in
    record {
      listing = listing_of reply.refused;
      text = (answer_of reply).text;
      is = list_is roots dump probe words reply is;
      count = same;
      more = subst (λ n. length bytes < n) (sym same) longer.1;
      short = λ why message. absurd (no_message reply.refused why message);
    }

-- ---- a message that is put

pub message_put : (roots dump probe : List ℕ) (words : FaultsWords) (why : NoList) (old new : List ℕ) (listed : Listed)
    → IsNoListOf roots dump probe words why → IsPutInto old new (no_list_text why)
    → (listed.listing ≡ Refused why) × (listed.used ≡ length (no_list_text why))
    → IsTextPut (IsListing roots dump probe words listed.listing) old new listed.used
message_put roots dump probe words why old new listed is put told = record {
  text = no_list_text why;
  is = subst (λ l. IsListing roots dump probe words l (no_list_text why)) (sym told.0) (is, refl);
  put = put;
  count = told.1;
}

pub message_too_long : (roots dump probe : List ℕ) (words : FaultsWords) (why : NoList) (bytes : List ℕ) (needed : ℕ)
    → IsNoListOf roots dump probe words why → length (no_list_text why) ≤ 96
    → (needed ≡ length (no_list_text why)) × (length bytes < needed)
    → IsListingTooLong roots dump probe words bytes needed
message_too_long roots dump probe words why bytes needed is few longer = record {
  listing = Refused why;
  text = no_list_text why;
  is = (is, refl);
  count = longer.0;
  more = longer.1;
  short = λ other same. subst (λ n. n ≤ 96) (sym longer.0) few;
}
