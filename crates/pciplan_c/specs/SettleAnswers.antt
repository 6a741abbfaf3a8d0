-- What is answered where two texts are to be settled.
use Rattle.std.specs.Prelude.{◌≡◌, ◌≤◌, ◌<◌, ◌⊎◌, ℕ, List, [], length, map, take}
use Rattle.pci_spec.specs.Machine.{system_after}
use Rattle.pci_spec.specs.Text.{Block}
use Rattle.pci_spec.specs.Sound.{IsSound}
use Rattle.settle_spec.specs.Lists.{Request}
use Rattle.settle_spec.specs.Sparing.{without_slots}
use Rattle.pci_base.specs.declared.memory.Refused.{Refused}
use Rattle.pci_base.specs.declared.memory.Refused.TheVariants as refused
use Rattle.pci_tree.specs.Admission.{Admission, IsAdmitted}
use Rattle.pci_tree.specs.Roots.{IsRootList}
use Rattle.pci_place.specs.Above.{system_in}
use Rattle.pci_plan.specs.Writes.{write_value}
use Rattle.pci_settle.specs.Denied.{denied_value, IsSpared}
use Rattle.pci_settle.specs.Requests.{request}
use Rattle.pci_settle.specs.declared.settle.Settled.{Settled as SettledOfCode}
use Rattle.pci_settle.specs.Endings.{IsRefusal, HasNoAssumed}
use Rattle.pci_settle.specs.declared.lack.SettleFault.{SettleFault}
use Rattle.pciplan_c.specs.RegisterWrites.{write_value_of}
use Rattle.pciplan_c.specs.Texts.{AreTexts, IsUnreadOf}
use Rattle.pciplan_c.specs.declared.refusal.Refusal.TheVariants.{Root}
use Rattle.pciplan_c.specs.declared.register_write.RegisterWrite.{RegisterWrite}
use Rattle.pciplan_c.specs.declared.unread.Unread.{Unread as UnreadOfCode}
use Rattle.pciplan_c.specs.declared.unread.Unread.TheVariants as unread
use Rattle.pciplan_c.specs.Puts.{IsPutInto}
use Rattle.pciplan_tasks.specs.SettleAnswers.{IsReadyAsTold}
use Rattle.pciplan_c.specs.DeniedSpares.{denied_value_of}
use Rattle.pciplan_c.specs.Endings.{AreWritesPutInFront, IsHeldBack, IsWhyNoWritesPut}
use Rattle.pciplan_c.specs.SettleWords.{said_demand, said_of_asked, IsAskedBy, IsRequestOfWords, IsBadSettleWord, IsSettleWordWant, HaveSettleMeaning}
use Rattle.pciplan_c.specs.ToldTexts.{AreRangesTold, IsThirdTextFault, IsUnreadyOfTexts}
use Rattle.pciplan_c.specs.declared.denied_spare.DeniedSpare.{DeniedSpare}
use Rattle.pciplan_c.specs.declared.ending.Ending.{Ending}
use Rattle.pciplan_c.specs.declared.ending.Ending.TheVariants as ends
use Rattle.pciplan_c.specs.declared.no_writes.NoWrites.{NoWrites}
use Rattle.pciplan_c.specs.declared.no_writes.NoWrites.TheVariants.{BadWord, Unread, Also, NotReady, NotPlanned, NotSettled}
use Rattle.pciplan_c.specs.declared.settle_words.Asked.{Asked}
use Rattle.pciplan_c.specs.declared.settle_words.SettleWords.{SettleWords}
use Rattle.pciplan_c.specs.declared.settling.Unput.{Unput}
use Rattle.pciplan_c.specs.declared.settling.Unput.TheVariants as unput
use Rattle.pciplan_c.specs.declared.settling.SettleHeldBack.{SettleHeldBack}
use Rattle.pciplan_c.specs.declared.settling.SettleHeldBack.TheVariants as held_back

-- from how many writes on a stop leaves a sound system: from none on where it is sound at the start, else once all that close
-- are made
abbrev pub IsSettleSafeFrom : Admission → ℕ → ℕ → Type 0
IsSettleSafeFrom a closing safe_from =
    (IsSound a.roots (system_in a) × (safe_from ≡ 0))
    ⊎ ((IsSound a.roots (system_in a) → ⊥) × (safe_from ≡ closing))

-- the writes of settling what is admitted, as this is asked for, where no read back is assumed; and the windows whose spares
-- have no room
pub record AreWritesFor (q : Request) (a : Admission) (denied : List DeniedSpare)
    (writes : List RegisterWrite) (safe_from : ℕ) : Type 0 where
  pub sized : HasNoAssumed a
  pub after : List Block
  pub closing : ℕ
  pub is : IsSpared q a after (map write_value_of writes) closing (map denied_value_of denied)
  pub safe : IsSettleSafeFrom a closing safe_from
  pub stops : (k : ℕ) → safe_from ≤ k
      → IsSound a.roots (system_after (system_in a) (take k (map write_value_of writes)))

-- what is asked for, as it was read
abbrev pub asked_request : {A : Type 0} → Admission → Asked A → Request
asked_request a asked =
    request a.roots (said_demand (said_of_asked asked) asked.told a.dump) asked.fixed.items asked.anew

-- the words ask for it, and the text of the ranges that are told was read beside the two
pub record IsAskedWith {A : Type 0} (roots dump probe : List ℕ) (words : SettleWords)
    (asked : Asked A) : Type 0 where
  pub by : IsAskedBy words asked
  pub told : AreRangesTold roots dump probe words.also.now asked.told

-- what settling what is admitted comes to, as this is asked for
pub record IsSettledAsAsked {A B : Type 0} (a : Admission) (asked : Asked A)
    (settled : SettledOfCode B) : Type 0 where
  pub sized : HasNoAssumed a
  pub is : IsSpared (asked_request a asked) a settled.dump
      (map write_value settled.writes.all.items) settled.writes.closings
      (map denied_value settled.denied.items)
  pub stops : (k : ℕ) → (settled.writes.closings ≤ k) ⊎ IsSound a.roots (system_in a)
      → IsSound a.roots
      (system_after (system_in a) (take k (map write_value settled.writes.all.items)))

-- these are the writes of settling the two texts, which are admitted, as the words ask for it, and these the windows whose
-- spares have no room
pub record AreSettled (roots dump probe : List ℕ) (words : SettleWords) (denied : List DeniedSpare)
    (writes : List RegisterWrite) (safe_from : ℕ) : Type 0 where
  pub start : Admission
  pub texts : AreTexts roots dump probe start
  pub admitted : IsAdmitted start
  pub request : Request
  pub asked : IsRequestOfWords start.roots start.dump words request
  pub ready : IsReadyAsTold request.told start.roots start.dump start.probe
  pub are : AreWritesFor request start denied writes safe_from

-- there are such windows
pub record AreSettledSome (roots dump probe : List ℕ) (words : SettleWords)
    (writes : List RegisterWrite) (safe_from : ℕ) : Type 0 where
  pub denied : List DeniedSpare
  pub are : AreSettled roots dump probe words denied writes safe_from

-- the two texts are admitted, and have a fault of settling: slots refuse nothing
pub record IsNotSettled (roots dump probe : List ℕ) (words : SettleWords)
    (fault : SettleFault) : Type 0 where
  pub start : Admission
  pub texts : AreTexts roots dump probe start
  pub admitted : IsAdmitted start
  pub request : Request
  pub asked : IsRequestOfWords start.roots start.dump words request
  pub ready : IsReadyAsTold request.told start.roots start.dump start.probe
  pub stands : IsRefusal start (without_slots request) (refused.Fault fault)

-- The list of root buses is looked at before the words, and these before the texts. Beside a text of ranges a fault of the two
-- is looked for with what is told.
abbrev pub IsUnreadBehind : List ℕ → List ℕ → List ℕ → SettleWords → UnreadOfCode → Type 0
IsUnreadBehind roots dump probe words (unread.Refused Root) =
    IsUnreadOf roots dump probe (unread.Refused Root)
IsUnreadBehind roots dump probe words (unread.NotAdmitted fault) =
    HaveSettleMeaning words × IsUnreadOf roots dump probe (unread.NotAdmitted fault)
    × (words.also.now ≡ [])
IsUnreadBehind roots dump probe words other = HaveSettleMeaning words × IsUnreadOf roots dump probe other

-- why nothing is settled
abbrev pub IsNoSettlingOf : List ℕ → List ℕ → List ℕ → SettleWords → NoWrites → Type 0
IsNoSettlingOf roots dump probe words (BadWord bad) = IsRootList roots × IsBadSettleWord words bad
IsNoSettlingOf roots dump probe words (Unread unread) =
    IsUnreadBehind roots dump probe words unread
IsNoSettlingOf roots dump probe words (Also fault) =
    HaveSettleMeaning words × IsThirdTextFault roots dump probe words.also.now fault
IsNoSettlingOf roots dump probe words (NotReady why) =
    HaveSettleMeaning words × IsUnreadyOfTexts roots dump probe words.also.now why
IsNoSettlingOf roots dump probe words (NotPlanned fault) = ⊥
IsNoSettlingOf roots dump probe words (NotSettled fault) =
    IsNotSettled roots dump probe words fault

-- where memory may be wanted: the root list is one, and what a word spells takes memory or all words have a meaning
abbrev pub MayWant : List ℕ → SettleWords → Type 0
MayWant roots words = IsRootList roots × (IsSettleWordWant words ⊎ HaveSettleMeaning words)

-- why it isn't known what is asked for
abbrev pub IsNotAskedWith : List ℕ → List ℕ → List ℕ → SettleWords → Refused NoWrites → Type 0
IsNotAskedWith roots dump probe words (refused.Fault why) = IsNoSettlingOf roots dump probe words why
IsNotAskedWith roots dump probe words refused.Memory = MayWant roots words

-- ---- what is put, and what isn't

-- what the caller lends for a settling
pub record Arrays : Type 0 where
  pub writes : List RegisterWrite
  pub denied : List DeniedSpare

abbrev pub arrays : List RegisterWrite → List DeniedSpare → Arrays
arrays writes denied = record { writes = writes; denied = denied }

-- the windows whose spares have no room stand at the front of their array, and the writes at the front of theirs
pub record AreAllPut (roots dump probe : List ℕ) (words : SettleWords) (old new : Arrays)
    (count safe_from count_denied : ℕ) : Type 0 where
  pub denied : List DeniedSpare
  pub put : IsPutInto old.denied new.denied denied
  pub number : count_denied ≡ length denied
  pub writes : AreWritesPutInFront (AreSettled roots dump probe words denied) old.writes new.writes count safe_from

-- these windows are more than the array has room for
pub record AreTooManyDenied (roots dump probe : List ℕ) (words : SettleWords)
    (array : List DeniedSpare) (needed : ℕ) : Type 0 where
  pub writes : List RegisterWrite
  pub safe_from : ℕ
  pub denied : List DeniedSpare
  pub so : AreSettled roots dump probe words denied writes safe_from
  pub number : needed ≡ length denied
  pub more : length array < needed

-- why no writes are put
abbrev pub IsUnput : List ℕ → List ℕ → List ℕ → SettleWords → Arrays → Unput → Type 0
IsUnput roots dump probe words old (unput.NotPut why) =
    IsWhyNoWritesPut (AreSettledSome roots dump probe words) (IsNoSettlingOf roots dump probe words) old.writes
    why
IsUnput roots dump probe words old (unput.Denied needed) =
    AreTooManyDenied roots dump probe words old.denied needed

-- all was put, or why there are no writes was put into the line
abbrev pub IsSettleEnding : List ℕ → List ℕ → List ℕ → SettleWords → Arrays → Arrays → Ending → ℕ
    → Type 0
IsSettleEnding roots dump probe words old new (ends.Writes count safe_from) denied =
    AreAllPut roots dump probe words old new count safe_from denied
IsSettleEnding roots dump probe words old new (ends.NoWrites why used) denied =
    (new ≡ old) × (denied ≡ 0)

-- what has no room
abbrev pub IsSettleHeldBack : List ℕ → List ℕ → List ℕ → SettleWords → Arrays → List ℕ
    → SettleHeldBack → Type 0
IsSettleHeldBack roots dump probe words old line (held_back.HeldBack held) =
    IsHeldBack (AreSettledSome roots dump probe words) (IsNoSettlingOf roots dump probe words)
    old.writes line held
IsSettleHeldBack roots dump probe words old line (held_back.Denied needed) =
    AreTooManyDenied roots dump probe words old.denied needed
