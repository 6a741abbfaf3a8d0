-- A text of told ranges beside two texts: what it tells where nothing stands in the way of judging with it, or what does.
use Rattle.std.specs.Prelude.{◌≡◌, ◌⊎◌, ℕ, ◌<◌, List, [], ◌∷◌, ◌++◌, codes}
use Rattle.pci_spec.specs.Text.{Block, IsTextOf}
use Rattle.pci_spec.specs.Line as plain
use Rattle.pci_spec.specs.Order.{Judging, phase_key, phase_of}
use Rattle.judge_spec.specs.Fault as untold
use Rattle.judge_spec.specs.Given.{nothing_given}
use Rattle.judge_spec.specs.Told.{ToldRange}
use Rattle.judge_spec.specs.ToldClaims.{Told}
use Rattle.judge_spec.specs.ToldFault.{Fault}
use Rattle.judge_spec.specs.ToldFault as told_fault
use Rattle.judge_spec.specs.ToldText.{IsToldTextOf}
use Rattle.pci_base.specs.declared.memory.Refused.{Refused}
use Rattle.pci_base.specs.declared.memory.Refused.TheVariants as refused
use Rattle.pci_dump.specs.declared.read_fault.ReadFault.{ReadFault}
use Rattle.pci_function.specs.Fault.{fault_of}
use Rattle.pci_faults.specs.AllLines.{plain_fault}
use Rattle.pci_faults.specs.Every.{AreBefore, AreReadyForJudging}
use Rattle.pci_dump.specs.ToldFaults.{IsToldTextFault}
use Rattle.pci_tree.specs.Roots.{IsRootList}
use Rattle.pciplan_c.specs.Refusals.{IsHeldRefusal}
use Rattle.pciplan_c.specs.declared.unread.Unread.TheVariants as unread
use Rattle.pciplan_c.specs.declared.no_writes.NoWrites.{NoWrites}
use Rattle.pciplan_c.specs.declared.no_writes.NoWrites.TheVariants.{BadWord, Unread, Also, NotReady, NotPlanned, NotSettled}
use Rattle.pciplan_c.specs.declared.unready.Unready.{Unready}
use Rattle.pciplan_c.specs.declared.unready.Unready.TheVariants.{NotListed, Early}

-- these ranges are told: of nobody it is known that he is asleep
abbrev pub told_ranges : List ToldRange → Told
told_ranges ranges = record { ranges = ranges; asleep = [] }

-- ---- what is told

-- no fault is there before judging two texts with these ranges
pub record AreReadyTexts (roots dump probe : List ℕ) (told : List ToldRange) : Type 0 where
  pub listed : List Block
  pub read_back : List Block
  pub dump_text : IsTextOf dump listed
  pub probe_text : IsTextOf probe read_back
  pub ready : AreReadyForJudging (told_ranges told) roots listed read_back

-- the text tells of these ranges; where there are some, nothing stands in the way
pub record AreRangesTold (roots dump probe also : List ℕ) (told : List ToldRange) : Type 0 where
  pub text : IsToldTextOf also told
  pub ready : (told ≡ []) ⊎ AreReadyTexts roots dump probe told

-- ---- what stands in the way

-- the fault
abbrev pub unready_fault : Unready → Fault
unready_fault (NotListed slot) = told_fault.NotListed slot
unready_fault (Early fault) = plain_fault fault

-- its number, name and fields
abbrev pub unready_text : Unready → List ℕ
unready_text (NotListed slot) = codes "34 NotListed" ++ plain.slot_field slot
unready_text (Early fault) = plain.fault_text (fault_of fault)

-- the first of some faults is looked for before judging
abbrev pub IsEarlyFirst : List Fault → Type 0
IsEarlyFirst [] = ⊥
IsEarlyFirst (told_fault.Known (untold.Known fault) ∷ rest) = phase_of fault < phase_key Judging
IsEarlyFirst (told_fault.Known (untold.Outside slot register space address) ∷ rest) = ⊥
IsEarlyFirst (told_fault.NotListed slot ∷ rest) = Unit {0}

-- it is this one
abbrev pub IsFirstUnready : List Fault → Unready → Type 0
IsFirstUnready [] why = ⊥
IsFirstUnready (fault ∷ rest) why = fault ≡ unready_fault why

-- it is the first of all faults that are there before judging
pub record IsUnready (told : List ToldRange) (roots : List ℕ) (dump probe : List Block)
    (why : Unready) : Type 0 where
  pub faults : List Fault
  pub before : AreBefore (told_ranges told) nothing_given roots dump probe faults
  pub first : IsFirstUnready faults why

-- dump and probe are texts, and the third has this fault
pub record IsThirdTextFault (roots dump probe also : List ℕ) (fault : ReadFault) : Type 0 where
  pub rising : IsRootList roots
  pub listed : List Block
  pub read_back : List Block
  pub dump_text : IsTextOf dump listed
  pub probe_text : IsTextOf probe read_back
  pub is : IsToldTextFault also fault

-- all three are texts, and this fault is there with what is told
pub record IsUnreadyOfTexts (roots dump probe also : List ℕ) (why : Unready) : Type 0 where
  pub rising : IsRootList roots
  pub listed : List Block
  pub read_back : List Block
  pub told : List ToldRange
  pub dump_text : IsTextOf dump listed
  pub probe_text : IsTextOf probe read_back
  pub told_text : IsToldTextOf also told
  pub is : IsUnready told roots listed read_back why

-- why nothing is told
abbrev pub IsWhyNoRangesTold : List ℕ → List ℕ → List ℕ → List ℕ → NoWrites → Type 0
IsWhyNoRangesTold roots dump probe also (BadWord bad) = ⊥
IsWhyNoRangesTold roots dump probe also (Unread (unread.Refused refusal)) =
    IsHeldRefusal roots dump probe refusal
IsWhyNoRangesTold roots dump probe also (Unread (unread.NotAdmitted fault)) = ⊥
IsWhyNoRangesTold roots dump probe also (Also fault) = IsThirdTextFault roots dump probe also fault
IsWhyNoRangesTold roots dump probe also (NotReady why) = IsUnreadyOfTexts roots dump probe also why
IsWhyNoRangesTold roots dump probe also (NotPlanned fault) = ⊥
IsWhyNoRangesTold roots dump probe also (NotSettled fault) = ⊥

-- the same, or there was no memory
abbrev pub IsNotTold : List ℕ → List ℕ → List ℕ → List ℕ → Refused NoWrites → Type 0
IsNotTold roots dump probe also (refused.Fault why) = IsWhyNoRangesTold roots dump probe also why
IsNotTold roots dump probe also refused.Memory = Unit {0}
