-- What a task answers to a dump and a second text.
use Rattle.std.specs.Prelude.{◌≡◌, ◌⊎◌, ◌≤◌, ℕ, IsTrue, IsFalse, List, [], ◌∷◌, ◌++◌, Option, Some, codes, if◌then◌else◌}
use Rattle.std.specs.List.{All}
use Rattle.std.specs.Io.KnownBytes.{Appends}
use Rattle.std.specs.String.{string_bytes}
use Rattle.pci_spec.specs.Text.{Block, text_of}
use Rattle.pci_spec.specs.System.{system_of}
use Rattle.pci_spec.specs.Fault.{Fault, IsThere}
use Rattle.pci_spec.specs.Order.{phase_key, Decoding, IsFirstThere, image_at, is_before, phase_of}
use Rattle.pci_spec.specs.Decoded.{IsDecodable}
use Rattle.pci_spec.specs.Line.{field, verdict_line}
use Rattle.pci_spec.specs.Listing.{listing}
use Rattle.pci_dump.specs.Begun.{AppendsBeginning}
use Rattle.pci_tree.specs.Pair.{IsPair}
use Rattle.pci_listing.specs.Shows.{AreListable}
use Rattle.pci_machine.specs.Made.{is_of_list}
use Rattle.pci_check.specs.Audits.{IsOutcomeOf, outcome_line}
use Rattle.pci_check.specs.declared.outcome.Outcome.{Outcome}
use Rattle.pci_check.specs.declared.outcome.Outcome.TheVariants.{Yes, No}
use Rattle.pciplan_tasks.specs.declared.reply.Reply.{Reply}
use Rattle.pciplan_tasks.specs.declared.reply.Text.{Text}
use Rattle.pciplan_tasks.specs.declared.reply.Text.TheVariants.{Dump, Lines}

-- the status, and what goes to standard output and to standard error
pub record Answer : Type 0 where
  pub status : ℕ
  pub text : List ℕ
  pub remarks : List ℕ

abbrev pub text_bytes : {A : Type 0} → Text A → List ℕ
text_bytes (Dump dump) = text_of dump
text_bytes (Lines lines) = string_bytes lines

abbrev pub AreReplyLines : {A : Type 0} → Text A → Type 0
AreReplyLines (Dump dump) = ⊥
AreReplyLines (Lines lines) = Unit {0}

abbrev pub answer_of : {A : Type 0} → Reply A → Answer
answer_of reply = record {
  status = if reply.refused then 1 else 0;
  text = text_bytes reply.text;
  remarks = string_bytes reply.remarks;
}

-- of a task that was done, with remarks
abbrev pub done_with : List ℕ → List ℕ → Answer
done_with remarks text = record { status = 0; text = text; remarks = remarks }

-- of a task that was done, and of one that is refused, without remarks
abbrev pub done : List ℕ → Answer
done text = done_with [] text

abbrev pub refused : List ℕ → Answer
refused line = record { status = 1; text = line; remarks = [] }

-- the line of a fault of this text
abbrev pub fault_answer_line : List ℕ → List ℕ
fault_answer_line text = codes "no" ++ field text ++ 10 ∷ []

-- all of a text went out, or a write of it failed after a beginning
abbrev pub IsTextOut : Option (List ℕ) → Option (List ℕ) → Type 0 → List ℕ → Type 0
IsTextOut before after failed text =
    Appends before after text ⊎ (failed × AppendsBeginning before after text)

-- the remarks went out so, and where there are none all is the same
abbrev pub AreRemarked : Option (List ℕ) → Option (List ℕ) → Type 0 → Type 0 → List ℕ → Type 0
AreRemarked before after failed same remarks =
    IsTextOut before after failed remarks × (remarks ≡ [] → same)

-- the listing, where each function has one
pub record IsShownText (dump probe : List Block) (answer : Answer) : Type 0 where
  pub listable : AreListable dump probe
  pub line : answer ≡ done (listing (system_of dump probe))

-- the line of the first fault that is there, where it is of slots, of identities and probes, or of decoding
pub record IsNotShown (dump probe : List Block) (answer : Answer) : Type 0 where
  pub fault : Fault
  pub kind : phase_of fault ≤ phase_key Decoding
  pub first : (roots : List ℕ) → IsFirstThere roots dump probe fault
  pub line : answer ≡ refused (verdict_line (Some fault))

-- `show`: the listing, or the line of the first fault that a listing is refused for
abbrev pub IsShowAnswer : List Block → List Block → Answer → Type 0
IsShowAnswer dump probe answer = IsShownText dump probe answer ⊎ IsNotShown dump probe answer

-- what sizing finds is the probe, where none of the faults 20 to 26, 30 and 31 is there
pub record IsSizedText (dump probe : List Block) (answer : Answer) : Type 0 where
  pub pair : (roots : List ℕ) → IsPair roots dump probe
  pub decodable : All IsDecodable (system_of dump probe)
  pub line : answer ≡ done (text_of probe)

-- the line of the first of these that is there, whatever the capabilities lists are
pub record IsNotSized (dump probe : List Block) (answer : Answer) : Type 0 where
  pub fault : Fault
  pub kind : (phase_of fault ≤ 2) × IsFalse (is_of_list fault)
  pub there : (roots : List ℕ) → IsThere roots dump probe fault
  pub first : (roots : List ℕ) (other : Fault)
      → IsTrue (is_before (image_at (system_of dump probe)) other fault)
      → IsFalse (is_of_list other) → IsThere roots dump probe other → ⊥
  pub line : answer ≡ refused (verdict_line (Some fault))

-- `size`: the probe again, or the line of the first fault that sizing looks for
abbrev pub IsSizeAnswer : List Block → List Block → Answer → Type 0
IsSizeAnswer dump probe answer = IsSizedText dump probe answer ⊎ IsNotSized dump probe answer

-- `check`: the line of the verdict, at status 0 where it is yes
abbrev pub outcome_answer : Outcome → Answer
outcome_answer Yes = done (outcome_line Yes)
outcome_answer (No fault) = refused (outcome_line (No fault))

pub record IsChecked (roots : List ℕ) (dump probe : List Block) (answer : Answer) : Type 0 where
  pub outcome : Outcome
  pub verdict : IsOutcomeOf roots dump probe outcome
  pub line : answer ≡ outcome_answer outcome
