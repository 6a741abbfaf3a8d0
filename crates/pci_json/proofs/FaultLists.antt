-- The document of a list of faults has the faults.
use Rattle.std.proofs.Common.{arith, ◌≡◌, ◌==◌, ℕ, List, [], ◌∷◌, ◌++◌, Bool, true, false, not, ◌&&◌, refl, ap, ap₂, ◌∙◌, codes, map, if◌then◌else◌, append-nil, append_assoc}
use Rattle.std.specs.List.{flat_map}
use Rattle.std.proofs.lemmas.Bool.{false≢true}
use Rattle.json.specs.Json.{Json}
use Rattle.pci_spec.specs.Slot.{Slot}
use Rattle.pci_spec.specs.Text.{hex_byte, slot_text}
use Rattle.pci_spec.specs.System.{Space, Io, Memory}
use Rattle.pci_spec.specs.Line.{field, address_text, fault_text}
use Rattle.pci_spec.specs.Fault.{Fault, NoVendor, HeaderKind, BarType, BarMask, BarPair, RomMask, WindowMask, CapRange, CapLoop, CapCut, SlotsDiffer, StrayProbe, LoneFunction, OfProfile, BusRange, Orphan, Unreached, Clash, Split}
use Rattle.judge_spec.specs.Fault as given
use Rattle.judge_spec.specs.Line as given_line
use Rattle.pci_json.specs.Lines.{parts_of_text, put_front, lines_of_text, content_of, is_inner, behind_words}
use Rattle.pci_json.specs.Members.{object_of}
use Rattle.pci_json.specs.Faults.{fault_members}
use Rattle.pci_json.specs.Groups.{inner_of, why_member, fault_object}
use Rattle.pci_json.specs.Documents.{is_fault, faults_of}
use Rattle.pci_json.specs.FaultValues.{all_given_values}
use Rattle.pci_json.specs.FaultLaws.{HasEachFault}
use Rattle.pci_json.proofs.Words.{lacks, append_lacks, byte_lacks, slot_lacks, address_lacks}
use Rattle.pci_json.proofs.FaultMembers.{has_given_fault_members}
use Rattle.pci_json.proofs.ProfileTexts.{profile_line}

-- ---- a fault is one line

put_more : (here : Bool) (b : ℕ) (w rest : List ℕ) → not here ≡ true → parts_of_text 10 (w ++ 10 ∷ rest) ≡ w ∷ parts_of_text 10 rest
    → (if here then [] ∷ parts_of_text 10 (w ++ 10 ∷ rest) else put_front b (parts_of_text 10 (w ++ 10 ∷ rest))) ≡ (b ∷ w) ∷ parts_of_text 10 rest
put_more true b w rest is more = absurd (false≢true is)
put_more false b w rest is more = ap (put_front b) more

left_of : (a b : Bool) → a && b ≡ true → a ≡ true
left_of true b is = refl
left_of false b is = is

right_of : (a b : Bool) → a && b ≡ true → b ≡ true
right_of true b is = is
right_of false b is = absurd (false≢true is)

pub one_line : (w rest : List ℕ) → lacks 10 w ≡ true → lines_of_text (w ++ 10 ∷ rest) ≡ w ∷ lines_of_text rest
unfolding parts_of_text
one_line [] rest ok = refl
one_line (b ∷ w) rest ok =
    put_more (b == 10) b w rest (left_of (not (b == 10)) (lacks 10 w) ok) (one_line w rest (right_of (not (b == 10)) (lacks 10 w) ok))

pub slot : (s : Slot) → lacks 10 (slot_text s) ≡ true
slot s = slot_lacks 10 s (omega arith)

region : (s : Slot) (r : ℕ) → lacks 10 (slot_text s ++ field (hex_byte r)) ≡ true
region s r = append_lacks 10 (slot_text s) (field (hex_byte r)) (slot s) (byte_lacks 10 r (omega arith))

region_more : (s : Slot) (r : ℕ) (more : List ℕ) → lacks 10 more ≡ true → lacks 10 ((slot_text s ++ field (hex_byte r)) ++ more) ≡ true
region_more s r more ok = append_lacks 10 (slot_text s ++ field (hex_byte r)) more (region s r) ok

address_more : (space : Space) (a : ℕ) (more : List ℕ) → lacks 10 more ≡ true → lacks 10 (address_text space a ++ more) ≡ true
address_more space a more ok = append_lacks 10 (address_text space a) more (address_lacks 10 space a (omega arith)) ok

two : (s : Slot) (r : ℕ) (t : Slot) (q : ℕ) → lacks 10 (field ((slot_text s ++ field (hex_byte r)) ++ field (slot_text t ++ field (hex_byte q)))) ≡ true
two s r t q = region_more s r (field (slot_text t ++ field (hex_byte q))) (region t q)

pub known : (f : Fault) → lacks 10 (fault_text f) ≡ true
known (NoVendor s) = slot s
known (HeaderKind s) = slot s
known (SlotsDiffer s) = slot s
known (LoneFunction s) = slot s
known (OfProfile fault s) = (profile_line fault s).one_line
known (BusRange s) = slot s
known (Orphan s) = slot s
known (BarType s r) = region s r
known (BarMask s r) = region s r
known (BarPair s r) = region s r
known (RomMask s r) = region s r
known (WindowMask s r) = region s r
known (CapRange s r) = region s r
known (CapLoop s r) = region s r
known (CapCut s r) = region s r
known (StrayProbe s r) = region s r
known (Unreached s r Io a b) = region_more s r (field (codes "io" ++ field (address_text Io a)) ++ field (codes "bridge") ++ field (slot_text b)) (address_more Io a (field (codes "bridge") ++ field (slot_text b)) (slot b))
known (Clash bus Io a s r t q) = append_lacks 10 (hex_byte bus) (field (codes "io" ++ field (address_text Io a)) ++ field ((slot_text s ++ field (hex_byte r)) ++ field (slot_text t ++ field (hex_byte q)))) (byte_lacks 10 bus (omega arith)) (address_more Io a (field ((slot_text s ++ field (hex_byte r)) ++ field (slot_text t ++ field (hex_byte q)))) (two s r t q))
known (Split Io a s r t q) = address_more Io a (field ((slot_text s ++ field (hex_byte r)) ++ field (slot_text t ++ field (hex_byte q)))) (two s r t q)
known (Unreached s r Memory a b) = region_more s r (field (codes "mem" ++ field (address_text Memory a)) ++ field (codes "bridge") ++ field (slot_text b)) (address_more Memory a (field (codes "bridge") ++ field (slot_text b)) (slot b))
known (Clash bus Memory a s r t q) = append_lacks 10 (hex_byte bus) (field (codes "mem" ++ field (address_text Memory a)) ++ field ((slot_text s ++ field (hex_byte r)) ++ field (slot_text t ++ field (hex_byte q)))) (byte_lacks 10 bus (omega arith)) (address_more Memory a (field ((slot_text s ++ field (hex_byte r)) ++ field (slot_text t ++ field (hex_byte q)))) (two s r t q))
known (Split Memory a s r t q) = address_more Memory a (field ((slot_text s ++ field (hex_byte r)) ++ field (slot_text t ++ field (hex_byte q)))) (two s r t q)

one_each : (f : given.Fault) → lacks 10 (given_line.fault_text f) ≡ true
one_each (given.Known fault) = known fault
one_each (given.Outside s r Io a) = region_more s r (field (codes "io" ++ field (address_text Io a))) (address_lacks 10 Io a (omega arith))
one_each (given.Outside s r Memory a) = region_more s r (field (codes "mem" ++ field (address_text Memory a))) (address_lacks 10 Memory a (omega arith))

-- ---- it is a fault's line, and is not indented

pub record IsOfFault (line : List ℕ) : Type 0 where
  pub is : is_fault line ≡ true
  pub content : content_of line ≡ line
  pub outer : is_inner line ≡ false

pub of_known : (f : Fault) → IsOfFault (fault_text f)
unfolding behind_words
of_known (NoVendor s) = record { is = refl; content = refl; outer = refl }
of_known (HeaderKind s) = record { is = refl; content = refl; outer = refl }
of_known (SlotsDiffer s) = record { is = refl; content = refl; outer = refl }
of_known (LoneFunction s) = record { is = refl; content = refl; outer = refl }
of_known (OfProfile fault s) = record { is = (profile_line fault s).is; content = (profile_line fault s).content; outer = (profile_line fault s).outer }
of_known (BusRange s) = record { is = refl; content = refl; outer = refl }
of_known (Orphan s) = record { is = refl; content = refl; outer = refl }
of_known (BarType s r) = record { is = refl; content = refl; outer = refl }
of_known (BarMask s r) = record { is = refl; content = refl; outer = refl }
of_known (BarPair s r) = record { is = refl; content = refl; outer = refl }
of_known (RomMask s r) = record { is = refl; content = refl; outer = refl }
of_known (WindowMask s r) = record { is = refl; content = refl; outer = refl }
of_known (CapRange s r) = record { is = refl; content = refl; outer = refl }
of_known (CapLoop s r) = record { is = refl; content = refl; outer = refl }
of_known (CapCut s r) = record { is = refl; content = refl; outer = refl }
of_known (StrayProbe s r) = record { is = refl; content = refl; outer = refl }
of_known (Unreached s r space a b) = record { is = refl; content = refl; outer = refl }
of_known (Clash bus space a s r t q) = record { is = refl; content = refl; outer = refl }
of_known (Split space a s r t q) = record { is = refl; content = refl; outer = refl }

of_given : (f : given.Fault) → IsOfFault (given_line.fault_text f)
unfolding behind_words
of_given (given.Known fault) = of_known fault
of_given (given.Outside s r space a) = record { is = refl; content = refl; outer = refl }

-- ---- the list

texts : (faults : List given.Fault) → lines_of_text (flat_map given_line.fault_line faults) ≡ map given_line.fault_text faults
unfolding parts_of_text
texts [] = refl
texts (f ∷ fs) =
    ap lines_of_text (append_assoc (given_line.fault_text f) (10 ∷ []) (flat_map given_line.fault_line fs))
    ∙ one_line (given_line.fault_text f) (flat_map given_line.fault_line fs) (one_each f) ∙ ap (λ (ls : List (List ℕ)). given_line.fault_text f ∷ ls) (texts fs)

none_inner : (faults : List given.Fault) → inner_of (map given_line.fault_text faults) ≡ []
none_inner [] = refl
none_inner (f ∷ fs) =
    ap (λ (b : Bool). if b then content_of (given_line.fault_text f) ∷ inner_of (map given_line.fault_text fs) else []) (of_given f).outer

object : (f : given.Fault) (behind : List (List ℕ)) → inner_of behind ≡ [] → fault_object (given_line.fault_text f) behind ≡ object_of (all_given_values f)
object f behind none =
    ap (λ (ls : List (List ℕ)). object_of (fault_members (given_line.fault_text f) ++ why_member ls)) none
    ∙ ap object_of (append-nil (fault_members (given_line.fault_text f)) ∙ has_given_fault_members f)

each : (faults : List given.Fault) → faults_of (map given_line.fault_text faults) ≡ map (λ fault. object_of (all_given_values fault)) faults
each [] = refl
each (f ∷ fs) =
    let line = given_line.fault_text f in
    ap (λ (b : Bool). (if b then fault_object (content_of line) (map given_line.fault_text fs) ∷ [] else []) ++ faults_of (map given_line.fault_text fs)) (of_given f).is
    ∙ ap₂ (λ (j : Json) (js : List Json). j ∷ js)
    (ap (λ (l : List ℕ). fault_object l (map given_line.fault_text fs)) (of_given f).content ∙ object f (map given_line.fault_text fs) (none_inner fs))
    (each fs)

pub has_each_fault : HasEachFault
unfolding parts_of_text behind_words
has_each_fault [] = refl
has_each_fault (f ∷ fs) = ap faults_of (texts (f ∷ fs)) ∙ each (f ∷ fs)
