-- The document of a list of faults has the faults, where they may name lines of told ranges.
use Rattle.std.proofs.Common.{arith, ◌≡◌, ℕ, suc, List, [], ◌∷◌, ◌++◌, Bool, true, refl, ap, ap₂, ◌∙◌, codes, map, if◌then◌else◌, append-nil, append_assoc}
use Rattle.std.specs.List.{All, flat_map}
use Rattle.json.specs.Json.{Json}
use Rattle.pci_spec.specs.Slot.{Slot}
use Rattle.pci_spec.specs.Text.{hex_byte, slot_text}
use Rattle.pci_spec.specs.System.{Space, Io, Memory}
use Rattle.pci_spec.specs.Line.{field, address_text}
use Rattle.pci_spec.specs.Fault.{Fault, NoVendor, HeaderKind, BarType, BarMask, BarPair, RomMask, WindowMask, CapRange, CapLoop, CapCut, SlotsDiffer, StrayProbe, LoneFunction, OfProfile, BusRange, Orphan, Unreached, Clash, Split}
use Rattle.judge_spec.specs.Fault as given
use Rattle.judge_spec.specs.ToldFault as told
use Rattle.judge_spec.specs.ToldLine.{register_text, region_text, fault_text, fault_line}
use Rattle.pci_json.specs.Lines.{parts_of_text, lines_of_text, content_of, behind_words}
use Rattle.pci_json.specs.Members.{object_of}
use Rattle.pci_json.specs.Faults.{fault_members}
use Rattle.pci_json.specs.Groups.{inner_of, why_member, fault_object}
use Rattle.pci_json.specs.Documents.{faults_of}
use Rattle.pci_json.specs.FaultValues.{all_told_values}
use Rattle.pci_json.specs.FaultLaws.{IsRegister, NamesPlain, NamesRegisters, HasEachToldFault}
use Rattle.pci_json.proofs.Words.{lacks, append_lacks, byte_lacks, address_lacks, register_lacks}
use Rattle.pci_json.proofs.FaultLists.{IsOfFault, one_line, slot, known, of_known}
use Rattle.pci_json.proofs.ToldMembers.{has_told_fault_members}

-- ---- a fault is one line

region : (s : Slot) (r : ℕ) → IsRegister r → lacks 10 (region_text s r) ≡ true
region s r ok = append_lacks 10 (slot_text s) (field (register_text r)) (slot s) (register_lacks 10 r (omega arith) ok)

region_more : (s : Slot) (r : ℕ) (p b e : List ℕ) → IsRegister r → lacks 10 p ≡ true → lacks 10 b ≡ true → lacks 10 e ≡ true
    → lacks 10 (((region_text s r ++ p) ++ b) ++ e) ≡ true
region_more s r p b e ok place bridge last =
    append_lacks 10 ((region_text s r ++ p) ++ b) e
    (append_lacks 10 (region_text s r ++ p) b (append_lacks 10 (region_text s r) p (region s r ok) place) bridge) last

address_more : (space : Space) (a : ℕ) (more : List ℕ) → lacks 10 more ≡ true → lacks 10 (address_text space a ++ more) ≡ true
address_more space a more none = append_lacks 10 (address_text space a) more (address_lacks 10 space a (omega arith)) none

two : (s : Slot) (r : ℕ) (t : Slot) (q : ℕ) → IsRegister r → IsRegister q → lacks 10 (field (region_text s r ++ field (region_text t q))) ≡ true
two s r t q ok also = append_lacks 10 (region_text s r) (field (region_text t q)) (region s r ok) (region t q also)

plain : (f : Fault) → NamesPlain f → lacks 10 (fault_text (told.Known (given.Known f))) ≡ true
plain (NoVendor s) names = known (NoVendor s)
plain (HeaderKind s) names = known (HeaderKind s)
plain (SlotsDiffer s) names = known (SlotsDiffer s)
plain (LoneFunction s) names = known (LoneFunction s)
plain (OfProfile fault s) names = known (OfProfile fault s)
plain (BusRange s) names = known (BusRange s)
plain (Orphan s) names = known (Orphan s)
plain (BarType s r) names = known (BarType s r)
plain (BarMask s r) names = known (BarMask s r)
plain (BarPair s r) names = known (BarPair s r)
plain (RomMask s r) names = known (RomMask s r)
plain (WindowMask s r) names = known (WindowMask s r)
plain (CapRange s r) names = known (CapRange s r)
plain (CapLoop s r) names = known (CapLoop s r)
plain (CapCut s r) names = known (CapCut s r)
plain (StrayProbe s r) names = known (StrayProbe s r)
plain (Unreached s r Io a b) names =
    region_more s r (field (codes "io" ++ field (address_text Io a))) (field (codes "bridge")) (field (slot_text b)) names
    (address_lacks 10 Io a (omega arith)) refl (slot b)
plain (Clash bus Io a s r t q) names =
    append_lacks 10 (hex_byte bus) (field (codes "io" ++ field (address_text Io a)) ++ field (region_text s r ++ field (region_text t q))) (byte_lacks 10 bus (omega arith))
    (address_more Io a (field (region_text s r ++ field (region_text t q))) (two s r t q names.0 names.1))
plain (Split Io a s r t q) names = address_more Io a (field (region_text s r ++ field (region_text t q))) (two s r t q names.0 names.1)
plain (Unreached s r Memory a b) names =
    region_more s r (field (codes "mem" ++ field (address_text Memory a))) (field (codes "bridge")) (field (slot_text b)) names
    (address_lacks 10 Memory a (omega arith)) refl (slot b)
plain (Clash bus Memory a s r t q) names =
    append_lacks 10 (hex_byte bus) (field (codes "mem" ++ field (address_text Memory a)) ++ field (region_text s r ++ field (region_text t q))) (byte_lacks 10 bus (omega arith))
    (address_more Memory a (field (region_text s r ++ field (region_text t q))) (two s r t q names.0 names.1))
plain (Split Memory a s r t q) names = address_more Memory a (field (region_text s r ++ field (region_text t q))) (two s r t q names.0 names.1)

one_each : (f : told.Fault) → NamesRegisters f → lacks 10 (fault_text f) ≡ true
one_each (told.Known (given.Known fault)) names = plain fault names
one_each (told.Known (given.Outside s r Io a)) names =
    append_lacks 10 (region_text s r) (field (codes "io" ++ field (address_text Io a))) (region s r names) (address_lacks 10 Io a (omega arith))
one_each (told.Known (given.Outside s r Memory a)) names =
    append_lacks 10 (region_text s r) (field (codes "mem" ++ field (address_text Memory a))) (region s r names) (address_lacks 10 Memory a (omega arith))
one_each (told.NotListed s) names = slot s

-- ---- it is a fault's line, and is not indented

of_plain : (f : Fault) → IsOfFault (fault_text (told.Known (given.Known f)))
unfolding behind_words
of_plain (NoVendor s) = of_known (NoVendor s)
of_plain (HeaderKind s) = of_known (HeaderKind s)
of_plain (SlotsDiffer s) = of_known (SlotsDiffer s)
of_plain (LoneFunction s) = of_known (LoneFunction s)
of_plain (OfProfile fault s) = of_known (OfProfile fault s)
of_plain (BusRange s) = of_known (BusRange s)
of_plain (Orphan s) = of_known (Orphan s)
of_plain (BarType s r) = of_known (BarType s r)
of_plain (BarMask s r) = of_known (BarMask s r)
of_plain (BarPair s r) = of_known (BarPair s r)
of_plain (RomMask s r) = of_known (RomMask s r)
of_plain (WindowMask s r) = of_known (WindowMask s r)
of_plain (CapRange s r) = of_known (CapRange s r)
of_plain (CapLoop s r) = of_known (CapLoop s r)
of_plain (CapCut s r) = of_known (CapCut s r)
of_plain (StrayProbe s r) = of_known (StrayProbe s r)
of_plain (Unreached s r space a b) = record { is = refl; content = refl; outer = refl }
of_plain (Clash bus space a s r t q) = record { is = refl; content = refl; outer = refl }
of_plain (Split space a s r t q) = record { is = refl; content = refl; outer = refl }

of_told : (f : told.Fault) → IsOfFault (fault_text f)
unfolding behind_words
of_told (told.Known (given.Known fault)) = of_plain fault
of_told (told.Known (given.Outside s r space a)) = record { is = refl; content = refl; outer = refl }
of_told (told.NotListed s) = record { is = refl; content = refl; outer = refl }

-- ---- the list

behind_first : (f : told.Fault) (fs : List told.Fault) → All NamesRegisters (f ∷ fs) → All NamesRegisters fs
behind_first f fs all = λ k d less. all (suc k) d (omega (arith, less))

texts : (faults : List told.Fault) → All NamesRegisters faults → lines_of_text (flat_map fault_line faults) ≡ map fault_text faults
unfolding parts_of_text
texts [] all = refl
texts (f ∷ fs) all =
    ap lines_of_text (append_assoc (fault_text f) (10 ∷ []) (flat_map fault_line fs))
    ∙ one_line (fault_text f) (flat_map fault_line fs) (one_each f (all 0 f (omega arith)))
    ∙ ap (λ (ls : List (List ℕ)). fault_text f ∷ ls) (texts fs (behind_first f fs all))

none_inner : (faults : List told.Fault) → inner_of (map fault_text faults) ≡ []
none_inner [] = refl
none_inner (f ∷ fs) =
    ap (λ (b : Bool). if b then content_of (fault_text f) ∷ inner_of (map fault_text fs) else []) (of_told f).outer

object : (f : told.Fault) (behind : List (List ℕ)) → NamesRegisters f → inner_of behind ≡ [] → fault_object (fault_text f) behind ≡ object_of (all_told_values f)
object f behind names none =
    ap (λ (ls : List (List ℕ)). object_of (fault_members (fault_text f) ++ why_member ls)) none
    ∙ ap object_of (append-nil (fault_members (fault_text f)) ∙ has_told_fault_members f names)

each : (faults : List told.Fault) → All NamesRegisters faults → faults_of (map fault_text faults) ≡ map (λ fault. object_of (all_told_values fault)) faults
each [] all = refl
each (f ∷ fs) all =
    ap (λ (b : Bool). (if b then fault_object (content_of (fault_text f)) (map fault_text fs) ∷ [] else []) ++ faults_of (map fault_text fs)) (of_told f).is
    ∙ ap₂ (λ (j : Json) (js : List Json). j ∷ js)
    (ap (λ (l : List ℕ). fault_object l (map fault_text fs)) (of_told f).content ∙ object f (map fault_text fs) (all 0 f (omega arith)) (none_inner fs))
    (each fs (behind_first f fs all))

pub has_each_told_fault : HasEachToldFault
unfolding parts_of_text behind_words
has_each_told_fault [] all = refl
has_each_told_fault (f ∷ fs) all = ap faults_of (texts (f ∷ fs) all) ∙ each (f ∷ fs) all
