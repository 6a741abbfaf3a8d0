-- The members that are made of a fault's line are those of the fault, where it may name lines of told ranges.
use Rattle.std.proofs.Common.{arith, ◌≡◌, ◌-◌, nat_lt, ℕ, List, [], ◌∷◌, ◌++◌, Bool, true, false, refl, sym, ap, ap₂, ◌∙◌, codes, if◌then◌else◌, append-nil, append_assoc}
use Rattle.std.specs.Fmt.{decimal}
use Rattle.json.specs.Json.{Json, string}
use Rattle.pci_spec.specs.Slot.{Slot}
use Rattle.pci_spec.specs.Text.{hex_byte, slot_text}
use Rattle.pci_spec.specs.System.{Space, Io, Memory}
use Rattle.pci_spec.specs.Line.{field, space_text, address_text}
use Rattle.pci_spec.specs.Fault.{Fault, NoVendor, HeaderKind, BarType, BarMask, BarPair, RomMask, WindowMask, CapRange, CapLoop, CapCut, SlotsDiffer, StrayProbe, LoneFunction, OfProfile, BusRange, Orphan, Unreached, Clash, Split}
use Rattle.judge_spec.specs.Fault as given
use Rattle.judge_spec.specs.ToldFault as told
use Rattle.judge_spec.specs.ToldLine.{register_text, fault_text}
use Rattle.pci_json.specs.Lines.{behind_words}
use Rattle.pci_json.specs.Members.{hex, json_count, object_of, array_of, also_line_number, register_or_line}
use Rattle.pci_json.specs.Faults.{fault_members, unreached_members, clash_members, split_members, outside_members}
use Rattle.pci_json.specs.FaultValues.{slot_value, address_values, told_region_values, two_told_region_values, all_told_values}
use Rattle.pci_json.specs.FaultLaws.{IsRegister, NamesPlain, HasToldFaultMembers}
use Rattle.pci_json.proofs.Words.{tail_of, no_blank, no_plus, decimal_value, register_lacks}
use Rattle.pci_json.proofs.FaultMembers.{head, region_named, two_regions_named, slot_alone, unreached_named, clash_named, split_named, outside_named, has_fault_members}

register_ok : (r : ℕ) → IsRegister r → no_blank (register_text r) ≡ true
register_ok r ok = register_lacks 32 r (omega arith) ok

-- ---- a register or a line

value_if : (small : Bool) (r : ℕ) → IsRegister r
    → register_or_line (if small then hex_byte r else 43 ∷ decimal (r - 255))
    ≡ (if small then (codes "register", hex (hex_byte r)) ∷ [] else (codes "line", json_count (r - 255)) ∷ [])
value_if true r ok =
    ap (λ (b : Bool). if b then (codes "line", json_count (also_line_number (hex_byte r))) ∷ [] else (codes "register", hex (hex_byte r)) ∷ []) (no_plus r)
value_if false r ok = ap (λ (n : ℕ). (codes "line", json_count n) ∷ []) (decimal_value (r - 255) (omega (arith, ok)))

of_region : (s : Slot) (r : ℕ) → IsRegister r → region_named s (register_text r) ≡ told_region_values s r
of_region s r ok = ap (λ (v : List (List ℕ × Json)). (codes "slot", string (slot_text s)) ∷ v) (value_if (nat_lt r 256) r ok)

of_regions : (s : Slot) (r : ℕ) (t : Slot) (q : ℕ) → IsRegister r → IsRegister q
    → two_regions_named s (register_text r) t (register_text q) ≡ two_told_region_values s r t q
of_regions s r t q ok also =
    ap₂ (λ (v w : List (List ℕ × Json)). (codes "regions", array_of (object_of v ∷ object_of w ∷ [])) ∷ []) (of_region s r ok) (of_region t q also)

-- ---- the forms of lines

unreached : (line : List ℕ) (s : Slot) (r : ℕ) (space : Space) (a : ℕ) (b : Slot) → IsRegister r
    → behind_words 2 line ≡ slot_text s ++ tail_of (register_text r ∷ space_text space ∷ address_text space a ∷ codes "bridge" ∷ slot_text b ∷ [])
    → unreached_members line ≡ told_region_values s r ++ (address_values space a ++ slot_value (codes "bridge") b)
unreached line s r space a b ok at =
    unreached_named line s (register_text r) space a b (register_ok r ok) at
    ∙ ap (λ (v : List (List ℕ × Json)). v ++ (address_values space a ++ slot_value (codes "bridge") b)) (of_region s r ok)

-- what stands behind a register's word, of three parts
three_behind : (s : Slot) (r p b e : List ℕ) → slot_text s ++ field (((r ++ p) ++ b) ++ e) ≡ slot_text s ++ field (r ++ (p ++ (b ++ e)))
three_behind s r p b e = ap (λ (w : List ℕ). slot_text s ++ field w) (append_assoc (r ++ p) b e ∙ append_assoc r p (b ++ e))

-- two regions, of which the second stands at the end of the line
abbrev two_at_end : Slot → ℕ → Slot → List ℕ → List ℕ
two_at_end s r t end = field (slot_text s) ++ (field (register_text r) ++ (field (slot_text t) ++ field end))

clash : (line : List ℕ) (bus : ℕ) (space : Space) (a : ℕ) (s : Slot) (r : ℕ) (t : Slot) (q : ℕ) → IsRegister r → IsRegister q
    → behind_words 2 line ≡ codes "bus" ++ (field (hex_byte bus) ++ (field (space_text space) ++ (field (address_text space a) ++ two_at_end s r t (register_text q))))
    → clash_members line ≡ (codes "bus", string (hex_byte bus)) ∷ (address_values space a ++ two_told_region_values s r t q)
clash line bus space a s r t q ok also at =
    clash_named line bus space a s (register_text r) t (register_text q) (register_ok r ok) (register_ok q also)
    (at ∙ ap (λ (w : List ℕ). codes "bus" ++ (field (hex_byte bus) ++ (field (space_text space) ++ (field (address_text space a) ++ two_at_end s r t w)))) (sym (append-nil (register_text q))))
    ∙ ap (λ (v : List (List ℕ × Json)). (codes "bus", string (hex_byte bus)) ∷ (address_values space a ++ v)) (of_regions s r t q ok also)

split : (line : List ℕ) (space : Space) (a : ℕ) (s : Slot) (r : ℕ) (t : Slot) (q : ℕ) → IsRegister r → IsRegister q
    → behind_words 2 line ≡ space_text space ++ (field (address_text space a) ++ two_at_end s r t (register_text q))
    → split_members line ≡ address_values space a ++ two_told_region_values s r t q
split line space a s r t q ok also at =
    split_named line space a s (register_text r) t (register_text q) (register_ok r ok) (register_ok q also)
    (at ∙ ap (λ (w : List ℕ). space_text space ++ (field (address_text space a) ++ two_at_end s r t w)) (sym (append-nil (register_text q))))
    ∙ ap (λ (v : List (List ℕ × Json)). address_values space a ++ v) (of_regions s r t q ok also)

outside : (line : List ℕ) (s : Slot) (r : ℕ) (space : Space) (a : ℕ) → IsRegister r
    → behind_words 2 line ≡ slot_text s ++ tail_of (register_text r ∷ space_text space ∷ address_text space a ∷ [])
    → outside_members line ≡ told_region_values s r ++ address_values space a
outside line s r space a ok at =
    outside_named line s (register_text r) space a (register_ok r ok) at
    ∙ ap (λ (v : List (List ℕ × Json)). v ++ address_values space a) (of_region s r ok)

-- ---- each fault

plain : (f : Fault) → NamesPlain f → fault_members (fault_text (told.Known (given.Known f))) ≡ all_told_values (told.Known (given.Known f))
unfolding behind_words
plain (NoVendor slot) names = has_fault_members (NoVendor slot)
plain (HeaderKind slot) names = has_fault_members (HeaderKind slot)
plain (SlotsDiffer slot) names = has_fault_members (SlotsDiffer slot)
plain (LoneFunction slot) names = has_fault_members (LoneFunction slot)
plain (OfProfile fault slot) names = has_fault_members (OfProfile fault slot)
plain (BusRange slot) names = has_fault_members (BusRange slot)
plain (Orphan slot) names = has_fault_members (Orphan slot)
plain (BarType slot register) names = has_fault_members (BarType slot register)
plain (BarMask slot register) names = has_fault_members (BarMask slot register)
plain (BarPair slot register) names = has_fault_members (BarPair slot register)
plain (RomMask slot register) names = has_fault_members (RomMask slot register)
plain (WindowMask slot register) names = has_fault_members (WindowMask slot register)
plain (CapRange slot register) names = has_fault_members (CapRange slot register)
plain (CapLoop slot register) names = has_fault_members (CapLoop slot register)
plain (CapCut slot register) names = has_fault_members (CapCut slot register)
plain (StrayProbe slot register) names = has_fault_members (StrayProbe slot register)
plain (Unreached slot register Io address bridge) names =
    ap (head 60 (codes "Unreached") (fault_text (told.Known (given.Known (Unreached slot register Io address bridge)))))
    (unreached (fault_text (told.Known (given.Known (Unreached slot register Io address bridge)))) slot register Io address bridge names
    (three_behind slot (register_text register) (field (codes "io" ++ field (address_text Io address))) (field (codes "bridge")) (field (slot_text bridge))))
plain (Clash bus Io address first first_register second second_register) names =
    ap (head 61 (codes "Clash") (fault_text (told.Known (given.Known (Clash bus Io address first first_register second second_register)))))
    (clash (fault_text (told.Known (given.Known (Clash bus Io address first first_register second second_register)))) bus Io address first first_register second second_register names.0 names.1 refl)
plain (Split Io address first first_register second second_register) names =
    ap (head 62 (codes "Split") (fault_text (told.Known (given.Known (Split Io address first first_register second second_register)))))
    (split (fault_text (told.Known (given.Known (Split Io address first first_register second second_register)))) Io address first first_register second second_register names.0 names.1 refl)
plain (Unreached slot register Memory address bridge) names =
    ap (head 60 (codes "Unreached") (fault_text (told.Known (given.Known (Unreached slot register Memory address bridge)))))
    (unreached (fault_text (told.Known (given.Known (Unreached slot register Memory address bridge)))) slot register Memory address bridge names
    (three_behind slot (register_text register) (field (codes "mem" ++ field (address_text Memory address))) (field (codes "bridge")) (field (slot_text bridge))))
plain (Clash bus Memory address first first_register second second_register) names =
    ap (head 61 (codes "Clash") (fault_text (told.Known (given.Known (Clash bus Memory address first first_register second second_register)))))
    (clash (fault_text (told.Known (given.Known (Clash bus Memory address first first_register second second_register)))) bus Memory address first first_register second second_register names.0 names.1 refl)
plain (Split Memory address first first_register second second_register) names =
    ap (head 62 (codes "Split") (fault_text (told.Known (given.Known (Split Memory address first first_register second second_register)))))
    (split (fault_text (told.Known (given.Known (Split Memory address first first_register second second_register)))) Memory address first first_register second second_register names.0 names.1 refl)

pub has_told_fault_members : HasToldFaultMembers
unfolding behind_words
has_told_fault_members (told.Known (given.Known fault)) names = plain fault names
has_told_fault_members (told.Known (given.Outside slot register Io address)) names =
    ap (head 63 (codes "Outside") (fault_text (told.Known (given.Outside slot register Io address))))
    (outside (fault_text (told.Known (given.Outside slot register Io address))) slot register Io address names refl)
has_told_fault_members (told.Known (given.Outside slot register Memory address)) names =
    ap (head 63 (codes "Outside") (fault_text (told.Known (given.Outside slot register Memory address))))
    (outside (fault_text (told.Known (given.Outside slot register Memory address))) slot register Memory address names refl)
has_told_fault_members (told.NotListed slot) names =
    ap (head 34 (codes "NotListed") (fault_text (told.NotListed slot))) (slot_alone (fault_text (told.NotListed slot)) slot refl)
