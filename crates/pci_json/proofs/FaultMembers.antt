-- The members that are made of a fault's line are those of the fault.
use Rattle.std.proofs.Common.{◌≡◌, ℕ, List, [], ◌∷◌, ◌++◌, Bool, true, get_or, refl, ap, ap₂, ◌∙◌, codes, if◌then◌else◌}
use Rattle.std.specs.Prelude.{nat_eq}
use Rattle.std.specs.Cmp.Lexicographic.{pointwise}
use Rattle.json.specs.Json.{Json, string}
use Rattle.pci_spec.specs.Slot.{Slot}
use Rattle.pci_spec.specs.Text.{hex_byte, slot_text}
use Rattle.pci_spec.specs.System.{Space, Io, Memory}
use Rattle.pci_spec.specs.Line.{space_text, address_text, fault_name, fault_text}
use Rattle.pci_spec.specs.Fault.{Fault, fault_number, NoVendor, HeaderKind, BarType, BarMask, BarPair, RomMask, WindowMask, CapRange, CapLoop, CapCut, SlotsDiffer, StrayProbe, LoneFunction, OfProfile, BusRange, Orphan, Unreached, Clash, Split}
use Rattle.judge_spec.specs.Fault as given
use Rattle.judge_spec.specs.Line as given_line
use Rattle.pci_json.specs.Lines.{behind_words, word}
use Rattle.pci_json.specs.Members.{hex, json_count, object_of, array_of, also_line_number, register_or_line}
use Rattle.pci_json.specs.Faults.{slot_members, unreached_members, clash_members, split_members, outside_members}
use Rattle.pci_json.specs.FaultValues.{slot_value, region_values, address_values, two_region_values}
use Rattle.pci_json.specs.FaultLaws.{HasFaultMembers, HasGivenFaultMembers}
use Rattle.pci_json.proofs.ProfileTexts.{profile_line}
use Rattle.pci_json.proofs.Words.{AreWords, tail_of, words_of, no_blank, no_plus, byte_ok, slot_ok, space_ok, address_ok}

-- a word behind the number and the name
there : (line w : List ℕ) (ws : List (List ℕ)) → behind_words 2 line ≡ w ++ tail_of ws → AreWords (w ∷ ws) → (k : ℕ) → word k (behind_words 2 line) ≡ get_or (w ∷ ws) k []
there line w ws at ok k = ap (word k) at ∙ words_of w ws ok k

-- ---- the forms of lines

-- a region of a slot, by the word of its register or its line
abbrev pub region_named : Slot → List ℕ → List (List ℕ × Json)
region_named s r = (codes "slot", string (slot_text s)) ∷ register_or_line r

abbrev pub two_regions_named : Slot → List ℕ → Slot → List ℕ → List (List ℕ × Json)
two_regions_named s r t q = (codes "regions", array_of (object_of (region_named s r) ∷ object_of (region_named t q) ∷ [])) ∷ []

of_register : (s : Slot) (r : ℕ) → region_named s (hex_byte r) ≡ region_values s r
of_register s r =
    ap (λ (b : Bool). (codes "slot", string (slot_text s)) ∷ (if b then (codes "line", json_count (also_line_number (hex_byte r))) ∷ [] else (codes "register", hex (hex_byte r)) ∷ [])) (no_plus r)

of_registers : (s : Slot) (r : ℕ) (t : Slot) (q : ℕ) → two_regions_named s (hex_byte r) t (hex_byte q) ≡ two_region_values s r t q
of_registers s r t q =
    ap₂ (λ (v w : List (List ℕ × Json)). (codes "regions", array_of (object_of v ∷ object_of w ∷ [])) ∷ []) (of_register s r) (of_register t q)

pub slot_alone : (line : List ℕ) (s : Slot) → behind_words 2 line ≡ slot_text s → slot_members line ≡ slot_value (codes "slot") s
unfolding behind_words
slot_alone line s at =
    let ok : AreWords (slot_text s ∷ []) = (slot_ok s, tt) in
    let slot : word 2 line ≡ slot_text s = there line (slot_text s) [] at ok 0 in
    let none : word 3 line ≡ [] = there line (slot_text s) [] at ok 1 in
    ap₂ (λ (x y : List ℕ). (codes "slot", string x) ∷ (if pointwise nat_eq y [] then [] else (codes "register", hex y) ∷ [])) slot none

region : (line : List ℕ) (s : Slot) (r : ℕ) → behind_words 2 line ≡ slot_text s ++ tail_of (hex_byte r ∷ []) → slot_members line ≡ region_values s r
unfolding behind_words
region line s r at =
    let ok : AreWords (slot_text s ∷ hex_byte r ∷ []) = (slot_ok s, (byte_ok r, tt)) in
    let slot : word 2 line ≡ slot_text s = there line (slot_text s) (hex_byte r ∷ []) at ok 0 in
    let register : word 3 line ≡ hex_byte r = there line (slot_text s) (hex_byte r ∷ []) at ok 1 in
    ap₂ (λ (x y : List ℕ). (codes "slot", string x) ∷ (if pointwise nat_eq y [] then [] else (codes "register", hex y) ∷ [])) slot register

pub unreached_named : (line : List ℕ) (s : Slot) (r : List ℕ) (space : Space) (a : ℕ) (b : Slot)
    → no_blank r ≡ true
    → behind_words 2 line ≡ slot_text s ++ tail_of (r ∷ space_text space ∷ address_text space a ∷ codes "bridge" ∷ slot_text b ∷ [])
    → unreached_members line ≡ region_named s r ++ (address_values space a ++ slot_value (codes "bridge") b)
unfolding behind_words
unreached_named line s r space a b r_ok at =
    let ws : List (List ℕ) = r ∷ space_text space ∷ address_text space a ∷ codes "bridge" ∷ slot_text b ∷ [] in
    let ok : AreWords (slot_text s ∷ r ∷ space_text space ∷ address_text space a ∷ codes "bridge" ∷ slot_text b ∷ []) = (slot_ok s, (r_ok, (space_ok space, (address_ok space a, (refl, (slot_ok b, tt)))))) in
    let w2 : word 2 line ≡ slot_text s = there line (slot_text s) ws at ok 0 in
    let w3 : word 3 line ≡ r = there line (slot_text s) ws at ok 1 in
    let w4 : word 4 line ≡ space_text space = there line (slot_text s) ws at ok 2 in
    let w5 : word 5 line ≡ address_text space a = there line (slot_text s) ws at ok 3 in
    let w7 : word 7 line ≡ slot_text b = there line (slot_text s) ws at ok 5 in
    cc (w2, w3, w4, w5, w7)

unreached : (line : List ℕ) (s : Slot) (r : ℕ) (space : Space) (a : ℕ) (b : Slot)
    → behind_words 2 line ≡ slot_text s ++ tail_of (hex_byte r ∷ space_text space ∷ address_text space a ∷ codes "bridge" ∷ slot_text b ∷ [])
    → unreached_members line ≡ region_values s r ++ (address_values space a ++ slot_value (codes "bridge") b)
unreached line s r space a b at =
    unreached_named line s (hex_byte r) space a b (byte_ok r) at
    ∙ ap (λ (v : List (List ℕ × Json)). v ++ (address_values space a ++ slot_value (codes "bridge") b)) (of_register s r)

pub clash_named : (line : List ℕ) (bus : ℕ) (space : Space) (a : ℕ) (s : Slot) (r : List ℕ) (t : Slot) (q : List ℕ)
    → no_blank r ≡ true → no_blank q ≡ true
    → behind_words 2 line ≡ codes "bus" ++ tail_of (hex_byte bus ∷ space_text space ∷ address_text space a ∷ slot_text s ∷ r ∷ slot_text t ∷ q ∷ [])
    → clash_members line ≡ (codes "bus", string (hex_byte bus)) ∷ (address_values space a ++ two_regions_named s r t q)
unfolding behind_words
clash_named line bus space a s r t q r_ok q_ok at =
    let ws : List (List ℕ) = hex_byte bus ∷ space_text space ∷ address_text space a ∷ slot_text s ∷ r ∷ slot_text t ∷ q ∷ [] in
    let ok : AreWords (codes "bus" ∷ hex_byte bus ∷ space_text space ∷ address_text space a ∷ slot_text s ∷ r ∷ slot_text t ∷ q ∷ []) = (refl, (byte_ok bus, (space_ok space, (address_ok space a, (slot_ok s, (r_ok, (slot_ok t, (q_ok, tt)))))))) in
    let w3 : word 3 line ≡ hex_byte bus = there line (codes "bus") ws at ok 1 in
    let w4 : word 4 line ≡ space_text space = there line (codes "bus") ws at ok 2 in
    let w5 : word 5 line ≡ address_text space a = there line (codes "bus") ws at ok 3 in
    let w6 : word 6 line ≡ slot_text s = there line (codes "bus") ws at ok 4 in
    let w7 : word 7 line ≡ r = there line (codes "bus") ws at ok 5 in
    let w8 : word 8 line ≡ slot_text t = there line (codes "bus") ws at ok 6 in
    let w9 : word 9 line ≡ q = there line (codes "bus") ws at ok 7 in
    cc (w3, w4, w5, w6, w7, w8, w9)

clash : (line : List ℕ) (bus : ℕ) (space : Space) (a : ℕ) (s : Slot) (r : ℕ) (t : Slot) (q : ℕ)
    → behind_words 2 line ≡ codes "bus" ++ tail_of (hex_byte bus ∷ space_text space ∷ address_text space a ∷ slot_text s ∷ hex_byte r ∷ slot_text t ∷ hex_byte q ∷ [])
    → clash_members line ≡ (codes "bus", string (hex_byte bus)) ∷ (address_values space a ++ two_region_values s r t q)
clash line bus space a s r t q at =
    clash_named line bus space a s (hex_byte r) t (hex_byte q) (byte_ok r) (byte_ok q) at
    ∙ ap (λ (v : List (List ℕ × Json)). (codes "bus", string (hex_byte bus)) ∷ (address_values space a ++ v)) (of_registers s r t q)

pub split_named : (line : List ℕ) (space : Space) (a : ℕ) (s : Slot) (r : List ℕ) (t : Slot) (q : List ℕ)
    → no_blank r ≡ true → no_blank q ≡ true
    → behind_words 2 line ≡ space_text space ++ tail_of (address_text space a ∷ slot_text s ∷ r ∷ slot_text t ∷ q ∷ [])
    → split_members line ≡ address_values space a ++ two_regions_named s r t q
unfolding behind_words
split_named line space a s r t q r_ok q_ok at =
    let ws : List (List ℕ) = address_text space a ∷ slot_text s ∷ r ∷ slot_text t ∷ q ∷ [] in
    let ok : AreWords (space_text space ∷ address_text space a ∷ slot_text s ∷ r ∷ slot_text t ∷ q ∷ []) = (space_ok space, (address_ok space a, (slot_ok s, (r_ok, (slot_ok t, (q_ok, tt)))))) in
    let w2 : word 2 line ≡ space_text space = there line (space_text space) ws at ok 0 in
    let w3 : word 3 line ≡ address_text space a = there line (space_text space) ws at ok 1 in
    let w4 : word 4 line ≡ slot_text s = there line (space_text space) ws at ok 2 in
    let w5 : word 5 line ≡ r = there line (space_text space) ws at ok 3 in
    let w6 : word 6 line ≡ slot_text t = there line (space_text space) ws at ok 4 in
    let w7 : word 7 line ≡ q = there line (space_text space) ws at ok 5 in
    cc (w2, w3, w4, w5, w6, w7)

split : (line : List ℕ) (space : Space) (a : ℕ) (s : Slot) (r : ℕ) (t : Slot) (q : ℕ)
    → behind_words 2 line ≡ space_text space ++ tail_of (address_text space a ∷ slot_text s ∷ hex_byte r ∷ slot_text t ∷ hex_byte q ∷ [])
    → split_members line ≡ address_values space a ++ two_region_values s r t q
split line space a s r t q at =
    split_named line space a s (hex_byte r) t (hex_byte q) (byte_ok r) (byte_ok q) at
    ∙ ap (λ (v : List (List ℕ × Json)). address_values space a ++ v) (of_registers s r t q)

pub outside_named : (line : List ℕ) (s : Slot) (r : List ℕ) (space : Space) (a : ℕ)
    → no_blank r ≡ true
    → behind_words 2 line ≡ slot_text s ++ tail_of (r ∷ space_text space ∷ address_text space a ∷ [])
    → outside_members line ≡ region_named s r ++ address_values space a
unfolding behind_words
outside_named line s r space a r_ok at =
    let ws : List (List ℕ) = r ∷ space_text space ∷ address_text space a ∷ [] in
    let ok : AreWords (slot_text s ∷ r ∷ space_text space ∷ address_text space a ∷ []) = (slot_ok s, (r_ok, (space_ok space, (address_ok space a, tt)))) in
    let w2 : word 2 line ≡ slot_text s = there line (slot_text s) ws at ok 0 in
    let w3 : word 3 line ≡ r = there line (slot_text s) ws at ok 1 in
    let w4 : word 4 line ≡ space_text space = there line (slot_text s) ws at ok 2 in
    let w5 : word 5 line ≡ address_text space a = there line (slot_text s) ws at ok 3 in
    cc (w2, w3, w4, w5)

outside : (line : List ℕ) (s : Slot) (r : ℕ) (space : Space) (a : ℕ)
    → behind_words 2 line ≡ slot_text s ++ tail_of (hex_byte r ∷ space_text space ∷ address_text space a ∷ [])
    → outside_members line ≡ region_values s r ++ address_values space a
outside line s r space a at =
    outside_named line s (hex_byte r) space a (byte_ok r) at
    ∙ ap (λ (v : List (List ℕ × Json)). v ++ address_values space a) (of_register s r)

-- ---- each fault

abbrev pub head : ℕ → List ℕ → List ℕ → List (List ℕ × Json) → List (List ℕ × Json)
head number name line named = (codes "number", json_count number) ∷ (codes "name", string name) ∷ (codes "text", string line) ∷ named

of_slot : (f : Fault) → (s : Slot) → behind_words 2 (fault_text f) ≡ slot_text s → head (fault_number f) (fault_name f) (fault_text f) (slot_members (fault_text f)) ≡ head (fault_number f) (fault_name f) (fault_text f) (slot_value (codes "slot") s)
of_slot f s at = ap (head (fault_number f) (fault_name f) (fault_text f)) (slot_alone (fault_text f) s at)

of_region : (f : Fault) → (s : Slot) (r : ℕ) → behind_words 2 (fault_text f) ≡ slot_text s ++ tail_of (hex_byte r ∷ []) → head (fault_number f) (fault_name f) (fault_text f) (slot_members (fault_text f)) ≡ head (fault_number f) (fault_name f) (fault_text f) (region_values s r)
of_region f s r at = ap (head (fault_number f) (fault_name f) (fault_text f)) (region (fault_text f) s r at)

pub has_fault_members : HasFaultMembers
unfolding behind_words
has_fault_members (NoVendor slot) = of_slot (NoVendor slot) slot refl
has_fault_members (HeaderKind slot) = of_slot (HeaderKind slot) slot refl
has_fault_members (SlotsDiffer slot) = of_slot (SlotsDiffer slot) slot refl
has_fault_members (LoneFunction slot) = of_slot (LoneFunction slot) slot refl
has_fault_members (OfProfile fault slot) = (profile_line fault slot).members ∙ of_slot (OfProfile fault slot) slot (profile_line fault slot).rest
has_fault_members (BusRange slot) = of_slot (BusRange slot) slot refl
has_fault_members (Orphan slot) = of_slot (Orphan slot) slot refl
has_fault_members (BarType slot register) = of_region (BarType slot register) slot register refl
has_fault_members (BarMask slot register) = of_region (BarMask slot register) slot register refl
has_fault_members (BarPair slot register) = of_region (BarPair slot register) slot register refl
has_fault_members (RomMask slot register) = of_region (RomMask slot register) slot register refl
has_fault_members (WindowMask slot register) = of_region (WindowMask slot register) slot register refl
has_fault_members (CapRange slot register) = of_region (CapRange slot register) slot register refl
has_fault_members (CapLoop slot register) = of_region (CapLoop slot register) slot register refl
has_fault_members (CapCut slot register) = of_region (CapCut slot register) slot register refl
has_fault_members (StrayProbe slot register) = of_region (StrayProbe slot register) slot register refl
has_fault_members (Unreached slot register Io address bridge) =
    ap (head 60 (codes "Unreached") (fault_text (Unreached slot register Io address bridge))) (unreached (fault_text (Unreached slot register Io address bridge)) slot register Io address bridge refl)
has_fault_members (Clash bus Io address first first_register second second_register) =
    ap (head 61 (codes "Clash") (fault_text (Clash bus Io address first first_register second second_register)))
    (clash (fault_text (Clash bus Io address first first_register second second_register)) bus Io address first first_register second second_register refl)
has_fault_members (Split Io address first first_register second second_register) =
    ap (head 62 (codes "Split") (fault_text (Split Io address first first_register second second_register)))
    (split (fault_text (Split Io address first first_register second second_register)) Io address first first_register second second_register refl)
has_fault_members (Unreached slot register Memory address bridge) =
    ap (head 60 (codes "Unreached") (fault_text (Unreached slot register Memory address bridge))) (unreached (fault_text (Unreached slot register Memory address bridge)) slot register Memory address bridge refl)
has_fault_members (Clash bus Memory address first first_register second second_register) =
    ap (head 61 (codes "Clash") (fault_text (Clash bus Memory address first first_register second second_register)))
    (clash (fault_text (Clash bus Memory address first first_register second second_register)) bus Memory address first first_register second second_register refl)
has_fault_members (Split Memory address first first_register second second_register) =
    ap (head 62 (codes "Split") (fault_text (Split Memory address first first_register second second_register)))
    (split (fault_text (Split Memory address first first_register second second_register)) Memory address first first_register second second_register refl)

pub has_given_fault_members : HasGivenFaultMembers
unfolding behind_words
has_given_fault_members (given.Known fault) = has_fault_members fault
has_given_fault_members (given.Outside slot register Io address) =
    ap (head 63 (codes "Outside") (given_line.fault_text (given.Outside slot register Io address)))
    (outside (given_line.fault_text (given.Outside slot register Io address)) slot register Io address refl)
has_given_fault_members (given.Outside slot register Memory address) =
    ap (head 63 (codes "Outside") (given_line.fault_text (given.Outside slot register Memory address)))
    (outside (given_line.fault_text (given.Outside slot register Memory address)) slot register Memory address refl)
