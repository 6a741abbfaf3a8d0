-- An input stops being good at one byte, in one line and with one fault.
use Rattle.std.proofs.Common.{◌≡◌, ℕ, ◌<◌, ◌≤◌, inl, inr, List, [], ◌∷◌, ◌++◌, refl, arith, sym, ◌∙◌, ap, subst, length, append_assoc}
use Rattle.std.specs.Prelude.{if◌then◌else◌, ◌==◌}
use Rattle.std.specs.Bool.{nat_le, nat_lt}
use Rattle.std.proofs.lemmas.Bool.{cases_lt, eq-eqb, ne_eqb, lt-ltb, le-ltb, le-leb, lt-leb}
use Rattle.std.proofs.lemmas.List.{length-append}
use Rattle.pci_spec.specs.Text.{Block, slot_text, title_text, text_of, BeginsBlock, IsFront, IsGood, line_ends, line_after, TextFault, BadSlot, BadTitle, BadLine, NoBlank, Order, TooMany, Ended, StopsWhere, IsFaultOf}
use Rattle.pci_spec.specs.Form.{slot_cells}
use Rattle.pci_spec.specs.TextLaws.{DumpHasText, DumpHasOneText, TextIsOfOneDump, InputHasOneFault, TextHasNoFault}
use Rattle.pci_spec.proofs.Spelling.{text_same, front_same, head_same, tail_same}
use Rattle.pci_spec.proofs.Forms.{parts_of, line_ends_append, ends_of, fits_slot}
use Rattle.pci_spec.proofs.Stopping.{longer}
use Rattle.pci_spec.proofs.Beginnings.{beginnings_are_good, text_is_good, begun_with_part}

-- ---- a dump and its text

pub dump_has_text : DumpHasText
dump_has_text blocks dump = (text_of blocks, (dump, refl))

pub dump_has_one_text : DumpHasOneText
dump_has_one_text bytes others blocks h k = h.1 ∙ sym k.1

pub text_is_of_one_dump : TextIsOfOneDump
text_is_of_one_dump bytes blocks others h k = text_same blocks others h.0.each k.0.each (sym h.1 ∙ k.1)

-- ---- the place of a fault

-- what a place says of the blocks, the part and the byte there
abbrev pub Says : Type 1
Says = List Block → List ℕ → ℕ → Type 0

-- where an input stops it isn't good
pub not_good_at_stop : (bytes : List ℕ) (line : ℕ) (P : Says) → StopsWhere bytes line P → IsGood bytes → ⊥
not_good_at_stop bytes line P s good =
    let split : bytes ≡ (s.front ++ s.byte ∷ []) ++ s.more = s.split ∙ sym (append_assoc s.front (s.byte ∷ []) s.more) in
    s.bad (beginnings_are_good (s.front ++ s.byte ∷ []) s.more (subst IsGood split good))

not_later : (bytes : List ℕ) (l m : ℕ) (P Q : Says) (s : StopsWhere bytes l P) (t : StopsWhere bytes m Q) → length s.front < length t.front → ⊥
not_later bytes l m P Q s t below =
    let one = length-append s.front (s.byte ∷ []) in
    let e : (s.front ++ s.byte ∷ []) ++ s.more ≡ t.front ++ t.byte ∷ t.more = append_assoc s.front (s.byte ∷ []) s.more ∙ sym s.split ∙ t.split in
    let longer_one = longer (s.front ++ s.byte ∷ []) s.more t.front (t.byte ∷ t.more) e (omega (arith, one, below)) in
    let good : IsGood t.front = (t.blocks, t.part, t.is_front) in
    s.bad (beginnings_are_good (s.front ++ s.byte ∷ []) longer_one.r (subst IsGood longer_one.whole good))

-- two beginnings of the same length, and what follows
same_split : (a b : List ℕ) (x y : ℕ) (more rest : List ℕ) → length a ≡ length b → a ++ x ∷ more ≡ b ++ y ∷ rest → (a ≡ b) × (x ≡ y)
same_split [] [] x y more rest long e = (refl, head_same _ _ _ _ e)
same_split [] (d ∷ b) x y more rest long e = absurd (let no : ⊥ = omega (arith, long) in no)
same_split (c ∷ a) [] x y more rest long e = absurd (let no : ⊥ = omega (arith, long) in no)
same_split (c ∷ a) (d ∷ b) x y more rest long e =
    let first = head_same _ _ _ _ e in
    let others = same_split a b x y more rest (omega (arith, long)) (tail_same _ _ _ _ e) in
    ((λ i. first i ∷ others.0 i), others.1)

-- two stops of one input are at one place
pub record IsSameStop (bytes : List ℕ) (l m : ℕ) (P Q : Says) (s : StopsWhere bytes l P) (t : StopsWhere bytes m Q) : Type 0 where
  pub line : l ≡ m
  pub byte : s.byte ≡ t.byte
  pub blocks : s.blocks ≡ t.blocks
  pub part : s.part ≡ t.part

pub same_stop : (bytes : List ℕ) (l m : ℕ) (P Q : Says) (s : StopsWhere bytes l P) (t : StopsWhere bytes m Q) → IsSameStop bytes l m P Q s t
same_stop bytes l m P Q s t =
    let long : length s.front ≡ length t.front = elim (cases_lt (length s.front) (length t.front)) [
      | inl below ↦ absurd (not_later bytes l m P Q s t below)
      | inr rest ↦ elim (cases_lt (length t.front) (length s.front)) [
        | inl below ↦ absurd (not_later bytes m l Q P t s below)
        | inr other ↦ omega arith
      ]
    ] in
    let both = same_split s.front t.front s.byte t.byte s.more t.more long (sym s.split ∙ t.split) in
    let p = s.is_front.next in
    let q = t.is_front.next in
    let fronts = front_same s.blocks t.blocks s.part t.part s.is_front.each t.is_front.each (p.0, p.1) (q.0, q.1) (sym s.is_front.split ∙ both.0 ∙ t.is_front.split) in
    record { line = s.in_line ∙ ap line_after both.0 ∙ sym t.in_line; byte = both.1; blocks = fronts.0; part = fronts.1 }

-- ---- which fault a place has

-- the part of a block in which a byte stands, by the whole blocks before it, the bytes of its own block and their line ends
abbrev pub zone : ℕ → ℕ → ℕ → ℕ
zone blocks bytes ends =
    if blocks == 4096 then 4
    else if ends == 0 then (if nat_lt bytes 8 then 0 else 1)
    else if nat_le ends 16 then 2
    else 3

abbrev pub zone_of : TextFault → ℕ
zone_of (BadSlot line) = 0
zone_of (BadTitle line) = 1
zone_of (BadLine line) = 2
zone_of (NoBlank line) = 3
zone_of (Order line) = 0
zone_of (TooMany line) = 4
zone_of (Ended line) = 5

abbrev pub line_of : TextFault → ℕ
line_of (BadSlot line) = line
line_of (BadTitle line) = line
line_of (BadLine line) = line
line_of (NoBlank line) = line
line_of (Order line) = line
line_of (TooMany line) = line
line_of (Ended line) = line

in_slot : (blocks bytes ends : ℕ) → blocks < 4096 → bytes < 8 → ends ≡ 0 → zone blocks bytes ends ≡ 0
in_slot blocks bytes ends few short none = rw (ne_eqb blocks 4096 (λ e. omega (arith, e, few)), eq-eqb ends 0 none, lt-ltb bytes 8 short) refl

in_title : (blocks bytes ends : ℕ) → blocks < 4096 → 8 ≤ bytes → ends ≡ 0 → zone blocks bytes ends ≡ 1
in_title blocks bytes ends few long none = rw (ne_eqb blocks 4096 (λ e. omega (arith, e, few)), eq-eqb ends 0 none, le-ltb bytes 8 long) refl

in_byte_line : (blocks bytes ends : ℕ) → blocks < 4096 → 1 ≤ ends → ends ≤ 16 → zone blocks bytes ends ≡ 2
in_byte_line blocks bytes ends few some most = rw (ne_eqb blocks 4096 (λ e. omega (arith, e, few)), ne_eqb ends 0 (λ e. omega (arith, e, some)), le-leb ends 16 most) refl

in_empty_line : (blocks bytes ends : ℕ) → blocks < 4096 → ends ≡ 17 → zone blocks bytes ends ≡ 3
in_empty_line blocks bytes ends few all = rw (ne_eqb blocks 4096 (λ e. omega (arith, e, few)), ne_eqb ends 0 (λ e. omega (arith, e, all)), lt-leb ends 16 (omega (arith, all))) refl

after_all : (blocks bytes ends : ℕ) → blocks ≡ 4096 → zone blocks bytes ends ≡ 4
after_all blocks bytes ends full = rw (eq-eqb blocks 4096 full) refl

-- less than a slot and a byte has no line end
pub no_end_in_slot : (part : List ℕ) → BeginsBlock part → length part < 8 → line_ends part ≡ 0
no_end_in_slot part begun short =
    let b = begun.0 in
    let p = parts_of b begun.1.block in
    let slot = longer part begun.1.rest (slot_text b.slot) (title_text b.title ++ 10 ∷ p.rest) (begun.1.whole ∙ p.text) (omega (arith, short)) in
    let none = ends_of slot_cells (slot_text b.slot) (fits_slot b.slot begun.1.block.slot) in
    let all = ap line_ends slot.whole ∙ line_ends_append part slot.r in
    omega (arith, none, all)

-- where a part is begun there is room for its block
pub room_for_part : (front : List ℕ) (blocks : List Block) (part : List ℕ) → IsFront front blocks part → 1 ≤ length part → length blocks < 4096
room_for_part front blocks part f some = let begun = begun_with_part blocks part some in let r = f.room in omega (arith, begun, r)

some_part : (part : List ℕ) → 1 ≤ line_ends part → 1 ≤ length part
some_part [] h = omega (arith, h)
some_part (c ∷ part) h = omega arith

abbrev pub IsInZone : ℕ → Says
IsInZone z blocks part byte = zone (length blocks) (length part) (line_ends part) ≡ z

with_zone : (bytes : List ℕ) (line z : ℕ) (P : Says) (s : StopsWhere bytes line P) → IsInZone z s.blocks s.part s.byte → StopsWhere bytes line (IsInZone z)
with_zone bytes line z P s h = record { front = s.front; byte = s.byte; more = s.more; split = s.split; blocks = s.blocks; part = s.part; is_front = s.is_front; bad = s.bad; in_line = s.in_line; holds = h }

pub begins_part : (front : List ℕ) (blocks : List Block) (part : List ℕ) → IsFront front blocks part → BeginsBlock part
begins_part front blocks part f = let next = f.next in (next.0, next.1)

-- a fault but Ended is at a stop in its zone
pub fault_zone : (bytes : List ℕ) (f : TextFault) → zone_of f < 5 → IsFaultOf bytes f → StopsWhere bytes (line_of f) (IsInZone (zone_of f))
fault_zone bytes (BadSlot line) early h =
    let s = h in
    with_zone bytes line 0 _ s (in_slot (length s.blocks) (length s.part) (line_ends s.part) s.holds.0 s.holds.1 (no_end_in_slot s.part (begins_part s.front s.blocks s.part s.is_front) s.holds.1))
fault_zone bytes (BadTitle line) early h =
    let s = h in
    with_zone bytes line 1 _ s (in_title (length s.blocks) (length s.part) (line_ends s.part) (room_for_part s.front s.blocks s.part s.is_front (let l = s.holds.0 in omega (arith, l))) s.holds.0 s.holds.1)
fault_zone bytes (BadLine line) early h =
    let s = h in
    with_zone bytes line 2 _ s (in_byte_line (length s.blocks) (length s.part) (line_ends s.part) (room_for_part s.front s.blocks s.part s.is_front (some_part s.part s.holds.0)) s.holds.0 s.holds.1)
fault_zone bytes (NoBlank line) early h =
    let s = h in
    with_zone bytes line 3 _ s (in_empty_line (length s.blocks) (length s.part) (line_ends s.part) (room_for_part s.front s.blocks s.part s.is_front (some_part s.part (let l = s.holds in omega (arith, l)))) s.holds)
fault_zone bytes (Order line) early h =
    let s = h in
    let six = s.holds.0 in
    with_zone bytes line 0 _ s (in_slot (length s.blocks) (length s.part) (line_ends s.part) (room_for_part s.front s.blocks s.part s.is_front (omega (arith, six))) (omega (arith, six)) (no_end_in_slot s.part (begins_part s.front s.blocks s.part s.is_front) (omega (arith, six))))
fault_zone bytes (TooMany line) early h =
    let s = h in
    with_zone bytes line 4 _ s (after_all (length s.blocks) (length s.part) (line_ends s.part) s.holds)
fault_zone bytes (Ended line) early h = absurd (omega (arith, early))

-- two faults of one input that aren't Ended are in one line and one zone
one_line : (bytes : List ℕ) (f g : TextFault) → zone_of f < 5 → zone_of g < 5 → IsFaultOf bytes f → IsFaultOf bytes g → line_of f ≡ line_of g
one_line bytes f g early soon h k = (same_stop bytes _ _ _ _ (fault_zone bytes f early h) (fault_zone bytes g soon k)).line

one_zone : (bytes : List ℕ) (f g : TextFault) → zone_of f < 5 → zone_of g < 5 → IsFaultOf bytes f → IsFaultOf bytes g → zone_of f ≡ zone_of g
one_zone bytes f g early soon h k =
    let s = fault_zone bytes f early h in
    let t = fault_zone bytes g soon k in
    let same = same_stop bytes _ _ _ _ s t in
    let zones : zone (length s.blocks) (length s.part) (line_ends s.part) ≡ zone (length t.blocks) (length t.part) (line_ends t.part) =
    λ i. zone (length (same.blocks i)) (length (same.part i)) (line_ends (same.part i)) in
    sym s.holds ∙ zones ∙ t.holds

ended_alone : (bytes : List ℕ) (line : ℕ) (g : TextFault) → zone_of g < 5 → IsFaultOf bytes (Ended line) → IsFaultOf bytes g → ⊥
ended_alone bytes line g soon h k = not_good_at_stop bytes _ _ (fault_zone bytes g soon k) h.0

-- a byte completes a slot or it doesn't
slot_or_order : (bytes : List ℕ) (l m : ℕ) → IsFaultOf bytes (BadSlot l) → IsFaultOf bytes (Order m) → ⊥
slot_or_order bytes l m h k =
    let s = h in
    let t = k in
    let same = same_stop bytes _ _ _ _ s t in
    let back : t.part ++ t.byte ∷ [] ≡ s.part ++ s.byte ∷ [] = sym (λ i. same.part i ++ same.byte i ∷ []) in
    s.holds.2 (subst BeginsBlock back t.holds.1)

pub input_has_one_fault : InputHasOneFault
input_has_one_fault bytes (BadSlot l) (BadSlot m) h k = ap BadSlot (one_line bytes (BadSlot l) (BadSlot m) (omega arith) (omega arith) h k)
input_has_one_fault bytes (BadTitle l) (BadTitle m) h k = ap BadTitle (one_line bytes (BadTitle l) (BadTitle m) (omega arith) (omega arith) h k)
input_has_one_fault bytes (BadLine l) (BadLine m) h k = ap BadLine (one_line bytes (BadLine l) (BadLine m) (omega arith) (omega arith) h k)
input_has_one_fault bytes (NoBlank l) (NoBlank m) h k = ap NoBlank (one_line bytes (NoBlank l) (NoBlank m) (omega arith) (omega arith) h k)
input_has_one_fault bytes (Order l) (Order m) h k = ap Order (one_line bytes (Order l) (Order m) (omega arith) (omega arith) h k)
input_has_one_fault bytes (TooMany l) (TooMany m) h k = ap TooMany (one_line bytes (TooMany l) (TooMany m) (omega arith) (omega arith) h k)
input_has_one_fault bytes (Ended l) (Ended m) h k = ap Ended (h.2 ∙ sym k.2)
input_has_one_fault bytes (BadSlot l) (Order m) h k = absurd (slot_or_order bytes l m h k)
input_has_one_fault bytes (Order l) (BadSlot m) h k = absurd (slot_or_order bytes m l k h)
input_has_one_fault bytes (Ended l) g h k = absurd (ended_alone bytes l g (omega arith) h k)
input_has_one_fault bytes f (Ended m) h k = absurd (ended_alone bytes m f (omega arith) k h)
input_has_one_fault bytes f g h k = absurd (let same = one_zone bytes f g (omega arith) (omega arith) h k in let no : ⊥ = omega (arith, same) in no)

pub text_has_no_fault : TextHasNoFault
text_has_no_fault bytes blocks (Ended line) text h = h.1 blocks text
text_has_no_fault bytes blocks f text h = not_good_at_stop bytes _ _ (fault_zone bytes f (omega arith) h) (text_is_good bytes blocks text)
