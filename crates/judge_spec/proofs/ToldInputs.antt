-- Each input is a text of told ranges or has one fault.
use Rattle.std.proofs.Common.{◌≡◌, ◌≢◌, ◌⊎◌, ℕ, zero, suc, ◌<◌, ◌≤◌, List, [], ◌∷◌, ◌++◌, length, refl, sym, ◌∙◌, ap, subst, arith, append_assoc, append-nil, inl, inr}
use Rattle.std.proofs.lemmas.List.{append_cancel_left}
use Rattle.pci_spec.specs.Text.{TextFault, BadSlot, BadTitle, BadLine, NoBlank, Order, TooMany, Ended}
use Rattle.judge_spec.specs.Told.{ToldRange}
use Rattle.judge_spec.specs.ToldText.{told_text, IsToldTextOf}
use Rattle.judge_spec.specs.ToldStops.{IsGoodTold, BreaksOrder, ToldStopWhere, IsToldFaultOf}
use Rattle.judge_spec.specs.ToldForm.{Bus, Device, Function, First, Last, Place, Digits, After, InSpace, InMark, InName, Begun, no_line, ToldSoFar, nothing_read, Reads, Reading, Stopped, line_number, take_byte, and_then, take_bytes}
use Rattle.judge_spec.specs.ToldLaws.{ToldHaveText, ToldHaveOneText, TextTellsOneRow, ToldTextIsGood, ToldBeginningsAreGood, ToldTextHasNoFault, InputHasOneToldFault, InputIsToldOrHasFault}
use Rattle.judge_spec.proofs.ToldRows.{take_bytes-append, IsReading, reading_of, front_of, front_read, text_read, whole_text, one_row, same_reading}
use Rattle.judge_spec.proofs.ToldFaults.{HoldsAt, Holds, stop_byte, stopped_reading, line_of, fault_read, fault_at_end}

pub told_have_text : ToldHaveText
told_have_text ranges told = (told_text ranges, (told, refl))

pub told_have_one_text : ToldHaveOneText
told_have_one_text bytes others ranges text other = text.1 ∙ sym other.1

pub text_tells_one_row : TextTellsOneRow
text_tells_one_row bytes ranges others text other = one_row bytes ranges others text other

-- ---- an input is a text or has a fault

digits_in : Place → ℕ
digits_in (Digits Bus k) = k
digits_in (Digits Device k) = 1
digits_in (Digits Function k) = 1
digits_in (Digits First k) = 1
digits_in (Digits Last k) = 1
digits_in (After f) = 1
digits_in (InSpace k) = 1
digits_in (InMark k) = 1
digits_in InName = 1

is_start : (place : Place) → (place ≡ Digits Bus 0) ⊎ (place ≡ Digits Bus 0 → ⊥)
unfolding digits_in
is_start (Digits Bus zero) = inl refl
is_start (Digits Bus (suc k)) = inr (λ e. let n : suc k ≡ 0 = ap digits_in e in let no : ⊥ = omega (arith, n) in no)
is_start (Digits Device k) = inr (λ e. let n : 1 ≡ 0 = ap digits_in e in let no : ⊥ = omega (arith, n) in no)
is_start (Digits Function k) = inr (λ e. let n : 1 ≡ 0 = ap digits_in e in let no : ⊥ = omega (arith, n) in no)
is_start (Digits First k) = inr (λ e. let n : 1 ≡ 0 = ap digits_in e in let no : ⊥ = omega (arith, n) in no)
is_start (Digits Last k) = inr (λ e. let n : 1 ≡ 0 = ap digits_in e in let no : ⊥ = omega (arith, n) in no)
is_start (After f) = inr (λ e. let n : 1 ≡ 0 = ap digits_in e in let no : ⊥ = omega (arith, n) in no)
is_start (InSpace k) = inr (λ e. let n : 1 ≡ 0 = ap digits_in e in let no : ⊥ = omega (arith, n) in no)
is_start (InMark k) = inr (λ e. let n : 1 ≡ 0 = ap digits_in e in let no : ⊥ = omega (arith, n) in no)
is_start InName = inr (λ e. let n : 1 ≡ 0 = ap digits_in e in let no : ⊥ = omega (arith, n) in no)

pub input_is_told_or_has_fault : InputIsToldOrHasFault
input_is_told_or_has_fault bytes = go (take_bytes nothing_read bytes) refl where
  go : (x : Reads) → take_bytes nothing_read bytes ≡ x → ((ranges : List ToldRange) × IsToldTextOf bytes ranges) ⊎ ((f : TextFault) × IsToldFaultOf bytes f)
  go (Stopped f) e = inr (f, subst (λ (t : List ℕ). IsToldFaultOf t f) (append-nil bytes) (fault_read bytes [] f e))
  go (Reading s) e = elim (is_start s.line.place) [
    | inl start ↦ inl (s.ranges, whole_text bytes s (reading_of bytes s e) start)
    | inr begun ↦ inr (Ended (line_number s.ranges), fault_at_end bytes s e begun)
  ]

-- ---- a text has no fault

prefix_read : (xs ys : List ℕ) (t : ToldSoFar) → take_bytes nothing_read (xs ++ ys) ≡ Reading t → (u : ToldSoFar) × (take_bytes nothing_read xs ≡ Reading u)
prefix_read xs ys t e = go (take_bytes nothing_read xs) refl (sym (take_bytes-append nothing_read xs ys) ∙ e) where
  go : (x : Reads) → take_bytes nothing_read xs ≡ x → and_then x (λ u. take_bytes u ys) ≡ Reading t → (u : ToldSoFar) × (take_bytes nothing_read xs ≡ Reading u)
  go (Reading u) e k = (u, e)
  go (Stopped f) e k = absurd (stopped_reading f t k)

good_read : (bytes : List ℕ) (s : ToldSoFar) → take_bytes nothing_read bytes ≡ Reading s → IsGoodTold bytes
good_read bytes s e = let h = reading_of bytes s e in (s.ranges, h.part, front_of bytes s h)

pub told_text_is_good : ToldTextIsGood
told_text_is_good bytes ranges text = good_read bytes record { ranges = ranges; line = no_line } (text_read bytes ranges text)

pub told_beginnings_are_good : ToldBeginningsAreGood
told_beginnings_are_good front rest (ranges, part, good) =
    let read = front_read (front ++ rest) ranges part good in
    let u = prefix_read front rest record { ranges = ranges; line = read.line } read.all_read in
    good_read front u.0 u.1

stop_is_none : (bytes : List ℕ) (n : ℕ) (P : List ToldRange → List ℕ → ℕ → Type 0) (s : ToldSoFar) → take_bytes nothing_read bytes ≡ Reading s → ToldStopWhere bytes n P → ⊥
stop_is_none bytes n P s e stop =
    let u = prefix_read (stop.front ++ stop.byte ∷ []) stop.more s (ap (λ (t : List ℕ). take_bytes nothing_read t) (append_assoc stop.front (stop.byte ∷ []) stop.more ∙ sym stop.split) ∙ e) in
    stop.bad (good_read (stop.front ++ stop.byte ∷ []) u.0 u.1)

pub told_text_has_no_fault : ToldTextHasNoFault
told_text_has_no_fault bytes ranges (BadSlot n) text fault = stop_is_none bytes n _ _ (text_read bytes ranges text) fault
told_text_has_no_fault bytes ranges (BadTitle n) text fault = fault
told_text_has_no_fault bytes ranges (BadLine n) text fault = stop_is_none bytes n _ _ (text_read bytes ranges text) fault
told_text_has_no_fault bytes ranges (NoBlank n) text fault = fault
told_text_has_no_fault bytes ranges (Order n) text fault = stop_is_none bytes n _ _ (text_read bytes ranges text) fault
told_text_has_no_fault bytes ranges (TooMany n) text fault = stop_is_none bytes n _ _ (text_read bytes ranges text) fault
told_text_has_no_fault bytes ranges (Ended n) text fault = fault.1 ranges text

-- ---- an input has one fault

-- where a text stops as a fault says, reading stops, and with what holds there
record Found (bytes : List ℕ) (n : ℕ) (P : List ToldRange → List ℕ → ℕ → Type 0) : Type 0 where
  ranges : List ToldRange
  part : List ℕ
  byte : ℕ
  fault : TextFault
  stops : take_bytes nothing_read bytes ≡ Stopped fault
  holds : HoldsAt ranges part byte fault
  also : P ranges part byte
  line : n ≡ line_number ranges
  begun : part ≢ [] → length ranges < 4096

byte_then : (s : ToldSoFar) (c : ℕ) (more : List ℕ) (x : Reads) → take_byte s c ≡ x → take_bytes s (c ∷ more) ≡ and_then x (λ t. take_bytes t more)
unfolding take_bytes
byte_then s c more x e = ap (λ (y : Reads). and_then y (λ t. take_bytes t more)) e

none_after : (s : ToldSoFar) → take_bytes s [] ≡ Reading s
unfolding take_bytes
none_after s = refl

front_then : (front more : List ℕ) (s : ToldSoFar) (c : ℕ) (x : Reads) → take_bytes nothing_read front ≡ Reading s → take_byte s c ≡ x → take_bytes nothing_read (front ++ c ∷ more) ≡ and_then x (λ t. take_bytes t more)
front_then front more s c x all e = take_bytes-append nothing_read front (c ∷ more) ∙ ap (λ (y : Reads). and_then y (λ t. take_bytes t (c ∷ more))) all ∙ byte_then s c more x e

found_with : (bytes : List ℕ) (n : ℕ) (P : List ToldRange → List ℕ → ℕ → Type 0) (stop : ToldStopWhere bytes n P) (line : Begun) → take_bytes nothing_read stop.front ≡ Reading record { ranges = stop.ranges; line = line }
    → (x : Reads) → take_byte record { ranges = stop.ranges; line = line } stop.byte ≡ x → Found bytes n P
found_with bytes n P stop line all (Reading t) e =
    absurd (stop.bad (good_read (stop.front ++ stop.byte ∷ []) t (front_then stop.front [] record { ranges = stop.ranges; line = line } stop.byte (Reading t) all e ∙ none_after t)))
found_with bytes n P stop line all (Stopped f) e =
    let s : ToldSoFar = record { ranges = stop.ranges; line = line } in
    let h : IsReading stop.front s = reading_of stop.front s all in
    let same : stop.part ≡ h.part = append_cancel_left (told_text stop.ranges) stop.part h.part (sym stop.is_front.split ∙ h.split) in
    record {
      ranges = stop.ranges;
      part = h.part;
      byte = stop.byte;
      fault = f;
      stops = ap (λ (t : List ℕ). take_bytes nothing_read t) stop.split ∙ front_then stop.front stop.more s stop.byte (Stopped f) all e;
      holds = subst (λ (x : Reads). Holds stop.ranges h.part stop.byte x) e (stop_byte stop.front s stop.byte h);
      also = subst (λ (part : List ℕ). P stop.ranges part stop.byte) same stop.holds;
      line = stop.in_line ∙ sym (line_of stop.front s h);
      begun = h.begun;
    }

found : (bytes : List ℕ) (n : ℕ) (P : List ToldRange → List ℕ → ℕ → Type 0) → ToldStopWhere bytes n P → Found bytes n P
found bytes n P stop =
    let read = front_read stop.front stop.ranges stop.part stop.is_front in
    found_with bytes n P stop read.line read.all_read (take_byte record { ranges = stop.ranges; line = read.line } stop.byte) refl

-- one byte is no slot, and no head of a line
one_breaks_none : (ranges : List ToldRange) (c : ℕ) → BreaksOrder ranges [] c → ⊥
one_breaks_none ranges c (inl (s, is, text, below)) = let l = ap length text in omega (arith, l)
one_breaks_none ranges c (inr (r, is, text, backward)) = let l = ap length text in omega (arith, l)

no_part : (ranges : List ToldRange) (part : List ℕ) → length ranges ≡ 4096 → (part ≢ [] → length ranges < 4096) → part ≡ []
no_part ranges [] full begun = refl
no_part ranges (c ∷ part) full begun =
    absurd (let few = begun (λ e. let l = ap length e in let no : ⊥ = omega (arith, l) in no) in let no : ⊥ = omega (arith, full, few) in no)

slot_same : (n : ℕ) (ranges : List ToldRange) (part : List ℕ) (c : ℕ) (g : TextFault) → n ≡ line_number ranges → length part < 8 → length ranges < 4096 → (BreaksOrder ranges part c → ⊥) → HoldsAt ranges part c g → BadSlot n ≡ g
slot_same n ranges part c (BadSlot k) e short few none h = ap BadSlot (e ∙ sym h.0)
slot_same n ranges part c (BadTitle k) e short few none h = absurd h
slot_same n ranges part c (BadLine k) e short few none h = absurd (let l = h.1 in let no : ⊥ = omega (arith, l, short) in no)
slot_same n ranges part c (NoBlank k) e short few none h = absurd h
slot_same n ranges part c (Order k) e short few none h = absurd (none h.1)
slot_same n ranges part c (TooMany k) e short few none h = absurd (let l = h.1 in let no : ⊥ = omega (arith, l, few) in no)
slot_same n ranges part c (Ended k) e short few none h = absurd h

line_same : (n : ℕ) (ranges : List ToldRange) (part : List ℕ) (c : ℕ) (g : TextFault) → n ≡ line_number ranges → (part ≢ [] → length ranges < 4096) → 8 ≤ length part → (BreaksOrder ranges part c → ⊥) → HoldsAt ranges part c g → BadLine n ≡ g
line_same n ranges part c (BadSlot k) e begun long none h = absurd (let l = h.1 in let no : ⊥ = omega (arith, l, long) in no)
line_same n ranges part c (BadTitle k) e begun long none h = absurd h
line_same n ranges part c (BadLine k) e begun long none h = ap BadLine (e ∙ sym h.0)
line_same n ranges part c (NoBlank k) e begun long none h = absurd h
line_same n ranges part c (Order k) e begun long none h = absurd (none h.1)
line_same n ranges part c (TooMany k) e begun long none h = absurd (let l = ap length (no_part ranges part h.1 begun) in let no : ⊥ = omega (arith, l, long) in no)
line_same n ranges part c (Ended k) e begun long none h = absurd h

order_same : (n : ℕ) (ranges : List ToldRange) (part : List ℕ) (c : ℕ) (g : TextFault) → n ≡ line_number ranges → (part ≢ [] → length ranges < 4096) → BreaksOrder ranges part c → HoldsAt ranges part c g → Order n ≡ g
order_same n ranges part c (BadSlot k) e begun breaks h = absurd (h.3 breaks)
order_same n ranges part c (BadTitle k) e begun breaks h = absurd h
order_same n ranges part c (BadLine k) e begun breaks h = absurd (h.2 breaks)
order_same n ranges part c (NoBlank k) e begun breaks h = absurd h
order_same n ranges part c (Order k) e begun breaks h = ap Order (e ∙ sym h.0)
order_same n ranges part c (TooMany k) e begun breaks h = absurd (one_breaks_none ranges c (subst (λ (t : List ℕ). BreaksOrder ranges t c) (no_part ranges part h.1 begun) breaks))
order_same n ranges part c (Ended k) e begun breaks h = absurd h

many_same : (n : ℕ) (ranges : List ToldRange) (part : List ℕ) (c : ℕ) (g : TextFault) → n ≡ line_number ranges → (part ≢ [] → length ranges < 4096) → length ranges ≡ 4096 → HoldsAt ranges part c g → TooMany n ≡ g
many_same n ranges part c (BadSlot k) e begun full h = absurd (let l = h.2 in let no : ⊥ = omega (arith, l, full) in no)
many_same n ranges part c (BadTitle k) e begun full h = absurd h
many_same n ranges part c (BadLine k) e begun full h = absurd (let l = ap length (no_part ranges part full begun) in let m = h.1 in let no : ⊥ = omega (arith, l, m) in no)
many_same n ranges part c (NoBlank k) e begun full h = absurd h
many_same n ranges part c (Order k) e begun full h = absurd (one_breaks_none ranges c (subst (λ (t : List ℕ). BreaksOrder ranges t c) (no_part ranges part full begun) h.1))
many_same n ranges part c (TooMany k) e begun full h = ap TooMany (e ∙ sym h.0)
many_same n ranges part c (Ended k) e begun full h = absurd h

-- what reading comes to where a text has a fault
abbrev ComesTo : List ℕ → TextFault → Type 0
ComesTo bytes f = (take_bytes nothing_read bytes ≡ Stopped f) ⊎ ((s : ToldSoFar) × (take_bytes nothing_read bytes ≡ Reading s) × (f ≡ Ended (line_number s.ranges)))

comes_to : (bytes : List ℕ) (f : TextFault) → IsToldFaultOf bytes f → ComesTo bytes f
comes_to bytes (BadSlot n) fault =
    let d = found bytes n (λ ranges part c. (length part < 8) × (length ranges < 4096) × (BreaksOrder ranges part c → ⊥)) fault in
    inl (d.stops ∙ ap Stopped (sym (slot_same n d.ranges d.part d.byte d.fault d.line d.also.0 d.also.1 d.also.2 d.holds)))
comes_to bytes (BadTitle n) fault = absurd fault
comes_to bytes (BadLine n) fault =
    let d = found bytes n (λ ranges part c. (8 ≤ length part) × (BreaksOrder ranges part c → ⊥)) fault in
    inl (d.stops ∙ ap Stopped (sym (line_same n d.ranges d.part d.byte d.fault d.line d.begun d.also.0 d.also.1 d.holds)))
comes_to bytes (NoBlank n) fault = absurd fault
comes_to bytes (Order n) fault =
    let d = found bytes n BreaksOrder fault in
    inl (d.stops ∙ ap Stopped (sym (order_same n d.ranges d.part d.byte d.fault d.line d.begun d.also d.holds)))
comes_to bytes (TooMany n) fault =
    let d = found bytes n (λ ranges part c. length ranges ≡ 4096) fault in
    inl (d.stops ∙ ap Stopped (sym (many_same n d.ranges d.part d.byte d.fault d.line d.begun d.also d.holds)))
comes_to bytes (Ended n) fault =
    let read = front_read bytes fault.0.0 fault.0.1 fault.0.2 in
    let s : ToldSoFar = record { ranges = fault.0.0; line = read.line } in
    inr (s, read.all_read, ap Ended (fault.2 ∙ sym (line_of bytes s (reading_of bytes s read.all_read))))

one_stop : (x : Reads) (f g : TextFault) → x ≡ Stopped f → x ≡ Stopped g → f ≡ g
one_stop x f g a b = cc

pub input_has_one_told_fault : InputHasOneToldFault
input_has_one_told_fault bytes f g h k = go (comes_to bytes f h) (comes_to bytes g k) where
  go : ComesTo bytes f → ComesTo bytes g → f ≡ g
  go (inl a) (inl b) = one_stop (take_bytes nothing_read bytes) f g a b
  go (inl a) (inr (s, b, e)) = absurd (stopped_reading f s (sym a ∙ b))
  go (inr (s, a, d)) (inl b) = absurd (stopped_reading g s (sym b ∙ a))
  go (inr (s, a, d)) (inr (t, b, e)) = d ∙ ap (λ (u : ToldSoFar). Ended (line_number u.ranges)) (same_reading s t (sym a ∙ b)) ∙ sym e
