-- The byte with which reading stops is the one that a fault of the text names, and a text has no fault.
use Rattle.std.proofs.Common.{◌≡◌, ◌≢◌, ℕ, zero, suc, ◌+◌, ◌-◌, ◌<◌, ◌≤◌, ◌==◌, nat_lt, not, Bool, true, false, List, [], ◌∷◌, ◌++◌, length, get_or, refl, sym, ◌∙◌, ap, subst, arith, append_assoc, append-nil, inl, inr}
use Rattle.std.specs.List.{All, list_all}
use Rattle.std.proofs.lemmas.Bool.{cond_both, eqb-true, eqb-false, leb-false, not-true, false≢true, and_parts}
use Rattle.pci_spec.specs.Slot.{Slot, slot_number}
use Rattle.pci_spec.specs.System.{Io, Memory}
use Rattle.pci_spec.specs.Text.{TextFault, BadSlot, BadTitle, BadLine, NoBlank, Order, TooMany, Ended, slot_text, line_ends, line_after}
use Rattle.pci_spec.proofs.Forms.{line_ends_append, no_end_cons}
use Rattle.pci_spec.proofs.HexNumbers.{length-hex_number}
use Rattle.judge_spec.specs.Told.{Command, Always, Held, ToldRange, IsToldLine, IsToldRange}
use Rattle.judge_spec.specs.ToldText.{space_word, mark_word, name_text, range_head, told_line, told_text}
use Rattle.judge_spec.specs.ToldStops.{IsBelowLast, BreaksOrder, ToldStopWhere, IsToldFaultOf}
use Rattle.judge_spec.specs.ToldForm.{Bus, Device, Function, First, Last, Place, Digits, After, InSpace, InMark, InName, Begun, blank, no_line, Step, Wrong, Goes, Ends, digit_in, word_step, step_at, step, is_of_slot, ToldSoFar, nothing_read, slot_follows, is_in_order, Reads, Reading, Stopped, line_number, take_step, take_byte, and_then, take_bytes}
use Rattle.judge_spec.proofs.ToldLines.{from, steps, steps-append, IsAt, IsRead, line_read, head_text}
use Rattle.judge_spec.proofs.ToldWhole.{slotted, slot_read, headed, head_read, whole_read}
use Rattle.judge_spec.proofs.ToldRows.{take_bytes-append, IsReading, reading_of, front_of, front_read, wrong_on, goes_once, text_read}

-- ---- line ends

-- no byte of a word is a line end
plain_word : (w : List ℕ) → list_all (λ c. not (c == 10)) w ≡ true → (k : ℕ) → (get_or w k 0 == 10) ≡ false
plain_word [] h k = refl
plain_word (c ∷ w) h zero = not-true (c == 10) (and_parts (not (c == 10)) (list_all (λ c. not (c == 10)) w) h).0
plain_word (c ∷ w) h (suc k) = plain_word w (and_parts (not (c == 10)) (list_all (λ c. not (c == 10)) w) h).1 k

plain_space : (r : ToldRange) → list_all (λ c. not (c == 10)) (space_word r.space r.prefetchable) ≡ true
plain_space r = go r.space r.prefetchable where
  go : (space : _) (prefetchable : Bool) → list_all (λ c. not (c == 10)) (space_word space prefetchable) ≡ true
  go Io prefetchable = refl
  go Memory false = refl
  go Memory true = refl

plain_mark : (r : ToldRange) → list_all (λ c. not (c == 10)) (mark_word r.mark) ≡ true
plain_mark r = go r.mark where
  go : (mark : _) → list_all (λ c. not (c == 10)) (mark_word mark) ≡ true
  go Command = refl
  go Always = refl
  go Held = refl

-- no line goes on with a line end
abbrev Stays : Step → Type 0
Stays Wrong = Unit {0}
Stays (Goes l) = ⊥
Stays (Ends r) = Unit {0}

word_stays : (w : List ℕ) (k : ℕ) (next end : Step) → list_all (λ c. not (c == 10)) w ≡ true → Stays end → Stays (word_step w k next end 10)
word_stays w k next end plain h =
    cond_both (nat_lt k (length w)) _ _ Stays (λ _. cond_both (get_or w k 0 == 10) _ _ Stays (λ yes. absurd (false≢true (sym (plain_word w plain k) ∙ yes))) (λ _. tt)) (λ _. h)

stays : (place : Place) (n : ℕ) (r : ToldRange) → Stays (step_at place n r 10)
unfolding step_at digit_in
stays (Digits f k) n r = tt
stays (After Bus) n r = tt
stays (After Device) n r = tt
stays (After Function) n r = tt
stays (After First) n r = tt
stays (After Last) n r = tt
stays (InSpace k) n r = cond_both (k == 0) _ _ Stays (λ _. tt) (λ _. word_stays (space_word r.space r.prefetchable) k _ _ (plain_space r) tt)
stays (InMark k) n r = cond_both (k == 0) _ _ Stays (λ _. tt) (λ _. word_stays (mark_word r.mark) k _ _ (plain_mark r) tt)
stays InName n r = cond_both (length r.name == 0) _ _ Stays (λ _. tt) (λ _. tt)

goes_ends : (r : ToldRange) (l : Begun) → Ends r ≡ Goes l → ⊥
goes_ends r l e = cc

goes_wrong : (l : Begun) → Goes l ≡ Wrong → ⊥
goes_wrong l e = cc

goes_first : (s : Step) (bytes : List ℕ) (l : Begun) → steps s bytes ≡ Goes l → (m : Begun) × (s ≡ Goes m)
goes_first Wrong bytes l e = absurd (wrong_on bytes (Goes l) e (goes_wrong l))
goes_first (Goes m) bytes l e = (m, refl)
goes_first (Ends r) [] l e = absurd (goes_ends r l e)
goes_first (Ends r) (c ∷ bytes) l e = absurd (wrong_on bytes (Goes l) e (goes_wrong l))

no_ends : (s : Step) (bytes : List ℕ) (l : Begun) → steps s bytes ≡ Goes l → line_ends bytes ≡ 0
no_ends s [] l e = refl
no_ends s (c ∷ bytes) l e =
    let was = goes_first s (c ∷ bytes) l e in
    let next = goes_first (from s c) bytes l e in
    no_end_cons c bytes 0
    (λ end. subst Stays (ap (λ (x : ℕ). step was.0 x) (sym end) ∙ ap (λ (x : Step). from x c) (sym was.1) ∙ next.1) (stays was.0.place was.0.number was.0.range))
    (no_ends (from s c) bytes l e)

line_has_one : (r : ToldRange) → IsToldLine r → line_ends (told_line r) ≡ 1
unfolding told_line
line_has_one r h =
    let body : List ℕ = (range_head r ++ (32 ∷ mark_word r.mark)) ++ name_text r.name in
    let once = goes_once (steps (Goes no_line) body) (10 ∷ []) r (sym (steps-append (Goes no_line) body (10 ∷ [])) ∙ whole_read r h) (λ e. let n = ap length e in let no : ⊥ = omega (arith, n) in no) in
    let none = no_ends (Goes no_line) body once.0 once.1 in
    let all = line_ends_append body (10 ∷ []) in
    all ∙ (let sum : line_ends body + 1 ≡ 1 = omega (arith, none) in sum)

text_lines : (ranges : List ToldRange) → All IsToldRange ranges → line_ends (told_text ranges) ≡ length ranges
text_lines [] each = refl
text_lines (r ∷ ranges) each =
    let one = line_has_one r (each 0 r (omega arith)).line in
    let more = text_lines ranges (λ k d below. each (suc k) d (omega (arith, below))) in
    let all = line_ends_append (told_line r) (told_text ranges) in
    omega (arith, one, more, all)

-- the line of the byte behind what is read
pub line_of : (front : List ℕ) (s : ToldSoFar) → IsReading front s → line_number s.ranges ≡ line_after front
line_of front s h =
    let a = ap line_ends h.split ∙ line_ends_append (told_text s.ranges) h.part in
    let b = text_lines s.ranges h.told.each in
    let c = no_ends (Goes no_line) h.part s.line h.line in
    omega (arith, a, b, c)

-- ---- the first eight bytes

in_slot : (part : List ℕ) (place : Place) (n : ℕ) (r : ToldRange) → IsAt part place n r → is_of_slot place ≡ true → length part < 8
in_slot part (Digits Bus k) n r a h = let l = ap length a.text in let m = length-hex_number k n in let f = a.fits.0 in omega (arith, l, m, f)
in_slot part (Digits Device k) n r a h = let l = ap length a.text in let m = length-hex_number k n in let f = a.fits.0 in omega (arith, l, m, f)
in_slot part (Digits Function k) n r a h = let l = ap length a.text in let m = length-hex_number k n in let f = a.fits.0 in omega (arith, l, m, f)
in_slot part (Digits First k) n r a h = absurd (false≢true h)
in_slot part (Digits Last k) n r a h = absurd (false≢true h)
in_slot part (After Bus) n r a h = let l = ap length a.text in omega (arith, l)
in_slot part (After Device) n r a h = let l = ap length a.text in omega (arith, l)
in_slot part (After Function) n r a h = let l = ap length a.text in omega (arith, l)
in_slot part (After First) n r a h = absurd (false≢true h)
in_slot part (After Last) n r a h = absurd (false≢true h)
in_slot part (InSpace k) n r a h = absurd (false≢true h)
in_slot part (InMark k) n r a h = absurd (false≢true h)
in_slot part InName n r a h = absurd (false≢true h)

-- a text that begins with eight bytes
long : (part : List ℕ) (a b c d e f g h : ℕ) (more : List ℕ) → part ≡ a ∷ b ∷ c ∷ d ∷ e ∷ f ∷ g ∷ h ∷ more → 8 ≤ length part
long part a b c d e f g h more is = let l = ap length is in omega (arith, l)

behind_slot : (part : List ℕ) (place : Place) (n : ℕ) (r : ToldRange) → IsAt part place n r → is_of_slot place ≡ false → 8 ≤ length part
behind_slot part (Digits Bus k) n r a h = absurd (false≢true (sym h))
behind_slot part (Digits Device k) n r a h = absurd (false≢true (sym h))
behind_slot part (Digits Function k) n r a h = absurd (false≢true (sym h))
behind_slot part (Digits First k) n r a h = long part _ _ _ _ _ _ _ _ _ a.text
behind_slot part (Digits Last k) n r a h = long part _ _ _ _ _ _ _ _ _ a.text
behind_slot part (After Bus) n r a h = absurd (false≢true (sym h))
behind_slot part (After Device) n r a h = absurd (false≢true (sym h))
behind_slot part (After Function) n r a h = absurd (false≢true (sym h))
behind_slot part (After First) n r a h = long part _ _ _ _ _ _ _ _ _ a.text
behind_slot part (After Last) n r a h = long part _ _ _ _ _ _ _ _ _ a.text
behind_slot part (InSpace k) n r a h = long part _ _ _ _ _ _ _ _ _ a.text
behind_slot part (InMark k) n r a h = long part _ _ _ _ _ _ _ _ _ a.text
behind_slot part InName n r a h = long part _ _ _ _ _ _ _ _ _ a.text

-- ---- what holds where reading stops

abbrev pub HoldsAt : List ToldRange → List ℕ → ℕ → TextFault → Type 0
HoldsAt ranges part c (BadSlot n) = (n ≡ line_number ranges) × (length part < 8) × (length ranges < 4096) × (BreaksOrder ranges part c → ⊥)
HoldsAt ranges part c (BadTitle n) = ⊥
HoldsAt ranges part c (BadLine n) = (n ≡ line_number ranges) × (8 ≤ length part) × (BreaksOrder ranges part c → ⊥)
HoldsAt ranges part c (NoBlank n) = ⊥
HoldsAt ranges part c (Order n) = (n ≡ line_number ranges) × BreaksOrder ranges part c
HoldsAt ranges part c (TooMany n) = (n ≡ line_number ranges) × (length ranges ≡ 4096)
HoldsAt ranges part c (Ended n) = ⊥

abbrev pub Holds : List ToldRange → List ℕ → ℕ → Reads → Type 0
Holds ranges part c (Reading s) = Unit {0}
Holds ranges part c (Stopped f) = HoldsAt ranges part c f

wrong_goes : (l : Begun) → Wrong ≡ Goes l → ⊥
wrong_goes l e = cc

-- a byte that goes on with no line completes nothing
completes_none : (ranges : List ToldRange) (part : List ℕ) (c : ℕ) → steps (Goes no_line) (part ++ c ∷ []) ≡ Wrong → BreaksOrder ranges part c → ⊥
completes_none ranges part c e (inl (s, is, text, below)) =
    wrong_goes (record { place = After Function; number = 0; range = slotted s })
    (sym e ∙ ap (λ (t : List ℕ). steps (Goes no_line) t) (text ∙ sym (append-nil (slot_text s))) ∙ slot_read s [] is)
completes_none ranges part c e (inr (r, is, text, backward)) =
    wrong_goes (record { place = After Last; number = 0; range = headed r })
    (sym e ∙ ap (λ (t : List ℕ). steps (Goes no_line) t) (text ∙ sym (append-nil (range_head r))) ∙ head_read r [] is)

record LastOf (ranges : List ToldRange) : Type 0 where
  others : List ToldRange
  last : ToldRange
  split : ranges ≡ others ++ last ∷ []
  at : get_or ranges (length ranges - 1) blank ≡ last

last_of : (r : ToldRange) (ranges : List ToldRange) → LastOf (r ∷ ranges)
last_of r [] = record { others = []; last = r; split = refl; at = refl }
last_of r (x ∷ ranges) =
    let v = last_of x ranges in
    let e : length (r ∷ x ∷ ranges) - 1 ≡ suc (length (x ∷ ranges) - 1) = omega arith in
    record { others = r ∷ v.others; last = v.last; split = ap (λ (rs : List ToldRange). r ∷ rs) v.split; at = ap (λ (k : ℕ). get_or (r ∷ x ∷ ranges) k blank) e ∙ v.at }

below_last : (ranges : List ToldRange) (s : Slot) → slot_follows ranges s ≡ false → IsBelowLast ranges s
below_last [] s low = absurd (let no = leb-false 0 (slot_number s) low in let none : ⊥ = omega (arith, no) in none)
below_last (r ∷ ranges) s low =
    let v = last_of r ranges in
    let less = leb-false (slot_number (get_or (r ∷ ranges) (length (r ∷ ranges) - 1) blank).slot) (slot_number s) low in
    let e = ap (λ (x : ToldRange). slot_number x.slot) v.at in
    record { others = v.others; last = v.last; split = v.split; below = omega (arith, less, e) }

out_of_order : (ranges : List ToldRange) (part : List ℕ) (c : ℕ) (place : Place) (n : ℕ) (r : ToldRange) → IsAt (part ++ c ∷ []) place n r → is_in_order ranges place r ≡ false → BreaksOrder ranges part c
out_of_order ranges part c (Digits f k) n r a h = absurd (false≢true (sym h))
out_of_order ranges part c (After Bus) n r a h = absurd (false≢true (sym h))
out_of_order ranges part c (After Device) n r a h = absurd (false≢true (sym h))
out_of_order ranges part c (After Function) n r a h = inl (r.slot, a.fits, a.text, below_last ranges r.slot h)
out_of_order ranges part c (After First) n r a h = absurd (false≢true (sym h))
out_of_order ranges part c (After Last) n r a h =
    inr (r, record { slot = a.fits.0; plain = a.plain; first = a.fits.1; last = a.fits.2; name = a.name }, a.text ∙ head_text r, leb-false r.first r.last h)
out_of_order ranges part c (InSpace k) n r a h = absurd (false≢true (sym h))
out_of_order ranges part c (InMark k) n r a h = absurd (false≢true (sym h))
out_of_order ranges part c InName n r a h = absurd (false≢true (sym h))

stop_step : (front : List ℕ) (s : ToldSoFar) (c : ℕ) (x : Step) (h : IsReading front s) → step s.line c ≡ x → length s.ranges ≢ 4096 → Holds s.ranges h.part c (take_step s.ranges s.line.place x)
stop_step front s c Wrong h e free =
    let room = h.told.room in
    let at : IsAt h.part s.line.place s.line.number s.line.range = subst (λ (x : Step). IsRead h.part x) h.line (line_read h.part) in
    let none = completes_none s.ranges h.part c (steps-append (Goes no_line) h.part (c ∷ []) ∙ ap (λ (x : Step). steps x (c ∷ [])) h.line ∙ e) in
    cond_both (is_of_slot s.line.place) _ _ (λ (f : TextFault). HoldsAt s.ranges h.part c f)
    (λ yes. (refl, in_slot h.part s.line.place s.line.number s.line.range at yes, omega (arith, room, free), none))
    (λ no. (refl, behind_slot h.part s.line.place s.line.number s.line.range at no, none))
stop_step front s c (Goes l) h e free =
    let at : IsAt (h.part ++ c ∷ []) l.place l.number l.range =
    subst (λ (x : Step). IsRead (h.part ++ c ∷ []) x) (steps-append (Goes no_line) h.part (c ∷ []) ∙ ap (λ (x : Step). steps x (c ∷ [])) h.line ∙ e) (line_read (h.part ++ c ∷ [])) in
    cond_both (is_in_order s.ranges l.place l.range) _ _ (λ (x : Reads). Holds s.ranges h.part c x) (λ _. tt)
    (λ bad. (refl, out_of_order s.ranges h.part c l.place l.number l.range at bad))
stop_step front s c (Ends r) h e free = tt

pub stop_byte : (front : List ℕ) (s : ToldSoFar) (c : ℕ) (h : IsReading front s) → Holds s.ranges h.part c (take_byte s c)
unfolding take_byte
stop_byte front s c h =
    cond_both (length s.ranges == 4096) _ _ (λ (x : Reads). Holds s.ranges h.part c x) (λ full. (refl, eqb-true (length s.ranges) 4096 full))
    (λ free. stop_step front s c (step s.line c) h refl (eqb-false (length s.ranges) 4096 free))

-- ---- the fault of a text

pub stopped_reading : (f : TextFault) (s : ToldSoFar) → Stopped f ≡ Reading s → ⊥
stopped_reading f s e = cc

one_byte : (s : ToldSoFar) (c : ℕ) (x : Reads) → take_byte s c ≡ x → take_bytes s (c ∷ []) ≡ and_then x (λ t. take_bytes t [])
unfolding take_bytes
one_byte s c x e = ap (λ (y : Reads). and_then y (λ t. take_bytes t [])) e

stops_there : (front more : List ℕ) (s : ToldSoFar) (c : ℕ) (f : TextFault) (n : ℕ) (P : List ToldRange → List ℕ → ℕ → Type 0) (h : IsReading front s)
    → take_bytes nothing_read front ≡ Reading s → take_byte s c ≡ Stopped f → n ≡ line_number s.ranges → P s.ranges h.part c → ToldStopWhere (front ++ c ∷ more) n P
stops_there front more s c f n P h all stops line holds = record {
  front = front;
  byte = c;
  more = more;
  split = refl;
  ranges = s.ranges;
  part = h.part;
  is_front = front_of front s h;
  bad = (λ (ranges, part, good). (let read = front_read (front ++ c ∷ []) ranges part good in
      stopped_reading f (record { ranges = ranges; line = read.line })
      (sym (take_bytes-append nothing_read front (c ∷ []) ∙ ap (λ (x : Reads). and_then x (λ t. take_bytes t (c ∷ []))) all ∙ one_byte s c (Stopped f) stops) ∙ read.all_read)));
  in_line = line ∙ line_of front s h;
  holds = holds;
}

fault_there : (front more : List ℕ) (s : ToldSoFar) (c : ℕ) (f : TextFault) (h : IsReading front s) → take_bytes nothing_read front ≡ Reading s → take_byte s c ≡ Stopped f → HoldsAt s.ranges h.part c f → IsToldFaultOf (front ++ c ∷ more) f
fault_there front more s c (BadSlot n) h all stops k = stops_there front more s c (BadSlot n) n (λ ranges part c. (length part < 8) × (length ranges < 4096) × (BreaksOrder ranges part c → ⊥)) h all stops k.0 (k.1, k.2, k.3)
fault_there front more s c (BadTitle n) h all stops k = absurd k
fault_there front more s c (BadLine n) h all stops k = stops_there front more s c (BadLine n) n (λ ranges part c. (8 ≤ length part) × (BreaksOrder ranges part c → ⊥)) h all stops k.0 (k.1, k.2)
fault_there front more s c (NoBlank n) h all stops k = absurd k
fault_there front more s c (Order n) h all stops k = stops_there front more s c (Order n) n BreaksOrder h all stops k.0 k.1
fault_there front more s c (TooMany n) h all stops k = stops_there front more s c (TooMany n) n (λ ranges part c. length ranges ≡ 4096) h all stops k.0 k.1
fault_there front more s c (Ended n) h all stops k = absurd k

fault_from : (front bytes more : List ℕ) (s : ToldSoFar) (f : TextFault) → take_bytes nothing_read front ≡ Reading s → take_bytes s bytes ≡ Stopped f → IsToldFaultOf (front ++ (bytes ++ more)) f
unfolding take_bytes
fault_from front [] more s f all stops = absurd (stopped_reading f s (sym stops))
fault_from front (c ∷ bytes) more s f all stops = go (take_byte s c) refl stops (λ t e k. fault_from (front ++ c ∷ []) bytes more t f e k) where
  go : (x : Reads) → take_byte s c ≡ x → and_then x (λ t. take_bytes t bytes) ≡ Stopped f
      → ((t : ToldSoFar) → take_bytes nothing_read (front ++ c ∷ []) ≡ Reading t → take_bytes t bytes ≡ Stopped f → IsToldFaultOf ((front ++ c ∷ []) ++ (bytes ++ more)) f)
      → IsToldFaultOf (front ++ (c ∷ bytes ++ more)) f
  go (Reading t) e k on =
      subst (λ (u : List ℕ). IsToldFaultOf u f) (append_assoc front (c ∷ []) (bytes ++ more))
      (on t (take_bytes-append nothing_read front (c ∷ []) ∙ ap (λ (x : Reads). and_then x (λ t. take_bytes t (c ∷ []))) all ∙ one_byte s c (Reading t) e) k)
  go (Stopped g) e k on =
      let h = reading_of front s all in
      fault_there front (bytes ++ more) s c f h all (e ∙ k) (subst (λ (x : Reads). Holds s.ranges h.part c x) (e ∙ k) (stop_byte front s c h))

-- where reading stops, each text that goes on so has this fault
pub fault_read : (bytes more : List ℕ) (f : TextFault) → take_bytes nothing_read bytes ≡ Stopped f → IsToldFaultOf (bytes ++ more) f
unfolding take_bytes
fault_read bytes more f stops = fault_from [] bytes more nothing_read f refl stops

-- where a line is begun, and no more bytes come
pub fault_at_end : (bytes : List ℕ) (s : ToldSoFar) → take_bytes nothing_read bytes ≡ Reading s → (s.line.place ≡ Digits Bus 0 → ⊥) → IsToldFaultOf bytes (Ended (line_number s.ranges))
fault_at_end bytes s e begun =
    let h = reading_of bytes s e in (
      (s.ranges, h.part, front_of bytes s h),
      (λ ranges text. begun (ap (λ (x : Reads). place_of x) (sym e ∙ text_read bytes ranges text))),
      line_of bytes s h,
    ) where
      place_of : Reads → Place
      place_of (Reading t) = t.line.place
      place_of (Stopped f) = Digits Bus 0
