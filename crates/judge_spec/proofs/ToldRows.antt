-- Bytes that are read without a fault are the good beginnings, and those that end with a line are the texts.
use Rattle.std.proofs.Common.{◌≡◌, ◌≢◌, ◌⊎◌, ℕ, ◌+◌, ◌-◌, ◌<◌, ◌≤◌, ◌==◌, true, List, [], ◌∷◌, ◌++◌, length, take, get_or, refl, sym, ◌∙◌, ap, subst, arith, lit≤, append_assoc, append-nil, inl, inr}
use Rattle.std.proofs.lemmas.Bool.{cond_both, cond-true, cond-false, eqb-false, ne_eqb, leb-true, le-leb, cases_eq}
use Rattle.std.proofs.lemmas.List.{length-append, get_or_append_left, get_or-append-add, get_or_default}
use Rattle.std.proofs.lemmas.List.Elements.{All-push}
use Rattle.std.proofs.lemmas.List.Sorted.{IsNonDecreasingBy-push}
use Rattle.std.proofs.lemmas.Grind.{flat_map-append}
use Rattle.pci_spec.specs.Slot.{Slot, slot_number}
use Rattle.pci_spec.specs.Text.{Ended, slot_text}
use Rattle.pci_spec.specs.Line.{address_text}
use Rattle.judge_spec.specs.Told.{ToldRange, IsToldRange, AreInSlotOrder, IsTold}
use Rattle.judge_spec.specs.ToldText.{mark_word, range_head, told_line, told_text, IsToldTextOf}
use Rattle.judge_spec.specs.ToldStops.{StartsWith, IsPartOfLine, IsToldFront}
use Rattle.judge_spec.specs.ToldForm.{Bus, Device, Function, First, Last, Place, Digits, After, InSpace, InMark, InName, Begun, blank, no_line, Step, Wrong, Goes, Ends, digit_in, step_at, step, ToldSoFar, nothing_read, slot_follows, is_in_order, Reads, Reading, Stopped, take_step, take_byte, and_then, take_bytes}
use Rattle.judge_spec.proofs.ToldLines.{steps, steps-append, before, text_at, IsAt, IsRead, line_read, head_text}
use Rattle.judge_spec.proofs.ToldKept.{HasSlot, ShowsSlot, slot_kept, HasRange, ShowsRange, range_kept, each_space, each_mark, each_name, each_digit}
use Rattle.judge_spec.proofs.ToldWhole.{slotted, slot_read, headed, head_read, whole_read, finishes}

-- ---- bytes one after the other

pub take_bytes-append : (s : ToldSoFar) (xs ys : List ℕ) → take_bytes s (xs ++ ys) ≡ and_then (take_bytes s xs) (λ t. take_bytes t ys)
unfolding take_bytes
take_bytes-append s [] ys = refl
take_bytes-append s (c ∷ xs) ys = go (take_byte s c) (λ t. take_bytes-append t xs ys) where
  go : (x : Reads) → ((t : ToldSoFar) → take_bytes t (xs ++ ys) ≡ and_then (take_bytes t xs) (λ u. take_bytes u ys)) → and_then x (λ t. take_bytes t (xs ++ ys)) ≡ and_then (and_then x (λ t. take_bytes t xs)) (λ t. take_bytes t ys)
  go (Reading t) more = more t
  go (Stopped f) more = refl

steps_wrong : (bytes : List ℕ) → steps Wrong bytes ≡ Wrong
steps_wrong [] = refl
steps_wrong (c ∷ bytes) = steps_wrong bytes

-- ---- the order of slots

slots_pushed : (ranges : List ToldRange) (r : ToldRange) → AreInSlotOrder ranges → slot_follows ranges r.slot ≡ true → AreInSlotOrder (ranges ++ r ∷ [])
slots_pushed ranges r order follows =
    IsNonDecreasingBy-push (λ x. slot_number x.slot) ranges r order
    (λ d some. (let e = ap (λ (x : ToldRange). slot_number x.slot) (get_or_default ranges (length ranges - 1) d blank (omega (arith, some))) in
    let below = leb-true (slot_number (get_or ranges (length ranges - 1) blank).slot) (slot_number r.slot) follows in omega (arith, e, below)))

no_slot_below : (ranges : List ToldRange) (s : Slot) → length ranges ≡ 0 → slot_follows ranges s ≡ true
no_slot_below [] s none = le-leb 0 (slot_number s) (omega arith)
no_slot_below (r ∷ ranges) s none = absurd (let no : ⊥ = omega (arith, none) in no)

pub slot_after : (ranges : List ToldRange) (r : ToldRange) (more : List ToldRange) → AreInSlotOrder (ranges ++ r ∷ more) → slot_follows ranges r.slot ≡ true
slot_after ranges r more order = elim (cases_eq (length ranges) 0) [
  | inl none ↦ no_slot_below ranges r.slot none
  | inr some ↦
      let l = length-append ranges (r ∷ more) in
      let below = order (length ranges - 1) (length ranges + 0) blank (omega arith) (omega (arith, l)) in
      let a = ap (λ (x : ToldRange). slot_number x.slot) (get_or_append_left ranges (r ∷ more) blank (length ranges - 1) (omega (arith, some))) in
      let b = ap (λ (x : ToldRange). slot_number x.slot) (get_or-append-add ranges (r ∷ more) 0 blank) in
      le-leb (slot_number (get_or ranges (length ranges - 1) blank).slot) (slot_number r.slot) (omega (arith, below, a, b))
]

-- ---- what a step adds

-- a slot or a range that a step has is new or was there
abbrev AddsTo : Place → ToldRange → Step → Type 0
AddsTo place r Wrong = Unit {0}
AddsTo place r (Goes l) =
    (HasSlot l.place → (HasSlot place × (l.range.slot ≡ r.slot)) ⊎ (l.place ≡ After Function))
    × (HasRange l.place → (HasRange place × (l.range.first ≡ r.first) × (l.range.last ≡ r.last)) ⊎ (l.place ≡ After Last))
AddsTo place r (Ends e) = HasSlot place × HasRange place × (e.slot ≡ r.slot) × (e.first ≡ r.first) × (e.last ≡ r.last)

adds : (place : Place) (n : ℕ) (r : ToldRange) (c : ℕ) → AddsTo place r (step_at place n r c)
unfolding step_at
adds (Digits Bus k) n r c = each_digit (AddsTo (Digits Bus k) r) Bus k n r (digit_in c) (λ m. ((λ h. absurd h), (λ h. absurd h))) (λ m. ((λ h. absurd h), (λ h. absurd h))) tt
adds (Digits Device k) n r c = each_digit (AddsTo (Digits Device k) r) Device k n r (digit_in c) (λ m. ((λ h. absurd h), (λ h. absurd h))) (λ m. ((λ h. absurd h), (λ h. absurd h))) tt
adds (Digits Function k) n r c = each_digit (AddsTo (Digits Function k) r) Function k n r (digit_in c) (λ m. ((λ h. inr refl), (λ h. absurd h))) (λ m. ((λ h. absurd h), (λ h. absurd h))) tt
adds (Digits First k) n r c = each_digit (AddsTo (Digits First k) r) First k n r (digit_in c) (λ m. ((λ h. inl (tt, refl)), (λ h. absurd h))) (λ m. ((λ h. inl (tt, refl)), (λ h. absurd h))) tt
adds (Digits Last k) n r c = each_digit (AddsTo (Digits Last k) r) Last k n r (digit_in c) (λ m. ((λ h. inl (tt, refl)), (λ h. inr refl))) (λ m. ((λ h. inl (tt, refl)), (λ h. absurd h))) tt
adds (After Bus) n r c = cond_both (c == 58) _ _ (AddsTo (After Bus) r) (λ _. ((λ h. absurd h), (λ h. absurd h))) (λ _. tt)
adds (After Device) n r c = cond_both (c == 46) _ _ (AddsTo (After Device) r) (λ _. ((λ h. absurd h), (λ h. absurd h))) (λ _. tt)
adds (After Function) n r c = cond_both (c == 32) _ _ (AddsTo (After Function) r) (λ _. ((λ h. inl (tt, refl)), (λ h. absurd h))) (λ _. tt)
adds (After First) n r c = cond_both (c == 45) _ _ (AddsTo (After First) r) (λ _. ((λ h. inl (tt, refl)), (λ h. absurd h))) (λ _. tt)
adds (After Last) n r c = cond_both (c == 32) _ _ (AddsTo (After Last) r) (λ _. ((λ h. inl (tt, refl)), (λ h. inl (tt, refl, refl)))) (λ _. tt)
adds (InSpace k) n r c =
    each_space (AddsTo (InSpace k) r) k r c ((λ h. inl (tt, refl)), (λ h. absurd h)) ((λ h. inl (tt, refl)), (λ h. absurd h)) ((λ h. inl (tt, refl)), (λ h. absurd h)) ((λ h. inl (tt, refl)), (λ h. absurd h)) ((λ h. inl (tt, refl)), (λ h. absurd h)) tt
adds (InMark k) n r c =
    each_mark (AddsTo (InMark k) r) k r c ((λ h. inl (tt, refl)), (λ h. inl (tt, refl, refl))) ((λ h. inl (tt, refl)), (λ h. inl (tt, refl, refl))) ((λ h. inl (tt, refl)), (λ h. inl (tt, refl, refl)))
    ((λ h. inl (tt, refl)), (λ h. inl (tt, refl, refl))) (tt, tt, refl, refl, refl) ((λ h. inl (tt, refl)), (λ h. inl (tt, refl, refl))) tt
adds InName n r c = each_name (AddsTo InName r) r c (tt, tt, refl, refl, refl) ((λ h. inl (tt, refl)), (λ h. inl (tt, refl, refl))) tt

-- ---- what is read is a good beginning

-- what was read of some bytes: whole lines, and a part of one more
pub record IsReading (bytes : List ℕ) (s : ToldSoFar) : Type 0 where
  pub part : List ℕ
  pub split : bytes ≡ told_text s.ranges ++ part
  pub line : steps (Goes no_line) part ≡ Goes s.line
  pub told : IsTold s.ranges
  pub begun : part ≢ [] → length s.ranges < 4096
  pub order : HasSlot s.line.place → slot_follows s.ranges s.line.range.slot ≡ true
  pub forward : HasRange s.line.place → s.line.range.first ≤ s.line.range.last

abbrev AreReading : List ℕ → Reads → Type 0
AreReading bytes (Reading s) = IsReading bytes s
AreReading bytes (Stopped f) = Unit {0}

text_pushed : (ranges : List ToldRange) (r : ToldRange) → told_text (ranges ++ r ∷ []) ≡ told_text ranges ++ told_line r
text_pushed ranges r = flat_map-append told_line ranges (r ∷ []) ∙ ap (λ (t : List ℕ). told_text ranges ++ t) (append-nil (told_line r))

read_step : (front : List ℕ) (s : ToldSoFar) (c : ℕ) (x : Step) → IsReading front s → step s.line c ≡ x → length s.ranges ≢ 4096 → AreReading (front ++ c ∷ []) (take_step s.ranges s.line.place x)
read_step front s c Wrong h e free = tt
read_step front s c (Goes l) h e free =
    let room = h.told.room in
    let added : AddsTo s.line.place s.line.range (Goes l) = subst (λ (x : Step). AddsTo s.line.place s.line.range x) e (adds s.line.place s.line.number s.line.range c) in
    cond_both (is_in_order s.ranges l.place l.range) _ _ (λ (x : Reads). AreReading (front ++ c ∷ []) x)
    (λ good. record {
      part = h.part ++ c ∷ [];
      split = ap (λ (t : List ℕ). t ++ c ∷ []) h.split ∙ append_assoc (told_text s.ranges) h.part (c ∷ []);
      line = steps-append (Goes no_line) h.part (c ∷ []) ∙ ap (λ (x : Step). steps x (c ∷ [])) h.line ∙ e;
      told = h.told;
      begun = (λ _. omega (arith, room, free));
      order = (λ has. elim (added.0 has) [
        | inl old ↦ subst (λ (t : Slot). slot_follows s.ranges t ≡ true) (sym old.1) (h.order old.0)
        | inr new ↦ subst (λ (p : Place). is_in_order s.ranges p l.range ≡ true) new good
      ]);
      forward = (λ has. elim (added.1 has) [
        | inl old ↦ (let f = h.forward old.0 in let a = old.1 in let b = old.2 in omega (arith, f, a, b))
        | inr new ↦ leb-true l.range.first l.range.last (subst (λ (p : Place). is_in_order s.ranges p l.range ≡ true) new good)
      ]);
    })
    (λ _. tt)
read_step front s c (Ends r) h e free =
    let room = h.told.room in
    let added : AddsTo s.line.place s.line.range (Ends r) = subst (λ (x : Step). AddsTo s.line.place s.line.range x) e (adds s.line.place s.line.number s.line.range c) in
    let whole : IsRead (h.part ++ c ∷ []) (Ends r) = subst (λ (x : Step). IsRead (h.part ++ c ∷ []) x) (steps-append (Goes no_line) h.part (c ∷ []) ∙ ap (λ (x : Step). steps x (c ∷ [])) h.line ∙ e) (line_read (h.part ++ c ∷ [])) in
    let l = length-append s.ranges (r ∷ []) in
    let f = h.forward added.1 in
    let a = added.3 in
    let b = added.4 in
    record {
      part = [];
      split = ap (λ (t : List ℕ). t ++ c ∷ []) h.split ∙ append_assoc (told_text s.ranges) h.part (c ∷ []) ∙ ap (λ (t : List ℕ). told_text s.ranges ++ t) whole.1 ∙ sym (text_pushed s.ranges r) ∙ sym (append-nil (told_text (s.ranges ++ r ∷ [])));
      line = refl;
      told = record {
        each = All-push IsToldRange s.ranges r h.told.each (record { line = whole.0; forward = omega (arith, f, a, b) });
        order = slots_pushed s.ranges r h.told.order (subst (λ (t : Slot). slot_follows s.ranges t ≡ true) (sym added.2) (h.order added.0));
        room = omega (arith, l, room, free);
      };
      begun = (λ some. absurd (some refl));
      order = (λ has. absurd has);
      forward = (λ has. absurd has);
    }

read_byte : (front : List ℕ) (s : ToldSoFar) (c : ℕ) → IsReading front s → AreReading (front ++ c ∷ []) (take_byte s c)
unfolding take_byte
read_byte front s c h =
    cond_both (length s.ranges == 4096) _ _ (λ (x : Reads). AreReading (front ++ c ∷ []) x) (λ _. tt)
    (λ free. read_step front s c (step s.line c) h refl (eqb-false (length s.ranges) 4096 free))

read_on : (front : List ℕ) (s : ToldSoFar) (bytes : List ℕ) → IsReading front s → AreReading (front ++ bytes) (take_bytes s bytes)
unfolding take_bytes
read_on front s [] h = subst (λ (t : List ℕ). IsReading t s) (sym (append-nil front)) h
read_on front s (c ∷ bytes) h = go (take_byte s c) (read_byte front s c h) (λ t k. read_on (front ++ c ∷ []) t bytes k) where
  go : (x : Reads) → AreReading (front ++ c ∷ []) x → ((t : ToldSoFar) → IsReading (front ++ c ∷ []) t → AreReading ((front ++ c ∷ []) ++ bytes) (take_bytes t bytes)) → AreReading (front ++ c ∷ bytes) (and_then x (λ t. take_bytes t bytes))
  go (Reading t) k more = subst (λ (u : List ℕ). AreReading u (take_bytes t bytes)) (append_assoc front (c ∷ []) bytes) (more t k)
  go (Stopped f) k more = tt

none_told : IsTold []
none_told = record { each = (λ k d below. absurd (let no : ⊥ = omega (arith, below) in no)); order = (λ i j d le below. absurd (let no : ⊥ = omega (arith, below) in no)); room = lit≤ tt }

at_nothing : IsReading [] nothing_read
at_nothing = record { part = []; split = refl; line = refl; told = none_told; begun = (λ some. absurd (some refl)); order = (λ has. absurd has); forward = (λ has. absurd has) }

pub reading_of : (bytes : List ℕ) (s : ToldSoFar) → take_bytes nothing_read bytes ≡ Reading s → IsReading bytes s
reading_of bytes s e = subst (λ (x : Reads). AreReading bytes x) e (read_on [] nothing_read bytes at_nothing)

ends_apart : (l : Begun) (r : ToldRange) → Goes l ≡ Ends r → ⊥
ends_apart l r e = cc

pub front_of : (bytes : List ℕ) (s : ToldSoFar) (h : IsReading bytes s) → IsToldFront bytes s.ranges h.part
front_of bytes s h =
    let at : IsAt h.part s.line.place s.line.number s.line.range = subst (λ (x : Step). IsRead h.part x) h.line (line_read h.part) in
    let f = finishes s.line.place s.line.number s.line.range h.part at in
    let r : ToldRange = f.1 in
    let whole : IsRead (h.part ++ f.0) (Ends r) = subst (λ (x : Step). IsRead (h.part ++ f.0) x) (steps-append (Goes no_line) h.part f.0 ∙ ap (λ (x : Step). steps x f.0) h.line ∙ f.2) (line_read (h.part ++ f.0)) in
    record {
      split = h.split;
      told = h.told;
      next = (
        r,
        record {
          line = whole.0;
          rest = f.0;
          unfinished = (λ none. ends_apart s.line r (subst (λ (t : List ℕ). steps (Goes s.line) t ≡ Ends r) none f.2));
          whole = whole.1;
          order = (λ (more, e). (let shows : ShowsSlot r.slot (Goes s.line) =
              subst (λ (x : Step). ShowsSlot r.slot x) (sym (slot_read r.slot more whole.0.slot) ∙ ap (λ (t : List ℕ). steps (Goes no_line) t) (sym e) ∙ h.line)
              (slot_kept r.slot (Goes record { place = After Function; number = 0; range = slotted r.slot }) more (tt, refl)) in
              slots_pushed s.ranges r h.told.order (subst (λ (t : Slot). slot_follows s.ranges t ≡ true) shows.1 (h.order shows.0))));
          forward = (λ (more, e). (let shows : ShowsRange r (Goes s.line) =
              subst (λ (x : Step). ShowsRange r x) (sym (head_read r more whole.0) ∙ ap (λ (t : List ℕ). steps (Goes no_line) t) (sym e) ∙ h.line)
              (range_kept r (Goes record { place = After Last; number = 0; range = headed r }) more (tt, refl, refl, refl, refl, refl)) in
              let f = h.forward shows.0 in let a = shows.4 in let b = shows.5 in omega (arith, f, a, b)));
        },
      );
      begun = h.begun;
    }

-- ---- each good beginning is read

-- the order that is asked for where bytes of a line are read
abbrev InOrder : List ToldRange → Step → Type 0
InOrder ranges Wrong = Unit {0}
InOrder ranges (Goes l) = (HasSlot l.place → slot_follows ranges l.range.slot ≡ true) × (HasRange l.place → l.range.first ≤ l.range.last)
InOrder ranges (Ends r) = (slot_follows ranges r.slot ≡ true) × (r.first ≤ r.last)

-- what is read with a part of a line behind some ranges
abbrev reads_of : List ToldRange → Step → Reads
reads_of ranges Wrong = Stopped (Ended 0)
reads_of ranges (Goes l) = Reading record { ranges = ranges; line = l }
reads_of ranges (Ends r) = Reading record { ranges = ranges ++ r ∷ []; line = no_line }

in_order_at : (ranges : List ToldRange) (place : Place) (r : ToldRange) → (HasSlot place → slot_follows ranges r.slot ≡ true) → (HasRange place → r.first ≤ r.last) → is_in_order ranges place r ≡ true
in_order_at ranges (Digits f k) r s h = refl
in_order_at ranges (After Bus) r s h = refl
in_order_at ranges (After Device) r s h = refl
in_order_at ranges (After Function) r s h = s tt
in_order_at ranges (After First) r s h = refl
in_order_at ranges (After Last) r s h = le-leb r.first r.last (h tt)
in_order_at ranges (InSpace k) r s h = refl
in_order_at ranges (InMark k) r s h = refl
in_order_at ranges InName r s h = refl

-- what is in order at the end is so before
order_before : (ranges : List ToldRange) (l : Begun) (bytes : List ℕ) (t : Step) → steps (Goes l) bytes ≡ t → (t ≡ Wrong → ⊥) → InOrder ranges t → InOrder ranges (Goes l)
order_before ranges l bytes Wrong e right h = absurd (right refl)
order_before ranges l bytes (Goes m) e right h = (
  (λ has. (let shows : ShowsSlot l.range.slot (Goes m) = subst (λ (x : Step). ShowsSlot l.range.slot x) e (slot_kept l.range.slot (Goes l) bytes (has, refl)) in
      subst (λ (s : Slot). slot_follows ranges s ≡ true) shows.1 (h.0 shows.0))),
  (λ has. (let shows : ShowsRange l.range (Goes m) = subst (λ (x : Step). ShowsRange l.range x) e (range_kept l.range (Goes l) bytes (has, refl, refl, refl, refl, refl)) in
      let f = h.1 shows.0 in let a = shows.4 in let b = shows.5 in omega (arith, f, a, b))),
)
order_before ranges l bytes (Ends r) e right h = (
  (λ has. (let shows : ShowsSlot l.range.slot (Ends r) = subst (λ (x : Step). ShowsSlot l.range.slot x) e (slot_kept l.range.slot (Goes l) bytes (has, refl)) in
      subst (λ (s : Slot). slot_follows ranges s ≡ true) shows h.0)),
  (λ has. (let shows : ShowsRange l.range (Ends r) = subst (λ (x : Step). ShowsRange l.range x) e (range_kept l.range (Goes l) bytes (has, refl, refl, refl, refl, refl)) in
      let f = h.1 in let a = shows.3 in let b = shows.4 in omega (arith, f, a, b))),
)

pub wrong_on : (bytes : List ℕ) (t : Step) → steps Wrong bytes ≡ t → (t ≡ Wrong → ⊥) → ⊥
wrong_on bytes t e right = right (sym e ∙ steps_wrong bytes)

orders_before : (ranges : List ToldRange) (s : Step) (bytes : List ℕ) (t : Step) → steps s bytes ≡ t → (t ≡ Wrong → ⊥) → InOrder ranges t → InOrder ranges s
orders_before ranges Wrong bytes t e right h = tt
orders_before ranges (Goes l) bytes t e right h = order_before ranges l bytes t e right h
orders_before ranges (Ends r) [] t e right h = subst (λ (x : Step). InOrder ranges x) (sym e) h
orders_before ranges (Ends r) (c ∷ bytes) t e right h = absurd (wrong_on bytes t e right)

pass_step : (ranges : List ToldRange) (l : Begun) (x : Step) → (x ≡ Wrong → ⊥) → InOrder ranges x → take_step ranges l.place x ≡ reads_of ranges x
pass_step ranges l Wrong right h = absurd (right refl)
pass_step ranges l (Goes m) right h = cond-true (is_in_order ranges m.place m.range) _ _ (in_order_at ranges m.place m.range h.0 h.1)
pass_step ranges l (Ends r) right h = refl

pass_byte : (ranges : List ToldRange) (l : Begun) (c : ℕ) → length ranges ≢ 4096 → (step l c ≡ Wrong → ⊥) → InOrder ranges (step l c) → take_byte record { ranges = ranges; line = l } c ≡ reads_of ranges (step l c)
unfolding take_byte
pass_byte ranges l c free right h = cond-false (length ranges == 4096) _ _ (ne_eqb (length ranges) 4096 free) ∙ pass_step ranges l (step l c) right h

none_more : (ranges : List ToldRange) (s : Step) → (s ≡ Wrong → ⊥) → and_then (reads_of ranges s) (λ u. take_bytes u []) ≡ reads_of ranges s
unfolding take_bytes
none_more ranges Wrong right = refl
none_more ranges (Goes l) right = refl
none_more ranges (Ends r) right = refl

passes : (ranges : List ToldRange) (s : Step) (bytes : List ℕ) (t : Step) → steps s bytes ≡ t → (t ≡ Wrong → ⊥) → length ranges ≢ 4096 → InOrder ranges t → and_then (reads_of ranges s) (λ u. take_bytes u bytes) ≡ reads_of ranges t
unfolding take_bytes
passes ranges s [] t e right free h = none_more ranges s (λ w. right (sym e ∙ w)) ∙ ap (λ (x : Step). reads_of ranges x) e
passes ranges Wrong (c ∷ bytes) t e right free h = absurd (wrong_on bytes t e right)
passes ranges (Ends r) (c ∷ bytes) t e right free h = absurd (wrong_on bytes t e right)
passes ranges (Goes l) (c ∷ bytes) t e right free h =
    let good : step l c ≡ Wrong → ⊥ = (λ w. wrong_on bytes t (ap (λ (x : Step). steps x bytes) (sym w) ∙ e) right) in
    ap (λ (x : Reads). and_then x (λ u. take_bytes u bytes)) (pass_byte ranges l c free good (orders_before ranges (step l c) bytes t e right h))
    ∙ passes ranges (step l c) bytes t e right free h

ends_right : (r : ToldRange) → Ends r ≡ Wrong → ⊥
ends_right r e = cc

goes_right : (l : Begun) → Goes l ≡ Wrong → ⊥
goes_right l e = cc

-- a whole line behind some ranges
line_passes : (ranges : List ToldRange) (r : ToldRange) → IsToldRange r → length ranges ≢ 4096 → slot_follows ranges r.slot ≡ true → take_bytes record { ranges = ranges; line = no_line } (told_line r) ≡ Reading record { ranges = ranges ++ r ∷ []; line = no_line }
line_passes ranges r h free follows = passes ranges (Goes no_line) (told_line r) (Ends r) (whole_read r h.line) (ends_right r) free (follows, h.forward)

-- whole lines behind others
lines_pass : (before after : List ToldRange) (bytes : List ℕ) → IsTold (before ++ after)
    → take_bytes record { ranges = before; line = no_line } (told_text after ++ bytes) ≡ take_bytes record { ranges = before ++ after; line = no_line } bytes
lines_pass before [] bytes h = ap (λ (rs : List ToldRange). take_bytes record { ranges = rs; line = no_line } bytes) (sym (append-nil before))
lines_pass before (r ∷ after) bytes h =
    let l = length-append before (r ∷ after) in
    let room = h.room in
    let a = append_assoc before (r ∷ []) after in
    let here : IsToldRange r = subst IsToldRange (get_or-append-add before (r ∷ after) 0 blank) (h.each (length before + 0) blank (omega (arith, l))) in
    ap (λ (t : List ℕ). take_bytes record { ranges = before; line = no_line } t) (append_assoc (told_line r) (told_text after) bytes)
    ∙ take_bytes-append record { ranges = before; line = no_line } (told_line r) (told_text after ++ bytes)
    ∙ ap (λ (x : Reads). and_then x (λ u. take_bytes u (told_text after ++ bytes))) (line_passes before r here (λ e. let no : ⊥ = omega (arith, l, room, e) in no) (slot_after before r after h.order))
    ∙ lines_pass (before ++ r ∷ []) after bytes (subst IsTold (sym a) h)
    ∙ ap (λ (rs : List ToldRange). take_bytes record { ranges = rs; line = no_line } bytes) a

-- a text is read as its ranges
pub text_read : (bytes : List ℕ) (ranges : List ToldRange) → IsToldTextOf bytes ranges → take_bytes nothing_read bytes ≡ Reading record { ranges = ranges; line = no_line }
unfolding take_bytes
text_read bytes ranges text = ap (λ (t : List ℕ). take_bytes nothing_read t) (text.1 ∙ sym (append-nil (told_text ranges))) ∙ lines_pass [] ranges [] text.0

-- ---- a part of a line

-- a part that has a slot, or a range, begins with it
starts_slot : (part : List ℕ) (place : Place) (n : ℕ) (r : ToldRange) → part ≡ text_at place n r → HasSlot place → StartsWith part (slot_text r.slot)
starts_slot part (Digits Bus k) n r e has = absurd has
starts_slot part (Digits Device k) n r e has = absurd has
starts_slot part (Digits Function k) n r e has = absurd has
starts_slot part (Digits First k) n r e has = (_, e)
starts_slot part (Digits Last k) n r e has = (_, e)
starts_slot part (After Bus) n r e has = absurd has
starts_slot part (After Device) n r e has = absurd has
starts_slot part (After Function) n r e has = ([], e)
starts_slot part (After First) n r e has = (_, e)
starts_slot part (After Last) n r e has = (_, e)
starts_slot part (InSpace k) n r e has = (_, e)
starts_slot part (InMark k) n r e has = (_, e)
starts_slot part InName n r e has = (_, e)

starts_range : (part : List ℕ) (place : Place) (n : ℕ) (r : ToldRange) → part ≡ text_at place n r → HasRange place → StartsWith part (range_head r)
starts_range part (Digits f k) n r e has = absurd has
starts_range part (After Bus) n r e has = absurd has
starts_range part (After Device) n r e has = absurd has
starts_range part (After Function) n r e has = absurd has
starts_range part (After First) n r e has = absurd has
starts_range part (After Last) n r e has = ([], e ∙ head_text r ∙ sym (append-nil (range_head r)))
starts_range part (InSpace k) n r e has = absurd has
starts_range part (InMark k) n r e has =
    let w : List ℕ = take k (mark_word r.mark) in
    (32 ∷ w, e ∙ append_assoc (before Last r ++ address_text r.space r.last) (32 ∷ []) w ∙ ap (λ (t : List ℕ). t ++ (32 ∷ w)) (head_text r))
starts_range part InName n r e has =
    let w : List ℕ = mark_word r.mark in
    let h : List ℕ = before Last r ++ address_text r.space r.last in
    let more : List ℕ = 32 ∷ (w ++ (32 ∷ r.name)) in
    let a = append_assoc ((h ++ 32 ∷ []) ++ w) (32 ∷ []) r.name in
    let b = append_assoc (h ++ 32 ∷ []) w (32 ∷ r.name) in
    let c = append_assoc h (32 ∷ []) (w ++ (32 ∷ r.name)) in
    (more, e ∙ a ∙ b ∙ c ∙ ap (λ (t : List ℕ). t ++ more) (head_text r))

pub goes_once : (s : Step) (bytes : List ℕ) (r : ToldRange) → steps s bytes ≡ Ends r → bytes ≢ [] → (l : Begun) × (s ≡ Goes l)
goes_once Wrong bytes r e some = absurd (wrong_on bytes (Ends r) e (ends_right r))
goes_once (Goes l) bytes r e some = (l, refl)
goes_once (Ends x) [] r e some = absurd (some refl)
goes_once (Ends x) (c ∷ bytes) r e some = absurd (wrong_on bytes (Ends r) e (ends_right r))

-- a good beginning, read
pub record IsReadAs (bytes : List ℕ) (ranges : List ToldRange) (part : List ℕ) : Type 0 where
  pub line : Begun
  pub part_read : steps (Goes no_line) part ≡ Goes line
  pub all_read : take_bytes nothing_read bytes ≡ Reading record { ranges = ranges; line = line }

same_head : (r x : ToldRange) → (r.slot ≡ x.slot) × (r.space ≡ x.space) × (r.prefetchable ≡ x.prefetchable) × (r.first ≡ x.first) × (r.last ≡ x.last) → range_head r ≡ range_head x
same_head r x e = λ i. range_head record { slot = e.0 i; space = e.1 i; prefetchable = e.2 i; first = e.3 i; last = e.4 i; mark = r.mark; name = r.name }

part_in_order : (ranges : List ToldRange) (part : List ℕ) (r : ToldRange) (l : Begun) → IsPartOfLine ranges part r → steps (Goes no_line) part ≡ Goes l → InOrder ranges (Goes l)
part_in_order ranges part r l p e =
    let at : IsAt part l.place l.number l.range = subst (λ (x : Step). IsRead part x) e (line_read part) in
    let ends : steps (Goes l) p.rest ≡ Ends r = ap (λ (x : Step). steps x p.rest) (sym e) ∙ sym (steps-append (Goes no_line) part p.rest) ∙ ap (λ (t : List ℕ). steps (Goes no_line) t) p.whole ∙ whole_read r p.line in (
      (λ has. (let shows : ShowsSlot l.range.slot (Ends r) = subst (λ (x : Step). ShowsSlot l.range.slot x) ends (slot_kept l.range.slot (Goes l) p.rest (has, refl)) in
          let starts = starts_slot part l.place l.number l.range at.text has in
          let order = p.order (starts.0, starts.1 ∙ ap (λ (s : Slot). slot_text s ++ starts.0) (sym shows)) in
          subst (λ (s : Slot). slot_follows ranges s ≡ true) shows (slot_after ranges r [] order))),
      (λ has. (let shows : ShowsRange l.range (Ends r) = subst (λ (x : Step). ShowsRange l.range x) ends (range_kept l.range (Goes l) p.rest (has, refl, refl, refl, refl, refl)) in
          let starts = starts_range part l.place l.number l.range at.text has in
          let forward = p.forward (starts.0, starts.1 ∙ ap (λ (t : List ℕ). t ++ starts.0) (sym (same_head r l.range shows))) in
          let a = shows.3 in let b = shows.4 in omega (arith, forward, a, b))),
    )

part_passes : (ranges : List ToldRange) (part : List ℕ) (l : Begun) → steps (Goes no_line) part ≡ Goes l → (part ≢ [] → length ranges < 4096) → InOrder ranges (Goes l)
    → take_bytes record { ranges = ranges; line = no_line } part ≡ Reading record { ranges = ranges; line = l }
unfolding take_bytes
part_passes ranges [] l e begun h = ap (λ (k : Begun). Reading record { ranges = ranges; line = k }) (let same : no_line ≡ l = cc in same)
part_passes ranges (c ∷ part) l e begun h =
    let few = begun (λ none. let n = ap length none in let no : ⊥ = omega (arith, n) in no) in
    passes ranges (Goes no_line) (c ∷ part) (Goes l) e (goes_right l) (λ full. let no : ⊥ = omega (arith, few, full) in no) h

pub front_read : (bytes : List ℕ) (ranges : List ToldRange) (part : List ℕ) → IsToldFront bytes ranges part → IsReadAs bytes ranges part
front_read bytes ranges part f =
    let r : ToldRange = f.next.0 in
    let p = f.next.1 in
    let once = goes_once (steps (Goes no_line) part) p.rest r (sym (steps-append (Goes no_line) part p.rest) ∙ ap (λ (t : List ℕ). steps (Goes no_line) t) p.whole ∙ whole_read r p.line) p.unfinished in
    record {
      line = once.0;
      part_read = once.1;
      all_read = ap (λ (t : List ℕ). take_bytes nothing_read t) f.split ∙ lines_pass [] ranges part f.told ∙ part_passes ranges part once.0 once.1 f.begun (part_in_order ranges part r once.0 p once.1);
    }

-- ---- at the end

-- a text with no line begun is whole
pub whole_text : (bytes : List ℕ) (s : ToldSoFar) → IsReading bytes s → s.line.place ≡ Digits Bus 0 → IsToldTextOf bytes s.ranges
whole_text bytes s h start =
    let at : IsAt h.part s.line.place s.line.number s.line.range = subst (λ (x : Step). IsRead h.part x) h.line (line_read h.part) in
    let none : h.part ≡ [] = at.text ∙ ap (λ (p : Place). text_at p s.line.number s.line.range) start in
    (h.told, h.split ∙ ap (λ (t : List ℕ). told_text s.ranges ++ t) none ∙ append-nil (told_text s.ranges))

pub same_reading : (s t : ToldSoFar) → Reading s ≡ Reading t → s ≡ t
same_reading s t e = cc

-- no text is of two rows of ranges
pub one_row : (bytes : List ℕ) (ranges others : List ToldRange) → IsToldTextOf bytes ranges → IsToldTextOf bytes others → ranges ≡ others
one_row bytes ranges others text other =
    ap (λ (s : ToldSoFar). s.ranges) (same_reading record { ranges = ranges; line = no_line } record { ranges = others; line = no_line } (sym (text_read bytes ranges text) ∙ text_read bytes others other))
