-- A line that goes on keeps the slot and the range that are read.
use Rattle.std.proofs.Common.{if◌then◌else◌, ◌≡◌, ℕ, ◌+◌, ◌*◌, ◌==◌, nat_lt, nat_le, ◌&&◌, true, false, List, [], ◌∷◌, ◌++◌, length, get_or, Option, Some, None}
use Rattle.std.proofs.lemmas.Bool.{cond_both}
use Rattle.pci_spec.specs.Slot.{Slot}
use Rattle.pci_spec.specs.System.{Io, Memory}
use Rattle.judge_spec.specs.Told.{Command, Always, Held, ToldRange, is_name_byte}
use Rattle.judge_spec.specs.ToldText.{space_word, mark_word}
use Rattle.judge_spec.specs.ToldForm.{Field, Bus, Device, Function, First, Last, Place, Digits, After, InSpace, InMark, InName, Step, Wrong, Goes, Ends, goes_at, digit_in, digits_of, greatest_digit, with_number, digit_step, word_step, name_step, step_at}
use Rattle.judge_spec.proofs.ToldLines.{from, steps}

-- ---- a step by its cases

each_word : (P : Step → Type 0) (w : List ℕ) (k : ℕ) (next end : Step) (c : ℕ) → P next → P end → P Wrong → P (word_step w k next end c)
each_word P w k next end c p q wrong = cond_both (nat_lt k (length w)) _ _ P (λ _. cond_both (get_or w k 0 == c) _ _ P (λ _. p) (λ _. wrong)) (λ _. q)

each_letter : (P : Step → Type 0) (a b d : ℕ) (x y z : Step) (c : ℕ) → P x → P y → P z → P Wrong → P (if c == a then x else if c == b then y else if c == d then z else Wrong)
each_letter P a b d x y z c p q s wrong = cond_both (c == a) _ _ P (λ _. p) (λ _. cond_both (c == b) _ _ P (λ _. q) (λ _. cond_both (c == d) _ _ P (λ _. s) (λ _. wrong)))

pub each_space : (P : Step → Type 0) (k : ℕ) (r : ToldRange) (c : ℕ)
    → P (goes_at (InSpace 1) (record r { space = Io; prefetchable = false })) → P (goes_at (InSpace 1) (record r { space = Memory; prefetchable = false })) → P (goes_at (InSpace 1) (record r { space = Memory; prefetchable = true }))
    → P (goes_at (InSpace (k + 1)) r) → P (goes_at (Digits First 0) r) → P Wrong → P (step_at (InSpace k) 0 r c)
unfolding step_at
each_space P k r c p q s next end wrong =
    cond_both (k == 0) _ _ P (λ _. each_letter P 105 109 112 _ _ _ c p q s wrong)
    (λ _. each_word P (space_word r.space r.prefetchable) k _ _ c next (cond_both (c == 32) _ _ P (λ _. end) (λ _. wrong)) wrong)

pub each_mark : (P : Step → Type 0) (k : ℕ) (r : ToldRange) (c : ℕ)
    → P (goes_at (InMark 1) (record r { mark = Command })) → P (goes_at (InMark 1) (record r { mark = Always })) → P (goes_at (InMark 1) (record r { mark = Held }))
    → P (goes_at (InMark (k + 1)) r) → P (Ends r) → P (goes_at InName r) → P Wrong → P (step_at (InMark k) 0 r c)
unfolding step_at
each_mark P k r c p q s next end name wrong =
    cond_both (k == 0) _ _ P (λ _. each_letter P 99 97 104 _ _ _ c p q s wrong)
    (λ _. each_word P (mark_word r.mark) k _ _ c next (cond_both (c == 10) _ _ P (λ _. end) (λ _. cond_both (c == 32) _ _ P (λ _. name) (λ _. wrong))) wrong)

pub each_name : (P : Step → Type 0) (r : ToldRange) (c : ℕ) → P (Ends r) → P (goes_at InName (record r { name = r.name ++ c ∷ [] })) → P Wrong → P (name_step r c)
each_name P r c end more wrong =
    cond_both (c == 10) _ _ P (λ _. cond_both (length r.name == 0) _ _ P (λ _. wrong) (λ _. end)) (λ _. cond_both (is_name_byte c && nat_lt (length r.name) 32) _ _ P (λ _. more) (λ _. wrong))

pub each_digit : (P : Step → Type 0) (f : Field) (k n : ℕ) (r : ToldRange) (o : Option ℕ) → ((m : ℕ) → P (goes_at (After f) (with_number f m r))) → ((m : ℕ) → P (Goes record { place = Digits f (k + 1); number = m; range = r })) → P Wrong
    → P (digit_step f k n r o)
each_digit P f k n r None done more wrong = wrong
each_digit P f k n r (Some d) done more wrong =
    cond_both (nat_le d (greatest_digit f k)) _ _ P (λ _. cond_both (k + 1 == digits_of f r.space) _ _ P (λ _. done (16 * n + d)) (λ _. more (16 * n + d))) (λ _. wrong)

-- ---- the slot

-- the slot is read
abbrev pub HasSlot : Place → Type 0
HasSlot (Digits Bus k) = ⊥
HasSlot (Digits Device k) = ⊥
HasSlot (Digits Function k) = ⊥
HasSlot (After Bus) = ⊥
HasSlot (After Device) = ⊥
HasSlot (Digits First k) = Unit {0}
HasSlot (Digits Last k) = Unit {0}
HasSlot (After Function) = Unit {0}
HasSlot (After First) = Unit {0}
HasSlot (After Last) = Unit {0}
HasSlot (InSpace k) = Unit {0}
HasSlot (InMark k) = Unit {0}
HasSlot InName = Unit {0}

-- where a step is right, it shows this slot
abbrev pub ShowsSlot : Slot → Step → Type 0
ShowsSlot s Wrong = Unit {0}
ShowsSlot s (Goes l) = HasSlot l.place × (l.range.slot ≡ s)
ShowsSlot s (Ends r) = r.slot ≡ s

slot_step : (s : Slot) (place : Place) (n : ℕ) (r : ToldRange) (c : ℕ) → HasSlot place → r.slot ≡ s → ShowsSlot s (step_at place n r c)
unfolding step_at
slot_step s (Digits Bus k) n r c h e = absurd h
slot_step s (Digits Device k) n r c h e = absurd h
slot_step s (Digits Function k) n r c h e = absurd h
slot_step s (Digits First k) n r c h e = each_digit (ShowsSlot s) First k n r (digit_in c) (λ m. (tt, e)) (λ m. (tt, e)) tt
slot_step s (Digits Last k) n r c h e = each_digit (ShowsSlot s) Last k n r (digit_in c) (λ m. (tt, e)) (λ m. (tt, e)) tt
slot_step s (After Bus) n r c h e = absurd h
slot_step s (After Device) n r c h e = absurd h
slot_step s (After Function) n r c h e = cond_both (c == 32) _ _ (ShowsSlot s) (λ _. (tt, e)) (λ _. tt)
slot_step s (After First) n r c h e = cond_both (c == 45) _ _ (ShowsSlot s) (λ _. (tt, e)) (λ _. tt)
slot_step s (After Last) n r c h e = cond_both (c == 32) _ _ (ShowsSlot s) (λ _. (tt, e)) (λ _. tt)
slot_step s (InSpace k) n r c h e = each_space (ShowsSlot s) k r c (tt, e) (tt, e) (tt, e) (tt, e) (tt, e) tt
slot_step s (InMark k) n r c h e = each_mark (ShowsSlot s) k r c (tt, e) (tt, e) (tt, e) (tt, e) e (tt, e) tt
slot_step s InName n r c h e = each_name (ShowsSlot s) r c e (tt, e) tt

slot_from : (s : Slot) (t : Step) (c : ℕ) → ShowsSlot s t → ShowsSlot s (from t c)
slot_from s Wrong c h = tt
slot_from s (Goes l) c h = slot_step s l.place l.number l.range c h.0 h.1
slot_from s (Ends r) c h = tt

pub slot_kept : (s : Slot) (t : Step) (bytes : List ℕ) → ShowsSlot s t → ShowsSlot s (steps t bytes)
slot_kept s t [] h = h
slot_kept s t (c ∷ bytes) h = slot_kept s (from t c) bytes (slot_from s t c h)

-- ---- the range

-- the range is read
abbrev pub HasRange : Place → Type 0
HasRange (Digits f k) = ⊥
HasRange (After Bus) = ⊥
HasRange (After Device) = ⊥
HasRange (After Function) = ⊥
HasRange (After First) = ⊥
HasRange (After Last) = Unit {0}
HasRange (InSpace k) = ⊥
HasRange (InMark k) = Unit {0}
HasRange InName = Unit {0}

-- where a step is right, it shows these addresses, and the text of the range up to them
abbrev pub ShowsRange : ToldRange → Step → Type 0
ShowsRange x Wrong = Unit {0}
ShowsRange x (Goes l) =
    HasRange l.place × (l.range.slot ≡ x.slot) × (l.range.space ≡ x.space) × (l.range.prefetchable ≡ x.prefetchable) × (l.range.first ≡ x.first) × (l.range.last ≡ x.last)
ShowsRange x (Ends r) = (r.slot ≡ x.slot) × (r.space ≡ x.space) × (r.prefetchable ≡ x.prefetchable) × (r.first ≡ x.first) × (r.last ≡ x.last)

range_step : (x : ToldRange) (place : Place) (n : ℕ) (r : ToldRange) (c : ℕ) → HasRange place → (r.slot ≡ x.slot) × (r.space ≡ x.space) × (r.prefetchable ≡ x.prefetchable) × (r.first ≡ x.first) × (r.last ≡ x.last)
    → ShowsRange x (step_at place n r c)
unfolding step_at
range_step x (Digits f k) n r c h e = absurd h
range_step x (After Bus) n r c h e = absurd h
range_step x (After Device) n r c h e = absurd h
range_step x (After Function) n r c h e = absurd h
range_step x (After First) n r c h e = absurd h
range_step x (After Last) n r c h e = cond_both (c == 32) _ _ (ShowsRange x) (λ _. (tt, e.0, e.1, e.2, e.3, e.4)) (λ _. tt)
range_step x (InSpace k) n r c h e = absurd h
range_step x (InMark k) n r c h e =
    each_mark (ShowsRange x) k r c (tt, e.0, e.1, e.2, e.3, e.4) (tt, e.0, e.1, e.2, e.3, e.4) (tt, e.0, e.1, e.2, e.3, e.4) (tt, e.0, e.1, e.2, e.3, e.4) e (tt, e.0, e.1, e.2, e.3, e.4) tt
range_step x InName n r c h e = each_name (ShowsRange x) r c e (tt, e.0, e.1, e.2, e.3, e.4) tt

range_from : (x : ToldRange) (t : Step) (c : ℕ) → ShowsRange x t → ShowsRange x (from t c)
range_from x Wrong c h = tt
range_from x (Goes l) c h = range_step x l.place l.number l.range c h.0 (h.1, h.2, h.3, h.4, h.5)
range_from x (Ends r) c h = tt

pub range_kept : (x : ToldRange) (t : Step) (bytes : List ℕ) → ShowsRange x t → ShowsRange x (steps t bytes)
range_kept x t [] h = h
range_kept x t (c ∷ bytes) h = range_kept x (from t c) bytes (range_from x t c h)
