-- Each line is read as the range whose line it is, and each part of a line goes on to a whole one.
use Rattle.std.proofs.Common.{lit<, lit≤, ◌≡◌, ℕ, zero, suc, ◌+◌, ◌-◌, ◌*◌, ◌/◌, ◌%◌, ◌^◌, ◌<◌, ◌≤◌, ◌==◌, nat_lt, nat_le, Bool, true, false, ◌&&◌, List, [], ◌∷◌, ◌++◌, length, get_or, refl, sym, ◌∙◌, ap, subst, arith, append_assoc, append-nil, IsTrue, All, inl, inr, pow-suc}
use Rattle.std.proofs.lemmas.Bool.{cond-true, cond-false, eq-eqb, ne_eqb, le-leb, lt-ltb, le-ltb, and_from, leb-true, and_parts, cases_eq}
use Rattle.std.proofs.lemmas.List.{length-append}
use Rattle.pci_spec.specs.Slot.{Slot, IsSlot}
use Rattle.pci_spec.specs.System.{Space, Io, Memory, IsAddress}
use Rattle.pci_spec.specs.Text.{hex_digit, hex_byte, slot_text}
use Rattle.pci_spec.specs.Line.{hex_number, address_text}
use Rattle.judge_spec.specs.Told.{Mark, Command, Always, Held, ToldRange, is_name_byte, IsName, IsToldLine}
use Rattle.judge_spec.specs.ToldText.{space_word, mark_word, name_text, range_head, told_line}
use Rattle.judge_spec.specs.ToldForm.{Field, Bus, Device, Function, First, Last, Place, Digits, After, InSpace, InMark, InName, blank, no_line, Step, Goes, Ends, goes_at, digits_of, greatest_digit, with_number, after_digits, digit_step, step_at}
use Rattle.judge_spec.proofs.ToldLines.{from, steps, steps-append, digit_known, address_digits, digits_alike, IsAt}

-- ---- numbers

digit_goes : (f : Field) (k n : ℕ) (r : ToldRange) (d : ℕ) → d < 16 → d ≤ greatest_digit f k → step_at (Digits f k) n r (hex_digit d) ≡ after_digits f (k + 1) (16 * n + d) r
unfolding step_at
digit_goes f k n r d small most = ap (digit_step f k n r) (digit_known d small) ∙ cond-true (nat_le d (greatest_digit f k)) _ _ (le-leb d (greatest_digit f k) most)

-- a byte by its step
by : (s t : Step) (c : ℕ) (bytes : List ℕ) → from s c ≡ t → steps s (c ∷ bytes) ≡ steps t bytes
by s t c bytes e = ap (λ (x : Step). steps x bytes) e

bus_read : (b : ℕ) (r : ToldRange) (bytes : List ℕ) → b < 256 → steps (goes_at (Digits Bus 0) r) (hex_byte b ++ bytes) ≡ steps (goes_at (After Bus) (with_number Bus b r)) bytes
bus_read b r bytes small =
    let n : ℕ = 16 * 0 + b / 16 in
    let same : 16 * n + b % 16 ≡ b = omega arith in
    by (goes_at (Digits Bus 0) r) (Goes record { place = Digits Bus 1; number = n; range = r }) (hex_digit (b / 16)) (hex_digit (b % 16) ∷ bytes) (digit_goes Bus 0 0 r (b / 16) (omega (arith, small)) (omega (arith, small)))
    ∙ by (Goes record { place = Digits Bus 1; number = n; range = r }) (goes_at (After Bus) (with_number Bus (16 * n + b % 16) r)) (hex_digit (b % 16)) bytes (digit_goes Bus 1 n r (b % 16) (omega arith) (omega arith))
    ∙ ap (λ (m : ℕ). steps (goes_at (After Bus) (with_number Bus m r)) bytes) same

device_read : (b : ℕ) (r : ToldRange) (bytes : List ℕ) → b < 32 → steps (goes_at (Digits Device 0) r) (hex_byte b ++ bytes) ≡ steps (goes_at (After Device) (with_number Device b r)) bytes
device_read b r bytes small =
    let n : ℕ = 16 * 0 + b / 16 in
    let same : 16 * n + b % 16 ≡ b = omega arith in
    by (goes_at (Digits Device 0) r) (Goes record { place = Digits Device 1; number = n; range = r }) (hex_digit (b / 16)) (hex_digit (b % 16) ∷ bytes) (digit_goes Device 0 0 r (b / 16) (omega (arith, small)) (omega (arith, small)))
    ∙ by (Goes record { place = Digits Device 1; number = n; range = r }) (goes_at (After Device) (with_number Device (16 * n + b % 16) r)) (hex_digit (b % 16)) bytes (digit_goes Device 1 n r (b % 16) (omega arith) (omega arith))
    ∙ ap (λ (m : ℕ). steps (goes_at (After Device) (with_number Device m r)) bytes) same

function_read : (b : ℕ) (r : ToldRange) (bytes : List ℕ) → b < 8 → steps (goes_at (Digits Function 0) r) (hex_digit b ∷ bytes) ≡ steps (goes_at (After Function) (with_number Function b r)) bytes
function_read b r bytes small =
    let same : 16 * 0 + b ≡ b = omega arith in
    by (goes_at (Digits Function 0) r) (goes_at (After Function) (with_number Function (16 * 0 + b) r)) (hex_digit b) bytes (digit_goes Function 0 0 r b (omega (arith, small)) (omega (arith, small)))
    ∙ ap (λ (m : ℕ). steps (goes_at (After Function) (with_number Function m r)) bytes) same

-- a range of which the slot is read
abbrev pub slotted : Slot → ToldRange
slotted s = record { slot = s; space = Io; prefetchable = false; first = 0; last = 0; mark = Command; name = [] }

pub slot_read : (s : Slot) (bytes : List ℕ) → IsSlot s → steps (Goes no_line) (slot_text s ++ bytes) ≡ steps (goes_at (After Function) (slotted s)) bytes
unfolding step_at
slot_read s bytes h =
    let one : ToldRange = with_number Bus s.bus blank in
    let two : ToldRange = with_number Device s.device one in
    bus_read s.bus blank (58 ∷ (hex_byte s.device ++ (46 ∷ (hex_digit s.function ∷ bytes)))) h.0
    ∙ device_read s.device one (46 ∷ (hex_digit s.function ∷ bytes)) h.1
    ∙ function_read s.function two bytes h.2

-- the digits of an address, but the last
some_digits : (f : Field) (r : ToldRange) → ((k : ℕ) → greatest_digit f k ≡ 15) → (j m : ℕ) → j < digits_of f r.space → m < 16 ^ j
    → steps (goes_at (Digits f 0) r) (hex_number j m) ≡ Goes record { place = Digits f j; number = m; range = r }
some_digits f r all zero m few small = let e : 0 ≡ m = omega (arith, small) in ap (λ (n : ℕ). Goes record { place = Digits f 0; number = n; range = r }) e
some_digits f r all (suc j) m few small =
    let p = pow-suc 16 j in
    let n : ℕ = m / 16 in
    let d : ℕ = m % 16 in
    let most = all j in
    let a : j + 1 ≡ suc j = omega arith in
    let b : 16 * n + d ≡ m = omega arith in
    let now : Step = Goes record { place = Digits f j; number = n; range = r } in
    steps-append (goes_at (Digits f 0) r) (hex_number j n) (hex_digit d ∷ [])
    ∙ ap (λ (s : Step). steps s (hex_digit d ∷ [])) (some_digits f r all j n (omega (arith, few)) (omega (arith, small, p)))
    ∙ digit_goes f j n r d (omega arith) (omega (arith, most))
    ∙ cond-false (j + 1 == digits_of f r.space) _ _ (ne_eqb (j + 1) (digits_of f r.space) (λ e. let no : ⊥ = omega (arith, few, e) in no))
    ∙ (λ i. Goes record { place = Digits f (a i); number = b i; range = r })

-- all its digits
all_digits : (f : Field) (r : ToldRange) → ((k : ℕ) → greatest_digit f k ≡ 15) → (w m : ℕ) → w ≡ digits_of f r.space → 0 < w → m < 16 ^ w → (bytes : List ℕ)
    → steps (goes_at (Digits f 0) r) (hex_number w m ++ bytes) ≡ steps (goes_at (After f) (with_number f m r)) bytes
all_digits f r all zero m e some small bytes = absurd (let no : ⊥ = omega (arith, some) in no)
all_digits f r all (suc j) m e some small bytes =
    let p = pow-suc 16 j in
    let n : ℕ = m / 16 in
    let d : ℕ = m % 16 in
    let most = all j in
    let b : 16 * n + d ≡ m = omega arith in
    steps-append (goes_at (Digits f 0) r) (hex_number (suc j) m) bytes
    ∙ ap (λ (s : Step). steps s bytes) (
    steps-append (goes_at (Digits f 0) r) (hex_number j n) (hex_digit d ∷ [])
    ∙ ap (λ (s : Step). steps s (hex_digit d ∷ [])) (some_digits f r all j n (omega (arith, e)) (omega (arith, small, p)))
    ∙ digit_goes f j n r d (omega arith) (omega (arith, most))
    ∙ cond-true (j + 1 == digits_of f r.space) _ _ (eq-eqb (j + 1) (digits_of f r.space) (omega (arith, e)))
    ∙ (λ i. goes_at (After f) (with_number f (b i) r))
    )

width_some : (space : Space) → 0 < digits_of First space
width_some Io = lit< tt
width_some Memory = lit< tt

address_below : (space : Space) (m : ℕ) → IsAddress space m → m < 16 ^ digits_of First space
address_below Io m h = h
address_below Memory m h = h

first_read : (r : ToldRange) (m : ℕ) (bytes : List ℕ) → IsAddress r.space m → steps (goes_at (Digits First 0) r) (address_text r.space m ++ bytes) ≡ steps (goes_at (After First) (record r { first = m })) bytes
first_read r m bytes h =
    ap (λ (t : List ℕ). steps (goes_at (Digits First 0) r) (t ++ bytes)) (sym (address_digits r.space (digits_of First r.space) m refl))
    ∙ all_digits First r (λ k. refl) (digits_of First r.space) m refl (width_some r.space) (address_below r.space m h) bytes

last_read : (r : ToldRange) (m : ℕ) (bytes : List ℕ) → IsAddress r.space m → steps (goes_at (Digits Last 0) r) (address_text r.space m ++ bytes) ≡ steps (goes_at (After Last) (record r { last = m })) bytes
last_read r m bytes h =
    ap (λ (t : List ℕ). steps (goes_at (Digits Last 0) r) (t ++ bytes)) (sym (address_digits r.space (digits_of First r.space) m refl))
    ∙ all_digits Last r (λ k. refl) (digits_of First r.space) m (sym (digits_alike r.space)) (width_some r.space) (address_below r.space m h) bytes

-- ---- words

abbrev pub spaced : Slot → Space → Bool → ToldRange
spaced s space prefetchable = record { slot = s; space = space; prefetchable = prefetchable; first = 0; last = 0; mark = Command; name = [] }

space_read : (s : Slot) (space : Space) (prefetchable : Bool) (bytes : List ℕ) → (space ≡ Io → prefetchable ≡ false)
    → steps (goes_at (After Function) (slotted s)) (32 ∷ (space_word space prefetchable ++ (32 ∷ bytes))) ≡ steps (goes_at (Digits First 0) (spaced s space prefetchable)) bytes
unfolding step_at
space_read s Io prefetchable bytes plain = ap (λ (p : Bool). steps (goes_at (Digits First 0) (spaced s Io p)) bytes) (sym (plain refl))
space_read s Memory false bytes plain = refl
space_read s Memory true bytes plain = refl

mark_read : (r : ToldRange) (mark : Mark) (bytes : List ℕ) → steps (goes_at (After Last) r) (32 ∷ (mark_word mark ++ bytes)) ≡ steps (goes_at (InMark (length (mark_word mark))) (record r { mark = mark })) bytes
unfolding step_at
mark_read r Command bytes = refl
mark_read r Always bytes = refl
mark_read r Held bytes = refl

-- ---- up to the end of the range

-- a range of which no mark is read
abbrev pub headed : ToldRange → ToldRange
headed r = record { slot = r.slot; space = r.space; prefetchable = r.prefetchable; first = r.first; last = r.last; mark = Command; name = [] }

head_apart : (r : ToldRange) (bytes : List ℕ)
    → range_head r ++ bytes ≡ slot_text r.slot ++ (32 ∷ (space_word r.space r.prefetchable ++ (32 ∷ (address_text r.space r.first ++ (45 ∷ (address_text r.space r.last ++ bytes))))))
head_apart r bytes =
    ap (λ (t : List ℕ). slot_text r.slot ++ (32 ∷ t)) (
    append_assoc (space_word r.space r.prefetchable) (32 ∷ (address_text r.space r.first ++ (45 ∷ address_text r.space r.last))) bytes
    ∙ ap (λ (t : List ℕ). space_word r.space r.prefetchable ++ (32 ∷ t)) (append_assoc (address_text r.space r.first) (45 ∷ address_text r.space r.last) bytes)
    )

pub head_read : (r : ToldRange) (bytes : List ℕ) → IsToldLine r → steps (Goes no_line) (range_head r ++ bytes) ≡ steps (goes_at (After Last) (headed r)) bytes
unfolding step_at
head_read r bytes h =
    let start : ToldRange = spaced r.slot r.space r.prefetchable in
    let one : ToldRange = record start { first = r.first } in
    let ends : List ℕ = address_text r.space r.last ++ bytes in
    ap (λ (t : List ℕ). steps (Goes no_line) t) (head_apart r bytes)
    ∙ slot_read r.slot (32 ∷ (space_word r.space r.prefetchable ++ (32 ∷ (address_text r.space r.first ++ (45 ∷ ends))))) h.slot
    ∙ space_read r.slot r.space r.prefetchable (address_text r.space r.first ++ (45 ∷ ends)) h.plain
    ∙ first_read start r.first (45 ∷ ends) h.first
    ∙ last_read one r.last bytes h.last

-- ---- to the end of the line

byte_is_other : (c : ℕ) → is_name_byte c ≡ true → c ≡ 10 → ⊥
byte_is_other c h e = let parts = and_parts (nat_le 0x21 c) (nat_le c 0x7e) h in let low = leb-true 0x21 c parts.0 in omega (arith, low, e)

name_read : (name : List ℕ) (r : ToldRange) → length r.name + length name ≤ 32 → All (λ c. IsTrue (is_name_byte c)) name → 1 ≤ length r.name + length name
    → steps (goes_at InName r) (name ++ 10 ∷ []) ≡ Ends (record r { name = r.name ++ name })
unfolding step_at
name_read [] r few each some =
    cond-false (length r.name == 0) _ _ (ne_eqb (length r.name) 0 (λ e. let no : ⊥ = omega (arith, some, e) in no)) ∙ ap (λ (t : List ℕ). Ends (record r { name = t })) (sym (append-nil r.name))
name_read (c ∷ name) r few each some =
    let byte : is_name_byte c ≡ true = each 0 c (omega arith) in
    let next : ToldRange = record r { name = r.name ++ c ∷ [] } in
    let l = length-append r.name (c ∷ []) in
    by (goes_at InName r) (goes_at InName next) c (name ++ 10 ∷ [])
    (cond-false (c == 10) _ _ (ne_eqb c 10 (byte_is_other c byte)) ∙ cond-true (is_name_byte c && nat_lt (length r.name) 32) _ _ (and_from (is_name_byte c) (nat_lt (length r.name) 32) byte (lt-ltb (length r.name) 32 (omega (arith, few)))))
    ∙ name_read name next (omega (arith, few, l)) (λ k d below. each (suc k) d (omega (arith, below))) (omega (arith, l))
    ∙ ap (λ (t : List ℕ). Ends (record r { name = t })) (append_assoc r.name (c ∷ []) name)

-- behind the mark
end_read : (mark : Mark) (r : ToldRange) → r.mark ≡ mark → steps (goes_at (InMark (length (mark_word mark))) r) (10 ∷ []) ≡ Ends r
unfolding step_at
end_read Command r e = rw e refl
end_read Always r e = rw e refl
end_read Held r e = rw e refl

name_comes : (mark : Mark) (r : ToldRange) (bytes : List ℕ) → r.mark ≡ mark → steps (goes_at (InMark (length (mark_word mark))) r) (32 ∷ bytes) ≡ steps (goes_at InName r) bytes
unfolding step_at
name_comes Command r bytes e = rw e refl
name_comes Always r bytes e = rw e refl
name_comes Held r bytes e = rw e refl

tail_read : (name : List ℕ) (r : ToldRange) → r.name ≡ [] → IsName name → steps (goes_at (InMark (length (mark_word r.mark))) r) (name_text name ++ 10 ∷ []) ≡ Ends (record r { name = name })
tail_read [] r none h = end_read r.mark r refl ∙ ap (λ (t : List ℕ). Ends (record r { name = t })) none
tail_read (c ∷ name) r none h =
    let l = ap length none in
    let few = h.0 in
    name_comes r.mark r ((c ∷ name) ++ 10 ∷ []) refl ∙ name_read (c ∷ name) r (omega (arith, l, few)) h.1 (omega (arith, l))
    ∙ ap (λ (t : List ℕ). Ends (record r { name = t ++ (c ∷ name) })) none

line_apart : (r : ToldRange) → told_line r ≡ range_head r ++ (32 ∷ (mark_word r.mark ++ (name_text r.name ++ 10 ∷ [])))
unfolding told_line
line_apart r = append_assoc (range_head r ++ (32 ∷ mark_word r.mark)) (name_text r.name) (10 ∷ []) ∙ append_assoc (range_head r) (32 ∷ mark_word r.mark) (name_text r.name ++ 10 ∷ [])

pub whole_read : (r : ToldRange) → IsToldLine r → steps (Goes no_line) (told_line r) ≡ Ends r
whole_read r h =
    ap (λ (t : List ℕ). steps (Goes no_line) t) (line_apart r) ∙ head_read r (32 ∷ (mark_word r.mark ++ (name_text r.name ++ 10 ∷ []))) h
    ∙ mark_read (headed r) r.mark (name_text r.name ++ 10 ∷ []) ∙ tail_read r.name (record (headed r) { mark = r.mark }) refl h.name

-- ---- each part goes on

abbrev pub Finishes : Step → Type 0
Finishes s = (bytes : List ℕ) × (r : ToldRange) × (steps s bytes ≡ Ends r)

finish_by : (s : Step) (c : ℕ) (t : Step) → from s c ≡ t → Finishes t → Finishes s
finish_by s c t e h = (c ∷ h.0, h.1, by s t c h.0 e ∙ h.2)

finish_same : (s t : Step) → s ≡ t → Finishes t → Finishes s
finish_same s t e h = subst Finishes (sym e) h

each_of_none : All (λ c. IsTrue (is_name_byte c)) []
each_of_none k d below = absurd (let no : ⊥ = omega (arith, below) in no)

each_of_one : All (λ c. IsTrue (is_name_byte c)) (33 ∷ [])
each_of_one zero d below = refl
each_of_one (suc k) d below = absurd (let no : ⊥ = omega (arith, below) in no)

finish_name : (n : ℕ) (r : ToldRange) → length r.name ≤ 32 → Finishes (Goes record { place = InName; number = n; range = r })
unfolding step_at
finish_name n r few = elim (cases_eq (length r.name) 0) [
  | inl none ↦ (33 ∷ 10 ∷ [], record r { name = r.name ++ 33 ∷ [] }, name_read (33 ∷ []) r (omega (arith, none)) each_of_one (omega arith))
  | inr some ↦ (10 ∷ [], record r { name = r.name ++ [] }, name_read [] r (omega (arith, few)) each_of_none (omega (arith, some)))
]

-- the rest of a word, of which some letters are there
finish_mark : (j k n : ℕ) (r : ToldRange) → 1 ≤ k → j + k ≡ length (mark_word r.mark) → Finishes (Goes record { place = InMark k; number = n; range = r })
unfolding step_at
finish_mark zero k n r some e = finish_by (Goes record { place = InMark k; number = n; range = r }) 10 (Ends r)
    (cond-false (k == 0) _ _ (ne_eqb k 0 (λ z. let no : ⊥ = omega (arith, some, z) in no)) ∙ cond-false (nat_lt k (length (mark_word r.mark))) _ _ (le-ltb k (length (mark_word r.mark)) (omega (arith, e))))
    ([], r, refl)
finish_mark (suc j) k n r some e =
    let w : List ℕ = mark_word r.mark in
    finish_by (Goes record { place = InMark k; number = n; range = r }) (get_or w k 0) (goes_at (InMark (k + 1)) r)
    (cond-false (k == 0) _ _ (ne_eqb k 0 (λ z. let no : ⊥ = omega (arith, some, z) in no)) ∙ cond-true (nat_lt k (length w)) _ _ (lt-ltb k (length w) (omega (arith, e))) ∙ cond-true (get_or w k 0 == get_or w k 0) _ _ (eq-eqb (get_or w k 0) (get_or w k 0) refl))
    (finish_mark j (k + 1) 0 r (omega arith) (omega (arith, e)))

finish_at_mark : (k n : ℕ) (r : ToldRange) → k ≤ length (mark_word r.mark) → Finishes (Goes record { place = InMark k; number = n; range = r })
unfolding step_at
finish_at_mark k n r within = elim (cases_eq k 0) [
  | inl none ↦ finish_by (Goes record { place = InMark k; number = n; range = r }) 104 (goes_at (InMark 1) (record r { mark = Held })) (cond-true (k == 0) _ _ (eq-eqb k 0 none)) (finish_mark 3 1 0 (record r { mark = Held }) (lit≤ tt) refl)
  | inr some ↦ finish_mark (length (mark_word r.mark) - k) k n r (omega (arith, some)) (omega (arith, within))
]

finish_range : (n : ℕ) (r : ToldRange) → Finishes (Goes record { place = After Last; number = n; range = r })
unfolding step_at
finish_range n r = finish_by (Goes record { place = After Last; number = n; range = r }) 32 (goes_at (InMark 0) r) refl (finish_at_mark 0 0 r (omega arith))

-- the digits of a number, of which some are there
finish_digits : (f : Field) (j k n : ℕ) (r : ToldRange) → suc j + k ≡ digits_of f r.space → ((m : ℕ) → Finishes (goes_at (After f) (with_number f m r))) → Finishes (Goes record { place = Digits f k; number = n; range = r })
finish_digits f zero k n r e next =
    finish_by (Goes record { place = Digits f k; number = n; range = r }) 48 (goes_at (After f) (with_number f (16 * n + 0) r))
    (digit_goes f k n r 0 (lit< tt) (omega arith) ∙ cond-true (k + 1 == digits_of f r.space) _ _ (eq-eqb (k + 1) (digits_of f r.space) (omega (arith, e)))) (next (16 * n + 0))
finish_digits f (suc j) k n r e next =
    finish_by (Goes record { place = Digits f k; number = n; range = r }) 48 (Goes record { place = Digits f (k + 1); number = 16 * n + 0; range = r })
    (digit_goes f k n r 0 (lit< tt) (omega arith) ∙ cond-false (k + 1 == digits_of f r.space) _ _ (ne_eqb (k + 1) (digits_of f r.space) (λ z. let no : ⊥ = omega (arith, e, z) in no)))
    (finish_digits f j (k + 1) (16 * n + 0) r (omega (arith, e)) next)

finish_number : (f : Field) (k n : ℕ) (r : ToldRange) → k < digits_of f r.space → ((m : ℕ) → Finishes (goes_at (After f) (with_number f m r))) → Finishes (Goes record { place = Digits f k; number = n; range = r })
finish_number f k n r less next = finish_digits f (digits_of f r.space - k - 1) k n r (omega (arith, less)) next

last_width : (space : Space) → 0 < digits_of Last space
last_width Io = lit< tt
last_width Memory = lit< tt

finish_first : (n : ℕ) (r : ToldRange) → Finishes (Goes record { place = After First; number = n; range = r })
unfolding step_at
finish_first n r = finish_by (Goes record { place = After First; number = n; range = r }) 45 (goes_at (Digits Last 0) r) refl (finish_number Last 0 0 r (last_width r.space) (λ m. finish_range 0 (record r { last = m })))

finish_addresses : (r : ToldRange) → Finishes (goes_at (Digits First 0) r)
finish_addresses r = finish_number First 0 0 r (width_some r.space) (λ m. finish_first 0 (record r { first = m }))

finish_space : (j k n : ℕ) (r : ToldRange) → 1 ≤ k → j + k ≡ length (space_word r.space r.prefetchable) → Finishes (Goes record { place = InSpace k; number = n; range = r })
unfolding step_at
finish_space zero k n r some e = finish_by (Goes record { place = InSpace k; number = n; range = r }) 32 (goes_at (Digits First 0) r)
    (cond-false (k == 0) _ _ (ne_eqb k 0 (λ z. let no : ⊥ = omega (arith, some, z) in no))
    ∙ cond-false (nat_lt k (length (space_word r.space r.prefetchable))) _ _ (le-ltb k (length (space_word r.space r.prefetchable)) (omega (arith, e))))
    (finish_addresses r)
finish_space (suc j) k n r some e =
    let w : List ℕ = space_word r.space r.prefetchable in
    finish_by (Goes record { place = InSpace k; number = n; range = r }) (get_or w k 0) (goes_at (InSpace (k + 1)) r)
    (cond-false (k == 0) _ _ (ne_eqb k 0 (λ z. let no : ⊥ = omega (arith, some, z) in no)) ∙ cond-true (nat_lt k (length w)) _ _ (lt-ltb k (length w) (omega (arith, e))) ∙ cond-true (get_or w k 0 == get_or w k 0) _ _ (eq-eqb (get_or w k 0) (get_or w k 0) refl))
    (finish_space j (k + 1) 0 r (omega arith) (omega (arith, e)))

finish_at_space : (k n : ℕ) (r : ToldRange) → k ≤ length (space_word r.space r.prefetchable) → Finishes (Goes record { place = InSpace k; number = n; range = r })
unfolding step_at
finish_at_space k n r within = elim (cases_eq k 0) [
  | inl none ↦ finish_by (Goes record { place = InSpace k; number = n; range = r }) 105 (goes_at (InSpace 1) (record r { space = Io; prefetchable = false })) (cond-true (k == 0) _ _ (eq-eqb k 0 none)) (finish_space 1 1 0 (record r { space = Io; prefetchable = false }) (lit≤ tt) refl)
  | inr some ↦ finish_space (length (space_word r.space r.prefetchable) - k) k n r (omega (arith, some)) (omega (arith, within))
]

finish_slot : (n : ℕ) (r : ToldRange) → Finishes (Goes record { place = After Function; number = n; range = r })
unfolding step_at
finish_slot n r = finish_by (Goes record { place = After Function; number = n; range = r }) 32 (goes_at (InSpace 0) r) refl (finish_at_space 0 0 r (omega arith))

finish_device : (n : ℕ) (r : ToldRange) → Finishes (Goes record { place = After Device; number = n; range = r })
unfolding step_at
finish_device n r = finish_by (Goes record { place = After Device; number = n; range = r }) 46 (goes_at (Digits Function 0) r) refl (finish_number Function 0 0 r (lit< tt) (λ m. finish_slot 0 (with_number Function m r)))

finish_bus : (n : ℕ) (r : ToldRange) → Finishes (Goes record { place = After Bus; number = n; range = r })
unfolding step_at
finish_bus n r = finish_by (Goes record { place = After Bus; number = n; range = r }) 58 (goes_at (Digits Device 0) r) refl (finish_number Device 0 0 r (lit< tt) (λ m. finish_device 0 (with_number Device m r)))

pub finishes : (place : Place) (n : ℕ) (r : ToldRange) (part : List ℕ) → IsAt part place n r → Finishes (Goes record { place = place; number = n; range = r })
finishes (Digits Bus k) n r part a = finish_number Bus k n r a.fits.0 (λ m. finish_bus 0 (with_number Bus m r))
finishes (Digits Device k) n r part a = finish_number Device k n r a.fits.0 (λ m. finish_device 0 (with_number Device m r))
finishes (Digits Function k) n r part a = finish_number Function k n r a.fits.0 (λ m. finish_slot 0 (with_number Function m r))
finishes (Digits First k) n r part a = finish_number First k n r a.fits.0 (λ m. finish_first 0 (record r { first = m }))
finishes (Digits Last k) n r part a = finish_number Last k n r (subst (λ (w : ℕ). k < w) (sym (digits_alike r.space)) a.fits.0) (λ m. finish_range 0 (record r { last = m }))
finishes (After Bus) n r part a = finish_bus n r
finishes (After Device) n r part a = finish_device n r
finishes (After Function) n r part a = finish_slot n r
finishes (After First) n r part a = finish_first n r
finishes (After Last) n r part a = finish_range n r
finishes (InSpace k) n r part a = finish_at_space k n r a.fits.0
finishes (InMark k) n r part a = finish_at_mark k n r a.fits.0
finishes InName n r part a = finish_name n r a.name.0
