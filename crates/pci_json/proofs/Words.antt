-- The words of a line that is made of words.
use Rattle.std.proofs.Common.{arith, ◌≡◌, ◌==◌, ◌<◌, ◌+◌, ◌-◌, ◌*◌, ◌/◌, ◌%◌, ◌^◌, ◌≤◌, nat_lt, nat_le, ℕ, zero, suc, List, [], ◌∷◌, ◌++◌, length, take, drop, get_or, Bool, true, false, not, cond, ◌&&◌, refl, ap, ap₂, ◌∙◌, if◌then◌else◌, append-nil}
use Rattle.std.specs.Prelude.{⊤}
use Rattle.std.proofs.lemmas.Bool.{false≢true, ne_eqb, le-leb}
use Rattle.std.proofs.lemmas.Fmt.{decimal_by_steps}
use Rattle.std.proofs.lemmas.Grind.{fold-append}
use Rattle.std.specs.Fmt.{decimal}
use Rattle.std.proofs.Math.Seq.{take-append_seam, drop-append-add, take-length}
use Rattle.std.proofs.lemmas.List.{drop_all}
use Rattle.std.specs.List.{before_first, after_first, position_or_len, flat_map}
use Rattle.pci_spec.specs.Slot.{Slot}
use Rattle.pci_spec.specs.Text.{hex_digit, hex_byte, slot_text}
use Rattle.pci_spec.specs.System.{Space, Io, Memory}
use Rattle.pci_spec.specs.Line.{field, hex_number, space_text, address_text}
use Rattle.judge_spec.specs.ToldLine.{register_text}
use Rattle.pci_json.specs.Lines.{is_blank, behind_words, word, digit_value, next_value, value_in_base}
use Rattle.pci_json.specs.Members.{is_line}

-- the text doesn't have this byte
abbrev pub lacks : ℕ → List ℕ → Bool
lacks c [] = true
lacks c (b ∷ w) = not (b == c) && lacks c w

abbrev pub no_blank : List ℕ → Bool
no_blank w = lacks 32 w

abbrev pub AreWords : List (List ℕ) → Type 0
AreWords [] = ⊤
AreWords (w ∷ ws) = (no_blank w ≡ true) × AreWords ws

-- words, each behind a blank
abbrev pub tail_of : List (List ℕ) → List ℕ
tail_of ws = flat_map field ws

-- ---- where a word ends

both_left : (a b : Bool) → a && b ≡ true → a ≡ true
both_left true b is = refl
both_left false b is = is

both_right : (a b : Bool) → a && b ≡ true → b ≡ true
both_right true b is = is
both_right false b is = absurd (false≢true is)

place_more : (here : Bool) (n k : ℕ) → not here ≡ true → n ≡ k → cond (not here) (1 + n) 0 ≡ suc k
place_more true n k is same = absurd (false≢true is)
place_more false n k is same = omega (arith, same)

place : (w rest : List ℕ) → no_blank w ≡ true → position_or_len is_blank (w ++ 32 ∷ rest) ≡ length w
place [] rest ok = refl
place (b ∷ w) rest ok =
    place_more (is_blank b) (position_or_len is_blank (w ++ 32 ∷ rest)) (length w) (both_left (not (is_blank b)) (no_blank w) ok) (place w rest (both_right (not (is_blank b)) (no_blank w) ok))

place_last : (w : List ℕ) → no_blank w ≡ true → position_or_len is_blank w ≡ length w
place_last [] ok = refl
place_last (b ∷ w) ok =
    place_more (is_blank b) (position_or_len is_blank w) (length w) (both_left (not (is_blank b)) (no_blank w) ok) (place_last w (both_right (not (is_blank b)) (no_blank w) ok))

word_before : (w rest : List ℕ) → no_blank w ≡ true → before_first is_blank (w ++ 32 ∷ rest) ≡ w
word_before w rest ok = ap (λ n. take n (w ++ 32 ∷ rest)) (place w rest ok) ∙ take-append_seam w (32 ∷ rest)

rest_behind : (w rest : List ℕ) → no_blank w ≡ true → after_first is_blank (w ++ 32 ∷ rest) ≡ rest
rest_behind w rest ok = ap (λ n. drop (n + 1) (w ++ 32 ∷ rest)) (place w rest ok) ∙ drop-append-add w (32 ∷ rest) 1

word_alone : (w : List ℕ) → no_blank w ≡ true → before_first is_blank w ≡ w
word_alone w ok = ap (λ n. take n w) (place_last w ok) ∙ take-length w

none_behind : (w : List ℕ) → no_blank w ≡ true → after_first is_blank w ≡ []
none_behind w ok = ap (λ n. drop (n + 1) w) (place_last w ok) ∙ drop_all (length w + 1) w (omega arith)

-- ---- the words of such a line

first_word : (w : List ℕ) (ws : List (List ℕ)) → no_blank w ≡ true → before_first is_blank (w ++ tail_of ws) ≡ w
first_word w [] ok = ap (before_first is_blank) (append-nil w) ∙ word_alone w ok
first_word w (v ∷ vs) ok = word_before w (v ++ tail_of vs) ok

no_word : (k : ℕ) → word k [] ≡ []
unfolding behind_words
no_word zero = refl
no_word (suc k) = no_word k

pub words_of : (w : List ℕ) (ws : List (List ℕ)) → AreWords (w ∷ ws) → (k : ℕ) → word k (w ++ tail_of ws) ≡ get_or (w ∷ ws) k []
unfolding behind_words
words_of w ws ok zero = first_word w ws ok.0
words_of w [] ok (suc k) = ap (word k) (ap (after_first is_blank) (append-nil w) ∙ none_behind w ok.0) ∙ no_word k
words_of w (v ∷ vs) ok (suc k) = ap (word k) (rest_behind w (v ++ tail_of vs) ok.0) ∙ words_of v vs ok.1 k

-- ---- the words of faults are digits and colons and points, so they have no blank and no line feed

both : (a b : Bool) → a ≡ true → b ≡ true → a && b ≡ true
both true b is more = more
both false b is more = is

other : (c b : ℕ) → c < 40 → 40 < b → not (b == c) ≡ true
other c b small large = ap not (ne_eqb b c (λ e. let no : ⊥ = omega (arith, e, small, large) in no))

digit_if : (c : ℕ) → c < 40 → (small : Bool) (d : ℕ) → not ((if small then 48 + d else 87 + d) == c) ≡ true
digit_if c below true d = other c (48 + d) below (omega arith)
digit_if c below false d = other c (87 + d) below (omega arith)

digit : (c : ℕ) → c < 40 → (d : ℕ) → not (hex_digit d == c) ≡ true
digit c below d = digit_if c below (nat_lt d 10) d

pub append_lacks : (c : ℕ) (u v : List ℕ) → lacks c u ≡ true → lacks c v ≡ true → lacks c (u ++ v) ≡ true
append_lacks c [] v left right = right
append_lacks c (b ∷ u) v left right =
    both (not (b == c)) (lacks c (u ++ v)) (both_left (not (b == c)) (lacks c u) left) (append_lacks c u v (both_right (not (b == c)) (lacks c u) left) right)

last_lacks : (c d : ℕ) → c < 40 → lacks c (hex_digit d ∷ []) ≡ true
last_lacks c d below = both (not (hex_digit d == c)) true (digit c below d) refl

pub byte_lacks : (c n : ℕ) → c < 40 → lacks c (hex_byte n) ≡ true
byte_lacks c n below = both (not (hex_digit (n / 16) == c)) (lacks c (hex_digit (n % 16) ∷ [])) (digit c below (n / 16)) (last_lacks c (n % 16) below)

pub slot_lacks : (c : ℕ) (s : Slot) → c < 40 → lacks c (slot_text s) ≡ true
slot_lacks c s below =
    append_lacks c (hex_byte s.bus) ((58 ∷ hex_byte s.device) ++ (46 ∷ hex_digit s.function ∷ [])) (byte_lacks c s.bus below)
    (append_lacks c (58 ∷ hex_byte s.device) (46 ∷ hex_digit s.function ∷ [])
    (both (not (58 == c)) (lacks c (hex_byte s.device)) (other c 58 below (omega arith)) (byte_lacks c s.device below))
    (both (not (46 == c)) (lacks c (hex_digit s.function ∷ [])) (other c 46 below (omega arith)) (last_lacks c s.function below)))

number_lacks : (c k n : ℕ) → c < 40 → lacks c (hex_number k n) ≡ true
number_lacks c zero n below = refl
number_lacks c (suc k) n below = append_lacks c (hex_number k (n / 16)) (hex_digit (n % 16) ∷ []) (number_lacks c k (n / 16) below) (last_lacks c (n % 16) below)

pub address_lacks : (c : ℕ) (space : Space) (n : ℕ) → c < 40 → lacks c (address_text space n) ≡ true
address_lacks c Io n below = number_lacks c 8 n below
address_lacks c Memory n below = number_lacks c 16 n below

pub byte_ok : (n : ℕ) → no_blank (hex_byte n) ≡ true
byte_ok n = byte_lacks 32 n (omega arith)

pub slot_ok : (s : Slot) → no_blank (slot_text s) ≡ true
slot_ok s = slot_lacks 32 s (omega arith)

pub space_ok : (space : Space) → no_blank (space_text space) ≡ true
space_ok Io = refl
space_ok Memory = refl

pub address_ok : (space : Space) (n : ℕ) → no_blank (address_text space n) ≡ true
address_ok space n = address_lacks 32 space n (omega arith)

-- ---- a register is two digits, and the line of a told range stands behind a plus

no_plus_if : (small : Bool) (d : ℕ) → ((if small then 48 + d else 87 + d) == 43) ≡ false
no_plus_if true d = ne_eqb (48 + d) 43 (λ e. let no : ⊥ = omega (arith, e) in no)
no_plus_if false d = ne_eqb (87 + d) 43 (λ e. let no : ⊥ = omega (arith, e) in no)

pub no_plus : (r : ℕ) → is_line (hex_byte r) ≡ false
no_plus r = no_plus_if (nat_lt (r / 16) 10) (r / 16)

digit_there : (d : ℕ) → d < 10 → digit_value (48 + d) ≡ d
digit_there d small =
    let low : nat_le 48 (48 + d) ≡ true = le-leb 48 (48 + d) (omega arith) in
    let high : nat_le (48 + d) 57 ≡ true = le-leb (48 + d) 57 (omega (arith, small)) in
    let same : 48 + d - 48 ≡ d = omega arith in
    ap₂ (λ (a b : Bool). if a && b then 48 + d - 48 else (if nat_le 97 (48 + d) && nat_le (48 + d) 102 then 48 + d - 87 else 0)) low high ∙ same

next_there : (n v d : ℕ) → n < 2 ^ 64 → v ≡ n / 10 → d ≡ n % 10 → (v * 10 + d) % 2 ^ 64 ≡ n
next_there n v d small front end = omega (arith, small, front, end)

-- the number of the digits of a number
pub decimal_value : (n : ℕ) → n < 2 ^ 64 → value_in_base 10 (decimal n) ≡ n
decimal_value n small =
    decimal_by_steps (λ m ds. m < 2 ^ 64 → value_in_base 10 ds ≡ m)
    (λ m digit below. next_there m 0 (digit_value (48 + m)) below (omega (arith, digit)) (digit_there m digit ∙ (let alone : m ≡ m % 10 = omega (arith, digit) in alone)))
    (λ m ds more front below.
    fold-append (next_value 10) 0 ds ((48 + m % 10) ∷ [])
    ∙ next_there m (value_in_base 10 ds) (digit_value (48 + m % 10)) below (front (omega (arith, below))) (digit_there (m % 10) (omega arith)))
    n small small

decimal_lacks : (c n : ℕ) → c < 40 → n < 2 ^ 64 → lacks c (decimal n) ≡ true
decimal_lacks c n below small =
    decimal_by_steps (λ m ds. lacks c ds ≡ true)
    (λ m digit. both (not ((48 + m) == c)) true (other c (48 + m) below (omega arith)) refl)
    (λ m ds more front.
    append_lacks c ds ((48 + m % 10) ∷ []) front (both (not ((48 + m % 10) == c)) true (other c (48 + m % 10) below (omega arith)) refl))
    n small

register_lacks_if : (small : Bool) (c r : ℕ) → c < 40 → r ≤ 255 + 4096 → lacks c (if small then hex_byte r else 43 ∷ decimal (r - 255)) ≡ true
register_lacks_if true c r below ok = byte_lacks c r below
register_lacks_if false c r below ok =
    both (not (43 == c)) (lacks c (decimal (r - 255))) (other c 43 below (omega arith)) (decimal_lacks c (r - 255) below (omega (arith, ok)))

pub register_lacks : (c r : ℕ) → c < 40 → r ≤ 255 + 4096 → lacks c (register_text r) ≡ true
register_lacks c r below ok = register_lacks_if (nat_lt r 256) c r below ok
