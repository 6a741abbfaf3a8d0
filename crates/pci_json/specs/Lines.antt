-- The lines of a text, the words of a line, and the numbers that words have.
use Rattle.std.specs.Prelude.{ℕ, zero, suc, ◌+◌, ◌-◌, ◌*◌, ◌/◌, ◌%◌, ◌^◌, ◌==◌, ◌&&◌, nat_eq, nat_lt, nat_le, Bool, List, [], ◌∷◌, drop, fold, if◌then◌else◌}
use Rattle.std.specs.List.{before_first, after_first, prefix_len}
use Rattle.std.specs.Cmp.Lexicographic.{pointwise}

abbrev pub is_blank : ℕ → Bool
is_blank b = b == 32

-- a byte more in front of the first part
abbrev pub put_front : ℕ → List (List ℕ) → List (List ℕ)
put_front b [] = (b ∷ []) ∷ []
put_front b (part ∷ parts) = (b ∷ part) ∷ parts

-- the parts of a text, each of which ends with this byte, the last one without it too
unfoldable pub parts_of_text : ℕ → List ℕ → List (List ℕ)
parts_of_text end [] = []
parts_of_text end (b ∷ text) = if b == end then [] ∷ parts_of_text end text else put_front b (parts_of_text end text)

abbrev pub lines_of_text : List ℕ → List (List ℕ)
lines_of_text = parts_of_text 10

-- ---- a line: how deep it stands, and what stands there

-- how many blanks it begins with
abbrev pub indent_of : List ℕ → ℕ
indent_of line = prefix_len is_blank line

abbrev pub content_of : List ℕ → List ℕ
content_of line = drop (indent_of line) line

-- two blanks for each step
abbrev pub depth_of : List ℕ → ℕ
depth_of line = indent_of line / 2

-- the line is indented
abbrev pub is_inner : List ℕ → Bool
is_inner line = nat_lt 0 (depth_of line)

-- ---- the words of a content

-- what stands behind so many words
unfoldable pub behind_words : ℕ → List ℕ → List ℕ
behind_words zero content = content
behind_words (suc words) content = behind_words words (after_first is_blank content)

-- the word behind so many words
abbrev pub word : ℕ → List ℕ → List ℕ
word n content = before_first is_blank (behind_words n content)

-- whether this is the word behind so many words
abbrev pub is_word : ℕ → List ℕ → List ℕ → Bool
is_word n name content = pointwise nat_eq (word n content) name

-- ---- numbers

-- what a digit counts: 0 to 9, a to f
abbrev pub digit_value : ℕ → ℕ
digit_value b =
    if nat_le 48 b && nat_le b 57 then b - 48 else (if nat_le 97 b && nat_le b 102 then b - 87 else 0)

abbrev pub next_value : ℕ → ℕ → ℕ → ℕ
next_value base n b = (n * base + digit_value b) % 2 ^ 64

-- the number of a word of digits, of its 64 lowest bits
abbrev pub value_in_base : ℕ → List ℕ → ℕ
value_in_base base digits = fold (next_value base) 0 digits
