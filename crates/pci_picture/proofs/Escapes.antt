-- Escaped bytes and decimal digits are characters of an attribute's value, and of content.
use Rattle.std.proofs.Common.{◌≡◌, ℕ, Bool, true, false, IsTrue, List, [], ◌∷◌, ◌++◌, ◌<◌, ◌+◌, ◌%◌, ◌^◌, ◌==◌, not, refl, codes, arith, if◌then◌else◌}
use Rattle.std.proofs.lemmas.Bool.{and_parts, ne_eqb}
use Rattle.std.proofs.lemmas.Fmt.{decimal_by_steps}
use Rattle.std.specs.Fmt.{decimal}
use Rattle.pci_picture.specs.Xml.{is_plain_character, is_unquoted, AreCharacters, no_character, character, entity, ampersand, less, greater, quote, apostrophe}
use Rattle.pci_picture.specs.Elements.{is_shown, escaped_byte, escaped}
use Rattle.pci_picture.proofs.Contents.{characters_append}

-- what a value may have, content may have too
pub plain_characters : (a : List ℕ) → AreCharacters is_unquoted a → AreCharacters is_plain_character a
plain_characters _ no_character = no_character
plain_characters _ (character c rest ok r) =
    character c rest ((and_parts (is_plain_character c) (not (c == 34)) ok).0) (plain_characters rest r)
plain_characters _ (entity e rest is r) = entity e rest is (plain_characters rest r)

-- a byte that is none of the three is allowed
unquoted : (b : ℕ) → (b == 38) ≡ false → (b == 60) ≡ false → (b == 34) ≡ false → IsTrue (is_unquoted b)
unquoted b a l q = rw (a, l, q) refl

by_tests : (b : ℕ) (rest : List ℕ) (amp lt gt quoted single shown : Bool)
    → (b == 38) ≡ amp → (b == 60) ≡ lt → (b == 34) ≡ quoted → AreCharacters is_unquoted rest
    → AreCharacters is_unquoted ((if amp then codes "&amp;"
    else (if lt then codes "&lt;"
    else (if gt then codes "&gt;"
    else (if quoted then codes "&quot;"
    else (if single then codes "&#x27;"
    else (if shown then b ∷ [] else 63 ∷ [])))))) ++ rest)
by_tests b rest true lt gt quoted single shown a l q h = entity (codes "&amp;") rest ampersand h
by_tests b rest false true gt quoted single shown a l q h = entity (codes "&lt;") rest less h
by_tests b rest false false true quoted single shown a l q h = entity (codes "&gt;") rest greater h
by_tests b rest false false false true single shown a l q h = entity (codes "&quot;") rest quote h
by_tests b rest false false false false true shown a l q h = entity (codes "&#x27;") rest apostrophe h
by_tests b rest false false false false false true a l q h = character b rest (unquoted b a l q) h
by_tests b rest false false false false false false a l q h = character 63 rest refl h

byte_characters : (b : ℕ) (rest : List ℕ) → AreCharacters is_unquoted rest
    → AreCharacters is_unquoted (escaped_byte b ++ rest)
byte_characters b rest h = by_tests b rest (b == 38) (b == 60) (b == 62) (b == 34) (b == 39) (is_shown b) refl refl refl h

pub escaped_characters : (bytes : List ℕ) → AreCharacters is_unquoted (escaped bytes)
escaped_characters [] = no_character
escaped_characters (b ∷ bytes) = byte_characters b (escaped bytes) (escaped_characters bytes)

digit_unquoted : (d : ℕ) → d < 10 → IsTrue (is_unquoted (48 + d))
digit_unquoted d lt =
    unquoted (48 + d) (ne_eqb (48 + d) 38 (λ e. omega (arith, e, lt))) (ne_eqb (48 + d) 60 (λ e. omega (arith, e, lt)))
    (ne_eqb (48 + d) 34 (λ e. omega (arith, e, lt)))

digit_below : (n : ℕ) → n % 10 < 10
digit_below n = omega arith

pub decimal_characters : (n : ℕ) → n < 2 ^ 64 → AreCharacters is_unquoted (decimal n)
decimal_characters n small =
    decimal_by_steps (λ _ digits. AreCharacters is_unquoted digits)
    (λ d lt. character (48 + d) [] (digit_unquoted d lt) no_character)
    (λ m digits _ before. characters_append is_unquoted digits _ before
    (character (48 + m % 10) [] (digit_unquoted (m % 10) (digit_below m)) no_character))
    n small
