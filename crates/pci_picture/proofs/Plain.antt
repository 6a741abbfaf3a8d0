-- Bytes that a picture shows as themselves.
use Rattle.std.proofs.Common.{◌≡◌, ℕ, ◌<◌, ◌+◌, ◌==◌, Bool, true, not, ◌&&◌, List, [], ◌∷◌, ◌++◌, length, take, get_or, refl, sym, ap, ◌∙◌, arith}
use Rattle.std.specs.Prelude.{bit_or}
use Rattle.std.proofs.lemmas.Bool.{agree_below, agree_below_at, and_parts, not-true, eq-eqb}
use Rattle.std.proofs.lemmas.List.{take_more, append-nil}
use Rattle.std.proofs.lemmas.List.Concat.{flat_map-append}
use Rattle.std.proofs.lemmas.Nat.{le_or_l, le_or_r}
use Rattle.pci_picture.specs.Elements.{is_shown, escaped_byte, escaped}
use Rattle.pci_picture.specs.declared.elements.TheConstants.{MARKS}

-- a byte that is shown, and is none that has an entity
abbrev is_itself : ℕ → Bool
is_itself b = not (b == 38) && (not (b == 60) && (not (b == 62) && (not (b == 34) && (not (b == 39) && is_shown b))))

itself : (b : ℕ) → is_itself b ≡ true → escaped_byte b ≡ b ∷ []
itself b is =
    let amp = and_parts (not (b == 38)) _ is in
    let less = and_parts (not (b == 60)) _ amp.1 in
    let greater = and_parts (not (b == 62)) _ less.1 in
    let quoted = and_parts (not (b == 34)) _ greater.1 in
    let single = and_parts (not (b == 39)) (is_shown b) quoted.1 in
    rw (not-true _ amp.0, not-true _ less.0, not-true _ greater.0, not-true _ quoted.0, not-true _ single.0, single.1) refl

unmarked : agree_below (λ b. get_or MARKS b 0 == 0) is_itself 256 ≡ true
unmarked = refl

by_mark : (b : ℕ) → b < 256 → get_or MARKS b 0 ≡ 0 → escaped_byte b ≡ b ∷ []
by_mark b below none =
    itself b (sym (agree_below_at (λ k. get_or MARKS k 0 == 0) is_itself 256 b unmarked below) ∙ eq-eqb (get_or MARKS b 0) 0 none)

-- where the marks of all bytes so far and of one more are 0, a picture shows each of them as itself
pub same_more : (bytes : List ℕ) (marks k : ℕ) → k < length bytes → get_or bytes k 0 < 256 → (marks ≡ 0 → escaped (take k bytes) ≡ take k bytes)
    → bit_or marks (get_or MARKS (get_or bytes k 0) 0) ≡ 0 → escaped (take (k + 1) bytes) ≡ take (k + 1) bytes
same_more bytes marks k within byte before none =
    let b = get_or bytes k 0 in
    let m = get_or MARKS b 0 in
    let left = le_or_l marks m in
    let right = le_or_r marks m in
    let marks_0 : marks ≡ 0 = omega (arith, left, none) in
    let mark_0 : m ≡ 0 = omega (arith, right, none) in
    let more = take_more bytes k 0 within in
    let one : escaped (b ∷ []) ≡ b ∷ [] = append-nil (escaped_byte b) ∙ by_mark b byte mark_0 in
    ap escaped more ∙ flat_map-append escaped_byte (take k bytes) (b ∷ []) ∙ (λ i. before marks_0 i ++ one i) ∙ sym more
