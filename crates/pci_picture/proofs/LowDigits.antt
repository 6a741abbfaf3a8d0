-- Hex digits of a number, while they are written.
use Rattle.std.proofs.Common.{◌≡◌, ◌<◌, ◌+◌, ◌-◌, ◌*◌, ◌/◌, ◌%◌, ◌^◌, ℕ, zero, suc, false, min, List, [], ◌∷◌, ◌++◌, length, get_or, set, take, drop, refl, sym, ap, ◌∙◌, arith}
use Rattle.std.specs.Fmt.{digit_glyph}
use Rattle.std.proofs.lemmas.List.{drop_all, drop-append-le, length-append, take_all}
use Rattle.std.proofs.lemmas.Nat.{shr-shr}
use Rattle.pci_picture.specs.Named.{low_digits}
use Rattle.pci_picture.specs.declared.words.TheConstants.{DIGITS}

pub count_low : (count number : ℕ) → length (low_digits count number) ≡ count
count_low zero number = refl
count_low (suc count) number =
    length-append (low_digits count (number / 16)) (digit_glyph false (number % 16) ∷ [])
    ∙ ap (λ n. n + 1) (count_low count (number / 16)) ∙ omega arith

-- behind the first digits stand the lowest
pub lowest_behind : (first count number : ℕ) → drop first (low_digits (first + count) number) ≡ low_digits count number
lowest_behind first zero number =
    let same : first + 0 ≡ first = omega arith in
    ap (λ n. drop first (low_digits n number)) same
    ∙ drop_all first (low_digits first number) (omega (arith, count_low first number))
lowest_behind first (suc count) number =
    let rest : List ℕ = low_digits (first + count) (number / 16) in
    let last : List ℕ = digit_glyph false (number % 16) ∷ [] in
    let more : first + suc count ≡ suc (first + count) = omega arith in
    ap (λ n. drop first (low_digits n number)) more
    ∙ drop-append-le first rest last (omega (arith, count_low (first + count) (number / 16)))
    ∙ ap (λ l. l ++ last) (lowest_behind first count (number / 16))

-- a digit is put behind the higher ones
put_at : (digits : List ℕ) (i digit : ℕ) → i < length digits → take (i + 1) (set digits i digit) ≡ take i digits ++ digit ∷ []
put_at [] i digit inside = absurd (omega (arith, inside))
put_at (one ∷ digits) zero digit inside = refl
put_at (one ∷ digits) (suc i) digit inside =
    let more : suc i + 1 ≡ suc (i + 1) = omega arith in
    ap (λ n. take n (one ∷ set digits i digit)) more ∙ ap (λ l. one ∷ l) (put_at digits i digit (omega (arith, inside)))

pub digit_more : (digits : List ℕ) (i number digit : ℕ) → i < 16 → length digits ≡ 16 → digit ≡ digit_glyph false (number / 2 ^ (60 - 4 * i) % 16)
    → take i digits ≡ low_digits i (number / 2 ^ (64 - 4 * i))
    → take (i + 1) (set digits i digit) ≡ low_digits (i + 1) (number / 2 ^ (64 - 4 * (i + 1)))
digit_more digits i number digit small long is was =
    let part : ℕ = number / 2 ^ (60 - 4 * i) in
    let up : 64 - 4 * i ≡ (60 - 4 * i) + 4 = omega (arith, small) in
    let down : 60 - 4 * i ≡ 64 - 4 * (i + 1) = omega arith in
    let more : suc i ≡ i + 1 = omega arith in
    let higher : number / 2 ^ (64 - 4 * i) ≡ part / 16 = ap (λ k. number / 2 ^ k) up ∙ sym (shr-shr number (60 - 4 * i) 4) in
    put_at digits i digit (omega (arith, small, long))
    ∙ ap (λ l. l ++ digit ∷ []) (was ∙ ap (low_digits i) higher)
    ∙ ap (λ d. low_digits i (part / 16) ++ d ∷ []) is
    ∙ ap (λ n. low_digits n part) more
    ∙ ap (λ k. low_digits (i + 1) (number / 2 ^ k)) down

-- ---- the digits by their values

abbrev AreDigitsFrom : ℕ → List ℕ → Type 0
AreDigitsFrom n [] = Unit
AreDigitsFrom n (digit ∷ digits) = (digit ≡ digit_glyph false n) × AreDigitsFrom (suc n) digits

digit_from : (digits : List ℕ) (n i : ℕ) → AreDigitsFrom n digits → i < length digits → get_or digits i 0 ≡ digit_glyph false (n + i)
digit_from [] n i are inside = absurd (omega (arith, inside))
digit_from (digit ∷ digits) n zero are inside =
    let same : n ≡ n + 0 = omega arith in
    are.0 ∙ ap (digit_glyph false) same
digit_from (digit ∷ digits) n (suc i) are inside =
    let same : suc n + i ≡ n + suc i = omega arith in
    digit_from digits (suc n) i are.1 (omega (arith, inside)) ∙ ap (digit_glyph false) same

are_digits : AreDigitsFrom 0 DIGITS
are_digits = (refl, (refl, (refl, (refl, (refl, (refl, (refl, (refl, (refl, (refl, (refl, (refl, (refl, (refl, (refl, (refl, tt))))))))))))))))

pub digit_of_number : (number : ℕ) → number < 16 → get_or DIGITS number 0 ≡ digit_glyph false number
digit_of_number number small =
    let same : 0 + number ≡ number = omega arith in
    digit_from DIGITS 0 number are_digits (omega (arith, small)) ∙ ap (digit_glyph false) same

pub all_digits : (digits : List ℕ) (number index : ℕ) → index ≡ 16 → length digits ≡ 16 → take index digits ≡ low_digits index (number / 2 ^ (64 - 4 * index))
    → digits ≡ low_digits 16 number
all_digits digits number index is long put =
    let whole : number / 1 ≡ number = omega arith in
    sym (take_all index digits (omega (arith, is, long))) ∙ put
    ∙ ap (λ n. low_digits n (number / 2 ^ (64 - 4 * n))) is
    ∙ ap (low_digits 16) whole

pub lowest_put : (all : List ℕ) (number digits count : ℕ) → count ≡ min digits 16 → all ≡ low_digits 16 number
    → take (16 - (16 - count)) (drop (16 - count) all) ≡ low_digits (min digits 16) number
lowest_put all number digits count is of =
    let both : 16 ≡ (16 - count) + count = omega (arith, is) in
    let lowest : drop (16 - count) all ≡ low_digits count number =
    ap (drop (16 - count)) (of ∙ ap (λ n. low_digits n number) both) ∙ lowest_behind (16 - count) count number in
    let long : length (drop (16 - count) all) ≡ count = ap length lowest ∙ count_low count number in
    take_all (16 - (16 - count)) (drop (16 - count) all) (omega (arith, long, is)) ∙ lowest ∙ ap (λ n. low_digits n number) is
