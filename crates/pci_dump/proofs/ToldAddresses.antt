-- The digits of an address, but its last one, taken one after the other.
use Rattle.std.proofs.Common.{◌-◌, ◌≡◌, ◌≢◌, ℕ, ◌+◌, ◌*◌, inl, inr, ◌<◌, ◌≤◌, ◌^◌, ◌==◌, [], nat_le, true, drop-drop, length-drop, List, length, take, drop, get_or, refl, sym, ◌∙◌, ap, subst, arith, Some, None}
use Rattle.std.proofs.Math.Seq.{take-length}
use Rattle.std.proofs.lemmas.Bool.{cases_lt, cond-true, cond-false, le-leb, ne_eqb}
use Rattle.pci_spec.specs.System.{Space, Io, Memory}
use Rattle.judge_spec.specs.Told.{ToldRange}
use Rattle.judge_spec.specs.ToldForm.{Field, Bus, Device, Function, First, Last, Place, Digits, Begun, IsBegun, Step, Goes, ToldSoFar, Reading, IsFit, digit_in, digit_step, digits_of, greatest_digit, step, take_byte, take_step, take_bytes}
use Rattle.pci_dump.specs.ToldSteps.{IsAddressField, AreTaken, AreTakenWithin, BeginWithDigits, inner_digits, so_far}
use Rattle.pci_dump.proofs.ToldDigits.{step_some, small_number}
use Rattle.pci_dump.proofs.ToldTaken.{taken_more}

abbrev pub in_address : Begun → Field → ℕ → ℕ → Begun
in_address old f read number = record { place = Digits f read; number = number; range = old.range }

-- a digit that isn't the last one
inner_last : (f : Field) (k n d : ℕ) (r : ToldRange) → greatest_digit f k ≡ 15 → d ≤ 15 → k + 1 ≢ digits_of f r.space → digit_step f k n r (Some d) ≡ Goes record { place = Digits f (k + 1); number = 16 * n + d; range = r }
inner_last f k n d r most small more =
    cond-true (nat_le d (greatest_digit f k)) _ _ (subst (λ m. nat_le d m ≡ true) (sym most) (le-leb d 15 small))
    ∙ cond-false (k + 1 == digits_of f r.space) _ _ (ne_eqb (k + 1) (digits_of f r.space) more)

inner : (f : Field) (k n d : ℕ) (r : ToldRange) → IsAddressField f → d ≤ 15 → k + 1 ≢ digits_of f r.space → digit_step f k n r (Some d) ≡ Goes record { place = Digits f (k + 1); number = 16 * n + d; range = r }
inner Bus k n d r address small more = absurd address
inner Device k n d r address small more = absurd address
inner Function k n d r address small more = absurd address
inner First k n d r address small more = inner_last First k n d r refl small more
inner Last k n d r address small more = inner_last Last k n d r refl small more

goes : (ranges : List ToldRange) (place : Place) (f : Field) (k n : ℕ) (r : ToldRange) (x : Step) → x ≡ Goes record { place = Digits f k; number = n; range = r } → take_step ranges place x ≡ Reading (so_far ranges record { place = Digits f k; number = n; range = r })
goes ranges place f k n r x e = ap (take_step ranges place) e

inner_byte : (ranges : List ToldRange) (old : Begun) (f : Field) (k n c d : ℕ) → length ranges ≢ 4096 → IsAddressField f → digit_in c ≡ Some d → d ≤ 15 → k + 1 ≢ digits_of f old.range.space
    → take_byte (so_far ranges (in_address old f k n)) c ≡ Reading (so_far ranges (in_address old f (k + 1) (16 * n + d)))
unfolding take_byte
inner_byte ranges old f k n c d few address digit small more =
    cond-false (length ranges == 4096) _ _ (ne_eqb (length ranges) 4096 few)
    ∙ goes ranges (Digits f k) f (k + 1) (16 * n + d) old.range (step (in_address old f k n) c)
    (step_some (λ s. s ≡ Goes (in_address old f (k + 1) (16 * n + d))) (in_address old f k n) f k c d refl digit (inner f k n d old.range address small more))

within_none : (old : Begun) (f : Field) (k n : ℕ) (bytes : List ℕ) → IsBegun old → old ≡ in_address old f k n → AreTakenWithin old bytes 0 (in_address old f k n)
within_none old f k n bytes begun same = subst (λ new. AreTakenWithin old bytes 0 new) same record {
  count = omega arith;
  taken = λ ranges few. record { rest = refl; begun = begun };
}

within_more : (old : Begun) (f : Field) (k n d count : ℕ) (bytes : List ℕ) → IsAddressField f → k + 1 ≢ digits_of f old.range.space → count < length bytes → digit_in (get_or bytes count 0) ≡ Some d → d ≤ 15
    → AreTakenWithin old bytes count (in_address old f k n) → AreTakenWithin old bytes (count + 1) (in_address old f (k + 1) (16 * n + d))
within_more old f k n d count bytes address more less digit small h = record {
  count = omega (arith, less);
  taken = λ ranges few. taken_more (so_far ranges old) bytes count (so_far ranges (in_address old f k n)) (so_far ranges (in_address old f (k + 1) (16 * n + d))) (h.taken ranges few) less
      (inner_byte ranges old f k n (get_or bytes count 0) d few address digit small more);
}

-- so many digits of an address are taken behind those that were read
pub record AreDigitsTaken (old : Begun) (f : Field) (before k n count : ℕ) (bytes : List ℕ) : Type 0 where
  pub taken : AreTakenWithin old bytes count (in_address old f k n)
  pub place : k ≡ before + count
  pub digits : (i : ℕ) → i < count → digit_in (get_or bytes i 0) ≢ None

pub none_taken : (old : Begun) (f : Field) (k n : ℕ) (bytes : List ℕ) → IsBegun old → old ≡ in_address old f k n → AreDigitsTaken old f k k n 0 bytes
none_taken old f k n bytes begun same = record {
  taken = within_none old f k n bytes begun same;
  place = omega arith;
  digits = λ i below. absurd (let no : ⊥ = omega (arith, below) in no);
}

pub one_taken : (old : Begun) (f : Field) (before k n d count : ℕ) (bytes : List ℕ) → IsAddressField f → k + 1 ≢ digits_of f old.range.space → count < length bytes → digit_in (get_or bytes count 0) ≡ Some d → d ≤ 15
    → AreDigitsTaken old f before k n count bytes → AreDigitsTaken old f before (k + 1) (16 * n + d) (count + 1) bytes
one_taken old f before k n d count bytes address more less digit small h = record {
  taken = within_more old f k n d count bytes address more less digit small h.taken;
  place = let place = h.place in omega (arith, place);
  digits = λ i below. elim (cases_lt i count) [
    | inl lower ↦ h.digits i lower
    | inr last ↦
        let same : count ≡ i = omega (arith, below, last) in
        subst (λ j. digit_in (get_or bytes j 0) ≢ None) same (λ none. (let no = sym digit ∙ none in absurd cc))
  ];
}

-- a place in an address
has_room : (f : Field) (k n : ℕ) (r : ToldRange) → IsAddressField f → IsFit (Digits f k) n r → k < digits_of f r.space
has_room Bus k n r address fits = absurd address
has_room Device k n r address fits = absurd address
has_room Function k n r address fits = absurd address
has_room First k n r address fits = fits.0
has_room Last k n r address fits = last_like_first r.space fits.0 where
  last_like_first : (space : Space) → k < digits_of First space → k < digits_of Last space
  last_like_first Io less = less
  last_like_first Memory less = less

inner_is : (f : Field) (k : ℕ) (place : Place) (space : Space) → IsAddressField f → place ≡ Digits f k → inner_digits place space ≡ digits_of f space - (k + 1)
inner_is Bus k place space address at = absurd address
inner_is Device k place space address at = absurd address
inner_is Function k place space address at = absurd address
inner_is First k place space address at = ap (λ p. inner_digits p space) at
inner_is Last k place space address at = ap (λ p. inner_digits p space) at

-- where taking ends, the next byte is no digit, or the address's last one
pub begin_with : (old : Begun) (f : Field) (before k n count : ℕ) (bytes : List ℕ) → IsAddressField f → old.place ≡ Digits f before → AreDigitsTaken old f before k n count bytes
    → (count < length bytes → k + 1 < digits_of f old.range.space → digit_in (get_or bytes count 0) ≡ None) → BeginWithDigits old bytes count
begin_with old f before k n count bytes address at h end =
    let inner = inner_is f before old.place old.range.space address at in
    let room = has_room f k n old.range address (h.taken.taken [] (λ (e : 0 ≡ 4096). absurd cc)).begun.fits in
    let place = h.place in
    record {
      count = h.taken.count;
      inner = omega (arith, inner, room, place);
      digits = h.digits;
      ends = λ less more. end less (omega (arith, inner, more, place));
    }

-- and so it is small enough for one digit more
pub within_small : (old : Begun) (f : Field) (before k n count : ℕ) (bytes : List ℕ) → AreDigitsTaken old f before k n count bytes → n < 2 ^ 60
within_small old f before k n count bytes h = small_number f k n old.range (h.taken.taken [] (λ (e : 0 ≡ 4096). absurd cc)).begun.fits

-- ---- bytes behind bytes

-- the rest of some bytes, as a slice of them
rest_is : (bytes : List ℕ) (k : ℕ) → take (length bytes - k) (drop k bytes) ≡ drop k bytes
rest_is bytes k = ap (λ n. take n (drop k bytes)) (sym (length-drop k bytes)) ∙ take-length (drop k bytes)

pub taken_then : (old s t : ToldSoFar) (bytes : List ℕ) (k n : ℕ) → AreTaken old bytes k s → AreTaken s (take (length bytes - k) (drop k bytes)) n t → AreTaken old bytes (k + n) t
taken_then old s t bytes k n h taken =
    let j = subst (λ more. AreTaken s more n t) (rest_is bytes k) taken in
    record { rest = h.rest ∙ j.rest ∙ ap (take_bytes t) (drop-drop n k bytes); begun = j.begun }
