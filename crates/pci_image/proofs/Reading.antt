-- BAR registers read one after another.
use Rattle.std.proofs.Common.{◌≡◌, ◌≢◌, ℕ, zero, suc, ◌+◌, ◌<◌, ◌≤◌, List, [], ◌∷◌, ◌++◌, map, length, length-append, append-nil, drop, refl, Bool, true, false, not, ◌&&◌, inl, inr, arith, sym, ◌∙◌, ap, subst, add-one, zero-add, None}
use Rattle.std.specs.Bool.{nat_eq}
use Rattle.std.specs.List.{All, filter, range_with_len}
use Rattle.std.proofs.Math.Dec.{eqb}
use Rattle.std.proofs.lemmas.Bool.{ne_eqb, eq-eqb, cases_Bool, cases_lt, not-true, not-false}
use Rattle.std.proofs.lemmas.List.{map-append}
use Rattle.std.proofs.lemmas.List.Elements.{filter-append, All-nil, All-cons}
use denote.Enum.Bare.{sameb}
use Rattle.pci_spec.specs.Header.{bar_count, bar_register, layout}
use Rattle.pci_spec.specs.Bar.{bar_at, bar_kind, is_wide, starts_bar, bar_fault, bar_reading, first_broken, has_bar}
use Rattle.pci_spec.specs.Decoded.{DecodedBar, decoded_bar}
use Rattle.pci_spec.proofs.Ranges.{decoded_bar-decodes}
use Rattle.pci_image.specs.declared.bar.Bar.{Bar}
use Rattle.pci_image.specs.declared.bar.BarKind.{BarKind}
use Rattle.pci_image.specs.declared.bar.BarKind.TheVariants.{Io, Mem32, Mem64}
use Rattle.pci_image.specs.contracts.bar.BarKind.{the_type}
use Rattle.pci_image.specs.Bars.{decoded_kind_of, decoded_bar_of, IsComparedBar}
use Rattle.pci_image.proofs.Decoding.{wide-of_kind, narrow-of_kind}

-- the registers below n were read: none is faulty, the BARs found are theirs, and the flag says that
-- register n is an upper half
pub record HasRead (image probe : List ℕ) (n : ℕ) (upper : Bool) (found : List Bar) : Type 0 where
  pub flag : upper ≡ not (starts_bar probe n)
  pub lawful : (m : ℕ) → m < n → bar_fault image probe m ≡ None
  pub decoded : map decoded_bar_of found ≡ map (decoded_bar image probe) (filter (has_bar probe) (range_with_len 0 n))
  pub room : length found ≤ n

-- one more number at the end of a row
row : (low count j : ℕ) → low + count ≡ j → range_with_len low (suc count) ≡ range_with_len low count ++ j ∷ []
row low zero j e = let same : low ≡ j = omega arith in ap (λ k. k ∷ []) same
row low (suc count) j e = ap (λ l. low ∷ l) (row (low + 1) count j (omega arith))

-- the same for a row from 0
more : (n : ℕ) → range_with_len 0 (n + 1) ≡ range_with_len 0 n ++ n ∷ []
more n = ap (range_with_len 0) (add-one n) ∙ row 0 n n (zero-add n)

-- one more number of a row, filtered
one_more : (test : ℕ → Bool) (n : ℕ) → filter test (range_with_len 0 (n + 1)) ≡ filter test (range_with_len 0 n) ++ filter test (n ∷ [])
one_more test n = ap (filter test) (more n) ∙ filter-append test (range_with_len 0 n) (n ∷ [])

-- what holds below a register and at it holds below the next
below_next : (image probe : List ℕ) (n : ℕ) → ((m : ℕ) → m < n → bar_fault image probe m ≡ None) → bar_fault image probe n ≡ None
    → (m : ℕ) → m < n + 1 → bar_fault image probe m ≡ None
below_next image probe n before here m h = elim (cases_lt m n) [
  | inl below ↦ before m below
  | inr at ↦ let e : n ≡ m = omega arith in subst (λ j. bar_fault image probe j ≡ None) e here
]

-- whether the next register starts a BAR
starts-next : (probe : List ℕ) (n : ℕ) → starts_bar probe (n + 1) ≡ not (starts_bar probe n && is_wide (bar_at probe n))
starts-next probe n = ap (starts_bar probe) (add-one n)

-- a register that decodes to nothing adds nothing
nothing_more : (image probe : List ℕ) (n : ℕ) (found : List Bar)
    → map decoded_bar_of found ≡ map (decoded_bar image probe) (filter (has_bar probe) (range_with_len 0 n))
    → has_bar probe n ≡ false
    → map decoded_bar_of found ≡ map (decoded_bar image probe) (filter (has_bar probe) (range_with_len 0 (n + 1)))
nothing_more image probe n found is none =
    let rest : filter (has_bar probe) (n ∷ []) ≡ [] = rw none refl in
    let whole = one_more (has_bar probe) n ∙ ap (λ l. filter (has_bar probe) (range_with_len 0 n) ++ l) rest ∙ append-nil (filter (has_bar probe) (range_with_len 0 n)) in
    is ∙ ap (map (decoded_bar image probe)) (sym whole)

-- two negations cancel
not_not : (b : Bool) → not (not b) ≡ b
not_not true = refl
not_not false = refl

-- a BAR is of 64 bits just where its register says so
same_wide : (kind : BarKind) (mask : ℕ) → decoded_kind_of kind ≡ bar_kind mask → sameb the_type kind Mem64 ≡ is_wide mask
same_wide Io mask is = sym (narrow-of_kind mask (λ e. let no = is ∙ e in cc))
same_wide Mem32 mask is = sym (narrow-of_kind mask (λ e. let no = is ∙ e in cc))
same_wide Mem64 mask is = sym (wide-of_kind mask (sym is))

-- past an upper half
pub read_upper : (image probe : List ℕ) (n : ℕ) (upper : Bool) (found : List Bar) → HasRead image probe n upper found → upper ≡ true
    → HasRead image probe (n + 1) false found
read_upper image probe n upper found before is =
    let off : starts_bar probe n ≡ false = not-true _ (sym before.flag ∙ is) in
    record {
      flag = sym (ap not (starts-next probe n) ∙ rw off refl);
      lawful = below_next image probe n before.lawful (rw off refl);
      decoded = nothing_more image probe n found before.decoded (rw off refl);
      room = let r = before.room in omega (arith, r);
    }

module _ (image probe : List ℕ) (n : ℕ) (upper : Bool) (found : List Bar) (before : HasRead image probe n upper found) (is : upper ≡ false) where
  -- a register that is no upper half starts a BAR
  on : starts_bar probe n ≡ true
  on = not-false _ (sym before.flag ∙ is)

  -- a register that starts a BAR has the fault that its rules say
  pub fault_is : first_broken (bar_reading (nat_eq (n + 1) (bar_count (layout image))) image probe n) ≡ bar_fault image probe n
  fault_is = rw on refl

  -- past a register that isn't implemented
  pub read_empty : bar_fault image probe n ≡ None → bar_at probe n ≡ 0 → HasRead image probe (n + 1) false found
  read_empty lawful no_ones =
      let narrow : is_wide (bar_at probe n) ≡ false = ap is_wide no_ones in
      let test = eq-eqb (bar_at probe n) 0 no_ones in
      record {
        flag = sym (ap not (starts-next probe n) ∙ rw (on, narrow) refl);
        lawful = below_next image probe n before.lawful lawful;
        decoded = nothing_more image probe n found before.decoded (rw (on, test) refl);
        room = let r = before.room in omega (arith, r);
      }

  -- past the register of a BAR
  pub read_bar : (bar : Bar) → bar_fault image probe n ≡ None → bar_at probe n ≢ 0 → decoded_bar_of bar ≡ decoded_bar image probe n
      → HasRead image probe (n + 1) (sameb the_type bar.kind Mem64) (found ++ bar ∷ [])
  read_bar bar lawful some decodes =
      let test = ne_eqb (bar_at probe n) 0 some in
      let there : has_bar probe n ≡ true = rw (on, test) refl in
      let kind : decoded_kind_of bar.kind ≡ bar_kind (bar_at probe n) = ap (λ d. d.kind) decodes in
      let rest : filter (has_bar probe) (n ∷ []) ≡ n ∷ [] = rw there refl in
      let whole = one_more (has_bar probe) n ∙ ap (λ l. filter (has_bar probe) (range_with_len 0 n) ++ l) rest in
      let bars = filter (has_bar probe) (range_with_len 0 n) in
      record {
        flag = same_wide bar.kind (bar_at probe n) kind ∙ sym (ap not (starts-next probe n) ∙ rw on (not_not (is_wide (bar_at probe n))));
        lawful = below_next image probe n before.lawful lawful;
        decoded =
            map-append decoded_bar_of found (bar ∷ [])
            ∙ ap (λ l. l ++ decoded_bar_of bar ∷ []) before.decoded
            ∙ ap (λ d. map (decoded_bar image probe) bars ++ d ∷ []) decodes
            ∙ sym (map-append (decoded_bar image probe) bars (n ∷ []))
            ∙ ap (map (decoded_bar image probe)) (sym whole);
        room = let r = before.room in let l = length-append found (bar ∷ []) in omega (arith, r, l);
      }

-- ---- the comparators of all that was read

-- a BAR that a register decodes to is compared
compared_one : (image probe : List ℕ) (n : ℕ) (bar : Bar) → has_bar probe n ≡ true → bar_fault image probe n ≡ None
    → decoded_bar_of bar ≡ decoded_bar image probe n → IsComparedBar image probe bar
compared_one image probe n bar there lawful decodes m a register =
    let at : bar.reg ≡ bar_register n = ap (λ d. d.register) decodes in
    let same : n ≡ m = omega (arith, at, register) in
    let range = ap (λ d. d.range) decodes in
    let first : bar.first ≡ (decoded_bar image probe n).range.first = ap (λ r. r.first) range in
    let last : bar.last ≡ (decoded_bar image probe n).range.last = ap (λ r. r.last) range in
    rw (← same, first, last) (decoded_bar-decodes image probe n there lawful a)

-- the first of a list, or another where it is empty
abbrev head_or : DecodedBar → List DecodedBar → DecodedBar
head_or d [] = d
head_or d (x ∷ xs) = x

-- the first of some BARs, and the others
first_compared : (image probe : List ℕ) (n : ℕ) (numbers : List ℕ) (found : List Bar)
    → map decoded_bar_of found ≡ decoded_bar image probe n ∷ map (decoded_bar image probe) numbers
    → has_bar probe n ≡ true → bar_fault image probe n ≡ None
    → ((rest : List Bar) → map decoded_bar_of rest ≡ map (decoded_bar image probe) numbers → All (IsComparedBar image probe) rest)
    → All (IsComparedBar image probe) found
first_compared image probe n numbers [] is there lawful rest = cc
first_compared image probe n numbers (bar ∷ found) is there lawful rest =
    All-cons (IsComparedBar image probe) bar found
    (compared_one image probe n bar there lawful (ap (λ l. head_or (decoded_bar image probe n) l) is))
    (rest found (ap (λ l. drop 1 l) is))

-- the BARs of a row of registers are compared
compared_from : (image probe : List ℕ) (count low : ℕ) (found : List Bar)
    → map decoded_bar_of found ≡ map (decoded_bar image probe) (filter (has_bar probe) (range_with_len low count))
    → ((m : ℕ) → low ≤ m → m < low + count → bar_fault image probe m ≡ None) → All (IsComparedBar image probe) found
compared_from image probe zero low [] is lawful = All-nil (IsComparedBar image probe)
compared_from image probe zero low (bar ∷ found) is lawful = cc
compared_from image probe (suc count) low found is lawful = elim (cases_Bool (has_bar probe low)) [
  | inr none ↦ compared_from image probe count (low + 1) found (rw none at is) (λ m at below. lawful m (omega arith) (omega arith))
  | inl there ↦
      first_compared image probe low (filter (has_bar probe) (range_with_len (low + 1) count)) found (rw there at is) there (lawful low (omega arith) (omega arith))
      (λ rest same. compared_from image probe count (low + 1) rest same (λ m at below. lawful m (omega arith) (omega arith)))
]

-- all that was read is what the comparators answer
pub read-compared : (image probe : List ℕ) (n : ℕ) (upper : Bool) (found : List Bar) → HasRead image probe n upper found → All (IsComparedBar image probe) found
read-compared image probe n upper found read = compared_from image probe n 0 found read.decoded (λ m at below. read.lawful m (omega arith))
