-- Digits of the numbers of a line.
use Rattle.std.proofs.Common.{◌-◌, ◌≡◌, ℕ, zero, suc, ◌+◌, ◌*◌, ◌^◌, ◌<◌, ◌≤◌, refl, sym, ◌∙◌, ap, subst, arith, lit≤, pow-suc, Option, Some, None}
use Rattle.pci_spec.specs.System.{Space, Io, Memory}
use Rattle.pci_spec.specs.Text.{hex_digit}
use Rattle.judge_spec.specs.Told.{ToldRange}
use Rattle.judge_spec.specs.ToldForm.{Field, Bus, Device, Function, First, Last, Place, Digits, Begun, Step, Wrong, digit_in, digit_step, step_at, step, digits_of, greatest_digit, IsFit}
use Rattle.judge_spec.proofs.ToldLines.{digit_read, digit_known}
use Rattle.pci_dump.specs.ToldSteps.{IsOfField, IsStep}
use Rattle.pci_dump.specs.declared.told_line.Next.TheVariants as next

pub digit_some : (c d : ℕ) → d ≤ 15 → c ≡ hex_digit d → digit_in c ≡ Some d
digit_some c d small e = ap digit_in e ∙ digit_known d (omega (arith, small))

pub digit_none : (c : ℕ) (o : Option ℕ) → o ≡ None → ((d : ℕ) → d < 16 → c ≡ hex_digit d → o ≡ Some d) → digit_in c ≡ None
digit_none c o none found = go (digit_in c) refl where
  go : (x : Option ℕ) → digit_in c ≡ x → x ≡ None
  go None e = refl
  go (Some d) e = let digit = digit_read c d e in let same = sym none ∙ found d digit.0 digit.1 in absurd cc

few_digits : (space : Space) → digits_of First space ≤ 16
few_digits Io = lit≤ tt
few_digits Memory = lit≤ tt

-- with more digits numbers are greater
grows : (j k n : ℕ) → j + k ≡ 15 → n < 16 ^ k → n < 16 ^ 15
grows zero k n e below = subst (λ (w : ℕ). n < 16 ^ w) (let same : k ≡ 15 = omega (arith, e) in same) below
grows (suc j) k n e below = let p = pow-suc 16 k in grows j (suc k) n (omega (arith, e)) (omega (arith, below, p))

-- a number with room for one digit more
small_address : (space : Space) (k n : ℕ) → k < digits_of First space → n < 16 ^ k → n < 2 ^ 60
small_address space k n less below = let few = few_digits space in grows (15 - k) k n (omega (arith, less, few)) below

pub small_number : (f : Field) (k n : ℕ) (r : ToldRange) → IsFit (Digits f k) n r → n < 2 ^ 60
small_number Bus zero n r fits = let below = fits.1 in omega (arith, below)
small_number Bus (suc zero) n r fits = let below = fits.1 in omega (arith, below)
small_number Bus (suc (suc k)) n r fits = absurd (let less = fits.0 in let no : ⊥ = omega (arith, less) in no)
small_number Device zero n r fits = let below = fits.1 in omega (arith, below)
small_number Device (suc zero) n r fits = let below = fits.1 in omega (arith, below)
small_number Device (suc (suc k)) n r fits = absurd (let less = fits.0 in let no : ⊥ = omega (arith, less) in no)
small_number Function k n r fits = let below = fits.1 in omega (arith, below)
small_number First k n r fits = small_address r.space k n fits.0 fits.1
small_number Last k n r fits = small_address r.space k n fits.0 fits.1

-- a place among the digits of a number
pub few_read : (f : Field) (k n : ℕ) (r : ToldRange) → IsFit (Digits f k) n r → k < 16
few_read Bus k n r fits = let less = fits.0 in omega (arith, less)
few_read Device k n r fits = let less = fits.0 in omega (arith, less)
few_read Function k n r fits = let less = fits.0 in omega (arith, less)
few_read First k n r fits = let less = fits.0 in let few = few_digits r.space in omega (arith, less, few)
few_read Last k n r fits = let less = fits.0 in let few = few_digits r.space in omega (arith, less, few)

-- the field has room for a number with its last digit
pub of_field : (f : Field) (k n d : ℕ) (r : ToldRange) → IsFit (Digits f k) n r → d < 16 → d ≤ greatest_digit f k → k + 1 ≡ digits_of f r.space → IsOfField f (16 * n + d)
of_field Bus zero n d r fits small most last = absurd (let no : ⊥ = omega (arith, last) in no)
of_field Bus (suc zero) n d r fits small most last = let below = fits.1 in omega (arith, below, small)
of_field Bus (suc (suc k)) n d r fits small most last = absurd (let less = fits.0 in let no : ⊥ = omega (arith, less) in no)
of_field Device zero n d r fits small most last = absurd (let no : ⊥ = omega (arith, last) in no)
of_field Device (suc zero) n d r fits small most last = let below = fits.1 in omega (arith, below, small)
of_field Device (suc (suc k)) n d r fits small most last = absurd (let less = fits.0 in let no : ⊥ = omega (arith, less) in no)
of_field Function k n d r fits small most last = let below = fits.1 in omega (arith, below, most)
of_field First k n d r fits small most last = tt
of_field Last k n d r fits small most last = tt

-- ---- a byte where a digit is asked for

none_at : (f : Field) (k n : ℕ) (r : ToldRange) (c : ℕ) → digit_in c ≡ None → step_at (Digits f k) n r c ≡ Wrong
unfolding step_at
none_at f k n r c none = ap (digit_step f k n r) none

some_at : (f : Field) (k n : ℕ) (r : ToldRange) (c d : ℕ) → digit_in c ≡ Some d → step_at (Digits f k) n r c ≡ digit_step f k n r (Some d)
unfolding step_at
some_at f k n r c d some = ap (digit_step f k n r) some

pub step_none : (l : Begun) (f : Field) (k c : ℕ) → Digits f k ≡ l.place → digit_in c ≡ None → IsStep l (step l c) next.Wrong l
step_none l f k c place none = subst (λ (s : Step). IsStep l s next.Wrong l) (sym none_here) (refl, refl) where
  none_here : step l c ≡ Wrong
  none_here = ap (λ (p : Place). step_at p l.number l.range c) (sym place) ∙ none_at f k l.number l.range c none

-- what is said of the line behind a digit
pub step_some : (P : Step → Type 0) (l : Begun) (f : Field) (k c d : ℕ) → Digits f k ≡ l.place → digit_in c ≡ Some d → P (digit_step f k l.number l.range (Some d)) → P (step l c)
step_some P l f k c d place some h =
    subst P (sym (ap (λ (p : Place). step_at p l.number l.range c) (sym place) ∙ some_at f k l.number l.range c d some)) h
