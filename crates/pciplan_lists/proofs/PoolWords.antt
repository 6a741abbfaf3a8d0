-- Words of addresses and pools: what is none, and of which addresses the others are.
use Rattle.std.proofs.Common.{◌≡◌, ◌≢◌, ℕ, ◌<◌, ◌≤◌, ◌^◌, List, length, get_or, Option, None, Some, Bor, sym, ◌∙◌, ap, subst, arith, MatchOption}
use Rattle.std.proofs.Math.Nat.{pow-le-pow_right}
use Rattle.std.proofs.lemmas.Str.Pattern.{IsSplitOnceResult, split_after}
use Rattle.pci_spec.specs.Text.{hex_digit}
use Rattle.pci_spec.specs.Line.{hex_number}
use Rattle.pci_base.specs.declared.range.Range.{Range}
use Rattle.pciplan_lists.specs.PoolWords.{IsAddressWord, IsPoolWord}
use Rattle.pciplan_lists.proofs.HexWords.{IsDigit, no_minus, length_number, digit_at, number_same}

pub below_most : (digits address : ℕ) → digits ≤ 16 → address < 16 ^ digits → address < 2 ^ 64
below_most digits address few below =
    let most : 16 ^ digits ≤ 16 ^ 16 = pow-le-pow_right (omega arith) few in
    omega (arith, below, most)

pub length_address : (word : List ℕ) (address : ℕ) (is : IsAddressWord word address) → length word ≡ is.digits
length_address word address is = ap length is.text ∙ length_number is.digits address

pub address_digit : (word : List ℕ) (address i : ℕ) → IsAddressWord word address → i < length word → IsDigit (get_or word i 0)
address_digit word address i is inside =
    subst (λ w. IsDigit (get_or w i 0)) (sym is.text) (digit_at is.digits address i (omega (arith, inside, length_address word address is)))

-- a word with another byte among its digits is no address
pub other_byte : (word bytes : List ℕ) (i : ℕ) → bytes ≡ word → i < length bytes → ((d : ℕ) → d < 16 → hex_digit d ≢ get_or bytes i 0)
    → (address : ℕ) → IsAddressWord word address → ⊥
other_byte word bytes i same inside other address is =
    let digit = address_digit bytes address i (subst (λ w. IsAddressWord w address) (sym same) is) inside in
    other digit.value digit.small digit.is

pub address_same : (word : List ℕ) (a b : ℕ) → IsAddressWord word a → IsAddressWord word b → a ≡ b
address_same word a b of_a of_b =
    let same : of_a.digits ≡ of_b.digits = sym (length_address word a of_a) ∙ length_address word b of_b in
    number_same of_b.digits a b (subst (λ n. a < 16 ^ n) same of_a.below) of_b.below
    (ap (λ n. hex_number n a) (sym same) ∙ sym of_a.text ∙ of_b.text)

-- the parts of a pool's word are those that it is cut into at the first minus sign
pub pool_parts : (word : List ℕ) (cut : Option (Bor (List ℕ) × Bor (List ℕ))) → IsSplitOnceResult 45 word cut
    → (pool : Range) → IsPoolWord word pool
    → MatchOption cut ⊥ (λ parts. IsAddressWord parts.0.now pool.first × IsAddressWord parts.1.now pool.last)
pool_parts word None result pool is = split_after 45 word is.first is.last None result (omega arith) is.parts
    (λ i inside e. let digit = address_digit is.first pool.first i is.from inside in no_minus digit.value (digit.is ∙ e))
pool_parts word (Some parts) result pool is =
    let same = split_after 45 word is.first is.last (Some parts) result (omega arith) is.parts
    (λ i inside e. let digit = address_digit is.first pool.first i is.from inside in no_minus digit.value (digit.is ∙ e)) in
    (subst (λ w. IsAddressWord w pool.first) (sym same.0) is.from, subst (λ w. IsAddressWord w pool.last) (sym same.1) is.to)

pub pool_same : (p q : Range) → p.first ≡ q.first → p.last ≡ q.last → p ≡ q
pool_same p q first last = λ i. record { first = first i; last = last i }
