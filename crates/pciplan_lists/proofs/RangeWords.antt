-- Words of ranges: what stands in none, and where one is cut.
use Rattle.std.proofs.Common.{◌≡◌, ◌≢◌, ℕ, ◌<◌, ◌/◌, ◌%◌, List, [], ◌∷◌, ◌++◌, Option, None, Some, MatchOption, Bor, sym, ◌∙◌, subst, arith, inl, inr}
use Rattle.std.proofs.lemmas.Str.Pattern.{IsSplitOnceResult, split_after, split_parts}
use Rattle.pci_base.specs.declared.range.Range.{Range}
use Rattle.pci_spec.specs.Text.{hex_byte, hex_digit}
use Rattle.pci_base.specs.declared.range.RootRange.{RootRange}
use Rattle.pciplan_lists.specs.PoolWords.{IsAddressWord, IsPoolWord}
use Rattle.pciplan_lists.specs.ListWords.{IsRangeWord, bus_text}
use Rattle.pciplan_lists.proofs.HexWords.{no_digit}
use Rattle.pciplan_lists.proofs.PoolWords.{address_digit}
use Rattle.pciplan_lists.proofs.Without.{Without, without_one, without_both, not_without}

-- a byte that is no digit
abbrev pub IsNoDigit : ℕ → Type 0
IsNoDigit byte = (d : ℕ) → hex_digit d ≢ byte

pub no_comma : IsNoDigit 44
no_comma = no_digit 44 (inl (omega arith))

pub no_colon : IsNoDigit 58
no_colon = no_digit 58 (inr (omega arith, omega arith))

pub without_address : (byte : ℕ) → IsNoDigit byte → (word : List ℕ) (address : ℕ) → IsAddressWord word address → Without byte word
without_address byte none word address is = λ i inside e.
    let digit = address_digit word address i is inside in
    none digit.value (digit.is ∙ e)

pub without_pool : (byte : ℕ) → IsNoDigit byte → 45 ≢ byte → (word : List ℕ) (pool : Range) → IsPoolWord word pool → Without byte word
without_pool byte none other word pool is = subst (λ w. Without byte w) (sym is.parts)
    (without_both byte is.first (45 ∷ is.last) (without_address byte none is.first pool.first is.from)
    (without_one byte 45 is.last other (without_address byte none is.last pool.last is.to)))

pub without_byte : (byte : ℕ) → IsNoDigit byte → (bus : ℕ) → Without byte (hex_byte bus)
without_byte byte none bus =
    without_one byte (hex_digit (bus / 16)) (hex_digit (bus % 16) ∷ []) (none (bus / 16))
    (without_one byte (hex_digit (bus % 16)) [] (none (bus % 16)) (λ i inside. absurd (omega (arith, inside))))

without_bus : (root : Option ℕ) → Without 44 (bus_text root)
without_bus None = λ i inside. absurd (omega (arith, inside))
without_bus (Some bus) = without_both 44 (hex_byte bus) (58 ∷ []) (without_byte 44 no_comma bus)
    (without_one 44 58 [] (omega arith) (λ i inside. absurd (omega (arith, inside))))

-- no comma stands in the word of a range
pub without_comma : (word : List ℕ) (r : RootRange) → IsRangeWord word r → Without 44 word
without_comma word r is = subst (λ w. Without 44 w) (sym is.text)
    (without_both 44 (bus_text r.root) is.addresses (without_bus r.root) (without_pool 44 no_comma (omega arith) is.addresses r.range is.range))

-- a word that has a bus before its colon
pub record IsOfOne (bus addresses : List ℕ) (r : RootRange) : Type 0 where
  pub root : ℕ
  pub below : root < 256
  pub one : r.root ≡ Some root
  pub digits : bus ≡ hex_byte root
  pub range : IsPoolWord addresses r.range

-- a word that has none
pub record IsOfAll (word : List ℕ) (r : RootRange) : Type 0 where
  pub all : r.root ≡ None
  pub range : IsPoolWord word r.range

-- the parts of a range's word are those that it is cut into at its first colon
pub range_parts : (word : List ℕ) (cut : Option (Bor (List ℕ) × Bor (List ℕ))) → IsSplitOnceResult 58 word cut
    → (root : Option ℕ) (range : Range) → IsRangeWord word record { root = root; range = range }
    → MatchOption cut (IsOfAll word record { root = root; range = range })
    (λ parts. IsOfOne parts.0.now parts.1.now record { root = root; range = range })
range_parts word None result None range is = record { all = λ i. None; range = subst (λ w. IsPoolWord w range) (sym is.text) is.range }
range_parts word None result (Some bus) range is =
    absurd (split_after 58 word (hex_byte bus) is.addresses None result (omega arith) is.text (without_byte 58 no_colon bus))
range_parts word (Some parts) result None range is =
    let front : List ℕ = parts.0.now in
    let cut = split_parts 58 word (Some parts) result (omega arith) in
    let none : Without 58 (front ++ 58 ∷ parts.1.now) = subst (λ w. Without 58 w) (sym is.text ∙ cut.0) (without_pool 58 no_colon (omega arith) is.addresses range is.range) in
    absurd (not_without 58 front parts.1.now none)
range_parts word (Some parts) result (Some bus) range is =
    let same = split_after 58 word (hex_byte bus) is.addresses (Some parts) result (omega arith) is.text (without_byte 58 no_colon bus) in
    record { root = bus; below = is.below; one = λ i. Some bus; digits = same.0; range = subst (λ w. IsPoolWord w range) (sym same.1) is.range }

pub range_same : (r : RootRange) (root : Option ℕ) (range : Range) → root ≡ r.root → range ≡ r.range
    → Some (record { root = root; range = range }) ≡ Some r
range_same r root range of_root of_range = λ i. Some record { root = of_root i; range = of_range i }
