-- The ranges that are written for an option are those that it reads.
use Rattle.std.proofs.Common.{◌≡◌, ℕ, suc, false, ◌-◌, ◌^◌, ◌<◌, ◌≤◌, List, [], ◌∷◌, ◌++◌, length, map, replicate, refl, sym, ◌∙◌, ap, subst, arith}
use Rattle.std.specs.List.{All}
use Rattle.std.proofs.lemmas.Fmt.{digits_is_IsNumeral}
use Rattle.std.proofs.lemmas.Int.Digits.{digits_value-lt}
use Rattle.std.proofs.lemmas.List.{length-append, length-replicate}
use Rattle.pci_spec.proofs.HexTexts.{padded_hex}
use Rattle.pci_spec.proofs.HexNumbers.{length-hex_number}
use Rattle.pci_base.specs.declared.range.Range.{Range}
use Rattle.pci_base.specs.declared.range.RootRange.{RootRange}
use Rattle.pciplan_lists.specs.PoolWords.{IsAddressWord, IsPoolWord}
use Rattle.pciplan_lists.specs.ListWords.{IsRangeWord}
use Rattle.pciplan_lists.specs.Joined.{AreJoined}
use Rattle.pci_here.specs.Place.{hex_text}
use Rattle.pci_here.specs.Words.{option_text, range_word, IsSmallRange, WrittenListIsRead}

few_digits : (n : ℕ) → n < 2 ^ 64 → length (hex_text n) ≤ 16
few_digits n small =
    let zeros : ℕ = 16 - length (hex_text n) in
    let all : length (replicate zeros 48 ++ hex_text n) ≡ 16 = ap length (padded_hex 16 n (omega arith) (omega arith) (omega (arith, small))) ∙ length-hex_number 16 n in
    omega (arith, all, length-append (replicate zeros 48) (hex_text n), length-replicate {A = ℕ} zeros 48)

address_read : (n : ℕ) → n < 2 ^ 64 → IsAddressWord (hex_text n) n
address_read n small =
    let numeral = digits_is_IsNumeral 16 false (omega arith) (omega arith) n (omega (arith, small)) in
    let below : n < 16 ^ length (hex_text n) = subst (λ k. k < 16 ^ length (hex_text n)) numeral.1 (digits_value-lt 16 (hex_text n) numeral.0.1) in
    let none : length (hex_text n) - length (hex_text n) ≡ 0 = omega arith in
    record {
      digits = length (hex_text n);
      some = numeral.0.0;
      few = few_digits n small;
      below = below;
      text = sym (ap (λ k. replicate k 48 ++ hex_text n) none) ∙ padded_hex (length (hex_text n)) n numeral.0.0 (omega (arith, few_digits n small)) below;
    }

pool_read : (r : Range) → r.first < 2 ^ 64 → r.last < 2 ^ 64 → IsPoolWord (hex_text r.first ++ 45 ∷ hex_text r.last) r
pool_read r first last = record { first = hex_text r.first; last = hex_text r.last; parts = refl; from = address_read r.first first; to = address_read r.last last }

range_read : (r : RootRange) → IsSmallRange r → IsRangeWord (range_word r) r
range_read r small = record {
  below = small.root;
  addresses = hex_text r.range.first ++ 45 ∷ hex_text r.range.last;
  text = refl;
  range = pool_read r.range small.first small.last;
}

ranges_read : (list : List RootRange) → All IsSmallRange list → AreJoined IsRangeWord (option_text (44 ∷ []) (map range_word list)) list
ranges_read [] small = refl
ranges_read (r ∷ more) small = (
  option_text (44 ∷ []) (map range_word more),
  record { word = range_word r; is = range_read r (small 0 r (omega arith)); parts = refl },
  ranges_read more (λ k d inside. small (suc k) d (omega arith)),
)

pub all_read : WrittenListIsRead
all_read option [] some small = absurd (omega arith)
all_read option (r ∷ more) some small = record {
  word = range_word r ++ option_text (44 ∷ []) (map range_word more);
  text = refl;
  is = ranges_read (r ∷ more) small;
}
