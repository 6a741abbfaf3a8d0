-- Flags of buses, and the list of those that are set.
use Rattle.std.proofs.Common.{◌≡◌, ℕ, ◌+◌, ◌<◌, List, [], ◌∷◌, ◌++◌, length, get_or, set, take, replicate, sym, ◌∙◌, subst, inl, inr, arith, Bool, true, false}
use Rattle.std.specs.Prelude.{◌↔◌}
use Rattle.std.specs.List.{Contains, All, AllPairs, range_with_len}
use Rattle.std.specs.List.Sorted.{IsStrictlyIncreasing}
use Rattle.std.proofs.lemmas.Bool.{cases_eq, both_ways}
use Rattle.std.proofs.lemmas.List.{get_or-set_same, get_or-set_other, get_or-replicate, take_more}
use Rattle.std.proofs.lemmas.List.Elements.{Contains-push, Contains-push_cases, Contains-append_left, All-contains}
use Rattle.pci_spec.proofs.Members.{in_nil, in_filter_to, in_filter_from, in_range_to, in_range_from, pairs_range, pairs_filter}
use Rattle.pci_spec.proofs.Rising.{pairs_of_rising, same_rising}
use Rattle.pci_tree.specs.Roots.{set_in}

-- a bus is in the list exactly where its flag is set
pub in_set_to : (flags : List Bool) (bus : ℕ) → Contains (set_in flags) bus → get_or flags bus false ≡ true
unfolding set_in
in_set_to flags bus has = (in_filter_to (λ b. get_or flags b false) (range_with_len 0 256) bus has).1

pub in_set_from : (flags : List Bool) (bus : ℕ) → bus < 256 → get_or flags bus false ≡ true → Contains (set_in flags) bus
unfolding set_in
in_set_from flags bus small is = in_filter_from (λ b. get_or flags b false) (range_with_len 0 256) bus (in_range_from 0 256 bus (omega arith) (omega arith)) is

pub set_small : (flags : List Bool) (bus : ℕ) → Contains (set_in flags) bus → bus < 256
unfolding set_in
set_small flags bus has = (in_range_to 0 256 bus (in_filter_to (λ b. get_or flags b false) (range_with_len 0 256) bus has).0).1

pub set_rises : (flags : List Bool) → AllPairs (λ x y. x < y) (set_in flags)
unfolding set_in
set_rises flags = pairs_filter (λ x y. x < y) (λ b. get_or flags b false) (range_with_len 0 256) (pairs_range 0 256)

-- the flags are those of the buses of a list
abbrev pub AreFlagsOf : List ℕ → List Bool → Type 0
AreFlagsOf xs flags = (b : ℕ) → b < 256 → (get_or flags b false ≡ true) ↔ Contains xs b

flags_push : (xs : List ℕ) (x : ℕ) (flags : List Bool) → length flags ≡ 256 → AreFlagsOf xs flags → AreFlagsOf (xs ++ x ∷ []) (set flags x true)
flags_push xs x flags size was b small = elim (cases_eq b x) [
  | inl e ↦ (
    λ (h : get_or (set flags x true) b false ≡ true). subst (λ z. Contains (xs ++ x ∷ []) z) (sym e) (Contains-push xs x),
    λ (h : Contains (xs ++ x ∷ []) b). subst (λ z. get_or (set flags x true) z false ≡ true) (sym e) (get_or-set_same flags x true false (omega arith)),
  )
  | inr ne ↦ (let same : get_or (set flags x true) b false ≡ get_or flags b false = get_or-set_other flags x b true false ne in (
    λ (h : get_or (set flags x true) b false ≡ true). Contains-append_left xs (x ∷ []) b ((was b small).0 (sym same ∙ h)),
    λ (h : Contains (xs ++ x ∷ []) b). elim (Contains-push_cases xs x b h) [
      | inl before ↦ same ∙ (was b small).1 before
      | inr here ↦ absurd (ne (sym here))
    ],
  ))
]

-- one more flag
pub flags_more : (xs : List ℕ) (i d : ℕ) (flags : List Bool) → i < length xs → length flags ≡ 256 → AreFlagsOf (take i xs) flags
    → AreFlagsOf (take (i + 1) xs) (set flags (get_or xs i d) true)
flags_more xs i d flags inside size was =
    subst (λ ys. AreFlagsOf ys (set flags (get_or xs i d) true)) (sym (take_more xs i d inside)) (flags_push (take i xs) (get_or xs i d) flags size was)

pub flags_none : AreFlagsOf [] (replicate 256 false)
flags_none b small = (
  λ (h : get_or (replicate 256 false) b false ≡ true). absurd (both_ways _ (get_or-replicate 256 b false false small) h),
  λ (h : Contains [] b). absurd (in_nil b h),
)

-- the flags of a list that rises are its buses
pub set_of_rising : (flags : List Bool) (xs : List ℕ) → All (λ x. x < 256) xs → IsStrictlyIncreasing xs → AreFlagsOf xs flags → set_in flags ≡ xs
set_of_rising flags xs small rising marked =
    same_rising (set_in flags) xs (set_rises flags) (pairs_of_rising xs rising)
    (λ n has. (marked n (set_small flags n has)).0 (in_set_to flags n has))
    (λ n has. (let lt : n < 256 = All-contains (λ x. x < 256) xs n small has in in_set_from flags n lt ((marked n lt).1 has)))
