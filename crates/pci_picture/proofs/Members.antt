-- Members by rising numbers of their sections.
use Rattle.std.proofs.Common.{◌≡◌, ◌+◌, arith, ℕ, false, List, get_or, refl, Ordering, Less, Equal, Greater}
use Rattle.std.specs.List.Sorted.{IsSortedBy, IsNonDecreasingBy}
use Rattle.std.specs.Ordering.{is_lt, nat_cmp, ordering_then}
use Rattle.std.proofs.lemmas.List.Sorted.{IsNonDecreasingBy-from_all_adjacent}
use Rattle.std.proofs.lemmas.Map.Keys.{ge_from_not_lt}

pub first_not_less : (first rest : Ordering) → is_lt (ordering_then first rest) ≡ false → is_lt first ≡ false
first_not_less Less rest is = is
first_not_less Equal rest is = refl
first_not_less Greater rest is = refl

-- what is sorted by a triple that begins with a number is sorted by the number
pub sorted_by_first : {X : Type 0} (number : X → ℕ) (second third : X → X → Ordering) (xs : List X)
    → IsSortedBy (λ x y. is_lt (ordering_then (ordering_then (nat_cmp (number x) (number y)) (second x y)) (third x y))) xs
    → IsNonDecreasingBy number xs
sorted_by_first number second third xs sorted =
    IsNonDecreasingBy-from_all_adjacent number xs (λ k d inside.
    let one = get_or xs k d in
    let next = get_or xs (k + 1) d in
    let first = nat_cmp (number next) (number one) in
    ge_from_not_lt (number next) (number one)
    (first_not_less first (second next one)
    (first_not_less (ordering_then first (second next one)) (third next one) (sorted k d (omega arith) inside))))
