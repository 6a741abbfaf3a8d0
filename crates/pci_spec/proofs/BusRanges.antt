-- Ranges of bus numbers, bus by bus.
use Rattle.std.proofs.Common.{◌≡◌, ℕ, ◌<◌, ◌≤◌, ◌⊎◌, ◌↔◌, inl, inr, List, Bool, true, false, not, ◌&&◌, ◌||◌, arith, refl, sym, subst, get_or}
use Rattle.std.specs.Bool.{IsTrue, nat_le, nat_lt, ◌==◌}
use Rattle.std.specs.List.{list_all, list_any, Contains}
use Rattle.std.proofs.lemmas.Bool.{or_left, or_right, and_parts, and_from, or_cases, or_parts, leb-true, le-leb, ltb-true, ltb-false, lt-ltb, eqb-true, eq-eqb, cases_lt, cases_Bool, both_ways, not_from_false, not-true, true_from_ne_false, false_from_ne_true}
use Rattle.std.proofs.lemmas.List.Elements.{All-contains, Contains-get_or}
use Rattle.std.proofs.lemmas.List.Sums.{AllPass-from_list_all, list_all-from_AllPass}
use Rattle.std.proofs.lemmas.List.Folds.{Any-from_list_any, list_any-from_Any}
use Rattle.pci_spec.specs.Header.{primary_bus}
use Rattle.pci_spec.specs.System.{Function}
use Rattle.pci_spec.specs.Bus.{secondary, subordinate, is_behind, has_no_bus, are_apart, share_no_bus, is_inside, is_strictly_inside, is_root, has_bus_order, has_no_root_behind}

-- ---- tests over the elements of a list

-- a test that all elements pass, each one passes
pub all_gives : {X : Type 0} (test : X → Bool) (xs : List X) → list_all test xs ≡ true → (x : X) → Contains xs x → test x ≡ true
all_gives test xs h x has = All-contains (λ y. test y ≡ true) xs x (AllPass-from_list_all test xs h) has

-- and back
pub all_from : {X : Type 0} (test : X → Bool) (xs : List X) → ((x : X) → Contains xs x → test x ≡ true) → list_all test xs ≡ true
all_from test xs each = list_all-from_AllPass test xs (λ k d less. each (get_or xs k d) (Contains-get_or xs k d less))

-- a test that some element passes, a listed one passes
pub any_gives : {X : Type 0} (test : X → Bool) (xs : List X) → list_any test xs ≡ true → (x : X) × Contains xs x × (test x ≡ true)
any_gives test xs h = let found = Any-from_list_any test xs h in (found.1, (found.0, found.2, found.3), found.4)

-- and back
pub any_from : {X : Type 0} (test : X → Bool) (xs : List X) (x : X) → Contains xs x → test x ≡ true → list_any test xs ≡ true
any_from test xs x has is = list_any-from_Any test xs (has.0, x, has.1, has.2, is)

-- an `or` whose first side fails
pub second_side : (x y : Bool) → (x || y) ≡ true → x ≡ false → y ≡ true
second_side x y h f = elim (or_cases x y h) [ inl t ↦ absurd (both_ways x f t) | inr t ↦ t ]

-- ---- the tests on bus numbers, as inequalities

-- a bus lies in the range of a bridge
pub record IsWithin (b : Function) (bus : ℕ) : Type 0 where
  pub low : secondary b ≤ bus
  pub high : bus ≤ subordinate b

-- a bridge leads to buses above its own
pub record IsOrdered (b : Function) : Type 0 where
  pub up : b.slot.bus < secondary b
  pub range : secondary b ≤ subordinate b

-- the order of a bridge's three buses, by their numbers
pub bus_order_means : (b : Function) → IsTrue (has_bus_order b) ↔ ((primary_bus b.image ≡ b.slot.bus) × (b.slot.bus < secondary b) × (secondary b ≤ subordinate b))
bus_order_means b = (
  λ order.
      let parts = and_parts (primary_bus b.image == b.slot.bus && nat_lt b.slot.bus (secondary b)) (nat_le (secondary b) (subordinate b)) order in
      let first = and_parts (primary_bus b.image == b.slot.bus) (nat_lt b.slot.bus (secondary b)) parts.0 in
      (eqb-true (primary_bus b.image) b.slot.bus first.0, ltb-true _ _ first.1, leb-true _ _ parts.1),
  λ all. and_from _ _ (and_from _ _ (eq-eqb (primary_bus b.image) b.slot.bus all.0) (lt-ltb b.slot.bus (secondary b) all.1)) (le-leb (secondary b) (subordinate b) all.2),
)

-- and as a record
pub ordered : (b : Function) → has_bus_order b ≡ true → IsOrdered b
ordered b h = let parts = (bus_order_means b).0 h in record { up = parts.1; range = parts.2 }

-- a bus that is behind a bridge lies in its range
pub within_of_behind : (b : Function) (bus : ℕ) → is_behind b bus ≡ true → IsWithin b bus
within_of_behind b bus h =
    let parts = and_parts (nat_le (secondary b) bus) (nat_le bus (subordinate b)) h in
    record { low = leb-true _ _ parts.0; high = leb-true _ _ parts.1 }

-- and back
pub behind_of_within : (b : Function) (bus : ℕ) → IsWithin b bus → is_behind b bus ≡ true
behind_of_within b bus h = and_from (nat_le (secondary b) bus) (nat_le bus (subordinate b)) (le-leb _ _ h.low) (le-leb _ _ h.high)

-- one that isn't behind it lies outside
pub not_behind : (b : Function) (bus : ℕ) → is_behind b bus ≡ false → IsWithin b bus → ⊥
not_behind b bus h within = both_ways (is_behind b bus) h (behind_of_within b bus within)

-- a bus lies in a range or it doesn't
pub within_or_not : (b : Function) (bus : ℕ) → IsWithin b bus ⊎ (IsWithin b bus → ⊥)
within_or_not b bus = elim (cases_Bool (is_behind b bus)) [
  | inl behind ↦ inl (within_of_behind b bus behind)
  | inr not_so ↦ inr (not_behind b bus not_so)
]

-- ranges that are apart share no bus
pub apart_shares_none : (b c : Function) → are_apart b c ≡ true → (bus : ℕ) → IsWithin b bus → IsWithin c bus → ⊥
apart_shares_none b c h bus in_b in_c = elim (or_cases (nat_lt (subordinate b) (secondary c)) (nat_lt (subordinate c) (secondary b)) h) [
  | inl below ↦ let less = ltb-true (subordinate b) (secondary c) below in omega arith
  | inr above ↦ let less = ltb-true (subordinate c) (secondary b) above in omega arith
]

-- and ranges that share none are apart
pub apart_from_sharing_none : (b c : Function) → secondary b ≤ subordinate b → secondary c ≤ subordinate c
    → ((bus : ℕ) → IsWithin b bus → IsWithin c bus → ⊥) → are_apart b c ≡ true
apart_from_sharing_none b c range_b range_c none = true_from_ne_false (are_apart b c) (λ meet.
    let parts = or_parts (nat_lt (subordinate b) (secondary c)) (nat_lt (subordinate c) (secondary b)) meet in
    let over_b = ltb-false (subordinate b) (secondary c) parts.0 in
    let over_c = ltb-false (subordinate c) (secondary b) parts.1 in
    elim (cases_lt (secondary b) (secondary c)) [
      | inl low ↦ none (secondary c) record { low = omega arith; high = over_b } record { low = omega arith; high = range_c }
      | inr high ↦ none (secondary b) record { low = omega arith; high = range_b } record { low = high; high = over_c }
    ])

-- a range whose ends are crossed holds no bus
crossed_holds_none : (b : Function) → has_no_bus b ≡ true → (bus : ℕ) → IsWithin b bus → ⊥
crossed_holds_none b none bus within = let less = ltb-true (subordinate b) (secondary b) none in omega (arith, less, within.low, within.high)

-- where no bus is behind both, none lies in both ranges
pub shares_none : (b c : Function) → share_no_bus b c ≡ true → (bus : ℕ) → IsWithin b bus → IsWithin c bus → ⊥
shares_none b c h bus in_b in_c = elim (or_cases (are_apart b c || has_no_bus b) (has_no_bus c) h) [
  | inl first ↦ elim (or_cases (are_apart b c) (has_no_bus b) first) [
    | inl apart ↦ apart_shares_none b c apart bus in_b in_c
    | inr none ↦ crossed_holds_none b none bus in_b
  ]
  | inr none ↦ crossed_holds_none c none bus in_c
]

-- which ranges that are apart have
pub shares_none_apart : (b c : Function) → are_apart b c ≡ true → share_no_bus b c ≡ true
shares_none_apart b c apart = or_left (are_apart b c || has_no_bus b) (has_no_bus c) (or_left (are_apart b c) (has_no_bus b) apart)

-- and back
shares_none_from : (b c : Function) → ((bus : ℕ) → IsWithin b bus → IsWithin c bus → ⊥) → share_no_bus b c ≡ true
shares_none_from b c none = elim (cases_Bool (has_no_bus b)) [
  | inl crossed ↦ or_left (are_apart b c || has_no_bus b) (has_no_bus c) (or_right (are_apart b c) (has_no_bus b) crossed)
  | inr range_b ↦ elim (cases_Bool (has_no_bus c)) [
    | inl crossed ↦ or_right (are_apart b c || has_no_bus b) (has_no_bus c) crossed
    | inr range_c ↦ shares_none_apart b c (apart_from_sharing_none b c (ltb-false (subordinate b) (secondary b) range_b) (ltb-false (subordinate c) (secondary c) range_c) none)
  ]
]

-- a range is inside another by its two ends
pub inside_from : (b c : Function) → secondary c ≤ secondary b → subordinate b ≤ subordinate c → is_inside b c ≡ true
inside_from b c low high = and_from (nat_le (secondary c) (secondary b)) (nat_le (subordinate b) (subordinate c)) (le-leb _ _ low) (le-leb _ _ high)

-- and back
pub inside_parts : (b c : Function) → is_inside b c ≡ true → (secondary c ≤ secondary b) × (subordinate b ≤ subordinate c)
inside_parts b c h =
    let parts = and_parts (nat_le (secondary c) (secondary b)) (nat_le (subordinate b) (subordinate c)) h in
    (leb-true _ _ parts.0, leb-true _ _ parts.1)

-- a bus in the range of a bridge is no root
pub behind_is_no_root : (roots : List ℕ) (b : Function) → has_no_root_behind roots b ≡ true → (bus : ℕ) → IsWithin b bus → is_root roots bus ≡ false
behind_is_no_root roots b clear bus within = false_from_ne_true (is_root roots bus) (λ root.
    let found = any_gives (λ r. r == bus) roots root in
    let free = all_gives (λ r. not (is_behind b r)) roots clear found.0 found.1 in
    let same = eqb-true found.0 bus found.2 in
    not_behind b found.0 (not-true _ free) (subst (IsWithin b) (sym same) within))

-- ---- what the tests mean, bus by bus

-- apart: no bus is behind both
pub apart_means : (b c : Function) → IsTrue (has_bus_order b) → IsTrue (has_bus_order c)
    → IsTrue (are_apart b c) ↔ ((bus : ℕ) → IsTrue (is_behind b bus) → IsTrue (is_behind c bus) → ⊥)
apart_means b c order_b order_c = (
  λ apart bus at_b at_c. apart_shares_none b c apart bus (within_of_behind b bus at_b) (within_of_behind c bus at_c),
  λ none. apart_from_sharing_none b c (ordered b order_b).range (ordered c order_c).range (λ bus at_b at_c. none bus (behind_of_within b bus at_b) (behind_of_within c bus at_c)),
)

-- the same of any two ranges, crossed ones too
pub shares_none_means : (b c : Function) → IsTrue (share_no_bus b c) ↔ ((bus : ℕ) → IsTrue (is_behind b bus) → IsTrue (is_behind c bus) → ⊥)
shares_none_means b c = (
  λ shared bus at_b at_c. shares_none b c shared bus (within_of_behind b bus at_b) (within_of_behind c bus at_c),
  λ none. shares_none_from b c (λ bus at_b at_c. none bus (behind_of_within b bus at_b) (behind_of_within c bus at_c)),
)

-- inside: each bus behind the one is behind the other
pub inside_means : (b outer : Function) → IsTrue (has_bus_order b) → IsTrue (is_inside b outer) ↔ ((bus : ℕ) → IsTrue (is_behind b bus) → IsTrue (is_behind outer bus))
inside_means b outer order = (
  λ inside bus behind.
      let ends = inside_parts b outer inside in
      let at = within_of_behind b bus behind in
      behind_of_within outer bus record { low = omega (arith, ends.0); high = omega (arith, ends.1) },
  λ each.
      let o = ordered b order in
      let first = within_of_behind outer (secondary b) (each (secondary b) (behind_of_within b (secondary b) record { low = omega arith; high = o.range })) in
      let last = within_of_behind outer (subordinate b) (each (subordinate b) (behind_of_within b (subordinate b) record { low = o.range; high = omega arith })) in
      inside_from b outer first.low last.high,
)

-- strictly inside: inside, and not the other way round
pub strictly_inside_means : (b outer : Function) → IsTrue (is_strictly_inside b outer) ↔ (IsTrue (is_inside b outer) × (IsTrue (is_inside outer b) → ⊥))
strictly_inside_means b outer = (
  λ strictly.
      let parts = and_parts (is_inside b outer) (not (secondary b == secondary outer && subordinate b == subordinate outer)) strictly in
      let ends = inside_parts b outer parts.0 in (
        parts.0,
        λ back.
            let others = inside_parts outer b back in
            both_ways (secondary b == secondary outer && subordinate b == subordinate outer) (not-true _ parts.1)
            (and_from _ _ (eq-eqb (secondary b) (secondary outer) (omega (arith, ends.0, others.0))) (eq-eqb (subordinate b) (subordinate outer) (omega (arith, ends.1, others.1)))),
      ),
  λ parts.
      and_from (is_inside b outer) _ parts.0 (not_from_false _ (false_from_ne_true _ (λ same.
      let ends = and_parts (secondary b == secondary outer) (subordinate b == subordinate outer) same in
      let low = eqb-true (secondary b) (secondary outer) ends.0 in
      let high = eqb-true (subordinate b) (subordinate outer) ends.1 in
      parts.1 (inside_from outer b (omega (arith, low)) (omega (arith, high)))))),
)

-- a root: listed as one
pub root_means : (roots : List ℕ) (bus : ℕ) → IsTrue (is_root roots bus) ↔ Contains roots bus
root_means roots bus = (
  λ root. let found = any_gives (λ r. r == bus) roots root in subst (Contains roots) (eqb-true found.0 bus found.2) found.1,
  λ listed. any_from (λ r. r == bus) roots bus listed (eq-eqb bus bus refl),
)
