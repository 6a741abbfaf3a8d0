-- Ranges without those that lie within an earlier one: they send the same addresses.
use Rattle.std.proofs.Common.{◌≡◌, ℕ, ◌+◌, ◌<◌, Bool, true, false, ◌||◌, if◌then◌else◌, List, [], ◌∷◌, ◌++◌, length, get_or, drop, Option, None, Some, refl, sym, ◌∙◌, ap, inl, inr, arith}
use Rattle.std.specs.List.{list_any}
use Rattle.std.proofs.lemmas.Bool.{false≢true, cases_Bool, and_parts, and_from, eqb-true, eq-eqb, leb-true, le-leb}
use Rattle.std.proofs.lemmas.List.{drop_more}
use Rattle.std.proofs.lemmas.List.Folds.{list_any-append, Any-from_list_any, list_any-from_Any}
use Rattle.judge_spec.specs.Given.{is_for, sends}
use Rattle.pci_base.specs.declared.range.RootRange.{RootRange}
use Rattle.pciplan_lists.specs.HostLists.{host_range_of}
use Rattle.pci_here.specs.HostRanges.{same_root, lies_within_same_bus, outer_ranges, sends_by}

for_same : (one other : Option ℕ) (bus : ℕ) → same_root one other ≡ true → is_for one bus ≡ true → is_for other bus ≡ true
for_same None None bus same is = refl
for_same None (Some other) bus same is = absurd (false≢true same)
for_same (Some one) None bus same is = absurd (false≢true same)
for_same (Some one) (Some other) bus same is = eq-eqb other bus (sym (eqb-true one other same) ∙ eqb-true one bus is)

sends_on : (r q : RootRange) (bus a : ℕ) → lies_within_same_bus r q ≡ true → sends bus a (host_range_of r) ≡ true → sends bus a (host_range_of q) ≡ true
sends_on r q bus a within sent =
    let ends = and_parts _ _ within in
    let first = and_parts _ _ ends.0 in
    let last = and_parts _ _ sent in
    let from = and_parts _ _ last.0 in
    and_from _ _
    (and_from _ _ (for_same r.root q.root bus first.0 from.0) (le-leb q.range.first a (omega (arith, leb-true q.range.first r.range.first first.1, leb-true r.range.first a from.1))))
    (le-leb a q.range.last (omega (arith, leb-true r.range.last q.range.last ends.1, leb-true a r.range.last last.1)))

sends_any : (r : RootRange) (earlier : List RootRange) (bus a : ℕ) → list_any (lies_within_same_bus r) earlier ≡ true → sends bus a (host_range_of r) ≡ true
    → sends_by earlier bus a ≡ true
sends_any r earlier bus a within sent =
    let (k, q, inside, at, lies) = Any-from_list_any (lies_within_same_bus r) earlier within in
    list_any-from_Any (λ q. sends bus a (host_range_of q)) earlier (k, q, inside, at, sends_on r q bus a lies sent)

absorbed : (x y z : Bool) → (y ≡ true → x ≡ true) → (x || z) ≡ (x || (y || z))
absorbed true y z has = refl
absorbed false true z has = absurd (false≢true (has refl))
absorbed false false z has = refl

regrouped : (x y z : Bool) → ((x || (y || false)) || z) ≡ (x || (y || z))
regrouped true y z = refl
regrouped false true z = refl
regrouped false false z = refl

or_none : (x : Bool) → x ≡ (x || false)
or_none true = refl
or_none false = refl

pub step_within : (earlier ranges : List RootRange) (r : RootRange) → list_any (lies_within_same_bus r) earlier ≡ true → outer_ranges earlier (r ∷ ranges) ≡ outer_ranges earlier ranges
step_within earlier ranges r within = ap (λ b. if b then outer_ranges earlier ranges else outer_ranges (earlier ++ r ∷ []) ranges) within

pub step_more : (earlier ranges : List RootRange) (r : RootRange) → list_any (lies_within_same_bus r) earlier ≡ false → outer_ranges earlier (r ∷ ranges) ≡ outer_ranges (earlier ++ r ∷ []) ranges
step_more earlier ranges r other = ap (λ b. if b then outer_ranges earlier ranges else outer_ranges (earlier ++ r ∷ []) ranges) other

same_sent : (earlier ranges : List RootRange) (bus a : ℕ) → sends_by (outer_ranges earlier ranges) bus a ≡ (sends_by earlier bus a || sends_by ranges bus a)
same_sent earlier [] bus a = or_none (sends_by earlier bus a)
same_sent earlier (r ∷ ranges) bus a = elim (cases_Bool (list_any (lies_within_same_bus r) earlier)) [
  | inl within ↦ ap (λ list. sends_by list bus a) (step_within earlier ranges r within) ∙ same_sent earlier ranges bus a
      ∙ absorbed (sends_by earlier bus a) (sends bus a (host_range_of r)) (sends_by ranges bus a) (sends_any r earlier bus a within)
  | inr other ↦ ap (λ list. sends_by list bus a) (step_more earlier ranges r other) ∙ same_sent (earlier ++ r ∷ []) ranges bus a
      ∙ ap (λ b. b || sends_by ranges bus a) (list_any-append (λ q. sends bus a (host_range_of q)) earlier (r ∷ []))
      ∙ regrouped (sends_by earlier bus a) (sends bus a (host_range_of r)) (sends_by ranges bus a)
]

pub outer_sends : (ranges : List RootRange) (bus a : ℕ) → sends_by (outer_ranges [] ranges) bus a ≡ sends_by ranges bus a
outer_sends ranges bus a = same_sent [] ranges bus a

abbrev no_range : RootRange
no_range = record { root = None; range = record { first = 0; last = 0 } }

-- one range of a list more was looked at
pub looked : (list new ranges : List RootRange) (i : ℕ) → i < length ranges
    → ((more : List RootRange) → outer_ranges list (get_or ranges i no_range ∷ more) ≡ outer_ranges new more)
    → outer_ranges list (drop i ranges) ≡ outer_ranges new (drop (i + 1) ranges)
looked list new ranges i inside step = ap (λ left. outer_ranges list left) (drop_more ranges i no_range inside) ∙ step (drop (i + 1) ranges)
