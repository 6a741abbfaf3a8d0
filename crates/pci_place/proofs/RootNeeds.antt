-- What all roots need together, and whether it fits.
use Rattle.std.proofs.Common.{◌≡◌, ℕ, ◌+◌, ◌-◌, ◌*◌, ◌^◌, ◌<◌, ◌≤◌, ◌↔◌, inl, inr, List, [], ◌∷◌, ◌++◌, map, length, get_or, refl, Bool, true, false, cond, ◌||◌, arith, sym, ◌∙◌, ap}
use Rattle.std.specs.Bool.{IsFalse, nat_eq, nat_le}
use Rattle.std.specs.List.{Contains, All, filter, range_with_len, sum, sum_by}
use Rattle.std.proofs.lemmas.Bool.{both_ways, cases_lt, eq-eqb, ne_eqb, or_left}
use Rattle.std.proofs.lemmas.List.{get_or_default, get_or_past, map-id}
use Rattle.std.proofs.lemmas.List.Elements.{filter-append}
use Rattle.std.proofs.lemmas.List.FromFn.{map-range_with_len_more}
use Rattle.std.proofs.lemmas.List.Sums.{sum_by-append, sum-map}
use Rattle.pci_spec.specs.Window.{WindowKind}
use Rattle.pci_spec.specs.System.{System}
use Rattle.plan_spec.specs.Plan.{Pools, pool_of, need_of, need_of_roots, greatest_of_roots, raised_to, fits, Shortage, shortage}
use Rattle.pci_spec.proofs.Members.{in_head, in_tail}
use Rattle.pci_spec.proofs.Records.{same_truth}
use Rattle.plan_spec.proofs.Planning.Tallies.{none_needed}
use Rattle.pci_tree.specs.Roots.{set_in}
use Rattle.pci_tree.proofs.RootLists.{in_set_to, in_set_from, set_small}

-- ---- the sum over the roots, bus by bus

abbrev pub get_or_zero : List ℕ → ℕ → ℕ
get_or_zero needs bus = get_or needs bus 0

abbrev pub is_set : List Bool → ℕ → Bool
is_set flags bus = get_or flags bus false

-- the sum of what the roots below a bus need
pub record IsSumBelow (flags : List Bool) (needs : List ℕ) (bus total : ℕ) : Type 0 where
  pub is : total ≡ sum_by (get_or_zero needs) (filter (is_set flags) (range_with_len 0 bus))
  pub small : total ≤ bus * 2 ^ 65

range_more : (n : ℕ) → range_with_len 0 (n + 1) ≡ range_with_len 0 n ++ n ∷ []
range_more n =
    sym (map-id (range_with_len 0 (n + 1)))
    ∙ map-range_with_len_more (λ x. x) 0 n n (omega arith)
    ∙ ap (λ xs. xs ++ n ∷ []) (map-id (range_with_len 0 n))

one_more : (b : Bool) (needs : List ℕ) (bus : ℕ) → sum_by (get_or_zero needs) (cond b (bus ∷ []) []) ≡ cond b (get_or needs bus 0) 0
one_more true needs bus = let e : 0 + get_or needs bus 0 ≡ get_or needs bus 0 = omega arith in e
one_more false needs bus = refl

-- no need is more than what is told apart, also past the end
pub limited_at : (needs : List ℕ) → All (λ need. need ≤ 2 ^ 65) needs → (bus : ℕ) → get_or needs bus 0 ≤ 2 ^ 65
limited_at needs small bus = elim (cases_lt bus (length needs)) [
  | inl within ↦ small bus 0 within
  | inr past ↦ let e = get_or_past needs bus 0 past in omega (arith, e)
]

pub sum_none : (flags : List Bool) (needs : List ℕ) → IsSumBelow flags needs 0 0
sum_none flags needs = record { is = refl; small = omega arith }

-- the next bus, which may be a root
pub sum_more : (flags : List Bool) (needs : List ℕ) → All (λ need. need ≤ 2 ^ 65) needs → (bus total next : ℕ) (has : Bool) → bus < 256 → IsSumBelow flags needs bus total
    → (has ≡ true) ↔ Contains (set_in flags) bus → next ≡ total + cond has (get_or needs bus 0) 0 → IsSumBelow flags needs (bus + 1) next
sum_more flags needs limited bus total next has inside was means e =
    let flag : get_or flags bus false ≡ has =
    same_truth (get_or flags bus false) has (λ on. means.1 (in_set_from flags bus inside on)) (λ yes. in_set_to flags bus (means.0 yes)) in
    let before = range_with_len 0 bus in
    let split : sum_by (get_or_zero needs) (filter (is_set flags) (range_with_len 0 (bus + 1))) ≡ sum_by (get_or_zero needs) (filter (is_set flags) before) + cond (get_or flags bus false) (get_or needs bus 0) 0 =
    ap (λ xs. sum_by (get_or_zero needs) (filter (is_set flags) xs)) (range_more bus)
    ∙ ap (sum_by (get_or_zero needs)) (filter-append (is_set flags) before (bus ∷ []))
    ∙ sum_by-append (get_or_zero needs) (filter (is_set flags) before) (cond (get_or flags bus false) (bus ∷ []) [])
    ∙ ap (λ n. sum_by (get_or_zero needs) (filter (is_set flags) before) + n) (one_more (get_or flags bus false) needs bus) in
    let small = was.small in
    let limit = limited_at needs limited bus in
    let part : cond has (get_or needs bus 0) 0 ≤ 2 ^ 65 = elim has as (λ b. cond b (get_or needs bus 0) 0 ≤ 2 ^ 65) [ true ↦ limit | false ↦ omega arith ] in
    record {
      is = e ∙ ap (λ n. n + cond has (get_or needs bus 0) 0) was.is ∙ sym (split ∙ ap (λ b. sum_by (get_or_zero needs) (filter (is_set flags) before) + cond b (get_or needs bus 0) 0) flag);
      small = omega (arith, e, small, part);
    }

pub sum_all : (flags : List Bool) (needs : List ℕ) (bus total : ℕ) → bus ≡ 256 → IsSumBelow flags needs bus total → total ≡ sum (map (get_or_zero needs) (set_in flags))
unfolding set_in
sum_all flags needs bus total all was =
    was.is ∙ ap (λ n. sum_by (get_or_zero needs) (filter (is_set flags) (range_with_len 0 n))) all ∙ sym (sum-map (get_or_zero needs) (filter (is_set flags) (range_with_len 0 256)))

-- ---- whether it fits

map_same : (f g : ℕ → ℕ) (xs : List ℕ) → ((x : ℕ) → Contains xs x → f x ≡ g x) → map f xs ≡ map g xs
map_same f g [] same = refl
map_same f g (x ∷ xs) same =
    let here : f x ≡ g x = same x (in_head x xs) in
    let rest : map f xs ≡ map g xs = map_same f g xs (λ y has. same y (in_tail x xs y has)) in
    cc

module _ (roots : List ℕ) (s : System) (pools : Pools) (c : WindowKind) where
  -- what a table has for the roots is what they need
  pub need_is : (need : ℕ) (flags : List Bool) (needs : List ℕ) → need ≡ sum (map (get_or_zero needs) (set_in flags)) → set_in flags ≡ roots → ((bus : ℕ) → bus < 256 → get_or needs bus 0 ≡ need_of s pools c bus)
      → need ≡ need_of_roots roots s pools c
  need_is need flags needs is are each =
      is
      ∙ ap sum (map_same (get_or_zero needs) (need_of s pools c) (set_in flags) (λ bus has. each bus (set_small flags bus has)))
      ∙ ap (λ buses. sum (map (need_of s pools c) buses)) are

  -- and none of it is more than what is told apart
  pub needs_limited : (needs : List ℕ) → length needs ≡ 256 → ((bus : ℕ) → bus < 256 → get_or needs bus 0 ≡ need_of s pools c bus) → All (λ need. need ≤ 2 ^ 65) needs
  needs_limited needs all each bus d within =
      let here = get_or_default needs bus d 0 within ∙ each bus (omega (arith, all, within)) in
      omega (arith, here)

  -- where something is needed, something has a size
  pub some_greatest : (need greatest : ℕ) → need ≡ need_of_roots roots s pools c → (need ≡ 0 → ⊥) → greatest ≡ greatest_of_roots roots s pools c → 0 < greatest
  some_greatest need greatest e some is = elim (cases_lt 0 greatest) [
    | inl fine ↦ fine
    | inr none ↦
        let zero : greatest_of_roots roots s pools c ≡ 0 = omega (arith, is, none) in
        absurd (some (e ∙ none_needed roots s pools c zero))
  ]

  pub fits_none : (need : ℕ) → need ≡ need_of_roots roots s pools c → need ≡ 0 → nat_eq need 0 ≡ fits roots s pools c
  fits_none need e zero = eq-eqb need 0 zero ∙ sym (or_left _ _ (eq-eqb (need_of_roots roots s pools c) 0 (sym e ∙ zero)))

  pub fits_some : (need greatest first last start : ℕ) → need ≡ need_of_roots roots s pools c → (need ≡ 0 → ⊥) → greatest ≡ greatest_of_roots roots s pools c
      → first ≡ (pool_of pools c).first → last ≡ (pool_of pools c).last → start ≡ raised_to greatest first → nat_le (start + need) (last + 1) ≡ fits roots s pools c
  fits_some need greatest first last start e some is at end from =
      let n = need_of_roots roots s pools c in
      let none : nat_eq n 0 ≡ false = ne_eqb n 0 (λ zero. some (e ∙ zero)) in
      let begin : start ≡ raised_to (greatest_of_roots roots s pools c) (pool_of pools c).first =
      from ∙ ap (λ size. raised_to size first) is ∙ ap (λ x. raised_to (greatest_of_roots roots s pools c) x) at in
      ap (λ x. nat_le (x + need) (last + 1)) begin
      ∙ ap (λ x. nat_le (raised_to (greatest_of_roots roots s pools c) (pool_of pools c).first + x) (last + 1)) e
      ∙ ap (λ x. nat_le (raised_to (greatest_of_roots roots s pools c) (pool_of pools c).first + n) (x + 1)) end
      ∙ sym (ap (λ b. b || nat_le (raised_to (greatest_of_roots roots s pools c) (pool_of pools c).first + n) ((pool_of pools c).last + 1)) none)

  -- what doesn't fit has a size
  pub unfit_greatest : (greatest : ℕ) → greatest ≡ greatest_of_roots roots s pools c → IsFalse (fits roots s pools c) → 0 < greatest
  unfit_greatest greatest is unfit =
      let need = need_of_roots roots s pools c in
      some_greatest need greatest refl (λ none. both_ways (fits roots s pools c) unfit (sym (fits_none need refl none) ∙ eq-eqb need 0 none)) is

  pub shortage_is : (greatest first last : ℕ) (lacking : Shortage) → lacking.needed ≡ need_of_roots roots s pools c → greatest ≡ greatest_of_roots roots s pools c
      → first ≡ (pool_of pools c).first → last ≡ (pool_of pools c).last → lacking.start ≡ raised_to greatest first → lacking.available ≡ last + 1 - lacking.start
      → lacking ≡ shortage roots s pools c
  shortage_is greatest first last lacking needed is at end from rest =
      let start : lacking.start ≡ (shortage roots s pools c).start =
      from ∙ ap (λ size. raised_to size first) is ∙ ap (λ x. raised_to (greatest_of_roots roots s pools c) x) at in
      let available : lacking.available ≡ (shortage roots s pools c).available =
      rest ∙ ap (λ x. last + 1 - x) start ∙ ap (λ x. x + 1 - (shortage roots s pools c).start) end in
      λ i. record { needed = needed i; start = start i; available = available i }
