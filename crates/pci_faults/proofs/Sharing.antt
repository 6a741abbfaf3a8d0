-- What regions share with those before them.
use Rattle.std.proofs.Common.{◌≡◌, ℕ, ◌+◌, ◌<◌, ◌≤◌, ◌⊎◌, inl, inr, List, [], ◌∷◌, ◌++◌, length, get_or, sym, ◌∙◌, ap, subst, arith}
use Rattle.std.specs.List.{HoldsAt, Contains}
use Rattle.std.proofs.lemmas.Bool.{cases_order, cases_eq, cases_lt}
use Rattle.std.proofs.lemmas.List.{get_or_default}
use Rattle.std.proofs.lemmas.List.Elements.{Contains-get_or, Contains-push, Contains-push_cases, Contains-append_left}
use Rattle.std.proofs.lemmas.List.Quantifiers.{all_pairs_push}
use Rattle.pci_base.specs.declared.range.Range.{Range}
use Rattle.pci_tree.specs.declared.region.Region.{Region}
use Rattle.pci_tree.specs.Ranges.{Covers, IsLeastFrom}
use Rattle.pci_faults.specs.declared.shares.Among.{Among}
use Rattle.pci_faults.specs.declared.shares.Share.{Share}
use Rattle.pci_faults.specs.declared.owners.Found.{Found}
use Rattle.pci_faults.specs.Owners.{OwnedRanges, Owns, OwnedRangeHas, IsFirstOwned, IsRangeAdded}
use Rattle.pci_faults.specs.Shares.{SpansAt, GroupsRise, IsShared, IsLeastShared, IsClaimedFrom, AreOwned, AreLesser, AreSharesBelow, AreOfLesserGroups}

-- what is known of an element at one default is known at each
at_each : (P : Region → Type 0) (regions : List Region) (k : ℕ) (z : Region) → k < length regions → P (get_or regions k z) → HoldsAt P regions k
at_each P regions k z within h d = subst P (get_or_default regions k z d within) h

module _ (regions : List Region) (allowed : List Range) where
  -- a region takes the addresses of its range from the least one of those allowed on
  pub taken : (k : ℕ) (z : Region) (first : ℕ) → k < length regions → IsLeastFrom allowed (get_or regions k z).first first
      → (a : ℕ) → OwnedRangeHas (record { first = first; last = (get_or regions k z).last }) a → IsClaimedFrom regions allowed k a
  taken k z first within least a held = record {
    first = first;
    opened = at_each (λ r. IsLeastFrom allowed r.first first) regions k z within least;
    from = held.0;
    to = at_each (λ r. a ≤ r.last) regions k z within held.1;
  }

  -- and the allowed ones that it claims are such
  pub held : (k : ℕ) (z : Region) (first : ℕ) → IsLeastFrom allowed (get_or regions k z).first first
      → (a : ℕ) → Covers allowed a → SpansAt regions k a → OwnedRangeHas (record { first = first; last = (get_or regions k z).last }) a
  held k z first least a covered claims = (
    elim (cases_lt a first) [ inl low ↦ absurd (least.least a (claims z).0 low covered) | inr ge ↦ ge ],
    (claims z).1,
  )

  claims_of_taken : (k a : ℕ) → IsClaimedFrom regions allowed k a → SpansAt regions k a
  claims_of_taken k a t z = (let on = (t.opened z).from_on in let from : t.first ≤ a = t.from in omega (arith, on, from), t.to z)

  -- ---- one more region has owners' addresses

  pub none_owned : (ranges : OwnedRanges) → ((a i : ℕ) → Owns ranges a i → ⊥) → AreOwned 0 regions allowed ranges
  none_owned ranges none = record {
    sound = λ a k o. absurd (none a k o);
    complete = λ a k less. absurd (let no : ⊥ = omega (arith, less) in no);
    once = λ a j k o. absurd (none a j o);
  }

  pub one_more : (n : ℕ) (range : Range) (before after : OwnedRanges) → ((a : ℕ) → OwnedRangeHas range a → IsClaimedFrom regions allowed n a)
      → ((a : ℕ) → Covers allowed a → SpansAt regions n a → OwnedRangeHas range a) → IsRangeAdded before after range n → AreOwned n regions allowed before → AreOwned (n + 1) regions allowed after
  one_more n range before after takes back is was = record {
    sound = λ a k o. elim (is.only a k o) [
      | inl old ↦ (let s = was.sound a k old in let low : k < n = s.0 in (
        omega (arith, low),
        s.1,
        λ j less covered claims. elim (cases_lt j n) [ inl below ↦ s.2 j below covered claims | inr ge ↦ omega (arith, low, ge) ],
      ))
      | inr (in_range, same, none) ↦ (
        omega (arith, same),
        subst (λ m. IsClaimedFrom regions allowed m a) (sym same) (takes a in_range),
        λ j less covered claims. elim (cases_lt j n) [ inl below ↦ absurd (let had = was.complete a j below covered claims in none had.0 had.1) | inr ge ↦ omega (arith, same, ge) ],
      )
    ];
    complete = λ a k less covered claims. elim (cases_eq k n) [
      | inl same ↦ is.each a (back a covered (subst (λ m. SpansAt regions m a) same claims))
      | inr differ ↦ (let had = was.complete a k (omega (arith, less, differ)) covered claims in (had.0, is.kept a had.0 had.1))
    ];
    once = λ a j k o p. elim (is.only a j o) [
      | inl old ↦ elim (is.only a k p) [ inl other ↦ was.once a j k old other | inr (in_range, same, none) ↦ absurd (none j old) ]
      | inr (in_range, same, none) ↦ elim (is.only a k p) [ inl other ↦ absurd (none k other) | inr (in_it, other, none_there) ↦ omega (arith, same, other) ]
    ];
  }

  -- a region that claims no allowed address changes nothing
  pub one_without : (n : ℕ) (ranges : OwnedRanges) → ((a : ℕ) → Covers allowed a → SpansAt regions n a → ⊥) → AreOwned n regions allowed ranges → AreOwned (n + 1) regions allowed ranges
  one_without n ranges none was = record {
    sound = λ a k o. (let s = was.sound a k o in let low : k < n = s.0 in (
      omega (arith, low),
      s.1,
      λ j less covered claims. elim (cases_eq j n) [
        | inl same ↦ absurd (none a covered (subst (λ m. SpansAt regions m a) same claims))
        | inr differ ↦ s.2 j (omega (arith, less, differ)) covered claims
      ],
    ));
    complete = λ a k less covered claims. elim (cases_eq k n) [
      | inl same ↦ absurd (none a covered (subst (λ m. SpansAt regions m a) same claims))
      | inr differ ↦ was.complete a k (omega (arith, less, differ)) covered claims
    ];
    once = was.once;
  }

  -- ---- what a region shares with them

  module _ (by : Among) (n i : ℕ) (ranges : OwnedRanges) (z : Region) (first : ℕ) (within : i < length regions) (lesser : AreLesser n i by regions) (owned : AreOwned n regions allowed ranges)
      (least : IsLeastFrom allowed (get_or regions i z).first first) where
    -- an address that it shares has an owner, which isn't behind the one that shares it
    owner_of : (a k : ℕ) → IsShared by regions allowed a k i → (j : ℕ) × Owns ranges a j × (j ≤ k) × (first ≤ a) × (a ≤ (get_or regions i z).last)
    owner_of a k shared =
        let below : k < n = elim (cases_lt k n) [ inl low ↦ low | inr ge ↦ absurd (let rise = shared.rise in let others = lesser.others k ge shared.before in let no : ⊥ = omega (arith, rise, others) in no) ] in
        let mine = held i z first least a shared.covered shared.claims_second in
        let had = owned.complete a k below shared.covered shared.claims_first in
        (had.0, had.1, (owned.sound a had.0 had.1).2 k below shared.covered shared.claims_first, mine.0, mine.1)

    pub none_shared : ((a j : ℕ) → first ≤ a → a ≤ (get_or regions i z).last → Owns ranges a j → ⊥) → (a k : ℕ) → IsShared by regions allowed a k i → ⊥
    none_shared none a k shared = let had = owner_of a k shared in none a had.0 had.3 had.4 had.1

    module _ (f : Found) (found : IsFirstOwned ranges first f) (up : f.address ≤ (get_or regions i z).last) where
      -- both claim it, and it is the least of those allowed that both do
      pub found_shared : IsShared by regions allowed f.address f.owner i
      found_shared =
          let some : f.address ≤ f.last = found.some in
          let from : first ≤ f.address = found.from_on in
          let had = owned.sound f.address f.owner (found.owned f.address (omega arith) some) in
          let low : f.owner < n = had.0 in
          let t = had.1 in
          let t_from : t.first ≤ f.address = t.from in
          let n_within : n ≤ i = lesser.within in
          -- an allowed address that both claim isn't below it
          let least_both : (m : ℕ) → Covers allowed m → first ≤ m → t.first ≤ m → m ≤ f.address → m ≡ f.address =
          λ m covered mine its not_above. elim (cases_eq m f.address) [
            | inl same ↦ same
            | inr differ ↦ absurd (
                let j = owned.complete m f.owner low covered (λ d. (let on = (t.opened d).from_on in omega (arith, on, its), let to = t.to d in omega (arith, to, not_above))) in
                found.least m j.0 mine (omega (arith, differ, not_above)) j.1)
          ] in
          record {
            within = within;
            rise = lesser.lesser f.owner low;
            before = omega (arith, low, n_within);
            covered = elim (cases_lt first t.first) [
              | inl up_to ↦ subst (λ m. Covers allowed m) (least_both t.first (t.opened z).covered (omega (arith, up_to)) (omega arith) t_from) (t.opened z).covered
              | inr ge ↦ subst (λ m. Covers allowed m) (least_both first least.covered (omega arith) ge from) least.covered
            ];
            claims_first = claims_of_taken f.owner f.address t;
            claims_second = claims_of_taken i f.address (taken i z first within least f.address (from, up));
          }

      pub found_least : IsLeastShared by regions allowed (record { address = f.address; first = f.owner; second = i })
      found_least = record {
        there = found_shared;
        least = λ a k shared.
            let had = owner_of a k shared in
            let low : had.0 ≤ k = had.2 in
            elim (cases_order f.address a) [
              | inr (inl less) ↦ inl less
              | inr (inr more) ↦ absurd (found.least a had.0 had.3 more had.1)
              | inl same ↦
                  let some : f.address ≤ f.last = found.some in
                  let one : f.owner ≡ had.0 = owned.once f.address f.owner had.0 (found.owned f.address (omega arith) some) (subst (λ m. Owns ranges m had.0) (sym same) had.1) in
                  inr (same, omega (arith, one, low))
            ];
      }

pub none_before : (i : ℕ) (by : Among) (regions : List Region) → AreOfLesserGroups 0 i by regions
none_before i by regions k j less from within = absurd (let none : ⊥ = omega (arith, less) in none)

pub still_before : (n i : ℕ) (by : Among) (regions : List Region) → GroupsRise by regions → AreLesser n i by regions → AreOfLesserGroups n (i + 1) by regions
still_before n i by regions rise lesser k j less from within =
    let low = lesser.lesser k less in let up = rise i j (omega (arith, from)) within in omega (arith, low, up)

-- ---- the list of what is shared

-- of two that are both least, by an address and then by an index, both are the same
pub both_least : (a b i k : ℕ) → (a < b) ⊎ ((a ≡ b) × (i ≤ k)) → (b < a) ⊎ ((b ≡ a) × (k ≤ i)) → (a ≡ b) × (i ≡ k)
both_least a b i k (inl less) (inl more) = absurd (let none : ⊥ = omega (arith, less, more) in none)
both_least a b i k (inl less) (inr (same, low)) = absurd (let none : ⊥ = omega (arith, less, same) in none)
both_least a b i k (inr (same, low)) (inl less) = absurd (let none : ⊥ = omega (arith, less, same) in none)
both_least a b i k (inr (same, low)) (inr (other, down)) = (same, omega (arith, low, down))

pub same_share : (s t : Share) → s.address ≡ t.address → s.first ≡ t.first → s.second ≡ t.second → s ≡ t
same_share s t address first second =
    ap (λ n. record { address = n; first = s.first; second = s.second }) address
    ∙ ap (λ n. record { address = t.address; first = n; second = s.second }) first
    ∙ ap (λ n. record { address = t.address; first = t.first; second = n }) second

-- of one region there is one
one_share : (by : Among) (regions : List Region) (allowed : List Range) (s t : Share) → s.second ≡ t.second
    → IsLeastShared by regions allowed s → IsLeastShared by regions allowed t → s ≡ t
one_share by regions allowed s t same of_s of_t =
    let one = of_s.least t.address t.first (subst (λ m. IsShared by regions allowed t.address t.first m) (sym same) of_t.there) in
    let other = of_t.least s.address s.first (subst (λ m. IsShared by regions allowed s.address s.first m) same of_s.there) in
    let both = both_least s.address t.address s.first t.first one other in
    same_share s t both.0 both.1 same

module _ (i : ℕ) (by : Among) (regions : List Region) (allowed : List Range) (shares : List Share) (below : AreSharesBelow i by regions allowed shares) where
  pub share_none : ((a first : ℕ) → IsShared by regions allowed a first i → ⊥) → AreSharesBelow (i + 1) by regions allowed shares
  share_none none = record {
    each = λ s has. (let was = below.each s has in let low = was.0 in (omega (arith, low), was.1));
    complete = λ s less is. elim (cases_eq s.second i) [
      | inl same ↦ absurd (none s.address s.first (subst (λ m. IsShared by regions allowed s.address s.first m) same is.there))
      | inr differ ↦ below.complete s (omega (arith, less, differ)) is
    ];
    rising = below.rising;
  }

  pub share_more : (s : Share) → s.second ≡ i → IsLeastShared by regions allowed s → AreSharesBelow (i + 1) by regions allowed (shares ++ s ∷ [])
  share_more s at is = record {
    each = λ t has. elim (Contains-push_cases shares s t has) [
      | inl old ↦ (let was = below.each t old in let low = was.0 in (omega (arith, low), was.1))
      | inr same ↦ subst (λ (x : Share). (x.second < i + 1) × IsLeastShared by regions allowed x) same (omega (arith, at), is)
    ];
    complete = λ t less has. elim (cases_eq t.second i) [
      | inl same ↦ subst (λ (x : Share). Contains (shares ++ s ∷ []) x) (one_share by regions allowed s t (omega (arith, at, same)) is has) (Contains-push shares s)
      | inr differ ↦ Contains-append_left shares (s ∷ []) t (below.complete t (omega (arith, less, differ)) has)
    ];
    rising = all_pairs_push (λ x y. x.second < y.second) shares s below.rising
        (λ k d within. let low = (below.each (get_or shares k d) (Contains-get_or shares k d within)).0 in omega (arith, low, at));
  }

-- ---- the same of an element that was read

module _ (regions : List Region) (allowed : List Range) (n : ℕ) (x : Region) (within : n < length regions) (is : x ≡ get_or regions n x) where
  pub one_more_read : (range : Range) (before after : OwnedRanges) → (range.first ≤ range.last) × IsLeastFrom allowed x.first range.first × (range.last ≡ x.last)
      → IsRangeAdded before after range n → AreOwned n regions allowed before → AreOwned (n + 1) regions allowed after
  one_more_read range before after (some, least, last) added was =
      let from = subst (λ (y : Region). IsLeastFrom allowed y.first range.first) is least in
      let to : range.last ≡ (get_or regions n x).last = subst (λ (y : Region). range.last ≡ y.last) is last in
      one_more regions allowed n range before after
      (λ a in_range. taken regions allowed n x range.first within from a (in_range.0, (let low = in_range.1 in omega (arith, low, to))))
      (λ a covered claims. let its = held regions allowed n x range.first from a covered claims in (its.0, (let low = its.1 in omega (arith, low, to))))
      added was

  unclaimed : ((a : ℕ) → x.first ≤ a → a ≤ x.last → Covers allowed a → ⊥) → (a : ℕ) → Covers allowed a → SpansAt regions n a → ⊥
  unclaimed none a covered claims =
      let its = subst (λ (y : Region). (y.first ≤ a) × (a ≤ y.last)) (sym is) (claims x) in none a its.0 its.1 covered

  pub one_without_read : (ranges : OwnedRanges) → ((a : ℕ) → x.first ≤ a → a ≤ x.last → Covers allowed a → ⊥)
      → AreOwned n regions allowed ranges → AreOwned (n + 1) regions allowed ranges
  one_without_read ranges none was = one_without regions allowed n ranges (unclaimed none) was

  pub none_claimed : (by : Among) → ((a : ℕ) → x.first ≤ a → a ≤ x.last → Covers allowed a → ⊥) → (a k : ℕ) → IsShared by regions allowed a k n → ⊥
  none_claimed by none a k shared = unclaimed none a shared.covered shared.claims_second

  module _ (by : Among) (m : ℕ) (ranges : OwnedRanges) (range : Range) (lesser : AreLesser m n by regions) (owned : AreOwned m regions allowed ranges)
      (opened : (range.first ≤ range.last) × IsLeastFrom allowed x.first range.first × (range.last ≡ x.last)) where
    abbrev least_read : IsLeastFrom allowed (get_or regions n x).first range.first
    least_read = subst (λ (y : Region). IsLeastFrom allowed y.first range.first) is opened.1

    last_read : range.last ≡ (get_or regions n x).last
    last_read = subst (λ (y : Region). range.last ≡ y.last) is opened.2

    pub none_read : ((a j : ℕ) → range.first ≤ a → a ≤ range.last → Owns ranges a j → ⊥) → (a k : ℕ) → IsShared by regions allowed a k n → ⊥
    none_read none = none_shared regions allowed by m n ranges x range.first within lesser owned least_read
        (λ a j from to. none a j from (let e = last_read in omega (arith, e, to)))

    pub found_read : (f : Found) → IsFirstOwned ranges range.first f → f.address ≤ range.last
        → IsLeastShared by regions allowed (record { address = f.address; first = f.owner; second = n })
    found_read f found up = found_least regions allowed by m n ranges x range.first within lesser owned least_read f found (let e = last_read in omega (arith, e, up))

pub no_shares : (by : Among) (regions : List Region) (allowed : List Range) → AreSharesBelow 0 by regions allowed []
no_shares by regions allowed = record {
  each = λ s (k, less, is). absurd (let none : ⊥ = omega (arith, less) in none);
  complete = λ s less. absurd (let none : ⊥ = omega (arith, less) in none);
  rising = λ j k d up less. absurd (let none : ⊥ = omega (arith, less) in none);
}

-- a region that owns an address is one of the first so many
pub owner_below : (n : ℕ) (regions : List Region) (allowed : List Range) (ranges : OwnedRanges) (first : ℕ) (f : Found) → AreOwned n regions allowed ranges → IsFirstOwned ranges first f → f.owner < n
owner_below n regions allowed ranges first f owned found = let some : f.address ≤ f.last = found.some in (owned.sound f.address f.owner (found.owned f.address (omega arith) some)).0
