-- The order in which members are sorted.
use Rattle.std.proofs.Common.{arith, ◌≡◌, ◌<◌, ◌≤◌, ◌+◌, ◌==◌, ◌&&◌, ◌⊎◌, ℕ, suc, Bool, true, false, not, if◌then◌else◌, List, [], ◌∷◌, length, refl, sym, ap₂, subst, ◌∙◌, inl, inr, Ordering, Less, Equal, Greater}
use Rattle.std.specs.List.{All, slice_index_or}
use Rattle.std.specs.List.Sorted.{IsSortedBy, ties}
use Rattle.std.specs.Ordering.{bool_cmp, is_lt, nat_cmp, ordering_then}
use Rattle.std.specs.Cmp.{nat_cmp_is}
use Rattle.std.proofs.lemmas.Bool.{both_ways, cases_Bool, cases_lt, eq-eqb, ne_eqb}
use Rattle.std.proofs.lemmas.List.Elements.{All-cons, All-nil, All-weaker}
use Rattle.std.proofs.lemmas.Map.Keys.{ge_from_not_lt}
use Rattle.pci_picture.specs.Maps.{rank_of}
use Rattle.pci_picture.specs.declared.plan.Member.{Member}
use Rattle.pci_picture.proofs.Members.{first_not_less}

-- two members in place stand inside the same line of depth 1
pub record AreTogether (p m : Member) : Type 0 where
  pub section : p.section ≡ m.section
  pub top : p.top ≡ m.top
  pub mine : p.is_lost ≡ false
  pub other : m.is_lost ≡ false

-- ---- the order of the sort

abbrev pub compared : Member → Member → Ordering
compared x y =
    ordering_then (ordering_then (nat_cmp x.section y.section) (bool_cmp x.is_lost y.is_lost))
    (ordering_then (nat_cmp ((rank_of x).0) ((rank_of y).0)) (nat_cmp ((rank_of x).1) ((rank_of y).1)))

abbrev pub comes_before : Member → Member → Bool
comes_before x y = is_lt (compared x y)

-- a member stands inside the same line of depth 1 as one in place
abbrev pub is_beside : Member → Member → Bool
is_beside x m = (m.section == x.section) && (not m.is_lost && (m.top == x.top))

-- two numbers, compared both ways
pub record IsBelow (a b : ℕ) : Type 0 where
  pub low : a < b
  pub one : nat_cmp a b ≡ Less
  pub other : nat_cmp b a ≡ Greater
  pub apart : (b == a) ≡ false
  pub apart_too : (a == b) ≡ false

pub record IsEqual (a b : ℕ) : Type 0 where
  pub is : a ≡ b
  pub one : nat_cmp a b ≡ Equal
  pub other : nat_cmp b a ≡ Equal
  pub alike : (b == a) ≡ true

less_of : (a b : ℕ) → a < b → IsBelow a b
less_of a b low = record {
  low = low;
  one = sym (nat_cmp_is a b Less low);
  other = sym (nat_cmp_is b a Greater low);
  apart = ne_eqb b a (λ same. omega (arith, low, same));
  apart_too = ne_eqb a b (λ same. omega (arith, low, same));
}

pub two_ways : (a b : ℕ) → IsBelow a b ⊎ (IsBelow b a ⊎ IsEqual a b)
two_ways a b = elim (cases_lt a b) [
  | inl low ↦ inl (less_of a b low)
  | inr high ↦ elim (cases_lt b a) [
    | inl low ↦ inr (inl (less_of b a low))
    | inr also ↦
        let is : a ≡ b = omega (arith, high, also) in
        inr (inr (record { is = is; one = sym (nat_cmp_is a b Equal is); other = sym (nat_cmp_is b a Equal (sym is)); alike = eq-eqb b a (sym is) }))
  ]
]

tie_by_top : (a b : ℕ)
    → (not (is_lt (ordering_then (nat_cmp a b) (nat_cmp 0 0))) && not (is_lt (ordering_then (nat_cmp b a) (nat_cmp 0 0)))) ≡ (b == a)
tie_by_top a b = elim (two_ways a b) [
  | inl less ↦ rw (less.one, less.apart) refl
  | inr more ↦ elim more [
    | inl less ↦ rw (less.other, less.one, less.apart_too) refl
    | inr same ↦ rw (same.one, same.other, same.alike) refl
  ]
]

abbrev rank_by : Bool → ℕ → ℕ → ℕ → ℕ × ℕ
rank_by lost first key top = if lost then (first, key) else (top, 0)

abbrev compared_in_section : Bool → Bool → ℕ × ℕ → ℕ × ℕ → Ordering
compared_in_section lost other one two = ordering_then (bool_cmp lost other) (ordering_then (nat_cmp one.0 two.0) (nat_cmp one.1 two.1))

tie_in_section : (lost other : Bool) (a b first key one two : ℕ) → lost ≡ false
    → (not (is_lt (compared_in_section lost other (rank_by lost one two a) (rank_by other first key b)))
    && not (is_lt (compared_in_section other lost (rank_by other first key b) (rank_by lost one two a)))) ≡ (not other && (b == a))
tie_in_section true other a b first key one two inside = absurd (both_ways true inside refl)
tie_in_section false true a b first key one two inside = refl
tie_in_section false false a b first key one two inside = tie_by_top a b

then_then : (one two three : Ordering) → ordering_then (ordering_then one two) three ≡ ordering_then one (ordering_then two three)
then_then Less two three = refl
then_then Equal two three = refl
then_then Greater two three = refl

tie_by_section : (s t : ℕ) (one other : Ordering) (rest : Bool) → (not (is_lt one) && not (is_lt other)) ≡ rest
    → (not (is_lt (ordering_then (nat_cmp s t) one)) && not (is_lt (ordering_then (nat_cmp t s) other))) ≡ ((t == s) && rest)
tie_by_section s t one other rest is = elim (two_ways s t) [
  | inl less ↦ rw (less.one, less.apart) refl
  | inr more ↦ elim more [
    | inl less ↦ rw (less.other, less.one, less.apart_too) refl
    | inr same ↦ rw (same.one, same.other, same.alike) is
  ]
]

pub tie_is : (x m : Member) → x.is_lost ≡ false → ties comes_before x m ≡ is_beside x m
tie_is x m inside =
    ap₂ (λ a b. not (is_lt a) && not (is_lt b))
    (then_then (nat_cmp x.section m.section) (bool_cmp x.is_lost m.is_lost) _) (then_then (nat_cmp m.section x.section) (bool_cmp m.is_lost x.is_lost) _)
    ∙ tie_by_section x.section m.section (compared_in_section x.is_lost m.is_lost (rank_of x) (rank_of m)) (compared_in_section m.is_lost x.is_lost (rank_of m) (rank_of x))
    (not m.is_lost && (m.top == x.top))
    (tie_in_section x.is_lost m.is_lost x.top m.top m.region.first m.region.key x.region.first x.region.key inside)

-- ---- sorted members

-- a member in place comes behind another one: it is of a later section, or behind the line of depth 1 that the other stands inside
abbrev pub IsBehind : Member → Member → Type 0
IsBehind p m = (p.section < m.section) ⊎ ((p.section ≡ m.section) × (p.is_lost ≡ false) × (p.top < m.top))

pub record ComesAfter (p m : Member) : Type 0 where
  pub section : p.section ≤ m.section
  pub place : m.is_lost ≡ false → IsBehind p m ⊎ AreTogether p m

after_in_section : (p m : Member) → p.section ≡ m.section → nat_cmp m.section p.section ≡ Equal → m.is_lost ≡ false → comes_before m p ≡ false
    → IsBehind p m ⊎ AreTogether p m
after_in_section p m same equal inside is = elim (cases_Bool p.is_lost) [
  | inl lost ↦ absurd (both_ways (comes_before m p) is (rw (equal, inside, lost) refl))
  | inr there ↦ elim (two_ways m.top p.top) [
    | inl less ↦ absurd (both_ways (comes_before m p) is (rw (equal, inside, there, less.one) refl))
    | inr more ↦ elim more [
      | inl less ↦ inl (inr (same, there, less.low))
      | inr alike ↦ inr (record { section = same; top = sym alike.is; mine = there; other = inside })
    ]
  ]
]

pub comes_after : (p m : Member) → comes_before m p ≡ false → ComesAfter p m
comes_after p m is =
    let section : p.section ≤ m.section =
    ge_from_not_lt m.section p.section (first_not_less (nat_cmp m.section p.section) (bool_cmp m.is_lost p.is_lost)
    (first_not_less (ordering_then (nat_cmp m.section p.section) (bool_cmp m.is_lost p.is_lost)) _ is)) in
    record {
      section = section;
      place = λ inside. elim (two_ways p.section m.section) [
        | inl less ↦ inl (inl less.low)
        | inr more ↦ elim more [
          | inl less ↦ absurd (let low = less.low in let no : ⊥ = omega (arith, low, section) in no)
          | inr same ↦ after_in_section p m same.is same.other inside is
        ]
      ];
    }

abbrev pub InOrder : List Member → Type 0
InOrder [] = Unit {0}
InOrder (p ∷ []) = Unit {0}
InOrder (p ∷ m ∷ ms) = ComesAfter p m × InOrder (m ∷ ms)

abbrev pub IsSortedAt : List Member → Type 0
IsSortedAt ms = (k : ℕ) (d : Member) → suc k < length ms → comes_before (slice_index_or ms (suc k) d) (slice_index_or ms k d) ≡ false

pub in_order : (ms : List Member) → IsSortedAt ms → InOrder ms
in_order [] sorted = tt
in_order (p ∷ []) sorted = tt
in_order (p ∷ m ∷ ms) sorted =
    (comes_after p m (sorted 0 p (omega arith)), in_order (m ∷ ms) (λ k d inside. sorted (suc k) d (omega (arith, inside))))

pub sorted_at : (ms : List Member) → IsSortedBy comes_before ms → IsSortedAt ms
sorted_at ms sorted k d inside =
    let same : k + 1 ≡ suc k = omega arith in
    subst (λ (i : ℕ). comes_before (slice_index_or ms i d) (slice_index_or ms k d) ≡ false) same (sorted k d (omega arith) (omega (arith, inside)))

-- ---- what comes after what comes after

further : (p m x : Member) → IsBehind p m → (m.section ≡ x.section) × (m.is_lost ≡ false) × (m.top < x.top) → IsBehind p x
further p m x (inl later) above = let same = above.0 in inl (omega (arith, later, same))
further p m x (inr below) above = inr (below.0 ∙ above.0, below.1, (let one = below.2 in let two = above.2 in omega (arith, one, two)))

pub behind_both : (p m x : Member) → ComesAfter p m → IsBehind m x → IsBehind p x
behind_both p m x after (inl later) = let low = after.section in inl (omega (arith, low, later))
behind_both p m x after (inr above) = elim (after.place above.1) [
  | inl behind ↦ further p m x behind above
  | inr together ↦ inr (together.section ∙ above.0, together.mine, (let low = above.2 in let same = together.top in omega (arith, low, same)))
]

behind_together : (p m x : Member) → IsBehind p m → AreTogether m x → IsBehind p x
behind_together p m x (inl later) is = let same = is.section in inl (omega (arith, later, same))
behind_together p m x (inr below) is = inr (below.0 ∙ is.section, below.1, (let low = below.2 in let same = is.top in omega (arith, low, same)))

after_both : (p m x : Member) → ComesAfter p m → ComesAfter m x → ComesAfter p x
after_both p m x one other = record {
  section = (let low = one.section in let high = other.section in omega (arith, low, high));
  place = λ inside. elim (other.place inside) [
    | inl behind ↦ inl (behind_both p m x one behind)
    | inr together ↦ elim (one.place together.mine) [
      | inl behind ↦ inl (behind_together p m x behind together)
      | inr also ↦ inr (record { section = also.section ∙ together.section; top = also.top ∙ together.top; mine = also.mine; other = together.other })
    ]
  ];
}

pub all_after : (p : Member) (ms : List Member) → InOrder (p ∷ ms) → All (ComesAfter p) ms
all_after p [] order = All-nil (ComesAfter p)
all_after p (m ∷ ms) order =
    All-cons (ComesAfter p) m ms order.0 (All-weaker (ComesAfter m) (ComesAfter p) (λ x after. after_both p m x order.0 after) ms (all_after m ms order.1))
