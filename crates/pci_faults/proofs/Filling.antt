-- Ranges with owners, to which one more is added.
use Rattle.std.proofs.Common.{◌≡◌, ℕ, ◌+◌, ◌<◌, ◌≤◌, ◌⊎◌, inl, inr, false, refl, sym, ◌∙◌, ap, subst, arith, Some, Less, Greater}
use Rattle.std.specs.Prelude.{◌↔◌}
use Rattle.std.specs.Ordering.{nat_cmp, is_eq}
use Rattle.std.specs.Cmp.{nat_cmp_is}
use Rattle.std.specs.Map.{lookup}
use Rattle.std.specs.BTreeMap.{is_at}
use Rattle.std.proofs.lemmas.Bool.{cases_order, cases_eq, cases_lt}
use Rattle.pci_base.specs.declared.range.Range.{Range}
use Rattle.pci_faults.specs.declared.owners.Owned.{Owned}
use Rattle.pci_faults.specs.declared.owners.Found.{Found}
use Rattle.pci_faults.specs.Owners.{OwnedRanges, StandsAt, Owns, OwnedRangesAreApart, OwnedRangeHas, IsFirstOwned, IsRangeAdded}

other_key : (k q : ℕ) → (q ≡ k → ⊥) → is_at (nat_cmp k) q ≡ false
other_key k q differ = elim (cases_order k q) [
  | inl same ↦ absurd (differ (sym same))
  | inr (inl up) ↦ ap is_eq (sym (nat_cmp_is k q Less up))
  | inr (inr down) ↦ ap is_eq (sym (nat_cmp_is k q Greater down))
]

same_owned : (r q : Owned) → Some r ≡ Some q → r ≡ q
same_owned r q e = cc

-- the two ranges of one address are one
one_range : (ranges : OwnedRanges) → OwnedRangesAreApart ranges → (a i j : ℕ) (o : Owns ranges a i) (p : Owns ranges a j) → (o.last ≡ p.last)
one_range ranges apart a i j o p = elim (cases_order o.last p.last) [
  | inl same ↦ same
  | inr (inl up) ↦ absurd (
      let low : o.last < p.r.first = apart.apart o.last p.last o.r p.r o.stands p.stands up in
      let from : p.r.first ≤ a = p.from in let to : a ≤ o.last = o.to in let no : ⊥ = omega (arith, low, from, to) in no)
  | inr (inr down) ↦ absurd (
      let low : p.last < o.r.first = apart.apart p.last o.last p.r o.r p.stands o.stands down in
      let from : o.r.first ≤ a = o.from in let to : a ≤ p.last = p.to in let no : ⊥ = omega (arith, low, from, to) in no)
]

pub one_owner : (ranges : OwnedRanges) → OwnedRangesAreApart ranges → (a i j : ℕ) → Owns ranges a i → Owns ranges a j → i ≡ j
one_owner ranges apart a i j o p =
    let last = one_range ranges apart a i j o p in
    let same : o.r ≡ p.r = same_owned o.r p.r (sym o.stands ∙ subst (λ n. StandsAt ranges n p.r) (sym last) p.stands) in
    sym o.is ∙ ap (λ (r : Owned). r.owner) same ∙ p.is

-- ---- a range in which no address has an owner, under its last address

module _ (before after : OwnedRanges) (range : Range) (owner : ℕ) (apart : OwnedRangesAreApart before) (some : range.first ≤ range.last)
    (free : (a i : ℕ) → OwnedRangeHas range a → Owns before a i → ⊥)
    (here : lookup (is_at (nat_cmp range.last)) after ≡ Some (record { first = range.first; owner = owner }))
    (others : (q : ℕ) → is_at (nat_cmp range.last) q ≡ false → lookup (is_at (nat_cmp q)) after ≡ lookup (is_at (nat_cmp q)) before) where
  abbrev new : Owned
  new = record { first = range.first; owner = owner }

  -- what stands there now is the new one, or stood there
  stands : (last : ℕ) (r : Owned) → StandsAt after last r → ((last ≡ range.last) × (r ≡ new)) ⊎ ((last ≡ range.last → ⊥) × StandsAt before last r)
  stands last r at = elim (cases_eq last range.last) [
    | inl e ↦ inl (e, same_owned r new (sym (subst (λ n. StandsAt after n r) e at) ∙ here))
    | inr ne ↦ inr (ne, sym (others last (other_key range.last last ne)) ∙ at)
  ]

  -- nothing stood under the last address, as this had no owner
  stood : (last : ℕ) (r : Owned) → StandsAt before last r → StandsAt after last r
  stood last r at = elim (cases_eq last range.last) [
    | inl e ↦ absurd (
        let low : r.first ≤ last = apart.each last r at in
        free last r.owner (omega (arith, e, some), omega (arith, e)) record { last = last; r = r; stands = at; from = low; to = omega arith; is = refl })
    | inr ne ↦ others last (other_key range.last last ne) ∙ at
  ]

  -- a range that stood there is before the new one or behind it
  beside : (last : ℕ) (r : Owned) → StandsAt before last r → (last < range.first) ⊎ (range.last < r.first)
  beside last r at =
      let low : r.first ≤ last = apart.each last r at in
      elim (cases_order last range.first) [
        | inr (inl up) ↦ inl up
        | inl same ↦ absurd (free last r.owner (omega (arith, same), omega (arith, same, some)) record { last = last; r = r; stands = at; from = low; to = omega arith; is = refl })
        | inr (inr down) ↦ elim (cases_order range.last r.first) [
          | inr (inl up) ↦ inr up
          | inl same ↦ absurd (free r.first r.owner (omega (arith, same, some), omega (arith, same)) record { last = last; r = r; stands = at; from = omega arith; to = low; is = refl })
          | inr (inr under) ↦ absurd (elim (cases_order range.first r.first) [
            | inl same ↦ free r.first r.owner (omega (arith, same), omega (arith, under)) record { last = last; r = r; stands = at; from = omega arith; to = low; is = refl }
            | inr (inl up) ↦ free r.first r.owner (omega (arith, up), omega (arith, under)) record { last = last; r = r; stands = at; from = omega arith; to = low; is = refl }
            | inr (inr over) ↦ free range.first r.owner (omega arith, some) record { last = last; r = r; stands = at; from = omega (arith, over); to = omega (arith, down); is = refl }
          ])
        ]
      ]

  pub filled_apart : OwnedRangesAreApart after
  filled_apart = record {
    each = λ last r at. elim (stands last r at) [
      | inl (e, is) ↦ let f = ap (λ (x : Owned). x.first) is in omega (arith, e, f, some)
      | inr (ne, was) ↦ apart.each last r was
    ];
    apart = λ last other r q at there up. elim (stands last r at) [
      | inl (e, is) ↦ elim (stands other q there) [
        | inl (f, same) ↦ absurd (let no : ⊥ = omega (arith, e, f, up) in no)
        | inr (ne, was) ↦ elim (beside other q was) [
          | inl low ↦ absurd (let no : ⊥ = omega (arith, e, up, low, some) in no)
          | inr high ↦ omega (arith, e, high)
        ]
      ]
      | inr (ne, was) ↦ elim (stands other q there) [
        | inl (f, same) ↦ elim (beside last r was) [
          | inl low ↦ (let g = ap (λ (x : Owned). x.first) same in omega (arith, g, low))
          | inr high ↦ absurd (let low : r.first ≤ last = apart.each last r was in let no : ⊥ = omega (arith, f, up, high, low) in no)
        ]
        | inr (differ, stood_there) ↦ apart.apart last other r q was stood_there up
      ]
    ];
  }

  pub filled : (a i : ℕ) → Owns after a i ↔ (Owns before a i ⊎ (OwnedRangeHas range a × (i ≡ owner)))
  filled a i = (
    λ (o : Owns after a i). elim (stands o.last o.r o.stands) [
      | inl (e, is) ↦ inr (
        (let f = ap (λ (x : Owned). x.first) is in let from : o.r.first ≤ a = o.from in omega (arith, f, from), let to : a ≤ o.last = o.to in omega (arith, e, to)),
        sym o.is ∙ ap (λ (x : Owned). x.owner) is,
      )
      | inr (ne, was) ↦ inl record { last = o.last; r = o.r; stands = was; from = o.from; to = o.to; is = o.is }
    ],
    λ (h : Owns before a i ⊎ (OwnedRangeHas range a × (i ≡ owner))). elim h [
      | inl o ↦ record { last = o.last; r = o.r; stands = stood o.last o.r o.stands; from = o.from; to = o.to; is = o.is }
      | inr (held, is) ↦ record { last = range.last; r = new; stands = here; from = held.0; to = held.1; is = sym is }
    ],
  )

-- ---- a range of which some addresses have owners

-- the addresses of the range below one have an owner, those that had none the new one
pub record IsAddedBelow (before after : OwnedRanges) (range : Range) (owner at : ℕ) : Type 0 where
  pub kept : (a i : ℕ) → Owns before a i → Owns after a i
  pub only : (a i : ℕ) → Owns after a i → Owns before a i ⊎ (OwnedRangeHas range a × (a < at) × (i ≡ owner) × ((j : ℕ) → Owns before a j → ⊥))
  pub each : (a : ℕ) → OwnedRangeHas range a → a < at → (i : ℕ) × Owns after a i

pub added_none : (before : OwnedRanges) (range : Range) (owner : ℕ) → IsAddedBelow before before range owner range.first
added_none before range owner = record {
  kept = λ a i o. o;
  only = λ a i o. inl o;
  each = λ a held below. absurd (let from = held.0 in let no : ⊥ = omega (arith, from, below) in no);
}

pub added : (before after : OwnedRanges) (range : Range) (owner at : ℕ) → range.last < at → IsAddedBelow before after range owner at → IsRangeAdded before after range owner
added before after range owner at past below = record {
  kept = below.kept;
  only = λ a i o. elim (below.only a i o) [ inl was ↦ inl was | inr (held, low, is, none) ↦ inr (held, is, none) ];
  each = λ a held. below.each a held (let to = held.1 in omega (arith, to, past));
}

-- a gap is filled up to an address
pub gap_added : (before middle after : OwnedRanges) (range : Range) (owner at to : ℕ) → range.first ≤ at → to ≤ range.last + 1
    → ((a i : ℕ) → Owns after a i ↔ (Owns middle a i ⊎ (((at ≤ a) × (a < to)) × (i ≡ owner))))
    → ((a i : ℕ) → at ≤ a → a < to → Owns middle a i → ⊥) → IsAddedBelow before middle range owner at → at ≤ to → IsAddedBelow before after range owner to
gap_added before middle after range owner at to from within is free below up = record {
  kept = λ a i o. (is a i).1 (inl (below.kept a i o));
  only = λ a i o. elim ((is a i).0 o) [
    | inl was ↦ elim (below.only a i was) [ inl first ↦ inl first | inr (held, low, same, none) ↦ inr (held, omega (arith, low, up), same, none) ]
    | inr ((high, low), same) ↦ inr ((omega (arith, from, high), omega (arith, low, within)), low, same, λ j o. free a j high low (below.kept a j o))
  ];
  each = λ a held low. elim (cases_lt a at) [
    | inl less ↦ (let was = below.each a held less in (was.0, (is a was.0).1 (inl was.1)))
    | inr ge ↦ (owner, (is a owner).1 (inr ((ge, low), refl)))
  ];
}

-- addresses that have owners are passed over
pub over_added : (before after : OwnedRanges) (range : Range) (owner at to : ℕ) → at ≤ to → ((a : ℕ) → at ≤ a → a < to → (i : ℕ) × Owns after a i)
    → IsAddedBelow before after range owner at → IsAddedBelow before after range owner to
over_added before after range owner at to up owned below = record {
  kept = below.kept;
  only = λ a i o. elim (below.only a i o) [ inl was ↦ inl was | inr (held, low, is, none) ↦ inr (held, omega (arith, low, up), is, none) ];
  each = λ a held low. elim (cases_lt a at) [ inl less ↦ below.each a held less | inr ge ↦ owned a ge low ];
}

-- over the gap before the next address that has an owner, and the addresses that have the same
pub found_added : (before middle after : OwnedRanges) (range : Range) (owner at : ℕ) (f : Found) → range.first ≤ at → f.address ≤ range.last → IsFirstOwned middle at f
    → ((a i : ℕ) → Owns after a i ↔ (Owns middle a i ⊎ (((at ≤ a) × (a < f.address)) × (i ≡ owner))))
    → IsAddedBelow before middle range owner at → IsAddedBelow before after range owner (f.last + 1)
found_added before middle after range owner at f from within first is below =
    let some : f.address ≤ f.last = first.some in
    over_added before after range owner f.address (f.last + 1) (omega (arith, some))
    (λ a high low. (f.owner, (is a f.owner).1 (inl (first.owned a high (omega (arith, low))))))
    (gap_added before middle after range owner at f.address from (omega (arith, within)) is (λ a i. first.least a i) below first.from_on)

-- and to the end, where no more have owners
pub end_added : (before middle after : OwnedRanges) (range : Range) (owner at : ℕ) → range.first ≤ at → at ≤ range.last
    → ((a i : ℕ) → Owns after a i ↔ (Owns middle a i ⊎ (OwnedRangeHas (record { first = at; last = range.last }) a × (i ≡ owner))))
    → ((a i : ℕ) → OwnedRangeHas (record { first = at; last = range.last }) a → Owns middle a i → ⊥)
    → IsAddedBelow before middle range owner at → IsRangeAdded before after range owner
end_added before middle after range owner at from within is free below =
    added before after range owner (range.last + 1) (omega arith)
    (gap_added before middle after range owner at (range.last + 1) from (omega arith)
    (λ a i. (
      λ o. elim ((is a i).0 o) [ inl was ↦ inl was | inr (held, same) ↦ inr ((held.0, (let to = held.1 in omega (arith, to))), same) ],
      λ h. elim h [ inl was ↦ (is a i).1 (inl was) | inr ((high, low), same) ↦ (is a i).1 (inr ((high, omega (arith, low)), same)) ],
    )) (λ a i high low. free a i (high, omega (arith, low))) below (omega (arith, within)))
