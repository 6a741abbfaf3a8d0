-- The parts next to one in its row are the nearest ones, where those of a row share no address.
use Rattle.std.proofs.Common.{◌≡◌, ℕ, ◌+◌, ◌-◌, ◌<◌, inl, inr, List, length, get_or, arith, ap, sym, subst, ◌∙◌, Option, None, Some, IfSome, IfNone}
use Rattle.std.specs.Option.{option_map}
use Rattle.std.proofs.lemmas.Bool.{cases_lt, cases_eq}
use Rattle.pci_spec.specs.Decoded.{Range as DecodedRange}
use Rattle.pci_base.specs.declared.range.Range.{Range}
use Rattle.pci_base.specs.Ranges.{decoded_range_of}
use Rattle.pci_kept.specs.declared.region.Region.{Region}
use Rattle.pci_grow.specs.Rows.{IsRangeBeforeInRow, IsRangeBehindInRow, AreAllInLowerRows, AreAllInHigherRows, AreApartInRows, IsOtherOfRow, AreOtherRangesOfRow}
use Rattle.pci_grow.specs.Rooms.{IsNearestBelow, NoneBelow, Below, IsNearestAbove, NoneAbove, Above}

module _ (rows : List Region) (index : ℕ) (d : Region) (within : index < length rows) (apart : AreApartInRows rows) where
  abbrev own : Range
  own = (get_or rows index d).range

  abbrev at : ℕ → Range
  at k = (get_or rows k d).range

  -- the one before it ends below it
  pub before_ends : (o : Option Range) → IfSome o (IsRangeBeforeInRow rows index) → IfSome o (λ other. other.last < own.first)
  before_ends None is = is
  before_ends (Some r) is =
      let some = is.some in
      let less = apart.apart (index - 1) index d (omega (arith, some)) within (is.row d) in
      subst (λ (x : Range). x.last < own.first) (sym (is.range d)) less

  module _ (ts : List DecodedRange) (beside : AreOtherRangesOfRow rows index ts) where
    pub nearest_below : (o : Option Range) → IfSome o (IsRangeBeforeInRow rows index) → IfNone o (AreAllInLowerRows rows index) → IsNearestBelow (decoded_range_of own) ts (option_map decoded_range_of o)
    nearest_below None is none = NoneBelow (λ t listed.
        let u = beside.each t listed in
        let b = u.beside in
        elim (cases_lt u.k index) [
          | inl less ↦ absurd (let low = none u.k d less in let same = b.row d in let no : ⊥ = omega (arith, low, same) in no)
          | inr more ↦ subst (λ (x : DecodedRange). own.last < x.first) (u.range d)
              (apart.apart index u.k d (let other = b.other in omega (arith, more, other)) b.within (sym (b.row d)))
        ])
    nearest_below (Some r) is none =
        let some = is.some in
        let here : IsOtherOfRow rows index (index - 1) = record { within = omega (arith, within); other = λ same. let no : ⊥ = omega (arith, same, some) in no; row = is.row } in
        let less = apart.apart (index - 1) index d (omega (arith, some)) within (is.row d) in
        let old = apart.forward (index - 1) d (omega (arith, within)) in
        let new = apart.forward index d within in
        subst (λ (x : Range). IsNearestBelow (decoded_range_of own) ts (Some (decoded_range_of x))) (sym (is.range d))
        (Below (decoded_range_of (at (index - 1))) (beside.all (index - 1) d here) (omega (arith, less, old, new)) (λ t listed low.
        let u = beside.each t listed in
        let b = u.beside in
        let first : (at u.k).first ≡ t.first = ap (λ (x : DecodedRange). x.first) (u.range d) in
        let last : (at u.k).last ≡ t.last = ap (λ (x : DecodedRange). x.last) (u.range d) in
        elim (cases_lt u.k index) [
          | inl under ↦ elim (cases_eq u.k (index - 1)) [
            | inl same ↦ (let is_last : (at u.k).last ≡ (at (index - 1)).last = ap (λ n. (at n).last) same in omega (arith, is_last, last))
            | inr differ ↦ (let up = apart.apart u.k (index - 1) d (omega (arith, under, differ)) (omega (arith, within)) (b.row d ∙ sym (is.row d)) in omega (arith, up, last, old))
          ]
          | inr more ↦ (let up = apart.apart index u.k d (let other = b.other in omega (arith, more, other)) b.within (sym (b.row d)) in absurd (let no : ⊥ = omega (arith, up, first, low) in no))
        ]))

    pub nearest_above : (o : Option Range) → IfSome o (IsRangeBehindInRow rows index) → IfNone o (AreAllInHigherRows rows index) → IsNearestAbove (decoded_range_of own) ts (option_map decoded_range_of o)
    nearest_above None is none = NoneAbove (λ t listed.
        let u = beside.each t listed in
        let b = u.beside in
        let first : (at u.k).first ≡ t.first = ap (λ (x : DecodedRange). x.first) (u.range d) in
        let new = apart.forward index d within in
        let old = apart.forward u.k d b.within in
        elim (cases_lt index u.k) [
          | inl less ↦ absurd (let high = none u.k d less b.within in let same = b.row d in let no : ⊥ = omega (arith, high, same) in no)
          | inr more ↦ (let up = apart.apart u.k index d (let other = b.other in omega (arith, more, other)) within (b.row d) in omega (arith, up, first, old, new))
        ])
    nearest_above (Some r) is none =
        let some = is.some in
        let here : IsOtherOfRow rows index (index + 1) = record { within = some; other = λ same. let no : ⊥ = omega (arith, same) in no; row = is.row } in
        let less = apart.apart index (index + 1) d (omega arith) some (sym (is.row d)) in
        let after = apart.forward (index + 1) d some in
        let new = apart.forward index d within in
        subst (λ (x : Range). IsNearestAbove (decoded_range_of own) ts (Some (decoded_range_of x))) (sym (is.range d))
        (Above (decoded_range_of (at (index + 1))) (beside.all (index + 1) d here) less (λ t listed high.
        let u = beside.each t listed in
        let b = u.beside in
        let first : (at u.k).first ≡ t.first = ap (λ (x : DecodedRange). x.first) (u.range d) in
        let old = apart.forward u.k d b.within in
        elim (cases_lt index u.k) [
          | inl over ↦ elim (cases_eq u.k (index + 1)) [
            | inl same ↦ (let is_first : (at u.k).first ≡ (at (index + 1)).first = ap (λ n. (at n).first) same in omega (arith, is_first, first))
            | inr differ ↦ (let up = apart.apart (index + 1) u.k d (omega (arith, over, differ)) b.within (is.row d ∙ sym (b.row d)) in omega (arith, up, first, after))
          ]
          | inr more ↦ (let up = apart.apart u.k index d (let other = b.other in omega (arith, more, other)) within (b.row d) in absurd (let no : ⊥ = omega (arith, up, first, high, old, new) in no))
        ]))
