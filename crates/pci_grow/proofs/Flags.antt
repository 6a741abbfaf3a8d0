-- Of which rows it is known that last addresses rise.
use Rattle.std.proofs.Common.{◌≡◌, ℕ, ◌+◌, ◌-◌, inl, inr, List, [], ◌∷◌, ◌++◌, length, get_or, Bool, true, false, arith, ap, sym, subst, refl, ◌∙◌}
use Rattle.std.proofs.lemmas.Bool.{cases_lt, both_ways}
use Rattle.std.proofs.lemmas.List.{get_or_append_left, get_or-append_right, get_or_past, length-append}
use Rattle.pci_base.specs.declared.range.Range.{Range}
use Rattle.pci_grow.specs.RoomRows.{row_at}
use Rattle.pci_grow.specs.LastPlaces.{LastsRise}

pub record AreFlagsTo (rows : List (List Range)) (flags : List Bool) (index : ℕ) : Type 0 where
  pub count : length flags ≡ index
  pub rising : (n : ℕ) → get_or flags n false ≡ true → LastsRise (row_at rows n)

pub flags_next : (rows : List (List Range)) (flags : List Bool) (index : ℕ) (b : Bool) → AreFlagsTo rows flags index → (b ≡ true → LastsRise (row_at rows index)) → AreFlagsTo rows (flags ++ b ∷ []) (index + 1)
flags_next rows flags index b was here = record {
  count = (let long = length-append flags (b ∷ []) in let count = was.count in omega (arith, long, count));
  rising = λ n flag.
      let new = get_or (flags ++ b ∷ []) n false in
      elim (cases_lt n (length flags)) [
        | inl under ↦ was.rising n (sym (get_or_append_left flags (b ∷ []) false n under) ∙ flag)
        | inr from ↦
            let count = was.count in
            let at_new = get_or-append_right flags (b ∷ []) (length flags) n false refl (omega (arith, from)) in
            elim (cases_lt (length flags) n) [
              | inl over ↦ absurd (both_ways new (at_new ∙ get_or_past (b ∷ []) (n - length flags) false (omega (arith, over))) flag)
              | inr up ↦
                  let zero_is : n - length flags ≡ 0 = omega (arith, from, up) in
                  let same : index ≡ n = omega (arith, from, up, count) in
                  subst (λ m. LastsRise (row_at rows m)) same (here (sym (at_new ∙ ap (λ m. get_or (b ∷ []) m false) zero_is) ∙ flag))
            ]
      ];
}
