-- Whether what a part comes to is off all that is there before it, by the greatest last address of that.
use Rattle.std.proofs.Common.{◌≡◌, ℕ, ◌<◌, ◌≤◌, ◌⊎◌, max, inl, inr, List, [], ◌∷◌, ◌++◌, length, take, get_or, Bool, true, false, ◌||◌, not, arith, refl, ap, sym, subst, ◌∙◌, Option, None, Some}
use Rattle.std.specs.Bool.{nat_lt, if◌then◌else◌}
use Rattle.std.specs.List.{Contains, list_all}
use Rattle.std.specs.Option.{option_map}
use Rattle.std.proofs.lemmas.Bool.{cases_Bool, lt-ltb, ltb-true, ltb-false, or_left, or_right, and_from, false_from_ne_true, true_from_ne_false}
use Rattle.std.proofs.lemmas.Option.{none-some, same_Some}
use Rattle.std.proofs.lemmas.List.{append-nil}
use Rattle.std.proofs.lemmas.List.Elements.{Contains-append_left, Contains-push, Contains-push_cases}
use Rattle.pci_spec.specs.Decoded.{Range as DecodedRange}
use Rattle.pci_spec.specs.System.{System, IsSystem}
use Rattle.pci_spec.specs.Bus.{IsNested}
use Rattle.pci_spec.proofs.BusRanges.{all_gives, all_from}
use Rattle.pci_spec.proofs.Members.{IsMade, IsInPiece, in_nil, in_head, in_cons_cases, in_map_to, in_flat_map_to, in_flat_map_from}
use Rattle.settle_spec.specs.FirstPlace.{ranges_are_apart}
use Rattle.settle_spec.specs.Lists.{Request}
use Rattle.settle_spec.specs.Parts.{FunctionPart, system_parts, addresses}
use Rattle.settle_spec.specs.Stands.{are_beside, stands}
use Rattle.settle_spec.specs.Items.{has_room_behind}
use Rattle.settle_spec.specs.Growth.{range_list, is_lower_beside, is_off, is_clear, there, comes_to, takes_growth}
use Rattle.settle_spec.proofs.Grown.{part_holds}
use Rattle.settle_spec.proofs.Reaching.{LiesIn, ends_apart, within_gives}
use Rattle.settle_laws.proofs.Standing.{part_of}
use Rattle.settle_laws.proofs.ThereByBus.{there_by_bus}
use Rattle.settle_laws.proofs.ThereAlone.{unstanding}
use Rattle.pci_base.specs.declared.range.Range.{Range}
use Rattle.pci_base.specs.Ranges.{decoded_range_of}
use Rattle.pci_kept.specs.declared.region.Region.{Region}
use Rattle.pci_kept.specs.Known.{region_value}
use Rattle.pci_grow.specs.There.{in_row, is_past, later_range_end}
use Rattle.pci_grow.specs.Telling.{AreStandingRows, range_as_it_stands, IsLatest, there_among}
use Rattle.pci_grow.proofs.InRows.{of_row, known_in, in_first, before_ends, before_done, v_known, v_row, part_in_row}
use Rattle.pci_grow.proofs.Told.{region_range, row_beside}

-- ---- the greatest last address of ranges

in_list : (o : Option DecodedRange) (x : DecodedRange) → Contains (range_list o) x → o ≡ Some x
in_list None x has = absurd (in_nil x has)
in_list (Some y) x has = elim (in_cons_cases y [] x has) [ inl here ↦ ap Some here | inr none ↦ absurd (in_nil x none) ]

pub latest_none : IsLatest [] None
latest_none = refl

latest_first : (r : DecodedRange) → IsLatest (r ∷ []) (Some r.last)
latest_first r = (
  λ t has. elim (in_cons_cases r [] t has) [ inl here ↦ (let e : r.last ≡ t.last = ap (λ (x : DecodedRange). x.last) here in omega (arith, e)) | inr none ↦ absurd (in_nil t none) ],
  (r, in_head r [], refl),
)

later_some : (rs : List DecodedRange) (e : ℕ) (r : DecodedRange) → IsLatest rs (Some e) → IsLatest (rs ++ r ∷ []) (Some (max e r.last))
later_some rs e r is = (
  λ t has. elim (Contains-push_cases rs r t has) [
    | inl first ↦ (let low = is.0 t first in omega (arith, low))
    | inr last ↦ (let same : r.last ≡ t.last = ap (λ (x : DecodedRange). x.last) last in omega (arith, same))
  ],
  by (cases_Bool (nat_lt e r.last)),
)
  where
    by : (nat_lt e r.last ≡ true) ⊎ (nat_lt e r.last ≡ false) → (t : DecodedRange) × Contains (rs ++ r ∷ []) t × (t.last ≡ max e r.last)
    by (inl less) = (r, Contains-push rs r, (let l = ltb-true e r.last less in omega (arith, l)))
    by (inr more) =
        let old = is.1 in
        let t = old.0 in
        let at : t.last ≡ e = old.2 in
        let h = ltb-false e r.last more in
        (t, Contains-append_left rs (r ∷ []) t old.1, omega (arith, at, h))

pub latest_more : (rs : List DecodedRange) (end : Option ℕ) (o : Option Range) (there : Option DecodedRange) → there ≡ option_map decoded_range_of o → IsLatest rs end → IsLatest (rs ++ range_list there) (later_range_end end o)
latest_more rs end None there is was =
    subst (λ x. IsLatest (rs ++ range_list x) (later_range_end end None)) (sym is) (subst (λ xs. IsLatest xs (later_range_end end None)) (sym (append-nil rs)) (same end was))
  where
    same : (end : Option ℕ) → IsLatest rs end → IsLatest rs (later_range_end end None)
    same None was = was
    same (Some e) was = was
latest_more rs None (Some r) there is was =
    subst (λ x. IsLatest (rs ++ range_list x) (Some r.last)) (sym is)
    (subst (λ xs. IsLatest (xs ++ decoded_range_of r ∷ []) (Some r.last)) (sym was) (latest_first (decoded_range_of r)))
latest_more rs (Some e) (Some r) there is was =
    subst (λ x. IsLatest (rs ++ range_list x) (Some (max e r.last))) (sym is) (later_some rs e (decoded_range_of r) was)

-- ---- what is there holds its own addresses

module _ (q : Request) (s : System) (system : IsSystem s) (nested : IsNested q.roots s) where
  pub step : (r : FunctionPart) → Contains (system_parts q s) r → there q s r ≡ (if takes_growth q s r then comes_to q s r else range_as_it_stands q s r)
  step r listed = there_by_bus q s system nested r listed

  pub comes_hold : (r : FunctionPart) (x : DecodedRange) → comes_to q s r ≡ Some x → LiesIn (addresses r) x
  comes_hold r x is = within_gives (addresses r) x (part_holds q s r.function r.part x is)

  pub there_holds : (r : FunctionPart) (x : DecodedRange) → Contains (system_parts q s) r → there q s r ≡ Some x → LiesIn (addresses r) x
  there_holds r x listed is = by (takes_growth q s r) (has_room_behind q s r) (sym (step r listed) ∙ is)
    where
      by : (b holds : Bool) → (if b then comes_to q s r else if holds then Some (addresses r) else None) ≡ Some x → LiesIn (addresses r) x
      by true holds e = comes_hold r x e
      by false true e = subst (LiesIn (addresses r)) (same_Some (addresses r) x e) (record { first = omega arith; last = omega arith })
      by false false e = absurd (none-some x e)

  -- ---- clear of what is there before

  module _ (rows : List Region) (are : AreStandingRows q s rows) (number i : ℕ) (r : Region) (within : i < length (in_row number rows)) (at : get_or (in_row number rows) i r ≡ r) where
    abbrev row : List Region
    row = in_row number rows

    abbrev value : Region → FunctionPart
    value x = region_value s x

    abbrev v : FunctionPart
    v = value r

    abbrev before : List DecodedRange
    before = there_among q s (take i row)

    -- what is there before is gathered
    gathered : (t : FunctionPart) (y : DecodedRange) → Contains (system_parts q s) t → is_lower_beside q t v ≡ true → there q s t ≡ Some y → Contains before y
    gathered t y listed is_first is =
        let stand : stands q s t ≡ true = true_from_ne_false (stands q s t) (λ off. none-some y (sym (unstanding q s system nested t (part_of q s t listed).listed off) ∙ is)) in
        let made : IsMade value (take i row) t = in_map_to value (take i row) t (before_done q s system nested rows are number i r within at t listed stand is_first) in
        in_flat_map_from (λ x. range_list (there q s (value x))) (take i row) made.from y made.has
        (subst (λ u. Contains (range_list (there q s u)) y) (sym made.is) (subst (λ o. Contains (range_list o) y) (sym is) (in_head y [])))

    -- and what is gathered is there before
    record IsGathered (y : DecodedRange) : Type 0 where
      t : FunctionPart
      listed : Contains (system_parts q s) t
      first : is_lower_beside q t v ≡ true
      is : there q s t ≡ Some y
      low : (addresses t).first < (addresses v).first

    from_gathered : (y : DecodedRange) → Contains before y → IsGathered y
    from_gathered y has =
        let piece : IsInPiece (λ x. range_list (there q s (value x))) (take i row) y = in_flat_map_to (λ x. range_list (there q s (value x))) (take i row) y has in
        let x = piece.of in
        let in_x = in_first q s system nested rows are number i r within at x piece.has in
        let kx = known_in q s system nested rows are x (of_row q s system nested rows are number x in_x).0 in
        let kr = v_known q s system nested rows are number i r within at in
        let ends = before_ends q s system nested rows are number i r within at x piece.has in
        let forward = kx.forward in
        let first_x : x.range.first ≡ (addresses (value x)).first = ap (λ (d : DecodedRange). d.first) (region_range q s x kx) in
        let first_r : r.range.first ≡ (addresses v).first = ap (λ (d : DecodedRange). d.first) (region_range q s r kr) in
        let low : (addresses (value x)).first < (addresses v).first = omega (arith, ends, forward, first_x, first_r) in
        record {
          t = value x;
          listed = kx.listed;
          first = and_from (are_beside q (value x) v) (nat_lt (addresses (value x)).first (addresses v).first)
              (row_beside q (value x) v (part_in_row q s system nested rows are number x in_x ∙ sym (v_row q s system nested rows are number i r within at)))
              (lt-ltb (addresses (value x)).first (addresses v).first low);
          is = in_list (there q s (value x)) y piece.piece;
          low = low;
        }

    forward_v : (addresses v).first ≤ (addresses v).last
    forward_v =
        let kr = v_known q s system nested rows are number i r within at in
        let forward = kr.forward in
        let first : r.range.first ≡ (addresses v).first = ap (λ (d : DecodedRange). d.first) (region_range q s r kr) in
        let last : r.range.last ≡ (addresses v).last = ap (λ (d : DecodedRange). d.last) (region_range q s r kr) in
        omega (arith, forward, first, last)

    abbrev is_clear_of : DecodedRange → Bool
    is_clear_of g = list_all (λ t. not (is_lower_beside q t v) || is_off g (there q s t)) (system_parts q s)

    off_all : (g : DecodedRange) → ((y : DecodedRange) → Contains before y → y.last < g.first) → is_clear_of g ≡ true
    off_all g below =
        all_from (λ t. not (is_lower_beside q t v) || is_off g (there q s t)) (system_parts q s) (λ t listed. elim (cases_Bool (is_lower_beside q t v)) [
          | inl first ↦ or_right (not (is_lower_beside q t v)) (is_off g (there q s t)) (by t listed first (there q s t) refl)
          | inr other ↦ or_left (not (is_lower_beside q t v)) (is_off g (there q s t)) (ap not other)
        ])
      where
        by : (t : FunctionPart) → Contains (system_parts q s) t → is_lower_beside q t v ≡ true → (o : Option DecodedRange) → there q s t ≡ o → is_off g (there q s t) ≡ true
        by t listed first None none = ap (is_off g) none
        by t listed first (Some y) is =
            ap (is_off g) is
            ∙ or_right (nat_lt g.last y.first) (nat_lt y.last g.first) (lt-ltb y.last g.first (below y (gathered t y listed first is)))

    -- what it comes to is clear exactly where it begins behind that address
    pub past_is : (end : Option ℕ) → IsLatest before end → (g : Range) → LiesIn (addresses v) (decoded_range_of g) → is_past end g ≡ is_clear q s (there q s) v (Some (decoded_range_of g))
    past_is None none g holds = sym (off_all (decoded_range_of g) (λ y has. absurd (in_nil y (subst (λ xs. Contains xs y) none has))))
    past_is (Some e) is g holds = elim (cases_Bool (nat_lt e g.first)) [
      | inl past ↦
          past ∙ sym (off_all (decoded_range_of g) (λ y has. let low = is.0 y has in let less = ltb-true e g.first past in omega (arith, low, less)))
      | inr short ↦ short ∙ sym (false_from_ne_true (is_clear_of (decoded_range_of g)) (λ all. never all short))
    ]
      where
        never : is_clear_of (decoded_range_of g) ≡ true → nat_lt e g.first ≡ false → ⊥
        never all short =
            let last = is.1 in
            let y : DecodedRange = last.0 in
            let at_end : y.last ≡ e = last.2 in
            let u : IsGathered y = from_gathered y last.1 in
            let off = all_gives (λ t. not (is_lower_beside q t v) || is_off (decoded_range_of g) (there q s t)) (system_parts q s) all u.t u.listed in
            let apart : ranges_are_apart (decoded_range_of g) y ≡ true =
            sym (ap (λ b. not b || is_off (decoded_range_of g) (there q s u.t)) u.first ∙ ap (is_off (decoded_range_of g)) u.is) ∙ off in
            let own = there_holds u.t y u.listed u.is in
            let own_first = own.first in
            let low = u.low in
            let holds_last = holds.last in
            let more = ltb-false e g.first short in
            let forward = forward_v in
            elim (ends_apart (decoded_range_of g) y apart) [
              | inl under ↦ (let no : ⊥ = omega (arith, under, own_first, low, holds_last, forward) in no)
              | inr over ↦ (let no : ⊥ = omega (arith, over, at_end, more) in no)
            ]
