-- The parts that stand in a row: their order, and which of them are done.
use Rattle.std.proofs.Common.{◌≡◌, ◌≢◌, ℕ, ◌+◌, ◌<◌, ◌≤◌, ◌⊎◌, inl, inr, List, [], ◌∷◌, ◌++◌, map, length, take, get_or, true, arith, ap, sym, subst, ◌∙◌}
use Rattle.std.specs.Bool.{◌==◌}
use Rattle.std.specs.List.{AllPairs, Contains}
use Rattle.std.proofs.lemmas.Bool.{cases_lt, cases_eq, and_parts, eqb-true, eq-eqb, ltb-true}
use Rattle.std.proofs.lemmas.List.{take_more, take_all, get_or_default, get_or-take, length-take}
use Rattle.std.proofs.lemmas.List.Elements.{All-contains, Contains-append_left, Contains-push, Contains-push_cases}
use Rattle.pci_spec.specs.Decoded.{Range as DecodedRange}
use Rattle.pci_spec.specs.System.{System, IsSystem}
use Rattle.pci_spec.specs.Bus.{IsNested}
use Rattle.pci_spec.proofs.Members.{IsMade, in_map_to, in_map_from, in_filter_to, in_filter_from, pairs_filter}
use Rattle.settle_spec.specs.Lists.{Request}
use Rattle.settle_spec.specs.Parts.{FunctionPart, system_parts, addresses}
use Rattle.settle_spec.specs.Stands.{rank, are_beside, stands}
use Rattle.settle_spec.specs.Growth.{is_lower_beside}
use Rattle.settle_spec.proofs.Reaching.{LieApart, ends_apart}
use Rattle.settle_laws.proofs.Apart.{apart_where_beside}
use Rattle.settle_laws.proofs.Standing.{part_of}
use Rattle.pci_base.specs.Ranges.{decoded_range_of}
use Rattle.pci_kept.specs.declared.region.Region.{Region}
use Rattle.pci_kept.specs.Boards.{IsKnown}
use Rattle.pci_kept.specs.Known.{region_value}
use Rattle.pci_kept.proofs.Rooms.{part_there}
use Rattle.pci_grow.specs.Rows.{region_row_number, IsInRowOrder}
use Rattle.pci_grow.specs.There.{in_row}
use Rattle.pci_grow.specs.Telling.{AreStandingRows, part_row_number, IsDone}
use Rattle.pci_grow.proofs.Ranked.{rank_parts}
use Rattle.pci_grow.proofs.Told.{region_row, region_range, beside_row, row_beside}

-- a slot and a register name one part
pub rank_one : (q : Request) (s : System) → IsSystem s → (u v : FunctionPart) → Contains (system_parts q s) u → Contains (system_parts q s) v → rank u ≡ rank v → u ≡ v
rank_one q s system u v in_u in_v same = rank_parts s system u v (part_of q s u in_u).listed (part_of q s v in_v).listed (part_there q s u in_u) (part_there q s v in_v) same

in_take : (xs : List Region) (i j : ℕ) (d : Region) → j < i → j < length xs → Contains (take i xs) (get_or xs j d)
in_take xs i j d less within =
    let long = length-take i xs in
    (j, omega (arith, less, within, long), get_or-take i xs j (get_or xs j d) less ∙ get_or_default xs j (get_or xs j d) d within)

pub record IsAmongFirst (xs : List Region) (i : ℕ) (x : Region) : Type 0 where
  pub j : ℕ
  pub less : j < i
  pub within : j < length xs
  pub is : get_or xs j x ≡ x

among_first : (xs : List Region) (i : ℕ) (x : Region) → Contains (take i xs) x → IsAmongFirst xs i x
among_first xs i x (j, inside, at) =
    let long = length-take i xs in
    record { j = j; less = omega (arith, inside, long); within = omega (arith, inside, long); is = sym (get_or-take i xs j x (omega (arith, inside, long))) ∙ at }

module _ (q : Request) (s : System) (system : IsSystem s) (nested : IsNested q.roots s) (rows : List Region) (are : AreStandingRows q s rows) where
  abbrev value : Region → FunctionPart
  value r = region_value s r

  pub known_in : (r : Region) → Contains rows r → IsKnown q s r
  known_in r has = All-contains (IsKnown q s) rows r are.known has

  pub stands_in : (r : Region) → Contains rows r → stands q s (value r) ≡ true
  stands_in r has = All-contains (λ x. stands q s (value x) ≡ true) rows r are.stand has

  module _ (number : ℕ) where
    abbrev row : List Region
    row = in_row number rows

    pub of_row : (r : Region) → Contains row r → Contains rows r × (region_row_number r ≡ number)
    of_row r has = (let both = in_filter_to (λ x. region_row_number x == number) rows r has in (both.0, eqb-true (region_row_number r) number both.1))

    pub part_in_row : (r : Region) → Contains row r → part_row_number q (value r) ≡ number
    part_in_row r has = sym (region_row q s r (known_in r (of_row r has).0)) ∙ (of_row r has).1

    -- a part that stands there is one of the row
    pub in_row_of : (u : FunctionPart) → Contains (system_parts q s) u → stands q s u ≡ true → part_row_number q u ≡ number → IsMade value row u
    in_row_of u listed stand at =
        let made : IsMade value rows u = in_map_to value rows u (are.all u listed stand) in
        let r = made.from in
        let here : region_row_number r ≡ number = region_row q s r (known_in r made.has) ∙ ap (part_row_number q) made.is ∙ at in
        record { from = r; has = in_filter_from (λ x. region_row_number x == number) rows r made.has (eq-eqb (region_row_number r) number here); is = made.is }

    pub order : AllPairs (IsInRowOrder (λ r. rank (value r))) row
    order = pairs_filter (IsInRowOrder (λ r. rank (value r))) (λ x. region_row_number x == number) rows are.order

    -- of two in order the first has lower addresses
    pub lower_in : (x r : Region) → Contains row x → Contains row r → IsInRowOrder (λ r. rank (value r)) x r → x.range.last < r.range.first
    lower_in x r in_x in_r (inl lower) = absurd (let a = (of_row x in_x).1 in let b = (of_row r in_r).1 in let no : ⊥ = omega (arith, lower, a, b) in no)
    lower_in x r in_x in_r (inr both) = by both.1
      where
        kx : IsKnown q s x
        kx = known_in x (of_row x in_x).0

        kr : IsKnown q s r
        kr = known_in r (of_row r in_r).0

        x_is : decoded_range_of x.range ≡ addresses (value x)
        x_is = region_range q s x kx

        r_is : decoded_range_of r.range ≡ addresses (value r)
        r_is = region_range q s r kr

        apart : rank (value x) ≢ rank (value r) → LieApart (decoded_range_of x.range) (decoded_range_of r.range)
        apart differ =
            subst (λ y. LieApart y (decoded_range_of r.range)) (sym x_is) (subst (LieApart (addresses (value x))) (sym r_is)
            (ends_apart (addresses (value x)) (addresses (value r))
            (apart_where_beside q s (value x) (value r) nested kx.listed kr.listed (stands_in x (of_row x in_x).0) (stands_in r (of_row r in_r).0)
            (row_beside q (value x) (value r) (part_in_row x in_x ∙ sym (part_in_row r in_r))) differ)))

        ends : LieApart (decoded_range_of x.range) (decoded_range_of r.range) → x.range.first ≤ r.range.first → x.range.last < r.range.first
        ends (inl under) up = under
        ends (inr over) up = absurd (let forward = kr.forward in let no : ⊥ = omega (arith, over, up, forward) in no)

        by : (x.range.first < r.range.first) ⊎ ((x.range.first ≡ r.range.first) × (rank (value x) < rank (value r))) → x.range.last < r.range.first
        by (inl less) = ends (apart (λ same.
            let one : value x ≡ value r = rank_one q s system (value x) (value r) kx.listed kr.listed same in
            let first : x.range.first ≡ r.range.first = ap (λ (y : DecodedRange). y.first) (x_is ∙ ap addresses one ∙ sym r_is) in
            let no : ⊥ = omega (arith, less, first) in no)) (omega (arith, less))
        by (inr (same, less)) = ends (apart (λ one. let no : ⊥ = omega (arith, less, one) in no)) (omega (arith, same))

    module _ (i : ℕ) (r : Region) (within : i < length row) (at : get_or row i r ≡ r) where
      abbrev v : FunctionPart
      v = value r

      pub in_r : Contains row r
      in_r = (i, within, at)

      pub v_known : IsKnown q s r
      v_known = known_in r (of_row r in_r).0

      pub v_listed : Contains (system_parts q s) v
      v_listed = v_known.listed

      pub v_stands : stands q s v ≡ true
      v_stands = stands_in r (of_row r in_r).0

      pub v_row : part_row_number q v ≡ number
      v_row = part_in_row r in_r

      before_order : (j : ℕ) (x : Region) → j < i → get_or row j x ≡ x → IsInRowOrder (λ r. rank (value r)) x r
      before_order j x less is =
          subst (λ y. IsInRowOrder (λ r. rank (value r)) y r) (get_or_default row j r x (omega (arith, less, within)) ∙ is)
          (subst (IsInRowOrder (λ r. rank (value r)) (get_or row j r)) at (order j i r less within))

      behind_order : (j : ℕ) (x : Region) → i < j → j < length row → get_or row j x ≡ x → IsInRowOrder (λ r. rank (value r)) r x
      behind_order j x less inside is =
          subst (IsInRowOrder (λ r. rank (value r)) r) is
          (subst (λ y. IsInRowOrder (λ r. rank (value r)) y (get_or row j x)) (get_or_default row i x r within ∙ at) (order i j x less inside))

      -- one before it ends below it
      pub before_ends : (x : Region) → Contains (take i row) x → x.range.last < r.range.first
      before_ends x has =
          let a = among_first row i x has in
          lower_in x r (a.j, a.within, a.is) in_r (before_order a.j x a.less a.is)

      pub in_first : (x : Region) → Contains (take i row) x → Contains row x
      in_first x has = let a = among_first row i x has in (a.j, a.within, a.is)

      -- it isn't done itself
      pub not_done : IsDone q s rows number i v → ⊥
      not_done (inl lower) = let here = v_row in omega (arith, lower, here)
      not_done (inr has) =
          let made : IsMade value (take i row) v = in_map_to value (take i row) v has in
          let x = made.from in
          let ends = before_ends x made.has in
          let kx = known_in x (of_row x (in_first x made.has)).0 in
          let first : x.range.first ≡ r.range.first = ap (λ (y : DecodedRange). y.first) (region_range q s x kx ∙ ap addresses made.is ∙ sym (region_range q s r v_known)) in
          let forward = kx.forward in
          omega (arith, ends, first, forward)

      -- what stands before it is done
      pub before_done : (u : FunctionPart) → Contains (system_parts q s) u → stands q s u ≡ true → is_lower_beside q u v ≡ true → Contains (map value (take i row)) u
      before_done u listed stand before = by (cases_lt x_at.j i)
        where
          parts : (are_beside q u v ≡ true) × ((addresses u).first < (addresses v).first)
          parts = (let two = and_parts (are_beside q u v) _ before in (two.0, ltb-true (addresses u).first (addresses v).first two.1))

          made : IsMade value row u
          made = in_row_of u listed stand (beside_row q u v parts.0 ∙ v_row)

          x : Region
          x = made.from

          x_at : IsAmongFirst row (length row) x
          x_at = (let has = made.has in record { j = has.0; less = has.1; within = has.1; is = has.2 })

          kx : IsKnown q s x
          kx = known_in x (of_row x made.has).0

          first_u : x.range.first ≡ (addresses u).first
          first_u = ap (λ (y : DecodedRange). y.first) (region_range q s x kx ∙ ap addresses made.is)

          first_v : r.range.first ≡ (addresses v).first
          first_v = ap (λ (y : DecodedRange). y.first) (region_range q s r v_known)

          never : i ≤ x_at.j → ⊥
          never up = elim (cases_eq i x_at.j) [
            | inl same ↦
                let one : r ≡ x = sym at ∙ ap (λ n. get_or row n r) same ∙ get_or_default row x_at.j r x x_at.within ∙ x_at.is in
                let a = first_u in
                let b = first_v in
                let c : r.range.first ≡ x.range.first = ap (λ (y : Region). y.range.first) one in
                let less = parts.1 in
                omega (arith, a, b, c, less)
            | inr differ ↦
                let low = lower_in r x in_r made.has (behind_order x_at.j x (omega (arith, up, differ)) x_at.within x_at.is) in
                let a = first_u in
                let b = first_v in
                let less = parts.1 in
                let forward = v_known.forward in
                omega (arith, low, a, b, less, forward)
          ]

          by : (x_at.j < i) ⊎ (i ≤ x_at.j) → Contains (map value (take i row)) u
          by (inl less) = subst (Contains (map value (take i row))) made.is (in_map_from value (take i row) x (subst (Contains (take i row)) x_at.is (in_take row i x_at.j x less x_at.within)))
          by (inr up) = absurd (never up)

      -- ---- one more is done

      next : take (i + 1) row ≡ take i row ++ r ∷ []
      next = take_more row i r within ∙ ap (λ x. take i row ++ x ∷ []) at

      pub done_cases : (u : FunctionPart) → IsDone q s rows number (i + 1) u → (v ≡ u) ⊎ IsDone q s rows number i u
      done_cases u (inl lower) = inr (inl lower)
      done_cases u (inr has) =
          let made : IsMade value (take (i + 1) row) u = in_map_to value (take (i + 1) row) u has in
          elim (Contains-push_cases (take i row) r made.from (subst (λ xs. Contains xs made.from) next made.has)) [
            | inl first ↦ inr (inr (subst (Contains (map value (take i row))) made.is (in_map_from value (take i row) made.from first)))
            | inr last ↦ inl (ap value last ∙ made.is)
          ]

      pub done_keeps : (u : FunctionPart) → IsDone q s rows number i u → IsDone q s rows number (i + 1) u
      done_keeps u (inl lower) = inl lower
      done_keeps u (inr has) =
          let made : IsMade value (take i row) u = in_map_to value (take i row) u has in
          inr (subst (Contains (map value (take (i + 1) row))) made.is
          (in_map_from value (take (i + 1) row) made.from (subst (λ xs. Contains xs made.from) (sym next) (Contains-append_left (take i row) (r ∷ []) made.from made.has))))

      pub done_here : IsDone q s rows number (i + 1) v
      done_here = inr (in_map_from value (take (i + 1) row) r (subst (λ xs. Contains xs r) (sym next) (Contains-push (take i row) r)))

    -- ---- a whole row

    pub all_done : (i : ℕ) → length row ≤ i → (u : FunctionPart) → Contains (system_parts q s) u → stands q s u ≡ true → number ≤ part_row_number q u → IsDone q s rows number i u
    all_done i past u listed stand up = elim (cases_eq number (part_row_number q u)) [
      | inl same ↦
          let made : IsMade value row u = in_row_of u listed stand (sym same) in
          inr (subst (Contains (map value (take i row))) made.is (in_map_from value (take i row) made.from (subst (λ xs. Contains xs made.from) (sym (take_all i row past)) made.has)))
      | inr differ ↦ inl (omega (arith, up, differ))
    ]

    pub done_up : (i : ℕ) (u : FunctionPart) → IsDone q s rows number i u → number ≤ part_row_number q u
    done_up i u (inl lower) = omega (arith, lower)
    done_up i u (inr has) =
        let made : IsMade value (take i row) u = in_map_to value (take i row) u has in
        let a = among_first row i made.from made.has in
        let here = part_in_row made.from (a.j, a.within, a.is) in
        let same : part_row_number q u ≡ part_row_number q (value made.from) = ap (part_row_number q) (sym made.is) in
        omega (arith, here, same)
