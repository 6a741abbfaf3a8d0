-- The nearest of what is beside a window, where more is beside it.
use Rattle.std.proofs.Common.{◌≡◌, ℕ, ◌+◌, ◌-◌, ◌<◌, ◌≤◌, max, min, inl, inr, List, [], ◌∷◌, ◌++◌, length, take, get_or, Bool, true, false, cond, arith, refl, ap, sym, subst, ◌∙◌, Option, None, Some, IfSome}
use Rattle.std.specs.Bool.{nat_lt}
use Rattle.std.specs.List.{Contains, flat_map}
use Rattle.std.specs.Option.{option_map}
use Rattle.std.proofs.lemmas.Bool.{ltb-true, ltb-false}
use Rattle.std.proofs.lemmas.List.{append-nil}
use Rattle.std.proofs.lemmas.Grind.{take_at_read, flat_map-append}
use Rattle.std.proofs.lemmas.List.Elements.{Contains-append_cases, Contains-append_left, Contains-append_right}
use Rattle.pci_spec.specs.Decoded.{Range}
use Rattle.pci_spec.proofs.Members.{in_nil, in_head, in_cons_cases}
use Rattle.settle_spec.specs.Reach.{before_window, past_window}
use Rattle.settle_spec.proofs.SameTaken.{HaveSame}
use Rattle.pci_base.specs.declared.range.Range.{Range as CodeRange}
use Rattle.pci_base.specs.Ranges.{decoded_range_of}
use Rattle.pci_first_fit.specs.declared.lines.Line.{Line}
use Rattle.pci_grow.specs.declared.among.Among.{Among}
use Rattle.pci_grow.specs.Rooms.{IsNearestBelow, NoneBelow, Below, IsNearestAbove, NoneAbove, Above}
use Rattle.pci_grow.specs.OffLines.{ending_later, beginning_sooner, part_before, part_behind, pieces, IsAmongAlso}

module _ (w : Range) where
  -- ---- lists with the same ranges

  pub below_same : (xs ys : List Range) (o : Option Range) → HaveSame xs ys → IsNearestBelow w xs o → IsNearestBelow w ys o
  below_same xs ys None same (NoneBelow over) = NoneBelow (λ t has. over t (same.back t has))
  below_same xs ys (Some _) same (Below b listed low greatest) = Below b (same.to b listed) low (λ t has under. greatest t (same.back t has) under)

  pub above_same : (xs ys : List Range) (o : Option Range) → HaveSame xs ys → IsNearestAbove w xs o → IsNearestAbove w ys o
  above_same xs ys None same (NoneAbove under) = NoneAbove (λ t has. under t (same.back t has))
  above_same xs ys (Some _) same (Above h listed high least) = Above h (same.to h listed) high (λ t has over. least t (same.back t has) over)

  -- ---- two lists

  pub below_both : (xs ys : List Range) (o p : Option Range) → IsNearestBelow w xs o → IsNearestBelow w ys p → IsNearestBelow w (xs ++ ys) (ending_later o p)
  below_both xs ys None None (NoneBelow over) (NoneBelow more) = NoneBelow (λ t has. elim (Contains-append_cases xs ys t has) [ inl left ↦ over t left | inr right ↦ more t right ])
  below_both xs ys None (Some _) (NoneBelow over) (Below d listed low greatest) =
      Below d (Contains-append_right xs ys d listed) low (λ t has under. elim (Contains-append_cases xs ys t has) [
        | inl left ↦ (let high = over t left in absurd (let no : ⊥ = omega (arith, high, under) in no))
        | inr right ↦ greatest t right under
      ])
  below_both xs ys (Some _) None (Below b listed low greatest) (NoneBelow over) =
      Below b (Contains-append_left xs ys b listed) low (λ t has under. elim (Contains-append_cases xs ys t has) [
        | inl left ↦ greatest t left under
        | inr right ↦ (let high = over t right in absurd (let no : ⊥ = omega (arith, high, under) in no))
      ])
  below_both xs ys (Some _) (Some _) (Below b b_listed b_low b_greatest) (Below d d_listed d_low d_greatest) = by (nat_lt b.last d.last) refl
    where
      by : (x : Bool) → nat_lt b.last d.last ≡ x → IsNearestBelow w (xs ++ ys) (cond x (Some d) (Some b))
      by true is =
          let less = ltb-true b.last d.last is in
          Below d (Contains-append_right xs ys d d_listed) d_low (λ t has under. elim (Contains-append_cases xs ys t has) [
            | inl left ↦ (let up = b_greatest t left under in omega (arith, up, less))
            | inr right ↦ d_greatest t right under
          ])
      by false off =
          let more = ltb-false b.last d.last off in
          Below b (Contains-append_left xs ys b b_listed) b_low (λ t has under. elim (Contains-append_cases xs ys t has) [
            | inl left ↦ b_greatest t left under
            | inr right ↦ (let up = d_greatest t right under in omega (arith, up, more))
          ])

  pub above_both : (xs ys : List Range) (o p : Option Range) → IsNearestAbove w xs o → IsNearestAbove w ys p → IsNearestAbove w (xs ++ ys) (beginning_sooner o p)
  above_both xs ys None None (NoneAbove under) (NoneAbove more) = NoneAbove (λ t has. elim (Contains-append_cases xs ys t has) [ inl left ↦ under t left | inr right ↦ more t right ])
  above_both xs ys None (Some _) (NoneAbove under) (Above d listed high least) =
      Above d (Contains-append_right xs ys d listed) high (λ t has over. elim (Contains-append_cases xs ys t has) [
        | inl left ↦ (let low = under t left in absurd (let no : ⊥ = omega (arith, low, over) in no))
        | inr right ↦ least t right over
      ])
  above_both xs ys (Some _) None (Above b listed high least) (NoneAbove under) =
      Above b (Contains-append_left xs ys b listed) high (λ t has over. elim (Contains-append_cases xs ys t has) [
        | inl left ↦ least t left over
        | inr right ↦ (let low = under t right in absurd (let no : ⊥ = omega (arith, low, over) in no))
      ])
  above_both xs ys (Some _) (Some _) (Above b b_listed b_high b_least) (Above d d_listed d_high d_least) = by (nat_lt d.first b.first) refl
    where
      by : (x : Bool) → nat_lt d.first b.first ≡ x → IsNearestAbove w (xs ++ ys) (cond x (Some d) (Some b))
      by true is =
          let less = ltb-true d.first b.first is in
          Above d (Contains-append_right xs ys d d_listed) d_high (λ t has over. elim (Contains-append_cases xs ys t has) [
            | inl left ↦ (let low = b_least t left over in omega (arith, low, less))
            | inr right ↦ d_least t right over
          ])
      by false off =
          let more = ltb-false d.first b.first off in
          Above b (Contains-append_left xs ys b b_listed) b_high (λ t has over. elim (Contains-append_cases xs ys t has) [
            | inl left ↦ b_least t left over
            | inr right ↦ (let low = d_least t right over in omega (arith, low, more))
          ])

  -- ---- the pieces of a range

  module _ (r : Range) where
    abbrev lower : Range
    lower = record { first = r.first; last = min r.last (w.first - 1) }

    abbrev upper : Range
    upper = record { first = max r.first (w.last + 1); last = r.last }

    one_of : (a t : Range) (x : Bool) → Contains (cond x (a ∷ []) []) t → (x ≡ true) × (a ≡ t)
    one_of a t true has = elim (in_cons_cases a [] t has) [ inl here ↦ (refl, here) | inr further ↦ absurd (in_nil t further) ]
    one_of a t false has = absurd (in_nil t has)

    of_lower : (t : Range) → Contains (before_window w r) t → (r.first < w.first) × (t.first ≡ r.first)
    of_lower t has =
        let one = one_of lower t (nat_lt r.first w.first) has in
        (ltb-true r.first w.first one.0, ap (λ (x : Range). x.first) (sym one.1))

    of_upper : (t : Range) → Contains (past_window w r) t → (w.last < r.last) × (t.first ≡ max r.first (w.last + 1))
    of_upper t has =
        let one = one_of upper t (nat_lt w.last r.last) has in
        (ltb-true w.last r.last one.0, ap (λ (x : Range). x.first) (sym one.1))

    pub below_pieces : w.first ≤ w.last → IsNearestBelow w (pieces w r) (part_before w r)
    below_pieces forward = by (nat_lt r.first w.first) refl
      where
        over : (t : Range) → Contains (past_window w r) t → w.last < t.first
        over t has = let at = (of_upper t has).1 in omega (arith, at)

        by : (x : Bool) → nat_lt r.first w.first ≡ x → IsNearestBelow w (cond x (lower ∷ []) [] ++ past_window w r) (cond x (Some lower) None)
        by true is =
            let less = ltb-true r.first w.first is in
            Below lower (in_head lower (past_window w r)) (omega (arith, less, forward)) (λ t has under. elim (in_cons_cases lower (past_window w r) t has) [
              | inl here ↦ (let same : lower.last ≡ t.last = ap (λ (x : Range). x.last) here in omega (arith, same))
              | inr later ↦ (let high = over t later in absurd (let no : ⊥ = omega (arith, high, under) in no))
            ])
        by false off = NoneBelow over

    pub above_pieces : w.first ≤ w.last → IsNearestAbove w (pieces w r) (part_behind w r)
    above_pieces forward = by (nat_lt w.last r.last) refl
      where
        under : (t : Range) → Contains (before_window w r) t → t.first ≤ w.last
        under t has = let of = of_lower t has in let less = of.0 in let at = of.1 in omega (arith, less, at, forward)

        by : (x : Bool) → nat_lt w.last r.last ≡ x → IsNearestAbove w (before_window w r ++ cond x (upper ∷ []) []) (cond x (Some upper) None)
        by true is =
            Above upper (Contains-append_right (before_window w r) (upper ∷ []) upper (in_head upper [])) (omega arith) (λ t has over. elim (Contains-append_cases (before_window w r) (upper ∷ []) t has) [
              | inl before ↦ (let low = under t before in absurd (let no : ⊥ = omega (arith, low, over) in no))
              | inr after ↦ elim (in_cons_cases upper [] t after) [
                | inl here ↦ (let same : upper.first ≡ t.first = ap (λ (x : Range). x.first) here in omega (arith, same))
                | inr further ↦ absurd (in_nil t further)
              ]
            ])
        by false off = NoneAbove (λ t has. elim (Contains-append_cases (before_window w r) [] t has) [ inl before ↦ under t before | inr further ↦ absurd (in_nil t further) ])

-- ---- a window among more and more

pub also_none : (w : Range) (a b : Among) → b ≡ a → IsAmongAlso w a b []
also_none w a b same = subst (λ x. IsAmongAlso w a x []) (sym same) record {
  window = refl;
  apart = λ is. is;
  below = λ forward beside near. near;
  above = λ forward beside near. near;
}

module _ (a b : Among) (r : CodeRange) where
  abbrev own : Range
  own = decoded_range_of a.window

  abbrev one : Range
  one = decoded_range_of r

  pub also_one : (before behind : Option CodeRange) → b.window ≡ a.window
      → option_map decoded_range_of before ≡ part_before own one
      → option_map decoded_range_of behind ≡ part_behind own one
      → option_map decoded_range_of b.before ≡ ending_later (option_map decoded_range_of before) (option_map decoded_range_of a.before)
      → option_map decoded_range_of b.behind ≡ beginning_sooner (option_map decoded_range_of behind) (option_map decoded_range_of a.behind)
      → (IfSome a.before (λ x. x.last < a.window.first) → IfSome b.before (λ x. x.last < a.window.first))
      → IsAmongAlso own a b (pieces own one)
  also_one before behind window before_is behind_is later sooner apart = record {
    window = window;
    apart = apart;
    below = λ forward beside near. subst (IsNearestBelow own (pieces own one ++ beside)) (sym (later ∙ ap (λ o. ending_later o (option_map decoded_range_of a.before)) before_is))
        (below_both own (pieces own one) beside (part_before own one) (option_map decoded_range_of a.before) (below_pieces own one forward) near);
    above = λ forward beside near. subst (IsNearestAbove own (pieces own one ++ beside)) (sym (sooner ∙ ap (λ o. beginning_sooner o (option_map decoded_range_of a.behind)) behind_is))
        (above_both own (pieces own one) beside (part_behind own one) (option_map decoded_range_of a.behind) (above_pieces own one forward) near);
  }

-- ranges come in any order
shuffled : (xs ys zs : List Range) → HaveSame (ys ++ (xs ++ zs)) ((xs ++ ys) ++ zs)
shuffled xs ys zs = record {
  to = λ t has. elim (Contains-append_cases ys (xs ++ zs) t has) [
    | inl second ↦ Contains-append_left (xs ++ ys) zs t (Contains-append_right xs ys t second)
    | inr rest ↦ elim (Contains-append_cases xs zs t rest) [
      | inl first ↦ Contains-append_left (xs ++ ys) zs t (Contains-append_left xs ys t first)
      | inr third ↦ Contains-append_right (xs ++ ys) zs t third
    ]
  ];
  back = λ t has. elim (Contains-append_cases (xs ++ ys) zs t has) [
    | inl two ↦ elim (Contains-append_cases xs ys t two) [
      | inl first ↦ Contains-append_right ys (xs ++ zs) t (Contains-append_left xs zs t first)
      | inr second ↦ Contains-append_left ys (xs ++ zs) t second
    ]
    | inr third ↦ Contains-append_right ys (xs ++ zs) t (Contains-append_right xs zs t third)
  ];
}

pub also_then : (w : Range) (a b c : Among) (ts us : List Range) → IsAmongAlso w a b ts → IsAmongAlso w b c us → IsAmongAlso w a c (ts ++ us)
also_then w a b c ts us first then = record {
  window = then.window ∙ first.window;
  apart = λ is. then.apart (first.apart is);
  below = λ forward beside near. below_same w (us ++ (ts ++ beside)) ((ts ++ us) ++ beside) (option_map decoded_range_of c.before) (shuffled ts us beside)
      (then.below forward (ts ++ beside) (first.below forward beside near));
  above = λ forward beside near. above_same w (us ++ (ts ++ beside)) ((ts ++ us) ++ beside) (option_map decoded_range_of c.behind) (shuffled ts us beside)
      (then.above forward (ts ++ beside) (first.above forward beside near));
}

pub apart_also : (a b : Among) (ts : List Range) → IsAmongAlso (decoded_range_of a.window) a b ts → IfSome a.before (λ r. r.last < a.window.first) → IfSome b.before (λ r. r.last < b.window.first)
apart_also a b ts also before = subst (λ (x : CodeRange). IfSome b.before (λ r. r.last < x.first)) (sym also.window) (also.apart before)

pub also_more : (f : Line → List Range) (a b c : Among) (lines : List Line) (n : ℕ) → n < length lines → (d : Line)
    → IsAmongAlso (decoded_range_of a.window) a b (flat_map f (take n lines)) → IsAmongAlso (decoded_range_of a.window) b c (f (get_or lines n d))
    → IsAmongAlso (decoded_range_of a.window) a c (flat_map f (take (n + 1) lines))
also_more f a b c lines n within d first then =
    subst (IsAmongAlso (decoded_range_of a.window) a c)
    (sym (ap (flat_map f) (take_at_read lines n d within).1 ∙ flat_map-append f (take n lines) (get_or lines n d ∷ []) ∙ ap (λ xs. flat_map f (take n lines) ++ xs) (append-nil (f (get_or lines n d)))))
    (also_then (decoded_range_of a.window) a b c (flat_map f (take n lines)) (f (get_or lines n d)) first then)
