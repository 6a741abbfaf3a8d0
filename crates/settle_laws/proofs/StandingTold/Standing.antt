-- Which told ranges stand is told by what stands before them.
use Rattle.std.proofs.Common.{◌≡◌, ℕ, zero, suc, ◌<◌, inl, inr, length, Bool, true, ◌&&◌, not, arith, sym, ◌∙◌, ap, refl}
use Rattle.std.specs.List.{Contains, list_all}
use Rattle.std.proofs.lemmas.Bool.{cases_Bool, and_parts}
use Rattle.pci_spec.specs.System.{System}
use Rattle.judge_spec.specs.ToldRegion.{ToldRegion, told_regions}
use Rattle.settle_spec.specs.FirstPlace.{ranges_are_apart}
use Rattle.settle_spec.specs.Lists.{Request}
use Rattle.settle_spec.specs.Parts.{system_parts}
use Rattle.settle_spec.specs.Lines.{line_bus, line_range, is_held_line, is_line_of}
use Rattle.settle_spec.specs.Stands.{stands, is_range_in_place, is_range_kept_off, takes_from_range, range_precedes, range_takes_from, range_stands_if, range_stands_within, range_stands}
use Rattle.settle_laws.specs.StandingTold.Standing.{AreRangesStanding}
use Rattle.settle_laws.proofs.Standing.{all_same}
use Rattle.settle_laws.proofs.StandingTold.Order.{ranges_before, ranges_fall, few_ranges}

module _ (q : Request) (s : System) where
  range_step : (others : ℕ) (x : ToldRegion) → range_stands_within q s (suc others) x ≡ range_stands_if q s (range_stands_within q s others) x
  unfolding range_stands_within
  range_step others x = refl

  -- the three sides of what takes an address
  pub record RangeTakes (y x : ToldRegion) : Type 0 where
    pub beside : is_line_of q y.told.space (line_bus y) x ≡ true
    pub before : range_precedes q s y x ≡ true
    pub shares : not (ranges_are_apart (line_range y) (line_range x)) ≡ true

  pub range_taking : (y x : ToldRegion) → range_takes_from q s y x ≡ true → RangeTakes y x
  range_taking y x takes =
      let two = and_parts (is_line_of q y.told.space (line_bus y) x && range_precedes q s y x) (not (ranges_are_apart (line_range y) (line_range x))) takes in
      let one = and_parts (is_line_of q y.told.space (line_bus y) x) (range_precedes q s y x) two.0 in
      record { beside = one.0; before = one.1; shares = two.1 }

  -- tests that agree on what comes before a range tell the same of it
  pub range_by_asked : (test other : ToldRegion → Bool) (x : ToldRegion)
      → ((y : ToldRegion) → Contains (told_regions q.told) y → range_precedes q s y x ≡ true → test y ≡ other y)
      → range_stands_if q s test x ≡ range_stands_if q s other x
  range_by_asked test other x agree =
      ap (λ b. not (is_held_line x) && is_range_in_place q s (stands q s) x && not (is_range_kept_off q x)
      && list_all (λ r. not (takes_from_range q s r x && stands q s r)) (system_parts q s) && b)
      (all_same (λ y. not (range_takes_from q s y x && test y)) (λ y. not (range_takes_from q s y x && other y)) (told_regions q.told)
      (λ y is_told. elim (cases_Bool (range_takes_from q s y x)) [
        | inl takes ↦ ap (λ b. not (range_takes_from q s y x && b)) (agree y is_told (range_taking y x takes).before)
        | inr off ↦ ap (λ b. not (b && test y)) off ∙ sym (ap (λ b. not (b && other y)) off)
      ]))

  abbrev place : ToldRegion → ℕ
  place x = ranges_before q s (told_regions q.told) x

  enough : (d e : ℕ) (x : ToldRegion) → Contains (told_regions q.told) x → place x < d → place x < e → range_stands_within q s d x ≡ range_stands_within q s e x
  enough zero e x is_told hd he = absurd (let no : ⊥ = omega (arith, hd) in no)
  enough (suc d) zero x is_told hd he = absurd (let no : ⊥ = omega (arith, he) in no)
  enough (suc d) (suc e) x is_told hd he =
      range_step d x
      ∙ range_by_asked (range_stands_within q s d) (range_stands_within q s e) x
      (λ y listed first.
      let less = ranges_fall q s (told_regions q.told) y x listed first in
      enough d e y listed (omega (arith, less, hd)) (omega (arith, less, he)))
      ∙ sym (range_step e x)

  pub range_stands_is : (x : ToldRegion) → Contains (told_regions q.told) x → range_stands q s x ≡ range_stands_if q s (range_stands q s) x
  range_stands_is x is_told =
      let all = length (told_regions q.told) in
      let low = few_ranges q s (told_regions q.told) x is_told in
      enough all (suc all) x is_told low (omega (arith, low)) ∙ range_step all x

  module _ (test : ToldRegion → Bool) (standing : AreRangesStanding q s test) where
    as_within : (d : ℕ) (x : ToldRegion) → Contains (told_regions q.told) x → place x < d → test x ≡ range_stands_within q s d x
    as_within zero x is_told low = absurd (let no : ⊥ = omega (arith, low) in no)
    as_within (suc d) x is_told low =
        standing x is_told
        ∙ range_by_asked test (range_stands_within q s d) x
        (λ y listed first. let less = ranges_fall q s (told_regions q.told) y x listed first in as_within d y listed (omega (arith, less, low)))
        ∙ sym (range_step d x)

    pub ranges_stand_alone : (x : ToldRegion) → Contains (told_regions q.told) x → test x ≡ range_stands q s x
    ranges_stand_alone x is_told = as_within (length (told_regions q.told)) x is_told (few_ranges q s (told_regions q.told) x is_told)
