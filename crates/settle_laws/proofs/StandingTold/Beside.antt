-- Told ranges that stand are apart from each other, and from parts that stand.
use Rattle.std.proofs.Common.{◌≡◌, ◌≢◌, inl, inr, Bool, true, false, ◌&&◌, not, sym, ◌∙◌, ap, refl}
use Rattle.std.specs.Bool.{nat_lt}
use Rattle.std.specs.List.{Contains, list_all}
use Rattle.std.proofs.lemmas.Bool.{cases_Bool, and_parts, and_from, both_ways, not-true, not_from_true, not_from_false, false_from_ne_true}
use Rattle.pci_spec.specs.Slot.{same_slot}
use Rattle.pci_spec.specs.Decoded.{Range}
use Rattle.pci_spec.specs.Bus.{are_siblings}
use Rattle.pci_spec.specs.System.{System}
use Rattle.pci_spec.proofs.BusRanges.{all_gives}
use Rattle.judge_spec.specs.ToldRegion.{ToldRegion, told_regions}
use Rattle.settle_spec.specs.FirstPlace.{ranges_are_apart}
use Rattle.settle_spec.specs.Lists.{Request}
use Rattle.settle_spec.specs.Parts.{FunctionPart, system_parts, addresses, are_same_space}
use Rattle.settle_spec.specs.Lines.{line_bus, line_range, is_held_line, is_line_of, keeps_off_part}
use Rattle.settle_spec.specs.Stands.{part_space, is_line_on, precedes_off, part_precedes_range, stands, is_range_in_place, is_range_kept_off, takes_from_range, range_precedes, range_takes_from, range_stands_if, range_stands}
use Rattle.settle_spec.proofs.ToldStanding.{stands_off_lines}
use Rattle.settle_laws.specs.StandingTold.Standing.{shares_with_line, range_stands_beside, SharesWithOff}
use Rattle.settle_laws.proofs.Apart.{siblings_back, space_back, or_swap}
use Rattle.settle_laws.proofs.Standing.{all_same}
use Rattle.settle_laws.proofs.StandingTold.Order.{range_else}
use Rattle.settle_laws.proofs.StandingTold.Standing.{range_stands_is}

pub apart_back : (a b : Range) → ranges_are_apart a b ≡ ranges_are_apart b a
apart_back a b = or_swap (nat_lt a.last b.first) (nat_lt b.last a.first)

and_nothing : (b : Bool) → (b && false) ≡ false
and_nothing true = refl
and_nothing false = refl

same_takes : (line first shares : Bool) → ((line && shares) ≡ true → first ≡ true) → (line && first && shares) ≡ (line && shares)
same_takes false first shares h = refl
same_takes true first true h = ap (λ b. b && true) (h refl)
same_takes true first false h = and_nothing first

same_asked : (held place off all other rest : Bool) → (held ≡ false → all ≡ other) → (not held && place && off && all && rest) ≡ (not held && place && off && other && rest)
same_asked true place off all other rest same = refl
same_asked false place off all other rest same = ap (λ b. place && off && b && rest) (same refl)

module _ (q : Request) where
  pub line_back : (x y : ToldRegion) → is_line_of q x.told.space (line_bus x) y ≡ true → is_line_of q y.told.space (line_bus y) x ≡ true
  line_back x y beside =
      let parts = and_parts (are_siblings q.roots (line_bus x) (line_bus y)) (are_same_space x.told.space y.told.space) beside in
      and_from (are_siblings q.roots (line_bus y) (line_bus x)) (are_same_space y.told.space x.told.space)
      (siblings_back q.roots (line_bus x) (line_bus y) parts.0) (space_back x.told.space y.told.space parts.1)

  -- a told range keeps off what shares an address with it
  pub keeps_off_sharing : (r : FunctionPart) (x : ToldRegion) → is_held_line x ≡ false → shares_with_line q r x ≡ true → keeps_off_part q x r ≡ true
  keeps_off_sharing r x told shares =
      let line = is_line_of q (part_space r) r.function.slot.bus x in
      let own = is_held_line x && same_slot x.told.slot r.function.slot in
      let parts = and_parts line (not (ranges_are_apart (addresses r) (line_range x))) shares in
      and_from (line && not own) (not (ranges_are_apart (line_range x) (addresses r)))
      (and_from line (not own) parts.0 (not_from_false own (ap (λ b. b && same_slot x.told.slot r.function.slot) told)))
      (ap not (apart_back (line_range x) (addresses r)) ∙ parts.1)

module _ (q : Request) (s : System) where
  record ComesFirst (r : FunctionPart) (x : ToldRegion) : Type 0 where
    off : is_line_on q s x ≡ false
    first : precedes_off q s r ≡ true
    before : part_precedes_range q s r x ≡ true

  -- a part that stands where a told range is comes before it
  comes_first : (r : FunctionPart) (x : ToldRegion) → Contains (told_regions q.told) x → stands q s r ≡ true → is_held_line x ≡ false → shares_with_line q r x ≡ true → ComesFirst r x
  comes_first r x is_told stand told shares =
      let off = stands_off_lines q s r x stand is_told (keeps_off_sharing q r x told shares) in
      record {
        off = off.0;
        first = off.1;
        before = and_from (not (is_line_on q s x)) (precedes_off q s r) (not_from_false (is_line_on q s x) off.0) off.1;
      }

  takes_alike : (r : FunctionPart) (x : ToldRegion) → Contains (told_regions q.told) x → is_held_line x ≡ false
      → not (takes_from_range q s r x && stands q s r) ≡ not (shares_with_line q r x && stands q s r)
  takes_alike r x is_told told = elim (cases_Bool (stands q s r)) [
    | inl stand ↦
        ap (λ b. not (b && stands q s r)) (same_takes (is_line_of q (part_space r) r.function.slot.bus x) (part_precedes_range q s r x) (not (ranges_are_apart (addresses r) (line_range x)))
        (λ shares. (comes_first r x is_told stand told shares).before))
    | inr off ↦
        ap (λ b. not (takes_from_range q s r x && b)) off ∙ ap not (and_nothing (takes_from_range q s r x))
        ∙ sym (ap (λ b. not (shares_with_line q r x && b)) off ∙ ap not (and_nothing (shares_with_line q r x)))
  ]

  pub ranges_stand_beside_all : (before : ToldRegion → Bool) (x : ToldRegion) → Contains (told_regions q.told) x → range_stands_if q s before x ≡ range_stands_beside q s before x
  ranges_stand_beside_all before x is_told =
      same_asked (is_held_line x) (is_range_in_place q s (stands q s) x) (not (is_range_kept_off q x))
      (list_all (λ r. not (takes_from_range q s r x && stands q s r)) (system_parts q s))
      (list_all (λ r. not (shares_with_line q r x && stands q s r)) (system_parts q s))
      (list_all (λ y. not (range_takes_from q s y x && before y)) (told_regions q.told))
      (λ told. all_same (λ r. not (takes_from_range q s r x && stands q s r)) (λ r. not (shares_with_line q r x && stands q s r)) (system_parts q s)
      (λ r listed. takes_alike r x is_told told))

  -- the sides of a told range that stands
  pub record RangeSides (x : ToldRegion) : Type 0 where
    pub told : is_held_line x ≡ false
    pub place : is_range_in_place q s (stands q s) x ≡ true
    pub off_held : is_range_kept_off q x ≡ false
    pub parts : list_all (λ r. not (shares_with_line q r x && stands q s r)) (system_parts q s) ≡ true
    pub ranges : list_all (λ y. not (range_takes_from q s y x && range_stands q s y)) (told_regions q.told) ≡ true

  pub range_sides : (x : ToldRegion) → Contains (told_regions q.told) x → range_stands q s x ≡ true → RangeSides x
  range_sides x is_told stand =
      let told = not (is_held_line x) in
      let place = is_range_in_place q s (stands q s) x in
      let off = not (is_range_kept_off q x) in
      let parts = list_all (λ r. not (shares_with_line q r x && stands q s r)) (system_parts q s) in
      let ranges = list_all (λ y. not (range_takes_from q s y x && range_stands q s y)) (told_regions q.told) in
      let four = and_parts (told && place && off && parts) ranges
      (sym (range_stands_is q s x is_told ∙ ranges_stand_beside_all (range_stands q s) x is_told) ∙ stand) in
      let three = and_parts (told && place && off) parts four.0 in
      let two = and_parts (told && place) off three.0 in
      let one = and_parts told place two.0 in
      record {
        told = not-true (is_held_line x) one.0;
        place = one.1;
        off_held = not-true (is_range_kept_off q x) two.1;
        parts = three.1;
        ranges = four.1;
      }

  -- ---- apart

  apart_from_earlier : (y x : ToldRegion) → Contains (told_regions q.told) y → Contains (told_regions q.told) x → range_stands q s y ≡ true → range_stands q s x ≡ true
      → is_line_of q y.told.space (line_bus y) x ≡ true → range_precedes q s y x ≡ true → ranges_are_apart (line_range y) (line_range x) ≡ true
  apart_from_earlier y x in_y in_x stand_y stand_x beside before = elim (cases_Bool (ranges_are_apart (line_range y) (line_range x))) [
    | inl fine ↦ fine
    | inr shares ↦
        let line = is_line_of q y.told.space (line_bus y) x in
        let takes = and_from (line && range_precedes q s y x) (not (ranges_are_apart (line_range y) (line_range x)))
        (and_from line (range_precedes q s y x) beside before) (not_from_false (ranges_are_apart (line_range y) (line_range x)) shares) in
        absurd (both_ways (not (range_takes_from q s y x && range_stands q s y))
        (not_from_true (range_takes_from q s y x && range_stands q s y) (and_from (range_takes_from q s y x) (range_stands q s y) takes stand_y))
        (all_gives (λ z. not (range_takes_from q s z x && range_stands q s z)) (told_regions q.told) (range_sides x in_x stand_x).ranges y in_y))
  ]

  pub ranges_apart : (x y : ToldRegion) → Contains (told_regions q.told) x → Contains (told_regions q.told) y → range_stands q s x ≡ true → range_stands q s y ≡ true
      → is_line_of q x.told.space (line_bus x) y ≡ true → x.register ≢ y.register → ranges_are_apart (line_range x) (line_range y) ≡ true
  ranges_apart x y in_x in_y stand_x stand_y beside differ = elim (cases_Bool (range_precedes q s x y)) [
    | inl before ↦ apart_from_earlier x y in_x in_y stand_x stand_y beside before
    | inr later ↦
        apart_back (line_range x) (line_range y)
        ∙ apart_from_earlier y x in_y in_x stand_y stand_x (line_back q x y beside) (range_else q s x y differ later)
  ]

  -- no part that stands shares an address with a told range that does
  not_both : (r : FunctionPart) (x : ToldRegion) → Contains (system_parts q s) r → Contains (told_regions q.told) x → stands q s r ≡ true → range_stands q s x ≡ true → shares_with_line q r x ≡ true → ⊥
  not_both r x listed is_told stand range shares =
      both_ways (not (shares_with_line q r x && stands q s r))
      (not_from_true (shares_with_line q r x && stands q s r) (and_from (shares_with_line q r x) (stands q s r) shares stand))
      (all_gives (λ t. not (shares_with_line q t x && stands q s t)) (system_parts q s) (range_sides x is_told range).parts r listed)

  pub ranges_off_parts : (r : FunctionPart) (x : ToldRegion) → Contains (system_parts q s) r → Contains (told_regions q.told) x → stands q s r ≡ true → range_stands q s x ≡ true
      → is_line_of q (part_space r) r.function.slot.bus x ≡ true → ranges_are_apart (addresses r) (line_range x) ≡ true
  ranges_off_parts r x listed is_told stand range beside = elim (cases_Bool (ranges_are_apart (addresses r) (line_range x))) [
    | inl fine ↦ fine
    | inr shares ↦ absurd (not_both r x listed is_told stand range
        (and_from (is_line_of q (part_space r) r.function.slot.bus x) (not (ranges_are_apart (addresses r) (line_range x))) beside (not_from_false (ranges_are_apart (addresses r) (line_range x)) shares)))
  ]

  pub parts_share_with_off : (r : FunctionPart) (x : ToldRegion) → Contains (system_parts q s) r → Contains (told_regions q.told) x → stands q s r ≡ true → is_held_line x ≡ false → shares_with_line q r x ≡ true → SharesWithOff q s r x
  parts_share_with_off r x listed is_told stand told shares =
      let first = comes_first r x is_told stand told shares in
      record {
        off = first.off;
        first = first.first;
        stands_not = false_from_ne_true (range_stands q s x) (λ range. not_both r x listed is_told stand range shares);
      }
