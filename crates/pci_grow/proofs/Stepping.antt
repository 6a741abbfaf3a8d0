-- What is told of what is there, part by part and row by row.
use Rattle.std.proofs.Common.{◌≡◌, ℕ, ◌+◌, ◌*◌, ◌<◌, ◌≤◌, ◌⊎◌, inl, inr, List, length, get_or, true, false, arith, refl, ap, sym, subst, ◌∙◌, Option, None}
use Rattle.std.specs.Bool.{if◌then◌else◌}
use Rattle.std.specs.List.{Contains}
use Rattle.std.proofs.lemmas.Bool.{cases_Bool, both_ways}
use Rattle.pci_spec.specs.Window.{WindowKind}
use Rattle.pci_spec.specs.Decoded.{Range as DecodedRange}
use Rattle.pci_spec.specs.System.{System, Function, Part, Bar, Rom, Window, IsSystem}
use Rattle.pci_spec.specs.Bus.{is_root, IsNested}
use Rattle.settle_spec.specs.Lists.{Request}
use Rattle.settle_spec.specs.Parts.{FunctionPart, system_parts, header_parts}
use Rattle.settle_spec.specs.Stands.{part_space, window_part, stands}
use Rattle.settle_spec.specs.Growth.{is_clear, taken_around, window_comes_to, part_comes_to, there, comes_to, takes_growth}
use Rattle.settle_spec.specs.Kept.{address_of_placed}
use Rattle.settle_spec.specs.Places.{placed_of, place_among}
use Rattle.settle_laws.specs.Order.{level}
use Rattle.settle_laws.specs.There.{height}
use Rattle.settle_laws.proofs.Standing.{part_of, in_parts, stands_by_itself, window_listed}
use Rattle.settle_laws.proofs.ThereByBus.{part_same}
use Rattle.settle_laws.proofs.ThereAlone.{unstanding}
use Rattle.pci_kept.specs.declared.region.Region.{Region}
use Rattle.pci_kept.specs.Known.{region_value}
use Rattle.pci_grow.specs.There.{Tables, in_row, there_told}
use Rattle.pci_grow.specs.Telling.{AreStandingRows, part_row_number, IsDone, grown_there, range_as_it_stands, place_there, IsToldAs, AreToldWhere, AreToldFrom, AreToldTo, AreThere}
use Rattle.pci_grow.proofs.Clearing.{step}
use Rattle.pci_grow.proofs.InRows.{v_listed, v_stands, v_row, not_done, done_cases, done_keeps, all_done, done_up}
use Rattle.pci_grow.proofs.Told.{level_root, level_off, row_low, row_high}

pub told_as : (s : System) (t : Tables) (r : FunctionPart) (g h x y : Option DecodedRange) → g ≡ h → x ≡ y → IsToldAs s t r g x → IsToldAs s t r h y
told_as s t r g h x y e f is = record { grown_is = is.grown_is ∙ e; there_is = is.there_is ∙ f }

module _ (q : Request) (s : System) (system : IsSystem s) (nested : IsNested q.roots s) where
  -- what doesn't stand comes to nothing
  comes_none : (f : Function) (p : Part) → stands q s (record { function = f; part = p }) ≡ false → part_comes_to q s (there q s) f p ≡ None
  comes_none f (Bar n) off = refl
  comes_none f Rom off = refl
  comes_none f (Window c) off = ap (λ b. if b then window_comes_to q s (there q s) c f else None) off

  pub takes_none : (r : FunctionPart) → comes_to q s r ≡ None → takes_growth q s r ≡ false
  takes_none r none = ap (is_clear q s (there q s) r) none

  pub takes_off : (r : FunctionPart) → stands q s r ≡ false → takes_growth q s r ≡ false
  takes_off r off = takes_none r (comes_none r.function r.part off)

  pub grown_off : (r : FunctionPart) → takes_growth q s r ≡ false → grown_there q s r ≡ None
  grown_off r off = ap (λ b. if b then comes_to q s r else None) off

  pub there_off : (r : FunctionPart) → Contains (system_parts q s) r → takes_growth q s r ≡ false → there q s r ≡ range_as_it_stands q s r
  there_off r listed off = step q s system nested r listed ∙ ap (λ b. if b then comes_to q s r else range_as_it_stands q s r) off

  pub place_off : (c : WindowKind) (b : Function) (r : FunctionPart) → takes_growth q s (window_part c b) ≡ false → place_there q s c b r ≡ None
  place_off c b r off = ap (λ x. if x then address_of_placed (place_among r (placed_of (taken_around q s (there q s) c b))) else None) off

  -- ---- the same by another test of what is done

  pub told_same : (done other : FunctionPart → Type 0) → ((r : FunctionPart) → Contains (system_parts q s) r → stands q s r ≡ true → done r → other r)
      → ((r : FunctionPart) → Contains (system_parts q s) r → stands q s r ≡ true → other r → done r) → (t : Tables) → AreToldWhere q s done t → AreToldWhere q s other t
  told_same done other to back t are = record {
    kept = are.kept;
    grown = are.grown;
    places = are.places;
    off = are.off;
    each = λ r listed stand is. are.each r listed stand (back r listed stand is);
    rest = λ r listed stand never. are.rest r listed stand (λ is. never (to r listed stand is));
    keeps = are.keeps;
    around = λ c b r listed stand under is. are.around c b r listed stand under (back (window_part c b) (part c b listed stand) stand is);
    unplaced = λ c b r listed under never. are.unplaced c b r listed under (λ stand is. never stand (to (window_part c b) (part c b listed stand) stand is));
  }
    where
      part : (c : WindowKind) (b : Function) → Contains s b → stands q s (window_part c b) ≡ true → Contains (system_parts q s) (window_part c b)
      part c b listed stand = window_listed q s c b listed ((stands_by_itself q s nested).only (window_part c b) listed stand)

  -- where all are done
  pub told_all : (t : Tables) → AreToldFrom q s 0 t → AreThere q s t
  told_all t are = record {
    kept = are.kept;
    grown = are.grown;
    places = are.places;
    each = λ r listed. elim (cases_Bool (stands q s r)) [
      | inl stand ↦ are.each r listed stand (omega arith)
      | inr off ↦
          let of = part_of q s r listed in
          told_as s t r None (grown_there q s r) None (there q s r) (sym (grown_off r (takes_off r off))) (sym (unstanding q s system nested r of.listed off))
          (are.off r of.listed of.there off)
    ];
    off = are.off;
    around = λ c b r listed under. elim (cases_Bool (stands q s (window_part c b))) [
      | inl stand ↦ are.around c b r listed stand under (omega arith)
      | inr off ↦
          are.unplaced c b r listed under (λ stand is. both_ways (stands q s (window_part c b)) off stand)
          ∙ sym (place_off c b r (takes_off (window_part c b) off))
    ];
  }

  -- ---- one part

  module _ (rows : List Region) (are : AreStandingRows q s rows) (number i : ℕ) (r : Region) (within : i < length (in_row number rows)) (at : get_or (in_row number rows) i r ≡ r)
      (t : Tables) (was : AreToldTo q s rows number i t) where
    abbrev v : FunctionPart
    v = region_value s r

    listed_v : Contains (system_parts q s) v
    listed_v = v_listed q s system nested rows are number i r within at

    stand_v : stands q s v ≡ true
    stand_v = v_stands q s system nested rows are number i r within at

    pub before_it : IsToldAs s t v None (range_as_it_stands q s v)
    before_it = was.rest v listed_v stand_v (not_done q s system nested rows are number i r within at)

    -- a part that takes nothing is there as it stands
    pub stays_told : takes_growth q s v ≡ false → AreToldTo q s rows number (i + 1) t
    stays_told off = record {
      kept = was.kept;
      grown = was.grown;
      places = was.places;
      off = was.off;
      each = λ u listed stand is. elim (done_cases q s system nested rows are number i r within at u is) [
        | inl same ↦
            subst (λ x. IsToldAs s t x (grown_there q s x) (there q s x)) same
            (told_as s t v None (grown_there q s v) (range_as_it_stands q s v) (there q s v) (sym (grown_off v off)) (sym (there_off v listed_v off)) before_it)
        | inr old ↦ was.each u listed stand old
      ];
      rest = λ u listed stand never. was.rest u listed stand (λ old. never (done_keeps q s system nested rows are number i r within at u old));
      keeps = was.keeps;
      around = λ c b u listed stand under is. elim (done_cases q s system nested rows are number i r within at (window_part c b) is) [
        | inl same ↦
            was.unplaced c b u listed under (λ stand old. not_done q s system nested rows are number i r within at (subst (IsDone q s rows number i) (sym same) old))
            ∙ sym (place_off c b u (sym (ap (takes_growth q s) same) ∙ off))
        | inr old ↦ was.around c b u listed stand under old
      ];
      unplaced = λ c b u listed under never. was.unplaced c b u listed under (λ stand old. never stand (done_keeps q s system nested rows are number i r within at (window_part c b) old));
    }

    -- ---- what is told of the bus behind and of what comes before

    height_rises : (f g : Function) → height q f.slot.bus < height q g.slot.bus → 2 * level q f.slot.bus + 2 ≤ 2 * level q g.slot.bus
    height_rises f g up = by (cases_Bool (is_root q.roots f.slot.bus)) (cases_Bool (is_root q.roots g.slot.bus))
      where
        zero_at : (h : Function) → is_root q.roots h.slot.bus ≡ true → height q h.slot.bus ≡ 0
        zero_at h root = ap (λ b. if b then 0 else h.slot.bus) root

        bus_at : (h : Function) → is_root q.roots h.slot.bus ≡ false → height q h.slot.bus ≡ h.slot.bus
        bus_at h off = ap (λ b. if b then 0 else h.slot.bus) off

        by : (is_root q.roots f.slot.bus ≡ true) ⊎ (is_root q.roots f.slot.bus ≡ false) → (is_root q.roots g.slot.bus ≡ true) ⊎ (is_root q.roots g.slot.bus ≡ false) → 2 * level q f.slot.bus + 2 ≤ 2 * level q g.slot.bus
        by (inl a) (inl b) = absurd (let x = zero_at g b in let no : ⊥ = omega (arith, up, x) in no)
        by (inl a) (inr b) = let x = level_root q f.slot.bus a in let y = level_off q g.slot.bus b in omega (arith, x, y)
        by (inr a) (inl b) = absurd (let x = zero_at g b in let no : ⊥ = omega (arith, up, x) in no)
        by (inr a) (inr b) =
            let x = bus_at f a in
            let y = bus_at g b in
            let z = level_off q f.slot.bus a in
            let w = level_off q g.slot.bus b in
            omega (arith, up, x, y, z, w)

    -- what is told of higher buses is there
    pub higher_told : (u : FunctionPart) → Contains s u.function → Contains (header_parts u.function) u.part → height q v.function.slot.bus < height q u.function.slot.bus → there_told s t u ≡ there q s u
    higher_told u listed header up = elim (cases_Bool (stands q s u)) [
      | inl stand ↦
          let rises = height_rises v.function u.function up in
          let low = row_low (level q u.function.slot.bus) (part_space u) in
          let high = row_high (level q v.function.slot.bus) (part_space v) in
          let here = v_row q s system nested rows are number i r within at in
          (was.each u (in_parts q s u listed header ((stands_by_itself q s nested).only u listed stand)) stand (inl (omega (arith, rises, low, high, here)))).there_is
      | inr off ↦ (was.off u listed header off).there_is ∙ sym (unstanding q s system nested u listed off)
    ]

    -- so what it comes to by what is told is what it comes to
    pub comes_same : part_comes_to q s (there_told s t) v.function v.part ≡ comes_to q s v
    comes_same = part_same q s system nested (there_told s t) (there q s) v.function v.part (part_of q s v listed_v).listed higher_told

  -- ---- rows

  module _ (rows : List Region) (are : AreStandingRows q s rows) where
    -- before the first part of a row those behind it are done
    pub row_begins : (number : ℕ) (t : Tables) → AreToldFrom q s (number + 1) t → AreToldTo q s rows number 0 t
    row_begins number t told =
        told_same (λ r. number + 1 ≤ part_row_number q r) (IsDone q s rows number 0) (λ r listed stand is. inl (omega (arith, is)))
        (λ r listed stand is. by r is) t told
      where
        by : (r : FunctionPart) → IsDone q s rows number 0 r → number + 1 ≤ part_row_number q r
        by r (inl less) = omega (arith, less)
        by r (inr (k, inside, here)) = absurd (let no : ⊥ = omega (arith, inside) in no)

    -- and after the last part the row is
    pub row_ends : (number i : ℕ) (t : Tables) → length (in_row number rows) ≤ i → AreToldTo q s rows number i t → AreToldFrom q s number t
    row_ends number i t past told =
        told_same (IsDone q s rows number i) (λ r. number ≤ part_row_number q r) (λ r listed stand is. done_up q s system nested rows are number i r is)
        (λ r listed stand is. all_done q s system nested rows are number i past r listed stand is) t told
