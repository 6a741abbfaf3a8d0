-- What is out of place stands beside what is in place.
use Rattle.std.proofs.Common.{◌≡◌, ◌≤◌, ◌<◌, ◌+◌, ◌-◌, ◌*◌, ◌/◌, ◌^◌, ◌==◌, if◌then◌else◌, ℕ, zero, suc, List, [], ◌++◌, length, take, drop, min, refl, sym, ap, ap₂, subst, ◌∙◌, arith}
use Rattle.pci_picture.specs.Columns.{HasColumnsOf, deepest, width_of_lost}
use Rattle.pci_picture.specs.Headings.{Headed}
use Rattle.std.specs.List.{Contains}
use Rattle.std.proofs.Math.Nat.{le-div_iff_mul-le}
use Rattle.std.proofs.lemmas.List.{drop_min, take_min}
use Rattle.std.proofs.lemmas.List.Elements.{All-contains}
use Rattle.pci_picture.specs.Lanes.{IsIndented, StandsBetween}
use Rattle.pci_picture.specs.Sides.{AddsWidths, AreSides, HasSides, StandBeside, StandBesideIn, widths_placed}
use Rattle.pci_picture.specs.declared.lanes.Width.{Width}
use Rattle.pci_picture.specs.declared.plan.Placed.{Placed}
use Rattle.pci_picture.specs.declared.plan.Site.{Site}
use Rattle.pci_picture.specs.declared.region.Region.{Region}

none_there : (lost : List Region) (widths : List Width) (one : Width) → length widths ≡ length lost → Contains widths one → 0 < length lost
none_there lost widths one long (k, lt, is) = omega (arith, long, lt)

stand_beside : (site : Site) (inside lost : List Region) (left split beside edge : ℕ) (none some all : List Width) → none ≡ []
    → AddsWidths left split site.column inside none some → AddsWidths beside edge site.column lost some all
    → (HasSides site → AreSides site lost left split beside edge) → StandBeside site inside lost all
stand_beside site inside lost left split beside edge none some all empty first second is = record {
  inner = first.more;
  outer = second.more;
  joined = second.added ∙ ap (λ l. l ++ second.more) (first.added ∙ ap (λ l. l ++ first.more) empty);
  left = left;
  split = split;
  beside = beside;
  edge = edge;
  sides = is;
  in_place = first.are;
  out_of_place = second.are;
  behind = λ sides one other here there.
      let ends = is sides in
      let some_lost : 0 < length lost = none_there lost second.more other (second.are).count there in
      let row : left ≤ split = omega (arith, ends.from, ends.upto, ends.less some_lost, sides.wide) in
      let room : beside ≤ edge = omega (arith, ends.less some_lost, ends.behind) in
      let low : StandsBetween left split one = All-contains (StandsBetween left split) first.more one ((first.are).between row) here in
      let high : StandsBetween beside edge other = All-contains (StandsBetween beside edge) second.more other ((second.are).between room) there in
      omega (arith, low.inner, low.within, low.upto, high.from, ends.behind);
}

pub placed_beside : (site : Site) (regions front back : List Region) (index n left split beside edge : ℕ) (none some all : List Placed)
    → n ≡ min index (length regions) → front ≡ take n regions → back ≡ drop n regions → none ≡ []
    → (IsIndented front → AddsWidths left split site.column front (widths_placed none) (widths_placed some))
    → (IsIndented back → AddsWidths beside edge site.column back (widths_placed some) (widths_placed all))
    → (HasSides site → AreSides site back left split beside edge) → StandBesideIn site index regions (widths_placed all)
placed_beside site regions front back index n left split beside edge none some all is_n is_front is_back empty first second is indented =
    let in_place : front ≡ take index regions = is_front ∙ ap (λ k. take k regions) is_n ∙ take_min index regions in
    let out : back ≡ drop index regions = is_back ∙ ap (λ k. drop k regions) is_n ∙ drop_min index regions in
    subst (λ l. StandBeside site l (drop index regions) (widths_placed all)) in_place
    (subst (λ l. StandBeside site front l (widths_placed all)) out
    (stand_beside site front back left split beside edge (widths_placed none) (widths_placed some) (widths_placed all)
    (ap widths_placed empty)
    (first (subst IsIndented (sym in_place) indented.inside)) (second (subst IsIndented (sym out) indented.lost)) is))

-- ---- the room of a section

-- all columns together are at most as wide as ten of 126 units
pub columns_of_none : (column behind : ℕ) → behind ≡ 0 → column * behind ≤ 1260
columns_of_none column behind none = subst (λ (n : ℕ). column * n ≤ 1260) (sym none) (let e : column * 0 ≡ 0 = omega arith in omega (arith, e))

not_zero : (n : ℕ) → (n ≡ 0 → ⊥) → 0 < n
not_zero zero some = absurd (some refl)
not_zero (suc n) some = omega arith

pub columns_of_some : (column behind : ℕ) → (behind ≡ 0 → ⊥) → column ≡ min 126 (1260 / behind) → column * behind ≤ 1260
columns_of_some column behind some is =
    (le-div_iff_mul-le {k = behind} {x = column} {y = 1260} (omega (arith, not_zero behind some))).0 (omega (arith, is))

pub has_columns : (regions : List Headed) (site : Site) (behind lost product : ℕ) → site.x ≡ 436 → behind ≡ deepest regions - 1 → lost ≡ width_of_lost regions
    → site.column ≡ (if behind == 0 then 126 else min 126 (1260 / behind)) → site.column * behind ≤ 1260 → lost ≤ 240
    → product ≡ min (site.column * behind) (2 ^ 64 - 1) → site.width ≡ min (product + (330 + lost)) (2 ^ 64 - 1) → HasColumnsOf regions site
has_columns regions site behind lost product left behind_is lost_is column few low product_is width_is = record {
  x_is = left;
  column_is = column ∙ ap (λ n. if n == 0 then 126 else min 126 (1260 / n)) behind_is;
  width_is =
      (let sum : site.width ≡ site.column * behind + 330 + lost = omega (arith, few, low, product_is, width_is) in
      sum ∙ ap₂ (λ n l. site.column * n + 330 + l) behind_is lost_is);
}

pub has_room : (site : Site) (columns lost product : ℕ) → site.x ≡ 436 → columns ≤ 1260 → lost ≤ 240 → product ≡ min columns (2 ^ 64 - 1)
    → site.width ≡ min (product + (330 + lost)) (2 ^ 64 - 1) → HasSides site
has_room site columns lost product left few low product_is width_is = record {
  wide = omega (arith, product_is, width_is);
  uncut = omega (arith, left, few, low, product_is, width_is);
}
