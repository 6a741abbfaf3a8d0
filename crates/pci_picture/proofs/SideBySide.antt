-- Lanes stand side by side.
use Rattle.std.proofs.Common.{arith, ℕ, Bool, ◌≡◌, ◌≢◌, ◌+◌, ◌*◌, ◌-◌, ◌/◌, ◌<◌, ◌≤◌, List, [], ◌∷◌, ◌++◌, length, Option, None, Some, max, mul-le-mul_left, div-mul-le_self, add-mul, mul-suc, le_of_mul-le-mul_right, subst, sym, ap, refl, ◌∙◌, inl, inr}
use native.Mathlib.Nat.{le_trans}
use Rattle.std.proofs.lemmas.Bool.{cases_lt}
use Rattle.std.proofs.lemmas.List.{get_or_append_left, get_or_push, get_or_default, get_or_past, length_push}
use Rattle.std.proofs.lemmas.Nat.{div_below, le-div, row_fits_turned}
use Rattle.std.specs.List.{All, slice_index, slice_index_or}
use Rattle.pci_picture.specs.declared.lanes.Seat.{Seat}
use Rattle.pci_picture.specs.declared.lanes.Width.{Width}
use Rattle.pci_picture.specs.declared.region.Region.{Region}
use Rattle.pci_picture.specs.Lanes.{AreNested, BeginInside, HasShare, HaveShares, HaveColumns, HoldTogether, IsOrdered, IsParent, SameParent, StandApart, StandSideBySide, StandsBetween, inner_begin, width_at}
use Rattle.pci_picture.specs.Seats.{AreSeatedApart, AreWidthsOfSeats, HasParent, HaveParents, HasLane, HaveLanes, HaveSeatColumns, HaveWindows, HoldLanesTogether, IsWidthOfLane, IsWidthOfSeat, lane_at, outer_at, seat_at}

div_rises : (a b n : ℕ) → 0 < n → a ≤ b → a / n ≤ b / n
div_rises a b n some le =
    let less : a / n * n ≤ a = div-mul-le_self a n in
    le-div (a / n) b n some (omega arith)

-- a later lane begins later
pub lane_rises : (left right lane other lanes : ℕ) → lane ≤ other → lane_at left right lane lanes ≤ lane_at left right other lanes
lane_rises left right lane other lanes le =
    let product : (right - left) * lane ≤ (right - left) * other = mul-le-mul_left (right - left) le in
    let some : 0 < max 1 lanes = omega arith in
    let quotient : (right - left) * lane / max 1 lanes ≤ (right - left) * other / max 1 lanes = div_rises ((right - left) * lane) ((right - left) * other) (max 1 lanes) some product in
    omega (arith, quotient)

-- no lane begins before the first one, or behind the end
pub lane_inside : (left right lane lanes : ℕ) → left ≤ right → (left ≤ lane_at left right lane lanes) × (lane_at left right lane lanes ≤ right)
lane_inside left right lane lanes le = (omega arith, omega arith)

-- a width that reaches from the begin of its lane to that of the next one
pub width_of_lane : (outer : Width) (lane lanes next : ℕ) (width : Width) → lane ≤ next → next ≤ lane + 1 → (lane < lanes → next ≡ lane + 1)
    → width.left ≡ lane_at outer.inner outer.right lane lanes → width.right ≡ lane_at outer.inner outer.right next lanes
    → (width.left ≤ width.right → (width.left ≤ width.inner) × (width.inner ≤ width.right))
    → IsWidthOfLane outer lane lanes width
width_of_lane outer lane lanes next width least most more left right inner =
    let rises : lane_at outer.inner outer.right lane lanes ≤ lane_at outer.inner outer.right next lanes =
    lane_rises outer.inner outer.right lane next lanes (omega arith) in
    let ends : lane_at outer.inner outer.right next lanes ≤ lane_at outer.inner outer.right (lane + 1) lanes =
    lane_rises outer.inner outer.right next (lane + 1) lanes (omega arith) in
    let both : width.left ≤ width.right = subst (λ a. a ≤ width.right) (sym left) (subst (λ b. lane_at outer.inner outer.right lane lanes ≤ b) (sym right) rises) in
    record {
      begins = left;
      ends = subst (λ a. a ≤ lane_at outer.inner outer.right (lane + 1) lanes) (sym right) ends;
      full = λ less. right ∙ ap (λ (k : ℕ). lane_at outer.inner outer.right k lanes) (more less);
      inner = (inner both).0;
      within = (inner both).1;
      inside = λ le. (
        subst (λ a. outer.inner ≤ a) (sym left) (lane_inside outer.inner outer.right lane lanes le).0,
        subst (λ a. a ≤ outer.right) (sym right) (lane_inside outer.inner outer.right next lanes le).1,
      );
    }

-- ---- the widths before an index

abbrev pub StandAllBetween : ℕ → ℕ → List Width → Type 0
StandAllBetween left right widths = (k : ℕ) → k < length widths → StandsBetween left right (width_at widths k)

-- an earlier width stays
width_before : (widths : List Width) (width : Width) (k : ℕ) → k < length widths → width_at (widths ++ (width ∷ [])) k ≡ width_at widths k
width_before widths width k less = get_or_append_left widths (width ∷ []) (record { left = 0; right = 0; inner = 0 }) k less

width_last : (widths : List Width) (width : Width) (k : ℕ) → length widths ≡ k → width_at (widths ++ (width ∷ [])) k ≡ width
width_last widths width k is = get_or_push widths width (record { left = 0; right = 0; inner = 0 }) k is

outer_inner : (widths : List Width) (whole : Width) (seated_in : Option ℕ) (p : ℕ) → seated_in ≡ Some p → p < length widths → outer_at widths seated_in whole ≡ width_at widths p
outer_inner widths whole seated_in p is less =
    subst (λ (o : Option ℕ). outer_at widths o whole ≡ width_at widths p) (sym is)
    (get_or_default widths p whole (record { left = 0; right = 0; inner = 0 }) less)

outer_top : (widths : List Width) (whole : Width) (seated_in : Option ℕ) → seated_in ≡ None → outer_at widths seated_in whole ≡ whole
outer_top widths whole seated_in is = subst (λ (o : Option ℕ). outer_at widths o whole ≡ whole) (sym is) refl

-- one more width
placed_old : (whole : Width) (seats : List Seat) (lanes : List ℕ) (widths : List Width) (width : Width) (k : ℕ) → k < length widths
    → IsWidthOfSeat whole seats lanes widths k → IsWidthOfSeat whole seats lanes (widths ++ (width ∷ [])) k
placed_old whole seats lanes widths width k less placed = record {
  outer = placed.outer;
  is_inner = λ p is before. placed.is_inner p is before ∙ sym (width_before widths width p (omega arith));
  is_top = placed.is_top;
  is_lane = subst (λ (w : Width). IsWidthOfLane placed.outer (seat_at seats k).lane (slice_index_or lanes (seat_at seats k).group 1) w)
      (sym (width_before widths width k less)) placed.is_lane;
}

placed_new : (whole : Width) (seats : List Seat) (lanes : List ℕ) (widths : List Width) (width : Width) (k : ℕ) → length widths ≡ k
    → IsWidthOfLane (outer_at widths (seat_at seats k).parent whole) (seat_at seats k).lane (slice_index_or lanes (seat_at seats k).group 1) width
    → IsWidthOfSeat whole seats lanes (widths ++ (width ∷ [])) k
placed_new whole seats lanes widths width k is lane = record {
  outer = outer_at widths (seat_at seats k).parent whole;
  is_inner = λ p seated_in before.
      let inside : p < length widths = omega arith in
      outer_inner widths whole (seat_at seats k).parent p seated_in inside ∙ sym (width_before widths width p inside);
  is_top = outer_top widths whole (seat_at seats k).parent;
  is_lane = subst (λ (w : Width). IsWidthOfLane (outer_at widths (seat_at seats k).parent whole) (seat_at seats k).lane (slice_index_or lanes (seat_at seats k).group 1) w)
      (sym (width_last widths width k is)) lane;
}

pub placed_more : (whole : Width) (seats : List Seat) (lanes : List ℕ) (widths new : List Width) (width : Width) (n : ℕ) → length widths ≡ n
    → new ≡ widths ++ (width ∷ [])
    → IsWidthOfLane (outer_at widths (seat_at seats n).parent whole) (seat_at seats n).lane (slice_index_or lanes (seat_at seats n).group 1) width
    → AreWidthsOfSeats whole seats lanes widths n → AreWidthsOfSeats whole seats lanes new (n + 1)
placed_more whole seats lanes widths new width n is added lane placed k less =
    subst (λ (l : List Width). IsWidthOfSeat whole seats lanes l k) (sym added) (elim (cases_lt k n) [
      | inl before ↦ placed_old whole seats lanes widths width k (omega arith) (placed k before)
      | inr last ↦
          let here : n ≡ k = omega arith in
          subst (λ (m : ℕ). IsWidthOfSeat whole seats lanes (widths ++ (width ∷ [])) m) here (placed_new whole seats lanes widths width n is lane)
    ])

between_outer : (left right : ℕ) (outer : Width) (lane lanes : ℕ) (width : Width) → left ≤ outer.inner → outer.inner ≤ outer.right → outer.right ≤ right
    → IsWidthOfLane outer lane lanes width → StandsBetween left right width
between_outer left right outer lane lanes width from le upto is = record {
  from = omega (arith, (is.inside le).0, from);
  inner = is.inner;
  within = is.within;
  upto = omega (arith, (is.inside le).1, upto);
}

outer_between : (whole : Width) (widths : List Width) (seated_in : Option ℕ) → whole.left ≤ whole.inner → whole.inner ≤ whole.right
    → StandAllBetween whole.left whole.right widths → StandsBetween whole.left whole.right (record (outer_at widths seated_in whole) { left = whole.left })
outer_between whole widths None from le all = record { from = omega arith; inner = from; within = le; upto = omega arith }
outer_between whole widths (Some p) from le all = elim (cases_lt p (length widths)) [
  | inl inside ↦
      let same = get_or_default widths p whole (record { left = 0; right = 0; inner = 0 }) inside in
      let at = all p inside in
      subst (λ (w : Width). StandsBetween whole.left whole.right (record w { left = whole.left })) (sym same)
      (record { from = omega arith; inner = omega (arith, at.from, at.inner); within = at.within; upto = at.upto })
  | inr past ↦
      subst (λ (w : Width). StandsBetween whole.left whole.right (record w { left = whole.left })) (sym (get_or_past widths p whole past))
      (record { from = omega arith; inner = from; within = le; upto = omega arith })
]

pub between_more : (whole : Width) (seated_in : Option ℕ) (lane lanes : ℕ) (widths new : List Width) (width : Width)
    → new ≡ widths ++ (width ∷ []) → whole.left ≤ whole.inner → whole.inner ≤ whole.right
    → IsWidthOfLane (outer_at widths seated_in whole) lane lanes width
    → StandAllBetween whole.left whole.right widths → StandAllBetween whole.left whole.right new
between_more whole seated_in lane lanes widths new width added from le is all =
    subst (λ (l : List Width). StandAllBetween whole.left whole.right l) (sym added) (λ k less. elim (cases_lt k (length widths)) [
      | inl before ↦ subst (λ (w : Width). StandsBetween whole.left whole.right w) (sym (width_before widths width k before)) (all k before)
      | inr last ↦
          let length_new = length_push widths width in
          let here : length widths ≡ k = omega arith in
          let outer = outer_between whole widths seated_in from le all in
          subst (λ (w : Width). StandsBetween whole.left whole.right w) (sym (width_last widths width k here))
          (between_outer whole.left whole.right (outer_at widths seated_in whole) lane lanes width outer.inner outer.within outer.upto is)
    ])

pub all_between : (left right : ℕ) (widths : List Width) → StandAllBetween left right widths → All (StandsBetween left right) widths
all_between left right widths all k d inside =
    subst (λ (w : Width). StandsBetween left right w) (get_or_default widths k (record { left = 0; right = 0; inner = 0 }) d inside) (all k inside)

pub all_ordered : (whole : Width) (seats : List Seat) (lanes : List ℕ) (widths : List Width) (n : ℕ) → length widths ≡ n
    → AreWidthsOfSeats whole seats lanes widths n → All IsOrdered widths
all_ordered whole seats lanes widths n count placed k d inside =
    let one = placed k (omega arith) in
    subst (λ (w : Width). IsOrdered w) (get_or_default widths k (record { left = 0; right = 0; inner = 0 }) d inside) (one.is_lane.inner, one.is_lane.within)

-- ---- parents

one_parent : (regions : List Region) (p q i : ℕ) → IsParent regions p i → IsParent regions q i → p ≡ q
one_parent regions p q i one other = elim (cases_lt p q) [
  | inl less ↦ absurd (omega (arith, one.is_last q less other.before, other.is_outer))
  | inr not_less ↦ elim (cases_lt q p) [
    | inl less ↦ absurd (omega (arith, other.is_last p less one.before, one.is_outer))
    | inr same ↦ omega arith
  ]
]

pub seated_in_is : (regions : List Region) (i p : ℕ) (seated_in : Option ℕ) → HasParent regions i seated_in → IsParent regions p i → seated_in ≡ Some p
seated_in_is regions i p None has parent = absurd (has p parent)
seated_in_is regions i p (Some q) has parent = ap (λ (n : ℕ). Some n) (one_parent regions q p i has parent)

pub parents_same : (regions : List Region) (i j : ℕ) (one other : Option ℕ) → HasParent regions i one → HasParent regions j other → SameParent regions i j → one ≡ other
parents_same regions i j None None one other same = refl
parents_same regions i j None (Some q) one other same = absurd (one q ((same q).1 other))
parents_same regions i j (Some p) other_seated_in one other same = sym (seated_in_is regions j p other_seated_in other ((same p).0 one))

pub same_parents : (regions : List Region) (i j : ℕ) (seated_in : Option ℕ) → HasParent regions i seated_in → HasParent regions j seated_in → SameParent regions i j
same_parents regions i j None one other p = (λ is. absurd (one p is), λ is. absurd (other p is))
same_parents regions i j (Some q) one other p = (
  λ is. subst (λ (n : ℕ). IsParent regions n j) (one_parent regions q p i one is) other,
  λ is. subst (λ (n : ℕ). IsParent regions n i) (one_parent regions q p j other is) one,
)

-- ---- all widths

pub nested_all : (regions : List Region) (whole : Width) (seats : List Seat) (lanes : List ℕ) (widths : List Width)
    → AreWidthsOfSeats whole seats lanes widths (length regions) → HaveParents regions seats → AreNested regions widths
nested_all regions whole seats lanes widths placed parents p i inside parent =
    let seated_in : (seat_at seats i).parent ≡ Some p = seated_in_is regions i p (seat_at seats i).parent (parents i inside) parent in
    let before : p < i = parent.before in
    let here = placed i inside in
    let there = placed p (omega arith) in
    let outer : here.outer ≡ width_at widths p = here.is_inner p seated_in before in
    let lane : IsWidthOfLane (width_at widths p) (seat_at seats i).lane (slice_index_or lanes (seat_at seats i).group 1) (width_at widths i) =
    subst (λ (w : Width). IsWidthOfLane w (seat_at seats i).lane (slice_index_or lanes (seat_at seats i).group 1) (width_at widths i)) outer here.is_lane in
    between_outer (width_at widths p).inner (width_at widths p).right (width_at widths p) (seat_at seats i).lane
    (slice_index_or lanes (seat_at seats i).group 1) (width_at widths i) (omega arith) there.is_lane.within (omega arith) lane

-- of two lanes the one before ends before the other begins
before_lane : (outer : Width) (lane other lanes : ℕ) (one two : Width) → IsWidthOfLane outer lane lanes one → IsWidthOfLane outer other lanes two
    → lane < other → one.right ≤ two.left
before_lane outer lane other lanes one two is also less =
    let rises : lane_at outer.inner outer.right (lane + 1) lanes ≤ lane_at outer.inner outer.right other lanes =
    lane_rises outer.inner outer.right (lane + 1) other lanes (omega arith) in
    subst (λ (a : ℕ). one.right ≤ a) (sym also.begins) (le_trans is.ends rises)

apart_lanes : (outer : Width) (lane other lanes : ℕ) (one two : Width) → IsWidthOfLane outer lane lanes one → IsWidthOfLane outer other lanes two
    → lane ≢ other → StandApart one two
apart_lanes outer lane other lanes one two is also differ = elim (cases_lt lane other) [
  | inl less ↦ inl (before_lane outer lane other lanes one two is also less)
  | inr not_less ↦ inr (before_lane outer other lane lanes two one also is (omega arith))
]

outers_same : (regions : List Region) (whole : Width) (seats : List Seat) (lanes : List ℕ) (widths : List Width) (i j : ℕ) (seated_in : Option ℕ)
    → HasParent regions i seated_in → HasParent regions j seated_in → (seat_at seats i).parent ≡ seated_in → (seat_at seats j).parent ≡ seated_in
    → (one : IsWidthOfSeat whole seats lanes widths i) (other : IsWidthOfSeat whole seats lanes widths j) → one.outer ≡ other.outer
outers_same regions whole seats lanes widths i j None at also is same one other = one.is_top is ∙ sym (other.is_top same)
outers_same regions whole seats lanes widths i j (Some p) at also is same one other =
    one.is_inner p is at.before ∙ sym (other.is_inner p same also.before)

pub apart_all : (regions : List Region) (whole : Width) (seats : List Seat) (lanes : List ℕ) (widths : List Width)
    → AreWidthsOfSeats whole seats lanes widths (length regions) → HaveParents regions seats → AreSeatedApart regions seats (length regions)
    → StandSideBySide regions widths
apart_all regions whole seats lanes widths placed parents apart i j before inside same meet =
    let first : i < length regions = omega arith in
    let seated_in : (seat_at seats i).parent ≡ (seat_at seats j).parent =
    parents_same regions i j (seat_at seats i).parent (seat_at seats j).parent (parents i first) (parents j inside) same in
    let one = placed i first in
    let other = placed j inside in
    let outer : one.outer ≡ other.outer =
    outers_same regions whole seats lanes widths i j (seat_at seats j).parent
    (subst (λ (o : Option ℕ). HasParent regions i o) seated_in (parents i first)) (parents j inside) seated_in refl one other in
    let both : ((seat_at seats i).group ≡ (seat_at seats j).group) × ((seat_at seats i).lane ≢ (seat_at seats j).lane) = apart i j before inside seated_in meet in
    let lane : IsWidthOfLane other.outer (seat_at seats i).lane (slice_index_or lanes (seat_at seats j).group 1) (width_at widths i) =
    subst (λ (w : Width). IsWidthOfLane w (seat_at seats i).lane (slice_index_or lanes (seat_at seats j).group 1) (width_at widths i)) outer
    (subst (λ (g : ℕ). IsWidthOfLane one.outer (seat_at seats i).lane (slice_index_or lanes g 1) (width_at widths i)) both.0 one.is_lane) in
    apart_lanes other.outer (seat_at seats i).lane (seat_at seats j).lane (slice_index_or lanes (seat_at seats j).group 1)
    (width_at widths i) (width_at widths j) lane other.is_lane both.1

-- the width that the loop computes, from what it read
pub lane_read : (whole : Width) (read widths : List Width) (seated_in : Option ℕ) (outer : Width) (lane lanes count : ℕ) (width : Width)
    → outer ≡ outer_at read seated_in whole → read ≡ widths → lanes ≡ count → IsWidthOfLane outer lane lanes width
    → IsWidthOfLane (outer_at widths seated_in whole) lane count width
lane_read whole read widths seated_in outer lane lanes count width outer_is read_is count_is is =
    subst (λ (l : List Width). IsWidthOfLane (outer_at l seated_in whole) lane count width) read_is
    (subst (λ (n : ℕ). IsWidthOfLane (outer_at read seated_in whole) lane n width) count_is
    (subst (λ (w : Width). IsWidthOfLane w lane lanes width) outer_is is))

-- one more width
pub length_more : (widths new : List Width) (width : Width) (n : ℕ) → length widths ≡ n → new ≡ widths ++ (width ∷ []) → length new ≡ n + 1
length_more widths new width n is added = ap (λ l. length l) added ∙ (length_push widths width ∙ ap (λ (k : ℕ). k + 1) is)

pub columns_more : (seats : List Seat) (column : ℕ) (widths new : List Width) (width : Width) (n : ℕ) → length widths ≡ n → new ≡ widths ++ (width ∷ [])
    → width.inner ≡ inner_begin (seat_at seats n).is_window column width → HaveSeatColumns seats column widths n → HaveSeatColumns seats column new (n + 1)
columns_more seats column widths new width n is added inner columns =
    subst (λ (l : List Width). HaveSeatColumns seats column l (n + 1)) (sym added) (λ k less. elim (cases_lt k n) [
      | inl before ↦
          subst (λ (w : Width). w.inner ≡ inner_begin (seat_at seats k).is_window column w) (sym (width_before widths width k (omega arith))) (columns k before)
      | inr last ↦
          let here : length widths ≡ k = omega arith in
          let there : n ≡ k = omega arith in
          subst (λ (w : Width). w.inner ≡ inner_begin (seat_at seats k).is_window column w) (sym (width_last widths width k here))
          (subst (λ (i : ℕ). width.inner ≡ inner_begin (seat_at seats i).is_window column width) there inner)
    ])

-- ---- where boxes begin

lane_begins : (left right lane lanes : ℕ) → left < right → lane < lanes → lane_at left right lane lanes < right
lane_begins left right lane lanes some less =
    let here : lane < max 1 lanes = omega arith in
    let same : right - left ≤ right - left = omega arith in
    let product = row_fits_turned lane (right - left) (right - left) (max 1 lanes) here same in
    let width : 0 < right - left = omega arith in
    let under : (right - left) * lane < (right - left) * max 1 lanes = omega (arith, product, width) in
    let positive : 0 < max 1 lanes = omega arith in
    let quotient : (right - left) * lane / max 1 lanes < right - left = div_below ((right - left) * lane) (max 1 lanes) (right - left) positive under in
    omega (arith, quotient)

width_begins : (outer width : Width) (lanes : List ℕ) (group lane : ℕ) → HasLane lanes group lane
    → IsWidthOfLane outer lane (slice_index_or lanes group 1) width → outer.inner < outer.right → width.left < outer.right
width_begins outer width lanes group lane has is room =
    let same : slice_index_or lanes group 1 ≡ slice_index_or lanes group 0 = get_or_default lanes group 1 0 has.0 in
    let less : lane < slice_index_or lanes group 1 = subst (λ (n : ℕ). lane < n) (sym same) has.1 in
    subst (λ (a : ℕ). a < outer.right) (sym is.begins) (lane_begins outer.inner outer.right lane (slice_index_or lanes group 1) room less)

no_parent : (regions : List Region) (i : ℕ) (seated_in : Option ℕ) → HasParent regions i seated_in → ((p : ℕ) → IsParent regions p i → ⊥) → seated_in ≡ None
no_parent regions i None has none = refl
no_parent regions i (Some p) has none = absurd (none p has)

pub begin_all : (regions : List Region) (whole : Width) (seats : List Seat) (lanes : List ℕ) (widths : List Width)
    → AreWidthsOfSeats whole seats lanes widths (length regions) → length seats ≡ length regions → HaveParents regions seats → HaveLanes seats lanes
    → BeginInside regions whole.inner whole.right widths
begin_all regions whole seats lanes widths placed count parents have = record {
  top = λ i inside none room.
      let here = placed i inside in
      let outer : here.outer ≡ whole = here.is_top (no_parent regions i (seat_at seats i).parent (parents i inside) none) in
      width_begins whole (width_at widths i) lanes (seat_at seats i).group (seat_at seats i).lane (have i (omega arith))
      (subst (λ (w : Width). IsWidthOfLane w (seat_at seats i).lane (slice_index_or lanes (seat_at seats i).group 1) (width_at widths i)) outer here.is_lane) room;
  inner = λ p i inside parent room.
      let here = placed i inside in
      let outer : here.outer ≡ width_at widths p =
      here.is_inner p (seated_in_is regions i p (seat_at seats i).parent (parents i inside) parent) parent.before in
      width_begins (width_at widths p) (width_at widths i) lanes (seat_at seats i).group (seat_at seats i).lane (have i (omega arith))
      (subst (λ (w : Width). IsWidthOfLane w (seat_at seats i).lane (slice_index_or lanes (seat_at seats i).group 1) (width_at widths i)) outer here.is_lane) room;
}

-- ---- how wide boxes are

share : (width lane lanes : ℕ) → 0 < lanes → width * lane / lanes + width / lanes ≤ width * (lane + 1) / lanes
share width lane lanes some =
    let one : width * lane / lanes * lanes ≤ width * lane = div-mul-le_self (width * lane) lanes in
    let two : width / lanes * lanes ≤ width = div-mul-le_self width lanes in
    let both : (width * lane / lanes + width / lanes) * lanes ≤ width * (lane + 1) =
    omega (arith, add-mul (width * lane / lanes) (width / lanes) lanes, one, two, mul-suc width lane) in
    le-div (width * lane / lanes + width / lanes) (width * (lane + 1)) lanes some both

share_fits : (width lane lanes : ℕ) → lane < lanes → width * (lane + 1) / lanes ≤ width
share_fits width lane lanes less =
    let one : width * (lane + 1) / lanes * lanes ≤ width * (lane + 1) = div-mul-le_self (width * (lane + 1)) lanes in
    let two : width * (lane + 1) ≤ width * lanes = mul-le-mul_left width (omega arith) in
    le_of_mul-le-mul_right (le_trans one two) (omega arith)

lane_wide : (left right lane lanes : ℕ) → lane < lanes → (right - left) / max 1 lanes ≤ lane_at left right (lane + 1) lanes - lane_at left right lane lanes
lane_wide left right lane lanes less =
    let one = share (right - left) lane (max 1 lanes) (omega arith) in
    let two = share_fits (right - left) lane (max 1 lanes) (omega arith) in
    omega (arith, one, two)

-- a box has the share of its lane
width_shares : (outer width : Width) (lanes : List ℕ) (group lane : ℕ) → HasLane lanes group lane
    → IsWidthOfLane outer lane (slice_index_or lanes group 1) width → (outer.right - outer.inner) / slice_index lanes group ≤ width.right - width.left
width_shares outer width lanes group lane has is =
    let same : slice_index_or lanes group 1 ≡ slice_index lanes group = get_or_default lanes group 1 0 has.0 in
    let lane_is : IsWidthOfLane outer lane (slice_index lanes group) width = subst (λ (n : ℕ). IsWidthOfLane outer lane n width) same is in
    let wide = lane_wide outer.inner outer.right lane (slice_index lanes group) has.1 in
    let most : max 1 (slice_index lanes group) ≡ slice_index lanes group = omega (arith, has.1) in
    subst (λ (n : ℕ). (outer.right - outer.inner) / n ≤ width.right - width.left) most
    (subst (λ (a : ℕ). (outer.right - outer.inner) / max 1 (slice_index lanes group) ≤ a - width.left) (sym (lane_is.full has.1))
    (subst (λ (a : ℕ). (outer.right - outer.inner) / max 1 (slice_index lanes group)
    ≤ lane_at outer.inner outer.right (lane + 1) (slice_index lanes group) - a) (sym lane_is.begins) wide))

has_share : (regions : List Region) (outer width : Width) (i : ℕ) (lanes : List ℕ) (group lane : ℕ) → HasLane lanes group lane
    → HoldTogether regions i (slice_index lanes group) → IsWidthOfLane outer lane (slice_index_or lanes group 1) width
    → HasShare regions outer.inner outer.right i width
has_share regions outer width i lanes group lane has together is = record {
  n = slice_index lanes group;
  some = omega (arith, has.1);
  together = together;
  wide = width_shares outer width lanes group lane has is;
}

pub shares_all : (regions : List Region) (whole : Width) (seats : List Seat) (lanes : List ℕ) (widths : List Width)
    → AreWidthsOfSeats whole seats lanes widths (length regions) → length seats ≡ length regions → HaveParents regions seats → HaveLanes seats lanes
    → HoldLanesTogether regions seats lanes → HaveShares regions whole.inner whole.right widths
shares_all regions whole seats lanes widths placed count parents have together = record {
  top = λ i inside none.
      let here = placed i inside in
      let outer : here.outer ≡ whole = here.is_top (no_parent regions i (seat_at seats i).parent (parents i inside) none) in
      has_share regions whole (width_at widths i) i lanes (seat_at seats i).group (seat_at seats i).lane (have i (omega arith)) (together i inside)
      (subst (λ (w : Width). IsWidthOfLane w (seat_at seats i).lane (slice_index_or lanes (seat_at seats i).group 1) (width_at widths i)) outer here.is_lane);
  inner = λ p i inside parent.
      let here = placed i inside in
      let outer : here.outer ≡ width_at widths p =
      here.is_inner p (seated_in_is regions i p (seat_at seats i).parent (parents i inside) parent) parent.before in
      has_share regions (width_at widths p) (width_at widths i) i lanes (seat_at seats i).group (seat_at seats i).lane (have i (omega arith)) (together i inside)
      (subst (λ (w : Width). IsWidthOfLane w (seat_at seats i).lane (slice_index_or lanes (seat_at seats i).group 1) (width_at widths i)) outer here.is_lane);
}

pub columns_all : (regions : List Region) (column : ℕ) (seats : List Seat) (widths : List Width) → HaveWindows regions seats
    → HaveSeatColumns seats column widths (length regions) → HaveColumns regions column widths
columns_all regions column seats widths windows columns i d inside =
    subst (λ (b : Bool). (width_at widths i).inner ≡ inner_begin b column (width_at widths i)) (windows i d inside) (columns i inside)
