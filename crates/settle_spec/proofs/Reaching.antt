-- The reach of a window is in the room around it, and off all else that stands on its bus.
use Rattle.std.proofs.Common.{◌&&◌, ◌≡◌, ◌≢◌, ◌⊎◌, ℕ, suc, ◌+◌, ◌-◌, ◌*◌, ◌/◌, ◌%◌, ◌<◌, ◌≤◌, min, max, inl, inr, Bool, List, [], ◌∷◌, arith, ap, sym, subst, ◌∙◌, refl, true, false, Option, None, Some, ◌++◌}
use Rattle.std.specs.Bool.{nat_le, nat_lt, ◌==◌, if◌then◌else◌}
use Rattle.std.specs.Prelude.{not}
use Rattle.std.specs.List.{Contains, filter, fold}
use Rattle.std.proofs.lemmas.Bool.{cases_Bool, cases_lt, and_parts, and_from, or_cases, or_left, or_right, false_from_ne_true, ltb-true, ltb-false, lt-ltb, leb-true, le-leb, eqb-true}
use Rattle.std.proofs.lemmas.Nat.{div-add-mod', mod_below}
use Rattle.std.proofs.Math.Nat.{mul-le-mul_right, mul-mod_left}
use Rattle.pci_spec.specs.Window.{WindowKind, IoWindow, MemoryWindow, PrefetchWindow, base_page, limit_page, page_size}
use Rattle.pci_spec.specs.Decoded.{Range}
use Rattle.pci_spec.specs.System.{System, Function, window_space}
use Rattle.pci_spec.proofs.Members.{in_nil, in_head, in_tail, in_cons_cases, in_map_from, in_filter_from, in_flat_map_from, in_flat_map_to}
use Rattle.plan_spec.proofs.Planning.Room.{raised}
use Rattle.std.proofs.lemmas.List.Elements.{Contains-append_left, Contains-append_right, Contains-append_cases}
use Rattle.judge_spec.specs.ToldRegion.{ToldRegion, told_regions}
use Rattle.settle_spec.specs.Lines.{line_range, can_keep_off}
use Rattle.settle_spec.specs.FirstPlace.{ranges_are_apart}
use Rattle.settle_spec.specs.Lists.{Request}
use Rattle.settle_spec.specs.Parts.{FunctionPart, system_parts, addresses, lies_within}
use Rattle.settle_spec.specs.Stands.{is_fixed_part, rank, are_beside, window_part, stands, part_space}
use Rattle.settle_spec.specs.Items.{highest_in}
use Rattle.settle_spec.specs.Reach.{half_size, upper_of, lower_of, cut_to_halves, clear_of, standing_beside, no_higher, whole_pages, room_around, reach_in, reach_if, reach_within, reach, before_window, past_window, lines_beside}
use Rattle.settle_spec.specs.GrowthLaws.{CanReach}
use Rattle.settle_spec.proofs.Grown.{some_page}
use Rattle.settle_spec.proofs.Outward.{some_half, page_from}

-- ---- apart, by ends

abbrev pub LieApart : Range → Range → Type 0
LieApart r t = (r.last < t.first) ⊎ (t.last < r.first)

pub ends_apart : (r t : Range) → ranges_are_apart r t ≡ true → LieApart r t
ends_apart r t apart = elim (or_cases (nat_lt r.last t.first) (nat_lt t.last r.first) apart) [
  | inl under ↦ inl (ltb-true r.last t.first under)
  | inr over ↦ inr (ltb-true t.last r.first over)
]

pub apart_ends : (r t : Range) → LieApart r t → ranges_are_apart r t ≡ true
apart_ends r t (inl under) = or_left (nat_lt r.last t.first) (nat_lt t.last r.first) (lt-ltb r.last t.first under)
apart_ends r t (inr over) = or_right (nat_lt r.last t.first) (nat_lt t.last r.first) (lt-ltb t.last r.first over)

-- a range lies on that side of other addresses on which a window is, where it lies within another
pub record LiesIn (r room : Range) : Type 0 where
  pub first : room.first ≤ r.first
  pub last : r.last ≤ room.last

lies_in_same : (r : Range) → LiesIn r r
lies_in_same r = record { first = omega arith; last = omega arith }

pub lies_in_trans : (a b c : Range) → LiesIn a b → LiesIn b c → LiesIn a c
lies_in_trans a b c inner outer =
    let f = inner.first in
    let g = outer.first in
    let l = inner.last in
    let m = outer.last in
    record { first = omega (arith, f, g); last = omega (arith, l, m) }

-- it is on that side of other addresses on which a window is
abbrev pub IsOnSide : Range → Range → Range → Type 0
IsOnSide w t r = (nat_lt w.last t.first ≡ true → r.last < t.first) × (nat_lt w.last t.first ≡ false → t.last < r.first)

pub side_in : (w t a b : Range) → LiesIn a b → IsOnSide w t b → IsOnSide w t a
side_in w t a b inner side =
    let f = inner.first in
    let l = inner.last in
    (λ under. (let at = side.0 under in omega (arith, at, l)), λ over. (let at = side.1 over in omega (arith, at, f)))

pub side_apart : (w t r : Range) → IsOnSide w t r → LieApart r t
side_apart w t r side = elim (cases_Bool (nat_lt w.last t.first)) [
  | inl under ↦ inl (side.0 under)
  | inr over ↦ inr (side.1 over)
]

-- ---- clear of what is beside it

clear_in : (w r t : Range) → LiesIn (clear_of w r t) r
clear_in w r t = by (nat_lt w.last t.first)
  where
    by : (b : Bool) → LiesIn (if b then record { first = r.first; last = min r.last (t.first - 1) } else record { first = max r.first (t.last + 1); last = r.last }) r
    by true = record { first = omega arith; last = omega arith }
    by false = record { first = omega arith; last = omega arith }

abbrev range_of_ends : ℕ → ℕ → Range
range_of_ends first last = record { first = first; last = last }

clear_side : (w r t : Range) → IsOnSide w t (clear_of w r t)
clear_side w r t = (
  λ under. (
      let less = ltb-true w.last t.first under in
      let is : (clear_of w r t).last ≡ min r.last (t.first - 1) = ap (λ b. (if b then range_of_ends r.first (min r.last (t.first - 1)) else range_of_ends (max r.first (t.last + 1)) r.last).last) under in
      omega (arith, less, is)),
  λ over. (
      let is : (clear_of w r t).first ≡ max r.first (t.last + 1) = ap (λ b. (if b then range_of_ends r.first (min r.last (t.first - 1)) else range_of_ends (max r.first (t.last + 1)) r.last).first) over in
      omega (arith, is)),
)

pub all_in : (w room : Range) (ts : List Range) → LiesIn (fold (clear_of w) room ts) room
all_in w room [] = lies_in_same room
all_in w room (t ∷ ts) = lies_in_trans (fold (clear_of w) (clear_of w room t) ts) (clear_of w room t) room (all_in w (clear_of w room t) ts) (clear_in w room t)

pub all_sides : (w room : Range) (ts : List Range) (t : Range) → Contains ts t → IsOnSide w t (fold (clear_of w) room ts)
all_sides w room [] t listed = absurd (in_nil t listed)
all_sides w room (u ∷ ts) t listed = elim (in_cons_cases u ts t listed) [
  | inl here ↦
      side_in w t (fold (clear_of w) (clear_of w room u) ts) (clear_of w room u) (all_in w (clear_of w room u) ts)
      (subst (λ x. IsOnSide w x (clear_of w room u)) here (clear_side w room u))
  | inr later ↦ all_sides w (clear_of w room u) ts t later
]

-- ---- whole pages, and ends whose halves can be reached

pub pages_in : (page : ℕ) → 0 < page → (r : Range) → LiesIn (whole_pages page r) r
pages_in page pos r =
    let up = (raised page r.first pos).from in
    let split = div-add-mod' (r.last + 1) page in
    record { first = up; last = omega (arith, split) }

pub cut_in : (c : WindowKind) (w r : Range) → LiesIn (cut_to_halves c w r) r
cut_in c w r =
    let first = div-add-mod' r.first (half_size c) in
    let small = mod_below r.first (half_size c) (some_half c) in
    let last = div-add-mod' r.last (half_size c) in
    record {
      first = by_first (nat_lt (lower_of c w.first) (lower_of c r.first)) first small;
      last = by_last (nat_lt (lower_of c r.last) (lower_of c w.last)) last;
    }
  where
    by_first : (b : Bool) → upper_of c r.first * half_size c + lower_of c r.first ≡ r.first → lower_of c r.first < half_size c → r.first ≤ (if b then (upper_of c r.first + 1) * half_size c else r.first)
    by_first true split small = next (upper_of c r.first) (half_size c) (lower_of c r.first) r.first split small
      where
        next : (u h l a : ℕ) → u * h + l ≡ a → l < h → a ≤ (u + 1) * h
        next u h l a split small = omega (arith, split, small)
    by_first false split small = omega arith

    by_last : (b : Bool) → upper_of c r.last * half_size c + lower_of c r.last ≡ r.last → (if b then upper_of c r.last * half_size c - 1 else r.last) ≤ r.last
    by_last true split = omega (arith, split)
    by_last false split = omega arith

-- ---- a window stays within its reach

clear_keeps : (w r t : Range) → LieApart w t → LiesIn w r → LiesIn w (clear_of w r t)
clear_keeps w r t apart inside = by (nat_lt w.last t.first) refl
  where
    by : (b : Bool) → nat_lt w.last t.first ≡ b → LiesIn w (if b then range_of_ends r.first (min r.last (t.first - 1)) else range_of_ends (max r.first (t.last + 1)) r.last)
    by true is =
        let less = ltb-true w.last t.first is in
        let first = inside.first in
        let last = inside.last in
        record { first = first; last = omega (arith, less, last) }
    by false is =
        let first = inside.first in
        let last = inside.last in
        let more = ltb-false w.last t.first is in
        let over : t.last < w.first = elim apart [ inl under ↦ absurd (let no : ⊥ = omega (arith, under, more) in no) | inr over ↦ over ] in
        record { first = omega (arith, over, first); last = last }

all_keep : (w room : Range) (ts : List Range) → LiesIn w room → ((t : Range) → Contains ts t → LieApart w t) → LiesIn w (fold (clear_of w) room ts)
all_keep w room [] inside apart = inside
all_keep w room (t ∷ ts) inside apart =
    all_keep w (clear_of w room t) ts (clear_keeps w room t (apart t (in_head t ts)) inside) (λ u listed. apart u (in_tail t ts u listed))

pages_keep : (page : ℕ) → 0 < page → (w r : Range) → w.first % page ≡ 0 → (w.last + 1) % page ≡ 0 → LiesIn w r → LiesIn w (whole_pages page r)
pages_keep page pos w r first_page last_page inside =
    let first = inside.first in
    let last = inside.last in
    let up = page_from page (w.last + 1) (r.last + 1) pos last_page (omega (arith, last)) in
    record {
      first = (raised page r.first pos).least w.first first_page first;
      last = omega (arith, up);
    }

-- whole pages end where a page does, if they end behind some address
pages_end : (page : ℕ) → 0 < page → (w r : Range) → (w.last + 1) % page ≡ 0 → w.last ≤ r.last → ((whole_pages page r).last + 1) % page ≡ 0
pages_end page pos w r last_page last =
    let k = (r.last + 1) / page in
    let up = page_from page (w.last + 1) (r.last + 1) pos last_page (omega (arith, last)) in
    let is : (whole_pages page r).last + 1 ≡ k * page = omega (arith, up) in
    ap (λ n. n % page) is ∙ mul-mod_left k page

first_cut : (h w p : ℕ) → 0 < h → p ≤ w → w % h < p % h → (p / h + 1) * h ≤ w
first_cut h w p pos le less =
    let from = div-add-mod' p h in
    let to = div-add-mod' w h in
    elim (cases_lt (p / h) (w / h)) [
      | inl under ↦ (let step : suc (p / h) * h ≤ w / h * h = mul-le-mul_right h under in omega (arith, step, to))
      | inr over ↦ absurd (let step : w / h * h ≤ p / h * h = mul-le-mul_right h over in let no : ⊥ = omega (arith, step, from, to, le, less) in no)
    ]

last_cut : (h w p : ℕ) → 0 < h → w ≤ p → p % h < w % h → w < p / h * h
last_cut h w p pos le less =
    let from = div-add-mod' w h in
    let to = div-add-mod' p h in
    let small = mod_below w h pos in
    elim (cases_lt (w / h) (p / h)) [
      | inl under ↦ (let step : suc (w / h) * h ≤ p / h * h = mul-le-mul_right h under in omega (arith, step, from, small))
      | inr over ↦ absurd (let step : p / h * h ≤ w / h * h = mul-le-mul_right h over in let no : ⊥ = omega (arith, step, from, to, le, less) in no)
    ]

-- where an upper half begins, a page does, and a lower half
half_page : (c : WindowKind) (u : ℕ) → u * half_size c % page_size c ≡ 0
half_page IoWindow u = omega arith
half_page MemoryWindow u = omega arith
half_page PrefetchWindow u = omega arith

-- and before it the greatest lower half ends
before_half : (c : WindowKind) (u : ℕ) → 0 < u * half_size c → lower_of c (u * half_size c - 1) + 1 ≡ half_size c
before_half IoWindow u some = omega (arith, some)
before_half MemoryWindow u some = omega (arith, some)
before_half PrefetchWindow u some = omega (arith, some)

module _ (c : WindowKind) (w p : Range) (inside : LiesIn w p) (first_page : p.first % page_size c ≡ 0) (last_page : (p.last + 1) % page_size c ≡ 0) where
  record IsFirst (a : ℕ) : Type 0 where
    up : a ≤ w.first
    page : a % page_size c ≡ 0
    half : lower_of c a ≤ lower_of c w.first

  record IsLast (a : ℕ) : Type 0 where
    down : w.last ≤ a
    page : (a + 1) % page_size c ≡ 0
    half : lower_of c w.last ≤ lower_of c a

  first_is : (b : Bool) → nat_lt (lower_of c w.first) (lower_of c p.first) ≡ b → IsFirst (if b then (upper_of c p.first + 1) * half_size c else p.first)
  first_is true is =
      let less = ltb-true (lower_of c w.first) (lower_of c p.first) is in
      let none : (upper_of c p.first + 1) * half_size c % half_size c ≡ 0 = mul-mod_left (upper_of c p.first + 1) (half_size c) in
      record {
        up = first_cut (half_size c) w.first p.first (some_half c) inside.first less;
        page = half_page c (upper_of c p.first + 1);
        half = omega (arith, none);
      }
  first_is false is = record { up = inside.first; page = first_page; half = ltb-false (lower_of c w.first) (lower_of c p.first) is }

  last_is : (b : Bool) → nat_lt (lower_of c p.last) (lower_of c w.last) ≡ b → IsLast (if b then upper_of c p.last * half_size c - 1 else p.last)
  last_is true is =
      let less = ltb-true (lower_of c p.last) (lower_of c w.last) is in
      let cut = last_cut (half_size c) w.last p.last (some_half c) inside.last less in
      let whole = before_half c (upper_of c p.last) (omega (arith, cut)) in
      let small = mod_below w.last (half_size c) (some_half c) in
      let same : upper_of c p.last * half_size c - 1 + 1 ≡ upper_of c p.last * half_size c = omega (arith, cut) in
      record {
        down = omega (arith, cut);
        page = ap (λ n. n % page_size c) same ∙ half_page c (upper_of c p.last);
        half = omega (arith, whole, small);
      }
  last_is false is = record { down = inside.last; page = last_page; half = ltb-false (lower_of c p.last) (lower_of c w.last) is }

  cut_reaches : CanReach c w (cut_to_halves c w p)
  cut_reaches =
      let first = first_is (nat_lt (lower_of c w.first) (lower_of c p.first)) refl in
      let last = last_is (nat_lt (lower_of c p.last) (lower_of c w.last)) refl in
      record {
        first = first.up;
        last = last.down;
        first_page = first.page;
        last_page = last.page;
        first_half = first.half;
        last_half = last.half;
      }

-- a window has whole pages
pub window_first : (c : WindowKind) (b : Function) → (addresses (window_part c b)).first % page_size c ≡ 0
window_first c b = mul-mod_left (base_page c b.image) (page_size c)

pub window_last : (c : WindowKind) (b : Function) → ((addresses (window_part c b)).last + 1) % page_size c ≡ 0
window_last c b =
    let k = limit_page c b.image in
    let pos = some_page c in
    let is : k * page_size c + (page_size c - 1) + 1 ≡ suc k * page_size c = omega (arith, pos) in
    ap (λ n. n % page_size c) is ∙ mul-mod_left (suc k) (page_size c)

pub within_gives : (r t : Range) → lies_within r t ≡ true → LiesIn r t
within_gives r t h =
    let parts = and_parts (nat_le t.first r.first) (nat_le r.last t.last) h in
    record { first = leb-true t.first r.first parts.0; last = leb-true r.last t.last parts.1 }

pub within_from : (r t : Range) → LiesIn r t → lies_within r t ≡ true
within_from r t is = and_from (nat_le t.first r.first) (nat_le r.last t.last) (le-leb t.first r.first is.first) (le-leb r.last t.last is.last)

-- ---- pieces of lines beside a window

before_apart : (w r t : Range) → Contains (before_window w r) t → LieApart w t
before_apart w r t has = by (nat_lt r.first w.first) refl has
  where
    by : (b : Bool) → nat_lt r.first w.first ≡ b → Contains (if b then record { first = r.first; last = min r.last (w.first - 1) } ∷ [] else []) t → LieApart w t
    by true is here = elim (in_cons_cases _ [] t here) [
      | inl same ↦ (let less = ltb-true r.first w.first is in let last = ap (λ (x : Range). x.last) same in inr (omega (arith, less, last)))
      | inr none ↦ absurd (in_nil t none)
    ]
    by false is here = absurd (in_nil t here)

past_apart : (w r t : Range) → Contains (past_window w r) t → LieApart w t
past_apart w r t has = by (nat_lt w.last r.last) has
  where
    by : (b : Bool) → Contains (if b then record { first = max r.first (w.last + 1); last = r.last } ∷ [] else []) t → LieApart w t
    by true here = elim (in_cons_cases _ [] t here) [
      | inl same ↦ (let first = ap (λ (x : Range). x.first) same in inl (omega (arith, first)))
      | inr none ↦ absurd (in_nil t none)
    ]
    by false here = absurd (in_nil t here)

pieces_apart : (q : Request) (w : FunctionPart) (t : Range) → Contains (lines_beside q w) t → LieApart (addresses w) t
pieces_apart q w t has =
    let piece = in_flat_map_to (λ x. before_window (addresses w) (line_range x) ++ past_window (addresses w) (line_range x)) (filter (λ x. can_keep_off q x w.function.slot (part_space w)) (told_regions q.told)) t has in
    elim (Contains-append_cases (before_window (addresses w) (line_range piece.of)) (past_window (addresses w) (line_range piece.of)) t piece.piece) [
      | inl before ↦ before_apart (addresses w) (line_range piece.of) t before
      | inr past ↦ past_apart (addresses w) (line_range piece.of) t past
    ]

module _ (q : Request) (s : System) (c : WindowKind) (b : Function) (room : Range) where
  abbrev own : Range
  own = addresses (window_part c b)

  abbrev start : Range
  start = no_higher (highest_in c b.probe) room

  abbrev beside : List Range
  beside = lines_beside q (window_part c b) ++ standing_beside q s (window_part c b)

  abbrev free : Range
  free = fold (clear_of own) start beside

  start_in : LiesIn start room
  start_in = record { first = omega arith; last = omega arith }

  pub reach_is_around : lies_within own room ≡ true → own.last ≤ highest_in c b.probe → ((t : Range) → Contains (standing_beside q s (window_part c b)) t → ranges_are_apart own t ≡ true)
      → CanReach c own (reach_in q s c b room) × (lies_within (reach_in q s c b room) room ≡ true)
  reach_is_around inside high apart =
      let is = within_gives own room inside in
      let first = is.first in
      let last = is.last in
      let from : LiesIn own start = record { first = first; last = omega (arith, last, high) } in
      let clear = all_keep own start beside from (λ t listed. elim (Contains-append_cases (lines_beside q (window_part c b)) (standing_beside q s (window_part c b)) t listed) [
        | inl line ↦ pieces_apart q (window_part c b) t line
        | inr stand ↦ ends_apart own t (apart t stand)
      ]) in
      let pages = whole_pages (page_size c) free in
      let pos = some_page c in
      let kept = pages_keep (page_size c) pos own free (window_first c b) (window_last c b) clear in
      let can = cut_reaches c own pages kept (raised (page_size c) free.first pos).multiple (pages_end (page_size c) pos own free (window_last c b) clear.last) in
      let in_free = lies_in_trans (cut_to_halves c own pages) pages free (cut_in c own pages) (pages_in (page_size c) pos free) in
      let in_start = lies_in_trans (cut_to_halves c own pages) free start in_free (all_in own start beside) in
      (can, within_from (cut_to_halves c own pages) room (lies_in_trans (cut_to_halves c own pages) start room in_start start_in))

  -- and no higher than the window may be
  pub reach_in_low : (reach_in q s c b room).last ≤ highest_in c b.probe
  reach_in_low =
      let pages = whole_pages (page_size c) free in
      let cut = cut_to_halves c own pages in
      let in_free = lies_in_trans cut pages free (cut_in c own pages) (pages_in (page_size c) (some_page c) free) in
      let in_start = lies_in_trans cut free start in_free (all_in own start beside) in
      let last = in_start.last in
      omega (arith, last)

-- ---- the reach is off all else

before_piece : (w r : Range) → r.first < w.first → r.last < w.first → before_window w r ≡ record { first = r.first; last = min r.last (w.first - 1) } ∷ []
before_piece w r first last = ap (λ b. if b then record { first = r.first; last = min r.last (w.first - 1) } ∷ [] else []) (lt-ltb r.first w.first first)

past_piece : (w r : Range) → w.last < r.last → past_window w r ≡ record { first = max r.first (w.last + 1); last = r.last } ∷ []
past_piece w r last = ap (λ b. if b then record { first = max r.first (w.last + 1); last = r.last } ∷ [] else []) (lt-ltb w.last r.last last)

module _ (q : Request) (s : System) (c : WindowKind) (b : Function) where
  abbrev w : FunctionPart
  w = window_part c b

  abbrev neighbours : List Range
  neighbours = lines_beside q w ++ standing_beside q s w

  -- ---- what is beside is off the reach

  in_apart : (t : Range) → Contains neighbours t → (room : Range) → LieApart (reach_in q s c b room) t
  in_apart t has room =
      let start = no_higher (highest_in c b.probe) room in
      let free = fold (clear_of (addresses w)) start neighbours in
      let pages = whole_pages (page_size c) free in
      side_apart (addresses w) t (cut_to_halves c (addresses w) pages)
      (side_in (addresses w) t (cut_to_halves c (addresses w) pages) free
      (lies_in_trans (cut_to_halves c (addresses w) pages) pages free (cut_in c (addresses w) pages) (pages_in (page_size c) (some_page c) free))
      (all_sides (addresses w) start neighbours t has))

  if_apart : (t : Range) → Contains neighbours t → LieApart (addresses w) t → (o : Option Range) → LieApart (reach_if q s c b o) t
  if_apart t has apart None = apart
  if_apart t has apart (Some room) = by (is_fixed_part q w)
    where
      by : (fixed : Bool) → LieApart (if fixed then addresses w else reach_in q s c b room) t
      by true = apart
      by false = in_apart t has room

  pub reach_step : reach q s c b ≡ reach_if q s c b (room_around q s c (reach_within q s c 255) b)
  unfolding reach_within
  reach_step = refl

  beside_apart : (t : Range) → Contains neighbours t → LieApart (addresses w) t → LieApart (reach q s c b) t
  beside_apart t has apart = subst (λ r. LieApart r t) (sym reach_step) (if_apart t has apart (room_around q s c (reach_within q s c 255) b))

  -- ---- other parts

  standing_is : (t : FunctionPart) → Contains (system_parts q s) t → are_beside q w t ≡ true → rank t ≢ rank w → stands q s t ≡ true → Contains neighbours (addresses t)
  standing_is t listed near other stand =
      let differ : not (rank t == rank w) ≡ true = ap not (false_from_ne_true (rank t == rank w) (λ same. other (eqb-true (rank t) (rank w) same))) in
      Contains-append_right (lines_beside q w) (standing_beside q s w) (addresses t)
      (in_map_from addresses (filter (λ u. are_beside q w u && not (rank u == rank w) && stands q s u) (system_parts q s)) t
      (in_filter_from (λ u. are_beside q w u && not (rank u == rank w) && stands q s u) (system_parts q s) t listed
      (and_from (are_beside q w t && not (rank t == rank w)) (stands q s t) (and_from (are_beside q w t) (not (rank t == rank w)) near differ) stand)))

  pub reach_is_off : (t : FunctionPart) → Contains (system_parts q s) t → are_beside q w t ≡ true → rank t ≢ rank w → stands q s t ≡ true → ranges_are_apart (addresses w) (addresses t) ≡ true → ranges_are_apart (reach q s c b) (addresses t) ≡ true
  reach_is_off t listed near other stand apart =
      apart_ends (reach q s c b) (addresses t)
      (beside_apart (addresses t) (standing_is t listed near other stand) (ends_apart (addresses w) (addresses t) apart))

  -- ---- lines

  piece_is : (x : ToldRegion) → Contains (told_regions q.told) x → can_keep_off q x b.slot (window_space c) ≡ true → (t : Range)
      → Contains (before_window (addresses w) (line_range x) ++ past_window (addresses w) (line_range x)) t → Contains neighbours t
  piece_is x is_told can t piece =
      Contains-append_left (lines_beside q w) (standing_beside q s w) t
      (in_flat_map_from (λ x. before_window (addresses w) (line_range x) ++ past_window (addresses w) (line_range x))
      (filter (λ x. can_keep_off q x w.function.slot (part_space w)) (told_regions q.told)) x t
      (in_filter_from (λ x. can_keep_off q x w.function.slot (part_space w)) (told_regions q.told) x is_told can) piece)

  lines_apart : (x : ToldRegion) → Contains (told_regions q.told) x → can_keep_off q x b.slot (window_space c) ≡ true → x.told.first ≤ x.told.last
      → LieApart (addresses w) (line_range x) → LieApart (reach q s c b) (line_range x)
  lines_apart x is_told can forward (inl under) =
      let t : Range = record { first = max (line_range x).first ((addresses w).last + 1); last = (line_range x).last } in
      let piece = piece_is x is_told can t
      (Contains-append_right (before_window (addresses w) (line_range x)) (past_window (addresses w) (line_range x)) t
      (subst (λ ts. Contains ts t) (sym (past_piece (addresses w) (line_range x) (omega (arith, under, forward)))) (in_head t []))) in
      elim (beside_apart t piece (inl (omega (arith, under)))) [
        | inl below ↦ inl (omega (arith, below, under))
        | inr above ↦ inr above
      ]
  lines_apart x is_told can forward (inr over) =
      let t : Range = record { first = (line_range x).first; last = min (line_range x).last ((addresses w).first - 1) } in
      let piece = piece_is x is_told can t
      (Contains-append_left (before_window (addresses w) (line_range x)) (past_window (addresses w) (line_range x)) t
      (subst (λ ts. Contains ts t) (sym (before_piece (addresses w) (line_range x) (omega (arith, over, forward)) over)) (in_head t []))) in
      elim (beside_apart t piece (inr (omega (arith, over)))) [
        | inl below ↦ inl below
        | inr above ↦ inr (omega (arith, above, over))
      ]

  pub reach_is_off_lines : (x : ToldRegion) → Contains (told_regions q.told) x → can_keep_off q x b.slot (window_space c) ≡ true → x.told.first ≤ x.told.last
      → ranges_are_apart (addresses w) (line_range x) ≡ true → ranges_are_apart (reach q s c b) (line_range x) ≡ true
  reach_is_off_lines x is_told can forward apart =
      apart_ends (reach q s c b) (line_range x) (lines_apart x is_told can forward (ends_apart (addresses w) (line_range x) apart))
