-- Rows that parts are put into.
use Rattle.std.proofs.Common.{◌≡◌, ℕ, zero, suc, ◌+◌, ◌<◌, ◌≤◌, inl, inr, List, [], ◌∷◌, ◌++◌, map, length, set, get_or, drop, cond, true, false, Bool, arith, ap, sym, subst, refl, ◌∙◌, Option, Some, None, Vec}
use Rattle.std.specs.Bool.{◌==◌}
use Rattle.std.specs.Option.{option_map, option_or}
use Rattle.std.specs.List.{All, sum_by, range_with_len}
use Rattle.std.specs.List.Sorted.{IsPermutation}
use Rattle.std.proofs.lemmas.Bool.{cases_Bool, cases_lt, eqb-true, eq-eqb, both_ways}
use Rattle.std.proofs.lemmas.List.{at_drop_more, get_or_past, length-map}
use Rattle.std.proofs.lemmas.List.Elements.{All-contains, Contains-get_or}
use Rattle.std.proofs.lemmas.List.Sorted.{sum_by-IsPermutation}
use Rattle.std.proofs.lemmas.List.Sums.{sum_by-append, sum_by-cons}
use Rattle.pci_spec.specs.Decoded.{Range as DecodedRange}
use Rattle.pci_spec.specs.System.{System, Space, Io, Memory}
use Rattle.pci_spec.specs.Bus.{is_root}
use Rattle.settle_spec.specs.Lists.{Request}
use Rattle.settle_spec.specs.Stands.{window_part}
use Rattle.settle_spec.specs.Kept.{Kept}
use Rattle.settle_spec.specs.Wishes.{place_then}
use Rattle.pci_base.specs.declared.range.Range.{Range}
use Rattle.pci_base.specs.declared.window_kind.WindowKind.{WindowKind as CodeKind}
use Rattle.pci_base.specs.declared.window_kind.WindowKind.TheVariants as kinds
use Rattle.pci_base.specs.declared.window_kind.ByKind.{ByKind}
use Rattle.pci_base.specs.WindowKinds.{by_kind}
use Rattle.pci_grow.specs.declared.board.BridgeWindow.{BridgeWindow}
use Rattle.pci_base.specs.Ranges.{decoded_range_of}
use Rattle.pci_base.specs.Space.{space_of}
use Rattle.pci_grow.specs.declared.board.Board.{Board}
use Rattle.pci_grow.specs.declared.fill.Located.{Located}
use Rattle.pci_first_fit.specs.Spots.{FirstsRise}
use Rattle.pci_grow.specs.RoomRows.{bus_level, row_number, row_at, total, AreSameBut}
use Rattle.pci_first_fit.specs.Tables.{untold, told, AreUntold}
use Rattle.pci_grow.specs.Board.{IsAsked, bridge_of_window, window_class, IsRoomOfKept}
use Rattle.pci_grow.specs.Located.{located_weight, located_total, told_weight, function_weight, windows_total, ArePut, IsPushed, AreSorted, AreOwn, AreWindowsThen}
use Rattle.pci_grow.proofs.Walks.{nothing_left}
use Rattle.pci_grow.proofs.Rooms.{row_of, row_put, row_rest, rows_long}
use Rattle.pci_grow.proofs.Facts.{item_at}
use Rattle.pci_grow.proofs.Located.{located_are}

-- ---- parts are put one after another

-- those from an index on are still to come
pub record ArePutTo (roots : List ℕ) (parts : List Located) (old new : List (List Range)) (index : ℕ) : Type 0 where
  pub count : length new ≡ length old
  pub put : (n : ℕ) → n < 514 → (weight : DecodedRange → ℕ)
      → total weight (row_at new n) + located_total roots weight n (drop index parts) ≡ total weight (row_at old n) + located_total roots weight n parts

pub put_next : (roots : List ℕ) (parts : List Located) (old new next : List (List Range)) (index row : ℕ) → ArePutTo roots parts old new index → index < length parts → (d : Located)
    → row ≡ row_number (bus_level roots (get_or parts index d).bus) (space_of (get_or parts index d).space) → length next ≡ length new → IsPushed new next row (get_or parts index d).range
    → ArePutTo roots parts old next (index + 1)
put_next roots parts old new next index row was within d row_is count pushed = record {
  count = count ∙ was.count;
  put = λ n small weight.
      let p : Located = get_or parts index d in
      let before = was.put n small weight in
      let left = at_drop_more (located_total roots weight n) parts index d within ∙ sum_by-cons (located_weight roots weight n) p (drop (index + 1) parts) in
      elim (cases_Bool (row_number (bus_level roots p.bus) (space_of p.space) == n)) [
        | inl here ↦
            let same : row ≡ n = row_is ∙ eqb-true (row_number (bus_level roots p.bus) (space_of p.space)) n here in
            let own = ap {B = ℕ} (λ b. cond b (weight (decoded_range_of p.range)) 0) here in
            let added = subst (λ m. total weight (row_at next m) ≡ total weight (row_at new m) + weight (decoded_range_of p.range)) same (pushed.added weight) in
            omega (arith, before, left, own, added)
        | inr other ↦
            let own = ap {B = ℕ} (λ b. cond b (weight (decoded_range_of p.range)) 0) other in
            let kept = ap (total weight) (pushed.rest n (λ same. both_ways (row_number (bus_level roots p.bus) (space_of p.space) == n) other (eq-eqb (row_number (bus_level roots p.bus) (space_of p.space)) n (sym row_is ∙ sym same)))) in
            omega (arith, before, left, own, kept)
      ];
}

pub put_whole : (roots : List ℕ) (parts : List Located) (old new : List (List Range)) (index : ℕ) → ArePutTo roots parts old new index → length parts ≤ index → ArePut roots parts old new
put_whole roots parts old new index is past n small weight =
    let all = is.put n small weight in
    let none = ap (located_total roots weight n) (nothing_left parts index past) in
    omega (arith, all, none)

-- ---- rows are sorted one after another

pub record AreSortedTo (old new : List (List Range)) (index : ℕ) : Type 0 where
  pub count : length new ≡ length old
  pub same : (n : ℕ) (weight : DecodedRange → ℕ) → total weight (row_at new n) ≡ total weight (row_at old n)
  pub order : (n : ℕ) → n < index → FirstsRise (row_at new n)

below : (n m : ℕ) → n < m + 1 → (n ≡ m → ⊥) → n < m
below n m less not = omega (arith, less, not)

pub sorted_next : (old new next : List (List Range)) (index : ℕ) → AreSortedTo old new index → length next ≡ length new → AreSameBut new next index → IsPermutation (row_at new index) (row_at next index) → FirstsRise (row_at next index)
    → AreSortedTo old next (index + 1)
sorted_next old new next index was count rest permutation order = record {
  count = count ∙ was.count;
  same = λ n weight. elim (cases_Bool (n == index)) [
    | inl here ↦
        let is : n ≡ index = eqb-true n index here in
        let sums = sum_by-IsPermutation (λ (r : Range). weight (decoded_range_of r)) (row_at new index) (row_at next index) permutation in
        subst (λ m. total weight (row_at next m) ≡ total weight (row_at old m)) (sym is) (sums ∙ was.same index weight)
    | inr other ↦ ap (total weight) (rest n (λ same. both_ways (n == index) other (eq-eqb n index same))) ∙ was.same n weight
  ];
  order = λ n less. elim (cases_Bool (n == index)) [
    | inl here ↦ subst (λ m. FirstsRise (row_at next m)) (sym (eqb-true n index here)) order
    | inr other ↦
        let not : n ≡ index → ⊥ = λ same. both_ways (n == index) other (eq-eqb n index same) in
        subst FirstsRise (sym (rest n not)) (was.order n (below n index less not))
  ];
}

pub sorted_whole : (old new : List (List Range)) (index : ℕ) → AreSortedTo old new index → length new ≤ index → AreSorted old new
sorted_whole old new index is past = record {
  same = is.same;
  order = λ n. elim (cases_lt n index) [
    | inl less ↦ is.order n less
    | inr over ↦ subst FirstsRise (sym (get_or_past new n [] (omega (arith, over, past)))) (λ j k d less inside. absurd (let no : ⊥ = omega (arith, inside) in no))
  ];
}

-- a range is put at the end of a row, or one row is sorted
module _ {A : Type 0} (rows : List (Vec Range A)) (n : ℕ) (within : n < length rows) (v w : Vec Range A) (is : v ≡ get_or rows n v) where
  abbrev lists : List (Vec Range A) → List (List Range)
  lists vs = map (λ (x : Vec Range A). x.items) vs

  inside : n < length (lists rows)
  inside = let long = length-map rows (λ (x : Vec Range A). x.items) in omega (arith, within, long)

  pub pushed_is : (range : Range) → w.items ≡ v.items ++ range ∷ [] → IsPushed (lists rows) (lists (set rows n w)) n range
  pushed_is range more = record {
    added = λ weight.
        let whole = ap (total weight) (row_put rows n w inside ∙ more) in
        let sums = sum_by-append (λ (r : Range). weight (decoded_range_of r)) v.items (range ∷ []) in
        let last : total weight (range ∷ []) ≡ 0 + weight (decoded_range_of range) = refl in
        let was = ap (total weight) (row_of rows n v inside is) in
        omega (arith, whole, sums, last, was);
    rest = row_rest rows n w;
  }

  pub sorted_step : (old : List (List Range)) → AreSortedTo old (lists rows) n → IsPermutation v.items w.items → FirstsRise w.items → AreSortedTo old (lists (set rows n w)) (n + 1)
  sorted_step old so_far permutation order =
      sorted_next old (lists rows) (lists (set rows n w)) n so_far (rows_long rows n w) (row_rest rows n w)
      (subst (λ (xs : List Range). IsPermutation xs (row_at (lists (set rows n w)) n)) (row_of rows n v inside is) (subst (IsPermutation v.items) (sym (row_put rows n w inside)) permutation))
      (subst FirstsRise (sym (row_put rows n w inside)) order)

-- ---- windows

pub sum_more : (f : ℕ → ℕ) (a n : ℕ) → sum_by f (range_with_len a (suc n)) ≡ sum_by f (range_with_len a n) + f (a + n)
sum_more f a zero =
    let first = sum_by-cons f a [] in
    let same : a + 0 ≡ a = omega arith in
    let here = ap f same in
    let nothing : sum_by f [] ≡ 0 = refl in
    omega (arith, first, here, nothing)
sum_more f a (suc n) =
    let first = sum_by-cons f a (range_with_len (a + 1) (suc n)) in
    let second = sum_by-cons f a (range_with_len (a + 1) n) in
    let rest = sum_more f (a + 1) n in
    let same : a + 1 + n ≡ a + suc n = omega arith in
    let here = ap f same in
    omega (arith, first, second, rest, here)

-- one more function
pub windows_more : (roots : List ℕ) (s : System) (table : List (ByKind (Option Range))) (weight : DecodedRange → ℕ) (n count : ℕ)
    → windows_total roots s table weight n (count + 1) ≡ windows_total roots s table weight n count + function_weight roots s table weight n count
windows_more roots s table weight n count =
    let next : count + 1 ≡ suc count = omega arith in
    let same : 0 + count ≡ count = omega arith in
    ap (windows_total roots s table weight n) next
    ∙ sum_more (function_weight roots s table weight n) 0 count
    ∙ ap (λ i. windows_total roots s table weight n count + function_weight roots s table weight n i) same

-- one more window
pub window_added : (roots : List ℕ) (weight : DecodedRange → ℕ) (n : ℕ) (old new : List Located) (p : Located) (bus : ℕ) (space : Space) (o : Option Range)
    → new ≡ old ++ p ∷ [] → p.bus ≡ bus → space_of p.space ≡ space → Some p.range ≡ o
    → located_total roots weight n new ≡ located_total roots weight n old + told_weight weight (row_number (bus_level roots bus) space) n o
window_added roots weight n old new p bus space o more bus_is space_is range_is =
    let whole = ap (located_total roots weight n) more in
    let sums = sum_by-append (located_weight roots weight n) old (p ∷ []) in
    let last : located_total roots weight n (p ∷ []) ≡ 0 + located_weight roots weight n p = refl in
    let same : located_weight roots weight n p ≡ told_weight weight (row_number (bus_level roots bus) space) n o =
    ap (λ m. cond (row_number (bus_level roots m) (space_of p.space) == n) (weight (decoded_range_of p.range)) 0) bus_is
    ∙ ap (λ x. cond (row_number (bus_level roots bus) x == n) (weight (decoded_range_of p.range)) 0) space_is
    ∙ ap (told_weight weight (row_number (bus_level roots bus) space) n) range_is in
    omega (arith, whole, sums, last, same)

-- ---- the whole

-- rows in which nothing is
module _ {A : Type 0} (rows : List (Vec Range A)) where
  abbrev items_of : Vec Range A → List Range
  items_of v = v.items

  pub empty_rows : All (λ (v : Vec Range A). v.items ≡ []) rows → (n : ℕ) → row_at (map items_of rows) n ≡ []
  empty_rows none n =
      let long = length-map rows items_of in
      elim (cases_lt n (length rows)) [
        | inl within ↦
            let v : (x : Vec Range A) × (x ≡ get_or rows n x) = item_at rows n within in
            sym (row_of rows n v.0 (omega (arith, within, long)) v.1) ∙ All-contains (λ (x : Vec Range A). x.items ≡ []) rows v.0 none (n, within, sym v.1)
        | inr over ↦ get_or_past (map items_of rows) n [] (omega (arith, over, long))
      ]

-- the same said of lists that are these
pub put_from : (roots others : List ℕ) (parts those : List Located) (old before after : List (List Range)) → roots ≡ others → those ≡ parts → before ≡ old → ArePut roots those before after → ArePut others parts old after
put_from roots others parts those old before after roots_are parts_are old_is put =
    subst (λ x. ArePut x parts old after) roots_are (subst (λ x. ArePut roots x old after) parts_are (subst (λ x. ArePut roots those x after) old_is put))

pub sorted_from : (old before after : List (List Range)) → before ≡ old → AreSorted before after → AreSorted old after
sorted_from old before after old_is is_sorted = subst (λ x. AreSorted x after) old_is is_sorted

level_low : (roots : List ℕ) (bus : ℕ) → bus < 256 → bus_level roots bus < 257
level_low roots bus small = elim (is_root roots bus) as (λ b. cond b 0 (bus + 1) < 257) [ true ↦ omega arith | false ↦ omega (arith, small) ]

row_low : (space : Space) (m : ℕ) → m < 257 → row_number m space < 514
row_low Io m low = omega (arith, low)
row_low Memory m low = omega (arith, low)

untold_none : (class : CodeKind) → by_kind untold class ≡ None
untold_none kinds.Io = refl
untold_none kinds.Memory = refl
untold_none kinds.Prefetchable = refl

module _ (q : Request) (s : System) (k : Kept) (b : Board) (asked : IsAsked q s b) (tells : AreWindowsThen q s k b.windows.now) (own parts : List Located) (are : AreOwn q s k own)
    (windows : (weight : DecodedRange → ℕ) (n : ℕ) → located_total q.roots weight n parts ≡ windows_total q.roots s b.windows.now weight n (length s))
    (none with_own with_windows sorted : List (List Range)) (empty : (n : ℕ) → row_at none n ≡ []) (put_own : ArePut (q.roots) own none with_own) (put_windows : ArePut q.roots parts with_own with_windows) (is_sorted : AreSorted with_windows sorted)
    (wished : List (ByKind (Option Range))) (untold_all : AreUntold wished) where
  entry : (j : ℕ) → get_or wished j untold ≡ untold
  entry j = elim (cases_lt j (length wished)) [
    | inl within ↦ All-contains (λ r. r ≡ untold) wished (get_or wished j untold) untold_all (Contains-get_or wished j untold within)
    | inr over ↦ get_or_past wished j untold over
  ]

  nothing_wished : (w : BridgeWindow) → told wished w.bridge w.class ≡ None
  nothing_wished w = ap (λ e. by_kind e w.class) (entry w.bridge) ∙ untold_none w.class

  pub told_first : (rising : List Bool) → IsRoomOfKept q s k b (record { wished = wished; rows = sorted; rising = rising })
  told_first rising = record {
    asked = asked;
    windows = tells.windows;
    wished = λ w within. ap (option_map decoded_range_of) (nothing_wished w) ∙ sym (tells.unwished (window_part (window_class w) (bridge_of_window s w)));
    there = λ w window r has. tells.there w window r (sym (ap (λ o. option_or o (place_then q s k (window_part (window_class w) (bridge_of_window s w)))) (tells.unwished (window_part (window_class w) (bridge_of_window s w)))) ∙ has);
    rows = λ space bus small weight.
        let n = row_number (bus_level q.roots bus) space in
        let low = row_low space (bus_level q.roots bus) (level_low q.roots bus small) in
        let all = located_are q s k b.windows.now tells weight space bus own parts are small (windows weight n) in
        let first = put_own n low weight in
        let second = put_windows n low weight in
        let third = is_sorted.same n weight in
        let nothing = ap (total weight) (empty n) in
        omega (arith, all, first, second, third, nothing);
  }
