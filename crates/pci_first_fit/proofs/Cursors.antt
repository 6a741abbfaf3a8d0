-- Where the search for an extent goes on stays so when more is taken.
use Rattle.std.proofs.Common.{◌≡◌, ℕ, zero, suc, ◌+◌, ◌-◌, ◌^◌, ◌<◌, ◌≤◌, inl, inr, List, [], ◌∷◌, ◌++◌, map, length, set, get_or, arith, ap, sym, subst, ◌∙◌, refl, true, Bool, Some}
use Rattle.std.specs.List.{All, Contains, insert}
use Rattle.std.proofs.lemmas.Bool.{cases_eq}
use Rattle.std.proofs.lemmas.List.{length-append, length-map, get_or-map, length-set, get_or-set_same, get_or-set_other, get_or_default}
use Rattle.std.proofs.lemmas.List.Elements.{All-append}
use Rattle.std.proofs.lemmas.List.Edits.{length-insert}
use Rattle.pci_spec.proofs.Members.{in_tail}
use Rattle.plan_spec.specs.Place.{range_from}
use Rattle.settle_spec.specs.PlacingLaws.{TakesMore}
use Rattle.settle_spec.proofs.MoreTaken.{same_extent, less_spot, none_in}
use Rattle.pci_spec.specs.Decoded.{Range as DecodedRange}
use Rattle.pci_base.specs.declared.range.Range.{Range}
use Rattle.pci_base.specs.Ranges.{decoded_range_of}
use Rattle.pci_first_fit.specs.declared.extent.Extent.{Extent}
use Rattle.pci_first_fit.specs.declared.spot.Spot.{Spot}
use Rattle.pci_first_fit.specs.declared.spot.Start.{Start}
use Rattle.pci_first_fit.specs.declared.placing.Wanted.{Wanted}
use Rattle.pci_first_fit.specs.declared.placing.Cursor.{Cursor}
use Rattle.pci_first_fit.specs.Spots.{extent_value, IsExtent, AreRisingRanges, extent_range, IsPutIn, IsTakenBy, IsTakenAt, IsSpotReached, IsStart}
use Rattle.pci_first_fit.specs.Placings.{HasListAt, wanted_place, AreEnding, IsCursor, AreCursors}
use Rattle.pci_first_fit.proofs.Inserted.{Under, At, Over, find_where}
use Rattle.pci_first_fit.proofs.AllPlaced.{put_same, IsSoFar, so_far_none, so_far_next}

module _ (old new : List Range) (d : Extent) (at : Spot) (listed : AreRisingRanges old) (put : IsPutIn old new d at) where
  takes_more : TakesMore (map decoded_range_of old) (map decoded_range_of new)
  takes_more t has =
      subst (λ xs. Contains (map decoded_range_of xs) t) (sym put.put)
      ((put_same old at.index (extent_range d at.at) put.between.within).to t (in_tail (decoded_range_of (extent_range d at.at)) (map decoded_range_of old) t has))

  below_stays : (s : Spot) → s.index ≤ length old → ((k : ℕ) (c : Range) → k < s.index → (get_or old k c).last < s.at)
      → (k : ℕ) (c : Range) → k < s.index → (get_or (insert old at.index (extent_range d at.at)) k c).last < s.at
  below_stays s within below k c less = elim (find_where old (extent_range d at.at) at.index k put.between.within) [
    | Under under is ↦ subst (λ (x : Range). x.last < s.at) (sym (is c)) (below k c less)
    | At here is ↦
        let inside : k < length old = omega (arith, less, within) in
        let above = put.between.above k c (omega (arith, here)) inside in
        let forward = listed.forward k c inside in
        let under = below k c less in
        subst (λ (x : Range). x.last < s.at) (sym (is c)) (omega (arith, above, forward, under))
    | Over j over low is ↦ subst (λ (x : Range). x.last < s.at) (sym (is c)) (below j c (omega (arith, over, less)))
  ]

  reached_stays : (low : ℕ) (e : Extent) (s : Spot) → IsSpotReached old low e s → IsSpotReached new low e s
  reached_stays low e s is = record {
    least = λ b spot. is.least b (less_spot low (map decoded_range_of old) (map decoded_range_of new) (extent_value e) (extent_value e) b takes_more (same_extent (extent_value e)) spot);
    within =
        let long : length new ≡ length old + 1 = ap length put.put ∙ length-insert old at.index (extent_range d at.at) put.between.within in
        let within = is.within in
        omega (arith, long, within);
    below = subst (λ xs. (k : ℕ) (c : Range) → k < s.index → (get_or xs k c).last < s.at) (sym put.put) (below_stays s is.within is.below);
  }

  pub start_stays : (ranges : List Range) (e : Extent) (s : Start) → IsExtent e → IsStart ranges old e s → IsStart ranges new e s
  start_stays ranges e s extent is = record {
    before = λ k c less.
        none_in (decoded_range_of (get_or ranges k c)) (map decoded_range_of old) (map decoded_range_of new) (extent_value e) (extent_value e) extent.alignment takes_more (same_extent (extent_value e)) (is.before k c less);
    reached = λ c within. reached_stays (get_or ranges s.range c).first e s.spot (is.reached c within);
  }

-- ---- of all lists

pub cursors_first : (lists : List (List Range)) (taken : List Range) (cursors : List Cursor) → length cursors ≡ length lists
    → ((ranges taken : List Range) → All (IsCursor ranges taken) cursors) → AreCursors lists taken cursors
cursors_first lists taken cursors count each = record {
  count = count;
  each = λ k d within. each (get_or lists k []) taken k d (omega (arith, within, count));
}

pub cursors_next : (lists : List (List Range)) (old new : List Range) (d : Extent) (at : Spot) (cursors : List Cursor) (n : ℕ) (c : Cursor) → AreRisingRanges old → IsPutIn old new d at
    → AreCursors lists old cursors → n < length lists → IsCursor (get_or lists n []) new c → AreCursors lists new (set cursors n c)
cursors_next lists old new d at cursors n c listed put are within is = record {
  count = length-set cursors n c ∙ are.count;
  each = λ k x less.
      let count = are.count in
      elim (cases_eq k n) [
        | inl same ↦ subst (λ m. IsCursor (get_or lists m []) new (get_or (set cursors n c) m x)) (sym same)
            (subst (IsCursor (get_or lists n []) new) (sym (get_or-set_same cursors n c x (omega (arith, within, count)))) is)
        | inr other ↦
            let was = are.each k x less in
            subst (IsCursor (get_or lists k []) new) (sym (get_or-set_other cursors n k c x other))
            (record { extent = was.extent; start = start_stays old new d at listed put (get_or lists k []) _ _ was.extent was.start })
      ];
}

-- ---- where they end

ends_next : (wanted : List Wanted) (places : List ℕ) (n : ℕ) → AreEnding wanted places n → n < length wanted → length places ≡ length wanted → (w : Wanted) (a : ℕ)
    → (range_from a (get_or wanted n w).extent.size).last < 2 ^ 64 → AreEnding wanted (set places n a) (n + 1)
ends_next wanted places n ends within count w a low k v less = elim (cases_eq k n) [
  | inl same ↦
      let here : get_or (set places n a) k 0 ≡ a = ap (λ m. get_or (set places n a) m 0) same ∙ get_or-set_same places n a 0 (omega (arith, within, count)) in
      let own : get_or wanted k v ≡ get_or wanted n w = ap (λ m. get_or wanted m v) same ∙ get_or_default wanted n v w within in
      subst (λ (x : Wanted). get_or (set places n a) k 0 + (x.extent.size - 1) < 2 ^ 64) (sym own)
      (subst (λ b. b + ((get_or wanted n w).extent.size - 1) < 2 ^ 64) (sym here) low)
  | inr other ↦
      subst (λ b. b + ((get_or wanted k v).extent.size - 1) < 2 ^ 64) (sym (get_or-set_other places n k a 0 other)) (ends k v (omega (arith, less, other)))
]

-- ---- all of it

-- items so far have their places, and the searches for more can go on
pub record IsPlacing (lists behind : List (List Range)) (start : List DecodedRange) (wanted : List Wanted) (taken : List Range) (places : List ℕ) (cursors : List Cursor) (n : ℕ) : Type 0 where
  pub so_far : IsSoFar lists behind start wanted taken places n
  pub search : AreCursors lists taken cursors
  pub ends : AreEnding wanted places n

pub placing_none : (lists behind : List (List Range)) (wanted : List Wanted) (taken : List Range) (places : List ℕ) (cursors : List Cursor) → AreRisingRanges taken → length places ≡ length wanted
    → length cursors ≡ length lists → ((ranges taken : List Range) → All (IsCursor ranges taken) cursors)
    → IsPlacing lists behind (map decoded_range_of taken) wanted taken places cursors 0
placing_none lists behind wanted taken places cursors listed count long each = record {
  so_far = so_far_none lists behind wanted taken places listed count;
  search = cursors_first lists taken cursors long each;
  ends = λ k w less. absurd (let no : ⊥ = omega (arith, less) in no);
}

pub placing_next : (lists behind : List (List Range)) (start : List DecodedRange) (wanted : List Wanted) (taken : List Range) (places : List ℕ) (cursors : List Cursor) (n count : ℕ)
    → IsPlacing lists behind start wanted taken places cursors n → All (HasListAt count) wanted → n < length wanted → (w : Wanted) (a : ℕ)
    → Some a ≡ wanted_place lists (map decoded_range_of (get_or behind n []) ++ map decoded_range_of taken) (get_or wanted n w)
    → (new : List Range) → AreRisingRanges new → IsTakenAt taken new (get_or wanted n w).extent a → (others : List Cursor) → AreCursors lists new others
    → IsPlacing lists behind start wanted new (set places n a) others (n + 1)
placing_next lists behind start wanted taken places cursors n count is lawful within w a found new listed put others search = record {
  so_far = so_far_next lists behind start wanted taken places n count is.so_far lawful within w a found new listed put;
  search = search;
  ends = ends_next wanted places n is.ends within is.so_far.count w a put.ends;
}

-- ---- where a list is searched next

module _ {V : Type 0} (f : V → List Range) (lists : List V) (taken : List Range) (cursors : List Cursor) (search : AreCursors (map f lists) taken cursors) (own : Wanted) (lawful : HasListAt (length lists) own)
    (v : V) (ranges : List Range) (v_is : v ≡ get_or lists own.list v) (ranges_are : ranges ≡ f v) where
  here : ranges ≡ get_or (map f lists) own.list []
  here = ranges_are ∙ ap f v_is ∙ sym (get_or-map f lists own.list v [] lawful.list)

  pub cursors_here : AreRisingRanges taken → (s : Start) (found : Bool) → found ≡ true → (new : List Range) → IsTakenBy taken new own.extent s.spot found → IsStart ranges new own.extent s
      → AreCursors (map f lists) new (set cursors own.list (record { extent = own.extent; start = s }))
  cursors_here listed s found so new put begun =
      cursors_next (map f lists) taken new own.extent s.spot cursors own.list _ listed (subst (IsTakenBy taken new own.extent s.spot) so put) search
      (let long = length-map lists f in let less = lawful.list in omega (arith, long, less))
      (record { extent = lawful.extent; start = subst (λ rs. IsStart rs new own.extent s) here begun })

-- ---- before any is placed

pub record AreFirst (cursors : List Cursor) (n : ℕ) : Type 0 where
  pub count : length cursors ≡ n
  pub each : (ranges taken : List Range) → All (IsCursor ranges taken) cursors

pub first_none : (cursors : List Cursor) → cursors ≡ [] → AreFirst cursors 0
first_none cursors none = record { count = ap length none; each = λ ranges taken. subst (All (IsCursor ranges taken)) (sym none) (λ k d less. absurd (let no : ⊥ = omega (arith, less) in no)) }

pub first_more : (old new : List Cursor) (c : Cursor) (n : ℕ) → AreFirst old n → ((ranges taken : List Range) → IsCursor ranges taken c) → new ≡ old ++ c ∷ [] → AreFirst new (n + 1)
first_more old new c n are is put = record {
  count = let long = length-append old (c ∷ []) in let count = are.count in let more = ap length put in omega (arith, long, count, more);
  each = λ ranges taken. subst (All (IsCursor ranges taken)) (sym put) (All-append (IsCursor ranges taken) old (c ∷ []) (are.each ranges taken) (one (IsCursor ranges taken) c (is ranges taken)));
}
  where
    one : (P : Cursor → Type 0) (c : Cursor) → P c → All P (c ∷ [])
    one P c here zero d less = here
    one P c here (suc k) d less = absurd (let no : ⊥ = omega (arith, less) in no)

-- the first of them are searched from the beginning again
pub record AreRestarted (old new : List Cursor) (n : ℕ) : Type 0 where
  pub count : length new ≡ length old
  pub each : (ranges taken : List Range) (k : ℕ) (d : Cursor) → k < n → IsCursor ranges taken (get_or new k d)

pub restarted_none : (old : List Cursor) → AreRestarted old old 0
restarted_none old = record { count = refl; each = λ ranges taken k d less. absurd (let no : ⊥ = omega (arith, less) in no) }

pub restarted_more : (old new : List Cursor) (n : ℕ) → AreRestarted old new n → n < length new → (c : Cursor) → ((ranges taken : List Range) → IsCursor ranges taken c) → AreRestarted old (set new n c) (n + 1)
restarted_more old new n was within c is = record {
  count = length-set new n c ∙ was.count;
  each = λ ranges taken k d less. elim (cases_eq k n) [
    | inl same ↦ subst (λ m. IsCursor ranges taken (get_or (set new n c) m d)) (sym same) (subst (IsCursor ranges taken) (sym (get_or-set_same new n c d within)) (is ranges taken))
    | inr other ↦ subst (IsCursor ranges taken) (sym (get_or-set_other new n k c d other)) (was.each ranges taken k d (omega (arith, less, other)))
  ];
}
