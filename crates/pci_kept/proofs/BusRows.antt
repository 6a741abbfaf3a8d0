-- The parts of a bus stand in a row, and those that keep their places are filtered out of it.
use Rattle.std.proofs.Common.{◌≡◌, ℕ, zero, suc, ◌+◌, ◌-◌, ◌<◌, ◌≤◌, inl, inr, List, [], ◌∷◌, ◌++◌, map, length, take, drop, get_or, Bool, true, false, cond, ◌&&◌, add-zero, arith, sym, ◌∙◌, ap, subst}
use Rattle.std.specs.List.{All, AllWithin, Contains, filter}
use Rattle.std.specs.List.Sorted.{IsPermutation}
use Rattle.std.proofs.lemmas.Bool.{cases_lt, ne_eqb, eq-eqb}
use Rattle.std.proofs.lemmas.List.{take_more, take_all, take-append-drop, map-append, append-nil}
use Rattle.std.proofs.lemmas.List.Elements.{filter-append, All-contains, Contains-get_or, Contains-append_left}
use Rattle.std.proofs.lemmas.List.Sorted.{IsPermutation-trans, IsPermutation-map, IsPermutation-append_comm, IsPermutation-append_right, All-permutation}
use Rattle.pci_spec.proofs.Members.{in_map_to, IsMade, in_filter_to}
use Rattle.pci_spec.specs.System.{Space}
use Rattle.settle_spec.specs.Lists.{Request}
use Rattle.settle_spec.specs.Lines.{lines_on}
use Rattle.pci_base.specs.declared.range.Range.{Range}
use Rattle.pci_base.specs.Ranges.{decoded_range_of}
use Rattle.pci_first_fit.specs.declared.kept.Kept.{Kept}
use Rattle.pci_first_fit.specs.declared.lines.Line.{Line}
use Rattle.pci_first_fit.specs.Lines.{level_of, AreForwardRanges, AreLines, AreAdded}
use Rattle.pci_first_fit.specs.Spots.{FirstsRise, AreRisingRanges}
use Rattle.pci_kept.specs.declared.region.Region.{Region}
use Rattle.pci_kept.specs.Passing.{CanBeNoted}
use Rattle.pci_kept.specs.Rooms.{region_range, is_taken, is_taken_on, AreTakenBehindBridge}

module _ {X : Type 0} (test : X → Bool) where
  next_off : (xs : List X) (d : X) (n : ℕ) → n < length xs → test (get_or xs n d) ≡ false → filter test (take (n + 1) xs) ≡ filter test (take n xs)
  next_off xs d n within off =
      ap (filter test) (take_more xs n d within)
      ∙ filter-append test (take n xs) (get_or xs n d ∷ [])
      ∙ ap (λ b. filter test (take n xs) ++ cond b (get_or xs n d ∷ []) []) off
      ∙ append-nil (filter test (take n xs))

  -- what fails a test adds nothing to what passes it
  still_off : (xs : List X) (d : X) (n m : ℕ) → m + n ≤ length xs → ((k : ℕ) → m ≤ k → k < m + n → test (get_or xs k d) ≡ false) → filter test (take (m + n) xs) ≡ filter test (take m xs)
  still_off xs d zero m within off = ap (λ k. filter test (take k xs)) (add-zero m)
  still_off xs d (suc n) m within off =
      let next : m + suc n ≡ m + n + 1 = omega arith in
      ap (λ k. filter test (take k xs)) next
      ∙ next_off xs d (m + n) (omega (arith, within)) (off (m + n) (omega arith) (omega arith))
      ∙ still_off xs d n m (omega (arith, within)) (λ k from less. off k from (omega (arith, less)))

  pub none_first : (xs : List X) (n : ℕ) → n ≤ length xs → ((k : ℕ) (d : X) → k < n → test (get_or xs k d) ≡ false) → filter test (take n xs) ≡ []
  none_first [] n within off = let zero_is : n ≡ 0 = omega (arith, within) in ap (λ k. filter test (take k [])) zero_is
  none_first (x ∷ xs) n within off =
      let sum : 0 + n ≡ n = omega arith in
      ap (λ k. filter test (take k (x ∷ xs))) (sym sum)
      ∙ still_off (x ∷ xs) x n 0 (omega (arith, within)) (λ k from less. off k x (omega (arith, less)))

  pub none_last : (xs : List X) (n : ℕ) → n ≤ length xs → ((k : ℕ) (d : X) → n ≤ k → k < length xs → test (get_or xs k d) ≡ false) → filter test (take n xs) ≡ filter test xs
  none_last [] n within off = let zero_is : n ≡ 0 = omega (arith, within) in ap (λ k. filter test (take k [])) zero_is
  none_last (x ∷ xs) n within off =
      let sum : n + (length (x ∷ xs) - n) ≡ length (x ∷ xs) = omega (arith, within) in
      sym (still_off (x ∷ xs) x (length (x ∷ xs) - n) n (omega (arith, within)) (λ k from less. off k x from (omega (arith, less, within))))
      ∙ ap (λ k. filter test (take k (x ∷ xs))) sum
      ∙ ap (filter test) (take_all (length (x ∷ xs)) (x ∷ xs) (omega arith))

-- ---- those of a bus

module _ (rs : List Region) (bus : ℕ) (space : Space) (table : List Kept) where
  abbrev pub on : Region → Bool
  on = is_taken_on bus space table

  abbrev pub taken_to : ℕ → List Range
  taken_to n = map region_range (filter on (take n rs))

  apart : (r : Region) → (bus ≡ r.bus → ⊥) → on r ≡ false
  apart r differ = ap (λ b. b && is_taken space table r) (ne_eqb bus r.bus differ)

  beside : (r : Region) → bus ≡ r.bus → on r ≡ is_taken space table r
  beside r same = ap (λ b. b && is_taken space table r) (eq-eqb bus r.bus same)

  pub row_first : (first : ℕ) → first ≤ length rs → AllWithin (λ r. r.bus < bus) rs 0 first → taken_to first ≡ []
  row_first first bound before =
      ap (map region_range) (none_first on rs first bound (λ k d less. apart (get_or rs k d) (λ same. let low = before k d (omega arith) less in (let no : ⊥ = omega (arith, low, same) in no))))

  pub row_last : (next end : ℕ) → next ≡ bus + 1 → end ≤ length rs → AllWithin (λ r. next ≤ r.bus) rs end (length rs) → taken_to end ≡ map region_range (filter on rs)
  row_last next end is bound after =
      ap (map region_range) (none_last on rs end bound (λ k d from less. apart (get_or rs k d) (λ same. let high = after k d from less in (let no : ⊥ = omega (arith, high, same, is) in no))))

  module _ (n : ℕ) (r : Region) (within : n < length rs) (is_at : r ≡ get_or rs n r) (here : bus ≡ r.bus) where
    next : taken_to (n + 1) ≡ taken_to n ++ map region_range (cond (is_taken space table r) (r ∷ []) [])
    next =
        ap (λ xs. map region_range (filter on xs)) (take_more rs n r within ∙ ap (λ x. take n rs ++ x ∷ []) (sym is_at))
        ∙ ap (map region_range) (filter-append on (take n rs) (r ∷ []) ∙ ap (λ b. filter on (take n rs) ++ cond b (r ∷ []) []) (beside r here))
        ∙ map-append region_range (filter on (take n rs)) (cond (is_taken space table r) (r ∷ []) [])

    pub row_more : (old new : List Range) → is_taken space table r ≡ true → new ≡ old ++ r.range ∷ [] → old ≡ taken_to n → new ≡ taken_to (n + 1)
    row_more old new kept put was =
        put ∙ ap (λ xs. xs ++ r.range ∷ []) was ∙ ap (λ b. taken_to n ++ map region_range (cond b (r ∷ []) [])) (sym kept) ∙ sym next

    pub row_same : (old new : List Range) → is_taken space table r ≡ false → new ≡ old → old ≡ taken_to n → new ≡ taken_to (n + 1)
    row_same old new off same was =
        same ∙ was ∙ sym (append-nil (taken_to n)) ∙ ap (λ b. taken_to n ++ map region_range (cond b (r ∷ []) [])) (sym off) ∙ sym next

-- the parts of a bus begin before those of the next
pub begins_before : (rs : List Region) (bus next i j : ℕ) → next ≡ bus + 1 → i ≤ length rs → AllWithin (λ r. r.bus < bus) rs 0 i → AllWithin (λ r. next ≤ r.bus) rs j (length rs) → i ≤ j
begins_before [] bus next i j e bound below from = omega arith
begins_before (r ∷ rs) bus next i j e bound below from = elim (cases_lt j i) [
  | inl less ↦ (let low : (get_or (r ∷ rs) j r).bus < bus = below j r (omega arith) less in
      let high : next ≤ (get_or (r ∷ rs) j r).bus = from j r (omega arith) (omega arith) in absurd (let no : ⊥ = omega (arith, low, high, e) in no))
  | inr le ↦ le
]

in_take : (n : ℕ) (rs : List Region) (r : Region) → Contains (take n rs) r → Contains rs r
in_take n rs r listed = subst (λ xs. Contains xs r) (take-append-drop n rs) (Contains-append_left (take n rs) (drop n rs) r listed)

-- these are ranges of parts, none of them backward
pub row_forward : (rs : List Region) (bus : ℕ) (space : Space) (table : List Kept) (functions : ℕ) → All (CanBeNoted functions) rs → (n : ℕ) (taken : List Range) → taken ≡ taken_to rs bus space table n → AreForwardRanges taken
row_forward rs bus space table functions ready n taken are k d low =
    let x = get_or taken k d in
    let there = subst (λ xs. Contains xs x) are (Contains-get_or taken k d low) in
    let made : IsMade region_range (filter (on rs bus space table) (take n rs)) x = in_map_to region_range (filter (on rs bus space table) (take n rs)) x there in
    let has = in_take n rs made.from (in_filter_to (on rs bus space table) (take n rs) made.from made.has).0 in
    subst (λ (y : Range). y.first ≤ y.last) made.is (All-contains (CanBeNoted functions) rs made.from ready has).forward

-- ---- with what lines hold there

pub taken_with : (rs : List Region) (lines : List Line) (bus n : ℕ) → n ≡ bus + 1 → (space : Space) (table : List Kept) (parts added taken : List Range) → parts ≡ map region_range (filter (is_taken_on bus space table) rs)
    → ((q : Request) (b : ℕ) → AreLines q.roots q.told.ranges lines → n ≡ level_of q.roots b → AreAdded parts added (lines_on q space b)) → IsPermutation added taken → AreTakenBehindBridge rs lines bus space table taken
taken_with rs lines bus n next space table parts added taken parts_are more sorted q are no_root =
    let put = more q bus are (next ∙ sym (ap (λ b. cond b 0 (bus + 1)) no_root)) in
    let held = lines_on q space bus in
    let own = map decoded_range_of parts in
    let both : map decoded_range_of added ≡ own ++ map decoded_range_of put.added = ap (map decoded_range_of) put.put ∙ map-append decoded_range_of parts put.added in
    subst (λ xs. IsPermutation (held ++ map decoded_range_of xs) (map decoded_range_of taken)) parts_are
    (IsPermutation-trans (held ++ own) (map decoded_range_of added) (map decoded_range_of taken)
    (IsPermutation-trans (held ++ own) (own ++ held) (map decoded_range_of added) (IsPermutation-append_comm held own)
    (subst (IsPermutation (own ++ held)) (sym both) (IsPermutation-append_right own held (map decoded_range_of put.added) put.same)))
    (IsPermutation-map decoded_range_of added taken sorted))

pub rising_sorted : (added taken : List Range) → AreForwardRanges added → IsPermutation added taken → FirstsRise taken → AreRisingRanges taken
rising_sorted added taken forward sorted order = record {
  order = order;
  forward = All-permutation (λ (r : Range). r.first ≤ r.last) added taken sorted forward;
}
