-- What is off, part by part.
use Rattle.std.proofs.Common.{◌≡◌, ℕ, zero, suc, ◌+◌, ◌<◌, ◌≤◌, List, [], ◌∷◌, ◌++◌, length, get_or, map, take, refl, sym, ◌∙◌, ap, subst, arith, Bool, true, false, ◌&&◌, not, if◌then◌else◌, append-nil, ◌-◌}
use Rattle.std.specs.List.{AllWithin, flat_map, filter}
use Rattle.std.proofs.lemmas.Bool.{false_from_ne_true}
use Rattle.std.proofs.lemmas.List.{append_assoc, flat_map_more, get_or-map, get_or_read, map-append, map_more, take_all, take_more}
use Rattle.std.proofs.lemmas.List.Elements.{filter-append, filter_agree}
use Rattle.pci_spec.specs.Slot.{Slot, IsSlot, same_slot, slot_number}
use Rattle.pci_spec.specs.Header.{command}
use Rattle.pci_spec.specs.System.{System, Function}
use Rattle.pci_spec.specs.Decoded.{HasRecords, record_of, decoded_bars}
use Rattle.pci_spec.specs.Decoded as decoded
use Rattle.pci_spec.specs.Listing.{kind_space}
use Rattle.pci_spec.proofs.Regions.{slot_number-same}
use Rattle.pci_spec.proofs.SameSlot.{slots_same}
use Rattle.judge_spec.specs.Told.{ToldRange, IsTold}
use Rattle.judge_spec.specs.ToldForm.{blank}
use Rattle.judge_spec.specs.ToldClaims.{Told, is_range_on}
use Rattle.judge_spec.specs.ToldRegion.{ToldRegion, regions_from, told_regions, is_off_at, off_ranges}
use Rattle.pci_image.specs.Bars.{decoded_bar_of}
use Rattle.pci_function.specs.Values.{record_value}
use Rattle.pci_function.specs.declared.record.Record.{Record}
use Rattle.pci_tree.proofs.Regions.{on_same}
use Rattle.pci_claims.proofs.Awake.{slot_itself}
use Rattle.pci_claims.specs.Off.{OffPart, OffBar, OffTold, off_parts_of, all_off_parts, is_bar_off, off_range_parts, off_record_parts}

-- ---- told ranges by index

abbrev pub one_region : ℕ → ToldRange → ToldRegion
one_region register r = record { register = register; told = r }

regions_length : (n : ℕ) (ranges : List ToldRange) → length (regions_from n ranges) ≡ length ranges
regions_length n [] = refl
regions_length n (r ∷ ranges) = ap (λ k. suc k) (regions_length (n + 1) ranges)

region_at : (n : ℕ) (ranges : List ToldRange) (k : ℕ) (z : ToldRegion) (d : ToldRange) → k < length ranges → get_or (regions_from n ranges) k z ≡ one_region (n + k) (get_or ranges k d)
region_at n [] k z d within = absurd (omega (arith, within))
region_at n (r ∷ ranges) zero z d within = let e : n ≡ n + 0 = omega arith in ap (λ m. one_region m r) e
region_at n (r ∷ ranges) (suc k) z d within =
    let e : n + 1 + k ≡ n + suc k = omega arith in
    region_at (n + 1) ranges k z d (omega (arith, within)) ∙ ap (λ m. one_region m (get_or ranges k d)) e

-- ---- those of a slot that are off, up to an index

off_here : (x : ToldRegion) (b : Bool) → map OffTold (if not b then x ∷ [] else []) ≡ off_range_parts x b
off_here x true = refl
off_here x false = refl

module _ (told : Told) (s : System) (slot : Slot) where
  abbrev pub up_to : ℕ → List OffPart
  up_to k = map OffTold (filter (is_off_at told s slot) (take k (told_regions told)))

  abbrev kept : ToldRegion → Bool → List OffPart
  kept x b = map OffTold (if b then x ∷ [] else [])

  step : (k : ℕ) (d : ToldRange) → k < length told.ranges → (let x : ToldRegion = one_region (256 + k) (get_or told.ranges k d) in up_to (k + 1) ≡ up_to k ++ kept x (is_off_at told s slot x))
  step k d within =
      let size : length (told_regions told) ≡ length told.ranges = regions_length 256 told.ranges in
      let x : ToldRegion = one_region (256 + k) (get_or told.ranges k d) in
      let before = take k (told_regions told) in
      ap (λ xs. map OffTold (filter (is_off_at told s slot) xs)) (take_more (told_regions told) k x (omega (arith, within, size)) ∙ ap (λ y. before ++ y ∷ []) (region_at 256 told.ranges k x d within))
      ∙ ap (map OffTold) (filter-append (is_off_at told s slot) before (x ∷ []))
      ∙ map-append OffTold (filter (is_off_at told s slot) before) (if is_off_at told s slot x then x ∷ [] else [])

  -- those of other slots add nothing
  none_of : (n k m : ℕ) → m ≡ k + n → m ≤ length told.ranges → ((j : ℕ) (d : ToldRange) → k ≤ j → j < m → slot_number (get_or told.ranges j d).slot ≡ slot_number slot → ⊥) → up_to m ≡ up_to k
  none_of zero k m is within differ = let same : m ≡ k = omega (arith, is) in ap up_to same
  none_of (suc n) k m is within differ =
      let i = k + n in
      let last : m ≡ i + 1 = omega (arith, is) in
      let r = get_or told.ranges i blank in
      let other : same_slot r.slot slot ≡ false = false_from_ne_true _ (λ same. differ i blank (omega arith) (omega (arith, last)) (ap slot_number (slots_same r.slot slot same))) in
      ap up_to last
      ∙ step i blank (omega (arith, within, last))
      ∙ ap (λ b. up_to i ++ kept (one_region (256 + i) r) (b && not (is_range_on told s r))) other
      ∙ append-nil (up_to i)
      ∙ none_of n k i refl (omega (arith, within, last)) (λ j d from less. differ j d from (omega (arith, less, last)))

  one_more : (k : ℕ) (r : ToldRange) (b : Bool) → k < length told.ranges → r ≡ get_or told.ranges k r → r.slot ≡ slot → b ≡ is_range_on told s r → up_to (k + 1) ≡ up_to k ++ off_range_parts (one_region (256 + k) r) b
  one_more k r b within at here is_on =
      let x : ToldRegion = one_region (256 + k) r in
      step k r within
      ∙ ap (λ (y : ToldRange). up_to k ++ kept (one_region (256 + k) y) (is_off_at told s slot (one_region (256 + k) y))) (sym at)
      ∙ ap (λ c. up_to k ++ kept x (c && not (is_range_on told s r))) (ap (λ y. same_slot y slot) here ∙ slot_itself slot)
      ∙ ap (λ c. up_to k ++ kept x (not c)) (sym is_on)
      ∙ ap (λ ps. up_to k ++ ps) (off_here x b)

  all_of_them : up_to (length told.ranges) ≡ map OffTold (off_ranges told s slot)
  all_of_them = ap (λ xs. map OffTold (filter (is_off_at told s slot) xs)) (take_all (length told.ranges) (told_regions told) (let size = regions_length 256 told.ranges in omega (arith, size)))

-- ---- where it is known of each range whether it is on

module _ (told : Told) (on : List Bool) (slot : Slot) where
  -- those up to an index were added
  abbrev pub AreAddedTo : ℕ → List OffPart → List OffPart → Type 0
  AreAddedTo k old new = (s : System) → on ≡ map (is_range_on told s) told.ranges → new ≡ old ++ up_to told s slot k

  abbrev HasNoneFrom : ℕ → Type 0
  HasNoneFrom k = (j : ℕ) (d : ToldRange) → k ≤ j → j < length told.ranges → slot_number (get_or told.ranges j d).slot ≡ slot_number slot → ⊥

  pub added_none : (first : ℕ) (old : List OffPart) → first ≤ length told.ranges → AllWithin (λ r. slot_number r.slot < slot_number slot) told.ranges 0 first → AreAddedTo first old old
  added_none first old high before s flagged =
      sym (append-nil old)
      ∙ ap (λ ps. old ++ ps) (sym (none_of told s slot first 0 first (omega arith) high (λ j d low less e. let below = before j d low less in omega (arith, below, e))))

  pub added_more : (k : ℕ) (r : ToldRange) (old now new : List OffPart) → k < length told.ranges → r ≡ get_or told.ranges k r → r.slot ≡ slot → AreAddedTo k old now
      → new ≡ now ++ off_range_parts (one_region (256 + k) r) (get_or on k false) → AreAddedTo (k + 1) old new
  added_more k r old now new within at here so added s flagged =
      let b = get_or on k false in
      let is_on : b ≡ is_range_on told s r = ap (λ l. get_or l k false) flagged ∙ get_or-map (is_range_on told s) told.ranges k r false within ∙ ap (is_range_on told s) (sym at) in
      added ∙ ap (λ ps. ps ++ off_range_parts (one_region (256 + k) r) b) (so s flagged)
      ∙ append_assoc old (up_to told s slot k) (off_range_parts (one_region (256 + k) r) b)
      ∙ ap (λ ps. old ++ ps) (sym (one_more told s slot k r b within at here is_on))

  -- behind one of a higher slot none is of the slot
  pub none_behind : (i : ℕ) (r : ToldRange) → IsTold told.ranges → IsSlot slot → i < length told.ranges → r ≡ get_or told.ranges i r → AllWithin (λ x. slot_number slot ≤ slot_number x.slot) told.ranges i (length told.ranges) → (r.slot ≡ slot → ⊥) → HasNoneFrom i
  none_behind i r lawful is_slot within at after other j d from inside e =
      let low : slot_number slot ≤ slot_number r.slot = subst (λ (x : ToldRange). slot_number slot ≤ slot_number x.slot) (sym at) (after i r (omega arith) within) in
      let up : slot_number (get_or told.ranges i d).slot ≤ slot_number (get_or told.ranges j d).slot = lawful.order i j d from inside in
      let here : slot_number r.slot ≡ slot_number (get_or told.ranges i d).slot = ap (λ (x : ToldRange). slot_number x.slot) (get_or_read told.ranges i r within at d) in
      other (slot_number-same r.slot slot (subst (λ (x : ToldRange). IsSlot x.slot) (sym at) (lawful.each i r within).line.slot) is_slot (let same : slot_number r.slot ≡ slot_number slot = omega (arith, low, up, here, e) in same))

  pub added_all : (k : ℕ) (old new : List OffPart) → k ≤ length told.ranges → HasNoneFrom k → AreAddedTo k old new → (s : System) → on ≡ map (is_range_on told s) told.ranges → new ≡ old ++ map OffTold (off_ranges told s slot)
  added_all k old new within none so s flagged =
      so s flagged
      ∙ ap (λ ps. old ++ ps) (sym (none_of told s slot (length told.ranges - k) k (length told.ranges) (omega (arith, within)) (omega arith) none) ∙ all_of_them told s slot)

-- ---- function by function

module _ (told : Told) (s : System) where
  pub records_more : (records : List Record) (k : ℕ) (r : Record) (now mid new : List OffPart) → k < length records → r ≡ get_or records k r
      → now ≡ flat_map (off_record_parts told s) (map record_value (take k records))
      → mid ≡ now ++ map (OffBar r.slot) (filter (is_bar_off r.command) (map decoded_bar_of r.bars.items)) → new ≡ mid ++ map OffTold (off_ranges told s r.slot)
      → new ≡ flat_map (off_record_parts told s) (map record_value (take (k + 1) records))
  records_more records k r now mid new within at so bars ranges =
      let early = map record_value (take k records) in
      let more : map record_value (take (k + 1) records) ≡ early ++ record_value r ∷ [] = map_more record_value records k r within ∙ ap (λ y. early ++ record_value y ∷ []) (sym at) in
      let own_bars = map (OffBar r.slot) (filter (is_bar_off r.command) (map decoded_bar_of r.bars.items)) in
      let own_ranges = map OffTold (off_ranges told s r.slot) in
      ranges ∙ ap (λ ps. ps ++ own_ranges) (bars ∙ ap (λ ps. ps ++ own_bars) so)
      ∙ append_assoc (flat_map (off_record_parts told s) early) own_bars own_ranges
      ∙ flat_map_more (off_record_parts told s) [] early (record_value r)
      ∙ ap (flat_map (off_record_parts told s)) (sym more)

  parts_of_each : (fs : List Function) → flat_map (off_record_parts told s) (map record_of fs) ≡ flat_map (off_parts_of told s) fs
  parts_of_each [] = refl
  parts_of_each (f ∷ fs) =
      ap (λ ps. (ps ++ map OffTold (off_ranges told s f.slot)) ++ flat_map (off_record_parts told s) (map record_of fs)) (ap (map (OffBar f.slot)) (filter_agree (is_bar_off (command f.image)) _ (λ b. ap not (sym (on_same f (kind_space b.kind)))) (decoded_bars f.image f.probe)))
      ∙ ap (λ ps. off_parts_of told s f ++ ps) (parts_of_each fs)

  -- of a system with these records
  pub parts_of_system : (records : List decoded.Record) → HasRecords s records → flat_map (off_record_parts told s) records ≡ all_off_parts told s
  parts_of_system records has = ap (flat_map (off_record_parts told s)) (sym has.same) ∙ parts_of_each s
