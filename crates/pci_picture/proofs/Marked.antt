-- The cuts of a section are the ends of its regions, and those of the ranges that its faults tell.
use Rattle.std.proofs.Common.{◌≡◌, ◌⊎◌, ◌<◌, ◌≤◌, ◌+◌, ℕ, Bool, true, false, List, [], ◌∷◌, ◌++◌, map, sym, ap, subst, ◌∙◌, inl, inr, arith}
use Rattle.std.specs.Prelude.{not, ◌↔◌}
use Rattle.std.specs.List.{Any, filter}
use Rattle.std.specs.List.Sorted.{IsPermutation}
use Rattle.std.proofs.lemmas.Bool.{cases_Bool}
use Rattle.std.proofs.lemmas.List.Sorted.{IsPermutation-sym}
use Rattle.pci_picture.specs.Cuts.{HasCutAt, cut_of_region, cuts_told, end_of_region, ends_of_all_told, ends_of_kind, ends_of_told, extents_told, is_of_kind, is_window_part}
use Rattle.pci_picture.specs.Drawings.{ArePlanned}
use Rattle.pci_picture.specs.Heights.{AreNeighbours, AddressRange, HasHeights}
use Rattle.pci_picture.specs.Maps.{lines_of_regions}
use Rattle.pci_picture.specs.Spots.{IsInSomeRegion, IsCutOf, IsEndOf, IsEndOfExtent, base_of_section, first_address, region_last_address}
use Rattle.pci_picture.specs.Stacked.{height_at, AreHeights, IsCoveredIn}
use Rattle.pci_picture.specs.declared.heights.Cut.{Cut}
use Rattle.pci_picture.specs.declared.heights.Run.{Run}
use Rattle.pci_picture.specs.declared.tellings.Told.{Told}
use Rattle.pci_picture.specs.declared.region.Region.{Region}
use Rattle.pci_picture.proofs.Anys.{any_cases, any_first, any_flat, any_flattened, any_kept, any_map, any_mapped, any_more, any_moved, any_next, any_none, any_of_filter, any_right, any_split, any_weaken}

-- ---- cuts of regions and of told ranges

abbrev first_of : Told → Cut
first_of range = record { at = range.first; end = range.first }

abbrev last_of : Told → Cut
last_of range = record { at = range.last + 1; end = range.last + 1 }

module _ (P : Cut → Type 0) where
  -- some cut of told ranges
  told_any : (Q : AddressRange → Type 0) (ranges : List Told)
      → ((range : Told) → Any P (ends_of_told range) → Q (record { first = range.first; last = range.last }))
      → Any P (ends_of_all_told ranges) → Any Q (extents_told ranges)
  told_any Q ranges each any =
      any_mapped Q (λ range. record { first = range.first; last = range.last }) ranges
      (any_weaken (λ range. Any P (ends_of_told range)) (λ range. Q (record { first = range.first; last = range.last })) ranges each
      (any_flat P ends_of_told ranges any))

  any_told : (Q : AddressRange → Type 0) (ranges : List Told)
      → ((range : Told) → Q (record { first = range.first; last = range.last }) → Any P (ends_of_told range))
      → Any Q (extents_told ranges) → Any P (ends_of_all_told ranges)
  any_told Q ranges each any =
      any_flattened P ends_of_told ranges
      (any_weaken (λ range. Q (record { first = range.first; last = range.last })) (λ range. Any P (ends_of_told range)) ranges each
      (any_map Q (λ range. record { first = range.first; last = range.last }) ranges any))

  -- some cut of all: one at which a region begins, one at which it ends, or one of a told range
  cut_cases : (regions : List Region) (shared fits : List Told) → Any P (cuts_told regions shared fits)
      → Any (λ region. P (cut_of_region region)) regions ⊎ Any (λ region. P (end_of_region region)) regions ⊎ Any P (ends_of_all_told (shared ++ fits))
  cut_cases regions shared fits any =
      let begins : List Cut = map cut_of_region regions in
      let others : List Cut = ends_of_kind false regions in
      let windows : List Cut = ends_of_kind true regions in
      let one : List Cut = ends_of_all_told shared in
      let ends : (kind : Bool) → Any P (ends_of_kind kind regions) → Any (λ region. P (end_of_region region)) regions =
      λ kind some. any_of_filter (λ region. P (end_of_region region)) (is_of_kind kind) regions
      (any_map P end_of_region (filter (is_of_kind kind) regions) some) in
      let told : Any (λ range. Any P (ends_of_told range)) (shared ++ fits) → Any P (ends_of_all_told (shared ++ fits)) =
      any_flattened P ends_of_told (shared ++ fits) in
      elim (any_cases P (begins ++ others ++ windows ++ one) (ends_of_all_told fits) any) [
        | inr last ↦ inr (inr (told (any_right (λ range. Any P (ends_of_told range)) shared fits (any_flat P ends_of_told fits last))))
        | inl rest ↦ elim (any_cases P (begins ++ others ++ windows) one rest) [
          | inr first ↦ inr (inr (told (any_more (λ range. Any P (ends_of_told range)) shared fits (any_flat P ends_of_told shared first))))
          | inl rest ↦ elim (any_cases P (begins ++ others) windows rest) [
            | inr window ↦ inr (inl (ends true window))
            | inl rest ↦ elim (any_cases P begins others rest) [
              | inr other ↦ inr (inl (ends false other))
              | inl begin ↦ inl (any_map P cut_of_region regions begin)
            ]
          ]
        ]
      ]

  begin_cut : (regions : List Region) (shared fits : List Told) → Any (λ region. P (cut_of_region region)) regions → Any P (cuts_told regions shared fits)
  begin_cut regions shared fits any =
      let begins : List Cut = map cut_of_region regions in
      let others : List Cut = ends_of_kind false regions in
      let windows : List Cut = ends_of_kind true regions in
      let one : List Cut = ends_of_all_told shared in
      any_more P (begins ++ others ++ windows ++ one) (ends_of_all_told fits) (any_more P (begins ++ others ++ windows) one
      (any_more P (begins ++ others) windows (any_more P begins others (any_mapped P cut_of_region regions any))))

  end_cut : (regions : List Region) (shared fits : List Told) → Any (λ region. P (end_of_region region)) regions → Any P (cuts_told regions shared fits)
  end_cut regions shared fits (k, region, lt, is, p) =
      let begins : List Cut = map cut_of_region regions in
      let others : List Cut = ends_of_kind false regions in
      let windows : List Cut = ends_of_kind true regions in
      let one : List Cut = ends_of_all_told shared in
      let kept : (kind : Bool) → is_of_kind kind region ≡ true → Any P (ends_of_kind kind regions) =
      λ kind holds. any_mapped P end_of_region (filter (is_of_kind kind) regions)
      (any_kept (λ r. P (end_of_region r)) (is_of_kind kind) regions (k, region, lt, is, (p, holds))) in
      any_more P (begins ++ others ++ windows ++ one) (ends_of_all_told fits) (any_more P (begins ++ others ++ windows) one
      (elim (cases_Bool (is_window_part region.part)) [
        | inl window ↦ any_right P (begins ++ others) windows (kept true window)
        | inr other ↦ any_more P (begins ++ others) windows (any_right P begins others (kept false (ap not other)))
      ]))

  told_cut : (regions : List Region) (shared fits : List Told) → Any P (ends_of_all_told (shared ++ fits)) → Any P (cuts_told regions shared fits)
  told_cut regions shared fits any =
      let begins : List Cut = map cut_of_region regions in
      let others : List Cut = ends_of_kind false regions in
      let windows : List Cut = ends_of_kind true regions in
      let one : List Cut = ends_of_all_told shared in
      elim (any_cases (λ range. Any P (ends_of_told range)) shared fits (any_flat P ends_of_told (shared ++ fits) any)) [
        | inl first ↦ any_more P (begins ++ others ++ windows ++ one) (ends_of_all_told fits)
            (any_right P (begins ++ others ++ windows) one (any_flattened P ends_of_told shared first))
        | inr last ↦ any_right P (begins ++ others ++ windows ++ one) (ends_of_all_told fits) (any_flattened P ends_of_told fits last)
      ]

-- ---- the cuts of a section

begins_at : (region : Region) → region.first ≡ first_address region.line.now
unfolding first_address
begins_at region = region.ends.first_is

ends_at : (region : Region) → region.last ≡ region_last_address region.line.now
unfolding region_last_address
ends_at region = region.ends.last_is

cut_is : (address : ℕ) (regions : List Region) (shared fits : List Told)
    → Any (λ cut. cut.at ≡ address) (cuts_told regions shared fits) → IsCutOf (lines_of_regions regions) (extents_told (shared ++ fits)) address
cut_is address regions shared fits any =
    let line : Region → List ℕ = λ region. region.line.now in
    elim (cut_cases (λ cut. cut.at ≡ address) regions shared fits any) [
      | inl begins ↦ inl (any_mapped (IsEndOf address) line regions
          (any_weaken (λ region. region.first ≡ address) (λ region. IsEndOf address region.line.now) regions (λ region at. inl (sym at ∙ begins_at region)) begins))
      | inr (inl ends) ↦ inl (any_mapped (IsEndOf address) line regions
          (any_weaken (λ region. region.last + 1 ≡ address) (λ region. IsEndOf address region.line.now) regions
          (λ region at. inr (sym at ∙ ap (λ n. n + 1) (ends_at region))) ends))
      | inr (inr told) ↦ inr (told_any (λ cut. cut.at ≡ address) (IsEndOfExtent address) (shared ++ fits)
          (λ range some. elim (any_split (λ cut. cut.at ≡ address) (first_of range) (last_of range ∷ []) some) [
            | inl first ↦ inl (sym first)
            | inr rest ↦ elim (any_split (λ cut. cut.at ≡ address) (last_of range) [] rest) [
              | inl last ↦ inr (sym last)
              | inr none ↦ absurd (any_none (λ cut. cut.at ≡ address) none)
            ]
          ]) told)
    ]

is_cut : (address : ℕ) (regions : List Region) (shared fits : List Told) → IsCutOf (lines_of_regions regions) (extents_told (shared ++ fits)) address
    → Any (λ cut. cut.at ≡ address) (cuts_told regions shared fits)
is_cut address regions shared fits (inl any) =
    let P : Cut → Type 0 = λ cut. cut.at ≡ address in
    let (k, region, lt, is, end) = any_map (IsEndOf address) (λ region. region.line.now) regions any in
    elim end [
      | inl first ↦ begin_cut P regions shared fits (k, region, lt, is, begins_at region ∙ sym first)
      | inr last ↦ end_cut P regions shared fits (k, region, lt, is, ap (λ n. n + 1) (ends_at region) ∙ sym last)
    ]
is_cut address regions shared fits (inr any) =
    let P : Cut → Type 0 = λ cut. cut.at ≡ address in
    told_cut P regions shared fits (any_told P (IsEndOfExtent address) (shared ++ fits)
    (λ range end. elim end [
      | inl first ↦ any_first P (first_of range) (last_of range ∷ []) (sym first)
      | inr last ↦ any_next P (first_of range) (last_of range ∷ []) (any_first P (last_of range) [] (sym last))
    ]) any)

covered_is : (address : ℕ) (regions : List Region) (shared fits : List Told) → IsCoveredIn (cuts_told regions shared fits) address
    → IsInSomeRegion (lines_of_regions regions) address
covered_is address regions shared fits any =
    let P : Cut → Type 0 = λ cut. (cut.at ≤ address) × (address < cut.end) in
    let Has : List ℕ → Type 0 = λ line. (first_address line ≤ address) × (address < region_last_address line + 1) in
    elim (cut_cases P regions shared fits any) [
      | inl begins ↦ any_mapped Has (λ region. region.line.now) regions
          (any_weaken (λ region. P (cut_of_region region)) (λ region. Has region.line.now) regions
          (λ region (low, high). (omega (arith, low, begins_at region), omega (arith, high, ends_at region))) begins)
      | inr (inl (k, region, lt, is, (low, high))) ↦ absurd (omega (arith, low, high))
      | inr (inr told) ↦ absurd (let (k, range, lt, is, some) = any_flat P ends_of_told (shared ++ fits) told in
          elim (any_split P (first_of range) (last_of range ∷ []) some) [
            | inl (low, high) ↦ omega (arith, low, high)
            | inr rest ↦ elim (any_split P (last_of range) [] rest) [
              | inl (low, high) ↦ omega (arith, low, high)
              | inr none ↦ any_none P none
            ]
          ])
    ]

is_covered : (address : ℕ) (regions : List Region) (shared fits : List Told) → IsInSomeRegion (lines_of_regions regions) address
    → IsCoveredIn (cuts_told regions shared fits) address
is_covered address regions shared fits any =
    let Has : List ℕ → Type 0 = λ line. (first_address line ≤ address) × (address < region_last_address line + 1) in
    let (k, region, lt, is, (low, high)) = any_map Has (λ region. region.line.now) regions any in
    begin_cut (λ cut. (cut.at ≤ address) × (address < cut.end)) regions shared fits
    (k, region, lt, is, (omega (arith, low, begins_at region), omega (arith, high, ends_at region)))

-- ---- so they stand by the rule

-- the heights hang on what the cuts and the covered addresses are
heights_alike : (base top bottom : ℕ) (IsCut IsOther Covers OtherCovers : ℕ → Type 0) (height_of : ℕ → ℕ)
    → ((address : ℕ) → IsCut address ↔ IsOther address) → ((address : ℕ) → Covers address ↔ OtherCovers address)
    → HasHeights base top bottom IsCut Covers height_of → HasHeights base top bottom IsOther OtherCovers height_of
heights_alike base top bottom IsCut IsOther Covers OtherCovers height_of cuts covers heights =
    let next : (low high : ℕ) → AreNeighbours IsOther low high → AreNeighbours IsCut low high =
    λ low high next. record {
      low_is_cut = (cuts low).1 next.low_is_cut;
      high_is_cut = (cuts high).1 next.high_is_cut;
      rises = next.rises;
      none_between = λ address cut. next.none_between address ((cuts address).0 cut);
    } in
    record {
      begins = λ first cut least. heights.begins first ((cuts first).1 cut) (λ other is. least other ((cuts other).0 is));
      ends = λ last cut greatest. heights.ends last ((cuts last).1 cut) (λ other is. greatest other ((cuts other).0 is));
      covered = λ low high between on. heights.covered low high (next low high between) ((covers low).1 on);
      gap = λ low high between off. heights.gap low high (next low high between) (λ on. off ((covers low).0 on));
    }

cuts_rise : (cuts : List Cut) (runs : List Run) (bottom base top low high : ℕ) → AreHeights base top cuts runs bottom
    → HasCutAt cuts low → HasCutAt cuts high → low < high → height_at runs bottom low < height_at runs bottom high
cuts_rise cuts runs bottom base top low high heights (k, one, lt, is, at) (j, other, lt', is', at') less =
    subst (λ a. height_at runs bottom a < height_at runs bottom high) at
    (subst (λ b. height_at runs bottom one.at < height_at runs bottom b) at'
    (heights.rise one other (k, lt, is) (j, lt', is') (omega (arith, at, at', less))))

planned : (number top : ℕ) (regions : List Region) (shared fits : List Told) (cuts : List Cut) (runs : List Run) (bottom : ℕ)
    → AreHeights (base_of_section number) top cuts runs bottom → IsPermutation (cuts_told regions shared fits) cuts
    → ArePlanned number top (extents_told (shared ++ fits)) (lines_of_regions regions) runs bottom
planned number top regions shared fits cuts runs bottom heights moved =
    let told : List Cut = cuts_told regions shared fits in
    let back : IsPermutation cuts told = IsPermutation-sym told cuts moved in
    let lines : List (List ℕ) = lines_of_regions regions in
    let ranges : List AddressRange = extents_told (shared ++ fits) in
    let same_cuts : (address : ℕ) → HasCutAt cuts address ↔ IsCutOf lines ranges address =
    λ address. (
      λ has. cut_is address regions shared fits (any_moved (λ cut. cut.at ≡ address) cuts told back has),
      λ is. any_moved (λ cut. cut.at ≡ address) told cuts moved (is_cut address regions shared fits is),
    ) in
    let same_covered : (address : ℕ) → IsCoveredIn cuts address ↔ IsInSomeRegion lines address =
    λ address. (
      λ on. covered_is address regions shared fits (any_moved (λ cut. (cut.at ≤ address) × (address < cut.end)) cuts told back on),
      λ on. any_moved (λ cut. (cut.at ≤ address) × (address < cut.end)) told cuts moved (is_covered address regions shared fits on),
    ) in
    record {
      sorted = heights.sorted;
      rise = λ low high one other less.
          cuts_rise cuts runs bottom (base_of_section number) top low high heights ((same_cuts low).1 (inl one)) ((same_cuts high).1 (inl other)) less;
      by_rule =
          heights_alike (base_of_section number) top bottom (HasCutAt cuts) (IsCutOf lines ranges) (IsCoveredIn cuts) (IsInSomeRegion lines)
          (height_at runs bottom) same_cuts same_covered heights.by_rule;
    }

pub planned_of : (number base top y : ℕ) (every regions : List Region) (told : List AddressRange) (shared fits : List Told) (cuts sorted : List Cut) (runs : List Run) (bottom : ℕ)
    → extents_told (shared ++ fits) ≡ told → base ≡ base_of_section number → top ≡ y + 22 → every ≡ regions → cuts ≡ sorted
    → AreHeights base top cuts runs bottom → IsPermutation (cuts_told every shared fits) sorted
    → ArePlanned number (y + 22) told (lines_of_regions regions) runs bottom
planned_of number base top y every regions told shared fits cuts sorted runs bottom told_is base_is top_is same sorted_is heights moved =
    subst (λ ranges. ArePlanned number (y + 22) ranges (lines_of_regions regions) runs bottom) told_is
    (planned number (y + 22) regions shared fits cuts runs bottom
    (subst (λ t. AreHeights (base_of_section number) t cuts runs bottom) top_is (subst (λ b. AreHeights b top cuts runs bottom) base_is heights))
    (subst (IsPermutation (cuts_told regions shared fits)) (sym sorted_is) (subst (λ l. IsPermutation (cuts_told l shared fits) sorted) same moved)))
