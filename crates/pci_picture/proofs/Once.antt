-- Each region of a map is drawn once.
use Rattle.std.proofs.Common.{◌≡◌, ◌<◌, ℕ, zero, suc, Bool, true, false, cond, List, [], ◌∷◌, ◌++◌, map, length, refl, sym, ap, subst, ◌∙◌, arith, ◌⊎◌, inl, inr}
use Rattle.std.specs.List.{All, AllPairs, Any, filter, flat_map, slice_split}
use Rattle.std.specs.List.Sorted.{IsPermutation}
use Rattle.std.proofs.lemmas.Bool.{eq-eqb, ne_eqb}
use Rattle.std.proofs.lemmas.Bool.Decides.{eqb_tells}
use Rattle.std.proofs.lemmas.List.{append_assoc, map-append}
use Rattle.std.proofs.lemmas.List.Elements.{All-head, All-tail}
use Rattle.std.proofs.lemmas.List.Sorted.{IsPermutation-append, IsPermutation-append_comm, IsPermutation-append_left, IsPermutation-append_right, IsPermutation-cons, IsPermutation-middle, IsPermutation-refl, IsPermutation-sym, IsPermutation-trans}
use Rattle.pci_picture.specs.Boxes.{EachRegionOnce}
use Rattle.pci_picture.specs.Headings.{Headed, IsSectionOf, ReadSoFar, at_begin, depth_of_line, headed, headed_behind, headed_lines, headed_regions, is_lost, is_below_no_heading, is_section, lines_below_headings, read_on}
use Rattle.pci_picture.specs.Lines.{is_feed, indented_if_region}
use Rattle.pci_picture.specs.Spots.{Section, all_of, lines_drawn}
use Rattle.pci_picture.specs.declared.map.Heading.{Heading}
use Rattle.pci_picture.specs.declared.map.Heading.TheVariants.{Section as InSection, Lost, Off}
use Rattle.pci_picture.proofs.Groups.{pairs_head, pairs_tail}
use Rattle.pci_picture.proofs.Headings.{map_headed}

abbrev lines_in : List Headed → List (List ℕ)
lines_in regions = map (λ region. region.line) regions

lines_headed : (reading : ReadSoFar) (lines : List (List ℕ)) → lines_in (headed_lines reading lines) ≡ flat_map indented_if_region lines
lines_headed reading [] = refl
lines_headed reading (line ∷ lines) =
    map-append (λ region. region.line) (headed_behind reading line) (headed_lines (read_on reading line) lines)
    ∙ ap (λ l. l ++ lines_in (headed_lines (read_on reading line) lines)) (map_headed reading (depth_of_line reading line) (indented_if_region line))
    ∙ ap (λ l. indented_if_region line ++ l) (lines_headed (read_on reading line) lines)

-- ---- regions by sections

abbrev below : List Headed → Section → List (List ℕ)
below regions section = lines_below_headings (is_section section.number) regions

abbrev in_sections : List Section → List Headed → List (List ℕ)
in_sections sections regions = flat_map (below regions) sections

abbrev Rises : List Section → Type 0
Rises sections = AllPairs (λ one other. one.number < other.number) sections

-- one region more of a section that is none of these
none_of_them : (sections : List Section) (n depth top : ℕ) (line : List ℕ) (regions : List Headed) → All (λ section. n < section.number) sections
    → in_sections sections (headed (InSection n) depth top line ∷ regions) ≡ in_sections sections regions
none_of_them [] n depth top line regions above = refl
none_of_them (section ∷ sections) n depth top line regions above =
    let less : n < section.number = All-head (λ s. n < s.number) section sections above in
    rw (ne_eqb n section.number (λ same. omega (arith, less, same)))
    (ap (λ l. below regions section ++ l) (none_of_them sections n depth top line regions (All-tail (λ s. n < s.number) section sections above)))

no_section : (n : ℕ) → Any (λ (section : Section). section.number ≡ n) [] → ⊥
no_section n (k, section, inside, at, is) = omega (arith, inside)

found_behind : (n : ℕ) (section : Section) (sections : List Section) → (section.number ≡ n → ⊥) → Any (λ s. s.number ≡ n) (section ∷ sections)
    → Any (λ s. s.number ≡ n) sections
found_behind n section sections apart (zero, other, inside, at, is) = absurd (apart (ap (λ s. s.number) at ∙ is))
found_behind n section sections apart (suc k, other, inside, at, is) = (k, other, omega (arith, inside), at, is)

-- one region more of one of them
one_of_them : (sections : List Section) (n depth top : ℕ) (line : List ℕ) (regions : List Headed) → Rises sections → Any (λ section. section.number ≡ n) sections
    → IsPermutation (line ∷ in_sections sections regions) (in_sections sections (headed (InSection n) depth top line ∷ regions))
one_of_them [] n depth top line regions rise found = absurd (no_section n found)
one_of_them (section ∷ sections) n depth top line regions rise found =
    elim (eqb_tells section.number n) [
      | inl same ↦
          let above : All (λ s. n < s.number) sections =
          subst (λ m. All (λ s. m < s.number) sections) same.1 (pairs_head (λ one other. one.number < other.number) section sections rise) in
          rw (eq-eqb n section.number (sym same.1))
          (subst (λ l. IsPermutation (line ∷ (below regions section ++ in_sections sections regions)) (line ∷ (below regions section ++ l)))
          (sym (none_of_them sections n depth top line regions above)) (IsPermutation-refl _))
      | inr apart ↦
          let rest = one_of_them sections n depth top line regions (pairs_tail (λ one other. one.number < other.number) section sections rise)
          (found_behind n section sections apart.1 found) in
          rw (ne_eqb n section.number (λ same. apart.1 (sym same)))
          (IsPermutation-trans _ _ _ (IsPermutation-sym _ _ (IsPermutation-middle (below regions section) line (in_sections sections regions)))
          (IsPermutation-append_right (below regions section) _ _ rest))
    ]

-- ---- all regions

abbrev parts : List Section → List Headed → List (List ℕ)
parts sections regions = in_sections sections regions ++ (lines_below_headings is_lost regions ++ lines_below_headings is_below_no_heading regions)

none_below : (sections : List Section) → in_sections sections [] ≡ []
none_below [] = refl
none_below (section ∷ sections) = none_below sections

one_more : (sections : List Section) (heading : Heading) (depth top : ℕ) (line : List ℕ) (regions : List Headed) → Rises sections
    → ((n : ℕ) → heading ≡ InSection n → Any (λ section. section.number ≡ n) sections)
    → IsPermutation (line ∷ parts sections regions) (parts sections (headed heading depth top line ∷ regions))
one_more sections (InSection n) depth top line regions rise found =
    IsPermutation-append_left (lines_below_headings is_lost regions ++ lines_below_headings is_below_no_heading regions) (line ∷ in_sections sections regions) _
    (one_of_them sections n depth top line regions rise (found n refl))
one_more sections Lost depth top line regions rise found =
    IsPermutation-sym _ _ (IsPermutation-middle (in_sections sections regions) line (lines_below_headings is_lost regions ++ lines_below_headings is_below_no_heading regions))
one_more sections Off depth top line regions rise found =
    let sections_and_lost = in_sections sections regions ++ lines_below_headings is_lost regions in
    subst (λ l. IsPermutation (line ∷ l) (in_sections sections regions ++ (lines_below_headings is_lost regions ++ line ∷ lines_below_headings is_below_no_heading regions)))
    (append_assoc (in_sections sections regions) (lines_below_headings is_lost regions) (lines_below_headings is_below_no_heading regions))
    (subst (λ l. IsPermutation (line ∷ (sections_and_lost ++ lines_below_headings is_below_no_heading regions)) l)
    (append_assoc (in_sections sections regions) (lines_below_headings is_lost regions) (line ∷ lines_below_headings is_below_no_heading regions))
    (IsPermutation-sym _ _ (IsPermutation-middle sections_and_lost line (lines_below_headings is_below_no_heading regions))))

abbrev Covers : List Section → List Headed → Type 0
Covers sections regions = (number : ℕ) → Any (λ section. section.number ≡ number) sections ⊎ (lines_below_headings (is_section number) regions ≡ [])

found_for : (sections : List Section) (regions : List Headed) (depth top : ℕ) (line : List ℕ) (heading : Heading) → Covers sections (headed heading depth top line ∷ regions)
    → (n : ℕ) → heading ≡ InSection n → Any (λ section. section.number ≡ n) sections
found_for sections regions depth top line heading covers n is =
    elim (covers n) [
      | inl found ↦ found
      | inr none ↦
          let some : lines_below_headings (is_section n) (headed heading depth top line ∷ regions) ≡ line ∷ lines_below_headings (is_section n) regions =
          ap (λ h. lines_below_headings (is_section n) (headed h depth top line ∷ regions)) is ∙ rw (eq-eqb n n refl) refl in
          let long : suc (length (lines_below_headings (is_section n) regions)) ≡ 0 = ap length (sym some ∙ none) in
          absurd (omega (arith, long))
    ]

less_by : (is : Bool) (depth top : ℕ) (line : List ℕ) (heading : Heading) (rest : List Headed) → lines_in (cond is (headed heading depth top line ∷ rest) rest) ≡ [] → lines_in rest ≡ []
less_by true depth top line heading rest none = let long : suc (length (lines_in rest)) ≡ 0 = ap length none in absurd (omega (arith, long))
less_by false depth top line heading rest none = none

parted : (sections : List Section) (regions : List Headed) → Rises sections → Covers sections regions → IsPermutation (lines_in regions) (parts sections regions)
parted sections [] rise covers = subst (λ l. IsPermutation [] (l ++ [])) (sym (none_below sections)) (IsPermutation-refl [])
parted sections (region ∷ regions) rise covers =
    let fewer : Covers sections regions = λ n. elim (covers n) [
      | inl found ↦ inl found
      | inr none ↦ inr (less_by (is_section n region.heading) region.depth region.top region.line region.heading (filter (λ r. is_section n r.heading) regions) none)
    ] in
    IsPermutation-trans _ _ _ (IsPermutation-cons region.line (lines_in regions) (parts sections regions) (parted sections regions rise fewer))
    (one_more sections region.heading region.depth region.top region.line regions rise (found_for sections regions region.depth region.top region.line region.heading covers))

-- ---- what is drawn

four : (a b c d : List (List ℕ)) → IsPermutation ((a ++ b) ++ (c ++ d)) ((a ++ c) ++ (b ++ d))
four a b c d =
    let inner : IsPermutation (b ++ (c ++ d)) (c ++ (b ++ d)) =
    subst (λ l. IsPermutation (b ++ (c ++ d)) l) (append_assoc c b d)
    (subst (λ l. IsPermutation l ((c ++ b) ++ d)) (append_assoc b c d)
    (IsPermutation-append_left d (b ++ c) (c ++ b) (IsPermutation-append_comm b c))) in
    subst (λ l. IsPermutation l ((a ++ c) ++ (b ++ d))) (sym (append_assoc a b (c ++ d)))
    (subst (λ l. IsPermutation (a ++ (b ++ (c ++ d))) l) (sym (append_assoc a c (b ++ d)))
    (IsPermutation-append_right a _ _ inner))

abbrev lost_in : List Section → List (List ℕ)
lost_in sections = flat_map (λ section. section.lost) sections

section_by_section : (regions : List Headed) (sections : List Section) → All (IsSectionOf regions) sections
    → IsPermutation (in_sections sections regions ++ lost_in sections) (lines_drawn (all_of sections))
section_by_section regions [] each = IsPermutation-refl []
section_by_section regions (section ∷ sections) each =
    subst (λ l. IsPermutation ((below regions section ++ in_sections sections regions) ++ (section.lost ++ lost_in sections)) l)
    (sym (map-append (λ spot. spot.line) section.spots (all_of sections)))
    (IsPermutation-trans _ _ _ (four (below regions section) (in_sections sections regions) section.lost (lost_in sections))
    (IsPermutation-append _ _ _ _ (All-head (IsSectionOf regions) section sections each)
    (section_by_section regions sections (All-tail (IsSectionOf regions) section sections each))))

pub each_once : EachRegionOnce
each_once map sections spots are rest =
    let regions : List Headed = headed_regions map in
    let inside : List (List ℕ) = in_sections sections regions in
    let off : List (List ℕ) = lines_below_headings is_below_no_heading regions in
    subst (λ l. IsPermutation l (lines_drawn (all_of sections ++ spots))) (lines_headed at_begin (slice_split is_feed map))
    (subst (λ l. IsPermutation (lines_in regions) l) (sym (map-append (λ spot. spot.line) (all_of sections) spots))
    (subst (λ l. IsPermutation (lines_in regions) (lines_drawn (all_of sections) ++ l)) (sym rest)
    (IsPermutation-trans _ _ _ (parted sections regions are.rise are.all)
    (subst (λ l. IsPermutation l (lines_drawn (all_of sections) ++ off)) (append_assoc inside (lines_below_headings is_lost regions) off)
    (IsPermutation-append_left off (inside ++ lines_below_headings is_lost regions) (lines_drawn (all_of sections))
    (IsPermutation-trans _ _ _ (IsPermutation-append_right inside (lines_below_headings is_lost regions) (lost_in sections) are.lost)
    (section_by_section regions sections are.each)))))))
