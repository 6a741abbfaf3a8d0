-- The regions of a map and their headings, while the map is read.
use Rattle.std.proofs.Common.{arith, ◌≡◌, ◌≤◌, ◌/◌, ℕ, true, false, if◌then◌else◌, nat_lt, Option, Some, None, List, [], ◌∷◌, ◌++◌, map, fold, length, refl, sym, ap, subst, ◌∙◌, inl, inr}
use Rattle.std.specs.List.{filter, slice_index_or, slice_split}
use Rattle.std.specs.List.Sorted.{IsPermutation}
use Rattle.std.proofs.lemmas.Bool.{cases_Bool, eq-eqb, le-ltb, ne_eqb}
use Rattle.std.proofs.lemmas.List.{append_assoc, append-nil, map-append}
use Rattle.std.proofs.lemmas.List.Elements.{filter-append}
use Rattle.std.proofs.lemmas.List.Sums.{fold-append}
use Rattle.pci_picture.specs.Headings.{Headed, ReadSoFar, at_begin, depth_behind, depth_of_line, headed, headed_at, headed_behind, headed_lines, is_below_heading, is_below_no_heading, lines_below_headings, read_on, reading_at, top_behind}
use Rattle.pci_picture.specs.Lines.{is_feed, indented_if_region, is_region_line, leading_blanks, line_if_region, unindented_line}
use Rattle.pci_picture.specs.Maps.{IsReadOf, TakesUp, heading_in, headed_line, lines_of_regions, lines_read, regions_under}
use Rattle.pci_picture.specs.declared.map.Heading.{Heading}
use Rattle.pci_picture.specs.declared.map.Line.{Line}
use Rattle.pci_picture.specs.Spots.{first_address}
use Rattle.pci_picture.specs.declared.map.Map.{Map}
use Rattle.pci_picture.specs.declared.region.Region.{Region}
use Rattle.pci_picture.proofs.Taken.{put_line, more_told, none_read}

-- ---- one more region

kept_alone : (section : Option ℕ) (depth top : ℕ) (bytes : List ℕ)
    → filter is_below_heading (headed (heading_in section) depth top bytes ∷ []) ≡ headed (heading_in section) depth top bytes ∷ []
kept_alone (Some n) depth top bytes = refl
kept_alone None depth top bytes = refl

not_off : (section : Option ℕ) (depth top : ℕ) (bytes : List ℕ) → lines_below_headings is_below_no_heading (headed (heading_in section) depth top bytes ∷ []) ≡ []
not_off (Some n) depth top bytes = refl
not_off None depth top bytes = refl

pub map_headed : (reading : ReadSoFar) (depth : ℕ) (lines : List (List ℕ)) → map (λ (region : Headed). region.line) (map (headed_at reading depth) lines) ≡ lines
map_headed reading depth [] = refl
map_headed reading depth (line ∷ lines) = ap (λ l. line ∷ l) (map_headed reading depth lines)

-- it goes to the lines
pub put_kept : {A : Type 0} (heading : Heading) (old new : Map A) (line : Line) → heading ≡ heading_in line.section
    → new.lines.items ≡ old.lines.items ++ line ∷ [] → new.off.items ≡ old.off.items
    → TakesUp (headed heading line.region.depth line.top line.region.line.now ∷ []) old new
put_kept heading old new line is more same =
    subst (λ h. TakesUp (headed h line.region.depth line.top line.region.line.now ∷ []) old new) (sym is)
    (record {
      each_once =
          subst (λ o. IsPermutation (lines_read old ++ line.region.line.now ∷ []) (lines_of_regions (regions_under new.lines.items) ++ o)) (sym (ap lines_of_regions same))
          (put_line old.lines.items new.lines.items (lines_of_regions old.off.items) line more);
      kept =
          ap (map headed_line) more ∙ map-append headed_line old.lines.items (line ∷ [])
          ∙ ap (λ l. map headed_line old.lines.items ++ l) (sym (kept_alone line.section line.region.depth line.top line.region.line.now));
      off =
          ap lines_of_regions same ∙ sym (append-nil (lines_of_regions old.off.items))
          ∙ ap (λ l. lines_of_regions old.off.items ++ l) (sym (not_off line.section line.region.depth line.top line.region.line.now));
    })

-- ---- one more line

-- a line with two blanks before it, which is a region without these
pub region_behind : (reading : ReadSoFar) (line content bytes : List ℕ) (blanks depth top : ℕ) → blanks ≡ leading_blanks line → 2 ≤ blanks
    → content ≡ unindented_line line → line_if_region content ≡ bytes ∷ [] → depth ≡ depth_behind reading (blanks / 2) → top ≡ top_behind reading depth bytes
    → headed_behind reading line ≡ headed reading.heading depth top bytes ∷ []
region_behind reading line content bytes blanks depth top is some inside region deep above =
    let wide : nat_lt (leading_blanks line) 2 ≡ false = le-ltb (leading_blanks line) 2 (omega (arith, is, some)) in
    ap (map (headed_at reading (depth_of_line reading line)))
    (ap (λ b. if b then [] else line_if_region (unindented_line line)) wide ∙ ap line_if_region (sym inside) ∙ region)
    ∙ ap (λ d. headed_at reading d bytes ∷ []) (ap (λ b. depth_behind reading (b / 2)) (sym is) ∙ sym deep)
    ∙ ap (λ t. headed reading.heading depth t bytes ∷ []) (sym above)

line_is : (content bytes : List ℕ) → line_if_region content ≡ bytes ∷ [] → (is_region_line content ≡ true) × (content ≡ bytes)
line_is content bytes is = elim (cases_Bool (is_region_line content)) [
  | inl region ↦ (region, ap (λ l. slice_index_or l 0 bytes) (sym (ap (λ b. if b then content ∷ [] else []) region) ∙ is))
  | inr other ↦
      let none : [] ≡ bytes ∷ [] = sym (ap (λ b. if b then content ∷ [] else []) other) ∙ is in
      let size : 0 ≡ length (bytes ∷ []) = ap (λ (l : List (List ℕ)). length l) none in
      absurd (omega (arith, size))
]

-- what is said of the line below such a line
pub read_region : (reading : ReadSoFar) (line content bytes : List ℕ) (blanks depth top : ℕ) → blanks ≡ leading_blanks line → 2 ≤ blanks
    → content ≡ unindented_line line → line_if_region content ≡ bytes ∷ [] → depth ≡ depth_behind reading (blanks / 2) → top ≡ top_behind reading depth bytes
    → reading_at reading.heading reading.is_taken depth top ≡ read_on reading line
unfolding read_on
read_region reading line content bytes blanks depth top is some inside region deep above =
    let wide : nat_lt (leading_blanks line) 2 ≡ false = le-ltb (leading_blanks line) 2 (omega (arith, is, some)) in
    let both = line_is content bytes region in
    let told : is_region_line (unindented_line line) ≡ true = ap is_region_line (sym inside) ∙ both.0 in
    let at : depth ≡ depth_of_line reading line = deep ∙ ap (λ b. depth_behind reading (b / 2)) is in
    ap (λ t. reading_at reading.heading reading.is_taken depth t) (above ∙ ap (top_behind reading depth) (sym both.1 ∙ inside))
    ∙ ap (λ d. reading_at reading.heading reading.is_taken d (top_behind reading d (unindented_line line))) at
    ∙ rw (wide, told) refl

-- the first address of the line of depth 1 that a region is
pub own_top : (reading : ReadSoFar) (region : Region) (top : ℕ) → region.depth ≡ 1 → top ≡ region.first → top ≡ top_behind reading region.depth region.line.now
unfolding first_address
own_top reading region top one is =
    is ∙ region.ends.first_is ∙ ap (λ b. if b then first_address region.line.now else reading.top) (sym (eq-eqb region.depth 1 one))

pub outer_top : (reading : ReadSoFar) (region : Region) (top : ℕ) → (region.depth ≡ 1 → ⊥) → top ≡ reading.top → top ≡ top_behind reading region.depth region.line.now
outer_top reading region top deep is =
    is ∙ ap (λ b. if b then first_address region.line.now else reading.top) (sym (ne_eqb region.depth 1 deep))

headed_more : (reading : ReadSoFar) (lines : List (List ℕ)) (line : List ℕ)
    → headed_lines reading (lines ++ line ∷ []) ≡ headed_lines reading lines ++ headed_behind (fold read_on reading lines) line
headed_more reading [] line = append-nil (headed_behind reading line)
headed_more reading (first ∷ lines) line =
    let here = headed_behind reading first in
    ap (λ l. here ++ l) (headed_more (read_on reading first) lines line)
    ∙ sym (append_assoc here (headed_lines (read_on reading first) lines) _)

below_append : (some more : List Headed) → lines_below_headings is_below_no_heading (some ++ more) ≡ lines_below_headings is_below_no_heading some ++ lines_below_headings is_below_no_heading more
below_append some more =
    ap (map (λ region. region.line)) (filter-append (λ region. is_below_no_heading region.heading) some more)
    ∙ map-append (λ region. region.line) (filter (λ region. is_below_no_heading region.heading) some) (filter (λ region. is_below_no_heading region.heading) more)

pub read_more : {A X : Type 0} (now : X → List ℕ) (lines : List X) (line : X) (bytes : List ℕ) (reading : ReadSoFar) (old new : Map A) → bytes ≡ now line
    → reading ≡ fold read_on at_begin (map now lines) → IsReadOf (map now lines) old → TakesUp (headed_behind reading bytes) old new
    → IsReadOf (map now (lines ++ line ∷ [])) new
read_more now lines line bytes reading old new same is before step =
    let one = headed_behind reading bytes in
    let more : headed_lines at_begin (map now (lines ++ line ∷ [])) ≡ headed_lines at_begin (map now lines) ++ one =
    ap (headed_lines at_begin) (map-append now lines (line ∷ []))
    ∙ headed_more at_begin (map now lines) (now line)
    ∙ ap (λ b. headed_lines at_begin (map now lines) ++ headed_behind (fold read_on at_begin (map now lines)) b) (sym same)
    ∙ ap (λ r. headed_lines at_begin (map now lines) ++ headed_behind r bytes) (sym is) in
    record {
      each_once =
          more_told now lines line bytes (lines_read old) (lines_read new) same before.each_once
          (subst (λ l. IsPermutation (lines_read old ++ l) (lines_read new)) (map_headed reading (depth_of_line reading bytes) (indented_if_region bytes)) step.each_once);
      kept =
          step.kept ∙ ap (λ l. l ++ filter is_below_heading one) before.kept
          ∙ sym (filter-append is_below_heading (headed_lines at_begin (map now lines)) one) ∙ ap (filter is_below_heading) (sym more);
      off =
          step.off ∙ ap (λ l. l ++ lines_below_headings is_below_no_heading one) before.off
          ∙ sym (below_append (headed_lines at_begin (map now lines)) one) ∙ ap (lines_below_headings is_below_no_heading) (sym more);
    }

pub reading_more : {X : Type 0} (now : X → List ℕ) (lines : List X) (line : X) (bytes : List ℕ) (reading next : ReadSoFar) → bytes ≡ now line
    → reading ≡ fold read_on at_begin (map now lines) → next ≡ read_on reading bytes
    → next ≡ fold read_on at_begin (map now (lines ++ line ∷ []))
reading_more now lines line bytes reading next same is step =
    step ∙ ap (read_on reading) same ∙ ap (λ r. read_on r (now line)) is
    ∙ sym (fold-append read_on at_begin (map now lines) (now line ∷ []))
    ∙ ap (fold read_on at_begin) (sym (map-append now lines (line ∷ [])))

pub none_headed : {A : Type 0} (read : Map A) → read.lines.items ≡ [] → read.off.items ≡ [] → IsReadOf [] read
none_headed read none nothing = record {
  each_once = none_read read.lines.items read.off.items none nothing;
  kept = ap (map headed_line) none;
  off = ap lines_of_regions nothing;
}

pub whole_text : {A X : Type 0} (now : X → List ℕ) (lines : List X) (text : List ℕ) (read : Map A) → map now lines ≡ slice_split is_feed text
    → IsReadOf (map now lines) read → IsReadOf (slice_split is_feed text) read
whole_text now lines text read whole before = subst (λ l. IsReadOf l read) whole before
