-- The regions of sections while they are drawn.
use Rattle.std.proofs.Common.{◌≡◌, ◌≤◌, ◌<◌, ◌+◌, ◌-◌, ◌==◌, ℕ, Bool, true, false, max, List, [], ◌∷◌, ◌++◌, map, take, drop, length, get_or, Result, Ok, Err, IfOk, refl, sym, ap, ap₂, subst, ◌∙◌, arith, inl, inr, codes}
use Rattle.std.specs.List.{All, filter, flat_map, list_any, slice_split}
use Rattle.std.specs.List.Sorted.{IsNonDecreasingBy, IsPermutation}
use Rattle.std.specs.String.{string_bytes}
use Rattle.std.proofs.lemmas.Bool.{cases_lt, eqb-true}
use Rattle.std.proofs.lemmas.List.{append_assoc, append-nil, map-append, map_more, take_more, take-append-drop, take-take, drop-take, take_all, length-map, length-take, length-drop, get_or-take, get_or-drop, get_or_default}
use Rattle.std.proofs.lemmas.List.Concat.{flat_map-append}
use Rattle.std.proofs.lemmas.List.Sorted.{IsNonDecreasingBy-drop, IsNonDecreasingBy-take, IsPermutation-trans, IsPermutation-append_left, IsPermutation-map, list_any-IsPermutation}
use Rattle.std.proofs.lemmas.List.Elements.{All-nil, All-push, All-weaker}
use Rattle.pci_picture.specs.Boxes.{IsDrawnOf, IsPictureOf, boxes_above, tells_ranges, words_above, words_drawn}
use Rattle.pci_picture.specs.Canvases.{AddsToCanvas, AddsBoxOf, AddsSome, HasDrawn, WritesBytes}
use Rattle.pci_picture.specs.Columns.{HasColumnsOf}
use Rattle.pci_picture.specs.Counts.{count_of_regions, counts_text}
use Rattle.pci_picture.specs.Drawings.{AreGrouped, AreOffBoxes, AreOfSection, AreOfSections, HasRoomOf, IsRunOfSection, sections_of}
use Rattle.pci_picture.specs.Headings.{AreSectionsOf, headed_regions, is_below_heading}
use Rattle.pci_picture.specs.Legends.{last_begins, marks_of_legend, legend_boxes}
use Rattle.pci_picture.specs.Lines.{is_feed, is_told_line, region_lines}
use Rattle.pci_picture.specs.Looks.{IsTitled, Look, look_told}
use Rattle.pci_picture.specs.Maps.{AreMembersOf, IsReadOf, lines_of_regions, regions_under, regions_of_members, regions_placed, kept_regions, lines_read}
use Rattle.pci_picture.specs.Members.{AreIndentedBySection, AreSortedBySection, member_number}
use Rattle.pci_picture.specs.Nested.{HasNestedBoxes}
use Rattle.pci_picture.specs.OffRows.{AreRowsOfOff, IsOffRow, no_off_row, off_row, top_of_off}
use Rattle.pci_picture.specs.Roots.{IsLostByRoot, Listed}
use Rattle.pci_picture.specs.Trees.{down}
use Rattle.pci_picture.specs.Sides.{HasSides}
use Rattle.pci_picture.specs.FaultLines.{tree_top}
use Rattle.pci_picture.specs.Said.{faults_said}
use Rattle.pci_picture.specs.Spots.{StandBelow, BoxSpot, spot_at, lines_drawn, all_of, words_of_sections}
use Rattle.pci_picture.specs.declared.canvas.Canvas.{Canvas}
use Rattle.pci_picture.specs.declared.map.Line.{Line}
use Rattle.pci_picture.specs.declared.map.Map.{Map}
use Rattle.pci_picture.specs.declared.plan.Member.{Member}
use Rattle.pci_picture.specs.declared.plan.Site.{Site}
use Rattle.pci_picture.specs.declared.plan.Placed.{Placed}
use Rattle.pci_picture.specs.declared.region.Region.{Region}
use Rattle.pci_picture.proofs.Boxes.{then_adds, then_some, unchanged, writes_both, writes_none}
use Rattle.pci_picture.proofs.Counts.{counted_kept}
use Rattle.pci_picture.proofs.Pictured.{HasAbove, HasFront, front_more}
use Rattle.pci_picture.proofs.Looks.{SameLooks, below_same, off_words_same, titled_same}
use Rattle.pci_picture.proofs.Nested.{columns_of_all, nested_of_all}
use Rattle.pci_picture.proofs.Groups.{no_group, group_more, grouped, sections_of_all}

take_both : {X : Type 0} (m n : ℕ) (xs : List X) → take (m + n) xs ≡ take m xs ++ take n (drop m xs)
take_both m n xs =
    sym (take-append-drop m (take (m + n) xs))
    ∙ ap (λ l. l ++ drop m (take (m + n) xs)) (take-take m (m + n) xs (omega arith))
    ∙ ap (λ l. take m xs ++ l) (drop-take m n xs)

-- ---- lists of regions, one more

pub member_more : (members : List Member) (i : ℕ) (member : Member) (before after : List Region) → i < length members → member ≡ get_or members i member
    → before ≡ regions_of_members (take i members) → after ≡ before ++ member.region ∷ [] → after ≡ regions_of_members (take (i + 1) members)
member_more members i member before after inside at is new =
    new ∙ ap (λ l. l ++ member.region ∷ []) is ∙ ap (λ m. regions_of_members (take i members) ++ m.region ∷ []) at
    ∙ sym (map_more (λ m. m.region) members i member inside)

pub line_more : (lines : List Line) (i : ℕ) (line : Line) (before after : List Member) (member : Member) → i < length lines → line ≡ get_or lines i line
    → regions_of_members before ≡ regions_under (take i lines) → member.region ≡ line.region → after ≡ before ++ member ∷ []
    → regions_of_members after ≡ regions_under (take (i + 1) lines)
line_more lines i line before after member inside at is same new =
    ap regions_of_members new ∙ map-append (λ m. m.region) before (member ∷ [])
    ∙ ap (λ l. l ++ member.region ∷ []) is
    ∙ ap (λ r. regions_under (take i lines) ++ r ∷ []) (same ∙ ap (λ l. l.region) at)
    ∙ sym (map_more (λ l. l.region) lines i line inside)

pub place_more : (old : List Region) (regions : List Region) (i : ℕ) (region : Region) (before after : List Placed) (placed : Placed)
    → i < length regions → region ≡ get_or regions i region
    → regions_placed before ≡ old ++ take i regions → placed.region ≡ region → after ≡ before ++ placed ∷ []
    → regions_placed after ≡ old ++ take (i + 1) regions
place_more old regions i region before after placed inside at is same new =
    ap regions_placed new ∙ map-append (λ p. p.region) before (placed ∷ [])
    ∙ ap (λ l. l ++ placed.region ∷ []) is
    ∙ ap (λ r. (old ++ take i regions) ++ r ∷ []) (same ∙ at)
    ∙ append_assoc old (take i regions) (get_or regions i region ∷ [])
    ∙ ap (λ l. old ++ l) (sym (take_more regions i region inside))

pub both_places : (regions front back : List Region) (n : ℕ) (none some all : List Placed) → none ≡ [] → front ≡ take n regions → back ≡ drop n regions
    → regions_placed some ≡ regions_placed none ++ front → regions_placed all ≡ regions_placed some ++ back → regions_placed all ≡ regions
both_places regions front back n none some all empty is_front is_back first second =
    second ∙ ap (λ l. l ++ back) (first ∙ ap (λ l. regions_placed l ++ front) empty)
    ∙ ap (λ l. l ++ back) is_front ∙ ap (λ l. take n regions ++ l) is_back ∙ take-append-drop n regions

-- ---- one row of what is off more

pub no_rows : {A : Type 0} (look : Look) (x width y : ℕ) (canvas : Canvas A) → AddsSome (AreOffBoxes look x width y [] y) canvas canvas
no_rows look x width y canvas = record {
  spots = [];
  bytes = [];
  hold = record { rows = no_off_row y; drawn = refl; grey = All-nil (λ spot. spot.class ≡ codes "off"); titled = All-nil (IsTitled look); written = refl };
  adds = unchanged canvas;
  writes = writes_none canvas canvas refl;
}

pub none_off : {A : Type 0} (look : Look) (x width y : ℕ) (regions : List Region) (canvas : Canvas A) → (length regions == 0) ≡ true
    → AddsSome (AreOffBoxes look x width (top_of_off y regions) regions y) canvas canvas
none_off look x width y [] canvas is = no_rows look x width y canvas
none_off look x width y (region ∷ regions) canvas is = let l : length (region ∷ regions) ≡ 0 = eqb-true _ 0 is in absurd (omega (arith, l))

-- one row more at the end
off_row_more : (x width y between : ℕ) (spots : List BoxSpot) (spot : BoxSpot) → AreRowsOfOff x width y spots between → IsOffRow x width between spot
    → AreRowsOfOff x width y (spots ++ spot ∷ []) (down between 14)
off_row_more x width _ _ _ spot (no_off_row y) is = off_row y (down y 14) spot [] is (no_off_row (down y 14))
off_row_more x width _ _ _ spot (off_row y between first spots here rest) is =
    off_row y (down between 14) first (spots ++ spot ∷ []) here (off_row_more x width (down y 14) between spots spot rest is)

-- something is off
pub top_of_some : {X : Type 0} (y : ℕ) (xs : List X) → (length xs == 0) ≡ false → top_of_off y xs ≡ down y 22
top_of_some y [] some = cc
top_of_some y (x ∷ xs) some = refl

top_alike : {X Y : Type 0} (y : ℕ) (xs : List X) (ys : List Y) → length xs ≡ length ys → top_of_off y xs ≡ top_of_off y ys
top_alike y [] [] same = refl
top_alike y [] (other ∷ ys) same = absurd (omega (arith, same))
top_alike y (x ∷ xs) [] same = absurd (omega (arith, same))
top_alike y (x ∷ xs) (other ∷ ys) same = refl

pub row_more : {A : Type 0} (look : Look) (regions : List Region) (i : ℕ) (region : Region) (x y width top : ℕ) (first before after : Canvas A) → i < length regions
    → region ≡ get_or regions i region
    → AddsSome (AreOffBoxes look x width top (take i regions) y) first before → AddsBoxOf (codes "off") (look.said region.line.now) region.line.now x y width 13 before after
    → ((title : List ℕ) → WritesBytes (look.off_words (spot_at x y width 13 (codes "off") title region.line.now)) before after)
    → AddsSome (AreOffBoxes look x width top (take (i + 1) regions) (down y 14)) first after
row_more look regions i region x y width top first before after inside at done one words =
    let more : lines_of_regions (take (i + 1) regions) ≡ lines_of_regions (take i regions) ++ region.line.now ∷ [] =
    map_more (λ r. r.line.now) regions i region inside
    ∙ ap (λ r. lines_of_regions (take i regions) ++ r.line.now ∷ []) (sym at) in
    let spot : BoxSpot = spot_at x y width 13 (codes "off") one.title region.line.now in
    record {
      spots = done.spots ++ spot ∷ [];
      bytes = done.bytes ++ look.off_words spot;
      hold = record {
        rows = off_row_more x width top y done.spots spot done.hold.rows (record { left_is = refl; width_is = refl; top_is = refl; height_is = refl });
        drawn = map-append (λ s. s.line) done.spots (spot ∷ []) ∙ ap (λ l. l ++ region.line.now ∷ []) done.hold.drawn ∙ sym more;
        grey = All-push (λ s. s.class ≡ codes "off") done.spots spot done.hold.grey refl;
        titled = All-push (IsTitled look) done.spots spot done.hold.titled one.titled;
        written =
            ap (λ l. l ++ look.off_words spot) done.hold.written
            ∙ sym (flat_map-append look.off_words done.spots (spot ∷ []) ∙ ap (λ l. flat_map look.off_words done.spots ++ l) (append-nil (look.off_words spot)));
      };
      adds = then_adds done.spots (spot ∷ []) first before after done.adds one.adds;
      writes = writes_both done.bytes (look.off_words spot) first before after done.writes (words one.title);
    }

pub all_rows : {A : Type 0} (look : Look) (x width top y : ℕ) (regions every : List Region) (i : ℕ) (first before after : Canvas A) → length regions ≤ i → regions ≡ every
    → AddsToCanvas [] first before → string_bytes before.words ≡ string_bytes first.words → AddsSome (AreOffBoxes look x width top (take i regions) y) before after
    → AddsSome (AreOffBoxes look x width top every y) first after
all_rows look x width top y regions every i first before after past is head same done =
    then_some (AreOffBoxes look x width top every y) first before after head (writes_none first before same)
    (subst (λ l. AddsSome (AreOffBoxes look x width top l y) before after) (take_all i regions past ∙ is) done)

pub same_rows : {A : Type 0} (look : Look) (x width y end : ℕ) (regions every : List Region) (first after : Canvas A) → regions ≡ every
    → AddsSome (AreOffBoxes look x width (top_of_off y regions) regions end) first after → AddsSome (AreOffBoxes look x width (top_of_off y every) every end) first after
same_rows look x width y end regions every first after is done = subst (λ l. AddsSome (AreOffBoxes look x width (top_of_off y l) l end) first after) is done

-- ---- one section more

pub no_section : {A : Type 0} (look : Look) (first : Site) (members : List Member) (canvas : Canvas A) → AddsSome (AreGrouped look first members 0 first.y) canvas canvas
no_section look first members canvas = record {
  spots = [];
  bytes = [];
  hold = no_group look first members;
  adds = unchanged canvas;
  writes = writes_none canvas canvas refl;
}

part_alike : (members : List Member) (begin end number : ℕ) → begin ≤ end → end ≤ length members
    → ((d : Member) → (get_or members begin d).section ≡ number) → IsRunOfSection members begin end
    → All (λ member. member.section ≡ number) (take (end - begin) (drop begin members))
part_alike members begin end number up within is run k d inside =
    let long = length-take (end - begin) (drop begin members) in
    let rest = length-drop begin members in
    ap (λ m. m.section) (get_or-take (end - begin) (drop begin members) k d (omega arith) ∙ get_or-drop begin members k d)
    ∙ run.alike (begin + k) d (omega arith) (omega arith) ∙ is d

between : (number here there : ℕ) → here ≡ number → here ≤ there → (there ≡ here → ⊥) → number < there
between number here there is up apart =
    elim (cases_lt here there) [
      | inl less ↦ omega (arith, is, less)
      | inr more ↦ absurd (apart (omega (arith, up, more)))
    ]

pub section_more : {A : Type 0} (look : Look) (row site : Site) (members part : List Member) (begin end y bottom : ℕ) (member : Member) (first before after : Canvas A) → begin < end
    → end ≤ length members → member ≡ get_or members begin member → part ≡ take (end - begin) (drop begin members) → y ≤ bottom
    → IsNonDecreasingBy (λ (m : Member). m.section) members → IsNonDecreasingBy member_number members → IsRunOfSection members begin end → HasRoomOf row site → site.section ≡ member.section → site.y ≡ y
    → AddsSome (AreGrouped look row members begin y) first before
    → AddsSome (AreOfSection look site part bottom) before after
    → AddsSome (AreGrouped look row members end bottom) first after
section_more look row site members part begin end y bottom member first before after up within at is down sorted lost_last run room named from done adds =
    let joined : take end members ≡ take begin members ++ part =
    ap (λ n. take n members) (omega arith) ∙ take_both begin (end - begin) members ∙ ap (λ l. take begin members ++ l) (sym is) in
    let number : ℕ = member.section in
    let there : (d : Member) → (get_or members begin d).section ≡ number =
    λ d. ap (λ m. m.section) (get_or_default members begin d member (omega arith) ∙ sym at) in
    record {
      spots = done.spots ++ adds.spots;
      bytes = done.bytes ++ adds.bytes;
      hold =
          group_more look row site members part begin end y bottom number done.spots adds.spots done.bytes adds.bytes done.hold joined down
          (subst (All (λ m. m.section ≡ number)) (sym is) (part_alike members begin end number (omega arith) within there run))
          (subst (λ n. All (λ section. section.number < n) (sections_of done.hold.groups)) (there member) (done.hold.below member (omega arith)))
          (λ d inside. between number ((get_or members begin d).section) ((get_or members end d).section) (there d)
          (sorted begin end d (omega arith) inside) (run.next d inside))
          (subst (IsNonDecreasingBy member_number) (sym is)
          (IsNonDecreasingBy-take member_number (end - begin) (drop begin members) (IsNonDecreasingBy-drop member_number begin members lost_last)))
          room named from adds.hold;
      adds = then_adds done.spots adds.spots first before after done.adds adds.adds;
      writes = writes_both done.bytes adds.bytes first before after done.writes adds.writes;
    }

pub all_sections : {A : Type 0} (look : Look) (row : Site) (functions : List Listed) (lines : List Line) (members : List Member) (begin y : ℕ) (first after : Canvas A) → length members ≤ begin
    → AreMembersOf lines members → AreIndentedBySection members → AreSortedBySection lines members → All (IsLostByRoot functions) members
    → AddsSome (AreGrouped look row members begin y) first after
    → AddsSome (AreOfSections look row functions lines y) first after
all_sections look row functions lines members begin y first after past are indented sorted by_root done = record {
  spots = done.spots;
  bytes = done.bytes;
  hold = grouped look row functions lines members begin y done.spots done.bytes past are indented sorted by_root done.hold;
  adds = done.adds;
  writes = done.writes;
}

pub sorted_members : (lines : List Line) (before after : List Member) → regions_of_members before ≡ regions_under lines → IsPermutation before after
    → IsPermutation (regions_under lines) (regions_of_members after)
sorted_members lines before after is moved =
    subst (λ l. IsPermutation l (regions_of_members after)) is (IsPermutation-map (λ m. m.region) before after moved)

-- ---- the whole

pub whole_picture : {A T E : Type 0} (look : Look) (row : Site) (functions : List Listed) (map faults : List ℕ) (read : Map A) (new before between last : Canvas A) (is_told : Bool) (y ends tree_end width height legend : ℕ) (result : Result T E) (bytes : T → List ℕ)
    → is_told ≡ list_any is_told_line (lines_read read) → HasAbove functions is_told faults (string_bytes before.words) tree_end
    → HasFront (counts_text (length functions) (count_of_regions (kept_regions read)) (length (faults_said faults)) ++ legend_boxes 66 16 (marks_of_legend is_told)) (string_bytes before.boxes)
    → SameLooks look (look_told functions faults) → HasSides row → HasColumnsOf (kept_regions read) row → row.y ≡ tree_top (faults_said faults) → IsReadOf (slice_split is_feed map) read → y ≤ height → height ≡ down (max ends tree_end) 16 → width ≡ max (down (down row.x 148) row.width) (down legend 140)
    → legend ≡ last_begins 16 16 (marks_of_legend is_told)
    → HasDrawn [] new → AddsToCanvas [] new before → AddsSome (AreOfSections look row functions read.lines.items y) before between
    → AddsSome (AreOffBoxes look (down row.x 132) row.width (top_of_off y read.off.items) read.off.items ends) between last
    → ((spots : List BoxSpot) (head behind : List ℕ) → HasDrawn spots last → string_bytes last.boxes ≡ head ++ behind
    → IfOk result (λ text. IsDrawnOf is_told spots head (string_bytes last.words) width height (bytes text)))
    → IfOk result (λ text. IsPictureOf functions map faults (bytes text))
whole_picture look row functions map faults read new before between last is_told y ends tree_end width height legend (Err e) bytes tells above start same sides columns top told lower height_is width_is legend_is none kept some off finished = tt
whole_picture look row functions map faults read new before between last is_told y ends tree_end width height legend (Ok text) bytes tells above start same sides columns top told lower height_is width_is legend_is none kept some off finished =
    let joined : some.spots ++ off.spots ≡ all_of some.hold.sections ++ off.spots = ap (λ l. l ++ off.spots) (sym some.hold.joined) in
    let both : lines_drawn (some.spots ++ off.spots) ≡ lines_drawn some.spots ++ lines_of_regions read.off.items =
    map-append (λ s. s.line) some.spots off.spots ∙ ap (λ l. lines_drawn some.spots ++ l) off.hold.drawn in
    let front : List ℕ = string_bytes before.words in
    let told_is : is_told ≡ tells_ranges map =
    tells ∙ sym (list_any-IsPermutation is_told_line (region_lines map) (lines_read read) told.each_once) in
    let words : string_bytes last.words ≡ words_drawn functions map faults above.tree some.hold.sections off.spots =
    off.writes ∙ ap (λ l. l ++ off.bytes) some.writes ∙ append_assoc front some.bytes off.bytes
    ∙ ap₂ (λ s o. front ++ (s ++ o)) (sym some.hold.written) (off.hold.written ∙ off_words_same look (look_told functions faults) same off.spots)
    ∙ ap (λ l. l ++ (words_of_sections some.hold.sections ++ flat_map ((look_told functions faults).off_words) off.spots))
    (above.are ∙ ap (λ b. words_above b faults above.tree) told_is) in
    let head : List ℕ = boxes_above functions map faults in
    let behind : List ℕ = start.behind ++ (some.adds.boxed ++ off.adds.boxed) in
    let boxes : string_bytes last.boxes ≡ head ++ behind =
    front_more (counts_text (length functions) (count_of_regions (kept_regions read)) (length (faults_said faults)) ++ legend_boxes 66 16 (marks_of_legend is_told))
    head start.behind some.adds.boxed off.adds.boxed (string_bytes before.boxes) (string_bytes between.boxes) (string_bytes last.boxes)
    start.are some.adds.draws off.adds.draws
    (ap₂ (λ n b. counts_text (length functions) n (length (faults_said faults)) ++ legend_boxes 66 16 (marks_of_legend b))
    (ap count_of_regions told.kept ∙ counted_kept (headed_regions map)) told_is) in
    record {
      sections = some.hold.sections;
      off = off.spots;
      each_once =
          subst (λ l. IsPermutation (region_lines map) (lines_drawn l)) joined
          (subst (λ l. IsPermutation (region_lines map) l) (sym both)
          (IsPermutation-trans (region_lines map) (lines_read read) (lines_drawn some.spots ++ lines_of_regions read.off.items) told.each_once
          (IsPermutation-append_left (lines_of_regions read.off.items) (lines_of_regions (regions_under read.lines.items)) (lines_drawn some.spots) some.hold.each_once)));
      below_headings =
          sections_of_all (headed_regions map) some.hold.sections
          (subst (λ l. AreSectionsOf l some.hold.sections) told.kept some.hold.below_headings);
      below_none = off.hold.drawn ∙ told.off;
      grey = off.hold.grey;
      off_titled = titled_same look (look_told functions faults) same off.spots off.hold.titled;
      row = row;
      columns = columns_of_all (headed_regions map) row (subst (λ l. HasColumnsOf l row) told.kept columns);
      bottom = ends;
      off_rows =
          subst (λ n. AreRowsOfOff n row.width (top_of_off y off.spots) off.spots ends) (ap (λ n. down n 132) columns.x_is)
          (subst (λ n. AreRowsOfOff (down row.x 132) row.width n off.spots ends)
          (top_alike y read.off.items off.spots
          (sym (sym (length-map off.spots (λ (s : BoxSpot). s.line)) ∙ ap length off.hold.drawn ∙ length-map read.off.items (λ (r : Region). r.line.now)))) off.hold.rows);
      height = height;
      width = width;
      wide =
          width_is ∙ ap (λ n. max (down (down row.x 148) row.width) (down n 140)) legend_is
          ∙ ap₂ (λ l b. max (down (down l 148) row.width) (down (last_begins 16 16 (marks_of_legend b)) 140)) columns.x_is told_is;
      ends = height_is;
      tree_end = tree_end;
      tree = above.tree;
      rows = above.rows;
      drawn =
          subst (λ w. IsDrawnOf (tells_ranges map) (all_of some.hold.sections ++ off.spots) head w width height (bytes text)) words
          (subst (λ b. IsDrawnOf b (all_of some.hold.sections ++ off.spots) head (string_bytes last.words) width height (bytes text)) told_is
          (subst (λ l. IsDrawnOf is_told l head (string_bytes last.words) width height (bytes text)) joined
          (finished (some.spots ++ off.spots) head behind (off.adds.behind some.spots (some.adds.behind [] (kept.behind [] none))) boxes)));
      end = y;
      stand = λ small.
          let told = (look_told functions faults).told in
          subst (λ n. StandBelow told n some.hold.sections y) top
          (below_same look.told told same.told row.y y some.hold.sections (some.hold.stand (omega (arith, lower, small))));
      nested =
          All-weaker (HasNestedBoxes look (filter is_below_heading (headed_regions map))) (HasNestedBoxes (look_told functions faults) (headed_regions map))
          (nested_of_all look (look_told functions faults) same (headed_regions map)) some.hold.sections
          (subst (λ l. All (HasNestedBoxes look l) some.hold.sections) told.kept (some.hold.nested sides columns));
      by_root = some.hold.by_root;
    }
