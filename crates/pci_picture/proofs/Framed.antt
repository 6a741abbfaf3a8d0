-- The boxes of a section stand where the heights of its runs have their addresses.
use Rattle.std.proofs.Common.{◌≡◌, ◌≤◌, ◌<◌, ◌+◌, ◌-◌, ◌^◌, ℕ, List, [], ◌∷◌, ◌++◌, take, length, map, max, min, get_or, refl, inl, inr, sym, ap, subst, ◌∙◌, arith}
use Rattle.std.specs.List.{All, Any, Contains}
use Rattle.std.specs.List.Sorted.{IsNonDecreasingBy}
use Rattle.std.proofs.lemmas.List.{length-map, map-append, map_more, take_all}
use Rattle.std.proofs.lemmas.List.Elements.{All-append, All-cons, All-nil, All-push, Contains-get_or}
use Rattle.pci_picture.specs.Canvases.{AddsToCanvas, AddsBoxOf, AddsSome, WritesBytes}
use Rattle.pci_picture.specs.Drawings.{IsFramed, IsFramedAt, ArePlanned, AreFramed, AreOfSection}
use Rattle.pci_picture.specs.Heights.{HasHeights}
use Rattle.pci_picture.specs.Looks.{IsTitled, Look, looks_placed, looks_up_to, words_of_boxes}
use Rattle.pci_picture.specs.Maps.{lines_of_regions, regions_of_members, regions_placed}
use Rattle.pci_picture.specs.Sides.{sides_of_width, StandBesideIn, count_in_place, widths_placed}
use Rattle.pci_picture.specs.Spots.{BoxSpot, first_address, region_last_address, spot_at, lines_drawn, IsInSomeRegion, IsCutOf, IsEndOf, Rise, BoxStandsAt, base_of_section}
use Rattle.pci_picture.specs.Stacked.{height_at}
use Rattle.pci_picture.specs.declared.canvas.Canvas.{Canvas}
use Rattle.pci_picture.specs.declared.heights.Run.{Run}
use Rattle.pci_picture.specs.declared.plan.Member.{Member}
use Rattle.pci_picture.specs.declared.plan.Placed.{Placed}
use Rattle.pci_picture.specs.declared.plan.Site.{Site}
use Rattle.pci_picture.specs.declared.region.Region.{Region}
use Rattle.pci_picture.proofs.Anys.{any_at, any_mapped}
use Rattle.pci_picture.proofs.Boxes.{then_adds, then_keeps, then_some, unchanged, writes_both, writes_none}
use Rattle.pci_picture.proofs.Looks.{words_more}

-- ---- one box more

framed_at : (region : Region) (height_of : ℕ → ℕ) (x y width height : ℕ) (class title : List ℕ) → IsFramed height_of region.first region.last y height
    → IsFramedAt height_of (spot_at x y width height class title region.line.now)
unfolding first_address region_last_address
framed_at region height_of x y width height class title framed =
    let first : region.first ≡ first_address region.line.now = region.ends.first_is in
    let last : region.last ≡ region_last_address region.line.now = region.ends.last_is in
    record {
      rises = subst (λ a. a ≤ region_last_address region.line.now) first (subst (λ a. region.first ≤ a) last region.ends.rises);
      framed = record {
        begins = framed.begins ∙ ap height_of first;
        ends = framed.ends ∙ ap (λ l. height_of (l + 1) - y - 1) last;
      };
    }

pub none_framed : {A : Type 0} (look : Look) (runs : List Run) (bottom : ℕ) (canvas : Canvas A) → AddsSome (AreFramed look [] runs bottom) canvas canvas
none_framed look runs bottom canvas = record {
  spots = [];
  bytes = [];
  hold = record { drawn = refl; looks = refl; titled = All-nil (IsTitled look); sides = refl; framed = λ sorted. All-nil (IsFramedAt (height_at runs bottom)); written = refl };
  adds = unchanged canvas;
  writes = writes_none canvas canvas refl;
}

pub box_more : {A : Type 0} (look : Look) (places : List Placed) (i : ℕ) (placed : Placed) (runs : List Run) (bottom x y width height : ℕ) (first before between after : Canvas A)
    → i < length places → placed ≡ get_or places i placed
    → AddsSome (AreFramed look (take i places) runs bottom) first before
    → (IsNonDecreasingBy (λ (run : Run). run.begin) runs → IsFramed (height_at runs bottom) placed.region.first placed.region.last y height)
    → x ≡ placed.width.left → width ≡ max 1 (placed.width.right - placed.width.left - 2)
    → AddsBoxOf (look.class placed.is_lost placed.region.line.now) (look.said placed.region.line.now) placed.region.line.now x y width height before between → WritesBytes [] before between
    → AddsToCanvas [] between after
    → ((span : ℕ) (class title : List ℕ) → WritesBytes (look.words placed.width (spot_at placed.width.left y span height class title placed.region.line.now)) between after)
    → AddsSome (AreFramed look (take (i + 1) places) runs bottom) first after
box_more look places i placed runs bottom x y width height first before between after inside at done framed left wide one bare kept words =
    let more : lines_of_regions (regions_placed (take (i + 1) places)) ≡ lines_of_regions (regions_placed (take i places)) ++ placed.region.line.now ∷ [] =
    ap lines_of_regions (map_more (λ p. p.region) places i placed inside)
    ∙ map-append (λ r. r.line.now) (regions_placed (take i places)) _
    ∙ ap (λ p. lines_of_regions (regions_placed (take i places)) ++ p.region.line.now ∷ []) (sym at) in
    let widths : widths_placed (take (i + 1) places) ≡ widths_placed (take i places) ++ placed.width ∷ [] =
    map_more (λ p. p.width) places i placed inside ∙ ap (λ (p : Placed). widths_placed (take i places) ++ p.width ∷ []) (sym at) in
    let sides : map sides_of_width (widths_placed (take (i + 1) places)) ≡ map sides_of_width (widths_placed (take i places)) ++ (x, width) ∷ [] =
    ap (map sides_of_width) widths ∙ map-append sides_of_width (widths_placed (take i places)) (placed.width ∷ [])
    ∙ ap (λ (s : ℕ). map sides_of_width (widths_placed (take i places)) ++ (s, max 1 (placed.width.right - placed.width.left - 2)) ∷ []) (sym left)
    ∙ ap (λ (s : ℕ). map sides_of_width (widths_placed (take i places)) ++ (x, s) ∷ []) (sym wide) in
    let class : List ℕ = look.class placed.is_lost placed.region.line.now in
    let looks : looks_placed look (take (i + 1) places) ≡ looks_placed look (take i places) ++ class ∷ [] =
    map_more (λ p. look.class p.is_lost p.region.line.now) places i placed inside
    ∙ ap (λ (p : Placed). looks_placed look (take i places) ++ look.class p.is_lost p.region.line.now ∷ []) (sym at) in
    let spot : BoxSpot = spot_at x y width height class one.title placed.region.line.now in
    let own : List ℕ = look.words placed.width spot in
    let long : length done.spots ≡ length (widths_placed (take i places)) =
    sym (length-map done.spots (λ (s : BoxSpot). (s.x, s.width))) ∙ ap length done.hold.sides ∙ length-map (widths_placed (take i places)) sides_of_width in
    let says : WritesBytes own between after =
    subst (λ (s : ℕ). WritesBytes (look.words placed.width (spot_at s y width height class one.title placed.region.line.now)) between after) (sym left)
    (words width class one.title) in
    record {
      spots = done.spots ++ spot ∷ [];
      bytes = done.bytes ++ own;
      hold = record {
        drawn = map-append (λ s. s.line) done.spots (spot ∷ []) ∙ ap (λ l. l ++ placed.region.line.now ∷ []) done.hold.drawn ∙ sym more;
        looks = map-append (λ s. s.class) done.spots (spot ∷ []) ∙ ap (λ l. l ++ class ∷ []) done.hold.looks ∙ sym looks;
        titled = All-push (IsTitled look) done.spots spot done.hold.titled one.titled;
        sides = map-append (λ (s : BoxSpot). (s.x, s.width)) done.spots (spot ∷ []) ∙ ap (λ l. l ++ (x, width) ∷ []) done.hold.sides ∙ sym sides;
        framed = λ sorted.
            All-append (IsFramedAt (height_at runs bottom)) done.spots (spot ∷ []) (done.hold.framed sorted)
            (All-cons (IsFramedAt (height_at runs bottom)) spot [] (framed_at placed.region (height_at runs bottom) x y width height class one.title (framed sorted))
            (All-nil (IsFramedAt (height_at runs bottom))));
        written =
            ap (λ l. l ++ own) done.hold.written
            ∙ sym (words_more look (widths_placed (take i places)) done.spots placed.width spot long)
            ∙ ap (λ l. words_of_boxes look l (done.spots ++ spot ∷ [])) (sym widths);
      };
      adds = then_keeps (done.spots ++ spot ∷ []) first between after (then_adds done.spots (spot ∷ []) first before between done.adds one.adds) kept;
      writes = writes_both done.bytes own first before after done.writes (writes_both [] own before between after bare says);
    }

pub all_framed : {A : Type 0} (look : Look) (places : List Placed) (i : ℕ) (runs : List Run) (bottom : ℕ) (first after : Canvas A) → length places ≤ i
    → AddsSome (AreFramed look (take i places) runs bottom) first after
    → AddsSome (AreFramed look places runs bottom) first after
all_framed look places i runs bottom first after past done =
    subst (λ l. AddsSome (AreFramed look l runs bottom) first after) (take_all i places past) done

-- ---- the boxes of a section stand

pub end_drawn : (address : ℕ) (spots : List BoxSpot) (spot : BoxSpot) → Contains spots spot → IsEndOf address spot.line → Any (IsEndOf address) (lines_drawn spots)
end_drawn address spots spot here end =
    any_mapped (IsEndOf address) (λ s. s.line) spots (any_at (λ s. IsEndOf address s.line) spots spot here end)

stands : (height_of : ℕ → ℕ) (spot : BoxSpot) → height_of (first_address spot.line) < height_of (region_last_address spot.line + 1)
    → IsFramedAt height_of spot → BoxStandsAt height_of spot
stands height_of spot less framed =
    let begins : spot.y ≡ height_of (first_address spot.line) = framed.framed.begins in
    let ends : spot.height ≡ height_of (region_last_address spot.line + 1) - spot.y - 1 = framed.framed.ends in
    record { begins = begins; ends = omega (arith, less, begins, ends) }

all_stand : (height_of : ℕ → ℕ) (spots : List BoxSpot) → Rise (lines_drawn spots) height_of → All (IsFramedAt height_of) spots
    → All (BoxStandsAt height_of) spots
all_stand height_of spots rise framed k d lt =
    let spot : BoxSpot = get_or spots k d in
    let here : Contains spots spot = Contains-get_or spots k d lt in
    let up : first_address spot.line ≤ region_last_address spot.line = (framed k d lt).rises in
    stands height_of spot
    (rise (first_address spot.line) (region_last_address spot.line + 1) (end_drawn _ spots spot here (inl refl)) (end_drawn _ spots spot here (inr refl))
    (omega (arith, up)))
    (framed k d lt)

of_section : (look : Look) (site : Site) (members : List Member) (placed : List Placed) (runs : List Run) (top bottom end : ℕ) (spots : List BoxSpot) (bytes fits : List ℕ) → AreFramed look placed runs bottom spots bytes
    → regions_placed placed ≡ regions_of_members members → bottom ≤ end → end ≡ min (bottom + 30) (2 ^ 64 - 1) → top ≡ site.y + 22
    → (bottom < 2 ^ 64 - 1 → ArePlanned site.section top (look.told (lines_of_regions (regions_of_members members))) (lines_of_regions (regions_of_members members)) runs bottom)
    → looks_placed look placed ≡ looks_up_to look (count_in_place members) (regions_of_members members)
    → StandBesideIn site (count_in_place members) (regions_of_members members) (widths_placed placed) → AreOfSection look site members end spots (bytes ++ fits)
of_section look site members placed runs top bottom end spots bytes fits framed is above end_is top_is planned looks beside =
    let drawn : lines_drawn spots ≡ lines_of_regions (regions_of_members members) = framed.drawn ∙ ap lines_of_regions is in
    record {
      drawn = drawn;
      looks = framed.looks ∙ looks;
      titled = framed.titled;
      stand = λ small.
          let plan = planned (omega (arith, above, small)) in
          let rise : Rise (lines_drawn spots) (height_at runs bottom) = subst (λ l. Rise l (height_at runs bottom)) (sym drawn) plan.rise in
          record {
            boxes = record {
              height_of = height_at runs bottom;
              rise = rise;
              stand = all_stand (height_at runs bottom) spots rise (framed.framed plan.sorted);
              top = top;
              bottom = bottom;
              by_rule =
                  subst (λ l. HasHeights (base_of_section site.section) top bottom (IsCutOf l (look.told l)) (IsInSomeRegion l) (height_at runs bottom)) (sym drawn) plan.by_rule;
            };
            begins = top_is;
            ends = omega (arith, end_is, small);
          };
      beside = record { widths = widths_placed placed; sides = framed.sides; beside = beside; fits = fits; written = ap (λ l. l ++ fits) framed.written };
    }

pub adds_section : {A : Type 0} (look : Look) (site : Site) (members : List Member) (placed : List Placed) (runs : List Run) (top bottom end : ℕ) (before between drawn after : Canvas A)
    → AddsToCanvas [] before between → WritesBytes [] before between → AddsSome (AreFramed look placed runs bottom) between drawn → AddsToCanvas [] drawn after
    → regions_placed placed ≡ regions_of_members members
    → bottom ≤ end → end ≡ min (bottom + 30) (2 ^ 64 - 1) → top ≡ site.y + 22 → (bottom < 2 ^ 64 - 1 → ArePlanned site.section top (look.told (lines_of_regions (regions_of_members members))) (lines_of_regions (regions_of_members members)) runs bottom)
    → looks_placed look placed ≡ looks_up_to look (count_in_place members) (regions_of_members members)
    → StandBesideIn site (count_in_place members) (regions_of_members members) (widths_placed placed) → AddsSome (AreOfSection look site members end) before after
adds_section look site members placed runs top bottom end before between drawn after head bare done rest is above end_is top_is planned looks beside =
    then_some (AreOfSection look site members end) before between after head bare (record {
      spots = done.spots;
      bytes = done.bytes ++ rest.bytes;
      hold = of_section look site members placed runs top bottom end done.spots done.bytes rest.bytes done.hold is above end_is top_is planned looks beside;
      adds = then_keeps done.spots between drawn after done.adds rest;
      writes = writes_both done.bytes rest.bytes between drawn after done.writes rest.writes;
    })
