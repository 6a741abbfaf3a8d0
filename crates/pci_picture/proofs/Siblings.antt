-- Boxes of one parent do not cover each other.
use Rattle.std.proofs.Common.{arith, ◌≡◌, ◌<◌, ◌≤◌, ◌-◌, ℕ, zero, suc, max, List, [], ◌∷◌, ◌++◌, map, length, drop, sym, ap, ◌∙◌, inl, inr}
use Rattle.std.specs.List.{Contains, slice_index_or}
use Rattle.std.proofs.lemmas.Bool.{cases_lt}
use Rattle.std.proofs.lemmas.List.{length-append, length-map}
use Rattle.std.proofs.lemmas.List.Elements.{Contains-get_or}
use Rattle.pci_picture.specs.Lanes.{StandApart, StandsBetween, first_address_at, last_address_at, width_at}
use Rattle.pci_picture.specs.Maps.{lines_of_regions, regions_of_members}
use Rattle.pci_picture.specs.Sides.{AreSides, HasSides, sides_drawn, sides_of_width}
use Rattle.pci_picture.specs.Siblings.{EndsAboveOrBeside, SiblingsAreApart, box_at}
use Rattle.pci_picture.specs.Spots.{BoxSpot, first_address, lines_drawn, region_last_address, spot_at}
use Rattle.pci_picture.specs.declared.lanes.Width.{Width}
use Rattle.pci_picture.specs.declared.plan.Member.{Member}
use Rattle.pci_picture.specs.declared.plan.Site.{Site}
use Rattle.pci_picture.specs.declared.region.Region.{Region}
use Rattle.pci_picture.proofs.Apart.{boxes_are_apart}
use Rattle.pci_picture.proofs.Rising.{siblings_rise}

-- a box is of the line at an index
record IsOfLineAt (regions : List Region) (k : ℕ) (spot : BoxSpot) : Type 0 where
  pub first : first_address spot.line ≡ first_address_at regions k
  pub last : region_last_address spot.line ≡ last_address_at regions k

line_head : (spot : BoxSpot) (region : Region) (regions : List Region) → spot.line ≡ region.line.now → IsOfLineAt (region ∷ regions) 0 spot
unfolding first_address region_last_address
line_head spot region regions is = record {
  first = ap (λ l. first_address l) is ∙ sym region.ends.first_is;
  last = ap (λ l. region_last_address l) is ∙ sym region.ends.last_is;
}

line_at : (spots : List BoxSpot) (inside lost : List Region) → lines_drawn spots ≡ lines_of_regions (inside ++ lost) → (k : ℕ) → k < length inside
    → IsOfLineAt inside k (box_at spots k)
line_at spots [] lost is k less = absurd (omega arith)
line_at [] (region ∷ inside) lost is k less = let none = ap (λ l. length l) is in absurd (omega arith)
line_at (spot ∷ spots) (region ∷ inside) lost is zero less =
    line_head spot region inside (ap (λ l. slice_index_or l 0 []) is)
line_at (spot ∷ spots) (region ∷ inside) lost is (suc k) less =
    let rest = line_at spots inside lost (ap (λ l. drop 1 l) is) k (omega arith) in
    record { first = rest.first; last = rest.last }

-- a box has the sides of the width at an index
record HasSidesAt (widths : List Width) (k : ℕ) (spot : BoxSpot) : Type 0 where
  pub left : spot.x ≡ (width_at widths k).left
  pub wide : spot.width ≡ max 1 ((width_at widths k).right - (width_at widths k).left - 2)

side_at : (spots : List BoxSpot) (inner outer : List Width) → sides_drawn spots ≡ map sides_of_width (inner ++ outer) → (k : ℕ) → k < length inner
    → HasSidesAt inner k (box_at spots k)
side_at spots [] outer is k less = absurd (omega arith)
side_at [] (width ∷ inner) outer is k less = let none = ap (λ l. length l) is in absurd (omega arith)
side_at (spot ∷ spots) (width ∷ inner) outer is zero less =
    let head : (spot.x, spot.width) ≡ sides_of_width width = ap (λ l. slice_index_or l 0 (0, 0)) is in
    record { left = ap (λ p. p.0) head; wide = ap (λ p. p.1) head }
side_at (spot ∷ spots) (width ∷ inner) outer is (suc k) less =
    let rest = side_at spots inner outer (ap (λ l. drop 1 l) is) k (omega arith) in
    record { left = rest.left; wide = rest.wide }

-- a box ends where its room does, or one unit behind
ends_beside : (spot other : BoxSpot) (widths : List Width) (k m left right : ℕ) → HasSidesAt widths k spot → HasSidesAt widths m other
    → StandsBetween left right (width_at widths k) → (width_at widths k).right ≤ (width_at widths m).left → EndsAboveOrBeside spot other
ends_beside spot other widths k m left right here there between le =
    inr (omega (arith, here.left, here.wide, there.left, between.inner, between.within, le))

-- a section's room for what is in place does not end before it begins
row_of : (site : Site) (lost : List Region) (left split beside edge : ℕ) → HasSides site → AreSides site lost left split beside edge → left ≤ split
row_of site lost left split beside edge sides ends = elim (cases_lt 0 (length lost)) [
  | inl some ↦ omega (arith, ends.from, ends.upto, ends.less some, sides.wide)
  | inr none ↦ omega (arith, ends.from, ends.upto, ends.all (omega (arith, none)))
]

pub siblings_are_apart : SiblingsAreApart
siblings_are_apart look text section nested i j standing rise less within same =
    let spots : List BoxSpot = section.spots in
    let regions : List Region = regions_of_members nested.inside in
    let members = length-map nested.inside (λ (m : Member). m.region) in
    let inside : j < length regions = omega (arith, within, members) in
    let placed = nested.beside in
    let in_place = placed.in_place in
    let count : length placed.inner ≡ length regions = in_place.count in
    let size : length spots ≡ length (regions ++ nested.lost) =
    sym (length-map spots (λ (s : BoxSpot). s.line)) ∙ ap (λ l. length l) nested.drawn ∙ length-map (regions ++ nested.lost) (λ (r : Region). r.line.now) in
    let more = length-append regions nested.lost in
    let low_j : j < length spots = omega (arith, more, size, inside) in
    let low_i : i < length spots = omega (arith, low_j, less) in
    let one = line_at spots regions nested.lost nested.drawn i (omega (arith, less, inside)) in
    let two = line_at spots regions nested.lost nested.drawn j inside in
    let here : Contains spots (box_at spots i) = Contains-get_or spots i (spot_at 0 0 0 0 [] [] []) low_i in
    let there : Contains spots (box_at spots j) = Contains-get_or spots j (spot_at 0 0 0 0 [] [] []) low_j in
    let side_is : sides_drawn spots ≡ map sides_of_width (placed.inner ++ placed.outer) = nested.sides ∙ ap (map sides_of_width) placed.joined in
    let left_i = side_at spots placed.inner placed.outer side_is i (omega (arith, count, less, inside)) in
    let left_j = side_at spots placed.inner placed.outer side_is j (omega (arith, count, inside)) in
    elim (cases_lt (last_address_at regions i) (first_address_at regions j)) [
      | inl before ↦ inl (inl (boxes_are_apart look.told section.number spots (box_at spots i) (box_at spots j) standing here there (omega (arith, one.last, two.first, before))))
      | inr meet ↦ elim (cases_lt (last_address_at regions j) (first_address_at regions i)) [
        | inl behind ↦ inr (inl (boxes_are_apart look.told section.number spots (box_at spots j) (box_at spots i) standing there here (omega (arith, two.last, one.first, behind))))
        | inr also ↦
            let ends = placed.sides nested.room in
            let row : placed.left ≤ placed.split = row_of nested.site nested.lost placed.left placed.split placed.beside placed.edge nested.room ends in
            let between = in_place.between row in
            let apart : StandApart (width_at placed.inner i) (width_at placed.inner j) =
            in_place.apart (siblings_rise look text section nested rise) i j less inside same (omega (arith, also), omega (arith, meet)) in
            elim apart [
              | inl left ↦
                  inl (ends_beside (box_at spots i) (box_at spots j) placed.inner i j placed.left placed.split left_i left_j
                  (between i (record { left = 0; right = 0; inner = 0 }) (omega (arith, count, less, inside))) left)
              | inr right ↦
                  inr (ends_beside (box_at spots j) (box_at spots i) placed.inner j i placed.left placed.split left_j left_i
                  (between j (record { left = 0; right = 0; inner = 0 }) (omega (arith, count, inside))) right)
            ]
      ]
    ]
