-- The members of a section in place, and how deep they stand.
use Rattle.std.proofs.Common.{arith, ◌≡◌, ◌≤◌, ◌+◌, ◌*◌, ◌==◌, ◌&&◌, not, ℕ, zero, suc, Bool, true, false, cond, if◌then◌else◌, IsTrue, List, [], ◌∷◌, ◌++◌, map, take, drop, fold, max, get_or, ◌-◌, refl, sym, ap, ap₂, subst, ◌∙◌, inl, inr}
use Rattle.std.specs.List.{All, filter, position_or_len, slice_index_or}
use Rattle.std.specs.List.Sorted.{IsNonDecreasingBy}
use Rattle.std.proofs.lemmas.Bool.{cases_Bool}
use Rattle.std.proofs.lemmas.List.{take-append-drop}
use Rattle.std.proofs.lemmas.List.Elements.{All-filter, All-head, All-tail, filter_agree}
use Rattle.pci_picture.specs.Columns.{HasColumnsOf, column_at, deepest, width_of_lost}
use Rattle.pci_picture.specs.Drawings.{Group, HasRoomOf, IsGroup}
use Rattle.pci_picture.specs.Headings.{Headed, is_below_heading, is_below_no_heading, is_in_section, is_lost, is_section, lines_below_headings}
use Rattle.pci_picture.specs.Lanes.{IsIndented}
use Rattle.pci_picture.specs.Maps.{headed_member, lines_of_regions, regions_of_members}
use Rattle.pci_picture.specs.Members.{AreIndentedBySection, IsFlatIfLost, is_member_in_place, member_number}
use Rattle.pci_picture.specs.Looks.{Look, looks_of}
use Rattle.pci_picture.specs.Nested.{AreSortedByTop, HasNestedBoxes, headed_in}
use Rattle.pci_picture.specs.Sides.{AreIndented, HasSides, StandBeside, count_in_place}
use Rattle.pci_picture.specs.Spots.{Section}
use Rattle.pci_picture.specs.declared.map.Heading.{Heading}
use Rattle.pci_picture.specs.declared.map.Heading.TheVariants.{Section as InSection, Lost, Off}
use Rattle.pci_picture.specs.declared.plan.Member.{Member}
use Rattle.pci_picture.specs.declared.plan.Site.{Site}
use Rattle.pci_picture.specs.declared.region.Region.{Region}
use Rattle.pci_picture.proofs.Chained.{Steps, indented_by}
use Rattle.pci_picture.proofs.Looks.{SameLooks, titled_same, words_same}
use Rattle.pci_picture.proofs.Marks.{any_alike, any_filtered}
use Rattle.pci_picture.proofs.Filtered.{filter_twice}

-- ---- what is out of place stands last

-- what passes a test stands behind what fails it
module _ {X : Type 0} (p : X → Bool) where
  abbrev Passes : X → Type 0
  Passes x = p x ≡ true

  abbrev IsLast : List X → Type 0
  IsLast [] = Unit {0}
  IsLast (x ∷ xs) = (p x ≡ true → All Passes xs) × IsLast xs

  none_fails : (xs : List X) → All Passes xs → filter (λ x. not (p x)) xs ≡ []
  none_fails [] all = refl
  none_fails (x ∷ xs) all = rw (All-head Passes x xs all) (none_fails xs (All-tail Passes x xs all))

  all_pass : (xs : List X) → All Passes xs → filter p xs ≡ xs
  all_pass [] all = refl
  all_pass (x ∷ xs) all = rw (All-head Passes x xs all) (ap (λ l. x ∷ l) (all_pass xs (All-tail Passes x xs all)))

  one_more : (n : ℕ) (x : X) (xs : List X) → take (1 + n) (x ∷ xs) ≡ x ∷ take n xs
  one_more n x xs = let e : 1 + n ≡ suc n = omega arith in ap (λ k. take k (x ∷ xs)) e

  one_less : (n : ℕ) (x : X) (xs : List X) → drop (1 + n) (x ∷ xs) ≡ drop n xs
  one_less n x xs = let e : 1 + n ≡ suc n = omega arith in ap (λ k. drop k (x ∷ xs)) e

  front_is : (xs : List X) → IsLast xs → take (position_or_len p xs) xs ≡ filter (λ x. not (p x)) xs
  front_is [] last = refl
  front_is (x ∷ xs) last = elim (cases_Bool (p x)) [
    | inl passes ↦ rw passes (sym (none_fails xs (last.0 passes)))
    | inr fails ↦ rw fails (one_more _ x xs ∙ ap (λ l. x ∷ l) (front_is xs last.1))
  ]

  back_is : (xs : List X) → IsLast xs → drop (position_or_len p xs) xs ≡ filter p xs
  back_is [] last = refl
  back_is (x ∷ xs) last = elim (cases_Bool (p x)) [
    | inl passes ↦ rw passes (ap (λ l. x ∷ l) (sym (all_pass xs (last.0 passes))))
    | inr fails ↦ rw fails (one_less _ x xs ∙ back_is xs last.1)
  ]

abbrev out_of_place : Member → Bool
out_of_place m = m.is_lost

abbrev in_place : Member → Bool
in_place m = not (out_of_place m)

abbrev LostLast : List Member → Type 0
LostLast ms = IsLast out_of_place ms

lost_behind : (lost other : Bool) (s t number : ℕ) → s ≡ number → t ≡ number → 2 * s + (if lost then 1 else 0) ≤ 2 * t + (if other then 1 else 0) → lost ≡ true → other ≡ true
lost_behind lost true s t number one two rises is = refl
lost_behind true false s t number one two rises is = absurd (let no : ⊥ = omega (arith, one, two, rises) in no)
lost_behind false false s t number one two rises is = is

lost_last : (number : ℕ) (ms : List Member) → All (λ m. m.section ≡ number) ms → IsNonDecreasingBy member_number ms → LostLast ms
lost_last number [] alike rises = tt
lost_last number (m ∷ ms) alike rises =
    let own = All-head (λ (x : Member). x.section ≡ number) m ms alike in
    let others = All-tail (λ (x : Member). x.section ≡ number) m ms alike in (
      λ lost k d inside. lost_behind m.is_lost ((slice_index_or ms k d).is_lost) m.section ((slice_index_or ms k d).section) number own (others k d inside)
          (rises 0 (suc k) d (omega arith) (omega (arith, inside))) lost,
      lost_last number ms others (λ i j d up inside. rises (suc i) (suc j) d (omega (arith, up)) (omega (arith, inside))),
    )

-- ---- regions of a section

regions_taken : (n : ℕ) (ms : List Member) → take n (regions_of_members ms) ≡ regions_of_members (take n ms)
regions_taken zero ms = refl
regions_taken (suc n) [] = refl
regions_taken (suc n) (m ∷ ms) = ap (λ l. m.region ∷ l) (regions_taken n ms)

regions_dropped : (n : ℕ) (ms : List Member) → drop n (regions_of_members ms) ≡ regions_of_members (drop n ms)
regions_dropped zero ms = refl
regions_dropped (suc n) [] = refl
regions_dropped (suc n) (m ∷ ms) = regions_dropped n ms

flat_steps : (level : ℕ) (ms : List Member) → All IsFlatIfLost ms → Steps level (filter out_of_place ms)
flat_steps level [] flat = tt
flat_steps level (m ∷ ms) flat =
    let rest = All-tail IsFlatIfLost m ms flat in
    elim (cases_Bool m.is_lost) [
      | inl lost ↦
          let one : m.region.depth ≡ 1 = All-head IsFlatIfLost m ms flat (subst (λ b. IsTrue b) (sym lost) refl) in
          subst (λ b. Steps level (cond b (m ∷ filter out_of_place ms) (filter out_of_place ms))) (sym lost)
          (omega (arith, one), omega (arith, one), flat_steps m.region.depth ms rest)
      | inr inside ↦
          subst (λ b. Steps level (cond b (m ∷ filter out_of_place ms) (filter out_of_place ms))) (sym inside) (flat_steps level ms rest)
    ]

lost_lines : (ms : List Member) → lines_below_headings is_lost (map headed_member ms) ≡ lines_of_regions (regions_of_members (filter out_of_place ms))
lost_lines [] = refl
lost_lines (m ∷ ms) = elim (cases_Bool m.is_lost) [
  | inl lost ↦ rw lost (ap (λ l. m.region.line.now ∷ l) (lost_lines ms))
  | inr inside ↦ rw inside (lost_lines ms)
]

pub section_is : (number section : ℕ) (lost : Bool) → is_section number (if lost then Lost else InSection section) ≡ (not lost && (section == number))
section_is number section true = refl
section_is number section false = refl

pub not_lost : (b : Bool) → not b ≡ true → b ≡ false
not_lost false is = refl
not_lost true is = cc

-- ---- a group is a nested section

sides_like : (first site : Site) → HasSides first → HasRoomOf first site → HasSides site
sides_like first site sides room = record {
  wide = (let low = sides.wide in let same = room.width_is in omega (arith, low, same));
  uncut = (let low = sides.uncut in let same = room.width_is in let left = room.x_is in omega (arith, low, same, left));
}

columns_like : (regions : List Headed) (first site : Site) → HasColumnsOf regions first → HasRoomOf first site → HasColumnsOf regions site
columns_like regions first site columns room = record {
  x_is = room.x_is ∙ columns.x_is;
  column_is = room.column_is ∙ columns.column_is;
  width_is = room.width_is ∙ columns.width_is ∙ ap (λ n. n * (deepest regions - 1) + 330 + width_of_lost regions) (sym room.column_is);
}

abbrev pub is_in : ℕ → Member → Bool
is_in number member = member.section == number

pub nested_group : (look : Look) (first : Site) (regions : List Headed) (members : List Member) (group : Group) → HasSides first → HasColumnsOf regions first → HasRoomOf first group.site
    → AreSortedByTop (headed_in group.section.number regions) (map headed_member (filter (is_member_in_place group.section.number) members))
    → AreIndentedBySection members → filter (is_in group.section.number) members ≡ group.members
    → IsGroup look group → HasNestedBoxes look regions group.section
nested_group look first regions members group sides columns room sorted are has is =
    let n : ℕ = group.section.number in
    let ms : List Member = group.members in
    let count : ℕ = count_in_place ms in
    let every : List Region = regions_of_members ms in
    let last : LostLast ms = lost_last n ms is.alike is.lost_last in
    let below : filter (is_member_in_place n) members ≡ take count ms =
    sym (filter_twice in_place (is_in n) members) ∙ ap (filter in_place) has ∙ sym (front_is out_of_place ms last) in
    let front : take count every ≡ regions_of_members (take count ms) = regions_taken count ms in
    let behind : drop count every ≡ regions_of_members (filter out_of_place ms) = regions_dropped count ms ∙ ap regions_of_members (back_is out_of_place ms last) in
    let indented : IsIndented (regions_of_members (take count ms)) = subst (λ l. IsIndented (regions_of_members l)) below (are.indented n) in
    let flat : All IsFlatIfLost ms = subst (All IsFlatIfLost) has (All-filter (is_in n) IsFlatIfLost members are.flat) in
    let both : AreIndented count every = record {
      inside = subst IsIndented (sym front) indented;
      lost = subst IsIndented (sym behind) (indented_by (filter out_of_place ms) (flat_steps 0 ms flat));
    } in
    record {
      inside = take count ms;
      lost = drop count every;
      told = subst (λ l. AreSortedByTop (headed_in n regions) (map headed_member l)) below sorted;
      out_of_place = ap lines_of_regions behind ∙ sym (lost_lines ms) ∙ sym is.lost;
      drawn = is.drawn ∙ ap lines_of_regions (sym (take-append-drop count every) ∙ ap (λ l. l ++ drop count every) front);
      looks = is.looks ∙ ap (λ l. looks_of look false l ++ looks_of look true (drop count every)) front;
      titled = is.titled;
      indented = indented;
      site = group.site;
      room = sides_like first group.site sides room;
      columns = columns_like regions first group.site columns room;
      widths = is.beside.widths;
      sides = is.beside.sides;
      beside = subst (λ l. StandBeside group.site l (drop count every) is.beside.widths) front (is.beside.beside both);
      fits = is.beside.fits;
      written = is.beside.written;
    }

-- ---- regions that are kept

pub section_kept : (n : ℕ) (heading : Heading) → (is_section n heading && not (is_below_no_heading heading)) ≡ is_section n heading
section_kept n (InSection m) = elim (m == n) as (λ b. (b && true) ≡ b) [ true ↦ refl | false ↦ refl ]
section_kept n Lost = refl
section_kept n Off = refl

looks_same : (one other : Look) → SameLooks one other → (is_lost : Bool) (regions : List Region)
    → looks_of one is_lost regions ≡ looks_of other is_lost regions
looks_same one other same is_lost [] = refl
looks_same one other same is_lost (region ∷ regions) =
    ap₂ (λ l ls. l ∷ ls) (same.class is_lost region.line.now) (looks_same one other same is_lost regions)

in_section_kept : (heading : Heading) → (is_in_section heading && not (is_below_no_heading heading)) ≡ is_in_section heading
in_section_kept (InSection m) = refl
in_section_kept Lost = refl
in_section_kept Off = refl

lost_among_kept : (heading : Heading) → (not (is_below_no_heading heading) && is_lost heading) ≡ is_lost heading
lost_among_kept (InSection m) = refl
lost_among_kept Lost = refl
lost_among_kept Off = refl

pub columns_of_all : (regions : List Headed) (site : Site) → HasColumnsOf (filter is_below_heading regions) site → HasColumnsOf regions site
columns_of_all regions site columns =
    let deep : deepest (filter is_below_heading regions) ≡ deepest regions =
    ap (fold (λ depth (region : Headed). max depth region.depth) 1)
    (filter_twice (λ region. is_in_section region.heading) is_below_heading regions
    ∙ filter_agree (λ region. is_in_section region.heading && is_below_heading region) (λ region. is_in_section region.heading)
    (λ region. in_section_kept region.heading) regions) in
    let lost : width_of_lost (filter is_below_heading regions) ≡ width_of_lost regions =
    ap (λ b. if b then 240 else 0)
    (any_filtered (λ (region : Headed). is_lost region.heading) is_below_heading regions
    ∙ any_alike (λ (region : Headed). is_below_heading region && is_lost region.heading) (λ region. is_lost region.heading) regions
    (λ k d inside. lost_among_kept (get_or regions k d).heading)) in
    record {
      x_is = columns.x_is;
      column_is = columns.column_is ∙ ap column_at deep;
      width_is = columns.width_is ∙ ap₂ (λ d l. site.column * (d - 1) + 330 + l) deep lost;
    }

-- the same with looks that agree, and of all regions
pub nested_of_all : (one other : Look) → SameLooks one other → (regions : List Headed) (section : Section)
    → HasNestedBoxes one (filter is_below_heading regions) section → HasNestedBoxes other regions section
nested_of_all one other same regions section is = record {
  inside = is.inside;
  lost = is.lost;
  told = subst (λ l. AreSortedByTop l (map headed_member is.inside))
      (filter_twice (λ region. is_section section.number region.heading) is_below_heading regions
      ∙ filter_agree (λ region. is_section section.number region.heading && is_below_heading region) (λ region. is_section section.number region.heading)
      (λ region. section_kept section.number region.heading) regions) is.told;
  out_of_place = is.out_of_place;
  drawn = is.drawn;
  looks = is.looks ∙ ap₂ (λ l ls. l ++ ls) (looks_same one other same false (regions_of_members is.inside)) (looks_same one other same true is.lost);
  titled = titled_same one other same section.spots is.titled;
  indented = is.indented;
  site = is.site;
  room = is.room;
  columns = columns_of_all regions is.site is.columns;
  widths = is.widths;
  sides = is.sides;
  beside = is.beside;
  fits = is.fits;
  written = is.written ∙ ap (λ l. l ++ is.fits) (words_same one other same is.widths section.spots);
}
