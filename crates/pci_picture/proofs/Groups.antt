-- Members by sections, and the sections of a picture.
use Rattle.std.proofs.Common.{◌≡◌, ◌≤◌, ◌<◌, ◌==◌, ◌&&◌, not, ℕ, suc, Bool, true, false, if◌then◌else◌, List, [], ◌∷◌, ◌++◌, map, take, length, get_or, refl, sym, ap, subst, ◌∙◌, arith, ◌⊎◌, inl, inr}
use Rattle.std.specs.List.{All, AllPairs, Any, filter, flat_map}
use Rattle.std.specs.List.Sorted.{IsNonDecreasingBy, IsPermutation}
use Rattle.std.proofs.lemmas.Bool.{eq-eqb, ne_eqb}
use Rattle.std.proofs.lemmas.Bool.Decides.{eqb_tells}
use Rattle.std.proofs.lemmas.List.{append-nil, map-append, nil_from_length, take_all}
use Rattle.std.proofs.lemmas.List.Concat.{flat_map-append}
use Rattle.std.proofs.lemmas.List.Elements.{All-cons, All-head, All-map, All-nil, All-push, All-tail, All-weaker, filter-append, filter_agree}
use Rattle.std.proofs.lemmas.List.Quantifiers.{all_pairs_push}
use Rattle.std.proofs.lemmas.List.Sorted.{IsPermutation-append_comm, IsPermutation-append_left, IsPermutation-filter_both, IsPermutation-map, IsPermutation-sym, IsPermutation-trans, length_permutation}
use Rattle.pci_picture.specs.Drawings.{AreGrouped, AreOfSection, AreOfSections, Group, HasRoomOf, IsGroup, members_of_groups, sections_of}
use Rattle.pci_picture.specs.Headings.{AreSectionsOf, Headed, IsSectionOf, is_below_heading, is_lost, is_below_no_heading, is_section, lines_below_headings}
use Rattle.pci_picture.specs.Looks.{Look}
use Rattle.pci_picture.specs.Maps.{AreMembersOf, headed_line, headed_member, lines_of_regions, regions_of_members, regions_under}
use Rattle.pci_picture.specs.Members.{AreIndentedBySection, AreSortedBySection, member_number}
use Rattle.pci_picture.specs.Nested.{HasNestedBoxes}
use Rattle.pci_picture.specs.Roots.{IsLostByRoot, Listed}
use Rattle.pci_picture.specs.Heights.{AddressRange}
use Rattle.pci_picture.specs.Spots.{Section, BoxSpot, StandBelow, StandsFrom, all_of, next_section, no_section, words_of_sections, lines_drawn}
use Rattle.pci_picture.specs.declared.map.Heading.{Heading}
use Rattle.pci_picture.specs.declared.map.Heading.TheVariants.{Section as InSection, Lost, Off}
use Rattle.pci_picture.specs.declared.map.Line.{Line}
use Rattle.pci_picture.specs.declared.plan.Member.{Member}
use Rattle.pci_picture.specs.declared.plan.Site.{Site}
use Rattle.pci_picture.proofs.Anys.{any_at, any_next}
use Rattle.pci_picture.proofs.Lost.{groups_by_root}
use Rattle.pci_picture.proofs.Nested.{is_in, nested_group, section_kept}
use Rattle.pci_picture.proofs.Filtered.{filter_map, filter_permuted, filter_twice}

-- ---- regions below headings

pub below_permuted : (is_meant : Heading → Bool) (xs ys : List Headed) → IsPermutation xs ys
    → IsPermutation (lines_below_headings is_meant xs) (lines_below_headings is_meant ys)
below_permuted is_meant xs ys moved =
    IsPermutation-map (λ region. region.line) (filter (λ region. is_meant region.heading) xs) (filter (λ region. is_meant region.heading) ys)
    (filter_permuted (λ region. is_meant region.heading) xs ys moved)

pub below_both : (is_meant : Heading → Bool) (some more : List Headed)
    → lines_below_headings is_meant (some ++ more) ≡ lines_below_headings is_meant some ++ lines_below_headings is_meant more
below_both is_meant some more =
    ap (map (λ region. region.line)) (filter-append (λ region. is_meant region.heading) some more)
    ∙ map-append (λ region. region.line) (filter (λ region. is_meant region.heading) some) (filter (λ region. is_meant region.heading) more)

-- what is meant is not off, so nothing of it is left out of what is kept
below_kept : (is_meant : Heading → Bool) → ((heading : Heading) → (is_meant heading && not (is_below_no_heading heading)) ≡ is_meant heading) → (regions : List Headed)
    → lines_below_headings is_meant (filter is_below_heading regions) ≡ lines_below_headings is_meant regions
below_kept is_meant same regions =
    ap (map (λ region. region.line))
    (filter_twice (λ region. is_meant region.heading) is_below_heading regions
    ∙ filter_agree (λ region. is_meant region.heading && is_below_heading region) (λ region. is_meant region.heading) (λ region. same region.heading) regions)

lost_kept : (heading : Heading) → (is_lost heading && not (is_below_no_heading heading)) ≡ is_lost heading
lost_kept (InSection m) = refl
lost_kept Lost = refl
lost_kept Off = refl

pub sections_of_all : (regions : List Headed) (sections : List Section) → AreSectionsOf (filter is_below_heading regions) sections → AreSectionsOf regions sections
sections_of_all regions sections are = record {
  rise = are.rise;
  each = All-weaker (IsSectionOf (filter is_below_heading regions)) (IsSectionOf regions) (λ section is.
      subst (λ l. IsPermutation (l ++ section.lost) (lines_drawn section.spots))
      (below_kept (is_section section.number) (section_kept section.number) regions) is) sections are.each;
  all = λ number. subst (λ l. Any (λ section. section.number ≡ number) sections ⊎ (l ≡ []))
      (below_kept (is_section number) (section_kept number) regions) (are.all number);
  lost =
      subst (λ l. IsPermutation l (flat_map (λ section. section.lost) sections))
      (below_kept is_lost lost_kept regions) are.lost;
}

-- ---- members of one section

filter_alike : (number : ℕ) (members : List Member) → All (λ member. member.section ≡ number) members
    → filter (is_in number) members ≡ members
filter_alike number [] alike = refl
filter_alike number (member ∷ members) alike =
    rw (eq-eqb member.section number (All-head (λ m. m.section ≡ number) member members alike))
    (ap (λ l. member ∷ l) (filter_alike number members (All-tail (λ m. m.section ≡ number) member members alike)))

filter_other : (number other : ℕ) (members : List Member) → (other ≡ number → ⊥) → All (λ member. member.section ≡ other) members
    → filter (is_in number) members ≡ []
filter_other number other [] apart alike = refl
filter_other number other (member ∷ members) apart alike =
    rw (ne_eqb member.section number (λ same. apart (sym (All-head (λ m. m.section ≡ other) member members alike) ∙ same)))
    (filter_other number other members apart (All-tail (λ m. m.section ≡ other) member members alike))

-- no member is in a section of a lower number
filter_later : {look : Look} (number : ℕ) (groups : List Group) → All (λ section. number < section.number) (sections_of groups) → All (IsGroup look) groups
    → filter (is_in number) (members_of_groups groups) ≡ []
filter_later {look} number [] later each = refl
filter_later {look} number (group ∷ groups) later each =
    let less : number < group.section.number = All-head (λ section. number < section.number) group.section (sections_of groups) later in
    let one : IsGroup look group = All-head (IsGroup look) group groups each in
    filter-append (is_in number) group.members (members_of_groups groups)
    ∙ ap (λ l. l ++ filter (is_in number) (members_of_groups groups))
    (filter_other number group.section.number group.members (λ same. omega (arith, less, same)) one.alike)
    ∙ filter_later number groups (All-tail (λ section. number < section.number) group.section (sections_of groups) later) (All-tail (IsGroup look) group groups each)

abbrev HasMembers : List Member → Group → Type 0
HasMembers members group = filter (is_in group.section.number) members ≡ group.members

-- the members of a group are all those of its section
later_groups : {look : Look} (first : Group) (groups : List Group) (members : List Member) → IsGroup look first
    → (rest : List Group) → All (λ section. first.section.number < section.number) (sections_of rest) → All (HasMembers members) rest
    → All (HasMembers (first.members ++ members)) rest
later_groups {look} first groups members is [] later has = All-nil (HasMembers (first.members ++ members))
later_groups {look} first groups members is (group ∷ rest) later has =
    let less : first.section.number < group.section.number =
    All-head (λ section. first.section.number < section.number) group.section (sections_of rest) later in
    All-cons (HasMembers (first.members ++ members)) group rest
    (filter-append (is_in group.section.number) first.members members
    ∙ ap (λ l. l ++ filter (is_in group.section.number) members)
    (filter_other group.section.number first.section.number first.members (λ same. omega (arith, less, same)) is.alike)
    ∙ All-head (HasMembers members) group rest has)
    (later_groups first groups members is rest
    (All-tail (λ section. first.section.number < section.number) group.section (sections_of rest) later)
    (All-tail (HasMembers members) group rest has))

pub pairs_head : {X : Type 0} (R : X → X → Type 0) (x : X) (xs : List X) → AllPairs R (x ∷ xs) → All (R x) xs
pairs_head R x xs pairs k d inside = pairs 0 (suc k) d (omega arith) (omega (arith, inside))

pub pairs_tail : {X : Type 0} (R : X → X → Type 0) (x : X) (xs : List X) → AllPairs R (x ∷ xs) → AllPairs R xs
pairs_tail R x xs pairs i j d less inside = pairs (suc i) (suc j) d (omega (arith, less)) (omega (arith, inside))

abbrev Rises : List Section → Type 0
Rises sections = AllPairs (λ one other. one.number < other.number) sections

all_members : {look : Look} (groups : List Group) → Rises (sections_of groups) → All (IsGroup look) groups → All (HasMembers (members_of_groups groups)) groups
all_members {look} [] rise each = All-nil (HasMembers [])
all_members {look} (group ∷ groups) rise each =
    let one : IsGroup look group = All-head (IsGroup look) group groups each in
    let others : All (IsGroup look) groups = All-tail (IsGroup look) group groups each in
    let later : All (λ section. group.section.number < section.number) (sections_of groups) =
    pairs_head (λ one other. one.number < other.number) group.section (sections_of groups) rise in
    let rest : Rises (sections_of groups) = pairs_tail (λ one other. one.number < other.number) group.section (sections_of groups) rise in
    All-cons (HasMembers (members_of_groups (group ∷ groups))) group groups
    (filter-append (is_in group.section.number) group.members (members_of_groups groups)
    ∙ ap (λ l. l ++ filter (is_in group.section.number) (members_of_groups groups)) (filter_alike group.section.number group.members one.alike)
    ∙ ap (λ l. group.members ++ l) (filter_later group.section.number groups later others)
    ∙ append-nil group.members)
    (later_groups group groups (members_of_groups groups) one groups later (all_members groups rest others))

-- ---- the lines of a section

seat_of : (lost : Bool) (number n : ℕ)
    → is_section n (if lost then Lost else InSection number) ≡ (not (is_lost (if lost then Lost else InSection number)) && (number == n))
seat_of true number n = refl
seat_of false number n = refl

lines_in : (n : ℕ) (members : List Member)
    → lines_below_headings (is_section n) (map headed_member members)
    ≡ lines_below_headings (λ heading. not (is_lost heading)) (map headed_member (filter (is_in n) members))
lines_in n members =
    let seated : List Member → List Headed = map headed_member in
    ap (map (λ region. region.line))
    (filter_map (λ region. is_section n region.heading) headed_member members
    ∙ ap seated
    (filter_agree (λ m. is_section n ((headed_member m).heading)) (λ m. not (is_lost ((headed_member m).heading)) && is_in n m)
    (λ m. seat_of m.is_lost m.section n) members)
    ∙ ap seated (sym (filter_twice (λ m. not (is_lost ((headed_member m).heading))) (is_in n) members))
    ∙ sym (filter_map (λ region. not (is_lost region.heading)) headed_member (filter (is_in n) members)))

lines_of_members : (members : List Member) → map (λ region. region.line) (map headed_member members) ≡ lines_of_regions (regions_of_members members)
lines_of_members [] = refl
lines_of_members (member ∷ members) = ap (λ l. member.region.line.now ∷ l) (lines_of_members members)

-- those below the heading and those that are lost are all
both_kinds : (regions : List Headed)
    → IsPermutation (lines_below_headings (λ heading. not (is_lost heading)) regions ++ lines_below_headings is_lost regions) (map (λ region. region.line) regions)
both_kinds regions =
    let lost : List Headed = filter (λ region. is_lost region.heading) regions in
    let others : List Headed = filter (λ region. not (is_lost region.heading)) regions in
    IsPermutation-trans _ _ _ (IsPermutation-append_comm (map (λ region. region.line) others) (map (λ region. region.line) lost))
    (subst (λ l. IsPermutation l (map (λ region. region.line) regions)) (map-append (λ region. region.line) lost others)
    (IsPermutation-map (λ region. region.line) (lost ++ others) regions
    (IsPermutation-sym regions (lost ++ others)
    (IsPermutation-filter_both (λ region. is_lost region.heading) (λ region. not (is_lost region.heading)) (λ region. refl) regions))))

section_of : {look : Look} (regions : List Headed) (members : List Member) (group : Group) → IsPermutation regions (map headed_member members)
    → IsGroup look group → HasMembers members group → IsSectionOf regions group.section
section_of {look} regions members group moved is has =
    let n : ℕ = group.section.number in
    let seats : List Headed = map headed_member group.members in
    let same : lines_below_headings (is_section n) (map headed_member members) ≡ lines_below_headings (λ heading. not (is_lost heading)) seats =
    lines_in n members ∙ ap (λ l. lines_below_headings (λ heading. not (is_lost heading)) (map headed_member l)) has in
    let below : IsPermutation (lines_below_headings (is_section n) regions) (lines_below_headings (λ heading. not (is_lost heading)) seats) =
    subst (λ l. IsPermutation (lines_below_headings (is_section n) regions) l) same (below_permuted (is_section n) regions (map headed_member members) moved) in
    let all : IsPermutation (lines_below_headings (is_section n) regions ++ lines_below_headings is_lost seats) (lines_of_regions (regions_of_members group.members)) =
    subst (λ l. IsPermutation (lines_below_headings (is_section n) regions ++ lines_below_headings is_lost seats) l) (lines_of_members group.members)
    (IsPermutation-trans _ _ _ (IsPermutation-append_left (lines_below_headings is_lost seats) (lines_below_headings (is_section n) regions) _ below) (both_kinds seats)) in
    subst (λ l. IsPermutation (lines_below_headings (is_section n) regions ++ l) (lines_drawn group.section.spots)) (sym is.lost)
    (subst (λ l. IsPermutation (lines_below_headings (is_section n) regions ++ lines_below_headings is_lost seats) l) (sym is.drawn) all)

-- each number has a section or no line
section_or_none : {look : Look} (number : ℕ) (groups : List Group) → All (IsGroup look) groups
    → Any (λ section. section.number ≡ number) (sections_of groups) ⊎ (filter (is_in number) (members_of_groups groups) ≡ [])
section_or_none {look} number [] each = inr refl
section_or_none {look} number (group ∷ groups) each =
    let one : IsGroup look group = All-head (IsGroup look) group groups each in
    elim (eqb_tells group.section.number number) [
      | inl same ↦ inl (any_at (λ section. section.number ≡ number) (sections_of (group ∷ groups)) group.section (0, omega arith, refl) same.1)
      | inr apart ↦ elim (section_or_none number groups (All-tail (IsGroup look) group groups each)) [
        | inl found ↦ inl (any_next (λ section. section.number ≡ number) group.section (sections_of groups) found)
        | inr none ↦ inr (filter-append (is_in number) group.members (members_of_groups groups)
            ∙ ap (λ l. l ++ filter (is_in number) (members_of_groups groups)) (filter_other number group.section.number group.members apart.1 one.alike)
            ∙ none)
      ]
    ]

no_lines : (regions : List Headed) (members : List Member) (number : ℕ) → IsPermutation regions (map headed_member members)
    → filter (is_in number) members ≡ [] → lines_below_headings (is_section number) regions ≡ []
no_lines regions members number moved none =
    let below : List (List ℕ) = lines_below_headings (is_section number) (map headed_member members) in
    let nothing : below ≡ [] =
    lines_in number members ∙ ap (λ l. lines_below_headings (λ heading. not (is_lost heading)) (map headed_member l)) none in
    let long = length_permutation (lines_below_headings (is_section number) regions) below (below_permuted (is_section number) regions (map headed_member members) moved) in
    let short : length below ≡ 0 = ap length nothing in
    nil_from_length (lines_below_headings (is_section number) regions) (omega (arith, long, short))

all_lost : {look : Look} (groups : List Group) → All (IsGroup look) groups
    → lines_below_headings is_lost (map headed_member (members_of_groups groups)) ≡ flat_map (λ section. section.lost) (sections_of groups)
all_lost {look} [] each = refl
all_lost {look} (group ∷ groups) each =
    let one : IsGroup look group = All-head (IsGroup look) group groups each in
    ap (lines_below_headings is_lost) (map-append headed_member group.members (members_of_groups groups))
    ∙ below_both is_lost (map headed_member group.members) (map headed_member (members_of_groups groups))
    ∙ ap (λ l. l ++ lines_below_headings is_lost (map headed_member (members_of_groups groups))) (sym one.lost)
    ∙ ap (λ l. group.section.lost ++ l) (all_lost groups (All-tail (IsGroup look) group groups each))

all_drawn : {look : Look} (groups : List Group) → All (IsGroup look) groups → lines_drawn (all_of (sections_of groups)) ≡ lines_of_regions (regions_of_members (members_of_groups groups))
all_drawn {look} [] each = refl
all_drawn {look} (group ∷ groups) each =
    let one : IsGroup look group = All-head (IsGroup look) group groups each in
    map-append (λ s. s.line) group.section.spots (all_of (sections_of groups))
    ∙ ap (λ l. l ++ lines_drawn (all_of (sections_of groups))) one.drawn
    ∙ ap (λ l. lines_of_regions (regions_of_members group.members) ++ l) (all_drawn groups (All-tail (IsGroup look) group groups each))
    ∙ sym (ap lines_of_regions (map-append (λ m. m.region) group.members (members_of_groups groups))
    ∙ map-append (λ r. r.line.now) (regions_of_members group.members) (regions_of_members (members_of_groups groups)))

-- ---- one group more, and all

all_more : (sections : List Section) (section : Section) → all_of (sections ++ section ∷ []) ≡ all_of sections ++ section.spots
all_more sections section =
    flat_map-append (λ s. s.spots) sections (section ∷ []) ∙ ap (λ l. all_of sections ++ l) (append-nil section.spots)

words_of_more : (sections : List Section) (section : Section) → words_of_sections (sections ++ section ∷ []) ≡ words_of_sections sections ++ section.words
words_of_more sections section =
    flat_map-append (λ s. s.words) sections (section ∷ []) ∙ ap (λ l. words_of_sections sections ++ l) (append-nil section.words)

-- one section more, from the end of the last one on
stands_more : (told_of : List (List ℕ) → List AddressRange) (y between end : ℕ) (sections : List Section) (section : Section) → StandBelow told_of y sections between
    → StandsFrom told_of between section.number section.spots end → StandBelow told_of y (sections ++ section ∷ []) end
stands_more told_of _ _ end _ section (no_section y) last = next_section y end end section [] last (no_section end)
stands_more told_of _ _ end _ section (next_section y above between first sections is rest) last =
    next_section y above end first (sections ++ section ∷ []) is (stands_more told_of above between end sections section rest last)

pub no_group : (look : Look) (first : Site) (members : List Member) → AreGrouped look first members 0 first.y [] []
no_group look first members = record {
  groups = [];
  joined = refl;
  written = refl;
  taken = refl;
  each = All-nil (IsGroup look);
  rise = λ i j d less inside. absurd (omega (arith, inside));
  below = λ d inside. All-nil (λ section. section.number < (get_or members 0 d).section);
  stand = λ small. no_section first.y;
  rooms = All-nil (λ group. HasRoomOf first group.site);
}

pub group_more : (look : Look) (first site : Site) (members part : List Member) (begin end y bottom number : ℕ) (spots more : List BoxSpot) (bytes words : List ℕ) (done : AreGrouped look first members begin y spots bytes)
    → take end members ≡ take begin members ++ part → y ≤ bottom
    → All (λ member. member.section ≡ number) part
    → All (λ section. section.number < number) (sections_of done.groups)
    → ((d : Member) → end < length members → number < (get_or members end d).section)
    → IsNonDecreasingBy member_number part → HasRoomOf first site → site.section ≡ number → site.y ≡ y
    → AreOfSection look site part bottom more words
    → AreGrouped look first members end bottom (spots ++ more) (bytes ++ words)
group_more look first site members part begin end y bottom number spots more bytes words done joined down alike less next lost_last room is at last =
    let section : Section = record { number = number; spots = more; lost = lines_below_headings is_lost (map headed_member part); words = words } in
    let group : Group = record { section = section; members = part; site = site } in
    let before : List Section = sections_of done.groups in
    let behind : sections_of (done.groups ++ group ∷ []) ≡ before ++ section ∷ [] = map-append (λ g. g.section) done.groups (group ∷ []) in
    record {
      groups = done.groups ++ group ∷ [];
      joined = ap all_of behind ∙ all_more before section ∙ ap (λ l. l ++ more) done.joined;
      written = ap words_of_sections behind ∙ words_of_more before section ∙ ap (λ l. l ++ words) done.written;
      taken =
          flat_map-append (λ g. g.members) done.groups (group ∷ [])
          ∙ ap (λ l. members_of_groups done.groups ++ l) (append-nil part) ∙ ap (λ l. l ++ part) done.taken ∙ sym joined;
      each = All-push (IsGroup look) done.groups group done.each (record {
        drawn = last.drawn;
        looks = last.looks;
        titled = last.titled;
        lost = refl;
        alike = alike;
        lost_last = lost_last;
        beside = last.beside;
      });
      rise =
          subst Rises (sym behind)
          (all_pairs_push (λ one other. one.number < other.number) before section done.rise (λ k d inside. less k d inside));
      below = λ d inside.
          let above : number < (get_or members end d).section = next d inside in
          subst (All (λ s. s.number < (get_or members end d).section)) (sym behind)
          (All-push (λ s. s.number < (get_or members end d).section) before section
          (All-weaker (λ s. s.number < number) (λ s. s.number < (get_or members end d).section) (λ s low. omega (arith, low, above)) before less)
          above);
      stand = λ small.
          subst (λ l. StandBelow look.told first.y l bottom) (sym behind)
          (stands_more look.told first.y y bottom before section (done.stand (omega (arith, down, small)))
          (subst (λ n. StandsFrom look.told n number more bottom) at (subst (λ n. StandsFrom look.told site.y n more bottom) is (last.stand small))));
      rooms = All-push (λ g. HasRoomOf first g.site) done.groups group done.rooms room;
    }

pub grouped : (look : Look) (first : Site) (functions : List Listed) (lines : List Line) (members : List Member) (count end : ℕ) (spots : List BoxSpot) (bytes : List ℕ) → length members ≤ count
    → AreMembersOf lines members → AreIndentedBySection members → AreSortedBySection lines members → All (IsLostByRoot functions) members
    → AreGrouped look first members count end spots bytes → AreOfSections look first functions lines end spots bytes
grouped look first functions lines members count end spots bytes past are indented sorted by_root done =
    let regions : List Headed = map headed_line lines in
    let taken : members_of_groups done.groups ≡ members = done.taken ∙ take_all count members past in
    let drawn : lines_of_regions (regions_of_members members) ≡ lines_drawn spots =
    sym (ap (λ l. lines_of_regions (regions_of_members l)) taken) ∙ sym (all_drawn done.groups done.each) ∙ ap lines_drawn done.joined in
    let has : All (HasMembers members) done.groups =
    subst (λ l. All (HasMembers l) done.groups) taken (all_members done.groups done.rise done.each) in
    record {
      sections = sections_of done.groups;
      joined = done.joined;
      written = done.written;
      each_once =
          subst (λ l. IsPermutation (lines_of_regions (regions_under lines)) l) drawn
          (IsPermutation-map (λ r. r.line.now) (regions_under lines) (regions_of_members members) are.moved);
      below_headings = record {
        rise = done.rise;
        each =
            All-map (IsSectionOf regions) (λ g. g.section) done.groups
            (λ k d inside. section_of regions members (get_or done.groups k d) are.seated (done.each k d inside) (has k d inside));
        all = λ number. elim (section_or_none number done.groups done.each) [
          | inl found ↦ inl found
          | inr none ↦ inr (no_lines regions members number are.seated (ap (filter (is_in number)) (sym taken) ∙ none))
        ];
        lost =
            subst (λ l. IsPermutation (lines_below_headings is_lost regions) l)
            (ap (λ ms. lines_below_headings is_lost (map headed_member ms)) (sym taken) ∙ all_lost done.groups done.each)
            (below_permuted is_lost regions (map headed_member members) are.seated);
      };
      by_root = groups_by_root look functions done.groups done.each (subst (All (IsLostByRoot functions)) (sym taken) by_root);
      stand = done.stand;
      nested = λ sides columns.
          All-map (HasNestedBoxes look regions) (λ g. g.section) done.groups
          (λ k d inside. nested_group look first regions members (get_or done.groups k d) sides columns (done.rooms k d inside) (sorted ((get_or done.groups k d).section.number)) indented
          (has k d inside) (done.each k d inside));
    }
