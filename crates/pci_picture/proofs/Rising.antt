-- Lines of depth 1 rise by their first addresses.
use Rattle.std.proofs.Common.{arith, ◌≡◌, ◌<◌, ◌≤◌, ◌==◌, ℕ, zero, suc, cond, if◌then◌else◌, List, [], ◌∷◌, map, length, refl, sym, ap, subst, ◌∙◌, inl, inr}
use Rattle.std.specs.List.{All, slice_index_or, slice_split}
use Rattle.std.proofs.lemmas.Bool.{cases_Bool, cases_lt, eq-eqb}
use Rattle.std.proofs.lemmas.List.{length-map}
use Rattle.std.proofs.lemmas.List.Elements.{All-append, All-cons, All-filter, All-head, All-map, All-nil, All-tail}
use Rattle.pci_picture.specs.Headings.{Headed, ReadSoFar, at_begin, depth_of_line, headed, headed_at, headed_behind, headed_lines, headed_regions, is_section, read_on}
use Rattle.pci_picture.specs.Lanes.{IsParent, SiblingsRise, depth_at, first_address_at}
use Rattle.pci_picture.specs.Lines.{indented_if_region, is_feed}
use Rattle.pci_picture.specs.Looks.{Look}
use Rattle.pci_picture.specs.Maps.{headed_member, regions_of_members}
use Rattle.pci_picture.specs.Nested.{AreSortedByTop, HasNestedBoxes, headed_in, headed_with_top}
use Rattle.pci_picture.specs.Siblings.{InnerLinesRise}
use Rattle.pci_picture.specs.Spots.{Section, first_address}
use Rattle.pci_picture.specs.declared.map.Heading.TheVariants.{Lost}
use Rattle.pci_picture.specs.declared.plan.Member.{Member}
use Rattle.pci_picture.specs.declared.region.Region.{Region}

-- ---- parents

-- a line that stands deeper than 1 has a parent: it is looked for from the index n down
find_parent : (regions : List Region) (i n : ℕ) → n ≤ i → depth_at regions 0 ≤ 1 → 1 < depth_at regions i
    → ((k : ℕ) → n ≤ k → k < i → depth_at regions i ≤ depth_at regions k) → (p : ℕ) × IsParent regions p i
find_parent regions i zero le first deep all = elim (cases_lt 0 i) [
  | inl some ↦ absurd (let low = all 0 (omega arith) some in let no : ⊥ = omega (arith, low, first, deep) in no)
  | inr none ↦
      let same : i ≡ 0 = omega (arith, none) in
      absurd (let flat = subst (λ (k : ℕ). 1 < depth_at regions k) same deep in let no : ⊥ = omega (arith, flat, first) in no)
]
find_parent regions i (suc n) le first deep all = elim (cases_lt (depth_at regions n) (depth_at regions i)) [
  | inl less ↦ (n, record { before = omega (arith, le); is_outer = less; is_last = λ k up low. all k (omega (arith, up)) low })
  | inr also ↦ find_parent regions i n (omega (arith, le)) first deep (λ k up low. elim (cases_lt n k) [
    | inl more ↦ all k (omega (arith, more)) low
    | inr here ↦ let same : n ≡ k = omega (arith, up, here) in subst (λ (m : ℕ). depth_at regions i ≤ depth_at regions m) same (omega (arith, also))
  ])
]

-- ---- lines of depth 1

-- its first address is that of the line of depth 1 that it is
abbrev HasOwnTop : Headed → Type 0
HasOwnTop h = h.depth ≡ 1 → h.top ≡ first_address h.line

own_at : (reading : ReadSoFar) (depth : ℕ) (line : List ℕ) → HasOwnTop (headed_at reading depth line)
own_at reading depth line one = ap (λ b. if b then first_address line else reading.top) (eq-eqb depth 1 one)

own_all : (reading : ReadSoFar) (lines : List (List ℕ)) → All HasOwnTop (headed_lines reading lines)
own_all reading [] = All-nil HasOwnTop
own_all reading (line ∷ lines) =
    All-append HasOwnTop (headed_behind reading line) (headed_lines (read_on reading line) lines)
    (All-map HasOwnTop (headed_at reading (depth_of_line reading line)) (indented_if_region line)
    (λ k d inside. own_at reading (depth_of_line reading line) (slice_index_or (indented_if_region line) k d)))
    (own_all (read_on reading line) lines)

rest_of : (P : Headed → Type 0) (top : ℕ) (h : Headed) (regions : List Headed) → All P (headed_with_top top (h ∷ regions)) → All P (headed_with_top top regions)
rest_of P top h regions all = elim (cases_Bool (h.top == top)) [
  | inl same ↦
      All-tail P h (headed_with_top top regions)
      (subst (λ b. All P (cond b (h ∷ headed_with_top top regions) (headed_with_top top regions))) same all)
  | inr other ↦ subst (λ b. All P (cond b (h ∷ headed_with_top top regions) (headed_with_top top regions))) other all
]

-- what holds of those with each first address of depth 1 holds of all
all_by_top : (P : Headed → Type 0) (regions : List Headed) → ((top : ℕ) → All P (headed_with_top top regions)) → All P regions
all_by_top P [] each = All-nil P
all_by_top P (h ∷ regions) each =
    All-cons P h regions
    (All-head P h (headed_with_top h.top regions)
    (subst (λ b. All P (cond b (h ∷ headed_with_top h.top regions) (headed_with_top h.top regions))) (eq-eqb h.top h.top refl) (each h.top)))
    (all_by_top P regions (λ top. rest_of P top h regions (each top)))

own_drawn : (number : ℕ) (text : List ℕ) (drawn : List Headed) → AreSortedByTop (headed_in number (headed_regions text)) drawn → All HasOwnTop drawn
own_drawn number text drawn sorted =
    let all : All HasOwnTop (headed_in number (headed_regions text)) =
    All-filter (λ region. is_section number region.heading) HasOwnTop (headed_regions text) (own_all at_begin (slice_split is_feed text)) in
    all_by_top HasOwnTop drawn (λ top.
    subst (All HasOwnTop) (sym (sorted.kept top)) (All-filter (λ region. region.top == top) HasOwnTop (headed_in number (headed_regions text)) all))

-- the first address of a line of depth 1
top_at : (ms : List Member) (k : ℕ) (d : Headed) → k < length ms → All HasOwnTop (map headed_member ms) → depth_at (regions_of_members ms) k ≡ 1
    → (slice_index_or (map headed_member ms) k d).top ≡ first_address_at (regions_of_members ms) k
unfolding first_address
top_at [] k d inside own one = absurd (let no : ⊥ = omega (arith, inside) in no)
top_at (m ∷ ms) zero d inside own one = All-head HasOwnTop (headed_member m) (map headed_member ms) own one ∙ sym m.region.ends.first_is
top_at (m ∷ ms) (suc k) d inside own one = top_at ms k d (omega (arith, inside)) (All-tail HasOwnTop (headed_member m) (map headed_member ms) own) one

flat_rise : (number : ℕ) (text : List ℕ) (ms : List Member) (i j : ℕ) (d : Headed) → AreSortedByTop (headed_in number (headed_regions text)) (map headed_member ms)
    → i < j → j < length ms → depth_at (regions_of_members ms) i ≡ 1 → depth_at (regions_of_members ms) j ≡ 1
    → first_address_at (regions_of_members ms) i ≤ first_address_at (regions_of_members ms) j
flat_rise number text ms i j d sorted less inside one two =
    let own = own_drawn number text (map headed_member ms) sorted in
    let size = length-map ms headed_member in
    let first = top_at ms i d (omega (arith, less, inside)) own one in
    let last = top_at ms j d inside own two in
    let up = sorted.rise i j d (omega (arith, less)) (omega (arith, size, inside)) in
    omega (arith, first, last, up)

-- ---- lines of one parent

pub siblings_rise : (look : Look) (text : List ℕ) (section : Section) (nested : HasNestedBoxes look (headed_regions text) section)
    → InnerLinesRise (regions_of_members nested.inside) → SiblingsRise (regions_of_members nested.inside)
siblings_rise look text section nested inner i j less within same =
    let regions : List Region = regions_of_members nested.inside in
    let size = length-map nested.inside (λ (m : Member). m.region) in
    let deep = nested.indented.deep in
    elim (cases_lt 1 (depth_at regions i)) [
      | inl more ↦
          let parent = find_parent regions i i (omega arith) nested.indented.first more (λ k up low. absurd (let no : ⊥ = omega (arith, up, low) in no)) in
          inner parent.0 i j less within parent.1 ((same parent.0).0 parent.1)
      | inr flat ↦ elim (cases_lt 1 (depth_at regions j)) [
        | inl more ↦
            let parent = find_parent regions j j (omega arith) nested.indented.first more (λ k up low. absurd (let no : ⊥ = omega (arith, up, low) in no)) in
            let own = (same parent.0).1 parent.1 in
            absurd (let low = own.is_outer in let some = deep parent.0 (let before = own.before in omega (arith, before, less, within)) in
            let no : ⊥ = omega (arith, low, some, flat) in no)
        | inr also ↦
            let one = deep i (omega (arith, less, within)) in
            let two = deep j within in
            flat_rise section.number text nested.inside i j (headed Lost 0 0 []) nested.told less (omega (arith, size, within)) (omega (arith, one, flat)) (omega (arith, two, also))
      ]
    ]
