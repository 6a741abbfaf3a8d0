-- What is around extents: a walk along them, and that there is an address where there is an extent.
use Rattle.std.proofs.Common.{◌≡◌, ℕ, ◌+◌, ◌^◌, ◌<◌, ◌≤◌, max, min, List, [], ◌∷◌, map, length, drop, get_or, arith, ap, sym, subst, ◌∙◌, Option, Some, SomeIff}
use Rattle.std.specs.List.{fold}
use Rattle.std.proofs.lemmas.List.{length-map}
use Rattle.pci_spec.specs.Decoded.{Range as DecodedRange}
use Rattle.pci_spec.specs.Window.{WindowKind, IoWindow, MemoryWindow, PrefetchWindow, page_size}
use Rattle.pci_spec.proofs.Members.{in_head}
use Rattle.plan_spec.specs.Plan.{greatest, raised_to}
use Rattle.plan_spec.specs.Place.{range_from}
use Rattle.plan_spec.proofs.Planning.Room.{raised}
use Rattle.settle_spec.specs.FirstPlace.{Extent as ExtentValue, first_spot}
use Rattle.settle_spec.specs.Items.{laid_out, end_of}
use Rattle.settle_spec.proofs.LaidOut.{laid_keeps, greatest_more, end_behind}
use Rattle.pci_first_fit.specs.declared.extent.Extent.{Extent}
use Rattle.pci_first_fit.specs.Spots.{extent_value, IsExtent}
use Rattle.pci_first_fit.specs.Windows.{alignments, highests}
use Rattle.pci_first_fit.proofs.Walks.{left_next, left_none}

-- what is left of the extents, as the definitions have them
abbrev pub left : List Extent → ℕ → List ExtentValue
left extents n = drop n (map extent_value extents)

-- ---- the greatest alignment

pub greatest_next : (extents : List Extent) (n : ℕ) (d : Extent) (a all : ℕ) → n < length extents → max a (greatest (alignments (left extents n))) ≡ all
    → max (max a (get_or extents n d).alignment) (greatest (alignments (left extents (n + 1)))) ≡ all
greatest_next extents n d a all within is =
    let next : greatest (alignments (left extents n)) ≡ greatest ((get_or extents n d).alignment ∷ alignments (left extents (n + 1))) = ap (λ xs. greatest (alignments xs)) (left_next extent_value extents n d within) in
    let more = greatest_more (get_or extents n d).alignment (alignments (left extents (n + 1))) in
    omega (arith, is, next, more)

pub greatest_all : (extents : List Extent) (n a all : ℕ) → length extents ≤ n → max a (greatest (alignments (left extents n))) ≡ all → a ≡ all
greatest_all extents n a all past is =
    let none : greatest (alignments (left extents n)) ≡ 0 = ap (λ xs. greatest (alignments xs)) (left_none extent_value extents n past) in
    omega (arith, is, none)

-- ---- the least of the highest addresses

pub least_next : (extents : List Extent) (n : ℕ) (d : Extent) (a all : ℕ) → n < length extents → fold min a (highests (left extents n)) ≡ all
    → fold min (min a (get_or extents n d).highest) (highests (left extents (n + 1))) ≡ all
least_next extents n d a all within is = sym (ap (λ xs. fold min a (highests xs)) (left_next extent_value extents n d within)) ∙ is

pub least_all : (extents : List Extent) (n a all : ℕ) → length extents ≤ n → fold min a (highests (left extents n)) ≡ all → a ≡ all
least_all extents n a all past is = sym (ap (λ xs. fold min a (highests xs)) (left_none extent_value extents n past)) ∙ is

-- ---- an extent has an address, and so has what is around it

some_page : (c : WindowKind) → 0 < page_size c
some_page IoWindow = omega arith
some_page MemoryWindow = omega arith
some_page PrefetchWindow = omega arith

some_end : (extents : List ExtentValue) → 0 < length extents → 0 < end_of (laid_out [] extents)
some_end [] some = absurd (let no : ⊥ = omega (arith, some) in no)
some_end (e ∷ extents) some =
    let first : DecodedRange = range_from (first_spot 0 [] e) e.size in
    let end = end_behind (laid_out (first ∷ []) extents) first (laid_keeps (first ∷ []) extents first (in_head first [])) in
    omega (arith, end)

pub around_some : (c : WindowKind) (extents : List Extent) (page size alignment all end highest : ℕ) (o : Option ℕ)
    → page ≡ page_size c
    → SomeIff o (end_of (laid_out [] (map extent_value extents)) < 2 ^ 64) (end_of (laid_out [] (map extent_value extents))) → o ≡ Some end
    → size ≡ raised_to page end → alignment ≡ max page all → 0 < length extents → IsExtent (record { size = size; alignment = alignment; highest = highest })
around_some c extents page size alignment all end highest o page_is told is size_is alignment_is some =
    let some_one = some_page c in
    let long = length-map extents extent_value in
    let above = some_end (map extent_value extents) (omega (arith, some, long)) in
    let pair : (end_of (laid_out [] (map extent_value extents)) < 2 ^ 64) × (end ≡ end_of (laid_out [] (map extent_value extents))) =
    subst (λ x. SomeIff x (end_of (laid_out [] (map extent_value extents)) < 2 ^ 64) (end_of (laid_out [] (map extent_value extents)))) is told in
    let end_is = pair.1 in
    let pos : 0 < page = omega (arith, page_is, some_one) in
    let from = (raised page end pos).from in
    record {
      size = omega (arith, size_is, from, end_is, above);
      alignment = omega (arith, alignment_is, pos);
    }
