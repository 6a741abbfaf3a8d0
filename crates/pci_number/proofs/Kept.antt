-- What a walk finds doesn't hang on bus numbers.
use Rattle.std.proofs.Common.{◌≡◌, ◌≢◌, ℕ, ◌%◌, List, refl, sym, ◌∙◌, ap, get_or-set_other, inl, inr}
use Rattle.std.specs.Bool.{if◌then◌else◌, ◌==◌}
use Rattle.std.proofs.lemmas.Bool.{cases_Bool}
use Rattle.pci_spec.specs.Number.{byte_at}
use Rattle.pci_spec.specs.Registers.{HEADER_TYPE}
use Rattle.pci_spec.specs.Header.{vendor_id}
use Rattle.pci_number.specs.Board.{Nodes, NoMore, Node, is_type_1}
use Rattle.pci_number.specs.Walk.{has_more, all_after, is_rising, is_all_found, is_walkable}
use Rattle.pci_number.specs.Numbered.{with_numbers, without_numbers}

-- an image with no bus numbers
abbrev pub cleared : List ℕ → List ℕ
cleared image = if is_type_1 image then with_numbers 0 0 0 image else image

byte_stays : (image : List ℕ) (offset : ℕ) → offset ≢ 0x18 → offset ≢ 0x19 → offset ≢ 0x1a → byte_at (cleared image) offset ≡ byte_at image offset
byte_stays image offset not_p not_s not_u = elim (cases_Bool (is_type_1 image)) [
  | inr plain ↦ rw plain refl
  | inl bridge ↦ rw (bridge, get_or-set_other, get_or-set_other, get_or-set_other) refl
]

header_stays : (image : List ℕ) → byte_at (cleared image) HEADER_TYPE ≡ byte_at image HEADER_TYPE
header_stays image = byte_stays image HEADER_TYPE (λ is. cc is) (λ is. cc is) (λ is. cc is)

pub kind_stays : (image : List ℕ) → is_type_1 (cleared image) ≡ is_type_1 image
kind_stays image = ap (λ n. n % 128 == 1) (header_stays image)

vendor_stays : (image : List ℕ) → vendor_id (cleared image) ≡ vendor_id image
vendor_stays image =
    let low : byte_at (cleared image) 0 ≡ byte_at image 0 = byte_stays image 0 (λ is. cc is) (λ is. cc is) (λ is. cc is) in
    let high : byte_at (cleared image) 1 ≡ byte_at image 1 = byte_stays image 1 (λ is. cc is) (λ is. cc is) (λ is. cc is) in
    rw (low, high) refl

more_stays : (nodes : Nodes) (device : ℕ) → has_more (without_numbers nodes) device ≡ has_more nodes device
more_stays NoMore device = refl
more_stays (Node d f image behind others) device = rw (header_stays image, more_stays others device) refl

after_stays : (device function : ℕ) (nodes : Nodes) → all_after device function (without_numbers nodes) ≡ all_after device function nodes
after_stays device function NoMore = refl
after_stays device function (Node d f image behind others) = rw (after_stays device function others) refl

rising_stays : (nodes : Nodes) → is_rising (without_numbers nodes) ≡ is_rising nodes
rising_stays NoMore = refl
rising_stays (Node d f image behind others) = rw (after_stays d f others, rising_stays behind, rising_stays others) refl

found_stays : (bus nodes : Nodes) → is_all_found (without_numbers bus) (without_numbers nodes) ≡ is_all_found bus nodes
found_stays bus NoMore = refl
found_stays bus (Node d f image behind others) = rw (vendor_stays image, more_stays bus d, found_stays behind behind, found_stays bus others) refl

walkable_stays : (nodes : Nodes) → is_walkable (without_numbers nodes) ≡ is_walkable nodes
walkable_stays nodes = rw (rising_stays nodes, found_stays nodes nodes) refl

pub same_walk : (before after : Nodes) → without_numbers before ≡ without_numbers after → is_walkable before ≡ is_walkable after
same_walk before after same = sym (walkable_stays before) ∙ ap is_walkable same ∙ walkable_stays after
