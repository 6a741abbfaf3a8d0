-- Where a walk finds all nodes, the bridges that it comes to are those whose numbers are in order.
use Rattle.std.proofs.Common.{◌≡◌, ℕ, inl, inr, List, [], ◌∷◌, ◌++◌, true, ◌&&◌, not, refl, sym, ◌∙◌, ap, map}
use Rattle.std.specs.Bool.{nat_lt, ◌==◌, if◌then◌else◌}
use Rattle.std.specs.List.{filter}
use Rattle.std.proofs.lemmas.Bool.{and_parts, cases_Bool}
use Rattle.std.proofs.lemmas.List.{map-append}
use Rattle.std.proofs.lemmas.List.Elements.{filter-append}
use Rattle.std.proofs.lemmas.Simd.{map-map}
use Rattle.pci_spec.specs.Header.{vendor_id, secondary_bus}
use Rattle.pci_number.specs.Board.{Nodes, NoMore, Node, NodePlace, Here, Behind, Next, is_type_1, node_image}
use Rattle.pci_number.specs.Walk.{has_bus, is_found, is_all_found, walk}
use Rattle.pci_number.specs.Numbered.{secondaries}

-- the secondary bus numbers of the bridges among some images
abbrev numbers : List (List ℕ) → List ℕ
numbers images = map secondary_bus (filter is_type_1 images)

numbers_append : (xs ys : List (List ℕ)) → numbers (xs ++ ys) ≡ numbers xs ++ numbers ys
numbers_append xs ys = ap (map secondary_bus) (filter-append is_type_1 xs ys) ∙ map-append secondary_bus (filter is_type_1 xs) (filter is_type_1 ys)

-- of a node and what is behind it
numbers_first : (image : List ℕ) (behind : Nodes) → secondaries behind ≡ numbers (map (node_image behind) (walk behind behind)) → numbers (image ∷ map (node_image behind) (if has_bus image then walk behind behind else [])) ≡ (if is_type_1 image then secondary_bus image ∷ (if has_bus image then secondaries behind else []) else [])
numbers_first image behind inside = elim (cases_Bool (is_type_1 image)) [
  | inr plain ↦ rw plain refl
  | inl bridge ↦ elim (cases_Bool (has_bus image)) [
    | inl leads ↦ rw (leads, bridge) (ap (λ xs. secondary_bus image ∷ xs) (sym inside))
    | inr none ↦ rw (none, bridge) refl
  ]
]

-- the images at the places that a walk comes to
images_walked : (all : Nodes) (d f : ℕ) (image : List ℕ) (behind others : Nodes) → is_found all d f ≡ true → map (node_image (Node d f image behind others)) (walk all (Node d f image behind others)) ≡ (image ∷ map (node_image behind) (if has_bus image then walk behind behind else [])) ++ map (node_image others) (walk all others)
images_walked all d f image behind others found =
    let node = Node d f image behind others in
    let inner : List NodePlace = if has_bus image then walk behind behind else [] in
    let first : map (node_image node) (map Behind inner) ≡ map (node_image behind) inner = map-map (node_image node) Behind inner in
    let later : map (node_image node) (map Next (walk all others)) ≡ map (node_image others) (walk all others) = map-map (node_image node) Next (walk all others) in
    rw found (map-append (node_image node) (Here ∷ map Behind inner) (map Next (walk all others)) ∙ ap (λ xs. (image ∷ xs) ++ map (node_image node) (map Next (walk all others))) first ∙ ap (λ ys. (image ∷ map (node_image behind) inner) ++ ys) later)

pub walked : (all nodes : Nodes) → is_all_found all nodes ≡ true → secondaries nodes ≡ numbers (map (node_image nodes) (walk all nodes))
walked all NoMore found = refl
walked all (Node d f image behind others) found =
    let outer = and_parts (nat_lt d 32 && nat_lt f 8 && not (vendor_id image == 0xffff) && is_found all d f && is_all_found behind behind) (is_all_found all others) found in
    let inner = and_parts (nat_lt d 32 && nat_lt f 8 && not (vendor_id image == 0xffff) && is_found all d f) (is_all_found behind behind) outer.0 in
    let own = and_parts (nat_lt d 32 && nat_lt f 8 && not (vendor_id image == 0xffff)) (is_found all d f) inner.0 in
    sym (ap numbers (images_walked all d f image behind others own.1)
    ∙ numbers_append (image ∷ map (node_image behind) (if has_bus image then walk behind behind else [])) (map (node_image others) (walk all others))
    ∙ ap (λ xs. xs ++ numbers (map (node_image others) (walk all others))) (numbers_first image behind (walked behind behind inner.1))
    ∙ ap (λ ys. (if is_type_1 image then secondary_bus image ∷ (if has_bus image then secondaries behind else []) else []) ++ ys) (sym (walked all others outer.1)))
