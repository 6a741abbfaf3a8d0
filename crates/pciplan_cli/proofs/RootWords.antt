-- Words that list buses: how long they are, what stands where, and that no two lists have one word.
use Rattle.std.proofs.Common.{◌≡◌, ℕ, zero, suc, ◌+◌, ◌*◌, ◌-◌, ◌<◌, ◌≤◌, List, [], ◌∷◌, ◌++◌, length, get_or, take, Option, None, Some, MatchOption, refl, sym, ◌∙◌, ap, subst, inl, inr, arith}
use Rattle.std.specs.Prelude.{◌↔◌, IsSome, IsSomeAnd, IfSome}
use Rattle.std.specs.List.{All, flat_map}
use Rattle.std.specs.List.Sorted.{IsStrictlyIncreasing}
use Rattle.std.proofs.lemmas.List.{get_or_append_left, get_or-append_right, take_more, append_assoc}
use Rattle.std.proofs.lemmas.List.Concat.{flat_map-append}
use Rattle.std.proofs.lemmas.List.Elements.{All-get_or}
use Rattle.std.proofs.lemmas.Bool.{cases_lt, false≢true}
use Rattle.pci_spec.specs.Text.{hex_byte}
use Rattle.pci_spec.proofs.Spelling.{byte_same, tail_same}
use Rattle.pci_tree.specs.Roots.{IsRootList, buses_of}
use Rattle.pci_tree.specs.declared.roots.Roots.{Roots}
use Rattle.pciplan_cli.specs.RootWords.{comma_bus_text, IsRootWord}

-- three bytes a bus
length_buses : (buses : List ℕ) → length (flat_map comma_bus_text buses) ≡ 3 * length buses
length_buses [] = refl
length_buses (bus ∷ buses) = omega (arith, length_buses buses)

-- a comma and two digits at each place
bus_at : (buses : List ℕ) (i j : ℕ) → i < length buses → j < 3 → get_or (flat_map comma_bus_text buses) (3 * i + j) 0 ≡ get_or (comma_bus_text (get_or buses i 0)) j 0
bus_at [] i j inside low = absurd (omega arith)
bus_at (bus ∷ buses) zero j inside low =
    ap (λ k. get_or (comma_bus_text bus ++ flat_map comma_bus_text buses) k 0) {x = 3 * 0 + j} {y = j} (omega arith)
    ∙ get_or_append_left (comma_bus_text bus) (flat_map comma_bus_text buses) 0 j (omega arith)
bus_at (bus ∷ buses) (suc i) j inside low =
    get_or-append_right (comma_bus_text bus) (flat_map comma_bus_text buses) 3 (3 * suc i + j) 0 refl (omega arith)
    ∙ ap (λ k. get_or (flat_map comma_bus_text buses) k 0) {y = 3 * i + j} (omega arith) ∙ bus_at buses i j (omega arith) low

-- rising buses are at least their places, so that there are no more than all
rises_past : (buses : List ℕ) → IsStrictlyIncreasing buses → (k : ℕ) → k < length buses → k ≤ get_or buses k 0
rises_past buses rising zero inside = omega arith
rises_past buses rising (suc k) inside =
    let next : get_or buses k 0 < get_or buses (k + 1) 0 = rising k (omega arith) in
    let at : get_or buses (k + 1) 0 ≡ get_or buses (suc k) 0 = ap (λ n. get_or buses n 0) {x = k + 1} {y = suc k} (omega arith) in
    omega (arith, rises_past buses rising k (omega arith), next, at)

-- how long a word of buses is
pub record HasBuses (word : List ℕ) (count : ℕ) : Type 0 where
  pub length : length word + 1 ≡ 3 * count
  pub some : 0 < count
  pub few : count ≤ 256

pub count_buses : (word buses : List ℕ) → IsRootWord word buses → HasBuses word (length buses)
count_buses word buses is =
    let last : ℕ = length buses - 1 in
    let some : 0 < length buses = is.list.some in
    let low : last ≤ get_or buses last 0 = rises_past buses is.list.rising last (omega arith) in
    let high : get_or buses last 0 < 256 = All-get_or (λ bus. bus < 256) buses last 0 (omega arith) is.below in
    record { length = omega (arith, ap length is.text, length_buses buses); some = some; few = omega (arith, low, high, some) }

byte_at : (word buses : List ℕ) → IsRootWord word buses → (i j : ℕ) → i < length buses → j < 3
    → get_or (44 ∷ word) (3 * i + j) 0 ≡ get_or (comma_bus_text (get_or buses i 0)) j 0
byte_at word buses is i j inside low = ap (λ l. get_or l (3 * i + j) 0) is.text ∙ bus_at buses i j inside low

-- the bytes of the bus at a place, and the comma before it
pub digits_there : (word buses : List ℕ) → IsRootWord word buses → (i : ℕ) → i < length buses
    → hex_byte (get_or buses i 0) ≡ get_or word (3 * i) 0 ∷ get_or word (3 * i + 1) 0 ∷ []
digits_there word buses is i inside =
    let high = ap (λ k. get_or (44 ∷ word) k 0) {x = suc (3 * i)} {y = 3 * i + 1} (omega arith) ∙ byte_at word buses is i 1 inside (omega arith) in
    let low = ap (λ k. get_or (44 ∷ word) k 0) {x = suc (3 * i + 1)} {y = 3 * i + 2} (omega arith) ∙ byte_at word buses is i 2 inside (omega arith) in
    λ k. sym high k ∷ sym low k ∷ []

pub comma_there : (word buses : List ℕ) → IsRootWord word buses → (i : ℕ) → 0 < i → i < length buses → get_or word (3 * i - 1) 0 ≡ 44
comma_there word buses is i later inside =
    ap (λ k. get_or (44 ∷ word) k 0) {x = suc (3 * i - 1)} {y = 3 * i + 0} (omega arith) ∙ byte_at word buses is i 0 inside (omega arith)

list_same : (xs ys : List ℕ) → flat_map comma_bus_text xs ≡ flat_map comma_bus_text ys → xs ≡ ys
list_same [] [] e = refl
list_same [] (y ∷ ys) e = absurd (omega (arith, ap length e))
list_same (x ∷ xs) [] e = absurd (omega (arith, ap length e))
list_same (x ∷ xs) (y ∷ ys) e =
    let parts = byte_same x y (flat_map comma_bus_text xs) (flat_map comma_bus_text ys) (tail_same _ _ _ _ e) in
    λ i. parts.0 i ∷ list_same xs ys parts.1 i

roots_same : (word xs ys : List ℕ) → IsRootWord word xs → IsRootWord word ys → xs ≡ ys
roots_same word xs ys of_x of_y = list_same xs ys (sym of_x.text ∙ of_y.text)

take_three : (l : List ℕ) (n : ℕ) → n + 2 < length l
    → take (n + 3) l ≡ take n l ++ get_or l n 0 ∷ get_or l (n + 1) 0 ∷ get_or l (n + 2) 0 ∷ []
take_three l n inside =
    let one = take_more l n 0 (omega arith) in
    let two = ap (λ k. take k l) {x = n + 2} {y = n + 1 + 1} (omega arith) ∙ take_more l (n + 1) 0 (omega arith) in
    let three = ap (λ k. take k l) {x = n + 3} {y = n + 2 + 1} (omega arith) ∙ take_more l (n + 2) 0 inside in
    three ∙ ap (λ t. t ++ get_or l (n + 2) 0 ∷ []) (two ∙ ap (λ t. t ++ get_or l (n + 1) 0 ∷ []) one)
    ∙ ap (λ t. t ++ get_or l (n + 2) 0 ∷ []) (append_assoc (take n l) (get_or l n 0 ∷ []) (get_or l (n + 1) 0 ∷ []))
    ∙ append_assoc (take n l) (get_or l n 0 ∷ get_or l (n + 1) 0 ∷ []) (get_or l (n + 2) 0 ∷ [])

-- one more bus
pub bus_more : (word buses : List ℕ) (i bus : ℕ) → 3 * i + 1 < length word → flat_map comma_bus_text buses ≡ take (3 * i) (44 ∷ word)
    → (0 < i → get_or word (3 * i - 1) 0 ≡ 44) → hex_byte bus ≡ get_or word (3 * i) 0 ∷ get_or word (3 * i + 1) 0 ∷ []
    → flat_map comma_bus_text (buses ++ bus ∷ []) ≡ take (3 * (i + 1)) (44 ∷ word)
bus_more word buses i bus inside before comma digits =
    let at_comma : get_or (44 ∷ word) (3 * i) 0 ≡ 44 = elim (cases_lt 0 i) [
      | inl later ↦ ap (λ k. get_or (44 ∷ word) k 0) {x = 3 * i} {y = suc (3 * i - 1)} (omega arith) ∙ comma later
      | inr first ↦ ap (λ k. get_or (44 ∷ word) k 0) {x = 3 * i} {y = 0} (omega arith)
    ] in
    let high : get_or (44 ∷ word) (3 * i + 1) 0 ≡ get_or word (3 * i) 0 = ap (λ k. get_or (44 ∷ word) k 0) {y = suc (3 * i)} (omega arith) in
    let low : get_or (44 ∷ word) (3 * i + 2) 0 ≡ get_or word (3 * i + 1) 0 = ap (λ k. get_or (44 ∷ word) k 0) {y = suc (3 * i + 1)} (omega arith) in
    let whole = ap (λ k. take k (44 ∷ word)) {x = 3 * (i + 1)} {y = 3 * i + 3} (omega arith) ∙ take_three (44 ∷ word) (3 * i) (omega (arith, inside)) in
    let piece : comma_bus_text bus ≡ get_or (44 ∷ word) (3 * i) 0 ∷ get_or (44 ∷ word) (3 * i + 1) 0 ∷ get_or (44 ∷ word) (3 * i + 2) 0 ∷ []
    = ap (λ ds. 44 ∷ ds) digits ∙ (λ k. sym at_comma k ∷ sym high k ∷ sym low k ∷ []) in
    flat_map-append comma_bus_text buses (bus ∷ []) ∙ (λ k. before k ++ piece k) ∙ sym whole

-- the roots of the buses that were read
pub roots_read : (word items shown : List ℕ) (found : Option Roots) → shown ≡ items → IsSome found ↔ IsRootList shown
    → IfSome found (λ roots. buses_of roots ≡ shown) → All (λ bus. bus < 256) items → flat_map comma_bus_text items ≡ 44 ∷ word
    → MatchOption found ((buses : List ℕ) → IsRootWord word buses → ⊥) (λ roots. IsRootWord word (buses_of roots))
roots_read word items shown None same some buses below text = λ others is.
    let all : shown ≡ others = same ∙ list_same items others (text ∙ is.text) in
    let bad : IsSome {T = Roots} None = some.1 (subst (λ l. IsRootList l) (sym all) is.list) in
    absurd (false≢true bad)
roots_read word items shown (Some roots) same some buses below text =
    subst (λ l. IsRootWord word l) (sym (buses ∙ same)) record { below = below; list = subst (λ l. IsRootList l) same (some.0 refl); text = sym text }

pub roots_only : (word : List ℕ) (found : Option Roots)
    → MatchOption found ((buses : List ℕ) → IsRootWord word buses → ⊥) (λ roots. IsRootWord word (buses_of roots))
    → (buses : List ℕ) → IsRootWord word buses → IsSomeAnd found (λ roots. buses_of roots ≡ buses)
roots_only word None none buses is = absurd (none buses is)
roots_only word (Some roots) of buses is = roots_same word (buses_of roots) buses of is
