-- The faults about some regions, by their indexes.
use Rattle.std.proofs.Common.{◌≡◌, ◌≤◌, ◌<◌, ◌+◌, ◌==◌, ◌&&◌, ◌||◌, ℕ, suc, Bool, true, false, cond, eqb, if◌then◌else◌, Some, Bor, List, [], ◌∷◌, ◌++◌, map, length, get_or, refl, sym, ap, ap₂, subst, ◌∙◌, arith, inl, inr}
use Rattle.std.specs.List.{All, dedup, dedup_from, filter, flat_map, list_any}
use Rattle.std.specs.List.Retain.{DiffersFromLast, IsFiltered}
use Rattle.std.specs.List.Sorted.{IsPermutation, IsSorted, IsStrictlyIncreasing}
use Rattle.std.specs.Ordering.{nat_cmp}
use Rattle.std.proofs.lemmas.Bool.{cases_Bool, cases_lt, eq-eqb, eqb-true, ne_eqb}
use Rattle.std.proofs.lemmas.Bool.Decides.{nat_tests}
use Rattle.std.proofs.lemmas.List.{get_or_default}
use Rattle.std.proofs.lemmas.List.Elements.{All-head, All-tail}
use Rattle.std.proofs.lemmas.List.Filters.{dedup_is}
use Rattle.std.proofs.lemmas.List.Folds.{list_any-append}
use Rattle.std.proofs.lemmas.List.Sorted.{list_any-IsPermutation}
use Rattle.std.proofs.lemmas.Map.Keys.{IsStrictlyIncreasing-dedup}
use Rattle.pci_picture.specs.FaultLines.{faults_read}
use Rattle.pci_picture.specs.Keyed.{indexes_from}
use Rattle.pci_picture.specs.Lines.{words_in_line}
use Rattle.pci_picture.specs.Maps.{lines_of_regions}
use Rattle.pci_picture.specs.Marks.{HasKeysOfLine, key_of_region, keys_of_fault, keys_told, namings_of, namings_of_faults}
use Rattle.pci_picture.specs.Said.{lines_of_fault}
use Rattle.pci_picture.specs.Tellings.{is_about, is_key_here}
use Rattle.pci_picture.specs.declared.faults.Fault.{Fault}
use Rattle.pci_picture.specs.declared.faults.Faults.{Faults}
use Rattle.pci_picture.specs.declared.faults.Naming.{Naming}
use Rattle.pci_picture.specs.declared.region.Region.{Region}
use Rattle.pci_picture.proofs.FaultLines.{line_there}
use Rattle.pci_picture.proofs.Marks.{any_and, any_filtered, any_of_map}

-- ---- tests of lists

any_false : {X : Type 0} (xs : List X) → list_any (λ x. false) xs ≡ false
any_false [] = refl
any_false (x ∷ xs) = any_false xs

pub any_same : {X : Type 0} (p q : X → Bool) → ((x : X) → p x ≡ q x) → (xs : List X) → list_any p xs ≡ list_any q xs
any_same p q same [] = refl
any_same p q same (x ∷ xs) = ap₂ (λ a b. a || b) (same x) (any_same p q same xs)

any_or : {X : Type 0} (p q : X → Bool) (xs : List X) → list_any (λ x. p x || q x) xs ≡ (list_any p xs || list_any q xs)
any_or p q [] = refl
any_or p q (x ∷ xs) = ap (λ b. (p x || q x) || b) (any_or p q xs) ∙ four (p x) (q x) (list_any p xs) (list_any q xs)
  where
    four : (a b c d : Bool) → ((a || b) || (c || d)) ≡ ((a || c) || (b || d))
    four true b c d = refl
    four false true true d = refl
    four false true false d = refl
    four false false c d = refl

any_swap : {X Y : Type 0} (test : X → Y → Bool) (xs : List X) (ys : List Y)
    → list_any (λ x. list_any (test x) ys) xs ≡ list_any (λ y. list_any (λ x. test x y) xs) ys
any_swap test [] ys = sym (any_false ys)
any_swap test (x ∷ xs) ys =
    ap (λ b. list_any (test x) ys || b) (any_swap test xs ys) ∙ sym (any_or (test x) (λ y. list_any (λ z. test z y) xs) ys)

any_const : {X : Type 0} (p : X → Bool) (b : Bool) (xs : List X) → list_any (λ x. b && p x) xs ≡ (b && list_any p xs)
any_const p true xs = refl
any_const p false xs = any_false xs

pub flips : (a b : ℕ) → (a == b) ≡ (b == a)
flips a b = grind (arith, nat_tests)

-- ---- lists of numbers that rise

abbrev has_number : ℕ → List ℕ → Bool
has_number i xs = list_any (λ x. x == i) xs

abbrev RisesFrom : ℕ → List ℕ → Type 0
RisesFrom low [] = Unit {0}
RisesFrom low (x ∷ xs) = (low ≤ x) × RisesFrom (x + 1) xs

rises_lower : (low higher : ℕ) (xs : List ℕ) → low ≤ higher → RisesFrom higher xs → RisesFrom low xs
rises_lower low higher [] le rises = tt
rises_lower low higher (x ∷ xs) le rises = (let up = rises.0 in omega (arith, le, up), rises.1)

rises_head : (low x : ℕ) (xs : List ℕ) → low ≤ x → IsStrictlyIncreasing (x ∷ xs) → RisesFrom low (x ∷ xs)
rises_head low x [] le increasing = (le, tt)
rises_head low x (y ∷ xs) le increasing =
    let less : x < y = increasing 0 (omega arith) in (
      le,
      rises_head (x + 1) y xs (omega (arith, less)) (λ k inside.
          let next : suc k + 1 ≡ suc (k + 1) = omega arith in
          subst (λ n. get_or (y ∷ xs) k 0 < get_or (x ∷ y ∷ xs) n 0) next (increasing (suc k) (omega (arith, inside)))),
    )

rises_all : (xs : List ℕ) → IsStrictlyIncreasing xs → RisesFrom 0 xs
rises_all [] increasing = tt
rises_all (x ∷ xs) increasing = rises_head 0 x xs (omega arith) increasing

none_below : (low i : ℕ) (xs : List ℕ) → RisesFrom low xs → i < low → has_number i xs ≡ false
none_below low i [] rises less = refl
none_below low i (x ∷ xs) rises less =
    let up = rises.0 in
    let apart : (x == i) ≡ false = ne_eqb x i (λ same. omega (arith, up, less, same)) in
    rw apart (none_below (x + 1) i xs rises.1 (omega (arith, up, less)))

no_bool : true ≡ false → ⊥
no_bool is = cc

has_head : (x : ℕ) (xs : List ℕ) → has_number x (x ∷ xs) ≡ true
has_head x xs = ap (λ b. b || has_number x xs) (eq-eqb x x refl)

-- two lists that rise and have the same numbers are the same
rising_same : (low other : ℕ) (xs ys : List ℕ) → RisesFrom low xs → RisesFrom other ys → ((i : ℕ) → has_number i xs ≡ has_number i ys) → xs ≡ ys
rising_same low other [] [] one two same = refl
rising_same low other [] (y ∷ ys) one two same = absurd (no_bool (sym (has_head y ys) ∙ sym (same y)))
rising_same low other (x ∷ xs) [] one two same = absurd (no_bool (sym (has_head x xs) ∙ same x))
rising_same low other (x ∷ xs) (y ∷ ys) one two same =
    let is : x ≡ y = elim (cases_lt x y) [
      | inl less ↦ absurd (no_bool (sym (has_head x xs) ∙ same x ∙ none_below y x (y ∷ ys) (omega arith, two.1) less))
      | inr up ↦ elim (cases_lt y x) [
        | inl less ↦ absurd (no_bool (sym (has_head y ys) ∙ sym (same y) ∙ none_below x y (x ∷ xs) (omega arith, one.1) less))
        | inr down ↦ omega (arith, up, down)
      ]
    ] in
    ap₂ (λ n ns. n ∷ ns) is
    (rising_same (x + 1) (y + 1) xs ys one.1 two.1 (λ i. elim (cases_lt x i) [
      | inl less ↦
          let mine : (x == i) ≡ false = ne_eqb x i (λ e. omega (arith, e, less)) in
          let theirs : (y == i) ≡ false = ne_eqb y i (λ e. omega (arith, e, less, is)) in
          ap (λ b. b || has_number i xs) (sym mine) ∙ same i ∙ ap (λ b. b || has_number i ys) theirs
      | inr low ↦ none_below (x + 1) i xs one.1 (omega (arith, low)) ∙ sym (none_below (y + 1) i ys two.1 (omega (arith, low, is)))
    ]))

dedup_behind : (i k : ℕ) (xs : List ℕ) → has_number i (dedup_from eqb k xs) ≡ ((k == i) || has_number i xs)
dedup_behind i k [] = refl
dedup_behind i k (x ∷ xs) = elim (cases_Bool (eqb x k)) [
  | inl same ↦
      let is : x ≡ k = eqb-true x k same in
      ap (λ b. has_number i (cond b (dedup_from eqb k xs) (k ∷ dedup_from eqb x xs))) same ∙ dedup_behind i k xs
      ∙ twice (k == i) (has_number i xs) ∙ ap (λ n. (k == i) || ((n == i) || has_number i xs)) (sym is)
  | inr apart ↦
      ap (λ b. has_number i (cond b (dedup_from eqb k xs) (k ∷ dedup_from eqb x xs))) apart ∙ ap (λ b. (k == i) || b) (dedup_behind i x xs)
]
  where
    twice : (a b : Bool) → (a || b) ≡ (a || (a || b))
    twice true b = refl
    twice false b = refl

dedup_has : (i : ℕ) (xs : List ℕ) → has_number i (dedup eqb xs) ≡ has_number i xs
dedup_has i [] = refl
dedup_has i (x ∷ xs) = dedup_behind i x xs

-- ---- indexes

indexes_rise : {X : Type 0} (j : ℕ) (test : X → Bool) (xs : List X) → RisesFrom j (indexes_from j test xs)
indexes_rise j test [] = tt
indexes_rise j test (x ∷ xs) = go (test x) (indexes_rise (j + 1) test xs)
  where
    go : (b : Bool) → RisesFrom (j + 1) (indexes_from (j + 1) test xs)
        → RisesFrom j (if b then j ∷ indexes_from (j + 1) test xs else indexes_from (j + 1) test xs)
    go true rest = (omega arith, rest)
    go false rest = rises_lower j (j + 1) (indexes_from (j + 1) test xs) (omega arith) rest

indexes_alike : {X Y : Type 0} (j : ℕ) (p : Y → Bool) (q : X → Bool) (f : X → Y) (xs : List X) → All (λ x. p (f x) ≡ q x) xs
    → indexes_from j p (map f xs) ≡ indexes_from j q xs
indexes_alike j p q f [] all = refl
indexes_alike j p q f (x ∷ xs) all =
    let rest = indexes_from (j + 1) p (map f xs) in
    ap (λ b. if b then j ∷ rest else rest) (All-head (λ y. p (f y) ≡ q y) x xs all)
    ∙ ap (λ l. if q x then j ∷ l else l) (indexes_alike (j + 1) p q f xs (All-tail (λ y. p (f y) ≡ q y) x xs all))

-- ---- the faults that name some regions

abbrev pub faults_naming : List Naming → List Region → List ℕ
faults_naming namings regions = flat_map (λ region. map (λ naming. naming.fault) (filter (λ naming. naming.key == region.key) namings)) regions

abbrev is_of : ℕ → ℕ → Naming → Bool
is_of i key naming = (naming.key == key) && (naming.fault == i)

abbrev names_some : List Region → Fault → Bool
names_some regions fault = list_any (λ region. list_any (λ key. key == region.key) (keys_told fault.keys)) regions

named_by_some : (i : ℕ) (namings : List Naming) (regions : List Region)
    → has_number i (faults_naming namings regions) ≡ list_any (λ region. list_any (is_of i region.key) namings) regions
named_by_some i namings [] = refl
named_by_some i namings (region ∷ regions) =
    let mine = filter (λ (naming : Naming). naming.key == region.key) namings in
    list_any-append (λ n. n == i) (map (λ naming. naming.fault) mine) (faults_naming namings regions)
    ∙ ap₂ (λ a b. a || b)
    (any_of_map (λ n. n == i) (λ naming. naming.fault) mine ∙ any_filtered (λ naming. naming.fault == i) (λ naming. naming.key == region.key) namings)
    (named_by_some i namings regions)

named_by_one : (i j key : ℕ) (keys : List ℕ) → list_any (is_of i key) (namings_of j keys) ≡ ((j == i) && list_any (λ k. k == key) keys)
named_by_one i j key keys = any_of_map (is_of i key) (λ k. record { key = k; fault = j }) keys ∙ any_and (λ k. k == key) (j == i) keys

named_indexes : (i j : ℕ) (regions : List Region) (faults : List Fault)
    → list_any (λ region. list_any (is_of i region.key) (namings_of_faults j faults)) regions ≡ has_number i (indexes_from j (names_some regions) faults)
named_indexes i j regions [] = any_false regions
named_indexes i j regions (fault ∷ faults) =
    let keys = keys_told fault.keys in
    let rest = namings_of_faults (j + 1) faults in
    any_same (λ region. list_any (is_of i region.key) (namings_of j keys ++ rest))
    (λ region. ((j == i) && list_any (λ k. k == region.key) keys) || list_any (is_of i region.key) rest)
    (λ region. list_any-append (is_of i region.key) (namings_of j keys) rest
    ∙ ap (λ b. b || list_any (is_of i region.key) rest) (named_by_one i j region.key keys)) regions
    ∙ any_or (λ region. (j == i) && list_any (λ k. k == region.key) keys) (λ region. list_any (is_of i region.key) rest) regions
    ∙ ap₂ (λ a b. a || b) (any_const (λ region. list_any (λ k. k == region.key) keys) (j == i) regions) (named_indexes i (j + 1) regions faults)
    ∙ go (names_some regions fault)
  where
    and_true : (b : Bool) → (b && true) ≡ b
    and_true true = refl
    and_true false = refl

    and_false : (b : Bool) → (b && false) ≡ false
    and_false true = refl
    and_false false = refl

    go : (names : Bool) → (((j == i) && names) || has_number i (indexes_from (j + 1) (names_some regions) faults))
        ≡ has_number i (if names then j ∷ indexes_from (j + 1) (names_some regions) faults else indexes_from (j + 1) (names_some regions) faults)
    go true = ap (λ b. b || has_number i (indexes_from (j + 1) (names_some regions) faults)) (and_true (j == i))
    go false = ap (λ b. b || has_number i (indexes_from (j + 1) (names_some regions) faults)) (and_false (j == i))

-- a fault that was read has the keys that it names
pub keys_read : {A : Type 0} (faults : Faults A) (k : ℕ) (fault : Fault) → k < length faults.faults.items → fault ≡ get_or faults.faults.items k fault
    → keys_of_fault fault.number (words_in_line (get_or (lines_of_fault faults (Some fault)) 0 [])) ≡ keys_told fault.keys
keys_read faults k fault inside at =
    let lines = map (λ (line : Bor (List ℕ)). line.now) faults.lines.items in
    let some : fault.begin < fault.end = subst (λ (f : Fault). f.begin < f.end) (sym at) (faults.within k fault inside).0 in
    let has = subst (HasKeysOfLine lines) (sym at) (faults.named.each k fault inside) in
    let same : fault.begin + 0 ≡ fault.begin = omega arith in
    let first : get_or (lines_of_fault faults (Some fault)) 0 [] ≡ get_or lines fault.begin [] =
    line_there faults fault 0 (omega (arith, some)) ∙ ap (λ n. get_or lines n []) same in
    ap (λ l. keys_of_fault fault.number (words_in_line l)) first ∙ sym has.keys_are

-- it is about lines where it names one of their regions
read_about : {A : Type 0} (faults : Faults A) (regions : List Region)
    → All (λ fault. is_about (lines_of_regions regions) (record { number = fault.number; lines = lines_of_fault faults (Some fault) }) ≡ names_some regions fault) faults.faults.items
read_about faults regions k d inside =
    let fault = get_or faults.faults.items k d in
    let keys = keys_read faults k fault inside (get_or_default faults.faults.items k d fault inside) in
    ap (list_any (is_key_here (lines_of_regions regions))) keys
    ∙ any_same (is_key_here (lines_of_regions regions)) (λ key. list_any (λ region. key == region.key) regions)
    (λ key. any_of_map (λ line. key_of_region (words_in_line line) == key) (λ region. region.line.now) regions
    ∙ any_same (λ region. key_of_region (words_in_line region.line.now) == key) (λ region. key == region.key)
    (λ region. ap (λ n. n == key) (sym region.is_of_line.key_is) ∙ flips region.key key) regions) (keys_told fault.keys)
    ∙ any_swap (λ key region. key == region.key) (keys_told fault.keys) regions

module _ {A : Type 0} (faults : Faults A) (regions : List Region) (found sorted once : List ℕ) (is : found ≡ faults_naming faults.namings.items regions)
    (moved : IsPermutation found sorted) (left : IsFiltered (DiffersFromLast eqb) [] sorted once) where
  has_once : (i : ℕ) → has_number i once ≡ list_any (λ region. list_any (is_of i region.key) faults.namings.items) regions
  has_once i =
      ap (has_number i) (dedup_is eqb sorted once left) ∙ dedup_has i sorted ∙ sym (list_any-IsPermutation (λ n. n == i) found sorted moved)
      ∙ ap (has_number i) is ∙ named_by_some i faults.namings.items regions

  pub about_exact : IsSorted nat_cmp sorted → once ≡ indexes_from 0 (is_about (lines_of_regions regions)) (faults_read faults)
  about_exact in_order =
      let rises : RisesFrom 0 once = rises_all once (subst IsStrictlyIncreasing (sym (dedup_is eqb sorted once left)) (IsStrictlyIncreasing-dedup sorted in_order)) in
      rising_same 0 0 once (indexes_from 0 (names_some regions) faults.faults.items) rises (indexes_rise 0 (names_some regions) faults.faults.items)
      (λ i. has_once i
      ∙ any_same (λ region. list_any (is_of i region.key) faults.namings.items) (λ region. list_any (is_of i region.key) (namings_of_faults 0 faults.faults.items))
      (λ region. sym (faults.named.all (is_of i region.key))) regions
      ∙ named_indexes i 0 regions faults.faults.items)
      ∙ sym (indexes_alike 0 (is_about (lines_of_regions regions)) (names_some regions) (λ fault. record { number = fault.number; lines = lines_of_fault faults (Some fault) })
      faults.faults.items (read_about faults regions))

  pub about_named : 0 < length once → 0 < length faults.namings.items
  about_named some = go faults.namings.items once has_once some
    where
      go : (namings : List Naming) (xs : List ℕ) → ((i : ℕ) → has_number i xs ≡ list_any (λ (region : Region). list_any (is_of i region.key) namings) regions)
          → 0 < length xs → 0 < length namings
      go (naming ∷ namings) xs has long = omega arith
      go [] [] has long = long
      go [] (x ∷ xs) has long = absurd (no_bool (sym (has_head x xs) ∙ has x ∙ any_false regions))
