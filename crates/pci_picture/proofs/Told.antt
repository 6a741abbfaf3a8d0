-- The ranges that faults tell, fault by fault.
use Rattle.std.proofs.Common.{◌≡◌, ◌≤◌, ◌<◌, ◌+◌, ◌-◌, ◌==◌, ◌||◌, not, ℕ, suc, Bool, true, false, cond, if◌then◌else◌, Option, Some, None, Bor, List, [], ◌∷◌, ◌++◌, map, take, drop, length, get_or, refl, sym, ap, ap₂, ◌∙◌, arith}
use Rattle.std.specs.Prelude.{codes}
use Rattle.std.specs.List.{filter, flat_map, list_any, slice_get, slice_range}
use Rattle.std.specs.Option.{option_map}
use Rattle.std.proofs.lemmas.Bool.{ne_eqb}
use Rattle.std.proofs.lemmas.Grind.{flat_map-append}
use Rattle.std.proofs.lemmas.List.{append-nil, append_assoc, map-append, take_all, take_more}
use Rattle.std.proofs.lemmas.List.Sorted.{list_any-IsPermutation}
use Rattle.std.proofs.lemmas.Option.{get_or_from_slice_get, slice_get-get_or, slice_get-map, slice_get_within}
use Rattle.pci_picture.specs.Cuts.{extents_told}
use Rattle.pci_picture.specs.FaultLines.{faults_read}
use Rattle.pci_picture.specs.Heights.{AddressRange}
use Rattle.pci_picture.specs.Keyed.{AreKeysOf, has_key, indexes_from, told_by_some}
use Rattle.pci_picture.specs.Lines.{words_in_line}
use Rattle.pci_picture.specs.Maps.{lines_of_regions}
use Rattle.pci_picture.specs.Marks.{key_of_region, keys_told}
use Rattle.pci_picture.specs.Said.{FaultSaid, lines_of_fault}
use Rattle.pci_picture.specs.Tellings.{digits_of_lines, fits_by, is_about, is_here, last_key, moves_here, range_behind, ranges_of_faults, shared_by}
use Rattle.pci_picture.specs.declared.faults.Fault.{Fault}
use Rattle.pci_picture.specs.declared.faults.Faults.{Faults}
use Rattle.pci_picture.specs.declared.region.Region.{Region}
use Rattle.pci_picture.specs.declared.tellings.Index.{Index}
use Rattle.pci_picture.specs.declared.tellings.Told.{Told}
use Rattle.pci_picture.proofs.About.{any_same, keys_read}
use Rattle.pci_picture.proofs.Marks.{any_of_map}
use Rattle.pci_picture.proofs.Said.{more_of_range, range_of_map}

-- some passes a test where what passes is not empty
pub some_filtered : {X : Type 0} (p : X → Bool) (xs : List X) → not (length (filter p xs) == 0) ≡ list_any p xs
some_filtered p [] = refl
some_filtered p (x ∷ xs) = go (p x) (some_filtered p xs)
  where
    go : (b : Bool) → not (length (filter p xs) == 0) ≡ list_any p xs → not (length (cond b (x ∷ filter p xs) (filter p xs)) == 0) ≡ (b || list_any p xs)
    go true rest = ap not (ne_eqb (suc (length (filter p xs))) 0 (λ e. omega (arith, e)))
    go false rest = rest

-- ---- the lines of a fault, one by one

abbrev pub told_between : (List ℕ → List AddressRange) → List (List ℕ) → ℕ → ℕ → List AddressRange
told_between tell lines begin end = flat_map tell (slice_range lines begin end)

pub told_none : (tell : List ℕ → List AddressRange) (lines : List (List ℕ)) (begin : ℕ) (old : List AddressRange) → old ≡ old ++ told_between tell lines begin begin
told_none tell lines begin old =
    let none : begin - begin ≡ 0 = omega arith in
    sym (ap (λ n. old ++ flat_map tell (take n (drop begin lines))) none ∙ append-nil old)

pub told_more : (tell : List ℕ → List AddressRange) (lines : List (List ℕ)) (begin place : ℕ) (line : List ℕ) (old before after : List AddressRange)
    → begin ≤ place → place < length lines → line ≡ get_or lines place [] → before ≡ old ++ told_between tell lines begin place → after ≡ before ++ tell line
    → after ≡ old ++ told_between tell lines begin (place + 1)
told_more tell lines begin place line old before after from inside is said adds =
    let range = slice_range lines begin place in
    adds ∙ ap (λ l. l ++ tell line) said ∙ append_assoc old (flat_map tell range) (tell line)
    ∙ ap (λ l. old ++ l)
    (sym (ap (flat_map tell) (more_of_range lines begin place from inside) ∙ flat_map-append tell range (get_or lines place [] ∷ [])
    ∙ ap (λ l. flat_map tell range ++ l) (append-nil (tell (get_or lines place [])) ∙ ap tell (sym is))))

pub told_all : {A : Type 0} (tell : List ℕ → List AddressRange) (faults : Faults A) (fault : Fault) (place : ℕ) → fault.begin < fault.end → fault.end ≤ place → place ≤ fault.end
    → told_between tell (map (λ (line : Bor (List ℕ)). line.now) faults.lines.items) fault.begin place ≡ flat_map tell (lines_of_fault faults (Some fault))
told_all tell faults fault place some past upto =
    ap (flat_map tell) (range_of_map (λ (line : Bor (List ℕ)). line.now) faults.lines.items fault.begin place fault.end (omega (arith, past, upto)))

pub told_if : (meant : Bool) (tell : List ℕ → List AddressRange) (lines : List (List ℕ))
    → flat_map (λ line. if meant then tell line else []) lines ≡ (if meant then flat_map tell lines else [])
told_if true tell lines = refl
told_if false tell [] = refl
told_if false tell (line ∷ lines) = told_if false tell lines

-- ---- the fault at an index

the_read : {A : Type 0} → Faults A → Fault → FaultSaid
the_read faults fault = record { number = fault.number; lines = lines_of_fault faults (Some fault) }

said_some : {A : Type 0} (faults : Faults A) (index : ℕ) (fault : Fault) → slice_get faults.faults.items index ≡ Some fault
    → slice_get (faults_read faults) index ≡ Some (the_read faults fault)
unfolding the_read
said_some faults index fault is = slice_get-map (the_read faults) faults.faults.items index ∙ ap (option_map (the_read faults)) is

pub said_none : {A : Type 0} (faults : Faults A) (tell : FaultSaid → List AddressRange) (index : ℕ) (old : List AddressRange) → slice_get faults.faults.items index ≡ None
    → old ≡ old ++ told_by_some tell (slice_get (faults_read faults) index)
unfolding the_read
said_none faults tell index old none =
    sym (ap (λ o. old ++ told_by_some tell o) (slice_get-map (the_read faults) faults.faults.items index ∙ ap (option_map (the_read faults)) none) ∙ append-nil old)

pub shared_at : {A : Type 0} (faults : Faults A) (digits index place : ℕ) (fault : Fault) (old after : List AddressRange)
    → (slice_get faults.faults.items index ≡ Some fault) × ((fault.begin < fault.end) × (fault.end ≤ length faults.lines.items)) → fault.end ≤ place → place ≤ fault.end
    → after ≡ old ++ told_between (range_behind (codes "shared") digits) (map (λ (line : Bor (List ℕ)). line.now) faults.lines.items) fault.begin place
    → after ≡ old ++ told_by_some (shared_by digits) (slice_get (faults_read faults) index)
unfolding the_read
shared_at faults digits index place fault old after found past upto said =
    said ∙ ap (λ l. old ++ l)
    (told_all (range_behind (codes "shared") digits) faults fault place found.1.0 past upto ∙ ap (told_by_some (shared_by digits)) (sym (said_some faults index fault found.0)))

pub fits_at : {A : Type 0} (faults : Faults A) (digits index place : ℕ) (fault : Fault) (moves : Bool) (lines : List (List ℕ)) (old after : List AddressRange)
    → (slice_get faults.faults.items index ≡ Some fault) × ((fault.begin < fault.end) × (fault.end ≤ length faults.lines.items)) → fault.end ≤ place → place ≤ fault.end
    → moves ≡ is_here lines (last_key (keys_told fault.keys))
    → after ≡ old ++ told_between (λ line. if moves then range_behind (codes "fits ") digits line else []) (map (λ (line : Bor (List ℕ)). line.now) faults.lines.items) fault.begin place
    → after ≡ old ++ told_by_some (fits_by digits lines) (slice_get (faults_read faults) index)
unfolding the_read
fits_at faults digits index place fault moves lines old after found past upto is said =
    let tell = range_behind (codes "fits ") digits in
    let every = lines_of_fault faults (Some fault) in
    let inside = slice_get_within faults.faults.items index fault found.0 in
    let at : fault ≡ get_or faults.faults.items index fault = sym (get_or_from_slice_get faults.faults.items index fault fault found.0) in
    let here : moves ≡ moves_here lines (the_read faults fault) =
    is ∙ ap (λ ks. is_here lines (last_key ks)) (sym (keys_read faults index fault inside at)) in
    said ∙ ap (λ l. old ++ l)
    (told_all (λ line. if moves then tell line else []) faults fault place found.1.0 past upto ∙ told_if moves tell every
    ∙ ap (λ b. if b then flat_map tell every else []) here ∙ ap (told_by_some (fits_by digits lines)) (sym (said_some faults index fault found.0)))

pub key_here : (regions : List Region) (keys : List Index) (key : Option ℕ) → AreKeysOf regions keys → has_key keys key ≡ is_here (lines_of_regions regions) key
key_here regions keys None are = refl
key_here regions keys (Some key) are =
    sym (any_of_map (λ k. k == key) (λ (one : Index). one.key) keys)
    ∙ sym (list_any-IsPermutation (λ k. k == key) (map (λ (region : Region). region.key) regions) (map (λ (one : Index). one.key) keys) are.all)
    ∙ any_of_map (λ k. k == key) (λ (region : Region). region.key) regions
    ∙ any_same (λ (region : Region). region.key == key) (λ (region : Region). key_of_region (words_in_line region.line.now) == key)
    (λ region. ap (λ (n : ℕ). n == key) region.is_of_line.key_is) regions
    ∙ sym (any_of_map (λ line. key_of_region (words_in_line line) == key) (λ (region : Region). region.line.now) regions)

-- ---- all faults

module _ (tell : FaultSaid → List AddressRange) (test : FaultSaid → Bool) (all : List FaultSaid) where
  abbrev tell_at : ℕ → List AddressRange
  tell_at index = told_by_some tell (slice_get all index)

  told_by_indexes : (j : ℕ) (said : List FaultSaid) → ((k at : ℕ) (d : FaultSaid) → k < length said → at ≡ j + k → slice_get all at ≡ Some (get_or said k d))
      → flat_map tell_at (indexes_from j test said) ≡ flat_map tell (filter test said)
  told_by_indexes j [] are = refl
  told_by_indexes j (fault ∷ said) are =
      go (test fault) (told_by_indexes (j + 1) said (λ k at d inside is. are (suc k) at d (omega (arith, inside)) (omega (arith, is))))
    where
      go : (b : Bool) → flat_map tell_at (indexes_from (j + 1) test said) ≡ flat_map tell (filter test said)
          → flat_map tell_at (if b then j ∷ indexes_from (j + 1) test said else indexes_from (j + 1) test said) ≡ flat_map tell (cond b (fault ∷ filter test said) (filter test said))
      go true rest = ap₂ (λ a b. a ++ b) (ap (told_by_some tell) (are 0 j fault (omega arith) (omega arith))) rest
      go false rest = rest

  pub told_by_all : flat_map tell_at (indexes_from 0 test all) ≡ flat_map tell (filter test all)
  told_by_all = told_by_indexes 0 all (λ k at d inside is.
      let same : k ≡ at = omega (arith, is) in
      ap (slice_get all) (sym same) ∙ slice_get-get_or all k d inside)

pub index_more : (tell : ℕ → List AddressRange) (indexes : List ℕ) (i index : ℕ) (before after : List AddressRange) → i < length indexes → index ≡ get_or indexes i 0
    → before ≡ flat_map tell (take i indexes) → after ≡ before ++ tell index → after ≡ flat_map tell (take (i + 1) indexes)
index_more tell indexes i index before after inside is said adds =
    adds ∙ ap (λ l. l ++ tell index) said
    ∙ sym (ap (flat_map tell) (take_more indexes i 0 inside) ∙ flat_map-append tell (take i indexes) (get_or indexes i 0 ∷ [])
    ∙ ap (λ l. flat_map tell (take i indexes) ++ l) (append-nil (tell (get_or indexes i 0)) ∙ ap tell (sym is)))

pub all_told : (said : List FaultSaid) (lines : List (List ℕ)) (shared fits : List Told) (digits i : ℕ) (about indexes : List ℕ)
    → about ≡ indexes_from 0 (is_about lines) said → indexes ≡ about → digits ≡ digits_of_lines lines → length indexes ≤ i
    → extents_told shared ≡ flat_map (λ index. told_by_some (shared_by digits) (slice_get said index)) (take i indexes)
    → extents_told fits ≡ flat_map (λ index. told_by_some (fits_by digits lines) (slice_get said index)) (take i indexes)
    → extents_told (shared ++ fits) ≡ ranges_of_faults said lines
all_told said lines shared fits digits i about indexes exact same count past one other =
    let whole : take i indexes ≡ indexes_from 0 (is_about lines) said = take_all i indexes past ∙ same ∙ exact in
    map-append (λ range. record { first = range.first; last = range.last }) shared fits
    ∙ ap₂ (λ a b. a ++ b)
    (one ∙ ap (flat_map (λ index. told_by_some (shared_by digits) (slice_get said index))) whole ∙ told_by_all (shared_by digits) (is_about lines) said)
    (other ∙ ap (flat_map (λ index. told_by_some (fits_by digits lines) (slice_get said index))) whole ∙ told_by_all (fits_by digits lines) (is_about lines) said)
    ∙ ap (λ n. flat_map (shared_by n) (filter (is_about lines) said) ++ flat_map (fits_by n lines) (filter (is_about lines) said)) count

-- where no region is there, its addresses have no digits
pub no_digits : (regions : List Region) → slice_get regions 0 ≡ None → 0 ≡ digits_of_lines (lines_of_regions regions)
unfolding words_in_line
no_digits [] none = refl
no_digits (region ∷ regions) none = absurd (let no : ⊥ = cc in no)
