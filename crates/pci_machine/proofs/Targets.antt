-- The functions behind a port, when the image of one of them changes.
use Rattle.std.proofs.Common.{◌≡◌, ℕ, ◌<◌, ◌==◌, refl, Bool, true, false, ◌&&◌, List, [], ◌∷◌, map, length, Some, None, inl, inr, arith, sym, ◌∙◌, ap, get_or, subst}
use Rattle.std.specs.List.{find, list_any, Contains, slice_get, position_or_len, slice_set}
use Rattle.std.proofs.lemmas.List.Folds.{find_at, list_any_at}
use Rattle.std.specs.Option.{option_map}
use Rattle.std.proofs.lemmas.Bool.{and_from, eq-eqb, cond-true, cond-false, cases_Bool, cases_eq, both_ways, or_parts, false_from_ne_true}
use Rattle.std.proofs.lemmas.List.{ext_get_or, get_or-map, length-map, length-set, get_or-set_same, get_or-set_other}
use Rattle.std.proofs.lemmas.List.Elements.{Contains-get_or}
use Rattle.std.proofs.lemmas.Option.{same_Some, slice_get-get_or, slice_get_within, get_or_from_slice_get}
use Rattle.pci_spec.specs.Slot.{Slot, same_slot}
use Rattle.pci_spec.specs.Machine.{Target, Write, write_target, write_targets, written}
use Rattle.pci_spec.specs.Port.{target_at, has_function, IsLawful, put_image, with_image}
use Rattle.pci_spec.proofs.SameSlot.{slots_same}

-- slots that test as one are one

-- a slot tests as itself
pub same_slot-same : (s : Slot) → same_slot s s ≡ true
same_slot-same s =
    and_from (s.bus == s.bus && s.device == s.device) (s.function == s.function)
    (and_from (s.bus == s.bus) (s.device == s.device) (eq-eqb s.bus s.bus refl) (eq-eqb s.device s.device refl))
    (eq-eqb s.function s.function refl)

-- what is found passes the test, and is in the list
pub find-test : {X : Type 0} (p : X → Bool) (xs : List X) (x : X) → find p xs ≡ Some x → p x ≡ true
find-test p [] x h = absurd (let no : ⊥ = cc in no)
find-test p (y ∷ ys) x h = elim (cases_Bool (p y)) [
  | inl hit ↦ let e = same_Some y x (sym (cond-true (p y) (Some y) (find p ys) hit) ∙ h) in ap p (sym e) ∙ hit
  | inr miss ↦ find-test p ys x (sym (cond-false (p y) (Some y) (find p ys) miss) ∙ h)
]

-- what is found in a list that was changed, where the test sees no change
pub find-map : {X : Type 0} (p : X → Bool) (f : X → X) → ((x : X) → p (f x) ≡ p x) → (xs : List X) → find p (map f xs) ≡ option_map f (find p xs)
find-map p f keeps [] = refl
find-map p f keeps (x ∷ xs) = elim (cases_Bool (p x)) [
  | inl hit ↦ cond-true (p (f x)) (Some (f x)) (find p (map f xs)) (keeps x ∙ hit) ∙ ap (option_map f) (sym (cond-true (p x) (Some x) (find p xs) hit))
  | inr miss ↦
      cond-false (p (f x)) (Some (f x)) (find p (map f xs)) (keeps x ∙ miss) ∙ find-map p f keeps xs
      ∙ ap (option_map f) (sym (cond-false (p x) (Some x) (find p xs) miss))
]

-- whether something passes is whether something is found
pub find-any : {X : Type 0} (p : X → Bool) (xs : List X) (x : X) → find p xs ≡ Some x → list_any p xs ≡ true
find-any p [] x h = absurd (let no : ⊥ = cc in no)
find-any p (y ∷ ys) x h = elim (cases_Bool (p y)) [
  | inl hit ↦ grind arith
  | inr miss ↦ let later = find-any p ys x (sym (cond-false (p y) (Some y) (find p ys) miss) ∙ h) in grind arith
]

-- where something passes, something is found
pub any-find : {X : Type 0} (p : X → Bool) (xs : List X) → list_any p xs ≡ true → (x : X) × (find p xs ≡ Some x)
any-find p [] h = absurd (let no : ⊥ = both_ways false refl h in no)
any-find p (y ∷ ys) h = elim (cases_Bool (p y)) [
  | inl hit ↦ (y, cond-true (p y) (Some y) (find p ys) hit)
  | inr miss ↦
      let later = any-find p ys (let e : list_any p ys ≡ true = grind arith in e) in
      (later.0, cond-false (p y) (Some y) (find p ys) miss ∙ later.1)
]

-- an element that passes is enough
any-at : {X : Type 0} (p : X → Bool) (xs : List X) (k : ℕ) (x : X) → slice_get xs k ≡ Some x → p x ≡ true → list_any p xs ≡ true
any-at p xs k x at h =
    list_any_at p xs k x (slice_get_within xs k x at) (ap p (get_or_from_slice_get xs k x x at) ∙ h)

-- two functions that agree at each element of a list make one list of it
pub map-agree : {X Y : Type 0} (f g : X → Y) (d : Y) (xs : List X) → ((x : X) → Contains xs x → f x ≡ g x) → map f xs ≡ map g xs
map-agree f g d [] h = refl
map-agree f g d (x ∷ xs) h =
    ext_get_or d (map f (x ∷ xs)) (map g (x ∷ xs)) (length-map (x ∷ xs) f ∙ sym (length-map (x ∷ xs) g))
    (λ i below.
    let inside : i < length (x ∷ xs) = subst (λ n. i < n) (length-map (x ∷ xs) f) below in
    get_or-map f (x ∷ xs) i x d inside ∙ h (get_or (x ∷ xs) i x) (Contains-get_or (x ∷ xs) i x inside) ∙ sym (get_or-map g (x ∷ xs) i x d inside))

-- the test of a slot doesn't look at the image
put_image-slot : (slot : Slot) (image : List ℕ) (t : Target) → same_slot (put_image slot image t).slot slot ≡ same_slot t.slot slot
put_image-slot slot image t = elim (cases_Bool (same_slot t.slot slot)) [
  | inl hit ↦ ap (λ (u : Target). same_slot u.slot slot) (cond-true (same_slot t.slot slot) (record t { image = image }) t hit)
  | inr miss ↦ ap (λ (u : Target). same_slot u.slot slot) (cond-false (same_slot t.slot slot) (record t { image = image }) t miss)
]

-- the function that is found is at the slot
pub target_at-slot : (targets : List Target) (slot : Slot) (t : Target) → target_at targets slot ≡ Some t → t.slot ≡ slot
target_at-slot targets slot t h = slots_same t.slot slot (find-test (λ u. same_slot u.slot slot) targets t h)

-- with another image it is found all the same
pub target_at-with_image : (targets : List Target) (slot : Slot) (t : Target) (image : List ℕ) → target_at targets slot ≡ Some t
    → target_at (with_image targets slot image) slot ≡ Some (record t { image = image })
target_at-with_image targets slot t image h =
    let test = find-test (λ u. same_slot u.slot slot) targets t h in
    find-map (λ u. same_slot u.slot slot) (put_image slot image) (put_image-slot slot image) targets ∙ ap (option_map (put_image slot image)) h
    ∙ ap Some (cond-true (same_slot t.slot slot) (record t { image = image }) t test)

-- two changes in one
pub map-map : {X Y Z : Type 0} (f : Y → Z) (g : X → Y) (h : X → Z) → ((x : X) → f (g x) ≡ h x) → (xs : List X) → map f (map g xs) ≡ map h xs
map-map f g h same [] = refl
map-map f g h same (x ∷ xs) = let one = same x in let rest = map-map f g h same xs in cc

-- a second image replaces the first
put_twice : (slot : Slot) (first second : List ℕ) (t : Target) → put_image slot second (put_image slot first t) ≡ put_image slot second t
put_twice slot first second t = elim (cases_Bool (same_slot t.slot slot)) [
  | inl hit ↦
      ap (put_image slot second) (cond-true (same_slot t.slot slot) (record t { image = first }) t hit)
      ∙ cond-true (same_slot t.slot slot) (record t { image = second }) (record t { image = first }) hit
      ∙ sym (cond-true (same_slot t.slot slot) (record t { image = second }) t hit)
  | inr miss ↦ ap (put_image slot second) (cond-false (same_slot t.slot slot) (record t { image = first }) t miss)
]

-- a second image replaces the first, in the list
pub with_image-with_image : (targets : List Target) (slot : Slot) (first second : List ℕ)
    → with_image (with_image targets slot first) slot second ≡ with_image targets slot second
with_image-with_image targets slot first second =
    map-map (put_image slot second) (put_image slot first) (put_image slot second) (put_twice slot first second) targets

-- the index of what is found
pub find-index : {X : Type 0} (p : X → Bool) (xs : List X) (x : X) → find p xs ≡ Some x → slice_get xs (position_or_len p xs) ≡ Some x
find-index p xs x h = sym (find_at p xs) ∙ h

-- a listed function is the one that is found at its slot
pub found : (targets : List Target) (slot : Slot) (k : ℕ) (u : Target) → IsLawful targets → slice_get targets k ≡ Some u → u.slot ≡ slot → target_at targets slot ≡ Some u
found targets slot k u lawful at is =
    let test : (λ (v : Target). same_slot v.slot slot) u ≡ true = ap (λ s. same_slot s slot) is ∙ same_slot-same slot in
    let some = any-find (λ v. same_slot v.slot slot) targets (any-at (λ v. same_slot v.slot slot) targets k u at test) in
    let index = find-index (λ v. same_slot v.slot slot) targets some.0 some.1 in
    let e : position_or_len (λ v. same_slot v.slot slot) targets ≡ k =
    lawful.one (position_or_len (λ v. same_slot v.slot slot) targets) k some.0 u index at (target_at-slot targets slot some.0 some.1 ∙ sym is) in
    some.1 ∙ sym index ∙ ap (slice_get targets) e ∙ at

-- a listed function that stands at the slot is the one that is found there
listed : (targets : List Target) (slot : Slot) (t u : Target) → IsLawful targets → target_at targets slot ≡ Some t → Contains targets u → same_slot u.slot slot ≡ true → u ≡ t
listed targets slot t u lawful h within test =
    let at : slice_get targets within.0 ≡ Some u = slice_get-get_or targets within.0 u within.1 ∙ ap Some within.2 in
    same_Some u t (sym (found targets slot within.0 u lawful at (slots_same u.slot slot test)) ∙ h)

-- no change
map-same : {X : Type 0} (xs : List X) → map (λ x. x) xs ≡ xs
map-same [] = refl
map-same (x ∷ xs) = ap (λ ys. x ∷ ys) (map-same xs)

-- its own image again changes nothing
pub with_image-same : (targets : List Target) (slot : Slot) (t : Target) → IsLawful targets → target_at targets slot ≡ Some t → with_image targets slot t.image ≡ targets
with_image-same targets slot t lawful h =
    map-agree (put_image slot t.image) (λ u. u) t targets (λ u within. elim (cases_Bool (same_slot u.slot slot)) [
      | inl hit ↦
          cond-true (same_slot u.slot slot) (record u { image = t.image }) u hit
          ∙ ap (λ (v : Target). let w : Target = record u { image = v.image } in w) (sym (listed targets slot t u lawful h within hit))
      | inr miss ↦ cond-false (same_slot u.slot slot) (record u { image = t.image }) u miss
    ])
    ∙ map-same targets

-- a write to one slot
pub write-with_image : (targets : List Target) (t : Target) (w : Write) → IsLawful targets → target_at targets w.slot ≡ Some t
    → write_targets targets w ≡ with_image targets w.slot (written t w.offset w.width w.value)
write-with_image targets t w lawful h =
    map-agree (write_target w) (put_image w.slot (written t w.offset w.width w.value)) t targets (λ u within. elim (cases_Bool (same_slot u.slot w.slot)) [
      | inl hit ↦
          cond-true (same_slot u.slot w.slot) (record u { image = written u w.offset w.width w.value }) u hit
          ∙ ap (λ (v : Target). let r : Target = record u { image = written v w.offset w.width w.value } in r) (listed targets w.slot t u lawful h within hit)
          ∙ sym (cond-true (same_slot u.slot w.slot) (record u { image = written t w.offset w.width w.value }) u hit)
      | inr miss ↦
          cond-false (same_slot u.slot w.slot) (record u { image = written u w.offset w.width w.value }) u miss
          ∙ sym (cond-false (same_slot u.slot w.slot) (record u { image = written t w.offset w.width w.value }) u miss)
    ])

-- a change of the function at a slot alone, made at its index
pub set-map : (change : Target → Target) (targets : List Target) (slot : Slot) (k : ℕ) (t : Target) → IsLawful targets → slice_get targets k ≡ Some t → t.slot ≡ slot
    → ((u : Target) → same_slot u.slot slot ≡ false → change u ≡ u) → slice_set targets k (change t) ≡ map change targets
set-map change targets slot k t lawful at is others =
    let within = slice_get_within targets k t at in
    ext_get_or t (slice_set targets k (change t)) (map change targets) (length-set targets k (change t) ∙ sym (length-map targets change))
    (λ i below.
    let inside : i < length targets = subst (λ n. i < n) (length-set targets k (change t)) below in
    let mapped = get_or-map change targets i t t inside in
    elim (cases_eq i k) [
      | inl here ↦
          let e : get_or targets i t ≡ t = ap (λ j. get_or targets j t) here ∙ get_or_from_slice_get targets k t t at in
          ap (λ j. get_or (slice_set targets k (change t)) j t) here ∙ get_or-set_same targets k (change t) t within ∙ sym (mapped ∙ ap change e)
      | inr other ↦
          let u = get_or targets i t in
          let at_u : slice_get targets i ≡ Some u = slice_get-get_or targets i t inside in
          let miss : same_slot u.slot slot ≡ false = false_from_ne_true _ (λ hit. other (lawful.one i k u t at_u at (slots_same u.slot slot hit ∙ sym is))) in
          get_or-set_other targets k i (change t) t other ∙ sym (mapped ∙ others u miss)
    ])

-- the function at one index is written over by itself with another image
pub set-with_image : (targets : List Target) (slot : Slot) (k : ℕ) (t : Target) (image : List ℕ) → IsLawful targets → slice_get targets k ≡ Some t → t.slot ≡ slot
    → slice_set targets k (record t { image = image }) ≡ with_image targets slot image
set-with_image targets slot k t image lawful at is =
    let test : same_slot t.slot slot ≡ true = ap (λ s. same_slot s slot) is ∙ same_slot-same slot in
    ap (slice_set targets k) (sym (cond-true (same_slot t.slot slot) (record t { image = image }) t test))
    ∙ set-map (put_image slot image) targets slot k t lawful at is (λ u miss. cond-false (same_slot u.slot slot) (record u { image = image }) u miss)

-- no function is at a slot where none of the list is
pub none_at : (targets : List Target) (slot : Slot) → ((k : ℕ) (t : Target) → k < length targets → slice_get targets k ≡ Some t → t.slot ≡ slot → ⊥)
    → has_function targets slot ≡ false
none_at targets slot h = false_from_ne_true _ (λ hit.
    let some = any-find (λ t. same_slot t.slot slot) targets hit in
    let index = find-index (λ t. same_slot t.slot slot) targets some.0 some.1 in
    h (position_or_len (λ t. same_slot t.slot slot) targets) some.0
    (slice_get_within targets (position_or_len (λ t. same_slot t.slot slot) targets) some.0 index) index (target_at-slot targets slot some.0 some.1))

-- a function is at a slot where one of the list is
pub some_at : (targets : List Target) (slot : Slot) (k : ℕ) (t : Target) → slice_get targets k ≡ Some t → t.slot ≡ slot → has_function targets slot ≡ true
some_at targets slot k t at is = any-at (λ u. same_slot u.slot slot) targets k t at (ap (λ s. same_slot s slot) is ∙ same_slot-same slot)

-- a function is at a slot where one is found there
pub has_found : (targets : List Target) (slot : Slot) (t : Target) → target_at targets slot ≡ Some t → has_function targets slot ≡ true
has_found targets slot t h = find-any (λ u. same_slot u.slot slot) targets t h

-- where there is a function, it is found
pub found_at : (targets : List Target) (slot : Slot) → has_function targets slot ≡ true → (t : Target) × (target_at targets slot ≡ Some t)
found_at targets slot h = any-find (λ u. same_slot u.slot slot) targets h

-- where nothing passes, nothing is found
pub find-none : {X : Type 0} (p : X → Bool) (xs : List X) → list_any p xs ≡ false → find p xs ≡ None
find-none p [] h = refl
find-none p (x ∷ xs) h =
    let parts = or_parts (p x) (list_any p xs) h in
    cond-false (p x) (Some x) (find p xs) parts.0 ∙ find-none p xs parts.1

-- where there is no function, none is found
pub none_found : (targets : List Target) (slot : Slot) → has_function targets slot ≡ false → target_at targets slot ≡ None
none_found targets slot h = find-none (λ t. same_slot t.slot slot) targets h

-- a change of the function at a slot changes nothing where there is none
pub map-nowhere : (change : Target → Target) (targets : List Target) (slot : Slot) → has_function targets slot ≡ false
    → ((u : Target) → same_slot u.slot slot ≡ false → change u ≡ u) → map change targets ≡ targets
map-nowhere change [] slot h others = refl
map-nowhere change (t ∷ targets) slot h others =
    let parts = or_parts (same_slot t.slot slot) (has_function targets slot) h in
    let first = others t parts.0 in
    let rest = map-nowhere change targets slot parts.1 others in
    cc
