-- Keys and subjects of the faults of one function.
use Rattle.std.proofs.Common.{◌≡◌, ℕ, zero, suc, ◌<◌, List, [], ◌∷◌, ◌++◌, drop, length, refl, true, inl, inr, arith, sym, ◌∙◌, ap, subst}
use Rattle.std.specs.Prelude.{slice_index_or}
use Rattle.std.proofs.lemmas.Bool.{both_ways, cases_order}
use Rattle.pci_spec.specs.Slot.{Slot, IsSlot, slot_number}
use Rattle.pci_spec.specs.System.{Function}
use Rattle.pci_spec.specs.Fault.{Fault, NoVendor, HeaderKind, BarType, BarMask, BarPair, RomMask, WindowMask, CapRange, CapLoop, CapCut, SlotsDiffer, StrayProbe, LoneFunction, OfProfile, BusRange, Orphan, Unreached, Clash, Split}
use Rattle.pci_spec.specs.Order.{precedes, slot_key, looking_key, phase_of, is_before}
use Rattle.pci_spec.specs.FaultLines.{subject}
use Rattle.pci_spec.proofs.Regions.{precedes-cases}
use Rattle.pci_spec.proofs.FirstLines.{less_precedes, same_precedes}
use Rattle.pci_spec.proofs.Looking.{key_head}
use Rattle.pci_function.specs.Profile.{IsHere}
use Rattle.pci_function.proofs.FirstHere.{rest_of, key_at, key_is}
use Rattle.pci_faults.specs.OwnLines.{IsOwnLine}

-- ---- keys

pub not_before_itself : (xs : List ℕ) → precedes xs xs ≡ true → ⊥
not_before_itself [] h = both_ways _ refl h
not_before_itself (x ∷ xs) h = elim (precedes-cases x x xs xs h) [
  | inl less ↦ omega (arith, less)
  | inr (same, rest) ↦ not_before_itself xs rest
]

-- of two lists that neither precedes the other the numbers are the same, as far as both go
same_at : (k : ℕ) (xs ys : List ℕ) → (precedes xs ys ≡ true → ⊥) → (precedes ys xs ≡ true → ⊥) → k < length xs → k < length ys → slice_index_or xs k 0 ≡ slice_index_or ys k 0
same_at k [] ys low high in_xs in_ys = absurd (let no : ⊥ = omega (arith, in_xs) in no)
same_at k (x ∷ xs) [] low high in_xs in_ys = absurd (let no : ⊥ = omega (arith, in_ys) in no)
same_at k (x ∷ xs) (y ∷ ys) low high in_xs in_ys = elim (cases_order x y) [
  | inr (inl less) ↦ absurd (low (less_precedes x y xs ys less))
  | inr (inr more) ↦ absurd (high (less_precedes y x ys xs more))
  | inl same ↦ elim k as (λ k. k < suc (length xs) → k < suc (length ys) → slice_index_or (x ∷ xs) k 0 ≡ slice_index_or (y ∷ ys) k 0) [
    | zero ↦ λ in_x in_y. same
    | suc j ↦ λ in_x in_y. same_at j xs ys (λ h. low (same_precedes x y xs ys same h)) (λ h. high (same_precedes y x ys xs (sym same) h)) (omega (arith, in_x)) (omega (arith, in_y))
  ] in_xs in_ys
]

-- behind one phase and slot
pub front_precedes : (p : ℕ) (s : Slot) (xs ys : List ℕ) → precedes xs ys ≡ true → precedes (p ∷ slot_key s ++ xs) (p ∷ slot_key s ++ ys) ≡ true
front_precedes p s xs ys h =
    same_precedes p p (slot_key s ++ xs) (slot_key s ++ ys) refl
    (same_precedes s.bus s.bus (s.device ∷ s.function ∷ xs) (s.device ∷ s.function ∷ ys) refl
    (same_precedes s.device s.device (s.function ∷ xs) (s.function ∷ ys) refl (same_precedes s.function s.function xs ys refl h)))

-- of a phase the key of a lower slot precedes
pub lower_precedes : (p : ℕ) (s t : Slot) (xs ys : List ℕ) → IsSlot s → IsSlot t → slot_number s < slot_number t → precedes (p ∷ slot_key s ++ xs) (p ∷ slot_key t ++ ys) ≡ true
lower_precedes p s t xs ys hs ht lower = same_precedes p p (slot_key s ++ xs) (slot_key t ++ ys) refl (elim (cases_order s.bus t.bus) [
  | inr (inl less) ↦ less_precedes s.bus t.bus (s.device ∷ s.function ∷ xs) (t.device ∷ t.function ∷ ys) less
  | inr (inr more) ↦ absurd (let no : ⊥ = omega (arith, lower, more, hs.1, hs.2, ht.1, ht.2) in no)
  | inl bus ↦ same_precedes s.bus t.bus (s.device ∷ s.function ∷ xs) (t.device ∷ t.function ∷ ys) bus (elim (cases_order s.device t.device) [
    | inr (inl less) ↦ less_precedes s.device t.device (s.function ∷ xs) (t.function ∷ ys) less
    | inr (inr more) ↦ absurd (let no : ⊥ = omega (arith, lower, bus, more, hs.2, ht.2) in no)
    | inl device ↦ same_precedes s.device t.device (s.function ∷ xs) (t.function ∷ ys) device
        (less_precedes s.function t.function xs ys (omega (arith, lower, bus, device)))
  ])
])

-- the slot in a key
pub slot_of_key : (p q : ℕ) (s t : Slot) (xs ys : List ℕ) → p ∷ slot_key s ++ xs ≡ q ∷ slot_key t ++ ys → s ≡ t
slot_of_key p q s t xs ys e =
    let bus : s.bus ≡ t.bus = ap (λ k. slice_index_or k 1 0) e in
    let device : s.device ≡ t.device = ap (λ k. slice_index_or k 2 0) e in
    let function : s.function ≡ t.function = ap (λ k. slice_index_or k 3 0) e in
    λ i. record { bus = bus i; device = device i; function = function i }

-- a fault of an earlier phase is looked for before
pub earlier_is_before : (image_of : Slot → List ℕ) (a b : Fault) → phase_of a < phase_of b → is_before image_of a b ≡ true
earlier_is_before image_of a b less =
    subst (λ k. precedes k (looking_key image_of b) ≡ true) (sym (key_head image_of a))
    (subst (λ k. precedes (phase_of a ∷ drop 1 (looking_key image_of a)) k ≡ true) (sym (key_head image_of b))
    (less_precedes (phase_of a) (phase_of b) (drop 1 (looking_key image_of a)) (drop 1 (looking_key image_of b)) less))

-- ---- subjects

subject_phase : (e : Fault) → slice_index_or (subject e) 0 0 ≡ phase_of e
subject_phase (NoVendor slot) = refl
subject_phase (HeaderKind slot) = refl
subject_phase (StrayProbe slot offset) = refl
subject_phase (CapRange slot place) = refl
subject_phase (CapLoop slot place) = refl
subject_phase (CapCut slot place) = refl
subject_phase _ = refl

-- faults of one subject are of one phase
pub same_phase : (a b : Fault) → subject a ≡ subject b → phase_of a ≡ phase_of b
same_phase a b e = sym (subject_phase a) ∙ ap (λ k. slice_index_or k 0 0) e ∙ subject_phase b

-- a subject begins with phase and slot
pub subject_here : (f : Function) (e : Fault) → IsHere f e → subject e ≡ phase_of e ∷ slot_key f.slot ++ drop 4 (subject e)
subject_here f (NoVendor slot) is = ap (λ t. subject (NoVendor t)) is.0
subject_here f (HeaderKind slot) is = ap (λ t. subject (HeaderKind t)) is.0
subject_here f (BarType slot register) is = ap (λ t. subject (BarType t register)) is.0
subject_here f (BarMask slot register) is = ap (λ t. subject (BarMask t register)) is.0
subject_here f (BarPair slot register) is = ap (λ t. subject (BarPair t register)) is.0
subject_here f (RomMask slot register) is = ap (λ t. subject (RomMask t register)) is.0
subject_here f (WindowMask slot register) is = ap (λ t. subject (WindowMask t register)) is.0
subject_here f (CapRange slot place) is = ap (λ t. subject (CapRange t place)) is.0
subject_here f (CapLoop slot place) is = ap (λ t. subject (CapLoop t place)) is.0
subject_here f (CapCut slot place) is = ap (λ t. subject (CapCut t place)) is.0
subject_here f (SlotsDiffer slot) is = absurd is
subject_here f (StrayProbe slot offset) is = ap (λ t. subject (StrayProbe t offset)) is.0
subject_here f (LoneFunction slot) is = absurd is
subject_here f (OfProfile fault slot) is = ap (λ t. subject (OfProfile fault t)) is.0
subject_here f (BusRange slot) is = absurd is
subject_here f (Orphan slot) is = absurd is
subject_here f (Unreached slot register space address bridge) is = absurd is
subject_here f (Clash bus space address first first_register second second_register) is = absurd is
subject_here f (Split space address first first_register second second_register) is = absurd is

-- ---- faults of one function

-- their order hangs on its image alone
pub before_with : (image_of other_of : Slot → List ℕ) (f : Function) (a b : Fault) → image_of f.slot ≡ f.image → other_of f.slot ≡ f.image → IsHere f a → IsHere f b
    → is_before image_of a b ≡ true → is_before other_of a b ≡ true
before_with image_of other_of f a b one two is_a is_b before =
    let key_a = key_at image_of f a is_a one ∙ sym (key_at other_of f a is_a two) in
    let key_b = key_at image_of f b is_b one ∙ sym (key_at other_of f b is_b two) in
    subst (λ k. precedes k (looking_key other_of b) ≡ true) key_a (subst (λ k. precedes (looking_key image_of a) k ≡ true) key_b before)

-- of one phase what stands behind the slot tells their order
pub before_by_rest : (f : Function) (a b : Fault) → IsHere f a → IsHere f b → phase_of a ≡ phase_of b → precedes (rest_of f a) (rest_of f b) ≡ true
    → is_before (λ slot. f.image) a b ≡ true
before_by_rest f a b is_a is_b same rest =
    subst (λ k. precedes k (looking_key (λ slot. f.image) b) ≡ true) (sym (key_is f a is_a))
    (subst (λ k. precedes (phase_of a ∷ slot_key f.slot ++ rest_of f a) k ≡ true) (sym (key_is f b is_b))
    (subst (λ p. precedes (phase_of a ∷ slot_key f.slot ++ rest_of f a) (p ∷ slot_key f.slot ++ rest_of f b) ≡ true) same
    (front_precedes (phase_of a) f.slot (rest_of f a) (rest_of f b) rest)))

-- of lines of one subject neither is looked for before the other
pub one_rest : (phase : ℕ) (f : Function) (a b : Fault) → IsOwnLine phase f a → IsOwnLine phase f b → subject a ≡ subject b → (k : ℕ) → k < length (rest_of f a) → k < length (rest_of f b)
    → slice_index_or (rest_of f a) k 0 ≡ slice_index_or (rest_of f b) k 0
one_rest phase f a b is_a is_b same k = same_at k (rest_of f a) (rest_of f b)
    (λ before. is_b.first a same (before_by_rest f a b is_a.here is_b.here (is_a.phase_is ∙ sym is_b.phase_is) before) is_a.here)
    (λ before. is_a.first b (sym same) (before_by_rest f b a is_b.here is_a.here (is_b.phase_is ∙ sym is_a.phase_is) before) is_b.here)
