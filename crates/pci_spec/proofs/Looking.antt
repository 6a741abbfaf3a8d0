-- The order in which faults are looked for: what a key that precedes another says.
use Rattle.std.proofs.Common.{◌≡◌, ◌⊎◌, ℕ, ◌+◌, ◌<◌, ◌≤◌, List, [], ◌∷◌, ◌++◌, length, get_or, drop, refl, true, false, inl, inr, arith, sym, ◌∙◌, ap, subst}
use Rattle.std.specs.Prelude.{◌==◌}
use Rattle.std.specs.List.{Contains, AllPairs, range_with_len}
use Rattle.std.proofs.lemmas.Bool.{both_ways, cases_lt, cases_Bool, eqb-true, eq-eqb}
use Rattle.std.proofs.lemmas.List.{get_or_past, get_or_default}
use Rattle.std.proofs.lemmas.List.Elements.{Contains-get_or}
use Rattle.pci_spec.specs.Slot.{Slot, IsSlot, slot_number, same_slot}
use Rattle.pci_spec.specs.Capability.{pointer}
use Rattle.pci_spec.specs.System.{System, Function}
use Rattle.pci_spec.specs.Fault.{Fault, NoVendor, HeaderKind, BarType, BarMask, BarPair, RomMask, WindowMask, CapRange, CapLoop, CapCut, SlotsDiffer, StrayProbe, LoneFunction, OfProfile, BusRange, Orphan, Unreached, Clash, Split}
use Rattle.pci_spec.specs.Order.{precedes, slot_key, looking_key, phase_of, is_before, longest_walk, steps_at, step_after, image_at}
use Rattle.pci_spec.proofs.Members.{in_nil, in_head, in_tail, in_cons_cases, in_filter_to, in_filter_from, in_range_from, pairs_filter, pairs_range}
use Rattle.pci_spec.proofs.Regions.{precedes-cases}
use Rattle.pci_spec.proofs.SameSlot.{slot_itself, slots_same}

-- ---- keys

-- where one key of a phase and a slot precedes another, its phase is earlier, or the same and its slot lower, or both the same and its
-- rest precedes
pub key_cases : (p q : ℕ) (s t : Slot) (xs ys : List ℕ) → IsSlot s → precedes (p ∷ slot_key s ++ xs) (q ∷ slot_key t ++ ys) ≡ true
    → (p < q) ⊎ ((p ≡ q) × ((slot_number s < slot_number t) ⊎ ((s ≡ t) × (precedes xs ys ≡ true))))
key_cases p q s t xs ys lawful h = elim (precedes-cases p q (slot_key s ++ xs) (slot_key t ++ ys) h) [
  | inl less ↦ inl less
  | inr (phase, h0) ↦ inr (
    phase,
    elim (precedes-cases s.bus t.bus (s.device ∷ s.function ∷ xs) (t.device ∷ t.function ∷ ys) h0) [
      | inl less ↦ inl (omega (arith, less, lawful.1, lawful.2))
      | inr (bus, h1) ↦ elim (precedes-cases s.device t.device (s.function ∷ xs) (t.function ∷ ys) h1) [
        | inl less ↦ inl (omega (arith, bus, less, lawful.2))
        | inr (device, h2) ↦ elim (precedes-cases s.function t.function xs ys h2) [
          | inl less ↦ inl (omega (arith, bus, device, less))
          | inr (function, rest) ↦ inr (λ i. record { bus = bus i; device = device i; function = function i }, rest)
        ]
      ]
    ],
  )
]

-- of one slot
pub key_here : (p q : ℕ) (s : Slot) (xs ys : List ℕ) → precedes (p ∷ slot_key s ++ xs) (q ∷ slot_key s ++ ys) ≡ true → (p < q) ⊎ ((p ≡ q) × (precedes xs ys ≡ true))
key_here p q s xs ys h = elim (precedes-cases p q (slot_key s ++ xs) (slot_key s ++ ys) h) [
  | inl less ↦ inl less
  | inr (phase, h0) ↦ elim (precedes-cases s.bus s.bus (s.device ∷ s.function ∷ xs) (s.device ∷ s.function ∷ ys) h0) [
    | inl less ↦ absurd (let no : ⊥ = omega (arith, less) in no)
    | inr (bus, h1) ↦ elim (precedes-cases s.device s.device (s.function ∷ xs) (s.function ∷ ys) h1) [
      | inl less ↦ absurd (let no : ⊥ = omega (arith, less) in no)
      | inr (device, h2) ↦ elim (precedes-cases s.function s.function xs ys h2) [
        | inl less ↦ absurd (let no : ⊥ = omega (arith, less) in no)
        | inr (function, rest) ↦ inr (phase, rest)
      ]
    ]
  ]
]

nothing_precedes : (xs : List ℕ) → precedes xs [] ≡ true → ⊥
nothing_precedes [] h = both_ways false refl h
nothing_precedes (x ∷ xs) h = both_ways false refl h

-- a key that precedes one number has a lower one in front
pub one_number : (j k : ℕ) (ys : List ℕ) → precedes (j ∷ ys) (k ∷ []) ≡ true → j < k
one_number j k ys h = elim (precedes-cases j k ys [] h) [
  | inl less ↦ less
  | inr (same, rest) ↦ absurd (nothing_precedes ys rest)
]

-- ---- phases

pub key_head : (image_of : Slot → List ℕ) (e : Fault) → looking_key image_of e ≡ phase_of e ∷ drop 1 (looking_key image_of e)
key_head image_of (NoVendor slot) = refl
key_head image_of (HeaderKind slot) = refl
key_head image_of (BarType slot register) = refl
key_head image_of (BarMask slot register) = refl
key_head image_of (BarPair slot register) = refl
key_head image_of (RomMask slot register) = refl
key_head image_of (WindowMask slot register) = refl
key_head image_of (CapRange slot place) = refl
key_head image_of (CapLoop slot place) = refl
key_head image_of (CapCut slot place) = refl
key_head image_of (SlotsDiffer slot) = refl
key_head image_of (StrayProbe slot offset) = refl
key_head image_of (LoneFunction slot) = refl
key_head image_of (OfProfile fault slot) = refl
key_head image_of (BusRange slot) = refl
key_head image_of (Orphan slot) = refl
key_head image_of (Unreached slot register space address bridge) = refl
key_head image_of (Clash bus space address first first_register second second_register) = refl
key_head image_of (Split space address first first_register second second_register) = refl

-- what is looked for before is of an earlier phase or of the same
pub phase_le : (image_of : Slot → List ℕ) (other e : Fault) → is_before image_of other e ≡ true → phase_of other ≤ phase_of e
phase_le image_of other e before =
    elim (precedes-cases (phase_of other) (phase_of e) (drop 1 (looking_key image_of other)) (drop 1 (looking_key image_of e))
    (subst (λ k. precedes k (phase_of e ∷ drop 1 (looking_key image_of e)) ≡ true) (key_head image_of other)
    (subst (λ k. precedes (looking_key image_of other) k ≡ true) (key_head image_of e) before))) [
      | inl less ↦ omega (arith, less)
      | inr (same, rest) ↦ omega (arith, same)
    ]

-- ---- steps of a walk

-- the step at which a place is met is one at which the walk is there
pub step_is : (times : ℕ) (image : List ℕ) (place : ℕ) → (step_after times image place ≡ longest_walk + 1) ⊎ (pointer image (step_after times image place) ≡ place)
unfolding steps_at
step_is times image place = elim (cases_lt times (length (steps_at image place))) [
  | inl within ↦ inr (eqb-true _ _ (in_filter_to (λ n. pointer image n == place) (range_with_len 0 (longest_walk + 1)) _ (Contains-get_or (steps_at image place) times (longest_walk + 1) within)).1)
  | inr past ↦ inl (get_or_past (steps_at image place) times (longest_walk + 1) past)
]

-- and at a later time it was there before
pub step_again : (image : List ℕ) (place : ℕ) → (step_after 1 image place ≡ longest_walk + 1) ⊎ ((m : ℕ) × (m < step_after 1 image place) × (pointer image m ≡ place))
unfolding steps_at
step_again image place = elim (cases_lt 1 (length (steps_at image place))) [
  | inl within ↦
      let less = pairs_filter (λ x y. x < y) (λ n. pointer image n == place) (range_with_len 0 (longest_walk + 1)) (pairs_range 0 (longest_walk + 1)) 0 1 (longest_walk + 1) (omega arith) within in
      let is = (in_filter_to (λ n. pointer image n == place) (range_with_len 0 (longest_walk + 1)) _ (Contains-get_or (steps_at image place) 0 (longest_walk + 1) (omega (arith, within)))).1 in
      inr (get_or (steps_at image place) 0 (longest_walk + 1), less, eqb-true _ _ is)
  | inr past ↦ inl (get_or_past (steps_at image place) 1 (longest_walk + 1) past)
]

-- a step of the walk at a place is among those at which it is met
met_at : (image : List ℕ) (place n : ℕ) → n < longest_walk + 1 → pointer image n ≡ place → Contains (steps_at image place) n
unfolding steps_at
met_at image place n within is = in_filter_from (λ k. pointer image k == place) (range_with_len 0 (longest_walk + 1)) n (in_range_from 0 (longest_walk + 1) n (omega arith) (omega (arith, within))) (eq-eqb _ _ is)

steps_rise : (image : List ℕ) (place : ℕ) → AllPairs (λ x y. x < y) (steps_at image place)
unfolding steps_at
steps_rise image place = pairs_filter (λ x y. x < y) (λ n. pointer image n == place) (range_with_len 0 (longest_walk + 1)) (pairs_range 0 (longest_walk + 1))

-- numbers that rise do so from each place on
rise_to : (xs : List ℕ) (i j d : ℕ) → AllPairs (λ x y. x < y) xs → i ≤ j → j < length xs → get_or xs i d ≤ get_or xs j d
rise_to xs i j d pairs le within = elim (cases_lt i j) [
  | inl less ↦ let up = pairs i j d less within in omega (arith, up)
  | inr not_less ↦ let same : i ≡ j = omega (arith, le, not_less) in subst (λ k. get_or xs i d ≤ get_or xs k d) same (omega arith)
]

-- so it is met at that step or before
pub met_by : (image : List ℕ) (place n : ℕ) → n < longest_walk + 1 → pointer image n ≡ place → step_after 0 image place ≤ n
met_by image place n within is =
    let met = met_at image place n within is in
    let here : get_or (steps_at image place) met.0 (longest_walk + 1) ≡ n = get_or_default (steps_at image place) met.0 (longest_walk + 1) n met.1 ∙ met.2 in
    let up = rise_to (steps_at image place) 0 met.0 (longest_walk + 1) (steps_rise image place) (omega arith) met.1 in
    omega (arith, here, up)

-- and, where it was met before, for the second time
pub met_again_by : (image : List ℕ) (place m n : ℕ) → m < n → n < longest_walk + 1 → pointer image m ≡ place → pointer image n ≡ place → step_after 1 image place ≤ n
met_again_by image place m n less within one two =
    let first = met_at image place m (omega (arith, less, within)) one in
    let second = met_at image place n within two in
    let at_first : get_or (steps_at image place) first.0 (longest_walk + 1) ≡ m = get_or_default (steps_at image place) first.0 (longest_walk + 1) m first.1 ∙ first.2 in
    let at_second : get_or (steps_at image place) second.0 (longest_walk + 1) ≡ n = get_or_default (steps_at image place) second.0 (longest_walk + 1) n second.1 ∙ second.2 in
    elim (cases_lt second.0 1) [
      | inl none ↦
          let up = rise_to (steps_at image place) second.0 first.0 (longest_walk + 1) (steps_rise image place) (omega (arith, none)) first.1 in
          absurd (let no : ⊥ = omega (arith, at_first, at_second, up, less) in no)
      | inr some ↦
          let up = rise_to (steps_at image place) 1 second.0 (longest_walk + 1) (steps_rise image place) (omega (arith, some)) second.1 in
          omega (arith, at_second, up)
    ]

-- ---- images by slot

-- a function's image is that at its slot, where no other function stands there
pub image_at_is : (s : System) (f : Function) → ((g : Function) → Contains s g → g.slot ≡ f.slot → g ≡ f) → Contains s f → image_at s f.slot ≡ f.image
image_at_is [] f unique has = absurd (in_nil f has)
image_at_is (g ∷ s) f unique has = elim (cases_Bool (same_slot g.slot f.slot)) [
  | inl same ↦ rw same (ap (λ (x : Function). x.image) (unique g (in_head g s) (slots_same g.slot f.slot same)))
  | inr other ↦ rw other (elim (in_cons_cases g s f has) [
    | inl here ↦ absurd (both_ways _ other (subst (λ (x : Function). same_slot x.slot f.slot ≡ true) (sym here) (slot_itself f.slot)))
    | inr later ↦ image_at_is s f (λ h listed e. unique h (in_tail g s h listed) e) later
  ])
]
