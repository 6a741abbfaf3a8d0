-- The faults of a function's registers and capabilities list, in the order in which they are looked for.
use Rattle.std.proofs.Common.{◌≡◌, ◌≢◌, ◌⊎◌, ℕ, zero, suc, ◌+◌, ◌<◌, ◌≤◌, List, [], ◌∷◌, ◌++◌, refl, true, false, inl, inr, arith, sym, ◌∙◌, subst, ap, Option, Some, None, IsTrue}
use Rattle.std.specs.Prelude.{◌==◌}
use Rattle.std.proofs.lemmas.Bool.{both_ways, cases_lt, eqb-true}
use Rattle.pci_spec.specs.Header.{bar_count, bar_register, layout}
use Rattle.pci_spec.specs.Bar.{BarFault, bar_fault}
use Rattle.pci_spec.specs.Rom.{breaks_rom_rule}
use Rattle.pci_spec.specs.Window.{WindowKind, window_register, breaks_window_rule}
use Rattle.pci_spec.specs.Capability.{pointer, body_length, HasLowPlace, ComesTwiceTo, HasCutBody}
use Rattle.pci_spec.specs.System.{Function}
use Rattle.pci_spec.specs.Fault.{Fault, NoVendor, HeaderKind, BarType, BarMask, BarPair, RomMask, WindowMask, CapRange, CapLoop, CapCut, HasBarFault, HasWindowFault}
use Rattle.pci_spec.specs.Order.{precedes, slot_key, looking_key, phase_of, step_after, longest_walk}
use Rattle.pci_spec.proofs.Regions.{precedes-cases}
use Rattle.pci_spec.proofs.Looking.{one_number, step_is, step_again, met_by, met_again_by}
use Rattle.pci_spec.proofs.Walks.{places-at_most_48}
use Rattle.pci_image.specs.declared.fault.ImageFault.{ImageFault}
use Rattle.pci_image.specs.declared.fault.ImageFault.TheVariants as images
use Rattle.pci_image.specs.Bars.{HasNoBarFaultBelow, IsLowestBarFault}
use Rattle.pci_image.specs.Roms.{is_rom_fault}
use Rattle.pci_image.specs.Windows.{IsLowestWindowFault}
use Rattle.pci_image.specs.Caps.{IsChainUpTo, IsFirstAlong}
use Rattle.pci_function.specs.Fault.{image_fault_at}
use Rattle.pci_function.specs.Profile.{IsHere, IsFirstOf}
use Rattle.pci_function.proofs.FirstHere.{rest_of, before_here}

-- ---- what the fault with this rest of a key says

abbrev pub WalkIs : List ℕ → List ℕ → Type 0
WalkIs image ys =
    (place : ℕ) × (((ys ≡ step_after 0 image place ∷ 0 ∷ []) × HasLowPlace image place)
    ⊎ (((ys ≡ step_after 1 image place ∷ 1 ∷ []) × ComesTwiceTo image place) ⊎ ((ys ≡ step_after 0 image place ∷ 2 ∷ []) × HasCutBody image place)))

abbrev DecodingIs : Function → ℕ → List ℕ → Type 0
DecodingIs f zero ys = (n : ℕ) × (ys ≡ bar_register n ∷ []) × (n < bar_count (layout f.image)) × (bar_fault f.image f.probe n ≢ None)
DecodingIs f (suc zero) ys = IsTrue (breaks_rom_rule f.image f.probe)
DecodingIs f (suc (suc zero)) ys = (kind : WindowKind) × (ys ≡ window_register kind ∷ []) × IsTrue (layout f.image == 1) × IsTrue (breaks_window_rule kind f.image f.probe)
DecodingIs f (suc (suc (suc n))) ys = WalkIs f.image ys

record IsDecodingFault (f : Function) (other : Fault) : Type 0 where
  number : ℕ
  more : List ℕ
  key : rest_of f other ≡ number ∷ more
  is : DecodingIs f number more

some_is_not_none : (o : Option BarFault) (e : BarFault) → o ≡ Some e → o ≡ None → ⊥
some_is_not_none o e some none = cc

bar_is : (f : Function) (register : ℕ) (e : BarFault) → HasBarFault f.image f.probe register e → DecodingIs f 0 (register ∷ [])
bar_is f register e (n, below, same, is) = (n, ap (λ r. r ∷ []) same, below, some_is_not_none _ e is)

window_is : (f : Function) (register : ℕ) → HasWindowFault f.image f.probe register → DecodingIs f 2 (register ∷ [])
window_is f register (kind, bridge, same, is) = (kind, ap (λ r. r ∷ []) same, bridge, is)

decoding_fault : (f : Function) (other : Fault) → phase_of other ≡ 2 → IsHere f other → IsDecodingFault f other
decoding_fault f (BarType slot register) phase is = record { number = 0; more = register ∷ []; key = refl; is = bar_is f register _ is.1 }
decoding_fault f (BarMask slot register) phase is = record { number = 0; more = register ∷ []; key = refl; is = bar_is f register _ is.1 }
decoding_fault f (BarPair slot register) phase is = record { number = 0; more = register ∷ []; key = refl; is = bar_is f register _ is.1 }
decoding_fault f (RomMask slot register) phase is = record { number = 1; more = []; key = refl; is = is.1.1 }
decoding_fault f (WindowMask slot register) phase is = record { number = 2; more = register ∷ []; key = refl; is = window_is f register is.1 }
decoding_fault f (CapRange slot place) phase is = record { number = 3; more = step_after 0 f.image place ∷ 0 ∷ []; key = refl; is = (place, inl (refl, is.1)) }
decoding_fault f (CapLoop slot place) phase is = record { number = 3; more = step_after 1 f.image place ∷ 1 ∷ []; key = refl; is = (place, inr (inl (refl, is.1))) }
decoding_fault f (CapCut slot place) phase is = record { number = 3; more = step_after 0 f.image place ∷ 2 ∷ []; key = refl; is = (place, inr (inr (refl, is.1))) }
decoding_fault f _ phase is = absurd (let no : ⊥ = omega (arith, phase) in no)

-- a fault of decoding is the first, where none with a lower key is there
first_of_decoding : (f : Function) (e : Fault) (ys : List ℕ) → looking_key (λ slot. f.image) e ≡ 2 ∷ slot_key f.slot ++ ys
    → ((j : ℕ) (xs : List ℕ) → precedes (j ∷ xs) ys ≡ true → DecodingIs f j xs → ⊥) → IsFirstOf 2 f e
first_of_decoding f e ys key none other phase before is = elim (before_here f other e 2 ys is key before) [
  | inl less ↦ absurd (let no : ⊥ = omega (arith, less, phase) in no)
  | inr (same, rest) ↦
      let x = decoding_fault f other phase is in
      none x.number x.more (subst (λ k. precedes k ys ≡ true) x.key rest) x.is
]

-- of a fault of an earlier phase nothing is said here
pub first_of_earlier : (f : Function) (e : Fault) (p : ℕ) (ys : List ℕ) → p < 2 → looking_key (λ slot. f.image) e ≡ p ∷ slot_key f.slot ++ ys → IsFirstOf 2 f e
first_of_earlier f e p ys low key other phase before is = elim (before_here f other e p ys is key before) [
  | inl less ↦ let no : ⊥ = omega (arith, less, phase, low) in no
  | inr (same, rest) ↦ let no : ⊥ = omega (arith, same, phase, low) in no
]

-- ---- registers

module _ (f : Function) where
  abbrev pub AreBarsFine : Type 0
  AreBarsFine = (n : ℕ) → n < bar_count (layout f.image) → bar_fault f.image f.probe n ≡ None

  bar_before : (register j : ℕ) (xs : List ℕ) → HasNoBarFaultBelow f.image f.probe register → precedes (j ∷ xs) (0 ∷ register ∷ []) ≡ true → DecodingIs f j xs → ⊥
  bar_before register zero xs lowest h (n, same, below, is) = elim (precedes-cases 0 0 xs (register ∷ []) h) [
    | inl less ↦ let no : ⊥ = omega (arith, less) in no
    | inr (number, rest) ↦ is (lowest n (one_number (bar_register n) register [] (subst (λ k. precedes k (register ∷ []) ≡ true) same rest)))
  ]
  bar_before register (suc j) xs lowest h is = elim (precedes-cases (suc j) 0 xs (register ∷ []) h) [
    | inl less ↦ let no : ⊥ = omega (arith, less) in no
    | inr (number, rest) ↦ let no : ⊥ = omega (arith, number) in no
  ]

  pub first_bar : (e : Fault) (register : ℕ) → looking_key (λ slot. f.image) e ≡ 2 ∷ slot_key f.slot ++ 0 ∷ register ∷ [] → HasNoBarFaultBelow f.image f.probe register → IsFirstOf 2 f e
  first_bar e register key lowest = first_of_decoding f e (0 ∷ register ∷ []) key (λ j xs h is. bar_before register j xs lowest h is)

  rom_before : (j : ℕ) (xs : List ℕ) → AreBarsFine → precedes (j ∷ xs) (1 ∷ []) ≡ true → DecodingIs f j xs → ⊥
  rom_before zero xs bars h (n, same, below, is) = is (bars n below)
  rom_before (suc j) xs bars h is = let less = one_number (suc j) 1 xs h in let no : ⊥ = omega (arith, less) in no

  pub first_rom : (register : ℕ) → AreBarsFine → IsFirstOf 2 f (RomMask f.slot register)
  first_rom register bars = first_of_decoding f (RomMask f.slot register) (1 ∷ []) refl (λ j xs h is. rom_before j xs bars h is)

  window_before : (register j : ℕ) (xs : List ℕ) → AreBarsFine → breaks_rom_rule f.image f.probe ≡ false
      → ((kind : WindowKind) → window_register kind < register → breaks_window_rule kind f.image f.probe ≡ false)
      → precedes (j ∷ xs) (2 ∷ register ∷ []) ≡ true → DecodingIs f j xs → ⊥
  window_before register zero xs bars rom lowest h (n, same, below, is) = is (bars n below)
  window_before register (suc zero) xs bars rom lowest h is = both_ways _ rom is
  window_before register (suc (suc zero)) xs bars rom lowest h (kind, same, bridge, is) = elim (precedes-cases 2 2 xs (register ∷ []) h) [
    | inl less ↦ let no : ⊥ = omega (arith, less) in no
    | inr (number, rest) ↦ both_ways _ (lowest kind (one_number (window_register kind) register [] (subst (λ k. precedes k (register ∷ []) ≡ true) same rest))) is
  ]
  window_before register (suc (suc (suc j))) xs bars rom lowest h is = elim (precedes-cases (suc (suc (suc j))) 2 xs (register ∷ []) h) [
    | inl less ↦ let no : ⊥ = omega (arith, less) in no
    | inr (number, rest) ↦ let no : ⊥ = omega (arith, number) in no
  ]

  pub first_window : (register : ℕ) → AreBarsFine → breaks_rom_rule f.image f.probe ≡ false
      → ((kind : WindowKind) → window_register kind < register → breaks_window_rule kind f.image f.probe ≡ false) → IsFirstOf 2 f (WindowMask f.slot register)
  first_window register bars rom lowest =
      first_of_decoding f (WindowMask f.slot register) (2 ∷ register ∷ []) refl (λ j xs h is. window_before register j xs bars rom lowest h is)

-- ---- the list

two_numbers : (a b c d : ℕ) → precedes (a ∷ b ∷ []) (c ∷ d ∷ []) ≡ true → (a < c) ⊎ ((a ≡ c) × (b < d))
two_numbers a b c d h = elim (precedes-cases a c (b ∷ []) (d ∷ []) h) [
  | inl less ↦ inl less
  | inr (same, rest) ↦ inr (same, one_number b d [] rest)
]

-- a fault of a walk's step up to which it is a chain's
record IsStep (image : List ℕ) (n place step kind : ℕ) : Type 0 where
  up_to : IsChainUpTo image n
  here : pointer image n ≡ place
  soon : step ≤ n
  some_kind : kind ≤ 2
  high : 0 < kind → 0x40 ≤ place
  fresh : 1 < kind → (k : ℕ) → k < n → pointer image k ≢ place

module _ (image : List ℕ) (n place step kind : ℕ) (at : IsStep image n place step kind) where
  few : n ≤ 48
  few = places-at_most_48 image n at.up_to.in_range at.up_to.distinct

  -- a key before this one has an earlier step, or the same and an earlier kind
  not_later : (m k : ℕ) → precedes (m ∷ k ∷ []) (step ∷ kind ∷ []) ≡ true → (m < n) ⊎ ((m ≡ n) × (k < kind))
  not_later m k h =
      let soon = at.soon in
      elim (two_numbers m k step kind h) [
        | inl less ↦ inl (omega (arith, less, soon))
        | inr (same, lower) ↦ elim (cases_lt m n) [
          | inl before ↦ inl before
          | inr not_before ↦ inr (omega (arith, same, soon, not_before), lower)
        ]
      ]

  not_low : (q : ℕ) → HasLowPlace image q → precedes (step_after 0 image q ∷ 0 ∷ []) (step ∷ kind ∷ []) ≡ true → ⊥
  not_low q low h = elim (step_is 0 image q) [
    | inl never ↦ elim (not_later (step_after 0 image q) 0 h) [
      | inl before ↦ let no : ⊥ = omega (arith, never, before, few) in no
      | inr (same, lower) ↦ let no : ⊥ = omega (arith, never, same, few) in no
    ]
    | inr is ↦ elim (not_later (step_after 0 image q) 0 h) [
      | inl before ↦ let range = (at.up_to.in_range (step_after 0 image q) before).0 in let small = low.1 in let no : ⊥ = omega (arith, range, small, is) in no
      | inr (same, lower) ↦
          let high = at.high lower in
          let there : q ≡ place = sym is ∙ ap (pointer image) same ∙ at.here in
          let small = low.1 in
          let no : ⊥ = omega (arith, high, small, there) in no
    ]
  ]

  not_twice : (q : ℕ) → ComesTwiceTo image q → precedes (step_after 1 image q ∷ 1 ∷ []) (step ∷ kind ∷ []) ≡ true → ⊥
  not_twice q twice h = elim (not_later (step_after 1 image q) 1 h) [
    | inl before ↦ elim (step_again image q) [
      | inl never ↦ let no : ⊥ = omega (arith, never, before, few) in no
      | inr (m, less, first) ↦ elim (step_is 1 image q) [
        | inl never ↦ let no : ⊥ = omega (arith, never, before, few) in no
        | inr is ↦ at.up_to.distinct m (step_after 1 image q) less before (first ∙ sym is)
      ]
    ]
    | inr (same, lower) ↦ elim (step_again image q) [
      | inl never ↦ let no : ⊥ = omega (arith, never, same, few) in no
      | inr (m, less, first) ↦ elim (step_is 1 image q) [
        | inl never ↦ let no : ⊥ = omega (arith, never, same, few) in no
        | inr is ↦ at.fresh lower m (omega (arith, less, same)) (first ∙ sym is ∙ ap (pointer image) same ∙ at.here)
      ]
    ]
  ]

  not_cut : (q : ℕ) → HasCutBody image q → precedes (step_after 0 image q ∷ 2 ∷ []) (step ∷ kind ∷ []) ≡ true → ⊥
  not_cut q cut h = elim (not_later (step_after 0 image q) 2 h) [
    | inl before ↦ elim (step_is 0 image q) [
      | inl never ↦ let no : ⊥ = omega (arith, never, before, few) in no
      | inr is ↦
          let body : q + body_length image q ≤ 256 = subst (λ p. p + body_length image p ≤ 256) is (at.up_to.bodies (step_after 0 image q) before) in
          let long = cut.1 in
          let no : ⊥ = omega (arith, body, long) in no
    ]
    | inr (same, lower) ↦ let most = at.some_kind in let no : ⊥ = omega (arith, lower, most) in no
  ]

  walk_before : (xs : List ℕ) → WalkIs image xs → precedes xs (step ∷ kind ∷ []) ≡ true → ⊥
  walk_before xs (q, is) h = elim is [
    | inl (same, low) ↦ not_low q low (subst (λ k. precedes k (step ∷ kind ∷ []) ≡ true) same h)
    | inr (inl (same, twice)) ↦ not_twice q twice (subst (λ k. precedes k (step ∷ kind ∷ []) ≡ true) same h)
    | inr (inr (same, cut)) ↦ not_cut q cut (subst (λ k. precedes k (step ∷ kind ∷ []) ≡ true) same h)
  ]

-- nothing is wrong with the registers
pub record AreRegistersFine (f : Function) : Type 0 where
  pub bars : AreBarsFine f
  pub rom : breaks_rom_rule f.image f.probe ≡ false
  pub windows : (kind : WindowKind) → layout f.image ≡ 1 → breaks_window_rule kind f.image f.probe ≡ false

list_before : (f : Function) (n place step kind j : ℕ) (xs : List ℕ) → AreRegistersFine f → IsStep f.image n place step kind
    → precedes (j ∷ xs) (3 ∷ step ∷ kind ∷ []) ≡ true → DecodingIs f j xs → ⊥
list_before f n place step kind zero xs fine at h (m, same, below, is) = is (fine.bars m below)
list_before f n place step kind (suc zero) xs fine at h is = both_ways _ fine.rom is
list_before f n place step kind (suc (suc zero)) xs fine at h (window, same, bridge, is) = both_ways _ (fine.windows window (eqb-true _ _ bridge)) is
list_before f n place step kind (suc (suc (suc j))) xs fine at h is = elim (precedes-cases (suc (suc (suc j))) 3 xs (step ∷ kind ∷ []) h) [
  | inl less ↦ let no : ⊥ = omega (arith, less) in no
  | inr (number, rest) ↦ walk_before f.image n place step kind at xs is rest
]

first_of_list : (f : Function) (e : Fault) (n place step kind : ℕ) → looking_key (λ slot. f.image) e ≡ 2 ∷ slot_key f.slot ++ 3 ∷ step ∷ kind ∷ []
    → AreRegistersFine f → IsStep f.image n place step kind → IsFirstOf 2 f e
first_of_list f e n place step kind key fine at = first_of_decoding f e (3 ∷ step ∷ kind ∷ []) key (λ j xs h is. list_before f n place step kind j xs fine at h is)

few_steps : (image : List ℕ) (n : ℕ) → IsChainUpTo image n → n < longest_walk + 1
few_steps image n up_to = let few = places-at_most_48 image n up_to.in_range up_to.distinct in omega (arith, few)

range_step : (image : List ℕ) (n place : ℕ) → IsChainUpTo image n → pointer image n ≡ place → IsStep image n place (step_after 0 image place) 0
range_step image n place up_to here = record {
  up_to = up_to;
  here = here;
  soon = met_by image place n (few_steps image n up_to) here;
  some_kind = omega arith;
  high = λ more. absurd (let no : ⊥ = omega (arith, more) in no);
  fresh = λ more. absurd (let no : ⊥ = omega (arith, more) in no);
}

cut_step : (image : List ℕ) (n place : ℕ) → IsChainUpTo image n → pointer image n ≡ place → 0x40 ≤ place → ((k : ℕ) → k < n → pointer image k ≢ place)
    → IsStep image n place (step_after 0 image place) 2
cut_step image n place up_to here high fresh = record {
  up_to = up_to;
  here = here;
  soon = met_by image place n (few_steps image n up_to) here;
  some_kind = omega arith;
  high = λ more. high;
  fresh = λ more. fresh;
}

loop_step : (image : List ℕ) (m n place : ℕ) → IsChainUpTo image n → m < n → pointer image m ≡ place → pointer image n ≡ place → 0x40 ≤ place
    → IsStep image n place (step_after 1 image place) 1
loop_step image m n place up_to less before here high = record {
  up_to = up_to;
  here = here;
  soon = met_again_by image place m n less (few_steps image n up_to) before here;
  some_kind = omega arith;
  high = λ more. high;
  fresh = λ more. absurd (let no : ⊥ = omega (arith, more) in no);
}

pub first_cap_range : (f : Function) (n place : ℕ) → AreRegistersFine f → IsChainUpTo f.image n → pointer f.image n ≡ place → IsFirstOf 2 f (CapRange f.slot place)
first_cap_range f n place fine up_to here =
    first_of_list f (CapRange f.slot place) n place (step_after 0 f.image place) 0 refl fine (range_step f.image n place up_to here)

pub first_cap_cut : (f : Function) (n place : ℕ) → AreRegistersFine f → IsChainUpTo f.image n → pointer f.image n ≡ place → 0x40 ≤ place
    → ((k : ℕ) → k < n → pointer f.image k ≢ place) → IsFirstOf 2 f (CapCut f.slot place)
first_cap_cut f n place fine up_to here high fresh =
    first_of_list f (CapCut f.slot place) n place (step_after 0 f.image place) 2 refl fine (cut_step f.image n place up_to here high fresh)

pub first_cap_loop : (f : Function) (m n place : ℕ) → AreRegistersFine f → IsChainUpTo f.image n → m < n → pointer f.image m ≡ place → pointer f.image n ≡ place → 0x40 ≤ place
    → IsFirstOf 2 f (CapLoop f.slot place)
first_cap_loop f m n place fine up_to less before here high =
    first_of_list f (CapLoop f.slot place) n place (step_after 1 f.image place) 1 refl fine (loop_step f.image m n place up_to less before here high)

-- whatever its registers are, none of the list is before the first along it, which the walk comes to among the first 48 steps
pub record IsFirstStep (image : List ℕ) (step kind : ℕ) : Type 0 where
  pub soon : step ≤ 48
  pub first : (xs : List ℕ) → WalkIs image xs → precedes xs (step ∷ kind ∷ []) ≡ true → ⊥

first_step : (image : List ℕ) (n place step kind : ℕ) → IsStep image n place step kind → IsFirstStep image step kind
first_step image n place step kind at = record {
  soon = (let soon = at.soon in let most = few image n place step kind at in omega (arith, soon, most));
  first = λ xs is before. walk_before image n place step kind at xs is before;
}

pub first_range : (image : List ℕ) (place : ℕ) → IsFirstAlong image (images.CapRange place) → IsFirstStep image (step_after 0 image place) 0
first_range image place (n, up_to, here) = first_step image n place (step_after 0 image place) 0 (range_step image n place up_to here)

pub first_loop : (image : List ℕ) (place : ℕ) → IsFirstAlong image (images.CapLoop place) → IsFirstStep image (step_after 1 image place) 1
first_loop image place (m, n, less, up_to, before, here, high) = first_step image n place (step_after 1 image place) 1 (loop_step image m n place up_to less before here high)

pub first_cut : (image : List ℕ) (place : ℕ) → IsFirstAlong image (images.CapCut place) → IsFirstStep image (step_after 0 image place) 2
first_cut image place (n, up_to, here, high, fresh) = first_step image n place (step_after 0 image place) 2 (cut_step image n place up_to here high fresh)

-- ---- faults of an image

first_no_vendor : (f : Function) → IsFirstOf 2 f (NoVendor f.slot)
first_no_vendor f = first_of_earlier f (NoVendor f.slot) 1 (0 ∷ []) (omega arith) refl

first_header_kind : (f : Function) → IsFirstOf 2 f (HeaderKind f.slot)
first_header_kind f = first_of_earlier f (HeaderKind f.slot) 1 (1 ∷ []) (omega arith) refl

pub first_of_bars : (f : Function) (fault : ImageFault) → IsLowestBarFault f.image f.probe fault → IsFirstOf 2 f (image_fault_at f.slot fault)
first_of_bars f images.NoVendor is = first_no_vendor f
first_of_bars f images.HeaderKind is = first_header_kind f
first_of_bars f (images.BarType register) is = first_bar f (BarType f.slot register) register refl is
first_of_bars f (images.BarMask register) is = first_bar f (BarMask f.slot register) register refl is
first_of_bars f (images.BarPair register) is = first_bar f (BarPair f.slot register) register refl is
first_of_bars f (images.RomMask register) is = absurd is
first_of_bars f (images.WindowMask register) is = absurd is
first_of_bars f (images.CapRange place) is = absurd is
first_of_bars f (images.CapLoop place) is = absurd is
first_of_bars f (images.CapCut place) is = absurd is

pub first_of_rom : (f : Function) (fault : ImageFault) → AreBarsFine f → IsTrue (is_rom_fault fault) → IsFirstOf 2 f (image_fault_at f.slot fault)
first_of_rom f images.NoVendor bars is = first_no_vendor f
first_of_rom f images.HeaderKind bars is = first_header_kind f
first_of_rom f (images.RomMask register) bars is = first_rom f register bars
first_of_rom f (images.BarType register) bars is = absurd (both_ways false refl is)
first_of_rom f (images.BarMask register) bars is = absurd (both_ways false refl is)
first_of_rom f (images.BarPair register) bars is = absurd (both_ways false refl is)
first_of_rom f (images.WindowMask register) bars is = absurd (both_ways false refl is)
first_of_rom f (images.CapRange place) bars is = absurd (both_ways false refl is)
first_of_rom f (images.CapLoop place) bars is = absurd (both_ways false refl is)
first_of_rom f (images.CapCut place) bars is = absurd (both_ways false refl is)

pub first_of_windows : (f : Function) (fault : ImageFault) → AreBarsFine f → breaks_rom_rule f.image f.probe ≡ false → IsLowestWindowFault f.image f.probe fault
    → IsFirstOf 2 f (image_fault_at f.slot fault)
first_of_windows f images.NoVendor bars rom is = first_no_vendor f
first_of_windows f images.HeaderKind bars rom is = first_header_kind f
first_of_windows f (images.WindowMask register) bars rom is = first_window f register bars rom is
first_of_windows f (images.BarType register) bars rom is = absurd is
first_of_windows f (images.BarMask register) bars rom is = absurd is
first_of_windows f (images.BarPair register) bars rom is = absurd is
first_of_windows f (images.RomMask register) bars rom is = absurd is
first_of_windows f (images.CapRange place) bars rom is = absurd is
first_of_windows f (images.CapLoop place) bars rom is = absurd is
first_of_windows f (images.CapCut place) bars rom is = absurd is

pub first_of_chain : (f : Function) (fault : ImageFault) → AreRegistersFine f → IsFirstAlong f.image fault → IsFirstOf 2 f (image_fault_at f.slot fault)
first_of_chain f (images.CapRange place) fine (n, up_to, here) = first_cap_range f n place fine up_to here
first_of_chain f (images.CapLoop place) fine (m, n, less, up_to, before, here, high) = first_cap_loop f m n place fine up_to less before here high
first_of_chain f (images.CapCut place) fine (n, up_to, here, high, fresh) = first_cap_cut f n place fine up_to here high fresh
first_of_chain f images.NoVendor fine is = absurd is
first_of_chain f images.HeaderKind fine is = absurd is
first_of_chain f (images.BarType register) fine is = absurd is
first_of_chain f (images.BarMask register) fine is = absurd is
first_of_chain f (images.BarPair register) fine is = absurd is
first_of_chain f (images.RomMask register) fine is = absurd is
first_of_chain f (images.WindowMask register) fine is = absurd is
