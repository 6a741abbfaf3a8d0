-- The line of a function's capabilities list: the first fault along it.
use Rattle.std.proofs.Common.{◌≡◌, length, ℕ, zero, suc, ◌≤◌, List, [], ◌∷◌, ◌++◌, refl, true, inl, inr, arith, sym, ◌∙◌, ap, subst, Option, None, Some}
use Rattle.std.specs.Prelude.{MatchOption, slice_index_or}
use Rattle.pci_spec.specs.Slot.{Slot}
use Rattle.pci_spec.specs.Capability.{pointer, HasChain}
use Rattle.pci_spec.specs.System.{Function}
use Rattle.pci_spec.specs.Fault.{Fault, CapRange, CapLoop, CapCut}
use Rattle.pci_spec.specs.Order.{precedes, slot_key, phase_of, is_before, step_after}
use Rattle.pci_spec.specs.FaultLines.{subject}
use Rattle.pci_spec.proofs.Looking.{step_is}
use Rattle.pci_spec.proofs.Regions.{precedes-cases}
use Rattle.pci_spec.proofs.Walks.{chain-no_low_place, chain-no_loop, chain-no_cut_body}
use Rattle.pci_image.specs.declared.fault.ImageFault.{ImageFault}
use Rattle.pci_image.specs.declared.fault.ImageFault.TheVariants as images
use Rattle.pci_image.specs.Caps.{IsChainFaultIn, IsFirstAlong}
use Rattle.pci_function.specs.declared.fault.Fault.{Fault as FaultOfCode}
use Rattle.pci_function.specs.Fault.{fault_of, image_fault_at}
use Rattle.pci_function.specs.Profile.{IsHere}
use Rattle.pci_function.proofs.FirstDecoded.{WalkIs, IsFirstStep, first_range, first_loop, first_cut}
use Rattle.pci_function.proofs.FirstHere.{rest_of, key_is, before_here}
use Rattle.pci_faults.specs.OwnLines.{IsOwnLine}
use Rattle.pci_faults.specs.Registers.{IsListTold}
use Rattle.pci_faults.proofs.Keys.{same_phase, one_rest}
use Rattle.pci_faults.proofs.Lists.{IsOnly}
use Rattle.pci_faults.proofs.OfRegisters.{place_of, IsAt, list_check}

-- ---- faults of a list by kind and place

abbrev list_fault_at : ℕ → Slot → ℕ → Fault
list_fault_at zero slot place = CapRange slot place
list_fault_at (suc zero) slot place = CapLoop slot place
list_fault_at (suc (suc k)) slot place = CapCut slot place

abbrev times_of : ℕ → ℕ
times_of zero = 0
times_of (suc zero) = 1
times_of (suc (suc k)) = 0

record IsListOwn (f : Function) (e : Fault) : Type 0 where
  kind : ℕ
  place : ℕ
  is : e ≡ list_fault_at kind f.slot place
  key : rest_of f e ≡ 3 ∷ step_after (times_of kind) f.image place ∷ kind ∷ []
  walk : WalkIs f.image (step_after (times_of kind) f.image place ∷ kind ∷ [])

-- a fault with the subject of lists is one
list_own : (f : Function) (e : Fault) → slice_index_or (subject e) 0 0 ≡ 2 → slice_index_or (subject e) 4 0 ≡ 3 → IsHere f e → IsListOwn f e
list_own f (CapRange slot place) phase check (at, is) = record { kind = 0; place = place; is = ap (λ t. CapRange t place) at; key = refl; walk = (place, inl (refl, is)) }
list_own f (CapLoop slot place) phase check (at, is) = record { kind = 1; place = place; is = ap (λ t. CapLoop t place) at; key = refl; walk = (place, inr (inl (refl, is))) }
list_own f (CapCut slot place) phase check (at, is) = record { kind = 2; place = place; is = ap (λ t. CapCut t place) at; key = refl; walk = (place, inr (inr (refl, is))) }
list_own f _ phase check is = absurd (let no : ⊥ = omega (arith, phase, check) in no)

list_subject : (f : Function) (e : Fault) (x : IsListOwn f e) → subject e ≡ 2 ∷ slot_key f.slot ++ 3 ∷ []
list_subject f e x = ap subject x.is ∙ of_kind x.kind x.place
  where
    of_kind : (kind place : ℕ) → subject (list_fault_at kind f.slot place) ≡ 2 ∷ slot_key f.slot ++ 3 ∷ []
    of_kind zero place = refl
    of_kind (suc zero) place = refl
    of_kind (suc (suc k)) place = refl

-- the place that is met at a step
place_at : (times : ℕ) (image : List ℕ) (place : ℕ) → step_after times image place ≤ 48 → pointer image (step_after times image place) ≡ place
place_at times image place soon = elim (step_is times image place) [
  | inl never ↦ absurd (let no : ⊥ = omega (arith, never, soon) in no)
  | inr is ↦ is
]

-- another line of the list is the same
one_of_list : (f : Function) (x e : Fault) → IsOwnLine 2 f x → IsOwnLine 2 f e → (first : IsListOwn f x) → IsListOwn f e → step_after (times_of first.kind) f.image first.place ≤ 48 → e ≡ x
one_of_list f x e own own_e first is soon =
    let same_at = one_rest 2 f e x own_e own (list_subject f e is ∙ sym (list_subject f x first)) in
    let long = ap length is.key in
    let long_x = ap length first.key in
    let steps = sym (ap (λ k. slice_index_or k 1 0) is.key) ∙ same_at 1 (omega (arith, long)) (omega (arith, long_x)) ∙ ap (λ k. slice_index_or k 1 0) first.key in
    let kinds = sym (ap (λ k. slice_index_or k 2 0) is.key) ∙ same_at 2 (omega (arith, long)) (omega (arith, long_x)) ∙ ap (λ k. slice_index_or k 2 0) first.key in
    let places : is.place ≡ first.place =
    sym (place_at (times_of is.kind) f.image is.place (omega (arith, steps, soon))) ∙ ap (pointer f.image) steps ∙ place_at (times_of first.kind) f.image first.place soon in
    is.is ∙ ap (λ k. list_fault_at k f.slot is.place) kinds ∙ ap (list_fault_at first.kind f.slot) places ∙ sym first.is

-- none of the list's subject is looked for before the first along it
none_of_list : (f : Function) (x other : Fault) (first : IsListOwn f x) → IsHere f x → phase_of x ≡ 2 → IsFirstStep f.image (step_after (times_of first.kind) f.image first.place) first.kind
    → subject other ≡ subject x → is_before (λ slot. f.image) other x ≡ true → IsHere f other → ⊥
none_of_list f x other first here phase step same before there =
    let subjects = same ∙ list_subject f x first in
    let is = list_own f other (ap (λ k. slice_index_or k 0 0) subjects) (ap (λ k. slice_index_or k 4 0) subjects) there in
    let s = step_after (times_of is.kind) f.image is.place in
    let t = step_after (times_of first.kind) f.image first.place in
    elim (before_here f other x (phase_of x) (rest_of f x) there (key_is f x here) before) [
      | inl less ↦ (let e = same_phase other x same in omega (arith, less, e))
      | inr (at, rest) ↦
          elim (precedes-cases 3 3 (s ∷ is.kind ∷ []) (t ∷ first.kind ∷ [])
          (subst (λ k. precedes k (3 ∷ t ∷ first.kind ∷ []) ≡ true) is.key (subst (λ k. precedes (rest_of f other) k ≡ true) first.key rest))) [
            | inl less ↦ omega (arith, less)
            | inr (three, later) ↦ step.first (s ∷ is.kind ∷ []) is.walk later
          ]
    ]

record IsListLine (f : Function) (x : Fault) : Type 0 where
  own : IsOwnLine 2 f x
  first : IsListOwn f x
  step : IsFirstStep f.image (step_after (times_of first.kind) f.image first.place) first.kind
  place : place_of x ≡ 10

list_line_of : (f : Function) (x : Fault) (first : IsListOwn f x) → IsHere f x → phase_of x ≡ 2 → place_of x ≡ 10 → IsFirstStep f.image (step_after (times_of first.kind) f.image first.place) first.kind → IsListLine f x
list_line_of f x first here phase place step = record {
  own = record { here = here; phase_is = phase; first = λ other same before there. none_of_list f x other first here phase step same before there };
  first = first;
  step = step;
  place = place;
}

list_line : (f : Function) (fault : ImageFault) → IsChainFaultIn f.image fault → IsFirstAlong f.image fault → IsListLine f (image_fault_at f.slot fault)
unfolding list_own
list_line f (images.CapRange place) is along =
    list_line_of f (CapRange f.slot place) (list_own f (CapRange f.slot place) refl refl (refl, is)) (refl, is) refl refl (first_range f.image place along)
list_line f (images.CapLoop place) is along =
    list_line_of f (CapLoop f.slot place) (list_own f (CapLoop f.slot place) refl refl (refl, is)) (refl, is) refl refl (first_loop f.image place along)
list_line f (images.CapCut place) is along =
    list_line_of f (CapCut f.slot place) (list_own f (CapCut f.slot place) refl refl (refl, is)) (refl, is) refl refl (first_cut f.image place along)
list_line f _ is along = absurd is

-- a fault at the list's place is one of the list
at_list : (f : Function) (e : Fault) → IsAt f 10 e → IsListOwn f e
at_list f e is = let check = list_check f e is in list_by_check f e is.0.phase_is check is.0.here
  where
    list_by_check : (g : Function) (e : Fault) → phase_of e ≡ 2 → slice_index_or (rest_of g e) 0 0 ≡ 3 → IsHere g e → IsListOwn g e
    list_by_check g (CapRange slot place) phase check is = list_own g (CapRange slot place) refl refl is
    list_by_check g (CapLoop slot place) phase check is = list_own g (CapLoop slot place) refl refl is
    list_by_check g (CapCut slot place) phase check is = list_own g (CapCut slot place) refl refl is
    list_by_check g _ phase check is = absurd (let no : ⊥ = omega (arith, phase, check) in no)

chain_has_none : (f : Function) (e : Fault) → HasChain f.image → IsListOwn f e → IsHere f e → ⊥
chain_has_none f e chain x here = of_kind x.kind x.place (subst (IsHere f) x.is here)
  where
    of_kind : (kind place : ℕ) → IsHere f (list_fault_at kind f.slot place) → ⊥
    of_kind zero place is = chain-no_low_place f.image place chain is.1
    of_kind (suc zero) place is = chain-no_loop f.image place chain is.1
    of_kind (suc (suc k)) place is = chain-no_cut_body f.image place chain is.1

pub list_only : (f : Function) (o : Option FaultOfCode) → MatchOption o (HasChain f.image) (λ x. IsListTold f.slot f.image (fault_of x)) → IsOnly (IsAt f 10) o
list_only f None chain = λ e is. chain_has_none f e chain (at_list f e is) is.0.here
list_only f (Some x) told =
    let line : IsListLine f (fault_of x) = subst (IsListLine f) (sym told.1) (list_line f told.0 told.2 told.3) in
    ((line.own, line.place), λ e is. one_of_list f (fault_of x) e line.own is.0 line.first (at_list f e is) line.step.soon)
