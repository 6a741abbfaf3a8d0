-- The lines of a function's profile.
use Rattle.std.proofs.Common.{◌≡◌, ℕ, ◌<◌, List, get_or, length, refl, Bool, arith, sym, ◌∙◌, ap, subst, Option, None}
use Rattle.std.specs.Prelude.{IsTrue, ◌↔◌}
use Rattle.std.specs.Bool.{then_some}
use Rattle.pci_spec.specs.System.{Function}
use Rattle.pci_spec.specs.Fault.{Fault, ProfileFault, profile_key, HasProfileFault, CapRange, CapLoop, CapCut, OfProfile}
use Rattle.pci_spec.specs.Order.{phase_of}
use Rattle.pci_spec.proofs.ProfileFaults.{in_order, fault_at, at_its_key, key_within, key_at}
use Rattle.pci_function.specs.declared.fault.Fault.{Fault as FaultOfCode}
use Rattle.pci_function.specs.Fault.{fault_of}
use Rattle.pci_function.specs.Profile.{IsHere}
use Rattle.pci_image.specs.declared.fault.ImageFault.{ImageFault}
use Rattle.pci_image.specs.declared.fault.ImageFault.TheVariants as images
use Rattle.pci_image.specs.Caps.{IsChainFaultIn}
use Rattle.pci_faults.specs.OwnLines.{HasNoneBefore, IsOwnLine, IsBeforeIn, AreOwnLines}
use Rattle.pci_faults.proofs.Checks.{check_of, check_rises, late_alone, only_if}
use Rattle.pci_faults.proofs.Lists.{IsOnly, told_by_place}

-- a list that doesn't end is a fault of decoding
pub list_ended : (f : Function) (fault : ImageFault) → HasNoneBefore 3 f → IsChainFaultIn f.image fault → ⊥
list_ended f (images.CapRange place) none is = none (CapRange f.slot place) (omega arith) (refl, is)
list_ended f (images.CapLoop place) none is = none (CapLoop f.slot place) (omega arith) (refl, is)
list_ended f (images.CapCut place) none is = none (CapCut f.slot place) (omega arith) (refl, is)
list_ended f _ none is = absurd is

-- each fault of a profile is a line
own_profile : (f : Function) (e : Fault) → phase_of e ≡ 3 → IsHere f e → IsOwnLine 3 f e
own_profile f e phase here = record {
  here = here;
  phase_is = phase;
  first = λ other same before there. late_alone (λ slot. f.image) other e (omega (arith, phase)) same before;
}

-- the fault of a line, by its key
record IsProfileLine (f : Function) (e : Fault) : Type 0 where
  fault : ProfileFault
  is : e ≡ OfProfile fault f.slot
  key : check_of f e ≡ profile_key fault
  there : HasProfileFault f.image fault

profile_is : (f : Function) (e : Fault) → IsOwnLine 3 f e → IsProfileLine f e
profile_is f (OfProfile fault slot) own = record { fault = fault; is = ap (OfProfile fault) own.here.0; key = refl; there = own.here.1 }
profile_is f _ own = absurd (let phase = own.phase_is in let no : ⊥ = omega (arith, phase) in no)

-- what is listed for a fault: the code's, where its test says so
pub record IsItem (f : Function) (fault : ProfileFault) (item : Option FaultOfCode) : Type 0 where
  pub test : Bool
  pub code : FaultOfCode
  pub is : item ≡ then_some test code
  pub named : fault_of code ≡ OfProfile fault f.slot
  pub tells : IsTrue test ↔ HasProfileFault f.image fault

module _ (f : Function) where
  abbrev IsAt : ℕ → Fault → Type 0
  IsAt k e = IsOwnLine 3 f e × (check_of f e ≡ k)

  own_at : (fault : ProfileFault) → HasProfileFault f.image fault → IsAt (profile_key fault) (OfProfile fault f.slot)
  own_at fault there = (own_profile f (OfProfile fault f.slot) refl (refl, there), refl)

  only_this : (fault : ProfileFault) (e : Fault) → IsAt (profile_key fault) e → (e ≡ OfProfile fault f.slot) × HasProfileFault f.image fault
  only_this fault e at =
      let line = profile_is f e at.0 in
      let same : line.fault ≡ fault = sym (at_its_key line.fault) ∙ ap fault_at (sym line.key ∙ at.1) ∙ at_its_key fault in
      (line.is ∙ ap (λ g. OfProfile g f.slot) same, subst (λ g. HasProfileFault f.image g) same line.there)

  only_item : (fault : ProfileFault) (item : Option FaultOfCode) → IsItem f fault item → IsOnly (IsAt (profile_key fault)) item
  only_item fault item i =
      subst (λ o. IsOnly (IsAt (profile_key fault)) o) (sym i.is)
      (only_if (IsAt (profile_key fault)) i.test i.code (λ is. subst (λ x. IsAt (profile_key fault) x) (sym i.named) (own_at fault (i.tells.0 is)))
      (λ e at. (let only = only_this fault e at in (only.0 ∙ sym i.named, i.tells.1 only.1))))

  -- one item for each fault, in their order, lists all of them
  pub profile_lines : (items : List (Option FaultOfCode)) → length items ≡ length in_order → ((fault : ProfileFault) → IsItem f fault (get_or items (profile_key fault) None)) → AreOwnLines 3 f items
  profile_lines items long each =
      told_by_place (IsBeforeIn f) (IsOwnLine 3 f) (check_of f) (λ a b is_a is_b less. check_rises 3 f a b is_a is_b less) items
      (λ e own. (let line = profile_is f e own in let key = line.key in let within = key_within line.fault in omega (arith, key, within, long)))
      (λ j less. (
      let within : j < length in_order = omega (arith, less, long) in
      subst (λ k. IsOnly (IsAt k) (get_or items k None)) (key_at j within) (only_item (fault_at j) (get_or items (profile_key (fault_at j)) None) (each (fault_at j)))
      ))
