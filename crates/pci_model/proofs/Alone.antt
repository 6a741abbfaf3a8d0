-- What is wrong with a function by itself, and what is so in the system that it makes alone.
use Rattle.std.proofs.Common.{◌≡◌, ℕ, zero, suc, ◌<◌, [], ◌∷◌, refl, arith, subst, lit<}
use Rattle.std.specs.List.{Contains}
use Rattle.pci_spec.specs.System.{Function}
use Rattle.pci_spec.specs.Fault.{Fault, CapRange, CapLoop, CapCut, IsIn}
use Rattle.pci_spec.specs.Order.{phase_of, Profile}
use Rattle.pci_function.specs.Profile.{IsHere, IsClearBefore}
use Rattle.pci_function.proofs.FirstIn.{in_here, here_in, here_not_clear}
use Rattle.pci_image.specs.declared.fault.ImageFault.{ImageFault}
use Rattle.pci_image.specs.declared.fault.ImageFault.TheVariants as images
use Rattle.pci_image.specs.Caps.{IsChainFaultIn}
use Rattle.judge_spec.specs.Taken.{HasNoOwnFaultBefore}

only_one : (f g : Function) → Contains (f ∷ []) g → f ≡ g
only_one f g (zero, less, is) = is
only_one f g (suc k, less, is) = absurd (omega (arith, less))

pub there_alone : (f : Function) (e : Fault) → IsHere f e → IsIn [] (f ∷ []) e
there_alone f e here = here_in [] (f ∷ []) f e (zero, lit< tt, refl) here

pub clear_alone : (n : ℕ) (f : Function) (e : Fault) → IsClearBefore n f → phase_of e < n → phase_of e < 4 → IsIn [] (f ∷ []) e → ⊥
clear_alone n f e clear low small is =
    let x = in_here [] (f ∷ []) e small is in
    here_not_clear x.g e n low (subst (λ g. IsClearBefore n g) (only_one f x.g x.has) clear) x.here

-- a list that doesn't end is a fault of decoding
pub list_ended : (f : Function) (fault : ImageFault) → HasNoOwnFaultBefore Profile f → IsChainFaultIn f.image fault → ⊥
list_ended f (images.CapRange place) none is = none (CapRange f.slot place) (omega arith) (there_alone f (CapRange f.slot place) (refl, is))
list_ended f (images.CapLoop place) none is = none (CapLoop f.slot place) (omega arith) (there_alone f (CapLoop f.slot place) (refl, is))
list_ended f (images.CapCut place) none is = none (CapCut f.slot place) (omega arith) (there_alone f (CapCut f.slot place) (refl, is))
list_ended f _ none is = absurd is
