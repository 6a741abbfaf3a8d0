-- The first fault of a function by itself.
use Rattle.std.proofs.Common.{◌≡◌, ℕ, refl, arith, sym, subst}
use Rattle.pci_spec.specs.Capability.{HasChain}
use Rattle.pci_spec.specs.System.{Function}
use Rattle.pci_spec.specs.Decoded.{IsDecodable}
use Rattle.pci_spec.specs.Fault.{Fault}
use Rattle.pci_spec.specs.Order.{phase_of}
use Rattle.pci_image.specs.declared.fault.ImageFault.{ImageFault}
use Rattle.pci_image.specs.declared.fault.ImageFault.TheVariants.{NoVendor, HeaderKind, BarType, BarMask, BarPair, RomMask, WindowMask, CapRange, CapLoop, CapCut}
use Rattle.std.proofs.lemmas.Bool.{both_ways}
use Rattle.pci_image.specs.Caps.{IsChainFaultIn}
use Rattle.pci_image.specs.Faults.{IsImageFaultIn}
use Rattle.pci_function.specs.Profile.{IsAnswering, IsHere, IsHereIn, IsClearBefore, IsFirstOf, IsFirstFault}
use Rattle.pci_function.specs.Fault.{image_fault_at}

-- before its identity is looked at, nothing is wrong
pub clear_1 : (f : Function) → IsClearBefore 1 f
clear_1 f = record {
  answers = λ lt. absurd (let no : ⊥ = omega (arith, lt) in no);
  registers = λ lt. absurd (let no : ⊥ = omega (arith, lt) in no);
  profile = λ lt. absurd (let no : ⊥ = omega (arith, lt) in no);
}

-- then its registers
pub clear_2 : (f : Function) → IsAnswering f → IsClearBefore 2 f
clear_2 f a = record {
  answers = λ lt. a;
  registers = λ lt. absurd (let no : ⊥ = omega (arith, lt) in no);
  profile = λ lt. absurd (let no : ⊥ = omega (arith, lt) in no);
}

-- then its profile
pub clear_3 : (f : Function) → IsAnswering f → IsDecodable f → HasChain f.image → IsClearBefore 3 f
clear_3 f a d c = record {
  answers = λ lt. a;
  registers = λ lt. (d, c);
  profile = λ lt. absurd (let no : ⊥ = omega (arith, lt) in no);
}

-- a fault of a phase up to which nothing is wrong is the first
pub first_fault_of : (phase : ℕ) (f : Function) (e : Fault) → IsClearBefore phase f → IsHereIn phase f e → IsFirstOf phase f e → IsFirstFault f e
first_fault_of phase f e clear is first = record {
  here = is.here;
  clear = subst (λ n. IsClearBefore n f) (sym is.phase_is) clear;
  first = subst (λ n. IsFirstOf n f e) (sym is.phase_is) first;
}

-- a fault of an image is one of the function
pub image_here : (f : Function) (fault : ImageFault) → IsImageFaultIn f.image f.probe fault → IsHere f (image_fault_at f.slot fault)
image_here f NoVendor is = (refl, is)
image_here f HeaderKind is = (refl, is)
image_here f (BarType register) is = (refl, is)
image_here f (BarMask register) is = (refl, is)
image_here f (BarPair register) is = (refl, is)
image_here f (RomMask register) is = (refl, is)
image_here f (WindowMask register) is = (refl, is)
image_here f (CapRange place) is = (refl, is)
image_here f (CapLoop place) is = (refl, is)
image_here f (CapCut place) is = (refl, is)

-- of a function that answers it is one of decoding
pub image_phase : (f : Function) (fault : ImageFault) → IsAnswering f → IsImageFaultIn f.image f.probe fault → phase_of (image_fault_at f.slot fault) ≡ 2
image_phase f NoVendor a is = absurd (both_ways _ a.vendor is)
image_phase f HeaderKind a is = absurd (both_ways _ a.header is)
image_phase f _ a is = refl

-- so is one of a list
pub chain_fault : (f : Function) (fault : ImageFault) → IsChainFaultIn f.image fault → IsImageFaultIn f.image f.probe fault
chain_fault f (CapRange place) is = is
chain_fault f (CapLoop place) is = is
chain_fault f (CapCut place) is = is
chain_fault f _ is = absurd is

-- it is its first, where none of decoding is looked for before it
pub first_of_image : (f : Function) (fault : ImageFault) → IsAnswering f → IsImageFaultIn f.image f.probe fault → IsFirstOf 2 f (image_fault_at f.slot fault)
    → IsFirstFault f (image_fault_at f.slot fault)
first_of_image f fault a is first =
    first_fault_of 2 f (image_fault_at f.slot fault) (clear_2 f a) record { here = image_here f fault is; phase_is = image_phase f fault a is } first
