-- The faults of one function by itself, in the order in which they are looked for.
use Rattle.std.proofs.Common.{◌≡◌, ◌⊎◌, ℕ, ◌<◌, List, [], ◌∷◌, ◌++◌, drop, refl, true, ◌∙◌, subst, ap}
use Rattle.pci_spec.specs.Slot.{Slot}
use Rattle.pci_spec.specs.System.{Function}
use Rattle.pci_spec.specs.Fault.{Fault, NoVendor, HeaderKind, BarType, BarMask, BarPair, RomMask, WindowMask, CapRange, CapLoop, CapCut, SlotsDiffer, StrayProbe, LoneFunction, OfProfile, BusRange, Orphan, Unreached, Clash, Split}
use Rattle.pci_spec.specs.Order.{precedes, slot_key, looking_key, phase_of, is_before, step_after}
use Rattle.pci_spec.proofs.Looking.{key_here}
use Rattle.pci_function.specs.Profile.{IsHere}

-- ---- keys of the faults of one function

-- what stands in a fault's key behind its phase and its slot
abbrev pub rest_of : Function → Fault → List ℕ
rest_of f fault = drop 4 (looking_key (λ slot. f.image) fault)

pub key_at : (image_of : Slot → List ℕ) (f : Function) (e : Fault) → IsHere f e → image_of f.slot ≡ f.image → looking_key image_of e ≡ phase_of e ∷ slot_key f.slot ++ rest_of f e
key_at image_of f (NoVendor slot) is same = ap (λ t. looking_key image_of (NoVendor t)) is.0
key_at image_of f (HeaderKind slot) is same = ap (λ t. looking_key image_of (HeaderKind t)) is.0
key_at image_of f (BarType slot register) is same = ap (λ t. looking_key image_of (BarType t register)) is.0
key_at image_of f (BarMask slot register) is same = ap (λ t. looking_key image_of (BarMask t register)) is.0
key_at image_of f (BarPair slot register) is same = ap (λ t. looking_key image_of (BarPair t register)) is.0
key_at image_of f (RomMask slot register) is same = ap (λ t. looking_key image_of (RomMask t register)) is.0
key_at image_of f (WindowMask slot register) is same = ap (λ t. looking_key image_of (WindowMask t register)) is.0
key_at image_of f (CapRange slot place) is same = ap (λ t. looking_key image_of (CapRange t place)) is.0 ∙ ap (λ image. 2 ∷ slot_key f.slot ++ 3 ∷ step_after 0 image place ∷ 0 ∷ []) same
key_at image_of f (CapLoop slot place) is same = ap (λ t. looking_key image_of (CapLoop t place)) is.0 ∙ ap (λ image. 2 ∷ slot_key f.slot ++ 3 ∷ step_after 1 image place ∷ 1 ∷ []) same
key_at image_of f (CapCut slot place) is same = ap (λ t. looking_key image_of (CapCut t place)) is.0 ∙ ap (λ image. 2 ∷ slot_key f.slot ++ 3 ∷ step_after 0 image place ∷ 2 ∷ []) same
key_at image_of f (SlotsDiffer slot) is same = absurd is
key_at image_of f (StrayProbe slot offset) is same = ap (λ t. looking_key image_of (StrayProbe t offset)) is.0
key_at image_of f (LoneFunction slot) is same = absurd is
key_at image_of f (OfProfile fault slot) is same = ap (λ t. looking_key image_of (OfProfile fault t)) is.0
key_at image_of f (BusRange slot) is same = absurd is
key_at image_of f (Orphan slot) is same = absurd is
key_at image_of f (Unreached slot register space address bridge) is same = absurd is
key_at image_of f (Clash bus space address first first_register second second_register) is same = absurd is
key_at image_of f (Split space address first first_register second second_register) is same = absurd is

-- by the function's own image
pub key_is : (f : Function) (e : Fault) → IsHere f e → looking_key (λ slot. f.image) e ≡ phase_of e ∷ slot_key f.slot ++ rest_of f e
key_is f e is = key_at (λ slot. f.image) f e is refl

-- of two faults the one that is looked for before is of an earlier phase, or of the same and its rest precedes
pub before_here : (f : Function) (other e : Fault) (p : ℕ) (ys : List ℕ) → IsHere f other → looking_key (λ slot. f.image) e ≡ p ∷ slot_key f.slot ++ ys → is_before (λ slot. f.image) other e ≡ true
    → (phase_of other < p) ⊎ ((phase_of other ≡ p) × (precedes (rest_of f other) ys ≡ true))
before_here f other e p ys is key h =
    key_here (phase_of other) p f.slot (rest_of f other) ys
    (subst (λ k. precedes k (p ∷ slot_key f.slot ++ ys) ≡ true) (key_is f other is) (subst (λ k. precedes (looking_key (λ slot. f.image) other) k ≡ true) key h))
