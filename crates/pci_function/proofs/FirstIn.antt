-- The first fault of a function by itself, among all faults of a system.
use Rattle.std.proofs.Common.{◌≡◌, ℕ, ◌<◌, ◌⊎◌, List, ◌∷◌, ◌++◌, take, length, get_or, true, inl, inr, arith, sym, ◌∙◌, subst, ap, Option, Some, None}
use Rattle.std.specs.List.{Contains}
use Rattle.std.proofs.lemmas.Bool.{both_ways, cases_order, eqb-true}
use Rattle.std.proofs.lemmas.List.{get_or_default, get_or-take, length-take-le}
use Rattle.pci_spec.specs.Slot.{slot_number}
use Rattle.pci_spec.specs.Bar.{BarFault}
use Rattle.pci_spec.specs.System.{System, Function, IsSystem}
use Rattle.pci_spec.specs.Fault.{Fault, NoVendor, HeaderKind, BarType, BarMask, BarPair, RomMask, WindowMask, CapRange, CapLoop, CapCut, SlotsDiffer, StrayProbe, LoneFunction, OfProfile, BusRange, Orphan, Unreached, Clash, Split, IsIn}
use Rattle.pci_spec.specs.Order.{precedes, slot_key, looking_key, phase_of, is_before, image_at}
use Rattle.pci_spec.proofs.Firsts.{slot_of}
use Rattle.pci_spec.proofs.Looking.{key_cases, phase_le, image_at_is}
use Rattle.pci_spec.proofs.Nesting.{earlier_is_lower, one_function}
use Rattle.pci_spec.proofs.ProfileFaults.{none_of_plain}
use Rattle.pci_spec.proofs.Walks.{chain-no_low_place, chain-no_loop, chain-no_cut_body}
use Rattle.pci_function.specs.Profile.{IsHere, IsClearBefore, IsFirstOf}
use Rattle.pci_function.proofs.FirstHere.{rest_of, key_at, key_is}

pub record IsHereAt (s : System) (other : Fault) : Type 0 where
  pub g : Function
  pub has : Contains s g
  pub here : IsHere g other

-- a fault before those of places is one of a function by itself
pub in_here : (roots : List ℕ) (s : System) (other : Fault) → phase_of other < 4 → IsIn roots s other → IsHereAt s other
in_here roots s (NoVendor slot) low (g, has, named, is) = record { g = g; has = has; here = (sym named, is) }
in_here roots s (HeaderKind slot) low (g, has, named, is) = record { g = g; has = has; here = (sym named, is) }
in_here roots s (BarType slot register) low (g, has, named, is) = record { g = g; has = has; here = (sym named, is) }
in_here roots s (BarMask slot register) low (g, has, named, is) = record { g = g; has = has; here = (sym named, is) }
in_here roots s (BarPair slot register) low (g, has, named, is) = record { g = g; has = has; here = (sym named, is) }
in_here roots s (RomMask slot register) low (g, has, named, is) = record { g = g; has = has; here = (sym named, is) }
in_here roots s (WindowMask slot register) low (g, has, named, is) = record { g = g; has = has; here = (sym named, is) }
in_here roots s (CapRange slot place) low (g, has, named, is) = record { g = g; has = has; here = (sym named, is) }
in_here roots s (CapLoop slot place) low (g, has, named, is) = record { g = g; has = has; here = (sym named, is) }
in_here roots s (CapCut slot place) low (g, has, named, is) = record { g = g; has = has; here = (sym named, is) }
in_here roots s (SlotsDiffer slot) low is = absurd is
in_here roots s (StrayProbe slot offset) low (g, has, named, is) = record { g = g; has = has; here = (sym named, is) }
in_here roots s (LoneFunction slot) low is = absurd (let no : ⊥ = omega (arith, low) in no)
in_here roots s (OfProfile fault slot) low (g, has, named, is) = record { g = g; has = has; here = (sym named, is) }
in_here roots s (BusRange slot) low is = absurd (let no : ⊥ = omega (arith, low) in no)
in_here roots s (Orphan slot) low is = absurd (let no : ⊥ = omega (arith, low) in no)
in_here roots s (Unreached slot register space address bridge) low is = absurd (let no : ⊥ = omega (arith, low) in no)
in_here roots s (Clash bus space address first first_register second second_register) low is = absurd (let no : ⊥ = omega (arith, low) in no)
in_here roots s (Split space address first first_register second second_register) low is = absurd (let no : ⊥ = omega (arith, low) in no)

-- and back
pub here_in : (roots : List ℕ) (s : System) (f : Function) (e : Fault) → Contains s f → IsHere f e → IsIn roots s e
here_in roots s f (NoVendor slot) has is = (f, has, sym is.0, is.1)
here_in roots s f (HeaderKind slot) has is = (f, has, sym is.0, is.1)
here_in roots s f (BarType slot register) has is = (f, has, sym is.0, is.1)
here_in roots s f (BarMask slot register) has is = (f, has, sym is.0, is.1)
here_in roots s f (BarPair slot register) has is = (f, has, sym is.0, is.1)
here_in roots s f (RomMask slot register) has is = (f, has, sym is.0, is.1)
here_in roots s f (WindowMask slot register) has is = (f, has, sym is.0, is.1)
here_in roots s f (CapRange slot place) has is = (f, has, sym is.0, is.1)
here_in roots s f (CapLoop slot place) has is = (f, has, sym is.0, is.1)
here_in roots s f (CapCut slot place) has is = (f, has, sym is.0, is.1)
here_in roots s f (SlotsDiffer slot) has is = absurd is
here_in roots s f (StrayProbe slot offset) has is = (f, has, sym is.0, is.1)
here_in roots s f (LoneFunction slot) has is = absurd is
here_in roots s f (OfProfile fault slot) has is = (f, has, sym is.0, is.1)
here_in roots s f (BusRange slot) has is = absurd is
here_in roots s f (Orphan slot) has is = absurd is
here_in roots s f (Unreached slot register space address bridge) has is = absurd is
here_in roots s f (Clash bus space address first first_register second second_register) has is = absurd is
here_in roots s f (Split space address first first_register second second_register) has is = absurd is

some_is_not_none : (o : Option BarFault) (e : BarFault) → o ≡ Some e → o ≡ None → ⊥
some_is_not_none o e some none = cc

-- and is not there where nothing of its phase is
pub here_not_clear : (g : Function) (other : Fault) (n : ℕ) → phase_of other < n → IsClearBefore n g → IsHere g other → ⊥
here_not_clear g (NoVendor slot) n less clear is = both_ways _ (clear.answers less).vendor is.1
here_not_clear g (HeaderKind slot) n less clear is = both_ways _ (clear.answers less).header is.1
here_not_clear g (BarType slot register) n less clear (at, (i, within, same, is)) = some_is_not_none _ _ is ((clear.registers less).0.bars i within)
here_not_clear g (BarMask slot register) n less clear (at, (i, within, same, is)) = some_is_not_none _ _ is ((clear.registers less).0.bars i within)
here_not_clear g (BarPair slot register) n less clear (at, (i, within, same, is)) = some_is_not_none _ _ is ((clear.registers less).0.bars i within)
here_not_clear g (RomMask slot register) n less clear (at, (same, is)) = both_ways _ (clear.registers less).0.rom is
here_not_clear g (WindowMask slot register) n less clear (at, (kind, bridge, same, is)) = both_ways _ ((clear.registers less).0.windows kind (eqb-true _ _ bridge)) is
here_not_clear g (CapRange slot place) n less clear is = chain-no_low_place g.image place (clear.registers less).1 is.1
here_not_clear g (CapLoop slot place) n less clear is = chain-no_loop g.image place (clear.registers less).1 is.1
here_not_clear g (CapCut slot place) n less clear is = chain-no_cut_body g.image place (clear.registers less).1 is.1
here_not_clear g (SlotsDiffer slot) n less clear is = absurd is
here_not_clear g (StrayProbe slot offset) n less clear is = both_ways _ ((clear.answers less).probe offset) is.1
here_not_clear g (LoneFunction slot) n less clear is = absurd is
here_not_clear g (OfProfile fault slot) n less clear is = none_of_plain g.image (clear.profile less) fault is.1
here_not_clear g (BusRange slot) n less clear is = absurd is
here_not_clear g (Orphan slot) n less clear is = absurd is
here_not_clear g (Unreached slot register space address bridge) n less clear is = absurd is
here_not_clear g (Clash bus space address first first_register second second_register) n less clear is = absurd is
here_not_clear g (Split space address first first_register second second_register) n less clear is = absurd is

-- it is of a phase before that of places
pub early_phase : (f : Function) (e : Fault) → IsHere f e → phase_of e < 4
early_phase f (NoVendor slot) is = omega arith
early_phase f (HeaderKind slot) is = omega arith
early_phase f (BarType slot register) is = omega arith
early_phase f (BarMask slot register) is = omega arith
early_phase f (BarPair slot register) is = omega arith
early_phase f (RomMask slot register) is = omega arith
early_phase f (WindowMask slot register) is = omega arith
early_phase f (CapRange slot place) is = omega arith
early_phase f (CapLoop slot place) is = omega arith
early_phase f (CapCut slot place) is = omega arith
early_phase f (SlotsDiffer slot) is = absurd is
early_phase f (StrayProbe slot offset) is = omega arith
early_phase f (LoneFunction slot) is = absurd is
early_phase f (OfProfile fault slot) is = omega arith
early_phase f (BusRange slot) is = absurd is
early_phase f (Orphan slot) is = absurd is
early_phase f (Unreached slot register space address bridge) is = absurd is
early_phase f (Clash bus space address first first_register second second_register) is = absurd is
early_phase f (Split space address first first_register second second_register) is = absurd is

-- ---- the first of them

pub image_of_function : (s : System) → IsSystem s → (f : Function) → Contains s f → image_at s f.slot ≡ f.image
image_of_function s system f has = image_at_is s f (λ g listed same. one_function s system g f listed has (ap slot_number same)) has

-- what stands before a function in slot order does so in the list
pub lower_is_taken : (s : System) → IsSystem s → (f g : Function) (k : ℕ) → k < length s → get_or s k f ≡ f → Contains s g → slot_number g.slot < slot_number f.slot → Contains (take k s) g
lower_is_taken s system f g k within at has lower = elim (cases_order has.0 k) [
  | inl same ↦
      let one : g ≡ f = sym has.2 ∙ ap (λ n. get_or s n g) same ∙ get_or_default s k g f within ∙ at in
      let number = ap (λ (h : Function). slot_number h.slot) one in
      absurd (let no : ⊥ = omega (arith, number, lower) in no)
  | inr (inl before) ↦
      let all : length (take k s) ≡ k = length-take-le k s (omega (arith, within)) in
      (has.0, omega (arith, before, all), get_or-take k s has.0 g before ∙ has.2)
  | inr (inr after) ↦
      let up = earlier_is_lower s system f g (k, within, at) has after in
      absurd (let no : ⊥ = omega (arith, up, lower) in no)
]

-- a fault is of an earlier phase than another one, or of its phase and of a lower function
abbrev pub IsLower : Fault → Function → Fault → Function → Type 0
IsLower other g e f = (phase_of other < phase_of e) ⊎ ((phase_of other ≡ phase_of e) × (slot_number g.slot < slot_number f.slot))

module _ (roots : List ℕ) (s : System) (system : IsSystem s) (f : Function) (listed : Contains s f) (e : Fault) (here : IsHere f e) (first : IsFirstOf (phase_of e) f e)
    (Counts : Fault → Type 0) (none : (other : Fault) (g : Function) → Contains s g → Counts other → IsLower other g e f → IsHere g other → ⊥) where
  -- none of the function is before it
  not_of_its_own : (other : Fault) → phase_of other ≡ phase_of e → is_before (image_at s) other e ≡ true → IsHere f other → ⊥
  not_of_its_own other phase before is =
      let image = image_of_function s system f listed in
      let key_other = key_at (image_at s) f other is image ∙ sym (key_is f other is) in
      let key_e = key_at (image_at s) f e here image ∙ sym (key_is f e here) in
      first other phase (subst (λ k. precedes k (looking_key (λ slot. f.image) e) ≡ true) key_other (subst (λ k. precedes (looking_key (image_at s) other) k ≡ true) key_e before)) is

  none_of : (other : Fault) (g : Function) → Contains s g → Counts other → is_before (image_at s) other e ≡ true → IsHere g other → ⊥
  none_of other g has counts before is =
      elim (key_cases (phase_of other) (phase_of e) g.slot f.slot (rest_of g other) (rest_of f e) (slot_of s system g has)
      (subst (λ k. precedes k (phase_of e ∷ slot_key f.slot ++ rest_of f e) ≡ true) (key_at (image_at s) g other is (image_of_function s system g has))
      (subst (λ k. precedes (looking_key (image_at s) other) k ≡ true) (key_at (image_at s) f e here (image_of_function s system f listed)) before))) [
        | inl less ↦ none other g has counts (inl less) is
        | inr (phase, inl lower) ↦ none other g has counts (inr (phase, lower)) is
        | inr (phase, inr (same, rest)) ↦
            let one : g ≡ f = one_function s system g f has listed (ap slot_number same) in
            not_of_its_own other phase before (subst (λ h. IsHere h other) one is)
      ]

  -- where none that counts is lower, none of them is looked for before the fault
  pub none_before : (other : Fault) → Counts other → is_before (image_at s) other e ≡ true → IsIn roots s other → ⊥
  none_before other counts before there =
      let le = phase_le (image_at s) other e before in
      let early = early_phase f e here in
      let x = in_here roots s other (omega (arith, le, early)) there in
      none_of other x.g x.has counts before x.here
