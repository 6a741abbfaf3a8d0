-- A system of no functions is sound: no fault is there.
use Rattle.std.proofs.Common.{[], ◌∷◌, arith}
use Rattle.std.specs.List.{Contains}
use Rattle.pci_spec.specs.Fault.{Fault, IsIn, NoVendor, HeaderKind, BarType, BarMask, BarPair, RomMask, WindowMask, CapRange, CapLoop, CapCut, SlotsDiffer, StrayProbe, LoneFunction, OfProfile, BusRange, Orphan, Unreached, Clash, Split}
use Rattle.pci_spec.specs.Sound.{IsSound}

none_in : {X : Type 0} (x : X) → Contains [] x → ⊥
none_in x h = let no : ⊥ = omega (arith, h.1) in no

nothing_in : (fault : Fault) → IsIn (0 ∷ []) [] fault → ⊥
nothing_in (NoVendor s) h = none_in h.0 h.1
nothing_in (HeaderKind s) h = none_in h.0 h.1
nothing_in (BarType s r) h = none_in h.0 h.1
nothing_in (BarMask s r) h = none_in h.0 h.1
nothing_in (BarPair s r) h = none_in h.0 h.1
nothing_in (RomMask s r) h = none_in h.0 h.1
nothing_in (WindowMask s r) h = none_in h.0 h.1
nothing_in (CapRange s p) h = none_in h.0 h.1
nothing_in (CapLoop s p) h = none_in h.0 h.1
nothing_in (CapCut s p) h = none_in h.0 h.1
nothing_in (SlotsDiffer s) h = h
nothing_in (StrayProbe s o) h = none_in h.0 h.1
nothing_in (LoneFunction s) h = none_in h.0 h.1
nothing_in (OfProfile fault s) h = none_in h.0 h.1
nothing_in (BusRange s) h = none_in h.0 h.1
nothing_in (Orphan s) h = none_in h.0 h.1
nothing_in (Unreached s r sp a b) h = none_in h.f h.listed
nothing_in (Clash bus sp a f fr g gr) h = none_in h.claims_first.0 h.claims_first.2
nothing_in (Split sp a f fr g gr) h = none_in h.claims_first.0 h.claims_first.2

no_functions : IsSound (0 ∷ []) []
no_functions = record {
  single = record {
    on_a_bus = λ space a bus gets f g p q inf. absurd (none_in f inf);
    over_roots = λ space a f g p q inf. absurd (none_in f inf);
  };
  home = λ f p space a inf. absurd (none_in f inf);
  nested = record {
    order = λ b inb. absurd (none_in b inb);
    inside = λ b c inb. absurd (none_in b inb);
    apart = λ b c inb. absurd (none_in b inb);
    clear = λ b inb. absurd (none_in b inb);
    one = λ f inf. absurd (none_in f inf);
  };
  profile = λ fault number there. nothing_in fault there;
  chains = λ f inf. absurd (none_in f inf);
}
