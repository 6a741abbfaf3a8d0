-- Which fault a machine is refused for: the first of those that it looks for.
use Rattle.std.proofs.Common.{◌≡◌, ℕ, ◌<◌, ◌≤◌, List, [], length, get_or, take, refl, true, false, Option, Some, None, IsTrue, inl, inr, arith, sym, ◌∙◌, subst}
use Rattle.std.specs.List.{All, Contains}
use Rattle.std.proofs.lemmas.Bool.{both_ways, eqb-true}
use Rattle.std.proofs.lemmas.List.Elements.{All-contains}
use Rattle.pci_spec.specs.Slot.{Slot}
use Rattle.pci_spec.specs.Bar.{BarFault}
use Rattle.pci_spec.specs.Text.{Block, IsDump, slots_of}
use Rattle.pci_spec.specs.System.{System, Function, IsSystem, function_of, system_of}
use Rattle.pci_spec.specs.Decoded.{IsDecodable}
use Rattle.pci_spec.specs.Fault.{Fault, BarType, BarMask, BarPair, RomMask, WindowMask, CapRange, CapLoop, CapCut, IsThere}
use Rattle.pci_spec.specs.Order.{phase_of, is_before, image_at}
use Rattle.pci_spec.proofs.Pairing.{same_length, length-system_of, IsSystem-of_dumps, there-of_in, in-of_there}
use Rattle.pci_image.specs.Faults.{IsImageFaultIn, image_fault_number}
use Rattle.pci_image.specs.declared.fault.ImageFault.{ImageFault}
use Rattle.pci_image.specs.declared.fault.ImageFault.TheVariants as images
use Rattle.pci_function.specs.Fault.{image_fault_at}
use Rattle.pci_function.specs.Profile.{IsHere, IsFirstOf}
use Rattle.pci_tree.specs.Pair.{IsPair}
use Rattle.pci_function.proofs.Examined.{clear_2, image_here, image_phase}
use Rattle.pci_function.proofs.FirstIn.{here_in, here_not_clear, lower_is_taken, none_before}
use Rattle.pci_tree.proofs.Pairs.{at_place, placed, pair_answers}
use Rattle.pci_machine.specs.Made.{is_of_list}

-- ---- faults that aren't of capabilities lists

pub early_is_not_of_list : (e : Fault) → phase_of e ≤ 1 → is_of_list e ≡ false
early_is_not_of_list (CapRange slot place) early = absurd (let no : ⊥ = omega (arith, early) in no)
early_is_not_of_list (CapLoop slot place) early = absurd (let no : ⊥ = omega (arith, early) in no)
early_is_not_of_list (CapCut slot place) early = absurd (let no : ⊥ = omega (arith, early) in no)
early_is_not_of_list _ early = refl

pub register_is_not_of_list : (slot : Slot) (fault : ImageFault) → image_fault_number fault ≤ 26 → is_of_list (image_fault_at slot fault) ≡ false
register_is_not_of_list slot (images.CapRange place) small = absurd (let no : ⊥ = omega (arith, small) in no)
register_is_not_of_list slot (images.CapLoop place) small = absurd (let no : ⊥ = omega (arith, small) in no)
register_is_not_of_list slot (images.CapCut place) small = absurd (let no : ⊥ = omega (arith, small) in no)
register_is_not_of_list slot _ small = refl

some_is_not_none : (o : Option BarFault) (e : BarFault) → o ≡ Some e → o ≡ None → ⊥
some_is_not_none o e some none = cc

-- a function that decodes has none of registers
not_decodable : (g : Function) (other : Fault) → IsDecodable g → phase_of other ≡ 2 → is_of_list other ≡ false → IsHere g other → ⊥
not_decodable g (BarType slot register) fine phase not (at, (i, within, same, is)) = some_is_not_none _ _ is (fine.bars i within)
not_decodable g (BarMask slot register) fine phase not (at, (i, within, same, is)) = some_is_not_none _ _ is (fine.bars i within)
not_decodable g (BarPair slot register) fine phase not (at, (i, within, same, is)) = some_is_not_none _ _ is (fine.bars i within)
not_decodable g (RomMask slot register) fine phase not (at, (same, is)) = both_ways _ fine.rom is
not_decodable g (WindowMask slot register) fine phase not (at, (kind, bridge, same, is)) = both_ways _ (fine.windows kind (eqb-true _ _ bridge)) is
not_decodable g (CapRange slot place) fine phase not is = absurd (both_ways true not refl)
not_decodable g (CapLoop slot place) fine phase not is = absurd (both_ways true not refl)
not_decodable g (CapCut slot place) fine phase not is = absurd (both_ways true not refl)
not_decodable g _ fine phase not is = absurd (let no : ⊥ = omega (arith, phase) in no)

-- ---- of a dump and its probe

-- a fault of decoding that is there, and before which there are at most faults of lists
pub record IsRefusal (dump probe : List Block) (e : Fault) : Type 0 where
  pub phase : phase_of e ≡ 2
  pub there : (roots : List ℕ) → IsThere roots dump probe e
  pub first : (roots : List ℕ) (other : Fault) → IsTrue (is_before (image_at (system_of dump probe)) other e) → is_of_list other ≡ false → IsThere roots dump probe other → ⊥

module _ (dump probe : List Block) (hd : IsDump dump) (hp : IsDump probe) (pair : (roots : List ℕ) → IsPair roots dump probe)
    (k : ℕ) (b p : Block) (below : k < length dump) (eb : b ≡ get_or dump k b) (ep : p ≡ get_or probe k p)
    (fault : ImageFault) (is : IsImageFaultIn b.image p.image fault) where
  same : slots_of dump ≡ slots_of probe
  same = (pair []).same

  has : Contains (system_of dump probe) (function_of b p)
  has = placed dump probe same k b p below eb ep

  refused_phase : phase_of (image_fault_at b.slot fault) ≡ 2
  refused_phase = image_phase (function_of b p) fault (pair_answers dump probe pair (function_of b p) has) is

  refused_there : (roots : List ℕ) → IsThere roots dump probe (image_fault_at b.slot fault)
  refused_there roots = there-of_in roots dump probe (image_fault_at b.slot fault) same
      (here_in roots (system_of dump probe) (function_of b p) (image_fault_at b.slot fault) has (image_here (function_of b p) fault is))

  refused_first : All IsDecodable (take k (system_of dump probe)) → IsFirstOf 2 (function_of b p) (image_fault_at b.slot fault)
      → (roots : List ℕ) (other : Fault) → IsTrue (is_before (image_at (system_of dump probe)) other (image_fault_at b.slot fault)) → is_of_list other ≡ false → IsThere roots dump probe other → ⊥
  refused_first decodable first roots other before not there =
      let s : System = system_of dump probe in
      let f : Function = function_of b p in
      let system : IsSystem s = IsSystem-of_dumps dump probe hd hp same in
      let phase : phase_of (image_fault_at b.slot fault) ≡ 2 = refused_phase in
      let long = length-system_of dump probe (same_length dump probe same) in
      none_before roots s system f has (image_fault_at b.slot fault) (image_here f fault is)
      (subst (λ n. IsFirstOf n f (image_fault_at b.slot fault)) (sym phase) first) (λ x. is_of_list x ≡ false)
      (λ x g listed not_list lower here. elim lower [
        | inl less ↦ here_not_clear g x 2 (omega (arith, less, phase)) (clear_2 g (pair_answers dump probe pair g listed)) here
        | inr (same_phase, below_it) ↦
            let before : Contains (take k s) g = lower_is_taken s system f g k (omega (arith, below, long)) (at_place dump probe same k b p below eb ep) listed below_it in
            not_decodable g x (All-contains IsDecodable (take k s) g decodable before) (same_phase ∙ phase) not_list here
      ]) other not before (in-of_there roots dump probe other same there)

  -- the fault of the first function that doesn't decode is one
  pub refused : All IsDecodable (take k (system_of dump probe)) → IsFirstOf 2 (function_of b p) (image_fault_at b.slot fault) → IsRefusal dump probe (image_fault_at b.slot fault)
  refused decodable first = record { phase = refused_phase; there = refused_there; first = refused_first decodable first }
