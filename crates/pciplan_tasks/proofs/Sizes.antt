-- Functions of a machine that are sized one after the other.
use Rattle.std.proofs.Common.{◌≡◌, ℕ, zero, suc, ◌+◌, ◌<◌, List, [], ◌∷◌, sym, ◌∙◌, ap, subst, arith, length, get_or, take, map, slice_index}
use Rattle.std.specs.List.{All}
use Rattle.std.proofs.lemmas.List.{get_or_default}
use Rattle.std.proofs.Math.ListN as plain
use Rattle.pci_spec.specs.Slot.{Slot, IsRising, slot_number}
use Rattle.pci_spec.specs.Text.{Block, IsDump, slots_of}
use Rattle.pci_spec.specs.Stops.{IsAboveLast, last_slot}
use Rattle.pci_spec.specs.System.{Function, function_of, system_of}
use Rattle.pci_spec.specs.Machine.{Target, target_of, sized}
use Rattle.pci_spec.specs.Decoded.{IsDecodable}
use Rattle.pci_spec.proofs.Pairing.{length-system_of, same_length}
use Rattle.pci_tree.proofs.Pairs.{at_place, slot_at}
use Rattle.pci_spec.specs.Sizing.{function_at, IsSizable}
use Rattle.pci_machine.proofs.MadeOf.{sizable-of}

-- a block of a dump stands above the last of those before it
pub above_last : (blocks : List Block) (k : ℕ) (b : Block) → IsRising (slots_of blocks) → k < length blocks → b ≡ get_or blocks k b
    → IsAboveLast (last_slot (take k blocks)) b.slot
above_last [] k b rising within is = absurd (omega (arith, within))
above_last (x ∷ blocks) zero b rising within is = tt
above_last (x ∷ []) (suc k) b rising within is = absurd (omega (arith, within))
above_last (x ∷ y ∷ blocks) (suc zero) b rising within is =
    let up : slot_number x.slot < slot_number y.slot = rising 0 (omega arith) in
    let same : slot_number b.slot ≡ slot_number y.slot = ap (λ (c : Block). slot_number c.slot) is in
    omega (arith, up, same)
above_last (x ∷ y ∷ blocks) (suc (suc k)) b rising within is =
    let numbers : List ℕ = map slot_number (slots_of (y ∷ blocks)) in
    let tail : IsRising (slots_of (y ∷ blocks)) = λ j h.
    let next : suc j + 1 ≡ suc (j + 1) = omega arith in
    let P : ℕ → Type 0 = λ n. slice_index numbers j < slice_index (slot_number x.slot ∷ numbers) n in
    subst P next (rising (suc j) (omega (arith, h))) in
    above_last (y ∷ blocks) (suc k) b tail (omega (arith, within)) is

-- what sizing finds of the function of a block of the probe
pub record IsSized (targets : List Target) (p : Block) : Type 0 where
  pub sizable : IsSizable targets p.slot
  pub found : sized (function_at targets p.slot) ≡ p.image

sized_at : (dump probe : List Block) (same : slots_of dump ≡ slots_of probe) → IsDump dump → IsDump probe → All IsDecodable (system_of dump probe)
    → All (λ f. sized (function_at (map target_of (system_of dump probe)) f.slot) ≡ f.probe) (system_of dump probe)
    → (k : ℕ) (p : Block) → k < length probe → p ≡ get_or probe k p → IsSized (map target_of (system_of dump probe)) p
sized_at dump probe same is_dump is_probe decodable read_backs k p within is =
    let s : List Function = system_of dump probe in
    let targets : List Target = map target_of s in
    let count : length dump ≡ length probe = same_length dump probe same in
    let size : length s ≡ length dump = length-system_of dump probe count in
    let b : Block = get_or dump k p in
    let b_is : b ≡ get_or dump k b = get_or_default dump k p b (omega (arith, within, count)) in
    let f : Function = function_of b p in
    let here : get_or s k f ≡ f = at_place dump probe same k b p (omega (arith, within, count)) b_is is in
    let inside : k < length s = omega (arith, within, count, size) in
    let slot : f.slot ≡ p.slot =
    sym (plain.get_or-map (λ (x : Block). x.slot) dump k p) ∙ ap (λ (ss : List Slot). get_or ss k p.slot) same ∙ slot_at probe k p is in
    let found : sized (function_at targets f.slot) ≡ f.probe =
    (let P : Function → Type 0 = λ g. sized (function_at targets g.slot) ≡ g.probe in subst P here (read_backs k f inside)) in
    let sizable : IsSizable targets f.slot =
    (let P : Function → Type 0 = λ g. IsSizable targets g.slot in subst P here (sizable-of dump probe same is_dump is_probe decodable k f inside)) in
    record {
      sizable = subst (IsSizable targets) slot sizable;
      found = ap (λ x. sized (function_at targets x)) (sym slot) ∙ found;
    }

-- by the machine's functions, and the blocks as they are read
pub block_sized : (dump probe blocks probes : List Block) (made targets : List Target) (same : slots_of dump ≡ slots_of probe) → IsDump dump → IsDump probe → All IsDecodable (system_of dump probe)
    → made ≡ map target_of (system_of dump probe) → All (λ f. sized (function_at made f.slot) ≡ f.probe) (system_of dump probe) → targets ≡ made → blocks ≡ dump → probes ≡ probe
    → (k : ℕ) (p : Block) → k < length blocks → p ≡ get_or probes k p → IsSized targets p
block_sized dump probe blocks probes made targets same is_dump is_probe decodable made_is read_backs kept blocks_are probes_are k p within is =
    let P : List Target → Type 0 = λ ts. All (λ f. sized (function_at ts f.slot) ≡ f.probe) (system_of dump probe) in
    let count = same_length dump probe same in
    let size = ap length blocks_are in
    subst (λ ts. IsSized ts p) (sym (kept ∙ made_is))
    (sized_at dump probe same is_dump is_probe decodable (subst P made_is read_backs) k p (omega (arith, within, count, size)) (is ∙ ap (λ bs. get_or bs k p) probes_are))
