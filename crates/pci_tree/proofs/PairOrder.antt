-- The first fault of a dump and its probe, before their registers are decoded.
use Rattle.std.proofs.Common.{◌≡◌, ℕ, ◌<◌, ◌≤◌, List, [], length, get_or, take, refl, true, false, inl, inr, arith, sym, subst}
use Rattle.std.specs.List.{All, Contains}
use Rattle.std.proofs.lemmas.Bool.{both_ways}
use Rattle.std.proofs.lemmas.List.Elements.{All-contains}
use Rattle.pci_spec.specs.Slot.{Slot, IsSlot}
use Rattle.pci_spec.specs.Text.{Block, IsBlock, IsDump, slots_of}
use Rattle.pci_spec.specs.System.{IsSystem, function_of, system_of}
use Rattle.pci_spec.specs.Fault.{Fault, SlotsDiffer, IsInOne, IsThere}
use Rattle.pci_spec.specs.Order.{phase_of, is_before, image_at, IsFirstThere}
use Rattle.pci_spec.proofs.Looking.{key_cases, phase_le}
use Rattle.pci_spec.proofs.Members.{IsMade, in_map_to}
use Rattle.pci_spec.proofs.Pairing.{same_length, length-system_of, IsSystem-of_dumps, there-of_in, in-of_there}
use Rattle.pci_function.specs.Profile.{IsAnswering, IsHereIn, IsFirstOf}
use Rattle.pci_tree.specs.Pair.{IsNoneBelow}
use Rattle.pci_function.proofs.FirstIn.{here_in, here_not_clear, lower_is_taken, none_before}
use Rattle.pci_function.proofs.Examined.{clear_1, clear_2}
use Rattle.pci_tree.proofs.Pairs.{at_place, placed}

-- ---- slots that differ

slot_in : (blocks : List Block) (slot : Slot) → IsDump blocks → Contains (slots_of blocks) slot → IsSlot slot
slot_in blocks slot dump has =
    let made : IsMade (λ (b : Block). b.slot) blocks slot = in_map_to (λ (b : Block). b.slot) blocks slot has in
    subst IsSlot made.is (All-contains IsBlock blocks made.from dump.each made.has).slot

slot_in_one : (dump probe : List Block) (slot : Slot) → IsDump dump → IsDump probe → IsInOne dump probe slot → IsSlot slot
slot_in_one dump probe slot hd hp is = elim is [ inl one ↦ slot_in dump slot hd one.0 | inr one ↦ slot_in probe slot hp one.1 ]

first_slot : (roots : List ℕ) (dump probe : List Block) (slot : Slot) (other : Fault) → IsDump dump → IsDump probe → IsNoneBelow dump probe slot
    → phase_of other ≤ 0 → is_before (image_at (system_of dump probe)) other (SlotsDiffer slot) ≡ true → IsThere roots dump probe other → ⊥
first_slot roots dump probe slot (SlotsDiffer t) hd hp least low before there = elim (key_cases 0 0 t slot [] [] (slot_in_one dump probe t hd hp there) before) [
  | inl less ↦ let no : ⊥ = omega (arith, less) in no
  | inr (phase, inl lower) ↦ least t lower there
  | inr (phase, inr (same, rest)) ↦ both_ways false refl rest
]
first_slot roots dump probe slot _ hd hp least low before there = let no : ⊥ = omega (arith, low) in no

-- of two lists of slots, the least that one of them has alone
pub slots_refusal : (roots : List ℕ) (dump probe a b : List Block) (slot : Slot) → IsDump dump → IsDump probe → a ≡ dump → b ≡ probe → IsInOne a b slot → IsNoneBelow a b slot
    → IsFirstThere roots dump probe (SlotsDiffer slot)
slots_refusal roots dump probe a b slot hd hp same_dump same_probe one least =
    let there : IsInOne dump probe slot = subst (λ x. IsInOne x probe slot) same_dump (subst (λ y. IsInOne a y slot) same_probe one) in
    let low : IsNoneBelow dump probe slot = subst (λ x. IsNoneBelow x probe slot) same_dump (subst (λ y. IsNoneBelow a y slot) same_probe least) in
    record {
      there = there;
      none_before = λ other before at. first_slot roots dump probe slot other hd hp low (phase_le (image_at (system_of dump probe)) other (SlotsDiffer slot) before) before at;
    }

-- ---- identities and probes

-- the fault of the first function that doesn't answer
pub pair_refusal : (dump probe : List Block) (k : ℕ) (b p : Block) (e : Fault) → IsDump dump → IsDump probe → slots_of dump ≡ slots_of probe → k < length dump → b ≡ get_or dump k b → p ≡ get_or probe k p
    → All IsAnswering (take k (system_of dump probe)) → IsHereIn 1 (function_of b p) e → IsFirstOf 1 (function_of b p) e → (roots : List ℕ) → IsFirstThere roots dump probe e
pair_refusal dump probe k b p e hd hp same below eb ep answering is first roots =
    let s = system_of dump probe in
    let f = function_of b p in
    let system : IsSystem s = IsSystem-of_dumps dump probe hd hp same in
    let has : Contains s f = placed dump probe same k b p below eb ep in
    let long = length-system_of dump probe (same_length dump probe same) in
    let phase = is.phase_is in
    record {
      there = there-of_in roots dump probe e same (here_in roots s f e has is.here);
      none_before = λ other before at.
          none_before roots s system f has e is.here (subst (λ n. IsFirstOf n f e) (sym phase) first) (λ x. Unit {0})
          (λ x g listed counts lower here. elim lower [
            | inl less ↦ here_not_clear g x 1 (omega (arith, less, phase)) (clear_1 g) here
            | inr (same_phase, below_it) ↦
                let before : Contains (take k s) g = lower_is_taken s system f g k (omega (arith, below, long)) (at_place dump probe same k b p below eb ep) listed below_it in
                here_not_clear g x 2 (omega (arith, same_phase, phase)) (clear_2 g (All-contains IsAnswering (take k s) g answering before)) here
          ]) other tt before (in-of_there roots dump probe other same at);
    }
