-- A derived probe goes with its dump.
use Rattle.std.proofs.Common.{◌≡◌, ℕ, ◌+◌, ◌<◌, ◌&&◌, nat_lt, false, List, [], length, get_or, None, inl, inr, arith, sym, ◌∙◌, ap, subst}
use Rattle.std.specs.Prelude.{◌==◌, not}
use Rattle.std.proofs.lemmas.Bool.{cases_Bool, and_right, not_from_true, eq-eqb, ltb-true}
use Rattle.std.proofs.lemmas.List.{get_or-map, get_or_default}
use Rattle.std.proofs.lemmas.List.FromFn.{get_or-map-range_with_len}
use Rattle.pci_spec.specs.Number.{byte_at}
use Rattle.pci_spec.specs.Header.{layout, address_registers, is_in_register}
use Rattle.pci_spec.specs.Machine.{register_at}
use Rattle.pci_spec.specs.Text.{Block, slots_of}
use Rattle.pci_spec.specs.Fault.{is_in_address_register, is_stray}
use Rattle.pci_spec.specs.Resource.{ResourceLine}
use Rattle.pci_spec.specs.Derived.{derived_byte, derived_probe}
use Rattle.pci_spec.specs.SizesText.{SizesBlock, sized_slots}
use Rattle.pci_spec.specs.ProbeOf.{told_of, probe_block, probe_of, identity_fault, first_of}
use Rattle.pci_spec.specs.System.{function_of}
use Rattle.pci_spec.proofs.Pairing.{function-at, same_length, length-system_of}
use Rattle.pci_function.specs.Profile.{IsAnswering}
use Rattle.pci_tree.specs.Pair.{IsPair}
use Rattle.pci_tree.proofs.Pairs.{answering_pair}
use Rattle.pci_machine.proofs.Targets.{find-none}
use Rattle.pci_machine.specs.Derivation.{told_function}
use Rattle.pci_machine.proofs.FirstOf.{first_of-none, header_of-none}
use Rattle.pci_machine.proofs.ToldFunctions.{same_count, length-told_of, told_at, slots-probe_of}

-- ---- bytes

byte_of : (image : List ℕ) (lines : List ResourceLine) (place : ℕ) → place < 256 → byte_at (derived_probe image lines) place ≡ derived_byte image lines place (register_at (layout image) place)
unfolding derived_probe
byte_of image lines place below = get_or-map-range_with_len (λ q. derived_byte image lines q (register_at (layout image) q)) 0 256 place place 0 below (let e : 0 + place ≡ place = omega arith in e)

-- no byte stands outside the address registers
none_stray : (image : List ℕ) (lines : List ResourceLine) (place : ℕ) → is_stray image (derived_probe image lines) place ≡ false
none_stray image lines place = elim (cases_Bool (nat_lt place 256)) [
  | inr past ↦ ap (λ b. b && not (byte_at (derived_probe image lines) place == 0) && not (is_in_address_register (layout image) place)) past
  | inl below ↦ elim (cases_Bool (is_in_address_register (layout image) place)) [
    | inl inside ↦ and_right (nat_lt place 256 && not (byte_at (derived_probe image lines) place == 0)) (not (is_in_address_register (layout image) place)) (not_from_true _ inside)
    | inr outside ↦
        let zero_byte : byte_at (derived_probe image lines) place ≡ 0 =
        byte_of image lines place (ltb-true place 256 below) ∙ ap (derived_byte image lines place) (find-none (is_in_register place) (address_registers (layout image)) outside) in
        ap (λ b. b && not (is_in_address_register (layout image) place))
        (and_right (nat_lt place 256) (not (byte_at (derived_probe image lines) place == 0)) (not_from_true _ (eq-eqb (byte_at (derived_probe image lines) place) 0 zero_byte)))
  ]
]

-- ---- blocks

-- each function of the dump and its derived probe answers
answers : (dump : List Block) (sizes : List SizesBlock) (k : ℕ) (b p : Block) → slots_of dump ≡ sized_slots sizes → first_of identity_fault dump ≡ None → k < length dump → b ≡ get_or dump k b
    → p ≡ get_or (probe_of dump sizes) k p → IsAnswering (function_of b p)
answers dump sizes k b p same headers within b_is p_is =
    let count = same_count dump sizes same in
    let long = length-told_of dump sizes count in
    let inside : k < length sizes = omega (arith, count, within) in
    let none : SizesBlock = record { slot = b.slot; lines = [] } in
    let s : SizesBlock = get_or sizes k none in
    let at = told_at dump sizes k b s within inside b_is (get_or_default sizes k none s inside) in
    let probe : probe_block (told_function b s) ≡ p =
    sym (p_is ∙ get_or-map probe_block (told_of dump sizes) k (told_function b s) p (omega (arith, long, within)) ∙ ap probe_block at) in
    let header = header_of-none b (first_of-none identity_fault dump k b within (sym b_is) headers) in
    subst (λ (q : Block). IsAnswering (function_of b q)) probe record { vendor = header.vendor; header = header.layout; probe = none_stray b.image s.lines }

pub pair_of : (dump : List Block) (sizes : List SizesBlock) → slots_of dump ≡ sized_slots sizes → first_of identity_fault dump ≡ None → (roots : List ℕ) → IsPair roots dump (probe_of dump sizes)
pair_of dump sizes same headers =
    let probe : List Block = probe_of dump sizes in
    let slots : slots_of dump ≡ slots_of probe = sym (slots-probe_of dump sizes same) in
    answering_pair dump probe slots (λ k f within.
    let long = same_length dump probe slots in
    let all = length-system_of dump probe long in
    let none : Block = record { slot = f.slot; title = None; image = f.image } in
    let in_dump : k < length dump = omega (arith, within, all) in
    let in_probe : k < length probe = omega (arith, in_dump, long) in
    subst IsAnswering (sym (function-at dump probe k none none f in_dump in_probe))
    (answers dump sizes k (get_or dump k none) (get_or probe k none) same headers in_dump
    (get_or_default dump k none (get_or dump k none) in_dump) (get_or_default probe k none (get_or probe k none) in_probe)))
