-- A machine of a dump and its probe: what holds of each function.
use Rattle.std.proofs.Common.{◌≡◌, ℕ, ◌+◌, ◌<◌, refl, false, List, [], ◌∷◌, ◌++◌, map, take, length, get_or, Some, ◌==◌, lit<, arith, sym, ◌∙◌, ap, subst}
use Rattle.std.specs.List.{All}
use Rattle.std.proofs.lemmas.Bool.{false_from_ne_true, both_ways}
use Rattle.std.proofs.lemmas.List.{map_more, length-map, get_or-map, get_or_default}
use Rattle.std.proofs.lemmas.List.Elements.{All-map}
use Rattle.std.proofs.lemmas.Option.{slice_get-get_or}
use Rattle.pci_spec.specs.Number.{byte_at, has_bit}
use Rattle.pci_spec.specs.Header.{layout}
use Rattle.pci_spec.proofs.WritableBits.{enables_are_fields, has_bit-writable_bits}
use Rattle.pci_spec.specs.Slot.{IsRising}
use Rattle.pci_spec.specs.Text.{Block, IsDump, slots_of}
use Rattle.pci_spec.specs.System.{Function, IsFunction, function_of, system_of}
use Rattle.pci_spec.specs.Machine.{Target, target_of, sized, writable_bits}
use Rattle.pci_spec.specs.Fault.{has_no_vendor, has_other_layout}
use Rattle.pci_spec.specs.Decoded.{IsDecodable}
use Rattle.pci_spec.proofs.Pairing.{same_length, length-system_of, slots-system_of, IsSystem-of_dumps}
use Rattle.pci_spec.proofs.Sizing.{sizing_finds_probe}
use Rattle.pci_tree.specs.Pair.{IsPair}
use Rattle.pci_tree.proofs.Pairs.{at_place}
use Rattle.pci_spec.specs.Port.{IsTarget}
use Rattle.pci_machine.specs.Memory.{IsMachine}
use Rattle.pci_spec.specs.Sizing.{function_at, IsSizable, IsStuck}
use Rattle.pci_machine.proofs.Targets.{found, map-map, some_at}
use Rattle.pci_machine.proofs.Memory.{lawful_from_rising}
use Rattle.pci_machine.proofs.Sizing.{function_at-is}
use Rattle.pci_machine.proofs.TargetOf.{IsTarget-target_of, no_write_of_header}

-- ---- the decode bits

-- so none of a function that was just made is stuck
can_clear : (f : Function) → IsStuck (target_of f) → ⊥
can_clear f (i, below, set, cannot) =
    both_ways (has_bit (byte_at (writable_bits f.image f.probe) 0x04) i) cannot
    (has_bit-writable_bits f.image f.probe 0x04 i (lit< tt) (omega (arith, below)) ∙ enables_are_fields (layout f.image == 1) f.probe i below)

-- ---- functions by their places

module _ (dump probe : List Block) (same : slots_of dump ≡ slots_of probe) where
  -- one function more of the machine
  pub made_more : (k : ℕ) (b p : Block) (made next : List Target) (r : Target) → k < length dump → b ≡ get_or dump k b → p ≡ get_or probe k p
      → made ≡ map target_of (take k (system_of dump probe)) → next ≡ made ++ r ∷ [] → r ≡ target_of (function_of b p)
      → next ≡ map target_of (take (k + 1) (system_of dump probe))
  made_more k b p made next r below eb ep so_far push is =
      let long = length-system_of dump probe (same_length dump probe same) in
      push ∙ ap (λ xs. xs ++ r ∷ []) so_far ∙ ap (λ x. map target_of (take k (system_of dump probe)) ++ x ∷ []) (is ∙ ap target_of (sym (at_place dump probe same k b p below eb ep)))
      ∙ sym (map_more target_of (system_of dump probe) k (function_of b p) (omega (arith, below, long)))

  -- ---- all functions

  module _ (is_dump : IsDump dump) (is_probe : IsDump probe) where
    -- each has its two images
    each_function : All IsFunction (system_of dump probe)
    each_function = (IsSystem-of_dumps dump probe is_dump is_probe same).each

    -- the functions are those of a machine
    pub machine-of : IsMachine (map target_of (system_of dump probe))
    machine-of = record {
      each = All-map IsTarget target_of (system_of dump probe) (λ k d below. IsTarget-target_of (get_or (system_of dump probe) k d) (each_function k d below).image);
      rising = subst IsRising (sym (map-map (λ (t : Target). t.slot) target_of (λ (f : Function). f.slot) (λ f. refl) (system_of dump probe) ∙ slots-system_of dump probe same)) is_dump.rising;
      header = All-map (λ t. byte_at t.writable 0x0e ≡ 0) target_of (system_of dump probe)
          (λ k d below. no_write_of_header (get_or (system_of dump probe) k d).image (get_or (system_of dump probe) k d).probe);
    }

    -- each function stands at its slot
    pub function-of : (k : ℕ) (d : Function) → k < length (system_of dump probe)
        → function_at (map target_of (system_of dump probe)) (get_or (system_of dump probe) k d).slot ≡ target_of (get_or (system_of dump probe) k d)
    function-of k d below =
        let f = get_or (system_of dump probe) k d in
        let targets = map target_of (system_of dump probe) in
        let here : get_or targets k (target_of f) ≡ target_of f =
        get_or-map target_of (system_of dump probe) k d (target_of f) below in
        let inside : k < length targets = omega (arith, below, length-map {B = Target} (system_of dump probe) target_of) in
        function_at-is targets f.slot (target_of f)
        (found targets f.slot k (target_of f) (lawful_from_rising targets machine-of) (slice_get-get_or targets k (target_of f) inside ∙ ap Some here) refl)

    -- the decode bits of a function that was just made can be cleared
    free-of : (k : ℕ) (d : Function) → k < length (system_of dump probe)
        → IsStuck (function_at (map target_of (system_of dump probe)) (get_or (system_of dump probe) k d).slot) → ⊥
    free-of k d below stuck = can_clear (get_or (system_of dump probe) k d) (subst IsStuck (function-of k d below) stuck)

    -- each function can be sized
    pub sizable-of : All IsDecodable (system_of dump probe) → (k : ℕ) (d : Function) → k < length (system_of dump probe)
        → IsSizable (map target_of (system_of dump probe)) (get_or (system_of dump probe) k d).slot
    sizable-of decodable k d below =
        let f = get_or (system_of dump probe) k d in
        let targets = map target_of (system_of dump probe) in
        let here : get_or targets k (target_of f) ≡ target_of f = get_or-map target_of (system_of dump probe) k d (target_of f) below in
        let inside : k < length targets = omega (arith, below, length-map {B = Target} (system_of dump probe) target_of) in
        record {
          there = some_at targets f.slot k (target_of f) (slice_get-get_or targets k (target_of f) inside ∙ ap Some here) refl;
          vendor = subst (λ (t : Target). has_no_vendor t.image ≡ false) (sym (function-of k d below)) (decodable k d below).vendor;
          header = subst (λ (t : Target). has_other_layout t.image ≡ false) (sym (function-of k d below)) (decodable k d below).header;
          free = free-of k d below;
        }

    -- sizing finds the probe of each function
    pub read_backs-of : (roots : List ℕ) → IsPair roots dump probe → All IsDecodable (system_of dump probe) → All (λ f. sized (target_of f) ≡ f.probe) (system_of dump probe)
    read_backs-of roots pair decodable k d below =
        let f = get_or (system_of dump probe) k d in
        let here : get_or (system_of dump probe) k f ≡ f = get_or_default (system_of dump probe) k f d below in
        sizing_finds_probe f (each_function k d below) (decodable k d below) (λ offset. false_from_ne_true _ (λ stray. pair.probes f.slot offset (same, (f, (k, below, here), refl, stray))))
