-- What functions read back, block by block.
use Rattle.std.proofs.Common.{◌≡◌, ℕ, ◌<◌, List, length, map, get_or, arith, sym, ◌∙◌, ap}
use Rattle.pci_spec.specs.Text.{Block}
use Rattle.pci_spec.specs.System.{Function}
use Rattle.pci_spec.specs.Decoded.{HasRecords}
use Rattle.pci_spec.proofs.Pairing.{same_length, length-system_of, function-at}
use Rattle.pci_function.specs.Values.{record_value}
use Rattle.pci_function.specs.declared.record.Record.{Record}
use Rattle.pci_tree.specs.Admission.{Admission, IsAdmitted}
use Rattle.pci_place.specs.Above.{system_in}
use Rattle.pci_place.specs.Items.{no_function}
use Rattle.pci_place.proofs.Records.{same_count}

module _ (a : Admission) (admitted : IsAdmitted a) (records : List Record) (has : HasRecords (system_in a) (map record_value records)) (probes : List Block) (are : probes ≡ a.probe) where
  -- there are as many as records
  pub probe_count : length records ≡ length probes
  probe_count =
      let same = same_length a.dump a.probe admitted.slots in
      sym (same_count (system_in a) records has) ∙ length-system_of a.dump a.probe same ∙ same ∙ sym (ap length are)

  pub probe_at : (k : ℕ) (p : Block) → k < length records → p ≡ get_or probes k p → (get_or (system_in a) k no_function).probe ≡ p.image
  probe_at k p within is =
      let same = same_length a.dump a.probe admitted.slots in
      let count = probe_count in
      let long = ap length are in
      ap (λ (f : Function). f.probe) (function-at a.dump a.probe k p p no_function (omega (arith, within, count, long, same)) (omega (arith, within, count, long)))
      ∙ ap (λ (b : Block). b.image) (ap (λ (bs : List Block). get_or bs k p) (sym are) ∙ sym is)
