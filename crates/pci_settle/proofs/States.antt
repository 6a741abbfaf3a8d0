-- The blocks of a dump and of its settled dump are the two states of each function.
use Rattle.std.proofs.Common.{◌≡◌, List, [], ◌∷◌, map, length, arith, refl, sym, ◌∙◌, ap}
use Rattle.std.proofs.lemmas.List.{length-map}
use Rattle.pci_spec.specs.Text.{Block}
use Rattle.pci_spec.specs.System.{System, Function, system_of}
use Rattle.pci_spec.proofs.Pairing.{same_length, slots-system_of}
use Rattle.settle_spec.specs.Lists.{Request}
use Rattle.settle_spec.specs.Kept.{Kept}
use Rattle.settle_spec.specs.Keeping.Registers.{settled_function}
use Rattle.pci_tree.specs.Admission.{Admission, IsAdmitted}
use Rattle.pci_place.specs.Above.{system_in}
use Rattle.pci_place.proofs.Owned.{map_twice}
use Rattle.pci_settle.specs.Dumps.{IsSettledDump}
use Rattle.pci_settle.specs.Stages.{AreOf, AreSettledBlocks}

images_in : (blocks probe : List Block) → length blocks ≡ length probe → map (λ (f : Function). f.image) (system_of blocks probe) ≡ map (λ (b : Block). b.image) blocks
images_in [] probe same = refl
images_in (b ∷ blocks) [] same = absurd (let no : ⊥ = omega (arith, same) in no)
images_in (b ∷ blocks) (p ∷ probe) same = ap (λ xs. b.image ∷ xs) (images_in blocks probe (omega (arith, same)))

probes_in : (blocks probe : List Block) → length blocks ≡ length probe → map (λ (f : Function). f.probe) (system_of blocks probe) ≡ map (λ (b : Block). b.image) probe
probes_in [] [] same = refl
probes_in [] (p ∷ probe) same = absurd (let no : ⊥ = omega (arith, same) in no)
probes_in (b ∷ blocks) [] same = absurd (let no : ⊥ = omega (arith, same) in no)
probes_in (b ∷ blocks) (p ∷ probe) same = ap (λ xs. p.image ∷ xs) (probes_in blocks probe (omega (arith, same)))

-- dumps with the same titles are of the same length
pub same_titles : (xs ys : List Block) → map (λ (b : Block). b.title) xs ≡ map (λ (b : Block). b.title) ys → length xs ≡ length ys
same_titles xs ys same = sym (length-map xs (λ (b : Block). b.title)) ∙ ap length same ∙ length-map ys (λ (b : Block). b.title)

module _ (a : Admission) (is : IsAdmitted a) where
  pub start_of : AreOf (system_in a) a.dump
  start_of = record {
    slots = sym (slots-system_of a.dump a.probe is.slots);
    images = sym (images_in a.dump a.probe (same_length a.dump a.probe is.slots));
  }

  pub probe_count : length a.probe ≡ length a.dump
  probe_count = sym (same_length a.dump a.probe is.slots)

  pub probes_of : map (λ (b : Block). b.image) a.probe ≡ map (λ (f : Function). f.probe) (system_in a)
  probes_of = sym (probes_in a.dump a.probe (same_length a.dump a.probe is.slots))

  module _ (q : Request) (keep : Kept) (settled : List Block) (to : IsSettledDump q keep a settled) where
    -- there are as many blocks
    settled_count : length settled ≡ length a.dump
    settled_count = same_length settled a.dump to.slots

    pub settled_of : AreSettledBlocks q (system_in a) keep settled
    settled_of =
        sym (images_in settled a.probe (settled_count ∙ same_length a.dump a.probe is.slots))
        ∙ ap (λ (s : System). map (λ (f : Function). f.image) s) to.system
        ∙ map_twice (λ (f : Function). f.image) (settled_function q (system_in a) keep) (system_in a)
