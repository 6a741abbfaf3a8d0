-- Writes leave the slots of a dump as they are.
use Rattle.std.proofs.Common.{◌≡◌, ℕ, Bool, true, false, List, [], ◌∷◌, map, refl, ◌∙◌}
use Rattle.std.specs.Prelude.{if◌then◌else◌}
use Rattle.pci_spec.specs.Machine.{Write}
use Rattle.pci_spec.specs.Slot.{same_slot}
use Rattle.pci_spec.specs.Text.{Block, slots_of}
use Rattle.judge_spec.specs.Windows.{with_number}
use Rattle.pci_model_settle.specs.Listed.{block_after, blocks_after}

slot_of_either : (t : Bool) (b : Block) (image : List ℕ) → (if t then record b { image = image } else b).slot ≡ b.slot
slot_of_either true b image = refl
slot_of_either false b image = refl

slot_stays : (u : Write) (b : Block) → (block_after u b).slot ≡ b.slot
slot_stays u b = slot_of_either (same_slot b.slot u.slot) b (with_number u.width u.offset u.value b.image)

pub slots_stay : (writes : List Write) (dump : List Block) → slots_of (blocks_after dump writes) ≡ slots_of dump
slots_stay [] dump = refl
slots_stay (u ∷ writes) dump = slots_stay writes (map (block_after u) dump) ∙ each dump
  where
    each : (blocks : List Block) → slots_of (map (block_after u) blocks) ≡ slots_of blocks
    each [] = refl
    each (b ∷ blocks) = let first = slot_stays u b in let more = each blocks in λ i. first i ∷ more i
