-- Bridges that take what nobody claims, found block by block.
use Rattle.std.proofs.Common.{◌≡◌, List, [], ◌∷◌, length, map, inl, inr, arith, refl, ◌∙◌}
use Rattle.std.specs.List.{filter}
use Rattle.std.proofs.lemmas.Bool.{cases_Bool}
use Rattle.pci_spec.specs.Text.{Block, slots_of}
use Rattle.pci_spec.specs.System.{system_of}
use Rattle.pci_spec.proofs.Pairing.{same_length}
use Rattle.judge_spec.specs.ModelWords.{Words}
use Rattle.judge_spec.specs.Taken.{takes_by, taking_by}
use Rattle.pci_model.specs.Subtractive.{takes_block, taking_blocks}
use Rattle.pci_model.proofs.Rivals.{takes_shown}

module _ (w : Words) (dump probe : List Block) (same : slots_of dump ≡ slots_of probe) where
  -- the same among some of the blocks and their read backs
  among : (blocks backs : List Block) → length blocks ≡ length backs → taking_blocks w dump blocks ≡ map (λ f. f.slot) (filter (takes_by w (system_of dump probe)) (system_of blocks backs))
  among [] backs h = refl
  among (b ∷ blocks) [] h = absurd (let no : ⊥ = omega (arith, h) in no)
  among (b ∷ blocks) (p ∷ backs) h =
      let own = takes_shown w dump probe b p same in
      let rest = among blocks backs (omega (arith, h)) in
      elim (cases_Bool (takes_block w dump b)) [
        | inl taker ↦ rw (taker, own ∙ taker, rest) refl
        | inr other ↦ rw (other, own ∙ other, rest) refl
      ]

  pub all_taking : taking_blocks w dump dump ≡ taking_by w (system_of dump probe)
  all_taking = among dump probe (same_length dump probe same)
