-- What the text at a path tells.
use Rattle.std.proofs.Common.{◌≡◌, ◌≢◌, ℕ, List, Option, None, Some, Bor, option_map, refl, sym, ◌∙◌}
use Rattle.std.proofs.lemmas.Option.{none-some}
use Rattle.judge_spec.specs.Told.{ToldRange}
use Rattle.judge_spec.specs.ToldText.{IsToldTextOf}
use Rattle.pci_dump.specs.declared.read_fault.ReadFault.{ReadFault}
use Rattle.pci_dump.specs.declared.read_fault.ReadFault.TheVariants as faults
use Rattle.pci_dump.specs.ToldFaults.{IsToldTextFault}
use Rattle.pciplan_tasks.specs.Tasks.{IsFaultOfLeft}
use Rattle.pciplan_cli.specs.AlsoTexts.{AreToldBy}

-- what was read is that of the text that was opened
pub are_told : (left opened : Option (List ℕ)) (ranges : List ToldRange) → opened ≡ left
    → ((bytes : List ℕ) → opened ≡ Some bytes → IsToldTextOf bytes ranges)
    → ((bytes : List ℕ) → opened ≡ Some bytes → (others : List ToldRange) → IsToldTextOf bytes others → others ≡ ranges)
    → AreToldBy left ranges
are_told left opened ranges same told only = record {
  text = λ bytes is. told bytes (same ∙ is);
  only = λ bytes is. only bytes (same ∙ is);
}

pub fault_told : (left opened : Option (List ℕ)) (fault : ReadFault) → opened ≡ left
    → ((bytes : List ℕ) → opened ≡ Some bytes → fault ≢ faults.Io → fault ≢ faults.Memory → IsToldTextFault bytes fault)
    → IsFaultOfLeft IsToldTextFault left fault
fault_told left opened fault same told = λ bytes is. told bytes (same ∙ is)

-- where no path is told there is none
pub no_path : (path : Option (Bor (List ℕ))) → option_map (λ (p : Bor (List ℕ)). p.now) path ≡ None → path ≡ None
no_path None none = refl
no_path (Some p) none = absurd (none-some p.now (sym none))
