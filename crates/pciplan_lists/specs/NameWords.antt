-- What a word of `--model` names, as the code has it, and words with one more.
use Rattle.std.specs.Prelude.{◌≡◌, ◌⊎◌, ◌↔◌}
use Rattle.judge_spec.specs.ModelWords as model
use Rattle.pci_model.specs.WordsValue.{vga_value}
use Rattle.pciplan_lists.specs.declared.model_words.Name.{Name}
use Rattle.pciplan_lists.specs.declared.model_words.Name.TheVariants as names

abbrev pub name_value : Name → model.Name
name_value names.Cardbus = model.Cardbus
name_value names.Ide = model.Ide
name_value names.Isa = model.Isa
name_value names.Power = model.Power
name_value names.Reset = model.Reset
name_value names.Snoop = model.Snoop
name_value names.Subtractive = model.Subtractive
name_value names.Unclaimed = model.Unclaimed
name_value names.Unnumbered = model.Unnumbered
name_value (names.Legacy vga) = model.Legacy (vga_value vga)
name_value names.Windows = model.Windows

-- what is named counts, too, and didn't before
pub record IsNameAdded (old new : model.Words) (name : model.Name) : Type 0 where
  pub fresh : model.IsCounted old name → ⊥
  pub counted : (n : model.Name) → model.IsCounted new n ↔ (model.IsCounted old n ⊎ (n ≡ name))

-- no words count what is named beside these
pub record IsTooMuch (old : model.Words) (name : model.Name) : Type 0 where
  pub other : model.Name
  pub counted : model.IsCounted old other
  pub never : (w : model.Words) → model.IsCounted w other → model.IsCounted w name → other ≡ name
