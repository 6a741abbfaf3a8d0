-- The bridges of a dump that are given beside it, as they are found.
use Rattle.std.specs.Prelude.{◌≡◌, List, Option, map}
use Rattle.pci_spec.specs.Text.{Block}
use Rattle.pci_spec.specs.System.{system_of}
use Rattle.pci_claims.specs.Values.{legacy_value}
use Rattle.pci_model.specs.declared.words.Words.{Words}
use Rattle.pciplan_tasks.specs.FaultsAnswers.{isa_by, isa_of, legacy_by, palette_by, snoop_of, taking_of, vga_of}
use Rattle.pciplan_tasks.specs.declared.said.Bridges.{Bridges}

pub record AreBridgesBy {A : Type 0} (words : Option Words) (dump : List Block)
    (found : Bridges A) : Type 0 where
  pub legacy : map legacy_value found.legacy.items
      ≡ legacy_by (vga_of words) (system_of dump dump)
  pub isa : found.isa.items ≡ isa_by (isa_of words) (system_of dump dump)
  pub palette : map legacy_value found.palette.items
      ≡ palette_by (snoop_of words) (vga_of words) (system_of dump dump)
  pub taking : found.taking.items ≡ taking_of words (system_of dump dump)
