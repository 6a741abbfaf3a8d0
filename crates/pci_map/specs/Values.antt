-- What is mapped, and the regions of an outline as the definitions have them.
use Rattle.std.specs.Prelude.{ℕ, ◌-◌, ◌/◌, ◌==◌, if◌then◌else◌, List}
use Rattle.pci_spec.specs.Registers.{IO_BASE, MEMORY_BASE}
use Rattle.pci_spec.specs.Window.{WindowKind, IoWindow, MemoryWindow, PrefetchWindow}
use Rattle.pci_spec.specs.System.{System, Space}
use Rattle.pci_spec.specs.System as system
use Rattle.pci_spec.specs.Why as why
use Rattle.judge_spec.specs.Given.{Given}
use Rattle.judge_spec.specs.ToldClaims.{Told}
use Rattle.pci_tree.specs.declared.region.Part.{Part}
use Rattle.pci_tree.specs.declared.region.Part.TheVariants.{Bar, Rom, Window}
use Rattle.pci_tree.specs.declared.region.Region.{Region}
use Rattle.pci_tree.specs.Outline.{Tree}
use Rattle.pci_claims.specs.Found.{region_of_found}

-- what is mapped: a space of a system, with what is given and told
pub record Mapped : Type 0 where
  pub told : Told
  pub given : Given
  pub roots : List ℕ
  pub system : System
  pub space : Space

-- of the root buses of an outline
abbrev pub mapped_of : Told → Given → Tree → System → Space → Mapped
mapped_of told given t s space = record { told = told; given = given; roots = t.roots; system = s; space = space }

-- the window whose register this is
abbrev pub kind_at : ℕ → WindowKind
kind_at reg =
    if reg == IO_BASE then IoWindow else if reg == MEMORY_BASE then MemoryWindow else PrefetchWindow

-- what a region at a register is of its function
abbrev pub part_at : Part → ℕ → system.Part
part_at Bar reg = system.Bar ((reg - 16) / 4)
part_at Rom reg = system.Rom
part_at Window reg = system.Window (kind_at reg)

abbrev pub region_part : Region → system.Part
region_part q = part_at q.part q.reg

abbrev pub value_of : Space → Region → why.Region
value_of space q = region_of_found q (region_part q) space
