-- A function as it is to be once all has its place.
use Rattle.std.specs.Prelude.{◌≡◌, ℕ, ◌+◌, Bool, if◌then◌else◌}
use Rattle.pci_spec.specs.Machine.{without_low}
use Rattle.pci_spec.specs.System.{System, Function, Io, Memory}
use Rattle.settle_spec.specs.Lists.{Request}
use Rattle.settle_spec.specs.LiveLaws.{has_live_behind, is_live}
use Rattle.settle_spec.specs.Kept.{Kept}
use Rattle.pci_function.specs.declared.record.Record.{Record}
use Rattle.pci_place.specs.declared.above.Above.{Above}
use Rattle.pci_place.specs.Above.{IsAbove}
use Rattle.pci_first_fit.specs.declared.own.Terms.{Terms}
use Rattle.pci_first_fit.specs.Slots.{demand_of}
use Rattle.pci_first_fit.specs.Own.{AreTerms}
use Rattle.pci_settle_places.specs.declared.places.Places.{Places}
use Rattle.pci_settle_places.specs.declared.settled.Behind.{Behind}
use Rattle.pci_settle_places.specs.Claims.{is_enabled_by}

-- Command, where something live in I/O or memory is behind the function or not
abbrev pub command_by : Places → Above → Terms → Record → Bool → Bool → ℕ
command_by p above t r io memory =
    without_low 4 r.command + (if is_enabled_by Io p above t r io then 1 else 0)
    + (if is_enabled_by Memory p above t r memory then 2 else 0)

-- what tells its Command beside its places: the windows above it, the lists, and whether something live is behind it
pub record IsCommandTold (q : Request) (s : System) (keep : Kept) (f : Function) (above : Above)
    (t : Terms) (behind : Behind) : Type 0 where
  pub over : IsAbove s f.slot.bus above
  pub terms : AreTerms (demand_of q) t
  pub io : behind.io ≡ has_live_behind s (is_live q s keep Io) f
  pub memory : behind.memory ≡ has_live_behind s (is_live q s keep Memory) f
