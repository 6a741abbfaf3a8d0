-- What places are found by, and what is asked for that leaves it so.
use Rattle.std.specs.Prelude.{ℕ, List}
use Rattle.pci_spec.specs.System.{System}
use Rattle.settle_spec.specs.Lists.{Request}
use Rattle.settle_spec.specs.Kept.{Kept}
use Rattle.pci_tree.specs.Admission.{Admission}
use Rattle.pci_place.specs.Above.{system_in}
use Rattle.pci_first_fit.specs.declared.own.Terms.{Terms}
use Rattle.pci_first_fit.specs.Buses.{Classing, TellsClasses}
use Rattle.pci_first_fit.specs.Keeping.{TellsKept}
use Rattle.pci_first_fit.specs.Lines.{AreLines}
use Rattle.pci_kept.specs.Held.{AreHeld}
use Rattle.pci_settle_places.specs.declared.staying.Staying.{Staying}
use Rattle.pci_settle_places.specs.declared.setting.Setting as declared

-- what places are found by: the root buses, the system, what is told of lists and slots, and what stays
pub record PlaceSetting : Type 0 where
  pub roots : List ℕ
  pub system : System
  pub terms : Terms
  pub staying : Staying

abbrev pub setting : List ℕ → System → Terms → Staying → PlaceSetting
setting roots s t st = record { roots = roots; system = s; terms = t; staying = st }

abbrev pub place_setting_of : Admission → Terms → Staying → PlaceSetting
place_setting_of a t st = setting a.roots (system_in a) t st

abbrev pub place_setting_value : {B : Type 0} → declared.Setting B → PlaceSetting
place_setting_value p = place_setting_of p.admitted.now p.terms p.staying

-- what it tells classes by
abbrev pub classing : PlaceSetting → Classing
classing p = record {
  roots = p.roots;
  system = p.system;
  terms = p.terms;
  overs = p.staying.left.over.now;
}

-- what is asked for below its roots, of which its terms are told, leaves these windows where they stand, and keeps this
pub record IsStaying (q : Request) (keep : Kept) (p : PlaceSetting) : Type 0 where
  pub left : TellsClasses (classing p) q
  pub keeps_is : TellsKept q p.system keep p.staying.left
  pub held_is : AreHeld q p.system keep p.staying.held.now
  pub lines_are : AreLines q.roots q.told.ranges p.staying.lines.now
