-- Whether a part lies where it can stand, as the code tells it.
use Rattle.std.specs.Prelude.{Bool, ◌&&◌}
use Rattle.pci_spec.specs.Window.{WindowKind}
use Rattle.pci_base.specs.Ranges.{decoded_range_of}
use Rattle.pci_base.specs.WindowKinds.{kind_value}
use Rattle.pci_image.specs.declared.window.Windows.{Windows}
use Rattle.pci_image.specs.Windows.{window_of}
use Rattle.pci_tree.specs.Passes.{range_in}
use Rattle.pci_kept.specs.declared.region.Region.{Region}
use Rattle.pci_first_fit.specs.declared.kept.Kept.{Kept}
use Rattle.pci_first_fit.specs.Kept.{kept_of}
use Rattle.pci_first_fit.specs.Over.{range_holds}
use Rattle.pci_spec.specs.System as system

abbrev pub held_in : Windows → WindowKind → Region → Bool
held_in w c r = range_holds (range_in (window_of w c)) (decoded_range_of r.range)

abbrev pub is_in_windows : Windows → Kept → Region → Bool
is_in_windows w over r =
    held_in w (kind_value r.class) r && kept_of over (system.Window (kind_value r.class))
