-- The layouts as the definitions have them.
use Rattle.std.specs.Prelude.{ℕ, Bool, ◌==◌}
use Rattle.pci_image.specs.declared.layout.Layout.{Layout}
use Rattle.pci_image.specs.declared.layout.Layout.TheVariants.{Device, Bridge}

-- the number in Header Type
abbrev pub layout_number : Layout → ℕ
layout_number Device = 0
layout_number Bridge = 1

-- whether it is a bridge's
abbrev pub is_of_bridge : Layout → Bool
is_of_bridge layout = layout_number layout == 1
