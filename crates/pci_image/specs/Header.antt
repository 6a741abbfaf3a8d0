-- Which header an image has.
use Rattle.std.specs.Prelude.{◌≡◌, ℕ, IsFalse, List}
use Rattle.pci_spec.specs.Header.{layout}
use Rattle.pci_spec.specs.Fault.{has_no_vendor, has_other_layout}
use Rattle.pci_base.specs.declared.image.Image.{Image}
use Rattle.pci_image.specs.declared.header.Header.{Header}
use Rattle.pci_image.specs.declared.header.Header.TheVariants.{Type0, Type1}

-- a function answers, with a header of one of the two layouts
pub record HasHeader (image : List ℕ) : Type 0 where
  pub vendor : IsFalse (has_no_vendor image)
  pub layout : IsFalse (has_other_layout image)

-- the layout of a header: 0 for a device, 1 for a bridge
abbrev pub header_layout : Header → ℕ
header_layout (Type0 header) = 0
header_layout (Type1 header) = 1

-- the header is of the image's layout, and is the image's own
abbrev pub IsHeaderOf : Image → Header → Type 0
IsHeaderOf image (Type0 header) = (layout image.0 ≡ 0) × (header.image.now ≡ image)
IsHeaderOf image (Type1 header) = (layout image.0 ≡ 1) × (header.image.now ≡ image)
