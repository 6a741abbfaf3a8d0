-- What a function's file `resource` tells of its address registers.
use Rattle.std.specs.Prelude.{◌≡◌, ℕ, List, ◌++◌, length}
use Rattle.std.specs.List.{All, flat_map}
use Rattle.pci_spec.specs.Resource.{ResourceLine}
use Rattle.pci_spec.specs.SizesText.{IsResourceLine, resource_text}

-- the first seven lines: those of the BAR registers, and that of the ROM
pub record AreFirstLines (text : List ℕ) (lines : List ResourceLine) : Type 0 where
  pub seven : length lines ≡ 7
  pub each : All IsResourceLine lines
  pub rest : List ℕ
  pub whole : text ≡ flat_map resource_text lines ++ rest
