use Rattle.std.proofs.Common.{◌≡◌, map, take}
use Rattle.std.specs.List.{All}
use Rattle.pci_image.specs.Caps.{place_of, IsCapIn}
use Rattle.pci_image.proofs.capability.chain.Given as goal

abbrev pub invariant-loop-place : goal.invariant-loop-place
invariant-loop-place l = record {
  so_far : map place_of l.found.items ≡ take l.place-index l.place-items;
  bodies : All (IsCapIn l.image.0) l.found.items;
}
