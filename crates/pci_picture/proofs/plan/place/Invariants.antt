use Rattle.std.proofs.Common.{◌≡◌, ◌++◌, take}
use Rattle.pci_picture.specs.Lanes.{AreDeep}
use Rattle.pci_picture.specs.Looks.{Look, looks_of, looks_placed}
use Rattle.pci_picture.specs.Maps.{regions_placed}
use Rattle.pci_picture.specs.Sides.{widths_placed}
use Rattle.pci_picture.proofs.plan.place.Given as goal

abbrev pub invariant-loop-index : goal.invariant-loop-index
invariant-loop-index g l = record {
  regions : regions_placed l.placed.items ≡ regions_placed l.initial.placed.items ++ take l.index l.regions;
  looks : (look : Look) → looks_placed look l.placed.items ≡ looks_placed look l.initial.placed.items ++ looks_of look l.fn.is_lost (take l.index l.regions);
  widths : AreDeep l.regions → widths_placed l.placed.items ≡ widths_placed l.initial.placed.items ++ take l.index l.widths.items;
}
