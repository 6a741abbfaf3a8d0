use Rattle.std.proofs.Common.{◌-◌, ◌<◌, [], length, Option}
use Rattle.std.specs.List.{All}
use Rattle.pci_spec.specs.System.{System, Function}
use Rattle.pci_spec.specs.Window.{WindowKind}
use Rattle.settle_spec.specs.FirstPlace.{Extent}
use Rattle.settle_spec.specs.Lists.{Request}
use Rattle.settle_spec.specs.Kept.{Kept}
use Rattle.pci_grow.specs.declared.board.BridgeWindow.{BridgeWindow}
use Rattle.pci_grow.specs.Board.{room_value, IsRoom, IsRoomOfKept}
use Rattle.pci_grow.specs.Granting.{AreSpares, AreGranted}
use Rattle.pci_grow.proofs.Granted.{granted_from}
use Rattle.pci_grow.proofs.granting.grant.Given as goal

abbrev pub invariant-loop-done : goal.invariant-loop-done
invariant-loop-done g l = record {
  room : IsRoom (length l.board.records.now) (room_value l.room);
  within : All (λ (w : BridgeWindow). w.bridge < length l.board.records.now) l.denied.items;
  granted : (q : Request) (s : System) (spare : WindowKind → Function → Option Extent) (k : Kept) → AreSpares s l.wanted.slots.now l.wanted.spares.now spare → IsRoomOfKept q s k l.board (room_value l.initial.room)
      → AreGranted q s l.board (granted_from q s l.board spare (record { kept = k; denied = [] }) (l.functions - l.done)) (room_value l.room) l.denied.items;
}
