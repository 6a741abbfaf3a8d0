use Rattle.std.proofs.Common.{◌≡◌, ◌+◌, ◌-◌, ◌<◌, ℕ, length, arith, sym, subst, refl, []}
use Rattle.std.specs.List.{All}
use Rattle.std.proofs.lemmas.List.Elements.{All-nil}
use Rattle.settle_spec.specs.Wishes.{Granted, with_spares_of}
use Rattle.pci_place.specs.Items.{function_in}
use Rattle.pci_grow.specs.declared.board.BridgeWindow.{BridgeWindow}
use Rattle.pci_grow.specs.Board.{room_value}
use Rattle.pci_grow.specs.Granting.{AreGranted}
use Rattle.pci_grow.proofs.Facts.{long}
use Rattle.pci_grow.proofs.Granted.{granted_from, all_none, all_next}
use Rattle.pci_grow.proofs.granting.grant.Goals as goal

pub loop-done-init : goal.loop-done-init
loop-done-init gg c = record {
  room = c.requires.room;
  within = subst (All (λ (w : BridgeWindow). w.bridge < length c.args.board.now.records.now)) (sym c.new-denied.ensures.items) (All-nil (λ (w : BridgeWindow). w.bridge < length c.args.board.now.records.now));
  granted = λ q s spare k are told.
      let size = long q s c.args.board.now told.asked in
      let first : Granted = record { kept = k; denied = [] } in
      subst (AreGranted q s c.args.board.now (granted_from q s c.args.board.now spare first (length c.args.board.now.records.now - 0)) (room_value c.args.room.now)) (sym c.new-denied.ensures.items)
      (all_none q s c.args.board.now spare first (length c.args.board.now.records.now - 0) (room_value c.args.room.now) [] (omega (arith, size)) (record { told_is = told; denied_are = refl }));
}

pub loop-done-preserved : goal.loop-done-preserved
loop-done-preserved gg c = record {
  room = c.grant_bridge.ensures.room;
  within = c.grant_bridge.ensures.within;
  granted = λ q s spare k are told.
      let size = long q s c.args.board.now told.asked in
      let count = length c.args.board.now.records.now in
      let below = c.loop-done-test.true in
      let first : Granted = record { kept = k; denied = [] } in
      let was = c.loop-done.invariant.granted q s spare k are told in
      let next = c.in_ok-grant_bridge.ensures.granted q s spare (granted_from q s c.args.board.now spare first (count - c.loop-done.done)) are was in
      let n : ℕ = count - 1 - c.loop-done.done in
      let one : count - c.loop-done.done ≡ n + 1 = omega (arith, below) in
      let two : n ≡ count - (c.loop-done.done + 1) = omega arith in
      subst (λ m. AreGranted q s c.args.board.now (granted_from q s c.args.board.now spare first m) (room_value c.grant_bridge.new.room) c.grant_bridge.new.denied.items) two
      (all_next q s c.args.board.now spare first n (room_value c.grant_bridge.new.room) c.grant_bridge.new.denied.items (omega (arith, below, size))
      (subst (λ m. AreGranted q s c.args.board.now (with_spares_of q s spare (function_in s n) (granted_from q s c.args.board.now spare first m)) (room_value c.grant_bridge.new.room) c.grant_bridge.new.denied.items) one next));
}

pub returns-clause-granted : goal.returns-clause-granted
returns-clause-granted gg c = λ q s spare k are told.
    let past = c.loop-done-test.false in
    let first : Granted = record { kept = k; denied = [] } in
    let none : length c.args.board.now.records.now - c.loop-done.done ≡ 0 = omega (arith, past) in
    subst (λ m. AreGranted q s c.args.board.now (granted_from q s c.args.board.now spare first m) (room_value c.loop-done.room) c.loop-done.denied.items) none
    (c.loop-done.invariant.granted q s spare k are told)
