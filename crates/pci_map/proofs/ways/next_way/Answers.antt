use Rattle.std.proofs.Common.{subst, length, ◌≤◌, ap, inl, inr, rules}
use Rattle.pci_claims.specs.Values.{code_given_value}
use Rattle.pci_map.specs.Left.{HasAbove}
use Rattle.pci_map.specs.Windows.{BridgeWindows}
use Rattle.pci_map.proofs.Ups.{low_way}
use Rattle.pci_map.proofs.ways.next_way.Goals as goal

pub returns-in-Host : goal.returns-in-Host
returns-in-Host g c = λ s tree ways has. subst (HasAbove c.args.outline.now.roots s (length c.args.ways.now)) c.in-Host.is has

pub returns-in-Nothing : goal.returns-in-Nothing
returns-in-Nothing g c = λ s tree ways has. inr record {
  unled = subst (HasAbove c.args.outline.now.roots s (length c.args.ways.now)) c.in-Nothing.is has;
  io = ap (λ (ws : BridgeWindows). ws.io) c.none.ensures;
  memory = ap (λ (ws : BridgeWindows). ws.memory) c.none.ensures;
  prefetchable = ap (λ (ws : BridgeWindows). ws.prefetchable) c.none.ensures;
  takes = ap (λ (ws : BridgeWindows). ws.takes) c.none.ensures;
}

pub returns-then-ways-bus : goal.returns-then-ways-bus
returns-then-ways-bus g c = λ s tree ways has.
    let low : length c.args.ways.now ≤ c.in-Bridge.bridge.bus = search rules in
    absurd (low_way (code_given_value c.args.given.now) c.args.outline.now.roots s (length c.args.ways.now) c.in-Bridge.bridge tree.nested (subst (HasAbove c.args.outline.now.roots s (length c.args.ways.now)) c.in-Bridge.is has) low)

pub returns-in_ok-windows-in-Bridge : goal.returns-in_ok-windows-in-Bridge
returns-in_ok-windows-in-Bridge g c = λ s tree ways has. inl record {
  slot = c.in-Bridge.bridge;
  bridge = subst (HasAbove c.args.outline.now.roots s (length c.args.ways.now)) c.in-Bridge.is has;
  windows = c.in_ok-windows-in-Bridge.ensures s tree ways;
}
