use Rattle.std.proofs.Common.{ap, subst, sym, ◌∙◌}
use Rattle.pci_base.specs.Space.{space_of}
use Rattle.pci_map.specs.Windows.{BridgeWindows}
use Rattle.pci_map.specs.Ways.{io_spot, memory_spot, prefetchable_spot, IsJudgedAt}
use Rattle.pci_map.proofs.Firsts.{io_any, memory_any, prefetch_any}
use Rattle.pci_map.proofs.left.first_window.Goals as goal

pub returns-in-Io-clause-none : goal.returns-in-Io-clause-none
returns-in-Io-clause-none g c = λ io memory prefetchable. c.holding.ensures.none (ap (λ (w : BridgeWindows). w.io) c.windows.view_is ∙ io)

pub returns-then-is_some-clause-none : goal.returns-then-is_some-clause-none
returns-then-is_some-clause-none g c = λ io memory prefetchable. c.holding-memory.ensures.none (ap (λ (w : BridgeWindows). w.memory) c.windows.view_is ∙ memory)

pub returns-else-is_some-clause-none : goal.returns-else-is_some-clause-none
returns-else-is_some-clause-none g c = λ io memory prefetchable. c.holding-in-Mem.ensures.none (ap (λ (w : BridgeWindows). w.prefetchable) c.windows.view_is ∙ prefetchable)

pub returns-in-Io-clause-first : goal.returns-in-Io-clause-first
returns-in-Io-clause-first g c = λ given t s bus tree above address.
    io_any given s tree.one above.bridge.b above.bridge.leads.0 above.bridge.leads.1 above.slot above.bridge.named c.args.address t.roots (space_of c.args.space) c.holding.result (ap space_of c.in-Io.is) address
    (c.holding.ensures.first given t s (io_spot above.slot) tree
    (subst (λ (w : BridgeWindows). IsJudgedAt given t.roots s (io_spot above.slot) w.io) (sym c.windows.view_is) above.windows.io))

pub returns-then-is_some-clause-first : goal.returns-then-is_some-clause-first
returns-then-is_some-clause-first g c = λ given t s bus tree above address.
    memory_any given s tree.one above.bridge.b above.bridge.leads.0 above.bridge.leads.1 above.slot above.bridge.named c.args.address t.roots (space_of c.args.space) c.holding-memory.result (ap space_of c.in-Mem.is)
    (sym c.is_some.ensures ∙ c.if-is_some.true)
    (c.holding-memory.ensures.first given t s (memory_spot above.slot) tree
    (subst (λ (w : BridgeWindows). IsJudgedAt given t.roots s (memory_spot above.slot) w.memory) (sym c.windows.view_is) above.windows.memory))

pub returns-else-is_some-clause-first : goal.returns-else-is_some-clause-first
returns-else-is_some-clause-first g c = λ given t s bus tree above address.
    prefetch_any given s tree.one above.bridge.b above.bridge.leads.0 above.bridge.leads.1 above.slot above.bridge.named c.args.address t.roots (space_of c.args.space) c.holding-memory.result c.holding-in-Mem.result
    (ap space_of c.in-Mem.is) (sym c.is_some.ensures ∙ c.if-is_some.false) address
    (c.holding-memory.ensures.first given t s (memory_spot above.slot) tree
    (subst (λ (w : BridgeWindows). IsJudgedAt given t.roots s (memory_spot above.slot) w.memory) (sym c.windows.view_is) above.windows.memory))
    (c.holding-in-Mem.ensures.first given t s (prefetchable_spot above.slot) tree
    (subst (λ (w : BridgeWindows). IsJudgedAt given t.roots s (prefetchable_spot above.slot) w.prefetchable) (sym c.windows.view_is) above.windows.prefetchable))
