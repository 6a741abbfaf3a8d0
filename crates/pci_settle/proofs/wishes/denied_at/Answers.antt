use Rattle.std.proofs.Common.{map, ap, sym, ◌∙◌}
use Rattle.std.proofs.lemmas.List.{take_all}
use Rattle.pci_function.specs.declared.record.Record.{Record}
use Rattle.pci_grow.specs.Granting.{part_of}
use Rattle.pci_settle.specs.Denied.{slot_and_offset_of, denied_value}
use Rattle.pci_settle.proofs.WishesGranted.{denied_next}
use Rattle.pci_settle.proofs.wishes.denied_at.Goals as goal

pub loop-window-init : goal.loop-window-init
loop-window-init g c = λ s has. ap (map denied_value) c.new-denied.ensures.items

pub bounds-records-window : goal.bounds-records-window
bounds-records-window g c = c.requires c.loop-window.window-index _ c.loop-window-test.true

pub loop-window-preserved : goal.loop-window-preserved
loop-window-preserved g c = λ s has.
    denied_next s c.args.records.now has c.args.windows.now c.loop-window.window-index c.loop-window.denied.items c.push.new.self.items _ c.index-records-window.result _ c.loop-window-test.true
    (c.requires c.loop-window.window-index _ c.loop-window-test.true) c.index-records-window.is
    (ap (λ (x : Record). x.slot) (sym c.index-records-window.is)) c.register.ensures c.in_ok-push.ensures.items (c.loop-window.invariant s has)

pub returns : goal.returns
returns g c = λ s has. c.loop-window.invariant s has ∙ ap (map (λ w. slot_and_offset_of (part_of s w))) (take_all c.loop-window.window-index c.args.windows.now c.loop-window-test.false)
