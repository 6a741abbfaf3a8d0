use Rattle.std.proofs.Common.{false, get_or, arith, ap, sym, ◌∙◌}
use Rattle.std.specs.List.{list_any}
use Rattle.pci_spec.specs.Slot.{same_slot}
use Rattle.pci_function.specs.declared.record.Record.{Record}
use Rattle.pci_settle.proofs.WishesLists.{flags_none, flags_next, flags_all}
use Rattle.pci_settle.proofs.wishes_asked.flags_by_function.Goals as goal

pub loop-k-init : goal.loop-k-init
loop-k-init g c = λ slots are. flags_none c.args.records.now slots _ c.new-own.ensures.items

pub loop-k-preserved : goal.loop-k-preserved
loop-k-preserved g c = λ slots are.
    let r = c.index-records-k.result in
    flags_next c.args.records.now slots c.loop-k.k c.loop-k.own.items c.push.new.self.items r _ c.index-records-k.is
    (ap (λ n. get_or c.args.flags.now n false) (c.from.ensures ∙ c.number.ensures.number) ∙ are.each _ c.number.ensures.slot ∙ ap (λ (x : Record). list_any (same_slot x.slot) slots) (sym c.index-records-k.is))
    c.in_ok-push.ensures.items (c.loop-k.invariant slots are)

pub returns : goal.returns
returns g c = λ slots are.
    let past = c.loop-k-test.false in
    let end = c.loop-k.auto.k-end in
    flags_all c.args.records.now slots c.loop-k.k c.loop-k.own.items (omega (arith, past, end)) (c.loop-k.invariant slots are)
