use Rattle.std.proofs.Common.{arith, sym}
use Rattle.std.specs.List.{All}
use Rattle.std.proofs.lemmas.List.Elements.{All-contains}
use Rattle.pci_function.specs.declared.record.Record.{Record}
use Rattle.pci_settle_places.specs.Shown.{HasRegister}
use Rattle.pci_settle.proofs.WishesLists.{told_at, own_none, own_next, own_end}
use Rattle.pci_settle.proofs.wishes_before.own_before.Goals as goal

pub loop-k-init : goal.loop-k-init
loop-k-init g c = own_none c.args.records.now c.args.tables.now _ c.new-parts.ensures.items

pub bounds-tables-k : goal.bounds-tables-k
bounds-tables-k g c = (let size = c.requires.places in let less = c.loop-k-test.true in omega (arith, size, less))

pub bounds-tables-k-in-loop-k : goal.bounds-tables-k-in-loop-k
bounds-tables-k-in-loop-k g c = (let size = c.requires.staying in let less = c.loop-k-test.true in omega (arith, size, less))

pub add_own-requires : goal.add_own-requires
add_own-requires g c = All-contains (λ (r : Record). All HasRegister r.bars.items) c.args.records.now c.index-records-k.result c.requires.registers (c.loop-k.k, c.loop-k-test.true, sym c.index-records-k.is)

pub loop-k-preserved : goal.loop-k-preserved
loop-k-preserved g c =
    let less = c.loop-k-test.true in
    own_next c.args.records.now c.args.tables.now c.loop-k.k c.loop-k.parts.items c.add_own.new.parts.items c.index-records-k.result _ _
    (told_at c.args.records.now c.args.tables.now c.loop-k.k c.index-records-k.result _ _ less c.index-records-k.is c.requires.places c.requires.staying)
    c.in_ok-add_own.ensures c.loop-k.invariant

pub returns : goal.returns
returns g c = (let past = c.loop-k-test.false in let end = c.loop-k.auto.k-end in own_end c.args.records.now c.args.tables.now c.loop-k.k c.loop-k.parts.items (omega (arith, past, end)) c.loop-k.invariant)
