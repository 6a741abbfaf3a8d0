use Rattle.std.proofs.Common.{length, arith, ap, subst}
use Rattle.pci_settle.specs.Before.{AreWindowsBefore}
use Rattle.pci_settle.proofs.WishesLists.{windows_step}
use Rattle.pci_settle.proofs.wishes_before.windows_before.Goals as goal

pub loop-k-init : goal.loop-k-init
loop-k-init g c = record {
  count = ap length c.new-table.ensures.items;
  each = λ k r p kept class less. absurd (let no : ⊥ = omega (arith, less) in no);
}

pub bounds-tables-k : goal.bounds-tables-k
bounds-tables-k g c = (let size = c.requires.places in let less = c.loop-k-test.true in omega (arith, size, less))

pub bounds-tables-k-in-loop-k : goal.bounds-tables-k-in-loop-k
bounds-tables-k-in-loop-k g c = (let size = c.requires.staying in let less = c.loop-k-test.true in omega (arith, size, less))

pub loop-k-preserved : goal.loop-k-preserved
loop-k-preserved g c =
    windows_step c.args.records.now c.args.tables.now c.requires.places c.requires.staying c.loop-k.k c.loop-k-test.true c.index-records-k.result c.index-records-k.is _ _
    c.loop-k.table.items c.push.new.self.items c.windows_of-windows.result _ c.ranges_told-grown.ensures c.windows_of-windows.ensures c.in_ok-push.ensures.items c.loop-k.invariant

pub returns-clause-count : goal.returns-clause-count
returns-clause-count g c = (let past = c.loop-k-test.false in let end = c.loop-k.auto.k-end in let size = c.loop-k.invariant.count in omega (arith, past, end, size))

pub returns-clause-each : goal.returns-clause-each
returns-clause-each g c =
    subst (λ m. AreWindowsBefore c.args.records.now c.args.tables.now m c.loop-k.table.items) (let past = c.loop-k-test.false in let end = c.loop-k.auto.k-end in omega (arith, past, end)) c.loop-k.invariant.each
