use Rattle.std.proofs.Common.{refl, sym, ◌∙◌, subst}
use Rattle.pci_number.specs.Board.{on_bus}
use Rattle.test_numbering.specs.Tree.{nodes_of, IsPutFirst}
use Rattle.test_numbering.proofs.Firsts.{put_hit, put_miss}
use Rattle.test_numbering.proofs.bus.Bus.+put_here.Goals as goal

pub returns-in-Empty : goal.returns-in-Empty
returns-in-Empty t c = rw c.in-Empty.is (refl, refl)

pub returns-then-is_at : goal.returns-then-is_at
returns-then-is_at t c =
    let f = c.in-Holds.function in
    let w = c.write.ensures in
    rw (c.in-Holds.is, w.device, w.function, w.kept.1) (put_hit f.device f.function f.image (nodes_of c.in-Holds.field-1.value) (nodes_of c.in-Holds.others.value) c.args.access c.args.offset w.kept.0 (sym c.is_at.ensures ∙ c.if-is_at.true))

pub returns-else-is_at : goal.returns-else-is_at
returns-else-is_at t c =
    let f = c.in-Holds.function in
    rw c.in-Holds.is (put_miss f.device f.function f.image (nodes_of c.in-Holds.field-1.value) (nodes_of c.in-Holds.others.value) c.args.access c.args.offset c.put_here.result (nodes_of c.put_here.new.self) (sym c.is_at.ensures ∙ c.if-is_at.false) (subst (λ b. IsPutFirst (nodes_of b) (on_bus (nodes_of b) c.args.access) c.args.offset c.put_here.result (nodes_of c.put_here.new.self)) c.deref_mut.ensures.value c.put_here.ensures))
