use Rattle.std.proofs.Common.{refl, sym, ◌∙◌, ap}
use Rattle.pci_number.specs.Board.{on_bus}
use Rattle.test_numbering.specs.Tree.{nodes_of, first_byte}
use Rattle.test_numbering.proofs.Firsts.{byte_hit, byte_miss}
use Rattle.test_numbering.proofs.bus.Bus.+byte_here.Goals as goal

pub returns-in-Empty : goal.returns-in-Empty
returns-in-Empty t c = rw c.in-Empty.is refl

pub returns-then-is_at : goal.returns-then-is_at
returns-then-is_at t c =
    let f = c.in-Holds.function in
    rw (c.in-Holds.is, c.from.ensures) (sym (byte_hit f.device f.function f.image (nodes_of c.in-Holds.field-1.value) (nodes_of c.in-Holds.others.value) c.args.access c.args.offset (sym c.is_at.ensures ∙ c.if-is_at.true)))

pub returns-else-is_at : goal.returns-else-is_at
returns-else-is_at t c =
    let f = c.in-Holds.function in
    rw c.in-Holds.is (c.byte_here.ensures ∙ ap (λ b. first_byte (nodes_of b) (on_bus (nodes_of b) c.args.access) c.args.offset) c.deref.ensures ∙ sym (byte_miss f.device f.function f.image (nodes_of c.in-Holds.field-1.value) (nodes_of c.in-Holds.others.value) c.args.access c.args.offset (sym c.is_at.ensures ∙ c.if-is_at.false)))
