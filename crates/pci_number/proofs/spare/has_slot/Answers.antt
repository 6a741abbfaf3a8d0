use Rattle.std.proofs.Common.{true, false, ◌%◌, ◌≡◌, ◌∙◌}
use Rattle.std.specs.Bool.{nat_eq}
use Rattle.std.proofs.lemmas.Bool.{eq-eqb, ne_eqb}
use Rattle.pci_number.proofs.Spares.{slot_there}
use Rattle.pci_number.proofs.spare.has_slot.Goals as goal

pub returns-then-express-eq1-clause-slot : goal.returns-then-express-eq1-clause-slot
returns-then-express-eq1-clause-slot g c = λ v high last image behind others is seen alone.
    let board = g.P.BoardPort.board in
    let yes : nat_eq (c.in_ok-express.express % 2) 1 ≡ true = eq-eqb (c.in_ok-express.express % 2) 1 c.if-express-eq1.true in
    rw yes at (slot_there (board c.read.new.self) (board c.args.port.now) c.args.slot c.args.place c.in_ok-express.express c.in_ok-capabilities.capabilities
    c.in_ok-express.ensures.same c.in_ok-express.ensures.value c.in_ok-capabilities.ensures.value v high last image behind others is seen alone)

pub returns-else-express-eq1-clause-slot : goal.returns-else-express-eq1-clause-slot
returns-else-express-eq1-clause-slot g c = λ v high last image behind others is seen alone.
    let board = g.P.BoardPort.board in
    let no : nat_eq (c.in_ok-express.express % 2) 1 ≡ false = ne_eqb (c.in_ok-express.express % 2) 1 c.if-express-eq1.false in
    no ∙ (rw no at (slot_there (board c.read.new.self) (board c.args.port.now) c.args.slot c.args.place c.in_ok-express.express c.in_ok-capabilities.capabilities
    c.in_ok-express.ensures.same c.in_ok-express.ensures.value c.in_ok-capabilities.ensures.value v high last image behind others is seen alone))
