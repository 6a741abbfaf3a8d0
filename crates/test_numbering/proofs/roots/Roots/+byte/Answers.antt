use Rattle.std.proofs.Common.{◌≡◌, true, false, sym, ◌∙◌, ap, subst, ◌∷◌}
use Rattle.std.proofs.lemmas.Bool.{eq-eqb, ne_eqb}
use Rattle.pci_number.specs.Board.{RootBus, answers}
use Rattle.test_numbering.specs.Tree.{nodes_of, board_of_roots, roots_rise, first_byte_of}
use Rattle.test_numbering.proofs.Nearest.{near_of, byte_on, byte_behind, byte_far}
use Rattle.test_numbering.proofs.roots.Roots.+byte.Goals as goal

pub returns-then-number-bus : goal.returns-then-number-bus
returns-then-number-bus t c =
    let first : RootBus = record { number = c.in-First.number; nodes = nodes_of c.in-First.nodes } in
    let rest = board_of_roots c.in-First.rest.value in
    let rise : roots_rise (first ∷ rest) ≡ true = subst (λ r. roots_rise (board_of_roots r) ≡ true) c.in-First.is c.requires in
    let near = near_of first.number c.bus.result c.args.access.bus (board_of_roots c.deref.result.now) rest c.is_nearest.result true c.is_nearest.ensures c.bus.ensures (ap board_of_roots c.deref.ensures) c.if-is_nearest.true in
    rw c.in-First.is (c.byte_here.ensures ∙ sym (byte_on first rest rise c.args.access c.args.offset near (eq-eqb first.number c.args.access.bus (c.if-number-bus.true ∙ c.bus-then-is_nearest.ensures))))

pub returns-else-number-bus : goal.returns-else-number-bus
returns-else-number-bus t c =
    let first : RootBus = record { number = c.in-First.number; nodes = nodes_of c.in-First.nodes } in
    let rest = board_of_roots c.in-First.rest.value in
    let rise : roots_rise (first ∷ rest) ≡ true = subst (λ r. roots_rise (board_of_roots r) ≡ true) c.in-First.is c.requires in
    let near = near_of first.number c.bus.result c.args.access.bus (board_of_roots c.deref.result.now) rest c.is_nearest.result true c.is_nearest.ensures c.bus.ensures (ap board_of_roots c.deref.ensures) c.if-is_nearest.true in
    rw c.in-First.is (c.byte_behind.ensures ∙ sym (byte_behind first rest rise c.args.access c.args.offset near (ne_eqb first.number c.args.access.bus (λ is. c.if-number-bus.false (is ∙ sym c.bus-then-is_nearest.ensures)))))

pub returns-else-is_nearest : goal.returns-else-is_nearest
returns-else-is_nearest t c =
    let first : RootBus = record { number = c.in-First.number; nodes = nodes_of c.in-First.nodes } in
    let rest = board_of_roots c.in-First.rest.value in
    let rise : roots_rise (first ∷ rest) ≡ true = subst (λ r. roots_rise (board_of_roots r) ≡ true) c.in-First.is c.requires in
    let near = near_of first.number c.bus.result c.args.access.bus (board_of_roots c.deref.result.now) rest c.is_nearest.result false c.is_nearest.ensures c.bus.ensures (ap board_of_roots c.deref.ensures) c.if-is_nearest.false in
    rw c.in-First.is (c.byte.ensures ∙ ap (λ r. first_byte_of (board_of_roots r) (answers (board_of_roots r) c.args.access) c.args.offset) c.deref-else-is_nearest.ensures ∙ sym (byte_far first rest rise c.args.access c.args.offset near))
