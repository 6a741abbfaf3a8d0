use Rattle.std.proofs.Common.{◌≡◌, true, false, sym, ◌∙◌, ap, subst, ◌∷◌}
use Rattle.std.proofs.lemmas.Bool.{eq-eqb, ne_eqb}
use Rattle.pci_number.specs.Board.{RootBus, answers}
use Rattle.test_numbering.specs.Tree.{nodes_of, board_of_roots, roots_rise, IsPutFirstOf}
use Rattle.test_numbering.proofs.Nearest.{near_of, put_on, put_behind, put_far, put_rise}
use Rattle.test_numbering.proofs.roots.Roots.+put.Goals as goal

pub returns-then-number-bus-clause-put : goal.returns-then-number-bus-clause-put
returns-then-number-bus-clause-put t c =
    let first : RootBus = record { number = c.in-First.number; nodes = nodes_of c.in-First.nodes } in
    let rest = board_of_roots c.in-First.rest.value in
    let rise : roots_rise (first ∷ rest) ≡ true = subst (λ r. roots_rise (board_of_roots r) ≡ true) c.in-First.is c.requires in
    let near = near_of first.number c.bus.result c.args.access.bus (board_of_roots c.deref.result.now) rest c.is_nearest.result true c.is_nearest.ensures c.bus.ensures (ap board_of_roots c.deref.ensures) c.if-is_nearest.true in
    rw c.in-First.is (put_on first rest rise c.args.access c.args.offset near (eq-eqb first.number c.args.access.bus (c.if-number-bus.true ∙ c.bus-then-is_nearest.ensures)) c.put_here.result (nodes_of c.put_here.new.self) c.put_here.ensures)

pub returns-else-number-bus-clause-put : goal.returns-else-number-bus-clause-put
returns-else-number-bus-clause-put t c =
    let first : RootBus = record { number = c.in-First.number; nodes = nodes_of c.in-First.nodes } in
    let rest = board_of_roots c.in-First.rest.value in
    let rise : roots_rise (first ∷ rest) ≡ true = subst (λ r. roots_rise (board_of_roots r) ≡ true) c.in-First.is c.requires in
    let near = near_of first.number c.bus.result c.args.access.bus (board_of_roots c.deref.result.now) rest c.is_nearest.result true c.is_nearest.ensures c.bus.ensures (ap board_of_roots c.deref.ensures) c.if-is_nearest.true in
    rw c.in-First.is (put_behind first rest rise c.args.access c.args.offset near (ne_eqb first.number c.args.access.bus (λ is. c.if-number-bus.false (is ∙ sym c.bus-then-is_nearest.ensures))) c.put_behind.result (nodes_of c.put_behind.new.self) c.put_behind.ensures)

pub returns-else-is_nearest-clause-put : goal.returns-else-is_nearest-clause-put
returns-else-is_nearest-clause-put t c =
    let first : RootBus = record { number = c.in-First.number; nodes = nodes_of c.in-First.nodes } in
    let rest = board_of_roots c.in-First.rest.value in
    let rise : roots_rise (first ∷ rest) ≡ true = subst (λ r. roots_rise (board_of_roots r) ≡ true) c.in-First.is c.requires in
    let near = near_of first.number c.bus.result c.args.access.bus (board_of_roots c.deref.result.now) rest c.is_nearest.result false c.is_nearest.ensures c.bus.ensures (ap board_of_roots c.deref.ensures) c.if-is_nearest.false in
    let put = subst (λ r. IsPutFirstOf (board_of_roots r) (answers (board_of_roots r) c.args.access) c.args.offset (board_of_roots c.put.new.self)) c.deref_mut.ensures.value c.put.ensures.put in
    rw c.in-First.is (put_far first rest rise c.args.access c.args.offset near (board_of_roots c.put.new.self) put)

pub returns-else-is_nearest-clause-rise : goal.returns-else-is_nearest-clause-rise
returns-else-is_nearest-clause-rise t c =
    let first : RootBus = record { number = c.in-First.number; nodes = nodes_of c.in-First.nodes } in
    let rest = board_of_roots c.in-First.rest.value in
    let rise : roots_rise (first ∷ rest) ≡ true = subst (λ r. roots_rise (board_of_roots r) ≡ true) c.in-First.is c.requires in
    let near = near_of first.number c.bus.result c.args.access.bus (board_of_roots c.deref.result.now) rest c.is_nearest.result false c.is_nearest.ensures c.bus.ensures (ap board_of_roots c.deref.ensures) c.if-is_nearest.false in
    let put = subst (λ r. IsPutFirstOf (board_of_roots r) (answers (board_of_roots r) c.args.access) c.args.offset (board_of_roots c.put.new.self)) c.deref_mut.ensures.value c.put.ensures.put in
    put_rise (first ∷ rest) (first ∷ board_of_roots c.put.new.self) (answers (first ∷ rest) c.args.access) c.args.offset (put_far first rest rise c.args.access c.args.offset near (board_of_roots c.put.new.self) put) rise
