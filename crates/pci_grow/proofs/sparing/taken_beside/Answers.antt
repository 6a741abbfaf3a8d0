use Rattle.std.proofs.Common.{arith, ap, sym, subst, ◌∙◌}
use Rattle.pci_spec.specs.System.{Space, window_space}
use Rattle.settle_spec.specs.Lines.{lines_on}
use Rattle.pci_base.specs.WindowKinds.{kind_value}
use Rattle.pci_first_fit.specs.Lines.{AreAdded}
use Rattle.pci_grow.specs.Board.{room_value}
use Rattle.pci_grow.specs.RoomRows.{bus_level}
use Rattle.pci_grow.proofs.SpareBeside.{taken_is}
use Rattle.pci_grow.proofs.sparing.taken_beside.Goals as goal

pub returns-clause-taken : goal.returns-clause-taken
returns-clause-taken g c = λ q s k held told has.
    taken_is q s k c.args.board.now (room_value c.args.room.now) told c.args.bus (omega arith) (window_space (kind_value c.args.class))
    c.new-taken.result.items c.extend_from_slice.new.self.items c.add_lines_on.new.out.items c.extend_from_slice-2.new.self.items c.sort_by_first.new.taken.items c.args.behind.now c.row.result.now held c.window_row-row.result has c.new-taken.ensures.items
    c.in_ok-extend_from_slice.ensures.items
    (subst (λ (space : Space). AreAdded c.extend_from_slice.new.self.items c.add_lines_on.new.out.items (lines_on q space c.args.bus)) c.of.ensures
    (c.in_ok-add_lines_on.ensures.added q c.args.bus told.asked.told (c.level-level.ensures.level ∙ ap (λ roots. bus_level roots c.args.bus) (sym told.asked.roots))))
    c.window_row-row.ensures.row c.row.ensures c.in_ok-extend_from_slice-2.ensures.items c.sort_by_first.ensures.permutation
