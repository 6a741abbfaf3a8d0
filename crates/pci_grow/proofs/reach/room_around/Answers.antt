use Rattle.std.proofs.Common.{ap, ◌∙◌, arith}
use Rattle.std.specs.Option.{option_map}
use Rattle.pci_base.specs.Ranges.{decoded_range_of}
use Rattle.pci_first_fit.specs.Lists.{lists_value}
use Rattle.pci_grow.proofs.RoomOver.{under_none, under_window}
use Rattle.pci_grow.proofs.reach.room_around.Goals as goal

pub returns-in_err-over : goal.returns-in_err-over
returns-in_err-over c = λ q s reach board is part_is told.
    ap (option_map decoded_range_of) c.from_residual.ensures
    ∙ under_none q s c.args.board.now.records.now (lists_value c.args.board.now.lists.now) board c.args.region.now is (omega arith) c.args.class part_is reach
    (λ low. let no : ⊥ = omega (arith, low) in no) c.args.board.now.over.now c.requires.over c.in_err-over.was

pub returns : goal.returns
returns c = λ q s reach board is part_is told.
    ap (option_map decoded_range_of) c.told_of.ensures
    ∙ under_window q s c.args.board.now.records.now (lists_value c.args.board.now.lists.now) board c.args.region.now is (omega arith) c.args.class part_is reach
    (λ low. let no : ⊥ = omega (arith, low) in no) c.args.board.now.over.now c.requires.over c.in_ok-over.over c.in_ok-over.was c.args.reaches.now told
