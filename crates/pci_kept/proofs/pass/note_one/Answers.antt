use Rattle.std.proofs.Common.{refl, ap, get_or, sym, ◌∙◌}
use Rattle.std.proofs.lemmas.List.{get_or_default}
use Rattle.pci_kept.proofs.KeptOff.{slot_at}
use Rattle.pci_kept.proofs.Passing.{is_known}
use Rattle.pci_kept.proofs.Whole.{open_alone}
use Rattle.pci_kept.proofs.Steps.{moved, kept_away, cannot, out_of_place, clashes, stands_there}
use Rattle.pci_kept.proofs.pass.note_one.Goals as goal
use Rattle.pci_kept.proofs.pass.note_one.Goals.{else-is_in_place-via-then-is_in_place+in_ok-take+else-branch, else-is_in_place-via-else-is_in_place}

pub returns-then-not-region-clause-passed : goal.returns-then-not-region-clause-passed
returns-then-not-region-clause-passed g c = λ q s board told off ordered passed.
    let rs = c.args.regions.now in
    let r = get_or rs c.args.index _ in
    let r_is = get_or_default rs c.args.index _ r c.requires.index in
    cannot q s board.system board.nested rs ordered c.args.index c.requires.index r r_is
    c.args.taken.now.level c.go_to.new.self.level c.args.taken.now.io.items c.args.taken.now.mem.items c.go_to.new.self.io.items c.go_to.new.self.mem.items c.args.table.now c.go_to.ensures passed
    c.if-not-region.true

pub returns-then-is_kept_off-clause-passed : goal.returns-then-is_kept_off-clause-passed
returns-then-is_kept_off-clause-passed g c = λ q s board told off ordered passed.
    let rs = c.args.regions.now in
    let r = get_or rs c.args.index _ in
    let r_is = get_or_default rs c.args.index _ r c.requires.index in
    let known = is_known q s board.nested rs ordered c.args.index c.requires.index r r_is in
    kept_away q s board.system board.nested rs ordered c.args.index c.requires.index r r_is
    c.args.taken.now.level c.go_to.new.self.level c.args.taken.now.io.items c.args.taken.now.mem.items c.go_to.new.self.io.items c.go_to.new.self.mem.items c.args.table.now c.go_to.ensures passed
    (sym (c.is_kept_off.ensures q s told known off (slot_at s c.args.board.now.records.now board.has r.function _ (c.requires.ready c.args.index _ c.requires.index).function)) ∙ c.if-is_kept_off.true)

pub returns-then-branch-clause-passed : goal.returns-then-branch-clause-passed
returns-then-branch-clause-passed g c = λ q s board told off ordered passed.
    let rs = c.args.regions.now in
    let r = get_or rs c.args.index _ in
    let r_is = get_or_default rs c.args.index _ r c.requires.index in
    let known = is_known q s board.nested rs ordered c.args.index c.requires.index r r_is in
    let opens = open_alone q s board.nested rs ordered c.args.index c.args.taken.now.level c.args.taken.now.io.items c.args.taken.now.mem.items c.args.table.now passed in
    stands_there q s board.system board.nested rs ordered c.args.index c.requires.index r r_is
    c.args.taken.now.level c.go_to.new.self.level c.args.taken.now.io.items c.args.taken.now.mem.items c.go_to.new.self.io.items c.go_to.new.self.mem.items c.args.table.now c.go_to.ensures passed
    c.is_in_place.result (c.is_in_place.ensures q s board known.is opens) c.in_ok-take.field-0 c.in_ok-take.ensures.free
    c.take.new.self.level c.take.new.self.io.items c.take.new.self.mem.items c.in_ok-take.ensures.level c.in_ok-take.ensures.other c.in_ok-take.ensures.taken
    (sym (c.is_kept_off.ensures q s told known off (slot_at s c.args.board.now.records.now board.has r.function _ (c.requires.ready c.args.index _ c.requires.index).function)) ∙ c.if-is_kept_off.false)
    c.if-not-region.false c.if-is_in_place.true c.if-branch.true c.note.new.self _ refl c.note.ensures.noted _ c.note.ensures.others

pub returns-else-is_in_place-clause-passed : goal.returns-else-is_in_place-clause-passed
returns-else-is_in_place-clause-passed g c = λ q s board told off ordered passed.
    let rs = c.args.regions.now in
    let r = get_or rs c.args.index _ in
    let r_is = get_or_default rs c.args.index _ r c.requires.index in
    let known = is_known q s board.nested rs ordered c.args.index c.requires.index r r_is in
    let opens = open_alone q s board.nested rs ordered c.args.index c.args.taken.now.level c.args.taken.now.io.items c.args.taken.now.mem.items c.args.table.now passed in
    elim c.else-is_in_place.branch [
      | else-is_in_place-via-then-is_in_place+in_ok-take+else-branch w ↦
          moved q s rs _ _ _ _ _ _ _ c.args.table.now (ap (λ t. t.level) w.taken-is) (ap (λ t. t.io.items) w.taken-is) (ap (λ t. t.mem.items) w.taken-is)
          (clashes q s board.system board.nested rs ordered c.args.index c.requires.index r r_is
          c.args.taken.now.level c.go_to.new.self.level c.args.taken.now.io.items c.args.taken.now.mem.items c.go_to.new.self.io.items c.go_to.new.self.mem.items c.args.table.now c.go_to.ensures passed
          c.is_in_place.result (c.is_in_place.ensures q s board known.is opens) w.in_ok-take.field-0 w.in_ok-take.ensures.free
          w.take.new.self.level w.take.new.self.io.items w.take.new.self.mem.items w.in_ok-take.ensures.level w.in_ok-take.ensures.other w.in_ok-take.ensures.taken w.if-branch.false)
      | else-is_in_place-via-else-is_in_place w ↦
          moved q s rs _ _ _ _ _ _ _ c.args.table.now (ap (λ t. t.level) w.taken-is) (ap (λ t. t.io.items) w.taken-is) (ap (λ t. t.mem.items) w.taken-is)
          (out_of_place q s board.system board.nested rs ordered c.args.index c.requires.index r r_is
          c.args.taken.now.level c.go_to.new.self.level c.args.taken.now.io.items c.args.taken.now.mem.items c.go_to.new.self.io.items c.go_to.new.self.mem.items c.args.table.now c.go_to.ensures passed
          c.is_in_place.result (c.is_in_place.ensures q s board known.is opens) w.if-is_in_place.false)
    ]
