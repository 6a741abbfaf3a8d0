use Rattle.std.proofs.Common.{arith, ap, refl, sym, subst}
use Rattle.std.specs.List.{All}
use Rattle.pci_picture.specs.BoardLooks.{look_read}
use Rattle.pci_picture.specs.Maps.{AreMembersOf}
use Rattle.pci_picture.specs.Members.{AreIndentedBySection, AreSortedBySection}
use Rattle.pci_picture.specs.Roots.{IsLostByRoot, listed_functions}
use Rattle.pci_picture.proofs.Boxes.{up_to}
use Rattle.pci_picture.proofs.Sections.{no_section, section_more, all_sections}
use Rattle.pci_picture.proofs.picture.draw_sections.Goals as goal

pub loop-begin-init : goal.loop-begin-init
loop-begin-init g c = record {
  within = omega arith;
  down = omega arith;
  adds = no_section (look_read c.args.board.now) c.args.first.now c.as_slice-members.result.now c.args.canvas.now;
}

pub loop-begin-preserved : goal.loop-begin-preserved
loop-begin-preserved g c =
    let are = subst (AreMembersOf c.args.board.now.map.lines.items) (sym c.as_slice-members.ensures.value) c.in_ok-sorted.ensures.moved in
    let indented = subst AreIndentedBySection (sym c.as_slice-members.ensures.value) c.in_ok-sorted.ensures.indented in
    record {
      within = c.section_end-end.ensures.within;
      down = up_to c.args.first.now.y c.loop-begin.y c.in_ok-y.y c.loop-begin.invariant.down c.in_ok-y.ensures.down;
      adds =
          section_more (look_read c.args.board.now) c.args.first.now _ c.as_slice-members.result.now _ c.loop-begin.begin c.section_end-end.result c.loop-begin.y c.in_ok-y.y c.index-members-begin.result
          c.args.canvas.now c.loop-begin.canvas c.draw_section.new.canvas
          c.section_end-end.ensures.some c.section_end-end.ensures.within c.index-members-begin.is refl c.in_ok-y.ensures.down
          are.sorted indented.lost_last c.section_end-end.ensures.alike (record { x_is = refl; width_is = refl; column_is = refl })
          (sym (ap (λ m. m.section) c.index-members-begin.is)) refl c.loop-begin.invariant.adds c.in_ok-y.ensures.drawn;
    }

pub returns-clause-drawn : goal.returns-clause-drawn
returns-clause-drawn g c =
    let functions = listed_functions c.args.board.now.functions.items in
    all_sections (look_read c.args.board.now) c.args.first.now functions c.args.board.now.map.lines.items c.as_slice-members.result.now c.loop-begin.begin c.loop-begin.y c.args.canvas.now c.loop-begin.canvas
    (omega arith) (subst (AreMembersOf c.args.board.now.map.lines.items) (sym c.as_slice-members.ensures.value) c.in_ok-sorted.ensures.moved)
    (subst AreIndentedBySection (sym c.as_slice-members.ensures.value) c.in_ok-sorted.ensures.indented)
    (subst (AreSortedBySection c.args.board.now.map.lines.items) (sym c.as_slice-members.ensures.value) c.in_ok-sorted.ensures.sorted)
    (subst (All (IsLostByRoot functions)) (sym c.as_slice-members.ensures.value) c.in_ok-sorted.ensures.by_root)
    c.loop-begin.invariant.adds
