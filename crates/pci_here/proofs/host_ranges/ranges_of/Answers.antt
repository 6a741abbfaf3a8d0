use Rattle.std.proofs.Common.{sym, ◌∙◌, ap, subst, length, arith}
use Rattle.pci_tree.specs.Roots.{buses_of}
use Rattle.pci_here.specs.Parts.{parts_left}
use Rattle.pci_here.specs.HostRanges.{HasFound, file_lines}
use Rattle.pci_here.proofs.Told.{found_none, found_all}
use Rattle.pci_here.proofs.host_ranges.ranges_of.Goals as goal

pub lines-init : goal.lines-init
lines-init c =
    subst (λ found. HasFound c.args.domain (buses_of c.args.roots.now) (file_lines c.args.text.now) (file_lines c.args.text.now) found) (sym c.new-ranges.ensures.items)
    (found_none c.args.domain (buses_of c.args.roots.now) (file_lines c.args.text.now))

pub lines-preserved : goal.lines-preserved
lines-preserved c =
    c.in_ok-add_range.ensures (file_lines c.args.text.now) (parts_left 10 c.first_part.result.1)
    (subst (λ l. HasFound c.args.domain (buses_of c.args.roots.now) (file_lines c.args.text.now) l c.lines.ranges.items)
    (ap (parts_left 10) c.in-Some.is ∙ c.first_part.ensures) c.lines.invariant)

pub lines-smaller : goal.lines-smaller
lines-smaller c = omega (arith, ap (λ o. length (parts_left 10 o)) c.in-Some.is, ap length c.first_part.ensures)

pub returns : goal.returns
returns c =
    found_all c.args.domain (buses_of c.args.roots.now) (file_lines c.args.text.now) (parts_left 10 c.lines.left) c.lines.ranges.items
    (ap (parts_left 10) c.in_default.is) c.lines.invariant
