use Rattle.std.proofs.Common.{fold, ap, arith}
use Rattle.std.specs.List.{slice_split}
use Rattle.pci_picture.specs.Lines.{is_feed}
use Rattle.pci_picture.specs.Listings.{list_line}
use Rattle.pci_picture.specs.Roots.{listed_functions}
use Rattle.pci_picture.proofs.Listings.{all_read, behind_shorter, line_read}
use Rattle.pci_picture.proofs.listing.functions_of.Goals as goal

pub loop-rest-init : goal.loop-rest-init
loop-rest-init g c = ap (λ fs. fold list_line (listed_functions fs) (slice_split is_feed c.args.show.now)) c.new-functions.ensures.items

pub loop-rest-preserved : goal.loop-rest-preserved
loop-rest-preserved g c =
    line_read (listed_functions c.loop-rest.functions.items) (listed_functions c.take_line.new.functions.items) c.loop-rest.rest.now
    c.cut_line.result.0.now c.cut_line.result.1.now c.args.show.now c.cut_line.ensures.line c.cut_line.ensures.behind c.in_ok-take_line.ensures c.loop-rest.invariant

pub loop-rest-smaller : goal.loop-rest-smaller
loop-rest-smaller g c = behind_shorter c.loop-rest.rest.now c.cut_line.result.1.now c.cut_line.ensures.behind (grind arith)

pub returns : goal.returns
returns g c = all_read (listed_functions c.loop-rest.functions.items) c.loop-rest.rest.now c.args.show.now (grind arith) c.loop-rest.invariant
