use Rattle.std.proofs.Common.{arith, refl}
use Rattle.pci_picture.proofs.Listings.{behind_shorter}
use Rattle.pci_picture.proofs.Named.{all_titled, line_titled, rises_titled}
use Rattle.pci_picture.specs.Named.{with_titles}
use Rattle.pci_picture.specs.Roots.{listed_functions}
use Rattle.pci_picture.proofs.listing.give_titles.Goals as goal

pub give_title-requires : goal.give_title-requires
give_title-requires c = c.loop-rest.invariant.rise

pub loop-rest-init : goal.loop-rest-init
loop-rest-init c = record { given = refl; rise = c.requires }

pub loop-rest-preserved : goal.loop-rest-preserved
loop-rest-preserved c =
    let before = listed_functions c.loop-rest.functions in
    record {
      given = line_titled before (listed_functions c.give_title.new.functions) (with_titles c.args.titles.now (listed_functions c.args.functions.now))
          c.loop-rest.rest.now c.cut_line.result.0.now c.cut_line.result.1.now c.cut_line.ensures.line c.cut_line.ensures.behind c.give_title.ensures c.loop-rest.invariant.given;
      rise = rises_titled before (listed_functions c.give_title.new.functions) c.cut_line.result.0.now c.give_title.ensures c.loop-rest.invariant.rise;
    }

pub loop-rest-smaller : goal.loop-rest-smaller
loop-rest-smaller c = behind_shorter c.loop-rest.rest.now c.cut_line.result.1.now c.cut_line.ensures.behind (grind arith)

pub returns : goal.returns
returns c =
    all_titled (listed_functions c.loop-rest.functions) (with_titles c.args.titles.now (listed_functions c.args.functions.now)) c.loop-rest.rest.now (grind arith) c.loop-rest.invariant.given
