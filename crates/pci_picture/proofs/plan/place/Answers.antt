use Rattle.std.proofs.Common.{◌≡◌, ◌∙◌, ◌++◌, refl, ap, arith, length}
use Rattle.std.proofs.lemmas.Grind.{common_steps}
use Rattle.std.proofs.lemmas.List.{take_all}
use Rattle.pci_picture.specs.Looks.{looks_of, looks_placed}
use Rattle.pci_picture.specs.Sides.{widths_placed}
use Rattle.pci_picture.proofs.Looks.{looks_more}
use Rattle.pci_picture.proofs.plan.place.Goals as goal

pub returns-clause-widths : goal.returns-clause-widths
returns-clause-widths g c indented =
    let widths = c.in_ok-widths.widths.items in
    let count : length widths ≡ length c.args.regions.now = c.in_ok-widths.ensures.count indented.deep in
    record {
      more = widths;
      added = c.loop-index.invariant.widths indented.deep
          ∙ ap (λ l. widths_placed c.args.placed.now.items ++ l) (take_all c.loop-index.index widths (omega (arith, count, c.loop-index-test.false)));
      are = record {
        count = count;
        between = c.in_ok-widths.ensures.inside;
        columns = c.in_ok-widths.ensures.columns indented.deep;
        nested = c.in_ok-widths.ensures.nested indented;
        begin = c.in_ok-widths.ensures.begin indented;
        apart = c.in_ok-widths.ensures.apart indented;
        shares = c.in_ok-widths.ensures.shares indented;
      };
    }

pub loop-index-preserved : goal.loop-index-preserved
loop-index-preserved g c = record {
  regions = grind (arith, common_steps);
  looks = λ look.
      looks_more look (looks_placed look c.args.placed.now.items) c.args.is_lost c.args.regions.now c.loop-index.index c.index-regions-index.result
      c.loop-index.placed.items c.push.new.self.items _ (omega arith) c.index-regions-index.is (c.loop-index.invariant.looks look) refl refl c.in_ok-push.ensures.items;
  widths = grind (arith, common_steps);
}

pub returns-clause-looks : goal.returns-clause-looks
returns-clause-looks g c look =
    c.loop-index.invariant.looks look
    ∙ ap (λ l. looks_placed look c.args.placed.now.items ++ looks_of look c.args.is_lost l) (take_all c.loop-index.index c.args.regions.now (omega (arith, c.loop-index-test.false)))
