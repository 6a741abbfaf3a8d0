use Rattle.std.proofs.Common.{arith, sym, ◌∙◌, ap}
use Rattle.pci_first_fit.specs.declared.kept.Part.TheVariants.{Window}
use Rattle.pci_grow.specs.Reaches.{given_value}
use Rattle.pci_grow.proofs.StandingRows.{no_region}
use Rattle.pci_grow.proofs.Reached.{has_record}
use Rattle.pci_grow.proofs.FoundReaches.{part_for, told_over, window_told}
use Rattle.pci_grow.proofs.reach.tell_reach.Goals as goal

pub reach_of-reach-requires-clause-told : goal.reach_of-reach-requires-clause-told
reach_of-reach-requires-clause-told c =
    let told = c.requires.told in (
      told.0,
      told.1,
      record {
        stand = told.2;
        over = λ d. told_over told.0 told.1 c.args.board.now.records.now (given_value c.args.board.now) c.args.rows.now told.2 c.args.index c.requires.index c.args.reaches.now told.3 c.in-Window.class d
            (part_for c.args.rows.now c.args.index d no_region (Window c.in-Window.class) c.requires.index c.in-Window.is);
      },
    )

pub tell-requires : goal.tell-requires
tell-requires c =
    let told = c.requires.told in
    let less = has_record told.0 told.1 c.args.board.now.records.now (given_value c.args.board.now) c.args.rows.now told.2 c.args.index no_region c.requires.index in
    let count = c.requires.count in
    omega (arith, less, count)

pub returns-in-Window-clause-told : goal.returns-in-Window-clause-told
returns-in-Window-clause-told c = λ q s is first.
    window_told q s c.args.board.now.records.now (given_value c.args.board.now) c.args.rows.now is c.args.index c.requires.index c.args.reaches.now first c.tell.new.table c.in-Window.class c.reach_of-reach.result c.in-Window.is
    (c.reach_of-reach.ensures q s no_region record {
      stand = is;
      over = λ d. told_over q s c.args.board.now.records.now (given_value c.args.board.now) c.args.rows.now is c.args.index c.requires.index c.args.reaches.now first c.in-Window.class d
          (part_for c.args.rows.now c.args.index d no_region (Window c.in-Window.class) c.requires.index c.in-Window.is);
    })
    c.tell.ensures.told c.tell.ensures.others

pub returns-in-Window-clause-others : goal.returns-in-Window-clause-others
returns-in-Window-clause-others c = λ k other off.
    c.tell.ensures.others k other (λ one same. off no_region (sym one) (c.in-Window.is ∙ ap Window (sym same)))
