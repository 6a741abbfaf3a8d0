use Rattle.std.proofs.Common.{[], refl}
use Rattle.std.proofs.lemmas.Result.{on_ok_weaker}
use Rattle.pci_picture.proofs.Boxes.{unchanged, then_draws, then_ok, writes_both, writes_none}
use Rattle.pci_picture.proofs.section.draw_axis.Goals as goal

pub loop-run-init : goal.loop-run-init
loop-run-init g c = record { adds = unchanged c.args.canvas.now; writes = writes_none c.args.canvas.now c.args.canvas.now refl }

pub loop-run-preserved : goal.loop-run-preserved
loop-run-preserved g c = record {
  adds = then_draws _ _ _ _ c.loop-run.invariant.adds c.in_ok-draw_run.ensures.adds;
  writes = writes_both [] [] c.args.canvas.now c.loop-run.canvas c.draw_run.new.canvas c.loop-run.invariant.writes c.in_ok-draw_run.ensures.writes;
}

pub returns : goal.returns
returns g c = record {
  adds = then_ok c.add_heading.result _ _ _ _ c.loop-run.invariant.adds c.add_heading.ensures.adds;
  writes =
      on_ok_weaker c.add_heading.result (λ same. writes_both [] [] c.args.canvas.now c.loop-run.canvas c.add_heading.new.self c.loop-run.invariant.writes (writes_none c.loop-run.canvas c.add_heading.new.self same))
      c.add_heading.ensures.writes;
}
