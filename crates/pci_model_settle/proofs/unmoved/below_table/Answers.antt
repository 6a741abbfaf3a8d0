use Rattle.std.specs.Prelude.{◌&&◌, ◌||◌}
use Rattle.std.proofs.Common.{◌≡◌, ◌+◌, ◌++◌, [], ◌∷◌, false, get_or, take, sym, ◌∙◌, ap, subst}
use Rattle.std.proofs.lemmas.Bool.{and_parts}
use Rattle.std.proofs.lemmas.List.{take_all, take_more}
use Rattle.pci_spec.specs.Text.{Block}
use Rattle.pci_spec.specs.System.{is_bridge, function_of}
use Rattle.pci_spec.specs.Bus.{is_behind}
use Rattle.pci_model_settle.specs.Unmoved.{is_among}
use Rattle.pci_model_settle.specs.SleepTables.{IsBelowTable}
use Rattle.pci_model_settle.proofs.Sleeping.{no_below, same_below, more_below}
use Rattle.pci_model_settle.proofs.unmoved.below_table.Goals as goal
use Rattle.pci_model_settle.proofs.unmoved.below_table.Goals.{then-is_sleeping_bridge, else-is_sleeping_bridge}

pub loop-block-init : goal.loop-block-init
loop-block-init c slots told = no_below slots

pub loop-block-preserved : goal.loop-block-preserved
loop-block-preserved c slots told =
    let blocks = c.args.blocks.now in
    let i = c.loop-block.block-index in
    let b : Block = c.block-item.result in
    let was = c.loop-block.invariant slots told in
    let more : take (i + 1) blocks ≡ take i blocks ++ b ∷ [] = take_more blocks i b c.loop-block-test.true ∙ ap (λ (x : Block). take i blocks ++ x ∷ []) (sym c.block-item.is) in
    let asked : c.is_sleeping_bridge.result ≡ (is_bridge (function_of b b) && is_among slots b.slot) = c.is_sleeping_bridge.ensures slots told in
    subst (λ bs. IsBelowTable slots bs c.if-is_sleeping_bridge.below) (sym more)
    (elim c.if-is_sleeping_bridge.branch [
      | then-is_sleeping_bridge w ↦
          let both = and_parts (is_bridge (function_of b b)) (is_among slots b.slot) (sym asked ∙ w.if-is_sleeping_bridge.true) in
          subst (λ table. IsBelowTable slots (take i blocks ++ b ∷ []) table) (sym w.below-is)
          (more_below slots (take i blocks) b c.loop-block.below w.note_behind.new.table both.0 both.1 w.note_behind.ensures.size
          (λ bus small. w.note_behind.ensures.behind b.slot b.image bus small
          ∙ ap (λ (x : Block). get_or c.loop-block.below bus false || is_behind record { slot = b.slot; image = x.image; probe = b.image } bus) c.block.view_is) was)
      | else-is_sleeping_bridge w ↦
          subst (λ table. IsBelowTable slots (take i blocks ++ b ∷ []) table) (sym w.below-is)
          (same_below slots (take i blocks) b c.loop-block.below (sym asked ∙ w.if-is_sleeping_bridge.false) was)
    ])

pub returns : goal.returns
returns c slots told =
    subst (λ bs. IsBelowTable slots bs c.loop-block.below) (take_all c.loop-block.block-index c.args.blocks.now c.loop-block-test.false) (c.loop-block.invariant slots told)
