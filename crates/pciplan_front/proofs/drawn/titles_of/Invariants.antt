use Rattle.std.proofs.Common.{◌≡◌, take}
use Rattle.pciplan_front.specs.PictureAsked.{titles_text}
use Rattle.pciplan_front.proofs.drawn.titles_of.Given as goal

abbrev pub invariant-loop-block : goal.invariant-loop-block
invariant-loop-block l = l.titles.items ≡ titles_text (take l.block-index l.block-items)
