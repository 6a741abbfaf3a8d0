use Rattle.std.proofs.Common.{[], codes, length, ◌∙◌}
use Rattle.std.proofs.lemmas.Result.{on_ok_weaker}
use Rattle.pci_picture.specs.Counts.{count_of_regions, words_of_counts}
use Rattle.pci_picture.specs.Elements.{words_text}
use Rattle.pci_picture.specs.Maps.{kept_regions}
use Rattle.pci_picture.proofs.Boxes.{draws_both, heading_drawn, then_ok}
use Rattle.pci_picture.proofs.picture.write_counts.Goals as goal

pub returns : goal.returns
returns g c =
    let board = c.args.board.now in
    let counts = words_of_counts (length board.functions.items) (count_of_regions (kept_regions board.map)) (length board.faults.faults.items) in
    record {
      adds = then_ok c.add_heading-2.result [] _ _ _ c.in_ok-add_heading.ensures.adds c.add_heading-2.ensures.adds;
      draws =
          on_ok_weaker c.add_heading-2.result
          (λ below. draws_both (words_text 16 26 (codes "title") (codes "pciplan")) (words_text 16 46 [] counts)
          c.args.canvas.now c.add_heading.new.self c.add_heading-2.new.self c.in_ok-add_heading.ensures.draws
          (heading_drawn 16 46 c.add_heading.new.self c.add_heading-2.new.self c.as_slice.result.now c.in_ok-words.words.bytes.items counts c.as_slice.ensures.value c.in_ok-words.ensures below))
          c.add_heading-2.ensures.draws;
      writes = on_ok_weaker c.add_heading-2.result (λ same. same ∙ c.in_ok-add_heading.ensures.writes) c.add_heading-2.ensures.writes;
    }
