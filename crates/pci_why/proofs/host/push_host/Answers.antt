use Rattle.std.proofs.Common.{map, ◌∙◌}
use Rattle.std.proofs.lemmas.List.{append_assoc}
use Rattle.std.proofs.lemmas.Result.{on_ok_weaker}
use Rattle.pci_base.specs.Ranges.{decoded_range_of}
use Rattle.pci_base.specs.Space.{space_of}
use Rattle.judge_spec.specs.Why.{ranges_words}
use Rattle.pci_why.proofs.LegacyWords.{words_spaced}
use Rattle.pci_why.proofs.host.push_host.Goals as goal

pub returns : goal.returns
returns g c = on_ok_weaker c.end_line.result
    (λ last. last ∙ rw (c.in_ok-push_spans.ensures, c.in_ok-write.ensures.bytes, words_spaced (ranges_words (space_of c.args.space) (map decoded_range_of c.args.ranges.now))) (simp append_assoc))
    c.end_line.ensures
