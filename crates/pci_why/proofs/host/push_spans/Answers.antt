use Rattle.std.proofs.Common.{◌++◌, map, sym, ◌∙◌, ap}
use Rattle.std.proofs.lemmas.List.{take_all}
use Rattle.std.specs.String.{string_bytes}
use Rattle.pci_spec.specs.Listing.{range_text}
use Rattle.pci_base.specs.Ranges.{decoded_range_of}
use Rattle.pci_base.specs.Space.{space_of}
use Rattle.pci_why.specs.Lines.{spaced}
use Rattle.pci_why.proofs.Hosted.{words_of_some}
use Rattle.pci_why.proofs.host.push_spans.Goals as goal

pub returns : goal.returns
returns g c =
    let start = string_bytes c.args.text.now in
    let space = space_of c.args.space in
    let all = c.args.ranges.now in
    c.loop-range.invariant ∙ ap (λ rs. start ++ spaced (map (range_text space) (map decoded_range_of rs))) (take_all c.loop-range.range-index all c.loop-range-test.false)
    ∙ ap (λ ws. start ++ spaced ws) (words_of_some space all (sym c.is_empty.ensures ∙ c.if-is_empty.false))
