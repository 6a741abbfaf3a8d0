use Rattle.std.proofs.Common.{[], ◌∷◌, ◌+◌, ◌++◌, get_or, ap, ◌∙◌, subst, sym, arith}
use Rattle.std.proofs.lemmas.Bool.{iff_false}
use Rattle.std.proofs.lemmas.Option.{slice_get-get_or}
use Rattle.pci_base.specs.Space.{space_of}
use Rattle.judge_spec.specs.Told.{ToldRange}
use Rattle.pci_faults.specs.Spans.{told_span}
use Rattle.pci_faults.proofs.Spanning.{AreSpansBelow, spans_begin, spans_more, spans_less, spans_end}
use Rattle.pci_faults.proofs.spans.add_told_spans.Goals.{then-is_in+in_ok-push, else-is_in}
use Rattle.pci_faults.proofs.spans.add_told_spans.Goals as goal

pub loop-i-init : goal.loop-i-init
loop-i-init g c = spans_begin c.args.bus c.args.ranges.now (space_of c.args.space) c.ranges_of-stretch.result c.args.out.now.items c.ranges_of-stretch.ensures

pub loop-i-preserved : goal.loop-i-preserved
loop-i-preserved g c =
    let ranges = c.args.ranges.now in
    let space = space_of c.args.space in
    let i = c.loop-i.i in
    let r = get_or ranges i c.index-ranges-i.result in
    let inside = c.loop-i-test.true in
    let high = c.ranges_of-stretch.ensures.high in
    let at = slice_get-get_or ranges i c.index-ranges-i.result (omega (arith, inside, high)) in
    elim c.if-is_in.branch [
      | then-is_in+in_ok-push w ↦
          spans_more c.args.bus ranges space i r c.args.out.now.items c.loop-i.out.items c.if-is_in.out.items at c.loop-i.invariant (ap (λ v. v.items) w.out-is ∙ w.in_ok-push.ensures.items ∙ ap (λ (x : ToldRange). c.loop-i.out.items ++ told_span i x ∷ []) (c.range.view_is ∙ c.index-ranges-i.is))
      | else-is_in w ↦
          subst (AreSpansBelow c.args.bus ranges space (i + 1) c.args.out.now.items) (sym (ap (λ v. v.items) w.out-is))
          (spans_less c.args.bus ranges space i r c.args.out.now.items c.loop-i.out.items at (λ in_space. iff_false c.is_in.ensures w.if-is_in.false (ap (λ (x : ToldRange). x.space) c.index-ranges-i.is ∙ in_space)) c.loop-i.invariant)
    ]

pub returns : goal.returns
returns g c = spans_end c.args.bus c.args.ranges.now (space_of c.args.space) c.ranges_of-stretch.result c.loop-i.i c.args.out.now.items c.loop-i.out.items c.ranges_of-stretch.ensures (omega arith) c.loop-i.invariant
