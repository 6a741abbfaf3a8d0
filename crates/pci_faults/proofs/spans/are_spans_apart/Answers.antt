use Rattle.std.proofs.Common.{◌<◌, subst}
use Rattle.std.specs.List.{AllPairs}
use Rattle.pci_faults.specs.declared.spans.Span.{Span}
use Rattle.pci_faults.proofs.Spanning.{apart_sorted}
use Rattle.pci_faults.proofs.spans.are_spans_apart.Goals as goal

pub returns : goal.returns
returns g c = λ holds. apart_sorted c.args.spans.items c.sort.new.spans.items c.sort.ensures
    (subst (AllPairs (λ (p q : Span). p.last < q.first)) c.deref.ensures.value (c.do_rise.ensures holds))
