use Rattle.std.proofs.Common.{◌∙◌, ◌+◌, ap, drop, length, Some, arith}
use Rattle.pci_dump.proofs.Fronted.{range_rest}
use Rattle.pci_dump.proofs.ahead.ReadAhead.take.Goals as goal

pub returns : goal.returns
returns c =
    let view = c.self.view_is in
    let long = ap (λ a. length a.held) view in
    let held = range_rest c.self.inside.buf c.self.inside.at c.self.inside.end c.args.used (omega (arith, long, c.requires.held)) ∙ ap (λ a. drop c.args.used a.held) view in
    λ i. record {
      held = held i;
      drained = ap (λ a. a.drained) view i;
      count = ap (λ a. a.count + 1) view i;
      last = Some c.args.slot;
      progress = ap (λ a. a.progress) view i;
    }
