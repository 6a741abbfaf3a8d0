use Rattle.std.proofs.Common.{◌≡◌, ◌∙◌, ap, sym, arith, None}
use Rattle.std.proofs.lemmas.Result.{err_from_is_err_and}
use Rattle.pci_spec.specs.Header.{bar_count, layout}
use Rattle.pci_spec.specs.Bar.{bar_fault}
use Rattle.pci_image.specs.Bars.{IsDecodedAt}
use Rattle.pci_image.proofs.Found.{layout-of_header, bar_fault-found, bar_fault-lowest, header_fault-lowest}
use Rattle.pci_image.proofs.Reading.{read_upper, read_empty, read_bar, fault_is, read-compared}
use Rattle.pci_image.proofs.bar.bars_into.Goals as goal
use Rattle.pci_image.proofs.bar.bars_into.Goals.{then-is_upper_half, else-is_upper_half+in_ok-bar+in-Some, else-is_upper_half+in_ok-bar+in_default}

pub returns-in_err-bar-clause-fault : goal.returns-in_err-bar-clause-fault
returns-in_err-bar-clause-fault c =
    let count : c.bar_count-count.result ≡ bar_count (layout c.args.image.now.0) =
    c.bar_count-count.ensures ∙ ap bar_count (sym (layout-of_header c.args.image.now c.in_ok-of.field-0 c.in_ok-of.ensures.header)) in
    let is = fault_is c.args.image.now.0 c.args.probe.now.0 c.loop-n.n c.loop-n.is_upper_half c.loop-n.found.items c.loop-n.invariant c.if-is_upper_half.false in
    let p = err_from_is_err_and c.from_residual-in_err-bar.result c.from_residual-in_err-bar.ensures.1 in
    rw (p.1, p.2) (bar_fault-found c.args.image.now.0 c.args.probe.now.0 c.loop-n.n c.in_err-bar.field-0.0 (rw (← count) c.loop-n-test.true) (rw (← is, ← count) c.in_err-bar.ensures))

pub returns-in_err-bar-clause-lowest : goal.returns-in_err-bar-clause-lowest
returns-in_err-bar-clause-lowest c =
    let count : c.bar_count-count.result ≡ bar_count (layout c.args.image.now.0) =
    c.bar_count-count.ensures ∙ ap bar_count (sym (layout-of_header c.args.image.now c.in_ok-of.field-0 c.in_ok-of.ensures.header)) in
    let is = fault_is c.args.image.now.0 c.args.probe.now.0 c.loop-n.n c.loop-n.is_upper_half c.loop-n.found.items c.loop-n.invariant c.if-is_upper_half.false in
    let p = err_from_is_err_and c.from_residual-in_err-bar.result c.from_residual-in_err-bar.ensures.1 in
    rw (p.1, p.2) (bar_fault-lowest c.args.image.now.0 c.args.probe.now.0 c.loop-n.n c.in_err-bar.field-0.0 c.loop-n.invariant.lawful (rw (← is, ← count) c.in_err-bar.ensures))

pub returns-in_err-of-clause-lowest : goal.returns-in_err-of-clause-lowest
returns-in_err-of-clause-lowest c =
    let p = err_from_is_err_and c.from_residual.result c.from_residual.ensures.1 in
    rw (p.1, p.2) (header_fault-lowest c.args.image.now.0 c.args.probe.now.0 c.in_err-of.field-0.0 c.in_err-of.ensures.fault.1)

pub loop-n-preserved : goal.loop-n-preserved
loop-n-preserved c =
    let count : c.bar_count-count.result ≡ bar_count (layout c.args.image.now.0) =
    c.bar_count-count.ensures ∙ ap bar_count (sym (layout-of_header c.args.image.now c.in_ok-of.field-0 c.in_ok-of.ensures.header)) in
    elim c.if-is_upper_half.branch [
      | then-is_upper_half w ↦
          rw (w.found-is, w.is_upper_half-is) (read_upper c.args.image.now.0 c.args.probe.now.0 c.loop-n.n c.loop-n.is_upper_half c.loop-n.found.items c.loop-n.invariant w.if-is_upper_half.true)
      | else-is_upper_half+in_ok-bar+in-Some w ↦
          let is = fault_is c.args.image.now.0 c.args.probe.now.0 c.loop-n.n c.loop-n.is_upper_half c.loop-n.found.items c.loop-n.invariant w.if-is_upper_half.false in
          let decoded : IsDecodedAt c.args.image.now.0 c.args.probe.now.0 c.loop-n.n w.in_ok-bar.field-0 = w.in_ok-bar.ensures.1 in
          let bar = rw w.in-Some.is at decoded in
          let lawful : bar_fault c.args.image.now.0 c.args.probe.now.0 c.loop-n.n ≡ None = sym is ∙ (rw count at w.in_ok-bar.ensures.0) in
          let next = read_bar c.args.image.now.0 c.args.probe.now.0 c.loop-n.n c.loop-n.is_upper_half c.loop-n.found.items c.loop-n.invariant w.if-is_upper_half.false w.in-Some.bar lawful bar.0 bar.1 in
          rw (w.found-is, w.is_upper_half-is, w.push.ensures.items, w.eq-is_upper_half.ensures) next
      | else-is_upper_half+in_ok-bar+in_default w ↦
          let is = fault_is c.args.image.now.0 c.args.probe.now.0 c.loop-n.n c.loop-n.is_upper_half c.loop-n.found.items c.loop-n.invariant w.if-is_upper_half.false in
          let decoded : IsDecodedAt c.args.image.now.0 c.args.probe.now.0 c.loop-n.n w.in_ok-bar.field-0 = w.in_ok-bar.ensures.1 in
          let none = rw w.in_default.is at decoded in
          let lawful : bar_fault c.args.image.now.0 c.args.probe.now.0 c.loop-n.n ≡ None = sym is ∙ (rw count at w.in_ok-bar.ensures.0) in
          let next = read_empty c.args.image.now.0 c.args.probe.now.0 c.loop-n.n c.loop-n.is_upper_half c.loop-n.found.items c.loop-n.invariant w.if-is_upper_half.false lawful none in
          rw (w.found-is, w.is_upper_half-is, w.if-is_upper_half.false) next
    ]

pub returns-clause-decoded : goal.returns-clause-decoded
returns-clause-decoded c =
    let count : c.bar_count-count.result ≡ bar_count (layout c.args.image.now.0) =
    c.bar_count-count.ensures ∙ ap bar_count (sym (layout-of_header c.args.image.now c.in_ok-of.field-0 c.in_ok-of.ensures.header)) in
    let all : c.loop-n.n ≡ bar_count (layout c.args.image.now.0) = omega (arith, count) in
    rw all at c.loop-n.invariant.decoded

pub returns-clause-compared : goal.returns-clause-compared
returns-clause-compared c =
    read-compared c.args.image.now.0 c.args.probe.now.0 c.loop-n.n c.loop-n.is_upper_half c.loop-n.found.items c.loop-n.invariant
