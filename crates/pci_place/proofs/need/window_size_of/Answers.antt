use Rattle.std.proofs.Common.{◌≡◌, ℕ, ◌+◌, ◌-◌, ◌*◌, ◌≤◌, suc, sym, ◌∙◌, ap, arith}
use Rattle.plan_spec.specs.Plan.{doubled_to}
use Rattle.plan_spec.proofs.Planning.Placement.{doubled_same, doubled_next, doubled_none}
use Rattle.pci_place.proofs.need.window_size_of.Goals as goal

pub loop-init : goal.loop-init
loop-init c = ap (λ z. doubled_to c.args.need 66 z) (c.from-size.ensures ∙ c.page_size.ensures)

pub loop-preserved : goal.loop-preserved
loop-preserved c =
    let i = c.loop.counter in
    let size = c.loop.size in
    let need = c.args.need in
    let left : suc (66 - (i + 1)) ≡ 66 - i = omega arith in
    let twice : 2 * size ≡ size * 2 = omega arith in
    ap (λ z. doubled_to need (66 - (i + 1)) z) (sym twice)
    ∙ sym (doubled_next need (66 - (i + 1)) size c.if-need-size.false)
    ∙ ap (λ t. doubled_to need t size) left
    ∙ c.loop.invariant

pub returns-then-need-size : goal.returns-then-need-size
returns-then-need-size c = sym (doubled_same c.args.need (66 - c.loop.counter) c.loop.size c.if-need-size.true) ∙ c.loop.invariant

at_end : (need i size : ℕ) → 66 ≤ i → size ≡ doubled_to need (66 - i) size
at_end need i size h = let none : 0 ≡ 66 - i = omega (arith, h) in sym (doubled_none need size) ∙ ap (λ t. doubled_to need t size) none

pub returns : goal.returns
returns c = at_end c.args.need c.loop.counter c.loop.size c.loop-test.false ∙ c.loop.invariant
