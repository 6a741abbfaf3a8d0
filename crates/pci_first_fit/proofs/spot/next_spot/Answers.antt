-- Where the walk goes on, where it ends, and where it would leave 64 bits.
use Rattle.std.proofs.Common.{rules, ◌≡◌, ◌+◌, ◌^◌, ◌<◌, ◌∙◌, max, ap, subst, sym, arith}
use Rattle.plan_spec.specs.Plan.{raised_to}
use Rattle.pci_first_fit.proofs.Spots.{no_range, IsAlong, along_from, from_too_high, along_passed, along_behind, behind_too_high, along_ends, all_above, along_all, none_by}
use Rattle.pci_first_fit.proofs.spot.next_spot.Goals as goal
use Rattle.pci_first_fit.proofs.spot.next_spot.Goals.{then-at-range+in_ok-at-2, else-at-range}

pub loop-index-init : goal.loop-index-init
loop-index-init c =
    let is : c.max.result ≡ max c.args.low c.args.from.at = search rules in
    along_from _ _ _ _ _ c.requires.extent c.requires.reached (c.in_ok-at.ensures.1 ∙ ap (raised_to c.args.extent.alignment) is)

pub returns-in_err-at-clause-none : goal.returns-in_err-at-clause-none
returns-in_err-at-clause-none c =
    let is : c.max.result ≡ max c.args.low c.args.from.at = search rules in
    none_by _ _ (from_too_high _ _ _ _ c.requires.extent c.requires.reached
    (subst (λ n. raised_to c.args.extent.alignment n < 2 ^ 64 → ⊥) is c.in_err-at.ensures))

pub returns-then-branch-range-clause-found : goal.returns-then-branch-range-clause-found
returns-then-branch-range-clause-found c =
    let last = c.in_ok-last_from.ensures in
    let is = last.1 in
    let within = c.loop-index-test.true in
    let before = c.if-branch-range.true in
    along_ends _ _ _ _ _ c.loop-index.invariant (omega (arith, within)) last.0
    (all_above _ c.requires.order _ _ within no_range (omega (arith, before, is)))

pub returns-in_err-at-2-clause-none : goal.returns-in_err-at-2-clause-none
returns-in_err-at-2-clause-none c =
    let is = c.in_ok-last_from.ensures.1 in
    let first = c.if-branch-range.false in
    none_by _ _ (behind_too_high _ _ _ _ _ c.requires.extent c.loop-index.invariant c.loop-index-test.true no_range (omega (arith, first, is)) c.in_err-at-2.ensures)

pub loop-index-preserved : goal.loop-index-preserved
loop-index-preserved c =
    let is = c.in_ok-last_from.ensures.1 in
    let first = c.if-branch-range.false in
    elim c.if-at-range.branch [
      | then-at-range+in_ok-at-2 w ↦ subst (λ n. IsAlong c.args.taken.now c.args.low c.args.extent n (c.loop-index.index + 1)) (sym w.at-is)
          (along_behind _ _ _ _ _ _ c.requires.extent c.loop-index.invariant c.loop-index-test.true no_range (omega (arith, first, is)) w.if-at-range.true w.in_ok-at-2.ensures.1)
      | else-at-range w ↦ subst (λ n. IsAlong c.args.taken.now c.args.low c.args.extent n (c.loop-index.index + 1)) (sym w.at-is)
          (along_passed _ _ _ _ _ c.loop-index.invariant c.loop-index-test.true no_range w.if-at-range.false)
    ]

pub returns-clause-found : goal.returns-clause-found
returns-clause-found c = along_all _ _ _ _ _ c.loop-index.invariant c.loop-index-test.false c.in_ok-last_from-2.ensures.0
