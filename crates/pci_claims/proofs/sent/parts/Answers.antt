use Rattle.std.proofs.Common.{◌≡◌, ◌+◌, [], arith, ap, get_or, subst, sym, take, ◌∙◌, None}
use Rattle.std.proofs.lemmas.List.{get_or_default, take_all}
use Rattle.pci_base.specs.Space.{space_of}
use Rattle.pci_base.specs.declared.range.RootRange.{RootRange}
use Rattle.pci_claims.specs.Sent.{ArePartsOf}
use Rattle.pci_claims.proofs.Parts.{no_parts, one_part_more, no_part_more}
use Rattle.pci_claims.proofs.sent.parts.Goals as goal
use Rattle.pci_claims.proofs.sent.parts.Goals.{in-Some+in_ok-push, in_default}

pub loop-range-init : goal.loop-range-init
loop-range-init g c = subst (λ xs. ArePartsOf [] (space_of c.args.space) c.args.root xs) (sym c.new-out.ensures.items) (no_parts (space_of c.args.space) c.args.root)

pub loop-range-preserved : goal.loop-range-preserved
loop-range-preserved g c =
    let r : RootRange = get_or c.args.ranges.now c.loop-range.range-index record { root = None; range = record { first = 0; last = 0 } } in
    let at : r ≡ get_or c.args.ranges.now c.loop-range.range-index r = get_or_default c.args.ranges.now c.loop-range.range-index record { root = None; range = record { first = 0; last = 0 } } r (omega arith) in
    elim c.match-part_of.branch [
      | in-Some+in_ok-push w ↦ one_part_more c.args.ranges.now c.loop-range.range-index r (space_of c.args.space) c.args.root c.loop-range.out.items _ w.in-Some.m c.loop-range.invariant
          (omega arith) at (ap (λ v. v.items) w.out-is ∙ w.in_ok-push.ensures.items) w.in-Some.ensures
      | in_default w ↦ subst (λ xs. ArePartsOf (take (c.loop-range.range-index + 1) c.args.ranges.now) (space_of c.args.space) c.args.root xs) (sym (ap (λ v. v.items) w.out-is))
          (no_part_more c.args.ranges.now c.loop-range.range-index r (space_of c.args.space) c.args.root c.loop-range.out.items c.loop-range.invariant (omega arith) at w.in_default.ensures)
    ]

pub returns : goal.returns
returns g c = subst (λ rs. ArePartsOf rs (space_of c.args.space) c.args.root c.loop-range.out.items) (take_all c.loop-range.range-index c.args.ranges.now (omega arith)) c.loop-range.invariant
