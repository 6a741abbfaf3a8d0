use Rattle.std.proofs.Common.{List, ap, subst, sym, ◌∙◌}
use Rattle.pci_base.specs.declared.range.Range.{Range}
use Rattle.pci_base.specs.Space.{space_of}
use Rattle.judge_spec.specs.Told.{ToldRange}
use Rattle.judge_spec.specs.ToldClaims.{is_marked_held}
use Rattle.pci_dump.specs.ToldMarks.{mark_of}
use Rattle.pci_claims.specs.Gathered.{IsCommon}
use Rattle.pci_claims.specs.AllClaims.{IsClaimOfRange}
use Rattle.pci_claims.proofs.AllClaiming.{claim_of_range}
use Rattle.pci_claims.proofs.claim.told_claim_of.Goals as goal

pub returns : goal.returns
returns g c =
    let range = c.range.inside in
    let r : ToldRange = record {
      slot = range.slot;
      space = space_of range.space;
      prefetchable = range.prefetchable;
      first = range.first;
      last = range.last;
      mark = mark_of range.mark;
      name = range.name.items;
    } in
    subst (λ (x : ToldRange). IsClaimOfRange x c.args.register c.args.reach.now record { slot = range.slot; register = c.args.register; held = c.is_held.result; pieces = c.in_ok-pieces.pieces.items }) c.range.view_is
    (claim_of_range r c.args.register c.args.reach.now c.is_held.result c.in_ok-whole.whole.items c.in_ok-pieces.pieces.items (c.is_held.ensures ∙ ap (λ (x : ToldRange). is_marked_held x.mark) (sym c.range.view_is)) c.in_ok-whole.ensures.exact
    (subst (λ (xs : List Range). IsCommon xs c.args.reach.now c.in_ok-pieces.pieces.items) c.deref.ensures.value c.in_ok-pieces.ensures))
