use Rattle.std.proofs.Common.{List, ◌++◌, ◌∙◌, ap, arith, sym}
use Rattle.pci_base.specs.declared.range.Range.{Range}
use Rattle.pci_base.specs.Space.{space_of}
use Rattle.pci_claims.specs.Values.{code_given_value}
use Rattle.pci_claims.specs.Taking.{IsLeft}
use Rattle.pci_claims.proofs.Unclaiming.{pieces_behind, whole_more}
use Rattle.pci_claims.proofs.taking.add_own.Goals as goal

pub returns-then-is_cut : goal.returns-then-is_cut
returns-then-is_cut g c =
    let pieces : List Range = c.in_ok-pieces.pieces.items in
    pieces_behind (IsLeft (code_given_value c.args.given.now) (space_of c.args.space) c.args.region.now) c.args.out.now.items pieces _ c.in_ok-pieces.ensures.canonical.each c.in_ok-pieces.ensures.exact
    (c.in_ok-extend_from_slice.ensures.items ∙ ap (λ (xs : List Range). c.args.out.now.items ++ xs) c.deref.ensures.value)

pub returns : goal.returns
returns g c =
    whole_more (code_given_value c.args.given.now) (space_of c.args.space) c.args.region.now c.args.out.now.items _ (sym c.is_cut.ensures ∙ c.if-is_cut.false) (omega arith) c.in_ok-push.ensures.items
