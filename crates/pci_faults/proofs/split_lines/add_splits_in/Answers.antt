use Rattle.std.proofs.Common.{List, ◌++◌, map, subst, ap, ◌∙◌}
use Rattle.std.proofs.lemmas.Result.{on_ok_weaker}
use Rattle.pci_faults.specs.declared.shares.Among.TheVariants.{Roots}
use Rattle.pci_faults.specs.declared.shares.Share.{Share}
use Rattle.pci_base.specs.Space.{space_of}
use Rattle.pci_claims.specs.Values.{code_given_value, told_value}
use Rattle.pci_claims.specs.Claim.{Claimed}
use Rattle.pci_faults.specs.Clashes.{AreMeetings}
use Rattle.pci_faults.specs.Splits.{claims_split}
use Rattle.pci_faults.proofs.Quieting.{no_splits}
use Rattle.pci_faults.proofs.SplitNaming.{splits_added}
use Rattle.pci_faults.proofs.split_lines.add_splits_in.Goals as goal

pub returns : goal.returns
returns g c = on_ok_weaker c.add_told.result
    (λ appended. splits_added (told_value c.args.board.now.told) (code_given_value c.args.board.now.given) c.args.board.now.outline.now c.args.space c.in_ok-claims.claims.items c.in_ok-shares.shares.items c.args.out.now.items c.add_told.new.out.items
    c.in_ok-claims.ensures
    (subst (λ (l : List Claimed). AreMeetings Roots l c.in_ok-shares.shares.items) c.deref.ensures.value c.in_ok-shares.ensures.exact)
    (appended ∙ ap (λ (l : List Claimed). c.args.out.now.items ++ map (claims_split c.args.space l) c.deref-3.result.now) c.deref-2.ensures.value
    ∙ ap (λ (l : List Share). c.args.out.now.items ++ map (claims_split c.args.space c.in_ok-claims.claims.items) l) c.deref-3.ensures.value)) c.add_told.ensures

pub returns-then-branch : goal.returns-then-branch
returns-then-branch g c = no_splits (told_value c.args.board.now.told) (code_given_value c.args.board.now.given) c.args.board.now.outline.now (space_of c.args.space) c.args.out.now.items (c.in_ok-are_roots_quiet.ensures c.if-branch.true)
