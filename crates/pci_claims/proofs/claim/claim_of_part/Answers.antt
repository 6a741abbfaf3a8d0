use Rattle.std.proofs.Common.{List, false, subst, sym, ◌∙◌}
use Rattle.pci_base.specs.declared.range.Range.{Range}
use Rattle.pci_base.specs.Space.{space_of}
use Rattle.pci_tree.specs.Ranges.{IsCanonical}
use Rattle.pci_claims.specs.Values.{code_given_value}
use Rattle.pci_claims.specs.Claim.{IsClaimOfPart}
use Rattle.pci_claims.specs.Gathered.{IsCommon}
use Rattle.pci_claims.proofs.PartClaims.{part_claim}
use Rattle.pci_claims.proofs.claim.claim_of_part.Goals as goal

pub returns : goal.returns
returns g c =
    subst (λ n. IsClaimOfPart (code_given_value c.args.given.now) c.args.part (space_of c.args.arriving.now.space) c.args.function.now c.args.arriving.now.reach.now record { slot = c.args.function.now.slot; register = n; held = false; pieces = c.in_ok-pieces.pieces.items }) (sym (c.from.ensures ∙ c.register_of.ensures))
    (part_claim (code_given_value c.args.given.now) c.args.part (space_of c.args.arriving.now.space) c.args.function.now c.args.arriving.now.reach.now c.in_ok-own.own.items c.in_ok-pieces.pieces.items c.in_ok-own.ensures
    (subst (λ (xs : List Range). IsCommon xs c.args.arriving.now.reach.now c.in_ok-pieces.pieces.items) c.deref.ensures.value c.in_ok-pieces.ensures))

pub common-requires-clause-first : goal.common-requires-clause-first
common-requires-clause-first g c = subst (λ (xs : List Range). IsCanonical xs) (sym c.deref.ensures.value) c.in_ok-own.ensures.canonical
