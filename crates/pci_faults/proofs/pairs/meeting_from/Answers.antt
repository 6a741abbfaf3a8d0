use Rattle.std.proofs.Common.{◌≡◌, ◌+◌, ◌<◌, Some, arith, ap, subst, sym, length, ◌∙◌}
use Rattle.std.specs.Prelude.{Option}
use Rattle.std.proofs.lemmas.List.{get_or_default}
use Rattle.pci_faults.specs.declared.shares.Share.{Share}
use Rattle.pci_claims.specs.Claim.{Claimed}
use Rattle.pci_faults.specs.Clashes.{Meet, IsLeastOfTwo, IsFoundBelow, claim_at, missing_claim}
use Rattle.pci_faults.proofs.Odds.{still_found, found_more}
use Rattle.pci_faults.proofs.pairs.meeting_from.Goals.{in-Some, in_default}
use Rattle.pci_faults.proofs.pairs.meeting_from.Goals as goal

pub loop-k-preserved : goal.loop-k-preserved
loop-k-preserved g c =
    let below = c.loop-k-test.true in
    let within = c.requires.index in
    let inside : c.loop-k.k < length c.args.claims.now = omega (arith, below, within) in
    let at_k : c.index-claims-k.result ≡ claim_at c.args.claims.now c.loop-k.k = c.index-claims-k.is ∙ get_or_default c.args.claims.now c.loop-k.k c.index-claims-k.result missing_claim inside in
    let at_i : c.index-claims-i.result ≡ claim_at c.args.claims.now c.args.i = c.index-claims-i.is ∙ get_or_default c.args.claims.now c.args.i c.index-claims-i.result missing_claim within in
    elim c.match-least_meeting.branch [
      | in-Some w ↦ subst (λ (o : Option Share). IsFoundBelow c.args.among (c.loop-k.k + 1) c.args.claims.now c.args.i o) (sym (w.found-is ∙ ap Some w.lesser.ensures))
          (found_more c.args.among c.args.claims.now c.args.i c.loop-k.k below within w.in-Some.address
          (subst (λ (x : Claimed). IsLeastOfTwo c.args.among x (claim_at c.args.claims.now c.args.i) w.in-Some.address) at_k
          (subst (λ (y : Claimed). IsLeastOfTwo c.args.among c.index-claims-k.result y w.in-Some.address) at_i w.in-Some.ensures)) c.loop-k.found c.loop-k.invariant)
      | in_default w ↦ subst (λ (o : Option Share). IsFoundBelow c.args.among (c.loop-k.k + 1) c.args.claims.now c.args.i o) (sym w.found-is)
          (still_found c.args.among c.args.claims.now c.args.i c.loop-k.k below within c.loop-k.found (λ a meets. w.in_default.ensures a
          (subst (λ (y : Claimed). Meet c.args.among c.index-claims-k.result y a) (sym at_i) (subst (λ (x : Claimed). Meet c.args.among x (claim_at c.args.claims.now c.args.i) a) (sym at_k) meets))) c.loop-k.invariant)
    ]

pub returns : goal.returns
returns g c =
    let high = c.loop-k.auto.k-end c.requires.begin in
    let low = c.loop-k-test.false in
    let all : c.loop-k.k ≡ c.args.i = omega (arith, high, low) in
    subst (λ n. IsFoundBelow c.args.among n c.args.claims.now c.args.i c.loop-k.found) all c.loop-k.invariant
