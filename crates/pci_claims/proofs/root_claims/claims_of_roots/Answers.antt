use Rattle.std.proofs.Common.{◌≡◌, ◌+◌, List, ℕ, subst, sym, ◌∙◌, ap, arith}
use Rattle.std.specs.List.{Contains}
use Rattle.std.proofs.lemmas.Bool.{iff_false}
use Rattle.pci_base.specs.Space.{space_of}
use Rattle.pci_claims.specs.Values.{code_given_value, told_value}
use Rattle.pci_claims.specs.Claim.{Claimed}
use Rattle.pci_claims.proofs.RootClaims.{AreRootClaimsBelow, roots_none, roots_skip, roots_more, roots_all}
use Rattle.pci_claims.proofs.root_claims.claims_of_roots.Goals.{then-has+in_ok-claims+in_ok-append, else-has}
use Rattle.pci_claims.proofs.root_claims.claims_of_roots.Goals as goal

pub loop-bus-init : goal.loop-bus-init
loop-bus-init g c = subst (λ (items : List Claimed). AreRootClaimsBelow (told_value c.args.board.now.told) (code_given_value c.args.board.now.given) c.args.board.now.outline.now (space_of c.args.space) 0 items) (sym c.new-all.ensures.items)
    (roots_none (told_value c.args.board.now.told) (code_given_value c.args.board.now.given) c.args.board.now.outline.now (space_of c.args.space))

pub loop-bus-preserved : goal.loop-bus-preserved
loop-bus-preserved g c =
    let told = told_value c.args.board.now.told in
    let given = code_given_value c.args.board.now.given in
    let t = c.args.board.now.outline.now in
    let space = space_of c.args.space in
    elim c.if-has.branch [
      | then-has+in_ok-claims+in_ok-append w ↦
          subst (λ (items : List Claimed). AreRootClaimsBelow told given t space (c.loop-bus.bus + 1) items)
          (sym (ap (λ v. v.items) w.all-is ∙ w.in_ok-append.ensures.items))
          (roots_more told given t space c.loop-bus.bus c.loop-bus.all.items w.in_ok-claims.claims.items
          (subst (λ (roots : List ℕ). Contains roots c.loop-bus.bus) c.roots-roots.ensures (c.has.ensures.0 w.if-has.true)) c.loop-bus.invariant w.in_ok-claims.ensures)
      | else-has w ↦
          subst (λ (items : List Claimed). AreRootClaimsBelow told given t space (c.loop-bus.bus + 1) items)
          (sym (ap (λ v. v.items) w.all-is))
          (roots_skip told given t space c.loop-bus.bus c.loop-bus.all.items
          (λ root. iff_false c.has.ensures w.if-has.false (subst (λ (roots : List ℕ). Contains roots c.loop-bus.bus) (sym c.roots-roots.ensures) root)) c.loop-bus.invariant)
    ]

pub returns : goal.returns
returns g c =
    let all : c.loop-bus.bus ≡ 256 = omega arith in
    roots_all (told_value c.args.board.now.told) (code_given_value c.args.board.now.given) c.args.board.now.outline.now (space_of c.args.space) c.requires.lawful c.loop-bus.all.items
    (subst (λ bus. AreRootClaimsBelow (told_value c.args.board.now.told) (code_given_value c.args.board.now.given) c.args.board.now.outline.now (space_of c.args.space) bus c.loop-bus.all.items) all c.loop-bus.invariant)
