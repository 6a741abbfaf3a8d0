use Rattle.std.proofs.Common.{ℕ, List, refl, subst}
use Rattle.std.specs.List.{Contains}
use Rattle.std.proofs.lemmas.Result.{IfOk-weaker}
use Rattle.pci_base.specs.Space.{space_of}
use Rattle.pci_claims.specs.declared.given.LegacyBridge.{LegacyBridge}
use Rattle.pci_claims.specs.Values.{code_given_value}
use Rattle.pci_faults.specs.Quiet.{AreQuiet, HasThoseOn, HoldNothing}
use Rattle.pci_faults.proofs.Quieting.{is_quiet}
use Rattle.pci_faults.proofs.quiet.are_untold_roots_apart.Goals as goal

pub returns : goal.returns
returns g c = IfOk-weaker c.are_quiet.result _ _
    (λ quiet is holds s tree. is_quiet (code_given_value c.args.board.now.given) s (Contains c.args.board.now.outline.now.roots) (space_of c.args.space) c.in_ok-regions.regions.items
    (c.in_ok-regions.ensures s tree)
    c.args.board.now.given.legacy.now c.in_ok-legacy.legacy.items refl
    (subst (λ (roots : List ℕ). HasThoseOn (Contains roots) c.args.board.now.given.legacy.now c.in_ok-legacy.legacy.items) c.requires c.in_ok-legacy.ensures)
    (subst (λ (l : List LegacyBridge). AreQuiet (space_of c.args.space) c.in_ok-regions.regions.items l) c.deref-2.ensures.value (is holds))
    c.args.board.now.given.palette.now c.in_ok-palette.palette.items refl
    (subst (λ (roots : List ℕ). HasThoseOn (Contains roots) c.args.board.now.given.palette.now c.in_ok-palette.palette.items) c.requires c.in_ok-palette.ensures)
    (subst (HoldNothing (space_of c.args.space)) c.deref.ensures.value (c.hold_some.ensures c.if-hold_some.false))) c.are_quiet.ensures
