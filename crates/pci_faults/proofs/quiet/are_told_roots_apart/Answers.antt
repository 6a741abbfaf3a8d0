use Rattle.std.proofs.Common.{ℕ, List, map, refl, ap, subst, sym, ◌∙◌, arith}
use Rattle.std.specs.List.{Contains}
use Rattle.std.proofs.lemmas.Bool.{eqb-true}
use Rattle.std.proofs.lemmas.Result.{IfOk-weaker}
use Rattle.pci_base.specs.Space.{space_of}
use Rattle.pci_claims.specs.Values.{code_given_value, told_value}
use Rattle.pci_faults.specs.Quiet.{HasThoseOn, HoldNothing}
use Rattle.pci_faults.specs.Spans.{region_span, AreSpansAdded}
use Rattle.pci_faults.proofs.Spanning.{with_told, quiet_told}
use Rattle.pci_faults.proofs.quiet.are_told_roots_apart.Goals as goal

pub returns : goal.returns
returns g c = IfOk-weaker c.are_spans_apart.result _ _
    (λ apart is holds s tree a b d p q m n one other first second differ alone. quiet_told (told_value c.args.board.now.told) (code_given_value c.args.board.now.given) s (Contains c.args.board.now.outline.now.roots) (space_of c.args.space) c.in_ok-regions.regions.items
    (c.in_ok-regions.ensures s tree)
    c.args.board.now.given.legacy.now c.in_ok-legacy.legacy.items refl
    (subst (λ (roots : List ℕ). HasThoseOn (Contains roots) c.args.board.now.given.legacy.now c.in_ok-legacy.legacy.items) c.requires.roots c.in_ok-legacy.ensures)
    (let none = eqb-true c.in_ok-legacy.legacy.len 0 (sym c.is_empty.ensures ∙ c.if-not-is_empty.false) in let ok = c.in_ok-legacy.legacy.ok in omega (arith, none, ok))
    c.args.board.now.given.palette.now c.in_ok-palette.palette.items refl
    (subst (λ (roots : List ℕ). HasThoseOn (Contains roots) c.args.board.now.given.palette.now c.in_ok-palette.palette.items) c.requires.roots c.in_ok-palette.ensures)
    (subst (HoldNothing (space_of c.args.space)) c.deref.ensures.value (c.hold_some.ensures c.if-hold_some.false))
    c.add_root_spans.new.out.items
    (with_told c.in_ok-regions.regions.items (Contains c.args.board.now.outline.now.roots) c.args.board.now.told.ranges.now (space_of c.args.space) c.in_ok-spans.spans.items c.add_root_spans.new.out.items
    (c.in_ok-spans.ensures ∙ ap (map region_span) c.deref-2.ensures.value) (subst (λ (roots : List ℕ). AreSpansAdded (Contains roots) c.args.board.now.told.ranges.now (space_of c.args.space) c.in_ok-spans.spans.items c.add_root_spans.new.out.items) c.requires.roots c.in_ok-add_root_spans.ensures))
    (is holds) a b d p q m n one other first second differ) c.are_spans_apart.ensures
