use Rattle.std.proofs.Common.{◌≡◌, List, [], ◌∷◌, ◌++◌, length, arith, subst, ap, sym, ◌∙◌, refl}
use Rattle.std.proofs.lemmas.Bool.{eqb-true}
use Rattle.std.proofs.lemmas.Result.{IfOk-weaker}
use Rattle.pci_spec.specs.Window.{WindowKind}
use Rattle.pci_base.specs.declared.range.Range.{Range}
use Rattle.pci_base.specs.Space.{space_of}
use Rattle.pci_claims.specs.Values.{code_given_value}
use Rattle.pci_claims.specs.Passed.{ArePassed}
use Rattle.pci_claims.proofs.Bridging.{lawful_forwarded, forwarded_both, forwarded_alone}
use Rattle.pci_claims.proofs.passed.forwarded_with.Goals as goal

nothing_in : (rs : List Range) → length rs ≡ 0 → rs ≡ []
nothing_in [] h = refl
nothing_in (r ∷ rs) h = absurd (omega (arith, h))

pub returns-then-is_empty : goal.returns-then-is_empty
returns-then-is_empty g c =
    forwarded_alone (code_given_value c.args.given.now) (space_of c.args.space) c.args.function.now c.in_ok-ranges.ranges.items c.in_ok-palette.palette.items
    (subst (λ (k : WindowKind). ArePassed (code_given_value c.args.given.now) k c.args.function.now c.in_ok-ranges.ranges.items) c.furthest.ensures c.in_ok-ranges.ensures.record)
    c.in_ok-palette.ensures (nothing_in c.in_ok-palette.palette.items
    (let none = eqb-true c.in_ok-palette.palette.len 0 (sym c.is_empty.ensures ∙ c.if-is_empty.true) in
    let whole = c.in_ok-palette.palette.ok in
    omega (arith, none, whole)))

pub gathered-requires : goal.gathered-requires
gathered-requires g c =
    lawful_forwarded (code_given_value c.args.given.now) (space_of c.args.space) c.args.function.now c.in_ok-ranges.ranges.items c.in_ok-palette.palette.items
    (subst (λ (k : WindowKind). ArePassed (code_given_value c.args.given.now) k c.args.function.now c.in_ok-ranges.ranges.items) c.furthest.ensures c.in_ok-ranges.ensures.record)
    c.in_ok-palette.ensures _ (c.in_ok-extend_from_slice.ensures.items ∙ ap (λ (xs : List Range). c.in_ok-ranges.ranges.items ++ xs) c.deref.ensures.value)

pub returns : goal.returns
returns g c =
    IfOk-weaker c.gathered.result _ _
    (λ v is. forwarded_both (code_given_value c.args.given.now) (space_of c.args.space) c.args.function.now c.in_ok-ranges.ranges.items c.in_ok-palette.palette.items
    (subst (λ (k : WindowKind). ArePassed (code_given_value c.args.given.now) k c.args.function.now c.in_ok-ranges.ranges.items) c.furthest.ensures c.in_ok-ranges.ensures.record)
    c.in_ok-palette.ensures _ v.items (c.in_ok-extend_from_slice.ensures.items ∙ ap (λ (xs : List Range). c.in_ok-ranges.ranges.items ++ xs) c.deref.ensures.value) is)
    c.gathered.ensures
