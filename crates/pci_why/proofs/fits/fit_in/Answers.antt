use Rattle.std.proofs.Common.{arith, sym, subst, List, ℕ, ◌+◌}
use Rattle.std.specs.Prelude.{◌↔◌}
use Rattle.pci_base.specs.declared.range.Range.{Range}
use Rattle.pci_base.specs.Space.{space_of}
use Rattle.pci_tree.specs.Ranges.{Covers, IsCanonical}
use Rattle.pci_claims.specs.Found.{region_of_found}
use Rattle.pci_why.specs.Free.{IsFreeFor}
use Rattle.pci_why.proofs.Freed.{never_unlisted}
use Rattle.pci_why.proofs.Placing.{to_reached, least_is}
use Rattle.pci_why.proofs.fits.fit_in.Goals as goal

pub returns-in_default-clause-exact : goal.returns-in_default-clause-exact
returns-in_default-clause-exact g c = rw c.in_default.is (λ told given t none s f part tree nested listed is first place.
    absurd (never_unlisted t s tree f c.args.moving.now.region.slot listed is.slot none))

pub returns-in-None-clause-exact : goal.returns-in-None-clause-exact
returns-in-None-clause-exact g c = rw c.in-Some.is (λ told given t ready s f part tree nested listed is first place.
    let q = region_of_found c.args.moving.now.region part (space_of c.args.moving.now.space) in
    let free = c.in_ok-free.ensures.exact told given t ready.0 ready.1 s f part tree nested listed is in
    let exact = subst (λ (rs : List Range). (a : ℕ) → Covers rs a ↔ IsFreeFor told given t.roots s q a) (sym c.deref.ensures.value) free in
    c.in-None.ensures.least (subst (λ (rs : List Range). IsCanonical rs) (sym c.deref.ensures.value) c.in_ok-free.ensures.canonical) first (omega arith)
    (to_reached told given t.roots s q c.args.moving.now.wide (c.from-more.result + 1) c.end_of_places-end.result c.deref.result.now exact (omega (arith, c.from-more.ensures, c.requires))
    c.end_of_places-end.ensures.number first place))

pub returns-clause-exact : goal.returns-clause-exact
returns-clause-exact g c = rw c.in-Some.is (λ told given t ready s f part tree nested listed is.
    let q = region_of_found c.args.moving.now.region part (space_of c.args.moving.now.space) in
    let free = c.in_ok-free.ensures.exact told given t ready.0 ready.1 s f part tree nested listed is in
    let exact = subst (λ (rs : List Range). (a : ℕ) → Covers rs a ↔ IsFreeFor told given t.roots s q a) (sym c.deref.ensures.value) free in
    least_is told given t.roots s q c.args.moving.now.wide (c.from-more.result + 1) c.end_of_places-end.result c.deref.result.now exact (omega (arith, c.from-more.ensures, c.requires))
    c.end_of_places-end.ensures.number c.in-Some-least_from.first (c.in-Some-least_from.first + c.from-more.result) (omega arith)
    (c.in-Some-least_from.ensures.least (subst (λ (rs : List Range). IsCanonical rs) (sym c.deref.ensures.value) c.in_ok-free.ensures.canonical)))
