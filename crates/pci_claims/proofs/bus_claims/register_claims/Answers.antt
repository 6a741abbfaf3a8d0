use Rattle.std.proofs.Common.{List, ◌≡◌, ◌⊎◌, map, subst, sym, ◌∙◌}
use Rattle.std.specs.List.{Contains}
use Rattle.pci_spec.specs.Slot.{Slot}
use Rattle.pci_base.specs.declared.range.Range.{Range}
use Rattle.pci_base.specs.Space.{space_of}
use Rattle.pci_tree.specs.declared.region.Region.{Region}
use Rattle.pci_tree.specs.Ranges.{IsCanonical}
use Rattle.pci_tree.specs.Regions.{AreRegionsOf}
use Rattle.pci_claims.specs.Values.{code_given_value}
use Rattle.pci_claims.specs.Reached.{IsAccessReach}
use Rattle.pci_claims.specs.Claim.{Claimed}
use Rattle.pci_claims.specs.BusClaims.{AreRegisterClaimsOn}
use Rattle.pci_claims.proofs.BusClaiming.{never_unlisted, bus_of, no_claims, claims_are}
use Rattle.pci_claims.proofs.bus_claims.register_claims.Goals as goal

pub returns : goal.returns
returns g c s tree =
    let given = code_given_value c.args.board.now.given in
    let t = c.args.board.now.outline.now in
    let space = space_of c.args.space in
    let regions = c.in_ok-regions.regions.items in
    let here = c.in_ok-bridges.bridges.items in
    let reach = c.in-Some-2.reach.items in
    let are = c.in_ok-regions.ensures s tree.records in
    let some : Contains (map (λ (r : Region). r.slot) regions) c.in-Some.slot ⊎ Contains here c.in-Some.slot =
    subst (λ (l : List Slot). Contains (map (λ (r : Region). r.slot) regions) c.in-Some.slot ⊎ Contains l c.in-Some.slot) c.deref-2.ensures.value
    (subst (λ (l : List Region). Contains (map (λ (r : Region). r.slot) l) c.in-Some.slot ⊎ Contains c.deref-2.result.now c.in-Some.slot) c.deref.ensures.value c.in-Some.ensures) in
    let on_bus : c.in-Some.slot.bus ≡ c.args.bus = bus_of given t s tree c.args.bus space regions are c.args.board.now.bridges.now here c.requires c.in_ok-bridges.ensures c.in-Some.slot some in
    let gets : IsAccessReach given t.roots s space c.args.bus reach =
    subst (λ n. IsAccessReach given t.roots s space n reach) on_bus ((rw c.in-Some-2.is at c.in_ok-reach.ensures.exact) s tree.records) in
    let arriving : IsAccessReach given t.roots s space c.args.bus c.deref-5.result.now = subst (λ (l : List Range). IsAccessReach given t.roots s space c.args.bus l) (sym c.deref-5.ensures.value) gets in
    claims_are given t.roots s c.args.bus space c.deref-5.result.now arriving c.in_ok-claims.claims.items c.sort.new.claims.items
    (c.in_ok-claims.ensures.claims s tree c.args.bus
    record {
      regions = subst (λ (l : List Region). AreRegionsOf s c.args.bus space l) (sym c.deref-3.ensures.value) are;
      bridges = c.deref-4.ensures.value ∙ c.in_ok-bridges.ensures;
    }
    (λ a covers. ((arriving.exact a).0 covers).0))
    c.in_ok-sort.ensures.permutation c.in_ok-sort.ensures.sorted (c.in_ok-claims.ensures.nested s tree.records)

pub claims_arriving-requires-clause-canonical : goal.claims_arriving-requires-clause-canonical
claims_arriving-requires-clause-canonical g c = subst (λ (l : List Range). IsCanonical l) (sym c.deref-5.ensures.value) (rw c.in-Some-2.is at c.in_ok-reach.ensures.canonical)

pub returns-in_default : goal.returns-in_default
returns-in_default g c s tree =
    subst (λ (l : List Claimed). AreRegisterClaimsOn (code_given_value c.args.board.now.given) c.args.board.now.outline.now.roots s c.args.bus (space_of c.args.space) l) (sym c.new.ensures.items)
    (no_claims (code_given_value c.args.board.now.given) c.args.board.now.outline.now s tree c.args.bus (space_of c.args.space) c.in_ok-regions.regions.items (c.in_ok-regions.ensures s tree.records)
    c.args.board.now.bridges.now c.in_ok-bridges.bridges.items c.requires c.in_ok-bridges.ensures (sym c.deref.ensures.value ∙ c.in_default.ensures.0) (sym c.deref-2.ensures.value ∙ c.in_default.ensures.1))

pub returns-in_default-2 : goal.returns-in_default-2
returns-in_default-2 g c s tree = absurd
    (never_unlisted (code_given_value c.args.board.now.given) c.args.board.now.outline.now s tree c.args.bus (space_of c.args.space) c.in_ok-regions.regions.items (c.in_ok-regions.ensures s tree.records)
    c.args.board.now.bridges.now c.in_ok-bridges.bridges.items c.requires c.in_ok-bridges.ensures c.in-Some.slot
    (subst (λ (l : List Slot). Contains (map (λ (r : Region). r.slot) c.in_ok-regions.regions.items) c.in-Some.slot ⊎ Contains l c.in-Some.slot) c.deref-2.ensures.value
    (subst (λ (l : List Region). Contains (map (λ (r : Region). r.slot) l) c.in-Some.slot ⊎ Contains c.deref-2.result.now c.in-Some.slot) c.deref.ensures.value c.in-Some.ensures))
    (rw c.in_default-2.is at c.in_ok-reach.ensures.exact))
