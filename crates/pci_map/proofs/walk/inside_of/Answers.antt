use Rattle.std.proofs.Common.{rules, ◌≡◌, arith, ap, sym, ◌∙◌, subst}
use Rattle.std.specs.Prelude.{MatchOption}
use Rattle.pci_spec.specs.Slot.{Slot}
use Rattle.pci_base.specs.Space.{space_of}
use Rattle.pci_tree.specs.declared.region.Part.TheVariants.{Window}
use Rattle.pci_tree.specs.declared.region.Region.{Region}
use Rattle.pci_tree.specs.Regions.{IsRegionOn}
use Rattle.pci_claims.specs.Values.{code_given_value, told_value}
use Rattle.pci_map.specs.Seats.{IsSeatOn}
use Rattle.pci_map.specs.Values.{Mapped, mapped_of}
use Rattle.pci_map.specs.Inside.{AreInsideWindow}
use Rattle.pci_map.specs.Walk.{IsNoWindow}
use Rattle.pci_map.proofs.Values.{told_region}
use Rattle.pci_map.proofs.walk.inside_of.Goals as goal

pub returns-in_default-clause-inside : goal.returns-in_default-clause-inside
returns-in_default-clause-inside g c = λ s of on. search rules

pub returns-then-ne-clause-inside : goal.returns-then-ne-clause-inside
returns-then-ne-clause-inside g c = λ s of on. subst IsNoWindow (sym c.in-Own.is) (λ window. search (rules, window))

pub returns-in_default-2-clause-inside : goal.returns-in_default-2-clause-inside
returns-in_default-2-clause-inside g c = λ s of on.
    let walk = c.args.walk.now in
    let mapped = walk.mapped.now in
    let w : Region = c.in-Own.region in
    let window : w.part ≡ Window = search rules in
    let on_w : IsRegionOn s c.args.bus (space_of walk.space) w = subst (IsSeatOn (told_value mapped.told) s c.args.bus (space_of walk.space)) c.in-Own.is on in
    let m : Mapped = mapped_of (told_value mapped.told) (code_given_value mapped.given) mapped.outline.now s (space_of walk.space) in
    absurd (subst (λ o. MatchOption o ⊥ (λ i. AreInsideWindow m w i.bus i.regions.items i.runs.items)) c.in_default-2.is
    (c.in_ok-inside.ensures s of (told_region s c.args.bus (space_of walk.space) w on_w) window))

pub returns-then-inside-bus-clause-inside : goal.returns-then-inside-bus-clause-inside
returns-then-inside-bus-clause-inside g c = λ s of on.
    let walk = c.args.walk.now in
    let mapped = walk.mapped.now in
    let w : Region = c.in-Own.region in
    let window : w.part ≡ Window = search rules in
    let on_w : IsRegionOn s c.args.bus (space_of walk.space) w = subst (IsSeatOn (told_value mapped.told) s c.args.bus (space_of walk.space)) c.in-Own.is on in
    let m : Mapped = mapped_of (told_value mapped.told) (code_given_value mapped.given) mapped.outline.now s (space_of walk.space) in
    let inside = subst (λ o. MatchOption o ⊥ (λ i. AreInsideWindow m w i.bus i.regions.items i.runs.items)) c.in-Some.is
    (c.in_ok-inside.ensures s of (told_region s c.args.bus (space_of walk.space) w on_w) window) in
    let rises = inside.rises in
    let low = c.if-inside-bus.true in
    let bus : w.slot.bus ≡ c.args.bus = ap (λ (x : Slot). x.bus) on_w.is.slot ∙ on_w.on_bus in
    absurd (let no : ⊥ = omega (arith, rises, low, bus) in no)

pub returns-clause-inside : goal.returns-clause-inside
returns-clause-inside g c = λ s of on.
    let walk = c.args.walk.now in
    let mapped = walk.mapped.now in
    let w : Region = c.in-Own.region in
    let window : w.part ≡ Window = search rules in
    let on_w : IsRegionOn s c.args.bus (space_of walk.space) w = subst (IsSeatOn (told_value mapped.told) s c.args.bus (space_of walk.space)) c.in-Own.is on in
    let m : Mapped = mapped_of (told_value mapped.told) (code_given_value mapped.given) mapped.outline.now s (space_of walk.space) in
    record {
      w = w;
      is = c.in-Own.is;
      window = window;
      inside = subst (λ o. MatchOption o ⊥ (λ i. AreInsideWindow m w i.bus i.regions.items i.runs.items)) c.in-Some.is
          (c.in_ok-inside.ensures s of (told_region s c.args.bus (space_of walk.space) w on_w) window);
    }
