use Rattle.std.proofs.Common.{subst, sym, refl, false}
use Rattle.std.proofs.lemmas.Bool.{both_ways}
use Rattle.std.proofs.lemmas.Result.{IfOk-weaker}
use Rattle.pci_spec.specs.Decoded.{HasRecords}
use Rattle.pci_base.specs.Space.{space_of}
use Rattle.pci_tree.specs.Roots.{buses_of}
use Rattle.pci_tree.specs.Regions.{AreRegionsOf}
use Rattle.pci_tree.specs.Outline.{Tree, RiseBySlot, IsBusPart}
use Rattle.pci_tree.proofs.Lifting.{Has}
use Rattle.pci_tree.proofs.BusParts.{regions_of_part, regions_unled}
use Rattle.pci_tree.proofs.Leaders.{unled_of}
use Rattle.pci_tree.proofs.outline.Outline.regions.Goals as goal

pub returns-then-not-is_led_to : goal.returns-then-not-is_led_to
returns-then-not-is_led_to g c s has =
    subst (AreRegionsOf s c.args.bus (space_of c.args.space)) (sym c.new.ensures.items)
    (regions_unled s (buses_of c.self.inside.roots) c.self.inside.records.items c.args.bus (space_of c.args.space) (subst (λ (t : Tree). HasRecords s t.records) (sym c.self.view_is) has) c.self.invariant.0
    (unled_of (buses_of c.self.inside.roots) c.self.inside.records.items c.args.bus (λ led. both_ways false refl ((c.if-not-is_led_to.ensures c.self.inside.records.items c.self.invariant.1).1 led))))

pub on_bus-part-requires-clause-rising : goal.on_bus-part-requires-clause-rising
on_bus-part-requires-clause-rising g c = subst RiseBySlot (sym c.deref.ensures.value) c.self.invariant.0.rising

pub returns : goal.returns
returns g c = IfOk-weaker c.regions_among.result _ _
    (λ v is s has. (
    let here : Has s c.self.inside.records.items = subst (λ (t : Tree). HasRecords s t.records) (sym c.self.view_is) has in
    let part : IsBusPart c.self.inside.records.items c.args.bus c.on_bus-part.result.now = subst (λ rs. IsBusPart rs c.args.bus c.on_bus-part.result.now) c.deref.ensures.value c.on_bus-part.ensures in
    subst (AreRegionsOf s c.args.bus (space_of c.args.space)) (sym is)
    (regions_of_part s c.self.inside.records.items c.on_bus-part.result.now c.args.bus (space_of c.args.space) here c.self.invariant.0.lawful part)))
    c.regions_among.ensures
