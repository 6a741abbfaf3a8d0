use Rattle.std.proofs.Common.{◌≡◌, ◌∙◌, true, sym, subst, Vec}
use Rattle.pci_spec.specs.Bus.{is_root}
use Rattle.pci_base.specs.Space.{space_of}
use Rattle.pci_base.specs.declared.range.Range.{Range}
use Rattle.pci_tree.specs.Roots.{buses_of}
use Rattle.pci_place.specs.Above.{system_in}
use Rattle.pci_first_fit.specs.Lists.{lists_value}
use Rattle.pci_settle_places.specs.BusPlaces.{bus_placing}
use Rattle.pci_settle_places.specs.Spaces.{IsFirstRoot}
use Rattle.pci_settle_places.proofs.Buses.{root_places, untold_ending}
use Rattle.pci_settle_places.proofs.Notes.{notable}
use Rattle.pci_settle_places.proofs.SpaceSteps.{roots_noted}
use Rattle.pci_settle_places.proofs.space.place_on_roots.Goals as goal

pub place_bus-requires-clause-ending : goal.place_bus-requires-clause-ending
place_bus-requires-clause-ending g c =
    untold_ending c.args.pass.now.setting.now.admitted.now.roots (system_in c.args.pass.now.setting.now.admitted.now) (space_of c.args.pass.now.space) c.args.pass.now.setting.now.terms c.args.pass.now.setting.now.staying c.args.pass.now.windows.now c.in-Some.root

pub note_bus-requires : goal.note_bus-requires
note_bus-requires g c =
    let places = c.in_ok-places.places in
    notable (system_in c.args.pass.now.setting.now.admitted.now) places.candidates.items places.places.items places.lack c.in_ok-places.ensures.within _ c.requires.count

pub returns : goal.returns
returns g c =
    let outline = c.outline-outline.ensures in
    let s = system_in c.args.pass.now.setting.now.admitted.now in
    let places = c.in_ok-places.places in
    let root = c.in-Some.root in
    let first = subst (IsFirstRoot (buses_of c.roots-roots.result)) c.in-Some.is c.first_root.ensures in
    let is_one = subst (λ xs. is_root xs root ≡ true) (c.roots-roots.ensures ∙ outline.roots) first.1 in
    record {
      noted = roots_noted c.args.pass.now.setting.now.admitted.now.roots s (space_of c.args.pass.now.space) (lists_value c.args.lists.now) c.args.pass.now.setting.now.terms c.args.pass.now.setting.now.staying c.args.pass.now.windows.now root first.0 is_one c.args.table.now c.note_bus.new.table c.note_bus.result
          (bus_placing s places.candidates.items places.places.items places.lack)
          (root_places (λ (v : Vec Range g.row.A.Denot). v.items) c.args.pass.now.setting.now.admitted.now.roots s outline.admitted.system outline.admitted.nested (space_of c.args.pass.now.space)
          (lists_value c.args.lists.now) c.args.pass.now.setting.now.terms c.args.pass.now.setting.now.staying c.args.pass.now.windows.now root first.0 is_one _ (c.roots-roots.ensures ∙ outline.roots)
          c.in_ok-all.all.items _ c.as_slice-columns.ensures.value c.in_ok-all.ensures _ c.in_ok-places.ensures.placing)
          (c.note_bus.ensures.noted s outline.admitted.system (sym c.requires.count) c.in_ok-places.ensures.within.parts)
          (c.note_bus.ensures.lack s);
    }
