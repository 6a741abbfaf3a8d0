use Rattle.std.proofs.Common.{◌++◌, ◌∷◌, [], ◌∙◌, map, sym, ap, Vec}
use Rattle.pci_base.specs.Space.{space_of}
use Rattle.pci_base.specs.declared.range.Range.{Range}
use Rattle.pci_place.specs.Above.{system_in}
use Rattle.pci_settle_places.proofs.Notes.{notable}
use Rattle.pci_settle_places.proofs.SpaceSteps.{three_are, behind_noted}
use Rattle.pci_settle_places.proofs.space.place_behind.Goals as goal

pub note_bus-requires : goal.note_bus-requires
note_bus-requires g c =
    let places = c.in_ok-places.places in
    notable (system_in c.args.pass.now.setting.now.admitted.now) places.candidates.items places.places.items places.lack c.in_ok-places.ensures.within _ c.requires.count

pub returns : goal.returns
returns g c =
    let s = system_in c.args.pass.now.setting.now.admitted.now in
    let items = λ (v : Vec Range g.row.A.Denot). v.items in
    let column = c.in_ok-column.column in
    record {
      noted = behind_noted c.args.pass.now.setting.now.admitted.now.roots s (space_of c.args.pass.now.space) c.args.pass.now.setting.now.terms c.args.pass.now.setting.now.staying c.args.pass.now.windows.now c.args.bridge.now c.requires.behind c.args.function c.args.table.now c.note_bus.new.table c.requires.function _
          c.kept_by.result.now c.kept_by.ensures c.ranges_told-grown.result.now c.ranges_told-grown.ensures
          c.plain_window.result c.prefetch_window.result c.plain_window.ensures c.prefetch_window.ensures (map items c.as_slice.result.now)
          (ap (map items) c.as_slice.ensures.value
          ∙ c.in_ok-add_column.ensures
          ∙ ap (λ xs. map items xs ++ (column.plain.items ∷ (column.wide.items ∷ (column.prefetch.items ∷ [])))) c.new-lists.ensures.items
          ∙ three_are column.plain.items column.wide.items column.prefetch.items _ _ _ c.in_ok-column.ensures.plain c.in_ok-column.ensures.wide c.in_ok-column.ensures.prefetch)
          _ c.in_ok-places.ensures.placing
          (λ system. c.note_bus.ensures.noted s system (sym c.requires.count) c.in_ok-places.ensures.within.parts);
    }
