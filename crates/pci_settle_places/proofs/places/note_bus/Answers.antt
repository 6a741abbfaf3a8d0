use Rattle.std.proofs.Common.{◌<◌, ◌∙◌, map, length, get_or, sym, ap, subst, Some, None}
use Rattle.std.specs.Option.{IfSome}
use Rattle.std.specs.List.{All}
use Rattle.settle_spec.specs.Places.{placed_of, first_lack}
use Rattle.pci_first_fit.specs.Placings.{at_places}
use Rattle.pci_settle_places.specs.Candidates.{candidate_value, HasPart}
use Rattle.pci_settle_places.specs.BusPlaces.{bus_placing}
use Rattle.pci_settle_places.specs.Places.{NotesOf}
use Rattle.pci_settle_places.proofs.Wanted.{no_candidate}
use Rattle.pci_settle_places.proofs.Notes.{lacks_at}
use Rattle.pci_settle_places.proofs.places.note_bus.Goals as goal

pub returns-in-Some-clause-lack : goal.returns-in-Some-clause-lack
returns-in-Some-clause-lack g c = λ s. (
    let items = c.args.bus.now.candidates.items in
    let k = c.in-Some.index in
    let within : k < length items = subst (λ o. IfSome o (λ n. n < length items)) c.in-Some.is c.requires.lacking in
    ap (λ xs. Some (candidate_value s (get_or xs k no_candidate))) c.as_slice-candidates.ensures.value
    ∙ sym (lacks_at s items c.args.bus.now.places.items k no_candidate within)
    ∙ sym (ap (λ o. first_lack (bus_placing s items c.args.bus.now.places.items o) None) c.in-Some.is))

pub returns-in-None-clause-noted : goal.returns-in-None-clause-noted
returns-in-None-clause-noted g c = λ s system same parts.
    subst (λ placed. NotesOf s placed c.args.table.now c.note.new.table)
    (ap (λ xs. at_places (map (candidate_value s) xs) c.as_slice.result.now) c.as_slice-candidates.ensures.value
    ∙ ap (at_places (map (candidate_value s) c.args.bus.now.candidates.items)) c.as_slice.ensures.value
    ∙ sym (ap (λ o. placed_of (bus_placing s c.args.bus.now.candidates.items c.args.bus.now.places.items o)) c.in-None.is))
    (c.note.ensures.noted s system same (subst (All (HasPart s)) (sym c.as_slice-candidates.ensures.value) parts))
