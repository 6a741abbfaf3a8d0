use Rattle.std.proofs.Common.{◌<◌, [], Bor, List, ℕ, if◌then◌else◌, length, map, arith, ◌∙◌}
use Rattle.std.specs.Prelude.{codes}
use Rattle.std.proofs.lemmas.List.{length-map}
use Rattle.pci_picture.specs.Cuts.{extents_told}
use Rattle.pci_picture.specs.Maps.{lines_of_regions}
use Rattle.pci_picture.specs.Marks.{keys_told}
use Rattle.pci_picture.specs.Tellings.{fits_by, last_key, range_behind, shared_by}
use Rattle.pci_picture.proofs.Said.{fault_found, fault_missing}
use Rattle.pci_picture.proofs.Told.{fits_at, key_here, said_none, shared_at, told_more, told_none}
use Rattle.pci_picture.proofs.tellings.add_fault.Goals as goal

pub loop-place-init : goal.loop-place-init
loop-place-init g c =
    let lines = map (λ (line : Bor (List ℕ)). line.now) c.args.faults.now.lines.items in
    record {
      shared = told_none (range_behind (codes "shared") c.args.digits) lines c.in-Some.fault.now.begin (extents_told c.args.tellings.now.shared.items);
      fits = told_none (λ line. if c.is_moved_here-moves_here.result then range_behind (codes "fits ") c.args.digits line else []) lines c.in-Some.fault.now.begin
          (extents_told c.args.tellings.now.fits.items);
    }

pub loop-place-preserved : goal.loop-place-preserved
loop-place-preserved g c =
    let faults = c.args.faults.now in
    let lines = map (λ (line : Bor (List ℕ)). line.now) faults.lines.items in
    let found =
    fault_found faults c.deref.result.now c.args.index c.in-Some.fault.now c.deref.ensures.value c.in-Some.ensures.lookup.0 c.in-Some.ensures.lookup.1 in
    let long = length-map faults.lines.items (λ (line : Bor (List ℕ)). line.now) in
    let inside : c.loop-place.place < length lines = (let within = found.1.1 in omega (arith, within, long, c.loop-place-test.true)) in
    record {
      shared =
          told_more (range_behind (codes "shared") c.args.digits) lines c.in-Some.fault.now.begin c.loop-place.place c.line.result.now _ _ _
          (omega (arith, c.loop-place.auto.place)) inside c.line.ensures c.loop-place.invariant.shared c.in_ok-add_telling.ensures.shared;
      fits =
          told_more (λ line. if c.is_moved_here-moves_here.result then range_behind (codes "fits ") c.args.digits line else []) lines c.in-Some.fault.now.begin c.loop-place.place
          c.line.result.now _ _ _ (omega (arith, c.loop-place.auto.place)) inside c.line.ensures c.loop-place.invariant.fits c.in_ok-add_telling.ensures.fits;
    }

pub returns-clause-shared : goal.returns-clause-shared
returns-clause-shared g c =
    let faults = c.args.faults.now in
    let found =
    fault_found faults c.deref.result.now c.args.index c.in-Some.fault.now c.deref.ensures.value c.in-Some.ensures.lookup.0 c.in-Some.ensures.lookup.1 in
    shared_at faults c.args.digits c.args.index c.loop-place.place c.in-Some.fault.now _ _ found (omega (arith, c.loop-place-test.false))
    (let some = found.1.0 in omega (arith, some, c.loop-place.auto.place-end)) c.loop-place.invariant.shared

pub returns-clause-fits : goal.returns-clause-fits
returns-clause-fits g c regions are =
    let faults = c.args.faults.now in
    let fault = c.in-Some.fault.now in
    let found =
    fault_found faults c.deref.result.now c.args.index fault c.deref.ensures.value c.in-Some.ensures.lookup.0 c.in-Some.ensures.lookup.1 in
    fits_at faults c.args.digits c.args.index c.loop-place.place fault c.is_moved_here-moves_here.result (lines_of_regions regions) _ _ found
    (omega (arith, c.loop-place-test.false)) (let some = found.1.0 in omega (arith, some, c.loop-place.auto.place-end))
    (c.is_moved_here-moves_here.ensures are.sorted ∙ key_here regions c.args.keys.now (last_key (keys_told fault.keys)) are) c.loop-place.invariant.fits

pub returns-in_default-clause-shared : goal.returns-in_default-clause-shared
returns-in_default-clause-shared g c =
    let faults = c.args.faults.now in
    said_none faults (shared_by c.args.digits) c.args.index (extents_told c.args.tellings.now.shared.items)
    (fault_missing c.deref.result.now faults.faults.items c.args.index c.deref.ensures.value c.in_default.ensures.lookup.0)

pub returns-in_default-clause-fits : goal.returns-in_default-clause-fits
returns-in_default-clause-fits g c regions are =
    let faults = c.args.faults.now in
    said_none faults (fits_by c.args.digits (lines_of_regions regions)) c.args.index (extents_told c.args.tellings.now.fits.items)
    (fault_missing c.deref.result.now faults.faults.items c.args.index c.deref.ensures.value c.in_default.ensures.lookup.0)
