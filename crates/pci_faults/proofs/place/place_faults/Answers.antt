use Rattle.std.proofs.Common.{◌≡◌, ◌<◌, ◌+◌, List, [], ◌++◌, length, get_or, map, take, arith, sym, ◌∙◌, ap, subst, Option}
use Rattle.std.proofs.lemmas.List.{get_or_default, take_all}
use Rattle.pci_spec.specs.System.{System, Function, IsSystem, system_of}
use Rattle.pci_spec.specs.Fault.{Fault}
use Rattle.pci_spec.specs.Order.{image_at}
use Rattle.pci_spec.specs.Decoded.{HasRecords}
use Rattle.pci_spec.proofs.Pairing.{IsSystem-of_dumps}
use Rattle.pci_function.specs.declared.fault.Fault.{Fault as FaultOfCode}
use Rattle.pci_function.specs.declared.record.Record.{Record}
use Rattle.pci_function.specs.Fault.{fault_of}
use Rattle.pci_function.specs.Values.{record_value}
use Rattle.pci_function.proofs.FirstHere.{rest_of}
use Rattle.pci_tree.specs.Roots.{buses_of}
use Rattle.pci_faults.specs.Lists.{AreJust, present_faults}
use Rattle.pci_faults.specs.OwnLines.{IsBeforeAt, IsOwnOf}
use Rattle.pci_faults.specs.Places.{IsPlaceOf, place_list}
use Rattle.pci_faults.proofs.Lines.{lines_more}
use Rattle.pci_faults.proofs.OfPlace.{as_many, records_rise, records_slots, place_key, place_lines}
use Rattle.pci_faults.proofs.place.place_faults.Goals as goal

pub place_faults_of-faults-requires-clause-rising : goal.place_faults_of-faults-requires-clause-rising
place_faults_of-faults-requires-clause-rising g c =
    let s = system_of c.args.dump.now c.args.probe.now in
    let system : IsSystem s = IsSystem-of_dumps c.args.dump.now c.args.probe.now c.requires.dump c.requires.probe c.requires.same in
    records_rise s system c.as_slice-functions.result.now (subst (λ xs. HasRecords s (map record_value xs)) (sym c.as_slice-functions.ensures.value) c.in_ok-records.ensures)

pub place_faults_of-faults-requires-clause-slots : goal.place_faults_of-faults-requires-clause-slots
place_faults_of-faults-requires-clause-slots g c =
    let s = system_of c.args.dump.now c.args.probe.now in
    let system : IsSystem s = IsSystem-of_dumps c.args.dump.now c.args.probe.now c.requires.dump c.requires.probe c.requires.same in
    records_slots s system c.as_slice-functions.result.now (subst (λ xs. HasRecords s (map record_value xs)) (sym c.as_slice-functions.ensures.value) c.in_ok-records.ensures)

pub loop-function-preserved : goal.loop-function-preserved
loop-function-preserved g c =
    let dump = c.args.dump.now in
    let probe = c.args.probe.now in
    let s = system_of dump probe in
    let roots = buses_of c.args.roots.now in
    let rs : List Record = c.as_slice-functions.result.now in
    let r : Record = c.function-item.result in
    let i = c.loop-function.function-index in
    let system : IsSystem s = IsSystem-of_dumps dump probe c.requires.dump c.requires.probe c.requires.same in
    let has : HasRecords s (map record_value rs) = subst (λ xs. HasRecords s (map record_value xs)) (sym c.as_slice-functions.ensures.value) c.in_ok-records.ensures in
    let long = as_many s system rs has in
    let within : i < length s = omega (arith, long, c.loop-function-test.true) in
    let some : Function = record { slot = r.slot; image = []; probe = [] } in
    let f : Function = get_or s i some in
    let at : get_or s i f ≡ f = get_or_default s i f some within in
    let found = c.place_faults_of-faults.ensures in
    let list : List (Option FaultOfCode) = place_list r.slot found.0 in
    let same : c.as_slice.result.now ≡ list = c.as_slice.ensures ∙ found.2 in
    let grown : map fault_of c.add_told.new.found.items ≡ map fault_of c.loop-function.found.items ++ present_faults list =
    c.in_ok-add_told.ensures ∙ ap (λ xs. map fault_of c.loop-function.found.items ++ present_faults xs) same in
    subst (λ (xs : List Fault). AreJust (IsBeforeAt s) (IsOwnOf (IsPlaceOf roots s) (take (i + 1) s)) xs) (sym grown)
    (lines_more s system 4 (IsPlaceOf roots s) rest_of (λ h e in_s own. place_key (image_at s) h e own.1) i f (map fault_of c.loop-function.found.items) (present_faults list) within at c.loop-function.invariant
    (place_lines roots s system rs has i r f found.0 within c.function-item.is at found.1))

pub returns : goal.returns
returns g c =
    let dump = c.args.dump.now in
    let probe = c.args.probe.now in
    let s = system_of dump probe in
    let rs : List Record = c.as_slice-functions.result.now in
    let system : IsSystem s = IsSystem-of_dumps dump probe c.requires.dump c.requires.probe c.requires.same in
    let has : HasRecords s (map record_value rs) = subst (λ xs. HasRecords s (map record_value xs)) (sym c.as_slice-functions.ensures.value) c.in_ok-records.ensures in
    let long = as_many s system rs has in
    subst (λ (fs : System). AreJust (IsBeforeAt s) (IsOwnOf (IsPlaceOf (buses_of c.args.roots.now) s) fs) (map fault_of c.loop-function.found.items))
    (take_all c.loop-function.function-index s (omega (arith, long, c.loop-function-test.false))) c.loop-function.invariant
