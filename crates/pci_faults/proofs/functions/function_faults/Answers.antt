use Rattle.std.proofs.Common.{◌<◌, ◌+◌, List, length, map, take, arith, sym, subst}
use Rattle.std.specs.List.{Contains}
use Rattle.std.proofs.lemmas.List.{take_all}
use Rattle.pci_spec.specs.Text.{Block}
use Rattle.pci_spec.specs.System.{System, Function, IsSystem, function_of, system_of}
use Rattle.pci_spec.specs.Fault.{Fault}
use Rattle.pci_spec.proofs.Pairing.{same_length, length-system_of, IsSystem-of_dumps}
use Rattle.pci_function.specs.Fault.{fault_of}
use Rattle.pci_function.proofs.FirstHere.{rest_of}
use Rattle.pci_tree.proofs.Pairs.{at_place, placed}
use Rattle.pci_faults.specs.Lists.{AreJust}
use Rattle.pci_faults.specs.OwnLines.{IsBeforeAt, IsOwnLine, IsOwnOf}
use Rattle.pci_faults.specs.Phases.{own_phase_number}
use Rattle.pci_faults.proofs.Lines.{lines_none, lines_more, own_key, own_in_system}
use Rattle.pci_faults.proofs.functions.function_faults.Goals as goal

pub bounds-probe-i : goal.bounds-probe-i
bounds-probe-i g c = let long = same_length c.args.dump.now c.args.probe.now c.requires.same in omega (arith, long)

pub loop-i-init : goal.loop-i-init
loop-i-init g c =
    let s = system_of c.args.dump.now c.args.probe.now in
    let phase = own_phase_number c.args.phase in
    let system : IsSystem s = IsSystem-of_dumps c.args.dump.now c.args.probe.now c.requires.dump c.requires.probe c.requires.same in
    subst (λ items. AreJust (IsBeforeAt s) (IsOwnOf (IsOwnLine phase) (take 0 s)) (map fault_of items)) (sym c.new-found.ensures.items)
    (lines_none s system phase (IsOwnLine phase) rest_of (own_key phase s system))

pub add_function-requires : goal.add_function-requires
add_function-requires g c =
    c.requires.none (function_of c.index-dump-i.result c.index-probe-i.result)
    (placed c.args.dump.now c.args.probe.now c.requires.same c.loop-i.i c.index-dump-i.result c.index-probe-i.result (omega arith) c.index-dump-i.is c.index-probe-i.is)

pub loop-i-preserved : goal.loop-i-preserved
loop-i-preserved g c =
    let dump = c.args.dump.now in
    let probe = c.args.probe.now in
    let s = system_of dump probe in
    let phase = own_phase_number c.args.phase in
    let b : Block = c.index-dump-i.result in
    let p : Block = c.index-probe-i.result in
    let f : Function = function_of b p in
    let i = c.loop-i.i in
    let system : IsSystem s = IsSystem-of_dumps dump probe c.requires.dump c.requires.probe c.requires.same in
    let long = length-system_of dump probe (same_length dump probe c.requires.same) in
    let within : i < length dump = omega arith in
    let at = at_place dump probe c.requires.same i b p within c.index-dump-i.is c.index-probe-i.is in
    let has : Contains s f = placed dump probe c.requires.same i b p within c.index-dump-i.is c.index-probe-i.is in
    let added = c.in_ok-add_function.ensures in
    subst (λ (xs : List Fault). AreJust (IsBeforeAt s) (IsOwnOf (IsOwnLine phase) (take (i + 1) s)) xs) (sym added.1)
    (lines_more s system phase (IsOwnLine phase) rest_of (own_key phase s system) i f (map fault_of c.loop-i.found.items) added.0 (omega (arith, within, long)) at c.loop-i.invariant
    (own_in_system phase s system f added.0 has added.2))

pub returns : goal.returns
returns g c =
    let dump = c.args.dump.now in
    let probe = c.args.probe.now in
    let s = system_of dump probe in
    let long = length-system_of dump probe (same_length dump probe c.requires.same) in
    subst (λ (fs : System). AreJust (IsBeforeAt s) (IsOwnOf (IsOwnLine (own_phase_number c.args.phase)) fs) (map fault_of c.loop-i.found.items))
    (take_all c.loop-i.i s (omega (arith, long, c.loop-i-test.false))) c.loop-i.invariant
