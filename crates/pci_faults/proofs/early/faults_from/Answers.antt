use Rattle.std.proofs.Common.{◌≡◌, map, arith, sym, ◌∙◌}
use Rattle.pci_spec.specs.Order.{phase_of}
use Rattle.pci_function.specs.Fault.{fault_of}
use Rattle.pci_tree.specs.Roots.{buses_of}
use Rattle.pci_faults.proofs.Wholes.{ok_begins, ok_more, before_judging, none_of_functions, whole_of_slots, whole_of_functions, whole_of_places}
use Rattle.pci_faults.proofs.early.faults_from.Goals as goal

pub function_faults-requires-in-2-clause-none : goal.function_faults-requires-in-2-clause-none
function_faults-requires-in-2-clause-none g c =
    none_of_functions (buses_of c.args.roots.now) c.args.dump.now c.args.probe.now c.blocks-blocks.result.now c.blocks-probes.result.now c.blocks-blocks.ensures.value c.blocks-probes.ensures.value
    c.blocks-blocks.ensures.dump c.blocks-probes.ensures.dump (fault_of c.args.first) c.requires.first 2 (omega arith) (sym c.phase.ensures ∙ c.in-2.is)

pub function_faults-requires-in-3-clause-none : goal.function_faults-requires-in-3-clause-none
function_faults-requires-in-3-clause-none g c =
    none_of_functions (buses_of c.args.roots.now) c.args.dump.now c.args.probe.now c.blocks-blocks.result.now c.blocks-probes.result.now c.blocks-blocks.ensures.value c.blocks-probes.ensures.value
    c.blocks-blocks.ensures.dump c.blocks-probes.ensures.dump (fault_of c.args.first) c.requires.first 3 (omega arith) (sym c.phase.ensures ∙ c.in-3.is)

pub place_faults-requires-clause-none : goal.place_faults-requires-clause-none
place_faults-requires-clause-none g c =
    let early = before_judging (fault_of c.args.first) c.requires.early in
    let phase : phase_of (fault_of c.args.first) ≡ 4 = omega arith in
    none_of_functions (buses_of c.args.roots.now) c.args.dump.now c.args.probe.now c.blocks-blocks.result.now c.blocks-probes.result.now c.blocks-blocks.ensures.value c.blocks-probes.ensures.value
    c.blocks-blocks.ensures.dump c.blocks-probes.ensures.dump (fault_of c.args.first) c.requires.first 4 (omega arith) phase

pub returns-in-0-clause-all : goal.returns-in-0-clause-all
returns-in-0-clause-all g c =
    ok_more _ _ c.slot_faults.result
    (λ found just. whole_of_slots (buses_of c.args.roots.now) c.args.dump.now c.args.probe.now c.blocks-blocks.result.now c.blocks-probes.result.now c.blocks-blocks.ensures.value c.blocks-probes.ensures.value
    c.blocks-blocks.ensures.dump c.blocks-probes.ensures.dump (fault_of c.args.first) c.requires.first (sym c.phase.ensures ∙ c.in-0.is) (map fault_of found.items) just) c.slot_faults.ensures

pub returns-in-1-clause-all : goal.returns-in-1-clause-all
returns-in-1-clause-all g c =
    ok_more _ _ c.function_faults.result
    (λ found just. whole_of_functions (buses_of c.args.roots.now) c.args.dump.now c.args.probe.now c.blocks-blocks.result.now c.blocks-probes.result.now c.blocks-blocks.ensures.value c.blocks-probes.ensures.value
    c.blocks-blocks.ensures.dump c.blocks-probes.ensures.dump (fault_of c.args.first) c.requires.first 1 (omega arith) (omega arith) (sym c.phase.ensures ∙ c.in-1.is) (map fault_of found.items) just) c.function_faults.ensures

pub returns-in-2-clause-all : goal.returns-in-2-clause-all
returns-in-2-clause-all g c =
    ok_more _ _ c.function_faults-in-2.result
    (λ found just. whole_of_functions (buses_of c.args.roots.now) c.args.dump.now c.args.probe.now c.blocks-blocks.result.now c.blocks-probes.result.now c.blocks-blocks.ensures.value c.blocks-probes.ensures.value
    c.blocks-blocks.ensures.dump c.blocks-probes.ensures.dump (fault_of c.args.first) c.requires.first 2 (omega arith) (omega arith) (sym c.phase.ensures ∙ c.in-2.is) (map fault_of found.items) just) c.function_faults-in-2.ensures

pub returns-in-3-clause-all : goal.returns-in-3-clause-all
returns-in-3-clause-all g c =
    ok_more _ _ c.function_faults-in-3.result
    (λ found just. whole_of_functions (buses_of c.args.roots.now) c.args.dump.now c.args.probe.now c.blocks-blocks.result.now c.blocks-probes.result.now c.blocks-blocks.ensures.value c.blocks-probes.ensures.value
    c.blocks-blocks.ensures.dump c.blocks-probes.ensures.dump (fault_of c.args.first) c.requires.first 3 (omega arith) (omega arith) (sym c.phase.ensures ∙ c.in-3.is) (map fault_of found.items) just) c.function_faults-in-3.ensures

pub returns-in_default-clause-all : goal.returns-in_default-clause-all
returns-in_default-clause-all g c =
    let early = before_judging (fault_of c.args.first) c.requires.early in
    let phase : phase_of (fault_of c.args.first) ≡ 4 = omega arith in
    ok_more _ _ c.place_faults.result
    (λ found just. whole_of_places (buses_of c.args.roots.now) c.args.dump.now c.args.probe.now c.blocks-blocks.result.now c.blocks-probes.result.now c.blocks-blocks.ensures.value c.blocks-probes.ensures.value
    c.blocks-blocks.ensures.dump c.blocks-probes.ensures.dump (fault_of c.args.first) c.requires.first phase (map fault_of found.items) just) c.place_faults.ensures

pub returns-in-0-clause-head : goal.returns-in-0-clause-head
returns-in-0-clause-head g c =
    ok_begins (buses_of c.args.roots.now) c.args.dump.now c.args.probe.now (fault_of c.args.first) c.requires.early c.requires.first (λ found. map fault_of found.items) c.slot_faults.result
    (returns-in-0-clause-all g c)

pub returns-in-1-clause-head : goal.returns-in-1-clause-head
returns-in-1-clause-head g c =
    ok_begins (buses_of c.args.roots.now) c.args.dump.now c.args.probe.now (fault_of c.args.first) c.requires.early c.requires.first (λ found. map fault_of found.items) c.function_faults.result
    (returns-in-1-clause-all g c)

pub returns-in-2-clause-head : goal.returns-in-2-clause-head
returns-in-2-clause-head g c =
    ok_begins (buses_of c.args.roots.now) c.args.dump.now c.args.probe.now (fault_of c.args.first) c.requires.early c.requires.first (λ found. map fault_of found.items) c.function_faults-in-2.result
    (returns-in-2-clause-all g c)

pub returns-in-3-clause-head : goal.returns-in-3-clause-head
returns-in-3-clause-head g c =
    ok_begins (buses_of c.args.roots.now) c.args.dump.now c.args.probe.now (fault_of c.args.first) c.requires.early c.requires.first (λ found. map fault_of found.items) c.function_faults-in-3.result
    (returns-in-3-clause-all g c)

pub returns-in_default-clause-head : goal.returns-in_default-clause-head
returns-in_default-clause-head g c =
    ok_begins (buses_of c.args.roots.now) c.args.dump.now c.args.probe.now (fault_of c.args.first) c.requires.early c.requires.first (λ found. map fault_of found.items) c.place_faults.result
    (returns-in_default-clause-all g c)
