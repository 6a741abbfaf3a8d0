use Rattle.std.proofs.Common.{◌≡◌, ℕ, ◌≤◌, List, [], map, get_or, IsTrue, IsFalse, arith, sym, ◌∙◌, ap, subst}
use Rattle.std.specs.List.{All}
use Rattle.std.proofs.lemmas.List.{take_all}
use Rattle.pci_spec.specs.Text.{Block, IsDump, slots_of}
use Rattle.pci_spec.specs.System.{system_of}
use Rattle.pci_spec.specs.Machine.{target_of, sized}
use Rattle.pci_spec.specs.Fault.{IsThere}
use Rattle.pci_spec.specs.Decoded.{IsDecodable}
use Rattle.pci_spec.proofs.Pairing.{same_length, length-system_of}
use Rattle.pci_spec.specs.Order.{phase_of, is_before, image_at}
use Rattle.pci_function.specs.Fault.{fault_of, image_fault_at}
use Rattle.pci_tree.specs.Pair.{IsPair}
use Rattle.pci_tree.proofs.Pairs.{holds_of_more}
use Rattle.pci_machine.specs.Memory.{IsMachine}
use Rattle.pci_spec.specs.Sizing.{function_at, IsSizable}
use Rattle.pci_machine.specs.Made.{is_of_list}
use Rattle.pci_machine.proofs.MadeOrder.{early_is_not_of_list, register_is_not_of_list, IsRefusal, refused}
use Rattle.pci_machine.proofs.MadeOf.{made_more, machine-of, function-of, sizable-of, read_backs-of}
use Rattle.pci_machine.proofs.machine.Machine.of.Goals as goal

pub bounds-probes-i : goal.bounds-probes-i
bounds-probes-i g c =
    let same = ap slots_of c.blocks-blocks.ensures.value ∙ (c.in-Ok.ensures.ok []).same ∙ sym (ap slots_of c.blocks-probes.ensures.value) in
    let long = same_length c.blocks-blocks.result.now c.blocks-probes.result.now same in
    omega (arith, long)

pub returns-in-Err-clause-kind : goal.returns-in-Err-clause-kind
returns-in-Err-clause-kind g c = let early = c.in-Err.ensures.kind in (omega (arith, early), early_is_not_of_list (fault_of c.in-Err.fault) early)

-- the fault of the registers that are refused, in the two dumps as they were lent
refusal : (g : _) (c : goal.After-drop-functions-in-Err-registers_of g) → IsRefusal c.args.dump.now c.args.probe.now (image_fault_at c.block.inside.slot c.in-Err-registers_of.fault)
refusal g c =
    let dump = c.blocks-blocks.result.now in
    let probe = c.blocks-probes.result.now in
    let e = image_fault_at c.block.inside.slot c.in-Err-registers_of.fault in
    let b : Block = record { slot = c.block.inside.slot; title = c.block.inside.title; image = c.block.inside.image.0 } in
    let p : Block = record { slot = c.read_backs.inside.slot; title = c.read_backs.inside.title; image = c.read_backs.inside.image.0 } in
    let b_is = subst (λ x. x ≡ get_or dump c.loop-i.i x) (sym c.block.view_is) c.index-blocks-i.is in
    let p_is = subst (λ x. x ≡ get_or probe c.loop-i.i x) (sym c.read_backs.view_is) c.index-probes-i.is in
    let hd : IsDump dump = subst IsDump (sym c.blocks-blocks.ensures.value) c.blocks-blocks.ensures.dump in
    let hp : IsDump probe = subst IsDump (sym c.blocks-probes.ensures.value) c.blocks-probes.ensures.dump in
    let pair : (roots : List ℕ) → IsPair roots dump probe = λ roots.
    subst (λ xs. IsPair roots xs probe) (sym c.blocks-blocks.ensures.value) (subst (λ xs. IsPair roots c.args.dump.now xs) (sym c.blocks-probes.ensures.value) (c.in-Ok.ensures.ok roots)) in
    let is : IsRefusal dump probe e = refused dump probe hd hp pair c.loop-i.i b p c.loop-i-test.true b_is p_is c.in-Err-registers_of.fault c.in-Err-registers_of.ensures.fault
    c.loop-i.invariant.decodable c.in-Err-registers_of.ensures.first in
    subst (λ xs. IsRefusal xs c.args.probe.now e) c.blocks-blocks.ensures.value (subst (λ xs. IsRefusal dump xs e) c.blocks-probes.ensures.value is)

pub returns-in-Err-registers_of-clause-kind : goal.returns-in-Err-registers_of-clause-kind
returns-in-Err-registers_of-clause-kind g c =
    let phase = (refusal g c).phase in
    subst (λ x. (phase_of x ≤ 2) × IsFalse (is_of_list x)) (sym c.of_image.ensures) (omega (arith, phase), register_is_not_of_list c.block.inside.slot c.in-Err-registers_of.fault c.in-Err-registers_of.ensures.number)

pub returns-in-Err-registers_of-clause-fault : goal.returns-in-Err-registers_of-clause-fault
returns-in-Err-registers_of-clause-fault g c roots = subst (IsThere roots c.args.dump.now c.args.probe.now) (sym c.of_image.ensures) ((refusal g c).there roots)

-- none before a fault of `pair`
pub returns-in-Err-clause-first : goal.returns-in-Err-clause-first
returns-in-Err-clause-first g c roots other before not there = (c.in-Err.ensures.first roots).none_before other before there

pub returns-in-Err-registers_of-clause-first : goal.returns-in-Err-registers_of-clause-first
returns-in-Err-registers_of-clause-first g c roots other =
    let dump = c.args.dump.now in
    let probe = c.args.probe.now in
    subst (λ x. IsTrue (is_before (image_at (system_of dump probe)) other x) → IsFalse (is_of_list other) → IsThere roots dump probe other → ⊥) (sym c.of_image.ensures) ((refusal g c).first roots other)

pub loop-i-preserved : goal.loop-i-preserved
loop-i-preserved g c =
    let dump = c.blocks-blocks.result.now in
    let probe = c.blocks-probes.result.now in
    let same = ap slots_of c.blocks-blocks.ensures.value ∙ (c.in-Ok.ensures.ok []).same ∙ sym (ap slots_of c.blocks-probes.ensures.value) in
    let b : Block = record { slot = c.block.inside.slot; title = c.block.inside.title; image = c.block.inside.image.0 } in
    let p : Block = record { slot = c.read_backs.inside.slot; title = c.read_backs.inside.title; image = c.read_backs.inside.image.0 } in
    let b_is = subst (λ x. x ≡ get_or dump c.loop-i.i x) (sym c.block.view_is) c.index-blocks-i.is in
    let p_is = subst (λ x. x ≡ get_or probe c.loop-i.i x) (sym c.read_backs.view_is) c.index-probes-i.is in
    record {
      made = made_more dump probe same c.loop-i.i b p c.loop-i.functions.items c.push.new.self.items c.in-Ok-registers_of.registers c.loop-i-test.true b_is p_is
          c.loop-i.invariant.made c.in_ok-push-in-Ok-registers_of.ensures.items c.in-Ok-registers_of.ensures.made;
      decodable = holds_of_more dump probe same c.loop-i.i b p c.loop-i-test.true b_is p_is IsDecodable c.loop-i.invariant.decodable c.in-Ok-registers_of.ensures.decodable;
    }

pub returns-clause-machine : goal.returns-clause-machine
returns-clause-machine g c =
    let dump = c.blocks-blocks.result.now in
    let probe = c.blocks-probes.result.now in
    let same = ap slots_of c.blocks-blocks.ensures.value ∙ (c.in-Ok.ensures.ok []).same ∙ sym (ap slots_of c.blocks-probes.ensures.value) in
    let long = length-system_of dump probe (same_length dump probe same) in
    c.loop-i.invariant.made ∙ ap (map target_of) (take_all c.loop-i.i (system_of dump probe) (omega (arith, long, c.loop-i-test.false)))
    ∙ ap (λ xs. map target_of (system_of xs probe)) c.blocks-blocks.ensures.value ∙ ap (λ xs. map target_of (system_of c.args.dump.now xs)) c.blocks-probes.ensures.value

pub invariant_of-result : goal.invariant_of-result
invariant_of-result g c =
    subst IsMachine (sym (returns-clause-machine g c))
    (machine-of c.args.dump.now c.args.probe.now (c.in-Ok.ensures.ok []).same c.blocks-blocks.ensures.dump c.blocks-probes.ensures.dump)

pub returns-clause-decodable : goal.returns-clause-decodable
returns-clause-decodable g c =
    let dump = c.blocks-blocks.result.now in
    let probe = c.blocks-probes.result.now in
    let same = ap slots_of c.blocks-blocks.ensures.value ∙ (c.in-Ok.ensures.ok []).same ∙ sym (ap slots_of c.blocks-probes.ensures.value) in
    let long = length-system_of dump probe (same_length dump probe same) in
    subst (λ xs. All IsDecodable (system_of xs c.args.probe.now)) c.blocks-blocks.ensures.value
    (subst (λ xs. All IsDecodable (system_of dump xs)) c.blocks-probes.ensures.value
    (subst (All IsDecodable) (take_all c.loop-i.i (system_of dump probe) (omega (arith, long, c.loop-i-test.false))) c.loop-i.invariant.decodable))

pub returns-clause-read_backs : goal.returns-clause-read_backs
returns-clause-read_backs g c k d below =
    let dump = c.args.dump.now in
    let probe = c.args.probe.now in
    let same = (c.in-Ok.ensures.ok []).same in
    let f = get_or (system_of dump probe) k d in
    ap (λ ts. sized (function_at ts f.slot)) (returns-clause-machine g c)
    ∙ ap sized (function-of dump probe same c.blocks-blocks.ensures.dump c.blocks-probes.ensures.dump k d below)
    ∙ read_backs-of dump probe same c.blocks-blocks.ensures.dump c.blocks-probes.ensures.dump [] (c.in-Ok.ensures.ok []) (returns-clause-decodable g c) k d below

pub returns-clause-sizable : goal.returns-clause-sizable
returns-clause-sizable g c k d below =
    let dump = c.args.dump.now in
    let probe = c.args.probe.now in
    let f = get_or (system_of dump probe) k d in
    subst (λ ts. IsSizable ts f.slot) (sym (returns-clause-machine g c))
    (sizable-of dump probe (c.in-Ok.ensures.ok []).same c.blocks-blocks.ensures.dump c.blocks-probes.ensures.dump (returns-clause-decodable g c) k d below)
