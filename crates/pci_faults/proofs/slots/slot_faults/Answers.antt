use Rattle.std.proofs.Common.{◌≡◌, ◌<◌, ◌+◌, [], ◌∷◌, ◌++◌, length, map, drop, arith, sym, ◌∙◌, ap, subst}
use Rattle.std.proofs.lemmas.List.{map_push}
use Rattle.pci_spec.specs.Text.{Block, slots_of}
use Rattle.pci_spec.specs.Fault.{SlotsDiffer}
use Rattle.pci_function.specs.Fault.{fault_of}
use Rattle.pci_faults.specs.Slots.{IsFirstSlotNumber}
use Rattle.pci_faults.proofs.Merging.{IsMergingFrom, merging_begins, merging_ours, merging_theirs, merging_same, merging_ends}
use Rattle.pci_faults.proofs.slots.slot_faults.Goals.{then-i-dump, else-i-dump+then-j-probe}
use Rattle.pci_faults.proofs.slots.slot_faults.Goals as goal

pub loop-i-init : goal.loop-i-init
loop-i-init g c = record {
  within_dump = omega arith;
  within_probe = omega arith;
  merging = subst (λ es. IsMergingFrom c.args.dump.now c.args.probe.now 0 0 (map fault_of es)) (sym c.new-found.ensures.items)
      (merging_begins c.args.dump.now c.args.probe.now c.requires.dump c.requires.probe);
}

pub loop-i-preserved-then-ours-theirs : goal.loop-i-preserved-then-ours-theirs
loop-i-preserved-then-ours-theirs g c =
    let dump = c.args.dump.now in
    let probe = c.args.probe.now in
    let b : Block = c.index-dump-i.result in
    let es = map fault_of c.loop-i.found.items in
    let most = c.number_at-theirs.ensures.most in
    let within : c.loop-i.i < length dump = c.number_at-ours.ensures.inside.0 (omega (arith, most, c.if-ours-theirs.true)) in
    let more = merging_ours dump probe c.requires.dump c.requires.probe c.loop-i.i c.loop-i.j c.number_at-ours.result c.number_at-theirs.result b es within c.index-dump-i.is
    c.number_at-ours.ensures.front c.number_at-theirs.ensures.front c.if-ours-theirs.true c.loop-i.invariant.merging in
    let pushed : map fault_of c.push.new.self.items ≡ es ++ SlotsDiffer b.slot ∷ [] =
    ap (λ xs. map fault_of xs) c.in_ok-push.ensures.items ∙ map_push fault_of c.loop-i.found.items _ ∙ ap (λ (x : Block). es ++ SlotsDiffer x.slot ∷ []) c.block.view_is in
    record {
      within_dump = omega (arith, within);
      within_probe = c.loop-i.invariant.within_probe;
      merging = subst (λ xs. IsMergingFrom dump probe (c.loop-i.i + 1) c.loop-i.j xs) (sym pushed) more;
    }

pub loop-i-preserved-then-theirs-ours : goal.loop-i-preserved-then-theirs-ours
loop-i-preserved-then-theirs-ours g c =
    let dump = c.args.dump.now in
    let probe = c.args.probe.now in
    let p : Block = c.index-probe-j.result in
    let es = map fault_of c.loop-i.found.items in
    let most = c.number_at-ours.ensures.most in
    let within : c.loop-i.j < length probe = c.number_at-theirs.ensures.inside.0 (omega (arith, most, c.if-theirs-ours.true)) in
    let more = merging_theirs dump probe c.requires.dump c.requires.probe c.loop-i.i c.loop-i.j c.number_at-ours.result c.number_at-theirs.result p es within c.index-probe-j.is
    c.number_at-ours.ensures.front c.number_at-theirs.ensures.front c.if-theirs-ours.true c.loop-i.invariant.merging in
    let pushed : map fault_of c.push-then-theirs-ours.new.self.items ≡ es ++ SlotsDiffer p.slot ∷ [] =
    ap (λ xs. map fault_of xs) c.in_ok-push-2.ensures.items ∙ map_push fault_of c.loop-i.found.items _ ∙ ap (λ (x : Block). es ++ SlotsDiffer x.slot ∷ []) c.block-then-theirs-ours.view_is in
    record {
      within_dump = c.loop-i.invariant.within_dump;
      within_probe = omega (arith, within);
      merging = subst (λ xs. IsMergingFrom dump probe c.loop-i.i (c.loop-i.j + 1) xs) (sym pushed) more;
    }

pub loop-i-preserved : goal.loop-i-preserved
loop-i-preserved g c =
    let dump = c.args.dump.now in
    let probe = c.args.probe.now in
    let ours = c.number_at-ours.ensures in
    let theirs = c.number_at-theirs.ensures in
    let same : c.number_at-theirs.result ≡ c.number_at-ours.result = omega (arith, c.if-ours-theirs.false, c.if-theirs-ours.false) in
    let number : c.number_at-ours.result < 0x10000 = elim c.if-i-dump.branch [
      | then-i-dump w ↦ ours.inside.1 w.if-i-dump.true
      | else-i-dump+then-j-probe w ↦ (let low = theirs.inside.1 w.if-j-probe.true in omega (arith, low, same))
    ] in
    let in_dump = ours.inside.0 number in
    let in_probe = theirs.inside.0 (omega (arith, number, same)) in
    record {
      within_dump = omega (arith, in_dump);
      within_probe = omega (arith, in_probe);
      merging = merging_same dump probe c.requires.dump c.requires.probe c.loop-i.i c.loop-i.j c.number_at-theirs.result (map fault_of c.loop-i.found.items) in_dump in_probe
          (subst (λ n. IsFirstSlotNumber (drop c.loop-i.i (slots_of dump)) n) (sym same) ours.front) theirs.front c.loop-i.invariant.merging;
    }

pub returns : goal.returns
returns g c =
    merging_ends c.args.dump.now c.args.probe.now c.requires.dump c.requires.probe c.loop-i.i c.loop-i.j (map fault_of c.loop-i.found.items) (omega arith) (omega arith) c.loop-i.invariant.merging
