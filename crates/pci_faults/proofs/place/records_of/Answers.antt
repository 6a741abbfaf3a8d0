use Rattle.std.proofs.Common.{◌<◌, length, map, arith, sym, ◌∙◌, ap, subst}
use Rattle.std.specs.List.{All}
use Rattle.std.proofs.lemmas.List.{take_all}
use Rattle.pci_spec.specs.Text.{Block}
use Rattle.pci_spec.specs.System.{System, function_of, system_of}
use Rattle.pci_spec.specs.Decoded.{IsDecodable, record_of}
use Rattle.pci_spec.proofs.Pairing.{same_length, length-system_of}
use Rattle.pci_function.specs.Values.{record_value}
use Rattle.pci_tree.proofs.Pairs.{at_place, placed, holds_of_more}
use Rattle.pci_faults.proofs.OfPlace.{records_more}
use Rattle.pci_faults.proofs.place.records_of.Goals as goal

pub bounds-probe-i : goal.bounds-probe-i
bounds-probe-i g c = let long = same_length c.args.dump.now c.args.probe.now c.requires.same in omega (arith, long)

pub add_record-requires : goal.add_record-requires
add_record-requires g c =
    c.requires.none (function_of c.index-dump-i.result c.index-probe-i.result)
    (placed c.args.dump.now c.args.probe.now c.requires.same c.loop-i.i c.index-dump-i.result c.index-probe-i.result (omega arith) c.index-dump-i.is c.index-probe-i.is)

pub loop-i-preserved : goal.loop-i-preserved
loop-i-preserved g c =
    let dump = c.args.dump.now in
    let probe = c.args.probe.now in
    let s = system_of dump probe in
    let b : Block = c.index-dump-i.result in
    let p : Block = c.index-probe-i.result in
    let i = c.loop-i.i in
    let within : i < length dump = omega arith in
    let long = length-system_of dump probe (same_length dump probe c.requires.same) in
    let at = at_place dump probe c.requires.same i b p within c.index-dump-i.is c.index-probe-i.is in
    let added = c.in_ok-add_record.ensures in
    record {
      same = ap (λ xs. map record_value xs) added.2
          ∙ records_more s i (function_of b p) c.loop-i.records.items added.0 (omega (arith, within, long)) at c.loop-i.invariant.same added.1.same;
      decodable = holds_of_more dump probe c.requires.same i b p within c.index-dump-i.is c.index-probe-i.is IsDecodable c.loop-i.invariant.decodable added.1.decodable;
    }

pub returns : goal.returns
returns g c =
    let dump = c.args.dump.now in
    let probe = c.args.probe.now in
    let s = system_of dump probe in
    let long = length-system_of dump probe (same_length dump probe c.requires.same) in
    let all = take_all c.loop-i.i s (omega (arith, long, c.loop-i-test.false)) in
    record {
      decodable = subst (λ (fs : System). All IsDecodable fs) all c.loop-i.invariant.decodable;
      same = sym (c.loop-i.invariant.same ∙ ap (map record_of) all);
    }
