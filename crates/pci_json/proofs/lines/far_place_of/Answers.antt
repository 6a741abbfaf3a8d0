use Rattle.pci_json.proofs.Firsts.{place_found, no_place, cut_behind}
use Rattle.std.proofs.Common.{refl, subst}
use Rattle.std.specs.Str.{IsUtf8}
use Rattle.pci_json.proofs.lines.far_place_of.Goals as goal

pub returns-in-Some-clause-value : goal.returns-in-Some-clause-value
returns-in-Some-clause-value c =
    place_found c.args.byte c.args.text.now c.as_bytes.result.now c.in-Some.place c.as_bytes.ensures.value c.in-Some.ensures.0 c.in-Some.ensures.1

pub returns-in-None-clause-value : goal.returns-in-None-clause-value
returns-in-None-clause-value c = no_place c.args.byte c.args.text.now c.as_bytes.result.now c.as_bytes.ensures.value c.in-None.ensures

pub returns-in-Some-clause-behind : goal.returns-in-Some-clause-behind
returns-in-Some-clause-behind c =
    let text = c.args.text.now in
    let is = place_found c.args.byte text c.as_bytes.result.now c.in-Some.place c.as_bytes.ensures.value c.in-Some.ensures.0 c.in-Some.ensures.1 in
    cut_behind c.args.byte text text c.in-Some.place refl (subst IsUtf8 c.as_bytes.ensures.value c.as_bytes.ensures.utf8) c.requires.ascii is
