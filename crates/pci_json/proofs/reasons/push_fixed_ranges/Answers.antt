use Rattle.std.proofs.lemmas.Result.{on_ok_weaker}
use Rattle.pci_json.specs.Lines.{word}
use Rattle.pci_json.specs.Members.{range_objects}
use Rattle.pci_json.proofs.Tokens.{array_written}
use Rattle.pci_json.proofs.reasons.push_fixed_ranges.Goals as goal

pub returns : goal.returns
returns g c = on_ok_weaker c.end_array.result (λ e. cc (e, c.in_ok-begin_array.ensures, c.word.ensures, c.in_ok-push_ranges.ensures, array_written c.args.out.now (range_objects 44 (word 5 c.args.line.now)))) c.end_array.ensures
