use Rattle.std.proofs.lemmas.Result.{on_ok_weaker}
use Rattle.pci_json.proofs.Tokens.{array_written}
use Rattle.pci_json.specs.Reasons.{host_ranges}
use Rattle.pci_json.proofs.reasons.push_host.Goals as goal

pub returns : goal.returns
returns g c = on_ok_weaker c.end_array.result (λ e. cc (e, c.in_ok-begin_array.ensures, c.in_ok-push_host_ranges.ensures, array_written c.args.out.now (host_ranges c.args.line.now))) c.end_array.ensures
