use Rattle.std.proofs.lemmas.Result.{on_ok_weaker}
use Rattle.pci_json.proofs.Tokens.{object_written}
use Rattle.pci_json.specs.Reasons.{way_members}
use Rattle.pci_json.proofs.reasons.push_windows.Goals as goal

pub returns : goal.returns
returns g c = on_ok_weaker c.end_object.result (λ e. cc (e, c.in_ok-begin_object.ensures, c.in_ok-push_window_members.ensures, object_written c.args.out.now (way_members c.args.line.now))) c.end_object.ensures
