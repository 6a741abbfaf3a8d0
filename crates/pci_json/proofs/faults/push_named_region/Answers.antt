use Rattle.std.proofs.lemmas.Result.{on_ok_weaker}
use Rattle.pci_json.specs.Members.{slot_register_members}
use Rattle.pci_json.proofs.Tokens.{object_written}
use Rattle.pci_json.proofs.faults.push_named_region.Goals as goal

pub returns : goal.returns
returns g c = on_ok_weaker c.end_object.result (λ e. cc (e, c.in_ok-begin_object.ensures, c.in_ok-push_slot_and_register.ensures, object_written c.args.out.now (slot_register_members c.args.n c.args.line.now))) c.end_object.ensures
