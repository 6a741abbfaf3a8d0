use Rattle.std.proofs.lemmas.Result.{on_ok_weaker}
use Rattle.pci_json.proofs.faults.push_split.Goals as goal

pub returns : goal.returns
returns g c = on_ok_weaker c.push_two_regions.result (λ e. cc (e, c.in_ok-push_space_and_address.ensures)) c.push_two_regions.ensures
