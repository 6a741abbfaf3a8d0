use Rattle.std.proofs.lemmas.Result.{on_ok_weaker}
use Rattle.pci_json.proofs.map.push_taking.Goals as goal

pub returns : goal.returns
returns g c = on_ok_weaker c.text-2.result (λ e. cc (e, c.in_ok-text.ensures, c.word.ensures)) c.text-2.ensures
