use Rattle.std.proofs.lemmas.Result.{on_ok_weaker}
use Rattle.pci_json.specs.Lines.{word}
use Rattle.pci_json.proofs.Tokens.{member_written}
use Rattle.pci_json.specs.Members.{opening}
use Rattle.pci_json.proofs.reasons.push_window_members.Goals as goal

pub returns : goal.returns
returns g c = on_ok_weaker c.push_prefetchable.result (λ e. cc (e, c.word.ensures, c.in_ok-key.ensures, c.word-2.ensures, c.in_ok-push_opening.ensures, member_written c.args.out.now (word 3 c.args.line.now) (opening (word 4 c.args.line.now)))) c.push_prefetchable.ensures
