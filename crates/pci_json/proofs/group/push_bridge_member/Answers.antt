use Rattle.std.proofs.Common.{◌∷◌, [], ◌++◌, codes}
use Rattle.std.proofs.lemmas.Result.{on_ok_weaker}
use Rattle.json.specs.Token.{Token}
use Rattle.pci_json.specs.Members.{object_of}
use Rattle.pci_json.proofs.Tokens.{object_written, member_written}
use Rattle.pci_json.specs.Reasons.{bridge_members}
use Rattle.pci_json.proofs.group.push_bridge_member.Goals as goal

pub returns : goal.returns
returns g c = on_ok_weaker c.end_object.result (λ e. cc (e, c.in_ok-key.ensures, c.in_ok-begin_object.ensures, c.in_ok-push_bridge.ensures, object_written (c.args.out.now ++ Token.key (codes "bridge") ∷ []) (bridge_members c.args.line.now), member_written c.args.out.now (codes "bridge") (object_of (bridge_members c.args.line.now)))) c.end_object.ensures
