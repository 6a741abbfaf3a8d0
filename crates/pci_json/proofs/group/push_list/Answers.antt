use Rattle.std.proofs.Common.{◌∷◌, [], ◌++◌}
use Rattle.std.proofs.lemmas.Result.{on_ok_weaker}
use Rattle.json.specs.Token.{Token}
use Rattle.pci_json.specs.Lines.{lines_of_text}
use Rattle.pci_json.specs.Members.{array_of}
use Rattle.pci_json.proofs.Tokens.{array_written, member_written}
use Rattle.pci_json.specs.Groups.{inner_of, items_of_kind, list_name}
use Rattle.pci_json.proofs.group.push_list.Goals as goal

pub returns : goal.returns
returns g c = on_ok_weaker c.end_array.result (λ e. cc (e, c.list_name.ensures, c.in_ok-key.ensures, c.in_ok-begin_array.ensures, c.in_ok-push_listed.ensures, array_written (c.args.out.now ++ Token.key (list_name c.args.kind) ∷ []) (items_of_kind c.args.kind (inner_of (lines_of_text c.args.text.now))), member_written c.args.out.now (list_name c.args.kind) (array_of (items_of_kind c.args.kind (inner_of (lines_of_text c.args.text.now)))))) c.end_array.ensures
