use Rattle.std.proofs.Common.{◌++◌}
use Rattle.std.proofs.lemmas.Result.{on_ok_weaker}
use Rattle.pci_json.specs.Lines.{lines_of_text}
use Rattle.pci_json.specs.Groups.{inner_of, optional_list, singles}
use Rattle.pci_json.specs.declared.group.Kind.TheVariants.{Missed, Shared}
use Rattle.pci_json.proofs.Tokens.{two_members}
use Rattle.pci_json.proofs.group.push_why_members.Goals as goal

pub returns : goal.returns
returns g c = on_ok_weaker c.push_optional_list-2.result (λ e. (two_members c.args.out.now c.push_singles.new.out c.push_optional_list-2.new.out (singles (inner_of (lines_of_text c.args.text.now))) ((optional_list Missed (inner_of (lines_of_text c.args.text.now))) ++ (optional_list Shared (inner_of (lines_of_text c.args.text.now)))) c.in_ok-push_singles.ensures (two_members c.push_singles.new.out c.push_optional_list.new.out c.push_optional_list-2.new.out (optional_list Missed (inner_of (lines_of_text c.args.text.now))) (optional_list Shared (inner_of (lines_of_text c.args.text.now))) c.in_ok-push_optional_list.ensures e))) c.push_optional_list-2.ensures
