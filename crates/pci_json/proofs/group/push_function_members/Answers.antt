use Rattle.std.proofs.Common.{◌++◌}
use Rattle.std.proofs.lemmas.Result.{on_ok_weaker}
use Rattle.pci_json.specs.Lines.{lines_of_text}
use Rattle.pci_json.specs.Groups.{inner_of, list_member, optional_list, singles}
use Rattle.pci_json.specs.Listings.{header_members}
use Rattle.pci_json.specs.declared.group.Kind.TheVariants.{Bar, Window, Capability}
use Rattle.pci_json.proofs.Tokens.{two_members}
use Rattle.pci_json.proofs.group.push_function_members.Goals as goal

pub returns : goal.returns
returns g c = on_ok_weaker c.push_list-2.result (λ e. (two_members c.args.out.now c.push_header.new.out c.push_list-2.new.out (header_members c.args.line.now) ((list_member Bar (inner_of (lines_of_text c.args.text.now))) ++ ((singles (inner_of (lines_of_text c.args.text.now))) ++ ((optional_list Window (inner_of (lines_of_text c.args.text.now))) ++ (list_member Capability (inner_of (lines_of_text c.args.text.now)))))) c.in_ok-push_header.ensures (two_members c.push_header.new.out c.push_list.new.out c.push_list-2.new.out (list_member Bar (inner_of (lines_of_text c.args.text.now))) ((singles (inner_of (lines_of_text c.args.text.now))) ++ ((optional_list Window (inner_of (lines_of_text c.args.text.now))) ++ (list_member Capability (inner_of (lines_of_text c.args.text.now))))) c.in_ok-push_list.ensures (two_members c.push_list.new.out c.push_singles.new.out c.push_list-2.new.out (singles (inner_of (lines_of_text c.args.text.now))) ((optional_list Window (inner_of (lines_of_text c.args.text.now))) ++ (list_member Capability (inner_of (lines_of_text c.args.text.now)))) c.in_ok-push_singles.ensures (two_members c.push_singles.new.out c.push_optional_list.new.out c.push_list-2.new.out (optional_list Window (inner_of (lines_of_text c.args.text.now))) (list_member Capability (inner_of (lines_of_text c.args.text.now))) c.in_ok-push_optional_list.ensures e))))) c.push_list-2.ensures
