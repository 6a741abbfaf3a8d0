use Rattle.std.proofs.lemmas.Result.{on_ok_weaker}
use Rattle.pci_json.specs.Faults.{space_and_address}
use Rattle.pci_json.specs.Members.{slot_register_members}
use Rattle.pci_json.proofs.Tokens.{two_members}
use Rattle.pci_json.proofs.faults.push_outside.Goals as goal

pub returns : goal.returns
returns g c =
    let line = c.args.line.now in
    on_ok_weaker c.push_space_and_address.result
    (λ e. two_members c.args.out.now c.push_slot_and_register.new.out c.push_space_and_address.new.out (slot_register_members 2 line) (space_and_address 4 line) c.in_ok-push_slot_and_register.ensures e)
    c.push_space_and_address.ensures
