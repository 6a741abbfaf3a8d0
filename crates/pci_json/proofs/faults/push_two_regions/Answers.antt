use Rattle.std.proofs.Common.{◌∷◌, [], ◌++◌, ◌+◌, codes}
use Rattle.std.proofs.lemmas.Result.{on_ok_weaker}
use Rattle.json.specs.Token.{Token}
use Rattle.pci_json.specs.Members.{object_of, array_of, slot_register_members}
use Rattle.pci_json.proofs.Tokens.{array_written, member_written}
use Rattle.pci_json.proofs.faults.push_two_regions.Goals as goal

pub returns : goal.returns
returns g c = on_ok_weaker c.end_array.result (λ e. cc (e, c.in_ok-key.ensures, c.in_ok-begin_array.ensures, c.in_ok-push_named_region.ensures, c.in_ok-push_named_region-2.ensures, array_written (c.args.out.now ++ Token.key (codes "regions") ∷ []) (object_of (slot_register_members c.args.n c.args.line.now) ∷ object_of (slot_register_members (c.args.n + 2) c.args.line.now) ∷ []), member_written c.args.out.now (codes "regions") (array_of (object_of (slot_register_members c.args.n c.args.line.now) ∷ object_of (slot_register_members (c.args.n + 2) c.args.line.now) ∷ [])))) c.end_array.ensures
