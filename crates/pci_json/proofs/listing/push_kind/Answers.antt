use Rattle.std.proofs.Common.{◌∷◌, [], ◌∙◌, Bool, codes, sym, ap, if◌then◌else◌, true}
use Rattle.std.proofs.lemmas.Result.{on_ok_weaker}
use Rattle.pci_json.specs.Members.{with_members, slot_register_members}
use Rattle.pci_json.proofs.Tokens.{two_members}
use Rattle.json.specs.Json.{boolean}
use Rattle.pci_json.proofs.listing.push_kind.Goals as goal

pub returns-in_ok-boolean : goal.returns-in_ok-boolean
returns-in_ok-boolean g c =
    let choice = ap (λ (b : Bool). if b then (codes "prefetchable", boolean true) ∷ slot_register_members 1 c.args.rest.now else slot_register_members 0 c.args.rest.now) (sym (sym c.is_word.ensures ∙ c.if-is_word.true)) in
    on_ok_weaker c.push_slot_and_register.result
    (λ e. two_members c.args.out.now c.boolean.new.self c.push_slot_and_register.new.out ((codes "prefetchable", boolean true) ∷ []) (slot_register_members 1 c.args.rest.now) c.in_ok-boolean.ensures e ∙ ap (with_members c.args.out.now) choice)
    c.push_slot_and_register.ensures
