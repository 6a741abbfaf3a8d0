use Rattle.std.proofs.Common.{◌≡◌, ◌∙◌, List, ℕ, Bor, ap, sym, option_map, Option, Some}
use Rattle.std.specs.List.{find}
use Rattle.pci_picture.specs.Lines.{is_slot, slot_number_of, words_in_line}
use Rattle.pci_picture.proofs.Badges.{find_holds, number_there}
use Rattle.pci_picture.proofs.badge.first_slot.Goals as goal

abbrev bytes_of : Option (Bor (List ℕ)) → Option (List ℕ)
bytes_of word = option_map (λ (w : Bor (List ℕ)). w.now) word

pub returns-in_err-slot_in : goal.returns-in_err-slot_in
returns-in_err-slot_in c = c.from_residual.ensures ∙ ap (option_map slot_number_of) (sym (ap bytes_of c.in_err-slot_in.was) ∙ c.slot_in.ensures)

pub returns : goal.returns
returns c =
    let at : find is_slot (words_in_line c.args.line.now) ≡ Some c.in_ok-slot_in.field-0.now = sym c.slot_in.ensures ∙ ap bytes_of c.in_ok-slot_in.was in
    number_there c.slot_number.result _ c.slot_number.ensures.value
    (c.slot_number.ensures.some ∙ find_holds is_slot (words_in_line c.args.line.now) c.in_ok-slot_in.field-0.now at)
    ∙ sym (ap (option_map slot_number_of) at)
