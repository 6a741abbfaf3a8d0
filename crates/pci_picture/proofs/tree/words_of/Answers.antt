use Rattle.std.proofs.Common.{◌++◌, [], if◌then◌else◌, ap, sym, ◌∙◌}
use Rattle.std.specs.Prelude.{codes}
use Rattle.std.proofs.lemmas.List.{append-nil}
use Rattle.pci_picture.specs.Roots.{listed_function}
use Rattle.pci_picture.specs.Rows.{words_of_bridge}
use Rattle.pci_picture.specs.Named.{name_of_function, words_of_buses}
use Rattle.pci_picture.proofs.Rows.{row_named, row_of_bridge}
use Rattle.pci_picture.proofs.tree.words_of.Goals as goal
use Rattle.pci_picture.proofs.tree.words_of.Goals.{then-is_some+in_ok-put-2+in_ok-put_buses+in_ok-put-3, else-is_some}

pub returns : goal.returns
returns g c own =
    let one = c.put.new.self.bytes.items in
    let two = c.if-is_some.words.bytes.items in
    let function = listed_function c.args.function.now in
    row_named c.args.function.now.slot.now one two c.put-2.new.self.bytes.items (words_of_bridge function.buses) (name_of_function function)
    (c.in_ok-put.ensures ∙ ap (λ l. l ++ codes " ") c.in_ok-words.ensures)
    (elim c.if-is_some.branch [
      | then-is_some+in_ok-put-2+in_ok-put_buses+in_ok-put-3 w ↦
          let to = w.put-then-is_some.new.self.bytes.items in
          let buses = w.put_buses.new.self.bytes.items in
          row_of_bridge one to buses w.put-then-is_some-2.new.self.bytes.items two (words_of_buses function.buses)
          w.in_ok-put-2.ensures w.in_ok-put_buses.ensures w.in_ok-put-3.ensures (ap (λ s. s.bytes.items) w.words-is)
          ∙ ap (λ b. one ++ (if b then codes "to " ++ words_of_buses function.buses ++ codes ", " else [])) w.if-is_some.ensures
      | else-is_some w ↦
          ap (λ s. s.bytes.items) w.words-is ∙ sym (append-nil one)
          ∙ ap (λ b. one ++ (if b then codes "to " ++ words_of_buses function.buses ++ codes ", " else [])) w.if-is_some.ensures
    ])
    (c.in_ok-put-4.ensures ∙ ap (λ l. two ++ l) (c.name.ensures own))
