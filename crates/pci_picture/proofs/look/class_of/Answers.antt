use Rattle.std.proofs.Common.{◌≡◌, ◌||◌, Bool, true, false, refl, ap, ap₂, ◌∙◌}
use Rattle.pci_picture.specs.Lines.{words_in_line}
use Rattle.pci_picture.specs.Marks.{has_naming, look_of_part, look_with}
use Rattle.pci_picture.proofs.look.class_of.Goals.{then-is_lost, else-is_lost}
use Rattle.pci_picture.proofs.look.class_of.Goals as goal

first_holds : (one other : Bool) → one ≡ true → one ≡ (one || other)
first_holds true other holds = refl
first_holds false other holds = absurd (cc)

second_is : (one other : Bool) → one ≡ false → other ≡ (one || other)
second_is false other fails = refl
second_is true other fails = absurd (cc)

pub returns : goal.returns
returns g c =
    let words = words_in_line c.args.region.now.line.now in
    let faults = c.args.faults.now.faults.items in
    let namings = c.args.faults.now.namings.items in
    let key_is = c.args.region.now.is_of_line.key_is in
    let lost : c.if-is_lost.marked ≡ (c.args.is_lost || c.has-is_unreached.result) = elim c.if-is_lost.branch [
      | then-is_lost w ↦ w.marked-is ∙ first_holds c.args.is_lost c.has-is_unreached.result w.if-is_lost.true
      | else-is_lost w ↦ w.marked-is ∙ second_is c.args.is_lost c.has-is_unreached.result w.if-is_lost.false
    ] in
    c.marked.ensures
    ∙ ap₂ (λ b l. look_with c.has-clashes.result b l) lost c.args.region.now.looks
    ∙ ap₂ (λ a b. look_with a (c.args.is_lost || b) (look_of_part words))
    (c.has-clashes.ensures ∙ ap (has_naming faults namings 61 62) key_is) (c.has-is_unreached.ensures ∙ ap (has_naming faults namings 60 63) key_is)
