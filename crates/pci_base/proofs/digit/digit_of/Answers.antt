use Rattle.std.proofs.Common.{◌<◌, ℕ, sym, ap, subst, ◌∙◌}
use Rattle.pci_spec.specs.Text.{hex_digit}
use Rattle.pci_base.proofs.Digits.{digit_of_number}
use Rattle.pci_base.proofs.digit.digit_of.Goals as goal

pub returns : goal.returns
returns c =
    let small : c.from.result < 16 = subst (λ (n : ℕ). n < 16) (sym c.from.ensures) c.requires in
    digit_of_number c.from.result small ∙ ap hex_digit c.from.ensures
