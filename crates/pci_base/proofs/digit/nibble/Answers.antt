use Rattle.std.proofs.Common.{◌≡◌, ◌⊎◌, ◌<◌, ℕ, arith, sym, ◌∙◌, subst, get_or}
use Rattle.pci_spec.specs.Text.{hex_digit}
use Rattle.pci_base.specs.declared.digit.TheConstants.{DIGITS}
use Rattle.pci_base.proofs.Digits.{digit_or_none, number_there}
use Rattle.pci_base.proofs.digit.nibble.Goals as goal

pub returns-clause-known : goal.returns-clause-known
returns-clause-known c =
    let within : c.from.result < 256 = subst (λ (n : ℕ). n < 256) (sym c.from.ensures) (omega arith) in
    let value : ℕ = get_or DIGITS c.from.result 0 in
    subst (λ (n : ℕ). (value ≡ 256) ⊎ ((value < 16) × (n ≡ hex_digit value))) c.from.ensures (digit_or_none c.from.result within)

pub returns-clause-found : goal.returns-clause-found
returns-clause-found c = λ d small e. number_there c.from.result d small (c.from.ensures ∙ e)
