use Rattle.std.proofs.Common.{ap, sym, ◌∙◌}
use Rattle.pci_dump.specs.ToldPlaces.{place_of, field_of}
use Rattle.pci_dump.specs.ToldSteps.{IsStep}
use Rattle.pci_dump.proofs.ToldDigits.{digit_some, digit_none, step_none, step_some}
use Rattle.pci_dump.proofs.told_line.Line.step.Goals as goal

pub returns-in-None : goal.returns-in-None
returns-in-None c =
    step_none c.args.self.now (field_of c.in-Digits.field) c.in-Digits.read c.args.byte (sym (ap place_of c.in-Digits.is) ∙ ap (λ b. b.place) c.self.view_is) (digit_none c.args.byte _ c.in-None.is c.digit_value.ensures.found)

pub returns-in-Some : goal.returns-in-Some
returns-in-Some c =
    step_some (λ s. IsStep c.args.self.now s c.digit.result c.digit.new.self) c.args.self.now (field_of c.in-Digits.field) c.in-Digits.read c.args.byte c.in-Some.digit (sym (ap place_of c.in-Digits.is) ∙ ap (λ b. b.place) c.self.view_is)
    (digit_some c.args.byte c.in-Some.digit c.in-Some.ensures.some.0 c.in-Some.ensures.some.1) c.digit.ensures
