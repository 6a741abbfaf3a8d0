use Rattle.std.proofs.Common.{refl, sym, ◌∙◌, ap, subst}
use Rattle.std.specs.Option.{option_map}
use Rattle.pci_function.specs.Fault.{fault_of}
use Rattle.pci_tree.specs.Survey.{Surveyed, IsOutlineOf, IsRefusedBy}
use Rattle.pci_tree.proofs.Surveys.{survey_of}
use Rattle.pci_tree.proofs.Finishes.{outline_of_survey, refused_by_noted, refused_by_place}
use Rattle.pci_tree.proofs.survey.Survey.finish.Goals as goal

pub returns-in-Some : goal.returns-in-Some
returns-in-Some g c =
    refused_by_noted c.args.self (fault_of c.in-Some.fault) (ap (λ (v : Surveyed). v.fault) (sym c.self.view_is) ∙ ap (option_map fault_of) c.in-Some.is)

pub returns-in-Err : goal.returns-in-Err
returns-in-Err g c =
    let v : Surveyed = survey_of c.self.inside.records.items c.self.inside.roots c.self.inside.noted c.self.inside.last in
    subst (λ x. IsRefusedBy x (fault_of c.in-Err.fault)) c.self.view_is
    (refused_by_place v (fault_of c.in-Err.fault) (ap (option_map fault_of) c.in-None.is) c.in-Err.ensures)

pub returns-in-Ok : goal.returns-in-Ok
returns-in-Ok g c =
    let v : Surveyed = survey_of c.self.inside.records.items c.self.inside.roots c.self.inside.noted c.self.inside.last in
    subst (λ x. IsOutlineOf x c.in-Ok.outline) c.self.view_is
    (outline_of_survey v c.in-Ok.outline c.self.inside.records.items (ap (option_map fault_of) c.in-None.is) refl c.self.invariant.rising c.in-Ok.ensures.2 c.in-Ok.ensures.0 c.in-Ok.ensures.1)
