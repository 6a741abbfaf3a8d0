use Rattle.std.proofs.Common.{arith, refl, inl, inr}
use Rattle.std.proofs.lemmas.Bool.{cases_lt, leb-true, le-leb}
use Rattle.pci_spec.specs.Order.{phase_of}
use Rattle.pci_function.specs.Fault.{fault_of}
use Rattle.pci_model.proofs.Alone.{clear_alone, there_alone}
use Rattle.pci_model.proofs.power.decodes.Goals as goal

pub returns-in-Ok : goal.returns-in-Ok
returns-in-Ok c =
    (λ any fault low is. clear_alone 4 _ fault c.in-Ok.ensures.clear (omega (arith, low)) (omega (arith, low)) is, λ none. refl)

pub returns-in-Err : goal.returns-in-Err
returns-in-Err c =
    let told = fault_of c.in-Err.fault in
    let phase = c.phase.ensures in (
      λ late_enough fault low is. let late = leb-true 3 c.phase.result late_enough in
          clear_alone (phase_of told) _ fault c.in-Err.ensures.clear (omega (arith, low, late, phase)) (omega (arith, low)) is,
      λ none. elim (cases_lt c.phase.result 3) [
        | inl early ↦ absurd (none told (omega (arith, early, phase)) (there_alone _ told c.in-Err.ensures.here))
        | inr late ↦ le-leb 3 c.phase.result late
      ],
    )
