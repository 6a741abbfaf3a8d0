-- Why the texts at the paths of a line are refused.
use Rattle.std.proofs.Common.{◌≡◌, ◌⊎◌, ℕ, List, Option, Result, Ok, Err, IfErr, inl, inr, refl, sym, ap, subst, ◌∙◌, arith}
use Rattle.std.specs.String.{string_bytes}
use Rattle.pci_dump.specs.declared.read_fault.ReadFault.TheVariants as faults
use Rattle.pciplan_cli.specs.CarriedOut.{IsSecondUnopened, second_unread}
use Rattle.pciplan_cli.specs.declared.invocation.Invocation.{Invocation}
use Rattle.pciplan_tasks.specs.Statuses.{status_of}
use Rattle.pciplan_tasks.specs.Tasks.{IsFailureOf, IsTaskRefused}
use Rattle.pciplan_tasks.specs.declared.failure.Failure.{Failure}
use Rattle.pciplan_tasks.specs.declared.failure.Failure.TheVariants.{Dump}
use Rattle.pciplan_tasks.specs.declared.task.Task.{Task}
use Rattle.pciplan_tasks.specs.declared.task.Task.TheVariants as task

-- a second text that can't be opened is no fault of its text
unread_fails : (t : Task) → status_of (second_unread t) ≡ 4
unread_fails (task.Probe assuming) = refl
unread_fails _ = refl

two_and_four : (status : ℕ) → status ≡ 2 → status ≡ 4 → ⊥
two_and_four status two four = omega arith

-- where the texts can't be opened and the status is 2, the dump's text has a fault
pub unopened_refused : {X Y Z W R : Type 0} (line : Invocation) (dump_at second_at : List ℕ → Option (List ℕ))
    (failure : Failure) (before after : ℕ)
    → (IsTaskRefused line.task (dump_at (string_bytes line.dump)) (second_at (string_bytes line.probe)) → R)
    → ((failure ≡ Dump faults.Io) × X × Y) ⊎ (Z × W × IsSecondUnopened line.task (dump_at (string_bytes line.dump)) before after failure)
    → status_of failure ≡ 2 → R
unopened_refused line dump_at second_at failure before after so (inl (is, x, y)) two = absurd (two_and_four (status_of failure) two (ap status_of is))
unopened_refused line dump_at second_at failure before after so (inr (stands, failed, inl (has, is))) two =
    absurd (two_and_four (status_of failure) two (ap status_of is ∙ unread_fails line.task))
unopened_refused line dump_at second_at failure before after so (inr (stands, failed, inr (fault, unread, is))) two =
    so (failure, two, subst (λ f. IsFailureOf line.task (dump_at (string_bytes line.dump)) (second_at (string_bytes line.probe)) f) (sym is) unread.fault_of)

-- the texts that were opened are those at the paths
pub opened_refused : {V R : Type 0} (line : Invocation) (t : Task) (dump_at second_at : List ℕ → Option (List ℕ))
    (dump_left second_left : Option (List ℕ)) (result : Result V Failure)
    → (IsTaskRefused line.task (dump_at (string_bytes line.dump)) (second_at (string_bytes line.probe)) → R)
    → line.task ≡ t → dump_left ≡ dump_at (string_bytes line.dump) → second_left ≡ second_at (string_bytes line.probe)
    → IfErr result (IsFailureOf t dump_left second_left)
    → IfErr result (λ failure. status_of failure ≡ 2 → R)
opened_refused line t dump_at second_at dl sl (Ok value) so same first second fact = tt
opened_refused line t dump_at second_at dl sl (Err failure) so same first second fact =
    λ two. so (
      failure,
      two,
      subst (λ (u : Task). IsFailureOf u (dump_at (string_bytes line.dump)) (second_at (string_bytes line.probe)) failure) (sym same)
          (subst (λ b. IsFailureOf t b (second_at (string_bytes line.probe)) failure) first
          (subst (λ b. IsFailureOf t dl b failure) second fact)),
    )
