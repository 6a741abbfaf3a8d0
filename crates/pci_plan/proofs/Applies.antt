-- What comparing and making leave, by the words of a move.
use Rattle.std.proofs.Common.{◌≡◌, inl, inr, refl, ◌⊎◌, List, length}
use Rattle.std.specs.Result.{IsErrAnd}
use Rattle.std.specs.declared.result.Result.{Result}
use Rattle.std.specs.declared.result.Result.TheVariants.{Ok, Err}
use Rattle.pci_spec.specs.Text.{Block}
use Rattle.pci_spec.specs.Machine.{Write}
use Rattle.pci_plan.specs.declared.apply_fault.ApplyFault.{ApplyFault}
use Rattle.pci_plan.specs.Plans.{PlanValue}
use Rattle.pci_plan.specs.Moves.{IsMove}
use Rattle.pci_plan.specs.Comparing.{Moment, StartsAs, IsStartFault}
use Rattle.pci_plan.specs.Making.{AreMadeBy}
use Rattle.pci_plan.specs.Applying.{IsApplied, writes_before}
use Rattle.pci_plan.specs.Steps.{all_shown}
use Rattle.pci_plan.specs.Going.{AreRun}
use Rattle.pci_plan.proofs.Applied.{Ends, shows_start, compare_ends, make_ends, shows_final, none_on_machine, left_sound, sound_while_read_back}
use Rattle.pci_plan.proofs.Starts.{starts_as, start_fault_of}

-- comparing blocks ended it, or all compared and the writes were made by the answer
abbrev pub AreApplied : Moment → List Block → List Write → Moment → Result (Unit {0}) ApplyFault → Type 0
AreApplied before blocks writes after r =
    IsErrAnd r (λ fault. (after.targets ≡ before.targets) × IsStartFault before blocks after.failures fault) ⊎ (StartsAs before.targets blocks × AreMadeBy before writes after r)

-- steps are made so
pub by_steps : (before : Moment) (blocks : List Block) (writes : List Write) (after : Moment) (r : Result (Unit {0}) ApplyFault) → AreRun before (all_shown blocks) writes after r → AreApplied before blocks writes after r
by_steps before blocks writes after (Ok x) (inl none) = absurd none
by_steps before blocks writes after (Err fault) (inl stop) = inl (stop.same, start_fault_of blocks before after fault stop)
by_steps before blocks writes after r (inr (shown, made)) = inr (starts_as blocks before.targets shown, made)

module _ (p : PlanValue) (is : IsMove p) (before after : Moment) where
  fails : (fault : ApplyFault) → Ends p is before after fault → IsApplied {T = Unit {0}} p before after (Err fault)
  fails fault ends = record {
    made = ends.0;
    started = tt;
    ended = tt;
    read_back = ends.1;
    counted = tt;
    fault = ends.2;
    own_machine = λ start quiet. absurd (none_on_machine p is before after fault start quiet ends);
    sound = λ start from. left_sound p is (writes_before fault) before.targets after.targets start ends.0 from;
    sound_images = sound_while_read_back p is before.targets;
  }

  pub applied : (r : Result (Unit {0}) ApplyFault) → AreApplied before p.start.dump p.writes after r → IsApplied p before after r
  applied (Ok x) (inl none) = absurd none
  applied (Ok x) (inr (starts, (made, quiet))) =
      let shows = shows_start p is before.targets starts in
      record {
        made = made.made;
        started = shows;
        ended = shows_final p is before.targets after.targets shows made;
        read_back = made.read_back;
        counted = quiet;
        fault = tt;
        own_machine = λ start still. refl;
        sound = λ start from. left_sound p is (length p.writes) before.targets after.targets start made.made from;
        sound_images = sound_while_read_back p is before.targets;
      }
  applied (Err fault) (inl (same, reason)) = fails fault (compare_ends p is before after fault same reason)
  applied (Err fault) (inr (starts, stop)) = fails fault (make_ends p is before after fault (shows_start p is before.targets starts) stop)
