use Rattle.std.specs.List.{slice_get}
use Rattle.pci_number.specs.Logs.{is_new}
use Rattle.std.proofs.Common.{◌≡◌, ◌≤◌, arith, length, true, Some, None, Ok, Err, sym, subst, ap, ◌∙◌}
use Rattle.pci_number.proofs.Replayed.{IsReplayed, next_stepped, done_stepped, stuck_stepped}
use Rattle.pci_number.specs.Numberings.{IsSteppedTo}
use Rattle.pci_number.specs.declared.access.Step.{Step}
use Rattle.pci_number.proofs.replay.stepped.Goals as goal
use Rattle.pci_number.proofs.replay.stepped.Goals.{in-Some, in-None+in-Ok, in-None+in-Err-Stuck}

pub returns : goal.returns
returns g c =
    let world = g.W.World.world in
    let a = c.args in
    let port = c.number-outcome.new.port in
    let outcome = c.number-outcome.result in
    let said = c.number-outcome.ensures in
    let replayed : IsReplayed world a.root a.last a.spare port.at port.next outcome =
    record {
      within = subst (λ l. port.at ≤ length l) port.is_log port.within;
      kinds = port.kinds;
      new = subst (λ l. is_new (slice_get l port.at) port.next ≡ true) port.is_log port.new;
      answer = said.answer;
      kept = said.kept;
      single = said.single;
      end = said.end;
      stop = said.stop;
      few = said.few;
      bounded = let spent = said.bounded in omega (arith, spent);
    } in
    elim c.match-replay.branch [
      | in-Some w ↦
          subst (λ (s : Step). IsSteppedTo world a.root a.last a.spare record { used = port.at; step = s }) (sym w.step-is)
          (next_stepped world a.root a.last a.spare port.at w.in-Some.access outcome
          (subst (λ n. IsReplayed world a.root a.last a.spare port.at n outcome) w.in-Some.is replayed))
      | in-None+in-Ok w ↦
          subst (λ (s : Step). IsSteppedTo world a.root a.last a.spare record { used = port.at; step = s }) (sym w.step-is)
          (done_stepped world a.root a.last a.spare port.at w.in-Ok.numbering
          (subst (λ r. IsReplayed world a.root a.last a.spare port.at None r) w.in-Ok.is
          (subst (λ n. IsReplayed world a.root a.last a.spare port.at n outcome) w.in-None.is replayed)))
      | in-None+in-Err-Stuck w ↦
          subst (λ (s : Step). IsSteppedTo world a.root a.last a.spare record { used = port.at; step = s }) (sym w.step-is)
          (stuck_stepped world a.root a.last a.spare port.at w.in-Err-Stuck.told
          (subst (λ r. IsReplayed world a.root a.last a.spare port.at None r) (w.in-Err-Stuck.is ∙ ap Err w.in-Err-Stuck.field-0-is)
          (subst (λ n. IsReplayed world a.root a.last a.spare port.at n outcome) w.in-None.is replayed)))
    ]
