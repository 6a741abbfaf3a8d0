use Rattle.std.specs.Prelude.{⊤}
use Rattle.std.proofs.Common.{◌≡◌, ◌≢◌, ◌%◌, Some, sym, ◌∙◌, ap, subst}
use Rattle.std.proofs.lemmas.Option.{MatchOption-at_some, MatchOption-at_none}
use Rattle.pci_spec.specs.Header.{command, layout}
use Rattle.pci_spec.specs.Machine.{sized}
use Rattle.pci_base.specs.declared.image.Image.{Image}
use Rattle.pci_machine.specs.declared.access_at.AccessFault.{AccessFault}
use Rattle.pci_spec.specs.Port.{has_function}
use Rattle.pci_spec.specs.Sizing.{function_at, IsStuck}
use Rattle.pci_machine.specs.SizeOutcome.{SizingLeaves, StopLeaves, IsCause}
use Rattle.pci_machine.proofs.Ends.{quiet-layout, quiet-sized, quiet-stuck, quiet-free, put-back, stopped-open, stopped-quiet}
use Rattle.pci_machine.proofs.size.size.Goals as goal

pub read_when_quiet-requires-clause-header : goal.read_when_quiet-requires-clause-header
read_when_quiet-requires-clause-header g c =
    let slot = c.args.slot in
    let same = c.in_ok-layout.ensures.same in
    quiet-layout (g.P.ConfigPort.targets c.layout_at.new.port) (g.P.ConfigPort.targets c.begin.new.port) slot c.in_ok-layout.ensures.lawful
    (ap (λ xs. has_function xs slot) same ∙ c.in_ok-layout.ensures.there) c.in-Ok.ensures.quieted c.in-Ok.ensures.function
    ∙ ap (λ xs. layout (function_at xs slot).image) same ∙ c.in_ok-layout.ensures.layout

pub returns-in-Err-read_when_quiet-clause-fault : goal.returns-in-Err-read_when_quiet-clause-fault
returns-in-Err-read_when_quiet-clause-fault g c =
    let slot = c.args.slot in
    let same = c.in_ok-layout.ensures.same in
    let after = g.P.ConfigPort.targets c.read_when_quiet.new.port in
    let there = ap (λ xs. has_function xs slot) same ∙ c.in_ok-layout.ensures.there in
    let left =
    stopped-open (g.P.ConfigPort.targets c.layout_at.new.port) (g.P.ConfigPort.targets c.begin.new.port) slot c.in_ok-layout.ensures.lawful there
    c.in-Ok.ensures.quieted c.in-Ok.ensures.function after c.in-Err-read_when_quiet.stop.offset c.give_up.result (c.give_up.ensures ∙ c.in-Ok.ensures.command)
    c.in-Err-read_when_quiet.ensures.stop.1 c.in-Err-read_when_quiet.ensures.left in
    subst (SizingLeaves (g.P.ConfigPort.targets c.args.port.now) slot after) (sym c.stopped-in-Err-read_when_quiet.ensures) (
      subst (λ e. IsCause e (has_function (g.P.ConfigPort.targets c.args.port.now) slot)) (sym c.in-Err-read_when_quiet.ensures.stop.0) c.in_ok-layout.ensures.there,
      subst (λ xs. StopLeaves xs slot after c.in-Err-read_when_quiet.stop.offset (Some c.give_up.result)) same left,
    )

pub returns-in-Some-clause-read_backs : goal.returns-in-Some-clause-read_backs
returns-in-Some-clause-read_backs g c =
    let slot = c.args.slot in
    let same = c.in_ok-layout.ensures.same in
    let quiet = g.P.ConfigPort.targets c.begin.new.port in
    let found = MatchOption-at_some ⊤ (λ (image : Image). image.0 ≡ sized (function_at quiet slot)) c.in-Some.image c.in-Some.is c.in-Ok-read_when_quiet.ensures.read_backs in
    found
    ∙ quiet-sized (g.P.ConfigPort.targets c.layout_at.new.port) quiet slot c.in_ok-layout.ensures.lawful
    (ap (λ xs. has_function xs slot) same ∙ c.in_ok-layout.ensures.there) c.in-Ok.ensures.quieted c.in-Ok.ensures.function
    ∙ ap (λ xs. sized (function_at xs slot)) same

pub returns-in-Some-clause-unchanged : goal.returns-in-Some-clause-unchanged
returns-in-Some-clause-unchanged g c =
    let slot = c.args.slot in
    let same = c.in_ok-layout.ensures.same in
    put-back (g.P.ConfigPort.targets c.layout_at.new.port) (g.P.ConfigPort.targets c.begin.new.port) slot c.in_ok-layout.ensures.lawful
    (ap (λ xs. has_function xs slot) same ∙ c.in_ok-layout.ensures.there) c.in-Ok.ensures.quieted c.in-Ok.ensures.function
    (g.P.ConfigPort.targets c.read_when_quiet.new.port) (g.P.ConfigPort.targets c.end.new.port) c.in-Ok.quiet c.in-Ok-read_when_quiet.ensures.kept
    c.in-Ok.ensures.command c.in-Ok-end.ensures.written
    ∙ same

pub returns-in-Some-clause-not_stuck : goal.returns-in-Some-clause-not_stuck
returns-in-Some-clause-not_stuck g c stuck =
    let slot = c.args.slot in
    let same = c.in_ok-layout.ensures.same in
    let quiet = g.P.ConfigPort.targets c.begin.new.port in
    let shown = MatchOption-at_some (command (function_at quiet slot).image % 4 ≢ 0) (λ (image : Image). command (function_at quiet slot).image % 4 ≡ 0) c.in-Some.image c.in-Some.is c.in-Ok-read_when_quiet.ensures.quiet in
    quiet-free (g.P.ConfigPort.targets c.layout_at.new.port) quiet slot c.in_ok-layout.ensures.lawful
    (ap (λ xs. has_function xs slot) same ∙ c.in_ok-layout.ensures.there) c.in-Ok.ensures.quieted c.in-Ok.ensures.function shown
    (subst (λ xs. IsStuck (function_at xs slot)) (sym same) stuck)

pub returns-in-None-clause-fault : goal.returns-in-None-clause-fault
returns-in-None-clause-fault g c =
    let slot = c.args.slot in
    let same = c.in_ok-layout.ensures.same in
    let before = g.P.ConfigPort.targets c.layout_at.new.port in
    let quiet = g.P.ConfigPort.targets c.begin.new.port in
    let there = ap (λ xs. has_function xs slot) same ∙ c.in_ok-layout.ensures.there in
    let shown = MatchOption-at_none (command (function_at quiet slot).image % 4 ≢ 0) (λ (image : Image). command (function_at quiet slot).image % 4 ≡ 0) c.in-None.is c.in-Ok-read_when_quiet.ensures.quiet in (
      put-back before quiet slot c.in_ok-layout.ensures.lawful there c.in-Ok.ensures.quieted c.in-Ok.ensures.function
          (g.P.ConfigPort.targets c.read_when_quiet.new.port) (g.P.ConfigPort.targets c.end.new.port) c.in-Ok.quiet c.in-Ok-read_when_quiet.ensures.kept
          c.in-Ok.ensures.command c.in-Ok-end.ensures.written
          ∙ same,
      c.in_ok-layout.ensures.there,
      subst (λ xs. IsStuck (function_at xs slot)) same
          (quiet-stuck before quiet slot c.in_ok-layout.ensures.lawful there c.in-Ok.ensures.quieted c.in-Ok.ensures.function shown),
    )

pub returns-in-Err-end-clause-fault : goal.returns-in-Err-end-clause-fault
returns-in-Err-end-clause-fault g c =
    let slot = c.args.slot in
    let same = c.in_ok-layout.ensures.same in
    let after = g.P.ConfigPort.targets c.end.new.port in
    let there = ap (λ xs. has_function xs slot) same ∙ c.in_ok-layout.ensures.there in
    let stop = c.in-Err-end.ensures.stop in
    let left =
    stopped-quiet (g.P.ConfigPort.targets c.layout_at.new.port) (g.P.ConfigPort.targets c.begin.new.port) slot c.in_ok-layout.ensures.lawful there
    c.in-Ok.ensures.quieted c.in-Ok.ensures.function after c.in-Err-end.command (stop.1 ∙ c.in-Ok.ensures.command)
    (c.in-Err-end.ensures.kept ∙ c.in-Ok-read_when_quiet.ensures.kept) in
    subst (SizingLeaves (g.P.ConfigPort.targets c.args.port.now) slot after) (sym c.stopped-in-Err-end.ensures) (
      subst (λ (e : AccessFault). IsCause e.fault (has_function (g.P.ConfigPort.targets c.args.port.now) slot)) (sym stop.0) c.in_ok-layout.ensures.there,
      subst (λ n. StopLeaves (g.P.ConfigPort.targets c.args.port.now) slot after n (Some c.in-Err-end.command)) (ap (λ (e : AccessFault). e.offset) (sym stop.0)) (subst (λ xs. StopLeaves xs slot after 0x04 (Some c.in-Err-end.command)) same left),
    )

pub returns-in-None-clause-succeeds : goal.returns-in-None-clause-succeeds
returns-in-None-clause-succeeds g c sizable same = absurd (sizable.free (returns-in-None-clause-fault g c).2)
