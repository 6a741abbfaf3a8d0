use Rattle.std.proofs.Common.{None, Some, refl}
use Rattle.std.proofs.lemmas.Result.{err_from_is_err_and}
use Rattle.pci_here.proofs.Crowded.{not_put}
use Rattle.pci_here.proofs.Read.{shown_then}
use Rattle.pci_here.proofs.Takes.{virtual_taken, function_taken}
use Rattle.pci_here.proofs.functions.Functions.take.Goals as goal

pub returns-in-None-clause-taken : goal.returns-in-None-clause-taken
returns-in-None-clause-taken g c =
    shown_then (g.M.Machine.shown c.args.machine.now) _ _
    (λ m virtual places was. virtual_taken m c.args.place places c.args.self.now _ virtual record { dump = refl; sizes = refl; roots = refl; left_out = refl } was)
    (rw c.in-None.is at c.in_ok-function.ensures)

pub returns-in_ok-push-in-Some-clause-taken : goal.returns-in_ok-push-in-Some-clause-taken
returns-in_ok-push-in-Some-clause-taken g c =
    shown_then (g.M.Machine.shown c.args.machine.now) _ _
    (λ m taken places was. function_taken m c.args.place places c.args.self.now c.push.new.self c.in-Some.function taken
    record {
      dump = c.in_ok-push-in-Some.ensures.dump;
      sizes = c.in_ok-push-in-Some.ensures.sizes;
      roots = c.in_ok-push-in-Some.ensures.root;
      left_out = c.in_ok-push-in-Some.ensures.left_out;
      flags = c.push.ensures.flags;
      small = c.push.ensures.bus;
      above = c.in_ok-push-in-Some.ensures.above;
    } was)
    (rw c.in-Some.is at c.in_ok-function.ensures)

pub returns-in-None-clause-read : goal.returns-in-None-clause-read
returns-in-None-clause-read g c =
    shown_then (g.M.Machine.shown c.args.machine.now) _ _ (λ m virtual. (None, virtual)) (rw c.in-None.is at c.in_ok-function.ensures)

pub returns-in_ok-push-in-Some-clause-read : goal.returns-in_ok-push-in-Some-clause-read
returns-in_ok-push-in-Some-clause-read g c =
    shown_then (g.M.Machine.shown c.args.machine.now) _ _ (λ m taken. (Some c.in-Some.function, taken)) (rw c.in-Some.is at c.in_ok-function.ensures)

pub returns-in_err-push-in-Some-clause-err : goal.returns-in_err-push-in-Some-clause-err
returns-in_err-push-in-Some-clause-err g c =
    let p = err_from_is_err_and c.from_residual-in_err-push-in-Some.result c.from_residual-in_err-push-in-Some.ensures.1 in
    rw (p.1, p.2)
    (shown_then (g.M.Machine.shown c.args.machine.now) _ _
    (λ m taken places was. not_put m places c.args.place c.args.self.now c.in-Some.function _ taken c.in_err-push-in-Some.ensures.err was)
    (rw c.in-Some.is at c.in_ok-function.ensures))
