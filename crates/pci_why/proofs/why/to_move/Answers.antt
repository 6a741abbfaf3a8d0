use Rattle.std.proofs.Common.{◌∙◌, ap, map}
use Rattle.std.specs.Option.{is_some, option_map}
use Rattle.pci_spec.specs.Fault.{named_region}
use Rattle.pci_base.specs.Space.{space_of}
use Rattle.pci_claims.specs.Values.{code_given_value, host_value}
use Rattle.pci_why.proofs.AllTold.{outside_advised, unreached_advised, clash_advised, split_advised, split_without}
use Rattle.pci_why.proofs.why.to_move.Goals as goal

pub returns-in-OutsideHost : goal.returns-in-OutsideHost
returns-in-OutsideHost c = rw (c.in-OutsideHost.is, c.region_name.ensures)
    (outside_advised (code_given_value c.args.given.now) c.in-OutsideHost.o.region.slot c.in-OutsideHost.o.region.register (space_of c.in-OutsideHost.o.space) c.in-OutsideHost.o.address)

pub returns-in-Unreached : goal.returns-in-Unreached
returns-in-Unreached c = rw (c.in-Unreached.is, c.region_name-in-Unreached.ensures)
    (unreached_advised (code_given_value c.args.given.now) c.in-Unreached.u.region.slot c.in-Unreached.u.region.register (space_of c.in-Unreached.u.space) c.in-Unreached.u.address c.in-Unreached.u.bridge)

pub returns-in-Clash : goal.returns-in-Clash
returns-in-Clash c = rw c.in-Clash.is
    (clash_advised (code_given_value c.args.given.now) c.in-Clash.c.bus (space_of c.in-Clash.c.space) c.in-Clash.c.address c.in-Clash.c.first.slot c.in-Clash.c.first.register c.in-Clash.c.second.slot c.in-Clash.c.second.register
    (named_region c.to_move.result.slot c.to_move.result.register) (space_of c.to_move.result.space) (rw c.two_names.ensures at c.to_move.ensures.named) (ap space_of (rw c.two_names.ensures at c.to_move.ensures.space)))

pub returns-in-Some : goal.returns-in-Some
returns-in-Some c = rw c.in-Split.is
    (split_advised (code_given_value c.args.given.now) (space_of c.in-Split.s.space) c.in-Split.s.address c.in-Split.s.first.slot c.in-Split.s.first.register c.in-Split.s.second.slot c.in-Split.s.second.register
    (named_region c.to_move-in-Some.result.slot c.to_move-in-Some.result.register) (space_of c.to_move-in-Some.result.space) (rw c.two_names-in-Some.ensures at c.to_move-in-Some.ensures.named) (ap space_of (rw c.two_names-in-Some.ensures at c.to_move-in-Some.ensures.space))
    (ap is_some c.ranges_said.ensures ∙ ap (λ o. is_some (option_map (λ rs. map host_value rs.now) o)) c.in-Some.is))

pub returns-in-None : goal.returns-in-None
returns-in-None c = rw c.in-Split.is
    (split_without (code_given_value c.args.given.now) (space_of c.in-Split.s.space) c.in-Split.s.address c.in-Split.s.first.slot c.in-Split.s.first.register c.in-Split.s.second.slot c.in-Split.s.second.register
    (ap is_some c.ranges_said.ensures ∙ ap (λ o. is_some (option_map (λ rs. map host_value rs.now) o)) c.in-None.is))
