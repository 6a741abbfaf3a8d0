use Rattle.std.proofs.Common.{inl, inr}
use Rattle.std.specs.String.{string_bytes}
use Rattle.std.proofs.lemmas.Result.{on_ok_weaker}
use Rattle.pci_base.specs.Space.{space_of}
use Rattle.pci_claims.specs.Values.{code_given_value, told_value}
use Rattle.pci_why.proofs.AllTold.{outside_evident, unreached_evident, clash_evident, split_evident, early_held, not_listed_held}
use Rattle.pci_why.proofs.why.push_evidence.Goals as goal

pub returns-in-OutsideHost : goal.returns-in-OutsideHost
returns-in-OutsideHost g c = rw c.in-OutsideHost.is (on_ok_weaker c.push_outside.result
    (λ shows. outside_evident (told_value c.args.judged.now.told.now) (code_given_value c.args.judged.now.given.now) c.args.judged.now.outline.now c.in-OutsideHost.o.region.slot c.in-OutsideHost.o.region.register (space_of c.in-OutsideHost.o.space)
    c.in-OutsideHost.o.address (string_bytes c.args.text.now) (string_bytes c.push_outside.new.text) (rw c.region_name.ensures at shows))
    c.push_outside.ensures)

pub returns-in-Unreached : goal.returns-in-Unreached
returns-in-Unreached g c = rw c.in-Unreached.is (on_ok_weaker c.push_unreached.result
    (λ shows. unreached_evident (told_value c.args.judged.now.told.now) (code_given_value c.args.judged.now.given.now) c.args.judged.now.outline.now c.in-Unreached.u.region.slot c.in-Unreached.u.region.register (space_of c.in-Unreached.u.space)
    c.in-Unreached.u.address c.in-Unreached.u.bridge (string_bytes c.args.text.now) (string_bytes c.push_unreached.new.text) (rw c.region_name-name.ensures at shows))
    c.push_unreached.ensures)

pub returns-in-Clash : goal.returns-in-Clash
returns-in-Clash g c = rw c.in-Clash.is (on_ok_weaker c.push_two.result
    (λ shows. clash_evident (told_value c.args.judged.now.told.now) (code_given_value c.args.judged.now.given.now) c.args.judged.now.outline.now c.in-Clash.c.bus (space_of c.in-Clash.c.space) c.in-Clash.c.address c.in-Clash.c.first.slot
    c.in-Clash.c.first.register c.in-Clash.c.second.slot c.in-Clash.c.second.register (string_bytes c.args.text.now) (string_bytes c.push_two.new.text) (rw c.two_names-two.ensures at shows))
    c.push_two.ensures)

pub returns-in-Split : goal.returns-in-Split
returns-in-Split g c = rw c.in-Split.is (on_ok_weaker c.push_two-in-Split.result
    (λ shows. split_evident (told_value c.args.judged.now.told.now) (code_given_value c.args.judged.now.given.now) c.args.judged.now.outline.now (space_of c.in-Split.s.space) c.in-Split.s.address c.in-Split.s.first.slot c.in-Split.s.first.register
    c.in-Split.s.second.slot c.in-Split.s.second.register (string_bytes c.args.text.now) (string_bytes c.push_two-in-Split.new.text) (rw c.two_names-two-in-Split.ensures at shows))
    c.push_two-in-Split.ensures)

pub returns-in-Early : goal.returns-in-Early
returns-in-Early g c =
    let told = told_value c.args.judged.now.told.now in
    let given = code_given_value c.args.judged.now.given.now in
    let old = string_bytes c.args.text.now in
    elim c.in-Early.is [
      | inl early ↦ early_held told given c.args.judged.now.outline.now c.args.fault.now early.0 old early.1 c.requires.resolved
      | inr other ↦ not_listed_held told given c.args.judged.now.outline.now c.args.fault.now other.0 old other.1
    ]
