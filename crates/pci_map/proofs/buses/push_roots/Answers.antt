use Rattle.std.proofs.Common.{rules, ◌≡◌, arith, subst}
use Rattle.std.specs.List.{range_with_len}
use Rattle.std.specs.String.{string_bytes}
use Rattle.pci_claims.specs.Values.{code_given_value, told_value}
use Rattle.pci_map.specs.Buses.{AreRootsTold}
use Rattle.pci_map.proofs.Roots.{told_nothing, told_more}
use Rattle.pci_map.proofs.buses.push_roots.Goals as goal

pub loop-bus-init : goal.loop-bus-init
loop-bus-init g c = λ s of. told_nothing (told_value c.args.mapped.now.told) (code_given_value c.args.mapped.now.given) c.args.mapped.now.outline.now.roots s (string_bytes c.args.text.now)

pub loop-bus-preserved : goal.loop-bus-preserved
loop-bus-preserved g c = λ s of.
    told_more (told_value c.args.mapped.now.told) (code_given_value c.args.mapped.now.given) c.args.mapped.now.outline.now.roots s c.loop-bus.bus _ (string_bytes c.args.text.now) (string_bytes c.loop-bus.text) (string_bytes c.push_bus.new.text)
    (search rules) (c.loop-bus.invariant s of) (c.in_ok-push_bus.ensures s of)

pub returns : goal.returns
returns g c = λ s of.
    let past = c.loop-bus-test.false in
    let within = c.loop-bus.auto.bus-end in
    let end : c.loop-bus.bus ≡ 256 = omega (arith, past, within) in
    subst (λ n. AreRootsTold (told_value c.args.mapped.now.told) (code_given_value c.args.mapped.now.given) c.args.mapped.now.outline.now.roots s (range_with_len 0 n) (string_bytes c.args.text.now) (string_bytes c.loop-bus.text)) end (c.loop-bus.invariant s of)
