use Rattle.std.proofs.Common.{rules, arith, ◌≡◌, ◌*◌, subst}
use Rattle.pci_claims.specs.Values.{code_given_value}
use Rattle.pci_map.specs.Asides.{IsNamedBelow, AreAsides}
use Rattle.pci_map.proofs.AsideTexts.{none_below, one_register_aside, all_registers_aside}
use Rattle.pci_map.proofs.asides.push_by_register.Goals as goal

pub loop-register-init : goal.loop-register-init
loop-register-init g c = λ told t s above ways io memory. none_below told (code_given_value c.args.routes.now.given) t.roots s c.args.function.now.slot c.args.asides.now.outside c.args.asides.now.unreached

pub loop-register-preserved : goal.loop-register-preserved
loop-register-preserved g c = λ told t s above ways io memory.
    one_register_aside told (code_given_value c.args.routes.now.given) t.roots s c.args.function.now.slot c.loop-register.register c.args.asides.now.outside c.loop-register.asides.outside c.push_aside_at.new.asides.outside
    c.args.asides.now.unreached c.loop-register.asides.unreached c.push_aside_at.new.asides.unreached
    (omega (arith, c.loop-register-test.true)) (c.loop-register.invariant told t s above ways io memory)
    (c.in_ok-push_aside_at.ensures told t s above ways io memory)

pub returns : goal.returns
returns g c = λ told t s above ways io memory.
    let end : c.loop-register.register ≡ 16 = search rules in
    let slot = c.args.function.now.slot in
    all_registers_aside told (code_given_value c.args.routes.now.given) t.roots s slot c.args.asides.now.outside c.loop-register.asides.outside c.args.asides.now.unreached c.loop-register.asides.unreached
    (subst (λ n. AreAsides told (code_given_value c.args.routes.now.given) t.roots s (IsNamedBelow slot (4 * n)) c.args.asides.now c.loop-register.asides) end (c.loop-register.invariant told t s above ways io memory))
