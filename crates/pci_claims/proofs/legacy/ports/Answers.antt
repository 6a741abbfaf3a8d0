use Rattle.std.proofs.Common.{◌≡◌, ℕ, arith, subst, sym, refl}
use Rattle.pci_claims.specs.Legacy.{ArePorts}
use Rattle.pci_claims.proofs.Pieces.{no_ports, more_ports}
use Rattle.pci_claims.proofs.legacy.ports.Goals as goal

pub loop-block-init : goal.loop-block-init
loop-block-init g c = subst (λ xs. ArePorts 0 c.args.low c.args.high xs) (sym c.new-out.ensures.items) (no_ports c.args.low c.args.high)

pub loop-block-preserved : goal.loop-block-preserved
loop-block-preserved g c =
    more_ports c.args.low c.args.high c.requires.low c.requires.apart c.requires.high c.requires.end c.loop-block.block c.loop-block.out.items _ _ _ _ c.loop-block.invariant
    refl refl refl refl c.in_ok-push.ensures.items c.in_ok-push-2.ensures.items

pub returns : goal.returns
returns g c =
    let end = c.loop-block-test.false in
    subst (λ (n : ℕ). ArePorts n c.args.low c.args.high c.loop-block.out.items) (let e : c.loop-block.block ≡ c.args.blocks = omega (arith, end) in e) c.loop-block.invariant
