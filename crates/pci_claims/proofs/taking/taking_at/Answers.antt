use Rattle.std.proofs.Common.{refl, subst}
use Rattle.pci_spec.specs.System.{Io, Memory}
use Rattle.pci_claims.specs.Values.{code_given_value, told_value}
use Rattle.pci_claims.specs.Taking.{AreUnclaimedRuns}
use Rattle.pci_claims.proofs.taking.taking_at.Goals as goal

pub returns : goal.returns
returns g c s tree =
    let told = told_value c.args.board.now.told in
    let given = code_given_value c.args.board.now.given in
    record {
      at = refl;
      io = subst (λ n. AreUnclaimedRuns told given s n Io c.in_ok-io.io.items) c.bus.ensures (c.in_ok-io.ensures s tree);
      memory = subst (λ n. AreUnclaimedRuns told given s n Memory c.in_ok-memory.memory.items) c.bus-2.ensures (c.in_ok-memory.ensures s tree);
    }
