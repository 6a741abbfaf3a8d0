use Rattle.std.specs.Prelude.{MatchBool}
use Rattle.std.proofs.Common.{subst}
use Rattle.pci_spec.specs.System.{Io, Memory}
use Rattle.pci_claims.specs.Values.{code_given_value}
use Rattle.pci_map.specs.Asides.{HasAside, HasNoAside}
use Rattle.pci_map.proofs.AsideTexts.{no_asides}
use Rattle.pci_map.proofs.asides.push_asides_of.Goals as goal

pub returns : goal.returns
returns g c = λ told t s above ways io memory.
    no_asides told (code_given_value c.args.routes.now.given) t.roots s above.tree.one c.args.function.now.slot c.args.function.now.io.now c.args.function.now.memory.now c.args.asides.now.outside c.args.asides.now.unreached io memory
    (subst (λ b. MatchBool b (HasAside told (code_given_value c.args.routes.now.given) t.roots s Io c.args.function.now.io.now) (HasNoAside told (code_given_value c.args.routes.now.given) t.roots s Io c.args.function.now.io.now)) c.if-has_aside.false (c.has_aside.ensures told (code_given_value c.args.routes.now.given) t s above ways io))
    (subst (λ b. MatchBool b (HasAside told (code_given_value c.args.routes.now.given) t.roots s Memory c.args.function.now.memory.now) (HasNoAside told (code_given_value c.args.routes.now.given) t.roots s Memory c.args.function.now.memory.now)) c.if-has_aside-2.false (c.has_aside-else-has_aside.ensures told (code_given_value c.args.routes.now.given) t s above ways memory))
