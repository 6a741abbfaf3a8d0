use Rattle.std.proofs.Common.{◌≤◌, length, map, take, string_bytes, subst, arith}
use Rattle.std.proofs.lemmas.List.{take_all}
use Rattle.pci_here.specs.Places.{AreDomainsIn}
use Rattle.pci_here.proofs.Named.{names_step}
use Rattle.pci_here.proofs.domain.domains_in.Goals as goal

pub loop-name-preserved : goal.loop-name-preserved
loop-name-preserved c =
    subst (λ ns. AreDomainsIn ns c.add_domain.new.domains.items)
    (names_step c.args.names.now c.loop-name.name-index c.name-item.result c.as_str.result.now c.loop-name-test.true c.name-item.is c.as_str.ensures.value)
    (c.in_ok-add_domain.ensures (map string_bytes (take c.loop-name.name-index c.args.names.now)) c.loop-name.invariant)

pub returns : goal.returns
returns c =
    let all : length c.args.names.now ≤ c.loop-name.name-index = omega arith in
    subst (λ l. AreDomainsIn (map string_bytes l) c.loop-name.domains.items) (take_all c.loop-name.name-index c.args.names.now all) c.loop-name.invariant
