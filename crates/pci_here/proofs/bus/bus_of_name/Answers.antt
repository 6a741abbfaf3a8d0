use Rattle.std.proofs.Common.{None, Some}
use Rattle.pci_here.proofs.Names.{bus_parts, bus_there, bus_same}
use Rattle.pci_here.proofs.bus.bus_of_name.Goals as goal

pub returns-in_err-domain-clause-only : goal.returns-in_err-domain-clause-only
returns-in_err-domain-clause-only c = λ bus is. absurd (bus_parts c.args.name.now bus is None c.in_err-domain.ensures.cases)

pub returns-in_err-domain_of_word-clause-only : goal.returns-in_err-domain_of_word-clause-only
returns-in_err-domain_of_word-clause-only c = λ bus is.
    let parts = bus_parts c.args.name.now bus is (Some (c.in_ok-domain.domain, c.in_ok-domain.number)) c.in_ok-domain.ensures.cases in
    let none = c.in_err-domain_of_word.ensures.only bus.domain parts.0 in
    absurd (cc none)

pub returns-in_err-bus_of_word-clause-only : goal.returns-in_err-bus_of_word-clause-only
returns-in_err-bus_of_word-clause-only c = λ bus is.
    let parts = bus_parts c.args.name.now bus is (Some (c.in_ok-domain.domain, c.in_ok-domain.number)) c.in_ok-domain.ensures.cases in
    let none = c.in_err-bus_of_word.ensures.only bus.number is.below parts.1 in
    absurd (cc none)

pub returns-clause-name : goal.returns-clause-name
returns-clause-name c =
    bus_there c.args.name.now (c.in_ok-domain.domain, c.in_ok-domain.number) _ _ c.in_ok-domain.ensures.cases c.in_ok-domain_of_word.ensures.word
    c.in_ok-bus_of_word.ensures.word

pub returns-clause-only : goal.returns-clause-only
returns-clause-only c = λ bus is.
    let parts = bus_parts c.args.name.now bus is (Some (c.in_ok-domain.domain, c.in_ok-domain.number)) c.in_ok-domain.ensures.cases in
    let domain = c.in_ok-domain_of_word.ensures.only bus.domain parts.0 in
    let number = c.in_ok-bus_of_word.ensures.only bus.number is.below parts.1 in
    bus_same bus _ _ (cc domain) (cc number)
