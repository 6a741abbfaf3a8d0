use Rattle.std.proofs.Common.{None, Some}
use Rattle.pci_here.proofs.Names.{place_parts, place_there, place_same}
use Rattle.pci_here.proofs.place.place_of.Goals as goal

pub returns-in_err-domain-clause-only : goal.returns-in_err-domain-clause-only
returns-in_err-domain-clause-only c = λ place is. absurd (place_parts c.args.name.now place is None c.in_err-domain.ensures.cases)

pub returns-in_err-domain_of_word-clause-only : goal.returns-in_err-domain_of_word-clause-only
returns-in_err-domain_of_word-clause-only c = λ place is.
    let parts = place_parts c.args.name.now place is (Some (c.in_ok-domain.domain, c.in_ok-domain.slot)) c.in_ok-domain.ensures.cases in
    let none = c.in_err-domain_of_word.ensures.only place.domain parts.0 in
    absurd (cc none)

pub returns-in_err-slot_of_word-clause-only : goal.returns-in_err-slot_of_word-clause-only
returns-in_err-slot_of_word-clause-only c = λ place is.
    let parts = place_parts c.args.name.now place is (Some (c.in_ok-domain.domain, c.in_ok-domain.slot)) c.in_ok-domain.ensures.cases in
    let none = c.in_err-slot_of_word.ensures.only place.slot parts.1 in
    absurd (cc none)

pub returns-clause-name : goal.returns-clause-name
returns-clause-name c =
    place_there c.args.name.now (c.in_ok-domain.domain, c.in_ok-domain.slot) _ _ c.in_ok-domain.ensures.cases c.in_ok-domain_of_word.ensures.word
    c.in_ok-slot_of_word.ensures.word

pub returns-clause-only : goal.returns-clause-only
returns-clause-only c = λ place is.
    let parts = place_parts c.args.name.now place is (Some (c.in_ok-domain.domain, c.in_ok-domain.slot)) c.in_ok-domain.ensures.cases in
    let domain = c.in_ok-domain_of_word.ensures.only place.domain parts.0 in
    let slot = c.in_ok-slot_of_word.ensures.only place.slot parts.1 in
    place_same place _ _ (cc domain) (cc slot)
