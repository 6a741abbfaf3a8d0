use Rattle.std.proofs.Common.{None, Some}
use Rattle.pci_here.proofs.Lines.{line_parts, part_bus, line_there, range_same}
use Rattle.pci_here.proofs.bus_line.bus_range_of.Goals as goal

pub returns-in_err-addresses-clause-only : goal.returns-in_err-addresses-clause-only
returns-in_err-addresses-clause-only c = λ r is.
    absurd (line_parts c.args.line.now c.trim_start_matches.result.now c.trim_start_matches.ensures.matches None c.in_err-addresses.ensures.cases r is)

pub returns-in_err-strip_prefix-clause-only : goal.returns-in_err-strip_prefix-clause-only
returns-in_err-strip_prefix-clause-only c = λ r is.
    let parts = line_parts c.args.line.now c.trim_start_matches.result.now c.trim_start_matches.ensures.matches (Some (c.in_ok-addresses.addresses, c.in_ok-addresses.rest))
    c.in_ok-addresses.ensures.cases r is in
    absurd (part_bus c.in_ok-addresses.addresses.now c.in_ok-addresses.rest.now r parts None c.in_err-strip_prefix.ensures.cases)

pub returns-in_err-bus-clause-only : goal.returns-in_err-bus-clause-only
returns-in_err-bus-clause-only c = λ r is.
    let parts = line_parts c.args.line.now c.trim_start_matches.result.now c.trim_start_matches.ensures.matches (Some (c.in_ok-addresses.addresses, c.in_ok-addresses.rest))
    c.in_ok-addresses.ensures.cases r is in
    let none = c.in_err-bus.ensures.only r.bus
    (part_bus c.in_ok-addresses.addresses.now c.in_ok-addresses.rest.now r parts (Some c.in_ok-strip_prefix.field-0) c.in_ok-strip_prefix.ensures.cases) in
    absurd (cc none)

pub returns-in_err-range-clause-only : goal.returns-in_err-range-clause-only
returns-in_err-range-clause-only c = λ r is.
    let parts = line_parts c.args.line.now c.trim_start_matches.result.now c.trim_start_matches.ensures.matches (Some (c.in_ok-addresses.addresses, c.in_ok-addresses.rest))
    c.in_ok-addresses.ensures.cases r is in
    let none = c.in_err-range.ensures.only r.range parts.is_range in
    absurd (cc none)

pub returns-clause-line : goal.returns-clause-line
returns-clause-line c =
    line_there c.args.line.now c.trim_start_matches.result.now c.trim_start_matches.ensures.matches (c.in_ok-addresses.addresses, c.in_ok-addresses.rest)
    c.in_ok-addresses.ensures.cases c.in_ok-strip_prefix.field-0 c.in_ok-strip_prefix.ensures.cases c.in_ok-bus.bus c.in_ok-range.range c.in_ok-bus.ensures.name c.in_ok-range.ensures.word

pub returns-clause-only : goal.returns-clause-only
returns-clause-only c = λ r is.
    let parts = line_parts c.args.line.now c.trim_start_matches.result.now c.trim_start_matches.ensures.matches (Some (c.in_ok-addresses.addresses, c.in_ok-addresses.rest))
    c.in_ok-addresses.ensures.cases r is in
    let bus = c.in_ok-bus.ensures.only r.bus
    (part_bus c.in_ok-addresses.addresses.now c.in_ok-addresses.rest.now r parts (Some c.in_ok-strip_prefix.field-0) c.in_ok-strip_prefix.ensures.cases) in
    let range = c.in_ok-range.ensures.only r.range parts.is_range in
    range_same r _ _ (cc bus) (cc range)
