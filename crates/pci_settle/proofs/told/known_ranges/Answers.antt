use Rattle.std.proofs.Common.{refl, length, sym, ap, ◌∙◌}
use Rattle.pci_place.specs.Above.{system_in}
use Rattle.pci_place.proofs.Records.{lent}
use Rattle.pci_first_fit.specs.Slots.{demand_value}
use Rattle.pci_kept.specs.Boards.{IsTree}
use Rattle.pci_kept.specs.Known.{asked_by_rules}
use Rattle.pci_settle.proofs.told.known_ranges.Goals as goal

pub returns-clause-flags : goal.returns-clause-flags
returns-clause-flags g c = record {
  lines = c.in_ok-lines.ensures.count ∙ ap length c.as_slice-ranges.ensures.value;
  standing = c.in_ok-standing.ensures.count;
}

pub returns-clause-known : goal.returns-clause-known
returns-clause-known g c =
    let s = system_in c.args.admitted.now in
    let q = asked_by_rules c.args.admitted.now.roots (demand_value c.args.lists.now) c.args.rules.now in
    let records = c.records-records.result.now in
    let has = lent s records c.records-records.ensures.value c.outline-outline.ensures.records in
    let admitted = c.outline-outline.ensures.admitted in
    let tree : IsTree q s records = record { has = has; system = admitted.system; nested = admitted.nested } in
    record {
      ranges = refl;
      lines = c.in_ok-lines.ensures.lines q s tree (sym (c.roots.ensures ∙ c.outline-outline.ensures.roots)) (sym c.as_slice-ranges.ensures.value) refl;
      standing = c.in_ok-standing.ensures.flags;
    }
