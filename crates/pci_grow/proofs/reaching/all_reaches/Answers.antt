use Rattle.std.proofs.Common.{length, arith, ap, sym, subst, ◌∙◌}
use Rattle.pci_place.specs.Above.{system_in}
use Rattle.pci_place.proofs.Records.{lent, same_count}
use Rattle.pci_first_fit.specs.Lines.{AreLineRows, AreLines}
use Rattle.pci_first_fit.specs.Slots.{demand_value}
use Rattle.pci_kept.specs.Known.{asked_by_rules}
use Rattle.pci_kept.proofs.Whole.{slice_back}
use Rattle.pci_grow.specs.Reaches.{AreWindowReaches}
use Rattle.pci_grow.specs.Rows.{AreRowsOfStanding}
use Rattle.pci_first_fit.specs.Tables.{told, AreUntold}
use Rattle.pci_grow.proofs.AllReaches.{rows_of, only_standing}
use Rattle.pci_grow.proofs.reaching.all_reaches.Goals as goal

pub find_reaches-requires-clause-rows : goal.find_reaches-requires-clause-rows
find_reaches-requires-clause-rows g c =
    let a = c.args.admitted.now in
    let d = demand_value c.args.lists.now in
    let text = c.as_slice-3.result.now in
    let lines = c.as_slice-4.result.now in
    let are_lines : AreLines a.roots text lines =
    subst (AreLines a.roots text) (sym c.as_slice-4.ensures.value) (subst (λ rs. AreLines a.roots rs c.in_ok-lines.lines.items) (sym c.as_slice-3.ensures.value)
    (subst (λ rs. AreLines rs d.told.ranges c.in_ok-lines.lines.items) (c.roots-roots.ensures ∙ c.outline-outline.ensures.roots) c.in_ok-lines.ensures.lines)) in
    let rows = c.in_ok-rows.rows.items in
    let sorted = subst (λ xs. AreRowsOfStanding xs c.in_ok-kept.kept.items rows) c.as_slice.ensures.value (subst (λ ks. AreRowsOfStanding c.as_slice.result.now ks rows) c.as_slice-2.ensures.value c.in_ok-rows.ensures.rows) in (
      asked_by_rules a.roots d c.args.rules.now,
      system_in a,
      rows_of a d c.args.rules.now c.outline-outline.ensures.admitted text (sym c.as_slice-3.ensures.value) lines (subst AreLineRows (sym c.as_slice-4.ensures.value) c.in_ok-lines.ensures.rows) are_lines c.records-records.result.now c.records-records.ensures.value c.outline-outline.ensures.records
          c.in_ok-regions.regions.items c.in_ok-regions.ensures c.in_ok-kept.kept.items c.in_ok-kept.ensures rows sorted c.as_slice-5.result.now c.as_slice-5.ensures.value,
    )

pub returns : goal.returns
returns g c =
    let a = c.args.admitted.now in
    let d = demand_value c.args.lists.now in
    let s = system_in a in
    let q = asked_by_rules a.roots d c.args.rules.now in
    let records = c.records-records.result.now in
    let text = c.as_slice-3.result.now in
    let lines = c.as_slice-4.result.now in
    let are_lines : AreLines a.roots text lines =
    subst (AreLines a.roots text) (sym c.as_slice-4.ensures.value) (subst (λ rs. AreLines a.roots rs c.in_ok-lines.lines.items) (sym c.as_slice-3.ensures.value)
    (subst (λ rs. AreLines rs d.told.ranges c.in_ok-lines.lines.items) (c.roots-roots.ensures ∙ c.outline-outline.ensures.roots) c.in_ok-lines.ensures.lines)) in
    let rows = c.in_ok-rows.rows.items in
    let sorted = subst (λ xs. AreRowsOfStanding xs c.in_ok-kept.kept.items rows) c.as_slice.ensures.value (subst (λ ks. AreRowsOfStanding c.as_slice.result.now ks rows) c.as_slice-2.ensures.value c.in_ok-rows.ensures.rows) in
    let are = rows_of a d c.args.rules.now c.outline-outline.ensures.admitted text (sym c.as_slice-3.ensures.value) lines (subst AreLineRows (sym c.as_slice-4.ensures.value) c.in_ok-lines.ensures.rows) are_lines records c.records-records.ensures.value c.outline-outline.ensures.records
    c.in_ok-regions.regions.items c.in_ok-regions.ensures c.in_ok-kept.kept.items c.in_ok-kept.ensures rows sorted c.as_slice-5.result.now c.as_slice-5.ensures.value in
    let old = c.as_mut_slice.result.now in
    let new = c.find_reaches.new.reaches in
    let none = subst AreUntold (sym c.as_mut_slice.ensures.value) c.in_ok-reaches.ensures.none in
    let long = c.in_ok-reaches.reaches.ok.0 in
    let back = slice_back c.in_ok-reaches.reaches.len new c.in_ok-reaches.reaches.items (c.find_reaches.ensures.count ∙ ap length c.as_mut_slice.ensures.value) (omega (arith, long)) in
    record {
      parts = c.in_ok-regions.ensures;
      stand = c.in_ok-kept.ensures;
      are_rows = sorted;
      rise = c.in_ok-rows.ensures.order;
      count = ap length back ∙ c.find_reaches.ensures.count ∙ ap length c.as_mut_slice.ensures.value ∙ c.in_ok-reaches.ensures.count ∙ sym (same_count s records (lent s records c.records-records.ensures.value c.outline-outline.ensures.records));
      told_reaches = subst (AreWindowReaches q s) (sym back) (c.find_reaches.ensures.reaches q s are);
      line_rows = c.in_ok-lines.ensures.rows;
      are_lines = subst (λ rs. AreLines rs d.told.ranges c.in_ok-lines.lines.items) (c.roots-roots.ensures ∙ c.outline-outline.ensures.roots) c.in_ok-lines.ensures.lines;
      only = λ k f class at off. ap (λ t. told t k class) back ∙ only_standing q s records record { lists = d.lists; told = text; lines = lines } c.as_slice-5.result.now are old new none c.find_reaches.ensures.others k f class at off;
    }
