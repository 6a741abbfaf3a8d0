use Rattle.std.proofs.Common.{◌≡◌, List, length, map, sym, subst, ap, ◌∙◌}
use Rattle.std.proofs.lemmas.Result.{IfOk-weaker}
use Rattle.pci_spec.specs.Decoded.{HasRecords}
use Rattle.pci_spec.specs.System.{System}
use Rattle.pci_spec.specs.Bus.{IsNested}
use Rattle.settle_spec.specs.Items.{spare_of}
use Rattle.pci_function.specs.declared.record.Record.{Record}
use Rattle.pci_function.specs.Values.{record_value}
use Rattle.pci_tree.specs.Admission.{IsAdmitted}
use Rattle.pci_place.specs.Above.{system_in}
use Rattle.pci_place.proofs.Records.{same_count}
use Rattle.pci_tree.specs.Roots.{buses_of}
use Rattle.pci_first_fit.specs.Lines.{AreLineRows, AreLines}
use Rattle.pci_first_fit.specs.Slots.{Demand}
use Rattle.pci_grow.proofs.ToldSpares.{spares_are_told}
use Rattle.pci_settle.specs.Wishes.{behind_slots}
use Rattle.pci_settle.proofs.WishesBefore.{all_registers, windows_then_are, own_then_are}
use Rattle.pci_settle.proofs.WishesGranted.{spares_told, all_wishes}
use Rattle.pci_settle.proofs.wishes.wishes_of.Goals as goal
use Rattle.pci_settle.proofs.wishes.wishes_of.Goals.{After-records-records}
use Rattle.pci_settle.proofs.wishes.wishes_of.Given.{Over}

module _ (g : Over) (c : After-records-records g) where
  abbrev s : System
  s = system_in c.args.admitted.now

  abbrev records : List Record
  records = c.records-records.result.now

  is_admitted : IsAdmitted c.args.admitted.now
  is_admitted = c.outline-outline.ensures.admitted

  has : HasRecords s (map record_value records)
  has = subst (HasRecords s) (sym c.records-records.ensures.value) c.outline-outline.ensures.records

  count : length s ≡ length records
  count = same_count s records has

pub basis_of-requires-clause-places : goal.basis_of-requires-clause-places
basis_of-requires-clause-places g c = c.requires.places ∙ count g ((goal.at.basis_of-requires-clause-places g c).After-records-records)

pub basis_of-requires-clause-staying : goal.basis_of-requires-clause-staying
basis_of-requires-clause-staying g c = c.requires.staying ∙ count g ((goal.at.basis_of-requires-clause-staying g c).After-records-records)

pub basis_of-requires-clause-registers : goal.basis_of-requires-clause-registers
basis_of-requires-clause-registers g c =
    let start = (goal.at.basis_of-requires-clause-registers g c).After-records-records in
    all_registers (s g start) (records g start) (has g start)

pub grant_by-requires-clause-spares : goal.grant_by-requires-clause-spares
grant_by-requires-clause-spares g c = c.in_ok-basis.ensures.extents

pub grant_by-requires-clause-rows : goal.grant_by-requires-clause-rows
grant_by-requires-clause-rows g c = subst AreLineRows (sym c.as_slice.ensures.value) c.in_ok-lines.ensures.rows

pub grant_by-requires-clause-lines : goal.grant_by-requires-clause-lines
grant_by-requires-clause-lines g c = subst (AreLines (buses_of c.roots-roots.result) c.args.lists.now.told.ranges.now) (sym c.as_slice.ensures.value) c.in_ok-lines.ensures.lines

pub returns-clause-count : goal.returns-clause-count
returns-clause-count g c =
    let start = (goal.at.returns-clause-count g c).After-records-records in
    IfOk-weaker c.grant_by.result _ _ (λ w same. same ∙ sym (count g start)) c.grant_by.ensures.count

pub returns-clause-granted : goal.returns-clause-granted
returns-clause-granted g c =
    let start = (goal.at.returns-clause-granted g c).After-records-records in
    let sys = s g start in
    let recs = records g start in
    let has_them = has g start in
    let basis = c.in_ok-basis.basis in
    let told = c.in_ok-basis.ensures in
    let places_count = c.requires.places ∙ count g start in
    let staying_count = c.requires.staying ∙ count g start in
    IfOk-weaker c.grant_by.result _ _
    (λ w all q slots keep asked flags places tells none.
    let p = behind_slots q slots in
    all_wishes q p sys keep w.wished.items w.denied.items (is_admitted g start).system none
    (all p sys keep (spare_of q)
    (record {
      has = has_them;
      system = (is_admitted g start).system;
      nested = subst (λ xs. IsNested xs sys) (sym asked.roots_are) (is_admitted g start).nested;
      roots_are = asked.roots_are ∙ sym (c.roots-roots.ensures ∙ c.outline-outline.ensures.roots);
      lists_are = ap (λ (d : Demand). d.lists) asked.demands_are;
      told_are = ap (λ (d : Demand). d.told.ranges) asked.demands_are;
      fixed_are = told.fixed_are q.fixed flags;
    })
    (windows_then_are p sys keep (is_admitted g start).system (subst (λ xs. IsNested xs sys) (sym asked.roots_are) (is_admitted g start).nested) c.args.tables.now places tells none recs has_them places_count staying_count basis.windows.items told.windows_are)
    (own_then_are p sys keep (is_admitted g start).system (subst (λ xs. IsNested xs sys) (sym asked.roots_are) (is_admitted g start).nested) c.args.tables.now places tells none recs has_them basis.own.items told.own_are)
    (spares_are_told q sys basis.slots.items basis.spares
    (spares_told q sys recs has_them c.args.lists.now.slots basis.slots.items basis.spares (ap (λ (d : Demand). d.slots) asked.demands_are) (ap (λ (d : Demand). d.spares) asked.demands_are) told.slots_are told.spares_are))))
    c.grant_by.ensures.granted
