use Rattle.std.proofs.Common.{◌≡◌, ◌∙◌, length, map, sym, ap, subst, List}
use Rattle.std.specs.Option.{option_map}
use Rattle.std.proofs.lemmas.Result.{err_from_is_err_and}
use Rattle.pci_spec.specs.Machine.{Write}
use Rattle.pci_spec.specs.System.{System}
use Rattle.pci_spec.specs.Text.{Block}
use Rattle.settle_spec.specs.Lists.{Request}
use Rattle.settle_spec.specs.Writes.{fixed_write}
use Rattle.settle_spec.specs.Kept.{Kept as Keeping}
use Rattle.settle_spec.specs.Keeping.Writes.{would_be_switched, earliest}
use Rattle.pci_tree.specs.Admission.{Admission}
use Rattle.pci_place.specs.Above.{system_in}
use Rattle.pci_plan.specs.Writes.{write_value}
use Rattle.pci_first_fit.specs.Slots.{Demand, demand_value}
use Rattle.pci_settle_places.specs.Live.{HasAllPlaces}
use Rattle.pci_settle.specs.declared.tables.Tables.{Tables}
use Rattle.pci_settle.specs.Bounded.{AreBounds}
use Rattle.pci_settle.specs.Dumps.{IsSettledByWrites, IsSettledDump}
use Rattle.pci_settle.specs.Endings.{AreAskedFor}
use Rattle.pci_settle.specs.Fixed.{fixed_register}
use Rattle.pci_settle.specs.PlacedBy.{IsPlacedBy}
use Rattle.pci_settle.specs.Told.{TellsKeeping}
use Rattle.pci_settle.specs.ToldEndings.{told_fault, AreClearAbove, AlwaysStand}
use Rattle.pci_settle.proofs.Endings.{ends_switched}
use Rattle.pci_settle.proofs.Refusals.{none_found, ended_of_lack, written, ended_settled}
use Rattle.pci_settle.proofs.ToldSwitched.{always_stand}
use Rattle.pci_settle.proofs.Unkept.{named_line}
use Rattle.pci_settle.proofs.settle.settle_held.Goals as goal
use Rattle.pci_settle.proofs.settle.settle_held.Goals.{After-fixed_write}
use Rattle.pci_settle.proofs.settle.settle_held.Given.{Over as Outer}

-- what is asked for is settled by the tables
module _ (g : Outer) (c : After-fixed_write g) (q : Request) (keep : Keeping) (bounds : AreBounds q (system_in c.args.admitted.now) c.args.bounds.now)
    (told : AreAskedFor q keep c.args.admitted.now (demand_value c.args.lists.now) c.args.left.now c.args.staying.now) where
  abbrev a : Admission
  a = c.args.admitted.now

  abbrev s : System
  s = system_in a

  abbrev writes : List Write
  writes = map write_value c.in_ok-settled.field-0.settled.writes.all.items

  places_made : HasAllPlaces q s keep c.in_ok-table.table.items
  places_made = let placed = c.in_ok-table.ensures.places q keep told.leaving in record { count = placed.count; each = placed.each }

  tells : TellsKeeping q s keep c.args.left.now.grown.now c.args.staying.now
  tells = record { standing = told.leaving.keeps_is.standing; stays_are = told.stay; ranges_are = told.leaving.keeps_is.ranges_are }

  abbrev tables : Tables
  tables = record { places = c.as_slice.result; staying = c.args.staying; grown = c.args.left.now.grown; standing = c.args.bounds.now.told.standing }

  placed_by : IsPlacedBy q keep a c.args.lists.now c.args.left.now.over.now tables
  placed_by = record {
    asked = told.asked;
    overs_are = told.leaving.overs_are;
    places = subst (HasAllPlaces q s keep) (sym c.as_slice.ensures.value) places_made;
    tells = tells;
    stand = bounds.told.standing;
    unwished = told.none;
  }

  by : IsSettledByWrites q keep a c.in_ok-settled.field-0.settled.dump writes c.in_ok-settled.field-0.settled.writes.closings
  by = c.in_ok-settled.ensures.settled q keep placed_by

  ways : AreClearAbove q s keep c.in_ok-settled.field-0.ways.items
  ways = c.in_ok-settled.ensures.ways q keep placed_by

  always : AlwaysStand q s
  always = always_stand q s (ap (λ (d : Demand). d.told.asleep) told.asked.demands_are) told.kept.stand.told

  -- the first fixed register that is written
  fixed_is : c.fixed_write.result ≡ option_map fixed_register (fixed_write q writes)
  fixed_is = c.fixed_write.ensures q bounds.fixed ∙ ap (λ ws. option_map fixed_register (fixed_write q (map write_value ws))) c.as_slice-2.ensures.value

pub returns-in_err-table-clause-refusal : goal.returns-in_err-table-clause-refusal
returns-in_err-table-clause-refusal g c =
    let p = err_from_is_err_and c.from_residual.result c.from_residual.ensures.1 in
    rw (p.1, p.2) (λ q keep bounds told. ended_of_lack c.args.admitted.now q keep told.kept c.in_err-table.field-0.0 (c.in_err-table.ensures.fault q keep told.leaving))

pub settled_at-requires-clause-places : goal.settled_at-requires-clause-places
settled_at-requires-clause-places g c =
    ap length c.as_slice.ensures.value ∙ (c.in_ok-table.ensures.places c.requires.left.request c.requires.left.keep c.requires.left.leaving).count

pub returns-in-Some-clause-refusal : goal.returns-in-Some-clause-refusal
returns-in-Some-clause-refusal g c = λ q keep bounds told.
    let at = (goal.at.returns-in-Some-clause-refusal g c).After-fixed_write in
    written c.args.admitted.now q keep told.kept (c.in_ok-table.ensures.places q keep told.leaving).lack (writes g at q keep bounds told) (by g at q keep bounds told).writes_are c.in-Some.fault
    (sym c.in-Some.is ∙ fixed_is g at q keep bounds told)

pub returns-in-Some-2-clause-refusal : goal.returns-in-Some-2-clause-refusal
returns-in-Some-2-clause-refusal g c = λ q keep bounds told.
    let at = (goal.at.returns-in-Some-2-clause-refusal g c).After-fixed_write in
    let a = c.args.admitted.now in
    let s = system_in a in
    let written_of = writes g at q keep bounds told in
    let are = by g at q keep bounds told in
    let found = c.in_ok-fault.ensures q keep a c.in_ok-table.ensures.admitted bounds.told
    (subst (λ (bs : List Block). IsSettledDump q keep a bs) (sym c.blocks-2.ensures.value) are.settled)
    (subst (AreClearAbove q s keep) (sym c.as_slice-3.ensures.value) (ways g at q keep bounds told)) (always g at q keep bounds told) in
    named_line a q keep (would_be_switched q s keep)
    (ends_switched q s keep told.kept.stand told.kept.stay (c.in_ok-table.ensures.places q keep told.leaving).lack written_of are.writes_are
    (none_found fixed_register (fixed_write q written_of) (sym c.in_default.is ∙ fixed_is g at q keep bounds told)))
    c.in-Some-2.fault (sym c.in-Some-2.is ∙ found)

pub returns-clause-places : goal.returns-clause-places
returns-clause-places g c = (c.in_ok-table.ensures.places c.requires.left.request c.requires.left.keep c.requires.left.leaving).count

pub returns-clause-ends : goal.returns-clause-ends
returns-clause-ends g c = λ q keep bounds told.
    let at = (goal.at.returns-clause-ends g c).After-fixed_write in
    let a = c.args.admitted.now in
    let s = system_in a in
    let room = (c.in_ok-table.ensures.places q keep told.leaving).lack in
    let are = by g at q keep bounds told in
    let found = c.in_ok-fault.ensures q keep a c.in_ok-table.ensures.admitted bounds.told
    (subst (λ (bs : List Block). IsSettledDump q keep a bs) (sym c.blocks-2.ensures.value) are.settled)
    (subst (AreClearAbove q s keep) (sym c.as_slice-3.ensures.value) (ways g at q keep bounds told)) (always g at q keep bounds told) in
    record {
      by = are;
      room = room;
      places = places_made g at q keep bounds told;
      tells = tells g at q keep bounds told;
      stand = bounds.told.standing;
      unwished = told.none;
      ends = ended_settled a q keep told.kept room (writes g at q keep bounds told) are.writes_are
          (sym c.in_default.is ∙ fixed_is g at q keep bounds told)
          (none_found told_fault (earliest q (would_be_switched q s keep)) (sym c.in_default-2.is ∙ found));
    }
