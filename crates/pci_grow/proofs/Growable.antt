-- What can grow meets what is asked for where holding parts, and then what is there, are found.
use Rattle.std.proofs.Common.{◌≡◌, ◌⊎◌, List, length, map, false, refl, sym, subst, ◌∙◌, Option, None, Some}
use Rattle.std.specs.List.{All}
use Rattle.pci_spec.specs.Decoded.{HasRecords}
use Rattle.settle_spec.specs.Lists.{Lists, Request}
use Rattle.settle_laws.proofs.LowWindows.{windows_low}
use Rattle.pci_base.specs.declared.memory.Refused.TheVariants as refused
use Rattle.pci_base.specs.declared.range.Range.{Range}
use Rattle.pci_base.specs.declared.window_kind.ByKind.{ByKind}
use Rattle.pci_function.specs.declared.record.Record.{Record}
use Rattle.pci_function.specs.Values.{record_value}
use Rattle.pci_tree.specs.Admission.{Admission, IsAdmitted}
use Rattle.pci_place.specs.Above.{system_in}
use Rattle.pci_first_fit.specs.declared.extent.Extent.{Extent}
use Rattle.pci_first_fit.specs.declared.kept.Kept.{Kept}
use Rattle.pci_first_fit.specs.declared.lines.Line.{Line}
use Rattle.pci_first_fit.specs.declared.over.OpenWindows.{OpenWindows}
use Rattle.pci_first_fit.specs.declared.own.Terms.{Terms}
use Rattle.pci_first_fit.specs.Lines.{AreLineRows, AreLines}
use Rattle.pci_first_fit.specs.Slots.{Demand}
use Rattle.pci_first_fit.specs.Buses.{Classing, classing_of, TellsClasses}
use Rattle.pci_kept.specs.declared.region.Region.{Region}
use Rattle.pci_kept.specs.declared.rules.Rules.{Rules}
use Rattle.pci_kept.specs.Boards.{IsBoard}
use Rattle.pci_kept.specs.Known.{asked_by_rules, AreParts}
use Rattle.pci_kept.specs.declared.windows.TooLarge.{TooLarge}
use Rattle.pci_kept.specs.Holding.{IsAsking, AreHolding}
use Rattle.pci_kept.specs.Windows.{AreAllNew}
use Rattle.pci_grow.specs.Growing.{CanGrow}
use Rattle.pci_first_fit.specs.PlaceTables.{ArePlaceless}
use Rattle.pci_grow.specs.Reaches.{AreWindowReaches}
use Rattle.pci_grow.specs.Reaching.{Reaching, IsReaching, tells_whole, TellsWhole, IsTooLargeAround}
use Rattle.pci_first_fit.specs.Tables.{AreUntold}
use Rattle.pci_grow.specs.There.{Tables}
use Rattle.pci_grow.specs.Telling.{AreStandingRows, IsGrowing, IsNothingGrown}
use Rattle.pci_grow.proofs.AllRows.{standing_rows}
use Rattle.pci_grow.proofs.WholeReaches.{known_around, whole_reach, new_around, large_around, new_where_stands}

module _ (q : Request) (p : Classing) (lists : Lists) (windows : ByKind (List (Option Extent))) (x : Reaching) (can : CanGrow q p lists windows x) where
  pub board_of : (records : List Record) → HasRecords p.system (map record_value records) → IsBoard q p.system records lists
  board_of records has = record { has = has; system = can.system; nested = can.nested; same = can.same }

  pub asking_of : (regions : List Region) (lines : List Line) → regions ≡ x.regions → lines ≡ x.lines → IsAsking p windows regions lines q
  asking_of regions lines same same_lines = record {
    system = can.system;
    nested = can.nested;
    left = can.left;
    parts = subst (AreParts q p.system) (sym same) can.reaching.parts;
    told = subst (AreLines q.roots q.told.ranges) (sym same_lines) can.reaching.are_lines;
    new = new_where_stands p q can.system can.nested can.low windows can.new;
  }

  pub growing_of : (rows : List Region) (reaches : List (ByKind (Option Range))) (lines : List Line) → rows ≡ x.rows → reaches ≡ x.reaches → lines ≡ x.lines
      → IsGrowing q (record { classing = p; windows = windows; rows = rows; reaches = reaches; lines = lines })
  growing_of rows reaches lines same_rows same_reaches same_lines = record {
    system = can.system;
    nested = can.nested;
    line_rows = subst AreLineRows (sym same_lines) can.reaching.line_rows;
    lines = subst (AreLines q.roots q.told.ranges) (sym same_lines) can.reaching.are_lines;
    low = can.low;
    left = can.left;
    rows = subst (AreStandingRows q p.system) (sym same_rows)
        (standing_rows q p.system can.system can.nested x.rows record {
          regions = x.regions;
          standing = x.kept;
          parts = can.reaching.parts;
          stand = can.reaching.stand;
          sorted = can.reaching.are_rows;
        });
    reaches = subst (AreWindowReaches q p.system) (sym same_reaches) can.reaching.told_reaches;
    new = can.new;
  }

  -- nothing has grown
  pub begun_of : (t : Tables) (holding : List Kept) → AreHolding q p.system holding → t.kept ≡ holding → AreUntold t.grown → ArePlaceless t.places → length t.grown ≡ length holding → length t.places ≡ length holding
      → IsNothingGrown q p.system t
  begun_of t holding are same untold placeless grown places = record {
    holding = subst (AreHolding q p.system) (sym same) are;
    untold = untold;
    placeless = placeless;
    grown = grown ∙ are.count;
    places = places ∙ are.count;
  }

-- so it is with what is asked for of an admitted system, where no bridge is named
pub can_grow : (a : Admission) (d : Demand) (rules : Rules) → IsAdmitted a → (terms : Terms) (over : List OpenWindows) → TellsClasses (classing_of a terms over) (asked_by_rules a.roots d rules)
    → (windows : ByKind (List (Option Extent))) (large : Option TooLarge) → AreAllNew (classing_of a terms over) windows large
    → (x : Reaching) → IsReaching (asked_by_rules a.roots d rules) (system_in a) x → (large ≡ None) ⊎ All (λ ranges. tells_whole ranges ≡ false) x.reaches
    → CanGrow (asked_by_rules a.roots d rules) (classing_of a terms over) d.lists windows x
can_grow a d rules admitted terms over left windows large all x is none = record {
  system = admitted.system;
  nested = admitted.nested;
  same = refl;
  low = windows_low (asked_by_rules a.roots d rules) (system_in a) admitted.system admitted.nested admitted.profile;
  left = left;
  reaching = is;
  new = new_around (classing_of a terms over) (asked_by_rules a.roots d rules) left windows large all
      (known_around (asked_by_rules a.roots d rules) (system_in a) admitted.system admitted.nested x is large none);
}

-- and a bridge that is named has too large a new window, where a window can grow to all addresses
pub large_of : (a : Admission) (d : Demand) (rules : Rules) → IsAdmitted a → (terms : Terms) (over : List OpenWindows) → TellsClasses (classing_of a terms over) (asked_by_rules a.roots d rules)
    → (windows : ByKind (List (Option Extent))) (large : Option TooLarge) → AreAllNew (classing_of a terms over) windows large
    → (x : Reaching) → IsReaching (asked_by_rules a.roots d rules) (system_in a) x → (w : TooLarge) → (large ≡ Some w) × TellsWhole x.reaches
    → IsTooLargeAround (asked_by_rules a.roots d rules) (system_in a) (refused.Fault w)
large_of a d rules admitted terms over left windows large all x is w (named, whole) = (
  large_around (classing_of a terms over) (asked_by_rules a.roots d rules) left windows large all w named,
  whole_reach (asked_by_rules a.roots d rules) (system_in a) admitted.system admitted.nested x is whole,
)
