-- Tables of what stands and stays: where all is placed anew nothing does, and else as they were made.
use Rattle.std.proofs.Common.{◌≡◌, ◌<◌, Bool, List, [], map, length, false, slice_index_or, None, refl, sym, ◌∙◌, ap, subst}
use Rattle.std.specs.Bool.{IsTrue}
use Rattle.std.specs.Option.{option_map}
use Rattle.std.proofs.lemmas.List.{get_or_default}
use Rattle.std.proofs.lemmas.Option.{slice_get_within}
use Rattle.pci_spec.specs.System.{System}
use Rattle.pci_spec.specs.Decoded.{HasRecords}
use Rattle.pci_spec.specs.Decoded as decoded
use Rattle.settle_spec.specs.Lists.{Request}
use Rattle.settle_spec.specs.Parts.{FunctionPart, system_parts}
use Rattle.settle_spec.specs.Stands.{stands}
use Rattle.settle_spec.specs.Items.{has_room_behind, stays}
use Rattle.settle_spec.specs.Kept.{as_it_stands, is_kept, stays_growing, growing}
use Rattle.settle_spec.proofs.Anew.{none_stands, none_stays}
use Rattle.pci_function.specs.declared.record.Record.{Record}
use Rattle.pci_function.specs.Values.{record_value}
use Rattle.pci_tree.specs.Admission.{Admission, IsAdmitted}
use Rattle.pci_place.specs.Above.{system_in}
use Rattle.pci_first_fit.specs.declared.kept.Kept.{Kept}
use Rattle.pci_first_fit.specs.declared.over.Left.{Left}
use Rattle.pci_first_fit.specs.declared.over.OpenWindows.{OpenWindows}
use Rattle.pci_first_fit.specs.Slots.{Demand}
use Rattle.pci_first_fit.specs.Kept.{kept_of, nothing_kept, AreNone}
use Rattle.pci_first_fit.specs.Keeping.{TellsKept}
use Rattle.pci_first_fit.specs.Over.{AreOpenOver}
use Rattle.pci_first_fit.proofs.AsItStands.{stands_told}
use Rattle.pci_grow.specs.Growing.{Grown, AreGrown}
use Rattle.pci_kept.specs.Known.{asked_by_rules}
use Rattle.pci_kept.specs.Passing.{AreStanding}
use Rattle.pci_kept.specs.declared.rules.Rules.{Rules}
use Rattle.pci_kept.specs.Boards.{IsTree}
use Rattle.pci_kept.specs.Staying.{AreStaying, AreStayingBy, stays_by}
use Rattle.pci_kept.proofs.Opened.{tree_of}
use Rattle.pci_settle_places.specs.Placed.{IsLeaving, CanBeLeft}
use Rattle.pci_settle_places.proofs.NothingLeft.{leaves}
use Rattle.pci_settle.specs.Requests.{IsAskedOf}
use Rattle.pci_settle.specs.Told.{IsTableOf}
use Rattle.settle_spec.specs.Writes.{fixed_without}
use Rattle.pci_settle.specs.Fixed.{fixed_part}
use Rattle.pci_settle.specs.Endings.{AreFixedKept, AreAskedFor}
use Rattle.pci_settle.proofs.Refusals.{untold_kept}

-- a table that has nothing, of a test that nothing passes
table_of_none : (s : System) (test : FunctionPart → Bool) (table : List Kept) → ((r : FunctionPart) → test r ≡ false) → length table ≡ length s → AreNone table
    → IsTableOf s test table
table_of_none s test table never count none = record {
  count = count;
  each = λ k f d part at there.
      let within = slice_get_within s k f at in
      none k d (subst (λ n. k < n) (sym count) within) part ∙ sym (never record { function = f; part = part });
}

-- what stays by a test, whatever a function beyond the table is taken to have
table_of_staying : (q : Request) (s : System) (holds : FunctionPart → Bool) (table : List Kept) → AreStayingBy q s holds table → IsTableOf s (stays_by q s holds) table
table_of_staying q s holds table are = record {
  count = are.count;
  each = λ k f d part at there.
      let within = slice_get_within s k f at in
      ap (λ t. kept_of t part) (get_or_default table k d nothing_kept (subst (λ n. k < n) (sym are.count) within)) ∙ are.each k f part at there;
}

-- open windows of what is left are those that were found
pub left_opened : {records : List Record} {anew : Bool} {overs windows : List OpenWindows} → ((q : Request) (s : System) → IsTree q s records → q.anew ≡ anew → AreOpenOver q s windows) → overs ≡ windows
    → (q : Request) (s : System) → IsTree q s records → q.anew ≡ anew → AreOpenOver q s overs
left_opened opened same q s tree is = subst (AreOpenOver q s) (sym same) (opened q s tree is)

module _ (a : Admission) (l : Demand) where
  -- what is asked for tells nothing where nothing is told
  pub untold_ranges : (q : Request) → IsAskedOf q a.roots l → l.told.ranges ≡ [] → q.told.ranges ≡ []
  untold_ranges q is untold = ap (λ (d : Demand). d.told.ranges) is.demands_are ∙ untold

  -- where all is placed anew
  module _ (table : List Kept) (count : length table ≡ length (system_in a)) (none : AreNone table) (q : Request) (is : IsAskedOf q a.roots l) (untold : q.told.ranges ≡ []) (anew : IsTrue q.anew) where
    pub stand_anew : IsTableOf (system_in a) (stands q (system_in a)) table
    stand_anew = table_of_none (system_in a) (stands q (system_in a)) table (none_stands q (system_in a) anew untold (length (system_parts q (system_in a)))) count none

    stay_anew : IsTableOf (system_in a) (stays q (system_in a)) table
    stay_anew = table_of_none (system_in a) (stays q (system_in a)) table (none_stays q (system_in a) anew untold) count none

    -- the table says no to nothing that is fixed
    pub told_anew : (left : Left) → left.over.now ≡ [] → left.kept.now ≡ [] → left.grown.now ≡ []
        → ((test : FunctionPart → Bool) → IsTableOf (system_in a) test table → None ≡ option_map fixed_part (fixed_without test q (system_in a)))
        → AreAskedFor q (as_it_stands q (system_in a)) a l left table
    told_anew left no_windows none_kept none_grown found = record {
      asked = is;
      leaving = leaves a.roots (system_in a) l left no_windows none_kept none_grown q record { rooted = is.roots_are; anew = anew; untold = untold; demands = is.demands_are };
      kept = untold_kept a q (as_it_stands q (system_in a)) untold (found (stands q (system_in a)) stand_anew) (found (stays q (system_in a)) stay_anew);
      stay = stay_anew;
      none = refl;
    }

  -- where something may stay
  pub asked_is : (rules : Rules) → IsAskedOf (asked_by_rules a.roots l rules) a.roots l
  asked_is rules = record { roots_are = refl; demands_are = refl }

  module _ (rules : Rules) (table : List Kept) {made : List Kept} (is : table ≡ made) where
    pub table_stand : AreStanding (asked_by_rules a.roots l rules) (system_in a) made → IsTableOf (system_in a) (stands (asked_by_rules a.roots l rules) (system_in a)) table
    table_stand stand = subst (IsTableOf (system_in a) (stands (asked_by_rules a.roots l rules) (system_in a))) (sym is) record { count = stand.count; each = stand.each }

    pub table_stay : (holds : FunctionPart → Bool) → AreStayingBy (asked_by_rules a.roots l rules) (system_in a) holds made
        → IsTableOf (system_in a) (stays_by (asked_by_rules a.roots l rules) (system_in a) holds) table
    table_stay holds stay =
        subst (IsTableOf (system_in a) (stays_by (asked_by_rules a.roots l rules) (system_in a) holds)) (sym is) (table_of_staying (asked_by_rules a.roots l rules) (system_in a) holds made stay)

  module _ (rules : Rules) (admitted : IsAdmitted a) (records : List Record) {values : List decoded.Record} (same : map record_value records ≡ values) (has : HasRecords (system_in a) values)
      (left : Left) (opened : (q : Request) (s : System) → IsTree q s records → q.anew ≡ rules.anew → AreOpenOver q s left.over.now) (staying : List Kept) {stayed : List Kept} (stayed_is : staying ≡ stayed) where
    overs : AreOpenOver (asked_by_rules a.roots l rules) (system_in a) left.over.now
    overs = opened (asked_by_rules a.roots l rules) (system_in a) (tree_of a l rules admitted records same has) refl

    -- as it stands
    module _ (kept_is : left.kept.now ≡ stayed) (none_grown : left.grown.now ≡ []) (stay : AreStaying (asked_by_rules a.roots l rules) (system_in a) stayed) where
      pub leaving_rest : IsLeaving (asked_by_rules a.roots l rules) (as_it_stands (asked_by_rules a.roots l rules) (system_in a)) a.roots (system_in a) l left
      leaving_rest = record {
        rooted = refl;
        demands = refl;
        overs_are = overs;
        keeps_is = stands_told (asked_by_rules a.roots l rules) (system_in a) left none_grown
            (λ k f part at there. ap (λ t. kept_of (slice_index_or t k nothing_kept) part) kept_is ∙ stay.each k f part at there);
      }

      pub rest_can_be_left : CanBeLeft a.roots (system_in a) l left
      rest_can_be_left = record { request = asked_by_rules a.roots l rules; keep = as_it_stands (asked_by_rules a.roots l rules) (system_in a); leaving = leaving_rest }

      pub told_rest : AreFixedKept (asked_by_rules a.roots l rules) (system_in a) (as_it_stands (asked_by_rules a.roots l rules) (system_in a))
          → AreAskedFor (asked_by_rules a.roots l rules) (as_it_stands (asked_by_rules a.roots l rules) (system_in a)) a l left staying
      told_rest kept = record {
        asked = asked_is rules;
        leaving = leaving_rest;
        kept = kept;
        stay = table_stay rules staying stayed_is (has_room_behind (asked_by_rules a.roots l rules) (system_in a)) stay;
        none = refl;
      }

    -- where windows grow
    module _ (grown : Grown) (stays_are : grown.stays ≡ stayed) (are : AreGrown (asked_by_rules a.roots l rules) (system_in a) grown)
        (tells : TellsKept (asked_by_rules a.roots l rules) (system_in a) (growing (asked_by_rules a.roots l rules) (system_in a)) left) where
      pub leaving_grown : IsLeaving (asked_by_rules a.roots l rules) (growing (asked_by_rules a.roots l rules) (system_in a)) a.roots (system_in a) l left
      leaving_grown = record { rooted = refl; demands = refl; overs_are = overs; keeps_is = tells }

      pub grown_can_be_left : CanBeLeft a.roots (system_in a) l left
      grown_can_be_left = record { request = asked_by_rules a.roots l rules; keep = growing (asked_by_rules a.roots l rules) (system_in a); leaving = leaving_grown }

      pub table_grown : IsTableOf (system_in a) (stays_growing (asked_by_rules a.roots l rules) (system_in a)) staying
      table_grown = table_stay rules staying stayed_is (is_kept (asked_by_rules a.roots l rules) (system_in a))
          (subst (AreStayingBy (asked_by_rules a.roots l rules) (system_in a) (is_kept (asked_by_rules a.roots l rules) (system_in a))) stays_are are.stay)

      pub told_grown : AreFixedKept (asked_by_rules a.roots l rules) (system_in a) (growing (asked_by_rules a.roots l rules) (system_in a))
          → AreAskedFor (asked_by_rules a.roots l rules) (growing (asked_by_rules a.roots l rules) (system_in a)) a l left staying
      told_grown kept = record { asked = asked_is rules; leaving = leaving_grown; kept = kept; stay = table_grown; none = refl }
