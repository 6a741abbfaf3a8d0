-- What stays as it stands stands, apart from what else stays on its bus, and in its lists or the window over it.
use Rattle.std.proofs.Common.{◌≡◌, true, false, sym, ◌∙◌}
use Rattle.std.proofs.lemmas.Bool.{and_parts}
use Rattle.std.specs.List.{Contains}
use Rattle.pci_spec.specs.System.{System, Function, IsSystem}
use Rattle.pci_spec.specs.Bus.{is_root, IsNested, LeadsTo}
use Rattle.settle_spec.specs.Lists.{Request}
use Rattle.settle_spec.specs.Parts.{FunctionPart, system_parts, addresses, class_in, lies_within}
use Rattle.settle_spec.specs.Stands.{window_part, stands}
use Rattle.settle_spec.specs.Items.{has_room_behind, stays}
use Rattle.settle_spec.specs.Kept.{as_it_stands}
use Rattle.settle_laws.specs.KeptApart.{IsKeptApart}
use Rattle.settle_laws.proofs.Apart.{apart_where_beside, in_root_lists, in_window_over}
use Rattle.settle_laws.proofs.Holding.{stays_by_bus}
use Rattle.settle_laws.proofs.There.{stands_where_holds}

module _ (q : Request) (s : System) (system : IsSystem s) (nested : IsNested q.roots s) where
  staying_stands : (r : FunctionPart) → stays q s r ≡ true → stands q s r ≡ true
  staying_stands r is = stands_where_holds q s r (and_parts (has_room_behind q s r) _ is).0

  in_window : (r : FunctionPart) (b : Function) → Contains (system_parts q s) r → stays q s r ≡ true → is_root q.roots r.function.slot.bus ≡ false → LeadsTo s b r.function.slot.bus
      → (lies_within (addresses r) (addresses (window_part (class_in q s r.function r.part) b)) ≡ true) × (stays q s (window_part (class_in q s r.function r.part) b) ≡ true)
  in_window r b listed is off leads =
      let w = window_part (class_in q s r.function r.part) b in
      ((in_window_over q s nested r listed (staying_stands r is) b system off leads).0, (and_parts (has_room_behind q s r) (stays q s w) (sym (stays_by_bus q s system nested r b leads) ∙ is)).1)

  pub standing_kept : IsKeptApart q s (as_it_stands q s)
  standing_kept = record {
    stands = staying_stands;
    apart = λ r t in_r in_t is_r is_t beside differ. apart_where_beside q s r t nested in_r in_t (staying_stands r is_r) (staying_stands t is_t) beside differ;
    lists = λ r listed is root. in_root_lists q s nested r listed (staying_stands r is) root;
    windows = in_window;
  }
