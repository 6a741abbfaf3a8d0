-- The windows of its class above a part that stands hold it, and stand.
use Rattle.std.proofs.Common.{◌≡◌, true, ◌&&◌, not, arith}
use Rattle.std.specs.List.{Contains}
use Rattle.std.proofs.lemmas.Bool.{and_parts, false_from_ne_true}
use Rattle.pci_spec.specs.Window.{has_window, is_closed}
use Rattle.pci_spec.specs.System.{System, Function, IsSystem, is_bridge}
use Rattle.pci_spec.specs.Bus.{is_root, IsNested, LeadsTo}
use Rattle.plan_spec.specs.Plan.{bridges_above}
use Rattle.settle_spec.specs.Lists.{Request}
use Rattle.settle_spec.specs.Parts.{FunctionPart, system_parts, addresses, class_in, lies_within}
use Rattle.settle_spec.specs.Stands.{window_part, stands}
use Rattle.settle_spec.proofs.Nested.{at_secondary, is_no_root}
use Rattle.settle_spec.proofs.Reaching.{lies_in_trans, within_gives, within_from}
use Rattle.settle_laws.proofs.Apart.{in_window_over}
use Rattle.settle_laws.proofs.Standing.{part_of, window_listed, stands_by_itself}
use Rattle.settle_laws.proofs.Climbs.{climbs}

module _ (q : Request) (s : System) (system : IsSystem s) (nested : IsNested q.roots s) (r : FunctionPart) (in_r : Contains (system_parts q s) r) (stand : stands q s r ≡ true) where
  -- a part that stands holds it
  pub record IsAround (w : FunctionPart) : Type 0 where
    pub listed : Contains (system_parts q s) w
    pub stands : stands q s w ≡ true
    pub within : lies_within (addresses r) (addresses w) ≡ true

  step : (t : FunctionPart) (d : Function) → Contains s t.function → IsAround t → LeadsTo s d t.function.slot.bus → IsAround (window_part (class_in q s t.function t.part) d)
  step t d in_t is leads =
      let c = class_in q s t.function t.part in
      let off = false_from_ne_true (is_root q.roots t.function.slot.bus) (is_no_root q.roots s system nested d t.function.slot.bus leads.0 leads.1 (at_secondary q.roots s system nested d t.function.slot.bus leads.0 leads.1 leads.2)) in
      let over = in_window_over q s nested t is.listed is.stands d system off leads in
      record {
        listed = window_listed q s c d leads.0 ((stands_by_itself q s nested).only (window_part c d) leads.0 over.1);
        stands = over.1;
        within = within_from (addresses r) (addresses (window_part c d)) (lies_in_trans (addresses r) (addresses t) (addresses (window_part c d)) (within_gives (addresses r) (addresses t) is.within) (within_gives (addresses t) (addresses (window_part c d)) over.0));
      }

  pub record IsOver (b : Function) : Type 0 where
    pub within : lies_within (addresses r) (addresses (window_part (class_in q s r.function r.part) b)) ≡ true
    pub there : has_window (class_in q s r.function r.part) b.probe ≡ true

  -- so each window of its class above it does
  pub around_above : (b : Function) → Contains (bridges_above s r.function.slot.bus) b → IsAround (window_part (class_in q s r.function r.part) b)
  around_above b above =
      climbs q s system nested IsAround step r (part_of q s r in_r).listed record { listed = in_r; stands = stand; within = within_from (addresses r) (addresses r) (record { first = omega arith; last = omega arith }) } b above

  pub standing_above : (b : Function) → Contains (bridges_above s r.function.slot.bus) b → IsOver b
  standing_above b above =
      let c = class_in q s r.function r.part in
      let at = around_above b above in
      let is = (part_of q s (window_part c b) at.listed).is in
      record { within = at.within; there = (and_parts (is_bridge b) (has_window c b.probe) (and_parts (is_bridge b && has_window c b.probe) (not (is_closed c b.image)) is).0).1 }
