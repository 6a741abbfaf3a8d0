-- What is kept stands, is apart on its bus, and lies in the window over it.
use Rattle.settle_laws.specs.ToldAgainLaws.{AllLinesAreHeld}
use Rattle.std.proofs.Common.{◌≡◌, ◌≤◌, ℕ, true, false, length, arith, sym, ◌∙◌, ap, subst}
use Rattle.std.specs.List.{Contains}
use Rattle.std.specs.Bool.{IsTrue}
use Rattle.std.proofs.lemmas.Bool.{and_from, both_ways, false_from_ne_true}
use Rattle.pci_spec.specs.Window.{WindowKind}
use Rattle.pci_spec.specs.System.{System, Function, Part, Window, is_bridge}
use Rattle.pci_spec.specs.Bus.{is_root, are_siblings, secondary}
use Rattle.plan_spec.specs.Planning.Layout.{LieApart}
use Rattle.settle_spec.specs.Lists.{Request}
use Rattle.settle_spec.specs.Parts.{FunctionPart, system_parts, header_parts, addresses, class_in, is_part, are_same_space, lies_within}
use Rattle.settle_spec.specs.Stands.{rank, part_space, window_part, stands}
use Rattle.settle_spec.specs.Kept.{Kept}
use Rattle.settle_spec.proofs.Reaching.{within_gives}
use Rattle.settle_laws.proofs.Standing.{part_of, stands_by_itself}
use Rattle.settle_laws.proofs.There.{opened}
use Rattle.settle_laws.specs.Keeping.PlacesLaws.{CanSettle}
use Rattle.settle_laws.proofs.HeaderParts.{window_of}
use Rattle.settle_laws.proofs.Held.{same_itself}
use Rattle.settle_laws.proofs.KeptTaken.{items_aligned}
use Rattle.settle_laws.proofs.LowWindows.{windows_low}
use Rattle.settle_laws.proofs.Kept.{in_regions, lie_apart, off_roots, siblings_through}
use Rattle.plan_spec.specs.Plan.{bridges_above}
use Rattle.settle_laws.proofs.Climbs.{climbs}
use Rattle.settle_laws.proofs.Told.OnlyHeld.{none_stands}

module _ (q : Request) (s : System) (k : Kept) (can : CanSettle q s k) where
  pub stays_stands : (r : FunctionPart) → k.stays r ≡ true → stands q s r ≡ true
  stays_stands r is = can.sound.apart.stands r is

  pub stays_part : (r : FunctionPart) → Contains s r.function → k.stays r ≡ true → is_part q s r.function r.part ≡ true
  stays_part r listed is = (stands_by_itself q s can.nested).only r listed (stays_stands r is)

  pub stays_listed : (f : Function) (p : Part) → Contains s f → Contains (header_parts f) p → k.stays record { function = f; part = p } ≡ true → Contains (system_parts q s) record { function = f; part = p }
  stays_listed f p listed there is = in_regions q s f p listed there (stays_part record { function = f; part = p } listed is)

  -- what is kept beside one another is apart
  pub kept_apart : (bus : ℕ) (r t : FunctionPart) → Contains (system_parts q s) r → Contains (system_parts q s) t → k.stays r ≡ true → k.stays t ≡ true
      → are_siblings q.roots bus r.function.slot.bus ≡ true → are_siblings q.roots bus t.function.slot.bus ≡ true → part_space r ≡ part_space t → (rank r ≡ rank t → ⊥) → LieApart (k.range r) (k.range t)
  kept_apart bus r t in_r in_t is_r is_t with_r with_t spaces differ =
      lie_apart (k.range r) (k.range t)
      (can.sound.apart.apart r t in_r in_t is_r is_t
      (and_from (are_siblings q.roots r.function.slot.bus t.function.slot.bus) (are_same_space (part_space r) (part_space t))
      (siblings_through q.roots bus r.function.slot.bus t.function.slot.bus with_r with_t) (ap (are_same_space (part_space r)) (sym spaces) ∙ same_itself (part_space r))) differ)

  -- what is kept behind a bridge is in the window of its class, which is kept
  pub kept_over : (b : Function) → Contains s b → is_bridge b ≡ true → (r : FunctionPart) → Contains (system_parts q s) r → k.stays r ≡ true → secondary b ≡ r.function.slot.bus
      → (lies_within (k.range r) (k.range (window_part (class_in q s r.function r.part) b)) ≡ true) × (k.stays (window_part (class_in q s r.function r.part) b) ≡ true)
  kept_over b listed bridge r in_r is at =
      can.sound.apart.windows r b in_r is (subst (λ n. is_root q.roots n ≡ false) at (off_roots q s can.system can.nested b listed bridge)) (listed, bridge, at)

  -- a window that is kept has addresses
  pub kept_forward : (c : WindowKind) (b : Function) → Contains s b → k.stays (window_part c b) ≡ true → (k.range (window_part c b)).first ≤ (k.range (window_part c b)).last
  kept_forward c b listed keeps =
      let w = window_part c b in
      let part = in_regions q s b (Window c) listed (window_of b c) (stays_part w listed keeps) in
      let own = (opened q s can.system can.nested (windows_low q s can.system can.nested can.profile) (items_aligned q s k) c b record { part = part; stands = stays_stands w keeps }).forward in
      let around = within_gives (addresses w) (k.range w) (can.sound.holds w) in
      let first = around.first in
      let last = around.last in
      omega (arith, own, first, last)

  -- where a part is kept, so is the window of its class of each bridge above it
  record IsKeptPart (r : FunctionPart) : Type 0 where
    listed : Contains (system_parts q s) r
    keeps : k.stays r ≡ true

  kept_above : (r : FunctionPart) → IsKeptPart r → (b : Function) → Contains (bridges_above s r.function.slot.bus) b → IsKeptPart (window_part (class_in q s r.function r.part) b)
  kept_above r is b above = climbs q s can.system can.nested IsKeptPart
      (λ t d in_t at leads.
      let over = (kept_over d leads.0 leads.1 t at.listed at.keeps leads.2).1 in
      record { listed = stays_listed d (Window (class_in q s t.function t.part)) leads.0 (window_of d (class_in q s t.function t.part)) over; keeps = over })
      r (part_of q s r is.listed).listed is b above

  pub above_stays : (f : Function) (p : Part) → Contains s f → Contains (header_parts f) p → k.stays record { function = f; part = p } ≡ true
      → (b : Function) → Contains (bridges_above s f.slot.bus) b → k.stays (window_part (class_in q s f p) b) ≡ true
  above_stays f p listed there keeps b above = (kept_above record { function = f; part = p } record { listed = stays_listed f p listed there keeps; keeps = keeps } b above).keeps

-- where all is placed anew nothing is kept, if all lines are `held`
pub none_kept : (q : Request) → AllLinesAreHeld q → (s : System) (k : Kept) → CanSettle q s k → IsTrue q.anew → (r : FunctionPart) → k.stays r ≡ false
none_kept q held s k can anew r =
    false_from_ne_true (k.stays r) (λ is. both_ways (stands q s r) (none_stands q s anew held (length (system_parts q s)) r) (stays_stands q s k can r is))
