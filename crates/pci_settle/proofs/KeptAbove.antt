-- Of which classes all windows stay of the bridges above a bus, in one pass over the records in slot order.
use Rattle.std.proofs.Common.{◌≡◌, ℕ, ◌+◌, ◌≤◌, List, length, set, get_or, replicate, true, false, ◌&&◌, refl, sym, ◌∙◌, ap, subst, None, Some}
use Rattle.std.specs.Option.{is_some}
use Rattle.std.specs.List.{Contains, slice_get}
use Rattle.std.proofs.lemmas.List.{take_all}
use Rattle.pci_spec.specs.Decoded as decoded
use Rattle.pci_spec.specs.Window.{WindowKind, IoWindow, MemoryWindow, PrefetchWindow}
use Rattle.pci_spec.specs.System.{System, Function, Window, IsSystem, is_bridge}
use Rattle.pci_spec.specs.Bus.{secondary, IsNested}
use Rattle.plan_spec.proofs.Planning.AboveBuses.{all_above_root}
use Rattle.settle_spec.specs.Lists.{Request}
use Rattle.settle_spec.specs.Stands.{window_part}
use Rattle.settle_spec.specs.Kept.{Kept as Keeping}
use Rattle.pci_function.specs.declared.record.Bridge.{Bridge}
use Rattle.pci_function.specs.declared.record.Record.{Record}
use Rattle.pci_tree.proofs.Lifting.{same_bridge}
use Rattle.pci_tree.proofs.RegionParts.{same_bridge_of}
use Rattle.pci_place.specs.Records.{IsRecordInSystem}
use Rattle.pci_place.proofs.BusTables.{AreTo, none_yet, of_bus, same_after, put_after}
use Rattle.pci_first_fit.specs.declared.kept.Kept.{Kept}
use Rattle.pci_settle_places.specs.Images.{is_staying_window}
use Rattle.pci_settle.specs.declared.way.ByClass.{ByClass}
use Rattle.pci_settle.specs.Shut.{in_class}
use Rattle.pci_settle.specs.Told.{IsTableOf}
use Rattle.pci_settle.specs.ToldEndings.{are_kept_above, AreKeptAbove}
use Rattle.pci_settle.proofs.StagedWrites.{kept_window}
use Rattle.pci_settle.proofs.Ways.{one_more}

-- a table tells it of a bus
abbrev pub IsKeptAbove : System → Keeping → ℕ → ByClass → Type 0
IsKeptAbove s keep bus way = (c : WindowKind) → in_class way c ≡ are_kept_above s keep c bus

abbrev pub all_classes : ByClass
all_classes = record { io = true; memory = true; prefetchable = true }

all_hold : (c : WindowKind) → in_class all_classes c ≡ true
all_hold IoWindow = refl
all_hold MemoryWindow = refl
all_hold PrefetchWindow = refl

module _ (roots : List ℕ) (s : System) (keep : Keeping) (system : IsSystem s) (nested : IsNested roots s) where
  pub none_above : AreTo (IsKeptAbove s keep) roots s 0 (replicate 256 all_classes)
  none_above = none_yet (IsKeptAbove s keep) roots s system nested all_classes
      (λ bus root c. all_hold c ∙ sym (all_above_root roots s system nested (λ b. keep.stays (window_part c b)) bus root))

  pub all_above_are : (q : Request) (k : ℕ) (ways : List ByClass) → q.roots ≡ roots → AreTo (IsKeptAbove s keep) roots s k ways → length s ≤ k → AreKeptAbove q s keep ways
  all_above_are q k ways same to done = record {
    on_roots = λ bus d c root small. to.on_roots bus d (subst (λ rs. Contains rs bus) same root) small c;
    behind = λ b d c listed bridge. to.behind b d (subst (λ fs. Contains fs b) (sym (take_all k s done)) listed) bridge c;
  }

  module _ (table : List Kept) (told : IsTableOf s keep.stays table) (k : ℕ) (f : Function) (r : Record) (at : slice_get s k ≡ Some f) (is : IsRecordInSystem s f r) (ways : List ByClass) (was : AreTo (IsKeptAbove s keep) roots s k ways) where
    pub same_ways : r.bridge ≡ None → AreTo (IsKeptAbove s keep) roots s (k + 1) ways
    same_ways none =
        let off : is_bridge f ≡ false = sym (same_bridge r f is.value) ∙ ap is_some none in
        same_after (IsKeptAbove s keep) roots s system nested k f at ways was off

    pub more_ways : (b : Bridge) → r.bridge ≡ Some b → (to : ℕ) → to ≡ b.secondary → (d next : ByClass) (n : Kept)
        → ((c : WindowKind) → in_class next c ≡ (in_class (get_or ways f.slot.bus d) c && is_staying_window (get_or table k n).windows c)) → AreTo (IsKeptAbove s keep) roots s (k + 1) (set ways to next)
    more_ways b some to to_is d next n both =
        let bridge : is_bridge f ≡ true = sym (same_bridge r f is.value) ∙ ap is_some some in
        let leads : to ≡ secondary f = to_is ∙ ap (λ (x : decoded.Bridge). x.secondary) (same_bridge_of r f b is.value some) in
        put_after (IsKeptAbove s keep) roots s system nested k f at ways was to next bridge leads
        (λ c. one_more roots s system nested f is.listed bridge (λ g. keep.stays (window_part c g)) (in_class (get_or ways f.slot.bus d) c) (is_staying_window (get_or table k n).windows c) (in_class next c)
        (of_bus (IsKeptAbove s keep) roots s system nested k f at ways was d c) (kept_window (get_or table k n) c ∙ told.each k f n (Window c) at bridge) (both c))
