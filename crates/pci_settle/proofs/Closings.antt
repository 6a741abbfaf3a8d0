-- What closing leaves of each function, in one pass over the records in slot order.
use Rattle.std.proofs.Common.{◌≡◌, ℕ, ◌+◌, ◌≤◌, List, [], ◌∷◌, ◌++◌, map, length, take, set, get_or, replicate, true, false, ◌&&◌, ◌||◌, not, refl, sym, ◌∙◌, ap, subst, None, Some}
use Rattle.std.specs.Option.{is_some}
use Rattle.std.specs.List.{Contains, slice_get}
use Rattle.std.proofs.lemmas.List.{map-append, take_all, take_more}
use Rattle.std.proofs.lemmas.Option.{slice_get_within, get_or_from_slice_get}
use Rattle.pci_spec.specs.Decoded as decoded
use Rattle.pci_spec.specs.Text.{Block}
use Rattle.pci_spec.specs.Window.{WindowKind}
use Rattle.pci_spec.specs.System.{System, Function, Space, Window, IsSystem, is_bridge}
use Rattle.pci_spec.specs.Bus.{secondary, IsNested}
use Rattle.settle_spec.specs.Lists.{Request}
use Rattle.settle_spec.specs.Stands.{window_part}
use Rattle.settle_spec.specs.Kept.{Kept, unwished}
use Rattle.settle_spec.specs.Keeping.Registers.{settled_function}
use Rattle.settle_spec.specs.Keeping.Writes.{changes_window, is_shut_itself, closing_command, is_replaced}
use Rattle.pci_base.specs.Space.{is_on}
use Rattle.pci_function.specs.declared.record.Bridge.{Bridge}
use Rattle.pci_function.specs.declared.record.Record.{Record}
use Rattle.pci_tree.proofs.Lifting.{same_bridge}
use Rattle.pci_tree.proofs.RegionParts.{same_bridge_of}
use Rattle.pci_place.specs.Records.{IsRecordInSystem}
use Rattle.pci_place.proofs.BusTables.{AreTo, none_yet, of_bus, same_after, put_after}
use Rattle.pci_settle_places.specs.Images.{is_staying_window}
use Rattle.pci_settle.specs.declared.closed.Closing.{Closing}
use Rattle.pci_settle.specs.declared.shut.Around.{Around}
use Rattle.pci_settle.specs.declared.way.BySpace.{BySpace}
use Rattle.pci_settle.specs.declared.way.ByClass.{ByClass}
use Rattle.pci_settle.specs.declared.way.Way.{Way}
use Rattle.pci_settle.specs.Shut.{IsWay, IsAroundFunction, flag_in_space, in_class, flags_by_class, changed_window, is_shut_by, closing_by, closing_in, AreClosings}
use Rattle.pci_settle.specs.ToldEndings.{AreClearAbove}
use Rattle.pci_settle.specs.Stages.{AreOf, AreSettledBlocks}
use Rattle.pci_settle.proofs.StagedWrites.{same_at, kept_window}
use Rattle.pci_settle.proofs.Ways.{no_way, on_root, behind_bridge}
use Rattle.pci_settle.proofs.Moving.{itself_is, shut_is, closing_is}
use Rattle.pci_settle.proofs.ChangedWindows.{class_of_test, same_classes, changed_there, closed_there}

-- the first k functions are passed
pub record AreClosedTo (q : Request) (roots : List ℕ) (s : System) (keep : Kept) (k : ℕ) (ways : List Way)
    (closings : List Closing) : Type 0 where
  pub marks : AreTo (IsWay q s keep) roots s k ways
  pub values : closings ≡ map (closing_in q s keep) (take k s)

module _ (q : Request) (roots : List ℕ) (s : System) (keep : Kept) (system : IsSystem s) (nested : IsNested roots s) where
  pub none_closed : AreClosedTo q roots s keep 0 (replicate 256 no_way) []
  none_closed = record { marks = none_yet (IsWay q s keep) roots s system nested _ (λ bus root. on_root roots q s keep system nested bus root); values = refl }

  pub all_closed : (k : ℕ) (ways : List Way) (closings : List Closing) → AreClosedTo q roots s keep k ways closings → length s ≤ k → AreClosings q s keep closings
  all_closed k ways closings to done = to.values ∙ ap (map (closing_in q s keep)) (take_all k s done)

  -- the marks tell of each bus whether a bridge above it is shut
  pub all_clear : (k : ℕ) (ways : List Way) (closings : List Closing) → AreClosedTo q roots s keep k ways closings → length s ≤ k → q.roots ≡ roots → AreClearAbove q s keep ways
  all_clear k ways closings to done same = record {
    system = system;
    nested = subst (λ rs. IsNested rs s) (sym same) nested;
    on_roots = λ bus d x root small. (to.marks.on_roots bus d (subst (λ rs. Contains rs bus) same root) small).clear x;
    behind = λ b d x listed bridge. (to.marks.behind b d (subst (λ fs. Contains fs b) (sym (take_all k s done)) listed) bridge).clear x;
  }

  -- ---- the next function

  module _ (k : ℕ) (f : Function) (r : Record) (at : slice_get s k ≡ Some f) (is : IsRecordInSystem s f r) where
    -- its blocks show its images
    pub start_image : (start : List Block) (b : Block) → b ≡ get_or start k b → AreOf s start → b.image ≡ f.image
    start_image start b b_at of = same_at (λ (x : Block). x.image) (λ (x : Function). x.image) start s of.images k b f (slice_get_within s k f at) b_at (sym (get_or_from_slice_get s k f f at))

    pub settled_image : (j : Kept) (settled : List Block) (n : Block) → n ≡ get_or settled k n → AreSettledBlocks q s j settled → n.image ≡ (settled_function q s j f).image
    settled_image j settled n n_at new =
        same_at (λ (x : Block). x.image) (λ (x : Function). (settled_function q s j x).image) settled s new k n f (slice_get_within s k f at) n_at (sym (get_or_from_slice_get s k f f at))

    -- what is above its bus
    pub way_at : (ways : List Way) (closings : List Closing) → AreClosedTo q roots s keep k ways closings → (d : Way) → IsWay q s keep f.slot.bus (get_or ways f.slot.bus d)
    way_at ways closings was d = of_bus (IsWay q s keep) roots s system nested k f at ways was.marks d

    module _ (o : Around) (around : IsAroundFunction q s keep f o) (old plain new : List ℕ)
        (old_is : old ≡ f.image) (plain_is : plain ≡ (settled_function q s (unwished keep) f).image) (new_is : new ≡ (settled_function q s keep f).image)
        (itself shut : BySpace) (itself_by : (x : Space) → flag_in_space itself x ≡ is_shut_by o x old new r) (shut_by : (x : Space) → flag_in_space shut x ≡ (flag_in_space itself x || not (flag_in_space o.way.clear x)))
        (changed windows : ByClass) (changed_by : changed ≡ flags_by_class (changed_window r.bridge old plain new)) (windows_by : (c : WindowKind) → in_class windows c ≡ (not (is_staying_window o.kept.now.windows c) && in_class changed c))
        (ways : List Way) (closings cs : List Closing) (was : AreClosedTo q roots s keep k ways closings) (cs_is : cs ≡ closings ++ record { command = closing_by o r shut; windows = windows } ∷ []) where
      itself_same : (x : Space) → flag_in_space itself x ≡ is_shut_itself q s keep x f
      itself_same x = itself_by x ∙ itself_is q s keep f r is o around old new old_is new_is x

      changed_same : (c : WindowKind) → in_class changed c ≡ changed_window r.bridge old plain new c
      changed_same c = ap (λ x. in_class x c) changed_by ∙ class_of_test (changed_window r.bridge old plain new) c

      -- its Command, and its windows
      abbrev made : ℕ → ByClass → Closing
      made command windows = record { command = command; windows = windows }

      closing_same : made (closing_by o r shut) windows ≡ closing_in q s keep f
      closing_same =
          let kept : is_bridge f ≡ true → (c : WindowKind) → is_staying_window o.kept.now.windows c ≡ keep.stays (window_part c f) = λ bridge c. kept_window o.kept.now c ∙ around.kept (Window c) bridge in
          ap (λ n. made n windows) (closing_is q s keep f r is o around shut (shut_is q s keep f r is o around itself shut itself_same shut_by))
          ∙ ap (made (closing_command q s keep f)) (same_classes windows (is_replaced q s keep f)
          (λ c. windows_by c ∙ ap (λ x. not (is_staying_window o.kept.now.windows c) && x) (changed_same c) ∙ closed_there q s keep f r is old plain new old_is plain_is new_is o.kept.now.windows kept c))

      values_more : cs ≡ map (closing_in q s keep) (take (k + 1) s)
      values_more =
          let here = get_or_from_slice_get s k f f at in
          cs_is ∙ ap (λ xs. xs ++ made (closing_by o r shut) windows ∷ []) was.values
          ∙ ap (λ c. map (closing_in q s keep) (take k s) ++ c ∷ []) closing_same
          ∙ sym (map-append (closing_in q s keep) (take k s) (f ∷ []))
          ∙ ap (λ g. map (closing_in q s keep) (take k s ++ g ∷ [])) (sym here)
          ∙ sym (ap (map (closing_in q s keep)) (take_more s k f (slice_get_within s k f at)))

      pub closed_same : r.bridge ≡ None → AreClosedTo q roots s keep (k + 1) ways cs
      closed_same none =
          let off : is_bridge f ≡ false = sym (same_bridge r f is.value) ∙ ap is_some none in
          record { marks = same_after (IsWay q s keep) roots s system nested k f at ways was.marks off; values = values_more }

      pub closed_more : (b : Bridge) → r.bridge ≡ Some b → (to : ℕ) → to ≡ b.secondary → (next : Way)
          → ((x : Space) → flag_in_space next.on x ≡ (flag_in_space o.way.on x && is_on r.command x)) → ((x : Space) → flag_in_space next.clear x ≡ (flag_in_space o.way.clear x && not (flag_in_space itself x)))
          → ((c : WindowKind) → in_class next.same c ≡ (in_class o.way.same c && not (in_class changed c))) → AreClosedTo q roots s keep (k + 1) (set ways to next) cs
      closed_more b some to to_is next on clear stay =
          let bridge : is_bridge f ≡ true = sym (same_bridge r f is.value) ∙ ap is_some some in
          let leads : to ≡ secondary f = to_is ∙ ap (λ (x : decoded.Bridge). x.secondary) (same_bridge_of r f b is.value some) in
          let changes : (c : WindowKind) → in_class changed c ≡ changes_window q s keep c f = λ c.
          changed_same c ∙ ap (λ o. changed_window o old plain new c) some ∙ changed_there q s keep f r is old plain new old_is plain_is new_is b some c in
          record {
            marks = put_after (IsWay q s keep) roots s system nested k f at ways was.marks to next bridge leads
                (behind_bridge roots q s keep system nested f r is bridge o.way next itself changed around.way itself_same changes on clear stay);
            values = values_more;
          }
