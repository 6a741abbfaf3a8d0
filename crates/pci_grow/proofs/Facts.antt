-- What is known of a window and its bridge, by records.
use Rattle.std.proofs.Common.{◌≡◌, ℕ, zero, suc, ◌<◌, List, [], ◌∷◌, length, get_or, false, true, arith, ap, sym, subst, refl, ◌∙◌, inl, inr, Option, Some, None, IfSome}
use Rattle.std.specs.Option.{is_some}
use Rattle.std.proofs.lemmas.Bool.{cases_Bool, eqb-true}
use Rattle.std.proofs.lemmas.Option.{get_or_from_slice_get}
use Rattle.pci_spec.specs.Header.{layout}
use Rattle.pci_spec.specs.Window.{WindowKind, IoWindow, MemoryWindow, PrefetchWindow, has_window}
use Rattle.pci_spec.specs.Decoded.{record_of, optional_window}
use Rattle.pci_spec.specs.Decoded as decoded
use Rattle.pci_spec.specs.System.{System, Function, is_bridge}
use Rattle.pci_spec.specs.Bus.{secondary, subordinate}
use Rattle.pci_spec.proofs.Records.{memory_window_there}
use Rattle.settle_spec.specs.Lists.{Request}
use Rattle.settle_spec.specs.Parts.{bridge_over}
use Rattle.settle_spec.proofs.BridgeOver.{over_leads, over_is}
use Rattle.pci_image.specs.Windows.{window_of}
use Rattle.pci_function.specs.declared.record.Bridge.{Bridge}
use Rattle.pci_function.specs.declared.record.Record.{Record}
use Rattle.pci_function.specs.Values.{record_value}
use Rattle.pci_tree.specs.Ways.{IsBridgeToBus, bus_behind}
use Rattle.pci_tree.proofs.Lifting.{record_for, same_bridge, same_secondary, same_slot_of}
use Rattle.pci_tree.proofs.RegionParts.{same_bridge_of}
use Rattle.pci_tree.proofs.Ways.{no_bridge, some_bridge}
use Rattle.pci_place.specs.Items.{no_function, function_in}
use Rattle.pci_place.specs.Records.{IsRecordInSystem}
use Rattle.pci_place.proofs.Records.{function_read, same_count}
use Rattle.pci_grow.specs.declared.board.Board.{Board}
use Rattle.pci_grow.specs.declared.board.BridgeWindow.{BridgeWindow}
use Rattle.pci_grow.specs.declared.board.Facts.{Facts}
use Rattle.pci_first_fit.specs.NewWindows.{highest_by}
use Rattle.pci_grow.specs.Board.{IsAsked, bridge_of_window, window_class, AreFacts, IsBridgeIndexOver}
use Rattle.pci_first_fit.proofs.Highest.{highest_is}

-- what stands at an index
pub item_at : {X : Type 0} (xs : List X) (k : ℕ) → k < length xs → (x : X) × (x ≡ get_or xs k x)
item_at [] k within = absurd (let no : ⊥ = omega (arith, within) in no)
item_at (x ∷ xs) zero within = (x, refl)
item_at (x ∷ xs) (suc k) within = item_at xs k (omega (arith, within))

some_window : (kind : WindowKind) (image probe : List ℕ) → is_some (optional_window kind image probe) ≡ has_window kind probe
some_window kind image probe = elim (cases_Bool (has_window kind probe)) [
  | inl there ↦ rw there refl
  | inr absent ↦ rw absent refl
]

-- whether a window is there
there_is : (r : Record) (f : Function) (d : Bridge) → decoded.IsDecodable f → record_value r ≡ record_of f → r.bridge ≡ Some d → (c : WindowKind) → is_some (window_of d.windows c) ≡ has_window c f.probe
there_is r f d decodable value there IoWindow = ap (λ (x : decoded.Bridge). is_some x.windows.io) (same_bridge_of r f d value there) ∙ some_window IoWindow f.image f.probe
there_is r f d decodable value there MemoryWindow =
    let bridge : is_bridge f ≡ true = sym (same_bridge r f value) ∙ ap is_some there in
    sym (memory_window_there f.image f.probe (decodable.windows MemoryWindow (eqb-true (layout f.image) 1 bridge)))
there_is r f d decodable value there PrefetchWindow = ap (λ (x : decoded.Bridge). is_some x.windows.prefetch) (same_bridge_of r f d value there) ∙ some_window PrefetchWindow f.image f.probe

module _ (q : Request) (s : System) (b : Board) (asked : IsAsked q s b) where
  abbrev records : List Record
  records = b.records.now

  pub long : length s ≡ length records
  long = same_count s records asked.has

  -- the function at the index of a record
  pub record_at : (k : ℕ) (r : Record) → k < length records → r ≡ get_or records k r → IsRecordInSystem s (function_in s k) r
  record_at k r within read =
      let found = function_read s records refl asked.has k r within read in
      subst (λ f. IsRecordInSystem s f r) (sym (get_or_from_slice_get s k found.f no_function found.at)) found.is

  -- the bus that it is on
  pub bus_at : (k : ℕ) (r : Record) → k < length records → r ≡ get_or records k r → r.slot.bus ≡ (function_in s k).slot.bus
  bus_at k r within read = ap (λ x. x.bus) (same_slot_of r (function_in s k) (record_at k r within read).value)

  pub facts_are : (w : BridgeWindow) (r : Record) → w.bridge < length records → r ≡ get_or records w.bridge r → (d : Bridge) → r.bridge ≡ Some d → (facts : Facts)
      → facts.bus ≡ r.slot.bus → facts.behind ≡ d.secondary → facts.there ≡ is_some (window_of d.windows (window_class w)) → facts.fixed ≡ get_or b.fixed.now w.bridge false → facts.highest ≡ highest_by (window_class w) d.windows
      → AreFacts q (window_class w) (bridge_of_window s w) facts
  facts_are w r within read d there facts bus behind is_there fixed highest =
      let is = record_at w.bridge r within read in
      let f = bridge_of_window s w in
      let size = long in
      record {
        bridge = sym (same_bridge r f is.value) ∙ ap is_some there;
        bus = bus ∙ ap (λ x. x.bus) (same_slot_of r f is.value);
        behind = behind ∙ ap (λ (x : decoded.Bridge). x.secondary) (same_bridge_of r f d is.value there);
        there = is_there ∙ there_is r f d is.decodable is.value there (window_class w);
        fixed = fixed ∙ asked.fixed w.bridge (omega (arith, within, size));
        highest = highest ∙ highest_is r f d is.value there (window_class w);
      }

  pub slot_at : (k : ℕ) (r : Record) → k < length records → r ≡ get_or records k r → r.slot ≡ (function_in s k).slot
  slot_at k r within read = same_slot_of r (function_in s k) (record_at k r within read).value

  -- the buses behind a bridge
  pub buses_are : (w : BridgeWindow) (r : Record) → w.bridge < length records → r ≡ get_or records w.bridge r → (d : Bridge) → r.bridge ≡ Some d
      → (secondary (bridge_of_window s w) ≡ d.secondary) × (subordinate (bridge_of_window s w) ≡ d.subordinate)
  buses_are w r within read d there =
      let is = record_at w.bridge r within read in
      let same = same_bridge_of r (bridge_of_window s w) d is.value there in
      (sym (ap (λ (x : decoded.Bridge). x.secondary) same), sym (ap (λ (x : decoded.Bridge). x.subordinate) same))

  -- a function without bridge numbers is no bridge
  pub no_facts : (w : BridgeWindow) (r : Record) → w.bridge < length records → r ≡ get_or records w.bridge r → r.bridge ≡ None → is_bridge (bridge_of_window s w) ≡ false
  no_facts w r within read none = sym (same_bridge r (bridge_of_window s w) (record_at w.bridge r within read).value) ∙ ap is_some none

  pub over_of : (bus : ℕ) → bus < 256 → (o : Option ℕ) → get_or b.over.now bus None ≡ o → IsBridgeIndexOver s bus o
  over_of bus small None at = elim (bridge_over s bus) as (λ (o : Option Function). bridge_over s bus ≡ o → o ≡ None) [
    | None ↦ λ e. refl
    | Some f ↦ λ e.
        let leads = over_leads s bus f e in
        let r = record_for s records f asked.has leads.0 in
        absurd (no_bridge records bus (get_or b.over.now bus None) at (asked.over bus small) r.0 (record { has = r.1.has; is = same_bridge r.0 f r.1.same ∙ leads.1 }) (same_secondary r.0 f r.1.same leads.1 ∙ leads.2))
  ] refl
  over_of bus small (Some k) at =
      let leads = some_bridge records bus (get_or b.over.now bus None) k at (asked.over bus small) in
      let r : (r : Record) × (r ≡ get_or records k r) = item_at records k leads.within in
      let is = record_at k r.0 leads.within r.1 in
      let on : is_some r.0.bridge ≡ true = subst (λ (x : Record). is_some x.bridge ≡ true) (sym r.1) (leads.bridge r.0) in
      let to : bus_behind r.0 ≡ bus = subst (λ (x : Record). bus_behind x ≡ bus) (sym r.1) (leads.there r.0) in
      let bridge : is_bridge (function_in s k) ≡ true = sym (same_bridge r.0 (function_in s k) is.value) ∙ on in
      let size = long in
      let within = leads.within in (
        omega (arith, within, size),
        over_is q.roots s asked.system asked.nested bus (function_in s k) (is.listed, bridge, sym (same_secondary r.0 (function_in s k) is.value bridge) ∙ to),
      )

-- the bridge over a bus is one of the functions
pub over_within : (b : Board) → IsBridgeToBus b.records.now b.over.now → (bus : ℕ) → bus < 256 → (o : Option ℕ) → get_or b.over.now bus None ≡ o → IfSome o (λ k. k < length b.records.now)
over_within b over bus small None at = tt
over_within b over bus small (Some k) at = (some_bridge b.records.now bus (get_or b.over.now bus None) k at (over bus small)).within
