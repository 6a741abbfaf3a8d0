-- The new windows of bridges, in one pass over the records from the highest slot down.
use Rattle.std.proofs.Common.{◌≡◌, ℕ, ◌+◌, ◌-◌, ◌^◌, ◌<◌, ◌≤◌, inl, inr, List, length, map, set, replicate, get_or, refl, Bool, true, false, cond, arith, sym, ◌∙◌, ap, subst, Option, Some, None}
use Rattle.std.specs.Bool.{nat_lt}
use Rattle.std.specs.Option.{is_some, IfSome, option_map}
use Rattle.std.specs.List.{Contains, slice_get}
use Rattle.std.proofs.lemmas.Bool.{cases_eq, cases_lt, both_ways, lt-ltb, le-ltb}
use Rattle.std.proofs.lemmas.List.{length-set, get_or-replicate, get_or-set_same, get_or-set_other, get_or_past}
use Rattle.std.proofs.lemmas.List.Elements.{All-contains, All-replicate}
use Rattle.std.proofs.lemmas.Option.{slice_get_within, slice_get-get_or, slice_get_read, get_or_from_slice_get}
use Rattle.pci_spec.specs.Slot.{slot_number}
use Rattle.pci_spec.specs.Window.{WindowKind, page_size}
use Rattle.pci_spec.specs.System.{System, Function, IsFunction, IsSystem, is_bridge}
use Rattle.pci_spec.specs.Bus.{secondary, are_siblings, IsNested}
use Rattle.pci_spec.proofs.Members.{in_map_from}
use Rattle.pci_spec.specs.Decoded.{HasRecords}
use Rattle.pci_spec.specs.Decoded as decoded
use Rattle.plan_spec.proofs.Planning.Safe.{slots_of, order_of}
use Rattle.plan_spec.proofs.Planning.AllItems.{slots_rise}
use Rattle.settle_spec.specs.FirstPlace.{Extent as ExtentValue}
use Rattle.settle_spec.specs.Lists.{Request}
use Rattle.settle_spec.specs.Parts.{bridge_over}
use Rattle.settle_spec.specs.Spares.{spare_below, with_spare}
use Rattle.settle_spec.specs.Items.{PlacingItem as ItemValue, has_of, bus_items, nothing, highest_in, extent_around, window_around, new_window, new_window_over, window_to}
use Rattle.settle_spec.proofs.Nested.{on_it, one_bridge}
use Rattle.settle_spec.proofs.NewWindows.{window_is_around}
use Rattle.settle_spec.proofs.ItemsBehind.{items_are_behind}
use Rattle.settle_spec.proofs.BridgeOver.{over_leads, none_leads}
use Rattle.pci_function.specs.declared.record.Bridge.{Bridge}
use Rattle.pci_function.specs.declared.record.Record.{Record}
use Rattle.pci_function.specs.Values.{record_value}
use Rattle.pci_tree.proofs.Lifting.{same_bridge, same_slot_of}
use Rattle.pci_tree.proofs.RegionParts.{same_bridge_of}
use Rattle.pci_place.specs.Items.{function_in, no_function}
use Rattle.pci_place.specs.Records.{IsRecordInSystem}
use Rattle.pci_place.proofs.Records.{FunctionAt, same_count, function_at}
use Rattle.pci_first_fit.specs.declared.extent.Extent.{Extent}
use Rattle.pci_first_fit.specs.Spots.{extent_value, IsExtent}
use Rattle.pci_first_fit.specs.Placings.{item_extent}
use Rattle.pci_first_fit.specs.Slots.{wanted_at, spare_by}
use Rattle.pci_first_fit.specs.Own.{IsWindowOf}
use Rattle.pci_first_fit.specs.Buses.{AreWindows, AreBehind, Classing, TellsClasses}
use Rattle.pci_first_fit.specs.NewWindows.{highest_by, around_bus, nowhere, IsEntry, IsNewWindowPut, new_window_in, IsTooLarge, IsLastTooLarge, first_large, AreNewWindows, IsMarkedOf, AreMarkedWindows, new_window_extent}
use Rattle.pci_first_fit.proofs.Highest.{highest_is}
use Rattle.pci_first_fit.proofs.Spares.{spare_is, before_spare}
use Rattle.pci_first_fit.proofs.Marked.{told_is, marked_is, IsSameOrOver, told_fits, AreSameOrLarge, same_or_large, around_large, around_mark, some_page}

-- ---- the table

-- what the entry of a bridge is, by whether something is behind it, and by its new window
abbrev Entry : Type 1
Entry = Bool → ExtentValue → Option Extent → Type 0

-- the table has the windows of the functions from place k on, and nothing where no bridge leads
pub record AreEntriesFrom (E : Entry) (p : Classing) (c : WindowKind) (k : ℕ) (windows : List (Option Extent)) : Type 0 where
  pub size : length windows ≡ 256
  pub each : (q : Request) → TellsClasses p q → (j : ℕ) (g : Function) → k ≤ j → slice_get p.system j ≡ Some g → is_bridge g ≡ true
      → E (has_of q p.system c g) (new_window q p.system c g) (get_or windows (secondary g) None)
  pub none : (bus : ℕ) → bridge_over p.system bus ≡ None → get_or windows bus None ≡ None
  pub lawful : AreWindows windows

abbrev AreWindowsFrom : Classing → WindowKind → ℕ → List (Option Extent) → Type 0
AreWindowsFrom p c k windows = AreEntriesFrom IsWindowOf p c k windows

abbrev AreMarkedFrom : Classing → WindowKind → ℕ → List (Option Extent) → Type 0
AreMarkedFrom p c k windows = AreEntriesFrom IsMarkedOf p c k windows

-- a bridge from place k on is named, and the windows of those after it are marked
pub record IsNamedFrom (p : Classing) (c : WindowKind) (k : ℕ) (windows : List (Option Extent)) (j : ℕ) : Type 0 where
  pub up : k ≤ j
  pub marked : AreMarkedFrom p c k windows
  pub last : (q : Request) → TellsClasses p q → IsLastTooLarge q p.system c windows j

-- so far the table has all windows, or a bridge is named
abbrev pub AreWindowsOrLarge : Classing → WindowKind → ℕ → List (Option Extent) → Option ℕ → Type 0
AreWindowsOrLarge p c k windows None = AreWindowsFrom p c k windows
AreWindowsOrLarge p c k windows (Some j) = IsNamedFrom p c k windows j

marked_from : (p : Classing) (c : WindowKind) (k : ℕ) (windows : List (Option Extent)) → AreWindowsFrom p c k windows → AreMarkedFrom p c k windows
marked_from p c k windows was = record {
  size = was.size;
  each = λ q left j g up at bridge. marked_is (has_of q p.system c g) (new_window q p.system c g) (get_or windows (secondary g) None) (was.each q left j g up at bridge);
  none = was.none;
  lawful = was.lawful;
}

empty_at : (bus : ℕ) → ◌≡◌ {A = Option Extent} (get_or (replicate 256 None) bus None) None
empty_at bus = elim (cases_lt bus 256) [
  | inl inside ↦ get_or-replicate 256 bus None None inside
  | inr past ↦ get_or_past (replicate 256 None) bus None past
]

entry_is : (there : Bool) (e : ExtentValue) (o : Option Extent) → IsWindowOf there e o → option_map extent_value o ≡ cond there (Some e) None
entry_is there e None off = sym (ap (λ b. cond b (Some e) None) off)
entry_is there e (Some x) (is, same) = ap (λ y. Some y) same ∙ sym (ap (λ b. cond b (Some e) None) is)

at_place : (s : System) (f : Function) → (listed : Contains s f) → slice_get s listed.0 ≡ Some f
at_place s f listed = slice_get-get_or s listed.0 f listed.1 ∙ ap (λ y. Some y) listed.2

-- a function on a higher bus comes later
pub comes_later : (s : System) → IsSystem s → (k j : ℕ) (f g : Function) → slice_get s k ≡ Some f → slice_get s j ≡ Some g → f.slot.bus < g.slot.bus → k < j
comes_later s system k j f g at_k at_j up = elim (cases_lt k j) [
  | inl later ↦ later
  | inr before ↦ elim (cases_eq j k) [
    | inl same ↦
        let one : Some g ≡ Some f = sym at_j ∙ ap (slice_get s) same ∙ at_k in
        let function : g ≡ f = cc in
        let bus : g.slot.bus ≡ f.slot.bus = ap (λ (x : Function). x.slot.bus) function in
        absurd (let no : ⊥ = omega (arith, up, bus) in no)
    | inr differ ↦
        let pair : slot_number (get_or s j g).slot < slot_number (get_or s k g).slot = slots_rise s system j k g (omega (arith, before, differ)) (slice_get_within s k f at_k) in
        let less = subst (λ (x : Function). slot_number x.slot < slot_number (get_or s k g).slot) (get_or_from_slice_get s j g g at_j) pair in
        let both = subst (λ (x : Function). slot_number g.slot < slot_number x.slot) (get_or_from_slice_get s k f g at_k) less in
        let slot = slots_of s system f (k, slice_get_within s k f at_k, get_or_from_slice_get s k f f at_k) in
        let device = slot.1 in
        let function = slot.2 in
        absurd (let no : ⊥ = omega (arith, up, both, device, function) in no)
  ]
]

module _ (p : Classing) (system : IsSystem p.system) (nested : IsNested p.roots p.system) (c : WindowKind) where
  pub windows_none : (k : ℕ) → length p.system ≤ k → AreWindowsFrom p c k (replicate 256 None)
  windows_none k past = record {
    size = refl;
    each = λ q left j g up at bridge. (let within = slice_get_within p.system j g at in absurd (let no : ⊥ = omega (arith, past, up, within) in no));
    none = λ bus over. empty_at bus;
    lawful = All-replicate (λ o. IfSome o IsExtent) 256 None tt;
  }

  nested_for : (q : Request) → TellsClasses p q → IsNested q.roots p.system
  nested_for q left = subst (λ xs. IsNested xs p.system) (sym left.rooted) nested

  -- ---- the next function

  module _ (k : ℕ) (f : Function) (r : Record) (at : slice_get p.system k ≡ Some f) (is : IsRecordInSystem p.system f r) (old : List (Option Extent)) where
    -- what isn't it comes later
    later_of : (j : ℕ) (g : Function) → k ≤ j → slice_get p.system j ≡ Some g → (g ≡ f → ⊥) → k + 1 ≤ j
    later_of j g up at_j other = elim (cases_eq j k) [
      | inl same ↦ absurd (let one : Some g ≡ Some f = sym at_j ∙ ap (slice_get p.system) same ∙ at in let function : g ≡ f = cc in other function)
      | inr differ ↦ omega (arith, up, differ)
    ]

    -- one that is no bridge has no window
    same_entries : (E : Entry) → r.bridge ≡ None → AreEntriesFrom E p c (k + 1) old → AreEntriesFrom E p c k old
    same_entries E none was = record {
      size = was.size;
      each = λ q left j g up at_j bridge.
          was.each q left j g
          (later_of j g up at_j (λ here. both_ways (is_bridge f) (sym (same_bridge r f is.value) ∙ ap is_some none) (ap is_bridge (sym here) ∙ bridge))) at_j bridge;
      none = was.none;
      lawful = was.lawful;
    }

    module _ (b : Bridge) (there : r.bridge ≡ Some b) (w : ℕ) (w_is : w ≡ wanted_at p.terms.slots.now r.slot c) where
      is_one : is_bridge f ≡ true
      is_one = sym (same_bridge r f is.value) ∙ ap is_some there

      leads_to : b.secondary ≡ secondary f
      leads_to = ap (λ (x : decoded.Bridge). x.secondary) (same_bridge_of r f b is.value there)

      pub secondary_small : b.secondary < 256
      secondary_small = let small = (All-contains IsFunction p.system f system.each is.listed).image.bytes 0x19 in let to = leads_to in omega (arith, to, small)

      -- the entries of the bridges on the bus behind it are in the table
      entries_behind : (E : Entry) → AreEntriesFrom E p c (k + 1) old → (q : Request) → TellsClasses p q → (g : Function) → Contains p.system g → are_siblings q.roots b.secondary g.slot.bus ≡ true → is_bridge g ≡ true
          → E (has_of q p.system c g) (new_window q p.system c g) (get_or old (secondary g) None)
      entries_behind E was q left g listed beside_b bridge =
          let beside = subst (λ bus. are_siblings q.roots bus g.slot.bus ≡ true) leads_to beside_b in
          let j = listed.0 in
          let at_j : slice_get p.system j ≡ Some g = at_place p.system g listed in
          let on = on_it q.roots p.system system (nested_for q left) f g.slot.bus is.listed is_one beside in
          let order = order_of p.roots p.system nested f is.listed is_one in
          let later = comes_later p.system system k j f g at at_j (omega (arith, on, order)) in
          was.each q left j g (omega (arith, later)) at_j bridge

      -- the windows on that bus are in the table
      are_behind : AreWindowsFrom p c (k + 1) old → (q : Request) → TellsClasses p q → AreBehind q p.system c (new_window q p.system c) b.secondary old
      are_behind was q left g listed beside bridge = entries_behind IsWindowOf was q left g listed beside bridge

      -- or the extents that it tells
      told_behind : AreMarkedFrom p c (k + 1) old → (q : Request) → TellsClasses p q → AreBehind q p.system c (new_window_extent old) b.secondary old
      told_behind was q left g listed beside bridge =
          told_is (has_of q p.system c g) (new_window q p.system c g) (get_or old (secondary g) None) (entries_behind IsMarkedOf was q left g listed beside bridge)

      -- the spare is that of the function
      spare_here : (q : Request) → TellsClasses p q → (highest : ℕ) → spare_by c w highest ≡ spare_below q c f highest
      spare_here q left highest =
          spare_is q p.terms.slots.now c f highest w left.terms.slots left.terms.spares is_one (w_is ∙ ap (λ s. wanted_at p.terms.slots.now s c) (same_slot_of r f is.value))

      around_is : (q : Request) → TellsClasses p q → (e : Function → ExtentValue) → around_bus q p.system c e b w ≡ window_around q c f (bus_items q p.system c nothing e (secondary f))
      around_is q left e =
          ap (λ n. extent_around (page_size c) (highest_by c b.windows) (with_spare (spare_by c w (highest_by c b.windows)) (map item_extent (bus_items q p.system c nothing e n)))) leads_to
          ∙ ap (λ h. extent_around (page_size c) h (with_spare (spare_by c w h) (map item_extent (bus_items q p.system c nothing e (secondary f))))) (highest_is r f b is.value there c)
          ∙ ap (λ s. extent_around (page_size c) (highest_in c f.probe) (with_spare s (map item_extent (bus_items q p.system c nothing e (secondary f))))) (spare_here q left (highest_in c f.probe))

      new_is : (q : Request) → TellsClasses p q → around_bus q p.system c (new_window q p.system c) b w ≡ new_window q p.system c f
      new_is q left = around_is q left (new_window q p.system c) ∙ sym (window_is_around q p.system c system (nested_for q left) f is.listed is_one)

      abbrev behind : Request → (Function → ExtentValue) → List ItemValue
      behind q e = bus_items q p.system c nothing e b.secondary

      abbrev spare : Option ExtentValue
      spare = spare_by c w (highest_by c b.windows)

      has_is : (q : Request) → TellsClasses p q → (e : Function → ExtentValue) → has_of q p.system c f ≡ nat_lt 0 (length (behind q e))
      has_is q left e =
          items_are_behind q p.system c e system (nested_for q left) f is.listed is_one
          ∙ ap (λ n. nat_lt 0 (length (bus_items q p.system c nothing e n))) (sym leads_to)

      entry_for : (q : Request) → TellsClasses p q → (entry : Option Extent) → IsEntry (behind q (new_window q p.system c)) (around_bus q p.system c (new_window q p.system c) b w) entry → IsWindowOf (has_of q p.system c f) (new_window q p.system c f) entry
      entry_for q left None empty = has_is q left (new_window q p.system c) ∙ le-ltb 0 (length (behind q (new_window q p.system c))) (omega (arith, empty))
      entry_for q left (Some x) (some, same) = (has_is q left (new_window q p.system c) ∙ lt-ltb 0 (length (behind q (new_window q p.system c))) some, same ∙ new_is q left)

      -- ---- what is put into the table

      module _ (entry : Option Extent) (new : List (Option Extent)) (put_b : new ≡ set old b.secondary entry) (long : length old ≡ 256) where
        entry_put : new ≡ set old (secondary f) entry
        entry_put = put_b ∙ ap (λ n. set old n entry) leads_to

        entry_here : get_or new (secondary f) None ≡ entry
        entry_here = ap (λ xs. get_or xs (secondary f) None) entry_put ∙ get_or-set_same old (secondary f) entry None (let to = leads_to in let small = secondary_small in omega (arith, long, small, to))

        entry_other : (bus : ℕ) → (bus ≡ secondary f → ⊥) → get_or new bus None ≡ get_or old bus None
        entry_other bus differ = ap (λ xs. get_or xs bus None) entry_put ∙ get_or-set_other old (secondary f) bus entry None differ

        entries_more : (E : Entry) → AreEntriesFrom E p c (k + 1) old → ((q : Request) → TellsClasses p q → E (has_of q p.system c f) (new_window q p.system c f) entry) → AreWindows new → AreEntriesFrom E p c k new
        entries_more E was own lawful = record {
          size = ap length entry_put ∙ length-set old (secondary f) entry ∙ was.size;
          each = λ q left j g up at_j bridge. elim (cases_eq (secondary g) (secondary f)) [
            | inl same ↦
                let listed : Contains p.system g = (j, slice_get_within p.system j g at_j, get_or_from_slice_get p.system j g g at_j) in
                let one : g ≡ f = one_bridge p.roots p.system system nested g f listed is.listed bridge is_one same in
                subst (λ (x : Function). E (has_of q p.system c x) (new_window q p.system c x) (get_or new (secondary x) None)) (sym one)
                (subst (E (has_of q p.system c f) (new_window q p.system c f)) (sym entry_here) (own q left))
            | inr differ ↦
                subst (E (has_of q p.system c g) (new_window q p.system c g)) (sym (entry_other (secondary g) differ))
                (was.each q left j g (later_of j g up at_j (λ same. differ (ap secondary same))) at_j bridge)
          ];
          none = λ bus over. entry_other bus (λ same. none_leads p.system bus over f (is.listed, is_one, sym same)) ∙ was.none bus over;
          lawful = lawful;
        }

        -- what is told of bridges after a named one stays so
        above_more : (q : Request) (n : ℕ) → k ≤ n
            → ((j : ℕ) → n < j → j < length p.system → is_bridge (function_in p.system j) ≡ true
            → IsWindowOf (has_of q p.system c (function_in p.system j)) (new_window q p.system c (function_in p.system j)) (get_or old (secondary (function_in p.system j)) None))
            → (j : ℕ) → n < j → j < length p.system → is_bridge (function_in p.system j) ≡ true
            → IsWindowOf (has_of q p.system c (function_in p.system j)) (new_window q p.system c (function_in p.system j)) (get_or new (secondary (function_in p.system j)) None)
        above_more q n up was j after within bridge =
            let g = function_in p.system j in
            let at_j : slice_get p.system j ≡ Some g = slice_get-get_or p.system j no_function within in
            let listed : Contains p.system g = (j, within, get_or_from_slice_get p.system j g g at_j) in
            subst (IsWindowOf (has_of q p.system c g) (new_window q p.system c g))
            (sym (entry_other (secondary g) (λ same.
            let one : g ≡ f = one_bridge p.roots p.system system nested g f listed is.listed bridge is_one same in
            let both : slot_number (get_or p.system k g).slot < slot_number (get_or p.system j g).slot = slots_rise p.system system k j g (omega (arith, up, after)) within in
            let at_f : get_or p.system k g ≡ f = get_or_from_slice_get p.system k f g at in
            let at_g : get_or p.system j g ≡ g = get_or_from_slice_get p.system j g g at_j in
            let numbers : slot_number (get_or p.system k g).slot ≡ slot_number (get_or p.system j g).slot = ap (λ (x : Function). slot_number x.slot) (at_f ∙ sym one ∙ sym at_g) in
            let no : ⊥ = omega (arith, both, numbers) in no)))
            (was j after within bridge)

        named_more : (j : ℕ) → IsNamedFrom p c (k + 1) old j → ((q : Request) → TellsClasses p q → IsMarkedOf (has_of q p.system c f) (new_window q p.system c f) entry) → AreWindows new → IsNamedFrom p c k new j
        named_more j was own lawful = (let later = was.up in record {
          up = omega (arith, later);
          marked = entries_more IsMarkedOf was.marked own lawful;
          last = λ q left. record {
            too_large = (was.last q left).too_large;
            above = above_more q j (omega (arith, later)) (was.last q left).above;
          };
        })

      -- ---- a window, or its mark

      fits : AreMarkedFrom p c (k + 1) old → (q : Request) → TellsClasses p q → (g : Function) → Contains p.system g → are_siblings q.roots b.secondary g.slot.bus ≡ true → is_bridge g ≡ true → has_of q p.system c g ≡ true
          → IsSameOrOver (new_window_extent old g) (new_window q p.system c g)
      fits was q left g listed beside bridge has =
          told_fits (has_of q p.system c g) (new_window q p.system c g) (get_or old (secondary g) None) (entries_behind IsMarkedOf was q left g listed beside bridge) has

      same_behind : AreMarkedFrom p c (k + 1) old → (q : Request) → TellsClasses p q
          → AreSameOrLarge q p.system c nothing (new_window_extent old) (new_window q p.system c) b.secondary (behind q (new_window_extent old)) (behind q (new_window q p.system c))
      same_behind was q left = same_or_large q p.system c nothing (new_window_extent old) (new_window q p.system c) b.secondary (fits was q left)

      around_told : (q : Request) → behind q (new_window_extent old) ≡ behind q (new_window q p.system c) → around_bus q p.system c (new_window_extent old) b w ≡ around_bus q p.system c (new_window q p.system c) b w
      around_told q same = ap (λ xs. extent_around (page_size c) (highest_by c b.windows) (with_spare spare (map item_extent xs))) same

      marked_entry : (was : AreMarkedFrom p c (k + 1) old) (q : Request) → TellsClasses p q → (entry : Option Extent) → IfSome entry (λ x. x.size < 2 ^ 64) → IsEntry (behind q (new_window_extent old)) (around_bus q p.system c (new_window_extent old) b w) entry
          → IsMarkedOf (has_of q p.system c f) (new_window q p.system c f) entry
      marked_entry was q left None small empty = has_is q left (new_window_extent old) ∙ le-ltb 0 (length (behind q (new_window_extent old))) (omega (arith, empty))
      marked_entry was q left (Some x) small (some, same) = (
        has_is q left (new_window_extent old) ∙ lt-ltb 0 (length (behind q (new_window_extent old))) some,
        elim (same_behind was q left) [
          | inl one ↦ inl (same ∙ around_told q one ∙ new_is q left)
          | inr has ↦
              let low : Contains (map item_extent (behind q (new_window_extent old))) (extent_value nowhere) = subst (Contains (map item_extent (behind q (new_window_extent old)))) has.mark (in_map_from item_extent (behind q (new_window_extent old)) _ has.in_low) in
              let large = around_mark c (highest_by c b.windows) (with_spare spare (map item_extent (behind q (new_window_extent old)))) (before_spare spare (map item_extent (behind q (new_window_extent old))) (extent_value nowhere) low) in
              let size : x.size ≡ (around_bus q p.system c (new_window_extent old) b w).size = ap (λ (y : ExtentValue). y.size) same in
              absurd (let no : ⊥ = omega (arith, large, size, small) in no)
        ],
      )

      too_large_by : (q : Request) → TellsClasses p q → (e : Function → ExtentValue) → 0 < length (behind q e) → 2 ^ 64 ≤ (new_window q p.system c f).size → IsTooLarge q p.system c k
      too_large_by q left e some size =
          let same : f ≡ function_in p.system k = sym (get_or_from_slice_get p.system k f no_function at) in
          let has : has_of q p.system c f ≡ true = has_is q left e ∙ lt-ltb 0 (length (behind q e)) some in
          record {
            within = slice_get_within p.system k f at;
            bridge = subst (λ x. is_bridge x ≡ true) same is_one;
            behind = subst (λ x. has_of q p.system c x ≡ true) same has;
            large = subst (λ x. 2 ^ 64 ≤ (new_window q p.system c x).size) same size;
          }

      large_size : (was : AreMarkedFrom p c (k + 1) old) (q : Request) → TellsClasses p q → 2 ^ 64 ≤ (around_bus q p.system c (new_window_extent old) b w).size → 2 ^ 64 ≤ (new_window q p.system c f).size
      large_size was q left large = subst (λ (e : ExtentValue). 2 ^ 64 ≤ e.size) (new_is q left) (elim (same_behind was q left) [
        | inl one ↦ subst (λ (e : ExtentValue). 2 ^ 64 ≤ e.size) (around_told q one) large
        | inr has ↦
            around_large (page_size c) (highest_by c b.windows) (2 ^ 64) (with_spare spare (map item_extent (behind q (new_window q p.system c)))) (new_window q p.system c has.of) (some_page c)
            (before_spare spare (map item_extent (behind q (new_window q p.system c))) (new_window q p.system c has.of) (in_map_from item_extent (behind q (new_window q p.system c)) _ has.in_high)) has.large
      ])

      mark_entry : (was : AreMarkedFrom p c (k + 1) old) (new : List (Option Extent)) → IsNewWindowPut p c b w old new false → (q : Request) → TellsClasses p q → IsMarkedOf (has_of q p.system c f) (new_window q p.system c f) (Some nowhere)
      mark_entry was new is_put q left =
          let large = is_put.1 q (new_window_extent old) left (told_behind was q left) in
          (has_is q left (new_window_extent old) ∙ lt-ltb 0 (length (behind q (new_window_extent old))) large.some, inr (refl, large_size was q left large.large))

      -- the next entry
      pub windows_more : (new : List (Option Extent)) (large : Option ℕ) (fit : Bool) → IsNewWindowPut p c b w old new fit → AreWindows new → AreWindowsOrLarge p c (k + 1) old large → AreWindowsOrLarge p c k new (first_large large fit k)
      windows_more new None true is_put lawful was =
          entries_more is_put.entry new is_put.put was.size IsWindowOf was
          (λ q left. entry_for q left is_put.entry (is_put.is q (new_window q p.system c) left (are_behind was q left))) lawful
      windows_more new (Some j) true is_put lawful was =
          named_more is_put.entry new is_put.put was.marked.size j was
          (λ q left. marked_entry was.marked q left is_put.entry is_put.small (is_put.is q (new_window_extent old) left (told_behind was.marked q left))) lawful
      windows_more new (Some j) false is_put lawful was =
          named_more (Some nowhere) new is_put.0 was.marked.size j was (mark_entry was.marked new is_put) lawful
      windows_more new None false is_put lawful was =
          let marked = marked_from p c (k + 1) old was in
          record {
            up = omega arith;
            marked = entries_more (Some nowhere) new is_put.0 was.size IsMarkedOf marked (mark_entry marked new is_put) lawful;
            last = λ q left. (let large = is_put.1 q (new_window_extent old) left (told_behind marked q left) in record {
              too_large = too_large_by q left (new_window_extent old) large.some (large_size marked q left large.large);
              above = above_more (Some nowhere) new is_put.0 was.size q k (omega arith) (λ j up within bridge.
                  was.each q left j (function_in p.system j) (omega (arith, up)) (slice_get-get_or p.system j no_function within) bridge);
            });
          }

    pub windows_same : r.bridge ≡ None → (large : Option ℕ) → AreWindowsOrLarge p c (k + 1) old large → AreWindowsOrLarge p c k old large
    windows_same none None was = same_entries IsWindowOf none was
    windows_same none (Some j) was = (let up = was.up in record { up = omega (arith, up); marked = same_entries IsMarkedOf none was.marked; last = was.last })

  -- ---- the records, from the last to the first

  module _ (records : List Record) (has : HasRecords p.system (map record_value records)) (done : ℕ) (r : Record) (less : done < length records) (read : r ≡ get_or records (length records - 1 - done) r)
      (old : List (Option Extent)) (large : Option ℕ) (was : AreWindowsOrLarge p c (length p.system - done) old large) where
    abbrev place : ℕ
    place = length records - 1 - done

    here : FunctionAt p.system r place
    here = function_at p.system records has place r (slice_get_read records (length records) place r refl (omega (arith, less)) read)

    before : AreWindowsOrLarge p c (place + 1) old large
    before =
        let count = same_count p.system records has in
        let from : length p.system - done ≡ place + 1 = omega (arith, count, less) in
        subst (λ n. AreWindowsOrLarge p c n old large) from was

    next : place ≡ length p.system - (done + 1)
    next = let count = same_count p.system records has in omega (arith, count, less)

    pub step_same : r.bridge ≡ None → AreWindowsOrLarge p c (length p.system - (done + 1)) old large
    step_same none = subst (λ n. AreWindowsOrLarge p c n old large) next (windows_same place here.f r here.at here.is old none large before)

    pub step_put : (b : Bridge) → r.bridge ≡ Some b → (w : ℕ) → w ≡ wanted_at p.terms.slots.now r.slot c → (new : List (Option Extent)) (fit : Bool) → IsNewWindowPut p c b w old new fit → AreWindows new → AreWindowsOrLarge p c (length p.system - (done + 1)) new (first_large large fit place)
    step_put b there w w_is new fit put lawful = subst (λ n. AreWindowsOrLarge p c n new (first_large large fit place)) next (windows_more place here.f r here.at here.is old b there w w_is new large fit put lawful before)

  -- ---- all functions

  over_bus : (windows : List (Option Extent)) → AreWindowsFrom p c 0 windows → (q : Request) → TellsClasses p q → (bus : ℕ) → new_window_in windows bus ≡ window_to q p.system c bus
  over_bus windows was q left bus = by (bridge_over p.system bus) refl
    where
      by : (o : Option Function) → bridge_over p.system bus ≡ o → new_window_in windows bus ≡ window_to q p.system c bus
      by None over = ap (option_map extent_value) (was.none bus over) ∙ sym (ap (new_window_over q p.system c) over)
      by (Some f) over =
          let leads = over_leads p.system bus f over in
          let own = was.each q left leads.0.0 f (omega arith) (at_place p.system f leads.0) leads.1 in
          ap (new_window_in windows) (sym leads.2) ∙ entry_is (has_of q p.system c f) (new_window q p.system c f) (get_or windows (secondary f) None) own ∙ sym (ap (new_window_over q p.system c) over)

  pub whole_windows : (windows : List (Option Extent)) (large : Option ℕ) → AreWindowsOrLarge p c 0 windows large → AreNewWindows p c windows large
  whole_windows windows None was = λ q left. record {
    over = λ bus small. over_bus windows was q left bus;
    terms = left.terms;
    behind = λ bus f listed beside bridge. was.each q left listed.0 f (omega arith) (at_place p.system f listed) bridge;
  }
  whole_windows windows (Some j) was = was.last

  of_marked : (windows : List (Option Extent)) → AreMarkedFrom p c 0 windows → AreMarkedWindows p c windows
  of_marked windows was q left f listed bridge = was.each q left listed.0 f (omega arith) (at_place p.system f listed) bridge

  pub marked_windows : (windows : List (Option Extent)) (large : Option ℕ) → AreWindowsOrLarge p c 0 windows large → AreMarkedWindows p c windows
  marked_windows windows None was = of_marked windows (marked_from p c 0 windows was)
  marked_windows windows (Some j) was = of_marked windows was.marked
