-- Where new windows of 2^64 addresses or more are marked, what else is open has room for the same.
use Rattle.std.proofs.Common.{◌≡◌, ℕ, ◌+◌, ◌-◌, ◌^◌, ◌<◌, ◌≤◌, max, inl, inr, ◌⊎◌, List, [], ◌∷◌, map, length, get_or, Bool, true, false, cond, ◌||◌, arith, refl, sym, ◌∙◌, ap, subst, Option, Some, None}
use Rattle.std.specs.Bool.{nat_le, ◌==◌}
use Rattle.std.specs.Option.{is_some}
use Rattle.std.specs.List.{All, Contains, slice_get}
use Rattle.std.proofs.lemmas.List.{get_or_default}
use Rattle.std.proofs.lemmas.Option.{slice_get-get_or, same_Some}
use Rattle.std.proofs.lemmas.Bool.{and_parts, and_from, or_cases, or_left, or_right, leb-true, eqb-true, eq-eqb, false_from_ne_true, both_ways}
use Rattle.pci_spec.specs.Window.{WindowKind, IoWindow, MemoryWindow, PrefetchWindow, page_size}
use Rattle.pci_spec.specs.System.{System, Function, Window, IsSystem, is_bridge}
use Rattle.pci_spec.specs.Bus.{secondary, IsNested}
use Rattle.pci_spec.specs.Decoded.{Range, HasRecords}
use Rattle.pci_spec.proofs.Members.{in_nil, in_cons_cases}
use Rattle.plan_spec.specs.Plan.{is_open}
use Rattle.plan_spec.specs.Planning.Layout.{range_of}
use Rattle.pci_base.specs.declared.window_kind.WindowKind.{WindowKind as CodeKind}
use Rattle.pci_base.specs.declared.window_kind.WindowKind.TheVariants as kinds
use Rattle.pci_base.specs.declared.window_kind.ByKind.{ByKind}
use Rattle.pci_base.specs.WindowKinds.{kind_value, by_kind}
use Rattle.pci_function.specs.declared.record.Bridge.{Bridge}
use Rattle.pci_function.specs.declared.record.Record.{Record}
use Rattle.pci_function.specs.Values.{record_value}
use Rattle.pci_image.specs.Windows.{window_of}
use Rattle.pci_tree.specs.Passes.{range_in}
use Rattle.pci_tree.proofs.Lifting.{same_bridge}
use Rattle.pci_place.specs.Records.{IsRecordInSystem}
use Rattle.pci_place.proofs.Records.{FunctionAt, function_at, same_count}
use Rattle.pci_kept.proofs.OfRecord.{window_is}
use Rattle.settle_spec.specs.FirstPlace.{Extent as ExtentValue, ends_by, first_spot, first_place, else_at}
use Rattle.settle_spec.specs.Lines.{taken_for}
use Rattle.settle_spec.specs.Lists.{Request}
use Rattle.settle_spec.specs.Parts.{FunctionPart}
use Rattle.settle_spec.specs.Stands.{window_part}
use Rattle.settle_spec.specs.Items.{PlacingItem as ItemValue, Placing, AllPlaced, Lacks, and_placed, place_next, place_each, taken_by, has_of, bus_items, new_window, are_placed}
use Rattle.settle_spec.proofs.FirstSpot.{least_spot, spot_gives}
use Rattle.settle_spec.proofs.NewWindows.{window_is_around}
use Rattle.pci_first_fit.specs.declared.extent.Extent.{Extent}
use Rattle.pci_first_fit.specs.Spots.{extent_value}
use Rattle.pci_first_fit.specs.Buses.{AreBehind, Classing, TellsClasses}
use Rattle.pci_first_fit.specs.NewWindows.{nowhere, IsTooLarge, AreNewWindows, AreMarkedWindows, HasMarkedWindows, new_window_extent}
use Rattle.pci_first_fit.proofs.Marked.{told_is, told_fits, same_or_large, some_page}
use Rattle.pci_kept.specs.declared.windows.TooLarge.{TooLarge}
use Rattle.pci_kept.specs.Windows.{HasAllWindows, HasAllMarked, AreAllNew, first_class_too_large, is_whole_range, opens_whole, whole_by, has_whole, HasWhole, IsWholeRange, HasWholeWindow}
use Rattle.pci_kept.specs.Rooms.{place_off, HasSameRoom}
use Rattle.pci_kept.specs.Holding.{HasNewBeside, HasNewWhereStands}
use Rattle.pci_kept.proofs.HeldTables.{some_range, some_open, record_at}

placed_less : (i : ItemValue) (a : ℕ) (p : Placing) → are_placed p ≡ false → are_placed (and_placed i a p) ≡ false
placed_less i a (AllPlaced placed) not = not
placed_less i a (Lacks j) not = refl

-- where for one of some items no place is found, whatever is taken, not all of them have one
none_found : (find : ItemValue → List Range → Option ℕ) (taken : List Range) (items : List ItemValue) (i : ItemValue) → Contains items i
    → ((now : List Range) → find i now ≡ None) → are_placed (place_each find taken items) ≡ false
none_found find taken [] i listed none = absurd (in_nil i listed)
none_found find taken (j ∷ items) i listed none =
    by (find j taken) refl (λ a later. none_found find (taken_by j a ∷ taken) items i later none)
  where
    by : (o : Option ℕ) → find j taken ≡ o → ((a : ℕ) → Contains items i → are_placed (place_each find (taken_by j a ∷ taken) items) ≡ false)
        → are_placed (place_next j o (λ a. place_each find (taken_by j a ∷ taken) items)) ≡ false
    by None is rest = refl
    by (Some a) is rest = elim (in_cons_cases j items i listed) [
      | inl here ↦ absurd (let none_here : find j taken ≡ None = subst (λ (x : ItemValue). find x taken ≡ None) (sym here) (none taken) in let no : Some a ≡ None = sym is ∙ none_here in cc)
      | inr later ↦ placed_less j a (place_each find (taken_by j a ∷ taken) items) (rest a later)
    ]

-- what ends in no range from its first place on has none
no_place : (r : Range) (now : List Range) (e : ExtentValue) → ends_by r e (first_spot r.first now e) ≡ false → first_place (r ∷ []) now e ≡ None
no_place r now e off = ap (λ b. else_at (cond b (Some (first_spot r.first now e)) None) None) off

-- a mark has no place
mark_none : (r : Range) (now : List Range) → first_place (r ∷ []) now (extent_value nowhere) ≡ None
mark_none r now =
    let e : ExtentValue = extent_value nowhere in
    let a = first_spot r.first now e in
    no_place r now e (false_from_ne_true (ends_by r e a) (λ is.
    let below = leb-true (a + (e.size - 1)) e.highest (and_parts (nat_le (a + (e.size - 1)) r.last) (nat_le (a + (e.size - 1)) e.highest) is).1 in
    let no : ⊥ = omega (arith, below) in no))

-- nor has what it marks, but in a range of all addresses
large_none : (r : Range) (now : List Range) (e : ExtentValue) → 0 < e.alignment → 2 ^ 64 ≤ e.size → r.last < 2 ^ 64 → (IsWholeRange r → ⊥) → first_place (r ∷ []) now e ≡ None
large_none r now e pos large small narrow =
    let a = first_spot r.first now e in
    no_place r now e (false_from_ne_true (ends_by r e a) (λ is.
    let ends = leb-true (a + (e.size - 1)) r.last (and_parts (nat_le (a + (e.size - 1)) r.last) (nat_le (a + (e.size - 1)) e.highest) is).0 in
    let from = (spot_gives r.first now e a (least_spot r.first now e pos).free).from in
    narrow record { first = omega (arith, ends, from, large, small); last = omega (arith, ends, large, small) }))

module _ (q : Request) (s : System) (system : IsSystem s) (nested : IsNested q.roots s) (c : WindowKind) where
  some_max : (a b : ℕ) → 0 < a → 0 < max a b
  some_max a b pos = omega (arith, pos)

  new_aligned : (f : Function) → Contains s f → is_bridge f ≡ true → 0 < (new_window q s c f).alignment
  new_aligned f listed bridge = subst (λ (e : ExtentValue). 0 < e.alignment) (sym (window_is_around q s c system nested f listed bridge)) (some_max (page_size c) _ (some_page c))

  pub same_room : (keeps : FunctionPart → Bool) (windows : List (Option Extent)) (r : Range) (bus : ℕ) → HasMarkedWindows q s c windows → r.last < 2 ^ 64 → (IsWholeRange r → ⊥) → HasSameRoom q s c keeps (new_window_extent windows) r bus
  same_room keeps windows r bus marked small narrow taken =
      elim (same_or_large q s c keeps (new_window_extent windows) (new_window q s c) bus
      (λ f listed beside bridge has. told_fits (has_of q s c f) (new_window q s c f) (get_or windows (secondary f) None) (marked f listed bridge) has)) [
        | inl same ↦ ap (λ xs. are_placed (place_each (place_off q r) taken xs)) same
        | inr has ↦
            none_found (place_off q r) taken (bus_items q s c keeps (new_window_extent windows) bus) _ has.in_low
            (λ now. subst (λ (e : ExtentValue). first_place (r ∷ []) (taken_for q (window_part c has.of) now) e ≡ None) (sym has.mark) (mark_none r (taken_for q (window_part c has.of) now)))
            ∙ sym (none_found (place_off q r) taken (bus_items q s c keeps (new_window q s c) bus) _ has.in_high
            (λ now. large_none r (taken_for q (window_part c has.of) now) (new_window q s c has.of) (new_aligned has.of has.listed has.bridge) has.large small narrow))
      ]

-- the items of a bus are listed with such extents, and a range has room for them exactly where it has with their own
pub record IsRoomBeside (p : Classing) (q : Request) (c : WindowKind) (windows : List (Option Extent)) (keeps : FunctionPart → Bool) (r : Range) (bus : ℕ) : Type 0 where
  pub extent : Function → ExtentValue
  pub behind : AreBehind q p.system c extent bus windows
  pub same : HasSameRoom q p.system c keeps extent r bus

pub room_beside : (p : Classing) (q : Request) → IsSystem p.system → IsNested q.roots p.system → (c : WindowKind) (windows : List (Option Extent)) (f : Function) → is_open f c ≡ true → (range_of f (Window c)).last < 2 ^ 64
    → (keeps : FunctionPart → Bool) (bus : ℕ) → HasNewBeside q p c windows f → IsRoomBeside p q c windows keeps (range_of f (Window c)) bus
room_beside p q system nested c windows f shows small keeps bus (inl new) = record {
  extent = new_window q p.system c;
  behind = new.behind bus;
  same = λ taken. refl;
}
room_beside p q system nested c windows f shows small keeps bus (inr (marked, narrow)) = record {
  extent = new_window_extent windows;
  behind = λ g listed beside bridge. told_is (has_of q p.system c g) (new_window q p.system c g) (get_or windows (secondary g) None) (marked g listed bridge);
  same = same_room q p.system system nested c keeps windows (range_of f (Window c)) bus marked small (narrow shows);
}

-- ---- windows of all addresses

one_at : (records : List Record) (k : ℕ) → k < length records → (r : Record) × (get_or records k r ≡ r)
one_at [] k less = absurd (let no : ⊥ = omega (arith, less) in no)
one_at (r ∷ records) k less = (get_or (r ∷ records) k r, get_or_default (r ∷ records) k (get_or (r ∷ records) k r) r less)

module _ (s : System) (records : List Record) (has : HasRecords s (map record_value records)) where
  whole_range : (o : Option Range) → is_whole_range o ≡ true → (r : Range) × ((o ≡ Some r) × IsWholeRange r)
  whole_range None is = (let no : ⊥ = cc in absurd no)
  whole_range (Some r) is =
      let parts = and_parts (r.first == 0) (r.last == 0xffff_ffff_ffff_ffff) is in
      let last = eqb-true r.last 0xffff_ffff_ffff_ffff parts.1 in
      (r, (refl, record { first = eqb-true r.first 0 parts.0; last = omega (arith, last) }))

  range_whole : (r : Range) → IsWholeRange r → is_whole_range (Some r) ≡ true
  range_whole r is = (let last = is.last in and_from (r.first == 0) (r.last == 0xffff_ffff_ffff_ffff) (eq-eqb r.first 0 is.first) (eq-eqb r.last 0xffff_ffff_ffff_ffff (omega (arith, last))))

  module _ (f : Function) (r : Record) (is : IsRecordInSystem s f r) (b : Bridge) (there : r.bridge ≡ Some b) where
    window_whole : (c : WindowKind) → is_whole_range (range_in (window_of b.windows c)) ≡ true → HasWholeWindow s
    window_whole c whole =
        let found = whole_range (range_in (window_of b.windows c)) whole in
        let shown = window_is s f r b is there c in
        record {
          function = f;
          listed = is.listed;
          class = c;
          shows = some_open f c (range_in (window_of b.windows c)) found.0 shown found.1.0;
          whole = subst IsWholeRange (some_range f c (range_in (window_of b.windows c)) found.0 shown found.1.0) found.1.1;
        }

    bridge_whole : opens_whole b ≡ true → HasWholeWindow s
    bridge_whole whole = elim (or_cases (is_whole_range (range_in (window_of b.windows IoWindow)) || is_whole_range (range_in (window_of b.windows MemoryWindow))) _ whole) [
      | inl plain ↦ elim (or_cases (is_whole_range (range_in (window_of b.windows IoWindow))) _ plain) [
        | inl io ↦ window_whole IoWindow io
        | inr memory ↦ window_whole MemoryWindow memory
      ]
      | inr prefetch ↦ window_whole PrefetchWindow prefetch
    ]

    whole_bridge : (c : WindowKind) → is_whole_range (range_in (window_of b.windows c)) ≡ true → opens_whole b ≡ true
    whole_bridge IoWindow whole = ap (λ x. x || is_whole_range (range_in (window_of b.windows MemoryWindow)) || is_whole_range (range_in (window_of b.windows PrefetchWindow))) whole
    whole_bridge MemoryWindow whole =
        or_left (is_whole_range (range_in (window_of b.windows IoWindow)) || is_whole_range (range_in (window_of b.windows MemoryWindow))) _
        (or_right (is_whole_range (range_in (window_of b.windows IoWindow))) _ whole)
    whole_bridge PrefetchWindow whole = or_right (is_whole_range (range_in (window_of b.windows IoWindow)) || is_whole_range (range_in (window_of b.windows MemoryWindow))) _ whole

    open_whole : (c : WindowKind) → is_open f c ≡ true → IsWholeRange (range_of f (Window c)) → opens_whole b ≡ true
    open_whole c shows whole =
        let shown : range_in (window_of b.windows c) ≡ Some (range_of f (Window c)) = window_is s f r b is there c ∙ ap (λ x. cond x (Some (range_of f (Window c))) None) shows in
        whole_bridge c (ap is_whole_range shown ∙ range_whole (range_of f (Window c)) whole)

  -- a record tells such a window
  record_whole : (f : Function) (r : Record) → IsRecordInSystem s f r → (o : Option Bridge) → r.bridge ≡ o → whole_by o ≡ true → HasWholeWindow s
  record_whole f r is None none whole = (let no : ⊥ = cc in absurd no)
  record_whole f r is (Some b) there whole = bridge_whole f r is b there whole

  pub whole_window : HasWhole records → HasWholeWindow s
  whole_window (r, (listed, whole)) =
      let k = listed.0 in
      let at : slice_get records k ≡ Some r = slice_get-get_or records k r listed.1 ∙ ap (λ y. Some y) listed.2 in
      let here : FunctionAt s r k = function_at s records has k r at in
      record_whole here.f r here.is r.bridge refl whole

  -- where no record tells one, there is none
  pub none_whole : All (λ (r : Record). has_whole r ≡ false) records → (f : Function) (c : WindowKind) → Contains s f → is_open f c ≡ true → IsWholeRange (range_of f (Window c)) → ⊥
  none_whole none f c listed shows whole =
      let k = listed.0 in
      let within : k < length records = (let count = same_count s records has in let less = listed.1 in omega (arith, count, less)) in
      let at : slice_get s k ≡ Some f = slice_get-get_or s k f listed.1 ∙ ap (λ y. Some y) listed.2 in
      let one = one_at records k within in
      let r = one.0 in
      let is = record_at s records has k f at r (sym one.1) in
      let off : has_whole r ≡ false = subst (λ (x : Record). has_whole x ≡ false) one.1 (none k r within) in
      by r is r.bridge refl off
    where
      bridge : is_bridge f ≡ true
      bridge = (and_parts (is_bridge f) _ (and_parts _ _ shows).0).0

      by : (r : Record) → IsRecordInSystem s f r → (o : Option Bridge) → r.bridge ≡ o → whole_by o ≡ false → ⊥
      by r is None none off = both_ways (is_bridge f) (sym (same_bridge r f is.value) ∙ ap is_some none) bridge
      by r is (Some b) there off = both_ways (opens_whole b) off (open_whole f r is b there c shows whole)

-- ---- all classes

all_marked : (p : Classing) (io memory prefetchable : List (Option Extent)) → AreMarkedWindows p IoWindow io → AreMarkedWindows p MemoryWindow memory → AreMarkedWindows p PrefetchWindow prefetchable
    → HasAllMarked p record { io = io; memory = memory; prefetchable = prefetchable }
all_marked p io memory prefetchable a_marks b_marks d_marks kinds.Io = a_marks
all_marked p io memory prefetchable a_marks b_marks d_marks kinds.Memory = b_marks
all_marked p io memory prefetchable a_marks b_marks d_marks kinds.Prefetchable = d_marks

pub all_new : (p : Classing) (io memory prefetchable : List (Option Extent)) (in_io in_memory in_wide : Option ℕ)
    → AreNewWindows p IoWindow io in_io → AreMarkedWindows p IoWindow io
    → AreNewWindows p MemoryWindow memory in_memory → AreMarkedWindows p MemoryWindow memory
    → AreNewWindows p PrefetchWindow prefetchable in_wide → AreMarkedWindows p PrefetchWindow prefetchable
    → AreAllNew p record { io = io; memory = memory; prefetchable = prefetchable } (first_class_too_large in_io in_memory in_wide)
all_new p io memory prefetchable (Some k) in_memory in_wide a a_marks b b_marks d d_marks = (all_marked p io memory prefetchable a_marks b_marks d_marks, λ q left. (a q left).too_large)
all_new p io memory prefetchable None (Some k) in_wide a a_marks b b_marks d d_marks = (all_marked p io memory prefetchable a_marks b_marks d_marks, λ q left. (b q left).too_large)
all_new p io memory prefetchable None None (Some k) a a_marks b b_marks d d_marks = (all_marked p io memory prefetchable a_marks b_marks d_marks, λ q left. (d q left).too_large)
all_new p io memory prefetchable None None None a a_marks b b_marks d d_marks = each
  where
    each : HasAllWindows p record { io = io; memory = memory; prefetchable = prefetchable }
    each kinds.Io = a
    each kinds.Memory = b
    each kinds.Prefetchable = d

pub new_beside : (p : Classing) (q : Request) → TellsClasses p q → (windows : ByKind (List (Option Extent))) (large : Option TooLarge) → AreAllNew p windows large
    → (large ≡ None) ⊎ ((f : Function) (c : WindowKind) → Contains p.system f → is_open f c ≡ true → IsWholeRange (range_of f (Window c)) → ⊥)
    → (class : CodeKind) → HasNewWhereStands q p class (by_kind windows class)
new_beside p q left windows None all known class f listed stand = inl (all class q left)
new_beside p q left windows (Some x) all (inl none) class f listed stand = (let no : ⊥ = cc in absurd no)
new_beside p q left windows (Some x) all (inr narrow) class f listed stand = inr (all.0 class q left, λ shows whole. narrow f (kind_value class) listed shows whole)

module _ (s : System) (records : List Record) (has : HasRecords s (map record_value records)) where
  -- where no bridge is named, none is too large, or no open window has all addresses
  pub known_beside : (large : Option TooLarge) → (large ≡ None) ⊎ All (λ (r : Record). has_whole r ≡ false) records
      → (large ≡ None) ⊎ ((f : Function) (c : WindowKind) → Contains s f → is_open f c ≡ true → IsWholeRange (range_of f (Window c)) → ⊥)
  known_beside large (inl none) = inl none
  known_beside large (inr narrow) = inr (none_whole s records has narrow)

module _ (p : Classing) (q : Request) (left : TellsClasses p q) (records : List Record) (has : HasRecords p.system (map record_value records)) where
  -- the named one is too large, and an open window has all addresses
  pub large_beside : (windows : ByKind (List (Option Extent))) (large : Option TooLarge) → AreAllNew p windows large → (w : TooLarge) → (large ≡ Some w) × HasWhole records
      → IsTooLarge q p.system (kind_value w.class) w.function × HasWholeWindow p.system
  large_beside windows None all w (is, whole) = (let no : ⊥ = cc in absurd no)
  large_beside windows (Some x) all w (is, whole) = (
    subst (λ (y : TooLarge). IsTooLarge q p.system (kind_value y.class) y.function) (same_Some x w is) (all.1 q left),
    whole_window p.system records has whole,
  )
