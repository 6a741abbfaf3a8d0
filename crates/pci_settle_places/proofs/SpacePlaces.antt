-- The places of a space, bus by bus: on the roots, and then behind each bridge.
use Rattle.std.proofs.Common.{◌≡◌, ℕ, ◌+◌, ◌*◌, ◌<◌, ◌≤◌, inl, inr, List, [], ◌∷◌, map, length, get_or, take, Bool, true, false, cond, ◌&&◌, ◌||◌, arith, refl, sym, ◌∙◌, ap, subst, Option, None, Some}
use Rattle.std.specs.Bool.{◌==◌}
use Rattle.std.specs.Option.{option_map, IfSome}
use Rattle.std.specs.List.{Contains, slice_get, list_any}
use Rattle.std.proofs.lemmas.Bool.{cases_Bool, or_cases, or_left, or_right, and_parts, and_from, eqb-true, eq-eqb, both_ways, false_from_ne_true}
use Rattle.std.proofs.lemmas.List.{take_all}
use Rattle.std.proofs.lemmas.Option.{slice_get_within, slice_get-get_or, get_or_from_slice_get}
use Rattle.pci_spec.specs.Window.{WindowKind, IoWindow, MemoryWindow, PrefetchWindow}
use Rattle.pci_spec.specs.System.{System, Function, Space, Io, Memory, Part, Window, IsSystem, is_bridge, has_part, space_of, window_space}
use Rattle.pci_spec.specs.Bus.{secondary, is_root, IsNested}
use Rattle.pci_spec.specs.Decoded.{Range as DecodedRange}
use Rattle.plan_spec.specs.Planning.Layout.{range_of}
use Rattle.plan_spec.proofs.Planning.Behind.{any_from}
use Rattle.settle_spec.specs.FirstPlace.{is_high, else_at, first_place}
use Rattle.settle_spec.specs.Lists.{Request}
use Rattle.settle_spec.specs.Parts.{addresses, bridge_over}
use Rattle.settle_spec.specs.Stands.{window_part}
use Rattle.settle_spec.specs.Items.{PlacingItem as ItemValue, Placed}
use Rattle.settle_spec.specs.Places.{placed_of, place_among, placed_range, root_ranges, first_lack}
use Rattle.settle_spec.specs.Kept.{Kept}
use Rattle.settle_spec.specs.Keeping.Places.{space_items, place_behind, placing_on, new_place}
use Rattle.settle_spec.proofs.Nested.{on_it, is_no_root, at_secondary}
use Rattle.settle_spec.proofs.BridgeOver.{over_is}
use Rattle.settle_laws.proofs.Keeping.Buses.{of_space, roots_are_one}
use Rattle.settle_laws.proofs.Standing.{stands_by_itself}
use Rattle.pci_base.specs.declared.range.Range.{Range}
use Rattle.pci_base.specs.declared.window_kind.ByKind.{ByKind}
use Rattle.pci_base.specs.Ranges.{decoded_range_of}
use Rattle.pci_base.specs.WindowKinds.{by_kind}
use Rattle.pci_image.specs.Windows.{window_of}
use Rattle.pci_function.specs.declared.record.Bridge.{Bridge}
use Rattle.pci_function.specs.declared.record.Record.{Record}
use Rattle.pci_tree.specs.Passes as passes
use Rattle.pci_place.specs.Records.{IsRecordInSystem}
use Rattle.pci_place.specs.Items.{no_function}
use Rattle.pci_first_fit.specs.declared.kept.Kept.{Kept as CodeKept}
use Rattle.pci_first_fit.specs.declared.over.Left.{Left}
use Rattle.pci_first_fit.specs.declared.place.Places.{Places as ToldPlaces}
use Rattle.pci_first_fit.specs.Kept.{kept_of, nothing_kept}
use Rattle.pci_first_fit.specs.Tables.{untold}
use Rattle.pci_first_fit.specs.PlaceTables as ToldOf
use Rattle.pci_first_fit.specs.Keeping.{told_of_kind, told_if_grown, IsInKept, TellsKept}
use Rattle.pci_kept.proofs.OfRecord.{window_is}
use Rattle.pci_settle_places.specs.declared.places.Places.{Places}
use Rattle.pci_settle_places.specs.declared.candidate.Candidate.{Candidate}
use Rattle.pci_settle_places.specs.Candidates.{candidate_value}
use Rattle.pci_settle_places.specs.Columns.{kind_number, told_if, told_place, list_at, AreListsFor, window_range_list}
use Rattle.pci_settle_places.specs.Windows.{unless_grown, window_range_at, plain_of, prefetch_of, range_alone}
use Rattle.pci_settle_places.specs.Places.{place_range_in, placed_at, or_kept, NotesOf}
use Rattle.pci_settle_places.specs.Spaces.{HasWindowsOver, HasNoPlaceInSpace, KeepsOtherSpace, HasNewPlaces, space_lack}
use Rattle.pci_settle_places.proofs.Notes.{region}
use Rattle.pci_settle_places.proofs.Parts.{in_space}
use Rattle.pci_settle_places.proofs.Told.{kind_told, grown_is, told_alone}
use Rattle.pci_settle_places.proofs.Wanted.{none_past}
use Rattle.pci_settle_places.proofs.Reached.{not_here, leads, reached, reached_first, reached_more, not_yet, reached_before}

-- ---- windows

list_placed : (o : Option Placed) → range_alone (option_map decoded_range_of (placed_at o)) ≡ placed_range o
list_placed None = refl
list_placed (Some p) = refl

pub list_alone : (o : Option Range) → map decoded_range_of (window_range_list o) ≡ range_alone (option_map decoded_range_of o)
list_alone None = refl
list_alone (Some r) = refl

-- three lists of the windows of a bridge
abbrev pub window_lists : Option Range → Option Range → List (List Range)
window_lists plain prefetch = window_range_list plain ∷ (window_range_list plain ∷ (window_range_list prefetch ∷ []))

list_by_class : (space : Space) (plain prefetch : Option Range) (windows : WindowKind → Option DecodedRange) → option_map decoded_range_of plain ≡ plain_of space windows → option_map decoded_range_of prefetch ≡ prefetch_of space windows
    → (c : WindowKind) (wide : Bool) → window_space c ≡ space → list_at (window_lists plain prefetch) (kind_number c wide) ≡ range_alone (windows c)
list_by_class Io plain prefetch windows e h IoWindow wide of = list_alone plain ∙ ap range_alone e
list_by_class Memory plain prefetch windows e h IoWindow wide of = absurd (let no : ⊥ = cc in no)
list_by_class Io plain prefetch windows e h MemoryWindow wide of = absurd (let no : ⊥ = cc in no)
list_by_class Memory plain prefetch windows e h MemoryWindow true of = list_alone plain ∙ ap range_alone e
list_by_class Memory plain prefetch windows e h MemoryWindow false of = list_alone plain ∙ ap range_alone e
list_by_class Io plain prefetch windows e h PrefetchWindow wide of = absurd (let no : ⊥ = cc in no)
list_by_class Memory plain prefetch windows e h PrefetchWindow wide of = list_alone prefetch ∙ ap range_alone h

first_column : (c : WindowKind) (wide : Bool) → kind_number c wide ≡ 3 * 0 + kind_number c wide
first_column c wide = omega arith

-- what is on a bus that is no root has the places that are told, or finds the windows over it in its lists
pub window_lists_for : (q : Request) (s : System) (keep : Kept) (space : Space) (placed : ℕ → List Placed) (bus : ℕ) (plain prefetch : Option Range) (places : List ToldPlaces) (grown : ByKind (Option Range)) (windows : WindowKind → Option DecodedRange)
    → is_root q.roots bus ≡ false → option_map decoded_range_of plain ≡ plain_of space windows → option_map decoded_range_of prefetch ≡ prefetch_of space windows → HasWindowsOver q s keep space placed bus places grown windows
    → AreListsFor q s keep space placed bus (window_lists plain prefetch) places grown
window_lists_for q s keep space placed bus plain prefetch places grown windows off plain_is prefetch_is over c listed taken =
    let i = candidate_value s c in
    let of = of_space q s keep space bus i listed in
    let on = i.region.function.slot.bus in
    let here : bus ≡ on = elim (or_cases (bus == on) (is_root q.roots bus && is_root q.roots on) of.beside) [
      | inl same ↦ eqb-true bus on same
      | inr both ↦ absurd (both_ways (is_root q.roots bus) off (and_parts (is_root q.roots bus) (is_root q.roots on) both).0)
    ] in
    let off_on : is_root q.roots on ≡ false = ap (is_root q.roots) (sym here) ∙ off in
    let class = in_space q s keep space bus i listed in
    ap (λ b. cond b (first_place (root_ranges q i) taken i.extent) (place_behind keep placed i taken (bridge_over s on))) off_on
    ∙ ap (λ n. place_behind keep placed i taken (bridge_over s n)) (sym here)
    ∙ over c listed taken
    ∙ ap (λ rs. else_at (told_place places grown c) (first_place rs taken i.extent))
    (sym (list_by_class space plain prefetch windows plain_is prefetch_is i.class (is_high i.extent) class)
    ∙ ap (list_at (window_lists plain prefetch)) (first_column i.class (is_high i.extent))
    ∙ ap (λ n. list_at (window_lists plain prefetch) (3 * n + kind_number i.class (is_high i.extent))) (sym (ap (λ b. cond b on 0) off_on)))

-- ---- the table, so far

either_noted : (o : Option Placed) (old : Option Range) → old ≡ None → or_kept (placed_at o) old ≡ placed_at o
either_noted None old none = none
either_noted (Some p) old none = refl

not_noted : (o : Option Placed) (old : Option Range) → o ≡ None → or_kept (placed_at o) old ≡ old
not_noted o old none = ap (λ x. or_kept (placed_at x) old) none

-- each part has its new place where its bus is a root, or one of the first bridges leads there, and else none
pub record IsPlacedTo (q : Request) (s : System) (keep : Kept) (space : Space) (n : ℕ) (table : List Places) : Type 0 where
  pub each : (k : ℕ) (f : Function) (d : Places) (part : Part) → slice_get s k ≡ Some f → has_part f part ≡ true → space_of f part ≡ space
      → place_range_in (get_or table k d) part ≡ cond (reached q.roots s n f.slot.bus) (placed_at (new_place q s keep (region f part))) None

module _ (q : Request) (s : System) (keep : Kept) (system : IsSystem s) (nested : IsNested q.roots s) (space : Space) where
  listed_at : (k : ℕ) (f : Function) → slice_get s k ≡ Some f → Contains s f
  listed_at k f at = (k, slice_get_within s k f at, get_or_from_slice_get s k f f at)

  new_is : (f : Function) (part : Part) (bus : ℕ) → space_of f part ≡ space → placing_on q s keep space f.slot.bus ≡ placing_on q s keep space bus → place_among (region f part) (placed_of (placing_on q s keep space bus)) ≡ new_place q s keep (region f part)
  new_is f part bus of same =
      ap (λ r. place_among (region f part) (placed_of r)) (sym same)
      ∙ ap (λ x. place_among (region f part) (placed_of (placing_on q s keep x f.slot.bus))) (sym of)

  -- ---- the roots

  pub placed_roots : (root : ℕ) → root < 256 → is_root q.roots root ≡ true → (old new : List Places) → HasNoPlaceInSpace s space old → NotesOf s (placed_of (placing_on q s keep space root)) old new → IsPlacedTo q s keep space 0 new
  placed_roots root low is_one old new none noted = record {
    each = λ k f d part at there of. elim (cases_Bool (is_root q.roots f.slot.bus)) [
      | inl on ↦
          noted k f d part at there
          ∙ either_noted (place_among (region f part) (placed_of (placing_on q s keep space root))) (place_range_in (get_or old k d) part) (none k f d part at there of)
          ∙ ap placed_at (new_is f part root of (roots_are_one q s keep space f.slot.bus root on is_one))
          ∙ sym (ap (λ b. cond b (placed_at (new_place q s keep (region f part))) None) (reached_first q.roots s f.slot.bus ∙ on))
      | inr off ↦
          noted k f d part at there
          ∙ not_noted (place_among (region f part) (placed_of (placing_on q s keep space root))) (place_range_in (get_or old k d) part)
          (not_here q s keep system nested space root low f part (listed_at k f at) there (λ same beside. elim (or_cases (root == f.slot.bus) (is_root q.roots root && is_root q.roots f.slot.bus) beside) [
            | inl one ↦ both_ways (is_root q.roots f.slot.bus) off (subst (λ n. is_root q.roots n ≡ true) (eqb-true root f.slot.bus one) is_one)
            | inr both ↦ both_ways (is_root q.roots f.slot.bus) off (and_parts (is_root q.roots root) (is_root q.roots f.slot.bus) both).1
          ]))
          ∙ none k f d part at there of
          ∙ sym (ap (λ b. cond b (placed_at (new_place q s keep (region f part))) None) (reached_first q.roots s f.slot.bus ∙ off))
    ];
  }

  pub placed_nowhere : q.roots ≡ [] → (table : List Places) → HasNoPlaceInSpace s space table → IsPlacedTo q s keep space 0 table
  placed_nowhere empty table none = record {
    each = λ k f d part at there of.
        none k f d part at there of
        ∙ sym (ap (λ b. cond b (placed_at (new_place q s keep (region f part))) None) (reached_first q.roots s f.slot.bus ∙ ap (λ roots. is_root roots f.slot.bus) empty));
  }

  -- ---- behind one more bridge

  module _ (n : ℕ) (g : Function) (at_n : slice_get s n ≡ Some g) where
    pub placed_same : is_bridge g ≡ false → (table : List Places) → IsPlacedTo q s keep space n table → IsPlacedTo q s keep space (n + 1) table
    placed_same plain table was = record {
      each = λ k f d part at there of.
          was.each k f d part at there of
          ∙ ap (λ b. cond b (placed_at (new_place q s keep (region f part))) None)
          (sym (reached_more q.roots s n g at_n f.slot.bus ∙ ap (λ b. reached q.roots s n f.slot.bus || (b && secondary g == f.slot.bus)) plain ∙ or_nothing (reached q.roots s n f.slot.bus)));
    }
      where
        or_nothing : (a : Bool) → (a || false) ≡ a
        or_nothing true = refl
        or_nothing false = refl

    module _ (bridge : is_bridge g ≡ true) where
      listed_g : Contains s g
      listed_g = listed_at n g at_n

      pub no_root : is_root q.roots (secondary g) ≡ false
      no_root = false_from_ne_true (is_root q.roots (secondary g)) (is_no_root q.roots s system nested g (secondary g) listed_g bridge (at_secondary q.roots s system nested g (secondary g) listed_g bridge refl))

      -- its windows are those over the bus behind it: each where it stays, or at its place in the table
      module _ (r : Record) (b : Bridge) (is : IsRecordInSystem s g r) (there : r.bridge ≡ Some b) (left : Left) (tells : TellsKept q s keep left) (table : List Places) (was : IsPlacedTo q s keep space n table) (d : Places) where
        abbrev own : CodeKept
        own = get_or left.kept.now n nothing_kept

        abbrev grown : ByKind (Option Range)
        grown = get_or left.grown.now n untold

        abbrev places : List ToldPlaces
        places = left.places.now

        abbrev placed : ℕ → List Placed
        placed over = placed_of (placing_on q s keep space over)

        stays_is : (c : WindowKind) → kept_of own (Window c) ≡ keep.stays (window_part c g)
        stays_is c = tells.stays_are n g (Window c) at_n bridge

        staying : (c : WindowKind) → keep.stays (window_part c g) ≡ true → passes.range_in (window_of b.windows c) ≡ Some (addresses (window_part c g))
        staying c on =
            window_is s g r b is there c
            ∙ ap (λ x. cond x (Some (range_of g (Window c))) None) ((stands_by_itself q s nested).only (window_part c g) listed_g (tells.standing (window_part c g) on))

        moving : (c : WindowKind) → window_space c ≡ space → range_alone (option_map decoded_range_of (place_range_in (get_or table n d) (Window c))) ≡ placed_range (place_among (window_part c g) (placed g.slot.bus))
        moving c of =
            ap (λ o. range_alone (option_map decoded_range_of o))
            (was.each n g d (Window c) at_n bridge of ∙ ap (λ x. cond x (placed_at (new_place q s keep (region g (Window c)))) None) (reached_before q.roots s system nested n g at_n))
            ∙ list_placed (new_place q s keep (region g (Window c)))
            ∙ ap (λ x. placed_range (place_among (region g (Window c)) (placed_of (placing_on q s keep x g.slot.bus)))) of

        module _ (c : Candidate) (listed : Contains (space_items q s keep space (secondary g)) (candidate_value s c)) (taken : List DecodedRange) where
          abbrev item : ItemValue
          item = candidate_value s c

          abbrev told : Option ℕ
          told = ToldOf.placed places c.item.function item.region.part

          abbrev windows : WindowKind → Option DecodedRange
          windows = window_range_at own grown b (get_or table n d)

          abbrev behind : Option ℕ
          behind = cond (keep.stays (window_part item.class g)) (keep.place g item taken) (first_place (placed_range (place_among (window_part item.class g) (placed g.slot.bus))) taken item.extent)

          of_class : window_space item.class ≡ space
          of_class = in_space q s keep space (secondary g) item listed

          here : keep.stays (window_part item.class g) ≡ true → IsInKept q s keep n c.item.function g item
          here on = record {
            bridge_is = at_n;
            function_is = slice_get-get_or s c.item.function no_function (none_past s system c.item.function (of_space q s keep space (secondary g) item listed).listed);
            leads = bridge;
            stays_is = on;
            listed = subst (λ x. Contains (space_items q s keep x (secondary g)) item) (sym of_class) listed;
          }

          in_window : keep.stays (window_part item.class g) ≡ true → (o : Option Range) → by_kind grown c.class ≡ o
              → keep.place g item taken ≡ else_at (told_if (by_kind grown c.class) told) (first_place (range_alone (unless_grown (told_of_kind grown item.class) (passes.range_in (window_of b.windows item.class)))) taken item.extent)
          in_window on None none =
              tells.places_are n c.item.function g item (here on) taken
              ∙ ap (λ o. told_if_grown o told (first_place (addresses (window_part item.class g) ∷ []) taken item.extent)) (grown_is grown c.class ∙ ap (option_map decoded_range_of) none)
              ∙ ap (λ o. first_place (range_alone o) taken item.extent) (sym (staying item.class on))
              ∙ sym (ap (λ o. first_place (range_alone (unless_grown o (passes.range_in (window_of b.windows item.class)))) taken item.extent) (kind_told grown c.class ∙ none))
              ∙ sym (ap (λ o. else_at (told_if o told) (first_place (range_alone (unless_grown (told_of_kind grown item.class) (passes.range_in (window_of b.windows item.class)))) taken item.extent)) none)
          in_window on (Some t) some =
              tells.places_are n c.item.function g item (here on) taken
              ∙ ap (λ o. told_if_grown o told (first_place (addresses (window_part item.class g) ∷ []) taken item.extent)) (grown_is grown c.class ∙ ap (option_map decoded_range_of) some)
              ∙ sym (told_alone told)
              ∙ sym (ap (λ o. else_at told (first_place (range_alone (unless_grown o (passes.range_in (window_of b.windows item.class)))) taken item.extent)) (kind_told grown c.class ∙ some))
              ∙ sym (ap (λ o. else_at (told_if o told) (first_place (range_alone (unless_grown (told_of_kind grown item.class) (passes.range_in (window_of b.windows item.class)))) taken item.extent)) some)

          -- in a window that doesn't stay no place is told
          none_told : keep.stays (window_part item.class g) ≡ false → (o : Option Range) → by_kind grown c.class ≡ o → told_if (by_kind grown c.class) told ≡ None
          none_told off None none = ap (λ o. told_if o told) none
          none_told off (Some t) some =
              absurd (both_ways (keep.stays (window_part item.class g)) off
              (subst (λ o. IfSome o (λ _. keep.stays (window_part item.class g) ≡ true)) (grown_is grown c.class ∙ ap (option_map decoded_range_of) some) (tells.grown_stay n g item.class at_n bridge)))

          by_stay : (on : Bool) → kept_of own (Window item.class) ≡ on → keep.stays (window_part item.class g) ≡ on → behind ≡ else_at (told_if (by_kind grown c.class) told) (first_place (range_alone (windows item.class)) taken item.extent)
          by_stay true is_kept is_on =
              ap (λ x. cond x (keep.place g item taken) (first_place (placed_range (place_among (window_part item.class g) (placed g.slot.bus))) taken item.extent)) is_on
              ∙ in_window is_on (by_kind grown c.class) refl
              ∙ sym (ap (λ x. else_at (told_if (by_kind grown c.class) told)
              (first_place (range_alone (cond x (unless_grown (told_of_kind grown item.class) (passes.range_in (window_of b.windows item.class))) (option_map decoded_range_of (place_range_in (get_or table n d) (Window item.class))))) taken item.extent)) is_kept)
          by_stay false is_kept off =
              ap (λ x. cond x (keep.place g item taken) (first_place (placed_range (place_among (window_part item.class g) (placed g.slot.bus))) taken item.extent)) off
              ∙ ap (λ rs. first_place rs taken item.extent) (sym (moving item.class of_class))
              ∙ sym (ap (λ x. first_place (range_alone (cond x (unless_grown (told_of_kind grown item.class) (passes.range_in (window_of b.windows item.class))) (option_map decoded_range_of (place_range_in (get_or table n d) (Window item.class))))) taken item.extent) is_kept)
              ∙ sym (ap (λ o. else_at o (first_place (range_alone (windows item.class)) taken item.extent)) (none_told off (by_kind grown c.class) refl))

        pub windows_over : HasWindowsOver q s keep space placed (secondary g) places grown (window_range_at own grown b (get_or table n d))
        windows_over c listed taken =
            ap (place_behind keep placed (candidate_value s c) taken) (over_is q.roots s system nested (secondary g) g (listed_g, bridge, refl))
            ∙ by_stay c listed taken (keep.stays (window_part (candidate_value s c).class g)) (stays_is (candidate_value s c).class) refl

      pub placed_more : secondary g < 256 → (old new : List Places) → IsPlacedTo q s keep space n old → NotesOf s (placed_of (placing_on q s keep space (secondary g))) old new → IsPlacedTo q s keep space (n + 1) new
      placed_more low old new was noted = record {
        each = λ k f d part at there of. elim (cases_Bool (secondary g == f.slot.bus)) [
          | inl hit ↦
              let same : secondary g ≡ f.slot.bus = eqb-true (secondary g) f.slot.bus hit in
              let before : reached q.roots s n f.slot.bus ≡ false = ap (reached q.roots s n) (sym same) ∙ not_yet q.roots s system nested n g at_n bridge in
              let now : reached q.roots s (n + 1) f.slot.bus ≡ true = reached_more q.roots s n g at_n f.slot.bus ∙ or_right (reached q.roots s n f.slot.bus) (leads f.slot.bus g) (and_from (is_bridge g) (secondary g == f.slot.bus) bridge hit) in
              noted k f d part at there
              ∙ either_noted (place_among (region f part) (placed_of (placing_on q s keep space (secondary g)))) (place_range_in (get_or old k d) part)
              (was.each k f d part at there of ∙ ap (λ b. cond b (placed_at (new_place q s keep (region f part))) None) before)
              ∙ ap placed_at (new_is f part (secondary g) of (ap (placing_on q s keep space) (sym same)))
              ∙ sym (ap (λ b. cond b (placed_at (new_place q s keep (region f part))) None) now)
          | inr miss ↦
              let same : reached q.roots s (n + 1) f.slot.bus ≡ reached q.roots s n f.slot.bus =
              reached_more q.roots s n g at_n f.slot.bus ∙ ap (λ b. reached q.roots s n f.slot.bus || (b && secondary g == f.slot.bus)) bridge ∙ ap (λ b. reached q.roots s n f.slot.bus || b) miss ∙ or_nothing (reached q.roots s n f.slot.bus) in
              noted k f d part at there
              ∙ not_noted (place_among (region f part) (placed_of (placing_on q s keep space (secondary g)))) (place_range_in (get_or old k d) part)
              (not_here q s keep system nested space (secondary g) low f part (listed_at k f at) there
              (λ is beside. both_ways (secondary g == f.slot.bus) miss (eq-eqb (secondary g) f.slot.bus (on_it q.roots s system nested g f.slot.bus listed_g bridge beside))))
              ∙ was.each k f d part at there of
              ∙ ap (λ b. cond b (placed_at (new_place q s keep (region f part))) None) (sym same)
        ];
      }
        where
          or_nothing : (a : Bool) → (a || false) ≡ a
          or_nothing true = refl
          or_nothing false = refl

  -- ---- all of them

  pub placed_all : (n : ℕ) → length s ≤ n → (table : List Places) → IsPlacedTo q s keep space n table → HasNewPlaces q s keep space table
  placed_all n past table was k f d part at there of =
      was.each k f d part at there of
      ∙ ap (λ b. cond b (placed_at (new_place q s keep (region f part))) None) (to_all f (listed_at k f at))
    where
      to_all : (f : Function) → Contains s f → reached q.roots s n f.slot.bus ≡ true
      to_all f listed = elim (cases_Bool (is_root q.roots f.slot.bus)) [
        | inl root ↦ or_left (is_root q.roots f.slot.bus) (list_any (leads f.slot.bus) (take n s)) root
        | inr off ↦
            let one = nested.one f listed off in
            let to = one.1 in
            or_right (is_root q.roots f.slot.bus) (list_any (leads f.slot.bus) (take n s))
            (subst (λ xs. list_any (leads f.slot.bus) xs ≡ true) (sym (take_all n s past))
            (any_from (leads f.slot.bus) s one.0 to.0 (and_from (is_bridge one.0) (secondary one.0 == f.slot.bus) to.1 (eq-eqb (secondary one.0) f.slot.bus to.2))))
      ]

  -- ---- parts of the other space

  pub others_kept : (bus : ℕ) → bus < 256 → (old new : List Places) → length new ≡ length old → NotesOf s (placed_of (placing_on q s keep space bus)) old new → KeepsOtherSpace s space old new
  others_kept bus low old new size noted = record {
    count = size;
    others = λ k f d part at there other.
        noted k f d part at there
        ∙ not_noted (place_among (region f part) (placed_of (placing_on q s keep space bus))) (place_range_in (get_or old k d) part)
        (not_here q s keep system nested space bus low f part (listed_at k f at) there (λ is beside. other is));
  }

pub others_same : (s : System) (space : Space) (table : List Places) → KeepsOtherSpace s space table table
others_same s space table = record { count = refl; others = λ k f d part at there other. refl }

pub others_more : (s : System) (space : Space) (a b c : List Places) → KeepsOtherSpace s space a b → KeepsOtherSpace s space b c → KeepsOtherSpace s space a c
others_more s space a b c first second = record {
  count = second.count ∙ first.count;
  others = λ k f d part at there other. second.others k f d part at there other ∙ first.others k f d part at there other;
}

-- ---- what lacks a place

pub lack_same : (q : Request) (s : System) (keep : Kept) (space : Space) (root : ℕ) → is_root q.roots root ≡ true → (roots : List ℕ) → q.roots ≡ roots → space_lack q s keep space roots ≡ first_lack (placing_on q s keep space root) None
lack_same q s keep space root is_one [] same = absurd (both_ways (is_root q.roots root) (ap (λ rs. is_root rs root) same) is_one)
lack_same q s keep space root is_one (r ∷ roots) same =
    ap (λ p. first_lack p None)
    (roots_are_one q s keep space r root (ap (λ rs. is_root rs r) same ∙ or_left (r == r) (is_root roots r) (eq-eqb r r refl)) is_one)
