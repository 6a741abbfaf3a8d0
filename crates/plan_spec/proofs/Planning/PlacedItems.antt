-- The items that have places are the parts that are to be placed, and on each bus they are placed largest first.
use Rattle.std.proofs.Common.{◌≡◌, ℕ, ◌^◌, ◌<◌, ◌≤◌, inl, inr, List, [], refl, true, false, ◌&&◌, arith, sym, ◌∙◌, ap, subst, length, get_or}
use Rattle.std.specs.Bool.{nat_lt, ◌==◌, if◌then◌else◌}
use Rattle.std.specs.List.{Contains, AllPairs, sum}
use Rattle.std.proofs.lemmas.Bool.{both_ways, and_parts, and_from, or_cases, ltb-true, lt-ltb, eqb-true}
use Rattle.std.proofs.lemmas.List.Elements.{Contains-get_or}
use Rattle.std.proofs.lemmas.List.Sorted.{IsPermutation-sym, IsPermutation-map, Contains-permutation, sum_by-IsPermutation}
use Rattle.pci_spec.specs.Number.{lowest_one}
use Rattle.pci_spec.specs.Header.{layout, bar_count}
use Rattle.pci_spec.specs.Bar.{bar_at, is_io, whole_bar, has_bar}
use Rattle.pci_spec.specs.Rom.{rom_at}
use Rattle.pci_spec.specs.Window.{WindowKind, IoWindow, MemoryWindow, PrefetchWindow}
use Rattle.pci_spec.specs.System.{System, Function, IsSystem, Part, Bar, Rom, Window, is_bridge}
use Rattle.pci_spec.specs.Bus.{is_root, are_siblings, IsNested}
use Rattle.plan_spec.specs.Plan.{Pools, class_of, same_class, window_size, limited}
use Rattle.plan_spec.specs.Place.{Item, window_item, own_items, items_beside, place_from, start_of, place_of}
use Rattle.plan_spec.specs.Planning.Placing.{IsPower, IsFalling, starts}
use Rattle.plan_spec.specs.Planning.Layout.{is_item}
use Rattle.plan_spec.specs.Planning.Numbers.{item_of}
use Rattle.plan_spec.specs.Planning.Table.{Item as PlacedPart, need_behind, is_placed, size_in}
use Rattle.plan_spec.specs.Planning.Sorted.{all_items, StandsBefore}
use Rattle.pci_spec.proofs.Members.{IsMade, IsInPiece, in_map_to, in_flat_map_to, in_flat_map_from, pairs_map, pairs_filter}
use Rattle.plan_spec.proofs.Planning.Behind.{behind_by_test}
use Rattle.plan_spec.proofs.Planning.Placement.{window_least}
use Rattle.plan_spec.proofs.Planning.Tables.{class_itself}
use Rattle.plan_spec.proofs.Planning.Order.{before_falls, place_by_starts}
use Rattle.plan_spec.proofs.Planning.OwnItems.{of_bar, of_window, of_rom, in_cond, in_cond_from, own_cases, own_function, bar_owned, rom_owned, window_owned}
use Rattle.plan_spec.proofs.Planning.Places.{beside_filter, same_on_roots, same_start}
use Rattle.plan_spec.proofs.Planning.AllItems.{all_order}
use Rattle.plan_spec.proofs.Planning.Sizes.{item_sizes}
use Rattle.plan_spec.proofs.Planning.Insertion.{ordered, ordered_permutes, ordered_pairs}

-- ---- classes

pub same_class_is : (c d : WindowKind) → same_class c d ≡ true → d ≡ c
same_class_is IoWindow IoWindow h = refl
same_class_is IoWindow MemoryWindow h = absurd (both_ways false refl h)
same_class_is IoWindow PrefetchWindow h = absurd (both_ways false refl h)
same_class_is MemoryWindow IoWindow h = absurd (both_ways false refl h)
same_class_is MemoryWindow MemoryWindow h = refl
same_class_is MemoryWindow PrefetchWindow h = absurd (both_ways false refl h)
same_class_is PrefetchWindow IoWindow h = absurd (both_ways false refl h)
same_class_is PrefetchWindow MemoryWindow h = absurd (both_ways false refl h)
same_class_is PrefetchWindow PrefetchWindow h = refl

-- ---- one item

abbrev pub placed_part : Item → PlacedPart
placed_part i = record { function = i.function; part = i.part }

-- an item is that of its part, with the size that the part has in the class
pub record IsOfPart (s : System) (pools : Pools) (c : WindowKind) (i : Item) : Type 0 where
  pub class : class_of s pools i.function i.part ≡ c
  pub whole : item_of s pools i.function i.part ≡ i
  pub size : size_in s pools c i.function i.part ≡ i.size
  pub placed : is_placed s pools c i.function i.part ≡ true
  pub power : IsPower i.size

pub part_placed : (s : System) (pools : Pools) (f : Function) (p : Part) → placed_part (item_of s pools f p) ≡ record { function = f; part = p }
part_placed s pools f (Bar n) = refl
part_placed s pools f Rom = refl
part_placed s pools f (Window kind) = refl

module _ (roots : List ℕ) (s : System) (pools : Pools) (c : WindowKind) (system : IsSystem s) (nested : IsNested roots s)
    (small : (b : Function) → Contains s b → is_bridge b ≡ true → need_behind s pools c b ≤ 2 ^ 65) where
  -- an item of a function is that of one of its parts that are to be placed
  pub own_part : (f : Function) (i : Item) → Contains s f → Contains (own_items s pools c f) i → IsOfPart s pools c i
  own_part f i listed own = elim (own_cases s pools c f i own) [
    | of_bar bar ↦ subst (IsOfPart s pools c) bar.is record {
      class = same_class_is c (class_of s pools f (Bar bar.n)) bar.same;
      whole = refl;
      size = refl;
      placed = and_from (is_item f (Bar bar.n)) (same_class c (class_of s pools f (Bar bar.n)))
          (and_from (nat_lt bar.n (bar_count (layout f.image))) (has_bar f.probe bar.n) (lt-ltb bar.n (bar_count (layout f.image)) bar.within) bar.there) bar.same;
      power = (lowest_one (if is_io (bar_at f.probe bar.n) then 2 else 4) (whole_bar f.probe f.probe bar.n), refl);
    }
    | of_rom rom ↦ subst (IsOfPart s pools c) rom.is record { class = same_class_is c (class_of s pools f Rom) rom.same; whole = refl; size = refl; placed = and_from (is_item f Rom) (same_class c (class_of s pools f Rom)) rom.there rom.same; power = (lowest_one 0 (rom_at f.image f.probe), refl) }
    | of_window window ↦
        let n = need_behind s pools c f in
        let low = small f listed window.bridge in
        let whole : n ≡ limited n = omega (arith, low) in
        subst (IsOfPart s pools c) window.is record {
          class = refl;
          whole = refl;
          size = ap (window_size c) whole;
          placed = and_from (is_bridge f && same_class c c) (nat_lt 0 n) (and_from (is_bridge f) (same_class c c) window.bridge (class_itself c))
              (sym (behind_by_test roots s pools c system nested f listed window.bridge) ∙ window.behind);
          power = (window_least c (limited n) (omega arith)).power;
        }
  ]

  -- and each part that is to be placed has its item
  pub part_owned : (f : Function) (p : Part) → Contains s f → is_placed s pools c f p ≡ true → Contains (own_items s pools c f) (item_of s pools f p)
  part_owned f (Bar n) listed placed =
      let parts = and_parts (is_item f (Bar n)) (same_class c (class_of s pools f (Bar n))) placed in
      let there = and_parts (nat_lt n (bar_count (layout f.image))) (has_bar f.probe n) parts.0 in
      bar_owned s pools c f n (ltb-true n (bar_count (layout f.image)) there.0) there.1 parts.1
  part_owned f Rom listed placed =
      let parts = and_parts (is_item f Rom) (same_class c (class_of s pools f Rom)) placed in
      rom_owned s pools c f parts.0 parts.1
  part_owned f (Window kind) listed placed =
      let outer = and_parts (is_bridge f && same_class c kind) (nat_lt 0 (need_behind s pools c f)) placed in
      let inner = and_parts (is_bridge f) (same_class c kind) outer.0 in
      subst (λ d. Contains (own_items s pools c f) (window_item s pools d f)) (sym (same_class_is c kind inner.1))
      (window_owned s pools c f inner.0 (behind_by_test roots s pools c system nested f listed inner.0 ∙ outer.1))

  -- ---- one bus

  pub record IsBeside (bus : ℕ) (i : Item) : Type 0 where
    pub listed : Contains s i.function
    pub beside : are_siblings roots bus i.function.slot.bus ≡ true
    pub part : IsOfPart s pools c i

  beside_to : (bus : ℕ) (i : Item) → Contains (items_beside roots s pools c bus) i → IsBeside bus i
  beside_to bus i has =
      let piece : IsInPiece (λ f. if are_siblings roots bus f.slot.bus then own_items s pools c f else []) s i =
      in_flat_map_to (λ f. if are_siblings roots bus f.slot.bus then own_items s pools c f else []) s i has in
      let f = piece.of in
      let on = in_cond (are_siblings roots bus f.slot.bus) (own_items s pools c f) i piece.piece in
      let same = sym (own_function s pools c f i on.1) in
      record {
        listed = subst (Contains s) same piece.has;
        beside = subst (λ (g : Function). are_siblings roots bus g.slot.bus ≡ true) same on.0;
        part = own_part f i piece.has on.1;
      }

  beside_from : (bus : ℕ) (f : Function) (i : Item) → Contains s f → are_siblings roots bus f.slot.bus ≡ true → Contains (own_items s pools c f) i → Contains (items_beside roots s pools c bus) i
  beside_from bus f i listed beside own =
      in_flat_map_from (λ g. if are_siblings roots bus g.slot.bus then own_items s pools c g else []) s f i listed
      (in_cond_from (are_siblings roots bus f.slot.bus) (own_items s pools c f) i beside own)

  beside_order : (bus : ℕ) → AllPairs StandsBefore (items_beside roots s pools c bus)
  beside_order bus =
      subst (AllPairs StandsBefore) (sym (beside_filter roots s pools c bus))
      (pairs_filter StandsBefore (λ i. are_siblings roots bus i.function.slot.bus) (all_items s pools c) (all_order s pools c system))

  abbrev pub sorted_on : ℕ → List Item
  sorted_on bus = ordered (items_beside roots s pools c bus)

  pub sorted_to : (bus : ℕ) (i : Item) → Contains (sorted_on bus) i → IsBeside bus i
  sorted_to bus i has =
      beside_to bus i (Contains-permutation (sorted_on bus) (items_beside roots s pools c bus) i (IsPermutation-sym (items_beside roots s pools c bus) (sorted_on bus) (ordered_permutes (items_beside roots s pools c bus))) has)

  pub sorted_from : (bus : ℕ) (f : Function) (p : Part) → Contains s f → are_siblings roots bus f.slot.bus ≡ true → is_placed s pools c f p ≡ true → Contains (sorted_on bus) (item_of s pools f p)
  sorted_from bus f p listed beside placed =
      Contains-permutation (items_beside roots s pools c bus) (sorted_on bus) (item_of s pools f p) (ordered_permutes (items_beside roots s pools c bus))
      (beside_from bus f (item_of s pools f p) listed beside (part_owned f p listed placed))

  -- one bus, or roots
  same_places : (bus other : ℕ) → are_siblings roots bus other ≡ true
      → (start_of roots s pools c other ≡ start_of roots s pools c bus) × (items_beside roots s pools c other ≡ items_beside roots s pools c bus)
  same_places bus other beside = elim (or_cases (bus == other) (is_root roots bus && is_root roots other) beside) [
    | inl one ↦ (let e = sym (eqb-true bus other one) in (ap (start_of roots s pools c) e, ap (items_beside roots s pools c) e))
    | inr both ↦
        let parts = and_parts (is_root roots bus) (is_root roots other) both in
        (same_start roots s pools c other bus parts.1 parts.0, same_on_roots roots s pools c other bus parts.1 parts.0)
  ]

  -- items stand as the sizes in order say
  pub place_in_order : (bus k : ℕ) (d : Item) → k < length (sorted_on bus)
      → place_of roots s pools c (get_or (sorted_on bus) k d) ≡ get_or (starts (start_of roots s pools c bus) (item_sizes (sorted_on bus))) k 0
  place_in_order bus k d l =
      let i = get_or (sorted_on bus) k d in
      let is = sorted_to bus i (Contains-get_or (sorted_on bus) k d l) in
      let same = same_places bus i.function.slot.bus is.beside in
      ap (λ start. place_from start (items_beside roots s pools c i.function.slot.bus) i) same.0
      ∙ ap (λ items. place_from (start_of roots s pools c bus) items i) same.1
      ∙ place_by_starts (start_of roots s pools c bus) (items_beside roots s pools c bus) (sorted_on bus) k d
      (ordered_permutes (items_beside roots s pools c bus)) (ordered_pairs (items_beside roots s pools c bus) (beside_order bus)) l

  -- ---- sizes

  pub sorted_falling : (bus : ℕ) → IsFalling (item_sizes (sorted_on bus))
  sorted_falling bus =
      let size : Item → ℕ = λ i. i.size in
      record {
        powers = λ k l.
            let made : IsMade size (sorted_on bus) (get_or (item_sizes (sorted_on bus)) k 0) =
            in_map_to size (sorted_on bus) (get_or (item_sizes (sorted_on bus)) k 0) (Contains-get_or (item_sizes (sorted_on bus)) k 0 l) in
            subst IsPower made.is (sorted_to bus made.from made.has).part.power;
        falling = λ j k lt l.
            pairs_map (λ a b. b ≤ a) size (sorted_on bus)
            (λ i j d lt l. before_falls (get_or (sorted_on bus) i d) (get_or (sorted_on bus) j d) (ordered_pairs (items_beside roots s pools c bus) (beside_order bus) i j d lt l))
            j k 0 lt l;
      }

  pub sorted_sum : (bus : ℕ) → sum (item_sizes (sorted_on bus)) ≡ sum (item_sizes (items_beside roots s pools c bus))
  sorted_sum bus =
      sum_by-IsPermutation (λ n. n) (item_sizes (items_beside roots s pools c bus)) (item_sizes (sorted_on bus))
      (IsPermutation-map (λ (i : Item). i.size) (items_beside roots s pools c bus) (sorted_on bus) (ordered_permutes (items_beside roots s pools c bus)))
