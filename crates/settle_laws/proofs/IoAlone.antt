-- What settling says of I/O hangs on no list of memory: it is the same with the lists of I/O alone, and then no part in memory stands.
use Rattle.std.proofs.Common.{◌≡◌, ℕ, zero, suc, inl, inr, List, [], ◌∷◌, ◌++◌, ◌&&◌, ◌||◌, map, not, length, refl, Bool, true, false, sym, ◌∙◌, ap, Option, None, Some}
use Rattle.std.specs.Bool.{if◌then◌else◌}
use Rattle.std.specs.List.{Contains, filter, flat_map, list_any, list_all}
use Rattle.std.proofs.lemmas.Bool.{cases_Bool, and_parts, and_left, and_right}
use Rattle.pci_spec.specs.Window.{WindowKind, IoWindow, MemoryWindow, PrefetchWindow}
use Rattle.pci_spec.specs.Decoded.{Range}
use Rattle.pci_spec.specs.System.{System, Function, Space, Io, Memory, Part, Bar, Rom, Window, space_of, window_space, is_bridge, is_window}
use Rattle.pci_spec.specs.Bus.{secondary, is_behind, is_root, are_siblings}
use Rattle.plan_spec.specs.Plan.{bridges_above, same_class}
use Rattle.plan_spec.proofs.Planning.PlacedItems.{same_class_is}
use Rattle.settle_spec.specs.FirstPlace.{Extent, first_place, is_high, ranges_are_apart}
use Rattle.settle_spec.specs.Lines.{lines_on, taken_for}
use Rattle.settle_spec.specs.Lists.{Request, class_ranges}
use Rattle.settle_spec.specs.Parts.{FunctionPart, addresses, is_part, header_parts, function_parts, system_parts, class_in, bridge_over, are_same_space}
use Rattle.settle_spec.specs.Stands.{window_part, part_space, is_in_lists, is_in_window, is_in_place, is_kept_off, leads_to_told, takes_from, are_beside, stands_within, stands, told_part_precedes}
use Rattle.settle_spec.specs.Items.{PlacingItem, Placed, in_turn, own_item, is_own, has_of, items_of, bus_items, window_around, window_within, new_window, nothing, are_placed, taken_on, place_in, has_places, has_room, holds_within, has_room_behind, stays, place_each}
use Rattle.settle_spec.specs.Places.{wide_ranges, placed_of, place_among, placed_range}
use Rattle.settle_spec.specs.Keeping.Places.{place_behind, place_of_item, space_items, taken_at, placing_within, placing_on}
use Rattle.settle_spec.proofs.ItemsOn.{each_in}
use Rattle.settle_spec.proofs.Buses.{each_same}
use Rattle.settle_laws.proofs.PartClasses.{space_of_class}
use Rattle.settle_spec.specs.Kept.{Kept, as_it_stands}
use Rattle.pci_spec.proofs.Members.{in_head, in_tail, in_filter_to}

map_in : {X Y : Type 0} (f g : X → Y) (xs : List X) → ((x : X) → Contains xs x → f x ≡ g x) → map f xs ≡ map g xs
map_in f g [] same = refl
map_in f g (x ∷ xs) same = ap (λ y. y ∷ map f xs) (same x (in_head x xs)) ∙ ap (λ ys. g x ∷ ys) (map_in f g xs (λ y has. same y (in_tail x xs y has)))

-- the same, with the lists of I/O alone
abbrev pub io_alone : Request → Request
io_alone q = record {
  roots = q.roots;
  lists = record { io = q.lists.io; memory = []; prefetch = [] };
  fixed = q.fixed;
  anew = q.anew;
  slots = q.slots;
  spares = q.spares;
  told = q.told;
}

io_class : (c : WindowKind) → window_space c ≡ Io → c ≡ IoWindow
io_class IoWindow is = refl
io_class MemoryWindow is = absurd (let no : ⊥ = cc in no)
io_class PrefetchWindow is = absurd (let no : ⊥ = cc in no)

beside_io : (a b : Space) → b ≡ Io → are_same_space a b ≡ true → a ≡ Io
beside_io Io b is same = refl
beside_io Memory Io is same = absurd (let no : ⊥ = cc in no)
beside_io Memory Memory is same = absurd (let no : ⊥ = cc in no)

by_space : (space : Space) (k o : Bool) → (space ≡ Io → k ≡ o) → (are_same_space Io space && k) ≡ (are_same_space Io space && o)
by_space Io k o same = same refl
by_space Memory k o same = refl

by_on : (on : Bool) (space : Space) (k o : Bool) → (space ≡ Io → k ≡ o) → (on && are_same_space Io space && k) ≡ (on && are_same_space Io space && o)
by_on true space k o same = by_space space k o same
by_on false space k o same = refl

by_own : (b k o : Bool) → (b ≡ true → k ≡ o) → (b && not k) ≡ (b && not o)
by_own true k o same = ap not (same refl)
by_own false k o same = refl

by_taken : (b k o : Bool) → (b ≡ true → k ≡ o) → not (b && k) ≡ not (b && o)
by_taken true k o same = ap not (same refl)
by_taken false k o same = refl

module _ (q : Request) (s : System) where
  abbrev p : Request
  p = io_alone q

  -- ---- parts, and those of I/O

  part_same : (f : Function) (x : Part) → is_part p s f x ≡ is_part q s f x
  part_same f (Bar n) = refl
  part_same f Rom = refl
  part_same f (Window c) = refl

  parts_same : (f : Function) → function_parts p s f ≡ function_parts q s f
  parts_same f = λ i. map (λ x. record { function = f; part = x }) (filter (λ x. part_same f x i) (header_parts f))

  regions_same : system_parts p s ≡ system_parts q s
  regions_same = λ i. flat_map (λ f. parts_same f i) s

  of_io : (r : Request) (f : Function) (x : Part) → space_of f x ≡ Io → class_in r s f x ≡ IoWindow
  of_io r f x io = io_class (class_in r s f x) (space_of_class r s f x ∙ io)

  -- a class is of I/O by either
  io_or_not : (r t : Request) (f : Function) (x : Part) → same_class IoWindow (class_in r s f x) ≡ true → same_class IoWindow (class_in t s f x) ≡ true
  io_or_not r t f x is =
      let class : class_in r s f x ≡ IoWindow = same_class_is IoWindow (class_in r s f x) is in
      let space : space_of f x ≡ Io = sym (space_of_class r s f x) ∙ ap window_space class in
      ap (same_class IoWindow) (of_io t f x space)

  class_same : (f : Function) (x : Part) → same_class IoWindow (class_in p s f x) ≡ same_class IoWindow (class_in q s f x)
  class_same f x = elim (cases_Bool (same_class IoWindow (class_in q s f x))) [
    | inl is ↦ io_or_not q p f x is ∙ sym is
    | inr off ↦ elim (cases_Bool (same_class IoWindow (class_in p s f x))) [
      | inl is ↦ absurd (let other = io_or_not p q f x is in let no : ⊥ = cc in no)
      | inr out ↦ out ∙ sym off
    ]
  ]

  own_same : (r : FunctionPart) → is_own p s IoWindow r ≡ is_own q s IoWindow r
  own_same r = ap (λ b. not (is_window r.part) && b) (class_same r.function r.part)

  own_space : (r : FunctionPart) → is_own q s IoWindow r ≡ true → part_space r ≡ Io
  own_space r is =
      let class : class_in q s r.function r.part ≡ IoWindow = same_class_is IoWindow (class_in q s r.function r.part) (and_parts (not (is_window r.part)) (same_class IoWindow (class_in q s r.function r.part)) is).1 in
      sym (space_of_class q s r.function r.part) ∙ ap window_space class

  has_same : (b : Function) → has_of p s IoWindow b ≡ has_of q s IoWindow b
  has_same b = λ i. list_any (λ f. is_behind b f.slot.bus && list_any (λ r. own_same r i) (parts_same f i)) s

  -- ---- the items of a bus

  module _ (keeps other : FunctionPart → Bool) (same : (r : FunctionPart) → part_space r ≡ Io → keeps r ≡ other r) where
    moves_same : (r : FunctionPart) → (is_own p s IoWindow r && not (keeps r)) ≡ (is_own q s IoWindow r && not (other r))
    moves_same r = ap (λ b. b && not (keeps r)) (own_same r) ∙ by_own (is_own q s IoWindow r) (keeps r) (other r) (λ is. same r (own_space r is))

    taken_same : (bus : ℕ) → taken_on p s IoWindow keeps bus ≡ taken_on q s IoWindow other bus
    taken_same bus =
        let each = λ (r : FunctionPart). by_on (are_siblings q.roots bus r.function.slot.bus) (part_space r) (keeps r) (other r) (same r) in
        λ i. lines_on q Io bus ++ map addresses (filter (λ r. each r i) (regions_same i))

    module _ (extent outer : Function → Extent) (are : (f : Function) → extent f ≡ outer f) where
      function_same : (f : Function) → items_of p s IoWindow keeps extent f ≡ items_of q s IoWindow other outer f
      function_same f =
          let window = same (window_part IoWindow f) refl in
          λ i. map (own_item IoWindow) (filter (λ r. moves_same r i) (parts_same f i))
          ++ (if is_bridge f && has_same f i && not (window i) then record { region = window_part IoWindow f; class = IoWindow; extent = are f i } ∷ [] else [])

      items_same : (bus : ℕ) → bus_items p s IoWindow keeps extent bus ≡ bus_items q s IoWindow other outer bus
      items_same bus = λ i. in_turn (flat_map (λ f. if are_siblings q.roots bus f.slot.bus then function_same f i else []) s)

  window_same : (depth : ℕ) (b : Function) → window_within p s IoWindow depth b ≡ window_within q s IoWindow depth b
  unfolding window_within
  window_same zero b = refl
  window_same (suc depth) b = ap (window_around q IoWindow b)
      (items_same nothing nothing (λ r io. refl) (window_within p s IoWindow depth) (window_within q s IoWindow depth) (window_same depth) (secondary b))

  pub has_alone : (b : Function) → has_of p s IoWindow b ≡ has_of q s IoWindow b
  has_alone b = has_same b

  pub window_alone : (b : Function) → new_window p s IoWindow b ≡ new_window q s IoWindow b
  window_alone b = window_same 256 b

  -- ---- what stands

  in_lists_same : (bus : ℕ) (r : Range) (space : Space) → space ≡ Io → is_in_lists p bus r space ≡ is_in_lists q bus r space
  in_lists_same bus r Io io = refl
  in_lists_same bus r Memory io = absurd (let no : ⊥ = cc in no)

  module _ (test other : FunctionPart → Bool) (same : (r : FunctionPart) → part_space r ≡ Io → test r ≡ other r) where
    over_same : (r : Range) (o : Option Function) → is_in_window test IoWindow r o ≡ is_in_window other IoWindow r o
    over_same r None = refl
    over_same r (Some b) = ap (λ x. is_in_window (λ t. x) IoWindow r (Some b)) (same (window_part IoWindow b) refl)

    in_window_same : (r : FunctionPart) → part_space r ≡ Io → is_in_window test (class_in p s r.function r.part) (addresses r) (bridge_over s r.function.slot.bus)
        ≡ is_in_window other (class_in q s r.function r.part) (addresses r) (bridge_over s r.function.slot.bus)
    in_window_same r io =
        ap (λ c. is_in_window test c (addresses r) (bridge_over s r.function.slot.bus)) (of_io p r.function r.part io)
        ∙ over_same (addresses r) (bridge_over s r.function.slot.bus)
        ∙ sym (ap (λ c. is_in_window other c (addresses r) (bridge_over s r.function.slot.bus)) (of_io q r.function r.part io))

    in_place_same : (r : FunctionPart) → part_space r ≡ Io → is_in_place p s test r ≡ is_in_place q s other r
    in_place_same r io =
        let lists = in_lists_same r.function.slot.bus (addresses r) (part_space r) io in
        let window = in_window_same r io in
        λ i. if is_root q.roots r.function.slot.bus then lists i else window i

    apart_same : (r : FunctionPart) → part_space r ≡ Io → (t : FunctionPart) → not (takes_from p s t r && test t) ≡ not (takes_from q s t r && other t)
    apart_same r io t = by_taken (takes_from q s t r) (test t) (other t) (λ takes.
        let both = and_parts (are_beside q t r && told_part_precedes q s t r) (not (ranges_are_apart (addresses t) (addresses r))) takes in
        let beside = and_parts (are_beside q t r) (told_part_precedes q s t r) both.0 in
        let space = and_parts (are_siblings q.roots t.function.slot.bus r.function.slot.bus) (are_same_space (part_space t) (part_space r)) beside.0 in
        same t (beside_io (part_space t) (part_space r) io space.1))

  stand_same : (others : ℕ) (r : FunctionPart) → part_space r ≡ Io → stands_within p s others r ≡ stands_within q s others r
  unfolding stands_within
  stand_same zero r io = refl
  stand_same (suc others) r io =
      let part = part_same r.function r.part in
      let place = in_place_same (stands_within p s others) (stands_within q s others) (stand_same others) r io in
      let apart = apart_same (stands_within p s others) (stands_within q s others) (stand_same others) r io in
      λ i. not (is_kept_off q s r) && (leads_to_told q s r || not q.anew) && part i && place i && list_all (λ t. apart t i) (regions_same i)

  pub stands_alone : (r : FunctionPart) → part_space r ≡ Io → stands p s r ≡ stands q s r
  stands_alone r io = ap (λ rs. stands_within p s (length rs) r) regions_same ∙ stand_same (length (system_parts q s)) r io

  -- ---- what holds, and stays

  places_same : (keeps other : FunctionPart → Bool) → ((r : FunctionPart) → part_space r ≡ Io → keeps r ≡ other r) → (b : Function) → has_places p s keeps b IoWindow ≡ has_places q s other b IoWindow
  places_same keeps other same b =
      let taken = taken_same keeps other same (secondary b) in
      let items = items_same keeps other same (new_window p s IoWindow) (new_window q s IoWindow) (window_same 256) (secondary b) in
      λ i. are_placed (place_each (λ x xs. place_in (addresses (window_part IoWindow b)) x (taken_for q x.region xs)) (taken i) (items i))

  room_same : (keeps other : FunctionPart → Bool) → ((r : FunctionPart) → part_space r ≡ Io → keeps r ≡ other r) → (f : Function) (x : Part) → space_of f x ≡ Io → has_room p s keeps f x ≡ has_room q s other f x
  room_same keeps other same f (Bar n) io = refl
  room_same keeps other same f Rom io = refl
  room_same keeps other same f (Window IoWindow) io = places_same keeps other same f
  room_same keeps other same f (Window MemoryWindow) io = absurd (let no : ⊥ = cc in no)
  room_same keeps other same f (Window PrefetchWindow) io = absurd (let no : ⊥ = cc in no)

  hold_same : (depth : ℕ) (r : FunctionPart) → part_space r ≡ Io → holds_within p s depth r ≡ holds_within q s depth r
  unfolding holds_within
  hold_same zero r io = stands_alone r io
  hold_same (suc depth) r io =
      let stand = stands_alone r io in
      let room = room_same (holds_within p s depth) (holds_within q s depth) (hold_same depth) r.function r.part io in
      λ i. stand i && room i

  stay_same : (r : FunctionPart) → part_space r ≡ Io → stays p s r ≡ stays q s r
  stay_same r io =
      let hold = hold_same 256 r io in
      let above : (b : Function) → has_room_behind p s (window_part (class_in p s r.function r.part) b) ≡ has_room_behind q s (window_part (class_in q s r.function r.part) b)
      = λ b. ap (λ c. has_room_behind p s (window_part c b)) (of_io p r.function r.part io) ∙ hold_same 256 (window_part IoWindow b) refl ∙ sym (ap (λ c. has_room_behind q s (window_part c b)) (of_io q r.function r.part io)) in
      λ i. hold i && list_all (λ b. above b i) (bridges_above s r.function.slot.bus)

  -- ---- places

  on_root : (bus : ℕ) (wide : Bool) (c : WindowKind) → c ≡ IoWindow
      → (class_ranges p c bus ++ (if wide then wide_ranges p c bus else [])) ≡ (class_ranges q c bus ++ (if wide then wide_ranges q c bus else []))
  on_root bus wide IoWindow io = refl
  on_root bus wide MemoryWindow io = absurd (let no : ⊥ = cc in no)
  on_root bus wide PrefetchWindow io = absurd (let no : ⊥ = cc in no)

  -- what is kept is the same in I/O
  pub record AreAlikeInIo (k j : Kept) : Type 0 where
    pub stays : (r : FunctionPart) → part_space r ≡ Io → k.stays r ≡ j.stays r
    pub range : (r : FunctionPart) → part_space r ≡ Io → k.range r ≡ j.range r
    pub place : (b : Function) (x : PlacingItem) (taken : List Range) → x.class ≡ IoWindow → k.place b x taken ≡ j.place b x taken

  module _ (k j : Kept) (alike : AreAlikeInIo k j) where
    abbrev is_taken : ℕ → FunctionPart → Bool
    is_taken bus r = are_siblings q.roots bus r.function.slot.bus && are_same_space Io (part_space r) && j.stays r

    taken_alike : (bus : ℕ) → taken_at p s k Io bus ≡ taken_at q s j Io bus
    taken_alike bus =
        let each = λ (r : FunctionPart). by_on (are_siblings q.roots bus r.function.slot.bus) (part_space r) (k.stays r) (j.stays r) (alike.stays r) in
        (λ i. lines_on q Io bus ++ map k.range (filter (λ r. each r i) (regions_same i)))
        ∙ ap (λ rs. lines_on q Io bus ++ rs) (map_in k.range j.range (filter (is_taken bus) (system_parts q s)) (λ r has.
        let beside = and_parts (are_siblings q.roots bus r.function.slot.bus && are_same_space Io (part_space r)) (j.stays r) (in_filter_to (is_taken bus) (system_parts q s) r has).1 in
        alike.range r (io_space (part_space r) (and_parts (are_siblings q.roots bus r.function.slot.bus) (are_same_space Io (part_space r)) beside.0).1)))
      where
        io_space : (space : Space) → are_same_space Io space ≡ true → space ≡ Io
        io_space Io same = refl
        io_space Memory same = absurd (let no : ⊥ = cc in no)

    module _ (d e : ℕ → List Placed) (same : (bus : ℕ) → d bus ≡ e bus) where
      behind_alike : (x : PlacingItem) (xs : List Range) → x.class ≡ IoWindow → (o : Option Function) → place_behind k d x xs o ≡ place_behind j e x xs o
      behind_alike x xs io None = refl
      behind_alike x xs io (Some b) =
          let stay = alike.stays (window_part x.class b) (ap window_space io) in
          let place = alike.place b x xs io in
          let placed = same b.slot.bus in
          λ i. if stay i then place i else first_place (placed_range (place_among (window_part x.class b) (placed i))) xs x.extent

      place_alike : (x : PlacingItem) (xs : List Range) → x.class ≡ IoWindow → place_of_item p s k d x xs ≡ place_of_item q s j e x xs
      place_alike x xs io =
          let bus = x.region.function.slot.bus in
          let root = on_root bus (is_high x.extent) x.class io in
          let behind = behind_alike x xs io (bridge_over s bus) in
          λ i. if is_root q.roots bus then first_place (root i) xs x.extent else behind i

    place_same : (depth bus : ℕ) → placing_within p s k Io depth bus ≡ placing_within q s j Io depth bus
    unfolding placing_within
    place_same zero bus = refl
    place_same (suc depth) bus =
        let d = λ (over : ℕ). placed_of (placing_within p s k Io depth over) in
        let e = λ (over : ℕ). placed_of (placing_within q s j Io depth over) in
        let taken = taken_alike bus in
        let items = items_same k.stays j.stays alike.stays (new_window p s IoWindow) (new_window q s IoWindow) (window_same 256) bus in
        (λ i. place_each (λ x xs. place_of_item p s k d x (taken_for q x.region xs)) (taken i) (items i))
        ∙ each_same (λ x xs. place_of_item p s k d x (taken_for q x.region xs)) (λ x xs. place_of_item q s j e x (taken_for q x.region xs)) (taken_at q s j Io bus) (space_items q s j Io bus)
        (λ x xs listed. place_alike d e (λ over. ap placed_of (place_same depth over)) x (taken_for q x.region xs)
        (each_in q s j Io bus (λ x. x.class ≡ IoWindow) (λ c of f on part is. io_class c of) (λ c of f on is. io_class c of) x listed))

    pub placing_alone : (bus : ℕ) → placing_on p s k Io bus ≡ placing_on q s j Io bus
    placing_alone bus = place_same 256 bus

  -- so it is with what stays as it stands
  pub standing_alike : AreAlikeInIo (as_it_stands p s) (as_it_stands q s)
  standing_alike = record { stays = stay_same; range = λ r io. refl; place = λ b x taken io. refl }

  -- ---- nothing stands in memory

  memory_class : (f : Function) (x : Part) → space_of f x ≡ Memory → window_space (class_in p s f x) ≡ Memory
  memory_class f x memory = space_of_class p s f x ∙ memory

  no_list : (bus : ℕ) (r : Range) (space : Space) → space ≡ Memory → is_in_lists p bus r space ≡ false
  no_list bus r Memory memory = refl
  no_list bus r Io memory = absurd (let no : ⊥ = cc in no)

  no_window : (test : FunctionPart → Bool) → ((r : FunctionPart) → part_space r ≡ Memory → test r ≡ false) → (c : WindowKind) → window_space c ≡ Memory → (r : Range) (o : Option Function) → is_in_window test c r o ≡ false
  no_window test none c memory r None = refl
  no_window test none c memory r (Some b) = and_right _ (test (window_part c b)) (none (window_part c b) memory)

  none_within : (others : ℕ) (r : FunctionPart) → part_space r ≡ Memory → stands_within p s others r ≡ false
  unfolding stands_within
  none_within zero r memory = refl
  none_within (suc others) r memory =
      let lists = no_list r.function.slot.bus (addresses r) (part_space r) memory in
      let window = no_window (stands_within p s others) (none_within others) (class_in p s r.function r.part) (memory_class r.function r.part memory) (addresses r) (bridge_over s r.function.slot.bus) in
      let place : is_in_place p s (stands_within p s others) r ≡ false = (λ i. if is_root q.roots r.function.slot.bus then lists i else window i) ∙ both_off (is_root q.roots r.function.slot.bus) in
      and_left _ _ (and_right _ _ place)
    where
      both_off : (b : Bool) → (if b then false else false) ≡ false
      both_off true = refl
      both_off false = refl

  pub none_in_memory : (r : FunctionPart) → part_space r ≡ Memory → stands p s r ≡ false
  none_in_memory r memory = none_within (length (system_parts p s)) r memory
