-- The places of a class are a table: largest first from the start of each bus.
use Rattle.std.proofs.Common.{◌≡◌, ℕ, zero, suc, ◌%◌, ◌^◌, ◌<◌, ◌≤◌, inl, inr, List, [], ◌∷◌, refl, true, false, ◌&&◌, arith, sym, ◌∙◌, ap, subst, map, length, get_or}
use Rattle.std.specs.Bool.{nat_lt, ◌==◌}
use Rattle.std.specs.List.{Contains, sum}
use Rattle.std.specs.List.Sorted.{IsStrictlyIncreasing}
use Rattle.std.proofs.lemmas.Bool.{cases_Bool, cases_lt, and_from, or_left, eq-eqb, lt-ltb}
use Rattle.std.proofs.lemmas.List.{get_or-map, length-map}
use Rattle.std.proofs.lemmas.List.Elements.{Contains-get_or}
use Rattle.std.proofs.lemmas.List.Sorted.{IsPermutation-sym, IsPermutation-map, Contains-permutation}
use Rattle.pci_spec.specs.Window.{WindowKind}
use Rattle.pci_spec.specs.System.{System, Function, IsSystem, Part, Window, is_bridge}
use Rattle.pci_spec.specs.Bus.{secondary, is_root, are_siblings, IsNested}
use Rattle.plan_spec.specs.Plan.{Pools, same_class, pool_of, limited, fits, greatest, raised_to}
use Rattle.plan_spec.specs.Place.{Item, window_item, items_beside, start_of, place_of}
use Rattle.plan_spec.specs.Planning.Placing.{IsFalling, starts}
use Rattle.plan_spec.specs.Planning.Room.{root_items}
use Rattle.plan_spec.specs.Planning.Numbers.{item_of, place_at}
use Rattle.plan_spec.specs.Planning.Table.{Item as PlacedPart, need_behind, is_placed, size_at, IsOnSide, IsPlacedOn, IsPlacing, IsTable}
use Rattle.pci_spec.proofs.Members.{in_nil, in_head, in_tail}
use Rattle.pci_spec.proofs.BusRanges.{ordered, behind_is_no_root, root_means}
use Rattle.plan_spec.proofs.Planning.Safe.{order_of}
use Rattle.plan_spec.proofs.Planning.Needed.{contained_le_sum}
use Rattle.plan_spec.proofs.Planning.Placement.{IsMultiple, mod_of_multiple, multiple_of_mod, multiple_trans, power_multiple, power_pos, window_least, placed}
use Rattle.plan_spec.proofs.Planning.Room.{raised, room_of_fit, greatest_is_first}
use Rattle.plan_spec.proofs.Planning.Rooms.{need_le, table_by_fit}
use Rattle.plan_spec.proofs.Planning.Tables.{class_itself}
use Rattle.plan_spec.proofs.Planning.Starts.{start_of_window, start_of_root}
use Rattle.plan_spec.proofs.Planning.Sizes.{item_sizes, sum_on_bus, sum_on_roots}
use Rattle.plan_spec.proofs.Planning.Greatest.{greatest_same, start_by_greatest}
use Rattle.plan_spec.proofs.Planning.Places.{beside_root}
use Rattle.plan_spec.proofs.Planning.Insertion.{ordered_permutes}
use Rattle.plan_spec.proofs.Planning.PlacedItems.{placed_part, part_placed, sorted_on, sorted_to, sorted_from, place_in_order, sorted_falling, sorted_sum}

map_same : {X Y Z : Type 0} (f : X → Y) (g : Y → Z) (h : X → Z) (xs : List X) → ((x : X) → Contains xs x → g (f x) ≡ h x) → map g (map f xs) ≡ map h xs
map_same f g h [] same = refl
map_same f g h (x ∷ xs) same =
    ap (λ z. z ∷ map g (map f xs)) (same x (in_head x xs))
    ∙ ap (λ zs. h x ∷ zs) (map_same f g h xs (λ y listed. same y (in_tail x xs y listed)))

-- no need is cut where the class fits
pub small_needs : (roots : List ℕ) (s : System) (pools : Pools) (c : WindowKind) → IsSystem s → IsNested roots s → fits roots s pools c ≡ true → (pool_of pools c).last < 2 ^ 64
    → (b : Function) → Contains s b → is_bridge b ≡ true → need_behind s pools c b ≤ 2 ^ 65
small_needs roots s pools c system nested fit low b listed bridge =
    let chain = need_le roots s pools c system nested (suc b.slot.bus) b (omega arith) listed bridge in
    elim (cases_lt 0 (sum (root_items roots s pools c))) [
      | inl some ↦ (let room = room_of_fit roots s pools c fit low some in omega (arith, chain, room, low))
      | inr none ↦ omega (arith, chain, none)
    ]

module _ (roots : List ℕ) (s : System) (pools : Pools) (c : WindowKind) (system : IsSystem s) (nested : IsNested roots s)
    (small : (b : Function) → Contains s b → is_bridge b ≡ true → need_behind s pools c b ≤ 2 ^ 65) where
  abbrev sorted : ℕ → List Item
  sorted bus = sorted_on roots s pools c system nested small bus

  abbrev sizes : ℕ → List ℕ
  sizes bus = item_sizes (sorted bus)

  abbrev parts : ℕ → List PlacedPart
  parts bus = map placed_part (sorted bus)

  -- the first item of a bus starts at a multiple of its size
  abbrev IsAligned : ℕ → Type 0
  IsAligned bus = 0 < length (sizes bus) → start_of roots s pools c bus % get_or (sizes bus) 0 0 ≡ 0

  part_sizes : (bus : ℕ) → map (size_at s pools c) (parts bus) ≡ sizes bus
  part_sizes bus =
      map_same placed_part (size_at s pools c) (λ (i : Item). i.size) (sorted bus) (λ i listed. (sorted_to roots s pools c system nested small bus i listed).part.size)

  -- ---- one bus

  module _ (bus : ℕ) where
    at_place : (k : ℕ) (d : PlacedPart) → k < length (parts bus)
        → place_at roots s pools (get_or (parts bus) k d).function (get_or (parts bus) k d).part ≡ get_or (starts (start_of roots s pools c bus) (map (size_at s pools c) (parts bus))) k 0
    at_place k d l =
        let e : Item = record { function = d.function; part = d.part; size = 0 } in
        let long = length-map (sorted bus) placed_part in
        let within : k < length (sorted bus) = omega (arith, long, l) in
        let i = get_or (sorted bus) k e in
        let is = (sorted_to roots s pools c system nested small bus i (Contains-get_or (sorted bus) k e within)).part in
        let part : get_or (parts bus) k d ≡ placed_part i = get_or-map placed_part (sorted bus) k e d within in
        ap (λ (p : PlacedPart). place_at roots s pools p.function p.part) part
        ∙ ap (λ x. place_of roots s pools x (item_of s pools i.function i.part)) is.class
        ∙ ap (place_of roots s pools c) is.whole
        ∙ place_in_order roots s pools c system nested small bus k e within
        ∙ ap (λ xs. get_or (starts (start_of roots s pools c bus) xs) k 0) (sym (part_sizes bus))

    all_there : (f : Function) (p : Part) → Contains s f → are_siblings roots bus f.slot.bus ≡ true → is_placed s pools c f p ≡ true
        → (k : ℕ) × (k < length (parts bus)) × ((d : PlacedPart) → get_or (parts bus) k d ≡ record { function = f; part = p })
    all_there f p listed beside there =
        let i = item_of s pools f p in
        let found = sorted_from roots s pools c system nested small bus f p listed beside there in
        let long = length-map (sorted bus) placed_part in
        let within = found.1 in
        (found.0, omega (arith, long, within), λ d. get_or-map placed_part (sorted bus) found.0 i d within ∙ ap placed_part found.2 ∙ part_placed s pools f p)

    -- what is placed on a bus, by its start and its sum
    placed_on : (Side : Function → Type 0) (total start : ℕ) → ((f : Function) → Contains s f → Side f → are_siblings roots bus f.slot.bus ≡ true)
        → start_of roots s pools c bus ≡ start → sum (item_sizes (items_beside roots s pools c bus)) ≡ total → IsAligned bus
        → IsPlacedOn (IsOnSide s pools c Side) (size_at s pools c) (place_at roots s pools) total start (parts bus)
    placed_on Side total start beside starts_at adds aligned = record {
      all = λ f p is. all_there f p is.0 (beside f is.0 is.1) is.2;
      falling = subst IsFalling (sym (part_sizes bus)) (sorted_falling roots s pools c system nested small bus);
      aligned = λ some.
          let long = length-map (sorted bus) placed_part in
          let count = length-map (sorted bus) (λ (i : Item). i.size) in
          subst (λ xs. start % get_or xs 0 0 ≡ 0) (sym (part_sizes bus)) (subst (λ n. n % get_or (sizes bus) 0 0 ≡ 0) starts_at (aligned (omega (arith, long, count, some))));
      at = λ k d l. at_place k d l ∙ ap (λ n. get_or (starts n (map (size_at s pools c) (parts bus))) k 0) starts_at;
      sums = ap sum (part_sizes bus) ∙ sorted_sum roots s pools c system nested small bus ∙ adds;
    }

  -- ---- starts are aligned

  root_aligned : (bus : ℕ) → is_root roots bus ≡ true → IsAligned bus
  root_aligned bus root some =
      let falling = sorted_falling roots s pools c system nested small bus in
      let head = get_or (sizes bus) 0 0 in
      let items = item_sizes (items_beside roots s pools c bus) in
      let same = IsPermutation-map (λ (i : Item). i.size) (items_beside roots s pools c bus) (sorted bus) (ordered_permutes (items_beside roots s pools c bus)) in
      let first : greatest items ≡ head =
      greatest_same items (sizes bus) (λ n listed. Contains-permutation items (sizes bus) n same listed) (λ n listed. Contains-permutation (sizes bus) items n (IsPermutation-sym items (sizes bus) same) listed)
      ∙ greatest_is_first (sizes bus) falling in
      let start : start_of roots s pools c bus ≡ raised_to head (pool_of pools c).first = start_of_root roots s pools c bus root ∙ ap (λ n. raised_to n (pool_of pools c).first) first in
      subst (λ n. n % head ≡ 0) (sym start) (raised head (pool_of pools c).first (power_pos head (falling.powers 0 some))).multiple

  -- no bridge leads to a root
  off_root : (b : Function) → Contains s b → is_bridge b ≡ true → is_root roots (secondary b) ≡ false
  off_root b listed bridge =
      let is = ordered b (nested.order b listed bridge) in
      behind_is_no_root roots b (nested.clear b listed bridge) (secondary b) record { low = omega arith; high = is.range }

  sum_behind : (b : Function) → Contains s b → is_bridge b ≡ true → sum (sizes (secondary b)) ≡ need_behind s pools c b
  sum_behind b listed bridge = sorted_sum roots s pools c system nested small (secondary b) ∙ sum_on_bus s pools c roots system nested (secondary b) (off_root b listed bridge)

  -- the window stands at a multiple of its own size, which is one of the first size behind it
  behind_aligned : (b : Function) → Contains s b → is_bridge b ≡ true → IsAligned b.slot.bus → IsAligned (secondary b)
  behind_aligned b listed bridge aligned some =
      let n = need_behind s pools c b in
      let head = get_or (sizes (secondary b)) 0 0 in
      let power = (sorted_falling roots s pools c system nested small (secondary b)).powers 0 some in
      let pos = power_pos head power in
      let below = contained_le_sum (sizes (secondary b)) head (Contains-get_or (sizes (secondary b)) 0 0 some) in
      let adds = sum_behind b listed bridge in
      let limit = small b listed bridge in
      let need : 0 < n = omega (arith, pos, below, adds) in
      let i = window_item s pools c b in
      let least = window_least c (limited n) (omega arith) in
      let enough = least.enough in
      let there : is_placed s pools c b (Window c) ≡ true =
      and_from (is_bridge b && same_class c c) (nat_lt 0 n) (and_from (is_bridge b) (same_class c c) bridge (class_itself c)) (lt-ltb 0 n need) in
      let beside : are_siblings roots b.slot.bus b.slot.bus ≡ true = or_left (b.slot.bus == b.slot.bus) (is_root roots b.slot.bus && is_root roots b.slot.bus) (eq-eqb b.slot.bus b.slot.bus refl) in
      let found : Contains (sorted b.slot.bus) i =
      sorted_from roots s pools c system nested small b.slot.bus b (Window c) listed beside there in
      let k = found.0 in
      let l = found.1 in
      let count = length-map (sorted b.slot.bus) (λ (j : Item). j.size) in
      let all = placed (start_of roots s pools c b.slot.bus) (sizes b.slot.bus) (sorted_falling roots s pools c system nested small b.slot.bus) aligned in
      let multiple = all.aligned k (omega (arith, count, l)) in
      let size : get_or (sizes b.slot.bus) k 0 ≡ i.size = get_or-map (λ (j : Item). j.size) (sorted b.slot.bus) k i 0 l ∙ ap (λ (j : Item). j.size) found.2 in
      let place : start_of roots s pools c (secondary b) ≡ get_or (starts (start_of roots s pools c b.slot.bus) (sizes b.slot.bus)) k 0 =
      start_of_window roots s pools c nested system b listed bridge ∙ ap (place_of roots s pools c) (sym found.2) ∙ place_in_order roots s pools c system nested small b.slot.bus k i l in
      let start_multiple : start_of roots s pools c (secondary b) % i.size ≡ 0 = ap (λ x. x % i.size) place ∙ ap (λ x. get_or (starts (start_of roots s pools c b.slot.bus) (sizes b.slot.bus)) k 0 % x) (sym size) ∙ multiple in
      let divides : IsMultiple i.size head = power_multiple i.size head least.power power (omega (arith, below, adds, limit, enough)) in
      mod_of_multiple (start_of roots s pools c (secondary b)) head
      (multiple_trans (start_of roots s pools c (secondary b)) i.size head (multiple_of_mod (start_of roots s pools c (secondary b)) i.size start_multiple) divides)

  all_aligned : (n : ℕ) (b : Function) → b.slot.bus < n → Contains s b → is_bridge b ≡ true → IsAligned (secondary b)
  all_aligned zero b less listed bridge = absurd (let impossible : ⊥ = omega (arith, less) in impossible)
  all_aligned (suc n) b less listed bridge =
      behind_aligned b listed bridge
      (elim (cases_Bool (is_root roots b.slot.bus)) [
        | inl root ↦ root_aligned b.slot.bus root
        | inr off ↦
            let one = nested.one b listed off in
            let d = one.0 in
            let leads = one.1 in
            let to = leads.2 in
            let rises = order_of roots s nested d leads.0 leads.1 in
            subst IsAligned to (all_aligned n d (omega (arith, less, rises, to)) leads.0 leads.1)
      ])

  -- ---- all buses

  placed_behind : (b : Function) → Contains s b → is_bridge b ≡ true
      → IsPlacedOn (IsOnSide s pools c (λ f. f.slot.bus ≡ secondary b)) (size_at s pools c) (place_at roots s pools) (need_behind s pools c b) (place_at roots s pools b (Window c)) (parts (secondary b))
  placed_behind b listed bridge =
      placed_on (secondary b) (λ f. f.slot.bus ≡ secondary b) (need_behind s pools c b) (place_at roots s pools b (Window c))
      (λ f in_f at. or_left (secondary b == f.slot.bus) (is_root roots (secondary b) && is_root roots f.slot.bus) (eq-eqb (secondary b) f.slot.bus (sym at)))
      (start_of_window roots s pools c nested system b listed bridge)
      (sum_on_bus s pools c roots system nested (secondary b) (off_root b listed bridge))
      (all_aligned (suc b.slot.bus) b (omega arith) listed bridge)

  abbrev RootPlacing : List PlacedPart → Type 0
  RootPlacing items =
      IsPlacedOn (IsOnSide s pools c (λ f. Contains roots f.slot.bus)) (size_at s pools c) (place_at roots s pools) (sum (root_items roots s pools c)) (raised_to (greatest (root_items roots s pools c)) (pool_of pools c).first) items

  placed_on_root : (bus : ℕ) → is_root roots bus ≡ true → IsStrictlyIncreasing roots → RootPlacing (parts bus)
  placed_on_root bus root rising =
      placed_on bus (λ f. Contains roots f.slot.bus) (sum (root_items roots s pools c)) (raised_to (greatest (root_items roots s pools c)) (pool_of pools c).first)
      (λ f in_f listed. beside_root roots bus f.slot.bus root ∙ (root_means roots f.slot.bus).1 listed)
      (start_by_greatest roots s pools c system nested bus root)
      (sum_on_roots s pools c roots system nested bus root rising)
      (root_aligned bus root)

  no_roots : roots ≡ [] → RootPlacing []
  no_roots none = record {
    all = λ f p is. absurd (in_nil f.slot.bus (subst (λ xs. Contains xs f.slot.bus) none is.1));
    falling = record { powers = λ k l. absurd (let impossible : ⊥ = omega (arith, l) in impossible); falling = λ j k lt l. absurd (let impossible : ⊥ = omega (arith, l) in impossible) };
    aligned = λ some. absurd (let impossible : ⊥ = omega (arith, some) in impossible);
    at = λ k d l. absurd (let impossible : ⊥ = omega (arith, l) in impossible);
    sums = sym (ap (λ some. sum (root_items some s pools c)) none);
  }

  placed_on_roots : (some : List ℕ) → roots ≡ some → IsStrictlyIncreasing roots → (items : List PlacedPart) × RootPlacing items
  placed_on_roots [] is rising = ([], no_roots is)
  placed_on_roots (bus ∷ some) is rising =
      (parts bus, placed_on_root bus ((root_means roots bus).1 (subst (λ xs. Contains xs bus) (sym is) (in_head bus some))) rising)

-- The places of a class that fits are what placing largest first shows.
pub places_are_placing : (roots : List ℕ) (s : System) (pools : Pools) (c : WindowKind) → IsSystem s → IsNested roots s → IsStrictlyIncreasing roots
    → fits roots s pools c ≡ true → (pool_of pools c).last < 2 ^ 64 → IsPlacing roots s pools c (place_at roots s pools)
places_are_placing roots s pools c system nested rising fit low =
    let small = small_needs roots s pools c system nested fit low in
    let on_roots = placed_on_roots roots s pools c system nested small roots refl rising in
    record {
      placed_roots = on_roots.0;
      on_roots = on_roots.1;
      behind_items = λ b. parts roots s pools c system nested small (secondary b);
      behind = λ b listed bridge some. placed_behind roots s pools c system nested small b listed bridge;
    }

-- and so they are a table
pub table_of_places : (roots : List ℕ) (s : System) (pools : Pools) (c : WindowKind) → IsSystem s → IsNested roots s → IsStrictlyIncreasing roots
    → fits roots s pools c ≡ true → (pool_of pools c).last < 2 ^ 64 → IsTable roots s pools c (place_at roots s pools)
table_of_places roots s pools c system nested rising fit low =
    table_by_fit roots s pools c system nested (place_at roots s pools) fit low (places_are_placing roots s pools c system nested rising fit low)
