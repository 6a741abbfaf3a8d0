-- The worked tree's plan: all that a plan promises is met at once.
use Rattle.std.proofs.Common.{◌≡◌, ℕ, zero, suc, ◌+◌, ◌-◌, ◌<◌, ◌≤◌, List, [], ◌∷◌, ◌&&◌, ◌||◌, refl, Bool, true, false, length, arith, lit<, lit≤, subst, inr, take, not, ap, ◌∙◌}
use Rattle.std.specs.Bool.{IsTrue, nat_lt, ◌==◌}
use Rattle.std.specs.List.{All, Contains, list_all, AllZip}
use Rattle.std.proofs.lemmas.Bool.{and_parts, ltb-true, eqb-true}
use Rattle.pci_spec.specs.Number.{has_bit}
use Rattle.pci_spec.specs.Header.{command, layout, bar_count}
use Rattle.pci_spec.specs.Window.{WindowKind, IoWindow, MemoryWindow, PrefetchWindow}
use Rattle.pci_spec.specs.Bar.{has_bar}
use Rattle.pci_spec.specs.Decoded.{Range}
use Rattle.pci_spec.specs.System.{Function, Part, Bar, Rom, Window, Io, Memory}
use Rattle.pci_spec.specs.Sound.{IsSound}
use Rattle.pci_spec.specs.Machine.{system_after}
use Rattle.plan_spec.specs.Plan.{raised_to, greatest, class_of, wants, IsMoved, items_within, doubled_to}
use Rattle.plan_spec.specs.Place.{start_within}
use Rattle.plan_spec.specs.PlanPromise.{IsPlanOf, changes_between}
use Rattle.plan_spec.specs.Planning.Layout.{range_of, is_item, IsSwitchedOn}
use Rattle.plan_spec.specs.Planning.Room.{root_items}
use Rattle.plan_spec.specs.Planning.Safety.{IsSafe}
use Rattle.plan_spec.specs.Planning.PlanWrites.{Change, plan_writes}
use Rattle.plan_spec.specs.Planning.Table.{size_at, IsOnSide, IsPlacedOn, IsPlacing, IsTable, IsShown, is_placed, size_in, need_behind}
use Rattle.plan_spec.proofs.Planning.Behind.{all_gives}
use Rattle.plan_spec.proofs.Planning.Rooms.{table_by_fit}
use Rattle.plan_spec.proofs.Planning.Planned.{sound_by_table}
use Rattle.plan_spec.proofs.Planning.Reached.{writes_reach}
use Rattle.plan_spec.proofs.Planning.EachChanges.{each_changes, few_writes}
use Rattle.plan_spec.proofs.Planning.Stops.{plan_can_stop}
use Rattle.plan_spec.proofs.Planning.Safe.{off_safe}
use Rattle.pci_spec.proofs.Examples.Samples.{host, range}
use Rattle.plan_spec.proofs.Examples.Plans.{pools}
use Rattle.plan_spec.proofs.Examples.Placed.{start, planned}
use Rattle.plan_spec.proofs.Examples.Planned.{old_bridge, new_bridge, old_device, new_device, old_behind, new_behind, bridge_moved, device_moved, behind_moved, each_of_planned, everything_is_placed, no}
use Rattle.plan_spec.proofs.Examples.Filled.{each_of_start, tree_can_be_planned}
use Rattle.plan_spec.proofs.Examples.InPlace.{tree_is_in_place}
use Rattle.plan_spec.proofs.Examples.Admitted.{tree_is_a_system, tree_is_nested, tree_decodes, tree_has_chains, tree_is_in_profile}
use Rattle.plan_spec.proofs.Examples.Table.{first, memory_is_a_table}

-- ---- the parts of a function, one by one

abbrev all_parts : List Part
all_parts = Bar 0 ∷ Bar 1 ∷ Bar 2 ∷ Bar 3 ∷ Bar 4 ∷ Bar 5 ∷ Rom ∷ Window IoWindow ∷ Window MemoryWindow ∷ Window PrefetchWindow ∷ []

bar_is_one : (n : ℕ) → n < 6 → Contains all_parts (Bar n)
bar_is_one zero less = (0, lit< tt, refl)
bar_is_one (suc zero) less = (1, lit< tt, refl)
bar_is_one (suc (suc zero)) less = (2, lit< tt, refl)
bar_is_one (suc (suc (suc zero))) less = (3, lit< tt, refl)
bar_is_one (suc (suc (suc (suc zero)))) less = (4, lit< tt, refl)
bar_is_one (suc (suc (suc (suc (suc zero))))) less = (5, lit< tt, refl)
bar_is_one (suc (suc (suc (suc (suc (suc n)))))) less = absurd (let no : ⊥ = omega (arith, less) in no)

item_is_one : (f : Function) → bar_count (layout f.image) ≤ 6 → (p : Part) → IsTrue (is_item f p) → Contains all_parts p
item_is_one f few (Bar n) there = let less = ltb-true n (bar_count (layout f.image)) (and_parts (nat_lt n (bar_count (layout f.image))) (has_bar f.probe n) there).0 in bar_is_one n (omega (arith, less, few))
item_is_one f few Rom there = (6, lit< tt, refl)
item_is_one f few (Window IoWindow) there = (7, lit< tt, refl)
item_is_one f few (Window MemoryWindow) there = (8, lit< tt, refl)
item_is_one f few (Window PrefetchWindow) there = (9, lit< tt, refl)

placed_is_one : (c : WindowKind) (f : Function) → bar_count (layout f.image) ≤ 6 → (p : Part) → IsTrue (is_placed start pools c f p) → Contains all_parts p
placed_is_one c f few (Bar n) there = item_is_one f few (Bar n) (and_parts (is_item f (Bar n)) _ there).0
placed_is_one c f few Rom there = (6, lit< tt, refl)
placed_is_one c f few (Window IoWindow) there = (7, lit< tt, refl)
placed_is_one c f few (Window MemoryWindow) there = (8, lit< tt, refl)
placed_is_one c f few (Window PrefetchWindow) there = (9, lit< tt, refl)

-- what isn't so, or else is such, is such where it is so
given : (test other : Bool) → (not test || other) ≡ true → test ≡ true → other ≡ true
given true other h is = h
given false other h is = absurd (no is)

-- ---- nothing of I/O, nor of prefetchable memory

abbrev HasNone : WindowKind → Function → Type 0
HasNone c f = (p : Part) → IsTrue (is_placed start pools c f p) → ⊥

none_by : (c : WindowKind) (f : Function) → bar_count (layout f.image) ≤ 6 → list_all (λ p. not (is_placed start pools c f p)) all_parts ≡ true → HasNone c f
none_by c f few h p there = no (subst (λ b. not b ≡ true) there (all_gives (λ p. not (is_placed start pools c f p)) all_parts p h (placed_is_one c f few p there)))

no_io : (f : Function) → Contains start f → HasNone IoWindow f
unfolding items_within doubled_to
no_io = each_of_start (HasNone IoWindow) (none_by IoWindow old_bridge (lit≤ tt) refl) (none_by IoWindow old_device (lit≤ tt) refl) (none_by IoWindow old_behind (lit≤ tt) refl)

no_prefetchable : (f : Function) → Contains start f → HasNone PrefetchWindow f
unfolding items_within doubled_to
no_prefetchable = each_of_start (HasNone PrefetchWindow) (none_by PrefetchWindow old_bridge (lit≤ tt) refl) (none_by PrefetchWindow old_device (lit≤ tt) refl) (none_by PrefetchWindow old_behind (lit≤ tt) refl)

placed_on_none : (c : WindowKind) (Side : Function → Type 0) (at : ℕ) → ((f : Function) → Contains start f → HasNone c f) → IsPlacedOn (IsOnSide start pools c Side) (size_at start pools c) first 0 at []
placed_on_none c Side at nothing = record {
  all = λ f p is. absurd (nothing f is.0 p is.2);
  falling = record { powers = λ k less. absurd (let no : ⊥ = omega (arith, less) in no); falling = λ j k below less. absurd (let no : ⊥ = omega (arith, less) in no) };
  aligned = λ some. absurd (let no : ⊥ = omega (arith, some) in no);
  at = λ k d less. absurd (let no : ⊥ = omega (arith, less) in no);
  sums = refl;
}

io_is_placed : IsPlacing host start pools IoWindow first
unfolding items_within doubled_to
io_is_placed = record {
  placed_roots = [];
  on_roots = placed_on_none IoWindow (λ f. Contains host f.slot.bus) (raised_to (greatest (root_items host start pools IoWindow)) 0x1000) no_io;
  behind_items = λ b. [];
  behind = λ b listed bridge some. absurd (each_of_start (λ b. 0 < need_behind start pools IoWindow b → ⊥) (λ some. let no : ⊥ = omega (arith, some) in no) (λ some. let no : ⊥ = omega (arith, some) in no) (λ some. let no : ⊥ = omega (arith, some) in no) b listed some);
}

prefetchable_is_placed : IsPlacing host start pools PrefetchWindow first
unfolding items_within doubled_to
prefetchable_is_placed = record {
  placed_roots = [];
  on_roots = placed_on_none PrefetchWindow (λ f. Contains host f.slot.bus) (raised_to (greatest (root_items host start pools PrefetchWindow)) 0x100000000) no_prefetchable;
  behind_items = λ b. [];
  behind = λ b listed bridge some. absurd (each_of_start (λ b. 0 < need_behind start pools PrefetchWindow b → ⊥) (λ some. let no : ⊥ = omega (arith, some) in no) (λ some. let no : ⊥ = omega (arith, some) in no) (λ some. let no : ⊥ = omega (arith, some) in no) b listed some);
}

tables : (c : WindowKind) → IsTable host start pools c first
tables IoWindow = table_by_fit host start pools IoWindow tree_is_a_system tree_is_nested first (tree_can_be_planned.room IoWindow) (lit< tt) io_is_placed
tables MemoryWindow = memory_is_a_table
tables PrefetchWindow = table_by_fit host start pools PrefetchWindow tree_is_a_system tree_is_nested first (tree_can_be_planned.room PrefetchWindow) (lit< tt) prefetchable_is_placed

-- ---- the registers show it

abbrev is_range : Range → Range → Bool
is_range r q = r.first == q.first && r.last == q.last

same_range : (r q : Range) → is_range r q ≡ true → r ≡ q
same_range r q h = let parts = and_parts (r.first == q.first) (r.last == q.last) h in let f = eqb-true r.first q.first parts.0 in let l = eqb-true r.last q.last parts.1 in ap (λ n. range n r.last) f ∙ ap (λ n. range q.first n) l

abbrev where_placed : WindowKind → Function → Part → Range
where_placed c f p = record { first = first f p; last = first f p + (size_in start pools c f p - 1) }

abbrev shows_it : WindowKind → Function → Function → Part → Bool
shows_it c f g p = not (is_placed start pools c f p) || is_range (range_of g p) (where_placed c f p)

abbrev has_its_class : Function → Function → Part → Bool
has_its_class f g p = not (is_item g p) || is_placed start pools (class_of planned pools g p) f p

shown_by : (f g : Function) → bar_count (layout f.image) ≤ 6 → bar_count (layout g.image) ≤ 6 → IsMoved f g
    → ((c : WindowKind) → list_all (shows_it c f g) all_parts ≡ true)
    → ((c : WindowKind) → IsTrue (is_placed start pools c f (Window c)) → IsTrue (is_item g (Window c)))
    → list_all (has_its_class f g) all_parts ≡ true → IsShown start planned pools first f g
shown_by f g few few_too moved shows opens only = record {
  moved = moved;
  shows = λ c p there. same_range (range_of g p) (where_placed c f p)
      (given (is_placed start pools c f p) (is_range (range_of g p) (where_placed c f p)) (all_gives (shows_it c f g) all_parts p (shows c) (placed_is_one c f few p there)) there);
  opens = opens;
  only = λ p there. given (is_item g p) (is_placed start pools (class_of planned pools g p) f p) (all_gives (has_its_class f g) all_parts p only (item_is_one g few_too p there)) there;
}

abbrev Opens : Function → Function → WindowKind → Type 0
Opens f g c = IsTrue (is_placed start pools c f (Window c)) → IsTrue (is_item g (Window c))

bridge_shows : (c : WindowKind) → list_all (shows_it c old_bridge new_bridge) all_parts ≡ true
unfolding start_within items_within doubled_to
bridge_shows IoWindow = refl
bridge_shows MemoryWindow = refl
bridge_shows PrefetchWindow = refl

bridge_opens : (c : WindowKind) → Opens old_bridge new_bridge c
unfolding items_within doubled_to
bridge_opens IoWindow there = absurd (no there)
bridge_opens MemoryWindow there = refl
bridge_opens PrefetchWindow there = absurd (no there)

bridge_is_shown : IsShown start planned pools first old_bridge new_bridge
unfolding items_within doubled_to
bridge_is_shown = shown_by old_bridge new_bridge (lit≤ tt) (lit≤ tt) bridge_moved bridge_shows bridge_opens refl

device_shows : (c : WindowKind) → list_all (shows_it c old_device new_device) all_parts ≡ true
unfolding start_within items_within doubled_to
device_shows IoWindow = refl
device_shows MemoryWindow = refl
device_shows PrefetchWindow = refl

device_opens : (c : WindowKind) → Opens old_device new_device c
unfolding items_within doubled_to
device_opens IoWindow there = absurd (no there)
device_opens MemoryWindow there = absurd (no there)
device_opens PrefetchWindow there = absurd (no there)

device_is_shown : IsShown start planned pools first old_device new_device
unfolding items_within doubled_to
device_is_shown = shown_by old_device new_device (lit≤ tt) (lit≤ tt) device_moved device_shows device_opens refl

behind_shows : (c : WindowKind) → list_all (shows_it c old_behind new_behind) all_parts ≡ true
unfolding start_within items_within doubled_to
behind_shows IoWindow = refl
behind_shows MemoryWindow = refl
behind_shows PrefetchWindow = refl

behind_opens : (c : WindowKind) → Opens old_behind new_behind c
unfolding items_within doubled_to
behind_opens IoWindow there = absurd (no there)
behind_opens MemoryWindow there = absurd (no there)
behind_opens PrefetchWindow there = absurd (no there)

behind_is_shown : IsShown start planned pools first old_behind new_behind
unfolding items_within doubled_to
behind_is_shown = shown_by old_behind new_behind (lit≤ tt) (lit≤ tt) behind_moved behind_shows behind_opens refl

tree_is_shown : AllZip (IsShown start planned pools first) start planned
tree_is_shown = (bridge_is_shown, (device_is_shown, (behind_is_shown, tt)))

-- ---- what is planned is sound, and so was the start

pub tree_is_switched_on : IsSwitchedOn planned
tree_is_switched_on = record {
  io = each_of_planned (λ f. has_bit (command f.image) 0 ≡ wants f Io) refl refl refl;
  memory = each_of_planned (λ f. has_bit (command f.image) 1 ≡ wants f Memory) refl refl refl;
}

pub planned_tree_is_sound : IsSound host planned
planned_tree_is_sound = sound_by_table host start planned pools tree_is_a_system tree_is_nested tree_decodes first tree_is_shown tables tree_is_switched_on tree_is_in_profile tree_has_chains refl

start_is_safe : IsSafe host start
start_is_safe = off_safe host start (each_of_start _ refl refl refl)

pub start_is_sound : IsSound host start
start_is_sound = record { single = start_is_safe.single; home = start_is_safe.home; nested = tree_is_nested; profile = tree_is_in_profile; chains = tree_has_chains }

-- ---- the plan

abbrev changes : List Change
changes = changes_between start planned

tree_moves : All (λ (c : Change). IsMoved c.old c.new) changes
tree_moves zero d less = bridge_moved
tree_moves (suc zero) d less = device_moved
tree_moves (suc (suc zero)) d less = behind_moved
tree_moves (suc (suc (suc k))) d less = absurd (let no : ⊥ = omega (arith, less) in no)

each_change : (k : ℕ) → k < length (plan_writes changes) → system_after start (take (k + 1) (plan_writes changes)) ≡ system_after start (take k (plan_writes changes)) → ⊥
each_change k less =
    let next : suc k ≡ k + 1 = omega arith in
    subst (λ n. system_after start (take n (plan_writes changes)) ≡ system_after start (take k (plan_writes changes)) → ⊥) next (each_changes changes tree_is_a_system tree_moves k less)

pub tree_has_a_plan : IsPlanOf host start planned pools (plan_writes (changes_between start planned)) 0
tree_has_a_plan = record {
  planned = everything_is_placed;
  placed = tree_is_in_place;
  sound = planned_tree_is_sound;
  roms = planned_tree_is_sound;
  writes = refl;
  reached = writes_reach changes tree_is_a_system tree_moves;
  changes = each_change;
  few = few_writes changes;
  safe = record { at_once = (λ none. start_is_sound, λ sound. refl); closed = λ unsound. absurd (unsound start_is_sound) };
  stops = λ k from. plan_can_stop host changes record { system = tree_is_a_system; moved = tree_moves } tree_is_nested tree_is_in_profile tree_has_chains planned_tree_is_sound k (inr start_is_sound);
}
