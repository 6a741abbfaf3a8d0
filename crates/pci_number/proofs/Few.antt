-- How many writes numbering makes, place by place.
use Rattle.std.proofs.Common.{◌≡◌, ℕ, ◌+◌, ◌*◌, ◌<◌, ◌≤◌, inl, inr, Bool, true, false, arith, refl, sym, ◌∙◌, ap, List}
use Rattle.std.proofs.lemmas.Bool.{cases_Bool}
use Rattle.pci_spec.specs.Slot.{Slot}
use Rattle.pci_number.specs.Board.{Nodes, NoMore, Node, Board, is_type_1}
use Rattle.pci_number.specs.Access.{nodes_behind}
use Rattle.pci_number.specs.Walk.{is_walkable, all_after}
use Rattle.pci_number.specs.Numbered.{without_numbers}
use Rattle.pci_number.specs.NoBus.{bridges}
use Rattle.pci_number.proofs.Kept.{kind_stays}
use Rattle.pci_number.specs.Seen.{View, code, IsSeen, IsClosed}
use Rattle.pci_number.specs.Steps.{IsNumberPut, IsLooked, IsShownAt, IsHushed, IsBusOpened}
use Rattle.pci_number.specs.Few.{bridges_on, IsFew, IsHushFew, IsOpenFew, IsBusFew}
use Rattle.pci_number.specs.declared.look.Found.{Found}
use Rattle.pci_number.specs.declared.walk.Walk.{Walk}
use Rattle.pci_number.specs.Walked.{outset}
use Rattle.pci_number.proofs.Opening.{shows_another, open_hushed, opened_inside}
use Rattle.pci_number.proofs.Passing.{OfBus, OfClosed, Came, came_first, came_past, at_bridge, came_beyond}
use Rattle.pci_number.proofs.Places.{IsPlaceOf}
use Rattle.pci_number.proofs.RootView.{same_nodes}
use Rattle.pci_number.proofs.Roots.{root_view, seen_root, at_root_now, start}
use Rattle.pci_number.proofs.Views.{inside, seen_alone}
use Rattle.pci_number.proofs.Walking.{one_more, IsBegun}

-- ---- how many bridges there are

with_bridge : (d f : ℕ) (image : List ℕ) (behind others : Nodes) → is_type_1 image ≡ true → (bridges (Node d f image behind others) ≡ 1 + bridges behind + bridges others) × (bridges_on (Node d f image behind others) ≡ 1 + bridges_on others)
with_bridge d f image behind others bridge = (rw bridge refl, rw bridge refl)

with_device : (d f : ℕ) (image : List ℕ) (behind others : Nodes) → is_type_1 image ≡ false → (bridges (Node d f image behind others) ≡ bridges others) × (bridges_on (Node d f image behind others) ≡ bridges_on others)
with_device d f image behind others plain = (rw plain refl, rw plain refl)

some_on : (nodes : Nodes) → bridges_on nodes ≤ bridges nodes
some_on NoMore = omega arith
some_on (Node d f image behind others) = elim (cases_Bool (is_type_1 image)) [
  | inl bridge ↦ omega (arith, with_bridge d f image behind others bridge, some_on others)
  | inr plain ↦ omega (arith, with_device d f image behind others plain, some_on others)
]

-- how many doesn't hang on bus numbers
bridges_stay : (nodes : Nodes) → bridges (without_numbers nodes) ≡ bridges nodes
bridges_stay NoMore = refl
bridges_stay (Node d f image behind others) = rw (kind_stays image, bridges_stay behind, bridges_stay others) refl

on_stays : (nodes : Nodes) → bridges_on (without_numbers nodes) ≡ bridges_on nodes
on_stays NoMore = refl
on_stays (Node d f image behind others) = rw (kind_stays image, on_stays others) refl

pub same_bridges : (after before : Nodes) → without_numbers after ≡ without_numbers before → bridges after ≡ bridges before
same_bridges after before same = sym (bridges_stay after) ∙ ap bridges same ∙ bridges_stay before

pub same_on : (after before : Nodes) → without_numbers after ≡ without_numbers before → bridges_on after ≡ bridges_on before
same_on after before same = sym (on_stays after) ∙ ap bridges_on same ∙ on_stays before

-- ---- closing the bridges on a bus

-- what is known of the nodes from a place on
abbrev HushCount : Nodes → ℕ → ℕ → View → Nodes → Type 0
HushCount nodes made total view left = total + 3 * bridges_on left ≤ made + 3 * bridges_on nodes

abbrev pub IsHushCounted : Board → ℕ → ℕ → Bool → Board → ℕ → ℕ → Type 0
IsHushCounted before bus place more now made total = OfBus before bus (λ v nodes. Came now bus place 0 0 more (HushCount nodes made total))

pub hush_count_start : (before : Board) (bus made : ℕ) → IsHushCounted before bus 0 false before made made
hush_count_start before bus made = λ v high last nodes is seen walkable. came_first before bus 0 0 (HushCount nodes made made) v nodes is (seen_alone v bus 0 high last seen) walkable (omega arith)

pub hush_count_pass : (before now : Board) (slot : Slot) (bus place : ℕ) (more : Bool) (found : Found) (made total : ℕ) → IsPlaceOf slot bus place → IsLooked now slot more found → found.bridge ≡ false → IsHushCounted before bus place more now made total → IsHushCounted before bus (place + 1) found.more now made total
hush_count_pass before now slot bus place more found made total at looked none counted = λ v high last nodes is seen walkable.
    came_past now slot bus place 0 0 more found (HushCount nodes made total) at looked none (counted v high last nodes is seen walkable) (λ view image behind others plain few. omega (arith, few, with_device slot.device slot.function image behind others plain))

pub hush_count_close : (before now after : Board) (slot : Slot) (bus place : ℕ) (more : Bool) (found : Found) (made total more_made : ℕ) → IsPlaceOf slot bus place → IsLooked now slot more found → found.bridge ≡ true → IsShownAt now slot 0 0 0 after → more_made ≤ total + 3 → IsHushCounted before bus place more now made total → IsHushCounted before bus (place + 1) found.more after made more_made
hush_count_close before now after slot bus place more found made total more_made at looked one shown three counted = λ v high last nodes is seen walkable.
    let b = at_bridge now slot bus place 0 0 more found (HushCount nodes made total) at looked one (counted v high last nodes is seen walkable) in
    let s = shown b.view 0 0 b.image b.behind b.others b.is b.seen b.alone in
    came_beyond now after slot bus place 0 0 0 found.more (HushCount nodes made total) (HushCount nodes made more_made) b s.0 b.behind 0 0 0 at s.1 s.3 (omega arith) (omega arith) (omega arith)
    (omega (arith, b.known, three, with_bridge slot.device slot.function b.image b.behind b.others b.bridge))

pub hush_few : (before now : Board) (bus place : ℕ) (more : Bool) (made total : ℕ) → IsHushCounted before bus place more now made total → IsHushFew before bus made total
hush_few before now bus place more made total counted = λ v high last nodes is seen walkable. omega (arith, (counted v high last nodes is seen walkable).3)

pub hush_few_close : (before now : Board) (slot : Slot) (bus place : ℕ) (more : Bool) (found : Found) (made total more_made : ℕ) → IsPlaceOf slot bus place → IsLooked now slot more found → found.bridge ≡ true → more_made ≤ total + 3 → IsHushCounted before bus place more now made total → IsHushFew before bus made more_made
hush_few_close before now slot bus place more found made total more_made at looked one three counted = λ v high last nodes is seen walkable.
    let b = at_bridge now slot bus place 0 0 more found (HushCount nodes made total) at looked one (counted v high last nodes is seen walkable) in
    omega (arith, b.known, three, with_bridge slot.device slot.function b.image b.behind b.others b.bridge)

-- ---- a bridge gets a bus

pub open_few : (before first : Board) (slot : Slot) (bus last made shown_by hushed_by total : ℕ) → IsShownAt before slot slot.bus bus bus first → shown_by ≤ made + 3 → IsHushFew first bus shown_by hushed_by → total ≤ hushed_by + 1 → IsOpenFew before slot bus last made total
open_few before first slot bus last made shown_by hushed_by total show three hush one = λ v high image behind others is seen alone bridge closed walkable over within.
    let s = show v high last image behind others is seen alone in
    omega (arith, three, one, hush (inside v slot.device slot.function s.0 others) bus bus behind s.1 (open_hushed v high last slot bus s.0 others seen (s.2.kind ∙ bridge) s.3 over within closed) walkable)

-- ---- the walk over a bus

-- what is known of the nodes from a place on
abbrev pub WalkCount : Nodes → ℕ → ℕ → View → Nodes → Type 0
WalkCount nodes made total view left = IsClosed left × (total + 8 * bridges left + 3 * bridges_on nodes ≤ made + 8 * bridges nodes + 3 * bridges_on left)

abbrev pub IsWalkCounted : Board → ℕ → ℕ → Walk → ℕ → Bool → Walk → Board → ℕ → ℕ → Type 0
IsWalkCounted before bus last start place more walk now made total = OfClosed before bus start.taken last (λ v nodes. Came now bus place walk.taken last more (WalkCount nodes made total))

pub walk_count_start : (before : Board) (bus last : ℕ) (start : Walk) (made : ℕ) → IsWalkCounted before bus last start 0 false start before made made
walk_count_start before bus last start made = λ v nodes is seen walkable closed. came_first before bus start.taken last (WalkCount nodes made made) v nodes is seen walkable (closed, omega arith)

pub walk_count_pass : (before now : Board) (slot : Slot) (bus place last : ℕ) (start walk : Walk) (more : Bool) (found : Found) (made total : ℕ) → IsPlaceOf slot bus place → IsLooked now slot more found → found.bridge ≡ false → IsWalkCounted before bus last start place more walk now made total → IsWalkCounted before bus last start (place + 1) found.more walk now made total
walk_count_pass before now slot bus place last start walk more found made total at looked none counted = λ v nodes is seen walkable closed.
    came_past now slot bus place walk.taken last more found (WalkCount nodes made total) at looked none (counted v nodes is seen walkable closed) (λ view image behind others plain so_far.
    (so_far.0.1, omega (arith, so_far.1, with_device slot.device slot.function image behind others plain)))

-- numbers ran out
pub walk_count_without : (before now : Board) (slot : Slot) (bus place last : ℕ) (start walk after : Walk) (more : Bool) (found : Found) (made total : ℕ) → IsPlaceOf slot bus place → IsLooked now slot more found → found.bridge ≡ true → after.taken ≡ walk.taken → IsWalkCounted before bus last start place more walk now made total → IsWalkCounted before bus last start (place + 1) found.more after now made total
walk_count_without before now slot bus place last start walk after more found made total at looked one same_taken counted = λ v nodes is seen walkable closed.
    let b = at_bridge now slot bus place walk.taken last more found (WalkCount nodes made total) at looked one (counted v nodes is seen walkable closed) in
    came_beyond now now slot bus place walk.taken after.taken last found.more (WalkCount nodes made total) (WalkCount nodes made total) b b.image b.behind 0 0 0 at b.is (b.known.0.0 b.bridge) (omega arith) (omega arith) (omega (arith, same_taken))
    (b.known.0.1, omega (arith, b.known.1, with_bridge slot.device slot.function b.image b.behind b.others b.bridge))

-- so many writes are made until all behind a bridge have their numbers, as it is seen from the bus
abbrev pub IsBegunFew : Board → Slot → ℕ → ℕ → ℕ → ℕ → Type 0
IsBegunFew now slot last taken total far_by = (view : View) (image : List ℕ) (behind others : Nodes) → now ≡ view.fill (Node slot.device slot.function image behind others) → IsSeen view slot.bus (code slot) taken last → all_after slot.device slot.function others ≡ true → is_type_1 image ≡ true → IsClosed others → is_walkable behind ≡ true → far_by ≤ total + 4 + 8 * bridges behind

pub begun_few_alone : (now : Board) (slot : Slot) (last : ℕ) (walk : Walk) (total opened_by : ℕ) → walk.taken < last → IsOpenFew now slot (walk.taken + 1) last total opened_by → IsBegunFew now slot last walk.taken total opened_by
begun_few_alone now slot last walk total opened_by left few = λ view image behind others is seen alone bridge closed walkable.
    omega (arith, few view walk.taken image behind others is seen alone bridge closed walkable (omega arith) (omega (arith, left)), some_on behind)

pub begun_few_wide : (spare : ℕ) (now mid : Board) (slot : Slot) (last : ℕ) (walk : Walk) (total opened_by far_by : ℕ) → walk.taken < last → IsBusOpened now slot (walk.taken + 1) last true mid → IsOpenFew now slot (walk.taken + 1) last total opened_by → IsBusFew mid (outset (walk.taken + 1) last spare (one_more walk)) opened_by far_by → IsBegunFew now slot last walk.taken total far_by
begun_few_wide spare now mid slot last walk total opened_by far_by left gets few bus = λ view image behind others is seen alone bridge closed walkable.
    let o = opened_inside now mid slot (walk.taken + 1) last gets view walk.taken image behind others is seen alone bridge closed walkable (omega arith) (omega (arith, left)) in
    let behind_it = bus (inside view slot.device slot.function o.new others) o.nodes o.is o.seen o.walkable o.closed in
    omega (arith, few view walk.taken image behind others is seen alone bridge closed walkable (omega arith) (omega (arith, left)), behind_it, same_bridges o.nodes behind o.same, same_on o.nodes behind o.same)

pub walk_count_led : (before now far later : Board) (slot : Slot) (bus place spare last : ℕ) (start walk after_behind after : Walk) (more : Bool) (found : Found) (made total far_by put_by : ℕ) → IsPlaceOf slot bus place → IsLooked now slot more found → found.bridge ≡ true → walk.taken < last → IsBegun spare now far slot last walk after_behind → IsNumberPut far slot 0x1a after.taken later → after_behind.taken ≤ after.taken → IsBegunFew now slot last walk.taken total far_by → put_by ≤ far_by + 1 → IsWalkCounted before bus last start place more walk now made total → IsWalkCounted before bus last start (place + 1) found.more after later made put_by
walk_count_led before now far later slot bus place spare last start walk after_behind after more found made total far_by put_by at looked one left begun put above far_few put_few counted = λ v nodes is seen walkable closed.
    let b = at_bridge now slot bus place walk.taken last more found (WalkCount nodes made total) at looked one (counted v nodes is seen walkable closed) in
    let a = begun b.view b.image b.behind b.others b.is b.seen b.alone b.bridge b.known.0.1 b.inner in
    let p = put b.view walk.taken last a.new a.nodes b.others a.is b.seen b.alone in
    let numbers = shows_another a.new p.0 slot.bus (walk.taken + 1) a.leads after.taken a.numbers p.2 p.3 in
    let up : walk.taken + 1 ≤ after.taken = omega (arith, a.above, above) in
    came_beyond now later slot bus place walk.taken after.taken last found.more (WalkCount nodes made total) (WalkCount nodes made put_by) b p.0 a.nodes slot.bus (walk.taken + 1) after.taken at p.1 numbers up (omega arith) (omega (arith, up))
    (b.known.0.1, omega (arith, b.known.1, with_bridge slot.device slot.function b.image b.behind b.others b.bridge, far_few b.view b.image b.behind b.others b.is b.seen b.alone b.bridge b.known.0.1 b.inner, put_few))

-- ---- where it stops

pub walk_few : (spare : ℕ) (before now : Board) (bus last place : ℕ) (start walk : Walk) (more : Bool) (made total : ℕ) → IsWalkCounted before bus last start place more walk now made total → IsBusFew before (outset bus last spare start) made total
walk_few spare before now bus last place start walk more made total counted = λ v nodes is seen walkable closed.
    let h = counted v nodes is seen walkable closed in
    omega (arith, h.3.1, some_on h.0.nodes)

pub walk_few_led : (spare : ℕ) (before now : Board) (slot : Slot) (bus place last : ℕ) (start walk : Walk) (more : Bool) (found : Found) (made total far_by put_by : ℕ) → IsPlaceOf slot bus place → IsLooked now slot more found → found.bridge ≡ true → IsBegunFew now slot last walk.taken total far_by → put_by ≤ far_by + 1 → IsWalkCounted before bus last start place more walk now made total → IsBusFew before (outset bus last spare start) made put_by
walk_few_led spare before now slot bus place last start walk more found made total far_by put_by at looked one far_few put_few counted = λ v nodes is seen walkable closed.
    let b = at_bridge now slot bus place walk.taken last more found (WalkCount nodes made total) at looked one (counted v nodes is seen walkable closed) in
    omega (arith, b.known.1, with_bridge slot.device slot.function b.image b.behind b.others b.bridge, far_few b.view b.image b.behind b.others b.is b.seen b.alone b.bridge b.known.0.1 b.inner, put_few, some_on b.others)

pub walk_few_open : (spare : ℕ) (before now : Board) (slot : Slot) (bus place last : ℕ) (start walk : Walk) (more : Bool) (found : Found) (made total opened_by : ℕ) → IsPlaceOf slot bus place → IsLooked now slot more found → found.bridge ≡ true → walk.taken < last → IsOpenFew now slot (walk.taken + 1) last total opened_by → IsWalkCounted before bus last start place more walk now made total → IsBusFew before (outset bus last spare start) made opened_by
walk_few_open spare before now slot bus place last start walk more found made total opened_by at looked one left few =
    walk_few_led spare before now slot bus place last start walk more found made total opened_by opened_by at looked one (begun_few_alone now slot last walk total opened_by left few) (omega arith)

-- ---- behind a root

pub few_at_hush : (before : Board) (root last made total : ℕ) → IsHushFew before root made total → IsFew before root last made total
few_at_hush before root last made total few = λ ready.
    let nodes = nodes_behind before root in
    omega (arith, few (root_view before root) root last nodes (sym (same_nodes root before ready.one)) (seen_root before root last ready) ready.walkable, some_on nodes)

pub few_at_walk : (spare : ℕ) (before mid : Board) (root last : ℕ) (found : Bool) (made hushed_by total : ℕ) → IsHushed before root found mid → IsHushFew before root made hushed_by → IsBusFew mid (outset root last spare (start root)) hushed_by total → IsFew before root last made total
few_at_walk spare before mid root last found made hushed_by total hushed hush bus = λ ready.
    let nodes = nodes_behind before root in
    let h = at_root_now before mid root last found hushed ready in
    omega (
      arith,
      hush (root_view before root) root last nodes (sym (same_nodes root before ready.one)) h.seen ready.walkable,
      bus (root_view before root) h.nodes h.is h.seen h.walkable h.closed,
      same_bridges h.nodes nodes h.same,
      same_on h.nodes nodes h.same,
    )
