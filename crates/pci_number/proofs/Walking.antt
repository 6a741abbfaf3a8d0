-- The walk over a bus, place by place.
use Rattle.std.proofs.Common.{◌≡◌, ℕ, ◌+◌, ◌<◌, ◌≤◌, Bool, true, false, arith, refl, sym, ◌∙◌, ap, subst, List, min, Option, Some, None}
use Rattle.std.specs.Bool.{nat_lt}
use Rattle.std.proofs.lemmas.Bool.{lt-ltb, ltb-true, or_parts, false_from_ne_true}
use Rattle.pci_spec.specs.Slot.{Slot}
use Rattle.pci_spec.specs.Header.{secondary_bus, subordinate_bus}
use Rattle.pci_number.specs.Board.{Nodes, NoMore, Node, Board, is_type_1}
use Rattle.pci_number.specs.Walk.{is_walkable, all_after, has_bus}
use Rattle.pci_number.specs.Numbered.{without_numbers}
use Rattle.pci_number.specs.Room.{shows, last_behind, have_numbers}
use Rattle.pci_number.specs.SpareBuses.{spare_room}
use Rattle.pci_number.specs.NoBus.{first_slot, first_without}
use Rattle.pci_number.proofs.Same.{first_device}
use Rattle.pci_number.proofs.SpareKept.{spare_stays}
use Rattle.pci_number.proofs.Roomy.{closed as shut_of}
use Rattle.pci_number.proofs.Roomy.{shown, opened, within_last}
use Rattle.pci_number.specs.Seen.{View, code, IsSeen, IsClosed, has_bridges}
use Rattle.pci_number.specs.Steps.{IsNumberPut, IsLooked, IsAlike, IsTouched, IsBusOpened, IsOpenLeft}
use Rattle.pci_number.specs.Hushing.{KeptUpTo}
use Rattle.pci_number.specs.Spare.{IsLed}
use Rattle.pci_number.specs.Walked.{IsBusNumbered, IsBusLeft, named, outset}
use Rattle.pci_number.specs.Walking.{NumberedUpTo, IsWalking}
use Rattle.pci_number.specs.declared.look.Found.{Found}
use Rattle.pci_number.specs.declared.walk.Walk.{Walk}
use Rattle.pci_number.proofs.Bytes.{alike_subordinate, alike_then}
use Rattle.pci_number.proofs.Opening.{shows_another, opened_inside}
use Rattle.pci_number.proofs.Passing.{OfClosed, rest, Came, came_first, came_past, AtBridge, at_bridge, came_beyond}
use Rattle.pci_number.proofs.Places.{IsPlaceOf, At}
use Rattle.pci_number.proofs.Hushing.{no_more}
use Rattle.pci_number.proofs.Views.{inside, same_node, same_others}

pub first_of_three : (a b x : Option Slot) → first_slot a (first_slot b x) ≡ first_slot (first_slot a b) x
first_of_three (Some s) b x = refl
first_of_three None b x = refl

first_or_none : (a : Option Slot) → first_slot a None ≡ a
first_or_none (Some s) = refl
first_or_none None = refl

-- ---- a bridge with its numbers, and what follows on its bus

numbered_node : (room : List ℕ → ℕ) (last bus taken d f : ℕ) (image : List ℕ) (behind others : Nodes) (u : ℕ) → is_type_1 image ≡ true → taken < last → shows image bus (taken + 1) u ≡ true → min last (last_behind (taken + 1) behind + room image) ≡ u → have_numbers room last (taken + 1) (taken + 1) behind ≡ true → have_numbers room last bus u others ≡ true → have_numbers room last bus taken (Node d f image behind others) ≡ true
numbered_node room last bus taken d f image behind others u bridge left numbers end inner outer =
    let less : nat_lt taken last ≡ true = lt-ltb taken last left in
    let leads : subordinate_bus image ≡ u = (shown image bus (taken + 1) u numbers).subordinate in
    rw (bridge, less, end, numbers, inner, leads, outer) refl

has_bus_of : (image : List ℕ) (bus taken u : ℕ) → is_type_1 image ≡ true → shows image bus (taken + 1) u ≡ true → has_bus image ≡ true
has_bus_of image bus taken u bridge numbers = let show = shown image bus (taken + 1) u numbers in opened image bridge (λ none. omega (arith, none, show.secondary))

last_node : (bus taken d f : ℕ) (image : List ℕ) (behind others : Nodes) (u : ℕ) → is_type_1 image ≡ true → shows image bus (taken + 1) u ≡ true → last_behind taken (Node d f image behind others) ≡ last_behind u others
last_node bus taken d f image behind others u bridge numbers =
    let has = has_bus_of image bus taken u bridge numbers in
    let leads : subordinate_bus image ≡ u = (shown image bus (taken + 1) u numbers).subordinate in
    rw (has, leads) refl

first_node : (bus taken d f : ℕ) (image : List ℕ) (behind others : Nodes) (u : ℕ) → is_type_1 image ≡ true → shows image bus (taken + 1) u ≡ true → first_without bus (Node d f image behind others) ≡ first_slot (first_without (taken + 1) behind) (first_without bus others)
first_node bus taken d f image behind others u bridge numbers =
    let has = has_bus_of image bus taken u bridge numbers in
    let second : secondary_bus image ≡ taken + 1 = (shown image bus (taken + 1) u numbers).secondary in
    rw (has, second) refl

-- ---- a device, and what follows on its bus

last_device : (taken d f : ℕ) (image : List ℕ) (behind others : Nodes) → is_type_1 image ≡ false → last_behind taken (Node d f image behind others) ≡ last_behind taken others
last_device taken d f image behind others plain = rw plain refl

-- ---- a bus without bridges

no_numbers : (room : List ℕ → ℕ) (last bus taken : ℕ) (nodes : Nodes) → has_bridges nodes ≡ false → have_numbers room last bus taken nodes ≡ true
no_numbers room last bus taken NoMore none = refl
no_numbers room last bus taken (Node d f image behind others) none = let parts = or_parts (is_type_1 image) (has_bridges others) none in let plain : is_type_1 image ≡ false = parts.0 in rw plain (no_numbers room last bus taken others parts.1)

no_last : (taken : ℕ) (nodes : Nodes) → has_bridges nodes ≡ false → last_behind taken nodes ≡ taken
no_last taken NoMore none = refl
no_last taken (Node d f image behind others) none = let parts = or_parts (is_type_1 image) (has_bridges others) none in let plain : is_type_1 image ≡ false = parts.0 in rw plain (no_last taken others parts.1)

no_first : (bus : ℕ) (nodes : Nodes) → has_bridges nodes ≡ false → first_without bus nodes ≡ None
no_first bus NoMore none = refl
no_first bus (Node d f image behind others) none = let parts = or_parts (is_type_1 image) (has_bridges others) none in let plain : is_type_1 image ≡ false = parts.0 in rw plain (no_first bus others parts.1)

abbrev pub one_more : Walk → Walk
one_more walk = record { taken = walk.taken + 1; without = walk.without }

-- ---- place by place

module _ (spare : ℕ) where
  -- what is known of the nodes from a place on
  abbrev UpTo : View → Nodes → ℕ → ℕ → Walk → Walk → View → Nodes → Type 0
  UpTo v nodes bus last start walk view left = IsClosed left × NumberedUpTo v nodes (outset bus last spare start) walk (rest view left) × KeptUpTo v nodes (rest view left)

  -- with that as one fact, and taken apart
  module _ (before now : Board) (bus place last : ℕ) (start walk : Walk) (more : Bool) where
    came_of : IsWalking before (outset bus last spare start) place more walk now → OfClosed before bus start.taken last (λ v nodes. Came now bus place walk.taken last more (UpTo v nodes bus last start walk))
    came_of walking v nodes is seen walkable closed = let h = walking v nodes is seen walkable closed in (h.0, h.1, h.2, (h.3, h.4, h.5))

    walking_of : OfClosed before bus start.taken last (λ v nodes. Came now bus place walk.taken last more (UpTo v nodes bus last start walk)) → IsWalking before (outset bus last spare start) place more walk now
    walking_of came = λ v nodes is seen walkable closed. let h = came v nodes is seen walkable closed in (h.0, h.1, h.2, h.3.0, h.3.1, h.3.2)

  pub walk_start : (before : Board) (bus last : ℕ) (start : Walk) → IsWalking before (outset bus last spare start) 0 false start before
  walk_start before bus last start = walking_of before before bus 0 last start start false (λ v nodes is seen walkable closed. came_first before bus start.taken last (UpTo v nodes bus last start start) v nodes is seen walkable (
    closed,
    (λ after numbered same. (after, refl, same, numbered, refl, refl)),
    (λ after same. (after, refl, same)),
  ))

  pub walk_pass : (before now : Board) (slot : Slot) (bus place last : ℕ) (start walk : Walk) (more : Bool) (found : Found) → IsPlaceOf slot bus place → IsLooked now slot more found → found.bridge ≡ false → IsWalking before (outset bus last spare start) place more walk now → IsWalking before (outset bus last spare start) (place + 1) found.more walk now
  walk_pass before now slot bus place last start walk more found at looked none walking = walking_of before now bus (place + 1) last start walk found.more (λ v nodes is seen walkable closed.
      let d = slot.device in
      let f = slot.function in
      came_past now slot bus place walk.taken last more found (UpTo v nodes bus last start walk) at looked none (came_of before now bus place last start walk more walking v nodes is seen walkable closed) (λ view image behind others plain so_far. (
        so_far.0.1,
        (λ after numbered same.
            let w = so_far.1 (Node d f image behind after) (rw plain numbered) (same_others d f image behind others after same) in
            (w.0, w.1, w.2, w.3, sym (last_device walk.taken d f image behind after plain) ∙ w.4, ap (first_slot walk.without) (sym (first_device bus d f image behind after plain)) ∙ w.5)),
        (λ after same. so_far.2 (Node d f image behind after) (same_others d f image behind others after same)),
      )))

  -- a walk that came to a bridge
  abbrev Bridge : Board → Slot → ℕ → ℕ → Walk → Walk → Bool → View → Nodes → Type 0
  Bridge now slot bus last start walk more v nodes = AtBridge now slot walk.taken last more (UpTo v nodes bus last start walk)

  bridge_there : (before now : Board) (slot : Slot) (bus place last : ℕ) (start walk : Walk) (more : Bool) (found : Found) → IsPlaceOf slot bus place → IsLooked now slot more found → found.bridge ≡ true → IsWalking before (outset bus last spare start) place more walk now → OfClosed before bus start.taken last (Bridge now slot bus last start walk found.more)
  bridge_there before now slot bus place last start walk more found at looked one walking v nodes is seen walkable closed =
      at_bridge now slot bus place walk.taken last more found (UpTo v nodes bus last start walk) at looked one (came_of before now bus place last start walk more walking v nodes is seen walkable closed)

  -- numbers ran out
  pub walk_without : (before now : Board) (slot : Slot) (bus place last : ℕ) (start walk after : Walk) (more : Bool) (found : Found) → IsPlaceOf slot bus place → IsLooked now slot more found → found.bridge ≡ true → last ≤ walk.taken → after.taken ≡ walk.taken → after.without ≡ named walk.without slot → IsWalking before (outset bus last spare start) place more walk now → IsWalking before (outset bus last spare start) (place + 1) found.more after now
  walk_without before now slot bus place last start walk walk_after more found (At low) looked one over same_taken names walking = walking_of before now bus (place + 1) last start walk_after found.more (λ v nodes is seen walkable closed.
      let b = bridge_there before now slot bus place last start walk more found (At low) looked one walking v nodes is seen walkable closed in
      let d = slot.device in
      let f = slot.function in
      let bridge : is_type_1 b.image ≡ true = b.bridge in
      let shut : shows b.image 0 0 0 ≡ true = b.known.0.0 bridge in
      let show = shown b.image 0 0 0 shut in
      let no_bus : has_bus b.image ≡ false = shut_of b.image bridge show.secondary in
      let none_left : nat_lt walk.taken last ≡ false = false_from_ne_true (nat_lt walk.taken last) (λ less. omega (arith, ltb-true walk.taken last less, over)) in
      came_beyond now now slot bus place walk.taken walk_after.taken last found.more (UpTo v nodes bus last start walk) (UpTo v nodes bus last start walk_after) b b.image b.behind 0 0 0 (At low) b.is shut (omega arith) (omega arith) (omega (arith, same_taken)) (
        b.known.0.1,
        (λ after numbered same_after.
            let numbered_too : have_numbers (spare_room spare) last bus walk.taken after ≡ true = subst (λ n. have_numbers (spare_room spare) last bus n after ≡ true) same_taken numbered in
            let w = b.known.1 (Node d f b.image b.behind after) (rw (bridge, none_left, shut, numbered_too) refl) (same_others d f b.image b.behind b.others after same_after) in
            let end : last_behind walk.taken after ≡ last_behind start.taken w.0 = rw no_bus at w.4 in
            let first : first_slot walk.without (first_slot (Some slot) (first_without bus after)) ≡ first_slot start.without (first_without bus w.0) = rw bridge at (rw no_bus at w.5) in
            (w.0, w.1, w.2, w.3, ap (λ n. last_behind n after) same_taken ∙ end, ap (λ o. first_slot o (first_without bus after)) names ∙ sym (first_of_three walk.without (Some slot) (first_without bus after)) ∙ first)),
        (λ after same_after. b.known.2 (Node d f b.image b.behind after) (same_others d f b.image b.behind b.others after same_after)),
      ))

  -- the bridge and all behind it have their numbers
  record Given (slot : Slot) (last : ℕ) (walk after : Walk) (view : View) (image : List ℕ) (behind others : Nodes) (now : Board) : Type 0 where
    new : List ℕ
    nodes : Nodes
    is : now ≡ view.fill (Node slot.device slot.function new nodes others)
    alike : IsAlike image new
    same : without_numbers nodes ≡ without_numbers behind
    numbers : shows new slot.bus (walk.taken + 1) after.taken ≡ true
    end : min last (last_behind (walk.taken + 1) nodes + spare_room spare new) ≡ after.taken
    above : walk.taken + 1 ≤ after.taken
    inner : have_numbers (spare_room spare) last (walk.taken + 1) (walk.taken + 1) nodes ≡ true
    first : after.without ≡ first_slot walk.without (first_without (walk.taken + 1) nodes)

  walk_given : (before now later : Board) (slot : Slot) (bus place last : ℕ) (start walk after : Walk) (more : Bool) (found : Found) → IsPlaceOf slot bus place → IsLooked now slot more found → found.bridge ≡ true → walk.taken < last → IsWalking before (outset bus last spare start) place more walk now → ((v : View) (nodes : Nodes) (b : Bridge now slot bus last start walk found.more v nodes) → Given slot last walk after b.view b.image b.behind b.others later) → IsWalking before (outset bus last spare start) (place + 1) found.more after later
  walk_given before now later slot bus place last start walk walk_after more found (At low) looked one left walking given = walking_of before later bus (place + 1) last start walk_after found.more (λ v nodes is seen walkable closed.
      let b = bridge_there before now slot bus place last start walk more found (At low) looked one walking v nodes is seen walkable closed in
      let n = given v nodes b in
      let d = slot.device in
      let f = slot.function in
      let bridge : is_type_1 n.new ≡ true = n.alike.kind ∙ b.bridge in
      came_beyond now later slot bus place walk.taken walk_after.taken last found.more (UpTo v nodes bus last start walk) (UpTo v nodes bus last start walk_after) b n.new n.nodes bus (walk.taken + 1) walk_after.taken (At low) n.is n.numbers n.above (omega arith) (omega (arith, n.above)) (
        b.known.0.1,
        (λ after numbered same_after.
            let w = b.known.1 (Node d f n.new n.nodes after)
            (numbered_node (spare_room spare) last bus walk.taken d f n.new n.nodes after walk_after.taken bridge left n.numbers n.end n.inner numbered)
            (same_node d f b.image n.new b.behind n.nodes b.others after b.bridge n.alike n.same same_after) in (
              w.0,
              w.1,
              w.2,
              w.3,
              sym (last_node bus walk.taken d f n.new n.nodes after walk_after.taken bridge n.numbers) ∙ w.4,
              ap (λ o. first_slot o (first_without bus after)) n.first ∙ sym (first_of_three walk.without (first_without (walk.taken + 1) n.nodes) (first_without bus after))
                  ∙ ap (first_slot walk.without) (sym (first_node bus walk.taken d f n.new n.nodes after walk_after.taken bridge n.numbers)) ∙ w.5,
            )),
        (λ after same_after. b.known.2 (Node d f n.new n.nodes after) (same_node d f b.image n.new b.behind n.nodes b.others after b.bridge n.alike n.same same_after)),
      ))

  -- ---- a bridge gets its numbers

  -- the bridge has a bus, and all behind it have their numbers
  pub record Begun (slot : Slot) (last : ℕ) (walk inside : Walk) (view : View) (image : List ℕ) (behind others : Nodes) (now : Board) : Type 0 where
    pub new : List ℕ
    pub nodes : Nodes
    pub leads : ℕ
    pub is : now ≡ view.fill (Node slot.device slot.function new nodes others)
    pub alike : IsAlike image new
    pub same : without_numbers nodes ≡ without_numbers behind
    pub numbers : shows new slot.bus (walk.taken + 1) leads ≡ true
    pub end : inside.taken ≡ last_behind (walk.taken + 1) nodes
    pub above : walk.taken + 1 ≤ inside.taken
    pub within : inside.taken ≤ last
    pub inner : have_numbers (spare_room spare) last (walk.taken + 1) (walk.taken + 1) nodes ≡ true
    pub first : inside.without ≡ first_slot walk.without (first_without (walk.taken + 1) nodes)

  -- from one board to another, as it is seen from the bus
  abbrev pub IsBegun : Board → Board → Slot → ℕ → Walk → Walk → Type 0
  IsBegun now far slot last walk inside = (view : View) (image : List ℕ) (behind others : Nodes) → now ≡ view.fill (Node slot.device slot.function image behind others) → IsSeen view slot.bus (code slot) walk.taken last → all_after slot.device slot.function others ≡ true → is_type_1 image ≡ true → IsClosed others → is_walkable behind ≡ true → Begun slot last walk inside view image behind others far

  -- there are no bridges behind it
  pub begun_alone : (now mid : Board) (slot : Slot) (last : ℕ) (walk : Walk) → walk.taken < last → IsBusOpened now slot (walk.taken + 1) last false mid → IsBegun now mid slot last walk (one_more walk)
  begun_alone now mid slot last walk left gets = λ view image behind others is seen alone bridge closed walkable.
      let o = gets view walk.taken image behind others is seen alone bridge closed walkable (omega arith) (omega (arith, left)) in
      record {
        new = o.0;
        nodes = o.1;
        leads = walk.taken + 1;
        is = o.2;
        alike = o.3;
        same = o.4;
        numbers = o.5;
        end = sym (no_last (walk.taken + 1) o.1 o.7);
        above = omega arith;
        within = omega (arith, left);
        inner = no_numbers (spare_room spare) last (walk.taken + 1) (walk.taken + 1) o.1 o.7;
        first = sym (ap (first_slot walk.without) (no_first (walk.taken + 1) o.1 o.7) ∙ first_or_none walk.without);
      }

  -- the bridges behind it have their numbers
  pub begun_wide : (now mid far : Board) (slot : Slot) (last : ℕ) (walk after : Walk) → walk.taken < last → IsBusOpened now slot (walk.taken + 1) last true mid → IsBusNumbered mid (outset (walk.taken + 1) last spare (one_more walk)) after far → walk.taken + 1 ≤ after.taken → IsBegun now far slot last walk after
  begun_wide now mid far slot last walk after left gets bus above = λ view image behind others is seen alone bridge closed walkable.
      let o = opened_inside now mid slot (walk.taken + 1) last gets view walk.taken image behind others is seen alone bridge closed walkable (omega arith) (omega (arith, left)) in
      let r = bus (inside view slot.device slot.function o.new others) o.nodes o.is o.seen o.walkable o.closed in
      record {
        new = o.new;
        nodes = r.0;
        leads = last;
        is = r.1;
        alike = o.alike;
        same = r.2 ∙ o.same;
        numbers = o.numbers;
        end = r.4;
        above = above;
        within = omega (arith, r.4, within_last (spare_room spare) last (walk.taken + 1) (walk.taken + 1) r.0 r.3 (omega (arith, left)));
        inner = r.3;
        first = r.5;
      }

  -- how much room there is doesn't hang on bus numbers
  room_stays : (image new : List ℕ) → IsAlike image new → spare_room spare new ≡ spare_room spare image
  room_stays image new alike = sym (spare_stays spare new 0 0 0) ∙ ap (spare_room spare) alike.cleared ∙ spare_stays spare image 0 0 0

  pub walk_led : (before now far later : Board) (slot : Slot) (bus place last : ℕ) (start walk inside after : Walk) (more : Bool) (found : Found) → IsPlaceOf slot bus place → IsLooked now slot more found → found.bridge ≡ true → walk.taken < last → IsBegun now far slot last walk inside → IsNumberPut far slot 0x1a after.taken later → IsLed far slot inside.taken last spare after.taken → inside.taken ≤ after.taken → after.without ≡ inside.without → IsWalking before (outset bus last spare start) place more walk now → IsWalking before (outset bus last spare start) (place + 1) found.more after later
  walk_led before now far later slot bus place last start walk inside after more found at looked one left begun put led above names walking = walk_given before now later slot bus place last start walk after more found at looked one left walking (λ v nodes b.
      let a = begun b.view b.image b.behind b.others b.is b.seen b.alone b.bridge b.known.0.1 b.inner in
      let p = put b.view walk.taken last a.new a.nodes b.others a.is b.seen b.alone in
      let kept = alike_subordinate a.new p.0 p.2 in
      record {
        new = p.0;
        nodes = a.nodes;
        is = p.1;
        alike = alike_then b.image a.new p.0 a.alike kept;
        same = a.same;
        numbers = shows_another a.new p.0 slot.bus (walk.taken + 1) a.leads after.taken a.numbers p.2 p.3;
        end = omega (arith, led a.within b.view walk.taken last a.new a.nodes b.others a.is b.seen b.alone, a.end, room_stays a.new p.0 kept);
        above = omega (arith, a.above, above);
        inner = a.inner;
        first = names ∙ a.first;
      })

  -- ---- where it stops

  pub walk_left : (before now after : Board) (bus place last : ℕ) (start walk : Walk) (more : Bool) → after ≡ now → IsWalking before (outset bus last spare start) place more walk now → IsBusLeft before (outset bus last spare start) after
  walk_left before now after bus place last start walk more kept walking = λ v nodes is seen walkable closed.
      let h = walking v nodes is seen walkable closed in
      let w = h.5 h.0.nodes refl in
      (w.0, kept ∙ h.1.is ∙ w.1, w.2)

  -- at a bridge that may show other numbers, and so may those behind it
  left_there : (now after : Board) (slot : Slot) (bus last : ℕ) (start walk : Walk) (more : Bool) (v : View) (nodes : Nodes) (b : Bridge now slot bus last start walk more v nodes) (new : List ℕ) (behind : Nodes) → after ≡ b.view.fill (Node slot.device slot.function new behind b.others) → IsAlike b.image new → without_numbers behind ≡ without_numbers b.behind → (whole : Nodes) × (after ≡ v.fill whole) × (without_numbers whole ≡ without_numbers nodes)
  left_there now after slot bus last start walk more v nodes b new behind is alike same =
      let w = b.known.2 (Node slot.device slot.function new behind b.others) (same_node slot.device slot.function b.image new b.behind behind b.others b.others b.bridge alike same refl) in
      (w.0, is ∙ w.1, w.2)

  pub walk_left_open : (before now after : Board) (slot : Slot) (bus place last : ℕ) (start walk : Walk) (more : Bool) (found : Found) → IsPlaceOf slot bus place → IsLooked now slot more found → found.bridge ≡ true → walk.taken < last → IsOpenLeft now slot (walk.taken + 1) last after → IsWalking before (outset bus last spare start) place more walk now → IsBusLeft before (outset bus last spare start) after
  walk_left_open before now after slot bus place last start walk more found at looked one left gets walking = λ v nodes is seen walkable closed.
      let b = bridge_there before now slot bus place last start walk more found at looked one walking v nodes is seen walkable closed in
      let o = gets b.view walk.taken b.image b.behind b.others b.is b.seen b.alone b.bridge b.known.0.1 b.inner (omega arith) (omega (arith, left)) in
      left_there now after slot bus last start walk found.more v nodes b o.0 o.1 o.2 o.3 o.4

  pub walk_left_bus : (before now mid after : Board) (slot : Slot) (bus place last : ℕ) (start walk : Walk) (more : Bool) (found : Found) → IsPlaceOf slot bus place → IsLooked now slot more found → found.bridge ≡ true → walk.taken < last → IsBusOpened now slot (walk.taken + 1) last true mid → IsBusLeft mid (outset (walk.taken + 1) last spare (one_more walk)) after → IsWalking before (outset bus last spare start) place more walk now → IsBusLeft before (outset bus last spare start) after
  walk_left_bus before now mid after slot bus place last start walk more found at looked one left gets left_behind walking = λ v nodes is seen walkable closed.
      let b = bridge_there before now slot bus place last start walk more found at looked one walking v nodes is seen walkable closed in
      let o = opened_inside now mid slot (walk.taken + 1) last gets b.view walk.taken b.image b.behind b.others b.is b.seen b.alone b.bridge b.known.0.1 b.inner (omega arith) (omega (arith, left)) in
      let r = left_behind (inside b.view slot.device slot.function o.new b.others) o.nodes o.is o.seen o.walkable o.closed in
      left_there now after slot bus last start walk found.more v nodes b o.new r.0 r.1 o.alike (r.2 ∙ o.same)

  pub walk_left_led : (before now far after : Board) (slot : Slot) (bus place last : ℕ) (start walk behind : Walk) (more : Bool) (found : Found) → IsPlaceOf slot bus place → IsLooked now slot more found → found.bridge ≡ true → IsBegun now far slot last walk behind → IsTouched far slot 0x1a after → IsWalking before (outset bus last spare start) place more walk now → IsBusLeft before (outset bus last spare start) after
  walk_left_led before now far after slot bus place last start walk behind more found at looked one begun touched walking = λ v nodes is seen walkable closed.
      let b = bridge_there before now slot bus place last start walk more found at looked one walking v nodes is seen walkable closed in
      let a = begun b.view b.image b.behind b.others b.is b.seen b.alone b.bridge b.known.0.1 b.inner in
      let p = touched b.view walk.taken last a.new a.nodes b.others a.is b.seen b.alone in
      left_there now after slot bus last start walk found.more v nodes b p.0 a.nodes p.1 (alike_then b.image a.new p.0 a.alike (alike_subordinate a.new p.0 p.2)) a.same

  pub walk_done : (before now : Board) (bus last : ℕ) (start walk : Walk) (more : Bool) → IsWalking before (outset bus last spare start) 256 more walk now → IsBusNumbered before (outset bus last spare start) walk now
  walk_done before now bus last start walk more walking = λ v nodes is seen walkable closed.
      let h = walking v nodes is seen walkable closed in
      let none = no_more h.0.device more h.0.nodes h.1.has in
      let w = h.4 NoMore refl (ap without_numbers (sym none)) in
      (w.0, h.1.is ∙ ap h.0.view.fill none ∙ w.1, w.2, w.3, w.4, sym (first_or_none walk.without) ∙ w.5)
