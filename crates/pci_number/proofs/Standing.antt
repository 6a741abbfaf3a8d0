-- The board is single on the walk over a bus, place by place.
use Rattle.std.proofs.Common.{◌≡◌, ℕ, ◌+◌, ◌<◌, ◌≤◌, inl, inr, Bool, true, false, arith, refl, sym, subst, List, Result}
use Rattle.std.specs.Result.{IsErr}
use Rattle.std.proofs.lemmas.Bool.{both_ways}
use Rattle.pci_spec.specs.Slot.{Slot}
use Rattle.pci_number.specs.Board.{Nodes, Node, Board, is_type_1, HasOneAnswer}
use Rattle.pci_number.specs.Numbered.{without_numbers}
use Rattle.pci_number.specs.Room.{shows}
use Rattle.pci_number.specs.SpareBuses.{spare_room}
use Rattle.pci_number.specs.Spread.{IsSpread}
use Rattle.pci_number.specs.Seen.{View, IsClosed}
use Rattle.pci_number.specs.Steps.{IsNumberPut, IsLooked, IsAlike, IsBusOpened}
use Rattle.pci_number.specs.Spare.{IsLed}
use Rattle.pci_number.specs.Single.{IsApart, IsBusStood, IsWalkStanding}
use Rattle.pci_number.specs.Stood.{Adds, Ends, IsOneMore, board_moment}
use Rattle.pci_number.specs.declared.look.Found.{Found}
use Rattle.pci_number.specs.declared.walk.Walk.{Walk}
use Rattle.pci_number.specs.Walked.{outset}
use Rattle.pci_number.proofs.Bytes.{alike_itself, alike_subordinate, alike_then}
use Rattle.pci_number.proofs.Opening.{shows_another, opened_inside}
use Rattle.pci_number.proofs.Passing.{OfClosed, Came, came_first, came_past, AtBridge, at_bridge, came_beyond}
use Rattle.pci_number.proofs.Places.{IsPlaceOf}
use Rattle.pci_number.proofs.Views.{next, inside, same_others}
use Rattle.pci_number.proofs.Walking.{one_more, IsBegun}
use Rattle.pci_number.proofs.Apart.{shut_from, closed_spread, numbered_spread, spread_more, spread_lead, single_with, apart_next, apart_inside}
use Rattle.pci_number.proofs.Showing.{IsOpenOk, IsOpenEnd}
use Rattle.pci_number.proofs.Stood.{adds_none, adds_then, adds_more, ends_one, ends_same, ends_then, ended}

-- said of a bus whose bridges are closed, with which the board is single
abbrev pub OfApart : Board → ℕ → ℕ → Walk → Type 0 → Type 0
OfApart before bus last start P = OfClosed before bus start.taken last (λ v nodes. IsApart v nodes start.taken last → P)

-- what is known of the nodes from a place on
abbrev pub StoodUpTo : ℕ → Walk → List Board → List Board → View → Nodes → Type 0
StoodUpTo last walk old new view left = IsClosed left × IsApart view left walk.taken last × Adds HasOneAnswer old new

-- with that as one fact, and taken apart
module _ (spare : ℕ) (before now : Board) (bus place last : ℕ) (start walk : Walk) (old new : List Board) (more : Bool) where
  came_of : IsWalkStanding (board_moment before old) (outset bus last spare start) place more walk (board_moment now new) → OfApart before bus last start (Came now bus place walk.taken last more (StoodUpTo last walk old new))
  came_of standing v nodes is seen walkable closed apart = let h = standing v nodes is seen walkable closed apart in (h.0, h.1, h.2, (h.3, h.4, h.5))

  standing_of : OfApart before bus last start (Came now bus place walk.taken last more (StoodUpTo last walk old new)) → IsWalkStanding (board_moment before old) (outset bus last spare start) place more walk (board_moment now new)
  standing_of came = λ v nodes is seen walkable closed apart. let h = came v nodes is seen walkable closed apart in (h.0, h.1, h.2, h.3.0, h.3.1, h.3.2)

pub stand_start : (spare : ℕ) (before : Board) (bus last : ℕ) (start : Walk) (old : List Board) → IsWalkStanding (board_moment before old) (outset bus last spare start) 0 false start (board_moment before old)
stand_start spare before bus last start old = standing_of spare before before bus 0 last start start old old false (λ v nodes is seen walkable closed apart.
    came_first before bus start.taken last (StoodUpTo last start old old) v nodes is seen walkable (closed, apart, adds_none HasOneAnswer old))

-- a device
pub stand_pass : (spare : ℕ) (before now : Board) (slot : Slot) (bus place last : ℕ) (start walk : Walk) (old new : List Board) (more : Bool) (found : Found) → IsPlaceOf slot bus place → IsLooked now slot more found → found.bridge ≡ false → IsWalkStanding (board_moment before old) (outset bus last spare start) place more walk (board_moment now new) → IsWalkStanding (board_moment before old) (outset bus last spare start) (place + 1) found.more walk (board_moment now new)
stand_pass spare before now slot bus place last start walk old new more found at looked none standing = standing_of spare before now bus (place + 1) last start walk old new found.more (λ v nodes is seen walkable closed apart.
    let d = slot.device in
    let f = slot.function in
    came_past now slot bus place walk.taken last more found (StoodUpTo last walk old new) at looked none (came_of spare before now bus place last start walk old new more standing v nodes is seen walkable closed apart) (λ view image behind others plain so_far. (
      so_far.0.1,
      (λ after same_after spread. so_far.1 (Node d f image behind after) (same_others d f image behind others after same_after) (inl ((λ bridge. absurd (both_ways (is_type_1 image) plain bridge)), spread))),
      so_far.2,
    )))

-- a walk that came to a bridge
abbrev pub Bridge : Board → Slot → ℕ → Walk → List Board → List Board → Bool → Type 0
Bridge now slot last walk old new more = AtBridge now slot walk.taken last more (StoodUpTo last walk old new)

bridge_there : (spare : ℕ) (before now : Board) (slot : Slot) (bus place last : ℕ) (start walk : Walk) (old new : List Board) (more : Bool) (found : Found) → IsPlaceOf slot bus place → IsLooked now slot more found → found.bridge ≡ true → IsWalkStanding (board_moment before old) (outset bus last spare start) place more walk (board_moment now new) → OfApart before bus last start (Bridge now slot last walk old new found.more)
bridge_there spare before now slot bus place last start walk old new more found at looked one standing v nodes is seen walkable closed apart =
    at_bridge now slot bus place walk.taken last more found (StoodUpTo last walk old new) at looked one (came_of spare before now bus place last start walk old new more standing v nodes is seen walkable closed apart)

-- numbers ran out
pub stand_without : (spare : ℕ) (before now : Board) (slot : Slot) (bus place last : ℕ) (start walk after : Walk) (old new : List Board) (more : Bool) (found : Found) → IsPlaceOf slot bus place → IsLooked now slot more found → found.bridge ≡ true → after.taken ≡ walk.taken → IsWalkStanding (board_moment before old) (outset bus last spare start) place more walk (board_moment now new) → IsWalkStanding (board_moment before old) (outset bus last spare start) (place + 1) found.more after (board_moment now new)
stand_without spare before now slot bus place last start walk walk_after old new more found at looked one same_taken standing = standing_of spare before now bus (place + 1) last start walk_after old new found.more (λ v nodes is seen walkable closed apart.
    let b = bridge_there spare before now slot bus place last start walk old new more found at looked one standing v nodes is seen walkable closed apart in
    let d = slot.device in
    let f = slot.function in
    let shut = b.known.0.0 b.bridge in
    came_beyond now now slot bus place walk.taken walk_after.taken last found.more (StoodUpTo last walk old new) (StoodUpTo last walk_after old new) b b.image b.behind 0 0 0 at b.is shut (omega arith) (omega arith) (omega (arith, same_taken)) (
      b.known.0.1,
      subst (λ n. IsApart (next b.view d f b.image b.behind) b.others n last) (sym same_taken)
          (apart_next b.view walk.taken walk.taken last d f b.image b.image b.behind b.behind b.others b.bridge (alike_itself b.image) refl b.known.1 (λ after spread. inl (shut_from b.image 0 shut, spread))),
      b.known.2,
    ))

-- the bridge has its numbers, and so have those behind it
record Stands (slot : Slot) (last : ℕ) (walk after : Walk) (view : View) (image : List ℕ) (behind others : Nodes) (now : Board) (old new : List Board) : Type 0 where
  shown_now : List ℕ
  nodes : Nodes
  is : now ≡ view.fill (Node slot.device slot.function shown_now nodes others)
  alike : IsAlike image shown_now
  same : without_numbers nodes ≡ without_numbers behind
  numbers : shows shown_now slot.bus (walk.taken + 1) after.taken ≡ true
  above : walk.taken + 1 ≤ after.taken
  within : after.taken ≤ last
  inner : IsSpread (walk.taken + 1) after.taken nodes
  stood : Adds HasOneAnswer old new

stand_given : (spare : ℕ) (before now later : Board) (slot : Slot) (bus place last : ℕ) (start walk after : Walk) (old new newer : List Board) (more : Bool) (found : Found) → IsPlaceOf slot bus place → IsLooked now slot more found → found.bridge ≡ true → walk.taken < last → IsWalkStanding (board_moment before old) (outset bus last spare start) place more walk (board_moment now new) → ((b : Bridge now slot last walk old new found.more) → Stands slot last walk after b.view b.image b.behind b.others later old newer) → IsWalkStanding (board_moment before old) (outset bus last spare start) (place + 1) found.more after (board_moment later newer)
stand_given spare before now later slot bus place last start walk walk_after old new newer more found at looked one left standing given = standing_of spare before later bus (place + 1) last start walk_after old newer found.more (λ v nodes is seen walkable closed apart.
    let b = bridge_there spare before now slot bus place last start walk old new more found at looked one standing v nodes is seen walkable closed apart in
    let n = given b in
    let d = slot.device in
    let f = slot.function in
    came_beyond now later slot bus place walk.taken walk_after.taken last found.more (StoodUpTo last walk old new) (StoodUpTo last walk_after old newer) b n.shown_now n.nodes slot.bus (walk.taken + 1) walk_after.taken at n.is n.numbers n.above (omega arith) (omega (arith, n.above)) (
      b.known.0.1,
      apart_next b.view walk.taken walk_after.taken last d f b.image n.shown_now b.behind n.nodes b.others b.bridge n.alike n.same b.known.1 (λ after spread.
          spread_lead walk.taken last slot.bus (walk.taken + 1) walk_after.taken d f n.shown_now n.nodes after n.numbers (omega arith) (omega (arith, left)) n.within (inr n.inner)
          (subst (λ x. IsSpread x last after) (omega (arith, n.above)) spread)),
      n.stood,
    ))

pub stood_here : (now : Board) (slot : Slot) (last : ℕ) (walk : Walk) (old new newer : List Board) (more : Bool) (b : Bridge now slot last walk old new more) → walk.taken < last → IsOpenOk now slot (walk.taken + 1) last new newer → Adds HasOneAnswer old newer
stood_here now slot last walk old new newer more b left gets =
    adds_then HasOneAnswer old new newer b.known.2 (gets b.view walk.taken b.image b.behind b.others b.is b.seen b.alone b.bridge (b.known.0.0 b.bridge) b.known.0.1 b.inner (omega arith) (omega (arith, left)) b.known.1)

-- what is said of such a bus is said of the one behind a bridge
pub bus_there : (now mid : Board) (slot : Slot) (last : ℕ) (walk : Walk) (old new : List Board) (more : Bool) (b : Bridge now slot last walk old new more) (P : Type 0) → walk.taken < last → IsBusOpened now slot (walk.taken + 1) last true mid → OfApart mid (walk.taken + 1) last (one_more walk) P → P
bus_there now mid slot last walk old new more b P left gets said =
    let o = opened_inside now mid slot (walk.taken + 1) last gets b.view walk.taken b.image b.behind b.others b.is b.seen b.alone b.bridge b.known.0.1 b.inner (omega arith) (omega (arith, left)) in
    said (inside b.view slot.device slot.function o.new b.others) o.nodes o.is o.seen o.walkable o.closed
    (apart_inside b.view walk.taken last (walk.taken + 1) last slot.device slot.function b.image o.new b.behind o.nodes b.others b.bridge o.alike o.same b.known.1 (λ after spread.
    spread_lead walk.taken last slot.bus (walk.taken + 1) last slot.device slot.function o.new after b.others o.numbers (omega arith) (omega (arith, left)) (omega arith) (inr spread) (closed_spread _ last b.others b.known.0.1)))

-- such boards stood while the bridges behind it got their numbers, where that was done and where it stopped
abbrev pub IsBusOk : Board → ℕ → ℕ → Walk → List Board → List Board → Type 0
IsBusOk before bus last start old new = OfApart before bus last start (Adds HasOneAnswer old new)

abbrev pub IsBusEnd : Board → ℕ → ℕ → Walk → List Board → List Board → Type 0
IsBusEnd before bus last start old new = OfApart before bus last start (Ends HasOneAnswer old new)

pub stood_wide : (now mid : Board) (slot : Slot) (last : ℕ) (walk : Walk) (old new newer newest : List Board) (more : Bool) (b : Bridge now slot last walk old new more) → walk.taken < last → IsBusOpened now slot (walk.taken + 1) last true mid → IsOpenOk now slot (walk.taken + 1) last new newer → IsBusOk mid (walk.taken + 1) last (one_more walk) newer newest → Adds HasOneAnswer old newest
stood_wide now mid slot last walk old new newer newest more b left gets open_stood stood =
    adds_then HasOneAnswer old newer newest (stood_here now slot last walk old new newer more b left open_stood) (bus_there now mid slot last walk old new more b (Adds HasOneAnswer newer newest) left gets stood)

module _ (spare : ℕ) (before now : Board) (slot : Slot) (bus place last : ℕ) (start walk : Walk) (old new newer : List Board) (more : Bool) (found : Found) (at : IsPlaceOf slot bus place) (looked : IsLooked now slot more found) (one : found.bridge ≡ true) (left : walk.taken < last) (standing : IsWalkStanding (board_moment before old) (outset bus last spare start) place more walk (board_moment now new)) where
  pub stand_left_open : {T E : Type 0} → (r : Result T E) → IsErr r → IsOpenEnd now slot (walk.taken + 1) last new newer → IsBusStood (board_moment before old) (outset bus last spare start) r newer
  stand_left_open r err gets = λ v nodes is seen walkable closed apart.
      let b = bridge_there spare before now slot bus place last start walk old new more found at looked one standing v nodes is seen walkable closed apart in
      ended HasOneAnswer r old newer err (ends_then HasOneAnswer old new newer b.known.2
      (gets b.view walk.taken b.image b.behind b.others b.is b.seen b.alone b.bridge (b.known.0.0 b.bridge) b.known.0.1 b.inner (omega arith) (omega (arith, left)) b.known.1))

  module _ (mid : Board) (gets : IsBusOpened now slot (walk.taken + 1) last true mid) (stood : IsOpenOk now slot (walk.taken + 1) last new newer) (newest : List Board) where
    pub stand_left_bus : {T E : Type 0} → (r : Result T E) → IsErr r → IsBusEnd mid (walk.taken + 1) last (one_more walk) newer newest → IsBusStood (board_moment before old) (outset bus last spare start) r newest
    stand_left_bus r err ends = λ v nodes is seen walkable closed apart.
        let b = bridge_there spare before now slot bus place last start walk old new more found at looked one standing v nodes is seen walkable closed apart in
        ended HasOneAnswer r old newest err (ends_then HasOneAnswer old newer newest (stood_here now slot last walk old new newer found.more b left stood)
        (bus_there now mid slot last walk old new found.more b (Ends HasOneAnswer newer newest) left gets ends))

  -- the bridge leads on
  module _ (far : Board) (newest : List Board) (far_stood : (b : Bridge now slot last walk old new found.more) → Adds HasOneAnswer old newest) (later : Board) (final : List Board) (put_stood : IsOneMore (board_moment far newest) (board_moment later final)) where
    pub stand_left_led : {T E : Type 0} → (r : Result T E) → IsErr r → IsBusStood (board_moment before old) (outset bus last spare start) r final
    stand_left_led r err = λ v nodes is seen walkable closed apart.
        let b = bridge_there spare before now slot bus place last start walk old new more found at looked one standing v nodes is seen walkable closed apart in
        ended HasOneAnswer r old final err (ends_one HasOneAnswer far old newest later final (far_stood b) put_stood)

    pub stand_led : (inside after : Walk) → IsBegun spare now far slot last walk inside → IsNumberPut far slot 0x1a after.taken later → IsLed far slot inside.taken last spare after.taken → inside.taken ≤ after.taken → IsWalkStanding (board_moment before old) (outset bus last spare start) (place + 1) found.more after (board_moment later final)
    stand_led inside after begun put led above = stand_given spare before now later slot bus place last start walk after old new final more found at looked one left standing (λ b.
        let a = begun b.view b.image b.behind b.others b.is b.seen b.alone b.bridge b.known.0.1 b.inner in
        let p = put b.view walk.taken last a.new a.nodes b.others a.is b.seen b.alone in
        let alike = alike_then b.image a.new p.0 a.alike (alike_subordinate a.new p.0 p.2) in
        let numbers : shows p.0 slot.bus (walk.taken + 1) after.taken ≡ true = shows_another a.new p.0 slot.bus (walk.taken + 1) a.leads after.taken a.numbers p.2 p.3 in
        let within : after.taken ≤ last = omega (arith, led a.within b.view walk.taken last a.new a.nodes b.others a.is b.seen b.alone) in
        let up_to : IsSpread (walk.taken + 1) inside.taken a.nodes = subst (λ n. IsSpread (walk.taken + 1) n a.nodes) (sym a.end) (numbered_spread (spare_room spare) last (walk.taken + 1) (walk.taken + 1) a.nodes a.inner) in
        let inner = spread_more (walk.taken + 1) inside.taken after.taken a.nodes above up_to in
        record {
          shown_now = p.0;
          nodes = a.nodes;
          is = p.1;
          alike = alike;
          same = a.same;
          numbers = numbers;
          above = omega (arith, a.above, above);
          within = within;
          inner = inner;
          stood = adds_more HasOneAnswer far old newest later final (far_stood b) put_stood
              (single_with b.view walk.taken last slot.device slot.function b.image p.0 b.behind a.nodes b.others b.bridge alike a.same b.known.1
              (spread_lead walk.taken last slot.bus (walk.taken + 1) after.taken slot.device slot.function p.0 a.nodes b.others numbers (omega arith) (omega (arith, left)) within (inr inner) (closed_spread _ last b.others b.known.0.1)) later p.1);
        })

-- ---- where it stops, or is done

pub stand_left : {T E : Type 0} → (spare : ℕ) (before now : Board) (bus place last : ℕ) (start walk : Walk) (old mid new : List Board) (more : Bool) (r : Result T E) → IsErr r → new ≡ mid → IsWalkStanding (board_moment before old) (outset bus last spare start) place more walk (board_moment now mid) → IsBusStood (board_moment before old) (outset bus last spare start) r new
stand_left spare before now bus place last start walk old mid new more r err same standing = λ v nodes is seen walkable closed apart.
    let h = standing v nodes is seen walkable closed apart in
    ended HasOneAnswer r old new err (ends_same HasOneAnswer old mid new h.5 same)

pub stand_done : (spare : ℕ) (before now : Board) (bus place last : ℕ) (start walk : Walk) (old new : List Board) (more : Bool) → IsWalkStanding (board_moment before old) (outset bus last spare start) place more walk (board_moment now new) → IsBusOk before bus last start old new
stand_done spare before now bus place last start walk old new more standing = λ v nodes is seen walkable closed apart. (standing v nodes is seen walkable closed apart).5
