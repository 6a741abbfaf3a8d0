-- While a bridge is closed, and those on its bus.
use Rattle.std.proofs.Common.{◌≡◌, ◌≢◌, ℕ, ◌+◌, inl, inr, Bool, true, false, arith, refl, ◌∙◌, List, Result}
use Rattle.std.specs.Result.{IsErr}
use Rattle.pci_spec.specs.Slot.{Slot}
use Rattle.pci_number.specs.Board.{Nodes, Node, Board, is_type_1}
use Rattle.pci_number.specs.Walk.{all_after}
use Rattle.pci_number.proofs.Roomy.{shown}
use Rattle.pci_number.specs.Seen.{View, code, IsSeen}
use Rattle.pci_number.specs.Steps.{IsNumberPut, IsAlike, IsLooked, IsShownAt}
use Rattle.pci_number.specs.Hushing.{Rest}
use Rattle.pci_number.specs.Less.{IsLess, IsLessOf, IsLessStep, Wrap, IsCloseStood, IsHushStood, IsHushStanding}
use Rattle.pci_number.specs.Stood.{AddsSteps, EndsSteps, IsOneMore, BoardMoment, board_moment}
use Rattle.pci_number.specs.declared.look.Found.{Found}
use Rattle.pci_number.proofs.Bytes.{other_byte, alike_primary, alike_secondary, alike_subordinate, alike_then}
use Rattle.pci_number.proofs.Passing.{OfBus, rest, Came, came_first, came_past, at_bridge, came_beyond}
use Rattle.pci_number.proofs.Places.{IsPlaceOf}
use Rattle.pci_number.proofs.Views.{seen_alone}
use Rattle.pci_number.proofs.Less.{less_itself, less_then, less_after, less_node}
use Rattle.pci_number.proofs.Steady.{steps_none, steps_one, steps_then, steps_as, stops_one, stops_then, stops_as, stopped}

-- ---- one bridge

-- its three bytes are apart
u_not_p : ◌≢◌ {A = ℕ} 0x1a 0x18
u_not_p e = cc e

s_not_p : ◌≢◌ {A = ℕ} 0x19 0x18
s_not_p e = cc e

s_not_u : ◌≢◌ {A = ℕ} 0x19 0x1a
s_not_u e = cc e

u_not_s : ◌≢◌ {A = ℕ} 0x1a 0x19
u_not_s e = cc e

-- said of a bridge and what follows on its bus, as that is seen
abbrev pub OfBridge : Board → Slot → (View → Nodes → Type 0) → Type 0
OfBridge before slot P = (v : View) (high last : ℕ) (image : List ℕ) (behind others : Nodes) → before ≡ v.fill (Node slot.device slot.function image behind others) → IsSeen v slot.bus (code slot) high last → all_after slot.device slot.function others ≡ true → is_type_1 image ≡ true → P v (Node slot.device slot.function image behind others)

-- such boards stood while it was closed, where that was done and where it stopped
abbrev pub IsCloseOk : Board → Slot → List Board → Board → List Board → Type 0
IsCloseOk before slot old now new = OfBridge before slot (λ v node. AddsSteps (IsLessStep v node) (board_moment before old) (board_moment now new))

abbrev pub IsCloseEnd : Board → Slot → List Board → List Board → Type 0
IsCloseEnd before slot old new = OfBridge before slot (λ v node. EndsSteps (IsLessStep v node) (board_moment before old) new)

-- a byte of it was written
less_step : (v : View) (d f : ℕ) (image first second : List ℕ) (behind others : Nodes) (was now : Board) → is_type_1 first ≡ true → was ≡ v.fill (Node d f first behind others) → now ≡ v.fill (Node d f second behind others) → IsLessOf (Node d f image behind others) (Node d f first behind others) → IsAlike first second → IsLess first second → IsLessStep v (Node d f image behind others) was now
less_step v d f image first second behind others was now bridge was_it is start alike less = record {
  from = Node d f first behind others;
  to = Node d f second behind others;
  was_it = was_it;
  is = is;
  start = start;
  less = less_node d f first second behind others others bridge alike less (less_itself others);
}

pub close_first : {T E : Type 0} → (before first : Board) (slot : Slot) (old one : List Board) (r : Result T E) → IsErr r → IsOneMore (board_moment before old) (board_moment first one) → IsCloseStood (board_moment before old) slot r (board_moment first one)
close_first before first slot old one r err more = λ v high last image behind others is seen alone bridge.
    let R = IsLessStep v (Node slot.device slot.function image behind others) in
    stopped R r before old first one err (stops_one R before old before old first one (steps_none R before old) more)

module _ (before first second third : Board) (slot : Slot) (old one two three : List Board) (p : IsNumberPut before slot 0x1a 0 first) (p_stood : IsOneMore (board_moment before old) (board_moment first one)) where
  first_stood : IsCloseOk before slot old first one
  first_stood = λ v high last image behind others is seen alone bridge.
      let a = p v high last image behind others is seen alone in
      steps_one (IsLessStep v (Node slot.device slot.function image behind others)) before old first one p_stood
      (less_step v slot.device slot.function image image a.0 behind others before first bridge is a.1 (less_itself (Node slot.device slot.function image behind others)) (alike_subordinate image a.0 a.2) (a.3, inl (other_byte 0x1a image a.0 a.2 0x19 s_not_u)))

  pub close_second : {T E : Type 0} → (r : Result T E) → IsErr r → IsOneMore (board_moment first one) (board_moment second two) → IsCloseStood (board_moment before old) slot r (board_moment second two)
  close_second r err more = λ v high last image behind others is seen alone bridge.
      let R = IsLessStep v (Node slot.device slot.function image behind others) in
      stopped R r before old second two err (stops_one R before old first one second two (first_stood v high last image behind others is seen alone bridge) more)

  module _ (q : IsNumberPut first slot 0x19 0 second) (q_stood : IsOneMore (board_moment first one) (board_moment second two)) where
    second_stood : IsCloseOk before slot old second two
    second_stood = λ v high last image behind others is seen alone bridge.
        let R = IsLessStep v (Node slot.device slot.function image behind others) in
        let a = p v high last image behind others is seen alone in
        let b = q v high last a.0 behind others a.1 seen alone in
        let alike = alike_subordinate image a.0 a.2 in
        let zero = other_byte 0x19 a.0 b.0 b.2 0x1a u_not_s ∙ a.3 in
        steps_then R before old first one second two (first_stood v high last image behind others is seen alone bridge)
        (steps_one R first one second two q_stood
        (less_step v slot.device slot.function image a.0 b.0 behind others first second (alike.kind ∙ bridge) a.1 b.1
        (less_node slot.device slot.function image a.0 behind others others bridge alike (a.3, inl (other_byte 0x1a image a.0 a.2 0x19 s_not_u)) (less_itself others))
        (alike_secondary a.0 b.0 b.2) (zero, inr b.3)))

    pub close_third : {T E : Type 0} → (r : Result T E) → IsErr r → IsOneMore (board_moment second two) (board_moment third three) → IsCloseStood (board_moment before old) slot r (board_moment third three)
    close_third r err more = λ v high last image behind others is seen alone bridge.
        let R = IsLessStep v (Node slot.device slot.function image behind others) in
        stopped R r before old third three err (stops_one R before old second two third three (second_stood v high last image behind others is seen alone bridge) more)

    pub close_done : IsNumberPut second slot 0x18 0 third → IsOneMore (board_moment second two) (board_moment third three) → IsCloseOk before slot old third three
    close_done t t_stood = λ v high last image behind others is seen alone bridge.
        let R = IsLessStep v (Node slot.device slot.function image behind others) in
        let a = p v high last image behind others is seen alone in
        let b = q v high last a.0 behind others a.1 seen alone in
        let d = t v high last b.0 behind others b.1 seen alone in
        let alike = alike_then image a.0 b.0 (alike_subordinate image a.0 a.2) (alike_secondary a.0 b.0 b.2) in
        let zero = other_byte 0x19 a.0 b.0 b.2 0x1a u_not_s ∙ a.3 in
        steps_then R before old second two third three (second_stood v high last image behind others is seen alone bridge)
        (steps_one R second two third three t_stood
        (less_step v slot.device slot.function image b.0 d.0 behind others second third (alike.kind ∙ bridge) b.1 d.1
        (less_node slot.device slot.function image b.0 behind others others bridge alike (zero, inr b.3) (less_itself others))
        (alike_primary b.0 d.0 d.2) (other_byte 0x18 b.0 d.0 d.2 0x1a u_not_p ∙ zero, inl (other_byte 0x18 b.0 d.0 d.2 0x19 s_not_p))))

-- ---- all on a bus

-- what is known of the nodes from a place on
abbrev StoodUpTo : View → Nodes → BoardMoment → BoardMoment → View → Nodes → Type 0
StoodUpTo v nodes from to view left = Wrap v nodes (rest view left) × AddsSteps (IsLessStep v nodes) from to

wrapped : (v : View) (nodes : Nodes) (left : Rest) (device : ℕ) → Wrap v nodes left → Wrap v nodes (record { view = left.view; nodes = left.nodes; device = device })
wrapped v nodes left device w = record { wrap = w.wrap; fills = w.fills; less = w.less; start = w.start }

-- with that as one fact, and taken apart
module _ (from to : BoardMoment) (bus place : ℕ) (more : Bool) where
  came_of : IsHushStanding from bus place more to → OfBus from.board bus (λ v nodes. Came to.board bus place 0 0 more (StoodUpTo v nodes from to))
  came_of standing v high last nodes is seen walkable =
      let h = standing v high last nodes is seen walkable in
      (h.0, h.1, h.2, (wrapped v nodes h.0 0 h.3, h.4))

  standing_of : OfBus from.board bus (λ v nodes. Came to.board bus place 0 0 more (StoodUpTo v nodes from to)) → IsHushStanding from bus place more to
  standing_of came = λ v high last nodes is seen walkable.
      let h = came v high last nodes is seen walkable in
      (h.0, h.1, h.2, wrapped v nodes (rest h.0.view h.0.nodes) h.0.device h.3.0, h.3.1)

pub standing_start : (before : Board) (bus : ℕ) (old : List Board) → IsHushStanding (board_moment before old) bus 0 false (board_moment before old)
standing_start before bus old = standing_of (board_moment before old) (board_moment before old) bus 0 false (λ v high last nodes is seen walkable.
    came_first before bus 0 0 (StoodUpTo v nodes (board_moment before old) (board_moment before old)) v nodes is (seen_alone v bus 0 high last seen) walkable (
      record { wrap = λ after. after; fills = λ after. refl; less = λ a b less. less; start = less_itself nodes },
      steps_none (IsLessStep v nodes) before old,
    ))

pub standing_pass : (before now : Board) (slot : Slot) (bus place : ℕ) (old new : List Board) (more : Bool) (found : Found) → IsPlaceOf slot bus place → IsLooked now slot more found → found.bridge ≡ false → IsHushStanding (board_moment before old) bus place more (board_moment now new) → IsHushStanding (board_moment before old) bus (place + 1) found.more (board_moment now new)
standing_pass before now slot bus place old new more found at looked none standing = standing_of (board_moment before old) (board_moment now new) bus (place + 1) found.more (λ v high last nodes is seen walkable.
    let d = slot.device in
    let f = slot.function in
    came_past now slot bus place 0 0 more found (StoodUpTo v nodes (board_moment before old) (board_moment now new)) at looked none (came_of (board_moment before old) (board_moment now new) bus place more standing v high last nodes is seen walkable) (λ view image behind others plain so_far. (
      record {
        wrap = λ after. so_far.0.wrap (Node d f image behind after);
        fills = λ after. so_far.0.fills (Node d f image behind after);
        less = λ a b less. so_far.0.less (Node d f image behind a) (Node d f image behind b) (less_after d f image behind a b less);
        start = so_far.0.start;
      },
      so_far.1,
    )))

-- what stood while a bridge was closed, as the whole bus sees it
step_of_bus : (v : View) (nodes : Nodes) (view : View) (node : Nodes) (w : Wrap v nodes (rest view node)) (was now : Board) → IsLessStep view node was now → IsLessStep v nodes was now
step_of_bus v nodes view node w was now step = record {
  from = w.wrap step.from;
  to = w.wrap step.to;
  was_it = step.was_it ∙ w.fills step.from;
  is = step.is ∙ w.fills step.to;
  start = less_then nodes (w.wrap node) (w.wrap step.from) w.start (w.less node step.from step.start);
  less = w.less step.from step.to step.less;
}

pub standing_close : (before now after : Board) (slot : Slot) (bus place : ℕ) (old mid new : List Board) (more : Bool) (found : Found) → IsPlaceOf slot bus place → IsLooked now slot more found → found.bridge ≡ true → IsShownAt now slot 0 0 0 after → IsCloseOk now slot mid after new → IsHushStanding (board_moment before old) bus place more (board_moment now mid) → IsHushStanding (board_moment before old) bus (place + 1) found.more (board_moment after new)
standing_close before now after_it slot bus place old mid new more found at looked one shown_0 stood standing = standing_of (board_moment before old) (board_moment after_it new) bus (place + 1) found.more (λ v high last nodes is seen walkable.
    let So_far = StoodUpTo v nodes (board_moment before old) (board_moment now mid) in
    let b = at_bridge now slot bus place 0 0 more found So_far at looked one (came_of (board_moment before old) (board_moment now mid) bus place more standing v high last nodes is seen walkable) in
    let w = b.known.0 in
    let d = slot.device in
    let f = slot.function in
    let node = Node d f b.image b.behind b.others in
    let s = shown_0 b.view 0 0 b.image b.behind b.others b.is b.seen b.alone in
    let numbers = shown s.0 0 0 0 s.3 in
    let less : IsLess b.image s.0 = (numbers.subordinate, inr numbers.secondary) in
    came_beyond now after_it slot bus place 0 0 0 found.more So_far (StoodUpTo v nodes (board_moment before old) (board_moment after_it new)) b s.0 b.behind 0 0 0 at s.1 s.3 (omega arith) (omega arith) (omega arith) (
      record {
        wrap = λ after. w.wrap (Node d f s.0 b.behind after);
        fills = λ after. w.fills (Node d f s.0 b.behind after);
        less = λ x y later. w.less (Node d f s.0 b.behind x) (Node d f s.0 b.behind y) (less_after d f s.0 b.behind x y later);
        start = less_then nodes (w.wrap node) (w.wrap (Node d f s.0 b.behind b.others)) w.start
            (w.less node (Node d f s.0 b.behind b.others) (less_node d f b.image s.0 b.behind b.others b.others b.bridge s.2 less (less_itself b.others)));
      },
      steps_then (IsLessStep v nodes) before old now mid after_it new b.known.1
          (steps_as (IsLessStep b.view node) (IsLessStep v nodes) (step_of_bus v nodes b.view node w) now mid after_it new
          (stood b.view 0 0 b.image b.behind b.others b.is b.seen b.alone b.bridge)),
    ))

-- ---- where it stops

pub standing_left : {T E : Type 0} → (before now after : Board) (bus place : ℕ) (old mid new : List Board) (more : Bool) (r : Result T E) → IsErr r → new ≡ mid → IsHushStanding (board_moment before old) bus place more (board_moment now mid) → IsHushStood (board_moment before old) bus r (board_moment after new)
standing_left before now after bus place old mid new more r err same standing = λ v high last nodes is seen walkable.
    let h = standing v high last nodes is seen walkable in
    stopped (IsLessStep v nodes) r before old after new err (board_moment now mid, h.4, inl same)

pub standing_left_close : {T E : Type 0} → (before now after : Board) (slot : Slot) (bus place : ℕ) (old mid new : List Board) (more : Bool) (found : Found) (r : Result T E) → IsErr r → IsPlaceOf slot bus place → IsLooked now slot more found → found.bridge ≡ true → IsCloseEnd now slot mid new → IsHushStanding (board_moment before old) bus place more (board_moment now mid) → IsHushStood (board_moment before old) bus r (board_moment after new)
standing_left_close before now after slot bus place old mid new more found r err at looked one stood standing = λ v high last nodes is seen walkable.
    let b = at_bridge now slot bus place 0 0 more found (StoodUpTo v nodes (board_moment before old) (board_moment now mid)) at looked one (came_of (board_moment before old) (board_moment now mid) bus place more standing v high last nodes is seen walkable) in
    let node = Node slot.device slot.function b.image b.behind b.others in
    stopped (IsLessStep v nodes) r before old after new err (stops_then (IsLessStep v nodes) before old now mid new b.known.1
    (stops_as (IsLessStep b.view node) (IsLessStep v nodes) (step_of_bus v nodes b.view node b.known.0) now mid new
    (stood b.view 0 0 b.image b.behind b.others b.is b.seen b.alone b.bridge)))

pub standing_done : (before now : Board) (bus place : ℕ) (old new : List Board) (more : Bool) → IsHushStanding (board_moment before old) bus place more (board_moment now new) → OfBus before bus (λ v nodes. AddsSteps (IsLessStep v nodes) (board_moment before old) (board_moment now new))
standing_done before now bus place old new more standing v high last nodes is seen walkable = (standing v high last nodes is seen walkable).4
