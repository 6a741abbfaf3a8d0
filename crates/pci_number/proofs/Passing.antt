-- A walk over a bus at one of its places: past a device, at a bridge, and past that.
use Rattle.std.proofs.Common.{◌≡◌, ℕ, ◌+◌, ◌*◌, ◌≤◌, Bool, true, false, arith, ◌∙◌, ap, subst, List}
use Rattle.std.proofs.lemmas.Bool.{both_ways}
use Rattle.pci_spec.specs.Slot.{Slot}
use Rattle.pci_number.specs.Board.{Nodes, Node, Board, is_type_1}
use Rattle.pci_number.specs.Walk.{is_walkable, all_after}
use Rattle.pci_number.specs.Room.{shows}
use Rattle.pci_number.proofs.Single.{device_is_idle}
use Rattle.pci_number.specs.Seen.{View, code, IsSeen, AreLastNodes, IsClosed}
use Rattle.pci_number.specs.Steps.{IsLooked, Absent, There}
use Rattle.pci_number.specs.Hushing.{Rest, IsRestOf}
use Rattle.pci_number.specs.declared.look.Found.{Found}
use Rattle.pci_number.proofs.Places.{IsPlaceOf, At}
use Rattle.pci_number.proofs.Reached.{rest_of}
use Rattle.pci_number.proofs.Views.{next, seen_next, seen_on, above_is_idle}

-- said of the nodes on a bus, as it is seen
abbrev pub OfBus : Board → ℕ → (View → Nodes → Type 0) → Type 0
OfBus before bus P = (v : View) (high last : ℕ) (nodes : Nodes) → before ≡ v.fill nodes → IsSeen v bus 0 high last → is_walkable nodes ≡ true → P v nodes

-- and of those on a bus whose bridges are closed
abbrev pub OfClosed : Board → ℕ → ℕ → ℕ → (View → Nodes → Type 0) → Type 0
OfClosed before bus high last P = (v : View) (nodes : Nodes) → before ≡ v.fill nodes → IsSeen v bus 0 high last → is_walkable nodes ≡ true → IsClosed nodes → P v nodes

abbrev pub rest : View → Nodes → Rest
rest view nodes = record { view = view; nodes = nodes; device = 0 }

-- a walk came to a place, and this is known of the nodes from there on
abbrev pub Came : Board → ℕ → ℕ → ℕ → ℕ → Bool → (View → Nodes → Type 0) → Type 0
Came now bus place taken last more P = (left : Rest) × IsRestOf now place more left × IsSeen left.view bus place taken last × P left.view left.nodes

pub came_first : (now : Board) (bus taken last : ℕ) (P : View → Nodes → Type 0) (v : View) (nodes : Nodes) → now ≡ v.fill nodes → IsSeen v bus 0 taken last → is_walkable nodes ≡ true → P v nodes → Came now bus 0 taken last false P
came_first now bus taken last P v nodes is seen walkable known = (rest v nodes, record { is = is; past = λ never. cc never; has = rest_of nodes walkable }, seen, known)

-- no bridge is there
pub came_past : (now : Board) (slot : Slot) (bus place taken last : ℕ) (more : Bool) (found : Found) (P : View → Nodes → Type 0) → IsPlaceOf slot bus place → IsLooked now slot more found → found.bridge ≡ false → Came now bus place taken last more P → ((view : View) (image : List ℕ) (behind others : Nodes) → is_type_1 image ≡ false → P view (Node slot.device slot.function image behind others) → P (next view slot.device slot.function image behind) others) → Came now bus (place + 1) taken last found.more P
came_past now slot bus place taken last more found P (At low) looked none came past_device =
    let view = came.0.view in
    let d = slot.device in
    let f = slot.function in
    elim (looked view taken last came.0.device came.0.nodes came.1.is came.2 low came.1.past came.1.has) [
      | Absent device no_bridge past has ↦ (
        record { view = view; nodes = came.0.nodes; device = device },
        record { is = came.1.is; past = λ more_are. omega (arith, past more_are); has = has },
        seen_on view slot.bus (code slot) (code slot + 1) taken last came.2 (omega arith),
        came.3,
      )
      | There image behind others device same kind inner alone past has ↦
          let plain : is_type_1 image ≡ false = kind ∙ none in (
            record { view = next view d f image behind; nodes = others; device = device },
            record { is = came.1.is ∙ ap view.fill same; past = λ more_are. omega (arith, past more_are); has = has },
            seen_next view slot.bus (code slot) (code slot + 1) taken taken last d f image behind came.2 (omega arith) (omega arith) (omega arith) (λ to over within. device_is_idle image to plain),
            past_device view image behind others plain (subst (P view) same came.3),
          )
    ]

-- a walk that came to a bridge
pub record AtBridge (now : Board) (slot : Slot) (taken : ℕ) (last : ℕ) (more : Bool) (P : View → Nodes → Type 0) : Type 0 where
  pub view : View
  pub image : List ℕ
  pub behind : Nodes
  pub others : Nodes
  pub device : ℕ
  pub is : now ≡ view.fill (Node slot.device slot.function image behind others)
  pub seen : IsSeen view slot.bus (code slot) taken last
  pub bridge : is_type_1 image ≡ true
  pub inner : is_walkable behind ≡ true
  pub alone : all_after slot.device slot.function others ≡ true
  pub past : more ≡ true → device * 8 ≤ code slot
  pub has : AreLastNodes (code slot + 1) device more others
  pub known : P view (Node slot.device slot.function image behind others)

pub at_bridge : (now : Board) (slot : Slot) (bus place taken last : ℕ) (more : Bool) (found : Found) (P : View → Nodes → Type 0) → IsPlaceOf slot bus place → IsLooked now slot more found → found.bridge ≡ true → Came now bus place taken last more P → AtBridge now slot taken last found.more P
at_bridge now slot bus place taken last more found P (At low) looked one came = elim (looked came.0.view taken last came.0.device came.0.nodes came.1.is came.2 low came.1.past came.1.has) [
  | Absent device no_bridge past has ↦ absurd (both_ways found.bridge no_bridge one)
  | There image behind others device same kind inner alone past has ↦ record {
    view = came.0.view;
    image = image;
    behind = behind;
    others = others;
    device = device;
    is = came.1.is ∙ ap came.0.view.fill same;
    seen = came.2;
    bridge = kind ∙ one;
    inner = inner;
    alone = alone;
    past = past;
    has = has;
    known = subst (P came.0.view) same came.3;
  }
]

-- past a bridge that shows these numbers by then
pub came_beyond : (now later : Board) (slot : Slot) (bus place taken upto last : ℕ) (more : Bool) (P Q : View → Nodes → Type 0) (b : AtBridge now slot taken last more P) (new : List ℕ) (nodes : Nodes) (p s u : ℕ) → IsPlaceOf slot bus place → later ≡ b.view.fill (Node slot.device slot.function new nodes b.others) → shows new p s u ≡ true → s ≤ u → u ≤ upto → taken ≤ upto → Q (next b.view slot.device slot.function new nodes) b.others → Came later bus (place + 1) upto last more Q
came_beyond now later slot bus place taken upto last more P Q b new nodes p s u (At low) is numbers range within higher known = (
  record { view = next b.view slot.device slot.function new nodes; nodes = b.others; device = b.device },
  record { is = is; past = λ more_are. omega (arith, b.past more_are); has = b.has },
  seen_next b.view slot.bus (code slot) (code slot + 1) taken upto last slot.device slot.function new nodes b.seen (omega arith) (omega arith) higher (λ to over within_last. above_is_idle new p s u to numbers range (omega (arith, within, over))),
  known,
)
