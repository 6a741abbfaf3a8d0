-- Closing the bridges on a bus, place by place.
use Rattle.std.proofs.Common.{◌≡◌, ℕ, ◌+◌, Bool, true, false, ◌||◌, arith, refl, sym, ◌∙◌, ap}
use Rattle.std.proofs.lemmas.Bool.{both_ways}
use Rattle.std.proofs.Math.Bool.{or-true, or-false}
use Rattle.pci_spec.specs.Slot.{Slot}
use Rattle.pci_number.specs.Board.{Nodes, NoMore, Node, Board, is_type_1}
use Rattle.pci_number.specs.Numbered.{without_numbers}
use Rattle.pci_number.specs.Seen.{View, AreLastNodes, has_bridges}
use Rattle.pci_number.specs.Steps.{IsLooked, IsShownAt, IsLeftAt, IsHushed, IsHushLeft}
use Rattle.pci_number.specs.Hushing.{ClosedUpTo, KeptUpTo, IsHushing}
use Rattle.pci_number.specs.declared.look.Found.{Found}
use Rattle.pci_number.proofs.Passing.{OfBus, rest, Came, came_first, came_past, at_bridge, came_beyond}
use Rattle.pci_number.proofs.Places.{IsPlaceOf}
use Rattle.pci_number.proofs.Views.{seen_alone, same_node, same_others}

-- what is known of the nodes from a place on
abbrev UpTo : View → Nodes → Bool → View → Nodes → Type 0
UpTo v nodes bridges view left = ClosedUpTo v nodes bridges (rest view left) × KeptUpTo v nodes (rest view left)

-- with that as one fact, and taken apart
module _ (before now : Board) (bus place : ℕ) (more bridges : Bool) where
  came_of : IsHushing before bus place more bridges now → OfBus before bus (λ v nodes. Came now bus place 0 0 more (UpTo v nodes bridges))
  came_of hushing v high last nodes is seen walkable = let h = hushing v high last nodes is seen walkable in (h.0, h.1, h.2, (h.3, h.4))

  hushing_of : OfBus before bus (λ v nodes. Came now bus place 0 0 more (UpTo v nodes bridges)) → IsHushing before bus place more bridges now
  hushing_of came = λ v high last nodes is seen walkable. let h = came v high last nodes is seen walkable in (h.0, h.1, h.2, h.3.0, h.3.1)

pub hush_start : (before : Board) (bus : ℕ) → IsHushing before bus 0 false false before
hush_start before bus = hushing_of before before bus 0 false false (λ v high last nodes is seen walkable. came_first before bus 0 0 (UpTo v nodes false) v nodes is (seen_alone v bus 0 high last seen) walkable (
  (λ after closed same. (after, refl, same, closed, refl)),
  (λ after same. (after, refl, same)),
))

pub hush_pass : (before now : Board) (slot : Slot) (bus place : ℕ) (more bridges : Bool) (found : Found) → IsPlaceOf slot bus place → IsLooked now slot more found → found.bridge ≡ false → IsHushing before bus place more bridges now → IsHushing before bus (place + 1) found.more bridges now
hush_pass before now slot bus place more bridges found at looked none hushing = hushing_of before now bus (place + 1) found.more bridges (λ v high last nodes is seen walkable.
    let d = slot.device in
    let f = slot.function in
    came_past now slot bus place 0 0 more found (UpTo v nodes bridges) at looked none (came_of before now bus place more bridges hushing v high last nodes is seen walkable) (λ view image behind others plain so_far. (
      (λ after closed same.
          let w = so_far.0 (Node d f image behind after) ((λ bridge. absurd (both_ways (is_type_1 image) plain bridge)), closed) (same_others d f image behind others after same) in
          (w.0, w.1, w.2, w.3, w.4 ∙ ap (λ b. bridges || (b || has_bridges after)) plain)),
      (λ after same. so_far.1 (Node d f image behind after) (same_others d f image behind others after same)),
    )))

pub hush_close : (before now after : Board) (slot : Slot) (bus place : ℕ) (more bridges : Bool) (found : Found) → IsPlaceOf slot bus place → IsLooked now slot more found → found.bridge ≡ true → IsShownAt now slot 0 0 0 after → IsHushing before bus place more bridges now → IsHushing before bus (place + 1) found.more true after
hush_close before now after_it slot bus place more bridges found at looked one shown hushing = hushing_of before after_it bus (place + 1) found.more true (λ v high last nodes is seen walkable.
    let b = at_bridge now slot bus place 0 0 more found (UpTo v nodes bridges) at looked one (came_of before now bus place more bridges hushing v high last nodes is seen walkable) in
    let d = slot.device in
    let f = slot.function in
    let s = shown b.view 0 0 b.image b.behind b.others b.is b.seen b.alone in
    let kind : is_type_1 s.0 ≡ true = s.2.kind ∙ b.bridge in
    came_beyond now after_it slot bus place 0 0 0 found.more (UpTo v nodes bridges) (UpTo v nodes true) b s.0 b.behind 0 0 0 at s.1 s.3 (omega arith) (omega arith) (omega arith) (
      (λ after closed same.
          let w = b.known.0 (Node d f s.0 b.behind after) ((λ is_one. s.3), closed) (same_node d f b.image s.0 b.behind b.behind b.others after b.bridge s.2 refl same) in
          (w.0, w.1, w.2, w.3, w.4 ∙ ap (λ x. bridges || (x || has_bridges after)) kind ∙ or-true bridges)),
      (λ after same. b.known.1 (Node d f s.0 b.behind after) (same_node d f b.image s.0 b.behind b.behind b.others after b.bridge s.2 refl same)),
    ))

pub hush_left_close : (before now after : Board) (slot : Slot) (bus place : ℕ) (more bridges : Bool) (found : Found) → IsPlaceOf slot bus place → IsLooked now slot more found → found.bridge ≡ true → IsLeftAt now slot after → IsHushing before bus place more bridges now → IsHushLeft before bus after
hush_left_close before now after slot bus place more bridges found at looked one left hushing = λ v high last nodes is seen walkable.
    let b = at_bridge now slot bus place 0 0 more found (UpTo v nodes bridges) at looked one (came_of before now bus place more bridges hushing v high last nodes is seen walkable) in
    let s = left b.view 0 0 b.image b.behind b.others b.is b.seen b.alone in
    let w = b.known.1 (Node slot.device slot.function s.0 b.behind b.others) (same_node slot.device slot.function b.image s.0 b.behind b.behind b.others b.others b.bridge s.2 refl refl) in
    (w.0, s.1 ∙ w.1, w.2)

pub hush_left : (before now after : Board) (bus place : ℕ) (more bridges : Bool) → after ≡ now → IsHushing before bus place more bridges now → IsHushLeft before bus after
hush_left before now after bus place more bridges kept hushing = λ v high last nodes is seen walkable.
    let h = hushing v high last nodes is seen walkable in
    let w = h.4 h.0.nodes refl in
    (w.0, kept ∙ h.1.is ∙ w.1, w.2)

-- a bus has 256 places
pub no_more : (device : ℕ) (more : Bool) (nodes : Nodes) → AreLastNodes 256 device more nodes → nodes ≡ NoMore
no_more device more NoMore rest = refl
no_more device more (Node d f image behind others) rest = absurd (omega (arith, rest.0, rest.1, rest.6))

pub hush_done : (before now : Board) (bus : ℕ) (more bridges : Bool) → IsHushing before bus 256 more bridges now → IsHushed before bus bridges now
hush_done before now bus more bridges hushing = λ v high last nodes is seen walkable.
    let h = hushing v high last nodes is seen walkable in
    let none = no_more h.0.device more h.0.nodes h.1.has in
    let w = h.3 NoMore tt (ap without_numbers (sym none)) in
    (w.0, h.1.is ∙ ap h.0.view.fill none ∙ w.1, w.2, w.3, w.4 ∙ or-false bridges)
