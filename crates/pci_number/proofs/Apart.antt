-- Bridges that are spread, and the board that is single with them.
use Rattle.std.proofs.Common.{◌≡◌, ℕ, ◌<◌, ◌≤◌, ◌⊎◌, inl, inr, true, arith, refl, sym, ◌∙◌, subst, List, max}
use Rattle.pci_spec.specs.Header.{secondary_bus, subordinate_bus}
use Rattle.pci_number.specs.Board.{Nodes, NoMore, Node, Board, is_type_1, HasOneAnswer}
use Rattle.pci_number.specs.Numbered.{without_numbers}
use Rattle.pci_number.specs.Room.{shows, last_behind, have_numbers}
use Rattle.pci_number.specs.Spread.{IsShut, IsSpread}
use Rattle.pci_number.proofs.Roomy.{shown, roomy}
use Rattle.pci_number.proofs.Spread.{ranged_is_spread}
use Rattle.pci_number.specs.Seen.{View, IsClosed}
use Rattle.pci_number.specs.Steps.{IsAlike}
use Rattle.pci_number.specs.Less.{AreShut}
use Rattle.pci_number.specs.Single.{IsApart}
use Rattle.pci_number.proofs.Views.{next, inside, same_node}

-- ---- bridges that forward nothing

pub shut_from : (image : List ℕ) (p : ℕ) → shows image p 0 0 ≡ true → IsShut image
shut_from image p numbers = let show = shown image p 0 0 numbers in λ bridge. (show.secondary, show.subordinate)

pub shut_spread : (low high : ℕ) (nodes : Nodes) → AreShut nodes → IsSpread low high nodes
shut_spread low high NoMore shut = tt
shut_spread low high (Node d f image behind others) shut = inl (shut.0, shut_spread low high others shut.1)

pub closed_shut : (nodes : Nodes) → IsClosed nodes → AreShut nodes
closed_shut NoMore closed = tt
closed_shut (Node d f image behind others) closed = ((λ bridge. let show = shown image 0 0 0 (closed.0 bridge) in (show.secondary, show.subordinate)), closed_shut others closed.1)

pub closed_spread : (low high : ℕ) (nodes : Nodes) → IsClosed nodes → IsSpread low high nodes
closed_spread low high nodes closed = shut_spread low high nodes (closed_shut nodes closed)

-- ---- bridges that have their numbers

pub numbered_spread : (room : List ℕ → ℕ) (last bus taken : ℕ) (nodes : Nodes) → have_numbers room last bus taken nodes ≡ true → IsSpread taken (last_behind taken nodes) nodes
numbered_spread room last bus taken nodes numbers = ranged_is_spread taken (last_behind taken nodes) nodes (roomy room last bus taken nodes numbers)

-- up to a higher bus
pub spread_more : (low high top : ℕ) (nodes : Nodes) → high ≤ top → IsSpread low high nodes → IsSpread low top nodes
spread_more low high top NoMore less spread = tt
spread_more low high top (Node d f image behind others) less spread = elim spread [
  | inl shut ↦ inl (shut.0, spread_more low high top others less shut.1)
  | inr leads ↦ inr (leads.0, omega (arith, leads.1, less), leads.2, spread_more (max (secondary_bus image) (subordinate_bus image)) high top others less leads.3)
]

-- ---- one bridge that leads to a bus, and those that follow

pub spread_lead : (low high p s u d f : ℕ) (image : List ℕ) (behind others : Nodes) → shows image p s u ≡ true → low < s → s ≤ high → u ≤ high → (u ≤ s) ⊎ IsSpread s u behind → IsSpread (max s u) high others → IsSpread low high (Node d f image behind others)
spread_lead low high p s u d f image behind others numbers above s_within u_within deeper rest =
    let show = shown image p s u numbers in
    let top : max s u ≡ max (secondary_bus image) (subordinate_bus image) = omega (arith, show.secondary, show.subordinate) in
    inr (
      omega (arith, show.secondary, above),
      omega (arith, show.secondary, show.subordinate, s_within, u_within),
      elim deeper [
        | inl narrow ↦ inl (omega (arith, show.secondary, show.subordinate, narrow))
        | inr spread ↦ inr (subst (λ x. IsSpread x (subordinate_bus image) behind) (sym show.secondary) (subst (λ y. IsSpread s y behind) (sym show.subordinate) spread))
      ],
      subst (λ n. IsSpread n high others) top rest,
    )

-- ---- the board

pub single_with : (v : View) (high last d f : ℕ) (image new : List ℕ) (behind nodes others : Nodes) → is_type_1 image ≡ true → IsAlike image new → without_numbers nodes ≡ without_numbers behind → IsApart v (Node d f image behind others) high last → IsSpread high last (Node d f new nodes others) → (board : Board) → board ≡ v.fill (Node d f new nodes others) → HasOneAnswer board
single_with v high last d f image new behind nodes others bridge alike same apart spread board is =
    subst HasOneAnswer (sym is) (apart (Node d f new nodes others) (same_node d f image new behind nodes others others bridge alike same refl) spread)

-- to the next node
pub apart_next : (v : View) (high top last d f : ℕ) (image new : List ℕ) (behind nodes others : Nodes) → is_type_1 image ≡ true → IsAlike image new → without_numbers nodes ≡ without_numbers behind → IsApart v (Node d f image behind others) high last → ((after : Nodes) → IsSpread top last after → IsSpread high last (Node d f new nodes after)) → IsApart (next v d f new nodes) others top last
apart_next v high top last d f image new behind nodes others bridge alike same apart spreads = λ after same_after spread.
    apart (Node d f new nodes after) (same_node d f image new behind nodes others after bridge alike same same_after) (spreads after spread)

-- to the bus behind
pub apart_inside : (v : View) (high last s u d f : ℕ) (image new : List ℕ) (behind nodes others : Nodes) → is_type_1 image ≡ true → IsAlike image new → without_numbers nodes ≡ without_numbers behind → IsApart v (Node d f image behind others) high last → ((after : Nodes) → IsSpread s u after → IsSpread high last (Node d f new after others)) → IsApart (inside v d f new others) nodes s u
apart_inside v high last s u d f image new behind nodes others bridge alike same apart spreads = λ after same_after spread.
    apart (Node d f new after others) (same_node d f image new behind after others others bridge alike (same_after ∙ same) refl) (spreads after spread)
