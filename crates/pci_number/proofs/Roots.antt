-- What is numbered behind a root bus.
use Rattle.std.proofs.Common.{◌≡◌, ℕ, inl, inr, Bool, true, false, arith, refl, sym, ◌∙◌, ap, subst, None}
use Rattle.std.specs.Bool.{◌==◌}
use Rattle.std.specs.List.{flat_map}
use Rattle.std.proofs.lemmas.Bool.{eq-eqb, ne_eqb}
use Rattle.std.proofs.lemmas.List.{append-nil}
use Rattle.pci_number.specs.Board.{Nodes, Board, node_image}
use Rattle.pci_number.specs.Access.{nodes_behind, with_byte, with_nodes}
use Rattle.pci_number.specs.Walk.{is_walkable}
use Rattle.pci_number.specs.Numbered.{without_numbers}
use Rattle.pci_number.specs.Room.{last_behind, IsNumberedWithRoom}
use Rattle.pci_number.specs.SpareBuses.{spare_room}
use Rattle.pci_number.specs.NoBus.{first_without}
use Rattle.pci_number.specs.Ready.{IsReady}
use Rattle.pci_number.proofs.Kept.{same_walk}
use Rattle.pci_number.proofs.ListedRoots.{with_root}
use Rattle.pci_number.specs.Seen.{View, IsSeen, IsClosed}
use Rattle.pci_number.specs.Steps.{IsHushed, IsHushLeft}
use Rattle.pci_number.specs.Walked.{IsBusNumbered, IsBusLeft, outset}
use Rattle.pci_number.specs.Answer.{named_by, highest_bus_of, IsAnswer, IsBoardKept}
use Rattle.pci_number.specs.declared.number.Numbering.{Numbering}
use Rattle.pci_number.specs.declared.walk.Walk.{Walk}
use Rattle.pci_number.proofs.RootView.{only_there, nodes_there, nodes_twice, same_nodes}

abbrev pub root_view : Board → ℕ → View
root_view board root = record { fill = λ nodes. with_nodes board root nodes; at = λ place. (root, place) }

pub seen_root : (board : Board) (root last : ℕ) → IsReady board root last → IsSeen (root_view board root) root 0 root last
seen_root board root last ready = record {
  here = λ nodes access on from.
      let own : (root == access.bus) ≡ true = eq-eqb root access.bus (sym on) in
      ap (flat_map (with_root access)) (only_there board root last ready nodes access.bus (omega (arith, on)) (inl (omega (arith, on))))
      ∙ append-nil (with_root access (record { number = root; nodes = nodes }))
      ∙ rw own refl;
  behind = λ nodes access over within.
      let other : (root == access.bus) ≡ false = ne_eqb root access.bus (λ is. omega (arith, is, over)) in
      ap (flat_map (with_root access)) (only_there board root last ready nodes access.bus (omega (arith, over)) (inr within))
      ∙ append-nil (with_root access (record { number = root; nodes = nodes }))
      ∙ rw other refl;
  image = λ nodes place. ap (λ n. node_image n place) (nodes_there root nodes board (omega (arith, ready.one)));
  byte = λ nodes place offset value.
      ap (λ n. with_nodes (with_nodes board root nodes) root (with_byte n place offset value)) (nodes_there root nodes board (omega (arith, ready.one)))
      ∙ nodes_twice root nodes (with_byte nodes place offset value) board;
}

-- the nodes behind the root, where they alone are others
pub behind_it : (before after : Board) (root last : ℕ) (whole : Nodes) → IsReady before root last → after ≡ with_nodes before root whole → nodes_behind after root ≡ whole
behind_it before after root last whole ready is = ap (λ b. nodes_behind b root) is ∙ nodes_there root whole before (omega (arith, ready.one))

kept : (before after : Board) (root last : ℕ) (whole : Nodes) → IsReady before root last → after ≡ with_nodes before root whole → without_numbers whole ≡ without_numbers (nodes_behind before root) → IsBoardKept before root after
kept before after root last whole ready is same =
    let there = behind_it before after root last whole ready is in
    record { others = is ∙ ap (with_nodes before root) (sym there); same = sym same ∙ ap without_numbers (sym there) }

pub kept_at_hush : (before after : Board) (root last : ℕ) → IsHushLeft before root after → IsReady before root last → IsBoardKept before root after
kept_at_hush before after root last left = λ ready.
    let w = left (root_view before root) root last (nodes_behind before root) (sym (same_nodes root before ready.one)) (seen_root before root last ready) ready.walkable in
    kept before after root last w.0 ready w.1 w.2

-- the nodes at the root once the bridges there are closed
pub record AtRoot (before : Board) (mid : Board) (root : ℕ) (last : ℕ) : Type 0 where
  pub nodes : Nodes
  pub is : mid ≡ with_nodes before root nodes
  pub seen : IsSeen (root_view before root) root 0 root last
  pub walkable : is_walkable nodes ≡ true
  pub closed : IsClosed nodes
  pub same : without_numbers nodes ≡ without_numbers (nodes_behind before root)

pub at_root_now : (before mid : Board) (root last : ℕ) (bridges : Bool) → IsHushed before root bridges mid → IsReady before root last → AtRoot before mid root last
at_root_now before mid root last bridges hushed ready =
    let seen = seen_root before root last ready in
    let h = hushed (root_view before root) root last (nodes_behind before root) (sym (same_nodes root before ready.one)) seen ready.walkable in
    record {
      nodes = h.0;
      is = h.1;
      seen = seen;
      walkable = same_walk h.0 (nodes_behind before root) h.2 ∙ ready.walkable;
      closed = h.3;
      same = h.2;
    }

-- a walk that begins at the root
abbrev pub start : ℕ → Walk
start root = record { taken = root; without = None }

pub kept_at_walk : (spare : ℕ) (before mid after : Board) (root last : ℕ) (bridges : Bool) → IsHushed before root bridges mid → IsBusLeft mid (outset root last spare (start root)) after → IsReady before root last → IsBoardKept before root after
kept_at_walk spare before mid after root last bridges hushed left = λ ready.
    let h = at_root_now before mid root last bridges hushed ready in
    let w = left (root_view before root) h.nodes h.is h.seen h.walkable h.closed in
    kept before after root last w.0 ready w.1 (w.2 ∙ h.same)

pub answer_of : (spare : ℕ) (before mid after : Board) (root last : ℕ) (bridges : Bool) (walk : Walk) (answer : Numbering) → IsHushed before root bridges mid → IsBusNumbered mid (outset root last spare (start root)) walk after → named_by answer ≡ walk.without → highest_bus_of answer ≡ walk.taken → IsReady before root last → IsAnswer spare before root last answer after
answer_of spare before mid after root last bridges walk answer hushed numbered names highest = λ ready.
    let h = at_root_now before mid root last bridges hushed ready in
    let n = numbered (root_view before root) h.nodes h.is h.seen h.walkable h.closed in
    let there = behind_it before after root last n.0 ready n.1 in
    record {
      others = n.1 ∙ ap (with_nodes before root) (sym there);
      numbered = subst (IsNumberedWithRoom (spare_room spare) root last (nodes_behind before root)) (sym there) (record { same = sym (n.2 ∙ h.same); numbers = n.3 });
      without = names ∙ n.5 ∙ ap (first_without root) (sym there);
      highest = highest ∙ n.4 ∙ ap (last_behind root) (sym there);
    }

pub kept_at_end : (spare : ℕ) (before mid after : Board) (root last : ℕ) (bridges : Bool) (walk : Walk) → IsHushed before root bridges mid → IsBusNumbered mid (outset root last spare (start root)) walk after → IsReady before root last → IsBoardKept before root after
kept_at_end spare before mid after root last bridges walk hushed numbered = kept_at_walk spare before mid after root last bridges hushed (λ v nodes is seen walkable closed.
    let n = numbered v nodes is seen walkable closed in
    (n.0, n.1, n.2))
