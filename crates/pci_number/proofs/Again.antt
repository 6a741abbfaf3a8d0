-- A second numbering answers and leaves the same.
use Rattle.std.proofs.Common.{◌≡◌, ℕ, suc, inl, inr, [], ◌∷◌, true, ◌||◌, refl, sym, ◌∙◌, ap, subst, length}
use Rattle.std.specs.Bool.{nat_le, nat_lt, ◌==◌}
use Rattle.std.specs.List.{filter, list_all}
use Rattle.std.proofs.lemmas.Bool.{eq-eqb, cases_Bool}
use Rattle.pci_spec.specs.Header.{secondary_bus}
use Rattle.pci_number.specs.Board.{Nodes, NoMore, Node, Board}
use Rattle.pci_number.specs.Access.{nodes_behind, with_nodes}
use Rattle.pci_number.specs.Walk.{has_bus}
use Rattle.pci_number.specs.Numbered.{without_numbers}
use Rattle.pci_number.specs.Room.{last_behind}
use Rattle.pci_number.specs.SpareBuses.{spare_room}
use Rattle.pci_number.specs.NoBus.{first_without}
use Rattle.pci_number.specs.Ready.{IsReady}
use Rattle.pci_number.specs.Reached.{reached}
use Rattle.pci_number.proofs.Kept.{same_walk}
use Rattle.pci_number.proofs.SameRoom.{last_reached, roomy_numbers_are_one, all_roomy_numbers_are_one}
use Rattle.pci_number.proofs.SpareKept.{spare_stays}
use Rattle.pci_number.specs.Answer.{named_by, highest_bus_of, IsAnswer}
use Rattle.pci_number.specs.Again.{IsSameNumbering, NumbersStand}
use Rattle.pci_number.specs.declared.number.Numbering.{Numbering}
use Rattle.pci_number.specs.declared.number.Numbering.TheVariants.{Numbered, NoBus}
use Rattle.pci_number.proofs.RootView.{same_nodes, all_same}

-- ---- a board that may be numbered may be so with other numbers

count_stays : (root : ℕ) (nodes : Nodes) (board : Board) → length (filter (λ other. other.number == root) (with_nodes board root nodes)) ≡ length (filter (λ other. other.number == root) board)
count_stays root nodes [] = refl
count_stays root nodes (r ∷ roots) = elim (cases_Bool (r.number == root)) [
  | inl own ↦ let same : (root == root) ≡ true = eq-eqb root root refl in rw (own, same) (ap suc (count_stays root nodes roots))
  | inr other ↦ rw (other, other) (count_stays root nodes roots)
]

pub ready_stays : (before after : Board) (root last : ℕ) → IsReady before root last → after ≡ with_nodes before root (nodes_behind after root) → without_numbers (nodes_behind before root) ≡ without_numbers (nodes_behind after root) → IsReady after root last
ready_stays before after root last ready others same = record {
  one = ap (λ b. length (filter (λ other. other.number == root) b)) others ∙ count_stays root (nodes_behind after root) before ∙ ready.one;
  apart = subst (λ b. list_all (λ other. nat_le other.number root || nat_lt last other.number) b ≡ true) (sym others) (all_same (λ n. nat_le n root || nat_lt last n) root (nodes_behind after root) before ∙ ready.apart);
  walkable = sym (same_walk (nodes_behind before root) (nodes_behind after root) same) ∙ ready.walkable;
}

-- ---- what is answered hangs on what the walk comes to

first_reached : (bus : ℕ) (nodes : Nodes) → first_without bus (reached nodes) ≡ first_without bus nodes
first_reached bus NoMore = refl
first_reached bus (Node d f image behind others) = elim (cases_Bool (has_bus image)) [
  | inl leads ↦ rw (leads, first_reached (secondary_bus image) behind, first_reached bus others) refl
  | inr none ↦ rw (none, first_reached bus others) refl
]

same_numbering : (a b : Numbering) → named_by a ≡ named_by b → highest_bus_of a ≡ highest_bus_of b → a ≡ b
same_numbering (Numbered n) (Numbered m) named highest = ap Numbered highest
same_numbering (Numbered n) (NoBus slot m) named highest = absurd (cc named)
same_numbering (NoBus slot n) (Numbered m) named highest = absurd (cc named)
same_numbering (NoBus slot n) (NoBus other m) named highest = cc

stands : (spare root last : ℕ) (before after again : Board) (first second : Numbering) → IsReady after root last → IsAnswer spare before root last first after → IsAnswer spare after root last second again → IsSameNumbering root first after second again
stands spare root last before after again first second ready a b =
    let nodes = nodes_behind after root in
    let more = nodes_behind again root in
    let one = roomy_numbers_are_one (spare_room spare) (spare_stays spare) root last (nodes_behind before root) nodes nodes more a.numbered.same a.numbered b.numbered in
    record {
      answer = same_numbering second first
          (b.without ∙ sym (first_reached root more) ∙ ap (first_without root) (sym one) ∙ first_reached root nodes ∙ sym a.without)
          (b.highest ∙ sym (last_reached root more) ∙ ap (last_behind root) (sym one) ∙ last_reached root nodes ∙ sym a.highest);
      reached = sym one;
      all = λ none lead.
          let same = all_roomy_numbers_are_one (spare_room spare) (spare_stays spare) root last (nodes_behind before root) nodes nodes more a.numbered.same a.numbered b.numbered (sym a.without ∙ none) lead in
          b.others ∙ ap (with_nodes after root) (sym same) ∙ same_nodes root after ready.one;
    }

pub numbers_stand : NumbersStand
numbers_stand spare root last before after again first second ready first_answers second_answers =
    let a = first_answers ready in
    let ready_after = ready_stays before after root last ready a.others a.numbered.same in
    stands spare root last before after again first second ready_after a (second_answers ready_after)
