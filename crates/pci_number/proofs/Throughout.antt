-- The board is single while numbers are given behind a root.
use Rattle.std.proofs.Common.{ℕ, ◌≤◌, length, Bool, refl, sym, ◌∙◌, ap, subst, List, Result, Ok, inl, inr, Err}
use Rattle.pci_number.specs.Board.{Nodes, Board, answers, HasOneAnswer}
use Rattle.pci_number.specs.Access.{nodes_behind, with_nodes}
use Rattle.pci_number.specs.Ready.{IsReady}
use Rattle.pci_number.specs.Steps.{IsHushed}
use Rattle.pci_number.specs.Less.{without_own_numbers, AreShut, IsLessStep}
use Rattle.pci_number.specs.Single.{IsBusStood, IsHushStep, IsSingleBeside, EndsSingle, ClosedOrStopped, IsSingleThroughout}
use Rattle.pci_number.specs.Room.{last_behind}
use Rattle.pci_number.specs.SpareBuses.{spare_room}
use Rattle.pci_number.specs.Walked.{IsBusNumbered, outset}
use Rattle.pci_number.specs.declared.walk.Walk.{Walk}
use Rattle.pci_number.specs.Stood.{AddsOrEnds, AddsSteps, BoardMoment, board_moment}
use Rattle.pci_number.proofs.RootView.{same_nodes}
use Rattle.pci_number.proofs.Roots.{root_view, seen_root, behind_it, at_root_now, start}
use Rattle.pci_number.proofs.Apart.{shut_spread, closed_shut, numbered_spread}
use Rattle.pci_number.proofs.Beside.{single_beside, less_is_single, spread_at_root, apart_at_root, fewer_answers}
use Rattle.pci_number.proofs.Showing.{IsHushOk, IsHushEnd}
use Rattle.pci_number.proofs.Steady.{steps_as, steps_add}
use Rattle.pci_number.proofs.Less.{less_then}
use Rattle.pci_number.proofs.Stood.{adds_none, outcome_then}

hush_step : (before : Board) (root last : ℕ) → IsReady before root last → (was b : Board) → IsLessStep (root_view before root) (nodes_behind before root) was b → IsHushStep before root was b
hush_step before root last ready was b step =
    let there = behind_it before b root last step.to ready step.is in
    let less = less_then (nodes_behind before root) step.from step.to step.start step.less in
    record {
      others = step.is ∙ ap (with_nodes before root) (sym there);
      own = ap without_own_numbers there ∙ less.own;
      fewer = λ access. subst (λ x. length (answers x access) ≤ length (answers was access)) (sym step.is)
          (subst (λ y. length (answers (with_nodes before root step.to) access) ≤ length (answers y access)) (sym step.was_it) (fewer_answers before root last ready step.from step.to step.less access));
      shut = λ beside shut. subst HasOneAnswer (sym step.is) (apart_at_root before root last ready step.to less.same beside step.to refl (shut_spread root last step.to (subst AreShut there shut)));
    }

still_single : (before : Board) (root last : ℕ) → IsReady before root last → HasOneAnswer before → (was b : Board) → IsLessStep (root_view before root) (nodes_behind before root) was b → HasOneAnswer b
still_single before root last ready single was b step = subst HasOneAnswer (sym step.is) (less_is_single before root last ready step.to (less_then (nodes_behind before root) step.from step.to step.start step.less) single)

-- the bridges on the root bus were closed at a moment, or numbering stopped before that
module _ {T E : Type 0} (before : Board) (root last : ℕ) (old new : List Board) (r : Result T E) (closed : BoardMoment) (ready : IsReady before root last) where
  throughout : AddsSteps (IsLessStep (root_view before root) (nodes_behind before root)) (board_moment before old) closed → ClosedOrStopped (nodes_behind closed.board root) r closed.history new
      → (IsSingleBeside before root → AddsOrEnds HasOneAnswer r closed.history new) → IsSingleThroughout (board_moment before old) root r new
  throughout steps done later =
      let R = IsLessStep (root_view before root) (nodes_behind before root) in
      record {
        closed = closed;
        hushing = steps_as R (IsHushStep before root) (hush_step before root last ready) before old closed.board closed.history steps;
        done = done;
        later = later;
        always = λ single. outcome_then HasOneAnswer r old closed.history new
            (steps_add R HasOneAnswer (still_single before root last ready single) before old closed.board closed.history steps) (later (single_beside before root last ready single));
      }

-- the closing of the bridges on the root bus stopped
pub throughout_hush : {T E : Type 0} → (before : Board) (root last : ℕ) (old new : List Board) (e : E) → IsHushEnd before root old new → IsReady before root last
    → IsSingleThroughout {T = T} {E = E} (board_moment before old) root (Err e) new
throughout_hush before root last old new e hush = λ ready.
    let ends = hush (root_view before root) root last (nodes_behind before root) (sym (same_nodes root before ready.one)) (seen_root before root last ready) ready.walkable in
    throughout before root last old new (Err e) ends.0 ready ends.1 (inr ends.2) (λ beside. (ends.0.history, adds_none HasOneAnswer ends.0.history, ends.2))

-- it was done, whatever came after it
pub throughout_walk : {T E : Type 0} → (spare : ℕ) (before mid : Board) (root last : ℕ) (bridges : Bool) (old hushed new : List Board) (r : Result T E) → IsHushed before root bridges mid
    → IsHushOk before root old mid hushed → IsBusStood (board_moment mid hushed) (outset root last spare (start root)) r new → IsReady before root last → IsSingleThroughout (board_moment before old) root r new
throughout_walk spare before mid root last bridges old hushed new r hush stood walk = λ ready.
    let h = at_root_now before mid root last bridges hush ready in
    throughout before root last old new r (board_moment mid hushed) ready (stood (root_view before root) root last (nodes_behind before root) (sym (same_nodes root before ready.one)) h.seen ready.walkable)
    (closed_there (nodes_behind mid root) r hushed new (subst AreShut (sym (behind_it before mid root last h.nodes ready h.is)) (closed_shut h.nodes h.closed)))
    (λ beside. walk (root_view before root) h.nodes h.is h.seen h.walkable h.closed (apart_at_root before root last ready h.nodes h.same beside)) where
      closed_there : {T E : Type 0} → (nodes : Nodes) (r : Result T E) (hushed new : List Board) → AreShut nodes → ClosedOrStopped nodes r hushed new
      closed_there nodes (Ok x) hushed new shut = shut
      closed_there nodes (Err e) hushed new shut = inl shut

pub end_single : (spare : ℕ) (before mid after : Board) (root last : ℕ) (bridges : Bool) (walk : Walk) → IsHushed before root bridges mid → IsBusNumbered mid (outset root last spare (start root)) walk after → EndsSingle before root last after
end_single spare before mid after root last bridges walk hushed numbered = λ ready beside.
    let h = at_root_now before mid root last bridges hushed ready in
    let n = numbered (root_view before root) h.nodes h.is h.seen h.walkable h.closed in
    subst HasOneAnswer (sym n.1) (spread_at_root before root last ready (last_behind root n.0) n.0 (n.2 ∙ h.same) beside (numbered_spread (spare_room spare) last root root n.0 n.3))
