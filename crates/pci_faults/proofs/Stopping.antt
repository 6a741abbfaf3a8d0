-- The first bridge of a path that doesn't pass all that is sent of a range.
use Rattle.std.proofs.Common.{◌≡◌, ℕ, ◌+◌, ◌<◌, ◌≤◌, List, length, get_or, take, subst, sym, ◌∙◌, ap}
use Rattle.std.specs.Prelude.{IsTrue}
use Rattle.std.specs.List.{All, Contains}
use Rattle.std.proofs.lemmas.List.{get_or_default, take_all}
use Rattle.std.proofs.lemmas.List.Elements.{All-more}
use Rattle.pci_spec.specs.Slot.{Slot, slot_number}
use Rattle.pci_spec.specs.Window.{WindowKind}
use Rattle.pci_spec.specs.System.{window_space}
use Rattle.pci_spec.proofs.Members.{in_map_from}
use Rattle.pci_base.specs.declared.range.Range.{Range}
use Rattle.pci_function.specs.declared.record.Record.{Record}
use Rattle.pci_tree.specs.Outline.{RiseBySlot}
use Rattle.pci_tree.specs.Ranges.{Holds, Covers}
use Rattle.pci_tree.specs.Ways.{slots_of}
use Rattle.pci_tree.proofs.Lifting.{one_by_number}
use Rattle.judge_spec.specs.Given.{Given}
use Rattle.pci_claims.specs.Passed.{ArePassed, passes_with}
use Rattle.pci_claims.specs.Sent.{IsSentTo}
use Rattle.pci_claims.specs.Reached.{PassesAt}
use Rattle.pci_claims.specs.Outside.{IsSent}
use Rattle.pci_faults.specs.Missed.{IsLeastMissed}
use Rattle.pci_faults.specs.Stopped.{PassesSent, IsFirstBridgeThatStops}

module _ (given : Given) (kind : WindowKind) (records : List Record) (root : ℕ) (range : Range) where
  -- the record at a slot is one
  passes_at : (slot : Slot) (r : Record) (a : ℕ) → RiseBySlot records → Contains records r → r.slot ≡ slot → IsTrue (passes_with given kind a r) → PassesAt given kind records a slot
  passes_at slot r a rise has named pass q in_q same =
      subst (λ (x : Record). IsTrue (passes_with given kind a x)) (one_by_number (λ (x : Record). slot_number x.slot) records r q rise has in_q (ap slot_number (named ∙ sym same))) pass

  -- the bridge at the next slot passes all
  pub passes_more : (path : List Slot) (i : ℕ) (slot : Slot) (r : Record) (sent passed : List Range) → RiseBySlot records → i < length path → slot ≡ get_or path i slot → Contains records r → r.slot ≡ slot
      → IsSentTo given (window_space kind) root sent → ArePassed given kind r passed → ((a : ℕ) → Holds range a → Covers sent a → Covers passed a)
      → All (PassesSent given kind records root range) (take i path) → All (PassesSent given kind records root range) (take (i + 1) path)
  passes_more path i slot r sent passed rise within at has named is are all before =
      All-more (PassesSent given kind records root range) path i slot within before
      (subst (PassesSent given kind records root range) at (λ a held there. passes_at slot r a rise has named ((are.exact a).0 (all a held ((is.exact a).1 there)))))

  -- no bridge has the next slot
  pub passes_past : (path : List Slot) (i : ℕ) (slot : Slot) → i < length path → slot ≡ get_or path i slot → (Contains (slots_of records) slot → ⊥)
      → All (PassesSent given kind records root range) (take i path) → All (PassesSent given kind records root range) (take (i + 1) path)
  passes_past path i slot within at none before =
      All-more (PassesSent given kind records root range) path i slot within before
      (subst (PassesSent given kind records root range) at (λ a held there q in_q same. absurd (none (subst (Contains (slots_of records)) same (in_map_from (λ (x : Record). x.slot) records q in_q)))))

  pub passes_whole : (path : List Slot) (n : ℕ) → length path ≤ n → All (PassesSent given kind records root range) (take n path) → All (PassesSent given kind records root range) path
  passes_whole path n end all = subst (All (PassesSent given kind records root range)) (take_all n path end) all

  pub stops_here : (path : List Slot) (i : ℕ) (slot : Slot) (r : Record) (sent passed : List Range) (a : ℕ) → RiseBySlot records → i < length path → slot ≡ get_or path i slot → Contains records r → r.slot ≡ slot
      → IsSentTo given (window_space kind) root sent → ArePassed given kind r passed → IsLeastMissed range sent passed a
      → All (PassesSent given kind records root range) (take i path) → IsFirstBridgeThatStops (IsSent given (window_space kind) root) (PassesAt given kind records) range path slot a
  stops_here path i slot r sent passed a rise within at has named is are missed before = record {
    place = i;
    within = within;
    at = λ d. get_or_default path i d slot within ∙ sym at;
    before = before;
    held = missed.held;
    sent = (is.exact a).0 missed.sent_there;
    stopped = λ pass. missed.stopped ((are.exact a).1 (pass r has named));
    least = λ b less held there. passes_at slot r b rise has named ((are.exact b).0 (missed.least b less held ((is.exact b).1 there)));
  }
