-- All splits of a system: space by space, and in order.
use Rattle.std.proofs.Common.{rules, ◌≡◌, ℕ, ◌⊎◌, inl, inr, List, [], ◌++◌, map, get_or, refl, sym, ◌∙◌, ap, subst, arith}
use Rattle.std.specs.Prelude.{◌↔◌}
use Rattle.std.specs.List.Sorted.{IsPermutation, IsNonDecreasingBy}
use Rattle.pci_spec.specs.System.{System, Space, Io, Memory, IsSystem}
use Rattle.pci_spec.specs.Fault.{Split}
use Rattle.pci_spec.specs.Fault as plain
use Rattle.pci_spec.proofs.Firsts.{space_key-same}
use Rattle.pci_base.specs.Space.{space_of}
use Rattle.pci_check.proofs.Clashing.{io_is_not_memory}
use Rattle.pci_tree.specs.Outline.{Tree}
use Rattle.judge_spec.specs.Given.{Given}
use Rattle.judge_spec.specs.Fault.{Known, fault_number}
use Rattle.judge_spec.specs.Told.{IsTold}
use Rattle.judge_spec.specs.ToldClaims.{Told}
use Rattle.judge_spec.specs.ToldAllFaults.{IsNamed}
use Rattle.pci_faults.specs.declared.named.Split as named
use Rattle.pci_faults.specs.JustLines.{AreJustLines}
use Rattle.pci_faults.specs.RegionOrder.{split_place}
use Rattle.pci_faults.specs.Splits.{split_value, IsSplitLine, IsSplitIn, AreSplitsAdded}
use Rattle.pci_faults.specs.Named.{AreAllSplits}
use Rattle.pci_faults.proofs.Addings.{AreApart, added_both}
use Rattle.pci_faults.proofs.AllClashing.{spelled}
use Rattle.pci_faults.proofs.Orders.{IsSplitBelow, split_order}
use Rattle.pci_faults.proofs.Places.{space_small}
use Rattle.pci_faults.proofs.Numbering.{AreLinesOf, all_numbered}

abbrev IsAnywhere : Space → Type 0
IsAnywhere sp = Unit {0}

one_of_two : (space : Space) → IsSplitIn Io space ⊎ IsSplitIn Memory space
one_of_two Io = inl refl
one_of_two Memory = inr refl

module _ (told : Told) (given : Given) (roots : List ℕ) (s : System) where
  -- ---- lines by space

  lines_apart : AreApart (IsSplitLine (IsSplitIn Io) told given roots s) (IsSplitLine (IsSplitIn Memory) told given roots s)
  lines_apart (plain.Split sp a f r g q) (plain.Split space b h k i l) one two e =
      io_is_not_memory (sym one.0 ∙ space_key-same sp space (ap (λ l. get_or l 1 0) e) ∙ two.0)
  lines_apart f g one two e = absurd (search rules)

  either_line : (f : plain.Fault) → IsSplitLine IsAnywhere told given roots s f ↔ (IsSplitLine (IsSplitIn Io) told given roots s f ⊎ IsSplitLine (IsSplitIn Memory) told given roots s f)
  either_line f = elim f as (λ (f : plain.Fault). IsSplitLine IsAnywhere told given roots s f ↔ (IsSplitLine (IsSplitIn Io) told given roots s f ⊎ IsSplitLine (IsSplitIn Memory) told given roots s f)) [
    | Split space a f r g q ↦ (
      λ (at, line). elim (one_of_two space) [ inl io ↦ inl (io, line) | inr memory ↦ inr (memory, line) ],
      λ one. elim one [ inl (io, line) ↦ (tt {0}, line) | inr (memory, line) ↦ (tt {0}, line) ],
    )
    | _ ↦ (λ line. absurd line, λ line. elim line [ inl x ↦ x | inr y ↦ y ])
  ]

  -- ---- in order

  module _ (is_told : IsTold told.ranges) (system : IsSystem s) where
    abbrev pub Line : plain.Fault → Type 0
    Line = IsSplitLine IsAnywhere told given roots s

    below : (c : named.Split) → Line (split_value c) → IsSplitBelow c
    below c (at, line) =
        let first = spelled told is_told given s system c.first.slot.bus (space_of c.space) c.address c.first.slot c.first.register line.there.claims_first in
        let second = spelled told is_told given s system c.second.slot.bus (space_of c.space) c.address c.second.slot c.second.register line.there.claims_second in
        (space_small (space_of c.space), (first.address, (first.numbers.0, (first.numbers.1, (first.numbers.2, (first.register_small, (second.numbers.0, (second.numbers.1, (second.numbers.2, (second.register_small, tt))))))))))

    named_line : (f : plain.Fault) → Line f → IsNamed told given roots s (Known f) × (fault_number (Known f) ≡ 62)
    named_line (plain.Split space a f r g q) (at, line) = (line, refl)
    named_line f line = absurd (search rules)

    line_named : (f : plain.Fault) → IsNamed told given roots s (Known f) → fault_number (Known f) ≡ 62 → Line f
    line_named (plain.Split space a f r g q) line number = (tt {0}, line)
    line_named (plain.Unreached slot register space a bridge) line number = absurd (let no : ⊥ = omega (arith, number) in no)
    line_named (plain.Clash bus space a f r g q) line number = absurd (let no : ⊥ = omega (arith, number) in no)
    line_named f line number = absurd (search rules)

    pub lines : AreLinesOf split_value split_place 62 told given roots s Line
    lines = record {
      inside = λ e. (let no : ⊥ = omega (arith, e) in no);
      named = named_line;
      line = line_named;
      in_order = λ c d one other. split_order c d (below c one) (below d other);
    }

pub both_spaces : (told : Told) (given : Given) (t : Tree) (a b c : List named.Split) → AreSplitsAdded (IsSplitIn Io) told given t a b → AreSplitsAdded (IsSplitIn Memory) told given t b c → AreSplitsAdded IsAnywhere told given t a c
both_spaces told given t a b c one two = added_both t (IsSplitLine (IsSplitIn Io) told given t.roots) (IsSplitLine (IsSplitIn Memory) told given t.roots) (IsSplitLine IsAnywhere told given t.roots) (map split_value a) (map split_value b) (map split_value c)
    (λ s tree f g. lines_apart told given t.roots s f g) (λ s tree f. either_line told given t.roots s f) one two

pub all_splits_are : (told : Told) → IsTold told.ranges → (given : Given) (t : Tree) (none xs ys : List named.Split) → none ≡ [] → AreSplitsAdded IsAnywhere told given t none xs → IsPermutation xs ys
    → IsNonDecreasingBy split_place ys → AreAllSplits told given t ys
all_splits_are told is_told given t none xs ys empty added moved sorted s tree listed =
    let is : map split_value xs ≡ added.more = added.appended ∙ ap (λ (l : List named.Split). map split_value l ++ added.more) empty in
    all_numbered split_value split_place 62 told given t.roots s (IsSplitLine IsAnywhere told given t.roots s) (lines told given t.roots s is_told tree.system) xs ys
    (subst (AreJustLines (IsSplitLine IsAnywhere told given t.roots s)) (sym is) (added.just s tree)) moved sorted
