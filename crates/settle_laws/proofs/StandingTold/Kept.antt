-- What stays is off lines where windows grow as it is where it stands.
use Rattle.std.proofs.Common.{◌≡◌, ◌≤◌, inl, inr, Some, true, not, sym, ◌∙◌, ap, subst}
use Rattle.std.specs.List.{Contains}
use Rattle.std.specs.Option.{is_some}
use Rattle.std.proofs.lemmas.Bool.{cases_Bool, false≢true, and_parts, and_from, both_ways, not-true, not_from_false}
use Rattle.pci_spec.specs.Decoded.{Range}
use Rattle.pci_spec.specs.System.{System, Function, IsSystem, Part, Bar, Rom, Window}
use Rattle.pci_spec.specs.Bus.{IsNested}
use Rattle.judge_spec.specs.ToldRegion.{ToldRegion, told_regions}
use Rattle.settle_spec.specs.FirstPlace.{ranges_are_apart}
use Rattle.settle_spec.specs.Lists.{Request}
use Rattle.settle_spec.specs.Parts.{FunctionPart, system_parts, addresses}
use Rattle.settle_spec.specs.Lines.{line_range, can_keep_off}
use Rattle.settle_spec.specs.Stands.{part_space, window_part}
use Rattle.settle_spec.specs.Reach.{reach}
use Rattle.settle_spec.specs.Growth.{there, comes_to, has_grown}
use Rattle.settle_spec.specs.Kept.{range_growing, growing}
use Rattle.settle_spec.proofs.Reaching.{ends_apart, apart_ends, within_gives, reach_is_off_lines}
use Rattle.settle_laws.specs.Reach.{WindowsAreLow}
use Rattle.settle_laws.specs.There.{ItemsAreAligned}
use Rattle.settle_laws.specs.StandingTold.Kept.{LinesAreForward, StaysOffLines}
use Rattle.settle_laws.proofs.GrowingKept.{taking, grown_takes, grown_range, same_range, there_taking}
use Rattle.settle_laws.proofs.There.{there_is_in_reach}
use Rattle.settle_laws.proofs.ThereApart.{inner_apart}
use Rattle.settle_laws.proofs.StandingTold.Beside.{apart_back}

module _ (q : Request) (s : System) (system : IsSystem s) (nested : IsNested q.roots s) (low : WindowsAreLow q s) (aligned : ItemsAreAligned q s) where
  module _ (x : ToldRegion) (is_told : Contains (told_regions q.told) x) (forward : x.told.first ≤ x.told.last) where
    abbrev line : Range
    line = line_range x

    -- what a part comes to shares an address with a line that can keep it off only where the part does
    comes_off : (f : Function) (p : Part) (t : Range) → Contains (system_parts q s) (record { function = f; part = p }) → comes_to q s (record { function = f; part = p }) ≡ Some t → there q s (record { function = f; part = p }) ≡ Some t
        → can_keep_off q x f.slot (part_space (record { function = f; part = p })) ≡ true → ranges_are_apart (addresses (record { function = f; part = p })) line ≡ true → ranges_are_apart t line ≡ true
    comes_off f (Bar n) t listed comes is can apart = absurd (false≢true (ap is_some comes))
    comes_off f Rom t listed comes is can apart = absurd (false≢true (ap is_some comes))
    comes_off f (Window c) t listed comes is can apart =
        let at = there_is_in_reach q s system nested low aligned (window_part c f) t listed is in
        let off = reach_is_off_lines q s c f x is_told can forward apart in
        apart_ends t line (inner_apart t (reach q s c f) line (within_gives t (reach q s c f) at.within) (ends_apart (reach q s c f) line off))

    module _ (r : FunctionPart) (listed : Contains (system_parts q s) r) (can : can_keep_off q x r.function.slot (part_space r) ≡ true) where
      -- what is off a line stays off it where windows grow
      pub grown_off : ranges_are_apart (addresses r) line ≡ true → ranges_are_apart (range_growing q s r) line ≡ true
      grown_off apart = elim (cases_Bool (has_grown q s r)) [
        | inl grown ↦
            let taken = grown_takes q s r grown in
            let to = taking q s r taken in
            subst (λ t. ranges_are_apart t line ≡ true) (sym (grown_range q s r to.range grown to.comes))
            (comes_off r.function r.part to.range listed to.comes (there_taking q s system nested r listed taken ∙ to.comes) can apart)
        | inr not_grown ↦ subst (λ t. ranges_are_apart t line ≡ true) (sym (same_range q s r not_grown)) apart
      ]

  pub growing_off_lines : LinesAreForward q → StaysOffLines q s (growing q s)
  growing_off_lines forward r x listed stay is_told keeps =
      let line = line_range x in
      let can = can_keep_off q x r.function.slot (part_space r) in
      let both = and_parts can (not (ranges_are_apart line (range_growing q s r))) keeps in
      elim (cases_Bool (ranges_are_apart line (addresses r))) [
        | inl apart ↦
            absurd (both_ways (ranges_are_apart line (range_growing q s r)) (not-true (ranges_are_apart line (range_growing q s r)) both.1)
            (apart_back line (range_growing q s r) ∙ grown_off x is_told (forward x is_told) r listed both.0 (apart_back (addresses r) line ∙ apart)))
        | inr shares ↦ and_from can (not (ranges_are_apart line (addresses r))) both.0 (not_from_false (ranges_are_apart line (addresses r)) shares)
      ]
