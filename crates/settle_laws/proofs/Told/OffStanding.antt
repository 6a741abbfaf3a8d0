-- A part that stands is off each line that is on, and off each told range that stands, where the line can keep it off.
use Rattle.std.proofs.Common.{◌≡◌, ◌||◌, inl, inr, true, not, ◌∙◌}
use Rattle.std.specs.List.{Contains}
use Rattle.std.proofs.lemmas.Bool.{and_from, and_parts, both_ways, cases_Bool, not_from_false, or_cases}
use Rattle.pci_spec.specs.System.{System}
use Rattle.plan_spec.specs.Planning.Layout.{LieApart}
use Rattle.judge_spec.specs.ToldRegion.{ToldRegion, told_regions}
use Rattle.settle_spec.specs.FirstPlace.{ranges_are_apart}
use Rattle.settle_spec.specs.Lines.{line_range, is_line_of, can_keep_off}
use Rattle.settle_spec.specs.Lists.{Request}
use Rattle.settle_spec.specs.Parts.{FunctionPart, system_parts, addresses}
use Rattle.settle_spec.specs.Stands.{part_space, is_line_on, range_stands, stands}
use Rattle.settle_spec.proofs.ToldStanding.{stands_off_lines}
use Rattle.settle_laws.proofs.StandingTold.Beside.{apart_back, ranges_off_parts}
use Rattle.settle_laws.proofs.Kept.{lie_apart}

module _ (q : Request) (s : System) (r : FunctionPart) (x : ToldRegion) (in_r : Contains (system_parts q s) r) (stand : stands q s r ≡ true) (in_x : Contains (told_regions q.told) x)
    (can_be : can_keep_off q x r.function.slot (part_space r) ≡ true) where
  range_off : range_stands q s x ≡ true → ranges_are_apart (addresses r) (line_range x) ≡ true
  range_off stands_x =
      ranges_off_parts q s r x in_r in_x stand stands_x (and_parts (is_line_of q (part_space r) r.function.slot.bus x) _ can_be).0

  on_off : is_line_on q s x ≡ true → ranges_are_apart (addresses r) (line_range x) ≡ true
  on_off on = elim (cases_Bool (ranges_are_apart (line_range x) (addresses r))) [
    | inl apart ↦ apart_back (addresses r) (line_range x) ∙ apart
    | inr shares ↦
        let keeps = and_from (can_keep_off q x r.function.slot (part_space r)) (not (ranges_are_apart (line_range x) (addresses r))) can_be (not_from_false (ranges_are_apart (line_range x) (addresses r)) shares) in
        absurd (both_ways (is_line_on q s x) (stands_off_lines q s r x stand in_x keeps).0 on)
  ]

  pub stand_off_line : (is_line_on q s x || range_stands q s x) ≡ true → LieApart (addresses r) (line_range x)
  stand_off_line counts = lie_apart (addresses r) (line_range x) (elim (or_cases (is_line_on q s x) (range_stands q s x) counts) [
    | inl on ↦ on_off on
    | inr stands_x ↦ range_off stands_x
  ])
