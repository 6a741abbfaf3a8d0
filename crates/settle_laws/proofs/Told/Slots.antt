-- Slots say nothing of what stands, of told ranges and of what answers.
use Rattle.std.proofs.Common.{◌≡◌, ℕ, zero, suc, List, length, Bool, ◌&&◌, ◌||◌, not, refl, sym, ◌∙◌, ap}
use Rattle.std.specs.List.{list_all, list_any}
use Rattle.std.proofs.Math.Path.{fun_ext}
use Rattle.pci_spec.specs.Slot.{Slot, same_slot}
use Rattle.pci_spec.specs.System.{System, Function, Space, is_space_on, is_window}
use Rattle.plan_spec.specs.Plan.{bridges_above}
use Rattle.judge_spec.specs.ToldRegion.{ToldRegion, told_regions}
use Rattle.settle_spec.specs.Lines.{is_held_line, is_command_line}
use Rattle.settle_spec.specs.Lists.{Request}
use Rattle.settle_spec.specs.Parts.{FunctionPart, system_parts, function_parts, are_same_space}
use Rattle.settle_spec.specs.Registers.{has_own}
use Rattle.settle_spec.specs.Stands.{part_space, is_range_in_place, is_range_kept_off, takes_from_range, range_takes_from, range_stands_within, range_stands, stands_if, stands_within, stands}
use Rattle.settle_spec.specs.Writes.{is_cut_off_in}
use Rattle.settle_laws.proofs.Told.NothingSettled.{IsStart}

module _ (q : Request) (slots : List Slot) (t : System) where
  abbrev with : Request
  with = record q { slots = slots }

  pub stands_alike : (others : ℕ) (r : FunctionPart) → stands_within (record q { slots = slots }) t others r ≡ stands_within q t others r
  unfolding stands_within
  stands_alike zero r = refl
  stands_alike (suc others) r = ap (λ test. stands_if q t test r) (fun_ext (stands_alike others))

  pub stand_alike : (r : FunctionPart) → stands with t r ≡ stands q t r
  stand_alike r = stands_alike (length (system_parts q t)) r

  abbrev range_by : (FunctionPart → Bool) → (ToldRegion → Bool) → ToldRegion → Bool
  range_by stand before x =
      not (is_held_line x) && is_range_in_place q t stand x && not (is_range_kept_off q x)
      && list_all (λ r. not (takes_from_range q t r x && stand r)) (system_parts q t)
      && list_all (λ y. not (range_takes_from q t y x && before y)) (told_regions q.told)

  ranges_alike : (others : ℕ) (x : ToldRegion) → range_stands_within with t others x ≡ range_stands_within q t others x
  unfolding range_stands_within
  ranges_alike zero x = refl
  ranges_alike (suc others) x =
      ap (λ stand. range_by stand (range_stands_within with t others) x) (fun_ext stand_alike)
      ∙ ap (λ before. range_by (stands q t) before x) (fun_ext (ranges_alike others))

  pub range_alike : (x : ToldRegion) → range_stands with t x ≡ range_stands q t x
  range_alike x = ranges_alike (length (told_regions q.told)) x

  pub own_alike : (space : Space) (f : Function) → has_own with t space f ≡ has_own q t space f
  own_alike space f =
      ap (λ (stand : ToldRegion → Bool). list_any (λ x. is_command_line x && same_slot x.told.slot f.slot && are_same_space space x.told.space && stand x) (told_regions q.told)
      || list_any (λ r. are_same_space space (part_space r) && not (is_window r.part)) (function_parts q t f)) (fun_ext range_alike)

  cut_alike : (f : Function) (space : Space) → is_cut_off_in with t f space ≡ is_cut_off_in q t f space
  cut_alike f space = ap (λ own. is_space_on f space && own && list_any (λ b. not (is_space_on b space)) (bridges_above t f.slot.bus)) (own_alike space f)

  -- so a start needs nothing with other slots, too
  pub start_with : IsStart q t → IsStart with t
  start_with start = record {
    needs = record {
      system = start.needs.system;
      nested = start.needs.nested;
      stand = λ r listed. stand_alike r ∙ start.needs.stand r listed;
      ranges = λ x is_told told on. range_alike x ∙ start.needs.ranges x is_told told on;
      commands = λ x is_told command on. range_alike x ∙ start.needs.commands x is_told command on;
      uncut = λ f space listed. cut_alike f space ∙ start.needs.uncut f space listed;
      left = start.needs.left;
    };
    fine = start.fine;
  }

  pub start_of : IsStart with t → IsStart q t
  start_of start = record {
    needs = record {
      system = start.needs.system;
      nested = start.needs.nested;
      stand = λ r listed. sym (stand_alike r) ∙ start.needs.stand r listed;
      ranges = λ x is_told told on. sym (range_alike x) ∙ start.needs.ranges x is_told told on;
      commands = λ x is_told command on. sym (range_alike x) ∙ start.needs.commands x is_told command on;
      uncut = λ f space listed. sym (cut_alike f space) ∙ start.needs.uncut f space listed;
      left = start.needs.left;
    };
    fine = start.fine;
  }
