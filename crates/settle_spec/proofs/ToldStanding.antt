-- What stands with what lines tell: parts are off lines, and told ranges are in their places.
use Rattle.std.proofs.Common.{◌≡◌, ℕ, zero, suc, ◌&&◌, ◌||◌, not, length, true, false, refl, inl, inr, Option, None, Some}
use Rattle.std.specs.List.{Contains}
use Rattle.std.proofs.lemmas.Bool.{and_parts, or_parts, or_cases, and_cases, not-true, not-false, false≢true, false_from_ne_true, both_ways}
use Rattle.pci_spec.specs.System.{System, Function}
use Rattle.pci_spec.proofs.BusRanges.{any_from}
use Rattle.judge_spec.specs.ToldRegion.{ToldRegion, told_regions}
use Rattle.settle_spec.specs.Lists.{Request}
use Rattle.settle_spec.specs.Parts.{FunctionPart, system_parts, addresses, lies_within, bridge_over}
use Rattle.settle_spec.specs.Stands.{window_part, is_in_window, is_line_on, range_class, precedes_off, is_kept_off_by, is_kept_off, stands_within, stands, are_bridges_on, is_range_in_place, is_range_kept_off, range_stands_within, range_stands}
use Rattle.settle_spec.specs.Lines.{line_bus, line_range, is_held_line, is_always_line, keeps_off, keeps_off_part}
use Rattle.settle_spec.specs.ToldLaws.{IsInStandingWindow, IsStandingRange}

module _ (q : Request) (s : System) where
  not_kept_off : (others : ℕ) (r : FunctionPart) → stands_within q s others r ≡ true → is_kept_off q s r ≡ false
  unfolding stands_within
  not_kept_off zero r h = absurd (false≢true h)
  not_kept_off (suc others) r h = not-true (is_kept_off q s r) (and_parts _ _ (and_parts _ _ (and_parts _ _ (and_parts _ _ h).0).0).0).0

  pub stands_off_lines : (r : FunctionPart) (x : ToldRegion) → stands q s r ≡ true → Contains (told_regions q.told) x → keeps_off_part q x r ≡ true → (is_line_on q s x ≡ false) × (precedes_off q s r ≡ true)
  stands_off_lines r x stand is_told keeps =
      let none = not_kept_off (length (system_parts q s)) r stand in
      let not_by = false_from_ne_true (is_kept_off_by q s r x) (λ is. both_ways (is_kept_off q s r) none (any_from (is_kept_off_by q s r) (told_regions q.told) x is_told is)) in
      elim (and_cases (keeps_off_part q x r) (is_line_on q s x || not (precedes_off q s r)) not_by) [
        | inl apart ↦ absurd (both_ways (keeps_off_part q x r) apart keeps)
        | inr neither ↦ (let parts = or_parts (is_line_on q s x) (not (precedes_off q s r)) neither in (parts.0, not-false (precedes_off q s r) parts.1))
      ]

  -- ---- told ranges

  record HasStood (x : ToldRegion) : Type 0 where
    not_held : is_held_line x ≡ false
    in_place : is_range_in_place q s (stands q s) x ≡ true
    not_kept : is_range_kept_off q x ≡ false

  has_stood : (others : ℕ) (x : ToldRegion) → range_stands_within q s others x ≡ true → HasStood x
  unfolding range_stands_within
  has_stood zero x h = absurd (false≢true h)
  has_stood (suc others) x h =
      let three = (and_parts _ _ (and_parts _ _ h).0).0 in
      let two = (and_parts _ _ three).0 in
      record {
        not_held = not-true (is_held_line x) (and_parts _ _ two).0;
        in_place = (and_parts _ _ two).1;
        not_kept = not-true (is_range_kept_off q x) (and_parts _ _ three).1;
      }

  in_window : (x : ToldRegion) (o : Option Function) → bridge_over s (line_bus x) ≡ o
      → (is_in_window (stands q s) (range_class q s x) (line_range x) o && (not (is_always_line x) || are_bridges_on s x.told.space (line_bus x))) ≡ true
      → IsInStandingWindow q s x
  in_window x None is h = absurd (false≢true h)
  in_window x (Some b) is h =
      let over = window_part (range_class q s x) b in
      let parts = and_parts _ _ h in
      let window = and_parts (lies_within (line_range x) (addresses over)) (stands q s over) parts.0 in
      record {
        b = b;
        over = is;
        holds = window.0;
        stands = window.1;
        on = λ always. elim (or_cases (not (is_always_line x)) (are_bridges_on s x.told.space (line_bus x)) parts.1) [
          | inl never ↦ absurd (both_ways (is_always_line x) (not-true (is_always_line x) never) always)
          | inr on ↦ on
        ];
      }

  pub ranges_stand_in_place : (x : ToldRegion) → range_stands q s x ≡ true → IsStandingRange q s x
  ranges_stand_in_place x h =
      let stood = has_stood (length (told_regions q.told)) x h in
      record {
        not_held = stood.not_held;
        in_place = elim (or_cases _ _ stood.in_place) [
          | inl root ↦ inl root
          | inr window ↦ inr (in_window x (bridge_over s (line_bus x)) refl window)
        ];
        off_held = λ y is_told held. elim (and_cases (is_held_line y) (keeps_off q y x.told.slot x.told.space (line_range x))
            (false_from_ne_true _ (λ is. both_ways (is_range_kept_off q x) stood.not_kept (any_from (λ y. is_held_line y && keeps_off q y x.told.slot x.told.space (line_range x)) (told_regions q.told) y is_told is)))) [
              | inl not_held ↦ absurd (both_ways (is_held_line y) not_held held)
              | inr off ↦ off
            ];
      }
