-- Where all is placed anew and nothing is told, nothing stays.
use Rattle.std.proofs.Common.{◌≡◌, ◌&&◌, ℕ, zero, suc, [], not, false, length, ap, refl, inl, inr}
use Rattle.std.specs.Bool.{IsTrue}
use Rattle.std.specs.List.{list_any, list_all}
use Rattle.std.proofs.lemmas.Bool.{and_parts, or_cases, not-true, both_ways, false_from_ne_true}
use Rattle.pci_spec.specs.System.{System}
use Rattle.plan_spec.specs.Plan.{bridges_above}
use Rattle.judge_spec.specs.ToldClaims.{told_register}
use Rattle.judge_spec.specs.ToldRegion.{regions_from}
use Rattle.settle_spec.specs.Lists.{Request}
use Rattle.settle_spec.specs.Parts.{FunctionPart, system_parts, class_in}
use Rattle.settle_spec.specs.Stands.{window_part, leads_to_range, leads_to_told, stands_within}
use Rattle.settle_spec.specs.Items.{has_room, has_room_behind, holds_within, stays}

module _ (q : Request) (s : System) (anew : IsTrue q.anew) (nothing : q.told.ranges ≡ []) where
  none_leads : (r : FunctionPart) → leads_to_told q s r ≡ false
  none_leads r = ap (λ ranges. list_any (leads_to_range q s r) (regions_from (told_register 0) ranges)) nothing

  pub none_stands : (others : ℕ) (r : FunctionPart) → stands_within q s others r ≡ false
  unfolding stands_within
  none_stands zero r = refl
  none_stands (suc others) r =
      false_from_ne_true (stands_within q s (suc others) r) (λ is.
      elim (or_cases (leads_to_told q s r) (not q.anew) (and_parts _ _ (and_parts _ _ (and_parts _ _ (and_parts _ _ is).0).0).0).1) [
        | inl leads ↦ both_ways (leads_to_told q s r) (none_leads r) leads
        | inr stays ↦ both_ways q.anew (not-true q.anew stays) anew
      ])

  none_holds : (depth : ℕ) (r : FunctionPart) → holds_within q s depth r ≡ false
  unfolding holds_within
  none_holds zero r = none_stands (length (system_parts q s)) r
  none_holds (suc depth) r = ap (λ b. b && has_room q s (holds_within q s depth) r.function r.part) (none_stands (length (system_parts q s)) r)

  pub none_stays : (r : FunctionPart) → stays q s r ≡ false
  none_stays r = ap (λ b. b && list_all (λ f. has_room_behind q s (window_part (class_in q s r.function r.part) f)) (bridges_above s r.function.slot.bus)) (none_holds 256 r)
