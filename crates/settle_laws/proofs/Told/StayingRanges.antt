-- Where each part of a system stands and stays, each told range that stands there stays.
use Rattle.std.proofs.Common.{◌≡◌, inl, inr, Bool, true, ◌∙◌, subst}
use Rattle.std.specs.List.{Contains, list_all}
use Rattle.std.proofs.lemmas.Bool.{and_from}
use Rattle.pci_spec.specs.Window.{WindowKind}
use Rattle.pci_spec.specs.System.{System, Function, IsSystem}
use Rattle.pci_spec.specs.Bus.{IsNested}
use Rattle.pci_spec.proofs.BusRanges.{all_from, root_means}
use Rattle.plan_spec.specs.Plan.{bridges_above}
use Rattle.plan_spec.proofs.Planning.AboveBuses.{above_to, all_above, all_above_root}
use Rattle.judge_spec.specs.ToldRegion.{ToldRegion}
use Rattle.settle_spec.specs.Items.{range_stays}
use Rattle.settle_spec.specs.Kept.{Kept}
use Rattle.settle_spec.specs.Lines.{line_bus}
use Rattle.settle_spec.specs.Lists.{Request}
use Rattle.settle_spec.specs.Parts.{FunctionPart, system_parts}
use Rattle.settle_spec.specs.Stands.{window_part, range_class, range_stands, stands}
use Rattle.settle_spec.specs.ToldLaws.{IsInStandingWindow}
use Rattle.settle_spec.proofs.BridgeOver.{over_leads}
use Rattle.settle_spec.proofs.ToldStanding.{ranges_stand_in_place}
use Rattle.settle_laws.proofs.AllStand.{all_stay}
use Rattle.settle_laws.proofs.Kept.{above_stays, stays_stands, window_listed}

-- Where each part of a system stays, so does each told range that stands.
module _ (q : Request) (t : System) (system : IsSystem t) (nested : IsNested q.roots t) (all : (r : FunctionPart) → Contains (system_parts q t) r → stands q t r ≡ true)
    (j : Kept) (keeps : (r : FunctionPart) → Contains (system_parts q t) r → j.stays r ≡ true) where
  pub range_stays_again : (x : ToldRegion) → range_stands q t x ≡ true → range_stays q t j.stays x ≡ true
  range_stays_again x stand = and_from (range_stands q t x) (list_all over (bridges_above t (line_bus x))) stand (elim (ranges_stand_in_place q t x stand).in_place [
    | inl root ↦ all_above_root q.roots t system nested over (line_bus x) ((root_means q.roots (line_bus x)).0 root)
    | inr w ↦ in_window w
  ])
    where
      c : WindowKind
      c = range_class q t x

      over : Function → Bool
      over b = j.stays (window_part c b)

      in_window : IsInStandingWindow q t x → list_all over (bridges_above t (line_bus x)) ≡ true
      in_window w =
          let to = over_leads t (line_bus x) w.b w.over in
          let listed = window_listed q t system nested w.b to.0 to.1 c w.stands in
          let stay = all_stay q t system nested all (window_part c w.b) listed in
          subst (λ bus. list_all over (bridges_above t bus) ≡ true) to.2
          (all_above q.roots t system nested over w.b to.0 to.1
          ∙ and_from (list_all over (bridges_above t w.b.slot.bus)) (over w.b)
          (all_from over (bridges_above t w.b.slot.bus) (λ d in_d.
          let is = above_to t w.b.slot.bus d in_d in
          let stands_d = stays_stands q t system nested (window_part c d) is.listed (above_stays q t system nested (window_part c w.b) d stay in_d) in
          keeps (window_part c d) (window_listed q t system nested d is.listed is.bridge c stands_d)))
          (keeps (window_part c w.b) listed))
