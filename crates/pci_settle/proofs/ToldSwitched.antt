-- A bridge above a bus is shut just where one of them is shut itself.
use Rattle.std.proofs.Common.{◌≡◌, inl, inr, ℕ, ◌<◌, List, [], Bool, true, false, get_or, not, ◌&&◌, ◌||◌, refl, sym, ◌∙◌, ap, subst, None, Some}
use Rattle.std.specs.List.{list_any, slice_get}
use Rattle.std.proofs.lemmas.Bool.{both_ways, or_cases, false_from_ne_true}
use Rattle.pci_spec.specs.Slot.{same_slot}
use Rattle.pci_spec.specs.System.{System, Space, IsSystem}
use Rattle.pci_spec.specs.Bus.{IsNested}
use Rattle.pci_spec.proofs.BusRanges.{root_means}
use Rattle.plan_spec.specs.Plan.{bridges_above}
use Rattle.plan_spec.proofs.Planning.AboveBuses.{above_to, above_from}
use Rattle.plan_spec.proofs.Planning.Behind.{any_gives, any_from}
use Rattle.settle_spec.proofs.Nested.{behind_outer}
use Rattle.judge_spec.specs.Told.{Mark, Command, Always, Held, ToldRange}
use Rattle.judge_spec.specs.ToldClaims.{told_register, is_asleep, is_enabled_at, is_on_by, is_marked_held}
use Rattle.settle_spec.specs.Lines.{is_marked_command, is_marked_always}
use Rattle.settle_spec.specs.Lists.{Request}
use Rattle.settle_spec.specs.Stands.{range_stands}
use Rattle.settle_spec.specs.Kept.{Kept}
use Rattle.settle_spec.specs.Keeping.Registers.{settled}
use Rattle.settle_spec.specs.Keeping.Writes.{is_shut_itself, is_shut, is_not_reached, would_be_switched, earliest}
use Rattle.settle_spec.proofs.BridgeOver.{over_leads}
use Rattle.pci_settle.specs.declared.way.Way.{Way}
use Rattle.pci_settle.specs.Shut.{flag_in_space}
use Rattle.pci_settle.specs.ToldEndings.{KnownTold, KnowsTold, AreFlagsThen, are_clear_above, AreClearAbove, AlwaysStand}
use Rattle.pci_settle.proofs.Ways.{not_none}
use Rattle.pci_settle.proofs.ToldFirsts.{told_at, none_passes}
use Rattle.pci_settle.proofs.ToldTests.{stands_home}

module _ (q : Request) (s : System) (k : Kept) (system : IsSystem s) (nested : IsNested q.roots s) where
  shut_above : (space : Space) (bus : ℕ) → list_any (is_shut q s k space) (bridges_above s bus) ≡ true → list_any (is_shut_itself q s k space) (bridges_above s bus) ≡ true
  shut_above space bus is =
      let found = any_gives (is_shut q s k space) (bridges_above s bus) is in
      elim (or_cases (is_shut_itself q s k space found.x) (list_any (is_shut_itself q s k space) (bridges_above s found.x.slot.bus)) found.is) [
        | inl itself ↦ any_from (is_shut_itself q s k space) (bridges_above s bus) found.x found.listed itself
        | inr over ↦
            let above = any_gives (is_shut_itself q s k space) (bridges_above s found.x.slot.bus) over in
            let is_b = above_to s bus found.x found.listed in
            let is_d = above_to s found.x.slot.bus above.x above.listed in
            let up = above_from s bus above.x record {
              listed = is_d.listed;
              bridge = is_d.bridge;
              behind = behind_outer q.roots s system nested found.x above.x bus is_b.listed is_d.listed is_b.bridge is_d.bridge is_d.behind is_b.behind;
            } in
            any_from (is_shut_itself q s k space) (bridges_above s bus) above.x up above.is
      ]

  itself_above : (space : Space) (bus : ℕ) → list_any (is_shut_itself q s k space) (bridges_above s bus) ≡ true → list_any (is_shut q s k space) (bridges_above s bus) ≡ true
  itself_above space bus is =
      let found = any_gives (is_shut_itself q s k space) (bridges_above s bus) is in
      any_from (is_shut q s k space) (bridges_above s bus) found.x found.listed (ap (λ b. b || list_any (is_shut_itself q s k space) (bridges_above s found.x.slot.bus)) found.is)

  alike : (a b : Bool) → (a ≡ true → b ≡ true) → (b ≡ true → a ≡ true) → a ≡ b
  alike true b gives from = sym (gives refl)
  alike false b gives from = sym (false_from_ne_true b (λ is. both_ways false refl (from is)))

  pub clear_is : (space : Space) (bus : ℕ) → not (are_clear_above q s k space bus) ≡ list_any (is_shut q s k space) (bridges_above s bus)
  clear_is space bus =
      not_none (is_shut_itself q s k space) (bridges_above s bus)
      ∙ alike (list_any (is_shut_itself q s k space) (bridges_above s bus)) (list_any (is_shut q s k space) (bridges_above s bus)) (itself_above space bus) (shut_above space bus)

module _ (q : Request) (s : System) (k : Kept) (t : KnownTold) (knows : KnowsTold q s t) (on_then : List Bool) (on_are : AreFlagsThen q s k on_then) (ways : List Way) (are : AreClearAbove q s k ways) (stand : AlwaysStand q s) where
  module _ (index : ℕ) (r : ToldRange) (at : slice_get q.told.ranges index ≡ Some r) (small : r.slot.bus < 256) (d : Way) where
    way_is : range_stands q s (told_at (told_register index) r) ≡ true → flag_in_space (get_or ways r.slot.bus d).clear r.space ≡ are_clear_above q s k r.space r.slot.bus
    way_is is = elim (stands_home q s (told_at (told_register index) r) is) [
      | inl root ↦ are.on_roots r.slot.bus d r.space ((root_means q.roots r.slot.bus).0 root) small
      | inr (b, over) ↦
          let leads = over_leads s r.slot.bus b over in
          subst (λ bus. flag_in_space (get_or ways bus d).clear r.space ≡ are_clear_above q s k r.space bus) leads.2 (are.behind b d r.space leads.0 leads.1)
    ]

    off_by : (always : Bool) → is_marked_always r.mark ≡ always
        → (always && not (flag_in_space (get_or ways r.slot.bus d).clear r.space)) ≡ (always && list_any (is_shut q s k r.space) (bridges_above s r.slot.bus))
    off_by false is = refl
    off_by true is = ap not (way_is (stand index r at is)) ∙ clear_is q s k are.system are.nested r.space r.slot.bus

    pub switched_is : ((is_marked_command r.mark && not (get_or t.standing index false) && get_or on_then index false) || (is_marked_always r.mark && not (flag_in_space (get_or ways r.slot.bus d).clear r.space)))
        ≡ would_be_switched q s k (told_at (told_register index) r)
    switched_is =
        let off : Bool = is_marked_always r.mark && not (flag_in_space (get_or ways r.slot.bus d).clear r.space) in
        let x = told_at (told_register index) r in
        ap (λ b. (is_marked_command r.mark && not b && get_or on_then index false) || off) (knows.standing index r at)
        ∙ ap (λ b. (is_marked_command r.mark && not (range_stands q s x) && b) || off) (on_are index r at)
        ∙ ap (λ b. (is_marked_command r.mark && not (range_stands q s x) && is_enabled_at (settled q s k) r.slot r.space) || b) (off_by (is_marked_always r.mark) refl)

-- ---- ranges that are marked `always`

on_always : (mark : Mark) (awake enabled stands : Bool) → is_marked_always mark ≡ true → awake ≡ true → (not (is_marked_held mark) && is_on_by mark awake enabled && not stands) ≡ false → stands ≡ true
on_always Command awake enabled stands is up none = absurd (both_ways false refl is)
on_always Held awake enabled stands is up none = absurd (both_ways false refl is)
on_always Always awake enabled true is up none = refl
on_always Always awake enabled false is up none = absurd (both_ways (awake && true) none (ap (λ b. b && true) up))

-- where each range that is on stands, those stand, as nobody is asleep
pub always_stand : (q : Request) (s : System) → q.told.asleep ≡ [] → earliest q (is_not_reached q s) ≡ None → AlwaysStand q s
always_stand q s awake none n r at always =
    on_always r.mark (not (is_asleep q.told r.slot)) (is_enabled_at s r.slot r.space) (range_stands q s (told_at (told_register n) r)) always
    (ap (λ slots. not (list_any (λ other. same_slot other r.slot) slots)) awake)
    (none_passes q (is_not_reached q s) none n r at)
