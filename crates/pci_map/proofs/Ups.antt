-- The bridge that leads to a bus.
use Rattle.std.proofs.Common.{◌≡◌, ℕ, ◌<◌, ◌≤◌, ◌+◌, List, [], ◌∷◌, ◌++◌, length, get_or, refl, sym, ap, ◌∙◌, subst, arith, inl, inr, true, Option, None}
use Rattle.std.specs.List.{Contains}
use Rattle.std.proofs.lemmas.Bool.{cases_Bool, cases_lt, both_ways, false_from_ne_true}
use Rattle.std.proofs.lemmas.List.{get_or_append_left, get_or_push, length_push}
use Rattle.pci_spec.specs.Slot.{Slot, same_slot}
use Rattle.pci_spec.specs.System.{System, Function}
use Rattle.pci_spec.specs.Bus.{IsNested, LeadsTo, secondary, is_root}
use Rattle.pci_spec.proofs.BusRanges.{IsOrdered, IsWithin, ordered, within_of_behind, apart_shares_none, behind_is_no_root, root_means, bus_order_means}
use Rattle.pci_spec.proofs.SameSlot.{slot_itself, slots_same}
use Rattle.judge_spec.specs.Given.{Given}
use Rattle.pci_function.specs.declared.record.Record.{Record}
use Rattle.pci_tree.specs.Ways.{bus_behind, IsBridgeIn, LeadsAt}
use Rattle.pci_tree.proofs.Lifting.{Has, record_for, function_for, same_bridge, same_secondary, same_slot_of}
use Rattle.pci_tree.proofs.Ways.{bridge_at}
use Rattle.pci_map.specs.Left.{IsSlotAbove}
use Rattle.pci_map.specs.Ways.{IsWayTo, AreWays}
use Rattle.pci_map.specs.Windows.{BridgeWindows}

-- ---- two bridges lead to two buses

starts_with : (b : Function) (bus : ℕ) → IsOrdered b → secondary b ≡ bus → IsWithin b bus
starts_with b bus order leads = let range = order.range in record { low = omega (arith, leads); high = omega (arith, range, leads) }

module _ (roots : List ℕ) (s : System) (nested : IsNested roots s) (bus : ℕ) where
  -- the bus of the one isn't behind the other
  not_behind : (b c : Function) → LeadsTo s b bus → LeadsTo s c bus → IsWithin c b.slot.bus → ⊥
  not_behind b c to_b to_c within =
      let order = ordered b (nested.order b to_b.0 to_b.1) in
      let up = order.up in
      let low = within.low in
      let leads_b = to_b.2 in
      let leads_c = to_c.2 in
      omega (arith, up, low, leads_b, leads_c)

  one_slot : (b c : Function) → LeadsTo s b bus → LeadsTo s c bus → b.slot ≡ c.slot
  one_slot b c to_b to_c = elim (cases_Bool (same_slot b.slot c.slot)) [
    | inl same ↦ slots_same b.slot c.slot same
    | inr other ↦ absurd (apart_shares_none b c
        (nested.apart b c to_b.0 to_c.0 to_b.1 to_c.1 (λ same. both_ways (same_slot b.slot c.slot) other (subst (λ (x : Slot). same_slot b.slot x ≡ true) same (slot_itself b.slot)))
        (false_from_ne_true _ (λ h. not_behind b c to_b to_c (within_of_behind c b.slot.bus h)))
        (false_from_ne_true _ (λ h. not_behind c b to_c to_b (within_of_behind b c.slot.bus h))))
        bus (starts_with b bus (ordered b (nested.order b to_b.0 to_b.1)) to_b.2) (starts_with c bus (ordered c (nested.order c to_c.0 to_c.1)) to_c.2))
  ]

  -- no bridge leads to a root
  pub none_to_root : (b : Function) → LeadsTo s b bus → Contains roots bus → ⊥
  none_to_root b to root =
      both_ways (is_root roots bus) (behind_is_no_root roots b (nested.clear b to.0 to.1) bus (starts_with b bus (ordered b (nested.order b to.0 to.1)) to.2)) ((root_means roots bus).1 root)

module _ (roots : List ℕ) (s : System) (rs : List Record) (has : Has s rs) (bus : ℕ) where
  -- a bridge that leads to the bus has a record that does
  pub not_led : ((b : Record) → IsBridgeIn rs b → bus_behind b ≡ bus → ⊥) → (b : Function) → LeadsTo s b bus → ⊥
  not_led none b (listed, bridge, leads) =
      let own = record_for s rs b has listed in
      none own.0 record { has = own.1.has; is = same_bridge own.0 b own.1.same ∙ bridge } (same_secondary own.0 b own.1.same bridge ∙ leads)

  -- one bridge leads to the bus
  pub bridge_above : IsNested roots s → (Contains roots bus → ⊥) → (k : ℕ) (r : Record) → LeadsAt rs bus k → r ≡ get_or rs k r → IsSlotAbove roots s bus r.slot
  bridge_above nested off k r leads at =
      let bridge : IsBridgeIn rs r × (bus_behind r ≡ bus) = subst (λ (x : Record). IsBridgeIn rs x × (bus_behind x ≡ bus)) (sym at) (bridge_at rs bus k r leads) in
      let own = function_for s rs r has bridge.0.has in
      let yes = sym (same_bridge r own.0 own.2) ∙ bridge.0.is in
      let there : LeadsTo s own.0 bus = (own.1, yes, sym (same_secondary r own.0 own.2 yes) ∙ bridge.1) in record {
        off_root = off;
        b = own.0;
        leads = there;
        named = sym (same_slot_of r own.0 own.2);
        only = λ c leads_c. one_slot roots s nested bus c own.0 leads_c there ∙ sym (same_slot_of r own.0 own.2);
      }

-- ---- the windows above a bus

module _ (given : Given) (roots : List ℕ) (s : System) where
  -- a bridge stands on a lower bus than the one that it leads to
  pub low_way : (bus : ℕ) (b : Slot) → IsNested roots s → IsSlotAbove roots s bus b → bus ≤ b.bus → ⊥
  low_way bus b nested above low =
      let rises : above.b.slot.bus < secondary above.b = ((bus_order_means above.b).0 (nested.order above.b above.leads.0 above.leads.1)).1 in
      let same : above.b.slot.bus ≡ b.bus = ap (λ (y : Slot). y.bus) above.named in
      let leads = above.leads.2 in omega (arith, rises, same, leads, low)

  pub one_way_more : (ways new : List (Option BridgeWindows)) (way : Option BridgeWindows) → new ≡ ways ++ way ∷ [] → AreWays given roots s ways → IsWayTo given roots s (length ways) way → AreWays given roots s new
  one_way_more ways new way is so here bus within = (
      let lt : bus < length ways + 1 = subst (λ n. bus < n) (ap length is ∙ length_push ways way) within in elim (cases_lt bus (length ways)) [
        | inl low ↦ subst (IsWayTo given roots s bus) (sym (ap (λ xs. get_or xs bus None) is ∙ get_or_append_left ways (way ∷ []) None bus low)) (so bus low)
        | inr ge ↦ (let same : length ways ≡ bus = omega (arith, ge, lt) in
            subst (λ m. IsWayTo given roots s m (get_or new m None)) same
            (subst (IsWayTo given roots s (length ways)) (sym (ap (λ xs. get_or xs (length ways) None) is ∙ get_or_push ways way None (length ways) refl)) here))
      ])
