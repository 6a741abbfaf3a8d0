-- The bridges above the bus behind a bridge are those above its own bus, and itself.
use Rattle.std.proofs.Common.{◌≡◌, ℕ, ◌<◌, ◌⊎◌, inl, inr, List, Bool, true, not, ◌&&◌, arith, sym, ap, subst}
use Rattle.std.specs.List.{Contains, list_all}
use Rattle.std.proofs.lemmas.Bool.{and_parts, and_from, cases_Bool, cases_eq, both_ways, not-true}
use Rattle.pci_spec.specs.Slot.{slot_number}
use Rattle.pci_spec.specs.System.{System, Function, IsSystem, is_bridge}
use Rattle.pci_spec.specs.Bus.{secondary, is_behind, is_root, is_inside, IsNested, LeadsTo}
use Rattle.plan_spec.specs.Plan.{bridges_above}
use Rattle.pci_spec.proofs.Members.{in_filter_to, in_filter_from}
use Rattle.pci_spec.proofs.BusRanges.{all_gives, all_from, IsOrdered, ordered, within_of_behind, behind_of_within, apart_shares_none, inside_parts, root_means}
use Rattle.pci_spec.proofs.Nesting.{one_function}
use Rattle.pci_spec.proofs.Records.{same_truth}
use Rattle.plan_spec.proofs.Planning.Safe.{slots_of}

-- a bridge that a bus is behind
pub record IsBridgeAbove (s : System) (bus : ℕ) (d : Function) : Type 0 where
  pub listed : Contains s d
  pub bridge : is_bridge d ≡ true
  pub behind : is_behind d bus ≡ true

pub above_to : (s : System) (bus : ℕ) (d : Function) → Contains (bridges_above s bus) d → IsBridgeAbove s bus d
above_to s bus d has =
    let kept = in_filter_to (λ b. is_bridge b && is_behind b bus) s d has in
    let is = and_parts (is_bridge d) (is_behind d bus) kept.1 in
    record { listed = kept.0; bridge = is.0; behind = is.1 }

pub above_from : (s : System) (bus : ℕ) (d : Function) → IsBridgeAbove s bus d → Contains (bridges_above s bus) d
above_from s bus d is = in_filter_from (λ b. is_bridge b && is_behind b bus) s d is.listed (and_from (is_bridge d) (is_behind d bus) is.bridge is.behind)

-- the bridge that leads to the bus of a function, which stands before the function
pub record IsLeader (s : System) (f b : Function) : Type 0 where
  pub listed : Contains s b
  pub bridge : is_bridge b ≡ true
  pub leads : secondary b ≡ f.slot.bus
  pub before : slot_number b.slot < slot_number f.slot

module _ (roots : List ℕ) (s : System) (system : IsSystem s) (nested : IsNested roots s) where
  order : (b : Function) → Contains s b → is_bridge b ≡ true → IsOrdered b
  order b listed bridge = ordered b (nested.order b listed bridge)

  -- a bridge is above the bus that it leads to
  own_above : (b : Function) → Contains s b → is_bridge b ≡ true → IsBridgeAbove s (secondary b) b
  own_above b listed bridge =
      record { listed = listed; bridge = bridge; behind = behind_of_within b (secondary b) record { low = omega arith; high = (order b listed bridge).range } }

  -- and so is what is above the bridge
  above_more : (b d : Function) → Contains s b → is_bridge b ≡ true → IsBridgeAbove s b.slot.bus d → IsBridgeAbove s (secondary b) d
  above_more b d listed bridge is =
      let strict = nested.inside b d listed is.listed bridge is.bridge is.behind in
      let ends = inside_parts b d (and_parts (is_inside b d) _ strict).0 in
      let low = ends.0 in
      let high = ends.1 in
      let range = (order b listed bridge).range in
      record { listed = is.listed; bridge = is.bridge; behind = behind_of_within d (secondary b) record { low = low; high = omega (arith, high, range) } }

  -- and nothing else
  above_cases : (b d : Function) → Contains s b → is_bridge b ≡ true → IsBridgeAbove s (secondary b) d → (d ≡ b) ⊎ IsBridgeAbove s b.slot.bus d
  above_cases b d listed bridge is = elim (cases_eq (slot_number d.slot) (slot_number b.slot)) [
    | inl same ↦ inl (one_function s system d b is.listed listed same)
    | inr differ ↦ elim (cases_Bool (is_behind d b.slot.bus)) [
      | inl behind ↦ inr record { listed = is.listed; bridge = is.bridge; behind = behind }
      | inr out ↦ elim (cases_Bool (is_behind b d.slot.bus)) [
        | inl below ↦
            let low = (within_of_behind d (secondary b) is.behind).low in
            let from = (within_of_behind b d.slot.bus below).low in
            let up = (order d is.listed is.bridge).up in
            absurd (let impossible : ⊥ = omega (arith, low, from, up) in impossible)
        | inr beside ↦
            let gap = nested.apart b d listed is.listed bridge is.bridge (λ e. differ (ap slot_number (sym e))) out beside in
            absurd (apart_shares_none b d gap (secondary b) (within_of_behind b (secondary b) (own_above b listed bridge).behind) (within_of_behind d (secondary b) is.behind))
      ]
    ]
  ]

  -- what all bridges above the bus behind a bridge have
  pub all_above : (test : Function → Bool) (b : Function) → Contains s b → is_bridge b ≡ true
      → list_all test (bridges_above s (secondary b)) ≡ (list_all test (bridges_above s b.slot.bus) && test b)
  all_above test b listed bridge = same_truth _ _
      (λ all. and_from _ _
      (all_from test (bridges_above s b.slot.bus) (λ d has. all_gives test (bridges_above s (secondary b)) all d (above_from s (secondary b) d (above_more b d listed bridge (above_to s b.slot.bus d has)))))
      (all_gives test (bridges_above s (secondary b)) all b (above_from s (secondary b) b (own_above b listed bridge))))
      (λ both. let parts = and_parts (list_all test (bridges_above s b.slot.bus)) (test b) both in
      all_from test (bridges_above s (secondary b)) (λ d has. elim (above_cases b d listed bridge (above_to s (secondary b) d has)) [
        | inl same ↦ subst (λ g. test g ≡ true) (sym same) parts.1
        | inr up ↦ all_gives test (bridges_above s b.slot.bus) parts.0 d (above_from s b.slot.bus d up)
      ]))

  -- above a root there is none
  pub all_above_root : (test : Function → Bool) (bus : ℕ) → Contains roots bus → list_all test (bridges_above s bus) ≡ true
  all_above_root test bus root = all_from test (bridges_above s bus) (λ d has.
      let is = above_to s bus d has in
      absurd (both_ways (is_behind d bus) (not-true _ (all_gives (λ r. not (is_behind d r)) roots (nested.clear d is.listed is.bridge) bus root)) is.behind))

  -- what is on a lower bus has a lower slot
  pub lower_bus : (b f : Function) → Contains s b → b.slot.bus < f.slot.bus → slot_number b.slot < slot_number f.slot
  lower_bus b f listed less =
      let is = slots_of s system b listed in
      let device = is.1 in
      let function = is.2 in
      omega (arith, less, device, function)

  -- a function stands on a root, or behind a bridge
  pub root_or_led : (f : Function) → Contains s f → Contains roots f.slot.bus ⊎ ((b : Function) × IsLeader s f b)
  root_or_led f listed = elim (cases_Bool (is_root roots f.slot.bus)) [
    | inl root ↦ inl ((root_means roots f.slot.bus).0 root)
    | inr off ↦
        let one = nested.one f listed off in
        let b = one.0 in
        let leads : LeadsTo s b f.slot.bus = one.1 in
        let to = leads.2 in
        let up = (order b leads.0 leads.1).up in
        inr (b, record { listed = leads.0; bridge = leads.1; leads = to; before = lower_bus b f leads.0 (omega (arith, to, up)) })
  ]
