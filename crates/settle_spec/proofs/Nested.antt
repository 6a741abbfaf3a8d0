-- Bridges of a system whose bus ranges nest.
use Rattle.std.proofs.Common.{◌≡◌, ℕ, inl, inr, List, true, ◌&&◌, not, arith, ap, refl}
use Rattle.std.specs.Bool.{nat_lt, ◌==◌}
use Rattle.std.specs.List.{Contains}
use Rattle.std.proofs.lemmas.Bool.{not-true, and_parts, cases_Bool, cases_eq, both_ways, ltb-true, eqb-true, or_cases}
use Rattle.pci_spec.specs.Slot.{slot_number}
use Rattle.pci_spec.specs.System.{System, Function, IsSystem, is_bridge}
use Rattle.pci_spec.specs.Bus.{secondary, subordinate, is_behind, is_root, are_siblings, IsNested}
use Rattle.pci_spec.proofs.Nesting.{one_function}
use Rattle.pci_spec.proofs.BusRanges.{root_means}
use Rattle.plan_spec.proofs.Planning.Behind.{all_gives, is_behind_by, behind_range, inside_ends, own_end}
use Rattle.plan_spec.proofs.Planning.Safe.{order_of}

module _ (roots : List ℕ) (s : System) (system : IsSystem s) (nested : IsNested roots s) where
  -- the bus behind a bridge is behind it
  pub at_secondary : (b : Function) (bus : ℕ) → Contains s b → is_bridge b ≡ true → secondary b ≡ bus → is_behind b bus ≡ true
  at_secondary b bus listed bridge at = let end = own_end roots s system nested b listed bridge in is_behind_by b bus (omega (arith, at)) (omega (arith, at, end))

  -- what is behind a bridge is behind what the bridge is behind
  pub behind_outer : (b outer : Function) (bus : ℕ) → Contains s b → Contains s outer → is_bridge b ≡ true → is_bridge outer ≡ true → is_behind outer b.slot.bus ≡ true
      → is_behind b bus ≡ true → is_behind outer bus ≡ true
  behind_outer b outer bus in_b in_outer bridge_b bridge_outer is behind =
      let ends = inside_ends roots s system nested b outer in_b in_outer bridge_b bridge_outer is in
      let range = behind_range b bus behind in
      let from = ends.0 in
      let to = ends.1 in
      let low = range.0 in
      let high = range.1 in
      is_behind_by outer bus (omega (arith, from, low)) (omega (arith, to, high))

  pub is_no_root : (b : Function) (bus : ℕ) → Contains s b → is_bridge b ≡ true → is_behind b bus ≡ true → is_root roots bus ≡ true → ⊥
  is_no_root b bus listed bridge behind root =
      let clear = all_gives (λ r. not (is_behind b r)) roots bus (nested.clear b listed bridge) ((root_means roots bus).0 root) in
      both_ways (is_behind b bus) (not-true (is_behind b bus) clear) behind

  -- what is beside the bus behind a bridge is on it
  pub on_it : (b : Function) (bus : ℕ) → Contains s b → is_bridge b ≡ true → are_siblings roots (secondary b) bus ≡ true → secondary b ≡ bus
  on_it b bus listed bridge beside = elim (or_cases (secondary b == bus) (is_root roots (secondary b) && is_root roots bus) beside) [
    | inl same ↦ eqb-true (secondary b) bus same
    | inr both ↦ absurd (is_no_root b (secondary b) listed bridge (at_secondary b (secondary b) listed bridge refl) (and_parts (is_root roots (secondary b)) (is_root roots bus) both).0)
  ]

  -- one bridge alone leads to a bus
  pub one_bridge : (b c : Function) → Contains s b → Contains s c → is_bridge b ≡ true → is_bridge c ≡ true → secondary b ≡ secondary c → b ≡ c
  one_bridge b c in_b in_c bridge_b bridge_c same = elim (cases_eq (slot_number b.slot) (slot_number c.slot)) [
    | inl one ↦ one_function s system b c in_b in_c one
    | inr differ ↦
        let up_b = order_of roots s nested b in_b bridge_b in
        let up_c = order_of roots s nested c in_c bridge_c in
        absurd (elim (cases_Bool (is_behind c b.slot.bus)) [
          | inl behind ↦ let low = (behind_range c b.slot.bus behind).0 in (let no : ⊥ = omega (arith, low, up_b, same) in no)
          | inr off ↦ elim (cases_Bool (is_behind b c.slot.bus)) [
            | inl behind ↦ let low = (behind_range b c.slot.bus behind).0 in (let no : ⊥ = omega (arith, low, up_c, same) in no)
            | inr out ↦
                let gap = nested.apart b c in_b in_c bridge_b bridge_c (λ e. differ (ap slot_number e)) off out in
                let end_b = own_end roots s system nested b in_b bridge_b in
                let end_c = own_end roots s system nested c in_c bridge_c in
                elim (or_cases (nat_lt (subordinate b) (secondary c)) (nat_lt (subordinate c) (secondary b)) gap) [
                  | inl left ↦ let l = ltb-true (subordinate b) (secondary c) left in (let no : ⊥ = omega (arith, l, end_b, same) in no)
                  | inr right ↦ let l = ltb-true (subordinate c) (secondary b) right in (let no : ⊥ = omega (arith, l, end_c, same) in no)
                ]
          ]
        ])
  ]
