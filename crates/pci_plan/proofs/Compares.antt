-- The registers that are compared, as the code lists them.
use Rattle.std.proofs.Common.{◌≡◌, ℕ, ◌<◌, inl, inr, List, refl, Bool, true, false, arith, sym, ◌∙◌, ap, subst, map, length, get_or}
use Rattle.std.specs.Bool.{◌==◌}
use Rattle.std.specs.List.{Contains, list_all}
use Rattle.std.proofs.lemmas.List.{get_or-map, length-map}
use Rattle.pci_spec.specs.Number.{number_at}
use Rattle.pci_spec.specs.Slot.{Slot}
use Rattle.pci_spec.specs.Header.{layout, address_registers, registers_by}
use Rattle.pci_spec.specs.Machine.{Target}
use Rattle.pci_spec.proofs.Members.{in_head, in_tail, in_cons_cases}
use Rattle.plan_spec.proofs.Planning.Behind.{all_gives}
use Rattle.pci_spec.specs.Port.{is_access, ShowsNumber}
use Rattle.pci_image.specs.declared.register.Register.{Register}
use Rattle.pci_image.specs.declared.register.Role.TheVariants as roles
use Rattle.pci_plan.specs.declared.apply_fault.ApplyFault.{ApplyFault}
use Rattle.pci_plan.specs.declared.apply_fault.ApplyFault.TheVariants.{Changed, Port, Stuck}
use Rattle.pci_plan.proofs.WriteLists.{pair_of}
use Rattle.pci_plan.specs.Comparing.{compared, ShowsAll, IsChangedAt, IsCompareFault, IsFunctionFault, Moment, moment}

module _ (items : List Register) (image : List ℕ) (table : map pair_of items ≡ address_registers (layout image)) where
  -- each listed register is compared
  pub in_table : (i : ℕ) (d : Register) → i < length items → Contains (compared image) (pair_of (get_or items i d))
  in_table i d within =
      let long : i < length (map pair_of items) = (let l = length-map items pair_of in omega (arith, l, within)) in
      let at : get_or (map pair_of items) i (pair_of (get_or items i d)) ≡ pair_of (get_or items i d) = get_or-map pair_of items i d (pair_of (get_or items i d)) within in
      in_tail (0x04, 2) (address_registers (layout image)) (pair_of (get_or items i d)) (subst (λ xs. Contains xs (pair_of (get_or items i d))) table (i, long, at))

  -- Command and all listed registers are all that are compared
  pub all_shown : (targets : List Target) (slot : Slot) → ShowsNumber targets slot 0x04 2 (number_at image 0x04 2)
      → ((k : ℕ) (d : Register) → k < length items → ShowsNumber targets slot (get_or items k d).offset (get_or items k d).width (number_at image (get_or items k d).offset (get_or items k d).width))
      → ShowsAll targets slot image
  all_shown targets slot command each r listed = elim (in_cons_cases (0x04, 2) (address_registers (layout image)) r listed) [
    | inl first ↦ subst (λ (q : ℕ × ℕ). ShowsNumber targets slot q.0 q.1 (number_at image q.0 q.1)) first command
    | inr later ↦
        let there : Contains (map pair_of items) r = subst (λ xs. Contains xs r) (sym table) (later.0, later.1, later.2) in
        let k = there.0 in
        let within : k < length items = (let l = length-map items pair_of in let less = there.1 in omega (arith, l, less)) in
        let d : Register = record { offset = 0; width = 0; role = roles.Bar 0 } in
        let at : pair_of (get_or items k d) ≡ r = sym (get_or-map pair_of items k d r within) ∙ there.2 in
        subst (λ (q : ℕ × ℕ). ShowsNumber targets slot q.0 q.1 (number_at image q.0 q.1)) at (each k d within)
  ]

access_by : (bridge : Bool) → list_all (λ q. is_access q.0 q.1) (registers_by bridge) ≡ true
access_by true = refl
access_by false = refl

-- each is a lawful access
pub register_access : (image : List ℕ) (r : ℕ × ℕ) → Contains (compared image) r → is_access r.0 r.1 ≡ true
register_access image r listed = elim (in_cons_cases (0x04, 2) (address_registers (layout image)) r listed) [
  | inl first ↦ ap (λ (q : ℕ × ℕ). is_access q.0 q.1) (sym first)
  | inr later ↦ all_gives (λ q. is_access q.0 q.1) (registers_by (layout image == 1)) r (access_by (layout image == 1)) later
]

pub command_compared : (image : List ℕ) → Contains (compared image) (0x04, 2)
command_compared image = in_head (0x04, 2) (address_registers (layout image))

-- why a register doesn't compare is why its function doesn't
pub register_fault : (before : Moment) (slot : Slot) (image : List ℕ) (offset width failures_after : ℕ) (fault : ApplyFault) → Contains (compared image) (offset, width)
    → IsCompareFault before slot image (offset, width) failures_after fault → IsFunctionFault before slot image failures_after fault
register_fault before slot image offset width failures_after (Changed at place) listed (here, is, other) =
    (here, subst (IsChangedAt before.targets slot image) (sym is) record { width = width; listed = listed; other = other })
register_fault before slot image offset width failures_after (Port done) listed fault = fault
register_fault before slot image offset width failures_after (Stuck done) listed fault = fault

pub same_moment : (a b : Moment) → a.targets ≡ b.targets → a.failures ≡ b.failures → a ≡ b
same_moment a b targets failures = ap (λ ts. moment ts a.failures) targets ∙ ap (moment b.targets) failures
