-- At most one region claims an address of a bus where the ranges of its regions are apart.
use Rattle.std.proofs.Common.{◌≡◌, ℕ, List, ◌<◌, ◌⊎◌, inl, inr, arith, sym, ◌∙◌}
use Rattle.std.proofs.lemmas.Bool.{cases_eq, cases_Bool}
use Rattle.pci_spec.specs.Slot.{same_slot}
use Rattle.std.specs.List.{Contains}
use Rattle.pci_spec.specs.System.{System, Function, Part, Space, Claims, register_of}
use Rattle.pci_spec.specs.Sound.{IsSingle, IsSameRegion}
use Rattle.pci_spec.proofs.SameSlot.{slots_same}
use Rattle.plan_spec.specs.Planning.Ranges.{Ranges, HoldsClaims, AreApart}

-- two regions that claim an address, on one bus or on two roots, are one
module _ (roots : List ℕ) (s : System) (r : Ranges) (holds : HoldsClaims s r) (apart : AreApart roots s r) where
  are_one : (space : Space) (a : ℕ) (f g : Function) (p q : Part) → Contains s f → Contains s g → (f.slot.bus ≡ g.slot.bus) ⊎ (Contains roots f.slot.bus × Contains roots g.slot.bus)
      → Claims f p space a → Claims g q space a → IsSameRegion f p g q
  are_one space a f g p q in_f in_g side claim_f claim_g =
      let range_f = holds f p space a in_f claim_f in
      let range_g = holds g q space a in_g claim_g in
      let clash : ((r.last f p space < r.first g q space) ⊎ (r.last g q space < r.first f p space)) → ⊥ = λ way. elim way [
        | inl left ↦ let x = range_f.1 in let y = range_g.0 in omega (arith, left, x, y)
        | inr right ↦ let x = range_f.0 in let y = range_g.1 in omega (arith, right, x, y)
      ] in
      elim (cases_Bool (same_slot f.slot g.slot)) [
        | inr other ↦ absurd (clash (apart f g p q space a in_f in_g side claim_f claim_g (inl other)))
        | inl same ↦ elim (cases_eq (register_of f p) (register_of g q)) [
          | inl e ↦ (slots_same f.slot g.slot same, e)
          | inr differ ↦ absurd (clash (apart f g p q space a in_f in_g side claim_f claim_g (inr differ)))
        ]
      ]

  pub single_by_ranges : IsSingle roots s
  single_by_ranges = record {
    on_a_bus = λ space a bus gets f g p q in_f in_g at_f at_g claim_f claim_g. are_one space a f g p q in_f in_g (inl (at_f ∙ sym at_g)) claim_f claim_g;
    over_roots = λ space a f g p q in_f in_g root_f root_g claim_f claim_g. are_one space a f g p q in_f in_g (inr (root_f, root_g)) claim_f claim_g;
  }
