-- The order of clashes and splits as numbers: a lesser number is looked for before.
use Rattle.std.proofs.Common.{ℕ, ◌^◌, List, [], ◌∷◌, drop, refl, sym, subst, arith}
use Rattle.pci_spec.specs.Order.{judging_key}
use Rattle.pci_faults.specs.declared.named.Clash.{Clash}
use Rattle.pci_faults.specs.declared.named.Split.{Split}
use Rattle.pci_faults.specs.Clashes.{clash_value}
use Rattle.pci_faults.specs.Splits.{split_value}
use Rattle.pci_faults.specs.RegionOrder.{clash_place, split_place}
use Rattle.pci_faults.proofs.Digits.{HaveOrderOf, AreBelow, size_of, number_below, order_behind, order_in_front, order_of_numbers}

-- the bounds of a space, an address and the numbers of two regions, with this bound of their buses
abbrev pub bounds_with : ℕ → List ℕ
bounds_with buses = 2 ∷ 2 ^ 64 ∷ buses ∷ 32 ∷ 8 ∷ 8192 ∷ buses ∷ 32 ∷ 8 ∷ 8192 ∷ []

-- the numbers of a clash are below these, and its regions are of its bus
abbrev pub IsClashBelow : Clash → Type 0
IsClashBelow c = AreBelow c.bus (bounds_with 0) (drop 2 (judging_key (clash_value c)))

abbrev pub IsSplitBelow : Split → Type 0
IsSplitBelow c = AreBelow 0 (bounds_with 256) (drop 1 (judging_key (split_value c)))

pub clash_order : (c d : Clash) → IsClashBelow c → IsClashBelow d → HaveOrderOf (judging_key (clash_value c)) (judging_key (clash_value d)) (clash_place c) (clash_place d)
clash_order c d one other =
    let xs = drop 2 (judging_key (clash_value c)) in
    let ys = drop 2 (judging_key (clash_value d)) in
    let order = order_in_front (size_of (bounds_with 0)) c.bus d.bus _ _ xs ys (number_below c.bus (bounds_with 0) xs one) (number_below d.bus (bounds_with 0) ys other)
    (λ same. order_of_numbers c.bus (bounds_with 0) xs ys one (subst (λ bus. AreBelow bus (bounds_with 0) ys) (sym same) other)) in
    order_behind 1 1 _ _ (c.bus ∷ xs) (d.bus ∷ ys) refl record { less = λ lower. order.less (omega (arith, lower)); same = λ equal. order.same (omega (arith, equal)) }

pub split_order : (c d : Split) → IsSplitBelow c → IsSplitBelow d → HaveOrderOf (judging_key (split_value c)) (judging_key (split_value d)) (split_place c) (split_place d)
split_order c d one other =
    let xs = drop 1 (judging_key (split_value c)) in
    let ys = drop 1 (judging_key (split_value d)) in
    let order = order_of_numbers 0 (bounds_with 256) xs ys one other in
    order_behind 2 2 _ _ xs ys refl record { less = λ lower. order.less (omega (arith, lower)); same = λ equal. order.same (omega (arith, equal)) }
