-- The end of a window that ends later: it is the least one, and none that holds less is later.
use Rattle.std.proofs.Common.{◌≡◌, ℕ, ◌+◌, ◌-◌, ◌%◌, ◌≤◌, arith, ap}
use Rattle.pci_spec.specs.Decoded.{Range}
use Rattle.pci_spec.specs.Window.{WindowKind, IoWindow, MemoryWindow, PrefetchWindow, page_size}
use Rattle.plan_spec.specs.Plan.{raised_to}
use Rattle.plan_spec.proofs.Planning.Room.{raised}
use Rattle.settle_spec.specs.Reach.{lower_of, raised_last}
use Rattle.settle_spec.specs.Wishes.{ending_at, end_over}
use Rattle.settle_spec.proofs.Grown.{no_lower, some_page}
use Rattle.settle_laws.proofs.LowWindows.{last_whole}

-- the lower half of an end is no less than it was
half_up : (c : WindowKind) (old last : ℕ) → lower_of c old ≤ lower_of c (raised_last c old last)
half_up IoWindow old last = omega arith
half_up MemoryWindow old last = omega arith
half_up PrefetchWindow old last = omega arith

-- where that holds of two ends, what is raised from the lower one to no more than an end isn't above this
raised_in : (c : WindowKind) (old last end : ℕ) → last ≤ end → lower_of c old ≤ lower_of c end → raised_last c old last ≤ end
raised_in IoWindow old last end le half = omega (arith, le, half)
raised_in MemoryWindow old last end le half = omega (arith, le, half)
raised_in PrefetchWindow old last end le half = omega (arith, le, half)

pub page_of : (c : WindowKind) (last end : ℕ) → (end + 1) % page_size c ≡ 0 → last ≤ end → raised_to (page_size c) (last + 1) - 1 ≤ end
page_of c last end whole le = (let up = (raised (page_size c) (last + 1) (some_page c)).least (end + 1) whole (omega (arith, le)) in omega (arith, up))

pub whole_end : (c : WindowKind) (w : Range) (last : ℕ) → (w.last + 1) % page_size c ≡ 0 → (end_over c w last + 1) % page_size c ≡ 0
whole_end c w last pages =
    let up = raised (page_size c) (last + 1) (some_page c) in
    let from = up.from in
    let page = raised_to (page_size c) (last + 1) - 1 in
    let at : page + 1 ≡ raised_to (page_size c) (last + 1) = omega (arith, from) in
    last_whole c w.last page pages (let e : (page + 1) % page_size c ≡ raised_to (page_size c) (last + 1) % page_size c = ap (λ n. n % page_size c) at in omega (arith, e, up.multiple))

pub end_holds : (c : WindowKind) (w : Range) (last : ℕ) → last ≤ end_over c w last
end_holds c w last =
    let from = (raised (page_size c) (last + 1) (some_page c)).from in
    let up = no_lower c w.last (raised_to (page_size c) (last + 1) - 1) in
    omega (arith, from, up)

-- an address up to an end needs no later one
pub end_least : (c : WindowKind) (w : Range) (last other : ℕ) → (w.last + 1) % page_size c ≡ 0 → last ≤ end_over c w other → end_over c w last ≤ end_over c w other
end_least c w last other pages le =
    raised_in c w.last (raised_to (page_size c) (last + 1) - 1) (end_over c w other) (page_of c last (end_over c w other) (whole_end c w other pages) le) (half_up c w.last (raised_to (page_size c) (other + 1) - 1))

-- of a window that ends later already, the end is no earlier
pub end_grows : (c : WindowKind) (w : Range) (last other : ℕ) → (w.last + 1) % page_size c ≡ 0 → end_over c w last ≤ end_over c (ending_at w (end_over c w other)) last
end_grows c w last other pages =
    let v = ending_at w (end_over c w other) in
    let page = raised_to (page_size c) (last + 1) - 1 in
    let first = half_up c w.last (raised_to (page_size c) (other + 1) - 1) in
    let second = half_up c v.last page in
    let up = no_lower c v.last page in
    raised_in c w.last page (end_over c v last) up (omega (arith, first, second))
