-- A window as large as all of memory lies in a range of all of memory.
use Rattle.std.proofs.Common.{◌≡◌, ℕ, ◌+◌, ◌-◌, ◌%◌, ◌^◌, ◌<◌, ◌≤◌, inl, inr, List, arith, ◌&&◌}
use Rattle.std.specs.Bool.{IsTrue, nat_le, nat_lt, ◌==◌}
use Rattle.std.proofs.lemmas.Bool.{and_parts, or_cases, leb-true, ltb-true}
use Rattle.pci_spec.specs.Decoded.{Range}
use Rattle.pci_spec.proofs.BusRanges.{all_gives}
use Rattle.plan_spec.specs.Place.{range_from}
use Rattle.settle_spec.specs.FirstPlace.{Extent, ranges_are_apart, is_free_from, is_spot, ends_by, is_place}
use Rattle.settle_spec.specs.WindowLaws.{IsAllOfMemory}

pub all_needs_all : (r : Range) (taken : List Range) (e : Extent) (a : ℕ) → r.last < 2 ^ 64 → 2 ^ 64 ≤ e.size → IsTrue (is_place r taken e a)
    → (e.size ≡ 2 ^ 64) × (a ≡ 0) × IsAllOfMemory r taken
all_needs_all r taken e a small large place =
    let parts = and_parts (is_spot r.first taken e a) (ends_by r e a) place in
    let spot = and_parts (a % e.alignment == 0) (nat_le r.first a && is_free_from taken e a) parts.0 in
    let low = and_parts (nat_le r.first a) (is_free_from taken e a) spot.1 in
    let from = leb-true r.first a low.0 in
    let to = leb-true (a + (e.size - 1)) r.last (and_parts (nat_le (a + (e.size - 1)) r.last) _ parts.1).0 in (
      omega (arith, small, large, to),
      omega (arith, small, large, to),
      record {
        first = omega (arith, small, large, to, from);
        last = omega (arith, small, large, to);
        free = λ t listed below. elim (or_cases (nat_lt (a + (e.size - 1)) t.first) (nat_lt t.last a) (all_gives (ranges_are_apart (range_from a e.size)) taken low.1 t listed)) [
          | inl above ↦ let l = ltb-true (a + (e.size - 1)) t.first above in (let no : ⊥ = omega (arith, l, below, large) in no)
          | inr under ↦ let l = ltb-true t.last a under in (let no : ⊥ = omega (arith, l, small, large, to) in no)
        ];
      },
    )
