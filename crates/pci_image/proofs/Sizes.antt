-- Sizes of BARs, by where their masks' runs start.
use Rattle.std.proofs.Common.{◌≡◌, ◌↔◌, ℕ, ◌<◌, ◌≤◌, refl, true, false, ◌&&◌, inl, inr, arith, sym, ap, ◌∙◌, lit<, Option, Some, None, MatchOption, IsTrue}
use Rattle.std.specs.Bool.{nat_le}
use Rattle.std.specs.Option.{option_or}
use Rattle.std.proofs.lemmas.Bool.{and_parts, and_from, or_cases, or_left, or_right, le-leb, leb-true, false_from_ne_true}
use Rattle.std.proofs.lemmas.Option.{none-some, same_Some}
use Rattle.pci_spec.specs.Number.{lowest_one}
use Rattle.pci_spec.specs.Bar.{IoBar, Memory32, Memory64, is_run, is_lawful, has_lawful_size}
use Rattle.pci_spec.proofs.Bits.{some_from-gives}
use Rattle.pci_spec.proofs.Ranges.{lowest_one-of_run}

-- the answer is where the one run of a mask starts
abbrev pub IsStart : ℕ → ℕ → ℕ → Option ℕ → Type 0
IsStart from mask top answer = (k : ℕ) → (answer ≡ Some k) ↔ ((from ≤ k) × (k ≤ top) × IsTrue (is_run from mask k top))

-- ---- memory

-- the size of 32-bit memory
pub size-memory_32 : (mask : ℕ) (answer : Option ℕ) → IsStart 4 mask 31 answer
    → MatchOption answer (has_lawful_size Memory32 mask ≡ false) (λ k. IsTrue (is_lawful Memory32 mask k))
size-memory_32 mask None is = false_from_ne_true _ (λ yes.
    let found = some_from-gives 0 64 (is_lawful Memory32 mask) yes in
    let outer = and_parts (nat_le 4 found.0 && nat_le found.0 31) _ found.3 in
    let inner = and_parts (nat_le 4 found.0) (nat_le found.0 31) outer.0 in
    none-some found.0 ((is found.0).1 (leb-true _ _ inner.0, leb-true _ _ inner.1, outer.1)))
size-memory_32 mask (Some k) is =
    let run = (is k).0 refl in
    and_from _ _ (and_from _ _ (le-leb 4 k run.0) (le-leb k 31 run.1)) run.2

-- the size of 64-bit memory
pub size-memory_64 : (mask : ℕ) (answer : Option ℕ) → IsStart 4 mask 63 answer
    → MatchOption answer (has_lawful_size Memory64 mask ≡ false) (λ k. IsTrue (is_lawful Memory64 mask k))
size-memory_64 mask None is = false_from_ne_true _ (λ yes.
    let found = some_from-gives 0 64 (is_lawful Memory64 mask) yes in
    let outer = and_parts (nat_le 4 found.0 && nat_le found.0 63) _ found.3 in
    let inner = and_parts (nat_le 4 found.0) (nat_le found.0 63) outer.0 in
    none-some found.0 ((is found.0).1 (leb-true _ _ inner.0, leb-true _ _ inner.1, outer.1)))
size-memory_64 mask (Some k) is =
    let run = (is k).0 refl in
    and_from _ _ (and_from _ _ (le-leb 4 k run.0) (le-leb k 63 run.1)) run.2

-- ---- I/O: the run ends at bit 31, or at bit 15

-- two runs of one mask start at its lowest one
either : (mask k : ℕ) (long : Option ℕ) → IsStart 2 mask 31 long → lowest_one 2 mask ≡ k → option_or long (Some k) ≡ Some k
either mask k None is_long lowest = refl
either mask k (Some j) is_long lowest =
    let run = (is_long j).0 refl in
    let e = lowest_one-of_run 2 mask j 31 run.0 run.1 (lit< tt) run.2 in
    ap Some (sym e ∙ lowest)

-- one of two answers, each of which is where the one run starts, is where a lawful mask's run starts
io_start : (mask k : ℕ) (long short : Option ℕ) → IsStart 2 mask 31 long → IsStart 2 mask 15 short
    → is_lawful IoBar mask k ≡ true → (option_or long short ≡ Some k) × (k ≤ 8)
io_start mask k long short is_long is_short h =
    let outer = and_parts (nat_le 2 k && nat_le k 8) _ h in
    let inner = and_parts (nat_le 2 k) (nat_le k 8) outer.0 in
    let low = leb-true 2 k inner.0 in
    let high = leb-true k 8 inner.1 in (
      elim (or_cases (is_run 2 mask k 31) (is_run 2 mask k 15) outer.1) [
        | inl run ↦ let e = (is_long k).1 (low, omega (arith, high), run) in rw e refl
        | inr run ↦ let e = (is_short k).1 (low, omega (arith, high), run) in rw e (either mask k long is_long (lowest_one-of_run 2 mask k 15 low (omega (arith, high)) (lit< tt) run))
      ],
      high,
    )

-- without a run there is no size
pub size-io_none : (mask : ℕ) (long short : Option ℕ) → IsStart 2 mask 31 long → IsStart 2 mask 15 short
    → option_or long short ≡ None → has_lawful_size IoBar mask ≡ false
size-io_none mask long short is_long is_short none = false_from_ne_true _ (λ yes.
    let found = some_from-gives 0 64 (is_lawful IoBar mask) yes in
    let at = io_start mask found.0 long short is_long is_short found.3 in
    none-some found.0 (sym none ∙ at.0))

-- a run that starts too high is of no size
pub size-io_large : (mask start : ℕ) (long short : Option ℕ) → IsStart 2 mask 31 long → IsStart 2 mask 15 short
    → option_or long short ≡ Some start → 8 < start → has_lawful_size IoBar mask ≡ false
size-io_large mask start long short is_long is_short some large = false_from_ne_true _ (λ yes.
    let found = some_from-gives 0 64 (is_lawful IoBar mask) yes in
    let at = io_start mask found.0 long short is_long is_short found.3 in
    let same = same_Some start found.0 (sym some ∙ at.0) in
    omega (arith, same, at.1, large))

-- a run that starts low enough is of a size
pub size-io_some : (mask start : ℕ) (long short : Option ℕ) → IsStart 2 mask 31 long → IsStart 2 mask 15 short
    → option_or long short ≡ Some start → start ≤ 8 → is_lawful IoBar mask start ≡ true
size-io_some mask start None short is_long is_short some small =
    let run = (is_short start).0 some in
    and_from _ _ (and_from _ _ (le-leb 2 start run.0) (le-leb start 8 small)) (or_right _ _ run.2)
size-io_some mask start (Some k) short is_long is_short some small =
    let run = (is_long start).0 some in
    and_from _ _ (and_from _ _ (le-leb 2 start run.0) (le-leb start 8 small)) (or_left _ _ run.2)
