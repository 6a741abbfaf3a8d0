-- A multiple of a power of two is even, and a ROM is a part of each header.
use Rattle.std.proofs.Common.{◌≡◌, ℕ, ◌+◌, ◌*◌, ◌/◌, ◌%◌, ◌^◌, ◌<◌, [], ◌∷◌, refl, false, arith, sym, ◌∙◌, ap}
use Rattle.std.specs.Int.{bit_at}
use Rattle.std.proofs.lemmas.Bool.{both_ways}
use Rattle.std.proofs.lemmas.Nat.Bits.{bit_at_cat_low}
use Rattle.std.proofs.lemmas.List.Elements.{Contains-append_right}
use Rattle.pci_spec.specs.Window.{IoWindow, MemoryWindow, PrefetchWindow}
use Rattle.pci_spec.specs.System.{Function, Rom, Window}
use Rattle.plan_spec.proofs.Planning.Placement.{multiple_of_mod}
use Rattle.settle_spec.specs.Parts.{header_bars}
use Rattle.settle_laws.proofs.HeaderParts.{IsPart}

-- a multiple of a power of two is even
pub even_by : (k a : ℕ) → 0 < k → a % 2 ^ k ≡ 0 → a % 2 ≡ 0
even_by k a some multiple =
    let of = multiple_of_mod a (2 ^ k) multiple in
    let plain : of.0 * 2 ^ k + 0 ≡ a = (let is = of.1 in omega (arith, is)) in
    let bit : a / 1 % 2 ≡ 0 = ap (λ n. bit_at n 0) (sym plain) ∙ bit_at_cat_low of.0 k 0 0 some in
    omega (arith, bit)

pub rom_part : (f : Function) → IsPart f Rom
rom_part f = record {
  there = Contains-append_right (header_bars f) (Window IoWindow ∷ Window MemoryWindow ∷ Window PrefetchWindow ∷ Rom ∷ []) Rom (3, omega arith, refl);
  bridge = λ window. absurd (both_ways false refl window);
}
