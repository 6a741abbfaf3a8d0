-- The read back of a size: ones from the size upward, with the encoding that is shown.
use Rattle.std.proofs.Common.{◌≡◌, ℕ, ◌+◌, ◌-◌, ◌*◌, ◌/◌, ◌%◌, ◌^◌, ◌<◌, ◌≤◌, refl, true, false, ◌&&◌, ◌||◌, inl, inr, arith, ◌∙◌, ap, subst, lit≤}
use Rattle.std.specs.Bool.{nat_le}
use Rattle.std.specs.Int.{bit_at}
use Rattle.std.proofs.lemmas.Bool.{and_parts, and_from, or_left, le-leb, cases_lt, both_ways}
use Rattle.std.proofs.lemmas.Nat.{pow-add, pow_pos, pow_below}
use Rattle.std.proofs.lemmas.Nat.Bits.{bit_at-lt, bit_at_above, bit_at-zero}
use Rattle.pci_spec.specs.Number.{each_from}
use Rattle.pci_spec.specs.Bar.{BarKind, IoBar, Memory32, Memory64, Reserved, is_run, is_lawful, is_within}
use Rattle.pci_spec.specs.Machine.{without_low}
use Rattle.pci_spec.proofs.Bits.{each_from-by, run_mask, bit_at-mod, bit_at-without_low, bit_of_true}
use Rattle.pci_spec.proofs.BarLaws.{bit_of_run, memory_run, wide_run, io_run}
use Rattle.pci_spec.proofs.Ranges.{first_bit, width_of}

-- the read back of 2 ^ k addresses of a kind of BAR
abbrev pub sized_mask : BarKind → ℕ → ℕ → ℕ
sized_mask kind value k = without_low (2 ^ first_bit kind) (2 ^ width_of kind - 2 ^ k) + value % 2 ^ first_bit kind

-- a power of two is a multiple of a lesser one
pub multiple : (low k : ℕ) → low ≤ k → 2 ^ k ≡ 2 ^ low * 2 ^ (k - low)
multiple low k within = ap (λ j. 2 ^ j) (let e : k ≡ low + (k - low) = omega (arith, within) in e) ∙ pow-add 2 low (k - low)

-- its ones above the encoding, and the encoding
pub record IsSized (kind : BarKind) (value k mask : ℕ) : Type 0 where
  pub ones : mask / 2 ^ first_bit kind * 2 ^ first_bit kind ≡ 2 ^ width_of kind - 2 ^ k
  pub encoding : mask % 2 ^ first_bit kind ≡ value % 2 ^ first_bit kind
  pub fits : mask < 2 ^ width_of kind
  pub some : 2 ^ (width_of kind - 1) ≤ mask

-- powers of two rise
pub pow_within : (j k : ℕ) → j ≤ k → 2 ^ j ≤ 2 ^ k
pow_within j k h = elim (cases_lt j k) [
  | inl below ↦ let less = pow_below j k below in omega (arith, less)
  | inr at ↦ let e : j ≡ k = omega arith in subst (λ i. 2 ^ j ≤ 2 ^ i) e (omega arith)
]

pub is_sized : (kind : BarKind) (value k : ℕ) → first_bit kind ≤ k → k < width_of kind → IsSized kind value k (sized_mask kind value k)
is_sized IoBar value k low high =
    let e = multiple 2 k low in
    let less = pow_within k 31 (omega (arith, high)) in
    let p = pow_pos k in
    record { ones = omega (arith, e, less); encoding = omega (arith, e, less); fits = omega (arith, e, less, p); some = omega (arith, e, less) }
is_sized Memory32 value k low high =
    let e = multiple 4 k low in
    let less = pow_within k 31 (omega (arith, high)) in
    let p = pow_pos k in
    record { ones = omega (arith, e, less); encoding = omega (arith, e, less); fits = omega (arith, e, less, p); some = omega (arith, e, less) }
is_sized Memory64 value k low high =
    let e = multiple 4 k low in
    let less = pow_within k 63 (omega (arith, high)) in
    let p = pow_pos k in
    record { ones = omega (arith, e, less); encoding = omega (arith, e, less); fits = omega (arith, e, less, p); some = omega (arith, e, less) }
is_sized Reserved value k low high =
    let e = multiple 4 k low in
    let less = pow_within k 31 (omega (arith, high)) in
    let p = pow_pos k in
    record { ones = omega (arith, e, less); encoding = omega (arith, e, less); fits = omega (arith, e, less, p); some = omega (arith, e, less) }

-- the bounds of a lawful size
pub record IsBound (kind : BarKind) (k : ℕ) : Type 0 where
  pub least : first_bit kind ≤ k
  pub most : k < width_of kind

pub lawful_bound : (kind : BarKind) (mask k : ℕ) → is_lawful kind mask k ≡ true → IsBound kind k
lawful_bound IoBar mask k h = elim (io_run mask k h) [
  | inl run ↦ record { least = run.least; most = omega (arith, run.most) }
  | inr run ↦ record { least = run.least; most = omega (arith, run.most) }
]
lawful_bound Memory32 mask k h = let run = memory_run mask k h in record { least = run.least; most = omega (arith, run.most) }
lawful_bound Memory64 mask k h = let run = wide_run mask k h in record { least = run.least; most = omega (arith, run.most) }
lawful_bound Reserved mask k h = absurd (let no : ⊥ = both_ways false refl h in no)

pub sized_run : (kind : BarKind) (value k mask : ℕ) → IsBound kind k → IsSized kind value k mask → is_run (first_bit kind) mask k (width_of kind - 1) ≡ true
sized_run IoBar value k mask b s = run_mask 2 mask k 31 b.least (omega arith) s.ones
sized_run Memory32 value k mask b s = run_mask 4 mask k 31 b.least (omega arith) s.ones
sized_run Memory64 value k mask b s = run_mask 4 mask k 63 b.least (omega arith) s.ones
sized_run Reserved value k mask b s = run_mask 4 mask k 31 b.least (omega arith) s.ones

-- what is lawful of one read back is lawful of that of the same size
pub sized_lawful : (kind : BarKind) (value k own mask : ℕ) → is_lawful kind own k ≡ true → IsSized kind value k mask → is_lawful kind mask k ≡ true
sized_lawful IoBar value k own mask h s =
    let run = sized_run IoBar value k mask (lawful_bound IoBar own k h) s in
    and_from (nat_le 2 k && nat_le k 8) (is_run 2 mask k 31 || is_run 2 mask k 15)
    (and_parts (nat_le 2 k && nat_le k 8) (is_run 2 own k 31 || is_run 2 own k 15) h).0
    (or_left (is_run 2 mask k 31) (is_run 2 mask k 15) run)
sized_lawful Memory32 value k own mask h s =
    and_from (nat_le 4 k && nat_le k 31) (is_run 4 mask k 31) (and_parts (nat_le 4 k && nat_le k 31) (is_run 4 own k 31) h).0 (sized_run Memory32 value k mask (lawful_bound Memory32 own k h) s)
sized_lawful Memory64 value k own mask h s =
    and_from (nat_le 4 k && nat_le k 63) (is_run 4 mask k 63) (and_parts (nat_le 4 k && nat_le k 63) (is_run 4 own k 63) h).0 (sized_run Memory64 value k mask (lawful_bound Memory64 own k h) s)
sized_lawful Reserved value k own mask h s = absurd (let no : ⊥ = both_ways false refl h in no)

-- the least size of a kind is lawful where any is
pub least_lawful : (kind : BarKind) (own k : ℕ) → is_lawful kind own k ≡ true → (least : ℕ) × (is_lawful kind least (first_bit kind) ≡ true)
unfolding each_from
least_lawful IoBar own k h = (0xfffffffc, refl)
least_lawful Memory32 own k h = (0xfffffff0, refl)
least_lawful Memory64 own k h = (0xfffffffffffffff0, refl)
least_lawful Reserved own k h = absurd (let no : ⊥ = both_ways false refl h in no)

widest : (kind : BarKind) → width_of kind ≤ 64
widest IoBar = lit≤ tt
widest Memory32 = lit≤ tt
widest Memory64 = lit≤ tt
widest Reserved = lit≤ tt

pub in_run : (k i top : ℕ) → k ≤ i → i ≤ top → (nat_le k i && nat_le i top) ≡ true
in_run k i top low high = and_from (nat_le k i) (nat_le i top) (le-leb k i low) (le-leb i top high)

-- a value that is a multiple of the size, its encoding aside, has ones only where the read back has them
pub sized_within : (kind : BarKind) (value k mask : ℕ) → IsBound kind k → IsSized kind value k mask → value < 2 ^ width_of kind
    → without_low (2 ^ first_bit kind) value % 2 ^ k ≡ 0 → is_within 0 value mask ≡ true
sized_within kind value k mask b s small aligned = each_from-by 0 64 (λ i. nat_le (bit_at value i) (bit_at mask i)) (λ i from to. le-leb (bit_at value i) (bit_at mask i) (
    elim (cases_lt i (first_bit kind)) [
      | inl low ↦
          let v = bit_at-mod value (first_bit kind) i low in
          let m = bit_at-mod mask (first_bit kind) i low in
          let e = ap (λ n. bit_at n i) s.encoding in
          omega (arith, v, m, e)
      | inr high ↦ elim (cases_lt i k) [
        | inl under ↦
            let v = bit_at-without_low value (first_bit kind) i high in
            let m = bit_at-mod (without_low (2 ^ first_bit kind) value) k i under in
            let e = ap (λ n. bit_at n i) aligned in
            let z = bit_at-zero i in
            omega (arith, v, m, e, z)
        | inr at ↦ elim (cases_lt i (width_of kind)) [
          | inl inside ↦
              let one = bit_of_true mask i (bit_of_run (first_bit kind) mask k (width_of kind - 1) i (sized_run kind value k mask b s) high to ∙ in_run k i (width_of kind - 1) at (omega (arith, inside))) in
              let v = bit_at-lt value i in
              omega (arith, one, v)
          | inr above ↦ let v = bit_at_above value (width_of kind) i small above in omega (arith, v)
        ]
      ]
    ]))
