-- The ports of a VGA adapter and of its palette, KB by KB.
use Rattle.std.proofs.Common.{◌≡◌, ℕ, ◌+◌, ◌*◌, ◌%◌, ◌^◌, ◌<◌, ◌≤◌, ◌⊎◌, List, [], ◌∷◌, ◌++◌, Bool, true, false, ◌&&◌, ◌||◌, nat_le, nat_lt, inl, inr, arith, subst, sym, ◌∙◌, ap, refl}
use Rattle.std.specs.Prelude.{◌==◌, IsTrue}
use Rattle.std.proofs.lemmas.Bool.{cases_lt, or_cases, and_parts, and_from, leb-true, le-leb, ltb-true, lt-ltb, eqb-true, eq-eqb}
use Rattle.std.proofs.Math.Bool.{or-true}
use Rattle.std.proofs.lemmas.List.{length-append}
use Rattle.pci_spec.specs.System.{Space, Io, Memory}
use Rattle.pci_base.specs.declared.range.Range.{Range}
use Rattle.pci_tree.specs.Ranges.{Holds, Covers}
use Rattle.pci_tree.proofs.Passing.{covers_push, canonical_push}
use Rattle.judge_spec.specs.Given.{decoded_port, is_vga_port, is_palette_port, legacy_holds, palette_holds}
use Rattle.pci_claims.specs.declared.legacy.FixedPart.TheVariants.{Legacy, Palette}
use Rattle.pci_claims.specs.Legacy.{blocks_of, vga_low, vga_high, palette_low, palette_high, ArePorts, ArePieces, ArePalettePieces, ArePartPieces}
use Rattle.pci_claims.proofs.Gathering.{none_covered, nil_canonical}

-- ---- two ranges in each KB

module _ (low high : Range) where
  pub no_ports : ArePorts 0 low high []
  no_ports = record {
    canonical = nil_canonical;
    two = refl;
    exact = λ a. (
      λ (h : Covers [] a). absurd (none_covered a h),
      λ (h : (a < 0 * 0x400) × (Holds low (a % 0x400) ⊎ Holds high (a % 0x400))). (let less = h.0 in absurd (omega (arith, less))),
    );
  }

  module _ (lawful : low.first ≤ low.last) (apart : low.last + 1 < high.first) (rise : high.first ≤ high.last) (end : high.last < 0x3ff) where
    pub more_ports : (n : ℕ) (out mid new : List Range) (v w : Range) → ArePorts n low high out → v.first ≡ n * 0x400 + low.first → v.last ≡ n * 0x400 + low.last → w.first ≡ n * 0x400 + high.first
        → w.last ≡ n * 0x400 + high.last → mid ≡ out ++ v ∷ [] → new ≡ mid ++ w ∷ [] → ArePorts (n + 1) low high new
    more_ports n out mid new v w is vf vl wf wl em en =
        let below : (a : ℕ) → Covers out a → a + 1 < n * 0x400 = λ a h. (let b = (is.exact a).0 h in let less = b.0 in elim b.1 [
          | inl held ↦ omega (arith, less, held, apart, rise, end)
          | inr held ↦ omega (arith, less, held, end)
        ]) in
        let below_mid : (a : ℕ) → Covers (out ++ v ∷ []) a → a + 1 < w.first = λ a h. elim ((covers_push out v a).0 h) [
          | inl c ↦ (let b = below a c in omega (arith, b, wf, apart))
          | inr held ↦ omega (arith, held, vl, wf, apart)
        ] in
        let can_mid = canonical_push out v is.canonical (omega (arith, vf, vl, lawful)) (λ a h. let b = below a h in omega (arith, b, vf)) in
        let can = canonical_push (out ++ v ∷ []) w can_mid (omega (arith, wf, wl, rise)) below_mid in
        let e : new ≡ (out ++ v ∷ []) ++ w ∷ [] = en ∙ ap (λ xs. xs ++ w ∷ []) em in
        let size = length-append (out ++ v ∷ []) (w ∷ []) in
        let size_mid = length-append out (v ∷ []) in
        let two = is.two in
        subst (λ xs. ArePorts (n + 1) low high xs) (sym e) record {
          canonical = can;
          two = omega (arith, size, size_mid, two);
          exact = λ a. (
            λ (h : Covers ((out ++ v ∷ []) ++ w ∷ []) a). elim ((covers_push (out ++ v ∷ []) w a).0 h) [
              | inl c ↦ elim ((covers_push out v a).0 c) [
                | inl b ↦ (let was = (is.exact a).0 b in (let less = was.0 in omega (arith, less), was.1))
                | inr held ↦ (omega (arith, held, vl, apart, rise, end), inl (omega (arith, held, vf, vl, apart, rise, end), omega (arith, held, vf, vl, apart, rise, end)))
              ]
              | inr held ↦ (omega (arith, held, wl, end), inr (omega (arith, held, wf, wl, end), omega (arith, held, wf, wl, end)))
            ],
            λ (h : (a < (n + 1) * 0x400) × (Holds low (a % 0x400) ⊎ Holds high (a % 0x400))). elim (cases_lt a (n * 0x400)) [
              | inl less ↦ (covers_push (out ++ v ∷ []) w a).1 (inl ((covers_push out v a).1 (inl ((is.exact a).1 (less, h.1)))))
              | inr ge ↦ (let less = h.0 in elim h.1 [
                | inl lower ↦ (covers_push (out ++ v ∷ []) w a).1 (inl ((covers_push out v a).1 (inr (omega (arith, less, ge, lower, vf), omega (arith, less, ge, lower, vl)))))
                | inr upper ↦ (covers_push (out ++ v ∷ []) w a).1 (inr (omega (arith, less, ge, upper, wf), omega (arith, less, ge, upper, wl)))
              ])
            ],
          );
        }

-- ---- how a bridge decodes them

few_blocks : (is_wide : Bool) → 2 * blocks_of is_wide ≤ 128
few_blocks true = omega arith
few_blocks false = omega arith

module _ (low high : Range) (test : ℕ → Bool) (apart : low.last + 1 < high.first) (rise : high.first ≤ high.last) (end : high.last < 0x3ff)
    (in_test : (port : ℕ) → Holds low port ⊎ Holds high port → IsTrue (test port)) (of_test : (port : ℕ) → IsTrue (test port) → Holds low port ⊎ Holds high port) where
  ports_to : (is_wide : Bool) (a : ℕ) → (a < blocks_of is_wide * 0x400) × (Holds low (a % 0x400) ⊎ Holds high (a % 0x400)) → IsTrue (nat_lt a (2 ^ 16) && test (decoded_port is_wide a))
  ports_to true a h =
      let less = h.0 in
      let same : a % 0x400 ≡ a = omega (arith, less) in
      let small : a < 65536 = omega (arith, less) in
      and_from (nat_lt a (2 ^ 16)) (test a) (lt-ltb _ _ small) (subst (λ p. IsTrue (test p)) same (in_test (a % 0x400) h.1))
  ports_to false a h =
      let less = h.0 in
      let small : a < 65536 = omega (arith, less) in
      and_from (nat_lt a (2 ^ 16)) (test (a % 0x400)) (lt-ltb _ _ small) (in_test (a % 0x400) h.1)

  ports_from : (is_wide : Bool) (a : ℕ) → IsTrue (nat_lt a (2 ^ 16) && test (decoded_port is_wide a)) → (a < blocks_of is_wide * 0x400) × (Holds low (a % 0x400) ⊎ Holds high (a % 0x400))
  ports_from true a h =
      let parts = and_parts (nat_lt a (2 ^ 16)) (test a) h in
      let port = of_test a parts.1 in
      let less : a < 0x400 = elim port [ inl held ↦ omega (arith, held, apart, rise, end) | inr held ↦ omega (arith, held, end) ] in
      let same : a ≡ a % 0x400 = omega (arith, less) in
      (omega (arith, less), subst (λ p. Holds low p ⊎ Holds high p) same port)
  ports_from false a h =
      let parts = and_parts (nat_lt a (2 ^ 16)) (test (a % 0x400)) h in
      let less : a < 65536 = ltb-true _ _ parts.0 in
      (omega (arith, less), of_test (a % 0x400) parts.1)

-- ---- a VGA adapter's

vga_in : (port : ℕ) → IsTrue (is_vga_port port) → Holds vga_low port ⊎ Holds vga_high port
vga_in port h = elim (or_cases (nat_le 0x3b0 port && nat_le port 0x3bb) (nat_le 0x3c0 port && nat_le port 0x3df) h) [
  | inl low ↦ (let parts = and_parts (nat_le 0x3b0 port) (nat_le port 0x3bb) low in inl (leb-true _ _ parts.0, leb-true _ _ parts.1))
  | inr high ↦ (let parts = and_parts (nat_le 0x3c0 port) (nat_le port 0x3df) high in inr (leb-true _ _ parts.0, leb-true _ _ parts.1))
]

in_vga : (port : ℕ) → Holds vga_low port ⊎ Holds vga_high port → IsTrue (is_vga_port port)
in_vga port (inl low) = ap (λ x. x || (nat_le 0x3c0 port && nat_le port 0x3df)) (and_from (nat_le 0x3b0 port) (nat_le port 0x3bb) (le-leb _ _ low.0) (le-leb _ _ low.1))
in_vga port (inr high) = ap (λ x. (nat_le 0x3b0 port && nat_le port 0x3bb) || x) (and_from (nat_le 0x3c0 port) (nat_le port 0x3df) (le-leb _ _ high.0) (le-leb _ _ high.1)) ∙ or-true _

pub vga_pieces : (is_wide : Bool) (out : List Range) → ArePorts (blocks_of is_wide) vga_low vga_high out → ArePieces is_wide Io out
vga_pieces is_wide out is =
    let apart : 0x3bb + 1 < 0x3c0 = omega arith in
    let rise : 0x3c0 ≤ 0x3df = omega arith in
    let end : 0x3df < 0x3ff = omega arith in
    let two = is.two in
    let few = few_blocks is_wide in
    record {
      canonical = is.canonical;
      few = omega (arith, two, few);
      exact = λ a. (
        λ (h : Covers out a). ports_to vga_low vga_high is_vga_port apart rise end in_vga vga_in is_wide a ((is.exact a).0 h),
        λ (h : IsTrue (legacy_holds is_wide Io a)). (is.exact a).1 (ports_from vga_low vga_high is_vga_port apart rise end in_vga vga_in is_wide a h),
      );
    }

-- ---- its palette's

palette_in : (port : ℕ) → IsTrue (is_palette_port port) → Holds palette_low port ⊎ Holds palette_high port
palette_in port h = elim (or_cases (port == 0x3c6) (nat_le 0x3c8 port && nat_le port 0x3c9) h) [
  | inl one ↦ (let same = eqb-true port 0x3c6 one in inl (omega (arith, same), omega (arith, same)))
  | inr high ↦ (let parts = and_parts (nat_le 0x3c8 port) (nat_le port 0x3c9) high in inr (leb-true _ _ parts.0, leb-true _ _ parts.1))
]

in_palette : (port : ℕ) → Holds palette_low port ⊎ Holds palette_high port → IsTrue (is_palette_port port)
in_palette port (inl low) =
    let first : 0x3c6 ≤ port = low.0 in
    let last : port ≤ 0x3c6 = low.1 in
    ap (λ x. x || (nat_le 0x3c8 port && nat_le port 0x3c9)) (eq-eqb port 0x3c6 (omega (arith, first, last)))
in_palette port (inr high) = ap (λ x. (port == 0x3c6) || x) (and_from (nat_le 0x3c8 port) (nat_le port 0x3c9) (le-leb _ _ high.0) (le-leb _ _ high.1)) ∙ or-true _

pub pieces_of_palette : (is_wide : Bool) (out : List Range) → ArePorts (blocks_of is_wide) palette_low palette_high out → ArePalettePieces is_wide out
pieces_of_palette is_wide out is =
    let apart : 0x3c6 + 1 < 0x3c8 = omega arith in
    let rise : 0x3c8 ≤ 0x3c9 = omega arith in
    let end : 0x3c9 < 0x3ff = omega arith in
    let two = is.two in
    let few = few_blocks is_wide in
    record {
      canonical = is.canonical;
      few = omega (arith, two, few);
      exact = λ a. (
        λ (h : Covers out a). ports_to palette_low palette_high is_palette_port apart rise end in_palette palette_in is_wide a ((is.exact a).0 h),
        λ (h : IsTrue (palette_holds is_wide Io a)). (is.exact a).1 (ports_from palette_low palette_high is_palette_port apart rise end in_palette palette_in is_wide a h),
      );
    }

-- ---- either part's

pub legacy_part_pieces : (is_wide : Bool) (space : Space) (out : List Range) → ArePieces is_wide space out → ArePartPieces Legacy is_wide space out
legacy_part_pieces is_wide space out is = record { canonical = is.canonical; exact = is.exact }

pub palette_part_pieces : (is_wide : Bool) (out : List Range) → ArePalettePieces is_wide out → ArePartPieces Palette is_wide Io out
palette_part_pieces is_wide out is = record { canonical = is.canonical; exact = is.exact }

-- no palette is in memory space
pub no_palette_pieces : (is_wide : Bool) (out : List Range) → out ≡ [] → ArePartPieces Palette is_wide Memory out
no_palette_pieces is_wide out e = subst (λ xs. ArePartPieces Palette is_wide Memory xs) (sym e) record {
  canonical = nil_canonical;
  exact = λ a. (λ (h : Covers [] a). absurd (none_covered a h), λ (h : false ≡ true). absurd cc);
}
