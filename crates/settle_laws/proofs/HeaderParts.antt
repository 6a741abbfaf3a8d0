-- The parts that a header has: which they are, and where their registers stand.
use Rattle.std.proofs.Common.{◌≡◌, ℕ, ◌+◌, ◌*◌, ◌<◌, ◌≤◌, ◌⊎◌, inl, inr, [], ◌∷◌, refl, true, false, cond, arith, sym, ◌∙◌, ap}
use Rattle.std.specs.Bool.{◌==◌}
use Rattle.std.specs.List.{Contains, range_with_len}
use Rattle.std.proofs.lemmas.Bool.{both_ways, cases_Bool, ltb-true}
use Rattle.std.proofs.lemmas.List.Elements.{Contains-append_cases, Contains-append_left, Contains-append_right}
use Rattle.pci_spec.specs.Header.{layout, bar_count, rom_register}
use Rattle.pci_spec.specs.Window.{WindowKind, IoWindow, MemoryWindow, PrefetchWindow, window_register}
use Rattle.pci_spec.specs.System.{Function, Part, Bar, Rom, Window, has_part, register_of, is_bridge, is_window}
use Rattle.pci_spec.proofs.Members.{in_nil, in_cons_cases, IsMade, in_map_to, in_map_from, in_range_to, in_range_from}
use Rattle.settle_spec.specs.Parts.{header_bars, header_parts}

pub record IsBar (f : Function) (p : Part) : Type 0 where
  pub n : ℕ
  pub inside : n < bar_count (layout f.image)
  pub is : Bar n ≡ p

pub record IsWindow (p : Part) : Type 0 where
  pub kind : WindowKind
  pub is : Window kind ≡ p

pub part_cases : (f : Function) (p : Part) → Contains (header_parts f) p → IsBar f p ⊎ (IsWindow p ⊎ (Rom ≡ p))
part_cases f p there = elim (Contains-append_cases (header_bars f) (Window IoWindow ∷ Window MemoryWindow ∷ Window PrefetchWindow ∷ Rom ∷ []) p there) [
  | inl bar ↦
      let made : IsMade Bar (range_with_len 0 (bar_count (layout f.image))) p = in_map_to Bar (range_with_len 0 (bar_count (layout f.image))) p bar in
      inl record { n = made.from; inside = (let below = (in_range_to 0 (bar_count (layout f.image)) made.from made.has).1 in omega (arith, below)); is = made.is }
  | inr other ↦ inr (elim (in_cons_cases (Window IoWindow) (Window MemoryWindow ∷ Window PrefetchWindow ∷ Rom ∷ []) p other) [
    | inl io ↦ inl record { kind = IoWindow; is = io }
    | inr behind_io ↦ elim (in_cons_cases (Window MemoryWindow) (Window PrefetchWindow ∷ Rom ∷ []) p behind_io) [
      | inl memory ↦ inl record { kind = MemoryWindow; is = memory }
      | inr behind_memory ↦ elim (in_cons_cases (Window PrefetchWindow) (Rom ∷ []) p behind_memory) [
        | inl prefetch ↦ inl record { kind = PrefetchWindow; is = prefetch }
        | inr rom ↦ inr (elim (in_cons_cases Rom [] p rom) [ inl is ↦ is | inr none ↦ absurd (in_nil p none) ])
      ]
    ]
  ])
]

-- how many BARs a header has
pub bars_of : (f : Function) → (bar_count (layout f.image) ≡ 2) ⊎ (bar_count (layout f.image) ≡ 6)
bars_of f = elim (cases_Bool (layout f.image == 1)) [
  | inl bridge ↦ inl (ap (λ t. cond t 2 6) bridge)
  | inr device ↦ inr (ap (λ t. cond t 2 6) device)
]

pub few_bars : (f : Function) (n : ℕ) → n < bar_count (layout f.image) → n < 6
few_bars f n inside = elim (bars_of f) [ inl two ↦ omega (arith, inside, two) | inr six ↦ omega (arith, inside, six) ]

-- where its ROM's register is
pub rom_at_end : (f : Function) → (rom_register (layout f.image) ≡ 0x38) ⊎ (rom_register (layout f.image) ≡ 0x30)
rom_at_end f = elim (cases_Bool (layout f.image == 1)) [
  | inl bridge ↦ inl (ap (λ t. cond t 0x38 0x30) bridge)
  | inr device ↦ inr (ap (λ t. cond t 0x38 0x30) device)
]

-- ---- parts have registers of their own

-- a part of a header, whose windows are of a bridge
pub record IsPart (f : Function) (p : Part) : Type 0 where
  pub there : Contains (header_parts f) p
  pub bridge : is_window p ≡ true → is_bridge f ≡ true

window_high : (c : WindowKind) → 0x1c ≤ window_register c
window_high IoWindow = omega arith
window_high MemoryWindow = omega arith
window_high PrefetchWindow = omega arith

window_low : (c : WindowKind) → window_register c ≤ 0x24
window_low IoWindow = omega arith
window_low MemoryWindow = omega arith
window_low PrefetchWindow = omega arith

pub one_window : (c d : WindowKind) → window_register c ≡ window_register d → c ≡ d
one_window IoWindow IoWindow e = refl
one_window IoWindow MemoryWindow e = absurd (let no : ⊥ = omega (arith, e) in no)
one_window IoWindow PrefetchWindow e = absurd (let no : ⊥ = omega (arith, e) in no)
one_window MemoryWindow IoWindow e = absurd (let no : ⊥ = omega (arith, e) in no)
one_window MemoryWindow MemoryWindow e = refl
one_window MemoryWindow PrefetchWindow e = absurd (let no : ⊥ = omega (arith, e) in no)
one_window PrefetchWindow IoWindow e = absurd (let no : ⊥ = omega (arith, e) in no)
one_window PrefetchWindow MemoryWindow e = absurd (let no : ⊥ = omega (arith, e) in no)
one_window PrefetchWindow PrefetchWindow e = refl

-- where a register stands
bar_low : (f : Function) (n : ℕ) → n < bar_count (layout f.image) → register_of f (Bar n) < 0x28
bar_low f n inside = let few = few_bars f n inside in omega (arith, few)

bridge_bar_low : (f : Function) (n : ℕ) → is_bridge f ≡ true → n < bar_count (layout f.image) → register_of f (Bar n) < 0x18
bridge_bar_low f n bridge inside = let e : bar_count (layout f.image) ≡ 2 = ap (λ t. cond t 2 6) bridge in omega (arith, inside, e)

rom_high : (f : Function) → 0x30 ≤ register_of f Rom
rom_high f = elim (rom_at_end f) [ inl e ↦ omega (arith, e) | inr e ↦ omega (arith, e) ]

module _ (f : Function) where
  bar_alone : (n : ℕ) → n < bar_count (layout f.image) → (p : Part) → IsPart f p → register_of f (Bar n) ≡ register_of f p → Bar n ≡ p
  bar_alone n inside p is e = elim (part_cases f p is.there) [
    | inl bar ↦
        let at : 0x10 + 4 * n ≡ 0x10 + 4 * bar.n = e ∙ ap (register_of f) (sym bar.is) in
        let same : n ≡ bar.n = omega (arith, at) in
        ap Bar same ∙ bar.is
    | inr (inl window) ↦
        let at = e ∙ ap (register_of f) (sym window.is) in
        let low = bridge_bar_low f n (is.bridge (ap is_window (sym window.is))) inside in
        let high = window_high window.kind in
        absurd (let no : ⊥ = omega (arith, at, low, high) in no)
    | inr (inr rom) ↦
        let at = e ∙ ap (register_of f) (sym rom) in
        let low = bar_low f n inside in
        let high = rom_high f in
        absurd (let no : ⊥ = omega (arith, at, low, high) in no)
  ]

  window_alone : (c : WindowKind) → is_bridge f ≡ true → (p : Part) → IsPart f p → register_of f (Window c) ≡ register_of f p → Window c ≡ p
  window_alone c bridge p is e = elim (part_cases f p is.there) [
    | inl bar ↦
        let at = e ∙ ap (register_of f) (sym bar.is) in
        let low = bridge_bar_low f bar.n bridge bar.inside in
        let high = window_high c in
        absurd (let no : ⊥ = omega (arith, at, low, high) in no)
    | inr (inl window) ↦ ap Window (one_window c window.kind (e ∙ ap (register_of f) (sym window.is))) ∙ window.is
    | inr (inr rom) ↦
        let at = e ∙ ap (register_of f) (sym rom) in
        let low = window_low c in
        let high = rom_high f in
        absurd (let no : ⊥ = omega (arith, at, low, high) in no)
  ]

  rom_alone : (p : Part) → IsPart f p → register_of f Rom ≡ register_of f p → Rom ≡ p
  rom_alone p is e = elim (part_cases f p is.there) [
    | inl bar ↦
        let at = e ∙ ap (register_of f) (sym bar.is) in
        let low = bar_low f bar.n bar.inside in
        let high = rom_high f in
        absurd (let no : ⊥ = omega (arith, at, low, high) in no)
    | inr (inl window) ↦
        let at = e ∙ ap (register_of f) (sym window.is) in
        let low = window_low window.kind in
        let high = rom_high f in
        absurd (let no : ⊥ = omega (arith, at, low, high) in no)
    | inr (inr rom) ↦ rom
  ]

  pub register_low : (p : Part) → IsPart f p → register_of f p < 256
  register_low p is = elim (part_cases f p is.there) [
    | inl bar ↦ (let at = ap (register_of f) bar.is in let low = bar_low f bar.n bar.inside in omega (arith, at, low))
    | inr (inl window) ↦ (let at = ap (register_of f) window.is in let low = window_low window.kind in omega (arith, at, low))
    | inr (inr rom) ↦ (let at = ap (register_of f) rom in elim (rom_at_end f) [ inl e ↦ omega (arith, at, e) | inr e ↦ omega (arith, at, e) ])
  ]

  -- two parts with one register are one
  pub one_part : (p r : Part) → IsPart f p → IsPart f r → register_of f p ≡ register_of f r → p ≡ r
  one_part p r is_p is_r e = elim (part_cases f p is_p.there) [
    | inl bar ↦ sym bar.is ∙ bar_alone bar.n bar.inside r is_r (ap (register_of f) bar.is ∙ e)
    | inr (inl window) ↦ sym window.is ∙ window_alone window.kind (is_p.bridge (ap is_window (sym window.is))) r is_r (ap (register_of f) window.is ∙ e)
    | inr (inr rom) ↦ sym rom ∙ rom_alone r is_r (ap (register_of f) rom ∙ e)
  ]

pub one_kind : (c d : WindowKind) → Window c ≡ Window d → c ≡ d
one_kind c d e = cc

pub window_of : (f : Function) (c : WindowKind) → Contains (header_parts f) (Window c)
window_of f IoWindow = Contains-append_right (header_bars f) (Window IoWindow ∷ Window MemoryWindow ∷ Window PrefetchWindow ∷ Rom ∷ []) (Window IoWindow) (0, omega arith, refl)
window_of f MemoryWindow = Contains-append_right (header_bars f) (Window IoWindow ∷ Window MemoryWindow ∷ Window PrefetchWindow ∷ Rom ∷ []) (Window MemoryWindow) (1, omega arith, refl)
window_of f PrefetchWindow = Contains-append_right (header_bars f) (Window IoWindow ∷ Window MemoryWindow ∷ Window PrefetchWindow ∷ Rom ∷ []) (Window PrefetchWindow) (2, omega arith, refl)

pub bar_of : (f : Function) (n : ℕ) → n < bar_count (layout f.image) → Contains (header_parts f) (Bar n)
bar_of f n inside =
    Contains-append_left (header_bars f) (Window IoWindow ∷ Window MemoryWindow ∷ Window PrefetchWindow ∷ Rom ∷ []) (Bar n)
    (in_map_from Bar (range_with_len 0 (bar_count (layout f.image))) n (in_range_from 0 (bar_count (layout f.image)) n (omega arith) (omega (arith, inside))))

pub rom_of : (f : Function) → Contains (header_parts f) Rom
rom_of f = Contains-append_right (header_bars f) (Window IoWindow ∷ Window MemoryWindow ∷ Window PrefetchWindow ∷ Rom ∷ []) Rom (3, omega arith, refl)

-- what a header has is listed
pub header_of : (f : Function) (p : Part) → has_part f p ≡ true → Contains (header_parts f) p
header_of f (Bar n) there = bar_of f n (ltb-true n (bar_count (layout f.image)) there)
header_of f Rom there = rom_of f
header_of f (Window c) there = window_of f c

pub is_part_of : (f : Function) (p : Part) → has_part f p ≡ true → IsPart f p
is_part_of f p there = record { there = header_of f p there; bridge = by p there }
  where
    by : (p : Part) → has_part f p ≡ true → is_window p ≡ true → is_bridge f ≡ true
    by (Bar n) there window = absurd (both_ways false refl window)
    by Rom there window = absurd (both_ways false refl window)
    by (Window c) there window = there
