-- The parts of a header, and filters that keep the same.
use Rattle.std.proofs.Common.{◌≡◌, inl, inr, List, [], ◌∷◌, Bool, false, true, cond, arith, refl, sym, ◌∙◌, ap, subst}
use Rattle.std.specs.List.{Contains, filter, range_with_len}
use Rattle.std.proofs.lemmas.Bool.{lt-ltb, both_ways}
use Rattle.std.proofs.lemmas.List.Elements.{Contains-append_cases}
use Rattle.pci_spec.specs.Header.{layout, bar_count}
use Rattle.pci_spec.specs.Window.{WindowKind, IoWindow, MemoryWindow, PrefetchWindow}
use Rattle.pci_spec.specs.System.{Function, Part, Bar, Rom, Window, is_window, has_part}
use Rattle.pci_spec.proofs.Members.{in_head, in_tail, in_nil, in_cons_cases, in_map_to, IsMade, in_range_to}
use Rattle.settle_spec.specs.Parts.{header_bars, header_parts}

-- tests that agree on a list keep the same of it
pub filter_same : {X : Type 0} (p r : X → Bool) (xs : List X) → ((x : X) → Contains xs x → p x ≡ r x) → filter p xs ≡ filter r xs
filter_same p r [] same = refl
filter_same p r (x ∷ xs) same =
    ap (λ b. cond b (x ∷ filter p xs) (filter p xs)) (same x (in_head x xs))
    ∙ ap (λ ys. cond (r x) (x ∷ ys) ys) (filter_same p r xs (λ y listed. same y (in_tail x xs y listed)))

window_not : (c : WindowKind) (p : Part) → Window c ≡ p → is_window p ≡ false → ⊥
window_not c p same plain = both_ways (is_window p) plain (sym (ap is_window same))

-- a header has each of its parts that is no window
pub header_has : (f : Function) (p : Part) → Contains (header_parts f) p → is_window p ≡ false → has_part f p ≡ true
header_has f p listed plain = elim (Contains-append_cases (header_bars f) (Window IoWindow ∷ (Window MemoryWindow ∷ (Window PrefetchWindow ∷ (Rom ∷ [])))) p listed) [
  | inl bar ↦
      let made : IsMade Bar (range_with_len 0 (bar_count (layout f.image))) p = in_map_to Bar (range_with_len 0 (bar_count (layout f.image))) p bar in
      let low = (in_range_to 0 (bar_count (layout f.image)) made.from made.has).1 in
      subst (λ o. has_part f o ≡ true) made.is (lt-ltb made.from (bar_count (layout f.image)) (omega (arith, low)))
  | inr a ↦ elim (in_cons_cases (Window IoWindow) (Window MemoryWindow ∷ (Window PrefetchWindow ∷ (Rom ∷ []))) p a) [
    | inl same ↦ absurd (window_not IoWindow p same plain)
    | inr b ↦ elim (in_cons_cases (Window MemoryWindow) (Window PrefetchWindow ∷ (Rom ∷ [])) p b) [
      | inl same ↦ absurd (window_not MemoryWindow p same plain)
      | inr d ↦ elim (in_cons_cases (Window PrefetchWindow) (Rom ∷ []) p d) [
        | inl same ↦ absurd (window_not PrefetchWindow p same plain)
        | inr e ↦ elim (in_cons_cases Rom [] p e) [
          | inl same ↦ subst (λ o. has_part f o ≡ true) same refl
          | inr none ↦ absurd (in_nil p none)
        ]
      ]
    ]
  ]
]
