-- The bridges of a system that have a part stand by slot.
use Rattle.std.proofs.Common.{◌≡◌, ℕ, zero, suc, ◌+◌, ◌<◌, ◌≤◌, List, [], ◌∷◌, Bool, true, false, length, map, get_or, arith, subst}
use Rattle.std.specs.Prelude.{⊤, Option, if◌then◌else◌, slice_index}
use Rattle.std.specs.List.{filter}
use Rattle.std.specs.List.Sorted.{IsNonDecreasingBy, IsStrictlyIncreasing}
use Rattle.std.proofs.lemmas.List.Elements.{All-filter, All-map, All-weaker}
use Rattle.pci_spec.specs.Slot.{IsSlot, slot_number}
use Rattle.pci_spec.specs.System.{Function, System, IsSystem, IsFunction}
use Rattle.judge_spec.specs.Given.{LegacyBridge}
use Rattle.judge_spec.specs.Words.{VgaWord, has_legacy, has_palette, legacy_bridge, legacy_bridges, palette_bridges, palette_word}
use Rattle.pci_model_settle.specs.ClaimLines.{AreBySlot}

-- slots from one on, none of which is below the one before it
abbrev Rise : ℕ → List Function → Type 0
Rise k [] = ⊤
Rise k (f ∷ fs) = (k ≤ slot_number f.slot) × Rise (slot_number f.slot) fs

rise_lower : (k n : ℕ) (fs : List Function) → n ≤ k → Rise k fs → Rise n fs
rise_lower k n [] le h = tt
rise_lower k n (f ∷ fs) le h = (let up = h.0 in omega (arith, le, up), h.1)

rise : (k : ℕ) (s : System) → IsStrictlyIncreasing (map slot_number (map (λ (f : Function). f.slot) s))
    → (0 < length (map slot_number (map (λ (f : Function). f.slot) s)) → k ≤ slice_index (map slot_number (map (λ (f : Function). f.slot) s)) 0) → Rise k s
rise k [] up low = tt
rise k (f ∷ fs) up low = (
  low (omega arith),
  rise (slot_number f.slot) fs
      (λ (i : ℕ) (within : i + 1 < length (map slot_number (map (λ (f : Function). f.slot) fs))).
      let e : suc i + 1 ≡ suc (i + 1) = omega arith in
      subst (λ k. slice_index (map slot_number (map (λ (f : Function). f.slot) (f ∷ fs))) (suc i) < slice_index (map slot_number (map (λ (f : Function). f.slot) (f ∷ fs))) k) e
      (up (suc i) (omega (arith, within))))
      (λ (some : 0 < length (map slot_number (map (λ (f : Function). f.slot) fs))). let less = up 0 (omega (arith, some)) in omega (arith, less)),
)

rise_either : (t : Bool) (k : ℕ) (f : Function) (fs : List Function) → k ≤ slot_number f.slot → Rise (slot_number f.slot) fs → Rise k (if t then f ∷ fs else fs)
rise_either true k f fs low h = (low, h)
rise_either false k f fs low h = rise_lower (slot_number f.slot) k fs low h

rise_filter : (p : Function → Bool) (k : ℕ) (fs : List Function) → Rise k fs → Rise k (filter p fs)
rise_filter p k [] h = tt
rise_filter p k (f ∷ fs) h = rise_either (p f) k f (filter p fs) h.0 (rise_filter p (slot_number f.slot) fs h.1)

module _ (word : VgaWord) where
  not_below : (k : ℕ) (fs : List Function) (j : ℕ) (d : LegacyBridge) → Rise k fs → j < length (map (legacy_bridge word) fs)
      → k ≤ slot_number (get_or (map (legacy_bridge word) fs) j d).slot
  not_below k [] j d h within = absurd (let no : ⊥ = omega (arith, within) in no)
  not_below k (f ∷ fs) zero d h within = h.0
  not_below k (f ∷ fs) (suc j) d h within =
      let up = h.0 in
      let more = not_below (slot_number f.slot) fs j d h.1 (omega (arith, within)) in
      omega (arith, up, more)

  in_order : (k : ℕ) (fs : List Function) → Rise k fs → IsNonDecreasingBy (λ b. slot_number b.slot) (map (legacy_bridge word) fs)
  in_order k [] h i j d le within = absurd (let no : ⊥ = omega (arith, within) in no)
  in_order k (f ∷ fs) h zero zero d le within = omega arith
  in_order k (f ∷ fs) h zero (suc j) d le within = not_below (slot_number f.slot) fs j d h.1 (omega (arith, within))
  in_order k (f ∷ fs) h (suc i) zero d le within = absurd (let no : ⊥ = omega (arith, le) in no)
  in_order k (f ∷ fs) h (suc i) (suc j) d le within = in_order (slot_number f.slot) fs h.1 i j d (omega (arith, le)) (omega (arith, within))

  bridges_by_slot : (p : Function → Bool) (s : System) → IsSystem s → AreBySlot (map (legacy_bridge word) (filter p s))
  bridges_by_slot p s system = record {
    each =
        All-map (λ (b : LegacyBridge). IsSlot b.slot) (legacy_bridge word) (filter p s)
        (All-filter p (λ (f : Function). IsSlot f.slot) s (All-weaker IsFunction (λ (f : Function). IsSlot f.slot) (λ f is. is.slot) s system.each));
    order = in_order 0 (filter p s) (rise_filter p 0 s (rise 0 s system.rising (λ some. omega arith)));
  }

pub legacy_by_slot : (word : VgaWord) (s : System) → IsSystem s → AreBySlot (legacy_bridges word s)
legacy_by_slot word s system = bridges_by_slot word has_legacy s system

pub palette_by_slot : (word : Option VgaWord) (s : System) → IsSystem s → AreBySlot (palette_bridges word s)
palette_by_slot word s system = bridges_by_slot (palette_word word) has_palette s system
