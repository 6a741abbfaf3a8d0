-- What a table by function tells of the parts of a system.
use Rattle.std.proofs.Common.{◌≡◌, ℕ, zero, suc, ◌<◌, inl, inr, ◌⊎◌, List, [], ◌∷◌, get_or, set, length, true, false, cond, ◌&&◌, arith, sym, ◌∙◌, ap, refl, Some, Bool}
use Rattle.std.specs.Bool.{◌==◌}
use Rattle.std.specs.List.{Contains, slice_get}
use Rattle.std.proofs.lemmas.Bool.{cases_eq, and_parts, eqb-true, false_from_ne_true}
use Rattle.std.proofs.lemmas.List.{get_or-set_same, get_or-set_other}
use Rattle.std.proofs.lemmas.Option.{slice_get_within, slice_get-get_or, get_or_from_slice_get}
use Rattle.pci_spec.specs.Slot.{Slot, same_slot, slot_number}
use Rattle.pci_spec.specs.Window.{WindowKind, IoWindow, MemoryWindow, PrefetchWindow}
use Rattle.pci_spec.specs.System.{System, Function, Part, Bar, Rom, Window, IsSystem}
use Rattle.pci_spec.proofs.SameSlot.{slot_itself}
use Rattle.plan_spec.proofs.Planning.AllItems.{slots_rise}
use Rattle.settle_spec.specs.Parts.{FunctionPart}
use Rattle.pci_first_fit.specs.declared.kept.Kept.{Kept}
use Rattle.pci_first_fit.specs.Kept.{kept_of, nothing_kept}
use Rattle.pci_kept.specs.Tables.{index_of, stands_in}

-- ---- parts are one or two

window_cases : (c d : WindowKind) → (Window c ≡ Window d) ⊎ (Window c ≡ Window d → ⊥)
window_cases IoWindow IoWindow = inl refl
window_cases IoWindow MemoryWindow = inr (λ e. cc)
window_cases IoWindow PrefetchWindow = inr (λ e. cc)
window_cases MemoryWindow IoWindow = inr (λ e. cc)
window_cases MemoryWindow MemoryWindow = inl refl
window_cases MemoryWindow PrefetchWindow = inr (λ e. cc)
window_cases PrefetchWindow IoWindow = inr (λ e. cc)
window_cases PrefetchWindow MemoryWindow = inr (λ e. cc)
window_cases PrefetchWindow PrefetchWindow = inl refl

bar_differs : (n m : ℕ) → (n ≡ m → ⊥) → Bar n ≡ Bar m → ⊥
bar_differs n m differ e = differ cc

pub part_cases : (p o : Part) → (p ≡ o) ⊎ (p ≡ o → ⊥)
part_cases (Bar n) (Bar m) = elim (cases_eq n m) [ inl same ↦ inl (ap Bar same) | inr differ ↦ inr (bar_differs n m differ) ]
part_cases (Bar n) Rom = inr (λ e. cc)
part_cases (Bar n) (Window c) = inr (λ e. cc)
part_cases Rom (Bar m) = inr (λ e. cc)
part_cases Rom Rom = inl refl
part_cases Rom (Window c) = inr (λ e. cc)
part_cases (Window c) (Bar m) = inr (λ e. cc)
part_cases (Window c) Rom = inr (λ e. cc)
part_cases (Window c) (Window d) = window_cases c d

abbrev region : Function → Part → FunctionPart
region f p = record { function = f; part = p }

same_region : (t : FunctionPart) (f : Function) (p : Part) → t.function ≡ f → t.part ≡ p → t ≡ region f p
same_region t f p e h = ap (λ g. region g t.part) e ∙ ap (region f) h

-- ---- functions by their slots

pub one_number : (a b : Slot) → same_slot a b ≡ true → slot_number a ≡ slot_number b
one_number a b same =
    let two = and_parts (a.bus == b.bus && a.device == b.device) (a.function == b.function) same in
    let one = and_parts (a.bus == b.bus) (a.device == b.device) two.0 in
    let x = eqb-true a.bus b.bus one.0 in
    let y = eqb-true a.device b.device one.1 in
    let z = eqb-true a.function b.function two.1 in
    omega (arith, x, y, z)

index_first : (s : System) (k : ℕ) (f : Function) → slice_get s k ≡ Some f → ((j : ℕ) (d : Function) → j < k → same_slot (get_or s j d).slot f.slot ≡ false) → index_of s f.slot ≡ k
index_first [] k f at others = cc
index_first (x ∷ s) zero f at others =
    let same : x ≡ f = cc in
    ap (λ b. cond b 0 (suc (index_of s f.slot))) (ap (λ (g : Function). same_slot g.slot f.slot) same ∙ slot_itself f.slot)
index_first (x ∷ s) (suc k) f at others =
    ap (λ b. cond b 0 (suc (index_of s f.slot))) (others 0 x (omega arith))
    ∙ ap suc (index_first s k f at (λ j d less. others (suc j) d (omega (arith, less))))

module _ (s : System) (system : IsSystem s) where
  pub index_at : (k : ℕ) (f : Function) → slice_get s k ≡ Some f → index_of s f.slot ≡ k
  index_at k f at = index_first s k f at (λ j d less. false_from_ne_true (same_slot (get_or s j d).slot f.slot) (λ same. other j d less same))
    where
      other : (j : ℕ) (d : Function) → j < k → same_slot (get_or s j d).slot f.slot ≡ true → ⊥
      other j d less same =
          let one = one_number (get_or s j d).slot f.slot same in
          let up = slots_rise s system j k d less (slice_get_within s k f at) in
          let here : slot_number (get_or s k d).slot ≡ slot_number f.slot = ap (λ (g : Function). slot_number g.slot) (get_or_from_slice_get s k f d at) in
          omega (arith, one, up, here)

  pub table_at : (table : List Kept) (k : ℕ) (f : Function) (p : Part) → slice_get s k ≡ Some f → stands_in s table record { function = f; part = p } ≡ kept_of (get_or table k nothing_kept) p
  table_at table k f p at = ap (λ n. kept_of (get_or table n nothing_kept) p) (index_at k f at)

  -- ---- a part of which something else is noted

  module _ (table : List Kept) (k : ℕ) (f : Function) (at : slice_get s k ≡ Some f) (within : k < length table) (p : Part) (entry : Kept) (value : Bool)
      (noted : kept_of entry p ≡ value) (others : (o : Part) → (o ≡ p → ⊥) → kept_of entry o ≡ kept_of (get_or table k nothing_kept) o) where
    abbrev part : FunctionPart
    part = record { function = f; part = p }

    pub noted_here : stands_in s (set table k entry) part ≡ value
    noted_here = table_at (set table k entry) k f p at ∙ ap (λ t. kept_of t p) (get_or-set_same table k entry nothing_kept within) ∙ noted

    pub noted_others : (t : FunctionPart) → Contains s t.function → (t ≡ part) ⊎ (stands_in s (set table k entry) t ≡ stands_in s table t)
    noted_others t (m, in_m, is_m) =
        let there : slice_get s m ≡ Some t.function = slice_get-get_or s m t.function in_m ∙ ap Some is_m in
        elim (cases_eq m k) [
          | inl same ↦
              let one : f ≡ t.function = (let both : Some f ≡ Some t.function = sym at ∙ ap (slice_get s) (sym same) ∙ there in let e : f ≡ t.function = cc in e) in
              elim (part_cases t.part p) [
                | inl same_part ↦ inl (same_region t f p (sym one) same_part)
                | inr differ ↦ inr (
                    table_at (set table k entry) m t.function t.part there
                    ∙ ap (λ n. kept_of (get_or (set table k entry) n nothing_kept) t.part) same
                    ∙ ap (λ x. kept_of x t.part) (get_or-set_same table k entry nothing_kept within)
                    ∙ others t.part differ
                    ∙ ap (λ n. kept_of (get_or table n nothing_kept) t.part) (sym same)
                    ∙ sym (table_at table m t.function t.part there)
                    )
              ]
          | inr other ↦ inr (
              table_at (set table k entry) m t.function t.part there
              ∙ ap (λ x. kept_of x t.part) (get_or-set_other table k m entry nothing_kept other)
              ∙ sym (table_at table m t.function t.part there)
              )
        ]
