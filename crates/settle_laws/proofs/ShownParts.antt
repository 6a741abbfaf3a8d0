-- What one step of many sets is there at the end, and parts told apart by their kind.
use Rattle.std.proofs.Common.{◌≡◌, ℕ, ◌+◌, ◌*◌, ◌/◌, ◌⊎◌, inl, inr, List, [], ◌∷◌, Bool, true, false, not, refl, sym, ◌∙◌, ap, subst}
use Rattle.std.specs.Bool.{nat_le}
use Rattle.std.specs.List.{Contains, fold}
use Rattle.std.proofs.lemmas.Bool.{both_ways, cases_Bool, cases_eq, true≢false}
use Rattle.pci_spec.specs.Window.{WindowKind, Bounds, lower_pages}
use Rattle.pci_spec.specs.System.{Part, Bar, Rom, Window, is_window}
use Rattle.pci_spec.proofs.Members.{in_nil, in_cons_cases, in_head, in_tail}
use Rattle.plan_spec.specs.Plan.{same_class}
use Rattle.plan_spec.proofs.Planning.PlacedItems.{same_class_is}
use Rattle.plan_spec.proofs.Planning.Tables.{class_itself}
use Rattle.settle_laws.proofs.Shown.{fold_keeps}

-- what a step sets and no other step takes away is there at the end
pub reaches : {A B : Type 0} (I P : A → Type 0) (step : A → B → A) (bs : List B) (b0 : B) → ((b : B) → Contains bs b → (a : A) → I a → I (step a b)) → ((a : A) → I a → P (step a b0))
    → ((b : B) → Contains bs b → (a : A) → I a → P a → P (step a b)) → (a : A) → I a → Contains bs b0 → P (fold step a bs)
reaches I P step [] b0 each sets keeps a i has = absurd (in_nil b0 has)
reaches I P step (b ∷ bs) b0 each sets keeps a i has = elim (in_cons_cases b bs b0 has) [
  | inl here ↦
      (fold_keeps (λ x. I x × P x) step bs (λ c in_c x both. (each c (in_tail b bs c in_c) x both.0, keeps c (in_tail b bs c in_c) x both.0 both.1)) (step a b)
      (each b (in_head b bs) a i, subst (λ c. P (step a c)) (sym here) (sets a i))).1
  | inr later ↦ reaches I P step bs b0 (λ c in_c. each c (in_tail b bs c in_c)) sets (λ c in_c. keeps c (in_tail b bs c in_c)) (step a b) (each b (in_head b bs) a i) later
]

abbrev pub is_bar : Part → Bool
is_bar (Bar n) = true
is_bar p = false

pub bar_or_not : (n : ℕ) (p : Part) → (Bar n ≡ p) ⊎ (Bar n ≡ p → ⊥)
bar_or_not n (Bar m) = elim (cases_eq n m) [
  | inl same ↦ inl (ap Bar same)
  | inr differ ↦ inr (λ e. differ (ap number e))
]
  where
    number : Part → ℕ
    number (Bar m) = m
    number p = n
bar_or_not n Rom = inr (λ e. true≢false (ap is_bar e))
bar_or_not n (Window c) = inr (λ e. true≢false (ap is_bar e))

pub rom_or_not : (p : Part) → (Rom ≡ p) ⊎ (Rom ≡ p → ⊥)
rom_or_not (Bar m) = inr (λ e. true≢false (sym (ap is_bar e)))
rom_or_not Rom = inl refl
rom_or_not (Window c) = inr (λ e. true≢false (sym (ap is_window e)))

pub window_or_not : (c : WindowKind) (p : Part) → (Window c ≡ p) ⊎ (Window c ≡ p → ⊥)
window_or_not c (Bar m) = inr (λ e. true≢false (ap is_window e))
window_or_not c Rom = inr (λ e. true≢false (ap is_window e))
window_or_not c (Window d) = elim (cases_Bool (same_class c d)) [
  | inl same ↦ inl (ap Window (sym (same_class_is c d same)))
  | inr differ ↦ inr (λ e. both_ways (same_class c d) differ (ap (same_class c) (sym (ap kind e)) ∙ class_itself c))
]
  where
    kind : Part → WindowKind
    kind (Window d) = d
    kind p = c

-- whether bounds are those of a closed window
abbrev pub closed_by : WindowKind → Bounds → Bool
closed_by c b = not (nat_le (b.base_upper * lower_pages c + b.base / 16) (b.limit_upper * lower_pages c + b.limit / 16))
