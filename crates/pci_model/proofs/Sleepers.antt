-- The slots of functions that are taken as asleep, function by function.
use Rattle.std.proofs.Common.{◌≡◌, ℕ, ◌+◌, ◌<◌, ◌≤◌, List, [], ◌∷◌, ◌++◌, length, take, get_or, arith, refl, sym, ap, subst, inl, inr, false}
use Rattle.std.proofs.lemmas.Bool.{both_ways}
use Rattle.std.proofs.lemmas.List.{take_all}
use Rattle.pci_spec.specs.Slot.{Slot}
use Rattle.pci_spec.specs.Text.{Block, slots_of}
use Rattle.pci_spec.specs.System.{Function, System, function_of, system_of}
use Rattle.pci_spec.proofs.Pairing.{length-system_of, same_length}
use Rattle.judge_spec.specs.ModelWords.{Words}
use Rattle.judge_spec.specs.Taken.{IsAsleepBy}
use Rattle.judge_spec.specs.Asleep.{AreAsleepBy, AreSlotsWhere}
use Rattle.pci_model.proofs.Takes.{functions_more}

pub none_asleep : (w : Words) (s : System) → w.power ≡ false → AreAsleepBy w s []
none_asleep w [] off = refl
none_asleep w (f ∷ s) off = inr (λ asleep. both_ways w.power off asleep.0, none_asleep w s off)

-- a function more
with_one : (P : Function → Type 0) (s : System) (slots : List Slot) (f : Function) → AreSlotsWhere P s slots → P f → AreSlotsWhere P (s ++ f ∷ []) (slots ++ f.slot ∷ [])
with_one P [] slots f is here = inl (here, ([], ap (λ (ss : List Slot). ss ++ f.slot ∷ []) is, refl))
with_one P (g ∷ s) slots f (inl (first, (more, is, rest))) here =
    inl (first, (more ++ f.slot ∷ [], ap (λ (ss : List Slot). ss ++ f.slot ∷ []) is, with_one P s more f rest here))
with_one P (g ∷ s) slots f (inr (none, rest)) here = inr (none, with_one P s slots f rest here)

without_one : (P : Function → Type 0) (s : System) (slots : List Slot) (f : Function) → AreSlotsWhere P s slots → (P f → ⊥) → AreSlotsWhere P (s ++ f ∷ []) slots
without_one P [] slots f is none = inr (none, is)
without_one P (g ∷ s) slots f (inl (first, (more, is, rest))) none = inl (first, (more, is, without_one P s more f rest none))
without_one P (g ∷ s) slots f (inr (other, rest)) none = inr (other, without_one P s slots f rest none)

-- the slots of those among the first functions
abbrev pub AreAsleepSoFar : Words → List Block → List Block → ℕ → List Slot → Type 0
AreAsleepSoFar w dump probe i slots = AreAsleepBy w (take i (system_of dump probe)) slots

pub next_asleep : (w : Words) (dump probe : List Block) (i : ℕ) (slots : List Slot) (b p : Block) → slots_of dump ≡ slots_of probe → i < length dump
    → b ≡ get_or dump i b → p ≡ get_or probe i p → AreAsleepSoFar w dump probe i slots → IsAsleepBy w (function_of b p) → AreAsleepSoFar w dump probe (i + 1) (slots ++ b.slot ∷ [])
next_asleep w dump probe i slots b p same inside b_at p_at so_far here =
    subst (λ (s : System). AreAsleepBy w s (slots ++ b.slot ∷ [])) (sym (functions_more dump probe i b p same inside b_at p_at))
    (with_one (IsAsleepBy w) (take i (system_of dump probe)) slots (function_of b p) so_far here)

pub next_awake : (w : Words) (dump probe : List Block) (i : ℕ) (slots : List Slot) (b p : Block) → slots_of dump ≡ slots_of probe → i < length dump
    → b ≡ get_or dump i b → p ≡ get_or probe i p → AreAsleepSoFar w dump probe i slots → (IsAsleepBy w (function_of b p) → ⊥) → AreAsleepSoFar w dump probe (i + 1) slots
next_awake w dump probe i slots b p same inside b_at p_at so_far none =
    subst (λ (s : System). AreAsleepBy w s slots) (sym (functions_more dump probe i b p same inside b_at p_at))
    (without_one (IsAsleepBy w) (take i (system_of dump probe)) slots (function_of b p) so_far none)

pub all_asleep : (w : Words) (dump probe : List Block) (i : ℕ) (slots : List Slot) → slots_of dump ≡ slots_of probe → length dump ≤ i
    → AreAsleepSoFar w dump probe i slots → AreAsleepBy w (system_of dump probe) slots
all_asleep w dump probe i slots same done so_far =
    let size = length-system_of dump probe (same_length dump probe same) in
    subst (λ (s : System). AreAsleepBy w s slots) (take_all i (system_of dump probe) (omega (arith, size, done))) so_far
