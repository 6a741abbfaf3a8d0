-- Where two tables tell the same of a function's parts, the same of them stay.
use Rattle.std.proofs.Common.{◌≡◌, ℕ, zero, suc, ◌+◌, ◌-◌, ◌<◌, inl, inr, List, [], ◌∷◌, length, drop, Bool, true, false, cond, ◌&&◌, ◌||◌, not, arith, refl, sym, ◌∙◌, ap, Some}
use Rattle.std.specs.Bool.{beq}
use Rattle.std.specs.List.{Contains, list_all, filter, flat_map, range_with_len, slice_get}
use Rattle.std.proofs.lemmas.Bool.{cases_Bool, and_parts, lt-ltb, both_ways, false_from_ne_true}
use Rattle.std.proofs.lemmas.List.{drop_more}
use Rattle.std.proofs.lemmas.List.Folds.{list_all-append, list_all-map}
use Rattle.std.proofs.lemmas.Option.{slice_get_within, get_or_from_slice_get}
use Rattle.pci_spec.specs.Header.{layout, bar_count}
use Rattle.pci_spec.specs.Window.{WindowKind, IoWindow, MemoryWindow, PrefetchWindow, has_window, is_closed}
use Rattle.pci_spec.specs.System.{System, Function, Part, Bar, Rom, Window, has_part, is_bridge}
use Rattle.pci_spec.proofs.Members.{in_head, in_tail, in_range_to}
use Rattle.settle_spec.specs.Lists.{Request}
use Rattle.settle_spec.specs.Parts.{FunctionPart, is_part, header_bars, header_parts, parts_of, function_parts, system_parts}
use Rattle.settle_spec.specs.Stands.{stands_within, stands}
use Rattle.pci_first_fit.specs.declared.kept.Kept.{Kept}
use Rattle.pci_first_fit.specs.Kept.{kept_of}
use Rattle.pci_settle.specs.Alike.{told_alike, bars_alike, windows_alike, parts_alike, PassesPartsOnly}

-- what stands is a part
pub stands_part : (q : Request) (s : System) → PassesPartsOnly q s (stands q s)
unfolding stands_within
stands_part q s r = within (length (system_parts q s)) where
  within : (others : ℕ) → stands_within q s others r ≡ true → is_part q s r.function r.part ≡ true
  within zero is = absurd (both_ways false refl is)
  within (suc others) is = (and_parts _ _ (and_parts _ _ (and_parts _ _ is).0).0).1

-- ---- tests of lists

module _ {X : Type 0} where
  -- what is left out passes
  all_filter : (keep test : X → Bool) → ((x : X) → keep x ≡ false → test x ≡ true) → (xs : List X) → list_all test (filter keep xs) ≡ list_all test xs
  all_filter keep test out [] = refl
  all_filter keep test out (x ∷ xs) = elim (cases_Bool (keep x)) [
    | inl is ↦ ap (λ b. list_all test (cond b (x ∷ filter keep xs) (filter keep xs))) is ∙ ap (λ b. test x && b) (all_filter keep test out xs)
    | inr off ↦
        ap (λ b. list_all test (cond b (x ∷ filter keep xs) (filter keep xs))) off
        ∙ all_filter keep test out xs ∙ sym (ap (λ b. b && list_all test xs) (out x off))
  ]

  all_same : (one other : X → Bool) (xs : List X) → ((x : X) → Contains xs x → one x ≡ other x) → list_all one xs ≡ list_all other xs
  all_same one other [] same = refl
  all_same one other (x ∷ xs) same =
      ap (λ b. b && list_all one xs) (same x (in_head x xs)) ∙ ap (λ b. other x && b) (all_same one other xs (λ y listed. same y (in_tail x xs y listed)))

-- ---- the BARs from one on

abbrev pub alike_from : Kept → Kept → ℕ → ℕ → Bool
alike_from one other n count = list_all (λ m. told_alike one other (Bar m)) (range_with_len n (count - n))

pub next_bar : (one other : Kept) (n count : ℕ) → n < count → alike_from one other n count ≡ (told_alike one other (Bar n) && alike_from one other (n + 1) count)
next_bar one other n count less =
    let more : count - n ≡ suc (count - (n + 1)) = omega (arith, less) in
    ap (λ m. list_all (λ b. told_alike one other (Bar b)) (range_with_len n m)) more

-- ---- the parts of a function

-- what is no part passes no test that only parts pass
no_part : (q : Request) (s : System) (test : FunctionPart → Bool) → PassesPartsOnly q s test → (r : FunctionPart) → is_part q s r.function r.part ≡ false → test r ≡ false
no_part q s test parts r off = false_from_ne_true (test r) (λ is. both_ways (is_part q s r.function r.part) off (parts r is))

same_beq : (a b c d : Bool) → a ≡ c → b ≡ d → beq a b ≡ beq c d
same_beq a b c d first second = ap (λ x. beq x b) first ∙ ap (λ x. beq c x) second

order_of : (bars io memory prefetch rom : Bool) → (bars && (io && (memory && (prefetch && (rom && true))))) ≡ (bars && ((io && (memory && prefetch)) && rom))
order_of false io memory prefetch rom = refl
order_of true false memory prefetch rom = refl
order_of true true false prefetch rom = refl
order_of true true true false rom = refl
order_of true true true true false = refl
order_of true true true true true = refl

module _ (q : Request) (s : System) (k j : FunctionPart → Bool) (k_parts : PassesPartsOnly q s k) (j_parts : PassesPartsOnly q s j) where
  abbrev alike : FunctionPart → Bool
  alike r = beq (k r) (j r)

  off_alike : (r : FunctionPart) → is_part q s r.function r.part ≡ false → alike r ≡ true
  off_alike r off = same_beq (k r) (j r) false false (no_part q s k k_parts r off) (no_part q s j j_parts r off)

  module _ (f : Function) (one other : Kept) where
    abbrev region : Part → FunctionPart
    region part = record { function = f; part = part }

    abbrev IsToldBy : (FunctionPart → Bool) → Kept → Type 0
    IsToldBy test told = (part : Part) → has_part f part ≡ true → kept_of told part ≡ test (region part)

    module _ (k_told : IsToldBy k one) (j_told : IsToldBy j other) where
      abbrev is_alike : Part → Bool
      is_alike part = alike (region part)

      told : (part : Part) → has_part f part ≡ true → told_alike one other part ≡ is_alike part
      told part there = same_beq (kept_of one part) (kept_of other part) (k (region part)) (j (region part)) (k_told part there) (j_told part there)

      abbrev count : ℕ
      count = bar_count (layout f.image)

      bars : bars_alike count one other ≡ list_all is_alike (header_bars f)
      bars =
          all_same (λ n. told_alike one other (Bar n)) (λ n. is_alike (Bar n)) (range_with_len 0 count)
          (λ n listed. told (Bar n) (let low = (in_range_to 0 count n listed).1 in lt-ltb n count (omega (arith, low))))
          ∙ sym (list_all-map is_alike Bar (range_with_len 0 count))

      abbrev windows : Bool
      windows = is_alike (Window IoWindow) && (is_alike (Window MemoryWindow) && is_alike (Window PrefetchWindow))

      windows_are : (not (is_bridge f) || windows_alike one other) ≡ windows
      windows_are = elim (cases_Bool (is_bridge f)) [
        | inl is ↦
            ap (λ b. not b || windows_alike one other) is
            ∙ ap (λ b. b && (told_alike one other (Window MemoryWindow) && told_alike one other (Window PrefetchWindow))) (told (Window IoWindow) is)
            ∙ ap (λ b. is_alike (Window IoWindow) && (b && told_alike one other (Window PrefetchWindow))) (told (Window MemoryWindow) is)
            ∙ ap (λ b. is_alike (Window IoWindow) && (is_alike (Window MemoryWindow) && b)) (told (Window PrefetchWindow) is)
        | inr device ↦
            let off : (c : WindowKind) → is_alike (Window c) ≡ true = λ c.
            off_alike (region (Window c)) (ap (λ b. (b && has_window c f.probe) && not (is_closed c f.image)) device) in
            ap (λ b. not b || windows_alike one other) device
            ∙ sym (ap (λ b. b && (is_alike (Window MemoryWindow) && is_alike (Window PrefetchWindow))) (off IoWindow)
            ∙ ap (λ b. b && is_alike (Window PrefetchWindow)) (off MemoryWindow) ∙ off PrefetchWindow)
      ]

      pub parts_are : (bridge : Bool) → bridge ≡ is_bridge f → parts_alike bridge one other ≡ list_all alike (function_parts q s f)
      parts_are bridge same =
          ap (λ b. parts_alike b one other) same
          ∙ ap (λ b. b && ((not (is_bridge f) || windows_alike one other) && told_alike one other Rom)) bars
          ∙ ap (λ b. list_all is_alike (header_bars f) && (b && told_alike one other Rom)) windows_are
          ∙ ap (λ b. list_all is_alike (header_bars f) && (windows && b)) (told Rom refl)
          ∙ sym (order_of (list_all is_alike (header_bars f)) (is_alike (Window IoWindow)) (is_alike (Window MemoryWindow)) (is_alike (Window PrefetchWindow)) (is_alike Rom))
          ∙ sym (list_all-append is_alike (header_bars f) (Window IoWindow ∷ Window MemoryWindow ∷ Window PrefetchWindow ∷ Rom ∷ []))
          ∙ sym (all_filter (is_part q s f) is_alike (λ part off. off_alike (region part) off) (header_parts f))
          ∙ sym (list_all-map alike region (parts_of q s f))

-- ---- the functions from one on

abbrev pub kept_from : Request → System → (FunctionPart → Bool) → (FunctionPart → Bool) → ℕ → Bool
kept_from q s k j n = list_all (λ r. beq (k r) (j r)) (flat_map (function_parts q s) (drop n s))

module _ (q : Request) (s : System) (k j : FunctionPart → Bool) where
  pub next_function : (n : ℕ) (f : Function) → slice_get s n ≡ Some f
      → kept_from q s k j n ≡ (list_all (λ r. beq (k r) (j r)) (function_parts q s f) && kept_from q s k j (n + 1))
  next_function n f at =
      ap (λ fs. list_all (λ r. beq (k r) (j r)) (flat_map (function_parts q s) fs)) (drop_more s n f (slice_get_within s n f at))
      ∙ ap (λ g. list_all (λ r. beq (k r) (j r)) (flat_map (function_parts q s) (g ∷ drop (n + 1) s))) (get_or_from_slice_get s n f f at)
      ∙ list_all-append (λ r. beq (k r) (j r)) (function_parts q s f) (flat_map (function_parts q s) (drop (n + 1) s))
