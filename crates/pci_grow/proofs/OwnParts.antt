-- The BARs and ROMs that are there before any wish, function by function.
use Rattle.std.proofs.Common.{◌≡◌, ℕ, ◌+◌, ◌<◌, inl, inr, List, [], ◌∷◌, ◌++◌, length, cond, true, false, Bool, ◌&&◌, ◌||◌, not, get_or, arith, ap, sym, refl, ◌∙◌, Option, Some, None}
use Rattle.std.specs.Bool.{◌==◌}
use Rattle.std.specs.Option.{option_map}
use Rattle.std.specs.List.{filter, flat_map, sum_by, range_with_len}
use Rattle.std.proofs.lemmas.Bool.{cases_Bool, eqb-true, eq-eqb, false_from_ne_true, lt-ltb}
use Rattle.std.proofs.lemmas.List.Sums.{sum_by-append}
use Rattle.pci_spec.proofs.Members.{in_range_to}
use Rattle.pci_spec.specs.Header.{layout, bar_count}
use Rattle.pci_spec.specs.Window.{IoWindow, MemoryWindow, PrefetchWindow}
use Rattle.pci_spec.specs.Decoded.{Range as DecodedRange}
use Rattle.pci_spec.specs.System.{System, Function, Space, Part, Bar, Rom, Window, is_window, is_implemented, has_part, space_of}
use Rattle.pci_spec.specs.Bus.{are_siblings}
use Rattle.settle_spec.specs.Lists.{Request}
use Rattle.settle_spec.specs.Parts.{FunctionPart, are_same_space, header_bars, is_part}
use Rattle.settle_spec.specs.Stands.{part_space}
use Rattle.settle_spec.specs.Registers.{changing}
use Rattle.settle_spec.specs.Growth.{range_list}
use Rattle.settle_spec.specs.Kept.{Kept}
use Rattle.settle_spec.specs.Wishes.{place_then}
use Rattle.pci_base.specs.declared.range.Range.{Range}
use Rattle.pci_base.specs.Ranges.{decoded_range_of}
use Rattle.pci_place.specs.Items.{function_in, no_function}
use Rattle.pci_grow.specs.RoomRows.{bus_level, row_number}
use Rattle.pci_grow.specs.Located.{told_weight, own_then}
use Rattle.pci_grow.proofs.SpareTold.{same_row, other_row}
use Rattle.pci_grow.proofs.Located.{same_sums, sum_map, sum_flat, sum_filter, sum_indices, if_zero}

-- a part of a function is told where it is before any wish; it is no window, and what isn't looked at is nowhere
pub record IsToldThen (q : Request) (s : System) (k : Kept) (r : FunctionPart) (at : Option Range) : Type 0 where
  pub then_is : option_map decoded_range_of at ≡ place_then q s k r
  pub looked_at : (x : DecodedRange) → place_then q s k r ≡ Some x → is_part q s r.function r.part ≡ true

none_at : (o : Option Range) → option_map decoded_range_of o ≡ None → o ≡ None
none_at None e = refl
none_at (Some r) e = cc

module _ (q : Request) (s : System) (k : Kept) (weight : DecodedRange → ℕ) (space : Space) (bus : ℕ) where
  abbrev n : ℕ
  n = row_number (bus_level q.roots bus) space

  abbrev is_own_on : FunctionPart → Bool
  is_own_on r =
      are_siblings q.roots bus r.function.slot.bus && are_same_space space (part_space r) && not (is_window r.part)

  abbrev heavy : FunctionPart → ℕ
  heavy r = sum_by weight (range_list (place_then q s k r))

  abbrev pub own_weight : FunctionPart → ℕ
  own_weight r = cond (is_own_on r) (heavy r) 0

  module _ (f : Function) where
    abbrev region : Part → FunctionPart
    region p = record { function = f; part = p }

    -- what a part weighs that is told to be somewhere
    abbrev pub told_own : Part → Option Range → ℕ
    told_own p at = told_weight weight (row_number (bus_level q.roots f.slot.bus) (space_of f p)) n at

    abbrev can_change : Part → Bool
    can_change p = is_part q s f p || (is_window p && is_implemented f p)

    abbrev counted : Part → ℕ
    counted p = cond (can_change p) (own_weight (region p)) 0

    abbrev on : Part → Bool
    on p = are_siblings q.roots bus f.slot.bus && are_same_space space (space_of f p)

    abbrev row : Part → ℕ
    row p = row_number (bus_level q.roots f.slot.bus) (space_of f p)

    on_is : (p : Part) → on p ≡ (row p == n)
    on_is p = elim (cases_Bool (on p)) [
      | inl is ↦ is ∙ sym (eq-eqb (row p) n (sym (same_row q.roots bus f.slot.bus space (space_of f p) is)))
      | inr off ↦ off ∙ sym (false_from_ne_true (row p == n) (λ e. other_row q.roots bus f.slot.bus space (space_of f p) off (sym (eqb-true (row p) n e))))
    ]

    and_three : (a b : Bool) → (a && b && not false) ≡ (a && b)
    and_three true true = refl
    and_three true false = refl
    and_three false b = refl

    no_window : (p : Part) → is_window p ≡ true → counted p ≡ 0
    no_window p window =
        if_zero (can_change p) (own_weight (region p))
        (ap (λ x. cond (are_siblings q.roots bus f.slot.bus && are_same_space space (space_of f p) && not x) (heavy (region p)) 0) window
        ∙ ap (λ b. cond b (heavy (region p)) 0) (off (are_siblings q.roots bus f.slot.bus) (are_same_space space (space_of f p))))
      where
        off : (a b : Bool) → (a && b && not true) ≡ false
        off true true = refl
        off true false = refl
        off false b = refl

    own_is : (p : Part) → is_window p ≡ false → (at : Option Range) → IsToldThen q s k (region p) at → counted p ≡ told_own p at
    own_is p plain at told_then = by (place_then q s k (region p)) refl at told_then.then_is
      where
        by : (o : Option DecodedRange) → place_then q s k (region p) ≡ o → (a : Option Range) → option_map decoded_range_of a ≡ place_then q s k (region p) → counted p ≡ told_own p a
        by None e a is =
            let none : heavy (region p) ≡ 0 = ap (λ o. sum_by weight (range_list o)) e in
            if_zero (can_change p) (own_weight (region p)) (if_zero (is_own_on (region p)) (heavy (region p)) none)
            ∙ sym (ap (told_own p) (none_at a (is ∙ e)))
        by (Some x) e None is = absurd (let no : None ≡ Some x = is ∙ e in let end : ⊥ = cc in end)
        by (Some x) e (Some r) is =
            let one : heavy (region p) ≡ 0 + weight (decoded_range_of r) = ap (λ o. sum_by weight (range_list o)) (sym is) in
            let simple : heavy (region p) ≡ weight (decoded_range_of r) = omega (arith, one) in
            ap (λ b. cond (b || (is_window p && is_implemented f p)) (own_weight (region p)) 0) (told_then.looked_at x e)
            ∙ ap (λ x. cond (are_siblings q.roots bus f.slot.bus && are_same_space space (space_of f p) && not x) (heavy (region p)) 0) plain
            ∙ ap (λ m. cond (are_siblings q.roots bus f.slot.bus && are_same_space space (space_of f p) && not false) m 0) simple
            ∙ ap (λ b. cond b (weight (decoded_range_of r)) 0) (and_three (are_siblings q.roots bus f.slot.bus) (are_same_space space (space_of f p)) ∙ on_is p)

    -- the BARs and the ROM of a function
    pub function_own : (at : Part → Option Range) → ((p : Part) → is_window p ≡ false → has_part f p ≡ true → IsToldThen q s k (region p) (at p))
        → sum_by own_weight (changing q s f) ≡ sum_by (λ b. told_own (Bar b) (at (Bar b))) (range_with_len 0 (bar_count (layout f.image))) + told_own Rom (at Rom)
    function_own at told_all =
        let bars = header_bars f in
        let numbers = range_with_len 0 (bar_count (layout f.image)) in
        let rest : List Part = Window IoWindow ∷ Window MemoryWindow ∷ Window PrefetchWindow ∷ Rom ∷ [] in
        let all = sum_map own_weight region (filter can_change (bars ++ rest)) in
        let kept = sum_filter (λ p. own_weight (region p)) can_change (bars ++ rest) in
        let both = sum_by-append counted bars rest in
        let each : sum_by counted bars ≡ sum_by (λ b. told_own (Bar b) (at (Bar b))) numbers =
        sum_map counted Bar numbers
        ∙ same_sums (λ b. counted (Bar b)) (λ b. told_own (Bar b) (at (Bar b))) numbers (λ b listed.
        let low = (in_range_to 0 (bar_count (layout f.image)) b listed).1 in
        own_is (Bar b) refl (at (Bar b)) (told_all (Bar b) refl (lt-ltb b (bar_count (layout f.image)) (omega (arith, low))))) in
        let io = no_window (Window IoWindow) refl in
        let memory = no_window (Window MemoryWindow) refl in
        let prefetch = no_window (Window PrefetchWindow) refl in
        let rom = own_is Rom refl (at Rom) (told_all Rom refl refl) in
        let four : sum_by counted rest ≡ 0 + counted (Window IoWindow) + counted (Window MemoryWindow) + counted (Window PrefetchWindow) + counted Rom = refl in
        omega (arith, all, kept, both, each, io, memory, prefetch, rom, four)

  -- those of all functions
  pub all_own : (per : ℕ → ℕ) → ((i : ℕ) → i < length s → sum_by own_weight (changing q s (function_in s i)) ≡ per i)
      → sum_by per (range_with_len 0 (length s)) ≡ sum_by weight (own_then q s k space bus)
  all_own per each =
      sym (sum_flat weight (λ r. range_list (place_then q s k r)) (filter is_own_on (flat_map (changing q s) s))
      ∙ sum_filter heavy is_own_on (flat_map (changing q s) s)
      ∙ sum_flat own_weight (changing q s) s
      ∙ sym (sum_indices (λ f. sum_by own_weight (changing q s f)) s 0 (function_in s) (λ i within. (let e : 0 + i ≡ i = omega arith in ap (λ j. get_or s j no_function) e)))
      ∙ same_sums (λ i. sum_by own_weight (changing q s (function_in s i))) per (range_with_len 0 (length s))
      (λ i listed. let below = (in_range_to 0 (length s) i listed).1 in each i (omega (arith, below))))
