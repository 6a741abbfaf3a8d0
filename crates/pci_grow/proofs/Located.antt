-- What is there before any wish: BARs and ROMs as they are listed, and windows as a table tells them.
use Rattle.std.proofs.Common.{◌≡◌, ℕ, suc, ◌+◌, ◌<◌, inl, inr, List, [], ◌∷◌, ◌++◌, map, length, cond, true, false, Bool, ◌&&◌, ◌||◌, not, get_or, arith, ap, sym, refl, ◌∙◌, Option, Some, None}
use Rattle.std.specs.Bool.{◌==◌}
use Rattle.std.specs.Option.{option_map, option_or}
use Rattle.std.specs.List.{Contains, filter, flat_map, sum_by, range_with_len}
use Rattle.std.proofs.lemmas.Bool.{cases_Bool, and_parts, and_from, or_cases, or_right, both_ways, eqb-true, eq-eqb, false_from_ne_true}
use Rattle.std.proofs.lemmas.List.Sums.{sum_by-append, sum_by-cons}
use Rattle.pci_spec.proofs.Members.{in_head, in_tail, in_range_to}
use Rattle.pci_spec.specs.Header.{layout, bar_count}
use Rattle.pci_spec.specs.Window.{WindowKind, IoWindow, MemoryWindow, PrefetchWindow, has_window, is_closed}
use Rattle.pci_spec.specs.Decoded.{Range as DecodedRange}
use Rattle.pci_spec.specs.System.{System, Function, Space, Part, Bar, Rom, Window, is_bridge, is_window, is_implemented, window_space}
use Rattle.pci_spec.specs.Bus.{are_siblings}
use Rattle.settle_spec.specs.Lists.{Request}
use Rattle.settle_spec.specs.Parts.{FunctionPart, are_same_space, header_bars, is_part}
use Rattle.settle_spec.specs.Stands.{part_space, window_part}
use Rattle.settle_spec.specs.Registers.{changing}
use Rattle.settle_spec.specs.Growth.{range_list}
use Rattle.settle_spec.specs.Kept.{Kept}
use Rattle.settle_spec.specs.Wishes.{place_then, range_then, there_then}
use Rattle.pci_base.specs.declared.range.Range.{Range}
use Rattle.pci_base.specs.declared.window_kind.WindowKind.{WindowKind as CodeKind}
use Rattle.pci_base.specs.declared.window_kind.WindowKind.TheVariants as kinds
use Rattle.pci_base.specs.declared.window_kind.ByKind.{ByKind}
use Rattle.pci_base.specs.Ranges.{decoded_range_of}
use Rattle.pci_base.specs.WindowKinds.{kind_value}
use Rattle.pci_place.specs.Items.{function_in, no_function}
use Rattle.pci_grow.specs.declared.board.BridgeWindow.{BridgeWindow}
use Rattle.pci_grow.specs.declared.fill.Located.{Located}
use Rattle.pci_grow.specs.RoomRows.{bus_level, row_number}
use Rattle.pci_first_fit.specs.Tables.{told}
use Rattle.pci_grow.specs.Board.{IsWindow}
use Rattle.pci_grow.specs.Located.{located_total, told_weight, window_weight, function_weight, windows_total, own_then, AreOwn, AreWindowsThen}
use Rattle.pci_grow.proofs.SpareTold.{same_row, other_row}

-- ---- sums

module _ {X : Type 0} (f g : X → ℕ) where
  pub same_sums : (xs : List X) → ((x : X) → Contains xs x → f x ≡ g x) → sum_by f xs ≡ sum_by g xs
  same_sums [] same = refl
  same_sums (x ∷ xs) same =
      let a = sum_by-cons f x xs in
      let b = sum_by-cons g x xs in
      let here = same x (in_head x xs) in
      let rest = same_sums xs (λ y listed. same y (in_tail x xs y listed)) in
      omega (arith, a, b, here, rest)

module _ {X : Type 0} (f g h : X → ℕ) where
  sums_add : (xs : List X) → ((x : X) → f x ≡ g x + h x) → sum_by f xs ≡ sum_by g xs + sum_by h xs
  sums_add [] same = refl
  sums_add (x ∷ xs) same =
      let a = sum_by-cons f x xs in
      let b = sum_by-cons g x xs in
      let d = sum_by-cons h x xs in
      let here = same x in
      let rest = sums_add xs same in
      omega (arith, a, b, d, here, rest)

module _ {X Y : Type 0} (f : Y → ℕ) (h : X → Y) where
  pub sum_map : (xs : List X) → sum_by f (map h xs) ≡ sum_by (λ x. f (h x)) xs
  sum_map [] = refl
  sum_map (x ∷ xs) =
      let a = sum_by-cons f (h x) (map h xs) in
      let b = sum_by-cons (λ x. f (h x)) x xs in
      let rest = sum_map xs in
      omega (arith, a, b, rest)

module _ {X Y : Type 0} (f : Y → ℕ) (h : X → List Y) where
  pub sum_flat : (xs : List X) → sum_by f (flat_map h xs) ≡ sum_by (λ x. sum_by f (h x)) xs
  sum_flat [] = refl
  sum_flat (x ∷ xs) =
      let a = sum_by-append f (h x) (flat_map h xs) in
      let b = sum_by-cons (λ x. sum_by f (h x)) x xs in
      let rest = sum_flat xs in
      omega (arith, a, b, rest)

module _ {X : Type 0} (f : X → ℕ) (test : X → Bool) where
  pub sum_filter : (xs : List X) → sum_by f (filter test xs) ≡ sum_by (λ x. cond (test x) (f x) 0) xs
  sum_filter [] = refl
  sum_filter (x ∷ xs) =
      let b = sum_by-cons (λ x. cond (test x) (f x) 0) x xs in
      let rest = sum_filter xs in
      elim (cases_Bool (test x)) [
        | inl yes_it ↦
            let a = sum_by-cons f x (filter test xs) in
            let here = ap {B = ℕ} (λ t. cond t (f x) 0) yes_it in
            let whole = ap {B = ℕ} (λ t. sum_by f (cond t (x ∷ filter test xs) (filter test xs))) yes_it in
            omega (arith, a, b, rest, here, whole)
        | inr not_it ↦
            let here = ap {B = ℕ} (λ t. cond t (f x) 0) not_it in
            let whole = ap {B = ℕ} (λ t. sum_by f (cond t (x ∷ filter test xs) (filter test xs))) not_it in
            omega (arith, b, rest, here, whole)
      ]

sum_none : {X : Type 0} (f : X → ℕ) (xs : List X) → ((x : X) → f x ≡ 0) → sum_by f xs ≡ 0
sum_none f [] none = refl
sum_none f (x ∷ xs) none =
    let a = sum_by-cons f x xs in
    let here = none x in
    let rest = sum_none f xs none in
    omega (arith, a, here, rest)

-- of a list by its indices
pub sum_indices : (f : Function → ℕ) (xs : List Function) (low : ℕ) (at : ℕ → Function) → ((i : ℕ) → i < length xs → at (low + i) ≡ get_or xs i no_function) → sum_by (λ k. f (at k)) (range_with_len low (length xs)) ≡ sum_by f xs
sum_indices f [] low at same = refl
sum_indices f (x ∷ xs) low at same =
    let a = sum_by-cons (λ k. f (at k)) low (range_with_len (low + 1) (length xs)) in
    let b = sum_by-cons f x xs in
    let more : low ≡ low + 0 = omega arith in
    let first : at low ≡ x = ap at more ∙ same 0 (omega arith) in
    let here = ap f first in
    let rest = sum_indices f xs (low + 1) at (λ i within. (let step : low + 1 + i ≡ low + suc i = omega arith in ap at step ∙ same (suc i) (omega (arith, within)))) in
    omega (arith, a, b, here, rest)

and_false : (b : Bool) → (b && false) ≡ false
and_false true = refl
and_false false = refl

and_true : (b : Bool) → (b && true) ≡ b
and_true true = refl
and_true false = refl

pub if_zero : (b : Bool) (m : ℕ) → m ≡ 0 → cond b m 0 ≡ 0
if_zero true m is = is
if_zero false m is = refl

-- a test and another one, or without it
split_if : (t w : Bool) (v : ℕ) → cond t v 0 ≡ cond (t && not w) v 0 + cond (t && w) v 0
split_if true true v = omega arith
split_if true false v = omega arith
split_if false w v = omega arith

-- ---- of a system before any wish

module _ (q : Request) (s : System) (k : Kept) (table : List (ByKind (Option Range))) (tells : AreWindowsThen q s k table)
    (weight : DecodedRange → ℕ) (space : Space) (bus : ℕ) where
  abbrev n : ℕ
  n = row_number (bus_level q.roots bus) space

  abbrev is_on : FunctionPart → Bool
  is_on r = are_siblings q.roots bus r.function.slot.bus && are_same_space space (part_space r)

  -- what a part weighs
  abbrev heavy : FunctionPart → ℕ
  heavy r = sum_by weight (range_list (place_then q s k r))

  range_is : (r : FunctionPart) → range_then q s k r ≡ place_then q s k r
  range_is r = ap (λ o. option_or o (place_then q s k r)) (tells.unwished r)

  -- all of it, part by part
  picked : (test : FunctionPart → Bool) (rs : List FunctionPart) → sum_by weight (flat_map (λ r. range_list (place_then q s k r)) (filter test rs)) ≡ sum_by (λ r. cond (test r) (heavy r) 0) rs
  picked test rs = sum_flat weight (λ r. range_list (place_then q s k r)) (filter test rs) ∙ sum_filter heavy test rs

  abbrev of_windows : FunctionPart → ℕ
  of_windows r = cond (is_on r && is_window r.part) (heavy r) 0

  parts_are : sum_by weight (there_then q s k space bus) ≡ sum_by weight (own_then q s k space bus) + sum_by of_windows (flat_map (changing q s) s)
  parts_are =
      sum_flat weight (λ r. range_list (range_then q s k r)) (filter is_on (flat_map (changing q s) s))
      ∙ same_sums (λ r. sum_by weight (range_list (range_then q s k r))) heavy (filter is_on (flat_map (changing q s) s)) (λ r listed. ap (λ o. sum_by weight (range_list o)) (range_is r))
      ∙ sum_filter heavy is_on (flat_map (changing q s) s)
      ∙ sums_add (λ r. cond (is_on r) (heavy r) 0) (λ r. cond (is_on r && not (is_window r.part)) (heavy r) 0) of_windows (flat_map (changing q s) s) (λ r. split_if (is_on r) (is_window r.part) (heavy r))
      ∙ ap (λ m. m + sum_by of_windows (flat_map (changing q s) s)) (sym (picked (λ r. is_on r && not (is_window r.part)) (flat_map (changing q s) s)))

  -- ---- the windows of a function

  module _ (i : ℕ) (within : i < length s) where
    abbrev f : Function
    f = function_in s i

    abbrev region : Part → FunctionPart
    region p = record { function = f; part = p }

    abbrev can_change : Part → Bool
    can_change p = is_part q s f p || (is_window p && is_implemented f p)

    abbrev counted : Part → ℕ
    counted p = cond (can_change p) (of_windows (region p)) 0

    not_window : (p : Part) → is_window p ≡ false → counted p ≡ 0
    not_window p other =
        if_zero (can_change p) (of_windows (region p))
        (ap (λ x. cond (is_on (region p) && x) (heavy (region p)) 0) other ∙ ap (λ b. cond b (heavy (region p)) 0) (and_false (is_on (region p))))

    module _ (class : CodeKind) where
      abbrev w : BridgeWindow
      w = record { bridge = i; class = class }

      abbrev c : WindowKind
      c = kind_value class

      abbrev on : Bool
      on = are_siblings q.roots bus f.slot.bus && are_same_space space (window_space c)

      abbrev row : ℕ
      row = row_number (bus_level q.roots f.slot.bus) (window_space c)

      on_is : on ≡ (row == n)
      on_is = elim (cases_Bool on) [
        | inl is ↦ is ∙ sym (eq-eqb row n (sym (same_row q.roots bus f.slot.bus space (window_space c) is)))
        | inr off ↦ off ∙ sym (false_from_ne_true (row == n) (λ e. other_row q.roots bus f.slot.bus space (window_space c) off (sym (eqb-true row n e))))
      ]

      -- a window that can't change has no addresses
      cannot : can_change (Window c) ≡ false → told table i class ≡ None
      cannot off = elim (cases_Bool (is_bridge f)) [
        | inl bridge ↦ by (told table i class) refl bridge
        | inr device ↦ tells.devices w within device
      ]
        where
          by : (o : Option Range) → told table i class ≡ o → is_bridge f ≡ true → o ≡ None
          by None e bridge = refl
          by (Some r) e bridge =
              let window : IsWindow s w = record { within = within; bridge = bridge } in
              let has = tells.there w window (decoded_range_of r) (sym (tells.windows w window) ∙ ap (option_map decoded_range_of) e) in
              absurd (both_ways (can_change (Window c)) off (or_right (is_part q s f (Window c)) (true && (is_bridge f && has_window c f.probe)) (and_from (is_bridge f) (has_window c f.probe) bridge has)))

      -- one that can is of a bridge
      can_bridge : can_change (Window c) ≡ true → is_bridge f ≡ true
      can_bridge can = elim (or_cases (is_part q s f (Window c)) (true && (is_bridge f && has_window c f.probe)) can) [
        | inl open_one ↦ (and_parts (is_bridge f) (has_window c f.probe) (and_parts (is_bridge f && has_window c f.probe) (not (is_closed c f.image)) open_one).0).0
        | inr is_there ↦ (and_parts (is_bridge f) (has_window c f.probe) (and_parts true (is_bridge f && has_window c f.probe) is_there).1).0
      ]

      heavy_is : (o : Option Range) → option_map decoded_range_of o ≡ place_then q s k (window_part c f) → cond (on && true) (heavy (region (Window c))) 0 ≡ told_weight weight row n o
      heavy_is None e =
          let none : heavy (region (Window c)) ≡ 0 = ap (λ o. sum_by weight (range_list o)) (sym e) in
          if_zero (on && true) (heavy (region (Window c))) none
      heavy_is (Some r) e =
          let one : heavy (region (Window c)) ≡ 0 + weight (decoded_range_of r) = ap (λ o. sum_by weight (range_list o)) (sym e) in
          let plain : heavy (region (Window c)) ≡ weight (decoded_range_of r) = omega (arith, one) in
          ap (λ m. cond (on && true) m 0) plain ∙ ap (λ b. cond b (weight (decoded_range_of r)) 0) (and_true on ∙ on_is)

      pub window_is : counted (Window c) ≡ window_weight q.roots s table weight n w
      window_is = elim (cases_Bool (can_change (Window c))) [
        | inl can ↦
            let window : IsWindow s w = record { within = within; bridge = can_bridge can } in
            ap (λ b. cond b (cond (on && true) (heavy (region (Window c))) 0) 0) can ∙ heavy_is (told table i class) (tells.windows w window)
        | inr off ↦
            ap (λ b. cond b (cond (on && true) (heavy (region (Window c))) 0) 0) off ∙ sym (ap (told_weight weight row n) (cannot off))
      ]

    function_is : sum_by of_windows (changing q s f) ≡ function_weight q.roots s table weight n i
    function_is =
        let bars = header_bars f in
        let rest : List Part = Window IoWindow ∷ Window MemoryWindow ∷ Window PrefetchWindow ∷ Rom ∷ [] in
        let all = sum_map of_windows region (filter can_change (bars ++ rest)) in
        let kept = sum_filter (λ p. of_windows (region p)) can_change (bars ++ rest) in
        let both = sum_by-append counted bars rest in
        let none : sum_by counted bars ≡ 0 = sum_map counted Bar (range_with_len 0 (bar_count (layout f.image))) ∙ sum_none (λ n. counted (Bar n)) (range_with_len 0 (bar_count (layout f.image))) (λ n. not_window (Bar n) refl) in
        let io = window_is kinds.Io in
        let memory = window_is kinds.Memory in
        let prefetch = window_is kinds.Prefetchable in
        let rom = not_window Rom refl in
        let four : sum_by counted rest ≡ 0 + counted (Window IoWindow) + counted (Window MemoryWindow) + counted (Window PrefetchWindow) + counted Rom = refl in
        omega (arith, all, kept, both, none, io, memory, prefetch, rom, four)

  windows_are : sum_by of_windows (flat_map (changing q s) s) ≡ windows_total q.roots s table weight n (length s)
  windows_are =
      sum_flat of_windows (changing q s) s
      ∙ sym (sum_indices (λ f. sum_by of_windows (changing q s f)) s 0 (function_in s) (λ i within. (let e : 0 + i ≡ i = omega arith in ap (λ j. get_or s j no_function) e)))
      ∙ same_sums (λ i. sum_by of_windows (changing q s (function_in s i))) (function_weight q.roots s table weight n) (range_with_len 0 (length s))
      (λ i listed. let below = (in_range_to 0 (length s) i listed).1 in function_is i (omega (arith, below)))

  -- BARs and ROMs, and windows, are all that is there
  pub located_are : (own parts : List Located) → AreOwn q s k own → bus < 256 → located_total q.roots weight n parts ≡ windows_total q.roots s table weight n (length s)
      → sum_by weight (there_then q s k space bus) ≡ located_total q.roots weight n own + located_total q.roots weight n parts
  located_are own parts are small told_windows =
      let all = parts_are in
      let own_is = are space bus small weight in
      let windows_is = windows_are in
      omega (arith, all, own_is, windows_is, told_windows)
