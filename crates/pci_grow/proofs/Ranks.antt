-- What can change in a system stands by rising slots and registers, so a rank is that of one part.
use Rattle.std.proofs.Common.{◌≡◌, ℕ, zero, suc, ◌+◌, ◌*◌, ◌<◌, ◌≤◌, inl, inr, List, [], ◌∷◌, Bool, true, false, cond, ◌&&◌, ◌||◌, not, arith, sym, ap, subst, ◌∙◌, get_or}
use Rattle.std.specs.Bool.{◌==◌}
use Rattle.std.specs.List.{Contains, AllPairs, filter, flat_map, range_with_len}
use Rattle.std.proofs.lemmas.Bool.{cases_Bool, cases_lt, and_parts, and_from, or_cases, or_right}
use Rattle.std.proofs.lemmas.List.{get_or_default}
use Rattle.std.proofs.lemmas.List.Elements.{filter-append, Contains-append_cases, Contains-append_right}
use Rattle.pci_spec.proofs.Regions.{bar_count-le}
use Rattle.pci_spec.specs.Slot.{slot_number}
use Rattle.pci_spec.specs.Header.{layout, bar_count, bar_register, rom_register}
use Rattle.pci_spec.specs.Window.{WindowKind, IoWindow, MemoryWindow, PrefetchWindow, has_window, is_closed, window_register}
use Rattle.pci_spec.specs.System.{System, Function, Part, Bar, Rom, Window, IsSystem, is_bridge, is_window, is_implemented, register_of}
use Rattle.pci_spec.proofs.Members.{in_head, in_tail, in_filter_to, in_filter_from, in_map_to, in_map_from, in_flat_map_from, in_range_to, IsMade, pairs_append, pairs_map, pairs_filter, pairs_range, pairs_flat_map}
use Rattle.plan_spec.proofs.Planning.AllItems.{slots_rise}
use Rattle.settle_spec.specs.Lists.{Request}
use Rattle.settle_spec.specs.Parts.{FunctionPart, header_bars, header_parts, is_part}
use Rattle.settle_spec.specs.Stands.{rank, window_part}
use Rattle.settle_spec.specs.Registers.{changing}

window_low : (c : WindowKind) → 0x1c ≤ window_register c
window_low IoWindow = omega arith
window_low MemoryWindow = omega arith
window_low PrefetchWindow = omega arith

bar_below_rom : (kind n : ℕ) → n < bar_count kind → bar_register n < rom_register kind
bar_below_rom kind n less = elim (cases_Bool (kind == 1)) [
  | inl bridge ↦ (let a : bar_count kind ≡ 2 = ap (λ b. cond b 2 6) bridge in let r : rom_register kind ≡ 0x38 = ap (λ b. cond b 0x38 0x30) bridge in omega (arith, less, a, r))
  | inr device ↦ (let a : bar_count kind ≡ 6 = ap (λ b. cond b 2 6) device in let r : rom_register kind ≡ 0x30 = ap (λ b. cond b 0x38 0x30) device in omega (arith, less, a, r))
]

rom_between : (kind : ℕ) → (0x30 ≤ rom_register kind) × (rom_register kind ≤ 0x38)
rom_between kind = elim (kind == 1) as (λ b. (0x30 ≤ cond b 0x38 0x30) × (cond b 0x38 0x30 ≤ 0x38)) [ true ↦ (omega arith, omega arith) | false ↦ (omega arith, omega arith) ]

module _ (q : Request) (s : System) (f : Function) where
  abbrev registers : Part → Part → Type 0
  registers p o = register_of f p < register_of f o

  abbrev can_change : Part → Bool
  can_change p = is_part q s f p || (is_window p && is_implemented f p)

  abbrev others : List Part
  others = Window IoWindow ∷ Window MemoryWindow ∷ Window PrefetchWindow ∷ Rom ∷ []

  bars_rise : AllPairs registers (header_bars f)
  bars_rise = pairs_map registers Bar (range_with_len 0 (bar_count (layout f.image)))
      (λ i j d up inside. let less = pairs_range 0 (bar_count (layout f.image)) i j d up inside in omega (arith, less))

  others_rise : AllPairs registers others
  others_rise i zero d up inside = absurd (let no : ⊥ = omega (arith, up) in no)
  others_rise zero (suc zero) d up inside = omega arith
  others_rise zero (suc (suc zero)) d up inside = omega arith
  others_rise zero (suc (suc (suc zero))) d up inside = (let low = (rom_between (layout f.image)).0 in omega (arith, low))
  others_rise (suc i) (suc zero) d up inside = absurd (let no : ⊥ = omega (arith, up) in no)
  others_rise (suc zero) (suc (suc zero)) d up inside = omega arith
  others_rise (suc zero) (suc (suc (suc zero))) d up inside = (let low = (rom_between (layout f.image)).0 in omega (arith, low))
  others_rise (suc (suc i)) (suc (suc zero)) d up inside = absurd (let no : ⊥ = omega (arith, up) in no)
  others_rise (suc (suc zero)) (suc (suc (suc zero))) d up inside = (let low = (rom_between (layout f.image)).0 in omega (arith, low))
  others_rise (suc (suc (suc i))) (suc (suc (suc zero))) d up inside = absurd (let no : ⊥ = omega (arith, up) in no)
  others_rise i (suc (suc (suc (suc j)))) d up inside = absurd (let no : ⊥ = omega (arith, inside) in no)

  -- a BAR is before a part that is no BAR
  bar_first : (n : ℕ) → n < bar_count (layout f.image) → (o : Part) → Contains others o → can_change o ≡ true → bar_register n < register_of f o
  bar_first n less (Bar m) listed is = absurd (no_bar listed)
    where
      no_bar : Contains others (Bar m) → ⊥
      no_bar (zero, within, at) = cc
      no_bar (suc zero, within, at) = cc
      no_bar (suc (suc zero), within, at) = cc
      no_bar (suc (suc (suc zero)), within, at) = cc
      no_bar (suc (suc (suc (suc k))), within, at) = omega (arith, within)
  bar_first n less Rom listed is = bar_below_rom (layout f.image) n less
  bar_first n less (Window c) listed is =
      let bridge : is_bridge f ≡ true = elim (or_cases (is_part q s f (Window c)) (true && (is_bridge f && has_window c f.probe)) is) [
        | inl open_one ↦ (and_parts (is_bridge f) (has_window c f.probe) (and_parts (is_bridge f && has_window c f.probe) (not (is_closed c f.image)) open_one).0).0
        | inr there ↦ (and_parts (is_bridge f) (has_window c f.probe) (and_parts true (is_bridge f && has_window c f.probe) there).1).0
      ] in
      let few : bar_count (layout f.image) ≡ 2 = ap (λ b. cond b 2 6) bridge in
      let low = window_low c in
      omega (arith, less, few, low)

  parts_rise : AllPairs registers (filter can_change (header_parts f))
  parts_rise =
      subst (AllPairs registers) (sym (filter-append can_change (header_bars f) others))
      (pairs_append registers (filter can_change (header_bars f)) (filter can_change others)
      (pairs_filter registers can_change (header_bars f) bars_rise) (pairs_filter registers can_change others others_rise)
      (λ p o at_p at_o.
      let bar = in_filter_to can_change (header_bars f) p at_p in
      let made : IsMade Bar (range_with_len 0 (bar_count (layout f.image))) p = in_map_to Bar (range_with_len 0 (bar_count (layout f.image))) p bar.0 in
      let low = (in_range_to 0 (bar_count (layout f.image)) made.from made.has).1 in
      let other = in_filter_to can_change others o at_o in
      subst (λ x. register_of f x < register_of f o) made.is (bar_first made.from (omega (arith, low)) o other.0 other.1)))

  others_low : (o : Part) → Contains others o → register_of f o < 64
  others_low o (zero, within, at) = subst (λ p. register_of f p < 64) at (omega arith)
  others_low o (suc zero, within, at) = subst (λ p. register_of f p < 64) at (omega arith)
  others_low o (suc (suc zero), within, at) = subst (λ p. register_of f p < 64) at (omega arith)
  others_low o (suc (suc (suc zero)), within, at) = subst (λ p. register_of f p < 64) at (let high = (rom_between (layout f.image)).1 in omega (arith, high))
  others_low o (suc (suc (suc (suc k))), within, at) = absurd (let no : ⊥ = omega (arith, within) in no)

  part_low : (o : Part) → Contains (filter can_change (header_parts f)) o → register_of f o < 64
  part_low o has = elim (Contains-append_cases (header_bars f) others o (in_filter_to can_change (header_parts f) o has).0) [
    | inl at_bar ↦
        let made : IsMade Bar (range_with_len 0 (bar_count (layout f.image))) o = in_map_to Bar (range_with_len 0 (bar_count (layout f.image))) o at_bar in
        let low = (in_range_to 0 (bar_count (layout f.image)) made.from made.has).1 in
        let few = bar_count-le (layout f.image) in
        subst (λ p. register_of f p < 64) made.is (let less : bar_register made.from < 64 = omega (arith, low, few) in less)
    | inr at_other ↦ others_low o at_other
  ]

  abbrev region : Part → FunctionPart
  region p = record { function = f; part = p }

  pub own_rise : AllPairs (λ r t. rank r < rank t) (changing q s f)
  own_rise = pairs_map (λ r t. rank r < rank t) region (filter can_change (header_parts f))
      (λ i j d up inside. let less = parts_rise i j d up inside in omega (arith, less))

  -- the parts of a function have the ranks of its slot
  pub in_slot : (r : FunctionPart) → Contains (changing q s f) r → (slot_number f.slot * 256 ≤ rank r) × (rank r < slot_number f.slot * 256 + 64)
  in_slot r has =
      let made : IsMade region (filter can_change (header_parts f)) r = in_map_to region (filter can_change (header_parts f)) r has in
      let low = part_low made.from made.has in
      subst (λ t. (slot_number f.slot * 256 ≤ rank t) × (rank t < slot_number f.slot * 256 + 64)) made.is (omega (arith, low), omega (arith, low))

  in_others : (c : WindowKind) → Contains others (Window c)
  in_others IoWindow = in_head (Window IoWindow) (Window MemoryWindow ∷ Window PrefetchWindow ∷ Rom ∷ [])
  in_others MemoryWindow = in_tail (Window IoWindow) (Window MemoryWindow ∷ Window PrefetchWindow ∷ Rom ∷ []) (Window MemoryWindow) (in_head (Window MemoryWindow) (Window PrefetchWindow ∷ Rom ∷ []))
  in_others PrefetchWindow = in_tail (Window IoWindow) (Window MemoryWindow ∷ Window PrefetchWindow ∷ Rom ∷ []) (Window PrefetchWindow)
      (in_tail (Window MemoryWindow) (Window PrefetchWindow ∷ Rom ∷ []) (Window PrefetchWindow) (in_head (Window PrefetchWindow) (Rom ∷ [])))

  -- a window that is there can change
  pub window_changes : (c : WindowKind) → is_bridge f ≡ true → has_window c f.probe ≡ true → Contains (changing q s f) (window_part c f)
  window_changes c bridge there =
      in_map_from region (filter can_change (header_parts f)) (Window c)
      (in_filter_from can_change (header_parts f) (Window c) (Contains-append_right (header_bars f) others (Window c) (in_others c))
      (or_right (is_part q s f (Window c)) (true && (is_bridge f && has_window c f.probe)) (and_from (is_bridge f) (has_window c f.probe) bridge there)))

-- all that can change
abbrev pub all_changing : Request → System → List FunctionPart
all_changing q s = flat_map (changing q s) s

pub ranks_rise : (q : Request) (s : System) → IsSystem s → AllPairs (λ r t. rank r < rank t) (all_changing q s)
ranks_rise q s system =
    pairs_flat_map (λ (f g : Function). slot_number f.slot < slot_number g.slot) (λ r t. rank r < rank t) (changing q s) s (slots_rise s system)
    (λ f listed. own_rise q s f)
    (λ f g r t in_f in_g less at_r at_t.
    let below = (in_slot q s f r at_r).1 in
    let above = (in_slot q s g t at_t).0 in
    omega (arith, less, below, above))

pub window_in_all : (q : Request) (s : System) (b : Function) (c : WindowKind) → Contains s b → is_bridge b ≡ true → has_window c b.probe ≡ true → Contains (all_changing q s) (window_part c b)
window_in_all q s b c listed bridge there = in_flat_map_from (changing q s) s b (window_part c b) listed (window_changes q s b c bridge there)

-- of parts by rising ranks two with one rank are one
pub one_of_rank : (all : List FunctionPart) → AllPairs (λ r t. rank r < rank t) all → (r t : FunctionPart) → Contains all r → Contains all t → rank r ≡ rank t → r ≡ t
one_of_rank all rise r t (i, in_i, at_i) (j, in_j, at_j) same =
    let here_i = ap rank at_i in
    let here_j : rank (get_or all j r) ≡ rank t = ap rank (get_or_default all j r t in_j ∙ at_j) in
    elim (cases_lt i j) [
      | inl less ↦ absurd (let low : rank (get_or all i r) < rank (get_or all j r) = rise i j r less in_j in let no : ⊥ = omega (arith, low, here_i, here_j, same) in no)
      | inr rest ↦ elim (cases_lt j i) [
        | inl less ↦ absurd (let low : rank (get_or all j r) < rank (get_or all i r) = rise j i r less in_i in let no : ⊥ = omega (arith, low, here_i, here_j, same) in no)
        | inr more ↦
            let one : i ≡ j = omega (arith, rest, more) in
            sym at_i ∙ ap (λ n. get_or all n r) one ∙ get_or_default all j r t in_j ∙ at_j
      ]
    ]
