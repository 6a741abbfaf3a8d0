-- Between two states a window of a bridge holds no more than that of the start, while it is closed, or of the end, while it is set.
use Rattle.std.proofs.Common.{◌≡◌, ℕ, ◌+◌, ◌<◌, ◌≤◌, ◌⊎◌, inl, inr, List, [], ◌∷◌, ◌++◌, refl, true, false, arith, sym, ◌∙◌, ap, subst}
use Rattle.std.specs.Bool.{nat_lt, if◌then◌else◌}
use Rattle.std.specs.List.{Contains}
use Rattle.std.proofs.lemmas.Bool.{cases_Bool, ltb-false, ltb-true}
use Rattle.std.proofs.lemmas.List.Elements.{Contains-append_cases, Contains-append_right}
use Rattle.pci_spec.specs.Number.{byte_at, number_at, IsImage}
use Rattle.pci_spec.specs.Registers.{COMMAND, IO_BASE, IO_BASE_UPPER, MEMORY_BASE, PREFETCHABLE_BASE, PREFETCHABLE_BASE_UPPER, PREFETCHABLE_LIMIT_UPPER, BRIDGE_EXPANSION_ROM}
use Rattle.pci_spec.specs.Header.{layout, bar_register, address_registers}
use Rattle.pci_spec.specs.Window.{WindowKind, IoWindow, MemoryWindow, PrefetchWindow, Bounds, bounds_at, holds}
use Rattle.pci_spec.specs.System.{Function, is_bridge}
use Rattle.pci_spec.proofs.Members.{in_nil, in_cons_cases, in_head, in_tail}
use Rattle.plan_spec.specs.Planning.PlanWrites.{Change}
use Rattle.plan_spec.proofs.Planning.Reached.{byte_of_number}
use Rattle.settle_spec.specs.Writes.{closing_registers, setting_registers, upper_halves}
use Rattle.settle_laws.proofs.Images.{same_number}
use Rattle.settle_laws.proofs.StageBounds.{IsWithin, holds_within, holds_same, IsMixed, mixed_same, out_within, closing_within, AreUppers, Neither, Both, BaseFirst, LimitFirst, IsSet, Waiting, Done, set_mixed, setting_within}
use Rattle.settle_laws.proofs.Stages.{IsProgress, IsKeptWindow, IsShutWindow}

-- ---- a beginning of a list

-- it has an element and all before it, or the element waits
pub pivot : {X : Type 0} (made waiting before : List X) (x : X) (later : List X) → made ++ waiting ≡ before ++ x ∷ later
    → (Contains made x × ((y : X) → Contains before y → Contains made y)) ⊎ Contains waiting x
pivot [] waiting before x later e = inr (subst (λ l. Contains l x) (sym e) (Contains-append_right before (x ∷ later) x (in_head x later)))
pivot (m ∷ made) waiting [] x later e =
    let is : m ≡ x = cc in
    inl (subst (λ y. Contains (m ∷ made) y) is (in_head m made), λ y none. absurd (in_nil y none))
pivot (m ∷ made) waiting (b ∷ before) x later e =
    let is : m ≡ b = cc in
    let rest : made ++ waiting ≡ before ++ x ∷ later = cc in
    elim (pivot made waiting before x later rest) [
      | inl found ↦ inl (
        in_tail m made x found.0,
        λ y has. elim (in_cons_cases b before y has) [
          | inl here ↦ subst (λ z. Contains (m ∷ made) z) (is ∙ here) (in_head m made)
          | inr more ↦ in_tail m made y (found.1 y more)
        ],
      )
      | inr waits ↦ inr waits
    ]

-- a register shows a number of the earlier state, or of the later one
abbrev pub ShowsFrom : Function → Function → (ℕ × ℕ) → Type 0
ShowsFrom g now r = number_at now.image r.0 r.1 ≡ number_at g.image r.0 r.1

module _ (registers : List (ℕ × ℕ)) (from to now : Function) (p : IsProgress registers from to now) where
  pub either_shows : (r : ℕ × ℕ) → Contains registers r → ShowsFrom from now r ⊎ ShowsFrom to now r
  either_shows r has = elim (Contains-append_cases p.made p.waiting r (subst (λ l. Contains l r) (sym p.split) has)) [
    | inl made ↦ inr (p.each_made r made)
    | inr waits ↦ inl (p.each_waiting r waits)
  ]

  -- one that shows the later state, with all before it, or waits
  pub shows_up_to : (before : List (ℕ × ℕ)) (r : ℕ × ℕ) (later : List (ℕ × ℕ)) → registers ≡ before ++ r ∷ later
      → (ShowsFrom to now r × ((x : ℕ × ℕ) → Contains before x → ShowsFrom to now x)) ⊎ ShowsFrom from now r
  shows_up_to before r later list = elim (pivot p.made p.waiting before r later (p.split ∙ list)) [
    | inl found ↦ inl (p.each_made r found.0, λ x has. p.each_made x (found.1 x has))
    | inr waits ↦ inr (p.each_waiting r waits)
  ]

-- ---- registers and bounds

module _ (a b : List ℕ) (is_a : IsImage a) (is_b : IsImage b) where
  byte_there : (o w place : ℕ) → number_at a o w ≡ number_at b o w → o ≤ place → place < o + w → byte_at a place ≡ byte_at b place
  byte_there o w place same from to = byte_of_number a b o w place is_a is_b same from to

  part_there : (o w p n : ℕ) → number_at a o w ≡ number_at b o w → o ≤ p → p + n ≤ o + w → number_at a p n ≡ number_at b p n
  part_there o w p n same from to = same_number a b p n (λ j less. byte_there o w (p + j) same (omega (arith, from)) (omega (arith, to, less)))

  io_low : number_at a 0x1c 2 ≡ number_at b 0x1c 2 → ((bounds_at IoWindow a).base ≡ (bounds_at IoWindow b).base) × ((bounds_at IoWindow a).limit ≡ (bounds_at IoWindow b).limit)
  io_low same = (byte_there 0x1c 2 0x1c same (omega arith) (omega arith), byte_there 0x1c 2 0x1d same (omega arith) (omega arith))

  io_upper : number_at a 0x30 4 ≡ number_at b 0x30 4 → ((bounds_at IoWindow a).base_upper ≡ (bounds_at IoWindow b).base_upper) × ((bounds_at IoWindow a).limit_upper ≡ (bounds_at IoWindow b).limit_upper)
  io_upper same = (part_there 0x30 4 0x30 2 same (omega arith) (omega arith), part_there 0x30 4 0x32 2 same (omega arith) (omega arith))

  memory_low : number_at a 0x20 4 ≡ number_at b 0x20 4 → ((bounds_at MemoryWindow a).base ≡ (bounds_at MemoryWindow b).base) × ((bounds_at MemoryWindow a).limit ≡ (bounds_at MemoryWindow b).limit)
  memory_low same = (part_there 0x20 4 0x20 2 same (omega arith) (omega arith), part_there 0x20 4 0x22 2 same (omega arith) (omega arith))

  prefetch_low : number_at a 0x24 4 ≡ number_at b 0x24 4 → ((bounds_at PrefetchWindow a).base ≡ (bounds_at PrefetchWindow b).base) × ((bounds_at PrefetchWindow a).limit ≡ (bounds_at PrefetchWindow b).limit)
  prefetch_low same = (part_there 0x24 4 0x24 2 same (omega arith) (omega arith), part_there 0x24 4 0x26 2 same (omega arith) (omega arith))

-- of a sum of pairs
firsts : {A B C D : Type 0} → (A × B) ⊎ (C × D) → A ⊎ C
firsts sum = elim sum [ inl p ↦ inl p.0 | inr p ↦ inr p.0 ]

seconds : {A B C D : Type 0} → (A × B) ⊎ (C × D) → B ⊎ D
seconds sum = elim sum [ inl p ↦ inl p.1 | inr p ↦ inr p.1 ]

both_of : {A B C D : Type 0} → (A → C) → (B → D) → A ⊎ B → C ⊎ D
both_of f g sum = elim sum [ inl a ↦ inl (f a) | inr b ↦ inr (g b) ]

same_bounds : (v w : Bounds) → v.base ≡ w.base → v.limit ≡ w.limit → v.base_upper ≡ w.base_upper → v.limit_upper ≡ w.limit_upper → v ≡ w
same_bounds v w a b c d = λ i. record { base = a i; limit = b i; base_upper = c i; limit_upper = d i }

-- ---- while windows are closed

module _ (f closed final now : Function) (bridge : is_bridge f ≡ true) (is_f : IsImage f.image) (is_closed : IsImage closed.image) (is_now : IsImage now.image)
    (p : IsProgress (closing_registers f) f closed now) (upper : number_at now.image PREFETCHABLE_BASE_UPPER 4 ≡ number_at f.image PREFETCHABLE_BASE_UPPER 4) where
  abbrev closed_list : List (ℕ × ℕ)
  closed_list = (COMMAND, 2) ∷ (IO_BASE, 2) ∷ (IO_BASE_UPPER, 4) ∷ (MEMORY_BASE, 4) ∷ (PREFETCHABLE_BASE, 4) ∷ (PREFETCHABLE_LIMIT_UPPER, 4) ∷ []

  closing_list : closing_registers f ≡ closed_list
  closing_list =
      ap (λ t. (COMMAND, 2) ∷ (if t then (IO_BASE, 2) ∷ (IO_BASE_UPPER, 4) ∷ (MEMORY_BASE, 4) ∷ (PREFETCHABLE_BASE, 4) ∷ (PREFETCHABLE_LIMIT_UPPER, 4) ∷ [] else [])) bridge

  closing_shows : (o w : ℕ) → Contains closed_list (o, w)
      → (number_at now.image o w ≡ number_at f.image o w) ⊎ (number_at now.image o w ≡ number_at closed.image o w)
  closing_shows o w has = either_shows (closing_registers f) f closed now p (o, w) (subst (λ l. Contains l (o, w)) (sym closing_list) has)

  closing_mixed : (c : WindowKind) → IsMixed (bounds_at c f.image) (bounds_at c closed.image) (bounds_at c now.image)
  closing_mixed IoWindow =
      let low = both_of (io_low now.image f.image is_now is_f) (io_low now.image closed.image is_now is_closed) (closing_shows 0x1c 2 (1, omega arith, refl)) in
      let high = both_of (io_upper now.image f.image is_now is_f) (io_upper now.image closed.image is_now is_closed) (closing_shows 0x30 4 (2, omega arith, refl)) in
      record { base = firsts low; limit = seconds low; base_upper = firsts high; limit_upper = seconds high }
  closing_mixed MemoryWindow =
      let low = both_of (memory_low now.image f.image is_now is_f) (memory_low now.image closed.image is_now is_closed) (closing_shows 0x20 4 (3, omega arith, refl)) in
      record { base = firsts low; limit = seconds low; base_upper = inl refl; limit_upper = inl refl }
  closing_mixed PrefetchWindow =
      let low = both_of (prefetch_low now.image f.image is_now is_f) (prefetch_low now.image closed.image is_now is_closed) (closing_shows 0x24 4 (4, omega arith, refl)) in
      record { base = firsts low; limit = seconds low; base_upper = inl upper; limit_upper = closing_shows 0x2c 4 (5, omega arith, refl) }

  -- a window that is kept is as it was
  closing_same : (c : WindowKind) → IsKeptWindow f closed final c → bounds_at c now.image ≡ bounds_at c f.image
  closing_same c kept = mixed_same (bounds_at c f.image) (bounds_at c closed.image) (bounds_at c now.image) (bounds_at c f.image) refl kept.closed_same (closing_mixed c)

  pub closing_held : (c : WindowKind) → IsKeptWindow f closed final c → (probe : List ℕ) (x : ℕ) → holds c f.image probe x ≡ true → holds c now.image probe x ≡ true
  closing_held c kept = holds_within c f.image now.image (holds_same c f.image now.image (sym (closing_same c kept)))

  -- The law: a window holds no more than it did.
  pub closing_window : (c : WindowKind) → IsKeptWindow f closed final c ⊎ IsShutWindow f closed c → (probe : List ℕ) (x : ℕ) → holds c now.image probe x ≡ true → holds c f.image probe x ≡ true
  closing_window c either = holds_within c now.image f.image (elim either [
    | inl kept ↦ holds_same c now.image f.image (closing_same c kept)
    | inr shut ↦ closing_within c f.image closed.image now.image is_f shut.nibble shut.small shut.shows (closing_mixed c)
  ])

-- ---- while registers are set

module _ (f closed final now : Function) (bridge : is_bridge closed ≡ true) (is_closed : IsImage closed.image) (is_final : IsImage final.image) (is_now : IsImage now.image)
    (p : IsProgress (setting_registers (record { old = closed; new = final })) closed final now) where
  abbrev change : Change
  change = record { old = closed; new = final }

  abbrev low_registers : List (ℕ × ℕ)
  low_registers = (bar_register 0, 4) ∷ (bar_register 1, 4) ∷ (IO_BASE_UPPER, 4) ∷ (IO_BASE, 2) ∷ (MEMORY_BASE, 4) ∷ []

  abbrev set_list : List (ℕ × ℕ) → List (ℕ × ℕ)
  set_list uppers = (bar_register 0, 4) ∷ (bar_register 1, 4) ∷ (IO_BASE_UPPER, 4) ∷ (IO_BASE, 2) ∷ (MEMORY_BASE, 4) ∷ (uppers ++ (PREFETCHABLE_BASE, 4) ∷ (BRIDGE_EXPANSION_ROM, 4) ∷ [])

  setting_list : setting_registers change ≡ set_list (upper_halves change)
  setting_list = ap (λ t. if t then set_list (upper_halves change) else address_registers (layout closed.image)) bridge

  limit_first : nat_lt (number_at final.image 0x28 4) (number_at closed.image 0x2c 4) ≡ true → setting_registers change ≡ set_list ((PREFETCHABLE_LIMIT_UPPER, 4) ∷ (PREFETCHABLE_BASE_UPPER, 4) ∷ [])
  limit_first less = setting_list ∙ ap (λ t. set_list (if t then (PREFETCHABLE_LIMIT_UPPER, 4) ∷ (PREFETCHABLE_BASE_UPPER, 4) ∷ [] else (PREFETCHABLE_BASE_UPPER, 4) ∷ (PREFETCHABLE_LIMIT_UPPER, 4) ∷ [])) less

  base_first : nat_lt (number_at final.image 0x28 4) (number_at closed.image 0x2c 4) ≡ false → setting_registers change ≡ set_list ((PREFETCHABLE_BASE_UPPER, 4) ∷ (PREFETCHABLE_LIMIT_UPPER, 4) ∷ [])
  base_first from = setting_list ∙ ap (λ t. set_list (if t then (PREFETCHABLE_LIMIT_UPPER, 4) ∷ (PREFETCHABLE_BASE_UPPER, 4) ∷ [] else (PREFETCHABLE_BASE_UPPER, 4) ∷ (PREFETCHABLE_LIMIT_UPPER, 4) ∷ [])) from

  shows_to : (before : List (ℕ × ℕ)) (o w : ℕ) (later : List (ℕ × ℕ)) → setting_registers change ≡ before ++ (o, w) ∷ later
      → ((number_at now.image o w ≡ number_at final.image o w) × ((x : ℕ × ℕ) → Contains before x → number_at now.image x.0 x.1 ≡ number_at final.image x.0 x.1))
      ⊎ (number_at now.image o w ≡ number_at closed.image o w)
  shows_to before o w later list = shows_up_to (setting_registers change) closed final now p before (o, w) later list

  abbrev Upper : ℕ → Function → Type 0
  Upper o g = number_at now.image o 4 ≡ number_at g.image o 4

  io_set : IsSet (bounds_at IoWindow closed.image) (bounds_at IoWindow final.image) (bounds_at IoWindow now.image)
  io_set =
      let list = setting_list in
      elim (shows_to ((bar_register 0, 4) ∷ (bar_register 1, 4) ∷ (IO_BASE_UPPER, 4) ∷ []) 0x1c 2 ((MEMORY_BASE, 4) ∷ (upper_halves change ++ (PREFETCHABLE_BASE, 4) ∷ (BRIDGE_EXPANSION_ROM, 4) ∷ [])) list) [
        | inl all ↦
            let low = io_low now.image final.image is_now is_final all.0 in
            let high = io_upper now.image final.image is_now is_final (all.1 (IO_BASE_UPPER, 4) (2, omega arith, refl)) in
            Done (same_bounds (bounds_at IoWindow now.image) (bounds_at IoWindow final.image) low.0 low.1 high.0 high.1)
        | inr waits ↦
            let low = io_low now.image closed.image is_now is_closed waits in
            Waiting low.0 low.1 (elim (shows_to ((bar_register 0, 4) ∷ (bar_register 1, 4) ∷ []) 0x30 4 ((IO_BASE, 2) ∷ (MEMORY_BASE, 4) ∷ (upper_halves change ++ (PREFETCHABLE_BASE, 4) ∷ (BRIDGE_EXPANSION_ROM, 4) ∷ [])) list) [
              | inl new ↦ (let high = io_upper now.image final.image is_now is_final new.0 in Both high.0 high.1)
              | inr old ↦ (let high = io_upper now.image closed.image is_now is_closed old in Neither high.0 high.1)
            ])
      ]

  memory_set : IsSet (bounds_at MemoryWindow closed.image) (bounds_at MemoryWindow final.image) (bounds_at MemoryWindow now.image)
  memory_set = elim (shows_to ((bar_register 0, 4) ∷ (bar_register 1, 4) ∷ (IO_BASE_UPPER, 4) ∷ (IO_BASE, 2) ∷ []) 0x20 4 (upper_halves change ++ (PREFETCHABLE_BASE, 4) ∷ (BRIDGE_EXPANSION_ROM, 4) ∷ []) setting_list) [
    | inl all ↦
        let low = memory_low now.image final.image is_now is_final all.0 in
        Done (same_bounds (bounds_at MemoryWindow now.image) (bounds_at MemoryWindow final.image) low.0 low.1 refl refl)
    | inr waits ↦ (let low = memory_low now.image closed.image is_now is_closed waits in Waiting low.0 low.1 (Neither refl refl))
  ]

  abbrev from : Bounds
  from = bounds_at PrefetchWindow closed.image

  abbrev to : Bounds
  to = bounds_at PrefetchWindow final.image

  abbrev shown : Bounds
  shown = bounds_at PrefetchWindow now.image

  -- upper halves in some order, before the lower ones
  prefetch_by : (first second : ℕ) → setting_registers change ≡ set_list ((first, 4) ∷ (second, 4) ∷ [])
      → (Upper first final → Upper second final → AreUppers from to shown × ((shown.base_upper ≡ to.base_upper) × (shown.limit_upper ≡ to.limit_upper)))
      → (Upper first final → Upper second closed → AreUppers from to shown)
      → (Upper first closed → Upper second closed → AreUppers from to shown)
      → IsSet from to shown
  prefetch_by first second list both one none =
      elim (shows_to (low_registers ++ (first, 4) ∷ (second, 4) ∷ []) 0x24 4 ((BRIDGE_EXPANSION_ROM, 4) ∷ []) list) [
        | inl all ↦
            let low = prefetch_low now.image final.image is_now is_final all.0 in
            let high = both (all.1 (first, 4) (5, omega arith, refl)) (all.1 (second, 4) (6, omega arith, refl)) in
            Done (same_bounds shown to low.0 low.1 high.1.0 high.1.1)
        | inr waits ↦
            let low = prefetch_low now.image closed.image is_now is_closed waits in
            Waiting low.0 low.1 (elim (shows_to (low_registers ++ (first, 4) ∷ []) second 4 ((PREFETCHABLE_BASE, 4) ∷ (BRIDGE_EXPANSION_ROM, 4) ∷ []) list) [
              | inl new ↦ (both (new.1 (first, 4) (5, omega arith, refl)) new.0).0
              | inr old ↦ elim (shows_to low_registers first 4 ((second, 4) ∷ (PREFETCHABLE_BASE, 4) ∷ (BRIDGE_EXPANSION_ROM, 4) ∷ []) list) [
                | inl new ↦ one new.0 old
                | inr older ↦ none older old
              ]
            ])
      ]

  prefetch_set : IsSet from to shown
  prefetch_set = elim (cases_Bool (nat_lt (number_at final.image 0x28 4) (number_at closed.image 0x2c 4))) [
    | inl less ↦
        prefetch_by 0x2c 0x28 (limit_first less) (λ limit base. (Both base limit, (base, limit)))
        (λ limit base. LimitFirst base limit (ltb-true (number_at final.image 0x28 4) (number_at closed.image 0x2c 4) less)) (λ limit base. Neither base limit)
    | inr from_on ↦
        prefetch_by 0x28 0x2c (base_first from_on) (λ base limit. (Both base limit, (base, limit)))
        (λ base limit. BaseFirst base limit (ltb-false (number_at final.image 0x28 4) (number_at closed.image 0x2c 4) from_on)) (λ base limit. Neither base limit)
  ]

  setting_set : (c : WindowKind) → IsSet (bounds_at c closed.image) (bounds_at c final.image) (bounds_at c now.image)
  setting_set IoWindow = io_set
  setting_set MemoryWindow = memory_set
  setting_set PrefetchWindow = prefetch_set

  -- a window that is kept is between what it was and what it will be
  setting_between : (c : WindowKind) → IsKeptWindow f closed final c → IsWithin c f.image now.image × IsWithin c now.image final.image
  setting_between c kept =
      out_within c f.image final.image now.image kept.final_out
      (subst (λ v. IsMixed v (bounds_at c final.image) (bounds_at c now.image)) kept.closed_same
      (set_mixed (bounds_at c closed.image) (bounds_at c final.image) (bounds_at c now.image) (setting_set c)))

  pub setting_held : (c : WindowKind) → IsKeptWindow f closed final c → (probe : List ℕ) (x : ℕ) → holds c f.image probe x ≡ true → holds c now.image probe x ≡ true
  setting_held c kept = holds_within c f.image now.image (setting_between c kept).0

  -- The law: a window holds no more than it will.
  pub setting_window : (c : WindowKind) → IsKeptWindow f closed final c ⊎ IsShutWindow f closed c → (probe : List ℕ) (x : ℕ) → holds c now.image probe x ≡ true → holds c final.image probe x ≡ true
  setting_window c either = holds_within c now.image final.image (elim either [
    | inl kept ↦ (setting_between c kept).1
    | inr shut ↦ setting_within c f.image closed.image final.image now.image is_final shut.nibble shut.small shut.shows (setting_set c)
  ])
