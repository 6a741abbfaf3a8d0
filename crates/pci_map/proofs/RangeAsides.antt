-- The lines of told ranges that have none at a place, one after another, and between them those of registers.
use Rattle.std.proofs.Common.{◌≡◌, ℕ, ◌+◌, ◌<◌, ◌≤◌, List, [], ◌∷◌, ◌++◌, take, length, get_or, refl, sym, ap, ◌∙◌, subst, inl, inr, arith, true, false, Some}
use Rattle.std.specs.List.{AllWithin, Contains, slice_get}
use Rattle.std.proofs.lemmas.Bool.{both_ways, cases_lt}
use Rattle.std.proofs.lemmas.List.{map_more, take_all, get_or_read}
use Rattle.std.proofs.lemmas.List.Elements.{Contains-append_cases, Contains-append_left, Contains-append_right}
use Rattle.std.proofs.lemmas.Option.{slice_get_within, get_or_from_slice_get}
use Rattle.pci_spec.specs.Slot.{Slot, slot_number}
use Rattle.pci_spec.specs.System.{System}
use Rattle.pci_spec.proofs.Members.{IsMade, in_nil, in_head, in_cons_cases, in_map_to, in_map_from}
use Rattle.judge_spec.specs.Given.{Given}
use Rattle.judge_spec.specs.Told.{ToldRange, IsTold}
use Rattle.judge_spec.specs.ToldClaims.{Told, told_register, is_range_on}
use Rattle.judge_spec.specs.ToldRegion.{ToldRegion, IsToldIn}
use Rattle.judge_spec.specs.Regions.{MapRegion, Own, OfLine, slot_of, register_of, IsIn, region_rank}
use Rattle.pci_function.specs.declared.record.Record.{Record}
use Rattle.pci_tree.specs.Outline.{RiseBySlot}
use Rattle.pci_tree.specs.Ways.{slots_of}
use Rattle.pci_tree.proofs.Lifting.{Has, record_for, same_slot_of}
use Rattle.pci_map.specs.Asides.{IsOfRegisters, IsTheRange, IsRangeFrom, IsAmongSlots, AreOfLowerSlots, AreOfNoLowerSlots, AreAsidesWritten}
use Rattle.pci_map.proofs.Tolds.{register_low, before, told_none, told_join, told_same}

first_of : (ranges : List ToldRange) {n : ℕ} → n < length ranges → ToldRange
first_of [] {n} within = absurd (let no : ⊥ = omega (arith, within) in no)
first_of (r ∷ ranges) within = r

module _ (told : Told) (lawful : IsTold told.ranges) (s : System) where
  -- the range of a line
  at_index : (x : ToldRegion) (is : IsToldIn told s x) → get_or told.ranges is.named.index x.told ≡ x.told
  at_index x is = get_or_from_slice_get told.ranges is.named.index x.told x.told is.named.at

  inside : (x : ToldRegion) (is : IsToldIn told s x) → is.named.index < length told.ranges
  inside x is = slice_get_within told.ranges is.named.index x.told is.named.at

  -- of the lines the later ones have no lower slots
  no_lower : (x y : ToldRegion) → IsToldIn told s x → IsToldIn told s y → x.register < y.register → slot_number x.told.slot ≤ slot_number y.told.slot
  no_lower x y ix iy less =
      let one = ix.named.register in
      let other = iy.named.register in
      let up = lawful.order ix.named.index iy.named.index x.told (omega (arith, one, other, less)) (inside y iy) in
      let same_x : slot_number (get_or told.ranges ix.named.index x.told).slot ≡ slot_number x.told.slot = ap (λ (r : ToldRange). slot_number r.slot) (at_index x ix) in
      let same_y : slot_number (get_or told.ranges iy.named.index x.told).slot ≡ slot_number y.told.slot =
      ap (λ (r : ToldRange). slot_number r.slot) (get_or_from_slice_get told.ranges iy.named.index y.told x.told iy.named.at) in
      omega (arith, up, same_x, same_y)

  -- a line of an index
  line_at : (x y : ToldRegion) → IsToldIn told s x → IsToldIn told s y → x.register ≡ y.register → x ≡ y
  line_at x y ix iy same =
      let one = ix.named.register in
      let other = iy.named.register in
      let index : ix.named.index ≡ iy.named.index = omega (arith, one, other, same) in
      let e : Some x.told ≡ Some y.told = sym ix.named.at ∙ subst (λ n. slice_get told.ranges n ≡ Some y.told) (sym index) iy.named.at in
      let range : x.told ≡ y.told = cc in
      λ i. record { register = same i; told = range i }

  high_own : (q : MapRegion) → IsIn told s q → 256 ≤ register_of q → (x : ToldRegion) × IsToldIn told s x × (q ≡ OfLine x)
  high_own (Own q) is high = absurd (let low = register_low s q is in let no : ⊥ = omega (arith, low, high) in no)
  high_own (OfLine x) is high = (x, is, refl)

  is_line : (x : ToldRegion) → IsToldIn told s x → 256 ≤ x.register
  is_line x is = let named = is.named.register in omega (arith, named)

  module _ (given : Given) (Q : MapRegion → Type 0) where
    -- one more range, which is on
    pub range_more : (first i : ℕ) (x : ToldRegion) (old mid new : List ℕ) → first ≤ i → IsToldIn told s x → x.register ≡ told_register i → AreAsidesWritten told given Q s (IsRangeFrom first i) old mid
        → AreAsidesWritten told given Q s (IsTheRange x) mid new → AreAsidesWritten told given Q s (IsRangeFrom first (i + 1)) old new
    range_more first i x old mid new from ix at early late =
        told_join told given Q s (IsRangeFrom first i) (IsTheRange x) (IsRangeFrom first (i + 1)) old mid new early late
        (λ p q ip iq at_p at_q. (
        let low = at_p.0 in
        let high = at_p.1 in
        let found = high_own p ip (omega (arith, low)) in
        let y = found.0 in
        let its : register_of p ≡ y.register = ap register_of found.2 in
        let up = no_lower y x found.1 ix (omega (arith, its, high, at)) in
        subst (λ z. region_rank z < region_rank q) (sym found.2) (subst (λ z. region_rank (OfLine y) < region_rank z) (sym at_q) (omega (arith, up, its, high, at)))))
        (λ q of. (of.0, let high = of.1 in omega (arith, high)))
        (λ q of. (let e : register_of q ≡ x.register = ap register_of of in ((omega (arith, e, at, from)), (omega (arith, e, at)))))
        (λ q iq of. elim (cases_lt (register_of q) (told_register i)) [
          | inl less ↦ inl (of.0, less)
          | inr ge ↦ (
              let low = of.0 in
              let high = of.1 in
              let found = high_own q iq (omega (arith, low)) in
              let its : register_of q ≡ found.0.register = ap register_of found.2 in
              inr (found.2 ∙ ap OfLine (line_at found.0 x found.1 ix (omega (arith, its, ge, high, at)))))
        ])

    -- one more range, which isn't
    pub range_off : (first i : ℕ) (r : ToldRange) (old new : List ℕ) → slice_get told.ranges i ≡ Some r → is_range_on told s r ≡ false → AreAsidesWritten told given Q s (IsRangeFrom first i) old new
        → AreAsidesWritten told given Q s (IsRangeFrom first (i + 1)) old new
    range_off first i r old new at off early =
        told_same told given Q s (IsRangeFrom first i) (IsRangeFrom first (i + 1)) old new early
        (λ q iq of. (of.0, let high = of.1 in omega (arith, high)))
        (λ q iq of. (
          of.0,
          elim (cases_lt (register_of q) (told_register i)) [
            | inl less ↦ less
            | inr ge ↦ absurd (
                let low = of.0 in
                let high = of.1 in
                let found = high_own q iq (omega (arith, low)) in
                let its : register_of q ≡ found.0.register = ap register_of found.2 in
                let named = found.1.named.register in
                let index : found.1.named.index ≡ i = omega (arith, its, ge, high, named) in
                let e : Some found.0.told ≡ Some r = sym (subst (λ n. slice_get told.ranges n ≡ Some found.0.told) index found.1.named.at) ∙ at in
                let same : found.0.told ≡ r = cc in
                both_ways (is_range_on told s r) off (subst (λ x. is_range_on told s x ≡ true) same found.1.on))
          ],
        ))

    pub range_none : (first : ℕ) (text : List ℕ) → AreAsidesWritten told given Q s (IsRangeFrom first first) text text
    range_none first text = told_none told given Q s (IsRangeFrom first first) text (λ q is left of. (let low = of.0 in let high = of.1 in omega (arith, low, high)))

    -- ---- with those of functions

    pub among_none : (text : List ℕ) → AreAsidesWritten told given Q s (IsAmongSlots [] 0) text text
    among_none text = told_none told given Q s (IsAmongSlots [] 0) text (λ q is left of. elim of [
      | inl register ↦ in_nil (slot_of q) register.0
      | inr range ↦ (let low = range.0 in let high = range.1 in omega (arith, low, high))
    ])

    -- the slot of a range behind an index isn't below some slots
    slot_from : (x : Slot) (next : ℕ) → AllWithin (λ r. slot_number x ≤ slot_number r.slot) told.ranges next (length told.ranges) → (y : ToldRegion) → IsToldIn told s y → told_register next ≤ y.register
        → slot_number x ≤ slot_number y.told.slot
    slot_from x next behind y iy from =
        let named = iy.named.register in
        let up = behind iy.named.index y.told (omega (arith, named, from)) (inside y iy) in
        let same : slot_number (get_or told.ranges iy.named.index y.told).slot ≡ slot_number y.told.slot = ap (λ (r : ToldRange). slot_number r.slot) (at_index y iy) in
        omega (arith, up, same)

    -- the ranges up to another index
    pub among_ranges : (slots : List Slot) (next end : ℕ) (old mid new : List ℕ) → next ≤ end
        → AreOfNoLowerSlots told.ranges next slots
        → AreAsidesWritten told given Q s (IsAmongSlots slots next) old mid → AreAsidesWritten told given Q s (IsRangeFrom next end) mid new → AreAsidesWritten told given Q s (IsAmongSlots slots end) old new
    among_ranges slots next end old mid new up behind early late =
        told_join told given Q s (IsAmongSlots slots next) (IsRangeFrom next end) (IsAmongSlots slots end) old mid new early late
        (λ p q ip iq at_p at_q. (
        let from = at_q.0 in
        let found = high_own q iq (omega (arith, from)) in
        let y = found.0 in
        let its : register_of q ≡ y.register = ap register_of found.2 in
        subst (λ z. region_rank p < region_rank z) (sym found.2) (elim at_p [
          | inl register ↦ (
              let low = register.1 in
              let slot = slot_from (slot_of p) next (behind (slot_of p) register.0) y found.1 (omega (arith, from, its)) in
              omega (arith, low, slot, from, its))
          | inr range ↦ (
              let low = range.0 in
              let high = range.1 in
              let other = high_own p ip (omega (arith, low)) in
              let named : register_of p ≡ other.0.register = ap register_of other.2 in
              let slot = no_lower other.0 y other.1 found.1 (omega (arith, named, high, from, its)) in
              subst (λ z. region_rank z < region_rank (OfLine y)) (sym other.2) (omega (arith, slot, named, high, from, its)))
        ])))
        (λ q of. elim of [
          | inl register ↦ inl register
          | inr range ↦ inr (range.0, let high = range.1 in omega (arith, high, up))
        ])
        (λ q of. inr ((let low = of.0 in omega (arith, low)), of.1))
        (λ q iq of. elim of [
          | inl register ↦ inl (inl register)
          | inr range ↦ elim (cases_lt (register_of q) (told_register next)) [
            | inl less ↦ inl (inr (range.0, less))
            | inr ge ↦ inr (ge, range.1)
          ]
        ])

    -- the registers of one more function
    one_function_more : (slots : List Slot) (slot : Slot) (end : ℕ) (old mid new : List ℕ) → ((x : Slot) → Contains slots x → slot_number x < slot_number slot)
        → AllWithin (λ r. slot_number r.slot < slot_number slot) told.ranges 0 end → AreAsidesWritten told given Q s (IsAmongSlots slots end) old mid
        → AreAsidesWritten told given Q s (IsOfRegisters slot) mid new → AreAsidesWritten told given Q s (IsAmongSlots (slots ++ slot ∷ []) end) old new
    one_function_more slots slot end old mid new above below first second =
        told_join told given Q s (IsAmongSlots slots end) (IsOfRegisters slot) (IsAmongSlots (slots ++ slot ∷ []) end) old mid new first second
        (λ p q ip iq at_p at_q. (
        let same : slot_number (slot_of q) ≡ slot_number slot = ap slot_number at_q.0 in elim at_p [
          | inl register ↦ (
              let less = above (slot_of p) register.0 in
              let low = register.1 in
              omega (arith, less, low, same))
          | inr range ↦ (
              let low = range.0 in
              let high = range.1 in
              let found = high_own p ip (omega (arith, low)) in
              let y = found.0 in
              let its : register_of p ≡ y.register = ap register_of found.2 in
              let named = found.1.named.register in
              let room = lawful.room in
              let within = inside y found.1 in
              let less = below found.1.named.index y.told (omega arith) (omega (arith, named, its, high)) in
              let at : slot_number (get_or told.ranges found.1.named.index y.told).slot ≡ slot_number y.told.slot = ap (λ (r : ToldRange). slot_number r.slot) (at_index y found.1) in
              subst (λ z. region_rank z < region_rank q) (sym found.2) (omega (arith, less, at, same, named, within, room)))
        ]))
        (λ q of. elim of [
          | inl register ↦ inl (Contains-append_left slots (slot ∷ []) (slot_of q) register.0, register.1)
          | inr range ↦ inr range
        ])
        (λ q of. inl (Contains-append_right slots (slot ∷ []) (slot_of q) (subst (λ x. Contains (slot ∷ []) x) (sym of.0) (in_head slot [])), of.1))
        (λ q iq of. elim of [
          | inl register ↦ elim (Contains-append_cases slots (slot ∷ []) (slot_of q) register.0) [
            | inl early ↦ inl (inl (early, register.1))
            | inr late ↦ inr (elim (in_cons_cases slot [] (slot_of q) late) [
              | inl here ↦ (sym here, register.1)
              | inr none ↦ absurd (in_nil (slot_of q) none)
            ])
          ]
          | inr range ↦ inl (inr range)
        ])

    earlier_slots : (rs : List Record) (k : ℕ) (r : Record) (x : Slot) → RiseBySlot rs → k < length rs → get_or rs k r ≡ r → Contains (slots_of (take k rs)) x → slot_number x < slot_number r.slot
    earlier_slots rs k r x rise lt at has =
        let made : IsMade (λ (z : Record). z.slot) (take k rs) x = in_map_to (λ (z : Record). z.slot) (take k rs) x has in
        subst (λ y. slot_number y < slot_number r.slot) made.is (before rs k r made.from rise lt at made.has)

    pub next_function : (rs : List Record) (k : ℕ) (r : Record) (end : ℕ) (old mid new : List ℕ) → RiseBySlot rs → k < length rs → get_or rs k r ≡ r
        → AllWithin (λ x. slot_number x.slot < slot_number r.slot) told.ranges 0 end → AreAsidesWritten told given Q s (IsAmongSlots (slots_of (take k rs)) end) old mid
        → AreAsidesWritten told given Q s (IsOfRegisters r.slot) mid new → AreAsidesWritten told given Q s (IsAmongSlots (slots_of (take (k + 1) rs)) end) old new
    next_function rs k r end old mid new rise lt at below first second =
        subst (λ xs. AreAsidesWritten told given Q s (IsAmongSlots xs end) old new)
        (ap (λ (z : Record). slots_of (take k rs) ++ z.slot ∷ []) (sym at) ∙ sym (map_more (λ (z : Record). z.slot) rs k r lt))
        (one_function_more (slots_of (take k rs)) r.slot end old mid new (λ x has. earlier_slots rs k r x rise lt at has) below first second)

    among_all : (rs : List Record) → Has s rs → (q : MapRegion) → IsIn told s q → IsAmongSlots (slots_of rs) (length told.ranges) q
    among_all rs has (Own q) is =
        let own = record_for s rs is.f has is.listed in
        let slot : own.0.slot ≡ q.slot = same_slot_of own.0 is.f own.1.same ∙ is.slot in
        let low = register_low s q is in
        inl (subst (λ x. Contains (slots_of rs) x) slot (in_map_from (λ (z : Record). z.slot) rs own.0 own.1.has), omega (arith, low))
    among_all rs has (OfLine x) is =
        let named = is.named.register in
        let within = inside x is in
        inr (omega (arith, named), omega (arith, named, within))

    pub all_functions : (rs : List Record) (k end : ℕ) (old new : List ℕ) → Has s rs → length rs ≤ k → end ≡ length told.ranges → AreAsidesWritten told given Q s (IsAmongSlots (slots_of (take k rs)) end) old new
        → AreAsidesWritten told given Q s (IsIn told s) old new
    all_functions rs k end old new has past is_end was =
        told_same told given Q s (IsAmongSlots (slots_of (take k rs)) end) (IsIn told s) old new was (λ q is of. is)
        (λ q is of. subst (λ (xs : List Record). IsAmongSlots (slots_of xs) end q) (sym (take_all k rs past)) (subst (λ n. IsAmongSlots (slots_of rs) n q) (sym is_end) (among_all rs has q is)))

-- ---- where the ranges of one more function begin

module _ (ranges : List ToldRange) (rs : List Record) (k : ℕ) (r : Record) (rise : RiseBySlot rs) (lt : k < length rs) (at : get_or rs k r ≡ r) (end : ℕ) where
  -- no range behind them has a lower slot than a function so far
  pub behind_more : AllWithin (λ x. slot_number r.slot ≤ slot_number x.slot) ranges end (length ranges) → AreOfNoLowerSlots ranges end (slots_of (take (k + 1) rs))
  behind_more after x has i d low high =
      let up = after i d low high in
      let split : slots_of (take (k + 1) rs) ≡ slots_of (take k rs) ++ r.slot ∷ [] = map_more (λ (z : Record). z.slot) rs k r lt ∙ ap (λ (z : Record). slots_of (take k rs) ++ z.slot ∷ []) at in
      elim (Contains-append_cases (slots_of (take k rs)) (r.slot ∷ []) x (subst (λ xs. Contains xs x) split has)) [
        | inl early ↦ (
            let made : IsMade (λ (z : Record). z.slot) (take k rs) x = in_map_to (λ (z : Record). z.slot) (take k rs) x early in
            let less : slot_number x < slot_number r.slot = subst (λ y. slot_number y < slot_number r.slot) made.is (before rs k r made.from rise lt at made.has) in
            omega (arith, less, up))
        | inr late ↦ elim (in_cons_cases r.slot [] x late) [
          | inl here ↦ (let same : slot_number r.slot ≡ slot_number x = ap slot_number here in omega (arith, same, up))
          | inr none ↦ absurd (in_nil x none)
        ]
      ]

  -- those before them have lower slots than the functions behind
  pub below_more : AllWithin (λ x. slot_number x.slot < slot_number r.slot) ranges 0 end → AreOfLowerSlots ranges end rs (k + 1)
  below_more early j d from within i e low high =
      let less = early i e low high in
      let up = rise k j d (omega (arith, from)) within in
      let same : get_or rs k d ≡ r = sym (get_or_read rs k r lt (sym at) d) in
      let here : slot_number (get_or rs k d).slot ≡ slot_number r.slot = ap (λ (z : Record). slot_number z.slot) same in
      omega (arith, less, up, here)

  pub up_to : (next : ℕ) → next ≤ length ranges → AreOfLowerSlots ranges next rs k → AllWithin (λ x. slot_number r.slot ≤ slot_number x.slot) ranges end (length ranges) → next ≤ end
  up_to next within below after = elim (cases_lt end next) [
    | inr up ↦ up
    | inl less ↦ absurd (
        let inside : end < length ranges = omega (arith, less, within) in
        let d = first_of ranges inside in
        let low = below k r (omega arith) lt end d (omega arith) less in
        let high = after end d (omega arith) inside in
        let same : slot_number (get_or rs k r).slot ≡ slot_number r.slot = ap (λ (z : Record). slot_number z.slot) at in
        let no : ⊥ = omega (arith, low, high, same) in no)
  ]
