-- Two lists of slots side by side: which slots one of them has alone.
use Rattle.std.proofs.Common.{◌≡◌, ◌⊎◌, ℕ, suc, ◌+◌, ◌<◌, ◌≤◌, List, [], ◌∷◌, ◌++◌, length, get_or, drop, map, None, true, refl, inl, inr, arith, sym, ◌∙◌, ap, subst}
use Rattle.std.specs.List.{AllPairs, Contains}
use Rattle.std.proofs.Math.ListN.{get_or-map, drop_of_length-le}
use Rattle.std.proofs.Math.Seq.{drop-cons}
use Rattle.std.proofs.lemmas.List.{length-map, get_or_default}
use Rattle.std.proofs.lemmas.List.Elements.{All-contains, Contains-append_left, Contains-append_right, Contains-append_cases}
use Rattle.std.proofs.lemmas.List.Kept.{AllPairs-from_increasing}
use Rattle.pci_spec.specs.Slot.{Slot, IsSlot, slot_number}
use Rattle.pci_spec.specs.Text.{Block, IsBlock, IsDump, slots_of}
use Rattle.pci_spec.specs.System.{system_of}
use Rattle.pci_spec.specs.Fault.{Fault, SlotsDiffer}
use Rattle.pci_spec.specs.Order.{precedes, slot_key, phase_of, is_before, image_at, IsFirstThere}
use Rattle.pci_spec.specs.FaultLines.{subject, IsLine, AreAllFaults}
use Rattle.pci_spec.proofs.Members.{IsMade, in_map_to, in_nil, in_head, in_tail, in_cons_cases, pairs_nil, pairs_cons, pairs_append, pairs_head, pairs_tail}
use Rattle.pci_tree.proofs.Pairs.{number_same}
use Rattle.pci_faults.specs.Lists.{AreJust}
use Rattle.pci_faults.specs.OwnLines.{IsBeforeAt}
use Rattle.pci_faults.specs.Slots.{IsLoneIn, IsLoneSlot, IsFirstSlotNumber}
use Rattle.pci_faults.proofs.Keys.{lower_precedes, not_before_itself, same_phase}
use Rattle.pci_faults.proofs.Lines.{all_faults}

abbrev pub Rise : List Slot → Type 0
Rise xs = AllPairs (λ s t. slot_number s < slot_number t) xs

swap_lone : (xs ys : List Slot) (t : Slot) → IsLoneIn xs ys t → IsLoneIn ys xs t
swap_lone xs ys t is = elim is [
  | inl one ↦ inr (one.1, one.0)
  | inr one ↦ inl (one.1, one.0)
]

-- what is left of each list; the slots before it are told where one list alone has them
pub record IsMerging (Before : Fault → Fault → Type 0) (ss ts xs ys : List Slot) (es : List Fault) : Type 0 where
  pub each : (e : Fault) → Contains es e → IsLoneSlot ss ts e
  pub below : (t u : Slot) → Contains es (SlotsDiffer t) → Contains xs u ⊎ Contains ys u → slot_number t < slot_number u
  pub complete : (t : Slot) → IsLoneIn ss ts t → Contains es (SlotsDiffer t) ⊎ IsLoneIn xs ys t
  pub back : (t : Slot) → IsLoneIn xs ys t → IsLoneIn ss ts t
  pub left : Rise xs
  pub right : Rise ys
  pub rising : AllPairs Before es

-- the lists the other way round
swapped : (Before : Fault → Fault → Type 0) (ss ts xs ys : List Slot) (es : List Fault) → IsMerging Before ss ts xs ys es → IsMerging Before ts ss ys xs es
swapped Before ss ts xs ys es is = record {
  each = λ e has. (let one = is.each e has in (one.0, one.1, swap_lone ss ts one.0 one.2));
  below = λ t u has either. is.below t u has (elim either [ inl a ↦ inr a | inr b ↦ inl b ]);
  complete = λ t lone. elim (is.complete t (swap_lone ts ss t lone)) [
    | inl there ↦ inl there
    | inr later ↦ inr (swap_lone xs ys t later)
  ];
  back = λ t lone. swap_lone ss ts t (is.back t (swap_lone ys xs t lone));
  left = is.right;
  right = is.left;
  rising = is.rising;
}

-- slots behind the first are above it
above_first : (x : Slot) (xs : List Slot) (u : Slot) → Rise (x ∷ xs) → Contains xs u → slot_number x < slot_number u
above_first x xs u rise has = pairs_head (λ s t. slot_number s < slot_number t) x xs u rise has

-- and what a lower number precedes doesn't have it
above_front : (ys : List Slot) (k n : ℕ) (u : Slot) → Rise ys → IsFirstSlotNumber ys n → k < n → Contains ys u → k < slot_number u
above_front [] k n u rise front less has = absurd (in_nil u has)
above_front (y ∷ ys) k n u rise front less has = elim (in_cons_cases y ys u has) [
  | inl here ↦ (let e = ap slot_number here in omega (arith, e, front, less))
  | inr later ↦ (let up = above_first y ys u rise later in omega (arith, up, front, less))
]

not_itself : (x : Slot) → slot_number x < slot_number x → ⊥
not_itself x less = omega (arith, less)

module _ (Before : Fault → Fault → Type 0) (ss ts : List Slot) (in_order : (t u : Slot) → IsLoneIn ss ts t → IsLoneIn ss ts u → slot_number t < slot_number u → Before (SlotsDiffer t) (SlotsDiffer u)) where
  pub merging_none : Rise ss → Rise ts → IsMerging Before ss ts ss ts []
  merging_none rise_ss rise_ts = record {
    each = λ e has. absurd (in_nil e has);
    below = λ t u has either. absurd (in_nil (SlotsDiffer t) has);
    complete = λ t lone. inr lone;
    back = λ t lone. lone;
    left = rise_ss;
    right = rise_ts;
    rising = pairs_nil Before;
  }

  module _ (x : Slot) (xs ys : List Slot) (es : List Fault) (is : IsMerging Before ss ts (x ∷ xs) ys es) (lower : (u : Slot) → Contains ys u → slot_number x < slot_number u) where
    first_is_lone : IsLoneIn ss ts x
    first_is_lone = is.back x (inl (in_head x xs, λ has. not_itself x (lower x has)))

    last_or_before : (e : Fault) → Contains (es ++ SlotsDiffer x ∷ []) e → Contains es e ⊎ (SlotsDiffer x ≡ e)
    last_or_before e has = elim (Contains-append_cases es (SlotsDiffer x ∷ []) e has) [
      | inl before ↦ inl before
      | inr last ↦ elim (in_cons_cases (SlotsDiffer x) [] e last) [
        | inl here ↦ inr here
        | inr none ↦ absurd (in_nil e none)
      ]
    ]

    each_more : (e : Fault) → Contains (es ++ SlotsDiffer x ∷ []) e → IsLoneSlot ss ts e
    each_more e has = elim (last_or_before e has) [
      | inl before ↦ is.each e before
      | inr here ↦ (x, sym here, first_is_lone)
    ]

    below_more : (t u : Slot) → Contains (es ++ SlotsDiffer x ∷ []) (SlotsDiffer t) → Contains xs u ⊎ Contains ys u → slot_number t < slot_number u
    below_more t u has either = elim (last_or_before (SlotsDiffer t) has) [
      | inl before ↦ is.below t u before (elim either [ inl a ↦ inl (in_tail x xs u a) | inr b ↦ inr b ])
      | inr here ↦
          (let same : x ≡ t = cc in
          let e = ap slot_number same in
          elim either [
            | inl a ↦ (let up = above_first x xs u is.left a in omega (arith, up, e))
            | inr b ↦ (let up = lower u b in omega (arith, up, e))
          ])
    ]

    complete_more : (t : Slot) → IsLoneIn ss ts t → Contains (es ++ SlotsDiffer x ∷ []) (SlotsDiffer t) ⊎ IsLoneIn xs ys t
    complete_more t lone = elim (is.complete t lone) [
      | inl there ↦ inl (Contains-append_left es (SlotsDiffer x ∷ []) (SlotsDiffer t) there)
      | inr (inl (has, none)) ↦ elim (in_cons_cases x xs t has) [
        | inl here ↦ inl (Contains-append_right es (SlotsDiffer x ∷ []) (SlotsDiffer t) (subst (λ z. Contains (SlotsDiffer x ∷ []) (SlotsDiffer z)) here (in_head (SlotsDiffer x) [])))
        | inr later ↦ inr (inl (later, none))
      ]
      | inr (inr (none, has)) ↦ inr (inr (λ a. none (in_tail x xs t a), has))
    ]

    back_more : (t : Slot) → IsLoneIn xs ys t → IsLoneIn ss ts t
    back_more t lone = elim lone [
      | inl (has, none) ↦ is.back t (inl (in_tail x xs t has, none))
      | inr (none, has) ↦ is.back t (inr (
        λ a. elim (in_cons_cases x xs t a) [
          | inl here ↦ not_itself x (lower x (subst (λ z. Contains ys z) (sym here) has))
          | inr later ↦ none later
        ],
        has,
      ))
    ]

    -- the first of one list is alone
    pub merging_left : IsMerging Before ss ts xs ys (es ++ SlotsDiffer x ∷ [])
    merging_left = record {
      each = each_more;
      below = below_more;
      complete = complete_more;
      back = back_more;
      left = pairs_tail (λ s t. slot_number s < slot_number t) x xs is.left;
      right = is.right;
      rising = pairs_append Before es (SlotsDiffer x ∷ []) is.rising
          (pairs_cons Before (SlotsDiffer x) [] (λ e has. absurd (in_nil e has)) (pairs_nil Before))
          (λ a b left right. elim (in_cons_cases (SlotsDiffer x) [] b right) [
            | inr none ↦ absurd (in_nil b none)
            | inl here ↦
                (let one = is.each a left in
                let at : Contains es (SlotsDiffer one.0) = subst (λ e. Contains es e) one.1 left in
                let up = is.below one.0 x at (inl (in_head x xs)) in
                subst (λ e. Before e b) (sym one.1) (subst (λ e. Before (SlotsDiffer one.0) e) here (in_order one.0 x one.2 first_is_lone up)))
          ]);
    }

  -- both lists have it
  module _ (x : Slot) (xs ys : List Slot) (es : List Fault) (is : IsMerging Before ss ts (x ∷ xs) (x ∷ ys) es) where
    both_complete : (t : Slot) → IsLoneIn ss ts t → Contains es (SlotsDiffer t) ⊎ IsLoneIn xs ys t
    both_complete t lone = elim (is.complete t lone) [
      | inl there ↦ inl there
      | inr (inl (has, none)) ↦ elim (in_cons_cases x xs t has) [
        | inl here ↦ absurd (none (subst (λ z. Contains (x ∷ ys) z) here (in_head x ys)))
        | inr later ↦ inr (inl (later, λ b. none (in_tail x ys t b)))
      ]
      | inr (inr (none, has)) ↦ elim (in_cons_cases x ys t has) [
        | inl here ↦ absurd (none (subst (λ z. Contains (x ∷ xs) z) here (in_head x xs)))
        | inr later ↦ inr (inr (λ a. none (in_tail x xs t a), later))
      ]
    ]

    both_back : (t : Slot) → IsLoneIn xs ys t → IsLoneIn ss ts t
    both_back t lone = elim lone [
      | inl (has, none) ↦ is.back t (inl (
        in_tail x xs t has,
        λ b. elim (in_cons_cases x ys t b) [
          | inl here ↦ not_itself x (above_first x xs x is.left (subst (λ z. Contains xs z) (sym here) has))
          | inr later ↦ none later
        ],
      ))
      | inr (none, has) ↦ is.back t (inr (
        λ a. elim (in_cons_cases x xs t a) [
          | inl here ↦ not_itself x (above_first x ys x is.right (subst (λ z. Contains ys z) (sym here) has))
          | inr later ↦ none later
        ],
        in_tail x ys t has,
      ))
    ]

    pub merging_both : IsMerging Before ss ts xs ys es
    merging_both = record {
      each = is.each;
      below = λ t u has either. is.below t u has (elim either [ inl a ↦ inl (in_tail x xs u a) | inr b ↦ inr (in_tail x ys u b) ]);
      complete = both_complete;
      back = both_back;
      left = pairs_tail (λ s t. slot_number s < slot_number t) x xs is.left;
      right = pairs_tail (λ s t. slot_number s < slot_number t) x ys is.right;
      rising = is.rising;
    }

  -- nothing is left
  pub merging_all : (es : List Fault) → IsMerging Before ss ts [] [] es → AreJust Before (IsLoneSlot ss ts) es
  merging_all es is = record {
    each = is.each;
    complete = λ e (t, same, lone). elim (is.complete t lone) [
      | inl there ↦ subst (λ x. Contains es x) (sym same) there
      | inr (inl (has, none)) ↦ absurd (in_nil t has)
      | inr (inr (none, has)) ↦ absurd (in_nil t has)
    ];
    rising = is.rising;
  }

-- the first of the other list is alone
pub merging_right : (Before : Fault → Fault → Type 0) (ss ts : List Slot)
    → ((t u : Slot) → IsLoneIn ss ts t → IsLoneIn ss ts u → slot_number t < slot_number u → Before (SlotsDiffer t) (SlotsDiffer u))
    → (y : Slot) (xs ys : List Slot) (es : List Fault) → IsMerging Before ss ts xs (y ∷ ys) es → ((u : Slot) → Contains xs u → slot_number y < slot_number u)
    → IsMerging Before ss ts xs ys (es ++ SlotsDiffer y ∷ [])
merging_right Before ss ts in_order y xs ys es is lower =
    swapped Before ts ss ys xs (es ++ SlotsDiffer y ∷ [])
    (merging_left Before ts ss (λ t u a b less. in_order t u (swap_lone ts ss t a) (swap_lone ts ss u b) less) y ys xs es (swapped Before ss ts xs (y ∷ ys) es is) lower)

-- ---- slots of blocks

pub rise_of : (blocks : List Block) → IsDump blocks → Rise (slots_of blocks)
rise_of blocks dump i j d less within =
    let long = length-map (slots_of blocks) slot_number in
    let up = AllPairs-from_increasing (map slot_number (slots_of blocks)) dump.rising i j (slot_number d) less (omega (arith, long, within)) in
    let one = get_or-map slot_number (slots_of blocks) i d in
    let two = get_or-map slot_number (slots_of blocks) j d in
    omega (arith, up, one, two)

slot_in : (blocks : List Block) (slot : Slot) → IsDump blocks → Contains (slots_of blocks) slot → IsSlot slot
slot_in blocks slot dump has =
    let made : IsMade (λ (b : Block). b.slot) blocks slot = in_map_to (λ (b : Block). b.slot) blocks slot has in
    subst IsSlot made.is (All-contains IsBlock blocks made.from dump.each made.has).slot

lone_slot : (dump probe : List Block) (t : Slot) → IsDump dump → IsDump probe → IsLoneIn (slots_of dump) (slots_of probe) t → IsSlot t
lone_slot dump probe t hd hp lone = elim lone [ inl one ↦ slot_in dump t hd one.0 | inr one ↦ slot_in probe t hp one.1 ]

-- slots that rise are looked for in that order
pub lone_before : (dump probe : List Block) → IsDump dump → IsDump probe → (t u : Slot) → IsLoneIn (slots_of dump) (slots_of probe) t → IsLoneIn (slots_of dump) (slots_of probe) u
    → slot_number t < slot_number u → IsBeforeAt (system_of dump probe) (SlotsDiffer t) (SlotsDiffer u)
lone_before dump probe hd hp t u one two less = lower_precedes 0 t u [] [] (lone_slot dump probe t hd hp one) (lone_slot dump probe u hd hp two) less

-- what is left from a block on begins with its slot
pub drop_slots : (blocks : List Block) (i : ℕ) (b : Block) → i < length blocks → b ≡ get_or blocks i b → drop i (slots_of blocks) ≡ b.slot ∷ drop (i + 1) (slots_of blocks)
drop_slots blocks i b within at =
    let long = length-map {B = Slot} blocks (λ x. x.slot) in
    let head : get_or (slots_of blocks) i b.slot ≡ b.slot = get_or-map (λ (x : Block). x.slot) blocks i b ∙ ap (λ (x : Block). x.slot) (sym at) in
    drop-cons (slots_of blocks) i b.slot (omega (arith, long, within)) ∙ ap (λ x. x ∷ drop (suc i) (slots_of blocks)) head
    ∙ ap (λ n. b.slot ∷ drop n (slots_of blocks)) (let e : suc i ≡ i + 1 = omega arith in e)

pub drop_slots_end : (blocks : List Block) (i : ℕ) → length blocks ≤ i → drop i (slots_of blocks) ≡ []
drop_slots_end blocks i past = let long = length-map {B = Slot} blocks (λ x. x.slot) in drop_of_length-le (slots_of blocks) (let e : length (slots_of blocks) ≤ i = omega (arith, long, past) in e)

-- ---- steps of the walk along both

abbrev pub IsMergingFrom : List Block → List Block → ℕ → ℕ → List Fault → Type 0
IsMergingFrom dump probe i j es =
    IsMerging (IsBeforeAt (system_of dump probe)) (slots_of dump) (slots_of probe) (drop i (slots_of dump)) (drop j (slots_of probe)) es

module _ (dump probe : List Block) (hd : IsDump dump) (hp : IsDump probe) where
  abbrev IsMergingAt : ℕ → ℕ → List Fault → Type 0
  IsMergingAt i j es = IsMergingFrom dump probe i j es

  pub merging_begins : IsMergingAt 0 0 []
  merging_begins = merging_none (IsBeforeAt (system_of dump probe)) (slots_of dump) (slots_of probe) (lone_before dump probe hd hp) (rise_of dump hd) (rise_of probe hp)

  pub merging_ours : (i j m n : ℕ) (b : Block) (es : List Fault) → i < length dump → b ≡ get_or dump i b → IsFirstSlotNumber (drop i (slots_of dump)) m → IsFirstSlotNumber (drop j (slots_of probe)) n → m < n
      → IsMergingAt i j es → IsMergingAt (i + 1) j (es ++ SlotsDiffer b.slot ∷ [])
  merging_ours i j m n b es within at ours theirs less is =
      let Before = IsBeforeAt (system_of dump probe) in
      let front = drop_slots dump i b within at in
      let number : m ≡ slot_number b.slot = subst (λ xs. IsFirstSlotNumber xs m) front ours in
      let here : IsMerging Before (slots_of dump) (slots_of probe) (b.slot ∷ drop (i + 1) (slots_of dump)) (drop j (slots_of probe)) es =
      subst (λ xs. IsMerging Before (slots_of dump) (slots_of probe) xs (drop j (slots_of probe)) es) front is in
      merging_left Before (slots_of dump) (slots_of probe) (lone_before dump probe hd hp) b.slot (drop (i + 1) (slots_of dump)) (drop j (slots_of probe)) es here
      (λ u has. above_front (drop j (slots_of probe)) (slot_number b.slot) n u here.right theirs (omega (arith, number, less)) has)

  pub merging_theirs : (i j m n : ℕ) (p : Block) (es : List Fault) → j < length probe → p ≡ get_or probe j p → IsFirstSlotNumber (drop i (slots_of dump)) m → IsFirstSlotNumber (drop j (slots_of probe)) n → n < m
      → IsMergingAt i j es → IsMergingAt i (j + 1) (es ++ SlotsDiffer p.slot ∷ [])
  merging_theirs i j m n p es within at ours theirs less is =
      let Before = IsBeforeAt (system_of dump probe) in
      let front = drop_slots probe j p within at in
      let number : n ≡ slot_number p.slot = subst (λ ys. IsFirstSlotNumber ys n) front theirs in
      let here : IsMerging Before (slots_of dump) (slots_of probe) (drop i (slots_of dump)) (p.slot ∷ drop (j + 1) (slots_of probe)) es =
      subst (λ ys. IsMerging Before (slots_of dump) (slots_of probe) (drop i (slots_of dump)) ys es) front is in
      merging_right Before (slots_of dump) (slots_of probe) (lone_before dump probe hd hp) p.slot (drop i (slots_of dump)) (drop (j + 1) (slots_of probe)) es here
      (λ u has. above_front (drop i (slots_of dump)) (slot_number p.slot) m u here.left ours (omega (arith, number, less)) has)

  both_at : (i j : ℕ) (x y : Slot) (es : List Fault) → x ≡ y → drop i (slots_of dump) ≡ x ∷ drop (i + 1) (slots_of dump) → drop j (slots_of probe) ≡ y ∷ drop (j + 1) (slots_of probe)
      → IsMergingAt i j es → IsMergingAt (i + 1) (j + 1) es
  both_at i j x y es same ours theirs is =
      let Before = IsBeforeAt (system_of dump probe) in
      merging_both Before (slots_of dump) (slots_of probe) (lone_before dump probe hd hp) x (drop (i + 1) (slots_of dump)) (drop (j + 1) (slots_of probe)) es
      (subst (λ ys. IsMerging Before (slots_of dump) (slots_of probe) (x ∷ drop (i + 1) (slots_of dump)) ys es) (theirs ∙ ap (λ z. z ∷ drop (j + 1) (slots_of probe)) (sym same))
      (subst (λ xs. IsMerging Before (slots_of dump) (slots_of probe) xs (drop j (slots_of probe)) es) ours is))

  -- of the same number
  pub merging_same : (i j n : ℕ) (es : List Fault) → i < length dump → j < length probe → IsFirstSlotNumber (drop i (slots_of dump)) n → IsFirstSlotNumber (drop j (slots_of probe)) n
      → IsMergingAt i j es → IsMergingAt (i + 1) (j + 1) es
  merging_same i j n es in_dump in_probe ours theirs is =
      let some : Block = record { slot = record { bus = 0; device = 0; function = 0 }; title = None; image = [] } in
      let b = get_or dump i some in
      let p = get_or probe j some in
      let at_b = get_or_default dump i b some in_dump in
      let at_p = get_or_default probe j p some in_probe in
      let drop_b = drop_slots dump i b in_dump (sym at_b) in
      let drop_p = drop_slots probe j p in_probe (sym at_p) in
      let one : n ≡ slot_number b.slot = subst (λ xs. IsFirstSlotNumber xs n) drop_b ours in
      let two : n ≡ slot_number p.slot = subst (λ ys. IsFirstSlotNumber ys n) drop_p theirs in
      both_at i j b.slot p.slot es
      (number_same b.slot p.slot (All-contains IsBlock dump b hd.each (i, in_dump, at_b)).slot (All-contains IsBlock probe p hp.each (j, in_probe, at_p)).slot (sym one ∙ two))
      drop_b drop_p is

  pub merging_ends : (i j : ℕ) (es : List Fault) → length dump ≤ i → length probe ≤ j → IsMergingAt i j es
      → AreJust (IsBeforeAt (system_of dump probe)) (IsLoneSlot (slots_of dump) (slots_of probe)) es
  merging_ends i j es past_dump past_probe is =
      let Before = IsBeforeAt (system_of dump probe) in
      merging_all Before (slots_of dump) (slots_of probe) (lone_before dump probe hd hp) es
      (subst (λ ys. IsMerging Before (slots_of dump) (slots_of probe) [] ys es) (drop_slots_end probe j past_probe)
      (subst (λ xs. IsMerging Before (slots_of dump) (slots_of probe) xs (drop j (slots_of probe)) es) (drop_slots_end dump i past_dump) is))

-- ---- the whole list

not_before_of_subject : (image_of : Slot → List ℕ) (t : Slot) (other : Fault) → subject other ≡ subject (SlotsDiffer t) → is_before image_of other (SlotsDiffer t) ≡ true → ⊥
not_before_of_subject image_of t (SlotsDiffer u) same before = not_before_itself (0 ∷ slot_key t) (subst (λ k. precedes k (0 ∷ slot_key t) ≡ true) same before)
not_before_of_subject image_of t other same before = let phase = same_phase other (SlotsDiffer t) same in omega (arith, phase)

slot_is_line : (roots : List ℕ) (dump probe : List Block) (e : Fault) → IsLoneSlot (slots_of dump) (slots_of probe) e → IsLine roots dump probe e
slot_is_line roots dump probe e (t, same, lone) = subst (IsLine roots dump probe) (sym same) (record {
  there = lone;
  none_earlier = λ other less there. omega (arith, less);
  first = λ early other subjects before there. not_before_of_subject (image_at (system_of dump probe)) t other subjects before;
  named = λ judging. absurd (let no : ⊥ = omega (arith, judging) in no);
})

line_is_slot : (roots : List ℕ) (dump probe : List Block) (e : Fault) → IsLine roots dump probe e → phase_of e ≡ 0 → IsLoneSlot (slots_of dump) (slots_of probe) e
line_is_slot roots dump probe (SlotsDiffer t) line phase = (t, refl, line.there)
line_is_slot roots dump probe _ line phase = absurd (let no : ⊥ = omega (arith, phase) in no)

pub all_of_slots : (roots : List ℕ) (dump probe : List Block) (first : Fault) (es : List Fault) → IsFirstThere roots dump probe first → phase_of first ≡ 0
    → AreJust (IsBeforeAt (system_of dump probe)) (IsLoneSlot (slots_of dump) (slots_of probe)) es → AreAllFaults roots dump probe es
all_of_slots roots dump probe first es is phase just =
    all_faults roots dump probe first (IsLoneSlot (slots_of dump) (slots_of probe)) es is just (slot_is_line roots dump probe)
    (λ e line same. line_is_slot roots dump probe e line (same ∙ phase))
