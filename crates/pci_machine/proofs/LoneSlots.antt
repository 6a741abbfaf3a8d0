-- The least slot that only one of two lists has.
use Rattle.std.proofs.Common.{◌≡◌, ℕ, ◌+◌, ◌<◌, ◌≤◌, nat_le, Bool, true, false, List, [], ◌∷◌, length, map, take, get_or, Some, None, refl, inl, inr, arith, sym, ◌∙◌, ap, subst}
use Rattle.std.specs.Prelude.{not, ◌⊎◌}
use Rattle.std.specs.List.{Contains, filter, find, list_all, list_any}
use Rattle.std.proofs.Math.ListN.{get_or-map}
use Rattle.std.proofs.lemmas.Bool.{both_ways, cases_Bool, cases_lt, cond-true, cond-false, leb-true, le-leb, not-true, not_from_false}
use Rattle.std.proofs.lemmas.Option.{none-some, same_Some}
use Rattle.std.proofs.lemmas.List.{take_all, length-map}
use Rattle.std.proofs.lemmas.List.Elements.{All-contains, Contains-append_left, Contains-append_right, Contains-append_cases}
use Rattle.pci_spec.specs.Slot.{Slot, IsSlot, IsRising, slot_number, same_slot}
use Rattle.pci_spec.specs.Text.{Block, IsBlock, IsDump, slots_of}
use Rattle.pci_spec.specs.SizesText.{SizesBlock, IsSizesBlock, IsSizes, sized_slots}
use Rattle.pci_spec.specs.ProbeOf.{least_slot, lone_slots}
use Rattle.pci_spec.specs.Fault.{IsInOne}
use Rattle.pci_spec.proofs.BusRanges.{all_gives, all_from, any_gives, any_from}
use Rattle.pci_spec.proofs.Members.{IsMade, in_filter_to, in_filter_from, in_map_to, in_head, in_tail}
use Rattle.pci_spec.proofs.SameSlot.{slots_same}
use Rattle.pci_tree.specs.Pair.{IsNoneBelow}
use Rattle.pci_tree.proofs.Pairs.{number_same, in_left, in_right, in_left_more, in_right_more, none_below_both, none_below_left, none_below_right, same_more}
use Rattle.pci_machine.proofs.Targets.{same_slot-same, find-test, find-none, any-find, map-map}

-- ---- lone slots

-- whether a list has a slot
abbrev has : List Slot → Slot → Bool
has slots s = list_any (same_slot s) slots

has_true : (slots : List Slot) (s : Slot) → Contains slots s → has slots s ≡ true
has_true slots s is = any_from (same_slot s) slots s is (same_slot-same s)

has_false : (slots : List Slot) (s : Slot) → (Contains slots s → ⊥) → has slots s ≡ false
has_false slots s gone = elim (cases_Bool (has slots s)) [
  | inl yes_there ↦
      let found = any_gives (same_slot s) slots yes_there in
      absurd (gone (subst (λ t. Contains slots t) (sym (slots_same s found.0 found.2)) found.1))
  | inr none ↦ none
]

abbrev IsLone : List Slot → List Slot → Slot → Type 0
IsLone ds ss s = (Contains ds s × (Contains ss s → ⊥)) ⊎ ((Contains ds s → ⊥) × Contains ss s)

lone_to : (ds ss : List Slot) (s : Slot) → Contains (lone_slots ds ss) s → IsLone ds ss s
lone_to ds ss s is = elim (Contains-append_cases (filter (λ t. not (has ss t)) ds) (filter (λ t. not (has ds t)) ss) s is) [
  | inl ours ↦
      let parts = in_filter_to (λ t. not (has ss t)) ds s ours in
      inl (parts.0, λ there. both_ways _ (not-true (has ss s) parts.1) (has_true ss s there))
  | inr theirs ↦
      let parts = in_filter_to (λ t. not (has ds t)) ss s theirs in
      inr ((λ there. both_ways _ (not-true (has ds s) parts.1) (has_true ds s there)), parts.0)
]

lone_from : (ds ss : List Slot) (s : Slot) → IsLone ds ss s → Contains (lone_slots ds ss) s
lone_from ds ss s is = elim is [
  | inl ours ↦
      Contains-append_left (filter (λ t. not (has ss t)) ds) (filter (λ t. not (has ds t)) ss) s
      (in_filter_from (λ t. not (has ss t)) ds s ours.0 (not_from_false (has ss s) (has_false ss s ours.1)))
  | inr theirs ↦
      Contains-append_right (filter (λ t. not (has ss t)) ds) (filter (λ t. not (has ds t)) ss) s
      (in_filter_from (λ t. not (has ds t)) ss s theirs.1 (not_from_false (has ds s) (has_false ds s theirs.0)))
]

-- ---- the least

find_in : {X : Type 0} (test : X → Bool) (xs : List X) (x : X) → find test xs ≡ Some x → Contains xs x
find_in test [] x e = absurd (none-some x e)
find_in test (y ∷ xs) x e = elim (cases_Bool (test y)) [
  | inl yes_here ↦ subst (λ z. Contains (y ∷ xs) z) (same_Some y x (sym (cond-true (test y) (Some y) (find test xs) yes_here) ∙ e)) (in_head y xs)
  | inr not_here ↦ in_tail y xs x (find_in test xs x (sym (cond-false (test y) (Some y) (find test xs) not_here) ∙ e))
]

module _ (slots : List Slot) (each : (t : Slot) → Contains slots t → IsSlot t) where
  abbrev is_least : Slot → Bool
  is_least s = list_all (λ t. nat_le (slot_number s) (slot_number t)) slots

  least_is : (s : Slot) → Contains slots s → ((t : Slot) → Contains slots t → slot_number s ≤ slot_number t) → least_slot slots ≡ Some s
  least_is s there low =
      let least : is_least s ≡ true = all_from (λ t. nat_le (slot_number s) (slot_number t)) slots (λ t in_slots. le-leb (slot_number s) (slot_number t) (low t in_slots)) in
      let found = any-find is_least slots (any_from is_least slots s there least) in
      let in_slots = find_in is_least slots found.0 found.1 in
      let below = leb-true (slot_number found.0) (slot_number s) (all_gives (λ t. nat_le (slot_number found.0) (slot_number t)) slots (find-test is_least slots found.0 found.1) s there) in
      let above = low found.0 in_slots in
      found.1 ∙ ap Some (number_same found.0 s (each found.0 in_slots) (each s there) (let e : slot_number found.0 ≡ slot_number s = omega (arith, below, above) in e))

  none_is : ((t : Slot) → Contains slots t → ⊥) → least_slot slots ≡ None
  none_is empty = find-none is_least slots (elim (cases_Bool (list_any is_least slots)) [
    | inl some ↦ let found = any_gives is_least slots some in absurd (empty found.0 found.1)
    | inr none ↦ none
  ])

-- ---- of a dump and sizes

-- a block at the slot, as it would stand in a dump
abbrev pub listed : SizesBlock → Block
listed b = record { slot = b.slot; title = None; image = [] }

pub slots_listed : (sizes : List SizesBlock) → slots_of (map listed sizes) ≡ sized_slots sizes
slots_listed sizes = map-map (λ (b : Block). b.slot) listed (λ (b : SizesBlock). b.slot) (λ b. refl) sizes

module _ (dump : List Block) (sizes : List SizesBlock) (hd : IsDump dump) (hs : IsSizes sizes) where
  slot_of_lone : (t : Slot) → Contains (lone_slots (slots_of dump) (sized_slots sizes)) t → IsSlot t
  slot_of_lone t is = elim (lone_to (slots_of dump) (sized_slots sizes) t is) [
    | inl ours ↦
        let made : IsMade (λ (b : Block). b.slot) dump t = in_map_to (λ (b : Block). b.slot) dump t ours.0 in
        subst IsSlot made.is (All-contains IsBlock dump made.from hd.each made.has).slot
    | inr theirs ↦
        let made : IsMade (λ (b : SizesBlock). b.slot) sizes t = in_map_to (λ (b : SizesBlock). b.slot) sizes t theirs.1 in
        subst IsSlot made.is (All-contains IsSizesBlock sizes made.from hs.each made.has).slot
  ]

  -- the slots as those of two dumps
  lone_of : (t : Slot) → IsInOne dump (map listed sizes) t → IsLone (slots_of dump) (sized_slots sizes) t
  lone_of t is = subst (λ ss. IsLone (slots_of dump) ss t) (slots_listed sizes) is

  in_one_of : (t : Slot) → IsLone (slots_of dump) (sized_slots sizes) t → IsInOne dump (map listed sizes) t
  in_one_of t is = subst (λ ss. IsLone (slots_of dump) ss t) (sym (slots_listed sizes)) is

  pub lone_is : (s : Slot) → IsInOne dump (map listed sizes) s → IsNoneBelow dump (map listed sizes) s → least_slot (lone_slots (slots_of dump) (sized_slots sizes)) ≡ Some s
  lone_is s one none =
      least_is (lone_slots (slots_of dump) (sized_slots sizes)) slot_of_lone s (lone_from (slots_of dump) (sized_slots sizes) s (lone_of s one))
      (λ t is. elim (cases_lt (slot_number t) (slot_number s)) [
        | inl low ↦ absurd (none t low (in_one_of t (lone_to (slots_of dump) (sized_slots sizes) t is)))
        | inr high ↦ high
      ])

  pub none_lone : slots_of dump ≡ sized_slots sizes → least_slot (lone_slots (slots_of dump) (sized_slots sizes)) ≡ None
  none_lone same = none_is (lone_slots (slots_of dump) (sized_slots sizes)) slot_of_lone (λ t is. elim (lone_to (slots_of dump) (sized_slots sizes) t is) [
    | inl ours ↦ ours.1 (subst (λ ss. Contains ss t) same ours.0)
    | inr theirs ↦ theirs.0 (subst (λ ss. Contains ss t) (sym same) theirs.1)
  ])

  -- what stands at a place of the sizes
  listed_at : (i : ℕ) (s : SizesBlock) → s ≡ get_or sizes i s → listed s ≡ get_or (map listed sizes) i (listed s)
  listed_at i s is = ap listed is ∙ sym (get_or-map listed sizes i s)

  rising_listed : IsRising (slots_of (map listed sizes))
  rising_listed = subst IsRising (sym (slots_listed sizes)) hs.rising

  long_listed : length (map listed sizes) ≡ length sizes
  long_listed = length-map sizes listed

  module _ (i : ℕ) (same : take i (slots_of dump) ≡ take i (sized_slots sizes)) where
    same_listed : take i (slots_of dump) ≡ take i (slots_of (map listed sizes))
    same_listed = same ∙ ap (take i) (sym (slots_listed sizes))

    -- the dump goes on, and the sizes end
    pub ours_alone : (b : Block) → i < length dump → length sizes ≤ i → b ≡ get_or dump i b → least_slot (lone_slots (slots_of dump) (sized_slots sizes)) ≡ Some b.slot
    ours_alone b within past is =
        let long = long_listed in
        let over : length (map listed sizes) ≤ i = omega (arith, long, past) in
        lone_is b.slot (in_left_more dump (map listed sizes) b i hd.rising rising_listed within over is same_listed)
        (none_below_left dump (map listed sizes) b i hd.rising rising_listed over is same_listed)

    -- the sizes go on, and the dump ends
    pub theirs_alone : (s : SizesBlock) → i < length sizes → length dump ≤ i → s ≡ get_or sizes i s → least_slot (lone_slots (slots_of dump) (sized_slots sizes)) ≡ Some s.slot
    theirs_alone s within past is =
        let long = long_listed in
        lone_is s.slot (in_right_more dump (map listed sizes) (listed s) i hd.rising rising_listed (omega (arith, long, within)) past (listed_at i s is) same_listed)
        (none_below_right dump (map listed sizes) (listed s) i hd.rising rising_listed past (listed_at i s is) same_listed)

    module _ (b : Block) (s : SizesBlock) (within : i < length dump) (inside : i < length sizes) (b_is : b ≡ get_or dump i b) (s_is : s ≡ get_or sizes i s) where
      in_listed : i < length (map listed sizes)
      in_listed = let long = long_listed in omega (arith, long, inside)

      pub ours_lower : slot_number b.slot < slot_number s.slot → least_slot (lone_slots (slots_of dump) (sized_slots sizes)) ≡ Some b.slot
      ours_lower less =
          lone_is b.slot (in_left dump (map listed sizes) b (listed s) i hd.rising rising_listed within in_listed b_is (listed_at i s s_is) same_listed less)
          (none_below_both dump (map listed sizes) b (listed s) b.slot i hd.rising rising_listed within in_listed b_is (listed_at i s s_is) same_listed (omega arith) (omega (arith, less)))

      pub theirs_lower : slot_number s.slot < slot_number b.slot → least_slot (lone_slots (slots_of dump) (sized_slots sizes)) ≡ Some s.slot
      theirs_lower less =
          lone_is s.slot (in_right dump (map listed sizes) b (listed s) i hd.rising rising_listed within in_listed b_is (listed_at i s s_is) same_listed less)
          (none_below_both dump (map listed sizes) b (listed s) s.slot i hd.rising rising_listed within in_listed b_is (listed_at i s s_is) same_listed (omega (arith, less)) (omega arith))

      -- both have the slot
      pub one_slot : slot_number b.slot ≡ slot_number s.slot → take (i + 1) (slots_of dump) ≡ take (i + 1) (sized_slots sizes)
      one_slot e =
          let block : IsBlock b = subst IsBlock (sym b_is) (hd.each i b within) in
          let sized : IsSizesBlock s = subst IsSizesBlock (sym s_is) (hs.each i s inside) in
          same_more dump (map listed sizes) b (listed s) i within in_listed b_is (listed_at i s s_is) block.slot sized.slot same_listed e
          ∙ ap (take (i + 1)) (slots_listed sizes)

    -- neither goes on
    pub both_end : length dump ≤ i → length sizes ≤ i → slots_of dump ≡ sized_slots sizes
    both_end past over =
        let ours = length-map dump (λ (b : Block). b.slot) in
        let theirs = length-map sizes (λ (b : SizesBlock). b.slot) in
        sym (take_all i (slots_of dump) (omega (arith, ours, past))) ∙ same ∙ take_all i (sized_slots sizes) (omega (arith, theirs, over))
