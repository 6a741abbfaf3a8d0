-- Tables of which functions sleep, and of the buses below bridges that do.
use Rattle.std.specs.Prelude.{◌||◌, ◌&&◌, ◌⊎◌}
use Rattle.std.proofs.Common.{◌≡◌, ℕ, ◌+◌, ◌<◌, ◌≤◌, Bool, true, false, List, [], ◌∷◌, ◌++◌, length, get_or, set, replicate, inl, inr, refl, arith, sym, ◌∙◌, ap, ltb, leb}
use Rattle.std.specs.List.{list_any}
use Rattle.std.proofs.Math.Bool.{or-true, or-false, and-false}
use Rattle.std.proofs.lemmas.Bool.{cases_Bool, cases_eq, cases_lt, and_from, both_ways, lt-ltb, le-ltb, le-leb, lt-leb}
use Rattle.std.proofs.lemmas.List.{get_or-replicate, get_or-set_same, get_or-set_other, length-replicate, length-set}
use Rattle.std.proofs.lemmas.List.Folds.{list_any-append}
use Rattle.pci_spec.specs.Slot.{Slot, IsSlot, slot_number, same_slot}
use Rattle.pci_spec.specs.Text.{Block}
use Rattle.pci_spec.specs.System.{is_bridge, function_of, system_of}
use Rattle.pci_spec.specs.Bus.{is_behind}
use Rattle.pci_spec.proofs.Regions.{slot_number-same}
use Rattle.pci_spec.proofs.SameSlot.{slot_itself, slots_same}
use Rattle.pci_model_settle.specs.Unmoved.{is_among, is_below}
use Rattle.pci_model_settle.specs.SleepTables.{IsSlotTable, IsBelowTable, is_above_by}

-- one element more
any_more : {X : Type 0} (p : X → Bool) (xs : List X) (x : X) → list_any p (xs ++ x ∷ []) ≡ (list_any p xs || p x)
any_more p xs x = list_any-append p xs (x ∷ []) ∙ ap (λ b. list_any p xs || b) (or-false (p x))

-- ---- slots

pub no_slots : IsSlotTable [] (replicate 65536 false)
no_slots = record {
  size = length-replicate 65536 false;
  each = λ slot is. get_or-replicate 65536 (slot_number slot) false false (below_all slot is);
} where
  below_all : (slot : Slot) → IsSlot slot → slot_number slot < 65536
  below_all slot is = let bus = is.0 in let device = is.1 in let function = is.2 in omega (arith, bus, device, function)

pub more_slots : (slots : List Slot) (table : List Bool) (t : Slot) → IsSlot t → slot_number t < 65536 → IsSlotTable slots table → IsSlotTable (slots ++ t ∷ []) (set table (slot_number t) true)
more_slots slots table t is small so_far =
    let size = so_far.size in
    record {
      size = length-set table (slot_number t) true ∙ size;
      each = λ s is_s. elim (cases_Bool (same_slot s t)) [
        | inl same ↦
            ap (λ (x : Slot). get_or (set table (slot_number t) true) (slot_number x) false) (slots_same s t same)
            ∙ get_or-set_same table (slot_number t) true false (omega (arith, size, small))
            ∙ sym (any_more (same_slot s) slots t ∙ ap (λ b. is_among slots s || b) same ∙ or-true (is_among slots s))
        | inr other ↦
            get_or-set_other table (slot_number t) (slot_number s) true false
            (λ e. both_ways (same_slot s t) other (ap (λ (x : Slot). same_slot s x) (sym (slot_number-same s t is_s is e)) ∙ slot_itself s))
            ∙ so_far.each s is_s
            ∙ sym (any_more (same_slot s) slots t ∙ ap (λ b. is_among slots s || b) other ∙ or-false (is_among slots s))
      ];
    }

-- ---- buses

-- a table by bus where the buses from the first one up to another are noted
pub record IsNoted (old : List Bool) (first end i : ℕ) (table : List Bool) : Type 0 where
  pub size : length table ≡ 256
  pub from : first ≤ i
  pub reached : (i ≤ end) ⊎ (i ≡ first)
  pub each : (n : ℕ) → n < 256 → get_or table n false ≡ (get_or old n false || (leb first n && ltb n i))

none_between : (first n : ℕ) → (leb first n && ltb n first) ≡ false
none_between first n = elim (cases_lt n first) [
  | inl low ↦ ap (λ b. b && ltb n first) (lt-leb first n low)
  | inr high ↦ ap (λ b. leb first n && b) (le-ltb n first high) ∙ and-false (leb first n)
]

pub noted_none : (old : List Bool) (first end : ℕ) → length old ≡ 256 → IsNoted old first end first old
noted_none old first end size = record {
  size = size;
  from = omega arith;
  reached = inr refl;
  each = λ n less. sym (ap (λ b. get_or old n false || b) (none_between first n) ∙ or-false (get_or old n false));
}

pub noted_more : (old table : List Bool) (first end i : ℕ) → i < end → end ≤ 256 → IsNoted old first end i table → IsNoted old first end (i + 1) (set table i true)
noted_more old table first end i inside small so_far =
    let size = so_far.size in
    let from = so_far.from in
    record {
      size = length-set table i true ∙ size;
      from = omega (arith, from);
      reached = inl (omega (arith, inside));
      each = λ n less. elim (cases_eq n i) [
        | inl same ↦
            ap (λ k. get_or (set table i true) k false) same ∙ get_or-set_same table i true false (omega (arith, size, inside, small))
            ∙ sym (ap (λ b. get_or old n false || b) (and_from (leb first n) (ltb n (i + 1)) (le-leb first n (omega (arith, from, same))) (lt-ltb n (i + 1) (omega (arith, same)))) ∙ or-true (get_or old n false))
        | inr other ↦
            get_or-set_other table i n true false other ∙ so_far.each n less ∙ ap (λ b. get_or old n false || (leb first n && b)) (same_test n other)
      ];
    } where
      same_test : (n : ℕ) → (n ≡ i → ⊥) → ltb n i ≡ ltb n (i + 1)
      same_test n other = elim (cases_lt n i) [
        | inl low ↦ lt-ltb n i low ∙ sym (lt-ltb n (i + 1) (omega (arith, low)))
        | inr high ↦ le-ltb n i high ∙ sym (le-ltb n (i + 1) (elim (cases_eq n i) [
          | inl e ↦ absurd (other e)
          | inr ne ↦ omega (arith, high, ne)
        ]))
      ]

-- all of them
pub noted_all : (old table : List Bool) (first last i : ℕ) → last + 1 ≤ i → IsNoted old first (last + 1) i table → (n : ℕ) → n < 256
    → get_or table n false ≡ (get_or old n false || (leb first n && leb n last))
noted_all old table first last i done so_far n less = so_far.each n less ∙ ap (λ b. get_or old n false || b) (elim so_far.reached [
  | inl end ↦ ap (λ b. leb first n && b) (elim (cases_lt last n) [
    | inl high ↦ le-ltb n i (omega (arith, high, end)) ∙ sym (lt-leb n last high)
    | inr low ↦ lt-ltb n i (omega (arith, low, done)) ∙ sym (le-leb n last low)
  ])
  | inr empty ↦ elim (cases_lt n first) [
    | inl low ↦ ap (λ b. b && ltb n i) (lt-leb first n low) ∙ sym (ap (λ b. b && leb n last) (lt-leb first n low))
    | inr high ↦ ap (λ b. leb first n && b) (le-ltb n i (omega (arith, high, empty)) ∙ sym (lt-leb n last (omega (arith, high, empty, done))))
  ]
])

-- ---- below bridges

pub no_below : (slots : List Slot) → IsBelowTable slots [] (replicate 256 false)
no_below slots = record {
  size = length-replicate 256 false;
  each = λ bus small. get_or-replicate 256 bus false false small;
}

-- a block that isn't of a sleeping bridge
pub same_below : (slots : List Slot) (blocks : List Block) (b : Block) (table : List Bool) → (is_bridge (function_of b b) && is_among slots b.slot) ≡ false
    → IsBelowTable slots blocks table → IsBelowTable slots (blocks ++ b ∷ []) table
same_below slots blocks b table off so_far = record {
  size = so_far.size;
  each = λ bus small. so_far.each bus small ∙ sym (any_more (is_above_by slots bus) blocks b ∙ ap (λ x. list_any (is_above_by slots bus) blocks || x) (no_part (is_bridge (function_of b b)) (is_behind (function_of b b) bus) (is_among slots b.slot) off) ∙ or-false _);
} where
  no_part : (x y z : Bool) → (x && z) ≡ false → ((x && y) && z) ≡ false
  no_part true true z off = off
  no_part true false z off = refl
  no_part false y z off = refl

-- one that is
pub more_below : (slots : List Slot) (blocks : List Block) (b : Block) (table next : List Bool) → is_bridge (function_of b b) ≡ true → is_among slots b.slot ≡ true → length next ≡ 256
    → ((bus : ℕ) → bus < 256 → get_or next bus false ≡ (get_or table bus false || is_behind (function_of b b) bus))
    → IsBelowTable slots blocks table → IsBelowTable slots (blocks ++ b ∷ []) next
more_below slots blocks b table next bridge sleeps size noted so_far = record {
  size = size;
  each = λ bus small. noted bus small ∙ ap (λ x. x || is_behind (function_of b b) bus) (so_far.each bus small)
      ∙ sym (any_more (is_above_by slots bus) blocks b ∙ ap (λ x. list_any (is_above_by slots bus) blocks || x) (its_part (is_bridge (function_of b b)) (is_behind (function_of b b) bus) (is_among slots b.slot) bridge sleeps));
} where
  whole : (y : Bool) → (y && true) ≡ y
  whole true = refl
  whole false = refl

  its_part : (x y z : Bool) → x ≡ true → z ≡ true → ((x && y) && z) ≡ y
  its_part x y z on also = ap (λ p. (p && y) && z) on ∙ ap (λ p. y && p) also ∙ whole y

-- what it tells of a system with these blocks
pub below_is : (slots : List Slot) (blocks probes : List Block) (bus : ℕ) → length blocks ≡ length probes → list_any (is_above_by slots bus) blocks ≡ is_below slots (system_of blocks probes) bus
below_is slots [] probes bus e = refl
below_is slots (b ∷ blocks) [] bus e = absurd (let no : ⊥ = omega (arith, e) in no)
below_is slots (b ∷ blocks) (p ∷ probes) bus e =
    let rest = below_is slots blocks probes bus (omega (arith, e)) in
    elim (cases_Bool (is_bridge (function_of b b) && is_behind (function_of b b) bus)) [
      | inl on ↦ rw (on, rest) refl
      | inr off ↦ rw (off, rest) refl
    ]
