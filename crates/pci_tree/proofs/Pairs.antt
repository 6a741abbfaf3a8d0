-- Two lists of slots, and the functions of a dump and its probe.
use Rattle.std.proofs.Common.{refl, ◌≡◌, inl, inr, ℕ, zero, suc, ◌+◌, ◌<◌, ◌≤◌, List, [], ◌∷◌, arith, sym, ◌∙◌, ap, subst, length, get_or, take, map}
use Rattle.std.specs.List.{All, Contains}
use Rattle.std.specs.List.Sorted.{IsStrictlyIncreasing}
use Rattle.std.proofs.lemmas.Bool.{both_ways, cases_lt, false_from_ne_true}
use Rattle.std.proofs.lemmas.List.{get_or_default, get_or-take, length-take, take_more_same, length-map}
use Rattle.std.proofs.lemmas.List.Elements.{All-contains, All-more}
use Rattle.pci_spec.specs.Slot.{Slot, IsSlot, IsRising, slot_number}
use Rattle.pci_spec.specs.Text.{Block, slots_of}
use Rattle.pci_spec.specs.Fault.{IsInOne}
use Rattle.pci_spec.specs.System.{Function, function_of, system_of}
use Rattle.pci_spec.proofs.Pairing.{function-at, same_length, length-system_of}
use Rattle.pci_function.specs.Profile.{IsAnswering}
use Rattle.pci_tree.specs.Pair.{IsNoneBelow, IsPair}

-- ---- slots

pub number_same : (s t : Slot) → IsSlot s → IsSlot t → slot_number s ≡ slot_number t → s ≡ t
number_same s t hs ht e =
    let bus : s.bus ≡ t.bus = omega (arith, hs.1, hs.2, ht.1, ht.2, e) in
    let device : s.device ≡ t.device = omega (arith, hs.1, hs.2, ht.1, ht.2, e) in
    let function : s.function ≡ t.function = omega (arith, hs.1, hs.2, ht.1, ht.2, e) in
    λ i. record { bus = bus i; device = device i; function = function i }

rising_at : (ns : List ℕ) → IsStrictlyIncreasing ns → (i j : ℕ) → i < j → j < length ns → get_or ns i 0 < get_or ns j 0
rising_at ns h i zero lt within = absurd (let no : ⊥ = omega (arith, lt) in no)
rising_at ns h i (suc j) lt within =
    let e : j + 1 ≡ suc j = omega arith in
    let step : get_or ns j 0 < get_or ns (suc j) 0 = subst (λ (n : ℕ). get_or ns j 0 < get_or ns n 0) e (h j (omega (arith, within))) in
    elim (cases_lt i j) [
      | inl below ↦ let first = rising_at ns h i j below (omega (arith, within)) in omega (arith, first, step)
      | inr same ↦ let z : j ≡ i = omega (arith, same, lt) in subst (λ (n : ℕ). get_or ns n 0 < get_or ns (suc j) 0) z step
    ]

number_at : (ss : List Slot) (k : ℕ) (a : Slot) → k < length ss → get_or (map slot_number ss) k 0 ≡ slot_number (get_or ss k a)
number_at [] k a h = absurd (let no : ⊥ = omega (arith, h) in no)
number_at (s ∷ ss) zero a h = refl
number_at (s ∷ ss) (suc k) a h = number_at ss k a (omega (arith, h))

rising_slots : (ss : List Slot) (a : Slot) (i j : ℕ) → IsRising ss → i < j → j < length ss → slot_number (get_or ss i a) < slot_number (get_or ss j a)
rising_slots ss a i j h lt within =
    let long = length-map ss slot_number in
    let one = number_at ss i a (omega (arith, lt, within)) in
    let two = number_at ss j a within in
    let up = rising_at (map slot_number ss) h i j lt (omega (arith, long, within)) in
    omega (arith, one, two, up)

not_in : (ss : List Slot) (a : Slot) (i : ℕ) → IsRising ss → ((k : ℕ) → k < i → slot_number (get_or ss k a) < slot_number a) → (i < length ss → slot_number a < slot_number (get_or ss i a)) → Contains ss a → ⊥
not_in ss a i h below above (k, within, is) =
    let e = ap slot_number is in
    elim (cases_lt k i) [
      | inl low ↦ let b = below k low in omega (arith, b, e)
      | inr high ↦ elim (cases_lt i k) [
        | inl past ↦ let up = rising_slots ss a i k h past within in let first = above (omega (arith, past, within)) in omega (arith, up, first, e)
        | inr same ↦ let z : i ≡ k = omega (arith, high, same) in let first = above (omega (arith, z, within)) in let f = ap (λ (n : ℕ). slot_number (get_or ss n a)) z in omega (arith, first, f, e)
      ]
    ]

-- a slot that only the first list has, at the first place where the two differ
pub in_first : (ds ps : List Slot) (a : Slot) (i : ℕ) → IsRising ds → IsRising ps → i < length ds → get_or ds i a ≡ a → take i ds ≡ take i ps → (i < length ps → slot_number a < slot_number (get_or ps i a))
    → Contains ds a × (Contains ps a → ⊥)
in_first ds ps a i hd hp within is same above = (
  (i, within, is),
  not_in ps a i hp
      (λ k low.
      let up = rising_slots ds a k i hd low within in
      let e = ap slot_number is in
      let k_is = ap slot_number (sym (get_or-take i ds k a low) ∙ ap (λ (xs : List Slot). get_or xs k a) same ∙ get_or-take i ps k a low) in
      omega (arith, up, e, k_is))
      above,
)

-- the slot of a block at its place
pub slot_at : (blocks : List Block) (k : ℕ) (b : Block) → b ≡ get_or blocks k b → get_or (slots_of blocks) k b.slot ≡ b.slot
slot_at [] k b e = refl
slot_at (c ∷ blocks) zero b e = ap (λ (x : Block). x.slot) (sym e)
slot_at (c ∷ blocks) (suc k) b e = slot_at blocks k b e

-- the slot of another block at that place
slot_there : (blocks : List Block) (k : ℕ) (b : Block) (s : Slot) → k < length blocks → b ≡ get_or blocks k b → get_or (slots_of blocks) k s ≡ b.slot
slot_there blocks k b s within e =
    let long = length-map blocks (λ (x : Block). x.slot) in
    get_or_default (slots_of blocks) k s b.slot (omega (arith, within, long)) ∙ slot_at blocks k b e

pub in_left : (dump probe : List Block) (a p : Block) (i : ℕ) → IsRising (slots_of dump) → IsRising (slots_of probe) → i < length dump → i < length probe → a ≡ get_or dump i a → p ≡ get_or probe i p
    → take i (slots_of dump) ≡ take i (slots_of probe) → slot_number a.slot < slot_number p.slot → IsInOne dump probe a.slot
in_left dump probe a p i hd hp wd wp ea ep same less =
    let long = length-map dump (λ (x : Block). x.slot) in
    let there = ap slot_number (slot_there probe i p a.slot wp ep) in
    inl (in_first (slots_of dump) (slots_of probe) a.slot i hd hp (omega (arith, wd, long)) (slot_at dump i a ea) same (λ h. omega (arith, there, less)))

pub in_right : (dump probe : List Block) (a p : Block) (i : ℕ) → IsRising (slots_of dump) → IsRising (slots_of probe) → i < length dump → i < length probe → a ≡ get_or dump i a → p ≡ get_or probe i p
    → take i (slots_of dump) ≡ take i (slots_of probe) → slot_number p.slot < slot_number a.slot → IsInOne dump probe p.slot
in_right dump probe a p i hd hp wd wp ea ep same less =
    let long = length-map probe (λ (x : Block). x.slot) in
    let there = ap slot_number (slot_there dump i a p.slot wd ea) in
    let r = in_first (slots_of probe) (slots_of dump) p.slot i hp hd (omega (arith, wp, long)) (slot_at probe i p ep) (sym same) (λ h. omega (arith, there, less)) in
    inr (r.1, r.0)

pub in_left_more : (dump probe : List Block) (a : Block) (i : ℕ) → IsRising (slots_of dump) → IsRising (slots_of probe) → i < length dump → length probe ≤ i → a ≡ get_or dump i a
    → take i (slots_of dump) ≡ take i (slots_of probe) → IsInOne dump probe a.slot
in_left_more dump probe a i hd hp wd past ea same =
    let long = length-map dump (λ (x : Block). x.slot) in
    let other = length-map probe (λ (x : Block). x.slot) in
    inl (in_first (slots_of dump) (slots_of probe) a.slot i hd hp (omega (arith, wd, long)) (slot_at dump i a ea) same (λ h. absurd (let no : ⊥ = omega (arith, h, other, past) in no)))

pub in_right_more : (dump probe : List Block) (p : Block) (i : ℕ) → IsRising (slots_of dump) → IsRising (slots_of probe) → i < length probe → length dump ≤ i → p ≡ get_or probe i p
    → take i (slots_of dump) ≡ take i (slots_of probe) → IsInOne dump probe p.slot
in_right_more dump probe p i hd hp wp past ep same =
    let long = length-map probe (λ (x : Block). x.slot) in
    let other = length-map dump (λ (x : Block). x.slot) in
    let r = in_first (slots_of probe) (slots_of dump) p.slot i hp hd (omega (arith, wp, long)) (slot_at probe i p ep) (sym same) (λ h. absurd (let no : ⊥ = omega (arith, h, other, past) in no)) in
    inr (r.1, r.0)

-- what stands below the places where two lists begin to differ is in both
in_both : (ds ps : List Slot) (a : Slot) (i : ℕ) → IsRising ds → take i ds ≡ take i ps → (i < length ds → slot_number a ≤ slot_number (get_or ds i a))
    → (t : Slot) → slot_number t < slot_number a → Contains ds t → Contains ps t
in_both ds ps a i hd same from t low (k, within, is) = elim (cases_lt k i) [
  | inl before ↦
      let one = length-take i ds in
      let two = length-take i ps in
      let long = ap length same in
      let inside : k < length ps = omega (arith, before, within, one, two, long) in
      (k, inside, sym (get_or-take i ps k t before) ∙ ap (λ (xs : List Slot). get_or xs k t) (sym same) ∙ get_or-take i ds k t before ∙ is)
  | inr past ↦
      let first = from (omega (arith, past, within)) in
      let here = ap slot_number (get_or_default ds k a t within ∙ is) in
      absurd (elim (cases_lt i k) [
        | inl later ↦ let up = rising_slots ds a i k hd later within in omega (arith, up, first, here, low)
        | inr at ↦ let z : i ≡ k = omega (arith, past, at) in let f = ap (λ (n : ℕ). slot_number (get_or ds n a)) z in omega (arith, f, first, here, low)
      ])
]

-- no slot below is in one list alone
none_below : (dump probe : List Block) (a : Slot) (i : ℕ) → IsRising (slots_of dump) → IsRising (slots_of probe) → take i (slots_of dump) ≡ take i (slots_of probe)
    → (i < length (slots_of dump) → slot_number a ≤ slot_number (get_or (slots_of dump) i a)) → (i < length (slots_of probe) → slot_number a ≤ slot_number (get_or (slots_of probe) i a))
    → IsNoneBelow dump probe a
none_below dump probe a i hd hp same ours theirs t low one = elim one [
  | inl (there, gone) ↦ gone (in_both (slots_of dump) (slots_of probe) a i hd same ours t low there)
  | inr (gone, there) ↦ gone (in_both (slots_of probe) (slots_of dump) a i hp (sym same) theirs t low there)
]

-- of two slots at one place the lesser
pub none_below_both : (dump probe : List Block) (a p : Block) (s : Slot) (i : ℕ) → IsRising (slots_of dump) → IsRising (slots_of probe) → i < length dump → i < length probe
    → a ≡ get_or dump i a → p ≡ get_or probe i p → take i (slots_of dump) ≡ take i (slots_of probe) → slot_number s ≤ slot_number a.slot → slot_number s ≤ slot_number p.slot
    → IsNoneBelow dump probe s
none_below_both dump probe a p s i hd hp wd wp ea ep same one two =
    let ours = ap slot_number (slot_there dump i a s wd ea) in
    let theirs = ap slot_number (slot_there probe i p s wp ep) in
    none_below dump probe s i hd hp same (λ h. omega (arith, ours, one)) (λ h. omega (arith, theirs, two))

-- the slot after all those of the other list
pub none_below_left : (dump probe : List Block) (a : Block) (i : ℕ) → IsRising (slots_of dump) → IsRising (slots_of probe) → length probe ≤ i → a ≡ get_or dump i a
    → take i (slots_of dump) ≡ take i (slots_of probe) → IsNoneBelow dump probe a.slot
none_below_left dump probe a i hd hp past ea same =
    let ours = ap slot_number (slot_at dump i a ea) in
    let other = length-map probe (λ (x : Block). x.slot) in
    none_below dump probe a.slot i hd hp same (λ h. omega (arith, ours)) (λ h. absurd (let no : ⊥ = omega (arith, h, other, past) in no))

pub none_below_right : (dump probe : List Block) (p : Block) (i : ℕ) → IsRising (slots_of dump) → IsRising (slots_of probe) → length dump ≤ i → p ≡ get_or probe i p
    → take i (slots_of dump) ≡ take i (slots_of probe) → IsNoneBelow dump probe p.slot
none_below_right dump probe p i hd hp past ep same =
    let theirs = ap slot_number (slot_at probe i p ep) in
    let other = length-map dump (λ (x : Block). x.slot) in
    none_below dump probe p.slot i hd hp same (λ h. absurd (let no : ⊥ = omega (arith, h, other, past) in no)) (λ h. omega (arith, theirs))

-- one slot more is the same on both sides
pub same_more : (dump probe : List Block) (a p : Block) (i : ℕ) → i < length dump → i < length probe → a ≡ get_or dump i a → p ≡ get_or probe i p → IsSlot a.slot → IsSlot p.slot
    → take i (slots_of dump) ≡ take i (slots_of probe) → slot_number a.slot ≡ slot_number p.slot → take (i + 1) (slots_of dump) ≡ take (i + 1) (slots_of probe)
same_more dump probe a p i wd wp ea ep ha hp same e =
    let long = length-map dump (λ (x : Block). x.slot) in
    let other = length-map probe (λ (x : Block). x.slot) in
    take_more_same (slots_of dump) (slots_of probe) i a.slot (omega (arith, wd, long)) (omega (arith, wp, other)) same
    (slot_at dump i a ea ∙ number_same a.slot p.slot ha hp e ∙ sym (slot_there probe i p a.slot wp ep))

-- ---- functions

module _ (dump probe : List Block) (same : slots_of dump ≡ slots_of probe) (k : ℕ) (b p : Block) (below : k < length dump) (eb : b ≡ get_or dump k b) (ep : p ≡ get_or probe k p) where
  -- the function of the blocks at a place
  pub at_place : get_or (system_of dump probe) k (function_of b p) ≡ function_of b p
  at_place =
      let long = same_length dump probe same in
      function-at dump probe k b p (function_of b p) below (omega (arith, below, long)) ∙ (λ i. function_of (sym eb i) (sym ep i))

  -- stands there in the system
  pub placed : Contains (system_of dump probe) (function_of b p)
  placed =
      let long = length-system_of dump probe (same_length dump probe same) in
      (k, omega (arith, below, long), at_place)

  -- what holds of the functions before it and of it holds of one more
  pub holds_of_more : (Holds : Function → Type 0) → All Holds (take k (system_of dump probe)) → Holds (function_of b p) → All Holds (take (k + 1) (system_of dump probe))
  holds_of_more Holds before it =
      let long = length-system_of dump probe (same_length dump probe same) in
      All-more Holds (system_of dump probe) k (function_of b p) (omega (arith, below, long)) before (subst Holds (sym at_place) it)

-- where each function answers, they are a pair
pub answering_pair : (dump probe : List Block) → slots_of dump ≡ slots_of probe → All IsAnswering (system_of dump probe) → (roots : List ℕ) → IsPair roots dump probe
answering_pair dump probe same answering roots =
    let answers : (f : Function) → Contains (system_of dump probe) f → IsAnswering f = λ f has. All-contains IsAnswering (system_of dump probe) f answering has in
    record {
      same = same;
      slots = (λ slot there. elim there [
        | inl one ↦ one.1 (subst (λ (ss : List Slot). Contains ss slot) same one.0)
        | inr one ↦ one.0 (subst (λ (ss : List Slot). Contains ss slot) (sym same) one.1)
      ]);
      vendors = (λ slot there. both_ways _ (answers there.1.0 there.1.1).vendor there.1.3);
      layouts = (λ slot there. both_ways _ (answers there.1.0 there.1.1).header there.1.3);
      probes = (λ slot offset there. both_ways _ ((answers there.1.0 there.1.1).probe offset) there.1.3);
    }

-- and back
pub pair_answers : (dump probe : List Block) → ((roots : List ℕ) → IsPair roots dump probe) → (f : Function) → Contains (system_of dump probe) f → IsAnswering f
pair_answers dump probe pair f has =
    let is = pair [] in
    record {
      vendor = false_from_ne_true _ (λ h. is.vendors f.slot (is.same, (f, has, refl, h)));
      header = false_from_ne_true _ (λ h. is.layouts f.slot (is.same, (f, has, refl, h)));
      probe = λ offset. false_from_ne_true _ (λ h. is.probes f.slot offset (is.same, (f, has, refl, h)));
    }
