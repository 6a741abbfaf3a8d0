-- Lists of slots that rise: one slot more, and one that may not follow.
use Rattle.std.proofs.Common.{◌≡◌, ℕ, ◌+◌, ◌<◌, List, [], ◌∷◌, ◌++◌, length, get_or, map, Option, None, Some, refl, sym, ◌∙◌, ap, subst, arith, inl, inr}
use Rattle.std.proofs.lemmas.Bool.{cases_lt}
use Rattle.std.proofs.lemmas.List.{append_assoc, length-append, length-map, map-append, get_or_append_left, get_or_at}
use Rattle.pci_spec.specs.Slot.{Slot, IsRising, slot_number}
use Rattle.pci_spec.specs.Stops.{IsAboveLast}
use Rattle.pciplan_lists.specs.SlotWords.{IsSlotList, IsSlotWord}
use Rattle.pciplan_lists.proofs.Joined.{IsRead, read_all}
use Rattle.pciplan_lists.proofs.SlotWords.{slot_without_comma}

-- the last one of a list, where it has any
abbrev IsLast : Option Slot → List Slot → Type 0
IsLast None slots = slots ≡ []
IsLast (Some last) slots = (before : List Slot) × (slots ≡ before ++ last ∷ [])

-- slots that rise were read, with this last one
pub record HasRisen (whole text : List ℕ) (end : Option Slot) : Type 0 where
  pub done : List Slot
  pub read : IsRead IsSlotWord slot_without_comma whole text done
  pub rising : IsRising done
  pub last : IsLast end done

-- two slots beside one another
two_rise : (before more : List Slot) (s t : Slot) → IsRising (before ++ s ∷ t ∷ more) → slot_number s < slot_number t
two_rise before more s t rising =
    let numbers : map slot_number (before ++ s ∷ t ∷ more) ≡ map slot_number before ++ slot_number s ∷ slot_number t ∷ map slot_number more
    = map-append slot_number before (s ∷ t ∷ more) in
    let long = length-append (map slot_number before) (slot_number s ∷ slot_number t ∷ map slot_number more) in
    let one : get_or (map slot_number (before ++ s ∷ t ∷ more)) (length (map slot_number before)) 0 ≡ slot_number s
    = ap (λ l. get_or l (length (map slot_number before)) 0) numbers
    ∙ get_or_at (map slot_number before) (slot_number s) (slot_number t ∷ map slot_number more) 0 (length (map slot_number before)) refl in
    let regroup : map slot_number before ++ slot_number s ∷ slot_number t ∷ map slot_number more
    ≡ (map slot_number before ++ slot_number s ∷ []) ++ slot_number t ∷ map slot_number more
    = sym (append_assoc (map slot_number before) (slot_number s ∷ []) (slot_number t ∷ map slot_number more)) in
    let other : get_or (map slot_number (before ++ s ∷ t ∷ more)) (length (map slot_number before) + 1) 0 ≡ slot_number t
    = ap (λ l. get_or l (length (map slot_number before) + 1) 0) (numbers ∙ regroup)
    ∙ get_or_at (map slot_number before ++ slot_number s ∷ []) (slot_number t) (map slot_number more) 0 (length (map slot_number before) + 1)
    (length-append (map slot_number before) (slot_number s ∷ [])) in
    let rises = rising (length (map slot_number before)) (omega (arith, ap length numbers, long)) in
    omega (arith, rises, one, other)

-- what stands last in a list with one more is behind what stood last before
rises_at_end : (last : Option Slot) (slots : List Slot) (s : Slot) → IsLast last slots → IsAboveLast last s → (k : ℕ) → k + 1 ≡ length slots
    → get_or (map slot_number slots) k 0 < slot_number s
rises_at_end None slots s is above k e = absurd (let no : ⊥ = omega (arith, e, ap length is) in no)
rises_at_end (Some last) slots s (before, is) above k e =
    let long = length-append before (last ∷ []) in
    let at : get_or (map slot_number slots) k 0 ≡ slot_number last
    = ap (λ l. get_or l k 0) (ap (map slot_number) is ∙ map-append slot_number before (last ∷ []))
    ∙ get_or_at (map slot_number before) (slot_number last) [] 0 k (omega (arith, e, ap length is, long, length-map before slot_number)) in
    omega (arith, above, at)

rises_more : (last : Option Slot) (slots : List Slot) (s : Slot) → IsLast last slots → IsAboveLast last s → IsRising slots → IsRising (slots ++ s ∷ [])
rises_more last slots s is above rising k within =
    let numbers : map slot_number (slots ++ s ∷ []) ≡ map slot_number slots ++ slot_number s ∷ [] = map-append slot_number slots (s ∷ []) in
    let long = length-append (map slot_number slots) (slot_number s ∷ []) in
    let same : length (map slot_number slots) ≡ length slots = length-map slots slot_number in
    let old : k < length slots → get_or (map slot_number (slots ++ s ∷ [])) k 0 ≡ get_or (map slot_number slots) k 0
    = λ inside. ap (λ l. get_or l k 0) numbers ∙ get_or_append_left (map slot_number slots) (slot_number s ∷ []) 0 k (omega (arith, inside, same)) in
    elim (cases_lt (k + 1) (length slots)) [
      | inl early ↦
          let one = old (omega (arith, early)) in
          let other : get_or (map slot_number (slots ++ s ∷ [])) (k + 1) 0 ≡ get_or (map slot_number slots) (k + 1) 0
          = ap (λ l. get_or l (k + 1) 0) numbers ∙ get_or_append_left (map slot_number slots) (slot_number s ∷ []) 0 (k + 1) (omega (arith, early, same)) in
          let less = rising k (omega (arith, early, same)) in
          omega (arith, one, other, less)
      | inr late ↦
          let end : k + 1 ≡ length slots = omega (arith, late, within, ap length numbers, long, same) in
          let one = old (omega (arith, end)) in
          let other : get_or (map slot_number (slots ++ s ∷ [])) (k + 1) 0 ≡ slot_number s
          = ap (λ l. get_or l (k + 1) 0) numbers ∙ get_or_at (map slot_number slots) (slot_number s) [] 0 (k + 1) (omega (arith, end, same)) in
          let less = rises_at_end last slots s is above k end in
          omega (arith, one, other, less)
    ]

-- ---- what was read

pub one_risen : (whole text rest : List ℕ) (last : Option Slot) (s : Slot) → (risen : HasRisen whole text last)
    → IsRead IsSlotWord slot_without_comma whole rest (risen.done ++ s ∷ []) → IsAboveLast last s → HasRisen whole rest (Some s)
one_risen whole text rest last s risen read above = record {
  done = risen.done ++ s ∷ [];
  read = read;
  rising = rises_more last risen.done s risen.last above risen.rising;
  last = (risen.done, refl);
}

falls : (last : Option Slot) (done more : List Slot) (s : Slot) → IsLast last done → (IsAboveLast last s → ⊥) → IsRising ((done ++ s ∷ []) ++ more) → ⊥
falls None done more s is above rising = above tt
falls (Some last) done more s (before, is) above rising =
    above (two_rise before more last s (subst IsRising
    (append_assoc done (s ∷ []) more ∙ ap (λ l. l ++ s ∷ more) is ∙ append_assoc before (last ∷ []) (s ∷ more)) rising))

pub fallen : (word left : List ℕ) (last : Option Slot) (done : List Slot) (s : Slot) → IsLast last done
    → IsRead IsSlotWord slot_without_comma (44 ∷ word) left (done ++ s ∷ []) → (IsAboveLast last s → ⊥) → IsSlotList word → ⊥
fallen word left last done s is read above (slots, list) =
    let behind = read.back slots list.joined in
    falls last done behind.more s is above (subst IsRising behind.parts list.rising)

pub all_risen : (word : List ℕ) (last : Option Slot) → HasRisen (44 ∷ word) [] last → IsSlotList word
all_risen word last risen = (
  risen.done,
  record {
    joined = read_all IsSlotWord slot_without_comma word risen.done risen.read;
    rising = risen.rising;
  },
)
