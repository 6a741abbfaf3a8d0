-- The functions that a dump shows and sizes tell of, one after another.
use Rattle.std.proofs.Common.{◌≡◌, ℕ, zero, suc, ◌+◌, ◌<◌, ◌≤◌, List, [], ◌∷◌, ◌++◌, length, map, take, get_or, refl, sym, ◌∙◌, ap, subst, arith}
use Rattle.std.specs.List.{Contains, flat_map}
use Rattle.std.proofs.lemmas.List.{get_or-map, get_or-take, length-map, append-nil, length-take-le, map-append, take-map, take_all, take_more}
use Rattle.std.proofs.lemmas.List.Kept.{AllPairs-from_increasing}
use Rattle.std.proofs.lemmas.Grind.{flat_map-append}
use Rattle.pci_spec.specs.Slot.{Slot, IsRising, slot_number}
use Rattle.pci_spec.specs.Text.{Block, IsDump, slots_of}
use Rattle.pci_spec.specs.Stops.{IsAboveLast, last_slot}
use Rattle.pci_spec.specs.SizesText.{SizesBlock, sized_slots}
use Rattle.pci_spec.specs.ProbeOf.{Told, told_of, probe_block, assumed_in}
use Rattle.pci_spec.specs.Mark.{AssumedRegister}
use Rattle.pci_spec.proofs.Pairing.{above_all}
use Rattle.pci_machine.proofs.Targets.{map-map}
use Rattle.pci_machine.specs.Derivation.{told_function}

-- ---- the functions

pub same_count : (dump : List Block) (sizes : List SizesBlock) → slots_of dump ≡ sized_slots sizes → length dump ≡ length sizes
same_count dump sizes same = sym (length-map {B = Slot} dump (λ b. b.slot)) ∙ ap length same ∙ length-map {B = Slot} sizes (λ b. b.slot)

pub length-told_of : (dump : List Block) (sizes : List SizesBlock) → length dump ≡ length sizes → length (told_of dump sizes) ≡ length dump
length-told_of [] sizes h = refl
length-told_of (b ∷ dump) [] h = absurd (let no : ⊥ = omega (arith, h) in no)
length-told_of (b ∷ dump) (s ∷ sizes) h = ap suc (length-told_of dump sizes (let e : length dump ≡ length sizes = omega (arith, h) in e))

pub told_at : (dump : List Block) (sizes : List SizesBlock) (k : ℕ) (b : Block) (s : SizesBlock) → k < length dump → k < length sizes → b ≡ get_or dump k b → s ≡ get_or sizes k s
    → get_or (told_of dump sizes) k (told_function b s) ≡ told_function b s
told_at [] sizes k b s within inside b_is s_is = absurd (let no : ⊥ = omega (arith, within) in no)
told_at (x ∷ dump) [] k b s within inside b_is s_is = absurd (let no : ⊥ = omega (arith, inside) in no)
told_at (x ∷ dump) (y ∷ sizes) zero b s within inside b_is s_is = λ i. told_function (sym b_is i) (sym s_is i)
told_at (x ∷ dump) (y ∷ sizes) (suc k) b s within inside b_is s_is = told_at dump sizes k b s (omega (arith, within)) (omega (arith, inside)) b_is s_is

slots-told_of : (dump : List Block) (sizes : List SizesBlock) → length dump ≡ length sizes → map (λ (f : Told). f.slot) (told_of dump sizes) ≡ slots_of dump
slots-told_of [] sizes h = refl
slots-told_of (b ∷ dump) [] h = absurd (let no : ⊥ = omega (arith, h) in no)
slots-told_of (b ∷ dump) (s ∷ sizes) h = ap (λ slots. b.slot ∷ slots) (slots-told_of dump sizes (let e : length dump ≡ length sizes = omega (arith, h) in e))

-- ---- the blocks so far

-- a slot stands above those before it
above_before : (slots : List Slot) (found : List Block) (i : ℕ) (s : Slot) → IsRising slots → slots_of found ≡ take i slots → i < length slots → get_or slots i s ≡ s → IsAboveLast (last_slot found) s
above_before slots found i s rising so_far within is =
    above_all found s (λ t there.
    let earlier : Contains (take i slots) t = subst (λ ss. Contains ss t) so_far there in
    let taken = length-take-le i slots (omega (arith, within)) in
    let j = earlier.0 in
    let short = earlier.1 in
    let before : j < i = omega (arith, taken, short) in
    let long = length-map slots slot_number in
    let less = AllPairs-from_increasing (map slot_number slots) rising j i 0 before (omega (arith, long, within)) in
    let low = get_or-map slot_number slots j t 0 (omega (arith, before, within)) ∙ ap slot_number (sym (get_or-take i slots j t before) ∙ earlier.2) in
    let high = get_or-map slot_number slots i s 0 within ∙ ap slot_number is in
    omega (arith, less, low, high))

module _ (dump : List Block) (sizes : List SizesBlock) (same : slots_of dump ≡ sized_slots sizes) where
  abbrev functions : List Told
  functions = told_of dump sizes

  slots_so_far : (i : ℕ) → slots_of (map probe_block (take i functions)) ≡ take i (slots_of dump)
  slots_so_far i =
      map-map (λ (b : Block). b.slot) probe_block (λ (f : Told). f.slot) (λ f. refl) (take i functions)
      ∙ sym (take-map (λ (f : Told). f.slot) i functions) ∙ ap (take i) (slots-told_of dump sizes (same_count dump sizes same))

  pub slots-probe_of : slots_of (map probe_block functions) ≡ slots_of dump
  slots-probe_of = map-map (λ (b : Block). b.slot) probe_block (λ (f : Told). f.slot) (λ f. refl) functions ∙ slots-told_of dump sizes (same_count dump sizes same)

  pub next_above : (i : ℕ) (b : Block) → IsDump dump → i < length dump → b ≡ get_or dump i b → IsAboveLast (last_slot (map probe_block (take i functions))) b.slot
  next_above i b is within at =
      let long = length-map dump (λ (c : Block). c.slot) in
      above_before (slots_of dump) (map probe_block (take i functions)) i b.slot is.rising (slots_so_far i) (omega (arith, long, within))
      (get_or-map (λ (c : Block). c.slot) dump i b b.slot within ∙ ap (λ (c : Block). c.slot) (sym at))

  pub all_told : (i : ℕ) → length dump ≤ i → take i functions ≡ functions
  all_told i past =
      let long = length-told_of dump sizes (same_count dump sizes same) in
      take_all i functions (omega (arith, long, past))

  module _ (i : ℕ) (f : Told) (within : i < length functions) (at : get_or functions i f ≡ f) where
    next : take (i + 1) functions ≡ take i functions ++ f ∷ []
    next = take_more functions i f within ∙ ap (λ g. take i functions ++ g ∷ []) at

    pub blocks_more : map probe_block (take (i + 1) functions) ≡ map probe_block (take i functions) ++ probe_block f ∷ []
    blocks_more = ap (map probe_block) next ∙ map-append probe_block (take i functions) (f ∷ [])

    pub assumed_more : flat_map assumed_in (take (i + 1) functions) ≡ flat_map assumed_in (take i functions) ++ assumed_in f
    assumed_more = ap (flat_map assumed_in) next ∙ flat_map-append assumed_in (take i functions) (f ∷ []) ∙ ap (λ (xs : List AssumedRegister). flat_map assumed_in (take i functions) ++ xs) (append-nil (assumed_in f))
