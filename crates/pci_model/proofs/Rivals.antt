-- Bridges of the class of subtractive decoding that are alone on their bus, by the blocks of a dump.
use Rattle.std.proofs.Common.{◌≡◌, ℕ, ◌+◌, ◌<◌, List, [], ◌∷◌, length, get_or, Bool, true, false, ◌&&◌, ◌||◌, not, inl, inr, arith, refl, sym, ◌∙◌, ap, subst}
use Rattle.std.specs.List.{AllWithin, list_any}
use Rattle.std.proofs.lemmas.Bool.{and_cases, and_left, and_right, cases_Bool, cases_lt, ne_eqb}
use Rattle.std.proofs.lemmas.List.Folds.{list_any_at, list_any_none}
use Rattle.pci_spec.specs.Slot.{Slot}
use Rattle.pci_spec.specs.Text.{Block, IsDump, slots_of}
use Rattle.pci_spec.specs.System.{Function, System, function_of, system_of}
use Rattle.pci_spec.specs.Fault.{is_subtractive_bridge}
use Rattle.pci_spec.proofs.Pairing.{same_length, slots-system_of}
use Rattle.judge_spec.specs.Words.{is_alone, is_rival}
use Rattle.judge_spec.specs.ModelWords.{Words}
use Rattle.judge_spec.specs.Taken.{is_anyone_behind, takes_by}
use Rattle.judge_spec.specs.Bytes.{positive}
use Rattle.pci_model.specs.Subtractive.{is_rival_block, takes_block, unclaimed_aside_of}
use Rattle.pci_model.proofs.Behind.{buses_rise, same_place}

-- no read back says who is a rival
rivals_shown : (b : Function) (dump probe : List Block) → length dump ≡ length probe → list_any (is_rival b) (system_of dump probe) ≡ list_any (is_rival_block b.slot) dump
rivals_shown b [] probe h = refl
rivals_shown b (x ∷ dump) [] h = absurd (let no : ⊥ = omega (arith, h) in no)
rivals_shown b (x ∷ dump) (p ∷ probe) h = ap (λ (more : Bool). is_rival_block b.slot x || more) (rivals_shown b dump probe (omega (arith, h)))

pub alone_shown : (dump probe : List Block) (f : Function) → slots_of dump ≡ slots_of probe
    → is_alone (system_of dump probe) f ≡ (is_subtractive_bridge f.image && not (list_any (is_rival_block f.slot) dump))
alone_shown dump probe f same = ap (λ (some : Bool). is_subtractive_bridge f.image && not some) (rivals_shown f dump probe (same_length dump probe same))

-- nor who takes what nobody claims
pub takes_shown : (w : Words) (dump probe : List Block) (b p : Block) → slots_of dump ≡ slots_of probe → takes_by w (system_of dump probe) (function_of b p) ≡ takes_block w dump b
takes_shown w dump probe b p same =
    let alone = alone_shown dump probe (function_of b p) same ∙ sym (alone_shown dump dump (function_of b b) refl) in
    let slots = slots-system_of dump probe same ∙ sym (slots-system_of dump dump refl) in
    λ i. w.unclaimed && alone i && not (w.subtractive && not (is_anyone_behind (slots i) (function_of b b)))

-- ---- a search on the bus

other_bus : (slot : Slot) (b : Block) → (b.slot.bus ≡ slot.bus → ⊥) → is_rival_block slot b ≡ false
other_bus slot b other = and_left _ _ (and_right (is_subtractive_bridge b.image) _ (ne_eqb b.slot.bus slot.bus other))

pub none_below : (blocks : List Block) (slot : Slot) (first : ℕ) → AllWithin (λ b. b.slot.bus < slot.bus) blocks 0 first → AllWithin (λ b. is_rival_block slot b ≡ false) blocks 0 first
none_below blocks slot first before k d from less = let low = before k d from less in other_bus slot (get_or blocks k d) (λ e. omega (arith, low, e))

-- one block further
pub none_to : (blocks : List Block) (slot : Slot) (i : ℕ) (b : Block) → AllWithin (λ x. is_rival_block slot x ≡ false) blocks 0 i → i < length blocks → b ≡ get_or blocks i b → is_rival_block slot b ≡ false
    → AllWithin (λ x. is_rival_block slot x ≡ false) blocks 0 (i + 1)
none_to blocks slot i b none inside at free k d from less = elim (cases_lt k i) [
  | inl before ↦ none k d from before
  | inr past ↦ (
      let here : i ≡ k = omega (arith, less, past) in
      subst (λ (j : ℕ). is_rival_block slot (get_or blocks j d) ≡ false) here (ap (is_rival_block slot) (sym (at ∙ same_place blocks i b d inside)) ∙ free)
      )
]

-- behind the bus there is none
pub no_rival : (blocks : List Block) (slot : Slot) (i : ℕ) → IsDump blocks → AllWithin (λ x. is_rival_block slot x ≡ false) blocks 0 i
    → (i < length blocks → (d : Block) → slot.bus < (get_or blocks i d).slot.bus) → list_any (is_rival_block slot) blocks ≡ false
no_rival blocks slot i dump none above = list_any_none (is_rival_block slot) blocks (λ k d within. elim (cases_lt k i) [
  | inl before ↦ none k d (omega arith) before
  | inr past ↦ (
      let first = above (omega (arith, within, past)) d in
      let up = buses_rise blocks dump i k d past within in
      other_bus slot (get_or blocks k d) (λ e. omega (arith, first, up, e))
      )
])

pub one_rival : (blocks : List Block) (slot : Slot) (i : ℕ) (b : Block) → i < length blocks → b ≡ get_or blocks i b → is_rival_block slot b ≡ true → list_any (is_rival_block slot) blocks ≡ true
one_rival blocks slot i b inside at is = list_any_at (is_rival_block slot) blocks i b inside (ap (is_rival_block slot) (sym at) ∙ is)

-- ---- what is made positive

pub made_positive : (w : Words) (s : System) (f : Function) → w.unclaimed ≡ true → is_alone s f ≡ true → record { slot = f.slot; image = positive f.image; probe = f.probe } ≡ unclaimed_aside_of w s f
made_positive w s f counts alone = rw (counts, alone) refl

pub left_as_is : (w : Words) (s : System) (f : Function) → (w.unclaimed && is_alone s f) ≡ false → f ≡ unclaimed_aside_of w s f
left_as_is w s f none = elim (and_cases w.unclaimed (is_alone s f) none) [
  | inl other ↦ rw other refl
  | inr rivals ↦ elim (cases_Bool w.unclaimed) [ inl counts ↦ rw (counts, rivals) refl | inr other ↦ rw other refl ]
]
