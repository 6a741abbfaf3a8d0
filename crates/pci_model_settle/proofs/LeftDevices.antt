-- Devices that are left out, block by block, and the lines that are told of them.
use Rattle.std.proofs.Common.{◌≡◌, ◌==◌, eqb-true, ℕ, zero, suc, ◌+◌, ◌<◌, ◌≤◌, Bool, true, false, List, [], ◌∷◌, ◌++◌, length, get_or, take, inl, inr, refl, arith, sym, ◌∙◌, ap}
use Rattle.std.specs.Bool.{if◌then◌else◌}
use Rattle.std.proofs.lemmas.Bool.{both_ways, cases_Bool}
use Rattle.std.proofs.lemmas.List.{length-take-le, map-append, take_all, take_more}
use Rattle.pci_spec.specs.Slot.{Slot}
use Rattle.pci_spec.specs.Text.{Block, slots_of}
use Rattle.pci_spec.proofs.Pairing.{same_length}
use Rattle.pci_model_settle.specs.OffDevices.{block_without, blocks_without, is_left_out, left_out}
use Rattle.judge_spec.specs.Bytes.{without_registers}
use Rattle.pci_model_settle.specs.Unmoved.{is_among}

-- three blocks more
left_out_last : (unmoved : List Slot) (ds bs ps : List Block) (d b p : Block) → length ds ≡ length bs → length bs ≡ length ps
    → left_out unmoved (ds ++ d ∷ []) (bs ++ b ∷ []) (ps ++ p ∷ []) ≡ left_out unmoved ds bs ps ++ (if is_left_out unmoved d b p then d.slot ∷ [] else [])
left_out_last unmoved [] [] [] d b p e f = refl
left_out_last unmoved [] [] (y ∷ ps) d b p e f = absurd (let no : ⊥ = omega (arith, f) in no)
left_out_last unmoved [] (x ∷ bs) ps d b p e f = absurd (let no : ⊥ = omega (arith, e) in no)
left_out_last unmoved (z ∷ ds) [] ps d b p e f = absurd (let no : ⊥ = omega (arith, e) in no)
left_out_last unmoved (z ∷ ds) (x ∷ bs) [] d b p e f = absurd (let no : ⊥ = omega (arith, f) in no)
left_out_last unmoved (z ∷ ds) (x ∷ bs) (y ∷ ps) d b p e f =
    let rest = left_out_last unmoved ds bs ps d b p (omega (arith, e)) (omega (arith, f)) in
    elim (cases_Bool (is_left_out unmoved z x y)) [
      | inl on ↦ rw (on, rest) refl
      | inr off ↦ rw (off, rest) refl
    ]

next_block : (bs : List Block) (i : ℕ) (b : Block) → i < length bs → b ≡ get_or bs i b → take (i + 1) bs ≡ take i bs ++ b ∷ []
next_block bs i b inside at = take_more bs i b inside ∙ ap (λ (x : Block). take i bs ++ x ∷ []) (sym at)

pub next_left_out : (unmoved slots : List Slot) (dump blocks probes : List Block) (i : ℕ) (d b p : Block) → slots_of dump ≡ slots_of blocks → slots_of blocks ≡ slots_of probes → i < length dump
    → d ≡ get_or dump i d → b ≡ get_or blocks i b → p ≡ get_or probes i p → slots ≡ left_out unmoved (take i dump) (take i blocks) (take i probes)
    → left_out unmoved (take (i + 1) dump) (take (i + 1) blocks) (take (i + 1) probes) ≡ slots ++ (if is_left_out unmoved d b p then d.slot ∷ [] else [])
next_left_out unmoved slots dump blocks probes i d b p same read inside d_at b_at p_at so_far =
    let first = same_length dump blocks same in
    let count = same_length blocks probes read in
    let within : i < length blocks = omega (arith, inside, first) in
    let own = length-take-le i dump (omega (arith, inside)) in
    let short = length-take-le i blocks (omega (arith, within)) in
    let long = length-take-le i probes (omega (arith, within, count)) in
    ap (λ ds. left_out unmoved ds (take (i + 1) blocks) (take (i + 1) probes)) (next_block dump i d inside d_at)
    ∙ ap (λ bs. left_out unmoved (take i dump ++ d ∷ []) bs (take (i + 1) probes)) (next_block blocks i b within b_at)
    ∙ ap (left_out unmoved (take i dump ++ d ∷ []) (take i blocks ++ b ∷ [])) (next_block probes i p (omega (arith, within, count)) p_at)
    ∙ left_out_last unmoved (take i dump) (take i blocks) (take i probes) d b p (omega (arith, own, short)) (omega (arith, short, long))
    ∙ ap (λ ss. ss ++ (if is_left_out unmoved d b p then d.slot ∷ [] else [])) (sym so_far)

-- none is where none of some stays
pub none_stays : (dump blocks probes : List Block) → [] ≡ left_out [] dump blocks probes
none_stays [] blocks probes = refl
none_stays (d ∷ dump) [] probes = refl
none_stays (d ∷ dump) (b ∷ blocks) [] = refl
none_stays (d ∷ dump) (b ∷ blocks) (p ∷ probes) = none_stays dump blocks probes

pub no_slots : (unmoved : List Slot) → (length unmoved == 0) ≡ true → unmoved ≡ []
no_slots [] none = refl
no_slots (slot ∷ unmoved) none = absurd (let same : length (slot ∷ unmoved) ≡ 0 = eqb-true _ _ none in let no : ⊥ = omega (arith, same) in no)

-- one that is left out is noted, and no other
pub noted : (slots : List Slot) (slot : Slot) (x : Bool) → x ≡ true → slots ++ (if x then slot ∷ [] else []) ≡ slots ++ slot ∷ []
noted slots slot true e = refl
noted slots slot false e = absurd (both_ways _ refl e)

no_more : (ss : List Slot) → (ss ++ []) ≡ ss
no_more [] = refl
no_more (s ∷ ss) = ap (λ (more : List Slot). s ∷ more) (no_more ss)

pub not_noted : (slots : List Slot) (slot : Slot) (x : Bool) → x ≡ false → slots ++ (if x then slot ∷ [] else []) ≡ slots
not_noted slots slot true e = absurd (both_ways _ e refl)
not_noted slots slot false e = no_more slots

pub all_left_out : (unmoved slots : List Slot) (dump blocks probes : List Block) (i : ℕ) → slots_of dump ≡ slots_of blocks → slots_of blocks ≡ slots_of probes → length dump ≤ i
    → slots ≡ left_out unmoved (take i dump) (take i blocks) (take i probes) → slots ≡ left_out unmoved dump blocks probes
all_left_out unmoved slots dump blocks probes i same read done so_far =
    let first = same_length dump blocks same in
    let count = same_length blocks probes read in
    so_far ∙ ap (λ ds. left_out unmoved ds (take i blocks) (take i probes)) (take_all i dump done)
    ∙ ap (λ bs. left_out unmoved dump bs (take i probes)) (take_all i blocks (omega (arith, first, done)))
    ∙ ap (left_out unmoved dump blocks) (take_all i probes (omega (arith, count, first, done)))

-- ---- blocks without their address registers

slot_stays_if : (x : Bool) (c b : Block) → c.slot ≡ b.slot → (if x then c else b).slot ≡ b.slot
slot_stays_if true c b e = e
slot_stays_if false c b e = refl

pub slot_stays : (slots : List Slot) (b : Block) → (block_without slots b).slot ≡ b.slot
slot_stays slots b = slot_stays_if (is_among slots b.slot) record b { image = without_registers b.image } b refl

pub slots_stay : (slots : List Slot) (bs : List Block) → slots_of (blocks_without slots bs) ≡ slots_of bs
slots_stay slots [] = refl
slots_stay slots (b ∷ bs) = ap (λ (s : Slot). s ∷ slots_of (blocks_without slots bs)) (slot_stays slots b) ∙ ap (λ (ss : List Slot). b.slot ∷ ss) (slots_stay slots bs)

pub next_without : (slots : List Slot) (without bs : List Block) (i : ℕ) (b c : Block) → i < length bs → b ≡ get_or bs i b → c ≡ block_without slots b → without ≡ blocks_without slots (take i bs)
    → without ++ c ∷ [] ≡ blocks_without slots (take (i + 1) bs)
next_without slots without bs i b c inside at is so_far =
    ap (λ ws. ws ++ c ∷ []) so_far ∙ ap (λ (x : Block). blocks_without slots (take i bs) ++ x ∷ []) is ∙ sym (map-append (block_without slots) (take i bs) (b ∷ []))
    ∙ ap (blocks_without slots) (sym (take_more bs i b inside ∙ ap (λ (x : Block). take i bs ++ x ∷ []) (sym at)))

take_slots : (bs : List Block) (i : ℕ) → slots_of (take i bs) ≡ take i (slots_of bs)
take_slots bs zero = refl
take_slots [] (suc i) = refl
take_slots (b ∷ bs) (suc i) = ap (λ (ss : List Slot). b.slot ∷ ss) (take_slots bs i)

pub slots_so_far : (slots : List Slot) (without bs : List Block) (i : ℕ) → without ≡ blocks_without slots (take i bs) → slots_of without ≡ take i (slots_of bs)
slots_so_far slots without bs i so_far = ap slots_of so_far ∙ slots_stay slots (take i bs) ∙ take_slots bs i

pub all_without : (slots : List Slot) (without bs : List Block) (i : ℕ) → length bs ≤ i → without ≡ blocks_without slots (take i bs) → without ≡ blocks_without slots bs
all_without slots without bs i done so_far = so_far ∙ ap (blocks_without slots) (take_all i bs done)
