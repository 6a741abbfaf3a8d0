-- A dump and its probe that are taken block by block.
use Rattle.std.proofs.Common.{◌≡◌, ℕ, Bool, true, false, ◌+◌, ◌<◌, ◌≤◌, List, [], ◌∷◌, ◌++◌, length, map, take, get_or, arith, refl, sym, ◌∙◌, ap, subst}
use Rattle.std.specs.Bool.{if◌then◌else◌}
use Rattle.std.specs.List.{AllZip, Contains}
use Rattle.std.proofs.lemmas.List.{get_or-map, get_or-take, length-map, length-take-le, map-append, take_all, take_more}
use Rattle.std.proofs.lemmas.List.Elements.{AllZip-push}
use Rattle.std.proofs.lemmas.List.Folds.{map_fixed}
use Rattle.pci_spec.specs.Slot.{Slot, slot_number}
use Rattle.pci_spec.specs.Text.{Block, IsDump, slots_of}
use Rattle.pci_spec.specs.Stops.{IsAboveLast, last_slot}
use Rattle.pci_spec.specs.System.{Function, System, function_of, system_of}
use Rattle.pci_spec.proofs.Pairing.{above_all, function-at, length-system_of, same_length, system_last}
use Rattle.judge_spec.specs.ModelWords.{Words}
use Rattle.judge_spec.specs.Words.{taken_by_unclaimed, unclaimed_aside}
use Rattle.judge_spec.specs.Taken.{IsTakenAs, unclaimed_aside_by}
use Rattle.judge_spec.specs.TakenDumps.{titles_of, AreTakenAs}
use Rattle.pci_model.specs.Subtractive.{unclaimed_aside_of}
use Rattle.pci_model.proofs.Behind.{numbers_rise}

-- the first blocks, as they are taken
pub record AreTakenSoFar (w : Words) (dump probe : List Block) (i : ℕ) (found found_probe : List Block) : Type 0 where
  pub slots : slots_of found ≡ take i (slots_of dump)
  pub probe_slots : slots_of found_probe ≡ take i (slots_of probe)
  pub probe_titles : titles_of found_probe ≡ take i (titles_of probe)
  pub each : AllZip (IsTakenAs w (slots_of dump)) (take i (unclaimed_aside_by w (system_of dump probe))) (system_of found found_probe)

pub none_taken : (w : Words) (dump probe : List Block) → AreTakenSoFar w dump probe 0 [] []
none_taken w dump probe = record { slots = refl; probe_slots = refl; probe_titles = refl; each = tt }

count_of : (dump found : List Block) (i : ℕ) → slots_of found ≡ take i (slots_of dump) → i ≤ length dump → length found ≡ i
count_of dump found i so_far inside =
    let slots = length-map dump (λ (b : Block). b.slot) in
    let own = length-map found (λ (b : Block). b.slot) in
    let taken = length-take-le i (slots_of dump) (omega (arith, slots, inside)) in
    let e = ap length so_far in
    omega (arith, own, e, taken)

-- the next block may stand after them
pub next_above : (dump found : List Block) (i : ℕ) (s : Slot) (b : Block) → slots_of found ≡ take i (slots_of dump) → IsDump dump → i < length dump
    → b ≡ get_or dump i b → s ≡ b.slot → IsAboveLast (last_slot found) s
next_above dump found i s b so_far is inside at same = above_all found s (λ t has.
    let slots = length-map dump (λ (c : Block). c.slot) in
    let taken = length-take-le i (slots_of dump) (omega (arith, slots, inside)) in
    let earlier : Contains (take i (slots_of dump)) t = subst (λ (ss : List Slot). Contains ss t) so_far has in
    let short = earlier.1 in
    let j = earlier.0 in
    let before : j < i = omega (arith, taken, short) in
    let t_at : (get_or dump j b).slot ≡ t =
    sym (get_or-map (λ (c : Block). c.slot) dump j b t (omega (arith, before, inside))) ∙ sym (get_or-take i (slots_of dump) j t before) ∙ earlier.2 in
    let less = numbers_rise dump j i b is before inside in
    let low = ap slot_number t_at in
    let high = ap (λ (c : Block). slot_number c.slot) at in
    let end = ap slot_number same in
    omega (arith, less, low, high, end))

pub room_left : (dump found : List Block) (i : ℕ) → slots_of found ≡ take i (slots_of dump) → IsDump dump → i < length dump → length found < 4096
room_left dump found i so_far is inside =
    let own = count_of dump found i so_far (omega (arith, inside)) in
    let room = is.room in
    omega (arith, own, room, inside)

-- slots and titles alike
field_more : {X : Type 0} (field : Block → X) (dump found : List Block) (i : ℕ) (b c : Block) → map field found ≡ take i (map field dump) → i < length dump → c ≡ get_or dump i c → field b ≡ field c
    → map field (found ++ b ∷ []) ≡ take (i + 1) (map field dump)
field_more {X} field dump found i b c so_far inside at same =
    let size = length-map dump field in
    let there : get_or (map field dump) i (field c) ≡ field c = get_or-map field dump i c (field c) inside ∙ ap field (sym at) in
    map-append field found (b ∷ []) ∙ ap (λ (xs : List X). xs ++ field b ∷ []) so_far ∙ ap (λ (x : X). take i (map field dump) ++ x ∷ []) (same ∙ sym there)
    ∙ sym (take_more (map field dump) i (field c) (omega (arith, size, inside)))

-- the function of two blocks
function_there : (dump probe : List Block) (i : ℕ) (c q : Block) → slots_of dump ≡ slots_of probe → i < length dump → c ≡ get_or dump i c → q ≡ get_or probe i q
    → get_or (system_of dump probe) i (function_of c q) ≡ function_of c q
function_there dump probe i c q same inside c_at q_at =
    let count = same_length dump probe same in
    function-at dump probe i c q (function_of c q) inside (omega (arith, count, inside)) ∙ ap (λ (d : Block). function_of d (get_or probe i q)) (sym c_at) ∙ ap (λ (d : Block). function_of c d) (sym q_at)

-- one function more
pub functions_more : (dump probe : List Block) (i : ℕ) (c q : Block) → slots_of dump ≡ slots_of probe → i < length dump → c ≡ get_or dump i c → q ≡ get_or probe i q
    → take (i + 1) (system_of dump probe) ≡ take i (system_of dump probe) ++ function_of c q ∷ []
functions_more dump probe i c q same inside c_at q_at =
    let count = same_length dump probe same in
    let size = length-system_of dump probe count in
    take_more (system_of dump probe) i (function_of c q) (omega (arith, size, inside))
    ∙ ap (λ f. take i (system_of dump probe) ++ f ∷ []) (function_there dump probe i c q same inside c_at q_at)

-- each function is made positive by itself
aside_by : (counts : Bool) (s : System) → (if counts then taken_by_unclaimed s else s) ≡ map (λ f. if counts then unclaimed_aside s f else f) s
aside_by true s = refl
aside_by false s = sym (map_fixed (λ (f : Function). f) s (λ k d less. refl))

aside_each : (w : Words) (s : System) → unclaimed_aside_by w s ≡ map (unclaimed_aside_of w s) s
aside_each w s = aside_by w.unclaimed s

length_aside : (w : Words) (s : System) → length (unclaimed_aside_by w s) ≡ length s
length_aside w s = ap length (aside_each w s) ∙ length-map s (unclaimed_aside_of w s)

asides_more : (w : Words) (dump probe : List Block) (i : ℕ) (c q : Block) → slots_of dump ≡ slots_of probe → i < length dump → c ≡ get_or dump i c → q ≡ get_or probe i q
    → take (i + 1) (unclaimed_aside_by w (system_of dump probe)) ≡ take i (unclaimed_aside_by w (system_of dump probe)) ++ unclaimed_aside_of w (system_of dump probe) (function_of c q) ∷ []
asides_more w dump probe i c q same inside c_at q_at =
    let s = system_of dump probe in
    let one = unclaimed_aside_of w s in
    let f = function_of c q in
    let size = length-system_of dump probe (same_length dump probe same) in
    let long = length_aside w s in
    let at : get_or (unclaimed_aside_by w s) i (one f) ≡ one f =
    ap (λ (u : System). get_or u i (one f)) (aside_each w s) ∙ get_or-map one s i f (one f) (omega (arith, size, inside)) ∙ ap one (function_there dump probe i c q same inside c_at q_at) in
    take_more (unclaimed_aside_by w s) i (one f) (omega (arith, long, size, inside)) ∙ ap (λ g. take i (unclaimed_aside_by w s) ++ g ∷ []) at

-- one more
pub next_taken : (w : Words) (dump probe : List Block) (i : ℕ) (found found_probe : List Block) (b p c q : Block) → slots_of dump ≡ slots_of probe
    → AreTakenSoFar w dump probe i found found_probe → i < length dump
    → c ≡ get_or dump i c → q ≡ get_or probe i q → b.slot ≡ c.slot → p.slot ≡ q.slot → p.title ≡ q.title → IsTakenAs w (slots_of dump) (unclaimed_aside_of w (system_of dump probe) (function_of c q)) (function_of b p)
    → AreTakenSoFar w dump probe (i + 1) (found ++ b ∷ []) (found_probe ++ p ∷ [])
next_taken w dump probe i found found_probe b p c q same so_far inside c_at q_at slot probe_slot probe_title taken =
    let count = same_length dump probe same in
    let in_probe : i < length probe = omega (arith, count, inside) in
    let before = unclaimed_aside_by w (system_of dump probe) in
    let f = unclaimed_aside_of w (system_of dump probe) (function_of c q) in
    let functions = asides_more w dump probe i c q same inside c_at q_at in
    let own = count_of dump found i so_far.slots (omega (arith, inside)) in
    let own_probe = count_of probe found_probe i so_far.probe_slots (omega (arith, in_probe)) in
    let R : Function → Function → Type 0 = IsTakenAs w (slots_of dump) in
    let pushed = AllZip-push R (take i before) (system_of found found_probe) f (function_of b p) so_far.each taken in
    let last : system_of (found ++ b ∷ []) (found_probe ++ p ∷ []) ≡ system_of found found_probe ++ function_of b p ∷ [] = system_last found found_probe b p (omega (arith, own, own_probe)) in
    record {
      slots = field_more (λ (d : Block). d.slot) dump found i b c so_far.slots inside c_at slot;
      probe_slots = field_more (λ (d : Block). d.slot) probe found_probe i p q so_far.probe_slots in_probe q_at probe_slot;
      probe_titles = field_more (λ (d : Block). d.title) probe found_probe i p q so_far.probe_titles in_probe q_at probe_title;
      each = subst (λ fs. AllZip R fs (system_of (found ++ b ∷ []) (found_probe ++ p ∷ []))) (sym functions)
          (subst (λ fs. AllZip R (take i before ++ f ∷ []) fs) (sym last) pushed);
    }

-- all of them
pub all_taken : (w : Words) (dump probe : List Block) (i : ℕ) (found found_probe : List Block) → slots_of dump ≡ slots_of probe
    → AreTakenSoFar w dump probe i found found_probe → length dump ≤ i → AreTakenAs w dump probe found found_probe
all_taken w dump probe i found found_probe same so_far done =
    let count = same_length dump probe same in
    let slots = length-map dump (λ (b : Block). b.slot) in
    let probe_slots = length-map probe (λ (b : Block). b.slot) in
    let probe_titles = length-map probe (λ (b : Block). b.title) in
    let size = length-system_of dump probe count in
    let long = length_aside w (system_of dump probe) in
    record {
      slots = so_far.slots ∙ take_all i (slots_of dump) (omega (arith, slots, done));
      probe_slots = so_far.probe_slots ∙ take_all i (slots_of probe) (omega (arith, count, probe_slots, done));
      probe_titles = so_far.probe_titles ∙ take_all i (titles_of probe) (omega (arith, count, probe_titles, done));
      each = λ e. subst (λ fs. AllZip (IsTakenAs w (slots_of dump)) fs (system_of found found_probe)) (take_all i (unclaimed_aside_by w (system_of dump probe)) (omega (arith, long, size, done))) so_far.each;
    }
