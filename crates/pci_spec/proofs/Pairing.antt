-- The system that a dump and its probe make.
use Rattle.std.proofs.Common.{◌≡◌, ℕ, List, [], ◌∷◌, ◌++◌, map, refl, sym, ap, subst, inl, inr, ◌∙◌, zero, suc, drop, ◌<◌, length, get_or, arith}
use Rattle.std.specs.List.{All, Contains}
use Rattle.std.proofs.lemmas.List.{length-map}
use Rattle.pci_spec.specs.Slot.{Slot, IsRising, slot_number}
use Rattle.pci_spec.specs.Stops.{IsAboveLast, last_slot}
use Rattle.pci_spec.specs.Text.{Block, IsBlock, IsDump, slots_of}
use Rattle.pci_spec.specs.System.{System, Function, IsFunction, IsSystem, function_of, system_of}
use Rattle.pci_spec.specs.Fault.{Fault, IsIn, IsThere, SlotsDiffer}
use Rattle.pci_spec.proofs.Members.{in_head, in_tail}

-- both have as many blocks
pub same_length : (dump probe : List Block) → slots_of dump ≡ slots_of probe → length dump ≡ length probe
same_length dump probe e = sym (length-map {B = Slot} dump (λ b. b.slot)) ∙ ap length e ∙ length-map {B = Slot} probe (λ b. b.slot)

-- and the system as many functions
pub length-system_of : (dump probe : List Block) → length dump ≡ length probe → length (system_of dump probe) ≡ length dump
length-system_of [] probe h = refl
length-system_of (b ∷ dump) [] h = absurd (let no : ⊥ = omega (arith, h) in no)
length-system_of (b ∷ dump) (p ∷ probe) h = ap suc (length-system_of dump probe (let e : length dump ≡ length probe = omega (arith, h) in e))

-- the function at a place is that of the blocks there
pub function-at : (dump probe : List Block) (k : ℕ) (b p : Block) (d : Function) → k < length dump → k < length probe
    → get_or (system_of dump probe) k d ≡ function_of (get_or dump k b) (get_or probe k p)
function-at [] probe k b p d h i = absurd (let no : ⊥ = omega (arith, h) in no)
function-at (x ∷ dump) [] k b p d h i = absurd (let no : ⊥ = omega (arith, i) in no)
function-at (x ∷ dump) (y ∷ probe) zero b p d h i = refl
function-at (x ∷ dump) (y ∷ probe) (suc k) b p d h i = function-at dump probe k b p d (omega (arith, h)) (omega (arith, i))

-- one function more
pub system_last : (dump probe : List Block) (b p : Block) → length dump ≡ length probe → system_of (dump ++ b ∷ []) (probe ++ p ∷ []) ≡ system_of dump probe ++ function_of b p ∷ []
system_last [] [] b p e = refl
system_last [] (q ∷ probe) b p e = absurd (let no : ⊥ = omega (arith, e) in no)
system_last (d ∷ dump) [] b p e = absurd (let no : ⊥ = omega (arith, e) in no)
system_last (d ∷ dump) (q ∷ probe) b p e = ap (λ (s : System). function_of d q ∷ s) (system_last dump probe b p (omega (arith, e)))

-- a slot above all slots of a dump may stand after its last one
pub above_all : (found : List Block) (s : Slot) → ((t : Slot) → Contains (slots_of found) t → slot_number t < slot_number s) → IsAboveLast (last_slot found) s
above_all [] s below = tt
above_all (b ∷ []) s below = below b.slot (in_head b.slot [])
above_all (b ∷ c ∷ found) s below = above_all (c ∷ found) s (λ t is. below t (in_tail b.slot (slots_of (c ∷ found)) t is))

-- its slots are those of the dump
pub slots-system_of : (dump probe : List Block) → slots_of dump ≡ slots_of probe → map (λ f. f.slot) (system_of dump probe) ≡ slots_of dump
slots-system_of [] probe e = refl
slots-system_of (b ∷ dump) [] e = cc
slots-system_of (b ∷ dump) (p ∷ probe) e = ap (λ (rest : List Slot). b.slot ∷ rest) (slots-system_of dump probe (ap (drop 1) e))

-- each of its functions has its slot, and two images
functions : (dump probe : List Block) → All IsBlock dump → All IsBlock probe → All IsFunction (system_of dump probe)
functions [] probe hd hp k d below = absurd (let no : ⊥ = omega (arith, below) in no)
functions (b ∷ dump) [] hd hp k d below = absurd (let no : ⊥ = omega (arith, below) in no)
functions (b ∷ dump) (p ∷ probe) hd hp zero d below =
    let first : IsBlock b = hd 0 b (omega arith) in
    let second : IsBlock p = hp 0 p (omega arith) in
    record { slot = first.slot; image = first.image; probe = second.image }
functions (b ∷ dump) (p ∷ probe) hd hp (suc k) d below =
    functions dump probe (λ j x l. hd (suc j) x (omega (arith, l))) (λ j x l. hp (suc j) x (omega (arith, l))) k d (omega (arith, below))

-- a dump and a probe with the same slots make a system
pub IsSystem-of_dumps : (dump probe : List Block) → IsDump dump → IsDump probe → slots_of dump ≡ slots_of probe → IsSystem (system_of dump probe)
IsSystem-of_dumps dump probe d p e = record {
  each = functions dump probe d.each p.each;
  rising = subst IsRising (sym (slots-system_of dump probe e)) d.rising;
}

-- a fault in their system is there
pub there-of_in : (roots : List ℕ) (dump probe : List Block) (fault : Fault) → slots_of dump ≡ slots_of probe
    → IsIn roots (system_of dump probe) fault → IsThere roots dump probe fault
there-of_in roots dump probe (SlotsDiffer slot) e h = absurd h
there-of_in roots dump probe _ e h = (e, h)

-- and where they have the same slots, one that is there is in it
pub in-of_there : (roots : List ℕ) (dump probe : List Block) (fault : Fault) → slots_of dump ≡ slots_of probe
    → IsThere roots dump probe fault → IsIn roots (system_of dump probe) fault
in-of_there roots dump probe (SlotsDiffer slot) e h = elim h [
  | inl w ↦ absurd (w.1 (subst (λ (slots : List Slot). Contains slots slot) e w.0))
  | inr w ↦ absurd (w.0 (subst (λ (slots : List Slot). Contains slots slot) (sym e) w.1))
]
in-of_there roots dump probe _ e h = h.1
