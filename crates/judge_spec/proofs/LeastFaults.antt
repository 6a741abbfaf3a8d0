-- Where a fault is there, one is looked for first: keys of at most a length have no endless descent.
use Rattle.std.proofs.Common.{◌≡◌, ℕ, zero, suc, ◌<◌, ◌≤◌, List, [], ◌∷◌, length, drop, refl, true, false, sym, subst, inl, inr, arith}
use Rattle.std.proofs.lemmas.Bool.{both_ways}
use Rattle.pci_spec.specs.Slot.{Slot}
use Rattle.pci_spec.specs.Text.{Block}
use Rattle.pci_spec.specs.System.{system_of}
use Rattle.pci_spec.specs.Fault.{Fault, NoVendor, HeaderKind, BarType, BarMask, BarPair, RomMask, WindowMask, CapRange, CapLoop, CapCut, SlotsDiffer, StrayProbe, LoneFunction, OfProfile, BusRange, Orphan, Unreached, Clash, Split, IsThere}
use Rattle.pci_spec.specs.FaultLines.{IsLine}
use Rattle.pci_spec.specs.Order.{precedes, looking_key, is_before, phase_of, image_at}
use Rattle.pci_spec.proofs.FirstLines.{less_precedes}
use Rattle.pci_spec.proofs.Looking.{key_head, phase_le}
use Rattle.pci_spec.proofs.Regions.{precedes-cases}

-- ---- keys

nothing_precedes : (xs : List ℕ) → precedes xs [] ≡ true → ⊥
nothing_precedes [] h = both_ways false refl h
nothing_precedes (x ∷ xs) h = both_ways false refl h

-- what holds of a key of at most a length where it holds of all such keys that precede it
abbrev IsInherited : ℕ → (List ℕ → Type 0) → Type 0
IsInherited n Q =
    (xs : List ℕ) → length xs ≤ n → ((ys : List ℕ) → length ys ≤ n → precedes ys xs ≡ true → Q ys) → Q xs

-- of keys with a first number below a bound, where it is so of their tails
by_head : (n : ℕ) → ((R : List ℕ → Type 0) → IsInherited n R → (xs : List ℕ) → length xs ≤ n → R xs)
    → (Q : List ℕ → Type 0) → IsInherited (suc n) Q → (b x : ℕ) (xs : List ℕ) → x < b → length xs ≤ n → Q (x ∷ xs)
by_head n tails Q step zero x xs less short = absurd (let no : ⊥ = omega (arith, less) in no)
by_head n tails Q step (suc b) x xs less short =
    tails (λ t. Q (x ∷ t)) (λ t s before. step (x ∷ t) (omega (arith, s)) (λ ys. elim ys as (λ ys. length ys ≤ suc n → precedes ys (x ∷ t) ≡ true → Q ys) [
      | [] ↦ λ within h. absurd (both_ways false refl h)
      | y ∷ rest ↦ λ within h. elim (precedes-cases y x rest t h) [
        | inl low ↦ by_head n tails Q step b y rest (omega (arith, low, less)) (omega (arith, within))
        | inr same ↦ subst (λ z. Q (z ∷ rest)) (sym same.0) (before rest (omega (arith, within)) same.1)
      ]
    ])) xs short

by_keys : (n : ℕ) (Q : List ℕ → Type 0) → IsInherited n Q → (xs : List ℕ) → length xs ≤ n → Q xs
by_keys n Q step [] short = step [] short (λ ys within h. absurd (nothing_precedes ys h))
by_keys zero Q step (x ∷ xs) short = absurd (let no : ⊥ = omega (arith, short) in no)
by_keys (suc n) Q step (x ∷ xs) short = by_head n (by_keys n) Q step (suc x) x xs (omega arith) (omega (arith, short))

key_length : (image_of : Slot → List ℕ) (f : Fault) → length (looking_key image_of f) ≤ 16
key_length image_of (NoVendor slot) = omega arith
key_length image_of (HeaderKind slot) = omega arith
key_length image_of (BarType slot register) = omega arith
key_length image_of (BarMask slot register) = omega arith
key_length image_of (BarPair slot register) = omega arith
key_length image_of (RomMask slot register) = omega arith
key_length image_of (WindowMask slot register) = omega arith
key_length image_of (CapRange slot place) = omega arith
key_length image_of (CapLoop slot place) = omega arith
key_length image_of (CapCut slot place) = omega arith
key_length image_of (SlotsDiffer slot) = omega arith
key_length image_of (StrayProbe slot offset) = omega arith
key_length image_of (LoneFunction slot) = omega arith
key_length image_of (OfProfile fault slot) = omega arith
key_length image_of (BusRange slot) = omega arith
key_length image_of (Orphan slot) = omega arith
key_length image_of (Unreached slot register space address bridge) = omega arith
key_length image_of (Clash bus space address first first_register second second_register) = omega arith
key_length image_of (Split space address first first_register second second_register) = omega arith

-- ---- faults

-- some faults of which none is least are none
pub none_without_least : (image_of : Slot → List ℕ) (P : Fault → Type 0)
    → ((f : Fault) → P f → ((g : Fault) → is_before image_of g f ≡ true → P g → ⊥) → ⊥) → (f : Fault) → P f → ⊥
none_without_least image_of P no_least f p =
    by_keys 16 (λ key. (g : Fault) → looking_key image_of g ≡ key → P g → ⊥)
    (λ key short before g is q. no_least g q (λ h first r.
    before (looking_key image_of h) (key_length image_of h) (subst (λ k. precedes (looking_key image_of h) k ≡ true) is first) h refl r))
    (looking_key image_of f) (key_length image_of f) f refl p

-- a fault of an earlier phase is looked for before
pub earlier_is_before : (image_of : Slot → List ℕ) (g f : Fault) → phase_of g < phase_of f → is_before image_of g f ≡ true
earlier_is_before image_of g f less =
    subst (λ k. precedes k (looking_key image_of f) ≡ true) (sym (key_head image_of g))
    (subst (λ k. precedes (phase_of g ∷ drop 1 (looking_key image_of g)) k ≡ true) (sym (key_head image_of f))
    (less_precedes (phase_of g) (phase_of f) (drop 1 (looking_key image_of g)) (drop 1 (looking_key image_of f)) less))

-- where a fault is there that is looked for before judging, the first such fault has a line
pub first_has_line : (roots : List ℕ) (dump probe : List Block) (f : Fault) → phase_of f < 5 → IsThere roots dump probe f
    → ((m : Fault) → phase_of m < 5 → IsLine roots dump probe m
    → ((g : Fault) → is_before (image_at (system_of dump probe)) g m ≡ true → IsThere roots dump probe g → ⊥) → ⊥) → ⊥
first_has_line roots dump probe f early there none =
    let image = image_at (system_of dump probe) in
    none_without_least image (λ g. (phase_of g < 5) × IsThere roots dump probe g)
    (λ m p least.
    let before = λ (g : Fault) (b : is_before image g m ≡ true) (at : IsThere roots dump probe g). (let le = phase_le image g m b in let low = p.0 in least g b (omega (arith, le, low), at)) in
    none m p.0 record {
      there = p.1;
      none_earlier = λ g less at. before g (earlier_is_before image g m less) at;
      first = λ soon g same b at. before g b at;
      named = λ judging. (let low = p.0 in let no : ⊥ = omega (arith, low, judging) in absurd no);
    } before)
    f (early, there)
