-- Two MSI capabilities whose bodies pass the end of one image: the list of all faults has one line for them, which names
-- the first one that the walk comes to.
use Rattle.std.proofs.Common.{◌≡◌, ◌⊎◌, ℕ, zero, suc, ◌+◌, ◌<◌, List, [], ◌∷◌, refl, true, false, None, Some, inl, inr, arith, lit<, subst, sym, ap, ◌∙◌}
use Rattle.std.specs.Prelude.{◌==◌, ◌&&◌, IsTrue, nat_lt, not, slice_index_or}
use Rattle.std.specs.List.{Contains}
use Rattle.std.proofs.lemmas.Bool.{and_parts, ltb-true, both_ways, cond-true, eq-eqb, cases_lt}
use Rattle.pci_spec.specs.Number.{byte_at, each_from}
use Rattle.pci_spec.specs.Slot.{Slot}
use Rattle.pci_spec.specs.Bar.{BarFault, bar_fault}
use Rattle.pci_spec.specs.Capability.{pointer, pointer_at, ComesTo, ComesTwiceTo}
use Rattle.pci_spec.specs.Text.{Block}
use Rattle.pci_spec.specs.System.{Function, System}
use Rattle.pci_spec.specs.Fault.{Fault, NoVendor, HeaderKind, BarType, BarMask, BarPair, RomMask, WindowMask, CapRange, CapLoop, CapCut, SlotsDiffer, StrayProbe, SomeAt, IsThere, is_stray}
use Rattle.pci_spec.specs.Order.{phase_of, is_before, image_at, steps_at}
use Rattle.pci_spec.specs.FaultLines.{subject, IsLine}
use Rattle.pci_spec.proofs.Bits.{each_from-at}
use Rattle.pci_spec.proofs.Members.{in_nil, in_cons_cases, in_head, pairs_nil, pairs_cons}
use Rattle.pci_spec.proofs.Examples.Samples.{put_bytes, zeros, blank, slot, host}
use Rattle.judge_spec.specs.Given.{Given}
use Rattle.judge_spec.specs.Fault.{Known}
use Rattle.judge_spec.specs.FaultLines.{AreAllFaults}

-- the walk comes to FCh, then to F8h; each body has 10 bytes
abbrev image : List ℕ
image = put_bytes ((0x06, 0x10) ∷ (0x34, 0xfc) ∷ (0xf8, 5) ∷ (0xfc, 5) ∷ (0xfd, 0xf8) ∷ []) (blank 0 0)

abbrev one : Slot
one = slot 0 1 0

abbrev dump : List Block
dump = record { slot = one; title = None; image = image } ∷ []

abbrev probe : List Block
probe = record { slot = one; title = None; image = zeros } ∷ []

abbrev f : Function
f = record { slot = one; image = image; probe = zeros }

abbrev s : System
s = f ∷ []

abbrev first_cut : Fault
first_cut = CapCut one 0xfc

abbrev second_cut : Fault
second_cut = CapCut one 0xf8

-- ---- where the walk comes to

ended : (n : ℕ) → pointer image (suc (suc n)) ≡ 0
ended zero = refl
ended (suc n) = cond-true (pointer image (suc (suc n)) == 0) 0 (pointer_at image (pointer image (suc (suc n)) + 1)) (eq-eqb (pointer image (suc (suc n))) 0 (ended n))

places : (place : ℕ) → ComesTo image place → (place ≡ 0xfc) ⊎ (place ≡ 0xf8)
places place (zero, at, some) = inl (sym at)
places place (suc zero, at, some) = inr (sym at)
places place (suc (suc n), at, some) = absurd (some (sym at ∙ ended n))

not_twice : (place : ℕ) → ComesTwiceTo image place → ⊥
not_twice place (m, zero, less, first, second, some) = omega (arith, less)
not_twice place (zero, suc zero, less, first, second, some) = let a : 0xfc ≡ place = first in let b : 0xf8 ≡ place = second in omega (arith, a, b)
not_twice place (suc m, suc zero, less, first, second, some) = omega (arith, less)
not_twice place (m, suc (suc n), less, first, second, some) = some (sym second ∙ ended n)

-- ---- what else is there

no : {A : Type 0} → false ≡ true → A
no h = absurd (let contradiction : ⊥ = both_ways false refl h in contradiction)

the_one : (P : Function → Type 0) (at : Slot) → SomeAt s at P → (one ≡ at) × P f
the_one P at some = elim (in_cons_cases f [] some.0 some.1) [
  | inl is ↦ (ap (λ (g : Function). g.slot) is ∙ some.2, subst P (sym is) some.3)
  | inr none ↦ absurd (in_nil some.0 none)
]

no_bar_fault : (n : ℕ) → n < 6 → bar_fault image zeros n ≡ None
no_bar_fault zero less = refl
no_bar_fault (suc zero) less = refl
no_bar_fault (suc (suc zero)) less = refl
no_bar_fault (suc (suc (suc zero))) less = refl
no_bar_fault (suc (suc (suc (suc zero)))) less = refl
no_bar_fault (suc (suc (suc (suc (suc zero))))) less = refl
no_bar_fault (suc (suc (suc (suc (suc (suc n)))))) less = absurd (let no : ⊥ = omega (arith, less) in no)

no_such_bar : {A : Type 0} (fault : BarFault) (n : ℕ) → n < 6 → bar_fault image zeros n ≡ Some fault → A
no_such_bar fault n less is = let e : None ≡ Some fault = sym (no_bar_fault n less) ∙ is in cc

none_is_stray : each_from 0 256 (λ offset. not (is_stray image zeros offset)) ≡ true
unfolding each_from
none_is_stray = refl

not_stray : (offset : ℕ) → is_stray image zeros offset ≡ true → ⊥
not_stray offset is =
    let outer = and_parts (nat_lt offset 256 && not (byte_at zeros offset == 0)) _ is in
    let less = ltb-true offset 256 (and_parts (nat_lt offset 256) _ outer.0).0 in
    both_ways (not (is_stray image zeros offset)) (ap not is) (each_from-at 0 256 (λ offset. not (is_stray image zeros offset)) none_is_stray offset (omega arith) less)

abbrev IsOneOfTwo : Fault → Type 0
IsOneOfTwo fault = (fault ≡ first_cut) ⊎ (fault ≡ second_cut)

cut_at : (at : Slot) (place : ℕ) → one ≡ at → (place ≡ 0xfc) ⊎ (place ≡ 0xf8) → IsOneOfTwo (CapCut at place)
cut_at at place is (inl e) = inl (ap (λ x. CapCut x place) (sym is) ∙ ap (λ x. CapCut one x) e)
cut_at at place is (inr e) = inr (ap (λ x. CapCut x place) (sym is) ∙ ap (λ x. CapCut one x) e)

-- of faults before the profile just the two
two_alone : (fault : Fault) → phase_of fault < 3 → IsThere host dump probe fault → IsOneOfTwo fault
two_alone (SlotsDiffer at) low is = absurd (elim is [
  | inl w ↦ w.1 w.0
  | inr w ↦ w.0 w.1
])
two_alone (NoVendor at) low is = no (the_one _ at is.1).1
two_alone (HeaderKind at) low is = no (the_one _ at is.1).1
two_alone (StrayProbe at offset) low is = absurd (not_stray offset (the_one _ at is.1).1)
two_alone (BarType at r) low is = let has = (the_one _ at is.1).1 in no_such_bar _ has.0 has.1 has.3
two_alone (BarMask at r) low is = let has = (the_one _ at is.1).1 in no_such_bar _ has.0 has.1 has.3
two_alone (BarPair at r) low is = let has = (the_one _ at is.1).1 in no_such_bar _ has.0 has.1 has.3
two_alone (RomMask at r) low is = let has = (the_one _ at is.1).1 in no has.1
two_alone (WindowMask at r) low is = let has = (the_one _ at is.1).1 in no has.1
two_alone (CapRange at place) low is =
    let has = (the_one _ at is.1).1 in let below = has.1 in
    absurd (elim (places place has.0) [
      | inl e ↦ (let no : ⊥ = omega (arith, below, e) in no)
      | inr e ↦ (let no : ⊥ = omega (arith, below, e) in no)
    ])
two_alone (CapLoop at place) low is = absurd (not_twice place (the_one _ at is.1).1)
two_alone (CapCut at place) low is = let has = the_one _ at is.1 in cut_at at place has.0 (places place has.1.0)
two_alone _ low is = absurd (let no : ⊥ = omega (arith, low) in no)

-- ---- the lines

first_is_there : IsThere host dump probe first_cut
first_is_there = (refl, (f, (0, lit< tt, refl), refl, ((0, refl, λ e. omega (arith, e)), lit< tt)))

second_is_there : IsThere host dump probe second_cut
second_is_there = (refl, (f, (0, lit< tt, refl), refl, ((1, refl, λ e. omega (arith, e)), lit< tt)))

none_earlier : (other : Fault) → phase_of other < 2 → IsThere host dump probe other → ⊥
none_earlier other low is = elim (two_alone other (omega (arith, low)) is) [
  | inl e ↦ (let less = subst (λ x. phase_of x < 2) e low in omega (arith, less))
  | inr e ↦ (let less = subst (λ x. phase_of x < 2) e low in omega (arith, less))
]

before_the_profile : (other : Fault) → subject other ≡ subject first_cut → phase_of other < 3
before_the_profile (SlotsDiffer at) same = lit< tt
before_the_profile _ same = let e = ap (λ k. slice_index_or k 0 0) same in omega (arith, e)

-- neither is looked for before the first
not_before : (other : Fault) → IsOneOfTwo other → is_before (image_at s) other first_cut ≡ false
unfolding steps_at
not_before other (inl e) = ap (λ x. is_before (image_at s) x first_cut) e
not_before other (inr e) = ap (λ x. is_before (image_at s) x first_cut) e

first_has_a_line : IsLine host dump probe first_cut
first_has_a_line = record {
  there = first_is_there;
  none_earlier = none_earlier;
  first = λ early other same before there. both_ways _ (not_before other (two_alone other (before_the_profile other same) there)) before;
  named = λ e. absurd (let no : ⊥ = omega (arith, e) in no);
}

second_has_no_line : IsLine host dump probe second_cut → ⊥
unfolding steps_at
second_has_no_line line = line.first (lit< tt) first_cut refl refl first_is_there

just_the_first : (fault : Fault) → IsLine host dump probe fault → Contains (first_cut ∷ []) fault
just_the_first fault line = elim (cases_lt (phase_of fault) 3) [
  | inl low ↦ elim (two_alone fault low line.there) [
    | inl e ↦ subst (λ x. Contains (first_cut ∷ []) x) (sym e) (in_head first_cut [])
    | inr e ↦ absurd (second_has_no_line (subst (λ x. IsLine host dump probe x) e line))
  ]
  | inr high ↦ absurd (line.none_earlier first_cut (omega (arith, high)) first_is_there)
]

abbrev IsEarlier : Fault → Fault → Type 0
IsEarlier fault other = IsTrue (is_before (image_at s) fault other)

one_line_for_both : (given : Given) → AreAllFaults given host dump probe (Known first_cut ∷ [])
one_line_for_both given = inl record {
  early = first_cut ∷ [];
  some = λ e. cc;
  before = λ fault has. elim (in_cons_cases first_cut [] fault has) [
    | inl e ↦ subst (λ x. phase_of x < 5) e (lit< tt)
    | inr none ↦ absurd (in_nil fault none)
  ];
  all = record {
    each = λ fault has. elim (in_cons_cases first_cut [] fault has) [
      | inl e ↦ subst (λ x. IsLine host dump probe x) e first_has_a_line
      | inr none ↦ absurd (in_nil fault none)
    ];
    complete = just_the_first;
    rising = pairs_cons IsEarlier first_cut [] (λ fault none. absurd (in_nil fault none)) (pairs_nil IsEarlier);
  };
  are = refl;
}
