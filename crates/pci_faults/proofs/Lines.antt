-- From what each function adds to the whole list.
use Rattle.std.proofs.Common.{◌≡◌, ℕ, ◌+◌, ◌<◌, ◌≤◌, List, [], ◌∷◌, ◌++◌, length, get_or, take, drop, refl, true, inl, inr, arith, sym, ◌∙◌, ap, subst}
use Rattle.std.specs.List.{Contains}
use Rattle.std.proofs.lemmas.Bool.{cases_lt, cases_order}
use Rattle.std.proofs.lemmas.List.{get_or-take, get_or_default, length-take-le}
use Rattle.pci_spec.specs.Slot.{slot_number}
use Rattle.pci_spec.specs.Text.{Block, slots_of}
use Rattle.pci_spec.specs.System.{System, Function, IsSystem, system_of}
use Rattle.pci_spec.specs.Fault.{Fault, IsThere}
use Rattle.pci_spec.specs.Order.{precedes, slot_key, looking_key, phase_of, is_before, image_at, IsFirstThere}
use Rattle.pci_spec.specs.FaultLines.{subject, IsLine, AreAllFaults}
use Rattle.pci_spec.proofs.Firsts.{slot_of}
use Rattle.pci_spec.proofs.Nesting.{earlier_is_lower, one_function}
use Rattle.pci_spec.proofs.Pairing.{there-of_in, in-of_there}
use Rattle.pci_function.specs.Profile.{IsHere}
use Rattle.pci_function.proofs.FirstHere.{rest_of, key_at}
use Rattle.pci_function.proofs.FirstIn.{in_here, here_in, image_of_function}
use Rattle.pci_faults.specs.Lists.{AreJust}
use Rattle.pci_faults.specs.OwnLines.{IsOwnLine, IsOwnOf, IsBeforeIn, IsBeforeAt, HasNoneBefore}
use Rattle.pci_faults.proofs.Keys.{lower_precedes, slot_of_key, earlier_is_before, same_phase, subject_here, before_with}
use Rattle.pci_faults.proofs.Lists.{just_none, just_append, just_same}

-- ---- the first functions of a system

taken_to : (s : System) (i : ℕ) (g : Function) → i ≤ length s → (has : Contains (take i s) g) → (has.0 < i) × (get_or s has.0 g ≡ g)
taken_to s i g within has =
    let long = length-take-le i s within in
    let some = has.1 in
    let less : has.0 < i = omega (arith, long, some) in
    (less, sym (get_or-take i s has.0 g less) ∙ has.2)

taken_from : (s : System) (i k : ℕ) (g : Function) → i ≤ length s → k < i → get_or s k g ≡ g → Contains (take i s) g
taken_from s i k g within less at = let long = length-take-le i s within in (k, omega (arith, long, less), get_or-take i s k g less ∙ at)

module _ (s : System) (system : IsSystem s) (phase : ℕ) (Own : Function → Fault → Type 0) (rest : Function → Fault → List ℕ)
    (key : (f : Function) (e : Fault) → Contains s f → Own f e → looking_key (image_at s) e ≡ phase ∷ slot_key f.slot ++ rest f e) where
  pub lines_none : AreJust (IsBeforeAt s) (IsOwnOf Own (take 0 s)) []
  lines_none = just_none (IsBeforeAt s) (IsOwnOf Own (take 0 s)) (λ e is. (let at = taken_to s 0 is.of (omega arith) is.has in let less = at.0 in let no : ⊥ = omega (arith, less) in no))

  -- what a function adds stands behind what those before it add
  across : (i : ℕ) (f : Function) → i < length s → get_or s i f ≡ f → (a b : Fault) → IsOwnOf Own (take i s) a → Own f b → IsBeforeAt s a b
  across i f within at a b is own =
      let before = taken_to s i is.of (omega (arith, within)) is.has in
      let less = before.0 in
      let has_g : Contains s is.of = (is.has.0, omega (arith, less, within), before.1) in
      let has_f : Contains s f = (i, within, at) in
      let lower = earlier_is_lower s system is.of f has_g has_f less in
      subst (λ k. precedes k (looking_key (image_at s) b) ≡ true) (sym (key is.of a has_g is.own))
      (subst (λ k. precedes (phase ∷ slot_key is.of.slot ++ rest is.of a) k ≡ true) (sym (key f b has_f own))
      (lower_precedes phase is.of.slot f.slot (rest is.of a) (rest f b) (slot_of s system is.of has_g) (slot_of s system f has_f) lower))

  -- one function more
  pub lines_more : (i : ℕ) (f : Function) (xs ys : List Fault) → i < length s → get_or s i f ≡ f → AreJust (IsBeforeAt s) (IsOwnOf Own (take i s)) xs → AreJust (IsBeforeAt s) (Own f) ys
      → AreJust (IsBeforeAt s) (IsOwnOf Own (take (i + 1) s)) (xs ++ ys)
  lines_more i f xs ys within at first second =
      just_append (IsBeforeAt s) (IsOwnOf Own (take (i + 1) s)) (IsOwnOf Own (take i s)) (Own f) xs ys first second
      (λ e is. (let before = taken_to s i is.of (omega (arith, within)) is.has in
      let less = before.0 in
      record { of = is.of; has = taken_from s (i + 1) is.has.0 is.of (omega (arith, within)) (omega (arith, less)) before.1; own = is.own }))
      (λ e own. record { of = f; has = taken_from s (i + 1) i f (omega (arith, within)) (omega arith) at; own = own })
      (λ e is. (let up_to = taken_to s (i + 1) is.of (omega (arith, within)) is.has in
      let most = up_to.0 in
      elim (cases_lt is.has.0 i) [
        | inl less ↦ inl (record { of = is.of; has = taken_from s i is.has.0 is.of (omega (arith, within)) less up_to.1; own = is.own })
        | inr not_less ↦
            (let here : is.has.0 ≡ i = omega (arith, most, not_less) in
            let one : is.of ≡ f = sym up_to.1 ∙ ap (λ n. get_or s n is.of) here ∙ get_or_default s i is.of f within ∙ at in
            inr (subst (λ g. Own g e) one is.own))
      ]))
      (across i f within at)

-- ---- lines of a phase

-- the first fault's phase is that of each line
pub phase_of_line : (roots : List ℕ) (dump probe : List Block) (first e : Fault) → IsFirstThere roots dump probe first → IsLine roots dump probe e → phase_of e ≡ phase_of first
phase_of_line roots dump probe first e is line = elim (cases_order (phase_of e) (phase_of first)) [
  | inl same ↦ same
  | inr (inl less) ↦ absurd (is.none_before e (earlier_is_before (image_at (system_of dump probe)) e first less) line.there)
  | inr (inr more) ↦ absurd (line.none_earlier first more is.there)
]

-- and none of an earlier phase is there
pub none_earlier_than : (roots : List ℕ) (dump probe : List Block) (first other : Fault) → IsFirstThere roots dump probe first → phase_of other < phase_of first → IsThere roots dump probe other → ⊥
none_earlier_than roots dump probe first other is less there = is.none_before other (earlier_is_before (image_at (system_of dump probe)) other first less) there

-- and so none of a function
pub none_in_function : (roots : List ℕ) (dump probe : List Block) → slots_of dump ≡ slots_of probe → (first : Fault) → IsFirstThere roots dump probe first
    → (f : Function) → Contains (system_of dump probe) f → HasNoneBefore (phase_of first) f
none_in_function roots dump probe same first is f has other less here =
    none_earlier_than roots dump probe first other is less (there-of_in roots dump probe other same (here_in roots (system_of dump probe) f other has here))

-- lines of a phase before judging, given those of that phase
pub all_faults : (roots : List ℕ) (dump probe : List Block) (first : Fault) (Is : Fault → Type 0) (xs : List Fault) → IsFirstThere roots dump probe first
    → AreJust (IsBeforeAt (system_of dump probe)) Is xs → ((e : Fault) → Is e → IsLine roots dump probe e)
    → ((e : Fault) → IsLine roots dump probe e → phase_of e ≡ phase_of first → Is e) → AreAllFaults roots dump probe xs
all_faults roots dump probe first Is xs is just to from = record {
  each = λ e has. to e (just.each e has);
  complete = λ e line. just.complete e (from e line (phase_of_line roots dump probe first e is line));
  rising = just.rising;
}

module _ (roots : List ℕ) (dump probe : List Block) (system : IsSystem (system_of dump probe)) (same : slots_of dump ≡ slots_of probe)
    (first : Fault) (is_first : IsFirstThere roots dump probe first) (early : phase_of first < 4) where
  own_first : (f : Function) (e other : Fault) → Contains (system_of dump probe) f → IsOwnLine (phase_of first) f e → subject other ≡ subject e
      → is_before (image_at (system_of dump probe)) other e ≡ true → IsThere roots dump probe other → ⊥
  own_first f e other has own subjects before there =
      let s = system_of dump probe in
      let phase = same_phase other e subjects ∙ own.phase_is in
      let x = in_here roots s other (omega (arith, phase, early)) (in-of_there roots dump probe other same there) in
      let slots = slot_of_key (phase_of other) (phase_of e) x.g.slot f.slot (drop 4 (subject other)) (drop 4 (subject e))
      (sym (subject_here x.g other x.here) ∙ subjects ∙ subject_here f e own.here) in
      let one : x.g ≡ f = one_function s system x.g f x.has has (ap slot_number slots) in
      let here = subst (λ g. IsHere g other) one x.here in
      own.first other subjects (before_with (image_at s) (λ slot. f.image) f other e (image_of_function s system f has) refl here own.here before) here

  own_is_line : (e : Fault) → IsOwnOf (IsOwnLine (phase_of first)) (system_of dump probe) e → IsLine roots dump probe e
  own_is_line e is =
      let phase = is.own.phase_is in
      record {
        there = there-of_in roots dump probe e same (here_in roots (system_of dump probe) is.of e is.has is.own.here);
        none_earlier = λ other less there. none_earlier_than roots dump probe first other is_first (omega (arith, less, phase)) there;
        first = λ judged other subjects before there. own_first is.of e other is.has is.own subjects before there;
        named = λ judging. absurd (let no : ⊥ = omega (arith, judging, phase, early) in no);
      }

  line_is_own : (e : Fault) → IsLine roots dump probe e → phase_of e ≡ phase_of first → IsOwnOf (IsOwnLine (phase_of first)) (system_of dump probe) e
  line_is_own e line phase =
      let s = system_of dump probe in
      let x = in_here roots s e (omega (arith, phase, early)) (in-of_there roots dump probe e same line.there) in
      record {
        of = x.g;
        has = x.has;
        own = record {
          here = x.here;
          phase_is = phase;
          first = λ other subjects before here.
              line.first (omega (arith, phase, early)) other subjects
              (before_with (λ slot. x.g.image) (image_at s) x.g other e refl (image_of_function s system x.g x.has) here x.here before)
              (there-of_in roots dump probe other same (here_in roots s x.g other x.has here));
        };
      }

  -- what the functions by themselves add is the whole list
  pub all_of_functions : (xs : List Fault) → AreJust (IsBeforeAt (system_of dump probe)) (IsOwnOf (IsOwnLine (phase_of first)) (system_of dump probe)) xs → AreAllFaults roots dump probe xs
  all_of_functions xs just =
      all_faults roots dump probe first (IsOwnOf (IsOwnLine (phase_of first)) (system_of dump probe)) xs is_first just own_is_line line_is_own

-- the key of a function's own line
pub own_key : (phase : ℕ) (s : System) → IsSystem s → (f : Function) (e : Fault) → Contains s f → IsOwnLine phase f e → looking_key (image_at s) e ≡ phase ∷ slot_key f.slot ++ rest_of f e
own_key phase s system f e has own =
    key_at (image_at s) f e own.here (image_of_function s system f has) ∙ ap (λ p. p ∷ slot_key f.slot ++ rest_of f e) own.phase_is

-- in the function's order they are in that of the system
pub own_in_system : (phase : ℕ) (s : System) → IsSystem s → (f : Function) (xs : List Fault) → Contains s f → AreJust (IsBeforeIn f) (IsOwnLine phase f) xs → AreJust (IsBeforeAt s) (IsOwnLine phase f) xs
own_in_system phase s system f xs has just =
    just_same (IsBeforeAt s) (IsBeforeIn f) (IsOwnLine phase f) (IsOwnLine phase f) xs just (λ e is. is) (λ e is. is)
    (λ a b is_a is_b before. before_with (λ slot. f.image) (image_at s) f a b refl (image_of_function s system f has) is_a.here is_b.here before)
