-- The fault that is noted of a survey, among all faults of the functions that it took.
use Rattle.std.proofs.Common.{◌≡◌, ℕ, ◌+◌, ◌<◌, List, [], ◌∷◌, ◌++◌, get_or, true, inl, inr, arith, sym, subst, ap}
use Rattle.std.specs.List.{Contains, AllPairs}
use Rattle.std.proofs.lemmas.List.{get_or_default}
use Rattle.std.proofs.lemmas.List.Elements.{Contains-append_cases}
use Rattle.pci_spec.specs.Slot.{slot_number}
use Rattle.pci_spec.specs.System.{System, Function, IsSystem}
use Rattle.pci_spec.specs.Fault.{Fault, IsIn}
use Rattle.pci_spec.specs.Order.{phase_of, is_before, image_at}
use Rattle.pci_spec.proofs.Members.{in_head, in_tail, in_cons_cases, pairs_head, pairs_tail}
use Rattle.pci_spec.proofs.Nesting.{earlier_is_lower}
use Rattle.pci_function.specs.Profile.{IsClearBefore}
use Rattle.pci_tree.specs.Survey.{IsFirstAmong}
use Rattle.pci_function.proofs.FirstIn.{here_not_clear, none_before}

-- the slots of a system's functions rise
functions_of : (s : System) → IsSystem s → AllPairs (λ (f g : Function). slot_number f.slot < slot_number g.slot) s
functions_of s system i j d less within =
    earlier_is_lower s system (get_or s i d) (get_or s j d) (i, omega (arith, less, within), get_or_default s i (get_or s i d) d (omega (arith, less, within)))
    (j, within, get_or_default s j (get_or s j d) d within) less

rise_behind : (xs after : System) (f g : Function) → AllPairs (λ (x y : Function). slot_number x.slot < slot_number y.slot) (xs ++ f ∷ after) → Contains after g
    → slot_number f.slot < slot_number g.slot
rise_behind [] after f g pairs later = pairs_head (λ (x y : Function). slot_number x.slot < slot_number y.slot) f after g pairs later
rise_behind (x ∷ xs) after f g pairs later = rise_behind xs after f g (pairs_tail (λ (y z : Function). slot_number y.slot < slot_number z.slot) x (xs ++ f ∷ after) pairs) later

-- so what stands before a function in slot order does so in the list
stands_before : (before after : System) (f g : Function) → AllPairs (λ (x y : Function). slot_number x.slot < slot_number y.slot) (before ++ f ∷ after) → Contains (before ++ f ∷ after) g
    → slot_number g.slot < slot_number f.slot → Contains before g
stands_before before after f g rise has lower = elim (Contains-append_cases before (f ∷ after) g has) [
  | inl first ↦ first
  | inr rest ↦ absurd (elim (in_cons_cases f after g rest) [
    | inl here ↦ let e = ap (λ (x : Function). slot_number x.slot) here in let no : ⊥ = omega (arith, e, lower) in no
    | inr later ↦ let up = rise_behind before after f g rise later in let no : ⊥ = omega (arith, up, lower) in no
  ])
]

in_middle : (xs ys : System) (f : Function) → Contains (xs ++ f ∷ ys) f
in_middle [] ys f = in_head f ys
in_middle (x ∷ xs) ys f = in_tail x (xs ++ f ∷ ys) f (in_middle xs ys f)

pub among_listed : (s : System) (e : Fault) (is : IsFirstAmong s e) → Contains s is.f
among_listed s e is = subst (λ xs. Contains xs is.f) (sym is.split) (in_middle is.before is.after is.f)

-- none of the system is looked for before it
pub first_among : (roots : List ℕ) (s : System) → IsSystem s → (e : Fault) (is : IsFirstAmong s e) → ((h : Function) → Contains s h → IsClearBefore (phase_of e) h)
    → (other : Fault) → is_before (image_at s) other e ≡ true → IsIn roots s other → ⊥
first_among roots s system e is clear other =
    none_before roots s system is.f (among_listed s e is) e is.here is.first (λ x. Unit {0})
    (λ x g has counts lower here. elim lower [
      | inl less ↦ here_not_clear g x (phase_of e) less (clear g has) here
      | inr (phase, lower) ↦
          let first = stands_before is.before is.after is.f g (subst (λ xs. AllPairs (λ (y z : Function). slot_number y.slot < slot_number z.slot) xs) is.split (functions_of s system))
          (subst (λ xs. Contains xs g) is.split has) lower in
          here_not_clear g x (phase_of e + 1) (omega (arith, phase)) (is.earlier g first) here
    ]) other tt
