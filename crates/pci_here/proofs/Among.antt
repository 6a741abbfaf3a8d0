-- What is shown of places, with one place more.
use Rattle.std.proofs.Common.{◌≡◌, ℕ, ◌<◌, ◌⊎◌, ◌↔◌, List, [], ◌∷◌, ◌++◌, length, get_or, set, Bool, true, false, sym, ◌∙◌, subst, inl, inr, arith}
use Rattle.std.specs.List.{Contains}
use Rattle.std.proofs.lemmas.Bool.{cases_eq}
use Rattle.std.proofs.lemmas.List.{get_or-set_same, get_or-set_other}
use Rattle.std.proofs.lemmas.List.Elements.{Contains-append_left, Contains-push, Contains-push_cases}
use Rattle.pci_spec.proofs.Members.{in_nil}
use Rattle.pci_here.specs.Place.{FunctionPlace}
use Rattle.pci_here.specs.Taken.{Among}

module _ {X : Type 0} (Is : FunctionPlace → X → Type 0) where
  pub among_none : (x : X) → Among Is [] x → ⊥
  among_none x a = in_nil a.0 a.1

  among_left : (places : List FunctionPlace) (p : FunctionPlace) (x : X) → Among Is places x → Among Is (places ++ p ∷ []) x
  among_left places p x a = (a.0, Contains-append_left places (p ∷ []) a.0 a.1, a.2)

  among_here : (places : List FunctionPlace) (p : FunctionPlace) (x : X) → Is p x → Among Is (places ++ p ∷ []) x
  among_here places p x is = (p, Contains-push places p, is)

  among_cases : (places : List FunctionPlace) (p : FunctionPlace) (x : X) → Among Is (places ++ p ∷ []) x → Among Is places x ⊎ Is p x
  among_cases places p x a = elim (Contains-push_cases places p a.0 a.1) [
    | inl before ↦ inl (a.0, before, a.2)
    | inr here ↦ inr (subst (λ q. Is q x) (sym here) a.2)
  ]

  -- the place has nothing
  pub list_same : (places : List FunctionPlace) (p : FunctionPlace) (xs : List X) → ((y : X) → Contains xs y ↔ Among Is places y)
      → ((y : X) → Is p y → ⊥) → (y : X) → Contains xs y ↔ Among Is (places ++ p ∷ []) y
  list_same places p xs was none y = (
    λ has. among_left places p y ((was y).0 has),
    λ a. elim (among_cases places p y a) [
      | inl before ↦ (was y).1 before
      | inr here ↦ absurd (none y here)
    ],
  )

  -- the place has one thing
  pub list_more : (places : List FunctionPlace) (p : FunctionPlace) (xs : List X) (x : X) → ((y : X) → Contains xs y ↔ Among Is places y)
      → Is p x → ((y : X) → Is p y → x ≡ y) → (y : X) → Contains (xs ++ x ∷ []) y ↔ Among Is (places ++ p ∷ []) y
  list_more places p xs x was is only y = (
    λ has. elim (Contains-push_cases xs x y has) [
      | inl before ↦ among_left places p y ((was y).0 before)
      | inr here ↦ among_here places p y (subst (λ z. Is p z) here is)
    ],
    λ a. elim (among_cases places p y a) [
      | inl before ↦ Contains-append_left xs (x ∷ []) y ((was y).1 before)
      | inr here ↦ subst (λ z. Contains (xs ++ x ∷ []) z) (only y here) (Contains-push xs x)
    ],
  )

-- flags of numbers that are shown of places
pub flags_same : (Is : FunctionPlace → ℕ → Type 0) (places : List FunctionPlace) (p : FunctionPlace) (flags : List Bool)
    → ((n : ℕ) → n < 256 → (get_or flags n false ≡ true) ↔ Among Is places n) → ((n : ℕ) → Is p n → ⊥)
    → (n : ℕ) → n < 256 → (get_or flags n false ≡ true) ↔ Among Is (places ++ p ∷ []) n
flags_same Is places p flags was none n small = (
  λ has. among_left Is places p n ((was n small).0 has),
  λ a. elim (among_cases Is places p n a) [
    | inl before ↦ (was n small).1 before
    | inr here ↦ absurd (none n here)
  ],
)

pub flags_more : (Is : FunctionPlace → ℕ → Type 0) (places : List FunctionPlace) (p : FunctionPlace) (flags : List Bool) (x : ℕ) → length flags ≡ 256 → x < 256
    → ((n : ℕ) → n < 256 → (get_or flags n false ≡ true) ↔ Among Is places n) → Is p x → ((n : ℕ) → Is p n → x ≡ n)
    → (n : ℕ) → n < 256 → (get_or (set flags x true) n false ≡ true) ↔ Among Is (places ++ p ∷ []) n
flags_more Is places p flags x size within was is only n small = elim (cases_eq n x) [
  | inl e ↦ (
    λ h. among_here Is places p n (subst (λ z. Is p z) (sym e) is),
    λ a. subst (λ z. get_or (set flags x true) z false ≡ true) (sym e) (get_or-set_same flags x true false (omega (arith, size, within))),
  )
  | inr ne ↦ (let same : get_or (set flags x true) n false ≡ get_or flags n false = get_or-set_other flags x n true false ne in (
    λ h. among_left Is places p n ((was n small).0 (sym same ∙ h)),
    λ a. elim (among_cases Is places p n a) [
      | inl before ↦ same ∙ (was n small).1 before
      | inr here ↦ absurd (ne (sym (only n here)))
    ],
  ))
]
