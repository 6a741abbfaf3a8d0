-- A pass over the functions of a system in slot order: what it has passed has lower slots than what is to come.
use Rattle.std.proofs.Common.{◌≡◌, ℕ, ◌<◌, ◌≤◌, ◌⊎◌, inl, inr, List, length, take, get_or, arith, sym, ◌∙◌, ap, min, Some, length-take}
use Rattle.std.specs.List.{Contains, slice_get}
use Rattle.std.proofs.lemmas.Bool.{cases_lt, cases_eq}
use Rattle.std.proofs.lemmas.List.{get_or-take, get_or_default}
use Rattle.std.proofs.lemmas.Option.{slice_get_within, get_or_from_slice_get}
use Rattle.pci_spec.specs.Slot.{slot_number}
use Rattle.pci_spec.specs.System.{System, Function, IsSystem}
use Rattle.pci_spec.proofs.Nesting.{earlier_is_lower}

-- what is in the front of a list is in the list, at a lower place
pub record IsBefore {X : Type 0} (k : ℕ) (xs : List X) (x : X) : Type 0 where
  pub listed : Contains xs x
  pub before : listed.0 < k

pub in_front_to : {X : Type 0} (k : ℕ) (xs : List X) (x : X) → Contains (take k xs) x → IsBefore k xs x
in_front_to k xs x (j, less, is) =
    let size : length (take k xs) ≡ min k (length xs) = length-take k xs in
    let below : j < k = omega (arith, size, less) in
    let within : j < length xs = omega (arith, size, less) in
    record { listed = (j, within, sym (get_or-take k xs j x below) ∙ is); before = below }

pub in_front_from : {X : Type 0} (k : ℕ) (xs : List X) (x : X) (listed : Contains xs x) → listed.0 < k → Contains (take k xs) x
in_front_from k xs x (j, less, is) below =
    let size : length (take k xs) ≡ min k (length xs) = length-take k xs in
    (j, omega (arith, size, below, less), get_or-take k xs j x below ∙ is)

-- the next function is in the list
abbrev pub at_place : (s : System) (k : ℕ) (f : Function) → slice_get s k ≡ Some f → Contains s f
at_place s k f at = (k, slice_get_within s k f at, get_or_from_slice_get s k f f at)

module _ (s : System) (system : IsSystem s) (k : ℕ) (f : Function) (at : slice_get s k ≡ Some f) where
  -- what has a lower slot was passed
  pub lower_is_passed : (g : Function) → Contains s g → slot_number g.slot < slot_number f.slot → Contains (take k s) g
  lower_is_passed g (j, less, is) lower = elim (cases_lt j k) [
    | inl below ↦ in_front_from k s g (j, less, is) below
    | inr above ↦ elim (cases_eq j k) [
      | inl same ↦
          let e : g ≡ f = sym is ∙ get_or_default s j g f less ∙ ap (λ n. get_or s n f) same ∙ get_or_from_slice_get s k f f at in
          let n : slot_number g.slot ≡ slot_number f.slot = ap (λ (h : Function). slot_number h.slot) e in
          absurd (let impossible : ⊥ = omega (arith, n, lower) in impossible)
      | inr differ ↦
          let later : k < j = omega arith in
          let up = earlier_is_lower s system f g (at_place s k f at) (j, less, is) later in
          absurd (let impossible : ⊥ = omega (arith, up, lower) in impossible)
    ]
  ]

  -- so what wasn't passed is the next function or has a higher slot
  pub passed_or_higher : (g : Function) → Contains s g → Contains (take k s) g ⊎ (slot_number f.slot ≤ slot_number g.slot)
  passed_or_higher g listed = elim (cases_lt (slot_number g.slot) (slot_number f.slot)) [
    | inl lower ↦ inl (lower_is_passed g listed lower)
    | inr higher ↦ inr higher
  ]
