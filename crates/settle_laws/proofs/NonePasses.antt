-- Lists of which nothing passes a test, and bytes outside a register.
use Rattle.std.proofs.Common.{◌≡◌, ℕ, ◌+◌, ◌≤◌, ◌⊎◌, inl, inr, List, Bool, false, arith}
use Rattle.std.specs.Bool.{nat_le, nat_lt}
use Rattle.std.specs.List.{Contains, list_any}
use Rattle.std.proofs.lemmas.Bool.{cases_Bool, cases_lt, and_from, both_ways, le-leb, lt-ltb}
use Rattle.pci_spec.specs.Header.{is_in_register}
use Rattle.plan_spec.proofs.Planning.Behind.{Passes, any_gives, any_from}

-- a list has none that passes
pub none_passes : {X : Type 0} (test : X → Bool) (xs : List X) → list_any test xs ≡ false → (x : X) → Contains xs x → test x ≡ false
none_passes test xs none x listed = elim (cases_Bool (test x)) [
  | inr fine ↦ fine
  | inl is ↦ absurd (both_ways (list_any test xs) none (any_from test xs x listed is))
]

pub outside : (place : ℕ) (r : ℕ × ℕ) → is_in_register place r ≡ false → (place + 1 ≤ r.0) ⊎ (r.0 + r.1 ≤ place)
outside place r out = elim (cases_lt place r.0) [
  | inl before ↦ inl (omega (arith, before))
  | inr from ↦ elim (cases_lt place (r.0 + r.1)) [
    | inr after ↦ inr after
    | inl to ↦ absurd (both_ways (is_in_register place r) out (and_from (nat_le r.0 place) (nat_lt place (r.0 + r.1)) (le-leb r.0 place from) (lt-ltb place (r.0 + r.1) to)))
  ]
]

pub none_by : {X : Type 0} (test : X → Bool) (xs : List X) → ((x : X) → Contains xs x → test x ≡ false) → list_any test xs ≡ false
none_by test xs each = elim (cases_Bool (list_any test xs)) [
  | inr none ↦ none
  | inl some ↦ absurd (let found : Passes test xs = any_gives test xs some in both_ways (test found.x) (each found.x found.listed) found.is)
]
