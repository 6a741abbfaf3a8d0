-- Which capabilities of a chain are asleep.
use Rattle.std.proofs.Common.{◌≡◌, ℕ, ◌+◌, ◌<◌, ◌≤◌, List, length, get_or, inl, inr, arith, sym, ◌∙◌, subst}
use Rattle.std.proofs.lemmas.Bool.{cases_lt}
use Rattle.pci_spec.specs.Capability.{pointer, body_length, IsChain}
use Rattle.pci_spec.specs.Fault.{IsNotInD0, IsNotInD0At}
use Rattle.pci_spec.proofs.Walks.{pointer-ended}

-- the body at a place of a chain ends within the image
pub body_within : (image places : List ℕ) (i n : ℕ) → IsChain image places → i < length places → n ≡ get_or places i 0 → n + body_length image n ≤ 256
body_within image places i n chain within e =
    subst (λ k. k + body_length image k ≤ 256) (sym (e ∙ chain.each i within)) (chain.bodies i within)

-- a place of a chain that is asleep makes the function so
pub asleep_from : (image places : List ℕ) (i n : ℕ) → IsChain image places → i < length places → n ≡ get_or places i 0 → IsNotInD0At image n → IsNotInD0 image
asleep_from image places i n chain within is h =
    let e : n ≡ pointer image i = is ∙ chain.each i within in
    let low = (chain.in_range i within).0 in
    (n, (i, sym e, λ z. (let no : ⊥ = omega (arith, low, e, z) in no)), h)

-- and where none is, it isn't
pub awake_from : (image places : List ℕ) → IsChain image places → ((k : ℕ) → k < length places → IsNotInD0At image (get_or places k 0) → ⊥) → IsNotInD0 image → ⊥
awake_from image places chain none (place, (n, at, nonzero), h) = elim (cases_lt n (length places)) [
  | inl within ↦ none n within (subst (λ p. IsNotInD0At image p) (sym at ∙ sym (chain.each n within)) h)
  | inr past ↦ nonzero (sym at ∙ pointer-ended image (length places) n past chain.end)
]
