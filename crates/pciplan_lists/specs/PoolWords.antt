-- The addresses of a word of the command line.
use Rattle.std.specs.Prelude.{◌≡◌, ℕ, ◌^◌, ◌<◌, ◌≤◌, List, ◌∷◌, ◌++◌}
use Rattle.pci_spec.specs.Line.{hex_number}
use Rattle.pci_base.specs.declared.range.Range.{Range}

-- the address in 1 to 16 lower-case hex digits
pub record IsAddressWord (word : List ℕ) (address : ℕ) : Type 0 where
  pub digits : ℕ
  pub some : 0 < digits
  pub few : digits ≤ 16
  pub below : address < 16 ^ digits
  pub text : word ≡ hex_number digits address

-- two addresses, joined by a minus sign
pub record IsPoolWord (word : List ℕ) (pool : Range) : Type 0 where
  pub first : List ℕ
  pub last : List ℕ
  pub parts : word ≡ first ++ 45 ∷ last
  pub from : IsAddressWord first pool.first
  pub to : IsAddressWord last pool.last

-- no addresses have this word
abbrev pub HasNoPool : List ℕ → Type 0
HasNoPool word = (pool : Range) → IsPoolWord word pool → ⊥
