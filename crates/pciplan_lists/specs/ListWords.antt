-- The ranges of a list of the command line.
use Rattle.std.specs.Prelude.{◌≡◌, ℕ, ◌<◌, List, [], ◌∷◌, ◌++◌, Option, None, Some, IfSome, codes}
use Rattle.pci_spec.specs.Text.{hex_byte}
use Rattle.pci_base.specs.declared.range.RootRange.{RootRange}
use Rattle.pciplan_lists.specs.PoolWords.{IsPoolWord}
use Rattle.pciplan_lists.specs.Joined.{AreJoined}

-- nothing for all root buses, or one in two digits and a colon
abbrev pub bus_text : Option ℕ → List ℕ
bus_text None = []
bus_text (Some bus) = hex_byte bus ++ 58 ∷ []

-- a range of all root buses, or of one
pub record IsRangeWord (word : List ℕ) (r : RootRange) : Type 0 where
  pub below : IfSome r.root (λ bus. bus < 256)
  pub addresses : List ℕ
  pub text : word ≡ bus_text r.root ++ addresses
  pub range : IsPoolWord addresses r.range

-- `none`, or ranges joined by commas: with a comma before the first too, each has one
abbrev pub IsListWord : List ℕ → List RootRange → Type 0
IsListWord word [] = word ≡ codes "none"
IsListWord word (r ∷ more) = AreJoined IsRangeWord (44 ∷ word) (r ∷ more)

-- the word is a list that has a range
abbrev pub HasListedRanges : List ℕ → Type 0
HasListedRanges word = (first : RootRange) × (more : List RootRange) × IsListWord word (first ∷ more)
