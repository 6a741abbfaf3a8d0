-- The options by which a domain is judged elsewhere.
use Rattle.std.specs.Prelude.{◌≡◌, ℕ, ◌^◌, ◌<◌, List, [], ◌∷◌, ◌++◌, length, map, Option, None, Some, IfSome, codes}
use Rattle.std.specs.List.{All}
use Rattle.std.specs.Global.{Vec}
use Rattle.pci_spec.specs.Text.{hex_byte}
use Rattle.pci_base.specs.declared.range.RootRange.{RootRange}
use Rattle.pciplan_lists.specs.ListWords.{bus_text, IsListWord}
use Rattle.pci_tree.specs.Roots.{buses_of}
use Rattle.pci_here.specs.Place.{hex_text}
use Rattle.pci_here.specs.declared.domain.Domain.{Domain}

-- An option and its words: the first one behind the option's name, each other one behind a comma. An option without words
-- isn't written.
abbrev pub option_text : List ℕ → List (List ℕ) → List ℕ
option_text before [] = []
option_text before (word ∷ words) = before ++ (word ++ option_text (44 ∷ []) words)

-- a range of all root buses, or of one
abbrev pub range_word : RootRange → List ℕ
range_word r = bus_text r.root ++ (hex_text r.range.first ++ (45 ∷ hex_text r.range.last))

-- an option of the host, where ranges are told
abbrev pub host_text : List ℕ → Option (Vec RootRange) → List ℕ
host_text option None = []
host_text option (Some list) = option_text option (map range_word list.items)

-- the line of options of a domain
abbrev pub domain_line : Domain → List ℕ
domain_line d =
    option_text (codes "--root ") (map hex_byte (buses_of d.roots))
    ++ (codes " --model all"
    ++ (host_text (codes " --host-io ") d.io ++ (host_text (codes " --host-mem ") d.mem ++ (10 ∷ []))))

-- addresses of 64 bits, of a bus below 256 or of all
pub record IsSmallRange (r : RootRange) : Type 0 where
  pub root : IfSome r.root (λ bus. bus < 256)
  pub first : r.range.first < 2 ^ 64
  pub last : r.range.last < 2 ^ 64

-- behind the option's name stands a list that has these ranges
pub record IsReadAs (option : List ℕ) (list : List RootRange) : Type 0 where
  pub word : List ℕ
  pub text : option_text option (map range_word list) ≡ option ++ word
  pub is : IsListWord word list

-- what is written of a list of ranges is read as this list
abbrev pub WrittenListIsRead : Type 0
WrittenListIsRead = (option : List ℕ) (list : List RootRange) → 0 < length list
    → All IsSmallRange list → IsReadAs option list
