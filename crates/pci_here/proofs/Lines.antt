-- Lines that tell of a bus: where they are cut.
use Rattle.std.proofs.Common.{◌≡◌, ℕ, ◌<◌, List, ◌∷◌, ◌++◌, length, Option, None, Some, MatchOption, Bor, codes, replicate, sym, ◌∙◌, ap, subst, inl, arith}
use Rattle.std.specs.Str.Pattern.{FindsCharPrefix, FindsTextPrefix, StripsPrefix, IsTrimStartMatches}
use Rattle.std.proofs.lemmas.List.{length-append}
use Rattle.std.proofs.lemmas.Str.Pattern.{IsSplitOnceResult, split_after, split_parts}
use Rattle.pci_base.specs.declared.range.Range.{Range}
use Rattle.pciplan_lists.specs.PoolWords.{IsPoolWord}
use Rattle.pciplan_lists.proofs.HexWords.{no_digit}
use Rattle.pciplan_lists.proofs.RangeWords.{IsNoDigit, without_pool}
use Rattle.pciplan_lists.proofs.Without.{Without}
use Rattle.pci_here.specs.declared.bus.Bus.{Bus}
use Rattle.pci_here.specs.Bus.{IsBusName}
use Rattle.pci_here.specs.declared.bus_line.BusRange.{BusRange}
use Rattle.pci_here.specs.BusLine.{IsBusLine}
use Rattle.pci_here.proofs.Blanks.{no_blank, trimmed_to, blanks_cut}
use Rattle.pci_here.proofs.Names.{stripped, strip_there}

digits_no_blank : IsNoDigit 32
digits_no_blank = no_digit 32 (inl (omega arith))

addresses_no_blank : (addresses : List ℕ) (range : Range) → IsPoolWord addresses range → Without 32 addresses
addresses_no_blank addresses range is = without_pool 32 digits_no_blank (omega arith) addresses range is

some_addresses : (addresses : List ℕ) (range : Range) → IsPoolWord addresses range → 0 < length addresses
some_addresses addresses range is = omega (arith, ap length is.parts, length-append is.first (45 ∷ is.last))

-- behind the blanks of a line stand its addresses, a blank and the rest
pub line_text : (line rest : List ℕ) → IsTrimStartMatches (FindsCharPrefix 32) line rest → (r : BusRange) (is : IsBusLine line r)
    → rest ≡ is.addresses ++ 32 ∷ (codes ": PCI Bus " ++ is.name)
line_text line rest trimmed r is =
    trimmed_to line rest trimmed is.blanks (is.addresses ++ 32 ∷ (codes ": PCI Bus " ++ is.name))
    (no_blank is.addresses (32 ∷ (codes ": PCI Bus " ++ is.name)) (some_addresses is.addresses r.range is.is_range)
    (addresses_no_blank is.addresses r.range is.is_range)) is.text

-- what a line's two parts have to be
pub record AreLineParts (addresses rest : List ℕ) (r : BusRange) : Type 0 where
  pub name : List ℕ
  pub is_range : IsPoolWord addresses r.range
  pub is_bus : IsBusName name r.bus
  pub text : rest ≡ codes ": PCI Bus " ++ name

pub line_parts : (line rest : List ℕ) → IsTrimStartMatches (FindsCharPrefix 32) line rest
    → (cut : Option (Bor (List ℕ) × Bor (List ℕ))) → IsSplitOnceResult 32 rest cut
    → (r : BusRange) → IsBusLine line r → MatchOption cut ⊥ (λ parts. AreLineParts parts.0.now parts.1.now r)
line_parts line rest trimmed None result r is =
    split_after 32 rest is.addresses (codes ": PCI Bus " ++ is.name) None result (omega arith) (line_text line rest trimmed r is)
    (addresses_no_blank is.addresses r.range is.is_range)
line_parts line rest trimmed (Some parts) result r is =
    let same = split_after 32 rest is.addresses (codes ": PCI Bus " ++ is.name) (Some parts) result (omega arith) (line_text line rest trimmed r is)
    (addresses_no_blank is.addresses r.range is.is_range) in
    record {
      name = is.name;
      is_range = subst (λ w. IsPoolWord w r.range) (sym same.0) is.is_range;
      is_bus = is.is_bus;
      text = same.1;
    }

-- the bus of a line's second part
pub part_bus : (addresses rest : List ℕ) (r : BusRange) → AreLineParts addresses rest r
    → (cut : Option (Bor (List ℕ))) → MatchOption cut (FindsTextPrefix (codes ": PCI Bus ") rest None) (λ x. StripsPrefix (FindsTextPrefix (codes ": PCI Bus ")) rest x.now)
    → MatchOption cut ⊥ (λ x. IsBusName x.now r.bus)
part_bus addresses rest r are None cut = stripped (codes ": PCI Bus ") rest None cut are.name are.text
part_bus addresses rest r are (Some x) cut =
    let same : x.now ≡ are.name = stripped (codes ": PCI Bus ") rest (Some x) cut are.name are.text in
    subst (λ w. IsBusName w r.bus) (sym same) are.is_bus

-- a line from its parts
pub line_there : (line rest : List ℕ) → IsTrimStartMatches (FindsCharPrefix 32) line rest
    → (parts : Bor (List ℕ) × Bor (List ℕ)) → IsSplitOnceResult 32 rest (Some parts)
    → (name : Bor (List ℕ)) → StripsPrefix (FindsTextPrefix (codes ": PCI Bus ")) parts.1.now name.now
    → (bus : Bus) (range : Range) → IsBusName name.now bus → IsPoolWord parts.0.now range → IsBusLine line record { bus = bus; range = range }
line_there line rest trimmed parts result name strips bus range is_bus is_range =
    let blanks = blanks_cut line rest trimmed in
    let cut = split_parts 32 rest (Some parts) result (omega arith) in
    record {
      blanks = blanks.0;
      addresses = parts.0.now;
      name = name.now;
      is_range = is_range;
      is_bus = is_bus;
      text = blanks.1 ∙ ap (λ t. replicate blanks.0 32 ++ t) (cut.0 ∙ ap (λ t. parts.0.now ++ 32 ∷ t) (strip_there (codes ": PCI Bus ") parts.1.now name strips));
    }

pub range_same : (r : BusRange) (bus : Bus) (range : Range) → bus ≡ r.bus → range ≡ r.range → Some (record { bus = bus; range = range }) ≡ Some r
range_same r bus range of_bus of_range = λ i. Some record { bus = of_bus i; range = of_range i }
