-- BARs of the code as those of the definitions, and what the rules say of them.
use Rattle.std.specs.Prelude.{◌≡◌, ◌≢◌, ℕ, ◌%◌, ◌^◌, ◌<◌, ◌≤◌, ◌==◌, ◌↔◌, Bool, ◌&&◌, not, IsTrue, IsFalse, List, Option, None, Some, if◌then◌else◌}
use Rattle.pci_spec.specs.Number.{has_bit}
use Rattle.pci_spec.specs.Header.{bar_count, bar_register, layout}
use Rattle.pci_spec.specs.Bar.{BarKind as SpecKind, IoBar, Memory32, Memory64, BarFault, bar_at, is_io, encodings, is_lawful, has_lawful_size, is_within, bar_fault, BarDecodes}
use Rattle.pci_spec.specs.Bar as rules
use Rattle.pci_spec.specs.Decoded.{DecodedBar, aligned_range, decoded_bar}
use Rattle.pci_spec.specs.Fault.{has_no_vendor, has_other_layout}
use Rattle.pci_image.specs.declared.bar.Bar.{Bar}
use Rattle.pci_image.specs.declared.bar.BarKind.{BarKind}
use Rattle.pci_image.specs.declared.bar.BarKind.TheVariants.{Io, Mem32, Mem64}
use Rattle.pci_image.specs.declared.fault.ImageFault.{ImageFault}
use Rattle.pci_image.specs.declared.fault.ImageFault.TheVariants.{NoVendor, HeaderKind, BarType, BarMask, BarPair}

-- the kind as the definitions have it
abbrev pub decoded_kind_of : BarKind → SpecKind
decoded_kind_of Io = IoBar
decoded_kind_of Mem32 = Memory32
decoded_kind_of Mem64 = Memory64

-- the BAR as the definitions have it
abbrev pub decoded_bar_of : Bar → DecodedBar
decoded_bar_of bar = record {
  register = bar.reg;
  kind = decoded_kind_of bar.kind;
  prefetchable = bar.prefetch;
  range = record { first = bar.first; last = bar.last };
}

-- the fault names this register, and this rule that is broken
abbrev pub IsBarFault : ℕ → Option BarFault → ImageFault → Type 0
IsBarFault register broken (BarType r) = (r ≡ register) × (broken ≡ Some rules.BarType)
IsBarFault register broken (BarMask r) = (r ≡ register) × (broken ≡ Some rules.BarMask)
IsBarFault register broken (BarPair r) = (r ≡ register) × (broken ≡ Some rules.BarPair)
IsBarFault register broken _ = ⊥

-- the rule on encoding bits that a value and its read back break
abbrev pub broken_encoding : ℕ → ℕ → Option BarFault
broken_encoding value mask =
    if not (value % encodings mask == mask % encodings mask) then Some rules.BarMask
    else if is_io mask && has_bit mask 1 then Some rules.BarMask
    else if not (is_io mask) && has_bit mask 1 then Some rules.BarType
    else None

-- the rule on size and place that the whole BAR's value and read back break
abbrev pub broken_size : SpecKind → ℕ → ℕ → Option BarFault
broken_size kind value mask =
    if not (has_lawful_size kind mask) then Some rules.BarMask
    else if not (is_within 0 value mask) then Some rules.BarMask
    else None

-- the BAR has the range that a lawful size gives the value
abbrev pub IsPlaced : ℕ → SpecKind → Bool → ℕ → ℕ → Bar → Type 0
IsPlaced register kind prefetchable value mask bar =
    (k : ℕ) × IsTrue (is_lawful kind mask k)
    × (decoded_bar_of bar
    ≡ record {
      register = register;
      kind = kind;
      prefetchable = prefetchable;
      range = aligned_range value (2 ^ k);
    })

-- what register n decodes to, where it starts a BAR: none where it isn't implemented
abbrev pub IsDecodedAt : List ℕ → List ℕ → ℕ → Option Bar → Type 0
IsDecodedAt image probe n None = bar_at probe n ≡ 0
IsDecodedAt image probe n (Some bar) =
    (bar_at probe n ≢ 0) × (decoded_bar_of bar ≡ decoded_bar image probe n)

-- no register below this one has a fault
abbrev pub HasNoBarFaultBelow : List ℕ → List ℕ → ℕ → Type 0
HasNoBarFaultBelow image probe register =
    (n : ℕ) → bar_register n < register → bar_fault image probe n ≡ None

-- the fault is of the header, or no register below the one that it names has one
abbrev pub IsLowestBarFault : List ℕ → List ℕ → ImageFault → Type 0
IsLowestBarFault image probe NoVendor = Unit {0}
IsLowestBarFault image probe HeaderKind = Unit {0}
IsLowestBarFault image probe (BarType register) = HasNoBarFaultBelow image probe register
IsLowestBarFault image probe (BarMask register) = HasNoBarFaultBelow image probe register
IsLowestBarFault image probe (BarPair register) = HasNoBarFaultBelow image probe register
IsLowestBarFault image probe _ = ⊥

-- a function answers, its header is of one of the two layouts, and none of its BARs breaks a rule
pub record HasLawfulBars (image probe : List ℕ) : Type 0 where
  pub vendor : IsFalse (has_no_vendor image)
  pub header : IsFalse (has_other_layout image)
  pub each : (n : ℕ) → n < bar_count (layout image) → bar_fault image probe n ≡ None

-- the addresses from first to last are those that the comparator of the BAR's register answers
abbrev pub IsComparedBar : List ℕ → List ℕ → Bar → Type 0
IsComparedBar image probe bar =
    (n a : ℕ) → bar.reg ≡ bar_register n → ((bar.first ≤ a) × (a ≤ bar.last))
    ↔ BarDecodes image probe n a
