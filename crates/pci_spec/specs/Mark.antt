-- The title of a block of a derived probe, as `assumed 1c,30`: it names the registers whose read backs are assumed.
use Rattle.std.specs.Prelude.{ℕ, ◌+◌, ◌*◌, ◌==◌, Bool, ◌&&◌, if◌then◌else◌, List, [], ◌∷◌, ◌++◌, codes, map, Option, None, Some}
use Rattle.std.specs.List.{find, flat_map, list_any, range_with_len}
use Rattle.pci_spec.specs.Slot.{Slot, same_slot}
use Rattle.pci_spec.specs.Text.{Block, hex_digit, hex_byte}

-- offsets of registers in two hex digits each, this separator before the first and a comma before each other
unfoldable pub spelled : ℕ → List ℕ → List ℕ
spelled separator [] = []
spelled separator (register ∷ more) = (separator ∷ hex_byte register) ++ spelled 44 more

-- a word, a blank and the registers; where none is assumed there is no title
abbrev pub mark : List ℕ → Option (List ℕ)
mark [] = None
mark (register ∷ more) = Some (codes "assumed" ++ spelled 32 (register ∷ more))

-- ---- what a title names

-- the number of a hex digit in lower case
unfoldable pub digit : ℕ → Option ℕ
digit c = find (λ d. hex_digit d == c) (range_with_len 0 16)

-- the number of two digits
abbrev pub two_of : Option ℕ → Option ℕ → Option ℕ
two_of None low = None
two_of (Some high) None = None
two_of (Some high) (Some low) = Some (16 * high + low)

abbrev pub put_before : Option ℕ → Option (List ℕ) → Option (List ℕ)
put_before None more = None
put_before (Some register) None = None
put_before (Some register) (Some more) = Some (register ∷ more)

-- the registers that are spelled so; None where the text spells none
unfoldable pub registers_in : ℕ → List ℕ → Option (List ℕ)
registers_in separator [] = Some []
registers_in separator (s ∷ []) = None
registers_in separator (s ∷ high ∷ []) = None
registers_in separator (s ∷ high ∷ low ∷ rest) =
    if s == separator then put_before (two_of (digit high) (digit low)) (registers_in 44 rest)
    else None

-- what stands behind a word that a text begins with
unfoldable pub behind_word : List ℕ → List ℕ → Option (List ℕ)
behind_word [] text = Some text
behind_word (c ∷ word) [] = None
behind_word (c ∷ word) (d ∷ text) = if d == c then behind_word word text else None

abbrev pub or_none_named : Option (List ℕ) → List ℕ
or_none_named None = []
or_none_named (Some registers) = registers

abbrev pub named_behind : Option (List ℕ) → List ℕ
named_behind None = []
named_behind (Some text) = or_none_named (registers_in 32 text)

-- the registers that a title names; one of any other form names none
abbrev pub marked : Option (List ℕ) → List ℕ
marked None = []
marked (Some title) = named_behind (behind_word (codes "assumed") title)

-- ---- of a whole dump

-- a register whose read back is assumed
pub record AssumedRegister : Type 0 where
  pub slot : Slot
  pub register : ℕ

abbrev pub assumed_at : Slot → ℕ → AssumedRegister
assumed_at slot register = record { slot = slot; register = register }

-- those that the titles of a probe name, by slot
abbrev pub named_in : Block → List AssumedRegister
named_in b = map (assumed_at b.slot) (marked b.title)

abbrev pub all_named : List Block → List AssumedRegister
all_named blocks = flat_map named_in blocks

-- whether a function's register is among them
abbrev pub is_size_assumed : List AssumedRegister → Slot → ℕ → Bool
is_size_assumed named slot register =
    list_any (λ a. same_slot a.slot slot && a.register == register) named
