-- Lines of the kernel's log that tell of a function's BARs.
use Rattle.std.specs.Prelude.{◌≡◌, ◌≢◌, ◌⊎◌, ℕ, ◌+◌, ◌<◌, ◌==◌, List, [], ◌∷◌, ◌++◌, codes, length, slice_index}
use Rattle.std.specs.List.{All, slice_split}
use Rattle.pciplan_lists.specs.PoolWords.{IsAddressWord}
use Rattle.pci_here.specs.Place.{FunctionPlace, IsPlaceName}
use Rattle.pci_here.specs.declared.log_line.BarSize.{BarSize}
use Rattle.pci_here.specs.declared.log_line.LogLine.{LogLine}
use Rattle.pci_here.specs.declared.log_line.SizeTold.{SizeTold}
use Rattle.pci_here.specs.declared.log_line.Told.{Told}
use Rattle.pci_here.specs.declared.log_line.Told.TheVariants.{Device, Size}

-- ---- the function

-- the words of a line, between its blanks
abbrev pub log_line_words : List ℕ → List (List ℕ)
log_line_words line = slice_split (λ byte. byte == 32) line

-- the name of a function, and a colon
pub record IsFunctionNameWord (word : List ℕ) (p : FunctionPlace) : Type 0 where
  pub name : List ℕ
  pub is : IsPlaceName name p
  pub text : word ≡ name ++ 58 ∷ []

abbrev pub IsNoNameWord : List ℕ → Type 0
IsNoNameWord word = (p : FunctionPlace) → IsFunctionNameWord word p → ⊥

-- what a line says of a function: what stands behind the first word that names one, as in
-- `[    0.4] pci 0000:01:00.0: BAR 2 [mem size 0x00004000]: failed to assign`
pub record IsSaidOf (line : List ℕ) (p : FunctionPlace) (text : List ℕ) : Type 0 where
  pub before : List (List ℕ)
  pub word : List ℕ
  pub parts : log_line_words line ≡ before ++ word ∷ log_line_words text
  pub none : All IsNoNameWord before
  pub names : IsFunctionNameWord word p

-- ---- a device

-- the byte isn't in a text
abbrev pub HasNo : ℕ → List ℕ → Type 0
HasNo byte text = (i : ℕ) → i < length text → slice_index text i ≢ byte

-- the device that was found in a slot: `[8086:10d3] type 00 class 0x020000`
pub record IsDevice (text : List ℕ) : Type 0 where
  pub id : List ℕ
  pub more : List ℕ
  pub parts : text ≡ 91 ∷ (id ++ 93 ∷ (codes " type " ++ more))
  pub whole : HasNo 93 id

-- ---- a size

-- the words behind the size of a BAR of memory space, and the flags that they tell
abbrev pub IsKind : List ℕ → ℕ → Type 0
IsKind log_line_words flags =
    ((log_line_words ≡ codes "64bit") × (flags ≡ 516))
    ⊎ ((log_line_words ≡ codes "pref") × (flags ≡ 520))
    ⊎ ((log_line_words ≡ codes "64bit pref") × (flags ≡ 524))

pub record IsKindSize (text : List ℕ) (s : SizeTold) : Type 0 where
  pub digits : List ℕ
  pub kind : List ℕ
  pub parts : text ≡ digits ++ 32 ∷ kind
  pub is_kind : IsKind kind s.flags
  pub is : IsAddressWord digits s.size

-- a size in hex digits, of these flags
abbrev pub IsPlainSize : ℕ → List ℕ → SizeTold → Type 0
IsPlainSize flags text s = (s.flags ≡ flags) × IsAddressWord text s.size

-- `io  size 0x0020`, with one blank or two
abbrev pub IsIoText : List ℕ → SizeTold → Type 0
IsIoText text s =
    ((rest : List ℕ) × (text ≡ codes "io  size 0x" ++ rest) × IsPlainSize 257 rest s)
    ⊎ ((rest : List ℕ) × (text ≡ codes "io size 0x" ++ rest) × IsPlainSize 257 rest s)

-- `mem size 0x00004000`, with such words behind it where there are any
abbrev pub IsSizeText : List ℕ → SizeTold → Type 0
IsSizeText text s =
    ((rest : List ℕ) × (text ≡ codes "mem size 0x" ++ rest) × (IsPlainSize 512 rest s ⊎ IsKindSize rest s))
    ⊎ IsIoText text s

-- a blank, or a colon and what became of the BAR
abbrev pub IsBehindNumber : List ℕ → Type 0
IsBehindNumber text = (text ≡ codes " ") ⊎ ((rest : List ℕ) × (text ≡ 58 ∷ rest))

-- The BAR, before the bracket: `BAR 2 `, or `BAR 2: failed to assign ` of kernels before 6.7. There are six; higher
-- numbers are of the ROM, of virtual functions and of bridge windows.
pub record IsBarText (text : List ℕ) (bar : ℕ) : Type 0 where
  pub below : bar < 6
  pub more : List ℕ
  pub parts : text ≡ codes "BAR " ++ (48 + bar) ∷ more
  pub behind : IsBehindNumber more

-- the size of a BAR that has no place: `BAR 2 [mem size 0x00004000]: failed to assign`, or
-- `BAR 2: failed to assign [mem size 0x00004000]`
pub record IsBarSize (text : List ℕ) (size : BarSize) : Type 0 where
  pub front : List ℕ
  pub inside : List ℕ
  pub more : List ℕ
  pub parts : text ≡ front ++ 91 ∷ (inside ++ 93 ∷ more)
  pub no_open : HasNo 91 front
  pub no_close : HasNo 93 inside
  pub of_bar : IsBarText front size.bar
  pub is : IsSizeText inside size.told

-- ---- a line

abbrev pub IsLogMessage : List ℕ → Told → Type 0
IsLogMessage text Device = IsDevice text
IsLogMessage text (Size size) = IsBarSize text size

-- a line that tells of a function's BARs
pub record IsLogLine (line : List ℕ) (l : LogLine) : Type 0 where
  pub text : List ℕ
  pub said : IsSaidOf line l.place text
  pub is : IsLogMessage text l.told

-- a line that tells of none
abbrev pub IsNoLogLine : List ℕ → Type 0
IsNoLogLine line = (l : LogLine) → IsLogLine line l → ⊥

-- what the lines tell that tell of a function's BARs, in their order
abbrev pub AreLogLines : List (List ℕ) → List LogLine → Type 0
AreLogLines [] told = told ≡ []
AreLogLines (line ∷ lines) told =
    ((l : LogLine) × (more : List LogLine) × IsLogLine line l × AreLogLines lines more × (told ≡ l ∷ more))
    ⊎ (IsNoLogLine line × AreLogLines lines told)

-- the same of a text's lines behind those that were looked at; `found` is of these
abbrev pub HasTold : List (List ℕ) → List (List ℕ) → List LogLine → Type 0
HasTold lines left found = (more : List LogLine) → AreLogLines left more → AreLogLines lines (found ++ more)
