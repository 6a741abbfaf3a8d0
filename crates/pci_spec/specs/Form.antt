-- A block's text place by place: which bytes may stand where.
use Rattle.std.specs.Prelude.{◌≡◌, ◌≢◌, ℕ, zero, suc, ◌+◌, ◌*◌, ◌/◌, ◌%◌, ◌≤◌, ◌==◌, if◌then◌else◌, IsTrue, List, [], ◌∷◌, ◌++◌, take, drop}
use Rattle.std.specs.List.{flat_map}
use Rattle.pci_spec.specs.Text.{hex_digit, hex_byte, is_title_byte}

-- a place in a line
pub data Cell : Type 0 where
  -- this byte
  Fixed : ℕ → Cell
  -- a hex digit of at most this
  Digit : ℕ → Cell
  InTitle : Cell

abbrev pub Takes : Cell → ℕ → Type 0
Takes (Fixed n) c = c ≡ n
Takes (Digit n) c = (d : ℕ) × (d ≤ n) × (c ≡ hex_digit d)
Takes InTitle c = IsTrue (is_title_byte c)

-- the bytes stand in the cells, one in each
abbrev pub Fits : List Cell → List ℕ → Type 0
Fits [] [] = Unit {0}
Fits [] (c ∷ bytes) = ⊥
Fits (cell ∷ cells) [] = ⊥
Fits (cell ∷ cells) (c ∷ bytes) = Takes cell c × Fits cells bytes

-- the bytes fill the first cells alone
pub record Leaves (cells : List Cell) (bytes : List ℕ) : Type 0 where
  pub done : List Cell
  pub todo : List Cell
  pub cells_split : cells ≡ done ++ todo
  pub some : todo ≢ []
  pub fits : Fits done bytes

-- a byte does not go into its cell, those before it do
pub record Breaks (cells : List Cell) (bytes : List ℕ) : Type 0 where
  pub done : List Cell
  pub cell : Cell
  pub todo : List Cell
  pub cells_split : cells ≡ done ++ cell ∷ todo
  pub part : List ℕ
  pub c : ℕ
  pub more : List ℕ
  pub split : bytes ≡ part ++ c ∷ more
  pub fits : Fits done part
  pub wrong : Takes cell c → ⊥

-- the bytes begin with some that fill the cells
pub record Begins (cells : List Cell) (bytes : List ℕ) : Type 0 where
  pub text : List ℕ
  pub rest : List ℕ
  pub split : bytes ≡ text ++ rest
  pub fits : Fits cells text

-- `bb:dd.f`
abbrev pub slot_cells : List Cell
slot_cells = Digit 15 ∷ Digit 15 ∷ Fixed 58 ∷ Digit 1 ∷ Digit 15 ∷ Fixed 46 ∷ Digit 7 ∷ []

-- so many bytes, each after a space
unfoldable pub value_cells : ℕ → List Cell
value_cells zero = []
value_cells (suc n) = Fixed 32 ∷ Digit 15 ∷ Digit 15 ∷ value_cells n

-- an offset, sixteen bytes and the line's end
abbrev pub row_cells : ℕ → List Cell
row_cells row =
    Fixed (hex_digit (16 * row / 16)) ∷ Fixed (hex_digit (16 * row % 16)) ∷ Fixed 58
    ∷ (value_cells 16 ++ Fixed 10 ∷ [])

-- so many lines of bytes, from a row on
unfoldable pub rows_cells : ℕ → ℕ → List Cell
rows_cells row zero = []
rows_cells row (suc n) = row_cells row ++ rows_cells (row + 1) n

-- what follows the slot line
abbrev pub rest_cells : List Cell
rest_cells = rows_cells 0 16 ++ Fixed 10 ∷ []

-- a line of sixteen values
abbrev pub row_text : ℕ → List ℕ → List ℕ
row_text row values =
    hex_byte (16 * row) ++ (58 ∷ flat_map (λ byte. 32 ∷ hex_byte byte) values) ++ (10 ∷ [])

-- so many lines of the values, from a row on
unfoldable pub rows_text : ℕ → ℕ → List ℕ → List ℕ
rows_text row zero values = []
rows_text row (suc n) values =
    row_text row (take 16 values) ++ rows_text (row + 1) n (drop 16 values)

-- the number of line ends in cells
abbrev pub ends_in : List Cell → ℕ
ends_in [] = 0
ends_in (Fixed n ∷ cells) = (if n == 10 then 1 else 0) + ends_in cells
ends_in (Digit n ∷ cells) = ends_in cells
ends_in (InTitle ∷ cells) = ends_in cells

-- what follows the slot line breaks, after so many line ends
pub record BreaksIn (k : ℕ) (bytes : List ℕ) : Type 0 where
  pub breaks : Breaks rest_cells bytes
  pub ends : ends_in breaks.done ≡ k
