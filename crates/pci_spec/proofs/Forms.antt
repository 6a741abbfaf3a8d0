-- Texts and their cells.
use Rattle.std.proofs.Common.{◌≡◌, ◌≢◌, ◌⊎◌, ℕ, zero, suc, ◌+◌, ◌-◌, ◌*◌, ◌/◌, ◌%◌, ◌<◌, ◌≤◌, inl, inr, List, [], ◌∷◌, ◌++◌, refl, Option, arith, sym, ◌∙◌, ap, subst, length, get_or, take, drop, append_assoc, map, true, false, Bool, cond}
use Rattle.std.specs.Prelude.{IfSome, ◌==◌, IsTrue}
use Rattle.std.specs.Bool.{nat_lt}
use Rattle.std.specs.List.{flat_map, range_with_len}
use Rattle.std.proofs.lemmas.Bool.{cases_lt, cases_eq, lt-ltb, le-ltb, cond-true, cond-false}
use Rattle.std.proofs.lemmas.List.Sums.{sum_by-cons, sum_by-append}
use Rattle.std.proofs.lemmas.List.{length-append, length-take, length-drop, take_at, drop_at, drop-drop}
use Rattle.pci_spec.specs.Slot.{Slot, IsSlot}
use Rattle.pci_spec.specs.Text.{Block, IsBlock, IsTitle, is_title_byte, hex_digit, hex_byte, slot_text, title_text, byte_line, block_text, line_ends}
use Rattle.pci_spec.specs.Form.{Cell, Fixed, Digit, InTitle, Takes, Fits, Leaves, Breaks, Begins, slot_cells, value_cells, row_cells, rows_cells, rest_cells, row_text, rows_text, ends_in}
use Rattle.pci_spec.proofs.Spelling.{title_byte}

-- ---- cells and bytes

pub fits_append : (cells others : List Cell) (a b : List ℕ) → Fits cells a → Fits others b → Fits (cells ++ others) (a ++ b)
fits_append [] others [] b h k = k
fits_append [] others (x ∷ a) b h k = absurd h
fits_append (t ∷ cells) others [] b h k = absurd h
fits_append (t ∷ cells) others (x ∷ a) b h k = (h.0, fits_append cells others a b h.1 k)

pub record FitsBoth (cells others : List Cell) (bytes : List ℕ) : Type 0 where
  pub a : List ℕ
  pub b : List ℕ
  pub split : bytes ≡ a ++ b
  pub first : Fits cells a
  pub second : Fits others b

pub fits_split : (cells others : List Cell) (bytes : List ℕ) → Fits (cells ++ others) bytes → FitsBoth cells others bytes
fits_split [] others bytes h = record { a = []; b = bytes; split = refl; first = tt; second = h }
fits_split (t ∷ cells) others [] h = absurd h
fits_split (t ∷ cells) others (x ∷ bytes) h =
    let s = fits_split cells others bytes h.1 in
    record { a = x ∷ s.a; b = s.b; split = ap (λ (l : List ℕ). x ∷ l) s.split; first = (h.0, s.first); second = s.second }

pub fits_length : (cells : List Cell) (a : List ℕ) → Fits cells a → length a ≡ length cells
fits_length [] [] h = refl
fits_length [] (x ∷ a) h = absurd h
fits_length (t ∷ cells) [] h = absurd h
fits_length (t ∷ cells) (x ∷ a) h = ap suc (fits_length cells a h.1)

-- what is in a cell at its place
pub takes_at : (done : List Cell) (cell : Cell) (todo : List Cell) (part : List ℕ) (c : ℕ) (rest : List ℕ) → length part ≡ length done → Fits (done ++ cell ∷ todo) (part ++ c ∷ rest) → Takes cell c
takes_at [] cell todo [] c rest e h = h.0
takes_at [] cell todo (x ∷ part) c rest e h = absurd (let no : ⊥ = omega (arith, e) in no)
takes_at (t ∷ done) cell todo [] c rest e h = absurd (let no : ⊥ = omega (arith, e) in no)
takes_at (t ∷ done) cell todo (x ∷ part) c rest e h = takes_at done cell todo part c rest (omega (arith, e)) h.1

decide_digit : (n c : ℕ) → Takes (Digit n) c ⊎ (Takes (Digit n) c → ⊥)
decide_digit zero c = elim (cases_eq c 48) [
  | inl same ↦ inl (0, omega arith, same)
  | inr other ↦ inr (λ h. let z : h.0 ≡ 0 = omega arith in other (h.2 ∙ ap hex_digit z))
]
decide_digit (suc n) c = elim (decide_digit n c) [
  | inl low ↦ inl (low.0, omega arith, low.2)
  | inr none ↦ elim (cases_eq c (hex_digit (suc n))) [
    | inl same ↦ inl (suc n, omega arith, same)
    | inr other ↦ inr (λ h. elim (cases_lt h.0 (suc n)) [
      | inl below ↦ none (h.0, omega arith, h.2)
      | inr top ↦ let z : h.0 ≡ suc n = omega arith in other (h.2 ∙ ap hex_digit z)
    ])
  ]
]

decide_title : (b : Bool) → IsTrue b ⊎ (IsTrue b → ⊥)
decide_title true = inl refl
decide_title false = inr (λ h. absurd cc)

pub decide_cell : (cell : Cell) (c : ℕ) → Takes cell c ⊎ (Takes cell c → ⊥)
decide_cell (Fixed n) c = cases_eq c n
decide_cell (Digit n) c = decide_digit n c
decide_cell InTitle c = decide_title (is_title_byte c)

-- bytes fill the cells, or the first of them alone, or stop at a byte
pub decide_fits : (cells : List Cell) (bytes : List ℕ) → Begins cells bytes ⊎ Leaves cells bytes ⊎ Breaks cells bytes
decide_fits [] bytes = inl (record { text = []; rest = bytes; split = refl; fits = tt })
decide_fits (t ∷ cells) [] = inr (inl (record { done = []; todo = t ∷ cells; cells_split = refl; some = (λ e. let n = ap length e in let no : ⊥ = omega (arith, n) in no); fits = tt }))
decide_fits (t ∷ cells) (x ∷ bytes) = elim (decide_cell t x) [
  | inr wrong ↦ inr (inr (record { done = []; cell = t; todo = cells; cells_split = refl; part = []; c = x; more = bytes; split = refl; fits = tt; wrong = wrong }))
  | inl taken ↦ elim (decide_fits cells bytes) [
    | inl b ↦ inl (record { text = x ∷ b.text; rest = b.rest; split = ap (λ (l : List ℕ). x ∷ l) b.split; fits = (taken, b.fits) })
    | inr r ↦ elim r [
      | inl l ↦ inr (inl (record { done = t ∷ l.done; todo = l.todo; cells_split = ap (λ (ts : List Cell). t ∷ ts) l.cells_split; some = l.some; fits = (taken, l.fits) }))
      | inr k ↦ inr (inr (record { done = t ∷ k.done; cell = k.cell; todo = k.todo; cells_split = ap (λ (ts : List Cell). t ∷ ts) k.cells_split; part = x ∷ k.part; c = k.c; more = k.more; split = ap (λ (l : List ℕ). x ∷ l) k.split; fits = (taken, k.fits); wrong = k.wrong }))
    ]
  ]
]

-- some bytes fit
abbrev pub filler : Cell → ℕ
filler (Fixed n) = n
filler (Digit n) = 48
filler InTitle = 97

fits_cell : (cell : Cell) → Takes cell (filler cell)
fits_cell (Fixed n) = refl
fits_cell (Digit n) = (0, omega arith, refl)
fits_cell InTitle = refl

pub filled : (cells : List Cell) → Fits cells (map filler cells)
filled [] = tt
filled (t ∷ cells) = (fits_cell t, filled cells)

-- ---- line ends

digit_no_end : (d : ℕ) → hex_digit d ≢ 10
digit_no_end d e = elim (cases_lt d 10) [
  | inl low ↦ let x = cond-true (nat_lt d 10) (48 + d) (87 + d) (lt-ltb d 10 low) in omega (arith, x, e)
  | inr high ↦ let x = cond-false (nat_lt d 10) (48 + d) (87 + d) (le-ltb d 10 high) in omega (arith, x, e)
]

other_byte : (c : ℕ) → c ≢ 10 → (c == 10) ≡ false
other_byte c n = grind (arith, n)

pub line_ends_cons : (x : ℕ) (bytes : List ℕ) → line_ends (x ∷ bytes) ≡ cond (x == 10) 1 0 + line_ends bytes
line_ends_cons x bytes = sum_by-cons (λ c. cond (c == 10) 1 0) x bytes

pub line_ends_append : (xs ys : List ℕ) → line_ends (xs ++ ys) ≡ line_ends xs + line_ends ys
line_ends_append xs ys = sum_by-append (λ c. cond (c == 10) 1 0) xs ys

pub no_end_cons : (x : ℕ) (bytes : List ℕ) (n : ℕ) → x ≢ 10 → line_ends bytes ≡ n → line_ends (x ∷ bytes) ≡ n
no_end_cons x bytes n h k =
    line_ends_cons x bytes ∙ ap (λ (b : Bool). cond b 1 0 + line_ends bytes) (other_byte x h) ∙ (let z : 0 + line_ends bytes ≡ n = omega (arith, k) in z)

pub ends_of : (cells : List Cell) (bytes : List ℕ) → Fits cells bytes → line_ends bytes ≡ ends_in cells
ends_of [] [] h = refl
ends_of [] (x ∷ bytes) h = absurd h
ends_of (t ∷ cells) [] h = absurd h
ends_of (Fixed n ∷ cells) (x ∷ bytes) h =
    line_ends_cons x bytes ∙ ap (λ (k : ℕ). cond (x == 10) 1 0 + k) (ends_of cells bytes h.1) ∙ ap (λ (m : ℕ). cond (m == 10) 1 0 + ends_in cells) h.0
ends_of (Digit n ∷ cells) (x ∷ bytes) h = no_end_cons x bytes (ends_in cells) (λ e. digit_no_end h.0.0 (sym h.0.2 ∙ e)) (ends_of cells bytes h.1)
ends_of (InTitle ∷ cells) (x ∷ bytes) h = no_end_cons x bytes (ends_in cells) (title_byte x h.0) (ends_of cells bytes h.1)

-- ---- rows of values

abbrev pub spaced : ℕ → List ℕ
spaced b = 32 ∷ hex_byte b

pub record Values (n : ℕ) (bytes : List ℕ) : Type 0 where
  pub values : List ℕ
  pub many : length values ≡ n
  pub small : (k : ℕ) → get_or values k 0 < 256
  pub text : bytes ≡ flat_map spaced values

pub byte_of : (high low : ℕ) → high ≤ 15 → low ≤ 15 → hex_byte (16 * high + low) ≡ hex_digit high ∷ hex_digit low ∷ []
byte_of high low h l =
    let a : (16 * high + low) / 16 ≡ high = omega arith in
    let b : (16 * high + low) % 16 ≡ low = omega arith in
    ap (λ (d : ℕ). hex_digit d ∷ hex_digit ((16 * high + low) % 16) ∷ []) a ∙ ap (λ (d : ℕ). hex_digit high ∷ hex_digit d ∷ []) b

small_cons : (v : ℕ) (values : List ℕ) → v < 256 → ((k : ℕ) → get_or values k 0 < 256) → (k : ℕ) → get_or (v ∷ values) k 0 < 256
small_cons v values h hs zero = h
small_cons v values h hs (suc k) = hs k

pub values_of : (n : ℕ) (bytes : List ℕ) → Fits (value_cells n) bytes → Values n bytes
unfolding value_cells
values_of zero [] h = record { values = []; many = refl; small = (λ k. omega arith); text = refl }
values_of zero (x ∷ bytes) h = absurd h
values_of (suc n) [] h = absurd h
values_of (suc n) (x ∷ []) h = absurd h.1
values_of (suc n) (x ∷ y ∷ []) h = absurd h.1.1
values_of (suc n) (x ∷ y ∷ z ∷ bytes) h =
    let r = values_of n bytes h.1.1.1 in
    let high = h.1.0 in
    let low = h.1.1.0 in
    let v = 16 * high.0 + low.0 in
    let two : y ∷ z ∷ [] ≡ hex_byte v = (λ i. high.2 i ∷ low.2 i ∷ []) ∙ sym (byte_of high.0 low.0 high.1 low.1) in
    record {
      values = v ∷ r.values;
      many = ap suc r.many;
      small = small_cons v r.values (omega (arith, high.1, low.1)) r.small;
      text = (λ i. h.0 i ∷ two i ++ r.text i);
    }

pub fits_values : (values : List ℕ) → ((k : ℕ) → get_or values k 0 < 256) → Fits (value_cells (length values)) (flat_map spaced values)
unfolding value_cells
fits_values [] small = tt
fits_values (v ∷ values) small = (refl, ((v / 16, (let b = small 0 in omega (arith, b)), refl), ((v % 16, omega arith, refl), fits_values values (λ k. small (suc k)))))

abbrev pub AreSmall : List ℕ → Type 0
AreSmall values = (k : ℕ) → get_or values k 0 < 256

pub small_append : (a b : List ℕ) → AreSmall a → AreSmall b → AreSmall (a ++ b)
small_append [] b h g k = g k
small_append (x ∷ a) b h g zero = h 0
small_append (x ∷ a) b h g (suc k) = small_append a b (λ j. h (suc j)) g k

pub small_take : (n : ℕ) (a : List ℕ) → AreSmall a → AreSmall (take n a)
small_take zero a h k = omega arith
small_take (suc n) [] h k = omega arith
small_take (suc n) (x ∷ a) h zero = h 0
small_take (suc n) (x ∷ a) h (suc k) = small_take n a (λ j. h (suc j)) k

pub small_drop : (n : ℕ) (a : List ℕ) → AreSmall a → AreSmall (drop n a)
small_drop zero a h k = h k
small_drop (suc n) [] h k = omega arith
small_drop (suc n) (x ∷ a) h k = small_drop n a (λ j. h (suc j)) k

pub one_fixed : (n : ℕ) (bytes : List ℕ) → Fits (Fixed n ∷ []) bytes → bytes ≡ n ∷ []
one_fixed n [] h = absurd h
one_fixed n (x ∷ []) h = λ i. h.0 i ∷ []
one_fixed n (x ∷ y ∷ bytes) h = absurd h.1

pub record Row (row : ℕ) (bytes : List ℕ) : Type 0 where
  pub values : List ℕ
  pub many : length values ≡ 16
  pub small : AreSmall values
  pub text : bytes ≡ row_text row values

pub row_of : (row : ℕ) (bytes : List ℕ) → Fits (row_cells row) bytes → Row row bytes
row_of row [] h = absurd h
row_of row (x ∷ []) h = absurd h.1
row_of row (x ∷ y ∷ []) h = absurd h.1.1
row_of row (x ∷ y ∷ z ∷ bytes) h =
    let s = fits_split (value_cells 16) (Fixed 10 ∷ []) bytes h.1.1.1 in
    let v = values_of 16 s.a s.first in
    let tail : bytes ≡ flat_map spaced v.values ++ 10 ∷ [] = s.split ∙ ap (λ (t : List ℕ). t ++ s.b) v.text ∙ ap (λ (t : List ℕ). flat_map spaced v.values ++ t) (one_fixed 10 s.b s.second) in
    record { values = v.values; many = v.many; small = v.small; text = (λ i. h.0 i ∷ h.1.0 i ∷ h.1.1.0 i ∷ tail i) }

pub fits_row : (row : ℕ) (values : List ℕ) → length values ≡ 16 → AreSmall values → Fits (row_cells row) (row_text row values)
fits_row row values many small = (
  refl,
  (
    refl,
    (
      refl,
      fits_append (value_cells 16) (Fixed 10 ∷ []) (flat_map spaced values) (10 ∷ [])
          (subst (λ (n : ℕ). Fits (value_cells n) (flat_map spaced values)) many (fits_values values small)) (refl, tt),
    ),
  ),
)

pub record Rows (row n : ℕ) (bytes : List ℕ) : Type 0 where
  pub values : List ℕ
  pub many : length values ≡ 16 * n
  pub small : AreSmall values
  pub text : bytes ≡ rows_text row n values

pub rows_of : (row n : ℕ) (bytes : List ℕ) → Fits (rows_cells row n) bytes → Rows row n bytes
unfolding rows_cells rows_text
rows_of row zero [] h = record { values = []; many = refl; small = (λ k. omega arith); text = refl }
rows_of row zero (x ∷ bytes) h = absurd h
rows_of row (suc n) bytes h =
    let s = fits_split (row_cells row) (rows_cells (row + 1) n) bytes h in
    let one = row_of row s.a s.first in
    let more = rows_of (row + 1) n s.b s.second in
    record {
      values = one.values ++ more.values;
      many = (let a = length-append one.values more.values in let b = one.many in let c = more.many in omega (arith, a, b, c));
      small = small_append one.values more.values one.small more.small;
      text = s.split ∙ (λ i. one.text i ++ more.text i)
          ∙ (λ i. row_text row (sym (take_at one.values more.values 16 one.many) i) ++ rows_text (row + 1) n (sym (drop_at one.values more.values 16 one.many) i));
    }

pub fits_rows : (row n : ℕ) (values : List ℕ) → length values ≡ 16 * n → AreSmall values → Fits (rows_cells row n) (rows_text row n values)
unfolding rows_cells rows_text
fits_rows row zero values many small = tt
fits_rows row (suc n) values many small =
    let a = length-take 16 values in
    let b = length-drop 16 values in
    fits_append (row_cells row) (rows_cells (row + 1) n) (row_text row (take 16 values)) (rows_text (row + 1) n (drop 16 values))
    (fits_row row (take 16 values) (omega (arith, a, many)) (small_take 16 values small))
    (fits_rows (row + 1) n (drop 16 values) (omega (arith, b, many)) (small_drop 16 values small))

-- the rows of an image
pub image_rows : (image : List ℕ) (row n : ℕ) → rows_text row n (drop (16 * row) image) ≡ flat_map (byte_line image) (range_with_len row n)
unfolding rows_text
image_rows image row zero = refl
image_rows image row (suc n) =
    let many : 16 ≡ 16 * row + 16 - 16 * row = omega arith in
    let one : row_text row (take 16 (drop (16 * row) image)) ≡ byte_line image row = ap (λ (k : ℕ). row_text row (take k (drop (16 * row) image))) many in
    let next : 16 * row + 16 ≡ 16 * (row + 1) = omega arith in
    let more : drop 16 (drop (16 * row) image) ≡ drop (16 * (row + 1)) image = drop-drop 16 (16 * row) image ∙ ap (λ (k : ℕ). drop k image) next in
    (λ i. one i ++ (ap (rows_text (row + 1) n) more ∙ image_rows image (row + 1) n) i)

-- ---- slots

pub slot_of : (bytes : List ℕ) → Fits slot_cells bytes → (s : Slot) × IsSlot s × (bytes ≡ slot_text s)
slot_of [] h = absurd h
slot_of (a ∷ []) h = absurd h.1
slot_of (a ∷ b ∷ []) h = absurd h.1.1
slot_of (a ∷ b ∷ c ∷ []) h = absurd h.1.1.1
slot_of (a ∷ b ∷ c ∷ d ∷ []) h = absurd h.1.1.1.1
slot_of (a ∷ b ∷ c ∷ d ∷ e ∷ []) h = absurd h.1.1.1.1.1
slot_of (a ∷ b ∷ c ∷ d ∷ e ∷ f ∷ []) h = absurd h.1.1.1.1.1.1
slot_of (a ∷ b ∷ c ∷ d ∷ e ∷ f ∷ g ∷ []) h =
    let b1 = h.0 in let b0 = h.1.0 in let d1 = h.1.1.1.0 in let d0 = h.1.1.1.1.0 in let f0 = h.1.1.1.1.1.1.0 in
    let bus : a ∷ b ∷ [] ≡ hex_byte (16 * b1.0 + b0.0) = (λ i. b1.2 i ∷ b0.2 i ∷ []) ∙ sym (byte_of b1.0 b0.0 b1.1 b0.1) in
    let device : d ∷ e ∷ [] ≡ hex_byte (16 * d1.0 + d0.0) = (λ i. d1.2 i ∷ d0.2 i ∷ []) ∙ sym (byte_of d1.0 d0.0 (omega (arith, d1.1)) d0.1) in (
      record { bus = 16 * b1.0 + b0.0; device = 16 * d1.0 + d0.0; function = f0.0 },
      (omega (arith, b1.1, b0.1), omega (arith, d1.1, d0.1), omega (arith, f0.1)),
      (λ i. bus i ++ (h.1.1.0 i ∷ device i) ++ (h.1.1.1.1.1.0 i ∷ f0.2 i ∷ [])),
    )
slot_of (a ∷ b ∷ c ∷ d ∷ e ∷ f ∷ g ∷ x ∷ bytes) h = absurd h.1.1.1.1.1.1.1

pub fits_slot : (s : Slot) → IsSlot s → Fits slot_cells (slot_text s)
fits_slot s h =
    ((s.bus / 16, omega (arith, h.0), refl), ((s.bus % 16, omega arith, refl), (refl, ((s.device / 16, omega (arith, h.1), refl), ((s.device % 16, omega arith, refl), (refl, ((s.function, omega (arith, h.2), refl), tt)))))))

-- ---- blocks

pub record Parts (b : Block) : Type 0 where
  pub rest : List ℕ
  pub fits : Fits rest_cells rest
  pub text : block_text b ≡ slot_text b.slot ++ (title_text b.title ++ 10 ∷ rest)

pub lines_text : (b : Block) (rest : List ℕ) → flat_map (byte_line b.image) (range_with_len 0 16) ++ 10 ∷ [] ≡ rest → block_text b ≡ slot_text b.slot ++ (title_text b.title ++ 10 ∷ rest)
unfolding block_text
lines_text b rest e =
    let lines = flat_map (byte_line b.image) (range_with_len 0 16) in
    ap (λ (t : List ℕ). t ++ 10 ∷ []) (append_assoc (slot_text b.slot) (title_text b.title) (10 ∷ lines))
    ∙ append_assoc (slot_text b.slot) (title_text b.title ++ 10 ∷ lines) (10 ∷ [])
    ∙ ap (λ (t : List ℕ). slot_text b.slot ++ t) (append_assoc (title_text b.title) (10 ∷ lines) (10 ∷ []) ∙ ap (λ (t : List ℕ). title_text b.title ++ 10 ∷ t) e)

pub parts_of : (b : Block) → IsBlock b → Parts b
parts_of b h = record {
  rest = flat_map (byte_line b.image) (range_with_len 0 16) ++ 10 ∷ [];
  fits = fits_append (rows_cells 0 16) (Fixed 10 ∷ []) (flat_map (byte_line b.image) (range_with_len 0 16)) (10 ∷ [])
      (subst (λ (t : List ℕ). Fits (rows_cells 0 16) t) (image_rows b.image 0 16) (fits_rows 0 16 b.image h.image.full h.image.bytes)) (refl, tt);
  text = lines_text b _ refl;
}

pub record Made (s : Slot) (title : Option (List ℕ)) (rest : List ℕ) : Type 0 where
  pub block : Block
  pub holds : IsBlock block
  pub its_slot : block.slot ≡ s
  pub text : slot_text s ++ (title_text title ++ 10 ∷ rest) ≡ block_text block

pub made_of : (s : Slot) (title : Option (List ℕ)) (rest : List ℕ) → IsSlot s → IfSome title IsTitle → Fits rest_cells rest → Made s title rest
made_of s title rest hs ht hr =
    let both = fits_split (rows_cells 0 16) (Fixed 10 ∷ []) rest hr in
    let rows = rows_of 0 16 both.a both.first in
    let b : Block = record { slot = s; title = title; image = rows.values } in
    let lines : flat_map (byte_line rows.values) (range_with_len 0 16) ++ 10 ∷ [] ≡ rest =
    ap (λ (t : List ℕ). t ++ 10 ∷ []) (sym (image_rows rows.values 0 16) ∙ sym rows.text) ∙ ap (λ (t : List ℕ). both.a ++ t) (sym (one_fixed 10 both.b both.second)) ∙ sym both.split in
    record {
      block = b;
      holds = record { slot = hs; title = ht; image = record { full = rows.many; bytes = rows.small } };
      its_slot = refl;
      text = sym (lines_text b rest lines);
    }
