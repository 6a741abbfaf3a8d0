-- Lines of bytes one after the other.
use Rattle.std.proofs.Common.{◌≡◌, None, Some, ℕ, zero, suc, ◌+◌, ◌-◌, ◌*◌, ◌/◌, ◌%◌, ◌<◌, ◌≤◌, List, [], ◌∷◌, ◌++◌, refl, arith, sym, ◌∙◌, ap, subst, length, get_or, take, drop, append_assoc, append-nil, map}
use Rattle.std.specs.Prelude.{slice_get}
use Rattle.std.specs.List.{slice_range}
use borrow.Rule.Slice.PartMut.{put_mid}
use Rattle.std.proofs.lemmas.List.{length-append, length-take, drop_at, drop_more, drop-drop, take_all, take-append-le, drop-append-le, length-drop}
use Rattle.std.proofs.lemmas.List.Folds.{drop_split}
use Rattle.std.proofs.lemmas.Slice.{take-put_mid, drop-put_mid}
use Rattle.pci_spec.specs.Text.{hex_digit, line_ends}
use Rattle.pci_spec.specs.Form.{Cell, Fixed, Fits, Breaks, Leaves, BreaksIn, value_cells, row_cells, rows_cells, rest_cells, row_text, rows_text, ends_in}
use Rattle.pci_spec.proofs.Forms.{fits_append, fits_length, fits_rows, fits_row, filler, ends_of, line_ends_append, AreSmall, small_append}
use Rattle.pci_spec.proofs.Faults.{rows_ends, row_front, breaks_in_row, breaks_in_blank, leaves_in_row, leaves_in_blank, refused_line, refused_part, taken_part, breaks_longer, padded}
use Rattle.pci_dump.specs.declared.parse.BlockFault.{BlockFault}
use Rattle.pci_dump.specs.declared.parse.BlockFault.TheVariants.{BadSlot, BadTitle, BadLine, NoBlank, Order, Ended, EndedFirst}
use Rattle.pci_dump.specs.BlockFault.{RowStops, RestStops}
use Rattle.pci_dump.specs.Row.{IsRowRead}

pub row_long : (row : ℕ) → length (row_cells row) ≡ 52
unfolding value_cells
row_long row = refl

pub rows_start : (bytes image : List ℕ) → bytes ≡ rows_text 0 0 (take (16 * 0) image) ++ bytes
unfolding rows_text
rows_start bytes image = refl

more_text : (row n : ℕ) (a b : List ℕ) → length a ≡ 16 * n → length b ≡ 16 → rows_text row (n + 1) (a ++ b) ≡ rows_text row n a ++ row_text (row + n) b
unfolding rows_text
more_text row zero [] b la lb =
    let z : row ≡ row + 0 = omega arith in
    append-nil (row_text row (take 16 b)) ∙ (λ i. row_text (z i) (take_all 16 b (omega (arith, lb)) i))
more_text row zero (x ∷ a) b la lb = absurd (let no : ⊥ = omega (arith, la) in no)
more_text row (suc n) a b la lb =
    let s : suc n + 1 ≡ suc (n + 1) = omega arith in
    let r : row + 1 + n ≡ row + suc n = omega arith in
    let front : take 16 (a ++ b) ≡ take 16 a = take-append-le 16 a b (omega (arith, la)) in
    let back : drop 16 (a ++ b) ≡ drop 16 a ++ b = drop-append-le 16 a b (omega (arith, la)) in
    let d = length-drop 16 a in
    ap (λ (k : ℕ). rows_text row k (a ++ b)) s ∙ (λ i. row_text row (front i) ++ rows_text (row + 1) (n + 1) (back i))
    ∙ ap (λ (t : List ℕ). row_text row (take 16 a) ++ t) (more_text (row + 1) n (drop 16 a) b (omega (arith, d, la)) lb)
    ∙ sym (append_assoc (row_text row (take 16 a)) (rows_text (row + 1) n (drop 16 a)) (row_text (row + 1 + n) b))
    ∙ ap (λ (k : ℕ). (row_text row (take 16 a) ++ rows_text (row + 1) n (drop 16 a)) ++ row_text k b) r

pub row_more : (bytes image new values rest line next : List ℕ) (row : ℕ) → row < 16 → length image ≡ 256 → length values ≡ 16
    → bytes ≡ rows_text 0 row (take (16 * row) image) ++ rest → rest ≡ line ++ next → line ≡ row_text row values → take (16 * row + 16) new ≡ take (16 * row) image ++ values
    → bytes ≡ rows_text 0 (row + 1) (take (16 * (row + 1)) new) ++ next
row_more bytes image new values rest line next row h long many so_far cut text written =
    let k : 16 * row + 16 ≡ 16 * (row + 1) = omega arith in
    let z : 0 + row ≡ row = omega arith in
    let t = length-take (16 * row) image in
    let after : rows_text 0 (row + 1) (take (16 * (row + 1)) new) ≡ rows_text 0 row (take (16 * row) image) ++ row_text row values =
    ap (λ (j : ℕ). rows_text 0 (row + 1) (take j new)) (sym k) ∙ ap (rows_text 0 (row + 1)) written
    ∙ more_text 0 row (take (16 * row) image) values (omega (arith, t, long, h)) many ∙ ap (λ (j : ℕ). rows_text 0 row (take (16 * row) image) ++ row_text j values) z in
    so_far ∙ ap (λ (x : List ℕ). rows_text 0 row (take (16 * row) image) ++ x) (cut ∙ ap (λ (x : List ℕ). x ++ next) text)
    ∙ sym (append_assoc (rows_text 0 row (take (16 * row) image)) (row_text row values) next) ∙ ap (λ (x : List ℕ). x ++ next) (sym after)

pub small_more : (image new values : List ℕ) (row : ℕ) → AreSmall (take (16 * row) image) → AreSmall values → take (16 * row + 16) new ≡ take (16 * row) image ++ values → AreSmall (take (16 * (row + 1)) new)
small_more image new values row small fine written =
    let k : 16 * row + 16 ≡ 16 * (row + 1) = omega arith in
    subst AreSmall (sym written ∙ ap (λ (j : ℕ). take j new) k) (small_append (take (16 * row) image) values small fine)

pub rows_fit : (image : List ℕ) (row : ℕ) → row ≤ 16 → length image ≡ 256 → AreSmall (take (16 * row) image) → Fits (rows_cells 0 row) (rows_text 0 row (take (16 * row) image))
rows_fit image row h long small = let t = length-take (16 * row) image in fits_rows 0 row (take (16 * row) image) (omega (arith, t, long, h)) small

row_left : (row : ℕ) (done todo : List Cell) → row_cells row ≡ done ++ todo → (todo ≡ [] → ⊥) → ends_in done ≡ 0
row_left row done [] e some = absurd (some refl)
row_left row done (x ∷ todo) e some = row_front row done x todo e

pub part_stops : (bytes image rest : List ℕ) (row : ℕ) (stop : BlockFault) → row < 16 → length image ≡ 256 → AreSmall (take (16 * row) image) → bytes ≡ rows_text 0 row (take (16 * row) image) ++ rest
    → RowStops row rest stop → RestStops bytes stop
part_stops bytes image rest row (BadLine r) h long small so_far s =
    let fits = rows_fit image row (omega (arith, h)) long small in
    (omega (arith, s.0, h), subst (λ (k : ℕ). BreaksIn k bytes) (sym s.0) (subst (λ (t : List ℕ). BreaksIn row t) (sym so_far) (breaks_in_row row _ rest h fits s.1)))
part_stops bytes image rest row (Ended r) h long small so_far s =
    let rows = rows_text 0 row (take (16 * row) image) in
    let fits = rows_fit image row (omega (arith, h)) long small in
    let a = ap line_ends so_far ∙ line_ends_append rows rest in
    let b = ends_of (rows_cells 0 row) rows fits ∙ rows_ends 0 row in
    let c = ends_of s.1.done rest s.1.fits ∙ row_left row s.1.done s.1.todo s.1.cells_split s.1.some in
    (subst (λ (t : List ℕ). Leaves rest_cells t) (sym so_far) (leaves_in_row row rows rest h fits s.1), omega (arith, a, b, c, s.0))
part_stops bytes image rest row BadSlot h long small so_far s = absurd s
part_stops bytes image rest row BadTitle h long small so_far s = absurd s
part_stops bytes image rest row NoBlank h long small so_far s = absurd s
part_stops bytes image rest row Order h long small so_far s = absurd s
part_stops bytes image rest row EndedFirst h long small so_far s = absurd s

pub line_stops : (bytes image rest line next : List ℕ) (row : ℕ) → row < 16 → length image ≡ 256 → AreSmall (take (16 * row) image) → bytes ≡ rows_text 0 row (take (16 * row) image) ++ rest
    → rest ≡ line ++ next → length line ≡ 52 → (Fits (row_cells row) line → ⊥) → BreaksIn row bytes
line_stops bytes image rest line next row h long small so_far cut whole none =
    let fits = rows_fit image row (omega (arith, h)) long small in
    let k = breaks_longer (row_cells row) line next (refused_line (row_cells row) line (whole ∙ sym (row_long row)) none) in
    subst (λ (t : List ℕ). BreaksIn row t) (sym so_far) (breaks_in_row row _ rest h fits (subst (λ (t : List ℕ). Breaks (row_cells row) t) (sym cut) k))

pub whole_image : (image : List ℕ) → length image ≡ 256 → take (16 * 16) image ≡ image
whole_image image long = take_all 256 image (omega (arith, long))

rows_long : (row n : ℕ) → length (rows_cells row n) ≡ 52 * n
unfolding rows_cells
rows_long row zero = refl
rows_long row (suc n) = let a = length-append (row_cells row) (rows_cells (row + 1) n) in let b = row_long row in let c = rows_long (row + 1) n in omega (arith, a, b, c)

pub rest_long : length rest_cells ≡ 833
rest_long = let a = length-append (rows_cells 0 16) (Fixed 10 ∷ []) in let b = rows_long 0 16 in omega (arith, a, b)

-- what is left after some lines
pub rest_is : (bytes image rest : List ℕ) (row : ℕ) → row ≤ 16 → length image ≡ 256 → AreSmall (take (16 * row) image) → bytes ≡ rows_text 0 row (take (16 * row) image) ++ rest → rest ≡ drop (52 * row) bytes
rest_is bytes image rest row h long small so_far =
    let rows = rows_text 0 row (take (16 * row) image) in
    let l : length rows ≡ 52 * row = fits_length (rows_cells 0 row) rows (rows_fit image row h long small) ∙ rows_long 0 row in
    sym (ap (λ (t : List ℕ). drop (52 * row) t) so_far ∙ drop_at rows rest (52 * row) l)

-- the empty line
pub blank_ends : (bytes image rest : List ℕ) → length image ≡ 256 → AreSmall (take (16 * 16) image) → bytes ≡ rows_text 0 16 (take (16 * 16) image) ++ rest → rest ≡ [] → RestStops bytes (Ended 16)
blank_ends bytes image rest long small so_far none =
    let rows = rows_text 0 16 (take (16 * 16) image) in
    let fits = rows_fit image 16 (omega arith) long small in
    let all : bytes ≡ rows ++ [] = so_far ∙ ap (λ (t : List ℕ). rows ++ t) none in
    let a = ap line_ends (all ∙ append-nil rows) in
    let b = ends_of (rows_cells 0 16) rows fits ∙ rows_ends 0 16 in
    (subst (λ (t : List ℕ). Leaves rest_cells t) (sym all) (leaves_in_blank rows [] fits (record { done = []; todo = Fixed 10 ∷ []; cells_split = refl; some = (λ e. let n = ap length e in let no : ⊥ = omega (arith, n) in no); fits = tt })), a ∙ b)

pub blank_stops : (bytes image rest : List ℕ) (c : ℕ) → length image ≡ 256 → AreSmall (take (16 * 16) image) → bytes ≡ rows_text 0 16 (take (16 * 16) image) ++ rest → rest ≡ c ∷ drop 1 rest → (c ≡ 10 → ⊥) → BreaksIn 16 bytes
blank_stops bytes image rest c long small so_far first other =
    let rows = rows_text 0 16 (take (16 * 16) image) in
    let fits = rows_fit image 16 (omega arith) long small in
    subst (λ (t : List ℕ). BreaksIn 16 t) (sym (so_far ∙ ap (λ (t : List ℕ). rows ++ t) first))
    (breaks_in_blank rows (c ∷ drop 1 rest) fits (record { done = []; cell = Fixed 10; todo = []; cells_split = refl; part = []; c = c; more = drop 1 rest; split = refl; fits = tt; wrong = other }))

pub blank_there : (bytes image rest : List ℕ) → length image ≡ 256 → AreSmall (take (16 * 16) image) → bytes ≡ rows_text 0 16 (take (16 * 16) image) ++ rest → rest ≡ 10 ∷ drop 1 rest
    → bytes ≡ (rows_text 0 16 image ++ 10 ∷ []) ++ drop 833 bytes
blank_there bytes image rest long small so_far first =
    let rows = rows_text 0 16 image in
    let e : bytes ≡ (rows ++ 10 ∷ []) ++ drop 1 rest =
    so_far ∙ ap (λ (x : List ℕ). rows_text 0 16 x ++ rest) (whole_image image long) ∙ ap (λ (t : List ℕ). rows ++ t) first ∙ sym (append_assoc rows (10 ∷ []) (drop 1 rest)) in
    let fits = fits_append (rows_cells 0 16) (Fixed 10 ∷ []) rows (10 ∷ []) (fits_rows 0 16 image long (subst AreSmall (whole_image image long) small)) (refl, tt) in
    let l : length (rows ++ 10 ∷ []) ≡ 833 = fits_length (rows_cells 0 16 ++ Fixed 10 ∷ []) (rows ++ 10 ∷ []) fits ∙ rest_long in
    e ∙ ap (λ (t : List ℕ). (rows ++ 10 ∷ []) ++ t) (sym (ap (λ (t : List ℕ). drop 833 t) e ∙ drop_at (rows ++ 10 ∷ []) (drop 1 rest) 833 l))

-- ---- a line that the input cuts

abbrev pub sample_line : ℕ → List ℕ
sample_line first = first ∷ 48 ∷ 58 ∷ (32 ∷ 48 ∷ 48 ∷ 32 ∷ 48 ∷ 48 ∷ 32 ∷ 48 ∷ 48 ∷ 32 ∷ 48 ∷ 48 ∷ 32 ∷ 48 ∷ 48 ∷ 32 ∷ 48 ∷ 48 ∷ 32 ∷ 48 ∷ 48 ∷ 32 ∷ 48 ∷ 48 ∷ 32 ∷ 48 ∷ 48 ∷ 32 ∷ 48 ∷ 48 ∷ 32 ∷ 48 ∷ 48 ∷ 32 ∷ 48 ∷ 48 ∷ 32 ∷ 48 ∷ 48 ∷ 32 ∷ 48 ∷ 48 ∷ 32 ∷ 48 ∷ 48 ∷ 32 ∷ 48 ∷ 48 ∷ 10 ∷ [])

sample_row : (row : ℕ) → row < 16 → sample_line (hex_digit row) ≡ map filler (row_cells row)
unfolding value_cells
sample_row row h =
    let a : row ≡ 16 * row / 16 = omega arith in
    let b : 0 ≡ 16 * row % 16 = omega arith in
    (λ i. hex_digit (a i) ∷ hex_digit (b i) ∷ 58 ∷ (32 ∷ 48 ∷ 48 ∷ 32 ∷ 48 ∷ 48 ∷ 32 ∷ 48 ∷ 48 ∷ 32 ∷ 48 ∷ 48 ∷ 32 ∷ 48 ∷ 48 ∷ 32 ∷ 48 ∷ 48 ∷ 32 ∷ 48 ∷ 48 ∷ 32 ∷ 48 ∷ 48 ∷ 32 ∷ 48 ∷ 48 ∷ 32 ∷ 48 ∷ 48 ∷ 32 ∷ 48 ∷ 48 ∷ 32 ∷ 48 ∷ 48 ∷ 32 ∷ 48 ∷ 48 ∷ 32 ∷ 48 ∷ 48 ∷ 32 ∷ 48 ∷ 48 ∷ 32 ∷ 48 ∷ 48 ∷ 10 ∷ []))

padding : (row : ℕ) (part line : List ℕ) (first : ℕ) → row < 16 → first ≡ hex_digit row → line ≡ part ++ drop (length part) (sample_line first) → padded (row_cells row) part ≡ line
padding row part line first h e f = sym (f ∙ ap (λ (x : ℕ). part ++ drop (length part) (sample_line x)) e ∙ ap (λ (t : List ℕ). part ++ drop (length part) t) (sample_row row h))

pub part_refused : (row : ℕ) (part line : List ℕ) (first : ℕ) → row < 16 → length part < 52 → first ≡ hex_digit row → line ≡ part ++ drop (length part) (sample_line first) → (Fits (row_cells row) line → ⊥) → Breaks (row_cells row) part
part_refused row part line first h short e f none =
    let l = row_long row in
    refused_part (row_cells row) part (omega (arith, l, short)) (λ g. none (subst (λ (t : List ℕ). Fits (row_cells row) t) (padding row part line first h e f) g))

pub part_taken : (row : ℕ) (part line values : List ℕ) (first : ℕ) → row < 16 → length part < 52 → line ≡ part ++ drop (length part) (sample_line first) → (length values ≡ 16) × AreSmall values × (line ≡ row_text row values) → Leaves (row_cells row) part
part_taken row part line values first h short f v =
    let l = row_long row in
    taken_part (row_cells row) part (drop (length part) (sample_line first)) (omega (arith, l, short))
    (subst (λ (t : List ℕ). Fits (row_cells row) t) (sym v.2 ∙ f) (fits_row row values v.0 v.1))

pub none_left : (rest : List ℕ) → None ≡ slice_get rest 0 → rest ≡ []
none_left [] e = refl
none_left (x ∷ rest) e = absurd cc

pub first_left : (rest : List ℕ) (c : ℕ) → Some c ≡ slice_get rest 0 → rest ≡ c ∷ drop 1 rest
first_left [] c e = absurd cc
first_left (x ∷ rest) c e = let same : x ≡ c = cc in λ i. same i ∷ rest

-- a loop over rows has come to its last
pub at_end : (row last : ℕ) (bytes image rest : List ℕ) → row ≡ last → AreSmall (take (16 * row) image) → bytes ≡ rows_text 0 row (take (16 * row) image) ++ rest
    → AreSmall (take (16 * last) image) × (bytes ≡ rows_text 0 last (take (16 * last) image) ++ rest)
at_end row last bytes image rest e small so_far =
    (subst (λ (r : ℕ). AreSmall (take (16 * r) image)) e small, subst (λ (r : ℕ). bytes ≡ rows_text 0 r (take (16 * r) image) ++ rest) e so_far)

-- a line that is read into its place
pub read_there : (row from : ℕ) (line old values : List ℕ) → row < 16 → from ≡ row → length old ≡ 256 → length values ≡ 16 → AreSmall values → line ≡ row_text row values → IsRowRead row line old (put_mid (16 * from) (16 * from + 16 - 16 * from) old values)
read_there row from line old values high same long many small text = record {
  values = values;
  long = many;
  small = small;
  text = text;
  written = take-put_mid (16 * from) (16 * from + 16 - 16 * from) old values (16 * row + 16) (omega (arith, same, many)) (omega (arith, same, high, long)) ∙ ap (λ (k : ℕ). take (16 * k) old ++ values) same;
  kept = drop-put_mid (16 * from) (16 * from + 16 - 16 * from) old values (16 * row + 16) (omega (arith, same)) (omega (arith, same, high, long)) (omega (arith, many));
}

-- a line at its place, and what is left behind it
pub line_cut : (bytes : List ℕ) (row from : ℕ) → from ≡ row → drop (52 * row) bytes ≡ slice_range bytes (52 * from) (52 * from + 52) ++ drop (52 * (row + 1)) bytes
line_cut bytes row from same =
    let at : 52 * row ≡ 52 * from = omega (arith, same) in
    let end : 52 * from + 52 ≡ 52 * (row + 1) = omega (arith, same) in
    ap (λ (k : ℕ). drop k bytes) at ∙ drop_split bytes (52 * from) (52 * from + 52) (omega arith) ∙ ap (λ (k : ℕ). slice_range bytes (52 * from) (52 * from + 52) ++ drop k bytes) end

pub line_long : (bytes : List ℕ) (row from : ℕ) → 833 ≤ length bytes → row < 16 → from ≡ row → length (slice_range bytes (52 * from) (52 * from + 52)) ≡ 52
line_long bytes row from enough high same =
    let a = length-take (52 * from + 52 - 52 * from) (drop (52 * from) bytes) in
    let b = length-drop (52 * from) bytes in
    omega (arith, a, b, enough, high, same)

-- what stands behind sixteen lines
pub blank_at : (bytes : List ℕ) → 833 ≤ length bytes → drop (52 * 16) bytes ≡ get_or bytes 832 0 ∷ drop 1 (drop (52 * 16) bytes)
blank_at bytes enough = drop_more bytes 832 0 (omega (arith, enough)) ∙ ap (λ (t : List ℕ). get_or bytes 832 0 ∷ t) (sym (drop-drop 1 832 bytes))
