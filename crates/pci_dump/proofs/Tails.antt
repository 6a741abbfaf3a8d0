-- The last lines of a block where they hold zeros alone.
use Rattle.std.proofs.Common.{◌≡◌, replicate, ℕ, zero, suc, ◌+◌, ◌-◌, ◌*◌, ◌<◌, ◌≤◌, List, [], ◌∷◌, ◌++◌, refl, arith, sym, ◌∙◌, ap, subst, length, get_or, take, drop, append_assoc}
use Rattle.std.specs.List.{slice_range}
use Rattle.std.proofs.lemmas.List.{length-take, length-drop, take-append-drop, take-append-le, drop-append-le, drop-drop, drop_at, drop_more, take_all, take-replicate, drop-replicate}
use Rattle.std.proofs.Math.Seq.{drop-append-add}
use Rattle.pci_spec.specs.Form.{Fixed, rows_cells, row_text, rows_text}
use Rattle.pci_spec.proofs.Forms.{fits_append, fits_length, fits_rows, small_append}
use Rattle.pci_dump.specs.LastZeros.{HasZeros}
use Rattle.pci_dump.specs.Value.{AreSmall}
use Rattle.pci_dump.proofs.Values.{take_on, small_zeros}
use Rattle.pci_dump.proofs.Lines.{rest_long, rest_is}

-- some more are the same
pub same_more : (xs ys : List ℕ) (n k : ℕ) → take n xs ≡ take n ys → slice_range xs n (n + k) ≡ slice_range ys n (n + k) → take (n + k) xs ≡ take (n + k) ys
same_more xs ys n k same e =
    let many : n + k - n ≡ k = omega arith in
    let next : take k (drop n xs) ≡ take k (drop n ys) = subst (λ (j : ℕ). take j (drop n xs) ≡ take j (drop n ys)) many e in
    take_on xs n k ∙ (λ i. same i ++ next i) ∙ sym (take_on ys n k)

-- all 48 are the same
pub three_same : (xs ys : List ℕ) → length xs ≡ 48 → length ys ≡ 48 → slice_range xs 0 16 ≡ slice_range ys 0 16 → slice_range xs 16 32 ≡ slice_range ys 16 32 → slice_range xs 32 48 ≡ slice_range ys 32 48 → xs ≡ ys
three_same xs ys lx ly a b c = sym (take_all 48 xs (omega (arith, lx))) ∙ same_more xs ys 32 16 (same_more xs ys 16 16 a b) c ∙ take_all 48 ys (omega (arith, ly))

-- no line yet, and the empty line
pub zeros_start : (bytes : List ℕ) → 833 ≤ length bytes → get_or bytes 832 0 ≡ 10 → HasZeros bytes 16 0
unfolding rows_text
zeros_start bytes enough e = drop_more bytes 832 0 (omega (arith, enough)) ∙ ap (λ (x : ℕ). x ∷ drop 833 bytes) e

zero_rows : (row n : ℕ) → rows_text row (suc n) (replicate (16 * suc n) 0) ≡ row_text row (replicate 16 0) ++ rows_text (row + 1) n (replicate (16 * n) 0)
unfolding rows_text
zero_rows row n =
    let less : 16 * suc n - 16 ≡ 16 * n = omega arith in
    let front : take 16 (replicate (16 * suc n) 0) ≡ replicate 16 0 = take-replicate 16 (16 * suc n) 0 (omega arith) in
    let back : drop 16 (replicate (16 * suc n) 0) ≡ replicate (16 * n) 0 = drop-replicate 16 (16 * suc n) 0 ∙ ap (λ (k : ℕ). replicate k 0) less in
    λ i. row_text row (front i) ++ rows_text (row + 1) n (back i)

-- one line more
zeros_more : (bytes : List ℕ) (row n : ℕ) → HasZeros bytes (row + 1) n → slice_range bytes (52 * row) (52 * row + 52) ≡ row_text row (replicate 16 0) → HasZeros bytes row (suc n)
zeros_more bytes row n so_far line =
    let many : 52 * row + 52 - 52 * row ≡ 52 = omega arith in
    let next : 52 * row + 52 ≡ 52 * (row + 1) = omega arith in
    let first : take 52 (drop (52 * row) bytes) ≡ row_text row (replicate 16 0) = ap (λ (k : ℕ). take k (drop (52 * row) bytes)) (sym many) ∙ line in
    let after : drop 52 (drop (52 * row) bytes) ≡ drop (52 * (row + 1)) bytes = drop-drop 52 (52 * row) bytes ∙ ap (λ (k : ℕ). drop k bytes) next in
    let zeros : List ℕ = rows_text (row + 1) n (replicate (16 * n) 0) in
    sym (take-append-drop 52 (drop (52 * row) bytes)) ∙ (λ i. first i ++ (after ∙ so_far) i)
    ∙ sym (append_assoc (row_text row (replicate 16 0)) (zeros ++ 10 ∷ []) (drop 833 bytes))
    ∙ ap (λ (t : List ℕ). t ++ drop 833 bytes) (sym (append_assoc (row_text row (replicate 16 0)) zeros (10 ∷ [])) ∙ ap (λ (t : List ℕ). t ++ 10 ∷ []) (sym (zero_rows row n)))

-- the same by other names
pub zeros_at : (bytes : List ℕ) (row other n m : ℕ) → HasZeros bytes row n → row ≡ other → n ≡ m → HasZeros bytes other m
zeros_at bytes row other n m h e f = subst (λ (k : ℕ). HasZeros bytes other k) f (subst (λ (r : ℕ). HasZeros bytes r n) e h)

-- a loop from the last line up
pub zeros_next : (bytes : List ℕ) (count row at : ℕ) → count < 16 → row ≡ 15 - count → at ≡ 52 * row → HasZeros bytes (16 - count) count → slice_range bytes at (at + 52) ≡ row_text row (replicate 16 0) → HasZeros bytes (16 - (count + 1)) (count + 1)
zeros_next bytes count row at few e f so_far line =
    let r : 16 - count ≡ row + 1 = omega (arith, e, few) in
    let s : row ≡ 16 - (count + 1) = omega (arith, e, few) in
    let t : suc count ≡ count + 1 = omega arith in
    zeros_at bytes row (16 - (count + 1)) (suc count) (count + 1) (zeros_more bytes row count (zeros_at bytes (16 - count) (row + 1) count count so_far r refl) (subst (λ (k : ℕ). slice_range bytes k (k + 52) ≡ row_text row (replicate 16 0)) f line)) s t

-- lines one after the other
rows_join : (row n m : ℕ) (a b : List ℕ) → length a ≡ 16 * n → rows_text row (n + m) (a ++ b) ≡ rows_text row n a ++ rows_text (row + n) m b
unfolding rows_text
rows_join row zero m [] b la =
    let z : row ≡ row + 0 = omega arith in
    let s : 0 + m ≡ m = omega arith in
    ap (λ (k : ℕ). rows_text row k b) s ∙ ap (λ (k : ℕ). rows_text k m b) z
rows_join row zero m (x ∷ a) b la = absurd (let no : ⊥ = omega (arith, la) in no)
rows_join row (suc n) m a b la =
    let s : suc n + m ≡ suc (n + m) = omega arith in
    let r : row + 1 + n ≡ row + suc n = omega arith in
    let front : take 16 (a ++ b) ≡ take 16 a = take-append-le 16 a b (omega (arith, la)) in
    let back : drop 16 (a ++ b) ≡ drop 16 a ++ b = drop-append-le 16 a b (omega (arith, la)) in
    let d = length-drop 16 a in
    ap (λ (k : ℕ). rows_text row k (a ++ b)) s ∙ (λ i. row_text row (front i) ++ rows_text (row + 1) (n + m) (back i))
    ∙ ap (λ (t : List ℕ). row_text row (take 16 a) ++ t) (rows_join (row + 1) n m (drop 16 a) b (omega (arith, d, la)))
    ∙ sym (append_assoc (row_text row (take 16 a)) (rows_text (row + 1) n (drop 16 a)) (rows_text (row + 1 + n) m b))
    ∙ ap (λ (k : ℕ). (row_text row (take 16 a) ++ rows_text (row + 1) n (drop 16 a)) ++ rows_text k m b) r

-- what stands behind the lines of an image
pub behind_lines : (bytes image more : List ℕ) → length image ≡ 256 → AreSmall image → bytes ≡ (rows_text 0 16 image ++ 10 ∷ []) ++ more → bytes ≡ (rows_text 0 16 image ++ 10 ∷ []) ++ drop 833 bytes
behind_lines bytes image more long small e =
    let lines = rows_text 0 16 image ++ 10 ∷ [] in
    let fits = fits_append (rows_cells 0 16) (Fixed 10 ∷ []) (rows_text 0 16 image) (10 ∷ []) (fits_rows 0 16 image long small) (refl, tt) in
    let l : length lines ≡ 833 = fits_length (rows_cells 0 16 ++ Fixed 10 ∷ []) lines fits ∙ rest_long in
    e ∙ ap (λ (t : List ℕ). lines ++ t) (sym (ap (λ (t : List ℕ). drop 833 t) e ∙ drop_at lines more 833 l))

-- an image whose last rows are zeros is one of bytes
pub zeroed : (row : ℕ) (old new : List ℕ) → row < 16 → length old ≡ 256 → AreSmall (take (16 * row) old) → new ≡ take (16 * row) old ++ replicate (16 * (16 - row)) 0 → AreSmall new
zeroed row old new high long small e = subst AreSmall (sym e) (small_append (take (16 * row) old) (replicate (16 * (16 - row)) 0) small (small_zeros (16 * (16 - row))))

pub last_there : (row : ℕ) (bytes old new rest : List ℕ) → row < 16 → length old ≡ 256 → length new ≡ 256 → AreSmall (take (16 * row) old) → bytes ≡ rows_text 0 row (take (16 * row) old) ++ rest → HasZeros bytes row (16 - row) → new ≡ take (16 * row) old ++ replicate (16 * (16 - row)) 0
    → bytes ≡ (rows_text 0 16 new ++ 10 ∷ []) ++ drop 833 bytes
last_there row bytes old new rest high long many small so_far zeros_left e =
    let more : List ℕ = drop 833 bytes in
    let lines : rest ≡ (rows_text row (16 - row) (replicate (16 * (16 - row)) 0) ++ 10 ∷ []) ++ more = rest_is bytes old rest row (omega (arith, high)) long small so_far ∙ zeros_left in
    let before : List ℕ = take (16 * row) old in
    let zeros : List ℕ = replicate (16 * (16 - row)) 0 in
    let z : 0 + row ≡ row = omega arith in
    let s : row + (16 - row) ≡ 16 = omega (arith, high) in
    let t = length-take (16 * row) old in
    let all : rows_text 0 16 new ≡ rows_text 0 row before ++ rows_text row (16 - row) zeros =
    (λ i. rows_text 0 (sym s i) (e i)) ∙ rows_join 0 row (16 - row) before zeros (omega (arith, t, long, high)) ∙ ap (λ (k : ℕ). rows_text 0 row before ++ rows_text k (16 - row) zeros) z in
    let last = rows_text row (16 - row) zeros in
    let first = rows_text 0 row before in
    behind_lines bytes new more many (zeroed row old new high long small e)
    (so_far ∙ ap (λ (x : List ℕ). first ++ x) lines ∙ sym (append_assoc first (last ++ 10 ∷ []) more) ∙ ap (λ (x : List ℕ). x ++ more) (sym (append_assoc first last (10 ∷ [])) ∙ ap (λ (x : List ℕ). x ++ 10 ∷ []) (sym all)))

past_front : (front : List ℕ) (at more n : ℕ) → at ≡ length front + more → drop at (front ++ replicate n 0) ≡ replicate (n - more) 0
past_front front at more n e = ap (λ (k : ℕ). drop k (front ++ replicate n 0)) e ∙ drop-append-add front (replicate n 0) more ∙ drop-replicate more n 0

-- zeros that are put from one row on are there from a later one on
pub zeros_behind : (row : ℕ) (old new : List ℕ) → 4 ≤ row → length old ≡ 256 → new ≡ take (16 * 4) old ++ replicate (16 * (16 - 4)) 0 → drop (16 * row) new ≡ replicate (16 * (16 - row)) 0
zeros_behind row old new behind long e =
    let t = length-take 64 old in
    let many : 192 - (16 * row - 64) ≡ 16 * (16 - row) = omega (arith, behind) in
    ap (λ (t : List ℕ). drop (16 * row) t) e ∙ past_front (take 64 old) (16 * row) (16 * row - 64) 192 (omega (arith, t, long, behind)) ∙ ap (λ (k : ℕ). replicate k 0) many

-- they stay there while rows before them are read
pub zeros_kept : (row zeros n : ℕ) (old new : List ℕ) → row < zeros → drop (16 * row + 16) new ≡ drop (16 * row + 16) old → drop (16 * zeros) old ≡ replicate n 0 → drop (16 * zeros) new ≡ replicate n 0
zeros_kept row zeros n old new before kept e =
    let more : ℕ = 16 * zeros - (16 * row + 16) in
    let at : 16 * row + 16 + more ≡ 16 * zeros = omega (arith, before) in
    let there : (xs : List ℕ) → drop more (drop (16 * row + 16) xs) ≡ drop (16 * zeros) xs = λ xs. drop-drop more (16 * row + 16) xs ∙ ap (λ (k : ℕ). drop k xs) at in
    sym (there new) ∙ ap (λ (t : List ℕ). drop more t) kept ∙ there old ∙ e

-- an image by its first rows and the zeros behind them
pub zeros_last : (row n : ℕ) (image : List ℕ) → drop (16 * row) image ≡ replicate n 0 → image ≡ take (16 * row) image ++ replicate n 0
zeros_last row n image e = sym (take-append-drop (16 * row) image) ∙ ap (λ (t : List ℕ). take (16 * row) image ++ t) e
