-- A line of a sizes text, from its digits.
use Rattle.std.proofs.Common.{◌≡◌, ℕ, zero, suc, ◌+◌, ◌-◌, ◌*◌, ◌^◌, ◌<◌, ◌≤◌, List, [], ◌∷◌, ◌++◌, length, take, drop, get_or, set, refl, append-nil, sym, ◌∙◌, ap, subst, arith, lit<, Option, None, Some, true, nat_eq}
use Rattle.std.specs.Prelude.{IfNone, slice_range}
use Rattle.std.specs.List.{All, flat_map}
use Rattle.std.proofs.Math.Nat.{pow-le-pow_right}
use Rattle.std.proofs.lemmas.List.{take_more, take_more_set, take_all, drop_more, drop_all, get_or-replicate}
use Rattle.std.proofs.lemmas.List.Elements.{All-push}
use Rattle.std.proofs.lemmas.Grind.{flat_map-append}
use Rattle.std.proofs.Math.Seq.{take-add, drop-append-add}
use Rattle.std.proofs.lemmas.List.Folds.{drop_split}
use Rattle.pci_spec.specs.Text.{hex_digit}
use Rattle.pci_spec.specs.Line.{hex_number}
use Rattle.pci_spec.specs.Form.{Cell, Takes, Digit, Fits, Fixed}
use Rattle.std.specs.Cmp.Lexicographic.{pointwise, bytes_decides}
use Rattle.pci_machine.specs.declared.sizes_line.TheConstants.{NO_LINE}
use Rattle.pci_spec.specs.Resource.{ResourceLine, no_line}
use Rattle.pci_spec.specs.SizesText.{IsResourceLine, number_text, resource_text}
use Rattle.pci_spec.specs.SizesForm.{number_cells, resource_cells, lines_cells}
use Rattle.pci_spec.proofs.Cells.{fits_at, fits_between}
use Rattle.pci_spec.proofs.HexNumbers.{hex_number-more, more_below, digit_cells}

-- the first k digits spell a number
pub record IsSpelled (digits : List ℕ) (k n : ℕ) : Type 0 where
  pub small : n < 16 ^ k
  pub text : take k digits ≡ hex_number k n

pub spelled_small : (digits : List ℕ) (k n : ℕ) → k < 16 → IsSpelled digits k n → n < 2 ^ 60
spelled_small digits k n within s = let p = pow-le-pow_right {n = 16} (omega arith) {i = k} {j = 15} (omega (arith, within)) in let b = s.small in omega (arith, p, b)

pub spelled_more : (digits : List ℕ) (k n d : ℕ) → k < length digits → IsSpelled digits k n → (d ≤ 15) × (get_or digits k 0 ≡ hex_digit d) → IsSpelled digits (k + 1) (16 * n + d)
spelled_more digits k n d within s h =
    let small : d < 16 = omega (arith, h.0) in
    let e : suc k ≡ k + 1 = omega arith in
    record {
      small = subst (λ (j : ℕ). 16 * n + d < 16 ^ j) e (more_below k n d small s.small);
      text = take_more digits k 0 within ∙ (λ i. s.text i ++ h.1 i ∷ []) ∙ sym (hex_number-more k n d small) ∙ ap (λ (j : ℕ). hex_number j (16 * n + d)) e;
    }

pub digit_at : (digits : List ℕ) (k : ℕ) → k < 16 → Fits (digit_cells 16) digits → (d : ℕ) × (d < 16) × (get_or digits k 0 ≡ hex_digit d)
digit_at digits k within f =
    let cell = get_or-replicate 16 k (Digit 15) (Fixed 0) within in
    let d : Takes (Digit 15) (get_or digits k 0) = subst (λ (t : Cell). Takes t (get_or digits k 0)) cell (fits_at k (digit_cells 16) digits (Fixed 0) f within) in
    (d.0, omega (arith, d.1), d.2)

-- ---- a line in pieces

-- some bytes, the one behind them, and all others
pub piece_and_byte : (bytes : List ℕ) (at end : ℕ) → at ≤ end → end < length bytes → drop at bytes ≡ slice_range bytes at end ++ get_or bytes end 0 ∷ drop (end + 1) bytes
piece_and_byte bytes at end order within = drop_split bytes at end order ∙ ap (λ (t : List ℕ). slice_range bytes at end ++ t) (drop_more bytes end 0 within)

line_pieces : (text : List ℕ) → length text ≡ 57
    → text ≡ slice_range text 0 18 ++ (get_or text 18 0 ∷ (slice_range text 19 37 ++ (get_or text 37 0 ∷ (slice_range text 38 56 ++ (get_or text 56 0 ∷ [])))))
line_pieces text long =
    let none : drop 57 text ≡ [] = drop_all 57 text (omega (arith, long)) in
    let third : drop 38 text ≡ slice_range text 38 56 ++ (get_or text 56 0 ∷ []) = piece_and_byte text 38 56 (omega arith) (omega (arith, long)) ∙ ap (λ (t : List ℕ). slice_range text 38 56 ++ get_or text 56 0 ∷ t) none in
    let second : drop 19 text ≡ slice_range text 19 37 ++ (get_or text 37 0 ∷ (slice_range text 38 56 ++ (get_or text 56 0 ∷ []))) =
    piece_and_byte text 19 37 (omega arith) (omega (arith, long)) ∙ ap (λ (t : List ℕ). slice_range text 19 37 ++ get_or text 37 0 ∷ t) third in
    piece_and_byte text 0 18 (omega arith) (omega (arith, long)) ∙ ap (λ (t : List ℕ). slice_range text 0 18 ++ get_or text 18 0 ∷ t) second

pub line_there : (text : List ℕ) (line : ResourceLine) → length text ≡ 57 → get_or text 18 0 ≡ 32 → get_or text 37 0 ≡ 32 → get_or text 56 0 ≡ 10
    → slice_range text 0 18 ≡ number_text line.first → slice_range text 19 37 ≡ number_text line.last → slice_range text 38 56 ≡ number_text line.flags → text ≡ resource_text line
line_there text line long a b c first last flags = line_pieces text long ∙ (λ i. first i ++ (a i ∷ (last i ++ (b i ∷ (flags i ++ (c i ∷ []))))))

-- what its cells ask of its pieces
pub record AreLineCells (text : List ℕ) : Type 0 where
  pub space : get_or text 18 0 ≡ 32
  pub next_space : get_or text 37 0 ≡ 32
  pub end : get_or text 56 0 ≡ 10
  pub first : Fits number_cells (slice_range text 0 18)
  pub last : Fits number_cells (slice_range text 19 37)
  pub flags : Fits number_cells (slice_range text 38 56)

pub line_cells : (text : List ℕ) → Fits resource_cells text → AreLineCells text
line_cells text f = record {
  space = fits_at 18 resource_cells text (Fixed 0) f (lit< tt);
  next_space = fits_at 37 resource_cells text (Fixed 0) f (lit< tt);
  end = fits_at 56 resource_cells text (Fixed 0) f (lit< tt);
  first = fits_between 0 18 resource_cells text f;
  last = fits_between 19 18 resource_cells text f;
  flags = fits_between 38 18 resource_cells text f;
}

pub if_none : {X : Type 0} (o : Option X) (P : Type 0) → P → IfNone o P
if_none None P p = p
if_none (Some x) P p = tt

-- ---- lines one after the other

lines_cells_at : (n m : ℕ) → n < m → take 57 (drop (57 * n) (lines_cells m)) ≡ resource_cells
unfolding lines_cells
lines_cells_at n zero within = absurd (omega (arith, within))
lines_cells_at zero (suc m) within = refl
lines_cells_at (suc n) (suc m) within =
    let e : 57 * suc n ≡ 57 + 57 * n = omega arith in
    ap (λ (j : ℕ). take 57 (drop j (resource_cells ++ lines_cells m))) e ∙ ap (λ (cs : List Cell). take 57 cs) (drop-append-add resource_cells (lines_cells m) (57 * n)) ∙ lines_cells_at n m (omega (arith, within))

slice_long : (text : List ℕ) (n : ℕ) → slice_range text (57 * n) (57 * n + 57) ≡ take 57 (drop (57 * n) text)
slice_long text n = let e : 57 * n + 57 - 57 * n ≡ 57 = omega arith in ap (λ (j : ℕ). take j (drop (57 * n) text)) e

pub one_of_lines : (text : List ℕ) (n : ℕ) → n < 7 → Fits (lines_cells 7) text → Fits resource_cells (slice_range text (57 * n) (57 * n + 57))
one_of_lines text n within f =
    subst (λ (t : List ℕ). Fits resource_cells t) (sym (slice_long text n))
    (subst (λ (cs : List Cell). Fits cs (take 57 (drop (57 * n) text))) (lines_cells_at n 7 within) (fits_between (57 * n) 57 (lines_cells 7) text f))

-- the first n lines are read
pub record AreRead (text : List ℕ) (lines : List ResourceLine) (n : ℕ) : Type 0 where
  pub each : All IsResourceLine (take n lines)
  pub so_far : take (57 * n) text ≡ flat_map resource_text (take n lines)

pub read_more : (text : List ℕ) (lines : List ResourceLine) (n : ℕ) (line : ResourceLine) → n < length lines → AreRead text lines n → IsResourceLine line × (slice_range text (57 * n) (57 * n + 57) ≡ resource_text line)
    → AreRead text (set lines n line) (n + 1)
read_more text lines n line within r h =
    let all = take_more_set lines n line within in
    let e : 57 * (n + 1) ≡ 57 * n + 57 = omega arith in
    record {
      each = subst (λ (ls : List ResourceLine). All IsResourceLine ls) (sym all) (All-push IsResourceLine (take n lines) line r.each h.0);
      so_far = ap (λ (j : ℕ). take j text) e ∙ take-add (57 * n) 57 text ∙ (λ i. r.so_far i ++ (sym (slice_long text n) ∙ h.1 ∙ sym (append-nil (resource_text line))) i)
          ∙ sym (flat_map-append resource_text (take n lines) (line ∷ [])) ∙ ap (flat_map resource_text) (sym all);
    }

pub all_read : (text : List ℕ) (lines : List ResourceLine) (n : ℕ) → length text ≡ 399 → length lines ≡ 7 → n ≡ 7 → AreRead text lines n → All IsResourceLine lines × (text ≡ flat_map resource_text lines)
all_read text lines n long seven e r =
    let whole : take n lines ≡ lines = take_all n lines (omega (arith, seven, e)) in
    (subst (λ (ls : List ResourceLine). All IsResourceLine ls) whole r.each, sym (take_all (57 * n) text (omega (arith, long, e))) ∙ r.so_far ∙ ap (flat_map resource_text) whole)

-- the line of three zeros
pub no_line_there : (text zeros : List ℕ) → true ≡ pointwise nat_eq text zeros → zeros ≡ NO_LINE → text ≡ resource_text no_line
no_line_there text zeros same is = (bytes_decides text zeros).0 (sym same) ∙ is
