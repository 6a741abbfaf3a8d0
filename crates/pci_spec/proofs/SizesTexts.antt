-- Blocks of sizes and their cells, and no two blocks have the same text.
use Rattle.std.proofs.Common.{◌≡◌, ◌≢◌, ℕ, zero, suc, ◌*◌, ◌^◌, ◌<◌, List, [], ◌∷◌, ◌++◌, length, take, drop, map, refl, sym, ◌∙◌, ap, subst, arith, append_assoc}
use Rattle.std.specs.List.{All, flat_map}
use Rattle.std.proofs.lemmas.List.{length-append, take_at, drop_at}
use Rattle.std.proofs.lemmas.List.Elements.{All-nil, All-cons}
use Rattle.pci_spec.specs.Text.{slot_text}
use Rattle.pci_spec.specs.Line.{hex_number}
use Rattle.pci_spec.specs.Resource.{ResourceLine}
use Rattle.pci_spec.specs.Form.{Cell, Fixed, Fits, slot_cells}
use Rattle.pci_spec.specs.SizesText.{SizesBlock, IsResourceLine, IsSizesBlock, number_text, resource_text, sizes_block_text, sizes_text_of, BeginsSizes}
use Rattle.pci_spec.specs.SizesForm.{number_cells, resource_cells, lines_cells, sizes_cells}
use Rattle.pci_spec.proofs.Forms.{fits_append, fits_split, fits_length, one_fixed, slot_of, fits_slot, filler, filled}
use Rattle.pci_spec.proofs.HexNumbers.{length-hex_number, fits_digits, number_from, same_number}
use Rattle.pci_spec.proofs.Spelling.{slot_same}

-- ---- lists that begin alike

-- two lists of the same length at the front of one
pub same_front : (a b x y : List ℕ) → length a ≡ length x → a ++ b ≡ x ++ y → a ≡ x
same_front a b x y l e = sym (take_at a b (length a) refl) ∙ ap (λ (t : List ℕ). take (length a) t) e ∙ take_at x y (length a) (sym l)

pub same_back : (a b x y : List ℕ) → length a ≡ length x → a ++ b ≡ x ++ y → b ≡ y
same_back a b x y l e = sym (drop_at a b (length a) refl) ∙ ap (λ (t : List ℕ). drop (length a) t) e ∙ drop_at x y (length a) (sym l)

-- ---- the cells of a block

-- a list of two parts and a byte between, and one of three with bytes between, fit
fits_number : (n : ℕ) → Fits number_cells (number_text n)
fits_number n = (refl, (refl, fits_digits 16 n))

pub fits_line : (line : ResourceLine) → Fits resource_cells (resource_text line)
fits_line line =
    fits_append number_cells ((Fixed 32 ∷ number_cells) ++ (Fixed 32 ∷ number_cells) ++ (Fixed 10 ∷ [])) (number_text line.first) ((32 ∷ number_text line.last) ++ (32 ∷ number_text line.flags) ++ (10 ∷ [])) (fits_number line.first)
    (fits_append (Fixed 32 ∷ number_cells) ((Fixed 32 ∷ number_cells) ++ (Fixed 10 ∷ [])) (32 ∷ number_text line.last) ((32 ∷ number_text line.flags) ++ (10 ∷ [])) (refl, fits_number line.last)
    (fits_append (Fixed 32 ∷ number_cells) (Fixed 10 ∷ []) (32 ∷ number_text line.flags) (10 ∷ []) (refl, fits_number line.flags) (refl, tt)))

fits_lines : (lines : List ResourceLine) (n : ℕ) → length lines ≡ n → Fits (lines_cells n) (flat_map resource_text lines)
unfolding lines_cells
fits_lines [] zero e = tt
fits_lines [] (suc n) e = absurd (let no : ⊥ = omega (arith, e) in no)
fits_lines (line ∷ lines) zero e = absurd (let no : ⊥ = omega (arith, e) in no)
fits_lines (line ∷ lines) (suc n) e = fits_append resource_cells (lines_cells n) (resource_text line) (flat_map resource_text lines) (fits_line line) (fits_lines lines n (omega (arith, e)))

pub fits_sizes : (b : SizesBlock) → IsSizesBlock b → Fits sizes_cells (sizes_block_text b)
unfolding sizes_block_text sizes_cells
fits_sizes b h =
    fits_append slot_cells ((Fixed 10 ∷ lines_cells 7) ++ (Fixed 10 ∷ [])) (slot_text b.slot) ((10 ∷ flat_map resource_text b.lines) ++ (10 ∷ [])) (fits_slot b.slot h.slot)
    (fits_append (Fixed 10 ∷ lines_cells 7) (Fixed 10 ∷ []) (10 ∷ flat_map resource_text b.lines) (10 ∷ []) (refl, fits_lines b.lines 7 h.seven) (refl, tt))

-- ---- what stands in the cells

record NumberIn (bytes : List ℕ) : Type 0 where
  number : ℕ
  small : number < 2 ^ 64
  text : bytes ≡ number_text number

number_in : (bytes : List ℕ) → Fits number_cells bytes → NumberIn bytes
number_in [] h = absurd h
number_in (x ∷ []) h = absurd h.1
number_in (x ∷ y ∷ bytes) h =
    let n = number_from 16 bytes h.1.1 in
    record { number = n.number; small = n.small; text = (λ i. h.0 i ∷ h.1.0 i ∷ n.text i) }

-- a number behind a byte
number_after : (c : ℕ) (bytes : List ℕ) → Fits (Fixed c ∷ number_cells) bytes → (n : ℕ) × (n < 2 ^ 64) × (bytes ≡ c ∷ number_text n)
number_after c [] h = absurd h
number_after c (x ∷ bytes) h = let n = number_in bytes h.1 in (n.number, n.small, λ i. h.0 i ∷ n.text i)

pub record LineIn (bytes : List ℕ) : Type 0 where
  pub line : ResourceLine
  pub small : IsResourceLine line
  pub text : bytes ≡ resource_text line

pub line_in : (bytes : List ℕ) → Fits resource_cells bytes → LineIn bytes
line_in bytes h =
    let s = fits_split number_cells ((Fixed 32 ∷ number_cells) ++ (Fixed 32 ∷ number_cells) ++ (Fixed 10 ∷ [])) bytes h in
    let t = fits_split (Fixed 32 ∷ number_cells) ((Fixed 32 ∷ number_cells) ++ (Fixed 10 ∷ [])) s.b s.second in
    let u = fits_split (Fixed 32 ∷ number_cells) (Fixed 10 ∷ []) t.b t.second in
    let first = number_in s.a s.first in
    let last = number_after 32 t.a t.first in
    let flags = number_after 32 u.a u.first in
    let end = one_fixed 10 u.b u.second in
    let tail : t.b ≡ (32 ∷ number_text flags.0) ++ (10 ∷ []) = u.split ∙ (λ i. flags.2 i ++ end i) in
    let rest : s.b ≡ (32 ∷ number_text last.0) ++ ((32 ∷ number_text flags.0) ++ (10 ∷ [])) = t.split ∙ (λ i. last.2 i ++ tail i) in
    record {
      line = record { first = first.number; last = last.0; flags = flags.0 };
      small = record { first = first.small; last = last.1; flags = flags.1 };
      text = s.split ∙ (λ i. first.text i ++ rest i);
    }

record LinesIn (n : ℕ) (bytes : List ℕ) : Type 0 where
  lines : List ResourceLine
  many : length lines ≡ n
  each : All IsResourceLine lines
  text : bytes ≡ flat_map resource_text lines

lines_in : (n : ℕ) (bytes : List ℕ) → Fits (lines_cells n) bytes → LinesIn n bytes
unfolding lines_cells
lines_in zero [] h = record { lines = []; many = refl; each = All-nil IsResourceLine; text = refl }
lines_in zero (x ∷ bytes) h = absurd h
lines_in (suc n) bytes h =
    let s = fits_split resource_cells (lines_cells n) bytes h in
    let one = line_in s.a s.first in
    let more = lines_in n s.b s.second in
    record {
      lines = one.line ∷ more.lines;
      many = (let m = more.many in omega (arith, m));
      each = All-cons IsResourceLine one.line more.lines one.small more.each;
      text = s.split ∙ (λ i. one.text i ++ more.text i);
    }

pub record SizesIn (bytes : List ℕ) : Type 0 where
  pub block : SizesBlock
  pub holds : IsSizesBlock block
  pub text : bytes ≡ sizes_block_text block

pub sizes_in : (bytes : List ℕ) → Fits sizes_cells bytes → SizesIn bytes
unfolding sizes_block_text sizes_cells
sizes_in bytes h =
    let s = fits_split slot_cells ((Fixed 10 ∷ lines_cells 7) ++ (Fixed 10 ∷ [])) bytes h in
    let t = fits_split (Fixed 10 ∷ lines_cells 7) (Fixed 10 ∷ []) s.b s.second in
    let slot = slot_of s.a s.first in
    let u = fits_split (Fixed 10 ∷ []) (lines_cells 7) t.a t.first in
    let lines = lines_in 7 u.b u.second in
    let head = one_fixed 10 u.a u.first in
    let end = one_fixed 10 t.b t.second in
    record {
      block = record { slot = slot.0; lines = lines.lines };
      holds = record { slot = slot.1; seven = lines.many; each = lines.each };
      text = s.split ∙ (λ i. slot.2 i ++ (t.split ∙ (λ j. (u.split ∙ (λ k. head k ++ lines.text k)) j ++ end j)) i);
    }

-- ---- lengths

pub cells_long : length sizes_cells ≡ 408
unfolding sizes_cells lines_cells
cells_long = refl

pub block_long : (b : SizesBlock) → IsSizesBlock b → length (sizes_block_text b) ≡ 408
block_long b h = fits_length sizes_cells (sizes_block_text b) (fits_sizes b h) ∙ cells_long

pub sizes_long : (blocks : List SizesBlock) → All IsSizesBlock blocks → length (sizes_text_of blocks) ≡ 408 * length blocks
sizes_long [] each = refl
sizes_long (b ∷ blocks) each =
    let one = block_long b (each 0 b (omega arith)) in
    let more = sizes_long blocks (λ k d h. each (suc k) d (omega (arith, h))) in
    let all = length-append (sizes_block_text b) (sizes_text_of blocks) in
    omega (arith, one, more, all)

-- ---- no two have the same text

number_same : (n m : ℕ) (xs ys : List ℕ) → n < 2 ^ 64 → m < 2 ^ 64 → number_text n ++ xs ≡ number_text m ++ ys → (n ≡ m) × (xs ≡ ys)
number_same n m xs ys a b e =
    let tail = ap (λ (t : List ℕ). drop 2 t) e in
    let long = length-hex_number 16 n ∙ sym (length-hex_number 16 m) in
    (same_number 16 n m a b (same_front (hex_number 16 n) xs (hex_number 16 m) ys long tail), same_back (hex_number 16 n) xs (hex_number 16 m) ys long tail)

line_same : (l m : ResourceLine) (xs ys : List ℕ) → IsResourceLine l → IsResourceLine m → resource_text l ++ xs ≡ resource_text m ++ ys → (l ≡ m) × (xs ≡ ys)
line_same l m xs ys h g e =
    let first = number_same l.first m.first (((32 ∷ number_text l.last) ++ (32 ∷ number_text l.flags) ++ (10 ∷ [])) ++ xs) (((32 ∷ number_text m.last) ++ (32 ∷ number_text m.flags) ++ (10 ∷ [])) ++ ys) h.first g.first e in
    let last = number_same l.last m.last (((32 ∷ number_text l.flags) ++ (10 ∷ [])) ++ xs) (((32 ∷ number_text m.flags) ++ (10 ∷ [])) ++ ys) h.last g.last (ap (λ (t : List ℕ). drop 1 t) first.1) in
    let flags = number_same l.flags m.flags (10 ∷ xs) (10 ∷ ys) h.flags g.flags (ap (λ (t : List ℕ). drop 1 t) last.1) in
    ((λ i. record { first = first.0 i; last = last.0 i; flags = flags.0 i }), ap (λ (t : List ℕ). drop 1 t) flags.1)

lines_same : (ls ms : List ResourceLine) (xs ys : List ℕ) → length ls ≡ length ms → All IsResourceLine ls → All IsResourceLine ms → flat_map resource_text ls ++ xs ≡ flat_map resource_text ms ++ ys → ls ≡ ms
lines_same [] [] xs ys l h g e = refl
lines_same [] (m ∷ ms) xs ys l h g e = absurd (let no : ⊥ = omega (arith, l) in no)
lines_same (l ∷ ls) [] xs ys long h g e = absurd (let no : ⊥ = omega (arith, long) in no)
lines_same (l ∷ ls) (m ∷ ms) xs ys long h g e =
    let one = line_same l m (flat_map resource_text ls ++ xs) (flat_map resource_text ms ++ ys) (h 0 l (omega arith)) (g 0 m (omega arith))
    (sym (append_assoc (resource_text l) (flat_map resource_text ls) xs) ∙ e ∙ append_assoc (resource_text m) (flat_map resource_text ms) ys) in
    let more = lines_same ls ms xs ys (omega (arith, long)) (λ k d b. h (suc k) d (omega (arith, b))) (λ k d b. g (suc k) d (omega (arith, b))) one.1 in
    λ i. one.0 i ∷ more i

pub sized_same : (b c : SizesBlock) → IsSizesBlock b → IsSizesBlock c → sizes_block_text b ≡ sizes_block_text c → b ≡ c
unfolding sizes_block_text
sized_same b c h g e =
    let slots = slot_same b.slot c.slot ((10 ∷ flat_map resource_text b.lines) ++ (10 ∷ [])) ((10 ∷ flat_map resource_text c.lines) ++ (10 ∷ [])) e in
    let lines = lines_same b.lines c.lines (10 ∷ []) (10 ∷ []) (h.seven ∙ sym g.seven) h.each g.each (ap (λ (t : List ℕ). drop 1 t) slots.1) in
    λ i. record { slot = slots.0 i; lines = lines i }

-- blocks at the front of one text
pub sizes_same : (blocks others : List SizesBlock) → All IsSizesBlock blocks → All IsSizesBlock others → sizes_text_of blocks ≡ sizes_text_of others → blocks ≡ others
sizes_same [] [] h g e = refl
sizes_same [] (o ∷ others) h g e = absurd (let a = ap length e in let b = sizes_long (o ∷ others) g in let no : ⊥ = omega (arith, a, b) in no)
sizes_same (b ∷ blocks) [] h g e = absurd (let a = ap length e in let l = sizes_long (b ∷ blocks) h in let no : ⊥ = omega (arith, a, l) in no)
sizes_same (b ∷ blocks) (o ∷ others) h g e =
    let hb = h 0 b (omega arith) in
    let ho = g 0 o (omega arith) in
    let long = block_long b hb ∙ sym (block_long o ho) in
    let one = sized_same b o hb ho (same_front (sizes_block_text b) (sizes_text_of blocks) (sizes_block_text o) (sizes_text_of others) long e) in
    let more = sizes_same blocks others (λ k d l. h (suc k) d (omega (arith, l))) (λ k d l. g (suc k) d (omega (arith, l))) (same_back (sizes_block_text b) (sizes_text_of blocks) (sizes_block_text o) (sizes_text_of others) long e) in
    λ i. one i ∷ more i

-- ---- a part of a block

pub begun_sizes : (done todo : List Cell) (part : List ℕ) → sizes_cells ≡ done ++ todo → todo ≢ [] → Fits done part → BeginsSizes part
begun_sizes done [] part e some h = absurd (some refl)
begun_sizes done (t ∷ todo) part e some h =
    let text = part ++ map filler (t ∷ todo) in
    let s = sizes_in text (subst (λ (cells : List Cell). Fits cells text) (sym e) (fits_append done (t ∷ todo) part (map filler (t ∷ todo)) h (filled (t ∷ todo)))) in (
      s.block,
      record { block = s.holds; rest = map filler (t ∷ todo); unfinished = (λ n. let l = ap length n in let no : ⊥ = omega (arith, l) in no); whole = s.text },
    )
