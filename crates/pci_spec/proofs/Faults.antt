-- The fault of a text from where the block after some whole ones stops.
use Rattle.std.proofs.Common.{◌≡◌, ◌≢◌, ℕ, zero, suc, ◌+◌, ◌-◌, ◌*◌, ◌/◌, ◌%◌, ◌<◌, ◌≤◌, inl, inr, List, [], ◌∷◌, ◌++◌, refl, Option, None, arith, sym, ◌∙◌, ap, subst, length, drop, append_assoc, append-nil, map}
use Rattle.std.specs.Prelude.{IfSome, IsTrue}
use Rattle.std.specs.List.{All}
use Rattle.std.proofs.lemmas.List.{length-append, map-append, length-map, drop_at, nil_from_length}
use Rattle.pci_spec.specs.Slot.{Slot, IsSlot}
use Rattle.pci_spec.specs.Text.{Block, IsBlock, IsTitle, IsDump, is_title_byte, slot_text, block_text, text_of, BadSlot, BadTitle, BadLine, NoBlank, Order, TooMany, Ended, IsFaultOf, IsPartOf, BeginsBlock, line_ends, line_after, hex_digit}
use Rattle.pci_spec.specs.Stops.{IsAboveLast, Stops, EndsIn, InSlot, InTitleText, InLine, AtSlotEnd, last_slot}
use Rattle.pci_spec.specs.Form.{Cell, Fixed, Digit, Fits, Leaves, Breaks, slot_cells, value_cells, row_cells, rows_cells, rest_cells, ends_in, BreaksIn}
use Rattle.pci_spec.proofs.Fronts.{stops_where, too_many, ended}
use Rattle.pci_spec.proofs.Forms.{fits_append, fits_length, decide_fits, filler, filled, parts_of, ends_of, line_ends_append, line_ends_cons}
use Rattle.pci_spec.proofs.Stopping.{ends_append, no_fit, begun_in_slot, begun_after, begun_title, begun_rest, with_slot, with_line, line_has_one_end, some_end, sample, above_same}

-- ---- line ends of whole blocks

value_ends : (n : ℕ) → ends_in (value_cells n) ≡ 0
unfolding value_cells
value_ends zero = refl
value_ends (suc n) = let r = value_ends n in omega (arith, r)

digit_end : (d : ℕ) → ends_in (Fixed (hex_digit d) ∷ []) ≡ 0
digit_end d = let h = ends_of (Digit d ∷ []) (hex_digit d ∷ []) ((d, omega arith, refl), tt) in let c = line_ends_cons (hex_digit d) [] in omega (arith, h, c)

pub row_ends : (row : ℕ) → ends_in (row_cells row) ≡ 1
row_ends row =
    let a = ends_append (value_cells 16) (Fixed 10 ∷ []) in
    let v = value_ends 16 in
    let h = digit_end (16 * row / 16) in
    let l = digit_end (16 * row % 16) in
    omega (arith, a, v, h, l)

pub rows_ends : (row n : ℕ) → ends_in (rows_cells row n) ≡ n
unfolding rows_cells
rows_ends row zero = refl
rows_ends row (suc n) = let a = ends_append (row_cells row) (rows_cells (row + 1) n) in let b = row_ends row in let c = rows_ends (row + 1) n in omega (arith, a, b, c)

pub block_ends : (b : Block) → IsBlock b → line_ends (block_text b) ≡ 18
block_ends b h =
    let p = parts_of b h in
    let a = ends_append (rows_cells 0 16) (Fixed 10 ∷ []) in
    let r = rows_ends 0 16 in
    let e = ends_of rest_cells p.rest p.fits in
    let l = line_has_one_end b.slot b.title p.rest h.slot h.title in
    let t = ap line_ends p.text in
    omega (arith, a, r, e, l, t)

pub text_ends : (blocks : List Block) → All IsBlock blocks → line_ends (text_of blocks) ≡ 18 * length blocks
text_ends [] h = refl
text_ends (b ∷ blocks) h =
    let a = line_ends_append (block_text b) (text_of blocks) in
    let o = block_ends b (h 0 b (omega arith)) in
    let r = text_ends blocks (λ k d l. h (suc k) d (omega (arith, l))) in
    omega (arith, a, o, r)

-- ---- the faults

line_of : (blocks : List Block) (part : List ℕ) (k : ℕ) → All IsBlock blocks → line_ends part ≡ k → 18 * length blocks + k + 1 ≡ line_after (text_of blocks ++ part)
line_of blocks part k h e = let a = line_ends_append (text_of blocks) part in let b = text_ends blocks h in omega (arith, a, b, e)

pub fault_slot : (blocks : List Block) (bytes more : List ℕ) → IsDump blocks → length blocks < 4096 → Stops (last_slot blocks) bytes InSlot → IsFaultOf (text_of blocks ++ (bytes ++ more)) (BadSlot (18 * length blocks + 0 + 1))
fault_slot blocks bytes more d few s =
    stops_where (λ blocks part c. (length blocks < 4096) × (length part < 8) × (BeginsBlock (part ++ c ∷ []) → ⊥)) blocks bytes s.part more s.c _ d.each d.rising few s.stop (line_of blocks s.part 0 d.each s.holds.2) (few, s.holds.0, s.holds.1)

pub fault_order : (blocks : List Block) (bytes more : List ℕ) → IsDump blocks → length blocks < 4096 → Stops (last_slot blocks) bytes AtSlotEnd → IsFaultOf (text_of blocks ++ (bytes ++ more)) (Order (18 * length blocks + 0 + 1))
fault_order blocks bytes more d few s =
    stops_where (λ blocks part c. (length part ≡ 6) × BeginsBlock (part ++ c ∷ [])) blocks bytes s.part more s.c _ d.each d.rising few s.stop (line_of blocks s.part 0 d.each s.holds.2) (s.holds.0, s.holds.1)

pub fault_title : (blocks : List Block) (bytes more : List ℕ) → IsDump blocks → length blocks < 4096 → Stops (last_slot blocks) bytes InTitleText → IsFaultOf (text_of blocks ++ (bytes ++ more)) (BadTitle (18 * length blocks + 0 + 1))
fault_title blocks bytes more d few s =
    stops_where (λ blocks part c. (8 ≤ length part) × (line_ends part ≡ 0)) blocks bytes s.part more s.c _ d.each d.rising few s.stop (line_of blocks s.part 0 d.each s.holds.1) s.holds

pub fault_line : (blocks : List Block) (bytes more : List ℕ) (k : ℕ) → IsDump blocks → length blocks < 4096 → 1 ≤ k → k ≤ 16 → Stops (last_slot blocks) bytes (InLine k) → IsFaultOf (text_of blocks ++ (bytes ++ more)) (BadLine (18 * length blocks + k + 1))
fault_line blocks bytes more k d few lo hi s =
    stops_where (λ blocks part c. (1 ≤ line_ends part) × (line_ends part ≤ 16)) blocks bytes s.part more s.c _ d.each d.rising few s.stop (line_of blocks s.part k d.each s.holds) (let h = s.holds in (omega (arith, h, lo), omega (arith, h, hi)))

pub fault_blank : (blocks : List Block) (bytes more : List ℕ) → IsDump blocks → length blocks < 4096 → Stops (last_slot blocks) bytes (InLine 17) → IsFaultOf (text_of blocks ++ (bytes ++ more)) (NoBlank (18 * length blocks + 17 + 1))
fault_blank blocks bytes more d few s =
    stops_where (λ blocks part c. line_ends part ≡ 17) blocks bytes s.part more s.c _ d.each d.rising few s.stop (line_of blocks s.part 17 d.each s.holds) s.holds

nothing_begins : BeginsBlock []
nothing_begins = begun_in_slot [] slot_cells [] refl tt

pub fault_ended : (blocks : List Block) (bytes : List ℕ) → IsDump blocks → length blocks < 4096 → EndsIn (last_slot blocks) bytes → IsFaultOf (text_of blocks ++ bytes) (Ended (18 * length blocks + line_ends bytes + 1))
fault_ended blocks bytes d few s =
    let e = ended blocks bytes s.block d.each d.rising few s.begun s.above s.some nothing_begins in
    (e.0, e.1, line_of blocks bytes (line_ends bytes) d.each refl)

pub fault_many : (blocks : List Block) (c : ℕ) (more : List ℕ) → IsDump blocks → length blocks ≡ 4096 → IsFaultOf (text_of blocks ++ c ∷ more) (TooMany (18 * length blocks + 0 + 1))
fault_many blocks c more d full =
    let b = nothing_begins in
    record {
      front = text_of blocks ++ [];
      byte = c;
      more = more;
      split = sym (append_assoc (text_of blocks) [] (c ∷ more));
      blocks = blocks;
      part = [];
      is_front = record { split = refl; each = d.each; rising = d.rising; next = (b.0, b.1, λ h. absurd (let no : ⊥ = omega (arith, h) in no)); room = d.room };
      bad = too_many blocks c more d.each d.rising full b;
      in_line = line_of blocks [] 0 d.each refl;
      holds = full;
    }

-- ---- the input ends

some_long : (cells : List Cell) → cells ≢ [] → 1 ≤ length cells
some_long [] h = absurd (h refl)
some_long (t ∷ cells) h = omega arith

pub ends_in_slot : (last : Option Slot) (bytes : List ℕ) → Leaves slot_cells bytes → bytes ≢ [] → EndsIn last bytes
ends_in_slot last bytes l some =
    let b = begun_in_slot l.done l.todo bytes l.cells_split l.fits in
    let long = fits_length l.done bytes l.fits in
    let all = ap length l.cells_split ∙ length-append l.done l.todo in
    let more = some_long l.todo l.some in
    record { block = b.0; begun = b.1; above = (λ h. absurd (let no : ⊥ = omega (arith, h, long, all, more) in no)); some = some }

pub ends_after_slot : (last : Option Slot) (bytes : List ℕ) (s : Slot) → IsSlot s → IsAboveLast last s → bytes ≡ slot_text s → EndsIn last bytes
ends_after_slot last bytes s hs high e =
    let b = begun_after s None [] (10 ∷ sample) sample hs tt (filled rest_cells) (some_end [] 10 sample) refl in
    record { block = b.0; begun = subst (λ (t : List ℕ). IsPartOf t b.0) (append-nil (slot_text s) ∙ sym e) b.1; above = (λ _. above_same last s b.0.slot (sym b.2) high); some = (λ z. let n = ap length (sym e ∙ z) in let no : ⊥ = omega (arith, n) in no) }

pub ends_in_title : (last : Option Slot) (bytes : List ℕ) (s : Slot) (u : List ℕ) → IsSlot s → IsAboveLast last s → length u ≤ 200 → All (λ c. IsTrue (is_title_byte c)) u
    → bytes ≡ with_slot s (32 ∷ u) → EndsIn last bytes
ends_in_title last bytes s u hs high few hu e =
    let b = begun_title s u hs few hu in
    record { block = b.0; begun = subst (λ (t : List ℕ). IsPartOf t b.0) (sym e) b.1; above = (λ _. above_same last s b.0.slot (sym b.2) high); some = (λ z. let n = ap length (sym e ∙ z) in let no : ⊥ = omega (arith, n) in no) }

pub ends_in_rest : (last : Option Slot) (bytes : List ℕ) (s : Slot) (title : Option (List ℕ)) (t : List ℕ) → IsSlot s → IfSome title IsTitle → IsAboveLast last s
    → bytes ≡ with_line s title t → Leaves rest_cells t → EndsIn last bytes
ends_in_rest last bytes s title t hs ht high e l =
    let b = begun_rest s title l.done l.todo t hs ht l.cells_split l.some l.fits in
    record { block = b.0; begun = subst (λ (x : List ℕ). IsPartOf x b.0) (sym e) b.1; above = (λ _. above_same last s b.0.slot (sym b.2) high); some = (λ z. let n = ap length (sym e ∙ z) in let no : ⊥ = omega (arith, n) in no) }

-- ---- rows

pub rows_more : (row n m : ℕ) → rows_cells row (n + m) ≡ rows_cells row n ++ rows_cells (row + n) m
unfolding rows_cells
rows_more row zero m =
    let a : 0 + m ≡ m = omega arith in let b : row ≡ row + 0 = omega arith in
    ap (rows_cells row) a ∙ ap (λ (r : ℕ). rows_cells r m) b
rows_more row (suc n) m =
    let a : suc n + m ≡ suc (n + m) = omega arith in
    let b : row + 1 + n ≡ row + suc n = omega arith in
    ap (rows_cells row) a ∙ ap (λ (cs : List Cell). row_cells row ++ cs) (rows_more (row + 1) n m ∙ ap (λ (r : ℕ). rows_cells (row + 1) n ++ rows_cells r m) b)
    ∙ sym (append_assoc (row_cells row) (rows_cells (row + 1) n) (rows_cells (row + suc n) m))

pub one_row : (k : ℕ) → rows_cells k 1 ≡ row_cells k
unfolding rows_cells
one_row k = append-nil (row_cells k)

-- whole rows, one more, and what is after it
pub rest_at : (k : ℕ) → k < 16 → rest_cells ≡ rows_cells 0 k ++ (row_cells k ++ (rows_cells (k + 1) (15 - k) ++ Fixed 10 ∷ []))
rest_at k h =
    let a : 16 ≡ k + (1 + (15 - k)) = omega (arith, h) in
    let z : 0 + k ≡ k = omega arith in
    let e : rows_cells 0 16 ≡ rows_cells 0 k ++ (row_cells k ++ rows_cells (k + 1) (15 - k)) =
    ap (rows_cells 0) a ∙ rows_more 0 k (1 + (15 - k)) ∙ ap (λ (r : ℕ). rows_cells 0 k ++ rows_cells r (1 + (15 - k))) z
    ∙ ap (λ (cs : List Cell). rows_cells 0 k ++ cs) (rows_more k 1 (15 - k) ∙ ap (λ (cs : List Cell). cs ++ rows_cells (k + 1) (15 - k)) (one_row k)) in
    ap (λ (cs : List Cell). cs ++ Fixed 10 ∷ []) e ∙ append_assoc (rows_cells 0 k) (row_cells k ++ rows_cells (k + 1) (15 - k)) (Fixed 10 ∷ [])
    ∙ ap (λ (cs : List Cell). rows_cells 0 k ++ cs) (append_assoc (row_cells k) (rows_cells (k + 1) (15 - k)) (Fixed 10 ∷ []))

last_has_end : (init a : List Cell) (x : Cell) (b : List Cell) → init ++ Fixed 10 ∷ [] ≡ a ++ x ∷ b → 1 ≤ ends_in (x ∷ b)
last_has_end [] [] x b e = let n = ap ends_in e in omega (arith, n)
last_has_end [] (y ∷ a) x b e = let n = ap length e in let l = length-append a (x ∷ b) in absurd (let no : ⊥ = omega (arith, n, l) in no)
last_has_end (i ∷ init) [] x b e = let n = ap ends_in e in let l = ends_append (i ∷ init) (Fixed 10 ∷ []) in omega (arith, n, l)
last_has_end (i ∷ init) (y ∷ a) x b e = last_has_end init a x b (ap (λ (cs : List Cell). drop 1 cs) e)

pub row_front : (row : ℕ) (a : List Cell) (x : Cell) (b : List Cell) → row_cells row ≡ a ++ x ∷ b → ends_in a ≡ 0
row_front row a x b e =
    let n = ap ends_in e ∙ ends_append a (x ∷ b) in
    let one = row_ends row in
    let some = last_has_end (Fixed (hex_digit (16 * row / 16)) ∷ Fixed (hex_digit (16 * row % 16)) ∷ Fixed 58 ∷ value_cells 16) a x b e in
    omega (arith, n, one, some)

-- cells behind others
breaks_behind : (front cells after all : List Cell) (a t : List ℕ) → all ≡ front ++ (cells ++ after) → Fits front a → (k : Breaks cells t) → (j : Breaks all (a ++ t)) × (j.done ≡ front ++ k.done)
breaks_behind front cells after all a t e h k = (
  record {
    done = front ++ k.done;
    cell = k.cell;
    todo = k.todo ++ after;
    cells_split = e ∙ ap (λ (cs : List Cell). front ++ (cs ++ after)) k.cells_split ∙ ap (λ (cs : List Cell). front ++ cs) (append_assoc k.done (k.cell ∷ k.todo) after) ∙ sym (append_assoc front k.done (k.cell ∷ k.todo ++ after));
    part = a ++ k.part;
    c = k.c;
    more = k.more;
    split = ap (λ (x : List ℕ). a ++ x) k.split ∙ sym (append_assoc a k.part (k.c ∷ k.more));
    fits = fits_append front k.done a k.part h k.fits;
    wrong = k.wrong;
  },
  refl,
)

pub breaks_in_row : (row : ℕ) (rows t : List ℕ) → row < 16 → Fits (rows_cells 0 row) rows → Breaks (row_cells row) t → BreaksIn row (rows ++ t)
breaks_in_row row rows t h fits k =
    let j = breaks_behind (rows_cells 0 row) (row_cells row) (rows_cells (row + 1) (15 - row) ++ Fixed 10 ∷ []) rest_cells rows t (rest_at row h) fits k in
    let a = ap ends_in j.1 ∙ ends_append (rows_cells 0 row) k.done in
    let b = rows_ends 0 row in
    let c = row_front row k.done k.cell k.todo k.cells_split in
    record { breaks = j.0; ends = omega (arith, a, b, c) }

pub blank_front : (a : List Cell) (x : Cell) (b : List Cell) → Fixed 10 ∷ [] ≡ a ++ x ∷ b → ends_in a ≡ 0
blank_front a x b e =
    let n = ap ends_in e ∙ ends_append a (x ∷ b) in
    let some = last_has_end [] a x b e in
    omega (arith, n, some)

pub breaks_in_blank : (rows t : List ℕ) → Fits (rows_cells 0 16) rows → Breaks (Fixed 10 ∷ []) t → BreaksIn 16 (rows ++ t)
breaks_in_blank rows t fits k =
    let j = breaks_behind (rows_cells 0 16) (Fixed 10 ∷ []) [] rest_cells rows t refl fits k in
    let a = ap ends_in j.1 ∙ ends_append (rows_cells 0 16) k.done in
    let b = rows_ends 0 16 in
    let c = blank_front k.done k.cell k.todo k.cells_split in
    record { breaks = j.0; ends = omega (arith, a, b, c) }

leaves_behind : (front cells after all : List Cell) (a t : List ℕ) → all ≡ front ++ (cells ++ after) → Fits front a → Leaves cells t → Leaves all (a ++ t)
leaves_behind front cells after all a t e h l = record {
  done = front ++ l.done;
  todo = l.todo ++ after;
  cells_split = e ∙ ap (λ (cs : List Cell). front ++ (cs ++ after)) l.cells_split ∙ ap (λ (cs : List Cell). front ++ cs) (append_assoc l.done l.todo after) ∙ sym (append_assoc front l.done (l.todo ++ after));
  some = (λ z. let n = ap length z in let m = length-append l.todo after in let s = some_long l.todo l.some in let no : ⊥ = omega (arith, n, m, s) in no);
  fits = fits_append front l.done a t h l.fits;
}

pub leaves_in_row : (row : ℕ) (rows t : List ℕ) → row < 16 → Fits (rows_cells 0 row) rows → Leaves (row_cells row) t → Leaves rest_cells (rows ++ t)
leaves_in_row row rows t h fits l = leaves_behind (rows_cells 0 row) (row_cells row) (rows_cells (row + 1) (15 - row) ++ Fixed 10 ∷ []) rest_cells rows t (rest_at row h) fits l

pub leaves_in_blank : (rows t : List ℕ) → Fits (rows_cells 0 16) rows → Leaves (Fixed 10 ∷ []) t → Leaves rest_cells (rows ++ t)
leaves_in_blank rows t fits l = leaves_behind (rows_cells 0 16) (Fixed 10 ∷ []) [] rest_cells rows t refl fits l

-- ---- a part of a line, made whole by filling

abbrev pub padded : List Cell → List ℕ → List ℕ
padded cells part = part ++ drop (length part) (map filler cells)

tail_filled : (done todo : List Cell) (part : List ℕ) → Fits done part → drop (length part) (map filler (done ++ todo)) ≡ map filler todo
tail_filled done todo part h =
    ap (λ (l : List ℕ). drop (length part) l) (map-append filler done todo) ∙ drop_at (map filler done) (map filler todo) (length part) (length-map done filler ∙ sym (fits_length done part h))

pub refused_part : (cells : List Cell) (part : List ℕ) → length part < length cells → (Fits cells (padded cells part) → ⊥) → Breaks cells part
refused_part cells part short no_fits = elim (decide_fits cells part) [
  | inl b ↦ let e = ap length b.split ∙ length-append b.text b.rest in let f = fits_length cells b.text b.fits in absurd (let no : ⊥ = omega (arith, e, f, short) in no)
  | inr r ↦ elim r [
    | inl l ↦ absurd (no_fits (subst (λ (cs : List Cell). Fits cs (padded cs part)) (sym l.cells_split)
        (subst (λ (t : List ℕ). Fits (l.done ++ l.todo) (part ++ t)) (sym (tail_filled l.done l.todo part l.fits)) (fits_append l.done l.todo part (map filler l.todo) l.fits (filled l.todo)))))
    | inr k ↦ k
  ]
]

pub taken_part : (cells : List Cell) (part tail : List ℕ) → length part < length cells → Fits cells (part ++ tail) → Leaves cells part
taken_part cells part tail short fits = elim (decide_fits cells part) [
  | inl b ↦ let e = ap length b.split ∙ length-append b.text b.rest in let f = fits_length cells b.text b.fits in absurd (let no : ⊥ = omega (arith, e, f, short) in no)
  | inr r ↦ elim r [
    | inl l ↦ l
    | inr k ↦ absurd (no_fit part part cells k (part ++ tail) (k.more ++ tail) [] fits
        (sym (append_assoc (k.part ++ k.c ∷ []) k.more tail) ∙ ap (λ (t : List ℕ). t ++ tail) (append_assoc k.part (k.c ∷ []) k.more ∙ sym k.split) ∙ sym (append-nil (part ++ tail))))
  ]
]

-- a whole line that isn't one
pub refused_line : (cells : List Cell) (line : List ℕ) → length line ≡ length cells → (Fits cells line → ⊥) → Breaks cells line
refused_line cells line whole no_fits = elim (decide_fits cells line) [
  | inl b ↦
      let e = ap length b.split ∙ length-append b.text b.rest in let f = fits_length cells b.text b.fits in
      let nothing : b.rest ≡ [] = nil_from_length b.rest (omega (arith, e, f, whole)) in
      absurd (no_fits (subst (λ (t : List ℕ). Fits cells t) (sym (b.split ∙ ap (λ (t : List ℕ). b.text ++ t) nothing ∙ append-nil b.text)) b.fits))
  | inr r ↦ elim r [
    | inl l ↦
        let e = ap length l.cells_split ∙ length-append l.done l.todo in let f = fits_length l.done line l.fits in let s = some_long l.todo l.some in
        absurd (let no : ⊥ = omega (arith, e, f, s, whole) in no)
    | inr k ↦ k
  ]
]

-- more bytes after a place that breaks change nothing
pub breaks_longer : (cells : List Cell) (a b : List ℕ) → Breaks cells a → Breaks cells (a ++ b)
breaks_longer cells a b k = record {
  done = k.done;
  cell = k.cell;
  todo = k.todo;
  cells_split = k.cells_split;
  part = k.part;
  c = k.c;
  more = k.more ++ b;
  split = ap (λ (t : List ℕ). t ++ b) k.split ∙ append_assoc k.part (k.c ∷ k.more) b;
  fits = k.fits;
  wrong = k.wrong;
}
