-- The fault of a sizes text, from the place in a block where its cells stop.
use Rattle.std.proofs.Common.{◌≡◌, ◌≢◌, ℕ, zero, suc, ◌+◌, ◌*◌, ◌<◌, ◌≤◌, ◌==◌, Bool, true, inl, inr, List, [], ◌∷◌, ◌++◌, length, take, drop, get_or, refl, sym, ◌∙◌, ap, subst, arith, append_assoc, append-nil}
use Rattle.std.specs.List.{All}
use Rattle.std.proofs.lemmas.Bool.{cases_lt, eqb-true}
use Rattle.std.proofs.lemmas.Grind.{flat_map-append}
use Rattle.std.proofs.lemmas.List.{length-append, length-take, length-drop, take_more, take_all, take-take, take-append-drop, take-append-le, drop_more, map-append}
use Rattle.pci_spec.specs.Number.{each_from}
use Rattle.pci_spec.specs.Slot.{Slot, IsSlot, IsRising}
use Rattle.pci_spec.specs.Text.{slot_text, line_ends, line_after, BadSlot, BadLine, NoBlank, Order, TooMany, Ended}
use Rattle.pci_spec.specs.Form.{Cell, Fixed, Takes, Fits, slot_cells, ends_in}
use Rattle.pci_spec.specs.SizesText.{SizesBlock, IsSizesBlock, sized_slots, IsSizes, sizes_block_text, sizes_text_of, IsPartOfSizes, BeginsSizes, IsSizesFront, IsGoodSizes, SizesStopWhere, IsSizesFaultOf}
use Rattle.pci_spec.specs.SizesForm.{lines_cells, sizes_cells}
use Rattle.pci_spec.specs.SizesStops.{cell_at, ends_before, SlotFollows}
use Rattle.pci_spec.proofs.Bits.{each_from-at}
use Rattle.pci_spec.proofs.Cells.{fits_first}
use Rattle.pci_spec.proofs.Forms.{fits_length, takes_at, ends_of, fits_slot, line_ends_append}
use Rattle.pci_spec.proofs.Spelling.{slot_same}
use Rattle.pci_spec.proofs.SizesTexts.{same_front, same_back, block_long, sizes_long, cells_long, sizes_same, begun_sizes, fits_sizes}

-- ---- what a good beginning goes on with

-- some block goes on so after these
pub record GoesOn (blocks : List SizesBlock) (start : List ℕ) (b : SizesBlock) : Type 0 where
  pub block : IsSizesBlock b
  pub rest : List ℕ
  pub whole : start ++ rest ≡ sizes_block_text b
  pub rising : 7 ≤ length start → IsRising (sized_slots (blocks ++ b ∷ []))
  pub few : length blocks < 4096

record LastBlock (blocks : List SizesBlock) : Type 0 where
  front : List SizesBlock
  last : SizesBlock
  split : blocks ≡ front ++ last ∷ []

last_block : (b : SizesBlock) (blocks : List SizesBlock) → LastBlock (b ∷ blocks)
last_block b [] = record { front = []; last = b; split = refl }
last_block b (c ∷ blocks) = let v = last_block c blocks in record { front = b ∷ v.front; last = v.last; split = ap (λ (bs : List SizesBlock). b ∷ bs) v.split }

all_front : (front : List SizesBlock) (b : SizesBlock) → All IsSizesBlock (front ++ b ∷ []) → All IsSizesBlock front × IsSizesBlock b
all_front [] b h = ((λ k d below. absurd (let no : ⊥ = omega (arith, below) in no)), h 0 b (omega arith))
all_front (a ∷ front) b h =
    let long = length-append front (b ∷ []) in
    let more = all_front front b (λ k d below. h (suc k) d (omega (arith, below))) in
    (first_and (h 0 a (omega arith)) more.0, more.1) where
      first_and : IsSizesBlock a → All IsSizesBlock front → All IsSizesBlock (a ∷ front)
      first_and one others zero d below = one
      first_and one others (suc k) d below = others k d (omega (arith, below))

-- a part of one block more
part_goes : (blocks others : List SizesBlock) (start piece : List ℕ) → All IsSizesBlock blocks → length blocks ≡ length others → 1 ≤ length start → IsSizesFront (sizes_text_of blocks ++ start) others piece
    → (b : SizesBlock) × GoesOn blocks start b
part_goes blocks others start piece each many some f =
    let long : length (sizes_text_of blocks) ≡ length (sizes_text_of others) = sizes_long blocks each ∙ ap (λ (n : ℕ). 408 * n) many ∙ sym (sizes_long others f.each) in
    let same : others ≡ blocks = sym (sizes_same blocks others each f.each (same_front (sizes_text_of blocks) start (sizes_text_of others) piece long f.split)) in
    let rest : piece ≡ start = sym (same_back (sizes_text_of blocks) start (sizes_text_of others) piece long f.split) in
    let next = f.next in
    let count = ap length rest in (
      next.0,
      record {
        block = next.1.block;
        rest = next.1.rest;
        whole = ap (λ (t : List ℕ). t ++ next.1.rest) (sym rest) ∙ next.1.whole;
        rising = (λ h. subst (λ (bs : List SizesBlock). IsRising (sized_slots (bs ++ next.0 ∷ []))) same (next.2 (omega (arith, h, count))));
        few = (let few = f.begun (λ e. let n = ap length e in let no : ⊥ = omega (arith, n, count, some) in no) in omega (arith, few, many));
      },
    )

-- a whole block more
whole_goes : (blocks others : List SizesBlock) (start piece : List ℕ) → All IsSizesBlock blocks → length others ≡ length blocks + 1 → length start ≡ 408 → piece ≡ [] → IsSizesFront (sizes_text_of blocks ++ start) others piece
    → (b : SizesBlock) × GoesOn blocks start b
whole_goes blocks [] start piece each many whole none f = absurd (let no : ⊥ = omega (arith, many) in no)
whole_goes blocks (o ∷ others) start piece each many whole none f =
    let v = last_block o others in
    let parts = all_front v.front v.last (subst (λ (bs : List SizesBlock). All IsSizesBlock bs) v.split f.each) in
    let count : length (o ∷ others) ≡ length v.front + 1 = ap length v.split ∙ length-append v.front (v.last ∷ []) in
    let front_many : length blocks ≡ length v.front = omega (arith, many, count) in
    let long : length (sizes_text_of blocks) ≡ length (sizes_text_of v.front) = sizes_long blocks each ∙ ap (λ (n : ℕ). 408 * n) front_many ∙ sym (sizes_long v.front parts.0) in
    let text : sizes_text_of blocks ++ start ≡ sizes_text_of v.front ++ sizes_block_text v.last =
    f.split ∙ ap (λ (t : List ℕ). sizes_text_of (o ∷ others) ++ t) none ∙ append-nil (sizes_text_of (o ∷ others)) ∙ ap sizes_text_of v.split
    ∙ flat_map-append sizes_block_text v.front (v.last ∷ []) ∙ ap (λ (t : List ℕ). sizes_text_of v.front ++ t) (append-nil (sizes_block_text v.last)) in
    let same : v.front ≡ blocks = sym (sizes_same blocks v.front each parts.0 (same_front (sizes_text_of blocks) start (sizes_text_of v.front) (sizes_block_text v.last) long text)) in (
      v.last,
      record {
        block = parts.1;
        rest = [];
        whole = append-nil start ∙ same_back (sizes_text_of blocks) start (sizes_text_of v.front) (sizes_block_text v.last) long text;
        rising = (λ h. subst (λ (bs : List SizesBlock). IsRising (sized_slots (bs ++ v.last ∷ []))) same (subst (λ (bs : List SizesBlock). IsRising (sized_slots bs)) v.split f.rising));
        few = (let room = f.room in omega (arith, room, many));
      },
    )

nil_by : (xs : List ℕ) → length xs ≡ 0 → xs ≡ []
nil_by [] e = refl
nil_by (x ∷ xs) e = absurd (let no : ⊥ = omega (arith, e) in no)

piece_short : (piece : List ℕ) (b : SizesBlock) → IsPartOfSizes piece b → length piece < 408
piece_short piece b p = go p.rest p.unfinished p.whole where
  go : (rest : List ℕ) → rest ≢ [] → piece ++ rest ≡ sizes_block_text b → length piece < 408
  go [] some e = absurd (some refl)
  go (x ∷ rest) some e =
      let l = ap length e in
      let m = length-append piece (x ∷ rest) in
      let n = block_long b p.block in
      omega (arith, l, m, n)

pub good_goes : (blocks : List SizesBlock) (start : List ℕ) → All IsSizesBlock blocks → 1 ≤ length start → length start ≤ 408 → IsGoodSizes (sizes_text_of blocks ++ start) → (b : SizesBlock) × GoesOn blocks start b
good_goes blocks start each some few (others, piece, f) =
    let next = f.next in
    let short = piece_short piece next.0 next.1 in
    let lengths = sym (length-append (sizes_text_of blocks) start) ∙ ap length f.split ∙ length-append (sizes_text_of others) piece in
    let mine = sizes_long blocks each in
    let theirs = sizes_long others f.each in
    elim (cases_lt (length start) 408) [
      | inl less ↦ part_goes blocks others start piece each (omega (arith, lengths, mine, theirs, short, less)) some f
      | inr whole ↦
          whole_goes blocks others start piece each (omega (arith, lengths, mine, theirs, short, whole, few)) (omega (arith, whole, few))
          (nil_by piece (omega (arith, lengths, mine, theirs, short, whole, few))) f
    ]

pub front_of : (blocks : List SizesBlock) (part : List ℕ) (b : SizesBlock) → IsSizes blocks → length blocks < 4096 → IsPartOfSizes part b → (7 ≤ length part → IsRising (sized_slots (blocks ++ b ∷ []))) → IsSizesFront (sizes_text_of blocks ++ part) blocks part
front_of blocks part b d few begun above = record { split = refl; each = d.each; rising = d.rising; next = (b, begun, above); room = d.room; begun = (λ _. few) }

-- ---- line ends

counts_ends : ℕ → Bool
counts_ends k = ends_in (take k sizes_cells) == ends_before k

all_ends : each_from 0 408 counts_ends ≡ true
unfolding each_from counts_ends sizes_cells lines_cells
all_ends = refl

pub ends_at : (k : ℕ) (part : List ℕ) → k < 408 → Fits (take k sizes_cells) part → line_ends part ≡ ends_before k
unfolding counts_ends
ends_at k part within h = ends_of (take k sizes_cells) part h ∙ eqb-true (ends_in (take k sizes_cells)) (ends_before k) (each_from-at 0 408 counts_ends all_ends k (omega arith) (omega (arith, within)))

block_ends : (b : SizesBlock) → IsSizesBlock b → line_ends (sizes_block_text b) ≡ 9
unfolding sizes_cells lines_cells
block_ends b h = ends_of sizes_cells (sizes_block_text b) (fits_sizes b h)

sizes_ends : (blocks : List SizesBlock) → All IsSizesBlock blocks → line_ends (sizes_text_of blocks) ≡ 9 * length blocks
sizes_ends [] h = refl
sizes_ends (b ∷ blocks) h =
    let a = line_ends_append (sizes_block_text b) (sizes_text_of blocks) in
    let one = block_ends b (h 0 b (omega arith)) in
    let more = sizes_ends blocks (λ k d below. h (suc k) d (omega (arith, below))) in
    omega (arith, a, one, more)

pub line_of : (blocks : List SizesBlock) (part : List ℕ) (n : ℕ) → All IsSizesBlock blocks → line_ends part ≡ n → 9 * length blocks + n + 1 ≡ line_after (sizes_text_of blocks ++ part)
line_of blocks part n h e = let a = line_ends_append (sizes_text_of blocks) part in let b = sizes_ends blocks h in omega (arith, a, b, e)

-- ---- a block stops

slot_first : (b : SizesBlock) → take 7 (sizes_block_text b) ≡ slot_text b.slot
unfolding sizes_block_text
slot_first b = refl

slot_cells_first : take 7 sizes_cells ≡ slot_cells
unfolding sizes_cells
slot_cells_first = refl

-- bytes of a block up to the end of its slot at least
pub slot_of_part : (start rest : List ℕ) (b : SizesBlock) (s : Slot) → start ++ rest ≡ sizes_block_text b → 7 ≤ length start → take 7 start ≡ slot_text s → b.slot ≡ s
slot_of_part start rest b s whole long first =
    (slot_same b.slot s [] [] (sym (slot_first b) ∙ ap (λ (t : List ℕ). take 7 t) (sym whole) ∙ take-append-le 7 start rest long ∙ first)).0

pub slots_with : (blocks : List SizesBlock) (b : SizesBlock) (s : Slot) → b.slot ≡ s → sized_slots (blocks ++ b ∷ []) ≡ sized_slots blocks ++ s ∷ []
slots_with blocks b s e = map-append (λ (x : SizesBlock). x.slot) blocks (b ∷ []) ∙ ap (λ (x : Slot). sized_slots blocks ++ x ∷ []) e

first_of_first : (k : ℕ) (bytes : List ℕ) → 7 ≤ k → take 7 (take k bytes) ≡ take 7 bytes
first_of_first k bytes h = take-take 7 k bytes h

-- the first k bytes fill the first k cells
module _ (blocks : List SizesBlock) (bytes : List ℕ) (k : ℕ) (d : IsSizes blocks) (few : length blocks < 4096) (within : k < 408) (fits : Fits (take k sizes_cells) (take k bytes)) where
  abbrev part : List ℕ
  part = take k bytes

  part_long : length part ≡ k
  part_long = let a = fits_length (take k sizes_cells) part fits in let b = length-take k sizes_cells in let c = cells_long in omega (arith, a, b, c, within)

  more_cells : drop k sizes_cells ≢ []
  more_cells e = let a = ap length e in let b = length-drop k sizes_cells in let c = cells_long in let no : ⊥ = omega (arith, a, b, c, within) in no

  part_begins : BeginsSizes part
  part_begins = begun_sizes (take k sizes_cells) (drop k sizes_cells) part (sym (take-append-drop k sizes_cells)) more_cells fits

  part_is_front : SlotFollows blocks bytes k → IsSizesFront (sizes_text_of blocks ++ part) blocks part
  part_is_front follows =
      let b = part_begins in
      let long = part_long in
      front_of blocks part b.0 d few b.1 (λ h.
      let seven : 7 ≤ k = omega (arith, h, long) in
      let s = follows seven in
      let same = slot_of_part part b.1.rest b.0 s.0 b.1.whole h (first_of_first k bytes seven ∙ s.1) in
      subst IsRising (sym (slots_with blocks b.0 s.0 same)) s.2)

  -- and the byte behind them stops them
  module _ (here : k < length bytes) where
    abbrev byte : ℕ
    byte = get_or bytes k 0

    bytes_split : bytes ≡ part ++ byte ∷ drop (k + 1) bytes
    bytes_split = sym (take-append-drop k bytes) ∙ ap (λ (t : List ℕ). part ++ t) (drop_more bytes k 0 here)

    stops_where : (P : List SizesBlock → List ℕ → ℕ → Type 0) (more : List ℕ) (n : ℕ) → SlotFollows blocks bytes k → ((b : SizesBlock) → GoesOn blocks (part ++ byte ∷ []) b → ⊥) → line_ends part ≡ n → P blocks part byte
        → SizesStopWhere (sizes_text_of blocks ++ (bytes ++ more)) (9 * length blocks + n + 1) P
    stops_where P more n follows none ends holds =
        let one = length-append part (byte ∷ []) in
        let long = part_long in
        record {
          front = sizes_text_of blocks ++ part;
          byte = byte;
          more = drop (k + 1) bytes ++ more;
          split = ap (λ (t : List ℕ). sizes_text_of blocks ++ (t ++ more)) bytes_split ∙ ap (λ (t : List ℕ). sizes_text_of blocks ++ t) (append_assoc part (byte ∷ drop (k + 1) bytes) more)
              ∙ sym (append_assoc (sizes_text_of blocks) part (byte ∷ (drop (k + 1) bytes ++ more)));
          blocks = blocks;
          part = part;
          is_front = part_is_front follows;
          bad = (λ good.
              let g = good_goes blocks (part ++ byte ∷ []) d.each (omega (arith, one)) (omega (arith, one, long, within))
              (subst IsGoodSizes (append_assoc (sizes_text_of blocks) part (byte ∷ [])) good) in
              none g.0 g.1);
          in_line = line_of blocks part n d.each ends;
          holds = holds;
        }

    -- as it doesn't go into its cell
    module _ (wrong : Takes (cell_at k) byte → ⊥) where
      no_block : (b : SizesBlock) (rest : List ℕ) → IsSizesBlock b → (part ++ byte ∷ []) ++ rest ≡ sizes_block_text b → ⊥
      no_block b rest h whole =
          let c = cells_long in
          let cells : sizes_cells ≡ take k sizes_cells ++ get_or sizes_cells k (Fixed 0) ∷ drop (k + 1) sizes_cells =
          sym (take-append-drop k sizes_cells) ∙ ap (λ (t : List Cell). take k sizes_cells ++ t) (drop_more sizes_cells k (Fixed 0) (omega (arith, c, within))) in
          wrong (takes_at (take k sizes_cells) (get_or sizes_cells k (Fixed 0)) (drop (k + 1) sizes_cells) part byte rest (fits_length (take k sizes_cells) part fits)
          (subst (λ (cs : List Cell). Fits cs (part ++ byte ∷ rest)) cells
          (subst (λ (t : List ℕ). Fits sizes_cells t) (sym whole ∙ append_assoc part (byte ∷ []) rest) (fits_sizes b h))))

      pub fault_slot : (more : List ℕ) → k < 8 → SlotFollows blocks bytes k → IsSizesFaultOf (sizes_text_of blocks ++ (bytes ++ more)) (BadSlot (9 * length blocks + ends_before k + 1))
      fault_slot more early follows =
          let long = part_long in
          stops_where (λ blocks part c. (length blocks < 4096) × (length part < 8) × (BeginsSizes (part ++ c ∷ []) → ⊥)) more (ends_before k) follows
          (λ b g. no_block b g.rest g.block g.whole) (ends_at k part within fits) (few, omega (arith, long, early), λ q. no_block q.0 q.1.rest q.1.block q.1.whole)

      pub fault_line : (more : List ℕ) → 1 ≤ ends_before k → ends_before k ≤ 7 → SlotFollows blocks bytes k → IsSizesFaultOf (sizes_text_of blocks ++ (bytes ++ more)) (BadLine (9 * length blocks + ends_before k + 1))
      fault_line more lo hi follows =
          let ends = ends_at k part within fits in
          stops_where (λ blocks part c. (1 ≤ line_ends part) × (line_ends part ≤ 7)) more (ends_before k) follows (λ b g. no_block b g.rest g.block g.whole) ends (omega (arith, ends, lo), omega (arith, ends, hi))

      pub fault_blank : (more : List ℕ) → ends_before k ≡ 8 → SlotFollows blocks bytes k → IsSizesFaultOf (sizes_text_of blocks ++ (bytes ++ more)) (NoBlank (9 * length blocks + ends_before k + 1))
      fault_blank more eight follows =
          let ends = ends_at k part within fits in
          stops_where (λ blocks part c. line_ends part ≡ 8) more (ends_before k) follows (λ b g. no_block b g.rest g.block g.whole) ends (ends ∙ eight)

  -- and there are no more
  pub fault_ended : length bytes ≡ k → 1 ≤ k → SlotFollows blocks bytes k → IsSizesFaultOf (sizes_text_of blocks ++ bytes) (Ended (9 * length blocks + ends_before k + 1))
  fault_ended all some follows =
      let whole : part ≡ bytes = take_all k bytes (omega (arith, all)) in (
        (blocks, bytes, subst (λ (t : List ℕ). IsSizesFront (sizes_text_of blocks ++ t) blocks t) whole (part_is_front follows)),
        (λ others text.
            let long = sym (length-append (sizes_text_of blocks) bytes) ∙ ap length text.1 in
            let mine = sizes_long blocks d.each in
            let theirs = sizes_long others text.0.each in
            let no : ⊥ = omega (arith, long, mine, theirs, all, some, within) in no),
        line_of blocks bytes (ends_before k) d.each (ap line_ends (sym whole) ∙ ends_at k part within fits),
      )

-- the slot isn't above the last one
pub fault_order : (blocks : List SizesBlock) (bytes more : List ℕ) (s : Slot) → IsSizes blocks → length blocks < 4096 → IsSlot s → 7 ≤ length bytes → take 7 bytes ≡ slot_text s → (IsRising (sized_slots blocks ++ s ∷ []) → ⊥)
    → IsSizesFaultOf (sizes_text_of blocks ++ (bytes ++ more)) (Order (9 * length blocks + 0 + 1))
fault_order blocks bytes more s d few is_slot long first low =
    let six : take 6 bytes ++ get_or bytes 6 0 ∷ [] ≡ take 7 bytes = sym (take_more bytes 6 0 (omega (arith, long))) in
    let seven : Fits (take 7 sizes_cells) (take 7 bytes) =
    subst (λ (cs : List Cell). Fits cs (take 7 bytes)) (sym slot_cells_first) (subst (λ (t : List ℕ). Fits slot_cells t) (sym first) (fits_slot s is_slot)) in
    let fits : Fits (take 6 sizes_cells) (take 6 bytes) = subst (λ (t : List ℕ). Fits (take 6 sizes_cells) t) (take-take 6 7 bytes (omega arith))
    (subst (λ (cs : List Cell). Fits cs (take 6 (take 7 bytes))) (take-take 6 7 sizes_cells (omega arith)) (fits_first 6 (take 7 sizes_cells) (take 7 bytes) seven)) in
    let part = part_long blocks bytes 6 d few (omega arith) fits in
    let begins = part_begins blocks bytes 7 d few (omega arith) seven in
    let count = length-append (take 6 bytes) (get_or bytes 6 0 ∷ []) in
    stops_where blocks bytes 6 d few (omega arith) fits (omega (arith, long)) (λ blocks part c. (length part ≡ 6) × BeginsSizes (part ++ c ∷ [])) more 0 (λ h. absurd (let no : ⊥ = omega (arith, h) in no))
    (λ b g.
    let same = slot_of_part (take 6 bytes ++ get_or bytes 6 0 ∷ []) g.rest b s g.whole (omega (arith, count, part)) (ap (λ (t : List ℕ). take 7 t) six ∙ first_of_first 7 bytes (omega arith) ∙ first) in
    low (subst IsRising (slots_with blocks b s same) (g.rising (omega (arith, count, part)))))
    (ends_at 6 (take 6 bytes) (omega arith) fits)
    (part, subst BeginsSizes (sym six) begins)

-- a byte after all the blocks that there is room for
pub fault_many : (blocks : List SizesBlock) (c : ℕ) (more : List ℕ) → IsSizes blocks → length blocks ≡ 4096 → IsSizesFaultOf (sizes_text_of blocks ++ c ∷ more) (TooMany (9 * length blocks + 0 + 1))
fault_many blocks c more d full =
    let nothing = begun_sizes [] sizes_cells [] refl (λ e. let a = ap length e in let b = cells_long in let no : ⊥ = omega (arith, a, b) in no) tt in
    record {
      front = sizes_text_of blocks ++ [];
      byte = c;
      more = more;
      split = sym (append_assoc (sizes_text_of blocks) [] (c ∷ more));
      blocks = blocks;
      part = [];
      is_front = record {
        split = refl;
        each = d.each;
        rising = d.rising;
        next = (nothing.0, nothing.1, λ h. absurd (let no : ⊥ = omega (arith, h) in no));
        room = d.room;
        begun = (λ some. absurd (some refl));
      };
      bad = (λ good.
          let g = good_goes blocks (c ∷ []) d.each (omega arith) (omega arith) (subst IsGoodSizes (append_assoc (sizes_text_of blocks) [] (c ∷ [])) good) in
          let less = g.1.few in
          let no : ⊥ = omega (arith, less, full) in no);
      in_line = line_of blocks [] 0 d.each refl;
      holds = full;
    }
