-- What is good before a byte, and isn't with it.
use Rattle.std.proofs.Common.{◌≡◌, ◌≢◌, ◌⊎◌, ℕ, zero, suc, ◌+◌, ◌<◌, ◌≤◌, inl, inr, List, [], ◌∷◌, ◌++◌, refl, arith, sym, ◌∙◌, ap, subst, length, append_assoc, append-nil, map}
use Rattle.std.specs.List.{All, slice_index}
use Rattle.std.proofs.lemmas.List.{same_from_push, length-append}
use Rattle.pci_spec.specs.Slot.{slot_number, IsRising}
use Rattle.pci_spec.specs.Text.{Block, IsBlock, block_text, text_of, slots_of, IsPartOf, BeginsBlock, IsFront, IsGood, IsTextOf, blocks_begun, StopsWhere, line_after}
use Rattle.pci_spec.specs.Stops.{IsAboveLast, last_slot, IsStartOf, StopsAt}
use Rattle.pci_spec.proofs.Spelling.{block_same, front_same}

-- a list is empty or has a last element
abbrev pub LastOf : List ℕ → Type 0
LastOf xs = (ys : List ℕ) × (y : ℕ) × (xs ≡ ys ++ y ∷ [])

pub snoc_view : (x : ℕ) (xs : List ℕ) → LastOf (x ∷ xs)
snoc_view x [] = ([], x, refl)
snoc_view x (z ∷ xs) = let v = snoc_view z xs in (x ∷ v.0, v.1, ap (λ (t : List ℕ). x ∷ t) v.2)

nothing_after : (more rest : List ℕ) → more ++ rest ≡ [] → rest ≡ []
nothing_after [] rest e = e
nothing_after (x ∷ more) rest e = let n = ap length e in absurd (let no : ⊥ = omega (arith, n) in no)

nothing_before : (more rest : List ℕ) → more ++ rest ≡ [] → more ≡ []
nothing_before [] rest e = refl
nothing_before (x ∷ more) rest e = let n = ap length e in absurd (let no : ⊥ = omega (arith, n) in no)

no_more : (part rest more : List ℕ) (b c : Block) → IsBlock b → IsBlock c → part ++ rest ≡ block_text b → part ≡ block_text c ++ more → rest ≡ []
no_more part rest more b c hb hc whole longer =
    let joined : block_text b ++ [] ≡ block_text c ++ (more ++ rest) =
    append-nil (block_text b) ∙ sym whole ∙ ap (λ t. t ++ rest) longer ∙ append_assoc (block_text c) more rest in
    nothing_after more rest (sym (block_same b c [] (more ++ rest) hb hc joined).1)

no_empty_block : (b : Block) → block_text b ≡ [] → ⊥
unfolding block_text
no_empty_block b e = let n = ap length e in omega (arith, n)

no_blocks : (blocks : List Block) → text_of blocks ≡ [] → blocks ≡ []
no_blocks [] e = refl
no_blocks (b ∷ blocks) e = absurd (no_empty_block b (nothing_before (block_text b) (text_of blocks) e))

-- what a byte after a part makes of it: a longer part, or a whole block
pub record Closes (blocks others : List Block) (part piece : List ℕ) (c : ℕ) (b : Block) : Type 0 where
  pub block : IsBlock b
  pub whole : part ++ c ∷ [] ≡ block_text b
  pub all : others ≡ blocks ++ b ∷ []
  pub none : piece ≡ []

-- the first block after a part and a byte
first : (o : Block) (others : List Block) (part piece : List ℕ) (c : ℕ) (x : List ℕ) → text_of others ++ piece ≡ x → IsBlock o → BeginsBlock part
    → part ++ c ∷ [] ≡ block_text o ++ x → (b : Block) × Closes [] (o ∷ others) part piece c b
first o others part piece c [] n ho p e =
    let no_others = no_blocks others (nothing_before (text_of others) piece n) in
    (o, record { block = ho; whole = e ∙ append-nil (block_text o); all = ap (λ (bs : List Block). o ∷ bs) no_others; none = nothing_after (text_of others) piece n })
first o others part piece c (x ∷ xs) n ho p e =
    let v = snoc_view x xs in
    let longer : part ++ c ∷ [] ≡ (block_text o ++ v.0) ++ v.1 ∷ [] = e ∙ ap (λ (t : List ℕ). block_text o ++ t) v.2 ∙ sym (append_assoc (block_text o) v.0 (v.1 ∷ [])) in
    absurd (p.1.unfinished (no_more part p.1.rest v.0 p.0 o p.1.block ho p.1.whole (same_from_push part (block_text o ++ v.0) c v.1 longer).0))

pub with_one : (blocks others : List Block) (part piece : List ℕ) (c : ℕ) → All IsBlock blocks → All IsBlock others → BeginsBlock part → BeginsBlock piece
    → text_of blocks ++ (part ++ c ∷ []) ≡ text_of others ++ piece
    → ((blocks ≡ others) × (part ++ c ∷ [] ≡ piece)) ⊎ ((b : Block) × Closes blocks others part piece c b)
with_one [] [] part piece c hx hy p q e = inl (refl, e)
with_one [] (o ∷ others) part piece c hx hy p q e =
    let e' : part ++ c ∷ [] ≡ block_text o ++ (text_of others ++ piece) = e ∙ append_assoc (block_text o) (text_of others) piece in
    inr (first o others part piece c (text_of others ++ piece) refl (hy 0 o (omega arith)) p e')
with_one (b ∷ blocks) [] part piece c hx hy p q e =
    absurd (q.1.unfinished (no_more piece q.1.rest (text_of blocks ++ (part ++ c ∷ [])) q.0 b q.1.block (hx 0 b (omega arith)) q.1.whole (sym e ∙ append_assoc (block_text b) (text_of blocks) (part ++ c ∷ []))))
with_one (b ∷ blocks) (o ∷ others) part piece c hx hy p q e =
    let one = block_same b o (text_of blocks ++ (part ++ c ∷ [])) (text_of others ++ piece) (hx 0 b (omega arith)) (hy 0 o (omega arith))
    (sym (append_assoc (block_text b) (text_of blocks) (part ++ c ∷ [])) ∙ e ∙ append_assoc (block_text o) (text_of others) piece) in
    let back = sym one.0 in
    elim (with_one blocks others part piece c (λ k d h. hx (suc k) d (omega (arith, h))) (λ k d h. hy (suc k) d (omega (arith, h))) p q one.1) [
      | inl same ↦ inl ((λ i. one.0 i ∷ same.0 i), same.1)
      | inr found ↦ inr (found.0, record { block = found.1.block; whole = found.1.whole; all = (λ i. back i ∷ found.1.all i); none = found.1.none })
    ]

-- ---- slots

rising_shorter : (b : Block) (blocks : List Block) → IsRising (slots_of (b ∷ blocks)) → IsRising (slots_of blocks)
rising_shorter b blocks h k l =
    let at : suc k + 1 ≡ suc (k + 1) = omega arith in
    subst (λ (j : ℕ). slice_index (map slot_number (slots_of (b ∷ blocks))) (suc k) < slice_index (map slot_number (slots_of (b ∷ blocks))) j) at (h (suc k) (omega (arith, l)))

pub above_last : (blocks : List Block) (b : Block) → IsRising (slots_of (blocks ++ b ∷ [])) → IsAboveLast (last_slot blocks) b.slot
above_last [] b h = tt
above_last (a ∷ []) b h = h 0 (omega arith)
above_last (a ∷ d ∷ blocks) b h = above_last (d ∷ blocks) b (rising_shorter a (d ∷ blocks ++ b ∷ []) h)

pub rising_more : (blocks : List Block) (b : Block) → IsRising (slots_of blocks) → IsAboveLast (last_slot blocks) b.slot → IsRising (slots_of (blocks ++ b ∷ []))
rising_more [] b h a zero l = absurd (omega (arith, l))
rising_more [] b h a (suc k) l = absurd (omega (arith, l))
rising_more (x ∷ []) b h a zero l = a
rising_more (x ∷ []) b h a (suc k) l = absurd (omega (arith, l))
rising_more (x ∷ y ∷ blocks) b h a zero l = h 0 (omega arith)
rising_more (x ∷ y ∷ blocks) b h a (suc k) l =
    let at : suc (k + 1) ≡ suc k + 1 = omega arith in
    subst (λ (j : ℕ). slice_index (map slot_number (slots_of (x ∷ y ∷ blocks ++ b ∷ []))) (suc k) < slice_index (map slot_number (slots_of (x ∷ y ∷ blocks ++ b ∷ []))) j) at
    (rising_more (y ∷ blocks) b (rising_shorter x (y ∷ blocks) h) a k (omega (arith, l)))

-- ---- the front of a stop

room : (blocks : List Block) (part : List ℕ) → length blocks < 4096 → blocks_begun blocks part ≤ 4096
room blocks [] few = omega (arith, few)
room blocks (c ∷ part) few = omega (arith, few)

pub front_of : (blocks : List Block) (part : List ℕ) (b : Block) → All IsBlock blocks → IsRising (slots_of blocks) → length blocks < 4096
    → IsPartOf part b → (7 ≤ length part → IsAboveLast (last_slot blocks) b.slot) → IsFront (text_of blocks ++ part) blocks part
front_of blocks part b each rising few begun above = record {
  split = refl;
  each = each;
  rising = rising;
  next = (b, begun, λ h. rising_more blocks b rising (above h));
  room = room blocks part few;
}

-- with a byte that no block has there it isn't good
pub not_good : (blocks : List Block) (part : List ℕ) (c : ℕ) → All IsBlock blocks → BeginsBlock part
    → ((b : Block) → IsStartOf (part ++ c ∷ []) b → (7 ≤ length part + 1 → IsAboveLast (last_slot blocks) b.slot) → ⊥)
    → IsGood ((text_of blocks ++ part) ++ c ∷ []) → ⊥
not_good blocks part c each begun none (others, piece, f) =
    let e : text_of blocks ++ (part ++ c ∷ []) ≡ text_of others ++ piece = sym (append_assoc (text_of blocks) part (c ∷ [])) ∙ f.split in
    let next = f.next in
    let one_more : length (part ++ c ∷ []) ≡ length part + 1 = length-append part (c ∷ []) in
    elim (with_one blocks others part piece c each f.each begun (next.0, next.1) e) [
      | inl same ↦
          let back = sym same.0 in
          let piece_length : length piece ≡ length part + 1 = ap length (sym same.1) ∙ one_more in
          none next.0 (record { block = next.1.block; rest = next.1.rest; whole = ap (λ (t : List ℕ). t ++ next.1.rest) same.1 ∙ next.1.whole })
          (λ h. above_last blocks next.0 (subst (λ (bs : List Block). IsRising (slots_of (bs ++ next.0 ∷ []))) back (next.2 (omega (arith, h, piece_length)))))
      | inr found ↦
          none found.0 (record { block = found.1.block; rest = []; whole = append-nil (part ++ c ∷ []) ∙ found.1.whole })
          (λ h. above_last blocks found.0 (subst (λ (bs : List Block). IsRising (slots_of bs)) found.1.all f.rising))
    ]

-- ---- the faults

-- what stops the text of these blocks and some bytes
pub stops_where : (P : List Block → List ℕ → ℕ → Type 0) (blocks : List Block) (bytes part more : List ℕ) (c line : ℕ) → All IsBlock blocks → IsRising (slots_of blocks) → length blocks < 4096
    → StopsAt (last_slot blocks) bytes part c → line ≡ line_after (text_of blocks ++ part) → P blocks part c → StopsWhere (text_of blocks ++ (bytes ++ more)) line P
stops_where P blocks bytes part more c line each rising few stop at holds =
    let split : text_of blocks ++ (bytes ++ more) ≡ (text_of blocks ++ part) ++ c ∷ (stop.more ++ more) =
    ap (λ (t : List ℕ). text_of blocks ++ (t ++ more)) stop.split ∙ ap (λ (t : List ℕ). text_of blocks ++ t) (append_assoc part (c ∷ stop.more) more)
    ∙ sym (append_assoc (text_of blocks) part (c ∷ (stop.more ++ more))) in
    record {
      front = text_of blocks ++ part;
      byte = c;
      more = stop.more ++ more;
      split = split;
      blocks = blocks;
      part = part;
      is_front = front_of blocks part stop.block each rising few stop.begun stop.above;
      bad = not_good blocks part c each (stop.block, stop.begun) stop.no;
      in_line = at;
      holds = holds;
    }

-- A first byte after 4096 blocks.
pub too_many : (blocks : List Block) (c : ℕ) (more : List ℕ) → All IsBlock blocks → IsRising (slots_of blocks) → length blocks ≡ 4096 → BeginsBlock []
    → IsGood ((text_of blocks ++ []) ++ c ∷ []) → ⊥
too_many blocks c more each rising full begun (others, piece, f) =
    let e : text_of blocks ++ ([] ++ c ∷ []) ≡ text_of others ++ piece = sym (append_assoc (text_of blocks) [] (c ∷ [])) ∙ f.split in
    elim (with_one blocks others [] piece c each f.each begun (f.next.0, f.next.1) e) [
      | inl same ↦ let begun_too : blocks_begun blocks (c ∷ []) ≤ 4096 = subst (λ (bs : List Block). blocks_begun bs (c ∷ []) ≤ 4096) (sym same.0) (subst (λ (p : List ℕ). blocks_begun others p ≤ 4096) (sym same.1) f.room) in omega (arith, begun_too, full)
      | inr found ↦
          let longer : length others ≡ length blocks + 1 = ap length found.1.all ∙ length-append blocks (found.0 ∷ []) in
          let few : length others ≤ 4096 = subst (λ (p : List ℕ). blocks_begun others p ≤ 4096) found.1.none f.room in
          omega (arith, longer, few, full)
    ]

-- all the bytes are a part of a block
pub ended : (blocks : List Block) (part : List ℕ) (b : Block) → All IsBlock blocks → IsRising (slots_of blocks) → length blocks < 4096
    → IsPartOf part b → (7 ≤ length part → IsAboveLast (last_slot blocks) b.slot) → part ≢ [] → BeginsBlock []
    → IsGood (text_of blocks ++ part) × ((others : List Block) → IsTextOf (text_of blocks ++ part) others → ⊥)
ended blocks part b each rising few begun above some none = (
  (blocks, part, front_of blocks part b each rising few begun above),
  λ others text. some (front_same blocks others part [] each text.0.each (b, begun) none (text.1 ∙ sym (append-nil (text_of others)))).1,
)
