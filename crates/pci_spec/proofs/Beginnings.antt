-- A beginning of a good input is good.
use Rattle.std.proofs.Common.{◌≡◌, ℕ, ◌+◌, ◌≤◌, List, [], ◌∷◌, ◌++◌, refl, arith, sym, ◌∙◌, ap, subst, length, append_assoc, append-nil, map}
use Rattle.std.specs.List.{flat_map, range_with_len, All}
use Rattle.std.proofs.lemmas.Grind.{flat_map-append}
use Rattle.std.proofs.lemmas.List.{same_from_push, length-append, map-append, get_or_append_left, get_or_at}
use Rattle.std.specs.List.Sorted.{IsStrictlyIncreasing}
use Rattle.pci_spec.specs.Slot.{Slot, slot_number, IsRising}
use Rattle.pci_spec.specs.Text.{Block, IsBlock, slot_text, title_text, byte_line, block_text, text_of, slots_of, BeginsBlock, IsFront, IsGood, blocks_begun}
use Rattle.pci_spec.specs.Form.{slot_cells}
use Rattle.pci_spec.specs.TextLaws.{BeginningsAreGood, TextIsGood}
use Rattle.pci_spec.proofs.Fronts.{snoc_view}
use Rattle.pci_spec.proofs.Stopping.{begun_in_slot}

-- ---- the last block, and the last byte of one

pub record LastBlock (blocks : List Block) : Type 0 where
  pub front : List Block
  pub last : Block
  pub split : blocks ≡ front ++ last ∷ []

pub last_block : (b : Block) (blocks : List Block) → LastBlock (b ∷ blocks)
last_block b [] = record { front = []; last = b; split = refl }
last_block b (c ∷ blocks) = let v = last_block c blocks in record { front = b ∷ v.front; last = v.last; split = ap (λ (bs : List Block). b ∷ bs) v.split }

-- a block's text without its last line end
abbrev pub without_end : Block → List ℕ
without_end b = slot_text b.slot ++ title_text b.title ++ (10 ∷ flat_map (byte_line b.image) (range_with_len 0 16))

pub ends_with_line : (b : Block) → block_text b ≡ without_end b ++ 10 ∷ []
unfolding block_text
ends_with_line b = refl

all_in_front : (blocks others : List Block) → All IsBlock (blocks ++ others) → All IsBlock blocks
all_in_front blocks others h k d below =
    let more = length-append blocks others in
    subst IsBlock (get_or_append_left blocks others d k below) (h k d (omega (arith, below, more)))

last_holds : (front : List Block) (b : Block) → All IsBlock (front ++ b ∷ []) → IsBlock b
last_holds front b h =
    let more = length-append front (b ∷ []) in
    subst IsBlock (get_or_at front b [] b (length front) refl) (h (length front) b (omega (arith, more)))

increasing_in_front : (xs ys : List ℕ) → IsStrictlyIncreasing (xs ++ ys) → IsStrictlyIncreasing xs
increasing_in_front xs ys h k below =
    let more = length-append xs ys in
    let here = get_or_append_left xs ys 0 k (omega (arith, below)) in
    let next = get_or_append_left xs ys 0 (k + 1) below in
    let order = h k (omega (arith, below, more)) in
    omega (arith, here, next, order)

rising_in_front : (blocks others : List Block) → IsRising (slots_of (blocks ++ others)) → IsRising (slots_of blocks)
rising_in_front blocks others h =
    let slots : slots_of (blocks ++ others) ≡ slots_of blocks ++ slots_of others = map-append (λ (b : Block). b.slot) blocks others in
    let numbers : map slot_number (slots_of (blocks ++ others)) ≡ map slot_number (slots_of blocks) ++ map slot_number (slots_of others) =
    ap (λ (s : List Slot). map slot_number s) slots ∙ map-append slot_number (slots_of blocks) (slots_of others) in
    increasing_in_front (map slot_number (slots_of blocks)) (map slot_number (slots_of others)) (subst IsStrictlyIncreasing numbers h)

-- ---- how many blocks are begun

pub begun_with_part : (blocks : List Block) (part : List ℕ) → 1 ≤ length part → blocks_begun blocks part ≡ length blocks + 1
begun_with_part blocks [] some = absurd (let no : ⊥ = omega (arith, some) in no)
begun_with_part blocks (c ∷ part) some = refl

pub begun_at_most : (blocks : List Block) (part : List ℕ) → blocks_begun blocks part ≤ length blocks + 1
begun_at_most blocks [] = omega arith
begun_at_most blocks (c ∷ part) = omega arith

-- ---- one byte less

without_last_of_part : (xs : List ℕ) (y : ℕ) (blocks : List Block) (part shorter : List ℕ) (z : ℕ) → part ≡ shorter ++ z ∷ [] → IsFront (xs ++ y ∷ []) blocks part → IsFront xs blocks shorter
without_last_of_part xs y blocks part shorter z e f =
    let joined : xs ++ y ∷ [] ≡ (text_of blocks ++ shorter) ++ z ∷ [] =
    f.split ∙ ap (λ (t : List ℕ). text_of blocks ++ t) e ∙ sym (append_assoc (text_of blocks) shorter (z ∷ [])) in
    let more : length part ≡ length shorter + 1 = ap length e ∙ length-append shorter (z ∷ []) in
    let begun = begun_with_part blocks part (omega (arith, more)) in
    let fewer = begun_at_most blocks shorter in
    let next = f.next in
    record {
      split = (same_from_push xs (text_of blocks ++ shorter) y z joined).0;
      each = f.each;
      rising = f.rising;
      next = (
        next.0,
        record {
          block = next.1.block;
          rest = z ∷ next.1.rest;
          unfinished = (λ n. let l = ap length n in let no : ⊥ = omega (arith, l) in no);
          whole = sym (append_assoc shorter (z ∷ []) next.1.rest) ∙ ap (λ (t : List ℕ). t ++ next.1.rest) (sym e) ∙ next.1.whole;
        },
        λ long. next.2 (omega (arith, long, more)),
      );
      room = (let r = f.room in omega (arith, r, begun, fewer));
    }

without_last_of_block : (xs : List ℕ) (y : ℕ) (blocks : List Block) (last : LastBlock blocks) → IsFront (xs ++ y ∷ []) blocks [] → IsFront xs last.front (without_end last.last)
without_last_of_block xs y blocks last f =
    let all : text_of blocks ≡ text_of last.front ++ (block_text last.last ++ []) = ap text_of last.split ∙ flat_map-append block_text last.front (last.last ∷ []) in
    let text : text_of blocks ++ [] ≡ (text_of last.front ++ without_end last.last) ++ 10 ∷ [] =
    append-nil (text_of blocks) ∙ all ∙ ap (λ (t : List ℕ). text_of last.front ++ t) (append-nil (block_text last.last) ∙ ends_with_line last.last)
    ∙ sym (append_assoc (text_of last.front) (without_end last.last) (10 ∷ [])) in
    let each = subst (λ (bs : List Block). All IsBlock bs) last.split f.each in
    let rising = subst (λ (bs : List Block). IsRising (slots_of bs)) last.split f.rising in
    let its_block : IsBlock last.last = last_holds last.front last.last each in
    let many : length blocks ≡ length last.front + 1 = ap length last.split ∙ length-append last.front (last.last ∷ []) in
    let fewer = begun_at_most last.front (without_end last.last) in
    record {
      split = (same_from_push xs (text_of last.front ++ without_end last.last) y 10 (f.split ∙ text)).0;
      each = all_in_front last.front (last.last ∷ []) each;
      rising = rising_in_front last.front (last.last ∷ []) rising;
      next = (
        last.last,
        record {
          block = its_block;
          rest = 10 ∷ [];
          unfinished = (λ n. let l = ap length n in let no : ⊥ = omega (arith, l) in no);
          whole = sym (ends_with_line last.last);
        },
        λ long. rising,
      );
      room = (let r = f.room in omega (arith, r, many, fewer));
    }

one_less : (xs : List ℕ) (y : ℕ) (blocks : List Block) (part : List ℕ) → IsFront (xs ++ y ∷ []) blocks part → IsGood xs
one_less xs y [] [] f = let n = ap length f.split in let l = length-append xs (y ∷ []) in absurd (let no : ⊥ = omega (arith, n, l) in no)
one_less xs y (b ∷ blocks) [] f = let last = last_block b blocks in (last.front, without_end last.last, without_last_of_block xs y (b ∷ blocks) last f)
one_less xs y blocks (c ∷ part) f = let v = snoc_view c part in (blocks, v.0, without_last_of_part xs y blocks (c ∷ part) v.0 v.1 v.2 f)

pub beginnings_are_good : BeginningsAreGood
beginnings_are_good front [] h = subst IsGood (append-nil front) h
beginnings_are_good front (y ∷ rest) h =
    let longer = beginnings_are_good (front ++ y ∷ []) rest (subst IsGood (sym (append_assoc front (y ∷ []) rest)) h) in
    one_less front y longer.0 longer.1 longer.2

pub nothing_begins : BeginsBlock []
nothing_begins = begun_in_slot [] slot_cells [] refl tt

pub text_is_good : TextIsGood
text_is_good bytes blocks text =
    let b = nothing_begins in (
      blocks,
      [],
      record {
        split = text.1 ∙ sym (append-nil (text_of blocks));
        each = text.0.each;
        rising = text.0.rising;
        next = (b.0, b.1, λ h. absurd (let no : ⊥ = omega (arith, h) in no));
        room = text.0.room;
      },
    )
