-- A block's text from its parts.
use Rattle.std.proofs.Common.{◌≡◌, ℕ, zero, suc, ◌+◌, List, [], ◌∷◌, ◌++◌, arith, sym, ◌∙◌, ap, append_assoc}
use Rattle.std.specs.List.{flat_map, range_with_len}
use Rattle.std.proofs.lemmas.List.{flat_map_more}
use Rattle.pci_spec.specs.Text.{Block, slot_text, title_text, byte_line, block_text}

range_more : (a n : ℕ) → range_with_len a (n + 1) ≡ range_with_len a n ++ (a + n) ∷ []
range_more a zero = let z : a ≡ a + 0 = omega arith in ap (λ (k : ℕ). k ∷ []) z
range_more a (suc n) =
    let s : suc n + 1 ≡ suc (n + 1) = omega arith in
    let k : a + 1 + n ≡ a + suc n = omega arith in
    ap (range_with_len a) s ∙ ap (λ (xs : List ℕ). a ∷ xs) (range_more (a + 1) n ∙ ap (λ (j : ℕ). range_with_len (a + 1) n ++ j ∷ []) k)

-- one row more
pub rows_put : (image start old new : List ℕ) (row : ℕ) → old ≡ start ++ flat_map (byte_line image) (range_with_len 0 row) → new ≡ old ++ byte_line image row → new ≡ start ++ flat_map (byte_line image) (range_with_len 0 (row + 1))
rows_put image start old new row o n =
    let z : 0 + row ≡ row = omega arith in
    n ∙ ap (λ (t : List ℕ). t ++ byte_line image row) o ∙ flat_map_more (byte_line image) start (range_with_len 0 row) row
    ∙ ap (λ (rows : List ℕ). start ++ flat_map (byte_line image) rows) (sym (range_more 0 row ∙ ap (λ (j : ℕ). range_with_len 0 row ++ j ∷ []) z))

pub block_put : (b : Block) (none slot title line rows all : List ℕ) (row : ℕ) → none ≡ [] → slot ≡ none ++ slot_text b.slot → title ≡ slot ++ title_text b.title → line ≡ title ++ 10 ∷ []
    → row ≡ 16 → rows ≡ line ++ flat_map (byte_line b.image) (range_with_len 0 row) → all ≡ rows ++ 10 ∷ [] → all ≡ block_text b
unfolding block_text
block_put b none slot title line rows all row n s t l r k a =
    let lines = flat_map (byte_line b.image) (range_with_len 0 16) in
    let head : title ≡ slot_text b.slot ++ title_text b.title = t ∙ ap (λ (x : List ℕ). x ++ title_text b.title) (s ∙ ap (λ (x : List ℕ). x ++ slot_text b.slot) n) in
    a ∙ ap (λ (x : List ℕ). x ++ 10 ∷ []) (k ∙ ap (λ (j : ℕ). line ++ flat_map (byte_line b.image) (range_with_len 0 j)) r
    ∙ ap (λ (x : List ℕ). x ++ lines) (l ∙ ap (λ (x : List ℕ). x ++ 10 ∷ []) head)
    ∙ append_assoc (slot_text b.slot ++ title_text b.title) (10 ∷ []) lines)
