-- The row of a function in the tree.
use Rattle.std.proofs.Common.{◌≡◌, ◌≤◌, ◌+◌, ◌-◌, ◌*◌, ◌^◌, ℕ, List, [], ◌++◌, length, ap, ◌∙◌, arith}
use Rattle.std.specs.Prelude.{codes, min}
use Rattle.std.proofs.lemmas.List.{append-nil, append_assoc}
use Rattle.pci_picture.specs.Labels.{cut_words, label_text}
use Rattle.pci_picture.specs.Rows.{TreeRow, tree_row_text}

-- a product that was cut off at 64 bits leaves as little of a small number
pub cut_off : (room wide : ℕ) → room ≤ 400 → room - min wide (2 ^ 64 - 1) ≡ room - wide
cut_off room wide low = omega (arith, low)

-- the words of a row, and behind them what stands at its right end
pub row_written : (row : TreeRow) (before between cut after : List ℕ) (room right : ℕ) → between ≡ before ++ []
    → cut ≡ between ++ label_text row.left row.base row.class (cut_words room row.words) → after ≡ cut ++ label_text right row.base (codes "alarm bold") row.beside
    → room ≡ 394 - row.left - length row.beside * 7 → right ≡ 400 - length row.beside * 7 → after ≡ before ++ tree_row_text row
unfolding tree_row_text
row_written row before between cut after room right kept words beside room_is right_is =
    let first = label_text row.left row.base row.class (cut_words (394 - row.left - length row.beside * 7) row.words) in
    beside ∙ ap (λ n. cut ++ label_text n row.base (codes "alarm bold") row.beside) right_is
    ∙ ap (λ l. l ++ label_text (400 - length row.beside * 7) row.base (codes "alarm bold") row.beside)
    (words ∙ ap (λ n. between ++ label_text row.left row.base row.class (cut_words n row.words)) room_is ∙ ap (λ l. l ++ first) (kept ∙ append-nil before))
    ∙ append_assoc before first (label_text (400 - length row.beside * 7) row.base (codes "alarm bold") row.beside)

-- ---- the words of a row

pub row_of_bridge : (one to buses comma two told : List ℕ) → to ≡ one ++ codes "to " → buses ≡ to ++ told → comma ≡ buses ++ codes ", " → two ≡ comma
    → two ≡ one ++ (codes "to " ++ told ++ codes ", ")
row_of_bridge one to buses comma two told first second third is =
    is ∙ third ∙ ap (λ l. l ++ codes ", ") (second ∙ ap (λ l. l ++ told) first ∙ append_assoc one (codes "to ") told)
    ∙ append_assoc one (codes "to " ++ told) (codes ", ")

-- behind the slot and a blank stand the buses of a bridge and the name
pub row_named : (slot one two three bridge name : List ℕ) → one ≡ slot ++ codes " " → two ≡ one ++ bridge → three ≡ two ++ name
    → three ≡ slot ++ codes " " ++ bridge ++ name
row_named slot one two three bridge name begins adds ends = ends ∙ ap (λ l. l ++ name) (adds ∙ ap (λ l. l ++ bridge) begins)
