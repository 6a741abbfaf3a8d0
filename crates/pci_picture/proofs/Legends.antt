-- The words and the boxes of the legend, while it is drawn.
use Rattle.std.proofs.Common.{◌≡◌, ◌≤◌, ◌<◌, ◌+◌, ◌-◌, ◌*◌, ◌^◌, ℕ, Bool, true, false, List, [], ◌++◌, length, drop, get_or, sym, ap, ◌∙◌, arith}
use Rattle.std.specs.Prelude.{min}
use Rattle.std.proofs.lemmas.List.{append_assoc, drop_more}
use Rattle.pci_picture.specs.Elements.{box_text}
use Rattle.pci_picture.specs.Labels.{label_text}
use Rattle.pci_picture.specs.Legends.{class_of_mark, last_begins, legend_boxes, legend_text, marks_of_legend, title_of_mark, words_of_mark}
use Rattle.pci_picture.specs.declared.legend.Mark.{Mark}
use Rattle.pci_picture.specs.declared.legend.Mark.TheVariants.{Window, Bar, Prefetchable, Rom, Free, Clash, Lost, Off, Shared, Fits, Told, Held}

pub few_characters : (mark : Mark) → length (words_of_mark mark) ≤ 18
few_characters Window = omega arith
few_characters Bar = omega arith
few_characters Prefetchable = omega arith
few_characters Rom = omega arith
few_characters Free = omega arith
few_characters Clash = omega arith
few_characters Lost = omega arith
few_characters Off = omega arith
few_characters Shared = omega arith
few_characters Fits = omega arith
few_characters Told = omega arith
few_characters Held = omega arith

pub few_marks : (is_told : Bool) → length (marks_of_legend is_told) ≤ 12
unfolding marks_of_legend
few_marks true = omega arith
few_marks false = omega arith

-- no place is cut off at 64 bits
pub room_of_mark : (mark : Mark) (i left wide moved next : ℕ) → left ≤ 16 + 160 * i → i < 12 → moved ≡ min (left + 34) (2 ^ 64 - 1)
    → wide ≡ min (length (words_of_mark mark) * 7) (2 ^ 64 - 1) → next ≡ min (moved + wide) (2 ^ 64 - 1)
    → (next ≡ left + 34 + 7 * length (words_of_mark mark)) × (next ≤ 16 + 160 * (i + 1)) × (min (left + 21) (2 ^ 64 - 1) ≡ left + 21)
room_of_mark mark i left wide moved next low few moved_is wide_is next_is =
    let short = few_characters mark in
    (omega (arith, low, few, moved_is, wide_is, next_is, short), omega (arith, low, few, moved_is, wide_is, next_is, short), omega (arith, low, few))

-- one mark more
pub mark_written : (marks : List Mark) (base left i : ℕ) (mark : Mark) (before now after all : List ℕ) → i < length marks → mark ≡ get_or marks i mark
    → now ++ legend_text base left (drop i marks) ≡ before ++ all
    → after ≡ now ++ label_text (left + 21) base [] (words_of_mark mark)
    → after ++ legend_text base (left + 34 + 7 * length (words_of_mark mark)) (drop (i + 1) marks) ≡ before ++ all
mark_written marks base left i mark before now after all inside at is writes =
    let words = label_text (left + 21) base [] (words_of_mark mark) in
    let rest = legend_text base (left + 34 + 7 * length (words_of_mark mark)) (drop (i + 1) marks) in
    ap (λ l. l ++ rest) writes ∙ append_assoc now words rest
    ∙ ap (λ l. now ++ l)
    (ap (λ m. label_text (left + 21) base [] (words_of_mark m) ++ legend_text base (left + 34 + 7 * length (words_of_mark m)) (drop (i + 1) marks)) at
    ∙ ap (legend_text base left) (sym (drop_more marks i mark inside)))
    ∙ is

-- the same of its box
pub mark_boxed : (marks : List Mark) (base left i : ℕ) (mark : Mark) (before now after all : List ℕ) → i < length marks → mark ≡ get_or marks i mark
    → now ++ legend_boxes base left (drop i marks) ≡ before ++ all
    → after ≡ now ++ box_text left (base - 9) 16 11 (class_of_mark mark) [] (title_of_mark mark)
    → after ++ legend_boxes base (left + 34 + 7 * length (words_of_mark mark)) (drop (i + 1) marks) ≡ before ++ all
mark_boxed marks base left i mark before now after all inside at is draws =
    let box = box_text left (base - 9) 16 11 (class_of_mark mark) [] (title_of_mark mark) in
    let rest = legend_boxes base (left + 34 + 7 * length (words_of_mark mark)) (drop (i + 1) marks) in
    ap (λ l. l ++ rest) draws ∙ append_assoc now box rest
    ∙ ap (λ l. now ++ l)
    (ap (λ m. box_text left (base - 9) 16 11 (class_of_mark m) [] (title_of_mark m) ++ legend_boxes base (left + 34 + 7 * length (words_of_mark m)) (drop (i + 1) marks)) at
    ∙ ap (legend_boxes base left) (sym (drop_more marks i mark inside)))
    ∙ is

-- the last mark begins behind this one, or where this one does
pub mark_passed : (marks : List Mark) (left before i : ℕ) (mark : Mark) → i < length marks → mark ≡ get_or marks i mark
    → last_begins left (left + 34 + 7 * length (words_of_mark mark)) (drop (i + 1) marks) ≡ last_begins before left (drop i marks)
mark_passed marks left before i mark inside at =
    ap (λ m. last_begins left (left + 34 + 7 * length (words_of_mark m)) (drop (i + 1) marks)) at ∙ ap (last_begins before left) (sym (drop_more marks i mark inside))
