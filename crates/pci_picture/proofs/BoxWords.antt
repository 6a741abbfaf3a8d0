-- The words in the box of a region, one line below the other.
use Rattle.std.proofs.Common.{◌≡◌, ◌≤◌, ◌<◌, ◌+◌, ◌-◌, ◌^◌, ◌&&◌, min, leb, if◌then◌else◌, ℕ, Bool, true, false, List, [], ◌++◌, refl, sym, ap, ap₂, ◌∙◌, Option, arith}
use Rattle.std.specs.Prelude.{codes}
use Rattle.std.proofs.lemmas.Bool.{le-leb, lt-leb}
use Rattle.std.proofs.lemmas.List.{append-nil, append_assoc}
use Rattle.pci_picture.specs.BoxWords.{first_in_box, has_second, lines_in_box, room_of_words, second_in_box, words_in_box, words_of_off, written_in}
use Rattle.pci_picture.specs.Labels.{cut_words, label_text}
use Rattle.pci_picture.specs.Lines.{words_in_line}
use Rattle.pci_picture.specs.Marks.{key_of_region}
use Rattle.pci_picture.specs.Named.{words_of_buses}
use Rattle.pci_picture.specs.RegionWords.{class_of_first, first_words, numbers_naming, words_if_off}
use Rattle.pci_picture.specs.Roots.{Listed}
use Rattle.pci_picture.specs.Spots.{BoxSpot}
use Rattle.pci_picture.specs.Titles.{buses_if_listed, function_of_region, says_window}
use Rattle.pci_picture.specs.Trees.{down}
use Rattle.pci_picture.specs.declared.function.Buses.{Buses}
use Rattle.pci_picture.specs.declared.lanes.Width.{Width}

-- ---- a line of words

same_label : (x y room x' y' room' : ℕ) (class text class' text' : List ℕ) → x ≡ x' → y ≡ y' → class ≡ class' → room ≡ room' → text ≡ text'
    → label_text x y class (cut_words room text) ≡ label_text x' y' class' (cut_words room' text')
same_label x y room x' y' room' class text class' text' xs ys classes rooms texts =
    ap₂ (λ a b. label_text a b class (cut_words room text)) xs ys
    ∙ ap (λ c. label_text x' y' c (cut_words room text)) classes
    ∙ ap₂ (λ r t. label_text x' y' class' (cut_words r t)) rooms texts

line_written : (spot : BoxSpot) (x y room y' room' : ℕ) (class text class' text' before after : List ℕ) → x ≡ min (spot.x + 5) (2 ^ 64 - 1) → y ≡ y' → class ≡ class'
    → room ≡ room' → text ≡ text' → after ≡ before ++ label_text x y class (cut_words room text) → after ≡ before ++ written_in spot y' class' room' text'
line_written spot x y room y' room' class text class' text' before after xs ys classes rooms texts writes =
    writes ∙ ap (λ l. before ++ l) (same_label x y room (min (spot.x + 5) (2 ^ 64 - 1)) y' room' class text class' text' xs ys classes rooms texts)

-- ---- the room of the words in a box

room_is : (width : Width) (words : List (List ℕ)) (inner middle room : ℕ) → inner ≡ (if says_window words then width.inner else width.right)
    → middle ≡ inner - width.left → room ≡ middle - 6 → room ≡ room_of_words width words
room_is width words inner middle room is_inner is_middle is = is ∙ ap (λ n. n - 6) (is_middle ∙ ap (λ n. n - width.left) is_inner)

pub inner_of_window : (width : Width) (words : List (List ℕ)) (inner : ℕ) → says_window words ≡ true → inner ≡ width.inner
    → inner ≡ (if says_window words then width.inner else width.right)
inner_of_window width words inner window is = is ∙ sym (ap (λ b. if b then width.inner else width.right) window)

pub inner_of_other : (width : Width) (words : List (List ℕ)) (inner : ℕ) → says_window words ≡ false → inner ≡ width.right
    → inner ≡ (if says_window words then width.inner else width.right)
inner_of_other width words inner other is = is ∙ sym (ap (λ b. if b then width.inner else width.right) other)

-- ---- each of the lines

pub first_written : (numbers : List ℕ) (functions : List Listed) (width : Width) (spot : BoxSpot) (words : List (List ℕ)) (inner middle room x y : ℕ) (class text before after : List ℕ)
    → inner ≡ (if says_window words then width.inner else width.right) → middle ≡ inner - width.left → room ≡ middle - 6
    → x ≡ min (spot.x + 5) (2 ^ 64 - 1) → y ≡ min (spot.y + 11) (2 ^ 64 - 1) → class ≡ class_of_first numbers words → text ≡ first_words numbers functions words
    → after ≡ before ++ label_text x y class (cut_words room text) → after ≡ before ++ first_in_box numbers functions width spot words
first_written numbers functions width spot words inner middle room x y class text before after is_inner is_middle is_room xs ys classes texts writes =
    line_written spot x y room (down spot.y 11) (room_of_words width words) class text (class_of_first numbers words) (first_words numbers functions words) before after
    xs ys classes (room_is width words inner middle room is_inner is_middle is_room) texts writes

pub second_written : (functions : List Listed) (width : Width) (spot : BoxSpot) (words : List (List ℕ)) (buses : Option Buses) (inner middle room x y : ℕ) (before after : List ℕ)
    → inner ≡ (if says_window words then width.inner else width.right) → middle ≡ inner - width.left → room ≡ middle - 6
    → x ≡ min (spot.x + 5) (2 ^ 64 - 1) → y ≡ min (spot.y + 11) (2 ^ 64 - 1) → buses ≡ buses_if_listed (function_of_region functions words)
    → after ≡ before ++ label_text x (down y 12) (codes "quiet") (cut_words room (codes "to " ++ words_of_buses buses))
    → after ≡ before ++ second_in_box functions width spot words
second_written functions width spot words buses inner middle room x y before after is_inner is_middle is_room xs ys is_buses writes =
    line_written spot x (down y 12) room (down (down spot.y 11) 12) (room_of_words width words) (codes "quiet") (codes "to " ++ words_of_buses buses) (codes "quiet")
    (codes "to " ++ words_of_buses (buses_if_listed (function_of_region functions words))) before after
    xs (ap (λ n. down n 12) ys) refl (room_is width words inner middle room is_inner is_middle is_room) (ap (λ b. codes "to " ++ words_of_buses b) is_buses) writes

-- ---- one line or two

pub no_second : (spot : BoxSpot) (words : List (List ℕ)) → says_window words ≡ false → has_second spot words ≡ false
no_second spot words other = rw other refl

pub too_low : (spot : BoxSpot) (words : List (List ℕ)) (sum : ℕ) → sum ≡ min (spot.height + 1) 18446744073709551615 → sum < 28 → has_second spot words ≡ false
too_low spot words sum is low = fails (says_window words)
  where
    lower : leb 27 spot.height ≡ false
    lower = lt-leb 27 spot.height (omega (arith, is, low))

    fails : (b : Bool) → (b && leb 27 spot.height) ≡ false
    fails true = lower
    fails false = refl

pub high_enough : (spot : BoxSpot) (words : List (List ℕ)) (sum : ℕ) → says_window words ≡ true → sum ≡ min (spot.height + 1) 18446744073709551615 → 28 ≤ sum
    → has_second spot words ≡ true
high_enough spot words sum window is high = rw window (le-leb 27 spot.height (omega (arith, is, high)))

pub one_line : (named : ℕ → ℕ → ℕ → Bool) (functions : List Listed) (width : Width) (spot : BoxSpot) (before after : List ℕ)
    → has_second spot (words_in_line spot.line) ≡ false
    → after ≡ before ++ first_in_box (numbers_naming named (key_of_region (words_in_line spot.line))) functions width spot (words_in_line spot.line)
    → after ≡ before ++ words_in_box named functions width spot
unfolding words_in_box
one_line named functions width spot before after none first =
    let words = words_in_line spot.line in
    let one = first_in_box (numbers_naming named (key_of_region words)) functions width spot words in
    first ∙ ap (λ l. before ++ l) (sym (append-nil one) ∙ sym (ap (λ b. one ++ (if b then second_in_box functions width spot words else [])) none))

pub two_lines : (named : ℕ → ℕ → ℕ → Bool) (functions : List Listed) (width : Width) (spot : BoxSpot) (before between after : List ℕ)
    → has_second spot (words_in_line spot.line) ≡ true
    → between ≡ before ++ first_in_box (numbers_naming named (key_of_region (words_in_line spot.line))) functions width spot (words_in_line spot.line)
    → after ≡ between ++ second_in_box functions width spot (words_in_line spot.line) → after ≡ before ++ words_in_box named functions width spot
unfolding words_in_box
two_lines named functions width spot before between after both first second =
    let words = words_in_line spot.line in
    let one = first_in_box (numbers_naming named (key_of_region words)) functions width spot words in
    let other = second_in_box functions width spot words in
    second ∙ ap (λ l. l ++ other) first ∙ append_assoc before one other
    ∙ ap (λ l. before ++ l) (sym (ap (λ b. one ++ (if b then other else [])) both))

pub off_written : (functions : List Listed) (spot : BoxSpot) (x y : ℕ) (text before between after : List ℕ) → x ≡ min (spot.x + 5) (2 ^ 64 - 1)
    → y ≡ min (spot.y + 11) (2 ^ 64 - 1) → text ≡ words_if_off functions (words_in_line spot.line) → between ≡ before
    → after ≡ between ++ label_text x y (codes "quiet") (cut_words spot.width text) → after ≡ before ++ words_of_off functions spot
unfolding words_of_off
off_written functions spot x y text before between after xs ys texts kept writes =
    line_written spot x y spot.width (down spot.y 11) spot.width (codes "quiet") text (codes "quiet") (words_if_off functions (words_in_line spot.line)) before after
    xs ys refl refl texts (writes ∙ ap (λ l. l ++ label_text x y (codes "quiet") (cut_words spot.width text)) kept)

-- ---- faults that name the same regions

pub same_words : (one other : ℕ → ℕ → ℕ → Bool) → ((a b key : ℕ) → one a b key ≡ other a b key) → (functions : List Listed) (width : Width) (spot : BoxSpot)
    → words_in_box one functions width spot ≡ words_in_box other functions width spot
unfolding words_in_box numbers_naming
same_words one other agree functions width spot =
    let words = words_in_line spot.line in
    ap (λ numbers. lines_in_box numbers functions width spot words) (same_numbers (key_of_region words))
  where
    same_numbers : (key : ℕ) → numbers_naming one key ≡ numbers_naming other key
    same_numbers key = rw (agree 60 60 key, agree 61 61 key, agree 62 62 key, agree 63 63 key) refl
