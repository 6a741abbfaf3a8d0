-- Which words of a line name its region.
use Rattle.std.specs.Prelude.{◌≡◌, ℕ, ◌||◌, ◌+◌, List, [], codes, if◌then◌else◌}
use Rattle.pci_picture.specs.Lines.{nth_word, says}
use Rattle.pci_picture.specs.Slots.{slot_word}

-- the index of the word that is the slot of a region: it stands behind the name of the part, and behind `pref` where that follows
abbrev pub place_of_slot : List (List ℕ) → ℕ
place_of_slot words =
    if says (nth_word words 2) (codes "rom") || says (nth_word words 2) (codes "window")
    then 3
    else (if says (nth_word words 3) (codes "pref") then 4 else 3)

-- the register `r` or the number `+n` is the word behind the slot; free addresses have none
unfoldable pub register_word : List (List ℕ) → List ℕ
register_word words = if says (nth_word words 2) (codes "free") then [] else nth_word words (place_of_slot words + 1)

-- the name that is told of a range is the word behind its number, where there is one; no other region has such a name
unfoldable pub name_word : List (List ℕ) → List ℕ
name_word words =
    if says (nth_word words 2) (codes "told") || says (nth_word words 2) (codes "held") then nth_word words (place_of_slot words + 2) else []

-- a size, a slot, a register and a name are those of a line
pub record AreTextsOf (words : List (List ℕ)) (size slot register name : List ℕ) : Type 0 where
  pub size_is : size ≡ nth_word words 1
  pub slot_is : slot ≡ slot_word words
  pub register_is : register ≡ register_word words
  pub name_is : name ≡ name_word words
