-- Lines of words, cut to their room.
use Rattle.std.specs.Prelude.{ℕ, ◌+◌, ◌-◌, ◌/◌, List, [], ◌∷◌, ◌++◌, codes, length, nat_le, take, if◌then◌else◌}
use Rattle.pci_picture.specs.Elements.{words_text}

-- how many characters a width has room for: each is six units wide, and three units are kept free
abbrev pub room_in : ℕ → ℕ
room_in width = (width - 3) / 6 - (width - 3) / 1000

-- words that are too long end in two dots; with room for three characters or fewer there are none
unfoldable pub cut_words : ℕ → List ℕ → List ℕ
cut_words width words =
    if nat_le (length words) (room_in width)
    then words
    else (if nat_le (room_in width) 3 then [] else take (room_in width - 2) words ++ codes "..")

-- a line of words, where there are any
abbrev pub label_text : ℕ → ℕ → List ℕ → List ℕ → List ℕ
label_text x y class [] = []
label_text x y class (byte ∷ words) = words_text x y class (byte ∷ words)
