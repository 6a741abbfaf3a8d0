-- How and in which order the tree shows the faults of a function.
use Rattle.std.specs.Prelude.{ℕ, Bool, true, false, ◌+◌, ◌*◌, ◌/◌, ◌%◌, List, [], ◌∷◌, codes, drop, if◌then◌else◌}
use Rattle.std.specs.List.{flat_map}
use Rattle.pci_picture.specs.declared.badge.Badge.{Badge}

abbrev pub bit_of : Bool → ℕ
bit_of true = 1
bit_of false = 0

-- badges stand by slot, then by number; as a bridge comes last
abbrev pub rank_of_badge : Badge → ℕ
rank_of_badge badge = badge.slot * 512 + badge.number * 2 + bit_of badge.is_bridge

-- the number in two digits, and whether the function is named as the bridge
abbrev pub badge_word : Badge → List ℕ
badge_word badge =
    (48 + badge.number / 10 % 10) ∷ (48 + badge.number % 10) ∷ (if badge.is_bridge then codes " bridge" else [])

-- badges with a blank between two
abbrev pub badge_words : List Badge → List ℕ
badge_words badges = drop 1 (flat_map (λ badge. 32 ∷ badge_word badge) badges)
