-- Which numbers of faults the tree shows beside a function.
use Rattle.std.specs.Prelude.{◌≡◌, ◌<◌, ◌↔◌, ℕ, Bool, true, false, ◌==◌, ◌&&◌, ◌+◌, ◌-◌, Option, Some, None, List, [], ◌∷◌, ◌++◌, length, map, if◌then◌else◌}
use Rattle.std.specs.List.{AllPairs, Contains, filter, find, flat_map, slice_split}
use Rattle.std.specs.List.Sorted.{IsPermutation}
use Rattle.std.specs.Option.{option_map}
use Rattle.pci_picture.specs.Lines.{is_feed, is_slot, nth_word, slot_number_of, words_in_line}
use Rattle.pci_picture.specs.Marks.{keys_of_fault, number_before_blank, one_key}
use Rattle.pci_picture.specs.Ranks.{badge_words, rank_of_badge}
use Rattle.pci_picture.specs.Slots.{slot_of_key}
use Rattle.pci_picture.specs.declared.badge.Badge.{Badge}
use Rattle.pci_picture.specs.declared.faults.Faults.{Faults}

-- ---- beside which functions a fault shows

-- the number of the first slot among some words
abbrev pub first_slot_of : List (List ℕ) → Option ℕ
first_slot_of words = option_map slot_number_of (find is_slot words)

-- the functions of the regions with some keys; where there is no key, that of the first slot of the line
abbrev pub slots_of_keys : List ℕ → List (List ℕ) → List ℕ
slots_of_keys [] words = one_key (first_slot_of words)
slots_of_keys (key ∷ keys) words = map slot_of_key (key ∷ keys)

-- the bridge of a 60 stands at the end of its line
abbrev pub bridge_slots : ℕ → List ℕ → List ℕ
bridge_slots number word = if (number == 60) && is_slot word then slot_number_of word ∷ [] else []

abbrev pub badge_of : ℕ → Bool → ℕ → Badge
badge_of number is_bridge slot = record { slot = slot; number = number; is_bridge = is_bridge }

-- what the tree shows of a fault, by the keys of its regions and by its first line
abbrev pub badges_of_fault : ℕ → List ℕ → List (List ℕ) → List Badge
badges_of_fault number keys words =
    map (badge_of number true) (bridge_slots number (nth_word words (length words - 1)))
    ++ map (badge_of number false) (slots_of_keys keys words)

abbrev pub badges_begun : Option ℕ → List ℕ → List Badge
badges_begun None line = []
badges_begun (Some number) line = badges_of_fault number (keys_of_fault number (words_in_line line)) (words_in_line line)

abbrev pub badges_of_line : List ℕ → List Badge
badges_of_line line = badges_begun (number_before_blank line) line

-- those of a text
abbrev pub badges_told : List ℕ → List Badge
badges_told text = flat_map badges_of_line (slice_split is_feed text)

-- what was read shows these, each as often as the text tells it
abbrev pub AreBadgesOf : {A : Type 0} → List ℕ → Faults A → Type 0
AreBadgesOf text faults = IsPermutation (badges_told text) faults.badges.items

-- ---- the words beside a function

abbrev pub badges_beside : {A : Type 0} → Faults A → ℕ → List Badge
badges_beside faults slot = filter (λ badge. badge.slot == slot) faults.badges.items

-- the words show some badges, each once and in their order
pub record ShowBadges (badges : List Badge) (words : List ℕ) : Type 0 where
  pub shown : List Badge
  pub rise : AllPairs (λ one other. rank_of_badge one < rank_of_badge other) shown
  pub same : (badge : Badge) → Contains shown badge ↔ Contains badges badge
  pub says : words ≡ badge_words shown
