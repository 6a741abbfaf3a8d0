-- Bridges with palette parts, and bridges that take what nobody claims, as they are taken.
use Rattle.std.proofs.Common.{◌≡◌, ℕ, [], ◌∷◌, refl, true, false, map}
use Rattle.pci_spec.specs.Header.{command}
use Rattle.pci_spec.specs.System.{Function, System, is_bridge}
use Rattle.pci_spec.specs.Fault.{is_subtractive_bridge}
use Rattle.pci_spec.proofs.Examples.Samples.{bridge, device, slot}
use Rattle.judge_spec.specs.ModelWords.{Words, no_words}
use Rattle.judge_spec.specs.Taken.{bridge_aside, first_aside, fixed_parts_by, parts_aside, taking_by, unclaimed_aside_by}

abbrev snoop_counts : Words
snoop_counts = record no_words { snoop = true }

abbrev with_unnumbered : Words
with_unnumbered = record snoop_counts { unnumbered = true }

-- VGA Palette Snoop of a device goes, too, and other bits of Command stay
bits_aside : map (λ w. command (first_aside w (device (slot 0 2 0) 0x0127 [] [])).image) (snoop_counts ∷ no_words ∷ []) ≡ 0x0107 ∷ 0x0127 ∷ []
bits_aside = refl

-- a bridge without bus numbers, its memory window closed, by Command
abbrev without_numbers : ℕ → Function
without_numbers command = bridge (slot 0 1 0) command 0 ((0x20, 0x0000fff0) ∷ []) []

abbrev taken_by : Words → Function → Function
taken_by w f = parts_aside w (fixed_parts_by w f) (bridge_aside w [] (first_aside w f))

-- it stays a bridge where its palette part answers, which has ports alone
stays_a_bridge : map (λ command. is_bridge (taken_by with_unnumbered (without_numbers command))) (0x0021 ∷ 0x0023 ∷ 0x0022 ∷ 0x0020 ∷ 0x0001 ∷ []) ≡ true ∷ true ∷ false ∷ false ∷ false ∷ []
stays_a_bridge = refl

-- ---- unclaimed

abbrev unclaimed_counts : Words
unclaimed_counts = record no_words { unclaimed = true }

abbrev with_subtractive : Words
with_subtractive = record unclaimed_counts { subtractive = true }

abbrev subtractive : ℕ → Function
subtractive d = bridge (slot 0 d 0) 2 0x010100 ((0x08, 0x06040100) ∷ []) []

abbrev in_use : System
in_use = subtractive 30 ∷ device (slot 1 0 0) 0 [] [] ∷ []

abbrev none_behind : System
none_behind = subtractive 30 ∷ []

-- where nothing is listed behind it, it takes nothing by both words
takes : map (λ w. taking_by w in_use) (unclaimed_counts ∷ with_subtractive ∷ no_words ∷ []) ≡ (slot 0 30 0 ∷ []) ∷ (slot 0 30 0 ∷ []) ∷ [] ∷ []
takes = refl

takes_for_nobody : map (λ w. taking_by w none_behind) (unclaimed_counts ∷ with_subtractive ∷ []) ≡ (slot 0 30 0 ∷ []) ∷ [] ∷ []
takes_for_nobody = refl

two_on_a_bus : taking_by unclaimed_counts (subtractive 29 ∷ subtractive 30 ∷ []) ≡ []
two_on_a_bus = refl

-- it decodes its windows alone as it is taken
positive : map (λ w. map (λ f. is_subtractive_bridge f.image) (unclaimed_aside_by w in_use)) (unclaimed_counts ∷ no_words ∷ []) ≡ (false ∷ false ∷ []) ∷ (true ∷ false ∷ []) ∷ []
positive = refl
