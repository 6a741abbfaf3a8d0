-- The lines of what is off.
use Rattle.std.proofs.Common.{◌≡◌, ℕ, List, [], ◌∷◌, ◌++◌, map, refl, ◌∙◌, ap, codes, Bool}
use Rattle.std.specs.List.{flat_map}
use Rattle.std.proofs.lemmas.List.{append_assoc}
use Rattle.std.proofs.lemmas.List.Folds.{flat_map-map}
use Rattle.std.proofs.lemmas.Grind.{flat_map-append}
use Rattle.pci_spec.specs.Slot.{Slot}
use Rattle.pci_spec.specs.System.{System, Function, Space}
use Rattle.pci_spec.specs.Decoded.{Range}
use Rattle.pci_spec.specs.Listing.{words}
use Rattle.pci_spec.specs.Why.{place_words, off_line, off_bars, off_lines_of}
use Rattle.judge_spec.specs.ToldClaims.{Told}
use Rattle.judge_spec.specs.ToldRegion.{off_ranges}
use Rattle.judge_spec.specs.Why.{range_off_line, all_off_lines_of}
use Rattle.pci_claims.specs.Off.{OffBar, OffTold, OffPart, off_parts_of, off_part_line}
use Rattle.pci_why.specs.RegionLines.{bar_words}

-- the line of a BAR, of a space that is told in other words
pub off_pushed : (start mid last : List ℕ) (slot : Slot) (reg : ℕ) (part : List ℕ) (space other : Space) (prefetch : Bool) (range : Range) → mid ≡ start ++ codes "off"
    → last ≡ mid ++ words (place_words slot reg part space range) → part ≡ bar_words space prefetch → space ≡ other
    → last ≡ start ++ (codes "off" ++ words (place_words slot reg (bar_words other prefetch) other range))
off_pushed start mid last slot reg part space other prefetch range first pushed is same =
    pushed ∙ ap (λ t. t ++ words (place_words slot reg part space range)) first
    ∙ append_assoc start (codes "off") (words (place_words slot reg part space range))
    ∙ ap (λ p. start ++ (codes "off" ++ words (place_words slot reg p space range))) is
    ∙ ap (λ s. start ++ (codes "off" ++ words (place_words slot reg (bar_words s prefetch) s range))) same

module _ (told : Told) (s : System) where
  abbrev line : OffPart → List ℕ
  line p = off_part_line off_line range_off_line p

  lines_of_one : (f : Function) → flat_map line (off_parts_of told s f) ≡ all_off_lines_of told s f
  lines_of_one f =
      let ranges = map OffTold (off_ranges told s f.slot) in
      flat_map-append line (map (OffBar f.slot) (off_bars f)) ranges
      ∙ ap (λ t. t ++ flat_map line ranges) (flat_map-map line (OffBar f.slot) (off_bars f))
      ∙ ap (λ t. off_lines_of f ++ t) (flat_map-map line OffTold (off_ranges told s f.slot))

  pub lines_of_parts : (fs : List Function) → flat_map line (flat_map (off_parts_of told s) fs) ≡ flat_map (all_off_lines_of told s) fs
  lines_of_parts [] = refl
  lines_of_parts (f ∷ fs) =
      let rest = flat_map (off_parts_of told s) fs in
      flat_map-append line (off_parts_of told s f) rest
      ∙ ap (λ t. t ++ flat_map line rest) (lines_of_one f)
      ∙ ap (λ t. all_off_lines_of told s f ++ t) (lines_of_parts fs)
