-- The lines of BARs that are off, and lines below a heading.
use Rattle.std.proofs.Common.{◌≡◌, ℕ, List, [], ◌∷◌, ◌++◌, map, refl, sym, ◌∙◌, ap, subst, codes, Bool, true, false}
use Rattle.std.specs.List.{Contains, flat_map}
use Rattle.std.proofs.lemmas.List.{map-append}
use Rattle.std.proofs.lemmas.List.Folds.{flat_map-map}
use Rattle.std.proofs.lemmas.Simd.{map-map}
use Rattle.pci_spec.specs.Slot.{Slot}
use Rattle.pci_spec.specs.Text.{hex_byte, slot_text}
use Rattle.pci_spec.specs.System.{System, Function, Space, Bar}
use Rattle.pci_spec.specs.Decoded.{Range}
use Rattle.pci_spec.specs.Listing.{kind_space}
use Rattle.pci_spec.specs.Why.{off_bars}
use Rattle.pci_spec.proofs.Members.{in_head, in_map_to}
use Rattle.judge_spec.specs.ToldClaims.{Told}
use Rattle.judge_spec.specs.ToldLine.{register_text}
use Rattle.judge_spec.specs.ToldRegion.{told_extent, off_ranges, name_words}
use Rattle.judge_spec.specs.MapText.{indent, part_name, told_part_name, extent_line, under_heading, map_told_line, map_off_line, map_off_bars_of, map_off_lines_of, map_off_text}
use Rattle.pci_claims.specs.Off.{OffBar, OffTold, OffPart, off_parts_of, all_off_parts, off_part_line}
use Rattle.pci_map.specs.Off.{section}

bar_named : (n : ℕ) (prefetch : Bool) → part_name (Bar n) prefetch ≡ part_name (Bar 0) prefetch
bar_named n true = refl
bar_named n false = refl

-- the line of a BAR, of a space that is told in other words
pub off_pushed : (old new : List ℕ) (slot : Slot) (reg n : ℕ) (space other : Space) (prefetch : Bool) (range : Range)
    → new ≡ old ++ extent_line 1 space range (part_name (Bar n) prefetch ∷ slot_text slot ∷ hex_byte reg ∷ []) → space ≡ other
    → new ≡ old ++ extent_line 1 other range (part_name (Bar 0) prefetch ∷ slot_text slot ∷ hex_byte reg ∷ [])
off_pushed old new slot reg n space other prefetch range pushed same =
    pushed ∙ ap (λ p. old ++ extent_line 1 space range (p ∷ slot_text slot ∷ hex_byte reg ∷ [])) (bar_named n prefetch)
    ∙ ap (λ sp. old ++ extent_line 1 sp range (part_name (Bar 0) prefetch ∷ slot_text slot ∷ hex_byte reg ∷ [])) same

-- ---- below a heading

-- a line that begins with a space
abbrev pub IsSet : List ℕ → Type 0
IsSet line = (rest : List ℕ) × (line ≡ 32 ∷ rest)

pub extent_set : (space : Space) (r : Range) (what : List (List ℕ)) → IsSet (extent_line 1 space r what)
unfolding indent
extent_set space r what = (_, refl)

abbrev whole : List (List ℕ) → List ℕ
whole lines = flat_map (λ text. text) lines

pub section_of : (heading : List ℕ) (lines : List (List ℕ)) → ((line : List ℕ) → Contains lines line → IsSet line) → section heading (whole lines) ≡ under_heading heading lines
section_of heading [] each = refl
section_of heading (line ∷ lines) each =
    let set = each line (in_head line lines) in
    subst (λ l. section heading (whole (l ∷ lines)) ≡ under_heading heading (l ∷ lines)) (sym set.1) refl

-- ---- what is off

abbrev line : OffPart → List ℕ
line p = off_part_line map_off_line (map_told_line 1) p

line_set : (p : OffPart) → IsSet (line p)
line_set (OffBar slot b) = extent_set (kind_space b.kind) b.range (part_name (Bar 0) b.prefetchable ∷ slot_text slot ∷ hex_byte b.register ∷ [])
line_set (OffTold x) = extent_set x.told.space (told_extent x.told) (told_part_name x ∷ slot_text x.told.slot ∷ register_text x.register ∷ name_words x.told.name)

module _ (told : Told) (s : System) where
  lines_of_one : (f : Function) → map line (off_parts_of told s f) ≡ map_off_lines_of told s f
  lines_of_one f =
      let ranges = map OffTold (off_ranges told s f.slot) in
      map-append line (map (OffBar f.slot) (off_bars f)) ranges
      ∙ ap (λ ls. ls ++ map line ranges) (map-map line (OffBar f.slot) (off_bars f))
      ∙ ap (λ ls. map_off_bars_of f ++ ls) (map-map line OffTold (off_ranges told s f.slot))

  lines_of_each : (fs : List Function) → map line (flat_map (off_parts_of told s) fs) ≡ flat_map (map_off_lines_of told s) fs
  lines_of_each [] = refl
  lines_of_each (f ∷ fs) =
      map-append line (off_parts_of told s f) (flat_map (off_parts_of told s) fs)
      ∙ ap (λ ls. ls ++ map line (flat_map (off_parts_of told s) fs)) (lines_of_one f)
      ∙ ap (λ ls. map_off_lines_of told s f ++ ls) (lines_of_each fs)

  pub off_of_parts : section (codes "off") (flat_map line (all_off_parts told s)) ≡ map_off_text told s
  off_of_parts =
      let parts = all_off_parts told s in
      ap (section (codes "off")) (sym (flat_map-map (λ text. text) line parts))
      ∙ section_of (codes "off") (map line parts) (λ l has. (let made = in_map_to line parts l has in subst IsSet made.is (line_set made.from)))
      ∙ ap (under_heading (codes "off")) (lines_of_each s)
