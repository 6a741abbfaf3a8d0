-- The deepest line of a map, and whether it has lines of told ranges or out of place.
use Rattle.std.proofs.Common.{◌≡◌, ◌<◌, ◌+◌, ◌||◌, ℕ, true, false, cond, List, [], ◌∷◌, ◌++◌, map, take, fold, max, length, get_or, Option, Some, None, refl, sym, ap, ap₂, ◌∙◌, arith}
use Rattle.std.specs.List.{filter, list_any}
use Rattle.std.specs.Option.{is_none, is_some}
use Rattle.std.proofs.lemmas.List.{map_more}
use Rattle.std.proofs.lemmas.List.Sums.{fold-append}
use Rattle.std.proofs.lemmas.List.Elements.{filter-append}
use Rattle.std.proofs.lemmas.List.Folds.{list_any-append}
use Rattle.pci_picture.specs.Columns.{deepest}
use Rattle.pci_picture.specs.Headings.{Headed, is_in_section, is_lost}
use Rattle.pci_picture.specs.Lines.{is_told_line}
use Rattle.pci_picture.specs.Maps.{headed_line, heading_in, lines_of_regions, regions_under}
use Rattle.pci_picture.specs.declared.map.Line.{Line}
use Rattle.pci_picture.specs.declared.region.Region.{Region}
use Rattle.pci_picture.proofs.Marks.{any_of_map}

abbrev deeper : ℕ → Headed → ℕ
deeper depth region = max depth region.depth

pub some_in_section : (section : Option ℕ) → is_some section ≡ is_in_section (heading_in section)
some_in_section None = refl
some_in_section (Some number) = refl

pub none_lost : (section : Option ℕ) → is_none section ≡ is_lost (heading_in section)
none_lost None = refl
none_lost (Some number) = refl

pub max_other : (a b : ℕ) → max a b ≡ max b a
max_other a b = omega arith

-- one line more
pub deepest_more : (lines : List Line) (i : ℕ) (line : Line) → i < length lines → line ≡ get_or lines i line
    → deepest (map headed_line (take (i + 1) lines))
    ≡ cond (is_in_section (headed_line line).heading) (max (deepest (map headed_line (take i lines))) line.region.depth) (deepest (map headed_line (take i lines)))
deepest_more lines i line inside at =
    let front = map headed_line (take i lines) in
    ap deepest (map_more headed_line lines i line inside ∙ ap (λ l. front ++ headed_line l ∷ []) (sym at))
    ∙ ap (fold deeper 1) (filter-append (λ (region : Headed). is_in_section region.heading) front (headed_line line ∷ []))
    ∙ fold-append deeper 1 (filter (λ (region : Headed). is_in_section region.heading) front) (filter (λ (region : Headed). is_in_section region.heading) (headed_line line ∷ []))
    ∙ (elim (is_in_section (headed_line line).heading) as (λ b. fold deeper (deepest front) (cond b (headed_line line ∷ []) [])
    ≡ cond b (max (deepest front) line.region.depth) (deepest front)) [
      | true ↦ refl
      | false ↦ refl
    ])

pub told_lines : (lines : List Line) (off : List Region)
    → (list_any (λ (line : Line). is_told_line line.region.line.now) lines || list_any (λ (region : Region). is_told_line region.line.now) off)
    ≡ list_any is_told_line (lines_of_regions (regions_under lines) ++ lines_of_regions off)
told_lines lines off =
    sym (list_any-append is_told_line (lines_of_regions (regions_under lines)) (lines_of_regions off)
    ∙ ap₂ (λ a b. a || b)
    (any_of_map is_told_line (λ (region : Region). region.line.now) (regions_under lines) ∙ any_of_map (λ (region : Region). is_told_line region.line.now) (λ (line : Line). line.region) lines)
    (any_of_map is_told_line (λ (region : Region). region.line.now) off))
