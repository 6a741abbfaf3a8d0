-- How many regions of functions a map has, and its counts in words.
use Rattle.std.proofs.Common.{◌≡◌, ◌<◌, ◌+◌, ◌==◌, ◌&&◌, not, ℕ, Bool, true, false, refl, cond, List, [], ◌++◌, codes, map, take, length, get_or, sym, ap, ap₂, ◌∙◌, arith}
use Rattle.std.specs.Fmt.{decimal}
use Rattle.std.specs.List.{filter}
use Rattle.std.proofs.lemmas.List.{get_or-map, length-map}
use Rattle.std.proofs.lemmas.List.Elements.{filter_agree}
use Rattle.std.proofs.lemmas.List.Filters.{length-filter_more}
use Rattle.pci_picture.specs.Counts.{count_of_faults, count_of_regions, is_counted_region, words_of_counts}
use Rattle.pci_picture.specs.Headings.{Headed, is_below_heading, is_below_no_heading, is_in_section}
use Rattle.pci_picture.specs.Lines.{words_in_line}
use Rattle.pci_picture.specs.Maps.{headed_line}
use Rattle.pci_picture.specs.Marks.{key_of_region}
use Rattle.pci_picture.specs.declared.map.Heading.{Heading}
use Rattle.pci_picture.specs.declared.map.Heading.TheVariants.{Section as InSection, Lost, Off}
use Rattle.pci_picture.specs.declared.map.Line.{Line}
use Rattle.pci_picture.proofs.Filtered.{filter_twice}

-- one line more
pub count_more : (lines : List Line) (i : ℕ) (line : Line) → i < length lines → line ≡ get_or lines i line
    → count_of_regions (take (i + 1) (map headed_line lines))
    ≡ count_of_regions (take i (map headed_line lines)) + cond (is_counted_region (headed_line line)) 1 0
count_more lines i line inside at =
    let long = length-map lines headed_line in
    length-filter_more is_counted_region (map headed_line lines) i (headed_line line) (omega (arith, inside, long))
    ∙ ap (λ r. count_of_regions (take i (map headed_line lines)) + cond (is_counted_region r) 1 0)
    (get_or-map headed_line lines i line (headed_line line) inside ∙ ap headed_line (sym at))

-- the words, one behind the other
pub counts_put : (functions regions faults f r n : ℕ) (none one two three four five six : List ℕ) → f ≡ functions → r ≡ regions → n ≡ faults → none ≡ []
    → one ≡ none ++ decimal f → two ≡ one ++ codes " functions, " → three ≡ two ++ decimal r → four ≡ three ++ codes " regions; "
    → five ≡ four ++ count_of_faults n → six ≡ five ++ codes ". Heights grow with the logarithm of sizes."
    → six ≡ words_of_counts functions regions faults
counts_put functions regions faults f r n none one two three four five six is_f is_r is_n is_none is_one is_two is_three is_four is_five is_six =
    is_six
    ∙ ap (λ l. l ++ codes ". Heights grow with the logarithm of sizes.")
    (is_five
    ∙ ap (λ l. l ++ count_of_faults n)
    (is_four
    ∙ ap (λ l. l ++ codes " regions; ")
    (is_three ∙ ap (λ l. l ++ decimal r) (is_two ∙ ap (λ l. l ++ codes " functions, ") (is_one ∙ ap (λ l. l ++ decimal f) is_none)))))
    ∙ ap₂ (λ a b. words_of_counts a b n) is_f is_r
    ∙ ap (words_of_counts functions regions) is_n

-- those in sections stand below headings
counted_below : (heading : Heading) (has_key : Bool) → ((is_in_section heading && has_key) && not (is_below_no_heading heading)) ≡ (is_in_section heading && has_key)
counted_below (InSection m) true = refl
counted_below (InSection m) false = refl
counted_below Lost true = refl
counted_below Lost false = refl
counted_below Off true = refl
counted_below Off false = refl

pub counted_kept : (regions : List Headed) → count_of_regions (filter is_below_heading regions) ≡ count_of_regions regions
counted_kept regions =
    ap length
    (filter_twice is_counted_region is_below_heading regions
    ∙ filter_agree (λ region. is_counted_region region && is_below_heading region) is_counted_region
    (λ region. counted_below region.heading (not (key_of_region (words_in_line region.line) == 0))) regions)
