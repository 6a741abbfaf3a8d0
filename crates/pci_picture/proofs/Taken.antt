-- The lines of a map while it is read.
use Rattle.std.proofs.Common.{◌≡◌, ◌<◌, ℕ, zero, suc, Bool, true, false, not, IsTrue, List, [], ◌∷◌, ◌++◌, map, drop, length, get_or, refl, sym, ap, subst, ◌∙◌, inl, inr}
use Rattle.std.specs.List.{list_all, All, flat_map, slice_split, onto_first}
use Rattle.std.specs.List.Sorted.{IsPermutation}
use Rattle.std.proofs.lemmas.Bool.{and_parts, cases_Bool}
use Rattle.std.proofs.lemmas.List.{append_assoc, append-nil, map-append}
use Rattle.std.proofs.lemmas.List.Concat.{flat_map-append}
use Rattle.std.proofs.lemmas.List.Elements.{All-head, All-tail, All-cons, All-nil, All-get_or}
use Rattle.std.proofs.lemmas.List.Sorted.{IsPermutation-refl, IsPermutation-trans, IsPermutation-append_left, IsPermutation-append_right, IsPermutation-append_comm}
use Rattle.std.proofs.lemmas.List.Splits.{slice_split-cons_yes, slice_split-cons_no}
use Rattle.pci_picture.specs.Lines.{is_feed, is_one_line, leading_blanks, unindented_line, indented_if_region}
use Rattle.pci_picture.specs.Maps.{lines_of_regions, regions_under}
use Rattle.pci_picture.specs.declared.map.Line.{Line}
use Rattle.pci_picture.specs.declared.region.Region.{Region}

-- ---- lines have no line feed

all_drop : (p : ℕ → Bool) (n : ℕ) (line : List ℕ) → list_all p line ≡ true → list_all p (drop n line) ≡ true
all_drop p zero line all = all
all_drop p (suc n) [] all = refl
all_drop p (suc n) (b ∷ line) all = all_drop p n line ((and_parts (p b) (list_all p line) all).1)

pub content_one_line : (line content : List ℕ) → IsTrue (is_one_line line) → content ≡ unindented_line line → IsTrue (is_one_line content)
content_one_line line content one is =
    subst (λ l. IsTrue (is_one_line l)) (sym is) (all_drop (λ b. not (is_feed b)) (leading_blanks line) line one)

abbrev IsOneLine : List ℕ → Type 0
IsOneLine line = IsTrue (is_one_line line)

onto_one_line : (b : ℕ) (parts : List (List ℕ)) → is_feed b ≡ false → All IsOneLine parts → All IsOneLine (onto_first b parts)
onto_one_line b [] none all = All-cons IsOneLine (b ∷ []) [] (rw none refl) (All-nil IsOneLine)
onto_one_line b (part ∷ parts) none all =
    All-cons IsOneLine (b ∷ part) parts (rw none (All-head IsOneLine part parts all)) (All-tail IsOneLine part parts all)

pub parts_one_line : (text : List ℕ) → All IsOneLine (slice_split is_feed text)
parts_one_line [] = All-cons IsOneLine [] [] refl (All-nil IsOneLine)
parts_one_line (b ∷ text) =
    elim (cases_Bool (is_feed b)) [
      | inl holds ↦ subst (All IsOneLine) (sym (slice_split-cons_yes is_feed b text holds)) (All-cons IsOneLine [] (slice_split is_feed text) refl (parts_one_line text))
      | inr fails ↦ subst (All IsOneLine) (sym (slice_split-cons_no is_feed b text fails)) (onto_one_line b (slice_split is_feed text) fails (parts_one_line text))
    ]

pub part_one_line : (text line : List ℕ) (k : ℕ) → (k < length (slice_split is_feed text)) × (line ≡ get_or (slice_split is_feed text) k line)
    → IsTrue (is_one_line line)
part_one_line text line k at =
    subst IsOneLine (sym at.1) (All-get_or IsOneLine (slice_split is_feed text) k line at.0 (parts_one_line text))

-- ---- one more region

more_line : (lines : List Line) (line : Line) → lines_of_regions (regions_under (lines ++ line ∷ [])) ≡ lines_of_regions (regions_under lines) ++ line.region.line.now ∷ []
more_line lines line =
    ap lines_of_regions (map-append (λ l. l.region) lines (line ∷ [])) ∙ map-append (λ r. r.line.now) (regions_under lines) (line.region ∷ [])

pub put_line : (lines new : List Line) (off : List (List ℕ)) (line : Line) → new ≡ lines ++ line ∷ []
    → IsPermutation ((lines_of_regions (regions_under lines) ++ off) ++ line.region.line.now ∷ []) (lines_of_regions (regions_under new) ++ off)
put_line lines new off line is =
    let before = lines_of_regions (regions_under lines) in
    let one = line.region.line.now ∷ [] in
    subst (λ l. IsPermutation ((before ++ off) ++ one) (l ++ off)) (sym (ap (λ l. lines_of_regions (regions_under l)) is ∙ more_line lines line))
    (subst (λ l. IsPermutation l ((before ++ one) ++ off)) (sym (append_assoc before off one))
    (subst (λ l. IsPermutation (before ++ (off ++ one)) l) (sym (append_assoc before one off))
    (IsPermutation-append_right before (off ++ one) (one ++ off) (IsPermutation-append_comm off one))))

-- ---- one more line

pub more_told : {X : Type 0} (now : X → List ℕ) (lines : List X) (line : X) (bytes : List ℕ) (old new : List (List ℕ)) → bytes ≡ now line
    → IsPermutation (flat_map indented_if_region (map now lines)) old → IsPermutation (old ++ indented_if_region bytes) new
    → IsPermutation (flat_map indented_if_region (map now (lines ++ line ∷ []))) new
more_told now lines line bytes old new same before step =
    let told = flat_map indented_if_region (map now lines) in
    let split : flat_map indented_if_region (map now (lines ++ line ∷ [])) ≡ told ++ indented_if_region bytes =
    ap (flat_map indented_if_region) (map-append now lines (line ∷ []))
    ∙ flat_map-append indented_if_region (map now lines) (now line ∷ [])
    ∙ ap (λ l. told ++ l) (append-nil (indented_if_region (now line)) ∙ ap indented_if_region (sym same)) in
    subst (λ l. IsPermutation l new) (sym split)
    (IsPermutation-trans (told ++ indented_if_region bytes) (old ++ indented_if_region bytes) new
    (IsPermutation-append_left (indented_if_region bytes) told old before) step)

pub none_read : (lines : List Line) (off : List Region) → lines ≡ [] → off ≡ [] → IsPermutation [] (lines_of_regions (regions_under lines) ++ lines_of_regions off)
none_read lines off none nothing =
    subst (λ l. IsPermutation [] (lines_of_regions (regions_under l) ++ lines_of_regions off)) (sym none)
    (subst (λ o. IsPermutation [] (lines_of_regions o)) (sym nothing) (IsPermutation-refl []))
