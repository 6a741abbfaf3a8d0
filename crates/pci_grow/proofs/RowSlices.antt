-- Rows of one level, and what they hold beside a window.
use Rattle.std.proofs.Common.{◌≡◌, ℕ, ◌<◌, ◌≤◌, List, [], ◌∷◌, ◌++◌, take, drop, length, get_or, Bool, true, false, ◌&&◌, cond, arith, refl, ap, sym, subst, ◌∙◌}
use Rattle.std.specs.Bool.{◌==◌}
use Rattle.std.specs.List.{Contains, filter, flat_map, slice_range}
use Rattle.std.proofs.lemmas.Bool.{and_parts, eqb-true}
use Rattle.std.proofs.lemmas.List.Edits.{split_between}
use Rattle.std.proofs.lemmas.List.Elements.{All-contains, Contains-append_left, Contains-append_right, Contains-get_or}
use Rattle.pci_spec.specs.Slot.{Slot}
use Rattle.pci_spec.specs.Decoded.{Range}
use Rattle.pci_spec.specs.System.{Space}
use Rattle.judge_spec.specs.Told.{ToldRange}
use Rattle.settle_spec.specs.Parts.{are_same_space}
use Rattle.pci_base.specs.Ranges.{decoded_range_of}
use Rattle.pci_base.specs.Space.{space_of}
use Rattle.pci_first_fit.specs.declared.lines.Line.{Line}
use Rattle.pci_grow.specs.OffLines.{pieces, line_keeps_slot_off, rows_beside, HaveRanges}

pub one_level : (p : Line → Bool) (level : ℕ) → ((l : Line) → p l ≡ true → l.level ≡ level) → (l : Line) → p l ≡ true → (level ≤ l.level) × (l.level ≤ level)
one_level p level within l is = let same = within l is in (omega (arith, same), omega (arith, same))

pub slice_ranges : (told : List ToldRange) (lines : List Line) (i j : ℕ) → i ≤ j → HaveRanges told lines → HaveRanges told (slice_range lines i j)
slice_ranges told lines i j order are k d less =
    let l = get_or (slice_range lines i j) k d in
    All-contains (λ (x : Line). x.index < length told) lines l are
    (subst (λ xs. Contains xs l) (sym (split_between lines i j order))
    (Contains-append_right (take i lines) (slice_range lines i j ++ drop j lines) l (Contains-append_left (slice_range lines i j) (drop j lines) l (Contains-get_or (slice_range lines i j) k d less))))

pub none_ranges : (told : List ToldRange) → HaveRanges told []
none_ranges told k d less = absurd (let no : ⊥ = omega (arith, less) in no)

-- what passes a test, piece by piece
flat_if : (p : Line → Bool) (f : Line → List Range) (lines : List Line) → flat_map (λ l. cond (p l) (f l) []) lines ≡ flat_map f (filter p lines)
flat_if p f [] = refl
flat_if p f (l ∷ lines) = ap (λ xs. cond (p l) (f l) [] ++ xs) (flat_if p f lines) ∙ by (p l)
  where
    by : (b : Bool) → cond b (f l) [] ++ flat_map f (filter p lines) ≡ flat_map f (cond b (l ∷ filter p lines) (filter p lines))
    by true = refl
    by false = refl

module _ (told : List ToldRange) (slot : Slot) (level : ℕ) (space : Space) where
  abbrev keeps : Line → Bool
  keeps l = line_keeps_slot_off told slot level space l

  -- what can keep a window off is on its level
  on_it : (l : Line) → keeps l ≡ true → l.level ≡ level
  on_it l is = eqb-true l.level level (and_parts (l.level == level) (are_same_space space (space_of l.space)) (and_parts (l.level == level && are_same_space space (space_of l.space)) _ is).0).0

  pub rows_same : (w : Range) (slice lines : List Line) → ((p : Line → Bool) → ((l : Line) → p l ≡ true → l.level ≡ level) → filter p slice ≡ filter p lines)
      → rows_beside told slot level space w slice ≡ rows_beside told slot level space w lines
  rows_same w slice lines same =
      flat_if keeps (λ l. pieces w (decoded_range_of l.range)) slice
      ∙ ap (flat_map (λ l. pieces w (decoded_range_of l.range))) (same keeps on_it)
      ∙ sym (flat_if keeps (λ l. pieces w (decoded_range_of l.range)) lines)
