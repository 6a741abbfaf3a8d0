-- What is taken where room is looked for, in one list in order.
use Rattle.std.proofs.Common.{◌≡◌, ℕ, ◌+◌, ◌<◌, List, [], ◌∷◌, ◌++◌, append_assoc, map, ap, sym, subst, ◌∙◌, refl}
use Rattle.std.specs.List.{sum_by}
use Rattle.std.specs.List.Sorted.{IsPermutation}
use Rattle.std.proofs.lemmas.List.Sorted.{IsPermutation-refl, sum_by-IsPermutation}
use Rattle.std.proofs.lemmas.List.Sums.{sum_by-append, sum_by-cons}
use Rattle.pci_spec.specs.Decoded.{Range as DecodedRange}
use Rattle.pci_spec.specs.System.{System, Space}
use Rattle.settle_spec.specs.Lists.{Request}
use Rattle.settle_spec.specs.Lines.{lines_on}
use Rattle.settle_spec.specs.Kept.{Kept}
use Rattle.settle_spec.specs.Wishes.{there_then, taken_then}
use Rattle.pci_base.specs.declared.range.Range.{Range}
use Rattle.pci_base.specs.Ranges.{decoded_range_of}
use Rattle.pci_first_fit.specs.Lines.{AreLines, AreAdded}
use Rattle.pci_first_fit.proofs.Rows.{added_on}
use Rattle.pci_tree.specs.Roots.{buses_of}
use Rattle.pci_grow.specs.declared.board.Board.{Board}
use Rattle.pci_grow.specs.RoomRows.{total, HasRanges, bus_level, row_number, row_at}
use Rattle.pci_grow.specs.Board.{Room, IsRoomOfKept}

sum_map : (weight : DecodedRange → ℕ) (xs : List Range) → sum_by weight (map decoded_range_of xs) ≡ total weight xs
sum_map weight [] = refl
sum_map weight (x ∷ xs) =
    sum_by-cons weight (decoded_range_of x) (map decoded_range_of xs) ∙ ap (λ n. weight (decoded_range_of x) + n) (sum_map weight xs)
    ∙ sym (sum_by-cons (λ (r : Range). weight (decoded_range_of r)) x xs)

-- ranges that were added
pub has_added : (old new : List Range) (ranges more : List DecodedRange) → HasRanges old ranges → AreAdded old new more → HasRanges new (ranges ++ more)
has_added old new ranges more has added weight =
    ap (total weight) added.put
    ∙ sum_by-append (λ (r : Range). weight (decoded_range_of r)) old added.added
    ∙ ap (λ n. n + total weight added.added) (has weight)
    ∙ ap (λ n. sum_by weight ranges + n) (sym (sum_map weight added.added) ∙ sum_by-IsPermutation weight more (map decoded_range_of added.added) added.same)
    ∙ sym (sum_by-append weight ranges more)

-- those of another list
pub has_more : (old new more : List Range) (ranges others : List DecodedRange) → HasRanges old ranges → new ≡ old ++ more → HasRanges more others → HasRanges new (ranges ++ others)
has_more old new more ranges others has put rest weight =
    ap (total weight) put
    ∙ sum_by-append (λ (r : Range). weight (decoded_range_of r)) old more
    ∙ ap (λ n. n + total weight more) (has weight)
    ∙ ap (λ n. sum_by weight ranges + n) (rest weight)
    ∙ sym (sum_by-append weight ranges others)

pub has_sorted : (old new : List Range) (ranges : List DecodedRange) → HasRanges old ranges → IsPermutation old new → HasRanges new ranges
has_sorted old new ranges has moved weight = sum_by-IsPermutation (λ (r : Range). weight (decoded_range_of r)) old new moved ∙ has weight

pub has_none : (ranges : List Range) → ranges ≡ [] → HasRanges ranges []
has_none ranges none weight = ap (total weight) none

-- all that is taken on a bus
module _ (q : Request) (s : System) (k : Kept) (b : Board) (room : Room) (told : IsRoomOfKept q s k b room) (bus : ℕ) (small : bus < 256) (space : Space) where
  pub taken_is : (none first second third sorted behind row : List Range) (held : List DecodedRange) (n : ℕ) → HasRanges behind held → none ≡ [] → first ≡ none ++ behind → AreAdded first second (lines_on q space bus)
      → n ≡ row_number (bus_level (buses_of b.roots.now) bus) space → row ≡ row_at room.rows n → third ≡ second ++ row → IsPermutation third sorted → HasRanges sorted (held ++ taken_then q s k space bus)
  taken_is none first second third sorted behind row held n has empty put added n_is row_is more moved =
      subst (HasRanges sorted) (append_assoc held (lines_on q space bus) (there_then q s k space bus))
      (has_sorted third sorted ((held ++ lines_on q space bus) ++ there_then q s k space bus)
      (has_more second third row (held ++ lines_on q space bus) (there_then q s k space bus)
      (has_added first second held (lines_on q space bus) (has_more none first behind [] held (has_none none empty) put has) added)
      more
      (subst (λ xs. HasRanges xs (there_then q s k space bus))
      (sym (row_is ∙ ap (row_at room.rows) (n_is ∙ ap (λ roots. row_number (bus_level roots bus) space) (sym told.asked.roots))))
      (told.rows space bus small)))
      moved)

  -- nothing but what is there
  pub plain_is : (behind row : List Range) (held : List DecodedRange) (n : ℕ) → HasRanges behind held → b.lines.now ≡ [] → behind ≡ []
      → n ≡ row_number (bus_level (buses_of b.roots.now) bus) space → row ≡ row_at room.rows n → HasRanges row (held ++ taken_then q s k space bus)
  plain_is behind row held n has untold empty n_is row_is =
      taken_is [] [] [] row row behind row held n has refl (sym empty)
      (added_on q bus (bus_level q.roots bus) space [] [] [] (subst (AreLines q.roots q.told.ranges) untold told.asked.told) refl refl)
      n_is row_is refl (IsPermutation-refl row)
