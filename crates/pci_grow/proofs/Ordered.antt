-- What is there in a row that is done lies in order: each part ends before those behind it in the row begin.
use Rattle.std.proofs.Common.{◌≡◌, ◌≢◌, ℕ, ◌<◌, ◌≤◌, inl, inr, List, [], get_or, arith, ap, sym, ◌∙◌, Option, None, Some}
use Rattle.std.specs.List.{AllPairs, Contains}
use Rattle.std.specs.Option.{option_map}
use Rattle.std.proofs.lemmas.List.Elements.{Contains-get_or}
use Rattle.pci_spec.specs.Decoded.{Range as DecodedRange}
use Rattle.pci_spec.specs.System.{System, IsSystem}
use Rattle.pci_spec.specs.Bus.{IsNested}
use Rattle.pci_spec.proofs.Members.{IsInPiece, in_nil, in_flat_map_to, pairs_nil, pairs_cons, pairs_flat_map}
use Rattle.settle_spec.specs.Lists.{Request}
use Rattle.settle_spec.specs.Parts.{FunctionPart, addresses}
use Rattle.settle_spec.specs.Stands.{rank}
use Rattle.settle_spec.specs.Growth.{there}
use Rattle.settle_spec.proofs.Reaching.{ends_apart}
use Rattle.settle_laws.proofs.KeptTaken.{items_aligned}
use Rattle.settle_spec.specs.Kept.{growing}
use Rattle.settle_laws.specs.Reach.{WindowsAreLow}
use Rattle.settle_laws.proofs.ThereApart.{there_is_apart}
use Rattle.pci_base.specs.declared.range.Range.{Range}
use Rattle.pci_base.specs.Ranges.{decoded_range_of}
use Rattle.pci_kept.specs.declared.region.Region.{Region}
use Rattle.pci_kept.specs.Boards.{IsKnown}
use Rattle.pci_kept.specs.Known.{region_value}
use Rattle.pci_grow.specs.Arounds.{AreRisingAtBothEnds}
use Rattle.pci_grow.specs.Rows.{IsInRowOrder}
use Rattle.pci_grow.specs.There.{Tables, in_row, range_told, listed, there_of, there_told}
use Rattle.pci_grow.specs.Telling.{AreStandingRows}
use Rattle.pci_grow.proofs.Clearing.{there_holds}
use Rattle.pci_grow.proofs.InRows.{rank_one, known_in, of_row, part_in_row, order, lower_in}
use Rattle.pci_grow.proofs.Told.{told_is, region_range, row_beside, in_listed}

-- ranges each of which ends before the next ones begin
in_order : (xs : List Range) → ((x : Range) → Contains xs x → x.first ≤ x.last) → AllPairs (λ (x y : Range). x.last < y.first) xs → AreRisingAtBothEnds xs
in_order xs forward apart = record {
  rising = record {
    order = λ j k d less within. (
        let a = apart j k d less within in
        let f = forward (get_or xs j d) (Contains-get_or xs j d (omega (arith, less, within))) in
        omega (arith, a, f));
    forward = λ k d within. forward (get_or xs k d) (Contains-get_or xs k d within);
  };
  lasts = λ j k d less within. (
      let a = apart j k d less within in
      let f = forward (get_or xs k d) (Contains-get_or xs k d within) in
      omega (arith, a, f));
}

one_listed : (o : Option Range) → AllPairs (λ (x y : Range). x.last < y.first) (listed o)
one_listed None = pairs_nil (λ (x y : Range). x.last < y.first)
one_listed (Some r) = pairs_cons (λ (x y : Range). x.last < y.first) r [] (λ y has. absurd (in_nil y has)) (pairs_nil (λ (x y : Range). x.last < y.first))

module _ (q : Request) (s : System) (system : IsSystem s) (nested : IsNested q.roots s) (low : WindowsAreLow q s) (rows : List Region) (are : AreStandingRows q s rows) (t : Tables) (number : ℕ)
    (told : (r : Region) → Contains (in_row number rows) r → there_told s t (region_value s r) ≡ there q s (region_value s r)) where
  abbrev row : List Region
  row = in_row number rows

  abbrev value : Region → FunctionPart
  value r = region_value s r

  known : (r : Region) → Contains row r → IsKnown q s r
  known r has = known_in q s system nested rows are r (of_row q s system nested rows are number r has).0

  there_is : (r : Region) → Contains row r → (x : Range) → Contains (listed (range_told t r)) x → there q s (value r) ≡ Some (decoded_range_of x)
  there_is r has x piece =
      sym (told r has) ∙ sym (told_is s system t q r (known r has)) ∙ ap (option_map decoded_range_of) (in_listed (range_told t r) x piece)

  pair : (r u : Region) (x y : Range) → Contains row r → Contains row u → IsInRowOrder (λ r. rank (value r)) r u → Contains (listed (range_told t r)) x → Contains (listed (range_told t u)) y → x.last < y.first
  pair r u x y in_r in_u before has_x has_y =
      let kr = known r in_r in
      let ku = known u in_u in
      let is_x = there_is r in_r x has_x in
      let is_y = there_is u in_u y has_y in
      let own_x = there_holds q s system nested (value r) (decoded_range_of x) kr.listed is_x in
      let own_y = there_holds q s system nested (value u) (decoded_range_of y) ku.listed is_y in
      let less = lower_in q s system nested rows are number r u in_r in_u before in
      let forward_r = kr.forward in
      let forward_u = ku.forward in
      let first_r : r.range.first ≡ (addresses (value r)).first = ap (λ (d : DecodedRange). d.first) (region_range q s r kr) in
      let last_u : u.range.last ≡ (addresses (value u)).last = ap (λ (d : DecodedRange). d.last) (region_range q s u ku) in
      let differ : rank (value r) ≢ rank (value u) = λ same. (
      let one = rank_one q s system (value r) (value u) kr.listed ku.listed same in
      let first : r.range.first ≡ u.range.first = ap (λ (d : DecodedRange). d.first) (region_range q s r kr ∙ ap addresses one ∙ sym (region_range q s u ku)) in
      let no : ⊥ = omega (arith, less, first, forward_r) in no) in
      let apart =
      ends_apart (decoded_range_of x) (decoded_range_of y)
      (there_is_apart q s system nested low (items_aligned q s (growing q s)) (value r) (value u) (decoded_range_of x) (decoded_range_of y) kr.listed ku.listed
      (row_beside q (value r) (value u) (part_in_row q s system nested rows are number r in_r ∙ sym (part_in_row q s system nested rows are number u in_u))) differ is_x is_y) in
      let first_x = own_x.first in
      let last_y = own_y.last in
      elim apart [
        | inl under ↦ under
        | inr over ↦ absurd (let no : ⊥ = omega (arith, over, first_x, last_y, less, forward_r, forward_u, first_r, last_u) in no)
      ]

  forward : (x : Range) → Contains (there_of t row) x → x.first ≤ x.last
  forward x has =
      let piece : IsInPiece (λ r. listed (range_told t r)) row x = in_flat_map_to (λ r. listed (range_told t r)) row x has in
      let r = piece.of in
      let kr = known r piece.has in
      let own = there_holds q s system nested (value r) (decoded_range_of x) kr.listed (there_is r piece.has x piece.piece) in
      let first = own.first in
      let last = own.last in
      let up = kr.forward in
      let first_r : r.range.first ≡ (addresses (value r)).first = ap (λ (d : DecodedRange). d.first) (region_range q s r kr) in
      let last_r : r.range.last ≡ (addresses (value r)).last = ap (λ (d : DecodedRange). d.last) (region_range q s r kr) in
      omega (arith, first, last, up, first_r, last_r)

  pub there_in_order : AreRisingAtBothEnds (there_of t row)
  there_in_order =
      in_order (there_of t row) forward
      (pairs_flat_map (IsInRowOrder (λ r. rank (value r))) (λ (x y : Range). x.last < y.first) (λ r. listed (range_told t r)) row (order q s system nested rows are number)
      (λ r has. one_listed (range_told t r))
      (λ r u x y in_r in_u before has_x has_y. pair r u x y in_r in_u before has_x has_y))
