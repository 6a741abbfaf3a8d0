-- Row by row, and in a row part by part.
use Rattle.std.proofs.Common.{◌≡◌, ℕ, ◌+◌, ◌<◌, ◌≤◌, List, [], ◌∷◌, ◌++◌, length, take, get_or, ap, sym, subst, ◌∙◌, Option, None}
use Rattle.std.specs.Option.{option_map}
use Rattle.std.proofs.lemmas.List.{take_more, get_or_default, append-nil}
use Rattle.std.proofs.lemmas.List.Concat.{flat_map-append}
use Rattle.pci_spec.specs.System.{System}
use Rattle.settle_spec.specs.Lists.{Request}
use Rattle.settle_spec.specs.Growth.{range_list, there}
use Rattle.pci_base.specs.declared.range.Range.{Range}
use Rattle.pci_base.specs.Ranges.{decoded_range_of}
use Rattle.pci_kept.specs.declared.region.Region.{Region}
use Rattle.pci_kept.specs.Known.{region_value}
use Rattle.pci_grow.specs.There.{Tables, in_row, range_told, later_range_end}
use Rattle.pci_grow.specs.Telling.{Setting, IsGrowing, IsNext, IsNextOfSome, IsRowOfSome, IsBegunOfSome, IsLatest, there_among, AreToldTo, AreToldFrom, IsNothingGrown, AreThere}
use Rattle.pci_grow.proofs.Begun.{begun_told}
use Rattle.pci_grow.proofs.Clearing.{latest_none, latest_more}
use Rattle.pci_grow.proofs.InRows.{v_known, v_listed, v_stands, done_here}
use Rattle.pci_grow.proofs.Stepping.{row_begins, row_ends, told_all}
use Rattle.pci_grow.proofs.Told.{told_is}

-- its function is one of the system's
pub next_inside : (q : Request) (p : Setting) (number count : ℕ) (t : Tables) (r : Region) → IsNext q p number count t r → r.function < length p.classing.system
next_inside q p number count t r next = (v_known q p.classing.system next.growing.system next.growing.nested p.rows next.growing.rows number count r next.within next.at).within

-- what the parts before tell, as far as the row is gone over
pub record IsTowards (p : Setting) (number i : ℕ) (from t : Tables) (end : Option ℕ) (row : List Region) : Type 0 where
  pub told : (q : Request) → IsGrowing q p → AreToldFrom q p.classing.system (number + 1) from → AreToldTo q p.classing.system p.rows number i t
  pub latest : (q : Request) → IsGrowing q p → AreToldFrom q p.classing.system (number + 1) from → IsLatest (there_among q p.classing.system (take i row)) end

pub towards_first : (p : Setting) (number : ℕ) (from : Tables) (row : List Region) → IsTowards p number 0 from from None row
towards_first p number from row = record {
  told = λ q growing told. row_begins q p.classing.system growing.system growing.nested p.rows growing.rows number from told;
  latest = λ q growing told. latest_none;
}

module _ (p : Setting) (number i : ℕ) (from t : Tables) (end : Option ℕ) (row : List Region) (row_is : row ≡ in_row number p.rows) (to : IsTowards p number i from t end row) (within : i < length row) (d : Region) where
  abbrev r : Region
  r = get_or row i d

  pub next_of : (q : Request) → IsGrowing q p → AreToldFrom q p.classing.system (number + 1) from → IsNext q p number i t r
  next_of q growing told = record {
    growing = growing;
    told = to.told q growing told;
    within = subst (λ rs. i < length rs) row_is within;
    at = subst (λ rs. get_or rs i r ≡ r) row_is (get_or_default row i r d within);
  }

  pub some_next : IsRowOfSome p number from → IsNextOfSome p t r
  some_next some = record { request = some.request; number = number; count = i; is = next_of some.request some.growing some.told }

  pub some_inside : IsRowOfSome p number from → r.function < length p.classing.system
  some_inside some = next_inside some.request p number i t r (next_of some.request some.growing some.told)

  -- one part more
  pub towards_more : (new : Tables) → ((q : Request) (n count : ℕ) → IsNext q p n count t r → IsLatest (there_among q p.classing.system (take count (in_row n p.rows))) end → AreToldTo q p.classing.system p.rows n (count + 1) new)
      → (o : Option Range) → o ≡ range_told new r → (last : Option ℕ) → last ≡ later_range_end end o → IsTowards p number (i + 1) from new last row
  towards_more new noted o o_is last last_is = record { told = more; latest = λ q growing told. subst (IsLatest (there_among q p.classing.system (take (i + 1) row))) (sym last_is) (later q growing told) }
    where
      more : (q : Request) → IsGrowing q p → AreToldFrom q p.classing.system (number + 1) from → AreToldTo q p.classing.system p.rows number (i + 1) new
      more q growing told = noted q number i (next_of q growing told) (subst (λ rs. IsLatest (there_among q p.classing.system (take i rs)) end) row_is (to.latest q growing told))

      later : (q : Request) → IsGrowing q p → AreToldFrom q p.classing.system (number + 1) from → IsLatest (there_among q p.classing.system (take (i + 1) row)) (later_range_end end o)
      later q growing told =
          let s : System = p.classing.system in
          let next = next_of q growing told in
          let known = v_known q s growing.system growing.nested p.rows growing.rows number i r next.within next.at in
          let here = ((more q growing told).each (region_value s r) (v_listed q s growing.system growing.nested p.rows growing.rows number i r next.within next.at)
          (v_stands q s growing.system growing.nested p.rows growing.rows number i r next.within next.at) (done_here q s growing.system growing.nested p.rows growing.rows number i r next.within next.at)).there_is in
          let is : there q s (region_value s r) ≡ option_map decoded_range_of o = sym here ∙ sym (told_is s growing.system new q r known) ∙ ap (option_map decoded_range_of) (sym o_is) in
          let so_far = there_among q s (take i row) in
          let list : there_among q s (take (i + 1) row) ≡ so_far ++ range_list (there q s (region_value s r)) =
          ap (there_among q s) (take_more row i d within)
          ∙ flat_map-append (λ x. range_list (there q s (region_value s x))) (take i row) (r ∷ [])
          ∙ ap (λ xs. so_far ++ xs) (append-nil (range_list (there q s (region_value s r)))) in
          subst (λ xs. IsLatest xs (later_range_end end o)) (sym list) (latest_more so_far end o (there q s (region_value s r)) is (to.latest q growing told))

-- a whole row
pub towards_end : (p : Setting) (number i : ℕ) (from t : Tables) (end : Option ℕ) (row : List Region) → row ≡ in_row number p.rows → IsTowards p number i from t end row → length row ≤ i
    → (q : Request) → IsGrowing q p → AreToldFrom q p.classing.system (number + 1) from → AreToldFrom q p.classing.system number t
towards_end p number i from t end row row_is to past q growing told =
    row_ends q p.classing.system growing.system growing.nested p.rows growing.rows number i t (subst (λ rs. length rs ≤ i) row_is past) (to.told q growing told)

-- ---- all rows

pub record IsDownTo (p : Setting) (number : ℕ) (from t : Tables) : Type 0 where
  pub told : (q : Request) → IsGrowing q p → IsNothingGrown q p.classing.system from → AreToldFrom q p.classing.system number t

pub down_first : (p : Setting) (from : Tables) → IsDownTo p 514 from from
down_first p from = record { told = λ q growing begun. begun_told q p.classing.system growing.system growing.nested from begun }

pub some_row : (p : Setting) (number above : ℕ) (from t : Tables) → above ≡ number + 1 → IsDownTo p above from t → IsBegunOfSome p from → IsRowOfSome p number t
some_row p number above from t next down some = record {
  request = some.request;
  growing = some.growing;
  told = subst (λ n. AreToldFrom some.request p.classing.system n t) next (down.told some.request some.growing some.begun);
}

pub down_more : (p : Setting) (number above : ℕ) (from t new : Tables) → above ≡ number + 1 → IsDownTo p above from t
    → ((q : Request) → IsGrowing q p → AreToldFrom q p.classing.system (number + 1) t → AreToldFrom q p.classing.system number new) → IsDownTo p number from new
down_more p number above from t new next down row = record {
  told = λ q growing begun. row q growing (subst (λ n. AreToldFrom q p.classing.system n t) next (down.told q growing begun));
}

pub down_end : (p : Setting) (number : ℕ) (from t : Tables) → number ≡ 0 → IsDownTo p number from t → (q : Request) → IsGrowing q p → IsNothingGrown q p.classing.system from → AreThere q p.classing.system t
down_end p number from t none down q growing begun =
    told_all q p.classing.system growing.system growing.nested t (subst (λ n. AreToldFrom q p.classing.system n t) none (down.told q growing begun))
