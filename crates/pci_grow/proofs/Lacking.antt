-- Items around a window have places, or one of them has none.
use Rattle.std.proofs.Common.{◌≡◌, ℕ, zero, suc, ◌<◌, List, [], ◌∷◌, map, length, drop, true, false, arith, refl, ap, sym, subst, ◌∙◌, Some, None, Option, IfSome, IfNone, is_some}
use Rattle.std.proofs.lemmas.Bool.{false≢true}
use Rattle.pci_spec.specs.Decoded.{Range as DecodedRange}
use Rattle.settle_spec.specs.Items.{PlacingItem as ItemValue, are_placed, place_each}
use Rattle.pci_base.specs.declared.range.Range.{Range}
use Rattle.pci_base.specs.Ranges.{decoded_range_of}
use Rattle.pci_first_fit.specs.declared.item.Item.{Item}
use Rattle.pci_first_fit.specs.Placings.{lacks_first, placing_of}
use Rattle.pci_grow.specs.declared.around.Around.{Around}
use Rattle.pci_grow.specs.Grounds.{Ground}
use Rattle.pci_grow.specs.Arounds.{find_around, HaveExtents, HaveBehind, AreEndingAll, ArePlacesAround, HaveNoPlaces}

lacking : (items : List ItemValue) (k : ℕ) → k < length items → are_placed (lacks_first (drop k items)) ≡ false
lacking [] k less = absurd (let no : ⊥ = omega (arith, less) in no)
lacking (i ∷ items) zero less = refl
lacking (i ∷ items) (suc k) less = lacking items k (omega (arith, less))

module _ (a : Around) (g : Ground) (taken : List Range) (items : List Item) (places : List ℕ) (lack : Option ℕ)
    (placing : (values : List ItemValue) (behind : ItemValue → List DecodedRange) → HaveExtents values items → HaveBehind g behind values items → place_each (find_around behind a) (map decoded_range_of taken) values ≡ placing_of values places lack) where
  pub one_lacks : is_some lack ≡ true → IfSome lack (λ k. k < length items) → HaveNoPlaces a g taken items
  one_lacks some within values behind are off = by lack refl some within
    where
      by : (o : Option ℕ) → lack ≡ o → is_some o ≡ true → IfSome o (λ k. k < length items) → are_placed (place_each (find_around behind a) (map decoded_range_of taken) values) ≡ false
      by None is none less = absurd (false≢true none)
      by (Some k) is one less = let long = are.count in ap are_placed (placing values behind are off ∙ ap (placing_of values places) is) ∙ lacking values k (omega (arith, less, long))

  pub none_lacks : is_some lack ≡ false → IfNone lack (AreEndingAll items places (length items)) → length places ≡ length items → (table : List ℕ) → table ≡ places → ArePlacesAround a g taken items table
  none_lacks none ends count table same = by lack refl none ends
    where
      by : (o : Option ℕ) → lack ≡ o → is_some o ≡ false → IfNone o (AreEndingAll items places (length items)) → ArePlacesAround a g taken items table
      by (Some k) is one e = absurd (false≢true (sym one))
      by None is off e = subst (ArePlacesAround a g taken items) (sym same) record {
        placing = λ values behind are behinds. placing values behind are behinds ∙ ap (placing_of values places) is;
        count = count;
        ends = e;
      }
