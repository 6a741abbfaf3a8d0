-- Stable sorts by falling size, then by falling alignment, bring items in turn.
use Rattle.std.proofs.Common.{◌≡◌, ◌&&◌, ◌||◌, ℕ, ◌<◌, ◌⊎◌, List, true, map, arith, sym, subst, get_or}
use Rattle.std.specs.Bool.{nat_lt, ◌==◌}
use Rattle.std.specs.List.{AllPairs}
use Rattle.std.specs.List.Sorted.{IsPermutation}
use Rattle.std.proofs.lemmas.Bool.Decides.{nat_tests}
use Rattle.std.proofs.lemmas.List.Sorted.{IsPermutation-map}
use Rattle.pci_spec.proofs.Members.{pairs_map}
use Rattle.plan_spec.proofs.Planning.AllItems.{pairs_unmap}
use Rattle.settle_spec.specs.Stands.{rank}
use Rattle.settle_spec.specs.FirstPlace.{Extent as ExtentValue}
use Rattle.settle_spec.specs.Items.{PlacingItem as ItemValue, in_turn}
use Rattle.settle_spec.specs.PlacingLaws.{HasLowerRank, ComesBefore}
use Rattle.settle_spec.proofs.InTurn.{turn_only, ranks_differ}
use Rattle.pci_first_fit.specs.declared.item.Item.{Item}
use Rattle.pci_first_fit.specs.Turns.{IsItemInTurn, IsValued}

earlier_by : (a b s t q r : ℕ) → (b < a) ⊎ ((a ≡ b) × ((t < s) ⊎ ((s ≡ t) × (q < r))))
    → (nat_lt b a || (a == b && (nat_lt t s || (s == t && nat_lt q r)))) ≡ true
earlier_by a b s t q r h = grind (arith, nat_tests)

module _ (value : Item → ItemValue) (valued : IsValued value) where
  abbrev number : Item → ℕ
  number i = rank (value i).region

  before : (i j : Item) → IsItemInTurn number i j → ComesBefore (value i) (value j)
  before i j first =
      subst (λ (e : ExtentValue). (nat_lt (value j).extent.alignment e.alignment || (e.alignment == (value j).extent.alignment && (nat_lt (value j).extent.size e.size || (e.size == (value j).extent.size && nat_lt (number i) (number j))))) ≡ true) (sym (valued i))
      (subst (λ (e : ExtentValue). (nat_lt e.alignment i.extent.alignment || (i.extent.alignment == e.alignment && (nat_lt e.size i.extent.size || (i.extent.size == e.size && nat_lt (number i) (number j))))) ≡ true) (sym (valued j))
      (earlier_by i.extent.alignment j.extent.alignment i.extent.size j.extent.size (number i) (number j) first))

  pub numbers : (items : List Item) → AllPairs HasLowerRank (map value items) → AllPairs (λ i j. number i < number j) items
  numbers items rise = pairs_unmap HasLowerRank value items rise

  pub turn_by_sort : (items sorted : List Item) → AllPairs HasLowerRank (map value items) → IsPermutation items sorted → AllPairs (IsItemInTurn number) sorted
      → map value sorted ≡ in_turn (map value items)
  turn_by_sort items sorted rise moved turn =
      sym (turn_only (map value items) (map value sorted) (ranks_differ (map value items) rise) (IsPermutation-map value items sorted moved)
      (pairs_map ComesBefore value sorted (λ i j d up inside. before (get_or sorted i d) (get_or sorted j d) (turn i j d up inside))))
