-- Items that are sorted stand in the order in which they are placed.
use Rattle.std.proofs.Common.{◌≡◌, ℕ, ◌^◌, ◌<◌, inl, inr, List, map, length, get_or, arith, sym, ◌∙◌, ap, subst}
use Rattle.std.specs.List.{AllPairs}
use Rattle.std.specs.List.Sorted.{IsPermutation}
use Rattle.std.proofs.lemmas.List.Sorted.{IsPermutation-map, All-permutation}
use Rattle.pci_spec.specs.Slot.{slot_number}
use Rattle.pci_spec.specs.Window.{WindowKind}
use Rattle.pci_spec.specs.System.{System, IsSystem, register_of}
use Rattle.pci_spec.specs.Decoded.{Range}
use Rattle.plan_spec.specs.Plan.{Pools, pool_of, raised_to, greatest_of_roots}
use Rattle.plan_spec.specs.PlanPromise.{CanBePlanned}
use Rattle.plan_spec.specs.Planning.Sorted.{StandsBefore, Precedes}
use Rattle.pci_spec.proofs.Members.{pairs_map}
use Rattle.plan_spec.proofs.Planning.AllItems.{all_order, pairs_unmap}
use Rattle.plan_spec.proofs.Planning.Order.{before_larger, before_by}
use Rattle.pci_base.specs.declared.range.Range.{Range as CodeRange}
use Rattle.pci_base.specs.Ranges.{decoded_range_of}
use Rattle.pci_place.specs.declared.item.Item.{Item as CodeItem}
use Rattle.pci_place.specs.Items.{part_value, function_in, item_value, IsItemIn, AreItems, IsRooted}
use Rattle.pci_place.specs.Sorting.{StandsEarlier, IsPlacedBefore, AreSortedItems, SortedClass}

module _ (roots : List ℕ) (s : System) (pools : Pools) (c : WindowKind) where
  abbrev slot_of_item : CodeItem → ℕ
  slot_of_item i = slot_number (function_in s i.function).slot

  abbrev register_of_item : CodeItem → ℕ
  register_of_item i = register_of (function_in s i.function) (part_value c i.part)

  precedes : (i j : CodeItem) → IsItemIn roots s i → IsItemIn roots s j → IsPlacedBefore slot_of_item register_of_item i j → Precedes roots (item_value s c i) (item_value s c j)
  precedes i j in_i in_j before =
      let at_i = in_i.group in
      let at_j = in_j.group in
      elim before [
        | inl lower ↦ inl (omega (arith, lower, at_i, at_j))
        | inr here ↦ inr (
          sym at_i ∙ here.0 ∙ at_j,
          elim here.1 [
            | inl larger ↦ before_larger (item_value s c i) (item_value s c j) larger
            | inr next ↦ (let size = next.0 in before_by (item_value s c i) (item_value s c j) next.1 (omega (arith, size)))
          ],
        )
      ]

  pub are_sorted : (old items : List CodeItem) → IsSystem s → AreItems roots s pools c old → IsPermutation old items
      → ((slot register : CodeItem → ℕ) → AllPairs (StandsEarlier slot register) old → AllPairs (IsPlacedBefore slot register) items) → AreSortedItems roots s pools c items
  are_sorted old items system are moved sorts =
      let each = All-permutation (IsItemIn roots s) old items moved are.each in
      let placed = sorts slot_of_item register_of_item (pairs_unmap StandsBefore (item_value s c) old (subst (AllPairs StandsBefore) (sym are.all) (all_order s pools c system))) in
      record {
        same = subst (λ xs. IsPermutation xs (map (item_value s c) items)) are.all (IsPermutation-map (item_value s c) old items moved);
        ordered = pairs_map (Precedes roots) (item_value s c) items
            (λ i j d up inside. precedes (get_or items i d) (get_or items j d) (each i d (omega (arith, up, inside))) (each j d inside) (placed i j d up inside));
        each = each;
      }

  -- the items of a class, once they are sorted
  abbrev pub sorted_class : (range : CodeRange) (functions greatest start : ℕ) (old items slice : List CodeItem) → IsRooted roots s → CanBePlanned roots s pools → decoded_range_of range ≡ pool_of pools c → range.last < 2 ^ 64
      → greatest ≡ greatest_of_roots roots s pools c → functions ≡ length s → AreItems roots s pools c old → IsPermutation old items
      → ((slot register : CodeItem → ℕ) → AllPairs (StandsEarlier slot register) old → AllPairs (IsPlacedBefore slot register) items) → slice ≡ items → start ≡ raised_to greatest range.first → SortedClass c functions start slice
  sorted_class range functions greatest start old items slice rooted can is low largest count are moved sorts same raised = record {
    roots = roots;
    system = s;
    pools = pools;
    rooted = rooted;
    room = can.room c;
    low = subst (λ (r : Range). r.last < 2 ^ 64) is low;
    starts = raised ∙ ap (λ n. raised_to n range.first) largest ∙ ap (λ (r : Range). raised_to (greatest_of_roots roots s pools c) r.first) is;
    count = count;
    sorted = subst (AreSortedItems roots s pools c) (sym same) (are_sorted old items rooted.system are moved sorts);
  }
