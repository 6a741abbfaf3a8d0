-- The new window of a bridge, by what was listed for the bus behind it.
use Rattle.std.proofs.Common.{◌≡◌, ℕ, ◌<◌, ◌^◌, inl, inr, List, [], length, map, set, Bool, true, false, arith, sym, ◌∙◌, subst, refl, Option, Some, None}
use Rattle.std.specs.Bool.{◌==◌}
use Rattle.std.specs.List.{AllPairs, flat_map}
use Rattle.std.proofs.lemmas.Bool.{both_ways, cases_lt, eqb-true, eq-eqb}
use Rattle.std.proofs.lemmas.List.{length-map}
use Rattle.std.proofs.lemmas.List.Sorted.{length_permutation}
use Rattle.pci_spec.specs.Window.{WindowKind, page_size}
use Rattle.pci_spec.specs.System.{System, Function}
use Rattle.settle_spec.specs.FirstPlace.{Extent as ExtentValue}
use Rattle.settle_spec.specs.Lists.{Request}
use Rattle.settle_spec.specs.Spares.{with_spare}
use Rattle.settle_spec.specs.Items.{PlacingItem as ItemValue, in_turn, bus_items, nothing, extent_around}
use Rattle.settle_spec.specs.PlacingLaws.{HasLowerRank}
use Rattle.settle_spec.proofs.InTurn.{turn_same, ranks_differ}
use Rattle.settle_spec.proofs.Moved.{turn_moved}
use Rattle.pci_function.specs.declared.record.Bridge.{Bridge}
use Rattle.pci_first_fit.specs.declared.extent.Extent.{Extent}
use Rattle.pci_first_fit.specs.declared.item.Item.{Item}
use Rattle.pci_first_fit.specs.Kept.{AreKeptParts}
use Rattle.pci_first_fit.proofs.Tables.{none_noted}
use Rattle.pci_first_fit.specs.Spots.{IsExtent}
use Rattle.pci_first_fit.specs.Placings.{item_extent}
use Rattle.pci_first_fit.specs.Turns.{IsValued}
use Rattle.pci_first_fit.specs.Windows.{IsAround}
use Rattle.pci_first_fit.specs.Slots.{spare_by}
use Rattle.pci_first_fit.specs.Own.{Asking, AreByRank, asked_item_value}
use Rattle.pci_first_fit.specs.Buses.{AreBehind, Classing, TellsClasses, Listing, IsListingOf, items_of_function, AreItemsOnBus}
use Rattle.pci_first_fit.specs.NewWindows.{around_bus, highest_by, nowhere, IsNewWindowPut}

module _ (l : Listing) (items : List Item) (on : AreItemsOnBus l items) (a : Asking) (is : IsListingOf a l) where
  abbrev values : List ItemValue
  values = map (asked_item_value l.classing.system l.class) items

  abbrev all : List ItemValue
  all = flat_map (items_of_function a l) l.classing.system

  by_rank : AreByRank values all
  by_rank = on a is

  pub values_rise : AllPairs HasLowerRank values
  values_rise = by_rank.rising

  -- sorted they are those of the definitions
  pub turn_is : in_turn values ≡ bus_items a.request l.classing.system l.class a.keeps a.extent l.bus
  turn_is = turn_moved values all (ranks_differ values by_rank.rising) by_rank.same

  pub count_is : length (bus_items a.request l.classing.system l.class a.keeps a.extent l.bus) ≡ length items
  count_is = length_permutation all (in_turn all) (turn_same all) ∙ length_permutation values all by_rank.same ∙ length-map items (asked_item_value l.classing.system l.class)

-- an empty table keeps nothing
pub none_kept : (s : System) → AreKeptParts s nothing []
none_kept s k f part at there = none_noted part

-- ---- what is put into the table

pub is_none : (len n : ℕ) (empty : Bool) → len ≡ n → empty ≡ (len == 0) → empty ≡ true → n ≡ 0
is_none len n empty same is there = let none = eqb-true len 0 (sym is ∙ there) in omega (arith, none, same)

pub is_some_count : (len n : ℕ) (empty : Bool) → len ≡ n → empty ≡ (len == 0) → empty ≡ false → 0 < n
is_some_count len n empty same is off = elim (cases_lt 0 n) [
  | inl some ↦ some
  | inr none ↦ absurd (both_ways (len == 0) (sym is ∙ off) (eq-eqb len 0 (omega (arith, none, same))))
]

-- a window is that around items, whatever they stand for
abbrev pub IsAroundItems : WindowKind → ℕ → ℕ → List Item → Option Extent → Type 0
IsAroundItems c highest wanted items window =
    (value : Item → ItemValue) → IsValued value → AllPairs HasLowerRank (map value items)
    → IsAround (extent_around (page_size c) highest (with_spare (spare_by c wanted highest) (map item_extent (in_turn (map value items))))) window

module _ (p : Classing) (c : WindowKind) (b : Bridge) (wanted : ℕ) (windows : List (Option Extent)) (items : List Item)
    (on : AreItemsOnBus record { classing = p; class = c; bus = b.secondary; windows = windows; kept = [] } items) (new : List (Option Extent)) where
  -- what is behind the bridge where nothing keeps its place
  abbrev behind_it : Listing
  behind_it = record { classing = p; class = c; bus = b.secondary; windows = windows; kept = [] }

  abbrev of_all : Request → (Function → ExtentValue) → Asking
  of_all q extent = record { request = q; keeps = nothing; extent = extent }

  listed : (q : Request) (extent : Function → ExtentValue) → TellsClasses p q → AreBehind q p.system c extent b.secondary windows → IsListingOf (of_all q extent) behind_it
  listed q extent left behind = record { left = left; keeps_is = none_kept p.system; behind = behind }

  pub none_put : length items ≡ 0 → new ≡ set windows b.secondary None → IsNewWindowPut p c b wanted windows new true
  none_put empty put = record {
    entry = None;
    put = put;
    lawful = tt;
    small = tt;
    is = λ q extent left behind. count_is behind_it items on (of_all q extent) (listed q extent left behind) ∙ empty;
  }

  module _ (some : 0 < length items) (highest : ℕ) (is_highest : highest ≡ highest_by c b.windows) where
    around_is : (q : Request) (extent : Function → ExtentValue) → TellsClasses p q → AreBehind q p.system c extent b.secondary windows → (window : Option Extent) → IsAroundItems c highest wanted items window
        → IsAround (around_bus q p.system c extent b wanted) window
    around_is q extent left behind window around =
        subst (λ xs. IsAround (extent_around (page_size c) (highest_by c b.windows) (with_spare (spare_by c wanted (highest_by c b.windows)) (map item_extent xs))) window)
        (turn_is behind_it items on (of_all q extent) (listed q extent left behind))
        (subst (λ h. IsAround (extent_around (page_size c) h (with_spare (spare_by c wanted h) (map item_extent (in_turn (map (asked_item_value p.system c) items))))) window) is_highest
        (around (asked_item_value p.system c) (λ i. refl) (values_rise behind_it items on (of_all q extent) (listed q extent left behind))))

    some_count : (q : Request) (extent : Function → ExtentValue) → TellsClasses p q → AreBehind q p.system c extent b.secondary windows → 0 < length (bus_items q p.system c nothing extent b.secondary)
    some_count q extent left behind = let e = count_is behind_it items on (of_all q extent) (listed q extent left behind) in omega (arith, e, some)

    pub some_put : (window : Extent) → IsExtent window → window.size < 2 ^ 64 → IsAroundItems c highest wanted items (Some window) → new ≡ set windows b.secondary (Some window) → IsNewWindowPut p c b wanted windows new true
    some_put window lawful small around put = record {
      entry = Some window;
      put = put;
      lawful = lawful;
      small = small;
      is = λ q extent left behind. (some_count q extent left behind, around_is q extent left behind (Some window) around);
    }

    pub large_put : IsAroundItems c highest wanted items None → new ≡ set windows b.secondary (Some nowhere) → IsNewWindowPut p c b wanted windows new false
    large_put around put = (
      put,
      λ q extent left behind. record {
        some = some_count q extent left behind;
        large = around_is q extent left behind None around;
      },
    )
