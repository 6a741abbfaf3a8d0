-- The items of a space on a bus beside what is kept: what each is, and that its region tells all of it.
use Rattle.std.proofs.Common.{◌≡◌, ℕ, ◌<◌, inl, inr, refl, true}
use Rattle.std.specs.List.{Contains}
use Rattle.std.proofs.lemmas.List.Elements.{Contains-append_cases}
use Rattle.pci_spec.specs.Window.{WindowKind, IoWindow, MemoryWindow, PrefetchWindow}
use Rattle.pci_spec.specs.System.{System, Function, IsSystem, Space, Io, Memory, Part, has_part, window_space}
use Rattle.plan_spec.specs.Planning.Placing.{IsPower}
use Rattle.plan_spec.proofs.Planning.Placement.{power_pos}
use Rattle.settle_spec.specs.Lists.{Request}
use Rattle.settle_spec.specs.Parts.{class_in}
use Rattle.settle_spec.specs.Stands.{rank}
use Rattle.settle_spec.specs.Items.{PlacingItem, bus_items, new_window}
use Rattle.settle_spec.specs.Kept.{Kept}
use Rattle.settle_spec.specs.Keeping.Places.{space_items}
use Rattle.settle_laws.proofs.ItemForms.{IsItemOf, item_by, items_are, item_power, new_window_power, item_of_rank}

module _ (q : Request) (s : System) (k : Kept) where
  pub record IsItemIn (space : Space) (bus : ℕ) (i : PlacingItem) : Type 0 where
    pub c : WindowKind
    pub of_space : window_space c ≡ space
    pub of : IsItemOf q s (new_window q s) c bus i
    pub has : Contains (bus_items q s c k.stays (new_window q s c) bus) i

  pub space_items_are : (space : Space) (bus : ℕ) (i : PlacingItem) → Contains (space_items q s k space bus) i → IsItemIn space bus i
  space_items_are Io bus i has = record { c = IoWindow; of_space = refl; of = items_are q s (new_window q s) IoWindow k.stays bus i has; has = has }
  space_items_are Memory bus i has =
      elim (Contains-append_cases (bus_items q s MemoryWindow k.stays (new_window q s MemoryWindow) bus) (bus_items q s PrefetchWindow k.stays (new_window q s PrefetchWindow) bus) i has) [
        | inl plain ↦ record { c = MemoryWindow; of_space = refl; of = items_are q s (new_window q s) MemoryWindow k.stays bus i plain; has = plain }
        | inr prefetch ↦ record { c = PrefetchWindow; of_space = refl; of = items_are q s (new_window q s) PrefetchWindow k.stays bus i prefetch; has = prefetch }
      ]

  pub item_aligned : (space : Space) (bus : ℕ) (i : PlacingItem) → Contains (space_items q s k space bus) i → IsPower i.extent.alignment
  item_aligned space bus i has = let is = space_items_are space bus i has in item_power q s (new_window q s) is.c bus i (new_window_power q s is.c) is.of

  pub item_positive : (space : Space) (bus : ℕ) (i : PlacingItem) → Contains (space_items q s k space bus) i → 0 < i.extent.alignment
  item_positive space bus i has = power_pos i.extent.alignment (item_aligned space bus i has)

  -- a rank names one item
  pub same_rank : IsSystem s → (space : Space) (bus : ℕ) (i : PlacingItem) → IsItemIn space bus i → (f : Function) (p : Part) → Contains s f → has_part f p ≡ true → rank i.region ≡ rank record { function = f; part = p }
      → i ≡ item_by (new_window q s) (class_in q s f p) f p
  same_rank system space bus i is f p listed there ranks = item_of_rank q s system is.c bus i is.of f p listed there ranks
