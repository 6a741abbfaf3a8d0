-- What is asked of a place: that it is of the size of its part, and by which address it ends.
use Rattle.std.proofs.Common.{◌≡◌, ◌%◌, ◌<◌, ◌≤◌, refl, true, false}
use Rattle.std.specs.Bool.{if◌then◌else◌}
use Rattle.std.proofs.lemmas.Bool.{both_ways}
use Rattle.std.proofs.lemmas.Nat.{pow_pos}
use Rattle.pci_spec.specs.Number.{lowest_one}
use Rattle.pci_spec.specs.Bar.{bar_at, is_io, whole_bar}
use Rattle.pci_spec.specs.Rom.{rom_at}
use Rattle.pci_spec.specs.Window.{WindowKind}
use Rattle.pci_spec.specs.System.{System, Function, Space, Part, Bar, Rom, Window, is_window}
use Rattle.plan_spec.specs.Plan.{size_of}
use Rattle.settle_spec.specs.Lists.{Request}
use Rattle.settle_spec.specs.Items.{Placed, own_extent, new_window, taken_by}

-- ---- which part an item is of

module _ (q : Request) (s : System) where
  -- ---- each is aligned to something

  pub size_some : (f : Function) (part : Part) → is_window part ≡ false → 0 < size_of f part
  size_some f (Bar n) plain = pow_pos (lowest_one (if is_io (bar_at f.probe n) then 2 else 4) (whole_bar f.probe f.probe n))
  size_some f Rom plain = pow_pos (lowest_one 0 (rom_at f.image f.probe))
  size_some f (Window c) plain = absurd (both_ways true plain refl)

  -- ---- the place of a part

  -- what is known of the item that a part got a place as
  pub record HasPlace (space : Space) (f : Function) (part : Part) (p : Placed) : Type 0 where
    pub own : is_window part ≡ false → own_extent record { function = f; part = part } ≡ p.item.extent
    pub new : (c : WindowKind) → Window c ≡ part → new_window q s c f ≡ p.item.extent
    pub multiple : p.at % p.item.extent.alignment ≡ 0
    pub low : (taken_by p.item p.at).last ≤ p.item.extent.highest
