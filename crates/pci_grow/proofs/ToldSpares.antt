-- Flags and extents tell the spares that are asked for.
use Rattle.std.proofs.Common.{◌≡◌, ℕ, cond, get_or, true, false, Bool, ◌&&◌, ap, sym, refl, ◌∙◌, Option, Some, None}
use Rattle.std.specs.Bool.{nat_lt}
use Rattle.std.specs.Option.{option_map}
use Rattle.pci_spec.specs.System.{is_bridge}
use Rattle.settle_spec.specs.FirstPlace.{Extent as ExtentValue}
use Rattle.settle_spec.specs.Lists.{wanted_in}
use Rattle.settle_spec.specs.Spares.{spare_extent}
use Rattle.settle_spec.specs.Items.{highest_in}
use Rattle.pci_base.specs.WindowKinds.{by_kind}
use Rattle.pci_first_fit.specs.declared.extent.Extent.{Extent}
use Rattle.pci_grow.specs.Board.{bridge_of_window, window_class}
use Rattle.pci_grow.specs.Granting.{spare_up_to, SparesAreTold}

-- a spare is wanted behind a bridge with a slot, where any are
by_flags : (flag bridge some : Bool) (o : Option Extent) (highest : ℕ) (e : ExtentValue) → option_map (spare_up_to highest) o ≡ cond some (Some e) None
    → cond (flag && bridge && some) (Some e) None ≡ cond bridge (option_map (spare_up_to highest) (cond flag o None)) None
by_flags true true some o highest e is = sym is
by_flags true false some o highest e is = refl
by_flags false true some o highest e is = refl
by_flags false false some o highest e is = refl

pub spares_are_told : SparesAreTold
spares_are_told q s slots spares tells w within =
    let f = bridge_of_window s w in
    let c = window_class w in
    let highest = highest_in c f.probe in
    let wanted = wanted_in q.spares c in
    ap (λ b. cond (b && is_bridge f && nat_lt 0 wanted) (Some (spare_extent c wanted highest)) None) (sym (tells.slot w.bridge within))
    ∙ by_flags (get_or slots w.bridge false) (is_bridge f) (nat_lt 0 wanted) (by_kind spares w.class) highest (spare_extent c wanted highest) (tells.extents w.class highest)
