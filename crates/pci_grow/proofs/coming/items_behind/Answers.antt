use Rattle.std.proofs.Common.{List, Option, sym, subst}
use Rattle.pci_base.specs.WindowKinds.{kind_value}
use Rattle.pci_first_fit.specs.declared.extent.Extent.{Extent}
use Rattle.pci_first_fit.specs.Buses.{AreWindows, AreInTurn, classing_value, bus_listing}
use Rattle.pci_grow.proofs.coming.items_behind.Goals as goal

pub returns-clause-turn : goal.returns-clause-turn
returns-clause-turn g c =
    let setting = c.args.setting.now in
    subst (λ (ws : List (Option Extent)). AreInTurn (bus_listing (classing_value setting.classing.now) (kind_value c.args.class) c.args.bus ws c.args.there.now.kept.items) c.in_ok-items.items.items) c.get.ensures
    (subst (λ ks. AreInTurn (bus_listing (classing_value setting.classing.now) (kind_value c.args.class) c.args.bus c.get.result.now ks) c.in_ok-items.items.items) c.as_slice.ensures.value c.in_ok-items.ensures.turn)

pub returns-clause-lawful : goal.returns-clause-lawful
returns-clause-lawful g c = λ lawful. c.in_ok-items.ensures.lawful (subst AreWindows (sym c.get.ensures) (lawful c.args.class))
