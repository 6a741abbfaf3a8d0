use Rattle.std.proofs.Common.{◌++◌, map, ap, sym, subst, ◌∙◌, List, Option}
use Rattle.pci_place.specs.Above.{system_in}
use Rattle.pci_base.specs.WindowKinds.{kind_value}
use Rattle.pci_first_fit.specs.declared.extent.Extent.{Extent}
use Rattle.pci_first_fit.specs.Buses.{AreWindows}
use Rattle.pci_settle_places.specs.Candidates.{of_class, AreAddedOf}
use Rattle.pci_settle_places.specs.Staying.{place_setting_value}
use Rattle.pci_settle_places.proofs.Added.{added_of, added_lawful}
use Rattle.pci_settle_places.proofs.candidate.add_class.Goals as goal

pub returns-clause-added : goal.returns-clause-added
returns-clause-added g c =
    subst (λ (windows : List (Option Extent)). AreAddedOf (place_setting_value c.args.pass.now.setting.now) (kind_value c.args.class) windows c.args.bus c.args.candidates.now.items c.add_items.new.candidates.items)
    c.of.ensures
    (added_of (system_in c.args.pass.now.setting.now.admitted.now) c.args.class c.in_ok-items.items.items c.args.candidates.now.items _
    (c.in_ok-add_items.ensures ∙ ap (λ xs. c.args.candidates.now.items ++ map (of_class c.args.class) xs) c.as_slice.ensures.value)
    c.args.pass.now.setting.now.admitted.now.roots c.args.pass.now.setting.now.terms c.args.pass.now.setting.now.staying c.of.result.now c.args.bus c.in_ok-items.ensures.turn)

pub returns-clause-lawful : goal.returns-clause-lawful
returns-clause-lawful g c windows_lawful before =
    added_lawful (system_in c.args.pass.now.setting.now.admitted.now) c.args.class c.in_ok-items.items.items c.args.candidates.now.items _
    (c.in_ok-add_items.ensures ∙ ap (λ xs. c.args.candidates.now.items ++ map (of_class c.args.class) xs) c.as_slice.ensures.value)
    (c.in_ok-items.ensures.lawful (subst AreWindows (sym c.of.ensures) windows_lawful)) before
