use Rattle.std.proofs.Common.{◌≡◌, List, [], ◌∷◌, get_or, refl, Bool, sym, ◌∙◌, Option, None}
use Rattle.std.specs.Prelude.{IsTrue, ◌↔◌}
use Rattle.std.specs.Bool.{then_some}
use Rattle.pci_spec.specs.Number.{has_bit}
use Rattle.pci_spec.specs.Registers.{PALETTE_SNOOP, ISA_ENABLE, VGA_ENABLE, SECONDARY_BUS_RESET}
use Rattle.pci_spec.specs.Header.{command}
use Rattle.pci_spec.specs.System.{Function}
use Rattle.pci_spec.specs.Fault.{ProfileFault, PaletteSnoop, VgaEnable, IsaEnable, Subtractive, InReset, PowerState, profile_key, controls_bridge, is_subtractive_bridge, IsNotInD0}
use Rattle.pci_function.specs.declared.fault.Fault.{Fault}
use Rattle.pci_function.specs.declared.fault.Fault.TheVariants as codes
use Rattle.pci_faults.proofs.OfProfile.{IsItem, profile_lines}
use Rattle.pci_faults.specs.OwnLines.{AreOwnLines}
use Rattle.pci_faults.proofs.profile.profile_faults.Goals as goal

module _ (f : Function) (palette vga isa subtractive reset asleep : Bool)
    (palette_is : palette ≡ has_bit (command f.image) PALETTE_SNOOP) (vga_is : vga ≡ controls_bridge f.image VGA_ENABLE) (isa_is : isa ≡ controls_bridge f.image ISA_ENABLE)
    (subtractive_is : subtractive ≡ is_subtractive_bridge f.image) (reset_is : reset ≡ controls_bridge f.image SECONDARY_BUS_RESET) (asleep_is : IsTrue asleep ↔ IsNotInD0 f.image) where
  abbrev items : List (Option Fault)
  items = then_some palette (codes.PaletteSnoop f.slot) ∷ then_some vga (codes.VgaEnable f.slot) ∷ then_some isa (codes.IsaEnable f.slot)
      ∷ then_some subtractive (codes.Subtractive f.slot) ∷ then_some reset (codes.InReset f.slot) ∷ then_some asleep (codes.PowerState f.slot) ∷ []

  each : (fault : ProfileFault) → IsItem f fault (get_or items (profile_key fault) None)
  each PaletteSnoop = record { test = palette; code = codes.PaletteSnoop f.slot; is = refl; named = refl; tells = (λ is. sym palette_is ∙ is, λ is. palette_is ∙ is) }
  each VgaEnable = record { test = vga; code = codes.VgaEnable f.slot; is = refl; named = refl; tells = (λ is. sym vga_is ∙ is, λ is. vga_is ∙ is) }
  each IsaEnable = record { test = isa; code = codes.IsaEnable f.slot; is = refl; named = refl; tells = (λ is. sym isa_is ∙ is, λ is. isa_is ∙ is) }
  each Subtractive = record { test = subtractive; code = codes.Subtractive f.slot; is = refl; named = refl; tells = (λ is. sym subtractive_is ∙ is, λ is. subtractive_is ∙ is) }
  each InReset = record { test = reset; code = codes.InReset f.slot; is = refl; named = refl; tells = (λ is. sym reset_is ∙ is, λ is. reset_is ∙ is) }
  each PowerState = record { test = asleep; code = codes.PowerState f.slot; is = refl; named = refl; tells = asleep_is }

  listed : AreOwnLines 3 f items
  listed = profile_lines f items refl each

pub returns : goal.returns
returns c probe none =
    let f : Function = record { slot = c.args.slot; image = c.args.image.now.0; probe = probe } in
    rw (c.then_some.ensures, c.then_some-2.ensures, c.then_some-3.ensures, c.then_some-4.ensures, c.then_some-5.ensures, c.then_some-6.ensures)
    (listed f c.snoops_palette.result c.controls_bridge.result c.controls_bridge-2.result c.is_subtractive_bridge.result c.controls_bridge-3.result c.is_asleep.result
    c.snoops_palette.ensures c.controls_bridge.ensures c.controls_bridge-2.ensures c.is_subtractive_bridge.ensures c.controls_bridge-3.ensures (c.is_asleep.ensures c.args.slot probe none))
