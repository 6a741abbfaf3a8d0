use Rattle.std.proofs.Common.{sym, ◌∙◌, ap}
use Rattle.pci_image.specs.Layouts.{is_of_bridge}
use Rattle.pci_image.proofs.AddressBytes.{is_in, device_bytes, bridge_bytes}
use Rattle.pci_image.proofs.register.address_bytes.Goals as goal

pub returns-in-Bridge : goal.returns-in-Bridge
returns-in-Bridge c = λ offset within. bridge_bytes offset within ∙ ap (λ l. is_in (is_of_bridge l) offset) (sym c.in-Bridge.is)

pub returns-in-Device : goal.returns-in-Device
returns-in-Device c = λ offset within. device_bytes offset within ∙ ap (λ l. is_in (is_of_bridge l) offset) (sym c.in-Device.is)
