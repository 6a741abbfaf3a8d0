-- Places in a line as the definitions have them.
use Rattle.judge_spec.specs.ToldForm as form
use Rattle.pci_dump.specs.declared.told_field.Field.{Field}
use Rattle.pci_dump.specs.declared.told_field.Field.TheVariants.{Bus, Device, Function, First, Last}
use Rattle.pci_dump.specs.declared.told_field.Place.{Place}
use Rattle.pci_dump.specs.declared.told_field.Place.TheVariants.{Digits, After, InSpace, InMark, InName}

abbrev pub field_of : Field → form.Field
field_of Bus = form.Bus
field_of Device = form.Device
field_of Function = form.Function
field_of First = form.First
field_of Last = form.Last

abbrev pub place_of : Place → form.Place
place_of (Digits field read) = form.Digits (field_of field) read
place_of (After field) = form.After (field_of field)
place_of (InSpace read) = form.InSpace read
place_of (InMark read) = form.InMark read
place_of InName = form.InName
