-- The laws of what is explained, case by case.
use Rattle.std.proofs.Common.{refl}
use Rattle.pci_spec.specs.Slot.{Slot}
use Rattle.pci_spec.specs.Line.{fault_text}
use Rattle.pci_spec.specs.ProbeOf as probes
use Rattle.pci_spec.specs.Fault as plain
use Rattle.judge_spec.specs.Fault.{Known, Outside}
use Rattle.judge_spec.specs.ToldFault as told
use Rattle.plan_spec.specs.Plan as plans
use Rattle.pciplan_front.specs.declared.fault.Fault.TheVariants as faults
use Rattle.pciplan_front.specs.declared.command.Command.TheVariants as commands
use Rattle.pciplan_front.specs.Explained.{named_fault, names_fault, named_command}
use Rattle.pciplan_front.specs.Laws.{HasHeading, NumbersName, NamesName, FaultsHaveHeadings, ToldFaultsHaveHeadings, ProbeFaultsHaveHeadings, PlanFaultsHaveHeadings}

pub numbers_name : NumbersName
unfolding named_fault names_fault
numbers_name faults.ReadIo = refl
numbers_name faults.Memory = refl
numbers_name faults.BadSlot = refl
numbers_name faults.BadTitle = refl
numbers_name faults.BadLine = refl
numbers_name faults.NoBlank = refl
numbers_name faults.Order = refl
numbers_name faults.TooMany = refl
numbers_name faults.Ended = refl
numbers_name faults.WriteIo = refl
numbers_name faults.NoVendor = refl
numbers_name faults.HeaderKind = refl
numbers_name faults.BarType = refl
numbers_name faults.BarMask = refl
numbers_name faults.BarPair = refl
numbers_name faults.RomMask = refl
numbers_name faults.WindowMask = refl
numbers_name faults.CapRange = refl
numbers_name faults.CapLoop = refl
numbers_name faults.CapCut = refl
numbers_name faults.SlotsDiffer = refl
numbers_name faults.StrayProbe = refl
numbers_name faults.NoSize = refl
numbers_name faults.OtherSize = refl
numbers_name faults.NotListed = refl
numbers_name faults.LoneFunction = refl
numbers_name faults.PaletteSnoop = refl
numbers_name faults.VgaEnable = refl
numbers_name faults.IsaEnable = refl
numbers_name faults.Subtractive = refl
numbers_name faults.InReset = refl
numbers_name faults.PowerState = refl
numbers_name faults.BusRange = refl
numbers_name faults.Orphan = refl
numbers_name faults.Unreached = refl
numbers_name faults.Clash = refl
numbers_name faults.Split = refl
numbers_name faults.Outside = refl
numbers_name faults.BadPools = refl
numbers_name faults.NoWindow = refl
numbers_name faults.NoRoom = refl
numbers_name faults.NotAccepted = refl
numbers_name faults.Fixed = refl
numbers_name faults.Told = refl
numbers_name faults.Assumed = refl
numbers_name faults.TooManyRanges = refl
numbers_name faults.Changed = refl
numbers_name faults.Port = refl
numbers_name faults.Stuck = refl

pub names_name : NamesName
unfolding named_command
names_name commands.Here = refl
names_name commands.Show = refl
names_name commands.Check = refl
names_name commands.Faults = refl
names_name commands.Map = refl
names_name commands.Size = refl
names_name commands.Plan = refl
names_name commands.Settle = refl
names_name commands.Probe = refl
names_name commands.Json = refl
names_name commands.Picture = refl
names_name commands.Explain = refl
names_name commands.Version = refl

profile_has_heading : (fault : plain.ProfileFault) (slot : Slot) → HasHeading (fault_text (plain.OfProfile fault slot))
profile_has_heading plain.PaletteSnoop slot = record { fault = faults.PaletteSnoop; begins = refl }
profile_has_heading plain.VgaEnable slot = record { fault = faults.VgaEnable; begins = refl }
profile_has_heading plain.IsaEnable slot = record { fault = faults.IsaEnable; begins = refl }
profile_has_heading plain.Subtractive slot = record { fault = faults.Subtractive; begins = refl }
profile_has_heading plain.InReset slot = record { fault = faults.InReset; begins = refl }
profile_has_heading plain.PowerState slot = record { fault = faults.PowerState; begins = refl }

pub faults_have_headings : FaultsHaveHeadings
faults_have_headings (Known (plain.NoVendor slot)) = record { fault = faults.NoVendor; begins = refl }
faults_have_headings (Known (plain.HeaderKind slot)) = record { fault = faults.HeaderKind; begins = refl }
faults_have_headings (Known (plain.BarType slot register)) = record { fault = faults.BarType; begins = refl }
faults_have_headings (Known (plain.BarMask slot register)) = record { fault = faults.BarMask; begins = refl }
faults_have_headings (Known (plain.BarPair slot register)) = record { fault = faults.BarPair; begins = refl }
faults_have_headings (Known (plain.RomMask slot register)) = record { fault = faults.RomMask; begins = refl }
faults_have_headings (Known (plain.WindowMask slot register)) = record { fault = faults.WindowMask; begins = refl }
faults_have_headings (Known (plain.CapRange slot place)) = record { fault = faults.CapRange; begins = refl }
faults_have_headings (Known (plain.CapLoop slot place)) = record { fault = faults.CapLoop; begins = refl }
faults_have_headings (Known (plain.CapCut slot place)) = record { fault = faults.CapCut; begins = refl }
faults_have_headings (Known (plain.SlotsDiffer slot)) = record { fault = faults.SlotsDiffer; begins = refl }
faults_have_headings (Known (plain.StrayProbe slot offset)) = record { fault = faults.StrayProbe; begins = refl }
faults_have_headings (Known (plain.LoneFunction slot)) = record { fault = faults.LoneFunction; begins = refl }
faults_have_headings (Known (plain.OfProfile fault slot)) = profile_has_heading fault slot
faults_have_headings (Known (plain.BusRange slot)) = record { fault = faults.BusRange; begins = refl }
faults_have_headings (Known (plain.Orphan slot)) = record { fault = faults.Orphan; begins = refl }
faults_have_headings (Known (plain.Unreached slot register space address bridge)) = record { fault = faults.Unreached; begins = refl }
faults_have_headings (Known (plain.Clash bus space address first first_register second second_register)) = record { fault = faults.Clash; begins = refl }
faults_have_headings (Known (plain.Split space address first first_register second second_register)) = record { fault = faults.Split; begins = refl }
faults_have_headings (Outside slot register space address) = record { fault = faults.Outside; begins = refl }

pub told_faults_have_headings : ToldFaultsHaveHeadings
told_faults_have_headings (told.Known (Known (plain.NoVendor slot))) = record { fault = faults.NoVendor; begins = refl }
told_faults_have_headings (told.Known (Known (plain.HeaderKind slot))) = record { fault = faults.HeaderKind; begins = refl }
told_faults_have_headings (told.Known (Known (plain.BarType slot register))) = record { fault = faults.BarType; begins = refl }
told_faults_have_headings (told.Known (Known (plain.BarMask slot register))) = record { fault = faults.BarMask; begins = refl }
told_faults_have_headings (told.Known (Known (plain.BarPair slot register))) = record { fault = faults.BarPair; begins = refl }
told_faults_have_headings (told.Known (Known (plain.RomMask slot register))) = record { fault = faults.RomMask; begins = refl }
told_faults_have_headings (told.Known (Known (plain.WindowMask slot register))) = record { fault = faults.WindowMask; begins = refl }
told_faults_have_headings (told.Known (Known (plain.CapRange slot place))) = record { fault = faults.CapRange; begins = refl }
told_faults_have_headings (told.Known (Known (plain.CapLoop slot place))) = record { fault = faults.CapLoop; begins = refl }
told_faults_have_headings (told.Known (Known (plain.CapCut slot place))) = record { fault = faults.CapCut; begins = refl }
told_faults_have_headings (told.Known (Known (plain.SlotsDiffer slot))) = record { fault = faults.SlotsDiffer; begins = refl }
told_faults_have_headings (told.Known (Known (plain.StrayProbe slot offset))) = record { fault = faults.StrayProbe; begins = refl }
told_faults_have_headings (told.Known (Known (plain.LoneFunction slot))) = record { fault = faults.LoneFunction; begins = refl }
told_faults_have_headings (told.Known (Known (plain.OfProfile fault slot))) = profile_has_heading fault slot
told_faults_have_headings (told.Known (Known (plain.BusRange slot))) = record { fault = faults.BusRange; begins = refl }
told_faults_have_headings (told.Known (Known (plain.Orphan slot))) = record { fault = faults.Orphan; begins = refl }
told_faults_have_headings (told.Known (Known (plain.Unreached slot register space address bridge))) = record { fault = faults.Unreached; begins = refl }
told_faults_have_headings (told.Known (Known (plain.Clash bus space address first first_register second second_register))) = record { fault = faults.Clash; begins = refl }
told_faults_have_headings (told.Known (Known (plain.Split space address first first_register second second_register))) = record { fault = faults.Split; begins = refl }
told_faults_have_headings (told.Known (Outside slot register space address)) = record { fault = faults.Outside; begins = refl }
told_faults_have_headings (told.NotListed slot) = record { fault = faults.NotListed; begins = refl }

pub probe_faults_have_headings : ProbeFaultsHaveHeadings
probe_faults_have_headings (probes.SlotsDiffer slot) = record { fault = faults.SlotsDiffer; begins = refl }
probe_faults_have_headings (probes.NoVendor slot) = record { fault = faults.NoVendor; begins = refl }
probe_faults_have_headings (probes.HeaderKind slot) = record { fault = faults.HeaderKind; begins = refl }
probe_faults_have_headings (probes.NoSize slot offset) = record { fault = faults.NoSize; begins = refl }
probe_faults_have_headings (probes.OtherSize slot offset) = record { fault = faults.OtherSize; begins = refl }

pub plan_faults_have_headings : PlanFaultsHaveHeadings
plan_faults_have_headings plans.BadPools = record { fault = faults.BadPools; begins = refl }
plan_faults_have_headings (plans.NoWindow slot) = record { fault = faults.NoWindow; begins = refl }
plan_faults_have_headings (plans.NoRoom class) = record { fault = faults.NoRoom; begins = refl }
plan_faults_have_headings (plans.NotAccepted fault) = record { fault = faults.NotAccepted; begins = refl }
