-- The faults that are explained: their numbers and names.
use Rattle.std.specs.Prelude.{ℕ, List, ◌∷◌, ◌++◌, codes}
use Rattle.pciplan_front.specs.declared.fault.Fault.{Fault}
use Rattle.pciplan_front.specs.declared.fault.Fault.TheVariants.{ReadIo, Memory, BadSlot, BadTitle, BadLine, NoBlank, Order, TooMany, Ended, WriteIo, NoVendor, HeaderKind, BarType, BarMask, BarPair, RomMask, WindowMask, CapRange, CapLoop, CapCut, SlotsDiffer, StrayProbe, NoSize, OtherSize, NotListed, LoneFunction, PaletteSnoop, VgaEnable, IsaEnable, Subtractive, InReset, PowerState, BusRange, Orphan, Unreached, Clash, Split, Outside, BadPools, NoWindow, NoRoom, NotAccepted, Fixed, Told, Assumed, TooManyRanges, Changed, Port, Stuck}
use Rattle.pciplan_front.specs.declared.fault_texts.TheConstants.{READ_IO, MEMORY, BAD_SLOT, BAD_TITLE, BAD_LINE, NO_BLANK, ORDER, TOO_MANY, ENDED, WRITE_IO, NO_VENDOR, HEADER_KIND, BAR_TYPE, BAR_MASK, BAR_PAIR, ROM_MASK, WINDOW_MASK, CAP_RANGE, CAP_LOOP, CAP_CUT, SLOTS_DIFFER, STRAY_PROBE, NO_SIZE, OTHER_SIZE, NOT_LISTED, LONE_FUNCTION, PALETTE_SNOOP, VGA_ENABLE, ISA_ENABLE, SUBTRACTIVE, IN_RESET, POWER_STATE, BUS_RANGE, ORPHAN, UNREACHED, CLASH, SPLIT, OUTSIDE, BAD_POOLS, NO_WINDOW, NO_ROOM, NOT_ACCEPTED, FIXED, TOLD, ASSUMED, TOO_MANY_RANGES, CHANGED, PORT, STUCK}

-- a fault's number in decimal digits
abbrev pub explained_fault_number : Fault → List ℕ
explained_fault_number ReadIo = codes "1"
explained_fault_number Memory = codes "2"
explained_fault_number BadSlot = codes "3"
explained_fault_number BadTitle = codes "4"
explained_fault_number BadLine = codes "5"
explained_fault_number NoBlank = codes "6"
explained_fault_number Order = codes "7"
explained_fault_number TooMany = codes "8"
explained_fault_number Ended = codes "9"
explained_fault_number WriteIo = codes "10"
explained_fault_number NoVendor = codes "20"
explained_fault_number HeaderKind = codes "21"
explained_fault_number BarType = codes "22"
explained_fault_number BarMask = codes "23"
explained_fault_number BarPair = codes "24"
explained_fault_number RomMask = codes "25"
explained_fault_number WindowMask = codes "26"
explained_fault_number CapRange = codes "27"
explained_fault_number CapLoop = codes "28"
explained_fault_number CapCut = codes "29"
explained_fault_number SlotsDiffer = codes "30"
explained_fault_number StrayProbe = codes "31"
explained_fault_number NoSize = codes "32"
explained_fault_number OtherSize = codes "33"
explained_fault_number NotListed = codes "34"
explained_fault_number LoneFunction = codes "50"
explained_fault_number PaletteSnoop = codes "51"
explained_fault_number VgaEnable = codes "52"
explained_fault_number IsaEnable = codes "53"
explained_fault_number Subtractive = codes "54"
explained_fault_number InReset = codes "55"
explained_fault_number PowerState = codes "56"
explained_fault_number BusRange = codes "57"
explained_fault_number Orphan = codes "58"
explained_fault_number Unreached = codes "60"
explained_fault_number Clash = codes "61"
explained_fault_number Split = codes "62"
explained_fault_number Outside = codes "63"
explained_fault_number BadPools = codes "70"
explained_fault_number NoWindow = codes "71"
explained_fault_number NoRoom = codes "72"
explained_fault_number NotAccepted = codes "73"
explained_fault_number Fixed = codes "74"
explained_fault_number Told = codes "75"
explained_fault_number Assumed = codes "76"
explained_fault_number TooManyRanges = codes "77"
explained_fault_number Changed = codes "80"
explained_fault_number Port = codes "81"
explained_fault_number Stuck = codes "82"

abbrev pub explained_fault_name : Fault → List ℕ
explained_fault_name ReadIo = codes "Io"
explained_fault_name Memory = codes "Memory"
explained_fault_name BadSlot = codes "BadSlot"
explained_fault_name BadTitle = codes "BadTitle"
explained_fault_name BadLine = codes "BadLine"
explained_fault_name NoBlank = codes "NoBlank"
explained_fault_name Order = codes "Order"
explained_fault_name TooMany = codes "TooMany"
explained_fault_name Ended = codes "Ended"
explained_fault_name WriteIo = codes "Io"
explained_fault_name NoVendor = codes "NoVendor"
explained_fault_name HeaderKind = codes "HeaderKind"
explained_fault_name BarType = codes "BarType"
explained_fault_name BarMask = codes "BarMask"
explained_fault_name BarPair = codes "BarPair"
explained_fault_name RomMask = codes "RomMask"
explained_fault_name WindowMask = codes "WindowMask"
explained_fault_name CapRange = codes "CapRange"
explained_fault_name CapLoop = codes "CapLoop"
explained_fault_name CapCut = codes "CapCut"
explained_fault_name SlotsDiffer = codes "SlotsDiffer"
explained_fault_name StrayProbe = codes "StrayProbe"
explained_fault_name NoSize = codes "NoSize"
explained_fault_name OtherSize = codes "OtherSize"
explained_fault_name NotListed = codes "NotListed"
explained_fault_name LoneFunction = codes "LoneFunction"
explained_fault_name PaletteSnoop = codes "PaletteSnoop"
explained_fault_name VgaEnable = codes "VgaEnable"
explained_fault_name IsaEnable = codes "IsaEnable"
explained_fault_name Subtractive = codes "Subtractive"
explained_fault_name InReset = codes "InReset"
explained_fault_name PowerState = codes "PowerState"
explained_fault_name BusRange = codes "BusRange"
explained_fault_name Orphan = codes "Orphan"
explained_fault_name Unreached = codes "Unreached"
explained_fault_name Clash = codes "Clash"
explained_fault_name Split = codes "Split"
explained_fault_name Outside = codes "Outside"
explained_fault_name BadPools = codes "BadPools"
explained_fault_name NoWindow = codes "NoWindow"
explained_fault_name NoRoom = codes "NoRoom"
explained_fault_name NotAccepted = codes "NotAccepted"
explained_fault_name Fixed = codes "Fixed"
explained_fault_name Told = codes "Told"
explained_fault_name Assumed = codes "Assumed"
explained_fault_name TooManyRanges = codes "TooManyRanges"
explained_fault_name Changed = codes "Changed"
explained_fault_name Port = codes "Port"
explained_fault_name Stuck = codes "Stuck"

-- the words with which a fault's text begins
abbrev pub fault_heading : Fault → List ℕ
fault_heading fault = explained_fault_number fault ++ 32 ∷ explained_fault_name fault

-- its text, which docs/FORMATS.md and the manual page have
abbrev pub explained_fault_text : Fault → List ℕ
explained_fault_text ReadIo = READ_IO.now
explained_fault_text Memory = MEMORY.now
explained_fault_text BadSlot = BAD_SLOT.now
explained_fault_text BadTitle = BAD_TITLE.now
explained_fault_text BadLine = BAD_LINE.now
explained_fault_text NoBlank = NO_BLANK.now
explained_fault_text Order = ORDER.now
explained_fault_text TooMany = TOO_MANY.now
explained_fault_text Ended = ENDED.now
explained_fault_text WriteIo = WRITE_IO.now
explained_fault_text NoVendor = NO_VENDOR.now
explained_fault_text HeaderKind = HEADER_KIND.now
explained_fault_text BarType = BAR_TYPE.now
explained_fault_text BarMask = BAR_MASK.now
explained_fault_text BarPair = BAR_PAIR.now
explained_fault_text RomMask = ROM_MASK.now
explained_fault_text WindowMask = WINDOW_MASK.now
explained_fault_text CapRange = CAP_RANGE.now
explained_fault_text CapLoop = CAP_LOOP.now
explained_fault_text CapCut = CAP_CUT.now
explained_fault_text SlotsDiffer = SLOTS_DIFFER.now
explained_fault_text StrayProbe = STRAY_PROBE.now
explained_fault_text NoSize = NO_SIZE.now
explained_fault_text OtherSize = OTHER_SIZE.now
explained_fault_text NotListed = NOT_LISTED.now
explained_fault_text LoneFunction = LONE_FUNCTION.now
explained_fault_text PaletteSnoop = PALETTE_SNOOP.now
explained_fault_text VgaEnable = VGA_ENABLE.now
explained_fault_text IsaEnable = ISA_ENABLE.now
explained_fault_text Subtractive = SUBTRACTIVE.now
explained_fault_text InReset = IN_RESET.now
explained_fault_text PowerState = POWER_STATE.now
explained_fault_text BusRange = BUS_RANGE.now
explained_fault_text Orphan = ORPHAN.now
explained_fault_text Unreached = UNREACHED.now
explained_fault_text Clash = CLASH.now
explained_fault_text Split = SPLIT.now
explained_fault_text Outside = OUTSIDE.now
explained_fault_text BadPools = BAD_POOLS.now
explained_fault_text NoWindow = NO_WINDOW.now
explained_fault_text NoRoom = NO_ROOM.now
explained_fault_text NotAccepted = NOT_ACCEPTED.now
explained_fault_text Fixed = FIXED.now
explained_fault_text Told = TOLD.now
explained_fault_text Assumed = ASSUMED.now
explained_fault_text TooManyRanges = TOO_MANY_RANGES.now
explained_fault_text Changed = CHANGED.now
explained_fault_text Port = PORT.now
explained_fault_text Stuck = STUCK.now
