-- Bridges of the class of subtractive decoding, by the blocks of a dump.
use Rattle.std.specs.Prelude.{Bool, List, map, ◌&&◌, ◌==◌, not, if◌then◌else◌}
use Rattle.std.specs.List.{filter}
use Rattle.pci_spec.specs.Slot.{Slot, same_slot}
use Rattle.pci_spec.specs.Text.{Block}
use Rattle.pci_spec.specs.System.{System, Function, function_of, system_of}
use Rattle.pci_spec.specs.Fault.{is_subtractive_bridge}
use Rattle.judge_spec.specs.Words.{unclaimed_aside}
use Rattle.judge_spec.specs.ModelWords.{Words}
use Rattle.judge_spec.specs.Taken.{takes_by}

-- whether a block is of another function of this class on the bus of a slot
abbrev pub is_rival_block : Slot → Block → Bool
is_rival_block slot b =
    is_subtractive_bridge b.image && b.slot.bus == slot.bus && not (same_slot b.slot slot)

-- a function of a system, positive where it is alone of its class on its bus and what it takes is given beside the system
abbrev pub unclaimed_aside_of : Words → System → Function → Function
unclaimed_aside_of w s f = if w.unclaimed then unclaimed_aside s f else f

-- whether a block is of a bridge that takes what nobody claims: no read back says so
abbrev pub takes_block : Words → List Block → Block → Bool
takes_block w dump b = takes_by w (system_of dump dump) (function_of b b)

-- the slots of those among some blocks of a dump
abbrev pub taking_blocks : Words → List Block → List Block → List Slot
taking_blocks w dump blocks = map (λ b. b.slot) (filter (takes_block w dump) blocks)
