-- The commands that are explained.
use Rattle.std.specs.Prelude.{ℕ, List, ◌++◌, codes}
use Rattle.pciplan_front.specs.declared.command.Command.{Command}
use Rattle.pciplan_front.specs.declared.command.Command.TheVariants.{Here, Show, Check, Faults, Map, Size, Plan, Settle, Probe, Json, Picture, Explain, Version}
use Rattle.pciplan_front.specs.declared.command_texts.TheConstants.{HERE, SHOW, CHECK, FAULTS, MAP, SIZE, PLAN, SETTLE, PROBE, JSON, PICTURE, EXPLAIN, VERSION}

abbrev pub explained_command_name : Command → List ℕ
explained_command_name Here = codes "here"
explained_command_name Show = codes "show"
explained_command_name Check = codes "check"
explained_command_name Faults = codes "faults"
explained_command_name Map = codes "map"
explained_command_name Size = codes "size"
explained_command_name Plan = codes "plan"
explained_command_name Settle = codes "settle"
explained_command_name Probe = codes "probe"
explained_command_name Json = codes "json"
explained_command_name Picture = codes "picture"
explained_command_name Explain = codes "explain"
explained_command_name Version = codes "version"

-- the words with which a command's text begins
abbrev pub command_heading : Command → List ℕ
command_heading command = codes "pciplan " ++ explained_command_name command

-- its text, which the manual page has
abbrev pub command_text : Command → List ℕ
command_text Here = HERE.now
command_text Show = SHOW.now
command_text Check = CHECK.now
command_text Faults = FAULTS.now
command_text Map = MAP.now
command_text Size = SIZE.now
command_text Plan = PLAN.now
command_text Settle = SETTLE.now
command_text Probe = PROBE.now
command_text Json = JSON.now
command_text Picture = PICTURE.now
command_text Explain = EXPLAIN.now
command_text Version = VERSION.now
