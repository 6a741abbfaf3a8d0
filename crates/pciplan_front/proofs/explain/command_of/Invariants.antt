use Rattle.std.proofs.Common.{◌≡◌, find}
use Rattle.std.specs.Array.Iter.{array_into_iter_items}
use Rattle.pciplan_front.specs.Explained.{named_command, names_command}
use Rattle.pciplan_front.proofs.explain.command_of.Given as goal

abbrev pub invariant-loop-command : goal.invariant-loop-command
invariant-loop-command l = find (names_command l.word) (array_into_iter_items l.command-iterator) ≡ named_command l.word
