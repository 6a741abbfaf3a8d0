-- Each bus with a node that is found is the root, or in the ranges of the bridges above it alone.
use Rattle.std.proofs.Common.{◌+◌, length, refl, arith}
use Rattle.pci_number.specs.Numbered.{secondaries}
use Rattle.pci_number.specs.Room.{last_behind}
use Rattle.pci_number.specs.NumberingLaws.{FoundAnswersOnce, RoomyAnswersOnce}
use Rattle.pci_number.proofs.InOrder.{top, run_from, ranged}
use Rattle.pci_number.proofs.Roomy.{roomy}
use Rattle.pci_number.proofs.Found.{answers_once}
use Rattle.pci_number.proofs.Among.{among_roots_answers_once}
use Rattle.pci_number.proofs.numbering_laws.nodes_that_are_found_answer_once.Goals as goal

found_answers_once : FoundAnswersOnce
found_answers_once root last before after numbered place found =
    answers_once root (top root last 0) (top root last (0 + length (secondaries after))) after (λ bus low high. omega arith)
    (ranged root last 0 root after (secondaries after) refl (run_from root last 0 (secondaries after) numbered.order) numbered.ranges) place found

roomy_answers_once : RoomyAnswersOnce
roomy_answers_once room root last before after numbered place found =
    answers_once root root (last_behind root after) after (λ bus low high. low) (roomy room last root root after numbered.numbers) place found

pub returns-clause-once : goal.returns-clause-once
returns-clause-once c = found_answers_once

pub returns-clause-roomy : goal.returns-clause-roomy
returns-clause-roomy c = roomy_answers_once

pub returns-clause-among : goal.returns-clause-among
returns-clause-among c = among_roots_answers_once
