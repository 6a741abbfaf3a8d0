use Rattle.pci_spec.proofs.TextLaws.{dump_has_text, dump_has_one_text, text_is_of_one_dump}
use Rattle.pci_spec.proofs.BlockLaws.{dump_lists_slots_in_order, block_without_title_has_length, block_has_most_length, longest_block_is_there}
use Rattle.pci_spec.proofs.PlainText.{block_without_title_is_plain, dump_has_room, largest_dump_is_there}
use Rattle.pci_spec.proofs.text_laws.dumps_have_one_text.Goals as goal

pub returns-clause-some : goal.returns-clause-some
returns-clause-some c = dump_has_text

pub returns-clause-one : goal.returns-clause-one
returns-clause-one c = dump_has_one_text

pub returns-clause-back : goal.returns-clause-back
returns-clause-back c = text_is_of_one_dump

pub returns-clause-slots : goal.returns-clause-slots
returns-clause-slots c = dump_lists_slots_in_order

pub returns-clause-short : goal.returns-clause-short
returns-clause-short c = block_without_title_has_length

pub returns-clause-most : goal.returns-clause-most
returns-clause-most c = block_has_most_length

pub returns-clause-longest : goal.returns-clause-longest
returns-clause-longest c = longest_block_is_there

pub returns-clause-plain : goal.returns-clause-plain
returns-clause-plain c = block_without_title_is_plain

pub returns-clause-room : goal.returns-clause-room
returns-clause-room c = dump_has_room

pub returns-clause-largest : goal.returns-clause-largest
returns-clause-largest c = largest_dump_is_there
