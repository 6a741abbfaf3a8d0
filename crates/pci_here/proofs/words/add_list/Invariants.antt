use Rattle.std.proofs.Common.{◌++◌, drop, map}
use denote.Shadow.{shadow}
use denote.Text.{Utf8}
use Rattle.std.specs.String.{string_bytes}
use Rattle.pci_here.specs.Words.{option_text, range_word}
use Rattle.pci_here.proofs.Options.{IsWhole}
use Rattle.pci_here.proofs.words.add_list.Given as goal

abbrev pub invariant-loop-range : goal.invariant-loop-range
invariant-loop-range l =
    shadow (Utf8 l.before)
    × IsWhole (string_bytes l.text) l.before (map range_word (drop l.range-index l.list)) (string_bytes l.initial.text ++ option_text l.fn.option (map range_word l.list))
