use Rattle.std.proofs.Common.{◌++◌, map}
use denote.Shadow.{shadow}
use denote.Text.{Utf8}
use Rattle.std.specs.Prelude.{codes}
use Rattle.std.specs.String.{string_bytes}
use Rattle.pci_spec.specs.Text.{hex_byte}
use Rattle.pci_tree.specs.Roots.{buses_of}
use Rattle.pci_here.specs.Words.{option_text}
use Rattle.pci_here.proofs.Options.{IsWhole, roots_from}
use Rattle.pci_here.proofs.words.add_roots.Given as goal

abbrev pub invariant-loop-bus : goal.invariant-loop-bus
invariant-loop-bus l =
    shadow (Utf8 l.before)
    × IsWhole (string_bytes l.text) l.before (map hex_byte (roots_from l.roots.flags l.bus)) (string_bytes l.initial.text ++ option_text (codes "--root ") (map hex_byte (buses_of l.roots)))
