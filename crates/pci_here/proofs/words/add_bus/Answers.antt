use Rattle.std.proofs.Common.{◌≡◌, ◌++◌, ◌∙◌, ap, rules}
use Rattle.std.specs.String.{string_bytes}
use Rattle.std.proofs.lemmas.Fmt.{hex_byte as byte_written}
use Rattle.std.proofs.lemmas.List.{append_assoc}
use Rattle.pci_spec.specs.Text.{hex_byte}
use Rattle.pci_here.proofs.words.add_bus.Goals as goal

pub returns : goal.returns
returns c =
    let written : string_bytes c.write.new.self ≡ string_bytes c.push_str.new.self ++ hex_byte c.args.bus = search (rules, byte_written) in
    written ∙ ap (λ t. t ++ hex_byte c.args.bus) c.in_ok-push_str.ensures.bytes ∙ append_assoc (string_bytes c.args.text.now) c.args.before.now (hex_byte c.args.bus)
