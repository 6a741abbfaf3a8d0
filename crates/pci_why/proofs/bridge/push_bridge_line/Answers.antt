use Rattle.std.proofs.Common.{◌++◌, ◌∙◌, ap, sym, Option}
use Rattle.std.specs.Option.{option_map}
use Rattle.std.specs.String.{string_bytes}
use Rattle.std.proofs.lemmas.Result.{on_ok_weaker}
use Rattle.pci_base.specs.Space.{space_of, is_on}
use Rattle.pci_image.specs.Windows.{decoded_windows_of}
use Rattle.pci_function.specs.declared.record.Bridge.{Bridge}
use Rattle.pci_function.specs.Values.{record_value, bridge_value}
use Rattle.judge_spec.specs.Why.{isa_words, unclaimed_words, legacy_words}
use Rattle.pci_claims.specs.Values.{code_given_value}
use Rattle.pci_why.specs.Bridges.{bridge_text}
use Rattle.pci_why.proofs.LegacyWords.{line_ended, two_words}
use Rattle.pci_why.proofs.bridge.push_bridge_line.Goals as goal

pub returns : goal.returns
returns g c =
    let given = code_given_value c.args.given.now in
    let start = string_bytes c.args.text.now in
    let space = space_of c.args.space in
    let slot = c.args.function.now.slot in
    on_ok_weaker c.end_line.result
    (λ last. line_ended start _ _ (string_bytes c.end_line.new.text) slot (is_on c.args.function.now.command space) space c.args.prefetch (decoded_windows_of c.in-Some.bridge.windows) (isa_words given space slot ++ unclaimed_words given slot ++ legacy_words given slot)
    c.in_ok-push_bridge.ensures (two_words _ _ _ (isa_words given space slot ++ unclaimed_words given slot) (legacy_words given slot)
    (two_words _ _ _ (isa_words given space slot) (unclaimed_words given slot) c.in_ok-push_isa_word.ensures c.in_ok-push_unclaimed_word.ensures) c.in_ok-push_legacy_word.ensures) last
    ∙ ap (λ (o : Option Bridge). start ++ bridge_text given (record_value c.args.function.now) space c.args.prefetch (option_map bridge_value o)) (sym c.in-Some.is))
    c.end_line.ensures
