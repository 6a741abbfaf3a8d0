use Rattle.std.proofs.Common.{arith, ◌≡◌, ◌++◌, ◌∷◌, [], ◌+◌, ◌^◌, refl, ap, ◌∙◌}
use Rattle.json.proofs.OnLiterals.{json_on_literals}
use Rattle.json.specs.Word.{after_number}
use Rattle.std.proofs.lemmas.Result.{on_ok_weaker}
use Rattle.json.specs.Token.{Token}
use Rattle.pci_json.proofs.Largest.{largest}
use Rattle.pci_json.proofs.output.Output.next_number.Goals as goal

pub number_text-requires : goal.number_text-requires
unfolding json_on_literals after_number
number_text-requires g c = refl

pub returns-in-None : goal.returns-in-None
returns-in-None g c =
    let most : c.args.less + 1 ≡ 2 ^ 64 = omega (arith, c.in-None.ensures) in
    on_ok_weaker c.number_text.result (λ e. e ∙ ap (λ n. c.args.self.now ++ Token.number n ∷ []) (largest (c.args.less + 1) most)) c.number_text.ensures
