use Rattle.std.proofs.Common.{◌<◌, ◌∷◌, [], ◌∙◌, ap, sym, subst, arith}
use Rattle.std.proofs.lemmas.Grind.{common_steps}
use Rattle.pci_listing.proofs.HexPushes.{digit_ascii}
use Rattle.pci_listing.proofs.hex_text.push_digit.Goals as goal

pub returns : goal.returns
returns g c =
    let is = c.from.ensures ∙ c.digit_of.ensures in
    let ascii : c.from.result < 128 = subst (λ d. d < 128) (sym is) (digit_ascii c.args.number c.requires) in
    let same = c.push.ensures.ascii ascii ∙ ap (λ d. d ∷ []) is in
    grind (arith, common_steps, same, c.push.ensures.bytes)
