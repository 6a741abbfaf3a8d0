use Rattle.std.proofs.Common.{arith, ◌≡◌, ◌<◌, ◌+◌, ◌*◌, ◌%◌, ◌^◌, ◌∙◌, ap}
use Rattle.std.proofs.lemmas.Nat.{shl_whole}
use Rattle.pci_base.proofs.bounds.joined.Goals as goal

pub returns : goal.returns
returns c =
    let second = c.args.second in
    let small : second < 2 ^ 16 = omega arith in
    let turned : second * 2 ^ c.args.bit ≡ 2 ^ c.args.bit * second = omega arith in
    ap (λ n. n + c.from-2.result * 2 ^ c.args.bit % 2 ^ 32) c.from.ensures
    ∙ ap (λ n. c.args.first + n * 2 ^ c.args.bit % 2 ^ 32) c.from-2.ensures
    ∙ ap (λ n. c.args.first + n) (shl_whole second 16 c.args.bit 32 small (omega (arith, c.requires)) ∙ turned)
