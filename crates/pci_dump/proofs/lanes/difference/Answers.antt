use Rattle.std.proofs.Common.{◌∙◌, sym, ap, arith, take, length}
use Rattle.std.proofs.lemmas.List.{take_all}
use Rattle.std.proofs.lemmas.Simd.{length-zip2}
use Rattle.pci_spec.proofs.Forms.{small_take}
use Rattle.pci_dump.proofs.SixteenLanes.{minus, same_vectors}
use Rattle.pci_dump.proofs.lanes.difference.Goals as goal

pub returns-clause-long : goal.returns-clause-long
returns-clause-long c =
    let a = ap length (take_all 16 c.args.part.now (omega arith)) ∙ c.requires.part in
    let b = ap length (take_all 16 c.args.other.now (omega arith)) ∙ c.requires.other in
    length-zip2 minus (take 16 c.args.part.now) (take 16 c.args.other.now) (a ∙ sym b) ∙ a

pub returns-clause-same : goal.returns-clause-same
returns-clause-same c = λ zero.
    let a = take_all 16 c.args.part.now (omega arith) in
    let b = take_all 16 c.args.other.now (omega arith) in
    sym a ∙ same_vectors (take 16 c.args.part.now) (take 16 c.args.other.now) (ap length a ∙ c.requires.part) (ap length b ∙ c.requires.other) (small_take 16 c.args.part.now (λ k. let fits = c.type_inv.part k in omega (arith, fits)))
    (small_take 16 c.args.other.now (λ k. let fits = c.type_inv.other k in omega (arith, fits))) zero ∙ b
