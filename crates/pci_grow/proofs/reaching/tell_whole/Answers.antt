use Rattle.std.proofs.Common.{◌≡◌, inl, inr, get_or, false, arith, ap, sym, subst, ◌∙◌}
use Rattle.std.proofs.lemmas.Bool.{cases_lt}
use Rattle.std.proofs.lemmas.List.{get_or_default}
use Rattle.pci_grow.specs.Reaching.{tells_whole}
use Rattle.pci_grow.proofs.reaching.tell_whole.Goals as goal

pub loop-k-preserved : goal.loop-k-preserved
loop-k-preserved c = λ k d low less. elim (cases_lt k c.loop-k.k) [
  | inl under ↦ c.loop-k.invariant k d low under
  | inr past ↦
      subst (λ n. tells_whole (get_or c.args.reaches.now n d) ≡ false) (omega (arith, less, past))
      (ap tells_whole (get_or_default c.args.reaches.now c.loop-k.k d _ c.loop-k-test.true) ∙ sym c.tells_whole.ensures ∙ c.if-tells_whole.false)
]
