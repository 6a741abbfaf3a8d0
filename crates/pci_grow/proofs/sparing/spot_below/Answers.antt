use Rattle.std.proofs.Common.{ℕ, ◌+◌, ◌-◌, ◌<◌, ◌^◌, inl, inr, rules, arith, subst}
use Rattle.std.proofs.lemmas.Bool.{cases_lt}
use Rattle.pci_grow.proofs.sparing.spot_below.Goals as goal

past : (highest last : ℕ) → highest < 2 ^ 64 → (last < 2 ^ 64 → ⊥) → highest < last
past highest last small never = elim (cases_lt last (2 ^ 64)) [ inl ends ↦ absurd (never ends) | inr over ↦ omega (arith, over, small) ]

pub returns-in_default-clause-spot : goal.returns-in_default-clause-spot
returns-in_default-clause-spot c =
    let small : c.args.extent.highest < 2 ^ 64 = search rules in
    past _ _ small c.in_default.ensures.place

pub returns-then-extent-last-clause-spot : goal.returns-then-extent-last-clause-spot
returns-then-extent-last-clause-spot c = subst (λ n. c.args.extent.highest < n + (c.args.extent.size - 1)) c.in-Some.ensures.place.1 c.if-extent-last.true

pub returns-clause-spot : goal.returns-clause-spot
returns-clause-spot c = (c.in-Some.ensures.place.1, c.if-extent-last.false)
