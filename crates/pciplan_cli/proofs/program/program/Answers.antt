use Rattle.std.proofs.Common.{inl, inr, map, sym}
use Rattle.std.specs.String.{string_bytes}
use Rattle.pciplan_cli.specs.CarriedOut.{texts}
use Rattle.pciplan_cli.specs.Invocations.{IsInvocationOf, HasBadWords}
use Rattle.pciplan_cli.proofs.Invocations.{with_line, with_line_ok}
use Rattle.pciplan_cli.proofs.program.program.Goals as goal

pub returns-in-Ok-clause-done : goal.returns-in-Ok-clause-done
returns-in-Ok-clause-done g c = λ done.
    rw (sym c.in-Ok.ensures.silent)
    (with_line (λ given. λ line. IsInvocationOf (map string_bytes given.items) (texts (g.P.Opening.stands c.args.outside.now.third) (g.P.Opening.bytes_at c.args.outside.now.third)) line) _ c.args.words c.in-Ok.line c.in-Ok.ensures.line (c.carry_out.ensures.done done))

pub returns-in-Ok-clause-begun : goal.returns-in-Ok-clause-begun
returns-in-Ok-clause-begun g c = λ failed. elim (c.carry_out.ensures.begun failed) [
  | inl same ↦ inl same
  | inr begun ↦ inr (with_line (λ given. λ line. IsInvocationOf (map string_bytes given.items) (texts (g.P.Opening.stands c.args.outside.now.third) (g.P.Opening.bytes_at c.args.outside.now.third)) line) _ c.args.words c.in-Ok.line c.in-Ok.ensures.line begun)
]

pub returns-in-Ok-clause-refused : goal.returns-in-Ok-clause-refused
returns-in-Ok-clause-refused g c = λ refused.
    with_line_ok (λ given. λ line. IsInvocationOf (map string_bytes given.items) (texts (g.P.Opening.stands c.args.outside.now.third) (g.P.Opening.bytes_at c.args.outside.now.third)) line) _ (λ given. HasBadWords (map string_bytes given.items)) c.args.words c.in-Ok.line
    c.in-Ok.ensures.line (c.carry_out.ensures.refused refused)

pub returns-in-Ok-clause-failed : goal.returns-in-Ok-clause-failed
returns-in-Ok-clause-failed g c = λ four. elim (c.carry_out.ensures.failed four) [
  | inl failed ↦ inl failed
  | inr unread ↦ inr (rw c.carry_out.ensures.third (c.in-Ok.ensures.failed unread))
]
