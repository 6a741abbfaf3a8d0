use Rattle.std.proofs.Common.{inl, inr, sym}
use Rattle.pciplan_front.proofs.documents.json.Goals as goal

pub returns-in-Ok-clause-done : goal.returns-in-Ok-clause-done
returns-in-Ok-clause-done g c = record {
  done = λ small. rw (sym c.in-Ok.ensures.silent) (c.in-Ok.line, c.in-Ok.ensures.line, c.carry_out.ensures.done small);
  refused = λ two. inr (c.in-Ok.line, c.in-Ok.ensures.line, c.carry_out.ensures.refused two);
  quiet = c.carry_out.ensures.quiet;
  begun = λ four. elim (c.carry_out.ensures.begun four) [
    | inl same ↦ inl same
    | inr begun ↦ inr (c.in-Ok.line, c.in-Ok.ensures.line, begun)
  ];
  failed = λ four. elim (c.carry_out.ensures.failed four) [
    | inl failed ↦ inl failed
    | inr unread ↦ inr (rw c.carry_out.ensures.third (c.in-Ok.ensures.failed unread))
  ];
  known = c.carry_out.ensures.known;
}
