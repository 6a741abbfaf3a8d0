use Rattle.std.proofs.Common.{◌≡◌, List, ℕ, Bor, map, inl, inr, sym, subst}
use Rattle.pciplan_cli.specs.CarriedOut.{texts}
use Rattle.pciplan_cli.specs.Invocations.{IsInvocationOf}
use Rattle.pciplan_front.specs.PictureAsked.{map_words}
use Rattle.pciplan_front.proofs.drawn.picture.Goals as goal

pub returns-in-Ok-start-clause-done : goal.returns-in-Ok-start-clause-done
returns-in-Ok-start-clause-done g c =
    let items : c.as_slice.result.now ≡ c.in-Ok.words.items = cc (c.as_slice.ensures.value) in
    let words : map (λ (w : Bor (List ℕ)). w.now) c.as_slice.result.now ≡ map_words (map (λ (w : Bor (List ℕ)). w.now) c.args.words.now) =
    rw items c.in-Ok.ensures in
    let line : IsInvocationOf (map_words (map (λ (w : Bor (List ℕ)). w.now) c.args.words.now)) (texts (g.P.Opening.stands c.args.outside.now.third) (g.P.Opening.bytes_at c.args.outside.now.third)) c.in-Ok-start.line =
    subst (λ (ws : List (List ℕ)). IsInvocationOf ws (texts (g.P.Opening.stands c.args.outside.now.third) (g.P.Opening.bytes_at c.args.outside.now.third)) c.in-Ok-start.line) words c.in-Ok-start.ensures.line in
    record {
      done = λ small. rw (sym c.in-Ok-start.ensures.silent) (c.in-Ok-start.line, line, c.draw.ensures.done small);
      refused = λ two. inr (c.in-Ok-start.line, line, c.draw.ensures.refused two);
      quiet = c.draw.ensures.quiet;
      begun = λ four. elim (c.draw.ensures.begun four) [
        | inl same ↦ inl same
        | inr begun ↦ inr (c.in-Ok-start.line, line, begun)
      ];
      failed = λ four. elim (c.draw.ensures.failed four) [
        | inl failed ↦ inl failed
        | inr unread ↦ inr (rw c.draw.ensures.third (c.in-Ok-start.ensures.failed unread))
      ];
      known = c.draw.ensures.known;
    }
