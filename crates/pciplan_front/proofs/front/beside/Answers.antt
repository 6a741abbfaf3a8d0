use Rattle.std.proofs.Common.{◌≡◌, ◌+◌, ℕ, Bor, List, map, subst}
use Rattle.std.specs.String.{string_bytes}
use Rattle.pciplan_front.specs.HereTold.{IsHereCommand, files}
use Rattle.pciplan_front.specs.Went.{went}
use Rattle.pciplan_front.proofs.front.beside.Goals as goal

pub returns-in-Here-clause-here : goal.returns-in-Here-clause-here
returns-in-Here-clause-here g c =
    let same : map (λ (w : Bor (List ℕ)). w.now) c.as_slice-words.result.now ≡ map string_bytes c.args.words.now =
    cc (c.as_slice-words.ensures.value, c.in-Ok.ensures) in
    λ first. subst
    (λ words. IsHereCommand words (files (g.M.Foldered.shown_in c.args.outside.now.machine) (g.M.Foldered.text_at c.args.outside.now.machine)) c.here.result
    (went (g.O.Sink.taken c.args.outside.now.out) (g.O.Sink.taken c.here.new.outside.out) (c.here.new.outside.out ≡ c.args.outside.now.out)
    ((x : ℕ) × (g.O.Sink.failures c.here.new.outside.out ≡ x + 1))))
    same c.here.ensures.done
