use Rattle.std.proofs.Common.{◌≡◌, ℕ, ◌+◌, Option, refl, rules, subst, inl, inr}
use Rattle.pci_here.specs.Log.{log_of}
use Rattle.pci_here.specs.Shown.{Shown}
use Rattle.pciplan_front.specs.HereTold.{AreAsked, AreNotHad}
use Rattle.pciplan_front.proofs.HerePieces.{told_of_list}
use Rattle.pciplan_front.proofs.here.here.Goals as goal

pub returns-in-Err-asked_log-clause-done : goal.returns-in-Err-asked_log-clause-done
returns-in-Err-asked_log-clause-done g c =
    inl (
      inr (inl record {
        asked = c.in-Ok.asked;
        of_words = c.in-Ok.ensures;
        trouble = c.in-Err-asked_log.trouble;
        is_not = c.in-Err-asked_log.ensures;
        status_is = search rules;
      }),
      refl,
    )

pub returns-in-Err-asked_domains-clause-done : goal.returns-in-Err-asked_domains-clause-done
returns-in-Err-asked_domains-clause-done g c =
    inl (
      inr (inr record {
        asked = c.in-Ok.asked;
        of_words = c.in-Ok.ensures;
        log = log_of c.in-Ok-asked_log.log;
        is_log = c.in-Ok-asked_log.ensures;
        trouble = c.in-Err-asked_domains.trouble;
        are_not =
            subst (λ (s : Option Shown). AreNotHad s c.in-Ok.asked.domain c.in-Err-asked_domains.trouble)
            c.look_in.ensures c.in-Err-asked_domains.ensures;
        status_is = search rules;
      }),
      refl,
    )

pub returns-clause-done : goal.returns-clause-done
returns-clause-done g c =
    inr record {
      asked = c.in-Ok.asked;
      of_words = c.in-Ok.ensures;
      log = log_of c.in-Ok-asked_log.log;
      is_log = c.in-Ok-asked_log.ensures;
      domains = c.in-Ok-asked_domains.domains.items;
      are =
          subst (λ (s : Option Shown). AreAsked s c.in-Ok.asked.domain c.in-Ok-asked_domains.domains.items)
          c.look_in.ensures c.in-Ok-asked_domains.ensures;
      tells =
          told_of_list (g.M.Machine.shown c.look_in.new.self) _ c.in-Ok.asked.what c.len.result c.as_slice.result.now
          c.in-Ok-asked_domains.domains.items c.tell_domains.result (g.O.Sink.taken c.args.outside.now.out)
          (g.O.Sink.taken c.tell_domains.new.out) (c.tell_domains.new.out ≡ c.args.outside.now.out)
          ((before : ℕ) × (g.O.Sink.failures c.tell_domains.new.out ≡ before + 1)) c.look_in.ensures (search rules)
          c.as_slice.ensures.value c.tell_domains.ensures.told;
    }
