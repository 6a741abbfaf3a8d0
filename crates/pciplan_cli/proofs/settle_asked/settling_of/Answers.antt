use Rattle.std.proofs.Common.{ap, refl, rules, subst}
use Rattle.std.specs.Prelude.{MatchOption}
use Rattle.pciplan_cli.specs.OptionWords.{AreRootsOf, HasNoRoots}
use Rattle.pciplan_tasks.specs.declared.task.SettleRequest.{SettleRequest}
use Rattle.pciplan_tasks.specs.declared.task.Task.TheVariants as task
use Rattle.pciplan_cli.specs.SettleAsked.{HasFixed, HasSpare}
use Rattle.pciplan_cli.proofs.SettlingWords.{have_fixed}
use Rattle.pciplan_cli.proofs.settle_asked.settling_of.Goals as goal

pub returns : goal.returns
returns c =
    let request : SettleRequest = record {
      roots = c.in_ok-roots.roots;
      lists = record { io = c.in_ok-list_of.field-0; mem = c.in_ok-list_of-2.field-0; pref = c.in_ok-list_of-3.field-0 };
      fixed = c.in_ok-fixed_of.field-0;
      anew = c.args.asked.now.anew;
      also = c.nothing.result;
      words = c.in_ok-words.words;
      spares = c.in_ok-spares_of.field-0;
      slots = c.in_ok-slots_of.field-0;
    } in
    record {
      request = request;
      are_roots = subst (λ o. MatchOption o (HasNoRoots c.args.asked.now.root) (AreRootsOf c.args.asked.now.root)) c.in_ok-roots.ensures.ok_part c.roots_of.ensures;
      are_words = c.in_ok-words.ensures;
      io = c.in_ok-list_of.ensures;
      mem = c.in_ok-list_of-2.ensures;
      pref = c.in_ok-list_of-3.ensures;
      fixed = c.in_ok-fixed_of.ensures;
      anew = refl;
      untold = c.nothing.ensures;
      spares = c.in_ok-spares_of.ensures;
      slots = c.in_ok-slots_of.ensures;
      is = ap (task.Settle request) c.printed_of.ensures;
    }

pub returns-in_err-spares_of : goal.returns-in_err-spares_of
returns-in_err-spares_of c =
    let before : HasFixed c.args.asked.now =
    have_fixed c.args.asked.now c.in_ok-roots.roots c.in_ok-words.words c.in_ok-list_of.field-0 c.in_ok-list_of-2.field-0 c.in_ok-list_of-3.field-0 c.in_ok-fixed_of.field-0
    (subst (λ o. MatchOption o (HasNoRoots c.args.asked.now.root) (AreRootsOf c.args.asked.now.root)) c.in_ok-roots.ensures.ok_part c.roots_of.ensures)
    c.in_ok-words.ensures c.in_ok-list_of.ensures c.in_ok-list_of-2.ensures c.in_ok-list_of-3.ensures c.in_ok-fixed_of.ensures in
    search (rules, before)

pub returns-in_err-slots_of : goal.returns-in_err-slots_of
returns-in_err-slots_of c =
    let before : HasSpare c.args.asked.now = (
      have_fixed c.args.asked.now c.in_ok-roots.roots c.in_ok-words.words c.in_ok-list_of.field-0 c.in_ok-list_of-2.field-0 c.in_ok-list_of-3.field-0 c.in_ok-fixed_of.field-0
          (subst (λ o. MatchOption o (HasNoRoots c.args.asked.now.root) (AreRootsOf c.args.asked.now.root)) c.in_ok-roots.ensures.ok_part c.roots_of.ensures)
          c.in_ok-words.ensures c.in_ok-list_of.ensures c.in_ok-list_of-2.ensures c.in_ok-list_of-3.ensures c.in_ok-fixed_of.ensures,
      (c.in_ok-spares_of.field-0, c.in_ok-spares_of.ensures),
    ) in
    search (rules, before)
