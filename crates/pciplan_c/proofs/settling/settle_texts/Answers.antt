use Rattle.std.proofs.Common.{rules, inr, sym, subst}
use Rattle.pci_tree.specs.Roots.{IsRootList}
use Rattle.pciplan_c.specs.Texts.{AreNotAdmitted}
use Rattle.pciplan_c.specs.SettleAnswers.{IsUnreadBehind}
use Rattle.pciplan_c.proofs.Settlings.{have_meaning, unread_behind}
use Rattle.pciplan_c.proofs.settling.settle_texts.Goals as goal

pub returns-in_default-empty_place-clause-memory :
    goal.returns-in_default-empty_place-clause-memory
returns-in_default-empty_place-clause-memory g c = λ is.
    let rising : IsRootList c.args.inputs.now.roots.now = search rules in
    let asks = c.in-Ok.ensures.asked c.args.inputs.now.roots.now c.in-Some.ensures.buses in
    (rising, inr (have_meaning c.args.words.now c.in-Ok.asked asks.by))

pub returns-in-Err-Fault-admit_texts-clause-why : goal.returns-in-Err-Fault-admit_texts-clause-why
returns-in-Err-Fault-admit_texts-clause-why g c =
    let rising : IsRootList c.args.inputs.now.roots.now = search rules in
    let asks = c.in-Ok.ensures.asked c.args.inputs.now.roots.now c.in-Some.ensures.buses in
    let why = c.in-Err-Fault-admit_texts.ensures.why c.args.inputs.now.roots.now c.in-Some.ensures.buses rising in
    let unread = subst (λ e. AreNotAdmitted c.args.inputs.now.roots.now c.args.inputs.now.dump.now c.args.inputs.now.probe.now e) c.in-Err-Fault-admit_texts.field-0-is why in
    subst (λ why. IsUnreadBehind c.args.inputs.now.roots.now c.args.inputs.now.dump.now c.args.inputs.now.probe.now c.args.words.now why) (sym c.in-Err-Fault-admit_texts.why-is)
    (unread_behind c.args.inputs.now.roots.now c.args.inputs.now.dump.now c.args.inputs.now.probe.now c.args.words.now c.in-Ok.asked c.in-Err-Fault-admit_texts.why asks unread)

pub returns-in-Err-Memory-admit_texts-clause-memory :
    goal.returns-in-Err-Memory-admit_texts-clause-memory
returns-in-Err-Memory-admit_texts-clause-memory g c = λ is.
    let rising : IsRootList c.args.inputs.now.roots.now = search rules in
    let asks = c.in-Ok.ensures.asked c.args.inputs.now.roots.now c.in-Some.ensures.buses in
    (rising, inr (have_meaning c.args.words.now c.in-Ok.asked asks.by))

pub returns-in-Ok-put_settled-clause-put : goal.returns-in-Ok-put_settled-clause-put
returns-in-Ok-put_settled-clause-put g c =
    let asks = c.in-Ok.ensures.asked c.args.inputs.now.roots.now c.in-Some.ensures.buses in
    let put = c.in-Ok-put_settled.ensures.put in
    search (rules, asks, put)

pub returns-clause-why : goal.returns-clause-why
returns-clause-why g c =
    let asks = c.in-Ok.ensures.asked c.args.inputs.now.roots.now c.in-Some.ensures.buses in
    let why = c.in-Err.ensures.why in
    search (rules, asks, why)

pub returns-clause-memory : goal.returns-clause-memory
returns-clause-memory g c = λ is.
    let rising : IsRootList c.args.inputs.now.roots.now = search rules in
    let asks = c.in-Ok.ensures.asked c.args.inputs.now.roots.now c.in-Some.ensures.buses in
    (rising, inr (have_meaning c.args.words.now c.in-Ok.asked asks.by))
