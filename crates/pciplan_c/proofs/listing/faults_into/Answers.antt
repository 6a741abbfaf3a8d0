use Rattle.std.proofs.lemmas.Result.{IfErr-weaker}
use Rattle.pciplan_c.proofs.Listings.{list_put_if, list_too_long}
use Rattle.pciplan_c.proofs.listing.faults_into.Goals as goal

pub returns-in-Ok-clause-told : goal.returns-in-Ok-clause-told
returns-in-Ok-clause-told c =
    list_put_if c.args.inputs.now.roots.now c.args.inputs.now.dump.now c.args.inputs.now.probe.now c.args.words.now c.in-Ok.reply c.args.text.now c.put_list.new.text c.put_list.result
    c.in-Ok.ensures.list c.put_list.ensures.put c.put_list.ensures.told

pub returns-in-Ok-clause-room : goal.returns-in-Ok-clause-room
returns-in-Ok-clause-room c =
    IfErr-weaker c.put_list.result _ _
    (λ held longer. list_too_long c.args.inputs.now.roots.now c.args.inputs.now.dump.now c.args.inputs.now.probe.now c.args.words.now c.in-Ok.reply c.args.text.now held c.in-Ok.ensures.list longer)
    c.put_list.ensures.needed
