use Rattle.std.proofs.Common.{◌++◌}
use Rattle.pci_tree.specs.Roots.{buses_of}
use Rattle.pci_check.specs.SideBySide.{Texts}
use Rattle.pci_check.proofs.Beside.{survey_of_texts}
use Rattle.pci_check.proofs.side_by_side.survey_texts.Goals as goal

pub take_pairs-requires-clause-beside : goal.take_pairs-requires-clause-beside
take_pairs-requires-clause-beside g c =
    let texts : Texts = record { dump_left = g.D.Source.left c.args.dump.now; dump_failures = g.D.Source.failures c.args.dump.now; probe_left = g.P.Source.left c.args.probe.now; probe_failures = g.P.Source.failures c.args.probe.now } in
    (texts, buses_of c.args.roots, c.new-both.ensures.beside texts)

pub returns-in-Err-read_out-clause-fault : goal.returns-in-Err-read_out-clause-fault
returns-in-Err-read_out-clause-fault g c =
    let texts : Texts = record { dump_left = g.D.Source.left c.args.dump.now; dump_failures = g.D.Source.failures c.args.dump.now; probe_left = g.P.Source.left c.args.probe.now; probe_failures = g.P.Source.failures c.args.probe.now } in
    let decided = c.in-Ok.ensures.pairs texts (buses_of c.args.roots) (c.new-both.ensures.beside texts) in
    c.in-Err-read_out.ensures.fault texts.dump_left texts.dump_failures decided.dump decided.dump_taken

pub returns-in-Err-read_out-2-clause-fault : goal.returns-in-Err-read_out-2-clause-fault
returns-in-Err-read_out-2-clause-fault g c =
    let texts : Texts = record { dump_left = g.D.Source.left c.args.dump.now; dump_failures = g.D.Source.failures c.args.dump.now; probe_left = g.P.Source.left c.args.probe.now; probe_failures = g.P.Source.failures c.args.probe.now } in
    let decided = c.in-Ok.ensures.pairs texts (buses_of c.args.roots) (c.new-both.ensures.beside texts) in
    let rest = c.in-Ok-read_out.ensures.rest texts.dump_left texts.dump_failures decided.dump decided.dump_taken in
    (record { dump = decided.dump ++ rest.0; text = rest.2; whole = rest.3 }, c.in-Err-read_out-2.ensures.fault texts.probe_left texts.probe_failures decided.probe decided.probe_taken)

pub returns-clause-survey : goal.returns-clause-survey
returns-clause-survey g c =
    let texts : Texts = record { dump_left = g.D.Source.left c.args.dump.now; dump_failures = g.D.Source.failures c.args.dump.now; probe_left = g.P.Source.left c.args.probe.now; probe_failures = g.P.Source.failures c.args.probe.now } in
    let decided = c.in-Ok.ensures.pairs texts (buses_of c.args.roots) (c.new-both.ensures.beside texts) in
    let dump_rest = c.in-Ok-read_out.ensures.rest texts.dump_left texts.dump_failures decided.dump decided.dump_taken in
    let probe_rest = c.in-Ok-read_out-2.ensures.rest texts.probe_left texts.probe_failures decided.probe decided.probe_taken in
    survey_of_texts texts (buses_of c.args.roots) _ _ _ decided dump_rest.0 probe_rest.0 dump_rest.1 dump_rest.2 probe_rest.1 probe_rest.2
