use Rattle.std.proofs.Common.{codes}
use Rattle.clap.specs.Words.{found_of}
use Rattle.pciplan_words.proofs.CommandWords.{word_there}
use Rattle.pciplan_words.proofs.further.here_words.Goals as goal

pub returns : goal.returns
returns c =
    let found = found_of c.args.found.now in
    record {
      what = word_there found (codes "WHAT") c.get_str.result c.get_str.ensures;
      domain = word_there found (codes "domain") c.get_str-2.result c.get_str-2.ensures;
      from = word_there found (codes "from") c.get_str-3.result c.get_str-3.ensures;
      log = word_there found (codes "log") c.get_str-4.result c.get_str-4.ensures;
    }
