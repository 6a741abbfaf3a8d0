use Rattle.std.proofs.Common.{codes}
use Rattle.clap.specs.Words.{found_of}
use Rattle.pciplan_words.proofs.CommandWords.{word_there, flag_there}
use Rattle.pciplan_words.proofs.asked.faults_words.Goals as goal

pub returns : goal.returns
returns c =
    let found = found_of c.args.found.now in
    record {
      root = word_there found (codes "root") c.get_str.result c.get_str.ensures;
      model = word_there found (codes "model") c.get_str-2.result c.get_str-2.ensures;
      host_io = word_there found (codes "host-io") c.get_str-3.result c.get_str-3.ensures;
      host_mem = word_there found (codes "host-mem") c.get_str-4.result c.get_str-4.ensures;
      also = word_there found (codes "also") c.get_str-5.result c.get_str-5.ensures;
      why = flag_there found (codes "why") c.get_flag.result c.get_flag.ensures.none c.get_flag.ensures.value c.get_flag.ensures.other;
    }
