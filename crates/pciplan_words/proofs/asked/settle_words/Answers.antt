use Rattle.std.proofs.Common.{Some, codes}
use Rattle.clap.specs.Words.{found_of}
use Rattle.pciplan_words.proofs.CommandWords.{word_there, flag_there}
use Rattle.pciplan_words.proofs.asked.settle_words.Goals as goal

pub returns : goal.returns
returns c =
    let found = found_of c.args.found.now in
    record {
      root = word_there found (codes "root") c.get_str.result c.get_str.ensures;
      model = word_there found (codes "model") c.get_str-2.result c.get_str-2.ensures;
      io = word_there found (codes "io") (Some c.in_ok-get_str.field-0) c.in_ok-get_str.ensures;
      mem = word_there found (codes "mem") (Some c.in_ok-get_str-2.field-0) c.in_ok-get_str-2.ensures;
      pref = word_there found (codes "pref") (Some c.in_ok-get_str-3.field-0) c.in_ok-get_str-3.ensures;
      fixed = word_there found (codes "fixed") c.get_str-6.result c.get_str-6.ensures;
      anew = flag_there found (codes "anew") c.get_flag.result c.get_flag.ensures.none c.get_flag.ensures.value c.get_flag.ensures.other;
      spare = word_there found (codes "spare") c.get_str-7.result c.get_str-7.ensures;
      slots = word_there found (codes "slots") c.get_str-8.result c.get_str-8.ensures;
      also = word_there found (codes "also") c.get_str-9.result c.get_str-9.ensures;
      writes = flag_there found (codes "writes") c.get_flag-2.result c.get_flag-2.ensures.none c.get_flag-2.ensures.value c.get_flag-2.ensures.other;
    }
