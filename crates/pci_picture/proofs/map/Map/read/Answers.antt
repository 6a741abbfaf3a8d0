use Rattle.std.proofs.Common.{List, ℕ, Bor, length, IsTrue, refl, sym, subst, lit<}
use Rattle.std.proofs.lemmas.Iterator.Consumers.{YieldsList-turn, YieldsList-end}
use Rattle.std.proofs.lemmas.Iterator.Splits.{YieldsList-from_str_split}
use Rattle.pci_picture.specs.Depths.{reading_of}
use Rattle.pci_picture.specs.Lines.{is_one_line}
use Rattle.pci_picture.proofs.Depths.{none_chained}
use Rattle.pci_picture.proofs.Headings.{none_headed, read_more, reading_more, whole_text}
use Rattle.pci_picture.proofs.Taken.{part_one_line}
use Rattle.pci_picture.proofs.map.Map.read.Goals as goal

pub loop-line-init : goal.loop-line-init
loop-line-init g c = record { read = none_headed _ c.new.ensures.items c.new-2.ensures.items; reading = refl; chained = none_chained _ c.new.ensures.items refl }

pub take-requires : goal.take-requires
take-requires g c =
    subst (λ (l : List ℕ). IsTrue (is_one_line l)) (sym c.as_bytes.ensures.value)
    (part_one_line c.args.text.now c.in-Some.line.now (length c.loop-line.yielded)
    (YieldsList-turn (YieldsList-from_str_split 10 c.args.text.now (lit< tt) (cc) (cc) (cc)) c.loop-line.yielded _ c.loop-line.yielded_by _ _ c.in-Some.line c.in-Some.is c.next.ensures.steps))

pub loop-line-preserved : goal.loop-line-preserved
loop-line-preserved g c = record {
  read =
      read_more (λ (x : Bor (List ℕ)). x.now) c.loop-line.yielded c.in-Some.line c.as_bytes.result.now (reading_of c.loop-line.reader) c.loop-line.reader.map c.take.new.self.map
      c.as_bytes.ensures.value c.loop-line.invariant.reading c.loop-line.invariant.read c.in_ok-take.ensures.taken;
  reading =
      reading_more (λ (x : Bor (List ℕ)). x.now) c.loop-line.yielded c.in-Some.line c.as_bytes.result.now (reading_of c.loop-line.reader) (reading_of c.take.new.self)
      c.as_bytes.ensures.value c.loop-line.invariant.reading c.in_ok-take.ensures.read;
  chained = c.in_ok-take.ensures.chained c.loop-line.invariant.chained;
}

pub returns : goal.returns
returns g c = record {
  read =
      whole_text (λ (x : Bor (List ℕ)). x.now) c.loop-line.yielded c.args.text.now c.loop-line.reader.map
      ((YieldsList-end (YieldsList-from_str_split 10 c.args.text.now (lit< tt) (cc) (cc) (cc)) c.loop-line.yielded _ c.loop-line.yielded_by _ _ c.in-None.is c.next.ensures.steps).0) c.loop-line.invariant.read;
  chained = c.loop-line.invariant.chained.chained;
}
