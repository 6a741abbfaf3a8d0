use Rattle.std.proofs.Common.{length, refl, ap, ◌∙◌, arith}
use Rattle.std.proofs.lemmas.List.{get_or_default, length-set}
use Rattle.pci_picture.specs.Named.{name_of_function}
use Rattle.pci_picture.specs.Roots.{listed_function}
use Rattle.pci_picture.proofs.Listings.{set_same}
use Rattle.pci_picture.proofs.Named.{named_last, named_more}
use Rattle.pci_picture.proofs.board.names_of.Goals as goal

pub loop-index-init : goal.loop-index-init
loop-index-init g c = record { same = refl; named = λ k d less. absurd (omega (arith, less)); long = refl }

pub loop-index-preserved : goal.loop-index-preserved
loop-index-preserved g c = record {
  same = set_same c.loop-index.functions c.loop-index.index _ c.index-functions-index-in-loop-index.result refl ∙ c.loop-index.invariant.same;
  named =
      named_more c.loop-index.functions _ c.loop-index.names.bytes.items c.put_name.new.self.bytes.items _ c.loop-index.index (omega arith)
      c.in_ok-put_name.ensures
      (named_last c.loop-index.names.bytes.items _ _ (c.len-begin.ensures ∙ c.loop-index.names.bytes.ok.0)
      (c.len.ensures ∙ c.put_name.new.self.bytes.ok.0 ∙ ap length c.in_ok-put_name.ensures)
      (ap (λ f. name_of_function (listed_function f))
      (get_or_default c.loop-index.functions c.loop-index.index c.index-functions-index.result c.index-functions-index-in-loop-index.result (omega arith))))
      c.loop-index.invariant.named;
  long = length-set c.loop-index.functions _ _ ∙ c.loop-index.invariant.long;
}

pub returns-clause-named : goal.returns-clause-named
returns-clause-named g c = λ k d inside. c.loop-index.invariant.named k d (omega (arith, inside, c.loop-index.invariant.long))
