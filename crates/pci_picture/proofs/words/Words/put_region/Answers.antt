use Rattle.std.proofs.Common.{[], ◌++◌, ap₂, ◌∙◌}
use Rattle.std.proofs.lemmas.Result.{on_ok_weaker}
use Rattle.pci_picture.specs.Lines.{words_in_line}
use Rattle.pci_picture.proofs.RegionWords.{region_put}
use Rattle.pci_picture.proofs.words.Words.put_region.Goals as goal

pub returns : goal.returns
returns g c =
    let r = c.args.region.now in
    let old = c.args.self.now.bytes.items in
    on_ok_weaker c.put_size.result
    (region_put (words_in_line r.line.now) r.size.now r.slot.now r.register.now r.name.now old c.put_all.new.self.bytes.items c.put_size.new.self.bytes.items r.texts
    (c.in_ok-put_all.ensures
    ∙ ap₂ (λ blank comma. old ++ (r.slot.now ++ (blank ++ (r.register.now ++ (comma ++ []))))) c.as_slice.ensures c.as_slice-2.ensures))
    c.put_size.ensures
