use Rattle.std.proofs.lemmas.Result.{on_ok_weaker}
use Rattle.std.specs.String.{string_bytes}
use Rattle.pci_base.specs.Space.{space_of}
use Rattle.pci_claims.specs.Values.{code_given_value}
use Rattle.pci_map.proofs.LineTexts.{line_by_cut}
use Rattle.pci_map.proofs.line.push_region.Goals as goal

pub returns : goal.returns
returns g c =
    on_ok_weaker c.push_region_line.result
    (λ pushed. line_by_cut (code_given_value c.args.given.now) c.args.depth (space_of c.args.space) c.args.region.now (string_bytes c.args.text.now) (string_bytes c.push_region_line.new.text) c.is_cut.result c.is_cut.ensures pushed)
    c.push_region_line.ensures
