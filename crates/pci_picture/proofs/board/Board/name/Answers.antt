use Rattle.std.proofs.lemmas.List.Elements.{All-contains}
use Rattle.pci_picture.specs.Named.{HasNameIn, name_of_function}
use Rattle.pci_picture.specs.Roots.{listed_function}
use Rattle.pci_picture.proofs.Marks.{part_found}
use Rattle.pci_picture.proofs.board.Board.name.Goals as goal

pub returns : goal.returns
returns g c = λ inside.
    let function = c.args.function.now in
    let names = c.args.self.now.names.bytes.items in
    let named = All-contains (HasNameIn names) c.args.self.now.functions.items function c.args.self.now.named inside in
    part_found c.get.result c.as_slice-names.result.now names (name_of_function (listed_function function)) c.unwrap_or.result _ function.name.begin function.name.end
    c.unwrap_or.ensures c.get.ensures.lookup.0 c.as_slice-names.ensures.value named.rises named.inside named.is
