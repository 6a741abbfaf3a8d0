use Rattle.std.proofs.Common.{sym, ◌∙◌, ap}
use Rattle.std.specs.Option.{option_map}
use Rattle.std.proofs.lemmas.Bool.{eqb-true}
use Rattle.settle_spec.specs.Keeping.Writes.{does_not_stay}
use Rattle.pci_place.specs.Above.{system_in}
use Rattle.pci_settle.specs.ToldEndings.{told_fault, known_told_value}
use Rattle.pci_settle.proofs.Endings.{none_told}
use Rattle.pci_settle.proofs.ToldTests.{nothing_flagged}
use Rattle.pci_settle.proofs.told.first_cut.Goals as goal

pub returns-then-is_empty : goal.returns-then-is_empty
returns-then-is_empty g c = λ q keep roots knows table.
    let s = system_in c.args.admitted.now in
    let untold = nothing_flagged q s (known_told_value c.args.told.now) knows c.requires.flags (eqb-true _ 0 (sym c.is_empty.ensures ∙ c.if-is_empty.true)) in
    sym (ap (option_map told_fault) (none_told q untold (does_not_stay q s keep)))

pub returns : goal.returns
returns g c = λ q keep roots knows table.
    c.first_cut_by.ensures q (system_in c.args.admitted.now) keep knows (c.kept_above.ensures q keep roots table)
