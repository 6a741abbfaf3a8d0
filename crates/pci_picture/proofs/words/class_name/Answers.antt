use Rattle.std.proofs.Common.{ap, arith}
use Rattle.std.specs.Option.{option_map}
use Rattle.pci_picture.proofs.Named.{cut_class}
use Rattle.pci_picture.proofs.words.class_name.Goals as goal

pub returns-in_err-get : goal.returns-in_err-get
returns-in_err-get c =
    cut_class c.args.class.now _ 0 2 (ap (option_map (λ name. name.now)) c.from_residual.ensures) (omega arith) (omega arith) c.in_err-get.ensures.lookup.0

pub returns-in_err-get-2 : goal.returns-in_err-get-2
returns-in_err-get-2 c =
    cut_class c.args.class.now _ 2 4 (ap (option_map (λ name. name.now)) c.from_residual-in_err-get-2.ensures) (omega arith) (omega arith)
    c.in_err-get-2.ensures.lookup.0
