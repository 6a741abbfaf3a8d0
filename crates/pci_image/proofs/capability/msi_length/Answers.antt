use Rattle.std.proofs.Common.{refl, arith}
use Rattle.pci_image.proofs.Registers.{bit-set, bit-clear}
use Rattle.pci_image.proofs.capability.msi_length.Goals as goal

pub returns-in-true-true-clause-value : goal.returns-in-true-true-clause-value
returns-in-true-true-clause-value c = rw (bit-set c.args.control 8 c.in-true-true.is-1, bit-set c.args.control 7 c.in-true-true.is-0) refl

pub returns-in-true-false-clause-value : goal.returns-in-true-false-clause-value
returns-in-true-false-clause-value c = rw (bit-clear c.args.control 8 c.in-true-false.is-1 (omega arith), bit-set c.args.control 7 c.in-true-false.is-0) refl

pub returns-in-false-true-clause-value : goal.returns-in-false-true-clause-value
returns-in-false-true-clause-value c = rw (bit-set c.args.control 8 c.in-false-true.is-1, bit-clear c.args.control 7 c.in-false-true.is-0 (omega arith)) refl

pub returns-in-false-false-clause-value : goal.returns-in-false-false-clause-value
returns-in-false-false-clause-value c = rw (bit-clear c.args.control 8 c.in-false-false.is-1 (omega arith), bit-clear c.args.control 7 c.in-false-false.is-0 (omega arith)) refl
