-- What the program answers where a probe is to be derived from a dump and its sizes.
use Rattle.std.specs.Prelude.{List, ℕ, [], ◌∷◌, ◌++◌, Option, Some, None, codes}
use Rattle.std.specs.List.{flat_map}
use Rattle.pci_spec.specs.Text.{Block, text_of}
use Rattle.pci_spec.specs.SizesText.{SizesBlock}
use Rattle.pci_spec.specs.Mark.{AssumedRegister, all_named}
use Rattle.pci_spec.specs.NoProbe.{Assuming}
use Rattle.pci_spec.specs.ProbeOf.{ProbeFault, probe_of, assumed_of, assumed_text, probe_fault, probe_fault_text}
use Rattle.pciplan_tasks.specs.Answers.{Answer, fault_answer_line, refused}

-- the line on standard error of a register whose read back is assumed
abbrev pub remark : AssumedRegister → List ℕ
remark a = codes "pciplan: " ++ (assumed_text a ++ 10 ∷ [])

-- of each register that the titles of a probe name
abbrev pub remarks_named : List Block → List ℕ
remarks_named probe = flat_map remark (all_named probe)

-- `probe`: the probe's text and its remarks, or the line of the first fault
abbrev pub answer_of_fault : List Block → List SizesBlock → Option ProbeFault → Answer
answer_of_fault dump sizes None =
    record {
      status = 0;
      text = text_of (probe_of dump sizes);
      remarks = flat_map remark (assumed_of dump sizes);
    }
answer_of_fault dump sizes (Some fault) = refused (fault_answer_line (probe_fault_text fault))

abbrev pub probe_answer : Assuming → List Block → List SizesBlock → Answer
probe_answer assuming dump sizes =
    answer_of_fault dump sizes (probe_fault assuming dump sizes)
