-- A dump and its probe as words take them.
use Rattle.std.specs.Prelude.{◌≡◌, ℕ, List, Option, map}
use Rattle.pci_spec.specs.Text.{Block, slots_of}
use Rattle.pci_spec.specs.System.{system_of}
use Rattle.judge_spec.specs.ModelWords.{Words}
use Rattle.judge_spec.specs.Taken.{AreFunctionsTakenAs}

-- what a probe's titles name stays named
abbrev pub titles_of : List Block → List (Option (List ℕ))
titles_of blocks = map (λ (b : Block). b.title) blocks

-- they list the same slots, each function as it is taken
pub record AreTakenAs (w : Words) (dump probe taken taken_probe : List Block) : Type 0 where
  pub slots : slots_of taken ≡ slots_of dump
  pub probe_slots : slots_of taken_probe ≡ slots_of probe
  pub probe_titles : titles_of taken_probe ≡ titles_of probe
  pub each : slots_of dump ≡ slots_of probe
      → AreFunctionsTakenAs w (slots_of dump) (system_of dump probe) (system_of taken taken_probe)
