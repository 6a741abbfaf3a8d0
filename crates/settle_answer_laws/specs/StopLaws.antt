-- Laws of stops where more is beside a system than settling was told of: legacy parts and palette parts of bridges, what the
-- host sends, ISA Enable, what bridges take as nobody claims it, and functions that are asleep.
use Rattle.std.specs.Prelude.{◌≡◌, ◌⊎◌, ◌≤◌, ℕ, List, length, take}
use Rattle.std.specs.List.{Contains}
use Rattle.pci_spec.specs.System.{System}
use Rattle.pci_spec.specs.Machine.{Write, system_after}
use Rattle.judge_spec.specs.Given.{Given}
use Rattle.judge_spec.specs.Told.{ToldRange}
use Rattle.judge_spec.specs.ToldClaims.{Told}
use Rattle.judge_spec.specs.ToldSound.{IsSound}
use Rattle.settle_spec.specs.Lists.{Request}
use Rattle.settle_spec.specs.Writes.{Settled}
use Rattle.settle_spec.specs.Kept.{Kept}
use Rattle.settle_spec.specs.Keeping.Registers.{settled}
use Rattle.settle_spec.specs.Keeping.Writes.{closings, settle_writes}
use Rattle.settle_spec.specs.Sparing.{settle_sparing}
use Rattle.settle_laws.specs.SparingLaws.{sparing_closings}
use Rattle.settle_laws.specs.ToldSoundLaws.{CanSettleTold, CanAskTold}

-- Some of these ranges is the same, but for its name.
pub record HasRange (ranges : List ToldRange) (r : ToldRange) : Type 0 where
  pub name : List ℕ
  pub has : Contains ranges (record r { name = name })

-- Settling was told of each of these ranges. They may stand in other lines and with other names, and any functions may be asleep.
abbrev pub AreToldInRequest : Request → Told → Type 0
AreToldInRequest q told = (r : ToldRange) → Contains told.ranges r → HasRange q.told.ranges r

-- Whatever is given: where the settled system is sound with it, the writes can stop anywhere once the closing ones are made,
-- and from a start that is sound with it anywhere at all.
abbrev pub GivenSettlingCanStop : Type 0
GivenSettlingCanStop =
    (q : Request) (s : System) (k : Kept) (told : Told) (given : Given) (n : ℕ) → CanSettleTold q s k
    → AreToldInRequest q told → IsSound told given q.roots (settled q s k)
    → (length (closings q s k s) ≤ n) ⊎ IsSound told given q.roots s
    → IsSound told given q.roots (system_after s (take n (settle_writes q s k)))

-- So it is with room behind slots.
abbrev pub GivenSparingCanStop : Type 0
GivenSparingCanStop =
    (q : Request) (s : System) (writes : List Write) (told : Told) (given : Given) (n : ℕ) → CanAskTold q s
    → settle_sparing q s ≡ Settled writes → AreToldInRequest q told
    → IsSound told given q.roots (system_after s writes)
    → (length (sparing_closings q s) ≤ n) ⊎ IsSound told given q.roots s
    → IsSound told given q.roots (system_after s (take n writes))
