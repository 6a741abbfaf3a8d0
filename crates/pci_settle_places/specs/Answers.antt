-- Which functions answer told ranges that stand and are marked `command`.
use Rattle.std.specs.Prelude.{◌≡◌, ℕ, Bool, false, ◌&&◌, List, length, Some, slice_get, slice_index_or}
use Rattle.std.specs.List.{list_any, range_with_len}
use Rattle.pci_spec.specs.Slot.{Slot, same_slot}
use Rattle.pci_spec.specs.System.{System, Space}
use Rattle.judge_spec.specs.Told.{ToldRange}
use Rattle.judge_spec.specs.ToldForm.{blank}
use Rattle.judge_spec.specs.ToldClaims.{told_register}
use Rattle.settle_spec.specs.Lists.{Request}
use Rattle.settle_spec.specs.Lines.{is_marked_command}
use Rattle.settle_spec.specs.Parts.{are_same_space}
use Rattle.settle_spec.specs.Stands.{range_stands}

abbrev pub is_command_in : Space → ToldRange → Bool
is_command_in space r = is_marked_command r.mark && are_same_space space r.space

-- one that stands, by its flag
abbrev pub is_answer : Space → Slot → ToldRange → Bool → Bool
is_answer space slot r stands = same_slot r.slot slot && (stands && is_command_in space r)

abbrev pub is_answer_at : List ToldRange → List Bool → Space → Slot → ℕ → Bool
is_answer_at ranges standing space slot n =
    is_answer space slot (slice_index_or ranges n blank) (slice_index_or standing n false)

-- one of them is of the function at a slot
abbrev pub is_answering : List ToldRange → List Bool → Space → Slot → Bool
is_answering ranges standing space slot =
    list_any (is_answer_at ranges standing space slot) (range_with_len 0 (length ranges))

-- flags say of each told range whether it stands
abbrev pub AreFlagsOfTold : Request → System → List Bool → Type 0
AreFlagsOfTold q s standing =
    (n : ℕ) (r : ToldRange) → slice_get q.told.ranges n ≡ Some r
    → slice_index_or standing n false
    ≡ range_stands q s record { register = told_register n; told = r }
