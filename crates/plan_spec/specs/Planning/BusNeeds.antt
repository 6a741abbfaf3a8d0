-- What each function adds to the need of its bus: what one pass over the functions, from the highest slot down, adds up.
use Rattle.std.specs.Prelude.{ℕ, ◌+◌, ◌==◌, nat_lt, ◌&&◌, if◌then◌else◌, List}
use Rattle.std.specs.List.{sum, sum_by}
use Rattle.pci_spec.specs.Window.{WindowKind}
use Rattle.pci_spec.specs.System.{System, Function, is_bridge}
use Rattle.plan_spec.specs.Plan.{Pools, sizes_in, window_size, limited}
use Rattle.plan_spec.specs.Planning.Table.{need_behind}

-- the window of a bridge with something behind it, or nothing
abbrev pub window_need : WindowKind → Function → ℕ → ℕ
window_need c b behind =
    if is_bridge b && nat_lt 0 behind then window_size c (limited behind) else 0

-- what a function adds to its bus, where so much is behind it
abbrev pub added : System → Pools → WindowKind → Function → ℕ → ℕ
added s pools c f behind = sum (sizes_in s pools c f) + window_need c f behind

-- what some functions add to a bus
abbrev pub added_on : System → Pools → WindowKind → ℕ → List Function → ℕ
added_on s pools c bus some =
    sum_by (λ f. if f.slot.bus == bus then added s pools c f (need_behind s pools c f) else 0) some
