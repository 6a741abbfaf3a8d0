-- A law of functions that are live: each is told by those on the bus behind it.
use Rattle.std.specs.Prelude.{◌≡◌, ◌==◌, Bool, ◌&&◌, ◌||◌}
use Rattle.std.specs.List.{list_any, Contains}
use Rattle.pci_spec.specs.System.{System, Function, Space, IsSystem, is_bridge}
use Rattle.pci_spec.specs.Bus.{secondary, IsNested}
use Rattle.settle_spec.specs.Lists.{Request}
use Rattle.settle_spec.specs.Registers.{has_own}
use Rattle.settle_spec.specs.Keeping.Registers.{is_live_within, is_enabled_in}
use Rattle.settle_spec.specs.Kept.{Kept}

-- a function is live in a space, wherever it stands
abbrev pub is_live : Request → System → Kept → Space → Function → Bool
is_live q s k space f = is_live_within q s k space 256 f

-- a function is a bridge with a live function on the bus behind it
abbrev pub has_live_behind : System → (Function → Bool) → Function → Bool
has_live_behind s live f =
    is_bridge f && list_any (λ g. g.slot.bus == secondary f && live g) s

-- A function is live where its space is enabled, for a BAR or ROM of its own or for what is live behind it.
abbrev pub LiveIsByBus : Type 0
LiveIsByBus =
    (q : Request) (s : System) (k : Kept) (space : Space) (f : Function) → IsSystem s
    → IsNested q.roots s → Contains s f
    → is_live q s k space f
    ≡ (is_enabled_in q s k space f
    && (has_own q s space f || has_live_behind s (is_live q s k space) f))
