-- A way from a root to a bus that all bridges above the bus pass.
use Rattle.std.proofs.Common.{◌≡◌, ℕ, Bool, true, List, [], ◌∷◌, map, refl}
use Rattle.std.specs.List.{Contains, list_all}
use Rattle.pci_spec.specs.System.{System, Function, IsSystem, Space, IsPassedTo, passes}
use Rattle.pci_spec.specs.Bus.{IsNested}
use Rattle.pci_spec.proofs.BusRanges.{behind_of_within}
use Rattle.pci_spec.proofs.Ways.{a_way_to_each, behind_each}
use Rattle.plan_spec.specs.Plan.{IsMoved, bridges_above}
use Rattle.plan_spec.proofs.Planning.AboveBuses.{above_from}
use Rattle.plan_spec.proofs.Planning.Kept.{images_of}
use Rattle.settle_laws.proofs.Left.{on_way, way_after, all_over}

all_true : (h : Function → Function) (bs : List Function) → list_all (λ b. true) (map h bs) ≡ true
all_true h [] = refl
all_true h (b ∷ bs) = all_true h bs

pub home_by : (roots : List ℕ) (s : System) → IsSystem s → IsNested roots s → (h : Function → Function) → ((f : Function) → Contains s f → IsMoved f (h f)) → (f : Function) → Contains s f
    → (space : Space) (prefetchable : Bool) (a : ℕ) → ((b : Function) → Contains (bridges_above s f.slot.bus) b → passes space prefetchable a (h b) ≡ true) → IsPassedTo roots (map h s) space prefetchable a f.slot.bus
home_by roots s system nested h moved f listed space prefetchable a each =
    let way = a_way_to_each roots s nested f listed in
    let test : Function → Bool = passes space prefetchable a in
    let on : (b : Function) → Contains way.2 b → true ≡ true → test (h b) ≡ true = λ b has so.
    let at = on_way s way.0 way.2 f.slot.bus way.3 b has in
    each b (above_from s f.slot.bus b record { listed = at.listed; bridge = at.bridge; behind = behind_of_within b f.slot.bus (behind_each roots s nested way.0 way.2 f.slot.bus way.3 b has) }) in (
      way.0,
      way.1,
      map h way.2,
      way_after s (images_of s system) h moved way.0 way.2 f.slot.bus way.3,
      all_over (λ b. true) test h h way.2 on (all_true h way.2),
    )
