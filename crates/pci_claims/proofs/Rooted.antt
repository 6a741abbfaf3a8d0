-- What gets to a root bus.
use Rattle.std.proofs.Common.{◌≡◌, ℕ, List, [], ◌∷◌, refl, subst, arith}
use Rattle.std.specs.Prelude.{IsTrue}
use Rattle.std.specs.List.{Contains}
use Rattle.std.proofs.lemmas.Bool.{both_ways}
use Rattle.pci_spec.specs.System.{System, Function, Space, Leads}
use Rattle.pci_spec.specs.Bus.{is_root, IsNested}
use Rattle.pci_spec.proofs.BusRanges.{behind_is_no_root, root_means}
use Rattle.pci_spec.proofs.Ways.{behind_each}
use Rattle.judge_spec.specs.Given.{Given, starts}
use Rattle.judge_spec.specs.Claims.{Gets}

-- a way to a root has no bridge
way_to_root : (roots : List ℕ) (s : System) → IsNested roots s → (bus : ℕ) → Contains roots bus → (from : ℕ) (bridges : List Function) → Leads s from bridges bus → from ≡ bus
way_to_root roots s nested bus root from [] leads = leads
way_to_root roots s nested bus root from (b ∷ bridges) leads =
    let within = behind_each roots s nested from (b ∷ bridges) bus leads b (0, omega arith, refl) in
    absurd (both_ways (is_root roots bus) (behind_is_no_root roots b (nested.clear b leads.0 leads.1) bus within) ((root_means roots bus).1 root))

-- it is what the host sends there
pub sent_there : (given : Given) (roots : List ℕ) (s : System) → IsNested roots s → (bus : ℕ) → Contains roots bus → (space : Space) (a : ℕ) → Gets given roots s space a bus → IsTrue (starts given space bus a)
sent_there given roots s nested bus root space a (from, in_roots, sent, bridges, leads, pass) =
    subst (λ n. IsTrue (starts given space n a)) (way_to_root roots s nested bus root from bridges leads) sent
