-- A region that the windows on the way pass isn't unreached.
use Rattle.std.proofs.Common.{◌≡◌, ℕ, inl, inr, Bool, true, false, not, refl, ap, subst}
use Rattle.std.specs.Prelude.{◌||◌}
use Rattle.std.proofs.lemmas.Bool.{and_from, both_ways}
use Rattle.pci_spec.specs.System.{Function, Space, Io, Memory, IsPassedTo, is_prefetchable_part, System}
use Rattle.pci_spec.specs.Slot.{Slot}
use Rattle.pci_spec.specs.System as system
use Rattle.pci_spec.specs.Fault.{address_in, named_region}
use Rattle.pci_spec.proofs.Verdicts.{passed_by_each}
use Rattle.pci_base.specs.Space.{space_of}
use Rattle.pci_tree.specs.Outline.{Tree}
use Rattle.pci_check.specs.Judgement.{AreHome}
use Rattle.pci_tree.specs.Trees.{HasTree}
use Rattle.pci_check.specs.Stops.{Reaches, AreReachesOf, AlwaysNested}
use Rattle.judge_spec.specs.Given.{Given, is_cut}
use Rattle.judge_spec.specs.Claims.{passes, passes_else}
use Rattle.judge_spec.specs.ToldClaims.{Told}
use Rattle.judge_spec.specs.ToldFault.{IsUnreached}
use Rattle.pci_faults.specs.declared.needed.Needed.{Needed}
use Rattle.pci_faults.specs.Needed.{IsOfRange}
use Rattle.pci_faults.specs.Stopped.{IsNeverUnreached, IsLeftWhole, IsWholeAtOwnBus, NeverCut}
use Rattle.pci_faults.proofs.Unreaching.{unreached_from}

-- what windows pass is passed where ISA Enable takes nothing from them
passes_uncut : (given : Given) (space : Space) (prefetch : Bool) (a : ℕ) (b : Function) → system.passes space prefetch a b ≡ true → is_cut given space a b.slot ≡ false → passes given space prefetch a b ≡ true
passes_uncut given space prefetch a b pass kept =
    ap (λ x. x || passes_else given space a b) (and_from (system.passes space prefetch a b) (not (is_cut given space a b.slot)) pass (ap not kept))

never_cut : (given : Given) → NeverCut given Io → (space : Space) (a : ℕ) (slot : Slot) → is_cut given space a slot ≡ false
never_cut given uncut Io a slot = uncut a slot
never_cut given uncut Memory a slot = refl

-- ---- where windows pass all of a region

pub never_where_reached : (given : Given) (t : Tree) (reaches : Reaches) (n : Needed) → AlwaysNested t → AreReachesOf t reaches → IsWholeAtOwnBus reaches n
    → IsLeftWhole given n → IsNeverUnreached given t n
never_where_reached given t reaches n nested are whole uncut told s tree listed one sp a bridge u =
    let (p, needs, stop) = unreached_from told given t.roots s n.name.slot n.name.register sp a bridge u in
    let (space_is, held, kind_is) = one.only sp a p needs in
    let space = space_of n.space in
    let small = one.slot.0 in
    let passed : IsPassedTo t.roots s space n.prefetch a n.name.slot.bus = (((are s tree space n.prefetch n.name.slot.bus small).exact a).0 (whole a held)).1 in
    let pass : system.passes space n.prefetch a stop.b ≡ true =
    passed_by_each t.roots s tree.system (nested s tree) space n.prefetch a stop.root n.name.slot.bus stop.bridges stop.is_root stop.leads passed stop.b stop.on_the_way in
    both_ways _ (subst (λ q. passes given space q a stop.b ≡ false) kind_is (subst (λ (x : Space). passes given x p a stop.b ≡ false) space_is stop.stops))
    (passes_uncut given space n.prefetch a stop.b pass (uncut a held stop.b.slot))

-- ---- where windows pass all of each BAR and ROM

module _ (told : Told) (given : Given) (t : Tree) (nested : AlwaysNested t) (home : AreHome t) (uncut : NeverCut given Io) where
  -- a region that isn't reached is a told range
  pub told_where_home : (s : System) → HasTree t s → (slot : Slot) (register : ℕ) (space : Space) (a : ℕ) (bridge : Slot) → IsUnreached told given t.roots s (named_region slot register) (address_in space a) bridge
      → (p : Bool) × IsOfRange told s slot register space a p
  told_where_home s tree slot register space a bridge (inl u) =
      let prefetch = is_prefetchable_part u.f u.part in
      let passed : IsPassedTo t.roots s space prefetch a slot.bus =
      subst (λ (x : Slot). IsPassedTo t.roots s space prefetch a x.bus) u.named.0 (home s tree u.f u.part space a u.listed u.no_window u.claims) in
      let pass : system.passes space prefetch a u.b ≡ true =
      passed_by_each t.roots s tree.system (nested s tree) space prefetch a u.root slot.bus u.bridges u.is_root u.leads passed u.b u.on_the_way in
      absurd (both_ways _ u.stops (passes_uncut given space prefetch a u.b pass (never_cut given uncut space a u.b.slot)))
  told_where_home s tree slot register space a bridge (inr u) = (u.r.prefetchable, record { r = u.r; needs = u.needs; kind = refl })
