-- Clashes of each system with a tree.
use Rattle.std.proofs.Common.{◌≡◌, ℕ, ◌+◌, ◌<◌, List, sym, ◌∙◌, ap, subst, inl, inr, refl, true, false, Option, None, Some, arith}
use Rattle.std.specs.Prelude.{MatchOption}
use Rattle.std.specs.Option.{is_some}
use Rattle.std.proofs.lemmas.Bool.{cases_eq}
use Rattle.pci_spec.specs.Slot.{Slot}
use Rattle.pci_spec.specs.System.{System, Space, Io, Memory, Gets, IsPassedTo}
use Rattle.pci_spec.specs.Fault.{Clash, ClaimsOnBus, address_in, named_region}
use Rattle.pci_spec.specs.Order.{IsFirst}
use Rattle.pci_spec.specs.JudgingLaws.{HasNoUnreached, HasNoClashAt}
use Rattle.pci_spec.proofs.Firsts.{slot_of, least_clash_is_first}
use Rattle.pci_base.specs.declared.range.Range.{Range}
use Rattle.pci_function.specs.declared.fault.Fault.{Fault}
use Rattle.pci_tree.specs.declared.region.Region.{Region}
use Rattle.pci_tree.specs.Regions.{HasEachRegion}
use Rattle.pci_tree.specs.Outline.{Tree, IsReachTo}
use Rattle.pci_tree.specs.Trees.{HasTree}
use Rattle.pci_tree.proofs.Orders.{own_of_rising}
use Rattle.pci_check.specs.Sweep.{AreDistinct, IsUnshared, IsFirstOverlap}
use Rattle.pci_check.specs.Stops.{Reaches, ranges_at, AreReachesOf, AreBusRegionsOfTree}
use Rattle.pci_check.specs.Clashes.{AreRegionsOn, NoneClashOn, IsClashFaultOn, IsClashFaultOnBus, NoneClash, IsClashFault}
use Rattle.pci_check.proofs.Overlaps.{claims_of, one_claims, differ, least, next_least}

-- an access gets to a bus exactly where a prefetchable BAR's address is passed on to it
pub gets_of_passed : (roots : List ℕ) (s : System) (space : Space) (a bus : ℕ) → IsPassedTo roots s space true a bus → Gets roots s space a bus
gets_of_passed roots s Io a bus h = h
gets_of_passed roots s Memory a bus h = h

pub passed_of_gets : (roots : List ℕ) (s : System) (space : Space) (a bus : ℕ) → Gets roots s space a bus → IsPassedTo roots s space true a bus
passed_of_gets roots s Io a bus h = h
passed_of_gets roots s Memory a bus h = h

-- the ranges of a bus, for each system with the tree
pub allowed_at : (t : Tree) (reaches : Reaches) (space : Space) (bus : ℕ) (allowed : List Range) → bus < 256 → allowed ≡ ranges_at reaches space true bus → AreReachesOf t reaches
    → (s : System) → HasTree t s → IsReachTo t.roots s space true bus allowed
allowed_at t reaches space bus allowed small same reached s tree = subst (λ (ranges : List Range). IsReachTo t.roots s space true bus ranges) (sym same) (reached s tree space true bus small)

module _ (t : Tree) (bus : ℕ) (space : Space) (regions : List Region) (allowed : List Range) (listed : AreBusRegionsOfTree t bus space regions)
    (reached : (s : System) → HasTree t s → IsReachTo t.roots s space true bus allowed) where
  abbrev IsThis : ℕ → Type 0
  IsThis b = b ≡ bus

  on_this_bus : (s : System) → HasTree t s → AreRegionsOn s IsThis space regions
  on_this_bus s tree =
      let are = listed s tree.records in
      record {
        each = λ q has. (bus, refl, are.each q has);
        complete = λ b is. subst (λ n. HasEachRegion s n space regions) (sym is) are.complete;
        rising = are.rising;
      }

  -- where no two regions claim an address that gets there
  unshared_at : (s : System) → HasTree t s → (a : ℕ) → IsUnshared regions allowed a → HasNoClashAt t.roots s bus space a
  unshared_at s tree a none first first_register second second_register clash =
      clash.differ (one_claims s tree.system IsThis space regions (on_this_bus s tree) allowed a bus bus first second first_register second_register
      (((reached s tree).exact a).1 (clash.claims_first.6.address, passed_of_gets t.roots s space a bus clash.gets)) none refl refl clash.claims_first clash.claims_second)

  pub none_clash : (AreDistinct regions → (a : ℕ) → IsUnshared regions allowed a) → NoneClashOn t bus space
  none_clash none s tree a = unshared_at s tree a (none (own_of_rising regions (listed s tree.records).rising) a)

  -- where two do
  pub clash_fault : (a : ℕ) (first second : Region) → IsFirstOverlap regions allowed a first second
      → (s : System) → HasTree t s → HasNoUnreached t.roots s → ((b : ℕ) → b < bus → (sp : Space) (x : ℕ) → HasNoClashAt t.roots s b sp x)
      → (space ≡ Memory → (x : ℕ) → HasNoClashAt t.roots s bus Io x) → IsFirst t.roots s (Clash bus space a first.slot first.reg second.slot second.reg)
  clash_fault a first second is s tree home lower io =
      let system = tree.system in
      let are = on_this_bus s tree in
      let one = claims_of s system IsThis space regions are allowed a first is.claims_first in
      let two = claims_of s system IsThis space regions are allowed a second is.claims_second in
      least_clash_is_first t.roots s system bus space a first.slot first.reg second.slot second.reg record {
        reached = home;
        there = record {
          gets = gets_of_passed t.roots s space a bus (((reached s tree).exact a).0 is.covered).1;
          claims_first = subst (λ n. ClaimsOnBus s n (address_in space a) (named_region first.slot first.reg)) one.1 one.2;
          claims_second = subst (λ n. ClaimsOnBus s n (address_in space a) (named_region second.slot second.reg)) two.1 two.2;
          differ = differ s system IsThis space regions are allowed a first second is;
        };
        lower_buses = lower;
        io_before_memory = io;
        lower_addresses = λ b less. unshared_at s tree b (is.lower_addresses b less);
        least = λ slot register claims. least s system IsThis space regions are allowed a first second is bus slot register refl claims;
        next_least = λ slot register claims other. next_least s system IsThis space regions are allowed a first second is bus slot register refl claims other;
      }

-- ---- both spaces

pub io_is_not_memory : Io ≡ Memory → ⊥
io_is_not_memory e = cc

pub first_in_io : (t : Tree) (bus : ℕ) (fault : Fault) → IsClashFaultOn t bus Io fault → IsClashFaultOnBus t bus fault
first_in_io t bus fault is s tree home lower = is s tree home lower (λ e. absurd (io_is_not_memory e))

pub first_in_memory : (t : Tree) (bus : ℕ) (o : Option Fault) → NoneClashOn t bus Io → MatchOption o (NoneClashOn t bus Memory) (λ fault. IsClashFaultOn t bus Memory fault)
    → MatchOption o ((space : Space) → NoneClashOn t bus space) (λ fault. IsClashFaultOnBus t bus fault)
first_in_memory t bus None io memory = λ space. elim space as (λ space. NoneClashOn t bus space) [ Io ↦ io | Memory ↦ memory ]
first_in_memory t bus (Some fault) io is = λ s tree home lower. is s tree home lower (λ e. io s tree)

-- ---- all buses

-- none on the buses below one
abbrev pub NoneClashBelow : Tree → ℕ → Type 0
NoneClashBelow t bus = (b : ℕ) → b < bus → (space : Space) → NoneClashOn t b space

-- what was found on the buses below one
abbrev pub IsAnswerBelow : Tree → ℕ → Option Fault → Type 0
IsAnswerBelow t bus o = MatchOption o (NoneClashBelow t bus) (λ fault. IsClashFault t fault)

pub answer_more : (t : Tree) (bus : ℕ) (o : Option Fault) → NoneClashBelow t bus → MatchOption o ((space : Space) → NoneClashOn t bus space) (λ fault. IsClashFaultOnBus t bus fault)
    → IsAnswerBelow t (bus + 1) o
answer_more t bus None below here = λ b less space. elim (cases_eq b bus) [
  | inl e ↦ subst (λ n. NoneClashOn t n space) (sym e) (here space)
  | inr ne ↦ below b (omega arith) space
]
answer_more t bus (Some fault) below is = λ s tree home. is s tree home (λ b less space. below b less space s tree)

-- a clash that was found is kept
pub answer_kept : (t : Tree) (bus : ℕ) (o : Option Fault) → is_some o ≡ true → IsAnswerBelow t bus o → IsAnswerBelow t (bus + 1) o
answer_kept t bus None e below = absurd (let no : ⊥ = cc in no)
answer_kept t bus (Some fault) e is = is

pub none_below : (t : Tree) (bus : ℕ) (o : Option Fault) → is_some o ≡ false → IsAnswerBelow t bus o → NoneClashBelow t bus
none_below t bus None e below = below
none_below t bus (Some fault) e is = absurd (let no : ⊥ = cc in no)

-- buses have numbers below 256
pub none_clash_at_all : (t : Tree) → NoneClashBelow t 256 → NoneClash t
none_clash_at_all t below s tree bus space a first first_register second second_register clash =
    let c = clash.claims_first in
    let slot = slot_of s tree.system c.0 c.2 in
    let at : c.0.slot.bus ≡ bus = ap (λ (x : Slot). x.bus) c.3 ∙ c.4 in
    below bus (omega (arith, slot, at)) space s tree a first first_register second second_register clash
