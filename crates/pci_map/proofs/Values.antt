-- The regions of an outline, as the definitions have them.
use Rattle.std.proofs.Common.{◌≡◌, ℕ, ◌+◌, ◌-◌, ◌*◌, ◌/◌, ◌≤◌, List, refl, sym, ap, ◌∙◌, subst, Bool, arith, get_or}
use Rattle.std.specs.List.{Contains}
use Rattle.std.proofs.Math.Nat.{le_antisymm}
use Rattle.std.proofs.lemmas.Option.{slice_get_within, get_or_from_slice_get}
use Rattle.pci_spec.specs.Slot.{Slot}
use Rattle.pci_spec.specs.Window.{WindowKind, IoWindow, MemoryWindow, PrefetchWindow, window_register}
use Rattle.pci_spec.specs.System.{System, Function, Space, Claims, IsAddress}
use Rattle.pci_spec.specs.System as system
use Rattle.pci_spec.specs.Why as why
use Rattle.pci_spec.specs.Why.{IsRegionIn}
use Rattle.pci_tree.specs.declared.region.Region.{Region}
use Rattle.pci_tree.specs.Regions.{IsRegionOf, IsRegionOn}
use Rattle.judge_spec.specs.Told.{ToldRange, IsTold}
use Rattle.judge_spec.specs.ToldClaims.{Told}
use Rattle.judge_spec.specs.Regions.{MapRegion, Own, OfLine, slot_of, IsIn}
use Rattle.judge_spec.specs.Regions as regions
use Rattle.pci_map.specs.declared.seat.Seat.{Seat}
use Rattle.pci_map.specs.declared.seat.Seat.TheVariants as seats
use Rattle.pci_map.specs.Seats.{seat_value, seat_first, IsSeatOn, AreSortedSeatsOf}
use Rattle.pci_claims.specs.Found.{region_of_found}
use Rattle.pci_claims.proofs.Founds.{region_in}
use Rattle.pci_map.specs.Values.{kind_at, part_at, region_part, value_of}

kind_is : (kind : WindowKind) → kind_at (window_register kind) ≡ kind
kind_is IoWindow = refl
kind_is MemoryWindow = refl
kind_is PrefetchWindow = refl

pub part_is : (f : Function) (part : system.Part) (space : Space) (q : Region) → IsRegionOf f part space q → region_part q ≡ part
part_is f (system.Bar n) space q is =
    ap (λ p. part_at p q.reg) is.named ∙ ap (λ r. system.Bar ((r - 16) / 4)) is.register ∙ ap system.Bar (let e : (16 + 4 * n - 16) / 4 ≡ n = omega arith in e)
part_is f system.Rom space q is = ap (λ p. part_at p q.reg) is.named
part_is f (system.Window kind) space q is =
    ap (λ p. part_at p q.reg) is.named ∙ ap (λ r. system.Window (kind_at r)) is.register ∙ ap system.Window (kind_is kind)

-- a region of a bus is one of the definitions'
pub told_region : (s : System) (bus : ℕ) (space : Space) (q : Region) → IsRegionOn s bus space q → IsRegionIn s (value_of space q)
told_region s bus space q on =
    subst (λ p. IsRegionIn s (region_of_found q p space)) (sym (part_is on.f on.part space q on.is)) (region_in s on.f on.part space q on.listed on.is)

-- what claims a region's addresses
pub told_claims : (f : Function) (part : system.Part) (space : Space) (q : Region) (a : ℕ) → IsRegionOf f part space q → q.first ≤ a → a ≤ q.last → Claims f part space a
told_claims f part space q a is low high = (is.claims a).0 (low, high)

abbrev made : Slot → ℕ → system.Part → Space → Bool → ℕ → ℕ → why.Region
made slot register part space prefetchable first last =
    record { slot = slot; register = register; part = part; space = space; prefetchable = prefetchable; range = record { first = first; last = last } }

-- a region of the definitions is that of a list of its bus
own_among : (told : Told) (s : System) (bus : ℕ) (space : Space) (qs : List Seat) (v : why.Region) → AreSortedSeatsOf told s bus space qs → IsRegionIn s v → v.slot.bus ≡ bus → v.space ≡ space
    → (q : Seat) × Contains qs q × (seat_value space q ≡ Own v)
own_among told s bus space qs v sorted is on same =
    let claims : Claims is.f v.part space v.range.first = subst (λ sp. Claims is.f v.part sp v.range.first) same ((is.claims v.range.first).0 (omega arith, is.some)) in
    let found = sorted.parts is.f v.part v.range.first is.listed (ap (λ (x : Slot). x.bus) is.slot ∙ on) claims in
    let q : Region = found.q in
    let of = found.is in
    let first_in : (v.range.first ≤ q.first) × (q.first ≤ v.range.last) = (is.claims q.first).1 (subst (λ sp. Claims is.f v.part sp q.first) (sym same) ((of.claims q.first).0 (omega arith, of.some))) in
    let last_in : (v.range.first ≤ q.last) × (q.last ≤ v.range.last) = (is.claims q.last).1 (subst (λ sp. Claims is.f v.part sp q.last) (sym same) ((of.claims q.last).0 (of.some, omega arith))) in
    let first_back : (q.first ≤ v.range.first) × (v.range.first ≤ q.last) = (of.claims v.range.first).1 claims in
    let last_back : (q.first ≤ v.range.last) × (v.range.last ≤ q.last) = (of.claims v.range.last).1 (subst (λ sp. Claims is.f v.part sp v.range.last) same ((is.claims v.range.last).0 (is.some, omega arith))) in
    let first : q.first ≡ v.range.first = le_antisymm first_back.0 first_in.0 in
    let last : q.last ≡ v.range.last = le_antisymm last_in.1 last_back.1 in (
      seats.Own q,
      found.has,
      ap Own (ap (λ x. made x q.reg (region_part q) space q.prefetch q.first q.last) (of.slot ∙ is.slot)
          ∙ ap (λ x. made v.slot x (region_part q) space q.prefetch q.first q.last) (of.register ∙ is.register)
          ∙ ap (λ x. made v.slot v.register x space q.prefetch q.first q.last) (part_is is.f v.part space q of)
          ∙ ap (λ x. made v.slot v.register v.part x q.prefetch q.first q.last) (sym same)
          ∙ ap (λ x. made v.slot v.register v.part v.space x q.first q.last) (of.prefetch ∙ is.prefetchable)
          ∙ ap (λ x. made v.slot v.register v.part v.space v.prefetchable x q.last) first
          ∙ ap (λ x. made v.slot v.register v.part v.space v.prefetchable v.range.first x) last),
    )

pub among : (told : Told) (s : System) (bus : ℕ) (space : Space) (qs : List Seat) (v : MapRegion) → AreSortedSeatsOf told s bus space qs → IsIn told s v → (slot_of v).bus ≡ bus → regions.space_of v ≡ space
    → (q : Seat) × Contains qs q × (seat_value space q ≡ v)
among told s bus space qs (Own v) sorted is on same = own_among told s bus space qs v sorted is on same
among told s bus space qs (OfLine x) sorted is on same =
    let found = sorted.lines x record { is = is; on_bus = on; of_space = same } in
    (seats.OfLine found.y, found.has, ap OfLine found.is)

-- a region of a bus is one of the definitions'
pub seat_in : (told : Told) (s : System) (bus : ℕ) (space : Space) (q : Seat) → IsSeatOn told s bus space q → IsIn told s (seat_value space q)
seat_in told s bus space (seats.Own q) on = told_region s bus space q on
seat_in told s bus space (seats.OfLine x) on = on.is

pub seat_bus : (told : Told) (s : System) (bus : ℕ) (space : Space) (q : Seat) → IsSeatOn told s bus space q → (slot_of (seat_value space q)).bus ≡ bus
seat_bus told s bus space (seats.Own q) on = ap (λ (x : Slot). x.bus) on.is.slot ∙ on.on_bus
seat_bus told s bus space (seats.OfLine x) on = on.on_bus

pub seat_space : (told : Told) (s : System) (bus : ℕ) (space : Space) (q : Seat) → IsSeatOn told s bus space q → regions.space_of (seat_value space q) ≡ space
seat_space told s bus space (seats.Own q) on = refl
seat_space told s bus space (seats.OfLine x) on = on.of_space

-- where a region begins
pub first_of : (space : Space) (q : Seat) → (regions.range_of (seat_value space q)).first ≡ seat_first q
first_of space (seats.Own q) = refl
first_of space (seats.OfLine x) = refl

-- it begins at an address of its space
pub seat_address : (told : Told) (s : System) (bus : ℕ) (space : Space) (q : Seat) → IsTold told.ranges → IsSeatOn told s bus space q → IsAddress space (seat_first q)
seat_address told s bus space (seats.Own q) lawful on = ((on.is.claims q.first).0 (omega arith, on.is.some)).address
seat_address told s bus space (seats.OfLine x) lawful on =
    let n = on.is.named in
    let is : get_or told.ranges n.index x.told.now ≡ x.told.now = get_or_from_slice_get told.ranges n.index x.told.now x.told.now n.at in
    subst (λ sp. IsAddress sp x.told.now.first) on.of_space
    (subst (λ (r : ToldRange). IsAddress r.space r.first) is (lawful.each n.index x.told.now (slice_get_within told.ranges n.index x.told.now n.at)).line.first)
