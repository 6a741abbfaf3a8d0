-- What is inside a window.
use Rattle.std.proofs.Common.{◌≡◌, ℕ, ◌<◌, ◌≤◌, List, map, refl, sym, ap, ◌∙◌, subst, inl, inr, arith, true, false, not, Bool, Option, None, Some}
use Rattle.std.specs.Prelude.{◌==◌, ◌&&◌, nat_le, IsTrue, MatchOption, MatchBool}
use Rattle.std.specs.List.{Contains, filter}
use Rattle.std.proofs.lemmas.Bool.{cases_Bool, and_parts, and_from, both_ways, false≢true, leb-true, le-leb}
use Rattle.std.proofs.lemmas.Option.{none-some}
use Rattle.pci_spec.specs.Registers.{MEMORY_BASE, PREFETCHABLE_BASE}
use Rattle.pci_spec.specs.Window.{WindowKind, IoWindow, MemoryWindow, PrefetchWindow, window_register, holds}
use Rattle.pci_spec.specs.System.{System, Function, Space, Io, Memory, Claims, IsAddress, window_claims, window_space, is_space_on, is_bridge, is_window, register_of}
use Rattle.pci_spec.specs.System as system
use Rattle.pci_spec.specs.Bus.{secondary}
use Rattle.pci_spec.specs.Why.{IsRegionIn, AreRuns}
use Rattle.pci_spec.proofs.Members.{in_filter_to, in_filter_from, pairs_filter}
use Rattle.pci_spec.proofs.Regions.{part_same}
use Rattle.judge_spec.specs.Given.{Given, is_cut}
use Rattle.judge_spec.specs.Claims.{is_cut_of}
use Rattle.judge_spec.specs.Told.{IsTold}
use Rattle.judge_spec.specs.ToldClaims.{Told}
use Rattle.judge_spec.specs.Regions.{slot_of, range_of}
use Rattle.judge_spec.specs.Lines.{is_first_window, BelongsUnder, IsClaimedOn, IsFreeIn, IsOutOfPlace}
use Rattle.judge_spec.proofs.Having.{first_claims}
use Rattle.pci_base.specs.declared.range.Range.{Range}
use Rattle.pci_base.specs.Ranges.{decoded_range_of}
use Rattle.pci_tree.specs.declared.region.Part.TheVariants.{Window}
use Rattle.pci_tree.specs.declared.region.Region.{Region}
use Rattle.pci_tree.specs.Regions.{is_of_window}
use Rattle.pci_claims.specs.Claim.{is_cut_from}
use Rattle.pci_claims.specs.Found.{NoneClaims, IsFoundIn}
use Rattle.pci_claims.specs.Isa.{is_cut_region}
use Rattle.pci_claims.proofs.Cutting.{cut_from_by}
use Rattle.pci_claims.proofs.Runs.{runs_of}
use Rattle.pci_map.specs.Values.{kind_at, part_at, region_part, value_of}
use Rattle.pci_map.specs.Gaps.{AreFreeInside}
use Rattle.pci_map.specs.Above.{AreInPlace}
use Rattle.pci_map.specs.Inside.{region_has, is_cut_by_isa, is_first_window_with, is_held_first, IsEarlierWindow, AreInsideWindow}
use Rattle.pci_map.specs.declared.seat.Seat.{Seat}
use Rattle.pci_map.specs.Seats.{seat_value, seat_first, IsSeatOn, AreSeatsOn, SeatIsBefore, AreSortedSeatsOf}
use Rattle.pci_map.proofs.Values.{among, first_of, seat_address, seat_bus, seat_space}

-- ---- windows and what they claim

pub window_claims_of : (b : Function) (k : WindowKind) (space : Space) (a : ℕ) → Claims b (system.Window k) space a → IsTrue (window_claims b k a)
window_claims_of b k space a c = and_from (is_space_on b (window_space k)) (holds k b.image b.probe a) c.enabled c.decodes

pub claims_of : (b : Function) (k : WindowKind) (space : Space) (a : ℕ) → IsTrue (is_bridge b) → window_space k ≡ space → IsAddress space a → IsTrue (window_claims b k a) → Claims b (system.Window k) space a
claims_of b k space a bridge maps address claims =
    let both = and_parts (is_space_on b (window_space k)) (holds k b.image b.probe a) claims in
    record { there = bridge; enabled = both.0; maps = maps; address = address; decodes = both.1 }

abbrev kind_in : system.Part → WindowKind
kind_in (system.Bar n) = IoWindow
kind_in system.Rom = IoWindow
kind_in (system.Window k) = k

in_true : (q : Region) (a : ℕ) → q.first ≤ a → a ≤ q.last → region_has q a ≡ true
in_true q a low high = and_from (nat_le q.first a) (nat_le a q.last) (le-leb q.first a low) (le-leb a q.last high)

true_in : (q : Region) (a : ℕ) → region_has q a ≡ true → (q.first ≤ a) × (a ≤ q.last)
true_in q a is = let parts = and_parts (nat_le q.first a) (nat_le a q.last) is in (leb-true q.first a parts.0, leb-true a q.last parts.1)

held_in : (w : Region) (o : Option Region) (a : ℕ) → is_first_window_with w o a ≡ true → (w.first ≤ a) × (a ≤ w.last)
held_in w None a held = true_in w a held
held_in w (Some other) a held = true_in w a (and_parts (region_has w a) (not (region_has other a)) held).0

not_true : (b : Bool) → not b ≡ true → b ≡ false
not_true true h = sym h
not_true false h = refl

-- ISA Enable doesn't take an address from the first window that claims it
pub kept_first : (given : Given) (space : Space) (k : WindowKind) (a : ℕ) (b : Function) → IsTrue (is_first_window given space k a b) → is_cut given space a b.slot ≡ false
kept_first given Io IoWindow a b first = not_true (is_cut given Io a b.slot) (and_parts (window_claims b IoWindow a) (not (is_cut given Io a b.slot)) first).1
kept_first given Io MemoryWindow a b first = absurd (false≢true first)
kept_first given Io PrefetchWindow a b first = absurd (false≢true first)
kept_first given Memory k a b first = refl

module _ (given : Given) (s : System) (space : Space) (w : Region) (iw : IsRegionIn s (value_of space w)) (window : w.part ≡ Window)
    (unique : (f g : Function) → Contains s f → Contains s g → f.slot ≡ g.slot → f ≡ g) where
  abbrev kind : WindowKind
  kind = kind_at w.reg

  abbrev b : Function
  b = iw.f

  part_kind : region_part w ≡ system.Window kind
  part_kind = ap (λ p. part_at p w.reg) window

  claims_at : (a : ℕ) → w.first ≤ a → a ≤ w.last → Claims b (system.Window kind) space a
  claims_at a low high = subst (λ p. Claims b p space a) part_kind ((iw.claims a).0 (low, high))

  claims_back : (a : ℕ) → Claims b (system.Window kind) space a → (w.first ≤ a) × (a ≤ w.last)
  claims_back a c = (iw.claims a).1 (subst (λ p. Claims b p space a) (sym part_kind) c)

  -- what ISA Enable takes from the bridge's windows of the space
  cut_here : (a : ℕ) → is_cut_from given space w a ≡ is_cut given space a b.slot
  cut_here a = ap (λ p. is_of_window p && is_cut given space a w.slot) window ∙ ap (is_cut given space a) (sym iw.slot)

  taken_here : (cut : Bool) → cut ≡ is_cut_region given space w → (a : ℕ) → is_cut_by_isa cut a ≡ is_cut given space a b.slot
  taken_here cut is a = ap (λ c. is_cut_by_isa c a) is ∙ sym (cut_from_by given space w a) ∙ cut_here a

  -- the same, of the window as the definitions have it
  part_cut : (a : ℕ) → is_cut_of given (region_part w) space a w.slot ≡ is_cut_from given space w a
  part_cut a = ap (λ p. is_window p && is_cut given space a w.slot) part_kind ∙ sym (ap (λ p. is_of_window p && is_cut given space a w.slot) window)

  first_one : Claims b (system.Window kind) space w.first
  first_one = claims_at w.first (omega arith) iw.some

  pub is_a_bridge : IsTrue (is_bridge b)
  is_a_bridge = first_one.there

  registered : window_register kind ≡ w.reg
  registered = ap (λ p. register_of b p) (sym part_kind) ∙ iw.register

  -- the memory window doesn't claim what the prefetchable one is left
  not_earlier : (o : Option Region) → MatchOption o (NoneClaims s w.slot MEMORY_BASE space) (λ q. IsFoundIn s w.slot MEMORY_BASE space q) → (a : ℕ) → is_first_window_with w o a ≡ true
      → Claims b (system.Window MemoryWindow) space a → ⊥
  not_earlier None none a held claims = none b (system.Window MemoryWindow) a iw.listed iw.slot refl claims
  not_earlier (Some other) found a held claims =
      let at = found.all b (system.Window MemoryWindow) a iw.listed iw.slot refl claims in
      let parts = and_parts (region_has w a) (not (region_has other a)) held in
      both_ways (not (region_has other a)) (ap not (in_true other a at.0 at.1)) parts.1

  first_from : (k : WindowKind) → window_register k ≡ w.reg → window_space k ≡ space → (o : Option Region) → IsEarlierWindow s space w o → (a : ℕ) → is_first_window_with w o a ≡ true → is_cut given space a b.slot ≡ false
      → IsTrue (window_claims b k a) → IsAddress space a → IsTrue (is_first_window given space k a b)
  first_from IoWindow register maps o early a held kept claims address =
      subst (λ x. IsTrue (is_first_window given x IoWindow a b)) maps (and_from (window_claims b IoWindow a) (not (is_cut given Io a b.slot)) claims (ap not (subst (λ x. is_cut given x a b.slot ≡ false) (sym maps) kept)))
  first_from MemoryWindow register maps o early a held kept claims address = subst (λ x. IsTrue (is_first_window given x MemoryWindow a b)) maps claims
  first_from PrefetchWindow register maps o early a held kept claims address =
      let found : MatchOption o (NoneClaims s w.slot MEMORY_BASE space) (λ p. IsFoundIn s w.slot MEMORY_BASE space p) =
      subst (λ r. MatchBool (r == PREFETCHABLE_BASE) (MatchOption o (NoneClaims s w.slot MEMORY_BASE space) (λ p. IsFoundIn s w.slot MEMORY_BASE space p)) (o ≡ None)) (sym register) early in
      subst (λ x. IsTrue (is_first_window given x PrefetchWindow a b)) maps (elim (cases_Bool (window_claims b MemoryWindow a)) [
        | inl memory ↦ absurd (not_earlier o found a held (claims_of b MemoryWindow space a is_a_bridge maps address memory))
        | inr none ↦ and_from (window_claims b PrefetchWindow a) (not (window_claims b MemoryWindow a)) claims (ap not none)
      ])

  pub belongs : (told : Told) (bus : ℕ) (o : Option Region) (cut : Bool) → cut ≡ is_cut_region given space w → secondary b ≡ bus → IsEarlierWindow s space w o → (q : Seat) → IsSeatOn told s bus space q
      → is_held_first w o cut q ≡ true → BelongsUnder given s (value_of space w) (seat_value space q)
  belongs told bus o cut is leads early q on held =
      let a : ℕ = seat_first q in
      let parts = and_parts (not (is_cut_by_isa cut a)) (is_first_window_with w o a) held in
      let at = held_in w o a parts.1 in
      let claims = claims_at a at.0 at.1 in
      let first : IsTrue (is_first_window given space kind a b) =
      first_from kind registered first_one.maps o early a parts.1 (sym (taken_here cut is a) ∙ not_true (is_cut_by_isa cut a) parts.0) (window_claims_of b kind space a claims) claims.address in record {
        b = b;
        listed = iw.listed;
        bridge = is_a_bridge;
        slot = iw.slot;
        leads = leads ∙ sym (seat_bus told s bus space q on);
        kind = kind;
        window = part_kind;
        first = subst (λ sp. IsTrue (is_first_window given sp kind (range_of (seat_value space q)).first b)) (sym (seat_space told s bus space q on))
            (subst (λ n. IsTrue (is_first_window given space kind n b)) (sym (first_of space q)) first);
      }

  -- where an earlier window is looked for, this is the prefetchable one
  is_prefetch : (k : WindowKind) → window_register k ≡ w.reg → (o : Option Region) (other : Region) → o ≡ Some other → IsEarlierWindow s space w o → k ≡ PrefetchWindow
  is_prefetch IoWindow register o other is early =
      let none : o ≡ None = subst (λ r. MatchBool (r == PREFETCHABLE_BASE) (MatchOption o (NoneClaims s w.slot MEMORY_BASE space) (λ p. IsFoundIn s w.slot MEMORY_BASE space p)) (o ≡ None)) (sym register) early in
      absurd (none-some other (sym none ∙ is))
  is_prefetch MemoryWindow register o other is early =
      let none : o ≡ None = subst (λ r. MatchBool (r == PREFETCHABLE_BASE) (MatchOption o (NoneClaims s w.slot MEMORY_BASE space) (λ p. IsFoundIn s w.slot MEMORY_BASE space p)) (o ≡ None)) (sym register) early in
      absurd (none-some other (sym none ∙ is))
  is_prefetch PrefetchWindow register o other is early = refl

  -- an earlier window claims what it has
  earlier_claims : (other : Region) (a : ℕ) → IsFoundIn s w.slot MEMORY_BASE space other → other.first ≤ a → a ≤ other.last → IsTrue (window_claims b MemoryWindow a)
  earlier_claims other a found low high =
      let same : found.f ≡ b = unique found.f b found.listed iw.listed (sym found.is.slot ∙ found.slot_is ∙ sym iw.slot) in
      let claims : Claims b found.part space a = subst (λ f. Claims f found.part space a) same ((found.is.claims a).0 (low, high)) in
      let register : register_of b found.part ≡ MEMORY_BASE = ap (λ f. register_of f found.part) (sym same) ∙ sym found.is.register ∙ found.register in
      let part : found.part ≡ system.Window MemoryWindow = part_same b found.part (system.Window MemoryWindow) claims.there is_a_bridge register in
      window_claims_of b MemoryWindow space a (subst (λ p. Claims b p space a) part claims)

  held_by : (o : Option Region) → IsEarlierWindow s space w o → (a : ℕ) → IsTrue (is_first_window given space kind a b) → region_has w a ≡ true → is_first_window_with w o a ≡ true
  held_by None early a first inside = inside
  held_by (Some other) early a first inside =
      let prefetch : kind ≡ PrefetchWindow = is_prefetch kind registered (Some other) other refl early in
      let register : w.reg ≡ PREFETCHABLE_BASE = sym registered ∙ ap window_register prefetch in
      let found : IsFoundIn s w.slot MEMORY_BASE space other =
      subst (λ r. MatchBool (r == PREFETCHABLE_BASE) (MatchOption (Some other) (NoneClaims s w.slot MEMORY_BASE space) (λ p. IsFoundIn s w.slot MEMORY_BASE space p)) (Some other ≡ None)) register early in
      let maps : system.Memory ≡ space = ap window_space (sym prefetch) ∙ first_one.maps in
      let left : IsTrue (window_claims b PrefetchWindow a && not (window_claims b MemoryWindow a)) =
      subst (λ x. IsTrue (is_first_window given x PrefetchWindow a b)) (sym maps) (subst (λ k. IsTrue (is_first_window given space k a b)) prefetch first) in
      let not_memory = (and_parts (window_claims b PrefetchWindow a) (not (window_claims b MemoryWindow a)) left).1 in
      and_from (region_has w a) (not (region_has other a)) inside (elim (cases_Bool (region_has other a)) [
        | inl has ↦ (let at_other = true_in other a has in
            absurd (both_ways (not (window_claims b MemoryWindow a)) (ap not (earlier_claims other a found at_other.0 at_other.1)) not_memory))
        | inr hasnt ↦ ap not hasnt
      ])

  pub held_from : (told : Told) (bus : ℕ) (o : Option Region) (cut : Bool) → cut ≡ is_cut_region given space w → IsEarlierWindow s space w o → IsTold told.ranges → (q : Seat) → IsSeatOn told s bus space q
      → BelongsUnder given s (value_of space w) (seat_value space q) → is_held_first w o cut q ≡ true
  held_from told bus o cut is early lawful q on u =
      let a : ℕ = seat_first q in
      let same : u.b ≡ b = unique u.b b u.listed iw.listed (u.slot ∙ sym iw.slot) in
      let kinds : u.kind ≡ kind = sym (ap kind_in (sym part_kind ∙ u.window)) in
      let there : IsTrue (is_first_window given space u.kind a u.b) =
      subst (λ n. IsTrue (is_first_window given space u.kind n u.b)) (first_of space q)
      (subst (λ sp. IsTrue (is_first_window given sp u.kind (range_of (seat_value space q)).first u.b)) (seat_space told s bus space q on) u.first) in
      let first : IsTrue (is_first_window given space kind a b) =
      subst (λ f. IsTrue (is_first_window given space kind a f)) same (subst (λ k. IsTrue (is_first_window given space k a u.b)) kinds there) in
      let address : IsAddress space a = seat_address told s bus space q lawful on in
      let at = claims_back a (claims_of b kind space a is_a_bridge first_one.maps address (first_claims given space kind a b first)) in
      and_from (not (is_cut_by_isa cut a)) (is_first_window_with w o a) (ap not (taken_here cut is a ∙ kept_first given space kind a b first))
      (held_by o early a first (in_true w a at.0 at.1))

  -- ---- what is free

  module _ (told : Told) (lawful : IsTold told.ranges) (bus : ℕ) (leads : secondary b ≡ bus) (qs : List Seat) (sorted : AreSortedSeatsOf told s bus space qs) where
    free_runs_are : (runs : List Range) → AreFreeInside told given s bus space w runs → AreRuns (IsFreeIn told given s (value_of space w)) (map decoded_range_of runs)
    free_runs_are runs are = runs_of (IsFreeIn told given s (value_of space w)) runs are.canonical (λ a. (
      λ covered. (let free = (are.exact a).0 covered in record {
        held = free.0.held;
        kept = part_cut a ∙ free.0.kept;
        unclaimed = λ c listed slot claimed. free.1 (subst (λ n. IsClaimedOn told given s n space a) (ap secondary (unique c b listed iw.listed (slot ∙ sym iw.slot)) ∙ leads) claimed);
      }),
      λ free. (are.exact a).1 (record { held = free.held; kept = sym (part_cut a) ∙ free.kept }, λ claimed. free.unclaimed b iw.listed iw.slot (subst (λ n. IsClaimedOn told given s n space a) (sym leads) claimed)),
    ))

    pub inside_is : (roots : List ℕ) (o : Option Region) (cut : Bool) (out : List Seat) (runs : List Range) → cut ≡ is_cut_region given space w → IsEarlierWindow s space w o → w.slot.bus < bus
        → AreInPlace told given roots s space (filter (is_held_first w o cut) qs) out → AreFreeInside told given s bus space w runs → AreInsideWindow record { told = told; given = given; roots = roots; system = s; space = space } w bus out runs
    inside_is roots o cut out runs is early rises placed free = record {
      rises = rises;
      each = λ q has. sorted.each q (in_filter_to (is_held_first w o cut) qs q (placed.each q has)).0;
      belong = λ q has. (let kept = in_filter_to (is_held_first w o cut) qs q (placed.each q has) in belongs told bus o cut is leads early q (sorted.each q kept.0) kept.1);
      within = placed.hold;
      complete = λ v is_in same under in_place. (
          let on : (slot_of v).bus ≡ bus = sym under.leads ∙ ap secondary (unique under.b b under.listed iw.listed (under.slot ∙ sym iw.slot)) ∙ leads in
          let found = among told s bus space qs v sorted is_in on same in
          let kept = held_from told bus o cut is early lawful found.0 (sorted.each found.0 found.1) (subst (λ x. BelongsUnder given s (value_of space w) x) (sym found.2) under) in record {
            q = found.0;
            has = placed.complete found.0 (in_filter_from (is_held_first w o cut) qs found.0 found.1 kept) (λ out_of. in_place (subst (λ x. IsOutOfPlace told given roots s x) found.2 out_of));
            is = found.2;
          });
      sorted = placed.sorted (pairs_filter (SeatIsBefore space) (is_held_first w o cut) qs sorted.sorted);
      free = free_runs_are runs free;
    }

-- what is held of a bus is of the bus
pub held_on : (told : Told) (s : System) (space : Space) (bus : ℕ) (qs : List Seat) → AreSortedSeatsOf told s bus space qs → (held : List Seat) (keeps : Seat → Bool) → held ≡ filter keeps qs → AreSeatsOn told s bus space held
held_on told s space bus qs sorted held keeps is q has = sorted.each q (in_filter_to keeps qs q (subst (λ xs. Contains xs q) is has)).0
