-- Once settled with told ranges, at most one region claims an access, but for those that may share it.
use Rattle.std.proofs.Common.{◌≡◌, ◌&&◌, ◌||◌, ◌≤◌, ℕ, Bool, true, false, inl, inr, not, arith, refl, sym, ◌∙◌, ap, subst}
use Rattle.std.specs.Bool.{◌==◌}
use Rattle.std.specs.List.{Contains}
use Rattle.std.proofs.lemmas.Bool.{and_parts, and_from, cases_Bool, cases_eq, eq-eqb, not-false, not_from_false, or_left, or_right}
use Rattle.pci_spec.specs.Slot.{Slot, same_slot}
use Rattle.pci_spec.specs.Decoded.{Range, InRange}
use Rattle.pci_spec.specs.System.{System, Function, Space, Part, Bar, Rom, Window, space_of}
use Rattle.pci_spec.specs.System as system
use Rattle.pci_spec.specs.Bus.{is_root, are_siblings}
use Rattle.pci_spec.specs.Fault.{RegionName, Address, address_in}
use Rattle.pci_spec.proofs.BusRanges.{root_means}
use Rattle.pci_spec.proofs.Members.{in_map_to, IsMade}
use Rattle.pci_spec.proofs.SameSlot.{slot_itself, slots_same}
use Rattle.plan_spec.specs.Planning.Layout.{LieApart}
use Rattle.plan_spec.proofs.Planning.LaidOut.{place_of_claim}
use Rattle.judge_spec.specs.Given.{nothing_given, starts}
use Rattle.judge_spec.specs.Claims as untold
use Rattle.judge_spec.specs.Sound as untold_sound
use Rattle.judge_spec.specs.Told.{ToldRange}
use Rattle.judge_spec.specs.ToldClaims.{Told, is_range_on, is_held, is_held_beside, RangeClaimsOnBus, ClaimsOnBus, may_share}
use Rattle.judge_spec.specs.ToldRegion.{ToldRegion, told_regions}
use Rattle.judge_spec.specs.ToldSound.{MayBoth, IsSingle}
use Rattle.judge_spec.proofs.Judging.{same_sound}
use Rattle.judge_spec.proofs.Nothing.{no_legacy_claims, no_palette_claims}
use Rattle.settle_spec.specs.Lines.{line_bus, line_range, is_held_line, is_line_of, can_keep_off}
use Rattle.settle_spec.specs.FirstPlace.{ranges_are_apart}
use Rattle.settle_spec.specs.Lists.{Request}
use Rattle.settle_spec.specs.Parts.{are_same_space}
use Rattle.settle_spec.specs.Kept.{Kept}
use Rattle.settle_spec.specs.Keeping.Registers.{settled, settled_function}
use Rattle.settle_spec.proofs.ToldStanding.{ranges_stand_in_place}
use Rattle.settle_laws.specs.Keeping.PlacesLaws.{CanSettle}
use Rattle.settle_laws.specs.ToldSoundLaws.{CanSettleTold}
use Rattle.settle_laws.proofs.Held.{same_itself, and_second_false}
use Rattle.settle_laws.proofs.Apart.{siblings_back}
use Rattle.settle_laws.proofs.StandingTold.Beside.{ranges_apart}
use Rattle.settle_laws.proofs.Kept.{lie_apart}
use Rattle.settle_laws.proofs.Keeping.Claimed.{claimed, new_decodable}
use Rattle.settle_laws.proofs.Keeping.Moves.{moves, new_system}
use Rattle.settle_laws.proofs.Keeping.SettledSound.{settled_sound}
use Rattle.settle_laws.proofs.Told.Ends.{end_off}
use Rattle.settle_laws.proofs.Told.Lines.{line_at, named_line, held_register, one_line, line_forward}
use Rattle.settle_laws.proofs.Told.On.{counts, stands_now}

-- two ranges that share an address aren't apart
shares : {P : Type 0} (r t : Range) (a : ℕ) → InRange r a → InRange t a → LieApart r t → P
shares r t a (from, to) (first, last) (inl under) = absurd (let no : ⊥ = omega (arith, to, first, under) in no)
shares r t a (from, to) (first, last) (inr over) = absurd (let no : ⊥ = omega (arith, from, last, over) in no)

-- ---- who may share

module _ (told : Told) where
  -- a `held` range of the slot of another region
  pub held_shares : (one other : Slot) (register other_register : ℕ) → is_held told register ≡ true → one ≡ other → may_share told one register other other_register ≡ true
  held_shares one other register other_register held same =
      or_left (untold.may_share one register other other_register || is_held_beside told one register other other_register) (is_held_beside told other other_register one register)
      (or_right (untold.may_share one register other other_register) (is_held_beside told one register other other_register)
      (and_from (is_held told register) (is_held told other_register || same_slot one other) held
      (or_right (is_held told other_register) (same_slot one other) (ap (same_slot one) (sym same) ∙ slot_itself one))))

  -- two `held` ranges
  pub both_held : (one other : Slot) (register other_register : ℕ) → is_held told register ≡ true → is_held told other_register ≡ true → may_share told one register other other_register ≡ true
  both_held one other register other_register held also =
      or_left (untold.may_share one register other other_register || is_held_beside told one register other other_register) (is_held_beside told other other_register one register)
      (or_right (untold.may_share one register other other_register) (is_held_beside told one register other other_register)
      (and_from (is_held told register) (is_held told other_register || same_slot one other) held (or_left (is_held told other_register) (same_slot one other) also)))

  -- from either side
  held_shared : (one other : Slot) (register other_register : ℕ) → is_held told other_register ≡ true → one ≡ other → may_share told one register other other_register ≡ true
  held_shared one other register other_register held same =
      or_right (untold.may_share one register other other_register || is_held_beside told one register other other_register) (is_held_beside told other other_register one register)
      (and_from (is_held told other_register) (is_held told register || same_slot other one) held
      (or_right (is_held told register) (same_slot other one) (ap (same_slot other) same ∙ slot_itself other)))

  -- two parts that may share it without what is told
  untold_shared : (one other : Slot) (register other_register : ℕ) → untold.may_share one register other other_register ≡ true → may_share told one register other other_register ≡ true
  untold_shared one other register other_register is =
      or_left (untold.may_share one register other other_register || is_held_beside told one register other other_register) (is_held_beside told other other_register one register)
      (or_left (untold.may_share one register other other_register) (is_held_beside told one register other other_register) is)

module _ (q : Request) (s : System) (k : Kept) (all : CanSettleTold q s k) where
  abbrev can : CanSettle q s k
  can = all.can

  abbrev t : System
  t = settled q s k

  abbrev now : Function → Function
  now f = settled_function q s k f

  forward : (x : ToldRegion) → Contains (told_regions q.told) x → x.told.first ≤ x.told.last
  forward x told = line_forward q.told x all.told.lawful told

  same_space : (f : Function) (p : Part) → space_of f p ≡ space_of (now f) p
  same_space f (Bar n) = refl
  same_space f Rom = refl
  same_space f (Window kind) = refl

  -- ---- a line that is on, and claims an address

  record IsClaiming (space : Space) (a : ℕ) (region : RegionName) : Type 0 where
    x : ToldRegion
    told : Contains (told_regions q.told) x
    slot : x.told.slot ≡ region.slot
    register : x.register ≡ region.register
    on : is_range_on q.told t x.told ≡ true
    space_is : x.told.space ≡ space
    has : InRange (line_range x) a

  claiming : (space : Space) (a bus : ℕ) (region : RegionName) → RangeClaimsOnBus q.told t bus (address_in space a) region → IsClaiming space a region
  claiming space a bus region c = record {
    x = line_at region c.r;
    told = named_line q.told region c.r c.named;
    slot = c.named.slot;
    register = refl;
    on = c.claims.on;
    space_is = c.claims.holds.0;
    has = (c.claims.holds.1, c.claims.holds.2);
  }

  module _ (space : Space) (a : ℕ) where
    -- ---- a part and a line

    -- only a `held` line of its own slot claims what a part claims
    part_and_line : (f : Function) (p : Part) → Contains s f → system.Claims (now f) p space a → (region : RegionName) (c : IsClaiming space a region) → are_siblings q.roots f.slot.bus region.slot.bus ≡ true
        → (is_held_line c.x ≡ true) × (same_slot c.x.told.slot f.slot ≡ true)
    part_and_line f p listed claim region c beside = elim (cases_Bool (is_held_line c.x && same_slot c.x.told.slot f.slot)) [
      | inl both ↦ and_parts (is_held_line c.x) (same_slot c.x.told.slot f.slot) both
      | inr other ↦
          let x = c.x in
          let h = claimed q s k can f p space a listed claim in
          let range = (place_of_claim (now f) p space a (new_decodable q s k can f listed) claim).range in
          let here : InRange h.at a = subst (λ r. InRange r a) h.shown range in
          let spaces : space_of f p ≡ x.told.space = same_space f p ∙ claim.maps ∙ sym c.space_is in
          let on : is_line_of q (space_of f p) f.slot.bus x ≡ true =
          and_from (are_siblings q.roots f.slot.bus (line_bus x)) (are_same_space (space_of f p) x.told.space) (ap (λ (v : Slot). are_siblings q.roots f.slot.bus v.bus) c.slot ∙ beside)
          (ap (are_same_space (space_of f p)) (sym spaces) ∙ same_itself (space_of f p)) in
          let can_be : can_keep_off q x f.slot (space_of f p) ≡ true = and_from (is_line_of q (space_of f p) f.slot.bus x) (not (is_held_line x && same_slot x.told.slot f.slot)) on (not_from_false (is_held_line x && same_slot x.told.slot f.slot) other) in
          shares h.at (line_range x) a here c.has
          (end_off q s k can x c.told (forward x c.told) (counts q s k all x c.told c.on) f listed p h.there can_be h.at h.ends)
    ]

    -- ---- two lines

    line_beside : (first second : RegionName) (c : IsClaiming space a first) (d : IsClaiming space a second) → are_siblings q.roots first.slot.bus second.slot.bus ≡ true → is_line_of q c.x.told.space (line_bus c.x) d.x ≡ true
    line_beside first second c d beside =
        and_from (are_siblings q.roots (line_bus c.x) (line_bus d.x)) (are_same_space c.x.told.space d.x.told.space)
        (ap (λ (v : Slot). are_siblings q.roots v.bus (line_bus d.x)) c.slot ∙ ap (λ (v : Slot). are_siblings q.roots first.slot.bus v.bus) d.slot ∙ beside)
        (ap (are_same_space c.x.told.space) (d.space_is ∙ sym c.space_is) ∙ same_itself c.x.told.space)

    -- a `held` line that shares an address with a told range that is on is of its slot
    held_and_told : (first second : RegionName) (c : IsClaiming space a first) (d : IsClaiming space a second) → are_siblings q.roots first.slot.bus second.slot.bus ≡ true → is_held_line c.x ≡ true → is_held_line d.x ≡ false
        → same_slot c.x.told.slot d.x.told.slot ≡ true
    held_and_told first second c d beside held told = elim (cases_Bool (same_slot c.x.told.slot d.x.told.slot)) [
      | inl same ↦ same
      | inr other ↦
          let x = c.x in
          let y = d.x in
          let stand = stands_now q s k all y d.told told (counts q s k all y d.told d.on) in
          let off = (ranges_stand_in_place q s y stand).off_held x c.told held in
          let on : is_line_of q y.told.space y.told.slot.bus x ≡ true = line_beside second first d c (siblings_back q.roots first.slot.bus second.slot.bus beside) in
          let can_be : can_keep_off q x y.told.slot y.told.space ≡ true =
          and_from (is_line_of q y.told.space y.told.slot.bus x) (not (is_held_line x && same_slot x.told.slot y.told.slot)) on (ap (λ b. not (is_held_line x && b)) other ∙ ap (λ b. not (b && false)) held) in
          let apart = and_second_false (can_keep_off q x y.told.slot y.told.space) (not (ranges_are_apart (line_range x) (line_range y))) can_be off in
          shares (line_range x) (line_range y) a c.has d.has (lie_apart (line_range x) (line_range y) (not-false (ranges_are_apart (line_range x) (line_range y)) apart))
    ]

    two_lines : (first second : RegionName) → IsClaiming space a first → IsClaiming space a second → are_siblings q.roots first.slot.bus second.slot.bus ≡ true → MayBoth q.told first second
    two_lines first second c d beside = by (is_held_line c.x) (is_held_line d.x) refl refl
      where
        of_first : is_held_line c.x ≡ true → is_held q.told first.register ≡ true
        of_first held = ap (is_held q.told) (sym c.register) ∙ held_register q.told c.x c.told held

        of_second : is_held_line d.x ≡ true → is_held q.told second.register ≡ true
        of_second held = ap (is_held q.told) (sym d.register) ∙ held_register q.told d.x d.told held

        by : (one other : Bool) → is_held_line c.x ≡ one → is_held_line d.x ≡ other → MayBoth q.told first second
        by true true held also = inr (both_held q.told first.slot second.slot first.register second.register (of_first held) (of_second also))
        by true false held told =
            inr (held_shares q.told first.slot second.slot first.register second.register (of_first held)
            (sym c.slot ∙ slots_same c.x.told.slot d.x.told.slot (held_and_told first second c d beside held told) ∙ d.slot))
        by false true told held =
            inr (held_shared q.told first.slot second.slot first.register second.register (of_second held)
            (sym (sym d.slot ∙ slots_same d.x.told.slot c.x.told.slot (held_and_told second first d c (siblings_back q.roots first.slot.bus second.slot.bus beside) held told) ∙ c.slot)))
        by false false told also = elim (cases_eq c.x.register d.x.register) [
          | inl same ↦
              let one : c.x.told ≡ d.x.told = one_line q.told c.x d.x c.told d.told same in
              inl (sym c.slot ∙ ap (λ (r : ToldRange). r.slot) one ∙ d.slot, sym c.register ∙ same ∙ d.register)
          | inr differ ↦
              shares (line_range c.x) (line_range d.x) a c.has d.has
              (lie_apart (line_range c.x) (line_range d.x)
              (ranges_apart q s c.x d.x c.told d.told (stands_now q s k all c.x c.told told (counts q s k all c.x c.told c.on)) (stands_now q s k all d.x d.told also (counts q s k all d.x d.told d.on))
              (line_beside first second c d beside) differ))
        ]

  -- ---- any two regions

  abbrev plain : untold_sound.IsSound nothing_given q.roots t
  plain = (same_sound q.roots t (new_system q s k can)).1 (settled_sound q s k can)

  module _ (space : Space) (a : ℕ) where
    -- a part of the system before
    record IsPartThen (region : RegionName) : Type 0 where
      f : Function
      p : Part
      listed : Contains s f
      slot : f.slot ≡ region.slot
      claims : system.Claims (now f) p space a

    part_then : (bus : ℕ) (region : RegionName) → untold.ClaimsOnBus nothing_given t bus (address_in space a) region → IsPartThen region
    part_then bus region (g, untold.Own p, listed, slot, on, register, claims) =
        let made : IsMade now s g = in_map_to now s g listed in
        record {
          f = made.from;
          p = p;
          listed = made.has;
          slot = sym (moves q s k can made.from made.has).slot ∙ ap (λ (x : Function). x.slot) made.is ∙ slot;
          claims = subst (λ x. system.Claims x p space a) (sym made.is) claims.claims;
        }
    part_then bus region (g, untold.Legacy, listed, slot, on, register, claims) = absurd (no_legacy_claims g space a claims)
    part_then bus region (g, untold.Palette, listed, slot, on, register, claims) = absurd (no_palette_claims g space a claims)

    part_line : (first second : RegionName) → IsPartThen first → IsClaiming space a second → are_siblings q.roots first.slot.bus second.slot.bus ≡ true
        → (is_held q.told second.register ≡ true) × (first.slot ≡ second.slot)
    part_line first second part c beside =
        let both = part_and_line space a part.f part.p part.listed part.claims second c (ap (λ (v : Slot). are_siblings q.roots v.bus second.slot.bus) part.slot ∙ beside) in (
          ap (is_held q.told) (sym c.register) ∙ held_register q.told c.x c.told both.0,
          sym part.slot ∙ sym (slots_same c.x.told.slot part.f.slot both.1) ∙ c.slot,
        )

    -- of two that claim an address beside each other, both are parts, or they may share it
    two_regions : (bus over : ℕ) (first second : RegionName) → are_siblings q.roots first.slot.bus second.slot.bus ≡ true
        → ClaimsOnBus q.told nothing_given t bus (address_in space a) first → ClaimsOnBus q.told nothing_given t over (address_in space a) second
        → (untold.ClaimsOnBus nothing_given t bus (address_in space a) first → untold.ClaimsOnBus nothing_given t over (address_in space a) second → MayBoth q.told first second)
        → MayBoth q.told first second
    two_regions bus over first second beside (inl one) (inl other) parts = parts one other
    two_regions bus over first second beside (inl one) (inr other) parts =
        let is = part_line first second (part_then bus first one) (claiming space a over second other) beside in
        inr (held_shared q.told first.slot second.slot first.register second.register is.0 is.1)
    two_regions bus over first second beside (inr one) (inl other) parts =
        let is = part_line second first (part_then over second other) (claiming space a bus first one) (siblings_back q.roots first.slot.bus second.slot.bus beside) in
        inr (held_shares q.told first.slot second.slot first.register second.register is.0 (sym is.1))
    two_regions bus over first second beside (inr one) (inr other) parts = two_lines space a first second (claiming space a bus first one) (claiming space a over second other) beside

  -- what is known of parts is known of regions that they name
  named_both : (first second : RegionName) (f g : Function) (p r : untold.Part) → f.slot ≡ first.slot → untold.register_of f p ≡ first.register → g.slot ≡ second.slot → untold.register_of g r ≡ second.register
      → untold_sound.MayBoth f p g r → MayBoth q.told first second
  named_both first second f g p r slot_f register_f slot_g register_g (inl (slots, registers)) = inl (sym slot_f ∙ slots ∙ slot_g, sym register_f ∙ registers ∙ register_g)
  named_both first second f g p r slot_f register_f slot_g register_g (inr may) =
      inr (untold_shared q.told first.slot second.slot first.register second.register
      may_share_at)
    where
      may_share_at : untold.may_share first.slot first.register second.slot second.register ≡ true
      may_share_at =
          (λ i. untold.may_share (sym slot_f i) (sym register_f i) (sym slot_g i) (sym register_g i)) ∙ may

  on_one_bus : (first second : RegionName) (bus : ℕ) → first.slot.bus ≡ bus → second.slot.bus ≡ bus → are_siblings q.roots first.slot.bus second.slot.bus ≡ true
  on_one_bus first second bus on also = or_left (first.slot.bus == second.slot.bus) (is_root q.roots first.slot.bus && is_root q.roots second.slot.bus) (eq-eqb first.slot.bus second.slot.bus (on ∙ sym also))

  bus_of : (at : Address) (bus : ℕ) (region : RegionName) → ClaimsOnBus q.told nothing_given t bus at region → region.slot.bus ≡ bus
  bus_of at bus region (inl (f, part, listed, slot, on, register, claims)) = on
  bus_of at bus region (inr c) = c.on_the_bus

  pub told_single : IsSingle q.told nothing_given q.roots t
  told_single = record {
    on_a_bus = λ space a bus gets first second one other.
        two_regions space a bus bus first second (on_one_bus first second bus (bus_of (address_in space a) bus first one) (bus_of (address_in space a) bus second other)) one other
        (λ (f, p, in_f, slot_f, on_f, register_f, claims_f) (g, r, in_g, slot_g, on_g, register_g, claims_g).
        named_both first second f g p r slot_f register_f slot_g register_g
        (plain.single.on_a_bus space a bus gets f g p r in_f in_g (ap (λ (v : Slot). v.bus) slot_f ∙ on_f) (ap (λ (v : Slot). v.bus) slot_g ∙ on_g) claims_f claims_g));
    over_roots = λ space a first second root_first root_second starts_first starts_second one other.
        two_regions space a first.slot.bus second.slot.bus first second (roots_beside first second root_first root_second) one other
        (λ (f, p, in_f, slot_f, on_f, register_f, claims_f) (g, r, in_g, slot_g, on_g, register_g, claims_g).
        named_both first second f g p r slot_f register_f slot_g register_g
        (plain.single.over_roots space a f g p r in_f in_g (subst (λ (v : Slot). Contains q.roots v.bus) (sym slot_f) root_first) (subst (λ (v : Slot). Contains q.roots v.bus) (sym slot_g) root_second)
        (subst (λ (v : Slot). starts nothing_given space v.bus a ≡ true) (sym slot_f) starts_first) (subst (λ (v : Slot). starts nothing_given space v.bus a ≡ true) (sym slot_g) starts_second) claims_f claims_g));
  }
    where
      roots_beside : (first second : RegionName) → Contains q.roots first.slot.bus → Contains q.roots second.slot.bus → are_siblings q.roots first.slot.bus second.slot.bus ≡ true
      roots_beside first second one other =
          or_right (first.slot.bus == second.slot.bus) (is_root q.roots first.slot.bus && is_root q.roots second.slot.bus)
          (and_from (is_root q.roots first.slot.bus) (is_root q.roots second.slot.bus) ((root_means q.roots first.slot.bus).1 one) ((root_means q.roots second.slot.bus).1 other))
