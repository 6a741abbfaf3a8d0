-- The region that a slot and a register name.
use Rattle.std.proofs.Common.{◌≡◌, ℕ, ◌^◌, List, [], ◌∷◌, length, Bool, true, false, ◌&&◌, arith, refl, sym, ◌∙◌, ap, subst, inl, inr, ◌≤◌, ◌<◌, get_or}
use Rattle.std.specs.Prelude.{◌↔◌, IsTrue, ◌==◌, nat_lt, nat_le}
use Rattle.std.specs.Option.{is_some}
use Rattle.std.specs.List.{All, Contains}
use Rattle.std.proofs.lemmas.Bool.{and_parts, both_ways, eqb-true, ltb-true, leb-true}
use Rattle.std.proofs.lemmas.Option.{slice_get_within, get_or_from_slice_get}
use Rattle.std.proofs.lemmas.List.Folds.{Any-from_list_any}
use Rattle.pci_spec.specs.Slot.{Slot, same_slot}
use Rattle.pci_spec.specs.System.{System, Function, Space, Io, Memory, IsAddress, IsSystem, is_bridge, is_space_on}
use Rattle.pci_spec.specs.Decoded.{record_of}
use Rattle.pci_spec.specs.Fault.{RegionName, address_in, named_region}
use Rattle.pci_base.specs.declared.range.Range.{Range}
use Rattle.pci_base.specs.declared.space.Space.{Space as CodeSpace}
use Rattle.pci_base.specs.declared.space.Space.TheVariants as code
use Rattle.pci_base.specs.Space.{is_on, space_of}
use Rattle.pci_function.specs.declared.record.Record.{Record}
use Rattle.pci_function.specs.Values.{record_value}
use Rattle.pci_tree.specs.declared.region.Region.{Region}
use Rattle.pci_tree.specs.Ranges.{Covers, IsCanonical}
use Rattle.pci_tree.specs.Regions.{IsRegionOn}
use Rattle.pci_tree.specs.Ways.{slots_of}
use Rattle.pci_tree.specs.Outline.{RiseBySlot}
use Rattle.pci_tree.proofs.Lifting.{Has, function_for, same_slot_of}
use Rattle.pci_claims.specs.Found.{region_of_found, IsFoundIn}
use Rattle.pci_claims.specs.Found as found
use Rattle.pci_why.proofs.Evidences.{cut_of_part, given_line_same}
use Rattle.pci_claims.proofs.Founds.{region_in}
use Rattle.judge_spec.specs.Given.{Given, legacy_holds, is_palette_at, palette_claims}
use Rattle.judge_spec.specs.Claims.{Own as OwnPart, Legacy as LegacyPart, Palette as PalettePart, LegacyClaims, PaletteClaims}
use Rattle.judge_spec.specs.Claims as untold
use Rattle.judge_spec.specs.Told.{ToldRange, IsTold, IsToldRange, is_name_byte}
use Rattle.judge_spec.specs.ToldClaims.{Told, ClaimsOnBus, IsRangeAt, RangeClaimsOnBus, is_range_on}
use Rattle.judge_spec.specs.ToldRegion.{ToldRegion, told_words}
use Rattle.judge_spec.specs.Why.{Own, Legacy, Palette, OfLine, is_narrow, is_narrow_among}
use Rattle.judge_spec.proofs.Naming.{named_register}
use Rattle.judge_spec.proofs.Snoop.{palette_has_no_memory}
use Rattle.judge_spec.proofs.ToldNames.{one_range}
use Rattle.pci_spec.specs.Listing.{inner_line}
use Rattle.pci_claims.specs.Passed.{is_piece_at, legacy_passes}
use Rattle.pci_claims.specs.Claim.{AreAddressesOf, IsLegacyOf, IsPaletteOf}
use Rattle.pci_claims.proofs.Gathering.{none_covered}
use Rattle.pci_claims.proofs.Linking.{legacy_same, palette_same}
use Rattle.pci_claims.proofs.RegionClaims.{claimed_is, not_legacy, not_palette}
use Rattle.pci_why.specs.declared.named.Shown.{Shown}
use Rattle.pci_why.specs.declared.named.Shown.TheVariants as shown
use Rattle.pci_why.specs.Lines.{legacy_line, palette_line}
use Rattle.pci_why.specs.Named.{shown_line, is_shown_prefetchable, IsNamedIn}
use Rattle.pci_why.proofs.Recorded.{stands_for, has_record}

-- no region that they name claims an address
abbrev pub IsNone : Told → Given → System → Slot → ℕ → Space → Type 0
IsNone told given s slot reg space = (a bus : ℕ) → ClaimsOnBus told given s bus (address_in space a) (named_region slot reg) → ⊥

-- registers below those of told ranges name regions of functions
own_claim : (told : Told) (given : Given) (s : System) (bus : ℕ) (space : Space) (a : ℕ) (slot : Slot) (reg : ℕ) → reg < 256 → ClaimsOnBus told given s bus (address_in space a) (named_region slot reg)
    → untold.ClaimsOnBus given s bus (address_in space a) (named_region slot reg)
own_claim told given s bus space a slot reg low (inl own) = own
own_claim told given s bus space a slot reg low (inr range) = absurd (let line = range.named.register in let no : ⊥ = omega (arith, line, low) in no)

-- the others name told ranges
told_claim : (told : Told) (given : Given) (s : System) (bus : ℕ) (space : Space) (a : ℕ) (slot : Slot) (register : ℕ) → 256 ≤ register → ClaimsOnBus told given s bus (address_in space a) (named_region slot register)
    → RangeClaimsOnBus told s bus (address_in space a) (named_region slot register)
told_claim told given s bus space a slot register high (inl own) = absurd (let low = named_register given s bus space a slot register own in let no : ⊥ = omega (arith, low, high) in no)
told_claim told given s bus space a slot register high (inr range) = range

-- ---- lists of addresses

pub empty_is : (rs : List Range) → (length rs == 0) ≡ true → rs ≡ []
empty_is [] e = refl
empty_is (r ∷ rs) e = absurd (let same : length (r ∷ rs) ≡ 0 = eqb-true _ _ e in let no : ⊥ = omega (arith, same) in no)

-- one that isn't empty has an address
pub some_covered : (rs : List Range) → IsCanonical rs → (length rs == 0) ≡ false → (a : ℕ) × Covers rs a
some_covered [] can e = absurd (both_ways _ e refl)
some_covered (r ∷ rs) can e = (r.first, (0, r, omega arith, refl, (omega arith, can.each 0 r (omega arith))))

-- ---- a legacy part

-- what a legacy part has is an address of the space
address_of : (is_wide : Bool) (space : Space) (a : ℕ) → legacy_holds is_wide space a ≡ true → IsAddress space a
address_of is_wide Io a holds =
    let low = ltb-true a (2 ^ 16) (and_parts (nat_lt a (2 ^ 16)) _ holds).0 in omega (arith, low)
address_of is_wide Memory a holds =
    let low = leb-true a 0xbffff (and_parts (nat_le 0xa0000 a) (nat_le a 0xbffff) holds).1 in omega (arith, low)

passed_address : (given : Given) (space : Space) (a : ℕ) (r : Record) → legacy_passes given space a r ≡ true → IsAddress space a
passed_address given space a r passes =
    let some = Any-from_list_any (is_piece_at r.slot space a) given.legacy (and_parts (is_some r.bridge && is_on r.command space) _ passes).1 in
    address_of some.1.is_wide space a (and_parts (same_slot some.1.slot r.slot) _ some.4).1

no_own_record : (given : Given) (s : System) (rs : List Record) (slot : Slot) (space : Space) → Has s rs → (Contains (slots_of rs) slot → ⊥) → (a bus : ℕ) → untold.ClaimsOnBus given s bus (address_in space a) (named_region slot 0x3e) → ⊥
no_own_record given s rs slot space is none a bus (f, OwnPart part, listed, at, there, named, claims) = not_legacy f part named
no_own_record given s rs slot space is none a bus (f, LegacyPart, listed, at, there, named, claims) = none (has_record s rs f slot is listed at)
no_own_record given s rs slot space is none a bus (f, PalettePart, listed, at, there, named, claims) = let no : ⊥ = omega (arith, named) in no

pub none_without_record : (told : Told) (given : Given) (s : System) (rs : List Record) (slot : Slot) (space : Space) → Has s rs → (Contains (slots_of rs) slot → ⊥) → IsNone told given s slot 0x3e space
none_without_record told given s rs slot space is none a bus claims = no_own_record given s rs slot space is none a bus (own_claim told given s bus space a slot 0x3e (omega arith) claims)

module _ (told : Told) (given : Given) (s : System) (rs : List Record) (r : Record) (slot : Slot) (space : Space) (out : List Range) (is : Has s rs) (rise : RiseBySlot rs) (has : Contains rs r) (at_slot : r.slot ≡ slot)
    (legacy : IsLegacyOf given space r out) where
  -- what the legacy part at the slot claims
  own_covers_legacy : (a bus : ℕ) → untold.ClaimsOnBus given s bus (address_in space a) (named_region slot 0x3e) → Covers out a
  own_covers_legacy a bus (f, OwnPart part, listed, at, there, named, claims) = absurd (not_legacy f part named)
  own_covers_legacy a bus (f, LegacyPart, listed, at, there, named, claims) =
      (legacy.exact a).1 (sym (legacy_same given space a r f (stands_for s rs r f is rise has listed (at_slot ∙ sym at))) ∙ claims.claims)
  own_covers_legacy a bus (f, PalettePart, listed, at, there, named, claims) = absurd (let no : ⊥ = omega (arith, named) in no)

  legacy_covers : (a bus : ℕ) → ClaimsOnBus told given s bus (address_in space a) (named_region slot 0x3e) → Covers out a
  legacy_covers a bus claims = own_covers_legacy a bus (own_claim told given s bus space a slot 0x3e (omega arith) claims)

  pub none_of_none : out ≡ [] → IsNone told given s slot 0x3e space
  none_of_none none a bus claims = none_covered a (subst (λ xs. Covers xs a) none (legacy_covers a bus claims))

  legacy_exact : (f : Function) → record_value r ≡ record_of f → (a : ℕ) → Covers out a ↔ LegacyClaims given f space a
  legacy_exact f e a = (
    λ (h : Covers out a). (let passes = (legacy.exact a).0 h in record { address = passed_address given space a r passes; claims = legacy_same given space a r f e ∙ passes }),
    λ (h : LegacyClaims given f space a). (legacy.exact a).1 (sym (legacy_same given space a r f e) ∙ h.claims),
  )

  pub legacy_is_named : (narrow : Bool) → narrow ≡ is_narrow given slot → (a : ℕ) → Covers out a → IsNamedIn told given s (named_region slot 0x3e) space (shown.Legacy slot narrow) out
  legacy_is_named narrow is_narrow_is a covered =
      let own = function_for s rs r is has in
      let f = own.0 in
      let at : f.slot ≡ slot = sym (same_slot_of r f own.2) ∙ at_slot in
      record {
        region = Legacy f space;
        is = (own.1, a, (legacy_exact f own.2 a).0 covered);
        named = (at, refl, refl);
        prefetchable = refl;
        line = λ word. ap (λ n. legacy_line word slot n space) is_narrow_is ∙ ap (λ (x : Slot). legacy_line word x (is_narrow given x) space) (sym at);
        exact = legacy_exact f own.2;
        all = legacy_covers;
      }

-- ---- a palette part

pub space_of_memory : (space : CodeSpace) → space ≡ code.Mem → space_of space ≡ Memory
space_of_memory space e = ap space_of e

pub space_of_io : (space : CodeSpace) → (space ≡ code.Mem → ⊥) → space_of space ≡ Io
space_of_io code.Io other = refl
space_of_io code.Mem other = absurd (other refl)

-- what a palette part has is an address
palette_address : (given : Given) (f : Function) (a : ℕ) → palette_claims given Io a f ≡ true → IsAddress Io a
palette_address given f a claims =
    let some = Any-from_list_any (is_palette_at f Io a) given.palette (and_parts (is_bridge f && is_space_on f Io) _ claims).1 in
    let low = ltb-true a (2 ^ 16) (and_parts (nat_lt a (2 ^ 16)) _ (and_parts (same_slot some.1.slot f.slot) _ some.4).1).0 in
    omega (arith, low)

module _ (told : Told) (given : Given) (s : System) (slot : Slot) where
  -- it has none of memory
  no_own_memory : (a bus : ℕ) → untold.ClaimsOnBus given s bus (address_in Memory a) (named_region slot 0x04) → ⊥
  no_own_memory a bus (f, OwnPart part, listed, at, there, named, claims) = not_palette f part named
  no_own_memory a bus (f, LegacyPart, listed, at, there, named, claims) = let no : ⊥ = omega (arith, named) in no
  no_own_memory a bus (f, PalettePart, listed, at, there, named, claims) = palette_has_no_memory given f a claims

  pub none_of_memory : IsNone told given s slot 0x04 Memory
  none_of_memory a bus claims = no_own_memory a bus (own_claim told given s bus Memory a slot 0x04 (omega arith) claims)

  no_own_palette : (rs : List Record) (space : Space) → Has s rs → (Contains (slots_of rs) slot → ⊥) → (a bus : ℕ) → untold.ClaimsOnBus given s bus (address_in space a) (named_region slot 0x04) → ⊥
  no_own_palette rs space is none a bus (f, OwnPart part, listed, at, there, named, claims) = not_palette f part named
  no_own_palette rs space is none a bus (f, LegacyPart, listed, at, there, named, claims) = let no : ⊥ = omega (arith, named) in no
  no_own_palette rs space is none a bus (f, PalettePart, listed, at, there, named, claims) = none (has_record s rs f slot is listed at)

  pub no_palette_record : (rs : List Record) (space : Space) → Has s rs → (Contains (slots_of rs) slot → ⊥) → IsNone told given s slot 0x04 space
  no_palette_record rs space is none a bus claims = no_own_palette rs space is none a bus (own_claim told given s bus space a slot 0x04 (omega arith) claims)

  module _ (rs : List Record) (r : Record) (out : List Range) (is : Has s rs) (rise : RiseBySlot rs) (has : Contains rs r) (at_slot : r.slot ≡ slot) (palette : IsPaletteOf given r out) where
    -- what the palette part at the slot claims
    own_covers_palette : (a bus : ℕ) → untold.ClaimsOnBus given s bus (address_in Io a) (named_region slot 0x04) → Covers out a
    own_covers_palette a bus (f, OwnPart part, listed, at, there, named, claims) = absurd (not_palette f part named)
    own_covers_palette a bus (f, LegacyPart, listed, at, there, named, claims) = absurd (let no : ⊥ = omega (arith, named) in no)
    own_covers_palette a bus (f, PalettePart, listed, at, there, named, claims) =
        (palette.exact a).1 (sym (palette_same given Io a r f (stands_for s rs r f is rise has listed (at_slot ∙ sym at))) ∙ claims.claims)

    palette_covers : (a bus : ℕ) → ClaimsOnBus told given s bus (address_in Io a) (named_region slot 0x04) → Covers out a
    palette_covers a bus claims = own_covers_palette a bus (own_claim told given s bus Io a slot 0x04 (omega arith) claims)

    pub none_of_palette : out ≡ [] → IsNone told given s slot 0x04 Io
    none_of_palette none a bus claims = none_covered a (subst (λ xs. Covers xs a) none (palette_covers a bus claims))

    palette_exact : (f : Function) → record_value r ≡ record_of f → (a : ℕ) → Covers out a ↔ PaletteClaims given f Io a
    palette_exact f e a = (
      λ (h : Covers out a). (let claims = palette_same given Io a r f e ∙ (palette.exact a).0 h in record { address = palette_address given f a claims; claims = claims }),
      λ (h : PaletteClaims given f Io a). (palette.exact a).1 (sym (palette_same given Io a r f e) ∙ h.claims),
    )

    pub palette_is_named : (narrow : Bool) → narrow ≡ is_narrow_among given.palette slot → (a : ℕ) → Covers out a → IsNamedIn told given s (named_region slot 0x04) Io (shown.Palette slot narrow) out
    palette_is_named narrow is_narrow_is a covered =
        let own = function_for s rs r is has in
        let f = own.0 in
        let at : f.slot ≡ slot = sym (same_slot_of r f own.2) ∙ at_slot in
        record {
          region = Palette f;
          is = (own.1, a, (palette_exact f own.2 a).0 covered);
          named = (at, refl, refl);
          prefetchable = refl;
          line = λ word. ap (λ n. palette_line word slot n) is_narrow_is ∙ ap (λ (x : Slot). palette_line word x (is_narrow_among given.palette x)) (sym at);
          exact = palette_exact f own.2;
          all = palette_covers;
        }

-- ---- a BAR, a ROM or a window

none_claims : (given : Given) (s : System) (slot : Slot) (reg : ℕ) (space : Space) → (reg ≡ 0x3e → ⊥) → (reg ≡ 0x04 → ⊥) → found.NoneClaims s slot reg space → (a bus : ℕ) → untold.ClaimsOnBus given s bus (address_in space a) (named_region slot reg)
    → ⊥
none_claims given s slot reg space no_control no_command none a bus (f, OwnPart part, listed, at, there, named, own) = none f part a listed at named own.claims
none_claims given s slot reg space no_control no_command none a bus (f, LegacyPart, listed, at, there, named, claims) = no_control (sym named)
none_claims given s slot reg space no_control no_command none a bus (f, PalettePart, listed, at, there, named, claims) = no_command (sym named)

pub none_of_own : (told : Told) (given : Given) (s : System) (slot : Slot) (reg : ℕ) (space : Space) → reg < 256 → (reg ≡ 0x3e → ⊥) → (reg ≡ 0x04 → ⊥) → found.NoneClaims s slot reg space → IsNone told given s slot reg space
none_of_own told given s slot reg space low no_control no_command none a bus claims =
    none_claims given s slot reg space no_control no_command none a bus (own_claim told given s bus space a slot reg low claims)

module _ (told : Told) (given : Given) (s : System) (slot : Slot) (reg : ℕ) (space : Space) (q : Region) (out : List Range) (low : reg < 256) (is : IsFoundIn s slot reg space q)
    (sound : IsSystem s) (own : AreAddressesOf given space q out) where
  own_covers : (a bus : ℕ) → ClaimsOnBus told given s bus (address_in space a) (named_region slot reg) → Covers out a
  own_covers a bus told_so =
      let claims = own_claim told given s bus space a slot reg low told_so in
      let on : IsRegionOn s bus space q = record {
        f = is.f;
        part = is.part;
        listed = is.listed;
        on_bus = ap (λ (x : Slot). x.bus) (sym is.is.slot ∙ is.slot_is) ∙ claims.4;
        is = is.is;
      } in
      (own.exact a).1 (claimed_is given s sound bus space q on a
      (subst (λ (x : Slot). untold.ClaimsOnBus given s bus (address_in space a) (named_region x q.reg)) (sym is.slot_is) (subst (λ n. untold.ClaimsOnBus given s bus (address_in space a) (named_region slot n)) (sym is.register) claims))).0

  pub own_is_named : IsNamedIn told given s (named_region slot reg) space (shown.Own q) out
  own_is_named = record {
    region = Own (region_of_found q is.part space);
    is = region_in s is.f is.part space q is.listed is.is;
    named = (is.slot_is, is.register, refl);
    prefetchable = refl;
    line = λ word. given_line_same given word is.f is.part space q is.is;
    exact = λ a. (
      λ h. (let both = (own.exact a).0 h in (both.0, sym (cut_of_part given space is.f is.part q is.is a) ∙ both.1)),
      λ h. (own.exact a).1 (h.0, cut_of_part given space is.f is.part q is.is a ∙ h.1),
    );
    all = own_covers;
  }

-- ---- what a text tells

-- a byte of a name is one of ASCII
pub name_low : (name : List ℕ) (k d : ℕ) → All (λ c. IsTrue (is_name_byte c)) name → k < length name → get_or name k d < 128
name_low name k d are within =
    let both = and_parts (nat_le 0x21 (get_or name k d)) (nat_le (get_or name k d) 0x7e) (are k d within) in
    let high = leb-true (get_or name k d) 0x7e both.1 in
    omega (arith, high)

pub told_lawful : (told : Told) (region : RegionName) (r : ToldRange) → IsTold told.ranges → IsRangeAt told region r → IsToldRange r
told_lawful told region r is_told named =
    subst IsToldRange (get_or_from_slice_get told.ranges named.index r r named.at) (is_told.each named.index r (slice_get_within told.ranges named.index r named.at))

-- ---- a told range

pub none_of_told : (told : Told) (given : Given) (s : System) (slot : Slot) (register : ℕ) (space : Space) → 256 ≤ register → ((r : ToldRange) → IsRangeAt told (named_region slot register) r → r.space ≡ space → ⊥)
    → IsNone told given s slot register space
none_of_told told given s slot register space high none a bus claims =
    let range = told_claim told given s bus space a slot register high claims in
    none range.r range.named range.claims.holds.0

module _ (told : Told) (given : Given) (s : System) (slot : Slot) (register : ℕ) (space : Space) (r : ToldRange) (one : Shown) (out : List Range) (high : 256 ≤ register)
    (named : IsRangeAt told (named_region slot register) r) (of_space : r.space ≡ space) (covers : (a : ℕ) → Covers out a ↔ ((r.first ≤ a) × (a ≤ r.last))) where
  told_covers : (a bus : ℕ) → ClaimsOnBus told given s bus (address_in space a) (named_region slot register) → Covers out a
  told_covers a bus claims =
      let range = told_claim told given s bus space a slot register high claims in
      let holds = range.claims.holds in
      subst (λ (x : ToldRange). (x.first ≤ a) × (a ≤ x.last) → Covers out a) (one_range told (named_region slot register) r range.r named range.named) (covers a).1 (holds.1, holds.2)

  pub told_is_named : (a bus : ℕ) → ClaimsOnBus told given s bus (address_in space a) (named_region slot register) → ((word : List ℕ) → shown_line given word space one ≡ inner_line (word ∷ told_words (record { register = register; told = r })))
      → is_shown_prefetchable one ≡ r.prefetchable → IsNamedIn told given s (named_region slot register) space one out
  told_is_named a bus claims line prefetchable =
      let range = told_claim told given s bus space a slot register high claims in
      let x : ToldRegion = record { register = register; told = r } in
      let holds = (covers a).0 (told_covers a bus claims) in
      record {
        region = OfLine x;
        is = record {
          named = record { index = named.index; at = named.at; slot = refl; register = named.register };
          on = subst (λ (y : ToldRange). IsTrue (is_range_on told s y)) (one_range told (named_region slot register) range.r r range.named named) range.claims.on;
          some = (let low = holds.0 in let top = holds.1 in omega (arith, low, top));
        };
        named = (named.slot, refl, of_space);
        prefetchable = sym prefetchable;
        line = line;
        exact = covers;
        all = told_covers;
      }
