-- The claims of legacy parts and palette parts of a bus in a system.
use Rattle.std.proofs.Common.{◌≡◌, ℕ, inl, inr, List, [], ◌∷◌, ◌++◌, Bool, true, false, ◌&&◌, ◌||◌, sym, ◌∙◌, ap, subst, refl}
use Rattle.std.specs.Prelude.{◌==◌, IsTrue}
use Rattle.std.proofs.Math.Bool.{or-true}
use Rattle.std.specs.Option.{is_some}
use Rattle.std.specs.List.{Contains, filter, list_any}
use Rattle.std.proofs.lemmas.Bool.{eqb-true, eq-eqb, and_parts, or_cases}
use Rattle.std.proofs.lemmas.List.Elements.{Contains-append_left, Contains-append_right, Contains-append_cases}
use Rattle.pci_spec.specs.Slot.{Slot, same_slot}
use Rattle.pci_spec.specs.System.{System, Function, Space, IsAddress, is_bridge, is_space_on}
use Rattle.pci_spec.specs.Fault.{address_in, named_region}
use Rattle.pci_spec.proofs.Members.{in_nil, in_filter_to, in_filter_from, in_map_to, in_map_from}
use Rattle.pci_base.specs.declared.range.Range.{Range}
use Rattle.pci_base.specs.Space.{is_on}
use Rattle.pci_function.specs.declared.record.Record.{Record}
use Rattle.pci_tree.specs.Ranges.{Covers}
use Rattle.pci_tree.specs.Outline.{Tree}
use Rattle.pci_tree.proofs.Lifting.{Has, record_for, function_for, same_slot_of}
use Rattle.pci_tree.specs.Trees.{HasTree}
use Rattle.judge_spec.specs.Given.{Given, LegacyBridge}
use Rattle.judge_spec.specs.Claims.{Claims, ClaimsOnBus}
use Rattle.judge_spec.specs.Claims as spec
use Rattle.pci_claims.specs.declared.legacy.FixedPart.{FixedPart}
use Rattle.pci_claims.specs.declared.legacy.FixedPart.TheVariants.{Legacy, Palette}
use Rattle.pci_claims.specs.Legacy.{part_holds, fixed_part_of, bridges_with, register_of_part}
use Rattle.pci_claims.specs.Passed.{is_part_at, is_piece_at}
use Rattle.pci_claims.specs.Claim.{Claimed, IsClaimAmong}
use Rattle.pci_claims.specs.BusClaims.{HasFixedPart, ArePartClaims, AreBridgesOf, AreClaimsOfParts}
use Rattle.pci_claims.proofs.Linking.{claims_by, part_same}

-- a bridge that claims an address by a part has it
has_it : (test : LegacyBridge → Bool) (slot : Slot) (entries : List LegacyBridge) → IsTrue (list_any (λ entry. same_slot entry.slot slot && test entry) entries)
    → IsTrue (list_any (λ entry. same_slot entry.slot slot) entries)
has_it test slot [] h = h
has_it test slot (e ∷ entries) h = elim (or_cases (same_slot e.slot slot && test e) (list_any (λ entry. same_slot entry.slot slot && test entry) entries) h) [
  | inl here ↦ ap (λ b. b || list_any (λ (entry : LegacyBridge). same_slot entry.slot slot) entries) (and_parts (same_slot e.slot slot) (test e) here).0
  | inr later ↦ ap (λ b. same_slot e.slot slot || b) (has_it test slot entries later) ∙ or-true _
]

-- the function at a slot of the bus
pub record IsListedAt (s : System) (bus : ℕ) (slot : Slot) : Type 0 where
  pub f : Function
  pub listed : Contains s f
  pub at : f.slot ≡ slot
  pub on_bus : slot.bus ≡ bus

-- a part of one of some bridges claims an address
pub record IsPartNamed (given : Given) (s : System) (space : Space) (here : List Slot) (part : FixedPart) (a : ℕ) (slot : Slot) (register : ℕ) : Type 0 where
  pub f : Function
  pub listed : Contains s f
  pub has : Contains here f.slot
  pub claims : claims_by given part space a f ≡ true
  pub slot_is : f.slot ≡ slot
  pub register_is : register ≡ register_of_part part

module _ (t : Tree) (s : System) (tree : HasTree t s) (bus : ℕ) (bridges here : List Slot) (all : AreBridgesOf t bridges) (on : here ≡ filter (λ slot. slot.bus == bus) bridges) where
  pub bridge_at : (slot : Slot) → Contains here slot → IsListedAt s bus slot
  bridge_at slot has =
      let of_bus = in_filter_to (λ (x : Slot). x.bus == bus) bridges slot (subst (λ l. Contains l slot) on has) in
      let made = in_map_to (λ (f : Function). f.slot) (filter is_bridge s) slot (subst (λ l. Contains l slot) (all s tree.records) of_bus.0) in
      record { f = made.from; listed = (in_filter_to is_bridge s made.from made.has).0; at = made.is; on_bus = eqb-true slot.bus bus of_bus.1 }

  pub bridge_here : (f : Function) → Contains s f → is_bridge f ≡ true → f.slot.bus ≡ bus → Contains here f.slot
  bridge_here f listed bridge at = subst (λ l. Contains l f.slot) (sym on)
      (in_filter_from (λ (x : Slot). x.bus == bus) bridges f.slot
      (subst (λ l. Contains l f.slot) (sym (all s tree.records)) (in_map_from (λ (g : Function). g.slot) (filter is_bridge s) f (in_filter_from is_bridge s f listed bridge)))
      (eq-eqb f.slot.bus bus at))

module _ (given : Given) (t : Tree) (s : System) (tree : HasTree t s) (bus : ℕ) (space : Space) (bridges here : List Slot) (all : AreBridgesOf t bridges) (on : here ≡ filter (λ slot. slot.bus == bus) bridges)
    (records : List Record) (has : Has s records) (reach : List Range) (addresses : (a : ℕ) → Covers reach a → IsAddress space a) where
  module _ (part : FixedPart) (more : List Claimed) (parts : ArePartClaims given part space records reach here more) where
    pub part_claims_it : (c : Claimed) → Contains more c → IsClaimAmong given s bus space reach c
    part_claims_it c in_more =
        let (slot, there, (r, at, of)) = parts.each c in_more in
        let (f, listed, same) = function_for s records r has at.0.0 in
        let on_bus : f.slot.bus ≡ bus = ap (λ (x : Slot). x.bus) (sym (same_slot_of r f same) ∙ at.0.1) ∙ (bridge_at t s tree bus bridges here all on slot there).on_bus in
        subst (λ n. IsClaimAmong given s n space reach c) on_bus (of.exact s f tree.system listed same addresses)

    pub part_has : (slot : Slot) (register a : ℕ) → IsPartNamed given s space here part a slot register → (c : Claimed) × Contains more c × (c.slot ≡ slot) × (c.register ≡ register)
    part_has slot register a named =
        let (r, stands) = record_for s records named.f has named.listed in
        let passes = sym (part_same given part space a r named.f stands.same) ∙ named.claims in
        let both = and_parts (is_some r.bridge && is_on r.command space) (list_any (is_part_at part r.slot space a) (bridges_with given part)) passes in
        let its = same_slot_of r named.f stands.same in
        let (c, there, (q, at, of)) = parts.complete named.f.slot named.has
        (r, ((stands.has, its, both.0), subst (λ (x : Slot). HasFixedPart given part x) its (has_it (λ (entry : LegacyBridge). part_holds part entry.is_wide space a) r.slot (bridges_with given part) both.1))) in
        (c, there, of.slot ∙ at.0.1 ∙ named.slot_is, of.register ∙ sym named.register_is)

  -- ---- both parts

  bridge_of : (f : Function) (part : FixedPart) (a : ℕ) → claims_by given part space a f ≡ true → is_bridge f ≡ true
  bridge_of f Legacy a claims = (and_parts (is_bridge f) (is_space_on f space) (and_parts (is_bridge f && is_space_on f space) (list_any (is_piece_at f.slot space a) given.legacy) claims).0).0
  bridge_of f Palette a claims = (and_parts (is_bridge f) (is_space_on f space) (and_parts (is_bridge f && is_space_on f space) (list_any (is_part_at Palette f.slot space a) given.palette) claims).0).0

  named : (f : Function) (part : FixedPart) (a : ℕ) → Contains s f → f.slot.bus ≡ bus → claims_by given part space a f ≡ true → IsPartNamed given s space here part a f.slot (register_of_part part)
  named f part a listed at claims = record {
    f = f;
    listed = listed;
    has = bridge_here t s tree bus bridges here all on f listed (bridge_of f part a claims) at;
    claims = claims;
    slot_is = refl;
    register_is = refl;
  }

  module _ (legacies palettes : List Claimed) (legacy : ArePartClaims given Legacy space records reach here legacies) (palette : ArePartClaims given Palette space records reach here palettes) where
    each_is : (c : Claimed) → Contains (legacies ++ palettes) c → IsClaimAmong given s bus space reach c
    each_is c in_both = elim (Contains-append_cases legacies palettes c in_both) [
      | inl one ↦ part_claims_it Legacy legacies legacy c one
      | inr one ↦ part_claims_it Palette palettes palette c one
    ]

    one_of : (f : Function) (part : FixedPart) (a : ℕ) → Contains s f → f.slot.bus ≡ bus → Claims given f (fixed_part_of part) space a
        → (c : Claimed) × Contains (legacies ++ palettes) c × (c.slot ≡ f.slot) × (c.register ≡ register_of_part part)
    one_of f Legacy a listed at it =
        let (c, there, slot, register) = part_has Legacy legacies legacy f.slot (register_of_part Legacy) a (named f Legacy a listed at it.claims) in
        (c, Contains-append_left legacies palettes c there, slot, register)
    one_of f Palette a listed at it =
        let (c, there, slot, register) = part_has Palette palettes palette f.slot (register_of_part Palette) a (named f Palette a listed at it.claims) in
        (c, Contains-append_right legacies palettes c there, slot, register)

    pub parts_made : AreClaimsOfParts given s bus space reach (legacies ++ palettes)
    parts_made = record { each = each_is; complete = one_of }

-- what a part claims it claims by its name
pub part_named : (given : Given) (s : System) (bus : ℕ) (f : Function) (part : FixedPart) (space : Space) (a : ℕ) → Contains s f → f.slot.bus ≡ bus → Claims given f (fixed_part_of part) space a
    → ClaimsOnBus given s bus (address_in space a) (named_region f.slot (register_of_part part))
part_named given s bus f Legacy space a listed on_bus it = (f, spec.Legacy, listed, refl, on_bus, refl, it)
part_named given s bus f Palette space a listed on_bus it = (f, spec.Palette, listed, refl, on_bus, refl, it)

-- ---- where no bridge has a part

none_of : (given : Given) (f : Function) (part : FixedPart) (space : Space) (a : ℕ) → given.legacy ≡ [] → given.palette ≡ [] → Claims given f (fixed_part_of part) space a → ⊥
none_of given f Legacy space a no_legacy no_palette it =
    let some = (and_parts (is_bridge f && is_space_on f space) (list_any (is_piece_at f.slot space a) given.legacy) it.claims).1 in
    let no : false ≡ true = subst (λ (l : List LegacyBridge). list_any (is_piece_at f.slot space a) l ≡ true) no_legacy some in
    absurd cc
none_of given f Palette space a no_legacy no_palette it =
    let some = (and_parts (is_bridge f && is_space_on f space) (list_any (is_part_at Palette f.slot space a) given.palette) it.claims).1 in
    let no : false ≡ true = subst (λ (l : List LegacyBridge). list_any (is_part_at Palette f.slot space a) l ≡ true) no_palette some in
    absurd cc

pub no_parts : (given : Given) (s : System) (bus : ℕ) (space : Space) (reach : List Range) → given.legacy ≡ [] → given.palette ≡ [] → AreClaimsOfParts given s bus space reach []
no_parts given s bus space reach no_legacy no_palette = record {
  each = λ c has. absurd (in_nil c has);
  complete = λ f part a listed at it. absurd (none_of given f part space a no_legacy no_palette it);
}
