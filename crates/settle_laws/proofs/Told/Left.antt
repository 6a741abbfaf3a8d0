-- What is left of a system that is sound as told is so, too, where the bridges above what is left pass what they passed.
use Rattle.std.proofs.Common.{◌≡◌, ℕ, inl, inr, Bool, true, false, map, sym, ◌∙◌, ap, subst}
use Rattle.std.specs.List.{Contains, list_all}
use Rattle.pci_spec.specs.Number.{IsImage}
use Rattle.pci_spec.specs.Slot.{Slot}
use Rattle.pci_spec.specs.Decoded.{InRange}
use Rattle.pci_spec.specs.Header.{layout}
use Rattle.pci_spec.specs.System.{System, Function, IsSystem, Space, IsPassedTo, passes, is_space_on}
use Rattle.pci_spec.specs.System as plain
use Rattle.pci_spec.specs.Bus.{IsNested}
use Rattle.pci_spec.specs.Fault.{RegionName, Address, address_in}
use Rattle.pci_spec.proofs.BusRanges.{behind_of_within}
use Rattle.pci_spec.proofs.Members.{in_map_to, in_map_from, IsMade}
use Rattle.pci_spec.proofs.Ways.{behind_each}
use Rattle.plan_spec.specs.Plan.{IsMoved, bridges_above}
use Rattle.plan_spec.proofs.Planning.AboveBuses.{above_from}
use Rattle.plan_spec.proofs.Planning.Kept.{images_of}
use Rattle.plan_spec.proofs.Planning.Moved.{layout_same}
use Rattle.judge_spec.specs.Given.{nothing_given, starts}
use Rattle.judge_spec.specs.Claims as untold
use Rattle.judge_spec.specs.Told.{ToldRange}
use Rattle.judge_spec.specs.ToldClaims.{is_range_on, ClaimsOnBus}
use Rattle.judge_spec.specs.ToldFault.{HasToBeReached}
use Rattle.judge_spec.specs.ToldRegion.{ToldRegion, told_regions}
use Rattle.judge_spec.specs.ToldSound.{IsSingle}
use Rattle.judge_spec.proofs.Nothing.{same_claims, same_gets, same_passed_to, no_legacy_claims, no_palette_claims}
use Rattle.settle_spec.specs.Lines.{line_bus, line_range, is_held_line}
use Rattle.settle_spec.specs.Lists.{Request}
use Rattle.settle_laws.specs.ToldSoundLaws.{IsToldOf}
use Rattle.settle_laws.proofs.Left.{IsLeft, register_by, on_way, way_before, way_after, all_over, got}
use Rattle.settle_laws.proofs.Told.Lines.{IsAtSlot, line_at, named_line, at_slot}
use Rattle.settle_laws.proofs.Told.On.{range_on_more}

-- At most one region claims an access, and each told range is home: of what soundness as told says, what isn't said without.
pub record IsToldSafe (q : Request) (t : System) : Type 0 where
  pub single : IsSingle q.told nothing_given q.roots t
  pub ranges : (region : RegionName) (at : Address) (r : ToldRange) → HasToBeReached q.told t region at r → untold.IsPassedTo nothing_given q.roots t at r.prefetchable region.slot.bus

-- Told ranges in what is left, `h`, and in the whole, `w`.
pub record IsToldLeft (q : Request) (s : System) (h w : Function → Function) : Type 0 where
  -- a function enables what it does in the whole
  pub on : (f : Function) (space : Space) → Contains s f → is_space_on (h f) space ≡ true → is_space_on (w f) space ≡ true
  -- a bridge above a told range that is on passes it where it does in the whole
  pub passed : (x : ToldRegion) (b : Function) (a : ℕ) → Contains (told_regions q.told) x → is_held_line x ≡ false → is_range_on q.told (map h s) x.told ≡ true → IsAtSlot s x.told.slot
      → Contains (bridges_above s (line_bus x)) b → InRange (line_range x) a
      → passes x.told.space x.told.prefetchable a (w b) ≡ true → passes x.told.space x.told.prefetchable a (h b) ≡ true

module _ (q : Request) (s : System) (system : IsSystem s) (nested : IsNested q.roots s) (told : IsToldOf q s) (h w : Function → Function)
    (moved_h : (f : Function) → Contains s f → IsMoved f (h f)) (moved_w : (f : Function) → Contains s f → IsMoved f (w f)) (left : IsLeft s h w) (ranges : IsToldLeft q s h w) where
  images : (f : Function) → Contains s f → IsImage f.image
  images = images_of s system

  kind : (f : Function) → Contains s f → layout (h f).image ≡ layout (w f).image
  kind f listed = layout_same f (h f) (moved_h f listed) (images f listed) ∙ sym (layout_same f (w f) (moved_w f listed) (images f listed))

  on_more : (r : ToldRange) → is_range_on q.told (map h s) r ≡ true → is_range_on q.told (map w s) r ≡ true
  on_more r is = range_on_more s h w moved_h moved_w ranges.on q.told r is

  -- what a region claims it claims in the whole
  claims_more : (space : Space) (a bus : ℕ) (region : RegionName) → ClaimsOnBus q.told nothing_given (map h s) bus (address_in space a) region → ClaimsOnBus q.told nothing_given (map w s) bus (address_in space a) region
  claims_more space a bus region (inl (g, untold.Own p, listed, slot, on, register, claims)) =
      let made : IsMade h s g = in_map_to h s g listed in
      let f = made.from in
      let slots : (w f).slot ≡ g.slot = (moved_w f made.has).slot ∙ sym (moved_h f made.has).slot ∙ ap (λ (x : Function). x.slot) made.is in
      inl (
        w f,
        untold.Own p,
        in_map_from w s f made.has,
        slots ∙ slot,
        on,
        sym (register_by (h f) (w f) (kind f made.has) p) ∙ ap (λ x. plain.register_of x p) made.is ∙ register,
        (same_claims (w f) p space a).1 (left.claimed f p space a made.has (subst (λ x. plain.Claims x p space a) (sym made.is) claims.claims)),
      )
  claims_more space a bus region (inl (g, untold.Legacy, listed, slot, on, register, claims)) = absurd (no_legacy_claims g space a claims)
  claims_more space a bus region (inl (g, untold.Palette, listed, slot, on, register, claims)) = absurd (no_palette_claims g space a claims)
  claims_more space a bus region (inr c) = inr record { r = c.r; named = c.named; on_the_bus = c.on_the_bus; claims = record { on = on_more c.r c.claims.on; holds = c.claims.holds } }

  told_left_single : IsSingle q.told nothing_given q.roots (map w s) → IsSingle q.told nothing_given q.roots (map h s)
  told_left_single single = record {
    on_a_bus = λ space a bus gets first second one other.
        single.on_a_bus space a bus
        ((same_gets q.roots (map w s) space a bus).1 (got q.roots s system nested h w moved_h moved_w left space a bus ((same_gets q.roots (map h s) space a bus).0 gets)))
        first second (claims_more space a bus first one) (claims_more space a bus second other);
    over_roots = λ space a first second root_first root_second starts_first starts_second one other.
        single.over_roots space a first second root_first root_second starts_first starts_second (claims_more space a first.slot.bus first one) (claims_more space a second.slot.bus second other);
  }

  -- ---- home

  module _ (x : ToldRegion) (is_told : Contains (told_regions q.told) x) (not_held : is_held_line x ≡ false) (on : is_range_on q.told (map h s) x.told ≡ true) (there : IsAtSlot s x.told.slot) (a : ℕ) (in_range : InRange (line_range x) a) where
    abbrev test : Function → Bool
    test = passes x.told.space x.told.prefetchable a

    still_passed : IsPassedTo q.roots (map w s) x.told.space x.told.prefetchable a (line_bus x) → IsPassedTo q.roots (map h s) x.told.space x.told.prefetchable a (line_bus x)
    still_passed (root, starts, bridges, leads, all) =
        let way = way_before s images w moved_w root bridges (line_bus x) leads in
        let through : (b : Function) → Contains way.of b → test (w b) ≡ true → test (h b) ≡ true = λ b has e.
        let at = on_way s root way.of (line_bus x) way.leads b has in
        ranges.passed x b a is_told not_held on there
        (above_from s (line_bus x) b record { listed = at.listed; bridge = at.bridge; behind = behind_of_within b (line_bus x) (behind_each q.roots s nested root way.of (line_bus x) way.leads b has) }) in_range e in (
          root,
          starts,
          map h way.of,
          way_after s images h moved_h root way.of (line_bus x) way.leads,
          all_over test test w h way.of through (subst (λ bs. list_all test bs ≡ true) (sym way.is) all),
        )

  pub told_left : IsToldSafe q (map w s) → IsToldSafe q (map h s)
  told_left safe = record {
    single = told_left_single safe.single;
    ranges = λ region at r needs.
        let x = line_at region r in
        let claims = needs.claims in
        let same : r.slot.bus ≡ region.slot.bus = ap (λ (v : Slot). v.bus) needs.named.slot in
        let whole = safe.ranges region at r record { named = needs.named; not_held = needs.not_held; claims = record { on = on_more r claims.on; holds = claims.holds } } in
        let passed : IsPassedTo q.roots (map w s) r.space r.prefetchable at.address r.slot.bus =
        subst (λ n. IsPassedTo q.roots (map w s) r.space r.prefetchable at.address n) (sym same)
        (subst (λ sp. IsPassedTo q.roots (map w s) sp r.prefetchable at.address region.slot.bus) (sym claims.holds.0) ((same_passed_to q.roots (map w s) at.space r.prefetchable at.address region.slot.bus).0 whole)) in
        let home = still_passed x (named_line q.told region r needs.named) needs.not_held claims.on (at_slot q s told region r needs.named needs.not_held) at.address (claims.holds.1, claims.holds.2) passed in
        (same_passed_to q.roots (map h s) at.space r.prefetchable at.address region.slot.bus).1
        (subst (λ n. IsPassedTo q.roots (map h s) at.space r.prefetchable at.address n) same
        (subst (λ sp. IsPassedTo q.roots (map h s) sp r.prefetchable at.address r.slot.bus) claims.holds.0 home));
  }
