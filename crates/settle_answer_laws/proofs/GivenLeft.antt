-- What is left of a system that is sound with what is given and told is so, too, where each bridge above what is left passes it by
-- a window, or is the same.
use Rattle.std.proofs.Common.{◌≡◌, ◌⊎◌, ℕ, inl, inr, List, Bool, true, false, map, refl, sym, ◌∙◌, ap, subst}
use Rattle.std.specs.List.{Contains, list_all}
use Rattle.pci_spec.specs.Number.{IsImage}
use Rattle.pci_spec.specs.Slot.{Slot}
use Rattle.pci_spec.specs.Header.{layout}
use Rattle.pci_spec.specs.System.{System, Function, IsSystem, Space, Part, Bar, Rom, Window, is_bridge, is_prefetchable_part, is_space_on, is_window}
use Rattle.pci_spec.specs.System as system
use Rattle.pci_spec.specs.Bus.{IsNested}
use Rattle.pci_spec.specs.Fault.{Address, RegionName, address_in}
use Rattle.pci_spec.proofs.BusRanges.{behind_of_within}
use Rattle.pci_spec.proofs.Members.{in_map_to, in_map_from, IsMade}
use Rattle.pci_spec.proofs.Ways.{behind_each}
use Rattle.plan_spec.specs.Plan.{IsMoved, bridges_above}
use Rattle.plan_spec.proofs.Planning.AboveBuses.{above_from}
use Rattle.plan_spec.proofs.Planning.Kept.{images_of}
use Rattle.plan_spec.proofs.Planning.Moved.{bridge_same, layout_same}
use Rattle.judge_spec.specs.Given.{Given, legacy_claims, palette_claims}
use Rattle.judge_spec.specs.Claims.{Own, Legacy, Palette, forwards, passes, Gets, IsPassedTo, is_cut_of}
use Rattle.judge_spec.specs.Sound as untold
use Rattle.judge_spec.specs.Told.{ToldRange}
use Rattle.judge_spec.specs.ToldClaims.{Told, ClaimsOnBus, is_range_on}
use Rattle.judge_spec.specs.ToldFault.{HasToBeReached}
use Rattle.judge_spec.specs.ToldSound.{IsSingle, IsHome}
use Rattle.settle_laws.proofs.Images.{function_at}
use Rattle.settle_laws.proofs.Left.{IsLeft, register_by, on_way, way_before, way_after, all_over}
use Rattle.settle_laws.proofs.Told.On.{range_on_more}
use Rattle.settle_answer_laws.proofs.GivenMore.{forwards_more, legacy_more, palette_more, passes_by_window}

-- At most one region claims an access, and each is home: what soundness says that moved functions can break.
pub record IsSafeWith (told : Told) (given : Given) (roots : List ℕ) (t : System) : Type 0 where
  pub single : IsSingle told given roots t
  pub home : IsHome told given roots t

-- a bridge in what is left is that in the whole, or passes an address by a window
abbrev pub StillPasses : (Function → Function) → (Function → Function) → Space → Bool → ℕ → Function → Type 0
StillPasses h w space prefetchable a b = (h b ≡ w b) ⊎ (system.passes space prefetchable a (h b) ≡ true)

-- Each function of a system as it is in what is left, `h`, and in the whole, `w`.
pub record IsLeftWith (told : Told) (s : System) (h w : Function → Function) : Type 0 where
  -- a function enables what it does in the whole
  pub on : (f : Function) (space : Space) → Contains s f → is_space_on (h f) space ≡ true → is_space_on (w f) space ≡ true
  -- bridges above what claims an address still pass it
  pub passed : (f b : Function) (p : Part) (space : Space) (a : ℕ) → Contains s f → is_window p ≡ false → system.Claims (h f) p space a
      → Contains (bridges_above s f.slot.bus) b → StillPasses h w space (is_prefetchable_part f p) a b
  -- and so do those above a told range
  pub ranges : (region : RegionName) (at : Address) (r : ToldRange) (b : Function) → HasToBeReached told (map h s) region at r
      → Contains (bridges_above s region.slot.bus) b → StillPasses h w at.space r.prefetchable at.address b

pub prefetchable_by : (f g : Function) → f.probe ≡ g.probe → (p : Part) → is_prefetchable_part f p ≡ is_prefetchable_part g p
prefetchable_by f g probe (Bar n) = ap (λ b. is_prefetchable_part (function_at f.slot f.image b) (Bar n)) probe
prefetchable_by f g probe Rom = refl
prefetchable_by f g probe (Window c) = refl

module _ (told : Told) (given : Given) (roots : List ℕ) (s : System) (is_system : IsSystem s) (nested : IsNested roots s) (h w : Function → Function)
    (moved_h : (f : Function) → Contains s f → IsMoved f (h f)) (moved_w : (f : Function) → Contains s f → IsMoved f (w f)) (left : IsLeft s h w) (more : IsLeftWith told s h w) where
  images : (f : Function) → Contains s f → IsImage f.image
  images = images_of s is_system

  same_slots : (f : Function) → Contains s f → (w f).slot ≡ (h f).slot
  same_slots f listed = (moved_w f listed).slot ∙ sym (moved_h f listed).slot

  same_bridge : (f : Function) → Contains s f → is_bridge (w f) ≡ is_bridge (h f)
  same_bridge f listed = bridge_same f (w f) (moved_w f listed) (images f listed) ∙ sym (bridge_same f (h f) (moved_h f listed) (images f listed))

  kind : (f : Function) → Contains s f → layout (h f).image ≡ layout (w f).image
  kind f listed = layout_same f (h f) (moved_h f listed) (images f listed) ∙ sym (layout_same f (w f) (moved_w f listed) (images f listed))

  bridge_more : (f : Function) → Contains s f → is_bridge (h f) ≡ true → is_bridge (w f) ≡ true
  bridge_more f listed e = same_bridge f listed ∙ e

  -- ---- what is forwarded and claimed

  forwarded : (space : Space) (a : ℕ) (b : Function) → Contains s b → is_bridge b ≡ true → forwards given space a (h b) ≡ true → forwards given space a (w b) ≡ true
  forwarded space a b listed bridge =
      forwards_more given space a (h b) (w b) (same_slots b listed) (bridge_more b listed) (more.on b space listed) (left.forwarded space a b listed bridge)

  got : (space : Space) (a bus : ℕ) → Gets given roots (map h s) space a bus → Gets given roots (map w s) space a bus
  got space a bus (root, starts, sent, bridges, leads, all) =
      let way = way_before s images h moved_h root bridges bus leads in (
        root,
        starts,
        sent,
        map w way.of,
        way_after s images w moved_w root way.of bus way.leads,
        all_over (forwards given space a) (forwards given space a) h w way.of (λ b has e.
            let at = on_way s root way.of bus way.leads b has in
            forwarded space a b at.listed at.bridge e)
            (subst (λ bs. list_all (forwards given space a) bs ≡ true) (sym way.is) all),
      )

  on_more : (r : ToldRange) → is_range_on told (map h s) r ≡ true → is_range_on told (map w s) r ≡ true
  on_more r is = range_on_more s h w moved_h moved_w more.on told r is

  claims_more : (space : Space) (a bus : ℕ) (region : RegionName) → ClaimsOnBus told given (map h s) bus (address_in space a) region → ClaimsOnBus told given (map w s) bus (address_in space a) region
  claims_more space a bus region (inl (g, Own p, listed, slot, on, register, claims)) =
      let made : IsMade h s g = in_map_to h s g listed in
      let f = made.from in
      let slots : (w f).slot ≡ g.slot = same_slots f made.has ∙ ap (λ (x : Function). x.slot) made.is in
      inl (
        w f,
        Own p,
        in_map_from w s f made.has,
        slots ∙ slot,
        on,
        sym (register_by (h f) (w f) (kind f made.has) p) ∙ ap (λ x. system.register_of x p) made.is ∙ register,
        record {
          claims = left.claimed f p space a made.has (subst (λ x. system.Claims x p space a) (sym made.is) claims.claims);
          kept = ap (is_cut_of given p space a) slots ∙ claims.kept;
        },
      )
  claims_more space a bus region (inl (g, Legacy, listed, slot, on, register, claims)) =
      let made : IsMade h s g = in_map_to h s g listed in
      let f = made.from in
      let has = made.has in
      inl (
        w f,
        Legacy,
        in_map_from w s f has,
        same_slots f has ∙ ap (λ (x : Function). x.slot) made.is ∙ slot,
        on,
        register,
        record {
          address = claims.address;
          claims = legacy_more given space a (h f) (w f) (same_slots f has) (bridge_more f has) (more.on f space has) (ap (legacy_claims given space a) made.is ∙ claims.claims);
        },
      )
  claims_more space a bus region (inl (g, Palette, listed, slot, on, register, claims)) =
      let made : IsMade h s g = in_map_to h s g listed in
      let f = made.from in
      let has = made.has in
      inl (
        w f,
        Palette,
        in_map_from w s f has,
        same_slots f has ∙ ap (λ (x : Function). x.slot) made.is ∙ slot,
        on,
        register,
        record {
          address = claims.address;
          claims = palette_more given space a (h f) (w f) (same_slots f has) (bridge_more f has) (more.on f space has) (ap (palette_claims given space a) made.is ∙ claims.claims);
        },
      )
  claims_more space a bus region (inr c) = inr record { r = c.r; named = c.named; on_the_bus = c.on_the_bus; claims = record { on = on_more c.r c.claims.on; holds = c.claims.holds } }

  left_single : IsSingle told given roots (map w s) → IsSingle told given roots (map h s)
  left_single single = record {
    on_a_bus = λ space a bus gets first second one other. single.on_a_bus space a bus (got space a bus gets) first second (claims_more space a bus first one) (claims_more space a bus second other);
    over_roots = λ space a first second root_first root_second sent_first sent_second one other.
        single.over_roots space a first second root_first root_second sent_first sent_second (claims_more space a first.slot.bus first one) (claims_more space a second.slot.bus second other);
  }

  -- ---- home

  module _ (at : Address) (prefetchable : Bool) (bus : ℕ) (each : (b : Function) → Contains (bridges_above s bus) b → StillPasses h w at.space prefetchable at.address b) where
    abbrev test : Function → Bool
    test = passes given at.space prefetchable at.address

    through : (b : Function) → Contains s b → Contains (bridges_above s bus) b → test (w b) ≡ true → test (h b) ≡ true
    through b listed above e = elim (each b above) [
      | inl same ↦ ap test same ∙ e
      | inr by ↦ passes_by_window given at.space prefetchable at.address (w b) (h b) (sym (same_slots b listed)) (λ bridge. sym (same_bridge b listed) ∙ bridge) by e
    ]

    still_passed : IsPassedTo given roots (map w s) at prefetchable bus → IsPassedTo given roots (map h s) at prefetchable bus
    still_passed (root, starts, sent, bridges, leads, all) =
        let way = way_before s images w moved_w root bridges bus leads in (
          root,
          starts,
          sent,
          map h way.of,
          way_after s images h moved_h root way.of bus way.leads,
          all_over test test w h way.of (λ b has e.
              let here = on_way s root way.of bus way.leads b has in
              through b here.listed
              (above_from s bus b record { listed = here.listed; bridge = here.bridge; behind = behind_of_within b bus (behind_each roots s nested root way.of bus way.leads b has) }) e)
              (subst (λ bs. list_all test bs ≡ true) (sym way.is) all),
        )

  reached : untold.IsHome given roots (map w s) → (f : Function) (p : Part) (space : Space) (a : ℕ) → Contains s f → is_window p ≡ false → system.Claims (h f) p space a
      → IsPassedTo given roots (map h s) (address_in space a) (is_prefetchable_part (h f) p) (h f).slot.bus
  reached home f p space a listed plain claim =
      let at = address_in space a in
      let whole = home (w f) p space a (in_map_from w s f listed) plain (left.claimed f p space a listed claim) in
      let here : IsPassedTo given roots (map w s) at (is_prefetchable_part f p) f.slot.bus =
      subst (λ t. IsPassedTo given roots (map w s) at t f.slot.bus) (prefetchable_by (w f) f (moved_w f listed).probe p)
      (subst (λ (v : Slot). IsPassedTo given roots (map w s) at (is_prefetchable_part (w f) p) v.bus) (moved_w f listed).slot whole) in
      subst (λ t. IsPassedTo given roots (map h s) at t (h f).slot.bus) (sym (prefetchable_by (h f) f (moved_h f listed).probe p))
      (subst (λ (v : Slot). IsPassedTo given roots (map h s) at (is_prefetchable_part f p) v.bus) (sym (moved_h f listed).slot)
      (still_passed at (is_prefetchable_part f p) f.slot.bus (λ b above. more.passed f b p space a listed plain claim above) here))

  left_regions : untold.IsHome given roots (map w s) → untold.IsHome given roots (map h s)
  left_regions home g p space a in_g plain claim =
      let made : IsMade h s g = in_map_to h s g in_g in
      subst (λ x. IsPassedTo given roots (map h s) (address_in space a) (is_prefetchable_part x p) x.slot.bus) made.is
      (reached home made.from p space a made.has plain (subst (λ x. system.Claims x p space a) (sym made.is) claim))

  pub left_safe : IsSafeWith told given roots (map w s) → IsSafeWith told given roots (map h s)
  left_safe safe = record {
    single = left_single safe.single;
    home = record {
      regions = left_regions safe.home.regions;
      ranges = λ region at r needs.
          let claims = needs.claims in
          still_passed at r.prefetchable region.slot.bus (λ b above. more.ranges region at r b needs above)
          (safe.home.ranges region at r record { named = needs.named; not_held = needs.not_held; claims = record { on = on_more r claims.on; holds = claims.holds } });
    };
  }
