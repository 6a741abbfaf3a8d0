-- What settling comes to is sound: at most one region claims an address, and each is reached.
use Rattle.std.proofs.Common.{◌≡◌, ℕ, inl, inr, Bool, true, false, refl, sym, ◌∙◌, ap, subst}
use Rattle.std.specs.List.{Contains}
use Rattle.std.proofs.lemmas.Bool.{and_parts, both_ways}
use Rattle.pci_spec.specs.Header.{rom_register}
use Rattle.pci_spec.specs.Window.{MemoryWindow, PrefetchWindow, holds}
use Rattle.pci_spec.specs.Decoded.{InRange}
use Rattle.pci_spec.specs.System.{System, Function, Space, Part, Bar, Rom, Window, Claims, is_bridge, is_prefetchable_part, is_space_on, is_window, space_of, window_space, passes, register_of}
use Rattle.pci_spec.specs.Bus.{LeadsTo}
use Rattle.pci_spec.specs.Sound.{IsSingle, IsHome, IsSound}
use Rattle.pci_spec.proofs.Members.{in_map_to, IsMade}
use Rattle.pci_spec.proofs.WindowLaws.{held, window_holds_its_pages}
use Rattle.plan_spec.specs.Planning.Layout.{range_of, AreBeside, AreTwo, LieApart}
use Rattle.plan_spec.specs.Planning.Ranges.{Ranges}
use Rattle.plan_spec.proofs.Planning.Home.{home_by_known}
use Rattle.plan_spec.proofs.Planning.LaidOut.{place_of_claim}
use Rattle.plan_spec.proofs.Planning.Moved.{secondary_same}
use Rattle.plan_spec.proofs.Planning.Single.{single_by_ranges}
use Rattle.settle_spec.specs.Lists.{Request}
use Rattle.settle_spec.specs.Parts.{class_in}
use Rattle.settle_spec.specs.Keeping.Registers.{is_enabled_in, settled, settled_function}
use Rattle.settle_laws.specs.Keeping.PlacesLaws.{CanSettle}
use Rattle.settle_laws.proofs.Keeping.Claimed.{on_now, bridge_stays, new_decodable, window_end, claimed_part, claimed, passed_over}
use Rattle.settle_laws.proofs.Keeping.Fits.{was}
use Rattle.settle_laws.proofs.HeaderParts.{header_of}
use Rattle.settle_laws.proofs.Held.{claim_on}
use Rattle.settle_laws.proofs.Keeping.Ends.{are_apart}
use Rattle.settle_laws.proofs.Keeping.Lives.{IsServing, serves_own, serves_over, serves_enabled}
use Rattle.settle_laws.proofs.Keeping.Moves.{moves, new_nested, new_chains, new_profile}
use Rattle.settle_laws.proofs.PartClasses.{prefetch_of_class, space_of_class}
use Rattle.settle_laws.proofs.Keeping.SettledMoved.{kind_stays}
use Rattle.settle_spec.specs.Kept.{Kept}
use Rattle.settle_laws.proofs.SettledSound.{no_prefetch, passed_by}
use Rattle.settle_laws.proofs.SettledSound.{passes_by}

module _ (q : Request) (s : System) (k : Kept) (can : CanSettle q s k) where
  abbrev now : Function → Function
  now f = settled_function q s k f

  -- a bridge that leads to a bus did so before
  led_before : (b : Function) (bus : ℕ) → Contains s b → LeadsTo (settled q s k) (now b) bus → LeadsTo s b bus
  led_before b bus listed (in_t, bridge, to) =
      let was_bridge : is_bridge b ≡ true = sym (bridge_stays q s k can b listed) ∙ bridge in
      (listed, was_bridge, sym (secondary_same b (now b) (moves q s k can b listed) (was q s k can b listed).image was_bridge) ∙ to)

  -- parts keep their spaces and their registers
  same_space : (f : Function) (p : Part) → space_of f p ≡ space_of (now f) p
  same_space f (Bar n) = refl
  same_space f Rom = refl
  same_space f (Window kind) = refl

  same_register : (f : Function) (p : Part) → Contains s f → register_of (now f) p ≡ register_of f p
  same_register f (Bar n) listed = refl
  same_register f Rom listed = ap rom_register (kind_stays q s k can f listed)
  same_register f (Window kind) listed = refl

  -- ---- home

  part_prefetch : (f : Function) (p : Part) → is_window p ≡ false → class_in q s f p ≡ PrefetchWindow → is_prefetchable_part (now f) p ≡ true
  part_prefetch f (Bar n) plain e = prefetch_of_class q s f n e
  part_prefetch f Rom plain e = no_prefetch MemoryWindow refl e
  part_prefetch f (Window kind) plain e = absurd (both_ways true plain refl)

  -- what claims is of a function that serves
  claim_serves : (f : Function) (p : Part) (space : Space) (a : ℕ) → Contains s f → is_window p ≡ false → Claims (now f) p space a → IsServing q s k can space f
  claim_serves f p space a listed plain claim =
      let at : space_of f p ≡ space = same_space f p ∙ claim.maps in
      let part = claimed_part q s k can f p space a listed plain claim in
      let enabled = sym (on_now q s k can f listed space) ∙ claim_on (now f) p space a claim in
      subst (λ sp. IsServing q s k can sp f) at (serves_own q s k can f p listed (header_of f p part.0) part.1 plain (ap (λ sp. is_enabled_in q s k sp f) at ∙ enabled))

  first_step : (f b : Function) (p : Part) (space : Space) (a : ℕ) → Contains s f → is_window p ≡ false → Claims (now f) p space a → LeadsTo s b f.slot.bus
      → IsServing q s k can space b × (passes space (is_prefetchable_part (now f) p) a (now b) ≡ true)
  first_step f b p space a in_f plain claim leads =
      let range = (place_of_claim (now f) p space a (new_decodable q s k can f in_f) claim).range in
      let at : space_of f p ≡ space = same_space f p ∙ claim.maps in
      let over = serves_over q s k can space f b in_f (claim_serves f p space a in_f plain claim) leads in (
        over,
        passes_by (class_in q s f p) space (is_prefetchable_part (now f) p) a (now b) (space_of_class q s f p ∙ at) (part_prefetch f p plain)
            (passed_over q s k can f b p a in_f (claimed q s k can f p space a in_f claim) range leads (ap (λ sp. is_enabled_in q s k sp b) at ∙ serves_enabled q s k can space b leads.0 over)),
      )

  next_step : (b d : Function) (space : Space) (prefetchable : Bool) (a : ℕ) → Contains s b → is_bridge b ≡ true → IsServing q s k can space b → passes space prefetchable a (now b) ≡ true → LeadsTo s d b.slot.bus
      → IsServing q s k can space d × (passes space prefetchable a (now d) ≡ true)
  next_step b d space prefetchable a in_b bridge serving passed leads =
      let by = passed_by space prefetchable a (now b) passed in
      let c = by.class in
      let h = (and_parts (is_space_on (now b) (window_space c)) (holds c (now b).image b.probe a) by.claims).1 in
      let there = (held c (now b).image b.probe a h).there in
      let over = serves_over q s k can space b d in_b serving leads in (
        over,
        passes_by c space prefetchable a (now d) by.at by.may
            (passed_over q s k can b d (Window c) a in_b (window_end q s k can b in_b c a bridge h) ((window_holds_its_pages c (now b).image b.probe a there).0 h) leads
            (ap (λ sp. is_enabled_in q s k sp d) by.at ∙ serves_enabled q s k can space d leads.0 over)),
      )

  abbrev of_old : (g : Function) → Contains (settled q s k) g → IsMade now s g
  of_old g has = in_map_to now s g has

  -- a settled function that serves
  record ServesNow (space : Space) (g : Function) : Type 0 where
    of : Function
    listed : Contains s of
    is : now of ≡ g
    serving : IsServing q s k can space of

  leads_before : (f b g c : Function) → now f ≡ g → now b ≡ c → Contains s b → LeadsTo (settled q s k) c g.slot.bus → LeadsTo s b f.slot.bus
  leads_before f b g c is_f is_b listed leads =
      led_before b f.slot.bus listed (subst (λ x. LeadsTo (settled q s k) x f.slot.bus) (sym is_b) (subst (λ (x : Function). LeadsTo (settled q s k) c x.slot.bus) (sym is_f) leads))

  home : IsHome q.roots (settled q s k)
  home = home_by_known q.roots (settled q s k) (new_nested q s k can) ServesNow
      (λ g c p space a in_g plain claim leads.
      let f : IsMade now s g = of_old g in_g in
      let b : IsMade now s c = of_old c leads.0 in
      let step = first_step f.from b.from p space a f.has plain (subst (λ x. Claims x p space a) (sym f.is) claim) (leads_before f.from b.from g c f.is b.is b.has leads) in (
        record { of = b.from; listed = b.has; is = b.is; serving = step.0 },
        subst (λ x. passes space (is_prefetchable_part g p) a x ≡ true) b.is (subst (λ x. passes space (is_prefetchable_part x p) a (now b.from) ≡ true) f.is step.1),
      ))
      (λ g c space prefetchable a in_g bridge known passed leads.
      let b : IsMade now s c = of_old c leads.0 in
      let bridge_f : is_bridge known.of ≡ true = sym (bridge_stays q s k can known.of known.listed) ∙ ap is_bridge known.is ∙ bridge in
      let step = next_step known.of b.from space prefetchable a known.listed bridge_f known.serving (ap (passes space prefetchable a) known.is ∙ passed) (leads_before known.of b.from g c known.is b.is b.has leads) in (
        record { of = b.from; listed = b.has; is = b.is; serving = step.0 },
        subst (λ x. passes space prefetchable a x ≡ true) b.is step.1,
      ))

  -- ---- single

  abbrev ranges : Ranges
  ranges = record { first = λ f p space. (range_of f p).first; last = λ f p space. (range_of f p).last }

  regions_apart : (f g : Function) (p r : Part) (space : Space) (a : ℕ) → Contains s f → Contains s g → AreBeside q.roots (now f) (now g) → Claims (now f) p space a → Claims (now g) r space a → AreTwo (now f) p (now g) r
      → LieApart (range_of (now f) p) (range_of (now g) r)
  regions_apart f g p r space a in_f in_g beside claim_f claim_g two =
      let x = claimed q s k can f p space a in_f claim_f in
      let y = claimed q s k can g r space a in_g claim_g in
      subst (λ v. LieApart v (range_of (now g) r)) (sym x.shown) (subst (LieApart x.at) (sym y.shown)
      (are_apart q s k can f g p r in_f in_g x.there y.there (same_space f p ∙ claim_f.maps ∙ sym claim_g.maps ∙ sym (same_space g r)) beside (two_before two) x.at y.at x.ends y.ends))
    where
      two_before : AreTwo (now f) p (now g) r → AreTwo f p g r
      two_before (inl slots) = inl slots
      two_before (inr differ) = inr (λ e. differ (same_register f p in_f ∙ e ∙ sym (same_register g r in_g)))

  single : IsSingle q.roots (settled q s k)
  single = single_by_ranges q.roots (settled q s k) ranges
      (λ g p space a in_g claim.
      let f : IsMade now s g = of_old g in_g in
      subst (λ (x : Function). InRange (range_of x p) a) f.is (place_of_claim (now f.from) p space a (new_decodable q s k can f.from f.has) (subst (λ x. Claims x p space a) (sym f.is) claim)).range)
      (λ g h p r space a in_g in_h beside claim_g claim_h two.
      let f : IsMade now s g = of_old g in_g in
      let e : IsMade now s h = of_old h in_h in
      subst (λ x. LieApart (range_of x p) (range_of h r)) f.is (subst (λ x. LieApart (range_of (now f.from) p) (range_of x r)) e.is
      (regions_apart f.from e.from p r space a f.has e.has
      (subst (λ x. AreBeside q.roots x (now e.from)) (sym f.is) (subst (AreBeside q.roots g) (sym e.is) beside))
      (subst (λ x. Claims x p space a) (sym f.is) claim_g) (subst (λ x. Claims x r space a) (sym e.is) claim_h)
      (subst (λ x. AreTwo x p (now e.from) r) (sym f.is) (subst (λ x. AreTwo g p x r) (sym e.is) two)))))

  pub settled_sound : IsSound q.roots (settled q s k)
  settled_sound = record {
    single = single;
    home = home;
    nested = new_nested q s k can;
    profile = new_profile q s k can;
    chains = new_chains q s k can;
  }
