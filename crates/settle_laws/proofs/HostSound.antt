-- What is sound with a host that sends what the lists have, and in its place, is sound whatever the host sends.
use Rattle.std.proofs.Common.{◌≡◌, ◌&&◌, ◌||◌, ℕ, inl, inr, List, [], ◌∷◌, Bool, true, false, not, refl, sym, ◌∙◌, ap, subst}
use Rattle.std.specs.List.{Contains, list_all}
use Rattle.std.proofs.lemmas.Bool.{and_parts, both_ways, cases_Bool, not-true, true_from_ne_false}
use Rattle.std.proofs.lemmas.List.Elements.{All-contains}
use Rattle.std.proofs.Math.Bool.{and-false, and-true, or-false}
use Rattle.pci_spec.specs.Slot.{Slot}
use Rattle.pci_spec.specs.Decoded.{InRange, IsDecodable}
use Rattle.pci_spec.specs.Window.{holds}
use Rattle.pci_spec.specs.System.{System, Function, IsSystem, Space, Io, Memory, Part, Window, Claims, Leads, forwards, is_bridge, is_prefetchable_part, is_space_on, is_window, passes, register_of, window_space}
use Rattle.pci_spec.specs.Bus.{is_root, IsNested}
use Rattle.pci_spec.specs.Sound.{IsSameRegion}
use Rattle.pci_spec.specs.Sound as plain
use Rattle.pci_spec.proofs.BusRanges.{all_from, all_gives, root_means}
use Rattle.plan_spec.proofs.PlanningLaws.{profile_decodes}
use Rattle.plan_spec.proofs.Planning.Kept.{images_of}
use Rattle.judge_spec.specs.Given.{is_cut, legacy_claims, palette_claims, starts, takes}
use Rattle.judge_spec.specs.Claims.{Legacy, Own, Palette, forwards_else, may_share, passes_else}
use Rattle.judge_spec.specs.Claims as host
use Rattle.judge_spec.specs.Sound as given
use Rattle.judge_spec.proofs.Isa.{not_cut}
use Rattle.judge_spec.proofs.Judging.{home_without}
use Rattle.judge_spec.proofs.Nothing.{not_at_command, not_at_control, not_shared}
use Rattle.settle_spec.specs.Lists.{Request}
use Rattle.settle_spec.specs.Parts.{FunctionPart, system_parts, addresses}
use Rattle.settle_spec.specs.Stands.{is_part_on, part_space}
use Rattle.settle_laws.specs.StartLaws.{LieInPlace}
use Rattle.settle_laws.proofs.AllInPlace.{looked}
use Rattle.settle_laws.proofs.InPlace.{claimed_forwards, enabled_on, looked_part}
use Rattle.settle_laws.proofs.PartClaims.{claims_at, part_order}
use Rattle.settle_laws.proofs.SettledSound.{passed_by}
use Rattle.settle_laws.specs.HostLaws.{HaveGaps, LeftIsOff, RestLiesInPlace, host_by}
use Rattle.settle_laws.proofs.ClaimedParts.{claimed, in_range}
use Rattle.settle_laws.proofs.SentLists.{listed_sent, sent_listed}

-- what is forwarded is what a prefetchable BAR would be passed
forwards_passes : (space : Space) (a : ℕ) (b : Function) → forwards space a b ≡ passes space true a b
forwards_passes Io a b = refl
forwards_passes Memory a b = refl

-- no bridge has a legacy part or a palette part, and none takes what nobody claims
no_legacy : (q : Request) (space : Space) (a : ℕ) (b : Function) → legacy_claims (host_by q) space a b ≡ false
no_legacy q space a b = and-false (is_bridge b && is_space_on b space)

no_palette : (q : Request) (space : Space) (a : ℕ) (b : Function) → palette_claims (host_by q) space a b ≡ false
no_palette q space a b = and-false (is_bridge b && is_space_on b space)

takes_nothing : (q : Request) (space : Space) (a : ℕ) (b : Function) → takes (host_by q) space a b ≡ false
takes_nothing q space a b = and-false (is_bridge b && is_space_on b space)

passes_nothing_else : (q : Request) (space : Space) (a : ℕ) (b : Function) → passes_else (host_by q) space a b ≡ false
passes_nothing_else q space a b = ap (λ x. x || takes (host_by q) space a b) (no_legacy q space a b) ∙ takes_nothing q space a b

forwards_nothing_else : (q : Request) (space : Space) (a : ℕ) (b : Function) → forwards_else (host_by q) space a b ≡ false
forwards_nothing_else q space a b = ap (λ x. x || palette_claims (host_by q) space a b) (passes_nothing_else q space a b) ∙ no_palette q space a b

-- and none has ISA Enable
none_taken : (q : Request) (b : Bool) (space : Space) (a : ℕ) (slot : Slot) → (b && not (is_cut (host_by q) space a slot)) ≡ b
none_taken q b space a slot = ap (λ x. b && not x) (not_cut (host_by q) slot refl space a) ∙ and-true b

own_claims : (q : Request) (f : Function) (p : Part) (space : Space) (a : ℕ) → Claims f p space a → host.Claims (host_by q) f (Own p) space a
own_claims q f p space a claims = record { claims = claims; kept = ap (λ x. is_window p && x) (not_cut (host_by q) f.slot refl space a) ∙ and-false (is_window p) }

passes_same : (q : Request) (space : Space) (prefetchable : Bool) (a : ℕ) (b : Function) → host.passes (host_by q) space prefetchable a b ≡ passes space prefetchable a b
passes_same q space prefetchable a b = ap (λ x. (passes space prefetchable a b && not (is_cut (host_by q) space a b.slot)) || x) (passes_nothing_else q space a b) ∙ or-false _ ∙ none_taken q (passes space prefetchable a b) space a b.slot

forwards_same : (q : Request) (space : Space) (a : ℕ) (b : Function) → host.forwards (host_by q) space a b ≡ forwards space a b
forwards_same q space a b = ap (λ x. (forwards space a b && not (is_cut (host_by q) space a b.slot)) || x) (forwards_nothing_else q space a b) ∙ or-false _ ∙ none_taken q (forwards space a b) space a b.slot

-- no region is that of a legacy part or a palette part
one_region : (f g : Function) (p r : Part) → given.MayBoth f (Own p) g (Own r) → IsSameRegion f p g r
one_region f g p r (inl same) = same
one_region f g p r (inr share) =
    absurd (both_ways (may_share f.slot (register_of f p) g.slot (register_of g r))
    (not_shared f.slot g.slot (register_of f p) (register_of g r) (not_at_control f p) (not_at_control g r) (not_at_command f p) (not_at_command g r)) share)

-- what is passed is forwarded
passed_forwards : (space : Space) (prefetchable : Bool) (a : ℕ) (b : Function) → passes space prefetchable a b ≡ true → forwards space a b ≡ true
passed_forwards space prefetchable a b h = (let by = passed_by space prefetchable a b h in subst (λ sp. forwards sp a b ≡ true) by.at (claimed_forwards by.class a b by.claims))

-- ---- all is in its place

module _ (q : Request) (s : System) (system : IsSystem s) (sound : given.IsSound (host_by q) q.roots s) where
  module _ (gaps : HaveGaps q) (rest : RestLiesInPlace q s) where
    -- the host sends each address of an enabled BAR or ROM on a root
    part_sent : (r : FunctionPart) → Contains (system_parts q s) r → is_root q.roots r.function.slot.bus ≡ true → is_part_on r ≡ true → is_window r.part ≡ false → (a : ℕ) → InRange (addresses r) a → starts (host_by q) (part_space r) r.function.slot.bus a ≡ true
    part_sent r listed root on plain a inside =
        let f = r.function in
        let is = looked q s r listed in
        let fine = All-contains IsDecodable s f (profile_decodes q.roots s sound.profile) is.listed in
        let claim = claims_at q s f (images_of s system f is.listed) fine r.part (looked_part q s r is) is.part (enabled_on f r.part on) a inside in
        true_from_ne_false (starts (host_by q) (part_space r) f.slot.bus a) (λ unsent.
        (home_without (host_by q) q.roots s system sound.nested sound.home).0 f.slot (register_of f r.part) (part_space r) a
        record { f = f; part = r.part; listed = is.listed; named = (refl, refl); no_window = plain; claims = claim; bridges = []; root = f.slot.bus; is_root = (root_means q.roots f.slot.bus).0 root; leads = refl; none = unsent })

    pub lies_in_place : LieInPlace q s
    lies_in_place = record {
      lists = λ r listed root. elim (cases_Bool (is_part_on r && not (is_window r.part))) [
        | inr unsaid ↦ rest.lists r listed root unsaid
        | inl said ↦
            let parts = and_parts (is_part_on r) (not (is_window r.part)) said in
            sent_listed q r.function.slot.bus gaps (part_space r) (addresses r) (part_order q s r.function r.part (looked q s r listed).part)
            (part_sent r listed root parts.0 (not-true (is_window r.part) parts.1))
      ];
      windows = rest.windows;
    }

-- ---- and it is sound with the host where it is without

module _ (q : Request) (s : System) (system : IsSystem s) (nested : IsNested q.roots s) (profile : plain.IsInProfile q.roots s) (place : LieInPlace q s) (left : LeftIsOff q s) where
  -- what claims an address on a root has it sent
  claim_sent : (f : Function) (p : Part) (space : Space) (a : ℕ) → Contains s f → is_root q.roots f.slot.bus ≡ true → Claims f p space a → starts (host_by q) space f.slot.bus a ≡ true
  claim_sent f p space a listed root claim =
      let r : FunctionPart = record { function = f; part = p } in
      let in_r = claimed q s system nested profile left f p space a listed claim in
      subst (λ sp. starts (host_by q) sp f.slot.bus a ≡ true) claim.maps
      (listed_sent q f.slot.bus (part_space r) (addresses r) (place.lists r in_r root) a (in_range q s system nested profile left f p space a listed claim))

  -- so accesses that get to a part start
  way_sent : (space : Space) (a root : ℕ) (bridges : List Function) (f : Function) (p : Part) → Contains q.roots root → Leads s root bridges f.slot.bus → list_all (forwards space a) bridges ≡ true → Contains s f → Claims f p space a
      → starts (host_by q) space root a ≡ true
  way_sent space a root [] f p is_one leads all listed claim =
      let is : is_root q.roots f.slot.bus ≡ true = subst (λ n. is_root q.roots n ≡ true) leads ((root_means q.roots root).1 is_one) in
      subst (λ n. starts (host_by q) space n a ≡ true) (sym leads) (claim_sent f p space a listed is claim)
  way_sent space a root (b ∷ bridges) f p is_one (in_b, bridge, on, more) all listed claim =
      let first = (and_parts (forwards space a b) (list_all (forwards space a) bridges) all).0 in
      let by = passed_by space true a b (sym (forwards_passes space a b) ∙ first) in
      let parts = and_parts (is_space_on b (window_space by.class)) (holds by.class b.image b.probe a) by.claims in
      let window : Claims b (Window by.class) space a = record { there = bridge; enabled = parts.0; maps = by.at; address = claim.address; decodes = parts.1 } in
      let is : is_root q.roots b.slot.bus ≡ true = subst (λ n. is_root q.roots n ≡ true) (sym on) ((root_means q.roots root).1 is_one) in
      subst (λ n. starts (host_by q) space n a ≡ true) on (claim_sent b (Window by.class) space a in_b is window)

module _ (q : Request) (s : System) (system : IsSystem s) (place : LieInPlace q s) (left : LeftIsOff q s) where
  module _ (sound : given.IsSound (host_by q) q.roots s) where
    single : plain.IsSingle q.roots s
    single = record {
      on_a_bus = λ space a bus (root, is_one, bridges, leads, all) f g p r in_f in_g at_f at_g claim_f claim_g.
          one_region f g p r
          (sound.single.on_a_bus space a bus (
            root,
            is_one,
            way_sent q s system sound.nested sound.profile place left space a root bridges f p is_one (subst (Leads s root bridges) (sym at_f) leads) all in_f claim_f,
            bridges,
            leads,
            all_from (host.forwards (host_by q) space a) bridges (λ b has. forwards_same q space a b ∙ all_gives (forwards space a) bridges all b has),
          )
          f g (Own p) (Own r) in_f in_g at_f at_g (own_claims q f p space a claim_f) (own_claims q g r space a claim_g));
      over_roots = λ space a f g p r in_f in_g root_f root_g claim_f claim_g.
          one_region f g p r
          (sound.single.over_roots space a f g (Own p) (Own r) in_f in_g root_f root_g
          (claim_sent q s system sound.nested sound.profile place left f p space a in_f ((root_means q.roots f.slot.bus).1 root_f) claim_f)
          (claim_sent q s system sound.nested sound.profile place left g r space a in_g ((root_means q.roots g.slot.bus).1 root_g) claim_g) (own_claims q f p space a claim_f) (own_claims q g r space a claim_g));
    }

    home : plain.IsHome q.roots s
    home f p space a listed no_window claim =
        let way = sound.home f p space a listed no_window claim in
        let pre = is_prefetchable_part f p in
        (way.0, way.1, way.3, way.4, all_from (passes space pre a) way.3 (λ b has. sym (passes_same q space pre a b) ∙ all_gives (host.passes (host_by q) space pre a) way.3 way.5 b has))

    pub sound_without : plain.IsSound q.roots s
    sound_without = record { single = single; home = home; nested = sound.nested; profile = sound.profile; chains = sound.chains }

  module _ (sound : plain.IsSound q.roots s) where
    same_part : (space : Space) (a : ℕ) (f g : Function) (p r : host.Part) → host.Claims (host_by q) f p space a → host.Claims (host_by q) g r space a
        → ((x y : Part) → Claims f x space a → Claims g y space a → IsSameRegion f x g y) → given.MayBoth f p g r
    same_part space a f g (Own p) (Own r) claim_f claim_g one = inl (one p r claim_f.claims claim_g.claims)
    same_part space a f g Legacy r claim_f claim_g one = absurd (both_ways (legacy_claims (host_by q) space a f) (no_legacy q space a f) claim_f.claims)
    same_part space a f g Palette r claim_f claim_g one = absurd (both_ways (palette_claims (host_by q) space a f) (no_palette q space a f) claim_f.claims)
    same_part space a f g (Own p) Legacy claim_f claim_g one = absurd (both_ways (legacy_claims (host_by q) space a g) (no_legacy q space a g) claim_g.claims)
    same_part space a f g (Own p) Palette claim_f claim_g one = absurd (both_ways (palette_claims (host_by q) space a g) (no_palette q space a g) claim_g.claims)

    single_with : given.IsSingle (host_by q) q.roots s
    single_with = record {
      on_a_bus = λ space a bus (root, is_one, sent, bridges, leads, all) f g p r in_f in_g at_f at_g claim_f claim_g.
          same_part space a f g p r claim_f claim_g
          (λ x y.
          sound.single.on_a_bus space a bus
          (root, is_one, bridges, leads, all_from (forwards space a) bridges (λ b has. sym (forwards_same q space a b) ∙ all_gives (host.forwards (host_by q) space a) bridges all b has))
          f g x y in_f in_g at_f at_g);
      over_roots = λ space a f g p r in_f in_g root_f root_g sent_f sent_g claim_f claim_g.
          same_part space a f g p r claim_f claim_g (λ x y. sound.single.over_roots space a f g x y in_f in_g root_f root_g);
    }

    home_with : given.IsHome (host_by q) q.roots s
    home_with f p space a listed no_window claim =
        let way = sound.home f p space a listed no_window claim in
        let pre = is_prefetchable_part f p in
        let forwarded = all_from (forwards space a) way.2 (λ b has. passed_forwards space pre a b (all_gives (passes space pre a) way.2 way.4 b has)) in (
          way.0,
          way.1,
          way_sent q s system sound.nested sound.profile place left space a way.0 way.2 f p way.1 way.3 forwarded listed claim,
          way.2,
          way.3,
          all_from (host.passes (host_by q) space pre a) way.2 (λ b has. passes_same q space pre a b ∙ all_gives (passes space pre a) way.2 way.4 b has),
        )

    pub sound_with : given.IsSound (host_by q) q.roots s
    sound_with = record { single = single_with; home = home_with; nested = sound.nested; profile = sound.profile; chains = sound.chains }
