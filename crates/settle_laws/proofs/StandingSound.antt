-- Where each part stands, a system is sound if what is on has all bridges above on, and I/O is off where an I/O BAR is left.
use Rattle.std.proofs.Common.{◌≡◌, ◌&&◌, ℕ, inl, inr, Bool, true, false, not, refl, sym, ◌∙◌, ap, subst}
use Rattle.std.specs.Bool.{◌==◌}
use Rattle.std.specs.List.{Contains, list_any}
use Rattle.std.proofs.lemmas.Bool.{and_from, and_parts, both_ways, cases_Bool, eq-eqb, not-false, not_from_false, or_left, or_right}
use Rattle.pci_spec.specs.Decoded.{InRange}
use Rattle.pci_spec.specs.Window.{WindowKind, IoWindow, MemoryWindow, PrefetchWindow, has_window, holds, is_closed}
use Rattle.pci_spec.specs.System.{System, Function, Space, Part, Bar, Rom, Window, Claims, is_bridge, is_prefetchable_part, is_space_on, is_window, passes, window_claims, window_space}
use Rattle.pci_spec.specs.Bus.{are_siblings, is_root, LeadsTo}
use Rattle.pci_spec.specs.Sound.{IsHome, IsSingle, IsSound}
use Rattle.pci_spec.proofs.BusRanges.{root_means}
use Rattle.pci_spec.proofs.WindowLaws.{closed_window_holds_nothing, held, window_holds_its_pages}
use Rattle.plan_spec.specs.Plan.{bridges_above, is_open, same_class}
use Rattle.plan_spec.specs.Planning.Layout.{range_of, AreBeside, AreTwo, LieApart}
use Rattle.plan_spec.specs.Planning.Ranges.{Ranges}
use Rattle.plan_spec.proofs.Planning.AboveBuses.{above_from}
use Rattle.plan_spec.proofs.Planning.Home.{home_by_known}
use Rattle.plan_spec.proofs.Planning.LaidOut.{opening}
use Rattle.plan_spec.proofs.Planning.Single.{single_by_ranges}
use Rattle.settle_spec.specs.Lists.{Request}
use Rattle.settle_spec.specs.Parts.{FunctionPart, system_parts, addresses, class_in, are_same_space}
use Rattle.settle_spec.specs.Stands.{part_space, window_part}
use Rattle.settle_spec.specs.Registers.{has_own}
use Rattle.settle_spec.proofs.Nested.{at_secondary}
use Rattle.settle_laws.proofs.Apart.{apart_where_beside, in_window_over}
use Rattle.settle_laws.proofs.Standing.{stands_by_itself}
use Rattle.settle_laws.proofs.AllInPlace.{looked, two_ranks}
use Rattle.settle_laws.proofs.HeaderParts.{header_of}
use Rattle.settle_laws.proofs.Held.{above_above, and_second_false, claim_on, own_by, same_itself}
use Rattle.settle_laws.proofs.InPlace.{within_has}
use Rattle.settle_laws.proofs.Kept.{in_regions, lie_apart, off_roots}
use Rattle.settle_laws.proofs.PartClasses.{prefetch_of_class, space_of_class}
use Rattle.settle_laws.proofs.SettledSound.{passed_by}
use Rattle.settle_laws.specs.Switching.{IsStandingSystem, IsUncut}
use Rattle.settle_laws.proofs.ClaimedParts.{claimed, claimed_part, in_range}
use Rattle.settle_laws.proofs.NonePasses.{none_passes}

-- a window of this class passes what may use it
passes_by : (c : WindowKind) (space : Space) (prefetchable : Bool) (a : ℕ) (b : Function) → window_space c ≡ space → (c ≡ PrefetchWindow → prefetchable ≡ true) → window_claims b c a ≡ true → passes space prefetchable a b ≡ true
passes_by c space prefetchable a b at may h = subst (λ sp. passes sp prefetchable a b ≡ true) at (by c may h)
  where
    by : (c : WindowKind) → (c ≡ PrefetchWindow → prefetchable ≡ true) → window_claims b c a ≡ true → passes (window_space c) prefetchable a b ≡ true
    by IoWindow may h = h
    by MemoryWindow may h = or_left (window_claims b MemoryWindow a) (prefetchable && window_claims b PrefetchWindow a) h
    by PrefetchWindow may h = or_right (window_claims b MemoryWindow a) (prefetchable && window_claims b PrefetchWindow a) (and_from prefetchable (window_claims b PrefetchWindow a) (may refl) h)

module _ (q : Request) (s : System) (is : IsStandingSystem q s) (uncut : IsUncut q s) where
  -- ---- single

  beside_test : (f g : Function) → AreBeside q.roots f g → are_siblings q.roots f.slot.bus g.slot.bus ≡ true
  beside_test f g (inl same) = or_left (f.slot.bus == g.slot.bus) (is_root q.roots f.slot.bus && is_root q.roots g.slot.bus) (eq-eqb f.slot.bus g.slot.bus same)
  beside_test f g (inr (root_f, root_g)) =
      or_right (f.slot.bus == g.slot.bus) (is_root q.roots f.slot.bus && is_root q.roots g.slot.bus)
      (and_from (is_root q.roots f.slot.bus) (is_root q.roots g.slot.bus) ((root_means q.roots f.slot.bus).1 root_f) ((root_means q.roots g.slot.bus).1 root_g))

  claims_apart : (f g : Function) (p r : Part) (space : Space) (a : ℕ) → Contains s f → Contains s g → AreBeside q.roots f g → Claims f p space a → Claims g r space a → AreTwo f p g r
      → LieApart (range_of f p) (range_of g r)
  claims_apart f g p r space a in_f in_g beside claim_f claim_g two =
      let x : FunctionPart = record { function = f; part = p } in
      let y : FunctionPart = record { function = g; part = r } in
      let in_x = claimed q s is.system is.nested is.profile uncut.left f p space a in_f claim_f in
      let in_y = claimed q s is.system is.nested is.profile uncut.left g r space a in_g claim_g in
      lie_apart (addresses x) (addresses y)
      (apart_where_beside q s x y is.nested in_x in_y (is.stand x in_x) (is.stand y in_y)
      (and_from (are_siblings q.roots f.slot.bus g.slot.bus) (are_same_space (part_space x) (part_space y)) (beside_test f g beside)
      (ap (are_same_space (part_space x)) (claim_g.maps ∙ sym claim_f.maps) ∙ same_itself (part_space x)))
      (two_ranks q s is.system x y (looked q s x in_x) (looked q s y in_y) two))

  single : IsSingle q.roots s
  single = single_by_ranges q.roots s ranges (λ f p space a listed claim. in_range q s is.system is.nested is.profile uncut.left f p space a listed claim) claims_apart
    where
      ranges : Ranges
      ranges = record { first = λ f p space. (range_of f p).first; last = λ f p space. (range_of f p).last }

  -- ---- home

  -- a bridge that is on, with all above it
  record IsOnAbove (space : Space) (b : Function) : Type 0 where
    on : is_space_on b space ≡ true
    above : (d : Function) → Contains (bridges_above s b.slot.bus) d → is_space_on d space ≡ true

  leader_above : (b : Function) (bus : ℕ) → LeadsTo s b bus → Contains (bridges_above s bus) b
  leader_above b bus leads = above_from s bus b record { listed = leads.0; bridge = leads.1; behind = at_secondary q.roots s is.system is.nested b bus leads.0 leads.1 leads.2 }

  -- what claims has all bridges above on
  claim_above : (f : Function) (p : Part) (space : Space) (a : ℕ) → Contains s f → is_window p ≡ false → Claims f p space a → (d : Function) → Contains (bridges_above s f.slot.bus) d → is_space_on d space ≡ true
  claim_above f p space a listed plain claim d above =
      let own = own_by q s is.system is.nested f listed p space (header_of f p claim.there) (claimed_part q s is.system is.nested is.profile uncut.left f p space a listed claim) plain claim.maps in
      let dark = λ (b : Function). not (is_space_on b space) in
      not-false (is_space_on d space)
      (none_passes dark (bridges_above s f.slot.bus)
      (and_second_false (is_space_on f space && has_own q s space f) (list_any dark (bridges_above s f.slot.bus)) (and_from (is_space_on f space) (has_own q s space f) (claim_on f p space a claim) own) (uncut.above f space listed)) d above)

  on_by_leader : (f b : Function) (space : Space) → LeadsTo s b f.slot.bus → ((d : Function) → Contains (bridges_above s f.slot.bus) d → is_space_on d space ≡ true) → IsOnAbove space b
  on_by_leader f b space leads all =
      let own = leader_above b f.slot.bus leads in
      record { on = all b own; above = λ d above. all d (above_above q s is.system is.nested f b d own above) }

  -- the window of its class over a part claims what the part has
  window_over : (r : FunctionPart) (b : Function) (a : ℕ) → Contains (system_parts q s) r → InRange (addresses r) a → LeadsTo s b r.function.slot.bus → is_space_on b (part_space r) ≡ true
      → window_claims b (class_in q s r.function r.part) a ≡ true
  window_over r b a in_r inside leads on =
      let c = class_in q s r.function r.part in
      let off : is_root q.roots r.function.slot.bus ≡ false = subst (λ n. is_root q.roots n ≡ false) leads.2 (off_roots q s is.system is.nested b leads.0 leads.1) in
      let over = in_window_over q s is.nested r in_r (is.stand r in_r) b is.system off leads in
      let opened : is_open b c ≡ true = (stands_by_itself q s is.nested).only (window_part c b) leads.0 over.1 in
      and_from (is_space_on b (window_space c)) (holds c b.image b.probe a) (ap (is_space_on b) (space_of_class q s r.function r.part) ∙ on)
      ((window_holds_its_pages c b.image b.probe a (opening b c opened).there).1 (within_has (addresses r) (range_of b (Window c)) a over.0 inside))

  part_prefetch : (f : Function) (p : Part) → is_window p ≡ false → class_in q s f p ≡ PrefetchWindow → is_prefetchable_part f p ≡ true
  part_prefetch f (Bar n) plain e = prefetch_of_class q s f n e
  part_prefetch f Rom plain e = absurd (both_ways (same_class PrefetchWindow MemoryWindow) refl (ap (same_class PrefetchWindow) e))
  part_prefetch f (Window c) plain e = absurd (both_ways true plain refl)

  first_step : (f b : Function) (p : Part) (space : Space) (a : ℕ) → Contains s f → is_window p ≡ false → Claims f p space a → LeadsTo s b f.slot.bus → IsOnAbove space b × (passes space (is_prefetchable_part f p) a b ≡ true)
  first_step f b p space a listed plain claim leads =
      let on = on_by_leader f b space leads (claim_above f p space a listed plain claim) in (
        on,
        passes_by (class_in q s f p) space (is_prefetchable_part f p) a b (space_of_class q s f p ∙ claim.maps) (part_prefetch f p plain)
            (window_over record { function = f; part = p } b a (claimed q s is.system is.nested is.profile uncut.left f p space a listed claim) (in_range q s is.system is.nested is.profile uncut.left f p space a listed claim) leads (ap (is_space_on b) claim.maps ∙ on.on)),
      )

  -- a window that holds an address is open
  held_open : (b : Function) (c : WindowKind) (a : ℕ) → is_bridge b ≡ true → holds c b.image b.probe a ≡ true → is_open b c ≡ true
  held_open b c a bridge h =
      and_from (is_bridge b && has_window c b.probe) (not (is_closed c b.image)) (and_from (is_bridge b) (has_window c b.probe) bridge (held c b.image b.probe a h).there)
      (elim (cases_Bool (is_closed c b.image)) [
        | inl closed ↦ absurd (both_ways (holds c b.image b.probe a) (closed_window_holds_nothing c b.image b.probe a closed) h)
        | inr opened ↦ not_from_false (is_closed c b.image) opened
      ])

  next_step : (b d : Function) (space : Space) (prefetchable : Bool) (a : ℕ) → Contains s b → is_bridge b ≡ true → IsOnAbove space b → passes space prefetchable a b ≡ true → LeadsTo s d b.slot.bus
      → IsOnAbove space d × (passes space prefetchable a d ≡ true)
  next_step b d space prefetchable a listed bridge known passed leads =
      let by = passed_by space prefetchable a b passed in
      let c = by.class in
      let h = (and_parts (is_space_on b (window_space c)) (holds c b.image b.probe a) by.claims).1 in
      let on = on_by_leader b d space leads known.above in (
        on,
        passes_by c space prefetchable a d by.at by.may
            (window_over (window_part c b) d a (in_regions q s b (Window c) listed (header_of b (Window c) bridge) (held_open b c a bridge h))
            ((window_holds_its_pages c b.image b.probe a (held c b.image b.probe a h).there).0 h) leads (ap (is_space_on d) by.at ∙ on.on)),
      )

  home : IsHome q.roots s
  home = home_by_known q.roots s is.nested IsOnAbove first_step next_step

  -- The law: the system is sound.
  pub standing_sound : IsSound q.roots s
  standing_sound = record { single = single; home = home; nested = is.nested; profile = is.profile; chains = is.chains }
