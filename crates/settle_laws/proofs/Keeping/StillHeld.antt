-- What claims an address once closed claims it once settled too, and is behind windows that hold it, are kept and stay on.
use Rattle.std.proofs.Common.{◌≡◌, ◌&&◌, ℕ, suc, ◌+◌, ◌*◌, ◌/◌, true, false, not, arith, refl, sym, ◌∙◌, ap, subst, inl, inr}
use Rattle.std.specs.Bool.{nat_le, nat_lt}
use Rattle.std.specs.List.{Contains}
use Rattle.std.proofs.lemmas.Bool.{and_parts, both_ways, false_from_ne_true, ltb-true, cases_Bool}
use Rattle.pci_spec.specs.Header.{layout, bar_count}
use Rattle.pci_spec.specs.Rom.{rom_is_on}
use Rattle.pci_spec.specs.Window.{WindowKind, PrefetchWindow, Bounds, bounds_at, has_window, holds, lower_pages, page_size}
use Rattle.pci_spec.specs.System.{System, Function, Space, Memory, Part, Bar, Rom, Window, Claims, has_part, is_bridge, is_prefetchable_part, is_space_on, is_window, space_of, window_space}
use Rattle.plan_spec.specs.Plan.{bridges_above, same_class}
use Rattle.plan_spec.proofs.Planning.AboveBuses.{above_to}
use Rattle.plan_spec.proofs.Planning.LaidOut.{place_of_claim}
use Rattle.settle_spec.specs.Lists.{Request}
use Rattle.settle_spec.specs.Parts.{is_part, addresses, class_in}
use Rattle.settle_spec.specs.Keeping.Registers.{is_enabled_in, settled_function}
use Rattle.settle_spec.specs.Keeping.Writes.{changes_at, changes_window, is_left_on, is_replaced, closed_function}
use Rattle.settle_laws.specs.Keeping.PlacesLaws.{CanSettle}
use Rattle.settle_laws.proofs.Keeping.Claimed.{new_decodable, claimed_part, claimed, has_end, part_shown}
use Rattle.settle_laws.proofs.Keeping.ClosedMoves.{kept_window}
use Rattle.settle_laws.proofs.Keeping.Commands.{left_is_enabled}
use Rattle.settle_laws.proofs.HeaderParts.{header_of}
use Rattle.settle_laws.proofs.Held.{claim_on}
use Rattle.settle_laws.proofs.Keeping.Held.{held as stays_on}
use Rattle.settle_laws.proofs.Held.{claimed_bar}
use Rattle.settle_laws.proofs.PartClasses.{prefetch_of_class, space_of_class}
use Rattle.settle_laws.proofs.Keeping.PassedAbove.{passed_above}
use Rattle.settle_laws.proofs.Keeping.SettledMoved.{new_image, kind_stays}
use Rattle.settle_laws.proofs.ClosedMoves.{window_same}
use Rattle.settle_laws.proofs.Stages.{IsKeptWindow, IsHeldBy}
use Rattle.settle_laws.proofs.Keeping.StillShown.{Rests, Stays, Unchanged, resting, rests, on_is, left_of, was_on, ends_on, closed_layout, whole_closed, whole_final, rom_at_closed, rom_at_final}
use Rattle.settle_laws.proofs.NonePasses.{none_passes}
use Rattle.settle_spec.specs.Kept.{Kept, no_wish, unwished}
use Rattle.settle_spec.specs.Stands.{window_part}
use Rattle.settle_spec.proofs.Reaching.{within_gives}
use Rattle.pci_spec.proofs.WindowLaws.{window_holds_its_pages}
use Rattle.settle_laws.proofs.StandingAbove.{standing_above}
use Rattle.settle_laws.proofs.Keeping.ChangedWindows.{for_wishes, unchanged}
use Rattle.settle_laws.proofs.Keeping.Ends.{plain_end}
use Rattle.settle_laws.proofs.Keeping.Wishless.{can_unwished, enabled_same, place_same}
use Rattle.settle_laws.proofs.Keeping.ClosedImages.{staying_unreplaced}
use Rattle.settle_laws.proofs.Keeping.Fits.{was, decodable}
use Rattle.settle_laws.proofs.Keeping.Kept.{stays_stands, stays_listed, above_stays}
use Rattle.settle_laws.proofs.StillHeld.{IsShownSame, claims_by}
use Rattle.pci_spec.specs.Decoded.{InRange}

module _ (q : Request) (s : System) (k : Kept) (can : CanSettle q s k) where
  abbrev closed : Function → Function
  closed f = closed_function q s k f

  abbrev final : Function → Function
  final f = settled_function q s k f

  -- what claims an address once closed shows the same before and once settled
  record IsShown (f : Function) (p : Part) : Type 0 where
    closed_same : IsShownSame f.probe (closed f).image f.image p
    final_same : IsShownSame f.probe (final f).image f.image p

  shown : (f : Function) (p : Part) (space : Space) (a : ℕ) → Contains s f → is_window p ≡ false → Claims (closed f) p space a → IsShown f p
  shown f (Bar n) space a listed plain c =
      let inside = ltb-true n (bar_count (layout f.image)) (ap (λ k. nat_lt n (bar_count k)) (sym (closed_layout q s k can f)) ∙ c.there) in
      let there = claimed_bar (closed f) n space a c in
      record {
        closed_same = whole_closed q s k can f n listed inside there;
        final_same = whole_final q s k can f n listed inside there c.enabled;
      }
  shown f Rom space a listed plain c = record {
    closed_same = rom_at_closed q s k can f listed;
    final_same = rom_at_final q s k can f listed (left_of q s k can f Memory listed (and_parts (is_space_on (closed f) Memory) (rom_is_on (closed f).image) c.enabled).0);
  }
  shown f (Window c) space a listed plain claim = absurd (both_ways true plain refl)

  both_same : (f : Function) (p : Part) → IsShown f p → IsShownSame f.probe (closed f).image (final f).image p
  both_same f (Bar n) is = is.closed_same ∙ sym is.final_same
  both_same f Rom is = is.closed_same ∙ sym is.final_same
  both_same f (Window c) is = is.closed_same ∙ sym is.final_same

  -- a claim once closed is one before
  claim_before : (f : Function) (p : Part) (space : Space) (a : ℕ) → Contains s f → is_window p ≡ false → Claims (closed f) p space a → Claims f p space a
  claim_before f p space a listed plain c =
      claims_by f.slot f.probe (closed f).image f.image (closed_layout q s k can f) (λ space on. was_on q s k can f space listed on) p space a plain (shown f p space a listed plain c).closed_same c

  -- and once settled
  pub claim_after : (f : Function) (p : Part) (space : Space) (a : ℕ) → Contains s f → is_window p ≡ false → Claims (closed f) p space a → Claims (final f) p space a
  claim_after f p space a listed plain c =
      claims_by f.slot f.probe (closed f).image (final f).image (closed_layout q s k can f ∙ sym (kind_stays q s k can f listed)) (λ space on. ends_on q s k can f space listed on) p space a plain
      (both_same f p (shown f p space a listed plain c)) c

  -- ---- the windows above

  part_prefetch : (f : Function) (p : Part) → is_window p ≡ false → class_in q s f p ≡ PrefetchWindow → is_prefetchable_part f p ≡ true
  part_prefetch f (Bar n) plain e = prefetch_of_class q s f n e
  part_prefetch f Rom plain e = absurd (both_ways true (sym (ap (same_class PrefetchWindow) e)) refl)
  part_prefetch f (Window kind) plain e = absurd (both_ways true plain refl)

  module _ (f : Function) (p : Part) (space : Space) (a : ℕ) (listed : Contains s f) (plain : is_window p ≡ false) (claim : Claims (closed_function q s k f) p space a) where
    abbrev class : WindowKind
    class = class_in q s f p

    left : is_left_on q s k space f ≡ true
    left = sym (on_is q s k can f space listed) ∙ claim_on (closed f) p space a claim

    before : Claims f p space a
    before = claim_before f p space a listed plain claim

    after : Claims (final f) p space a
    after = claim_after f p space a listed plain claim

    -- a bridge above is left on too
    up : (d : Function) → Contains (bridges_above s f.slot.bus) d → is_left_on q s k space d ≡ true
    up d above = stays_on q s k can.system can.nested f listed d p space a plain before left above

    up_enabled : (d : Function) → Contains (bridges_above s f.slot.bus) d → is_enabled_in q s k (space_of f p) d ≡ true
    up_enabled d above = ap (λ sp. is_enabled_in q s k sp d) before.maps ∙ left_is_enabled q s k d space (up d above)

    part : (has_part f p ≡ true) × (is_part q s f p ≡ true)
    part = claimed_part q s k can f p space a listed plain after

    rest : Rests q s k (record { function = f; part = p })
    rest =
        let on = subst (λ sp. is_space_on (closed f) sp ≡ true) (sym before.maps) (claim_on (closed f) p space a claim) in
        resting q s k (record { function = f; part = p }) (rests q s k f p (header_of f p part.0) part.1 plain (left_of q s k can f (space_of f p) listed on))

    module _ (b : Function) (above : Contains (bridges_above s f.slot.bus) b) where
      in_b : Contains s b
      in_b = (above_to s f.slot.bus b above).listed

      bridge_b : is_bridge b ≡ true
      bridge_b = (above_to s f.slot.bus b above).bridge

      -- a window of its class above a part that stays, does so too; else it doesn't change: so it isn't closed meanwhile
      kept_by : Rests q s k (record { function = f; part = p }) → is_replaced q s k b class ≡ false
      kept_by (Stays keeps) = staying_unreplaced q s k b class (above_stays q s k can f p listed (header_of f p part.0) keeps b above)
      kept_by (Unchanged itself still) = false_from_ne_true (is_replaced q s k b class) (λ h.
          both_ways (changes_window q s k class b) (none_passes (changes_window q s k class) (bridges_above s f.slot.bus) still b above)
          (and_parts (is_bridge b && not (k.stays (window_part class b))) (changes_window q s k class b) h).1)

      window : IsKeptWindow b (closed b) (final b) class
      window = kept_window q s k can b class in_b bridge_b (kept_by rest)

      -- the settled window holds the address
      held_then : holds class (final b).image b.probe a ≡ true
      held_then =
          let range = (place_of_claim (final f) p space a (new_decodable q s k can f listed) after).range in
          let passed = passed_above q s k can (suc f.slot.bus) f p a (omega arith) listed (claimed q s k can f p space a listed after) range up_enabled b above in
          (and_parts (is_space_on (final b) (window_space class)) (holds class (final b).image b.probe a) passed).1

      shown_holds : (g : Function) → bounds_at class g.image ≡ bounds_at class b.image → holds class g.image b.probe a ≡ true → holds class b.image b.probe a ≡ true
      shown_holds g same held =
          let page = a / page_size class in
          sym (ap (λ (v : Bounds). has_window class b.probe && nat_le (v.base_upper * lower_pages class + v.base / 16) page && nat_le page (v.limit_upper * lower_pages class + v.limit / 16)) same)
          ∙ held

      -- without wishes it is held, too
      held_unwished : changes_at q s (unwished k) b (Window class) ≡ false → holds class b.image b.probe a ≡ true
      held_unwished same =
          let u = unwished k in
          let can_u = can_unwished q s k can in
          let g = settled_function q s u b in
          let own = claimed q s k can f p space a listed after in
          let ends = place_same q s k no_wish (record { function = f; part = p }) ∙ sym (plain_end q s k can f p listed own.there plain) ∙ own.ends in
          let here = has_end q s u can_u f p listed own.there own.at ends in
          let range = (place_of_claim (final f) p space a (new_decodable q s k can f listed) after).range in
          let passed = passed_above q s u can_u (suc f.slot.bus) f p a (omega arith) listed here (subst (λ r. InRange r a) (own.shown ∙ sym (part_shown q s u can_u f p listed own.there own.at ends)) range)
          (λ d up. enabled_same q s k no_wish (space_of f p) d ∙ up_enabled d up) b above in
          shown_holds g (window_same b g class (was q s k can b in_b).image (new_image q s u can_u b in_b) (unchanged q s u b (Window class) same))
          (and_parts (is_space_on g (window_space class)) (holds class g.image b.probe a) passed).1

      -- and so does this one, which it was in
      held_by_rest : (r : Rests q s k (record { function = f; part = p })) → holds class b.image b.probe a ≡ true
      held_by_rest (Stays keeps) =
          let own = (place_of_claim f p space a (decodable q s k can f listed) before).range in
          let over = standing_above q s can.system can.nested (record { function = f; part = p }) (stays_listed q s k can f p listed (header_of f p part.0) keeps) (stays_stands q s k can (record { function = f; part = p }) keeps) b above in
          let inside = within_gives (addresses (record { function = f; part = p })) (addresses (window_part class b)) over.within in
          let first = inside.first in
          let last = inside.last in
          let from = own.0 in
          let to = own.1 in
          (window_holds_its_pages class b.image b.probe a over.there).1 (omega (arith, first, from), omega (arith, last, to))
      held_by_rest (Unchanged itself still) = elim (cases_Bool (changes_at q s k b (Window class))) [
        | inr same ↦ shown_holds (final b) (window_same b (final b) class (was q s k can b in_b).image (new_image q s k can b in_b) (unchanged q s k b (Window class) same)) held_then
        | inl changes ↦ held_unwished (for_wishes q s k class b (none_passes (changes_window q s k class) (bridges_above s f.slot.bus) still b above) changes).1
      ]

      held_by : IsHeldBy b (closed b) (final b) (is_prefetchable_part f p) space a
      held_by = record {
        class = class;
        at = space_of_class q s f p ∙ before.maps;
        may = part_prefetch f p plain;
        kept = window;
        held = held_by_rest rest;
        on = on_is q s k can b space in_b ∙ up b above;
      }

  pub held : (f b : Function) (p : Part) (space : Space) (a : ℕ) → Contains s f → is_window p ≡ false → Claims (closed_function q s k f) p space a → Contains (bridges_above s f.slot.bus) b
      → IsHeldBy b (closed_function q s k b) (settled_function q s k b) (is_prefetchable_part f p) space a
  held f b p space a listed plain claim above = held_by f p space a listed plain claim b above
