-- What a settled function claims has a new place, which lies in an open window of the bridge that leads to its bus.
use Rattle.std.proofs.Common.{◌≡◌, ◌&&◌, ℕ, ◌+◌, ◌<◌, inl, inr, true, false, not, arith, refl, sym, ◌∙◌, ap, subst, Option, None, Some}
use Rattle.std.specs.Bool.{nat_lt, ◌==◌, if◌then◌else◌}
use Rattle.std.specs.Int.{bit_at}
use Rattle.std.specs.List.{Contains}
use Rattle.std.proofs.lemmas.Bool.{and_parts, and_from, both_ways, cases_Bool, false_from_ne_true, ltb-true, not_from_false, not_from_true}
use Rattle.std.proofs.lemmas.List.Elements.{All-contains}
use Rattle.pci_spec.specs.Number.{byte_at, number_at, has_bit}
use Rattle.pci_spec.specs.Registers.{COMMAND}
use Rattle.pci_spec.specs.Header.{layout, bar_count, rom_register}
use Rattle.pci_spec.specs.Bar.{bar_at, is_io, has_bar}
use Rattle.pci_spec.specs.Rom.{has_rom, rom_is_on}
use Rattle.pci_spec.specs.Window.{WindowKind, has_window, is_closed, holds}
use Rattle.pci_spec.specs.Decoded.{Range, InRange, IsDecodable}
use Rattle.pci_spec.specs.System.{System, Function, Space, Io, Memory, Part, Bar, Rom, Window, Claims, has_part, is_bridge, is_implemented, is_space_on, is_window, space_of, window_space, window_claims}
use Rattle.pci_spec.specs.Bus.{LeadsTo}
use Rattle.pci_spec.proofs.Members.{in_map_from}
use Rattle.pci_spec.proofs.WindowLaws.{held, window_holds_its_pages, closed_window_holds_nothing}
use Rattle.plan_spec.specs.Plan.{is_open}
use Rattle.plan_spec.specs.Planning.Layout.{range_of}
use Rattle.plan_spec.proofs.PlanningLaws.{profile_decodes}
use Rattle.plan_spec.proofs.Planning.Behind.{any_from}
use Rattle.plan_spec.proofs.Planning.LaidOut.{place_of_claim}
use Rattle.plan_spec.proofs.Planning.OtherRules.{has_rom_same}
use Rattle.plan_spec.proofs.Planning.Registers.{register_bit}
use Rattle.settle_spec.specs.Lists.{Request}
use Rattle.settle_spec.specs.Parts.{FunctionPart, is_left, is_part, has_left, header_bars, class_in}
use Rattle.settle_spec.specs.Stands.{window_part}
use Rattle.settle_spec.specs.Items.{Placed, taken_by}
use Rattle.settle_spec.specs.Keeping.Places.{new_place}
use Rattle.settle_spec.specs.Keeping.Registers.{settled, settled_image, settled_function, settled_command, is_enabled_in}
use Rattle.settle_spec.specs.Wishes.{place_then}
use Rattle.settle_laws.specs.PlacesLaws.{place_range}
use Rattle.settle_laws.specs.Keeping.PlacesLaws.{CanSettle, end_range}
use Rattle.settle_laws.proofs.Keeping.Commands.{on_settled, enabled_unleft}
use Rattle.settle_laws.proofs.Keeping.Fits.{was, decodable, window_there, window_has}
use Rattle.settle_laws.proofs.HeaderParts.{header_of, rom_at_end}
use Rattle.settle_laws.proofs.Keeping.Held.{bar_listed}
use Rattle.settle_laws.proofs.Keeping.Ends.{unwished_end, wished_end, plain_end, no_plain_wish, ends_nowhere, in_window}
use Rattle.settle_laws.proofs.Keeping.InWindows.{kept_range, placed_range, place_of_range}
use Rattle.settle_laws.proofs.Keeping.Moves.{moves, new_profile}
use Rattle.settle_laws.proofs.Numbers.{with_elsewhere}
use Rattle.settle_laws.proofs.PartClasses.{space_of_class}
use Rattle.settle_laws.proofs.Keeping.PartPlaces.{part_placed}
use Rattle.settle_laws.proofs.Keeping.SettledMoved.{new_image, new_command, kind_stays}
use Rattle.settle_laws.proofs.Keeping.Shown.{rom_stays_switched}
use Rattle.settle_laws.proofs.Keeping.ShownKept.{range_stays, open_stays}
use Rattle.settle_laws.proofs.Keeping.ShownParts.{own_placed, bar_shown, rom_shown, window_shown, window_opened, wished_shown, wished_open, window_closed}
use Rattle.settle_spec.specs.Kept.{Kept}

module _ (q : Request) (s : System) (k : Kept) (can : CanSettle q s k) where
  -- what Command enables once it is settled
  pub on_now : (f : Function) → Contains s f → (space : Space) → is_space_on (settled_function q s k f) space ≡ is_enabled_in q s k space f
  on_now f listed space = on_settled q s k f (settled_function q s k f) (new_command q s k can f listed) space

  pub bridge_stays : (f : Function) → Contains s f → is_bridge (settled_function q s k f) ≡ is_bridge f
  bridge_stays f listed = ap (λ k. k == 1) (kind_stays q s k can f listed)

  pub new_decodable : (f : Function) → Contains s f → IsDecodable (settled_function q s k f)
  new_decodable f listed = All-contains IsDecodable (settled q s k) (settled_function q s k f) (profile_decodes q.roots (settled q s k) (new_profile q s k can)) (in_map_from (settled_function q s k) s f listed)

  -- ---- where parts end, they are shown

  -- every part that ends somewhere shows it
  pub part_shown : (f : Function) (p : Part) → Contains s f → has_part f p ≡ true → (t : Range) → end_range q s k record { function = f; part = p } ≡ Some t → range_of (settled_function q s k f) p ≡ t
  part_shown f p listed there t ends = by_wish (k.wished r) refl
    where
      r : FunctionPart
      r = record { function = f; part = p }

      by : (p : Part) → has_part f p ≡ true → (x : Placed) → k.wished record { function = f; part = p } ≡ None → new_place q s k record { function = f; part = p } ≡ Some x → range_of (settled_function q s k f) p ≡ taken_by x.item x.at
      by (Bar n) there x unwished placed =
          let part = own_placed q s k can f listed (Bar n) refl there x placed in
          bar_shown q s k can f listed n (ltb-true n (bar_count (layout f.image)) there) (and_parts (has_bar f.probe n) (not (is_left q s f (Bar n))) part).0 x placed
      by Rom there x unwished placed = rom_shown q s k can f listed (and_parts (has_rom f.image f.probe) (rom_is_on f.image) (own_placed q s k can f listed Rom refl there x placed)).0 x placed
      by (Window kind) there x unwished placed = window_shown q s k can f listed kind there unwished x placed

      by_place : k.wished r ≡ None → place_then q s k r ≡ Some t → range_of (settled_function q s k f) p ≡ t
      by_place unwished placed = elim (cases_Bool (k.stays r)) [
        | inl keeps ↦ range_stays q s k can f listed p unwished there keeps ∙ (let is : Some (k.range r) ≡ Some t = sym (kept_range q s k r keeps) ∙ placed in cc)
        | inr moves ↦
            let x = place_of_range q s k (new_place q s k r) t (sym (placed_range q s k r moves) ∙ placed) in
            by p there x.0 unwished x.1 ∙ x.2
      ]

      by_room : (p : Part) → has_part f p ≡ true → (w : Range) → k.wished record { function = f; part = p } ≡ Some w → range_of (settled_function q s k f) p ≡ w
      by_room (Bar n) there w wished = absurd (no_plain_wish q s k can f (Bar n) listed there refl w wished)
      by_room Rom there w wished = absurd (no_plain_wish q s k can f Rom listed there refl w wished)
      by_room (Window kind) there w wished = wished_shown q s k can f listed kind there w wished

      by_wish : (o : Option Range) → k.wished r ≡ o → range_of (settled_function q s k f) p ≡ t
      by_wish None unwished = by_place unwished (sym (unwished_end q s k r unwished) ∙ ends)
      by_wish (Some w) wished = by_room p there w wished ∙ (let is : Some w ≡ Some t = sym (wished_end q s k r w wished) ∙ ends in cc)

  opened_by : (b : Function) (kind : WindowKind) → Contains s b → is_bridge b ≡ true → has_window kind b.probe ≡ true → is_closed kind (settled_function q s k b).image ≡ false → is_open (settled_function q s k b) kind ≡ true
  opened_by b kind listed bridge there opens =
      let g = settled_function q s k b in
      and_from (is_bridge g && has_window kind b.probe) (not (is_closed kind g.image))
      (and_from (is_bridge g) (has_window kind b.probe) (bridge_stays b listed ∙ bridge) there) (not_from_false (is_closed kind g.image) opens)

  placed_opens : (b : Function) (kind : WindowKind) → Contains s b → is_bridge b ≡ true → k.wished (window_part kind b) ≡ None → (x : Placed) → new_place q s k (window_part kind b) ≡ Some x → is_open (settled_function q s k b) kind ≡ true
  placed_opens b kind listed bridge unwished x placed =
      opened_by b kind listed bridge (window_there q s k can kind b listed bridge (window_has q s k can b kind listed bridge x placed)) (window_opened q s k can b listed kind bridge unwished x placed)

  -- a window that does is open
  pub ends_open : (b : Function) (kind : WindowKind) → Contains s b → is_bridge b ≡ true → (t : Range) → end_range q s k (window_part kind b) ≡ Some t → is_open (settled_function q s k b) kind ≡ true
  ends_open b kind listed bridge t ends = by_wish (k.wished r) refl
    where
      r : FunctionPart
      r = window_part kind b

      by_place : k.wished r ≡ None → is_open (settled_function q s k b) kind ≡ true
      by_place unwished = elim (cases_Bool (k.stays r)) [
        | inl keeps ↦ open_stays q s k can b listed kind unwished bridge keeps
        | inr moves ↦
            let x = place_of_range q s k (new_place q s k r) t (sym (placed_range q s k r moves) ∙ sym (unwished_end q s k r unwished) ∙ ends) in
            placed_opens b kind listed bridge unwished x.0 x.1
      ]

      by_wish : (o : Option Range) → k.wished r ≡ o → is_open (settled_function q s k b) kind ≡ true
      by_wish None unwished = by_place unwished
      by_wish (Some w) wished = opened_by b kind listed bridge (can.sound.wished.windows kind b w listed bridge wished).there (wished_open q s k can b listed kind bridge w wished)

  -- and any other is closed
  pub rest_closed : (b : Function) (kind : WindowKind) → Contains s b → end_range q s k (window_part kind b) ≡ None → is_open (settled_function q s k b) kind ≡ false
  rest_closed b kind listed none =
      let g = settled_function q s k b in
      let without = ends_nowhere q s k (window_part kind b) none in
      false_from_ne_true (is_open g kind) (λ opened.
      let parts = and_parts (is_bridge g && has_window kind b.probe) (not (is_closed kind g.image)) opened in
      let there = and_parts (is_bridge g) (has_window kind b.probe) parts.0 in
      both_ways (not (is_closed kind g.image)) (not_from_true (is_closed kind g.image) (window_closed q s k can b listed kind (sym (bridge_stays b listed) ∙ there.0) without.unwished there.1 without.moves without.none)) parts.1)

  -- ---- what is claimed ends somewhere

  pub record HasEnd (f : Function) (p : Part) : Type 0 where
    pub there : has_part f p ≡ true
    pub at : Range
    pub ends : end_range q s k record { function = f; part = p } ≡ Some at
    pub shown : range_of (settled_function q s k f) p ≡ at

  pub has_end : (f : Function) (p : Part) → Contains s f → has_part f p ≡ true → (t : Range) → end_range q s k record { function = f; part = p } ≡ Some t → HasEnd f p
  has_end f p listed there t ends = record { there = there; at = t; ends = ends; shown = part_shown f p listed there t ends }

  -- a window that holds an address
  window_by : (f : Function) (listed : Contains s f) (kind : WindowKind) (a : ℕ) (bridge : is_bridge f ≡ true) (there : has_window kind f.probe ≡ true) → holds kind (settled_function q s k f).image f.probe a ≡ true
      → (o : Option Range) → end_range q s k (window_part kind f) ≡ o → HasEnd f (Window kind)
  window_by f listed kind a bridge there h None e =
      let without = ends_nowhere q s k (window_part kind f) e in
      absurd (both_ways (holds kind (settled_function q s k f).image f.probe a) (closed_window_holds_nothing kind (settled_function q s k f).image f.probe a (window_closed q s k can f listed kind bridge without.unwished there without.moves without.none)) h)
  window_by f listed kind a bridge there h (Some t) e = has_end f (Window kind) listed bridge t e

  pub window_end : (f : Function) (listed : Contains s f) (kind : WindowKind) (a : ℕ) → is_bridge f ≡ true → holds kind (settled_function q s k f).image f.probe a ≡ true → HasEnd f (Window kind)
  window_end f listed kind a bridge h =
      window_by f listed kind a bridge (held kind (settled_function q s k f).image f.probe a h).there h (end_range q s k (window_part kind f)) refl

  -- an I/O BAR that is left is off
  pub unleft_bar : (f : Function) (listed : Contains s f) (n : ℕ) → n < bar_count (layout f.image) → has_bar f.probe n ≡ true → is_space_on (settled_function q s k f) (space_of f (Bar n)) ≡ true → is_left q s f (Bar n) ≡ false
  unleft_bar f listed n inside there on = elim (cases_Bool (is_left q s f (Bar n))) [
    | inr fine ↦ fine
    | inl left ↦
        let io : is_io (bar_at f.probe n) ≡ true = (and_parts (is_io (bar_at f.probe n)) _ left).0 in
        let space : space_of f (Bar n) ≡ Io = ap (λ t. if t then Io else Memory) io in
        let enabled = sym (on_now f listed Io) ∙ subst (λ sp. is_space_on (settled_function q s k f) sp ≡ true) space on in
        let has : has_left q s f ≡ true =
        any_from (λ p. is_implemented f p && is_left q s f p) (header_bars f) (Bar n) (bar_listed q s k can.system can.nested f listed n inside) (and_from (has_bar f.probe n) (is_left q s f (Bar n)) there left) in
        absurd (both_ways (not (true && has_left q s f)) (not_from_true (has_left q s f) has) (enabled_unleft q s k f Io enabled))
  ]

  pub rom_switch : (f : Function) → Contains s f → rom_is_on (settled_function q s k f).image ≡ rom_is_on f.image
  rom_switch f listed =
      let g = settled_function q s k f in
      let rom = rom_register (layout f.image) in
      let none : rom + 0 ≡ rom = omega arith in
      ap (λ k. has_bit (number_at g.image (rom_register k) 4) 0) (kind_stays q s k can f listed)
      ∙ ap (λ b. b == 1) (register_bit g.image rom (new_image q s k can f listed) 4 0 0 (omega arith) (omega arith)
      ∙ ap (λ o. bit_at (byte_at g.image o) 0) none
      ∙ ap (λ b. bit_at b 0) (with_elsewhere 2 COMMAND (settled_command q s k f) rom (settled_image q s k f) (elim (rom_at_end f) [ inl a ↦ inr (omega (arith, a)) | inr a ↦ inr (omega (arith, a)) ]))
      ∙ rom_stays_switched q s k f can listed (was q s k can f listed).image (decodable q s k can f listed)
      ∙ sym (ap (λ o. bit_at (byte_at f.image o) 0) none)
      ∙ sym (register_bit f.image rom (was q s k can f listed).image 4 0 0 (omega arith) (omega arith)))

  -- a BAR or ROM that is claimed is looked at
  pub claimed_part : (f : Function) (p : Part) (space : Space) (a : ℕ) → Contains s f → is_window p ≡ false → Claims (settled_function q s k f) p space a → (has_part f p ≡ true) × (is_part q s f p ≡ true)
  claimed_part f (Bar n) space a listed plain claim =
      let g = settled_function q s k f in
      let item = (place_of_claim g (Bar n) space a (new_decodable f listed) claim).item in
      let parts = and_parts (nat_lt n (bar_count (layout g.image))) (has_bar f.probe n) item in
      let there : nat_lt n (bar_count (layout f.image)) ≡ true = ap (λ k. nat_lt n (bar_count k)) (sym (kind_stays q s k can f listed)) ∙ parts.0 in
      let inside = ltb-true n (bar_count (layout f.image)) there in
      (there, and_from (has_bar f.probe n) (not (is_left q s f (Bar n))) parts.1 (not_from_false (is_left q s f (Bar n)) (unleft_bar f listed n inside parts.1 claim.enabled)))
  claimed_part f Rom space a listed plain claim =
      let g = settled_function q s k f in
      let item = (place_of_claim g Rom space a (new_decodable f listed) claim).item in
      let there : has_rom f.image f.probe ≡ true = sym (has_rom_same f g (moves q s k can f listed) (was q s k can f listed).image) ∙ item in
      let on : rom_is_on f.image ≡ true = sym (rom_switch f listed) ∙ (and_parts (is_space_on g Memory) (rom_is_on g.image) claim.enabled).1 in
      (refl, and_from (has_rom f.image f.probe) (rom_is_on f.image) there on)
  claimed_part f (Window kind) space a listed plain claim = absurd (both_ways true plain refl)

  -- one that is looked at ends somewhere
  pub part_end : (f : Function) (p : Part) → Contains s f → has_part f p ≡ true → is_part q s f p ≡ true → is_window p ≡ false → HasEnd f p
  part_end f p listed there part plain = elim (cases_Bool (k.stays record { function = f; part = p })) [
    | inl keeps ↦ has_end f p listed there (k.range record { function = f; part = p }) (plain_end q s k can f p listed there plain ∙ kept_range q s k record { function = f; part = p } keeps)
    | inr moves ↦
        let x = part_placed q s k can f p listed (header_of f p there) part plain moves in
        has_end f p listed there (taken_by x.0.item x.0.at) (plain_end q s k can f p listed there plain ∙ placed_range q s k record { function = f; part = p } moves ∙ ap place_range x.1)
  ]

  pub claimed : (f : Function) (p : Part) (space : Space) (a : ℕ) → Contains s f → Claims (settled_function q s k f) p space a → HasEnd f p
  claimed f (Bar n) space a listed claim = let is = claimed_part f (Bar n) space a listed refl claim in part_end f (Bar n) listed is.0 is.1 refl
  claimed f Rom space a listed claim = let is = claimed_part f Rom space a listed refl claim in part_end f Rom listed is.0 is.1 refl
  claimed f (Window kind) space a listed claim = window_end f listed kind a (sym (bridge_stays f listed) ∙ claim.there) claim.decodes

  -- ---- the window above

  -- the bridge that leads to its bus passes what ends there, where it is enabled
  pub passed_over : (f b : Function) (p : Part) (a : ℕ) → Contains s f → (h : HasEnd f p) → InRange (range_of (settled_function q s k f) p) a → LeadsTo s b f.slot.bus → is_enabled_in q s k (space_of f p) b ≡ true
      → window_claims (settled_function q s k b) (class_in q s f p) a ≡ true
  passed_over f b p a listed h in_range leads enabled =
      let c = class_in q s f p in
      let of_space : window_space c ≡ space_of f p = space_of_class q s f p in
      let over = in_window q s k can f b p listed h.there leads h.at h.ends in
      let here : InRange h.at a = subst (λ r. InRange r a) h.shown in_range in
      let low = here.0 in
      let high = here.1 in
      let from = over.inside.0 in
      let end = over.inside.1 in
      let there : InRange over.w a = (omega (arith, from, low), omega (arith, end, high)) in
      let bridge = leads.1 in
      let g = settled_function q s k b in
      let opened = and_parts (is_bridge g && has_window c b.probe) (not (is_closed c g.image)) (ends_open b c leads.0 bridge over.w over.ends) in
      and_from (is_space_on g (window_space c)) (holds c g.image b.probe a)
      (ap (is_space_on g) of_space ∙ on_now b leads.0 (space_of f p) ∙ enabled)
      ((window_holds_its_pages c g.image b.probe a (and_parts (is_bridge g) (has_window c b.probe) opened.0).1).1 (subst (λ r. InRange r a) (sym (part_shown b (Window c) leads.0 bridge over.w over.ends)) there))
