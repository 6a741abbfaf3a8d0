-- What is settled already is neither shut nor written.
use Rattle.std.proofs.Common.{◌≡◌, ℕ, zero, suc, ◌<◌, inl, inr, [], ◌∷◌, ◌++◌, refl, Bool, true, false, ◌&&◌, ◌||◌, not, arith, sym, ◌∙◌, ap, subst}
use Rattle.std.specs.Bool.{◌==◌}
use Rattle.std.specs.List.{Contains, list_all, list_any, flat_map}
use Rattle.std.proofs.lemmas.Bool.{and_parts, and_from, and_right, or_from, or_left, or_right, cases_Bool, eq-eqb, not_from_true}
use Rattle.pci_spec.specs.Number.{number_at}
use Rattle.pci_spec.specs.Registers.{COMMAND}
use Rattle.pci_spec.specs.Header.{command}
use Rattle.pci_spec.specs.Window.{WindowKind}
use Rattle.pci_spec.specs.System.{System, Function, IsSystem, Space, Io, Part, Window, is_bridge, is_space_on, is_window, space_of}
use Rattle.pci_spec.specs.Bus.{secondary, IsNested}
use Rattle.pci_spec.proofs.Members.{in_head, in_tail, IsMade, in_map_to}
use Rattle.plan_spec.specs.Plan.{bridges_above}
use Rattle.plan_spec.specs.Planning.PlanWrites.{Change, register_write}
use Rattle.plan_spec.proofs.Planning.AboveBuses.{above_from, above_to, all_above, all_above_root, root_or_led}
use Rattle.plan_spec.proofs.Planning.Behind.{any_from, all_gives}
use Rattle.plan_spec.proofs.Planning.Kept.{images_of}
use Rattle.plan_spec.proofs.Planning.Safe.{order_of}
use Rattle.settle_spec.specs.Lists.{Request}
use Rattle.settle_spec.specs.Parts.{FunctionPart, parts_of, function_parts, class_in, has_left, are_same_space}
use Rattle.settle_spec.specs.Stands.{part_space, window_part}
use Rattle.settle_spec.specs.Registers.{has_own}
use Rattle.settle_spec.specs.Keeping.Registers.{settled, settled_function, got_place, is_enabled_in}
use Rattle.settle_spec.specs.LiveLaws.{is_live, has_live_behind}
use Rattle.settle_spec.specs.Writes.{differs_at, part_registers, is_cut_off_in, closing_registers, setting_registers}
use Rattle.settle_spec.specs.Keeping.Writes.{changes_at, changes_window, changes_above, moves, has_moving, is_shut_itself, is_shut, is_left_on, is_replaced, closed_function, change_to_closed, setting_of, closing_from, setting_from, opening_from, closings, settle_writes}
use Rattle.settle_spec.proofs.Live.{live_by_bus}
use Rattle.settle_spec.proofs.Nested.{at_secondary}
use Rattle.settle_laws.proofs.ClosedSame.{none_flat, no_difference}
use Rattle.settle_laws.proofs.Keeping.ChangedWindows.{no_window_changes}
use Rattle.settle_laws.proofs.Keeping.ClosedSame.{closed_same}
use Rattle.settle_laws.proofs.Keeping.Commands.{on_settled, settled_is, enabled_unleft}
use Rattle.settle_laws.proofs.Keeping.Held.{above_above}
use Rattle.settle_laws.proofs.Keeping.Shown.{settled_image_is}
use Rattle.settle_laws.proofs.Told.AgainUnleft.{unleft}
use Rattle.settle_laws.proofs.NonePasses.{none_by}
use Rattle.settle_spec.specs.Kept.{Kept}
use Rattle.settle_laws.proofs.Unchanged.{fixed_each}

module _ (q : Request) (s : System) (k : Kept) (system : IsSystem s) (nested : IsNested q.roots s) (fixed : settled q s k ≡ s) where
  same : (f : Function) → Contains s f → settled_function q s k f ≡ f
  same f listed = fixed_each (settled_function q s k) s fixed f listed

  on_as_settled : (f : Function) → Contains s f → (space : Space) → is_space_on f space ≡ is_enabled_in q s k space f
  on_as_settled f listed space =
      on_settled q s k f f (ap (λ (g : Function). command g.image) (sym (same f listed)) ∙ settled_is q s k f (images_of s system f listed) (settled_image_is q s k f (images_of s system f listed))) space

  changes_nowhere : (f : Function) → Contains s f → (p : Part) → changes_at q s k f p ≡ false
  changes_nowhere f listed p = none_by (differs_at f (settled_function q s k f)) (part_registers f p)
      (λ r has. not_from_true (number_at (settled_function q s k f).image r.0 r.1 == number_at f.image r.0 r.1)
      (eq-eqb (number_at (settled_function q s k f).image r.0 r.1) (number_at f.image r.0 r.1) (ap (λ (g : Function). number_at g.image r.0 r.1) (same f listed))))

  moves_nowhere : (f : Function) → Contains s f → (p : Part) → moves q s k record { function = f; part = p } ≡ false
  moves_nowhere f listed p =
      and_right (not (k.stays record { function = f; part = p })) (changes_at q s k f p || changes_above q s k (class_in q s f p) f.slot.bus)
      (or_from (changes_at q s k f p) (changes_above q s k (class_in q s f p) f.slot.bus) (changes_nowhere f listed p)
      (none_by (changes_window q s k (class_in q s f p)) (bridges_above s f.slot.bus)
      (λ b has. no_window_changes q s k (class_in q s f p) b (changes_nowhere b (above_to s f.slot.bus b has).listed (Window (class_in q s f p))))))

  none_moves : (space : Space) (f : Function) → Contains s f → has_moving q s k space f ≡ false
  none_moves space f listed = none_by (λ r. are_same_space space (part_space r) && not (is_window r.part) && moves q s k r) (function_parts q s f)
      (λ r has.
      let made : IsMade (λ p. record { function = f; part = p }) (parts_of q s f) r = in_map_to (λ p. record { function = f; part = p }) (parts_of q s f) r has in
      subst (λ (t : FunctionPart). (are_same_space space (part_space t) && not (is_window t.part) && moves q s k t) ≡ false) made.is
      (and_right (are_same_space space (space_of f made.from) && not (is_window made.from)) (moves q s k record { function = f; part = made.from }) (moves_nowhere f listed made.from)))

  -- ---- bridges above what is on are on

  module _ (space : Space) (f : Function) (own : has_own q s space f ≡ true) where
    abbrev on : Function → Bool
    on b = is_space_on b space

    all_on : (n : ℕ) (g : Function) → Contains s g → g.slot.bus < n → ((d : Function) → Contains (bridges_above s g.slot.bus) d → Contains (bridges_above s f.slot.bus) d)
        → is_live q s k space g ≡ true → list_all on (bridges_above s g.slot.bus) ≡ true
    all_on zero g listed less up live = absurd (let no : ⊥ = omega (arith, less) in no)
    all_on (suc n) g listed less up live = elim (root_or_led q.roots s system nested g listed) [
      | inl root ↦ all_above_root q.roots s system nested on g.slot.bus root
      | inr (b, leader) ↦
          let in_b = leader.listed in
          let leads = leader.leads in
          let above = above_from s g.slot.bus b record { listed = in_b; bridge = leader.bridge; behind = at_secondary q.roots s system nested b g.slot.bus in_b leader.bridge leads } in
          let behind : has_live_behind s (is_live q s k space) b ≡ true =
          and_from (is_bridge b) (list_any (λ x. x.slot.bus == secondary b && is_live q s k space x) s) leader.bridge
          (any_from (λ x. x.slot.bus == secondary b && is_live q s k space x) s g listed (and_from (g.slot.bus == secondary b) (is_live q s k space g) (eq-eqb g.slot.bus (secondary b) (sym leads)) live)) in
          let enabled : is_enabled_in q s k space b ≡ true =
          and_from (not (are_same_space space Io && has_left q s b)) (is_space_on b space || got_place q s k space b || has_live_behind s (is_live q s k space) b) (unleft q s system nested f b space own (up b above))
          (or_right (is_space_on b space || got_place q s k space b) (has_live_behind s (is_live q s k space) b) behind) in
          let live_b : is_live q s k space b ≡ true =
          live_by_bus q s k space system nested b in_b ∙ and_from (is_enabled_in q s k space b) (has_own q s space b || has_live_behind s (is_live q s k space) b) enabled (or_right (has_own q s space b) (has_live_behind s (is_live q s k space) b) behind) in
          let rise = order_of q.roots s nested b in_b leader.bridge in
          let rest = all_on n b in_b (omega (arith, less, leads, rise)) (λ d has. up d (above_above q s k system nested g b d above has)) live_b in
          subst (λ bus. list_all on (bridges_above s bus) ≡ true) leads
          (all_above q.roots s system nested on b in_b leader.bridge ∙ and_from (list_all on (bridges_above s b.slot.bus)) (on b) rest (on_as_settled b in_b space ∙ enabled))
    ]

  pub not_cut : (f : Function) (space : Space) → Contains s f → is_cut_off_in q s f space ≡ false
  not_cut f space listed = elim (cases_Bool (is_space_on f space && has_own q s space f)) [
    | inr idle ↦ ap (λ t. t && list_any (λ b. not (is_space_on b space)) (bridges_above s f.slot.bus)) idle
    | inl both ↦
        let parts = and_parts (is_space_on f space) (has_own q s space f) both in
        let enabled = sym (on_as_settled f listed space) ∙ parts.0 in
        let live : is_live q s k space f ≡ true =
        live_by_bus q s k space system nested f listed ∙ and_from (is_enabled_in q s k space f) (has_own q s space f || has_live_behind s (is_live q s k space) f) enabled (or_left (has_own q s space f) (has_live_behind s (is_live q s k space) f) parts.1) in
        let all = all_on space f parts.1 (suc f.slot.bus) f listed (omega arith) (λ d has. has) live in
        and_right (is_space_on f space && has_own q s space f) (list_any (λ b. not (is_space_on b space)) (bridges_above s f.slot.bus))
        (none_by (λ b. not (is_space_on b space)) (bridges_above s f.slot.bus) (λ b has. not_from_true (is_space_on b space) (all_gives (λ b. is_space_on b space) (bridges_above s f.slot.bus) b all has)))
  ]

  not_shut_itself : (space : Space) (f : Function) → Contains s f → is_shut_itself q s k space f ≡ false
  not_shut_itself space f listed = or_from (has_moving q s k space f) (is_cut_off_in q s f space) (none_moves space f listed) (not_cut f space listed)

  pub not_shut : (space : Space) (f : Function) → Contains s f → is_shut q s k space f ≡ false
  not_shut space f listed =
      or_from (is_shut_itself q s k space f) (list_any (is_shut_itself q s k space) (bridges_above s f.slot.bus)) (not_shut_itself space f listed)
      (none_by (is_shut_itself q s k space) (bridges_above s f.slot.bus) (λ b has. not_shut_itself space b (above_to s f.slot.bus b has).listed))

  -- ---- so nothing is written

  left_as_on : (f : Function) → Contains s f → (space : Space) → is_left_on q s k space f ≡ is_space_on f space
  left_as_on f listed space =
      ap (λ t. not t && (not (are_same_space space Io && has_left q s f) && is_space_on f space)) (not_shut space f listed)
      ∙ elim (cases_Bool (is_space_on f space)) [
        | inr off ↦ and_right (not (are_same_space space Io && has_left q s f)) (is_space_on f space) off ∙ sym off
        | inl there ↦ ap (λ t. t && is_space_on f space) (enabled_unleft q s k f space (sym (on_as_settled f listed space) ∙ there))
      ]

  -- so its closed state is itself
  not_replaced : (f : Function) → Contains s f → (c : WindowKind) → is_replaced q s k f c ≡ false
  not_replaced f listed c = and_right (is_bridge f && not (k.stays (window_part c f))) (changes_window q s k c f) (no_window_changes q s k c f (changes_nowhere f listed (Window c)))

  closed_is : (f : Function) → Contains s f → closed_function q s k f ≡ f
  closed_is f listed = closed_same q s k f (images_of s system f listed) (not_replaced f listed) (left_as_on f listed)

  -- between one state and the same nothing is written
  nothing_differs : (c : Change) → c.new ≡ c.old → (r : ℕ × ℕ) → register_write c r ≡ []
  nothing_differs c e r = no_difference c r (ap (λ (g : Function). number_at g.image r.0 r.1) e)

  no_closing : (t : System) → ((f : Function) → Contains t f → Contains s f) → closings q s k t ≡ []
  no_closing [] in_s = refl
  no_closing (f ∷ t) in_s =
      ap (λ ws. ws ++ closing_from q s k f) (no_closing t (λ g has. in_s g (in_tail f t g has)))
      ∙ none_flat (register_write (change_to_closed q s k f)) (closing_registers f) (λ r has. nothing_differs (change_to_closed q s k f) (closed_is f (in_s f (in_head f t))) r)

  unset : (f : Function) → Contains s f → settled_function q s k f ≡ closed_function q s k f
  unset f listed = same f listed ∙ sym (closed_is f listed)

  no_setting : (f : Function) → Contains s f → setting_from q s k f ≡ []
  no_setting f listed = none_flat (register_write (setting_of q s k f)) (setting_registers (setting_of q s k f)) (λ r has. nothing_differs (setting_of q s k f) (unset f listed) r)

  no_opening : (f : Function) → Contains s f → opening_from q s k f ≡ []
  no_opening f listed = nothing_differs (setting_of q s k f) (unset f listed) (COMMAND, 2)

  pub no_write : settle_writes q s k ≡ []
  no_write =
      ap (λ ws. ws ++ (flat_map (setting_from q s k) s ++ flat_map (opening_from q s k) s)) (no_closing s (λ f has. has))
      ∙ ap (λ ws. ws ++ flat_map (opening_from q s k) s) (none_flat (setting_from q s k) s no_setting)
      ∙ none_flat (opening_from q s k) s no_opening
