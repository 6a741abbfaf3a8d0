-- Settled again, each function keeps the spaces that it has enabled, where nothing gets a place and what answers has answered before.
use Rattle.std.proofs.Common.{◌≡◌, ◌&&◌, ◌||◌, ℕ, zero, suc, ◌+◌, ◌≤◌, inl, inr, Bool, true, false, not, arith, sym, ◌∙◌, ap}
use Rattle.std.specs.Bool.{◌==◌}
use Rattle.std.specs.List.{Contains, list_any}
use Rattle.std.proofs.lemmas.Bool.{and_from, and_parts, both_ways, cases_Bool, eq-eqb, eqb-true, false_from_ne_true, or_cases, or_left, or_right}
use Rattle.pci_spec.specs.System.{System, Function, Space, Io, is_bridge, is_space_on}
use Rattle.pci_spec.specs.Bus.{secondary}
use Rattle.pci_spec.proofs.Members.{IsMade, in_map_from, in_map_to}
use Rattle.plan_spec.proofs.Planning.Behind.{Passes, any_from, any_gives}
use Rattle.plan_spec.proofs.Planning.Safe.{order_of, slots_of}
use Rattle.settle_spec.specs.Lists.{Request}
use Rattle.settle_spec.specs.Parts.{has_left, are_same_space}
use Rattle.settle_spec.specs.LiveLaws.{is_live, has_live_behind}
use Rattle.settle_spec.specs.Registers.{has_own}
use Rattle.settle_spec.specs.Kept.{Kept}
use Rattle.settle_spec.specs.Keeping.Registers.{got_place, is_enabled_in, settled, settled_function}
use Rattle.settle_spec.proofs.Live.{live_by_bus}
use Rattle.settle_laws.specs.Keeping.PlacesLaws.{CanSettle}
use Rattle.settle_laws.proofs.Keeping.Again.{settled_alike}
use Rattle.settle_laws.proofs.Keeping.AgainCommand.{left_again}
use Rattle.settle_laws.proofs.Keeping.Claimed.{bridge_stays, on_now}
use Rattle.settle_laws.proofs.Keeping.Moves.{new_nested, new_system}

module _ (q : Request) (s : System) (k : Kept) (can : CanSettle q s k) (j : Kept)
    (none : (space : Space) (f : Function) → got_place q (settled q s k) j space f ≡ false)
    (own : (space : Space) (f : Function) → Contains s f → is_space_on (settled_function q s k f) space ≡ true → has_own q (settled q s k) space (settled_function q s k f) ≡ true → has_own q s space f ≡ true) where
  abbrev now : Function → Function
  now f = settled_function q s k f

  abbrev t : System
  t = settled q s k

  -- it is enabled again where it is on, and lives only where it lived
  record IsToldBy (space : Space) (f : Function) : Type 0 where
    on : is_enabled_in q t j space (now f) ≡ is_space_on (now f) space
    live : is_live q t j space (now f) ≡ true → is_live q s k space f ≡ true

  told_by : (space : Space) (f : Function) → Contains s f → ((g : Function) → Contains s g → g.slot.bus ≡ secondary f → is_bridge f ≡ true → IsToldBy space g) → IsToldBy space f
  told_by space f listed lower = record { on = on_is; live = live_before }
    where
      here : Bool
      here = has_live_behind s (is_live q s k space) f

      again : Bool
      again = has_live_behind t (is_live q t j space) (now f)

      behind_before : again ≡ true → here ≡ true
      behind_before is =
          let test = λ (g : Function). g.slot.bus == secondary (now f) && is_live q t j space g in
          let parts = and_parts (is_bridge (now f)) (list_any test t) is in
          let bridge = sym (bridge_stays q s k can f listed) ∙ parts.0 in
          let found : Passes test t = any_gives test t parts.1 in
          let made : IsMade now s found.x = in_map_to now s found.x found.listed in
          let g = made.from in
          let two = and_parts (g.slot.bus == secondary (now f)) (is_live q t j space (now g)) (ap test made.is ∙ found.is) in
          let at : g.slot.bus ≡ secondary f = eqb-true g.slot.bus (secondary (now f)) two.0 ∙ sym ((settled_alike q s k can f listed).secondary bridge) in
          and_from (is_bridge f) (list_any (λ g. g.slot.bus == secondary f && is_live q s k space g) s) bridge
          (any_from (λ g. g.slot.bus == secondary f && is_live q s k space g) s g made.has
          (and_from (g.slot.bus == secondary f) (is_live q s k space g) (eq-eqb g.slot.bus (secondary f) at) ((lower g made.has at bridge).live two.1)))

      left : Bool
      left = are_same_space space Io && has_left q s f

      left_is : left ≡ (are_same_space space Io && has_left q t (now f))
      left_is = ap (λ b. are_same_space space Io && b) (left_again q s k can f listed)

      was : is_space_on (now f) space ≡ is_enabled_in q s k space f
      was = on_now q s k can f listed space

      on_is : is_enabled_in q t j space (now f) ≡ is_space_on (now f) space
      on_is =
          (let same = sym left_is in let got = none space (now f) in λ i. not (same i) && (is_space_on (now f) space || got i || again))
          ∙ elim (cases_Bool left) [
            | inl is ↦
                ap (λ b. not b && (is_space_on (now f) space || false || again)) is
                ∙ sym (was ∙ ap (λ b. not b && (is_space_on f space || got_place q s k space f || here)) is)
            | inr fine ↦
                ap (λ b. not b && (is_space_on (now f) space || false || again)) fine
                ∙ elim (cases_Bool (is_space_on (now f) space)) [
                  | inl on ↦ ap (λ b. b || false || again) on ∙ sym on
                  | inr dark ↦
                      ap (λ b. b || false || again) dark
                      ∙ false_from_ne_true again (λ has. both_ways (is_space_on (now f) space) dark
                      (was ∙ and_from (not left) (is_space_on f space || got_place q s k space f || here) (ap not fine) (or_right (is_space_on f space || got_place q s k space f) here (behind_before has))))
                      ∙ sym dark
                ]
          ]

      live_before : is_live q t j space (now f) ≡ true → is_live q s k space f ≡ true
      live_before live =
          let parts = and_parts (is_enabled_in q t j space (now f)) (has_own q t space (now f) || again) (sym (live_by_bus q t j space (new_system q s k can) (new_nested q s k can) (now f) (in_map_from now s f listed)) ∙ live) in
          let on = sym on_is ∙ parts.0 in
          live_by_bus q s k space can.system can.nested f listed
          ∙ and_from (is_enabled_in q s k space f) (has_own q s space f || here) (sym was ∙ on)
          (elim (or_cases (has_own q t space (now f)) again parts.1) [
            | inl answers ↦ or_left (has_own q s space f) here (own space f listed on answers)
            | inr has ↦ or_right (has_own q s space f) here (behind_before has)
          ])

  told_within : (n : ℕ) (space : Space) (f : Function) → Contains s f → 256 ≤ f.slot.bus + n → IsToldBy space f
  told_within zero space f listed far = absurd (let low = (slots_of s can.system f listed).0 in let no : ⊥ = omega (arith, low, far) in no)
  told_within (suc n) space f listed far =
      told_by space f listed (λ g in_g at bridge. let up = order_of q.roots s can.nested f listed bridge in told_within n space g in_g (omega (arith, far, at, up)))

  -- The law: what is enabled is so again, and nothing else.
  pub enabled_again : (space : Space) (f : Function) → Contains s f → is_enabled_in q t j space (now f) ≡ is_space_on (now f) space
  enabled_again space f listed = (told_within 256 space f listed (omega arith)).on

  pub live_again : (space : Space) (f : Function) → Contains s f → is_live q t j space (now f) ≡ true → is_live q s k space f ≡ true
  live_again space f listed = (told_within 256 space f listed (omega arith)).live
