-- A system is settled already where registers are as they are to be, what gets a place is enabled, and nothing is cut off.
use Rattle.std.proofs.Common.{◌≡◌, ◌&&◌, ◌||◌, ℕ, zero, suc, ◌+◌, ◌≤◌, inl, inr, [], ◌∷◌, map, Bool, true, false, not, arith, refl, sym, ◌∙◌, ap, subst}
use Rattle.std.specs.Bool.{◌==◌}
use Rattle.std.specs.List.{Contains, list_any}
use Rattle.std.proofs.lemmas.Bool.{and_from, and_parts, both_ways, cases_Bool, eqb-true, false_from_ne_true, not_from_false, or_cases}
use Rattle.pci_spec.specs.Registers.{COMMAND}
use Rattle.pci_spec.specs.Header.{command}
use Rattle.pci_spec.specs.System.{System, Function, IsSystem, Space, Io, Memory, is_bridge, is_space_on}
use Rattle.pci_spec.specs.Bus.{secondary, is_behind, IsNested}
use Rattle.pci_spec.proofs.Members.{in_head, in_tail}
use Rattle.plan_spec.specs.Plan.{bridges_above}
use Rattle.plan_spec.proofs.Planning.AboveBuses.{above_from}
use Rattle.plan_spec.proofs.Planning.Behind.{Passes, any_from, any_gives}
use Rattle.plan_spec.proofs.Planning.CommandFits.{command_by}
use Rattle.plan_spec.proofs.Planning.Kept.{images_of}
use Rattle.plan_spec.proofs.Planning.Safe.{slots_of, order_of}
use Rattle.settle_spec.specs.Lists.{Request}
use Rattle.settle_spec.specs.Parts.{has_left, are_same_space}
use Rattle.settle_spec.specs.LiveLaws.{is_live, has_live_behind}
use Rattle.settle_spec.specs.Kept.{Kept}
use Rattle.settle_spec.specs.Registers.{has_own}
use Rattle.judge_spec.specs.Windows.{with_number}
use Rattle.settle_spec.specs.Keeping.Registers.{got_place, is_enabled_in, settled, settled_image, settled_command, settled_function}
use Rattle.settle_spec.specs.Writes.{is_cut_off_in}
use Rattle.settle_spec.proofs.Live.{live_by_bus}
use Rattle.settle_spec.proofs.Nested.{at_secondary, behind_outer}
use Rattle.settle_laws.proofs.Commands.{as_it_is}
use Rattle.settle_laws.proofs.Kept.{one_space}
use Rattle.settle_laws.proofs.Reput.{put_two}

-- ---- functions as they are to be

-- A system is settled where registers are as they are to be, and each function is enabled where it is on.
module _ (q : Request) (s : System) (k : Kept) (system : IsSystem s) (enabled : (space : Space) (f : Function) → Contains s f → is_enabled_in q s k space f ≡ is_space_on f space)
    (images : (f : Function) → Contains s f → settled_image q s k f ≡ f.image) where
  command_stays : (f : Function) → Contains s f → settled_command q s k f ≡ command f.image
  command_stays f listed =
      let io = enabled Io f listed in
      let memory = enabled Memory f listed in
      (λ i. command_by (command f.image) (io i) (memory i)) ∙ sym (as_it_is (command f.image))

  function_stays : (f : Function) → Contains s f → settled_function q s k f ≡ f
  function_stays f listed =
      let number = command_stays f listed in
      let kept = images f listed in
      let image : with_number 2 COMMAND (settled_command q s k f) (settled_image q s k f) ≡ f.image =
      (λ i. with_number 2 COMMAND (number i) (kept i)) ∙ put_two f.image (images_of s system f listed) COMMAND in
      λ i. record { slot = f.slot; image = image i; probe = f.probe }

  each_stays : (u : System) → ((f : Function) → Contains u f → Contains s f) → map (settled_function q s k) u ≡ u
  each_stays [] in_s = refl
  each_stays (f ∷ u) in_s =
      let first = function_stays f (in_s f (in_head f u)) in
      let rest = each_stays u (λ g has. in_s g (in_tail f u g has)) in
      λ i. first i ∷ rest i

  pub settled_as_enabled : settled q s k ≡ s
  settled_as_enabled = each_stays s (λ f has. has)

-- ---- nothing is cut off

module _ (q : Request) (s : System) (k : Kept) (system : IsSystem s) (nested : IsNested q.roots s) (off : (f : Function) → Contains s f → has_left q s f ≡ true → is_space_on f Io ≡ false)
    (uncut : (f : Function) (space : Space) → Contains s f → is_cut_off_in q s f space ≡ false)
    (got : (space : Space) (f : Function) → Contains s f → not (are_same_space space Io && has_left q s f) ≡ true → got_place q s k space f ≡ true → is_space_on f space ≡ true) where
  -- a function behind a bus that is on and has something to answer
  record HasOwn (space : Space) (bus : ℕ) : Type 0 where
    f : Function
    listed : Contains s f
    own : has_own q s space f ≡ true
    on : is_space_on f space ≡ true
    behind : (b : Function) → Contains s b → is_bridge b ≡ true → is_behind b bus ≡ true → is_behind b f.slot.bus ≡ true

  -- so the bridges above are on
  over_on : (space : Space) (bus : ℕ) → HasOwn space bus → (b : Function) → Contains s b → is_bridge b ≡ true → is_behind b bus ≡ true → is_space_on b space ≡ true
  over_on space bus h b listed bridge is = elim (cases_Bool (is_space_on b space)) [
    | inl on ↦ on
    | inr dark ↦
        let test = λ (d : Function). not (is_space_on d space) in
        let some = any_from test (bridges_above s h.f.slot.bus) b (above_from s h.f.slot.bus b record { listed = listed; bridge = bridge; behind = h.behind b listed bridge is }) (not_from_false (is_space_on b space) dark) in
        absurd (both_ways (is_cut_off_in q s h.f space) (uncut h.f space h.listed)
        (and_from (is_space_on h.f space && has_own q s space h.f) (list_any test (bridges_above s h.f.slot.bus)) (and_from (is_space_on h.f space) (has_own q s space h.f) h.on h.own) some))
  ]

  -- from the highest bus down
  record IsToldBy (space : Space) (f : Function) : Type 0 where
    on : is_enabled_in q s k space f ≡ is_space_on f space
    own : is_live q s k space f ≡ true → HasOwn space f.slot.bus

  behind_own : (space : Space) (f : Function) → Contains s f → ((g : Function) → Contains s g → g.slot.bus ≡ secondary f → is_bridge f ≡ true → IsToldBy space g) → has_live_behind s (is_live q s k space) f ≡ true
      → (is_bridge f ≡ true) × HasOwn space (secondary f)
  behind_own space f listed lower has =
      let parts = and_parts (is_bridge f) (list_any (λ g. g.slot.bus == secondary f && is_live q s k space g) s) has in
      let g : Passes (λ g. g.slot.bus == secondary f && is_live q s k space g) s = any_gives (λ g. g.slot.bus == secondary f && is_live q s k space g) s parts.1 in
      let is = and_parts (g.x.slot.bus == secondary f) (is_live q s k space g.x) g.is in
      let at = eqb-true g.x.slot.bus (secondary f) is.0 in
      (parts.0, subst (HasOwn space) at ((lower g.x g.listed at parts.0).own is.1))

  told_by : (space : Space) (f : Function) → Contains s f → ((g : Function) → Contains s g → g.slot.bus ≡ secondary f → is_bridge f ≡ true → IsToldBy space g) → IsToldBy space f
  told_by space f listed lower = record { on = on_is; own = live_own }
    where
      behind : Bool
      behind = has_live_behind s (is_live q s k space) f

      bus_behind : is_bridge f ≡ true → (b : Function) → Contains s b → is_bridge b ≡ true → is_behind b f.slot.bus ≡ true → is_behind b (secondary f) ≡ true
      bus_behind bridge b in_b bridge_b is = behind_outer q.roots s system nested f b (secondary f) listed in_b bridge bridge_b is (at_secondary q.roots s system nested f (secondary f) listed bridge refl)

      on_by_behind : behind ≡ true → is_space_on f space ≡ true
      on_by_behind has =
          let h = behind_own space f listed lower has in
          over_on space (secondary f) h.1 f listed h.0 (at_secondary q.roots s system nested f (secondary f) listed h.0 refl)

      on_is : is_enabled_in q s k space f ≡ is_space_on f space
      on_is = elim (cases_Bool (are_same_space space Io && has_left q s f)) [
        | inl left ↦
            let parts = and_parts (are_same_space space Io) (has_left q s f) left in
            ap (λ b. not b && (is_space_on f space || got_place q s k space f || behind)) left
            ∙ sym (subst (λ sp. is_space_on f sp ≡ false) (sym (one_space space Io parts.0)) (off f listed parts.1))
        | inr fine ↦
            ap (λ b. not b && (is_space_on f space || got_place q s k space f || behind)) fine
            ∙ elim (cases_Bool (is_space_on f space)) [
              | inl on ↦ ap (λ b. b || got_place q s k space f || behind) on ∙ sym on
              | inr dark ↦
                  ap (λ b. b || got_place q s k space f || behind) dark
                  ∙ ap (λ b. b || behind) (false_from_ne_true (got_place q s k space f) (λ has. both_ways (is_space_on f space) dark (got space f listed (ap not fine) has)))
                  ∙ false_from_ne_true behind (λ has. both_ways (is_space_on f space) dark (on_by_behind has)) ∙ sym dark
            ]
      ]

      live_own : is_live q s k space f ≡ true → HasOwn space f.slot.bus
      live_own live =
          let parts = and_parts (is_enabled_in q s k space f) (has_own q s space f || behind) (sym (live_by_bus q s k space system nested f listed) ∙ live) in
          elim (or_cases (has_own q s space f) behind parts.1) [
            | inl own ↦ record { f = f; listed = listed; own = own; on = sym on_is ∙ parts.0; behind = λ b in_b bridge is. is }
            | inr has ↦
                let c = behind_own space f listed lower has in
                let h = c.1 in
                record { f = h.f; listed = h.listed; own = h.own; on = h.on; behind = λ b in_b bridge is. h.behind b in_b bridge (bus_behind c.0 b in_b bridge is) }
          ]

  told_within : (n : ℕ) (space : Space) (f : Function) → Contains s f → 256 ≤ f.slot.bus + n → IsToldBy space f
  told_within zero space f listed far = absurd (let low = (slots_of s system f listed).0 in let no : ⊥ = omega (arith, low, far) in no)
  told_within (suc n) space f listed far =
      told_by space f listed (λ g in_g at bridge. let up = order_of q.roots s nested f listed bridge in told_within n space g in_g (omega (arith, far, at, up)))

  on_stays : (space : Space) (f : Function) → Contains s f → is_enabled_in q s k space f ≡ is_space_on f space
  on_stays space f listed = (told_within 256 space f listed (omega arith)).on

  -- The law: where registers are as they are to be, settling leaves it as it is.
  pub settled_uncut : ((f : Function) → Contains s f → settled_image q s k f ≡ f.image) → settled q s k ≡ s
  settled_uncut images = settled_as_enabled q s k system on_stays images
