-- Between the stages of writes, what claims and forwards is what does at the start or at the end.
use Rattle.std.proofs.Common.{◌≡◌, ℕ, ◌+◌, ◌<◌, ◌≤◌, ◌⊎◌, inl, inr, List, refl, Bool, true, false, arith, sym, ◌∙◌, subst}
use Rattle.std.specs.List.{Contains, list_any}
use Rattle.std.proofs.lemmas.Bool.{and_from, both_ways, ltb-true}
use Rattle.pci_spec.specs.Number.{byte_at, number_at, IsImage}
use Rattle.pci_spec.specs.Slot.{slot_number}
use Rattle.pci_spec.specs.Registers.{COMMAND, PREFETCHABLE_BASE_UPPER}
use Rattle.pci_spec.specs.Header.{command, layout, bar_count, is_in_register}
use Rattle.pci_spec.specs.Bar.{has_bar}
use Rattle.pci_spec.specs.Window.{WindowKind, holds}
use Rattle.pci_spec.specs.System.{System, Function, IsSystem, Space, Part, Bar, Rom, Window, Claims, has_part, is_bridge, is_prefetchable_part, is_space_on, is_window, passes, space_of, window_space}
use Rattle.pci_spec.specs.Bus.{IsNested}
use Rattle.pci_spec.proofs.Members.{in_head}
use Rattle.plan_spec.specs.Plan.{IsMoved, bridges_above}
use Rattle.plan_spec.proofs.Planning.AboveBuses.{above_to}
use Rattle.plan_spec.proofs.Planning.Fit.{moved_itself}
use Rattle.plan_spec.proofs.Planning.Kept.{images_of}
use Rattle.plan_spec.proofs.Planning.Moved.{bridge_same}
use Rattle.settle_spec.specs.Writes.{part_registers, closing_registers, setting_registers}
use Rattle.settle_laws.proofs.Held.{above_is_lower, claim_on, claimed_bar}
use Rattle.settle_laws.proofs.Images.{AgreeAside, bounds_aside, function_at, same_number}
use Rattle.settle_laws.proofs.Left.{IsLeft}
use Rattle.settle_laws.proofs.StageParts.{on_same, AgreeIn, agree_by_number, registers_same, has_same, plain_place, plain_unclosed, upper_unclosed, claims_in, claims_window, forwards_in, holds_by_bounds, passes_by}
use Rattle.settle_laws.proofs.StageBounds.{holds_within, holds_out}
use Rattle.settle_laws.proofs.StageWindows.{either_shows, closing_held, closing_window, setting_held, setting_window}
use Rattle.settle_laws.proofs.Stages.{AreStages, IsHeldBy, IsKeptWindow, IsProgress, setting_change}

module _ (roots : List ℕ) (s : System) (system : IsSystem s) (nested : IsNested roots s) (closed final : Function → Function) (are : AreStages s closed final) where
  is : (f : Function) → Contains s f → IsImage f.image
  is f listed = images_of s system f listed

  listed_above : (f b : Function) → Contains (bridges_above s f.slot.bus) b → Contains s b
  listed_above f b above = (above_to s f.slot.bus b above).listed

  bridge_above : (f b : Function) → Contains (bridges_above s f.slot.bus) b → is_bridge b ≡ true
  bridge_above f b above = (above_to s f.slot.bus b above).bridge

  -- a bridge whose kept window holds an address passes it, as long as it is on and the window holds what it held
  by_held : (b k : Function) (prefetchable : Bool) (space : Space) (a : ℕ) → IsHeldBy b (closed b) (final b) prefetchable space a → IsMoved b k → (is_space_on (closed b) space ≡ true → is_space_on k space ≡ true)
      → ((c : WindowKind) → IsKeptWindow b (closed b) (final b) c → holds c b.image b.probe a ≡ true → holds c k.image b.probe a ≡ true) → passes space prefetchable a k ≡ true
  by_held b k prefetchable space a by m on still =
      let holds_k = still by.class by.kept by.held in
      subst (λ x. passes x prefetchable a k ≡ true) by.at
      (passes_by by.class prefetchable a k by.may
      (and_from (is_space_on k (window_space by.class)) (holds by.class k.image k.probe a) (subst (λ x. is_space_on k x ≡ true) (sym by.at) (on by.on))
      (subst (λ t. holds by.class k.image t a ≡ true) (sym m.probe) holds_k)))

  -- so it does at the start and at the end
  pub start_held_passes : (b : Function) (prefetchable : Bool) (space : Space) (a : ℕ) → Contains s b → IsHeldBy b (closed b) (final b) prefetchable space a → passes space prefetchable a b ≡ true
  start_held_passes b prefetchable space a in_b by = by_held b b prefetchable space a by (moved_itself b (is b in_b)) (are.was_on b space in_b) (λ c kept e. e)

  pub final_held_passes : (b : Function) (prefetchable : Bool) (space : Space) (a : ℕ) → Contains s b → IsHeldBy b (closed b) (final b) prefetchable space a → passes space prefetchable a (final b) ≡ true
  final_held_passes b prefetchable space a in_b by =
      by_held b (final b) prefetchable space a by (are.states.final_moved b in_b) (are.ends_on b space in_b)
      (λ c kept e. holds_within c b.image (final b).image (holds_out c b.image (final b).image kept.final_out) b.probe a e)

  -- what claims an address once closed is passed by the bridges above, as long as they are on and their windows hold what they held
  held_passes : (f b k : Function) (p : Part) (space : Space) (a : ℕ) → Contains s f → is_window p ≡ false → Claims (closed f) p space a → Contains (bridges_above s f.slot.bus) b → IsMoved b k
      → (is_space_on (closed b) space ≡ true → is_space_on k space ≡ true) → ((c : WindowKind) → IsKeptWindow b (closed b) (final b) c → holds c b.image b.probe a ≡ true → holds c k.image b.probe a ≡ true)
      → passes space (is_prefetchable_part f p) a k ≡ true
  held_passes f b k p space a listed plain claim above m on still = by_held b k (is_prefetchable_part f p) space a (are.held f b p space a listed plain claim above) m on still

  -- the registers of what claims an address in a space that is on once closed show the same at the end
  resting : (f g : Function) → Contains s f → IsMoved f g → (p : Part) (space : Space) (a : ℕ) → is_window p ≡ false → is_space_on (closed f) space ≡ true → Claims g p space a
      → AgreeIn f p (final f).image (closed f).image
  resting f g listed m (Bar n) space a plain on claim =
      let c = are.states.closed_moved f listed in
      let inside = ltb-true n (bar_count (layout f.image)) (sym (has_same f g (is f listed) m (Bar n)) ∙ claim.there) in
      let has : has_bar f.probe n ≡ true = subst (λ t. has_bar t n ≡ true) m.probe (claimed_bar g n space a claim) in
      let at : space_of f (Bar n) ≡ space = subst (λ t. space_of (function_at f.slot f.image t) (Bar n) ≡ space) m.probe claim.maps in
      agree_by_number f (closed f) (final f) (Bar n) c.image (are.states.final_moved f listed).image
      (are.bar_rests f n listed inside has (subst (λ x. is_space_on (closed f) x ≡ true) (sym at) on))
      (registers_same f (closed f) (is f listed) c (Bar n) plain)
  resting f g listed m Rom space a plain on claim =
      let c = are.states.closed_moved f listed in
      agree_by_number f (closed f) (final f) Rom c.image (are.states.final_moved f listed).image
      (are.rom_rests f listed (subst (λ x. is_space_on (closed f) x ≡ true) (sym claim.maps) on))
      (registers_same f (closed f) (is f listed) c Rom plain)
  resting f g listed m (Window c) space a plain on claim = absurd (both_ways true plain refl)

  -- a function that claims an address has the part
  there_at : (f g : Function) → Contains s f → IsMoved f g → (p : Part) (space : Space) (a : ℕ) → Claims g p space a → has_part f p ≡ true
  there_at f g listed m p space a claim = sym (has_same f g (is f listed) m p) ∙ claim.there

  module _ (h : Function → Function) (moved : (f : Function) → Contains s f → IsMoved f (h f)) where
    -- ---- while functions are closed

    module _ (progress : (f : Function) → Contains s f → IsProgress (closing_registers f) f (closed f) (h f))
        (rest : (f : Function) (place : ℕ) → Contains s f → place < 256 → list_any (is_in_register place) (closing_registers f) ≡ false → byte_at (h f).image place ≡ byte_at f.image place)
        (order : (f b : Function) → Contains s f → Contains s b → slot_number b.slot < slot_number f.slot → (h f ≡ closed f) ⊎ (h b ≡ b)) where
      command_either : (f : Function) → Contains s f → (command (h f).image ≡ command f.image) ⊎ (command (h f).image ≡ command (closed f).image)
      command_either f listed = either_shows (closing_registers f) f (closed f) (h f) (progress f listed) (COMMAND, 2) (in_head (COMMAND, 2) _)

      pub on_before : (f : Function) → Contains s f → (space : Space) → is_space_on (h f) space ≡ true → is_space_on f space ≡ true
      on_before f listed space on = elim (command_either f listed) [
        | inl same ↦ sym (on_same f (h f) same space) ∙ on
        | inr made ↦ are.was_on f space listed (sym (on_same (closed f) (h f) made space) ∙ on)
      ]

      still_on : (f : Function) → Contains s f → (space : Space) → is_space_on (closed f) space ≡ true → is_space_on (h f) space ≡ true
      still_on f listed space on = elim (command_either f listed) [
        | inl same ↦ on_same f (h f) same space ∙ are.was_on f space listed on
        | inr made ↦ on_same (closed f) (h f) made space ∙ on
      ]

      upper_shown : (f : Function) → Contains s f → number_at (h f).image PREFETCHABLE_BASE_UPPER 4 ≡ number_at f.image PREFETCHABLE_BASE_UPPER 4
      upper_shown f listed =
          same_number (h f).image f.image PREFETCHABLE_BASE_UPPER 4
          (λ j less. rest f (PREFETCHABLE_BASE_UPPER + j) listed (omega (arith, less)) (upper_unclosed f (PREFETCHABLE_BASE_UPPER + j) (omega arith) (omega (arith, less))))

      held_before : (f : Function) → Contains s f → is_bridge f ≡ true → (c : WindowKind) (a : ℕ) → holds c (h f).image f.probe a ≡ true → holds c f.image f.probe a ≡ true
      held_before f listed bridge c a e =
          closing_window f (closed f) (final f) (h f) bridge (is f listed) (are.states.closed_moved f listed).image (moved f listed).image (progress f listed) (upper_shown f listed) c (are.windows f c listed bridge) f.probe a e

      plain_before : (f : Function) (p : Part) (space : Space) (a : ℕ) → is_window p ≡ false → Contains s f → Claims (h f) p space a → Claims f p space a
      plain_before f p space a plain listed claim =
          claims_in f (h f) f (is f listed) (moved f listed) (moved_itself f (is f listed)) p space a plain
          (λ r has place from to.
          let at = plain_place f p plain (there_at f (h f) listed (moved f listed) p space a claim) r has place from to in
          let high = at.high in
          rest f place listed (omega (arith, high)) (plain_unclosed f place at))
          (on_before f listed space) claim

      claims_before : (f : Function) (p : Part) (space : Space) (a : ℕ) → Contains s f → Claims (h f) p space a → Claims f p space a
      claims_before f (Bar n) space a listed claim = plain_before f (Bar n) space a refl listed claim
      claims_before f Rom space a listed claim = plain_before f Rom space a refl listed claim
      claims_before f (Window c) space a listed claim =
          claims_window f (h f) f (is f listed) (moved f listed) (moved_itself f (is f listed)) c space a
          (held_before f listed (there_at f (h f) listed (moved f listed) (Window c) space a claim) c a) (on_before f listed (window_space c)) claim

      -- a bridge whose kept window holds an address passes it all the time
      pub closing_held_passes : (b : Function) (prefetchable : Bool) (space : Space) (a : ℕ) → Contains s b → is_bridge b ≡ true → IsHeldBy b (closed b) (final b) prefetchable space a → passes space prefetchable a (h b) ≡ true
      closing_held_passes b prefetchable space a in_b bridge by =
          by_held b (h b) prefetchable space a by (moved b in_b) (still_on b in_b space)
          (λ c kept e. closing_held b (closed b) (final b) (h b) bridge (is b in_b) (are.states.closed_moved b in_b).image (moved b in_b).image (progress b in_b) (upper_shown b in_b) c kept b.probe a e)

      -- one above a function passes what it passed, if its kept window holds it where the function is still on once closed
      pub closing_passes : (f b : Function) (prefetchable : Bool) (space : Space) (a : ℕ) → Contains s f → Contains s b → is_bridge b ≡ true → slot_number b.slot < slot_number f.slot → is_space_on (h f) space ≡ true
          → (is_space_on (closed f) space ≡ true → IsHeldBy b (closed b) (final b) prefetchable space a) → passes space prefetchable a b ≡ true → passes space prefetchable a (h b) ≡ true
      closing_passes f b prefetchable space a in_f in_b bridge lower on by e = elim (order f b in_f in_b lower) [
        | inr same ↦ subst (λ g. passes space prefetchable a g ≡ true) (sym same) e
        | inl done ↦ closing_held_passes b prefetchable space a in_b bridge (by (subst (λ g. is_space_on g space ≡ true) done on))
      ]

      pub closing_left : IsLeft s h (λ f. f)
      closing_left = record {
        claimed = λ f p space a listed claim. claims_before f p space a listed claim;
        forwarded = λ space a b listed bridge e. forwards_in b (h b) b (is b listed) (moved b listed) (moved_itself b (is b listed)) space a (λ c e. held_before b listed bridge c a e) (on_before b listed space) e;
        passed = λ f b p space a listed plain claim above e.
            let in_b = listed_above f b above in
            elim (order f b listed in_b (above_is_lower roots s system nested f b listed above)) [
              | inr same ↦ subst (λ g. passes space (is_prefetchable_part f p) a g ≡ true) (sym same) e
              | inl done ↦
                  held_passes f b (h b) p space a listed plain (subst (λ g. Claims g p space a) done claim) above (moved b in_b) (still_on b in_b space)
                  (λ c kept e. closing_held b (closed b) (final b) (h b) (bridge_above f b above) (is b in_b) (are.states.closed_moved b in_b).image (moved b in_b).image (progress b in_b) (upper_shown b in_b) c kept b.probe a e)
            ];
      }

    -- ---- while registers are set

    module _ (progress : (f : Function) → Contains s f → IsProgress (setting_registers (setting_change closed final f)) (closed f) (final f) (h f))
        (either : (f : Function) (place : ℕ) → Contains s f → place < 256 → (byte_at (h f).image place ≡ byte_at (closed f).image place) ⊎ (byte_at (h f).image place ≡ byte_at (final f).image place))
        (command_is : (f : Function) → Contains s f → command (h f).image ≡ command (closed f).image) where
      pub on_closed : (f : Function) → Contains s f → (space : Space) → is_space_on (h f) space ≡ is_space_on (closed f) space
      on_closed f listed space = on_same (closed f) (h f) (command_is f listed) space

      pub on_at_end : (f : Function) → Contains s f → (space : Space) → is_space_on (h f) space ≡ true → is_space_on (final f) space ≡ true
      on_at_end f listed space on = are.ends_on f space listed (sym (on_closed f listed space) ∙ on)

      closed_bridge : (f : Function) → Contains s f → is_bridge f ≡ true → is_bridge (closed f) ≡ true
      closed_bridge f listed bridge = bridge_same f (closed f) (are.states.closed_moved f listed) (is f listed) ∙ bridge

      held_at_end : (f : Function) → Contains s f → is_bridge f ≡ true → (c : WindowKind) (a : ℕ) → holds c (h f).image f.probe a ≡ true → holds c (final f).image f.probe a ≡ true
      held_at_end f listed bridge c a e =
          setting_window f (closed f) (final f) (h f) (closed_bridge f listed bridge) (are.states.closed_moved f listed).image (are.states.final_moved f listed).image (moved f listed).image
          (progress f listed) c (are.windows f c listed bridge) f.probe a e

      module _ (f : Function) (p : Part) (space : Space) (a : ℕ) (plain : is_window p ≡ false) (listed : Contains s f) (claim : Claims (h f) p space a) where
        rests : AgreeIn f p (final f).image (closed f).image
        rests = resting f (h f) listed (moved f listed) p space a plain (sym (on_closed f listed space) ∙ claim_on (h f) p space a claim) claim

        inside_at : (r : ℕ × ℕ) → Contains (part_registers f p) r → (place : ℕ) → r.0 ≤ place → place < r.0 + r.1 → place < 256
        inside_at r has place from to = let high = (plain_place f p plain (there_at f (h f) listed (moved f listed) p space a claim) r has place from to).high in omega (arith, high)

        agrees_closed : AgreeIn f p (h f).image (closed f).image
        agrees_closed r has place from to = elim (either f place listed (inside_at r has place from to)) [
          | inl same ↦ same
          | inr set ↦ set ∙ rests r has place from to
        ]

        claims_closed : Claims (closed f) p space a
        claims_closed = claims_in f (h f) (closed f) (is f listed) (moved f listed) (are.states.closed_moved f listed) p space a plain agrees_closed (λ on. sym (on_closed f listed space) ∙ on) claim

        plain_at_end : Claims (final f) p space a
        plain_at_end =
            claims_in f (h f) (final f) (is f listed) (moved f listed) (are.states.final_moved f listed) p space a plain
            (λ r has place from to. agrees_closed r has place from to ∙ sym (rests r has place from to)) (on_at_end f listed space) claim

      claims_at_end : (f : Function) (p : Part) (space : Space) (a : ℕ) → Contains s f → Claims (h f) p space a → Claims (final f) p space a
      claims_at_end f (Bar n) space a listed claim = plain_at_end f (Bar n) space a refl listed claim
      claims_at_end f Rom space a listed claim = plain_at_end f Rom space a refl listed claim
      claims_at_end f (Window c) space a listed claim =
          claims_window f (h f) (final f) (is f listed) (moved f listed) (are.states.final_moved f listed) c space a
          (held_at_end f listed (there_at f (h f) listed (moved f listed) (Window c) space a claim) c a) (on_at_end f listed (window_space c)) claim

      pub setting_held_passes : (b : Function) (prefetchable : Bool) (space : Space) (a : ℕ) → Contains s b → is_bridge b ≡ true → IsHeldBy b (closed b) (final b) prefetchable space a → passes space prefetchable a (h b) ≡ true
      setting_held_passes b prefetchable space a in_b bridge by =
          by_held b (h b) prefetchable space a by (moved b in_b) (λ on. on_closed b in_b space ∙ on)
          (λ c kept e. setting_held b (closed b) (final b) (h b) (closed_bridge b in_b bridge) (are.states.closed_moved b in_b).image (are.states.final_moved b in_b).image (moved b in_b).image (progress b in_b) c kept b.probe a e)

      pub setting_left : IsLeft s h final
      setting_left = record {
        claimed = λ f p space a listed claim. claims_at_end f p space a listed claim;
        forwarded = λ space a b listed bridge e. forwards_in b (h b) (final b) (is b listed) (moved b listed) (are.states.final_moved b listed) space a (λ c e. held_at_end b listed bridge c a e) (on_at_end b listed space) e;
        passed = λ f b p space a listed plain claim above e.
            let in_b = listed_above f b above in
            held_passes f b (h b) p space a listed plain (claims_closed f p space a plain listed claim) above (moved b in_b) (λ on. on_closed b in_b space ∙ on)
            (λ c kept e. setting_held b (closed b) (final b) (h b) (closed_bridge b in_b (bridge_above f b above)) (are.states.closed_moved b in_b).image (are.states.final_moved b in_b).image (moved b in_b).image (progress b in_b) c kept b.probe a e);
      }

    -- ---- while functions are opened

    module _ (bytes : (f : Function) (place : ℕ) → Contains s f → place < 256 → (place < 4) ⊎ (6 ≤ place) → byte_at (h f).image place ≡ byte_at (final f).image place)
        (opens : (f : Function) → Contains s f → (command (h f).image ≡ command (closed f).image) ⊎ (h f ≡ final f))
        (order : (f b : Function) → Contains s f → Contains s b → slot_number b.slot < slot_number f.slot → (h b ≡ final b) ⊎ (command (h f).image ≡ command (closed f).image)) where
      agrees : (f : Function) → Contains s f → AgreeAside (h f).image (final f).image
      agrees f listed place low high = bytes f place listed (omega (arith, high)) (inr (omega (arith, low)))

      pub on_opened : (f : Function) → Contains s f → (space : Space) → is_space_on (h f) space ≡ true → is_space_on (final f) space ≡ true
      on_opened f listed space on = elim (opens f listed) [
        | inl waits ↦ are.ends_on f space listed (sym (on_same (closed f) (h f) waits space) ∙ on)
        | inr done ↦ subst (λ g. is_space_on g space ≡ true) done on
      ]

      stays_on : (f : Function) → Contains s f → (space : Space) → is_space_on (closed f) space ≡ true → is_space_on (h f) space ≡ true
      stays_on f listed space on = elim (opens f listed) [
        | inl waits ↦ on_same (closed f) (h f) waits space ∙ on
        | inr done ↦ subst (λ g. is_space_on g space ≡ true) (sym done) (are.ends_on f space listed on)
      ]

      holds_final : (f : Function) → Contains s f → (c : WindowKind) (a : ℕ) → holds c (h f).image f.probe a ≡ true → holds c (final f).image f.probe a ≡ true
      holds_final f listed c a e = sym (holds_by_bounds c (h f).image (final f).image f.probe a (bounds_aside (h f).image (final f).image (agrees f listed) c)) ∙ e

      agrees_in : (f : Function) (p : Part) (space : Space) (a : ℕ) → is_window p ≡ false → Contains s f → Claims (h f) p space a → AgreeIn f p (h f).image (final f).image
      agrees_in f p space a plain listed claim r has place from to =
          let at = plain_place f p plain (there_at f (h f) listed (moved f listed) p space a claim) r has place from to in
          agrees f listed place at.low at.high

      plain_final : (f : Function) (p : Part) (space : Space) (a : ℕ) → is_window p ≡ false → Contains s f → Claims (h f) p space a → Claims (final f) p space a
      plain_final f p space a plain listed claim =
          claims_in f (h f) (final f) (is f listed) (moved f listed) (are.states.final_moved f listed) p space a plain (agrees_in f p space a plain listed claim) (on_opened f listed space) claim

      claims_final : (f : Function) (p : Part) (space : Space) (a : ℕ) → Contains s f → Claims (h f) p space a → Claims (final f) p space a
      claims_final f (Bar n) space a listed claim = plain_final f (Bar n) space a refl listed claim
      claims_final f Rom space a listed claim = plain_final f Rom space a refl listed claim
      claims_final f (Window c) space a listed claim =
          claims_window f (h f) (final f) (is f listed) (moved f listed) (are.states.final_moved f listed) c space a (holds_final f listed c a) (on_opened f listed (window_space c)) claim

      -- what isn't opened yet claims what it does once closed
      unopened : (f : Function) (p : Part) (space : Space) (a : ℕ) → is_window p ≡ false → Contains s f → command (h f).image ≡ command (closed f).image → Claims (h f) p space a → Claims (closed f) p space a
      unopened f p space a plain listed waits claim =
          let on : is_space_on (h f) space ≡ is_space_on (closed f) space = on_same (closed f) (h f) waits space in
          let rests = resting f (h f) listed (moved f listed) p space a plain (sym on ∙ claim_on (h f) p space a claim) claim in
          claims_in f (h f) (closed f) (is f listed) (moved f listed) (are.states.closed_moved f listed) p space a plain
          (λ r has place from to. agrees_in f p space a plain listed claim r has place from to ∙ rests r has place from to) (λ e. sym on ∙ e) claim

      pub opening_held_passes : (b : Function) (prefetchable : Bool) (space : Space) (a : ℕ) → Contains s b → IsHeldBy b (closed b) (final b) prefetchable space a → passes space prefetchable a (h b) ≡ true
      opening_held_passes b prefetchable space a in_b by =
          by_held b (h b) prefetchable space a by (moved b in_b) (stays_on b in_b space)
          (λ c kept e. holds_by_bounds c (h b).image (final b).image b.probe a (bounds_aside (h b).image (final b).image (agrees b in_b) c) ∙ holds_within c b.image (final b).image (holds_out c b.image (final b).image kept.final_out) b.probe a e)

      pub opening_passes : (f b : Function) (prefetchable : Bool) (space : Space) (a : ℕ) → Contains s f → Contains s b → slot_number b.slot < slot_number f.slot → is_space_on (h f) space ≡ true
          → (is_space_on (closed f) space ≡ true → IsHeldBy b (closed b) (final b) prefetchable space a) → passes space prefetchable a (final b) ≡ true → passes space prefetchable a (h b) ≡ true
      opening_passes f b prefetchable space a in_f in_b lower on by e = elim (order f b in_f in_b lower) [
        | inl done ↦ subst (λ g. passes space prefetchable a g ≡ true) (sym done) e
        | inr waits ↦ opening_held_passes b prefetchable space a in_b (by (sym (on_same (closed f) (h f) waits space) ∙ on))
      ]

      pub opening_left : IsLeft s h final
      opening_left = record {
        claimed = λ f p space a listed claim. claims_final f p space a listed claim;
        forwarded = λ space a b listed bridge e. forwards_in b (h b) (final b) (is b listed) (moved b listed) (are.states.final_moved b listed) space a (λ c e. holds_final b listed c a e) (on_opened b listed space) e;
        passed = λ f b p space a listed plain claim above e.
            let in_b = listed_above f b above in
            elim (order f b listed in_b (above_is_lower roots s system nested f b listed above)) [
              | inl done ↦ subst (λ g. passes space (is_prefetchable_part f p) a g ≡ true) (sym done) e
              | inr waits ↦
                  held_passes f b (h b) p space a listed plain (unopened f p space a plain listed waits claim) above (moved b in_b) (stays_on b in_b space)
                  (λ c kept e. holds_by_bounds c (h b).image (final b).image b.probe a (bounds_aside (h b).image (final b).image (agrees b in_b) c) ∙ holds_within c b.image (final b).image (holds_out c b.image (final b).image kept.final_out) b.probe a e)
            ];
      }
