-- Writes in three stages can stop anywhere, and lead to the final system.
use Rattle.std.proofs.Common.{◌≡◌, ℕ, ◌+◌, ◌-◌, ◌<◌, ◌≤◌, ◌⊎◌, inl, inr, List, [], ◌∷◌, ◌++◌, refl, false, arith, sym, ◌∙◌, ap, subst, map, length, take, drop}
use Rattle.std.specs.Bool.{nat_le, nat_lt}
use Rattle.std.specs.List.{Contains, list_any}
use Rattle.std.proofs.lemmas.Bool.{cases_Bool, cases_lt, and_parts, leb-true, ltb-true}
use Rattle.std.proofs.lemmas.List.{append_assoc, map-id, take-append-drop, take-append-le}
use Rattle.std.proofs.Math.Seq.{take-append-add}
use Rattle.pci_spec.specs.Number.{byte_at, number_at}
use Rattle.pci_spec.specs.Slot.{slot_number}
use Rattle.pci_spec.specs.Header.{command, layout, address_registers, is_in_register}
use Rattle.pci_spec.specs.System.{System, Function, IsSystem}
use Rattle.pci_spec.specs.Bus.{IsNested}
use Rattle.pci_spec.specs.Machine.{Write, system_after}
use Rattle.pci_spec.proofs.Members.{in_head, in_tail}
use Rattle.plan_spec.specs.Plan.{IsMoved}
use Rattle.plan_spec.specs.Planning.Safety.{IsSafe}
use Rattle.plan_spec.proofs.Planning.Behind.{Passes, any_gives}
use Rattle.plan_spec.proofs.Planning.Fit.{moved_itself}
use Rattle.plan_spec.proofs.Planning.Kept.{images_of}
use Rattle.plan_spec.proofs.Planning.OtherRules.{byte_number}
use Rattle.plan_spec.proofs.Planning.Reached.{byte_of_number}
use Rattle.plan_spec.proofs.Planning.Settled.{function_after, system_by_function}
use Rattle.settle_spec.specs.Writes.{closing_registers, setting_registers}
use Rattle.settle_laws.proofs.Left.{left_safe}
use Rattle.settle_laws.proofs.StageLeft.{closing_left, setting_left, opening_left}
use Rattle.settle_laws.proofs.StageProgress.{closing_moved, closing_progress, closing_others, closing_order, after_closings, after_settings, setting_moved, setting_progress, setting_from, setting_others, setting_command, set_function, set_moved, set_command, set_bytes, opening_progress, opening_order, end_is_final}
use Rattle.settle_laws.proofs.StageRegisters.{IsApartFrom}
use Rattle.settle_laws.proofs.StageWindows.{either_shows}
use Rattle.settle_laws.proofs.Stages.{AreStages, AreStates, IsProgress, all_closings, all_settings, all_openings, all_stages, setting_change}
use Rattle.settle_laws.proofs.NonePasses.{none_passes, outside}

apart : (registers : List (ℕ × ℕ)) (place : ℕ) → list_any (is_in_register place) registers ≡ false → IsApartFrom registers place 1
apart registers place out r has = outside place r (none_passes (is_in_register place) registers out r has)

byte_by : (a b : List ℕ) (place : ℕ) → number_at a place 1 ≡ number_at b place 1 → byte_at a place ≡ byte_at b place
byte_by a b place same = sym (byte_number a place) ∙ same ∙ byte_number b place

map_same : (g h : Function → Function) (s : System) → ((f : Function) → Contains s f → g f ≡ h f) → map g s ≡ map h s
map_same g h [] same = refl
map_same g h (f ∷ s) same = ap (λ x. x ∷ map g s) (same f (in_head f s)) ∙ ap (λ t. h f ∷ t) (map_same g h s (λ x has. same x (in_tail f s x has)))

-- Where they lead.
pub stages_end : (s : System) → IsSystem s → (closed final : Function → Function) → AreStates s closed final → system_after s (all_stages closed final s) ≡ map final s
stages_end s system closed final states =
    system_by_function s (all_stages closed final s)
    ∙ map_same (λ f. function_after f (all_stages closed final s)) final s (λ f listed. end_is_final s system closed final states f listed)

-- What is so of a system is so between the stages: while functions are closed if it was, and then if it is at the end.
pub record AreSteps (s : System) (closed final : Function → Function) (Safe : System → Type 0) : Type 0 where
  pub closing : (h : Function → Function) → ((f : Function) → Contains s f → IsMoved f (h f))
      → ((f : Function) → Contains s f → IsProgress (closing_registers f) f (closed f) (h f))
      → ((f : Function) (place : ℕ) → Contains s f → place < 256 → list_any (is_in_register place) (closing_registers f) ≡ false → byte_at (h f).image place ≡ byte_at f.image place)
      → ((f b : Function) → Contains s f → Contains s b → slot_number b.slot < slot_number f.slot → (h f ≡ closed f) ⊎ (h b ≡ b))
      → Safe s → Safe (map h s)
  pub setting : (h : Function → Function) → ((f : Function) → Contains s f → IsMoved f (h f))
      → ((f : Function) → Contains s f → IsProgress (setting_registers (setting_change closed final f)) (closed f) (final f) (h f))
      → ((f : Function) (place : ℕ) → Contains s f → place < 256 → (byte_at (h f).image place ≡ byte_at (closed f).image place) ⊎ (byte_at (h f).image place ≡ byte_at (final f).image place))
      → ((f : Function) → Contains s f → command (h f).image ≡ command (closed f).image)
      → Safe (map final s) → Safe (map h s)
  pub opening : (h : Function → Function) → ((f : Function) → Contains s f → IsMoved f (h f))
      → ((f : Function) (place : ℕ) → Contains s f → place < 256 → (place < 4) ⊎ (6 ≤ place) → byte_at (h f).image place ≡ byte_at (final f).image place)
      → ((f : Function) → Contains s f → (command (h f).image ≡ command (closed f).image) ⊎ (h f ≡ final f))
      → ((f b : Function) → Contains s f → Contains s b → slot_number b.slot < slot_number f.slot → (h b ≡ final b) ⊎ (command (h f).image ≡ command (closed f).image))
      → Safe (map final s) → Safe (map h s)

module _ (s : System) (system : IsSystem s) (closed final : Function → Function) (are : AreStages s closed final) (Safe : System → Type 0) (steps : AreSteps s closed final Safe) where
  abbrev first : List Write
  first = all_closings closed final s

  abbrev second : List Write
  second = all_settings closed final s

  abbrev third : List Write
  third = all_openings closed final s

  -- ---- while functions are closed

  closing_safe : (p rest : List Write) → p ++ rest ≡ first → Safe s → Safe (system_after s p)
  closing_safe p rest split safe =
      let h : Function → Function = λ f. function_after f p in
      let moved : (f : Function) → Contains s f → IsMoved f (h f) = closing_moved s system closed final are.states p rest split in
      let still : (f : Function) (place : ℕ) → Contains s f → place < 256 → list_any (is_in_register place) (closing_registers f) ≡ false → byte_at (h f).image place ≡ byte_at f.image place =
      λ f place listed inside out. byte_by (h f).image f.image place (closing_others s system closed final are.states p rest split f listed place 1 (omega (arith, inside)) (apart (closing_registers f) place out)) in
      subst Safe (sym (system_by_function s p))
      (steps.closing h moved (closing_progress s system closed final are.states p rest split) still (closing_order s system closed final are.states p rest split) safe)

  -- ---- while registers are set

  module _ (p rest : List Write) (split : p ++ rest ≡ second) where
    abbrev now : Function → Function
    now f = function_after (closed f) p

    now_moved : (f : Function) → Contains s f → IsMoved f (now f)
    now_moved = setting_moved s system closed final are.states p rest split

    progress : (f : Function) → Contains s f → IsProgress (setting_registers (setting_change closed final f)) (closed f) (final f) (now f)
    progress = setting_progress s system closed final are.states p rest split

    -- each byte is that of the closed function or that of the final one
    either : (f : Function) (place : ℕ) → Contains s f → place < 256 → (byte_at (now f).image place ≡ byte_at (closed f).image place) ⊎ (byte_at (now f).image place ≡ byte_at (final f).image place)
    either f place listed inside = elim (cases_Bool (list_any (is_in_register place) (address_registers (layout f.image)))) [
      | inr out ↦ inl (byte_by (now f).image (closed f).image place (setting_others s system closed final are.states p rest split f listed place 1 (omega (arith, inside)) (apart (address_registers (layout f.image)) place out)))
      | inl there ↦
          let found : Passes (is_in_register place) (address_registers (layout f.image)) = any_gives (is_in_register place) (address_registers (layout f.image)) there in
          let r = found.x in
          let ends = and_parts (nat_le r.0 place) (nat_lt place (r.0 + r.1)) found.is in
          let from = leb-true r.0 place ends.0 in
          let to = ltb-true place (r.0 + r.1) ends.1 in
          let m = (now_moved f listed).image in
          elim (either_shows (setting_registers (setting_change closed final f)) (closed f) (final f) (now f) (progress f listed) r (setting_from s system closed final are.states f listed r found.listed)) [
            | inl waits ↦ inl (byte_of_number (now f).image (closed f).image r.0 r.1 place m (are.states.closed_moved f listed).image waits from to)
            | inr made ↦ inr (byte_of_number (now f).image (final f).image r.0 r.1 place m (are.states.final_moved f listed).image made from to)
          ]
    ]

    setting_safe : Safe (map final s) → Safe (system_after s (first ++ p))
    setting_safe safe =
        subst Safe (sym (system_by_function s (first ++ p) ∙ map_same (λ f. function_after f (first ++ p)) now s (λ f listed. after_closings s system closed final are.states f listed p)))
        (steps.setting now now_moved progress either (setting_command s system closed final are.states p rest split) safe)

  -- ---- while functions are opened

  abbrev set : Function → Function
  set f = set_function s system closed final are.states f

  module _ (p rest : List Write) (split : p ++ rest ≡ third) where
    abbrev opened : Function → Function
    opened f = function_after (set f) p

    opened_moved : (f : Function) → Contains s f → IsMoved f (opened f)
    opened_moved f listed = elim (opening_progress s system closed final are.states p rest split f listed) [
      | inl waits ↦ subst (IsMoved f) (sym waits) (set_moved s system closed final are.states f listed)
      | inr done ↦ subst (IsMoved f) (sym done) (are.states.final_moved f listed)
    ]

    opened_bytes : (f : Function) (place : ℕ) → Contains s f → place < 256 → (place < 4) ⊎ (6 ≤ place) → byte_at (opened f).image place ≡ byte_at (final f).image place
    opened_bytes f place listed inside aside = elim (opening_progress s system closed final are.states p rest split f listed) [
      | inl waits ↦ ap (λ (g : Function). byte_at g.image place) waits ∙ set_bytes s system closed final are.states f listed place inside aside
      | inr done ↦ ap (λ (g : Function). byte_at g.image place) done
    ]

    waits_closed : (f : Function) → Contains s f → opened f ≡ set f → command (opened f).image ≡ command (closed f).image
    waits_closed f listed waits = ap (λ (g : Function). command g.image) waits ∙ set_command s system closed final are.states f listed

    opens : (f : Function) → Contains s f → (command (opened f).image ≡ command (closed f).image) ⊎ (opened f ≡ final f)
    opens f listed = elim (opening_progress s system closed final are.states p rest split f listed) [
      | inl waits ↦ inl (waits_closed f listed waits)
      | inr done ↦ inr done
    ]

    opens_before : (f b : Function) → Contains s f → Contains s b → slot_number b.slot < slot_number f.slot → (opened b ≡ final b) ⊎ (command (opened f).image ≡ command (closed f).image)
    opens_before f b in_f in_b less = elim (opening_order s system closed final are.states p rest split f b in_f in_b less) [
      | inl done ↦ inl done
      | inr waits ↦ inr (waits_closed f in_f waits)
    ]

    opening_safe : Safe (map final s) → Safe (system_after s ((first ++ second) ++ p))
    opening_safe safe =
        subst Safe (sym (system_by_function s ((first ++ second) ++ p) ∙ map_same (λ f. function_after f ((first ++ second) ++ p)) opened s (λ f listed. after_settings s system closed final are.states f listed p)))
        (steps.opening opened opened_moved opened_bytes opens opens_before safe)

  -- ---- where they stop

  past_closing : Safe (map final s) → (j : ℕ) → Safe (system_after s (first ++ take j (second ++ third)))
  past_closing safe j = elim (cases_lt j (length second)) [
    | inl less ↦
        subst (λ ws. Safe (system_after s (first ++ ws))) (sym (take-append-le j second third (omega (arith, less))))
        (setting_safe (take j second) (drop j second) (take-append-drop j second) safe)
    | inr past ↦
        let i = j - length second in
        let at : length second + i ≡ j = omega (arith, past) in
        subst (λ n. Safe (system_after s (first ++ take n (second ++ third)))) at
        (subst (λ ws. Safe (system_after s (first ++ ws))) (sym (take-append-add second third i))
        (subst (λ ws. Safe (system_after s ws)) (append_assoc first second (take i third))
        (opening_safe (take i third) (drop i third) (take-append-drop i third) safe)))
  ]

  -- they can stop anywhere, where the final system is safe and, as long as functions are closed, the start is
  pub stop_by : Safe (map final s) → (k : ℕ) → (length first ≤ k) ⊎ Safe s → Safe (system_after s (take k (all_stages closed final s)))
  stop_by safe k from = elim (cases_lt k (length first)) [
    | inl less ↦
        subst (λ ws. Safe (system_after s ws)) (sym (take-append-le k first (second ++ third) (omega (arith, less))))
        (closing_safe (take k first) (drop k first) (take-append-drop k first)
        (elim from [ inl past ↦ absurd (let no : ⊥ = omega (arith, past, less) in no) | inr start ↦ start ]))
    | inr past ↦
        let j = k - length first in
        let at : length first + j ≡ k = omega (arith, past) in
        subst (λ n. Safe (system_after s (take n (all_stages closed final s)))) at
        (subst (λ ws. Safe (system_after s ws)) (sym (take-append-add first (second ++ third) j)) (past_closing safe j))
  ]

module _ (roots : List ℕ) (s : System) (system : IsSystem s) (nested : IsNested roots s) (closed final : Function → Function) (are : AreStages s closed final) where
  safe_steps : AreSteps s closed final (IsSafe roots)
  safe_steps = record {
    closing = λ h moved progress still order safe.
        left_safe roots s system nested h (λ f. f) moved (λ f listed. moved_itself f (images_of s system f listed))
        (closing_left roots s system nested closed final are h moved progress still order)
        (subst (IsSafe roots) (sym (map-id s)) safe);
    setting = λ h moved progress either command_is safe.
        left_safe roots s system nested h final moved are.states.final_moved (setting_left roots s system nested closed final are h moved progress either command_is) safe;
    opening = λ h moved bytes opens before safe.
        left_safe roots s system nested h final moved are.states.final_moved (opening_left roots s system nested closed final are h moved bytes opens before) safe;
  }

  -- The law: so it is with what is safe.
  pub stop_safe : IsSafe roots (map final s) → (k : ℕ) → (length (all_closings closed final s) ≤ k) ⊎ IsSafe roots s → IsSafe roots (system_after s (take k (all_stages closed final s)))
  stop_safe = stop_by s system closed final are (IsSafe roots) safe_steps
