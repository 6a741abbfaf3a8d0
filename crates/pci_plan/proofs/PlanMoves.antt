-- The writes of a plan as what can be put onto a machine.
use Rattle.std.proofs.Common.{◌≡◌, ℕ, ◌≤◌, ◌⊎◌, inl, inr, List, ◌++◌, arith, sym, subst, refl}
use Rattle.std.specs.List.{All, Contains}
use Rattle.std.proofs.lemmas.List.Elements.{Contains-append_cases}
use Rattle.pci_spec.specs.Header.{command, layout, address_registers}
use Rattle.pci_spec.specs.System.{System, IsSystem}
use Rattle.pci_spec.specs.Sound.{IsSound}
use Rattle.pci_spec.specs.Machine.{Write}
use Rattle.pci_spec.proofs.Members.{in_head, in_tail}
use Rattle.plan_spec.specs.Plan.{IsMoved}
use Rattle.plan_spec.specs.PlanPromise.{changes_between}
use Rattle.plan_spec.specs.Planning.Fitting.{FitsAt}
use Rattle.plan_spec.specs.Planning.Laws.{AreChanges}
use Rattle.plan_spec.specs.Planning.PlanWrites.{Change, olds, closing_writes, register_writes, opening_writes, plan_writes}
use Rattle.plan_spec.proofs.Planning.Registers.{number_below}
use Rattle.plan_spec.proofs.Planning.Staging.{IsClosingOf, closing_to, IsRegisterOf, register_to, IsOpeningOf, opening_to, fits}
use Rattle.plan_spec.proofs.Planning.Reached.{moves, image_of, old_listed, closed_le}
use Rattle.plan_spec.proofs.Planning.PlanStands.{are_changes, olds_of}
use Rattle.pci_place.specs.Above.{system_in}
use Rattle.pci_plan.specs.Plans.{PlanValue, IsPlanValue, final_of}
use Rattle.pci_plan.specs.Moves.{IsRegisterWrite, IsMove}

module _ (changes : List Change) (system : IsSystem (olds changes)) (moved : All (λ (c : Change). IsMoved c.old c.new) changes) where
  of_closing : (x : Write) → Contains (closing_writes changes) x → IsRegisterWrite (olds changes) x
  of_closing x has =
      let k : IsClosingOf changes x = closing_to changes x has in
      let below = number_below k.c.old.image 4 (image_of changes system moved k.c k.listed) 2 in
      let less = closed_le (command k.c.old.image) in
      subst (IsRegisterWrite (olds changes)) k.is record {
        f = k.c.old;
        listed = old_listed changes system moved k.c k.listed;
        slot = refl;
        register = in_head (0x04, 2) (address_registers (layout k.c.old.image));
        small = omega (arith, below, less);
      }

  of_register : (x : Write) → Contains (register_writes changes) x → IsRegisterWrite (olds changes) x
  of_register x has =
      let k : IsRegisterOf changes x = register_to changes x has in
      let m = moves changes system moved k.c k.listed in
      subst (IsRegisterWrite (olds changes)) k.is record {
        f = k.c.old;
        listed = old_listed changes system moved k.c k.listed;
        slot = refl;
        register = in_tail (0x04, 2) (address_registers (layout k.c.old.image)) k.r k.register;
        small = number_below k.c.new.image k.r.0 m.image k.r.1;
      }

  of_opening : (x : Write) → Contains (opening_writes changes) x → IsRegisterWrite (olds changes) x
  of_opening x has =
      let k : IsOpeningOf changes x = opening_to changes x has in
      let m = moves changes system moved k.c k.listed in
      subst (IsRegisterWrite (olds changes)) k.is record {
        f = k.c.old;
        listed = old_listed changes system moved k.c k.listed;
        slot = refl;
        register = in_head (0x04, 2) (address_registers (layout k.c.old.image));
        small = number_below k.c.new.image 4 m.image 2;
      }

  of_plan : (x : Write) → Contains (plan_writes changes) x → IsRegisterWrite (olds changes) x
  of_plan x has = elim (Contains-append_cases (closing_writes changes) (register_writes changes ++ opening_writes changes) x has) [
    | inl closing ↦ of_closing x closing
    | inr later ↦ elim (Contains-append_cases (register_writes changes) (opening_writes changes) x later) [
      | inl one ↦ of_register x one
      | inr opening ↦ of_opening x opening
    ]
  ]

module _ (p : PlanValue) (is : IsPlanValue p) where
  abbrev s : System
  s = system_in p.start

  abbrev changes : List Change
  changes = changes_between s (final_of p)

  changes_are : AreChanges changes
  changes_are = are_changes s (final_of p) is.admitted.system is.moved

  same_olds : olds changes ≡ s
  same_olds = olds_of s (final_of p) is.moved

  -- a sound start is safe at once
  past_safe : (k : ℕ) → IsSound p.start.roots s ⊎ (p.safe_from ≤ k) → p.safe_from ≤ k
  past_safe k (inl sound) = let none = is.safe.at_once.1 sound in omega (arith, none)
  past_safe k (inr past) = past

  pub plan_moves : IsMove p
  plan_moves = record {
    admitted = is.admitted;
    registers = λ x has. subst (λ (u : System). IsRegisterWrite u x) same_olds (of_plan changes changes_are.system changes_are.moved x (subst (λ ws. Contains ws x) is.writes has));
    fits = subst (λ ws. All (FitsAt s) ws) (sym is.writes) (subst (λ (u : System). All (FitsAt u) (plan_writes changes)) same_olds (fits changes changes_are.system changes_are.moved));
    reached = is.reached;
    sound = is.sound;
    stops = λ k from. is.stops k (past_safe k from);
  }
