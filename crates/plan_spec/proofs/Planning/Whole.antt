-- From a lawful start a plan's writes can stop anywhere: what is shown of each state on the way.
use Rattle.std.proofs.Common.{◌≡◌, ℕ, List, [], ◌∷◌, ◌++◌, refl, arith, sym, ◌∙◌, ap, subst, length, take, map, ◌≤◌}
use Rattle.std.specs.List.{Contains, AllZip, All}
use Rattle.std.proofs.lemmas.List.Elements.{All-contains, All-contains_itself, All-weaker}
use Rattle.pci_spec.specs.Number.{IsImage}
use Rattle.pci_spec.specs.Slot.{IsSlot, IsRising}
use Rattle.pci_spec.specs.System.{System, Function, IsFunction, IsSystem}
use Rattle.pci_spec.specs.Bus.{IsNested}
use Rattle.pci_spec.specs.Sound.{HasChains, IsInProfile, IsSound}
use Rattle.pci_spec.specs.Machine.{Write, system_after}
use Rattle.plan_spec.specs.Plan.{IsMoved}
use Rattle.std.proofs.lemmas.List.{take_all}
use Rattle.plan_spec.specs.Planning.Safety.{IsSafe}
use Rattle.plan_spec.specs.Planning.Stops.{IsStaged}
use Rattle.plan_spec.specs.Planning.Fitting.{FitsAt, IsKept}
use Rattle.plan_spec.proofs.Planning.Kept.{images_of, moved_nested, moved_chains}
use Rattle.pci_spec.proofs.Pairs.{member_back}
use Rattle.plan_spec.proofs.Planning.Faults.{moved_profile}
use Rattle.plan_spec.proofs.Planning.Fit.{after_moved, moved_start}
use Rattle.plan_spec.proofs.Planning.Stop.{stop_anywhere, stop_once_closed, staged_closes, staged_rises}

same_slots : (s t : System) → AllZip IsMoved s t → map (λ (f : Function). f.slot) t ≡ map (λ (f : Function). f.slot) s
same_slots [] [] pairs = refl
same_slots [] (y ∷ t) pairs = absurd pairs
same_slots (x ∷ s) [] pairs = absurd pairs
same_slots (x ∷ s) (y ∷ t) (m, rest) =
    ap (λ slot. slot ∷ map (λ (f : Function). f.slot) t) m.slot ∙ ap (λ slots. x.slot ∷ slots) (same_slots s t rest)

pub moved_system : (s t : System) → AllZip IsMoved s t → IsSystem s → IsSystem t
moved_system s t pairs system = record {
  each = All-weaker (Contains t) IsFunction
      (λ g listed.
      let found = member_back IsMoved s t pairs g listed in
      let m = found.2 in
      let is : IsFunction found.0 = All-contains IsFunction s found.0 system.each found.1 in
      record { slot = subst IsSlot (sym m.slot) is.slot; image = m.image; probe = subst IsImage (sym m.probe) is.probe })
      t (All-contains_itself t);
  rising = subst IsRising (sym (same_slots s t pairs)) system.rising;
}

pub kept : (roots : List ℕ) (s : System) (writes : List Write) → IsSystem s → IsNested roots s → IsInProfile roots s → HasChains s → All (FitsAt s) writes → (k : ℕ) → IsKept roots s (system_after s (take k writes))
kept roots s writes system nested profile chains fits k =
    let images = images_of s system in
    let pairs = after_moved s s writes images fits (moved_start s images) k in
    let t = system_after s (take k writes) in
    record {
      moved = pairs;
      system = moved_system s t pairs system;
      profile = moved_profile roots s t system chains pairs profile;
      nested = moved_nested roots s t system pairs nested;
      chains = moved_chains s t system pairs chains;
    }

pub kept_at_end : (roots : List ℕ) (s : System) (writes : List Write) → IsSystem s → IsNested roots s → IsInProfile roots s → HasChains s → All (FitsAt s) writes → IsKept roots s (system_after s writes)
kept_at_end roots s writes system nested profile chains fits =
    subst (λ ws. IsKept roots s (system_after s ws)) (take_all (length writes) writes (omega arith)) (kept roots s writes system nested profile chains fits (length writes))

sound_of : (roots : List ℕ) (s t : System) → IsSafe roots t → IsKept roots s t → IsSound roots t
sound_of roots s t safe kept_of = record { single = safe.single; home = safe.home; nested = kept_of.nested; profile = kept_of.profile; chains = kept_of.chains }

pub whole : (roots : List ℕ) (s : System) (closing registers opening : List Write) → IsSystem s → IsNested roots s → IsInProfile roots s → HasChains s → IsSafe roots s
    → IsStaged s closing registers opening → All (FitsAt s) (closing ++ (registers ++ opening))
    → IsSafe roots (system_after s (closing ++ (registers ++ opening)))
    → (k : ℕ) → IsSound roots (system_after s (take k (closing ++ (registers ++ opening))))
whole roots s closing registers opening system nested profile chains safe staged fits end k =
    let all = closing ++ (registers ++ opening) in
    let last = kept_at_end roots s all system nested profile chains fits in
    sound_of roots s (system_after s (take k all))
    (stop_anywhere roots s closing registers opening system nested safe (staged_closes s closing registers opening staged) staged.aside (staged_rises s closing registers opening staged) last.system last.nested end k)
    (kept roots s all system nested profile chains fits k)

pub once_closed : (roots : List ℕ) (s : System) (closing registers opening : List Write) → IsSystem s → IsNested roots s → IsInProfile roots s → HasChains s
    → IsStaged s closing registers opening → All (FitsAt s) (closing ++ (registers ++ opening))
    → IsSafe roots (system_after s (closing ++ (registers ++ opening)))
    → (k : ℕ) → length closing ≤ k
    → IsSound roots (system_after s (take k (closing ++ (registers ++ opening))))
once_closed roots s closing registers opening system nested profile chains staged fits end k past =
    let all = closing ++ (registers ++ opening) in
    let last = kept_at_end roots s all system nested profile chains fits in
    sound_of roots s (system_after s (take k all))
    (stop_once_closed roots s closing registers opening system (staged_closes s closing registers opening staged) staged.aside (staged_rises s closing registers opening staged) last.system last.nested end k past)
    (kept roots s all system nested profile chains fits k)
