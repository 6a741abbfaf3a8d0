-- A planned system that is sound, with the writes that lead to it, is all that a plan promises.
use Rattle.std.proofs.Common.{◌≡◌, ◌⊎◌, ℕ, suc, ◌+◌, ◌≤◌, inl, inr, List, [], ◌∷◌, ◌++◌, refl, Bool, true, false, cond, arith, sym, ◌∙◌, ap, subst, map, length, take}
use Rattle.std.specs.List.{All, AllZip, Contains, filter}
use Rattle.std.proofs.lemmas.Bool.{cases_Bool, cases_eq}
use Rattle.std.proofs.lemmas.List.{length-append}
use Rattle.std.proofs.lemmas.List.Elements.{All-nil, All-cons}
use Rattle.pci_spec.specs.System.{System, Function, IsSystem}
use Rattle.pci_spec.specs.Bus.{IsNested}
use Rattle.pci_spec.specs.Sound.{HasChains, IsInProfile, IsSound}
use Rattle.pci_spec.specs.Machine.{Write, system_after}
use Rattle.plan_spec.specs.Plan.{Pools, IsMoved, IsPlanned}
use Rattle.plan_spec.specs.Place.{IsPlaced}
use Rattle.plan_spec.specs.PlanPromise.{changes_between, IsSafeFrom, StopsSafely, EachWriteChanges, with_rom_on, IsPlanOf}
use Rattle.plan_spec.specs.Planning.Safety.{is_on}
use Rattle.plan_spec.specs.Planning.PlanWrites.{Change, olds, news, closing_writes, plan_writes}
use Rattle.plan_spec.specs.Planning.Laws.{AreChanges}
use Rattle.pci_spec.proofs.Members.{in_filter_from}
use Rattle.plan_spec.proofs.Planning.Safe.{off_safe}
use Rattle.plan_spec.proofs.Planning.Staging.{closing_write}
use Rattle.plan_spec.proofs.Planning.Reached.{writes_reach}
use Rattle.plan_spec.proofs.Planning.EachChanges.{each_changes, few_writes}
use Rattle.plan_spec.proofs.Planning.Stops.{plan_can_stop}

-- ---- the changes between two states

pub olds_of : (s t : System) → AllZip IsMoved s t → olds (changes_between s t) ≡ s
olds_of [] [] pairs = refl
olds_of [] (g ∷ t) pairs = absurd pairs
olds_of (f ∷ s) [] pairs = absurd pairs
olds_of (f ∷ s) (g ∷ t) (m, rest) = ap (λ (u : System). f ∷ u) (olds_of s t rest)

pub news_of : (s t : System) → AllZip IsMoved s t → news (changes_between s t) ≡ t
news_of [] [] pairs = refl
news_of [] (g ∷ t) pairs = absurd pairs
news_of (f ∷ s) [] pairs = absurd pairs
news_of (f ∷ s) (g ∷ t) (m, rest) = ap (λ (u : System). g ∷ u) (news_of s t rest)

each_moved : (s t : System) → AllZip IsMoved s t → All (λ (c : Change). IsMoved c.old c.new) (changes_between s t)
each_moved [] [] pairs = All-nil (λ (c : Change). IsMoved c.old c.new)
each_moved [] (g ∷ t) pairs = absurd pairs
each_moved (f ∷ s) [] pairs = absurd pairs
each_moved (f ∷ s) (g ∷ t) (m, rest) = All-cons (λ (c : Change). IsMoved c.old c.new) record { old = f; new = g } (changes_between s t) m (each_moved s t rest)

pub are_changes : (s t : System) → IsSystem s → AllZip IsMoved s t → AreChanges (changes_between s t)
are_changes s t system pairs = record { system = subst IsSystem (sym (olds_of s t pairs)) system; moved = each_moved s t pairs }

-- ---- closing writes

closing_step : (b : Bool) (w : Write) (f : Function) (ws : List Write) (fs : List Function) → length ws ≡ length fs → length (ws ++ cond b (w ∷ []) []) ≡ length (cond b (f ∷ fs) fs)
closing_step true w f ws fs same = let e = length-append ws (w ∷ []) in omega (arith, e, same)
closing_step false w f ws fs same = let e = length-append ws [] in omega (arith, e, same)

-- a closing write for each function that is on
pub count_closing : (changes : List Change) → length (closing_writes changes) ≡ length (filter is_on (olds changes))
count_closing [] = refl
count_closing (c ∷ changes) = closing_step (is_on c.old) (closing_write c) c.old (closing_writes changes) (filter is_on (olds changes)) (count_closing changes)

none_listed : (s : System) → length (filter is_on s) ≡ 0 → (f : Function) → Contains s f → is_on f ≡ false
none_listed s none f listed = elim (cases_Bool (is_on f)) [
  | inr off ↦ off
  | inl on ↦
      let there = in_filter_from is_on s f listed on in
      let less = there.1 in
      absurd (let impossible : ⊥ = omega (arith, less, none) in impossible)
]

-- ---- from where on a stop is safe

pub safe_from_sound : (roots : List ℕ) (s : System) (closings : ℕ) → IsSound roots s → IsSafeFrom roots s closings 0
safe_from_sound roots s closings sound = record { at_once = ((λ e. sound), (λ h. refl)); closed = λ unsound. absurd (unsound sound) }

module _ (roots : List ℕ) (s t : System) (pairs : AllZip IsMoved s t) (nested : IsNested roots s) (profile : IsInProfile roots s) (chains : HasChains s) where
  -- what has nothing to close is sound
  off_sound : length (closing_writes (changes_between s t)) ≡ 0 → IsSound roots s
  off_sound none =
      let count = count_closing (changes_between s t) in
      let same = ap (λ (u : System). length (filter is_on u)) (olds_of s t pairs) in
      let safe = off_safe roots s (none_listed s (omega (arith, none, count, same))) in
      record { single = safe.single; home = safe.home; nested = nested; profile = profile; chains = chains }

  pub safe_from_is : (n : ℕ) → (IsSound roots s × (n ≡ 0)) ⊎ ((IsSound roots s → ⊥) × (n ≡ length (closing_writes (changes_between s t))))
      → IsSafeFrom roots s (length (closing_writes (changes_between s t))) n
  safe_from_is n (inl (sound, at)) = subst (IsSafeFrom roots s (length (closing_writes (changes_between s t)))) (sym at) (safe_from_sound roots s (length (closing_writes (changes_between s t))) sound)
  safe_from_is n (inr (unsound, at)) = record { at_once = ((λ e. off_sound (sym at ∙ e)), (λ sound. absurd (unsound sound))); closed = λ h. at }

-- ---- the plan

module _ (s t : System) (system : IsSystem s) (pairs : AllZip IsMoved s t) where
  abbrev ws : List Write
  ws = plan_writes (changes_between s t)

  is : AreChanges (changes_between s t)
  is = are_changes s t system pairs

  reached : system_after s ws ≡ t
  reached = subst (λ (u : System). system_after u ws ≡ t) (olds_of s t pairs) (writes_reach (changes_between s t) is.system is.moved ∙ news_of s t pairs)

  each : EachWriteChanges s ws
  each = subst (λ (u : System). EachWriteChanges u ws) (olds_of s t pairs)
      (λ k less same.
      let next : suc k ≡ k + 1 = omega arith in
      each_changes (changes_between s t) is.system is.moved k less (ap (λ j. system_after (olds (changes_between s t)) (take j ws)) next ∙ same))

  module _ (roots : List ℕ) (nested : IsNested roots s) (profile : IsInProfile roots s) (chains : HasChains s) (sound : IsSound roots t) where
    stop_at : (k : ℕ) → (length (closing_writes (changes_between s t)) ≤ k) ⊎ IsSound roots s → IsSound roots (system_after s (take k ws))
    stop_at k from = subst (λ (u : System). (length (closing_writes (changes_between s t)) ≤ k) ⊎ IsSound roots u → IsSound roots (system_after u (take k ws))) (olds_of s t pairs)
        (plan_can_stop roots (changes_between s t) is (subst (IsNested roots) (sym (olds_of s t pairs)) nested) (subst (IsInProfile roots) (sym (olds_of s t pairs)) profile)
        (subst HasChains (sym (olds_of s t pairs)) chains) (subst (IsSound roots) (sym (news_of s t pairs)) sound) k) from

    stops : (n : ℕ) → IsSafeFrom roots s (length (closing_writes (changes_between s t))) n → StopsSafely roots s ws n
    stops n safe k past = elim (cases_eq n 0) [
      | inl once ↦ stop_at k (inr (safe.at_once.0 once))
      | inr later ↦ let closed = safe.closed (λ start. later (safe.at_once.1 start)) in stop_at k (inl (omega (arith, closed, past)))
    ]

pub plan_stands : (roots : List ℕ) (s t : System) (pools : Pools) (n : ℕ) → IsSystem s → IsNested roots s → IsInProfile roots s → HasChains s
    → IsPlanned s t pools → IsPlaced roots t pools → IsSound roots t → IsSound roots (map with_rom_on t) → IsSafeFrom roots s (length (closing_writes (changes_between s t))) n
    → IsPlanOf roots s t pools (plan_writes (changes_between s t)) n
plan_stands roots s t pools n system nested profile chains planned placed sound roms safe = record {
  planned = planned;
  placed = placed;
  sound = sound;
  roms = roms;
  writes = refl;
  reached = reached s t system planned.moved;
  changes = each s t system planned.moved;
  few = few_writes (changes_between s t);
  safe = safe;
  stops = stops s t system planned.moved roots nested profile chains sound n safe;
}
