-- Where no word says that bridges take what nobody claims, none does.
use Rattle.std.proofs.Common.{◌≡◌, ℕ, ◌<◌, Bool, false, List, [], ◌∷◌, None, Some, map, refl, sym, ◌∙◌, ap, subst, arith, inl, inr, cond, ◌⊎◌}
use Rattle.std.specs.List.{Contains, filter}
use Rattle.pci_spec.specs.Slot.{Slot}
use Rattle.pci_spec.specs.Text.{Block, IsDump}
use Rattle.pci_spec.specs.System.{Function, System, system_of}
use Rattle.pci_spec.specs.Fault.{SlotsDiffer}
use Rattle.pci_spec.specs.Fault as plain
use Rattle.pci_spec.specs.Order.{Judging, phase_key, phase_of}
use Rattle.pci_spec.proofs.Members.{in_head}
use Rattle.judge_spec.specs.Given.{Given, TakingBridge}
use Rattle.judge_spec.specs.ToldClaims.{Told}
use Rattle.judge_spec.specs.ToldFault.{Fault}
use Rattle.judge_spec.specs.ToldFaultLines.{AreAllFaults, AreJudged, AreListed, HasNotListed, IsEarlyLine, IsEarlyThere}
use Rattle.judge_spec.specs.Unclaimed.{AreTaking}
use Rattle.judge_spec.specs.UnclaimedLaws.{with_taking}
use Rattle.judge_spec.proofs.DeterminedTexts.{same_slots}
use Rattle.judge_spec.specs.Taken.{takes_by}
use Rattle.judge_spec.specs.ModelWords as model
use Rattle.pci_faults.specs.Every.{AreBefore, AreReadyForJudging}
use Rattle.pci_model.specs.WordsValue.{words_value}
use Rattle.pciplan_tasks.specs.FaultsAnswers.{AreTold}
use Rattle.pciplan_tasks.specs.FaultsLaws.{NothingSaidTakesNothing, NothingTakenTellsTheSame}

-- ---- what is judged

module _ (told : Told) (given : Given) (roots : List ℕ) (dump probe : List Block) where
  pub ready_of_judged : (faults : List Fault) → AreJudged told given roots dump probe faults → AreReadyForJudging told roots dump probe
  ready_of_judged faults h = record { listed = h.listed; none_earlier = h.none_earlier }

  some_listed : (slots : List Slot) → (slots ≡ [] → ⊥) → ((slot : Slot) → Contains slots slot → HasNotListed told dump probe slot) → AreListed told dump probe → ⊥
  some_listed [] some each listed = some refl
  some_listed (slot ∷ rest) some each listed = listed slot (each slot (in_head slot rest))

  some_early : (early : List plain.Fault) → (early ≡ [] → ⊥) → ((f : plain.Fault) → Contains early f → IsEarlyLine told roots dump probe f)
      → ((f : plain.Fault) → phase_of f < phase_key Judging → IsEarlyThere told roots dump probe f → ⊥) → ⊥
  some_early [] some each none = some refl
  some_early (f ∷ rest) some each none = let line = each f (in_head f rest) in none f line.early line.there

  -- where faults of an earlier phase are told nothing is judged
  pub not_ready : (faults : List Fault) → IsDump dump → IsDump probe → AreBefore told given roots dump probe faults → AreReadyForJudging told roots dump probe → ⊥
  not_ready faults is_dump is_probe (inl h) ready = h.slots (same_slots dump probe is_dump is_probe (λ slot alone. ready.none_earlier (SlotsDiffer slot) (omega arith) alone))
  not_ready faults is_dump is_probe (inr (inl h)) ready = some_listed h.slots h.some h.all.each ready.listed
  not_ready faults is_dump is_probe (inr (inr h)) ready = some_early h.early h.some h.all.each ready.none_earlier

  before_or_ready : (faults : List Fault) → AreAllFaults told given roots dump probe faults → AreBefore told given roots dump probe faults ⊎ AreReadyForJudging told roots dump probe
  before_or_ready faults (inl h) = inl (inl h)
  before_or_ready faults (inr (inl h)) = inl (inr (inl h))
  before_or_ready faults (inr (inr (inl h))) = inl (inr (inr h))
  before_or_ready faults (inr (inr (inr h))) = inr (ready_of_judged faults h)

-- ---- nothing taken

no_bridges : (told : Told) (given : Given) (s : System) (bridges : List TakingBridge) → AreTaking told given s [] bridges → bridges ≡ []
no_bridges told given s [] taking = refl
no_bridges told given s (b ∷ rest) taking = absurd taking

same_given : (given : Given) (bridges : List TakingBridge) → bridges ≡ given.unclaimed → with_taking bridges given ≡ given
same_given given bridges same = λ i. record given { unclaimed = same i }

pub nothing_taken_tells_the_same : NothingTakenTellsTheSame
nothing_taken_tells_the_same told given roots why dump probe answer is_dump is_probe unclaimed h =
    let none : h.bridges ≡ [] = elim (before_or_ready told (with_taking h.bridges given) roots dump probe h.are.faults h.are.all) [
      | inl before ↦ h.taken.unjudged (not_ready told (with_taking h.bridges given) roots dump probe h.are.faults is_dump is_probe before)
      | inr ready ↦ no_bridges told given (system_of dump probe) h.bridges (h.taken.judged ready)
    ] in
    subst (λ (g : Given). AreTold told g roots why dump probe answer) (same_given given h.bridges (none ∙ sym unclaimed)) h.are

-- ---- nothing said

none_taken : (w : model.Words) (s : System) (f : Function) → w.unclaimed ≡ false → takes_by w s f ≡ false
none_taken w s f unsaid = ap (λ counts. takes_by (record w { unclaimed = counts }) s f) unsaid

none_filtered : {X : Type 0} (P : X → Bool) (items : List X) → ((x : X) → P x ≡ false) → filter P items ≡ []
none_filtered P [] none = refl
none_filtered P (x ∷ rest) none = ap (λ keep. cond keep (x ∷ filter P rest) (filter P rest)) (none x) ∙ none_filtered P rest none

pub nothing_said_takes_nothing : NothingSaidTakesNothing
nothing_said_takes_nothing None s unsaid = refl
nothing_said_takes_nothing (Some words) s unsaid =
    let w = words_value words in
    ap (map (λ f. f.slot)) (none_filtered (takes_by w s) s (λ f. none_taken w s f unsaid))
