-- So it is where settling with room behind slots ends in writes.
use Rattle.std.proofs.Common.{◌≡◌, ◌⊎◌, ◌≤◌, ℕ, false, true, List, length, take, sym, ◌∙◌, ap, refl, subst}
use Rattle.std.specs.List.{All, Contains}
use Rattle.std.proofs.lemmas.Bool.{cond_both}
use Rattle.pci_spec.specs.Slot.{same_slot}
use Rattle.pci_spec.specs.System.{Function, System, is_bridge}
use Rattle.pci_spec.specs.Machine.{Write, system_after}
use Rattle.plan_spec.specs.Planning.Fitting.{FitsAt}
use Rattle.judge_spec.specs.Given.{Given}
use Rattle.judge_spec.specs.ToldClaims.{Told}
use Rattle.judge_spec.specs.ToldSound.{IsSound}
use Rattle.settle_spec.specs.Kept.{Kept}
use Rattle.settle_spec.specs.Lists.{Request}
use Rattle.settle_spec.specs.Keeping.Registers.{settled}
use Rattle.settle_spec.specs.Keeping.Writes.{closings, settle_writes, settle_keeping}
use Rattle.settle_spec.specs.Sparing.{without_slots, have_spares, placing_request, grants, settle_sparing}
use Rattle.settle_spec.specs.Writes.{Settled}
use Rattle.settle_laws.specs.ToldSoundLaws.{CanAskTold, CanSettleTold, IsToldOf}
use Rattle.settle_laws.proofs.Keeping.Stopping.{writes_fit, writes_settle}
use Rattle.settle_laws.proofs.Told.Ended.{told_end}
use Rattle.settle_laws.proofs.Told.Settling.{beside_wishes, placing_admitted, settled_can, sparing_can}
use Rattle.settle_answer_laws.specs.StopLaws.{AreToldInRequest, HasRange, GivenSparingCanStop}
use Rattle.settle_answer_laws.proofs.DeviceWrites.{IsDeviceWrite, IsSettledWrite, device_write, settled_write}
use Rattle.settle_answer_laws.proofs.GivenStops.{given_stops}

module _ (q : Request) (s : System) (writes : List Write) (may : CanAskTold q s) (ended : settle_sparing q s ≡ Settled writes) where
  abbrev p : Request
  p = placing_request q s

  abbrev j : Kept
  j = (grants q s).kept

  -- what is asked of new windows has the same roots, and is told the same
  same_roots : p.roots ≡ q.roots
  same_roots = cond_both (have_spares q s) q (without_slots q) (λ r. r.roots ≡ q.roots) (λ spares. refl) (λ none. refl)

  same_told : p.told ≡ q.told
  same_told = cond_both (have_spares q s) q (without_slots q) (λ r. r.told ≡ q.told) (λ spares. refl) (λ none. refl)

  placing_told : IsToldOf q s → IsToldOf p s
  placing_told told = cond_both (have_spares q s) q (without_slots q) (λ r. IsToldOf r s) (λ spares. told)
      (λ none. record { lawful = told.lawful; awake = told.awake; listed = told.listed; led_to = told.led_to })

  beside : settle_keeping p s j ≡ Settled writes
  beside = beside_wishes q s may.admitted writes ended

  can : CanSettleTold p s j
  can = settled_can p s j writes beside record { admitted = placing_admitted q s may.admitted; told = placing_told may.told } (sparing_can q s may.admitted writes ended).1.sound

  same_writes : settle_writes p s j ≡ writes
  same_writes = (told_end p s j writes beside).same

  result_is : system_after s writes ≡ settled p s j
  result_is = ap (system_after s) (sym same_writes) ∙ writes_settle p s j can.can

  -- each write fits the function at its slot
  pub sparing_fits : All (FitsAt s) writes
  sparing_fits = subst (All (FitsAt s)) same_writes (writes_fit p s j can.can)

  -- it is of Command or of an address register
  pub sparing_write : (u : Write) → Contains writes u → IsSettledWrite u
  sparing_write u has = settled_write p s j u (subst (λ ws. Contains ws u) (sym same_writes) has)

  -- and a device at Command, or at a register that has address bits
  pub sparing_device_write : (h : Function) → Contains s h → is_bridge h ≡ false → (u : Write) → Contains writes u → same_slot h.slot u.slot ≡ true → IsDeviceWrite h u
  sparing_device_write h listed device u has here = device_write p s j can.can h listed device u here (subst (λ ws. Contains ws u) (sym same_writes) has)

  module _ (told : Told) (given : Given) (among : AreToldInRequest q told) where
    among_placing : AreToldInRequest p told
    among_placing r has = subst (λ (t : Told). HasRange t.ranges r) (sym same_told) (among r has)

    stops : (n : ℕ) → IsSound told given q.roots (system_after s writes) → (length (closings p s j s) ≤ n) ⊎ IsSound told given q.roots s → IsSound told given q.roots (system_after s (take n writes))
    stops n end from =
        subst (λ roots. IsSound told given roots (system_after s (take n writes))) same_roots
        (subst (λ ws. IsSound told given p.roots (system_after s (take n ws))) same_writes
        (given_stops p s j can told given among_placing n
        (subst (IsSound told given p.roots) result_is (subst (λ roots. IsSound told given roots (system_after s writes)) (sym same_roots) end))
        (subst (λ roots. (length (closings p s j s) ≤ n) ⊎ IsSound told given roots s) (sym same_roots) from)))

-- The law.
pub given_sparing_stops : GivenSparingCanStop
given_sparing_stops q s writes told given n may ended among end from = stops q s writes may ended told given among n end from
