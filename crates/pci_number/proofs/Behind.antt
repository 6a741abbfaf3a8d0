-- A bridge behind which all have their numbers, whether there are bridges behind it or not.
use Rattle.std.proofs.Common.{◌≡◌, ℕ, ◌+◌, ◌<◌, ◌≤◌, Bool, true, false, arith, subst, List}
use Rattle.pci_spec.specs.Slot.{Slot}
use Rattle.pci_number.specs.Board.{Board, HasOneAnswer}
use Rattle.pci_number.specs.Steps.{IsBusOpened}
use Rattle.pci_number.specs.Few.{IsOpenFew, IsBusFew}
use Rattle.pci_number.specs.Walked.{IsBusNumbered, outset}
use Rattle.pci_number.specs.Stood.{Adds}
use Rattle.pci_number.specs.declared.walk.Walk.{Walk}
use Rattle.pci_number.proofs.Few.{IsBegunFew, begun_few_alone, begun_few_wide}
use Rattle.pci_number.proofs.Showing.{IsOpenOk, IsOpenEnd}
use Rattle.pci_number.proofs.Standing.{Bridge, IsBusOk, stood_here, stood_wide}
use Rattle.pci_number.proofs.Walking.{one_more, IsBegun, begun_alone, begun_wide}

-- what is known where it leads on: of the board, of the writes that were made, of the boards that stood, of failures
pub record Behind (spare : ℕ) (now far : Board) (slot : Slot) (last : ℕ) (walk after : Walk) (total far_by : ℕ) (old new newest : List Board) (more : Bool) (failed far_failed : ℕ) : Type 0 where
  pub begun : IsBegun spare now far slot last walk after
  pub few : IsBegunFew now slot last walk.taken total far_by
  pub stood : (b : Bridge now slot last walk old new more) → Adds HasOneAnswer old newest
  pub above : walk.taken + 1 ≤ after.taken
  pub counted : far_failed ≡ failed

-- a bridge that was opened on the board as it was looked at
module _ (now seen_on : Board) (slot : Slot) (bus last : ℕ) (same : seen_on ≡ now) where
  pub is_open : (later : Board) (b answer : Bool) → b ≡ answer → IsBusOpened seen_on slot bus last b later → IsBusOpened now slot bus last answer later
  is_open later b answer is gets = subst (λ x. IsBusOpened x slot bus last answer later) same (subst (λ x. IsBusOpened seen_on slot bus last x later) is gets)

  -- the writes that it took
  pub few_from : (total made opened_by : ℕ) → made ≡ total → IsOpenFew seen_on slot bus last made opened_by → IsOpenFew now slot bus last total opened_by
  few_from total made opened_by none few = subst (λ x. IsOpenFew x slot bus last total opened_by) same (subst (λ x. IsOpenFew seen_on slot bus last x opened_by) none few)

  -- such boards stood meanwhile
  pub open_ok : (stood old new : List Board) → old ≡ stood → IsOpenOk seen_on slot bus last old new → IsOpenOk now slot bus last stood new
  open_ok stood old new same_history ok = subst (λ h. IsOpenOk now slot bus last h new) same_history (subst (λ b. IsOpenOk b slot bus last old new) same ok)

  pub open_end : (stood old new : List Board) → old ≡ stood → IsOpenEnd seen_on slot bus last old new → IsOpenEnd now slot bus last stood new
  open_end stood old new same_history ends = subst (λ h. IsOpenEnd now slot bus last h new) same_history (subst (λ b. IsOpenEnd b slot bus last old new) same ends)

module _ (spare : ℕ) (now mid : Board) (slot : Slot) (last : ℕ) (walk : Walk) (total opened_by : ℕ) (old new newer : List Board) (more : Bool) (failed : ℕ) (left : walk.taken < last) (opened_few : IsOpenFew now slot (walk.taken + 1) last total opened_by) (opened_ok : IsOpenOk now slot (walk.taken + 1) last new newer) where
  pub behind_alone : (opened_failed : ℕ) → IsBusOpened now slot (walk.taken + 1) last false mid → opened_failed ≡ failed → Behind spare now mid slot last walk (one_more walk) total opened_by old new newer more failed opened_failed
  behind_alone opened_failed gets none_failed = record {
    begun = begun_alone spare now mid slot last walk left gets;
    few = begun_few_alone now slot last walk total opened_by left opened_few;
    stood = λ b. stood_here now slot last walk old new newer more b left opened_ok;
    above = omega arith;
    counted = none_failed;
  }

  pub behind_wide : (far : Board) (after : Walk) (far_by far_failed : ℕ) (newest : List Board) → IsBusOpened now slot (walk.taken + 1) last true mid → IsBusNumbered mid (outset (walk.taken + 1) last spare (one_more walk)) after far → walk.taken + 1 ≤ after.taken → IsBusFew mid (outset (walk.taken + 1) last spare (one_more walk)) opened_by far_by → IsBusOk mid (walk.taken + 1) last (one_more walk) newer newest → far_failed ≡ failed → Behind spare now far slot last walk after total far_by old new newest more failed far_failed
  behind_wide far after far_by far_failed newest gets bus up bus_few bus_ok none_failed = record {
    begun = begun_wide spare now mid far slot last walk after left gets bus up;
    few = begun_few_wide spare now mid slot last walk total opened_by far_by left gets opened_few bus_few;
    stood = λ b. stood_wide now mid slot last walk old new newer newest more b left gets opened_ok bus_ok;
    above = up;
    counted = none_failed;
  }
