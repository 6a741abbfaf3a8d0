-- The writes by which a system is settled with slots: they lead to the result, which is sound, and can stop.
use Rattle.std.proofs.Common.{◌≡◌, ℕ, ◌≤◌, ◌⊎◌, true, length, take, ◌∙◌, subst}
use Rattle.std.specs.List.{All}
use Rattle.pci_spec.specs.System.{System}
use Rattle.pci_spec.specs.Machine.{system_after}
use Rattle.pci_spec.specs.Sound.{IsSound}
use Rattle.plan_spec.specs.Planning.Fitting.{FitsAt}
use Rattle.settle_spec.specs.Lists.{Request}
use Rattle.settle_spec.specs.Writes.{Settled}
use Rattle.settle_spec.specs.Keeping.Writes.{settle_writes}
use Rattle.settle_spec.specs.Growing.{settle_growing}
use Rattle.settle_spec.specs.Sparing.{without_slots, is_settled, placing_request, settle_sparing}
use Rattle.settle_spec.specs.SpareLaws.{kept_sparing, result_sparing}
use Rattle.settle_laws.specs.GrowingLaws.{CanBeAsked}
use Rattle.settle_laws.specs.SparingLaws.{sparing_closings}
use Rattle.settle_laws.specs.Keeping.PlacesLaws.{CanSettle}
use Rattle.settle_laws.proofs.Told.Wished.{can_all, settled_by_writes, told_spares_refuse_no_more}
use Rattle.settle_laws.proofs.Wishing.Refused.{admitted_of}
use Rattle.settle_laws.proofs.Keeping.SettledSound.{settled_sound}
use Rattle.settle_laws.proofs.Keeping.Stopping.{writes_fit, writes_settle}
use Rattle.settle_laws.proofs.Wishing.Sparing.{placing_roots, settled_sparing_gives, settling_sparing_can_stop, sparing_is_wished}

pub record IsWritten (q : Request) (s : System) : Type 0 where
  pub can : CanSettle (placing_request q s) s (kept_sparing q s)
  pub settled : settle_sparing q s ≡ Settled (settle_writes (placing_request q s) s (kept_sparing q s))
  pub fits : All (FitsAt s) (settle_writes (placing_request q s) s (kept_sparing q s))
  pub reached : system_after s (settle_writes (placing_request q s) s (kept_sparing q s)) ≡ result_sparing q s
  pub sound : IsSound q.roots (result_sparing q s)
  pub stops : (n : ℕ) → (length (sparing_closings q s) ≤ n) ⊎ IsSound q.roots s
      → IsSound q.roots (system_after s (take n (settle_writes (placing_request q s) s (kept_sparing q s))))

pub settled_is_written : (q : Request) (s : System) → CanBeAsked q s → is_settled (settle_sparing q s) ≡ true → IsWritten q s
settled_is_written q s may settles =
    let p = placing_request q s in
    let j = kept_sparing q s in
    let both = settled_sparing_gives q s settles in
    let can : CanSettle p s j = (can_all q s (admitted_of q s may) settles).then in
    let is : settle_sparing q s ≡ Settled (settle_writes p s j) = sparing_is_wished q s both.1 ∙ settled_by_writes p s j both.0 in
    record {
      can = can;
      settled = is;
      fits = writes_fit p s j can;
      reached = writes_settle p s j can;
      sound = subst (λ roots. IsSound roots (result_sparing q s)) (placing_roots q s) (settled_sound p s j can);
      stops = λ n from. settling_sparing_can_stop q s (settle_writes p s j) n may is from;
    }

-- so it is where it is settled without slots
pub written_beside : (q : Request) (s : System) → CanBeAsked q s → is_settled (settle_growing (without_slots q) s) ≡ true → IsWritten q s
written_beside q s may alone = settled_is_written q s may (told_spares_refuse_no_more q s (admitted_of q s may) alone)
