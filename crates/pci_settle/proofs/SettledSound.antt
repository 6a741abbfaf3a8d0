-- What settling comes to is sound, and its writes may stop, as the laws have it of what can be settled: as told, too.
use Rattle.std.proofs.Common.{◌≡◌, ◌≤◌, ◌⊎◌, inl, inr, ℕ, List, take, length, sym, ◌∙◌, ap, subst}
use Rattle.std.specs.List.{All, Contains}
use Rattle.pci_spec.specs.Text.{Block}
use Rattle.pci_spec.specs.Sound.{IsSound}
use Rattle.pci_spec.specs.System.{System, system_of}
use Rattle.pci_spec.specs.Machine.{Write, system_after}
use Rattle.plan_spec.specs.Planning.Fitting.{FitsAt}
use Rattle.settle_spec.specs.Lists.{Request}
use Rattle.settle_spec.specs.Parts.{system_parts}
use Rattle.settle_spec.specs.Kept.{Kept}
use Rattle.settle_spec.specs.Keeping.Writes.{closings, settle_writes}
use Rattle.settle_laws.specs.StandingTold.Kept.{LinesAreForward}
use Rattle.settle_laws.specs.Keeping.PlacesLaws.{CanSettle}
use Rattle.settle_laws.specs.ToldSoundLaws.{IsSoundAsTold, IsToldOf, KeepsTold, CanSettleTold}
use Rattle.settle_laws.proofs.Keeping.SettledSound.{settled_sound}
use Rattle.settle_laws.proofs.Keeping.Stopping.{stop_sound, writes_fit, writes_settle}
use Rattle.settle_laws.proofs.Told.Always.{always_is_reached}
use Rattle.settle_laws.proofs.Told.OffLines.{settled_off_lines}
use Rattle.settle_laws.proofs.Told.Sound.{told_sound}
use Rattle.settle_laws.proofs.Told.Stops.{told_stops}
use Rattle.pci_tree.specs.Admission.{Admission, IsAdmitted}
use Rattle.pci_place.specs.Above.{system_in}
use Rattle.pci_plan.specs.Moves.{IsMove}
use Rattle.pci_settle.specs.AsTold.{ReachesAlways, EndsOffLines}
use Rattle.pci_settle.specs.Dumps.{IsSettledDump}
use Rattle.pci_settle.proofs.RegisterWrites.{of_settling}

module _ (a : Admission) (admitted : IsAdmitted a) (q : Request) (roots_are : q.roots ≡ a.roots) (keep : Kept) (can : CanSettle q (system_in a) keep) where
  abbrev s : System
  s = system_in a

  module _ (dump : List Block) (is : IsSettledDump q keep a dump) where
    pub dump_sound : IsSound a.roots (system_of dump a.probe)
    dump_sound = subst (λ roots. IsSound roots (system_of dump a.probe)) roots_are (subst (IsSound q.roots) (sym is.system) (settled_sound q s keep can))

    module _ (writes : List Write) (are : writes ≡ settle_writes q s keep) where
      pub writes_reach : system_after s writes ≡ system_of dump a.probe
      writes_reach = ap (system_after s) are ∙ writes_settle q s keep can ∙ sym is.system

      pub writes_stop : (count : ℕ) → count ≡ length (closings q s keep s) → (k : ℕ)
          → (count ≤ k) ⊎ IsSound a.roots s → IsSound a.roots (system_after s (take k writes))
      writes_stop count counted k from =
          subst (λ roots. IsSound roots (system_after s (take k writes))) roots_are
          (subst (λ ws. IsSound q.roots (system_after s (take k ws))) (sym are)
          (stop_sound q s keep can k
          (elim (subst (λ n. (n ≤ k) ⊎ IsSound a.roots s) counted from) [
            | inl past ↦ inl past
            | inr sound ↦ inr (subst (λ roots. IsSound roots s) (sym roots_are) sound)
          ])))

      -- so they are what can be put onto a machine
      pub settled_moves : (count : ℕ) → count ≡ length (closings q s keep s) → IsMove record { start = a; dump = dump; writes = writes; safe_from = count }
      settled_moves count counted = record {
        admitted = admitted;
        registers = λ w has. of_settling q s keep can w (subst (λ ws. Contains ws w) are has);
        fits = subst (All (FitsAt s)) (sym are) (writes_fit q s keep can);
        reached = writes_reach;
        sound = dump_sound;
        stops = λ k from. writes_stop count counted k (elim from [ inl sound ↦ inr sound | inr past ↦ inl past ]);
      }

  -- ---- with what is told

  module _ (dump : List Block) (is : IsSettledDump q keep a dump) where
    pub dump_off_lines : LinesAreForward q → EndsOffLines q s (system_of dump a.probe)
    dump_off_lines forward r x has is_told keeps =
        let h = settled_off_lines q s keep can forward r x (subst (λ t. Contains (system_parts q t) r) is.system has) is_told keeps in
        record {
          f = h.f;
          listed = h.listed;
          slot_is = h.slot_is;
          off = h.stood.off;
          stood = h.stood.stood;
          first = h.stood.first;
          shares = h.stood.shares;
        }

  module _ (told : IsToldOf q s) (keeps : KeepsTold q s keep) where
    all : CanSettleTold q s keep
    all = record { can = can; told = told; keeps = keeps }

    pub dump_as_told : (dump : List Block) → IsSettledDump q keep a dump → IsSoundAsTold q (system_of dump a.probe)
    dump_as_told dump is = subst (IsSoundAsTold q) (sym is.system) (told_sound q s keep all)

    module _ (writes : List Write) (are : writes ≡ settle_writes q s keep) where
      pub stop_as_told : (count : ℕ) → count ≡ length (closings q s keep s) → (k : ℕ)
          → (count ≤ k) ⊎ IsSoundAsTold q s → IsSoundAsTold q (system_after s (take k writes))
      stop_as_told count counted k from =
          subst (λ ws. IsSoundAsTold q (system_after s (take k ws))) (sym are)
          (told_stops q s keep all k (subst (λ n. (n ≤ k) ⊎ IsSoundAsTold q s) counted from))

      pub stop_reaches : (k : ℕ) → ReachesAlways q (system_after s (take k writes))
      stop_reaches k = subst (λ ws. ReachesAlways q (system_after s (take k ws))) (sym are)
          (λ x at is_told always inside. always_is_reached q s keep all k x at is_told always inside)
