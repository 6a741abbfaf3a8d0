-- What is at the front of the bytes that are held.
use Rattle.std.proofs.Common.{◌≡◌, ◌≢◌, ℕ, ◌+◌, ◌-◌, ◌<◌, ◌≤◌, List, [], ◌++◌, arith, sym, ◌∙◌, ap, subst, length, drop, take, Result, Err, IfErr}
use Rattle.std.specs.Prelude.{slice_range}
use Rattle.std.proofs.lemmas.List.{length-take, drop-take, drop-drop}
use Rattle.pci_dump.specs.declared.read_fault.ReadFault.{ReadFault}
use Rattle.pci_dump.specs.declared.read_fault.ReadFault.TheVariants as faults
use Rattle.pci_dump.specs.declared.parse.BlockFault.{BlockFault}
use Rattle.pci_dump.specs.declared.parse.BlockFault.TheVariants as stops
use Rattle.pci_dump.specs.BlockFault.{BlockStops}
use Rattle.pci_dump.specs.FaultAt.{fault_at}
use Rattle.pci_dump.specs.State.{Ahead, IsFaultAfter}
use Rattle.pci_dump.specs.Front.{HoldsFault}
use Rattle.pci_dump.specs.declared.ahead.Progress.TheVariants as stages
use Rattle.pci_dump.proofs.After.{fault_here, many_here}

-- what is held once some of it is taken
pub range_rest : (buf : List ℕ) (at end n : ℕ) → n ≤ length (slice_range buf at end) → slice_range buf (at + n) end ≡ drop n (slice_range buf at end)
range_rest buf at end n few =
    let t = length-take (end - at) (drop at buf) in
    let m : n + (end - (at + n)) ≡ end - at = omega (arith, few, t) in
    ap (λ (xs : List ℕ). take (end - (at + n)) xs) (sym (drop-drop n at buf)) ∙ sym (drop-take n (end - (at + n)) (drop at buf)) ∙ ap (λ (k : ℕ). drop n (take k (drop at buf))) m

fault_no_io : (count : ℕ) (stop : BlockFault) → fault_at count stop ≢ faults.Io
fault_no_io count stops.BadSlot e = absurd cc
fault_no_io count stops.BadTitle e = absurd cc
fault_no_io count (stops.BadLine r) e = absurd cc
fault_no_io count stops.NoBlank e = absurd cc
fault_no_io count stops.Order e = absurd cc
fault_no_io count (stops.Ended r) e = absurd cc
fault_no_io count stops.EndedFirst e = absurd cc

fault_no_memory : (count : ℕ) (stop : BlockFault) → fault_at count stop ≢ faults.Memory
fault_no_memory count stops.BadSlot e = absurd cc
fault_no_memory count stops.BadTitle e = absurd cc
fault_no_memory count (stops.BadLine r) e = absurd cc
fault_no_memory count stops.NoBlank e = absurd cc
fault_no_memory count stops.Order e = absurd cc
fault_no_memory count (stops.Ended r) e = absurd cc
fault_no_memory count stops.EndedFirst e = absurd cc

-- where a block stops
pub holds_stop : {A : Type 0} (old new : Ahead) (stop : BlockFault) (fault : ReadFault) (result : Result A ReadFault) → old.count < 4096 → BlockStops old.last old.held stop → fault ≡ fault_at old.count stop → result ≡ Err fault
    → new ≡ record old { progress = stages.Failed fault } → IfErr result (λ f. HoldsFault old new f)
holds_stop {A = A} old new stop fault result few stops_there fault_is result_is state =
    let there : HoldsFault old new fault = record {
      text = (λ more enough. subst (λ (f : ReadFault). IsFaultAfter old.count old.last (old.held ++ more) f) (sym fault_is) (fault_here old.last old.held more old.count stop few stops_there enough));
      state = state;
      no_io = (λ e. fault_no_io old.count stop (sym fault_is ∙ e));
      no_memory = (λ e. fault_no_memory old.count stop (sym fault_is ∙ e));
    } in
    subst (λ (r : Result A ReadFault). IfErr r (λ f. HoldsFault old new f)) (sym result_is) there

-- where bytes follow all the blocks that there may be
pub holds_many : {A : Type 0} (old new : Ahead) (result : Result A ReadFault) → old.count ≡ 4096 → old.held ≢ [] → result ≡ Err (faults.TooMany 73729)
    → new ≡ record old { progress = stages.Failed (faults.TooMany 73729) } → IfErr result (λ f. HoldsFault old new f)
holds_many {A = A} old new result full some result_is state =
    let there : HoldsFault old new (faults.TooMany 73729) = record {
      text = (λ more enough. many_here old.last old.held more old.count full some);
      state = state;
      no_io = (λ e. absurd cc);
      no_memory = (λ e. absurd cc);
    } in
    subst (λ (r : Result A ReadFault). IfErr r (λ f. HoldsFault old new f)) (sym result_is) there
