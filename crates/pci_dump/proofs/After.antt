-- The fault of a text from where a block stops.
use Rattle.std.proofs.Common.{refl, ◌≡◌, ◌≢◌, ◌⊎◌, inl, inr, Option, ℕ, ◌+◌, ◌*◌, ◌<◌, ◌≤◌, List, [], ◌∷◌, ◌++◌, arith, sym, ◌∙◌, ap, subst, length, append-nil}
use Rattle.pci_spec.specs.Slot.{Slot}
use Rattle.pci_spec.specs.Text.{Block, IsDump, text_of, IsFaultOf, TextFault, BadSlot, BadTitle, BadLine, NoBlank, Order, TooMany, Ended, line_ends}
use Rattle.pci_spec.specs.Stops.{Stops, EndsIn, InSlot, InTitleText, InLine, AtSlotEnd, last_slot}
use Rattle.pci_spec.proofs.Faults.{fault_slot, fault_order, fault_title, fault_line, fault_blank, fault_ended, fault_many}
use Rattle.pci_dump.specs.declared.parse.BlockFault.{BlockFault}
use Rattle.pci_dump.specs.declared.parse.BlockFault.TheVariants as stops
use Rattle.pci_dump.specs.BlockFault.{BlockStops, GoesOn}
use Rattle.pci_dump.specs.State.{IsFaultAfter}
use Rattle.pci_dump.specs.FaultAt.{fault_at}
use Rattle.pci_dump.proofs.Lengths.{ends_short}
use Rattle.pci_dump.specs.declared.read_fault.ReadFault.TheVariants as faults

at_line : (bytes : List ℕ) (fault : ℕ → TextFault) (a b : ℕ) → a ≡ b → IsFaultOf bytes (fault a) → IsFaultOf bytes (fault b)
at_line bytes fault a b e h = subst (λ (n : ℕ). IsFaultOf bytes (fault n)) e h

-- bytes that stop before their end, whatever follows
pub fault_after : (last : Option Slot) (bytes more : List ℕ) (count : ℕ) (stop : BlockFault) → count < 4096 → GoesOn stop → BlockStops last bytes stop → IsFaultAfter count last (bytes ++ more) (fault_at count stop)
fault_after last bytes more count stops.BadSlot few g s blocks d n l =
    at_line _ BadSlot _ _ (omega (arith, n)) (fault_slot blocks bytes more d (omega (arith, n, few)) (subst (λ (o : Option Slot). Stops o bytes InSlot) (sym l) s))
fault_after last bytes more count stops.BadTitle few g s blocks d n l =
    at_line _ BadTitle _ _ (omega (arith, n)) (fault_title blocks bytes more d (omega (arith, n, few)) (subst (λ (o : Option Slot). Stops o bytes InTitleText) (sym l) s))
fault_after last bytes more count (stops.BadLine r) few g s blocks d n l =
    at_line _ BadLine _ _ (omega (arith, n)) (fault_line blocks bytes more (1 + r) d (omega (arith, n, few)) (omega arith) (omega (arith, s.0)) (subst (λ (o : Option Slot). Stops o bytes (InLine (1 + r))) (sym l) s.1))
fault_after last bytes more count stops.NoBlank few g s blocks d n l =
    at_line _ NoBlank _ _ (omega (arith, n)) (fault_blank blocks bytes more d (omega (arith, n, few)) (subst (λ (o : Option Slot). Stops o bytes (InLine 17)) (sym l) s))
fault_after last bytes more count stops.Order few g s blocks d n l =
    at_line _ Order _ _ (omega (arith, n)) (fault_order blocks bytes more d (omega (arith, n, few)) (subst (λ (o : Option Slot). Stops o bytes AtSlotEnd) (sym l) s))
fault_after last bytes more count (stops.Ended r) few g s blocks d n l = absurd g
fault_after last bytes more count stops.EndedFirst few g s blocks d n l = absurd g

ended_after : (last : Option Slot) (bytes : List ℕ) (count k line : ℕ) → count < 4096 → EndsIn last bytes → line_ends bytes ≡ k → 18 * count + k + 1 ≡ line
    → (blocks : List Block) → IsDump blocks → length blocks ≡ count → last_slot blocks ≡ last → IsFaultOf (text_of blocks ++ bytes) (Ended line)
ended_after last bytes count k line few s e at blocks d n l =
    at_line (text_of blocks ++ bytes) Ended (18 * length blocks + line_ends bytes + 1) line (omega (arith, n, e, at)) (fault_ended blocks bytes d (omega (arith, n, few)) (subst (λ (o : Option Slot). EndsIn o bytes) (sym l) s))

-- all the bytes there are
pub fault_whole : (last : Option Slot) (bytes : List ℕ) (count : ℕ) (stop : BlockFault) → count < 4096 → BlockStops last bytes stop → IsFaultAfter count last bytes (fault_at count stop)
fault_whole last bytes count (stops.Ended r) few s = ended_after last bytes count (1 + r) _ few s.0 s.1 (omega arith)
fault_whole last bytes count stops.EndedFirst few s = ended_after last bytes count 0 _ few s.0 s.1 (omega arith)
fault_whole last bytes count stops.BadSlot few s = subst (λ (t : List ℕ). IsFaultAfter count last t (fault_at count stops.BadSlot)) (append-nil bytes) (fault_after last bytes [] count stops.BadSlot few tt s)
fault_whole last bytes count stops.BadTitle few s = subst (λ (t : List ℕ). IsFaultAfter count last t (fault_at count stops.BadTitle)) (append-nil bytes) (fault_after last bytes [] count stops.BadTitle few tt s)
fault_whole last bytes count (stops.BadLine r) few s = subst (λ (t : List ℕ). IsFaultAfter count last t (fault_at count (stops.BadLine r))) (append-nil bytes) (fault_after last bytes [] count (stops.BadLine r) few tt s)
fault_whole last bytes count stops.NoBlank few s = subst (λ (t : List ℕ). IsFaultAfter count last t (fault_at count stops.NoBlank)) (append-nil bytes) (fault_after last bytes [] count stops.NoBlank few tt s)
fault_whole last bytes count stops.Order few s = subst (λ (t : List ℕ). IsFaultAfter count last t (fault_at count stops.Order)) (append-nil bytes) (fault_after last bytes [] count stops.Order few tt s)

ended_here : (last : Option Slot) (bytes more : List ℕ) (count : ℕ) (stop : BlockFault) → count < 4096 → BlockStops last bytes stop → EndsIn last bytes → (1042 ≤ length bytes) ⊎ (more ≡ [])
    → IsFaultAfter count last (bytes ++ more) (fault_at count stop)
ended_here last bytes more count stop few s ends enough = elim enough [
  | inl long ↦ let short = ends_short last bytes ends in absurd (let no : ⊥ = omega (arith, long, short) in no)
  | inr none ↦ subst (λ (t : List ℕ). IsFaultAfter count last t (fault_at count stop)) (sym (append-nil bytes) ∙ ap (λ (t : List ℕ). bytes ++ t) (sym none)) (fault_whole last bytes count stop few s)
]

-- the bytes are a block's text at least, or all there are
pub fault_here : (last : Option Slot) (bytes more : List ℕ) (count : ℕ) (stop : BlockFault) → count < 4096 → BlockStops last bytes stop → (1042 ≤ length bytes) ⊎ (more ≡ []) → IsFaultAfter count last (bytes ++ more) (fault_at count stop)
fault_here last bytes more count stops.BadSlot few s enough = fault_after last bytes more count stops.BadSlot few tt s
fault_here last bytes more count stops.BadTitle few s enough = fault_after last bytes more count stops.BadTitle few tt s
fault_here last bytes more count (stops.BadLine r) few s enough = fault_after last bytes more count (stops.BadLine r) few tt s
fault_here last bytes more count stops.NoBlank few s enough = fault_after last bytes more count stops.NoBlank few tt s
fault_here last bytes more count stops.Order few s enough = fault_after last bytes more count stops.Order few tt s
fault_here last bytes more count (stops.Ended r) few s enough = ended_here last bytes more count (stops.Ended r) few s s.0 enough
fault_here last bytes more count stops.EndedFirst few s enough = ended_here last bytes more count stops.EndedFirst few s s.0 enough

-- bytes after all the blocks that there may be
pub many_here : (last : Option Slot) (bytes more : List ℕ) (count : ℕ) → count ≡ 4096 → bytes ≢ [] → IsFaultAfter count last (bytes ++ more) (faults.TooMany 73729)
many_here last [] more count full some blocks d n l = absurd (some refl)
many_here last (c ∷ bytes) more count full some blocks d n l =
    at_line (text_of blocks ++ (c ∷ bytes ++ more)) TooMany (18 * length blocks + 0 + 1) 73729 (omega (arith, n, full)) (fault_many blocks c (bytes ++ more) d (n ∙ full))
