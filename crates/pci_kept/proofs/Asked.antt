-- What is asked for leaves the open windows over each bus, and in lists of I/O alone no window of memory stands.
use Rattle.std.proofs.Common.{◌≡◌, ℕ, inl, List, map, replicate, refl, sym, subst, Option, None}
use Rattle.std.specs.Option.{IfSome}
use Rattle.std.proofs.lemmas.Bool.{both_ways}
use Rattle.std.proofs.lemmas.List.Elements.{All-replicate}
use Rattle.pci_spec.specs.Window.{IoWindow}
use Rattle.pci_spec.specs.System.{System}
use Rattle.pci_spec.specs.Decoded.{HasRecords}
use Rattle.pci_spec.specs.Decoded as decoded
use Rattle.settle_spec.specs.Lists.{Request}
use Rattle.settle_spec.specs.Stands.{window_part, stands}
use Rattle.settle_laws.proofs.IoAlone.{none_in_memory}
use Rattle.pci_base.specs.declared.memory.Refused.{Refused}
use Rattle.pci_base.specs.declared.memory.Refused.TheVariants as refused
use Rattle.pci_base.specs.declared.window_kind.WindowKind.{WindowKind}
use Rattle.pci_base.specs.declared.window_kind.WindowKind.TheVariants.{Io, Memory, Prefetchable}
use Rattle.pci_base.specs.declared.window_kind.ByKind.{ByKind}
use Rattle.pci_base.specs.WindowKinds.{kind_value, by_kind}
use Rattle.pci_function.specs.declared.record.Record.{Record}
use Rattle.pci_function.specs.Values.{record_value}
use Rattle.pci_tree.specs.Admission.{Admission, IsAdmitted}
use Rattle.pci_place.specs.Above.{system_in}
use Rattle.pci_first_fit.specs.declared.extent.Extent.{Extent}
use Rattle.pci_first_fit.specs.declared.kept.Kept.{Kept}
use Rattle.pci_first_fit.specs.declared.over.OpenWindows.{OpenWindows}
use Rattle.pci_first_fit.specs.declared.own.Terms.{Terms}
use Rattle.pci_first_fit.specs.Spots.{IsExtent}
use Rattle.pci_first_fit.specs.Slots.{Demand, demand_in_io}
use Rattle.pci_first_fit.specs.Over.{AreOpenOver}
use Rattle.pci_first_fit.specs.Own.{AreTerms}
use Rattle.pci_first_fit.specs.Buses.{AreWindows, Classing, classing_of, TellsClasses}
use Rattle.pci_kept.specs.declared.rules.Rules.{Rules}
use Rattle.pci_kept.specs.Boards.{IsTree}
use Rattle.pci_kept.specs.Known.{asked_by_rules}
use Rattle.pci_kept.proofs.Opened.{tree_of}
use Rattle.pci_kept.specs.declared.windows.TooLarge.{TooLarge}
use Rattle.pci_kept.specs.Windows.{HasWindowsOf, IsTooLargeOf, AreAllLawful}
use Rattle.pci_kept.specs.Holding.{HasNewWhereStands, IsKnowing}
use Rattle.pci_kept.specs.Staying.{AreStaying, IsTooLargeInIo, asked_in_io}

-- what is asked for, by the open windows over each bus
pub left_of : (a : Admission) (l : Demand) (rules : Rules) → IsAdmitted a → (records : List Record) {values : List decoded.Record} → map record_value records ≡ values → HasRecords (system_in a) values
    → (terms : Terms) → AreTerms l terms → (over : List OpenWindows) → ((q : Request) (s : System) → IsTree q s records → q.anew ≡ rules.anew → AreOpenOver q s over) → TellsClasses (classing_of a terms over) (asked_by_rules a.roots l rules)
left_of a l rules admitted records same has terms are over opened = record {
  rooted = refl;
  terms = are;
  overs_are = opened (asked_by_rules a.roots l rules) (system_in a) (tree_of a l rules admitted records same has) refl;
}

pub too_large_in_io : (p : Classing) (q : Request) → TellsClasses p q → (x : Refused TooLarge) → IsTooLargeOf p IoWindow x → IsTooLargeInIo q p.system x
too_large_in_io p q left refused.Memory told = tt
too_large_in_io p q left (refused.Fault x) told = (told.0, told.1 q left)

no_windows : AreWindows (replicate 256 None)
no_windows = All-replicate (λ (o : Option Extent). IfSome o IsExtent) 256 None tt

pub io_lawful : (io : List (Option Extent)) → AreWindows io → AreAllLawful record { io = io; memory = replicate 256 None; prefetchable = replicate 256 None }
io_lawful io lawful Io = lawful
io_lawful io lawful Memory = no_windows
io_lawful io lawful Prefetchable = no_windows

pub new_in_io : (p : Classing) (windows : ByKind (List (Option Extent))) (roots : List ℕ) (d : Demand) (rules : Rules) → TellsClasses p (asked_in_io roots d rules) → HasWindowsOf p IoWindow windows.io
    → (class : WindowKind) → HasNewWhereStands (asked_in_io roots d rules) p class (by_kind windows class)
new_in_io p windows roots d rules left has Io f listed is = inl (has (asked_in_io roots d rules) left)
new_in_io p windows roots d rules left has Memory f listed is = absurd (both_ways (stands (asked_in_io roots d rules) p.system (window_part (kind_value Memory) f)) (none_in_memory (asked_in_io roots d rules) p.system (window_part (kind_value Memory) f) refl) is)
new_in_io p windows roots d rules left has Prefetchable f listed is = absurd (both_ways (stands (asked_in_io roots d rules) p.system (window_part (kind_value Prefetchable) f)) (none_in_memory (asked_in_io roots d rules) p.system (window_part (kind_value Prefetchable) f) refl) is)

-- ---- lists that are those of I/O alone

module _ (p : Classing) (roots : List ℕ) (d x : Demand) (rules : Rules) (same : x ≡ demand_in_io d) (left : TellsClasses p (asked_by_rules roots x rules)) where
  pub fault_in_io : (e : Refused TooLarge) → IsTooLargeOf p IoWindow e → IsTooLargeInIo (asked_in_io roots d rules) p.system e
  fault_in_io e told = subst (λ y. IsTooLargeInIo (asked_by_rules roots y rules) p.system e) same (too_large_in_io p (asked_by_rules roots x rules) left e told)

  pub stays_in_io : (windows : ByKind (List (Option Extent))) (table : List Kept) → HasWindowsOf p IoWindow windows.io → (IsKnowing p windows (asked_by_rules roots x rules) → AreStaying (asked_by_rules roots x rules) p.system table) → AreStaying (asked_in_io roots d rules) p.system table
  stays_in_io windows table has stay = subst (λ y. AreStaying (asked_by_rules roots y rules) p.system table) same (stay record {
    left = left;
    new = subst (λ y. (class : WindowKind) → HasNewWhereStands (asked_by_rules roots y rules) p class (by_kind windows class)) (sym same)
        (new_in_io p windows roots d rules (subst (λ y. TellsClasses p (asked_by_rules roots y rules)) same left) has);
  })
