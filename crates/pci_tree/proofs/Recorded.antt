-- What a bridge passes is what its record says.
use Rattle.std.proofs.Common.{◌≡◌, ℕ, List, refl, Bool, true, false, ◌&&◌, ◌||◌, inl, inr, sym, ◌∙◌, ap, Option, Some, None, if◌then◌else◌}
use Rattle.std.specs.Prelude.{◌↔◌, IsTrue, MatchOption, nat_le}
use Rattle.std.proofs.lemmas.Bool.{and_parts, and_from, leb-true, le-leb, cases_Bool, eqb-true}
use Rattle.pci_spec.specs.Header.{command}
use Rattle.pci_spec.specs.Window.{WindowKind, IoWindow, MemoryWindow, PrefetchWindow, has_window, holds}
use Rattle.pci_spec.specs.System.{Function, Io, Memory, is_bridge, passes, is_space_on, window_space}
use Rattle.pci_spec.specs.Decoded.{Range, InRange, window_range, optional_window, bridge_of, record_of, IsDecodable}
use Rattle.pci_spec.proofs.Ranges.{window_range-holds, absent_window}
use Rattle.pci_spec.proofs.Records.{same_truth, memory_window_there}
use Rattle.pci_base.specs.Space.{is_on, is_prefetch}
use Rattle.pci_tree.specs.Passes.{is_in, range_in, bridge_passes, record_passes}

-- a test for an address as what it means
pub is_in-holds : (o : Option Range) (a : ℕ) → (is_in o a ≡ true) ↔ MatchOption o ⊥ (λ r. InRange r a)
is_in-holds None a = (λ (h : false ≡ true). cc, λ (h : ⊥). absurd h)
is_in-holds (Some r) a = (
  λ (h : is_in (Some r) a ≡ true). (let p : (nat_le r.first a ≡ true) × (nat_le a r.last ≡ true) = and_parts (nat_le r.first a) (nat_le a r.last) h in (leb-true _ _ p.0, leb-true _ _ p.1)),
  λ (h : InRange r a). and_from (nat_le r.first a) (nat_le a r.last) (le-leb _ _ h.0) (le-leb _ _ h.1),
)

-- a window that is there holds what its range has
pub holds-there : (kind : WindowKind) (image probe : List ℕ) (a : ℕ) → has_window kind probe ≡ true → holds kind image probe a ≡ is_in (window_range kind image) a
holds-there kind image probe a there =
    let held : MatchOption (window_range kind image) ⊥ (λ r. InRange r a) ↔ IsTrue (holds kind image probe a) = window_range-holds kind image probe there a in
    same_truth (holds kind image probe a) (is_in (window_range kind image) a)
    (λ h. (is_in-holds (window_range kind image) a).1 (held.1 h)) (λ h. held.0 ((is_in-holds (window_range kind image) a).0 h))

-- an I/O or prefetchable window, which may not be there
pub holds-optional : (kind : WindowKind) (image probe : List ℕ) (a : ℕ) → holds kind image probe a ≡ is_in (range_in (optional_window kind image probe)) a
holds-optional kind image probe a = elim (cases_Bool (has_window kind probe)) [
  | inl there ↦ holds-there kind image probe a there ∙ sym (rw there refl)
  | inr absent ↦ absent_window kind image probe a absent ∙ sym (rw absent refl)
]

spread : (on mem pref : Bool) → ((on && mem) || (on && pref)) ≡ (on && (mem || pref))
spread true mem pref = refl
spread false mem pref = refl

alone : (on mem : Bool) → (on && mem || false) ≡ (on && mem)
alone true true = refl
alone true false = refl
alone false mem = refl

memory_law : (a : ℕ) (f : Function) → IsDecodable f → is_bridge f ≡ true → holds MemoryWindow f.image f.probe a ≡ is_in (window_range MemoryWindow f.image) a
memory_law a f is bridge = holds-there MemoryWindow f.image f.probe a (memory_window_there f.image f.probe (is.windows MemoryWindow (eqb-true _ 1 bridge)))

windows_law : (kind : WindowKind) (a : ℕ) (f : Function) → IsDecodable f → is_bridge f ≡ true
    → passes (window_space kind) (is_prefetch kind) a f ≡ (is_on (command f.image) (window_space kind) && bridge_passes kind a (Some (bridge_of f.image f.probe)))
windows_law IoWindow a f is bridge = ap (λ h. is_space_on f Io && h) (holds-optional IoWindow f.image f.probe a)
windows_law MemoryWindow a f is bridge =
    alone (is_space_on f Memory) (holds MemoryWindow f.image f.probe a) ∙ ap (λ h. is_space_on f Memory && h) (memory_law a f is bridge)
windows_law PrefetchWindow a f is bridge =
    let on : Bool = is_space_on f Memory in
    spread on (holds MemoryWindow f.image f.probe a) (holds PrefetchWindow f.image f.probe a)
    ∙ ap (λ h. on && (h || holds PrefetchWindow f.image f.probe a)) (memory_law a f is bridge)
    ∙ ap (λ h. on && (is_in (window_range MemoryWindow f.image) a || h)) (holds-optional PrefetchWindow f.image f.probe a)

-- what a bridge passes is what its record says
pub passes-record : (kind : WindowKind) (a : ℕ) (f : Function) → IsDecodable f → is_bridge f ≡ true
    → passes (window_space kind) (is_prefetch kind) a f ≡ record_passes kind a (record_of f)
passes-record kind a f is bridge =
    windows_law kind a f is bridge
    ∙ ap (λ b. is_on (command f.image) (window_space kind) && bridge_passes kind a (if b then Some (bridge_of f.image f.probe) else None)) (sym bridge)
