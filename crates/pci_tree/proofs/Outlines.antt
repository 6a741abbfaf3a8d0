-- What an outline lists is so of each system with its records.
use Rattle.std.proofs.Common.{◌≡◌, ℕ, ◌+◌, ◌<◌, ◌≤◌, List, [], ◌∷◌, length, get_or, take, map, refl, Bool, true, false, cond, inl, inr, sym, ◌∙◌, ap, subst, Option, Some, None}
use Rattle.std.specs.Prelude.{IfSome, MatchOption}
use Rattle.std.specs.List.{Contains, All, filter}
use Rattle.std.proofs.lemmas.Bool.{cases_Bool}
use Rattle.std.proofs.lemmas.List.{map_more}
use Rattle.std.proofs.lemmas.List.Elements.{All-weaker, Contains-push_cases, Contains-get_or}
use Rattle.pci_spec.specs.Slot.{Slot}
use Rattle.pci_spec.specs.System.{System, Function, Space, Io, Memory, IsAddress, is_bridge, IsPassedTo, window_space}
use Rattle.pci_spec.specs.Decoded.{record_of}
use Rattle.pci_spec.specs.Decoded as decoded
use Rattle.pci_spec.specs.Window.{WindowKind, IoWindow, MemoryWindow, PrefetchWindow}
use Rattle.pci_spec.proofs.Members.{IsMade, in_map_to, in_map_from}
use Rattle.pci_base.specs.declared.range.Range.{Range}
use Rattle.pci_function.specs.declared.record.Bridge.{Bridge}
use Rattle.pci_function.specs.declared.record.Record.{Record}
use Rattle.pci_function.specs.Values.{record_value, bridge_value}
use Rattle.pci_tree.specs.Ranges.{Covers}
use Rattle.pci_base.specs.Space.{is_prefetch, kind_in}
use Rattle.pci_tree.specs.Passes.{HaveSpans}
use Rattle.pci_tree.specs.Ways.{is_bridging, slots_of, IsUnled, AreSlotsOfWay}
use Rattle.pci_tree.specs.Regions.{IsLawful, IsSpanIn, window_in}
use Rattle.pci_tree.specs.Reaches.{HasSpans, GetsTo, IsReachOf}
use Rattle.pci_tree.specs.Outline.{IsOutline, IsPathTo, IsReachTo}
use Rattle.pci_tree.proofs.Lifting.{Has, same_bridge, same_slot_of, gets-passed, path_of_way}

-- ---- bridges

-- the bridges among the records are those of the system
pub same_bridges : (s : System) (rs : List Record) → map record_of s ≡ map record_value rs → slots_of (filter is_bridging rs) ≡ map (λ f. f.slot) (filter is_bridge s)
same_bridges [] [] e = refl
same_bridges [] (r ∷ rs) e = cc
same_bridges (f ∷ s) [] e = cc
same_bridges (f ∷ s) (r ∷ rs) e =
    let head : record_value r ≡ record_of f = cc in
    let tail : map record_of s ≡ map record_value rs = cc in
    let rest : slots_of (filter is_bridging rs) ≡ map (λ (g : Function). g.slot) (filter is_bridge s) = same_bridges s rs tail in
    let slot : r.slot ≡ f.slot = same_slot_of r f head in
    subst (λ b. slots_of (cond b (r ∷ filter is_bridging rs) (filter is_bridging rs)) ≡ map (λ (g : Function). g.slot) (cond (is_bridge f) (f ∷ filter is_bridge s) (filter is_bridge s)))
    (sym (same_bridge r f head))
    (elim (cases_Bool (is_bridge f)) [
      | inl is ↦ rw is cc
      | inr off ↦ rw off rest
    ])

-- ---- slots

pub slots_of_values : (rs : List Record) → map (λ x. x.slot) (map record_value rs) ≡ slots_of rs
slots_of_values [] = refl
slots_of_values (r ∷ rs) = ap (λ xs. r.slot ∷ xs) (slots_of_values rs)

pub slot_not_yet : (rs : List Record) (i : ℕ) (d : Record) (slot : Slot) → i < length rs → ((get_or rs i d).slot ≡ slot → ⊥) → (Contains (slots_of (take i rs)) slot → ⊥)
    → Contains (slots_of (take (i + 1) rs)) slot → ⊥
slot_not_yet rs i d slot within off before has =
    elim (Contains-push_cases (slots_of (take i rs)) (get_or rs i d).slot slot (subst (λ xs. Contains xs slot) (map_more (λ (r : Record). r.slot) rs i d within) has)) [
      | inl earlier ↦ before earlier
      | inr here ↦ off here
    ]

pub slot_here : (rs : List Record) (i : ℕ) (d : Record) (slot : Slot) → i < length rs → (get_or rs i d).slot ≡ slot → Contains (slots_of rs) slot
slot_here rs i d slot within is = subst (λ x. Contains (slots_of rs) x) is (in_map_from (λ (r : Record). r.slot) rs (get_or rs i d) (Contains-get_or rs i d within))

-- ---- ranges of windows

span_of : (o : Option decoded.Range) (space : Space) → IfSome o (λ w. IsSpanIn space w.first w.last) → IfSome o (λ w. w.first ≤ w.last)
span_of None space h = tt {0}
span_of (Some w) space h = h.0

spans_of : (o : Option Bridge) → IfSome o (λ b. (kind : WindowKind) → IfSome (window_in kind b.windows) (λ w. IsSpanIn (window_space kind) w.first w.last))
    → IfSome o (λ b. HaveSpans (bridge_value b).windows)
spans_of None h = tt {0}
spans_of (Some b) h = record {
  io = span_of (window_in IoWindow b.windows) (window_space IoWindow) (h IoWindow);
  memory = span_of (window_in MemoryWindow b.windows) (window_space MemoryWindow) (h MemoryWindow);
  prefetch = span_of (window_in PrefetchWindow b.windows) (window_space PrefetchWindow) (h PrefetchWindow);
}

pub have_spans : (rs : List Record) → All IsLawful rs → All HasSpans rs
have_spans rs lawful = All-weaker IsLawful HasSpans (λ r is. spans_of r.bridge is.windows) rs lawful

-- ---- reach and ways

pub reach_to : (roots : List ℕ) (s : System) (rs : List Record) (kind : WindowKind) (bus : ℕ) (out : List Range) → Has s rs
    → IsReachOf rs roots kind bus out → IsReachTo roots s (window_space kind) (is_prefetch kind) bus out
reach_to roots s rs kind bus out is reach = record {
  canonical = reach.canonical;
  exact = λ a. (
    λ (h : Covers out a). (let p : IsAddress (window_space kind) a × GetsTo rs roots kind a bus = (reach.exact a).0 h in (p.0, (gets-passed roots s rs kind a bus is).0 p.1)),
    λ (h : IsAddress (window_space kind) a × IsPassedTo roots s (window_space kind) (is_prefetch kind) a bus). (reach.exact a).1 (h.0, (gets-passed roots s rs kind a bus is).1 h.1),
  );
}

-- what gets to a bus of a space is that of the kind of access
pub reach_in : (roots : List ℕ) (s : System) (space : Space) (prefetch : Bool) (bus : ℕ) (out : List Range)
    → IsReachTo roots s (window_space (kind_in space prefetch)) (is_prefetch (kind_in space prefetch)) bus out → IsReachTo roots s space prefetch bus out
reach_in roots s Io prefetch bus out reach = record { canonical = reach.canonical; exact = reach.exact }
reach_in roots s Memory true bus out reach = reach
reach_in roots s Memory false bus out reach = reach

-- the way to a listed function is its path
pub path_to : {V : Type 0} (slots : V → List Slot) (roots : List ℕ) (rs read : List Record) (slot : Slot) (bus : ℕ) (o : Option V) → IsOutline roots rs → read ≡ rs → bus ≡ slot.bus
    → Contains (slots_of read) slot → MatchOption o (IsUnled read roots bus) (λ v. AreSlotsOfWay read roots (slots v) bus)
    → MatchOption o (Contains (map (λ x. x.slot) (map record_value rs)) slot → ⊥) (λ v. (s : System) → Has s rs → IsPathTo roots s (slots v) slot.bus)
path_to slots roots rs read slot bus None is same at listed unled = λ has. (
    let made : IsMade (λ (r : Record). r.slot) read slot = in_map_to (λ (r : Record). r.slot) read slot listed in
    is.led made.from (subst (λ xs. Contains xs made.from) same made.has)
    (subst (λ xs. IsUnled xs roots made.from.slot.bus) same (subst (λ n. IsUnled read roots n) (at ∙ ap (λ (x : Slot). x.bus) (sym made.is)) unled)))
path_to slots roots rs read slot bus (Some v) is same at listed ways = λ s has.
    path_of_way roots s rs (slots v) slot.bus has is.rising (subst (λ xs. AreSlotsOfWay xs roots (slots v) slot.bus) same (subst (λ n. AreSlotsOfWay read roots (slots v) n) at ways))
