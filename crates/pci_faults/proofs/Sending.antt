-- The least address of a region to which no access starts, as what a list of all faults names of it.
use Rattle.std.proofs.Common.{◌≡◌, ℕ, List, map, Bool, false, true, Option, None, Some, inl, inr, refl, subst, ◌∙◌}
use Rattle.std.specs.Prelude.{MatchOption}
use Rattle.std.specs.List.{Contains}
use Rattle.std.proofs.lemmas.Bool.{cases_lt, both_ways, false_from_ne_true}
use Rattle.std.proofs.lemmas.Option.{get_or_from_slice_get, slice_get_within}
use Rattle.pci_spec.specs.Slot.{Slot}
use Rattle.pci_spec.specs.System.{System, Function, Space, Leads, is_prefetchable_part}
use Rattle.pci_spec.specs.Decoded.{record_of}
use Rattle.pci_spec.specs.Decoded as decoded
use Rattle.pci_spec.specs.Fault.{address_in, named_region}
use Rattle.pci_spec.proofs.Members.{in_map_from, in_map_to}
use Rattle.pci_base.specs.Space.{space_of}
use Rattle.pci_tree.specs.Ranges.{Holds}
use Rattle.pci_tree.specs.Outline.{Tree, IsPathTo}
use Rattle.pci_tree.specs.Trees.{HasTree}
use Rattle.judge_spec.specs.Given.{Given, starts}
use Rattle.judge_spec.specs.ToldClaims.{Told}
use Rattle.judge_spec.specs.ToldFault.{IsOutside}
use Rattle.judge_spec.specs.ToldNumbered.{AreListedIn}
use Rattle.pci_claims.specs.Outside.{IsSent, IsLeastUnsent, IsRootOfPath}
use Rattle.pci_claims.proofs.Outsides.{root_of}
use Rattle.pci_faults.specs.declared.needed.Needed.{Needed}
use Rattle.pci_faults.specs.Needed.{IsNeeded, IsOneOf}
use Rattle.pci_faults.specs.OutsideLines.{IsNeverOutside, IsOutsideLine}
use Rattle.pci_faults.proofs.NeededListing.{first_of}

-- ---- where no function has its slot

record_at_slot : (t : Tree) (s : System) → HasTree t s → (f : Function) (slot : Slot) → Contains s f → f.slot ≡ slot → Contains (map (λ x. x.slot) t.records) slot
record_at_slot t s tree f slot listed at =
    subst (λ (records : List decoded.Record). Contains (map (λ x. x.slot) records) slot) tree.records.same
    (subst (Contains (map (λ x. x.slot) (map record_of s))) at (in_map_from (λ x. x.slot) (map record_of s) (record_of f) (in_map_from record_of s f listed)))

pub without_path : (t : Tree) (n : Needed) → (Contains (map (λ x. x.slot) t.records) n.name.slot → ⊥) → (told : Told) (s : System) → HasTree t s → AreListedIn told s → IsOneOf (IsNeeded told) s n → ⊥
without_path t n none told s tree listed one = elim (first_of (IsNeeded told) s n one) [
  | inl bar ↦ none (record_at_slot t s tree bar.f n.name.slot bar.listed bar.named.0)
  | inr range ↦
      let named = range.needs.named in
      listed n.name.slot record {
        r = range.r;
        is_told = (named.index, slice_get_within told.ranges named.index range.r named.at, get_or_from_slice_get told.ranges named.index range.r range.r named.at);
        not_held = range.needs.not_held;
        of_slot = named.slot;
        not_listed = λ has. (let of = in_map_to (λ (f : Function). f.slot) s n.name.slot has in none (record_at_slot t s tree of.from n.name.slot of.has of.is));
      }
]

-- ---- faults 63 of a name

pub record IsAway (given : Given) (roots : List ℕ) (s : System) (bus : ℕ) (space : Space) (a : ℕ) : Type 0 where
  pub bridges : List Function
  pub root : ℕ
  pub is_root : Contains roots root
  pub leads : Leads s root bridges bus
  pub none : starts given space root a ≡ false

module _ (told : Told) (given : Given) (roots : List ℕ) (s : System) (slot : Slot) (register : ℕ) (space : Space) (a : ℕ) where
  pub outside_from : IsOutside told given roots s (named_region slot register) (address_in space a) → (p : Bool) × IsNeeded told s slot register space a p × IsAway given roots s slot.bus space a
  outside_from (inl o) = (
    is_prefetchable_part o.f o.part,
    inl record { f = o.f; part = o.part; listed = o.listed; named = o.named; no_window = o.no_window; claims = o.claims; kind = refl },
    record { bridges = o.bridges; root = o.root; is_root = o.is_root; leads = o.leads; none = o.none },
  )
  outside_from (inr o) = (
    o.r.prefetchable,
    inr record { r = o.r; needs = o.needs; kind = refl },
    record { bridges = o.bridges; root = o.root; is_root = o.is_root; leads = o.leads; none = o.none },
  )

  outside_to : (p : Bool) → IsNeeded told s slot register space a p → IsAway given roots s slot.bus space a → IsOutside told given roots s (named_region slot register) (address_in space a)
  outside_to p (inl bar) away = inl record {
    f = bar.f;
    part = bar.part;
    listed = bar.listed;
    named = bar.named;
    no_window = bar.no_window;
    claims = bar.claims;
    bridges = away.bridges;
    root = away.root;
    is_root = away.is_root;
    leads = away.leads;
    none = away.none;
  }
  outside_to p (inr range) away = inr record { r = range.r; needs = range.needs; bridges = away.bridges; root = away.root; is_root = away.is_root; leads = away.leads; none = away.none }

-- ---- in a system

module _ (given : Given) (t : Tree) (n : Needed) (path : List Slot) (root : ℕ)
    (paths : (s : System) → HasTree t s → IsPathTo t.roots s path n.name.slot.bus) (is_root : IsRootOfPath path n.name.slot.bus root) where
  pub root_is : (s : System) (tree : HasTree t s) → (paths s tree).root ≡ root
  root_is s tree = root_of s (paths s tree).root (paths s tree).bridges n.name.slot.bus path root (paths s tree).leads (paths s tree).named is_root

  -- an address that is outside is the region's, and isn't sent to the root
  outside_is : (told : Told) (s : System) → HasTree t s → IsOneOf (IsNeeded told) s n → (space : Space) (a : ℕ) → IsOutside told given t.roots s (named_region n.name.slot n.name.register) (address_in space a)
      → Holds n.range a × (starts given (space_of n.space) root a ≡ false)
  outside_is told s tree one space a outside =
      let (p, needs, away) = outside_from told given t.roots s n.name.slot n.name.register space a outside in
      let (same, holds, kind) = one.only space a p needs in
      let at : away.root ≡ root = ((paths s tree).only away.root away.bridges away.is_root away.leads).0 ∙ root_is s tree in
      (holds, subst (λ (x : Space). starts given x root a ≡ false) same (subst (λ k. starts given space k a ≡ false) at away.none))

  pub never_outside : ((a : ℕ) → Holds n.range a → IsSent given (space_of n.space) root a) → IsNeverOutside given t n
  never_outside all told s tree listed one space a outside =
      let is = outside_is told s tree one space a outside in
      both_ways _ is.1 (all a is.0).1

  pub outside_line : (a : ℕ) → IsLeastUnsent given (space_of n.space) root n.range a → IsOutsideLine given t n a
  outside_line a least told s tree listed one = record {
    there = outside_to told given t.roots s n.name.slot n.name.register (space_of n.space) a n.prefetch (one.each a least.held) record {
      bridges = (paths s tree).bridges;
      root = (paths s tree).root;
      is_root = (paths s tree).starts;
      leads = (paths s tree).leads;
      none = false_from_ne_true _ (λ sent. least.unsent (one.addresses a least.held, subst (λ k. starts given (space_of n.space) k a ≡ true) (root_is s tree) sent));
    };
    least = λ space b other. elim (cases_lt b a) [
      | inl low ↦ (let is = outside_is told s tree one space b other in absurd (both_ways _ is.1 (least.least b low is.0).1))
      | inr le ↦ le
    ];
  }

  pub outside_answer : (o : Option ℕ) → MatchOption o ((a : ℕ) → Holds n.range a → IsSent given (space_of n.space) root a) (λ a. IsLeastUnsent given (space_of n.space) root n.range a)
      → MatchOption o (IsNeverOutside given t n) (λ a. IsOutsideLine given t n a)
  outside_answer None all = never_outside all
  outside_answer (Some a) least = outside_line a least
