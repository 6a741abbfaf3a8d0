-- What is told behind a region outside the host's ranges.
use Rattle.std.proofs.Common.{◌≡◌, ℕ, List, [], ◌∷◌, ◌++◌, length, map, arith, refl, sym, ◌∙◌, ap, subst, true, false, ◌&&◌, codes, None, Some, inl, inr}
use Rattle.std.specs.Prelude.{◌==◌}
use Rattle.std.specs.List.{Contains}
use Rattle.std.proofs.lemmas.Bool.{both_ways, eqb-true}
use Rattle.std.proofs.lemmas.List.{append_assoc}
use Rattle.std.proofs.lemmas.Option.{slice_get_within, get_or_from_slice_get}
use Rattle.pci_spec.specs.Slot.{Slot}
use Rattle.pci_spec.specs.System.{System, Function, Space, Leads}
use Rattle.pci_spec.specs.Listing.{range_text}
use Rattle.pci_spec.specs.Decoded.{Record, record_of}
use Rattle.pci_spec.proofs.Members.{in_map_from}
use Rattle.pci_spec.specs.Fault.{address_in, named_region}
use Rattle.pci_base.specs.declared.range.Range.{Range}
use Rattle.pci_base.specs.Ranges.{decoded_range_of}
use Rattle.pci_tree.specs.Outline.{Tree, IsPathTo}
use Rattle.pci_tree.specs.Trees.{HasTree}
use Rattle.pci_why.specs.Lines.{Appends}
use Rattle.pci_why.proofs.Bridged.{named_space, named_bus}
use Rattle.judge_spec.specs.Given.{Given, HostRange, ranges_said, starts, starts_in, is_cut}
use Rattle.judge_spec.specs.Claims.{Own as OwnPart}
use Rattle.judge_spec.specs.ToldClaims.{Told, ClaimsOnBus}
use Rattle.judge_spec.specs.ToldFault.{IsOutside}
use Rattle.judge_spec.specs.ToldNumbered.{AreListedIn}
use Rattle.judge_spec.specs.Why.{AnyRegion, space_of, region_line, ranges_for, ranges_words, host_line}
use Rattle.pci_why.specs.declared.named.Shown.{Shown}
use Rattle.pci_why.specs.Named.{shown_line, IsNamedIn}
use Rattle.pci_claims.specs.Outside.{IsRootOfPath}
use Rattle.pci_claims.proofs.Outsides.{root_of}
use Rattle.pci_why.specs.Hosts.{IsRootAbove, IsNowhere, IsBehindOneRoot}

-- ---- the root above

pub root_above_is : (t : Tree) (slot : Slot) (path : List Slot) (root : ℕ) → ((s : System) → HasTree t s → IsPathTo t.roots s path slot.bus) → IsRootOfPath path slot.bus root → IsRootAbove t slot root
root_above_is t slot path root paths is_root s tree =
    let way = paths s tree in
    let same : way.root ≡ root = root_of s way.root way.bridges slot.bus path root way.leads way.named is_root in
    (subst (λ n. Contains t.roots n) same way.starts, way.bridges, subst (λ n. Leads s n way.bridges slot.bus) same way.leads)

-- a function of the system has a record
pub slot_there : (t : Tree) (s : System) (f : Function) (slot : Slot) → HasTree t s → Contains s f → f.slot ≡ slot → IsNowhere t slot → ⊥
slot_there t s f slot tree listed at none =
    none (subst (λ records. Contains (map (λ x. x.slot) records) slot) tree.records.same
    (subst (Contains (map (λ x. x.slot) (map record_of s))) at (in_map_from (λ x. x.slot) (map record_of s) (record_of f) (in_map_from record_of s f listed))))

slots_of_records : (s : System) → map (λ (f : Function). f.slot) s ≡ map (λ (x : Record). x.slot) (map record_of s)
slots_of_records [] = refl
slots_of_records (f ∷ s) = ap (λ slots. f.slot ∷ slots) (slots_of_records s)

-- the slots of a system are those of its records
slots_same_records : (s : System) (slot : Slot) → Contains (map (λ (f : Function). f.slot) s) slot → Contains (map (λ (x : Record). x.slot) (map record_of s)) slot
slots_same_records s slot has = subst (λ slots. Contains slots slot) (slots_of_records s) has

-- ---- the fault

-- a root bus on which accesses to the address don't start
record IsUnsentAt (given : Given) (space : Space) (a : ℕ) : Type 0 where
  root : ℕ
  none : starts given space root a ≡ false

module _ (told : Told) (given : Given) (roots : List ℕ) (s : System) (slot : Slot) (register : ℕ) (space : Space) (a : ℕ) where
  -- the region that is named claims the address
  pub claims_there : IsOutside told given roots s (named_region slot register) (address_in space a) → ClaimsOnBus told given s slot.bus (address_in space a) (named_region slot register)
  claims_there (inl o) = inl (
    o.f,
    OwnPart o.part,
    o.listed,
    o.named.0,
    refl,
    o.named.1,
    record { claims = o.claims; kept = ap (λ b. b && is_cut given space a o.f.slot) o.no_window },
  )
  claims_there (inr o) = inr record { r = o.r; named = o.needs.named; on_the_bus = refl; claims = o.needs.claims }

  -- its slot is listed
  pub slot_missing : (t : Tree) → HasTree t s → AreListedIn told s → IsOutside told given roots s (named_region slot register) (address_in space a) → IsNowhere t slot → ⊥
  slot_missing t tree listed (inl o) nowhere = slot_there t s o.f slot tree o.listed o.named.0 nowhere
  slot_missing t tree listed (inr o) nowhere = listed slot record {
    r = o.r;
    is_told = (let within = slice_get_within told.ranges o.needs.named.index o.r o.needs.named.at in
        (o.needs.named.index, within, get_or_from_slice_get told.ranges o.needs.named.index o.r o.r o.needs.named.at));
    not_held = o.needs.not_held;
    of_slot = o.needs.named.slot;
    not_listed = λ has. nowhere (subst (λ records. Contains (map (λ x. x.slot) records) slot) tree.records.same (slots_same_records s slot has));
  }

  unsent_there : IsOutside told given roots s (named_region slot register) (address_in space a) → IsUnsentAt given space a
  unsent_there (inl o) = record { root = o.root; none = o.none }
  unsent_there (inr o) = record { root = o.root; none = o.none }

  -- a list is said, as else all addresses are sent
  pub no_list_missing : IsOutside told given roots s (named_region slot register) (address_in space a) → ranges_said given space ≡ None → ⊥
  no_list_missing there none = let o = unsent_there there in both_ways (starts given space o.root a) o.none (ap (λ l. starts_in l o.root a) none)

pub outside_told : (told : Told) (given : Given) (roots : List ℕ) (s : System) (slot : Slot) (register : ℕ) (space : Space) (shown : Shown) (addresses : List Range) (root : ℕ) (ranges : List HostRange) (old first new : List ℕ)
    → IsNamedIn told given s (named_region slot register) space shown addresses → Contains roots root × (bridges : List Function) × Leads s root bridges slot.bus
    → ranges_said given space ≡ Some ranges → first ≡ old ++ shown_line given (codes "needs") space shown → new ≡ first ++ host_line space (ranges_for root ranges)
    → Appends (IsBehindOneRoot told given roots s (named_region slot register) space) old new
outside_told told given roots s slot register space shown addresses root ranges old first new one (is_root, bridges, leads) said needs host =
    let v : AnyRegion = one.region in
    let host_text = host_line space (ranges_for root ranges) in
    let needs_text = region_line given (codes "needs") v in
    let of_space : space_of v ≡ space = named_space v slot register space one.named in
    record {
      lines = needs_text ++ host_text;
      text = host ∙ ap (λ t. t ++ host_text) (needs ∙ ap (λ t. old ++ t) (one.line (codes "needs"))) ∙ append_assoc old needs_text host_text;
      are = (
        v,
        one.named,
        record {
          is = one.is;
          root = root;
          is_root = is_root;
          bridges = bridges;
          leads = subst (λ bus. Leads s root bridges bus) (sym (named_bus v slot register space one.named)) leads;
          ranges = ranges;
          said = ap (ranges_said given) of_space ∙ said;
          text = ap (λ sp. needs_text ++ host_line sp (ranges_for root ranges)) (sym of_space);
        },
      );
    }

-- ---- the host's line

pub words_of_some : (space : Space) (rs : List Range) → (length rs == 0) ≡ false → map (range_text space) (map decoded_range_of rs) ≡ ranges_words space (map decoded_range_of rs)
words_of_some space [] e = absurd (both_ways _ e refl)
words_of_some space (r ∷ rs) e = refl

pub words_of_none : (space : Space) (rs : List Range) → (length rs == 0) ≡ true → ranges_words space (map decoded_range_of rs) ≡ codes "none" ∷ []
words_of_none space [] e = refl
words_of_none space (r ∷ rs) e = absurd (let same : length (r ∷ rs) ≡ 0 = eqb-true _ _ e in let no : ⊥ = omega (arith, same) in no)
