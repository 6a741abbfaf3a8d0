-- Which regions are out of place.
use Rattle.std.proofs.Common.{◌≡◌, ℕ, ◌≤◌, map, [], ◌∷◌, get_or, sym, ap, ◌∙◌, subst, inl, inr, arith, not, Bool, true, false, refl, None}
use Rattle.std.specs.Prelude.{MatchBool}
use Rattle.std.specs.List.{Contains}
use Rattle.std.proofs.lemmas.Bool.{cases_Bool, both_ways, false≢true, false_from_ne_true}
use Rattle.std.proofs.lemmas.Option.{slice_get_within, get_or_from_slice_get}
use Rattle.std.proofs.lemmas.List.Elements.{Contains-get_or}
use Rattle.pci_spec.specs.Slot.{Slot, same_slot}
use Rattle.pci_spec.specs.System.{System, Function, Space, Io, Memory, Claims, Leads, IsAddress, is_window, register_of as part_register}
use Rattle.pci_spec.specs.System as system
use Rattle.pci_spec.specs.Fault.{RegionName, address_in, named_region}
use Rattle.pci_spec.proofs.Members.{in_nil, in_cons_cases, in_head, in_tail}
use Rattle.pci_spec.proofs.Regions.{part_same, register_of-lt}
use Rattle.pci_spec.proofs.SameSlot.{slot_itself, slots_same}
use Rattle.judge_spec.specs.Given.{Given, starts, starts_in, ranges_said}
use Rattle.judge_spec.specs.Fault as untold
use Rattle.judge_spec.specs.Told.{ToldRange, IsTold}
use Rattle.judge_spec.specs.ToldClaims.{Told, is_marked_held}
use Rattle.judge_spec.specs.ToldFault.{IsOutside, IsRangeOutside}
use Rattle.judge_spec.specs.ToldRegion.{ToldRegion, told_name, IsToldIn}
use Rattle.judge_spec.proofs.Reasons.{low_register}
use Rattle.judge_spec.proofs.ToldNames.{one_range}
use Rattle.judge_spec.specs.Regions.{MapRegion, Own, OfLine, slot_of, register_of, space_of}
use Rattle.judge_spec.specs.Lines.{IsOutOfPlace}
use Rattle.pci_tree.specs.declared.region.Part.{Part}
use Rattle.pci_tree.specs.declared.region.Part.TheVariants as parts
use Rattle.pci_tree.specs.declared.region.Region.{Region}
use Rattle.pci_tree.specs.Outline.{Tree}
use Rattle.pci_tree.specs.Ranges.{Holds, Covers}
use Rattle.pci_tree.specs.Regions.{IsRegionOn, name_of}
use Rattle.pci_claims.specs.Sent.{IsSentTo}
use Rattle.pci_claims.specs.Found.{range_at}
use Rattle.pci_map.specs.Values.{value_of}
use Rattle.pci_map.specs.Addresses.{SpaceRanges, ranges_in, AreSent, HasUnsent}
use Rattle.pci_base.specs.declared.range.Range.{Range}
use Rattle.pci_map.specs.Seats.{IsToldOfListedSlots}
use Rattle.pci_map.specs.Above.{IsSentAbove}
use Rattle.pci_map.proofs.Values.{told_region}
use Rattle.pci_map.proofs.Lefts.{AreOne}

-- ---- windows

abbrev is_named_window : Part → Bool
is_named_window parts.Bar = false
is_named_window parts.Rom = false
is_named_window parts.Window = true

window_named : (part : system.Part) → is_window part ≡ is_named_window (name_of part)
window_named (system.Bar n) = refl
window_named system.Rom = refl
window_named (system.Window kind) = refl

not_window : (part : Part) → (part ≡ parts.Window → ⊥) → is_named_window part ≡ false
not_window parts.Bar not = refl
not_window parts.Rom not = refl
not_window parts.Window not = absurd (not refl)

-- ---- one region

sent_to : (given : Given) (root : ℕ) (space : Space) (sent : SpaceRanges) → AreSent given root sent → IsSentTo given space root (ranges_in space sent)
sent_to given root Io sent are = are.io
sent_to given root Memory sent are = are.memory

all_start : (given : Given) (sp : Space) (root a : ℕ) → ranges_said given Io ≡ None → ranges_said given Memory ≡ None → starts given sp root a ≡ true
all_start given Io root a io memory = ap (λ o. starts_in o root a) io
all_start given Memory root a io memory = ap (λ o. starts_in o root a) memory

-- the function of a slot, where it is listed
listed_there : (s : System) (slot : Slot) → ((Contains (map (λ (f : Function). f.slot) s) slot → ⊥) → ⊥) → (f : Function) × Contains s f × (f.slot ≡ slot)
listed_there [] slot there = absurd (there (λ has. in_nil slot has))
listed_there (g ∷ s) slot there = elim (cases_Bool (same_slot g.slot slot)) [
  | inl same ↦ (g, in_head g s, slots_same g.slot slot same)
  | inr other ↦ (
      let found = listed_there s slot (λ none. there (λ has. elim (in_cons_cases g.slot (map (λ (f : Function). f.slot) s) slot has) [
        | inl here ↦ both_ways (same_slot g.slot slot) other (subst (λ (y : Slot). same_slot g.slot y ≡ true) here (slot_itself g.slot))
        | inr later ↦ none later
      ])) in
      (found.0, in_tail g s found.0 found.1, found.2))
]

address_below : (space : Space) (a last : ℕ) → a ≤ last → IsAddress space last → IsAddress space a
address_below Io a last low is = omega (arith, low, is)
address_below Memory a last low is = omega (arith, low, is)

module _ (told : Told) (s : System) (x : ToldRegion) (is : IsToldIn told s x) where
  range_at_index : get_or told.ranges is.named.index x.told ≡ x.told
  range_at_index = get_or_from_slice_get told.ranges is.named.index x.told x.told is.named.at

  pub function_there : is_marked_held x.told.mark ≡ false → IsToldOfListedSlots told s → (f : Function) × Contains s f × (f.slot ≡ x.told.slot)
  function_there not_held of = listed_there s x.told.slot (λ none. of.listed x.told.slot record {
    r = x.told;
    is_told = subst (Contains told.ranges) range_at_index (Contains-get_or told.ranges is.named.index x.told (slice_get_within told.ranges is.named.index x.told is.named.at));
    not_held = not_held;
    of_slot = refl;
    not_listed = none;
  })

  pub last_there : IsTold told.ranges → IsAddress x.told.space x.told.last
  last_there lawful = subst (λ (r : ToldRange). IsAddress r.space r.last) range_at_index (lawful.each is.named.index x.told (slice_get_within told.ranges is.named.index x.told is.named.at)).line.last

  pub first_there : IsTold told.ranges → IsAddress x.told.space x.told.first
  first_there lawful = subst (λ (r : ToldRange). IsAddress r.space r.first) range_at_index (lawful.each is.named.index x.told (slice_get_within told.ranges is.named.index x.told is.named.at)).line.first

module _ (told : Told) (given : Given) (t : Tree) (s : System) where
  none_starts : ranges_said given Io ≡ None → ranges_said given Memory ≡ None → (region : RegionName) (space : Space) (a : ℕ) → IsOutside told given t.roots s region (address_in space a) → ⊥
  none_starts io memory region space a (inl o) = both_ways (starts given space o.root a) o.none (all_start given space o.root a io memory)
  none_starts io memory region space a (inr o) = both_ways (starts given space o.root a) o.none (all_start given space o.root a io memory)

  pub nothing_out : ranges_said given Io ≡ None → ranges_said given Memory ≡ None → (q : MapRegion) → IsOutOfPlace told given t.roots s q → ⊥
  nothing_out io memory q out = none_starts io memory (named_region (slot_of q) (register_of q)) (space_of q) out.address out.outside

  module _ (one : AreOne s) (space : Space) (bus : ℕ) (q : Region) (on : IsRegionOn s bus space q) where
    abbrev IsOut : Type 0
    IsOut = IsOutOfPlace told given t.roots s (Own (value_of space q))

    -- a told range has no register of a header
    own_one : (a : ℕ) → IsOutside told given t.roots s (named_region q.slot q.reg) (address_in space a) → untold.IsOutside given t.roots s (named_region q.slot q.reg) (address_in space a)
    own_one a (inl o) = o
    own_one a (inr o) =
        let low = low_register s (value_of space q) (told_region s bus space q on) in
        let line = o.needs.named.register in absurd (let no : ⊥ = omega (arith, low, line) in no)

    -- it is of the region's part
    part_is : (a : ℕ) (o : untold.IsOutside given t.roots s (named_region q.slot q.reg) (address_in space a)) → o.part ≡ on.part
    part_is a o =
        let same : o.f ≡ on.f = one o.f on.f o.listed on.listed (o.named.0 ∙ on.is.slot) in
        let claims : Claims on.f o.part space a = subst (λ f. Claims f o.part space a) same o.claims in
        let own : Claims on.f on.part space q.first = (on.is.claims q.first).0 (omega arith, on.is.some) in
        part_same on.f o.part on.part claims.there own.there (ap (λ f. part_register f o.part) (sym same) ∙ o.named.1 ∙ on.is.register)

    held : (a : ℕ) → untold.IsOutside given t.roots s (named_region q.slot q.reg) (address_in space a) → Holds (range_at q) a
    held a o =
        let same : o.f ≡ on.f = one o.f on.f o.listed on.listed (o.named.0 ∙ on.is.slot) in
        (on.is.claims a).1 (subst (λ p. Claims on.f p space a) (part_is a o) (subst (λ f. Claims f o.part space a) same o.claims))

    pub window_in_place : q.part ≡ parts.Window → IsOut → ⊥
    window_in_place window out =
        let o = own_one out.address out.outside in
        false≢true (sym o.no_window ∙ ap is_window (part_is out.address o) ∙ window_named on.part ∙ ap is_named_window (sym on.is.named ∙ window))

    module _ (sent : SpaceRanges) (above : IsSentAbove given t.roots s on.f.slot.bus sent) where
      exact : IsSentTo given space above.root (ranges_in space sent)
      exact = sent_to given above.root space sent above.are

      slot_bus : q.slot.bus ≡ on.f.slot.bus
      slot_bus = ap (λ (x : Slot). x.bus) on.is.slot

      out_of_place : (q.part ≡ parts.Window → ⊥) → HasUnsent (ranges_in space sent) (range_at q) → IsOut
      out_of_place not unsent =
          let claims : Claims on.f on.part space unsent.address = (on.is.claims unsent.address).0 unsent.held in record {
            address = unsent.address;
            outside = inl record {
              f = on.f;
              part = on.part;
              listed = on.listed;
              named = (sym on.is.slot, sym on.is.register);
              no_window = window_named on.part ∙ not_window (name_of on.part) (λ window. not (on.is.named ∙ window));
              claims = claims;
              bridges = above.above.bridges;
              root = above.root;
              is_root = above.above.is_root;
              leads = subst (λ n. Leads s above.root above.above.bridges n) (sym slot_bus) above.above.leads;
              none = false_from_ne_true (starts given space above.root unsent.address) (λ starting. unsent.unsent ((exact.exact unsent.address).1 (claims.address, starting)));
            };
          }

      in_its_place : ((a : ℕ) → Holds (range_at q) a → Covers (ranges_in space sent) a) → IsOut → ⊥
      in_its_place all out =
          let o = own_one out.address out.outside in
          let root : o.root ≡ above.root = above.above.only o.root o.bridges o.is_root (subst (λ n. Leads s o.root o.bridges n) slot_bus o.leads) in
          let sends : starts given space above.root out.address ≡ true = ((exact.exact out.address).0 (all out.address (held out.address o))).1 in
          both_ways (starts given space o.root out.address) o.none (ap (λ n. starts given space n out.address) root ∙ sends)

      pub answer : (b : Bool) → (q.part ≡ parts.Window → ⊥) → MatchBool b ((a : ℕ) → Holds (range_at q) a → Covers (ranges_in space sent) a) (HasUnsent (ranges_in space sent) (range_at q))
          → MatchBool (not b) IsOut (IsOut → ⊥)
      answer true not all = in_its_place all
      answer false not unsent = out_of_place not unsent

  -- ---- one told range

  module _ (x : ToldRegion) (is : IsToldIn told s x) where
    abbrev IsLineOut : Type 0
    IsLineOut = IsOutOfPlace told given t.roots s (OfLine x)

    abbrev extent : Range
    extent = record { first = x.told.first; last = x.told.last }

    -- no register of a header is a told range's
    range_one : (a : ℕ) → IsOutside told given t.roots s (named_region x.told.slot x.register) (address_in x.told.space a) → IsRangeOutside told given t.roots s (named_region x.told.slot x.register) (address_in x.told.space a)
    range_one a (inl o) =
        let low = register_of-lt o.f o.part o.claims.there in
        let named = o.named.1 in
        let line = is.named.register in absurd (let no : ⊥ = omega (arith, low, named, line) in no)
    range_one a (inr o) = o

    same_range : (a : ℕ) (o : IsRangeOutside told given t.roots s (named_region x.told.slot x.register) (address_in x.told.space a)) → o.r ≡ x.told
    same_range a o = one_range told (told_name x) o.r x.told o.needs.named is.named

    pub held_in_place : is_marked_held x.told.mark ≡ true → IsLineOut → ⊥
    held_in_place held out =
        let o = range_one out.address out.outside in
        both_ways (is_marked_held x.told.mark) (subst (λ (r : ToldRange). is_marked_held r.mark ≡ false) (same_range out.address o) o.needs.not_held) held

    module _ (sent : SpaceRanges) (above : IsSentAbove given t.roots s x.told.slot.bus sent) where
      range_exact : IsSentTo given x.told.space above.root (ranges_in x.told.space sent)
      range_exact = sent_to given above.root x.told.space sent above.are

      range_out : is_marked_held x.told.mark ≡ false → IsAddress x.told.space x.told.last → HasUnsent (ranges_in x.told.space sent) extent → IsLineOut
      range_out not_held last unsent = record {
        address = unsent.address;
        outside = inr record {
          r = x.told;
          needs = record { named = is.named; not_held = not_held; claims = record { on = is.on; holds = (refl, unsent.held.0, unsent.held.1) } };
          bridges = above.above.bridges;
          root = above.root;
          is_root = above.above.is_root;
          leads = above.above.leads;
          none = false_from_ne_true (starts given x.told.space above.root unsent.address)
              (λ starting. unsent.unsent ((range_exact.exact unsent.address).1 (address_below x.told.space unsent.address x.told.last unsent.held.1 last, starting)));
        };
      }

      range_in_place : ((a : ℕ) → Holds extent a → Covers (ranges_in x.told.space sent) a) → IsLineOut → ⊥
      range_in_place all out =
          let o = range_one out.address out.outside in
          let root : o.root ≡ above.root = above.above.only o.root o.bridges o.is_root o.leads in
          let holds = subst (λ (r : ToldRange). (r.first ≤ out.address) × (out.address ≤ r.last)) (same_range out.address o) (o.needs.claims.holds.1, o.needs.claims.holds.2) in
          let sends : starts given x.told.space above.root out.address ≡ true = ((range_exact.exact out.address).0 (all out.address holds)).1 in
          both_ways (starts given x.told.space o.root out.address) o.none (ap (λ n. starts given x.told.space n out.address) root ∙ sends)

      pub line_answer : (b : Bool) → is_marked_held x.told.mark ≡ false → IsAddress x.told.space x.told.last
          → MatchBool b ((a : ℕ) → Holds extent a → Covers (ranges_in x.told.space sent) a) (HasUnsent (ranges_in x.told.space sent) extent) → MatchBool (not b) IsLineOut (IsLineOut → ⊥)
      line_answer true not_held last all = range_in_place all
      line_answer false not_held last unsent = range_out not_held last unsent
