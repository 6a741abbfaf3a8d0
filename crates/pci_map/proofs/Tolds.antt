-- The lines of regions that have none at a place.
use Rattle.std.proofs.Common.{◌≡◌, ℕ, suc, ◌<◌, ◌≤◌, ◌+◌, zero, List, [], ◌∷◌, ◌++◌, map, take, length, get_or, refl, sym, ap, ◌∙◌, subst, inl, inr, ◌⊎◌, arith, codes, append-nil, Bool, true, false}
use Rattle.std.specs.Prelude.{◌==◌, ◌*◌}
use Rattle.std.specs.List.{All, Contains, flat_map}
use Rattle.std.proofs.lemmas.Grind.{flat_map-append}
use Rattle.std.proofs.lemmas.Bool.{false≢true, cases_lt}
use Rattle.std.proofs.lemmas.List.{append_assoc}
use Rattle.std.proofs.lemmas.List.Elements.{Contains-append_cases, Contains-append_left, Contains-append_right, Contains-get_or, All-contains}
use Rattle.pci_spec.specs.Slot.{Slot, slot_number}
use Rattle.pci_spec.specs.Text.{hex_byte, slot_text}
use Rattle.pci_spec.specs.Header.{layout, rom_place}
use Rattle.pci_spec.specs.Window.{IoWindow, MemoryWindow, PrefetchWindow}
use Rattle.pci_spec.specs.System.{System, Function, Space, Io, Memory, register_of as part_register, has_part, space_of}
use Rattle.pci_spec.specs.System as system
use Rattle.pci_spec.specs.Bus.{IsNested}
use Rattle.pci_spec.specs.Decoded.{HasRecords, IsDecodable}
use Rattle.pci_spec.specs.Decoded as decoded
use Rattle.pci_spec.specs.Why.{Region, IsRegionIn}
use Rattle.pci_spec.proofs.Members.{in_nil, in_head, in_cons_cases, IsMade, in_map_to, pairs_nil, pairs_cons, pairs_append, pairs_head, pairs_tail}
use Rattle.pci_spec.proofs.Regions.{part_same, register_of-lt}
use Rattle.judge_spec.specs.Given.{Given}
use Rattle.judge_spec.specs.Why.{isa_words_of}
use Rattle.judge_spec.specs.ToldClaims.{Told}
use Rattle.judge_spec.specs.ToldLine.{register_text}
use Rattle.judge_spec.specs.ToldRegion.{ToldRegion, told_extent, IsToldIn, name_words}
use Rattle.judge_spec.specs.Regions.{MapRegion, Own, OfLine, slot_of, register_of, IsIn, region_rank}
use Rattle.judge_spec.specs.Regions as regions
use Rattle.judge_spec.specs.Lines.{IsOutOfPlace}
use Rattle.judge_spec.specs.Map.{IsOnlyLeft, AreRegionsBySlot}
use Rattle.judge_spec.specs.MapText.{part_name, told_part_name, map_region_line, outside_text, under_heading}
use Rattle.pci_function.specs.declared.record.Record.{Record}
use Rattle.pci_function.specs.Values.{record_value}
use Rattle.pci_tree.specs.Outline.{Tree, RiseBySlot}
use Rattle.pci_tree.specs.Regions.{IsLawful, IsRegionOn, regions_of}
use Rattle.pci_tree.proofs.Lifting.{Has, function_for, one_function}
use Rattle.pci_tree.proofs.RegionParts.{regions_are}
use Rattle.pci_tree.specs.declared.region.Region as outline
use Rattle.pci_claims.specs.Found.{IsFoundIn, NoneClaims}
use Rattle.pci_claims.proofs.Founds.{found_in_record, none_in_record}
use Rattle.pci_map.specs.Values.{value_of}
use Rattle.pci_map.specs.Off.{section}
use Rattle.pci_map.specs.Left.{IsTreeOf}
use Rattle.pci_map.specs.Asides.{AreFoundBy, IsListedAt, IsRecordIn, IsNamedAt, IsNamedAtRegister, IsNamedBelow, IsOfRegisters, IsTheRange, AreAsidesWritten, AreAsides, AreAsidesTold}
use Rattle.pci_map.proofs.Firsts.{found_region}
use Rattle.pci_map.proofs.Lefts.{AreOne, region_same}
use Rattle.pci_map.proofs.Offs.{IsSet, extent_set, section_of}

-- the systems that have an outline's records
pub tree_of : (t : Tree) (s : System) (rs : List Record) → map record_value rs ≡ t.records → RiseBySlot rs → IsNested t.roots s → HasRecords s t.records → IsTreeOf t s
tree_of t s rs same rising nested has = record {
  records = has;
  nested = nested;
  one = λ f g in_f in_g e. one_function s rs f g (subst (λ (xs : List decoded.Record). HasRecords s xs) (sym same) has) rising in_f in_g e;
}

-- ---- a register has one region

there_is : (s : System) (q : Region) (is : IsRegionIn s q) → system.Claims is.f q.part q.space q.range.first
there_is s q is = (is.claims q.range.first).0 (omega arith, is.some)

pub one_at : (s : System) → AreOne s → (p q : Region) → IsRegionIn s p → IsRegionIn s q → p.slot ≡ q.slot → p.register ≡ q.register → p ≡ q
one_at s unique p q ip iq slot register =
    let same : ip.f ≡ iq.f = unique ip.f iq.f ip.listed iq.listed (ip.slot ∙ slot ∙ sym iq.slot) in
    let p_there = there_is s p ip in
    let q_there = there_is s q iq in
    let registers : part_register iq.f p.part ≡ part_register iq.f q.part = ap (λ f. part_register f p.part) (sym same) ∙ ip.register ∙ register ∙ sym iq.register in
    let part : p.part ≡ q.part = part_same iq.f p.part q.part (subst (λ f. has_part f p.part ≡ true) same p_there.there) q_there.there registers in
    let space : p.space ≡ q.space = sym p_there.maps ∙ ap (λ f. space_of f p.part) same ∙ ap (space_of iq.f) part ∙ q_there.maps in
    region_same s unique p q ip iq slot part space

pub register_low : (s : System) (q : Region) → IsRegionIn s q → q.register < 64
register_low s q is = subst (λ n. n < 64) is.register (register_of-lt is.f q.part (there_is s q is).there)

four_of_rom : (bridge : Bool) → (n : ℕ) × (rom_place bridge ≡ 4 * n)
four_of_rom true = (14, refl)
four_of_rom false = (12, refl)

four_of : (f : Function) (part : system.Part) → (n : ℕ) × (part_register f part ≡ 4 * n)
four_of f (system.Bar n) = (n + 4, omega arith)
four_of f system.Rom = four_of_rom (layout f.image == 1)
four_of f (system.Window IoWindow) = (7, refl)
four_of f (system.Window MemoryWindow) = (8, refl)
four_of f (system.Window PrefetchWindow) = (9, refl)

-- the registers of regions begin at every fourth byte
register_quad : (s : System) (q : Region) → IsRegionIn s q → (n : ℕ) × (q.register ≡ 4 * n)
register_quad s q is = let four = four_of is.f q.part in (four.0, sym is.register ∙ four.1)

-- ---- the regions of a record

pub record_in : (s : System) (rs : List Record) (k : ℕ) (r : Record) → Has s rs → RiseBySlot rs → All IsLawful rs → k < length rs → get_or rs k r ≡ r → IsRecordIn s r
record_in s rs k r are rising lawful lt at = record { records = rs; are = are; rising = rising; lawful = lawful; has = subst (Contains rs) at (Contains-get_or rs k r lt) }

lawful_in : (s : System) (r : Record) (is : IsRecordIn s r) → IsLawful r
lawful_in s r is = All-contains IsLawful is.records r is.lawful is.has

pub found_by : (s : System) (r : Record) (space : Space) (qs : List outline.Region) → qs ≡ regions_of r space → IsRecordIn s r → AreFoundBy s r.slot space qs
found_by s r space qs same is = record {
  found = λ reg q listed. (
      let own = function_for s is.records r is.are is.has in
      let has : Contains (regions_of r space) q = subst (λ xs. Contains xs q) same listed.0 in
      let part = regions_are r own.0 space q (All-contains IsDecodable s own.0 is.are.decodable own.1) own.2 (lawful_in s r is) has in
      found_in_record s is.records r r.slot reg space q is.are is.rising is.has refl (lawful_in s r is) record { has = has; register = listed.1; some = part.1.some });
  none = λ reg none. none_in_record s is.records r r.slot reg space is.are is.rising is.has refl (lawful_in s r is) (λ q here. none q (subst (λ xs. Contains xs q) (sym same) here.has, here.register));
}

-- a record stands behind those before it
pub before : (rs : List Record) (k : ℕ) (r x : Record) → RiseBySlot rs → k < length rs → get_or rs k r ≡ r → Contains (take k rs) x → slot_number x.slot < slot_number r.slot
before [] k r x rise lt at has = absurd (let no : ⊥ = omega (arith, lt) in no)
before (y ∷ rs) zero r x rise lt at has = absurd (in_nil x has)
before (y ∷ rs) (suc k) r x rise lt at has = elim (in_cons_cases y (take k rs) x has) [
  | inl here ↦ subst (λ (z : Record). slot_number z.slot < slot_number r.slot) here
      (pairs_head (λ (v w : Record). slot_number v.slot < slot_number w.slot) y rs r rise (subst (λ z. Contains rs z) at (Contains-get_or rs k r (omega (arith, lt)))))
  | inr later ↦ before rs k r x (pairs_tail (λ (v w : Record). slot_number v.slot < slot_number w.slot) y rs rise) (omega (arith, lt)) at later
]

-- ---- what is found

pub is_region : (s : System) (slot : Slot) (reg : ℕ) (space : Space) (q : outline.Region) → IsFoundIn s slot reg space q → IsRegionIn s (value_of space q)
is_region s slot reg space q found = found_region s slot reg space q found

pub found_on : (s : System) (slot : Slot) (reg : ℕ) (space : Space) (q : outline.Region) → IsFoundIn s slot reg space q → (bus : ℕ) → bus ≡ slot.bus → IsRegionOn s bus space q
found_on s slot reg space q found bus is = record {
  f = found.f;
  part = found.part;
  listed = found.listed;
  on_bus = ap (λ (x : Slot). x.bus) (sym found.is.slot ∙ found.slot_is) ∙ sym is;
  is = found.is;
}

cases_space : (space : Space) → (space ≡ Io) ⊎ (space ≡ Memory)
cases_space Io = inl refl
cases_space Memory = inr refl

abbrev is_io : Space → Bool
is_io Io = true
is_io Memory = false

abbrev IsLess : MapRegion → MapRegion → Type 0
IsLess p q = region_rank p < region_rank q

module _ (told : Told) (given : Given) (Q : MapRegion → Type 0) (s : System) where
  pub told_none : (P : MapRegion → Type 0) (text : List ℕ) → ((q : MapRegion) → IsIn told s q → Q q → P q → ⊥) → AreAsidesWritten told given Q s P text text
  told_none P text none = record {
    written = [];
    regions = λ q has. absurd (in_nil q has);
    hold = λ q has. absurd (in_nil q has);
    among = λ q has. absurd (in_nil q has);
    complete = λ q is holds p. absurd (none q is holds p);
    rising = pairs_nil IsLess;
    text = sym (append-nil text);
  }

  in_one : (P : MapRegion → Type 0) (q p : MapRegion) → P q → Contains (q ∷ []) p → P p
  in_one P q p holds has = elim (in_cons_cases q [] p has) [
    | inl here ↦ subst P here holds
    | inr none ↦ absurd (in_nil p none)
  ]

  told_one : (P : MapRegion → Type 0) (q : MapRegion) (old new : List ℕ) → IsIn told s q → Q q → P q → ((p : MapRegion) → IsIn told s p → P p → p ≡ q) → new ≡ old ++ map_region_line given 1 q
      → AreAsidesWritten told given Q s P old new
  told_one P q old new is left holds only text = record {
    written = q ∷ [];
    regions = λ p has. in_one (IsIn told s) q p is has;
    hold = λ p has. in_one Q q p left has;
    among = λ p has. in_one P q p holds has;
    complete = λ p of left_p holds_p. subst (λ z. Contains (q ∷ []) z) (sym (only p of holds_p)) (in_head q []);
    rising = pairs_cons IsLess q [] (λ p has. absurd (in_nil p has)) (pairs_nil IsLess);
    text = text ∙ ap (λ t. old ++ t) (sym (append-nil (map_region_line given 1 q)));
  }

  -- lines of some, and behind them those of others
  pub told_join : (P S R : MapRegion → Type 0) (old mid new : List ℕ) → AreAsidesWritten told given Q s P old mid → AreAsidesWritten told given Q s S mid new
      → ((p q : MapRegion) → IsIn told s p → IsIn told s q → P p → S q → region_rank p < region_rank q)
      → ((q : MapRegion) → P q → R q) → ((q : MapRegion) → S q → R q) → ((q : MapRegion) → IsIn told s q → R q → P q ⊎ S q) → AreAsidesWritten told given Q s R old new
  told_join P S R old mid new first second order from_p from_s parts = record {
    written = first.written ++ second.written;
    regions = λ q has. elim (Contains-append_cases first.written second.written q has) [
      | inl early ↦ first.regions q early
      | inr late ↦ second.regions q late
    ];
    hold = λ q has. elim (Contains-append_cases first.written second.written q has) [
      | inl early ↦ first.hold q early
      | inr late ↦ second.hold q late
    ];
    among = λ q has. elim (Contains-append_cases first.written second.written q has) [
      | inl early ↦ from_p q (first.among q early)
      | inr late ↦ from_s q (second.among q late)
    ];
    complete = λ q is left holds. elim (parts q is holds) [
      | inl early ↦ Contains-append_left first.written second.written q (first.complete q is left early)
      | inr late ↦ Contains-append_right first.written second.written q (second.complete q is left late)
    ];
    rising = pairs_append IsLess first.written second.written first.rising second.rising
        (λ p q in_p in_q. order p q (first.regions p in_p) (second.regions q in_q) (first.among p in_p) (second.among q in_q));
    text = second.text ∙ ap (λ t. t ++ flat_map (map_region_line given 1) second.written) first.text
        ∙ append_assoc old (flat_map (map_region_line given 1) first.written) (flat_map (map_region_line given 1) second.written)
        ∙ ap (λ t. old ++ t) (sym (flat_map-append (map_region_line given 1) first.written second.written));
  }

  pub told_same : (P S : MapRegion → Type 0) (old new : List ℕ) → AreAsidesWritten told given Q s P old new → ((q : MapRegion) → IsIn told s q → P q → S q) → ((q : MapRegion) → IsIn told s q → S q → P q)
      → AreAsidesWritten told given Q s S old new
  told_same P S old new was to from = record {
    written = was.written;
    regions = was.regions;
    hold = was.hold;
    among = λ q has. to q (was.regions q has) (was.among q has);
    complete = λ q is left holds. was.complete q is left (from q is holds);
    rising = was.rising;
    text = was.text;
  }

  -- ---- at a slot and a register

  -- a told range has a register behind those of its slot
  high_line : (x : ToldRegion) → IsToldIn told s x → (n : ℕ) → n ≤ 256 → x.register < n → ⊥
  high_line x is n few low = let line = is.named.register in omega (arith, line, few, low)

  one_own : AreOne s → (p q : MapRegion) → IsIn told s p → IsIn told s q → slot_of p ≡ slot_of q → register_of p ≡ register_of q → register_of p < 256 → p ≡ q
  one_own unique (Own p) (Own q) ip iq slot register low = ap Own (one_at s unique p q ip iq slot register)
  one_own unique (Own p) (OfLine y) ip iq slot register low = absurd (high_line y iq 256 (omega arith) (omega (arith, register, low)))
  one_own unique (OfLine x) q ip iq slot register low = absurd (high_line x ip 256 (omega arith) low)

  module _ (unique : AreOne s) (slot : Slot) (reg : ℕ) (small : reg < 256) where
    none_named : (space : Space) → NoneClaims s slot reg space → (q : MapRegion) → IsIn told s q → IsNamedAt slot reg space q → ⊥
    none_named space none (Own q) is at = none is.f q.part q.range.first is.listed (is.slot ∙ at.0) (is.register ∙ at.1) (subst (λ sp. system.Claims is.f q.part sp q.range.first) at.2 (there_is s q is))
    none_named space none (OfLine x) is at = let named = at.1 in high_line x is 256 (omega arith) (omega (arith, named, small))

    pub none_found : (space : Space) (text : List ℕ) → NoneClaims s slot reg space → AreAsidesWritten told given Q s (IsNamedAt slot reg space) text text
    none_found space text none = told_none (IsNamedAt slot reg space) text (λ q is left at. none_named space none q is at)

    module _ (space : Space) (q : outline.Region) (found : IsFoundIn s slot reg space q) where
      abbrev v : MapRegion
      v = Own (value_of space q)

      same_found : (p : MapRegion) → IsIn told s p → IsNamedAt slot reg space p → p ≡ v
      same_found p is at =
          let named = at.1 in
          one_own unique p v is (is_region s slot reg space q found) (at.0 ∙ sym found.slot_is) (at.1 ∙ sym found.register) (omega (arith, named, small))

      pub found_not : (text : List ℕ) → (Q v → ⊥) → AreAsidesWritten told given Q s (IsNamedAt slot reg space) text text
      found_not text not = told_none (IsNamedAt slot reg space) text (λ p is holds at. not (subst Q (same_found p is at) holds))

      pub found_one : (old new : List ℕ) → Q v → new ≡ old ++ map_region_line given 1 v → AreAsidesWritten told given Q s (IsNamedAt slot reg space) old new
      found_one old new left text = told_one (IsNamedAt slot reg space) v old new (is_region s slot reg space q found) left (found.slot_is, found.register, refl) same_found text

    -- no register has regions of both spaces
    pub both_spaces : (old mid new : List ℕ) → AreAsidesWritten told given Q s (IsNamedAt slot reg Io) old mid → AreAsidesWritten told given Q s (IsNamedAt slot reg Memory) mid new → AreAsidesWritten told given Q s (IsNamedAtRegister slot reg) old new
    both_spaces old mid new io memory =
        told_join (IsNamedAt slot reg Io) (IsNamedAt slot reg Memory) (IsNamedAtRegister slot reg) old mid new io memory
        (λ p q ip iq at_p at_q. (
        let named = at_p.1 in
        let same : p ≡ q = one_own unique p q ip iq (at_p.0 ∙ sym at_q.0) (at_p.1 ∙ sym at_q.1) (omega (arith, named, small)) in
        absurd (false≢true (sym (ap is_io (sym at_p.2 ∙ ap (λ (z : MapRegion). regions.space_of z) same ∙ at_q.2))))))
        (λ q at. (at.0, at.1)) (λ q at. (at.0, at.1))
        (λ q is at. elim (cases_space (regions.space_of q)) [
          | inl io ↦ inl (at.0, at.1, io)
          | inr memory ↦ inr (at.0, at.1, memory)
        ])

  -- ---- of a function

  none_of_space : (unique : AreOne s) (slot : Slot) (space : Space) (qs : List outline.Region) → AreFoundBy s slot space qs → ((q : outline.Region) → Contains qs q → Q (Own (value_of space q)) → ⊥)
      → (q : Region) → IsRegionIn s q → q.slot ≡ slot → q.space ≡ space → Q (Own q) → ⊥
  none_of_space unique slot space qs found none q is at same holds =
      let low = register_low s q is in
      let listed : (x : outline.Region) → IsListedAt qs q.register x → ⊥ = λ x here.
      none x here.0 (subst Q (same_found unique slot q.register (omega (arith, low)) space x (found.found q.register x here) (Own q) is (at, refl, same)) holds) in
      found.none q.register listed is.f q.part q.range.first is.listed (is.slot ∙ at) is.register (subst (λ sp. system.Claims is.f q.part sp q.range.first) same (there_is s q is))

  none_here : (unique : AreOne s) (slot : Slot) (io memory : List outline.Region) → AreFoundBy s slot Io io → AreFoundBy s slot Memory memory
      → ((q : outline.Region) → Contains io q → Q (Own (value_of Io q)) → ⊥) → ((q : outline.Region) → Contains memory q → Q (Own (value_of Memory q)) → ⊥) → (q : MapRegion) → IsIn told s q → Q q → IsOfRegisters slot q → ⊥
  none_here unique slot io memory found_io found_memory none_io none_memory (Own q) is holds at = elim (cases_space q.space) [
    | inl same ↦ none_of_space unique slot Io io found_io none_io q is at.0 same holds
    | inr same ↦ none_of_space unique slot Memory memory found_memory none_memory q is at.0 same holds
  ]
  none_here unique slot io memory found_io found_memory none_io none_memory (OfLine x) is holds at = high_line x is 256 (omega arith) at.1

  -- no region that its lists have is such a one
  pub none_of : (unique : AreOne s) (slot : Slot) (io memory : List outline.Region) (text : List ℕ) → AreFoundBy s slot Io io → AreFoundBy s slot Memory memory
      → ((q : outline.Region) → Contains io q → Q (Own (value_of Io q)) → ⊥) → ((q : outline.Region) → Contains memory q → Q (Own (value_of Memory q)) → ⊥) → AreAsidesWritten told given Q s (IsOfRegisters slot) text text
  none_of unique slot io memory text found_io found_memory none_io none_memory =
      told_none (IsOfRegisters slot) text (λ q is holds at. none_here unique slot io memory found_io found_memory none_io none_memory q is holds at)

  -- ---- at the registers of a function

  pub below_none : (slot : Slot) (text : List ℕ) → AreAsidesWritten told given Q s (IsNamedBelow slot 0) text text
  below_none slot text = told_none (IsNamedBelow slot 0) text (λ q is left at. (let low = at.1 in omega (arith, low)))

  below_cases : (q : MapRegion) (slot : Slot) (k : ℕ) → k < 64 → IsIn told s q → slot_of q ≡ slot → register_of q < 4 * (k + 1) → IsNamedBelow slot (4 * k) q ⊎ IsNamedAtRegister slot (4 * k) q
  below_cases (Own q) slot k few is at low =
      let quad = register_quad s q is in
      let n = quad.0 in
      let four = quad.1 in elim (cases_lt n k) [
        | inl less ↦ inl (at, omega (arith, less, four))
        | inr not_less ↦ inr (at, omega (arith, low, not_less, four))
      ]
  below_cases (OfLine x) slot k few is at low = absurd (high_line x is (4 * (k + 1)) (omega (arith, few)) low)

  -- the next register of four bytes
  pub one_register : (slot : Slot) (k : ℕ) (old mid new : List ℕ) → k < 64 → AreAsidesWritten told given Q s (IsNamedBelow slot (4 * k)) old mid → AreAsidesWritten told given Q s (IsNamedAtRegister slot (4 * k)) mid new
      → AreAsidesWritten told given Q s (IsNamedBelow slot (4 * (k + 1))) old new
  one_register slot k old mid new few first second =
      told_join (IsNamedBelow slot (4 * k)) (IsNamedAtRegister slot (4 * k)) (IsNamedBelow slot (4 * (k + 1))) old mid new first second
      (λ p q ip iq at_p at_q. (
      let low = at_p.1 in
      let here = at_q.1 in
      let slots : slot_number (slot_of p) ≡ slot_number (slot_of q) = ap slot_number (at_p.0 ∙ sym at_q.0) in omega (arith, low, here, slots)))
      (λ q at. (at.0, let low = at.1 in omega (arith, low))) (λ q at. (at.0, let here = at.1 in omega (arith, here)))
      (λ q is at. below_cases q slot k few is at.0 at.1)

  of_registers : (slot : Slot) (q : MapRegion) → IsIn told s q → IsOfRegisters slot q → IsNamedBelow slot 64 q
  of_registers slot (Own q) is at = (at.0, register_low s q is)
  of_registers slot (OfLine x) is at = absurd (high_line x is 256 (omega arith) at.1)

  pub all_registers : (slot : Slot) (old new : List ℕ) → AreAsidesWritten told given Q s (IsNamedBelow slot 64) old new → AreAsidesWritten told given Q s (IsOfRegisters slot) old new
  all_registers slot old new was =
      told_same (IsNamedBelow slot 64) (IsOfRegisters slot) old new was (λ q is at. (at.0, let low = at.1 in omega (arith, low))) (λ q is at. of_registers slot q is at)

  -- ---- told ranges

  pub the_range_not : (x : ToldRegion) (text : List ℕ) → (Q (OfLine x) → ⊥) → AreAsidesWritten told given Q s (IsTheRange x) text text
  the_range_not x text not = told_none (IsTheRange x) text (λ p is holds at. not (subst Q at holds))

  pub the_range : (x : ToldRegion) (old new : List ℕ) → IsToldIn told s x → Q (OfLine x) → new ≡ old ++ map_region_line given 1 (OfLine x) → AreAsidesWritten told given Q s (IsTheRange x) old new
  the_range x old new is left text = told_one (IsTheRange x) (OfLine x) old new is left refl (λ p ip at. at) text

-- ---- below the heading

abbrev whole : List (List ℕ) → List ℕ
whole lines = flat_map (λ text. text) lines

lines_of : (given : Given) (qs : List MapRegion) → flat_map (map_region_line given 1) qs ≡ whole (map (map_region_line given 1) qs)
lines_of given [] = refl
lines_of given (q ∷ qs) = ap (λ t. map_region_line given 1 q ++ t) (lines_of given qs)

each_set : (given : Given) (q : MapRegion) → IsSet (map_region_line given 1 q)
each_set given (Own q) = extent_set q.space q.range (part_name q.part q.prefetchable ∷ slot_text q.slot ∷ hex_byte q.register ∷ isa_words_of given q.part q.space q.slot)
each_set given (OfLine x) = extent_set x.told.space (told_extent x.told) (told_part_name x ∷ slot_text x.told.slot ∷ register_text x.register ∷ name_words x.told.name)

line_set : (given : Given) (qs : List MapRegion) (line : List ℕ) → Contains (map (map_region_line given 1) qs) line → IsSet line
line_set given qs line has =
    let made : IsMade (map_region_line given 1) qs line = in_map_to (map_region_line given 1) qs line has in
    subst IsSet made.is (each_set given made.from)

section_told : (given : Given) (heading : List ℕ) (qs : List MapRegion) → section heading (flat_map (map_region_line given 1) qs) ≡ under_heading heading (map (map_region_line given 1) qs)
section_told given heading qs = ap (section heading) (lines_of given qs) ∙ section_of heading (map (map_region_line given 1) qs) (line_set given qs)

module _ (told : Told) (given : Given) (Q : MapRegion → Type 0) (s : System) where
  pub listed : (old new : List ℕ) (was : AreAsidesWritten told given Q s (IsIn told s) old new) → AreRegionsBySlot Q told s was.written
  listed old new was = record { regions = was.regions; hold = was.hold; complete = λ q is holds. was.complete q is holds is; rising = was.rising }

  below : (empty text : List ℕ) (heading : List ℕ) (was : AreAsidesWritten told given Q s (IsIn told s) empty text) → empty ≡ []
      → section heading text ≡ under_heading heading (map (map_region_line given 1) was.written)
  below empty text heading was none = ap (section heading) (was.text ∙ ap (λ t. t ++ flat_map (map_region_line given 1) was.written) none) ∙ section_told given heading was.written

pub asides_below : (told : Told) (given : Given) (roots : List ℕ) (s : System) (no_out out said no_left left left_said old mid new : List ℕ) → no_out ≡ [] → no_left ≡ [] → AreAsides told given roots s (IsIn told s) record { outside = no_out; unreached = no_left } record { outside = out; unreached = left }
    → said ≡ out → left_said ≡ left → mid ≡ old ++ section (codes "outside") said → new ≡ mid ++ section (codes "unreached") left_said → AreAsidesTold told given roots s old new
asides_below told given roots s no_out out said no_left left left_said old mid new none nothing was is_out is_left first second = record {
  outside = was.out.written;
  are_outside = listed told given (IsOutOfPlace told given roots s) s no_out out was.out;
  unreached = was.left.written;
  are_left = listed told given (IsOnlyLeft told given roots s) s no_left left was.left;
  text = second ∙ ap (λ t. mid ++ section (codes "unreached") t) is_left ∙ ap (λ t. t ++ section (codes "unreached") left) (first ∙ ap (λ t. old ++ section (codes "outside") t) is_out)
      ∙ append_assoc old (section (codes "outside") out) (section (codes "unreached") left)
      ∙ ap (λ t. old ++ (t ++ section (codes "unreached") left)) (below told given (IsOutOfPlace told given roots s) s no_out out (codes "outside") was.out none)
      ∙ ap (λ t. old ++ (outside_text given was.out.written ++ t)) (below told given (IsOnlyLeft told given roots s) s no_left left (codes "unreached") was.left nothing);
}
