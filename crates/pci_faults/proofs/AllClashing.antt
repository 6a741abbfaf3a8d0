-- All clashes of a system: bus by bus, and in order.
use Rattle.std.proofs.Common.{rules, ◌≡◌, ℕ, ◌+◌, ◌<◌, ◌^◌, ◌⊎◌, inl, inr, List, [], ◌++◌, map, get_or, refl, sym, ◌∙◌, ap, subst, arith, Some}
use Rattle.std.specs.Prelude.{◌↔◌}
use Rattle.std.specs.List.{slice_get}
use Rattle.std.specs.List.Sorted.{IsPermutation, IsNonDecreasingBy}
use Rattle.std.proofs.lemmas.Bool.{cases_eq}
use Rattle.std.proofs.lemmas.Option.{slice_get_within, get_or_from_slice_get}
use Rattle.pci_spec.specs.Slot.{Slot, IsSlot}
use Rattle.pci_spec.specs.System.{System, Space, Io, Memory, IsSystem}
use Rattle.pci_spec.specs.Fault.{Clash, address_in, named_region}
use Rattle.pci_spec.specs.Fault as plain
use Rattle.pci_spec.proofs.Firsts.{slot_of, space_key-same}
use Rattle.pci_check.proofs.Clashing.{io_is_not_memory}
use Rattle.pci_base.specs.Space.{space_of}
use Rattle.pci_tree.specs.Outline.{Tree}
use Rattle.judge_spec.specs.Given.{Given}
use Rattle.judge_spec.specs.Claims.{Own, Legacy, Palette}
use Rattle.judge_spec.specs.Fault.{Known, fault_number}
use Rattle.judge_spec.specs.Told.{ToldRange, IsTold, IsToldRange}
use Rattle.judge_spec.specs.ToldClaims.{Told, ClaimsOnBus}
use Rattle.judge_spec.specs.ToldAllFaults.{IsNamed}
use Rattle.judge_spec.proofs.Naming.{named_register}
use Rattle.judge_spec.proofs.ToldAdds.{told_claim_addresses}
use Rattle.pci_faults.specs.declared.named.Clash as named
use Rattle.pci_faults.specs.JustLines.{AreJustLines}
use Rattle.pci_faults.specs.RegionOrder.{clash_place}
use Rattle.pci_faults.specs.Clashes.{clash_value, IsClashLine, IsOnBusIn, AreClashesAdded}
use Rattle.pci_faults.specs.Named.{AreAllClashes}
use Rattle.pci_faults.proofs.Addings.{AreApart, added_none, added_both, added_same}
use Rattle.pci_faults.proofs.Orders.{IsClashBelow, clash_order}
use Rattle.pci_faults.proofs.Places.{address_small, space_small}
use Rattle.pci_faults.proofs.Numbering.{AreLinesOf, all_numbered}

abbrev pub Where : Type 1
Where = ℕ → Space → Type 0

abbrev pub IsBelow : ℕ → Where
IsBelow n b sp = b < n

abbrev pub IsOnBus : ℕ → Where
IsOnBus n b sp = b ≡ n

abbrev pub IsAnywhere : Where
IsAnywhere b sp = Unit {0}

pub not_both_spaces : (bus n : ℕ) (sp : Space) → IsOnBusIn bus Io n sp → IsOnBusIn bus Memory n sp → ⊥
not_both_spaces bus n sp io memory = io_is_not_memory (sym io.1 ∙ memory.1)

pub either_space : (bus n : ℕ) (sp : Space) → IsOnBus bus n sp ↔ (IsOnBusIn bus Io n sp ⊎ IsOnBusIn bus Memory n sp)
either_space bus n sp = (
  λ on. elim sp as (λ sp. IsOnBusIn bus Io n sp ⊎ IsOnBusIn bus Memory n sp) [ Io ↦ inl (on, refl) | Memory ↦ inr (on, refl) ],
  λ at. elim at [ inl io ↦ io.0 | inr memory ↦ memory.0 ],
)

pub not_below_and_on : (bus n : ℕ) (sp : Space) → IsBelow bus n sp → IsOnBus bus n sp → ⊥
not_below_and_on bus n sp below on = let no : ⊥ = omega (arith, below, on) in no

pub below_or_on : (bus n : ℕ) (sp : Space) → IsBelow (bus + 1) n sp ↔ (IsBelow bus n sp ⊎ IsOnBus bus n sp)
below_or_on bus n sp = (
  λ below. elim (cases_eq n bus) [ inl same ↦ inr same | inr differ ↦ inl (omega (arith, below, differ)) ],
  λ one. elim one [ inl below ↦ omega (arith, below) | inr on ↦ omega (arith, on) ],
)

-- ---- what claims an address

-- its numbers are in their ranges
pub record IsSpelled (bus a : ℕ) (slot : Slot) (register : ℕ) : Type 0 where
  pub on_bus : slot.bus ≡ bus
  pub address : a < 2 ^ 64
  pub numbers : IsSlot slot
  pub register_small : register < 8192

module _ (told : Told) (is_told : IsTold told.ranges) (given : Given) (s : System) (system : IsSystem s) where
  range_of : (k : ℕ) (r : ToldRange) → slice_get told.ranges k ≡ Some r → IsToldRange r
  range_of k r at = subst IsToldRange (get_or_from_slice_get told.ranges k r r at) (is_told.each k r (slice_get_within told.ranges k r at))

  slot_named : (bus : ℕ) (space : Space) (a : ℕ) (slot : Slot) (register : ℕ) → ClaimsOnBus told given s bus (address_in space a) (named_region slot register) → IsSlot slot
  slot_named bus space a slot register (inl claims) = subst IsSlot claims.3 (slot_of s system claims.0 claims.2)
  slot_named bus space a slot register (inr range) = subst IsSlot range.named.slot (range_of range.named.index range.r range.named.at).line.slot

  bus_named : (bus : ℕ) (space : Space) (a : ℕ) (slot : Slot) (register : ℕ) → ClaimsOnBus told given s bus (address_in space a) (named_region slot register) → slot.bus ≡ bus
  bus_named bus space a slot register (inl claims) = claims.4
  bus_named bus space a slot register (inr range) = range.on_the_bus

  register_named : (bus : ℕ) (space : Space) (a : ℕ) (slot : Slot) (register : ℕ) → ClaimsOnBus told given s bus (address_in space a) (named_region slot register) → register < 8192
  register_named bus space a slot register (inl claims) = let low = named_register given s bus space a slot register claims in omega (arith, low)
  register_named bus space a slot register (inr range) =
      let named = range.named.register in
      let within = slice_get_within told.ranges range.named.index range.r range.named.at in
      let room = is_told.room in
      omega (arith, named, within, room)

  address_of : (bus : ℕ) (space : Space) (a : ℕ) (slot : Slot) (register : ℕ) → ClaimsOnBus told given s bus (address_in space a) (named_region slot register) → a < 2 ^ 64
  address_of bus space a slot register (inl (f, Own part, listed, at, on, named, own)) = address_small space a own.claims.address
  address_of bus space a slot register (inl (f, Legacy, listed, at, on, named, claims)) = address_small space a claims.address
  address_of bus space a slot register (inl (f, Palette, listed, at, on, named, claims)) = address_small space a claims.address
  address_of bus space a slot register (inr range) = address_small space a (told_claim_addresses told s (named_region slot register) range.r space a is_told range.named range.claims)

  pub spelled : (bus : ℕ) (space : Space) (a : ℕ) (slot : Slot) (register : ℕ) → ClaimsOnBus told given s bus (address_in space a) (named_region slot register) → IsSpelled bus a slot register
  spelled bus space a slot register claims = record {
    on_bus = bus_named bus space a slot register claims;
    address = address_of bus space a slot register claims;
    numbers = slot_named bus space a slot register claims;
    register_small = register_named bus space a slot register claims;
  }

  -- a bus has a number below 256
  low_bus : (bus : ℕ) (space : Space) (a : ℕ) (slot : Slot) (register : ℕ) → ClaimsOnBus told given s bus (address_in space a) (named_region slot register) → bus < 256
  low_bus bus space a slot register claims =
      let is = slot_named bus space a slot register claims in
      let on = bus_named bus space a slot register claims in
      omega (arith, is, on)

-- ---- lines by bus and space

at_key : (k : ℕ) (xs ys : List ℕ) → xs ≡ ys → get_or xs k 0 ≡ get_or ys k 0
at_key k xs ys e = ap (λ l. get_or l k 0) e

module _ (told : Told) (given : Given) (roots : List ℕ) (s : System) where
  -- two clashes with one key are of one bus and space
  lines_apart : (A B : Where) → ((b : ℕ) (sp : Space) → A b sp → B b sp → ⊥) → AreApart (IsClashLine A told given roots s) (IsClashLine B told given roots s)
  lines_apart A B never (plain.Clash n sp a f r g q) (plain.Clash m space b h k i l) one two e =
      let bus : n ≡ m = at_key 1 _ _ e in
      let same : sp ≡ space = space_key-same sp space (at_key 2 _ _ e) in
      never m space (subst (λ (x : Space). A m x) same (subst (λ x. A x sp) bus one.0)) two.0
  lines_apart A B never f g one two e = absurd (search rules)

  either_line : (A B C : Where) → ((b : ℕ) (sp : Space) → C b sp ↔ (A b sp ⊎ B b sp)) → (f : plain.Fault)
      → IsClashLine C told given roots s f ↔ (IsClashLine A told given roots s f ⊎ IsClashLine B told given roots s f)
  either_line A B C either f = elim f as (λ (f : plain.Fault). IsClashLine C told given roots s f ↔ (IsClashLine A told given roots s f ⊎ IsClashLine B told given roots s f)) [
    | Clash bus space a f r g q ↦ (
      λ (at, line). elim ((either bus space).0 at) [ inl x ↦ inl (x, line) | inr y ↦ inr (y, line) ],
      λ one. elim one [ inl (x, line) ↦ ((either bus space).1 (inl x), line) | inr (y, line) ↦ ((either bus space).1 (inr y), line) ],
    )
    | _ ↦ (λ line. absurd line, λ line. elim line [ inl x ↦ x | inr y ↦ y ])
  ]

  moved_line : (A B : Where) → ((b : ℕ) (sp : Space) → A b sp → B b sp) → (f : plain.Fault) → IsClashLine A told given roots s f → IsClashLine B told given roots s f
  moved_line A B to (plain.Clash bus space a f r g q) (at, line) = (to bus space at, line)
  moved_line A B to f line = absurd (search rules)

  low_line : IsTold told.ranges → IsSystem s → (f : plain.Fault) → IsClashLine IsAnywhere told given roots s f → IsClashLine (IsBelow 256) told given roots s f
  low_line is_told system (plain.Clash bus space a f r g q) (at, line) = (low_bus told is_told given s system bus space a f r line.there.claims_first, line)
  low_line is_told system f line = absurd (search rules)

  none_line : (f : plain.Fault) → IsClashLine (IsBelow 0) told given roots s f → ⊥
  none_line (plain.Clash bus space a f r g q) (at, line) = let no : ⊥ = omega (arith, at) in no
  none_line f line = absurd (search rules)

module _ (told : Told) (given : Given) (t : Tree) where
  lines_both : (A B C : Where) → ((b : ℕ) (sp : Space) → A b sp → B b sp → ⊥) → ((b : ℕ) (sp : Space) → C b sp ↔ (A b sp ⊎ B b sp)) → (a b c : List named.Clash)
      → AreClashesAdded A told given t a b → AreClashesAdded B told given t b c → AreClashesAdded C told given t a c
  lines_both A B C never either a b c one two = added_both t (IsClashLine A told given t.roots) (IsClashLine B told given t.roots) (IsClashLine C told given t.roots) (map clash_value a) (map clash_value b) (map clash_value c)
      (λ s tree f g. lines_apart told given t.roots s A B never f g) (λ s tree f. either_line told given t.roots s A B C either f) one two

  pub both_spaces : (bus : ℕ) (a b c : List named.Clash) → AreClashesAdded (IsOnBusIn bus Io) told given t a b → AreClashesAdded (IsOnBusIn bus Memory) told given t b c → AreClashesAdded (IsOnBus bus) told given t a c
  both_spaces bus a b c one two = lines_both (IsOnBusIn bus Io) (IsOnBusIn bus Memory) (IsOnBus bus)
      (not_both_spaces bus) (either_space bus) a b c one two

  pub no_bus : (list : List named.Clash) → AreClashesAdded (IsBelow 0) told given t list list
  no_bus list = added_none t (IsClashLine (IsBelow 0) told given t.roots) (map clash_value list) (λ s tree f line. none_line told given t.roots s f line)

  pub one_bus_more : (n : ℕ) (a b c : List named.Clash) → AreClashesAdded (IsBelow n) told given t a b → AreClashesAdded (IsOnBus n) told given t b c → AreClashesAdded (IsBelow (n + 1)) told given t a c
  one_bus_more n a b c one two = lines_both (IsBelow n) (IsOnBus n) (IsBelow (n + 1))
      (not_below_and_on n) (below_or_on n) a b c one two

  pub all_buses : IsTold told.ranges → (a b : List named.Clash) → AreClashesAdded (IsBelow 256) told given t a b → AreClashesAdded IsAnywhere told given t a b
  all_buses is_told a b added = added_same t (IsClashLine (IsBelow 256) told given t.roots) (IsClashLine IsAnywhere told given t.roots) (map clash_value a) (map clash_value b)
      (λ s tree f. (λ line. moved_line told given t.roots s (IsBelow 256) IsAnywhere (λ n sp below. tt {0}) f line, λ line. low_line told given t.roots s is_told tree.system f line)) added

-- ---- in order

module _ (told : Told) (is_told : IsTold told.ranges) (given : Given) (roots : List ℕ) (s : System) (system : IsSystem s) where
  abbrev Line : plain.Fault → Type 0
  Line = IsClashLine IsAnywhere told given roots s

  below : (c : named.Clash) → Line (clash_value c) → IsClashBelow c
  below c (at, line) =
      let first = spelled told is_told given s system c.bus (space_of c.space) c.address c.first.slot c.first.register line.there.claims_first in
      let second = spelled told is_told given s system c.bus (space_of c.space) c.address c.second.slot c.second.register line.there.claims_second in
      (space_small (space_of c.space), (first.address, (first.on_bus, (first.numbers.1, (first.numbers.2, (first.register_small, (second.on_bus, (second.numbers.1, (second.numbers.2, (second.register_small, tt))))))))))

  named_line : (f : plain.Fault) → Line f → IsNamed told given roots s (Known f) × (fault_number (Known f) ≡ 61)
  named_line (plain.Clash bus space a f r g q) (at, line) = (line, refl)
  named_line f line = absurd (search rules)

  line_named : (f : plain.Fault) → IsNamed told given roots s (Known f) → fault_number (Known f) ≡ 61 → Line f
  line_named (plain.Clash bus space a f r g q) line number = (tt {0}, line)
  line_named (plain.Unreached slot register space a bridge) line number = absurd (let no : ⊥ = omega (arith, number) in no)
  line_named (plain.Split space a f r g q) line number = absurd (let no : ⊥ = omega (arith, number) in no)
  line_named f line number = absurd (search rules)

  lines : AreLinesOf clash_value clash_place 61 told given roots s Line
  lines = record {
    inside = λ e. (let no : ⊥ = omega (arith, e) in no);
    named = named_line;
    line = line_named;
    in_order = λ c d one other. clash_order c d (below c one) (below d other);
  }

pub all_clashes_are : (told : Told) → IsTold told.ranges → (given : Given) (t : Tree) (none xs ys : List named.Clash) → none ≡ [] → AreClashesAdded IsAnywhere told given t none xs → IsPermutation xs ys
    → IsNonDecreasingBy clash_place ys → AreAllClashes told given t ys
all_clashes_are told is_told given t none xs ys empty added moved sorted s tree listed =
    let is : map clash_value xs ≡ added.more = added.appended ∙ ap (λ (l : List named.Clash). map clash_value l ++ added.more) empty in
    all_numbered clash_value clash_place 61 told given t.roots s (IsClashLine IsAnywhere told given t.roots s) (lines told is_told given t.roots s tree.system) xs ys
    (subst (AreJustLines (IsClashLine IsAnywhere told given t.roots s)) (sym is) (added.just s tree)) moved sorted
