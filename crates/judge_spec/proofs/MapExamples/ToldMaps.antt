-- The map of a board with ISA Enable and three told ranges, of which one is off.
use Rattle.std.proofs.Common.{◌≡◌, ◌⊎◌, ℕ, zero, suc, ◌+◌, ◌*◌, ◌≤◌, ◌<◌, ◌%◌, List, [], ◌∷◌, refl, false, inl, inr, arith, lit<, lit≤, subst, sym, ap, ◌∙◌}
use Rattle.std.specs.Prelude.{nat_lt, nat_le, slice_index_or}
use Rattle.std.specs.List.{Any, Contains}
use Rattle.std.proofs.lemmas.Bool.{and_parts, and_from, ltb-true, lt-ltb, leb-true, le-leb, both_ways, cases_Bool, cases_lt, false≢true}
use Rattle.std.proofs.lemmas.List.Elements.{All-nil, All-cons}
use Rattle.pci_spec.specs.Slot.{Slot, slot_number}
use Rattle.pci_spec.specs.Decoded.{Range, InRange}
use Rattle.pci_spec.specs.Fault.{RegionName, address_in}
use Rattle.pci_spec.specs.System.{Function, Space, Io, Memory, Bar, Claims}
use Rattle.pci_spec.specs.Why.{Region, IsRun, AreRuns}
use Rattle.pci_spec.proofs.Members.{in_nil, in_cons_cases, pairs_nil}
use Rattle.pci_spec.proofs.Examples.Samples.{slot, range, host}
use Rattle.judge_spec.specs.Given.{is_isa_port}
use Rattle.judge_spec.specs.Told.{ToldRange}
use Rattle.judge_spec.specs.ToldClaims.{RangeClaimsOnBus}
use Rattle.judge_spec.proofs.Snoop.{takes_none}
use Rattle.judge_spec.specs.Regions.{MapRegion, Own, slot_of, space_of, range_of, IsIn, region_rank}
use Rattle.judge_spec.specs.Lines.{BelongsUnder, OnRoot, Inside, IsClaimedByPart, IsClaimedOn, IsFreeIn, IsFreeOn, End, Sits, MarkIsBefore, marks, AreLinesAt}
use Rattle.judge_spec.specs.Map.{MapRoot, HasWay, AreTakings, IsRootOfMap, IsMap}
use Rattle.judge_spec.specs.MapText.{IsMapText}
use Rattle.judge_spec.proofs.MapExamples.Samples.{untaken}
use Rattle.judge_spec.proofs.MapExamples.InsideWindows.{by_test}
use Rattle.judge_spec.proofs.MapExamples.ToldTexts.{of_line, p2sb, vf0, told, above, behind, disabled, s, with_isa, io_window, memory_window, ports, inside_io, inside_memory, whole, printed, text_of_the_board}
use Rattle.judge_spec.proofs.MapExamples.ToldBoard.{no, not_memory, io_window_is, memory_window_is, ports_claims, ports_holds, ports_is, p2sb_is, vf0_is, behind_parts, no_part, one_of_three, one_of_two, each_is_one, in_place, one_has, two_have, ports_belong, vf0_belongs, bus_below, on_root_io, on_root_memory, in_io_window, in_memory_window}

-- ---- which ports ISA Enable takes

left_port : (k a : ℕ) → k * 0x400 ≤ a → a < k * 0x400 + 0x100 → is_isa_port a ≡ false
left_port k a low high = elim (cases_Bool (is_isa_port a)) [
  | inr left ↦ left
  | inl cut ↦ (let more = leb-true 0x100 (a % 0x400) (and_parts (nat_lt a 65536) (nat_le 0x100 (a % 0x400)) cut).1 in absurd (let no : ⊥ = omega (arith, low, high, more) in no))
]

first_of_a_kb : (a : ℕ) → a < 65536 → is_isa_port a ≡ false → a % 0x400 < 0x100
first_of_a_kb a small left = elim (cases_lt (a % 0x400) 0x100) [
  | inl low ↦ low
  | inr high ↦ absurd (both_ways (is_isa_port a) left (and_from (nat_lt a 65536) (nat_le 0x100 (a % 0x400)) (lt-ltb a 65536 small) (le-leb 0x100 (a % 0x400) high)))
]

-- ---- what is claimed on bus 01

on_bus_one : (f : Function) → Contains s f → f.slot.bus ≡ 1 → (behind ≡ f) ⊎ (disabled ≡ f)
on_bus_one f listed at = elim (one_of_three f listed) [
  | inl is ↦ absurd (let e = ap (λ (x : Function). x.slot.bus) is ∙ at in let no : ⊥ = omega (arith, e) in no)
  | inr is ↦ is
]

claimed_by_part : (space : Space) (a : ℕ) → IsClaimedByPart with_isa s 1 space a → (space ≡ Io) × (space ≡ Io → InRange (range 0x1000 0x101f) a)
claimed_by_part space a c = elim (on_bus_one c.f c.listed c.on_bus) [
  | inl is ↦ (let claims = subst (λ (x : Function). Claims x c.part space a) (sym is) c.claims.claims in
      let parts = behind_parts c.part space a claims in
      (parts.1, λ io. ports_holds a (subst (λ sp. Claims behind (Bar 0) sp a) io (subst (λ p. Claims behind p space a) parts.0 claims))))
  | inr is ↦ absurd (no_part c.part space a (subst (λ (x : Function). Claims x c.part space a) (sym is) c.claims.claims))
]

-- of the ranges that are on vf0 alone is there, and in memory
claimed_by_range : (space : Space) (a : ℕ) (region : RegionName) → RangeClaimsOnBus told s 1 (address_in space a) region → (Memory ≡ space) × InRange (range 0xe0000000 0xe001ffff) a
claimed_by_range space a region c = elim (one_of_two c.named.index c.r c.named.at c.claims.on) [
  | inl (index, same) ↦ absurd (let e = ap (λ (r : ToldRange). r.slot.bus) same ∙ ap (λ (x : Slot). x.bus) c.named.slot ∙ c.on_the_bus in let no : ⊥ = omega (arith, e) in no)
  | inr (index, same) ↦ (
    ap (λ (r : ToldRange). r.space) same ∙ c.claims.holds.0,
    (
      (let low = c.claims.holds.1 in let is : 0xe0000000 ≡ c.r.first = ap (λ (r : ToldRange). r.first) same in omega (arith, low, is)),
      (let high = c.claims.holds.2 in let is : 0xe001ffff ≡ c.r.last = ap (λ (r : ToldRange). r.last) same in omega (arith, high, is)),
    ),
  )
]

claimed_io : (a : ℕ) → IsClaimedOn told with_isa s 1 Io a → InRange (range 0x1000 0x101f) a
claimed_io a (inl part) = (claimed_by_part Io a part).1 refl
claimed_io a (inr range) = not_memory (claimed_by_range Io a range.0 range.1).0

claimed_memory : (a : ℕ) → IsClaimedOn told with_isa s 1 Memory a → InRange (range 0xe0000000 0xe001ffff) a
claimed_memory a (inl part) = not_memory (claimed_by_part Memory a part).0
claimed_memory a (inr range) = (claimed_by_range Memory a range.0 range.1).1

-- ---- what of the I/O window is free

abbrev IsFreePort : ℕ → Type 0
IsFreePort a = IsFreeIn told with_isa s io_window a

free_port : (k a : ℕ) → 4 ≤ k → k ≤ 7 → k * 0x400 ≤ a → a < k * 0x400 + 0x100 → 0x1020 ≤ a → IsFreePort a
free_port k a few most low high past = record {
  held = (omega (arith, few, low), omega (arith, most, high));
  kept = left_port k a low high;
  unclaimed = λ b listed at claimed. (let held = claimed_io a (subst (λ bus. IsClaimedOn told with_isa s bus Io a) (bus_below b listed at) claimed) in let last = held.1 in omega (arith, last, past));
}

ports_are_claimed : (a : ℕ) → InRange (range 0x1000 0x101f) a → IsFreePort a → ⊥
ports_are_claimed a held free = free.unclaimed above (0, lit< tt, refl) refl (inl record { f = behind; part = Bar 0; listed = (1, lit< tt, refl); on_bus = refl; claims = record { claims = ports_claims a held; kept = refl } })

cut_is_not_free : (a : ℕ) → a < 65536 → 0x100 ≤ a % 0x400 → IsFreePort a → ⊥
cut_is_not_free a small high free = let low = first_of_a_kb a small free.kept in omega (arith, low, high)

run_of : (k first : ℕ) → 4 ≤ k → k ≤ 7 → k * 0x400 ≤ first → first < k * 0x400 + 0x100 → 0x1020 ≤ first → ((a : ℕ) → a + 1 ≡ first → IsFreePort a → ⊥) → IsRun IsFreePort (range first (k * 0x400 + 0xff))
run_of k first few most low high past before = record {
  some = omega (arith, high);
  each = λ a held. (let from = held.0 in let to = held.1 in free_port k a few most (omega (arith, low, from)) (omega (arith, to)) (omega (arith, past, from)));
  before = before;
  behind = λ free. cut_is_not_free (k * 0x400 + 0xff + 1) (omega (arith, most)) (omega arith) free;
}

abbrev free_ports : List Range
free_ports = range 0x1020 0x10ff ∷ range 0x1400 0x14ff ∷ range 0x1800 0x18ff ∷ range 0x1c00 0x1cff ∷ []

each_free_port : (k : ℕ) (d : Range) → k < 4 → IsRun IsFreePort (slice_index_or free_ports k d)
each_free_port zero d less = run_of 4 0x1020 (lit≤ tt) (lit≤ tt) (lit≤ tt) (lit< tt) (lit≤ tt) (λ a at free. ports_are_claimed a (omega (arith, at), omega (arith, at)) free)
each_free_port (suc zero) d less = run_of 5 0x1400 (lit≤ tt) (lit≤ tt) (lit≤ tt) (lit< tt) (lit≤ tt) (λ a at free. cut_is_not_free a (omega (arith, at)) (omega (arith, at)) free)
each_free_port (suc (suc zero)) d less = run_of 6 0x1800 (lit≤ tt) (lit≤ tt) (lit≤ tt) (lit< tt) (lit≤ tt) (λ a at free. cut_is_not_free a (omega (arith, at)) (omega (arith, at)) free)
each_free_port (suc (suc (suc zero))) d less = run_of 7 0x1c00 (lit≤ tt) (lit≤ tt) (lit≤ tt) (lit< tt) (lit≤ tt) (λ a at free. cut_is_not_free a (omega (arith, at)) (omega (arith, at)) free)
each_free_port (suc (suc (suc (suc k)))) d less = absurd (let no : ⊥ = omega (arith, less) in no)

all_free_ports : (a : ℕ) → IsFreePort a → Any (λ r. InRange r a) free_ports
all_free_ports a free =
    let low = free.held.0 in
    let high = free.held.1 in
    let left = first_of_a_kb a (omega (arith, high)) free.kept in
    elim (cases_lt a 0x1020) [
      | inl less ↦ absurd (ports_are_claimed a (low, (let below = less in omega (arith, below))) free)
      | inr past ↦ elim (cases_lt a 0x1400) [
        | inl less ↦ (0, range 0x1020 0x10ff, lit< tt, refl, (past, (let below = less in omega (arith, low, below, left))))
        | inr second ↦ elim (cases_lt a 0x1800) [
          | inl less ↦ (1, range 0x1400 0x14ff, lit< tt, refl, (second, (let below = less in omega (arith, second, below, left))))
          | inr third ↦ elim (cases_lt a 0x1c00) [
            | inl less ↦ (2, range 0x1800 0x18ff, lit< tt, refl, (third, (let below = less in omega (arith, third, below, left))))
            | inr fourth ↦ (3, range 0x1c00 0x1cff, lit< tt, refl, (fourth, omega (arith, fourth, high, left)))
          ]
        ]
      ]
    ]

-- ---- what of the memory window is free: what vf0 leaves

abbrev IsFreeMemory : ℕ → Type 0
IsFreeMemory a = IsFreeIn told with_isa s memory_window a

vf0_is_claimed : (a : ℕ) → InRange (range 0xe0000000 0xe001ffff) a → IsFreeMemory a → ⊥
vf0_is_claimed a held free = free.unclaimed above (0, lit< tt, refl) refl (inr (
  record { slot = slot 1 0 0; register = 257 },
  record {
    r = vf0;
    named = vf0_is.named;
    on_the_bus = refl;
    claims = record { on = refl; holds = (refl, held.0, held.1) };
  },
))

free_memory : IsRun IsFreeMemory (range 0xe0020000 0xe00fffff)
free_memory = record {
  some = lit≤ tt;
  each = λ a held. let low = held.0 in let high = held.1 in record {
    held = (omega (arith, low), high);
    kept = refl;
    unclaimed = λ b listed at claimed. (let taken = claimed_memory a (subst (λ bus. IsClaimedOn told with_isa s bus Memory a) (bus_below b listed at) claimed) in let last = taken.1 in omega (arith, last, low));
  };
  before = λ a at free. vf0_is_claimed a (omega (arith, at), omega (arith, at)) free;
  behind = λ free. let high = free.held.1 in omega (arith, high);
}

all_free_memory : (a : ℕ) → IsFreeMemory a → Any (λ r. InRange r a) (range 0xe0020000 0xe00fffff ∷ [])
all_free_memory a free = elim (cases_lt 0xe001ffff a) [
  | inl past ↦ (0, range 0xe0020000 0xe00fffff, lit< tt, refl, ((let above_last = past in omega (arith, above_last)), free.held.1))
  | inr taken ↦ absurd (vf0_is_claimed a (free.held.0, taken) free)
]

-- ---- the lines

no_runs : (P : ℕ → Type 0) → ((a : ℕ) → P a → ⊥) → AreRuns P []
no_runs P none = record { each = All-nil (IsRun P); complete = λ a p. absurd (none a p); rising = pairs_nil (λ (r t : Range). r.last < t.first) }

lines_in_io : AreLinesAt told with_isa host s Io (Inside io_window) inside_io
lines_in_io = record {
  regions = one_has (λ q. IsIn told s q) (Own ports) ports_is;
  of_space = one_has (λ q. space_of q ≡ Io) (Own ports) refl;
  stand = one_has (λ q. BelongsUnder with_isa s io_window q) (Own ports) ports_belong;
  within = λ q has. in_place q;
  complete = λ q is space under within. in_io_window q is space under;
  free = record { each = each_free_port; complete = all_free_ports; rising = by_test (λ (r t : Range). r.last < t.first) (λ r t. nat_lt r.last t.first) (λ r t h. ltb-true r.last t.first h) free_ports refl };
  rising = by_test MarkIsBefore (λ m n. nat_lt m.first n.first) (λ m n h. inl (ltb-true m.first n.first h)) (marks inside_io) refl;
}

lines_in_memory : AreLinesAt told with_isa host s Memory (Inside memory_window) inside_memory
lines_in_memory = record {
  regions = one_has (λ q. IsIn told s q) (of_line 2 vf0) vf0_is;
  of_space = one_has (λ q. space_of q ≡ Memory) (of_line 2 vf0) refl;
  stand = one_has (λ q. BelongsUnder with_isa s memory_window q) (of_line 2 vf0) vf0_belongs;
  within = λ q has. in_place q;
  complete = λ q is space under within. in_memory_window q is space under;
  free = record {
    each = All-cons (IsRun IsFreeMemory) (range 0xe0020000 0xe00fffff) [] free_memory (All-nil (IsRun IsFreeMemory));
    complete = all_free_memory;
    rising = by_test (λ (r t : Range). r.last < t.first) (λ r t. nat_lt r.last t.first) (λ r t h. ltb-true r.last t.first h) (range 0xe0020000 0xe00fffff ∷ []) refl;
  };
  rising = by_test MarkIsBefore (λ m n. nat_lt m.first n.first) (λ m n h. inl (ltb-true m.first n.first h)) (marks inside_memory) refl;
}

root_io : AreLinesAt told with_isa host s Io (OnRoot 0) (Sits (Own io_window) inside_io End)
root_io = record {
  regions = one_has (λ q. IsIn told s q) (Own io_window) io_window_is;
  of_space = one_has (λ q. space_of q ≡ Io) (Own io_window) refl;
  stand = one_has (λ q. (slot_of q).bus ≡ 0) (Own io_window) refl;
  within = λ q has. in_place q;
  complete = λ q is space bus within. on_root_io q is space bus;
  free = no_runs (λ a. IsFreeOn told with_isa s 0 Io a) (λ a free. no free.said);
  rising = by_test MarkIsBefore (λ m n. nat_lt m.first n.first) (λ m n h. inl (ltb-true m.first n.first h)) (marks (Sits (Own io_window) inside_io End)) refl;
}

-- a held range stands on its bus
root_memory : AreLinesAt told with_isa host s Memory (OnRoot 0) (Sits (Own memory_window) inside_memory (Sits (of_line 1 p2sb) End End))
root_memory = record {
  regions = two_have (λ q. IsIn told s q) (Own memory_window) (of_line 1 p2sb) memory_window_is p2sb_is;
  of_space = two_have (λ q. space_of q ≡ Memory) (Own memory_window) (of_line 1 p2sb) refl refl;
  stand = two_have (λ q. (slot_of q).bus ≡ 0) (Own memory_window) (of_line 1 p2sb) refl refl;
  within = λ q has. in_place q;
  complete = λ q is space bus within. on_root_memory q is space bus;
  free = no_runs (λ a. IsFreeOn told with_isa s 0 Memory a) (λ a free. no free.said);
  rising = by_test MarkIsBefore (λ m n. nat_lt m.first n.first) (λ m n h. inl (ltb-true m.first n.first h)) (marks (Sits (Own memory_window) inside_memory (Sits (of_line 1 p2sb) End End))) refl;
}

-- ---- the map

none_taken : (space : Space) → AreTakings told with_isa host s space 0 []
none_taken space = record {
  each = λ t has. absurd (in_nil t has);
  complete = λ at q below is same stands within. absurd (false≢true (sym (takes_none with_isa refl (space_of q) (range_of q).first stands.b) ∙ stands.taken));
  rising = pairs_nil (λ t u. slot_number t.slot < slot_number u.slot);
}

root_is : IsRootOfMap told with_isa host s (record { bus = 0; io = untaken (Sits (Own io_window) inside_io End); memory = untaken (Sits (Own memory_window) inside_memory (Sits (of_line 1 p2sb) End End)) })
root_is = record {
  io = record { lines = (root_io, (lines_in_io, (refl, tt, tt), tt)); taken = none_taken Io };
  memory = record { lines = (root_memory, (lines_in_memory, (refl, tt, tt), (refl, tt, tt))); taken = none_taken Memory };
}

-- each region has a way
has_way : (q : MapRegion) → IsIn told s q → ((windows : List Region) → HasWay with_isa host s q windows → ⊥) → ⊥
has_way q is none = elim (each_is_one q is) [
  | inl e ↦ none [] (subst (λ x. HasWay with_isa host s x []) e (inl (0, lit< tt, refl)))
  | inr (inl e) ↦ none [] (subst (λ x. HasWay with_isa host s x []) e (inl (0, lit< tt, refl)))
  | inr (inr (inl e)) ↦ none (io_window ∷ []) (subst (λ x. HasWay with_isa host s x (io_window ∷ [])) e (io_window_is, ports_belong, inl (0, lit< tt, refl)))
  | inr (inr (inr (inl e))) ↦ none [] (subst (λ x. HasWay with_isa host s x []) e (inl (0, lit< tt, refl)))
  | inr (inr (inr (inr e))) ↦ none (memory_window ∷ []) (subst (λ x. HasWay with_isa host s x (memory_window ∷ [])) e (memory_window_is, vf0_belongs, inl (0, lit< tt, refl)))
]

is_its_map : IsMap told with_isa host s whole
is_its_map = record {
  buses = refl;
  each = λ root has. elim (in_cons_cases (record { bus = 0; io = untaken (Sits (Own io_window) inside_io End); memory = untaken (Sits (Own memory_window) inside_memory (Sits (of_line 1 p2sb) End End)) }) [] root has) [
    | inl here ↦ subst (λ (r : MapRoot). IsRootOfMap told with_isa host s r) here root_is
    | inr none ↦ absurd (in_nil root none)
  ];
  outside = record {
    regions = λ q has. absurd (in_nil q has);
    hold = λ q has. absurd (in_nil q has);
    complete = λ q is out. absurd (in_place q out);
    rising = pairs_nil (λ p q. region_rank p < region_rank q);
  };
  left = record {
    regions = λ q has. absurd (in_nil q has);
    hold = λ q has. absurd (in_nil q has);
    complete = λ q is only. absurd (has_way q is only.left);
    rising = pairs_nil (λ p q. region_rank p < region_rank q);
  };
}

as_printed : IsMapText told with_isa host s printed
as_printed = record { m = whole; is = is_its_map; says = sym text_of_the_board }
