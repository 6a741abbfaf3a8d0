-- Lines of told ranges behind faults: what each is called, what the host sends, what moves, and what is off.
use Rattle.std.proofs.Common.{◌≡◌, ℕ, List, [], ◌∷◌, ◌+◌, ◌++◌, codes, refl, true, false, inl, inr, arith, lit<, lit≤, map, ap, sym, ◌∙◌}
use Rattle.std.specs.Fmt.{digits}
use Rattle.std.proofs.lemmas.Bool.{both_ways}
use Rattle.pci_spec.specs.Slot.{Slot}
use Rattle.pci_spec.specs.System.{Function, System, Io, Memory}
use Rattle.pci_spec.specs.Fault.{Orphan, Split, RegionName, named_region, named_regions}
use Rattle.pci_spec.specs.Why.{scaled_text}
use Rattle.pci_spec.proofs.Examples.Samples.{slot, device, bridge, host}
use Rattle.judge_spec.specs.Given.{nothing_given}
use Rattle.judge_spec.specs.Fault as untold
use Rattle.judge_spec.specs.Told.{Mark, Command, Always, Held, ToldRange}
use Rattle.judge_spec.specs.ToldClaims.{Told, may_share}
use Rattle.judge_spec.specs.ToldFault.{Known, NotListed}
use Rattle.judge_spec.specs.ToldRegion.{ToldRegion, IsToldIn}
use Rattle.judge_spec.specs.Why.{AnyRegion, OfLine, space_of, bus_of, IsNamed, Misses, IsTakenBeside, IsWhy, IsAdvice, IsAdviceFor, region_line, to_move, all_off_lines}
use Rattle.judge_spec.specs.FaultsText.{IsReasonedText, off_behind}
use Rattle.judge_spec.proofs.Examples.Behind.{above, large, of_large}
use Rattle.judge_spec.proofs.Examples.Ranges.{to_each, sent_memory}
use Rattle.judge_spec.proofs.Examples.Reasons.{line}
use Rattle.judge_spec.proofs.Examples.ToldClaims.{told_ranges, told_asleep, told_io, told_memory}

-- ---- what each is called: its name stands last, where it has one, and registers count lines from 1

abbrev named : List ℕ → ToldRange → ToldRange
named name r = record r { name = name }

abbrev prefetchable : ToldRange → ToldRange
prefetchable r = record r { prefetchable = true }

abbrev of_line : ℕ → ToldRange → AnyRegion
of_line n r = OfLine (record { register = 255 + n; told = r })

each_mark : map (λ mark. region_line nothing_given (codes "first") (of_line 1 (told_io (slot 0 5 0) 0x1f0 0x1f7 mark))) (Command ∷ Always ∷ Held ∷ [])
    ≡ line (codes "  first 00:05.0 +1 told io 000001f0-000001f7 8")
    ∷ line (codes "  first 00:05.0 +1 told io 000001f0-000001f7 8")
    ∷ line (codes "  first 00:05.0 +1 held io 000001f0-000001f7 8")
    ∷ []
unfolding scaled_text digits
each_mark = refl

prefetchable_told : region_line nothing_given (codes "second") (of_line 12 (prefetchable (told_memory (slot 0x40 1 7) 0xe0000000 0xe0000fff Always)))
    ≡ line (codes "  second 40:01.7 +12 told mem pref 00000000e0000000-00000000e0000fff 4K")
unfolding scaled_text digits
prefetchable_told = refl

prefetchable_held : region_line nothing_given (codes "needs") (of_line 4096 (named (codes "x") (prefetchable (told_memory (slot 1 0 0) 0 0xffffffffffffffff Held))))
    ≡ line (codes "  needs 01:00.0 +4096 held mem pref 0000000000000000-ffffffffffffffff 16E x")
unfolding scaled_text digits
prefetchable_held = refl

-- ---- its space, and its bus

spaces : map space_of (of_line 1 (told_io (slot 1 0 0) 0 0 Always) ∷ of_line 2 (told_memory (slot 1 0 0) 0 0 Held) ∷ []) ≡ Io ∷ Memory ∷ []
spaces = refl

buses : map bus_of (of_line 1 (told_io (slot 1 0 0) 0 0 Always) ∷ of_line 2 (told_io (slot 0x40 0 0) 0 0 Always) ∷ []) ≡ 1 ∷ 0x40 ∷ []
buses = refl

-- ---- which region a fault names: by its slot, its register and its space

abbrev first_line : AnyRegion
first_line = of_line 1 (told_memory (slot 0 2 0) 0xe0000000 0xe0000fff Held)

by_name : IsNamed first_line (slot 0 2 0) 256 Memory
by_name = (refl, refl, refl)

no_other_slot : IsNamed first_line (slot 0 1 0) 256 Memory → ⊥
no_other_slot is = let e = ap (λ (x : Slot). x.device) is.0 in omega (arith, e)

no_other_space : IsNamed first_line (slot 0 2 0) 256 Io → ⊥
no_other_space is = let e : Memory ≡ Io = is.2 in cc

-- one that isn't on is no region
abbrev two_ranges : Told
two_ranges = told_ranges (told_memory (slot 0 2 0) 0xe0000000 0xe0000fff Command ∷ told_memory (slot 0 3 0) 0xe0000000 0xe0000fff Always ∷ [])

abbrev of_command : ToldRegion
of_command = record { register = 256; told = told_memory (slot 0 2 0) 0xe0000000 0xe0000fff Command }

while_enabled : IsToldIn two_ranges (device (slot 0 2 0) 2 [] [] ∷ []) of_command
while_enabled = record { named = record { index = 0; at = refl; slot = refl; register = refl }; on = refl; some = lit≤ tt }

while_disabled : IsToldIn two_ranges (device (slot 0 2 0) 1 [] [] ∷ []) of_command → ⊥
while_disabled is = both_ways false refl is.on

-- ---- a prefetchable range passes the prefetchable window, as a prefetchable BAR does

abbrev with_prefetch : Function
with_prefetch = bridge (slot 0 1 0) 2 0x010100 ((0x20, 0x0000fff0) ∷ (0x24, 0xe010e010) ∷ []) ((0x20, 0xfff0fff0) ∷ (0x24, 0xfff0fff0) ∷ [])

plain_is_missed : Misses nothing_given (of_line 1 (told_memory (slot 1 0 0) 0xe0100000 0xe0103fff Always)) with_prefetch 0xe0103fff
plain_is_missed = ((lit≤ tt, lit≤ tt), refl)

prefetchable_is_passed : Misses nothing_given (of_line 1 (prefetchable (told_memory (slot 1 0 0) 0xe0100000 0xe0103fff Always))) with_prefetch 0xe0103fff → ⊥
prefetchable_is_passed misses = both_ways true misses.1 refl

not_behind_its_last : Misses nothing_given (of_line 1 (told_memory (slot 1 0 0) 0xe0100000 0xe0103fff Always)) with_prefetch 0xe0104000 → ⊥
not_behind_its_last misses = let high = misses.0.1 in omega (arith, high)

-- ---- outside what the host sends

abbrev hpet : ToldRange
hpet = record { slot = slot 0 2 0; space = Memory; prefetchable = false; first = 0xfed00000; last = 0xfed003ff; mark = Always; name = codes "hpet" }

abbrev behind_outside : List ℕ
behind_outside =
    line (codes "  needs 00:02.0 +1 told mem 00000000fed00000-00000000fed003ff 1K hpet")
    ++ line (codes "  host mem 00000000e0000000-00000000febfffff")

-- no place is told, though a list is said
outside : IsWhy [] (told_ranges (hpet ∷ [])) (sent_memory (to_each 0xe0000000 0xfebfffff ∷ [])) host (device (slot 0 2 0) 2 [] [] ∷ []) (untold.Outside (slot 0 2 0) 256 Memory 0xfed00000) behind_outside
unfolding scaled_text digits
outside = record {
  evidence = behind_outside;
  advice = [];
  shows = (
    OfLine (record { register = 256; told = hpet }),
    (refl, refl, refl),
    record {
      is = record { named = record { index = 0; at = refl; slot = refl; register = refl }; on = refl; some = lit≤ tt };
      root = 0;
      is_root = (0, lit< tt, refl);
      bridges = [];
      leads = refl;
      ranges = to_each 0xe0000000 0xfebfffff ∷ [];
      said = refl;
      text = refl;
    },
  );
  fits = (OfLine (record { register = 256; told = hpet }), (refl, refl, refl), record { named = record { index = 0; at = refl; slot = refl; register = refl }; on = refl; some = lit≤ tt }, refl);
  text = refl;
}

-- ---- which of two moves: the second, but the first where the second is a told range

abbrev moves : ℕ → ℕ → RegionName
moves first_register second_register = to_move (named_regions (slot 0 2 0) first_register (slot 0 3 0) second_register)

second_moves : map (moves 256) (0x10 ∷ 0x3e ∷ 255 ∷ []) ≡ named_region (slot 0 3 0) 0x10 ∷ named_region (slot 0 3 0) 0x3e ∷ named_region (slot 0 3 0) 255 ∷ []
second_moves = refl

first_moves : map (λ register. moves register 256) (0x10 ∷ 0x3e ∷ 257 ∷ []) ≡ named_region (slot 0 2 0) 0x10 ∷ named_region (slot 0 2 0) 0x3e ∷ named_region (slot 0 2 0) 257 ∷ []
first_moves = refl

-- on two root buses, too, where a list is said
first_moves_of_roots : (lines : List ℕ) → IsAdvice [] two_ranges (sent_memory []) (0 ∷ 0x40 ∷ []) [] (untold.Known (Split Memory 0xe0000000 (slot 0 2 0) 0x10 (slot 0x40 1 0) 256)) lines
    ≡ IsAdviceFor [] two_ranges (sent_memory []) (0 ∷ 0x40 ∷ []) [] (named_region (slot 0 2 0) 0x10) Memory lines
first_moves_of_roots lines = refl

none_moves_of_roots : IsAdvice [] two_ranges nothing_given (0 ∷ 0x40 ∷ []) [] (untold.Known (Split Memory 0xe0000000 (slot 0 2 0) 0x10 (slot 0x40 1 0) 256)) []
none_moves_of_roots = refl

-- ---- what a region may share takes nothing from it

abbrev its_own : Mark → Told
its_own mark = told_ranges (told_memory (slot 1 0 0) 0xe0000000 0xe00fffff mark ∷ [])

held_of_its_function : (t : IsTakenBeside (its_own Held) nothing_given host (above ∷ large 0 ∷ []) (of_large 0) 0xe0010000) → t.by ≡ named_region (slot 1 0 0) 256 → ⊥
held_of_its_function t is = both_ways true (ap (λ (n : RegionName). may_share (its_own Held) (slot 1 0 0) 0x10 n.slot n.register) (sym is) ∙ t.apart) refl

always_of_its_function : IsTakenBeside (its_own Always) nothing_given host (above ∷ large 0 ∷ []) (of_large 0) 0xe0010000
always_of_its_function = record {
  by = named_region (slot 1 0 0) 256;
  beside = inl refl;
  other = λ same. let register = same.1 in omega (arith, register);
  apart = refl;
  claims = inr record {
    r = told_memory (slot 1 0 0) 0xe0000000 0xe00fffff Always;
    named = record { index = 0; at = refl; slot = refl; register = refl };
    on_the_bus = refl;
    claims = record { on = refl; holds = (refl, lit≤ tt, lit≤ tt) };
  };
}

-- ---- what is off: by slot, and of a slot told ranges behind BARs; a held range never is

abbrev off_ports : Told
off_ports =
    told_ranges (told_io (slot 0 1 0) 0x1f0 0x1f7 Command ∷ told_memory (slot 0 1 0) 0 0xfff Command ∷ told_io (slot 0 1 0) 0x170 0x177 Always
    ∷ told_io (slot 0 2 0) 0x60 0x60 Held ∷ named (codes "kcs") (told_io (slot 0 2 0) 0xca2 0xca3 Command) ∷ [])

abbrev two_functions : System
two_functions = device (slot 0 1 0) 2 ((0x14, 0xe001) ∷ []) ((0x14, 0xffffffe1) ∷ []) ∷ device (slot 0 2 0) 0 ((0x10, 0xe0000000) ∷ []) ((0x10, 0xfffff000) ∷ []) ∷ []

by_slot_and_register : all_off_lines off_ports two_functions
    ≡ line (codes "off 00:01.0 14 bar io 0000e000-0000e01f 32")
    ++ line (codes "off 00:01.0 +1 told io 000001f0-000001f7 8")
    ++ line (codes "off 00:02.0 10 bar mem 00000000e0000000-00000000e0000fff 4K")
    ++ line (codes "off 00:02.0 +5 told io 00000ca2-00000ca3 2 kcs")
unfolding scaled_text digits
by_slot_and_register = refl

-- an `always` range is off while its function is asleep
while_asleep : IsReasonedText [] (told_asleep (slot 0 1 0) (told_io (slot 0 1 0) 0 0 Always ∷ named (codes "x") (prefetchable (told_memory (slot 0 1 0) 0 0xfff Command)) ∷ told_io (slot 0 1 0) 1 1 Held ∷ [])) nothing_given host
    (device (slot 0 1 0) 3 [] [] ∷ []) []
    (line (codes "yes") ++ line (codes "off 00:01.0 +1 told io 00000000-00000000 1") ++ line (codes "off 00:01.0 +2 told mem pref 0000000000000000-0000000000000fff 4K x"))
unfolding scaled_text digits
while_asleep = record { lines = []; reasoned = refl; is = refl }

-- ---- 34 has no reasons, and nothing is told of what is off

not_listed : IsReasonedText [] off_ports nothing_given host two_functions (NotListed (slot 0 7 0) ∷ NotListed (slot 5 0 0) ∷ []) (line (codes "34 NotListed 00:07.0") ++ line (codes "34 NotListed 05:00.0"))
not_listed = record { lines = line (codes "34 NotListed 00:07.0") ++ line (codes "34 NotListed 05:00.0"); reasoned = ([], line (codes "34 NotListed 05:00.0"), refl, ([], [], refl, refl, refl), refl); is = refl }

early_tells_nothing_of_it : off_behind off_ports two_functions (Known (untold.Known (Orphan (slot 5 0 0))) ∷ []) ≡ []
early_tells_nothing_of_it = refl
