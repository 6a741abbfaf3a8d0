-- Two lists of boards with ISA Enable, with their reasons: a BAR that the bridge misses, and one in its window's way.
use Rattle.std.proofs.Common.{◌≡◌, ◌<◌, ◌≤◌, ◌%◌, ◌*◌, ◌+◌, ℕ, zero, suc, List, [], ◌∷◌, ◌++◌, codes, refl, true, false, Some, inl, inr, arith, lit<, lit≤, subst, sym, ◌∙◌, ap}
use Rattle.std.specs.Fmt.{digits}
use Rattle.std.specs.Prelude.{◌↔◌, IsTrue, Bool, ◌&&◌, ◌||◌, not, nat_lt, nat_le}
use Rattle.std.specs.List.{list_all}
use Rattle.std.proofs.lemmas.Bool.{and_parts, and_from, or_cases, both_ways, cases_Bool, cases_order, lt-ltb, le-leb, leb-true, ltb-true}
use Rattle.std.proofs.lemmas.Nat.{pow_below}
use Rattle.pci_spec.specs.Number.{each_from, AgreeFrom}
use Rattle.pci_spec.specs.Slot.{Slot}
use Rattle.pci_spec.specs.Bar.{IoBar, Answers, is_run, is_lawful}
use Rattle.pci_spec.specs.Window.{IoWindow, holds}
use Rattle.pci_spec.specs.Decoded.{InRange}
use Rattle.pci_spec.specs.System.{Function, System, Io, Memory, Bar, Rom, Window, Leads, is_bridge}
use Rattle.pci_spec.specs.System as system
use Rattle.pci_spec.specs.Fault.{Unreached, Clash, address_in}
use Rattle.pci_spec.specs.Why.{scaled_text}
use Rattle.pci_spec.specs.Why as plain
use Rattle.pci_spec.proofs.Absent.{in_pair}
use Rattle.pci_spec.proofs.Bits.{agree-interval, interval-agrees, run_number}
use Rattle.pci_spec.proofs.Members.{in_nil, in_cons_cases}
use Rattle.pci_spec.proofs.Ranges.{window_range-holds}
use Rattle.pci_spec.proofs.Examples.Samples.{slot, device, bridge, range, host}
use Rattle.judge_spec.specs.Given.{Given, is_isa_port}
use Rattle.judge_spec.specs.Claims as claims
use Rattle.judge_spec.specs.Claims.{passes, IsPassedTo}
use Rattle.judge_spec.specs.Fault as untold
use Rattle.judge_spec.specs.ToldClaims.{nothing_told}
use Rattle.judge_spec.specs.ToldFault.{Known}
use Rattle.judge_spec.specs.Why.{Own, Holds, Misses, IsBeside, IsTakenBeside, IsPlaceFor, IsFit, IsWhy}
use Rattle.judge_spec.specs.FaultsText.{IsReasonedText}
use Rattle.judge_spec.proofs.NothingTold.{untold_claims}
use Rattle.judge_spec.proofs.Reasons.{just_one}
use Rattle.judge_spec.proofs.Examples.Behind.{no}
use Rattle.judge_spec.proofs.Examples.Isa.{isa_at}
use Rattle.judge_spec.proofs.Examples.Reasons.{line}

-- ---- which ports are cut

left_port : (k a : ℕ) → k * 0x400 ≤ a → a < k * 0x400 + 0x100 → is_isa_port a ≡ false
left_port k a low high = elim (cases_Bool (is_isa_port a)) [
  | inr left ↦ left
  | inl cut ↦ (let more = leb-true 0x100 (a % 0x400) (and_parts (nat_lt a 65536) (nat_le 0x100 (a % 0x400)) cut).1 in absurd (let no : ⊥ = omega (arith, low, high, more) in no))
]

-- ---- a bridge with ports 1000h to 1FFFh

abbrev cut_bridge : ℕ → Function
cut_bridge d = bridge (slot 0 d 0) 1 0x010100 ((0x1c, 0x1010) ∷ (0x3c, 0x00040000) ∷ []) ((0x1c, 0xf0f0) ∷ [])

abbrev enabled : ℕ → Given
enabled d = isa_at (slot 0 d 0 ∷ [])

abbrev is_held : ℕ → ℕ → Bool
is_held d a = holds IoWindow (cut_bridge d).image (cut_bridge d).probe a

held_range : (d a : ℕ) → InRange (range 0x1000 0x1fff) a ↔ IsTrue (is_held d a)
held_range d a = window_range-holds IoWindow (cut_bridge d).image (cut_bridge d).probe refl a

-- ---- a mask of 256 ports

size_of_256 : (k : ℕ) → is_lawful IoBar 0xffffff01 k ≡ true → k ≡ 8
size_of_256 k lawful =
    let outer = and_parts (nat_le 2 k && nat_le k 8) (is_run 2 0xffffff01 k 31 || is_run 2 0xffffff01 k 15) lawful in
    let inner = and_parts (nat_le 2 k) (nat_le k 8) outer.0 in
    let low = leb-true 2 k inner.0 in
    let high = leb-true k 8 inner.1 in
    elim (or_cases (is_run 2 0xffffff01 k 31) (is_run 2 0xffffff01 k 15) outer.1) [
      | inl is ↦ (let run = run_number 2 0xffffff01 k 31 (lit< tt) low (omega (arith, high)) (lit< tt) is in
          elim (cases_order k 8) [
            | inl e ↦ e
            | inr (inl less) ↦ let p = pow_below k 8 less in absurd (let no : ⊥ = omega (arith, p, run) in no)
            | inr (inr more) ↦ absurd (let no : ⊥ = omega (arith, high, more) in no)
          ])
      | inr is ↦ (let run = run_number 2 0xffffff01 k 15 (lit< tt) low (omega (arith, high)) (lit< tt) is in absurd (let no : ⊥ = omega (arith, run) in no))
    ]

answered : (value a : ℕ) → Answers IoBar value 0xffffff01 a → AgreeFrom 8 a value
answered value a (k, lawful, agree) = subst (λ j. AgreeFrom j a value) (size_of_256 k lawful) agree

-- no other BAR is one of ports, and no ROM
of_memory : {A : Type 0} → Memory ≡ Io → A
of_memory e = cc

-- ---- behind the bridge: ports 1100h to 11FFh, that ISA Enable takes

abbrev needs : Function
needs = device (slot 1 0 0) 1 ((0x10, 0x1101) ∷ []) ((0x10, 0xffffff01) ∷ [])

abbrev of_needs : plain.Region
of_needs = record { slot = slot 1 0 0; register = 0x10; part = Bar 0; space = Io; prefetchable = false; range = range 0x1100 0x11ff }

abbrev s : System
s = cut_bridge 1 ∷ needs ∷ []

needs_claims : (a : ℕ) → InRange (range 0x1100 0x11ff) a → system.Claims needs (Bar 0) Io a
unfolding each_from
needs_claims a held = record {
  there = refl;
  enabled = refl;
  maps = refl;
  address = let high = held.1 in omega (arith, high);
  decodes = (refl, (8, refl, interval-agrees 8 a 0x1101 held.0 held.1));
}

needs_is_a_region : plain.IsRegionIn s of_needs
needs_is_a_region = record {
  f = needs;
  listed = (1, lit< tt, refl);
  slot = refl;
  register = refl;
  prefetchable = refl;
  some = lit≤ tt;
  claims = λ a. (needs_claims a, λ claims. agree-interval 8 a 0x1101 (answered 0x1101 a claims.decodes.1));
}

needs_parts : (part : system.Part) (a : ℕ) → system.Claims needs part Io a → part ≡ Bar 0
needs_parts (Bar zero) a c = refl
needs_parts (Bar (suc zero)) a c = of_memory c.maps
needs_parts (Bar (suc (suc zero))) a c = of_memory c.maps
needs_parts (Bar (suc (suc (suc zero)))) a c = of_memory c.maps
needs_parts (Bar (suc (suc (suc (suc zero))))) a c = of_memory c.maps
needs_parts (Bar (suc (suc (suc (suc (suc zero)))))) a c = of_memory c.maps
needs_parts (Bar (suc (suc (suc (suc (suc (suc n))))))) a c = absurd (let less = ltb-true (suc (suc (suc (suc (suc (suc n)))))) 6 c.there in let no : ⊥ = omega (arith, less) in no)
needs_parts Rom a c = of_memory c.maps
needs_parts (Window kind) a c = no c.there

-- ---- what the bridge passes

passes_left : (a : ℕ) → InRange (range 0x1000 0x1fff) a → is_isa_port a ≡ false → passes (enabled 1) Io false a (cut_bridge 1) ≡ true
passes_left a within left =
    ap (λ held. (held && not (true && is_isa_port a)) || false) ((held_range 1 a).0 within) ∙ ap (λ cut. (true && not (true && cut)) || false) left

passes_only : (a : ℕ) → passes (enabled 1) Io false a (cut_bridge 1) ≡ true → InRange (range 0x1000 0x1fff) a × (not (is_isa_port a) ≡ true)
passes_only a is = elim (or_cases (is_held 1 a && not (is_isa_port a)) false is) [
  | inl some ↦ (let both = and_parts (is_held 1 a) (not (is_isa_port a)) some in ((held_range 1 a).1 both.0, both.1))
  | inr none ↦ no none
]

cut_port : (a : ℕ) → InRange (range 0x1100 0x11ff) a → is_isa_port a ≡ true
cut_port a held =
    let low = held.0 in
    let high = held.1 in
    and_from (nat_lt a 65536) (nat_le 0x100 (a % 0x400)) (lt-ltb a 65536 (omega (arith, high))) (le-leb 0x100 (a % 0x400) (omega (arith, low, high)))

missed : (a : ℕ) → InRange (range 0x1100 0x11ff) a ↔ Misses (enabled 1) (Own of_needs) (cut_bridge 1) a
missed a = (
  λ held. (
    (held, refl),
    elim (cases_Bool (passes (enabled 1) Io false a (cut_bridge 1))) [
      | inl is ↦ absurd (both_ways (not (is_isa_port a)) (ap (λ b. not b) (cut_port a held)) (passes_only a is).1)
      | inr stops ↦ stops
    ],
  ),
  λ misses. misses.0.0,
)

-- ---- where it fits: the first 256 ports of the window

abbrev Passed : ℕ → Type 0
Passed a = IsPassedTo (enabled 1) host s (address_in Io a) false 1

is_passed : (a : ℕ) → 0x1000 ≤ a → a < 0x1100 → Passed a
is_passed a low high = (
  0,
  (0, lit< tt, refl),
  refl,
  cut_bridge 1 ∷ [],
  ((0, lit< tt, refl), refl, refl, refl),
  ap (λ b. b && true) (passes_left a (low, (let less = high in omega (arith, less))) (left_port 4 a low high)),
)

way_begins : (bridges : List Function) (a : ℕ) → Leads s 0 bridges 1 → list_all (passes (enabled 1) Io false a) bridges ≡ true → 0x1000 ≤ a
way_begins [] a leads all = absurd (let no : ⊥ = omega (arith, leads) in no)
way_begins (b ∷ rest) a leads all =
    let passed = (and_parts (passes (enabled 1) Io false a b) _ all).0 in
    elim (in_pair (cut_bridge 1) needs b leads.0) [
      | inl is ↦ (passes_only a (subst (λ (x : Function). passes (enabled 1) Io false a x ≡ true) (sym is) passed)).0.0
      | inr is ↦ no (subst (λ (x : Function). IsTrue (is_bridge x)) (sym is) leads.1)
    ]

passed_from : (a : ℕ) → Passed a → 0x1000 ≤ a
passed_from a way = elim (in_cons_cases 0 [] way.0 way.1) [
  | inl root ↦ way_begins way.3 a (subst (λ (x : ℕ). Leads s x way.3 1) (sym root) way.4) way.5
  | inr none ↦ absurd (in_nil way.0 none)
]

abbrev Taken : ℕ → Type 0
Taken a = IsTakenBeside (nothing_told []) (enabled 1) host s of_needs a

not_beside : (a : ℕ) → IsBeside (enabled 1) host of_needs a 0 → ⊥
not_beside a (inl same) = omega (arith, same)
not_beside a (inr roots) = elim (in_cons_cases 0 [] 1 roots.0) [
  | inl e ↦ omega (arith, e)
  | inr none ↦ in_nil 1 none
]

not_by_itself : (a : ℕ) (part : claims.Part) → ((needs.slot ≡ slot 1 0 0) × (claims.register_of needs part ≡ 0x10) → ⊥) → claims.Claims (enabled 1) needs part Io a → ⊥
not_by_itself a (claims.Own part) other own = other (refl, ap (λ p. system.register_of needs p) (needs_parts part a own.claims))
not_by_itself a claims.Legacy other c = no c.claims
not_by_itself a claims.Palette other c = no c.claims

not_by_part : (a : ℕ) (t : Taken a) → claims.ClaimsOnBus (enabled 1) s t.by.slot.bus (address_in Io a) t.by → ⊥
not_by_part a t (f, part, listed, at, on, named, c) = elim (in_pair (cut_bridge 1) needs f listed) [
  | inl is ↦ not_beside a (subst (λ n. IsBeside (enabled 1) host of_needs a n) (ap (λ (x : Slot). x.bus) (sym at) ∙ ap (λ (x : Function). x.slot.bus) (sym is)) t.beside)
  | inr is ↦
      not_by_itself a part
      (subst (λ (x : Function). (x.slot ≡ slot 1 0 0) × (claims.register_of x part ≡ 0x10) → ⊥) (sym is) (λ e. t.other (sym at ∙ e.0, sym named ∙ e.1)))
      (subst (λ (x : Function). claims.Claims (enabled 1) x part Io a) (sym is) c)
]

not_taken : (a : ℕ) → Taken a → ⊥
not_taken a t = not_by_part a t (untold_claims [] (enabled 1) s t.by.slot.bus (address_in Io a) t.by t.claims)

abbrev Place : ℕ → Type 0
Place first = IsPlaceFor (nothing_told []) (enabled 1) host s of_needs false first

first_ports : Place 0x1000
first_ports = record {
  aligned = refl;
  fits = lit≤ tt;
  reached = λ a low high. is_passed a low high;
  free = λ a low high taken. not_taken a taken;
}

abbrev fits : List ℕ
fits = line (codes "  fits 00001000-000010ff 256")

needs_fits : IsFit (nothing_told []) (enabled 1) host s of_needs fits
unfolding scaled_text digits
needs_fits = record {
  f = needs;
  listed = (1, lit< tt, refl);
  slot = refl;
  place = Some (range 0x1000 0x10ff);
  exact = record { is = first_ports; size = refl; least = λ first place. passed_from first (place.reached first (omega arith) (omega arith)) };
  text = refl;
}

abbrev behind_unreached : List ℕ
behind_unreached =
    line (codes "  needs 01:00.0 10 bar io 00001100-000011ff 256")
    ++ line (codes "  bridge 00:01.0 on io 00001000-00001fff isa")
    ++ line (codes "  missed 00001100-000011ff 256")

abbrev unreached : untold.Fault
unreached = untold.Known (Unreached (slot 1 0 0) 0x10 Io 0x1100 (slot 0 1 0))

why_unreached : IsWhy [] (nothing_told []) (enabled 1) host s unreached (behind_unreached ++ fits)
unfolding scaled_text digits
why_unreached = record {
  evidence = behind_unreached;
  advice = fits;
  shows = (
    Own of_needs,
    (refl, refl, refl),
    record {
      is = needs_is_a_region;
      b = cut_bridge 1;
      listed = (0, lit< tt, refl);
      named = refl;
      missed = range 0x1100 0x11ff ∷ [];
      runs = just_one (Misses (enabled 1) (Own of_needs) (cut_bridge 1)) (range 0x1100 0x11ff) (lit≤ tt) missed;
      text = refl;
    },
  );
  fits = (Own of_needs, (refl, refl, refl), needs_is_a_region, needs_fits);
  text = refl;
}

of_a_cut_bar : IsReasonedText [] (nothing_told []) (enabled 1) host s (Known unreached ∷ []) (line (codes "60 Unreached 01:00.0 10 io 00001100 bridge 00:01.0") ++ behind_unreached ++ fits)
unfolding digits
of_a_cut_bar = record {
  lines = line (codes "60 Unreached 01:00.0 10 io 00001100 bridge 00:01.0") ++ behind_unreached ++ fits;
  reasoned = (behind_unreached ++ fits, [], why_unreached, refl, refl);
  is = refl;
}

-- ---- beside the bridge: ports 1400h to 14FFh, that its window claims, too

abbrev beside : Function
beside = device (slot 0 1 0) 1 ((0x20, 0x1401) ∷ []) ((0x20, 0xffffff01) ∷ [])

abbrev of_beside : plain.Region
of_beside = record { slot = slot 0 1 0; register = 0x20; part = Bar 4; space = Io; prefetchable = false; range = range 0x1400 0x14ff }

abbrev window : plain.Region
window = record { slot = slot 0 4 0; register = 0x1c; part = Window IoWindow; space = Io; prefetchable = false; range = range 0x1000 0x1fff }

abbrev t : System
t = beside ∷ cut_bridge 4 ∷ []

beside_claims : (a : ℕ) → InRange (range 0x1400 0x14ff) a → system.Claims beside (Bar 4) Io a
unfolding each_from
beside_claims a held = record {
  there = refl;
  enabled = refl;
  maps = refl;
  address = let high = held.1 in omega (arith, high);
  decodes = (refl, (8, refl, interval-agrees 8 a 0x1401 held.0 held.1));
}

beside_is_a_region : plain.IsRegionIn t of_beside
beside_is_a_region = record {
  f = beside;
  listed = (0, lit< tt, refl);
  slot = refl;
  register = refl;
  prefetchable = refl;
  some = lit≤ tt;
  claims = λ a. (beside_claims a, λ claims. agree-interval 8 a 0x1401 (answered 0x1401 a claims.decodes.1));
}

window_claims : (a : ℕ) → InRange (range 0x1000 0x1fff) a → system.Claims (cut_bridge 4) (Window IoWindow) Io a
window_claims a held = record {
  there = refl;
  enabled = refl;
  maps = refl;
  address = let high = held.1 in omega (arith, high);
  decodes = (held_range 4 a).0 held;
}

window_is_a_region : plain.IsRegionIn t window
window_is_a_region = record {
  f = cut_bridge 4;
  listed = (1, lit< tt, refl);
  slot = refl;
  register = refl;
  prefetchable = refl;
  some = lit≤ tt;
  claims = λ a. (window_claims a, λ claims. (held_range 4 a).1 claims.decodes);
}

both : (a : ℕ) → InRange (range 0x1400 0x14ff) a ↔ (Holds (enabled 4) (Own of_beside) a × Holds (enabled 4) (Own window) a)
both a = (
  λ held.
      let low = held.0 in
      let high = held.1 in
      ((held, refl), ((omega (arith, low), omega (arith, high)), left_port 5 a low (omega (arith, high)))),
  λ holds. holds.0.0,
)

abbrev behind_clash : List ℕ
behind_clash =
    line (codes "  first 00:01.0 20 bar io 00001400-000014ff 256")
    ++ line (codes "  second 00:04.0 1c window io 00001000-00001fff 4K isa")
    ++ line (codes "  shared 00001400-000014ff 256")

abbrev clash : untold.Fault
clash = untold.Known (Clash 0 Io 0x1400 (slot 0 1 0) 0x20 (slot 0 4 0) 0x1c)

why_clash : IsWhy [] (nothing_told []) (enabled 4) host t clash behind_clash
unfolding scaled_text digits
why_clash = record {
  evidence = behind_clash;
  advice = [];
  shows = (
    Own of_beside,
    Own window,
    (refl, refl, refl),
    (refl, refl, refl),
    record {
      first = beside_is_a_region;
      second = window_is_a_region;
      shared = range 0x1400 0x14ff ∷ [];
      some = λ e. cc;
      runs = just_one (λ a. Holds (enabled 4) (Own of_beside) a × Holds (enabled 4) (Own window) a) (range 0x1400 0x14ff) (lit≤ tt) both;
      text = refl;
    },
  );
  fits = (Own window, (refl, refl, refl), window_is_a_region, refl);
  text = refl;
}

of_a_cut_window : IsReasonedText [] (nothing_told []) (enabled 4) host t (Known clash ∷ []) (line (codes "61 Clash bus 00 io 00001400 00:01.0 20 00:04.0 1c") ++ behind_clash)
unfolding digits
of_a_cut_window = record {
  lines = line (codes "61 Clash bus 00 io 00001400 00:01.0 20 00:04.0 1c") ++ behind_clash;
  reasoned = (behind_clash, [], why_clash, refl, refl);
  is = refl;
}
