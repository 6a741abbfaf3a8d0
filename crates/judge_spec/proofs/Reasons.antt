-- With nothing given the lines behind a fault are those without it.
use Rattle.std.proofs.Common.{◌≡◌, ℕ, ◌+◌, ◌<◌, ◌≤◌, List, [], ◌∷◌, ◌++◌, get_or, refl, sym, ◌∙◌, ap, subst, arith, Bool, true, false, ◌&&◌, ◌||◌, not, append-nil, codes, inl, inr, Option, None, Some}
use Rattle.std.specs.Prelude.{◌↔◌, nat_lt, MatchOption, MatchBool}
use Rattle.std.specs.List.{Contains, Any, flat_map}
use Rattle.std.proofs.lemmas.List.Elements.{All-nil, All-cons}
use Rattle.std.proofs.lemmas.Bool.{both_ways, cond-true, lt-ltb}
use Rattle.std.proofs.Math.Bool.{and-true}
use Rattle.pci_spec.specs.Slot.{Slot}
use Rattle.pci_spec.specs.System.{System, Function, Space, Io, Memory, Bar, Rom, Window, is_window}
use Rattle.pci_spec.specs.System as system
use Rattle.pci_spec.specs.Bus.{is_root}
use Rattle.pci_spec.specs.Fault.{Unreached, Clash, Split, RegionName, TwoRegions, address_in, named_region, named_regions}
use Rattle.pci_spec.specs.Fault as faults
use Rattle.pci_spec.specs.Decoded.{Range, InRange, decoded_windows}
use Rattle.pci_spec.specs.Listing.{inner_line, on_text}
use Rattle.pci_spec.specs.Text.{slot_text}
use Rattle.pci_spec.specs.Mark.{AssumedRegister, is_size_assumed}
use Rattle.pci_spec.specs.Why.{IsRun, AreRuns, place_words, part_text, windows_text, range_line, is_wide_part}
use Rattle.pci_spec.specs.Why as plain
use Rattle.pci_spec.proofs.BusRanges.{root_means}
use Rattle.pci_spec.proofs.Regions.{register_of-lt}
use Rattle.judge_spec.specs.Given.{nothing_given}
use Rattle.judge_spec.specs.Claims.{Own as OwnPart, Legacy as LegacyPart, Palette as PalettePart, ClaimsOnBus}
use Rattle.judge_spec.specs.Fault.{Known}
use Rattle.judge_spec.specs.Laws.{SameWhy}
use Rattle.judge_spec.specs.ToldClaims.{nothing_told}
use Rattle.judge_spec.specs.ToldRegion.{ToldRegion, IsToldIn, told_name}
use Rattle.judge_spec.specs.Why.{Own, Legacy, Palette, OfLine, Holds, to_move, isa_words, isa_words_of, region_line, bridge_line, Misses, IsBehindUnreached, IsBehindTwo, AreNamedTwo, IsEvidence, IsKnownEvidence, IsBeside, IsTakenBeside, IsPlaceFor, IsLeastPlace, IsFit, IsFitBehind, IsAdviceFor, IsAdvice, IsKnownAdvice, is_said}
use Rattle.judge_spec.proofs.NothingTold.{HasLowRegisters, no_range_at, same_share, untold_claims}
use Rattle.judge_spec.proofs.Nothing.{none_cut_of, same_claims, same_passes, same_passed_to, no_legacy_claims, no_palette_claims, not_at_command, not_at_control, not_shared}

-- ---- runs

run_same : (P Q : ℕ → Type 0) → ((a : ℕ) → P a ↔ Q a) → (r : Range) → IsRun P r → IsRun Q r
run_same P Q same r run = record {
  some = run.some;
  each = λ a held. (same a).0 (run.each a held);
  before = λ a e q. run.before a e ((same a).1 q);
  behind = λ q. run.behind ((same (r.last + 1)).1 q);
}

pub runs_same : (P Q : ℕ → Type 0) → ((a : ℕ) → P a ↔ Q a) → (rs : List Range) → AreRuns P rs → AreRuns Q rs
runs_same P Q same rs runs = record {
  each = λ k d within. run_same P Q same (get_or rs k d) (runs.each k d within);
  complete = λ a q. runs.complete a ((same a).1 q);
  rising = runs.rising;
}

-- one run, where what is between two of its addresses is of it
abbrev IsConvex : (ℕ → Type 0) → Type 0
IsConvex P = (a b c : ℕ) → a ≤ b → b ≤ c → P a → P c → P b

one_run : (P : ℕ → Type 0) → IsConvex P → (rs : List Range) → AreRuns P rs → (rs ≡ [] → ⊥) → (r : Range) × (rs ≡ r ∷ [])
one_run P convex [] runs some = absurd (some refl)
one_run P convex (r ∷ []) runs some = (r, refl)
one_run P convex (r ∷ t ∷ rest) runs some =
    let first : IsRun P r = runs.each 0 r (omega arith) in
    let next : IsRun P t = runs.each 1 r (omega arith) in
    let rise : r.last < t.first = runs.rising 0 1 r (omega arith) (omega arith) in
    let low = first.some in
    let high = next.some in
    absurd (first.behind (convex r.last (r.last + 1) t.first (omega arith) (omega (arith, rise)) (first.each r.last (low, omega arith)) (next.each t.first (omega arith, high))))

module _ (P : ℕ → Type 0) (r : Range) (some : r.first ≤ r.last) (exact : (a : ℕ) → InRange r a ↔ P a) where
  is_run : IsRun P r
  is_run = record {
    some = some;
    each = λ a held. (exact a).0 held;
    before = λ a e p. (let held = (exact a).1 p in let low = held.0 in omega (arith, low, e));
    behind = λ p. (let held = (exact (r.last + 1)).1 p in let high = held.1 in omega (arith, high));
  }

  pub just_one : AreRuns P (r ∷ [])
  just_one = record {
    each = All-cons (IsRun P) r [] is_run (All-nil (IsRun P));
    complete = λ a p. (0, r, omega arith, refl, (exact a).1 p);
    rising = λ i j d lt within. absurd (let no : ⊥ = omega (arith, lt, within) in no);
  }

-- ---- no word of ISA Enable

no_isa_words : (space : Space) (slot : Slot) → isa_words nothing_given space slot ≡ []
no_isa_words Io slot = refl
no_isa_words Memory slot = refl

no_isa_words_of : (part : system.Part) (space : Space) (slot : Slot) → isa_words_of nothing_given part space slot ≡ []
no_isa_words_of (Bar n) space slot = refl
no_isa_words_of Rom space slot = refl
no_isa_words_of (Window kind) space slot = no_isa_words space slot

same_region_line : (word : List ℕ) (q : plain.Region) → region_line nothing_given word (Own q) ≡ plain.region_line word q
same_region_line word q =
    ap (λ more. inner_line (word ∷ place_words q.slot q.register (part_text q.part q.space q.prefetchable) q.space q.range ++ more)) (no_isa_words_of q.part q.space q.slot)

same_bridge_line : (b : Function) (space : Space) (prefetchable : Bool) → bridge_line nothing_given b space prefetchable ≡ plain.bridge_line b space prefetchable
same_bridge_line b space prefetchable =
    ap (λ more. inner_line (codes "bridge" ∷ slot_text b.slot ∷ on_text (system.is_space_on b space) ∷ windows_text space prefetchable (decoded_windows b.image b.probe) ∷ more ++ [] ++ []))
    (no_isa_words space b.slot)

-- ---- what a bridge misses

misses_same : (q : plain.Region) (b : Function) (a : ℕ) → Misses nothing_given (Own q) b a ↔ plain.Misses q b a
misses_same q b a = (
  λ h. (h.0.0, sym (same_passes q.space q.prefetchable a b) ∙ h.1),
  λ h. ((h.0, none_cut_of q.part q.space a q.slot), same_passes q.space q.prefetchable a b ∙ h.1),
)

abbrev missed_lines : plain.Region → List Range → List ℕ
missed_lines q missed = flat_map (range_line (codes "missed") q.space) missed

needed_lines : (q : plain.Region) (b : Function) (missed : List Range)
    → region_line nothing_given (codes "needs") (Own q) ++ (bridge_line nothing_given b q.space q.prefetchable ++ missed_lines q missed)
    ≡ plain.region_line (codes "needs") q ++ (plain.bridge_line b q.space q.prefetchable ++ missed_lines q missed)
needed_lines q b missed =
    ap (λ x. x ++ (bridge_line nothing_given b q.space q.prefetchable ++ missed_lines q missed)) (same_region_line (codes "needs") q)
    ∙ ap (λ x. plain.region_line (codes "needs") q ++ (x ++ missed_lines q missed)) (same_bridge_line b q.space q.prefetchable)

unreached_plain : (asleep : List Slot) (s : System) (q : plain.Region) (bridge : Slot) (lines : List ℕ) → IsBehindUnreached (nothing_told asleep) nothing_given s (Own q) bridge lines → plain.IsBehindUnreached s q bridge lines
unreached_plain asleep s q bridge lines h = record {
  is = h.is;
  b = h.b;
  listed = h.listed;
  named = h.named;
  missed = h.missed;
  runs = runs_same (Misses nothing_given (Own q) h.b) (plain.Misses q h.b) (misses_same q h.b) h.missed h.runs;
  text = h.text ∙ needed_lines q h.b h.missed;
}

plain_unreached : (asleep : List Slot) (s : System) (q : plain.Region) (bridge : Slot) (lines : List ℕ) → plain.IsBehindUnreached s q bridge lines → IsBehindUnreached (nothing_told asleep) nothing_given s (Own q) bridge lines
plain_unreached asleep s q bridge lines h = record {
  is = h.is;
  b = h.b;
  listed = h.listed;
  named = h.named;
  missed = h.missed;
  runs = runs_same (plain.Misses q h.b) (Misses nothing_given (Own q) h.b) (λ a. ((misses_same q h.b a).1, (misses_same q h.b a).0)) h.missed h.runs;
  text = h.text ∙ sym (needed_lines q h.b h.missed);
}

-- ---- two regions

abbrev InTwo : plain.Region → plain.Region → ℕ → Type 0
InTwo p q a = InRange p.range a × InRange q.range a

abbrev HoldsTwo : plain.Region → plain.Region → ℕ → Type 0
HoldsTwo p q a = Holds nothing_given (Own p) a × Holds nothing_given (Own q) a

holds_two : (p q : plain.Region) (a : ℕ) → HoldsTwo p q a ↔ InTwo p q a
holds_two p q a = (
  λ h. (h.0.0, h.1.0),
  λ h. ((h.0, none_cut_of p.part p.space a p.slot), (h.1, none_cut_of q.part q.space a q.slot)),
)

-- the lines of both
both_lines : (p q : plain.Region) (told : List ℕ) → region_line nothing_given (codes "first") (Own p) ++ (region_line nothing_given (codes "second") (Own q) ++ told)
    ≡ plain.region_line (codes "first") p ++ (plain.region_line (codes "second") q ++ told)
both_lines p q told =
    ap (λ x. x ++ (region_line nothing_given (codes "second") (Own q) ++ told)) (same_region_line (codes "first") p)
    ∙ ap (λ x. plain.region_line (codes "first") p ++ (x ++ told)) (same_region_line (codes "second") q)

two_convex : (p q : plain.Region) → IsConvex (InTwo p q)
two_convex p q a b c le up one two = (
  (let low = one.0.0 in omega (arith, low, le), let high = two.0.1 in omega (arith, high, up)),
  (let low = one.1.0 in omega (arith, low, le), let high = two.1.1 in omega (arith, high, up)),
)

-- an address of the one range of a list
only : (r : Range) (a : ℕ) → Any (λ x. InRange x a) (r ∷ []) → InRange r a
only r a (k, x, within, is, held) = (let zero_k : k ≡ 0 = omega (arith, within) in
    let same : x ≡ r = sym is ∙ ap (λ n. get_or (r ∷ []) n x) zero_k in
    subst (λ (y : Range). InRange y a) same held)

two_plain : (asleep : List Slot) (s : System) (space : Space) (p q : plain.Region) (lines : List ℕ) → q.space ≡ space → IsBehindTwo (nothing_told asleep) nothing_given s space (Own p) (Own q) lines → plain.IsBehindTwo s p q lines
two_plain asleep s space p q lines at h =
    let all : AreRuns (InTwo p q) h.shared = runs_same (HoldsTwo p q) (InTwo p q) (holds_two p q) h.shared h.runs in
    let one = one_run (InTwo p q) (two_convex p q) h.shared all h.some in
    let runs : AreRuns (InTwo p q) (one.0 ∷ []) = subst (AreRuns (InTwo p q)) one.1 all in
    let run : IsRun (InTwo p q) one.0 = runs.each 0 one.0 (omega arith) in
    let shared : flat_map (range_line (codes "shared") space) h.shared ≡ range_line (codes "shared") q.space one.0 =
    ap (λ rs. flat_map (range_line (codes "shared") space) rs) one.1 ∙ append-nil (range_line (codes "shared") space one.0) ∙ ap (λ sp. range_line (codes "shared") sp one.0) (sym at) in
    record {
      first = h.first;
      second = h.second;
      shared = one.0;
      some = run.some;
      exact = λ a. (
        λ held. run.each a held,
        λ both. (let there = runs.complete a both in only one.0 a there),
      );
      text = h.text ∙ both_lines p q (flat_map (range_line (codes "shared") space) h.shared) ∙ ap (λ t. plain.region_line (codes "first") p ++ (plain.region_line (codes "second") q ++ t)) shared;
    }

plain_two : (asleep : List Slot) (s : System) (space : Space) (p q : plain.Region) (lines : List ℕ) → q.space ≡ space → plain.IsBehindTwo s p q lines → IsBehindTwo (nothing_told asleep) nothing_given s space (Own p) (Own q) lines
plain_two asleep s space p q lines at h =
    let shared : range_line (codes "shared") q.space h.shared ≡ flat_map (range_line (codes "shared") space) (h.shared ∷ []) =
    ap (λ sp. range_line (codes "shared") sp h.shared) at ∙ sym (append-nil (range_line (codes "shared") space h.shared)) in
    record {
      first = h.first;
      second = h.second;
      shared = h.shared ∷ [];
      some = λ e. cc;
      runs = runs_same (InTwo p q) (HoldsTwo p q) (λ a. ((holds_two p q a).1, (holds_two p q a).0)) (h.shared ∷ []) (just_one (InTwo p q) h.shared h.some h.exact);
      text = h.text ∙ ap (λ t. plain.region_line (codes "first") p ++ (plain.region_line (codes "second") q ++ t)) shared ∙ sym (both_lines p q (flat_map (range_line (codes "shared") space) (h.shared ∷ [])));
    }

abbrev PlainTwo : System → Space → Slot → ℕ → Slot → ℕ → List ℕ → Type 0
PlainTwo s space first fr second sr lines =
    (p : plain.Region) × (q : plain.Region) × plain.IsNamed p first fr space × plain.IsNamed q second sr space × plain.IsBehindTwo s p q lines

-- no range is told
no_told : (asleep : List Slot) (s : System) (x : ToldRegion) → IsToldIn (nothing_told asleep) s x → ⊥
no_told asleep s x is = no_range_at asleep (told_name x) x.told is.named

named_two_plain : (asleep : List Slot) (s : System) (space : Space) (first : Slot) (fr : ℕ) (second : Slot) (sr : ℕ) (lines : List ℕ)
    → AreNamedTwo (nothing_told asleep) nothing_given s space (named_regions first fr second sr) lines → PlainTwo s space first fr second sr lines
named_two_plain asleep s space first fr second sr lines (Own p, Own q, np, nq, behind) = (p, q, np, nq, two_plain asleep s space p q lines nq.2 behind)
named_two_plain asleep s space first fr second sr lines (Legacy b sp, q, np, nq, behind) = absurd (no_legacy_claims b sp behind.first.1 behind.first.2)
named_two_plain asleep s space first fr second sr lines (Palette b, q, np, nq, behind) = absurd (no_palette_claims b Io behind.first.1 behind.first.2)
named_two_plain asleep s space first fr second sr lines (OfLine x, q, np, nq, behind) = absurd (no_told asleep s x behind.first)
named_two_plain asleep s space first fr second sr lines (Own p, Legacy b sp, np, nq, behind) = absurd (no_legacy_claims b sp behind.second.1 behind.second.2)
named_two_plain asleep s space first fr second sr lines (Own p, Palette b, np, nq, behind) = absurd (no_palette_claims b Io behind.second.1 behind.second.2)
named_two_plain asleep s space first fr second sr lines (Own p, OfLine x, np, nq, behind) = absurd (no_told asleep s x behind.second)

plain_named_two : (asleep : List Slot) (s : System) (space : Space) (first : Slot) (fr : ℕ) (second : Slot) (sr : ℕ) (lines : List ℕ)
    → PlainTwo s space first fr second sr lines → AreNamedTwo (nothing_told asleep) nothing_given s space (named_regions first fr second sr) lines
plain_named_two asleep s space first fr second sr lines (p, q, np, nq, behind) = (Own p, Own q, np, nq, plain_two asleep s space p q lines nq.2 behind)

abbrev PlainUnreached : System → Slot → ℕ → Space → Slot → List ℕ → Type 0
PlainUnreached s slot register space bridge lines = (q : plain.Region) × plain.IsNamed q slot register space × plain.IsBehindUnreached s q bridge lines

named_unreached_plain : (asleep : List Slot) (s : System) (slot : Slot) (register : ℕ) (space : Space) (a : ℕ) (bridge : Slot) (lines : List ℕ)
    → IsKnownEvidence (nothing_told asleep) nothing_given s (Unreached slot register space a bridge) lines → PlainUnreached s slot register space bridge lines
named_unreached_plain asleep s slot register space a bridge lines (Own q, named, behind) = (q, named, unreached_plain asleep s q bridge lines behind)
named_unreached_plain asleep s slot register space a bridge lines (Legacy b sp, named, behind) = absurd (no_legacy_claims b sp behind.is.1 behind.is.2)
named_unreached_plain asleep s slot register space a bridge lines (Palette b, named, behind) = absurd (no_palette_claims b Io behind.is.1 behind.is.2)
named_unreached_plain asleep s slot register space a bridge lines (OfLine x, named, behind) = absurd (no_told asleep s x behind.is)

evidence_same : (asleep : List Slot) (roots : List ℕ) (s : System) (fault : faults.Fault) (lines : List ℕ)
    → IsEvidence (nothing_told asleep) nothing_given roots s (Known fault) lines ↔ plain.IsEvidence s fault lines
evidence_same asleep roots s fault lines = elim fault as (λ fault. IsKnownEvidence (nothing_told asleep) nothing_given s fault lines ↔ plain.IsEvidence s fault lines) [
  | Unreached slot register space a bridge ↦ (
    λ h. named_unreached_plain asleep s slot register space a bridge lines h,
    λ h. (Own h.0, h.1, plain_unreached asleep s h.0 bridge lines h.2),
  )
  | Clash bus space a first fr second sr ↦ (named_two_plain asleep s space first fr second sr lines, plain_named_two asleep s space first fr second sr lines)
  | Split space a first fr second sr ↦ (named_two_plain asleep s space first fr second sr lines, plain_named_two asleep s space first fr second sr lines)
  | _ ↦ (λ h. h, λ h. h)
]

-- ---- registers: those of functions stand below the told ranges

pub low_register : (s : System) (q : plain.Region) → plain.IsRegionIn s q → q.register < 256
low_register s q is =
    let some = is.some in
    let low = register_of-lt is.f q.part ((is.claims q.range.first).0 (omega arith, some)).there in
    let named = is.register in
    omega (arith, low, named)

low_named : (s : System) (q : plain.Region) (slot : Slot) (register : ℕ) (space : Space) → plain.IsRegionIn s q → plain.IsNamed q slot register space → register < 256
low_named s q slot register space is named = let low = low_register s q is in let at = named.1 in omega (arith, low, at)

-- those that a fault of judging names
pub low_of_evidence : (s : System) (fault : faults.Fault) (lines : List ℕ) → plain.IsEvidence s fault lines → HasLowRegisters (Known fault)
low_of_evidence s fault lines = elim fault as (λ fault. plain.IsEvidence s fault lines → HasLowRegisters (Known fault)) [
  | Unreached slot register space a bridge ↦ λ h. low_named s h.0 slot register space h.2.is h.1
  | Clash bus space a first fr second sr ↦ λ h. (low_named s h.0 first fr space h.4.first h.2, low_named s h.1 second sr space h.4.second h.3)
  | Split space a first fr second sr ↦ λ h. (low_named s h.0 first fr space h.4.first h.2, low_named s h.1 second sr space h.4.second h.3)
  | _ ↦ λ h. refl
]

-- ---- where a region would fit

beside_alone : (roots : List ℕ) (q : plain.Region) (a bus : ℕ) → (Contains roots q.slot.bus → ⊥) → IsBeside nothing_given roots q a bus → bus ≡ q.slot.bus
beside_alone roots q a bus below (inl on) = on
beside_alone roots q a bus below (inr both) = absurd (below both.0)

taken_by : (asleep : List Slot) (roots : List ℕ) (s : System) (q : plain.Region) (a : ℕ) → (Contains roots q.slot.bus → ⊥) → (t : IsTakenBeside (nothing_told asleep) nothing_given roots s q a)
    → ClaimsOnBus nothing_given s t.by.slot.bus (address_in q.space a) t.by → plain.IsTaken s q a
taken_by asleep roots s q a below t (f, OwnPart part, listed, at, on, named, own) = record {
  f = f;
  part = part;
  listed = listed;
  on_bus = ap (λ (x : Slot). x.bus) at ∙ beside_alone roots q a t.by.slot.bus below t.beside;
  other = λ e. t.other (sym at ∙ e.0, sym named ∙ e.1);
  claims = own.claims;
}
taken_by asleep roots s q a below t (f, LegacyPart, listed, at, on, named, claims) = absurd (no_legacy_claims f q.space a claims)
taken_by asleep roots s q a below t (f, PalettePart, listed, at, on, named, claims) = absurd (no_palette_claims f q.space a claims)

pub taken_plain : (asleep : List Slot) (roots : List ℕ) (s : System) (q : plain.Region) (a : ℕ) → (Contains roots q.slot.bus → ⊥) → IsTakenBeside (nothing_told asleep) nothing_given roots s q a → plain.IsTaken s q a
taken_plain asleep roots s q a below t = taken_by asleep roots s q a below t (untold_claims asleep nothing_given s t.by.slot.bus (address_in q.space a) t.by t.claims)

-- no region of address registers is at Bridge Control
off_control : (s : System) (q : plain.Region) → plain.IsRegionIn s q → q.register ≡ 0x3e → ⊥
off_control s q is e = not_at_control is.f q.part (is.register ∙ e)

-- nor at Command
off_command : (s : System) (q : plain.Region) → plain.IsRegionIn s q → q.register ≡ 0x04 → ⊥
off_command s q is e = not_at_command is.f q.part (is.register ∙ e)

plain_taken : (asleep : List Slot) (roots : List ℕ) (s : System) (q : plain.Region) (a : ℕ) → plain.IsRegionIn s q → plain.IsTaken s q a → IsTakenBeside (nothing_told asleep) nothing_given roots s q a
plain_taken asleep roots s q a is t = record {
  by = named_region t.f.slot (system.register_of t.f t.part);
  beside = inl t.on_bus;
  other = t.other;
  apart = same_share asleep q.slot q.register t.f.slot (system.register_of t.f t.part) ∙ not_shared q.slot t.f.slot q.register (system.register_of t.f t.part) (off_control s q is) (not_at_control t.f t.part) (off_command s q is) (not_at_command t.f t.part);
  claims = inl (t.f, OwnPart t.part, t.listed, refl, refl, refl, (same_claims t.f t.part q.space a).1 t.claims);
}

module _ (asleep : List Slot) (roots : List ℕ) (s : System) (q : plain.Region) (is : plain.IsRegionIn s q) (below : Contains roots q.slot.bus → ⊥) (wide : Bool) where
  place_plain : (first : ℕ) → IsPlaceFor (nothing_told asleep) nothing_given roots s q wide first → plain.IsPlaceFor roots s q wide first
  place_plain first p = record {
    aligned = p.aligned;
    fits = p.fits;
    reached = λ a low high. (same_passed_to roots s q.space q.prefetchable a q.slot.bus).0 (p.reached a low high);
    free = λ a low high taken. p.free a low high (plain_taken asleep roots s q a is taken);
  }

  plain_place : (first : ℕ) → plain.IsPlaceFor roots s q wide first → IsPlaceFor (nothing_told asleep) nothing_given roots s q wide first
  plain_place first p = record {
    aligned = p.aligned;
    fits = p.fits;
    reached = λ a low high. (same_passed_to roots s q.space q.prefetchable a q.slot.bus).1 (p.reached a low high);
    free = λ a low high taken. p.free a low high (taken_plain asleep roots s q a below taken);
  }

  least_plain : (o : Option Range) → MatchOption o ((first : ℕ) → IsPlaceFor (nothing_told asleep) nothing_given roots s q wide first → ⊥) (λ r. IsLeastPlace (nothing_told asleep) nothing_given roots s q wide r)
      → MatchOption o ((first : ℕ) → plain.IsPlaceFor roots s q wide first → ⊥) (λ r. plain.IsLeastPlace roots s q wide r)
  least_plain None none = λ first p. none first (plain_place first p)
  least_plain (Some r) h = record { is = place_plain r.first h.is; size = h.size; least = λ first p. h.least first (plain_place first p) }

  plain_least : (o : Option Range) → MatchOption o ((first : ℕ) → plain.IsPlaceFor roots s q wide first → ⊥) (λ r. plain.IsLeastPlace roots s q wide r)
      → MatchOption o ((first : ℕ) → IsPlaceFor (nothing_told asleep) nothing_given roots s q wide first → ⊥) (λ r. IsLeastPlace (nothing_told asleep) nothing_given roots s q wide r)
  plain_least None none = λ first p. none first (place_plain first p)
  plain_least (Some r) h = record { is = plain_place r.first h.is; size = h.size; least = λ first p. h.least first (place_plain first p) }

-- where a root bus has no such line
match_same : (b : Bool) (X Y Z : Type 0) → (b ≡ false → Y → Z) → MatchBool b X Y → MatchBool b X Z
match_same true X Y Z f h = h
match_same false X Y Z f h = f refl h

pub no_root : (roots : List ℕ) (bus : ℕ) → is_root roots bus ≡ false → Contains roots bus → ⊥
no_root roots bus off has = both_ways (is_root roots bus) off ((root_means roots bus).1 has)

-- neither is a window, so its bus is no root bus
off_root : (w : Bool) (roots : List ℕ) (bus : ℕ) → w || is_root roots bus ≡ false → Contains roots bus → ⊥
off_root true roots bus off has = both_ways true off refl
off_root false roots bus off has = no_root roots bus off has

said_of_none : (space : Space) → is_said nothing_given space ≡ false
said_of_none Io = refl
said_of_none Memory = refl

-- no list is said, so that the root bus alone counts
root_alone : (b : Bool) (space : Space) → b && not (is_said nothing_given space) ≡ b
root_alone b space = ap (λ x. b && not x) (said_of_none space) ∙ and-true b

-- what stands below a root bus
abbrev GivenInner : List AssumedRegister → List Slot → List ℕ → System → plain.Region → List ℕ → Type 0
GivenInner assumed asleep roots s q lines = MatchBool (is_size_assumed assumed q.slot q.register) (lines ≡ plain.unknown_line) (IsFit (nothing_told asleep) nothing_given roots s q lines)

abbrev PlainInner : List AssumedRegister → List ℕ → System → plain.Region → List ℕ → Type 0
PlainInner assumed roots s q lines = MatchBool (is_size_assumed assumed q.slot q.register) (lines ≡ plain.unknown_line) (plain.IsFit roots s q lines)

fit_behind_plain : (assumed : List AssumedRegister) (asleep : List Slot) (roots : List ℕ) (s : System) (q : plain.Region) (lines : List ℕ) → plain.IsRegionIn s q → IsFitBehind assumed (nothing_told asleep) nothing_given roots s (Own q) lines → plain.IsFitBehind assumed roots s q lines
fit_behind_plain assumed asleep roots s q lines is h =
    match_same (is_window q.part || is_root roots q.slot.bus) (lines ≡ []) (GivenInner assumed asleep roots s q lines) (PlainInner assumed roots s q lines)
    (λ off. match_same (is_size_assumed assumed q.slot q.register) (lines ≡ plain.unknown_line) (IsFit (nothing_told asleep) nothing_given roots s q lines) (plain.IsFit roots s q lines)
    (λ known fit. record { f = fit.f; listed = fit.listed; slot = fit.slot; place = fit.place; exact = least_plain asleep roots s q is (off_root (is_window q.part) roots q.slot.bus off) (is_wide_part fit.f q.part) fit.place fit.exact; text = fit.text }))
    (subst (λ b. MatchBool (is_window q.part || b) (lines ≡ []) (GivenInner assumed asleep roots s q lines)) (root_alone (is_root roots q.slot.bus) q.space) h)

plain_fit_behind : (assumed : List AssumedRegister) (asleep : List Slot) (roots : List ℕ) (s : System) (q : plain.Region) (lines : List ℕ) → plain.IsRegionIn s q → plain.IsFitBehind assumed roots s q lines → IsFitBehind assumed (nothing_told asleep) nothing_given roots s (Own q) lines
plain_fit_behind assumed asleep roots s q lines is h =
    subst (λ b. MatchBool (is_window q.part || b) (lines ≡ []) (GivenInner assumed asleep roots s q lines)) (sym (root_alone (is_root roots q.slot.bus) q.space))
    (match_same (is_window q.part || is_root roots q.slot.bus) (lines ≡ []) (PlainInner assumed roots s q lines) (GivenInner assumed asleep roots s q lines)
    (λ off. match_same (is_size_assumed assumed q.slot q.register) (lines ≡ plain.unknown_line) (plain.IsFit roots s q lines) (IsFit (nothing_told asleep) nothing_given roots s q lines)
    (λ known fit. record { f = fit.f; listed = fit.listed; slot = fit.slot; place = fit.place; exact = plain_least asleep roots s q is (off_root (is_window q.part) roots q.slot.bus off) (is_wide_part fit.f q.part) fit.place fit.exact; text = fit.text }))
    h)

abbrev PlainAdvice : List AssumedRegister → List ℕ → System → Slot → ℕ → Space → List ℕ → Type 0
PlainAdvice assumed roots s slot register space lines = (q : plain.Region) × plain.IsNamed q slot register space × plain.IsRegionIn s q × plain.IsFitBehind assumed roots s q lines

advice_plain : (assumed : List AssumedRegister) (asleep : List Slot) (roots : List ℕ) (s : System) (slot : Slot) (register : ℕ) (space : Space) (lines : List ℕ) → IsAdviceFor assumed (nothing_told asleep) nothing_given roots s (named_region slot register) space lines → PlainAdvice assumed roots s slot register space lines
advice_plain assumed asleep roots s slot register space lines (Own q, named, is, fit) = (q, named, is, fit_behind_plain assumed asleep roots s q lines is fit)
advice_plain assumed asleep roots s slot register space lines (Legacy b sp, named, is, fit) = absurd (no_legacy_claims b sp is.1 is.2)
advice_plain assumed asleep roots s slot register space lines (Palette b, named, is, fit) = absurd (no_palette_claims b Io is.1 is.2)
advice_plain assumed asleep roots s slot register space lines (OfLine x, named, is, fit) = absurd (no_told asleep s x is)

plain_advice : (assumed : List AssumedRegister) (asleep : List Slot) (roots : List ℕ) (s : System) (slot : Slot) (register : ℕ) (space : Space) (lines : List ℕ) → PlainAdvice assumed roots s slot register space lines → IsAdviceFor assumed (nothing_told asleep) nothing_given roots s (named_region slot register) space lines
plain_advice assumed asleep roots s slot register space lines (q, named, is, fit) = (Own q, named, is, plain_fit_behind assumed asleep roots s q lines is fit)

-- of two the second moves, where it is no told range
pub moves_second : (two : TwoRegions) → two.second.register < 256 → to_move two ≡ two.second
moves_second two low = cond-true (nat_lt two.second.register 256) two.second two.first (lt-ltb two.second.register 256 low)

module _ (assumed : List AssumedRegister) (asleep : List Slot) (roots : List ℕ) (s : System) where
  abbrev AdviceOf : RegionName → Space → List ℕ → Type 0
  AdviceOf region space lines = IsAdviceFor assumed (nothing_told asleep) nothing_given roots s region space lines

  second_plain : (first : Slot) (fr : ℕ) (second : Slot) (sr : ℕ) (space : Space) (lines : List ℕ) → sr < 256 → AdviceOf (to_move (named_regions first fr second sr)) space lines → PlainAdvice assumed roots s second sr space lines
  second_plain first fr second sr space lines low h =
      advice_plain assumed asleep roots s second sr space lines (subst (λ region. AdviceOf region space lines) (moves_second (named_regions first fr second sr) low) h)

  plain_second : (first : Slot) (fr : ℕ) (second : Slot) (sr : ℕ) (space : Space) (lines : List ℕ) → sr < 256 → PlainAdvice assumed roots s second sr space lines → AdviceOf (to_move (named_regions first fr second sr)) space lines
  plain_second first fr second sr space lines low h =
      subst (λ region. AdviceOf region space lines) (sym (moves_second (named_regions first fr second sr) low)) (plain_advice assumed asleep roots s second sr space lines h)

  advice_same : (fault : faults.Fault) (lines : List ℕ) → HasLowRegisters (Known fault) → IsAdvice assumed (nothing_told asleep) nothing_given roots s (Known fault) lines ↔ plain.IsAdvice assumed roots s fault lines
  advice_same fault lines = elim fault as (λ fault. HasLowRegisters (Known fault) → IsKnownAdvice assumed (nothing_told asleep) nothing_given roots s fault lines ↔ plain.IsAdvice assumed roots s fault lines) [
    | Unreached slot register space a bridge ↦ λ low. (advice_plain assumed asleep roots s slot register space lines, plain_advice assumed asleep roots s slot register space lines)
    | Clash bus space a first fr second sr ↦ λ low. (second_plain first fr second sr space lines low.1, plain_second first fr second sr space lines low.1)
    | Split space a first fr second sr ↦ λ low. (
      λ h. subst (λ b. MatchBool b (AdviceOf (to_move (named_regions first fr second sr)) space lines) (lines ≡ [])) (said_of_none space) h,
      λ h. subst (λ b. MatchBool b (AdviceOf (to_move (named_regions first fr second sr)) space lines) (lines ≡ [])) (sym (said_of_none space)) h,
    )
    | _ ↦ λ low. (λ h. h, λ h. h)
  ]

pub same_why : SameWhy
same_why assumed asleep roots s fault lines = (
  λ h.
      let shows = (evidence_same asleep roots s fault h.evidence).0 h.shows in
      record {
        evidence = h.evidence;
        advice = h.advice;
        told = shows;
        fits = (advice_same assumed asleep roots s fault h.advice (low_of_evidence s fault h.evidence shows)).0 h.fits;
        text = h.text;
      },
  λ h. record {
    evidence = h.evidence;
    advice = h.advice;
    shows = (evidence_same asleep roots s fault h.evidence).1 h.told;
    fits = (advice_same assumed asleep roots s fault h.advice (low_of_evidence s fault h.evidence h.told)).1 h.fits;
    text = h.text;
  },
)
