-- With nothing given each word is the one without it.
use Rattle.std.proofs.Common.{◌≡◌, ◌<◌, ◌≤◌, ℕ, List, [], ◌∷◌, Bool, false, ◌&&◌, ◌||◌, not, refl, sym, ◌∙◌, ap, arith}
use Rattle.std.specs.List.{list_all}
use Rattle.std.specs.Bool.{◌==◌}
use Rattle.std.proofs.lemmas.Bool.{both_ways, cond_both, ne_eqb}
use Rattle.std.proofs.Math.Bool.{and-false, and-true, or-false}
use Rattle.pci_spec.specs.Slot.{Slot, same_slot}
use Rattle.pci_spec.specs.Header.{layout, rom_register}
use Rattle.pci_spec.specs.Window.{WindowKind, IoWindow, MemoryWindow, PrefetchWindow, window_register}
use Rattle.pci_spec.specs.System.{System, Function, Space, Io, Memory, Bar, Rom, Window, is_prefetchable_part}
use Rattle.pci_spec.specs.System as system
use Rattle.pci_spec.specs.Fault.{Unreached, Clash, Split, address_in, named_region, named_regions}
use Rattle.pci_spec.specs.Fault as plain
use Rattle.judge_spec.specs.Given.{nothing_given, legacy_claims, palette_claims, takes, is_cut}
use Rattle.judge_spec.specs.Claims.{Own, Legacy, Palette, is_cut_of, Gets, IsPassedTo, ClaimsOnBus, forwards_else, passes_else, may_share, are_together, is_fixed_register, is_window_register}
use Rattle.judge_spec.specs.Fault.{Known, IsIn, IsUnreached, IsClash, IsSplit}
use Rattle.judge_spec.specs.Laws.{StartsAnywhere, SameClaims, NoLegacyClaims, NoPaletteClaims, SameForwards, SamePasses, SameGets, SamePassedTo, NoneOutside, SameFaults}

pub starts_anywhere : StartsAnywhere
starts_anywhere Io root a = refl
starts_anywhere Memory root a = refl

pub no_legacy : (space : Space) (a : ℕ) (b : Function) → legacy_claims nothing_given space a b ≡ false
no_legacy space a b = and-false (system.is_bridge b && system.is_space_on b space)

pub no_palette : (space : Space) (a : ℕ) (b : Function) → palette_claims nothing_given space a b ≡ false
no_palette space a b = and-false (system.is_bridge b && system.is_space_on b space)

takes_nothing : (space : Space) (a : ℕ) (b : Function) → takes nothing_given space a b ≡ false
takes_nothing space a b = and-false (system.is_bridge b && system.is_space_on b space)

-- by its windows alone
pub passes_nothing_else : (space : Space) (a : ℕ) (b : Function) → passes_else nothing_given space a b ≡ false
passes_nothing_else space a b = ap (λ x. x || takes nothing_given space a b) (no_legacy space a b) ∙ takes_nothing space a b

pub forwards_nothing_else : (space : Space) (a : ℕ) (b : Function) → forwards_else nothing_given space a b ≡ false
forwards_nothing_else space a b = ap (λ x. x || palette_claims nothing_given space a b) (passes_nothing_else space a b) ∙ no_palette space a b

pub none_cut : (space : Space) (a : ℕ) (slot : Slot) → is_cut nothing_given space a slot ≡ false
none_cut Io a slot = refl
none_cut Memory a slot = refl

pub none_cut_of : (part : system.Part) (space : Space) (a : ℕ) (slot : Slot) → is_cut_of nothing_given part space a slot ≡ false
none_cut_of part space a slot = ap (λ x. system.is_window part && x) (none_cut space a slot) ∙ and-false (system.is_window part)

-- what a window claims and ISA Enable doesn't take
none_taken : (b : Bool) (space : Space) (a : ℕ) (slot : Slot) → (b && not (is_cut nothing_given space a slot)) ≡ b
none_taken b space a slot = ap (λ x. b && not x) (none_cut space a slot) ∙ and-true b

pub same_claims : SameClaims
same_claims f part space a = (λ h. h.claims, λ h. record { claims = h; kept = none_cut_of part space a f.slot })

pub no_legacy_claims : NoLegacyClaims
no_legacy_claims f space a claims = both_ways _ (no_legacy space a f) claims.claims

pub no_palette_claims : NoPaletteClaims
no_palette_claims f space a claims = both_ways _ (no_palette space a f) claims.claims

pub same_forwards : SameForwards
same_forwards space a b = ap (λ x. (system.forwards space a b && not (is_cut nothing_given space a b.slot)) || x) (forwards_nothing_else space a b) ∙ or-false _ ∙ none_taken (system.forwards space a b) space a b.slot

pub same_passes : SamePasses
same_passes space prefetchable a b = ap (λ x. (system.passes space prefetchable a b && not (is_cut nothing_given space a b.slot)) || x) (passes_nothing_else space a b) ∙ or-false _ ∙ none_taken (system.passes space prefetchable a b) space a b.slot

all_same : (f g : Function → Bool) (bs : List Function) → ((b : Function) → f b ≡ g b) → list_all f bs ≡ list_all g bs
all_same f g [] h = refl
all_same f g (b ∷ bs) h = ap (λ x. x && list_all f bs) (h b) ∙ ap (λ x. g b && x) (all_same f g bs h)

pub same_gets : SameGets
same_gets roots s space a bus = (
  λ (h : Gets nothing_given roots s space a bus). (h.0, h.1, h.3, h.4, sym (all_same _ _ h.3 (same_forwards space a)) ∙ h.5),
  λ (h : system.Gets roots s space a bus). (h.0, h.1, starts_anywhere space h.0 a, h.2, h.3, all_same _ _ h.2 (same_forwards space a) ∙ h.4),
)

pub same_passed_to : SamePassedTo
same_passed_to roots s space pf a bus = (
  λ (h : IsPassedTo nothing_given roots s (address_in space a) pf bus). (h.0, h.1, h.3, h.4, sym (all_same _ _ h.3 (same_passes space pf a)) ∙ h.5),
  λ (h : system.IsPassedTo roots s space pf a bus). (h.0, h.1, starts_anywhere space h.0 a, h.2, h.3, all_same _ _ h.2 (same_passes space pf a) ∙ h.4),
)

pub none_outside : NoneOutside
none_outside roots s slot register space a o = both_ways _ o.none (starts_anywhere space o.root a)

-- ---- the exceptions

window_register-lt : (kind : WindowKind) → window_register kind < 0x28
window_register-lt IoWindow = omega arith
window_register-lt MemoryWindow = omega arith
window_register-lt PrefetchWindow = omega arith

window_register-ge : (kind : WindowKind) → 0x1c ≤ window_register kind
window_register-ge IoWindow = omega arith
window_register-ge MemoryWindow = omega arith
window_register-ge PrefetchWindow = omega arith

rom_not : (kind : ℕ) → rom_register kind ≡ 0x3e → ⊥
rom_not kind = cond_both (kind == 1) 0x38 0x30 (λ n. n ≡ 0x3e → ⊥) (λ e n. omega (arith, n)) (λ e n. omega (arith, n))

-- no part of its own stands where Bridge Control does
pub not_at_control : (f : Function) (part : system.Part) → system.register_of f part ≡ 0x3e → ⊥
not_at_control f (Bar n) e = omega (arith, e)
not_at_control f Rom e = rom_not (layout f.image) e
not_at_control f (Window kind) e = let less = window_register-lt kind in omega (arith, less, e)

rom_not_low : (kind : ℕ) → rom_register kind ≡ 0x04 → ⊥
rom_not_low kind = cond_both (kind == 1) 0x38 0x30 (λ n. n ≡ 0x04 → ⊥) (λ e n. omega (arith, n)) (λ e n. omega (arith, n))

-- nor where Command does
pub not_at_command : (f : Function) (part : system.Part) → system.register_of f part ≡ 0x04 → ⊥
not_at_command f (Bar n) e = omega (arith, e)
not_at_command f Rom e = rom_not_low (layout f.image) e
not_at_command f (Window kind) e = let more = window_register-ge kind in omega (arith, more, e)

claims_own : (s : System) (bus : ℕ) (space : Space) (a : ℕ) (slot : Slot) (register : ℕ) → ClaimsOnBus nothing_given s bus (address_in space a) (named_region slot register) → plain.ClaimsOnBus s bus (address_in space a) (named_region slot register)
claims_own s bus space a slot register (f, Own part, listed, at, on, named, own) = (f, part, listed, at, on, named, own.claims)
claims_own s bus space a slot register (f, Legacy, listed, at, on, named, claims) = absurd (no_legacy_claims f space a claims)
claims_own s bus space a slot register (f, Palette, listed, at, on, named, claims) = absurd (no_palette_claims f space a claims)

own_claims : (s : System) (bus : ℕ) (space : Space) (a : ℕ) (slot : Slot) (register : ℕ) → plain.ClaimsOnBus s bus (address_in space a) (named_region slot register) → ClaimsOnBus nothing_given s bus (address_in space a) (named_region slot register)
own_claims s bus space a slot register (f, part, listed, at, on, named, claims) = (f, Own part, listed, at, on, named, (same_claims f part space a).1 claims)

-- registers that are neither Bridge Control nor Command
not_fixed : (r : ℕ) → (r ≡ 0x3e → ⊥) → (r ≡ 0x04 → ⊥) → is_fixed_register r ≡ false
not_fixed r control command = ap (λ x. x || r == 0x04) (ne_eqb r 0x3e control) ∙ ne_eqb r 0x04 command

not_together : (r q : ℕ) → (r ≡ 0x3e → ⊥) → (q ≡ 0x3e → ⊥) → (q ≡ 0x04 → ⊥) → are_together r q ≡ false
not_together r q hr hq cq =
    ap (λ x. (is_window_register r && x) || (r == 0x3e && q == 0x04)) (not_fixed q hq cq)
    ∙ ap (λ x. x || (r == 0x3e && q == 0x04)) (and-false (is_window_register r))
    ∙ ap (λ x. x && q == 0x04) (ne_eqb r 0x3e hr)

pub not_shared : (s t : Slot) (r q : ℕ) → (r ≡ 0x3e → ⊥) → (q ≡ 0x3e → ⊥) → (r ≡ 0x04 → ⊥) → (q ≡ 0x04 → ⊥) → may_share s r t q ≡ false
not_shared s t r q hr hq cr cq =
    ap (λ x. same_slot s t && (x || are_together q r)) (not_together r q hr hq cq)
    ∙ ap (λ x. same_slot s t && x) (not_together q r hq hr cr)
    ∙ and-false (same_slot s t)

named_own : (s : System) (bus : ℕ) (space : Space) (a : ℕ) (slot : Slot) (register : ℕ) → plain.ClaimsOnBus s bus (address_in space a) (named_region slot register) → register ≡ 0x3e → ⊥
named_own s bus space a slot register c e = not_at_control c.0 c.1 (c.5 ∙ e)

off_command : (s : System) (bus : ℕ) (space : Space) (a : ℕ) (slot : Slot) (register : ℕ) → plain.ClaimsOnBus s bus (address_in space a) (named_region slot register) → register ≡ 0x04 → ⊥
off_command s bus space a slot register c e = not_at_command c.0 c.1 (c.5 ∙ e)

pub same_faults : SameFaults
same_faults roots s fault = elim fault as (λ fault. (IsIn nothing_given roots s (Known fault) → plain.IsIn roots s fault) × (plain.IsIn roots s fault → IsIn nothing_given roots s (Known fault))) [
  | Unreached slot register space a bridge ↦ (
    λ (u : IsUnreached nothing_given roots s (named_region slot register) (address_in space a) bridge). record {
      f = u.f;
      part = u.part;
      listed = u.listed;
      named = u.named;
      no_window = u.no_window;
      claims = u.claims;
      bridges = u.bridges;
      root = u.root;
      starts = u.is_root;
      leads = u.leads;
      b = u.b;
      on_the_way = u.on_the_way;
      named_bridge = u.named_bridge;
      stops = sym (same_passes space (is_prefetchable_part u.f u.part) a u.b) ∙ u.stops;
    },
    λ (u : plain.IsUnreached roots s (named_region slot register) (address_in space a) bridge). record {
      f = u.f;
      part = u.part;
      listed = u.listed;
      named = u.named;
      no_window = u.no_window;
      claims = u.claims;
      bridges = u.bridges;
      root = u.root;
      is_root = u.starts;
      leads = u.leads;
      sent = starts_anywhere space u.root a;
      b = u.b;
      on_the_way = u.on_the_way;
      named_bridge = u.named_bridge;
      stops = same_passes space (is_prefetchable_part u.f u.part) a u.b ∙ u.stops;
    },
  )
  | Clash bus space a first fr second sr ↦ (
    λ (c : IsClash nothing_given roots s bus (address_in space a) (named_regions first fr second sr)). record {
      gets = (same_gets roots s space a bus).0 c.gets;
      claims_first = claims_own s bus space a first fr c.claims_first;
      claims_second = claims_own s bus space a second sr c.claims_second;
      differ = c.differ;
    },
    λ (c : plain.IsClash roots s bus (address_in space a) (named_regions first fr second sr)). record {
      gets = (same_gets roots s space a bus).1 c.gets;
      claims_first = own_claims s bus space a first fr c.claims_first;
      claims_second = own_claims s bus space a second sr c.claims_second;
      differ = c.differ;
      apart = not_shared first second fr sr (named_own s bus space a first fr c.claims_first) (named_own s bus space a second sr c.claims_second) (off_command s bus space a first fr c.claims_first) (off_command s bus space a second sr c.claims_second);
    },
  )
  | Split space a first fr second sr ↦ (
    λ (c : IsSplit nothing_given roots s (address_in space a) (named_regions first fr second sr)). record {
      root_first = c.root_first;
      root_second = c.root_second;
      buses = c.buses;
      claims_first = claims_own s first.bus space a first fr c.claims_first;
      claims_second = claims_own s second.bus space a second sr c.claims_second;
    },
    λ (c : plain.IsSplit roots s (address_in space a) (named_regions first fr second sr)). record {
      root_first = c.root_first;
      root_second = c.root_second;
      buses = c.buses;
      sent_first = starts_anywhere space first.bus a;
      sent_second = starts_anywhere space second.bus a;
      claims_first = own_claims s first.bus space a first fr c.claims_first;
      claims_second = own_claims s second.bus space a second sr c.claims_second;
    },
  )
  | _ ↦ (λ h. h, λ h. h)
]
