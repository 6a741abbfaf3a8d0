-- What has no regions can't make a sound system unsound.
use Rattle.std.proofs.Common.{◌≡◌, ℕ, ◌+◌, ◌*◌, ◌/◌, ◌^◌, inl, inr, List, [], ◌∷◌, refl, Bool, true, false, ◌&&◌, not, if◌then◌else◌, arith, sym, subst}
use Rattle.std.specs.Bool.{nat_le}
use Rattle.std.specs.List.{Contains, AllZip, list_all}
use Rattle.std.proofs.lemmas.Bool.{and_parts, or_cases, both_ways, le-leb, leb-true, ltb-true}
use Rattle.pci_spec.specs.Header.{secondary_bus}
use Rattle.pci_spec.specs.Bar.{bar_at, bar_kind, is_lawful, is_wide}
use Rattle.pci_spec.specs.Rom.{is_rom_size}
use Rattle.pci_spec.specs.Window.{WindowKind, IoWindow, MemoryWindow, PrefetchWindow, base_page, limit_page, page_size, has_window, holds}
use Rattle.pci_spec.specs.System.{System, Function, Space, Io, Memory, Part, Bar, Rom, Window, Claims, forwards, passes, window_claims, window_space, is_bridge, is_space_on, is_prefetchable_part, Leads, Gets}
use Rattle.pci_spec.specs.Sound.{IsSingle, IsHome}
use Rattle.pci_spec.proofs.Absent.{not_lawful, no_rom}
use Rattle.pci_spec.proofs.Pairs.{member_back, member_forth}
use Rattle.plan_spec.specs.PlanningLaws.{HoldsNothing, NoRegionHoldsNothing, IsSameOrIdle, IdleClaimNothing}

open_or_closed : (b : Bool) → not b ≡ true → b ≡ true → ⊥
open_or_closed true closed e = both_ways false refl closed
open_or_closed false closed e = both_ways false refl e

pub no_region_holds_nothing : NoRegionHoldsNothing
no_region_holds_nothing f none (Bar n) a there (starts, answers) =
    let k = answers.0 in
    let P : ℕ → Type 0 = λ m. is_lawful (bar_kind m) (if is_wide m then m + 2 ^ 32 * bar_at f.probe (n + 1) else m) k ≡ true in
    not_lawful (bar_kind 0) k (subst P (none.bars n (ltb-true _ _ there)) answers.1)
no_region_holds_nothing f none Rom a there answers =
    let k = answers.0 in
    let P : ℕ → Type 0 = λ m. is_rom_size m k ≡ true in
    no_rom k (subst P none.rom answers.1)
no_region_holds_nothing f none (Window kind) a there decodes =
    let page = a / page_size kind in
    let outer = and_parts (has_window kind f.probe && nat_le (base_page kind f.image) page) (nat_le page (limit_page kind f.image)) decodes in
    let inner = and_parts (has_window kind f.probe) (nat_le (base_page kind f.image) page) outer.0 in
    let low = leb-true (base_page kind f.image) page inner.1 in
    let high = leb-true page (limit_page kind f.image) outer.1 in
    elim (none.windows kind there) [
      | inl absent ↦ both_ways (has_window kind f.probe) absent inner.0
      | inr closed ↦ open_or_closed (nat_le (base_page kind f.image) (limit_page kind f.image)) closed (le-leb (base_page kind f.image) (limit_page kind f.image) (omega (arith, low, high)))
    ]

window_holds : (b : Function) (kind : WindowKind) (a : ℕ) → is_bridge b ≡ true → window_claims b kind a ≡ true → HoldsNothing b → ⊥
window_holds b kind a bridge e nothing = nothing (Window kind) a bridge (and_parts (is_space_on b (window_space kind)) (holds kind b.image b.probe a) e).1

forward_holds : (space : Space) (a : ℕ) (b : Function) → is_bridge b ≡ true → forwards space a b ≡ true → HoldsNothing b → ⊥
forward_holds Io a b bridge e = window_holds b IoWindow a bridge e
forward_holds Memory a b bridge e = elim (or_cases (window_claims b MemoryWindow a) (window_claims b PrefetchWindow a) e) [
  | inl m ↦ window_holds b MemoryWindow a bridge m
  | inr p ↦ window_holds b PrefetchWindow a bridge p
]

pass_holds : (space : Space) (prefetchable : Bool) (a : ℕ) (b : Function) → is_bridge b ≡ true → passes space prefetchable a b ≡ true → HoldsNothing b → ⊥
pass_holds Io prefetchable a b bridge e = window_holds b IoWindow a bridge e
pass_holds Memory prefetchable a b bridge e = elim (or_cases (window_claims b MemoryWindow a) (prefetchable && window_claims b PrefetchWindow a) e) [
  | inl m ↦ window_holds b MemoryWindow a bridge m
  | inr p ↦ window_holds b PrefetchWindow a bridge (and_parts prefetchable (window_claims b PrefetchWindow a) p).1
]

-- what holds anything in the first system stands in the second as it is
abbrev Keeps : System → System → Type 0
Keeps s t = (f : Function) → Contains s f → (HoldsNothing f → ⊥) → Contains t f

kept_forth : (s t : System) → AllZip IsSameOrIdle s t → Keeps s t
kept_forth s t pairs f listed some =
    let found = member_forth IsSameOrIdle s t pairs f listed in
    elim found.2 [
      | inl same ↦ subst (Contains t) (sym same) found.1
      | inr idle ↦ absurd (some idle.0)
    ]

kept_back : (s t : System) → AllZip IsSameOrIdle s t → Keeps t s
kept_back s t pairs g listed some =
    let found = member_back IsSameOrIdle s t pairs g listed in
    elim found.2 [
      | inl same ↦ subst (Contains s) same found.1
      | inr idle ↦ absurd (some idle.1)
    ]

-- a way of bridges that hold something is one in the second system too
way_kept : (s t : System) → Keeps s t → (test : Function → Bool) → ((b : Function) → is_bridge b ≡ true → test b ≡ true → HoldsNothing b → ⊥)
    → (from : ℕ) (bridges : List Function) (to : ℕ) → Leads s from bridges to → list_all test bridges ≡ true → Leads t from bridges to
way_kept s t kept test some from [] to e h = e
way_kept s t kept test some from (b ∷ bridges) to (listed, bridge, on, rest) h =
    let parts = and_parts (test b) (list_all test bridges) h in
    (kept b listed (some b bridge parts.0), bridge, on, way_kept s t kept test some (secondary_bus b.image) bridges to rest parts.1)

gets_kept : (roots : List ℕ) (s t : System) → Keeps s t → (space : Space) (a bus : ℕ) → Gets roots s space a bus → Gets roots t space a bus
gets_kept roots s t kept space a bus (root, is_root, bridges, leads, all) =
    (root, is_root, bridges, way_kept s t kept (forwards space a) (forward_holds space a) root bridges bus leads all, all)

claim_holds : (f : Function) (p : Part) (space : Space) (a : ℕ) → Claims f p space a → HoldsNothing f → ⊥
claim_holds f p space a claim nothing = nothing p a claim.there claim.decodes

single_kept : (roots : List ℕ) (s t : System) → Keeps t s → IsSingle roots s → IsSingle roots t
single_kept roots s t kept single = record {
  on_a_bus = λ space a bus gets f g p q in_f in_g at_f at_g claim_f claim_g.
      single.on_a_bus space a bus (gets_kept roots t s kept space a bus gets) f g p q
      (kept f in_f (claim_holds f p space a claim_f)) (kept g in_g (claim_holds g q space a claim_g)) at_f at_g claim_f claim_g;
  over_roots = λ space a f g p q in_f in_g root_f root_g claim_f claim_g.
      single.over_roots space a f g p q
      (kept f in_f (claim_holds f p space a claim_f)) (kept g in_g (claim_holds g q space a claim_g)) root_f root_g claim_f claim_g;
}

home_kept : (roots : List ℕ) (s t : System) → Keeps t s → Keeps s t → IsHome roots s → IsHome roots t
home_kept roots s t back forth home f p space a in_f plain claim =
    let way = home f p space a (back f in_f (claim_holds f p space a claim)) plain claim in
    let prefetchable = is_prefetchable_part f p in
    (way.0, way.1, way.2, way_kept s t forth (passes space prefetchable a) (pass_holds space prefetchable a) way.0 way.2 f.slot.bus way.3 way.4, way.4)

pub idle_claim_nothing : IdleClaimNothing
idle_claim_nothing roots s t pairs =
    let forth = kept_forth s t pairs in
    let back = kept_back s t pairs in
    ((single_kept roots s t back, single_kept roots t s forth), (home_kept roots s t back forth, home_kept roots t s forth back))
