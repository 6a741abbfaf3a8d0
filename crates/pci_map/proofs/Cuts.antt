-- What ISA Enable takes of the regions of an outline, and what it leaves them.
use Rattle.std.proofs.Common.{◌≡◌, ℕ, ◌*◌, ◌/◌, ◌%◌, ◌<◌, ◌≤◌, inr, Bool, true, false, ◌&&◌, refl, sym, ◌∙◌, ap, subst, arith}
use Rattle.std.specs.Prelude.{nat_le}
use Rattle.std.specs.List.{Contains}
use Rattle.std.proofs.lemmas.Bool.{and_right, false≢true}
use Rattle.pci_spec.specs.Slot.{Slot}
use Rattle.pci_spec.specs.Window.{IoWindow, MemoryWindow, PrefetchWindow, has_window, base_page, limit_page}
use Rattle.pci_spec.specs.System.{System, Function, Space, Io, Memory, Claims, has_part, is_window, register_of}
use Rattle.pci_spec.specs.System as system
use Rattle.pci_spec.proofs.Regions.{part_same}
use Rattle.judge_spec.specs.Given.{Given, has_isa, is_isa_port, is_cut}
use Rattle.judge_spec.specs.Claims.{OwnClaims, is_cut_of}
use Rattle.pci_tree.specs.declared.region.Region.{Region}
use Rattle.pci_tree.specs.Regions.{IsRegionOf, IsRegionOn, is_of_window}
use Rattle.pci_tree.proofs.RegionParts.{window_named}
use Rattle.pci_claims.specs.Claim.{is_cut_from}
use Rattle.pci_claims.specs.Found.{IsFoundIn}
use Rattle.pci_claims.proofs.Cutting.{left_where}

-- ---- a region and its part

pub cut_of_region : (given : Given) (space : Space) (f : Function) (part : system.Part) (q : Region) → IsRegionOf f part space q → (a : ℕ) → is_cut_from given space q a ≡ is_cut_of given part space a f.slot
cut_of_region given space f part q is a =
    ap (λ p. is_of_window p && is_cut given space a q.slot) is.named
    ∙ ap (λ b. b && is_cut given space a q.slot) (sym (window_named part))
    ∙ ap (λ (x : Slot). is_window part && is_cut given space a x) is.slot

-- a region claims what it has and isn't taken from it
pub own_of : (given : Given) (space : Space) (f : Function) (part : system.Part) (q : Region) → IsRegionOf f part space q → (a : ℕ) → (q.first ≤ a) × (a ≤ q.last) → is_cut_from given space q a ≡ false
    → OwnClaims given f part space a
own_of given space f part q is a held kept = record { claims = (is.claims a).0 held; kept = sym (cut_of_region given space f part q is a) ∙ kept }

pub kept_of : (given : Given) (space : Space) (f : Function) (part : system.Part) (q : Region) → IsRegionOf f part space q → (a : ℕ) → OwnClaims given f part space a → is_cut_from given space q a ≡ false
kept_of given space f part q is a own = cut_of_region given space f part q is a ∙ own.kept

-- ---- first addresses

-- a window begins with a page
begins_page : (f : Function) (q : Region) → IsRegionOf f (system.Window IoWindow) Io q → q.first % 4096 ≡ 0
begins_page f q is =
    let claims : Claims f (system.Window IoWindow) Io q.first = (is.claims q.first).0 (omega arith, is.some) in
    let b : ℕ = q.first / 4096 * 4096 in
    let page : q.first / 4096 ≡ b / 4096 = omega arith in
    let address : q.first < 4294967296 = claims.address in
    let back : Claims f (system.Window IoWindow) Io b = record {
      there = claims.there;
      enabled = claims.enabled;
      maps = claims.maps;
      address = (let small : b < 4294967296 = omega (arith, address) in small);
      decodes = subst (λ n. (has_window IoWindow f.probe && nat_le (base_page IoWindow f.image) n && nat_le n (limit_page IoWindow f.image)) ≡ true) page claims.decodes;
    } in
    let low = ((is.claims b).1 back).0 in
    omega (arith, low)

abbrev is_io : Space → Bool
is_io Io = true
is_io Memory = false

starts_kept : (given : Given) (f : Function) (part : system.Part) (space : Space) (q : Region) → IsRegionOf f part space q → is_cut_of given part space q.first f.slot ≡ false
starts_kept given f (system.Bar n) space q is = refl
starts_kept given f system.Rom space q is = refl
starts_kept given f (system.Window kind) Memory q is = refl
starts_kept given f (system.Window IoWindow) Io q is =
    let page = begins_page f q is in
    and_right (has_isa given f.slot) (is_isa_port q.first) (left_where q.first (inr (omega (arith, page))))
starts_kept given f (system.Window MemoryWindow) Io q is = absurd (false≢true (ap is_io ((is.claims q.first).0 (omega arith, is.some)).maps))
starts_kept given f (system.Window PrefetchWindow) Io q is = absurd (false≢true (ap is_io ((is.claims q.first).0 (omega arith, is.some)).maps))

-- each region claims its first address
pub first_own : (given : Given) (s : System) (bus : ℕ) (space : Space) (q : Region) (on : IsRegionOn s bus space q) → OwnClaims given on.f on.part space q.first
first_own given s bus space q on = record { claims = (on.is.claims q.first).0 (omega arith, on.is.some); kept = starts_kept given on.f on.part space q on.is }

-- ---- what is found at a slot and a register

pub cut_at : (given : Given) (s : System) → ((f g : Function) → Contains s f → Contains s g → f.slot ≡ g.slot → f ≡ g) → (slot : Slot) (reg : ℕ) (space : Space) (q : Region) → IsFoundIn s slot reg space q
    → (f : Function) (part : system.Part) (a : ℕ) → Contains s f → f.slot ≡ slot → register_of f part ≡ reg → Claims f part space a → is_cut_from given space q a ≡ is_cut_of given part space a f.slot
cut_at given s unique slot reg space q found f part a listed at named claims =
    let same : found.f ≡ f = unique found.f f found.listed listed (sym found.is.slot ∙ found.slot_is ∙ sym at) in
    let there : has_part f found.part ≡ true = subst (λ (x : Function). has_part x found.part ≡ true) same ((found.is.claims q.first).0 (omega arith, found.is.some)).there in
    let registers : register_of f found.part ≡ register_of f part = ap (λ x. register_of x found.part) (sym same) ∙ sym found.is.register ∙ found.register ∙ sym named in
    let part_is : found.part ≡ part = part_same f found.part part there claims.there registers in
    cut_of_region given space found.f found.part q found.is a
    ∙ ap (λ (x : Function). is_cut_of given found.part space a x.slot) same
    ∙ ap (λ p. is_cut_of given p space a f.slot) part_is
