-- The line of a region is what the definitions say; the bridges on a way.
use Rattle.std.proofs.Common.{◌≡◌, ℕ, List, [], ◌∷◌, ◌++◌, refl, sym, ◌∙◌, ap, subst, arith, inl, inr, Bool, true, Some}
use Rattle.std.specs.Prelude.{◌&&◌, if◌then◌else◌}
use Rattle.std.specs.List.{Contains}
use Rattle.pci_spec.specs.Header.{secondary_bus}
use Rattle.pci_spec.specs.Window.{WindowKind, IoWindow, MemoryWindow, PrefetchWindow}
use Rattle.pci_spec.specs.System.{System, Function, Space, Memory, Leads, is_bridge}
use Rattle.pci_spec.specs.System as system
use Rattle.pci_spec.specs.Decoded.{record_of, bridge_of}
use Rattle.pci_spec.specs.Listing.{inner_line}
use Rattle.pci_spec.specs.Why.{part_text, place_words}
use Rattle.pci_spec.proofs.Members.{in_nil, in_cons_cases}
use Rattle.pci_tree.specs.declared.region.Region.{Region}
use Rattle.pci_tree.specs.declared.region.Part.{Part}
use Rattle.pci_tree.specs.Regions.{IsRegionOf, is_of_window, name_of}
use Rattle.pci_tree.proofs.RegionParts.{window_named}
use Rattle.judge_spec.specs.Given.{Given, is_cut}
use Rattle.judge_spec.specs.Claims.{is_cut_of}
use Rattle.judge_spec.specs.Why.{Own, isa_words, isa_words_of}
use Rattle.judge_spec.specs.Why.{region_line as given_region_line}
use Rattle.pci_claims.specs.Claim.{is_cut_from}
use Rattle.pci_why.specs.RegionLines.{words_of, window_at, given_line_of, isa_words_at}
use Rattle.pci_claims.specs.Found.{bounds_range, region_of_found}

-- ---- a region

window_by_register : (kind : WindowKind) (n : ℕ) (space : Space) (prefetch : Bool) → n ≡ system.register_of (record { slot = record { bus = 0; device = 0; function = 0 }; image = []; probe = [] }) (system.Window kind)
    → window_at n ≡ part_text (system.Window kind) space prefetch
window_by_register IoWindow n space prefetch e = rw e refl
window_by_register MemoryWindow n space prefetch e = rw e refl
window_by_register PrefetchWindow n space prefetch e = rw e refl

named_words : (f : Function) (part : system.Part) (space : Space) (p : Part) (reg : ℕ) (prefetch : Bool) → p ≡ name_of part → reg ≡ system.register_of f part
    → prefetch ≡ system.is_prefetchable_part f part → system.space_of f part ≡ space → words_of p reg space prefetch ≡ part_text part space prefetch
named_words f (system.Bar n) space p reg prefetch e named is maps = ap (λ x. words_of x reg space prefetch) e
named_words f system.Rom space p reg prefetch e named is maps =
    ap (λ x. words_of x reg space prefetch) e ∙ ap (λ b. part_text system.Rom Memory b) (sym is) ∙ ap (λ sp. part_text system.Rom sp prefetch) maps
named_words f (system.Window kind) space p reg prefetch e named is maps =
    ap (λ x. words_of x reg space prefetch) e ∙ window_by_register kind reg space prefetch named

maps_of : (f : Function) (part : system.Part) (space : Space) (q : Region) → IsRegionOf f part space q → system.space_of f part ≡ space
maps_of f part space q is = ((is.claims q.first).0 (omega arith, is.some)).maps

-- ISA Enable takes from it what it takes from its part
pub cut_of_part : (given : Given) (space : Space) (f : Function) (part : system.Part) (q : Region) → IsRegionOf f part space q → (a : ℕ) → is_cut_from given space q a ≡ is_cut_of given part space a q.slot
cut_of_part given space f part q is a = ap (λ p. is_of_window p && is_cut given space a q.slot) is.named ∙ ap (λ b. b && is_cut given space a q.slot) (sym (window_named part))

isa_words_same : (given : Given) (space : Space) (f : Function) (part : system.Part) (q : Region) → IsRegionOf f part space q → isa_words_at given space q ≡ isa_words_of given part space q.slot
isa_words_same given space f part q is =
    ap (λ p. if is_of_window p then isa_words given space q.slot else []) is.named ∙ ap (λ b. if b then isa_words given space q.slot else []) (sym (window_named part))

pub given_line_same : (given : Given) (word : List ℕ) (f : Function) (part : system.Part) (space : Space) (q : Region) → IsRegionOf f part space q → given_line_of given word space q ≡ given_region_line given word (Own (region_of_found q part space))
given_line_same given word f part space q is =
    ap (λ words. inner_line (word ∷ place_words q.slot q.reg words space (bounds_range q) ++ isa_words_at given space q))
    (named_words f part space q.part q.reg q.prefetch is.named is.register is.prefetch (maps_of f part space q is))
    ∙ ap (λ ws. inner_line (word ∷ place_words q.slot q.reg (part_text part space q.prefetch) space (bounds_range q) ++ ws)) (isa_words_same given space f part q is)

-- ---- a bridge

pub on_the_way : (s : System) (from : ℕ) (bridges : List Function) (to : ℕ) (b : Function) → Leads s from bridges to → Contains bridges b → Contains s b × (is_bridge b ≡ true)
on_the_way s from [] to b leads has = absurd (in_nil b has)
on_the_way s from (c ∷ bridges) to b (listed, is, at, more) has = elim (in_cons_cases c bridges b has) [
  | inl same ↦ (subst (Contains s) same listed, subst (λ (x : Function). is_bridge x ≡ true) same is)
  | inr later ↦ on_the_way s (secondary_bus c.image) bridges to b more later
]

pub bridge_in : (b : Function) → is_bridge b ≡ true → (record_of b).bridge ≡ Some (bridge_of b.image b.probe)
bridge_in b is = rw is refl
