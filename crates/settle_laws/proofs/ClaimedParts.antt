-- What claims an address is a part that is looked at, where I/O is off in each function with an I/O BAR that is left.
use Rattle.std.proofs.Common.{◌≡◌, ◌&&◌, ℕ, ◌<◌, inl, inr, true, false, not, sym, ◌∙◌, ap, subst}
use Rattle.std.specs.Bool.{nat_lt, if◌then◌else◌}
use Rattle.std.specs.List.{Contains}
use Rattle.std.proofs.lemmas.Bool.{and_from, and_parts, both_ways, cases_Bool, ltb-true, not_from_false}
use Rattle.std.proofs.lemmas.List.Elements.{All-contains}
use Rattle.pci_spec.specs.Header.{layout, bar_count}
use Rattle.pci_spec.specs.Bar.{bar_at, has_bar, is_io}
use Rattle.pci_spec.specs.Rom.{has_rom, rom_is_on}
use Rattle.pci_spec.specs.Decoded.{InRange, IsDecodable}
use Rattle.pci_spec.specs.System.{System, Function, IsSystem, Space, Io, Memory, Part, Bar, Rom, Window, Claims, is_implemented, is_space_on}
use Rattle.pci_spec.specs.Bus.{IsNested}
use Rattle.pci_spec.specs.Sound.{IsInProfile}
use Rattle.plan_spec.specs.Planning.Layout.{range_of}
use Rattle.plan_spec.proofs.PlanningLaws.{profile_decodes}
use Rattle.plan_spec.proofs.Planning.Behind.{any_from}
use Rattle.plan_spec.proofs.Planning.LaidOut.{place_of_claim}
use Rattle.settle_spec.specs.Lists.{Request}
use Rattle.settle_spec.specs.Parts.{system_parts, has_left, header_bars, is_left, is_part}
use Rattle.settle_laws.proofs.HeaderParts.{header_of}
use Rattle.settle_laws.proofs.Held.{bar_listed, claim_on}
use Rattle.settle_laws.proofs.Kept.{in_regions}

module _ (q : Request) (s : System) (system : IsSystem s) (nested : IsNested q.roots s) (profile : IsInProfile q.roots s) (off : (f : Function) → Contains s f → has_left q s f ≡ true → is_space_on f Io ≡ false) where
  pub decodable : (f : Function) → Contains s f → IsDecodable f
  decodable f listed = All-contains IsDecodable s f (profile_decodes q.roots s profile) listed

  unleft : (f : Function) (n : ℕ) (space : Space) (a : ℕ) → Contains s f → n < bar_count (layout f.image) → has_bar f.probe n ≡ true → Claims f (Bar n) space a → is_left q s f (Bar n) ≡ false
  unleft f n space a listed inside there claim = elim (cases_Bool (is_left q s f (Bar n))) [
    | inr fine ↦ fine
    | inl left ↦
        let io : is_io (bar_at f.probe n) ≡ true = (and_parts (is_io (bar_at f.probe n)) _ left).0 in
        let at : space ≡ Io = sym claim.maps ∙ ap (λ t. if t then Io else Memory) io in
        let has : has_left q s f ≡ true =
        any_from (λ p. is_implemented f p && is_left q s f p) (header_bars f) (Bar n) (bar_listed q s system nested f listed n inside) (and_from (has_bar f.probe n) (is_left q s f (Bar n)) there left) in
        absurd (both_ways (is_space_on f Io) (off f listed has) (subst (λ sp. is_space_on f sp ≡ true) at (claim_on f (Bar n) space a claim)))
  ]

  pub claimed_part : (f : Function) (p : Part) (space : Space) (a : ℕ) → Contains s f → Claims f p space a → is_part q s f p ≡ true
  claimed_part f (Bar n) space a listed claim =
      let item = (place_of_claim f (Bar n) space a (decodable f listed) claim).item in
      let parts = and_parts (nat_lt n (bar_count (layout f.image))) (has_bar f.probe n) item in
      and_from (has_bar f.probe n) (not (is_left q s f (Bar n))) parts.1 (not_from_false (is_left q s f (Bar n)) (unleft f n space a listed (ltb-true n (bar_count (layout f.image)) parts.0) parts.1 claim))
  claimed_part f Rom space a listed claim =
      and_from (has_rom f.image f.probe) (rom_is_on f.image) (place_of_claim f Rom space a (decodable f listed) claim).item (and_parts (is_space_on f Memory) (rom_is_on f.image) claim.enabled).1
  claimed_part f (Window c) space a listed claim = (place_of_claim f (Window c) space a (decodable f listed) claim).item

  pub claimed : (f : Function) (p : Part) (space : Space) (a : ℕ) → Contains s f → Claims f p space a → Contains (system_parts q s) record { function = f; part = p }
  claimed f p space a listed claim = in_regions q s f p listed (header_of f p claim.there) (claimed_part f p space a listed claim)

  pub in_range : (f : Function) (p : Part) (space : Space) (a : ℕ) → Contains s f → Claims f p space a → InRange (range_of f p) a
  in_range f p space a listed claim = (place_of_claim f p space a (decodable f listed) claim).range
