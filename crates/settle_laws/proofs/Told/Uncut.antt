-- Where an address is passed to a bus the bridges above are on: so they are above a BAR or ROM that is on in a sound system.
use Rattle.std.proofs.Common.{◌≡◌, ◌&&◌, ℕ, Bool, true, false, not, sym, ◌∙◌, ap, subst}
use Rattle.std.specs.List.{Contains, filter}
use Rattle.std.proofs.lemmas.Bool.{and_parts, not-true}
use Rattle.std.proofs.lemmas.List.Elements.{All-contains}
use Rattle.pci_spec.specs.Decoded.{IsDecodable}
use Rattle.pci_spec.specs.System.{System, Function, IsSystem, Space, Part, Claims, IsPassedTo, is_prefetchable_part, is_space_on, is_window, passes, space_of, window_space}
use Rattle.pci_spec.specs.Bus.{IsNested}
use Rattle.pci_spec.specs.Sound.{IsInProfile}
use Rattle.pci_spec.proofs.BusRanges.{all_gives}
use Rattle.pci_spec.proofs.Members.{in_filter_to, in_map_to, IsMade}
use Rattle.pci_spec.proofs.Nesting.{one_function}
use Rattle.pci_spec.proofs.Ways.{behind_is_on_the_way}
use Rattle.plan_spec.specs.Plan.{bridges_above}
use Rattle.plan_spec.specs.Planning.Layout.{range_of}
use Rattle.plan_spec.proofs.PlanningLaws.{profile_decodes}
use Rattle.plan_spec.proofs.Planning.AboveBuses.{above_to}
use Rattle.plan_spec.proofs.Planning.Behind.{Passes, any_gives}
use Rattle.plan_spec.proofs.Planning.Kept.{images_of}
use Rattle.settle_spec.specs.Lists.{Request}
use Rattle.settle_spec.specs.Parts.{FunctionPart, function_parts, is_part, header_parts, are_same_space}
use Rattle.settle_spec.specs.Stands.{part_space}
use Rattle.settle_laws.proofs.ItemForms.{header_has}
use Rattle.settle_laws.proofs.Kept.{one_space}
use Rattle.settle_laws.proofs.SettledAlready.{claims_first}
use Rattle.settle_laws.proofs.SettledSound.{passed_by}
use Rattle.settle_laws.proofs.Unleft.{has_plain}

module _ (q : Request) (s : System) (system : IsSystem s) (nested : IsNested q.roots s) where
  pub passed_on : (space : Space) (prefetchable : Bool) (a bus : ℕ) → IsPassedTo q.roots s space prefetchable a bus → (b : Function) → Contains (bridges_above s bus) b → is_space_on b space ≡ true
  passed_on space prefetchable a bus way b above =
      let is = above_to s bus b above in
      let on_it = (behind_is_on_the_way q.roots s nested (one_function s system) way.0 way.2 bus way.1 way.3 b is.listed is.bridge).1 is.behind in
      let passed = passed_by space prefetchable a b (all_gives (passes space prefetchable a) way.2 way.4 b on_it) in
      subst (λ sp. is_space_on b sp ≡ true) passed.at (and_parts (is_space_on b (window_space passed.class)) _ passed.claims).0

  module _ (profile : IsInProfile q.roots s) (home : (f : Function) (p : Part) (space : Space) (a : ℕ) → Contains s f → is_window p ≡ false → Claims f p space a → IsPassedTo q.roots s space (is_prefetchable_part f p) a f.slot.bus) where
    -- a BAR or ROM that is on claims its first address
    pub plain_on : (space : Space) (f : Function) → Contains s f → has_plain q s space f ≡ true → is_space_on f space ≡ true → (b : Function) → Contains (bridges_above s f.slot.bus) b → is_space_on b space ≡ true
    plain_on space f listed own on =
        let test = λ (r : FunctionPart). are_same_space space (part_space r) && not (is_window r.part) in
        let found : Passes test (function_parts q s f) = any_gives test (function_parts q s f) own in
        let made : IsMade (λ p. record { function = f; part = p }) (filter (is_part q s f) (header_parts f)) found.x = in_map_to (λ p. record { function = f; part = p }) (filter (is_part q s f) (header_parts f)) found.x found.listed in
        let p = made.from in
        let part = in_filter_to (is_part q s f) (header_parts f) p made.has in
        let is = and_parts (are_same_space space (space_of f p)) (not (is_window p)) (ap test made.is ∙ found.is) in
        let plain = not-true (is_window p) is.1 in
        let at = one_space space (space_of f p) is.0 in
        let fine = All-contains IsDecodable s f (profile_decodes q.roots s profile) listed in
        let a = (range_of f p).first in
        let claims = subst (λ sp. Claims f p sp a) (sym at) (claims_first q s f p (images_of s system f listed) fine (header_has f p part.0 plain) part.1 (ap (is_space_on f) (sym at) ∙ on)) in
        passed_on space (is_prefetchable_part f p) a f.slot.bus (home f p space a listed plain claims)
