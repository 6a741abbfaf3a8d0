-- The same I/O BARs are left again, and where all is placed anew the same gets a place.
use Rattle.settle_laws.specs.ToldAgainLaws.{AllLinesAreHeld}
use Rattle.std.proofs.Common.{◌≡◌, ◌&&◌, ◌||◌, ℕ, List, [], ◌∷◌, map, Bool, true, false, not, refl, sym, ◌∙◌, ap}
use Rattle.std.specs.Bool.{IsTrue, ◌==◌}
use Rattle.std.specs.List.{Contains, filter, list_any, range_with_len}
use Rattle.std.specs.Option.{is_some}
use Rattle.pci_spec.specs.Header.{layout, bar_count}
use Rattle.pci_spec.specs.Bar.{has_bar}
use Rattle.pci_spec.specs.Window.{has_window, is_closed}
use Rattle.pci_spec.specs.System.{System, Function, Space, Part, Bar, Rom, Window, space_of, is_bridge, is_implemented}
use Rattle.settle_spec.specs.Lists.{Request}
use Rattle.settle_spec.specs.Parts.{is_left, header_parts, has_left, are_same_space}
use Rattle.settle_spec.specs.Stands.{part_space}
use Rattle.settle_spec.specs.Keeping.Places.{new_place}
use Rattle.settle_spec.specs.Keeping.Registers.{got_place, settled, settled_function}
use Rattle.settle_laws.specs.Keeping.PlacesLaws.{CanSettle}
use Rattle.settle_laws.proofs.Keeping.Again.{settled_alike, all_alike, again_alike}
use Rattle.settle_laws.proofs.Alike.{IsAlike, header_alike, space_alike, left_alike, part_alike, first_some}
use Rattle.settle_laws.proofs.AlikePlaces.{IsAlikePlaced}
use Rattle.settle_laws.proofs.Shown.{can_change}
use Rattle.settle_laws.proofs.Zipped.{both_some}
use Rattle.settle_spec.specs.Kept.{Kept, as_it_stands}

pub any_bars : (p r : Part → Bool) → ((n : ℕ) → p (Bar n) ≡ r (Bar n)) → (ns : List ℕ) → list_any p (map Bar ns) ≡ list_any r (map Bar ns)
any_bars p r same [] = refl
any_bars p r same (n ∷ ns) = (let here = same n in let rest = any_bars p r same ns in λ i. here i || rest i)

-- an open window is implemented
implemented : (a there : Bool) → ((a && there) || a) ≡ a
implemented true true = refl
implemented true false = refl
implemented false there = refl

module _ (q : Request) (s : System) (k : Kept) (can : CanSettle q s k) (f : Function) (listed : Contains s f) where
  pub left_again : has_left q s f ≡ has_left q (settled q s k) (settled_function q s k f)
  left_again =
      let u = settled q s k in
      let g = settled_function q s k f in
      let is : IsAlike f g = settled_alike q s k can f listed in
      any_bars (λ p. is_implemented f p && is_left q s f p) (λ p. is_implemented g p && is_left q u g p)
      (λ n. let left = left_alike q s u (all_alike q s k can) f g is (Bar n) in ap (λ b. has_bar f.probe n && b) left) (range_with_len 0 (bar_count (layout f.image)))
      ∙ ap (λ k. list_any (λ p. is_implemented g p && is_left q u g p) (map Bar (range_with_len 0 (bar_count k)))) is.kind

-- ---- where all is placed anew the same gets a place

module _ (q : Request) (held : AllLinesAreHeld q) (s : System) (k : Kept) (can : CanSettle q s k) where
  abbrev t : System
  t = settled q s k

  abbrev j : Kept
  j = as_it_stands q t

  abbrev now : Function → Function
  now f = settled_function q s k f

  module _ (anew : IsTrue q.anew) (f : Function) (listed : Contains s f) where
    pub change_again : (p : Part) → can_change q s f p ≡ can_change q t (now f) p
    change_again (Bar n) = (let part = part_alike q s t (all_alike q s k can) f (now f) (settled_alike q s k can f listed) (Bar n) refl in ap (λ b. b || false) part)
    change_again Rom = (let part = part_alike q s t (all_alike q s k can) f (now f) (settled_alike q s k can f listed) Rom refl in ap (λ b. b || false) part)
    change_again (Window c) =
        implemented (is_bridge f && has_window c f.probe) (not (is_closed c f.image))
        ∙ ap (λ k. k == 1 && has_window c f.probe) (settled_alike q s k can f listed).kind
        ∙ sym (implemented (is_bridge (now f) && has_window c f.probe) (not (is_closed c (now f).image)))

    module _ (space : Space) where
      got_same : (p : Part) → (are_same_space space (space_of f p) && is_some (new_place q s k record { function = f; part = p })) ≡ (are_same_space space (space_of (now f) p) && is_some (new_place q t j record { function = now f; part = p }))
      got_same p =
          let sp = space_alike f (now f) (settled_alike q s k can f listed) p in
          let has = both_some IsAlikePlaced (new_place q s k record { function = f; part = p }) (new_place q t j record { function = now f; part = p }) (again_alike q held s k can anew f p listed) in
          λ i. are_same_space space (sp i) && has i

      got_each : (ps : List Part)
          → list_any (λ r. are_same_space space (part_space r) && is_some (new_place q s k r)) (map (λ p. record { function = f; part = p }) (filter (can_change q s f) ps))
          ≡ list_any (λ r. are_same_space space (part_space r) && is_some (new_place q t j r)) (map (λ p. record { function = now f; part = p }) (filter (can_change q t (now f)) ps))
      got_each [] = refl
      got_each (p ∷ ps) =
          let may = change_again p in
          let it = got_same p in
          let rest = got_each ps in
          first_some (λ p. record { function = f; part = p }) (λ r. are_same_space space (part_space r) && is_some (new_place q s k r)) p (filter (can_change q s f) ps) (can_change q s f p)
          ∙ (λ i. (may i && it i) || rest i)
          ∙ sym (first_some (λ p. record { function = now f; part = p }) (λ r. are_same_space space (part_space r) && is_some (new_place q t j r)) p (filter (can_change q t (now f)) ps) (can_change q t (now f) p))

      pub got_again : got_place q s k space f ≡ got_place q t j space (now f)
      got_again =
          got_each (header_parts f)
          ∙ ap (λ ps. list_any (λ r. are_same_space space (part_space r) && is_some (new_place q t j r)) (map (λ p. record { function = now f; part = p }) (filter (can_change q t (now f)) ps))) (header_alike f (now f) (settled_alike q s k can f listed))
