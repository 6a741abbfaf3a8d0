-- Items one after another, and those of a class added to others.
use Rattle.std.proofs.Common.{◌≡◌, ℕ, ◌+◌, ◌<◌, ◌≤◌, List, [], ◌∷◌, ◌++◌, map, take, length, get_or, append_assoc, arith, sym, ◌∙◌, ap, subst, Option}
use Rattle.std.specs.List.{All}
use Rattle.std.proofs.lemmas.List.{map-append, take_more, take_all, get_or-map, length-map}
use Rattle.std.proofs.lemmas.List.Elements.{All-append, All-map}
use Rattle.pci_spec.specs.System.{System}
use Rattle.pci_base.specs.declared.window_kind.WindowKind.{WindowKind as Class}
use Rattle.pci_base.specs.WindowKinds.{kind_value}
use Rattle.pci_place.proofs.Owned.{map_twice}
use Rattle.pci_first_fit.specs.declared.extent.Extent.{Extent}
use Rattle.pci_first_fit.specs.declared.item.Item.{Item}
use Rattle.pci_first_fit.specs.declared.own.Terms.{Terms}
use Rattle.pci_first_fit.specs.Turns.{HasExtent}
use Rattle.pci_first_fit.specs.Buses.{bus_listing, AreInTurn}
use Rattle.pci_first_fit.specs.NewWindows.{asking_of}
use Rattle.pci_settle_places.specs.Staying.{setting, classing}
use Rattle.pci_settle_places.specs.declared.candidate.Candidate.{Candidate}
use Rattle.pci_settle_places.specs.declared.staying.Staying.{Staying}
use Rattle.pci_settle_places.specs.Candidates.{of_class, candidate_value, HasAddressAndAlignment, AreAddedOf}

module _ {X Y : Type 0} (f : X → Y) (old : List Y) (xs : List X) where
  pub more_of : (n : ℕ) (d : X) (done new : List Y) → n < length xs → done ≡ old ++ take n (map f xs) → new ≡ done ++ f (get_or xs n d) ∷ [] → new ≡ old ++ take (n + 1) (map f xs)
  more_of n d done new within is put =
      let long = length-map xs f in
      put
      ∙ ap (λ ys. ys ++ f (get_or xs n d) ∷ []) is
      ∙ append_assoc old (take n (map f xs)) (f (get_or xs n d) ∷ [])
      ∙ ap (λ e. old ++ (take n (map f xs) ++ e ∷ [])) (sym (get_or-map f xs n d (f d) within))
      ∙ ap (λ ys. old ++ ys) (sym (take_more (map f xs) n (f d) (omega (arith, within, long))))

  pub all_of : (n : ℕ) (done : List Y) → length xs ≤ n → done ≡ old ++ take n (map f xs) → done ≡ old ++ map f xs
  all_of n done past is = let long = length-map xs f in is ∙ ap (λ ys. old ++ ys) (take_all n (map f xs) (omega (arith, past, long)))

module _ (s : System) (class : Class) (items : List Item) (old new : List Candidate) (added : new ≡ old ++ map (of_class class) items) where
  pub added_of : (roots : List ℕ) (t : Terms) (st : Staying) (windows : List (Option Extent)) (bus : ℕ) → AreInTurn (bus_listing (classing (setting roots s t st)) (kind_value class) bus windows st.left.kept.now) items
      → AreAddedOf (setting roots s t st) (kind_value class) windows bus old new
  added_of roots t st windows bus turn q keep stay has =
      ap (map (candidate_value s)) added
      ∙ map-append (candidate_value s) old (map (of_class class) items)
      ∙ ap (λ ys. map (candidate_value s) old ++ ys) (map_twice (candidate_value s) (of_class class) items ∙ turn (asking_of q s (kind_value class) keep.stays) record { left = stay.left; keeps_is = stay.keeps_is.stays_are; behind = has.behind bus })

  pub added_lawful : All HasExtent items → All HasAddressAndAlignment old → All HasAddressAndAlignment new
  added_lawful lawful before =
      subst (All HasAddressAndAlignment) (sym added) (All-append HasAddressAndAlignment old (map (of_class class) items) before (All-map HasAddressAndAlignment (of_class class) items (λ n d within. lawful n d within)))
