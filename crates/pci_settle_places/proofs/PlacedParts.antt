-- What gets a place is a part: BARs that are left and ROMs that are off get none.
use Rattle.std.proofs.Common.{◌≡◌, ℕ, ◌<◌, inl, inr, List, [], ◌∷◌, Bool, true, false, cond, refl, sym, ◌∙◌, ap, subst, Some}
use Rattle.std.specs.Bool.{◌==◌}
use Rattle.std.specs.List.{Contains, find}
use Rattle.std.proofs.lemmas.Bool.{cases_Bool, both_ways, eqb-true}
use Rattle.pci_spec.specs.System.{System, Function, Space, Part, IsSystem, is_window, has_part, space_of}
use Rattle.pci_spec.specs.Bus.{IsNested}
use Rattle.pci_spec.proofs.Members.{in_head, in_tail}
use Rattle.settle_spec.specs.Lists.{Request}
use Rattle.settle_spec.specs.Parts.{FunctionPart, is_part}
use Rattle.settle_spec.specs.Stands.{rank}
use Rattle.settle_spec.specs.Items.{PlacingItem, Placed}
use Rattle.settle_spec.specs.Places.{placed_of}
use Rattle.settle_spec.specs.Kept.{Kept}
use Rattle.settle_spec.specs.Keeping.Places.{space_items, placing_on, new_place}
use Rattle.settle_laws.proofs.Keeping.Buses.{of_space}
use Rattle.pci_settle_places.proofs.Parts.{each_in, real_in, rank_one}
use Rattle.pci_settle_places.proofs.Reached.{item_here}

-- what a search finds is in the list, and passes its test
find_gives : {X : Type 0} (test : X → Bool) (xs : List X) (x : X) → find test xs ≡ Some x → Contains xs x × (test x ≡ true)
find_gives test [] x e = cc
find_gives test (y ∷ xs) x e = elim (cases_Bool (test y)) [
  | inl fine ↦
      let here : Some y ≡ Some x = sym (ap (λ b. cond b (Some y) (find test xs)) fine) ∙ e in
      let same : y ≡ x = cc in
      (subst (Contains (y ∷ xs)) same (in_head y xs), ap test (sym same) ∙ fine)
  | inr off ↦
      let more = find_gives test xs x (sym (ap (λ b. cond b (Some y) (find test xs)) off) ∙ e) in
      (in_tail y xs x more.0, more.1)
]

-- an item is a part, or a window
abbrev IsOfPart : Request → System → PlacingItem → Type 0
IsOfPart q s i = is_window i.region.part ≡ false → is_part q s i.region.function i.region.part ≡ true

part_in : (q : Request) (s : System) (keep : Kept) (space : Space) (bus : ℕ) (i : PlacingItem) → Contains (space_items q s keep space bus) i → IsOfPart q s i
part_in q s keep space bus = each_in q s keep space bus (IsOfPart q s) (λ c of f on p is plain. is.part) (λ c of f on is plain. absurd (both_ways true plain refl))

module _ (q : Request) (s : System) (keep : Kept) (system : IsSystem s) (nested : IsNested q.roots s) (f : Function) (listed : Contains s f) (low : f.slot.bus < 256) where
  pub placed_is_part : (part : Part) → has_part f part ≡ true → is_window part ≡ false → (p : Placed) → new_place q s keep record { function = f; part = part } ≡ Some p → is_part q s f part ≡ true
  placed_is_part part there plain p placed =
      let space = space_of f part in
      let bus = f.slot.bus in
      let region : FunctionPart = record { function = f; part = part } in
      let found = find_gives (λ (x : Placed). rank x.item.region == rank region) (placed_of (placing_on q s keep space bus)) p placed in
      let item = item_here q s keep system nested space bus low p found.0 in
      let real = real_in q s keep space bus p.item item in
      let of = of_space q s keep space bus p.item item in
      let one = rank_one s system p.item.region.function f p.item.region.part part of.listed listed real.there there (eqb-true (rank p.item.region) (rank region) found.1) in
      let own = part_in q s keep space bus p.item item (ap is_window one.part ∙ plain) in
      subst (λ o. is_part q s f o ≡ true) one.part (subst (λ g. is_part q s g p.item.region.part ≡ true) one.function own)
