-- Settling what is settled changes nothing, so nothing is written.
use Rattle.settle_laws.specs.ToldAgainLaws.{AllLinesAreHeld}
use Rattle.std.proofs.Common.{◌≡◌, inl, inr, [], true, false, ◌&&◌, ◌||◌, not, sym, ◌∙◌, ap, subst, IsTrue}
use Rattle.std.specs.List.{Contains}
use Rattle.std.proofs.lemmas.Bool.{both_ways, cases_Bool, false_from_ne_true, not-true, or_left, or_right, and_from}
use Rattle.pci_spec.specs.System.{System, Function, Space, Io, is_space_on}
use Rattle.pci_spec.proofs.Members.{in_map_to, in_map_from, IsMade}
use Rattle.settle_spec.specs.Lists.{Request}
use Rattle.settle_spec.specs.Parts.{FunctionPart, system_parts, has_left, are_same_space}
use Rattle.settle_spec.specs.Stands.{stands}
use Rattle.settle_spec.specs.LiveLaws.{is_live, has_live_behind}
use Rattle.settle_spec.specs.Keeping.Registers.{got_place, settled, settled_image, settled_function}
use Rattle.settle_spec.specs.Keeping.Writes.{settle_writes}
use Rattle.settle_laws.specs.Keeping.PlacesLaws.{CanSettle}
use Rattle.settle_laws.proofs.Keeping.AgainCommand.{left_again, got_again}
use Rattle.settle_laws.proofs.Keeping.SameImage.{image_again}
use Rattle.settle_laws.proofs.StandingPlaces.{got_none, image_stays}
use Rattle.settle_laws.proofs.Keeping.Claimed.{on_now}
use Rattle.settle_laws.proofs.Keeping.Commands.{enabled_unleft}
use Rattle.settle_laws.proofs.Keeping.Moves.{new_system, new_nested}
use Rattle.settle_laws.proofs.Keeping.SettledAlready.{settled_already}
use Rattle.settle_laws.proofs.Keeping.SettledSound.{settled_sound}
use Rattle.settle_laws.specs.KeptLaws.{WishesNothing}
use Rattle.settle_laws.proofs.Keeping.Unchanged.{no_write}
use Rattle.settle_spec.specs.Kept.{Kept, as_it_stands}

-- what is left is off
pub all_left_off : (q : Request) (s : System) (k : Kept) → CanSettle q s k → (g : Function) → Contains (settled q s k) g → has_left q (settled q s k) g ≡ true → is_space_on g Io ≡ false
all_left_off q s k can g has left =
    let f : IsMade (settled_function q s k) s g = in_map_to (settled_function q s k) s g has in
    let new = settled_function q s k f.from in
    subst (λ x. is_space_on x Io ≡ false) f.is
    (false_from_ne_true (is_space_on new Io) (λ on.
    both_ways (has_left q s f.from) (not-true (has_left q s f.from) (enabled_unleft q s k f.from Io (sym (on_now q s k can f.from f.has Io) ∙ on)))
    (left_again q s k can f.from f.has ∙ ap (has_left q (settled q s k)) f.is ∙ left)))

-- All lines are `held`, and each part of the result stands, unless all is placed anew.
module _ (q : Request) (held : AllLinesAreHeld q) (s : System) (k : Kept) (can : CanSettle q s k)
    (stand : q.anew ≡ false → (r : FunctionPart) → Contains (system_parts q (settled q s k)) r → stands q (settled q s k) r ≡ true) where
  abbrev now : Function → Function
  now f = settled_function q s k f

  abbrev t : System
  t = settled q s k

  abbrev j : Kept
  j = as_it_stands q t

  -- ---- all is placed anew, or all stays

  image_same : (IsTrue q.anew → WishesNothing k) → (f : Function) → Contains s f → settled_image q t j (now f) ≡ (now f).image
  image_same rests f listed = elim (cases_Bool q.anew) [
    | inl anew ↦ image_again q held s k can anew (rests anew) f listed
    | inr kept ↦ image_stays q t (new_system q s k can) (new_nested q s k can) (stand kept) (now f) (in_map_from now s f listed)
  ]

  no_more : (space : Space) (f : Function) → Contains s f → got_place q t j space (now f) ≡ true → got_place q s k space f ≡ true
  no_more space f listed got = elim (cases_Bool q.anew) [
    | inl anew ↦ got_again q held s k can anew f listed space ∙ got
    | inr kept ↦ absurd (both_ways (got_place q t j space (now f)) (got_none q t (new_system q s k can) (new_nested q s k can) (stand kept) space (now f)) got)
  ]

  -- ---- what got a place is on

  pub got_on : (space : Space) (f : Function) → Contains s f → not (are_same_space space Io && has_left q t (now f)) ≡ true → got_place q t j space (now f) ≡ true → is_space_on (now f) space ≡ true
  got_on space f listed fine got =
      let behind = has_live_behind s (is_live q s k space) f in
      on_now q s k can f listed space
      ∙ and_from (not (are_same_space space Io && has_left q s f)) (is_space_on f space || got_place q s k space f || behind)
      (ap (λ b. not (are_same_space space Io && b)) (left_again q s k can f listed) ∙ fine)
      (or_left (is_space_on f space || got_place q s k space f) behind (or_right (is_space_on f space) (got_place q s k space f) (no_more space f listed got)))

  -- ---- so nothing changes

  abbrev of_old : (g : Function) → Contains t g → IsMade now s g
  of_old g has = in_map_to now s g has

  pub settled_again : (IsTrue q.anew → WishesNothing k) → settled q t j ≡ t
  settled_again rests =
      settled_already q held t j (new_system q s k can) (settled_sound q s k can)
      (all_left_off q s k can)
      (λ space g has fine got.
      let f : IsMade now s g = of_old g has in
      subst (λ x. is_space_on x space ≡ true) f.is (got_on space f.from f.has (ap (λ x. not (are_same_space space Io && has_left q t x)) f.is ∙ fine) (ap (got_place q t j space) f.is ∙ got)))
      (λ g has. let f : IsMade now s g = of_old g has in subst (λ x. settled_image q t j x ≡ x.image) f.is (image_same rests f.from f.has))

  pub none_again : (IsTrue q.anew → WishesNothing k) → settle_writes q t j ≡ []
  none_again rests = no_write q t j (new_system q s k can) (new_nested q s k can) (settled_again rests)
