-- Where all is placed anew, what is settled with wishes is settled with them again by no write.
use Rattle.settle_laws.proofs.Told.Wished.{settled_by_writes}
use Rattle.settle_laws.proofs.Keeping.AgainKept.{all_stand}
use Rattle.settle_laws.proofs.Told.OnlyHeld.{held_of}
use Rattle.std.proofs.Common.{◌≡◌, ◌&&◌, Bool, true, false, cond, not, [], ◌∷◌, refl, sym, ◌∙◌, ap, subst, None}
use Rattle.std.specs.Bool.{IsTrue}
use Rattle.std.specs.List.{AllZip, Contains, list_any}
use Rattle.std.specs.Option.{is_some}
use Rattle.std.proofs.Math.Path.{fun_ext}
use Rattle.pci_spec.specs.System.{System, Function, Io, Space, is_space_on}
use Rattle.pci_spec.proofs.Members.{in_map_from, in_map_to, IsMade}
use Rattle.settle_spec.specs.Lists.{Request, are_bad_lists}
use Rattle.settle_spec.specs.Parts.{FunctionPart, has_left, are_same_space}
use Rattle.settle_spec.specs.Stands.{part_space, stands}
use Rattle.settle_spec.specs.Items.{spare_of}
use Rattle.settle_spec.specs.Registers.{changing}
use Rattle.settle_spec.specs.Writes.{BadLists, Settled, fixed_without, fixed_write, or_fixed, or_lack, or_write}
use Rattle.settle_spec.specs.Kept.{Kept, no_wish, unwished, as_it_stands}
use Rattle.settle_spec.specs.Keeping.Places.{new_place, lacking}
use Rattle.settle_spec.specs.Keeping.Registers.{got_place, settled, settled_function, settled_image}
use Rattle.settle_spec.specs.Keeping.Writes.{settle_writes, settle_keeping}
use Rattle.settle_spec.specs.Wishes.{granted}
use Rattle.settle_spec.specs.Sparing.{is_settled}
use Rattle.settle_spec.proofs.Anew.{none_stays}
use Rattle.settle_laws.specs.KeptLaws.{WishesNothing}
use Rattle.settle_laws.specs.SparingLaws.{AnewWishesSettleOnce, AnewResultCanSettle}
use Rattle.settle_laws.specs.Keeping.PlacesLaws.{CanSettle}
use Rattle.settle_laws.proofs.Alike.{IsAlike}
use Rattle.settle_laws.proofs.AlikePlaces.{IsAlikePlaced, new_places_alike}
use Rattle.settle_laws.proofs.SettlingEnds.{IsEnd, ends}
use Rattle.settle_laws.proofs.SoundKept.{standing_is_sound}
use Rattle.settle_laws.proofs.Zipped.{BothOrNone, both_some}
use Rattle.settle_laws.proofs.Keeping.Again.{room_again}
use Rattle.settle_laws.proofs.Keeping.AgainSettled.{all_left_off, got_on}
use Rattle.settle_laws.proofs.Keeping.AnewAgain.{none_without}
use Rattle.settle_laws.proofs.Keeping.Kept.{none_kept}
use Rattle.settle_laws.proofs.Keeping.Moves.{new_system, new_nested, new_profile, new_chains}
use Rattle.settle_laws.proofs.Keeping.SameImage.{image_same}
use Rattle.settle_laws.proofs.Keeping.SettledAlready.{settled_already}
use Rattle.settle_laws.proofs.Keeping.SettledSound.{settled_sound}
use Rattle.settle_laws.proofs.Keeping.Unchanged.{no_write}
use Rattle.settle_laws.proofs.Keeping.Wishless.{got_same, lacking_same, new_same}
use Rattle.settle_laws.proofs.Wishing.AgainAnew.{again_placed, same}
use Rattle.settle_laws.proofs.Wishing.Alike.{granted_alike}
use Rattle.settle_laws.proofs.Wishing.Granted.{all_granted}
use Rattle.settle_laws.proofs.Untold.{settled_untold}

alike_itself : (f : Function) → IsAlike f f
alike_itself f = record { slot = refl; probe = refl; kind = refl; secondary = λ bridge. refl; subordinate = λ bridge. refl; rom = refl; on = refl }

to_itself : (u : System) → AllZip IsAlike u u
to_itself [] = tt
to_itself (f ∷ u) = (alike_itself f, to_itself u)

module _ (q asked : Request) (untold : q.told.ranges ≡ []) (s : System) (k : Kept) (could : CanSettle q s k) (anew : IsTrue q.anew) where
  abbrev i : Kept
  i = (granted q s (spare_of asked) k).kept

  abbrev t : System
  t = settled q s i

  abbrev now : Function → Function
  now f = settled_function q s i f

  can_s : CanSettle q s i
  can_s = (all_granted q asked s k could).can

  pub standing_can : CanSettle q t (as_it_stands q t)
  standing_can = record {
    lists = can_s.lists;
    high = can_s.high;
    system = new_system q s i can_s;
    nested = new_nested q s i can_s;
    profile = new_profile q s i can_s;
    chains = new_chains q s i can_s;
    sound = standing_is_sound q t (new_system q s i can_s) (new_nested q s i can_s) (new_profile q s i can_s);
    room = room_again q (held_of q untold) s i can_s anew;
  }

  module _ (wishless : WishesNothing k) (m : Kept) (can_t : CanSettle q t m) (without : WishesNothing m) where
    abbrev j : Kept
    j = (granted q t (spare_of asked) m).kept

    can_j : CanSettle q t j
    can_j = (all_granted q asked t m can_t).can

    beside : unwished j ≡ unwished m
    beside = granted_alike q t (spare_of asked) m

    moves : (r : FunctionPart) → m.stays r ≡ false
    moves = none_kept q (held_of q untold) t m can_t anew

    none : (r : FunctionPart) → j.stays r ≡ false
    none r = ap (λ (x : Kept). x.stays r) beside ∙ moves r

    place_is : (r : FunctionPart) → new_place q t j r ≡ new_place q t m r
    place_is r = sym (new_same q t j no_wish r) ∙ ap (λ x. new_place q t x r) beside ∙ new_same q t m no_wish r

    -- what gets a place does so as it stands
    some_is : (r : FunctionPart) → is_some (new_place q t m r) ≡ is_some (new_place q t (as_it_stands q t) r)
    some_is r = both_some IsAlikePlaced (new_place q t m r) (new_place q t (as_it_stands q t) r)
        (new_places_alike q anew t t (to_itself t) m (as_it_stands q t) moves (none_stays q t anew untold) r r record { function = alike_itself r.function; part = refl })

    got_is : (space : Space) (g : Function) → got_place q t j space g ≡ got_place q t (as_it_stands q t) space g
    got_is space g =
        sym (got_same q t j no_wish space g) ∙ ap (λ x. got_place q t x space g) beside ∙ got_same q t m no_wish space g
        ∙ ap (λ has. list_any (λ r. are_same_space space (part_space r) && has r) (changing q t g)) (fun_ext some_is)

    image_of : (f : Function) → Contains s f → settled_image q t j (now f) ≡ (now f).image
    image_of f listed =
        let all = same q asked untold s k m could anew wishless without moves in
        image_same q (held_of q untold) s i can_s anew j none f listed (λ p. all.kept.range f p listed)
        (λ p there plain. can_j.sound.wished.plain record { function = now f; part = p } (in_map_from now s f listed) there plain)
        (λ p. subst (BothOrNone IsAlikePlaced (new_place q s i record { function = f; part = p })) (sym (place_is record { function = now f; part = p })) (again_placed q asked untold s k m could anew wishless without moves f p listed))

    settled_same : settled q t j ≡ t
    settled_same =
        settled_already q (held_of q untold) t j (new_system q s i can_s) (settled_sound q s i can_s) (all_left_off q s i can_s)
        (λ space g has fine got.
        let f : IsMade now s g = in_map_to now s g has in
        subst (λ x. is_space_on x space ≡ true) f.is
        (got_on q (held_of q untold) s i can_s (all_stand q untold s i can_s) space f.from f.has (ap (λ x. not (are_same_space space Io && has_left q t x)) f.is ∙ fine) (ap (got_place q t (as_it_stands q t) space) f.is ∙ sym (got_is space g) ∙ got)))
        (λ g has. let f : IsMade now s g = in_map_to now s g has in subst (λ x. settled_image q t j x ≡ x.image) f.is (image_of f.from f.has))

    unwritten : settle_writes q t j ≡ []
    unwritten = no_write q t j (new_system q s i can_s) (new_nested q s i can_s) settled_same

    -- ---- so it is settled

    module _ (settles : is_settled (settle_keeping q s i) ≡ true) where
      end : IsEnd (are_bad_lists q.roots q.lists) (fixed_without (stands q s) q s) (lacking q s i) (fixed_write q (settle_writes q s i)) (settle_writes q s i) (settle_writes q s i)
      end = ends (are_bad_lists q.roots q.lists) (fixed_without (stands q s) q s) (fixed_without i.stays q s) (lacking q s i) (fixed_write q (settle_writes q s i)) (settle_writes q s i) (settle_writes q s i) (sym (settled_untold q untold s i) ∙ settled_by_writes q s i settles)

      unfixed : (test : FunctionPart → Bool) → fixed_without test q t ≡ None
      unfixed = none_without q (held_of q untold) s i can_s anew end.stand end.unwritten

      room : lacking q t j ≡ None
      room = sym (lacking_same q t j no_wish) ∙ ap (lacking q t) beside ∙ lacking_same q t m no_wish ∙ can_t.room

      pub once : settle_keeping q t j ≡ Settled []
      once =
          settled_untold q untold t j
          ∙ ap (λ b. cond b BadLists (or_fixed (fixed_without (stands q t) q t) (or_fixed (fixed_without j.stays q t)
          (or_lack (lacking q t j) (or_write (fixed_write q (settle_writes q t j)) (Settled (settle_writes q t j))))))) can_s.lists
          ∙ ap (λ o. or_fixed o (or_fixed (fixed_without j.stays q t) (or_lack (lacking q t j) (or_write (fixed_write q (settle_writes q t j)) (Settled (settle_writes q t j)))))) (unfixed (stands q t))
          ∙ ap (λ o. or_fixed o (or_lack (lacking q t j) (or_write (fixed_write q (settle_writes q t j)) (Settled (settle_writes q t j))))) (unfixed j.stays)
          ∙ ap (λ o. or_lack o (or_write (fixed_write q (settle_writes q t j)) (Settled (settle_writes q t j)))) room
          ∙ ap (λ ws. or_write (fixed_write q ws) (Settled ws)) unwritten

-- The laws: what is settled with wishes is settled with them again by no write, and can be as it stands.
pub anew_wishes_settle_once : AnewWishesSettleOnce
anew_wishes_settle_once q asked untold s k m could anew wishless without can_t settles = once q asked untold s k could anew wishless m can_t without settles

pub anew_result_can_settle : AnewResultCanSettle
anew_result_can_settle q asked untold s k could anew = standing_can q asked untold s k could anew
