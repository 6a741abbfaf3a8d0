-- Where every part stands, and nothing is left, settling writes nothing, whatever is fixed: with windows that grow, and without.
use Rattle.settle_laws.proofs.Told.OnlyHeld.{held_of}
use Rattle.std.proofs.Common.{◌≡◌, ◌&&◌, List, [], ◌∷◌, Bool, true, false, cond, not, refl, ◌∙◌, ap, Some, None}
use Rattle.std.specs.List.{Contains, find}
use Rattle.std.proofs.lemmas.Bool.{and_right, both_ways}
use Rattle.pci_spec.specs.System.{System, Function, IsSystem, Io, is_space_on}
use Rattle.pci_spec.specs.Sound.{IsSound}
use Rattle.pci_spec.proofs.Members.{in_head, in_tail}
use Rattle.settle_spec.specs.Lists.{Request, are_bad_lists}
use Rattle.settle_spec.specs.Parts.{FunctionPart, system_parts, addresses, is_part, has_left}
use Rattle.settle_spec.specs.Stands.{is_fixed_part, stands}
use Rattle.settle_spec.specs.Items.{stays}
use Rattle.settle_spec.specs.Writes.{BadLists, Settled, fixed_without, fixed_write, or_fixed, or_lack, or_write}
use Rattle.settle_spec.specs.Kept.{Kept, as_it_stands, stays_growing, growing}
use Rattle.settle_spec.specs.Keeping.Places.{lacking}
use Rattle.settle_spec.specs.Keeping.Registers.{settled, got_place}
use Rattle.settle_spec.specs.Keeping.Writes.{settle_writes, settle_keeping}
use Rattle.settle_spec.specs.Growing.{or_else, settle_growing}
use Rattle.settle_spec.proofs.Grown.{growth_keeps}
use Rattle.settle_laws.proofs.GrowingKept.{growing_stands}
use Rattle.settle_laws.proofs.Standing.{stands_by_itself}
use Rattle.settle_laws.proofs.AllStand.{all_stay}
use Rattle.settle_laws.proofs.GrownAlready.{none_grows}
use Rattle.settle_laws.proofs.Untold.{settled_untold}
use Rattle.settle_laws.proofs.Kept.{stays_part}
use Rattle.settle_laws.proofs.Keeping.SettledAlready.{settled_already}
use Rattle.settle_laws.proofs.Keeping.Standing.{none_lacks, got_none, image_stays}
use Rattle.settle_laws.specs.KeptLaws.{WishesNothing}
use Rattle.settle_laws.proofs.Keeping.Unchanged.{no_write}

pub find_none : {X : Type 0} (test : X → Bool) (xs : List X) → ((x : X) → Contains xs x → test x ≡ false) → find test xs ≡ None
find_none test [] none = refl
find_none test (x ∷ xs) none = ap (λ b. cond b (Some x) (find test xs)) (none x (in_head x xs)) ∙ find_none test xs (λ y listed. none y (in_tail x xs y listed))

module _ (q : Request) (untold : q.told.ranges ≡ []) (t : System) (system : IsSystem t) (sound : IsSound q.roots t) (all : (r : FunctionPart) → Contains (system_parts q t) r → stands q t r ≡ true)
    (off : (f : Function) → Contains t f → has_left q t f ≡ true → is_space_on f Io ≡ false) where
  none_without : (test : FunctionPart → Bool) → ((r : FunctionPart) → Contains (system_parts q t) r → test r ≡ true) → fixed_without test q t ≡ None
  none_without test each = find_none (λ r. is_fixed_part q r && not (test r)) (system_parts q t) (λ r listed. and_right (is_fixed_part q r) (not (test r)) (ap not (each r listed)))

  -- beside what stays so
  module _ (k : Kept) (keeps : (r : FunctionPart) → Contains (system_parts q t) r → k.stays r ≡ true) (same : (r : FunctionPart) → Contains (system_parts q t) r → k.range r ≡ addresses r)
      (only : (r : FunctionPart) → Contains t r.function → k.stays r ≡ true → is_part q t r.function r.part ≡ true) (wishless : WishesNothing k) where
    stays_as_it_is : settled q t k ≡ t
    stays_as_it_is =
        settled_already q (held_of q untold) t k system sound off
        (λ space f listed fine got. absurd (both_ways (got_place q t k space f) (got_none q t k system sound.nested all keeps same only wishless space f) got))
        (image_stays q t k system sound.nested all keeps same only wishless)

    no_writes : settle_writes q t k ≡ []
    no_writes = no_write q t k system sound.nested stays_as_it_is

    nothing_kept : are_bad_lists q.roots q.lists ≡ false → settle_keeping q t k ≡ Settled []
    nothing_kept fine =
        settled_untold q untold t k
        ∙ ap (λ b. cond b BadLists (or_fixed (fixed_without (stands q t) q t) (or_fixed (fixed_without k.stays q t)
        (or_lack (lacking q t k) (or_write (fixed_write q (settle_writes q t k)) (Settled (settle_writes q t k))))))) fine
        ∙ ap (λ o. or_fixed o (or_fixed (fixed_without k.stays q t) (or_lack (lacking q t k) (or_write (fixed_write q (settle_writes q t k)) (Settled (settle_writes q t k)))))) (none_without (stands q t) all)
        ∙ ap (λ o. or_fixed o (or_lack (lacking q t k) (or_write (fixed_write q (settle_writes q t k)) (Settled (settle_writes q t k))))) (none_without k.stays keeps)
        ∙ ap (λ o. or_lack o (or_write (fixed_write q (settle_writes q t k)) (Settled (settle_writes q t k)))) (none_lacks q t k system sound.nested all keeps same only wishless)
        ∙ ap (λ ws. or_write (fixed_write q ws) (Settled ws)) no_writes

  -- ---- as it stands

  keeps_standing : (r : FunctionPart) → Contains (system_parts q t) r → stays q t r ≡ true
  keeps_standing = all_stay q t system sound.nested all

  -- what stands is a start that stays
  pub start_stays : settled q t (as_it_stands q t) ≡ t
  start_stays = stays_as_it_is (as_it_stands q t) keeps_standing (λ r listed. refl) (stays_part q t system sound.nested) refl

  pub start_unwritten : settle_writes q t (as_it_stands q t) ≡ []
  start_unwritten = no_writes (as_it_stands q t) keeps_standing (λ r listed. refl) (stays_part q t system sound.nested) refl

  -- The law: nothing is written.
  pub nothing_settled : are_bad_lists q.roots q.lists ≡ false → settle_keeping q t (as_it_stands q t) ≡ Settled []
  nothing_settled = nothing_kept (as_it_stands q t) keeps_standing (λ r listed. refl) (stays_part q t system sound.nested) refl

  -- ---- where windows grow

  pub keeps_growing : (r : FunctionPart) → Contains (system_parts q t) r → stays_growing q t r ≡ true
  keeps_growing r listed = growth_keeps q t r (keeps_standing r listed)

  pub only_growing : (r : FunctionPart) → Contains t r.function → stays_growing q t r ≡ true → is_part q t r.function r.part ≡ true
  only_growing r listed is = (stands_by_itself q t sound.nested).only r listed (growing_stands q t r is)

  pub grown_stays : settled q t (growing q t) ≡ t
  grown_stays = stays_as_it_is (growing q t) keeps_growing (none_grows q t system sound.nested all) only_growing refl

  pub grown_unwritten : settle_writes q t (growing q t) ≡ []
  grown_unwritten = no_writes (growing q t) keeps_growing (none_grows q t system sound.nested all) only_growing refl

  pub grown_settles : are_bad_lists q.roots q.lists ≡ false → settle_keeping q t (growing q t) ≡ Settled []
  grown_settles = nothing_kept (growing q t) keeps_growing (none_grows q t system sound.nested all) only_growing refl

  -- The law: nothing is written.
  pub nothing_grows : are_bad_lists q.roots q.lists ≡ false → settle_growing q t ≡ Settled []
  nothing_grows fine = ap (λ o. or_else o (settle_keeping q t (as_it_stands q t))) (grown_settles fine)
