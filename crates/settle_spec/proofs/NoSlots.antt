-- Without slots no room is kept free: new windows, places and writes are those where none is wanted.
use Rattle.std.proofs.Common.{◌≡◌, Bool, true, false, cond, [], ◌∷◌, ap, ◌∙◌, refl, None}
use Rattle.pci_spec.specs.Window.{WindowKind}
use Rattle.pci_spec.specs.System.{System, Function}
use Rattle.settle_spec.specs.Lists.{Request}
use Rattle.settle_spec.specs.Items.{spare_of}
use Rattle.settle_spec.specs.Writes.{Settling, BadLists, Fixed, NoRoom, Settled, NotKept}
use Rattle.settle_spec.specs.Kept.{Kept, as_it_stands, growing}
use Rattle.settle_spec.specs.Keeping.Writes.{settle_keeping}
use Rattle.settle_spec.specs.Growing.{or_else, kept_by, settle_growing, finally_kept}
use Rattle.settle_spec.specs.Wishes.{Granted, with_all_spares}
use Rattle.settle_spec.specs.Sparing.{without_slots, is_settled, have_spares, granted_beside, settle_wished, settle_sparing}

either_way : {T : Type 0} (b : Bool) (p : T) → cond b p p ≡ p
either_way true p = refl
either_way false p = refl

module _ (q : Request) where
  no_spare : (c : WindowKind) (b : Function) → spare_of (without_slots q) c b ≡ None
  no_spare c b = refl

  -- no wish changes anything
  no_wishes : (p : Request) (s : System) (g : Granted) (more : System) → with_all_spares p s (spare_of (without_slots q)) g more ≡ g
  no_wishes p s g [] = refl
  no_wishes p s g (f ∷ more) = no_wishes p s g more

  -- what is kept in the end settles as growing does, or else as it stands
  ends_by : (p : Request) (s : System) (x : Settling) → settle_keeping p s (growing p s) ≡ x
      → settle_keeping p s (kept_by x (growing p s) (as_it_stands p s)) ≡ or_else x (settle_keeping p s (as_it_stands p s))
  ends_by p s (Settled writes) is = is
  ends_by p s BadLists is = refl
  ends_by p s (Fixed slot register) is = refl
  ends_by p s (NoRoom class slot register size alignment) is = refl
  ends_by p s (NotKept slot register) is = refl

  -- without slots what is settled with wishes is settled as growing does
  no_slots_wished : (s : System) → settle_wished (without_slots q) s ≡ settle_growing (without_slots q) s
  no_slots_wished s =
      let p = without_slots q in
      ap (λ (r : Request). settle_keeping r s (granted_beside p r s).kept) (either_way (have_spares p s) p)
      ∙ ap (λ (k : Kept). settle_keeping p s k) (ap (λ (g : Granted). g.kept) (no_wishes p s record { kept = finally_kept p s; denied = [] } s))
      ∙ ends_by p s (settle_keeping p s (growing p s)) refl

  pub no_slots_no_spares : (s : System) → settle_sparing (without_slots q) s ≡ settle_growing (without_slots q) s
  no_slots_no_spares s =
      let p = without_slots q in
      let alone = settle_growing p s in
      ap (λ x. cond (is_settled alone) x alone) (no_slots_wished s) ∙ either_way (is_settled alone) alone
