-- Which lines endings name, and that growth refuses nothing.
use Rattle.std.proofs.Common.{◌≡◌, ℕ, zero, suc, ◌∷◌, List, [], length, Bool, true, false, ap, subst, ◌∙◌, sym, inl, inr, refl, Option, None, Some, find}
use Rattle.std.specs.Bool.{if◌then◌else◌}
use Rattle.std.specs.List.{Contains}
use Rattle.std.proofs.lemmas.Bool.{cases_Bool, or_cases, and_parts, not-true, cond-true, cond-false, false≢true}
use Rattle.pci_spec.specs.Slot.{Slot}
use Rattle.pci_spec.specs.System.{System}
use Rattle.pci_spec.specs.Machine.{Write}
use Rattle.pci_spec.proofs.Members.{in_head, in_tail}
use Rattle.judge_spec.specs.Told.{Mark, Command, Always, Held}
use Rattle.judge_spec.specs.ToldClaims.{is_marked_held}
use Rattle.judge_spec.specs.ToldRegion.{ToldRegion, told_regions}
use Rattle.settle_spec.specs.Lists.{Request, are_bad_lists}
use Rattle.settle_spec.specs.Parts.{FunctionPart}
use Rattle.settle_spec.specs.Lines.{is_held_line, is_marked_command, is_marked_always}
use Rattle.settle_spec.specs.Stands.{stands, range_stands_within}
use Rattle.settle_spec.specs.Items.{PlacingItem}
use Rattle.settle_spec.specs.Writes.{Settling, BadLists, Fixed, NoRoom, Settled, NotKept, fixed_without, fixed_write, or_fixed, or_lack, or_write}
use Rattle.settle_spec.specs.Kept.{Kept, as_it_stands, growing}
use Rattle.settle_spec.specs.Keeping.Places.{lacking}
use Rattle.settle_spec.specs.Keeping.Writes.{settle_writes, is_not_reached, does_not_stay, would_be_on, would_be_off, would_be_switched, earliest, or_told, or_not_standing, or_not_staying, or_written, settle_keeping}
use Rattle.settle_spec.specs.Growing.{or_else, settle_growing}
use Rattle.settle_spec.specs.Sparing.{without_slots, is_settled, grants, have_spares, settle_wished, settle_sparing}
use Rattle.settle_spec.specs.ToldLaws.{AreOfToldRange}

-- ---- what is found

same_some : {X : Type 0} (x y : X) → Some x ≡ Some y → x ≡ y
same_some x y h = cc

find_is : {X : Type 0} (p : X → Bool) (xs : List X) (x : X) → find p xs ≡ Some x → (p x ≡ true) × Contains xs x
find_is p [] x h = absurd (let no : ⊥ = cc in no)
find_is p (y ∷ ys) x h = elim (cases_Bool (p y)) [
  | inl hit ↦
      let e = same_some y x (sym (cond-true (p y) (Some y) (find p ys) hit) ∙ h) in
      (ap p (sym e) ∙ hit, subst (λ z. Contains (y ∷ ys) z) e (in_head y ys))
  | inr miss ↦
      let more = find_is p ys x (sym (cond-false (p y) (Some y) (find p ys) miss) ∙ h) in
      (more.0, in_tail y ys x more.1)
]

-- ---- which lines can be named

command_is_not_held : (m : Mark) → is_marked_command m ≡ true → is_marked_held m ≡ false
command_is_not_held Command h = refl
command_is_not_held Always h = refl
command_is_not_held Held h = absurd (false≢true h)

always_is_not_held : (m : Mark) → is_marked_always m ≡ true → is_marked_held m ≡ false
always_is_not_held Command h = refl
always_is_not_held Always h = refl
always_is_not_held Held h = absurd (false≢true h)

abbrev named_slot : Slot → Settling → Slot
named_slot other (NotKept slot register) = slot
named_slot other ending = other

abbrev named_register : ℕ → Settling → ℕ
named_register other (NotKept slot register) = register
named_register other ending = other

module _ (q : Request) where
  -- an ending names no line, or one that isn't held
  abbrev NamesTold : Settling → Type 0
  NamesTold ending = (slot : Slot) (register : ℕ) → ending ≡ NotKept slot register → AreOfToldRange q.told slot register

  bad_lists : NamesTold BadLists
  bad_lists slot register h = absurd (let no : ⊥ = cc in no)

  fixed_one : (other : Slot) (offset : ℕ) → NamesTold (Fixed other offset)
  fixed_one other offset slot register h = absurd (let no : ⊥ = cc in no)

  settled_by : (writes : List Write) → NamesTold (Settled writes)
  settled_by writes slot register h = absurd (let no : ⊥ = cc in no)

  told_first : (test : ToldRegion → Bool) → ((x : ToldRegion) → test x ≡ true → is_held_line x ≡ false) → (other : Settling) → NamesTold other → NamesTold (or_told (earliest q test) other)
  told_first test never other rest = by (earliest q test) refl
    where
      by : (o : Option ToldRegion) → earliest q test ≡ o → NamesTold (or_told o other)
      by None is slot register h = rest slot register h
      by (Some x) is slot register h =
          let found = find_is test (told_regions q.told) x is in
          record { line = x; is_told = found.1; not_held = never x found.0; of_slot = ap (named_slot x.told.slot) h; of_register = ap (named_register x.register) h }

  fixed_first : (o : Option FunctionPart) (other : Settling) → NamesTold other → NamesTold (or_fixed o other)
  fixed_first None other rest = rest
  fixed_first (Some r) other rest = fixed_one _ _

  lack_first : (o : Option PlacingItem) (other : Settling) → NamesTold other → NamesTold (or_lack o other)
  lack_first None other rest slot register h = rest slot register h
  lack_first (Some i) other rest slot register h = absurd (let no : ⊥ = cc in no)

  write_first : (o : Option Write) (other : Settling) → NamesTold other → NamesTold (or_write o other)
  write_first None other rest = rest
  write_first (Some w) other rest = fixed_one _ _

  else_first : (one other : Settling) → NamesTold other → NamesTold (or_else one other)
  else_first (Settled writes) other rest = settled_by writes
  else_first BadLists other rest = rest
  else_first (Fixed slot register) other rest = rest
  else_first (NoRoom class slot register size alignment) other rest = rest
  else_first (NotKept slot register) other rest = rest

module _ (q : Request) (s : System) where
  standing_is_not_held : (others : ℕ) (x : ToldRegion) → range_stands_within q s others x ≡ true → is_held_line x ≡ false
  unfolding range_stands_within
  standing_is_not_held zero x h = absurd (false≢true h)
  standing_is_not_held (suc others) x h = not-true (is_held_line x) (and_parts _ _ (and_parts _ _ (and_parts _ _ (and_parts _ _ h).0).0).0).0

  not_reached : (x : ToldRegion) → is_not_reached q s x ≡ true → is_held_line x ≡ false
  not_reached x h = not-true (is_held_line x) (and_parts _ _ (and_parts _ _ h).0).0

  not_staying : (k : Kept) (x : ToldRegion) → does_not_stay q s k x ≡ true → is_held_line x ≡ false
  not_staying k x h = standing_is_not_held (length (told_regions q.told)) x (and_parts _ _ h).0

  switched : (k : Kept) (x : ToldRegion) → would_be_switched q s k x ≡ true → is_held_line x ≡ false
  switched k x h = elim (or_cases (would_be_on q s k x) (would_be_off q s k x) h) [
    | inl on ↦ command_is_not_held x.told.mark (and_parts _ _ (and_parts _ _ on).0).0
    | inr off ↦ always_is_not_held x.told.mark (and_parts _ _ off).0
  ]

  pub keeping_names : (k : Kept) → NamesTold q (settle_keeping q s k)
  keeping_names k = by (are_bad_lists q.roots q.lists)
    where
      by : (b : Bool) → NamesTold q (if b then BadLists else or_not_standing q s (or_not_staying q s k (or_lack (lacking q s k) (or_written q s k (Settled (settle_writes q s k))))))
      by true = bad_lists q
      by false =
          told_first q (is_not_reached q s) not_reached _ (fixed_first q (fixed_without (stands q s) q s) _
          (told_first q (does_not_stay q s k) (not_staying k) _ (fixed_first q (fixed_without k.stays q s) _
          (lack_first q (lacking q s k) _ (write_first q (fixed_write q (settle_writes q s k)) _
          (told_first q (would_be_switched q s k) (switched k) _ (settled_by q (settle_writes q s k))))))))

  growing_names : NamesTold q (settle_growing q s)
  growing_names = else_first q (settle_keeping q s (growing q s)) (settle_keeping q s (as_it_stands q s)) (keeping_names (as_it_stands q s))

  pub growth_refuses_nothing : is_settled (settle_keeping q s (as_it_stands q s)) ≡ true → is_settled (settle_growing q s) ≡ true
  growth_refuses_nothing h = by (settle_keeping q s (growing q s))
    where
      by : (one : Settling) → is_settled (or_else one (settle_keeping q s (as_it_stands q s))) ≡ true
      by (Settled writes) = refl
      by BadLists = h
      by (Fixed slot register) = h
      by (NoRoom class slot register size alignment) = h
      by (NotKept slot register) = h

module _ (q : Request) (s : System) where
  wished_names : (b : Bool) → NamesTold q (settle_keeping (if b then q else without_slots q) s (grants q s).kept)
  wished_names true = keeping_names q s (grants q s).kept
  wished_names false = keeping_names (without_slots q) s (grants q s).kept

  pub sparing_names : NamesTold q (settle_sparing q s)
  sparing_names = by (is_settled (settle_growing (without_slots q) s))
    where
      by : (b : Bool) → NamesTold q (if b then settle_wished q s else settle_growing (without_slots q) s)
      by true = wished_names (have_spares q s)
      by false = growing_names (without_slots q) s
