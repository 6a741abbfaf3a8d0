-- What is settled with told ranges is settled beside wishes, too: a wish switches nothing on, and shuts nothing more.
use Rattle.std.proofs.Common.{◌≡◌, ◌≤◌, ◌&&◌, not, inl, inr, Bool, true, false, List, [], ◌∷◌, refl, sym, ◌∙◌, ap, subst, cond, Option, None, Some}
use Rattle.std.specs.List.{Contains, count_by, find, list_any}
use Rattle.std.proofs.lemmas.Bool.{and_parts, both_ways, cases_Bool, cond_both, false_from_ne_true, or_from, and_right}
use Rattle.pci_spec.specs.Slot.{same_slot}
use Rattle.pci_spec.specs.System.{System}
use Rattle.pci_spec.specs.Machine.{Write}
use Rattle.pci_spec.proofs.Members.{in_head, in_tail}
use Rattle.plan_spec.specs.Plan.{bridges_above}
use Rattle.plan_spec.proofs.Planning.AboveBuses.{above_to}
use Rattle.plan_spec.proofs.Planning.Behind.{Passes, any_gives}
use Rattle.judge_spec.specs.ToldClaims.{is_enabled_at}
use Rattle.judge_spec.specs.ToldRegion.{ToldRegion, told_regions}
use Rattle.settle_spec.specs.Lines.{line_bus, is_command_line, is_always_line}
use Rattle.settle_spec.specs.Lists.{Request, are_bad_lists}
use Rattle.settle_spec.specs.Parts.{FunctionPart}
use Rattle.settle_spec.specs.Stands.{stands, range_stands}
use Rattle.settle_spec.specs.Items.{PlacingItem, spare_of, range_stays}
use Rattle.settle_spec.specs.Writes.{Settling, BadLists, Fixed, NoRoom, Settled, NotKept, fixed_without, fixed_write, or_fixed, or_lack, or_write}
use Rattle.settle_spec.specs.Kept.{Kept, no_wish, unwished, as_it_stands, growing}
use Rattle.settle_spec.specs.Keeping.Places.{lacking}
use Rattle.settle_spec.specs.Keeping.Registers.{is_enabled_in, settled, settled_function, settled_command}
use Rattle.settle_spec.specs.SpareLaws.{kept_sparing}
use Rattle.settle_spec.specs.Keeping.Writes.{is_shut, settle_writes, is_not_reached, does_not_stay, would_be_on, would_be_off, would_be_switched, earliest, or_told, settle_keeping}
use Rattle.settle_spec.specs.Growing.{settle_growing, kept_by, finally_kept}
use Rattle.settle_spec.specs.Sparing.{without_slots, is_settled, have_spares, placing_request, granted_beside, grants, settle_wished, settle_sparing}
use Rattle.settle_spec.specs.Wishes.{granted}
use Rattle.settle_laws.specs.KeptLaws.{WishesNothing}
use Rattle.settle_laws.specs.WriteLaws.{most_settle_writes}
use Rattle.settle_laws.specs.Keeping.PlacesLaws.{CanSettle}
use Rattle.settle_laws.specs.ToldSoundLaws.{IsAdmittedSystem, KeepsTold, FewSparingWritesEach}
use Rattle.settle_laws.specs.ToldSparingLaws.{SparesRefuseNoMore, ToldSparingRefusesNothing, WishedIsSettled, ToldSparingSetsNoCommand, SparingKeepsAll, ToldSparingLeavesRoom}
use Rattle.settle_laws.proofs.Keeping.Claimed.{on_now}
use Rattle.settle_laws.proofs.Keeping.Few.{few_each}
use Rattle.settle_laws.proofs.Keeping.Moves.{moves}
use Rattle.settle_laws.proofs.Keeping.Wishless.{enabled_same}
use Rattle.settle_laws.proofs.Told.On.{enabled_by, enabled_from}
use Rattle.settle_laws.proofs.Told.Ended.{ToldEnd, told_end, keeps_told}
use Rattle.settle_laws.proofs.Told.Settling.{lacks_alike, can_kept, can_wished, sparing_can}
use Rattle.settle_laws.proofs.Wishing.Alike.{granted_alike}
use Rattle.settle_laws.proofs.Wishing.Refusing.{shut_alike, wishes_write_none}
use Rattle.settle_laws.proofs.Wishing.Room.{CanAll, has_room, keeps_all}
use Rattle.settle_laws.proofs.Wishing.Same.{command_alike, stays_alike}
use Rattle.settle_laws.proofs.Wishing.Sparing.{finally_settles, sparing_gives, sparing_is_wished, refused_alone}
use Rattle.settle_laws.proofs.Wishing.Nothing.{have_spares_gives, kept_alike, wishes_set_none}

-- where nothing passes, nothing is found
finds_none : {X : Type 0} (test : X → Bool) (xs : List X) → ((x : X) → Contains xs x → test x ≡ false) → find test xs ≡ None
finds_none test [] none = refl
finds_none test (x ∷ xs) none = ap (λ b. cond b (Some x) (find test xs)) (none x (in_head x xs)) ∙ finds_none test xs (λ y has. none y (in_tail x xs y has))

-- what is settled has writes
pub writes_from : (o : Settling) → is_settled o ≡ true → (writes : List Write) × (o ≡ Settled writes)
writes_from (Settled writes) is = (writes, refl)
writes_from BadLists is = absurd (both_ways false refl is)
writes_from (Fixed slot register) is = absurd (both_ways false refl is)
writes_from (NoRoom class slot register size alignment) is = absurd (both_ways false refl is)
writes_from (NotKept slot register) is = absurd (both_ways false refl is)

-- where nothing is refused all is settled
ends_so : (bad : Bool) (x : Option ToldRegion) (a : Option FunctionPart) (y : Option ToldRegion) (b : Option FunctionPart) (lack : Option PlacingItem) (w : Option Write) (z : Option ToldRegion) (own : List Write)
    → bad ≡ false → x ≡ None → a ≡ None → y ≡ None → b ≡ None → lack ≡ None → w ≡ None → z ≡ None
    → cond bad BadLists (or_told x (or_fixed a (or_told y (or_fixed b (or_lack lack (or_write w (or_told z (Settled own)))))))) ≡ Settled own
ends_so bad x a y b lack w z own good stand fixed stay rest room unwritten on =
    λ i. cond (good i) BadLists (or_told (stand i) (or_fixed (fixed i) (or_told (stay i) (or_fixed (rest i) (or_lack (room i) (or_write (unwritten i) (or_told (on i) (Settled own))))))))

module _ (q asked : Request) (s : System) (may : IsAdmittedSystem q s) where
  abbrev k : Kept
  k = finally_kept q s

  abbrev j : Kept
  j = (granted q s (spare_of asked) k).kept

  finally_wishless : WishesNothing k
  finally_wishless = by (settle_keeping q s (growing q s))
    where
      by : (o : Settling) → WishesNothing (kept_by o (growing q s) (as_it_stands q s))
      by (Settled writes) = refl
      by BadLists = refl
      by (Fixed slot register) = refl
      by (NoRoom class slot register size alignment) = refl
      by (NotKept slot register) = refl

  alike : unwished j ≡ unwished k
  alike = granted_alike q s (spare_of asked) k

  module _ (writes : List Write) (ended : settle_keeping q s k ≡ Settled writes) where
    is : ToldEnd q s k writes
    is = told_end q s k writes ended

    keeps : KeepsTold q s k
    keeps = keeps_told q s k writes ended

    can : CanSettle q s k
    can = can_kept q asked s may is.good is.room

    more : CanSettle q s j
    more = can_wished q asked s may is.good is.room

    -- a wish switches nothing on
    same_on : (x : ToldRegion) → is_enabled_at (settled q s j) x.told.slot x.told.space ≡ true → is_enabled_at (settled q s k) x.told.slot x.told.space ≡ true
    same_on x on =
        let slot = x.told.slot in
        let space = x.told.space in
        let f = enabled_by s (settled_function q s j) (moves q s j more) slot space on in
        let same : is_enabled_in q s j space f.f ≡ is_enabled_in q s k space f.f =
        sym (enabled_same q s j no_wish space f.f) ∙ ap (λ i. is_enabled_in q s i space f.f) alike ∙ enabled_same q s k no_wish space f.f in
        enabled_from s (settled_function q s k) (moves q s k can) slot space record {
          f = f.f;
          listed = f.listed;
          slot_is = f.slot_is;
          on = on_now q s k can f.f f.listed space ∙ sym same ∙ sym (on_now q s j more f.f f.listed space) ∙ f.on;
        }

    -- so no told range is switched
    none_on : (x : ToldRegion) → Contains (told_regions q.told) x → would_be_on q s j x ≡ false
    none_on x told = elim (cases_Bool (range_stands q s x)) [
      | inl stand ↦ ap (λ t. t && is_enabled_at (settled q s j) x.told.slot x.told.space) (and_right (is_command_line x) (not (range_stands q s x)) (ap not stand))
      | inr off ↦ false_from_ne_true (would_be_on q s j x) (λ on.
          let parts = and_parts (is_command_line x && not (range_stands q s x)) (is_enabled_at (settled q s j) x.told.slot x.told.space) on in
          both_ways (range_stands q s x) off (keeps.switched x told (and_parts (is_command_line x) (not (range_stands q s x)) parts.0).0 (same_on x parts.1)))
    ]

    none_off : (x : ToldRegion) → Contains (told_regions q.told) x → would_be_off q s j x ≡ false
    none_off x told = false_from_ne_true (would_be_off q s j x) (λ off.
        let parts = and_parts (is_always_line x) (list_any (is_shut q s j x.told.space) (bridges_above s (line_bus x))) off in
        let b : Passes (is_shut q s j x.told.space) (bridges_above s (line_bus x)) = any_gives (is_shut q s j x.told.space) (bridges_above s (line_bus x)) parts.1 in
        both_ways (is_shut q s k x.told.space b.x) (keeps.unshut x b.x told parts.0 b.listed)
        (shut_alike q s k j can more alike finally_wishless x.told.space b.x (above_to s (line_bus x) b.x b.listed).listed b.is))

    none_switched : earliest q (would_be_switched q s j) ≡ None
    none_switched = finds_none (would_be_switched q s j) (told_regions q.told) (λ x told. or_from (would_be_on q s j x) (would_be_off q s j x) (none_on x told) (none_off x told))

    stays_same : j.stays ≡ k.stays
    stays_same = ap (λ (i : Kept). i.stays) alike

    -- The law: it is settled beside wishes.
    ends_wished : settle_keeping q s j ≡ Settled (settle_writes q s j)
    ends_wished =
        ends_so (are_bad_lists q.roots q.lists) (earliest q (is_not_reached q s)) (fixed_without (stands q s) q s) (earliest q (does_not_stay q s j)) (fixed_without j.stays q s) (lacking q s j)
        (fixed_write q (settle_writes q s j)) (earliest q (would_be_switched q s j)) (settle_writes q s j)
        is.good is.reached is.stand
        (ap (λ stays. earliest q (λ x. range_stands q s x && not (range_stays q s stays x))) stays_same ∙ is.stay)
        (ap (λ stays. fixed_without stays q s) stays_same ∙ is.fixed_stay)
        (lacks_alike q asked s may ∙ is.room)
        (wishes_write_none q s k j can more alike finally_wishless is.unwritten)
        none_switched

  pub settled_wished : is_settled (settle_growing q s) ≡ true → settle_keeping q s j ≡ Settled (settle_writes q s j)
  settled_wished grows =
      let some = writes_from (settle_growing q s) grows in
      ends_wished some.0 (finally_settles q s ∙ some.1)

-- what is settled is so by its writes
pub settled_by_writes : (q : Request) (s : System) (k : Kept) → is_settled (settle_keeping q s k) ≡ true → settle_keeping q s k ≡ Settled (settle_writes q s k)
settled_by_writes q s k is =
    let some = writes_from (settle_keeping q s k) is in
    some.1 ∙ ap Settled (sym (told_end q s k some.0 some.1).same)

-- ---- with slots

module _ (q : Request) (s : System) (may : IsAdmittedSystem q s) where
  abbrev w : Request
  w = without_slots q

  asked_without : IsAdmittedSystem w s
  asked_without = record { high = may.high; system = may.system; nested = may.nested; profile = may.profile; chains = may.chains }

  abbrev beside : Request → Kept
  beside p = (granted_beside q p s).kept

  wished_writes : is_settled (settle_growing w s) ≡ true → settle_wished q s ≡ Settled (settle_writes (placing_request q s) s (grants q s).kept)
  wished_writes is = cond_both (have_spares q s) q w (λ p. settle_keeping p s (beside p) ≡ Settled (settle_writes p s (beside p)))
      (λ spares. settled_wished q q s may (have_spares_gives q s spares).settled) (λ none. settled_wished w q s asked_without is)

  no_more : is_settled (settle_growing w s) ≡ true → is_settled (settle_sparing q s) ≡ true
  no_more is = ap is_settled (sparing_is_wished q s is ∙ wished_writes is)

pub told_spares_refuse_no_more : SparesRefuseNoMore
told_spares_refuse_no_more = no_more

pub told_wished_is_settled : WishedIsSettled
told_wished_is_settled = wished_writes

pub told_spares_refuse_nothing : ToldSparingRefusesNothing
told_spares_refuse_nothing q s may refused = elim (cases_Bool (is_settled (settle_growing (without_slots q) s))) [
  | inl settled ↦ absurd (both_ways (is_settled (settle_sparing q s)) refused (no_more q s may settled))
  | inr alone ↦ refused_alone q s alone
]

-- ---- how many writes

pub told_few_writes : FewSparingWritesEach
told_few_writes q s writes system ended f listed =
    let p = placing_request q s in
    let j = (grants q s).kept in
    subst (λ ws. count_by (λ w. same_slot w.slot f.slot) ws ≤ most_settle_writes f) (told_end p s j writes (sparing_gives q s writes ended).0).same (few_each p s j system f listed)

-- ---- nothing goes for spares

-- what is settled where windows grow can be settled so
can_finally : (q : Request) (s : System) → IsAdmittedSystem q s → is_settled (settle_growing q s) ≡ true → CanSettle q s (finally_kept q s)
can_finally q s may grows =
    let some = writes_from (settle_growing q s) grows in
    let is = told_end q s (finally_kept q s) some.0 (finally_settles q s ∙ some.1) in
    can_kept q q s may is.good is.room

pub can_all : (q : Request) (s : System) → IsAdmittedSystem q s → is_settled (settle_sparing q s) ≡ true → CanAll q s
can_all q s may settles =
    let some = writes_from (settle_sparing q s) settles in
    let both = sparing_can q s may some.0 some.1 in
    record { before = both.0; then = both.1 }

pub told_spares_set_no_command : ToldSparingSetsNoCommand
told_spares_set_no_command q s f may listed settled =
    let w = without_slots q in
    wishes_set_none (placing_request q s) s (kept_sparing q s) (finally_kept (placing_request q s) s) f (kept_alike q s)
    ∙ cond_both (have_spares q s) q w (λ p. settled_command p s (finally_kept p s) f ≡ settled_command w s (finally_kept w s) f)
    (λ spares.
    let have = have_spares_gives q s spares in
    let can = can_finally q s may have.settled in
    let free = can_finally w s (asked_without q s may) settled in
    command_alike q s (finally_kept q s) (finally_kept w s) can free (stays_alike q s (finally_kept q s) (finally_kept w s) can free have.alike) f listed)
    (λ none. refl)

pub told_sparing_keeps_all : SparingKeepsAll
told_sparing_keeps_all q s f p may settles listed there keeps = keeps_all q s (can_all q s may settles) record { function = f; part = p } listed there keeps

pub told_spares_have_room : ToldSparingLeavesRoom
told_spares_have_room q s c b e may listed spare there free settles = has_room q s (can_all q s may settles) c b e listed spare there free
