-- What applying leaves, by what comparing and making leave.
use Rattle.std.proofs.Common.{◌≡◌, ℕ, zero, suc, ◌+◌, ◌-◌, ◌^◌, ◌≤◌, ◌⊎◌, inl, inr, List, [], ◌∷◌, ◌++◌, refl, Bool, true, false, ◌&&◌, ◌||◌, Some, arith, sym, ◌∙◌, ap, subst, map, length, take}
use Rattle.std.specs.List.{AllZip, Contains, slice_get}
use Rattle.std.proofs.lemmas.Bool.{cases_Bool, both_ways, and_from, lt-ltb, cond-true, cond-false}
use Rattle.std.proofs.lemmas.List.{take_more, take_all}
use Rattle.std.proofs.lemmas.List.Elements.{All-contains, All-take}
use Rattle.std.proofs.lemmas.Option.{same_Some, slice_get_cases, slice_get_within, get_or_from_slice_get}
use Rattle.pci_spec.specs.Number.{number_at, IsImage}
use Rattle.pci_spec.specs.Slot.{Slot, same_slot, slot_number}
use Rattle.pci_spec.specs.Text.{Block, slots_of}
use Rattle.pci_spec.specs.System.{System, Function, IsSystem, function_of, system_of}
use Rattle.pci_spec.specs.Sound.{IsSound}
use Rattle.pci_spec.specs.Machine.{Target, Write, target_of, after_writes, write_targets, write_function, write_system, system_after}
use Rattle.plan_spec.specs.Plan.{IsMoved}
use Rattle.plan_spec.specs.Planning.Fitting.{FitsAt, IsFitting}
use Rattle.pci_spec.proofs.Members.{in_nil, in_cons_cases, in_head, in_tail, in_map_to, IsMade}
use Rattle.pci_spec.proofs.Nesting.{one_function}
use Rattle.pci_spec.proofs.Rising.{pairs_of_rising}
use Rattle.plan_spec.proofs.Planning.Kept.{images_of}
use Rattle.pci_spec.proofs.Pairs.{member_back}
use Rattle.plan_spec.proofs.Planning.Fit.{after_moved, moved_start, fitting_later}
use Rattle.plan_spec.proofs.Planning.Settled.{write_shows}
use Rattle.plan_spec.proofs.Planning.OwnMachine.{own_machine}
use Rattle.pci_spec.specs.Port as port
use Rattle.pci_spec.specs.Port.{target_at, has_function, is_access, ShowsNumber}
use Rattle.pci_spec.proofs.SameSlot.{slot_itself, slots_same}
use Rattle.pci_plan.specs.declared.apply_fault.ApplyFault.{ApplyFault}
use Rattle.pci_plan.specs.declared.apply_fault.ApplyFault.TheVariants.{Changed, Port, Stuck}
use Rattle.pci_place.specs.Above.{system_in}
use Rattle.pci_plan.specs.Plans.{PlanValue, final_of}
use Rattle.pci_plan.specs.Moves.{IsRegisterWrite, IsMove}
use Rattle.pci_plan.specs.Comparing.{ShowsAll, IsChangedAt, StartsAs, IsStartFault, Moment}
use Rattle.pci_plan.specs.Making.{AreReadBack, AreWritesMade, IsApplyStop}
use Rattle.pci_plan.specs.Going.{IsWritable}
use Rattle.pci_plan.specs.Applying.{ShowsSystem, AreSoundTargets, writes_before, AreReadBackUntil, HasImages, AreSoundWhileReadBack, IsApplyFault}
use Rattle.pci_plan.proofs.Compares.{register_access}
use Rattle.plan_spec.proofs.Planning.Whole.{moved_system}
use Rattle.pci_plan.proofs.Ended.{writes_end}
use Rattle.pci_plan.proofs.Makes.{fold_more}
use Rattle.pci_plan.proofs.OtherBits.{numbers, images_after}

-- ---- blocks and functions

-- the block of a function
block_of : (dump probe : List Block) (f : Function) → Contains (system_of dump probe) f → (b : Block) × Contains dump b × (b.slot ≡ f.slot) × (b.image ≡ f.image)
block_of [] probe f listed = absurd (in_nil f listed)
block_of (b ∷ dump) [] f listed = absurd (in_nil f listed)
block_of (b ∷ dump) (q ∷ probe) f listed = elim (in_cons_cases _ (system_of dump probe) f listed) [
  | inl is ↦ (b, in_head b dump, ap (λ (g : Function). g.slot) is, ap (λ (g : Function). g.image) is)
  | inr later ↦ let found = block_of dump probe f later in (found.0, in_tail b dump found.0 found.1, found.2, found.3)
]

-- the function of a block
function_of_block : (dump probe : List Block) → slots_of dump ≡ slots_of probe → (b : Block) → Contains dump b → (f : Function) × Contains (system_of dump probe) f × (f.slot ≡ b.slot) × (f.image ≡ b.image)
function_of_block [] probe slots b listed = absurd (in_nil b listed)
function_of_block (c ∷ dump) [] slots b listed = absurd (let impossible : ⊥ = cc in impossible)
function_of_block (c ∷ dump) (q ∷ probe) slots b listed =
    let rest : slots_of dump ≡ slots_of probe = cc in
    let g = function_of c q in
    elim (in_cons_cases c dump b listed) [
      | inl is ↦ (g, in_head g (system_of dump probe), ap (λ (d : Block). d.slot) is, ap (λ (d : Block). d.image) is)
      | inr later ↦ let found = function_of_block dump probe rest b later in (found.0, in_tail g (system_of dump probe) found.0 found.1, found.2, found.3)
    ]

-- ---- a write

-- a port takes it
access_of : (s : System) (x : Write) → IsRegisterWrite s x → (is_access x.offset x.width && port.fits x.width x.value) ≡ true
access_of s x is =
    and_from (is_access x.offset x.width) (port.fits x.width x.value) (register_access is.f.image (x.offset, x.width) is.register) (lt-ltb x.value (256 ^ x.width) is.small)

-- ---- the machine of a system

found_in : (u : System) (slot : Slot) (t : Target) → target_at (map target_of u) slot ≡ Some t → (f : Function) × Contains u f × (f.slot ≡ slot) × (t ≡ target_of f)
found_in [] slot t h = absurd (let impossible : ⊥ = cc in impossible)
found_in (f ∷ u) slot t h = elim (cases_Bool (same_slot f.slot slot)) [
  | inl hit ↦
      (f, in_head f u, slots_same f.slot slot hit, sym (same_Some (target_of f) t (sym (cond-true (same_slot f.slot slot) (Some (target_of f)) (target_at (map target_of u) slot) hit) ∙ h)))
  | inr miss ↦
      let rest = found_in u slot t (sym (cond-false (same_slot f.slot slot) (Some (target_of f)) (target_at (map target_of u) slot) miss) ∙ h) in
      (rest.0, in_tail f u rest.0 rest.1, rest.2, rest.3)
]

-- what is shown is what a function of the system shows
shown_in : (u : System) (slot : Slot) (o w n : ℕ) → ShowsNumber (map target_of u) slot o w n → (f : Function) × Contains u f × (f.slot ≡ slot) × (n ≡ number_at f.image o w)
shown_in u slot o w n (t, at, e) =
    let found = found_in u slot t at in
    (found.0, found.1, found.2, e ∙ ap (λ (v : Target). number_at v.image o w) found.3)

or_true : (a b : Bool) → (a ≡ true) ⊎ (b ≡ true) → (a || b) ≡ true
or_true true b h = refl
or_true false b (inl impossible) = absurd (both_ways false refl impossible)
or_true false b (inr h) = h

-- each of its functions is there
there : (u : System) (f : Function) → Contains u f → has_function (map target_of u) f.slot ≡ true
there [] f listed = absurd (in_nil f listed)
there (g ∷ u) f listed = or_true (same_slot g.slot f.slot) (has_function (map target_of u) f.slot) (elim (in_cons_cases g u f listed) [
  | inl is ↦ inl (ap (λ (h : Function). same_slot h.slot f.slot) is ∙ slot_itself f.slot)
  | inr later ↦ inr (there u f later)
])

system_more : (s : System) (ws : List Write) (w : Write) → system_after s (ws ++ w ∷ []) ≡ write_system (system_after s ws) w
system_more s [] w = refl
system_more s (x ∷ ws) w = system_more (write_system s x) ws w

-- ---- a move

module _ (p : PlanValue) (is : IsMove p) where
  abbrev s : System
  s = system_in p.start

  -- a port takes each write
  pub writable : (w : Write) → Contains p.writes w → IsWritable w
  writable w has = access_of s w (is.registers w has)

  -- ---- comparing

  pub shows_start : (targets : List Target) → StartsAs targets p.start.dump → ShowsSystem targets s
  shows_start targets starts f listed =
      let found = block_of p.start.dump p.start.probe f listed in
      let b = found.0 in
      subst (λ slot. ShowsAll targets slot f.image) found.2 (subst (λ image. ShowsAll targets b.slot image) found.3 (starts b found.1))

  -- ---- faults

  -- what is left where a fault ended it
  abbrev pub Ends : Moment → Moment → ApplyFault → Type 0
  Ends before after fault =
      (after.targets ≡ after_writes before.targets (take (writes_before fault) p.writes)) × AreReadBackUntil before p.writes after.failures fault × IsApplyFault before s p.writes after fault

  pub compare_ends : (before after : Moment) (fault : ApplyFault) → after.targets ≡ before.targets → IsStartFault before p.start.dump after.failures fault → Ends before after fault
  compare_ends before after (Changed at offset) same (b, listed, (here, changed)) =
      let found = function_of_block p.start.dump p.start.probe is.admitted.slots b listed in (
        same,
        tt,
        record {
          f = found.0;
          listed = found.1;
          at = found.2 ∙ sym here;
          changed = subst (λ slot. IsChangedAt before.targets slot found.0.image offset) (sym found.2) (subst (λ image. IsChangedAt before.targets b.slot image offset) (sym found.3) changed);
        },
      )
  compare_ends before after (Port done) same (b, listed, (none_made, refused)) =
      let found = function_of_block p.start.dump p.start.probe is.admitted.slots b listed in (
        same ∙ ap (λ n. after_writes before.targets (take n p.writes)) (sym none_made),
        inl none_made,
        record {
          within = omega (arith, none_made);
          started = λ some. absurd (let impossible : ⊥ = omega (arith, none_made, some) in impossible);
          cause = elim refused [ inl rose ↦ inl rose | inr none ↦ inr (found.0, found.1, ap (has_function before.targets) found.2 ∙ none) ];
        },
      )
  compare_ends before after (Stuck done) same (b, listed, fault) = absurd fault

  pub make_ends : (before after : Moment) (fault : ApplyFault) → ShowsSystem before.targets s → IsApplyStop before p.writes after fault → Ends before after fault
  make_ends before after (Changed at offset) shows stop = absurd stop
  make_ends before after (Port done) shows stop = (
    stop.made,
    inr stop.read_back,
    record {
      within = stop.within;
      started = λ some. shows;
      cause = elim stop.cause [
        | inl rose ↦ inl rose
        | inr (w, has, none) ↦
            let of : IsRegisterWrite s w = is.registers w has in
            inr (of.f, of.listed, ap (has_function before.targets) of.slot ∙ none)
      ];
    },
  )
  make_ends before after (Stuck done) shows stop =
      let last = stop.is_last in
      let others : stop.last ≡ done - 1 = omega (arith, last) in (
        stop.made,
        subst (AreReadBack before.targets p.writes) others stop.read_back,
        record {
          started = shows;
          last = stop.last;
          is_last = last;
          write = stop.write;
          listed = stop.listed;
          otherwise = stop.otherwise;
        },
      )

  -- ---- all writes

  pub shows_final : (before after : List Target) → ShowsSystem before s → AreWritesMade before p.writes (length p.writes) after → ShowsSystem after (final_of p)
  shows_final before after shows made =
      subst (ShowsSystem after) is.reached (writes_end s is.admitted.system p.writes is.fits is.registers before after shows made)

  -- ---- on the machine that the writes start from

  images : (f : Function) → Contains s f → IsImage f.image
  images = images_of s is.admitted.system

  on_machine : (k : ℕ) → after_writes (map target_of s) (take k p.writes) ≡ map target_of (system_after s (take k p.writes))
  on_machine k = own_machine s images s (take k p.writes) (moved_start s images) (All-take (FitsAt s) k p.writes is.fits)

  moved_after : (k : ℕ) → AllZip IsMoved s (system_after s (take k p.writes))
  moved_after k = after_moved s s p.writes images is.fits (moved_start s images) k

  -- each write sets its register
  sets : (k : ℕ) (w : Write) → slice_get p.writes k ≡ Some w → (g : Function) → Contains (system_after s (take k p.writes)) g → same_slot g.slot w.slot ≡ true
      → number_at (write_function w g).image w.offset w.width ≡ w.value
  sets k w at g listed here =
      let has : Contains p.writes w = (k, slice_get_within p.writes k w at, get_or_from_slice_get p.writes k w w at) in
      let back = member_back IsMoved s (system_after s (take k p.writes)) (moved_after k) g listed in
      let f = back.0 in
      let m = back.2 in
      let fit : IsFitting w g =
      fitting_later w f g (images f back.1) m (All-contains (FitsAt s) p.writes w is.fits has f back.1 (ap (λ x. same_slot x w.slot) (sym m.slot) ∙ here)) in
      write_shows g w m.image fit (is.registers w has).small here

  -- each write reads back as it was made
  reads_back : (last : ℕ) (w : Write) (after : List Target) (shows : ℕ) → slice_get p.writes last ≡ Some w → after ≡ after_writes (map target_of s) (take (last + 1) p.writes)
      → ShowsNumber after w.slot w.offset w.width shows → shows ≡ w.value
  reads_back last w after shows at made shown =
      let u = system_after s (take last p.writes) in
      let within = slice_get_within p.writes last w at in
      let taken : take (last + 1) p.writes ≡ take last p.writes ++ w ∷ [] =
      take_more p.writes last w within ∙ ap (λ x. take last p.writes ++ x ∷ []) (get_or_from_slice_get p.writes last w w at) in
      let next : system_after s (take (last + 1) p.writes) ≡ write_system u w = ap (system_after s) taken ∙ system_more s (take last p.writes) w in
      let here : ShowsNumber (map target_of (write_system u w)) w.slot w.offset w.width shows =
      subst (λ ts. ShowsNumber ts w.slot w.offset w.width shows) (made ∙ on_machine (last + 1) ∙ ap (map target_of) next) shown in
      let found = shown_in (write_system u w) w.slot w.offset w.width shows here in
      let of : IsMade (write_function w) u found.0 = in_map_to (write_function w) u found.0 found.1 in
      let slot : of.from.slot ≡ w.slot = ap (λ (x : Function). x.slot) of.is ∙ found.2 in
      found.3 ∙ ap (λ (x : Function). number_at x.image w.offset w.width) (sym of.is)
      ∙ sets last w at of.from of.has (ap (λ x. same_slot x w.slot) slot ∙ slot_itself w.slot)

  -- so it is never refused there
  pub none_on_machine : (before after : Moment) (fault : ApplyFault) → before.targets ≡ map target_of s → after.failures ≡ before.failures → Ends before after fault → ⊥
  none_on_machine before after (Changed at offset) start quiet (made, back, reason) =
      let f = reason.f in
      let other = reason.changed.other in
      let width = reason.changed.width in
      let found = shown_in s f.slot offset width other.shows (subst (λ ts. ShowsNumber ts f.slot offset width other.shows) start other.shown) in
      let same : found.0 ≡ f = one_function s is.admitted.system found.0 f found.1 reason.listed (ap slot_number found.2) in
      other.differs (found.3 ∙ ap (λ (g : Function). number_at g.image offset width) same)
  none_on_machine before after (Port done) start quiet (made, back, reason) = elim reason.cause [
    | inl rose ↦ omega (arith, rose, quiet)
    | inr (f, listed, none) ↦ both_ways (has_function before.targets f.slot) none (ap (λ ts. has_function ts f.slot) start ∙ there s f listed)
  ]
  none_on_machine before after (Stuck done) start quiet (made, back, reason) =
      let w = reason.write in
      let from : after.targets ≡ after_writes (map target_of s) (take (reason.last + 1) p.writes) =
      made ∙ ap (λ ts. after_writes ts (take done p.writes)) start ∙ ap (λ n. after_writes (map target_of s) (take n p.writes)) reason.is_last in
      reason.otherwise.differs (reads_back reason.last w after.targets reason.otherwise.shows reason.listed from reason.otherwise.shown)

  -- and a stop leaves a sound system
  pub left_sound : (k : ℕ) (before after : List Target) → before ≡ map target_of s → after ≡ after_writes before (take k p.writes)
      → IsSound p.start.roots s ⊎ (p.safe_from ≤ k) → AreSoundTargets p.start.roots after
  left_sound k before after start made from =
      (system_after s (take k p.writes), is.stops k from, made ∙ ap (λ ts. after_writes ts (take k p.writes)) start ∙ on_machine k)

  -- ---- over functions of which other bits can be written

  images_stay : (before : List Target) → HasImages before s → (k : ℕ) → AreReadBack before p.writes k → HasImages (after_writes before (take k p.writes)) (system_after s (take k p.writes))
  images_stay before same zero back = same
  images_stay before same (suc k) back =
      let now = after_writes before (take k p.writes) in
      let u = system_after s (take k p.writes) in
      let earlier : HasImages now u = images_stay before same k (λ j w less at. back j w (omega (arith, less)) at) in
      elim (slice_get_cases p.writes k).1 [
        | inr (past, none) ↦
            let all : take (suc k) p.writes ≡ take k p.writes = take_all (suc k) p.writes (omega (arith, past)) ∙ sym (take_all k p.writes past) in
            subst (λ ws. HasImages (after_writes before ws) (system_after s ws)) (sym all) earlier
        | inl (w, within, at, here) ↦
            let next : suc k ≡ k + 1 = omega arith in
            let taken : take (suc k) p.writes ≡ take k p.writes ++ w ∷ [] = ap (λ n. take n p.writes) next ∙ take_more p.writes k w within ∙ ap (λ x. take k p.writes ++ x ∷ []) here in
            let targets : after_writes before (take (suc k) p.writes) ≡ write_targets now w = ap (after_writes before) taken ∙ fold_more before (take k p.writes) w in
            let system : system_after s (take (suc k) p.writes) ≡ write_system u w = ap (system_after s) taken ∙ system_more s (take k p.writes) w in
            let is_system : IsSystem u = moved_system s u (moved_after k) is.admitted.system in
            let shown = subst (λ ts. ShowsNumber ts w.slot w.offset w.width w.value) targets (back k w (omega arith) at) in
            subst (λ ts. HasImages ts (system_after s (take (suc k) p.writes))) (sym targets)
            (subst (λ v. HasImages (write_targets now w) v) (sym system)
            (images_after w now u earlier (pairs_of_rising (numbers u) is_system.rising) (images_of u is_system) (sets k w at) shown))
      ]

  pub sound_while_read_back : (before : List Target) → HasImages before s → AreSoundWhileReadBack p.start.roots s p.writes p.safe_from before
  sound_while_read_back before same k back from = record { images = images_stay before same k back; sound = is.stops k from }
