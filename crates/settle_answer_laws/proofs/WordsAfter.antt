-- Words take a system after the writes that it lists as they took it, and as what they took is after these writes.
use Rattle.std.proofs.Common.{◌≡◌, ℕ, [], ◌∷◌, List, true, false, ◌&&◌, ◌||◌, not, inl, inr, refl, sym, ◌∙◌, ap, subst, map, set}
use Rattle.std.specs.Prelude.{◌⊎◌}
use Rattle.std.specs.Bool.{◌==◌, if◌then◌else◌}
use Rattle.std.specs.List.{AllZip, Contains, list_any}
use Rattle.std.proofs.lemmas.Bool.{cases_Bool}
use Rattle.std.proofs.lemmas.List.{map-id}
use Rattle.std.proofs.lemmas.List.Elements.{All-contains}
use Rattle.pci_spec.specs.Number.{IsImage}
use Rattle.pci_spec.specs.Header.{command}
use Rattle.pci_spec.specs.Registers.{INTERFACE}
use Rattle.pci_spec.specs.Slot.{IsSlot, Slot, same_slot}
use Rattle.pci_spec.specs.System.{Function, IsFunction, IsSystem, System, is_bridge}
use Rattle.pci_spec.specs.Machine.{Write, system_after, write_function}
use Rattle.pci_spec.proofs.Members.{in_head, in_tail}
use Rattle.pci_spec.proofs.Pairs.{member_forth}
use Rattle.judge_spec.specs.Words.{is_alone, is_rival, taken_by_unclaimed, unclaimed_aside}
use Rattle.plan_spec.specs.Plan.{IsMoved}
use Rattle.plan_spec.specs.Planning.Fitting.{IsFitting}
use Rattle.plan_spec.proofs.Planning.Fit.{moved_itself}
use Rattle.plan_spec.proofs.Planning.Settled.{function_after, system_by_function}
use Rattle.plan_spec.proofs.Planning.Writes.{write_elsewhere}
use Rattle.judge_spec.specs.ModelWords.{Words}
use Rattle.judge_spec.specs.Taken.{AreFunctionsTakenAs, IsTakenAs, unclaimed_aside_by, without_channels, without_socket}
use Rattle.settle_answer_laws.proofs.ChannelsAside.{channels_after, channels_out, channels_stripped}
use Rattle.settle_answer_laws.proofs.DeviceWrites.{IsDeviceWrite}
use Rattle.settle_answer_laws.proofs.Along.{IsAlong, IsAs, along_itself, as_through, one_along}
use Rattle.settle_answer_laws.proofs.KeptRegisters.{AreRegistersKept, unclaimed_kept}
use Rattle.settle_answer_laws.proofs.ListedWrites.{AreAfter, each_step, put_write, slot_is}
use Rattle.settle_answer_laws.proofs.SetAside.{subtractive_is, unclaimed_along}
use Rattle.settle_answer_laws.proofs.SocketsAside.{socket_after, socket_out, socket_stripped}
use Rattle.settle_answer_laws.proofs.Stripped.{both_after, fits_before}
use Rattle.settle_answer_laws.proofs.TakenAlong.{HasKindFor, IsStirred, IsTakenAlong, Omitted, Nothing, Channels, Socket, taken_along, taken_without}

-- ---- bridges that are alone

abbrev pub alone_aside : Words → System → Function → Function
alone_aside w s f = if w.unclaimed then unclaimed_aside s f else f

pub alone_kept : (w : Words) (s : System) (f : Function) → AreRegistersKept f (alone_aside w s f)
alone_kept w s f = unclaimed_kept w s f

pub each_aside : (w : Words) (s : System) → unclaimed_aside_by w s ≡ map (alone_aside w s) s
each_aside w s = elim (cases_Bool w.unclaimed) [
  | inl counts ↦ (λ i. if counts i then taken_by_unclaimed s else s) ∙ sym (λ i. map (λ (f : Function). if counts i then unclaimed_aside s f else f) s)
  | inr other ↦ (λ i. if other i then taken_by_unclaimed s else s) ∙ sym (map-id s) ∙ sym (λ i. map (λ (f : Function). if other i then unclaimed_aside s f else f) s)
]

module _ (f g : Function) (is : IsImage f.image) (m : IsMoved f g) where
  rival_is : (x y : Function) → IsImage x.image → IsMoved x y → is_rival g y ≡ is_rival f x
  rival_is x y image_is n = λ i. subtractive_is x y image_is n i && (n.slot i).bus == (m.slot i).bus && not (same_slot (n.slot i) (m.slot i))

  rivals_are : (move : Function → Function) (r : System) → ((x : Function) → Contains r x → IsImage x.image × IsMoved x (move x)) → list_any (is_rival g) (map move r) ≡ list_any (is_rival f) r
  rivals_are move [] all = refl
  rivals_are move (x ∷ r) all =
      let first = all x (in_head x r) in
      ap (λ t. t || list_any (is_rival g) (map move r)) (rival_is x (move x) first.0 first.1)
      ∙ ap (λ t. is_rival f x || t) (rivals_are move r (λ y has. all y (in_tail x r y has)))

  alone_is : (move : Function → Function) (r : System) → ((x : Function) → Contains r x → IsImage x.image × IsMoved x (move x)) → is_alone (map move r) g ≡ is_alone r f
  alone_is move r all = λ i. subtractive_is f g is m i && not (rivals_are move r all i)

  -- what is taken of the class stays so
  aside_along : (w : Words) (move : Function → Function) (r : System) → ((x : Function) → Contains r x → IsImage x.image × IsMoved x (move x)) → IsAlong f g (alone_aside w r f) (alone_aside w (map move r) g)
  aside_along w move r all = elim (cases_Bool w.unclaimed) [
    | inl counts ↦ subst (λ b. IsAlong f g (if b then unclaimed_aside r f else f) (if b then unclaimed_aside (map move r) g else g)) (sym counts)
        (unclaimed_along f g is m (is_alone r f) (is_alone (map move r) g) (alone_is move r all))
    | inr other ↦ subst (λ b. IsAlong f g (if b then unclaimed_aside r f else f) (if b then unclaimed_aside (map move r) g else g)) (sym other) (along_itself f g is m)
  ]

-- ---- writes to one function

module _ (f : Function) (listed : Write → Write) (slot_kept : (u : Write) → (listed u).slot ≡ u.slot) where
  -- those that are of other functions
  pub none_written : (g : Function) (writes : List Write) → g.slot ≡ f.slot → ((u : Write) → Contains writes u → same_slot f.slot u.slot ≡ false) → function_after g writes ≡ g
  none_written g [] at none = refl
  none_written g (u ∷ writes) at none =
      ap (λ x. function_after x writes) (write_elsewhere u g (ap (λ s. same_slot s u.slot) at ∙ none u (in_head u writes)))
      ∙ none_written g writes at (λ v has. none v (in_tail u writes v has))

  none_listed : (writes : List Write) → ((u : Write) → Contains writes u → same_slot f.slot u.slot ≡ false) → (g : Function) → g.slot ≡ f.slot → function_after g (map listed writes) ≡ g
  none_listed [] none g at = refl
  none_listed (u ∷ writes) none g at =
      ap (λ x. function_after x (map listed writes)) (write_elsewhere (listed u) g ((λ i. same_slot (at i) (slot_kept u i)) ∙ none u (in_head u writes)))
      ∙ none_listed writes (λ v has. none v (in_tail u writes v has)) g at

  -- each is one of its own Command
  module _ (c : ℕ) (own : (u : Write) → same_slot f.slot u.slot ≡ true → listed u ≡ put_write c u) where
    one_listed : (g : Function) (u : Write) → g.slot ≡ f.slot → write_function (listed u) g ≡ write_function (put_write c u) g
    one_listed g u at = elim (cases_Bool (same_slot f.slot u.slot)) [
      | inl here ↦ ap (λ v. write_function v g) (own u here)
      | inr other ↦
          write_elsewhere (listed u) g ((λ i. same_slot (at i) (slot_kept u i)) ∙ other)
          ∙ sym (write_elsewhere (put_write c u) g ((λ i. same_slot (at i) (slot_is u c i)) ∙ other))
    ]

    all_listed : (writes : List Write) (g : Function) → g.slot ≡ f.slot → function_after g (map listed writes) ≡ function_after g (map (put_write c) writes)
    all_listed [] g at = refl
    all_listed (u ∷ writes) g at =
        ap (λ x. function_after x (map listed writes)) (one_listed g u at)
        ∙ all_listed writes (write_function (put_write c u) g) at

-- ---- a function, and what words take it as

-- None of the writes is one of the function.
abbrev pub IsLeftAlone : List Write → Function → Type 0
IsLeftAlone writes f = (u : Write) → Contains writes u → same_slot f.slot u.slot ≡ false

-- each one of a function fits what it was taken as
abbrev pub AreFitting : List Write → Function → Type 0
AreFitting writes h = (u : Write) → Contains writes u → same_slot h.slot u.slot ≡ true → IsFitting u h

-- each one of a device is one of Command, or of a register that has address bits
abbrev pub AreOfDevice : List Write → Function → Type 0
AreOfDevice writes h = (u : Write) → Contains writes u → same_slot h.slot u.slot ≡ true → IsDeviceWrite h u

-- A write as it is listed: Command as the function has it, but for its enables.
pub record IsListing (listed : Write → Write) (s : System) : Type 0 where
  pub slot : (u : Write) → (listed u).slot ≡ u.slot
  pub own : (f : Function) → Contains s f → (u : Write) → same_slot f.slot u.slot ≡ true → listed u ≡ put_write (command f.image) u

-- what is known of a function of which some writes are, and of what it is taken as beside others
pub record IsWritten (w : Words) (s : System) (writes : List Write) (f h : Function) : Type 0 where
  pub stirred : IsStirred w (alone_aside w s f) h
  pub fits : AreFitting writes h
  pub registers : is_bridge h ≡ false → AreOfDevice writes h

module _ (w : Words) (slots : List Slot) (s : System) (system : IsSystem s) (listed : Write → Write) (writes : List Write) (listing : IsListing listed s) where
  abbrev move : Function → Function
  move f = function_after f (map listed writes)

  abbrev show : Function → Function
  show h = function_after h writes

  -- one that is taken in this system, and is written or not
  pub record IsPair (f h : Function) : Type 0 where
    pub has : Contains s f
    pub taken : IsTakenAs w slots (alone_aside w s f) h
    pub slot : h.slot ≡ f.slot
    pub either : IsLeftAlone writes f ⊎ IsWritten w s writes f h

  is_of : (f : Function) → Contains s f → IsFunction f
  is_of f has = All-contains IsFunction s f system.each has

  none_moves : (x : Function) → Contains s x → IsImage x.image × IsMoved x ((λ (f : Function). f) x)
  none_moves x has = ((is_of x has).image, moved_itself x (is_of x has).image)

  -- beside functions that stay it is taken as it is
  pub aside_shows : (f : Function) → Contains s f → IsAs f (alone_aside w s f)
  aside_shows f has = (aside_along f f (is_of f has).image (moved_itself f (is_of f has).image) w (λ x. x) s none_moves).before

  aside_is : (f : Function) → Contains s f → IsFunction (alone_aside w s f)
  aside_is f has =
      let as_it = aside_shows f has in
      let is = is_of f has in
      record { slot = subst IsSlot (sym as_it.slot) is.slot; image = as_it.image; probe = subst IsImage (sym as_it.probe) is.probe }

  module _ (f h : Function) (pair : IsPair f h) (written : IsWritten w s writes f h) (g : Function) (t : IsTakenAlong w slots (alone_aside w s f) g h) where
    pub start : IsAs f t.b
    start = as_through f (alone_aside w s f) t.b (aside_shows f pair.has) t.along.before

    abbrev b_image : IsImage t.b.image
    b_image = t.along.before.image

    -- what is known of writes to what it is taken as
    record AreKnown (k : Function) : Type 0 where
      fits : AreFitting writes k
      registers : is_bridge k ≡ false → AreOfDevice writes k

    known : AreKnown (taken_without t.omitted t.b)
    known = subst AreKnown t.before record { fits = written.fits; registers = written.registers }

    pub fits_b : AreFitting writes t.b
    fits_b = by t.omitted t.kind known
      where
        by : (omitted : Omitted) → HasKindFor omitted t.b → AreKnown (taken_without omitted t.b) → AreFitting writes t.b
        by Nothing kind are u has here = are.fits u has here
        by Channels kind are u has here =
            let stripped = channels_stripped t.b kind b_image in
            fits_before (channels_out t.b kind) t.b (without_channels t.b) b_image stripped u (are.registers stripped.after u has here) (are.fits u has here)
        by Socket kind are u has here =
            let stripped = socket_stripped t.b b_image kind in
            fits_before socket_out t.b (without_socket t.b) b_image stripped u (are.registers stripped.after u has here) (are.fits u has here)

    moved_so : move f ≡ function_after f (map (put_write (command f.image)) writes)
    moved_so = all_listed f listed listing.slot (command f.image) (listing.own f pair.has) writes f refl

    after : AreAfter f t.b (is_of f pair.has).image start (move f) (show t.b)
    after = subst (λ x. AreAfter f t.b (is_of f pair.has).image start x (show t.b)) (sym moved_so)
        (each_step f t.b (is_of f pair.has).image start f t.b writes
        record { shown = start; f_moved = moved_itself f (is_of f pair.has).image; h_moved = moved_itself t.b start.image } fits_b)

    -- what is left out of b is left out of what is written
    stays_without : show h ≡ taken_without t.omitted (show t.b)
    stays_without = ap show t.before ∙ by t.omitted t.kind known
      where
        by : (omitted : Omitted) → HasKindFor omitted t.b → AreKnown (taken_without omitted t.b) → show (taken_without omitted t.b) ≡ taken_without omitted (show t.b)
        by Nothing kind are = refl
        by Channels kind are =
            let stripped = channels_stripped t.b kind b_image in
            channels_after t.b (show t.b) b_image kind after.h_moved (show (without_channels t.b))
            (both_after (channels_out t.b kind) t.b (without_channels t.b) b_image stripped writes (λ u has here. (are.registers stripped.after u has here, are.fits u has here)))
        by Socket kind are =
            let stripped = socket_stripped t.b b_image kind in
            socket_after t.b b_image kind (show t.b) (show (without_socket t.b))
            (both_after socket_out t.b (without_socket t.b) b_image stripped writes (λ u has here. (are.registers stripped.after u has here, are.fits u has here)))

  pub at_start : (f h : Function) → IsPair f h → IsWritten w s writes f h → IsTakenAlong w slots (alone_aside w s f) (alone_aside w s f) h
  at_start f h pair written =
      let a = alone_aside w s f in
      taken_along w slots a a h (aside_is f pair.has) (moved_itself a (aside_is f pair.has).image) written.stirred pair.taken

  -- it moves
  pair_moves : (f h : Function) → IsPair f h → IsMoved f (move f)
  pair_moves f h pair = elim pair.either [
    | inl alone ↦ subst (IsMoved f) (sym (none_listed f listed listing.slot writes alone f refl)) (moved_itself f (is_of f pair.has).image)
    | inr written ↦ (after f h pair written (alone_aside w s f) (at_start f h pair written)).f_moved
  ]

  module _ (all : (x : Function) → Contains s x → IsImage x.image × IsMoved x (move x)) (f h : Function) (pair : IsPair f h) where
    abbrev later : Function
    later = alone_aside w (map move s) (move f)

    along : IsAlong f (move f) (alone_aside w s f) later
    along = aside_along f (move f) (is_of f pair.has).image (all f pair.has).1 w move s all

    left_alone : IsLeftAlone writes f → IsTakenAs w slots later (show h)
    left_alone alone =
        let f_stays : move f ≡ f = none_listed f listed listing.slot writes alone f refl in
        let h_stays : show h ≡ h = none_written f listed listing.slot h writes pair.slot alone in
        let same : later ≡ alone_aside w s f = ap (alone_aside w (map move s)) f_stays ∙ alone_same in
        subst (λ x. IsTakenAs w slots later x) (sym h_stays) (subst (λ x. IsTakenAs w slots x h) (sym same) pair.taken)
      where
        alone_same : alone_aside w (map move s) f ≡ alone_aside w s f
        alone_same = λ i. if w.unclaimed then (if alone_is f f (is_of f pair.has).image (moved_itself f (is_of f pair.has).image) move s all i then record { slot = f.slot; image = set f.image INTERFACE 0; probe = f.probe } else f) else f

    changed : IsWritten w s writes f h → IsTakenAs w slots later (show h)
    changed written =
        let t = taken_along w slots (alone_aside w s f) later h (aside_is f pair.has) along.moved written.stirred pair.taken in
        let now = after f h pair written later t in
        let same : show t.b ≡ t.c = one_along (move f) t.b (show t.b) t.c t.along.before.image now.shown
        (as_through (move f) later t.c along.after t.along.after) now.h_moved t.along.moved in
        subst (λ x. IsTakenAs w slots later x) (sym (stays_without f h pair written later t ∙ ap (taken_without t.omitted) same)) t.taken

    pub pair_after : IsTakenAs w slots later (show h)
    pair_after = elim pair.either [ inl alone ↦ left_alone alone | inr written ↦ changed written ]

  -- ---- a system

  abbrev ArePairs : System → System → Type 0
  ArePairs r t = AllZip IsPair r t

  each_moves : (r t : System) → ArePairs r t → (x : Function) → Contains r x → IsImage x.image × IsMoved x (move x)
  each_moves r t pairs x has =
      let found = member_forth IsPair r t pairs x has in
      let pair = found.2 in
      ((is_of x pair.has).image, pair_moves x found.0 pair)

  each_after : ((x : Function) → Contains s x → IsImage x.image × IsMoved x (move x)) → (r t : System) → ArePairs r t
      → AllZip (IsTakenAs w slots) (map (alone_aside w (map move s)) (map move r)) (map show t)
  each_after all [] [] pairs = tt
  each_after all [] (h ∷ t) pairs = absurd pairs
  each_after all (f ∷ r) [] pairs = absurd pairs
  each_after all (f ∷ r) (h ∷ t) (pair, pairs) = (pair_after all f h pair, each_after all r t pairs)

  pub words_after : (t : System) → ArePairs s t → AreFunctionsTakenAs w slots (system_after s (map listed writes)) (system_after t writes)
  words_after t pairs =
      let zipped = each_after (each_moves s t pairs) s t pairs in
      subst (λ x. AllZip (IsTakenAs w slots) x (system_after t writes)) (sym (ap (unclaimed_aside_by w) (system_by_function s (map listed writes)) ∙ each_aside w (map move s)))
      (subst (λ y. AllZip (IsTakenAs w slots) (map (alone_aside w (map move s)) (map move s)) y) (sym (system_by_function t writes)) zipped)
