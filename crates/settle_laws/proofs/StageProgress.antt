-- What a beginning of a stage of writes does: registers of a function show its next state one after another.
use Rattle.std.proofs.Common.{◌≡◌, ℕ, ◌+◌, ◌<◌, ◌≤◌, ◌⊎◌, inl, inr, List, [], ◌∷◌, ◌++◌, refl, Bool, true, false, arith, sym, ◌∙◌, ap, subst}
use Rattle.std.specs.Bool.{nat_le, nat_lt, ◌==◌}
use Rattle.std.specs.List.{All, AllPairs, Contains, flat_map, list_any}
use Rattle.std.proofs.lemmas.Bool.{and_left, and_right, cases_Bool, le-ltb, lt-leb}
use Rattle.std.proofs.lemmas.List.{append-nil}
use Rattle.std.proofs.lemmas.Grind.{flat_map-append}
use Rattle.std.proofs.lemmas.List.Elements.{All-contains_itself, All-weaker, Contains-append_cases, Contains-append_left, Contains-append_right}
use Rattle.pci_spec.specs.Number.{byte_at, number_at, IsImage}
use Rattle.pci_spec.specs.Slot.{same_slot, slot_number}
use Rattle.pci_spec.specs.Registers.{COMMAND, PREFETCHABLE_BASE_UPPER, PREFETCHABLE_LIMIT_UPPER}
use Rattle.pci_spec.specs.Header.{command, layout, address_registers, is_in_register}
use Rattle.pci_spec.specs.System.{System, Function, IsSystem, is_bridge}
use Rattle.pci_spec.specs.Machine.{Write}
use Rattle.pci_spec.proofs.Members.{in_nil, in_cons_cases, in_head, IsInPiece, in_flat_map_to, pairs_nil, pairs_cons}
use Rattle.pci_spec.proofs.Nesting.{one_function}
use Rattle.plan_spec.specs.Plan.{IsMoved}
use Rattle.plan_spec.specs.Planning.Fitting.{IsFitting, FitsAt}
use Rattle.plan_spec.specs.Planning.PlanWrites.{Change, register_write}
use Rattle.plan_spec.proofs.Planning.Fit.{moved_itself}
use Rattle.plan_spec.proofs.Planning.Kept.{images_of}
use Rattle.plan_spec.proofs.Planning.Moved.{bridge_same}
use Rattle.plan_spec.proofs.Planning.Settled.{function_after, function_moved, function_parts}
use Rattle.plan_spec.proofs.Planning.Staging.{number_write}
use Rattle.plan_spec.proofs.Planning.Writes.{same_number}
use Rattle.settle_spec.specs.Writes.{closing_registers, setting_registers}
use Rattle.settle_laws.proofs.Stages.{AreStates, IsProgress, closing_change, setting_change, closing_list, setting_list, opening_list, all_closings, all_settings, all_openings, all_stages}
use Rattle.settle_laws.proofs.StagePrefixes.{IsReached, IsRegisters, Higher, Own, Unlike, backwards, backwards_falls, choice_or_none, from_backwards, in_backwards, in_turn, reached, registers_split, whole}
use Rattle.settle_laws.proofs.StageRegisters.{AreApart, IsApartFrom, IsPlain, ShowAs, address_low, among_setting, byte_apart, byte_from_number, byte_within, closing_among, closing_apart, closing_plain, made_leaves, made_moved, made_shows, part_leaves, part_progress, register_write_is, same_by_bytes, setting_among, setting_apart, setting_by, setting_plain, write_fits}
use Rattle.settle_laws.proofs.NonePasses.{none_by, none_passes}
use Rattle.settle_laws.proofs.Pieces.{Lower, system_rises}

lower_unlike : (f g : Function) → Lower f g → Unlike f g
lower_unlike f g less e = omega (arith, less, e)

higher_unlike : (f g : Function) → Higher f g → Unlike f g
higher_unlike f g more e = omega (arith, more, e)

closings_backwards : (closed final : Function → Function) (s : System) → all_closings closed final s ≡ flat_map (closing_list closed final) (backwards s)
closings_backwards closed final [] = refl
closings_backwards closed final (f ∷ s) =
    ap (λ ws. ws ++ closing_list closed final f) (closings_backwards closed final s)
    ∙ ap (λ ws. flat_map (closing_list closed final) (backwards s) ++ ws) (sym (append-nil (closing_list closed final f)))
    ∙ sym (flat_map-append (closing_list closed final) (backwards s) (f ∷ []))

module _ (s : System) (system : IsSystem s) (closed final : Function → Function) (are : AreStates s closed final) where
  is : (f : Function) → Contains s f → IsImage f.image
  is f listed = images_of s system f listed

  abbrev setting : Function → Change
  setting f = setting_change closed final f

  abbrev closing : Function → Change
  closing f = closing_change closed final f

  abbrev settings : Function → List (ℕ × ℕ)
  settings f = setting_registers (setting f)

  -- ---- the registers of the stages

  same_bridge : (f : Function) → Contains s f → is_bridge (closed f) ≡ is_bridge f
  same_bridge f listed = bridge_same f (closed f) (are.closed_moved f listed) (is f listed)

  -- whether the upper limit comes first
  abbrev limit_first : Function → Bool
  limit_first f = nat_lt (number_at (final f).image PREFETCHABLE_BASE_UPPER 4) (number_at (closed f).image PREFETCHABLE_LIMIT_UPPER 4)

  setting_registers_are : (f : Function) → Contains s f → settings f ≡ setting_by (is_bridge f) (limit_first f)
  setting_registers_are f listed = ap (λ b. setting_by b (limit_first f)) (same_bridge f listed)

  pub setting_to : (f : Function) → Contains s f → (r : ℕ × ℕ) → Contains (settings f) r → Contains (address_registers (layout f.image)) r
  setting_to f listed r has = setting_among (is_bridge f) (limit_first f) r (subst (λ rs. Contains rs r) (setting_registers_are f listed) has)

  pub setting_from : (f : Function) → Contains s f → (r : ℕ × ℕ) → Contains (address_registers (layout f.image)) r → Contains (settings f) r
  setting_from f listed r has = subst (λ rs. Contains rs r) (sym (setting_registers_are f listed)) (among_setting (is_bridge f) (limit_first f) r has)

  plain_setting : (f : Function) → Contains s f → (r : ℕ × ℕ) → Contains (settings f) r → IsPlain (is_bridge f) r
  plain_setting f listed r has = setting_plain (is_bridge f) (limit_first f) r (subst (λ rs. Contains rs r) (setting_registers_are f listed) has)

  apart_setting : (f : Function) → AllPairs AreApart (settings f)
  apart_setting f = setting_apart (is_bridge (closed f)) (limit_first f)

  plain_closing : (f : Function) (r : ℕ × ℕ) → Contains (closing_registers f) r → IsPlain (is_bridge f) r
  plain_closing f r has = closing_plain (is_bridge f) r has

  apart_closing : (f : Function) → AllPairs AreApart (closing_registers f)
  apart_closing f = closing_apart (is_bridge f)

  abbrev opened : List (ℕ × ℕ)
  opened = (COMMAND, 2) ∷ []

  plain_opened : (bridge : Bool) (r : ℕ × ℕ) → Contains opened r → IsPlain bridge r
  plain_opened bridge r has = elim (in_cons_cases (COMMAND, 2) [] r has) [
    | inl e ↦ subst (IsPlain bridge) e record { inside = omega arith; status = inl (omega arith); second = λ b. inl (omega arith) }
    | inr none ↦ absurd (in_nil r none)
  ]

  apart_opened : AllPairs AreApart opened
  apart_opened = pairs_cons AreApart (COMMAND, 2) [] (λ r none. absurd (in_nil r none)) (pairs_nil AreApart)

  closed_slot : (f : Function) → Contains s f → (closed f).slot ≡ f.slot
  closed_slot f listed = (are.closed_moved f listed).slot

  -- ---- each write is one of a register of a listed function

  written_slot : (c : Change) (registers : List (ℕ × ℕ)) (x : Write) → Contains (flat_map (register_write c) registers) x → x.slot ≡ c.old.slot
  written_slot c registers x has = let k = register_write_is c registers x has in sym (ap (λ (w : Write). w.slot) k.is)

  opening_write : (f : Function) (x : Write) → Contains (opening_list closed final f) x → Contains (flat_map (register_write (setting f)) opened) x
  opening_write f x has = subst (λ ws. Contains ws x) (sym (append-nil (opening_list closed final f))) has

  own_closings : Own (closing_list closed final) (backwards s)
  own_closings f listed x has = written_slot (closing f) (closing_registers f) x has

  own_settings : Own (setting_list closed final) s
  own_settings f listed x has = written_slot (setting f) (settings f) x has ∙ closed_slot f listed

  own_openings : Own (opening_list closed final) s
  own_openings f listed x has = written_slot (setting f) opened x (opening_write f x has) ∙ closed_slot f listed

  -- ---- each fits

  at_its_slot : (f g : Function) (x : Write) → Contains s f → Contains s g → x.slot ≡ g.slot → IsFitting x g → same_slot f.slot x.slot ≡ true → IsFitting x f
  at_its_slot f g x in_f in_g own fits here =
      subst (IsFitting x) (one_function s system g f in_g in_f (sym (same_number f.slot g.slot (subst (λ t. same_slot f.slot t ≡ true) own here)))) fits

  closing_fits : (x : Write) → Contains (all_closings closed final s) x → FitsAt s x
  closing_fits x has f listed here =
      let piece : IsInPiece (closing_list closed final) (backwards s) x = in_flat_map_to (closing_list closed final) (backwards s) x (subst (λ ws. Contains ws x) (closings_backwards closed final s) has) in
      let g = piece.of in
      let in_g = from_backwards s g piece.has in
      at_its_slot f g x listed in_g (own_closings g piece.has x piece.piece)
      (write_fits g (is g in_g) (closing g) refl (are.closed_moved g in_g) (closing_registers g) (plain_closing g) x (register_write_is (closing g) (closing_registers g) x piece.piece)) here

  setting_fits : (x : Write) → Contains (all_settings closed final s) x → FitsAt s x
  setting_fits x has f listed here =
      let piece : IsInPiece (setting_list closed final) s x = in_flat_map_to (setting_list closed final) s x has in
      let g = piece.of in
      at_its_slot f g x listed piece.has (own_settings g piece.has x piece.piece)
      (write_fits g (is g piece.has) (setting g) (closed_slot g piece.has) (are.final_moved g piece.has) (settings g) (plain_setting g piece.has) x (register_write_is (setting g) (settings g) x piece.piece)) here

  opening_fits : (x : Write) → Contains (all_openings closed final s) x → FitsAt s x
  opening_fits x has f listed here =
      let piece : IsInPiece (opening_list closed final) s x = in_flat_map_to (opening_list closed final) s x has in
      let g = piece.of in
      at_its_slot f g x listed piece.has (own_openings g piece.has x piece.piece)
      (write_fits g (is g piece.has) (setting g) (closed_slot g piece.has) (are.final_moved g piece.has) opened (plain_opened (is_bridge g)) x (register_write_is (setting g) opened x (opening_write g x piece.piece))) here

  pub stage_fits : (x : Write) → Contains (all_stages closed final s) x → FitsAt s x
  stage_fits x has = elim (Contains-append_cases (all_closings closed final s) (all_settings closed final s ++ all_openings closed final s) x has) [
    | inl one ↦ closing_fits x one
    | inr later ↦ elim (Contains-append_cases (all_settings closed final s) (all_openings closed final s) x later) [
      | inl one ↦ setting_fits x one
      | inr one ↦ opening_fits x one
    ]
  ]

  pub all_fit : All (FitsAt s) (all_stages closed final s)
  all_fit = All-weaker (Contains (all_stages closed final s)) (FitsAt s) stage_fits (all_stages closed final s) (All-contains_itself (all_stages closed final s))

  -- writes of the stages move a function and no more
  pub stage_moved : (f g : Function) → Contains s f → IsMoved f g → (p : List Write) → ((x : Write) → Contains p x → Contains (all_stages closed final s) x) → IsMoved f (function_after g p)
  stage_moved f g listed m p sub = function_moved f (is f listed) g p m (λ x has here. stage_fits x (sub x has) f listed here)

  -- ---- closing

  module _ (p rest : List Write) (split : p ++ rest ≡ all_closings closed final s) where
    pub in_closings : (x : Write) → Contains p x → Contains (all_stages closed final s) x
    in_closings x has = Contains-append_left (all_closings closed final s) (all_settings closed final s ++ all_openings closed final s) x (subst (λ ws. Contains ws x) split (Contains-append_left p rest x has))

    closing_split : p ++ rest ≡ flat_map (closing_list closed final) (backwards s)
    closing_split = split ∙ closings_backwards closed final s

    closings_fall : AllPairs Higher (backwards s)
    closings_fall = backwards_falls s (system_rises s system)

    module _ (f : Function) (listed : Contains s f) where
      closing_reached : IsReached (closing_list closed final f) p f.slot
      closing_reached = reached (closing_list closed final) Higher higher_unlike (backwards s) closings_fall own_closings p rest closing_split f (in_backwards s f listed)

      closing_part : IsRegisters (closing f) (closing_registers f) closing_reached.part closing_reached.more
      closing_part = registers_split (closing f) (closing_registers f) closing_reached.part closing_reached.more closing_reached.split

      pub closing_moved : IsMoved f (function_after f p)
      closing_moved = stage_moved f f listed (moved_itself f (is f listed)) p in_closings

      pub closing_progress : IsProgress (closing_registers f) f (closed f) (function_after f p)
      closing_progress =
          subst (IsProgress (closing_registers f) f (closed f)) (sym (closing_reached.same f refl))
          (part_progress f (is f listed) (closing f) refl (are.closed_moved f listed) (closing_registers f) (plain_closing f) (apart_closing f) f (moved_itself f (is f listed))
          closing_reached.part closing_reached.more closing_part (λ r has. refl))

      pub closing_others : (o w : ℕ) → o + w ≤ 256 → IsApartFrom (closing_registers f) o w → number_at (function_after f p).image o w ≡ number_at f.image o w
      closing_others o w inside free =
          ap (λ (g : Function). number_at g.image o w) (closing_reached.same f refl)
          ∙ part_leaves f (is f listed) (closing f) refl (are.closed_moved f listed) (closing_registers f) (plain_closing f) (apart_closing f) f (moved_itself f (is f listed))
          closing_reached.part closing_reached.more closing_part o w inside free

  -- ---- once all are closed

  module _ (f : Function) (listed : Contains s f) where
    closed_whole : function_after f (all_closings closed final s) ≡ function_after f (closing_list closed final f)
    closed_whole =
        ap (function_after f) (closings_backwards closed final s)
        ∙ whole (closing_list closed final) Higher higher_unlike (backwards s) (backwards_falls s (system_rises s system)) own_closings f (in_backwards s f listed) f refl

    closed_shows : ShowAs (closing_registers f) (closed f) (function_after f (closing_list closed final f))
    closed_shows =
        made_shows f (is f listed) (closing f) refl (are.closed_moved f listed) (closing_registers f) (plain_closing f) (apart_closing f) f (moved_itself f (is f listed))
        (closing_registers f) (λ r has. has) (λ r has. refl)

    closed_moves : IsMoved f (function_after f (closing_list closed final f))
    closed_moves =
        made_moved f (is f listed) (closing f) refl (are.closed_moved f listed) (closing_registers f) (plain_closing f) (apart_closing f) f (moved_itself f (is f listed))
        (closing_registers f) (λ r has. has)

    closed_byte : (place : ℕ) → place < 256 → byte_at (function_after f (closing_list closed final f)).image place ≡ byte_at (closed f).image place
    closed_byte place inside = elim (cases_Bool (list_any (is_in_register place) (closing_registers f))) [
      | inl there ↦
          byte_within (closing_registers f) (function_after f (closing_list closed final f)) (closed f) place closed_moves.image (are.closed_moved f listed).image closed_shows there
      | inr out ↦
          byte_from_number (function_after f (closing_list closed final f)) f place
          (made_leaves f (is f listed) (closing f) refl (are.closed_moved f listed) (closing_registers f) (plain_closing f) (apart_closing f) f (moved_itself f (is f listed))
          (closing_registers f) (λ r has. has) place 1 (omega (arith, inside)) (byte_apart (closing_registers f) place out))
          ∙ sym (are.closed_rest f place listed inside out)
    ]

    closed_by_itself : function_after f (closing_list closed final f) ≡ closed f
    closed_by_itself = same_by_bytes f (function_after f (closing_list closed final f)) (closed f) closed_moves (are.closed_moved f listed) closed_byte

    pub all_closed : function_after f (all_closings closed final s) ≡ closed f
    all_closed = closed_whole ∙ closed_by_itself

  -- the higher of two functions is closed, or the lower one is as it was
  pub closing_order : (p rest : List Write) → p ++ rest ≡ all_closings closed final s → (f b : Function) → Contains s f → Contains s b → slot_number b.slot < slot_number f.slot
      → (function_after f p ≡ closed f) ⊎ (function_after b p ≡ b)
  closing_order p rest split f b in_f in_b low =
      elim (in_turn (closing_list closed final) Higher higher_unlike (backwards s) (backwards_falls s (system_rises s system)) own_closings p rest (split ∙ closings_backwards closed final s)
      f b (in_backwards s f in_f) (in_backwards s b in_b) (higher_unlike f b low) (λ other. let no : ⊥ = omega (arith, other, low) in no)) [
        | inl done ↦ inl (done f refl ∙ closed_by_itself f in_f)
        | inr waits ↦ inr (waits b refl)
      ]

  -- ---- registers

  module _ (p rest : List Write) (split : p ++ rest ≡ all_settings closed final s) where
    pub in_settings : (x : Write) → Contains p x → Contains (all_stages closed final s) x
    in_settings x has =
        Contains-append_right (all_closings closed final s) (all_settings closed final s ++ all_openings closed final s) x
        (Contains-append_left (all_settings closed final s) (all_openings closed final s) x (subst (λ ws. Contains ws x) split (Contains-append_left p rest x has)))

    module _ (f : Function) (listed : Contains s f) where
      setting_reached : IsReached (setting_list closed final f) p f.slot
      setting_reached = reached (setting_list closed final) Lower lower_unlike s (system_rises s system) own_settings p rest split f listed

      setting_part : IsRegisters (setting f) (settings f) setting_reached.part setting_reached.more
      setting_part = registers_split (setting f) (settings f) setting_reached.part setting_reached.more setting_reached.split

      pub setting_moved : IsMoved f (function_after (closed f) p)
      setting_moved = stage_moved f (closed f) listed (are.closed_moved f listed) p in_settings

      pub setting_progress : IsProgress (settings f) (closed f) (final f) (function_after (closed f) p)
      setting_progress =
          subst (IsProgress (settings f) (closed f) (final f)) (sym (setting_reached.same (closed f) (closed_slot f listed)))
          (part_progress f (is f listed) (setting f) (closed_slot f listed) (are.final_moved f listed) (settings f) (plain_setting f listed) (apart_setting f) (closed f) (are.closed_moved f listed)
          setting_reached.part setting_reached.more setting_part (λ r has. refl))

      pub setting_others : (o w : ℕ) → o + w ≤ 256 → IsApartFrom (address_registers (layout f.image)) o w → number_at (function_after (closed f) p).image o w ≡ number_at (closed f).image o w
      setting_others o w inside free =
          ap (λ (g : Function). number_at g.image o w) (setting_reached.same (closed f) (closed_slot f listed))
          ∙ part_leaves f (is f listed) (setting f) (closed_slot f listed) (are.final_moved f listed) (settings f) (plain_setting f listed) (apart_setting f) (closed f) (are.closed_moved f listed)
          setting_reached.part setting_reached.more setting_part o w inside (λ r has. free r (setting_to f listed r has))

      pub setting_command : command (function_after (closed f) p).image ≡ command (closed f).image
      setting_command = setting_others 4 2 (omega arith) (λ r has. let low = address_low (is_bridge f) r has in inl (omega (arith, low)))

  -- a function once its registers are set
  abbrev pub set_function : Function → Function
  set_function f = function_after (closed f) (all_settings closed final s)

  -- ---- once all are set

  module _ (f : Function) (listed : Contains s f) where
    set_whole : set_function f ≡ function_after (closed f) (setting_list closed final f)
    set_whole = whole (setting_list closed final) Lower lower_unlike s (system_rises s system) own_settings f listed (closed f) (closed_slot f listed)

    pub set_moved : IsMoved f (set_function f)
    set_moved = setting_moved (all_settings closed final s) [] (append-nil (all_settings closed final s)) f listed

    pub set_command : command (set_function f).image ≡ command (closed f).image
    set_command = setting_command (all_settings closed final s) [] (append-nil (all_settings closed final s)) f listed

    pub set_shows : ShowAs (address_registers (layout f.image)) (final f) (set_function f)
    set_shows r has =
        ap (λ (g : Function). number_at g.image r.0 r.1) set_whole
        ∙ made_shows f (is f listed) (setting f) (closed_slot f listed) (are.final_moved f listed) (settings f) (plain_setting f listed) (apart_setting f) (closed f) (are.closed_moved f listed)
        (settings f) (λ q in_q. in_q) (λ q in_q. refl) r (setting_from f listed r has)

    not_in_command : (place : ℕ) → (place < 4) ⊎ (6 ≤ place) → is_in_register place (COMMAND, 2) ≡ false
    not_in_command place (inl low) = and_left (nat_le 4 place) (nat_lt place 6) (lt-leb 4 place low)
    not_in_command place (inr high) = and_right (nat_le 4 place) (nat_lt place 6) (le-ltb place 6 high)

    -- what isn't set was not closed
    closed_aside : (place : ℕ) → (place < 4) ⊎ (6 ≤ place) → list_any (is_in_register place) (address_registers (layout f.image)) ≡ false → list_any (is_in_register place) (closing_registers f) ≡ false
    closed_aside place aside out = none_by (is_in_register place) (closing_registers f) (λ r has.
        elim (in_cons_cases (COMMAND, 2) (address_registers (layout f.image)) r (closing_among (is_bridge f) r has)) [
          | inl e ↦ subst (λ (q : ℕ × ℕ). is_in_register place q ≡ false) e (not_in_command place aside)
          | inr address ↦ none_passes (is_in_register place) (address_registers (layout f.image)) out r address
        ])

    pub set_bytes : (place : ℕ) → place < 256 → (place < 4) ⊎ (6 ≤ place) → byte_at (set_function f).image place ≡ byte_at (final f).image place
    set_bytes place inside aside = elim (cases_Bool (list_any (is_in_register place) (address_registers (layout f.image)))) [
      | inl there ↦ byte_within (address_registers (layout f.image)) (set_function f) (final f) place set_moved.image (are.final_moved f listed).image set_shows there
      | inr out ↦
          byte_from_number (set_function f) (closed f) place
          (setting_others (all_settings closed final s) [] (append-nil (all_settings closed final s)) f listed place 1 (omega (arith, inside)) (byte_apart (address_registers (layout f.image)) place out))
          ∙ are.closed_rest f place listed inside (closed_aside place aside out)
          ∙ sym (are.final_rest f place listed inside aside out)
    ]

    -- ---- a function is opened by one write

    opened_moves : IsMoved f (function_after (set_function f) (flat_map (register_write (setting f)) opened))
    opened_moves =
        made_moved f (is f listed) (setting f) (closed_slot f listed) (are.final_moved f listed) opened (plain_opened (is_bridge f)) apart_opened (set_function f) set_moved opened (λ r has. has)

    opened_shows : ShowAs opened (final f) (function_after (set_function f) (flat_map (register_write (setting f)) opened))
    opened_shows =
        made_shows f (is f listed) (setting f) (closed_slot f listed) (are.final_moved f listed) opened (plain_opened (is_bridge f)) apart_opened (set_function f) set_moved opened (λ r has. has)
        (λ r has. elim (in_cons_cases (COMMAND, 2) [] r has) [
          | inl e ↦ subst (λ (q : ℕ × ℕ). number_at (set_function f).image q.0 q.1 ≡ number_at (closed f).image q.0 q.1) e set_command
          | inr none ↦ absurd (in_nil r none)
        ])

    opened_byte : (place : ℕ) → place < 256 → byte_at (function_after (set_function f) (flat_map (register_write (setting f)) opened)).image place ≡ byte_at (final f).image place
    opened_byte place inside = elim (cases_Bool (list_any (is_in_register place) opened)) [
      | inl there ↦ byte_within opened (function_after (set_function f) (flat_map (register_write (setting f)) opened)) (final f) place opened_moves.image (are.final_moved f listed).image opened_shows there
      | inr out ↦
          let free = byte_apart opened place out in
          byte_from_number (function_after (set_function f) (flat_map (register_write (setting f)) opened)) (set_function f) place
          (made_leaves f (is f listed) (setting f) (closed_slot f listed) (are.final_moved f listed) opened (plain_opened (is_bridge f)) apart_opened (set_function f) set_moved opened (λ r has. has)
          place 1 (omega (arith, inside)) free)
          ∙ set_bytes place inside (elim (free (COMMAND, 2) (in_head (COMMAND, 2) [])) [ inl low ↦ inl (omega (arith, low)) | inr high ↦ inr (omega (arith, high)) ])
    ]

    pub opened_by_itself : function_after (set_function f) (opening_list closed final f) ≡ final f
    opened_by_itself =
        ap (function_after (set_function f)) (sym (append-nil (opening_list closed final f)))
        ∙ same_by_bytes f (function_after (set_function f) (flat_map (register_write (setting f)) opened)) (final f) opened_moves (are.final_moved f listed) opened_byte

    set_slot : (set_function f).slot ≡ f.slot
    set_slot = set_moved.slot

  -- ---- opening

  module _ (p rest : List Write) (split : p ++ rest ≡ all_openings closed final s) where
    pub opening_progress : (f : Function) → Contains s f → (function_after (set_function f) p ≡ set_function f) ⊎ (function_after (set_function f) p ≡ final f)
    opening_progress f listed =
        let r : IsReached (opening_list closed final f) p f.slot = reached (opening_list closed final) Lower lower_unlike s (system_rises s system) own_openings p rest split f listed in
        let same = r.same (set_function f) (set_slot f listed) in
        elim (choice_or_none (number_at (final f).image COMMAND 2 == number_at (closed f).image COMMAND 2) (number_write (setting f) (COMMAND, 2)) r.part r.more r.split) [
          | inl none ↦ inl (same ∙ ap (function_after (set_function f)) none.0)
          | inr all ↦ inr (same ∙ ap (function_after (set_function f)) all.0 ∙ opened_by_itself f listed)
        ]

  -- the lower of two functions is open as it is to be, or the higher one is as it was
  pub opening_order : (p rest : List Write) → p ++ rest ≡ all_openings closed final s → (f b : Function) → Contains s f → Contains s b → slot_number b.slot < slot_number f.slot
      → (function_after (set_function b) p ≡ final b) ⊎ (function_after (set_function f) p ≡ set_function f)
  opening_order p rest split f b in_f in_b low =
      elim (in_turn (opening_list closed final) Lower lower_unlike s (system_rises s system) own_openings p rest split
      b f in_b in_f (lower_unlike b f low) (λ other. let no : ⊥ = omega (arith, other, low) in no)) [
        | inl done ↦ inl (done (set_function b) (set_slot b in_b) ∙ opened_by_itself b in_b)
        | inr waits ↦ inr (waits (set_function f) (set_slot f in_f))
      ]

  -- ---- all

  -- a function after the first stage, and after two
  pub after_closings : (f : Function) → Contains s f → (p : List Write) → function_after f (all_closings closed final s ++ p) ≡ function_after (closed f) p
  after_closings f listed p = function_parts f (all_closings closed final s) p ∙ ap (λ g. function_after g p) (all_closed f listed)

  pub after_settings : (f : Function) → Contains s f → (p : List Write) → function_after f ((all_closings closed final s ++ all_settings closed final s) ++ p) ≡ function_after (set_function f) p
  after_settings f listed p =
      function_parts f (all_closings closed final s ++ all_settings closed final s) p
      ∙ ap (λ g. function_after g p) (after_closings f listed (all_settings closed final s))

  pub end_is_final : (f : Function) → Contains s f → function_after f (all_stages closed final s) ≡ final f
  end_is_final f listed =
      after_closings f listed (all_settings closed final s ++ all_openings closed final s)
      ∙ function_parts (closed f) (all_settings closed final s) (all_openings closed final s)
      ∙ whole (opening_list closed final) Lower lower_unlike s (system_rises s system) own_openings f listed (set_function f) (set_slot f listed)
      ∙ opened_by_itself f listed
