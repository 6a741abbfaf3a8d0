-- The writes of settling what words take, as they are printed, go along with these words.
use Rattle.std.proofs.Common.{◌≡◌, ℕ, zero, suc, [], ◌∷◌, List, Bool, true, false, ◌&&◌, ◌||◌, not, inl, inr, refl, sym, ◌∙◌, ap, subst, arith, map, take, set}
use Rattle.std.specs.Bool.{nat_le, nat_lt, ◌==◌, if◌then◌else◌}
use Rattle.std.specs.List.{All, AllZip, Contains, list_any}
use Rattle.std.proofs.lemmas.Bool.{and_cases, and_from, and_parts, both_ways, cases_Bool, cond_both, false_from_ne_true, ltb-true, or_parts}
use Rattle.std.proofs.lemmas.List.Elements.{All-contains, All-take}
use Rattle.pci_spec.specs.Header.{command, primary_bus}
use Rattle.pci_spec.specs.Slot.{Slot, same_slot}
use Rattle.pci_spec.specs.Bus.{secondary, subordinate}
use Rattle.pci_spec.specs.Machine.{Write, after_writes, system_after, target_of}
use Rattle.pci_spec.specs.System.{Function, IsFunction, IsSystem, System, function_of, is_bridge, system_of}
use Rattle.pci_spec.specs.Text.{Block}
use Rattle.pci_spec.proofs.BusRanges.{any_from, any_gives}
use Rattle.pci_spec.proofs.Members.{in_cons_cases, in_head, in_map_from, in_nil, in_tail}
use Rattle.pci_spec.proofs.Nesting.{one_function}
use Rattle.pci_spec.proofs.SameSlot.{slot_itself, slots_same}
use Rattle.plan_spec.specs.Planning.Fitting.{FitsAt}
use Rattle.plan_spec.proofs.Planning.Kept.{images_of}
use Rattle.plan_spec.proofs.Planning.OwnMachine.{own_machine}
use Rattle.plan_spec.proofs.Planning.Writes.{same_number}
use Rattle.settle_spec.specs.Lists.{Request}
use Rattle.settle_laws.proofs.Told.Settling.{fixed_is_not_written}
use Rattle.judge_spec.specs.Bytes.{without_registers}
use Rattle.judge_spec.specs.ModelWords.{Words}
use Rattle.judge_spec.specs.Asleep.{AreSlotsWhere}
use Rattle.judge_spec.specs.Taken.{AreFunctionsTakenAs, IsAsleepBy, IsTakenAs}
use Rattle.judge_spec.proofs.Kept.{slots_same as all_slots_same}
use Rattle.judge_spec.specs.Words.{is_alone, unclaimed_aside}
use Rattle.pci_spec.specs.Registers.{SECONDARY_BUS_RESET}
use Rattle.pci_spec.specs.Fault.{controls_bridge}
use Rattle.pci_spec.specs.Window.{WindowKind, IoWindow, MemoryWindow, PrefetchWindow, bounds_at, breaks_window_rule, is_optional, is_zero, shows_window}
use Rattle.plan_spec.proofs.Planning.SameBytes.{bounds_same}
use Rattle.std.proofs.lemmas.List.{get_or-set_other}
use Rattle.pci_model_settle.specs.Unmoved.{has_stuck_window, is_among, is_below, is_bridge_unmoved, is_unmoved, unmoved_among}
use Rattle.pci_model_settle.specs.Listed.{listed_command, listed_write}
use Rattle.pci_model_settle.specs.OffDevices.{function_without, functions_without}
use Rattle.settle_answer_laws.specs.WordStops.{IsSettledAsTaken, MachinesShowStops, WordsTakeStops, printed_after}
use Rattle.settle_answer_laws.proofs.GivenSparing.{sparing_device_write, sparing_fits, sparing_write}
use Rattle.settle_answer_laws.proofs.ListedWrites.{put_write, slot_is}
use Rattle.settle_answer_laws.proofs.PrintedStops.{printed_fit, system_put}
use Rattle.settle_answer_laws.proofs.WordsAfter.{AreFitting, IsLeftAlone, IsListing, IsPair, IsWritten, alone_aside, aside_shows, each_aside, words_after}
use Rattle.settle_answer_laws.proofs.Along.{IsAs}
use Rattle.plan_spec.proofs.Planning.Fit.{moved_itself, moved_start}
use Rattle.settle_answer_laws.proofs.InterfacesAside.{asleep_aside}
use Rattle.settle_answer_laws.proofs.TakenAlong.{AreWindowsShown, first_along}

-- ---- Command of a dump

module _ (s : System) (system : IsSystem s) where
  command_of : (dump probe : List Block) → ((g : Function) → Contains (system_of dump probe) g → Contains s g) → (f : Function) → Contains (system_of dump probe) f → listed_command dump f.slot ≡ command f.image
  command_of [] probe among f has = absurd (in_nil f has)
  command_of (b ∷ dump) [] among f has = absurd (in_nil f has)
  command_of (b ∷ dump) (p ∷ probe) among f has = elim (cases_Bool (same_slot b.slot f.slot)) [
    | inl here ↦
        let same : function_of b p ≡ f = one_function s system (function_of b p) f (among (function_of b p) (in_head (function_of b p) (system_of dump probe))) (among f has) (same_number b.slot f.slot here) in
        ap (λ t. if t then command b.image else listed_command dump f.slot) here ∙ ap (λ (g : Function). command g.image) same
    | inr other ↦
        ap (λ t. if t then command b.image else listed_command dump f.slot) other ∙ elim (in_cons_cases (function_of b p) (system_of dump probe) f has) [
          | inl is ↦ absurd (both_ways (same_slot b.slot f.slot) other (ap (same_slot b.slot) (sym (ap (λ (g : Function). g.slot) is)) ∙ slot_itself b.slot))
          | inr more ↦ command_of dump probe (λ g in_g. among g (in_tail (function_of b p) (system_of dump probe) g in_g)) f more
        ]
  ]

-- the writes are listed so
listing : (dump probe : List Block) → IsSystem (system_of dump probe) → IsListing (listed_write dump) (system_of dump probe)
listing dump probe system = record {
  slot = λ u. slot_is u (listed_command dump u.slot);
  own = λ f has u here. λ i. put_write ((ap (listed_command dump) (sym (slots_same f.slot u.slot here)) ∙ command_of (system_of dump probe) system dump probe (λ g in_g. in_g) f has) i) u;
}

-- ---- those that stay

-- what stays as it is is fixed
module _ (q : Request) (w : Words) (asleep : List Slot) (t : System) (fixed : List Slot) where
  abbrev AreFixed : System → System → Type 0
  AreFixed r u = (slot : Slot) → Contains (unmoved_among w asleep t r u) slot → Contains fixed slot

  -- one that stays is listed, and the others are behind it
  head_fixed : (f h : Function) (r u : System) → AreFixed (f ∷ r) (h ∷ u) → is_unmoved w asleep t f h ≡ true → Contains fixed f.slot
  head_fixed f h r u are stays = are f.slot (subst (λ b. Contains (if b then f.slot ∷ unmoved_among w asleep t r u else unmoved_among w asleep t r u) f.slot) (sym stays) (in_head f.slot (unmoved_among w asleep t r u)))

  rest_fixed : (f h : Function) (r u : System) → AreFixed (f ∷ r) (h ∷ u) → AreFixed r u
  rest_fixed f h r u are slot has = elim (cases_Bool (is_unmoved w asleep t f h)) [
    | inl stays ↦ are slot (subst (λ b. Contains (if b then f.slot ∷ unmoved_among w asleep t r u else unmoved_among w asleep t r u) slot) (sym stays) (in_tail f.slot (unmoved_among w asleep t r u) slot has))
    | inr moves ↦ are slot (subst (λ b. Contains (if b then f.slot ∷ unmoved_among w asleep t r u else unmoved_among w asleep t r u) slot) (sym moves) has)
  ]

-- each slot where something holds is listed
holds_listed : (P : Function → Type 0) (r : System) (slots : List Slot) → AreSlotsWhere P r slots → (f : Function) → Contains r f → P f → Contains slots f.slot
holds_listed P [] slots is f has holds = absurd (in_nil f has)
holds_listed P (x ∷ r) slots (inl (here, (more, is, rest))) f has holds = subst (λ (ss : List Slot). Contains ss f.slot) (sym is) (elim (in_cons_cases x r f has) [
  | inl first ↦ subst (λ (y : Function). Contains (x.slot ∷ more) y.slot) first (in_head x.slot more)
  | inr later ↦ in_tail x.slot more f.slot (holds_listed P r more rest f later holds)
])
holds_listed P (x ∷ r) slots (inr (none, rest)) f has holds = elim (in_cons_cases x r f has) [
  | inl first ↦ absurd (none (subst P (sym first) holds))
  | inr later ↦ holds_listed P r slots rest f later holds
]

-- ---- windows

each_kind : (f : Function) → has_stuck_window f.image f.probe ≡ false → (kind : WindowKind) → breaks_window_rule kind f.image f.probe ≡ false
each_kind f none IoWindow =
    let two = or_parts (breaks_window_rule IoWindow f.image f.probe || breaks_window_rule MemoryWindow f.image f.probe) (breaks_window_rule PrefetchWindow f.image f.probe) none in
    (or_parts (breaks_window_rule IoWindow f.image f.probe) (breaks_window_rule MemoryWindow f.image f.probe) two.0).0
each_kind f none MemoryWindow =
    let two = or_parts (breaks_window_rule IoWindow f.image f.probe || breaks_window_rule MemoryWindow f.image f.probe) (breaks_window_rule PrefetchWindow f.image f.probe) none in
    (or_parts (breaks_window_rule IoWindow f.image f.probe) (breaks_window_rule MemoryWindow f.image f.probe) two.0).1
each_kind f none PrefetchWindow =
    (or_parts (breaks_window_rule IoWindow f.image f.probe || breaks_window_rule MemoryWindow f.image f.probe) (breaks_window_rule PrefetchWindow f.image f.probe) none).1

-- the interface is in no window
aside_windows : (w : Words) (s : System) (f : Function) (kind : WindowKind) → breaks_window_rule kind (alone_aside w s f).image (alone_aside w s f).probe ≡ breaks_window_rule kind f.image f.probe
aside_windows w s f kind =
    cond_both w.unclaimed (unclaimed_aside s f) f (λ (x : Function). breaks_window_rule kind x.image x.probe ≡ breaks_window_rule kind f.image f.probe)
    (λ on. cond_both (is_alone s f) (record { slot = f.slot; image = set f.image 9 0; probe = f.probe }) f (λ (x : Function). breaks_window_rule kind x.image x.probe ≡ breaks_window_rule kind f.image f.probe)
    (λ alone. ap (λ b. not (shows_window kind b (bounds_at kind f.probe) || (is_optional kind && is_zero b && is_zero (bounds_at kind f.probe))))
    (bounds_same (set f.image 9 0) f.image (λ place from to. get_or-set_other f.image 9 place 0 0 (λ e. let no : ⊥ = omega (arith, e, from) in no)) kind))
    (λ other. refl))
    (λ off. refl)

-- a slot among some is one of them
pub among_has : (slots : List Slot) (slot : Slot) → is_among slots slot ≡ true → Contains slots slot
among_has slots slot is =
    let found = any_gives (same_slot slot) slots is in
    subst (λ x. Contains slots x) (sym (slots_same slot found.0 found.2)) found.1

-- a member of the first so many is one of all
in_take : (n : ℕ) (writes : List Write) (u : Write) → Contains (take n writes) u → Contains writes u
in_take zero writes u has = absurd (in_nil u has)
in_take (suc n) [] u has = absurd (in_nil u has)
in_take (suc n) (x ∷ writes) u has = elim (in_cons_cases x (take n writes) u has) [
  | inl is ↦ subst (λ y. Contains (x ∷ writes) y) is (in_head x writes)
  | inr more ↦ in_tail x writes u (in_take n writes u more)
]

module _ (q : Request) (w : Words) (slots : List Slot) (dump probe : List Block) (t : System) (writes : List Write) (n : ℕ) (set_so : IsSettledAsTaken q w slots dump probe t writes) where
  abbrev s : System
  s = system_of dump probe

  abbrev asleep : List Slot
  asleep = set_so.stay.asleep

  abbrev firsts : List Write
  firsts = take n writes

  -- what is settled
  abbrev rest : System
  rest = functions_without set_so.left t

  -- one that isn't left out is settled as it is
  stays_in : (h : Function) → Contains t h → is_among set_so.left h.slot ≡ false → Contains rest h
  stays_in h has other =
      subst (λ x. Contains rest x) (ap (λ b. if b then record { slot = h.slot; image = without_registers h.image; probe = without_registers h.probe } else h) other)
      (in_map_from (function_without set_so.left) t h has)

  fits : (h : Function) → Contains rest h → AreFitting firsts h
  fits h has u in_u here = All-contains (FitsAt rest) firsts u (All-take (FitsAt rest) n writes (sparing_fits q rest writes set_so.asked set_so.ended)) in_u h has here

  -- no write is one of a fixed function
  pub left_alone : (f : Function) → Contains q.fixed f.slot → IsLeftAlone firsts f
  left_alone f has u in_u = false_from_ne_true (same_slot f.slot u.slot) (λ here.
      let same = slots_same f.slot u.slot here in
      both_ways (list_any (same_slot u.slot) q.fixed) (fixed_is_not_written q rest writes u set_so.ended (in_take n writes u in_u))
      (any_from (same_slot u.slot) q.fixed f.slot has (ap (same_slot u.slot) same ∙ slot_itself u.slot)))

  -- what is left out is fixed
  pub left_fixed : (slot : Slot) → is_among set_so.left slot ≡ true → Contains q.fixed slot
  left_fixed slot is = set_so.fixed slot (set_so.are_left slot (among_has set_so.left slot is))

  module _ (f h : Function) (in_f : Contains s f) (in_h : Contains rest h) (moves : is_unmoved w asleep t f h ≡ false) where
    parts : ((is_among asleep f.slot || is_below asleep t f.slot.bus) ≡ false) × (is_bridge_unmoved w f h ≡ false)
    parts = or_parts (is_among asleep f.slot || is_below asleep t f.slot.bus) (is_bridge_unmoved w f h) moves

    not_among : is_among asleep f.slot ≡ false
    not_among = (or_parts (is_among asleep f.slot) (is_below asleep t f.slot.bus) parts.0).0

    abbrev in_reset : Bool
    in_reset = w.reset && controls_bridge f.image SECONDARY_BUS_RESET

    abbrev leads_nowhere : Bool
    leads_nowhere = is_bridge f && not (is_bridge h)

    abbrev is_stuck : Bool
    is_stuck = w.windows && is_bridge h && has_stuck_window f.image f.probe

    bridge_parts : ((in_reset || leads_nowhere) ≡ false) × (is_stuck ≡ false)
    bridge_parts = or_parts (in_reset || leads_nowhere) is_stuck parts.1

    leads : is_bridge f ≡ true → is_bridge h ≡ true
    leads bridge = elim (cases_Bool (is_bridge h)) [
      | inl bridge_too ↦ bridge_too
      | inr none ↦ absurd (both_ways leads_nowhere (or_parts in_reset leads_nowhere bridge_parts.0).1 (and_from (is_bridge f) (not (is_bridge h)) bridge (ap not none)))
    ]

    abbrev a : Function
    a = alone_aside w s f

    as_it : IsAs f a
    as_it = aside_shows w slots s set_so.system (listed_write dump) firsts (listing dump probe set_so.system) f in_f

    shown_before : AreWindowsShown w f
    shown_before counts kind =
        let both = and_parts w.windows (is_bridge f) counts in
        let fine : has_stuck_window f.image f.probe ≡ false = elim (and_cases (w.windows && is_bridge h) (has_stuck_window f.image f.probe) bridge_parts.1) [
          | inl off ↦ absurd (both_ways (w.windows && is_bridge h) off (and_from w.windows (is_bridge h) both.0 (leads both.1)))
          | inr none ↦ none
        ] in
        each_kind f fine kind

    shown : AreWindowsShown w a
    shown counts kind = aside_windows w s f kind ∙ shown_before (ap (λ n. w.windows && n == 1) (sym as_it.kind) ∙ counts) kind

    awake : IsAsleepBy w a → ⊥
    awake is =
        let image = (All-contains IsFunction s f set_so.system.each in_f).image in
        let first = (first_along a a as_it.image (moved_itself a as_it.image) w shown).before.image in
        both_ways (is_among asleep f.slot) not_among
        (any_from (same_slot f.slot) asleep f.slot (holds_listed (IsAsleepBy w) s asleep set_so.stay.are_asleep f in_f (asleep_aside w s f image first shown shown_before is)) (slot_itself f.slot))

    numbers : is_bridge h ≡ true → secondary h ≡ 0 → ⊥
    numbers bridge zero_is =
        let order = set_so.asked.admitted.nested.order h in_h bridge in
        let first = and_parts (primary_bus h.image == h.slot.bus && nat_lt h.slot.bus (secondary h)) (nat_le (secondary h) (subordinate h)) order in
        let second = and_parts (primary_bus h.image == h.slot.bus) (nat_lt h.slot.bus (secondary h)) first.0 in
        let less = ltb-true h.slot.bus (secondary h) second.1 in
        omega (arith, less, zero_is)

    written : IsWritten w s firsts f h
    written = record {
      stirred = record { awake = awake; shown = shown; leads = λ bridge. leads (ap (λ n. n == 1) (sym as_it.kind) ∙ bridge); numbers = numbers };
      fits = fits h in_h;
      registers = λ device u in_u here. sparing_device_write q rest writes set_so.asked set_so.ended h in_h device u (in_take n writes u in_u) here;
    }

  -- each function is fixed or goes along
  pairs : (r u : System) → ((f : Function) → Contains r f → Contains s f) → ((h : Function) → Contains u h → Contains t h) → map (λ (f : Function). f.slot) u ≡ map (λ (f : Function). f.slot) r
      → AllZip (IsTakenAs w slots) (map (alone_aside w s) r) u → AreFixed q w asleep t q.fixed r u → AllZip (IsPair w slots s set_so.system (listed_write dump) firsts (listing dump probe set_so.system)) r u
  pairs [] [] in_s in_t same taken fixed = tt
  pairs [] (h ∷ u) in_s in_t same taken fixed = absurd taken
  pairs (f ∷ r) [] in_s in_t same taken fixed = absurd taken
  pairs (f ∷ r) (h ∷ u) in_s in_t same (taken, rest) fixed =
      let first : h.slot ≡ f.slot = cc in
      let more : map (λ (f : Function). f.slot) u ≡ map (λ (f : Function). f.slot) r = cc in (
        record {
          has = in_s f (in_head f r);
          taken = taken;
          slot = first;
          either = elim (cases_Bool (is_unmoved w asleep t f h)) [
            | inl stays ↦ inl (left_alone f (head_fixed q w asleep t q.fixed f h r u fixed stays))
            | inr moves ↦ elim (cases_Bool (is_among set_so.left h.slot)) [
              | inl left ↦ inl (left_alone f (subst (λ x. Contains q.fixed x) first (left_fixed h.slot left)))
              | inr other ↦ inr (written f h (in_s f (in_head f r)) (stays_in h (in_t h (in_head h u)) other) moves)
            ]
          ];
        },
        pairs r u (λ g has. in_s g (in_tail f r g has)) (λ g has. in_t g (in_tail h u g has)) more rest (rest_fixed q w asleep t q.fixed f h r u fixed),
      )

  all_pairs : AllZip (IsPair w slots s set_so.system (listed_write dump) firsts (listing dump probe set_so.system)) s t
  all_pairs = pairs s t (λ f has. has) (λ h has. has) (all_slots_same w slots s t set_so.taken)
      (subst (λ x. AllZip (IsTakenAs w slots) x t) (each_aside w s) set_so.taken)
      (λ slot has. set_so.fixed slot (subst (λ (ss : List Slot). Contains ss slot) (sym set_so.stay.are) has))

  -- the printed writes fit the dump
  pub printed_fits : All (FitsAt s) (map (listed_write dump) firsts)
  printed_fits = printed_fit w slots s set_so.system (listed_write dump) firsts (listing dump probe set_so.system)
      (λ u has. sparing_write q rest writes set_so.asked set_so.ended u (in_take n writes u has)) t all_pairs

  -- so what they put in is what functions show after them
  pub shows : printed_after dump probe firsts ≡ system_after s (map (listed_write dump) firsts)
  shows = system_put dump probe (map (listed_write dump) firsts) set_so.system printed_fits

  -- and a machine
  pub machine_shows : after_writes (map target_of s) (map (listed_write dump) firsts) ≡ map target_of (printed_after dump probe firsts)
  machine_shows =
      let images = images_of s set_so.system in
      own_machine s images s (map (listed_write dump) firsts) (moved_start s images) printed_fits ∙ ap (map target_of) (sym shows)

-- The laws.
pub machines_show_stops : MachinesShowStops
machines_show_stops q w slots dump probe t writes n set_so = machine_shows q w slots dump probe t writes n set_so

pub words_take_stops : WordsTakeStops
words_take_stops q w slots dump probe t writes n set_so =
    subst (λ x. AreFunctionsTakenAs w slots x (system_after t (take n writes))) (sym (shows q w slots dump probe t writes n set_so))
    (words_after w slots (system_of dump probe) set_so.system (listed_write dump) (take n writes) (listing dump probe set_so.system) t
    (all_pairs q w slots dump probe t writes n set_so))
