-- Some registers of a function are written, one after another: what it shows meanwhile.
use Rattle.std.proofs.Common.{◌≡◌, ℕ, ◌+◌, ◌<◌, ◌≤◌, ◌⊎◌, inl, inr, List, [], ◌∷◌, ◌++◌, refl, Bool, true, false, cond, ◌&&◌, ◌||◌, arith, sym, ◌∙◌, ap, subst}
use Rattle.std.specs.Bool.{nat_le, nat_lt, ◌==◌, if◌then◌else◌}
use Rattle.std.specs.List.{AllPairs, Contains, flat_map, list_all, list_any}
use Rattle.std.proofs.lemmas.Bool.{and_parts, both_ways, cases_Bool, eqb-true, leb-true, ltb-true, or_cases}
use Rattle.std.proofs.lemmas.List.{ext_get_or}
use Rattle.std.proofs.lemmas.List.Elements.{Contains-append_left, Contains-append_right}
use Rattle.pci_spec.specs.Number.{byte_at, number_at, IsImage}
use Rattle.pci_spec.specs.Slot.{Slot, same_slot}
use Rattle.pci_spec.specs.Registers.{COMMAND, IO_BASE, IO_BASE_UPPER, MEMORY_BASE, PREFETCHABLE_BASE, PREFETCHABLE_BASE_UPPER, PREFETCHABLE_LIMIT_UPPER, BRIDGE_EXPANSION_ROM}
use Rattle.pci_spec.specs.Header.{bar_register, registers_by, is_in_register}
use Rattle.pci_spec.specs.System.{Function, is_bridge}
use Rattle.pci_spec.specs.Machine.{Write}
use Rattle.pci_spec.proofs.Members.{in_nil, in_cons_cases, in_head, IsInPiece, in_flat_map_to, in_flat_map_from, pairs_nil, pairs_cons}
use Rattle.pci_spec.proofs.SameSlot.{slot_itself}
use Rattle.plan_spec.specs.Plan.{IsMoved}
use Rattle.plan_spec.specs.Planning.Fitting.{IsFitting, FitsByNumber}
use Rattle.plan_spec.specs.Planning.PlanWrites.{Change, register_write}
use Rattle.plan_spec.proofs.Planning.Behind.{Passes, all_gives, any_gives}
use Rattle.plan_spec.proofs.Planning.OtherRules.{byte_number}
use Rattle.plan_spec.proofs.Planning.Reached.{byte_of_number, two_of}
use Rattle.plan_spec.proofs.Planning.Registers.{fits_by_number, number_below}
use Rattle.plan_spec.proofs.Planning.Settled.{IsQuiet, IsSetting, function_after, function_moved, settled, untouched}
use Rattle.plan_spec.proofs.Planning.Staging.{number_fits, number_write}
use Rattle.settle_laws.proofs.Stages.{IsProgress}
use Rattle.settle_laws.proofs.StagePrefixes.{IsRegisters}
use Rattle.settle_laws.proofs.NonePasses.{none_passes, outside}
use Rattle.settle_laws.proofs.Pieces.{split_pairs}

-- ---- registers

-- registers of a list show what they do in a state
abbrev pub ShowAs : List (ℕ × ℕ) → Function → Function → Type 0
ShowAs registers g now = (r : ℕ × ℕ) → Contains registers r → number_at now.image r.0 r.1 ≡ number_at g.image r.0 r.1

-- a register shares no byte with those of a list
abbrev pub IsApartFrom : List (ℕ × ℕ) → ℕ → ℕ → Type 0
IsApartFrom registers o w = (r : ℕ × ℕ) → Contains registers r → (o + w ≤ r.0) ⊎ (r.0 + r.1 ≤ o)

abbrev pub AreApart : ℕ × ℕ → ℕ × ℕ → Type 0
AreApart r q = (r.0 + r.1 ≤ q.0) ⊎ (q.0 + q.1 ≤ r.0)

turned : {a b c d : ℕ} → (a ≤ b) ⊎ (c ≤ d) → (c ≤ d) ⊎ (a ≤ b)
turned (inl h) = inr h
turned (inr h) = inl h

abbrev are_apart : List (ℕ × ℕ) → Bool
are_apart [] = true
are_apart (r ∷ rs) = list_all (λ q. nat_le (r.0 + r.1) q.0 || nat_le (q.0 + q.1) r.0) rs && are_apart rs

pairs_apart : (rs : List (ℕ × ℕ)) → are_apart rs ≡ true → AllPairs AreApart rs
pairs_apart [] h = pairs_nil AreApart
pairs_apart (r ∷ rs) h =
    let parts = and_parts (list_all (λ q. nat_le (r.0 + r.1) q.0 || nat_le (q.0 + q.1) r.0) rs) (are_apart rs) h in
    pairs_cons AreApart r rs (λ q listed.
    elim (or_cases (nat_le (r.0 + r.1) q.0) (nat_le (q.0 + q.1) r.0) (all_gives (λ q. nat_le (r.0 + r.1) q.0 || nat_le (q.0 + q.1) r.0) rs q parts.0 listed)) [
      | inl before ↦ inl (leb-true (r.0 + r.1) q.0 before)
      | inr after ↦ inr (leb-true (q.0 + q.1) r.0 after)
    ]) (pairs_apart rs parts.1)

pub byte_apart : (registers : List (ℕ × ℕ)) (place : ℕ) → list_any (is_in_register place) registers ≡ false → IsApartFrom registers place 1
byte_apart registers place out r listed = outside place r (none_passes (is_in_register place) registers out r listed)

-- it ends within 256 bytes, and is neither in Status nor, of a bridge, in Secondary Status
pub record IsPlain (bridge : Bool) (r : ℕ × ℕ) : Type 0 where
  pub inside : r.0 + r.1 ≤ 256
  pub status : (r.0 + r.1 ≤ 6) ⊎ (8 ≤ r.0)
  pub second : bridge ≡ true → (r.0 + r.1 ≤ 0x1e) ⊎ (0x20 ≤ r.0)

abbrev is_plain : Bool → ℕ × ℕ → Bool
is_plain bridge r = nat_le (r.0 + r.1) 256 && ((nat_le (r.0 + r.1) 6 || nat_le 8 r.0) && (if bridge then nat_le (r.0 + r.1) 0x1e || nat_le 0x20 r.0 else true))

either_side : (e a o b : ℕ) → (nat_le e a || nat_le b o) ≡ true → (e ≤ a) ⊎ (b ≤ o)
either_side e a o b h = elim (or_cases (nat_le e a) (nat_le b o) h) [ inl low ↦ inl (leb-true e a low) | inr high ↦ inr (leb-true b o high) ]

second_side : (bridge : Bool) (r : ℕ × ℕ) → (if bridge then nat_le (r.0 + r.1) 0x1e || nat_le 0x20 r.0 else true) ≡ true → bridge ≡ true → (r.0 + r.1 ≤ 0x1e) ⊎ (0x20 ≤ r.0)
second_side true r h e = either_side (r.0 + r.1) 0x1e r.0 0x20 h
second_side false r h e = absurd (both_ways false refl e)

plain_by : (bridge : Bool) (registers : List (ℕ × ℕ)) → list_all (is_plain bridge) registers ≡ true → (r : ℕ × ℕ) → Contains registers r → IsPlain bridge r
plain_by bridge registers all r listed =
    let h = all_gives (is_plain bridge) registers r all listed in
    let first = and_parts (nat_le (r.0 + r.1) 256) ((nat_le (r.0 + r.1) 6 || nat_le 8 r.0) && (if bridge then nat_le (r.0 + r.1) 0x1e || nat_le 0x20 r.0 else true)) h in
    let two = and_parts (nat_le (r.0 + r.1) 6 || nat_le 8 r.0) (if bridge then nat_le (r.0 + r.1) 0x1e || nat_le 0x20 r.0 else true) first.1 in
    record { inside = leb-true (r.0 + r.1) 256 first.0; status = either_side (r.0 + r.1) 6 r.0 8 two.0; second = second_side bridge r two.1 }

-- ---- the lists of the stages

abbrev is_same : ℕ × ℕ → ℕ × ℕ → Bool
is_same r q = q.0 == r.0 && q.1 == r.1

same_pair : (r q : ℕ × ℕ) → is_same r q ≡ true → q ≡ r
same_pair r q h =
    let parts = and_parts (q.0 == r.0) (q.1 == r.1) h in
    let o = eqb-true q.0 r.0 parts.0 in
    let w = eqb-true q.1 r.1 parts.1 in
    λ i. (o i, w i)

-- each of a list is one of another
among : (xs ys : List (ℕ × ℕ)) → list_all (λ r. list_any (is_same r) ys) xs ≡ true → (r : ℕ × ℕ) → Contains xs r → Contains ys r
among xs ys all r listed =
    let found : Passes (is_same r) ys = any_gives (is_same r) ys (all_gives (λ r. list_any (is_same r) ys) xs r all listed) in
    subst (Contains ys) (same_pair r found.x found.is) found.listed

abbrev pub closing_by : Bool → List (ℕ × ℕ)
closing_by bridge =
    (COMMAND, 2)
    ∷ (if bridge
    then (IO_BASE, 2) ∷ (IO_BASE_UPPER, 4) ∷ (MEMORY_BASE, 4) ∷ (PREFETCHABLE_BASE, 4)
    ∷ (PREFETCHABLE_LIMIT_UPPER, 4) ∷ [] else [])

abbrev pub setting_by : Bool → Bool → List (ℕ × ℕ)
setting_by bridge limit_first =
    if bridge
    then (bar_register 0, 4) ∷ (bar_register 1, 4) ∷ (IO_BASE_UPPER, 4) ∷ (IO_BASE, 2) ∷ (MEMORY_BASE, 4)
    ∷ ((if limit_first then (PREFETCHABLE_LIMIT_UPPER, 4) ∷ (PREFETCHABLE_BASE_UPPER, 4) ∷ []
    else (PREFETCHABLE_BASE_UPPER, 4) ∷ (PREFETCHABLE_LIMIT_UPPER, 4) ∷ []) ++ (PREFETCHABLE_BASE, 4) ∷ (BRIDGE_EXPANSION_ROM, 4) ∷ [])
    else registers_by bridge

closing_test : (test : Bool → List (ℕ × ℕ) → Bool) → test true (closing_by true) ≡ true → test false (closing_by false) ≡ true → (bridge : Bool) → test bridge (closing_by bridge) ≡ true
closing_test test t f true = t
closing_test test t f false = f

setting_test : (test : Bool → List (ℕ × ℕ) → Bool) → test true (setting_by true true) ≡ true → test true (setting_by true false) ≡ true → test false (setting_by false false) ≡ true
    → (bridge limit_first : Bool) → test bridge (setting_by bridge limit_first) ≡ true
setting_test test t u f true true = t
setting_test test t u f true false = u
setting_test test t u f false first = f

pub closing_plain : (bridge : Bool) (r : ℕ × ℕ) → Contains (closing_by bridge) r → IsPlain bridge r
closing_plain bridge = plain_by bridge (closing_by bridge) (closing_test (λ b. list_all (is_plain b)) refl refl bridge)

pub closing_apart : (bridge : Bool) → AllPairs AreApart (closing_by bridge)
closing_apart bridge = pairs_apart (closing_by bridge) (closing_test (λ b. are_apart) refl refl bridge)

pub closing_among : (bridge : Bool) (r : ℕ × ℕ) → Contains (closing_by bridge) r → Contains ((COMMAND, 2) ∷ registers_by bridge) r
closing_among bridge = among (closing_by bridge) ((COMMAND, 2) ∷ registers_by bridge) (closing_test (λ b. list_all (λ r. list_any (is_same r) ((COMMAND, 2) ∷ registers_by b))) refl refl bridge)

pub setting_plain : (bridge first : Bool) (r : ℕ × ℕ) → Contains (setting_by bridge first) r → IsPlain bridge r
setting_plain bridge first = plain_by bridge (setting_by bridge first) (setting_test (λ b. list_all (is_plain b)) refl refl refl bridge first)

pub setting_apart : (bridge first : Bool) → AllPairs AreApart (setting_by bridge first)
setting_apart bridge first = pairs_apart (setting_by bridge first) (setting_test (λ b. are_apart) refl refl refl bridge first)

-- the order alone is another
pub setting_among : (bridge first : Bool) (r : ℕ × ℕ) → Contains (setting_by bridge first) r → Contains (registers_by bridge) r
setting_among bridge first = among (setting_by bridge first) (registers_by bridge) (setting_test (λ b. list_all (λ r. list_any (is_same r) (registers_by b))) refl refl refl bridge first)

pub among_setting : (bridge first : Bool) (r : ℕ × ℕ) → Contains (registers_by bridge) r → Contains (setting_by bridge first) r
among_setting bridge first = among (registers_by bridge) (setting_by bridge first)
    (setting_test (λ b rs. list_all (λ r. list_any (is_same r) rs) (registers_by b)) refl refl refl bridge first)

address_test : (bridge : Bool) → list_all (λ (q : ℕ × ℕ). nat_le 0x10 q.0) (registers_by bridge) ≡ true
address_test true = refl
address_test false = refl

pub address_low : (bridge : Bool) (r : ℕ × ℕ) → Contains (registers_by bridge) r → 0x10 ≤ r.0
address_low bridge r listed = leb-true 0x10 r.0 (all_gives (λ q. nat_le 0x10 q.0) (registers_by bridge) r (address_test bridge) listed)

-- ---- the writes of a change

pub record IsRegisterWrite (c : Change) (registers : List (ℕ × ℕ)) (x : Write) : Type 0 where
  pub r : ℕ × ℕ
  pub listed : Contains registers r
  pub is : number_write c r ≡ x

in_other : (b : Bool) (w x : Write) → Contains (cond b [] (w ∷ [])) x → w ≡ x
in_other false w x has = elim (in_cons_cases w [] x has) [ inl is ↦ is | inr none ↦ absurd (in_nil x none) ]
in_other true w x has = absurd (in_nil x has)

pub register_write_is : (c : Change) (registers : List (ℕ × ℕ)) (x : Write) → Contains (flat_map (register_write c) registers) x → IsRegisterWrite c registers x
register_write_is c registers x has =
    let one : IsInPiece (register_write c) registers x = in_flat_map_to (register_write c) registers x has in
    record { r = one.of; listed = one.has; is = in_other (number_at c.new.image one.of.0 one.of.1 == number_at c.old.image one.of.0 one.of.1) (number_write c one.of) x one.piece }

register_written : (c : Change) (registers : List (ℕ × ℕ)) (r : ℕ × ℕ) → Contains registers r → (number_at c.new.image r.0 r.1 == number_at c.old.image r.0 r.1) ≡ false
    → Contains (flat_map (register_write c) registers) (number_write c r)
register_written c registers r listed differs =
    in_flat_map_from (register_write c) registers r (number_write c r) listed
    (subst (λ b. Contains (cond b [] (number_write c r ∷ [])) (number_write c r)) (sym differs) (in_head (number_write c r) []))

-- the number of a moved function fits
fits_moved : (f g : Function) (r : ℕ × ℕ) → IsMoved f g → IsImage f.image → IsPlain (is_bridge f) r → (slot : Slot) → FitsByNumber record { slot = slot; offset = r.0; width = r.1; value = number_at g.image r.0 r.1 } f
fits_moved f g r m is plain = number_fits f g r.0 r.1 m is plain.inside plain.status plain.second

module _ (f : Function) (is : IsImage f.image) (c : Change) (at : c.old.slot ≡ f.slot) (n : IsMoved f c.new) (registers : List (ℕ × ℕ)) (plain : (r : ℕ × ℕ) → Contains registers r → IsPlain (is_bridge f) r) where
  pub write_fits : (x : Write) → IsRegisterWrite c registers x → IsFitting x f
  write_fits x k = subst (λ w. IsFitting w f) k.is (fits_by_number (number_write c k.r) f is (fits_moved f c.new k.r n is (plain k.r k.listed) c.old.slot))

  here : same_slot f.slot c.old.slot ≡ true
  here = subst (λ s. same_slot f.slot s ≡ true) (sym at) (slot_itself f.slot)

  write_sets : (r : ℕ × ℕ) (x : Write) (k : IsRegisterWrite c registers x) → k.r ≡ r → IsSetting f.slot r.0 r.1 (number_at c.new.image r.0 r.1) x
  write_sets r x k e = record {
    here = subst (λ (w : Write). same_slot f.slot w.slot ≡ true) k.is here;
    offset = sym (ap (λ (w : Write). w.offset) k.is) ∙ ap (λ (a : ℕ × ℕ). a.0) e;
    width = sym (ap (λ (w : Write). w.width) k.is) ∙ ap (λ (a : ℕ × ℕ). a.1) e;
    value = sym (ap (λ (w : Write). w.value) k.is) ∙ ap (λ (a : ℕ × ℕ). number_at c.new.image a.0 a.1) e;
  }

  write_quiet : (o w : ℕ) (x : Write) (k : IsRegisterWrite c registers x) → (o + w ≤ k.r.0) ⊎ (k.r.0 + k.r.1 ≤ o) → IsQuiet f.slot o w x
  write_quiet o w x k apart =
      let off = ap (λ (w : Write). w.offset) k.is in
      let wide = ap (λ (w : Write). w.width) k.is in
      elim apart [
        | inl before ↦ inr (inl (omega (arith, before, off)))
        | inr after ↦ inr (inr (omega (arith, after, off, wide)))
      ]

  -- some of the registers are written, from a state that shows the old numbers
  module _ (apart : AllPairs AreApart registers) (h : Function) (m : IsMoved f h) (made : List (ℕ × ℕ)) (sub : (r : ℕ × ℕ) → Contains made r → Contains registers r) where
    abbrev writes : List Write
    writes = flat_map (register_write c) made

    made_write : (x : Write) → Contains writes x → IsRegisterWrite c registers x
    made_write x has = let k = register_write_is c made x has in record { r = k.r; listed = sub k.r k.listed; is = k.is }

    fits : (x : Write) → Contains writes x → same_slot f.slot x.slot ≡ true → IsFitting x f
    fits x has same = write_fits x (made_write x has)

    pub made_moved : IsMoved f (function_after h writes)
    made_moved = function_moved f is h writes m fits

    pub made_shows : ShowAs registers c.old h → ShowAs made c.new (function_after h writes)
    made_shows shows r listed =
        let inside = (plain r (sub r listed)).inside in
        settled f is h writes r.0 r.1 (number_at c.new.image r.0 r.1) m inside (number_below c.new.image r.0 n.image r.1) fits
        (λ x has.
        let k = made_write x has in
        elim (two_of AreApart registers k.r r apart k.listed (sub r listed)) [
          | inl e ↦ inr (write_sets r x k e)
          | inr (inl (inl before)) ↦ inl (write_quiet r.0 r.1 x k (inr before))
          | inr (inl (inr after)) ↦ inl (write_quiet r.0 r.1 x k (inl after))
          | inr (inr (inl before)) ↦ inl (write_quiet r.0 r.1 x k (inl before))
          | inr (inr (inr after)) ↦ inl (write_quiet r.0 r.1 x k (inr after))
        ])
        (elim (cases_Bool (number_at c.new.image r.0 r.1 == number_at c.old.image r.0 r.1)) [
          | inl same ↦ inl (shows r (sub r listed) ∙ sym (eqb-true (number_at c.new.image r.0 r.1) (number_at c.old.image r.0 r.1) same))
          | inr differs ↦ inr (number_write c r, register_written c made r listed differs, record { here = here; offset = refl; width = refl; value = refl })
        ])

    pub made_leaves : (o w : ℕ) → o + w ≤ 256 → ((r : ℕ × ℕ) → Contains made r → (o + w ≤ r.0) ⊎ (r.0 + r.1 ≤ o)) → number_at (function_after h writes).image o w ≡ number_at h.image o w
    made_leaves o w inside free =
        untouched f is h writes o w m inside fits
        (λ x has. let k = register_write_is c made x has in write_quiet o w x record { r = k.r; listed = sub k.r k.listed; is = k.is } (free k.r k.listed))

  -- from a beginning of the writes
  module _ (apart : AllPairs AreApart registers) (h : Function) (m : IsMoved f h) (part more : List Write) (k : IsRegisters c registers part more) where
    in_made : (r : ℕ × ℕ) → Contains k.made r → Contains registers r
    in_made r has = subst (λ rs. Contains rs r) k.split (Contains-append_left k.made k.waiting r has)

    in_waiting : (r : ℕ × ℕ) → Contains k.waiting r → Contains registers r
    in_waiting r has = subst (λ rs. Contains rs r) k.split (Contains-append_right k.made k.waiting r has)

    split_apart : AllPairs AreApart (k.made ++ k.waiting)
    split_apart = subst (AllPairs AreApart) (sym k.split) apart

    abbrev now : Function
    now = function_after h part

    made_now : function_after h (flat_map (register_write c) k.made) ≡ now
    made_now = ap (function_after h) (sym k.is)

    pub part_progress : ShowAs registers c.old h → IsProgress registers c.old c.new now
    part_progress shows = record {
      made = k.made;
      waiting = k.waiting;
      split = k.split;
      each_made = λ r has. subst (λ (g : Function). number_at g.image r.0 r.1 ≡ number_at c.new.image r.0 r.1) made_now (made_shows apart h m k.made in_made shows r has);
      each_waiting = λ r has.
          let inside = (plain r (in_waiting r has)).inside in
          ap (λ (g : Function). number_at g.image r.0 r.1) (sym made_now)
          ∙ made_leaves apart h m k.made in_made r.0 r.1 inside
          (λ q in_q. turned (split_pairs AreApart k.made k.waiting split_apart q r in_q has))
          ∙ shows r (in_waiting r has);
    }

    pub part_leaves : (o w : ℕ) → o + w ≤ 256 → IsApartFrom registers o w → number_at now.image o w ≡ number_at h.image o w
    part_leaves o w inside free =
        ap (λ (g : Function). number_at g.image o w) (sym made_now)
        ∙ made_leaves apart h m k.made in_made o w inside (λ r has. free r (in_made r has))

-- ---- functions that show the same

pub same_by_bytes : (f g h : Function) → IsMoved f g → IsMoved f h → ((place : ℕ) → place < 256 → byte_at g.image place ≡ byte_at h.image place) → g ≡ h
same_by_bytes f g h m n bytes =
    let full = m.image.full in
    let image = ext_get_or 0 g.image h.image (full ∙ sym n.image.full) (λ place below. bytes place (omega (arith, below, full))) in
    let slot = m.slot ∙ sym n.slot in
    let probe = m.probe ∙ sym n.probe in
    λ i. record { slot = slot i; image = image i; probe = probe i }

-- a byte of a register that shows the same
pub byte_within : (registers : List (ℕ × ℕ)) (g h : Function) (place : ℕ) → IsImage g.image → IsImage h.image → ShowAs registers h g → list_any (is_in_register place) registers ≡ true → byte_at g.image place ≡ byte_at h.image place
byte_within registers g h place is_g is_h shows there =
    let found : Passes (is_in_register place) registers = any_gives (is_in_register place) registers there in
    let r = found.x in
    let parts = and_parts (nat_le r.0 place) (nat_lt place (r.0 + r.1)) found.is in
    byte_of_number g.image h.image r.0 r.1 place is_g is_h (shows r found.listed) (leb-true r.0 place parts.0) (ltb-true place (r.0 + r.1) parts.1)

-- the same byte as a number of one byte
pub byte_from_number : (g h : Function) (place : ℕ) → number_at g.image place 1 ≡ number_at h.image place 1 → byte_at g.image place ≡ byte_at h.image place
byte_from_number g h place e = sym (byte_number g.image place) ∙ e ∙ byte_number h.image place
