-- A plan's writes can stop anywhere.
use Rattle.std.proofs.Common.{◌≡◌, ℕ, zero, suc, ◌+◌, ◌^◌, ◌<◌, ◌≤◌, inl, inr, List, [], ◌∷◌, ◌++◌, refl, true, false, ◌&&◌, arith, sym, ◌∙◌, ap, subst, length, get_or, take}
use Rattle.std.specs.Bool.{IsTrue, IsFalse, ◌==◌}
use Rattle.std.specs.List.{Contains, All}
use Rattle.std.proofs.lemmas.Bool.{and_from, eq-eqb, cases_lt, cases_order, cases_Bool, both_ways}
use Rattle.std.proofs.lemmas.List.Elements.{All-head, All-tail}
use Rattle.pci_spec.specs.Slot.{Slot, IsSlot, same_slot, slot_number}
use Rattle.pci_spec.specs.System.{System, Function, IsSystem, Part, Space, Claims}
use Rattle.pci_spec.specs.Bus.{IsNested}
use Rattle.pci_spec.specs.Machine.{Write, write_function, write_system, system_after}
use Rattle.pci_spec.proofs.SameSlot.{slots_same}
use Rattle.plan_spec.specs.Planning.Safety.{is_on, IsCutAt, IsSafe}
use Rattle.plan_spec.specs.Planning.Stops.{IsClosing, IsAside, Closes, Rises, IsOffFrom, IsStaged}
use Rattle.plan_spec.proofs.Planning.Safe.{on_by_claim, safe_below, off_safe, slots_of}
use Rattle.plan_spec.proofs.Planning.Writes.{write_elsewhere, other_number, listed_before, listed_after, off_by_write, on_kept}

one_slot : (s t : Slot) → IsSlot s → IsSlot t → slot_number s ≡ slot_number t → same_slot s t ≡ true
one_slot s t hs ht e =
    let sd = hs.1 in
    let sn = hs.2 in
    let td = ht.1 in
    let tn = ht.2 in
    and_from (s.bus == t.bus && s.device == t.device) (s.function == t.function)
    (and_from (s.bus == t.bus) (s.device == t.device) (eq-eqb s.bus t.bus (omega (arith, e, sd, sn, td, tn))) (eq-eqb s.device t.device (omega (arith, e, sd, sn, td, tn))))
    (eq-eqb s.function t.function (omega (arith, e, sd, sn, td, tn)))

-- ---- a function below or above the slot of a write

number_before : (w : Write) (h f : Function) → write_function w h ≡ f → slot_number h.slot ≡ slot_number f.slot
number_before w h f e = ap (λ (g : Function). slot_number g.slot) e

-- it was there before, as it is
pub there_before : (t : System) (w : Write) (f : Function) → Contains (write_system t w) f → (slot_number f.slot ≡ slot_number w.slot → ⊥) → Contains t f
there_before t w f in_f differ =
    let found = listed_before t w f in_f in
    let h = found.0 in
    let n = number_before w h f found.2 in
    let same : h ≡ f = sym (write_elsewhere w h (other_number h.slot w.slot (λ e. differ (sym n ∙ e)))) ∙ found.2 in
    subst (λ (g : Function). Contains t g) same found.1

pub there_after : (t : System) (w : Write) (f : Function) → Contains t f → (slot_number f.slot ≡ slot_number w.slot → ⊥) → Contains (write_system t w) f
there_after t w f in_f differ =
    subst (λ (g : Function). Contains (write_system t w) g) (write_elsewhere w f (other_number f.slot w.slot differ)) (listed_after t w f in_f)

-- ---- closing

module _ (s : System) (system : IsSystem s) where
  closing_step : (t : System) (n : ℕ) (w : Write) → IsCutAt n t s → IsClosing w → slot_number w.slot < n
      → ((f : Function) → Contains s f → slot_number w.slot < slot_number f.slot → slot_number f.slot < n → IsFalse (is_on f))
      → IsCutAt (slot_number w.slot) (write_system t w) s
  closing_step t n w cut is below gap = record {
    same = λ f low in_f. cut.same f (omega (arith, low, below)) (there_before t w f in_f (λ e. let impossible : ⊥ = omega (arith, e, low) in impossible));
    back = λ f low in_f. there_after t w f (cut.back f (omega (arith, low, below)) in_f) (λ e. let impossible : ⊥ = omega (arith, e, low) in impossible);
    off = λ f in_f high.
        let found = listed_before t w f in_f in
        let h = found.0 in
        let number = number_before w h f found.2 in
        ap is_on (sym found.2) ∙ elim (cases_Bool (same_slot h.slot w.slot)) [
          | inl here ↦ off_by_write w h here is.at is.wide is.io is.memory
          | inr other ↦ ap is_on (write_elsewhere w h other) ∙ elim (cases_lt (slot_number h.slot) n) [
            | inr above ↦ cut.off h found.1 above
            | inl inside ↦
                let in_s = cut.same h inside found.1 in
                elim (cases_order (slot_number h.slot) (slot_number w.slot)) [
                  | inl e ↦ absurd (both_ways (same_slot h.slot w.slot) other (one_slot h.slot w.slot (slots_of s system h in_s) is.slot e))
                  | inr (inl less) ↦ absurd (let impossible : ⊥ = omega (arith, less, number, high) in impossible)
                  | inr (inr more) ↦ gap h in_s more inside
                ]
          ]
        ];
  }

  pub closing_ends : (t : System) (n : ℕ) (writes : List Write) → IsCutAt n t s → Closes s n writes → IsOffFrom 0 (system_after t writes)
  closing_ends t n [] cut closes = λ f in_f from. elim (cases_lt (slot_number f.slot) n) [
    | inl low ↦ closes f (cut.same f low in_f) low
    | inr high ↦ cut.off f in_f high
  ]
  closing_ends t n (w ∷ writes) cut (is, below, gap, rest) =
      closing_ends (write_system t w) (slot_number w.slot) writes (closing_step t n w cut is below gap) rest

  module _ (roots : List ℕ) (nested : IsNested roots s) (safe : IsSafe roots s) where
    pub closing_stop : (t : System) (n : ℕ) (writes : List Write) → IsCutAt n t s → Closes s n writes → (k : ℕ) → IsSafe roots (system_after t (take k writes))
    closing_stop t n [] cut closes zero = safe_below roots n t s system nested cut safe
    closing_stop t n [] cut closes (suc k) = safe_below roots n t s system nested cut safe
    closing_stop t n (w ∷ writes) cut closes zero = safe_below roots n t s system nested cut safe
    closing_stop t n (w ∷ writes) cut (is, below, gap, rest) (suc k) =
        closing_stop (write_system t w) (slot_number w.slot) writes (closing_step t n w cut is below gap) rest k

-- ---- registers

aside_step : (t : System) (w : Write) → IsAside w → IsOffFrom 0 t → IsOffFrom 0 (write_system t w)
aside_step t w aside off f in_f from =
    let found = listed_before t w f in_f in
    ap is_on (sym found.2) ∙ on_kept w found.0 aside ∙ off found.0 found.1 (omega arith)

pub aside_off : (t : System) (writes : List Write) → All IsAside writes → IsOffFrom 0 t → (k : ℕ) → IsOffFrom 0 (system_after t (take k writes))
aside_off t [] aside off zero = off
aside_off t [] aside off (suc k) = off
aside_off t (w ∷ writes) aside off zero = off
aside_off t (w ∷ writes) aside off (suc k) = aside_off (write_system t w) writes (All-tail IsAside w writes aside) (aside_step t w (All-head IsAside w writes aside) off) k

pub aside_ends : (t : System) (writes : List Write) → All IsAside writes → IsOffFrom 0 t → IsOffFrom 0 (system_after t writes)
aside_ends t [] aside off = off
aside_ends t (w ∷ writes) aside off = aside_ends (write_system t w) writes (All-tail IsAside w writes aside) (aside_step t w (All-head IsAside w writes aside) off)

pub all_off_safe : (roots : List ℕ) (t : System) → IsOffFrom 0 t → IsSafe roots t
all_off_safe roots t off = off_safe roots t (λ f in_f. off f in_f (omega arith))

-- ---- opening

lower_stays : (t : System) (n : ℕ) (writes : List Write) → Rises n writes → (f : Function) → slot_number f.slot < n → Contains t f → Contains (system_after t writes) f
lower_stays t n [] rises f low in_f = in_f
lower_stays t n (w ∷ writes) (from, rest) f low in_f =
    lower_stays (write_system t w) (slot_number w.slot + 1) writes rest f (omega (arith, from, low))
    (there_after t w f in_f (λ e. let impossible : ⊥ = omega (arith, e, from, low) in impossible))

lower_stayed : (t : System) (n : ℕ) (writes : List Write) → Rises n writes → (f : Function) → slot_number f.slot < n → Contains (system_after t writes) f → Contains t f
lower_stayed t n [] rises f low in_f = in_f
lower_stayed t n (w ∷ writes) (from, rest) f low in_f =
    there_before t w f (lower_stayed (write_system t w) (slot_number w.slot + 1) writes rest f (omega (arith, from, low)) in_f)
    (λ e. let impossible : ⊥ = omega (arith, e, from, low) in impossible)

opening_cut : (t : System) (n : ℕ) (writes : List Write) → Rises n writes → IsOffFrom n t → IsCutAt n t (system_after t writes)
opening_cut t n writes rises off = record {
  same = λ f low in_f. lower_stays t n writes rises f low in_f;
  back = λ f low in_f. lower_stayed t n writes rises f low in_f;
  off = off;
}

off_above : (t : System) (n : ℕ) (w : Write) → n ≤ slot_number w.slot → IsOffFrom n t → IsOffFrom (slot_number w.slot + 1) (write_system t w)
off_above t n w from off f in_f high =
    off f (there_before t w f in_f (λ e. let impossible : ⊥ = omega (arith, e, high) in impossible)) (omega (arith, from, high))

pub opening_stop : (roots : List ℕ) (t : System) (n : ℕ) (writes : List Write) → Rises n writes → IsOffFrom n t
    → IsSystem (system_after t writes) → IsNested roots (system_after t writes) → IsSafe roots (system_after t writes) → (k : ℕ) → IsSafe roots (system_after t (take k writes))
opening_stop roots t n [] rises off system nested safe zero = safe
opening_stop roots t n [] rises off system nested safe (suc k) = safe
opening_stop roots t n (w ∷ writes) rises off system nested safe zero =
    safe_below roots n t (system_after t (w ∷ writes)) system nested (opening_cut t n (w ∷ writes) rises off) safe
opening_stop roots t n (w ∷ writes) (from, rest) off system nested safe (suc k) =
    opening_stop roots (write_system t w) (slot_number w.slot + 1) writes rest (off_above t n w from off) system nested safe k

-- ---- all three

stop_in_parts : (roots : List ℕ) (t : System) (a b : List Write) → ((k : ℕ) → IsSafe roots (system_after t (take k a))) → ((k : ℕ) → IsSafe roots (system_after (system_after t a) (take k b)))
    → (k : ℕ) → IsSafe roots (system_after t (take k (a ++ b)))
stop_in_parts roots t [] b first second k = second k
stop_in_parts roots t (w ∷ a) b first second zero = first zero
stop_in_parts roots t (w ∷ a) b first second (suc k) = stop_in_parts roots (write_system t w) a b (λ j. first (suc j)) second k

pub after_parts : (t : System) (a b : List Write) → system_after t (a ++ b) ≡ system_after (system_after t a) b
after_parts t [] b = refl
after_parts t (w ∷ a) b = after_parts (write_system t w) a b

itself : (n : ℕ) (s : System) → ((f : Function) → Contains s f → slot_number f.slot < n) → IsCutAt n s s
itself n s below = record {
  same = λ f low in_f. in_f;
  back = λ f low in_f. in_f;
  off = λ f in_f high. absurd (let b = below f in_f in let impossible : ⊥ = omega (arith, b, high) in impossible);
}

-- once everything is off, whatever was there before
pub stop_when_off : (roots : List ℕ) (t : System) (registers opening : List Write) → IsOffFrom 0 t → All IsAside registers → Rises 0 opening
    → IsSystem (system_after t (registers ++ opening)) → IsNested roots (system_after t (registers ++ opening)) → IsSafe roots (system_after t (registers ++ opening))
    → (k : ℕ) → IsSafe roots (system_after t (take k (registers ++ opening)))
stop_when_off roots t registers opening off aside rises system nested safe =
    let e = after_parts t registers opening in
    stop_in_parts roots t registers opening
    (λ k. all_off_safe roots (system_after t (take k registers)) (aside_off t registers aside off k))
    (opening_stop roots (system_after t registers) 0 opening rises (aside_ends t registers aside off)
    (subst IsSystem e system) (subst (IsNested roots) e nested) (subst (IsSafe roots) e safe))

all_below : (s : System) → IsSystem s → (f : Function) → Contains s f → slot_number f.slot < 2 ^ 16
all_below s system f in_f =
    let is = slots_of s system f in_f in
    let b = is.0 in
    let d = is.1 in
    let n = is.2 in
    omega (arith, b, d, n)

-- From a safe start a plan's writes can stop anywhere.
pub stop_anywhere : (roots : List ℕ) (s : System) (closing registers opening : List Write) → IsSystem s → IsNested roots s → IsSafe roots s
    → Closes s (2 ^ 16) closing → All IsAside registers → Rises 0 opening
    → IsSystem (system_after s (closing ++ (registers ++ opening))) → IsNested roots (system_after s (closing ++ (registers ++ opening))) → IsSafe roots (system_after s (closing ++ (registers ++ opening)))
    → (k : ℕ) → IsSafe roots (system_after s (take k (closing ++ (registers ++ opening))))
stop_anywhere roots s closing registers opening system nested safe closes aside rises system_end nested_end safe_end =
    let e = after_parts s closing (registers ++ opening) in
    let start = itself (2 ^ 16) s (all_below s system) in
    stop_in_parts roots s closing (registers ++ opening)
    (closing_stop s system roots nested safe s (2 ^ 16) closing start closes)
    (stop_when_off roots (system_after s closing) registers opening (closing_ends s system s (2 ^ 16) closing start closes) aside rises
    (subst IsSystem e system_end) (subst (IsNested roots) e nested_end) (subst (IsSafe roots) e safe_end))

pub off_claims_nothing : (s : System) (w : Write) → IsAside w → ((f : Function) → Contains s f → f.slot ≡ w.slot → IsFalse (is_on f))
    → (f : Function) (p : Part) (space : Space) (a : ℕ) → Contains (write_system s w) f → Claims f p space a → Contains s f
off_claims_nothing s w aside off f p space a in_f claim =
    let found = listed_before s w f in_f in
    let h = found.0 in
    elim (cases_Bool (same_slot h.slot w.slot)) [
      | inl here ↦
          let dark : is_on f ≡ false = ap is_on (sym found.2) ∙ on_kept w h aside ∙ off h found.1 (slots_same h.slot w.slot here) in
          absurd (both_ways (is_on f) dark (on_by_claim f p space a claim))
      | inr other ↦
          let same : h ≡ f = sym (write_elsewhere w h other) ∙ found.2 in
          subst (λ (g : Function). Contains s g) same found.1
    ]

-- ---- the same from what a loop over the functions shows of its list

not_between : (w : Write) (writes : List Write)
    → ((j k : ℕ) (d : Write) → j < k → k < length (w ∷ writes) → slot_number (get_or (w ∷ writes) k d).slot < slot_number (get_or (w ∷ writes) j d).slot)
    → (f : Function) → slot_number w.slot < slot_number f.slot
    → (k : ℕ) × (k < length (w ∷ writes)) × ((d : Write) → slot_number (get_or (w ∷ writes) k d).slot ≡ slot_number f.slot) → ⊥
not_between w writes falling f above (zero, l, e) = let is = e w in omega (arith, is, above)
not_between w writes falling f above (suc k, l, e) = let is = e w in let less = falling 0 (suc k) w (omega arith) l in omega (arith, is, above, less)

later : (w : Write) (writes : List Write) (f : Function) → slot_number f.slot < slot_number w.slot
    → (k : ℕ) × (k < length (w ∷ writes)) × ((d : Write) → slot_number (get_or (w ∷ writes) k d).slot ≡ slot_number f.slot)
    → (k : ℕ) × (k < length writes) × ((d : Write) → slot_number (get_or writes k d).slot ≡ slot_number f.slot)
later w writes f low (zero, l, e) = absurd (let is = e w in let impossible : ⊥ = omega (arith, is, low) in impossible)
later w writes f low (suc k, l, e) = (k, omega (arith, l), e)

rises_of : (n : ℕ) (writes : List Write) → ((j k : ℕ) (d : Write) → j < k → k < length writes → slot_number (get_or writes j d).slot < slot_number (get_or writes k d).slot)
    → ((d : Write) → 0 < length writes → n ≤ slot_number (get_or writes 0 d).slot) → Rises n writes
rises_of n [] rising from = tt
rises_of n (w ∷ writes) rising from = (
  from w (omega arith),
  rises_of (slot_number w.slot + 1) writes (λ j k d b l. rising (suc j) (suc k) d (omega (arith, b)) (omega (arith, l)))
      (λ d some. let up = rising 0 1 d (omega arith) (omega (arith, some)) in omega (arith, up)),
)

module _ (s : System) where
  closes_of : (n : ℕ) (writes : List Write) → All IsClosing writes
      → ((j k : ℕ) (d : Write) → j < k → k < length writes → slot_number (get_or writes k d).slot < slot_number (get_or writes j d).slot)
      → ((d : Write) → 0 < length writes → slot_number (get_or writes 0 d).slot < n)
      → ((f : Function) → Contains s f → slot_number f.slot < n → IsTrue (is_on f) → (k : ℕ) × (k < length writes) × ((d : Write) → slot_number (get_or writes k d).slot ≡ slot_number f.slot))
      → Closes s n writes
  closes_of n [] each falling below all = λ f in_f low. elim (cases_Bool (is_on f)) [
    | inl on ↦ absurd (let found = all f in_f low on in let l = found.1 in let impossible : ⊥ = omega (arith, l) in impossible)
    | inr off ↦ off
  ]
  closes_of n (w ∷ writes) each falling below all = (
    All-head IsClosing w writes each,
    below w (omega arith),
    λ f in_f above low. elim (cases_Bool (is_on f)) [
      | inl on ↦ absurd (not_between w writes falling f above (all f in_f low on))
      | inr off ↦ off
    ],
    closes_of (slot_number w.slot) writes (All-tail IsClosing w writes each)
        (λ j k d b l. falling (suc j) (suc k) d (omega (arith, b)) (omega (arith, l)))
        (λ d some. falling 0 1 d (omega arith) (omega (arith, some)))
        (λ f in_f low on. later w writes f low (all f in_f (let b = below w (omega arith) in omega (arith, b, low)) on)),
  )

number_fits : (slot : Slot) → IsSlot slot → slot_number slot < 2 ^ 16
number_fits slot is = let b = is.0 in let d = is.1 in let n = is.2 in omega (arith, b, d, n)

first_closing : (writes : List Write) → All IsClosing writes → (d : Write) → 0 < length writes → slot_number (get_or writes 0 d).slot < 2 ^ 16
first_closing [] each d some = absurd (let impossible : ⊥ = omega (arith, some) in impossible)
first_closing (w ∷ writes) each d some = number_fits w.slot (All-head IsClosing w writes each).slot

pub staged_closes : (s : System) (closing registers opening : List Write) → IsStaged s closing registers opening → Closes s (2 ^ 16) closing
staged_closes s closing registers opening is =
    closes_of s (2 ^ 16) closing is.closes is.falling (first_closing closing is.closes) (λ f in_f low on. is.all f in_f on)

pub staged_rises : (s : System) (closing registers opening : List Write) → IsStaged s closing registers opening → Rises 0 opening
staged_rises s closing registers opening is = rises_of 0 opening is.rising (λ d some. omega arith)

past_first : (roots : List ℕ) (t : System) (a b : List Write) → ((k : ℕ) → IsSafe roots (system_after (system_after t a) (take k b))) → (k : ℕ) → length a ≤ k → IsSafe roots (system_after t (take k (a ++ b)))
past_first roots t [] b second k past = second k
past_first roots t (w ∷ a) b second zero past = absurd (let impossible : ⊥ = omega (arith, past) in impossible)
past_first roots t (w ∷ a) b second (suc k) past = past_first roots (write_system t w) a b second k (omega (arith, past))

-- From any start they can stop anywhere once the closing ones are made.
pub stop_once_closed : (roots : List ℕ) (s : System) (closing registers opening : List Write) → IsSystem s
    → Closes s (2 ^ 16) closing → All IsAside registers → Rises 0 opening
    → IsSystem (system_after s (closing ++ (registers ++ opening))) → IsNested roots (system_after s (closing ++ (registers ++ opening))) → IsSafe roots (system_after s (closing ++ (registers ++ opening)))
    → (k : ℕ) → length closing ≤ k → IsSafe roots (system_after s (take k (closing ++ (registers ++ opening))))
stop_once_closed roots s closing registers opening system closes aside rises system_end nested_end safe_end =
    let e = after_parts s closing (registers ++ opening) in
    past_first roots s closing (registers ++ opening)
    (stop_when_off roots (system_after s closing) registers opening (closing_ends s system s (2 ^ 16) closing (itself (2 ^ 16) s (all_below s system)) closes) aside rises
    (subst IsSystem e system_end) (subst (IsNested roots) e nested_end) (subst (IsSafe roots) e safe_end))
