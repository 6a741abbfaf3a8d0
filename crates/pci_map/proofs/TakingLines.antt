-- The lines of what a bridge takes.
use Rattle.std.proofs.Common.{◌≡◌, ◌⊎◌, ℕ, zero, suc, ◌+◌, ◌<◌, List, [], ◌∷◌, ◌++◌, take, length, get_or, arith, refl, sym, ap, ◌∙◌, subst, append-nil, inl, inr}
use Rattle.std.specs.Prelude.{IsTrue, IsFalse}
use Rattle.std.specs.List.{AllPairs, Contains, flat_map}
use Rattle.std.proofs.lemmas.Grind.{flat_map-append}
use Rattle.std.proofs.lemmas.List.{append_assoc, take_more}
use Rattle.std.proofs.lemmas.List.Elements.{Contains-get_or, Contains-append_cases, Contains-append_left, Contains-append_right}
use Rattle.pci_spec.specs.Slot.{Slot, slot_number}
use Rattle.pci_spec.specs.System.{System, Function, Space, Leads}
use Rattle.pci_spec.specs.Bus.{IsNested, LeadsTo, secondary}
use Rattle.pci_spec.proofs.BusRanges.{bus_order_means}
use Rattle.pci_spec.proofs.Members.{in_nil, in_cons_cases, in_head, pairs_nil, pairs_cons, pairs_head, pairs_tail, pairs_append}
use Rattle.judge_spec.specs.Given.{Given, takes}
use Rattle.judge_spec.specs.ToldClaims.{Told}
use Rattle.judge_spec.specs.Regions.{MapRegion, slot_of, range_of}
use Rattle.judge_spec.specs.Regions as regions
use Rattle.judge_spec.specs.Lines.{Lines, TakenBy, StandsBehind, IsOutOfPlace, AreLinesAt, is_first_window}
use Rattle.judge_spec.specs.Map.{MapTaking, IsBelow, IsTaking, AreTakings}
use Rattle.judge_spec.specs.MapText.{lines_text, taking_heading, taking_text}
use Rattle.pci_claims.proofs.Gathering.{nil_canonical}
use Rattle.pci_claims.proofs.GapRanges.{covers_nil}
use Rattle.pci_claims.proofs.Runs.{runs_of}
use Rattle.pci_map.specs.declared.seat.Seat.{Seat}
use Rattle.pci_map.specs.declared.takers.Taker.{Taker}
use Rattle.pci_map.specs.Values.{Mapped}
use Rattle.pci_map.specs.Windows.{BridgeWindows}
use Rattle.pci_map.specs.Seats.{seat_value, seat_first, IsSeatOn, AreSortedSeatsOf, AreFilteredSeats}
use Rattle.pci_map.specs.Above.{AreInPlace}
use Rattle.pci_map.specs.Ways.{AreAbove, HasNoWindow}
use Rattle.pci_map.specs.Takers.{IsTakenFirst, AreTakers}
use Rattle.pci_map.specs.Walk.{entries, merged, ArePlacesWritten}
use Rattle.pci_map.specs.Buses.{IsTakenOf, AreTakingsTold}
use Rattle.pci_map.proofs.Lefts.{AreOne}
use Rattle.pci_map.proofs.Values.{among, first_of, seat_in, seat_bus, seat_space}
use Rattle.pci_map.proofs.Merges.{lines_are}
use Rattle.pci_map.proofs.Seats.{some_entries}
use Rattle.pci_map.proofs.TakerLists.{takes_given}

-- ---- the bridge that leads to a bus

-- it stands on a lower bus
pub rises : (roots : List ℕ) (s : System) (bus : ℕ) (slot : Slot) → IsNested roots s → (f : Function) → LeadsTo s f bus → f.slot ≡ slot → slot.bus < bus
rises roots s bus slot nested f leads at =
    let up : f.slot.bus < secondary f = ((bus_order_means f).0 (nested.order f leads.0 leads.1)).1 in
    let same : f.slot.bus ≡ slot.bus = ap (λ (x : Slot). x.bus) at in
    let there = leads.2 in omega (arith, up, same, there)

-- where a bridge leads to the bus, its windows are given
pub above_bridge : (given : Given) (roots : List ℕ) (s : System) (bus : ℕ) (ws : BridgeWindows) (f : Function) → LeadsTo s f bus → AreAbove given roots s bus ws ⊎ HasNoWindow roots s bus ws → AreAbove given roots s bus ws
above_bridge given roots s bus ws f leads (inl above) = above
above_bridge given roots s bus ws f leads (inr none) = absurd (none.unled.none f leads)

-- they are the bridge's
pub slot_above : (given : Given) (roots : List ℕ) (s : System) (bus : ℕ) (ws : BridgeWindows) (f : Function) → LeadsTo s f bus → (above : AreAbove given roots s bus ws) → above.bridge.b.slot ≡ f.slot
slot_above given roots s bus ws f leads above = above.bridge.named ∙ sym (above.bridge.only f leads)

module _ (told : Told) (given : Given) (roots : List ℕ) (s : System) (space : Space) where
  abbrev the_space : Mapped
  the_space = record { told = told; given = given; roots = roots; system = s; space = space }

  -- ---- the regions behind a bridge that it takes

  pub taken_is : (b : Function) (bus : ℕ) (all taken out : List Seat) → AreSortedSeatsOf told s bus space all → AreFilteredSeats (λ q. IsTakenFirst given space b (seat_first q)) space all taken
      → AreInPlace told given roots s space taken out → IsTakenOf the_space b bus out
  taken_is b bus all taken out sorted kept placed = record {
    each = λ q has. sorted.each q (kept.each q (placed.each q has));
    taken = λ q has. kept.hold q (placed.each q has);
    within = placed.hold;
    complete = λ v is_in same on first in_place. (
        let found = among told s bus space all v sorted is_in on same in
        let start : (range_of v).first ≡ seat_first found.0 = ap (λ x. (range_of x).first) (sym found.2) ∙ first_of space found.0 in record {
          q = found.0;
          has = placed.complete found.0 (kept.complete found.0 found.1 (subst (λ n. IsTakenFirst given space b n) start first)) (λ out_of. in_place (subst (λ x. IsOutOfPlace told given roots s x) found.2 out_of));
          is = found.2;
        });
    sorted = placed.sorted (kept.sorted sorted.sorted);
  }

  module _ (b : Function) (slot : Slot) (bus : ℕ) (leads : LeadsTo s b bus) (at : b.slot ≡ slot) (unique : AreOne s) where
    seat_stands : (q : Seat) → IsSeatOn told s bus space q → IsTakenFirst given space b (seat_first q) → StandsBehind given s slot (seat_value space q)
    seat_stands q on first =
        let sp : space ≡ regions.space_of (seat_value space q) = sym (seat_space told s bus space q on) in
        let start : seat_first q ≡ (range_of (seat_value space q)).first = sym (first_of space q) in record {
          b = b;
          listed = leads.0;
          bridge = leads.1;
          at = at;
          leads = leads.2 ∙ sym (seat_bus told s bus space q on);
          taken = subst (λ x. IsTrue (takes given x (range_of (seat_value space q)).first b)) sp (subst (λ n. IsTrue (takes given space n b)) start first.taken);
          no_window = λ kind. subst (λ x. IsFalse (is_first_window given x kind (range_of (seat_value space q)).first b)) sp (subst (λ n. IsFalse (is_first_window given space kind n b)) start (first.no_window kind));
        }

    from_stands : (v : MapRegion) → regions.space_of v ≡ space → StandsBehind given s slot v → ((slot_of v).bus ≡ bus) × IsTakenFirst given space b (range_of v).first
    from_stands v same stands =
        let one : stands.b ≡ b = unique stands.b b stands.listed leads.0 (stands.at ∙ sym at) in (
          sym stands.leads ∙ ap secondary one ∙ leads.2,
          record {
            taken = subst (λ x. IsTrue (takes given x (range_of v).first b)) same (subst (λ f. IsTrue (takes given (regions.space_of v) (range_of v).first f)) one stands.taken);
            no_window = λ kind. subst (λ x. IsFalse (is_first_window given x kind (range_of v).first b)) same
                (subst (λ f. IsFalse (is_first_window given (regions.space_of v) kind (range_of v).first f)) one (stands.no_window kind));
          },
        )

    module _ (qs : List Seat) (are : IsTakenOf the_space b bus qs) where
      taking_lines : (lines : Lines) → entries lines ≡ merged space qs [] → AreLinesAt told given roots s space (TakenBy slot) lines
      taking_lines lines is =
          lines_are told given roots s space (TakenBy slot) lines qs [] is
          (λ q has. seat_in told s bus space q (are.each q has))
          (λ q has. seat_space told s bus space q (are.each q has))
          (λ q has. seat_stands q (are.each q has) (are.taken q has))
          (λ q has. are.within q has)
          (λ v is_in same stands in_place. (let from = from_stands v same stands in are.complete v is_in same from.0 from.1 in_place))
          (runs_of (λ a. ⊥) [] nil_canonical (λ a. (λ h. covers_nil a h, λ no. absurd no)))
          are.sorted
          (λ q a has starts free. free)

      -- ---- its text

      module _ (root : ℕ) (taker : Taker) (same : slot ≡ taker.slot) where
        pub no_lines : (text : List ℕ) → qs ≡ [] → AreTakingsTold the_space root (taker ∷ []) text text
        no_lines text none = record {
          written = [];
          each = λ t has. absurd (in_nil t has);
          from = λ t has. absurd (in_nil t has);
          complete = λ k v has below is_in of stands in_place. elim (in_cons_cases taker [] k has) [
            | inl here ↦ (
                let it : StandsBehind given s slot v = subst (λ (x : Slot). StandsBehind given s x v) (ap (λ (y : Taker). y.slot) (sym here) ∙ sym same) stands in
                let from = from_stands v of it in
                let found = are.complete v is_in of from.0 from.1 in_place in
                absurd (in_nil found.q (subst (λ xs. Contains xs found.q) none found.has)))
            | inr other ↦ absurd (in_nil k other)
          ];
          rising = pairs_nil (λ (t u : MapTaking). slot_number t.slot < slot_number u.slot);
          text = sym (append-nil text);
        }

        pub some_lines : (old mid new : List ℕ) → (qs ≡ [] → ⊥) → IsBelow s root taker.slot → mid ≡ old ++ taking_heading taker.slot → ArePlacesWritten the_space 2 (merged space qs []) mid new
            → AreTakingsTold the_space root (taker ∷ []) old new
        some_lines old mid new some below line placed =
            let t : MapTaking = record { slot = taker.slot; lines = placed.lines } in
            let own : IsTaking told given roots s space root t = record {
              below = below;
              some = λ end. some_entries told given roots s space qs [] (λ none no_runs. some none) (sym placed.entries ∙ ap entries end);
              lines = (subst (λ (x : Slot). AreLinesAt told given roots s space (TakenBy x) placed.lines) same (taking_lines placed.lines placed.entries), placed.inside);
            } in record {
              written = t ∷ [];
              each = λ u has. elim (in_cons_cases t [] u has) [
                | inl here ↦ subst (IsTaking told given roots s space root) here own
                | inr none ↦ absurd (in_nil u none)
              ];
              from = λ u has. elim (in_cons_cases t [] u has) [
                | inl here ↦ (taker, in_head taker [], ap (λ (x : MapTaking). x.slot) here)
                | inr none ↦ absurd (in_nil u none)
              ];
              complete = λ k v has under is_in of stands in_place. elim (in_cons_cases taker [] k has) [
                | inl here ↦ (t, in_head t [], ap (λ (x : Taker). x.slot) here)
                | inr none ↦ absurd (in_nil k none)
              ];
              rising = pairs_cons (λ (x y : MapTaking). slot_number x.slot < slot_number y.slot) t [] (λ y none. absurd (in_nil y none)) (pairs_nil (λ (x y : MapTaking). slot_number x.slot < slot_number y.slot));
              text = placed.text
                  ∙ ap (λ x. x ++ lines_text given 2 space placed.lines) line
                  ∙ append_assoc old (taking_heading taker.slot) (lines_text given 2 space placed.lines)
                  ∙ ap (λ x. old ++ x) (sym (append-nil (taking_text given space t)));
            }

  -- ---- those of some bridges

  module _ (root : ℕ) where
    pub no_takings : (text : List ℕ) → AreTakingsTold the_space root [] text text
    no_takings text = record {
      written = [];
      each = λ t has. absurd (in_nil t has);
      from = λ t has. absurd (in_nil t has);
      complete = λ taker v has below is_in of stands in_place. absurd (in_nil taker has);
      rising = pairs_nil (λ (t u : MapTaking). slot_number t.slot < slot_number u.slot);
      text = sym (append-nil text);
    }

    -- a bridge that isn't below the root
    other_root : (taker : Taker) (text : List ℕ) → (IsBelow s root taker.slot → ⊥) → AreTakingsTold the_space root (taker ∷ []) text text
    other_root taker text apart = record {
      written = [];
      each = λ t has. absurd (in_nil t has);
      from = λ t has. absurd (in_nil t has);
      complete = λ k v has below is_in of stands in_place. elim (in_cons_cases taker [] k has) [
        | inl here ↦ absurd (apart (subst (λ (y : Taker). IsBelow s root y.slot) (sym here) below))
        | inr none ↦ absurd (in_nil k none)
      ];
      rising = pairs_nil (λ (t u : MapTaking). slot_number t.slot < slot_number u.slot);
      text = sym (append-nil text);
    }

    both : (xs : List Taker) (taker : Taker) (old mid new : List ℕ) → ((x : Taker) → Contains xs x → slot_number x.slot < slot_number taker.slot)
        → AreTakingsTold the_space root xs old mid → AreTakingsTold the_space root (taker ∷ []) mid new → AreTakingsTold the_space root (xs ++ taker ∷ []) old new
    both xs taker old mid new lower first second = record {
      written = first.written ++ second.written;
      each = λ t has. elim (Contains-append_cases first.written second.written t has) [ inl early ↦ first.each t early | inr late ↦ second.each t late ];
      from = λ t has. elim (Contains-append_cases first.written second.written t has) [
        | inl early ↦ (let it = first.from t early in (it.0, Contains-append_left xs (taker ∷ []) it.0 it.1, it.2))
        | inr late ↦ (let it = second.from t late in (it.0, Contains-append_right xs (taker ∷ []) it.0 it.1, it.2))
      ];
      complete = λ k v has below is_in of stands in_place. elim (Contains-append_cases xs (taker ∷ []) k has) [
        | inl early ↦ (let it = first.complete k v early below is_in of stands in_place in (it.0, Contains-append_left first.written second.written it.0 it.1, it.2))
        | inr late ↦ (let it = second.complete k v late below is_in of stands in_place in (it.0, Contains-append_right first.written second.written it.0 it.1, it.2))
      ];
      rising = pairs_append (λ (t u : MapTaking). slot_number t.slot < slot_number u.slot) first.written second.written first.rising second.rising
          (λ t u early late. (
          let one = first.from t early in
          let two = second.from u late in
          let last : taker ≡ two.0 = elim (in_cons_cases taker [] two.0 two.1) [ inl here ↦ here | inr none ↦ absurd (in_nil two.0 none) ] in
          let low = lower one.0 one.1 in
          subst (λ (x : Slot). slot_number t.slot < slot_number x) (ap (λ (y : Taker). y.slot) last ∙ two.2) (subst (λ (x : Slot). slot_number x < slot_number taker.slot) one.2 low)));
      text = second.text ∙ ap (λ x. x ++ flat_map (taking_text given space) second.written) first.text
          ∙ append_assoc old (flat_map (taking_text given space) first.written) (flat_map (taking_text given space) second.written)
          ∙ ap (λ x. old ++ x) (sym (flat_map-append (taking_text given space) first.written second.written));
    }

    module _ (takers : List Taker) (are : AreTakers given roots s takers) (k : ℕ) (taker : Taker) (within : k < length takers) (at : taker ≡ get_or takers k taker) where
      more : take k takers ++ taker ∷ [] ≡ take (k + 1) takers
      more = ap (λ (y : Taker). take k takers ++ y ∷ []) at ∙ sym (take_more takers k taker within)

      pub listed : Contains takers taker
      listed = subst (Contains takers) (sym at) (Contains-get_or takers k taker within)

      lower : (x : Taker) → Contains (take k takers) x → slot_number x.slot < slot_number taker.slot
      lower x has = before_at takers k taker within (sym at) are.rising x has
        where
          before_at : (xs : List Taker) (k : ℕ) (z : Taker) → k < length xs → get_or xs k z ≡ z → AllPairs (λ (t u : Taker). slot_number t.slot < slot_number u.slot) xs → (y : Taker) → Contains (take k xs) y → slot_number y.slot < slot_number z.slot
          before_at [] k z less is rise y has = absurd (let no : ⊥ = omega (arith, less) in no)
          before_at (x ∷ xs) zero z less is rise y has = absurd (in_nil y has)
          before_at (x ∷ xs) (suc k) z less is rise y has = elim (in_cons_cases x (take k xs) y has) [
            | inl here ↦ subst (λ (w : Taker). slot_number w.slot < slot_number z.slot) here
                (pairs_head (λ (t u : Taker). slot_number t.slot < slot_number u.slot) x xs z rise (subst (λ w. Contains xs w) is (Contains-get_or xs k z (omega (arith, less)))))
            | inr later ↦ before_at xs k z (omega (arith, less)) is (pairs_tail (λ (t u : Taker). slot_number t.slot < slot_number u.slot) x xs rise) y later
          ]

      pub one_taking : (old mid new : List ℕ) → AreTakingsTold the_space root (take k takers) old mid → AreTakingsTold the_space root (taker ∷ []) mid new → AreTakingsTold the_space root (take (k + 1) takers) old new
      one_taking old mid new first second = subst (λ xs. AreTakingsTold the_space root xs old new) more (both (take k takers) taker old mid new lower first second)

      -- it is below its root alone
      pub its_root : taker.root ≡ root → IsBelow s root taker.slot
      its_root same = (let it = are.each taker listed in record { bridges = it.2.above.bridges; leads = subst (λ n. Leads s n it.2.above.bridges taker.slot.bus) same it.2.above.leads })

      pub none_taking : (old mid new : List ℕ) → Contains roots root → (taker.root ≡ root → ⊥) → new ≡ mid → AreTakingsTold the_space root (take k takers) old mid → AreTakingsTold the_space root (take (k + 1) takers) old new
      none_taking old mid new is_root other is first =
          subst (λ text. AreTakingsTold the_space root (take (k + 1) takers) old text) (sym is)
          (one_taking old mid mid first (other_root taker mid (λ below. other (sym ((are.each taker listed).2.above.only root below.bridges is_root below.leads)))))

    -- all of them
    pub takings_are : (takers : List Taker) (old new : List ℕ) → AreTakers given roots s takers → (told_all : AreTakingsTold the_space root takers old new) → AreTakings told given roots s space root told_all.written
    takings_are takers old new are told_all = record {
      each = told_all.each;
      complete = λ slot q below is_in of stands in_place. (
          let it = are.complete stands.b stands.listed (takes_given given (regions.space_of q) (range_of q).first stands.b stands.taken) in
          let same : it.0.slot ≡ slot = it.2 ∙ stands.at in
          let found = told_all.complete it.0 q it.1 (subst (λ (x : Slot). IsBelow s root x) (sym same) below) is_in of (subst (λ (x : Slot). StandsBehind given s x q) (sym same) stands) in_place in
          (found.0, found.1, found.2 ∙ same));
      rising = told_all.rising;
    }

-- a text without bytes is of none
pub none_written : (given : Given) (space : Space) (ts : List MapTaking) (text : List ℕ) → text ≡ flat_map (taking_text given space) ts → text ≡ [] → ts ≡ []
none_written given space [] text is none = refl
none_written given space (t ∷ ts) text is none = let no : flat_map (taking_text given space) (t ∷ ts) ≡ [] = sym is ∙ none in absurd cc
