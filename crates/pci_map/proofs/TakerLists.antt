-- The bridges that may take anything, by records.
use Rattle.std.proofs.Common.{◌≡◌, ◌⊎◌, ℕ, ◌+◌, ◌<◌, ◌≤◌, List, [], ◌∷◌, ◌++◌, map, take, length, get_or, true, false, ◌&&◌, sym, ap, ◌∙◌, subst, inl, inr, None, Some}
use Rattle.std.specs.Prelude.{IsTrue, nat_le}
use Rattle.std.specs.Option.{is_some}
use Rattle.std.specs.List.{AllPairs, Contains, list_any}
use Rattle.std.proofs.lemmas.Bool.{and_parts, both_ways, cases_Bool, false≢true, false_from_ne_true}
use Rattle.std.proofs.lemmas.List.{take_more, take_all}
use Rattle.std.proofs.lemmas.List.Elements.{Contains-get_or, Contains-append_cases, Contains-append_left, Contains-append_right}
use Rattle.pci_spec.specs.Slot.{Slot, same_slot, slot_number}
use Rattle.pci_spec.specs.System.{System, Function, Space, is_bridge, is_space_on}
use Rattle.pci_spec.specs.Decoded.{record_of}
use Rattle.pci_spec.proofs.BusRanges.{any_from}
use Rattle.pci_spec.proofs.Members.{in_nil, in_cons_cases, in_head, in_map_from, pairs_nil, pairs_cons, pairs_append}
use Rattle.pci_function.specs.declared.record.Bridge.{Bridge}
use Rattle.pci_function.specs.declared.record.Record.{Record}
use Rattle.pci_function.specs.Values.{record_value}
use Rattle.pci_tree.specs.Outline.{RiseBySlot}
use Rattle.pci_tree.specs.Ways.{secondary_in, slots_of}
use Rattle.pci_tree.proofs.Lifting.{Has, record_for, same_bridge, same_secondary, same_slot_of, one_by_number}
use Rattle.judge_spec.specs.Given.{Given, TakingBridge, ranges_of, is_taken_at, takes}
use Rattle.judge_spec.specs.UnclaimedLaws.{is_taking}
use Rattle.judge_spec.proofs.Unclaimed.{none_passes}
use Rattle.pci_claims.specs.declared.given.TakingBridge as lent
use Rattle.pci_claims.specs.Values.{taking_value}
use Rattle.pci_claims.proofs.Parts.{any_more}
use Rattle.pci_map.specs.declared.takers.Taker.{Taker}
use Rattle.pci_map.specs.Above.{IsOnlyRootAbove}
use Rattle.pci_map.specs.Addresses.{SpaceRanges, AreTakenBy}
use Rattle.pci_map.specs.Takers.{AreTakenByBridgeAt, MayTake, IsTaker, AreTakers}
use Rattle.pci_map.proofs.TakenRanges.{taken_by, nothing_taken}
use Rattle.pci_map.proofs.Tolds.{before}

-- ---- whether it is given what a bridge takes

-- one more entry, of another slot
pub not_yet : (entries : List lent.TakingBridge) (k : ℕ) (e : lent.TakingBridge) (slot : Slot) → k < length entries → e ≡ get_or entries k e → same_slot e.slot slot ≡ false
    → is_taking (map taking_value (take k entries)) slot ≡ false → is_taking (map taking_value (take (k + 1) entries)) slot ≡ false
not_yet entries k e slot within at other none = false_from_ne_true (is_taking (map taking_value (take (k + 1) entries)) slot) (λ yes.
    elim ((any_more (λ (b : TakingBridge). same_slot b.slot slot) taking_value entries k e within at).0 yes) [
      | inl early ↦ both_ways (is_taking (map taking_value (take k entries)) slot) none early
      | inr here ↦ both_ways (same_slot e.slot slot) other here
    ])

-- an entry of the slot
pub found_at : (entries : List lent.TakingBridge) (k : ℕ) (e : lent.TakingBridge) (slot : Slot) → k < length entries → e ≡ get_or entries k e → same_slot e.slot slot ≡ true → is_taking (map taking_value entries) slot ≡ true
found_at entries k e slot within at same =
    any_from (λ (b : TakingBridge). same_slot b.slot slot) (map taking_value entries) (taking_value e)
    (in_map_from taking_value entries e (subst (Contains entries) (sym at) (Contains-get_or entries k e within))) same

-- what is taken is given
pub takes_given : (given : Given) (space : Space) (a : ℕ) (f : Function) → IsTrue (takes given space a f) → MayTake given f
takes_given given space a f takes =
    let parts = and_parts (is_bridge f && is_space_on f space) (list_any (is_taken_at f space a) given.unclaimed) takes in
    let own = and_parts (is_bridge f) (is_space_on f space) parts.0 in (
      own.0,
      elim (cases_Bool (is_taking given.unclaimed f.slot)) [
        | inl listed ↦ listed
        | inr unlisted ↦ absurd (both_ways _ (none_passes (λ (e : TakingBridge). same_slot e.slot f.slot) (λ e. list_any (λ r. nat_le r.first a && nat_le a r.last) (ranges_of e space)) given.unclaimed unlisted) parts.1)
      ],
    )

-- ---- one record

module _ (given : Given) (r : Record) (f : Function) (same : record_value r ≡ record_of f) where
  pub no_bridge : r.bridge ≡ None → MayTake given f → ⊥
  no_bridge none may = false≢true (sym (ap is_some none) ∙ same_bridge r f same ∙ may.0)

  pub not_given : is_taking given.unclaimed r.slot ≡ false → MayTake given f → ⊥
  not_given none may = both_ways (is_taking given.unclaimed r.slot) none (subst (λ (x : Slot). is_taking given.unclaimed x ≡ true) (sym (same_slot_of r f same)) may.1)

pub taker_is : (roots : List ℕ) (s : System) (r : Record) (f : Function) (b : Bridge) (taker : Taker) → record_value r ≡ record_of f → r.bridge ≡ Some b → taker.slot ≡ r.slot → taker.bus ≡ b.secondary
    → IsOnlyRootAbove roots s r.slot.bus taker.root → IsTaker roots s f taker
taker_is roots s r f b taker same is slot bus above =
    let bridge : is_bridge f ≡ true = sym (same_bridge r f same) ∙ ap is_some is in record {
      bridge = bridge;
      slot = sym (same_slot_of r f same) ∙ sym slot;
      behind = sym (same_secondary r f same bridge) ∙ ap secondary_in is ∙ sym bus;
      above = subst (λ (x : Slot). IsOnlyRootAbove roots s x.bus taker.root) (sym slot) above;
    }

-- ---- what the bridge at a slot takes

module _ (given : Given) (s : System) (slot : Slot) (x : SpaceRanges) where
  pub nothing_at : given.unclaimed ≡ [] → x ≡ record { io = []; memory = [] } → AreTakenByBridgeAt given s slot x
  nothing_at nothing none b listed at = nothing_taken given b x nothing none

  pub no_bridge_at : (rs : List Record) → Has s rs → (Contains (slots_of rs) slot → ⊥) → AreTakenByBridgeAt given s slot x
  no_bridge_at rs has none b listed at =
      let own = record_for s rs b has listed in
      absurd (none (subst (λ (y : Slot). Contains (slots_of rs) y) (same_slot_of own.0 b own.1.same ∙ at) (in_map_from (λ (r : Record). r.slot) rs own.0 own.1.has)))

  pub taken_there : (rs : List Record) (r : Record) → Has s rs → RiseBySlot rs → Contains rs r → r.slot ≡ slot → AreTakenBy given r x → AreTakenByBridgeAt given s slot x
  taken_there rs r has rise there is are b listed at =
      let own = record_for s rs b has listed in
      let slots : own.0.slot ≡ r.slot = same_slot_of own.0 b own.1.same ∙ at ∙ sym is in
      let same : own.0 ≡ r = one_by_number (λ (y : Record). slot_number y.slot) rs own.0 r rise own.1.has there (ap slot_number slots) in
      taken_by given b x r (sym (ap record_value same) ∙ own.1.same) are

-- ---- those of some records

module _ (given : Given) (roots : List ℕ) (s : System) where
  pub record IsTakerAmong (rs : List Record) (taker : Taker) : Type 0 where
    pub r : Record
    pub has : Contains rs r
    pub at : r.slot ≡ taker.slot
    pub f : Function
    pub listed : Contains s f
    pub is : IsTaker roots s f taker

  pub record AreTakersAmong (rs : List Record) (takers : List Taker) : Type 0 where
    pub each : (taker : Taker) → Contains takers taker → IsTakerAmong rs taker
    pub complete : (r : Record) (f : Function) → Contains rs r → Contains s f → record_value r ≡ record_of f → MayTake given f → (taker : Taker) × Contains takers taker × (taker.slot ≡ f.slot)
    pub rising : AllPairs (λ (t u : Taker). slot_number t.slot < slot_number u.slot) takers

  pub none_yet : (takers : List Taker) → takers ≡ [] → AreTakersAmong [] takers
  none_yet takers none = subst (AreTakersAmong []) (sym none) record {
    each = λ taker has. absurd (in_nil taker has);
    complete = λ r f has listed same may. absurd (in_nil r has);
    rising = pairs_nil (λ (t u : Taker). slot_number t.slot < slot_number u.slot);
  }

  module _ (rs : List Record) (k : ℕ) (r : Record) (within : k < length rs) (at : r ≡ get_or rs k r) where
    one_more : take (k + 1) rs ≡ take k rs ++ r ∷ []
    one_more = take_more rs k r within ∙ ap (λ (y : Record). take k rs ++ y ∷ []) (sym at)

    before_or_here : (x : Record) → Contains (take (k + 1) rs) x → Contains (take k rs) x ⊎ (r ≡ x)
    before_or_here x has = elim (Contains-append_cases (take k rs) (r ∷ []) x (subst (λ xs. Contains xs x) one_more has)) [
      | inl early ↦ inl early
      | inr late ↦ elim (in_cons_cases r [] x late) [ inl here ↦ inr here | inr none ↦ absurd (in_nil x none) ]
    ]

    still : (taker : Taker) → IsTakerAmong (take k rs) taker → IsTakerAmong (take (k + 1) rs) taker
    still taker was = record {
      r = was.r;
      has = subst (λ xs. Contains xs was.r) (sym one_more) (Contains-append_left (take k rs) (r ∷ []) was.r was.has);
      at = was.at;
      f = was.f;
      listed = was.listed;
      is = was.is;
    }

    pub one_none : (takers new : List Taker) → new ≡ takers → ((f : Function) → Contains s f → record_value r ≡ record_of f → MayTake given f → ⊥) → AreTakersAmong (take k rs) takers → AreTakersAmong (take (k + 1) rs) new
    one_none takers new is none was = subst (AreTakersAmong (take (k + 1) rs)) (sym is) record {
      each = λ taker has. still taker (was.each taker has);
      complete = λ x f has listed same may. elim (before_or_here x has) [
        | inl early ↦ was.complete x f early listed same may
        | inr here ↦ absurd (none f listed (ap record_value here ∙ same) may)
      ];
      rising = was.rising;
    }

    pub one_taker : (takers new : List Taker) (taker : Taker) (f : Function) → RiseBySlot rs → new ≡ takers ++ taker ∷ [] → Contains s f → record_value r ≡ record_of f → IsTaker roots s f taker → AreTakersAmong (take k rs) takers
        → AreTakersAmong (take (k + 1) rs) new
    one_taker takers new taker f rise is listed same own was =
        let slot : r.slot ≡ taker.slot = same_slot_of r f same ∙ own.slot in
        subst (AreTakersAmong (take (k + 1) rs)) (sym is) record {
          each = λ t has. elim (Contains-append_cases takers (taker ∷ []) t has) [
            | inl early ↦ still t (was.each t early)
            | inr late ↦ elim (in_cons_cases taker [] t late) [
              | inl here ↦ subst (IsTakerAmong (take (k + 1) rs)) here (record {
                r = r;
                has = subst (λ xs. Contains xs r) (sym one_more) (Contains-append_right (take k rs) (r ∷ []) r (in_head r []));
                at = slot;
                f = f;
                listed = listed;
                is = own;
              })
              | inr none ↦ absurd (in_nil t none)
            ]
          ];
          complete = λ x g has there its may. elim (before_or_here x has) [
            | inl early ↦ (let found = was.complete x g early there its may in (found.0, Contains-append_left takers (taker ∷ []) found.0 found.1, found.2))
            | inr here ↦ (taker, Contains-append_right takers (taker ∷ []) taker (in_head taker []), sym slot ∙ same_slot_of r g (ap record_value here ∙ its))
          ];
          rising = pairs_append (λ (t u : Taker). slot_number t.slot < slot_number u.slot) takers (taker ∷ []) was.rising
              (pairs_cons (λ (t u : Taker). slot_number t.slot < slot_number u.slot) taker [] (λ u none. absurd (in_nil u none)) (pairs_nil (λ (t u : Taker). slot_number t.slot < slot_number u.slot)))
              (λ t u early late. (
              let from = was.each t early in
              let low : slot_number from.r.slot < slot_number r.slot = before rs k r from.r rise within (sym at) from.has in
              let here : slot_number t.slot < slot_number taker.slot = subst (λ (y : Slot). slot_number y < slot_number taker.slot) from.at (subst (λ (y : Slot). slot_number from.r.slot < slot_number y) slot low) in
              elim (in_cons_cases taker [] u late) [
                | inl is_it ↦ subst (λ (y : Taker). slot_number t.slot < slot_number y.slot) is_it here
                | inr none ↦ absurd (in_nil u none)
              ]));
        }

  pub all_takers : (rs : List Record) (k : ℕ) (takers : List Taker) → Has s rs → length rs ≤ k → AreTakersAmong (take k rs) takers → AreTakers given roots s takers
  all_takers rs k takers has past are = record {
    each = λ taker there. (let it = are.each taker there in (it.f, it.listed, it.is));
    complete = λ f listed may. (
        let own = record_for s rs f has listed in
        are.complete own.0 f (subst (λ (xs : List Record). Contains xs own.0) (sym (take_all k rs past)) own.1.has) listed own.1.same may);
    rising = are.rising;
  }

  pub no_takers : (takers : List Taker) → given.unclaimed ≡ [] → takers ≡ [] → AreTakers given roots s takers
  no_takers takers nothing none = subst (AreTakers given roots s) (sym none) record {
    each = λ taker has. absurd (in_nil taker has);
    complete = λ f listed may. absurd (false≢true (sym (ap (λ (es : List TakingBridge). is_taking es f.slot) nothing) ∙ may.1));
    rising = pairs_nil (λ (t u : Taker). slot_number t.slot < slot_number u.slot);
  }
