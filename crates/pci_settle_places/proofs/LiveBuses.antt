-- Buses with live functions, in one pass over the records from the highest slot down.
use Rattle.std.proofs.Common.{◌≡◌, ℕ, zero, suc, ◌+◌, ◌-◌, ◌<◌, ◌≤◌, inl, inr, List, [], ◌∷◌, map, length, drop, set, replicate, get_or, Bool, true, false, cond, ◌&&◌, ◌||◌, arith, refl, sym, ◌∙◌, ap, subst, Option, None, Some}
use Rattle.std.specs.Bool.{◌==◌}
use Rattle.std.specs.Option.{is_some}
use Rattle.std.specs.List.{list_any, slice_get}
use Rattle.std.proofs.lemmas.Bool.{cases_eq, eqb-true, eq-eqb, false_from_ne_true, and_parts}
use Rattle.std.proofs.lemmas.List.{length-set, get_or-replicate, get_or-set_same, get_or-set_other, drop_more, drop_all}
use Rattle.std.proofs.lemmas.List.Elements.{All-contains}
use Rattle.std.proofs.lemmas.Option.{slice_get_within, slice_get-get_or, slice_get_read, get_or_from_slice_get}
use Rattle.pci_spec.specs.System.{System, Function, Space, IsFunction, IsSystem, is_bridge}
use Rattle.pci_spec.specs.Bus.{secondary, IsNested}
use Rattle.pci_spec.specs.Decoded.{HasRecords}
use Rattle.pci_spec.specs.Decoded as decoded
use Rattle.plan_spec.proofs.Planning.Safe.{order_of}
use Rattle.settle_spec.specs.Lists.{Request}
use Rattle.judge_spec.specs.ToldRegion.{told_regions}
use Rattle.settle_spec.specs.Registers.{is_answered_by, has_own}
use Rattle.settle_spec.specs.LiveLaws.{has_live_behind, is_live}
use Rattle.settle_spec.specs.Kept.{Kept}
use Rattle.settle_spec.specs.Keeping.Registers.{is_enabled_in}
use Rattle.settle_spec.proofs.Live.{live_by_bus}
use Rattle.pci_function.specs.declared.record.Bridge.{Bridge}
use Rattle.pci_function.specs.declared.record.Record.{Record}
use Rattle.pci_function.specs.Values.{record_value}
use Rattle.pci_tree.proofs.Lifting.{same_bridge, same_slot_of}
use Rattle.pci_tree.proofs.RegionParts.{same_bridge_of}
use Rattle.pci_place.specs.declared.above.Above.{Above}
use Rattle.pci_place.specs.Above.{AreAboves, IsAbove}
use Rattle.pci_place.specs.Records.{IsRecordInSystem}
use Rattle.pci_place.proofs.Records.{FunctionAt, same_count, function_at}
use Rattle.pci_first_fit.proofs.NewWindows.{comes_later}
use Rattle.pci_settle_places.specs.declared.places.Places.{Places}
use Rattle.pci_settle_places.specs.Images.{HasPartPlaces}
use Rattle.pci_settle_places.specs.Claims.{has_kept}
use Rattle.pci_settle_places.specs.declared.answering.Answering.{Answering}
use Rattle.pci_settle_places.specs.Answers.{is_answering}
use Rattle.pci_settle_places.specs.Live.{IsRequestOf, HasAllPlaces, AreLiveBuses, is_live_behind, has_own_by, is_live_by}
use Rattle.pci_settle_places.proofs.AnsweringFunctions.{answering_is}
use Rattle.pci_settle_places.proofs.KeptClaims.{kept_are}
use Rattle.pci_settle_places.proofs.PlacedClaims.{enabled_is}

-- what none of the first passes is passed by the rest alone
any_drop : {X : Type 0} (p : X → Bool) (n : ℕ) (xs : List X) → ((j : ℕ) (d : X) → j < n → j < length xs → p (get_or xs j d) ≡ false) → list_any p (drop n xs) ≡ list_any p xs
any_drop p zero xs off = refl
any_drop p (suc n) [] off = refl
any_drop p (suc n) (x ∷ xs) off =
    any_drop p n xs (λ j d less within. off (suc j) d (omega (arith, less)) (omega (arith, within)))
    ∙ sym (ap (λ b. b || list_any p xs) (off 0 x (omega arith) (omega arith)))

abbrev pub live_on : System → Space → Request → Kept → ℕ → Function → Bool
live_on s space q keep bus g = g.slot.bus == bus && is_live q s keep space g

-- the table has the buses of the functions from place n on
pub record AreLiveFrom (roots : List ℕ) (s : System) (space : Space) (answering : Answering) (table : List Places) (n : ℕ) (live : List Bool) : Type 0 where
  pub size : length live ≡ 256
  pub each : (q : Request) (keep : Kept) (bus : ℕ) → IsRequestOf q s roots answering → HasAllPlaces q s keep table → bus < 256 → get_or live bus false ≡ list_any (live_on s space q keep bus) (drop n s)

module _ (roots : List ℕ) (s : System) (system : IsSystem s) (nested : IsNested roots s) (space : Space) (answering : Answering) (table : List Places) where
  abbrev on : Request → Kept → ℕ → Function → Bool
  on q keep bus g = live_on s space q keep bus g

  abbrev AreLive : ℕ → List Bool → Type 0
  AreLive n live = AreLiveFrom roots s space answering table n live

  pub live_none : (n : ℕ) → length s ≤ n → AreLive n (replicate 256 false)
  live_none n past = record {
    size = refl;
    each = λ q keep bus of placed small. get_or-replicate 256 bus false false small ∙ sym (ap (list_any (on q keep bus)) (drop_all n s past));
  }

  pub live_all : (live : List Bool) → AreLive 0 live → AreLiveBuses roots s space answering table live
  live_all live from q keep bus of placed small = from.each q keep bus of placed small

  -- where the table has the buses of all functions after a bridge, it has the one behind the bridge
  pub behind_is : (k : ℕ) (f : Function) (r : Record) → slice_get s k ≡ Some f → IsRecordInSystem s f r → (live : List Bool) → (q : Request) (keep : Kept)
      → ((bus : ℕ) → bus < 256 → get_or live bus false ≡ list_any (on q keep bus) (drop (k + 1) s)) → is_live_behind live r.bridge ≡ has_live_behind s (is_live q s keep space) f
  behind_is k f r at is live q keep has = by r.bridge refl
    where
      by : (o : Option Bridge) → r.bridge ≡ o → is_live_behind live o ≡ has_live_behind s (is_live q s keep space) f
      by None e =
          let off : is_bridge f ≡ false = sym (same_bridge r f is.value) ∙ ap is_some e in
          sym (ap (λ b. b && list_any (on q keep (secondary f)) s) off)
      by (Some b) e =
          let bridge : is_bridge f ≡ true = sym (same_bridge r f is.value) ∙ ap is_some e in
          let to : b.secondary ≡ secondary f = ap (λ (x : decoded.Bridge). x.secondary) (same_bridge_of r f b is.value e) in
          let small = (All-contains IsFunction s f system.each is.listed).image.bytes 0x19 in
          let up = order_of roots s nested f is.listed bridge in
          ap (λ n. get_or live n false) to ∙ has (secondary f) small
          ∙ any_drop (on q keep (secondary f)) (k + 1) s (λ j d less within.
          false_from_ne_true (on q keep (secondary f) (get_or s j d)) (λ fine.
          let g = get_or s j d in
          let bus = eqb-true g.slot.bus (secondary f) (and_parts (g.slot.bus == secondary f) (is_live q s keep space g) fine).0 in
          let later = comes_later s system k j f g at (slice_get-get_or s j d within) (omega (arith, bus, up)) in
          (let no : ⊥ = omega (arith, later, less) in no)))
          ∙ sym (ap (λ x. x && list_any (on q keep (secondary f)) s) bridge)

  -- a function of the system, its record and its place in the table
  module _ (k : ℕ) (f : Function) (r : Record) (at : slice_get s k ≡ Some f) (is : IsRecordInSystem s f r) (d : Places) (above : Above) (over : IsAbove s f.slot.bus above) (q : Request) (keep : Kept) (of : IsRequestOf q s roots answering) (placed : HasAllPlaces q s keep table) where
    nested_for : IsNested q.roots s
    nested_for = subst (λ xs. IsNested xs s) (sym of.rooted) nested

    pub placed_here : HasPartPlaces q s keep f r (get_or table k d)
    placed_here = record {
      system = system;
      nested = nested_for;
      is = is;
      each = λ part there. placed.each k f d part at there;
    }

    pub live_is : (behind : Bool) → behind ≡ has_live_behind s (is_live q s keep space) f → is_live_by space (get_or table k d) above answering r behind ≡ is_live q s keep space f
    live_is behind same =
        ap (λ b. b && (has_own_by space above answering r || behind)) (enabled_is q s keep f r (get_or table k d) placed_here above over answering.terms of.terms space (is_live q s keep space) behind same)
        ∙ ap (λ b. is_enabled_in q s keep space f && ((b || has_kept space above answering.terms r) || behind))
        (ap (is_answering answering.told.ranges.now answering.standing.now space) (same_slot_of r f is.value) ∙ answering_is q s f space answering.told.ranges.now answering.standing.now of.told of.flags)
        ∙ ap (λ b. is_enabled_in q s keep space f && ((list_any (is_answered_by q s space f) (told_regions q.told) || b) || behind)) (kept_are q s f r is above over answering.terms of.terms space)
        ∙ ap (λ b. is_enabled_in q s keep space f && (has_own q s space f || b)) same
        ∙ sym (live_by_bus q s keep space system nested_for f is.listed)

  -- ---- the next function

  module _ (aboves : List Above) (are : AreAboves s aboves) (records : List Record) (has : HasRecords s (map record_value records)) (done : ℕ) (r : Record) (less : done < length records)
      (read : r ≡ get_or records (length records - 1 - done) r) (old : List Bool) (was : AreLive (length s - done) old) where
    abbrev place : ℕ
    place = length records - 1 - done

    pub here : FunctionAt s r place
    here = function_at s records has place r (slice_get_read records (length records) place r refl (omega (arith, less)) read)

    before : AreLive (place + 1) old
    before =
        let count = same_count s records has in
        let from : length s - done ≡ place + 1 = omega (arith, count, less) in
        subst (λ n. AreLive n old) from was

    next : place ≡ length s - (done + 1)
    next = let count = same_count s records has in omega (arith, count, less)

    pub slot_is : r.slot.bus ≡ here.f.slot.bus
    slot_is = ap (λ (x : Rattle.pci_spec.specs.Slot.Slot). x.bus) (same_slot_of r here.f here.is.value)

    -- the bus of a live function is put into the table, and all else stays
    pub live_step : (bus : ℕ) (d : Places) (a : Above) (behind test : Bool) (new : List Bool) → bus ≡ r.slot.bus
        → behind ≡ is_live_behind old r.bridge → test ≡ is_live_by space (get_or table place d) (get_or aboves bus a) answering r behind → new ≡ cond test (set old bus true) old → AreLive (length s - (done + 1)) new
    live_step bus d a behind test new bus_is behind_read test_is new_is =
        let f = here.f in
        let on_bus : bus ≡ f.slot.bus = bus_is ∙ slot_is in
        let low = (All-contains IsFunction s f system.each here.is.listed).slot.0 in
        let size = before.size in
        let over : IsAbove s f.slot.bus (get_or aboves bus a) = subst (λ n. IsAbove s f.slot.bus (get_or aboves n a)) (sym on_bus) (are f a here.is.listed) in
        let long : length (cond test (set old bus true) old) ≡ 256 = elim test as (λ b. length (cond b (set old bus true) old) ≡ 256) [ true ↦ length-set old bus true ∙ size | false ↦ size ] in
        let shown : (other : ℕ) (b : Bool) → get_or (cond b (set old bus true) old) other false ≡ ((f.slot.bus == other && b) || get_or old other false) = λ other b.
        elim (cases_eq other bus) [
          | inl same ↦
              let eq : (f.slot.bus == other) ≡ true = eq-eqb f.slot.bus other (sym (same ∙ on_bus)) in
              (elim b as (λ b. get_or (cond b (set old bus true) old) other false ≡ ((f.slot.bus == other && b) || get_or old other false)) [
                | true ↦
                    ap (λ n. get_or (set old bus true) n false) same ∙ get_or-set_same old bus true false (omega (arith, size, low, on_bus))
                    ∙ sym (ap (λ x. (x && true) || get_or old other false) eq)
                | false ↦ sym (ap (λ x. (x && false) || get_or old other false) eq)
              ])
          | inr differ ↦
              let no : (f.slot.bus == other) ≡ false = false_from_ne_true (f.slot.bus == other) (λ fine. differ (sym (eqb-true f.slot.bus other fine) ∙ sym on_bus)) in
              (elim b as (λ b. get_or (cond b (set old bus true) old) other false ≡ ((f.slot.bus == other && b) || get_or old other false)) [
                | true ↦ get_or-set_other old bus other true false differ ∙ sym (ap (λ x. (x && true) || get_or old other false) no)
                | false ↦ sym (ap (λ x. (x && false) || get_or old other false) no)
              ])
        ] in
        subst (λ n. AreLive n new) next record {
          size = ap length new_is ∙ long;
          each = λ q keep other of placed small.
              let told = behind_read ∙ behind_is place f r here.at here.is old q keep (λ n less. before.each q keep n of placed less) in
              let live = test_is ∙ live_is place f r here.at here.is d (get_or aboves bus a) over q keep of placed behind told in
              ap (λ xs. get_or xs other false) new_is ∙ shown other test
              ∙ ap (λ b. (f.slot.bus == other && b) || get_or old other false) live
              ∙ ap (λ b. on q keep other f || b) (before.each q keep other of placed small)
              ∙ sym (ap (list_any (on q keep other)) (drop_more s place f (slice_get_within s place f here.at)) ∙ ap (λ g. on q keep other g || list_any (on q keep other) (drop (place + 1) s)) (get_or_from_slice_get s place f f here.at));
        }
