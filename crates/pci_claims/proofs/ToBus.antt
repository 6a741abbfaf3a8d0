-- What gets to a bus, whether or not a function stands there.
use Rattle.std.proofs.Common.{◌≡◌, ℕ, ◌+◌, ◌<◌, ◌≤◌, ◌⊎◌, length, get_or, take, inl, inr, List, [], ◌∷◌, ◌++◌, Bool, true, refl, sym, ◌∙◌, ap, subst, arith}
use Rattle.std.specs.Prelude.{◌↔◌, IsTrue}
use Rattle.std.specs.Option.{is_some}
use Rattle.std.specs.List.{Contains, list_all}
use Rattle.std.proofs.lemmas.Bool.{and_from, and_parts, cases_eq, false_from_ne_true}
use Rattle.std.proofs.lemmas.List.Elements.{All-contains, Contains-push_cases}
use Rattle.std.proofs.lemmas.List.{take_more, take_all}
use Rattle.pci_spec.specs.Slot.{slot_number}
use Rattle.pci_spec.specs.System.{System, Function, Space, Leads, IsAddress, is_bridge}
use Rattle.pci_spec.specs.Bus.{IsNested, LeadsTo, secondary}
use Rattle.pci_spec.specs.Decoded.{IsDecodable}
use Rattle.pci_spec.proofs.BusRanges.{IsWithin, ordered, within_of_behind, apart_shares_none}
use Rattle.pci_spec.proofs.Members.{in_nil}
use Rattle.pci_spec.proofs.Ways.{leads_push}
use Rattle.pci_base.specs.declared.range.Range.{Range}
use Rattle.pci_function.specs.declared.record.Record.{Record}
use Rattle.pci_tree.specs.Ranges.{Covers, IsCanonical}
use Rattle.pci_tree.specs.Ways.{IsBridgeIn, bus_behind}
use Rattle.pci_tree.specs.Outline.{RiseBySlot}
use Rattle.pci_tree.proofs.Lifting.{Has, record_for, function_for, functions_rise, same_bridge, same_secondary, same_slot_of, one_by_number}
use Rattle.judge_spec.specs.Given.{Given}
use Rattle.judge_spec.specs.Claims.{forwards, Gets}
use Rattle.pci_claims.specs.Passed.{forwards_with}
use Rattle.pci_claims.specs.Reached.{IsAccessReach}
use Rattle.pci_claims.specs.Sent.{IsSentTo}
use Rattle.pci_claims.proofs.Gathering.{none_covered}
use Rattle.pci_claims.proofs.Linking.{forwards_same}
use Rattle.pci_claims.proofs.Rooted.{sent_there}

-- ---- ways that end with a bridge

all_push : (p : Function → Bool) (bridges : List Function) (b : Function) → IsTrue (list_all p bridges) → IsTrue (p b) → IsTrue (list_all p (bridges ++ b ∷ []))
all_push p [] b all pass = and_from (p b) true pass refl
all_push p (c ∷ bridges) b all pass =
    let parts = and_parts (p c) (list_all p bridges) all in
    and_from (p c) (list_all p (bridges ++ b ∷ [])) parts.0 (all_push p bridges b parts.1 pass)

-- the last bridge of a way passes, and so do those before it
record EndsAt (s : System) (p : Function → Bool) (from to : ℕ) : Type 0 where
  last : Function
  leads_there : LeadsTo s last to
  passes_last : IsTrue (p last)
  front : List Function
  leads : Leads s from front last.slot.bus
  passes_front : IsTrue (list_all p front)

way_end : (s : System) (p : Function → Bool) (from : ℕ) (bridges : List Function) (to : ℕ) → Leads s from bridges to → IsTrue (list_all p bridges) → (from ≡ to) ⊎ EndsAt s p from to
way_end s p from [] to leads all = inl leads
way_end s p from (b ∷ bridges) to (has, bridge, on, rest) all =
    let parts = and_parts (p b) (list_all p bridges) all in
    elim (way_end s p (secondary b) bridges to rest parts.1) [
      | inl here ↦ inr record { last = b; leads_there = (has, bridge, here); passes_last = parts.0; front = []; leads = sym on; passes_front = refl }
      | inr ends ↦ inr record {
        last = ends.last;
        leads_there = ends.leads_there;
        passes_last = ends.passes_last;
        front = b ∷ ends.front;
        leads = (has, bridge, on, ends.leads);
        passes_front = and_from (p b) (list_all p ends.front) parts.0 ends.passes_front;
      }
    ]

-- ---- one bridge leads to a bus

module _ (roots : List ℕ) (s : System) (nested : IsNested roots s) (unique : (b c : Function) → Contains s b → Contains s c → slot_number b.slot ≡ slot_number c.slot → b ≡ c) where
  not_behind : (b c : Function) (bus : ℕ) → LeadsTo s b bus → LeadsTo s c bus → IsWithin c b.slot.bus → ⊥
  not_behind b c bus to_b to_c within =
      let up = (ordered b (nested.order b to_b.0 to_b.1)).up in
      let low = within.low in
      let one = to_b.2 in
      let other = to_c.2 in
      let no : ⊥ = omega (arith, up, low, one, other) in no

  starts_with : (b : Function) (bus : ℕ) → LeadsTo s b bus → IsWithin b bus
  starts_with b bus to_b =
      let range = (ordered b (nested.order b to_b.0 to_b.1)).range in
      let at = to_b.2 in
      record { low = omega (arith, at); high = omega (arith, at, range) }

  one_leader : (b c : Function) (bus : ℕ) → LeadsTo s b bus → LeadsTo s c bus → b ≡ c
  one_leader b c bus to_b to_c = elim (cases_eq (slot_number b.slot) (slot_number c.slot)) [
    | inl same ↦ unique b c to_b.0 to_c.0 same
    | inr differ ↦ absurd (apart_shares_none b c
        (nested.apart b c to_b.0 to_c.0 to_b.1 to_c.1 (λ same. differ (ap slot_number same))
        (false_from_ne_true _ (λ h. not_behind b c bus to_b to_c (within_of_behind c b.slot.bus h)))
        (false_from_ne_true _ (λ h. not_behind c b bus to_c to_b (within_of_behind b c.slot.bus h))))
        bus (starts_with b bus to_b) (starts_with c bus to_c))
  ]

-- ---- what gets there

module _ (given : Given) (roots : List ℕ) (s : System) (nested : IsNested roots s) (space : Space) (bus : ℕ) where
  pub root_reach : (out : List Range) → Contains roots bus → IsSentTo given space bus out → IsAccessReach given roots s space bus out
  root_reach out root is = record {
    canonical = is.canonical;
    exact = λ a. (
      λ (h : Covers out a). (let sent = (is.exact a).0 h in (sent.0, (bus, root, sent.1, [], refl, refl))),
      λ (h : IsAddress space a × Gets given roots s space a bus). (is.exact a).1 (h.0, sent_there given roots s nested bus root space a h.1),
    );
  }

  module _ (no_root : Contains roots bus → ⊥) where
    last_bridge : (a : ℕ) (gets : Gets given roots s space a bus) → EndsAt s (forwards given space a) gets.0 bus
    last_bridge a (from, in_roots, sent, bridges, leads, all) = elim (way_end s (forwards given space a) from bridges bus leads all) [
      | inl here ↦ absurd (no_root (subst (Contains roots) here in_roots))
      | inr ends ↦ ends
    ]

    pub no_reach : (out : List Range) → out ≡ [] → ((b : Function) → LeadsTo s b bus → ⊥) → IsAccessReach given roots s space bus out
    no_reach out empty none = subst (IsAccessReach given roots s space bus) (sym empty) record {
      canonical = record { each = λ k d less. absurd (omega (arith, less)); apart = λ j k d up less. absurd (omega (arith, less)) };
      exact = λ a. (
        λ (h : Covers [] a). absurd (none_covered a h),
        λ (h : IsAddress space a × Gets given roots s space a bus). (let ends = last_bridge a h.1 in absurd (none ends.last ends.leads_there)),
      );
    }

    module _ (unique : (b c : Function) → Contains s b → Contains s c → slot_number b.slot ≡ slot_number c.slot → b ≡ c) (b : Function) (there : LeadsTo s b bus)
        (r : Record) (same : (a : ℕ) → forwards given space a b ≡ forwards_with given space a r) where
      above_of : (a : ℕ) → Gets given roots s space a bus → Gets given roots s space a b.slot.bus × IsTrue (forwards_with given space a r)
      above_of a gets =
          let ends = last_bridge a gets in
          let one : ends.last ≡ b = one_leader roots s nested unique ends.last b bus ends.leads_there there in (
            (gets.0, gets.1, gets.2, ends.front, subst (λ (x : Function). Leads s gets.0 ends.front x.slot.bus) one ends.leads, ends.passes_front),
            sym (same a) ∙ subst (λ (x : Function). IsTrue (forwards given space a x)) one ends.passes_last,
          )

      pub bridge_reach : (above out : List Range) → IsAccessReach given roots s space b.slot.bus above → IsCanonical out → ((a : ℕ) → Covers out a ↔ (Covers above a × IsTrue (forwards_with given space a r)))
          → IsAccessReach given roots s space bus out
      bridge_reach above out gets canonical exact = record {
        canonical = canonical;
        exact = λ a. (
          λ (h : Covers out a). (
              let both = (exact a).0 h in
              let (address, (root, in_roots, sent, bridges, leads, all)) = (gets.exact a).0 both.0 in
              (address, (root, in_roots, sent, bridges ++ b ∷ [], leads_push s root bridges b bus leads there, all_push (forwards given space a) bridges b all (same a ∙ both.1)))),
          λ (h : IsAddress space a × Gets given roots s space a bus). (
              let up = above_of a h.1 in
              (exact a).1 ((gets.exact a).1 (h.0, up.0), up.1)),
        );
      }

-- ---- by the records

module _ (given : Given) (roots : List ℕ) (s : System) (records : List Record) (has : Has s records) (rise : RiseBySlot records) (nested : IsNested roots s) (space : Space) (bus : ℕ)
    (no_root : Contains roots bus → ⊥) where
  unique_functions : (b c : Function) → Contains s b → Contains s c → slot_number b.slot ≡ slot_number c.slot → b ≡ c
  unique_functions b c in_b in_c same = one_by_number (λ (f : Function). slot_number f.slot) s b c (functions_rise s records has rise) in_b in_c same

  pub unled_reach : (out : List Range) → out ≡ [] → ((r : Record) → IsBridgeIn records r → bus_behind r ≡ bus → ⊥) → IsAccessReach given roots s space bus out
  unled_reach out empty none = no_reach given roots s nested space bus no_root out empty (λ b there.
      let (r, stands) = record_for s records b has there.0 in
      none r record { has = stands.has; is = same_bridge r b stands.same ∙ there.1 } (same_secondary r b stands.same there.1 ∙ there.2))

  pub behind_reach : (r : Record) (above out : List Range) → IsBridgeIn records r → bus_behind r ≡ bus → IsAccessReach given roots s space r.slot.bus above → IsCanonical out
      → ((a : ℕ) → Covers out a ↔ (Covers above a × IsTrue (forwards_with given space a r))) → IsAccessReach given roots s space bus out
  behind_reach r above out bridge at gets canonical exact =
      let (f, listed, same) = function_for s records r has bridge.has in
      let is_one : is_bridge f ≡ true = sym (same_bridge r f same) ∙ bridge.is in
      let decodable : IsDecodable f = All-contains IsDecodable s f has.decodable listed in
      bridge_reach given roots s nested space bus no_root unique_functions f (listed, is_one, sym (same_secondary r f same is_one) ∙ at) r
      (λ a. forwards_same given space a r f decodable is_one same)
      above out (subst (λ n. IsAccessReach given roots s space n above) (ap (λ x. x.bus) (same_slot_of r f same)) gets) canonical exact

-- ---- looking for the bridge

-- no bridge among some records leads to the bus
abbrev pub NoneLeads : List Record → ℕ → Type 0
NoneLeads records bus = (r : Record) → IsBridgeIn records r → bus_behind r ≡ bus → ⊥

pub none_leads_yet : (bus : ℕ) → NoneLeads [] bus
none_leads_yet bus r bridge at = in_nil r bridge.has

pub none_leads_more : (records : List Record) (k : ℕ) (r : Record) (bus : ℕ) → k < length records → r ≡ get_or records k r → NoneLeads (take k records) bus
    → (IsTrue (is_some r.bridge) → bus_behind r ≡ bus → ⊥) → NoneLeads (take (k + 1) records) bus
none_leads_more records k r bus within at none here q bridge there =
    elim (Contains-push_cases (take k records) r q (subst (λ l. Contains l q) (take_more records k r within ∙ ap (λ x. take k records ++ x ∷ []) (sym at)) bridge.has)) [
      | inl before ↦ none q record { has = before; is = bridge.is } there
      | inr same ↦ here (subst (λ (x : Record). IsTrue (is_some x.bridge)) (sym same) bridge.is) (subst (λ (x : Record). bus_behind x ≡ bus) (sym same) there)
    ]

pub none_leads_at_all : (records : List Record) (n bus : ℕ) → length records ≤ n → NoneLeads (take n records) bus → NoneLeads records bus
none_leads_at_all records n bus end none = subst (λ l. NoneLeads l bus) (take_all n records end) none
