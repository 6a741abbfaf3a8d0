-- What is told takes no fault away, and 60 and 63 name no held range.
use Rattle.std.proofs.Common.{◌≡◌, ◌≤◌, subst, get_or, ℕ, zero, suc, ◌+◌, ◌<◌, inl, inr, List, [], ◌∷◌, false, ◌&&◌, ◌||◌, refl, sym, ◌∙◌, ap, arith, None, Some}
use Rattle.std.specs.Bool.{◌==◌}
use Rattle.std.specs.List.{slice_get}
use Rattle.std.proofs.lemmas.Bool.{ne_eqb, eq-eqb, or_from, cases_Bool}
use Rattle.std.proofs.Math.Bool.{or-false}
use Rattle.std.proofs.lemmas.Option.{slice_get_within, get_or_from_slice_get}
use Rattle.pci_spec.specs.Slot.{Slot, same_slot}
use Rattle.pci_spec.specs.System.{System, Space, Io, Memory, IsAddress}
use Rattle.pci_spec.specs.Fault.{Orphan, Unreached, Clash, Split, RegionName, Address, address_in, named_region, named_regions}
use Rattle.pci_spec.specs.Fault as plain
use Rattle.pci_spec.proofs.Regions.{register_of-lt}
use Rattle.judge_spec.specs.Given.{Given}
use Rattle.judge_spec.specs.Claims as untold
use Rattle.judge_spec.specs.Fault as untold_fault
use Rattle.judge_spec.specs.Told.{ToldRange}
use Rattle.judge_spec.specs.ToldClaims.{Told, IsRangeAt, is_held, is_held_from, is_held_beside, is_marked_held, may_share}
use Rattle.judge_spec.specs.ToldFault.{Known, IsIn, IsOutside, IsUnreached, IsClash, IsSplit}
use Rattle.judge_spec.specs.ToldJudgingLaws.{ToldOnlyAdds, HeldAreNotUnreached, HeldAreNotOutside, ToldClaimAddresses}
use Rattle.judge_spec.proofs.Judging.{shared_slot}
use Rattle.judge_spec.proofs.Naming.{named_register}

-- ---- which registers are those of held ranges

-- none before the first
none_before : (first : ℕ) (ranges : List ToldRange) (register : ℕ) → register < first → is_held_from first ranges register ≡ false
none_before first [] register less = refl
none_before first (r ∷ ranges) register less =
    or_from ((first == register) && is_marked_held r.mark) (is_held_from (first + 1) ranges register)
    (ap (λ b. b && is_marked_held r.mark) (ne_eqb first register (λ e. omega (arith, e, less))))
    (none_before (first + 1) ranges register (omega (arith, less)))

-- that of a range, where it is held
its_mark : (first : ℕ) (ranges : List ToldRange) (index register : ℕ) (r : ToldRange) → register ≡ first + index → slice_get ranges index ≡ Some r → is_held_from first ranges register ≡ is_marked_held r.mark
its_mark first [] index register r place at = let e : None ≡ Some r = at in absurd cc
its_mark first (x ∷ ranges) zero register r place at =
    let e : Some x ≡ Some r = at in
    let same : x ≡ r = cc in
    ap (λ b. (b && is_marked_held x.mark) || is_held_from (first + 1) ranges register) (eq-eqb first register (omega (arith, place)))
    ∙ ap (λ b. is_marked_held x.mark || b) (none_before (first + 1) ranges register (omega (arith, place)))
    ∙ or-false (is_marked_held x.mark)
    ∙ ap (λ (y : ToldRange). is_marked_held y.mark) same
its_mark first (x ∷ ranges) (suc index) register r place at =
    ap (λ b. (b && is_marked_held x.mark) || is_held_from (first + 1) ranges register) (ne_eqb first register (λ e. omega (arith, e, place)))
    ∙ its_mark (first + 1) ranges index register r (omega (arith, place)) at

pub low_not_held : (told : Told) (register : ℕ) → register < 256 → is_held told register ≡ false
low_not_held told register low = none_before 256 told.ranges register low

held_by_mark : (told : Told) (region : RegionName) (r : ToldRange) → IsRangeAt told region r → is_held told region.register ≡ is_marked_held r.mark
held_by_mark told region r named = its_mark 256 told.ranges named.index region.register r (sym named.register) named.at

module _ (told : Told) (given : Given) (roots : List ℕ) (s : System) where
  -- ---- 60 and 63

  unreached_not_held : (region : RegionName) (at : Address) (bridge : Slot) → IsUnreached told given roots s region at bridge → is_held told region.register ≡ false
  unreached_not_held region at bridge (inl u) =
      let low = register_of-lt u.f u.part u.claims.there in
      let named = u.named.1 in
      low_not_held told region.register (omega (arith, low, named))
  unreached_not_held region at bridge (inr u) = held_by_mark told region u.r u.needs.named ∙ u.needs.not_held

  outside_not_held : (region : RegionName) (at : Address) → IsOutside told given roots s region at → is_held told region.register ≡ false
  outside_not_held region at (inl o) =
      let low = register_of-lt o.f o.part o.claims.there in
      let named = o.named.1 in
      low_not_held told region.register (omega (arith, low, named))
  outside_not_held region at (inr o) = held_by_mark told region o.r o.needs.named ∙ o.needs.not_held

  -- ---- what is there without what is told

  -- two regions of functions share what they share without what is told
  same_apart : (first second : Slot) (fr sr : ℕ) → fr < 256 → sr < 256 → untold.may_share first fr second sr ≡ false → may_share told first fr second sr ≡ false
  same_apart first second fr sr low high apart =
      or_from (untold.may_share first fr second sr || is_held_beside told first fr second sr) (is_held_beside told second sr first fr)
      (or_from (untold.may_share first fr second sr) (is_held_beside told first fr second sr) apart
      (ap (λ b. b && (is_held told sr || same_slot first second)) (low_not_held told fr low)))
      (ap (λ b. b && (is_held told fr || same_slot second first)) (low_not_held told sr high))

  clash_stays : (bus : ℕ) (space : Space) (a : ℕ) (first : Slot) (fr : ℕ) (second : Slot) (sr : ℕ) → untold_fault.IsClash given roots s bus (address_in space a) (named_regions first fr second sr)
      → IsClash told given roots s bus (address_in space a) (named_regions first fr second sr)
  clash_stays bus space a first fr second sr c = record {
    gets = c.gets;
    claims_first = inl c.claims_first;
    claims_second = inl c.claims_second;
    differ = c.differ;
    apart = same_apart first second fr sr (named_register given s bus space a first fr c.claims_first) (named_register given s bus space a second sr c.claims_second) c.apart;
  }

  two_buses : (first second : Slot) (fr sr : ℕ) → (first.bus ≡ second.bus → ⊥) → untold.may_share first fr second sr ≡ false
  two_buses first second fr sr buses = elim (cases_Bool (untold.may_share first fr second sr)) [
    | inr apart ↦ apart
    | inl share ↦ absurd (buses (ap (λ (x : Slot). x.bus) (shared_slot first second fr sr share)))
  ]

  split_stays : (space : Space) (a : ℕ) (first : Slot) (fr : ℕ) (second : Slot) (sr : ℕ) → untold_fault.IsSplit given roots s (address_in space a) (named_regions first fr second sr)
      → IsSplit told given roots s (address_in space a) (named_regions first fr second sr)
  split_stays space a first fr second sr c = record {
    root_first = c.root_first;
    root_second = c.root_second;
    buses = c.buses;
    sent_first = c.sent_first;
    sent_second = c.sent_second;
    claims_first = inl c.claims_first;
    claims_second = inl c.claims_second;
    apart = same_apart first second fr sr (named_register given s first.bus space a first fr c.claims_first) (named_register given s second.bus space a second sr c.claims_second) (two_buses first second fr sr c.buses);
  }

  plain_stays : (fault : plain.Fault) → untold_fault.IsIn given roots s (untold_fault.Known fault) → IsIn told given roots s (Known (untold_fault.Known fault))
  plain_stays fault = elim fault as (λ fault. untold_fault.IsIn given roots s (untold_fault.Known fault) → IsIn told given roots s (Known (untold_fault.Known fault))) [
    | Orphan slot ↦ λ h. inl h
    | Unreached slot register space a bridge ↦ λ h. inl h
    | Clash bus space a first fr second sr ↦ λ h. clash_stays bus space a first fr second sr h
    | Split space a first fr second sr ↦ λ h. split_stays space a first fr second sr h
    | _ ↦ λ h. h
  ]

pub told_only_adds : ToldOnlyAdds
told_only_adds told given roots s (untold_fault.Known fault) h = plain_stays told given roots s fault h
told_only_adds told given roots s (untold_fault.Outside slot register space a) h = inl h

pub held_are_not_unreached : HeldAreNotUnreached
held_are_not_unreached told given roots s slot register space a bridge h = unreached_not_held told given roots s (named_region slot register) (address_in space a) bridge h

pub held_are_not_outside : HeldAreNotOutside
held_are_not_outside told given roots s slot register space a h = outside_not_held told given roots s (named_region slot register) (address_in space a) h

-- ---- addresses

below_last : (space : Space) (first last : ℕ) → first ≤ last → IsAddress space last → IsAddress space first
below_last Io first last le high = omega (arith, le, high)
below_last Memory first last le high = omega (arith, le, high)

pub told_claim_addresses : ToldClaimAddresses
told_claim_addresses told s region r space a is_told named claims =
    let within = slice_get_within told.ranges named.index r named.at in
    let is : get_or told.ranges named.index r ≡ r = get_or_from_slice_get told.ranges named.index r r named.at in
    let last : IsAddress r.space r.last = subst (λ (x : ToldRange). IsAddress x.space x.last) is (is_told.each named.index r within).line.last in
    subst (λ sp. IsAddress sp a) claims.holds.0 (below_last r.space a r.last claims.holds.2 last)
