-- Where claims of a list meet.
use Rattle.std.proofs.Common.{◌≡◌, ℕ, ◌+◌, ◌<◌, ◌≤◌, ◌⊎◌, inl, inr, List, [], ◌∷◌, ◌++◌, length, get_or, Option, None, Some, Bool, true, false, if◌then◌else◌, refl, sym, subst, arith}
use Rattle.std.specs.Prelude.{MatchOption, nat_le}
use Rattle.std.specs.List.{Contains}
use Rattle.std.proofs.lemmas.Bool.{cases_eq, leb-true, leb-false}
use Rattle.std.proofs.lemmas.List.Elements.{Contains-get_or, Contains-push, Contains-push_cases, Contains-append_left}
use Rattle.std.proofs.lemmas.List.Quantifiers.{all_pairs_push}
use Rattle.pci_faults.specs.declared.shares.Among.{Among}
use Rattle.pci_faults.specs.declared.shares.Among.TheVariants.{Bus, Roots}
use Rattle.pci_faults.specs.declared.shares.Share.{Share}
use Rattle.pci_faults.proofs.Sharing.{both_least, same_share}
use Rattle.pci_claims.specs.Claim.{Claimed, AreAtOdds, IsLeastAtOdds}
use Rattle.pci_faults.specs.Clashes.{AreOnTwoBuses, Meet, IsLeastOfTwo, claim_at, AreMeeting, IsLeastBelow, IsFoundBelow, lesser, AreMeetingsBelow}

-- ---- two claims

pub of_a_bus : (bus : ℕ) (c d : Claimed) (o : Option ℕ) → MatchOption o ((a : ℕ) → AreAtOdds c d a → ⊥) (λ a. IsLeastAtOdds c d a)
    → MatchOption o ((a : ℕ) → AreAtOdds c d a → ⊥) (λ a. IsLeastOfTwo (Bus bus) c d a)
of_a_bus bus c d None none = none
of_a_bus bus c d (Some a) is = record { there = is.there; least = is.least }

pub of_two_buses : (c d : Claimed) → (c.slot.bus ≡ d.slot.bus → ⊥) → (o : Option ℕ) → MatchOption o ((a : ℕ) → AreAtOdds c d a → ⊥) (λ a. IsLeastAtOdds c d a)
    → MatchOption o ((a : ℕ) → AreOnTwoBuses c d a → ⊥) (λ a. IsLeastOfTwo Roots c d a)
of_two_buses c d differ None none = λ a two. none a record { first = two.first; second = two.second; apart = two.apart }
of_two_buses c d differ (Some a) is = record {
  there = record { first = is.there.first; second = is.there.second; apart = is.there.apart; buses = differ };
  least = λ b two. is.least b record { first = two.first; second = two.second; apart = two.apart };
}

-- ---- one claim and those before it

module _ (among : Among) (claims : List Claimed) (i : ℕ) where
  abbrev meets_with : (k a : ℕ) → Type 0
  meets_with k a = Meet among (claim_at claims k) (claim_at claims i) a

  meets_of : (a first second : ℕ) → second ≡ i → AreMeeting among claims a first second → meets_with first a
  meets_of a first second at meeting = subst (λ n. Meet among (claim_at claims first) (claim_at claims n) a) at meeting.meet

  pub none_before : IsFoundBelow among 0 claims i None
  none_before = λ a first less. absurd (let no : ⊥ = omega (arith, less) in no)

  module _ (k : ℕ) (before : k < i) (within : i < length claims) where
    pub still_found : (found : Option Share) → ((a : ℕ) → meets_with k a → ⊥) → IsFoundBelow among k claims i found → IsFoundBelow among (k + 1) claims i found
    still_found None none was = λ a first less meeting. elim (cases_eq first k) [
      | inl same ↦ none a (subst (λ n. meets_with n a) same meeting.meet)
      | inr differ ↦ was a first (omega (arith, less, differ)) meeting
    ]
    still_found (Some s) none (at, is) = (
      at,
      record {
        below = let low = is.below in omega (arith, low);
        there = is.there;
        least = λ a first less meeting. elim (cases_eq first k) [
          | inl same ↦ absurd (none a (subst (λ n. meets_with n a) same (meets_of a first s.second at meeting)))
          | inr differ ↦ is.least a first (omega (arith, less, differ)) meeting
        ];
      },
    )

    module _ (a : ℕ) (least : IsLeastOfTwo among (claim_at claims k) (claim_at claims i) a) where
      abbrev this : Share
      this = record { address = a; first = k; second = i }

      no_less : (b first : ℕ) → first ≡ k → AreMeeting among claims b first i → (a < b) ⊎ ((a ≡ b) × (k ≤ first))
      no_less b first same meeting =
          let le : a ≤ b = least.least b (subst (λ n. meets_with n b) same meeting.meet) in
          elim (cases_eq a b) [ inl e ↦ inr (e, omega (arith, same)) | inr differ ↦ inl (omega (arith, le, differ)) ]

      meeting_here : AreMeeting among claims a k i
      meeting_here = record { within = within; before = before; meet = least.there }

      first_found : IsFoundBelow among k claims i None → IsFoundBelow among (k + 1) claims i (Some this)
      first_found was = (
        refl,
        record {
          below = omega arith;
          there = meeting_here;
          least = λ b first less meeting. elim (cases_eq first k) [
            | inl same ↦ no_less b first same meeting
            | inr differ ↦ absurd (was b first (omega (arith, less, differ)) meeting)
          ];
        },
      )

      -- what was found before has no greater address
      old_found : (s : Share) → s.address ≤ a → IsFoundBelow among k claims i (Some s) → IsFoundBelow among (k + 1) claims i (Some s)
      old_found s le (at, is) = (
        at,
        record {
          below = let low = is.below in omega (arith, low);
          there = is.there;
          least = λ b first less meeting. elim (cases_eq first k) [
            | inr differ ↦ is.least b first (omega (arith, less, differ)) meeting
            | inl same ↦
                let low : a ≤ b = least.least b (subst (λ n. meets_with n b) same (meets_of b first s.second at meeting)) in
                let before_it = is.below in
                elim (cases_eq s.address b) [ inl e ↦ inr (e, omega (arith, same, before_it)) | inr other ↦ inl (omega (arith, le, low, other)) ]
          ];
        },
      )

      new_found : (s : Share) → a < s.address → IsFoundBelow among k claims i (Some s) → IsFoundBelow among (k + 1) claims i (Some this)
      new_found s low (at, is) = (
        refl,
        record {
          below = omega arith;
          there = meeting_here;
          least = λ b first less meeting. elim (cases_eq first k) [
            | inl same ↦ no_less b first same meeting
            | inr differ ↦ elim (is.least b first (omega (arith, less, differ)) (subst (λ n. AreMeeting among claims b first n) (sym at) meeting)) [
              | inl more ↦ inl (omega (arith, low, more))
              | inr (e, _) ↦ inl (omega (arith, low, e))
            ]
          ];
        },
      )

      chosen : (s : Share) (b : Bool) → nat_le s.address a ≡ b → IsFoundBelow among k claims i (Some s) → IsFoundBelow among (k + 1) claims i (Some (if b then s else this))
      chosen s true e was = old_found s (leb-true s.address a e) was
      chosen s false e was = new_found s (leb-false s.address a e) was

      pub found_more : (found : Option Share) → IsFoundBelow among k claims i found → IsFoundBelow among (k + 1) claims i (Some (lesser found this))
      found_more None was = first_found was
      found_more (Some s) was = chosen s (nat_le s.address a) refl was

-- ---- the list of what was found

-- of one claim there is one
one_meeting : (among : Among) (claims : List Claimed) (s t : Share) → s.second ≡ t.second → IsLeastBelow among s.second claims s → IsLeastBelow among t.second claims t → s ≡ t
one_meeting among claims s t same of_s of_t =
    let low_s = of_s.below in
    let low_t = of_t.below in
    let one = of_s.least t.address t.first (omega (arith, low_t, same)) (subst (λ n. AreMeeting among claims t.address t.first n) (sym same) of_t.there) in
    let other = of_t.least s.address s.first (omega (arith, low_s, same)) (subst (λ n. AreMeeting among claims s.address s.first n) same of_s.there) in
    let both = both_least s.address t.address s.first t.first one other in
    same_share s t both.0 both.1 same

pub no_meetings : (among : Among) (claims : List Claimed) → AreMeetingsBelow among 0 claims []
no_meetings among claims = record {
  each = λ s (k, less, is). absurd (let none : ⊥ = omega (arith, less) in none);
  complete = λ s less. absurd (let none : ⊥ = omega (arith, less) in none);
  rising = λ j k d up less. absurd (let none : ⊥ = omega (arith, less) in none);
}

module _ (among : Among) (i : ℕ) (claims : List Claimed) (shares : List Share) (below : AreMeetingsBelow among i claims shares) where
  pub meeting_none : IsFoundBelow among i claims i None → AreMeetingsBelow among (i + 1) claims shares
  meeting_none none = record {
    each = λ s has. (let was = below.each s has in let low = was.0 in (omega (arith, low), was.1));
    complete = λ s less is. elim (cases_eq s.second i) [
      | inl same ↦ (let low = is.below in absurd (none s.address s.first (omega (arith, low, same)) (subst (λ n. AreMeeting among claims s.address s.first n) same is.there)))
      | inr differ ↦ below.complete s (omega (arith, less, differ)) is
    ];
    rising = below.rising;
  }

  pub meeting_more : (s : Share) → IsFoundBelow among i claims i (Some s) → AreMeetingsBelow among (i + 1) claims (shares ++ s ∷ [])
  meeting_more s (at, found) =
      let is : IsLeastBelow among s.second claims s = subst (λ n. IsLeastBelow among n claims s) (sym at) found in record {
        each = λ t has. elim (Contains-push_cases shares s t has) [
          | inl old ↦ (let was = below.each t old in let low = was.0 in (omega (arith, low), was.1))
          | inr same ↦ subst (λ (x : Share). (x.second < i + 1) × IsLeastBelow among x.second claims x) same (omega (arith, at), is)
        ];
        complete = λ t less has. elim (cases_eq t.second i) [
          | inl same ↦ subst (λ (x : Share). Contains (shares ++ s ∷ []) x) (one_meeting among claims s t (omega (arith, at, same)) is has) (Contains-push shares s)
          | inr differ ↦ Contains-append_left shares (s ∷ []) t (below.complete t (omega (arith, less, differ)) has)
        ];
        rising = all_pairs_push (λ x y. x.second < y.second) shares s below.rising
            (λ k d within. let low = (below.each (get_or shares k d) (Contains-get_or shares k d within)).0 in omega (arith, low, at));
      }
