-- The lines behind a fault are one text.
use Rattle.std.proofs.Common.{◌≡◌, ℕ, List, [], ◌++◌, refl, sym, ◌∙◌, ap, subst, arith, Bool, true, false, codes, Option, None, Some}
use Rattle.std.specs.Prelude.{IsTrue, MatchOption, MatchBool}
use Rattle.std.specs.List.{Contains, flat_map}
use Rattle.pci_spec.specs.Slot.{Slot, slot_number}
use Rattle.pci_spec.specs.System.{System, Function, Space, Part, IsSystem, Claims, has_part, is_prefetchable_part}
use Rattle.pci_spec.specs.System as system
use Rattle.pci_spec.specs.Bus.{IsNested}
use Rattle.pci_spec.specs.Fault.{Unreached, Clash, Split, RegionName, TwoRegions, named_region, named_regions}
use Rattle.pci_spec.specs.Fault as faults
use Rattle.pci_spec.specs.Decoded.{Range}
use Rattle.pci_spec.specs.Mark.{AssumedRegister, is_size_assumed}
use Rattle.pci_spec.specs.Why.{AreRuns, range_line, fits_line, unknown_line, is_wide_part}
use Rattle.pci_spec.specs.Why as plain
use Rattle.pci_spec.proofs.Nesting.{one_function}
use Rattle.pci_spec.proofs.Regions.{part_same}
use Rattle.pci_spec.proofs.Ways.{one_way}
use Rattle.judge_spec.specs.Given.{Given, HostRange, nothing_given}
use Rattle.judge_spec.specs.Fault.{Known, Outside}
use Rattle.judge_spec.specs.DeterminedLaws.{WhyIsDetermined, KnownWhyIsDetermined, PlainWhyIsDetermined}
use Rattle.judge_spec.specs.ToldClaims.{Told, nothing_told, IsRangeAt}
use Rattle.judge_spec.specs.ToldRegion.{ToldRegion, told_name, IsToldIn}
use Rattle.judge_spec.specs.Why.{AnyRegion, Own, Legacy, Palette, OfLine, space_of, is_prefetchable, bus_of, to_move, Holds, IsRegionIn, IsNamed, region_line, ranges_for, host_line, bridge_line, Misses, IsBehindOutside, IsBehindUnreached, IsBehindTwo, AreNamedTwo, IsKnownEvidence, IsPlaceFor, IsLeastPlace, IsFit, is_said, IsFitBehind, IsAdviceFor, IsKnownAdvice, IsWhy}
use Rattle.judge_spec.proofs.Nothing.{not_at_command, not_at_control}
use Rattle.judge_spec.proofs.Reasons.{same_why, low_register}
use Rattle.judge_spec.proofs.ToldNames.{one_range}
use Rattle.judge_spec.proofs.OneList.{range_from, same_range, same_runs}

abbrev said_or_none : Option (List HostRange) → List HostRange
said_or_none None = []
said_or_none (Some ranges) = ranges

module _ (s : System) (is_system : IsSystem s) where
  at_slot : (f g : Function) (slot : Slot) → Contains s f → Contains s g → f.slot ≡ slot → g.slot ≡ slot → f ≡ g
  at_slot f g slot in_f in_g at other = one_function s is_system f g in_f in_g (ap slot_number (at ∙ sym other))

  -- ---- regions

  -- a region claims its first address
  first_claimed : (q : plain.Region) (is : plain.IsRegionIn s q) → Claims is.f q.part q.space q.range.first
  first_claimed q is = (is.claims q.range.first).0 (omega arith, is.some)

  moved : (f g : Function) (p q : Part) (sp sq : Space) (a : ℕ) → f ≡ g → p ≡ q → sp ≡ sq → Claims f p sp a → Claims g q sq a
  moved f g p q sp sq a of part space claims =
      subst (λ (x : Space). Claims g q x a) space (subst (λ (x : Part). Claims g x sp a) part (subst (λ (x : Function). Claims x p sp a) of claims))

  same_parts : (f g : Function) (p q : Part) → f ≡ g → IsTrue (has_part f p) → IsTrue (has_part g q) → system.register_of f p ≡ system.register_of g q → p ≡ q
  same_parts f g p q same there_p there_q registers =
      part_same g p q (subst (λ (x : Function). IsTrue (has_part x p)) same there_p) there_q (ap (λ (x : Function). system.register_of x p) (sym same) ∙ registers)

  region_from : (p q : plain.Region) → p.slot ≡ q.slot → p.register ≡ q.register → p.part ≡ q.part → p.space ≡ q.space → p.prefetchable ≡ q.prefetchable → p.range ≡ q.range → p ≡ q
  region_from p q slot register part space prefetchable range = λ i. record {
    slot = slot i;
    register = register i;
    part = part i;
    space = space i;
    prefetchable = prefetchable i;
    range = range i;
  }

  -- a slot, a register and a space name one region
  pub same_own : (p q : plain.Region) → plain.IsRegionIn s p → plain.IsRegionIn s q → p.slot ≡ q.slot → p.register ≡ q.register → p.space ≡ q.space → p ≡ q
  same_own p q is other slot register space =
      let of : is.f ≡ other.f = at_slot is.f other.f q.slot is.listed other.listed (is.slot ∙ slot) other.slot in
      let part : p.part ≡ q.part = same_parts is.f other.f p.part q.part of (first_claimed p is).there (first_claimed q other).there (is.register ∙ register ∙ sym other.register) in
      let prefetchable : p.prefetchable ≡ q.prefetchable =
      sym is.prefetchable ∙ ap (λ (f : Function). is_prefetchable_part f p.part) of ∙ ap (λ part. is_prefetchable_part other.f part) part ∙ other.prefetchable in
      let range : p.range ≡ q.range = same_range p.range q.range is.some other.some
      (λ a held. (other.claims a).1 (moved is.f other.f p.part q.part p.space q.space a of part space ((is.claims a).0 held)))
      (λ a held. (is.claims a).1 (moved other.f is.f q.part p.part q.space p.space a (sym of) (sym part) (sym space) ((other.claims a).0 held))) in
      region_from p q slot register part space prefetchable range

  named_own : (p q : plain.Region) (slot : Slot) (register : ℕ) (space : Space) → plain.IsNamed p slot register space → plain.IsNamed q slot register space
      → plain.IsRegionIn s p → plain.IsRegionIn s q → p ≡ q
  named_own p q slot register space named other is also =
      same_own p q is also (named.0 ∙ sym other.0) (named.1 ∙ sym other.1) (named.2 ∙ sym other.2)

  -- no region of address registers is named as a legacy part
  own_not_legacy : (q : plain.Region) (register : ℕ) → plain.IsRegionIn s q → q.register ≡ register → 0x3e ≡ register → ⊥
  own_not_legacy q register is at control = not_at_control is.f q.part (is.register ∙ at ∙ sym control)

  -- nor as a palette part
  own_not_palette : (q : plain.Region) (register : ℕ) → plain.IsRegionIn s q → q.register ≡ register → 0x04 ≡ register → ⊥
  own_not_palette q register is at command = not_at_command is.f q.part (is.register ∙ at ∙ sym command)

  -- ---- told ranges

  -- a register names one range
  same_told : (told : Told) (x y : ToldRegion) (slot : Slot) → IsToldIn told s x → IsToldIn told s y → x.told.slot ≡ slot → y.told.slot ≡ slot → x.register ≡ y.register → x ≡ y
  same_told told x y slot is also at other register =
      let here : IsRangeAt told (told_name y) x.told = record { index = is.named.index; at = is.named.at; slot = at ∙ sym other; register = is.named.register ∙ register } in
      let range : x.told ≡ y.told = one_range told (told_name y) x.told y.told here also.named in
      λ i. record { register = register i; told = range i }

  -- no region of address registers is named as a told range, and neither a legacy part nor a palette part is
  own_not_told : (told : Told) (q : plain.Region) (x : ToldRegion) → plain.IsRegionIn s q → IsToldIn told s x → q.register ≡ x.register → ⊥
  own_not_told told q x is also same = let low = low_register s q is in let line = also.named.register in omega (arith, low, line, same)

  control_not_told : (told : Told) (x : ToldRegion) → IsToldIn told s x → 0x3e ≡ x.register → ⊥
  control_not_told told x is control = let line = is.named.register in omega (arith, line, control)

  command_not_told : (told : Told) (x : ToldRegion) → IsToldIn told s x → 0x04 ≡ x.register → ⊥
  command_not_told told x is command = let line = is.named.register in omega (arith, line, command)

  control_not_command : (register : ℕ) → 0x3e ≡ register → 0x04 ≡ register → ⊥
  control_not_command register control command = omega (arith, control, command)

  module _ (told : Told) (given : Given) where
    named_one : (p q : AnyRegion) (slot : Slot) (register : ℕ) (space : Space) → IsNamed p slot register space → IsNamed q slot register space
        → IsRegionIn told given s p → IsRegionIn told given s q → p ≡ q
    named_one (Own p) (Own q) slot register space named other is also = ap Own (named_own p q slot register space named other is also)
    named_one (Own p) (Legacy c sp) slot register space named other is also = absurd (own_not_legacy p register is named.1 other.1)
    named_one (Own p) (Palette c) slot register space named other is also = absurd (own_not_palette p register is named.1 other.1)
    named_one (Own p) (OfLine y) slot register space named other is also = absurd (own_not_told told p y is also (named.1 ∙ sym other.1))
    named_one (Legacy b sp) (Own q) slot register space named other is also = absurd (own_not_legacy q register also other.1 named.1)
    named_one (Legacy b sp) (Legacy c sq) slot register space named other is also =
        ap (λ (f : Function). Legacy f sp) (at_slot b c slot is.0 also.0 named.0 other.0) ∙ ap (λ sp. Legacy c sp) (named.2 ∙ sym other.2)
    named_one (Legacy b sp) (Palette c) slot register space named other is also = absurd (control_not_command register named.1 other.1)
    named_one (Legacy b sp) (OfLine y) slot register space named other is also = absurd (control_not_told told y also (named.1 ∙ sym other.1))
    named_one (Palette b) (Own q) slot register space named other is also = absurd (own_not_palette q register also other.1 named.1)
    named_one (Palette b) (Legacy c sq) slot register space named other is also = absurd (control_not_command register other.1 named.1)
    named_one (Palette b) (Palette c) slot register space named other is also = ap Palette (at_slot b c slot is.0 also.0 named.0 other.0)
    named_one (Palette b) (OfLine y) slot register space named other is also = absurd (command_not_told told y also (named.1 ∙ sym other.1))
    named_one (OfLine x) (Own q) slot register space named other is also = absurd (own_not_told told q x also is (other.1 ∙ sym named.1))
    named_one (OfLine x) (Legacy c sq) slot register space named other is also = absurd (control_not_told told x is (other.1 ∙ sym named.1))
    named_one (OfLine x) (Palette c) slot register space named other is also = absurd (command_not_told told x is (other.1 ∙ sym named.1))
    named_one (OfLine x) (OfLine y) slot register space named other is also = ap OfLine (same_told told x y slot is also named.0 other.0 (named.1 ∙ sym other.1))

    -- ---- what tells that a fault is there

    abbrev unreached_lines : AnyRegion → Function → List Range → List ℕ
    unreached_lines q b missed =
        region_line given (codes "needs") q ++ (bridge_line given b (space_of q) (is_prefetchable q) ++ flat_map (range_line (codes "missed") (space_of q)) missed)

    one_unreached : (q : AnyRegion) (bridge : Slot) (lines others : List ℕ) → IsBehindUnreached told given s q bridge lines → IsBehindUnreached told given s q bridge others → lines ≡ others
    one_unreached q bridge lines others h k =
        let of : h.b ≡ k.b = at_slot h.b k.b bridge h.listed k.listed h.named k.named in
        let missed : h.missed ≡ k.missed = same_runs (Misses given q k.b) h.missed k.missed (subst (λ (b : Function). AreRuns (Misses given q b) h.missed) of h.runs) k.runs in
        h.text ∙ ap (λ (b : Function). unreached_lines q b h.missed) of ∙ ap (λ (rs : List Range). unreached_lines q k.b rs) missed ∙ sym k.text

    abbrev two_lines : Space → AnyRegion → AnyRegion → List Range → List ℕ
    two_lines space p q shared =
        region_line given (codes "first") p ++ (region_line given (codes "second") q ++ flat_map (range_line (codes "shared") space) shared)

    one_two : (space : Space) (p q : AnyRegion) (lines others : List ℕ) → IsBehindTwo told given s space p q lines → IsBehindTwo told given s space p q others → lines ≡ others
    one_two space p q lines others h k =
        h.text ∙ ap (λ (rs : List Range). two_lines space p q rs) (same_runs (λ a. Holds given p a × Holds given q a) h.shared k.shared h.runs k.runs) ∙ sym k.text

    one_named_two : (space : Space) (two : TwoRegions) (lines others : List ℕ) → AreNamedTwo told given s space two lines → AreNamedTwo told given s space two others → lines ≡ others
    one_named_two space two lines others (p, q, np, nq, h) (v, w, nv, nw, k) =
        let first : v ≡ p = named_one v p two.first.slot two.first.register space nv np k.first h.first in
        let second : w ≡ q = named_one w q two.second.slot two.second.register space nw nq k.second h.second in
        one_two space p q lines others h
        (subst (λ (x : AnyRegion). IsBehindTwo told given s space p x others) second (subst (λ (x : AnyRegion). IsBehindTwo told given s space x w others) first k))

    one_known_evidence : (fault : faults.Fault) (lines others : List ℕ) → IsKnownEvidence told given s fault lines → IsKnownEvidence told given s fault others → lines ≡ others
    one_known_evidence fault lines others = elim fault as (λ fault. IsKnownEvidence told given s fault lines → IsKnownEvidence told given s fault others → lines ≡ others) [
      | Unreached slot register space a bridge ↦ λ h k.
          let same : k.0 ≡ h.0 = named_one k.0 h.0 slot register space k.1 h.1 k.2.is h.2.is in
          one_unreached h.0 bridge lines others h.2 (subst (λ (q : AnyRegion). IsBehindUnreached told given s q bridge others) same k.2)
      | Clash bus space a first fr second sr ↦ one_named_two space (named_regions first fr second sr) lines others
      | Split space a first fr second sr ↦ one_named_two space (named_regions first fr second sr) lines others
      | _ ↦ λ h k. h ∙ sym k
    ]

    module _ (roots : List ℕ) where
      abbrev outside_lines : AnyRegion → ℕ → List HostRange → List ℕ
      outside_lines q root ranges = region_line given (codes "needs") q ++ host_line (space_of q) (ranges_for root ranges)

      one_outside : IsNested roots s → (q : AnyRegion) (lines others : List ℕ) → IsBehindOutside told given roots s q lines → IsBehindOutside told given roots s q others → lines ≡ others
      one_outside nested q lines others h k =
          let root : h.root ≡ k.root = (one_way roots s nested (one_function s is_system) h.root k.root h.bridges k.bridges (bus_of q) h.is_root k.is_root h.leads k.leads).0 in
          let ranges : h.ranges ≡ k.ranges = ap said_or_none (sym h.said ∙ k.said) in
          h.text ∙ ap (λ root. outside_lines q root h.ranges) root ∙ ap (λ (rs : List HostRange). outside_lines q k.root rs) ranges ∙ sym k.text

      -- ---- where a region would fit

      one_place : (q : plain.Region) (wide : Bool) (o p : Option Range)
          → MatchOption o ((first : ℕ) → IsPlaceFor told given roots s q wide first → ⊥) (λ r. IsLeastPlace told given roots s q wide r)
          → MatchOption p ((first : ℕ) → IsPlaceFor told given roots s q wide first → ⊥) (λ r. IsLeastPlace told given roots s q wide r) → o ≡ p
      one_place q wide None None h k = refl
      one_place q wide None (Some t) h k = absurd (h t.first k.is)
      one_place q wide (Some r) None h k = absurd (k r.first h.is)
      one_place q wide (Some r) (Some t) h k =
          let low = h.least t.first k.is in
          let high = k.least r.first h.is in
          let size = h.size in
          let other = k.size in
          ap (λ (x : Range). Some x) (range_from r t (let e : r.first ≡ t.first = omega (arith, low, high) in e) (let e : r.last ≡ t.last = omega (arith, low, high, size, other) in e))

      one_fit : (q : plain.Region) (lines others : List ℕ) → IsFit told given roots s q lines → IsFit told given roots s q others → lines ≡ others
      one_fit q lines others h k =
          let of : h.f ≡ k.f = at_slot h.f k.f q.slot h.listed k.listed h.slot k.slot in
          let exact = subst (λ (f : Function). MatchOption h.place ((first : ℕ) → IsPlaceFor told given roots s q (is_wide_part f q.part) first → ⊥) (λ r. IsLeastPlace told given roots s q (is_wide_part f q.part) r)) of h.exact in
          h.text ∙ ap (λ o. fits_line q.space o) (one_place q (is_wide_part k.f q.part) h.place k.place exact k.exact) ∙ sym k.text

      one_of_match : (b : Bool) (X Y V W Z : Type 0) → (X → V → Z) → (Y → W → Z) → MatchBool b X Y → MatchBool b V W → Z
      one_of_match true X Y V W Z on off h k = on h k
      one_of_match false X Y V W Z on off h k = off h k

      module _ (assumed : List AssumedRegister) where
        one_fit_behind : (q : AnyRegion) (lines others : List ℕ) → IsFitBehind assumed told given roots s q lines → IsFitBehind assumed told given roots s q others → lines ≡ others
        one_fit_behind (Legacy b space) lines others h k = h ∙ sym k
        one_fit_behind (Palette b) lines others h k = h ∙ sym k
        one_fit_behind (OfLine x) lines others h k = h ∙ sym k
        one_fit_behind (Own q) lines others h k =
            one_of_match _ (lines ≡ []) _ (others ≡ []) _ (lines ≡ others) (λ x y. x ∙ sym y)
            (one_of_match (is_size_assumed assumed q.slot q.register) (lines ≡ unknown_line) (IsFit told given roots s q lines) (others ≡ unknown_line) (IsFit told given roots s q others) (lines ≡ others)
            (λ x y. x ∙ sym y) (one_fit q lines others))
            h k

        one_advice_for : (region : RegionName) (space : Space) (lines others : List ℕ) → IsAdviceFor assumed told given roots s region space lines → IsAdviceFor assumed told given roots s region space others → lines ≡ others
        one_advice_for region space lines others (q, named, is, fit) (w, other, also, fits) =
            let same : w ≡ q = named_one w q region.slot region.register space other named also is in
            one_fit_behind q lines others fit (subst (λ (x : AnyRegion). IsFitBehind assumed told given roots s x others) same fits)

        one_known_advice : (fault : faults.Fault) (lines others : List ℕ) → IsKnownAdvice assumed told given roots s fault lines → IsKnownAdvice assumed told given roots s fault others → lines ≡ others
        one_known_advice fault lines others = elim fault as (λ fault. IsKnownAdvice assumed told given roots s fault lines → IsKnownAdvice assumed told given roots s fault others → lines ≡ others) [
          | Unreached slot register space a bridge ↦ one_advice_for (named_region slot register) space lines others
          | Clash bus space a first fr second sr ↦ one_advice_for (to_move (named_regions first fr second sr)) space lines others
          | Split space a first fr second sr ↦
              one_of_match (is_said given space) (IsAdviceFor assumed told given roots s (to_move (named_regions first fr second sr)) space lines) (lines ≡ [])
              (IsAdviceFor assumed told given roots s (to_move (named_regions first fr second sr)) space others) (others ≡ []) (lines ≡ others)
              (one_advice_for (to_move (named_regions first fr second sr)) space lines others) (λ x y. x ∙ sym y)
          | _ ↦ λ h k. h ∙ sym k
        ]

        two_texts : (evidence advice shows fits : List ℕ) → evidence ≡ shows → advice ≡ fits → evidence ++ advice ≡ shows ++ fits
        two_texts evidence advice shows fits e a = ap (λ xs. xs ++ advice) e ∙ ap (λ xs. shows ++ xs) a

        one_known_why : (fault : faults.Fault) (lines others : List ℕ) → IsWhy assumed told given roots s (Known fault) lines → IsWhy assumed told given roots s (Known fault) others → lines ≡ others
        one_known_why fault lines others h k =
            h.text ∙ two_texts h.evidence h.advice k.evidence k.advice (one_known_evidence fault h.evidence k.evidence h.shows k.shows) (one_known_advice fault h.advice k.advice h.fits k.fits) ∙ sym k.text

        one_outside_why : IsNested roots s → (slot : Slot) (register : ℕ) (space : Space) (a : ℕ) (lines others : List ℕ)
            → IsWhy assumed told given roots s (Outside slot register space a) lines → IsWhy assumed told given roots s (Outside slot register space a) others → lines ≡ others
        one_outside_why nested slot register space a lines others h k =
            let same : k.shows.0 ≡ h.shows.0 = named_one k.shows.0 h.shows.0 slot register space k.shows.1 h.shows.1 k.shows.2.is h.shows.2.is in
            let shown : h.evidence ≡ k.evidence = one_outside nested h.shows.0 h.evidence k.evidence h.shows.2 (subst (λ (q : AnyRegion). IsBehindOutside told given roots s q k.evidence) same k.shows.2) in
            h.text ∙ two_texts h.evidence h.advice k.evidence k.advice shown (one_advice_for (named_region slot register) space h.advice k.advice h.fits k.fits) ∙ sym k.text

pub known_why_is_determined : KnownWhyIsDetermined
known_why_is_determined assumed told given roots s fault lines others is_system h k = one_known_why s is_system told given roots assumed fault lines others h k

pub why_is_determined : WhyIsDetermined
why_is_determined assumed told given roots s (Known fault) lines others is_system nested h k = one_known_why s is_system told given roots assumed fault lines others h k
why_is_determined assumed told given roots s (Outside slot register space a) lines others is_system nested h k =
    one_outside_why s is_system told given roots assumed nested slot register space a lines others h k

-- with nothing given and told the lines are those
pub plain_why_is_determined : PlainWhyIsDetermined
plain_why_is_determined assumed roots s fault lines others is_system h k =
    one_known_why s is_system (nothing_told []) nothing_given roots assumed fault lines others ((same_why assumed [] roots s fault lines).1 h) ((same_why assumed [] roots s fault others).1 k)
