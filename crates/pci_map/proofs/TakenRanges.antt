-- What a bridge takes, by its record.
use Rattle.std.proofs.Common.{◌≡◌, ℕ, List, [], Bool, true, false, ◌&&◌, refl, sym, ap, ◌∙◌, subst, arith, map}
use Rattle.std.specs.Prelude.{IsTrue, ◌↔◌, MatchBool}
use Rattle.std.specs.Option.{is_some}
use Rattle.std.specs.List.{list_any}
use Rattle.std.proofs.lemmas.Bool.{and_from, and_parts, both_ways, false≢true}
use Rattle.pci_spec.specs.Slot.{Slot}
use Rattle.pci_spec.specs.System.{Function, Space, Io, Memory, is_space_on}
use Rattle.pci_spec.specs.Decoded.{record_of}
use Rattle.pci_base.specs.declared.range.Range.{Range}
use Rattle.pci_base.specs.Space.{is_on}
use Rattle.pci_function.specs.declared.record.Record.{Record}
use Rattle.pci_function.specs.Values.{record_value}
use Rattle.pci_tree.specs.Ranges.{Holds, Covers}
use Rattle.pci_tree.proofs.Lifting.{same_bridge, same_slot_of}
use Rattle.judge_spec.specs.Given.{Given, takes}
use Rattle.judge_spec.proofs.Snoop.{takes_none}
use Rattle.pci_claims.specs.declared.given.TakingBridge.{TakingBridge}
use Rattle.pci_claims.specs.Gathered.{IsGathered}
use Rattle.pci_claims.specs.Passed.{is_taken_piece_at, AreTakenPieces, takes_of}
use Rattle.pci_claims.specs.Values.{taking_value}
use Rattle.pci_claims.proofs.Gathering.{nil_canonical}
use Rattle.pci_claims.proofs.GapRanges.{covers_nil}
use Rattle.pci_claims.proofs.Linking.{on_record}
use Rattle.pci_map.specs.Addresses.{SpaceRanges, ranges_in, HasUnsent, AreTakenIn, AreTakenBy, AreTakenByBridge}

-- ---- one space

module _ (given : Given) (space : Space) (r : Record) where
  abbrev is_on_bridge : Bool
  is_on_bridge = is_some r.bridge && is_on r.command space

  pub nothing_in : (out : List Range) → out ≡ [] → is_on_bridge ≡ false → AreTakenIn given space r out
  nothing_in out none off = subst (AreTakenIn given space r) (sym none) record {
    canonical = nil_canonical;
    exact = λ a. (
      λ (h : Covers [] a). absurd (covers_nil a h),
      λ (h : IsTrue (takes_of given space a r)). absurd (both_ways is_on_bridge off (and_parts is_on_bridge (list_any (is_taken_piece_at r.slot space a) given.unclaimed) h).0),
    );
  }

  pub taken_is : (entries : List TakingBridge) (taken out : List Range) → given.unclaimed ≡ map taking_value entries → is_on_bridge ≡ true → AreTakenPieces entries r.slot space taken → IsGathered taken out
      → AreTakenIn given space r out
  taken_is entries taken out said on are is = record {
    canonical = is.canonical;
    exact = λ a. (
      λ (h : Covers out a). and_from is_on_bridge (list_any (is_taken_piece_at r.slot space a) given.unclaimed) on
          (subst (λ xs. IsTrue (list_any (is_taken_piece_at r.slot space a) xs)) (sym said) ((are.exact a).0 ((is.exact a).0 h))),
      λ (h : IsTrue (takes_of given space a r)). (is.exact a).1 ((are.exact a).1 (subst (λ xs. IsTrue (list_any (is_taken_piece_at r.slot space a) xs)) said
          (and_parts is_on_bridge (list_any (is_taken_piece_at r.slot space a) given.unclaimed) h).1)),
    );
  }

-- ---- a bridge of a system

takes_same : (given : Given) (space : Space) (a : ℕ) (r : Record) (f : Function) → record_value r ≡ record_of f → takes given space a f ≡ takes_of given space a r
takes_same given space a r f e =
    ap (λ b. b && is_space_on f space && list_any (is_taken_piece_at f.slot space a) given.unclaimed) (sym (same_bridge r f e))
    ∙ ap (λ b. is_some r.bridge && b && list_any (is_taken_piece_at f.slot space a) given.unclaimed) (on_record r f space e)
    ∙ ap (λ (s : Slot). is_some r.bridge && is_on r.command space && list_any (is_taken_piece_at s space a) given.unclaimed) (sym (same_slot_of r f e))

pub none_in : (space : Space) (a : ℕ) (x : SpaceRanges) → x ≡ record { io = []; memory = [] } → Covers (ranges_in space x) a → ⊥
none_in Io a x none h = covers_nil a (subst (λ (y : SpaceRanges). Covers y.io a) none h)
none_in Memory a x none h = covers_nil a (subst (λ (y : SpaceRanges). Covers y.memory a) none h)

module _ (given : Given) (f : Function) (x : SpaceRanges) where
  pub taken_by : (r : Record) → record_value r ≡ record_of f → AreTakenBy given r x → AreTakenByBridge given f x
  taken_by r e are Io a = (λ (h : Covers x.io a). takes_same given Io a r f e ∙ (are.io.exact a).0 h, λ (h : IsTrue (takes given Io a f)). (are.io.exact a).1 (sym (takes_same given Io a r f e) ∙ h))
  taken_by r e are Memory a =
      (λ (h : Covers x.memory a). takes_same given Memory a r f e ∙ (are.memory.exact a).0 h, λ (h : IsTrue (takes given Memory a f)). (are.memory.exact a).1 (sym (takes_same given Memory a r f e) ∙ h))

  pub nothing_taken : given.unclaimed ≡ [] → x ≡ record { io = []; memory = [] } → AreTakenByBridge given f x
  nothing_taken nothing none space a =
      (λ (h : Covers (ranges_in space x) a). absurd (none_in space a x none h), λ (h : IsTrue (takes given space a f)). absurd (false≢true (sym (takes_none given nothing space a f) ∙ h)))

-- ---- one address

pub has_one : (rs : List Range) (a : ℕ) (b : Bool) → MatchBool b ((c : ℕ) → Holds (record { first = a; last = a }) c → Covers rs c) (HasUnsent rs (record { first = a; last = a })) → IsTrue b ↔ Covers rs a
has_one rs a true all = (λ (h : true ≡ true). all a (omega arith, omega arith), λ (h : Covers rs a). refl)
has_one rs a false unsent = (
  λ (h : false ≡ true). absurd (false≢true h),
  λ (h : Covers rs a). (
      let low = unsent.held.0 in
      let high = unsent.held.1 in
      let same : a ≡ unsent.address = omega (arith, low, high) in
      absurd (unsent.unsent (subst (Covers rs) same h))),
)
