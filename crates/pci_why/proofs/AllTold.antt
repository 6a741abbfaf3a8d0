-- All lines behind a fault.
use Rattle.std.proofs.Common.{◌≡◌, ℕ, ◌<◌, List, [], ◌++◌, true, false, ap, subst, ◌∙◌, refl, sym, inl, inr, arith, append-nil}
use Rattle.std.specs.Prelude.{MatchBool, nat_lt, if◌then◌else◌}
use Rattle.std.proofs.lemmas.Bool.{cases_Bool}
use Rattle.std.proofs.lemmas.List.{append_assoc}
use Rattle.pci_spec.specs.Slot.{Slot}
use Rattle.pci_spec.specs.System.{System, Space}
use Rattle.pci_spec.specs.Mark.{AssumedRegister}
use Rattle.pci_spec.specs.Fault.{Unreached, Clash, Split, RegionName, TwoRegions, fault_number, named_region, named_regions}
use Rattle.pci_function.specs.declared.fault.Fault.{Fault as CodeFault}
use Rattle.pci_function.specs.declared.fault.Fault.TheVariants as code
use Rattle.pci_function.specs.Fault.{fault_of}
use Rattle.pci_tree.specs.Outline.{Tree}
use Rattle.pci_tree.specs.Trees.{HasTree}
use Rattle.pci_why.specs.Lines.{Appends}
use Rattle.judge_spec.specs.Given.{Given}
use Rattle.judge_spec.specs.Fault as untold
use Rattle.judge_spec.specs.ToldClaims.{Told}
use Rattle.judge_spec.specs.ToldFault.{Fault, Known, NotListed}
use Rattle.judge_spec.specs.Why.{AnyRegion, IsNamed, IsRegionIn, IsAdviceFor, AreNamedTwo, is_said, to_move}
use Rattle.pci_faults.specs.declared.any_fault.AnyFault.{AnyFault}
use Rattle.pci_faults.specs.declared.any_fault.AnyFault.TheVariants as any
use Rattle.pci_faults.specs.AllLines.{plain_fault}
use Rattle.pci_faults.specs.AllLines as all_lines
use Rattle.pci_why.specs.Hosts.{IsOutsideTold}
use Rattle.pci_why.specs.Bridges.{IsUnreachedTold}
use Rattle.pci_why.specs.Two.{AreTwoTold}
use Rattle.pci_why.specs.Fits.{IsFitTold}
use Rattle.pci_why.specs.Whys.{IsEvidenceTold, IsAdvisedBy, NoneAdvised, IsAdviceTold, IsWhyTold}

-- ---- with what ranges it is there

pub outside_evident : (told : Told) (given : Given) (t : Tree) (slot : Slot) (reg : ℕ) (space : Space) (a : ℕ) (old new : List ℕ) → IsOutsideTold told given t (named_region slot reg) space old new
    → IsEvidenceTold told given t (Known (untold.Outside slot reg space a)) old new
outside_evident told given t slot reg space a old new shows s tree listed there =
    let o = shows s a tree listed there in
    record { lines = o.lines; text = o.text; are = o.are }

pub unreached_evident : (told : Told) (given : Given) (t : Tree) (slot : Slot) (reg : ℕ) (space : Space) (a : ℕ) (bridge : Slot) (old new : List ℕ) → IsUnreachedTold told given t (record { region = named_region slot reg; space = space; bridge = bridge }) old new
    → IsEvidenceTold told given t (Known (untold.Known (Unreached slot reg space a bridge))) old new
unreached_evident told given t slot reg space a bridge old new shows s tree listed there =
    let u = shows s a tree there in
    record { lines = u.lines; text = u.text; are = u.are }

pub clash_evident : (told : Told) (given : Given) (t : Tree) (bus : ℕ) (space : Space) (a : ℕ) (first : Slot) (first_reg : ℕ) (second : Slot) (second_reg : ℕ) (old new : List ℕ)
    → AreTwoTold told given t space (named_regions first first_reg second second_reg) old new → IsEvidenceTold told given t (Known (untold.Known (Clash bus space a first first_reg second second_reg))) old new
clash_evident told given t bus space a first first_reg second second_reg old new shows s tree listed there =
    let two = shows s a bus bus tree there.claims_first there.claims_second in
    record { lines = two.lines; text = two.text; are = two.are }

pub split_evident : (told : Told) (given : Given) (t : Tree) (space : Space) (a : ℕ) (first : Slot) (first_reg : ℕ) (second : Slot) (second_reg : ℕ) (old new : List ℕ)
    → AreTwoTold told given t space (named_regions first first_reg second second_reg) old new → IsEvidenceTold told given t (Known (untold.Known (Split space a first first_reg second second_reg))) old new
split_evident told given t space a first first_reg second second_reg old new shows s tree listed there =
    let two = shows s a first.bus second.bus tree there.claims_first there.claims_second in
    record { lines = two.lines; text = two.text; are = two.are }

-- ---- where a region would fit

-- a region of a system that they name
abbrev IsThere : Told → Given → System → RegionName → Space → Type 0
IsThere told given s region space = (q : AnyRegion) × IsNamed q region.slot region.register space × IsRegionIn told given s q

fit_of : (assumed : List AssumedRegister) (told : Told) (given : Given) (t : Tree) (region : RegionName) (space : Space) (old new : List ℕ) → IsFitTold assumed told given t region space old new → (s : System) → HasTree t s
    → IsThere told given s region space → Appends (IsAdviceFor assumed told given t.roots s region space) old new
fit_of assumed told given t region space old new shows s tree (q, named, is) =
    let f = shows s q tree named is in
    record { lines = f.lines; text = f.text; are = (q, named, is, f.are) }

pub outside_advised : (given : Given) (slot : Slot) (reg : ℕ) (space : Space) (a : ℕ) → IsAdvisedBy given (Known (untold.Outside slot reg space a)) (named_region slot reg) space
outside_advised given slot reg space a assumed told t old new shows s evidence tree (q, named, behind) =
    let f = fit_of assumed told given t (named_region slot reg) space old new shows s tree (q, named, behind.is) in
    record { lines = f.lines; text = f.text; are = f.are }

pub unreached_advised : (given : Given) (slot : Slot) (reg : ℕ) (space : Space) (a : ℕ) (bridge : Slot) → IsAdvisedBy given (Known (untold.Known (Unreached slot reg space a bridge))) (named_region slot reg) space
unreached_advised given slot reg space a bridge assumed told t old new shows s evidence tree (q, named, behind) =
    let f = fit_of assumed told given t (named_region slot reg) space old new shows s tree (q, named, behind.is) in
    record { lines = f.lines; text = f.text; are = f.are }

-- the one of two that could be moved
moved_there : (told : Told) (given : Given) (s : System) (space : Space) (two : TwoRegions) (lines : List ℕ) → AreNamedTwo told given s space two lines → IsThere told given s (to_move two) space
moved_there told given s space two lines (p, q, named_p, named_q, behind) = elim (cases_Bool (nat_lt two.second.register 256)) [
  | inl low ↦ subst (λ b. IsThere told given s (if b then two.second else two.first) space) (sym low) (q, named_q, behind.second)
  | inr high ↦ subst (λ b. IsThere told given s (if b then two.second else two.first) space) (sym high) (p, named_p, behind.first)
]

pub clash_advised : (given : Given) (bus : ℕ) (space : Space) (a : ℕ) (first : Slot) (first_reg : ℕ) (second : Slot) (second_reg : ℕ) (region : RegionName) (sp : Space) → region ≡ to_move (named_regions first first_reg second second_reg) → sp ≡ space
    → IsAdvisedBy given (Known (untold.Known (Clash bus space a first first_reg second second_reg))) region sp
clash_advised given bus space a first first_reg second second_reg region sp is of_space assumed told t old new shows s evidence tree two =
    let f = fit_of assumed told given t (to_move (named_regions first first_reg second second_reg)) space old new
    (subst (λ x. IsFitTold assumed told given t (to_move (named_regions first first_reg second second_reg)) x old new) of_space (subst (λ x. IsFitTold assumed told given t x sp old new) is shows)) s tree
    (moved_there told given s space (named_regions first first_reg second second_reg) evidence two) in
    record { lines = f.lines; text = f.text; are = f.are }

pub split_advised : (given : Given) (space : Space) (a : ℕ) (first : Slot) (first_reg : ℕ) (second : Slot) (second_reg : ℕ) (region : RegionName) (sp : Space) → region ≡ to_move (named_regions first first_reg second second_reg) → sp ≡ space
    → is_said given space ≡ true → IsAdvisedBy given (Known (untold.Known (Split space a first first_reg second second_reg))) region sp
split_advised given space a first first_reg second second_reg region sp is of_space said assumed told t old new shows s evidence tree two =
    let moved : RegionName = to_move (named_regions first first_reg second second_reg) in
    let f = fit_of assumed told given t moved space old new
    (subst (λ x. IsFitTold assumed told given t moved x old new) of_space (subst (λ x. IsFitTold assumed told given t x sp old new) is shows)) s tree
    (moved_there told given s space (named_regions first first_reg second second_reg) evidence two) in
    record {
      lines = f.lines;
      text = f.text;
      are = subst (λ b. MatchBool b (IsAdviceFor assumed told given t.roots s moved space f.lines) (f.lines ≡ [])) (sym said) f.are;
    }

-- where all of the space is sent to each root bus
pub split_without : (given : Given) (space : Space) (a : ℕ) (first : Slot) (first_reg : ℕ) (second : Slot) (second_reg : ℕ) → is_said given space ≡ false
    → NoneAdvised given (Known (untold.Known (Split space a first first_reg second second_reg)))
split_without given space a first first_reg second second_reg none assumed told t old s evidence tree two = record {
  lines = [];
  text = sym (append-nil old);
  are = subst (λ b. MatchBool b (IsAdviceFor assumed told given t.roots s (to_move (named_regions first first_reg second second_reg)) space []) (◌≡◌ {A = List ℕ} [] [])) (sym none) refl;
}

-- ---- faults of earlier phases

early_evident : (told : Told) (given : Given) (t : Tree) (fault : CodeFault) (old : List ℕ) → fault_number (fault_of fault) < 60 → IsEvidenceTold told given t (plain_fault fault) old old
early_evident told given t (code.Unreached slot reg space a bridge) old early = absurd (omega (arith, early))
early_evident told given t (code.Clash bus space a first first_reg second second_reg) old early = absurd (omega (arith, early))
early_evident told given t (code.Split space a first first_reg second second_reg) old early = absurd (omega (arith, early))
early_evident told given t _ old early = λ s tree listed there. record { lines = []; text = sym (append-nil old); are = refl }

pub early_held : (told : Told) (given : Given) (t : Tree) (fault : AnyFault) (x : CodeFault) (old : List ℕ) → fault ≡ any.Early x → all_lines.IsResolved fault → IsEvidenceTold told given t (all_lines.any_fault_value fault) old old
early_held told given t fault x old is resolved =
    subst (λ (f : AnyFault). IsEvidenceTold told given t (all_lines.any_fault_value f) old old) (sym is) (early_evident told given t x old (subst (λ (f : AnyFault). all_lines.IsResolved f) is resolved))

not_listed_evident : (told : Told) (given : Given) (t : Tree) (slot : Slot) (old : List ℕ) → IsEvidenceTold told given t (NotListed slot) old old
not_listed_evident told given t slot old s tree listed there = record { lines = []; text = sym (append-nil old); are = refl }

pub not_listed_held : (told : Told) (given : Given) (t : Tree) (fault : AnyFault) (slot : Slot) (old : List ℕ) → fault ≡ any.NotListed slot → IsEvidenceTold told given t (all_lines.any_fault_value fault) old old
not_listed_held told given t fault slot old is = subst (λ (f : AnyFault). IsEvidenceTold told given t (all_lines.any_fault_value f) old old) (sym is) (not_listed_evident told given t slot old)

-- ---- all lines

pub why_told : (assumed : List AssumedRegister) (told : Told) (given : Given) (t : Tree) (fault : Fault) (old mid new : List ℕ) → IsEvidenceTold told given t fault old mid → IsAdviceTold assumed told given t fault mid new → IsWhyTold assumed told given t fault old new
why_told assumed told given t (Known fault) old mid new evidence advice s tree listed there =
    let e = evidence s tree listed there in
    let a = advice s e.lines tree e.are in
    record {
      lines = e.lines ++ a.lines;
      text = a.text ∙ ap (λ x. x ++ a.lines) e.text ∙ append_assoc old e.lines a.lines;
      are = record { evidence = e.lines; advice = a.lines; shows = e.are; fits = a.are; text = refl };
    }
why_told assumed told given t (NotListed slot) old mid new evidence advice s tree listed there =
    let e = evidence s tree listed there in
    let a = advice s e.lines tree e.are in
    record {
      lines = e.lines ++ a.lines;
      text = a.text ∙ ap (λ x. x ++ a.lines) e.text ∙ append_assoc old e.lines a.lines;
      are = ap (λ x. x ++ a.lines) e.are ∙ a.are;
    }
